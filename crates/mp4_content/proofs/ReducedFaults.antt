-- The fault that names the first track of which what remains is too long, or has an offset that doesn't fit.
use Rattle.std.proofs.Common.{◌≡◌, ℕ, zero, suc, ◌^◌, ◌⊎◌, inl, inr, List, [], ◌∷◌, ◌++◌, length, map, take, refl, sym, subst, ◌∙◌, arith}
use Rattle.std.specs.Prelude.{codes, slice_get, Some, ℤ, pos, negsuc, FitsSigned}
use Rattle.std.specs.Int.{w32}
use Rattle.std.specs.List.{AllByRecursion}
use Rattle.std.proofs.lemmas.Bool.{cases_lt}
use Rattle.mp4_boxes.proofs.Each.{each_from, each_weaker}
use Rattle.mp4_boxes.proofs.Plain.{get_every, some_is}
use Rattle.mp4_boxes.specs.format.BoxFaults.{fault_of}
use Rattle.mp4_boxes.specs.declared.fault.Fault.{Fault}
use Rattle.mp4_boxes.specs.declared.fault.Kind.TheVariants.{OffsetTooLarge, TimeTooLarge}
use Rattle.mp4_head.specs.format.Tree.{TrackTree, first_of}
use Rattle.mp4_present.specs.format.Presentation.{Presentation, Sample, Track, IsInTime, end_time, max_time, track_length}
use Rattle.mp4_present.specs.format.Denotes.{FileTree, file_parts, track_of, presentation_of}
use Rattle.mp4_content.specs.format.Reduced.{HasNearOffsets}
use Rattle.mp4_content.specs.format.Remaining.{RemainsInLimits, movie_divisor, remaining_movie, remaining_track}
use Rattle.mp4_content.specs.declared.without.Without.{Without}
use Rattle.mp4_content.specs.format.ReducedTimes.{FailsLeft, IsFaultLeft, IsLeftInTime, IsLeftNear}
use Rattle.mp4_content.specs.words.LeftTimes.{IsTreeFault, TreeLeftInLimits, TreePassesLimits, scale_left}
use Rattle.mp4_content.specs.format.ReducedLaws.{ReducedFaultRefuses, ReducedFaultIsOne}

-- ---- whether a track is too long, and whether its offsets fit

pub in_time_or : (timescale : ℕ) (t : Track) → IsInTime timescale t ⊎ (IsInTime timescale t → ⊥)
in_time_or timescale t = elim (cases_lt max_time (end_time t)) [
  | inl over ↦ inr (λ h. let le = h.0 in omega (arith, over, le))
  | inr ends ↦ elim (cases_lt max_time (track_length timescale t)) [
    | inl over ↦ inr (λ h. let le = h.1 in omega (arith, over, le))
    | inr short ↦ inl (ends, short)
  ]
]

fits_or : (z : ℤ) → FitsSigned w32 z ⊎ (FitsSigned w32 z → ⊥)
fits_or (pos n) = elim (cases_lt n (2 ^ 31)) [
  | inl h ↦ inl (record { sfits = h })
  | inr over ↦ inr (λ f. let less = f.sfits in omega (arith, over, less))
]
fits_or (negsuc n) = elim (cases_lt n (2 ^ 31)) [
  | inl h ↦ inl (record { sfits = h })
  | inr over ↦ inr (λ f. let less = f.sfits in omega (arith, over, less))
]

near_or : (samples : List Sample) → AllByRecursion (λ (s : Sample). FitsSigned w32 s.offset) samples ⊎ (AllByRecursion (λ (s : Sample). FitsSigned w32 s.offset) samples → ⊥)
near_or [] = inl tt
near_or (s ∷ samples) = elim (fits_or s.offset) [
  | inr far ↦ inr (λ h. far h.0)
  | inl near ↦ elim (near_or samples) [
    | inl rest ↦ inl (near, rest)
    | inr far ↦ inr (λ h. far h.1)
  ]
]

pub near_offsets_or : (t : Track) → HasNearOffsets t ⊎ (HasNearOffsets t → ⊥)
near_offsets_or t = near_or t.samples

-- ---- of one file

module _ (l : Without) (file : List ℕ) (tree : FileTree) where
  abbrev own : TrackTree → Track
  own t = track_of file (file_parts tree) t

  abbrev IsShort : Track → Type 0
  IsShort t = IsInTime (scale_left l file tree) (remaining_track l (movie_divisor l (presentation_of file tree)) t)

  abbrev IsNear : Track → Type 0
  IsNear t = HasNearOffsets (remaining_track l (movie_divisor l (presentation_of file tree)) t)

  fault_fails : (t : TrackTree) (f : Fault) → IsTreeFault l file tree t f → TreeLeftInLimits l file tree t → ⊥
  fault_fails t f (inl long) h = long.0 h.0
  fault_fails t f (inr far) h = far.1 h.1

  here : (P : Track → Type 0) (before after : List TrackTree) (t : TrackTree) → AllByRecursion P (map own (before ++ t ∷ after)) → P (own t)
  here P [] after t h = h.0
  here P (u ∷ before) after t h = here P before after t h.1

  named_here : (P : Track → Type 0) (f : Fault) (q : TreePassesLimits l file tree f) → AllByRecursion P (map own tree.movie.tracks) → P (own q.t)
  named_here P f q h = here P q.before q.after q.t (subst (λ (trees : List TrackTree). AllByRecursion P (map own trees)) q.tracks h)

  -- Where it is named, what is left is not in the limits.
  pub passes_limits : (f : Fault) → TreePassesLimits l file tree f → RemainsInLimits l (presentation_of file tree) → ⊥
  passes_limits f q h = fault_fails q.t f q.named (named_here IsShort f q h.in_time, named_here IsNear f q h.in_range)

-- ---- the laws

module _ (l : Without) (p : Presentation) where
  abbrev Fits : Track → Type 0
  Fits t = IsLeftInTime l p t × IsLeftNear l p t

  fits_all_or : (t : Track) → Fits t ⊎ (Fits t → ⊥)
  fits_all_or t = elim (in_time_or (remaining_movie l (movie_divisor l p) p.movie).timescale (remaining_track l (movie_divisor l p) t)) [
    | inr long ↦ inr (λ h. long h.0)
    | inl short ↦ elim (near_offsets_or (remaining_track l (movie_divisor l p) t)) [
      | inl near ↦ inl (short, near)
      | inr far ↦ inr (λ h. far h.1)
    ]
  ]

  -- what is wrong with a track that doesn't fit, and nothing else
  named_there : (t : Track) (b : TrackTree) → (Fits t → ⊥) → (f : Fault) × IsFaultLeft l p t b f
  named_there t b fails = elim (in_time_or (remaining_movie l (movie_divisor l p) p.movie).timescale (remaining_track l (movie_divisor l p) t)) [
    | inr long ↦ (fault_of TimeTooLarge (first_of (codes "tkhd") b.track), inl (long, refl))
    | inl short ↦ (fault_of OffsetTooLarge (first_of (codes "tkhd") b.track), inr (short, λ near. fails (short, near), refl))
  ]

  named_fails : (t : Track) (b : TrackTree) (f : Fault) → IsFaultLeft l p t b f → Fits t → ⊥
  named_fails t b f (inl long) h = long.0 h.0
  named_fails t b f (inr far) h = far.1 h.1

  named_one : (t : Track) (b : TrackTree) (f g : Fault) → IsFaultLeft l p t b f → IsFaultLeft l p t b g → g ≡ f
  named_one t b f g (inl x) (inl y) = y.1 ∙ sym x.1
  named_one t b f g (inl x) (inr y) = absurd (x.0 y.0)
  named_one t b f g (inr x) (inl y) = absurd (y.0 x.0)
  named_one t b f g (inr x) (inr y) = y.2 ∙ sym x.2

  found_first : (ts : List Track) (bs : List TrackTree) → length bs ≡ length ts → (AllByRecursion Fits ts → ⊥) → (f : Fault) × FailsLeft l p ts bs f
  found_first [] bs e some = absurd (some tt)
  found_first (t ∷ ts) [] e some = absurd (omega (arith, e))
  found_first (t ∷ ts) (b ∷ bs) e some = elim (fits_all_or t) [
    | inl h ↦ (
        let r = found_first ts bs (omega (arith, e)) (λ all. some (h, all)) in
        let x = r.1 in
        (r.0, record { place = suc x.place; t = x.t; its = x.its; is_there = x.is_there; has_boxes = x.has_boxes; before = (h, x.before); named = x.named })
        )
    | inr fails ↦ (
        let n = named_there t b fails in
        (n.0, record { place = 0; t = t; its = b; is_there = refl; has_boxes = refl; before = tt; named = n.1 })
        )
  ]

  -- two first ones are one
  same_first : (ts : List Track) (bs : List TrackTree) (k j : ℕ) (t u : Track) (b c : TrackTree) → slice_get ts k ≡ Some t → slice_get bs k ≡ Some b → slice_get ts j ≡ Some u → slice_get bs j ≡ Some c → AllByRecursion Fits (take k ts) → AllByRecursion Fits (take j ts)
      → (Fits t → ⊥) → (Fits u → ⊥) → (t ≡ u) × (b ≡ c)
  same_first [] bs k j t u b c d e f g x y first second = absurd cc
  same_first (v ∷ ts) [] k j t u b c d e f g x y first second = absurd cc
  same_first (v ∷ ts) (w ∷ bs) zero zero t u b c d e f g x y first second = (sym (some_is v t d) ∙ some_is v u f, sym (some_is w b e) ∙ some_is w c g)
  same_first (v ∷ ts) (w ∷ bs) zero (suc j) t u b c d e f g x y first second = absurd (first (subst Fits (some_is v t d) y.0))
  same_first (v ∷ ts) (w ∷ bs) (suc k) zero t u b c d e f g x y first second = absurd (second (subst Fits (some_is v u f) x.0))
  same_first (v ∷ ts) (w ∷ bs) (suc k) (suc j) t u b c d e f g x y first second = same_first ts bs k j t u b c d e f g x.1 y.1 first second

  first_one : (ts : List Track) (bs : List TrackTree) (f g : Fault) → FailsLeft l p ts bs f → FailsLeft l p ts bs g → g ≡ f
  first_one ts bs f g x y =
      let same = same_first ts bs y.place x.place y.t x.t y.its x.its y.is_there y.has_boxes x.is_there x.has_boxes y.before x.before (named_fails y.t y.its g y.named) (named_fails x.t x.its f x.named) in
      named_one x.t x.its f g x.named (subst (λ (b : TrackTree). IsFaultLeft l p x.t b g) same.1 (subst (λ (t : Track). IsFaultLeft l p t y.its g) same.0 y.named))

  all_fit : RemainsInLimits l p → AllByRecursion Fits p.tracks
  all_fit h = each_from (IsLeftInTime l p) (IsLeftNear l p) Fits (λ t x y. (x, y)) p.tracks h.in_time h.in_range

  all_remain : AllByRecursion Fits p.tracks → RemainsInLimits l p
  all_remain h = record {
    in_time = each_weaker Fits (IsLeftInTime l p) (λ t x. x.0) p.tracks h;
    in_range = each_weaker Fits (IsLeftNear l p) (λ t x. x.1) p.tracks h;
  }

pub refuses : ReducedFaultRefuses
refuses l p boxes f x limits = named_fails l p x.t x.its f x.named (get_every (Fits l p) p.tracks x.place x.t x.is_there (all_fit l p limits))

pub is_one : ReducedFaultIsOne
is_one l p boxes many over =
    let r = found_first l p p.tracks boxes many (λ all. over (all_remain l p all)) in
    (r.0, r.1, λ g y. first_one l p p.tracks boxes r.0 g r.1 y)
