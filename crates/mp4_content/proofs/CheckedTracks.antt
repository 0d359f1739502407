-- The tracks of an opened file, checked one after the other: how long what remains of each is, or why the first that has no normal form has none.
use Rattle.std.proofs.Common.{rules, ◌≡◌, ℕ, drop, length, ◌+◌, ◌*◌, ◌-◌, ◌^◌, ◌<◌, ◌≤◌, max, min, Bool, true, false, if◌then◌else◌, List, [], ◌∷◌, ◌++◌, map, refl, sym, ap, subst, ◌∙◌, arith, ◌⊎◌, inl, inr}
use Rattle.std.specs.Prelude.{◌&&◌, ◌||◌, not, nat_lt, fold, codes, Result, Ok, Err}
use Rattle.std.specs.Int.{div_ceil}
use Rattle.std.specs.List.{AllByRecursion}
use Rattle.std.proofs.lemmas.Bool.{cases_lt}
use Rattle.std.proofs.lemmas.List.{drop_all}
use Rattle.mp4_boxes.specs.format.BoxFaults.{fault_of}
use Rattle.mp4_boxes.specs.format.Bytes.{sum_of}
use Rattle.mp4_boxes.specs.declared.fault.Fault.{Fault}
use Rattle.mp4_boxes.specs.declared.fault.Kind.{Kind}
use Rattle.mp4_boxes.specs.declared.fault.Kind.TheVariants.{OffsetTooLarge, TimeTooLarge}
use Rattle.mp4_boxes.proofs.Refusing.{holds_only}
use Rattle.mp4_boxes.proofs.Sound.{same_kind}
use Rattle.mp4_head.specs.format.Head as heads
use Rattle.mp4_head.specs.format.Tree.{TrackTree, first_of}
use Rattle.mp4_head.specs.words.Seen.{track_seen}
use Rattle.mp4_head.specs.declared.heads.TrackHead.{TrackHead}
use Rattle.mp4_head.proofs.Inside.{first_is}
use Rattle.mp4_present.specs.format.Denotes.{FileTree}
use Rattle.mp4_present.specs.format.Presentation.{Track, max_time, says_all, total_duration, track_length}
use Rattle.mp4_present.specs.words.OpenedMovie.{HoldsTrack}
use Rattle.mp4_content.specs.format.Reduced.{HasNearOffsets, start_left}
use Rattle.mp4_content.specs.format.Timescales.{divided}
use Rattle.mp4_content.specs.declared.without.Without.{Without}
use Rattle.mp4_present.specs.declared.track_info.TrackInfo.{TrackInfo}
use Rattle.mp4_content.specs.words.LeftTimes.{IsTreeFault, TreeLeftInLimits, TreeLeftInRange, TreeLeftInTime, check_on, check_track, check_tracks, is_long, length_by, offset_fault, scale_left, time_fault, track_left}
use Rattle.mp4_content.specs.declared.measures.Total.{Total}

-- ---- one track more

-- behind all that have a head none is checked
pub check_end : (l : Without) (timescale longest k : ℕ) (hs : List TrackHead) (owns : List ℕ) (infos : List TrackInfo) (totals : List Total) → min (min (min (length infos) (length hs)) (length totals)) (length owns) ≤ k
    → check_tracks l timescale longest (drop k hs) (drop k owns) (drop k infos) (drop k totals) ≡ Ok longest
check_end l timescale longest k hs owns infos totals le = by (drop k hs) (drop k owns) (drop k infos) (drop k totals) (drop_all k hs) (drop_all k owns) (drop_all k infos) (drop_all k totals)
  where
    by : (xs : List TrackHead) (ys : List ℕ) (zs : List TrackInfo) (ws : List Total) → (length hs ≤ k → xs ≡ []) → (length owns ≤ k → ys ≡ []) → (length infos ≤ k → zs ≡ []) → (length totals ≤ k → ws ≡ []) → check_tracks l timescale longest xs ys zs ws ≡ Ok longest
    by [] ys zs ws a b c d = refl
    by (x ∷ xs) [] zs ws a b c d = refl
    by (x ∷ xs) (y ∷ ys) [] ws a b c d = refl
    by (x ∷ xs) (y ∷ ys) (z ∷ zs) [] a b c d = refl
    by (x ∷ xs) (y ∷ ys) (z ∷ zs) (w ∷ ws) a b c d = elim (cases_lt k (length hs)) [
      | inr few ↦ absurd (let none : x ∷ xs ≡ [] = a few in cc)
      | inl first ↦ elim (cases_lt k (length owns)) [
        | inr few ↦ absurd (let none : y ∷ ys ≡ [] = b few in cc)
        | inl second ↦ elim (cases_lt k (length infos)) [
          | inr few ↦ absurd (let none : z ∷ zs ≡ [] = c few in cc)
          | inl third ↦ absurd (let none : w ∷ ws ≡ [] = d (omega (arith, le, first, second, third)) in cc)
        ]
      ]
    ]

-- ---- two lengths

long_not : (a b : ℕ) → is_long a b ≡ false → (a ≤ max_time) × (b ≤ max_time)
long_not a b e = by (nat_lt max_time a) (nat_lt max_time b) refl refl e
  where
    by : (v w : Bool) → nat_lt max_time a ≡ v → nat_lt max_time b ≡ w → (v || w) ≡ false → (a ≤ max_time) × (b ≤ max_time)
    by true w x y e = absurd cc
    by false true x y e = absurd cc
    by false false x y e = (search rules, search rules)

long_or : (a b : ℕ) → is_long a b ≡ true → (max_time < a) ⊎ (max_time < b)
long_or a b e = by (nat_lt max_time a) (nat_lt max_time b) refl refl e
  where
    by : (v w : Bool) → nat_lt max_time a ≡ v → nat_lt max_time b ≡ w → (v || w) ≡ true → (max_time < a) ⊎ (max_time < b)
    by true w x y e = inl (search rules)
    by false true x y e = inr (search rules)
    by false false x y e = absurd cc

-- ---- one track

module _ (l : Without) (file : List ℕ) (tree : FileTree) where
  abbrev left : TrackTree → Track
  left t = track_left l file tree t

  abbrev ts : ℕ
  ts = scale_left l file tree

  abbrev lasts : TrackTree → ℕ
  lasts t = total_duration (left t).samples

  -- what is known of a track, of its numbers, and of what remains of it
  pub record IsGood (t : TrackTree) (h : TrackHead) (own : ℕ) (info : TrackInfo) (total : Total) : Type 0 where
    pub edits : (track_seen h).edits ≡ (left t).head.edits
    pub media : (track_seen h).media.timescale ≡ (left t).head.media.timescale
    pub place : h.offset ≡ (first_of (codes "tkhd") t.track).offset
    pub is_tree : HoldsTrack t
    pub timescale : 0 < (left t).head.media.timescale
    pub start : divided own (start_left l info.start) ≡ (left t).start
    pub long : total.duration ≡ min (lasts t) (2 ^ 64 - 1)
    pub near : l.origins ≡ true → total.is_near ≡ true → HasNearOffsets (left t)
    pub far : l.origins ≡ true → total.is_near ≡ false → HasNearOffsets (left t) → ⊥
    pub other : l.origins ≡ false → HasNearOffsets (left t)

  module _ (t : TrackTree) (h : TrackHead) (own : ℕ) (info : TrackInfo) (total : Total) (g : IsGood t h own info total) where
    abbrev end : ℕ
    end = divided own (start_left l info.start) + total.duration

    abbrev len : ℕ
    len = length_by (track_seen h).edits ts (track_seen h).media.timescale total.duration

    end_is : end ≡ (left t).start + min (lasts t) (2 ^ 64 - 1)
    end_is = λ i. g.start i + g.long i

    len_is : lasts t ≤ 2 ^ 64 - 1 → len ≡ track_length ts (left t)
    len_is few =
        let d = g.long in
        let exact : total.duration ≡ lasts t = omega (arith, d, few) in
        let there = g.timescale in
        let same : max (left t).head.media.timescale 1 ≡ (left t).head.media.timescale = omega (arith, there) in
        (λ i. length_by (g.edits i) ts (g.media i) (exact i)) ∙ ap (λ n. if says_all (left t).head.edits then sum_of (λ (e : heads.Edit). e.segment_duration) (left t).head.edits else div_ceil (lasts t * ts) n) same

    in_time : is_long end len ≡ false → TreeLeftInTime l file tree t × (len ≡ track_length ts (left t))
    in_time e =
        let short = long_not end len e in
        let first = short.0 in
        let is = end_is in
        let same = len_is (omega (arith, first, is)) in
        ((omega (arith, first, is), subst (λ n. n ≤ max_time) same short.1), same)

    not_in_time : is_long end len ≡ true → TreeLeftInTime l file tree t → ⊥
    not_in_time e h =
        let ends = h.0 in
        let is = end_is in
        let few : lasts t ≤ 2 ^ 64 - 1 = omega (arith, ends) in
        let same = len_is few in
        let short = h.1 in
        elim (long_or end len e) [
          | inl over ↦ omega (arith, over, is, ends, few)
          | inr over ↦ omega (arith, over, same, short)
        ]

    in_range : (l.origins && not total.is_near) ≡ false → TreeLeftInRange l file tree t
    in_range e = by l.origins total.is_near refl refl e
      where
        by : (o n : Bool) → l.origins ≡ o → total.is_near ≡ n → (o && not n) ≡ false → TreeLeftInRange l file tree t
        by false n x y e = g.other x
        by true true x y e = g.near x y
        by true false x y e = absurd cc

    not_in_range : (l.origins && not total.is_near) ≡ true → TreeLeftInRange l file tree t → ⊥
    not_in_range e = by l.origins total.is_near refl refl e
      where
        by : (o n : Bool) → l.origins ≡ o → total.is_near ≡ n → (o && not n) ≡ true → TreeLeftInRange l file tree t → ⊥
        by false n x y e h = absurd cc
        by true true x y e h = absurd cc
        by true false x y e h = g.far x y h

    named : (kind : Kind) → fault_of kind (first_of (codes "tkhd") t.track) ≡ record { kind = kind; box_type = codes "tkhd"; offset = h.offset }
    named kind =
        let first = first_is (codes "tkhd") t.track (holds_only g.is_tree (codes "tkhd") refl) in
        let same = same_kind (codes "tkhd") (first_of (codes "tkhd") t.track).kind first.1 in
        λ i. record { kind = kind; box_type = same i; offset = sym g.place i }

    pub one_ok : (n : ℕ) → check_track l ts h own info total ≡ Ok n → TreeLeftInLimits l file tree t × (n ≡ track_length ts (left t))
    one_ok n e = by (is_long end len) (l.origins && not total.is_near) refl refl e
      where
        by : (a b : Bool) → is_long end len ≡ a → (l.origins && not total.is_near) ≡ b → (if a then Err (time_fault h.offset) else if b then Err (offset_fault h.offset) else Ok len) ≡ Ok n → TreeLeftInLimits l file tree t × (n ≡ track_length ts (left t))
        by true b x y e = absurd cc
        by false true x y e = absurd cc
        by false false x y e =
            let same : n ≡ len = cc in
            let short = in_time x in
            ((short.0, in_range y), same ∙ short.1)

    pub one_err : (f : Fault) → check_track l ts h own info total ≡ Err f → IsTreeFault l file tree t f
    one_err f e = by (is_long end len) (l.origins && not total.is_near) refl refl e
      where
        by : (a b : Bool) → is_long end len ≡ a → (l.origins && not total.is_near) ≡ b → (if a then Err (time_fault h.offset) else if b then Err (offset_fault h.offset) else Ok len) ≡ Err f → IsTreeFault l file tree t f
        by true b x y e = let same : f ≡ time_fault h.offset = cc in inl (not_in_time x, same ∙ sym (named TimeTooLarge))
        by false true x y e = let same : f ≡ offset_fault h.offset = cc in inr ((in_time x).0, not_in_range y, same ∙ sym (named OffsetTooLarge))
        by false false x y e = absurd cc

  -- ---- all tracks

  abbrev pub AreGood : List TrackTree → List TrackHead → List ℕ → List TrackInfo → List Total → Type 0
  AreGood [] [] [] [] [] = Unit {0}
  AreGood (t ∷ trees) (h ∷ hs) (own ∷ owns) (info ∷ infos) (total ∷ totals) = IsGood t h own info total × AreGood trees hs owns infos totals
  AreGood _ _ _ _ _ = ⊥

  abbrev longest_of : ℕ → List TrackTree → ℕ
  longest_of most trees = fold (λ longest (t : Track). max longest (track_length ts t)) most (map left trees)

  abbrev AreIn : ℕ → ℕ → List TrackTree → Type 0
  AreIn most n trees = AllByRecursion (TreeLeftInLimits l file tree) trees × (n ≡ longest_of most trees)

  more_ok : (most n : ℕ) (t : TrackTree) (h : TrackHead) (own : ℕ) (info : TrackInfo) (total : Total) (trees : List TrackTree) (on : ℕ → Result ℕ Fault) (r : Result ℕ Fault) → IsGood t h own info total → check_track l ts h own info total ≡ r →
      ((len : ℕ) → on len ≡ Ok n → AreIn (max most len) n trees)
      → check_on on r ≡ Ok n → AreIn most n (t ∷ trees)
  more_ok most n t h own info total trees on (Err f) g e rest is = absurd cc
  more_ok most n t h own info total trees on (Ok len) g e rest is =
      let one = one_ok t h own info total g len e in
      let more = rest len is in
      ((one.0, more.0), more.1 ∙ ap (λ k. longest_of (max most k) trees) one.1)

  pub all_ok : (most n : ℕ) (trees : List TrackTree) (hs : List TrackHead) (owns : List ℕ) (infos : List TrackInfo) (totals : List Total) → AreGood trees hs owns infos totals → check_tracks l ts most hs owns infos totals ≡ Ok n → AreIn most n trees
  all_ok most n [] [] [] [] [] g e = (tt, (let same : n ≡ most = cc in same))
  all_ok most n [] [] [] [] (x ∷ totals) g e = absurd g
  all_ok most n [] [] [] (x ∷ infos) totals g e = absurd g
  all_ok most n [] [] (x ∷ owns) infos totals g e = absurd g
  all_ok most n [] (x ∷ hs) owns infos totals g e = absurd g
  all_ok most n (t ∷ trees) [] owns infos totals g e = absurd g
  all_ok most n (t ∷ trees) (h ∷ hs) [] infos totals g e = absurd g
  all_ok most n (t ∷ trees) (h ∷ hs) (own ∷ owns) [] totals g e = absurd g
  all_ok most n (t ∷ trees) (h ∷ hs) (own ∷ owns) (info ∷ infos) [] g e = absurd g
  all_ok most n (t ∷ trees) (h ∷ hs) (own ∷ owns) (info ∷ infos) (total ∷ totals) g e =
      more_ok most n t h own info total trees (λ len. check_tracks l ts (max most len) hs owns infos totals) (check_track l ts h own info total) g.0 refl (λ len is. all_ok (max most len) n trees hs owns infos totals g.1 is) e

  -- the first that has no normal form
  pub record IsPassed (trees : List TrackTree) (f : Fault) : Type 0 where
    pub before : List TrackTree
    pub t : TrackTree
    pub after : List TrackTree
    pub split : trees ≡ before ++ t ∷ after
    pub in_limits : AllByRecursion (TreeLeftInLimits l file tree) before
    pub named : IsTreeFault l file tree t f

  more_err : (f : Fault) (t : TrackTree) (h : TrackHead) (own : ℕ) (info : TrackInfo) (total : Total) (trees : List TrackTree) (on : ℕ → Result ℕ Fault) (r : Result ℕ Fault) → IsGood t h own info total → check_track l ts h own info total ≡ r → ((len : ℕ) → on len ≡ Err f → IsPassed trees f)
      → check_on on r ≡ Err f → IsPassed (t ∷ trees) f
  more_err f t h own info total trees on (Err x) g e rest is =
      let same : x ≡ f = cc in
      record { before = []; t = t; after = trees; split = refl; in_limits = tt; named = one_err t h own info total g f (e ∙ ap (λ (y : Fault). Err y) same) }
  more_err f t h own info total trees on (Ok len) g e rest is =
      let p = rest len is in
      record { before = t ∷ p.before; t = p.t; after = p.after; split = ap (λ (us : List TrackTree). t ∷ us) p.split; in_limits = ((one_ok t h own info total g len e).0, p.in_limits); named = p.named }

  pub all_err : (most : ℕ) (f : Fault) (trees : List TrackTree) (hs : List TrackHead) (owns : List ℕ) (infos : List TrackInfo) (totals : List Total) → AreGood trees hs owns infos totals → check_tracks l ts most hs owns infos totals ≡ Err f → IsPassed trees f
  all_err most f [] [] [] [] [] g e = absurd cc
  all_err most f [] [] [] [] (x ∷ totals) g e = absurd g
  all_err most f [] [] [] (x ∷ infos) totals g e = absurd g
  all_err most f [] [] (x ∷ owns) infos totals g e = absurd g
  all_err most f [] (x ∷ hs) owns infos totals g e = absurd g
  all_err most f (t ∷ trees) [] owns infos totals g e = absurd g
  all_err most f (t ∷ trees) (h ∷ hs) [] infos totals g e = absurd g
  all_err most f (t ∷ trees) (h ∷ hs) (own ∷ owns) [] totals g e = absurd g
  all_err most f (t ∷ trees) (h ∷ hs) (own ∷ owns) (info ∷ infos) [] g e = absurd g
  all_err most f (t ∷ trees) (h ∷ hs) (own ∷ owns) (info ∷ infos) (total ∷ totals) g e =
      more_err f t h own info total trees (λ len. check_tracks l ts (max most len) hs owns infos totals) (check_track l ts h own info total) g.0 refl (λ len is. all_err (max most len) f trees hs owns infos totals g.1 is) e
