-- How long a track is, and the first track that is too long.
use Rattle.std.proofs.Common.{◌≡◌, ℕ, zero, suc, ◌+◌, ◌-◌, ◌^◌, ◌<◌, ◌≤◌, max, min, Bool, List, [], ◌∷◌, ◌++◌, Some, length, take, slice_index_or, slice_get, map, refl, sym, ap, subst, ◌∙◌, arith, inl, inr, length-append}
use Rattle.std.specs.Prelude.{◌==◌, fold, codes}
use Rattle.std.specs.List.{AllByRecursion}
use Rattle.std.proofs.lemmas.List.{take_all}
use Rattle.std.proofs.lemmas.List.Sums.{fold-append}
use Rattle.mp4_boxes.specs.format.Box.{Box}
use Rattle.mp4_boxes.specs.format.BoxFaults.{fault_of}
use Rattle.mp4_boxes.specs.declared.fault.Fault.{Fault}
use Rattle.mp4_boxes.specs.declared.fault.Kind.TheVariants.{TimeTooLarge, MovieTooLarge}
use Rattle.mp4_boxes.proofs.Among.{all_append}
use Rattle.mp4_boxes.proofs.Plain.{max_swap, suc_is}
use Rattle.mp4_frag.specs.declared.state.TrackState.{TrackState}
use Rattle.mp4_head.specs.format.Head as heads
use Rattle.mp4_head.specs.words.Parts.{capped}
use Rattle.mp4_head.specs.words.Seen.{track_seen, movie_seen, tracks_seen}
use Rattle.mp4_head.specs.format.Writing as written
use Rattle.mp4_head.specs.declared.heads.MovieHead.{MovieHead}
use Rattle.mp4_head.specs.declared.heads.TrackHead.{TrackHead}
use Rattle.mp4_present.specs.format.Presentation as presented
use Rattle.mp4_present.specs.format.Presentation.{Presentation, Track, IsInTime, max_moov, movie_length, normal_moov_length}
use Rattle.mp4_present.specs.words.Measured.{IsMeasured, AreMeasured, IsMeasure, LimitFails}

-- ---- edits

-- an edit that does not say how long it is
abbrev pub is_silent : heads.Edit → Bool
is_silent e = e.segment_duration == 0

-- ---- tracks

-- the k-th track with what was read of it
pub record IsThere (tracks : List Track) (k : ℕ) (h : TrackHead) (s : TrackState) : Type 0 where
  pub t : Track
  pub measured : IsMeasured t h s
  pub there : slice_get tracks k ≡ Some t
  pub first : take (suc k) tracks ≡ take k tracks ++ t ∷ []

there_is : (tracks : List Track) (hs : List TrackHead) (ss : List TrackState) (k : ℕ) (h : TrackHead) (s : TrackState) → AreMeasured tracks hs ss → k < length hs → IsThere tracks k (slice_index_or hs k h) (slice_index_or ss k s)
there_is [] [] ss k h s m lt = absurd (omega (arith, lt))
there_is [] (x ∷ hs) ss k h s m lt = absurd m
there_is (t ∷ tracks) [] ss k h s m lt = absurd m
there_is (t ∷ tracks) (x ∷ hs) [] k h s m lt = absurd m
there_is (t ∷ tracks) (x ∷ hs) (y ∷ ss) zero h s m lt = record { t = t; measured = m.0; there = refl; first = refl }
there_is (t ∷ tracks) (x ∷ hs) (y ∷ ss) (suc k) h s m lt =
    let r = there_is tracks hs ss k h s m.1 (omega (arith, lt)) in
    record { t = r.t; measured = r.measured; there = r.there; first = ap (λ (ts : List Track). t ∷ ts) r.first }

as_many : (tracks : List Track) (hs : List TrackHead) (ss : List TrackState) → AreMeasured tracks hs ss → length tracks ≡ length hs
as_many [] [] ss m = refl
as_many [] (x ∷ hs) ss m = absurd m
as_many (t ∷ tracks) [] ss m = absurd m
as_many (t ∷ tracks) (x ∷ hs) [] m = absurd m
as_many (t ∷ tracks) (x ∷ hs) (y ∷ ss) m = ap suc (as_many tracks hs ss m.1)

pub got : {A : Type 0} (xs : List A) (k : ℕ) (d : A) → k < length xs → slice_get xs k ≡ Some (slice_index_or xs k d)
got [] k d lt = absurd (omega (arith, lt))
got (x ∷ xs) zero d lt = refl
got (x ∷ xs) (suc k) d lt = got xs k d (omega (arith, lt))

heads_are : (tracks : List Track) (hs : List TrackHead) (ss : List TrackState) → AreMeasured tracks hs ss → map (λ (t : Track). t.head) tracks ≡ map track_seen hs
heads_are [] [] ss m = refl
heads_are [] (x ∷ hs) ss m = absurd m
heads_are (t ∷ tracks) [] ss m = absurd m
heads_are (t ∷ tracks) (x ∷ hs) [] m = absurd m
heads_are (t ∷ tracks) (x ∷ hs) (y ∷ ss) m = (λ i. m.0.head i ∷ heads_are tracks hs ss m.1 i)

-- the longest of some first tracks
abbrev pub longest_of : ℕ → List Track → ℕ
longest_of timescale tracks = fold (λ longest (t : Track). max longest (presented.track_length timescale t)) 0 tracks

-- some first tracks are in time, and this is the longest of them
pub record AreInTime (p : Presentation) (k longest : ℕ) : Type 0 where
  pub in_time : AllByRecursion (IsInTime p.movie.timescale) (take k p.tracks)
  pub longest_is : longest ≡ longest_of p.movie.timescale (take k p.tracks)

module _ (head : MovieHead) (states : List TrackState) (k longest : ℕ) (so : (p : Presentation) → IsMeasure p head states → AreInTime p k longest) where
  -- one more track is in time
  pub time_more : (h : TrackHead) (s : TrackState) (n : ℕ) → k < length head.tracks.items → h ≡ slice_index_or head.tracks.items k h → s ≡ slice_index_or states k s
      → ((t : Track) → IsMeasured t h s → IsInTime head.timescale t × (n ≡ presented.track_length head.timescale t)) → (p : Presentation) → IsMeasure p head states → AreInTime p (k + 1) (max n longest)
  time_more h s n lt eh es within p m =
      let r = there_is p.tracks head.tracks.items states k h s m.tracks lt in
      let is : IsMeasured r.t h s = subst (λ (x : TrackHead). IsMeasured r.t x s) (sym eh) (subst (λ (y : TrackState). IsMeasured r.t (slice_index_or head.tracks.items k h) y) (sym es) r.measured) in
      let w = subst (λ (x : heads.MovieHead). IsInTime x.timescale r.t × (n ≡ presented.track_length x.timescale r.t)) (sym m.movie) (within r.t is) in
      let a = so p m in
      let len : ℕ → Track → ℕ = λ longest t. max longest (presented.track_length p.movie.timescale t) in
      let long : longest_of p.movie.timescale (take (suc k) p.tracks) ≡ max n longest =
      ap (longest_of p.movie.timescale) r.first ∙ fold-append len 0 (take k p.tracks) (r.t ∷ []) ∙ (λ i. max (sym a.longest_is i) (sym w.1 i)) ∙ max_swap longest n in
      let next : AllByRecursion (IsInTime p.movie.timescale) (take (suc k) p.tracks) =
      subst (λ (ts : List Track). AllByRecursion (IsInTime p.movie.timescale) ts) (sym r.first) (all_append (IsInTime p.movie.timescale) (take k p.tracks) (r.t ∷ []) a.in_time (w.0, tt)) in
      subst (λ (j : ℕ). AreInTime p j (max n longest)) (suc_is k) (record { in_time = next; longest_is = sym long })

  -- all are
  pub time_all : length head.tracks.items ≤ k → (p : Presentation) → IsMeasure p head states → AllByRecursion (IsInTime p.movie.timescale) p.tracks × (longest ≡ movie_length p)
  time_all le p m =
      let n = as_many p.tracks head.tracks.items states m.tracks in
      let all : take k p.tracks ≡ p.tracks = take_all k p.tracks (omega (arith, n, le)) in
      let a = so p m in
      (subst (λ (ts : List Track). AllByRecursion (IsInTime p.movie.timescale) ts) all a.in_time, a.longest_is ∙ ap (longest_of p.movie.timescale) all)

  -- the next one is not
  pub time_refused : (moov : Box) (h : TrackHead) (s : TrackState) (f : Fault) → k < length head.tracks.items → h ≡ slice_index_or head.tracks.items k h → s ≡ slice_index_or states k s
      → ((t : Track) → IsMeasured t h s → IsInTime head.timescale t → ⊥) → f ≡ record { kind = TimeTooLarge; box_type = codes "tkhd"; offset = h.offset } → (p : Presentation) → IsMeasure p head states → LimitFails p head moov f
  time_refused moov h s f lt eh es passes named p m =
      let r = there_is p.tracks head.tracks.items states k h s m.tracks lt in
      let is : IsMeasured r.t h s = subst (λ (x : TrackHead). IsMeasured r.t x s) (sym eh) (subst (λ (y : TrackState). IsMeasured r.t (slice_index_or head.tracks.items k h) y) (sym es) r.measured) in
      inl (record {
        k = k;
        t = r.t;
        there = r.there;
        in_time = (so p m).in_time;
        passes = subst (λ (x : heads.MovieHead). IsInTime x.timescale r.t → ⊥) (sym m.movie) (passes r.t is);
        h = h;
        head_is = got head.tracks.items k h lt ∙ ap (λ (x : TrackHead). Some x) (sym eh);
        named = named;
      })

-- ---- the `moov`

moov_is : (p : Presentation) (head : MovieHead) (states : List TrackState) → IsMeasure p head states → normal_moov_length p ≡ length (written.moov_bytes (movie_seen head) (tracks_seen head) (movie_length p))
moov_is p head states m = λ i. length (written.moov_bytes (m.movie i) (heads_are p.tracks head.tracks.items states m.tracks i) (movie_length p))

both : (movie : heads.MovieHead) (tracks : List heads.TrackHead) (n : ℕ) → length (written.head_bytes movie tracks n) ≡ 24 + length (written.moov_bytes movie tracks n)
both movie tracks n = length-append written.ftyp_bytes (written.moov_bytes movie tracks n)

pub short_enough : (p : Presentation) (head : MovieHead) (states : List TrackState) (total : ℕ) → IsMeasure p head states → ((n : ℕ) → total ≡ capped (length (written.head_bytes (movie_seen head) (tracks_seen head) n)))
    → total ≤ 2 ^ 30 + 24 → normal_moov_length p ≤ max_moov
short_enough p head states total m e le = fits total _ _ _ (e (movie_length p)) (both (movie_seen head) (tracks_seen head) (movie_length p)) (moov_is p head states m) le
  where
    fits : (total whole moov normal : ℕ) → total ≡ min whole (2 ^ 128 - 1) → whole ≡ 24 + moov → normal ≡ moov → total ≤ 2 ^ 30 + 24 → normal ≤ 2 ^ 30
    fits total whole moov normal a b c d = omega arith

pub too_long : (p : Presentation) (head : MovieHead) (states : List TrackState) (moov : Box) (total : ℕ) (f : Fault) → IsMeasure p head states → ((n : ℕ) → total ≡ capped (length (written.head_bytes (movie_seen head) (tracks_seen head) n)))
    → 2 ^ 30 + 24 < total → AllByRecursion (IsInTime p.movie.timescale) p.tracks → f ≡ fault_of MovieTooLarge moov → LimitFails p head moov f
too_long p head states moov total f m e lt times named = inr (record { in_time = times; passes = over total _ _ _ (e (movie_length p)) (both (movie_seen head) (tracks_seen head) (movie_length p)) (moov_is p head states m) lt; named = named })
  where
    over : (total whole moov normal : ℕ) → total ≡ min whole (2 ^ 128 - 1) → whole ≡ 24 + moov → normal ≡ moov → 2 ^ 30 + 24 < total → 2 ^ 30 < normal
    over total whole moov normal a b c d = omega arith
