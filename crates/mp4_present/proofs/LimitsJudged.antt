-- The limit that a presentation passes first is that of the definition.
use Rattle.std.proofs.Common.{◌≡◌, ℕ, zero, suc, ◌<◌, ◌≤◌, ◌&&◌, Bool, true, false, List, [], ◌∷◌, Some, None, take, map, slice_get, inl, inr, refl, sym, ap, subst, ◌∙◌, arith}
use Rattle.std.specs.Prelude.{codes, nat_le}
use Rattle.std.specs.List.{AllByRecursion, AllZip}
use Rattle.std.proofs.lemmas.Bool.{and_parts, leb-true, le-leb}
use Rattle.mp4_boxes.specs.format.Box.{Box}
use Rattle.mp4_boxes.specs.format.BoxFaults.{fault_of}
use Rattle.mp4_boxes.specs.format.FirstFault.{first_failed}
use Rattle.mp4_boxes.specs.declared.fault.Fault.{Fault}
use Rattle.mp4_boxes.specs.declared.fault.Kind.{Kind}
use Rattle.mp4_boxes.specs.declared.fault.Kind.TheVariants.{TimeTooLarge, MovieTooLarge}
use Rattle.mp4_boxes.proofs.Refusing.{holds_only}
use Rattle.mp4_boxes.proofs.Sound.{same_kind}
use Rattle.mp4_boxes.proofs.Plain.{head_is, tail_is}
use Rattle.mp4_frag.proofs.FirstRun.{behind_all}
use Rattle.mp4_head.specs.format.Tree.{IsTrackTree, TrackTree, first_of}
use Rattle.mp4_head.specs.declared.heads.MovieHead.{MovieHead}
use Rattle.mp4_head.specs.declared.heads.TrackHead.{TrackHead}
use Rattle.mp4_head.proofs.Inside.{first_is}
use Rattle.mp4_present.specs.format.Denotes.{FileTree}
use Rattle.mp4_present.specs.format.Judge.{times_tests, limit_tests}
use Rattle.mp4_present.specs.format.Presentation.{Track, Presentation, IsInTime, end_time, track_length, normal_moov_length, max_time, max_moov}
use Rattle.mp4_present.specs.words.HeadsRead.{place_of, places_of}
use Rattle.mp4_present.specs.words.Measured.{TimeFails, MovieFails, LimitFails}
use Rattle.mp4_present.specs.words.TrackTrees.{AreTracksOf}
use Rattle.mp4_tables.proofs.InOrder.{fails_first}

-- both are true
both_true : (v w : Bool) → v ≡ true → w ≡ true → (v && w) ≡ true
both_true v w e f = rw (e, f) refl

-- the test of a track's times
abbrev is_in_time : ℕ → Track → Bool
is_in_time timescale t = nat_le (end_time t) max_time && nat_le (track_length timescale t) max_time

-- it passes where the track is in time
in_time : (timescale : ℕ) (t : Track) → IsInTime timescale t → is_in_time timescale t ≡ true
in_time timescale t h = both_true (nat_le (end_time t) max_time) (nat_le (track_length timescale t) max_time) (le-leb (end_time t) max_time h.0) (le-leb (track_length timescale t) max_time h.1)

-- it fails where the track is not
not_in_time : (timescale : ℕ) (t : Track) → (IsInTime timescale t → ⊥) → is_in_time timescale t ≡ false
not_in_time timescale t late = by (is_in_time timescale t) refl
  where
    by : (v : Bool) → is_in_time timescale t ≡ v → is_in_time timescale t ≡ false
    by false e = e
    by true e =
        let both = and_parts (nat_le (end_time t) max_time) (nat_le (track_length timescale t) max_time) e in
        absurd (late (leb-true (end_time t) max_time both.0, leb-true (track_length timescale t) max_time both.1))

-- a fault at the `tkhd` of a track names it
abbrev Named : TrackTree → TrackHead → Type 0
Named u h = (k : Kind) → fault_of k (first_of (codes "tkhd") u.track) ≡ record { kind = k; box_type = codes "tkhd"; offset = h.offset }

-- where it stands at its place
one_named : (u : TrackTree) (h : TrackHead) → IsTrackTree u → h.offset ≡ place_of u → Named u h
one_named u h is at k =
    let first = first_is (codes "tkhd") u.track (holds_only is.track (codes "tkhd") refl) in
    let kind = same_kind (codes "tkhd") (first_of (codes "tkhd") u.track).kind first.1 in
    λ i. record { kind = k; box_type = kind i; offset = sym at i }

-- of all, where they stand at the places of the boxes
pub all_named : (us : List TrackTree) (hs : List TrackHead) → AllByRecursion IsTrackTree us → places_of hs ≡ map place_of us → AllZip Named us hs
all_named [] [] is e = tt
all_named [] (h ∷ hs) is e = absurd cc
all_named (u ∷ us) [] is e = absurd cc
all_named (u ∷ us) (h ∷ hs) is e = (
  one_named u h is.0 (head_is h.offset (place_of u) (places_of hs) (map place_of us) e),
  all_named us hs is.1 (tail_is h.offset (place_of u) (places_of hs) (map place_of us) e),
)

-- of tracks as they are read
pub read_named : (us : List TrackTree) (hs : List TrackHead) → AreTracksOf us hs → AllZip Named us hs
read_named [] [] are = tt
read_named [] (h ∷ hs) are = absurd are
read_named (u ∷ us) [] are = absurd are
read_named (u ∷ us) (h ∷ hs) are = (one_named u h are.0.tree are.0.found.offset, read_named us hs are.1)

module _ (scale : ℕ) where
  -- all are in time
  times_pass : (us : List TrackTree) (ts : List Track) → AllByRecursion (IsInTime scale) ts → first_failed (times_tests scale us ts) ≡ None
  times_pass [] ts h = refl
  times_pass (u ∷ us) [] h = refl
  times_pass (u ∷ us) (t ∷ ts) h = let here = in_time scale t h.0 in rw here (times_pass us ts h.1)

  -- the k-th is not
  times_fail : (us : List TrackTree) (hs : List TrackHead) (ts : List Track) (k : ℕ) (h : TrackHead) (t : Track) → AllZip Named us hs → slice_get hs k ≡ Some h → slice_get ts k ≡ Some t → AllByRecursion (IsInTime scale) (take k ts) → (IsInTime scale t → ⊥)
      → first_failed (times_tests scale us ts) ≡ Some (record { kind = TimeTooLarge; box_type = codes "tkhd"; offset = h.offset })
  times_fail [] [] ts k h t z e f w late = absurd cc
  times_fail [] (x ∷ hs) ts k h t z e f w late = absurd z
  times_fail (u ∷ us) [] ts k h t z e f w late = absurd z
  times_fail (u ∷ us) (x ∷ hs) [] k h t z e f w late = absurd cc
  times_fail (u ∷ us) (x ∷ hs) (y ∷ ts) zero h t z e f w late =
      let same : y ≡ t = cc in
      let head : x ≡ h = cc in
      let here = not_in_time scale y (subst (λ (s : Track). IsInTime scale s → ⊥) (sym same) late) in
      rw here (ap (λ (g : Fault). Some g) (z.0 TimeTooLarge) ∙ (λ i. Some (record { kind = TimeTooLarge; box_type = codes "tkhd"; offset = (head i).offset })))
  times_fail (u ∷ us) (x ∷ hs) (y ∷ ts) (suc k) h t z e f w late = let here = in_time scale y w.0 in rw here (times_fail us hs ts k h t z.1 e f w.1 late)

-- more than so many are not at most so many
not_few : (n m : ℕ) (v : Bool) → nat_le n m ≡ v → m < n → nat_le n m ≡ false
not_few n m false e lt = e
not_few n m true e lt = absurd (let le = leb-true n m e in omega (arith, le, lt))

-- within all limits
pub limits_fine : (tree : FileTree) (q : Presentation) → AllByRecursion (IsInTime q.movie.timescale) q.tracks → normal_moov_length q ≤ max_moov → first_failed (limit_tests tree q) ≡ None
limits_fine tree q times short =
    let few = le-leb (normal_moov_length q) max_moov short in
    behind_all (times_tests q.movie.timescale tree.movie.tracks q.tracks) _ None (times_pass q.movie.timescale tree.movie.tracks q.tracks times) (rw few refl)

module _ (tree : FileTree) (q : Presentation) (head : MovieHead) (named : AllZip Named tree.movie.tracks head.tracks.items) where
  -- the first track that is too long
  time_first : (f : Fault) → TimeFails q head f → first_failed (limit_tests tree q) ≡ Some f
  time_first f x =
      fails_first (times_tests q.movie.timescale tree.movie.tracks q.tracks) _ f
      (times_fail q.movie.timescale tree.movie.tracks head.tracks.items q.tracks x.k x.h x.t named x.head_is x.there x.in_time x.passes ∙ ap (λ (g : Fault). Some g) (sym x.named))

  -- no track is, and the `moov` of the normal form is
  movie_first : (moov : Box) (f : Fault) → tree.movie.moov ≡ moov → MovieFails q moov f → first_failed (limit_tests tree q) ≡ Some f
  movie_first moov f e x =
      let many = not_few (normal_moov_length q) max_moov (nat_le (normal_moov_length q) max_moov) refl x.passes in
      behind_all (times_tests q.movie.timescale tree.movie.tracks q.tracks) _ (Some f) (times_pass q.movie.timescale tree.movie.tracks q.tracks x.in_time)
      (rw many (ap (λ (b : Box). Some (fault_of MovieTooLarge b)) e ∙ ap (λ (g : Fault). Some g) (sym x.named)))

  -- a limit that is passed
  pub limits_first : (moov : Box) (f : Fault) → tree.movie.moov ≡ moov → LimitFails q head moov f → first_failed (limit_tests tree q) ≡ Some f
  limits_first moov f e (inl x) = time_first f x
  limits_first moov f e (inr x) = movie_first moov f e x
