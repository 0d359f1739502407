-- A walk over the samples of a track, said of the store that it reads. `S` is what a bound says of
-- the store's type.
use Rattle.std.specs.Prelude.{◌≡◌, ℕ, ◌+◌, ◌<◌, ◌≤◌, List, length, Bool, true, false, IsTrue, Some, slice_get, Result, MatchResult, OnOk}
use Rattle.mp4_store.specs.declared.store.Store.{Ghosts as Store}
use Rattle.mp4_tables.specs.declared.sample.SampleAt.{SampleAt}
use Rattle.mp4_frag.specs.words.OwnTrafs.{PlacedTraf}
use Rattle.mp4_head.specs.format.Tree.{TrackTree}
use Rattle.mp4_present.specs.format.Denotes.{FileTree}
use Rattle.mp4_frag.specs.words.OwnTrafs.{traf_steps}
use Rattle.mp4_present.specs.words.GoingBack.{GoesBackTo, HoldsSome, set_back}
use Rattle.mp4_present.specs.words.InHand.{left_in_hand}
use Rattle.mp4_present.specs.words.Movies.{MovieSeen, HasSome, InHandOf, IsRest, IsWalkOf, StandsAt, all_in_traf, mark_of, traf_box, traf_bytes}
use Rattle.mp4_present.specs.words.OpenedMovie.{IsOpenedAs}
use Rattle.mp4_present.specs.words.SamplesComing.{Comes, StandsBefore, Takes}
use Rattle.mp4_present.specs.words.WalkSteps.{MayTake, TakesOn, steps_to, way_through}
use Rattle.mp4_present.specs.declared.walking.in_hand.InHand.{InHand}
use Rattle.mp4_present.specs.declared.track_info.TrackInfo.{TrackInfo}
use Rattle.mp4_present.specs.declared.walking.Due.{Due}
use Rattle.mp4_present.specs.declared.walking.Walk.{Walk}

-- over an honest store that has the file from which the movie was opened: it is so of its track at
-- this place among the tracks
abbrev pub WhereTrack : {X : Type 0} → Store X → X → MovieSeen → ℕ
    → (List ℕ → FileTree → TrackTree → Type 0) → Type 0
WhereTrack S store m track P = IsTrue (S.is_honest store) → (tree : FileTree) (t : TrackTree)
    → IsOpenedAs (S.file store) m tree → slice_get tree.movie.tracks track ≡ Some t
    → P (S.file store) tree t

-- the same wherever the walk stands in that file
abbrev pub WhereStands : {X : Type 0} → Store X → X → MovieSeen → Walk
    → (List ℕ → FileTree → TrackTree → List PlacedTraf → List PlacedTraf → Type 0) → Type 0
WhereStands S store m w P = IsTrue (S.is_honest store) → (tree : FileTree) (t : TrackTree)
    (earlier later : List PlacedTraf) → IsOpenedAs (S.file store) m tree
    → StandsBefore (S.file store) tree t earlier later w → P (S.file store) tree t earlier later

-- the same of the samples that it has still to come
abbrev pub WhereComes : {X : Type 0} → Store X → X → MovieSeen → Walk
    → (List ℕ → FileTree → TrackTree → List SampleAt → Type 0) → Type 0
WhereComes S store m w P = IsTrue (S.is_honest store) → (tree : FileTree) (t : TrackTree)
    (samples : List SampleAt) → IsOpenedAs (S.file store) m tree
    → Comes (S.file store) tree t m w samples → P (S.file store) tree t samples

-- and of the steps that it may take
abbrev pub WhereMayTake : {X : Type 0} → Store X → X → MovieSeen → Walk
    → (List ℕ → FileTree → TrackTree → ℕ → Type 0) → Type 0
WhereMayTake S store m w P = IsTrue (S.is_honest store) → (tree : FileTree) (t : TrackTree) (n : ℕ)
    → IsOpenedAs (S.file store) m tree → MayTake (S.file store) tree t w n
    → P (S.file store) tree t n

-- it takes steps of those that it may take: at Ok the others are left to it, and at Err it took no
-- more than all
abbrev pub TakesSteps : {X T E : Type 0} → Store X → X → MovieSeen → Walk → Walk → Result T E
    → ℕ → ℕ → Type 0
TakesSteps S store m w w_after result old new = WhereMayTake S store m w (λ file tree t n.
    MatchResult result (λ _. TakesOn file tree t n w_after old new) (λ _. new ≤ old + n))

-- it stays a walk over this track with its room and its mark
pub record IsWalkStill {T E : Type 0} (m : MovieSeen) (w w_after : Walk) (result : Result T E)
    : Type 0 where
  pub walk : OnOk result (IsWalkOf m w_after)
  pub room : length w_after.bytes.items ≡ length w.bytes.items
  pub mark : w_after.mark ≡ w.mark

-- Whether a further `traf` was loaded: it has samples of the track; or none is left.
pub record IsLoaded (m : MovieSeen) (w w_after : Walk) (more : Bool) : Type 0 where
  pub some : IsTrue more → HasSome m w_after
  pub holds : IsTrue more → HoldsSome m w_after
  pub next : IsTrue more → w.next < w_after.next
  pub fewer : IsTrue more → w_after.left < w.left
  pub still : more ≡ false → w_after ≡ w
  pub none : more ≡ false → w_after.left ≡ 0

-- ---- a `traf` in the room

-- so many bytes of the room are the payload of the `traf`
pub record HasTraf (w : Walk) : Type 0 where
  pub used : w.used ≤ length w.bytes.items

-- all of its samples of the track are in hand, before which this was due
pub record HasInHand (m : MovieSeen) (w w_after : Walk) (before : Due) : Type 0 where
  pub place : StandsAt m w_after w_after.place
  pub rest : IsRest m w_after (Some before) w_after.place
  pub all : (info : TrackInfo) → slice_get m.tracks w.track ≡ Some info
      → (hand : InHand) × InHandOf m w_after hand
      × (left_in_hand hand ≡ all_in_traf m w info before)
  pub way : steps_to w_after.place ≤ traf_steps (traf_box w)
  pub through : (t : TrackTree) → way_through t w_after w_after.place
      ≡ traf_steps (traf_box w_after)

-- the walk has the same room, and stands at the same place of the file, as before
pub record KeepsRoom (w w_after : Walk) : Type 0 where
  pub track : w_after.track ≡ w.track
  pub mark : w_after.mark ≡ w.mark
  pub room : w_after.bytes ≡ w.bytes
  pub next : w_after.next ≡ w.next

-- what was due and left before the `traf`, and how many samples are left behind it
pub record CountsOff (m : MovieSeen) (w w_after : Walk) : Type 0 where
  pub before : w_after.before ≡ Some (record { time = w.due; left = w.left })
  pub traf : w_after.traf ≡ w.traf
  pub bytes : traf_bytes w_after ≡ traf_bytes w
  pub counted : (info : TrackInfo) → slice_get m.tracks w.track ≡ Some info
      → w.left ≡ length (all_in_traf m w info (record { time = w.due; left = w.left }))
      + w_after.left

-- ---- going back to a mark

-- over an honest store that has the file from which the movie was opened: it is so of the samples
-- that came where the walk has made its mark
abbrev pub WhereMarked : {X : Type 0} → Store X → X → MovieSeen → Walk
    → (List ℕ → FileTree → TrackTree → List SampleAt → Type 0) → Type 0
WhereMarked S store m w P = IsTrue (S.is_honest store) → (tree : FileTree) (t : TrackTree)
    (begun : Walk) (samples : List SampleAt) → IsOpenedAs (S.file store) m tree
    → GoesBackTo (S.file store) tree t m begun w (length samples)
    → Comes (S.file store) tree t m begun samples → P (S.file store) tree t samples

-- the same of the steps that it might take there
abbrev pub WhereMarkMayTake : {X : Type 0} → Store X → X → MovieSeen → Walk
    → (List ℕ → FileTree → TrackTree → Walk → ℕ → Type 0) → Type 0
WhereMarkMayTake S store m w P = IsTrue (S.is_honest store) → (tree : FileTree) (t : TrackTree)
    (begun : Walk) (to_come n : ℕ) → IsOpenedAs (S.file store) m tree
    → GoesBackTo (S.file store) tree t m begun w to_come
    → MayTake (S.file store) tree t begun n → P (S.file store) tree t begun n

-- the walk set back to its mark, which it keeps
abbrev pub back_at_mark : Walk → Walk
back_at_mark w = record (set_back w) { mark = mark_of (set_back w) w.mark.to_come }

-- it stands at its mark
pub record IsAtMark (w w_after : Walk) : Type 0 where
  pub mark : w_after.mark ≡ mark_of w_after w.mark.to_come
  pub left : w_after.left ≡ w.mark.left
  pub due : w_after.due ≡ w.mark.due
  pub next : w_after.next ≡ w.mark.next

-- the `traf` of the mark, before which this was due, is in hand again, from its first sample on
pub record IsReadAgain (m : MovieSeen) (w w_after : Walk) (before : Due) : Type 0 where
  pub track : w_after.track ≡ w.track
  pub next : w_after.next ≡ w.mark.next
  pub due : w_after.due ≡ w.mark.due
  pub left : w_after.left ≡ w.mark.left
  pub all : (info : TrackInfo) → slice_get m.tracks w.track ≡ Some info
      → (hand : InHand) × InHandOf m w_after hand
      × (left_in_hand hand ≡ all_in_traf m w_after info before)
  pub through : (t : TrackTree) → way_through t w_after w_after.place
      ≡ traf_steps (traf_box w_after)

-- it is the `traf` that was in hand where the mark was made, at so many steps
pub record TakesMarked (file : List ℕ) (tree : FileTree) (t : TrackTree)
    (earlier : List PlacedTraf) (next : PlacedTraf) (later : List PlacedTraf) (m : MovieSeen)
    (begun w_after : Walk) (old new : ℕ) : Type 0 where
  pub takes : Takes file tree t earlier next later m w_after true
  pub traf : w_after.traf ≡ begun.traf
  pub bytes : traf_bytes w_after ≡ traf_bytes begun
  pub way : steps_to w_after.place ≤ traf_steps (traf_box begun)
  pub steps : new ≡ old + steps_to w_after.place
