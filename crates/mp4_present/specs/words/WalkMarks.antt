-- How a walk goes back to its mark: the `traf` is read again, and samples before it are passed.
-- `S` is what a bound says of the store's type.
use Rattle.std.specs.Prelude.{◌≡◌, ℕ, ◌≤◌, List, length, drop, true, Result, Err, MatchResult, IsTrue}
use Rattle.mp4_boxes.specs.declared.refusal.Refusal.{Refusal}
use Rattle.mp4_boxes.specs.declared.refusal.Refusal.TheVariants as refusals
use Rattle.mp4_store.specs.declared.store.Store.{Ghosts as Store}
use Rattle.mp4_frag.specs.words.OwnTrafs.{PlacedTraf}
use Rattle.mp4_head.specs.format.Tree.{TrackTree}
use Rattle.mp4_present.specs.format.Denotes.{FileTree}
use Rattle.mp4_present.specs.words.GoingBack.{HoldsMarked, StandsBehind}
use Rattle.mp4_present.specs.words.InHand.{left_in_hand}
use Rattle.mp4_present.specs.words.Movies.{MovieSeen, InHandOf, IsWalkOf}
use Rattle.mp4_present.specs.words.OpenedMovie.{IsOpenedAs}
use Rattle.mp4_present.specs.words.TrackWalks.{IsReadAgain, TakesMarked}
use Rattle.mp4_present.specs.words.SamplesComing.{HoldsNext, StandsBefore, Takes}
use Rattle.mp4_present.specs.words.WalkSteps.{MayTake, TakesOn}
use Rattle.mp4_present.specs.declared.walking.in_hand.InHand.{InHand}
use Rattle.mp4_present.specs.declared.walking.Due.{Due}
use Rattle.mp4_present.specs.declared.walking.Walk.{Walk}

-- ---- the `traf` of the mark

-- in each file of the movie: where the `traf` in the room came next when this was due, its samples
-- are taken into hand
abbrev pub TakesAgain : MovieSeen → Walk → Walk → Due → Type 0
TakesAgain m w w_after before = (file : List ℕ) (tree : FileTree) (t : TrackTree)
    (earlier later : List PlacedTraf) (next : PlacedTraf) → IsOpenedAs file m tree
    → HoldsNext file tree t earlier next later
    (record w { due = before.time; left = before.left })
    → StandsBehind tree t earlier next later w.due w.left
    → Takes file tree t earlier next later m w_after true

-- over an honest store that has the file from which the movie was opened: the `traf` that was in
-- hand where the mark was made is taken at Ok, and the store is not taken as changed
abbrev pub ReadsMarked : {X T : Type 0} → Store X → X → MovieSeen → Walk → Walk → Due
    → Result T Refusal → ℕ → ℕ → Type 0
ReadsMarked S store m w w_after before result old new = IsTrue (S.is_honest store)
    → (tree : FileTree) (t : TrackTree) (earlier later : List PlacedTraf) (next : PlacedTraf)
    (begun : Walk) → IsOpenedAs (S.file store) m tree
    → HoldsMarked (S.file store) tree t earlier next later begun w before
    → MatchResult result
    (λ _. TakesMarked (S.file store) tree t earlier next later m begun w_after old new)
    (λ r. r ≡ refusals.StoreChanged → ⊥)

-- it stays a walk of this movie, and the `traf` of its mark is in hand again
pub record HasReadAgain (m : MovieSeen) (w w_after : Walk) (before : Due) : Type 0 where
  pub walk : IsWalkOf m w_after
  pub traf : IsReadAgain m w w_after before

-- of a store whose file has another length than the opened one, the answer is that it has changed
abbrev pub KnowsLength : {X T : Type 0} → Store X → X → MovieSeen → Result T Refusal → Type 0
KnowsLength S store m result = (length (S.file store) ≡ m.file_len → ⊥)
    → result ≡ Err refusals.StoreChanged

-- ---- samples in hand

-- So many samples in hand were passed, the others are in hand now, and the walk takes on what steps
-- are left.
pub record PassesInHand (m : MovieSeen) (w w_after : Walk) (count old new : ℕ) : Type 0 where
  pub walk : IsWalkOf m w_after
  pub passed : (hand later : InHand) × InHandOf m w hand × InHandOf m w_after later
      × (left_in_hand later ≡ drop count (left_in_hand hand)) × (count ≤ length (left_in_hand hand))
  pub stands : (file : List ℕ) (tree : FileTree) (t : TrackTree) (earlier later : List PlacedTraf)
      → StandsBefore file tree t earlier later w → StandsBefore file tree t earlier later w_after
  pub work : (file : List ℕ) (tree : FileTree) (t : TrackTree) (n : ℕ) → IsOpenedAs file m tree
      → MayTake file tree t w n → TakesOn file tree t n w_after old new

-- its track and its room are the same, and what is due, left and next behind what is in hand
pub record KeepsRest (w w_after : Walk) : Type 0 where
  pub left : w_after.left ≡ w.left
  pub due : w_after.due ≡ w.due
  pub next : w_after.next ≡ w.next
  pub track : w_after.track ≡ w.track
  pub bytes : w_after.bytes ≡ w.bytes

-- the answer is that the store has changed, and no step was taken
pub record FindsFewer (old new : ℕ) (r : Refusal) : Type 0 where
  pub changed : r ≡ refusals.StoreChanged
  pub idle : new ≡ old
