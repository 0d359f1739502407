-- A walk that goes back to where it has marked its place.
use Rattle.std.specs.Prelude.{◌≡◌, ℕ, ◌+◌, ◌<◌, ◌==◌, ◌&&◌, nat_lt, if◌then◌else◌, Bool, List, [], ◌∷◌, ◌++◌, length, Option, None, Some, is_none, slice_get}
use Rattle.mp4_frag.specs.words.OwnTrafs.{PlacedTraf, traf_steps}
use Rattle.mp4_head.specs.format.Tree.{TrackTree}
use Rattle.mp4_present.specs.words.SamplesComing.{StandsBefore, HoldsNext, due_behind, samples_behind}
use Rattle.mp4_present.specs.format.Denotes.{FileTree}
use Rattle.mp4_present.specs.words.Movies.{MovieSeen, IsWalkOf, all_in_traf, mark_of, traf_box}
use Rattle.mp4_present.specs.words.WalkSteps.{steps_to}
use Rattle.mp4_present.specs.declared.track_info.TrackInfo.{TrackInfo}
use Rattle.mp4_present.specs.declared.walking.Due.{Due}
use Rattle.mp4_present.specs.declared.walking.Walk.{Walk}

-- what was due before the `traf` of the mark, where another one is in hand; the tables always are
-- at hand
abbrev pub again_from : Walk → Option Due
again_from w = if w.next == w.mark.next then None else w.mark.before

abbrev pub is_at_hand : Walk → Bool
is_at_hand w = is_none (again_from w)

-- the walk where it has marked its place, with what it has in hand
abbrev pub set_back : Walk → Walk
set_back w = record w {
  place = w.mark.place;
  before = w.mark.before;
  due = w.mark.due;
  left = w.mark.left;
  next = w.mark.next;
}

-- The mark of a walk was made where it stood before so many samples, and it now stands somewhere in
-- the same file.
pub record GoesBackTo (file : List ℕ) (tree : FileTree) (t : TrackTree) (m : MovieSeen)
    (begun w : Walk) (to_come : ℕ) : Type 0 where
  pub is_walk : IsWalkOf m begun
  pub mark : w.mark ≡ mark_of begun to_come
  pub earlier : List PlacedTraf
  pub later : List PlacedTraf
  pub stands : StandsBefore file tree t earlier later w

-- how many steps it takes to go back: where a `traf` has to be read again, a way through it
abbrev pub back_steps : Walk → Walk → ℕ
back_steps begun w = if is_at_hand w then 0 else traf_steps (traf_box begun)

-- what is due and left behind a `traf`
pub record StandsBehind (tree : FileTree) (t : TrackTree) (earlier : List PlacedTraf)
    (next : PlacedTraf) (later : List PlacedTraf) (time many : ℕ) : Type 0 where
  pub due : time ≡ due_behind tree t (earlier ++ next ∷ [])
  pub left : many ≡ length (samples_behind tree t (earlier ++ next ∷ []) later)

-- The mark is in this `traf`, which was the next of the walk where this was due.
pub record HoldsMarked (file : List ℕ) (tree : FileTree) (t : TrackTree)
    (earlier : List PlacedTraf) (next : PlacedTraf) (later : List PlacedTraf) (begun w : Walk)
    (before : Due) : Type 0 where
  pub holds : HoldsNext file tree t earlier next later
      (record begun { due = before.time; left = before.left })
  pub traf : w.mark.traf ≡ begun.traf
  pub next_is : w.mark.next ≡ begun.next
  pub is_track : slice_get tree.movie.tracks w.track ≡ Some t
  pub room : length w.bytes.items ≡ length begun.bytes.items
  pub behind : StandsBehind tree t earlier next later w.mark.due w.mark.left

-- ---- a mark in what is in hand

-- the mark is a place of what is in hand
abbrev pub IsMarkInHand : Walk → Type 0
IsMarkInHand w = (w.next ≡ w.mark.next) × (is_none w.before ≡ is_none w.mark.before)

-- the walk where it has marked its place, which marks where it stood
abbrev pub turned_back : Walk → Walk
turned_back w = record (set_back w) { mark = mark_of w w.mark.to_come }

-- the mark is a place of what is in hand, and more was passed before it
abbrev pub is_mark_farther : Walk → Bool
is_mark_farther w = (w.next == w.mark.next) && nat_lt (steps_to w.place) (steps_to w.mark.place)

-- the farther one of the walk's place and its mark
abbrev pub farther : Walk → Walk
farther w = if is_mark_farther w
    then record (set_back w) { mark = mark_of (set_back w) w.mark.to_come } else w

-- ---- a `traf` that was loaded

-- The walk has loaded the `traf` in hand, and it holds samples of the track, as many as are left
-- less behind it than before it.
pub record HoldsSome (m : MovieSeen) (w : Walk) : Type 0 where
  pub before : Due
  pub is_before : w.before ≡ Some before
  pub some : w.left < before.left
  pub all : (info : TrackInfo) → slice_get m.tracks w.track ≡ Some info
      → length (all_in_traf m w info before) + w.left ≡ before.left
