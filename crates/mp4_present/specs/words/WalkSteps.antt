-- The steps of opening a file, and of walks over its samples: one for each row, `traf`, run or
-- sample that a check or a cursor passes.
use Rattle.std.specs.Prelude.{◌≡◌, ℕ, ◌+◌, ◌*◌, ◌≤◌, List, length, codes, Result, Ok, Err}
use Rattle.mp4_boxes.specs.format.Bytes.{sum_of}
use Rattle.mp4_boxes.specs.format.Box.{Box, file_container}
use Rattle.mp4_boxes.specs.format.Children.{Holds, of_kind}
use Rattle.mp4_boxes.specs.declared.refusal.Refusal.{Refusal}
use Rattle.mp4_boxes.specs.declared.refusal.Refusal.TheVariants as refusals
use Rattle.mp4_boxes.specs.declared.rule.Rule.TheVariants.{File}
use Rattle.mp4_tables.specs.words.Accepted.{passed}
use Rattle.mp4_tables.specs.format.Tables.{tables_of}
use Rattle.mp4_tables.specs.format.TableRows.{table_rows}
use Rattle.mp4_frag.specs.format.Fragments.{FragmentTree}
use Rattle.mp4_frag.specs.format.FragmentRows.{fragment_rows, fragment_length, moof_says}
use Rattle.mp4_frag.specs.words.OwnTrafs.{PlacedTraf, traf_steps}
use Rattle.mp4_head.specs.format.Tree.{TrackTree}
use Rattle.mp4_present.specs.format.Denotes.{FileTree, plain_of}
use Rattle.mp4_present.specs.words.SamplesComing.{StandsBefore, own_trafs}
use Rattle.mp4_present.specs.words.Movies.{traf_box}
use Rattle.mp4_present.specs.declared.walking.Walk.{Walk}
use Rattle.mp4_present.specs.declared.walking.in_hand.Place.{Place}
use Rattle.mp4_present.specs.declared.walking.in_hand.Place.TheVariants as places

-- how many steps a cursor took to a place
abbrev pub steps_to : Place → ℕ
steps_to (places.Tables p) = passed p
steps_to (places.Fragment p) = p.passed

-- the `traf`s of a `moof`, their runs and rows of `sbgp`, and the samples
unfoldable pub moof_steps : Box → ℕ
moof_steps moof = fragment_rows (moof_says moof) + fragment_length (moof_says moof)

-- the same of all of these
abbrev pub moofs_steps : List FragmentTree → ℕ
moofs_steps moofs = sum_of (λ (t : FragmentTree). moof_steps t.moof) moofs

abbrev pub boxes_steps : List Box → ℕ
boxes_steps moofs = sum_of moof_steps moofs

-- ---- opening

-- a check of the tables of a track and the sums over their samples: each row and each sample, as
-- often as both of them look at it
unfoldable pub table_steps : TrackTree → ℕ
table_steps t = 7 * table_rows (tables_of t.table) + 3 * length (plain_of t)

-- the tables of each track, and the check of each `moof`
abbrev pub opening_steps : FileTree → ℕ
opening_steps tree = sum_of table_steps tree.movie.tracks + moofs_steps tree.fragments

-- where the tables of a track are accepted, they take at least one for each row, and three for each
-- sample
unfoldable pub least_table_steps : TrackTree → ℕ
least_table_steps t = table_rows (tables_of t.table) + 3 * length (plain_of t)

-- so the tables of each track; the check of each `moof` takes just what it says
abbrev pub least_steps : FileTree → ℕ
least_steps tree = sum_of least_table_steps tree.movie.tracks + moofs_steps tree.fragments

-- it is so of every answer but a fault
abbrev pub IfNoFault : {A : Type 0} → Result A Refusal → Type 0 → Type 0
IfNoFault (Ok x) P = P
IfNoFault (Err (refusals.Fault f)) P = Unit {0}
IfNoFault (Err r) P = P

-- Of a file with these boxes so many steps were taken: for each of its `moof`s no more than what it
-- says.
abbrev pub ChecksWithin : List ℕ → ℕ → ℕ → Type 0
ChecksWithin file old new = (boxes : List Box) → Holds File (file_container file) boxes
    → new ≤ old + boxes_steps (of_kind (codes "moof") boxes)

-- the same where each was checked to its end: as many as they say
abbrev pub ChecksAll : List ℕ → ℕ → ℕ → Type 0
ChecksAll file old new = (boxes : List Box) → Holds File (file_container file) boxes
    → new ≡ old + boxes_steps (of_kind (codes "moof") boxes)

-- ---- walks

-- a way over the samples of a track's tables: each row, and each sample as its size, its byte of
-- `sdtp` and itself
unfoldable pub table_way : TrackTree → ℕ
table_way t = table_rows (tables_of t.table) + 3 * length (plain_of t)

-- the way through what a walk has in hand that stands at a place
abbrev pub way_through : TrackTree → Walk → Place → ℕ
way_through t w (places.Tables p) = table_way t
way_through t w (places.Fragment p) = traf_steps (traf_box w)

-- the ways through these `traf`s
abbrev pub trafs_steps : List PlacedTraf → ℕ
trafs_steps trafs = sum_of (λ (p : PlacedTraf). traf_steps p.traf) trafs

-- The walk over this track may take so many steps more: to the end of what it has in hand, and for
-- each `traf` behind it a check and the way through it.
pub record MayTake (file : List ℕ) (tree : FileTree) (t : TrackTree) (w : Walk) (n : ℕ)
    : Type 0 where
  pub earlier : List PlacedTraf
  pub later : List PlacedTraf
  pub stands : StandsBefore file tree t earlier later w
  pub inside : steps_to w.place ≤ way_through t w w.place
  pub left : n + steps_to w.place ≡ way_through t w w.place + 2 * trafs_steps later

-- Of so many steps some were taken, and the walk may take the others.
abbrev pub TakesOn : List ℕ → FileTree → TrackTree → ℕ → Walk → ℕ → ℕ → Type 0
TakesOn file tree t n w old new = (rest : ℕ) × MayTake file tree t w rest × (new + rest ≤ old + n)

-- a walk over all samples of a track of this file, from the first on
abbrev pub walk_steps : FileTree → TrackTree → ℕ
walk_steps tree t = table_way t + 2 * trafs_steps (own_trafs tree t)

-- the same of all its tracks
abbrev pub walks_steps : FileTree → ℕ
walks_steps tree = sum_of (walk_steps tree) tree.movie.tracks
