-- Places in the payload of a `traf`, and what a walk costs.
use Rattle.std.specs.Prelude.{◌≡◌, ℕ, suc, ◌+◌, ◌-◌, ◌*◌, ◌≤◌, cond, List, [], ◌∷◌, length, None, codes, bytes_eq}
use Rattle.mp4_boxes.specs.format.Box.{Box}
use Rattle.mp4_boxes.specs.format.Layout.{trun, sbgp, row_count}
use Rattle.mp4_tables.specs.words.Indexes.{AreIndexPlaces}
use Rattle.mp4_frag.specs.words.ColumnsRead.{row_room}
use Rattle.mp4_tables.specs.declared.sample.SampleAt.{SampleAt}
use Rattle.mp4_frag.specs.words.Walks.{Reached, can_read, part_of, boxes_from, rows_here, rows_coming, reached, coming}
use Rattle.mp4_frag.specs.declared.box_places.Lying.{Lying}
use Rattle.mp4_frag.specs.declared.places.TrafPlace.{TrafPlace}
use Rattle.mp4_frag.specs.declared.places.RowPlace.{RowPlace}

-- a box lies in the payload
pub record IsBoxIn (payload : List ℕ) (b : Lying) : Type 0 where
  pub inside : b.inside ≤ b.end
  pub within : b.end ≤ length payload

-- the bytes in it
abbrev pub bytes_inside : List ℕ → Lying → List ℕ
bytes_inside payload b = part_of payload b.inside b.end

-- the box that lies there, behind its header, which begins at a place
abbrev pub box_in : List ℕ → ℕ → Lying → Box
box_in payload at b = record {
  kind = b.kind.0;
  offset = at;
  header = b.inside - at;
  payload = bytes_inside payload b;
}

-- there are bytes for the rows left of a `trun`
abbrev pub IsRowPlace : List ℕ → RowPlace → Type 0
IsRowPlace payload place = place.row + place.left * row_room place.bits ≤ length payload

-- the place behind the next of them, whose flags are not those of the first
abbrev pub row_behind : RowPlace → RowPlace
row_behind place = record place {
  row = place.row + row_room place.bits;
  left = place.left - 1;
  first_flags = None;
}

-- a step for a run, and one for each of its rows, if it can be read
abbrev pub run_work : List ℕ → ℕ
run_work payload = suc (cond (can_read trun payload) (row_count trun payload) 0)

abbrev pub runs_work : List Box → ℕ
runs_work [] = 0
runs_work (b ∷ boxes) = cond (bytes_eq (codes "trun") b.kind) (run_work b.payload) 0
    + runs_work boxes

-- a step for each row of an `sbgp`, if it can be read
abbrev pub group_work : List ℕ → ℕ
group_work payload = cond (can_read sbgp payload) (row_count sbgp payload) 0

abbrev pub groups_work : List Box → ℕ
groups_work [] = 0
groups_work (b ∷ boxes) = cond (bytes_eq (codes "sbgp") b.kind) (group_work b.payload) 0
    + groups_work boxes

-- a step for the `traf`, and those for all its `sbgp`s and runs
unfoldable pub traf_work : List ℕ → ℕ
traf_work payload = suc (groups_work (boxes_from payload 0) + runs_work (boxes_from payload 0))

-- what the runs from a place on cost
unfoldable pub work_behind : List ℕ → ℕ → ℕ
work_behind payload next = runs_work (boxes_from payload next)

-- all that the place speaks of lies in the payload
pub record LiesIn (payload : List ℕ) (place : TrafPlace) : Type 0 where
  pub next : place.next ≤ length payload
  pub rows : IsRowPlace payload place.run
  pub width : place.run.width ≡ row_room place.run.bits
  pub indexes : AreIndexPlaces payload place.index_rows place.indexes
  -- the samples left of the run come before those behind it
  pub number : place.run.left ≤ place.number
  -- what was passed and what is left cost no more than all
  pub work : place.passed + place.run.left + work_behind payload place.next ≤ traf_work payload

-- so it does, and a sample is in hand, or no box is left
pub record IsPlaceIn (payload : List ℕ) (place : TrafPlace) : Type 0 where
  pub lies : LiesIn payload place
  pub settled : place.run.left ≡ 0 → place.next ≡ length payload

-- ---- from place to place

-- only the indexes to come and the steps are others
abbrev pub ChangesIndexes : TrafPlace → TrafPlace → Type 0
ChangesIndexes old new = new ≡ record old {
  index_rows = new.index_rows;
  indexes = new.indexes;
  passed = new.passed;
}

-- only what the samples inherit is another
abbrev pub ChangesHead : TrafPlace → TrafPlace → Type 0
ChangesHead old new = new ≡ record old { inherited = new.inherited }

-- the same samples are to come
abbrev pub SameToCome : List ℕ → TrafPlace → TrafPlace → Type 0
SameToCome payload old new = coming payload new ≡ coming payload old

-- the samples of the rows left of a run, and then those of what is behind it
abbrev pub left_coming : List ℕ → TrafPlace → (Reached → List SampleAt) → List SampleAt
left_coming payload p more = rows_coming (reached payload p) p.run.first_flags
    (rows_here payload p.run) more
