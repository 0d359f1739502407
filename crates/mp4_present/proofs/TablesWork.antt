-- The steps of the checks of tables, and of the walks over their samples.
use Rattle.std.proofs.Common.{◌≡◌, ℕ, zero, suc, ◌+◌, ◌*◌, ◌<◌, ◌≤◌, List, [], ◌∷◌, length, drop, slice_index_or, refl, sym, ap, subst, ◌∙◌, arith}
use Rattle.std.proofs.lemmas.List.{drop_all}
use Rattle.std.proofs.lemmas.Slice.Zip.{AllZip-long}
use Rattle.std.specs.Prelude.{Result, Ok, Err}
use Rattle.mp4_boxes.specs.format.Bytes.{sum_of}
use Rattle.mp4_boxes.specs.format.Box.{Box}
use Rattle.mp4_boxes.specs.words.View.{box_seen}
use Rattle.mp4_boxes.specs.declared.refusal.Refusal.{Refusal}
use Rattle.mp4_boxes.specs.declared.refusal.Refusal.TheVariants as refusals
use Rattle.mp4_boxes.proofs.Plain.{suc_is}
use Rattle.mp4_tables.specs.words.Accepted.{check_steps, rows_in, tables_at}
use Rattle.mp4_tables.specs.words.Leaves.{TablesRead, boxes_of}
use Rattle.mp4_tables.specs.format.TableRules.{Surroundings, Fit}
use Rattle.mp4_tables.specs.format.Tables.{Tables, tables_of}
use Rattle.mp4_tables.specs.words.TablesSeen.{TablesSeen}
use Rattle.mp4_tables.specs.format.TableRows.{table_rows}
use Rattle.mp4_tables.proofs.Counts.{plain_length}
use Rattle.mp4_tables.proofs.LeafLists.{boxes_are}
use Rattle.mp4_tables.proofs.Passed.{steps_between}
use Rattle.mp4_tables.proofs.PlaceLists.{count_is}
use Rattle.mp4_tables.proofs.TableRows.{rows_are}
use Rattle.mp4_head.specs.format.Tree.{TrackTree, stbl_of}
use Rattle.mp4_head.specs.declared.heads.TrackHead.{TrackHead}
use Rattle.mp4_present.specs.format.Denotes.{plain_of}
use Rattle.mp4_present.specs.words.TrackTrees.{IsTrackOf, AreTracksOf}
use Rattle.mp4_present.specs.words.WalkSteps.{IfNoFault, least_table_steps, table_steps}

-- ---- answers

-- what is so is so of every answer but a fault
pub if_no_fault : {A : Type 0} (P : Type 0) (r : Result A Refusal) → P → IfNoFault r P
if_no_fault P (Ok x) p = p
if_no_fault P (Err (refusals.Fault f)) p = tt
if_no_fault P (Err refusals.Memory) p = p
if_no_fault P (Err refusals.StoreFailed) p = p
if_no_fault P (Err refusals.StoreChanged) p = p
if_no_fault P (Err refusals.WriteFailed) p = p
if_no_fault P (Err refusals.NoSuchTrack) p = p

-- a refusal that is handed on
pub handed_on : (A P Q : Type 0) (r : Refusal) → (P → Q) → IfNoFault {A = A} (Err r) P → IfNoFault {A = A} (Err r) Q
handed_on A P Q (refusals.Fault f) so p = tt
handed_on A P Q refusals.Memory so p = so p
handed_on A P Q refusals.StoreFailed so p = so p
handed_on A P Q refusals.StoreChanged so p = so p
handed_on A P Q refusals.WriteFailed so p = so p
handed_on A P Q refusals.NoSuchTrack so p = so p

-- no step was taken
pub none_taken : (n more : ℕ) → n ≤ n + more
none_taken n more = omega arith

-- ---- one track

track_sum : (rows count said samples way before checked after : ℕ) → rows ≡ said → samples ≡ count → way ≤ rows → checked ≤ before + 6 * rows + 2 * count → after ≤ checked + way + count → after ≤ before + (7 * said + 3 * samples)
track_sum rows count said samples way before checked after r s w c a = omega (arith, r, s, w, c, a)

module _ (file_length n room : ℕ) {h : TrackHead} (v : TablesSeen) (t : TrackTree) (i : IsTrackOf t h) (own : TablesRead (record { file_len = file_length; descriptions = n; room = room }) (stbl_of t) v.at) where
  abbrev round : Surroundings
  round = record { file_length = file_length; descriptions = n }

  boxes : boxes_of (stbl_of t) ≡ t.table
  boxes = boxes_are (stbl_of t) t.table i.tree.table.tiles

  tables : tables_at (stbl_of t).payload v.at ≡ tables_of t.table
  tables = own.same ∙ ap tables_of boxes

  -- the rows and samples that were read are those that its boxes say
  rows_of : rows_in v.at ≡ table_rows (tables_of t.table)
  rows_of = rows_are (stbl_of t).payload v.at own.accepted.have ∙ ap table_rows tables

  samples_of : length (plain_of t) ≡ v.at.sizes.rows.count
  samples_of =
      let fit : Fit round (tables_of t.table) = subst (λ (bs : List Box). Fit round (tables_of bs)) boxes own.all.fit in
      plain_length round (tables_of t.table) fit ∙ ap (λ (x : Tables). length x.sizes) (sym tables) ∙ count_is (stbl_of t).payload v.at

-- the check of a track's tables, and the sums over their rows and sizes
pub track_within : (file_length n room : ℕ) (h : TrackHead) (v : TablesSeen) (before checked after : ℕ) → TablesRead (record { file_len = file_length; descriptions = n; room = room }) (box_seen h.stbl) v.at
    → checked ≤ before + 6 * rows_in v.at + 2 * v.at.sizes.rows.count → after ≤ checked + v.at.durations.count + v.at.sizes.rows.count → (t : TrackTree) → IsTrackOf t h → after ≤ before + table_steps t
unfolding table_steps
track_within file_length n room h v before checked after read check more t i =
    let own : TablesRead (record { file_len = file_length; descriptions = n; room = room }) (stbl_of t) v.at = subst (λ (b : Box). TablesRead (record { file_len = file_length; descriptions = n; room = room }) b v.at) i.found.stbl read in
    let rows = rows_of file_length n room v t i own in
    let samples = samples_of file_length n room v t i own in
    track_sum (rows_in v.at) v.at.sizes.rows.count (table_rows (tables_of t.table)) (length (plain_of t)) v.at.durations.count before checked after rows samples (omega arith) check more

least_sum : (rows count said samples way chosen before checked after : ℕ) → rows ≡ said → samples ≡ count → rows + 2 * count ≤ chosen → checked ≡ before + chosen → after ≡ checked + way + count → before + (said + 3 * samples) ≤ after
least_sum rows count said samples way chosen before checked after r s few c a = omega (arith, r, s, few, c, a)

-- at least so many were taken
pub track_least : (file_length n room : ℕ) (h : TrackHead) (v : TablesSeen) (before checked after : ℕ) → TablesRead (record { file_len = file_length; descriptions = n; room = room }) (box_seen h.stbl) v.at
    → checked ≡ before + check_steps v.at → after ≡ checked + v.at.durations.count + v.at.sizes.rows.count → (t : TrackTree) → IsTrackOf t h → before + least_table_steps t ≤ after
unfolding least_table_steps
track_least file_length n room h v before checked after read check more t i =
    let own : TablesRead (record { file_len = file_length; descriptions = n; room = room }) (stbl_of t) v.at = subst (λ (b : Box). TablesRead (record { file_len = file_length; descriptions = n; room = room }) b v.at) i.found.stbl read in
    let r = rows_of file_length n room v t i own in
    let s = samples_of file_length n room v t i own in
    least_sum (rows_in v.at) v.at.sizes.rows.count (table_rows (tables_of t.table)) (length (plain_of t)) v.at.durations.count (check_steps v.at) before checked after r s (steps_between v.at).0 check more

-- ---- one track after the other

-- the k-th track, and the steps of those from it on
record Next (steps_of : TrackTree → ℕ) (trees : List TrackTree) (k : ℕ) (h : TrackHead) : Type 0 where
  t : TrackTree
  goes : IsTrackOf t h
  steps : sum_of steps_of (drop k trees) ≡ steps_of t + sum_of steps_of (drop (suc k) trees)

next_track : (steps_of : TrackTree → ℕ) (trees : List TrackTree) (tracks : List TrackHead) (k : ℕ) (d : TrackHead) → AreTracksOf trees tracks → k < length tracks → Next steps_of trees k (slice_index_or tracks k d)
next_track f [] [] k d z lt = absurd (omega (arith, lt))
next_track f [] (h ∷ tracks) k d z lt = absurd z
next_track f (t ∷ trees) [] k d z lt = absurd z
next_track f (t ∷ trees) (h ∷ tracks) zero d z lt = record { t = t; goes = z.0; steps = refl }
next_track f (t ∷ trees) (h ∷ tracks) (suc k) d z lt = let n = next_track f trees tracks k d z.1 (omega (arith, lt)) in record { t = n.t; goes = n.goes; steps = n.steps }

one_less : (start now new rest own left all : ℕ) → now + rest ≤ start + all → rest ≡ own + left → new ≤ now + own → new + left ≤ start + all
one_less start now new rest own left all h e more = omega (arith, h, e, more)

-- so many steps were taken, and those of the tracks from one on are left of those of all
abbrev pub TracksLeft : List TrackHead → ℕ → ℕ → ℕ → Type 0
TracksLeft tracks k old new = (trees : List TrackTree) → AreTracksOf trees tracks → new + sum_of table_steps (drop k trees) ≤ old + sum_of table_steps trees

-- the same where all of them were taken
abbrev pub TracksDone : List TrackHead → ℕ → ℕ → Type 0
TracksDone tracks old new = (trees : List TrackTree) → AreTracksOf trees tracks → new ≤ old + sum_of table_steps trees

pub tracks_done : (tracks : List TrackHead) (k old new : ℕ) → TracksLeft tracks k old new → TracksDone tracks old new
tracks_done tracks k old new left trees a = let some = left trees a in omega (arith, some)

pub next_left : (tracks : List TrackHead) (k old now new : ℕ) (h : TrackHead) → k < length tracks → h ≡ slice_index_or tracks k h → ((t : TrackTree) → IsTrackOf t h → new ≤ now + table_steps t) → TracksLeft tracks k old now → TracksLeft tracks (k + 1) old new
next_left tracks k old now new h lt e more left trees a =
    let n = next_track table_steps trees tracks k h a lt in
    subst (λ (j : ℕ). new + sum_of table_steps (drop j trees) ≤ old + sum_of table_steps trees) (suc_is k)
    (one_less old now new (sum_of table_steps (drop k trees)) (table_steps n.t) (sum_of table_steps (drop (suc k) trees)) (sum_of table_steps trees) (left trees a) n.steps (more n.t (subst (IsTrackOf n.t) (sym e) n.goes)))

-- one that was not checked to its end
pub next_done : (tracks : List TrackHead) (k old now new : ℕ) (h : TrackHead) → k < length tracks → h ≡ slice_index_or tracks k h → TracksLeft tracks k old now → ((t : TrackTree) → IsTrackOf t h → new ≤ now + table_steps t) → TracksDone tracks old new
next_done tracks k old now new h lt e left more = tracks_done tracks (k + 1) old new (next_left tracks k old now new h lt e more left)

-- ---- at least so many

-- no fewer steps were taken than those of the tracks before one
abbrev pub TracksTaken : List TrackHead → ℕ → ℕ → ℕ → Type 0
TracksTaken tracks k old new = (trees : List TrackTree) → AreTracksOf trees tracks → old + sum_of least_table_steps trees ≤ new + sum_of least_table_steps (drop k trees)

one_taken : (start now new rest own left all : ℕ) → start + all ≤ now + rest → rest ≡ own + left → now + own ≤ new → start + all ≤ new + left
one_taken start now new rest own left all h e more = omega (arith, h, e, more)

pub next_taken : (tracks : List TrackHead) (k old now new : ℕ) (h : TrackHead) → k < length tracks → h ≡ slice_index_or tracks k h → ((t : TrackTree) → IsTrackOf t h → now + least_table_steps t ≤ new) → TracksTaken tracks k old now → TracksTaken tracks (k + 1) old new
next_taken tracks k old now new h lt e more taken trees a =
    let n = next_track least_table_steps trees tracks k h a lt in
    subst (λ (j : ℕ). old + sum_of least_table_steps trees ≤ new + sum_of least_table_steps (drop j trees)) (suc_is k)
    (one_taken old now new (sum_of least_table_steps (drop k trees)) (least_table_steps n.t) (sum_of least_table_steps (drop (suc k) trees)) (sum_of least_table_steps trees) (taken trees a) n.steps (more n.t (subst (IsTrackOf n.t) (sym e) n.goes)))

-- behind the last of them
pub tracks_taken : (tracks : List TrackHead) (k old new : ℕ) → length tracks ≤ k → TracksTaken tracks k old new → (trees : List TrackTree) → AreTracksOf trees tracks → old + sum_of least_table_steps trees ≤ new
tracks_taken tracks k old new le taken trees a =
    let many : length tracks ≡ length trees = AllZip-long IsTrackOf trees tracks a in
    let some = taken trees a in
    omega (arith, some, ap (sum_of least_table_steps) (drop_all k trees (omega (arith, many, le))))
