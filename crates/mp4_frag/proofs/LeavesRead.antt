-- What a walk takes from the leaves of a `traf`.
use Rattle.std.proofs.Common.{◌≡◌, ℕ, zero, suc, ◌+◌, ◌*◌, ◌<◌, ◌≤◌, drop, slice_index_or, slice_set, min, ◌&&◌, ◌==◌, Bool, true, false, List, [], ◌∷◌, length, map, Option, Some, None, nat_le, refl, sym, ap, ◌∙◌, rules, arith}
use Rattle.std.specs.List.{slice_get}
use Rattle.mp4_boxes.specs.format.Layout.{Leaf, tfhd, trun, sbgp, knows_version, knows_flags, needed, IsReadable}
use Rattle.mp4_tables.specs.format.Groups.{GroupKey, key_of}
use Rattle.mp4_tables.specs.words.Keys.{key_seen, key_place}
use Rattle.mp4_tables.specs.format.Repeated.{repeated}
use Rattle.mp4_tables.specs.words.Rows.{runs_at}
use Rattle.mp4_tables.specs.declared.sample.SampleAt.{SampleAt}
use Rattle.mp4_tables.specs.words.Indexes.{low_half}
use Rattle.mp4_frag.specs.words.ColumnsRead.{row_room}
use Rattle.mp4_frag.specs.format.Fragments.{RunRow, sample_run_of, run_rows}
use Rattle.mp4_frag.proofs.BoxPlaces.{part_length}
use Rattle.mp4_tables.specs.words.GroupBoxes.{IsGroup}
use Rattle.mp4_tables.specs.declared.group_boxes.Group.{Group}
use Rattle.mp4_frag.specs.words.Reading.{IsHead, IsRun, as_traf, head_values, inheritance}
use Rattle.mp4_frag.specs.words.Walks.{can_read, indexes_of, names, with_group, part_of, Reached, head_of, with_head, rows_here, rows_of, rows_coming, run_coming, begin}
use Rattle.mp4_boxes.specs.format.BoxFaults.{Fails}
use Rattle.mp4_boxes.specs.declared.fault.Kind.{Kind}
use Rattle.mp4_boxes.specs.declared.fault.Kind.TheVariants as kinds
use Rattle.mp4_boxes.proofs.Plain.{and_false}
use Rattle.mp4_frag.specs.declared.heads.TrafHead.{TrafHead}
use Rattle.mp4_frag.specs.declared.trun.Run.{Run}
use Rattle.mp4_frag.specs.declared.state.TrackState.{TrackState}
use Rattle.mp4_frag.specs.declared.trex.Trex.{Trex}
use Rattle.mp4_frag.proofs.PartsRead.{runs_in_part, run_rows_in_part}

-- a leaf that can be read
pub read : (leaf : Leaf) (payload : List ℕ) → IsReadable leaf payload → can_read leaf payload ≡ true
read leaf payload r =
    let version : knows_version leaf payload ≡ true = search (rules, r.version) in
    let flags : knows_flags leaf payload ≡ true = search (rules, r.flags) in
    let room : nat_le (needed leaf payload) (length payload) ≡ true = search (rules, r.room) in
    rw (version, flags, room) refl

-- the indexes of an `sbgp`
unfolding_indexes : (part : List ℕ) (group : Group) → IsGroup part group → map low_half (repeated (runs_at part (record { place = group.rows; count = group.count }))) ≡ indexes_of part
unfolding indexes_of
unfolding_indexes part group g = let rows = g.rows in let count = g.count in λ i. map low_half (repeated (runs_at part (record { place = rows i; count = count i })))

pub group_taken : (payload : List ℕ) (inside end j : ℕ) (group : Group) (keys : List GroupKey) (lists : List (List ℕ)) (indexes : List ℕ) → inside ≤ end → end ≤ length payload
    → IsGroup (part_of payload inside end) group → Some j ≡ key_place (key_seen group.key) keys → indexes ≡ map low_half (repeated (runs_at payload (record { place = inside + group.rows; count = group.count })))
    → slice_set lists (min j 3) indexes ≡ with_group keys lists (part_of payload inside end)
group_taken payload inside end j group keys lists indexes h k g place e =
    let part = part_of payload inside end in
    let there = read sbgp part g.readable in
    let key : key_place (key_of part) keys ≡ Some j = ap (λ (key : GroupKey). key_place key keys) (sym g.key) ∙ sym place in
    let same : indexes ≡ indexes_of part = e ∙ ap (λ runs. map low_half (repeated runs)) (runs_in_part payload inside end group.rows group.count h k g.room) ∙ unfolding_indexes part group g in
    rw (there, key, same) refl

pub nor_then : (a b : Bool) → (a && (b && false)) ≡ false
nor_then a b = ap (λ v. a && v) (and_false b) ∙ and_false a

-- ---- heads

column_of : (values : List (Option ℕ)) (k : ℕ) (more : List (Option ℕ)) → values ≡ more → slice_index_or values k None ≡ slice_index_or more k None
column_of values k more e = ap (λ vs. slice_index_or vs k None) e

-- a `tfhd` says what was read of it
pub head_is : (part : List ℕ) (head : TrafHead) → IsHead part head → as_traf head ≡ head_of part
head_is part head h =
    let values = h.values in
    let id = h.id in
    let base = column_of (head_values head) 0 _ values in
    let description = column_of (head_values head) 1 _ values in
    let duration = column_of (head_values head) 2 _ values in
    let size = column_of (head_values head) 3 _ values in
    let flags = column_of (head_values head) 4 _ values in
    let is_moof = h.base_is_moof in
    λ i. record { id = id i; base_data_offset = base i; description = description i; duration = duration i; size = size i; flags = flags i; base_is_moof = is_moof i; decode_time = None; runs = []; groups = [] }

-- what it says is taken
pub head_taken : (trex : Trex) (s : Reached) (part : List ℕ) (head : TrafHead) → IsHead part head → record s { inherited = inheritance (as_traf head) trex } ≡ with_head trex s part
head_taken trex s part head h =
    let there = read tfhd part h.readable in
    let same = head_is part head h in
    rw there (λ i. record s { inherited = inheritance (same i) trex })

-- whether it names a track
pub head_names : (id : ℕ) (part : List ℕ) (head : TrafHead) → IsHead part head → (head.id == id) ≡ names id part
unfolding names
head_names id part head h =
    let there = read tfhd part h.readable in
    let same = head_is part head h in
    rw there (λ i. (same i).id == id)

-- one that can't be read
head_unread : (payload : List ℕ) (kind : Kind) → Fails tfhd payload kind → can_read tfhd payload ≡ false
head_unread payload kinds.ShortBox f =
    let room : nat_le (needed tfhd payload) (length payload) ≡ false = search (rules, f) in
    ap (λ v. knows_version tfhd payload && (knows_flags tfhd payload && v)) room ∙ nor_then (knows_version tfhd payload) (knows_flags tfhd payload)
head_unread payload kinds.BadVersion f = ap (λ v. v && (knows_flags tfhd payload && nat_le (needed tfhd payload) (length payload))) f.1
head_unread payload kinds.BadFlags f = ap (λ v. knows_version tfhd payload && (v && nat_le (needed tfhd payload) (length payload))) f.1 ∙ and_false (knows_version tfhd payload)
head_unread payload kinds.BadValue f = absurd cc
head_unread payload kinds.OutsideData f = absurd cc
head_unread payload kinds.OffsetTooLarge f = absurd cc
head_unread payload kind f = absurd f

pub names_none : (id : ℕ) (part : List ℕ) (kind : Kind) → Fails tfhd part kind → false ≡ names id part
unfolding names
names_none id part kind f = rw (head_unread part kind f) refl

-- an item that is there
pub got : (k : ℕ) (tracks : List TrackState) (d : TrackState) → k < length tracks → slice_get tracks k ≡ Some (slice_index_or tracks k d)
got k [] d lt = absurd (search rules)
got zero (t ∷ tracks) d lt = refl
got (suc k) (t ∷ tracks) d lt = got k tracks d (omega arith)

-- ---- runs

-- a `trun` that can't be read
pub run_unread : (payload : List ℕ) (kind : Kind) → Fails trun payload kind → (kind ≡ kinds.OffsetTooLarge → ⊥) → can_read trun payload ≡ false
run_unread payload kinds.ShortBox f d =
    let room : nat_le (needed trun payload) (length payload) ≡ false = search (rules, f) in
    ap (λ v. knows_version trun payload && (knows_flags trun payload && v)) room ∙ nor_then (knows_version trun payload) (knows_flags trun payload)
run_unread payload kinds.BadVersion f d = ap (λ v. v && (knows_flags trun payload && nat_le (needed trun payload) (length payload))) f.1
run_unread payload kinds.BadFlags f d = ap (λ v. knows_version trun payload && (v && nat_le (needed trun payload) (length payload))) f.1 ∙ and_false (knows_version trun payload)
run_unread payload kinds.BadValue f d = absurd cc
run_unread payload kinds.OutsideData f d = absurd cc
run_unread payload kinds.OffsetTooLarge f d = absurd (d refl)
run_unread payload kind f d = absurd f

-- nothing comes of it
pub run_skipped : (s : Reached) (part : List ℕ) (kind : Kind) (first : Option ℕ) (rows : List RunRow) (more : Reached → List SampleAt) → Fails trun part kind → (kind ≡ kinds.OffsetTooLarge → ⊥) → rows ≡ []
    → rows_coming s first rows more ≡ run_coming s part more
run_skipped s part kind first rows more f d e = rw (run_unread part kind f d, e) refl

-- its rows
pub rows_taken : (payload : List ℕ) (inside end : ℕ) (run : Run) (width : ℕ) (first : Option ℕ) → inside ≤ end → end ≤ length payload → IsRun (part_of payload inside end) run
    → rows_here payload (record { row = inside + run.rows; left = run.count; bits = run.bits; width = width; first_flags = first }) ≡ rows_of (part_of payload inside end)
unfolding rows_here rows_of
rows_taken payload inside end run width first h k r =
    let count = r.count in
    let bits = r.bits in
    let rows = r.rows in
    run_rows_in_part payload inside end run.rows run.count 1 run.bits h k r.room
    ∙ (λ i. run_rows (count i) 1 (bits i) (drop (rows i) (part_of payload inside end)))

-- its samples
pub run_own : (s : Reached) (part : List ℕ) (run : Run) (number at : ℕ) (rows : List RunRow) (more : Reached → List SampleAt) → IsRun part run → number ≡ s.number → at ≡ begin s.base s.at run.data_offset → rows ≡ rows_of part
    → rows_coming (record s { number = number; at = at }) run.first_flags rows more ≡ run_coming s part more
run_own s part run number at rows more r en ea er =
    let there = read trun part r.readable in
    let from : at ≡ begin s.base s.at (sample_run_of part).data_offset = ea ∙ ap (begin s.base s.at) r.data_offset in
    let first = r.first_flags in
    rw there (λ i. rows_coming (record s { number = en i; at = from i }) (first i) (er i) more)

-- there is room for them
pub run_room : (payload : List ℕ) (inside end : ℕ) (run : Run) → inside ≤ end → end ≤ length payload → IsRun (part_of payload inside end) run → inside + run.rows + run.count * row_room run.bits ≤ length payload
run_room payload inside end run h k r =
    let room = r.room in
    let long = part_length payload inside end h k in
    omega arith
