-- A walk over a `traf` costs no more than its boxes say.
use Rattle.std.proofs.Common.{◌≡◌, ℕ, zero, suc, ◌+◌, ◌*◌, ◌≤◌, nat_le, ◌&&◌, false, Bool, true, cond, List, [], ◌∷◌, length, drop, map, Result, Ok, Err, refl, ap, ◌∙◌, rules, arith}
use Rattle.std.specs.Prelude.{ℤ, pos, codes, bytes_eq}
use Rattle.std.proofs.lemmas.Bool.{and_parts}
use Rattle.mp4_boxes.specs.format.Bytes.{sum_of}
use Rattle.mp4_boxes.specs.format.Box.{Box, Header, LieEndToEnd, header_at, box_of, box_and_more, first_boxes, size, sizes}
use Rattle.mp4_boxes.specs.format.Children.{of_kind}
use Rattle.mp4_boxes.specs.format.Layout.{trun, sbgp, row_count, needed, knows_version, knows_flags}
use Rattle.mp4_boxes.specs.declared.fault.Kind.{Kind}
use Rattle.mp4_boxes.proofs.Tiling.{header_is, sizes_fit}
use Rattle.mp4_tables.specs.format.Groups.{grouping_of, groupings_of}
use Rattle.mp4_frag.specs.format.Fragments.{SampleRun, TrackFragment, sample_run_of, track_fragment_of}
use Rattle.mp4_frag.specs.words.Judged.{AreMovedOn, end_with}
use Rattle.mp4_frag.specs.words.OwnTrafs.{traf_steps}
use Rattle.mp4_frag.specs.words.PlacesIn.{run_work, runs_work, group_work, groups_work, traf_work, IsPlaceIn}
use Rattle.mp4_frag.specs.words.RunsJudged.{children_of, runs_in, runs_total}
use Rattle.mp4_frag.specs.words.TrafFaults.{HoldsBoxes}
use Rattle.mp4_frag.specs.words.Walks.{can_read}
use Rattle.mp4_frag.specs.format.FragmentRows.{group_rows, fragment_length, moof_says}
use Rattle.mp4_frag.specs.declared.places.TrafPlace.{TrafPlace}
use Rattle.mp4_frag.specs.declared.state.TrackState.{TrackState}
use Rattle.mp4_frag.proofs.BoxPlaces.{all_boxes}
use Rattle.mp4_frag.proofs.Costs.{many_rows}
use Rattle.mp4_frag.proofs.PartReasons.{part_counts}
use Rattle.mp4_frag.proofs.DurationsKept.{rows_count}

-- ---- what boxes cost does not depend on where they are said to lie

runs_by : (at to : ℕ) (bytes : List ℕ) (r : Result Header Kind) (f g : Header → List Box) → ((h : Header) → runs_work (f h) ≡ runs_work (g h)) → runs_work (box_and_more at bytes r f) ≡ runs_work (box_and_more to bytes r g)
runs_by at to bytes (Ok h) f g e = λ i. cond (bytes_eq (codes "trun") h.kind) (run_work (box_of at bytes h).payload) 0 + e h i
runs_by at to bytes (Err kind) f g e = refl

runs_same : (n at to : ℕ) (bytes : List ℕ) → runs_work (first_boxes n at bytes) ≡ runs_work (first_boxes n to bytes)
runs_same zero at to bytes = refl
runs_same (suc n) at to bytes =
    runs_by at to bytes (header_at false bytes) (λ h. first_boxes n (at + h.size) (drop h.size bytes)) (λ h. first_boxes n (to + h.size) (drop h.size bytes)) (λ h. runs_same n (at + h.size) (to + h.size) (drop h.size bytes))

groups_by : (at to : ℕ) (bytes : List ℕ) (r : Result Header Kind) (f g : Header → List Box) → ((h : Header) → groups_work (f h) ≡ groups_work (g h)) → groups_work (box_and_more at bytes r f) ≡ groups_work (box_and_more to bytes r g)
groups_by at to bytes (Ok h) f g e = λ i. cond (bytes_eq (codes "sbgp") h.kind) (group_work (box_of at bytes h).payload) 0 + e h i
groups_by at to bytes (Err kind) f g e = refl

groups_same : (n at to : ℕ) (bytes : List ℕ) → groups_work (first_boxes n at bytes) ≡ groups_work (first_boxes n to bytes)
groups_same zero at to bytes = refl
groups_same (suc n) at to bytes =
    groups_by at to bytes (header_at false bytes) (λ h. first_boxes n (at + h.size) (drop h.size bytes)) (λ h. first_boxes n (to + h.size) (drop h.size bytes)) (λ h. groups_same n (at + h.size) (to + h.size) (drop h.size bytes))

-- a walk costs what the boxes of the `traf` do
work_is : (traf : Box) → traf_work traf.payload ≡ suc (groups_work (children_of traf) + runs_work (children_of traf))
unfolding traf_work
work_is traf =
    let n = length traf.payload in
    let to = traf.offset + traf.header in
    let all = all_boxes traf.payload in
    let groups = ap groups_work all ∙ groups_same n 0 to traf.payload in
    let runs = ap runs_work all ∙ runs_same n 0 to traf.payload in
    λ i. suc (groups i + runs i)

-- ---- by boxes and rows

no_more : (v : Bool) (n : ℕ) → cond v n 0 ≤ n
no_more true n = omega arith
no_more false n = omega arith

-- a row of an `sbgp` takes 8 bytes
group_fits : (payload : List ℕ) → 8 * group_work payload ≤ length payload
group_fits payload = choice (can_read sbgp payload) refl
  where
    choice : (v : Bool) → can_read sbgp payload ≡ v → 8 * cond v (row_count sbgp payload) 0 ≤ length payload
    choice false e = omega arith
    choice true e =
        let behind = and_parts (knows_version sbgp payload) (knows_flags sbgp payload && nat_le (needed sbgp payload) (length payload)) e in
        let last = and_parts (knows_flags sbgp payload) (nat_le (needed sbgp payload) (length payload)) behind.1 in
        let room : needed sbgp payload ≤ length payload = search (rules, last.1) in
        omega (arith, room)

few_box : (v w : Bool) (b : Box) (boxes kept : List Box) → 8 ≤ b.header → 8 * (groups_work boxes + runs_work boxes) ≤ sizes boxes + 8 * runs_total kept
    → 8 * ((cond v (group_work b.payload) 0 + groups_work boxes) + (cond w (run_work b.payload) 0 + runs_work boxes)) ≤ (size b + sizes boxes) + 8 * runs_total (cond w (b ∷ kept) kept)
few_box v w b boxes kept long h =
    let groups = no_more v (group_work b.payload) in
    choice w groups
  where
    choice : (w : Bool) → cond v (group_work b.payload) 0 ≤ group_work b.payload → 8 * ((cond v (group_work b.payload) 0 + groups_work boxes) + (cond w (run_work b.payload) 0 + runs_work boxes)) ≤ (size b + sizes boxes) + 8 * runs_total (cond w (b ∷ kept) kept)
    choice true groups = let few = no_more (can_read trun b.payload) (row_count trun b.payload) in omega (arith, groups, few, group_fits b.payload, long, h)
    choice false groups = omega (arith, groups, group_fits b.payload, long, h)

few_boxes : (at : ℕ) (bytes : List ℕ) (boxes : List Box) → LieEndToEnd false at bytes boxes → 8 * (groups_work boxes + runs_work boxes) ≤ sizes boxes + 8 * runs_total (of_kind (codes "trun") boxes)
few_boxes at bytes [] l = omega arith
few_boxes at bytes (b ∷ boxes) l =
    let long : 8 ≤ b.header = omega (arith, ap (λ (c : Box). c.header) l.0.2, (header_is false bytes l.0.0 l.0.1).length) in
    few_box (bytes_eq (codes "sbgp") b.kind) (bytes_eq (codes "trun") b.kind) b boxes (of_kind (codes "trun") boxes) long (few_boxes (at + size b) (drop (size b) bytes) boxes l.1)

few_inside : (b : Box) → HoldsBoxes b → 8 * (groups_work (children_of b) + runs_work (children_of b)) ≤ length b.payload + 8 * runs_total (runs_in b)
few_inside b h =
    let t = h.tiles in
    let few = few_boxes (b.offset + b.header) b.payload (children_of b) t.front.0 in
    let fit = sizes_fit false (b.offset + b.header) b.payload (children_of b) t.front.0 in
    omega arith

-- eight times as many steps as a walk takes are no more than the bytes of the `traf`, and eight times its samples
pub walk_bounded : (b : Box) → HoldsBoxes b → 8 ≤ b.header → 8 * traf_work b.payload ≤ size b + 8 * runs_total (runs_in b)
walk_bounded b h long = omega (arith, work_is b, few_inside b h, long)

-- ---- the samples of a `moof`

-- how many samples the runs of `traf`s have
abbrev pub trafs_samples : List Box → ℕ
trafs_samples trafs = sum_of (λ (b : Box). runs_total (runs_in b)) trafs

taken_one : (less rest n m more room : ℕ) → rest + n ≡ room → n ≡ m → less + more ≡ rest → less + (m + more) ≡ room
taken_one less rest n m more room a b c = omega arith

-- their samples were taken of the room
pub samples_taken : (moof : ℕ) (before : ℤ) (trafs : List Box) (old new : List TrackState) (room less : ℕ) → AreMovedOn moof before trafs old new room less → less + trafs_samples trafs ≡ room
samples_taken moof before [] old new room less m = let same = m.1 in omega arith
samples_taken moof before (b ∷ trafs) old new room less m =
    let one = m.2.0 in
    taken_one less m.1 _ (runs_total (runs_in b)) (trafs_samples trafs) room one.taken (part_counts moof before one.trex (children_of b))
    (samples_taken moof (end_with moof before one.trex (track_fragment_of (children_of b))) trafs m.0 new m.1 less m.2.1)

-- ---- by what the boxes say

-- runs, and their samples
abbrev runs_say : List SampleRun → ℕ
runs_say runs = length runs + sum_of (λ (run : SampleRun). length run.rows) runs

said_run : (v : Bool) (b : Box) (boxes kept : List Box) → runs_work boxes ≤ runs_say (map (λ (c : Box). sample_run_of c.payload) kept) → cond v (run_work b.payload) 0 + runs_work boxes ≤ runs_say (map (λ (c : Box). sample_run_of c.payload) (cond v (b ∷ kept) kept))
said_run true b boxes kept h =
    let few = no_more (can_read trun b.payload) (row_count trun b.payload) in
    let count : length (sample_run_of b.payload).rows ≡ row_count trun b.payload = rows_count (row_count trun b.payload) _ _ _ in
    omega (arith, h, few, count)
said_run false b boxes kept h = omega (arith, h)

said_runs : (boxes : List Box) → runs_work boxes ≤ runs_say (map (λ (c : Box). sample_run_of c.payload) (of_kind (codes "trun") boxes))
said_runs [] = omega arith
said_runs (b ∷ boxes) = said_run (bytes_eq (codes "trun") b.kind) b boxes (of_kind (codes "trun") boxes) (said_runs boxes)

said_group : (v : Bool) (b : Box) (boxes kept : List Box) → groups_work boxes ≤ group_rows (groupings_of kept) → cond v (group_work b.payload) 0 + groups_work boxes ≤ group_rows (groupings_of (cond v (b ∷ kept) kept))
said_group true b boxes kept h =
    let few = no_more (can_read sbgp b.payload) (row_count sbgp b.payload) in
    let count : length (grouping_of b.payload).rows ≡ row_count sbgp b.payload = many_rows (row_count sbgp b.payload) _ _ in
    omega (arith, h, few, count)
said_group false b boxes kept h = omega (arith, h)

said_groups : (boxes : List Box) → groups_work boxes ≤ group_rows (groupings_of (of_kind (codes "sbgp") boxes))
said_groups [] = omega arith
said_groups (b ∷ boxes) = said_group (bytes_eq (codes "sbgp") b.kind) b boxes (of_kind (codes "sbgp") boxes) (said_groups boxes)

-- a walk takes no more steps than one for the `traf`, its runs, rows of `sbgp` and samples
pub walk_said : (traf : Box) → traf_work traf.payload ≤ traf_steps traf
unfolding traf_steps
walk_said traf = omega (arith, work_is traf, said_runs (children_of traf), said_groups (children_of traf))

-- so to each of its places
pub place_said : (traf : Box) (place : TrafPlace) → IsPlaceIn traf.payload place → place.passed ≤ traf_steps traf
place_said traf place p = let work = p.lies.work in omega (arith, work, walk_said traf)

length_said : (trafs : List Box) → sum_of (λ (traf : TrackFragment). sum_of (λ (run : SampleRun). length run.rows) traf.runs) (map track_fragment_of (map children_of trafs)) ≡ trafs_samples trafs
length_said [] = refl
length_said (b ∷ trafs) = let one = runs_length (runs_in b) in let others = length_said trafs in omega (arith, one, others)
  where
    runs_length : (runs : List Box) → sum_of (λ (run : SampleRun). length run.rows) (map (λ (c : Box). sample_run_of c.payload) runs) ≡ runs_total runs
    runs_length [] = refl
    runs_length (c ∷ runs) =
        let count : length (sample_run_of c.payload).rows ≡ row_count trun c.payload = rows_count (row_count trun c.payload) _ _ _ in
        let others = runs_length runs in
        omega (arith, count, others)

-- the samples of a `moof`
pub samples_said : (moof : Box) → fragment_length (moof_says moof) ≡ trafs_samples (of_kind (codes "traf") (children_of moof))
samples_said moof = length_said (of_kind (codes "traf") (children_of moof))

-- the samples of a `moof` that was accepted were taken of the room
pub length_taken : (tracks after : List TrackState) (moof : Box) (room less : ℕ) → AreMovedOn moof.offset (pos moof.offset) (of_kind (codes "traf") (children_of moof)) tracks after room less → less + fragment_length (moof_says moof) ≡ room
length_taken tracks after moof room less m =
    omega (arith, samples_taken moof.offset (pos moof.offset) (of_kind (codes "traf") (children_of moof)) tracks after room less m, samples_said moof)
