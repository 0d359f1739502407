-- How many steps the check of a `moof` takes: by what its boxes say and the samples that were passed, and by its bytes.
use Rattle.std.proofs.Common.{◌≡◌, ℕ, zero, suc, ◌+◌, ◌*◌, ◌≤◌, true, false, Bool, List, [], ◌∷◌, length, drop, map, refl, ap, ◌∙◌, arith}
use Rattle.std.specs.Prelude.{codes, bytes_eq, slice_index}
use Rattle.mp4_boxes.specs.format.Bytes.{rows, sum_of, width_of}
use Rattle.mp4_boxes.specs.format.Layout.{sbgp, row_count}
use Rattle.mp4_boxes.specs.format.Box.{Box, LieEndToEnd, Tiles, box_container, bytes_container, size, sizes}
use Rattle.mp4_boxes.specs.format.Children.{of_kind}
use Rattle.mp4_boxes.proofs.Tiling.{box_size, header_is, sizes-cons, sizes_fit}
use Rattle.mp4_tables.specs.format.Groups.{grouping_of, groupings_of}
use Rattle.mp4_frag.specs.format.Fragments.{sample_run_of, track_fragment_of}
use Rattle.mp4_frag.specs.words.RunsJudged.{children_of}
use Rattle.mp4_frag.specs.words.TrafFaults.{traf_in}
use Rattle.mp4_frag.specs.format.FragmentRows.{group_rows, traf_rows, fragment_rows, moof_says}
use Rattle.mp4_frag.proofs.Comings.{turned}

-- a box takes 8 bytes at least
pub boxes_eight : (is_open : Bool) (at : ℕ) (bytes : List ℕ) (boxes : List Box) → LieEndToEnd is_open at bytes boxes → 8 * length boxes ≤ sizes boxes
boxes_eight is_open at bytes [] l = omega arith
boxes_eight is_open at bytes (b ∷ boxes) l =
    let r = header_is is_open bytes l.0.0 l.0.1 in
    let e : size b ≡ l.0.0.size = ap size l.0.2 ∙ box_size at bytes l.0.0 r in
    omega (arith, sizes-cons b boxes, boxes_eight is_open (at + size b) (drop (size b) bytes) boxes l.1, e, r.length, r.inside)

one_longer : (left later : List Box) (b : Box) → left ≡ b ∷ later → length left ≡ suc (length later)
one_longer left later b e = ap (λ (bs : List Box). length bs) e

one_larger : (left later : List Box) (b : Box) → left ≡ b ∷ later → sizes left ≡ size b + sizes later
one_larger left later b e = ap sizes e ∙ sizes-cons b later

-- ---- sums over the boxes of a type

kept : (kind : List ℕ) (b : Box) (boxes : List Box) → bytes_eq b.kind kind ≡ true → of_kind kind (b ∷ boxes) ≡ b ∷ of_kind kind boxes
kept kind b boxes e = rw (turned kind b.kind ∙ e) refl

-- by what one of them adds
pub sum_one : (kind : List ℕ) (f : Box → ℕ) (left later : List Box) (b : Box) → left ≡ b ∷ later → bytes_eq b.kind kind ≡ true → sum_of f (of_kind kind left) ≡ f b + sum_of f (of_kind kind later)
sum_one kind f left later b e k = ap (λ boxes. sum_of f (of_kind kind boxes)) e ∙ ap (sum_of f) (kept kind b later k)

-- ---- the runs of a `traf`

abbrev pub runs_among : List Box → ℕ
runs_among boxes = sum_of (λ (b : Box). 1) (of_kind (codes "trun") boxes)

runs_said : (runs : List Box) → sum_of (λ (b : Box). 1) runs ≡ length (map (λ (b : Box). sample_run_of b.payload) runs)
runs_said [] = refl
runs_said (b ∷ runs) = let others = runs_said runs in omega (arith, others)

-- one step for each run, and one for each of their samples
pub record RunsCost (all left : List Box) (first steps count : ℕ) : Type 0 where
  pub most : steps + length left ≤ first + count + length all
  pub said : steps + runs_among left ≡ first + count + runs_among all

pub runs_cost_run : (all left later : List Box) (b : Box) (first steps more count longer : ℕ) → RunsCost all left first steps count → left ≡ b ∷ later → bytes_eq b.kind (codes "trun") ≡ true → more + count ≡ steps + 1 + longer → RunsCost all later first more longer
runs_cost_run all left later b first steps more count longer h e is_run k =
    let most = h.most in
    let said = h.said in
    record { most = omega (arith, most, one_longer left later b e, k); said = omega (arith, said, sum_one (codes "trun") (λ (c : Box). 1) left later b e is_run, k) }

runs_fit : (all boxes : List Box) (kind : List ℕ) (base : ℕ) (payload : List ℕ) → all ≡ boxes → Tiles (bytes_container kind base payload) boxes → 8 * length all ≤ length payload
runs_fit all boxes kind base payload same t =
    let eight = boxes_eight false base payload boxes t.front.0 in
    let fit = sizes_fit false base payload boxes t.front.0 in
    omega (arith, eight, fit, ap (λ (bs : List Box). length bs) same)

-- behind the last box
pub runs_cost_said : (all left boxes : List Box) (first steps count : ℕ) → RunsCost all left first steps count → left ≡ [] → all ≡ boxes → steps ≡ first + length (map (λ (b : Box). sample_run_of b.payload) (of_kind (codes "trun") boxes)) + count
runs_cost_said all left boxes first steps count h none same =
    let said = h.said in
    omega (arith, said, ap runs_among none, ap runs_among same, runs_said (of_kind (codes "trun") boxes))

pub runs_cost_ended : (all left boxes : List Box) (kind : List ℕ) (base : ℕ) (payload bytes : List ℕ) (first steps count : ℕ) → RunsCost all left first steps count → all ≡ boxes → Tiles (bytes_container kind base payload) boxes → payload ≡ bytes
    → 8 * steps ≤ 8 * first + length bytes + 8 * count
runs_cost_ended all left boxes kind base payload bytes first steps count h same t p = let most = h.most in omega (arith, most, runs_fit all boxes kind base payload same t, ap (λ (bs : List ℕ). length bs) p)

pub runs_work_ended : (all left boxes : List Box) (kind : List ℕ) (base : ℕ) (payload bytes : List ℕ) (first steps count room whole : ℕ) → RunsCost all left first steps count → all ≡ boxes → Tiles (bytes_container kind base payload) boxes → payload ≡ bytes
    → count + room ≡ whole → 8 * steps ≤ 8 * first + length bytes + 8 * whole
runs_work_ended all left boxes kind base payload bytes first steps count room whole h same t p k = omega (arith, runs_cost_ended all left boxes kind base payload bytes first steps count h same t p, k)

pub runs_cost_fault : (all left later boxes : List Box) (b : Box) (kind : List ℕ) (base : ℕ) (payload bytes : List ℕ) (first steps more count room whole : ℕ) → RunsCost all left first steps count → left ≡ b ∷ later → all ≡ boxes → Tiles (bytes_container kind base payload) boxes
    → payload ≡ bytes → count + room ≡ whole → more ≤ steps + 1 + room → 8 * more ≤ 8 * first + length bytes + 8 * whole
runs_cost_fault all left later boxes b kind base payload bytes first steps more count room whole h e same t p k l =
    let most = h.most in omega (arith, most, one_longer left later b e, runs_fit all boxes kind base payload same t, ap (λ (bs : List ℕ). length bs) p, k, l)

-- ---- its `sbgp`s

abbrev pub rows_among : List Box → ℕ
rows_among boxes = sum_of (λ (b : Box). row_count sbgp b.payload) (of_kind (codes "sbgp") boxes)

-- as many rows are read as were asked for
pub many_rows : (n : ℕ) (widths bytes : List ℕ) → length {A = ℕ × ℕ} (map (λ row. (slice_index row 0, slice_index row 1)) (rows n widths bytes)) ≡ n
many_rows zero widths bytes = refl
many_rows (suc n) widths bytes = ap suc (many_rows n widths (drop (width_of widths) bytes))

rows_said : (groups : List Box) → sum_of (λ (b : Box). row_count sbgp b.payload) groups ≡ group_rows (groupings_of groups)
rows_said [] = refl
rows_said (b ∷ groups) =
    let one : length (grouping_of b.payload).rows ≡ row_count sbgp b.payload = many_rows (row_count sbgp b.payload) _ _ in
    let others = rows_said groups in
    omega (arith, one, others)

-- a step for each row, which takes 8 bytes
pub record GroupsCost (all left : List Box) (first steps : ℕ) : Type 0 where
  pub most : 8 * steps + sizes left ≤ 8 * first + sizes all
  pub said : steps + rows_among left ≡ first + rows_among all

pub groups_cost_none : (all : List Box) (steps : ℕ) → GroupsCost all all steps steps
groups_cost_none all steps = record { most = omega arith; said = omega arith }

pub groups_cost_more : (all left later : List Box) (b : Box) (payload : List ℕ) (first steps more : ℕ) → GroupsCost all left first steps → left ≡ b ∷ later → bytes_eq b.kind (codes "sbgp") ≡ true → payload ≡ b.payload
    → more ≡ steps + row_count sbgp payload → 8 * more ≤ 8 * steps + length payload → GroupsCost all later first more
groups_cost_more all left later b payload first steps more h e is_group p k l =
    let most = h.most in
    let said = h.said in
    record {
      most = omega (arith, most, one_larger left later b e, l, ap (λ (bs : List ℕ). length bs) p);
      said = omega (arith, said, sum_one (codes "sbgp") (λ (c : Box). row_count sbgp c.payload) left later b e is_group, k, ap (row_count sbgp) p);
    }

-- behind the last box
pub groups_cost_said : (all left boxes : List Box) (first steps : ℕ) → GroupsCost all left first steps → left ≡ [] → all ≡ boxes → steps ≡ first + group_rows (groupings_of (of_kind (codes "sbgp") boxes))
groups_cost_said all left boxes first steps h none same =
    let said = h.said in
    omega (arith, said, ap rows_among none, ap rows_among same, rows_said (of_kind (codes "sbgp") boxes))

-- ---- the `traf`s of a `moof`

abbrev pub trafs_among : List Box → ℕ
trafs_among boxes = sum_of (λ (b : Box). traf_rows (traf_in b)) (of_kind (codes "traf") boxes)

trafs_said : (trafs : List Box) → sum_of (λ (b : Box). traf_rows (traf_in b)) trafs ≡ sum_of traf_rows (map track_fragment_of (map children_of trafs))
trafs_said [] = refl
trafs_said (b ∷ trafs) = ap (λ n. traf_rows (traf_in b) + n) (trafs_said trafs)

-- what they cost, with a step for each
pub record MoofCost (all left : List Box) (first whole steps room : ℕ) : Type 0 where
  pub most : 8 * steps + 8 * room + (8 * length left + 3 * sizes left) ≤ 8 * first + 8 * whole + (8 * length all + 3 * sizes all)
  pub said : steps + room + trafs_among left ≡ first + whole + trafs_among all

pub moof_cost_traf : (all left later : List Box) (b : Box) (first whole steps more room less : ℕ) → MoofCost all left first whole steps room → left ≡ b ∷ later → bytes_eq b.kind (codes "traf") ≡ true
    → more + less + 1 ≡ steps + 1 + room + traf_rows (traf_in b) → 8 * more + 8 * less ≤ 8 * (steps + 1) + 8 * room + 3 * length b.payload → MoofCost all later first whole more less
moof_cost_traf all left later b first whole steps more room less h e is_traf k l =
    let most = h.most in
    let said = h.said in
    record { most = omega (arith, most, one_larger left later b e, one_longer left later b e, l); said = omega (arith, said, sum_one (codes "traf") (λ (c : Box). traf_rows (traf_in c)) left later b e is_traf, k) }

trafs_fit : (all boxes : List Box) (moof : Box) → all ≡ boxes → Tiles (box_container moof) boxes → 8 * length all + 3 * sizes all ≤ 4 * length moof.payload
trafs_fit all boxes moof same tiles =
    let eight = boxes_eight false (moof.offset + moof.header) moof.payload boxes tiles.front.0 in
    let fit = sizes_fit false (moof.offset + moof.header) moof.payload boxes tiles.front.0 in
    omega (arith, eight, fit, ap (λ (bs : List Box). length bs) same, ap sizes same)

-- behind the last box
pub moof_cost_said : (all left : List Box) (moof : Box) (first whole steps room : ℕ) → MoofCost all left first whole steps room → left ≡ [] → all ≡ children_of moof → steps + room ≡ first + whole + fragment_rows (moof_says moof)
moof_cost_said all left moof first whole steps room h none same =
    let said = h.said in
    omega (arith, said, ap trafs_among none, ap trafs_among same, trafs_said (of_kind (codes "traf") (children_of moof)))

pub moof_cost_ended : (all left boxes : List Box) (moof : Box) (first whole steps room : ℕ) → MoofCost all left first whole steps room → all ≡ boxes → Tiles (box_container moof) boxes
    → 2 * steps + 2 * room ≤ 2 * first + 2 * whole + length moof.payload
moof_cost_ended all left boxes moof first whole steps room h same tiles = let most = h.most in omega (arith, most, trafs_fit all boxes moof same tiles)

pub moof_cost_fault : (all left later boxes : List Box) (b : Box) (moof : Box) (first whole steps more room : ℕ) → MoofCost all left first whole steps room → left ≡ b ∷ later → all ≡ boxes → Tiles (box_container moof) boxes
    → 8 * more ≤ 8 * (steps + 1) + 8 * room + 3 * length b.payload → 2 * more ≤ 2 * first + 2 * whole + length moof.payload
moof_cost_fault all left later boxes b moof first whole steps more room h e same tiles k =
    let most = h.most in
    omega (arith, most, one_larger left later b e, one_longer left later b e, trafs_fit all boxes moof same tiles, k)
