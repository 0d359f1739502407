-- What the boxes of a `traf` cost a walk, as it passes them.
use Rattle.std.proofs.Common.{◌≡◌, ℕ, suc, ◌+◌, ◌-◌, ◌≤◌, true, cond, List, ◌∷◌, length, refl, sym, ap, ◌∙◌, arith}
use Rattle.std.specs.Prelude.{codes, bytes_eq}
use Rattle.mp4_boxes.specs.format.Box.{Box}
use Rattle.mp4_boxes.specs.format.Layout.{trun, row_count}
use Rattle.mp4_frag.specs.words.PlacesIn.{run_work, runs_work, groups_work, traf_work, work_behind}
use Rattle.mp4_frag.specs.words.Reading.{IsRun}
use Rattle.mp4_frag.specs.words.Walks.{boxes_from, part_of}
use Rattle.mp4_frag.specs.declared.trun.Run.{Run}
use Rattle.mp4_frag.proofs.BoxPlaces.{box_end}
use Rattle.mp4_frag.proofs.Comings.{turned}
use Rattle.mp4_frag.proofs.LeavesRead.{read}

-- the box at a place
abbrev box_here : List ℕ → ℕ → ℕ → ℕ → List ℕ → Box
box_here payload at inside end kind = record { kind = kind; offset = at; header = inside - at; payload = part_of payload inside end }

-- before the first of them
pub work_opened : (payload : List ℕ) (passed more : ℕ) → passed ≡ 1 → more ≤ passed + groups_work (boxes_from payload 0) → more + 0 + work_behind payload 0 ≤ traf_work payload
unfolding work_behind traf_work
work_opened payload passed more one few = omega (arith, one, few)

-- and where none of them is passed
pub work_none : (payload : List ℕ) (passed more next : ℕ) → passed ≡ 1 → more ≤ passed + groups_work (boxes_from payload 0) → next ≡ length payload → more + 0 + work_behind payload next ≤ traf_work payload
unfolding work_behind traf_work
work_none payload passed more next one few last = omega (arith, one, few, ap runs_work (box_end payload next (length payload) (omega (arith, last))))

-- another leaf
pub work_leaf : (payload : List ℕ) (next inside behind : ℕ) (kind : List ℕ) → boxes_from payload next ≡ box_here payload next inside behind kind ∷ boxes_from payload behind → work_behind payload behind ≤ work_behind payload next
unfolding work_behind
work_leaf payload next inside behind kind e = let all = ap runs_work e in omega (arith, all)

-- the end
pub work_ended : (payload : List ℕ) (next : ℕ) → work_behind payload (length payload) ≤ work_behind payload next
unfolding work_behind
work_ended payload next = omega (arith, ap runs_work (box_end payload (length payload) (length payload) (omega arith)))

one_run : (b : Box) (boxes : List Box) → bytes_eq b.kind (codes "trun") ≡ true → runs_work (b ∷ boxes) ≡ run_work b.payload + runs_work boxes
one_run b boxes e = rw (turned (codes "trun") b.kind ∙ e) refl

-- a run
pub work_run : (payload : List ℕ) (passed left next inside behind : ℕ) (kind : List ℕ) → boxes_from payload next ≡ box_here payload next inside behind kind ∷ boxes_from payload behind → bytes_eq kind (codes "trun") ≡ true
    → passed + left + work_behind payload next ≤ traf_work payload → passed + run_work (part_of payload inside behind) + work_behind payload behind ≤ traf_work payload
unfolding work_behind
work_run payload passed left next inside behind kind e k h =
    let all = ap runs_work e ∙ one_run (box_here payload next inside behind kind) (boxes_from payload behind) k in
    omega (arith, all, h)

-- a run that can be read costs a step, and one for each of its rows
pub run_cost : (payload : List ℕ) (run : Run) → IsRun payload run → run_work payload ≡ suc run.count
run_cost payload run r = ap (λ v. suc (cond v (row_count trun payload) 0)) (read trun payload r.readable) ∙ ap suc (sym r.count)

-- before the rows of a run, and behind them
pub own_work : (run passed more rows rest most : ℕ) → run ≡ suc rows → more ≤ passed + 1 → passed + run + rest ≤ most → more + rows + rest ≤ most
own_work run passed more rows rest most e l h = omega arith

-- what the `sbgp`s left cost falls from box to box
pub groups_fall : (payload : List ℕ) (at inside behind : ℕ) (kind : List ℕ) → boxes_from payload at ≡ box_here payload at inside behind kind ∷ boxes_from payload behind → groups_work (boxes_from payload behind) ≤ groups_work (boxes_from payload at)
groups_fall payload at inside behind kind e = let all = ap groups_work e in omega (arith, all)
