use Rattle.std.proofs.Common.{◌≡◌, ◌+◌, ◌≤◌, to_z, of_z, arith, rules}
use Rattle.std.specs.Int.{w128}
use Rattle.mp4_frag.specs.words.Walks.{number_here, reached, part_of}
use Rattle.mp4_frag.proofs.LeavesRead.{run_skipped, run_room, rows_taken, run_own}
use Rattle.mp4_frag.proofs.RowsLeft.{no_rows}
use Rattle.mp4_frag.proofs.WalkWork.{run_cost, own_work}
use Rattle.mp4_frag.proofs.opened_runs.open_run.Goals as goal

pub returns-in_default-clause-coming : goal.returns-in_default-clause-coming
returns-in_default-clause-coming c more =
    let part = part_of c.args.payload.now c.args.lying.inside c.args.lying.end in
    run_skipped (reached c.args.payload.now c.args.place.now) part _ c.args.place.now.run.first_flags _ more c.in_default.ensures.fault c.in_default.ensures.unread (no_rows c.args.payload.now c.args.place.now.run c.requires.none)

pub returns-clause-place : goal.returns-clause-place
returns-clause-place c =
    let p = c.requires.place in
    record {
      next = c.requires.lies.within;
      rows = run_room c.args.payload.now c.args.lying.inside c.args.lying.end c.in-Ok.run' c.requires.lies.inside c.requires.lies.within c.in-Ok.ensures.run;
      width = c.row_size.ensures.is;
      indexes = p.indexes;
      number = search rules;
      work = own_work _ c.args.place.now.passed _ c.in-Ok.run'.count _ _ (run_cost (part_of c.args.payload.now c.args.lying.inside c.args.lying.end) c.in-Ok.run' c.in-Ok.ensures.run) (let more : c.saturating_add-place.result ≤ c.args.place.now.passed + 1 = search rules in more) c.requires.work;
    }

pub returns-clause-coming : goal.returns-clause-coming
returns-clause-coming c more =
    let part = part_of c.args.payload.now c.args.lying.inside c.args.lying.end in
    let base : to_z w128 (of_z w128 c.args.place.now.base) ≡ c.args.place.now.base = search rules in
    let run = c.in-Ok.run' in
    let rows = rows_taken c.args.payload.now c.args.lying.inside c.args.lying.end run _ run.first_flags c.requires.lies.inside c.requires.lies.within c.in-Ok.ensures.run in
    let number : number_here c.saturating_add-place-2.result run.count ≡ number_here c.args.place.now.number c.args.place.now.run.left = omega (arith, c.saturating_add-place-2.ensures, c.from.ensures, c.requires.none) in
    run_own (reached c.args.payload.now c.args.place.now) part run _ c.begin-place.result _ more c.in-Ok.ensures.run number (rw base at c.begin-place.ensures) rows
