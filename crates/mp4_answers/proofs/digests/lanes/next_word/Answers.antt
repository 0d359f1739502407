use Rattle.std.proofs.Common.{◌≡◌, ◌+◌, ◌%◌, arith, refl}
use Rattle.mp4_answers.proofs.LaneLaws.{slice_index-lane, lane-slice_set}
use Rattle.mp4_answers.proofs.digests.lanes.next_word.Goals as goal

pub returns-clause-value : goal.returns-clause-value
returns-clause-value c l lt =
    let w = c.args.w.now in
    let place = c.args.place in
    let at : place % 16 ≡ place = omega (arith, c.requires) in
    rw (
      c.add-word.ensures l lt,
      c.add.ensures l lt,
      c.add-late.ensures l lt,
      c.small_sigma1.ensures l lt,
      c.small_sigma0-early.ensures l lt,
      at,
      slice_index-lane l w ((place + 14) % 16),
      slice_index-lane l w ((place + 9) % 16),
      slice_index-lane l w ((place + 1) % 16),
      slice_index-lane l w place,
    )
    refl

pub returns-clause-window : goal.returns-clause-window
returns-clause-window c l lt = lane-slice_set l c.args.w.now c.args.place c.add-word.result
