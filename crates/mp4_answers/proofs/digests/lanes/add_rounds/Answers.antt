use Rattle.std.proofs.Common.{refl}
use Rattle.mp4_answers.proofs.LaneLaws.{slice_index-lane}
use Rattle.mp4_answers.proofs.digests.lanes.add_rounds.Goals as goal

pub returns : goal.returns
returns c l lt =
    let state = c.args.state in
    let v = c.args.v in
    rw (
      c.add.ensures l lt,
      c.add-2.ensures l lt,
      c.add-3.ensures l lt,
      c.add-4.ensures l lt,
      c.add-5.ensures l lt,
      c.add-6.ensures l lt,
      c.add-7.ensures l lt,
      c.add-8.ensures l lt,
      slice_index-lane l state 0,
      slice_index-lane l state 1,
      slice_index-lane l state 2,
      slice_index-lane l state 3,
      slice_index-lane l state 4,
      slice_index-lane l state 5,
      slice_index-lane l state 6,
      slice_index-lane l state 7,
      slice_index-lane l v 0,
      slice_index-lane l v 1,
      slice_index-lane l v 2,
      slice_index-lane l v 3,
      slice_index-lane l v 4,
      slice_index-lane l v 5,
      slice_index-lane l v 6,
      slice_index-lane l v 7,
    )
    refl
