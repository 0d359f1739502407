use Rattle.std.proofs.Common.{refl}
use Rattle.mp4_answers.proofs.LaneLaws.{slice_index-lane}
use Rattle.mp4_answers.proofs.digests.lanes.round.Goals as goal

pub returns : goal.returns
returns c l lt =
    let v = c.args.v in
    rw (
      c.add-3.ensures l lt,
      c.add-4.ensures l lt,
      c.add-temp1.ensures l lt,
      c.add-temp2.ensures l lt,
      c.add_to_all-with_key.ensures l lt,
      c.add-2.ensures l lt,
      c.add.ensures l lt,
      c.big_sigma1.ensures l lt,
      c.ch.ensures l lt,
      c.big_sigma0.ensures l lt,
      c.maj.ensures l lt,
      slice_index-lane l v 0,
      slice_index-lane l v 1,
      slice_index-lane l v 2,
      slice_index-lane l v 3,
      slice_index-lane l v 4,
      slice_index-lane l v 5,
      slice_index-lane l v 6,
      slice_index-lane l v 7,
    )
    refl
