use Rattle.std.proofs.Common.{◌≡◌, ◌∙◌, to_z, of_z, rules}
use Rattle.std.specs.Int.{w128}
use Rattle.mp4_frag.specs.words.MoofWalks.{runs_end_held}
use Rattle.mp4_frag.specs.words.Walks.{boxes_from}
use Rattle.mp4_frag.proofs.BoxPlaces.{box_end}
use Rattle.mp4_frag.proofs.MoofSteps.{end_done}
use Rattle.mp4_frag.proofs.data_ends.data_end.Goals as goal

pub returns : goal.returns
returns c =
    let payload = c.args.payload.now in
    let kept : to_z w128 (of_z w128 c.args.base) ≡ c.args.base = search rules in
    let last = end_done payload c.args.inherited _ _ c.loop-at.at (box_end payload c.loop-at.at _ c.loop-at-test.false) in
    last ∙ c.loop-at.invariant.whole ∙ (λ i. runs_end_held c.args.inherited (kept i) (kept i) (boxes_from payload 0))
