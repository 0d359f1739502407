use Rattle.std.proofs.Common.{rules, ap, ◌∙◌}
use Rattle.std.proofs.lemmas.Int.{to_z-of_z}
use Rattle.std.specs.Int.{w32, w64}
use Rattle.std.specs.Prelude.{FitsSigned}
use Rattle.mp4_content.specs.words.ComingLess.{cto_left, near_offset}
use Rattle.mp4_content.proofs.ReducedTaken.{near_left_is}
use Rattle.mp4_content.proofs.reduced.Reduction.near.Goals as goal

pub returns : goal.returns
returns c =
    let r = c.args.self in
    let fits : FitsSigned w32 c.args.offset = search rules in
    let far : FitsSigned w64 c.offset.result = search rules in
    let near : FitsSigned w32 c.near_offset.result = search rules in
    to_z-of_z w32 c.near_offset.result near ∙ c.near_offset.ensures ∙ ap near_offset (to_z-of_z w64 c.offset.result far ∙ c.offset.ensures ∙ ap (cto_left r) (to_z-of_z w32 c.args.offset fits)) ∙ near_left_is r c.args.offset fits
