use Rattle.std.proofs.Common.{◌≡◌, ◌∙◌, ap, to_z, of_z, rules}
use Rattle.std.specs.Prelude.{pos, ◌+ℤ◌}
use Rattle.std.specs.Int.{w128}
use Rattle.mp4_frag.specs.words.MoofWalks.{start_held}
use Rattle.mp4_frag.specs.words.Passing.{filling}
use Rattle.mp4_frag.specs.words.Walks.{held, part_of}
use Rattle.mp4_frag.proofs.LeavesRead.{rows_taken}
use Rattle.mp4_frag.proofs.MoofSteps.{run_ends}
use Rattle.mp4_frag.proofs.data_ends.run_end.Goals as goal

pub returns : goal.returns
returns c =
    let payload = c.args.payload.now in
    let lying = c.args.lying in
    let run = c.in-Ok.run' in
    let kept : to_z w128 (of_z w128 c.saturating_add.result) ≡ c.saturating_add.result = search rules in
    let base : to_z w128 (of_z w128 c.args.base) ≡ c.args.base = search rules in
    let before : to_z w128 (of_z w128 c.args.before) ≡ c.args.before = search rules in
    let start = c.start_of-start.ensures ∙ (λ i. start_held (base i) (before i) run.data_offset) in
    let bytes = c.rows_bytes.ensures ∙ ap (filling c.args.inherited) (rows_taken payload lying.inside lying.end run c.row_size.result run.first_flags c.requires.inside c.requires.within c.in-Ok.ensures.run) in
    let ends : c.saturating_add.result ≡ held (c.start_of-start.result +ℤ pos c.rows_bytes.result) = search rules in
    kept ∙ run_ends c.args.inherited c.args.base c.args.before c.start_of-start.result _ c.rows_bytes.result (part_of payload lying.inside lying.end) run c.in-Ok.ensures.run start bytes ends
