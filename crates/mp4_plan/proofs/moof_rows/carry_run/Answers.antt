use Rattle.std.proofs.Common.{List, ℕ, ◌∙◌, rules, arith}
use Rattle.mp4_plan.specs.words.Spelling.{run_row}
use Rattle.mp4_present.proofs.Latched.{goes_as, goes_nothing}
use Rattle.mp4_plan.proofs.RowBytes.{rows_more}
use Rattle.mp4_plan.proofs.moof_rows.carry_run.Goals as goal

pub loop-done-init : goal.loop-done-init
loop-done-init g c = record { bytes = goes_nothing g.K.Sink _ g.met.K.Sink.takes_on (g.met.K.Sink.takes_nothing _); within = omega arith }

pub loop-done-preserved : goal.loop-done-preserved
loop-done-preserved g c =
    let piece : List ℕ = c.as_bytes.result.now in
    record {
      bytes = goes_as g.K.Sink _ piece _ c.loop-done.invariant.bytes c.put.ensures (rows_more (run_row c.args.planned.now) c.args.rows.now c.loop-done.done c.min-end.result piece (search rules) (c.as_bytes.ensures ∙ c.spell_rows.ensures));
      within = search rules;
    }
