use Rattle.std.proofs.Common.{ℕ, List, ap, ◌∙◌, ◌++◌, sym}
use Rattle.mp4_tables.specs.words.Keys.{key_seen}
use Rattle.mp4_plan.specs.words.Spelling.{group_rows}
use Rattle.mp4_plan.specs.words.UsedKeys.{group_front, group_bytes}
use Rattle.mp4_present.proofs.Latched.{goes_as}
use Rattle.mp4_plan.proofs.moof_rows.carry_group.Goals as goal

pub returns : goal.returns
unfolding group_bytes
returns g c =
    let rows = group_rows c.args.used.place c.args.rows.now in
    let is = c.as_bytes.ensures ∙ c.group_front-front.ensures ∙ ap (group_front (key_seen c.args.used.key)) c.rows_at.ensures in
    goes_as g.K.Sink c.as_bytes.result.now rows _ c.put.ensures c.carry_indexes.ensures (ap (λ (l : List ℕ). l ++ rows) (sym is))
