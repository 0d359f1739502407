use Rattle.mp4_answers.proofs.FieldParts.{on_ok}
use Rattle.mp4_answers.proofs.text.field_lines.push_notes.Goals as goal
use Rattle.mp4_plan.proofs.Pushes.{behind}

pub returns : goal.returns
returns c =
    let missing = rw c.saturating_sub.ensures at c.in_ok-push_some.ensures in
    on_ok c.push_some-2.result (λ left. behind c.args.text.now.items c.push_some.new.text.items c.push_some-2.new.text.items _ _ missing (rw c.saturating_sub-2.ensures at left)) c.push_some-2.ensures
