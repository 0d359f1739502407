use Rattle.mp4_answers.proofs.FieldParts.{on_ok}
use Rattle.mp4_answers.proofs.commands.boxes.add_with_fields.Goals as goal
use Rattle.mp4_plan.proofs.Pushes.{behind}

pub returns-in_ok-add_plain-in-Text-clause-line : goal.returns-in_ok-add_plain-in-Text-clause-line
returns-in_ok-add_plain-in-Text-clause-line g c =
    let e = c.in_ok-add_plain-in-Text.ensures in
    rw c.in-Text.is (on_ok c.add_own.result (λ own told.
    let more = rw (e.store.honesty, e.store.file, c.in-Text.is) at own in
    behind c.args.text.now.items c.add_plain.new.text.items c.add_own.new.text.items _ _ (e.line told) (more told)) c.add_own.ensures.text)

pub returns-in_ok-extend_from_slice-in-Json-clause-line : goal.returns-in_ok-extend_from_slice-in-Json-clause-line
returns-in_ok-extend_from_slice-in-Json-clause-line g c told =
    let e = c.in_ok-add_opened-in-Json.ensures in
    let more = rw (e.store.honesty, e.store.file, c.in-Json.is) at c.in_ok-add_own-in-Json.ensures.text in
    rw c.in-Json.is (behind c.args.text.now.items c.add_own-in-Json.new.text.items c.extend_from_slice.new.self.items _ _
    (behind c.args.text.now.items c.add_opened.new.text.items c.add_own-in-Json.new.text.items _ _ (e.object told) (more told)) c.in_ok-extend_from_slice-in-Json.ensures.items)
