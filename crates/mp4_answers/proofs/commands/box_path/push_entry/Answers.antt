use Rattle.std.proofs.Common.{rules, ◌≡◌, ◌++◌, [], sym}
use Rattle.std.specs.Prelude.{codes}
use Rattle.std.proofs.lemmas.List.{append-nil}
use Rattle.mp4_boxes.specs.words.View.{box_seen}
use Rattle.mp4_answers.specs.format.Ways.{step_text, ends, counted}
use Rattle.mp4_answers.proofs.WaysTo.{one_step}
use Rattle.mp4_answers.proofs.commands.box_path.push_entry.Goals as goal

pub returns-in_default : goal.returns-in_default
returns-in_default c = ([], ends (box_seen c.args.view), sym (append-nil c.args.text.now.items))

pub returns-in_default-held_among : goal.returns-in_default-held_among
returns-in_default-held_among c = ([], ends (box_seen c.args.view), sym (append-nil c.args.text.now.items))

pub returns : goal.returns
returns c =
    let entry = c.in-Some-held_among.entry in
    let text : c.push_step.new.text.items ≡ (c.args.text.now.items ++ codes " / ") ++ step_text (box_seen entry).kind c.number_among-number.result = search rules in
    one_step c.args.place (box_seen c.args.view) (box_seen entry) c.number_among-number.result c.args.text.now.items
    c.push_step.new.text.items (c.in-Some.entries, counted c.in-Some.entries c.in-Some.ensures, c.in-Some-held_among.ensures) text
