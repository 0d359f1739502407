use Rattle.std.proofs.Common.{rules, ◌≡◌, ◌++◌, [], Some, arith, sym}
use Rattle.std.specs.Prelude.{codes}
use Rattle.std.proofs.lemmas.List.{append-nil}
use Rattle.mp4_boxes.specs.words.View.{box_seen}
use Rattle.mp4_present.proofs.WalkCopied.{on_ok}
use Rattle.mp4_answers.specs.format.BoxWalk.{rule_inside}
use Rattle.mp4_answers.specs.format.Ways.{step_text, ends, contained}
use Rattle.mp4_answers.proofs.BoxLists.{inside_lower}
use Rattle.mp4_answers.proofs.WaysTo.{one_step, more_steps}
use Rattle.mp4_answers.proofs.commands.box_path.+push_way.Goals as goal

pub returns-in_default-boxes_in : goal.returns-in_default-boxes_in
returns-in_default-boxes_in t c = ([], ends (box_seen c.args.view), sym (append-nil c.args.text.now.items))

pub returns-in_default-held_among : goal.returns-in_default-held_among
returns-in_default-held_among t c = ([], ends (box_seen c.args.view), sym (append-nil c.args.text.now.items))

pub returns-then-offset-place : goal.returns-then-offset-place
returns-then-offset-place t c =
    let child = c.in-Some-held_among.child in
    let text : c.push_step.new.text.items ≡ (c.args.text.now.items ++ codes " / ") ++ step_text (box_seen child).kind c.number_among-number.result = search rules in
    one_step c.args.place (box_seen c.args.view) (box_seen child) c.number_among-number.result c.args.text.now.items
    c.push_step.new.text.items (c.in-Some-boxes_in.boxes, contained c.in-Some-boxes_in.boxes c.in-Some-boxes_in.ensures, c.in-Some-held_among.ensures) text

pub push_way-requires : goal.push_way-requires
push_way-requires t c =
    let into : rule_inside c.args.rule c.args.view.kind.0 ≡ Some c.in-Some.inner = search rules in
    let lower = inside_lower c.args.rule c.in-Some.inner c.args.view.kind.0 into in
    let d = c.decreases in
    (omega arith, tt)

pub returns : goal.returns
returns t c =
    let child = c.in-Some-held_among.child in
    let text : c.push_step.new.text.items ≡ (c.args.text.now.items ++ codes " / ") ++ step_text (box_seen child).kind c.number_among-number.result = search rules in
    on_ok _ _ c.push_way.result
    (λ m. more_steps c.args.place (box_seen c.args.view) (box_seen child) c.number_among-number.result c.args.text.now.items
    c.push_step.new.text.items m.0 c.push_way.new.text.items (c.in-Some-boxes_in.boxes, contained c.in-Some-boxes_in.boxes c.in-Some-boxes_in.ensures, c.in-Some-held_among.ensures) text m.1 m.2) c.push_way.ensures
