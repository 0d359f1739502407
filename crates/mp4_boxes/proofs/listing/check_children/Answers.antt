use Rattle.std.proofs.Common.{Ok, Err, rules, ◌≡◌, ◌+◌, drop, true, false, ◌∙◌, sym}
use Rattle.std.proofs.lemmas.Result.{err_from_is_err_and}
use Rattle.mp4_boxes.specs.format.Children.{allows}
use Rattle.mp4_boxes.specs.words.View.{box_seen, header_seen}
use Rattle.std.proofs.lemmas.List.{length-drop}
use Rattle.mp4_boxes.proofs.Tiling.{header_is}
use Rattle.mp4_boxes.proofs.Walking.{passed_few, passed_has, read_behind}
use Rattle.mp4_boxes.proofs.Admitting.{admitted_none, admitted_more, admitted_holds}
use Rattle.mp4_boxes.specs.format.FirstFault.{rule_tests}
use Rattle.mp4_boxes.proofs.FirstFaults.{goes_none, goes_more, stops_header, stops_test, ends, refused_there, repeated_there, admitted_there, children_stop, children_lack, children_hold, there_behind}
use Rattle.mp4_boxes.proofs.listing.check_children.Goals as goal

pub loop-at-init : goal.loop-at-init
loop-at-init c = (admitted_none _ _ _, goes_none (rule_tests c.args.rule) c.args.view.kind.0 c.args.view.offset c.payload_offset-base.result c.payload-bytes.result.now)

pub repeats-requires-clause-has : goal.repeats-requires-clause-has
repeats-requires-clause-has c = passed_has _ _ _ _ c.loop-at.invariant.0.passed

pub overflow_add-count : goal.overflow_add-count
overflow_add-count c =
    let few = passed_few _ _ _ _ c.loop-at.invariant.0.passed in
    let some = c.loop-at-test.true in
    search rules

pub loop-at-preserved : goal.loop-at-preserved
loop-at-preserved c =
    let read = read_behind c.payload-bytes.result.now c.loop-at.at c.kind.result.0 (c.payload_offset-base.result + c.loop-at.at) (header_seen c.in_ok-header.header) c.in_ok-header.ensures in
    let allowed : allows c.args.rule c.in_ok-header.header.kind.0 ≡ true = search rules in
    let fresh = sym c.repeats.ensures ∙ c.if-repeats.false in
    let e = there_behind c.payload-bytes.result.now c.loop-at.at c.kind.result.0 c.args.view.kind.0 (c.payload_offset-base.result + c.loop-at.at) (Ok (header_seen c.in_ok-header.header)) c.kind.ensures c.in_ok-header.ensures in (
      admitted_more c.args.rule _ _ c.loop-at.count c.loop-at.at (header_seen c.in_ok-header.header) c.loop-at.invariant.0 read allowed fresh,
      goes_more (rule_tests c.args.rule) c.args.view.kind.0 c.args.view.offset c.payload_offset-base.result c.payload-bytes.result.now c.loop-at.count c.loop-at.at (header_seen c.in_ok-header.header) c.loop-at.invariant.0.passed (search rules) e
          (admitted_there c.args.rule c.payload_offset-base.result c.payload-bytes.result.now c.loop-at.count c.loop-at.at (header_seen c.in_ok-header.header) allowed fresh) c.loop-at.invariant.1,
    )

pub lacks-requires-clause-has : goal.lacks-requires-clause-has
lacks-requires-clause-has c = passed_has _ _ _ _ c.loop-at.invariant.0.passed

pub invariant_of-result : goal.invariant_of-result
invariant_of-result c = (passed_has _ _ _ _ c.loop-at.invariant.0.passed, search rules)

pub returns-clause-holds : goal.returns-clause-holds
returns-clause-holds c =
    admitted_holds c.args.rule (box_seen c.args.view) _ _ c.loop-at.count c.loop-at.at c.payload_offset-base.ensures c.payload-bytes.ensures c.loop-at.invariant.0 (search rules) (sym c.lacks.ensures ∙ c.if-lacks.false)

pub returns-in_err-header-clause-exact : goal.returns-in_err-header-clause-exact
returns-in_err-header-clause-exact c =
    let p = err_from_is_err_and c.from_residual.result c.from_residual.ensures.1 in
    let e = there_behind c.payload-bytes.result.now c.loop-at.at c.kind.result.0 c.args.view.kind.0 (c.payload_offset-base.result + c.loop-at.at) (Err c.in_err-header.field-0.0) c.kind.ensures c.in_err-header.ensures in
    rw (p.1, p.2) (record {
      same = children_stop c.args.rule (box_seen c.args.view) c.payload_offset-base.result c.payload-bytes.result.now c.in_err-header.field-0.0 c.payload_offset-base.ensures c.payload-bytes.ensures
          (stops_header (rule_tests c.args.rule) c.args.view.kind.0 c.args.view.offset c.payload_offset-base.result c.payload-bytes.result.now c.loop-at.count c.loop-at.at c.in_err-header.field-0.0 c.loop-at.invariant.0.passed (search rules) e c.loop-at.invariant.1);
    })

pub returns-then-not-allows-clause-exact : goal.returns-then-not-allows-clause-exact
returns-then-not-allows-clause-exact c =
    let e = there_behind c.payload-bytes.result.now c.loop-at.at c.kind.result.0 c.args.view.kind.0 (c.payload_offset-base.result + c.loop-at.at) (Ok (header_seen c.in_ok-header.header)) c.kind.ensures c.in_ok-header.ensures in
    let refused : allows c.args.rule c.in_ok-header.header.kind.0 ≡ false = search rules in
    rw c.new.ensures
    (record {
      same = children_stop c.args.rule (box_seen c.args.view) c.payload_offset-base.result c.payload-bytes.result.now _ c.payload_offset-base.ensures c.payload-bytes.ensures
          (stops_test (rule_tests c.args.rule) c.args.view.kind.0 c.args.view.offset c.payload_offset-base.result c.payload-bytes.result.now c.loop-at.count c.loop-at.at (header_seen c.in_ok-header.header) _ c.loop-at.invariant.0.passed (search rules) e
          (refused_there c.args.rule c.payload_offset-base.result c.payload-bytes.result.now c.loop-at.count c.loop-at.at (header_seen c.in_ok-header.header) refused) c.loop-at.invariant.1);
    })

pub returns-then-repeats-clause-exact : goal.returns-then-repeats-clause-exact
returns-then-repeats-clause-exact c =
    let e = there_behind c.payload-bytes.result.now c.loop-at.at c.kind.result.0 c.args.view.kind.0 (c.payload_offset-base.result + c.loop-at.at) (Ok (header_seen c.in_ok-header.header)) c.kind.ensures c.in_ok-header.ensures in
    let allowed : allows c.args.rule c.in_ok-header.header.kind.0 ≡ true = search rules in
    rw c.new-then-repeats.ensures
    (record {
      same = children_stop c.args.rule (box_seen c.args.view) c.payload_offset-base.result c.payload-bytes.result.now _ c.payload_offset-base.ensures c.payload-bytes.ensures
          (stops_test (rule_tests c.args.rule) c.args.view.kind.0 c.args.view.offset c.payload_offset-base.result c.payload-bytes.result.now c.loop-at.count c.loop-at.at (header_seen c.in_ok-header.header) _ c.loop-at.invariant.0.passed (search rules) e
          (repeated_there c.args.rule c.payload_offset-base.result c.payload-bytes.result.now c.loop-at.count c.loop-at.at (header_seen c.in_ok-header.header) allowed (sym c.repeats.ensures ∙ c.if-repeats.true)) c.loop-at.invariant.1);
    })

pub returns-then-lacks-clause-exact : goal.returns-then-lacks-clause-exact
returns-then-lacks-clause-exact c =
    rw c.fault.ensures
    (record {
      same = children_lack c.args.rule (box_seen c.args.view) c.payload_offset-base.result c.payload-bytes.result.now _ c.payload_offset-base.ensures c.payload-bytes.ensures
          (ends (rule_tests c.args.rule) c.args.view.kind.0 c.args.view.offset c.payload_offset-base.result c.payload-bytes.result.now c.loop-at.count c.loop-at.at c.loop-at.invariant.0.passed (search rules) c.loop-at.invariant.1) (sym c.lacks.ensures ∙ c.if-lacks.true);
    })

pub returns-clause-exact : goal.returns-clause-exact
returns-clause-exact c = record {
  same = children_hold c.args.rule (box_seen c.args.view) c.payload_offset-base.result c.payload-bytes.result.now _ c.payload_offset-base.ensures c.payload-bytes.ensures
      (ends (rule_tests c.args.rule) c.args.view.kind.0 c.args.view.offset c.payload_offset-base.result c.payload-bytes.result.now c.loop-at.count c.loop-at.at c.loop-at.invariant.0.passed (search rules) c.loop-at.invariant.1) (sym c.lacks.ensures ∙ c.if-lacks.false);
}

pub overflow_add-at : goal.overflow_add-at
overflow_add-at c =
    let r = header_is false (drop c.loop-at.at c.payload-bytes.result.now) (header_seen c.in_ok-header.header) (read_behind c.payload-bytes.result.now c.loop-at.at c.kind.result.0 (c.payload_offset-base.result + c.loop-at.at) (header_seen c.in_ok-header.header) c.in_ok-header.ensures) in
    let fits = r.fits in
    let left = length-drop c.loop-at.at c.payload-bytes.result.now in
    search rules

pub loop-at-smaller : goal.loop-at-smaller
loop-at-smaller c =
    let r = header_is false (drop c.loop-at.at c.payload-bytes.result.now) (header_seen c.in_ok-header.header) (read_behind c.payload-bytes.result.now c.loop-at.at c.kind.result.0 (c.payload_offset-base.result + c.loop-at.at) (header_seen c.in_ok-header.header) c.in_ok-header.ensures) in
    let fits = r.fits in
    let inside = r.inside in
    let left = length-drop c.loop-at.at c.payload-bytes.result.now in
    let some = c.loop-at-test.true in
    search rules
