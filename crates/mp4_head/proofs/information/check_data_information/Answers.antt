use Rattle.std.proofs.Common.{◌≡◌, suc, true, false, sym, ◌∙◌}
use Rattle.std.specs.Prelude.{codes, bytes_eq}
use Rattle.std.proofs.lemmas.Result.{err_from_is_err_and}
use Rattle.mp4_boxes.specs.format.Box.{box_container}
use Rattle.mp4_boxes.specs.format.Children.{Holds}
use Rattle.mp4_boxes.specs.words.View.{box_seen}
use Rattle.mp4_boxes.specs.declared.rule.Rule.TheVariants as kinds
use Rattle.mp4_head.proofs.FaultWalks.{fault_none, fault_more, fault_here, fault_all, list_fails, list_holds, dref_fault, data_pass}
use Rattle.mp4_head.proofs.TableBoxes.{data_none, data_this, data_other, data_all}
use Rattle.mp4_head.proofs.information.check_data_information.Goals as goal

pub loop-child-init : goal.loop-child-init
loop-child-init c = (tt, tt, data_none _, λ n ids. fault_none _ _)

pub loop-child-preserved : goal.loop-child-preserved
loop-child-preserved c =
    let k : bytes_eq (codes "dref") (box_seen c.in-Some.child).kind ≡ false = sym c.is.ensures ∙ c.if-is.false in (
      tt,
      tt,
      data_other _ c.loop-child.child-iterator c.next.new.self (box_seen c.in-Some.child) c.loop-child.invariant.2 c.in-Some.ensures.steps k,
      λ n ids. fault_more _ _ _ _ _ (c.loop-child.invariant.3 n ids) c.in-Some.ensures.steps (λ before e. data_pass n ids (box_seen c.args.dinf) before (box_seen c.in-Some.child) k),
    )

pub loop-child-preserved-in-Continue-branch-2 : goal.loop-child-preserved-in-Continue-branch-2
loop-child-preserved-in-Continue-branch-2 c =
    let h : Holds kinds.DataInformation (box_container (box_seen c.args.dinf)) c.into_iter-child-iterator.result = rw c.into_iter-child-iterator.ensures.into_iter_gives c.in_ok-child-items.ensures.holds in
    let k : bytes_eq (codes "dref") (box_seen c.in-Some.child).kind ≡ true = sym c.is.ensures ∙ c.if-is.true in (
      tt,
      tt,
      data_this (box_seen c.args.dinf) _ c.loop-child.child-iterator c.next.new.self (box_seen c.in-Some.child) h c.loop-child.invariant.2 c.in-Some.ensures.steps k c.in_ok-check_references.ensures.says,
      λ n ids. fault_more _ _ _ _ _ (c.loop-child.invariant.3 n ids) c.in-Some.ensures.steps (λ before e. dref_fault n ids (box_seen c.args.dinf) before (box_seen c.in-Some.child) k ∙ (c.in_ok-check_references.ensures.exact n ids).names),
    )

pub returns-clause-says : goal.returns-clause-says
returns-clause-says c =
    let h : Holds kinds.DataInformation (box_container (box_seen c.args.dinf)) c.into_iter-child-iterator.result = rw c.into_iter-child-iterator.ensures.into_iter_gives c.in_ok-child-items.ensures.holds in
    data_all (box_seen c.args.dinf) _ c.loop-child.child-iterator h c.loop-child.invariant.2 c.in-None.ensures.steps.0

-- ---- the first fault

pub returns-in_err-child-items-clause-exact : goal.returns-in_err-child-items-clause-exact
returns-in_err-child-items-clause-exact c n ids =
    let p = err_from_is_err_and c.from_residual.result c.from_residual.ensures.1 in
    record { names = rw (p.1, p.2) (list_fails (suc n) ids kinds.DataInformation (box_seen c.args.dinf) c.in_err-child-items.field-0.0 c.in_err-child-items.ensures.exact.same) }

pub returns-in_err-check_references-clause-exact : goal.returns-in_err-check_references-clause-exact
returns-in_err-check_references-clause-exact c n ids =
    let p = err_from_is_err_and c.from_residual-in_err-check_references.result c.from_residual-in_err-check_references.ensures.1 in
    let k : bytes_eq (codes "dref") (box_seen c.in-Some.child).kind ≡ true = sym c.is.ensures ∙ c.if-is.true in
    let h = list_holds (suc n) ids kinds.DataInformation (box_seen c.args.dinf) c.into_iter-child-iterator.result (rw c.into_iter-child-iterator.ensures.into_iter_gives c.in_ok-child-items.ensures.exact.same) in
    record {
      names = rw (
        p.1,
        p.2,
      ) (h ∙ fault_here _ _ _ _ _ c.in_err-check_references.field-0.0 (c.loop-child.invariant.3 n ids) c.in-Some.ensures.steps (λ before e. dref_fault n ids (box_seen c.args.dinf) before (box_seen c.in-Some.child) k ∙ (c.in_err-check_references.ensures.exact n ids).names));
    }

pub returns-clause-exact : goal.returns-clause-exact
returns-clause-exact c n ids = record {
  names = list_holds (suc n) ids kinds.DataInformation (box_seen c.args.dinf) c.into_iter-child-iterator.result (rw c.into_iter-child-iterator.ensures.into_iter_gives c.in_ok-child-items.ensures.exact.same) ∙ fault_all _ _ _ (c.loop-child.invariant.3 n ids) c.in-None.ensures.steps.0;
}
