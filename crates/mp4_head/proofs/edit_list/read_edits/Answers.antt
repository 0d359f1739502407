use Rattle.mp4_boxes.specs.format.Layout.{elst}
use Rattle.mp4_head.proofs.JudgedLeaves.{leaf_sound}
use Rattle.std.proofs.Common.{◌≡◌, true, false, sym, ◌∙◌}
use Rattle.std.specs.Prelude.{codes, bytes_eq}
use Rattle.std.proofs.lemmas.Result.{err_from_is_err_and}
use Rattle.mp4_boxes.specs.format.Box.{box_container}
use Rattle.mp4_boxes.specs.format.Children.{Holds}
use Rattle.mp4_boxes.specs.words.View.{box_seen}
use Rattle.mp4_boxes.specs.declared.rule.Rule.TheVariants as kinds
use Rattle.mp4_head.proofs.FaultWalks.{fault_none, fault_more, refused_here, fault_all, list_fails, list_holds, elst_fault, edits_pass}
use Rattle.mp4_head.proofs.EditBoxes.{edits_none, edits_this, edits_other, edits_all}
use Rattle.mp4_head.proofs.edit_list.read_edits.Goals as goal

pub loop-child-init : goal.loop-child-init
loop-child-init c = (tt, tt, rw c.new-edits.ensures.items (edits_none _), λ n ids. fault_none _ _)

pub loop-child-preserved : goal.loop-child-preserved
loop-child-preserved c =
    let k : bytes_eq (codes "elst") (box_seen c.in-Some.child).kind ≡ false = sym c.is.ensures ∙ c.if-is.false in (
      tt,
      tt,
      edits_other _ c.loop-child.child-iterator c.next.new.self (box_seen c.in-Some.child) _ c.loop-child.invariant.2 c.in-Some.ensures.steps k,
      λ n ids. fault_more _ _ _ _ _ (c.loop-child.invariant.3 n ids) c.in-Some.ensures.steps (λ before e. edits_pass n ids (box_seen c.args.edts) before (box_seen c.in-Some.child) k),
    )

pub loop-child-preserved-then-is : goal.loop-child-preserved-then-is
loop-child-preserved-then-is c =
    let h : Holds kinds.Edits (box_container (box_seen c.args.edts)) c.into_iter-child-iterator.result = rw c.into_iter-child-iterator.ensures.into_iter_gives c.in_ok-child-items.ensures.holds in
    let k : bytes_eq (codes "elst") (box_seen c.in-Some.child).kind ≡ true = sym c.is.ensures ∙ c.if-is.true in (
      tt,
      tt,
      edits_this (box_seen c.args.edts) _ c.loop-child.child-iterator c.next.new.self (box_seen c.in-Some.child) _ _ h c.loop-child.invariant.2 c.in-Some.ensures.steps k (leaf_sound elst (box_seen c.in-Some.child) c.in_ok-edits.ensures.exact.names) c.in_ok-edits.ensures.edits,
      λ n ids. fault_more _ _ _ _ _ (c.loop-child.invariant.3 n ids) c.in-Some.ensures.steps (λ before e. elst_fault n ids (box_seen c.args.edts) before (box_seen c.in-Some.child) k ∙ c.in_ok-edits.ensures.exact.names),
    )

pub returns-clause-edits : goal.returns-clause-edits
returns-clause-edits c =
    let h : Holds kinds.Edits (box_container (box_seen c.args.edts)) c.into_iter-child-iterator.result = rw c.into_iter-child-iterator.ensures.into_iter_gives c.in_ok-child-items.ensures.holds in
    edits_all (box_seen c.args.edts) _ c.loop-child.child-iterator _ h c.loop-child.invariant.2 c.in-None.ensures.steps.0

-- ---- the first fault

pub returns-in_err-child-items-clause-exact : goal.returns-in_err-child-items-clause-exact
returns-in_err-child-items-clause-exact c n ids =
    let p = err_from_is_err_and c.from_residual.result c.from_residual.ensures.1 in
    record { names = rw (p.1, p.2) (list_fails n ids kinds.Edits (box_seen c.args.edts) c.in_err-child-items.field-0.0 c.in_err-child-items.ensures.exact.same) }

pub returns-in_err-edits-clause-exact : goal.returns-in_err-edits-clause-exact
returns-in_err-edits-clause-exact c n ids =
    let p = err_from_is_err_and c.from_residual-in_err-edits.result c.from_residual-in_err-edits.ensures.1 in
    let k : bytes_eq (codes "elst") (box_seen c.in-Some.child).kind ≡ true = sym c.is.ensures ∙ c.if-is.true in
    let h = list_holds n ids kinds.Edits (box_seen c.args.edts) c.into_iter-child-iterator.result (rw c.into_iter-child-iterator.ensures.into_iter_gives c.in_ok-child-items.ensures.exact.same) in
    record { names = rw (p.1, p.2) (refused_here _ _ _ _ _ _ _ c.in_err-edits.field-0.0 (c.loop-child.invariant.3 n ids) c.in-Some.ensures.steps (λ before e. elst_fault n ids (box_seen c.args.edts) before (box_seen c.in-Some.child) k) h c.in_err-edits.ensures.exact.names) }

pub returns-clause-exact : goal.returns-clause-exact
returns-clause-exact c n ids = record {
  names = list_holds n ids kinds.Edits (box_seen c.args.edts) c.into_iter-child-iterator.result (rw c.into_iter-child-iterator.ensures.into_iter_gives c.in_ok-child-items.ensures.exact.same) ∙ fault_all _ _ _ (c.loop-child.invariant.3 n ids) c.in-None.ensures.steps.0;
}
