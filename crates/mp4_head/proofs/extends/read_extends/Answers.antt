use Rattle.mp4_head.proofs.JudgedLeaves.{leaf_sound}
use Rattle.std.proofs.Common.{◌≡◌, true, false, ap, sym, ◌∙◌}
use Rattle.std.specs.Prelude.{codes, bytes_eq}
use Rattle.std.proofs.lemmas.Result.{err_from_is_err_and}
use Rattle.mp4_boxes.specs.format.Box.{box_container}
use Rattle.mp4_boxes.specs.format.Children.{Holds}
use Rattle.mp4_boxes.specs.words.View.{box_seen}
use Rattle.mp4_boxes.specs.declared.rule.Rule.TheVariants as kinds
use Rattle.std.specs.Ordering.{nat_cmp}
use Rattle.std.specs.BTreeSet.{contains}
use Rattle.mp4_boxes.specs.format.BoxFaults.{fault_of}
use Rattle.mp4_boxes.specs.format.Layout.{trex}
use Rattle.mp4_boxes.specs.declared.fault.Kind.TheVariants.{BadValue}
use Rattle.mp4_frag.specs.declared.trex.Trex.{Trex}
use Rattle.mp4_head.proofs.FaultWalks.{fault_none, fault_more, fault_here, fault_all, list_fails, list_holds}
use Rattle.mp4_head.proofs.IdsJudged.{trex_fault, extends_pass, trex_taken, id_taken, id_new, id_fault}
use Rattle.mp4_head.proofs.ExtendsBoxes.{extends_none, extends_this, extends_other, extends_all}
use Rattle.mp4_head.proofs.Taken.{was_there, was_not_there}
use Rattle.mp4_head.proofs.extends.read_extends.Goals as goal

pub loop-child-init : goal.loop-child-init
loop-child-init c = (tt, tt, rw c.new-trexes.ensures.items (extends_none _ _ c.new-ids.ensures.empty), λ n ids. fault_none _ _)

pub loop-child-preserved-in_ok-push : goal.loop-child-preserved-in_ok-push
loop-child-preserved-in_ok-push c =
    let k : bytes_eq (codes "trex") (box_seen c.in-Some.child).kind ≡ true = sym c.is.ensures ∙ c.if-is.true in (
      tt,
      tt,
      extends_this _ c.loop-child.child-iterator c.next.new.self (box_seen c.in-Some.child) _ _ _ _ c.in_ok-trex.trex c.loop-child.invariant.2 c.in-Some.ensures.steps k (leaf_sound trex (box_seen c.in-Some.child) c.in_ok-trex.ensures.exact) c.in_ok-trex.ensures.says
          (record { new_there = was_not_there c.in_ok-insert.field-0 _ c.in_ok-insert.ensures.added c.if-not-branch.false; added = c.in_ok-insert.ensures.updates }) c.in_ok-push.ensures.items,
      λ n ids. fault_more _ _ _ _ _ (c.loop-child.invariant.3 n ids) c.in-Some.ensures.steps (λ before is. trex_fault n ids (box_seen c.args.mvex) before (box_seen c.in-Some.child) k
          ∙ id_new trex 2 _ (box_seen c.in-Some.child) c.in_ok-trex.ensures.exact
          (trex_taken _ c.loop-child.child-iterator c.next.new.self (box_seen c.in-Some.child) _ _ before false c.loop-child.invariant.2 c.in-Some.ensures.steps is (ap (λ (x : Trex). contains nat_cmp c.loop-child.ids x.id) (sym c.in_ok-trex.ensures.says)
          ∙ was_not_there c.in_ok-insert.field-0 _ c.in_ok-insert.ensures.added c.if-not-branch.false))),
    )

pub loop-child-preserved : goal.loop-child-preserved
loop-child-preserved c =
    let k : bytes_eq (codes "trex") (box_seen c.in-Some.child).kind ≡ false = sym c.is.ensures ∙ c.if-is.false in (
      tt,
      tt,
      extends_other _ c.loop-child.child-iterator c.next.new.self (box_seen c.in-Some.child) _ _ c.loop-child.invariant.2 c.in-Some.ensures.steps k,
      λ n ids. fault_more _ _ _ _ _ (c.loop-child.invariant.3 n ids) c.in-Some.ensures.steps (λ before e. extends_pass n ids (box_seen c.args.mvex) before (box_seen c.in-Some.child) k),
    )

pub returns-clause-says : goal.returns-clause-says
returns-clause-says c =
    let h : Holds kinds.MovieExtends (box_container (box_seen c.args.mvex)) c.into_iter-child-iterator.result = rw c.into_iter-child-iterator.ensures.into_iter_gives c.in_ok-child-items.ensures.holds in
    extends_all (box_seen c.args.mvex) _ c.loop-child.child-iterator _ _ h c.loop-child.invariant.2 c.in-None.ensures.steps.0

-- ---- the first fault

pub returns-in_err-child-items-clause-exact : goal.returns-in_err-child-items-clause-exact
returns-in_err-child-items-clause-exact c n ids =
    let p = err_from_is_err_and c.from_residual.result c.from_residual.ensures.1 in
    record { names = rw (p.1, p.2) (list_fails n ids kinds.MovieExtends (box_seen c.args.mvex) c.in_err-child-items.field-0.0 c.in_err-child-items.ensures.exact.same) }

pub returns-in_err-trex-clause-exact : goal.returns-in_err-trex-clause-exact
returns-in_err-trex-clause-exact c n ids =
    let p = err_from_is_err_and c.from_residual-in_err-trex.result c.from_residual-in_err-trex.ensures.1 in
    let k : bytes_eq (codes "trex") (box_seen c.in-Some.child).kind ≡ true = sym c.is.ensures ∙ c.if-is.true in
    let held = list_holds n ids kinds.MovieExtends (box_seen c.args.mvex) c.into_iter-child-iterator.result (rw c.into_iter-child-iterator.ensures.into_iter_gives c.in_ok-child-items.ensures.exact.same) in
    record {
      names = rw (
        p.1,
        p.2,
      ) (held ∙ fault_here _ _ _ _ _ c.in_err-trex.field-0.0 (c.loop-child.invariant.3 n ids) c.in-Some.ensures.steps (λ before is. trex_fault n ids (box_seen c.args.mvex) before (box_seen c.in-Some.child) k
          ∙ id_fault trex 2 _ (box_seen c.in-Some.child) c.in_err-trex.field-0.0 c.in_err-trex.ensures.exact));
    }

pub returns-then-not-branch-clause-exact : goal.returns-then-not-branch-clause-exact
returns-then-not-branch-clause-exact c n ids =
    let k : bytes_eq (codes "trex") (box_seen c.in-Some.child).kind ≡ true = sym c.is.ensures ∙ c.if-is.true in
    let held = list_holds n ids kinds.MovieExtends (box_seen c.args.mvex) c.into_iter-child-iterator.result (rw c.into_iter-child-iterator.ensures.into_iter_gives c.in_ok-child-items.ensures.exact.same) in
    let taken = was_there c.in_ok-insert.field-0 _ c.in_ok-insert.ensures.added c.if-not-branch.true in
    record {
      names = rw (c.from.ensures, c.fault.ensures) (held ∙ fault_here _ _ _ _ _ (fault_of BadValue (box_seen c.in-Some.child)) (c.loop-child.invariant.3 n ids) c.in-Some.ensures.steps (λ before is. trex_fault n ids (box_seen c.args.mvex) before (box_seen c.in-Some.child) k
          ∙ id_taken trex 2 _ (box_seen c.in-Some.child) c.in_ok-trex.ensures.exact
          (trex_taken _ c.loop-child.child-iterator c.next.new.self (box_seen c.in-Some.child) _ _ before true c.loop-child.invariant.2 c.in-Some.ensures.steps is (ap (λ (x : Trex). contains nat_cmp c.loop-child.ids x.id) (sym c.in_ok-trex.ensures.says) ∙ taken))));
    }

pub returns-clause-exact : goal.returns-clause-exact
returns-clause-exact c n ids =
    let held = list_holds n ids kinds.MovieExtends (box_seen c.args.mvex) c.into_iter-child-iterator.result (rw c.into_iter-child-iterator.ensures.into_iter_gives c.in_ok-child-items.ensures.exact.same) in
    record { names = held ∙ fault_all _ _ _ (c.loop-child.invariant.3 n ids) c.in-None.ensures.steps.0 }
