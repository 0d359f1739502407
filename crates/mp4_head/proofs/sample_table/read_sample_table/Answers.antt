use Rattle.std.proofs.Common.{◌≡◌, suc, ℕ, List, ◌∷◌, ◌++◌, [], true, false, map, ap, sym, ◌∙◌}
use Rattle.std.specs.Prelude.{codes, bytes_eq}
use Rattle.std.proofs.lemmas.Result.{err_from_is_err_and}
use Rattle.std.proofs.lemmas.List.{map-append}
use Rattle.mp4_boxes.specs.format.Box.{box_container}
use Rattle.mp4_boxes.specs.format.Children.{Holds}
use Rattle.mp4_boxes.specs.words.View.{box_seen}
use Rattle.mp4_boxes.specs.declared.rule.Rule.TheVariants as kinds
use Rattle.mp4_head.proofs.FaultWalks.{fault_none, fault_more, refused_here, fault_all, list_fails, list_holds, stsd_fault, table_pass}
use Rattle.mp4_head.proofs.TableBoxes.{table_none, table_descriptions, table_group, table_other, table_all}
use Rattle.mp4_head.proofs.sample_table.read_sample_table.Goals as goal

pub loop-child-init : goal.loop-child-init
loop-child-init c = (tt, tt, rw c.new-group_descriptions.ensures.items (table_none _ _), λ n ids. fault_none _ _)

pub loop-child-preserved-then-is : goal.loop-child-preserved-then-is
loop-child-preserved-then-is c =
    let h : Holds kinds.SampleTable (box_container (box_seen c.args.stbl)) c.into_iter-child-iterator.result = rw c.into_iter-child-iterator.ensures.into_iter_gives c.in_ok-child-items.ensures.holds in
    let k : bytes_eq (codes "stsd") (box_seen c.in-Some.child).kind ≡ true = sym c.is.ensures ∙ c.if-is.true in (
      tt,
      tt,
      table_descriptions (box_seen c.args.stbl) _ c.loop-child.child-iterator c.next.new.self (box_seen c.in-Some.child) _ _ _ h c.loop-child.invariant.2 c.in-Some.ensures.steps k c.in_ok-descriptions.ensures.says,
      λ n ids. fault_more _ _ _ _ _ (c.loop-child.invariant.3 n ids) c.in-Some.ensures.steps (λ before e. stsd_fault n ids (box_seen c.args.stbl) before (box_seen c.in-Some.child) k ∙ (c.in_ok-descriptions.ensures.exact n ids).names),
    )

pub loop-child-preserved-in-Continue-branch-3 : goal.loop-child-preserved-in-Continue-branch-3
loop-child-preserved-in-Continue-branch-3 c =
    let n : bytes_eq (codes "stsd") (box_seen c.in-Some.child).kind ≡ false = sym c.is.ensures ∙ c.if-is.false in
    let n0 = n in
    let k : bytes_eq (codes "sgpd") (box_seen c.in-Some.child).kind ≡ true = sym c.is-else-is.ensures ∙ c.if-is-2.true in (
      tt,
      tt,
      table_group _ c.loop-child.child-iterator c.next.new.self (box_seen c.in-Some.child) _ _ _ c.loop-child.invariant.2 c.in-Some.ensures.steps n k
          (ap (map (λ p. p.now)) c.in_ok-push.ensures.items ∙ map-append (λ p. p.now) c.loop-child.group_descriptions.items (c.payload.result ∷ []) ∙ ap (λ (x : List ℕ). map (λ p. p.now) c.loop-child.group_descriptions.items ++ x ∷ []) c.payload.ensures),
      λ n ids. fault_more _ _ _ _ _ (c.loop-child.invariant.3 n ids) c.in-Some.ensures.steps (λ before e. table_pass n ids (box_seen c.args.stbl) before (box_seen c.in-Some.child) n0),
    )

pub loop-child-preserved : goal.loop-child-preserved
loop-child-preserved c =
    let n : bytes_eq (codes "stsd") (box_seen c.in-Some.child).kind ≡ false = sym c.is.ensures ∙ c.if-is.false in
    let n0 = n in
    let k : bytes_eq (codes "sgpd") (box_seen c.in-Some.child).kind ≡ false = sym c.is-else-is.ensures ∙ c.if-is-2.false in (
      tt,
      tt,
      table_other _ c.loop-child.child-iterator c.next.new.self (box_seen c.in-Some.child) _ _ c.loop-child.invariant.2 c.in-Some.ensures.steps n k,
      λ n ids. fault_more _ _ _ _ _ (c.loop-child.invariant.3 n ids) c.in-Some.ensures.steps (λ before e. table_pass n ids (box_seen c.args.stbl) before (box_seen c.in-Some.child) n0),
    )

pub returns-clause-says : goal.returns-clause-says
returns-clause-says c =
    let h : Holds kinds.SampleTable (box_container (box_seen c.args.stbl)) c.into_iter-child-iterator.result = rw c.into_iter-child-iterator.ensures.into_iter_gives c.in_ok-child-items.ensures.holds in
    table_all (box_seen c.args.stbl) _ c.loop-child.child-iterator _ _ h c.loop-child.invariant.2 c.in-None.ensures.steps.0

-- ---- the first fault

pub returns-in_err-child-items-clause-exact : goal.returns-in_err-child-items-clause-exact
returns-in_err-child-items-clause-exact c n ids =
    let p = err_from_is_err_and c.from_residual.result c.from_residual.ensures.1 in
    record { names = rw (p.1, p.2) (list_fails (suc n) ids kinds.SampleTable (box_seen c.args.stbl) c.in_err-child-items.field-0.0 c.in_err-child-items.ensures.exact.same) }

pub returns-in_err-descriptions-clause-exact : goal.returns-in_err-descriptions-clause-exact
returns-in_err-descriptions-clause-exact c n ids =
    let p = err_from_is_err_and c.from_residual-in_err-descriptions.result c.from_residual-in_err-descriptions.ensures.1 in
    let k : bytes_eq (codes "stsd") (box_seen c.in-Some.child).kind ≡ true = sym c.is.ensures ∙ c.if-is.true in
    let h = list_holds (suc n) ids kinds.SampleTable (box_seen c.args.stbl) c.into_iter-child-iterator.result (rw c.into_iter-child-iterator.ensures.into_iter_gives c.in_ok-child-items.ensures.exact.same) in
    record { names = rw (p.1, p.2) (refused_here _ _ _ _ _ _ _ c.in_err-descriptions.field-0.0 (c.loop-child.invariant.3 n ids) c.in-Some.ensures.steps (λ before e. stsd_fault n ids (box_seen c.args.stbl) before (box_seen c.in-Some.child) k) h (c.in_err-descriptions.ensures.exact n ids).names) }

pub returns-clause-exact : goal.returns-clause-exact
returns-clause-exact c n ids = record {
  names = list_holds (suc n) ids kinds.SampleTable (box_seen c.args.stbl) c.into_iter-child-iterator.result (rw c.into_iter-child-iterator.ensures.into_iter_gives c.in_ok-child-items.ensures.exact.same) ∙ fault_all _ _ _ (c.loop-child.invariant.3 n ids) c.in-None.ensures.steps.0;
}
