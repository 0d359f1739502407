use Rattle.std.proofs.Common.{◌≡◌, false, Some, None, ap, sym, ◌∙◌}
use Rattle.std.proofs.lemmas.Result.{err_from_is_err_and}
use Rattle.std.proofs.lemmas.Bool.{ne_eqb}
use Rattle.mp4_boxes.specs.format.Bytes.{field}
use Rattle.mp4_boxes.specs.format.Box.{Tiles, counted_container}
use Rattle.mp4_boxes.specs.words.View.{box_seen}
use Rattle.mp4_head.proofs.Entries.{references_none, references_more, references_all, references_sound}
use Rattle.std.specs.Prelude.{nat_eq}
use Rattle.mp4_boxes.specs.format.Layout.{dref}
use Rattle.mp4_head.proofs.SoundJudged.{sound_judged}
use Rattle.mp4_head.proofs.FaultWalks.{fault_none, fault_more, fault_here, fault_all}
use Rattle.mp4_head.proofs.EntriesJudged.{dref_open, dref_outside, entries_fail, entries_hold, reference_at, leaf_then, leaf_first}
use Rattle.mp4_head.proofs.information.check_references.Goals as goal

pub loop-entry-init : goal.loop-entry-init
loop-entry-init c = (tt, tt, references_none _, λ n ids. fault_none _ _)

pub loop-entry-preserved : goal.loop-entry-preserved
loop-entry-preserved c =
    let e = c.in_ok-check_reference.ensures in (
      tt,
      tt,
      references_more _ c.loop-entry.entry-iterator c.next.new.self (box_seen c.in-Some.entry) c.loop-entry.invariant.2 c.in-Some.ensures.steps e.url e.sound,
      λ n ids. fault_more _ _ _ _ _ (c.loop-entry.invariant.3 n ids) c.in-Some.ensures.steps (λ before is. reference_at n ids (box_seen c.args.view) before (box_seen c.in-Some.entry) ∙ e.exact.names),
    )

pub returns-clause-says : goal.returns-clause-says
returns-clause-says c =
    let t : Tiles (counted_container (box_seen c.args.view)) c.into_iter-entry-iterator.result = rw c.into_iter-entry-iterator.ensures.into_iter_gives c.in_ok-entry-items.ensures.tiles in
    let one : field (box_seen c.args.view).payload 4 4 ≡ 1 = ap (λ p. field p 4 4) (sym c.payload.ensures) ∙ sym c.u32_at.ensures ∙ c.if-u32_at-ne1.false in
    references_all (box_seen c.args.view) _ c.loop-entry.entry-iterator c.in_ok-open.field-0 t c.in_ok-open.ensures.open one c.loop-entry.invariant.2 c.in-None.ensures.steps.0

-- ---- the first fault

pub returns-in_err-open-clause-exact : goal.returns-in_err-open-clause-exact
returns-in_err-open-clause-exact c n ids =
    let p = err_from_is_err_and c.from_residual.result c.from_residual.ensures.1 in
    record { names = rw (p.1, p.2) (leaf_first _ _ c.in_err-open.field-0.0 (dref_open (box_seen c.args.view) c.in_err-open.field-0.0 c.in_err-open.ensures.exact)) }

pub returns-then-u32_at-ne1-clause-exact : goal.returns-then-u32_at-ne1-clause-exact
returns-then-u32_at-ne1-clause-exact c n ids =
    let other : nat_eq (field (box_seen c.args.view).payload 4 4) 1 ≡ false = ap (λ p. nat_eq (field p 4 4) 1) (sym c.payload.ensures) ∙ ap (λ n. nat_eq n 1) (sym c.u32_at.ensures) ∙ ne_eqb c.u32_at.result 1 c.if-u32_at-ne1.true in
    record { names = rw c.fault.ensures (leaf_first _ _ _ (dref_outside (box_seen c.args.view) c.in_ok-open.field-0 c.in_ok-open.ensures.open other)) }

pub returns-in_err-entry-items-clause-exact : goal.returns-in_err-entry-items-clause-exact
returns-in_err-entry-items-clause-exact c n ids =
    let one : field (box_seen c.args.view).payload 4 4 ≡ 1 = ap (λ p. field p 4 4) (sym c.payload.ensures) ∙ sym c.u32_at.ensures ∙ c.if-u32_at-ne1.false in
    let p = err_from_is_err_and c.from_residual-in_err-entry-items.result c.from_residual-in_err-entry-items.ensures.1 in
    record {
      names = rw (
        p.1,
        p.2,
      ) (leaf_then _ _ (Some c.in_err-entry-items.field-0.0) (sound_judged dref (box_seen c.args.view) c.in_ok-open.ensures.open.whole (references_sound (box_seen c.args.view).payload c.in_ok-open.field-0 c.in_ok-open.ensures.open one))
          (entries_fail n ids (box_seen c.args.view) c.in_err-entry-items.field-0.0 c.in_err-entry-items.ensures.exact.same));
    }

pub returns-in_err-check_reference-clause-exact : goal.returns-in_err-check_reference-clause-exact
returns-in_err-check_reference-clause-exact c n ids =
    let one : field (box_seen c.args.view).payload 4 4 ≡ 1 = ap (λ p. field p 4 4) (sym c.payload.ensures) ∙ sym c.u32_at.ensures ∙ c.if-u32_at-ne1.false in
    let p = err_from_is_err_and c.from_residual-in_err-check_reference.result c.from_residual-in_err-check_reference.ensures.1 in
    let h = entries_hold n ids (box_seen c.args.view) c.into_iter-entry-iterator.result (rw c.into_iter-entry-iterator.ensures.into_iter_gives c.in_ok-entry-items.ensures.exact.same) in
    record {
      names = rw (p.1, p.2) (leaf_then _ _ (Some c.in_err-check_reference.field-0.0) (sound_judged dref (box_seen c.args.view) c.in_ok-open.ensures.open.whole (references_sound (box_seen c.args.view).payload c.in_ok-open.field-0 c.in_ok-open.ensures.open one)) (h
          ∙ fault_here _ _ _ _ _ c.in_err-check_reference.field-0.0 (c.loop-entry.invariant.3 n ids) c.in-Some.ensures.steps (λ before is. reference_at n ids (box_seen c.args.view) before (box_seen c.in-Some.entry) ∙ c.in_err-check_reference.ensures.exact.names)));
    }

pub returns-clause-exact : goal.returns-clause-exact
returns-clause-exact c n ids =
    let one : field (box_seen c.args.view).payload 4 4 ≡ 1 = ap (λ p. field p 4 4) (sym c.payload.ensures) ∙ sym c.u32_at.ensures ∙ c.if-u32_at-ne1.false in
    let h = entries_hold n ids (box_seen c.args.view) c.into_iter-entry-iterator.result (rw c.into_iter-entry-iterator.ensures.into_iter_gives c.in_ok-entry-items.ensures.exact.same) in
    record { names = leaf_then _ _ None (sound_judged dref (box_seen c.args.view) c.in_ok-open.ensures.open.whole (references_sound (box_seen c.args.view).payload c.in_ok-open.field-0 c.in_ok-open.ensures.open one)) (h ∙ fault_all _ _ _ (c.loop-entry.invariant.3 n ids) c.in-None.ensures.steps.0) }
