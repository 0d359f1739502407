use Rattle.mp4_head.proofs.JudgedLeaves.{leaf_sound}
use Rattle.std.proofs.Common.{Some, None, ◌∷◌, [], map, ap, ◌∙◌}
use Rattle.std.proofs.lemmas.Result.{err_from_is_err_and}
use Rattle.std.proofs.lemmas.List.{map-append}
use Rattle.mp4_boxes.specs.format.Box.{Tiles, counted_container}
use Rattle.mp4_boxes.specs.words.View.{box_seen}
use Rattle.mp4_head.specs.words.Seen.{kept_seen}
use Rattle.mp4_head.proofs.Entries.{descriptions_none, descriptions_more, descriptions_all, descriptions_sound}
use Rattle.mp4_boxes.specs.format.Layout.{stsd, sample_entry}
use Rattle.mp4_head.proofs.SoundJudged.{sound_judged}
use Rattle.mp4_head.proofs.FaultWalks.{fault_none, fault_more, fault_here, fault_all}
use Rattle.mp4_head.proofs.EntriesJudged.{stsd_open, descriptions_list_fails, descriptions_list_holds, description_at, leaf_then, leaf_first}
use Rattle.mp4_head.proofs.sample_table.read_descriptions.Goals as goal

pub loop-entry-init : goal.loop-entry-init
loop-entry-init c = (tt, tt, rw c.new-descriptions.ensures.items (descriptions_none _), λ n ids. fault_none _ _)

pub loop-entry-preserved : goal.loop-entry-preserved
loop-entry-preserved c =
    let e = c.in_ok-read_description.ensures in (
      tt,
      tt,
      descriptions_more _ c.loop-entry.entry-iterator c.next.new.self (box_seen c.in-Some.entry) _ _ _ c.loop-entry.invariant.2 c.in-Some.ensures.steps (leaf_sound sample_entry (box_seen c.in-Some.entry) e.exact) e.says (ap (map kept_seen) c.in_ok-push.ensures.items
          ∙ map-append kept_seen c.loop-entry.descriptions.items (c.in_ok-read_description.field-0 ∷ [])),
      λ n ids. fault_more _ _ _ _ _ (c.loop-entry.invariant.3 n ids) c.in-Some.ensures.steps (λ before is. description_at n ids (box_seen c.args.view) before (box_seen c.in-Some.entry) ∙ e.exact),
    )

pub returns-clause-says : goal.returns-clause-says
returns-clause-says c =
    let t : Tiles (counted_container (box_seen c.args.view)) c.into_iter-entry-iterator.result = rw c.into_iter-entry-iterator.ensures.into_iter_gives c.in_ok-entry-items.ensures.tiles in
    descriptions_all (box_seen c.args.view) _ c.loop-entry.entry-iterator _ c.in_ok-open.field-0 t c.in_ok-open.ensures.open c.loop-entry.invariant.2 c.in-None.ensures.steps.0

-- ---- the first fault

pub returns-in_err-open-clause-exact : goal.returns-in_err-open-clause-exact
returns-in_err-open-clause-exact c n ids =
    let p = err_from_is_err_and c.from_residual.result c.from_residual.ensures.1 in
    record { names = rw (p.1, p.2) (leaf_first _ _ c.in_err-open.field-0.0 (stsd_open (box_seen c.args.view) c.in_err-open.field-0.0 c.in_err-open.ensures.exact)) }

pub returns-in_err-entry-items-clause-exact : goal.returns-in_err-entry-items-clause-exact
returns-in_err-entry-items-clause-exact c n ids =
    let p = err_from_is_err_and c.from_residual-in_err-entry-items.result c.from_residual-in_err-entry-items.ensures.1 in
    record {
      names = rw (
        p.1,
        p.2,
      ) (leaf_then _ _ (Some c.in_err-entry-items.field-0.0) (sound_judged stsd (box_seen c.args.view) c.in_ok-open.ensures.open.whole (descriptions_sound (box_seen c.args.view).payload c.in_ok-open.field-0 c.in_ok-open.ensures.open))
          (descriptions_list_fails n ids (box_seen c.args.view) c.in_err-entry-items.field-0.0 c.in_err-entry-items.ensures.exact.same));
    }

pub returns-in_err-read_description-clause-exact : goal.returns-in_err-read_description-clause-exact
returns-in_err-read_description-clause-exact c n ids =
    let p = err_from_is_err_and c.from_residual-in_err-read_description.result c.from_residual-in_err-read_description.ensures.1 in
    let h = descriptions_list_holds n ids (box_seen c.args.view) c.into_iter-entry-iterator.result (rw c.into_iter-entry-iterator.ensures.into_iter_gives c.in_ok-entry-items.ensures.exact.same) in
    record {
      names = rw (p.1, p.2) (leaf_then _ _ (Some c.in_err-read_description.field-0.0) (sound_judged stsd (box_seen c.args.view) c.in_ok-open.ensures.open.whole (descriptions_sound (box_seen c.args.view).payload c.in_ok-open.field-0 c.in_ok-open.ensures.open)) (h
          ∙ fault_here _ _ _ _ _ c.in_err-read_description.field-0.0 (c.loop-entry.invariant.3 n ids) c.in-Some.ensures.steps (λ before is. description_at n ids (box_seen c.args.view) before (box_seen c.in-Some.entry) ∙ c.in_err-read_description.ensures.exact)));
    }

pub returns-clause-exact : goal.returns-clause-exact
returns-clause-exact c n ids =
    let h = descriptions_list_holds n ids (box_seen c.args.view) c.into_iter-entry-iterator.result (rw c.into_iter-entry-iterator.ensures.into_iter_gives c.in_ok-entry-items.ensures.exact.same) in
    record { names = leaf_then _ _ None (sound_judged stsd (box_seen c.args.view) c.in_ok-open.ensures.open.whole (descriptions_sound (box_seen c.args.view).payload c.in_ok-open.field-0 c.in_ok-open.ensures.open)) (h ∙ fault_all _ _ _ (c.loop-entry.invariant.3 n ids) c.in-None.ensures.steps.0) }
