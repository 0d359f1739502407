use Rattle.std.proofs.Common.{rules, ◌≡◌, ◌∙◌, true, length, refl, sym, ap, subst, arith}
use Rattle.std.proofs.lemmas.Result.{err_from_is_err_and}
use Rattle.std.proofs.lemmas.List.{with_items_is}
use Rattle.mp4_frag.specs.words.OwnTrafs.{traf_steps}
use Rattle.mp4_present.specs.words.TrackWalks.{TakesMarked}
use Rattle.mp4_present.specs.words.InHand.{left_in_hand}
use Rattle.mp4_present.specs.words.Movies.{mark_of, traf_box, traf_bytes, all_in_traf, InHandOf}
use Rattle.mp4_present.specs.words.WalkSteps.{way_through}
use Rattle.mp4_present.specs.declared.walking.in_hand.InHand.{InHand}
use Rattle.mp4_present.specs.declared.walking.Walk.{Walk}
use Rattle.mp4_present.proofs.GoneBack.{there_again, fits_again, holds_again, bytes_again, traf_again, box_again, takes_marked, hand_of_marked, way_marked}
use Rattle.mp4_present.proofs.TrafInHand.{range_unchanged}
use Rattle.mp4_present.proofs.walking.Walk.read_again.Goals as goal

pub returns-in_err-read_range-clause-taken : goal.returns-in_err-read_range-clause-taken
returns-in_err-read_range-clause-taken g c told tree t earlier later next begun o h =
    let p = err_from_is_err_and c.from_residual.result c.from_residual.ensures.1 in
    let file = g.S.Store.file c.args.store.now in
    let m = c.args.movie.now in
    let w = c.args.self.now in
    let short = fits_again file m tree t earlier next later begun w c.args.before o h in
    let there = there_again file m tree t earlier next later begun w c.args.before o h in
    rw (p.1, p.2) (range_unchanged _ _ _ _ _ _ c.in_err-read_range.field-0.0 short there (rw c.as_mut_slice.ensures.value at c.in_err-read_range.ensures.refusal))

pub returns-clause-taken : goal.returns-clause-taken
returns-clause-taken g c told tree t earlier later next begun o h =
    let file = g.S.Store.file c.args.store.now in
    let w = c.args.self.now in
    let m = c.args.movie.now in
    let bytes = c.read_range.new.room in
    let same : length bytes ≡ length w.bytes.items = search rules in
    let held = holds_again file m tree t earlier next later begun w c.args.before o h _ bytes refl refl refl (with_items_is w.bytes bytes (same ∙ sym w.bytes.ok.0)) same (c.in_ok-read_range.ensures.bytes told) refl refl refl in
    let e = c.take_again.ensures in
    let now = c.take_again.new.self in
    let traf = ap (λ (v : Walk). v.traf) e.same ∙ traf_again file m tree t earlier next later begun w c.args.before o h _ held in
    let own = ap traf_bytes e.same ∙ bytes_again file m tree t earlier next later begun w c.args.before o h _ held in
    let steps = ap traf_steps (box_again file m tree t earlier next later begun w c.args.before o h _ held) in
    let way = e.hand.way in
    let work = e.work in
    subst (λ (v : Walk). TakesMarked file tree t earlier next later m begun v c.args.steps.now.passed c.take_again.new.steps.passed) (sym c.mark.ensures.mark)
    (record {
      takes = takes_marked file tree t m earlier next later now (mark_of now w.mark.to_come) true (e.taken file tree t earlier later next o held h.behind);
      traf = traf;
      bytes = own;
      way = omega (arith, steps, way);
      steps = work;
    })

pub returns-clause-again : goal.returns-clause-again
returns-clause-again g c =
    let now = c.take_again.new.self in
    let m = c.args.movie.now in
    let e = c.take_again.ensures in
    record {
      walk = search rules;
      traf = record {
        track = search rules;
        next = search rules;
        due = search rules;
        left = search rules;
        all = λ info at.
            let x = e.hand.all info at in
            let same = ap (λ (v : Walk). all_in_traf m v info c.args.before) (sym e.same) in
            subst (λ (w : Walk). (hand : InHand) × InHandOf m w hand × (left_in_hand hand ≡ all_in_traf m w info c.args.before)) (sym c.mark.ensures.mark)
            (x.0, hand_of_marked m now (mark_of now c.args.self.now.mark.to_come) x.0 x.1, x.2 ∙ same);
        through = λ t.
            subst (λ (w : Walk). way_through t w w.place ≡ traf_steps (traf_box w)) (sym c.mark.ensures.mark) (way_marked t now (mark_of now c.args.self.now.mark.to_come) now.place ∙ e.hand.through t);
      };
    }
