use Rattle.std.proofs.Common.{◌∙◌, refl, ℕ, ◌≤◌, [], length, drop, subst, rules}
use Rattle.mp4_boxes.specs.words.View.{box_seen}
use Rattle.mp4_boxes.proofs.Plain.{suc_is}
use Rattle.mp4_present.specs.words.Plain.{HasTablesIn, HaveTablesIn}
use Rattle.mp4_present.proofs.PlainLists.{from_next}
use Rattle.std.proofs.lemmas.Result.{err_from_is_err_and}
use Rattle.mp4_present.proofs.TracksPassed.{passed_more, passed_all, read_of}
use Rattle.mp4_present.proofs.TablesFirst.{tables_first, tables_next, tables_refused, tables_fine}
use Rattle.mp4_present.proofs.OpeningBytes.{none_fit, next_fit, all_fit, last_fit}
use Rattle.mp4_present.proofs.TablesWork.{handed_on, next_left, next_taken, next_done, tracks_done, tracks_taken}
use Rattle.mp4_present.specs.declared.opening.tables_pass.PlainTracks.{PlainTracks}
use Rattle.mp4_present.proofs.opening.tables_pass.check_tables.Goals as goal

pub loop-track-init : goal.loop-track-init
loop-track-init g c = (
  c.none-plain.ensures.plain _,
  rw c.deref-track-items.ensures.value c.requires.inside,
  λ trees a. c.none-plain.ensures.says _ _ _,
  λ trees a. search rules,
  λ trees a. search rules,
  none_fit _ _ _ (c.none-plain.ensures.plain []).few,
  tables_first _ _ _ _ _ (c.none-plain.ensures.says c.args.file_len (box_seen c.args.moov).payload c.args.head.now.trexes.items),
  refl,
)

pub push-requires-clause-read : goal.push-requires-clause-read
push-requires-clause-read g c = read_of c.deref-track-items.result.now c.loop-track.track-index c.track-item.result c.loop-track-test.true c.track-item.is (rw c.deref-track-items.ensures.value c.requires.read)

pub loop-track-preserved : goal.loop-track-preserved
loop-track-preserved g c =
    let i = c.loop-track.invariant in (
      c.in_ok-push.ensures.one_more _ i.0,
      subst (λ (k : ℕ). HaveTablesIn (box_seen c.args.moov) (drop k c.deref-track-items.result.now)) (suc_is c.loop-track.track-index) (from_next (HasTablesIn (box_seen c.args.moov)) c.deref-track-items.result.now c.loop-track.track-index i.1),
      passed_more _ _ _ _ _ _ i.2 c.track-item.result c.push.new.self c.loop-track-test.true c.track-item.is (c.in_ok-push.ensures.says c.args.head.now.trexes.items (rw c.deref.ensures.value at c.in_ok-trexes.ensures)),
      next_left _ _ _ _ _ c.track-item.result c.loop-track-test.true c.track-item.is c.in_ok-push.ensures.work.said i.3,
      next_taken _ _ _ _ _ c.track-item.result c.loop-track-test.true c.track-item.is c.in_ok-push.ensures.least i.4,
      next_fit _ _ _ _ _ _ _ i.5 c.in_ok-push.ensures.work.less,
      tables_next _ _ _ _ _ _ c.track-item.result c.loop-track-test.true c.track-item.is i.6 c.push.new.self i.2 (c.in_ok-push.ensures.says c.args.head.now.trexes.items (rw c.deref.ensures.value at c.in_ok-trexes.ensures)) (λ file e t own. (c.in_ok-push.ensures.exact file e t own).names),
      c.push.ensures.looks ∙ i.7,
    )

pub returns-clause-says : goal.returns-clause-says
returns-clause-says g c = rw c.deref-track-items.ensures.value at (passed_all _ _ _ _ _ _ c.loop-track.invariant.2 c.loop-track-test.false)

pub returns-in_err-push-clause-work : goal.returns-in_err-push-clause-work
returns-in_err-push-clause-work g c =
    let p = err_from_is_err_and c.from_residual-in_err-push.result c.from_residual-in_err-push.ensures.1 in
    let done = rw c.deref-track-items.ensures.value at (next_done c.deref-track-items.result.now c.loop-track.track-index c.args.steps.now.passed c.loop-track.steps.passed c.push.new.steps.passed c.track-item.result c.loop-track-test.true c.track-item.is c.loop-track.invariant.3) in
    rw (p.1, p.2) (handed_on PlainTracks _ _ c.in_err-push.field-0.0 done c.in_err-push.ensures.work.said)

pub returns-clause-work : goal.returns-clause-work
returns-clause-work g c = rw c.deref-track-items.ensures.value at (tracks_done _ _ _ _ c.loop-track.invariant.3)

pub returns-clause-least : goal.returns-clause-least
returns-clause-least g c = rw c.deref-track-items.ensures.value at (tracks_taken _ _ _ _ c.loop-track-test.false c.loop-track.invariant.4)

pub returns-in_err-push-clause-within : goal.returns-in_err-push-clause-within
returns-in_err-push-clause-within g c = rw c.deref-track-items.ensures.value at (last_fit _ _ _ _ _ _ _ c.loop-track-test.true c.loop-track.invariant.5 c.push.ensures.work.within)

pub returns-clause-within : goal.returns-clause-within
returns-clause-within g c =
    let few : c.loop-track.track-index ≤ length c.args.head.now.tracks.items = search rules in
    all_fit _ _ _ _ _ _ few c.loop-track.invariant.5

pub returns-in_err-push-clause-exact : goal.returns-in_err-push-clause-exact
returns-in_err-push-clause-exact g c =
    let p = err_from_is_err_and c.from_residual-in_err-push.result c.from_residual-in_err-push.ensures.1 in
    let i = c.loop-track.invariant in
    let named = tables_refused _ [] [] _ _ c.loop-track.plain c.track-item.result c.loop-track-test.true c.track-item.is i.6 c.in_err-push.field-0.0 (λ file e t own. (c.in_err-push.ensures.exact file e t own).names) in
    rw (p.1, p.2) (λ file e trees a. record { names = (rw c.deref-track-items.ensures.value at named) file e trees a })

pub returns-clause-exact : goal.returns-clause-exact
returns-clause-exact g c =
    let fine = tables_fine _ _ _ _ c.loop-track-test.false c.loop-track.invariant.6 in
    λ file e trees a. record { names = (rw c.deref-track-items.ensures.value at fine) file e trees a }

pub returns-in_err-trexes-clause-exact : goal.returns-in_err-trexes-clause-exact
returns-in_err-trexes-clause-exact g c =
    let p = err_from_is_err_and c.from_residual.result c.from_residual.ensures.1 in
    rw (p.1, p.2) (λ file e trees a. record { names = tt })
