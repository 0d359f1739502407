use Rattle.std.proofs.Common.{rules, ◌≡◌, List, length, ap, sym, ◌∙◌, slice_index_or}
use Rattle.std.proofs.lemmas.Result.{err_from_is_err_and}
use Rattle.mp4_tables.specs.declared.sample.SampleAt.{SampleAt}
use Rattle.mp4_present.proofs.TrafTaken.{at_place}
use Rattle.mp4_content.specs.words.ComingLess.{reduction_by}
use Rattle.mp4_content.proofs.MeasuredTracks.{asked_reduction, count_is, plain_is}
use Rattle.mp4_content.proofs.measures.reduction_of.Goals as goal

pub returns-then-not-asks_first-clause-reduction : goal.returns-then-not-asks_first-clause-reduction
returns-then-not-asks_first-clause-reduction g c told tree t samples o h all =
    c.plain.ensures ∙ plain_is c.args.leaving c.args.divisor samples (sym c.asks_first.ensures ∙ c.if-not-asks_first.true)

pub returns-in_err-first-clause-unchanged : goal.returns-in_err-first-clause-unchanged
returns-in_err-first-clause-unchanged g c told tree t samples o h =
    let p = err_from_is_err_and c.from_residual.result c.from_residual.ensures.1 in
    rw (p.1, p.2) (c.in_err-first.ensures.unchanged told tree t samples o h)

pub returns-clause-coming : goal.returns-clause-coming
returns-clause-coming g c told tree t samples o h = (c.in_ok-first.ensures.coming told tree t samples o h).0

pub returns-clause-reduction : goal.returns-clause-reduction
returns-clause-reduction g c told tree t samples o h all =
    let file = g.S.Store.file c.args.store.now in
    let m = c.args.movie.now in
    let w = c.args.walk.now in
    let info = c.index-tracks-track.result in
    let is : info ≡ slice_index_or m.tracks w.track info = search rules in
    let there = at_place m.tracks w.track info c.requires.goes_on.track is in
    let many = count_is file m tree t w.track info o h.3.0.is_track there ∙ sym (ap (λ (ss : List SampleAt). length ss) all) in
    let shown = c.in_ok-first.ensures.coming told tree t samples o h in
    rw (c.by_first.ensures, c.tracks.ensures, c.track-track.ensures, ← is) ((λ i. reduction_by c.args.leaving c.args.divisor (many i) (shown.1 i)) ∙ asked_reduction c.args.leaving c.args.divisor samples (sym c.asks_first.ensures ∙ c.if-not-asks_first.false))
