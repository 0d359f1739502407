use Rattle.std.proofs.Common.{rules, ◌≡◌, List, length, map, sym, subst, ◌∙◌}
use Rattle.std.proofs.lemmas.Result.{err_from_is_err_and}
use Rattle.mp4_boxes.specs.format.Box.{Box}
use Rattle.mp4_boxes.specs.words.View.{box_seen}
use Rattle.mp4_frag.specs.declared.state.TrackState.{TrackState}
use Rattle.mp4_present.specs.format.Denotes.{presentation_of}
use Rattle.mp4_present.specs.words.Measured.{IsMeasure, LimitFails}
use Rattle.mp4_present.specs.words.Movies.{moov_box}
use Rattle.mp4_present.specs.words.Waits.{end_of}
use Rattle.mp4_present.proofs.WaitsMeasured.{heads_many, measure_of}
use Rattle.mp4_present.proofs.movie.Movie.length_within.Goals as goal

pub returns-then-len-clause-unchanged : goal.returns-then-len-clause-unchanged
returns-then-len-clause-unchanged c file tree h changed =
    let same : length c.in_ok-head.head.tracks.items ≡ length c.args.self.now.tracks = heads_many file c.args.self.now tree c.in_ok-head.head h c.in_ok-head.ensures in
    search rules

pub returns-in_err-check_limits-clause-fault : goal.returns-in_err-check_limits-clause-fault
returns-in_err-check_limits-clause-fault c file tree h =
    let m = c.args.self.now in
    let p = err_from_is_err_and c.from_residual-in_err-check_limits.result c.from_residual-in_err-check_limits.ensures.1 in
    let head = c.in_ok-head.head in
    let presented = presentation_of file tree in
    let ends : c.as_slice-3.result.now ≡ map end_of m.tracks = search rules in
    let measure = subst (λ (es : List TrackState). IsMeasure presented head es) (sym ends) (measure_of file m tree head h c.in_ok-head.ensures) in
    let box : box_seen c.view-moov.result ≡ moov_box m = search rules in
    rw (p.1, p.2) (head, h.heads head c.in_ok-head.ensures, subst (λ (b : Box). LimitFails presented head b c.in_err-check_limits.field-0.0) (box ∙ h.moov) (c.in_err-check_limits.ensures.fault presented measure))

pub returns-clause-within : goal.returns-clause-within
returns-clause-within c file tree h =
    let m = c.args.self.now in
    let head = c.in_ok-head.head in
    let presented = presentation_of file tree in
    let ends : c.as_slice-3.result.now ≡ map end_of m.tracks = search rules in
    let measure = subst (λ (es : List TrackState). IsMeasure presented head es) (sym ends) (measure_of file m tree head h c.in_ok-head.ensures) in
    let found = c.in_ok-check_limits.ensures.within presented measure in
    record { times = found.0; longest = found.1; moov = found.2 }
