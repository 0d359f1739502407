use Rattle.std.proofs.Common.{rules, ◌<◌, ◌≤◌, ◌≡◌, ◌+◌, max, length, subst, slice_index_or}
use Rattle.std.proofs.lemmas.Result.{err_from_is_err_and}
use Rattle.mp4_boxes.specs.words.View.{box_seen}
use Rattle.mp4_present.specs.format.Presentation.{Presentation}
use Rattle.mp4_present.specs.words.Measured.{IsMeasure}
use Rattle.mp4_present.proofs.Lengths.{AreInTime, time_more, time_all, time_refused, short_enough, too_long}
use Rattle.mp4_present.proofs.opening.limit_checks.check_limits.Goals as goal

pub returns-in_err-checked_length-clause-fault : goal.returns-in_err-checked_length-clause-fault
returns-in_err-checked_length-clause-fault c =
    let head = c.args.head.now in
    let states = c.args.states.now in
    let less : c.loop-k.k < length head.tracks.items = search rules in
    let track : c.index.result.now ≡ slice_index_or head.tracks.items c.loop-k.k c.index.result.now = search rules in
    let e = c.in_err-checked_length.ensures in
    let p = err_from_is_err_and c.from_residual.result c.from_residual.ensures.1 in
    rw (p.1, p.2) (time_refused head states c.loop-k.k c.loop-k.longest c.loop-k.invariant (box_seen c.args.moov) c.index.result.now c.index-states-k.result c.in_err-checked_length.field-0.0 less track c.index-states-k.is e.passes e.named)

pub loop-k-preserved : goal.loop-k-preserved
loop-k-preserved c =
    let head = c.args.head.now in
    let states = c.args.states.now in
    let less : c.loop-k.k < length head.tracks.items = search rules in
    let track : c.index.result.now ≡ slice_index_or head.tracks.items c.loop-k.k c.index.result.now = search rules in
    let longest : max c.in_ok-checked_length.field-0 c.loop-k.longest ≡ c.max-longest.result = search rules in
    subst (λ n. (p : Presentation) → IsMeasure p head states → AreInTime p (c.loop-k.k + 1) n) longest
    (time_more head states c.loop-k.k c.loop-k.longest c.loop-k.invariant c.index.result.now c.index-states-k.result c.in_ok-checked_length.field-0 less track c.index-states-k.is c.in_ok-checked_length.ensures.within)

pub returns-then-head_len-clause-fault : goal.returns-then-head_len-clause-fault
returns-then-head_len-clause-fault c = λ p m.
    let all : length c.args.head.now.tracks.items ≤ c.loop-k.k = search rules in
    let times = (time_all c.args.head.now c.args.states.now c.loop-k.k c.loop-k.longest c.loop-k.invariant all p m).0 in
    too_long p c.args.head.now c.args.states.now (box_seen c.args.moov) c.head_len.result c.new.result m c.head_len.ensures.length (search rules) times (search rules)

pub returns-clause-within : goal.returns-clause-within
returns-clause-within c = λ p m.
    let all : length c.args.head.now.tracks.items ≤ c.loop-k.k = search rules in
    let t = time_all c.args.head.now c.args.states.now c.loop-k.k c.loop-k.longest c.loop-k.invariant all p m in
    (t.0, t.1, short_enough p c.args.head.now c.args.states.now c.head_len.result m c.head_len.ensures.length (search rules))
