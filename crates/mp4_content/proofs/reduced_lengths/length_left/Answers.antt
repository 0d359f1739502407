use Rattle.std.proofs.Common.{◌≡◌, true, false, ◌∙◌, sym}
use Rattle.mp4_content.specs.words.LeftTimes.{moves_limits}
use Rattle.std.proofs.lemmas.Result.{err_from_is_err_and}
use Rattle.mp4_boxes.proofs.Plain.{both_ways}
use Rattle.mp4_content.proofs.LeftChecked.{left_err, left_ok}
use Rattle.mp4_content.proofs.MayPass.{may_pass, none_moves}
use Rattle.mp4_content.proofs.LeftTimes.{all_counted_short, edits_stay, opened_heads, opened_scale}
use Rattle.mp4_content.proofs.ReducedFaults.{passes_limits}
use Rattle.mp4_content.proofs.reduced_lengths.length_left.Goals.{else-not-has-via-then-not-has+else-not-moves_limits, else-not-has-via-else-not-has}
use Rattle.mp4_content.proofs.reduced_lengths.length_left.Goals as goal

pub returns-then-not-moves_limits-clause-left : goal.returns-then-not-moves_limits-clause-left
returns-then-not-moves_limits-clause-left c file tree o scales are =
    let l = c.args.leaving in
    let counts : l.timing ≡ false = sym c.has.ensures ∙ c.if-not-has.true in
    let none = none_moves l (sym c.moves_limits.ensures ∙ c.if-not-moves_limits.true) in
    let h = edits_stay l file c.args.movie.now tree none.0 counts none.1 none.2 none.3 o in
    (h.0, c.mehd.ensures ∙ h.1)

pub returns-then-has-clause-left : goal.returns-then-has-clause-left
returns-then-has-clause-left c file tree o scales are =
    let r = all_counted_short c.args.leaving (rw c.has-2.ensures at c.if-has.true) file tree c.args.movie.now c.args.scales.now c.in_ok-head.head c.leave_head.new.head o scales c.in_ok-head.ensures c.leave_head.ensures.tracks c.leave_head.ensures.places in
    (r.0, rw (c.as_slice-heads.ensures.value, c.tracks-tracks.ensures) at c.longest_by_count.ensures ∙ r.1)

pub returns-in_err-longest_left-clause-fault : goal.returns-in_err-longest_left-clause-fault
returns-in_err-longest_left-clause-fault c file tree o scales are =
    let l = c.args.leaving in
    let m = c.args.movie.now in
    let by = c.args.scales.now in
    let head = c.leave_head.new.head in
    let p = err_from_is_err_and c.from_residual-in_err-longest_left.result c.from_residual-in_err-longest_left.ensures.1 in
    let checked = rw (c.as_slice-heads.ensures.value, c.as_slice-owns.ensures.value, c.tracks-tracks.ensures) at c.in_err-longest_left.ensures in
    let heads_are = opened_heads l file tree m by c.in_ok-head.head head o scales c.in_ok-head.ensures c.leave_head.ensures.tracks c.leave_head.ensures.places in
    let scale = opened_scale l file tree m by c.in_ok-head.head head o scales c.in_ok-head.ensures c.leave_head.ensures.movie in
    let passes = left_err l (rw c.has-2.ensures at c.if-has.false) file tree m by head c.args.totals.now o heads_are scale are c.in_err-longest_left.field-0.0 (sym checked) in
    rw (p.1, p.2) (passes, passes_limits l file tree c.in_err-longest_left.field-0.0 passes)

pub returns-in_err-longest_left-clause-refusal : goal.returns-in_err-longest_left-clause-refusal
returns-in_err-longest_left-clause-refusal c =
    let l = c.args.leaving in
    let p = err_from_is_err_and c.from_residual-in_err-longest_left.result c.from_residual-in_err-longest_left.ensures.1 in
    let counts : l.timing ≡ false = rw c.has-2.ensures at c.if-has.false in
    let some : moves_limits l ≡ true = elim c.else-not-has.branch [
      | else-not-has-via-then-not-has+else-not-moves_limits w ↦ sym w.moves_limits.ensures ∙ w.if-not-moves_limits.false
      | else-not-has-via-else-not-has w ↦ both_ways l.timing (sym c.has.ensures ∙ w.if-not-has.false) counts
    ] in
    rw (p.1, p.2) (may_pass l _ 0 _ _ _ _ c.in_err-longest_left.field-0.0 some counts (sym c.in_err-longest_left.ensures))

pub returns-clause-left : goal.returns-clause-left
returns-clause-left c file tree o scales are =
    let l = c.args.leaving in
    let m = c.args.movie.now in
    let by = c.args.scales.now in
    let head = c.leave_head.new.head in
    let checked = rw (c.as_slice-heads.ensures.value, c.as_slice-owns.ensures.value, c.tracks-tracks.ensures) at c.in_ok-longest_left.ensures in
    let heads_are = opened_heads l file tree m by c.in_ok-head.head head o scales c.in_ok-head.ensures c.leave_head.ensures.tracks c.leave_head.ensures.places in
    let scale = opened_scale l file tree m by c.in_ok-head.head head o scales c.in_ok-head.ensures c.leave_head.ensures.movie in
    left_ok l (rw c.has-2.ensures at c.if-has.false) file tree m by head c.args.totals.now o heads_are scale are c.in_ok-longest_left.field-0 (sym checked)
