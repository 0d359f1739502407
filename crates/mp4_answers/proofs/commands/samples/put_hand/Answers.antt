use Rattle.std.proofs.Common.{rules}
use Rattle.std.proofs.lemmas.Result.{err_from_is_err_and}
use Rattle.mp4_present.proofs.WalkCopied.{kept_before}
use Rattle.mp4_present.proofs.WalkPlaces.{kept_on}
use Rattle.mp4_present.proofs.WayThrough.{hand_goes_on}
use Rattle.mp4_answers.proofs.commands.samples.put_hand.Goals as goal

pub returns-clause-walk : goal.returns-clause-walk
returns-clause-walk g c = record {
  walk = rw c.keep.ensures.place (kept_on c.args.movie.now c.args.walk.now c.in_hand-hand.result _ c.place-place.result c.requires c.in_hand-hand.ensures.hand c.put_lines.ensures.later c.place-place.ensures);
  next = search rules;
  left = search rules;
  stands = λ file tree t earlier later s. rw c.keep.ensures.place (kept_before file tree t earlier later c.args.walk.now c.place-place.result s);
}

pub returns-in_err-put_lines-clause-lines : goal.returns-in_err-put_lines-clause-lines
returns-in_err-put_lines-clause-lines g c =
    let p = err_from_is_err_and c.from_residual.result c.from_residual.ensures.1 in
    rw p.1 (c.fragment-fragment.result, c.fragment-fragment.ensures, (c.in_hand-hand.result, c.in_hand-hand.ensures.hand, λ fits. c.in_err-put_lines.ensures.lines fits))

pub returns-clause-lines : goal.returns-clause-lines
returns-clause-lines g c = (c.fragment-fragment.result, c.fragment-fragment.ensures, (c.in_hand-hand.result, c.in_hand-hand.ensures.hand, λ fits. c.in_ok-put_lines.ensures.lines fits))

pub returns-clause-work : goal.returns-clause-work
returns-clause-work g c file tree t n o may =
    rw c.keep.ensures.place (hand_goes_on file c.args.movie.now tree t c.args.walk.now c.in_hand-hand.result _ c.place-place.result n _ _ o c.in_hand-hand.ensures.movie c.requires c.in_hand-hand.ensures.hand c.put_lines.ensures.later c.place-place.ensures c.keep.ensures.work may)
