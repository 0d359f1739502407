use Rattle.mp4_head.specs.words.Seen.{movie_seen}
use Rattle.mp4_present.proofs.Latched.{goes_is, goes_on}
use Rattle.mp4_answers.proofs.HeadTexts.{lines_are, movie_is}
use Rattle.mp4_answers.proofs.text.head_lines.put_movie_lines.Goals as goal
use Rattle.std.proofs.Common.{sym}

pub returns : goal.returns
returns g c =
    let kept = rw c.as_slice.ensures.value at c.put_boxes.ensures in
    let is = movie_is (movie_seen c.args.head.now) _ (lines_are _ _ c.movie_values.ensures) in
    goes_is g.K.Sink (goes_on g.K.Sink _ _ (goes_on g.K.Sink _ _ c.put.ensures c.put_all_named.ensures) kept) (sym is)
