use Rattle.std.proofs.Common.{refl, rules, ◌≡◌}
use Rattle.std.proofs.lemmas.Result.{err_from_is_err_and}
use Rattle.mp4_answers.proofs.Told.{tells_all, tells_front}
use Rattle.mp4_answers.proofs.commands.print.put_movie.Goals as goal

pub returns-in_err-close : goal.returns-in_err-close
returns-in_err-close g c =
    let p = err_from_is_err_and c.from_residual.result c.from_residual.ensures.1 in
    let text : c.text-1.given.0 ≡ c.put_movie_lines.new.latch.out.now = search rules in
    let sink : c.sink-1.given.0 ≡ c.put_movie_lines.new.latch.sink.now = search rules in
    rw (p.1, p.2, text, sink) (tells_front g.K.Sink _ c.put_movie_lines.ensures refl c.in_err-close.ensures.err)

pub returns : goal.returns
returns g c =
    let text : c.text-1.given.0 ≡ c.put_movie_lines.new.latch.out.now = search rules in
    let sink : c.sink-1.given.0 ≡ c.put_movie_lines.new.latch.sink.now = search rules in
    rw (text, sink) (tells_all g.K.Sink _ c.put_movie_lines.ensures _ c.in_ok-close.ensures.ok)
