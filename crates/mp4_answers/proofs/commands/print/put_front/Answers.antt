use Rattle.std.proofs.Common.{[], ◌∷◌, ◌≡◌, ◌∙◌, codes, refl, rules}
use Rattle.std.specs.Prelude.{flat_map}
use Rattle.std.proofs.lemmas.List.{append-nil}
use Rattle.std.proofs.lemmas.Result.{err_from_is_err_and}
use Rattle.mp4_present.proofs.Latched.{goes_on}
use Rattle.mp4_answers.specs.format.Text.{number_line}
use Rattle.mp4_answers.specs.words.Telling.{said_line}
use Rattle.mp4_answers.proofs.HeadTexts.{said_is}
use Rattle.mp4_answers.proofs.Told.{tells_all, tells_front}
use Rattle.mp4_answers.proofs.commands.print.put_front.Goals as goal

pub returns-in_err-close : goal.returns-in_err-close
returns-in_err-close g c =
    let p = err_from_is_err_and c.from_residual.result c.from_residual.ensures.1 in
    let line : flat_map said_line (c.number.result ∷ []) ≡ number_line (codes "start") c.args.start = append-nil _ ∙ said_is c.number.result _ _ _ c.number.ensures.name c.number.ensures.said refl in
    let text : c.text-1.given.0 ≡ c.put_heading.new.latch.out.now = search rules in
    let sink : c.sink-1.given.0 ≡ c.put_heading.new.latch.sink.now = search rules in
    let goes = goes_on g.K.Sink _ _ (goes_on g.K.Sink _ _ c.put_head.ensures (rw line at c.put_all_named.ensures)) c.put_heading.ensures in
    rw (p.1, p.2, text, sink) (tells_front g.K.Sink _ goes refl c.in_err-close.ensures.err)

pub returns : goal.returns
returns g c =
    let line : flat_map said_line (c.number.result ∷ []) ≡ number_line (codes "start") c.args.start = append-nil _ ∙ said_is c.number.result _ _ _ c.number.ensures.name c.number.ensures.said refl in
    let text : c.text-1.given.0 ≡ c.put_heading.new.latch.out.now = search rules in
    let sink : c.sink-1.given.0 ≡ c.put_heading.new.latch.sink.now = search rules in
    let goes = goes_on g.K.Sink _ _ (goes_on g.K.Sink _ _ c.put_head.ensures (rw line at c.put_all_named.ensures)) c.put_heading.ensures in
    rw (text, sink) (tells_all g.K.Sink _ goes _ c.in_ok-close.ensures.ok)
