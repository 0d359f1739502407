use Rattle.std.proofs.Common.{ap, sym, ◌∙◌, drop}
use Rattle.std.specs.Prelude.{slice_get}
use Rattle.std.proofs.lemmas.List.{drop-drop}
use Rattle.mp4_tables.specs.words.Accepted.{tables_at}
use Rattle.mp4_tables.specs.words.TablesSeen.{samples_from}
use Rattle.mp4_tables.specs.words.Timed.{samples_of}
use Rattle.mp4_tables.proofs.PlaceLists.{some_left, size_here}
use Rattle.mp4_tables.proofs.cursor.TableCursorSamples.pass.Goals as goal

pub pass_place-requires-clause-inside : goal.pass_place-requires-clause-inside
pass_place-requires-clause-inside c =
    let s = c.self.inside in
    some_left s.payload.now s.at s.place.number c.requires.next c.self.invariant.0 (ap (λ v. slice_get (samples_from v) 0) c.self.view_is ∙ c.requires.first)

pub pass_place-requires-clause-size : goal.pass_place-requires-clause-size
pass_place-requires-clause-size c =
    let s = c.self.inside in
    sym c.requires.size ∙ size_here s.payload.now s.at s.place c.requires.next c.self.invariant.0 c.self.invariant.1 (ap (λ v. slice_get (samples_from v) 0) c.self.view_is ∙ c.requires.first)

pub returns-clause-rest : goal.returns-clause-rest
returns-clause-rest c =
    let s = c.self.inside in
    let all = samples_of (tables_at s.payload.now s.at) in
    ap (λ n. drop n all) c.pass_place.ensures.number ∙ sym (drop-drop 1 s.place.number all) ∙ ap (λ v. drop 1 (samples_from v)) c.self.view_is
