use Rattle.std.proofs.Common.{ap, sym, ◌∙◌, drop}
use Rattle.std.specs.Prelude.{slice_get}
use Rattle.mp4_tables.specs.words.TablesSeen.{samples_from}
use Rattle.mp4_tables.proofs.PlaceLists.{none_left, size_here}
use Rattle.mp4_tables.proofs.cursor.TableCursorSamples.next.Goals as goal

pub returns-else-self-clause-given : goal.returns-else-self-clause-given
returns-else-self-clause-given c =
    let s = c.self.inside in
    let ends = ap samples_from (sym c.self.view_is) ∙ none_left s.payload.now s.at s.place.number c.self.invariant.0 c.if-self.false in
    ap (λ samples. slice_get samples 0) (sym ends)

pub returns-else-self-clause-rest : goal.returns-else-self-clause-rest
returns-else-self-clause-rest c =
    let s = c.self.inside in
    let ends = ap samples_from (sym c.self.view_is) ∙ none_left s.payload.now s.at s.place.number c.self.invariant.0 c.if-self.false in
    ends ∙ ap (drop 1) (sym ends)

pub pass_place-requires-clause-size : goal.pass_place-requires-clause-size
pass_place-requires-clause-size c =
    let s = c.self.inside in
    size_here s.payload.now s.at s.place c.sample_here-sample.result c.self.invariant.0 c.self.invariant.1 (ap (λ l. slice_get l 0) c.sample_here-sample.ensures)
