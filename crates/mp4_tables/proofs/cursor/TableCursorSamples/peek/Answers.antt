use Rattle.std.proofs.Common.{ap, sym, ◌∙◌}
use Rattle.std.specs.Prelude.{slice_get}
use Rattle.mp4_tables.specs.words.TablesSeen.{samples_from}
use Rattle.mp4_tables.proofs.PlaceLists.{none_left}
use Rattle.mp4_tables.proofs.cursor.TableCursorSamples.peek.Goals as goal

pub returns-else-self : goal.returns-else-self
returns-else-self c =
    let s = c.self.inside in
    let ends = ap samples_from (sym c.self.view_is) ∙ none_left s.payload.now s.at s.place.number c.self.invariant.0 c.if-self.false in
    ap (λ samples. slice_get samples 0) (sym ends)
