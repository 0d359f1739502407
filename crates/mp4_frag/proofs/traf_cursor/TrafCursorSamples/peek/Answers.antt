use Rattle.std.proofs.Common.{◌≡◌, ap, sym, ◌∙◌, arith}
use Rattle.std.specs.Prelude.{slice_get}
use Rattle.mp4_frag.specs.words.Walks.{samples_coming}
use Rattle.mp4_frag.proofs.Comings.{none_to_come}
use Rattle.mp4_frag.proofs.traf_cursor.TrafCursorSamples.peek.Goals as goal

pub returns-else-self-gt0 : goal.returns-else-self-gt0
returns-else-self-gt0 c =
    let s = c.self.inside in
    let i = c.self.invariant in
    let none : s.place.run.left ≡ 0 = omega (arith, c.if-self-gt0.false) in
    let ends = ap samples_coming (sym c.self.view_is) ∙ none_to_come s.payload.now s.place none (i.settled none) in
    ap (λ samples. slice_get samples 0) (sym ends)
