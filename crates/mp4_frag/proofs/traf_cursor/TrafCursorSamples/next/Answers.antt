use Rattle.std.proofs.Common.{◌≡◌, ap, sym, refl, ◌∙◌, drop, arith}
use Rattle.std.specs.Prelude.{slice_get}
use Rattle.mp4_frag.specs.words.Walks.{samples_coming}
use Rattle.mp4_frag.proofs.Comings.{none_to_come}
use Rattle.mp4_frag.proofs.traf_cursor.TrafCursorSamples.next.Goals as goal

pub returns-else-self-gt0-clause-given : goal.returns-else-self-gt0-clause-given
returns-else-self-gt0-clause-given c =
    let s = c.self.inside in
    let i = c.self.invariant in
    let none : s.place.run.left ≡ 0 = omega (arith, c.if-self-gt0.false) in
    let ends = ap samples_coming (sym c.self.view_is) ∙ none_to_come s.payload.now s.place none (i.settled none) in
    ap (λ samples. slice_get samples 0) (sym ends)

pub returns-else-self-gt0-clause-rest : goal.returns-else-self-gt0-clause-rest
returns-else-self-gt0-clause-rest c =
    let s = c.self.inside in
    let i = c.self.invariant in
    let none : s.place.run.left ≡ 0 = omega (arith, c.if-self-gt0.false) in
    let ends = ap samples_coming (sym c.self.view_is) ∙ none_to_come s.payload.now s.place none (i.settled none) in
    ends ∙ ap (drop 1) (sym ends)

pub pass_sample-requires-clause-next : goal.pass_sample-requires-clause-next
pass_sample-requires-clause-next c = record { next = c.sample_here-sample.result; first = c.sample_here-sample.ensures; duration = refl; size = refl }
