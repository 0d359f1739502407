use Rattle.std.proofs.Common.{◌≡◌, ap, sym, ◌∙◌, arith}
use Rattle.std.specs.Prelude.{slice_get}
use Rattle.mp4_frag.specs.words.MoofWalks.{frag_samples, walk_of}
use Rattle.mp4_frag.proofs.MoofSteps.{in_hand_first, over_here}
use Rattle.mp4_frag.proofs.frag_cursor.FragCursorSamples.peek.Goals as goal

pub returns-then-self-gt0 : goal.returns-then-self-gt0
returns-then-self-gt0 c =
    let s = c.self.inside in
    let w = walk_of s.moof s.tracks.now s.place in
    sym c.sample_here.ensures ∙ sym (in_hand_first s.payload.now w s.place c.if-self-gt0.true) ∙ ap (λ v. slice_get (frag_samples v) 0) c.self.view_is

pub returns-else-self-gt0 : goal.returns-else-self-gt0
returns-else-self-gt0 c =
    let s = c.self.inside in
    let w = walk_of s.moof s.tracks.now s.place in
    let none : s.place.traf.run.left ≡ 0 = omega (arith, c.if-self-gt0.false) in
    let ends = ap frag_samples (sym c.self.view_is) ∙ over_here s.payload.now w s.place c.self.invariant none in
    ap (λ samples. slice_get samples 0) (sym ends)
