use Rattle.std.proofs.Common.{ap, ◌∙◌}
use Rattle.std.specs.Prelude.{slice_get}
use Rattle.mp4_frag.specs.words.Walks.{samples_coming}
use Rattle.mp4_frag.proofs.Comings.{some_left}
use Rattle.mp4_frag.proofs.traf_cursor.TrafCursorSamples.pass.Goals as goal

pub pass_sample-requires-clause-some : goal.pass_sample-requires-clause-some
pass_sample-requires-clause-some c =
    let s = c.self.inside in
    some_left s.payload.now s.place c.requires.next c.self.invariant.settled (ap (λ v. slice_get (samples_coming v) 0) c.self.view_is ∙ c.requires.first)

pub pass_sample-requires-clause-next : goal.pass_sample-requires-clause-next
pass_sample-requires-clause-next c =
    let n = c.requires in
    record { next = n.next; first = ap (λ v. slice_get (samples_coming v) 0) c.self.view_is ∙ n.first; duration = n.duration; size = n.size }
