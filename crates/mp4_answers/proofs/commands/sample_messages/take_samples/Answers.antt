use Rattle.std.proofs.Common.{◌∙◌, arith}
use Rattle.std.proofs.lemmas.List.{length-set}
use Rattle.mp4_answers.proofs.SampleLists.{one_taken}
use Rattle.mp4_answers.proofs.commands.sample_messages.take_samples.Goals as goal

pub loop-count-preserved : goal.loop-count-preserved
loop-count-preserved g c =
    let i = c.loop-count.invariant in
    let e = c.in-Some.ensures in
    record {
      within = omega arith;
      room = length-set c.loop-count.samples c.loop-count.count c.in-Some.sample ∙ i.room;
      taken = one_taken _ c.loop-count.samples _ _ c.loop-count.count c.in-Some.sample (omega (arith, i.room)) i.taken e.given e.rest;
      later = g.met.H.Samples.follows_on _ _ _ i.later e.later;
    }
