use Rattle.std.proofs.Common.{◌≡◌, ◌+◌, rules, arith}
use Rattle.mp4_present.specs.words.Joined.{IsBelow}
use Rattle.mp4_present.proofs.JoinedSamples.{joined_more, joined_one, first_has, given_has, ends_within}
use Rattle.mp4_present.proofs.walking.stretches.next_stretch.Goals as goal

pub loop-stretch-init : goal.loop-stretch-init
loop-stretch-init g c =
    let given = (rw c.in_ok-first.was at c.next.ensures.given) in
    let r = joined_one _ _ c.in_ok-first.first given c.next.ensures.rest in
    record {
      some = omega arith;
      few = search rules;
      there = r.0;
      left = c.next.ensures.rest;
      joined = rw c.from.ensures r.1;
      within = λ n h. rw c.from.ensures (first_has (IsBelow n) _ c.in_ok-first.first given h);
      short = search rules;
      later = c.next.ensures.later;
    }

pub loop-stretch-preserved : goal.loop-stretch-preserved
loop-stretch-preserved g c =
    let i = c.loop-stretch.invariant in
    let old = c.loop-stretch.stretch in
    let given = rw c.in-Some.is at c.peek.ensures in
    let follows : c.in-Some.sample.at ≡ old.at + old.len = search rules in
    let r = joined_more old.samples _ _ _ c.in-Some.sample old.at old.len i.left given c.next-in-Some.ensures.rest i.joined follows in
    record {
      some = omega arith;
      few = search rules;
      there = r.0;
      left = r.1;
      joined = rw c.from-in-Some.ensures r.2;
      within = λ n h. rw c.from-in-Some.ensures (ends_within n old.at old.len c.in-Some.sample.at c.in-Some.sample.size follows (given_has (IsBelow n) old.samples _ _ c.in-Some.sample i.left given h));
      short = search rules;
      later = g.met.C.Samples.follows_on _ _ _ i.later c.next-in-Some.ensures.later;
    }
