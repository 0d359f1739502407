use Rattle.std.proofs.Common.{◌≡◌, ◌+◌, ◌==◌, suc, take, None, true, false, subst, arith, rules, slice_index_or}
use Rattle.std.proofs.lemmas.Bool.Decides.{nat_tests}
use Rattle.mp4_frag.specs.words.Finding.{track_with}
use Rattle.mp4_frag.proofs.TracksSearched.{first_there, passed_other}
use Rattle.mp4_frag.proofs.tracking.OneByOneTracking.find.Goals as goal

pub returns-then-tracks-k-clause-there : goal.returns-then-tracks-k-clause-there
returns-then-tracks-k-clause-there g c =
    let same = c.if-tracks-k.true in
    let test : ((slice_index_or c.args.tracks.now c.loop-k.k c.index-tracks-k.result).id == c.args.id) ≡ true = grind (arith, nat_tests) in
    first_there c.args.tracks.now c.loop-k.k c.args.id c.index-tracks-k.result c.loop-k-test.true test c.loop-k.invariant.none

pub loop-k-preserved : goal.loop-k-preserved
loop-k-preserved g c =
    let apart = c.if-tracks-k.false in
    let test : ((slice_index_or c.args.tracks.now c.loop-k.k c.index-tracks-k.result).id == c.args.id) ≡ false = grind (arith, nat_tests) in
    let more : suc c.loop-k.k ≡ c.loop-k.k + 1 = omega arith in
    record {
      none = subst (λ n. track_with c.args.id (take n c.args.tracks.now) ≡ None) more (passed_other c.args.tracks.now c.loop-k.k c.args.id c.index-tracks-k.result c.loop-k-test.true test c.loop-k.invariant.none);
      looks = search rules;
      passed = search rules;
    }
