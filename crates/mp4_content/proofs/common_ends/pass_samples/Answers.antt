use Rattle.std.proofs.Common.{rules, ◌≡◌, ◌<◌, ◌≤◌, drop, length, subst, arith}
use Rattle.std.proofs.lemmas.Result.{err_from_is_err_and}
use Rattle.mp4_present.specs.words.SamplesComing.{Comes}
use Rattle.mp4_content.proofs.EndsPassed.{passes_one, some_behind, takes_most, takes_then}
use Rattle.mp4_content.proofs.common_ends.pass_samples.Goals as goal

pub returns-in_err-_sample-clause-unchanged : goal.returns-in_err-_sample-clause-unchanged
returns-in_err-_sample-clause-unchanged g c told tree t samples o come le =
    let i = c.loop-passed.invariant in
    let k = c.loop-passed.passed in
    let below : k < c.args.count = search rules in
    let lt : k < length samples = omega (arith, below, le) in
    let e = err_from_is_err_and c.from_residual.result c.from_residual.ensures.1 in
    rw (e.1, e.2) ((rw (i.honesty, i.file) at c.in_err-_sample.ensures.unchanged) told tree t (drop k samples) o (i.coming told tree t samples o come) (some_behind k samples lt))

pub returns-in_err-_sample-clause-work : goal.returns-in_err-_sample-clause-work
returns-in_err-_sample-clause-work g c told tree t n o may =
    let i = c.loop-passed.invariant in
    let e = err_from_is_err_and c.from_residual.result c.from_residual.ensures.1 in
    rw e.1 (takes_most (g.S.Store.file c.args.store.now) tree t n c.args.steps.now.passed c.loop-passed.steps.passed c.next_sample.new.steps.passed c.loop-passed.walk (i.takes told tree t n o may)
    (λ k hk. (rw (i.honesty, i.file) at c.in_err-_sample.ensures.work) told tree t k o hk))

pub loop-passed-preserved : goal.loop-passed-preserved
loop-passed-preserved g c =
    let i = c.loop-passed.invariant in
    let e = c.in_ok-_sample.ensures in
    let file = g.S.Store.file c.args.store.now in
    let below : c.loop-passed.passed < c.args.count = search rules in
    record {
      within = omega (arith, below);
      honesty = search rules;
      file = search rules;
      reads = search rules;
      looks = search rules;
      grows = (let more = e.grows in let before = i.grows in omega (arith, more, before));
      walk = search rules;
      coming = λ told tree t samples o come. passes_one file tree t c.args.movie.now c.next_sample.new.self c.loop-passed.passed samples c.in_ok-_sample._sample
          ((rw (i.honesty, i.file) at e.next) told tree t (drop c.loop-passed.passed samples) o (i.coming told tree t samples o come));
      takes = λ told tree t n o may. takes_then file tree t n c.args.steps.now.passed c.loop-passed.steps.passed c.next_sample.new.steps.passed c.loop-passed.walk c.next_sample.new.self (i.takes told tree t n o may)
          (λ k hk. (rw (i.honesty, i.file) at e.work) told tree t k o hk);
    }

pub returns-clause-coming : goal.returns-clause-coming
returns-clause-coming g c told tree t samples o come =
    let i = c.loop-passed.invariant in
    let all : c.loop-passed.passed ≡ c.args.count = (let le = i.within in let no : c.args.count ≤ c.loop-passed.passed = search rules in omega (arith, le, no)) in
    subst (λ k. Comes (g.S.Store.file c.args.store.now) tree t c.args.movie.now c.loop-passed.walk (drop k samples)) all (i.coming told tree t samples o come)
