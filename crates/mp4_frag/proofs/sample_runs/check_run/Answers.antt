use Rattle.std.proofs.Common.{arith, ◌<◌, ◌^◌, ◌∙◌, sym, rules}
use Rattle.std.proofs.lemmas.Bool.{le-leb}
use Rattle.mp4_boxes.specs.format.Bytes.{AreBytes}
use Rattle.mp4_frag.proofs.Bounds.{run_up_to}
use Rattle.mp4_frag.proofs.RunRows.{near_again, nearer_again, added}
use Rattle.mp4_frag.proofs.FirstRun.{run_large, run_fine, run_elsewhere}
use Rattle.mp4_frag.proofs.RunsRead.{run_outside, run_passes, large_is, within_same}
use Rattle.mp4_frag.proofs.sample_runs.check_run.Goals as goal

pub returns-then-samples-clause-run : goal.returns-then-samples-clause-run
returns-then-samples-clause-run g c =
    let r = c.in_ok-run.ensures.run in
    let start = rw (nearer_again c.args.judged.base c.requires.base, near_again c.args.passed.at c.requires.passed.near) at c.run_start-start.ensures.is in
    let again = near_again c.run_start-start.result c.run_start-start.ensures.near in
    let within = rw again at c.pass_samples-samples.ensures.within in
    let samples = c.pass_samples-samples.ensures.samples c.if-samples.true in
    let end = rw again at samples.end in
    let small = sym c.have_large_offset.ensures ∙ c.if-have_large_offset.false in
    record {
      run = rw (added c.args.passed.count c.in_ok-run.run'.count, added c.args.passed.duration c.pass_samples-samples.result.duration, added c.args.passed.bytes c.pass_samples-samples.result.bytes, near_again c.pass_samples-samples.result.end c.pass_samples-samples.ensures.near)
          (run_passes c.args.payload.now c.in_ok-run.run' c.args.judged.file_len c.args.judged.inherited c.args.judged.base c.args.passed.at c.run_start-start.result _ _ _ _ _ r start within c.if-samples.true end samples.duration samples.bytes samples.large small);
      count = search rules;
      duration = search rules;
      bytes = search rules;
      taken = search rules;
    }

pub returns-then-samples-clause-bound : goal.returns-then-samples-clause-bound
returns-then-samples-clause-bound g c n big base before =
    let bytes : AreBytes c.args.payload.now = λ i. search rules in
    let short : c.args.judged.file_len < 2 ^ 64 = search rules in
    run_up_to n c.args.judged.file_len c.args.judged.inherited c.args.judged.base c.args.passed.at c.args.payload.now _ _ _ _ bytes short (returns-then-samples-clause-run g c).run big base before

pub returns-then-samples-clause-counted : goal.returns-then-samples-clause-counted
returns-then-samples-clause-counted g c =
    let counted = c.pass_samples-samples.ensures.counted c.if-samples.true in
    omega (arith, counted)

-- ---- the first fault

pub returns-then-have_large_offset-clause-exact : goal.returns-then-have_large_offset-clause-exact
returns-then-have_large_offset-clause-exact g c =
    let r = c.in_ok-run.ensures.run in
    let start = rw (nearer_again c.args.judged.base c.requires.base, near_again c.args.passed.at c.requires.passed.near) at c.run_start-start.ensures.is in
    let within = rw (near_again c.run_start-start.result c.run_start-start.ensures.near) at c.pass_samples-samples.ensures.within in
    let large = (c.pass_samples-samples.ensures.samples c.if-samples.true).large in
    let few = c.if-run-room.false in
    let count = r.count in
    record {
      names = run_large c.args.judged c.args.passed.at c.args.room.now c.args.payload.now c.in_ok-run.ensures.exact.names (le-leb _ _ (omega (arith, few, count)))
          (sym (within_same c.args.payload.now c.in_ok-run.run' c.args.judged.file_len c.args.judged.inherited.size c.args.judged.base c.args.passed.at c.run_start-start.result _ r start within) ∙ c.if-samples.true)
          (sym (large_is c.args.payload.now c.in_ok-run.run' _ r large) ∙ sym c.have_large_offset.ensures ∙ c.if-have_large_offset.true);
    }

pub returns-then-samples-clause-exact : goal.returns-then-samples-clause-exact
returns-then-samples-clause-exact g c =
    let r = c.in_ok-run.ensures.run in
    let start = rw (nearer_again c.args.judged.base c.requires.base, near_again c.args.passed.at c.requires.passed.near) at c.run_start-start.ensures.is in
    let within = rw (near_again c.run_start-start.result c.run_start-start.ensures.near) at c.pass_samples-samples.ensures.within in
    let large = (c.pass_samples-samples.ensures.samples c.if-samples.true).large in
    let few = c.if-run-room.false in
    let count = r.count in
    record {
      names = run_fine c.args.judged c.args.passed.at c.args.room.now c.args.payload.now c.in_ok-run.ensures.exact.names (le-leb _ _ (omega (arith, few, count)))
          (sym (within_same c.args.payload.now c.in_ok-run.run' c.args.judged.file_len c.args.judged.inherited.size c.args.judged.base c.args.passed.at c.run_start-start.result _ r start within) ∙ c.if-samples.true)
          (sym (large_is c.args.payload.now c.in_ok-run.run' _ r large) ∙ sym c.have_large_offset.ensures ∙ c.if-have_large_offset.false);
    }

pub returns-clause-exact : goal.returns-clause-exact
returns-clause-exact g c =
    let r = c.in_ok-run.ensures.run in
    let start = rw (nearer_again c.args.judged.base c.requires.base, near_again c.args.passed.at c.requires.passed.near) at c.run_start-start.ensures.is in
    let within = rw (near_again c.run_start-start.result c.run_start-start.ensures.near) at c.pass_samples-samples.ensures.within in
    let few = c.if-run-room.false in
    let count = r.count in
    record {
      names = run_elsewhere c.args.judged c.args.passed.at c.args.room.now c.args.payload.now c.in_ok-run.ensures.exact.names (le-leb _ _ (omega (arith, few, count)))
          (run_outside c.args.payload.now c.in_ok-run.run' c.args.judged.file_len c.args.judged.inherited.size c.args.judged.base c.args.passed.at c.run_start-start.result _ r start within c.if-samples.false);
    }
