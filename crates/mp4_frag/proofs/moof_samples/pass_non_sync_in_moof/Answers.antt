use Rattle.std.proofs.Common.{subst, sym, List}
use Rattle.mp4_tables.specs.words.Next.{PassesNonSync}
use Rattle.mp4_tables.specs.declared.sample.SampleAt.{SampleAt}
use Rattle.mp4_frag.specs.words.MoofWalks.{moof_coming, walk_of}
use Rattle.mp4_frag.proofs.MoofSteps.{some_passed}
use Rattle.mp4_frag.proofs.moof_samples.pass_non_sync_in_moof.Goals as goal

pub returns-clause-passed : goal.returns-clause-passed
returns-clause-passed c =
    let payload = c.args.payload.now in
    let place = c.args.place.now in
    let w = walk_of c.args.moof c.args.tracks.now place in
    let n = c.pass_non_sync-count.result in
    subst (λ (l : List SampleAt). PassesNonSync c.args.description n (moof_coming payload w place) l) (sym c.settle.ensures.coming)
    (some_passed payload w place c.saturating_add-place.result c.pass_non_sync-count.new.place c.args.description n c.saturating_add-place.ensures c.pass_non_sync-count.ensures.passed c.pass_non_sync-count.ensures.time)
