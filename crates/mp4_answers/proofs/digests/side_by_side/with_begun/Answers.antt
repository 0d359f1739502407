use Rattle.std.proofs.Common.{◌≡◌, length, arith, sym, ◌∙◌, slice_index}
use Rattle.std.proofs.lemmas.List.{length-map, ext_get_or}
use Rattle.mp4_answers.specs.words.Lanes.{lane}
use Rattle.sha2.specs.Sha256.{initial_hash_256}
use Rattle.mp4_answers.proofs.LaneLaws.{slice_index-lane}
use Rattle.mp4_answers.proofs.digests.side_by_side.with_begun.Goals as goal

pub returns-clause-begun : goal.returns-clause-begun
returns-clause-begun c =
    let i = c.words.invariant in
    let count = i.count in
    let long : length (lane c.args.l c.words.begun) ≡ 8 = length-map c.words.begun (λ v. slice_index v c.args.l) ∙ i.count in
    ext_get_or 0 (lane c.args.l c.words.begun) initial_hash_256 long (λ k lt. slice_index-lane c.args.l c.words.begun k ∙ i.begun k (omega (arith, long, lt)))

pub returns-clause-others : goal.returns-clause-others
returns-clause-others c j in_four other =
    let i = c.words.invariant in
    let count = i.count in
    let long : length (lane j c.words.begun) ≡ 8 = length-map c.words.begun (λ v. slice_index v j) ∙ i.count in
    let full : length c.args.state.now ≡ 8 = omega arith in
    ext_get_or 0 (lane j c.words.begun) (lane j c.args.state.now) (long ∙ sym (length-map c.args.state.now (λ v. slice_index v j) ∙ full))
    (λ k lt. slice_index-lane j c.words.begun k ∙ i.others k j (omega (arith, long, lt)) in_four other ∙ sym (slice_index-lane j c.args.state.now k))
