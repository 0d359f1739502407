use Rattle.std.proofs.Common.{◌≡◌, ◌∙◌, ◌^◌, ◌<◌, ◌++◌, ap, sym, to_z, of_z, rules}
use Rattle.std.specs.Prelude.{option_map}
use Rattle.std.specs.Int.{w128}
use Rattle.mp4_frag.specs.format.FragmentSamples.{base_of}
use Rattle.mp4_frag.specs.words.MoofWalks.{Between, behind_left, behind_samples, between, runs_end_held, traf_coming, traf_left, trafs_coming, walk_of}
use Rattle.mp4_frag.specs.words.Reading.{as_traf}
use Rattle.mp4_frag.specs.words.Walks.{boxes_from, coming, part_of, samples_in}
use Rattle.mp4_frag.specs.declared.heads.Inherited.{Inherited}
use Rattle.mp4_frag.proofs.MoofSteps.{headless, inherits_none, entered, left_none, none_behind, none_in_hand}
use Rattle.mp4_frag.proofs.moof_samples.enter_traf.Goals as goal

pub returns-in_default-clause-coming : goal.returns-in_default-clause-coming
returns-in_default-clause-coming c boxes =
    let payload = c.args.payload.now in
    let place = c.args.place.now in
    let w = walk_of c.args.moof c.args.tracks.now place in
    left_none payload w place boxes c.requires.place c.requires.none
    ∙ headless w (behind_left payload place) (part_of payload c.args.lying.inside c.args.lying.end) (λ s. trafs_coming w s boxes) (option_map as_traf c.head_in.result) c.head_in.ensures (ap (option_map as_traf) c.in_default.is)

pub returns-in_default-trex_of-clause-coming : goal.returns-in_default-trex_of-clause-coming
returns-in_default-trex_of-clause-coming c boxes =
    let payload = c.args.payload.now in
    let place = c.args.place.now in
    let w = walk_of c.args.moof c.args.tracks.now place in
    left_none payload w place boxes c.requires.place c.requires.none
    ∙ inherits_none w (behind_left payload place) (part_of payload c.args.lying.inside c.args.lying.end) (λ s. trafs_coming w s boxes) (as_traf c.in-Some.head) (sym (ap (option_map as_traf) c.in-Some.is) ∙ c.head_in.ensures)
    (sym c.trex_of.ensures ∙ c.in_default-trex_of.is)

pub returns-clause-coming : goal.returns-clause-coming
returns-clause-coming c boxes =
    let payload = c.args.payload.now in
    let place = c.args.place.now in
    let w = walk_of c.args.moof c.args.tracks.now place in
    let part = part_of payload c.args.lying.inside c.args.lying.end in
    let head = as_traf c.in-Some.head in
    let trex = c.in-Some-trex_of.trex in
    let begun = c.begin_traf-place.ensures in
    let small : place.number < 2 ^ 32 = search rules in
    let short : place.traf.dts < 2 ^ 64 = search rules in
    let before : to_z w128 (of_z w128 place.before) ≡ place.before = search rules in
    let base : to_z w128 (of_z w128 c.base_of.result) ≡ c.base_of.result = search rules in
    let end : to_z w128 (of_z w128 c.data_end-place.result) ≡ c.data_end-place.result = search rules in
    let twice = ap (λ z. to_z w128 (of_z w128 z)) base ∙ base in
    let time = begun.time in
    let here = none_behind place.number place.traf.dts (traf_left payload place) place.before (none_in_hand payload place c.requires.place c.requires.none) small short in
    let samples = begun.coming ∙ (λ i. samples_in part (base i) place.id trex place.number place.traf.dts w.keys) in
    let inherits = ap (λ (n : Inherited). n.size) c.what_is_inherited.ensures in
    let ends = c.data_end-place.ensures ∙ (λ i. runs_end_held (inherits i) (twice i) (twice i) (boxes_from part 0)) in
    (λ i. coming part c.begin_traf-place.result ++ trafs_coming w (behind_samples place.number (time i) (coming part c.begin_traf-place.result) (end i)) boxes)
    ∙ entered w (between place) part (λ s. trafs_coming w s boxes) head trex c.base_of.result c.data_end-place.result (coming part c.begin_traf-place.result) (sym (ap (option_map as_traf) c.in-Some.is) ∙ c.head_in.ensures) (sym c.trex_of.ensures ∙ c.in-Some-trex_of.is)
    (c.base_of.ensures.is ∙ ap (λ z. base_of c.args.moof z head) before) samples ends
    ∙ ap (λ (s : Between). traf_coming w s part (λ t. trafs_coming w t boxes)) (sym here)
