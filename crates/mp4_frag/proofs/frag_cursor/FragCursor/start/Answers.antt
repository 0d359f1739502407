use Rattle.std.proofs.Common.{◌∙◌, ◌^◌, ◌<◌, ◌≤◌, length, take, ap, subst, arith}
use Rattle.std.proofs.lemmas.List.{length-map, length-take}
use Rattle.mp4_boxes.specs.format.Box.{Box}
use Rattle.mp4_boxes.specs.format.Bytes.{AreBytes}
use Rattle.mp4_tables.specs.words.Keys.{key_seen, keys_seen}
use Rattle.mp4_frag.specs.words.FragmentsSeen.{moof_seen}
use Rattle.mp4_frag.specs.words.Judged.{samples_of_track, tree_of}
use Rattle.mp4_frag.specs.words.MoofWalks.{frag_samples}
use Rattle.mp4_frag.proofs.MoofSteps.{started}
use Rattle.mp4_frag.proofs.MoofTied.{moof_few, moof_tied}
use Rattle.mp4_frag.proofs.frag_cursor.FragCursor.start.Goals as goal

pub returns-clause-samples : goal.returns-clause-samples
returns-clause-samples c =
    let seen = moof_seen c.args.view.now in
    let moof = c.moof-moof.ensures in
    let first = c.first_place-place.ensures in
    let settled = c.settle.ensures in
    ap frag_samples c.at.ensures
    ∙ started seen.payload c.payload.result.now seen.offset c.offset-2.result c.offset.result c.args.dts c.args.tracks.now c.first_place-place.result c.settle.new.place c.args.track c.args.keys (c.payload.ensures ∙ ap (λ (b : Box). b.payload) moof)
    (c.offset-2.ensures ∙ ap (λ (b : Box). b.offset) moof) (c.offset.ensures ∙ ap (λ (b : Box). b.offset) moof) first.track.0 first.track.1 settled.track settled.coming first.coming

pub returns-clause-definition : goal.returns-clause-definition
returns-clause-definition c file_length room less trexes states after sound moved small_room defaults alike distinct fits =
    let seen = moof_seen c.args.view.now in
    let keys = keys_seen c.args.keys in
    let whole = c.args.view.now.moof.fits in
    let early : seen.offset < 2 ^ 64 = omega (arith, whole) in
    let small : length seen.payload < 2 ^ 64 = omega (arith, whole) in
    let bytes : AreBytes seen.payload = subst AreBytes (c.payload.ensures ∙ ap (λ (b : Box). b.payload) c.moof-moof.ensures) c.settle.ensures.bytes in
    let few : length keys ≤ 4 = omega (arith, length-map (take c.args.keys.count c.args.keys.named) key_seen, length-take c.args.keys.count c.args.keys.named, c.args.keys.few) in
    let number : length (samples_of_track trexes c.args.track (tree_of seen)) < 2 ^ 32 = omega (arith, moof_few trexes c.args.track seen states after room less defaults moved, small_room) in
    returns-clause-samples c ∙ moof_tied file_length trexes states c.args.tracks.now (tree_of seen) c.args.track c.args.dts keys early small bytes few distinct sound defaults alike number fits
