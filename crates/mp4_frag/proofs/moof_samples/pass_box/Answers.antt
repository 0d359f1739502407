use Rattle.std.proofs.Common.{length, refl, sym, ap, ◌∙◌, arith}
use Rattle.mp4_frag.specs.words.MoofWalks.{behind_left, left_before, walk_of}
use Rattle.mp4_frag.specs.words.Walks.{boxes_from}
use Rattle.mp4_frag.proofs.BoxPlaces.{box_end}
use Rattle.mp4_frag.proofs.MoofSteps.{left_none, traf_next}
use Rattle.mp4_frag.proofs.moof_samples.pass_box.Goals as goal

pub returns-in_default-clause-coming : goal.returns-in_default-clause-coming
returns-in_default-clause-coming c =
    let payload = c.args.payload.now in
    let place = c.args.place.now in
    let w = walk_of c.args.moof c.args.tracks.now place in
    ap (left_before payload w place) (box_end payload (length payload) (length payload) (omega arith) ∙ sym (c.in_default.ensures.none refl))

pub returns-then-eq-clause-coming : goal.returns-then-eq-clause-coming
returns-then-eq-clause-coming c =
    let payload = c.args.payload.now in
    let place = c.args.place.now in
    let child = c.in-Some.child in
    let w = walk_of c.args.moof c.args.tracks.now place in
    ap (λ n. left_before payload w c.enter_traf.new.place (boxes_from payload n)) c.enter_traf.ensures.next
    ∙ c.enter_traf.ensures.coming (boxes_from payload child.end)
    ∙ traf_next payload w (behind_left payload place) place.next child.inside child.end child.kind.0 c.in-Some.ensures.some (sym c.if-eq.ensures)
    ∙ sym (left_none payload w place (boxes_from payload place.next) c.requires.place c.requires.none)
