use Rattle.std.proofs.Common.{rules, ◌≡◌, ◌<◌, ◌≤◌, length, map, Some, [], ◌∷◌, ◌++◌, arith, ap, sym, ◌∙◌}
use Rattle.mp4_head.specs.words.Seen.{kept_seen}
use Rattle.mp4_content.specs.words.PayloadsLeft.{box_left_seen}
use Rattle.mp4_present.proofs.Changed.{there_is}
use Rattle.mp4_content.proofs.OwnPayloads.{put_next, put_all}
use Rattle.mp4_content.proofs.own_payloads.boxes_left.Goals as goal
use Rattle.mp4_boxes.proofs.Plain.{get_map, length_mapped}

pub loop-k-preserved : goal.loop-k-preserved
loop-k-preserved c =
    let boxes = c.args.boxes.now.items in
    let k = c.loop-k.k in
    let box = c.index.result.now in
    let one = c.as_kept-one.result in
    let pushed : c.push.new.self.items ≡ c.loop-k.left.items ++ one ∷ [] = search rules in
    let lt : k < length boxes = search rules in
    let at = get_map box_left_seen boxes k box (there_is boxes k _ box lt c.index.ensures) in
    rw pushed (put_next kept_seen (map box_left_seen boxes) c.loop-k.left.items k one c.loop-k.invariant (at ∙ ap (λ x. Some x) (sym c.as_kept-one.ensures)))

pub returns : goal.returns
returns c =
    let boxes = c.args.boxes.now.items in
    let over : length boxes ≤ c.loop-k.k = search rules in
    let many = length_mapped box_left_seen boxes in
    put_all kept_seen (map box_left_seen boxes) c.loop-k.left.items c.loop-k.k c.loop-k.invariant (omega (arith, over, many))
