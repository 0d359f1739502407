use Rattle.std.proofs.Common.{rules, ◌≡◌, false, sym, ◌∙◌}
use Rattle.std.specs.Prelude.{true}
use Rattle.mp4_head.specs.words.Seen.{kept_seen}
use Rattle.mp4_content.specs.format.BitRates.{are_zeros, begins_box, box_left, tiles_left}
use Rattle.mp4_content.proofs.FirstBoxes.{if_ok, so_far_none, so_far_more, whole_left, whole_stays}
use Rattle.mp4_content.proofs.bit_rates.tiles_left.Goals as goal

pub loop-leaving-init : goal.loop-leaving-init
loop-leaving-init c = rw c.new-left.ensures.items (so_far_none c.args.leaving.bitrates (box_left c.args.leaving.bitrates c.args.leaving.ids) c.args.bytes.now)

pub loop-leaving-smaller : goal.loop-leaving-smaller
loop-leaving-smaller c = c.split_box.ensures.shorter

pub loop-leaving-preserved : goal.loop-leaving-preserved
loop-leaving-preserved c = so_far_more c.args.leaving.bitrates (box_left c.args.leaving.bitrates c.args.leaving.ids) c.args.bytes.now c.loop-leaving.left.items c.loop-leaving.rest.now c.put_left.new.out.items c.split_box.result.1.now (kept_seen c.split_box.result.0) c.loop-leaving.invariant
    (sym c.begins_box.ensures ∙ c.loop-leaving-test.true) c.split_box.ensures.first c.split_box.ensures.behind c.in_ok-put_left.ensures

pub returns-then-not-are_zeros : goal.returns-then-not-are_zeros
returns-then-not-are_zeros c =
    let none : begins_box c.loop-leaving.rest.now ≡ false = search rules in
    let zeros : are_zeros c.args.zeros c.loop-leaving.rest.now ≡ false = search rules in
    if_ok (λ left. left.items ≡ c.args.bytes.now) (λ left. left.items ≡ tiles_left c.args.leaving.bitrates (box_left c.args.leaving.bitrates c.args.leaving.ids) c.args.zeros c.args.bytes.now) c.copied.result
    (λ left e. whole_stays c.args.leaving.bitrates (box_left c.args.leaving.bitrates c.args.leaving.ids) c.args.zeros c.args.bytes.now c.loop-leaving.left.items c.loop-leaving.rest.now left.items c.loop-leaving.invariant none zeros e) c.copied.ensures

pub returns : goal.returns
returns c =
    let none : begins_box c.loop-leaving.rest.now ≡ false = search rules in
    let zeros : are_zeros c.args.zeros c.loop-leaving.rest.now ≡ true = search rules in
    whole_left c.args.leaving.bitrates (box_left c.args.leaving.bitrates c.args.leaving.ids) c.args.zeros c.args.bytes.now c.loop-leaving.left.items c.loop-leaving.rest.now c.put.new.out.items c.loop-leaving.invariant none zeros c.in_ok-put.ensures
