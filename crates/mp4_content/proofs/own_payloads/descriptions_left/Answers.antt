use Rattle.std.proofs.Common.{rules, ◌≡◌, ◌<◌, ◌≤◌, length, map, Some, [], ◌∷◌, ◌++◌, arith, ap, sym, ◌∙◌}
use Rattle.std.specs.Prelude.{slice_get}
use Rattle.mp4_head.specs.words.Seen.{kept_seen}
use Rattle.mp4_content.specs.words.PayloadsLeft.{box_left_seen, description_left}
use Rattle.mp4_present.proofs.Changed.{there_is}
use Rattle.mp4_content.proofs.OwnPayloads.{put_next, put_all, entries_left}
use Rattle.mp4_content.proofs.own_payloads.descriptions_left.Goals as goal
use Rattle.mp4_boxes.proofs.Plain.{get_map, length_mapped}

pub loop-k-preserved : goal.loop-k-preserved
loop-k-preserved c =
    let entries = c.args.media.now.descriptions.items in
    let f = description_left c.args.leaving c.args.media.now.handler.now in
    let k = c.loop-k.k in
    let one = c.in_ok-one.one in
    let entry = c.index.result.now in
    let pushed : c.push.new.self.items ≡ c.loop-k.left.items ++ one ∷ [] = search rules in
    let lt : k < length entries = search rules in
    let there : slice_get entries k ≡ Some entry = there_is entries k _ entry lt c.index.ensures in
    let at = get_map f (map kept_seen entries) k (kept_seen entry) (get_map kept_seen entries k entry there) in
    let is : box_left_seen one ≡ f (kept_seen entry) = c.in_ok-one.ensures in
    rw pushed (put_next box_left_seen (map f (map kept_seen entries)) c.loop-k.left.items k one c.loop-k.invariant (at ∙ ap (λ x. Some x) (sym is)))

pub returns : goal.returns
returns c =
    let entries = c.args.media.now.descriptions.items in
    let f = description_left c.args.leaving c.args.media.now.handler.now in
    let handler = c.args.media.now.handler.now in
    let over : length entries ≤ c.loop-k.k = search rules in
    let many = length_mapped f (map kept_seen entries) in
    let seen = length_mapped kept_seen entries in
    let all = put_all box_left_seen (map f (map kept_seen entries)) c.loop-k.left.items c.loop-k.k c.loop-k.invariant (omega (arith, over, many, seen)) in
    all ∙ entries_left c.args.leaving handler (map kept_seen entries)
