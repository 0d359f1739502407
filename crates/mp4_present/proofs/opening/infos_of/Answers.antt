use Rattle.std.proofs.Common.{rules, ◌≡◌, ◌<◌, ◌≤◌, length, slice_index_or}
use Rattle.mp4_present.proofs.Assembled.{infos_next, infos_whole, infos_ids}
use Rattle.mp4_present.proofs.opening.infos_of.Goals as goal

pub loop-k-preserved : goal.loop-k-preserved
loop-k-preserved c =
    let heads = c.args.head.now.tracks.items in
    let states = c.args.states.now in
    let k = c.loop-k.k in
    let less : k < length heads = search rules in
    let head : c.index-track.result.now ≡ slice_index_or heads k c.index-track.result.now = search rules in
    let state : c.index-states-k.result ≡ slice_index_or states k c.index-states-k.result = search rules in
    (search rules, infos_next heads states c.loop-k.tracks.items c.push.new.self.items k c.index-track.result.now c.index-states-k.result c.info_of.result c.requires.states less head state c.loop-k.invariant.1 c.info_of.ensures c.in_ok-push.ensures.items)

pub returns-clause-infos : goal.returns-clause-infos
returns-clause-infos c =
    let all : length c.args.head.now.tracks.items ≤ c.loop-k.k = search rules in
    let infos = infos_whole c.args.head.now.tracks.items c.args.states.now c.loop-k.tracks.items c.loop-k.k c.requires.states all c.loop-k.invariant.1 in
    record { each = search rules; ids = infos_ids _ _ _ infos; infos = infos }
