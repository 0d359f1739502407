use Rattle.std.proofs.Common.{rules, ◌≡◌, ◌+◌, ◌<◌, ◌++◌, [], ◌∷◌, length, slice_index_or, ap, ◌∙◌}
use Rattle.mp4_content.specs.words.Contents.{info_left, numbers_of}
use Rattle.mp4_content.specs.declared.tracks_left.TrackLeft.{TrackLeft}
use Rattle.mp4_content.proofs.InfosLeft.{left_more}
use Rattle.mp4_content.proofs.tracks_left.tracks_left.Goals as goal

pub loop-k-preserved : goal.loop-k-preserved
loop-k-preserved c =
    let infos = c.args.infos.now in
    let info = c.index-infos-k.result in
    let lt : c.loop-k.k < length infos = search rules in
    let is : info ≡ slice_index_or infos c.loop-k.k info = search rules in
    let pushed : c.push.new.self.items ≡ c.loop-k.tracks.items ++ c.track_left.result ∷ [] = search rules in
    let divisors = c.args.scales.now.tracks.items in
    let one = c.track_left.ensures ∙ ap (λ n. numbers_of (info_left c.args.leaving (c.loop-k.k + 1) n info)) c.track.ensures in
    pushed ∙ ap (λ (x : TrackLeft). c.loop-k.tracks.items ++ x ∷ []) one ∙ left_more c.args.leaving c.loop-k.k divisors infos info c.loop-k.tracks.items lt is c.loop-k.invariant
