use Rattle.std.proofs.Common.{rules, ◌≡◌, ◌<◌, length, refl, [], ◌∷◌, ◌++◌}
use Rattle.std.specs.Prelude.{slice_index_or}
use Rattle.mp4_head.specs.words.Seen.{media_seen}
use Rattle.mp4_head.specs.declared.heads.TrackHead.{TrackHead}
use Rattle.mp4_content.specs.words.PayloadsLeft.{IsMediaLeft}
use Rattle.mp4_present.proofs.Changed.{there_is}
use Rattle.mp4_content.proofs.OwnPayloads.{zip_next}
use Rattle.mp4_content.proofs.own_payloads.payloads_left.Goals as goal

pub loop-k-preserved : goal.loop-k-preserved
loop-k-preserved c =
    let tracks = c.args.tracks.now in
    let k = c.loop-k.k in
    let left = c.in_ok-left.left in
    let track = slice_index_or tracks k c.index-tracks-k.result in
    let pushed : c.push.new.self.items ≡ c.loop-k.lefts.items ++ left ∷ [] = search rules in
    let lt : k < length tracks = search rules in
    rw pushed (zip_next (λ (t : TrackHead). IsMediaLeft c.args.leaving (media_seen t.media)) tracks c.loop-k.lefts.items k track left c.loop-k.invariant (there_is tracks k c.index-tracks-k.result track lt refl) c.in_ok-left.ensures)
