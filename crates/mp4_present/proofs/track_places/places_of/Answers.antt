use Rattle.std.proofs.Common.{◌≡◌, ℕ, ◌+◌, ◌-◌, ◌<◌, length, subst, rules}
use Rattle.mp4_frag.specs.words.Noted.{ids_of}
use Rattle.mp4_present.proofs.TracksFound.{ArePlacesFrom, track_more}
use Rattle.mp4_present.proofs.track_places.places_of.Goals as goal

pub loop-step-preserved : goal.loop-step-preserved
loop-step-preserved c =
    let tracks = c.args.tracks.now in
    let k = length tracks - (c.loop-step.step + 1) in
    let lt : k < length tracks = search rules in
    let next : length tracks - c.loop-step.step ≡ k + 1 = search rules in
    let before = subst (λ (n : ℕ). ArePlacesFrom (ids_of tracks) c.loop-step.places n) next c.loop-step.invariant in
    track_more tracks c.loop-step.places c.insert.new.self k c.index-tracks-k.result lt (search rules) before (search rules)
