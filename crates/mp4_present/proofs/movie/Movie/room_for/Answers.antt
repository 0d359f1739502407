use Rattle.std.proofs.Common.{arith, min, ◌≡◌, ◌<◌, ◌∙◌, length, sym, ap, slice_get, Some}
use Rattle.mp4_present.specs.words.Movies.{MovieSeen, own_room, room_of}
use Rattle.mp4_present.specs.words.OwnTrafs.{own_seen}
use Rattle.mp4_present.proofs.OwnPlaced.{got}
use Rattle.mp4_present.proofs.movie.Movie.room_for.Goals as goal
use Rattle.mp4_boxes.proofs.Plain.{get_map, length_mapped}

pub returns-clause-room : goal.returns-clause-room
returns-clause-room c =
    let items = c.self.inside.own.items in
    let own = c.index.result.now in
    let tracks = ap (λ (m : MovieSeen). length m.tracks) c.self.view_is in
    let each = c.self.invariant.each_own in
    let owns = length_mapped own_seen items in
    let inside = c.requires in
    let within : c.args.track < length items = omega (arith, tracks, each, owns, inside) in
    let there : slice_get items c.args.track ≡ Some own = got items c.args.track own within ∙ ap Some (sym c.index.ensures) in
    let seen = get_map own_seen items c.args.track own there in
    c.min.ensures ∙ ap (λ n. min c.self.inside.longest n) c.longest.ensures ∙ ap (λ found. room_of found c.self.inside.longest) (sym seen) ∙ ap (λ (m : MovieSeen). own_room m c.args.track) c.self.view_is
