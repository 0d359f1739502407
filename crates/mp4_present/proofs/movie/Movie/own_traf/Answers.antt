use Rattle.std.proofs.Common.{arith, ◌≡◌, ◌<◌, ◌∙◌, length, sym, ap, slice_get, Some}
use Rattle.mp4_frag.specs.words.OwnTrafs.{OwnSeen}
use Rattle.mp4_present.specs.words.OwnTrafs.{own_seen}
use Rattle.mp4_present.specs.words.Movies.{MovieSeen}
use Rattle.mp4_present.proofs.OwnPlaced.{got}
use Rattle.mp4_present.proofs.movie.Movie.own_traf.Goals as goal
use Rattle.mp4_boxes.proofs.Plain.{get_map, length_mapped}

pub returns-clause-traf : goal.returns-clause-traf
returns-clause-traf c own at =
    let items = c.self.inside.own.items in
    let found = c.index.result.now in
    let tracks = ap (λ (m : MovieSeen). length m.tracks) c.self.view_is in
    let each = c.self.invariant.each_own in
    let owns = length_mapped own_seen items in
    let inside = c.requires in
    let within : c.args.track < length items = omega (arith, tracks, each, owns, inside) in
    let there : slice_get items c.args.track ≡ Some found = got items c.args.track found within ∙ ap Some (sym c.index.ensures) in
    let seen = get_map own_seen items c.args.track found there in
    let same : own_seen found ≡ own = some_is (own_seen found) own (sym seen ∙ ap (λ (m : MovieSeen). slice_get m.own c.args.track) c.self.view_is ∙ at) in
    c.get.ensures.traf ∙ ap (λ (o : OwnSeen). slice_get o.trafs c.args.place) same
  where
    some_is : (x y : OwnSeen) → Some x ≡ Some y → x ≡ y
    some_is x y e = cc
