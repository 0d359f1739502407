use Rattle.std.proofs.Common.{◌≡◌, Some, None, rules}
use Rattle.mp4_present.specs.words.TrackPlaces.{place_from}
use Rattle.mp4_frag.specs.words.Noted.{ids_of}
use Rattle.mp4_present.proofs.TracksFound.{found_inside, found_none, found_there}
use Rattle.mp4_present.proofs.track_places.NotedTracksTracking.find.Goals as goal

pub returns-in_err-place-clause-none : goal.returns-in_err-place-clause-none
returns-in_err-place-clause-none g c = λ none.
    let nothing : place_from c.args.id 0 (ids_of c.args._tracks.now) ≡ None = search rules in
    found_none c.args.id c.args._tracks.now nothing

pub returns-clause-inside : goal.returns-clause-inside
returns-clause-inside g c =
    let there : place_from c.args.id 0 (ids_of c.args._tracks.now) ≡ Some c.in_ok-place.field-0.now = search rules in
    found_inside c.args.id c.in_ok-place.field-0.now c.args._tracks.now there

pub returns-clause-there : goal.returns-clause-there
returns-clause-there g c =
    let there : place_from c.args.id 0 (ids_of c.args._tracks.now) ≡ Some c.in_ok-place.field-0.now = search rules in
    found_there c.args.id c.in_ok-place.field-0.now c.args._tracks.now there
