-- Tracks that are found by their IDs, in a map.
use Rattle.std.specs.Prelude.{◌≡◌, ℕ, suc, ◌==◌, cond, List, [], ◌∷◌, Option, Some, None}
use Rattle.std.specs.BTreeMap.{get}
use Rattle.std.specs.Ordering.{nat_cmp}
use Rattle.mp4_present.specs.declared.track_places.TrackPlaces.{TrackPlaces}

-- the place of the first of these IDs that is this one, where they begin at a place
abbrev pub place_from : ℕ → ℕ → List ℕ → Option ℕ
place_from id at [] = None
place_from id at (i ∷ ids) = cond (i == id) (Some at) (place_from id (suc at) ids)

-- the map has the place of the first of each of these IDs, and no others
abbrev pub ArePlacesOf : List ℕ → TrackPlaces → Type 0
ArePlacesOf ids places = (id : ℕ) → get nat_cmp places.places id ≡ place_from id 0 ids
