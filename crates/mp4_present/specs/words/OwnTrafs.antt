-- Which `traf`s of a file have samples of a track.
use Rattle.std.specs.Prelude.{◌≡◌, ℕ, cond, List, [], map, flat_map, Option, Some, None}
use Rattle.std.specs.List.{AllZip}
use Rattle.mp4_boxes.specs.format.Box.{Box}
use Rattle.mp4_frag.specs.format.Fragments.{FragmentTree}
use Rattle.mp4_frag.specs.words.OwnTrafs.{OwnSeen, PlacedTraf, own_in, note_of, longest_of}
use Rattle.mp4_frag.specs.declared.state.TrackState.{TrackState}
use Rattle.mp4_head.specs.format.Tree.{TrackTree, MovieTree, track_head_of, trexes_of}
use Rattle.mp4_present.specs.words.PassedMoofs.{IsPassed}
use Rattle.mp4_present.specs.declared.own_trafs.OwnTrafs.{OwnTrafs}
use Rattle.mp4_present.specs.declared.track_places.NotedTracks.{NotedTracks}

-- what a clause sees of the notes of a track
abbrev pub own_seen : OwnTrafs → OwnSeen
own_seen own = record { trafs = own.trafs.items; longest = own.longest }

-- what is noted of each track, where there was memory for it
abbrev pub told_of : NotedTracks → Option (List OwnSeen)
told_of t = cond t.is_refused None (Some (map own_seen t.own.items))

-- nothing is noted of a track before the first `moof`
abbrev pub none_noted : OwnSeen
none_noted = record { trafs = []; longest = 0 }

-- those of these `moof`s that have samples of the track with this ID
abbrev pub own_of : MovieTree → ℕ → List FragmentTree → List PlacedTraf
own_of movie id fs = flat_map (own_in (trexes_of movie) id) fs

-- this is what is noted of these `moof`s for the track with this ID
pub record IsOwn (movie : MovieTree) (id : ℕ) (fs : List FragmentTree) (own : OwnSeen) : Type 0
  where
    pub trafs : own.trafs ≡ map note_of (own_of movie id fs)
    pub longest : own.longest ≡ longest_of (own_of movie id fs)

-- the same for each track in order
abbrev pub AreOwn : MovieTree → List FragmentTree → List OwnSeen → Type 0
AreOwn movie fs owns =
    AllZip (λ (t : TrackTree) own. IsOwn movie (track_head_of t).id fs own) movie.tracks owns

-- all of a file's `moof`s were passed, and this is noted for each track in order
abbrev pub AreOwnBehind : List ℕ → MovieTree → List Box → List TrackState → List OwnSeen → Type 0
AreOwnBehind file movie boxes states owns = (p : IsPassed file movie boxes states)
    × AreOwn movie p.fragments owns
