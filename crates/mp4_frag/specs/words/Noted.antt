-- How the check of a `moof` notes its `traf`s.
use Rattle.std.specs.Prelude.{◌≡◌, ℕ, zero, suc, cond, max, ℤ, List, [], ◌∷◌, ◌++◌, map, Option, Some, None, slice_get}
use Rattle.mp4_boxes.specs.format.Box.{Box}
use Rattle.mp4_frag.specs.format.FragmentSamples.{has_samples}
use Rattle.mp4_frag.specs.words.OwnTrafs.{OwnSeen, PlacedTraf, placed_with, note_of}
use Rattle.mp4_frag.specs.words.RunsJudged.{children_of}
use Rattle.mp4_frag.specs.words.TrafFaults.{traf_in}
use Rattle.mp4_frag.specs.words.Walks.{trex_among}
use Rattle.mp4_frag.specs.declared.check.PassedTraf.{PassedTraf}
use Rattle.mp4_frag.specs.declared.next_traf.OwnTraf.{OwnTraf}
use Rattle.mp4_frag.specs.declared.state.TrackState.{TrackState}
use Rattle.mp4_frag.specs.declared.trex.Trex.{Trex}

-- the notes with one more
abbrev pub with_note : OwnTraf → OwnSeen → OwnSeen
with_note note own = record {
  trafs = own.trafs ++ note ∷ [];
  longest = max own.longest note.len;
}

-- the notes of all tracks, with one more of the track at this place, if it has notes
abbrev pub noted_at : ℕ → OwnTraf → List OwnSeen → List OwnSeen
noted_at place note [] = []
noted_at zero note (o ∷ owns) = with_note note o ∷ owns
noted_at (suc place) note (o ∷ owns) = o ∷ noted_at place note owns

-- the same, if there is a note
abbrev pub noted_if : ℕ → Option OwnTraf → List OwnSeen → List OwnSeen
noted_if place None owns = owns
noted_if place (Some note) owns = noted_at place note owns

-- the note of a `traf`, if it has samples
abbrev pub note_if : PlacedTraf → Option OwnTraf
note_if p = cond (has_samples p.part) (Some (note_of p)) None

-- the IDs of tracks
abbrev pub ids_of : List TrackState → List ℕ
ids_of tracks = map (λ (t : TrackState). t.id) tracks

-- what is noted of a `traf` of a `moof` behind data that ends at a place, and of which track
pub record IsNotable (moof : ℕ) (before : ℤ) (traf : Box) (tracks : List TrackState)
    (p : PassedTraf) : Type 0 where
  pub trex : Trex
  pub known : trex_among tracks (traf_in traf).id ≡ Some trex
  pub there : slice_get (ids_of tracks) p.track ≡ Some (traf_in traf).id
  pub note : p.own ≡ note_if (placed_with moof before trex traf (children_of traf))
