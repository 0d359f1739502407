-- What the samples of a movie fragment have to keep, rule by rule. In a `traf` they are checked in
-- the order `tfhd`, `tfdt`, each `trun` in file order with its places, indexes, each `sbgp` in file
-- order, then the time that is due.
use Rattle.std.specs.Prelude.{ℕ, ◌&&◌, ◌==◌, Bool, List, Option, is_some, unwrap_or, option_map, find}
use Rattle.std.specs.List.{list_all}
use Rattle.mp4_tables.specs.format.PlainSamples.{PlacedSample}
use Rattle.mp4_tables.specs.format.TableRules.{lies_within, is_index}
use Rattle.mp4_frag.specs.declared.trex.Trex.{Trex}
use Rattle.mp4_frag.specs.format.FragmentSamples.{Part, part_samples, trex_for}

-- a track as fragments see it: its ID, and how many descriptions it has
pub record TrackFacts : Type 0 where
  pub id : ℕ
  pub descriptions : ℕ

abbrev pub track_for : List TrackFacts → ℕ → Option TrackFacts
track_for tracks id = find (λ track. track.id == id) tracks

-- the track and its `trex` are there
abbrev pub is_known : List TrackFacts → List Trex → Part → Bool
is_known tracks trexes part = is_some (track_for tracks part.id)
    && is_some (trex_for trexes part.id)

-- each sample has a description of its track
abbrev pub has_indexes : List TrackFacts → Part → Bool
has_indexes tracks part =
    list_all (λ s.
    is_index (unwrap_or (option_map (λ track. track.descriptions) (track_for tracks part.id)) 0)
    s.description) (part_samples part)

-- each sample of a run lies in the file
abbrev pub is_within : ℕ → List PlacedSample → Bool
is_within file_length samples = list_all (λ s. lies_within file_length s.at s.size) samples
