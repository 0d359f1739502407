-- What is noted of `traf`s, where it is told, and what is told of one that is refused.
use Rattle.std.specs.Prelude.{◌≡◌, ℕ, ◌+◌, ◌-◌, List, ◌∷◌, ◌++◌, length, take, Option, Some, None}
use Rattle.mp4_boxes.specs.format.Box.{Box, Tiles, box_container}
use Rattle.mp4_boxes.specs.declared.fault.Fault.{Fault}
use Rattle.mp4_frag.specs.words.Judged.{AreTrexesOf, IsSoundFront, IsMoofMovedOn, tree_of}
use Rattle.mp4_frag.specs.words.OwnTrafs.{AreApart, OwnSeen, noted_in}
use Rattle.mp4_frag.specs.declared.state.TrackState.{TrackState}
use Rattle.mp4_frag.specs.declared.trex.Trex.{Trex}

-- Before and after what was noted: where it is told after, it was told before, and so both are.
abbrev pub WhereNoted : Option (List OwnSeen) → Option (List OwnSeen)
    → (List OwnSeen → List OwnSeen → Type 0) → Type 0
WhereNoted before None P = Unit {0}
WhereNoted None (Some now) P = ⊥
WhereNoted (Some owns) (Some now) P = P owns now

-- Where it is told, after a `moof` behind tracks that stand so: of each track as many notes as
-- before are there, and behind them those of its `traf`s.
pub record NotesAll (moof : Box) (tracks : List TrackState) (before now : Option (List OwnSeen))
    : Type 0 where
  pub each : WhereNoted before now (λ owns news. length news ≡ length owns)
  pub all : (trexes : List Trex) → AreTrexesOf trexes tracks → AreApart tracks
      → WhereNoted before now (λ owns news. length owns ≡ length tracks
      → news ≡ noted_in trexes (tree_of moof) tracks owns)

-- a box up to a box in it
abbrev pub front_before : Box → Box → Box
front_before moof b = record moof {
  payload = take (b.offset - (moof.offset + moof.header)) moof.payload;
}

-- The `traf` is one of the `moof`, and those before it are sound, behind tracks and room that were
-- so. The tracks before it are these.
pub record StandsBehind (file_length : ℕ) (moof : Box) (states : List TrackState) (room : ℕ)
    (traf : Box) (after : List TrackState) : Type 0 where
  pub front : List Box
  pub later : List Box
  pub tiles : Tiles (box_container moof) (front ++ traf ∷ later)
  pub less : ℕ
  pub sound : (trexes : List Trex) → AreTrexesOf trexes states
      → IsSoundFront file_length trexes (tree_of (front_before moof traf))
  pub moved : IsMoofMovedOn (front_before moof traf) states after room less

-- what is told, which is this of a `traf` behind tracks in a file of so many bytes with a fault at
-- a place, goes with one of the `moof` for this fault
abbrev pub TellsRefused : (Box → List TrackState → ℕ → ℕ → Type 0) → ℕ → Box → List TrackState → ℕ
    → Fault → Type 0
TellsRefused Tells file_length moof states room fault = (traf : Box) × (after : List TrackState)
    × StandsBehind file_length moof states room traf after
    × Tells traf after file_length fault.offset
