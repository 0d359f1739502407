-- What a `moof` has to keep behind what came before it, by what is known of the tracks.
use Rattle.std.specs.Prelude.{◌≡◌, ℕ, ◌+◌, ◌^◌, ◌<◌, ◌≤◌, ◌==◌, cond, if◌then◌else◌, ℤ, pos, List, [], ◌∷◌, length, take, map, find, slice_get, slice_set, codes, Bool, Option, Some, None, is_some, unwrap_or, IsTrue}
use Rattle.std.specs.List.{AllByRecursion, list_all}
use Rattle.mp4_boxes.specs.format.Box.{Box, Tiles, box_container}
use Rattle.mp4_boxes.specs.format.Children.{Holds, of_kind}
use Rattle.mp4_boxes.specs.format.Places.{ruled, AreSound}
use Rattle.mp4_boxes.specs.declared.rule.Rule.TheVariants as rules
use Rattle.mp4_tables.specs.format.Groups.{GroupKey, GroupRule, keys_after}
use Rattle.mp4_tables.specs.words.Keys.{keys_seen}
use Rattle.mp4_tables.specs.format.TableRules.{is_index}
use Rattle.mp4_tables.specs.format.PlainSamples.{PlacedSample}
use Rattle.mp4_frag.specs.format.Fragments.{TrackFragment, FragmentTree, AreTrafs, IsFragmentTree, fragment_of, track_fragment_of}
use Rattle.mp4_frag.specs.format.FragmentSamples.{Part, parts_of, trex_for, has_groups, fragment_samples, base_of, runs_samples, runs_end, part_samples, has_samples, is_on_time, duration_of, bytes_of}
use Rattle.mp4_frag.specs.format.FragmentRules.{is_within}
use Rattle.mp4_frag.specs.words.Passing.{EndsNear}
use Rattle.mp4_frag.specs.words.RunsJudged.{children_of}
use Rattle.mp4_frag.specs.words.States.{HaveRoom}
use Rattle.mp4_frag.specs.words.Walks.{trex_among}
use Rattle.mp4_frag.specs.declared.state.TrackState.{TrackState}
use Rattle.mp4_frag.specs.declared.trex.Trex.{Trex}

-- what the fragments of each track inherit is what this list says
abbrev pub AreTrexesOf : List Trex → List TrackState → Type 0
AreTrexesOf trexes tracks = AllByRecursion (λ (t : TrackState). t.trex ≡ trex_for trexes t.id)
    tracks

-- what the fragments of each track inherit by its state, under the track's ID, whatever ID the
-- `trex` names
abbrev pub own_trexes : List TrackState → List Trex
own_trexes [] = []
own_trexes (t ∷ tracks) = with_own t.id t.trex (own_trexes tracks)
  where
    with_own : ℕ → Option Trex → List Trex → List Trex
    with_own id None trexes = trexes
    with_own id (Some trex) trexes = record trex { id = id } ∷ trexes

-- the part is one of a track that has a `trex`
abbrev pub is_known_among : List TrackState → Part → Bool
is_known_among tracks part = is_some (trex_among tracks part.id)

-- each sample of its runs lies in a file of this length
abbrev pub IsPlacedWithin : ℕ → Part → Type 0
IsPlacedWithin file_length part = AllByRecursion (λ run. IsTrue (is_within file_length run))
    part.runs

-- each of its `sbgp`s keeps the rules, where the track named some keys before
abbrev pub IsGrouped : Part → Type 0
IsGrouped part = (keys : List GroupKey)
    × ((rule : GroupRule) (k : ℕ) → IsTrue (has_groups rule keys part k))

-- the samples of a track in a `moof`
abbrev pub samples_of_track : List Trex → ℕ → FragmentTree → List PlacedSample
samples_of_track trexes track t = fragment_samples track (parts_of trexes (fragment_of t))

-- a `moof` whose samples can be handed out: its boxes are a tree of sound leaves; each part is of a
-- known track, its samples lie in the file, and they are grouped
pub record IsSoundMoof (file_length : ℕ) (trexes : List Trex) (tracks : List TrackState)
    (t : FragmentTree) : Type 0 where
  pub short : file_length < 2 ^ 64
  pub tree : IsFragmentTree t
  pub leaves : AllByRecursion (AreSound (ruled rules.TrackFragment)) t.trafs
  pub known : AllByRecursion (λ (part : Part). IsTrue (is_known_among tracks part))
      (parts_of trexes (fragment_of t))
  pub places : AllByRecursion (IsPlacedWithin file_length) (parts_of trexes (fragment_of t))
  pub groups : AllByRecursion IsGrouped (parts_of trexes (fragment_of t))

-- ---- one `traf` after the other

-- the part of a `traf`, where the data before it ends at a place, with these defaults
abbrev pub part_with : ℕ → ℤ → Trex → TrackFragment → Part
part_with moof before trex traf = record {
  id = traf.id;
  decode_time = traf.decode_time;
  runs = runs_samples trex traf (base_of moof before traf) (base_of moof before traf) traf.runs;
  groups = traf.groups;
}

-- where its data ends
abbrev pub end_with : ℕ → ℤ → Trex → TrackFragment → ℤ
end_with moof before trex traf = runs_end trex traf (base_of moof before traf)
    (base_of moof before traf) traf.runs

-- the boxes of a `traf` behind data that ends at a place: its leaves are sound, its track is known,
-- its samples lie in the file and are grouped; and its data ends here
pub record IsTrafSound (file_length moof : ℕ) (before : ℤ) (tracks : List TrackState)
    (boxes : List Box) (ends : ℤ) : Type 0 where
  pub leaves : AreSound (ruled rules.TrackFragment) boxes
  pub trex : Trex
  pub known : trex_among tracks (track_fragment_of boxes).id ≡ Some trex
  pub places : IsPlacedWithin file_length (part_with moof before trex (track_fragment_of boxes))
  pub groups : IsGrouped (part_with moof before trex (track_fragment_of boxes))
  pub end : ends ≡ end_with moof before trex (track_fragment_of boxes)

-- each of these `traf`s has the boxes of the profile and is sound, behind data that ends at a place
abbrev pub AreTrafsSound : ℕ → ℕ → ℤ → List TrackState → List Box → Type 0
AreTrafsSound file_length moof before tracks [] = Unit {0}
AreTrafsSound file_length moof before tracks (b ∷ trafs) =
    Holds rules.TrackFragment (box_container b) (children_of b)
    × ((ends : ℤ) × IsTrafSound file_length moof before tracks (children_of b) ends
    × AreTrafsSound file_length moof ends tracks trafs)

-- the tree of a `moof`
abbrev pub tree_of : Box → FragmentTree
tree_of moof = record {
  moof = moof;
  children = children_of moof;
  trafs = map children_of (of_kind (codes "traf") (children_of moof));
}

-- ---- how tracks move on

-- what a clause sees of a track behind its samples so far
pub record TrackSeen : Type 0 where
  pub id : ℕ
  pub descriptions : ℕ
  pub trex : Option Trex
  pub start : ℕ
  pub count : ℕ
  pub time : ℕ
  pub bytes : ℕ
  pub keys : List GroupKey

abbrev pub track_seen : TrackState → TrackSeen
track_seen t = record {
  id = t.id;
  descriptions = t.descriptions;
  trex = t.trex;
  start = t.start;
  count = t.count;
  time = t.time;
  bytes = t.bytes;
  keys = keys_seen t.keys;
}

-- the track behind a part: its first samples say when it starts, and are due then
abbrev pub track_behind : TrackSeen → Part → TrackSeen
track_behind t part =
    cond (has_samples part)
    (record t {
      start = if t.count == 0 then unwrap_or part.decode_time 0 else t.start;
      count = t.count + length (part_samples part);
      time = (if t.count == 0 then unwrap_or part.decode_time 0 else t.time)
          + duration_of (part_samples part);
      bytes = t.bytes + bytes_of (part_samples part);
      keys = keys_after t.keys part.groups;
    })
    (record t { keys = keys_after t.keys part.groups })

-- a part keeps what is due of its track: its samples have descriptions, its `sbgp`s keep the rules,
-- and it begins on time where samples came before
pub record IsDue (t : TrackSeen) (part : Part) : Type 0 where
  pub indexes : IsTrue (list_all (λ s. is_index t.descriptions s.description) (part_samples part))
  pub groups : (rule : GroupRule) (k : ℕ) → IsTrue (has_groups rule t.keys part k)
  pub time : 0 < t.count → IsTrue (is_on_time t.time part)

-- the tracks and the room for samples behind a `traf` of these boxes: that of its track is moved on
-- by its part, which was due
pub record IsMovedOn (moof : ℕ) (before : ℤ) (boxes : List Box) (old new : List TrackState)
    (room less : ℕ) : Type 0 where
  pub place : ℕ
  pub track : TrackState
  pub trex : Trex
  pub found : find (λ (t : TrackState). t.id == (track_fragment_of boxes).id) old ≡ Some track
  pub there : slice_get old place ≡ Some track
  -- none before it has this ID
  pub first : find (λ (t : TrackState). t.id == (track_fragment_of boxes).id) (take place old)
      ≡ None
  pub defaults : track.trex ≡ Some trex
  pub due : IsDue (track_seen track) (part_with moof before trex (track_fragment_of boxes))
  pub moved : map track_seen new
      ≡ slice_set (map track_seen old) place
      (track_behind (track_seen track) (part_with moof before trex (track_fragment_of boxes)))
  pub taken : less + length (part_samples (part_with moof before trex (track_fragment_of boxes)))
      ≡ room

-- the same behind all `traf`s of a `moof`, one after the other
abbrev pub AreMovedOn : ℕ → ℤ → List Box → List TrackState → List TrackState → ℕ → ℕ → Type 0
AreMovedOn moof before [] old new room less = (new ≡ old) × (less ≡ room)
AreMovedOn moof before (b ∷ trafs) old new room less =
    (between : List TrackState) × (rest : ℕ)
    × ((m : IsMovedOn moof before (children_of b) old between room rest)
    × AreMovedOn moof (end_with moof before m.trex (track_fragment_of (children_of b)))
    trafs between new rest less)

-- the same for a `moof`
abbrev pub IsMoofMovedOn : Box → List TrackState → List TrackState → ℕ → ℕ → Type 0
IsMoofMovedOn moof old new room less = AreMovedOn moof.offset (pos moof.offset)
    (of_kind (codes "traf") (children_of moof)) old new room less

-- a `traf` that passed: its boxes are those of the profile, they are sound, its data ends here, and
-- the tracks and the room are moved on by it
pub record IsTrafPassed (file_length moof : ℕ) (before : ℤ) (traf : Box) (old new : List TrackState)
    (room less : ℕ) (ends : ℤ) : Type 0 where
  pub holds : Holds rules.TrackFragment (box_container traf) (children_of traf)
  pub sound : IsTrafSound file_length moof before old (children_of traf) ends
  pub bound : EndsNear before ends
  pub moved : IsMovedOn moof before (children_of traf) old new room less

-- tracks that moved on have the room that is left, and their IDs and what their fragments inherit
-- are the same
pub record KeepRoom (old new : List TrackState) (room less : ℕ) : Type 0 where
  pub few : less ≤ room
  pub each : HaveRoom less new
  pub same : (id : ℕ) → trex_among new id ≡ trex_among old id
  pub ids : map (λ (t : TrackState). t.id) new ≡ map (λ (t : TrackState). t.id) old

-- The first boxes of a `moof`, up to a place, where it may lack some: they fill it, each `traf` has
-- the boxes of the profile, and each sample of its parts lies in the file.
pub record IsSoundFront (file_length : ℕ) (trexes : List Trex) (t : FragmentTree) : Type 0 where
  pub tiles : Tiles (box_container t.moof) t.children
  pub trafs : AreTrafs (of_kind (codes "traf") t.children) t.trafs
  pub places : AllByRecursion (IsPlacedWithin file_length) (parts_of trexes (fragment_of t))

-- all `traf`s of a `moof` passed: they are sound, and the tracks and the room are moved on by them
pub record AreTrafsPassed (file_length : ℕ) (moof : Box) (old new : List TrackState)
    (room less : ℕ) : Type 0 where
  pub sound : AreTrafsSound file_length moof.offset (pos moof.offset) old
      (of_kind (codes "traf") (children_of moof))
  pub moved : IsMoofMovedOn moof old new room less
  pub kept : KeepRoom old new room less

-- a `moof` that may be accepted behind these tracks, where there is room for so many samples: it is
-- sound, and each of its parts is due
pub record IsAcceptable (file_length : ℕ) (tracks : List TrackState) (room : ℕ) (moof : Box)
    : Type 0 where
  pub sound : IsSoundMoof file_length (own_trexes tracks) tracks (tree_of moof)
  pub after : List TrackState
  pub less : ℕ
  pub moved : IsMoofMovedOn moof tracks after room less

-- it was accepted, and the tracks moved on
pub record IsAccepted (file_length : ℕ) (moof : Box) (old new : List TrackState) (room less : ℕ)
    : Type 0 where
  pub own : IsSoundMoof file_length (own_trexes old) old (tree_of moof)
  pub kept : KeepRoom old new room less
