-- The check of a track's tables, and the state of the track behind their samples.
use Rattle.std.specs.Prelude.{◌≡◌, ℕ, ◌+◌, ◌-◌, ◌*◌, ◌^◌, ◌≤◌, min, length, List, Result, OnOk}
use Rattle.std.specs.BTreeMap.{BTreeMap, get}
use Rattle.std.specs.Ordering.{nat_cmp}
use Rattle.mp4_boxes.specs.declared.refusal.Refusal.{Refusal}
use Rattle.mp4_tables.specs.declared.keys.Keys.{Keys}
use Rattle.mp4_tables.specs.declared.totals.Totals.{Totals}
use Rattle.mp4_frag.specs.format.FragmentSamples as fragments
use Rattle.mp4_frag.specs.declared.state.TrackState.{TrackState}
use Rattle.mp4_frag.specs.declared.trex.Trex.{Trex}
use Rattle.mp4_head.specs.declared.heads.TrackHead.{TrackHead}
use Rattle.mp4_head.specs.format.Tree.{TrackTree}
use Rattle.mp4_present.specs.words.TrackTrees.{AreTracksOf, IsTrackOf}
use Rattle.mp4_present.specs.words.WalkSteps.{IfNoFault, table_steps}

-- it is so of all trees of which these heads were read
abbrev pub WhereTrees : List TrackHead → (List TrackTree → Type 0) → Type 0
WhereTrees heads P = (trees : List TrackTree) → AreTracksOf trees heads → P trees

-- the map has the first of these with each ID of a track, and no others
abbrev pub AreTrexesById : List Trex → BTreeMap ℕ Trex → Type 0
AreTrexesById trexes by_id = (id : ℕ) → get nat_cmp by_id id ≡ fragments.trex_for trexes id

-- What a check of a track's tables takes: where no fault is found no more steps than they say, and
-- always no more than the bytes and the room for samples allow.
pub record ChecksTables {T : Type 0} (track : TrackHead) (bytes room room_after : ℕ)
    (result : Result T Refusal) (old new : ℕ) : Type 0 where
  pub said : IfNoFault result ((t : TrackTree) → IsTrackOf t track → new ≤ old + table_steps t)
  pub within : new ≤ old + 5 * room + 6 * bytes
  pub less : OnOk result (new + 5 * room_after ≤ old + 5 * room + 6 * bytes)

-- It is that of this track behind the samples of its tables, which are so many, last so long and
-- have so many bytes, with these keys.
pub record IsStateBehind (track : TrackHead) (trexes : BTreeMap ℕ Trex) (totals : Totals)
    (many : ℕ) (used : Keys) (s : TrackState) : Type 0 where
  pub id : s.id ≡ track.id
  pub descriptions : s.descriptions ≡ min (length track.media.descriptions.items) (2 ^ 32 - 1)
  pub trex : s.trex ≡ get nat_cmp trexes track.id
  pub start : s.start ≡ 0
  pub count : s.count ≡ many
  pub time : s.time ≡ totals.duration
  pub bytes : s.bytes ≡ totals.bytes
  pub keys : s.keys ≡ used
