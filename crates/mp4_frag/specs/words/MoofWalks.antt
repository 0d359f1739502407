-- A walk over the samples of a track in a whole `moof`, one `traf` of it after the other: which
-- samples are to come. It is said of every `moof`, and so of one that no check accepted: what can't
-- be read is left out, and numbers go no further than they can be held.
use Rattle.std.specs.Prelude.{◌≡◌, ℕ, ◌+◌, ◌-◌, ◌^◌, ◌≤◌, min, cond, List, [], ◌∷◌, ◌++◌, length, Option, Some, None, ℤ, ◌+ℤ◌, pos, codes, bytes_eq}
use Rattle.mp4_boxes.specs.format.Box.{Box}
use Rattle.mp4_boxes.specs.format.Layout.{tfhd, trun}
use Rattle.mp4_tables.specs.format.Groups.{GroupKey}
use Rattle.mp4_tables.specs.words.Keys.{keys_seen}
use Rattle.mp4_tables.specs.declared.keys.Keys.{Keys}
use Rattle.mp4_tables.specs.declared.sample.SampleAt.{SampleAt}
use Rattle.mp4_frag.specs.format.Fragments.{TrackFragment, sample_run_of}
use Rattle.mp4_frag.specs.format.FragmentSamples.{base_of}
use Rattle.mp4_frag.specs.words.FragmentsSeen.{FragCursorSeen}
use Rattle.mp4_frag.specs.words.Passing.{filling}
use Rattle.mp4_frag.specs.words.PlacesIn.{IsPlaceIn}
use Rattle.mp4_frag.specs.words.Reading.{inheritance}
use Rattle.mp4_frag.specs.words.Times.{lasting}
use Rattle.mp4_frag.specs.words.Walks.{boxes_from, boxes_in, can_read, capped, coming, head_of, held, part_of, rows_of, samples_in, trex_among}
use Rattle.mp4_frag.specs.declared.places.FragPlace.{FragPlace}
use Rattle.mp4_frag.specs.declared.state.TrackState.{TrackState}
use Rattle.mp4_frag.specs.declared.trex.Trex.{Trex}

-- what a walk goes by: where the `moof` lies, the tracks, and of its own track the ID and the keys
pub record MoofWalk : Type 0 where
  pub moof : ℕ
  pub tracks : List TrackState
  pub id : ℕ
  pub keys : List GroupKey

-- where it stands between two `traf`s: how many samples of the track came before the next one, its
-- decode time, and where the data of the `traf` before ends
pub record Between : Type 0 where
  pub number : ℕ
  pub dts : ℕ
  pub before : ℤ

-- ---- where data ends

-- where a run begins
abbrev pub start_held : ℤ → ℤ → Option ℤ → ℤ
start_held base before None = before
start_held base before (Some offset) = held (base +ℤ offset)

-- where the data of a `trun` ends, if it can be read
abbrev pub run_end : ℕ → ℤ → ℤ → List ℕ → ℤ
run_end size base before payload =
    cond (can_read trun payload)
    (held (start_held base before (sample_run_of payload).data_offset
    +ℤ pos (filling size (rows_of payload))))
    before

-- where that of the runs among boxes does
abbrev pub runs_end_held : ℕ → ℤ → ℤ → List Box → ℤ
runs_end_held size base before [] = before
runs_end_held size base before (b ∷ boxes) = runs_end_held size base
    (cond (bytes_eq (codes "trun") b.kind) (run_end size base before b.payload) before) boxes

-- ---- one `traf`

-- what a `tfhd` says, if it can be read
abbrev pub head_if : List ℕ → Option TrackFragment
head_if payload = cond (can_read tfhd payload) (Some (head_of payload)) None

-- what the last `tfhd` among boxes says; with none, it is as before them
abbrev pub head_among : Option TrackFragment → List Box → Option TrackFragment
head_among before [] = before
head_among before (b ∷ boxes) =
    head_among (cond (bytes_eq (codes "tfhd") b.kind) (head_if b.payload) before) boxes

-- behind these samples, whose data ends there
abbrev pub behind_samples : ℕ → ℕ → List SampleAt → ℤ → Between
behind_samples number dts samples ends = record {
  number = min (number + length samples) (2 ^ 32 - 1);
  dts = capped (dts + lasting samples);
  before = ends;
}

-- the samples of a `traf`, and then those of what is behind it, where its track inherits this
abbrev pub inheriting : MoofWalk → Between → List ℕ → (Between → List SampleAt) → TrackFragment
    → Option Trex → List SampleAt
inheriting w s payload more head None = more s
inheriting w s payload more head (Some trex) =
    let base = base_of w.moof s.before head in
    let samples = samples_in payload base w.id trex s.number s.dts w.keys in
    samples ++ more (behind_samples s.number s.dts samples
    (runs_end_held (inheritance head trex).size base base (boxes_in 0 payload)))

-- the same, where its `tfhd` says this
abbrev pub headed : MoofWalk → Between → List ℕ → (Between → List SampleAt) → Option TrackFragment
    → List SampleAt
headed w s payload more None = more s
headed w s payload more (Some head) =
    inheriting w s payload more head (trex_among w.tracks head.id)

abbrev pub traf_coming : MoofWalk → Between → List ℕ → (Between → List SampleAt) → List SampleAt
traf_coming w s payload more = headed w s payload more (head_among None (boxes_in 0 payload))

-- the samples of the `traf`s among boxes of the `moof`
abbrev pub trafs_coming : MoofWalk → Between → List Box → List SampleAt
trafs_coming w s [] = []
trafs_coming w s (b ∷ boxes) = cond (bytes_eq (codes "traf") b.kind)
    (traf_coming w s b.payload (λ t. trafs_coming w t boxes)) (trafs_coming w s boxes)

-- ---- places

-- what a walk over the track with this ID and these keys goes by
abbrev pub walk_with : ℕ → List TrackState → ℕ → Keys → MoofWalk
walk_with moof tracks id keys = record {
  moof = moof;
  tracks = tracks;
  id = id;
  keys = keys_seen keys;
}

-- what one from a place on goes by
abbrev pub walk_of : ℕ → List TrackState → FragPlace → MoofWalk
walk_of moof tracks p = walk_with moof tracks p.id p.keys

-- where it stands there if no sample is in hand
abbrev pub between : FragPlace → Between
between p = record { number = p.number; dts = p.traf.dts; before = p.before }

-- the samples to come of the `traf` in hand
abbrev pub traf_left : List ℕ → FragPlace → List SampleAt
traf_left payload p = coming (part_of payload p.begins p.ends) p.traf

-- behind them
abbrev pub behind_left : List ℕ → FragPlace → Between
behind_left payload p = behind_samples p.number p.traf.dts (traf_left payload p) p.before

-- those to come from a place on, where these boxes come behind the `traf` in hand
abbrev pub left_before : List ℕ → MoofWalk → FragPlace → List Box → List SampleAt
left_before payload w p boxes = traf_left payload p
    ++ trafs_coming w (behind_left payload p) boxes

abbrev pub moof_coming : List ℕ → MoofWalk → FragPlace → List SampleAt
moof_coming payload w p = left_before payload w p (boxes_from payload p.next)

abbrev pub frag_samples : FragCursorSeen → List SampleAt
frag_samples v = moof_coming v.payload (walk_of v.moof v.tracks v.place) v.place

-- all that the place speaks of lies in the payload of the `moof`
pub record LiesInMoof (payload : List ℕ) (p : FragPlace) : Type 0 where
  pub order : p.begins ≤ p.ends
  pub within : p.ends ≤ length payload
  pub next : p.next ≤ length payload
  pub traf : IsPlaceIn (part_of payload p.begins p.ends) p.traf

-- so it does, and a sample is in hand, or no box is left
pub record IsInMoof (payload : List ℕ) (p : FragPlace) : Type 0 where
  pub lies : LiesInMoof payload p
  pub settled : p.traf.run.left ≡ 0 → p.next ≡ length payload

-- the walk is of the same track with the same keys
pub record IsSameTrack (old new : FragPlace) : Type 0 where
  pub id : new.id ≡ old.id
  pub keys : new.keys ≡ old.keys

-- the same samples are to come
abbrev pub SameInMoof : List ℕ → ℕ → List TrackState → FragPlace → FragPlace → Type 0
SameInMoof payload moof tracks old new = moof_coming payload (walk_of moof tracks old) new
    ≡ moof_coming payload (walk_of moof tracks old) old

-- ---- tracks

-- what is inherited by each ID is the same among both
abbrev pub InheritAlike : List TrackState → List TrackState → Type 0
InheritAlike some other = (id : ℕ) → trex_among other id ≡ trex_among some id
