-- Samples of a file as they are handed out, as those of a presentation; and how a piece of them is
-- spelled.
use Rattle.std.specs.Prelude.{◌≡◌, ℕ, ◌^◌, ◌≤◌, List, ◌∷◌, ◌++◌, length, map, codes, None, take, drop}
use Rattle.std.specs.List.{AllByRecursion}
use Rattle.mp4_boxes.specs.format.Written.{header_bytes}
use Rattle.mp4_tables.specs.format.Groups.{GroupKey}
use Rattle.mp4_tables.specs.declared.sample.SampleAt.{SampleAt}
use Rattle.mp4_present.specs.words.Joined.{sample_bytes}
use Rattle.mp4_content.specs.format.TimedSamples.{TimedSample}
use Rattle.mp4_plan.specs.format.Normal.{first_time, first_description, piece_bytes}
use Rattle.mp4_plan.specs.words.Gathering.{gather_all, more_of, planned_of}
use Rattle.mp4_plan.specs.words.Sizes.{moof_sizes}
use Rattle.mp4_plan.specs.words.Spelling.{run_rows, moof_front}
use Rattle.mp4_plan.specs.words.UsedKeys.{AreApart, groups_bytes}
use Rattle.mp4_plan.specs.words.TurnLaws.{turn_count}
use Rattle.mp4_plan.specs.declared.ends.End.{End}
use Rattle.mp4_plan.specs.declared.moof_front.PieceHead.{PieceHead}
use Rattle.mp4_plan.specs.declared.planner.Planned.{Planned}
use Rattle.mp4_plan.specs.declared.noted_rows.Row.{Row}
use Rattle.mp4_content.specs.words.TakenSamples.{AreTaken, IsNamed}

-- what is noted of a sample
abbrev pub row_seen : SampleAt → Row
row_seen s = record {
  duration = s.duration;
  size = s.size;
  flags = s.flags;
  cto = s.cto;
  groups = s.groups;
}

-- a `moof` as far as its rows, its rows, an `sbgp` for each key that is used, and the header of
-- `mdat`
abbrev pub piece_front : PieceHead → Planned → List GroupKey → List Row → List ℕ
piece_front head p keys rows = moof_front head p (moof_sizes p keys) ++ run_rows p rows
    ++ groups_bytes rows p keys ++ header_bytes (codes "mdat") p.bytes

-- what a piece says once
abbrev pub head_of : ℕ → ℕ → List TimedSample → PieceHead
head_of sequence id samples = record {
  sequence = sequence;
  id = id;
  time = first_time samples;
  description = first_description samples;
}

-- What is written of some samples, by what was gathered and noted of them, and then their bytes, is
-- the piece of the normal form.
abbrev pub PieceIsSpelled : Type 0
PieceIsSpelled = (file : List ℕ) (keys : List GroupKey) (sequence id : ℕ) (a : SampleAt)
    (more : List SampleAt) (samples : List TimedSample)
    → AreApart keys → AllByRecursion IsNamed keys → length keys ≤ 4
    → AreTaken file keys (a ∷ more) samples
    → (let p = planned_of (gather_all None (a ∷ more)) in
    (moof_sizes p keys).moof ≤ 2 ^ 30
    → piece_front (head_of sequence id samples) p keys (map row_seen (a ∷ more))
    ++ sample_bytes file (a ∷ more) ≡ piece_bytes sequence (record { id = id; samples = samples }))

-- A piece of samples that are those of a presentation takes as many as a turn takes of these, and
-- the others are those again.
pub record TakesAlike (file : List ℕ) (keys : List GroupKey) (end : End) (taken : List SampleAt)
    (samples : List TimedSample) : Type 0 where
  pub count : more_of (record { end = end; gathered = None }) taken ≡ turn_count end samples
  pub front : AreTaken file keys (take (turn_count end samples) taken)
      (take (turn_count end samples) samples)
  pub behind : AreTaken file keys (drop (turn_count end samples) taken)
      (drop (turn_count end samples) samples)

abbrev pub PiecesTakeAlike : Type 0
PiecesTakeAlike = (file : List ℕ) (keys : List GroupKey) (end : End) (taken : List SampleAt)
    (samples : List TimedSample) → AreTaken file keys taken samples
    → TakesAlike file keys end taken samples
