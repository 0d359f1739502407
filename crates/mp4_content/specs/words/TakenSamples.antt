-- Samples of a file as they are handed out, as those of a presentation.
use Rattle.std.specs.Prelude.{◌≡◌, ℕ, true, List, length}
use Rattle.std.specs.List.{AllByRecursion, AllZip, list_any}
use Rattle.mp4_boxes.specs.format.Bytes.{AreBytes}
use Rattle.mp4_store.specs.words.Device.{range}
use Rattle.mp4_tables.specs.format.Groups.{GroupKey, same_key}
use Rattle.mp4_tables.specs.words.Timed.{indexes}
use Rattle.mp4_tables.specs.declared.sample.SampleAt.{SampleAt}
use Rattle.mp4_present.specs.format.Presentation.{IsGroup, IsParameter}
use Rattle.mp4_content.specs.format.TimedSamples.{TimedSample}

-- A sample of a track with these keys is this one of a presentation: it says the same, and its
-- bytes lie in the file where it says.
pub record IsTaken (file : List ℕ) (keys : List GroupKey) (a : SampleAt) (s : TimedSample)
    : Type 0 where
  pub time : a.dts ≡ s.time
  pub duration : a.duration ≡ s.sample.duration
  pub offset : a.cto ≡ s.sample.offset
  pub flags : a.flags ≡ s.sample.flags
  pub description : a.description ≡ s.sample.description
  pub size : a.size ≡ length s.sample.bytes
  pub bytes : range file a.at a.size ≡ s.sample.bytes
  pub groups : a.groups ≡ indexes keys s.sample.groups
  -- its groups are of the keys of the track
  pub named : AllByRecursion (λ (group : GroupKey × ℕ). list_any (same_key group.0) keys ≡ true)
      s.sample.groups
  pub are_groups : AllByRecursion IsGroup s.sample.groups

abbrev pub AreTaken : List ℕ → List GroupKey → List SampleAt → List TimedSample → Type 0
AreTaken file keys taken samples = AllZip (IsTaken file keys) taken samples

-- a key with a type of four bytes, and a parameter of 32 bits
pub record IsNamed (key : GroupKey) : Type 0 where
  pub kind_length : length key.kind ≡ 4
  pub kind : AreBytes key.kind
  pub parameter : IsParameter key.parameter
