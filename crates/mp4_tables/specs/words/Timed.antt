-- Samples as they are handed out: with numbers and decode times, and with an index at each key of
-- the track.
use Rattle.std.specs.Prelude.{ℕ, zero, suc, ◌+◌, List, [], ◌∷◌, map, ℤ, pos, negsuc}
use Rattle.mp4_tables.specs.format.Groups.{GroupKey, Groups, index_at, keys_after}
use Rattle.mp4_tables.specs.format.Tables.{Tables}
use Rattle.mp4_tables.specs.format.PlainSamples.{PlacedSample, plain_samples}
use Rattle.mp4_tables.specs.declared.sample.SampleAt.{SampleAt}

-- the first n of the numbers, and 0 for each that is missing
abbrev pub padded : ℕ → List ℕ → List ℕ
padded zero xs = []
padded (suc n) [] = 0 ∷ padded n []
padded (suc n) (x ∷ xs) = x ∷ padded n xs

-- the index at each key, 0 for none
abbrev pub indexes : List GroupKey → Groups → List ℕ
indexes keys groups = padded 4 (map (λ key. index_at key groups) keys)

-- a place that is not negative
abbrev pub place_of : ℤ → ℕ
place_of (pos n) = n
place_of (negsuc n) = 0

-- a sample with how many come before it, and with its decode time
abbrev pub sample_at : List GroupKey → ℕ → ℕ → PlacedSample → SampleAt
sample_at keys number dts s = record {
  dts = dts;
  duration = s.duration;
  cto = s.offset;
  flags = s.flags;
  description = s.description;
  at = place_of s.at;
  size = s.size;
  groups = indexes keys s.groups;
  number = number;
}

-- samples one after the other, the first of them behind so many and at a decode time
abbrev pub timed : List GroupKey → ℕ → ℕ → List PlacedSample → List SampleAt
timed keys number dts [] = []
timed keys number dts (s ∷ samples) = sample_at keys number dts s
    ∷ timed keys (number + 1) (dts + s.duration) samples

-- the samples of tables, from decode time 0 on
unfoldable pub samples_of : Tables → List SampleAt
samples_of t = timed (keys_after [] t.groups) 0 0 (plain_samples t)
