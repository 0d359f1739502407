-- Samples whose bytes lie one after the other.
use Rattle.std.specs.Prelude.{◌≡◌, ℕ, ◌+◌, ◌≤◌, List, flat_map}
use Rattle.mp4_boxes.specs.format.Bytes.{sum_of}
use Rattle.mp4_store.specs.words.Device.{range}
use Rattle.mp4_tables.specs.declared.sample.SampleAt.{SampleAt}

-- the bytes of some samples, one after the other
abbrev pub sample_bytes : List ℕ → List SampleAt → List ℕ
sample_bytes file samples = flat_map (λ (s : SampleAt). range file s.at s.size) samples

-- how many bytes some samples have
abbrev pub sizes_of : List SampleAt → ℕ
sizes_of samples = sum_of (λ (s : SampleAt). s.size) samples

-- they are so many bytes of the file from a place on
abbrev pub AreJoined : List SampleAt → ℕ → ℕ → Type 0
AreJoined samples at len = (file : List ℕ) → sample_bytes file samples ≡ range file at len

-- the bytes of the sample end within the first n
abbrev pub IsBelow : ℕ → SampleAt → Type 0
IsBelow n s = s.at + s.size ≤ n
