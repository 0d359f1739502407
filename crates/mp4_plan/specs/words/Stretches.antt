-- Where the bytes of samples lie in a file: in stretches, one after the other.
use Rattle.std.specs.Prelude.{◌≡◌, ℕ, ◌+◌, ◌-◌, ◌^◌, ◌<◌, ◌≤◌, List, [], ◌∷◌, ◌++◌, take, flat_map, true}
use Rattle.std.specs.List.{AllByRecursion}
use Rattle.mp4_boxes.specs.format.Bytes.{sum_of}
use Rattle.mp4_store.specs.words.Device.{range}
use Rattle.mp4_tables.specs.declared.sample.SampleAt.{SampleAt}
use Rattle.mp4_present.specs.words.Joined.{IsBelow, sample_bytes}
use Rattle.mp4_plan.specs.declared.stretches.Span.{Span}
use Rattle.mp4_plan.specs.declared.stretches.Stretches.{Stretches}

abbrev pub span_len : Span → ℕ
span_len s = s.end - s.at

abbrev pub span_bytes : List ℕ → Span → List ℕ
span_bytes file s = range file s.at (span_len s)

-- it lies in the first n bytes
abbrev pub EndsBelow : ℕ → Span → Type 0
EndsBelow n s = s.at + span_len s ≤ n

abbrev pub spans_len : List Span → ℕ
spans_len spans = sum_of span_len spans

abbrev pub spans_bytes : List ℕ → List Span → List ℕ
spans_bytes file spans = flat_map (span_bytes file) spans

-- in every file they are the bytes of these samples, and lie where these do
pub record AreBytesOf (spans : List Span) (samples : List SampleAt) : Type 0 where
  pub bytes : (file : List ℕ) → sample_bytes file samples ≡ spans_bytes file spans
  pub len : spans_len spans ≡ sum_of (λ (s : SampleAt). s.size) samples
  pub below : (n : ℕ) → AllByRecursion (IsBelow n) samples → AllByRecursion (EndsBelow n) spans

-- those that are kept, the last one behind the others
abbrev pub spans_of : Stretches → List Span
spans_of s = take s.used s.earlier ++ s.last ∷ []

-- These samples were added so far: their bytes are those that are kept, but where some were left
-- out.
pub record Tells (s : Stretches) (samples : List SampleAt) : Type 0 where
  pub ordered : s.last.at ≤ s.last.end
  pub kept : s.are_all ≡ true → AreBytesOf (spans_of s) samples

-- These were added too.
abbrev pub JoinsOn : Stretches → Stretches → List SampleAt → Type 0
JoinsOn before after samples = (earlier : List SampleAt) → Tells before earlier
    → Tells after (earlier ++ samples)

-- There is room for a stretch more, and the sample ends at a place of 64 bits: then none is left
-- out.
abbrev pub IsRoomFor : Stretches → SampleAt → Type 0
IsRoomFor s sample = (s.used < 15) × (sample.at + sample.size < 2 ^ 64)
