-- Samples that are read side by side, as messages.
use Rattle.std.specs.Prelude.{◌≡◌, ℕ, ◌+◌, ◌<◌, List, [], ◌∷◌, ◌++◌, pos, slice_index_or}
use Rattle.mp4_store.specs.words.Device.{range}
use Rattle.mp4_tables.specs.declared.sample.SampleAt.{SampleAt}
use Rattle.mp4_answers.specs.words.Messages.{IsReady, message_at, message_of}
use Rattle.mp4_answers.specs.words.ToldSamples.{told_line}
use Rattle.mp4_answers.specs.declared.digests.messages.Message.{Message}
use Rattle.mp4_answers.specs.declared.text.sample_texts.SampleStyle.{SampleStyle}

abbrev pub no_sample : SampleAt
no_sample = record {
  dts = 0;
  duration = 0;
  cto = pos 0;
  flags = 0;
  description = 0;
  at = 0;
  size = 0;
  groups = [];
  number = 0;
}

abbrev pub sample_at : List SampleAt → ℕ → SampleAt
sample_at samples k = slice_index_or samples k no_sample

-- the first so many messages have their padding
abbrev pub AreReadyTo : List ℕ → List Message → ℕ → Type 0
AreReadyTo bytes messages count = (k : ℕ) → k < count → IsReady bytes (message_at messages k)

-- they are the bytes of the first so many samples
abbrev pub HaveBytesOf : List ℕ → List ℕ → List Message → List SampleAt → ℕ → Type 0
HaveBytesOf file bytes messages samples count = (k : ℕ) → k < count
    → message_of bytes (message_at messages k)
    ≡ range file (sample_at samples k).at (sample_at samples k).size

-- the lines of samples that have these digests from a place on
abbrev pub told_lines : SampleStyle → List (List ℕ) → ℕ → List SampleAt → List ℕ
told_lines style digests k [] = []
told_lines style digests k (s ∷ samples) =
    told_line style (slice_index_or digests k []) s ++ told_lines style digests (k + 1) samples
