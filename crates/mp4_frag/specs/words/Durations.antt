-- How long samples last, one by one and together.
use Rattle.std.specs.Prelude.{ℕ, List, map, unwrap_or}
use Rattle.mp4_boxes.specs.format.Bytes.{sum_of}
use Rattle.mp4_tables.specs.declared.sample.SampleAt.{SampleAt}
use Rattle.mp4_frag.specs.format.Fragments.{RunRow}

abbrev pub durations_of : List SampleAt → List ℕ
durations_of samples = map (λ (s : SampleAt). s.duration) samples

-- those of the samples of rows, where some take this one
abbrev pub rows_durations : ℕ → List RunRow → List ℕ
rows_durations inherited rows = map (λ (row : RunRow). unwrap_or row.duration inherited) rows

-- all of them together
abbrev pub rows_lasting : ℕ → List RunRow → ℕ
rows_lasting inherited rows = sum_of (λ (row : RunRow). unwrap_or row.duration inherited) rows
