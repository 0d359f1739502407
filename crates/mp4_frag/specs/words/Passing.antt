-- Rows of a `trun`, passed one by one, and tracks moved on by samples.
use Rattle.std.specs.Prelude.{◌≡◌, ℕ, suc, ◌+◌, ◌-◌, ◌≤◌, ◌*◌, ◌^◌, nat_lt, ◌==◌, ◌&&◌, not, Bool, true, false, if◌then◌else◌, List, [], ◌∷◌, length, drop, Option, Some, None, unwrap_or, option_map, ℤ, pos, negsuc, ◌+ℤ◌, ◌≤ℤ◌}
use Rattle.mp4_tables.specs.format.TableRules.{lies_within}
use Rattle.mp4_frag.specs.words.ColumnsRead.{row_room}
use Rattle.mp4_frag.specs.format.Fragments.{RunRow, run_rows, sample_run_of}
use Rattle.mp4_frag.specs.format.FragmentSamples.{run_start}
use Rattle.mp4_frag.specs.declared.heads.Inherited.{Inherited}
use Rattle.mp4_boxes.specs.format.Layout.{run_offsets, too_large, trun, row_count, IsSound}
use Rattle.mp4_tables.specs.format.Tables.{composition_offset}
use Rattle.mp4_tables.specs.declared.keys.Keys.{Keys}
use Rattle.mp4_frag.specs.declared.run_rows.ReadRow.{ReadRow}
use Rattle.mp4_frag.specs.declared.trun.Run.{Run}
use Rattle.mp4_frag.specs.declared.sample_runs.Judged.{Judged}
use Rattle.mp4_frag.specs.declared.sample_runs.PassedSamples.{PassedSamples}
use Rattle.mp4_frag.specs.declared.sample_runs.JudgedSamples.{JudgedSamples}
use Rattle.mp4_frag.specs.declared.state.TrackState.{TrackState}

-- places that are far from the limits of 128 bits
abbrev pub IsNear : ℤ → Type 0
IsNear at = (at ≤ℤ pos (2 ^ 100)) × (pos 0 ≤ℤ (at +ℤ pos (2 ^ 100)))

-- and so far that an offset of 32 bits does not lead past them
abbrev pub IsNearer : ℤ → Type 0
IsNearer at = (at ≤ℤ pos (2 ^ 99)) × (pos 0 ≤ℤ (at +ℤ pos (2 ^ 99)))

-- numbers that are no more than so far from 0
abbrev pub IsUpTo : ℕ → ℤ → Type 0
IsUpTo n (pos k) = k ≤ n
IsUpTo n (negsuc k) = suc k ≤ n

-- data ends no more than 2^31 further from 0 than where it is counted from, or than 2^64
abbrev pub EndsNear : ℤ → ℤ → Type 0
EndsNear base ends = (n : ℕ) → 2 ^ 64 ≤ n → IsUpTo n base → IsUpTo (n + 2 ^ 31) ends

-- there are bytes for each row of a run
abbrev pub HasRows : List ℕ → Run → Type 0
HasRows payload run = run.rows + run.count * row_room run.bits ≤ length payload

-- the version of a `trun` by whether its offsets are signed
abbrev pub run_version : Run → ℕ
run_version run = if run.is_signed then 1 else 0

-- the bytes of a run's rows from row k on
abbrev pub bytes_left : List ℕ → Run → ℕ → List ℕ
bytes_left payload run k = drop (run.rows + k * row_room run.bits) payload

-- the rows of a run from row k on
unfoldable pub rows_left : List ℕ → Run → ℕ → List RunRow
rows_left payload run k = run_rows (run.count - k) (run_version run) run.bits
    (bytes_left payload run k)

-- their offsets
unfoldable pub offsets_left : List ℕ → Run → ℕ → List (Option ℕ)
offsets_left payload run k = run_offsets (run.count - k) run.bits (bytes_left payload run k)

-- what a row says
abbrev pub row_seen : Run → ReadRow → RunRow
row_seen run row = record {
  duration = row.duration;
  size = row.size;
  flags = row.flags;
  offset = option_map (composition_offset (run_version run)) row.offset;
}

-- samples of these rows, from a place on, each lie in the file; a size that is not there is this
-- one
abbrev pub within_from : ℕ → ℕ → ℤ → List RunRow → Bool
within_from file_length size at [] = true
within_from file_length size at (row ∷ rows) = lies_within file_length at (unwrap_or row.size size)
    && within_from file_length size (at +ℤ pos (unwrap_or row.size size)) rows

-- where they end
abbrev pub end_from : ℕ → ℤ → List RunRow → ℤ
end_from size at [] = at
end_from size at (row ∷ rows) = end_from size (at +ℤ pos (unwrap_or row.size size)) rows

-- how long they last; a duration that is not there is this one
abbrev pub lasting : ℕ → List RunRow → ℕ
lasting duration [] = 0
lasting duration (row ∷ rows) = unwrap_or row.duration duration + lasting duration rows

-- how many bytes they take; a size that is not there is this one
abbrev pub filling : ℕ → List RunRow → ℕ
filling size [] = 0
filling size (row ∷ rows) = unwrap_or row.size size + filling size rows

-- the samples of all rows of a run, from a place on: where their data ends, how long they last, how
-- many bytes they take, and whether an offset is too large
pub record AreSamplesOf (judged : Judged) (at : ℤ) (payload : List ℕ) (run : Run)
    (s : JudgedSamples) : Type 0 where
  pub end : s.end ≡ end_from judged.inherited.size at (rows_left payload run 0)
  pub duration : s.duration ≡ lasting judged.inherited.duration (rows_left payload run 0)
  pub bytes : s.bytes ≡ filling judged.inherited.size (rows_left payload run 0)
  pub large : s.are_large ≡ too_large (offsets_left payload run 0)

-- so many samples last and take no more than 2^32 each
pub record AreBounded (count lasts fills : ℕ) : Type 0 where
  pub duration : lasts ≤ 2 ^ 32 * count
  pub bytes : fills ≤ 2 ^ 32 * count

-- those that were passed do, and their data ends far from the limits of 128 bits
pub record IsPassed (p : PassedSamples) : Type 0 where
  pub near : IsNear p.at
  pub sums : AreBounded p.count p.duration p.bytes

-- samples begin at another time than is due; the first ones of a track begin when they say
abbrev pub is_late_at : TrackState → Option ℕ → ℕ → Bool
is_late_at state None samples = false
is_late_at state (Some time) samples = nat_lt 0 samples
    && (nat_lt 0 state.count && not (time == state.time))

-- when a track starts whose next samples say this time
abbrev pub start_with : TrackState → Option ℕ → ℕ
start_with state time = if state.count == 0 then unwrap_or time 0 else state.start

-- the time at which they are due
abbrev pub due_with : TrackState → Option ℕ → ℕ
due_with state time = if state.count == 0 then unwrap_or time 0 else state.time

-- the track behind such samples, with these keys
abbrev pub state_with : TrackState → Option ℕ → PassedSamples → Keys → TrackState
state_with state time passed keys = record state {
  start = start_with state time;
  count = state.count + passed.count;
  time = due_with state time + passed.duration;
  bytes = state.bytes + passed.bytes;
  keys = keys;
}

-- what a `trun` keeps there: where its data ends, how many samples it has, how long they last, and
-- how many bytes they take
pub record IsRunPassed (file_length : ℕ) (inherited : Inherited) (base before : ℤ)
    (payload : List ℕ) (ends : ℤ) (samples lasts fills : ℕ) : Type 0 where
  pub sound : IsSound trun payload
  pub within : within_from file_length inherited.size
      (run_start base before (sample_run_of payload).data_offset) (sample_run_of payload).rows
      ≡ true
  pub end : ends
      ≡ end_from inherited.size (run_start base before (sample_run_of payload).data_offset)
      (sample_run_of payload).rows
  pub count : samples ≡ row_count trun payload
  pub duration : lasts ≡ lasting inherited.duration (sample_run_of payload).rows
  pub bytes : fills ≡ filling inherited.size (sample_run_of payload).rows

-- samples were passed, and now those of one run more, for which there was room
pub record IsPassedWith (judged : Judged) (payload : List ℕ) (old : PassedSamples) (room less : ℕ)
    (new : PassedSamples) : Type 0 where
  pub run : IsRunPassed judged.file_len judged.inherited judged.base old.at payload new.at
      (new.count - old.count) (new.duration - old.duration) (new.bytes - old.bytes)
  pub count : old.count ≤ new.count
  pub duration : old.duration ≤ new.duration
  pub bytes : old.bytes ≤ new.bytes
  pub taken : new.count + less ≡ old.count + room
