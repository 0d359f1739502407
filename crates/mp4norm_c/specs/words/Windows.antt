-- A sink that keeps a window of what is put.
use Rattle.std.specs.Prelude.{◌≡◌, ℕ, ◌-◌, ◌<◌, List, [], ◌++◌, length, true, Result, Ok, Err}
use Rattle.std.proofs.Common.{◌∙◌, append-nil, append_assoc, refl, sym}
use Rattle.mp4_boxes.specs.declared.refusal.Refusal.{Refusal}
use Rattle.mp4_boxes.specs.declared.refusal.Refusal.TheVariants as refusals
use Rattle.mp4_answers.specs.format.Run.{Run}
use Rattle.mp4norm_c.specs.declared.window.WindowSink.{WindowSink}
use Rattle.mp4norm_c.specs.format.Exports.{laid_over, window}

-- After these bytes were put, the buffer, which held those before, has their window from this place
-- on.
pub record Keeps (from : ℕ) (before : List ℕ) (s : WindowSink) (put : List ℕ) : Type 0 where
  pub skip : s.skip ≡ from - length put
  pub filled : s.filled ≡ length (window from (length before) put)
  pub bytes : s.room.now ≡ laid_over (window from (length before) put) before

-- a put failed only where the buffer is full
abbrev pub FailsFull : WindowSink → Type 0
FailsFull s = 0 < s.failed → s.filled ≡ length s.room.now

-- These bytes were put between the two states.
pub record Kept (s t : WindowSink) (bytes : List ℕ) : Type 0 where
  pub same : t.room.ghost_name ≡ s.room.ghost_name
  pub keeps : (from : ℕ) (before put : List ℕ) → Keeps from before s put
      → Keeps from before t (put ++ bytes)
  pub full : FailsFull s → FailsFull t

-- nothing is put
pub kept_nothing : (s : WindowSink) → Kept s s []
kept_nothing s = record {
  same = refl;
  keeps = λ from before put k. rw (append-nil put) k;
  full = λ h. h;
}

-- one piece after the other
pub kept_on : (s t u : WindowSink) (xs ys : List ℕ) → Kept s t xs → Kept t u ys
    → Kept s u (xs ++ ys)
kept_on s t u xs ys p q = record {
  same = q.same ∙ p.same;
  keeps = λ from before put k. rw (sym (append_assoc put xs ys))
      (q.keeps from before (put ++ xs) (p.keeps from before put k));
  full = λ h. q.full (p.full h);
}

-- ---- a job over bytes in memory

-- the run over these bytes, into a window
abbrev pub memory_run : List ℕ → WindowSink → WindowSink → Run
memory_run file s t = record {
  honest = true;
  file = file;
  reads = 0;
  reads_after = 0;
  puts = s.failed;
  puts_after = t.failed;
  took = Kept s t;
}

-- a put that failed ends the run where the window is full: so many bytes are there
abbrev pub counted : ℕ → Result (Unit {0}) Refusal → Result ℕ Refusal
counted filled (Ok done) = Ok filled
counted filled (Err (refusals.Fault f)) = Err (refusals.Fault f)
counted filled (Err refusals.Memory) = Err refusals.Memory
counted filled (Err refusals.StoreFailed) = Err refusals.StoreFailed
counted filled (Err refusals.StoreChanged) = Err refusals.StoreChanged
counted filled (Err refusals.WriteFailed) = Ok filled
counted filled (Err refusals.NoSuchTrack) = Err refusals.NoSuchTrack

-- the run over these bytes, of which no read and no put fails
abbrev pub quiet_run : List ℕ → (List ℕ → Type 0) → Run
quiet_run file took = record {
  honest = true;
  file = file;
  reads = 0;
  reads_after = 0;
  puts = 0;
  puts_after = 0;
  took = took;
}

-- such a run in which nothing is put
abbrev pub memory_look : List ℕ → Run
memory_look file = quiet_run file (λ bytes. bytes ≡ [])
