-- What a run over bytes in memory leaves in a window.
use Rattle.std.proofs.Common.{◌≡◌, ◌∙◌, ℕ, ◌-◌, ◌<◌, List, [], length, take, drop, append-nil, refl, ap, arith}
use Rattle.std.specs.Prelude.{Result, Ok, Err}
use Rattle.std.proofs.lemmas.List.{take-append-drop}
use Rattle.mp4_boxes.specs.declared.fault.Fault.{Fault}
use Rattle.mp4_boxes.specs.declared.refusal.Refusal.{Refusal}
use Rattle.mp4_boxes.specs.declared.refusal.Refusal.TheVariants as refusals
use Rattle.mp4_answers.specs.declared.jobs.Job.{Job}
use Rattle.mp4_answers.specs.declared.jobs.Job.TheVariants as jobs
use Rattle.mp4_answers.specs.format.Answers.{Performed}
use Rattle.mp4_answers.specs.format.Run.{Answered}
use Rattle.mp4norm_c.specs.declared.window.WindowSink.{WindowSink}
use Rattle.mp4norm_c.specs.format.Exports.{WindowOf, Windowed, window}
use Rattle.mp4norm_c.specs.words.Windows.{Keeps, counted, memory_run}
use Rattle.mp4norm_c.proofs.Windows.{drop-none, length-window, length-laid, take-none, window-more}

-- the reference to the buffer is the one that was given
abbrev pub SameRoom : WindowSink → WindowSink → Type 0
SameRoom s t = t.room.ghost_name ≡ s.room.ghost_name

pub answered_same : (IsText : List ℕ → Type 0) (IsFault : Fault → Type 0) (Lacks : Type 0) (file : List ℕ) (s t : WindowSink) (result : Result (Unit {0}) Refusal) → Answered (memory_run file s t) IsText IsFault Lacks result → SameRoom s t
answered_same I F L file s t (Ok done) a = (a.1 refl).2.same
answered_same I F L file s t (Err (refusals.Fault f)) a = a.0.same
answered_same I F L file s t (Err refusals.Memory) a = a.same
answered_same I F L file s t (Err refusals.NoSuchTrack) a = a.0.same
answered_same I F L file s t (Err refusals.StoreChanged) a = absurd (a refl)
answered_same I F L file s t (Err refusals.StoreFailed) a = absurd (omega (arith, a.0))
answered_same I F L file s t (Err refusals.WriteFailed) a = (a.1 refl).2.2.same

-- nothing was put: the buffer is as it was
window-nothing : (from most : ℕ) → window from most [] ≡ []
window-nothing from most = rw (drop-none from) (take-none most)

as_it_was : (from : ℕ) (before : List ℕ) (t : WindowSink) → Keeps from before t [] → t.room.now ≡ before
as_it_was from before t k = rw (window-nothing from (length before)) at k.bytes

-- A part of a text was put, and the buffer is full: its window is that of the whole text.
full_window : (from most n : ℕ) (text : List ℕ) → length (window from most (take n text)) ≡ most → window from most text ≡ window from most (take n text)
full_window from most n text h =
    let more = window-more from most (take n text) (drop n text) in
    let none : most - length (window from most (take n text)) ≡ 0 = omega (arith, h) in
    rw (take-append-drop n text, none, append-nil) at more

pub answered_window : (IsText : List ℕ → Type 0) (IsFault : Fault → Type 0) (Lacks Lacked : Type 0) (file : List ℕ) (s t : WindowSink) (result : Result (Unit {0}) Refusal) (from : ℕ) (before : List ℕ) → (Lacks → Lacked) → Keeps from before s [] → s.failed ≡ 0
    → Answered (memory_run file s t) IsText IsFault Lacks result → Windowed IsText IsFault Lacked from before t.room.now (counted t.filled result)
answered_window I F L M file s t (Ok done) from before l k z a =
    let put = a.1 refl in
    let kept = put.2.keeps from before [] k in
    (put.0, put.1, record { bytes = kept.bytes; count = kept.filled })
answered_window I F L M file s t (Err (refusals.Fault f)) from before l k z a = (a.1 refl, as_it_was from before t (a.0.keeps from before [] k))
answered_window I F L M file s t (Err refusals.Memory) from before l k z a = as_it_was from before t (a.keeps from before [] k)
answered_window I F L M file s t (Err refusals.NoSuchTrack) from before l k z a = (l a.1, as_it_was from before t (a.0.keeps from before [] k))
answered_window I F L M file s t (Err refusals.StoreChanged) from before l k z a = absurd (a refl)
answered_window I F L M file s t (Err refusals.StoreFailed) from before l k z a = absurd (omega (arith, a.0))
answered_window I F L M file s t (Err refusals.WriteFailed) from before l k z a =
    let put = a.1 refl in
    let part = put.2 in
    let text = put.0 in
    let n = part.0 in
    let kept = part.2.keeps from before [] k in
    let risen : 0 < t.failed = omega (arith, a.0, z) in
    let full : t.filled ≡ length t.room.now = part.2.full (λ h. absurd (omega (arith, h, z))) risen in
    let many = length-window from (length before) (take n text) in
    let long : length t.room.now ≡ length before = ap length kept.bytes ∙ length-laid (window from (length before) (take n text)) before (omega (arith, many)) in
    let whole = full_window from (length before) n text (omega (arith, full, long, kept.filled)) in
    (text, put.1, record { bytes = rw whole kept.bytes; count = rw whole kept.filled })

-- a job, whatever it is
pub same_room : (job : Job) (file : List ℕ) (s t : WindowSink) (result : Result (Unit {0}) Refusal) → Performed job (memory_run file s t) result → SameRoom s t
same_room jobs.Normalise file s t r a = answered_same _ _ _ file s t r a
same_room (jobs.Reduce l) file s t r a = answered_same _ _ _ file s t r a.0
same_room (jobs.Print l) file s t r a = answered_same _ _ _ file s t r a
same_room jobs.Show file s t r a = answered_same _ _ _ file s t r a.0
same_room (jobs.Samples track form) file s t r a = answered_same _ _ _ file s t r a
same_room (jobs.Extract track) file s t r a = answered_same _ _ _ file s t r a
same_room (jobs.Boxes syntax) file s t r a = answered_same _ _ _ file s t r a.0
same_room (jobs.Fields syntax most) file s t r a = answered_same _ _ _ file s t r a.0
same_room (jobs.Strip names) file s t r a = answered_same _ _ _ file s t r a

pub window_put : (job : Job) (file : List ℕ) (s t : WindowSink) (result : Result (Unit {0}) Refusal) (from : ℕ) (before : List ℕ) → Keeps from before s [] → s.failed ≡ 0 → Performed job (memory_run file s t) result → WindowOf job file from before t.room.now (counted t.filled result)
window_put jobs.Normalise file s t r from before k z a = answered_window _ _ _ _ file s t r from before (λ l. l) k z a
window_put (jobs.Reduce l) file s t r from before k z a = answered_window _ _ _ _ file s t r from before (λ l. l) k z a.0
window_put (jobs.Print l) file s t r from before k z a = answered_window _ _ _ _ file s t r from before (λ l. l) k z a
window_put jobs.Show file s t r from before k z a = answered_window _ _ _ _ file s t r from before (λ l. l) k z a.0
window_put (jobs.Samples track form) file s t r from before k z a = answered_window _ _ _ _ file s t r from before (λ l. l refl) k z a
window_put (jobs.Extract track) file s t r from before k z a = answered_window _ _ _ _ file s t r from before (λ l. l refl) k z a
window_put (jobs.Boxes syntax) file s t r from before k z a = answered_window _ _ _ _ file s t r from before (λ l. l) k z a.0
window_put (jobs.Fields syntax most) file s t r from before k z a = answered_window _ _ _ _ file s t r from before (λ l. l) k z a.0
window_put (jobs.Strip names) file s t r from before k z a = answered_window _ _ _ _ file s t r from before (λ l. l) k z a

-- the same, of what is left behind the reference and of what is answered
pub window_left : (job : Job) (file : List ℕ) (s t : WindowSink) (result : Result (Unit {0}) Refusal) (from : ℕ) (before after : List ℕ) (filled : ℕ) (told : Result ℕ Refusal) → Keeps from before s [] → s.failed ≡ 0 → Performed job (memory_run file s t) result → after ≡ t.room.now
    → filled ≡ t.filled → told ≡ counted filled result → WindowOf job file from before after told
window_left job file s t r from before after filled told k z a left many said = rw (left, said, many) (window_put job file s t r from before k z a)
