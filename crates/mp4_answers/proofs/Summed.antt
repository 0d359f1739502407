-- What a run says that only hashes what is put.
use Rattle.std.proofs.Common.{◌≡◌, inl, ℕ, List, [], refl, arith}
use Rattle.std.specs.Prelude.{Err}
use Rattle.mp4_boxes.specs.declared.fault.Fault.{Fault}
use Rattle.mp4_boxes.specs.declared.refusal.Refusal.{Refusal}
use Rattle.mp4_boxes.specs.declared.refusal.Refusal.TheVariants as refusals
use Rattle.mp4_answers.specs.format.Run.{Run, Answered}

-- the same run, of which nothing is told but what it read
abbrev pub looked : Run → Run
looked r = record {
  honest = r.honest;
  file = r.file;
  reads = r.reads;
  reads_after = r.reads_after;
  puts = 0;
  puts_after = 0;
  took = λ bytes. bytes ≡ [];
}

module _ (A B : Type 0) (r : Run) (IsText : List ℕ → Type 0) (IsFault : Fault → Type 0) (Lacks : Type 0) where
  -- what fails where bytes are hashed fails where nothing is put
  pub hash_fails : (e : Refusal) → Answered {A = A} r IsText IsFault Lacks (Err e) → r.puts ≡ 0 → r.puts_after ≡ 0 → Answered {A = B} (looked r) (λ text. text ≡ []) IsFault Lacks (Err e)
  hash_fails (refusals.Fault f) w puts after = (refl, w.1)
  hash_fails refusals.Memory w puts after = refl
  hash_fails refusals.NoSuchTrack w puts after = (refl, w.1)
  hash_fails refusals.StoreChanged w puts after = w
  hash_fails refusals.StoreFailed w puts after = (w.0, λ told. inl refl)
  hash_fails refusals.WriteFailed w puts after = (rw (puts, after) at w.0, λ told. ([], refl, (0, omega arith, refl)))
