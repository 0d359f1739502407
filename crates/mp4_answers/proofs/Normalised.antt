-- The normal form of what a file denotes: all of it is put, or why it is not.
use Rattle.std.proofs.Common.{◌≡◌, inl, inr, ℕ, List, take, drop, refl, subst, ◌∙◌, take-append-drop}
use Rattle.std.proofs.lemmas.List.{append-nil}
use Rattle.std.specs.Prelude.{Bool, Result, Ok, Err, IfErr, OnOk, OnErr, IsTrue}
use Rattle.mp4_boxes.specs.declared.refusal.Refusal.{Refusal}
use Rattle.mp4_boxes.specs.declared.refusal.Refusal.TheVariants as refusals
use Rattle.mp4_present.specs.format.Denotes.{FileTree, presentation_of}
use Rattle.mp4_present.specs.words.Movies.{MovieSeen}
use Rattle.mp4_present.specs.words.OpenedMovie.{IsOpenedOwn, IsOpenedAs}
use Rattle.mp4_present.proofs.WalkCopied.{on_err}
use Rattle.mp4_plan.specs.format.Normal.{normal}
use Rattle.mp4_answers.specs.format.AnswerLaws.{run_told, NormalisedSaysBytes}
use Rattle.mp4_answers.specs.format.Headline.{HasNormalForm}
use Rattle.mp4_answers.specs.format.Headline as headline
use Rattle.mp4_answers.specs.format.Run.{Run, Honest, PutsAll, PutsFront, PutsSomeOf}
use Rattle.mp4_answers.proofs.ShownLines.{judged}

-- the normal form of what was opened is that of its file
pub normal_form : (file : List ℕ) (m : MovieSeen) (tree : FileTree) → IsOpenedOwn file m tree → HasNormalForm file (normal (presentation_of file tree))
normal_form file m tree o = (presentation_of file tree, judged file m tree o, refl)

-- ---- what is so of the boxes of a file that was opened, is so of what it denotes

-- the store and its file as they are when the file is opened, in the run, and when it is written
module _ (r : Run) (honest_then : Bool) (file_then : List ℕ) (m : MovieSeen) (same_honesty : honest_then ≡ r.honest) (same_file : file_then ≡ r.file) (opened : Honest r → (t : FileTree) × IsOpenedOwn r.file m t) where
  -- what is so of the boxes that were opened
  abbrev Then : Bool → List ℕ → (List ℕ → FileTree → Type 0) → Type 0
  Then told f P = IsTrue told → (t : FileTree) → IsOpenedAs f m t → P f t

  so : (P : List ℕ → FileTree → Type 0) → Then honest_then file_then P → (told : Honest r) → P r.file (opened told).0
  so P p told =
      let here : Then r.honest r.file P = subst (λ b. Then b r.file P) same_honesty (subst (λ f. Then honest_then f P) same_file p) in
      here told (opened told).0 (opened told).1.opened

  form : (told : Honest r) → HasNormalForm r.file (normal (presentation_of r.file (opened told).0))
  form told = normal_form r.file m (opened told).0 (opened told).1

  pub all_written : {T : Type 0} (answer : Result T Refusal) → Then honest_then file_then (λ f t. OnOk answer (r.took (normal (presentation_of f t)))) → OnOk answer (Honest r → PutsAll r (HasNormalForm r.file))
  all_written (Ok x) put = λ told. (normal (presentation_of r.file (opened told).0), form told, so (λ f t. r.took (normal (presentation_of f t))) put told)
  all_written (Err e) put = tt

  pub front_written : {T : Type 0} (answer : Result T Refusal) → Then honest_then file_then (λ f t. OnErr answer (PutsSomeOf r (normal (presentation_of f t)))) → Honest r → OnErr answer (PutsFront r (HasNormalForm r.file))
  front_written answer put told = on_err _ _ answer (λ a. (normal (presentation_of r.file (opened told).0), form told, a)) (so (λ f t. OnErr answer (PutsSomeOf r (normal (presentation_of f t)))) put told)

  pub unchanged_written : {T : Type 0} (answer : Result T Refusal) → Then honest_then file_then (λ f t. IfErr answer (λ e. e ≡ refusals.StoreChanged → ⊥)) → Honest r → IfErr answer (λ e. e ≡ refusals.StoreChanged → ⊥)
  unchanged_written answer put told = so (λ f t. IfErr answer (λ e. e ≡ refusals.StoreChanged → ⊥)) put told

-- ---- over a sink that tells its bytes

-- a front of the normal form was put
front_told : (file before after : List ℕ) (reads reads_after puts puts_after : ℕ) → PutsFront (run_told file before after reads reads_after puts puts_after) (HasNormalForm file) → headline.PutsFrontOfNormal file before after
front_told file before after reads reads_after puts puts_after p = (take p.2.0 p.0, drop p.2.0 p.0, (p.1.0, p.1.1, take-append-drop p.2.0 p.0 ∙ p.1.2), p.2.2)

pub says_bytes : NormalisedSaysBytes
says_bytes file before after reads reads_after puts puts_after (Ok done) n = let p = n.1 refl in (p.0, p.1, p.2)
says_bytes file before after reads reads_after puts puts_after (Err (refusals.Fault f)) n = (n.1 refl, n.0 ∙ append-nil before)
says_bytes file before after reads reads_after puts puts_after (Err refusals.Memory) n = n ∙ append-nil before
says_bytes file before after reads reads_after puts puts_after (Err refusals.StoreFailed) n = elim (n.1 refl) [
  | inl none ↦ inl (none ∙ append-nil before)
  | inr some ↦ inr (front_told file before after reads reads_after puts puts_after some)
]
says_bytes file before after reads reads_after puts puts_after (Err refusals.StoreChanged) n = absurd (n refl)
says_bytes file before after reads reads_after puts puts_after (Err refusals.WriteFailed) n = front_told file before after reads reads_after puts puts_after (n.1 refl)
says_bytes file before after reads reads_after puts puts_after (Err refusals.NoSuchTrack) n = absurd n.1
