-- The sum of a file: the digest of its normal form, or of its bytes.
use Rattle.std.specs.Prelude.{◌≡◌, ◌⊎◌, ℕ, List, [], Result, IfOk, Ok, Err}
use Rattle.sha2.specs.Sha256.{sha256}
use Rattle.mp4_boxes.specs.declared.refusal.Refusal.{Refusal}
use Rattle.mp4_boxes.specs.declared.refusal.Refusal.TheVariants as refusals
use Rattle.mp4_answers.specs.format.ReducedHeadline.{HasReducedForm, LeftFaultStands}
use Rattle.mp4_answers.specs.format.Selected.{LacksNamed}
use Rattle.mp4_answers.specs.format.Told.{IsFaultTold}
use Rattle.mp4_answers.specs.declared.selection.Selection.{Selection}
use Rattle.mp4_answers.specs.format.Run.{Run, Honest, NothingFailed, ReadFailed, Answered}

-- the digest under SHA-256 of the normal form of what is left of what is looked at of the file
abbrev pub HasSum : Selection → List ℕ → List ℕ → Type 0
HasSum s file digest = (bytes : List ℕ) × HasReducedForm s file bytes × (digest ≡ sha256 bytes)

-- `sum`: that digest; nothing is put, and it is refused where `normalise --without` is
abbrev pub Summed : Selection → Run → Result (List ℕ) Refusal → Type 0
Summed s r result = Answered r (λ text. text ≡ [])
    (λ f. IsFaultTold s r.file f ⊎ LeftFaultStands s r.file f)
    (LacksNamed s.track r.honest r.file) result
    × IfOk result (λ digest. Honest r → HasSum s r.file digest)

-- the digest of the bytes of a file, whatever they are: it is refused only where a read failed, or
-- no memory was to be had
abbrev pub SumsBytes : Run → Result (List ℕ) Refusal → Type 0
SumsBytes r (Ok digest) = NothingFailed r × (Honest r → digest ≡ sha256 r.file)
SumsBytes r (Err refusals.Memory) = Unit {0}
SumsBytes r (Err refusals.StoreFailed) = ReadFailed r
SumsBytes r (Err _) = ⊥
