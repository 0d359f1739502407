-- The list of what two presentations don't have in common is complete.
use Rattle.std.specs.Prelude.{◌≡◌, ℕ, false, Some}
use Rattle.std.specs.List.{Any}
use Rattle.mp4_tables.specs.format.Groups.{key_rank}
use Rattle.mp4_tables.specs.declared.keys.GroupKey.{GroupKey}
use Rattle.mp4_present.specs.format.Presentation.{Presentation}
use Rattle.mp4_content.specs.format.Differences.{same_value}
use Rattle.mp4_content.specs.format.Comparison.{differences}
use Rattle.mp4_content.specs.format.ComparisonLaws.{value_at}
use Rattle.mp4_content.specs.declared.comparing.differences.Subject.{Subject}
use Rattle.mp4_content.specs.declared.comparing.differences.Entries.{Entries}
use Rattle.mp4_content.specs.declared.comparing.differences.Part.TheVariants as parts
use Rattle.mp4_content.specs.declared.comparing.differences.Field.{Field}
use Rattle.mp4_content.specs.declared.comparing.differences.Field.TheVariants as fields
use Rattle.mp4_content.specs.declared.comparing.differences.Value.{Value}
use Rattle.mp4_content.specs.declared.comparing.differences.Difference.{Difference}

-- keys of groups are the same exactly if their ranks are
abbrev pub SameKey : GroupKey → GroupKey → Type 0
SameKey a b = key_rank (record { kind = a.kind.0; parameter = a.parameter })
    ≡ key_rank (record { kind = b.kind.0; parameter = b.parameter })

-- They name the same value, a byte of one payload, or the index at one key.
pub data IsSameBut (f g : Field) : Type 0 where
  same : f ≡ g → IsSameBut f g
  sample_byte : (j m k n : ℕ) → f ≡ fields.Byte j m → g ≡ fields.Byte k n → IsSameBut f g
  entry_byte : (list : Entries) (i j m k n : ℕ) → f ≡ fields.Entry list i (parts.Byte j m)
      → g ≡ fields.Entry list i (parts.Byte k n) → IsSameBut f g
  index : (a b : GroupKey) → SameKey a b → f ≡ fields.Group a → g ≡ fields.Group b → IsSameBut f g

-- Each place at which both presentations say a value, and not the same, is listed; of bytes of one
-- payload one is. By `DifferencesAreTheirs` it is listed with what both say there.
abbrev pub DifferencesAreAll : Type 0
DifferencesAreAll = (p q : Presentation) (of : Subject) (field : Field) (x y : Value)
    → value_at p of field ≡ Some x → value_at q of field ≡ Some y → same_value x y ≡ false
    → Any (λ (d : Difference). (d.subject ≡ of) × IsSameBut d.field field) (differences p q)
