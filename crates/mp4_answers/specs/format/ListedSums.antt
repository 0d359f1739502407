-- What a line of a list of sums says.
use Rattle.std.specs.Prelude.{◌≡◌, ℕ, Bool, true, false, List}
use Rattle.mp4_answers.specs.declared.text.sum_lines.ListedSum.{ListedSum}
use Rattle.mp4_answers.specs.declared.text.sum_lines.ListedSum.TheVariants as lines
use Rattle.mp4_answers.specs.declared.text.sum_lines.SumOf.{SumOf}
use Rattle.mp4_answers.specs.declared.text.sum_lines.SumOf.TheVariants as sums

-- this digest, of the file of this name
abbrev pub SaysSum : List ℕ → List ℕ → ListedSum → Type 0
SaysSum digest name (lines.Sum d n) = (d ≡ digest) × (n.items ≡ name)
SaysSum digest name _ = ⊥

-- that the sums behind it are of bytes
abbrev pub are_of_bytes : SumOf → Bool
are_of_bytes (sums.Form l) = false
are_of_bytes sums.Bytes = true

abbrev pub says_bytes : ListedSum → Bool
says_bytes (lines.Header what) = are_of_bytes what
says_bytes _ = false
