use Rattle.std.proofs.Common.{◌≡◌, List, ℕ, ◌++◌, length, true, false}
use Rattle.mp4_answers.specs.format.SumLines.{escaped_name}
use Rattle.mp4_answers.proofs.text.sum_lines.name_of.Given as goal

-- the bytes so far are those of the name, and those of what is left are to come
abbrev pub invariant-loop-first : goal.invariant-loop-first
invariant-loop-first l =
    record {
      plain : l.is_escaped ≡ false → l.spelled ≡ l.name.items ++ l.left;
      escaped : (name : List ℕ) → l.is_escaped ≡ true → l.spelled ≡ escaped_name name
          → (rest : List ℕ) × (l.left ≡ escaped_name rest) × (name ≡ l.name.items ++ rest);
    }

abbrev pub decreases-loop-first : goal.decreases-loop-first
decreases-loop-first l = length l.left
