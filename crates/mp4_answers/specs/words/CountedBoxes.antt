-- Counts that go up by others, and stay at the largest number of 64 bits.
use Rattle.std.specs.Prelude.{◌≡◌, ℕ, zero, suc, ◌+◌, ◌-◌, ◌^◌, min, List, [], ◌∷◌}
use Rattle.mp4_boxes.specs.declared.rule.Rule.{Rule}
use Rattle.mp4_store.specs.words.Device.{range}
use Rattle.mp4_answers.specs.declared.box_names.Name.{Name}
use Rattle.mp4_answers.specs.format.StripCounts.{Counts}

abbrev pub count_on : ℕ → ℕ → ℕ
count_on c zero = c
count_on c (suc n) = min (c + suc n) (2 ^ 64 - 1)

abbrev pub counts_on : List ℕ → List ℕ → List ℕ
counts_on [] ns = []
counts_on (c ∷ cs) [] = c ∷ cs
counts_on (c ∷ cs) (n ∷ ns) = count_on c n ∷ counts_on cs ns

-- the counts went up by those of the boxes between two places
abbrev pub CountsOn : List Name → Rule → ℕ → ℕ → List ℕ → List ℕ → List ℕ → Type 0
CountsOn names rule from end before after file = (ns : List ℕ)
    × Counts names rule (range file from (end - from)) ns × (after ≡ counts_on before ns)
