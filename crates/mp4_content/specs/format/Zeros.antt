-- Bytes that are left out, but keep their place.
use Rattle.std.specs.Prelude.{ℕ, zero, suc, List, [], ◌∷◌}

-- zeros in the place of so many bytes, from a place on
abbrev pub zeroed : ℕ → ℕ → List ℕ → List ℕ
zeroed from count [] = []
zeroed zero zero (b ∷ bytes) = b ∷ bytes
zeroed zero (suc count) (b ∷ bytes) = 0 ∷ zeroed zero count bytes
zeroed (suc from) count (b ∷ bytes) = b ∷ zeroed from count bytes
