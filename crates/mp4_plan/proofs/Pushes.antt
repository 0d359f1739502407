-- Bytes that are pushed one after the other.
use Rattle.std.proofs.Common.{◌≡◌, ℕ, List, [], ◌++◌, ap, ◌∙◌, append_assoc}
use Rattle.mp4_present.specs.words.Carried.{BytesGoOn}

-- behind these, and then the rest
pub behind : (start next last bytes rest : List ℕ) → next ≡ start ++ bytes → last ≡ next ++ rest → last ≡ start ++ (bytes ++ rest)
behind start next last bytes rest p q = q ∙ ap (λ (xs : List ℕ). xs ++ rest) p ∙ append_assoc start bytes rest

-- the first bytes
pub first : (start next bytes : List ℕ) → start ≡ [] → next ≡ start ++ bytes → next ≡ bytes
first start next bytes e p = p ∙ ap (λ (xs : List ℕ). xs ++ bytes) e

-- the same bytes follow
pub goes_on_as : (Took : List ℕ → Type 0) (held held_b xs ys : List ℕ) → BytesGoOn Took held held_b xs → xs ≡ ys → BytesGoOn Took held held_b ys
goes_on_as Took held held_b xs ys p e = (p.0, p.1, p.2 ∙ ap (λ (bs : List ℕ). held ++ bs) e)
