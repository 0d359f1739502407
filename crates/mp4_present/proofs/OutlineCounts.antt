-- How many boxes of a type there are, and types that differ.
use Rattle.std.proofs.Common.{◌≡◌, ℕ, Bool, true, false, List, [], ◌∷◌, length, refl, subst, arith}
use Rattle.std.specs.Prelude.{codes, bytes_eq}
use Rattle.mp4_boxes.specs.format.Box.{Box}
use Rattle.mp4_boxes.specs.format.Children.{of_kind, count_among}
use Rattle.mp4_boxes.proofs.Plain.{bytes_eq_is}

-- a type is not two
pub not_both : (kind : List ℕ) → bytes_eq (codes "moov") kind ≡ true → bytes_eq (codes "moof") kind ≡ false
not_both kind e = subst (λ (k : List ℕ). bytes_eq (codes "moof") k ≡ false) (bytes_eq_is (codes "moov") kind e) refl

-- as many are counted as there are
count_one : (kind : List ℕ) (b : Box) (bs : List Box) (v : Bool) → bytes_eq kind b.kind ≡ v → count_among (kind ∷ []) bs ≡ length (of_kind kind bs)
    → count_among (kind ∷ []) (b ∷ bs) ≡ length (of_kind kind (b ∷ bs))
count_one kind b bs true e h = rw e (omega (arith, h))
count_one kind b bs false e h = rw e (omega (arith, h))

pub count_is : (kind : List ℕ) (bs : List Box) → count_among (kind ∷ []) bs ≡ length (of_kind kind bs)
count_is kind [] = refl
count_is kind (b ∷ bs) = count_one kind b bs (bytes_eq kind b.kind) refl (count_is kind bs)
