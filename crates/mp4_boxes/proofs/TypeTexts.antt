-- Types as texts.
use Rattle.std.proofs.Common.{arith, ◌≡◌, ℕ, ◌++◌, [], ◌∷◌, List, length, true, false, refl, get_or, nat_le, ◌&&◌}
use Rattle.std.specs.List.{list_all}
use Rattle.std.proofs.lemmas.Grind.{common_steps}
use Rattle.std.proofs.lemmas.Str.{encode_ascii}
use lib.Utf8.{encode}
use Rattle.mp4_boxes.specs.format.FaultTexts.{hex_digits, type_text}

-- four printable characters are spelled as they are
pub four_characters : (kind : List ℕ) (a b c d : ℕ) → length kind ≡ 4
    → list_all (λ b. nat_le 32 b && nat_le b 126) kind ≡ true
    → a ≡ get_or kind 0 0 → b ≡ get_or kind 1 0 → c ≡ get_or kind 2 0 → d ≡ get_or kind 3 0
    → encode a ++ (encode b ++ (encode c ++ encode d)) ≡ type_text kind
four_characters (x ∷ y ∷ z ∷ w ∷ []) a b c d e all p q r s =
    rw (p, q, r, s) (grind (arith, common_steps, all, encode_ascii))
four_characters kind a b c d e all p q r s = grind (arith, e)

-- four bytes of which some is no printable character are spelled by their digits
pub eight_digits : (kind : List ℕ) → length kind ≡ 4
    → list_all (λ b. nat_le 32 b && nat_le b 126) kind ≡ false
    → hex_digits 2 (get_or kind 0 0) ++ (hex_digits 2 (get_or kind 1 0)
    ++ (hex_digits 2 (get_or kind 2 0) ++ hex_digits 2 (get_or kind 3 0))) ≡ type_text kind
eight_digits (x ∷ y ∷ z ∷ w ∷ []) e all = rw all refl
eight_digits kind e all = grind (arith, e)
