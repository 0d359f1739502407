-- How long the text of a type is.
use Rattle.std.proofs.Common.{◌≡◌, ℕ, ◌*◌, ◌≤◌, List, [], ◌∷◌, length, refl, arith}
use Rattle.std.specs.List.{flat_map}
use Rattle.mp4_answers.specs.format.Texts.{hex_digits, type_text}

pub length-hex_digits : (bytes : List ℕ) → length (flat_map (hex_digits 2) bytes) ≡ 2 * length bytes
length-hex_digits [] = refl
length-hex_digits (b ∷ bytes) = let e = length-hex_digits bytes in omega arith

pub length_type_text : (kind : List ℕ) → length (type_text kind) ≤ 2 * length kind
length_type_text kind = let e = length-hex_digits kind in grind arith
