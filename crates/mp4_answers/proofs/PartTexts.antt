-- Texts of which the parts are told one by one.
use Rattle.std.proofs.Common.{◌≡◌, ℕ, zero, suc, ◌+◌, ◌-◌, ◌/◌, ◌<◌, ◌≤◌, min, List, [], ◌∷◌, ◌++◌, length, take, drop, append_assoc, refl, sym, ap, ◌∙◌, codes, decimal, arith}
use Rattle.std.proofs.lemmas.Grind.{common_steps}
use Rattle.std.proofs.lemmas.Bool.{le-leb, lt-leb}
use Rattle.std.proofs.lemmas.List.{append-nil}
use Rattle.sha2.specs.Sha256.{sha256}
use Rattle.mp4_answers.specs.format.Text.{dump_line, dump_lines, payload_lines}
use Rattle.mp4_answers.specs.format.Texts.{hex_text, space, line_feed}

pub three_parts : (a b c part : List ℕ) → part ≡ b ++ [] → a ++ (part ++ (c ++ [])) ≡ a ++ b ++ c
three_parts a b c part e = rw e (simp (append-nil, append_assoc))

pub named_parts : (name said part : List ℕ) → part ≡ said ++ [] → space ++ (name ++ (codes ":" ++ (part ++ line_feed))) ≡ space ++ name ++ codes ":" ++ said ++ line_feed
named_parts name said part e = rw e (simp (append-nil, append_assoc))

module _ (front name kind colon number bytes : List ℕ) where
  with_dumps : (feed dumps : List ℕ) → front ++ (name ++ (kind ++ (colon ++ (number ++ (bytes ++ feed))))) ++ dumps ≡ front ++ (name ++ kind) ++ colon ++ number ++ bytes ++ (feed ++ dumps)
  with_dumps feed dumps = simp append_assoc

  with_digest : (told digits feed : List ℕ) → front ++ (name ++ (kind ++ (colon ++ (number ++ (bytes ++ told ++ (digits ++ feed)))))) ≡ front ++ (name ++ kind) ++ colon ++ number ++ bytes ++ (told ++ digits ++ feed)
  with_digest told digits feed = simp append_assoc

without_end : (xs ys : List ℕ) → xs ≡ ys ++ [] → xs ≡ ys
without_end xs ys e = e ∙ append-nil ys

-- the bytes are spelled
pub spelled : (name kind bytes part : List ℕ) → length bytes ≤ 4096 → part ≡ decimal (length bytes) ++ [] → payload_lines (name ++ kind) bytes ≡ space ++ (name ++ (kind ++ (codes ": " ++ (part ++ codes " bytes\n")))) ++ dump_lines ((length bytes + 15) / 16) bytes
spelled name kind bytes part few e = rw (le-leb (length bytes) 4096 few, without_end part (decimal (length bytes)) e) (sym (with_dumps space name kind (codes ": ") (decimal (length bytes)) (codes " bytes") line_feed (dump_lines ((length bytes + 15) / 16) bytes)))

-- or told by their digest
pub told_by_digest : (name kind bytes part digits : List ℕ) → 4096 < length bytes → part ≡ decimal (length bytes) ++ [] → digits ≡ hex_text (sha256 bytes) ++ []
    → space ++ (name ++ (kind ++ (codes ": " ++ (part ++ (codes " bytes, SHA-256 " ++ (digits ++ line_feed)))))) ≡ payload_lines (name ++ kind) bytes
told_by_digest name kind bytes part digits many e f =
    rw (lt-leb (length bytes) 4096 many, without_end part (decimal (length bytes)) e, without_end digits (hex_text (sha256 bytes)) f) (with_digest space name kind (codes ": ") (decimal (length bytes)) (codes " bytes") (codes ", SHA-256 ") (hex_text (sha256 bytes)) line_feed)

-- ---- lines of sixteen bytes

same_front : (rest : List ℕ) (k : ℕ) → k ≡ min (length rest) 16 → take k rest ≡ take 16 rest
same_front rest k e = grind (arith, common_steps)

same_end : (rest : List ℕ) (k : ℕ) → k ≡ min (length rest) 16 → drop k rest ≡ drop 16 rest
same_end rest k e = grind (arith, common_steps)

-- one line, and the others
pub dump_next : (n : ℕ) (rest line more : List ℕ) (k : ℕ) → 0 < n → k ≡ min (length rest) 16 → line ≡ take k rest → more ≡ drop k rest → dump_lines n rest ≡ dump_line line ++ dump_lines (n - 1) more
dump_next zero rest line more k some e p q = absurd (omega (arith, some))
dump_next (suc n) rest line more k some e p q =
    let less : suc n - 1 ≡ n = omega arith in
    rw (less, p, q, same_front rest k e, same_end rest k e) refl

-- a name, and a type behind it
pub with_type : (name kind type bytes : List ℕ) → kind ≡ 32 ∷ (type ++ []) → payload_lines (name ++ kind) bytes ≡ payload_lines (name ++ space ++ type) bytes
with_type name kind type bytes e = ap (λ (n : List ℕ). payload_lines n bytes) (ap (λ (k : List ℕ). name ++ k) (e ∙ ap (λ (t : List ℕ). 32 ∷ t) (append-nil type)) ∙ sym (append_assoc name space type))
