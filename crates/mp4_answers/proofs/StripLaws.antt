-- The laws of copies in which some boxes are free space.
use Rattle.std.proofs.Common.{◌≡◌, ℕ, ◌+◌, ◌-◌, ◌<◌, ◌≤◌, List, ◌++◌, length, take, drop, refl, sym, ap, subst, ◌∙◌, append_assoc, arith, Ok, length-append, length-drop, length-take, take-append-drop}
use Rattle.std.proofs.lemmas.Grind.{common_steps}
use Rattle.std.proofs.lemmas.List.{drop-drop, drop-append-le, take-append-le}
use Rattle.std.proofs.Math.Seq.{drop-append-add}
use Rattle.std.specs.Prelude.{codes, min}
use Rattle.mp4_boxes.specs.format.Box.{Header, header_at}
use Rattle.mp4_boxes.specs.declared.fault.Fault.{Fault}
use Rattle.mp4_boxes.specs.declared.rule.Rule.{Rule}
use Rattle.mp4_boxes.specs.declared.rule.Rule.TheVariants.{File}
use Rattle.mp4_boxes.proofs.Tiling.{header_is, IsRead}
use Rattle.mp4_answers.specs.declared.box_names.Name.{Name}
use Rattle.mp4_answers.specs.format.Strips.{is_top, freed, payload_behind, Strips, ends, frees, keeps, enters, Halts, here, behind, within}
use Rattle.mp4_answers.specs.format.StripLaws.{NamedBoxAt, at_front, further, inside, StripKeepsLength, UnnamedIsCopied, NamedIsFree, HaltedStripsNothing}
use Rattle.mp4_answers.proofs.StripCopies.{same_header, next_freed, next_entered, fault_strips_nothing, no_header}
use Rattle.mp4_answers.proofs.OneTexts.{some_there}

-- ---- lengths of parts

pub length_box : (bytes : List ℕ) (n : ℕ) → n ≤ length bytes → length (take n bytes) ≡ n
length_box bytes n le = grind (arith, common_steps)

pub length_freed : (bytes : List ℕ) → 8 ≤ length bytes → length (freed bytes) ≡ length bytes
length_freed bytes le = grind (arith, common_steps)

pub length_payload : (bytes : List ℕ) (h : Header) → IsRead (length bytes) h → length (payload_behind h bytes) ≡ h.size - h.length
length_payload bytes h r =
    let from : h.length ≤ h.size = r.inside in
    let to : h.size ≤ length bytes = r.fits in
    let d : length (drop h.length bytes) ≡ length bytes - h.length = length-drop h.length bytes in
    length_box (drop h.length bytes) (h.size - h.length) (omega (arith, from, to, d))

pub strip_length : (names : List Name) (rule : Rule) (bytes text : List ℕ) → Strips names rule bytes text → length text ≡ length bytes
strip_length names rule bytes text (ends _ _ _ b t) = ap length t ∙ sym (ap length b)
strip_length names rule bytes text (frees _ _ _ h rest e n s t) =
    let r = header_is (is_top rule) bytes h e in
    let long : 8 ≤ h.length = r.length in
    let from : h.length ≤ h.size = r.inside in
    let to : h.size ≤ length bytes = r.fits in
    let whole = length_box bytes h.size to in
    let part = length_freed (take h.size bytes) (omega (arith, long, from, whole)) in
    let more = strip_length names rule (drop h.size bytes) rest s in
    let d : length (drop h.size bytes) ≡ length bytes - h.size = length-drop h.size bytes in
    let sum : length (freed (take h.size bytes) ++ rest) ≡ length (freed (take h.size bytes)) + length rest = length-append (freed (take h.size bytes)) rest in
    ap length t ∙ sum ∙ omega (arith, part, whole, more, d, to)
strip_length names rule bytes text (keeps _ _ _ h rest e n i s t) =
    let to : h.size ≤ length bytes = (header_is (is_top rule) bytes h e).fits in
    let whole = length_box bytes h.size to in
    let more = strip_length names rule (drop h.size bytes) rest s in
    let d : length (drop h.size bytes) ≡ length bytes - h.size = length-drop h.size bytes in
    let sum : length (take h.size bytes ++ rest) ≡ length (take h.size bytes) + length rest = length-append (take h.size bytes) rest in
    ap length t ∙ sum ∙ omega (arith, whole, more, d, to)
strip_length names rule bytes text (enters _ _ _ h inner middle rest e n i w s t) =
    let r = header_is (is_top rule) bytes h e in
    let from : h.length ≤ h.size = r.inside in
    let to : h.size ≤ length bytes = r.fits in
    let front = length_box bytes h.length (omega (arith, from, to)) in
    let held = strip_length names inner (payload_behind h bytes) middle w ∙ length_payload bytes h r in
    let more = strip_length names rule (drop h.size bytes) rest s in
    let d : length (drop h.size bytes) ≡ length bytes - h.size = length-drop h.size bytes in
    let sum : length (take h.length bytes ++ (middle ++ rest)) ≡ length (take h.length bytes) + length (middle ++ rest) = length-append (take h.length bytes) (middle ++ rest) in
    let sum' : length (middle ++ rest) ≡ length middle + length rest = length-append middle rest in
    ap length t ∙ sum ∙ omega (arith, front, held, more, d, from, to, sum')

pub strip_keeps_length : StripKeepsLength
strip_keeps_length names file text s = strip_length names File file text s

-- ---- without named boxes

three_parts : (bytes : List ℕ) (h : Header) → h.length ≤ h.size → take h.length bytes ++ (payload_behind h bytes ++ drop h.size bytes) ≡ bytes
three_parts bytes h le =
    let place : h.length + (h.size - h.length) ≡ h.size = omega (arith, le) in
    let rest : drop h.size bytes ≡ drop (h.size - h.length) (drop h.length bytes) = sym (drop-drop (h.size - h.length) h.length bytes ∙ ap (λ k. drop k bytes) place) in
    ap (λ xs. take h.length bytes ++ (payload_behind h bytes ++ xs)) rest
    ∙ ap (λ xs. take h.length bytes ++ xs) (take-append-drop (h.size - h.length) (drop h.length bytes))
    ∙ take-append-drop h.length bytes

pub unnamed_copied : (names : List Name) (rule : Rule) (bytes text : List ℕ) → ((place : ℕ) → NamedBoxAt names rule place bytes → ⊥) → Strips names rule bytes text → text ≡ bytes
unnamed_copied names rule bytes text none (ends _ _ _ b t) = t ∙ sym b
unnamed_copied names rule bytes text none (frees _ _ _ h rest e n s t) = absurd (none 0 (at_front rule 0 bytes h e n refl))
unnamed_copied names rule bytes text none (keeps _ _ _ h rest e n i s t) =
    let more = unnamed_copied names rule (drop h.size bytes) rest (λ place x. none (h.size + place) (further rule (h.size + place) bytes h place e x refl)) s in
    t ∙ ap (λ xs. take h.size bytes ++ xs) more ∙ take-append-drop h.size bytes
unnamed_copied names rule bytes text none (enters _ _ _ h inner middle rest e n i w s t) =
    let held = unnamed_copied names inner (payload_behind h bytes) middle (λ place x. none (h.length + place) (inside rule (h.length + place) bytes h inner place e n i x refl)) w in
    let more = unnamed_copied names rule (drop h.size bytes) rest (λ place x. none (h.size + place) (further rule (h.size + place) bytes h place e x refl)) s in
    t ∙ (λ k. take h.length bytes ++ (held k ++ more k)) ∙ three_parts bytes h (header_is (is_top rule) bytes h e).inside

pub unnamed_is_copied : UnnamedIsCopied
unnamed_is_copied names file text none s = unnamed_copied names File file text none s

-- ---- where a named box stood

-- the four bytes at a place behind a part, and at a place inside the first of two parts
four_behind : (part rest : List ℕ) (n place : ℕ) → length part ≡ n → take 4 (drop ((n + place) + 4) (part ++ rest)) ≡ take 4 (drop (place + 4) rest)
four_behind part rest n place e =
    let at : (n + place) + 4 ≡ length part + (place + 4) = omega (arith, e) in
    ap (λ k. take 4 (drop k (part ++ rest))) at ∙ ap (take 4) (drop-append-add part rest (place + 4))

four_within : (middle rest : List ℕ) (place : ℕ) → place + 8 ≤ length middle → take 4 (drop (place + 4) (middle ++ rest)) ≡ take 4 (drop (place + 4) middle)
four_within middle rest place le =
    let n : length (drop (place + 4) middle) ≡ length middle - (place + 4) = length-drop (place + 4) middle in
    ap (take 4) (drop-append-le (place + 4) middle rest (omega (arith, le))) ∙ take-append-le 4 (drop (place + 4) middle) rest (omega (arith, le, n))

four_there : (bytes : List ℕ) (place : ℕ) → take 4 (drop (place + 4) bytes) ≡ codes "free" → place + 8 ≤ length bytes
four_there bytes place e =
    let n : length (take 4 (drop (place + 4) bytes)) ≡ 4 = ap length e in
    let m : length (drop (place + 4) bytes) ≡ length bytes - (place + 4) = length-drop (place + 4) bytes in
    let k : length (take 4 (drop (place + 4) bytes)) ≡ min 4 (length (drop (place + 4) bytes)) = length-take 4 (drop (place + 4) bytes) in
    omega (arith, n, m, k)

pub four_first : (bytes rest : List ℕ) → 8 ≤ length bytes → take 4 (drop 4 (freed bytes ++ rest)) ≡ codes "free"
four_first bytes rest le = grind (arith, common_steps)

-- what stands for the first box is as long as that, and then comes what stands for the others
first_part : (names : List Name) (rule : Rule) (bytes text : List ℕ) (g : Header) → 0 < length bytes → header_at (is_top rule) bytes ≡ Ok g → Strips names rule bytes text
    → (part rest : List ℕ) × (length part ≡ g.size) × Strips names rule (drop g.size bytes) rest × (text ≡ part ++ rest)
first_part names rule bytes text g some read (ends _ _ _ b t) = absurd (no_header (is_top rule) bytes g b read)
first_part names rule bytes text g some read (frees _ _ _ h rest e n s t) =
    let same = same_header (header_at (is_top rule) bytes) h g e read in
    let r = header_is (is_top rule) bytes h e in
    let long : 8 ≤ h.length = r.length in
    let from : h.length ≤ h.size = r.inside in
    let to : h.size ≤ length bytes = r.fits in
    let whole = length_box bytes h.size to in
    let part = length_freed (take h.size bytes) (omega (arith, long, from, whole)) in
    (freed (take h.size bytes), rest, part ∙ whole ∙ ap (λ (x : Header). x.size) same, subst (λ (x : Header). Strips names rule (drop x.size bytes) rest) same s, t)
first_part names rule bytes text g some read (keeps _ _ _ h rest e n i s t) =
    let same = same_header (header_at (is_top rule) bytes) h g e read in
    let to : h.size ≤ length bytes = (header_is (is_top rule) bytes h e).fits in
    (take h.size bytes, rest, length_box bytes h.size to ∙ ap (λ (x : Header). x.size) same, subst (λ (x : Header). Strips names rule (drop x.size bytes) rest) same s, t)
first_part names rule bytes text g some read (enters _ _ _ h inner middle rest e n i w s t) =
    let same = same_header (header_at (is_top rule) bytes) h g e read in
    let r = header_is (is_top rule) bytes h e in
    let from : h.length ≤ h.size = r.inside in
    let to : h.size ≤ length bytes = r.fits in
    let front = length_box bytes h.length (omega (arith, from, to)) in
    let held = strip_length names inner (payload_behind h bytes) middle w ∙ length_payload bytes h r in
    let sum : length (take h.length bytes ++ middle) ≡ length (take h.length bytes) + length middle = length-append (take h.length bytes) middle in
    let whole : length (take h.length bytes ++ middle) ≡ h.size = omega (arith, front, held, sum, from) in
    (take h.length bytes ++ middle, rest, whole ∙ ap (λ (x : Header). x.size) same, subst (λ (x : Header). Strips names rule (drop x.size bytes) rest) same s, t ∙ sym (append_assoc (take h.length bytes) middle rest))

pub named_free : (names : List Name) (rule : Rule) (place : ℕ) (bytes text : List ℕ) → NamedBoxAt names rule place bytes → Strips names rule bytes text → take 4 (drop (place + 4) text) ≡ codes "free"
named_free names rule place bytes text (at_front _ _ _ h e n p) s =
    let x = next_freed names rule bytes text h (some_there (is_top rule) bytes h e) e n s in
    let r = header_is (is_top rule) bytes h e in
    let long : 8 ≤ h.length = r.length in
    let from : h.length ≤ h.size = r.inside in
    let to : h.size ≤ length bytes = r.fits in
    let whole = length_box bytes h.size to in
    ap (λ k. take 4 (drop (k + 4) text)) p ∙ ap (λ xs. take 4 (drop 4 xs)) x.2 ∙ four_first (take h.size bytes) x.0 (omega (arith, long, from, whole))
named_free names rule place bytes text (further _ _ _ h left e x p) s =
    let y = first_part names rule bytes text h (some_there (is_top rule) bytes h e) e s in
    ap (λ k. take 4 (drop (k + 4) text)) p ∙ ap (λ xs. take 4 (drop ((h.size + left) + 4) xs)) y.4 ∙ four_behind y.0 y.1 h.size left y.2 ∙ named_free names rule left (drop h.size bytes) y.1 x y.3
named_free names rule place bytes text (inside _ _ _ h inner left e n i x p) s =
    let y = next_entered names rule bytes text h inner (some_there (is_top rule) bytes h e) e n i s in
    let r = header_is (is_top rule) bytes h e in
    let from : h.length ≤ h.size = r.inside in
    let to : h.size ≤ length bytes = r.fits in
    let front = length_box bytes h.length (omega (arith, from, to)) in
    let found = named_free names inner left (payload_behind h bytes) y.0 x y.2 in
    ap (λ k. take 4 (drop (k + 4) text)) p ∙ ap (λ xs. take 4 (drop ((h.length + left) + 4) xs)) y.4
    ∙ four_behind (take h.length bytes) (y.0 ++ y.1) h.length left front ∙ four_within y.0 y.1 left (four_there y.0 left found) ∙ found

pub named_is_free : NamedIsFree
named_is_free names file text place x s = named_free names File place file text x s

-- ---- where a header can't be read

pub halted : (names : List Name) (f : Fault) (rule : Rule) (at : ℕ) (bytes text : List ℕ) → Halts names f rule at bytes → Strips names rule bytes text → ⊥
halted names f rule at bytes text (here _ _ _ some x) s = fault_strips_nothing names rule at bytes text f some x s
halted names f rule at bytes text (behind _ _ _ h e x) s =
    let y = first_part names rule bytes text h (some_there (is_top rule) bytes h e) e s in
    halted names f rule (at + h.size) (drop h.size bytes) y.1 x y.3
halted names f rule at bytes text (within _ _ _ h inner e n i x) s =
    let y = next_entered names rule bytes text h inner (some_there (is_top rule) bytes h e) e n i s in
    halted names f inner (at + h.length) (payload_behind h bytes) y.0 x y.2

pub halted_strips_nothing : HaltedStripsNothing
halted_strips_nothing names f file text x s = halted names f File 0 file text x s
