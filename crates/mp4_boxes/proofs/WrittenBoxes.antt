-- Boxes that are written one after the other: where they lie, and what a container holds of them.
use Rattle.std.proofs.Common.{◌≡◌, ℕ, ◌+◌, ◌^◌, ◌<◌, ◌≤◌, Bool, true, false, cond, List, [], ◌∷◌, ◌++◌, length, drop, Option, Some, None, refl, sym, ap, subst, ◌∙◌, append_assoc, length-append, arith, add-zero}
use Rattle.std.specs.Prelude.{bytes_eq, IsTrue, if◌then◌else◌, map, ◌||◌, flat_map}
use Rattle.std.specs.List.{AllByRecursion}
use Rattle.std.proofs.lemmas.List.{append-nil}
use Rattle.byteorder.specs.Endian.{big_bytes}
use Rattle.byteorder.specs.Numbers.{length-bytes_high_first}
use Rattle.mp4_boxes.specs.format.Bytes.{field}
use Rattle.mp4_boxes.specs.format.Box.{Box, sizes, LieEndToEnd, box_container, counted_container, Tiles}
use Rattle.mp4_boxes.specs.format.Children.{Line, IsQuantity, Holds, table, allows, is_among, count_among, of_kind, payload_if}
use Rattle.std.proofs.lemmas.Slice.Eq.{bytes_eq-Decides}
use Rattle.mp4_boxes.specs.format.Written.{box_bytes}
use Rattle.mp4_boxes.specs.declared.rule.Rule.{Rule}
use Rattle.mp4_boxes.proofs.Lying.{lies}
use Rattle.mp4_boxes.proofs.Among.{of_kind-append}

-- what is written as a box: a type and a payload
pub record Content : Type 0 where
  pub kind : List ℕ
  pub payload : List ℕ

-- their bytes, one after the other
abbrev pub written : List Content → List ℕ
written [] = []
written (k ∷ contents) = box_bytes k.kind k.payload ++ written contents

-- the box that is written at a place
abbrev pub placed_box : ℕ → Content → Box
placed_box at k = record { kind = k.kind; offset = at; header = 8; payload = k.payload }

-- the boxes, from a place on
abbrev pub placed : ℕ → List Content → List Box
placed at [] = []
placed at (k ∷ contents) = placed_box at k ∷ placed (at + (8 + length k.payload)) contents

-- the boxes in a box
abbrev pub children : Box → List Content → List Box
children b contents = placed (b.offset + b.header) contents

-- a type has four letters, and the size fits a header of 8 bytes
pub record FitsBox (k : Content) : Type 0 where
  pub kind : length k.kind ≡ 4
  pub size : 8 + length k.payload < 2 ^ 32

-- a box takes 8 bytes more than its payload
pub length-box_bytes : (kind payload : List ℕ) → length kind ≡ 4 → length (box_bytes kind payload) ≡ 8 + length payload
length-box_bytes kind payload four = omega (arith, length-append (big_bytes 4 (8 + length payload)) (kind ++ payload), length-append kind payload, length-bytes_high_first 4 (8 + length payload))

-- the bytes of two lists joined
pub written-append : (xs ys : List Content) → written (xs ++ ys) ≡ written xs ++ written ys
written-append [] ys = refl
written-append (k ∷ xs) ys = ap (λ (l : List ℕ). box_bytes k.kind k.payload ++ l) (written-append xs ys) ∙ sym (append_assoc (box_bytes k.kind k.payload) (written xs) (written ys))

-- the boxes of two lists joined
pub placed-append : (at : ℕ) (xs ys : List Content) → AllByRecursion FitsBox xs → placed at (xs ++ ys) ≡ placed at xs ++ placed (at + length (written xs)) ys
placed-append at [] ys f = ap (λ (n : ℕ). placed n ys) (sym (add-zero at))
placed-append at (k ∷ xs) ys f =
    let n : at + (8 + length k.payload) + length (written xs) ≡ at + length (written (k ∷ xs)) = omega (arith, length-append (box_bytes k.kind k.payload) (written xs), length-box_bytes k.kind k.payload f.0.kind) in
    ap (λ (l : List Box). placed_box at k ∷ l) (placed-append (at + (8 + length k.payload)) xs ys f.1 ∙ ap (λ (m : ℕ). placed (at + (8 + length k.payload)) xs ++ placed m ys) n)

-- The boxes lie in front of what follows, with those that follow.
pub lie_written : (is_open : Bool) (at : ℕ) (contents : List Content) (rest : List ℕ) (more : List Box) → AllByRecursion FitsBox contents
    → LieEndToEnd is_open (at + length (written contents)) rest more → LieEndToEnd is_open at (written contents ++ rest) (placed at contents ++ more)
lie_written is_open at [] rest more f l = subst (λ (n : ℕ). LieEndToEnd is_open n rest more) (add-zero at) l
lie_written is_open at (k ∷ contents) rest more f l =
    let n : at + length (written (k ∷ contents)) ≡ at + (8 + length k.payload) + length (written contents) = omega (arith, length-append (box_bytes k.kind k.payload) (written contents), length-box_bytes k.kind k.payload f.0.kind) in
    let behind = lie_written is_open (at + (8 + length k.payload)) contents rest more f.1 (subst (λ (m : ℕ). LieEndToEnd is_open m rest more) n l) in
    subst (λ (l : List ℕ). LieEndToEnd is_open at l (placed at (k ∷ contents) ++ more)) (sym (append_assoc (box_bytes k.kind k.payload) (written contents) rest))
    (lies k.kind k.payload (written contents ++ rest) f.0.kind f.0.size is_open at (placed (at + (8 + length k.payload)) contents ++ more) behind)

-- They take as many bytes as are written.
pub sizes_written : (at : ℕ) (contents : List Content) → AllByRecursion FitsBox contents → sizes (placed at contents) ≡ length (written contents)
sizes_written at [] f = refl
sizes_written at (k ∷ contents) f =
    omega (arith, sizes_written (at + (8 + length k.payload)) contents f.1, length-append (box_bytes k.kind k.payload) (written contents), length-box_bytes k.kind k.payload f.0.kind)

-- There are as many boxes as contents.
pub length-placed : (at : ℕ) (contents : List Content) → length (placed at contents) ≡ length contents
length-placed at [] = refl
length-placed at (k ∷ contents) = omega (arith, length-placed (at + (8 + length k.payload)) contents)

-- alone they lie in front of nothing
lie_alone : (at : ℕ) (contents : List Content) (bytes : List ℕ) → bytes ≡ written contents → AllByRecursion FitsBox contents → LieEndToEnd false at bytes (placed at contents)
lie_alone at contents bytes e f =
    let l = lie_written false at contents [] [] f tt in
    subst (λ (bs : List Box). LieEndToEnd false at bytes bs) (append-nil (placed at contents))
    (subst (λ (l : List ℕ). LieEndToEnd false at l (placed at contents ++ [])) (append-nil (written contents) ∙ sym e) l)

-- A box whose payload was written as boxes is tiled by them.
pub tiles_written : (b : Box) (contents : List Content) → b.payload ≡ written contents → AllByRecursion FitsBox contents → Tiles (box_container b) (children b contents)
tiles_written b contents e f = record {
  front = (lie_alone (b.offset + b.header) contents b.payload e f, tt);
  full = sizes_written (b.offset + b.header) contents f ∙ ap (λ (l : List ℕ). length l) (sym e);
}

-- The same for a box that counts them.
pub tiles_counted : (b : Box) (contents : List Content) → drop 8 b.payload ≡ written contents → field b.payload 4 4 ≡ length contents → AllByRecursion FitsBox contents
    → Tiles (counted_container b) (placed (b.offset + b.header + 8) contents)
tiles_counted b contents e n f =
    let at = b.offset + b.header + 8 in
    let many = length-placed at contents in
    record { front = (lie_alone at contents (drop 8 b.payload) e f, omega arith); full = many ∙ sym n }

-- ---- which types there are

-- how many of them have one of these types
abbrev pub count_written : List (List ℕ) → List Content → ℕ
count_written kinds [] = 0
count_written kinds (k ∷ contents) = (if is_among kinds k.kind then 1 else 0) + count_written kinds contents

count_placed : (kinds : List (List ℕ)) (at : ℕ) (contents : List Content) → count_among kinds (placed at contents) ≡ count_written kinds contents
count_placed kinds at [] = refl
count_placed kinds at (k ∷ contents) = ap (λ (n : ℕ). (if is_among kinds k.kind then 1 else 0) + n) (count_placed kinds (at + (8 + length k.payload)) contents)

-- the counts of two lists joined
pub count_written-append : (kinds : List (List ℕ)) (xs ys : List Content) → count_written kinds (xs ++ ys) ≡ count_written kinds xs + count_written kinds ys
count_written-append kinds [] ys = omega arith
count_written-append kinds (k ∷ xs) ys = omega (arith, count_written-append kinds xs ys)

-- none of them has one of these types
abbrev pub HaveNone : List (List ℕ) → List Content → Type 0
HaveNone kinds contents = AllByRecursion (λ (k : Content). is_among kinds k.kind ≡ false) contents

-- what has none counts none
pub count_none : (kinds : List (List ℕ)) (contents : List Content) → HaveNone kinds contents → count_written kinds contents ≡ 0
count_none kinds [] h = refl
count_none kinds (k ∷ contents) h = rw h.0 (omega (arith, count_none kinds contents h.1))

-- what holds of each content holds of each box
pub all_placed : (P : List ℕ → List ℕ → Type 0) (at : ℕ) (contents : List Content) → AllByRecursion (λ (k : Content). P k.kind k.payload) contents → AllByRecursion (λ (b : Box). P b.kind b.payload) (placed at contents)
all_placed P at [] h = tt
all_placed P at (k ∷ contents) h = (h.0, all_placed P (at + (8 + length k.payload)) contents h.1)

quantities_placed : (lines : List Line) (at : ℕ) (contents : List Content) → AllByRecursion (λ (line : Line). IsQuantity line.quantity (count_written line.kinds contents)) lines
    → AllByRecursion (λ (line : Line). IsQuantity line.quantity (count_among line.kinds (placed at contents))) lines
quantities_placed [] at contents h = tt
quantities_placed (line ∷ lines) at contents h = (subst (λ (n : ℕ). IsQuantity line.quantity n) (sym (count_placed line.kinds at contents)) h.0, quantities_placed lines at contents h.1)

-- A box whose payload was written as boxes of a rule holds them.
pub holds_written : (rule : Rule) (b : Box) (contents : List Content) → b.payload ≡ written contents → AllByRecursion FitsBox contents
    → AllByRecursion (λ (k : Content). IsTrue (allows rule k.kind)) contents → AllByRecursion (λ (line : Line). IsQuantity line.quantity (count_written line.kinds contents)) (table rule)
    → Holds rule (box_container b) (children b contents)
holds_written rule b contents e f a q = record {
  tiles = tiles_written b contents e f;
  allowed = all_placed (λ kind payload. IsTrue (allows rule kind)) (b.offset + b.header) contents a;
  quantities = quantities_placed (table rule) (b.offset + b.header) contents q;
}

-- ---- boxes of one type

-- none of them has this type
abbrev pub AreOther : List ℕ → List Content → Type 0
AreOther kind contents = AllByRecursion (λ (k : Content). bytes_eq kind k.kind ≡ false) contents

-- all of them have it
abbrev pub AreThis : List ℕ → List Content → Type 0
AreThis kind contents = AllByRecursion (λ (k : Content). bytes_eq kind k.kind ≡ true) contents

-- the payload of the first of a type
abbrev pub found : List ℕ → List Content → Option (List ℕ)
found kind [] = None
found kind (k ∷ contents) = cond (bytes_eq kind k.kind) (Some k.payload) (found kind contents)

-- among boxes it is found as among contents
pub payload_placed : (kind : List ℕ) (at : ℕ) (contents : List Content) → payload_if kind (placed at contents) ≡ found kind contents
payload_placed kind at [] = refl
payload_placed kind at (k ∷ contents) = ap (λ (o : Option (List ℕ)). cond (bytes_eq kind k.kind) (Some k.payload) o) (payload_placed kind (at + (8 + length k.payload)) contents)

-- what is looked for by its type behind others is found there
pub found_behind : (kind : List ℕ) (front back : List Content) → AreOther kind front → found kind (front ++ back) ≡ found kind back
found_behind kind [] back h = refl
found_behind kind (k ∷ front) back h = rw h.0 (found_behind kind front back h.1)

-- nothing is found of a type that none has
pub found_none : (kind : List ℕ) (contents : List Content) → AreOther kind contents → found kind contents ≡ None
found_none kind [] h = refl
found_none kind (k ∷ contents) h = rw h.0 (found_none kind contents h.1)

-- no box is of a type that none has
pub of_kind-none : (kind : List ℕ) (at : ℕ) (contents : List Content) → AreOther kind contents → of_kind kind (placed at contents) ≡ []
of_kind-none kind at [] h = refl
of_kind-none kind at (k ∷ contents) h = rw h.0 (of_kind-none kind (at + (8 + length k.payload)) contents h.1)

-- each box is of the type that all have
pub of_kind-all : (kind : List ℕ) (at : ℕ) (contents : List Content) → AreThis kind contents → of_kind kind (placed at contents) ≡ placed at contents
of_kind-all kind at [] h = refl
of_kind-all kind at (k ∷ contents) h = rw h.0 (ap (λ (l : List Box). placed_box at k ∷ l) (of_kind-all kind (at + (8 + length k.payload)) contents h.1))

-- the boxes of a type that stand between others
pub of_kind-between : (kind : List ℕ) (at : ℕ) (front middle back : List Content) → AllByRecursion FitsBox front → AllByRecursion FitsBox middle → AreOther kind front → AreThis kind middle → AreOther kind back
    → of_kind kind (placed at (front ++ (middle ++ back))) ≡ placed (at + length (written front)) middle
of_kind-between kind at front middle back f g other this others =
    let from = at + length (written front) in
    let behind = from + length (written middle) in
    ap (of_kind kind) (placed-append at front (middle ++ back) f)
    ∙ of_kind-append kind (placed at front) (placed from (middle ++ back))
    ∙ ap (λ (l : List Box). l ++ of_kind kind (placed from (middle ++ back))) (of_kind-none kind at front other)
    ∙ ap (of_kind kind) (placed-append from middle back g)
    ∙ of_kind-append kind (placed from middle) (placed behind back)
    ∙ (λ i. of_kind-all kind from middle this i ++ of_kind-none kind behind back others i)
    ∙ append-nil (placed from middle)

-- the payloads of boxes
pub payloads_placed : (at : ℕ) (contents : List Content) → map (λ (b : Box). b.payload) (placed at contents) ≡ map (λ (k : Content). k.payload) contents
payloads_placed at [] = refl
payloads_placed at (k ∷ contents) = ap (λ (l : List (List ℕ)). k.payload ∷ l) (payloads_placed (at + (8 + length k.payload)) contents)

-- ---- types that are known by a list of types

by_first : (P : List ℕ → Type 0) (first kind : List ℕ) (v rest : Bool) → bytes_eq first kind ≡ v → P first → v || rest ≡ true → (rest ≡ true → P kind) → P kind
by_first P first kind true rest e h f more = subst P ((bytes_eq-Decides first kind).0 e) h
by_first P first kind false rest e h f more = more f

-- What holds of each type of a list holds of a type that is among them.
pub among_has : (P : List ℕ → Type 0) (kinds : List (List ℕ)) (kind : List ℕ) → AllByRecursion P kinds → is_among kinds kind ≡ true → P kind
among_has P [] kind h e = absurd cc
among_has P (k ∷ kinds) kind h e = by_first P k kind (bytes_eq k kind) (is_among kinds kind) refl h.0 e (among_has P kinds kind h.1)

-- ---- sizes

-- types of four letters
abbrev pub AreTypes : List Content → Type 0
AreTypes contents = AllByRecursion (λ (k : Content). length k.kind ≡ 4) contents

-- What was written as boxes, in less than 2^32 bytes, fits headers of 8 bytes.
pub fits_written : (contents : List Content) → AreTypes contents → length (written contents) < 2 ^ 32 → AllByRecursion FitsBox contents
fits_written [] t h = tt
fits_written (k ∷ contents) t h =
    let both = length-append (box_bytes k.kind k.payload) (written contents) in
    let first = length-box_bytes k.kind k.payload t.0 in
    (record { kind = t.0; size = omega arith }, fits_written contents t.1 (omega arith))

size_by_test : (kind : List ℕ) (k : Content) (contents : List Content) (payload : List ℕ) (v : Bool) → length k.kind ≡ 4 → cond v (Some k.payload) (found kind contents) ≡ Some payload
    → (found kind contents ≡ Some payload → length payload ≤ length (written contents)) → length payload ≤ length (written (k ∷ contents))
size_by_test kind k contents payload true four e more =
    let same : k.payload ≡ payload = cc in
    omega (arith, ap (λ (l : List ℕ). length l) same, length-append (box_bytes k.kind k.payload) (written contents), length-box_bytes k.kind k.payload four)
size_by_test kind k contents payload false four e more = omega (arith, more e, length-append (box_bytes k.kind k.payload) (written contents))

-- What is found takes no more bytes than all.
pub found_size : (kind : List ℕ) (contents : List Content) (payload : List ℕ) → AreTypes contents → found kind contents ≡ Some payload → length payload ≤ length (written contents)
found_size kind [] payload t e = absurd cc
found_size kind (k ∷ contents) payload t e = size_by_test kind k contents payload (bytes_eq kind k.kind) t.0 e (found_size kind contents payload t.1)

-- ---- lists of contents

-- contents of one type
abbrev pub typed : List ℕ → List ℕ → Content
typed kind payload = record { kind = kind; payload = payload }

-- what holds of a type holds of each content of it
pub all_typed : (P : List ℕ → Type 0) (kind : List ℕ) (payloads : List (List ℕ)) → P kind → AllByRecursion (λ (k : Content). P k.kind) (map (typed kind) payloads)
all_typed P kind [] h = tt
all_typed P kind (payload ∷ payloads) h = (h, all_typed P kind payloads h)

-- their bytes
pub typed_written : (kind : List ℕ) (payloads : List (List ℕ)) → flat_map (box_bytes kind) payloads ≡ written (map (typed kind) payloads)
typed_written kind [] = refl
typed_written kind (payload ∷ payloads) = ap (λ (l : List ℕ). box_bytes kind payload ++ l) (typed_written kind payloads)

-- their payloads
pub typed_payloads : (kind : List ℕ) (payloads : List (List ℕ)) → map (λ (k : Content). k.payload) (map (typed kind) payloads) ≡ payloads
typed_payloads kind [] = refl
typed_payloads kind (payload ∷ payloads) = ap (λ (l : List (List ℕ)). payload ∷ l) (typed_payloads kind payloads)

-- a count where none in the middle, or at the end, has one of the types
pub count_around : (kinds : List (List ℕ)) (front middle back : List Content) → HaveNone kinds middle → count_written kinds (front ++ (middle ++ back)) ≡ count_written kinds front + count_written kinds back
count_around kinds front middle back h =
    omega (arith, count_written-append kinds front (middle ++ back), count_written-append kinds middle back, count_none kinds middle h)

-- the same where none behind has one
pub count_before : (kinds : List (List ℕ)) (front back : List Content) → HaveNone kinds back → count_written kinds (front ++ back) ≡ count_written kinds front
count_before kinds front back h = omega (arith, count_written-append kinds front back, count_none kinds back h)

-- the payloads of the boxes of a type that stand between others
pub payloads_between : (kind : List ℕ) (at : ℕ) (front middle back : List Content) → AllByRecursion FitsBox front → AllByRecursion FitsBox middle → AreOther kind front → AreThis kind middle → AreOther kind back
    → map (λ (b : Box). b.payload) (of_kind kind (placed at (front ++ (middle ++ back)))) ≡ map (λ (k : Content). k.payload) middle
payloads_between kind at front middle back f g other this others =
    ap (map (λ (b : Box). b.payload)) (of_kind-between kind at front middle back f g other this others) ∙ payloads_placed (at + length (written front)) middle
