-- Boxes of some types among others: the first of them, and what holds of each.
use Rattle.std.proofs.Common.{◌≡◌, ℕ, ◌+◌, ◌≤◌, Bool, true, false, cond, ◌||◌, List, [], ◌∷◌, ◌++◌, map, find, Option, Some, None, inl, inr, refl, sym, ap, subst, ◌∙◌, arith}
use Rattle.std.specs.Prelude.{bytes_eq}
use Rattle.std.specs.List.{AllByRecursion}
use Rattle.mp4_boxes.specs.format.Box.{Box}
use Rattle.mp4_boxes.specs.format.Children.{is_among, count_among, of_kind, payload_among}
use Rattle.mp4_boxes.specs.format.Layout.{Leaf}
use Rattle.mp4_boxes.specs.format.Places.{at_kind, IsSoundAs}
use Rattle.mp4_boxes.proofs.Among.{count-append, entry_or}
use Rattle.mp4_boxes.proofs.Sound.{same_kind}
use Rattle.mp4_boxes.proofs.Plain.{none_some}

-- what holds of each box that has one of these types
abbrev pub AllAmong : List (List ℕ) → (Box → Type 0) → List Box → Type 0
AllAmong kinds P boxes = AllByRecursion (λ (b : Box). is_among kinds b.kind ≡ true → P b) boxes

-- the first box that has one of them
pub record IsFirstAmong (kinds : List (List ℕ)) (boxes : List Box) (b : Box) : Type 0 where
  pub before : List Box
  pub after : List Box
  pub is : boxes ≡ before ++ b ∷ after
  pub among : is_among kinds b.kind ≡ true
  pub none : count_among kinds before ≡ 0

-- the box that is found
abbrev pub first_among : List (List ℕ) → List Box → Option Box
first_among kinds boxes = find (λ (b : Box). is_among kinds b.kind) boxes

-- what is found is the first, or none is counted
abbrev pub FoundAs : List (List ℕ) → List Box → Option Box → Type 0
FoundAs kinds boxes None = count_among kinds boxes ≡ 0
FoundAs kinds boxes (Some b) = IsFirstAmong kinds boxes b

-- so it is, of what is found
pub found_as : (kinds : List (List ℕ)) (boxes : List Box) → FoundAs kinds boxes (first_among kinds boxes)
found_as kinds [] = refl
found_as kinds (x ∷ boxes) = by (is_among kinds x.kind) refl (first_among kinds boxes) (found_as kinds boxes)
  where
    behind : is_among kinds x.kind ≡ false → (o : Option Box) → FoundAs kinds boxes o → FoundAs kinds (x ∷ boxes) o
    behind e None h = let n : count_among kinds (x ∷ boxes) ≡ 0 + count_among kinds boxes = rw e refl in omega (arith, n, h)
    behind e (Some b) h =
        let n : count_among kinds (x ∷ h.before) ≡ 0 + count_among kinds h.before = rw e refl in
        record { before = x ∷ h.before; after = h.after; is = ap (λ (bs : List Box). x ∷ bs) h.is; among = h.among; none = omega (arith, n, h.none) }

    by : (v : Bool) → is_among kinds x.kind ≡ v → (o : Option Box) → FoundAs kinds boxes o → FoundAs kinds (x ∷ boxes) (cond v (Some x) o)
    by true e o h = record { before = []; after = boxes; is = refl; among = e; none = refl }
    by false e o h = behind e o h

-- what holds of all holds of those of some types
pub among_all : (kinds : List (List ℕ)) (P : Box → Type 0) (boxes : List Box) → AllByRecursion P boxes → AllAmong kinds P boxes
among_all kinds P [] h = tt
among_all kinds P (x ∷ boxes) h = ((λ e. h.0), among_all kinds P boxes h.1)

-- of none, anything holds
pub none_among : (kinds : List (List ℕ)) (P : Box → Type 0) (boxes : List Box) → count_among kinds boxes ≡ 0 → AllAmong kinds P boxes
none_among kinds P [] n = tt
none_among kinds P (x ∷ boxes) n = ((λ e. absurd (hit e)), none_among kinds P boxes (fewer (is_among kinds x.kind) refl))
  where
    hit : is_among kinds x.kind ≡ true → ⊥
    hit e = let m : 1 + count_among kinds boxes ≡ 0 = rw e at n in omega (arith, m)

    fewer : (v : Bool) → is_among kinds x.kind ≡ v → count_among kinds boxes ≡ 0
    fewer true e = absurd (hit e)
    fewer false e = let m : 0 + count_among kinds boxes ≡ 0 = rw e at n in omega (arith, m)

-- of boxes before one, of it, and of those behind it
among_joined : (kinds : List (List ℕ)) (P : Box → Type 0) (before after : List Box) (b : Box) → AllAmong kinds P before → P b → AllAmong kinds P after → AllAmong kinds P (before ++ b ∷ after)
among_joined kinds P [] after b h p k = ((λ e. p), k)
among_joined kinds P (c ∷ before) after b h p k = (h.0, among_joined kinds P before after b h.1 p k)

-- of at most one, what holds of the first holds of each
pub first_is_each : (kinds : List (List ℕ)) (P : Box → Type 0) (boxes : List Box) (b : Box) → IsFirstAmong kinds boxes b → count_among kinds boxes ≤ 1 → P b → AllAmong kinds P boxes
first_is_each kinds P boxes b i n p =
    let among = i.among in
    let here : count_among kinds (b ∷ i.after) ≡ 1 + count_among kinds i.after = rw among refl in
    let others : count_among kinds i.after ≡ 0 = omega (arith, n, i.none, ap (count_among kinds) i.is, count-append kinds i.before (b ∷ i.after), here) in
    subst (AllAmong kinds P) (sym i.is) (among_joined kinds P i.before i.after b (none_among kinds P i.before i.none) p (none_among kinds P i.after others))

-- where one is counted, one is found
pub found_there : (kinds : List (List ℕ)) (boxes : List Box) → count_among kinds boxes ≡ 1 → (b : Box) × (first_among kinds boxes ≡ Some b) × IsFirstAmong kinds boxes b
found_there kinds boxes n = by (first_among kinds boxes) refl (found_as kinds boxes)
  where
    by : (o : Option Box) → first_among kinds boxes ≡ o → FoundAs kinds boxes o → (b : Box) × (first_among kinds boxes ≡ Some b) × IsFirstAmong kinds boxes b
    by None e h = absurd (omega (arith, n, h))
    by (Some b) e h = (b, e, h)

-- the payload of the first
pub payload_found : (kinds : List (List ℕ)) (boxes : List Box) (b : Box) → first_among kinds boxes ≡ Some b → payload_among kinds boxes ≡ b.payload
payload_found kinds [] b e = absurd cc
payload_found kinds (x ∷ boxes) b e = by (is_among kinds x.kind) refl e (payload_found kinds boxes b)
  where
    by : (v : Bool) → is_among kinds x.kind ≡ v → cond v (Some x) (first_among kinds boxes) ≡ Some b → (first_among kinds boxes ≡ Some b → payload_among kinds boxes ≡ b.payload) → payload_among kinds (x ∷ boxes) ≡ b.payload
    by true f g more = let same : x ≡ b = cc in rw f (ap (λ (c : Box). c.payload) same)
    by false f g more = rw f (more g)

-- ---- types

-- a type is among two lists of types if it is among one of them
among_append : (xs ys : List (List ℕ)) (kind : List ℕ) → is_among (xs ++ ys) kind ≡ (is_among xs kind || is_among ys kind)
among_append [] ys kind = refl
among_append (x ∷ xs) ys kind = by (bytes_eq x kind) (among_append xs ys kind)
  where
    by : (v : Bool) → is_among (xs ++ ys) kind ≡ (is_among xs kind || is_among ys kind) → (v || is_among (xs ++ ys) kind) ≡ ((v || is_among xs kind) || is_among ys kind)
    by true e = refl
    by false e = e

-- what holds of each box of some types, and of others, holds of both
pub among_both : (xs ys : List (List ℕ)) (P : Box → Type 0) (boxes : List Box) → AllAmong xs P boxes → AllAmong ys P boxes → AllAmong (xs ++ ys) P boxes
among_both xs ys P [] h k = tt
among_both xs ys P (b ∷ boxes) h k = ((λ e. by (is_among xs b.kind) refl (sym (among_append xs ys b.kind) ∙ e)), among_both xs ys P boxes h.1 k.1)
  where
    by : (v : Bool) → is_among xs b.kind ≡ v → (is_among xs b.kind || is_among ys b.kind) ≡ true → P b
    by true e g = h.0 e
    by false e g = k.0 (rw e at g)

-- a type among these is not another that is not
pub another_type : (kinds : List (List ℕ)) (kind other : List ℕ) → is_among kinds kind ≡ true → is_among kinds other ≡ false → bytes_eq other kind ≡ false
another_type kinds kind other e n = by (bytes_eq other kind) refl
  where
    by : (v : Bool) → bytes_eq other kind ≡ v → bytes_eq other kind ≡ false
    by true f =
        let same : kind ≡ other = same_kind other kind f in
        let g : true ≡ false = sym e ∙ ap (is_among kinds) same ∙ n in
        absurd cc
    by false f = f

-- a type that a table has is among those of its entries
pub entry_among : {A : Type 0} (entries : List (List ℕ × A)) (kind : List ℕ) (x : A) → at_kind entries kind ≡ Some x → is_among (map (λ (entry : List ℕ × A). entry.0) entries) kind ≡ true
entry_among [] kind x e = absurd (none_some x e)
entry_among {A} (entry ∷ entries) kind x e = elim (entry_or kind entry.0 entry.1 x entries e) [
  | inl m ↦ let f = m.0 in rw f refl
  | inr n ↦ by (bytes_eq entry.0 kind) (entry_among entries kind x n)
]
  where
    by : (v : Bool) → is_among (map (λ (entry : List ℕ × A). entry.0) entries) kind ≡ true → (v || is_among (map (λ (entry : List ℕ × A). entry.0) entries) kind) ≡ true
    by true m = refl
    by false m = m

-- what is sound of each box of a type that is read as a leaf is sound of all
pub all_read : (entries : List (List ℕ × Leaf)) (boxes : List Box) → AllAmong (map (λ (entry : List ℕ × Leaf). entry.0) entries) (λ (b : Box). IsSoundAs (at_kind entries b.kind) b.payload) boxes
    → AllByRecursion (λ (b : Box). IsSoundAs (at_kind entries b.kind) b.payload) boxes
all_read entries [] h = tt
all_read entries (b ∷ boxes) h = (by (at_kind entries b.kind) refl, all_read entries boxes h.1)
  where
    by : (o : Option Leaf) → at_kind entries b.kind ≡ o → IsSoundAs (at_kind entries b.kind) b.payload
    by None e = subst (λ (o : Option Leaf). IsSoundAs o b.payload) (sym e) tt
    by (Some leaf) e = h.0 (entry_among entries b.kind leaf e)

-- a type that is among one is it
pub only_type : (kind other : List ℕ) → is_among (kind ∷ []) other ≡ true → bytes_eq kind other ≡ true
only_type kind other e = by (bytes_eq kind other) e
  where
    by : (v : Bool) → (v || false) ≡ true → v ≡ true
    by true e = refl
    by false e = absurd cc

-- what holds of the boxes of a type
pub kind_among : (kind : List ℕ) (P : Box → Type 0) (boxes : List Box) → AllByRecursion P (of_kind kind boxes) → AllAmong (kind ∷ []) P boxes
kind_among kind P [] h = tt
kind_among kind P (b ∷ boxes) h = by (bytes_eq kind b.kind) refl h (kind_among kind P boxes)
  where
    by : (v : Bool) → bytes_eq kind b.kind ≡ v → AllByRecursion P (cond v (b ∷ of_kind kind boxes) (of_kind kind boxes)) → (AllByRecursion P (of_kind kind boxes) → AllAmong (kind ∷ []) P boxes) → AllAmong (kind ∷ []) P (b ∷ boxes)
    by true e h more = ((λ m. h.0), more h.1)
    by false e h more = ((λ m. let n : true ≡ false = sym (only_type kind b.kind m) ∙ e in absurd cc), more h)
