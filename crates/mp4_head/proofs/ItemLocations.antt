-- The letters `iloc` stand somewhere in the bytes exactly if a search for them finds a place.
use Rattle.std.proofs.Common.{◌≡◌, ℕ, zero, suc, ◌+◌, ◌<◌, Bool, true, false, List, [], ◌∷◌, length, Option, Some, None, refl, sym, ap, ◌∙◌, arith, eqb-true}
use Rattle.std.specs.Prelude.{codes, slice_index, nat_eq, is_some}
use Rattle.std.specs.List.{starts_with}
use Rattle.memchr.specs.Find.{OccursAt, FindsNeedle}
use Rattle.mp4_head.specs.format.Head.{names_item_location}
use Rattle.mp4_boxes.proofs.Plain.{and_is_true, false_true, or_left, or_right}

-- the letters in front of the bytes
in_front : (bytes : List ℕ) → OccursAt bytes (codes "iloc") 0 → starts_with nat_eq bytes (codes "iloc") ≡ true
in_front (a ∷ b ∷ c ∷ d ∷ rest) o =
    let n0 : a ≡ 105 = o.reads 0 (omega arith) in
    let n1 : b ≡ 108 = o.reads 1 (omega arith) in
    let n2 : c ≡ 111 = o.reads 2 (omega arith) in
    let n3 : d ≡ 99 = o.reads 3 (omega arith) in
    rw (n0, n1, n2, n3) refl
in_front (a ∷ b ∷ c ∷ []) o = absurd (omega (arith, o.fits))
in_front (a ∷ b ∷ []) o = absurd (omega (arith, o.fits))
in_front (a ∷ []) o = absurd (omega (arith, o.fits))
in_front [] o = absurd (omega (arith, o.fits))

next : (k j : ℕ) → suc k + j ≡ suc (k + j)
next k j = omega arith

-- one place further on
further : (b : ℕ) (bytes needle : List ℕ) (k : ℕ) → OccursAt (b ∷ bytes) needle (suc k) → OccursAt bytes needle k
further b bytes needle k o = record { fits = omega (arith, o.fits); reads = λ j lt. sym (ap (slice_index (b ∷ bytes)) (next k j)) ∙ o.reads j lt }

-- where they stand, they are named
named_at : (bytes : List ℕ) (k : ℕ) → OccursAt bytes (codes "iloc") k → names_item_location bytes ≡ true
named_at [] k o = absurd (omega (arith, o.fits))
named_at (b ∷ bytes) zero o = or_left (starts_with nat_eq (b ∷ bytes) (codes "iloc")) (names_item_location bytes) (in_front (b ∷ bytes) o)
named_at (b ∷ bytes) (suc k) o = or_right (starts_with nat_eq (b ∷ bytes) (codes "iloc")) (names_item_location bytes) (named_at bytes k (further b bytes (codes "iloc") k o))

-- where the letters are in front, they stand at the first place
at_front : (a b c d : ℕ) (rest : List ℕ) → a ≡ 105 → b ≡ 108 → c ≡ 111 → d ≡ 99 → OccursAt (a ∷ b ∷ c ∷ d ∷ rest) (codes "iloc") 0
at_front a b c d rest e f g h = record { fits = omega arith; reads = λ j lt. ap (slice_index (a ∷ b ∷ c ∷ d ∷ rest)) (same j) ∙ reads j lt }
  where
    same : (j : ℕ) → 0 + j ≡ j
    same j = omega arith

    reads : (j : ℕ) → j < length (codes "iloc") → slice_index (a ∷ b ∷ c ∷ d ∷ rest) j ≡ slice_index (codes "iloc") j
    reads zero lt = e
    reads (suc zero) lt = f
    reads (suc (suc zero)) lt = g
    reads (suc (suc (suc zero))) lt = h
    reads (suc (suc (suc (suc j)))) lt = absurd (omega (arith, lt))

front_stands : (bytes : List ℕ) → starts_with nat_eq bytes (codes "iloc") ≡ true → OccursAt bytes (codes "iloc") 0
front_stands (a ∷ b ∷ c ∷ d ∷ rest) s =
    let n0 = and_is_true (nat_eq 105 a) _ s in
    let n1 = and_is_true (nat_eq 108 b) _ n0.1 in
    let n2 = and_is_true (nat_eq 111 c) _ n1.1 in
    let n3 = and_is_true (nat_eq 99 d) _ n2.1 in
    at_front a b c d rest (sym (eqb-true 105 a n0.0)) (sym (eqb-true 108 b n1.0)) (sym (eqb-true 111 c n2.0)) (sym (eqb-true 99 d n3.0))
front_stands (a ∷ b ∷ c ∷ []) s =
    let n0 = and_is_true (nat_eq 105 a) _ s in
    let n1 = and_is_true (nat_eq 108 b) _ n0.1 in
    let n2 = and_is_true (nat_eq 111 c) _ n1.1 in
    absurd (false_true n2.1)
front_stands (a ∷ b ∷ []) s =
    let n0 = and_is_true (nat_eq 105 a) _ s in
    let n1 = and_is_true (nat_eq 108 b) _ n0.1 in
    absurd (false_true n1.1)
front_stands (a ∷ []) s =
    let n0 = and_is_true (nat_eq 105 a) _ s in
    absurd (false_true n0.1)
front_stands [] s = absurd cc

-- one place further back
further_back : (b : ℕ) (bytes needle : List ℕ) (k : ℕ) → OccursAt bytes needle k → OccursAt (b ∷ bytes) needle (suc k)
further_back b bytes needle k o = record { fits = omega (arith, o.fits); reads = λ j lt. ap (slice_index (b ∷ bytes)) (next k j) ∙ o.reads j lt }

-- the step of `stands_somewhere`, by whether they are in front
somewhere : (b : ℕ) (bytes : List ℕ) (v : Bool) → starts_with nat_eq (b ∷ bytes) (codes "iloc") ≡ v → names_item_location (b ∷ bytes) ≡ true
    → (names_item_location bytes ≡ true → (k : ℕ) × OccursAt bytes (codes "iloc") k) → (k : ℕ) × OccursAt (b ∷ bytes) (codes "iloc") k
somewhere b bytes true e n more = (zero, front_stands (b ∷ bytes) e)
somewhere b bytes false e n more = let r = more (rw e at n) in (suc r.0, further_back b bytes (codes "iloc") r.0 r.1)

-- where they are named, they stand somewhere
stands_somewhere : (bytes : List ℕ) → names_item_location bytes ≡ true → (k : ℕ) × OccursAt bytes (codes "iloc") k
stands_somewhere [] n = absurd cc
stands_somewhere (b ∷ bytes) n = somewhere b bytes (starts_with nat_eq (b ∷ bytes) (codes "iloc")) refl n (λ m. stands_somewhere bytes m)

-- where they stand nowhere, they are not named
named_nowhere : (bytes : List ℕ) (v : Bool) → names_item_location bytes ≡ v → ((k : ℕ) → ¬ OccursAt bytes (codes "iloc") k) → v ≡ false
named_nowhere bytes true e n = let r = stands_somewhere bytes e in absurd (n r.0 r.1)
named_nowhere bytes false e n = refl

pub names_as_found : (bytes : List ℕ) (r : Option ℕ) → FindsNeedle bytes (codes "iloc") 0 r → is_some r ≡ names_item_location bytes
names_as_found bytes (Some k) f = sym (named_at bytes k f.1)
names_as_found bytes None f = sym (named_nowhere bytes (names_item_location bytes) refl (λ k o. f k (omega arith) (omega (arith, o.fits)) o))
