-- Where the `moof`s of a file begin: one behind the other.
use Rattle.std.proofs.Common.{◌⊎◌, zero, suc, ⊎_elim, inl, inr, ◌≡◌, ℕ, ◌+◌, ◌<◌, ◌≤◌, ltb, Bool, true, false, cond, List, [], ◌∷◌, ◌++◌, length, drop, sym, ap, subst, arith, slice_index_or}
use Rattle.std.specs.Prelude.{bytes_eq, ⊤}
use Rattle.std.specs.List.{AllByRecursion}
use Rattle.std.proofs.Math.Nat.{le_refl}
use Rattle.std.proofs.lemmas.Bool.{ltb-true, ltb-false, lt-ltb}
use Rattle.std.proofs.lemmas.List.{length-append}
use Rattle.std.specs.List.Sorted.{IsPartitionPoint, IsPartitionedBy}
use Rattle.mp4_boxes.specs.format.Box.{Box, LieEndToEnd, size}
use Rattle.mp4_boxes.specs.format.Children.{of_kind}
use Rattle.mp4_boxes.proofs.Tiling.{header_is}
use Rattle.mp4_present.specs.words.Outline.{offsets}

-- ---- one behind the other

-- each begins behind the place and behind the end of that before it, and has a header
abbrev pub Rise : ℕ → List Box → Type 0
Rise at [] = ⊤
Rise at (b ∷ boxes) = (at ≤ b.offset) × (0 < b.header) × Rise (b.offset + size b) boxes

-- the boxes of a container do
pub rise_lies : (is_open : Bool) (at : ℕ) (bytes : List ℕ) (boxes : List Box) → LieEndToEnd is_open at bytes boxes → Rise at boxes
rise_lies is_open at bytes [] l = tt
rise_lies is_open at bytes (b ∷ boxes) l =
    let place : b.offset ≡ at = ap (λ (x : Box). x.offset) l.0.2 in
    let header : b.header ≡ l.0.0.length = ap (λ (x : Box). x.header) l.0.2 in
    let long = (header_is is_open bytes l.0.0 l.0.1).length in (
      omega (arith, place),
      omega (arith, header, long),
      subst (λ (n : ℕ). Rise (n + size b) boxes) (sym place) (rise_lies is_open (at + size b) (drop (size b) bytes) boxes l.1),
    )

rise_from : (at to : ℕ) (boxes : List Box) → at ≤ to → Rise to boxes → Rise at boxes
rise_from at to [] le r = tt
rise_from at to (b ∷ boxes) le r = let first = r.0 in (omega (arith, le, first), r.1, r.2)

-- and those of one type among them
pub rise_kind : (kind : List ℕ) (at : ℕ) (boxes : List Box) → Rise at boxes → Rise at (of_kind kind boxes)
rise_kind kind at [] r = tt
rise_kind kind at (b ∷ boxes) r = choice (bytes_eq kind b.kind) (rise_kind kind (b.offset + size b) boxes r.2)
  where
    choice : (v : Bool) → Rise (b.offset + size b) (of_kind kind boxes) → Rise at (cond v (b ∷ of_kind kind boxes) (of_kind kind boxes))
    choice true h = (r.0, r.1, h)
    choice false h = let first = r.0 in rise_from at (b.offset + size b) (of_kind kind boxes) (omega (arith, first)) h

-- all begin at the place or behind it
none_before : (place at : ℕ) (boxes : List Box) → place ≤ at → Rise at boxes → AllByRecursion (λ (n : ℕ). place ≤ n) (offsets boxes)
none_before place at [] le r = tt
none_before place at (b ∷ boxes) le r = let first = r.0 in (omega (arith, le, first), none_before place (b.offset + size b) boxes (omega (arith, le, first)) r.2)

-- Of these boxes, a place inside of one of them lies behind where that and those before it begin, and no box behind it begins before the place.
pub record Parted (place : ℕ) (front : List Box) (b : Box) (back : List Box) : Type 0 where
  pub header : 0 < b.header
  pub begun : AllByRecursion (λ (n : ℕ). n < place) (offsets (front ++ b ∷ []))
  pub not_begun : AllByRecursion (λ (n : ℕ). place ≤ n) (offsets back)

stands_from : (at : ℕ) (front : List Box) (b : Box) (back : List Box) → Rise at (front ++ b ∷ back) → (at ≤ b.offset) × (0 < b.header)
stands_from at [] b back r = (r.0, r.1)
stands_from at (x ∷ front) b back r =
    let s = stands_from (x.offset + size x) front b back r.2 in
    let first = r.0 in
    let later = s.0 in
    (omega (arith, first, later), s.1)

pub parted : (at place : ℕ) (front : List Box) (b : Box) (back : List Box) → Rise at (front ++ b ∷ back) → b.offset + b.header ≤ place → place ≤ b.offset + size b → Parted place front b back
parted at place [] b back r low high =
    let header = r.1 in
    record { header = r.1; begun = (omega (arith, header, low), tt); not_begun = none_before place (b.offset + size b) back high r.2 }
parted at place (x ∷ front) b back r low high =
    let p = parted (x.offset + size x) place front b back r.2 low high in
    let s = stands_from (x.offset + size x) front b back r.2 in
    let header = s.1 in
    let later = s.0 in
    record { header = p.header; begun = (omega (arith, header, later, low), p.begun); not_begun = p.not_begun }

-- ---- how many begin before a place

pub falls : (at : ℕ) (xs : List ℕ) → AllByRecursion (λ (n : ℕ). at ≤ n) xs → (k d : ℕ) → k < length xs → at ≤ slice_index_or xs k d
falls at [] h k d lt = absurd (omega (arith, lt))
falls at (x ∷ xs) h zero d lt = h.0
falls at (x ∷ xs) h (suc k) d lt = falls at xs h.1 k d (omega (arith, lt))

falls_short : (at : ℕ) (front back : List ℕ) → AllByRecursion (λ (n : ℕ). n < at) front → (k d : ℕ) → k < length front → slice_index_or (front ++ back) k d < at
falls_short at [] back h k d lt = absurd (omega (arith, lt))
falls_short at (x ∷ front) back h zero d lt = h.0
falls_short at (x ∷ front) back h (suc k) d lt = falls_short at front back h.1 k d (omega (arith, lt))

reaches : (at : ℕ) (front back : List ℕ) → AllByRecursion (λ (n : ℕ). at ≤ n) back → (k d : ℕ) → length front ≤ k → k < length (front ++ back) → at ≤ slice_index_or (front ++ back) k d
reaches at [] back h k d le lt = falls at back h k d lt
reaches at (x ∷ front) back h zero d le lt = absurd (omega (arith, le))
reaches at (x ∷ front) back h (suc k) d le lt = reaches at front back h k d (omega (arith, le)) (omega (arith, lt))

lt_or_le : (n k : ℕ) → (n < k) ⊎ (k ≤ n)
lt_or_le zero zero = inr (omega arith)
lt_or_le zero (suc k) = inl (omega arith)
lt_or_le (suc n) zero = inr (omega arith)
lt_or_le (suc n) (suc k) = ⊎_elim (λ l. inl (omega (arith, l))) (λ g. inr (omega (arith, g))) (lt_or_le n k)

-- what a search asks for
pub is_parted : (at : ℕ) (front back : List ℕ) → AllByRecursion (λ (n : ℕ). n < at) front → AllByRecursion (λ (n : ℕ). at ≤ n) back → IsPartitionedBy (λ n. ltb n at) (front ++ back)
is_parted at front back below above i j d le lt e =
    let low = ltb-true _ at e in
    ⊎_elim
    (λ b. lt-ltb _ at (falls_short at front back below i d b))
    (λ a. let high = reaches at front back above j d (omega (arith, a, le)) lt in absurd (omega (arith, low, high)))
    (lt_or_le i (length front))

-- and where it ends
pub is_counted : (at : ℕ) (front back : List ℕ) (n : ℕ) → AllByRecursion (λ (n : ℕ). n < at) front → AllByRecursion (λ (n : ℕ). at ≤ n) back → n ≤ length (front ++ back)
    → IsPartitionPoint (λ k. ltb k at ≡ true) (λ k. ltb k at ≡ false) (front ++ back) n → n ≡ length front
is_counted at front back n below above le point =
    ⊎_elim
    (λ less. let long = length-append front back in
    let high = ltb-false _ at (point.1 n 0 (le_refl n) (omega (arith, less, long))) in
    let low = falls_short at front back below n 0 less in
    absurd (omega (arith, high, low)))
    (λ more. ⊎_elim
    (λ less. let low = ltb-true _ at (point.0 (length front) 0 (omega arith) less) in
    let high = reaches at front back above (length front) 0 (le_refl _) (omega (arith, less, le)) in
    absurd (omega (arith, low, high)))
    (λ same. omega (arith, more, same))
    (lt_or_le (length front) n))
    (lt_or_le n (length front))
