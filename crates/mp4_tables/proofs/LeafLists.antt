-- The children of an `stbl`: the first of a type, where it lies, and what holds of all of a type.
use Rattle.std.proofs.Common.{◌≡◌, ℕ, zero, suc, ◌+◌, ◌-◌, ◌≤◌, List, [], ◌∷◌, ◌++◌, length, take, drop, subst, refl, ap, sym, ◌∙◌, arith, Bool, true, false, Some, None, length-take, length-drop, append_assoc}
use Rattle.std.specs.Prelude.{bytes_eq, nat_eq}
use Rattle.std.proofs.lemmas.List.{drop-drop}
use Rattle.std.proofs.lemmas.Bool.Decides.{nat_tests}
use Rattle.mp4_boxes.specs.format.Box.{Box, header_at, size, sizes, LieEndToEnd, Tiles, box_container, bytes_container, first_boxes}
use Rattle.mp4_boxes.specs.format.Children.{Holds, count_among, payload_if}
use Rattle.mp4_boxes.specs.declared.rule.Rule.TheVariants.{SampleTable}
use Rattle.mp4_boxes.proofs.Tiling.{header_is, box_size, sizes-cons}
use Rattle.mp4_boxes.proofs.Among.{count-append, hit_counts}
use Rattle.mp4_boxes.proofs.Sound.{same_kind}
use Rattle.mp4_tables.specs.words.Leaves.{boxes_of, HasTables, AllOf, IsFirstOf, LiesIn}
use Rattle.mp4_boxes.proofs.Walking.{length_few, first_then}

-- a type is the same as itself
itself : (kind : List ℕ) → bytes_eq kind kind ≡ true
itself [] = refl
itself (k ∷ kind) = let e : nat_eq k k ≡ true = grind (arith, nat_tests) in rw e (itself kind)

turned : (a b : List ℕ) → bytes_eq a b ≡ false → bytes_eq b a ≡ false
turned a b e = either (bytes_eq b a) refl
  where
    either : (v : Bool) → bytes_eq b a ≡ v → bytes_eq b a ≡ false
    either true f = let s : bytes_eq a a ≡ false = subst (λ k. bytes_eq a k ≡ false) (sym (same_kind b a f)) e in absurd (never a s)
      where
        never : (k : List ℕ) → bytes_eq k k ≡ false → ⊥
        never k s = let q : true ≡ false = sym (itself k) ∙ s in cc
    either false f = f

-- ---- all children

none_there : (at n : ℕ) (bytes : List ℕ) → length bytes ≡ 0 → first_boxes n at bytes ≡ []
none_there at zero bytes e = refl
none_there at (suc n) [] e = refl
none_there at (suc n) (b ∷ bytes) e = absurd (omega (arith, e))

-- boxes that fill bytes are all that are found there, by however many they are sought
found_all : (at n : ℕ) (bytes : List ℕ) (boxes : List Box) → LieEndToEnd false at bytes boxes → sizes boxes ≡ length bytes → length boxes ≤ n → first_boxes n at bytes ≡ boxes
found_all at n bytes [] l e h = none_there at n bytes (sym e)
found_all at zero bytes (b ∷ boxes) l e h = absurd (omega (arith, h))
found_all at (suc n) bytes (b ∷ boxes) l e h =
    let g = l.0.0 in
    let s : size b ≡ g.size = ap size l.0.2 ∙ box_size at bytes g (header_is false bytes g l.0.1) in
    let r = header_is false bytes g l.0.1 in
    let left : sizes boxes ≡ length (drop (size b) bytes) = omega (arith, e, length-drop (size b) bytes, sizes-cons b boxes) in
    let more : first_boxes n (at + g.size) (drop g.size bytes) ≡ boxes =
    subst (λ (m : ℕ). first_boxes n (at + m) (drop m bytes) ≡ boxes) s (found_all (at + size b) n (drop (size b) bytes) boxes l.1 left (omega (arith, h))) in
    first_then at bytes b boxes (header_at false bytes) g (λ k. first_boxes n (at + k.size) (drop k.size bytes)) l.0.1 l.0.2 (sym more)

-- the children of a container are the boxes in front of its payload
pub boxes_are : (b : Box) (boxes : List Box) → Tiles (box_container b) boxes → boxes_of b ≡ boxes
unfolding boxes_of
boxes_are b boxes t = found_all (b.offset + b.header) (length b.payload) b.payload boxes t.front.0 t.full (omega (arith, length_few (b.offset + b.header) b.payload boxes t.front.0, t.full))

pub tiled_as_bytes : (b : Box) (boxes : List Box) → Tiles (box_container b) boxes → Tiles (bytes_container b.kind (b.offset + b.header) b.payload) boxes
tiled_as_bytes b boxes t = record { front = t.front; full = t.full }

-- ---- where a child's payload lies

pub child_lies : (at : ℕ) (bytes : List ℕ) (before after : List Box) (b : Box) → LieEndToEnd false at bytes (before ++ b ∷ after) → LiesIn at bytes b
child_lies at bytes [] after b l =
    let g = l.0.0 in
    let r = header_is false bytes g l.0.1 in
    let o : b.offset ≡ at = ap (λ (c : Box). c.offset) l.0.2 in
    let h : b.header ≡ g.length = ap (λ (c : Box). c.header) l.0.2 in
    let p : b.payload ≡ take (g.size - g.length) (drop g.length bytes) = ap (λ (c : Box). c.payload) l.0.2 in
    let n : length b.payload ≡ g.size - g.length = omega (arith, ap (λ (xs : List ℕ). length xs) p, length-take (g.size - g.length) (drop g.length bytes), length-drop g.length bytes, r.length, r.inside, r.fits) in
    record {
      place = g.length;
      is = omega arith;
      within = omega (arith, n, r.inside, r.fits);
      same = p ∙ ap (λ m. take m (drop g.length bytes)) (sym n);
    }
child_lies at bytes (c ∷ before) after b l =
    let g = l.0.0 in
    let r = header_is false bytes g l.0.1 in
    let s : size c ≡ g.size = ap size l.0.2 ∙ box_size at bytes g r in
    let i = child_lies (at + size c) (drop (size c) bytes) before after b l.1 in
    let e = i.is in
    let w = i.within in
    let n = length-drop (size c) bytes in
    let f = r.fits in
    record {
      place = size c + i.place;
      is = omega arith;
      within = omega arith;
      same = i.same ∙ ap (take (length b.payload)) (drop-drop i.place (size c) bytes);
    }

-- ---- the first of a type

pub payload_first : (kind : List ℕ) (boxes : List Box) (b : Box) → IsFirstOf kind boxes b → payload_if kind boxes ≡ Some b.payload
payload_first kind boxes b i = ap (payload_if kind) i.is ∙ behind i.before i.none
  where
    choice : (c : Box) (more : List Box) (v : Bool) → bytes_eq kind c.kind ≡ v → count_among (kind ∷ []) (c ∷ more) ≡ 0 → (count_among (kind ∷ []) more ≡ 0 → payload_if kind (more ++ b ∷ i.after) ≡ Some b.payload) → payload_if kind (c ∷ (more ++ b ∷ i.after)) ≡ Some b.payload
    choice c more true e n h = absurd (omega (arith, hit_counts kind c more e, n))
    choice c more false e n h = let m : 0 + count_among (kind ∷ []) more ≡ 0 = rw e at n in rw e (h (omega (arith, m)))

    behind : (before : List Box) → count_among (kind ∷ []) before ≡ 0 → payload_if kind (before ++ b ∷ i.after) ≡ Some b.payload
    behind [] n = rw i.same refl
    behind (c ∷ before) n = choice c before (bytes_eq kind c.kind) refl n (behind before)

pub payload_none : (kind : List ℕ) (boxes : List Box) → count_among (kind ∷ []) boxes ≡ 0 → payload_if kind boxes ≡ None
payload_none kind [] n = refl
payload_none kind (c ∷ boxes) n = choice c boxes (bytes_eq kind c.kind) refl n (payload_none kind boxes)
  where
    choice : (c : Box) (more : List Box) (v : Bool) → bytes_eq kind c.kind ≡ v → count_among (kind ∷ []) (c ∷ more) ≡ 0 → (count_among (kind ∷ []) more ≡ 0 → payload_if kind more ≡ None) → payload_if kind (c ∷ more) ≡ None
    choice c more true e n h = absurd (omega (arith, hit_counts kind c more e, n))
    choice c more false e n h = let m : 0 + count_among (kind ∷ []) more ≡ 0 = rw e at n in rw e (h (omega (arith, m)))

-- what holds of none holds of all
pub all_none : (kind : List ℕ) (P : List ℕ → Type 0) (boxes : List Box) → count_among (kind ∷ []) boxes ≡ 0 → AllOf kind P boxes
all_none kind P [] n = tt
all_none kind P (c ∷ boxes) n = (λ e. absurd (omega (arith, hit_counts kind c boxes e, n)), all_none kind P boxes (fewer c boxes (bytes_eq kind c.kind) refl n))
  where
    fewer : (c : Box) (more : List Box) (v : Bool) → bytes_eq kind c.kind ≡ v → count_among (kind ∷ []) (c ∷ more) ≡ 0 → count_among (kind ∷ []) more ≡ 0
    fewer c more true e n = absurd (omega (arith, hit_counts kind c more e, n))
    fewer c more false e n = let m : 0 + count_among (kind ∷ []) more ≡ 0 = rw e at n in omega (arith, m)

all_joined : (kind : List ℕ) (P : List ℕ → Type 0) (before after : List Box) (b : Box) → AllOf kind P before → P b.payload → AllOf kind P after → AllOf kind P (before ++ b ∷ after)
all_joined kind P [] after b h p k = (λ _. p, k)
all_joined kind P (c ∷ before) after b h p k = (h.0, all_joined kind P before after b h.1 p k)

-- what holds of the only one holds of all
pub all_first : (kind : List ℕ) (P : List ℕ → Type 0) (boxes : List Box) (b : Box) → IsFirstOf kind boxes b → count_among (kind ∷ []) boxes ≤ 1 → P b.payload → AllOf kind P boxes
all_first kind P boxes b i n p =
    let others : count_among (kind ∷ []) i.after ≡ 0 = omega (arith, n, i.none, ap (count_among (kind ∷ [])) i.is, count-append (kind ∷ []) i.before (b ∷ i.after), hit_counts kind b i.after i.same) in
    subst (AllOf kind P) (sym i.is) (all_joined kind P i.before i.after b (all_none kind P i.before i.none) p (all_none kind P i.after others))

-- of two types together at most one stands, so at most one of each
pub count_each : (a b : List ℕ) (boxes : List Box) → bytes_eq a b ≡ false → count_among (a ∷ []) boxes + count_among (b ∷ []) boxes ≡ count_among (a ∷ b ∷ []) boxes
count_each a b [] e = refl
count_each a b (c ∷ boxes) e = step (bytes_eq a c.kind) (bytes_eq b c.kind) refl refl (count_each a b boxes e)
  where
    step : (v w : Bool) → bytes_eq a c.kind ≡ v → bytes_eq b c.kind ≡ w → count_among (a ∷ []) boxes + count_among (b ∷ []) boxes ≡ count_among (a ∷ b ∷ []) boxes
        → count_among (a ∷ []) (c ∷ boxes) + count_among (b ∷ []) (c ∷ boxes) ≡ count_among (a ∷ b ∷ []) (c ∷ boxes)
    step true true f g h =
        let s : bytes_eq a b ≡ true = subst (λ k. bytes_eq a k ≡ true) (same_kind b c.kind g) f in absurd (both_ways s)
      where
        both_ways : bytes_eq a b ≡ true → ⊥
        both_ways s = let q : true ≡ false = sym s ∙ e in cc
    step true false f g h = rw (f, g) (omega (arith, h))
    step false true f g h = rw (f, g) (omega (arith, h))
    step false false f g h = rw (f, g) (omega (arith, h))

-- ---- walking over children

-- some boxes were passed, of which none has the type, and these are left
pub record NonePassed (kind : List ℕ) (boxes left : List Box) : Type 0 where
  pub before : List Box
  pub is : boxes ≡ before ++ left
  pub none : count_among (kind ∷ []) before ≡ 0

pub one_passed : (kind : List ℕ) (boxes left later : List Box) (b : Box) → NonePassed kind boxes left → left ≡ b ∷ later → bytes_eq b.kind kind ≡ false → NonePassed kind boxes later
one_passed kind boxes left later b p e s = record {
  before = p.before ++ b ∷ [];
  is = p.is ∙ ap (λ bs. p.before ++ bs) e ∙ sym (append_assoc p.before (b ∷ []) later);
  none = omega (arith, p.none, count-append (kind ∷ []) p.before (b ∷ []), miss_counts b (turned b.kind kind s));
}
  where
    miss_counts : (c : Box) → bytes_eq kind c.kind ≡ false → count_among (kind ∷ []) (c ∷ []) ≡ 0
    miss_counts c f = rw f refl

-- children of the profile, as they were found, are the boxes in front of the payload
pub has_tables : (b : Box) (boxes : List Box) → Holds SampleTable (box_container b) boxes → HasTables b
has_tables b boxes h = subst (λ bs. Holds SampleTable (box_container b) bs) (sym (boxes_are b boxes h.tiles)) h
