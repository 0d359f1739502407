-- Faults of children and of leaves: where one is named, the container does not hold the boxes of the profile, or the leaf is not sound.
use Rattle.std.proofs.Common.{◌≡◌, ℕ, ◌+◌, ◌<◌, ◌≤◌, ltb, Bool, true, false, List, [], ◌∷◌, ◌++◌, Option, Some, refl, ap, subst, arith, inl, inr}
use Rattle.std.specs.Prelude.{find, IsTrue, not, ◌&&◌, ◌||◌, nat_lt}
use Rattle.std.specs.List.{AllByRecursion, list_any}
use Rattle.std.proofs.lemmas.Bool.{ltb-true, ltb-false}
use Rattle.mp4_boxes.specs.format.Box.{Box, Container, StandsAfter, Tiles}
use Rattle.mp4_boxes.specs.format.Children.{Line, Quantity, one, at_most_one, any, IsQuantity, Holds, table, each, free_space, is_among, allows, is_single, is_needed, count_among}
use Rattle.mp4_boxes.specs.format.Layout.{Leaf, knows_version, knows_flags, has_bad_value, is_outside_data, has_large_offset, IsSound}
use Rattle.mp4_boxes.specs.format.BoxFaults.{IsNotInProfile, IsDuplicate, IsMissing, IsChildFault, Fails}
use Rattle.mp4_boxes.specs.declared.rule.Rule.{Rule}
use Rattle.mp4_boxes.specs.declared.fault.Fault.{Fault}
use Rattle.mp4_boxes.specs.declared.fault.Kind.{Kind}
use Rattle.mp4_boxes.specs.declared.fault.Kind.TheVariants.{ShortHeader, BadSize, Overrun, ShortBox, BoxNotInProfile, DuplicateBox, MissingBox, BadVersion, BadFlags, BadValue, OutsideData, CountMismatch, BadOrder, BadDescriptionIndex, SampleOutsideFile, UnknownTrack, Gap, OffsetTooLarge, ItemLocation, TooManySamples, TimeTooLarge, MovieTooLarge, FragmentBeforeMovie}
use Rattle.mp4_boxes.proofs.Tiling.{tiles_one, header_fault_refuses}
use Rattle.mp4_boxes.proofs.Members.{stands_among}
use Rattle.mp4_boxes.proofs.Among.{IsIn, all_in, all_append, count-append}
use Rattle.mp4_boxes.proofs.Plain.{and_is_true, not_is_true, true_false}

-- what stands in a tiled container is one of its boxes
pub stands_in : (c : Container) (before bs : List Box) (b : Box) → StandsAfter c before b → Tiles c bs → IsIn bs b
stands_in c before bs b s t = let m = stands_among c before bs b s t in record { before = before; after = m.0; is = m.1 }

-- Where a box stands that may not, the container holds no boxes of the profile.
pub not_in_profile_refuses : (rule : Rule) (c : Container) (f : Fault) (bs : List Box) → IsNotInProfile rule c f → Holds rule c bs → ⊥
not_in_profile_refuses rule c f bs n h =
    true_false (allows rule n.b.kind) (all_in (λ (b : Box). IsTrue (allows rule b.kind)) bs n.b (stands_in c n.before bs n.b n.stands h.tiles) h.allowed) n.refused

first_or : {A : Type 0} (p : A → Bool) (P : A → Type 0) (x : A) (xs : List A) (v : Bool) → p x ≡ v → list_any p (x ∷ xs) ≡ true → P x → (list_any p xs ≡ true → (y : A) × (p y ≡ true) × P y)
    → (y : A) × (p y ≡ true) × P y
first_or p P x xs true f e h more = (x, f, h)
first_or p P x xs false f e h more = more (let g : (p x || list_any p xs) ≡ true = e in rw f at g)

-- of a list of which one passes the test and each has the property, there is one with both
pub both_of : {A : Type 0} (p : A → Bool) (P : A → Type 0) (xs : List A) → list_any p xs ≡ true → AllByRecursion P xs → (x : A) × (p x ≡ true) × P x
both_of p P [] e h = absurd cc
both_of p P (x ∷ xs) e h = first_or p P x xs (p x) refl e h.0 (λ f. both_of p P xs f h.1)

few : (q : Quantity) (n : ℕ) → is_single q ≡ true → IsQuantity q n → n ≤ 1
few one n e h = omega (arith, h)
few at_most_one n e h = h
few any n e h = absurd cc

among_counts : (kinds : List (List ℕ)) (b : Box) (bs : List Box) → is_among kinds b.kind ≡ true → count_among kinds (b ∷ bs) ≡ 1 + count_among kinds bs
among_counts kinds b bs e = rw e refl

-- Where a box stands once more than it may, the container holds no boxes of the profile.
pub duplicate_refuses : (rule : Rule) (c : Container) (f : Fault) (bs : List Box) → IsDuplicate rule c f → Holds rule c bs → ⊥
duplicate_refuses rule c f bs d h =
    let l = both_of (λ (line : Line). is_single line.quantity && (is_among line.kinds d.b.kind && nat_lt 0 (count_among line.kinds d.before))) (λ (line : Line). IsQuantity line.quantity (count_among line.kinds bs)) (table rule) d.repeated h.quantities in
    let line = l.0 in
    let single = and_is_true (is_single line.quantity) _ l.1 in
    let speaks = and_is_true (is_among line.kinds d.b.kind) _ single.1 in
    let some : 0 < count_among line.kinds d.before = ltb-true _ _ speaks.1 in
    let m = stands_among c d.before bs d.b d.stands h.tiles in
    let most : count_among line.kinds bs ≤ 1 = few line.quantity (count_among line.kinds bs) single.0 l.2 in
    omega (arith, most, some, ap (count_among line.kinds) m.1, count-append line.kinds d.before (d.b ∷ m.0), among_counts line.kinds d.b m.0 speaks.0)

-- the line of the table that speaks of a type
abbrev pub line_of : Rule → List ℕ → Option Line
line_of rule kind = find (λ line. is_among line.kinds kind) (table rule ++ each any free_space)

found_choice : {A : Type 0} (P : A → Type 0) (p : A → Bool) (x y : A) (xs : List A) (v : Bool) → p x ≡ v → P x → find p (x ∷ xs) ≡ Some y
    → (find p xs ≡ Some y → P y × (p y ≡ true)) → P y × (p y ≡ true)
found_choice P p x y xs true e h f more = let s : ◌≡◌ {A = Option _} (Some x) (Some y) = rw e at f in let g : x ≡ y = cc in subst (λ z. P z × (p z ≡ true)) g (h, e)
found_choice P p x y xs false e h f more = more (rw e at f)

-- what is found passes the test, and has what all of the list have
pub found_has : {A : Type 0} (P : A → Type 0) (p : A → Bool) (xs : List A) (y : A) → AllByRecursion P xs → find p xs ≡ Some y → P y × (p y ≡ true)
found_has P p [] y h f = absurd cc
found_has P p (x ∷ xs) y h f = found_choice P p x y xs (p x) refl h.0 f (found_has P p xs y h.1)

-- the line has the boxes that it asks for
abbrev pub HasLine : List Box → Line → Type 0
HasLine bs line = IsQuantity line.quantity (count_among line.kinds bs)

free_quantities : (bs : List Box) (kinds : List (List ℕ)) → AllByRecursion (HasLine bs) (each any kinds)
free_quantities bs [] = tt
free_quantities bs (kind ∷ kinds) = (tt, free_quantities bs kinds)

-- the line that speaks of a type has the boxes that it asks for
pub line_has : {rule : Rule} {c : Container} {bs : List Box} → Holds rule c bs → (kind : List ℕ) (line : Line) → line_of rule kind ≡ Some line → HasLine bs line
line_has {rule} {c} {bs} h kind line e =
    (found_has (HasLine bs) (λ l. is_among l.kinds kind) (table rule ++ each any free_space) line
    (all_append (HasLine bs) (table rule) (each any free_space) h.quantities (free_quantities bs free_space)) e).0

-- a container holds one box of a type of which one must stand
pub holds_only : {rule : Rule} {c : Container} {bs : List Box} → Holds rule c bs → (kind : List ℕ) → line_of rule kind ≡ Some (record { kinds = kind ∷ []; quantity = one }) → count_among (kind ∷ []) bs ≡ 1
holds_only h kind e = line_has h kind (record { kinds = kind ∷ []; quantity = one }) e

-- a container holds at most one box of a type of which one may stand
pub holds_few : {rule : Rule} {c : Container} {bs : List Box} → Holds rule c bs → (kind : List ℕ) → line_of rule kind ≡ Some (record { kinds = kind ∷ []; quantity = at_most_one }) → count_among (kind ∷ []) bs ≤ 1
holds_few h kind e = line_has h kind (record { kinds = kind ∷ []; quantity = at_most_one }) e

must : (q : Quantity) (n : ℕ) → is_needed q ≡ true → IsQuantity q n → n ≡ 1
must one n e h = h
must at_most_one n e h = absurd cc
must any n e h = absurd cc

not_some : (n : ℕ) → not (ltb 0 n) ≡ true → n ≡ 0
not_some n e = omega (arith, ltb-false 0 n (not_is_true (ltb 0 n) e))

-- Where a box does not stand that must, the container holds no boxes of the profile.
pub missing_refuses : (rule : Rule) (c : Container) (f : Fault) (bs : List Box) → IsMissing rule c f → Holds rule c bs → ⊥
missing_refuses rule c f bs m h =
    let same : bs ≡ m.boxes = tiles_one c bs m.boxes h.tiles m.tiles in
    let l = both_of (λ (line : Line). is_needed line.quantity && not (nat_lt 0 (count_among line.kinds m.boxes))) (λ (line : Line). IsQuantity line.quantity (count_among line.kinds bs)) (table rule) m.lacking h.quantities in
    let line = l.0 in
    let needed = and_is_true (is_needed line.quantity) _ l.1 in
    let n : count_among line.kinds bs ≡ 1 = must line.quantity (count_among line.kinds bs) needed.0 l.2 in
    let none : count_among line.kinds m.boxes ≡ 0 = not_some _ needed.1 in
    omega (arith, n, none, ap (count_among line.kinds) same)

-- Where the children are at fault, the container holds no boxes of the profile.
pub child_fault_refuses : (rule : Rule) (c : Container) (f : Fault) (bs : List Box) → IsChildFault rule c f → Holds rule c bs → ⊥
child_fault_refuses rule c f bs (inl h) t = header_fault_refuses c f bs h t.tiles
child_fault_refuses rule c f bs (inr (inl n)) t = not_in_profile_refuses rule c f bs n t
child_fault_refuses rule c f bs (inr (inr (inl d))) t = duplicate_refuses rule c f bs d t
child_fault_refuses rule c f bs (inr (inr (inr m))) t = missing_refuses rule c f bs m t

-- Where a kind of fault is true of a leaf, the leaf is not sound.
pub unsound : (leaf : Leaf) (payload : List ℕ) (kind : Kind) → Fails leaf payload kind → IsSound leaf payload → ⊥
unsound leaf payload ShortBox f s = omega (arith, f, s.readable.room)
unsound leaf payload BadVersion f s = true_false (knows_version leaf payload) s.readable.version f.1
unsound leaf payload BadFlags f s = true_false (knows_flags leaf payload) s.readable.flags f.1
unsound leaf payload BadValue f s = true_false (has_bad_value leaf payload) f.1 s.value
unsound leaf payload OutsideData f s = true_false (is_outside_data leaf payload) f.1 s.inside
unsound leaf payload OffsetTooLarge f s = true_false (has_large_offset leaf payload) f.1 s.offsets
unsound leaf payload ShortHeader f s = f
unsound leaf payload BadSize f s = f
unsound leaf payload Overrun f s = f
unsound leaf payload BoxNotInProfile f s = f
unsound leaf payload DuplicateBox f s = f
unsound leaf payload MissingBox f s = f
unsound leaf payload CountMismatch f s = f
unsound leaf payload BadOrder f s = f
unsound leaf payload BadDescriptionIndex f s = f
unsound leaf payload SampleOutsideFile f s = f
unsound leaf payload UnknownTrack f s = f
unsound leaf payload Gap f s = f
unsound leaf payload ItemLocation f s = f
unsound leaf payload TooManySamples f s = f
unsound leaf payload TimeTooLarge f s = f
unsound leaf payload MovieTooLarge f s = f
unsound leaf payload FragmentBeforeMovie f s = f
