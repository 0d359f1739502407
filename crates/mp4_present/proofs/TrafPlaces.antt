-- Where a fault stands that a `moof`, or a `traf` of one, has in its boxes and leaves.
use Rattle.std.proofs.Common.{◌≡◌, true, false, Bool, cond, List, [], ◌∷◌, ◌++◌, Some, inl, inr, refl, sym, ap, subst, ◌∙◌}
use Rattle.std.specs.Prelude.{ℕ, codes, bytes_eq, option_map}
use Rattle.std.specs.List.{AllByRecursion}
use Rattle.std.proofs.lemmas.Slice.Eq.{bytes_eq-Decides}
use Rattle.mp4_boxes.specs.format.Box.{Box, box_container, file_container, StandsAfter}
use Rattle.mp4_boxes.specs.format.BoxFaults.{IsChildFault}
use Rattle.mp4_boxes.specs.format.Children.{of_kind}
use Rattle.mp4_boxes.specs.format.Layout.{Leaf, IsSound}
use Rattle.mp4_boxes.specs.format.Places.{ruled, Place, whole, at_kind, containers, as_container, inside, leaf_of, IsSoundAs, AreSound, Reaches}
use Rattle.mp4_boxes.specs.declared.rule.Rule.{Rule}
use Rattle.mp4_boxes.specs.declared.rule.Rule.TheVariants as rules
use Rattle.mp4_boxes.specs.declared.fault.Fault.{Fault}
use Rattle.mp4_boxes.proofs.Plain.{tail_is}
use Rattle.mp4_present.specs.format.Stands.{Stands, header, child, missing}

-- ---- places

-- a box that holds boxes under a rule
abbrev pub place_of : Rule → Box → Place
place_of rule b = record { scope = ruled rule; container = box_container b }

moof_inside : (file : List ℕ) (moof : Box) → moof.kind ≡ codes "moof" → inside (whole file) moof ≡ Some (place_of rules.MovieFragment moof)
moof_inside file moof e = ap (λ kind. option_map (λ scope. record { scope = scope; container = as_container scope moof }) (at_kind (containers (ruled rules.File)) kind)) e

-- the `moof` is in the file
pub moof_reached : (file : List ℕ) (before : List Box) (moof : Box) → StandsAfter (file_container file) before moof → moof.kind ≡ codes "moof" → Reaches (whole file) (place_of rules.MovieFragment moof)
moof_reached file before moof s e = (moof ∷ [], (before, s, place_of rules.MovieFragment moof, moof_inside file moof e, refl))

-- what a box of a type among others is, and where it stands
pub record IsKept (kind : List ℕ) (boxes : List Box) (b : Box) : Type 0 where
  pub before : List Box
  pub after : List Box
  pub are : boxes ≡ before ++ b ∷ after
  pub of_it : bytes_eq kind b.kind ≡ true

first_is : (x y : Box) (xs ys : List Box) → ◌≡◌ {A = List Box} (x ∷ xs) (y ∷ ys) → x ≡ y
first_is x y xs ys e = cc

kept_behind : (kind : List ℕ) (c : Box) (boxes : List Box) (b : Box) → IsKept kind boxes b → IsKept kind (c ∷ boxes) b
kept_behind kind c boxes b k = record { before = c ∷ k.before; after = k.after; are = ap (λ bs. c ∷ bs) k.are; of_it = k.of_it }

pub kept : (kind : List ℕ) (boxes front : List Box) (b : Box) (after : List Box) → of_kind kind boxes ≡ front ++ b ∷ after → IsKept kind boxes b
kept kind [] [] b after e = absurd cc
kept kind [] (d ∷ front) b after e = absurd cc
kept kind (c ∷ boxes) front b after e = choice (bytes_eq kind c.kind) refl front e (λ rest h. kept kind boxes rest b after h)
  where
    choice : (v : Bool) → bytes_eq kind c.kind ≡ v → (front : List Box) → cond v (c ∷ of_kind kind boxes) (of_kind kind boxes) ≡ front ++ b ∷ after → ((rest : List Box) → of_kind kind boxes ≡ rest ++ b ∷ after → IsKept kind boxes b)
        → IsKept kind (c ∷ boxes) b
    choice true h [] e more =
        let same = first_is c b (of_kind kind boxes) after e in
        record { before = []; after = boxes; are = ap (λ x. x ∷ boxes) same; of_it = ap (λ (x : Box). bytes_eq kind x.kind) (sym same) ∙ h }
    choice true h (d ∷ front) e more = kept_behind kind c boxes b (more front (tail_is c d (of_kind kind boxes) (front ++ b ∷ after) e))
    choice false h front e more = kept_behind kind c boxes b (more front e)

-- ---- faults

-- a fault of the children
pub child_stands : (file : List ℕ) (rule : Rule) (b : Box) (f : Fault) → Reaches (whole file) (place_of rule b) → IsChildFault rule (box_container b) f → Stands file f
child_stands file rule b f r (inl h) = (header, record { place = place_of rule b; reaches = r; fault = h })
child_stands file rule b f r (inr (inl h)) = (child, record { place = place_of rule b; reaches = r; rule = rule; under = refl; fault = inl h })
child_stands file rule b f r (inr (inr (inl h))) = (child, record { place = place_of rule b; reaches = r; rule = rule; under = refl; fault = inr h })
child_stands file rule b f r (inr (inr (inr h))) = (missing, record { place = place_of rule b; reaches = r; rule = rule; under = refl; fault = h })

-- a box of this type is read as this leaf
read_as : (kind : List ℕ) (leaf : Leaf) (b : Box) → leaf_of (ruled rules.TrackFragment) kind ≡ Some leaf → bytes_eq kind b.kind ≡ true → leaf_of (ruled rules.TrackFragment) b.kind ≡ Some leaf
read_as kind leaf b e k = ap (leaf_of (ruled rules.TrackFragment)) (sym ((bytes_eq-Decides kind b.kind).0 k)) ∙ e

-- ---- leaves that can be read

sound_choice : (type : List ℕ) (leaf : Leaf) (c : Box) (boxes : List Box) (v : Bool) → bytes_eq type c.kind ≡ v → leaf_of (ruled rules.TrackFragment) type ≡ Some leaf
    → AllByRecursion (λ (b : Box). IsSound leaf b.payload) (cond v (c ∷ of_kind type boxes) (of_kind type boxes))
    → (AllByRecursion (λ (b : Box). IsSound leaf b.payload) (of_kind type boxes) → AreSound (ruled rules.TrackFragment) (of_kind type boxes)) → AreSound (ruled rules.TrackFragment) (cond v (c ∷ of_kind type boxes) (of_kind type boxes))
sound_choice type leaf c boxes true h e s more = (subst (λ o. IsSoundAs o c.payload) (sym (read_as type leaf c e h)) s.0, more s.1)
sound_choice type leaf c boxes false h e s more = more s

-- the leaves of a type are sound as such leaves
pub sound_of : (type : List ℕ) (leaf : Leaf) (boxes : List Box) → leaf_of (ruled rules.TrackFragment) type ≡ Some leaf → AllByRecursion (λ (b : Box). IsSound leaf b.payload) (of_kind type boxes) → AreSound (ruled rules.TrackFragment) (of_kind type boxes)
sound_of type leaf [] e s = tt
sound_of type leaf (c ∷ boxes) e s = sound_choice type leaf c boxes (bytes_eq type c.kind) refl e s (sound_of type leaf boxes e)
