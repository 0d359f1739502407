-- Kept boxes, and boxes that need not stand there, as a walk over the boxes of a container finds them.
use Rattle.std.proofs.Common.{◌≡◌, ℕ, ◌+◌, ◌<◌, Bool, true, false, List, [], ◌∷◌, ◌++◌, Option, Some, None, map, refl, sym, ap, subst, ◌∙◌, arith}
use Rattle.std.specs.Prelude.{bytes_eq, filter}
use Rattle.std.proofs.lemmas.List.{map-append, append-nil}
use Rattle.std.proofs.lemmas.List.Elements.{filter-append}
use Rattle.mp4_boxes.specs.format.Box.{Box, box_container}
use Rattle.mp4_boxes.specs.format.Children.{is_among, of_kind, count_among, Holds}
use Rattle.mp4_boxes.specs.declared.rule.Rule.{Rule}
use Rattle.mp4_boxes.proofs.Among.{all_append, none_counted}
use Rattle.mp4_boxes.proofs.Sound.{same_kind}
use Rattle.mp4_boxes.proofs.Plain.{true_false}
use Rattle.mp4_head.specs.format.Head.{Kept, names_item_location}
use Rattle.mp4_head.specs.format.Tree.{kept_among, NameNoItems, HoldsIfThere, first_of}
use Rattle.mp4_head.specs.words.Containers.{kept_of}
use Rattle.mp4_head.proofs.Walks.{FirstRead, not_yet, was_read, first_other, first_this}

-- ---- kept boxes

-- one more that is kept
pub kept_this : (kinds : List (List ℕ)) (passed : List Box) (b : Box) → is_among kinds b.kind ≡ true → kept_among kinds (passed ++ b ∷ []) ≡ kept_among kinds passed ++ kept_of b ∷ []
kept_this kinds passed b k =
    let one : filter (λ (c : Box). is_among kinds c.kind) (b ∷ []) ≡ b ∷ [] = rw k refl in
    ap (map kept_of) (filter-append (λ (c : Box). is_among kinds c.kind) passed (b ∷ []) ∙ ap (λ (bs : List Box). filter (λ (c : Box). is_among kinds c.kind) passed ++ bs) one)
    ∙ map-append kept_of (filter (λ (c : Box). is_among kinds c.kind) passed) (b ∷ [])

-- one that is not
pub kept_other : (kinds : List (List ℕ)) (passed : List Box) (b : Box) → is_among kinds b.kind ≡ false → kept_among kinds (passed ++ b ∷ []) ≡ kept_among kinds passed
kept_other kinds passed b k =
    let none : filter (λ (c : Box). is_among kinds c.kind) (b ∷ []) ≡ [] = rw k refl in
    ap (map kept_of) (filter-append (λ (c : Box). is_among kinds c.kind) passed (b ∷ []) ∙ ap (λ (bs : List Box). filter (λ (c : Box). is_among kinds c.kind) passed ++ bs) none ∙ append-nil (filter (λ (c : Box). is_among kinds c.kind) passed))

-- what was kept, and names no file offsets of items
pub record KeptPassed (kinds : List (List ℕ)) (passed : List Box) (kept : List Kept) : Type 0 where
  pub says : kept ≡ kept_among kinds passed
  pub unplaced : NameNoItems kept

pub keeps_none : (kinds : List (List ℕ)) → KeptPassed kinds [] []
keeps_none kinds = record { says = refl; unplaced = tt }

pub keeps_this : (kinds : List (List ℕ)) (passed : List Box) (b : Box) (kept more : List Kept) → KeptPassed kinds passed kept → is_among kinds b.kind ≡ true → names_item_location b.payload ≡ false → more ≡ kept ++ kept_of b ∷ []
    → KeptPassed kinds (passed ++ b ∷ []) more
keeps_this kinds passed b kept more p k n added = record {
  says = added ∙ ap (λ (ks : List Kept). ks ++ kept_of b ∷ []) p.says ∙ sym (kept_this kinds passed b k);
  unplaced = subst NameNoItems (sym added) (all_append (λ (x : Kept). names_item_location x.payload ≡ false) kept (kept_of b ∷ []) p.unplaced (n, tt));
}

pub keeps_other : (kinds : List (List ℕ)) (passed : List Box) (b : Box) (kept : List Kept) → KeptPassed kinds passed kept → is_among kinds b.kind ≡ false → KeptPassed kinds (passed ++ b ∷ []) kept
keeps_other kinds passed b kept p k = record { says = p.says ∙ sym (kept_other kinds passed b k); unplaced = p.unplaced }

-- at the end they are those of all boxes
pub keeps_all : (kinds : List (List ℕ)) (all passed : List Box) (kept : List Kept) → all ≡ passed → KeptPassed kinds passed kept → (kept ≡ kept_among kinds all) × NameNoItems (kept_among kinds all)
keeps_all kinds all passed kept e p =
    let says : kept ≡ kept_among kinds all = p.says ∙ ap (kept_among kinds) (sym e) in
    (says, subst NameNoItems says p.unplaced)

-- a type is not one of some among which it is not
pub another : (kinds : List (List ℕ)) (kind other : List ℕ) (v : Bool) → bytes_eq other kind ≡ v → is_among kinds kind ≡ true → is_among kinds other ≡ false → bytes_eq other kind ≡ false
another kinds kind other true e k n = absurd (true_false (is_among kinds kind) k (ap (is_among kinds) (same_kind other kind e) ∙ n))
another kinds kind other false e k n = e

-- ---- a box that need not stand there

-- what was read of it once it was passed, and this value before
pub data ReadIf {X : Type 0} (P : Box → X → Type 0) (kind : List ℕ) (none : X) (passed : List Box) (x : X) : Type 0 where
  not_there : count_among (kind ∷ []) passed ≡ 0 → x ≡ none → ReadIf P kind none passed x
  was_there : FirstRead P kind passed (Some x) → ReadIf P kind none passed x

if_not_yet : {X : Type 0} (P : Box → X → Type 0) (kind : List ℕ) (passed : List Box) (b : Box) → bytes_eq kind b.kind ≡ false → FirstRead P kind (passed ++ b ∷ []) None → count_among (kind ∷ []) (passed ++ b ∷ []) ≡ 0
if_not_yet P kind passed b k (not_yet n) = n

-- a box of another type changes nothing
pub if_other : {X : Type 0} (P : Box → X → Type 0) (kind : List ℕ) (none : X) (passed : List Box) (b : Box) (x : X) → bytes_eq kind b.kind ≡ false → ReadIf P kind none passed x → ReadIf P kind none (passed ++ b ∷ []) x
if_other P kind none passed b x k (not_there n e) = not_there (if_not_yet P kind passed b k (first_other P kind passed b None k (not_yet n))) e
if_other P kind none passed b x k (was_there r) = was_there (first_other P kind passed b (Some x) k r)

-- one of the type was read
pub if_this : {X : Type 0} (P : Box → X → Type 0) (kind : List ℕ) (none : X) (passed : List Box) (b : Box) (x : X) → bytes_eq kind b.kind ≡ true → count_among (kind ∷ []) passed ≡ 0 → P b x → ReadIf P kind none (passed ++ b ∷ []) x
if_this P kind none passed b x k n p = was_there (first_this P kind passed b x k n p)

-- nothing was read of a type that was not passed
pub still_none : {X : Type 0} (P : Box → X → Type 0) (kind : List ℕ) (passed : List Box) (o : Option X) → count_among (kind ∷ []) passed ≡ 0 → FirstRead P kind passed o → o ≡ None
still_none P kind passed None n r = refl
still_none P kind passed (Some x) n (was_read s p) = absurd (omega (arith, n, s))

some_behind : (kind : List ℕ) (b : Box) (bs : List Box) → bytes_eq kind b.kind ≡ false → (more : List Box) × (of_kind kind bs ≡ first_of kind bs ∷ more) → (more : List Box) × (of_kind kind (b ∷ bs) ≡ first_of kind (b ∷ bs) ∷ more)
some_behind kind b bs e (more, r) = (more, rw e r)

-- the step of `first_of_some`, by the type of the first
some_step : (kind : List ℕ) (b : Box) (bs : List Box) (v : Bool) → bytes_eq kind b.kind ≡ v → 0 < count_among (kind ∷ []) (b ∷ bs)
    → (0 < count_among (kind ∷ []) bs → (more : List Box) × (of_kind kind bs ≡ first_of kind bs ∷ more)) → (more : List Box) × (of_kind kind (b ∷ bs) ≡ first_of kind (b ∷ bs) ∷ more)
some_step kind b bs true e s more = (of_kind kind bs, rw e refl)
some_step kind b bs false e s more =
    let fewer : 0 < 0 + count_among (kind ∷ []) bs = rw e at s in
    some_behind kind b bs e (more (omega (arith, fewer)))

-- where one of a type stands, the first is the first of all of that type
first_of_some : (kind : List ℕ) (bs : List Box) → 0 < count_among (kind ∷ []) bs → (more : List Box) × (of_kind kind bs ≡ first_of kind bs ∷ more)
first_of_some kind [] s = absurd (omega (arith, s))
first_of_some kind (b ∷ bs) s = some_step kind b bs (bytes_eq kind b.kind) refl s (λ t. first_of_some kind bs t)

-- what the first of a type holds, where one stands
pub holds_there : (rule : Rule) (kind : List ℕ) (bs boxes : List Box) → 0 < count_among (kind ∷ []) bs → Holds rule (box_container (first_of kind bs)) boxes → HoldsIfThere rule (of_kind kind bs) boxes
holds_there rule kind bs boxes s h =
    let r = first_of_some kind bs s in
    subst (λ (found : List Box). HoldsIfThere rule found boxes) (sym r.1) h

-- and where none does
pub holds_none : (rule : Rule) (kind : List ℕ) (bs : List Box) → count_among (kind ∷ []) bs ≡ 0 → HoldsIfThere rule (of_kind kind bs) []
holds_none rule kind bs n = subst (λ (found : List Box). HoldsIfThere rule found []) (sym (none_counted kind bs n)) refl
