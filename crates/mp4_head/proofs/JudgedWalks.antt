-- A walk that names the first fault of boxes: where it names none, each box passes; where it names one, a box is at fault, and those before it pass.
use Rattle.std.proofs.Common.{◌≡◌, ℕ, suc, Bool, true, false, List, [], ◌∷◌, ◌++◌, Option, Some, None, Result, Ok, Err, inl, inr, refl, sym, ap, ◌∙◌, append_assoc}
use Rattle.std.specs.Prelude.{◌⊎◌, bytes_eq}
use Rattle.std.proofs.lemmas.List.{append-nil}
use Rattle.mp4_boxes.specs.format.Box.{Box}
use Rattle.mp4_boxes.specs.format.Children.{count_among}
use Rattle.mp4_boxes.specs.format.FirstFault.{Test, first_failed, naming, leaf_fault}
use Rattle.mp4_boxes.specs.format.Layout.{Leaf}
use Rattle.mp4_boxes.specs.format.Places.{Place, leaf_of, inside}
use Rattle.mp4_boxes.specs.declared.fault.Fault.{Fault}
use Rattle.mp4_boxes.specs.declared.fault.Kind.{Kind}
use Rattle.mp4_boxes.proofs.Plain.{head_is, tail_is}
use Rattle.mp4_head.specs.format.FirstFault.{held, boxes_there, place_tests, head_leaf_tests, or_else, each_fault, ids_behind, if_container, in_list, fault_within}
use Rattle.mp4_head.specs.format.HeadFaults.{is_table}
use Rattle.mp4_head.specs.format.Tree.{first_of}
use Rattle.mp4_head.proofs.FaultWalks.{fault_at}
use Rattle.mp4_head.proofs.Inside.{first_is}

-- ---- one and then another

-- where no fault of two is named, none is of either
pub neither_fails : (first next : Option Fault) → or_else first (λ u. next) ≡ None → (first ≡ None) × (next ≡ None)
neither_fails None next e = (refl, e)
neither_fails (Some f) next e = absurd cc

-- where one is, it is that of the first, or of the second behind a first that passes
pub either_fails : (first next : Option Fault) (f : Fault) → or_else first (λ u. next) ≡ Some f → (first ≡ Some f) ⊎ ((first ≡ None) × (next ≡ Some f))
either_fails None next f e = inr (refl, e)
either_fails (Some g) next f e = inl e

-- the first fault of tests and then of others
pub tests_append : (b : Box) (tests more : List (Test Kind)) → first_failed (naming b (tests ++ more)) ≡ or_else (first_failed (naming b tests)) (λ u. first_failed (naming b more))
tests_append b [] more = refl
tests_append b (t ∷ tests) more = by t.0 refl (tests_append b tests more)
  where
    by : (v : Bool) → t.0 ≡ v → first_failed (naming b (tests ++ more)) ≡ or_else (first_failed (naming b tests)) (λ u. first_failed (naming b more))
        → first_failed (naming b ((t ∷ tests) ++ more)) ≡ or_else (first_failed (naming b (t ∷ tests))) (λ u. first_failed (naming b more))
    by true e h = rw e h
    by false e h = rw e refl

-- ---- the boxes of a list

-- no box is among none
nothing_there : (before after : List Box) (b : Box) → ◌≡◌ {A = List Box} [] (before ++ b ∷ after) → ⊥
nothing_there [] after b e = cc
nothing_there (c ∷ before) after b e = cc

-- Where no box is at fault, each passes behind those before it.
pub each_passes : (judged : List Box → Box → Option Fault) (passed left : List Box) → each_fault judged passed left ≡ None → (before after : List Box) (b : Box) → left ≡ before ++ b ∷ after → judged (passed ++ before) b ≡ None
each_passes judged passed [] e before after b is = absurd (nothing_there before after b is)
each_passes judged passed (c ∷ left) e [] after b is =
    let parts = neither_fails (judged passed c) (each_fault judged (passed ++ c ∷ []) left) e in
    let same : c ≡ b = head_is c b left after is in
    (λ i. judged (append-nil passed i) (sym same i)) ∙ parts.0
each_passes judged passed (c ∷ left) e (d ∷ before) after b is =
    let parts = neither_fails (judged passed c) (each_fault judged (passed ++ c ∷ []) left) e in
    let first : c ≡ d = head_is c d left (before ++ b ∷ after) is in
    let more : judged ((passed ++ c ∷ []) ++ before) b ≡ None = each_passes judged (passed ++ c ∷ []) left parts.1 before after b (tail_is c d left (before ++ b ∷ after) is) in
    ap (λ (bs : List Box). judged bs b) (ap (λ (x : Box). passed ++ x ∷ before) (sym first) ∙ sym (append_assoc passed (c ∷ []) before)) ∙ more

-- Of boxes one is at fault, and those before it pass.
pub record FirstFails (judged : List Box → Box → Option Fault) (passed left : List Box) (f : Fault) : Type 0 where
  pub before : List Box
  pub after : List Box
  pub b : Box
  pub is : left ≡ before ++ b ∷ after
  pub fault : judged (passed ++ before) b ≡ Some f
  pub none : each_fault judged passed before ≡ None

-- Where a fault is named, one box is the first at fault.
pub one_fails : (judged : List Box → Box → Option Fault) (passed left : List Box) (f : Fault) → each_fault judged passed left ≡ Some f → FirstFails judged passed left f
one_fails judged passed [] f e = absurd cc
one_fails judged passed (c ∷ left) f e = elim (either_fails (judged passed c) (each_fault judged (passed ++ c ∷ []) left) f e) [
  | inl now ↦ record { before = []; after = left; b = c; is = refl; fault = ap (λ (bs : List Box). judged bs c) (append-nil passed) ∙ now; none = refl }
  | inr later ↦
      let r = one_fails judged (passed ++ c ∷ []) left f later.1 in
      record {
        before = c ∷ r.before;
        after = r.after;
        b = r.b;
        is = ap (λ (bs : List Box). c ∷ bs) r.is;
        fault = ap (λ (bs : List Box). judged bs r.b) (sym (append_assoc passed (c ∷ []) r.before)) ∙ r.fault;
        none = rw later.0 r.none;
      }
]

-- ---- a container

-- The list of a container holds these boxes, and each of them passes.
pub record Passes (n : ℕ) (ids : List ℕ) (place : Place) (boxes : List Box) : Type 0 where
  pub listed : held place ≡ Ok boxes
  pub each : (before after : List Box) (b : Box) → boxes ≡ before ++ b ∷ after → fault_at n ids place before b ≡ None

-- where no fault of a container is named
pub passes : (n : ℕ) (ids : List ℕ) (place : Place) → fault_within (suc n) ids place ≡ None → Passes n ids place (boxes_there (held place))
passes n ids place e = by (held place) refl e
  where
    by : (r : Result (List Box) Fault) → held place ≡ r → in_list r (fault_at n ids place) ≡ None → Passes n ids place (boxes_there r)
    by (Err f) h e = absurd cc
    by (Ok boxes) h e = record { listed = h; each = each_passes (fault_at n ids place) [] boxes e }

-- The list of a container holds these boxes, and one of them is at fault.
pub record Fails (n : ℕ) (ids : List ℕ) (place : Place) (f : Fault) : Type 0 where
  pub boxes : List Box
  pub listed : held place ≡ Ok boxes
  pub first : FirstFails (fault_at n ids place) [] boxes f

-- Where a container is at fault, its list is, or a box in it.
pub fails : (n : ℕ) (ids : List ℕ) (place : Place) (f : Fault) → fault_within (suc n) ids place ≡ Some f → (held place ≡ Err f) ⊎ Fails n ids place f
fails n ids place f e = by (held place) refl e
  where
    by : (r : Result (List Box) Fault) → held place ≡ r → in_list r (fault_at n ids place) ≡ Some f → (held place ≡ Err f) ⊎ Fails n ids place f
    by (Err g) h e = let same : g ≡ f = cc in inl (h ∙ ap (λ (x : Fault). Err x) same)
    by (Ok boxes) h e = inr (record { boxes = boxes; listed = h; first = one_fails (fault_at n ids place) [] boxes f e })

-- ---- a box

-- A box passes as a leaf, where it stands, and in what is in it.
pub record BoxPasses (n : ℕ) (ids : List ℕ) (place : Place) (before : List Box) (b : Box) : Type 0 where
  pub as_leaf : first_failed (naming b (head_leaf_tests (leaf_of place.scope b.kind) b)) ≡ None
  pub standing : first_failed (naming b (place_tests place.scope ids before b)) ≡ None
  pub within : if_container (inside place b) (fault_within n (ids_behind place.scope ids before)) ≡ None

-- where no fault of a box is named
pub box_passes : (n : ℕ) (ids : List ℕ) (place : Place) (before : List Box) (b : Box) → fault_at n ids place before b ≡ None → BoxPasses n ids place before b
box_passes n ids place before b e =
    let leaf = head_leaf_tests (leaf_of place.scope b.kind) b in
    let stand = place_tests place.scope ids before b in
    let own = neither_fails (first_failed (naming b (leaf ++ stand))) (if_container (inside place b) (fault_within n (ids_behind place.scope ids before))) e in
    let parts = neither_fails (first_failed (naming b leaf)) (first_failed (naming b stand)) (sym (tests_append b leaf stand) ∙ own.0) in
    record { as_leaf = parts.0; standing = parts.1; within = own.1 }

-- A box is at fault as a leaf, where it stands though it passes as a leaf, or in what is in it.
abbrev pub BoxFails : ℕ → List ℕ → Place → List Box → Box → Fault → Type 0
BoxFails n ids place before b f =
    (first_failed (naming b (head_leaf_tests (leaf_of place.scope b.kind) b)) ≡ Some f)
    ⊎ (((first_failed (naming b (head_leaf_tests (leaf_of place.scope b.kind) b)) ≡ None) × (first_failed (naming b (place_tests place.scope ids before b)) ≡ Some f))
    ⊎ (if_container (inside place b) (fault_within n (ids_behind place.scope ids before)) ≡ Some f))

-- where one is
pub box_fails : (n : ℕ) (ids : List ℕ) (place : Place) (before : List Box) (b : Box) (f : Fault) → fault_at n ids place before b ≡ Some f → BoxFails n ids place before b f
box_fails n ids place before b f e =
    let leaf = head_leaf_tests (leaf_of place.scope b.kind) b in
    let stand = place_tests place.scope ids before b in
    elim (either_fails (first_failed (naming b (leaf ++ stand))) (if_container (inside place b) (fault_within n (ids_behind place.scope ids before))) f e) [
      | inl own ↦ elim (either_fails (first_failed (naming b leaf)) (first_failed (naming b stand)) f (sym (tests_append b leaf stand) ∙ own)) [
        | inl x ↦ inl x
        | inr y ↦ inr (inl y)
      ]
      | inr deep ↦ inr (inr deep.1)
    ]

-- what is in a box that passes, passes
pub passes_inside : (o : Option Place) (next : Place) (deeper : Place → Option Fault) → o ≡ Some next → if_container o deeper ≡ None → deeper next ≡ None
passes_inside None next deeper i e = absurd cc
passes_inside (Some place) next deeper i e = let same : place ≡ next = cc in sym (ap deeper same) ∙ e

-- what is in a box is at fault
pub fails_inside : (o : Option Place) (deeper : Place → Option Fault) (f : Fault) → if_container o deeper ≡ Some f → (next : Place) × (o ≡ Some next) × (deeper next ≡ Some f)
fails_inside None deeper f e = absurd cc
fails_inside (Some place) deeper f e = (place, refl, e)

-- a box that passes as a leaf that is no table passes the tests of that leaf
pub passes_leaf : (o : Option Leaf) (leaf : Leaf) (b : Box) → o ≡ Some leaf → is_table leaf ≡ false → first_failed (naming b (head_leaf_tests o b)) ≡ None → leaf_fault leaf b ≡ None
passes_leaf o leaf b e t h = rw (e, t) at h

-- a leaf that fails is no table, and fails its tests
pub record LeafFails (o : Option Leaf) (b : Box) (f : Fault) : Type 0 where
  pub leaf : Leaf
  pub is : o ≡ Some leaf
  pub no_table : is_table leaf ≡ false
  pub fault : leaf_fault leaf b ≡ Some f

-- where a fault of a box as a leaf is named
pub fails_leaf : (o : Option Leaf) (b : Box) (f : Fault) → first_failed (naming b (head_leaf_tests o b)) ≡ Some f → LeafFails o b f
fails_leaf None b f e = absurd cc
fails_leaf (Some leaf) b f e = by (is_table leaf) refl
  where
    by : (v : Bool) → is_table leaf ≡ v → LeafFails (Some leaf) b f
    by true t = let none : ◌≡◌ {A = Option Fault} None (Some f) = rw t at e in absurd cc
    by false t = record { leaf = leaf; is = refl; no_table = t; fault = rw t at e }

-- ---- the one box of a type

-- what is judged of the one box of a type
pub first_passes : (n : ℕ) (ids : List ℕ) (place : Place) (boxes : List Box) → Passes n ids place boxes → (kind : List ℕ) → count_among (kind ∷ []) boxes ≡ 1
    → (o : Box → Option Fault) → ((before : List Box) (b : Box) → bytes_eq kind b.kind ≡ true → fault_at n ids place before b ≡ o b) → o (first_of kind boxes) ≡ None
first_passes n ids place boxes p kind one o same =
    let i = first_is kind boxes one in
    let b = first_of kind boxes in
    sym (same i.0.before b i.1) ∙ p.each i.0.before i.0.after b i.0.is
