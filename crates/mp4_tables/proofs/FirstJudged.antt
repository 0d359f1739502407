-- What is so of the first table of some types where its tests pass, and where one is the first to fail.
use Rattle.std.proofs.Common.{◌≡◌, ℕ, ◌≤◌, false, List, [], ◌∷◌, Option, Some, None, inl, inr, refl, ap, subst, ◌∙◌, sym}
use Rattle.std.specs.Prelude.{◌⊎◌, codes}
use Rattle.mp4_boxes.specs.format.Box.{Box}
use Rattle.mp4_boxes.specs.format.Children.{is_among, count_among}
use Rattle.mp4_boxes.specs.format.Layout.{Leaf}
use Rattle.mp4_boxes.specs.format.Places.{leaf_of, ruled, IsSoundAs}
use Rattle.mp4_boxes.specs.format.BoxFaults.{fault_of}
use Rattle.mp4_boxes.specs.format.FirstFault.{Test, first_failed, naming, leaf_tests_with}
use Rattle.mp4_boxes.specs.declared.rule.Rule.TheVariants.{SampleTable}
use Rattle.mp4_boxes.specs.declared.fault.Fault.{Fault}
use Rattle.mp4_boxes.specs.declared.fault.Kind.{Kind}
use Rattle.mp4_tables.specs.format.TableRules.{IsReadableAs, AreReadable}
use Rattle.mp4_tables.specs.format.FirstFault.{first_box_tests, table_leaf_tests}
use Rattle.mp4_tables.specs.words.Leaves.{FailsAs, IsLeafFaultAmong}
use Rattle.mp4_tables.proofs.InOrder.{named_kind, named_pass}
use Rattle.mp4_tables.proofs.LeafJudged.{leaf_passes, leaf_fails}
use Rattle.mp4_tables.proofs.AmongTypes.{AllAmong, IsFirstAmong, first_among, FoundAs, found_as, none_among, first_is_each, another_type}

-- how a box of an `stbl` is sound, and how it can be read
abbrev pub SoundTable : Box → Type 0
SoundTable b = IsSoundAs (leaf_of (ruled SampleTable) b.kind) b.payload

abbrev pub ReadableTable : Box → Type 0
ReadableTable b = IsReadableAs (leaf_of (ruled SampleTable) b.kind) b.payload

-- what is sound as a leaf can be read as it
pub sound_as : (o : Option Leaf) (payload : List ℕ) → IsSoundAs o payload → IsReadableAs o payload
sound_as None payload h = tt
sound_as (Some leaf) payload h = h.readable

-- what is sound can be read
pub sound_readable : (kinds : List (List ℕ)) (boxes : List Box) → AllAmong kinds SoundTable boxes → AllAmong kinds ReadableTable boxes
sound_readable kinds [] h = tt
sound_readable kinds (b ∷ boxes) h = ((λ e. sound_as (leaf_of (ruled SampleTable) b.kind) b.payload (h.0 e)), sound_readable kinds boxes h.1)

-- ---- one box

-- a fault is true of the box as the leaf that it is read as
pub record OwnFails (b : Box) (f : Fault) : Type 0 where
  pub leaf : Leaf
  pub read : leaf_of (ruled SampleTable) b.kind ≡ Some leaf
  pub fails : FailsAs leaf b f

-- it can be read, and does not keep what it keeps with others
pub record KeptFails (rules : List (Test Kind)) (b : Box) (f : Fault) : Type 0 where
  pub readable : ReadableTable b
  pub kind : Kind
  pub fails : first_failed rules ≡ Some kind
  pub named : f ≡ fault_of kind b

module _ (rules : List (Test Kind)) (b : Box) where
  as_none : leaf_of (ruled SampleTable) b.kind ≡ None → table_leaf_tests rules b ≡ naming b rules
  as_none e = rw e refl

  as_leaf : (leaf : Leaf) → leaf_of (ruled SampleTable) b.kind ≡ Some leaf → table_leaf_tests rules b ≡ naming b (leaf_tests_with leaf rules b.payload)
  as_leaf leaf e = rw e refl

  -- where no test of the box fails, it is sound and keeps what it keeps with others
  pub box_passes : first_failed (table_leaf_tests rules b) ≡ None → SoundTable b × (first_failed rules ≡ None)
  box_passes e = by (leaf_of (ruled SampleTable) b.kind) refl
    where
      by : (o : Option Leaf) → leaf_of (ruled SampleTable) b.kind ≡ o → SoundTable b × (first_failed rules ≡ None)
      by None g = (rw g tt, named_pass b rules (sym (ap first_failed (as_none g)) ∙ e))
      by (Some leaf) g =
          let p = leaf_passes leaf rules b.payload (named_pass b (leaf_tests_with leaf rules b.payload) (sym (ap first_failed (as_leaf leaf g)) ∙ e)) in
          (subst (λ (o : Option Leaf). IsSoundAs o b.payload) (sym g) p.0, p.1)

  -- where one is the first to fail, one of both is not so
  pub box_fails : (f : Fault) → first_failed (table_leaf_tests rules b) ≡ Some f → OwnFails b f ⊎ KeptFails rules b f
  box_fails f e = by (leaf_of (ruled SampleTable) b.kind) refl
    where
      by : (o : Option Leaf) → leaf_of (ruled SampleTable) b.kind ≡ o → OwnFails b f ⊎ KeptFails rules b f
      by None g =
          let n = named_kind b rules f (sym (ap first_failed (as_none g)) ∙ e) in
          inr (record { readable = rw g tt; kind = n.0; fails = n.1; named = n.2 })
      by (Some leaf) g =
          let n = named_kind b (leaf_tests_with leaf rules b.payload) f (sym (ap first_failed (as_leaf leaf g)) ∙ e) in
          elim (leaf_fails leaf rules b.payload n.0 n.1) [
            | inl own ↦ inl (record { leaf = leaf; read = g; fails = record { kind = n.0; fails = own; named = n.2 } })
            | inr r ↦ inr (record { readable = subst (λ (o : Option Leaf). IsReadableAs o b.payload) (sym g) r.0; kind = n.0; fails = r.1; named = n.2 })
          ]

-- ---- the first of some types

-- what the rules say of the first, if there is one
abbrev pub KeptBy : (Box → List (Test Kind)) → Option Box → Type 0
KeptBy rules None = Unit {0}
KeptBy rules (Some b) = first_failed (rules b) ≡ None

-- the first of these types can be read, as can all of them, and does not keep what it keeps with others
pub record FirstFails (kinds : List (List ℕ)) (rules : Box → List (Test Kind)) (boxes : List Box) (f : Fault) : Type 0 where
  pub b : Box
  pub first : IsFirstAmong kinds boxes b
  pub readable : AreReadable kinds boxes
  pub kind : Kind
  pub fails : first_failed (rules b) ≡ Some kind
  pub named : f ≡ fault_of kind b

module _ (kinds : List (List ℕ)) (rules : Box → List (Test Kind)) (boxes : List Box) (one : count_among kinds boxes ≤ 1) where
  abbrev tests : List (Test Fault)
  tests = first_box_tests kinds boxes (λ (b : Box). table_leaf_tests (rules b) b)

  none_tested : first_among kinds boxes ≡ None → first_failed tests ≡ None
  none_tested e = rw e refl

  tested : (b : Box) → first_among kinds boxes ≡ Some b → tests ≡ table_leaf_tests (rules b) b
  tested b e = rw e refl

  -- where no test fails, each box of these types is sound, and the first keeps what it keeps with others
  pub first_passes : first_failed tests ≡ None → AllAmong kinds SoundTable boxes × KeptBy rules (first_among kinds boxes)
  first_passes e = by (first_among kinds boxes) refl (found_as kinds boxes)
    where
      by : (o : Option Box) → first_among kinds boxes ≡ o → FoundAs kinds boxes o → AllAmong kinds SoundTable boxes × KeptBy rules (first_among kinds boxes)
      by None g h = (none_among kinds SoundTable boxes h, subst (KeptBy rules) (sym g) tt)
      by (Some b) g h =
          let p = box_passes (rules b) b (sym (ap first_failed (tested b g)) ∙ e) in
          (first_is_each kinds SoundTable boxes b h one p.0, subst (KeptBy rules) (sym g) p.1)

  -- where one is the first to fail, a leaf is at fault, or the first does not keep that
  pub first_fails : (f : Fault) → is_among kinds (codes "stsd") ≡ false → first_failed tests ≡ Some f → IsLeafFaultAmong boxes f ⊎ FirstFails kinds rules boxes f
  first_fails f other e = by (first_among kinds boxes) refl (found_as kinds boxes)
    where
      by : (o : Option Box) → first_among kinds boxes ≡ o → FoundAs kinds boxes o → IsLeafFaultAmong boxes f ⊎ FirstFails kinds rules boxes f
      by None g h = let n = none_tested g in absurd cc
      by (Some b) g h = elim (box_fails (rules b) b f (sym (ap first_failed (tested b g)) ∙ e)) [
        | inl own ↦ inl (record { before = h.before; b = b; after = h.after; stands = h.is; table = another_type kinds b.kind (codes "stsd") h.among other; leaf = own.leaf; read = own.read; fails = own.fails })
        | inr kept ↦ inr (record { b = b; first = h; readable = first_is_each kinds ReadableTable boxes b h one kept.readable; kind = kept.kind; fails = kept.fails; named = kept.named })
      ]
