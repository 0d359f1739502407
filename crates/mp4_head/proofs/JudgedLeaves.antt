-- The tests of a leaf: where none fails the leaf is sound, and where one fails the leaf is at fault for that.
use Rattle.std.proofs.Common.{◌≡◌, Bool, true, false, cond, length, Option, Some, None, inl, inr, refl, arith}
use Rattle.std.specs.Prelude.{◌⊎◌, not, nat_le}
use Rattle.std.proofs.lemmas.Bool.{leb-true, leb-false}
use Rattle.mp4_boxes.specs.format.Box.{Box}
use Rattle.mp4_boxes.specs.format.BoxFaults.{fault_of}
use Rattle.mp4_boxes.specs.format.FirstFault.{leaf_fault}
use Rattle.mp4_boxes.specs.format.Layout.{Leaf, version, needed, knows_version, knows_flags, has_bad_value, is_outside_data, has_large_offset, IsReadable, IsSound}
use Rattle.mp4_boxes.specs.declared.fault.Fault.{Fault}
use Rattle.mp4_boxes.specs.declared.fault.Kind.TheVariants.{ShortBox, BadVersion, BadFlags, BadValue, OutsideData, OffsetTooLarge}
use Rattle.mp4_boxes.proofs.Plain.{not_is_false, not_is_true}
use Rattle.mp4_head.specs.words.Leaves.{IsFaultOf}
use Rattle.mp4_tables.proofs.LeafJudged.{four_needed}

-- where a test's fault is not named, it passes, and the rest
passed : (v : Bool) (rest : Option Fault) (g : Fault) → cond v rest (Some g) ≡ None → (v ≡ true) × (rest ≡ None)
passed true rest g e = (refl, e)
passed false rest g e = absurd cc

-- where a fault is named, it is that of the test, which fails, or of the rest
pub failed : (v : Bool) (rest : Option Fault) (g f : Fault) → cond v rest (Some g) ≡ Some f → ((v ≡ false) × (f ≡ g)) ⊎ ((v ≡ true) × (rest ≡ Some f))
failed true rest g f e = inr (refl, e)
failed false rest g f e = inl (refl, cc)

-- Where no test of a leaf fails, it is sound.
pub leaf_sound : (leaf : Leaf) (b : Box) → leaf_fault leaf b ≡ None → IsSound leaf b.payload
leaf_sound leaf b e =
    let whole = passed (nat_le 4 (length b.payload)) _ (fault_of ShortBox b) e in
    let listed = passed (knows_version leaf b.payload) _ (fault_of BadVersion b) whole.1 in
    let flags = passed (knows_flags leaf b.payload) _ (fault_of BadFlags b) listed.1 in
    let room = passed (nat_le (needed leaf b.payload) (length b.payload)) _ (fault_of ShortBox b) flags.1 in
    let value = passed (not (has_bad_value leaf b.payload)) _ (fault_of BadValue b) room.1 in
    let inside = passed (not (is_outside_data leaf b.payload)) _ (fault_of OutsideData b) value.1 in
    let offsets = passed (not (has_large_offset leaf b.payload)) _ (fault_of OffsetTooLarge b) inside.1 in
    record {
      readable = record { version = listed.0; flags = flags.0; room = leb-true (needed leaf b.payload) (length b.payload) room.0 };
      value = not_is_true (has_bad_value leaf b.payload) value.0;
      inside = not_is_true (is_outside_data leaf b.payload) inside.0;
      offsets = not_is_true (has_large_offset leaf b.payload) offsets.0;
    }

-- Where a test of a leaf fails, the leaf is at fault.
pub leaf_fails : (leaf : Leaf) (b : Box) (f : Fault) → leaf_fault leaf b ≡ Some f → IsFaultOf leaf b f
leaf_fails leaf b f e = elim (failed (nat_le 4 (length b.payload)) _ (fault_of ShortBox b) f e) [
  | inl x ↦ record { kind = ShortBox; fails = omega (arith, leb-false 4 (length b.payload) x.0, four_needed leaf b.payload); named = x.1 }
  | inr whole ↦ elim (failed (knows_version leaf b.payload) _ (fault_of BadVersion b) f whole.1) [
    | inl x ↦ record { kind = BadVersion; fails = (leb-true 4 (length b.payload) whole.0, x.0); named = x.1 }
    | inr listed ↦ elim (failed (knows_flags leaf b.payload) _ (fault_of BadFlags b) f listed.1) [
      | inl x ↦ record { kind = BadFlags; fails = (leb-true 4 (length b.payload) whole.0, x.0); named = x.1 }
      | inr flags ↦ elim (failed (nat_le (needed leaf b.payload) (length b.payload)) _ (fault_of ShortBox b) f flags.1) [
        | inl x ↦ record { kind = ShortBox; fails = leb-false (needed leaf b.payload) (length b.payload) x.0; named = x.1 }
        | inr room ↦
            let readable : IsReadable leaf b.payload = record { version = listed.0; flags = flags.0; room = leb-true (needed leaf b.payload) (length b.payload) room.0 } in
            elim (failed (not (has_bad_value leaf b.payload)) _ (fault_of BadValue b) f room.1) [
              | inl x ↦ record { kind = BadValue; fails = (readable, not_is_false (has_bad_value leaf b.payload) x.0); named = x.1 }
              | inr value ↦ elim (failed (not (is_outside_data leaf b.payload)) _ (fault_of OutsideData b) f value.1) [
                | inl x ↦ record { kind = OutsideData; fails = (readable, not_is_false (is_outside_data leaf b.payload) x.0); named = x.1 }
                | inr inside ↦ elim (failed (not (has_large_offset leaf b.payload)) _ (fault_of OffsetTooLarge b) f inside.1) [
                  | inl x ↦ record { kind = OffsetTooLarge; fails = (readable, not_is_false (has_large_offset leaf b.payload) x.0); named = x.1 }
                  | inr none ↦ absurd cc
                ]
              ]
            ]
      ]
    ]
  ]
]
