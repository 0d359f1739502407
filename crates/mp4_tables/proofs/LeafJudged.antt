-- What is so of a leaf where its tests pass, and where one is the first to fail.
use Rattle.std.proofs.Common.{◌≡◌, ℕ, ◌<◌, ◌≤◌, Bool, true, false, cond, List, [], ◌∷◌, ◌++◌, length, Option, Some, None, inl, inr, refl, subst, arith}
use Rattle.std.specs.Prelude.{◌⊎◌, nat_le, not, ◌==◌}
use Rattle.std.proofs.lemmas.Bool.Decides.{nat_tests}
use Rattle.mp4_boxes.specs.format.Bytes.{width_of}
use Rattle.mp4_boxes.specs.format.Layout.{Leaf, mvhd, tkhd, mdhd, hdlr, elst, dref, data_entry_url, stsd, sample_entry, stts, ctts, stsc, stsz, stz2, stco, co64, stss, sdtp, sbgp, sgpd, trex, tfhd, tfdt, trun, fields, version, needed, knows_version, knows_flags, has_bad_value, is_outside_data, has_large_offset, IsReadable, IsSound}
use Rattle.mp4_boxes.specs.format.BoxFaults.{Fails}
use Rattle.mp4_boxes.specs.format.FirstFault.{Test, first_failed, leaf_tests_with}
use Rattle.mp4_boxes.specs.declared.fault.Kind.{Kind}
use Rattle.mp4_boxes.specs.declared.fault.Kind.TheVariants.{ShortBox, BadVersion, BadFlags, BadValue, OutsideData, OffsetTooLarge}
use Rattle.mp4_tables.proofs.InOrder.{both_pass, either_fails}

-- what the test of two numbers says where it passes, and where it fails
pub le_yes : (a b : ℕ) → nat_le a b ≡ true → a ≤ b
le_yes a b h = grind (arith, nat_tests)

pub le_no : (a b : ℕ) → nat_le a b ≡ false → b < a
le_no a b h = grind (arith, nat_tests)

-- the fields of each leaf take four bytes or more
fields_four : (leaf : Leaf) (v : ℕ) → 4 ≤ width_of (fields leaf v)
fields_four mvhd v = omega arith
fields_four tkhd v = omega arith
fields_four mdhd v = omega arith
fields_four hdlr v = omega arith
fields_four elst v = omega arith
fields_four dref v = omega arith
fields_four data_entry_url v = omega arith
fields_four stsd v = omega arith
fields_four sample_entry v = omega arith
fields_four stts v = omega arith
fields_four ctts v = omega arith
fields_four stsc v = omega arith
fields_four stsz v = omega arith
fields_four stz2 v = omega arith
fields_four stco v = omega arith
fields_four co64 v = omega arith
fields_four stss v = omega arith
fields_four sdtp v = omega arith
fields_four sgpd v = omega arith
fields_four trex v = omega arith
fields_four tfhd v = omega arith
fields_four tfdt v = omega arith
fields_four trun v = omega arith
fields_four sbgp v = by (v == 0) refl
  where
    by : (w : Bool) → (v == 0) ≡ w → 4 ≤ width_of (fields sbgp v)
    by true e = rw e (omega arith)
    by false e = rw e (omega arith)

-- each leaf has the room of a version and flags, or more
pub four_needed : (leaf : Leaf) (payload : List ℕ) → 4 ≤ needed leaf payload
four_needed leaf payload = let own = fields_four leaf (version payload) in omega (arith, own)

-- Of a leaf whose tests pass: it is sound, and what it keeps with others passes. Else what is named fails of it, or it can be read and does not keep that.
abbrev pub LeafJudged : Leaf → List (Test Kind) → List ℕ → Option Kind → Type 0
LeafJudged leaf rules payload None = IsSound leaf payload × (first_failed rules ≡ None)
LeafJudged leaf rules payload (Some k) = Fails leaf payload k ⊎ (IsReadable leaf payload × (first_failed rules ≡ Some k))

abbrev values : Leaf → List ℕ → List (Test Kind)
values leaf payload = (not (has_bad_value leaf payload), BadValue) ∷ (not (is_outside_data leaf payload), OutsideData) ∷ (not (has_large_offset leaf payload), OffsetTooLarge) ∷ []

-- of its values
values_judged : (leaf : Leaf) (payload : List ℕ) → IsReadable leaf payload → LeafJudged leaf [] payload (first_failed (values leaf payload))
values_judged leaf payload read = by (has_bad_value leaf payload) (is_outside_data leaf payload) (has_large_offset leaf payload) refl refl refl
  where
    by : (a b c : Bool) → has_bad_value leaf payload ≡ a → is_outside_data leaf payload ≡ b → has_large_offset leaf payload ≡ c → LeafJudged leaf [] payload (cond (not a) (cond (not b) (cond (not c) None (Some OffsetTooLarge)) (Some OutsideData)) (Some BadValue))
    by true b c e f g = inl (read, e)
    by false true c e f g = inl (read, f)
    by false false true e f g = inl (read, g)
    by false false false e f g = (record { readable = read; value = e; inside = f; offsets = g }, refl)

-- of what it keeps with others, and then of its values
rules_judged : (leaf : Leaf) (rules : List (Test Kind)) (payload : List ℕ) → IsReadable leaf payload → (o : Option Kind) → first_failed (rules ++ values leaf payload) ≡ o → LeafJudged leaf rules payload o
rules_judged leaf rules payload read None e =
    let p = both_pass rules (values leaf payload) e in
    ((subst (LeafJudged leaf [] payload) p.1 (values_judged leaf payload read)).0, p.0)
rules_judged leaf rules payload read (Some k) e = elim (either_fails rules (values leaf payload) k e) [
  | inl own ↦ inr (read, own)
  | inr later ↦ value_fails (subst (LeafJudged leaf [] payload) later.1 (values_judged leaf payload read))
]
  where
    value_fails : LeafJudged leaf [] payload (Some k) → LeafJudged leaf rules payload (Some k)
    value_fails (inl f) = inl f
    value_fails (inr r) = absurd cc

-- of all its tests, in order
pub leaf_judged : (leaf : Leaf) (rules : List (Test Kind)) (payload : List ℕ) → LeafJudged leaf rules payload (first_failed (leaf_tests_with leaf rules payload))
leaf_judged leaf rules payload = by (nat_le 4 (length payload)) (knows_version leaf payload) (knows_flags leaf payload) (nat_le (needed leaf payload) (length payload)) refl refl refl refl
  where
    by : (a v k n : Bool) → nat_le 4 (length payload) ≡ a → knows_version leaf payload ≡ v → knows_flags leaf payload ≡ k → nat_le (needed leaf payload) (length payload) ≡ n
        → LeafJudged leaf rules payload (cond a (cond v (cond k (cond n (first_failed (rules ++ values leaf payload)) (Some ShortBox)) (Some BadFlags)) (Some BadVersion)) (Some ShortBox))
    by false v k n e f g h = let four = four_needed leaf payload in let short = le_no 4 (length payload) e in inl (omega (arith, four, short))
    by true false k n e f g h = inl (le_yes 4 (length payload) e, f)
    by true true false n e f g h = inl (le_yes 4 (length payload) e, g)
    by true true true false e f g h = inl (le_no (needed leaf payload) (length payload) h)
    by true true true true e f g h = rules_judged leaf rules payload (record { version = f; flags = g; room = le_yes (needed leaf payload) (length payload) h }) (first_failed (rules ++ values leaf payload)) refl

-- where none is told, the leaf is sound and keeps what it keeps with others
pub leaf_passes : (leaf : Leaf) (rules : List (Test Kind)) (payload : List ℕ) → first_failed (leaf_tests_with leaf rules payload) ≡ None → IsSound leaf payload × (first_failed rules ≡ None)
leaf_passes leaf rules payload e = subst (LeafJudged leaf rules payload) e (leaf_judged leaf rules payload)

-- where a kind is told, it fails of the leaf, or the leaf can be read and does not keep what it keeps with others
pub leaf_fails : (leaf : Leaf) (rules : List (Test Kind)) (payload : List ℕ) (k : Kind) → first_failed (leaf_tests_with leaf rules payload) ≡ Some k → Fails leaf payload k ⊎ (IsReadable leaf payload × (first_failed rules ≡ Some k))
leaf_fails leaf rules payload k e = subst (LeafJudged leaf rules payload) e (leaf_judged leaf rules payload)
