-- The first fault of a `dref` and of an `stsd`: as leaves, then of their counted entries.
use Rattle.std.proofs.Common.{arith, ◌≡◌, ℕ, suc, Bool, true, false, List, [], length, Option, Some, None, Ok, Err, refl, sym, ap, ◌∙◌, ◌+◌, ◌*◌}
use Rattle.std.specs.Prelude.{nat_le, nat_eq, ◌==◌, not, cond}
use Rattle.mp4_boxes.specs.format.Box.{Box, counted_container}
use Rattle.mp4_boxes.specs.format.BoxFaults.{fault_of}
use Rattle.mp4_boxes.specs.format.Layout.{dref, stsd, sample_entry, version, time_width, needed, is_outside_data}
use Rattle.mp4_boxes.specs.format.Places.{data_entries, sample_entries}
use Rattle.mp4_boxes.specs.format.FirstFault.{first_failed, naming, leaf_fault, counted_or_fault}
use Rattle.mp4_boxes.specs.declared.fault.Fault.{Fault}
use Rattle.mp4_boxes.specs.declared.fault.Kind.TheVariants.{ShortBox, BadVersion, OutsideData}
use Rattle.mp4_head.specs.format.FirstFault.{each_fault, fault_within, own_tests, or_else}
use Rattle.mp4_head.specs.words.Opens.{open_tests}
use Rattle.mp4_head.specs.words.Refuses.{place_of}
use Rattle.mp4_boxes.specs.format.Bytes.{field}
use Rattle.mp4_head.proofs.SoundJudged.{outside_judged}
use Rattle.mp4_head.specs.words.Leaves.{IsOpen}
use Rattle.mp4_head.proofs.Entries.{references_readable, reference_count}
use Rattle.mp4_head.proofs.FaultWalks.{fault_at, or_none}

none_is_some : (f : Fault) (o : Option Fault) → o ≡ None → o ≡ Some f → ⊥
none_is_some f o e g = cc

needs_dref : (payload : List ℕ) → needed dref payload ≡ 8 + 0 * time_width (version payload)
needs_dref payload = omega arith

needs_stsd : (payload : List ℕ) → needed stsd payload ≡ 8 + 0 * time_width (version payload)
needs_stsd payload = omega arith

-- a `dref` or `stsd` that can't be opened
pub dref_open : (b : Box) (f : Fault) → first_failed (naming b (open_tests 0 8 0 b.payload)) ≡ Some f → leaf_fault dref b ≡ Some f
dref_open b f e = by (nat_le 4 (length b.payload)) (nat_le (version b.payload) 0) (nat_le (8 + 0 * time_width (version b.payload)) (length b.payload)) refl refl refl e
  where
    by : (u v w : Bool) → nat_le 4 (length b.payload) ≡ u → nat_le (version b.payload) 0 ≡ v → nat_le (8 + 0 * time_width (version b.payload)) (length b.payload) ≡ w
        → cond u (cond v (cond w None (Some (fault_of ShortBox b))) (Some (fault_of BadVersion b))) (Some (fault_of ShortBox b)) ≡ Some f → leaf_fault dref b ≡ Some f
    by false v w x y z e = rw x e
    by true false w x y z e = rw (x, y) e
    by true true false x y z e =
        let room : nat_le (needed dref b.payload) (length b.payload) ≡ false = ap (λ (n : ℕ). nat_le n (length b.payload)) (needs_dref b.payload) ∙ z in
        rw (x, y, room) e
    by true true true x y z e = absurd (none_is_some f None refl e)

pub stsd_open : (b : Box) (f : Fault) → first_failed (naming b (open_tests 0 8 0 b.payload)) ≡ Some f → leaf_fault stsd b ≡ Some f
stsd_open b f e = by (nat_le 4 (length b.payload)) (nat_le (version b.payload) 0) (nat_le (8 + 0 * time_width (version b.payload)) (length b.payload)) refl refl refl e
  where
    by : (u v w : Bool) → nat_le 4 (length b.payload) ≡ u → nat_le (version b.payload) 0 ≡ v → nat_le (8 + 0 * time_width (version b.payload)) (length b.payload) ≡ w
        → cond u (cond v (cond w None (Some (fault_of ShortBox b))) (Some (fault_of BadVersion b))) (Some (fault_of ShortBox b)) ≡ Some f → leaf_fault stsd b ≡ Some f
    by false v w x y z e = rw x e
    by true false w x y z e = rw (x, y) e
    by true true false x y z e =
        let room : nat_le (needed stsd b.payload) (length b.payload) ≡ false = ap (λ (n : ℕ). nat_le n (length b.payload)) (needs_stsd b.payload) ∙ z in
        rw (x, y, room) e
    by true true true x y z e = absurd (none_is_some f None refl e)

-- more than one data reference are counted, or none
pub dref_outside : (b : Box) (width : ℕ) → IsOpen 0 8 0 b.payload width → (nat_eq (field b.payload 4 4) 1 ≡ false) → leaf_fault dref b ≡ Some (fault_of OutsideData b)
dref_outside b width o other =
    let r = references_readable b.payload width o in
    let outside : is_outside_data dref b.payload ≡ true = ap (λ (n : ℕ). not (n == 1)) (sym (reference_count b.payload)) ∙ ap not other in
    outside_judged dref b o.whole r refl outside

-- ---- entries

-- the list of entries is at fault
pub entries_fail : (n : ℕ) (ids : List ℕ) (b : Box) (f : Fault) → counted_or_fault (counted_container b) ≡ Err f → fault_within (suc n) ids (place_of data_entries b) ≡ Some f
entries_fail n ids b f e = rw e refl

pub entries_hold : (n : ℕ) (ids : List ℕ) (b : Box) (all : List Box) → counted_or_fault (counted_container b) ≡ Ok all
    → fault_within (suc n) ids (place_of data_entries b) ≡ each_fault (fault_at n ids (place_of data_entries b)) [] all
entries_hold n ids b all e = rw e refl

pub descriptions_list_fails : (n : ℕ) (ids : List ℕ) (b : Box) (f : Fault) → counted_or_fault (counted_container b) ≡ Err f → fault_within (suc n) ids (place_of sample_entries b) ≡ Some f
descriptions_list_fails n ids b f e = rw e refl

pub descriptions_list_holds : (n : ℕ) (ids : List ℕ) (b : Box) (all : List Box) → counted_or_fault (counted_container b) ≡ Ok all
    → fault_within (suc n) ids (place_of sample_entries b) ≡ each_fault (fault_at n ids (place_of sample_entries b)) [] all
descriptions_list_holds n ids b all e = rw e refl

-- an entry of a `dref` by its own tests, and of an `stsd` as a leaf
pub reference_at : (n : ℕ) (ids : List ℕ) (d : Box) (before : List Box) (b : Box) → fault_at n ids (place_of data_entries d) before b ≡ first_failed (own_tests data_entries [] [] b)
reference_at n ids d before b = or_none (first_failed (own_tests data_entries [] [] b))

pub description_at : (n : ℕ) (ids : List ℕ) (d : Box) (before : List Box) (b : Box) → fault_at n ids (place_of sample_entries d) before b ≡ leaf_fault sample_entry b
description_at n ids d before b = or_none (leaf_fault sample_entry b)

-- ---- a leaf, and then what is in it

pub leaf_then : (leaf inner first : Option Fault) → leaf ≡ None → inner ≡ first → or_else leaf (λ u. inner) ≡ first
leaf_then leaf inner first e g = rw e g

pub leaf_first : (leaf inner : Option Fault) (f : Fault) → leaf ≡ Some f → or_else leaf (λ u. inner) ≡ Some f
leaf_first leaf inner f e = rw e refl
