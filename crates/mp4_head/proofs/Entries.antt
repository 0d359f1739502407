-- The entries of `dref` and `stsd`, one after the other.
use Rattle.std.proofs.Common.{◌≡◌, ℕ, ◌+◌, true, List, [], ◌∷◌, ◌++◌, map, refl, sym, ap, subst, ◌∙◌, arith, lit<}
use Rattle.std.specs.Prelude.{codes, bytes_eq, slice_index, not}
use Rattle.std.specs.List.{AllByRecursion}
use Rattle.std.proofs.lemmas.List.{map-append}
use Rattle.std.proofs.lemmas.Bool.{eq-eqb}
use Rattle.mp4_boxes.specs.format.Bytes.{field}
use Rattle.mp4_boxes.specs.format.Box.{Box, counted_container, Tiles}
use Rattle.mp4_boxes.specs.format.Layout.{dref, stsd, sample_entry, data_entry_url, fields, leaf_fields, version, needed, IsReadable, IsSound}
use Rattle.mp4_boxes.specs.format.Places.{data_entries, sample_entries, AreSound}
use Rattle.mp4_boxes.proofs.Among.{all_append}
use Rattle.mp4_boxes.proofs.Sound.{same_kind}
use Rattle.mp4_head.specs.format.Head.{Kept}
use Rattle.mp4_head.specs.words.Containers.{SaysReferences, SaysDescriptions}
use Rattle.mp4_head.specs.words.Leaves.{IsOpen}
use Rattle.mp4_head.proofs.Opening.{open_readable, number_is}
use Rattle.mp4_head.proofs.Walks.{Walk, walk_none, walk_more, walk_all, sound_more}

-- ---- `dref`

-- the third number of a `dref` is its count
pub reference_count : (payload : List ℕ) → field payload 4 4 ≡ slice_index (leaf_fields dref payload) 2
reference_count payload = number_is (fields dref (version payload)) payload 2 4 4 (lit< tt) refl refl

references_needs : (payload : List ℕ) → needed dref payload ≡ 8
references_needs payload = omega arith

pub references_readable : (payload : List ℕ) (width : ℕ) → IsOpen 0 8 0 payload width → IsReadable dref payload
references_readable payload width o = let n = references_needs payload in open_readable dref 0 8 0 width payload refl refl (omega arith) o

pub references_sound : (payload : List ℕ) (width : ℕ) → IsOpen 0 8 0 payload width → field payload 4 4 ≡ 1 → IsSound dref payload
references_sound payload width o one =
    record { readable = references_readable payload width o; value = refl; inside = ap not (eq-eqb (slice_index (leaf_fields dref payload) 2) 1 (sym (reference_count payload) ∙ one)); offsets = refl }

-- what was read of the entries that were passed
pub record ReferencesPassed (all left : List Box) : Type 0 where
  pub walk : Walk all left
  pub sound : AreSound data_entries walk.passed
  pub urls : AllByRecursion (λ (e : Box). e.kind ≡ codes "url ") walk.passed

pub references_none : (all : List Box) → ReferencesPassed all all
references_none all = record { walk = walk_none all; sound = tt; urls = tt }

pub references_more : (all left later : List Box) (e : Box) → ReferencesPassed all left → left ≡ e ∷ later → bytes_eq (codes "url ") e.kind ≡ true → IsSound data_entry_url e.payload → ReferencesPassed all later
references_more all left later e p w k s = record {
  walk = walk_more all left later e p.walk w;
  sound = sound_more data_entries p.walk.passed e p.sound (rw k s);
  urls = all_append (λ (c : Box). c.kind ≡ codes "url ") p.walk.passed (e ∷ []) p.urls (same_kind (codes "url ") e.kind k, tt);
}

pub references_all : (b : Box) (all left : List Box) (width : ℕ) → Tiles (counted_container b) all → IsOpen 0 8 0 b.payload width → field b.payload 4 4 ≡ 1 → ReferencesPassed all left → left ≡ [] → SaysReferences b
references_all b all left width t o one p e =
    let same = walk_all all left p.walk e in
    record {
      entries = all;
      tiles = t;
      own = references_sound b.payload width o one;
      sound = subst (λ (bs : List Box). AreSound data_entries bs) (sym same) p.sound;
      urls = subst (λ (bs : List Box). AllByRecursion (λ (c : Box). c.kind ≡ codes "url ") bs) (sym same) p.urls;
    }

-- ---- `stsd`

-- an `stsd` that was opened is sound
pub descriptions_sound : (payload : List ℕ) (width : ℕ) → IsOpen 0 8 0 payload width → IsSound stsd payload
descriptions_sound payload width o =
    let n : needed stsd payload ≡ 8 = omega arith in
    record { readable = open_readable stsd 0 8 0 width payload refl refl (omega arith) o; value = refl; inside = refl; offsets = refl }

-- an entry as it is kept
abbrev pub entry_kept : Box → Kept
entry_kept e = record { kind = e.kind; payload = e.payload }

-- what was read of the entries that were passed
pub record DescriptionsPassed (all left : List Box) (read : List Kept) : Type 0 where
  pub walk : Walk all left
  pub sound : AreSound sample_entries walk.passed
  pub says : read ≡ map entry_kept walk.passed

pub descriptions_none : (all : List Box) → DescriptionsPassed all all []
descriptions_none all = record { walk = walk_none all; sound = tt; says = refl }

pub descriptions_more : (all left later : List Box) (e : Box) (read more : List Kept) (k : Kept) → DescriptionsPassed all left read → left ≡ e ∷ later → IsSound sample_entry e.payload → k ≡ entry_kept e → more ≡ read ++ k ∷ [] → DescriptionsPassed all later more
descriptions_more all left later e read more k p w s is added = record {
  walk = walk_more all left later e p.walk w;
  sound = sound_more sample_entries p.walk.passed e p.sound s;
  says = added ∙ (λ i. p.says i ++ is i ∷ []) ∙ sym (map-append entry_kept p.walk.passed (e ∷ []));
}

pub descriptions_all : (b : Box) (all left : List Box) (read : List Kept) (width : ℕ) → Tiles (counted_container b) all → IsOpen 0 8 0 b.payload width → DescriptionsPassed all left read → left ≡ [] → SaysDescriptions b read
descriptions_all b all left read width t o p e =
    let same = walk_all all left p.walk e in
    record {
      entries = all;
      tiles = t;
      own = descriptions_sound b.payload width o;
      sound = subst (λ (bs : List Box). AreSound sample_entries bs) (sym same) p.sound;
      says = p.says ∙ ap (map entry_kept) (sym same);
    }
