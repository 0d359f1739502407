-- The boxes of a `dinf` and of an `stbl`, one after the other.
use Rattle.std.proofs.Common.{◌≡◌, ℕ, true, false, List, [], ◌∷◌, ◌++◌, map, refl, sym, ap, subst, ◌∙◌, arith}
use Rattle.std.specs.Prelude.{codes, bytes_eq}
use Rattle.std.proofs.lemmas.List.{map-append}
use Rattle.mp4_boxes.specs.format.Box.{Box, box_container}
use Rattle.mp4_boxes.specs.format.Children.{Holds, of_kind}
use Rattle.mp4_boxes.specs.format.Layout.{dref, stsd}
use Rattle.mp4_boxes.specs.format.Places.{ruled, AreSound}
use Rattle.mp4_boxes.specs.declared.rule.Rule.TheVariants as kinds
use Rattle.mp4_boxes.proofs.Refusing.{holds_only}
use Rattle.mp4_boxes.proofs.Sound.{same_kind}
use Rattle.mp4_head.specs.format.Head.{Kept}
use Rattle.mp4_head.specs.words.Containers.{SaysReferences, SaysDataInformation, SaysDescriptions, SaysTable}
use Rattle.mp4_head.proofs.Walks.{Walk, walk_none, walk_more, walk_here, walk_all, none_before, sound_more, IfPassed, passed_other, passed_this, passed_must}
use Rattle.mp4_tables.proofs.GroupWalks.{kind_snoc, kind_snoc_other}

-- ---- `dinf`

-- what was read of the boxes that were passed
pub record DataPassed (all left : List Box) : Type 0 where
  pub walk : Walk all left
  pub sound : AreSound (ruled kinds.DataInformation) walk.passed
  pub references : IfPassed SaysReferences (codes "dref") walk.passed

pub data_none : (all : List Box) → DataPassed all all
data_none all = record { walk = walk_none all; sound = tt; references = λ some. absurd (omega (arith, some)) }

-- a `dref` was read
pub data_this : (b : Box) (all left later : List Box) (child : Box) → Holds kinds.DataInformation (box_container b) all → DataPassed all left → left ≡ child ∷ later
    → bytes_eq (codes "dref") child.kind ≡ true → SaysReferences child → DataPassed all later
data_this b all left later child h p e k s =
    let one = holds_only h (codes "dref") refl in
    let none = none_before (codes "dref") all p.walk.passed later child (walk_here all left later child p.walk e) (omega (arith, one)) k in
    record {
      walk = walk_more all left later child p.walk e;
      sound = sound_more (ruled kinds.DataInformation) p.walk.passed child p.sound (rw k s.own);
      references = passed_this SaysReferences (codes "dref") p.walk.passed child k none s;
    }

-- another box was passed
pub data_other : (all left later : List Box) (child : Box) → DataPassed all left → left ≡ child ∷ later → bytes_eq (codes "dref") child.kind ≡ false → DataPassed all later
data_other all left later child p e k = record {
  walk = walk_more all left later child p.walk e;
  sound = sound_more (ruled kinds.DataInformation) p.walk.passed child p.sound (rw k tt);
  references = passed_other SaysReferences (codes "dref") p.walk.passed child k p.references;
}

-- all were
pub data_all : (b : Box) (all left : List Box) → Holds kinds.DataInformation (box_container b) all → DataPassed all left → left ≡ [] → SaysDataInformation b
data_all b all left h p e =
    let same = walk_all all left p.walk e in
    record {
      boxes = all;
      holds = h;
      sound = subst (λ (bs : List Box). AreSound (ruled kinds.DataInformation) bs) (sym same) p.sound;
      references = passed_must SaysReferences (codes "dref") all p.walk.passed same (holds_only h (codes "dref") refl) p.references;
    }

-- ---- `stbl`

-- what was read of the boxes that were passed
pub record TablePassed (all left : List Box) (descriptions : List Kept) (groups : List (List ℕ)) : Type 0 where
  pub walk : Walk all left
  pub entries : IfPassed (λ c. SaysDescriptions c descriptions) (codes "stsd") walk.passed
  pub says : groups ≡ map (λ (b : Box). b.payload) (of_kind (codes "sgpd") walk.passed)

pub table_none : (all : List Box) (descriptions : List Kept) → TablePassed all all descriptions []
table_none all descriptions = record { walk = walk_none all; entries = λ some. absurd (omega (arith, some)); says = refl }

-- the `stsd` was read
pub table_descriptions : (b : Box) (all left later : List Box) (child : Box) (descriptions read : List Kept) (groups : List (List ℕ)) → Holds kinds.SampleTable (box_container b) all → TablePassed all left descriptions groups → left ≡ child ∷ later
    → bytes_eq (codes "stsd") child.kind ≡ true → SaysDescriptions child read → TablePassed all later read groups
table_descriptions b all left later child descriptions read groups h p e k s =
    let one = holds_only h (codes "stsd") refl in
    let none = none_before (codes "stsd") all p.walk.passed later child (walk_here all left later child p.walk e) (omega (arith, one)) k in
    let other : bytes_eq (codes "sgpd") child.kind ≡ false = rw (same_kind (codes "stsd") child.kind k) refl in
    record {
      walk = walk_more all left later child p.walk e;
      entries = passed_this (λ c. SaysDescriptions c read) (codes "stsd") p.walk.passed child k none s;
      says = p.says ∙ ap (map (λ (c : Box). c.payload)) (sym (kind_snoc_other (codes "sgpd") p.walk.passed child other));
    }

-- an `sgpd` was kept
pub table_group : (all left later : List Box) (child : Box) (descriptions : List Kept) (groups more : List (List ℕ)) → TablePassed all left descriptions groups → left ≡ child ∷ later
    → bytes_eq (codes "stsd") child.kind ≡ false → bytes_eq (codes "sgpd") child.kind ≡ true → more ≡ groups ++ child.payload ∷ [] → TablePassed all later descriptions more
table_group all left later child descriptions groups more p e n k added = record {
  walk = walk_more all left later child p.walk e;
  entries = passed_other (λ c. SaysDescriptions c descriptions) (codes "stsd") p.walk.passed child n p.entries;
  says = added ∙ ap (λ (g : List (List ℕ)). g ++ child.payload ∷ []) p.says ∙ sym (map-append (λ (c : Box). c.payload) (of_kind (codes "sgpd") p.walk.passed) (child ∷ [])) ∙ ap (map (λ (c : Box). c.payload)) (sym (kind_snoc (codes "sgpd") p.walk.passed child k));
}

-- another box was passed
pub table_other : (all left later : List Box) (child : Box) (descriptions : List Kept) (groups : List (List ℕ)) → TablePassed all left descriptions groups → left ≡ child ∷ later
    → bytes_eq (codes "stsd") child.kind ≡ false → bytes_eq (codes "sgpd") child.kind ≡ false → TablePassed all later descriptions groups
table_other all left later child descriptions groups p e n k = record {
  walk = walk_more all left later child p.walk e;
  entries = passed_other (λ c. SaysDescriptions c descriptions) (codes "stsd") p.walk.passed child n p.entries;
  says = p.says ∙ ap (map (λ (c : Box). c.payload)) (sym (kind_snoc_other (codes "sgpd") p.walk.passed child k));
}

-- all were
pub table_all : (b : Box) (all left : List Box) (descriptions : List Kept) (groups : List (List ℕ)) → Holds kinds.SampleTable (box_container b) all → TablePassed all left descriptions groups → left ≡ [] → SaysTable b descriptions groups
table_all b all left descriptions groups h p e =
    let same = walk_all all left p.walk e in
    record {
      boxes = all;
      holds = h;
      entries = passed_must (λ c. SaysDescriptions c descriptions) (codes "stsd") all p.walk.passed same (holds_only h (codes "stsd") refl) p.entries;
      says = p.says ∙ ap (λ (bs : List Box). map (λ (c : Box). c.payload) (of_kind (codes "sgpd") bs)) (sym same);
    }
