-- The boxes of a `minf`, one after the other.
use Rattle.std.proofs.Common.{◌≡◌, true, false, List, [], ◌∷◌, map, Option, Some, None, refl, subst, arith}
use Rattle.std.specs.Prelude.{codes, bytes_eq}
use Rattle.mp4_boxes.specs.format.Box.{Box, box_container}
use Rattle.mp4_boxes.specs.format.Children.{Holds, is_among, media_headers}
use Rattle.mp4_boxes.specs.words.View.{box_seen}
use Rattle.mp4_boxes.specs.declared.view.BoxView.{BoxView}
use Rattle.mp4_boxes.specs.declared.rule.Rule.TheVariants as kinds
use Rattle.mp4_boxes.proofs.Refusing.{holds_only}
use Rattle.mp4_boxes.proofs.Sound.{same_kind}
use Rattle.mp4_head.specs.words.Seen.{kept_seen}
use Rattle.mp4_head.specs.declared.kept_boxes.Kept.{Kept}
use Rattle.mp4_head.specs.declared.sample_table.SampleTable.{SampleTable}
use Rattle.mp4_head.specs.words.Containers.{SaysDataInformation, SaysTable, SaysInformation, kept_of}
use Rattle.mp4_head.proofs.Walks.{Walk, walk_none, walk_more, walk_here, walk_all, none_before, IfPassed, passed_other, passed_this, passed_must, FirstRead, not_yet, first_other, first_this, first_read, first_missing}
use Rattle.mp4_head.proofs.AmongWalks.{AmongRead, none_among, among_other, among_this, among_read, among_missing}
use Rattle.mp4_head.proofs.AmongWalks as among

-- what is said of a media header, and of an `stbl` that was read
abbrev pub IsHeader : Box → Kept → Type 0
IsHeader b k = kept_seen k ≡ kept_of b

pub record IsTable (b : Box) (t : BoxView × SampleTable) : Type 0 where
  pub same : box_seen t.0 ≡ b
  pub says : SaysTable b (map kept_seen t.1.descriptions.items) (map (λ p. p.now) t.1.group_descriptions.items)

-- what was read of the boxes that were passed
pub record InformationPassed (all left : List Box) (header : Option Kept) (tables : Option (BoxView × SampleTable)) : Type 0 where
  pub walk : Walk all left
  pub reference : IfPassed SaysDataInformation (codes "dinf") walk.passed
  pub table : FirstRead IsTable (codes "stbl") walk.passed tables
  pub header_is : AmongRead IsHeader media_headers walk.passed header

pub information_none : (all : List Box) → InformationPassed all all None None
information_none all = record { walk = walk_none all; reference = λ some. absurd (omega (arith, some)); table = not_yet refl; header_is = among.not_yet refl }

-- a `dinf` was looked at
pub information_data : (b : Box) (all left later : List Box) (child : Box) (header : Option Kept) (tables : Option (BoxView × SampleTable)) → Holds kinds.MediaInformation (box_container b) all → InformationPassed all left header tables → left ≡ child ∷ later
    → bytes_eq (codes "dinf") child.kind ≡ true → SaysDataInformation child → InformationPassed all later header tables
information_data b all left later child header tables h p e k s =
    let one = holds_only h (codes "dinf") refl in
    let none = none_before (codes "dinf") all p.walk.passed later child (walk_here all left later child p.walk e) (omega (arith, one)) k in
    let is = same_kind (codes "dinf") child.kind k in
    record {
      walk = walk_more all left later child p.walk e;
      reference = passed_this SaysDataInformation (codes "dinf") p.walk.passed child k none s;
      table = first_other IsTable (codes "stbl") p.walk.passed child tables (rw is refl) p.table;
      header_is = among_other IsHeader media_headers p.walk.passed child header (rw is refl) p.header_is;
    }

-- the `stbl` was read
pub information_table : (b : Box) (all left later : List Box) (child : Box) (header : Option Kept) (tables : Option (BoxView × SampleTable)) (t : BoxView × SampleTable) → Holds kinds.MediaInformation (box_container b) all → InformationPassed all left header tables → left ≡ child ∷ later
    → bytes_eq (codes "dinf") child.kind ≡ false → bytes_eq (codes "stbl") child.kind ≡ true → IsTable child t → InformationPassed all later header (Some t)
information_table b all left later child header tables t h p e n k s =
    let one = holds_only h (codes "stbl") refl in
    let none = none_before (codes "stbl") all p.walk.passed later child (walk_here all left later child p.walk e) (omega (arith, one)) k in
    let is = same_kind (codes "stbl") child.kind k in
    record {
      walk = walk_more all left later child p.walk e;
      reference = passed_other SaysDataInformation (codes "dinf") p.walk.passed child n p.reference;
      table = first_this IsTable (codes "stbl") p.walk.passed child t k none s;
      header_is = among_other IsHeader media_headers p.walk.passed child header (rw is refl) p.header_is;
    }

-- the media header was kept
pub information_header : (b : Box) (all left later : List Box) (child : Box) (header : Option Kept) (tables : Option (BoxView × SampleTable)) (k : Kept) → Holds kinds.MediaInformation (box_container b) all → InformationPassed all left header tables → left ≡ child ∷ later
    → bytes_eq (codes "dinf") child.kind ≡ false → bytes_eq (codes "stbl") child.kind ≡ false → is_among media_headers child.kind ≡ true → IsHeader child k → InformationPassed all later (Some k) tables
information_header b all left later child header tables k h p e n m a s =
    let none = none_among media_headers all p.walk.passed later child (walk_here all left later child p.walk e) h.quantities.0 a in
    record {
      walk = walk_more all left later child p.walk e;
      reference = passed_other SaysDataInformation (codes "dinf") p.walk.passed child n p.reference;
      table = first_other IsTable (codes "stbl") p.walk.passed child tables m p.table;
      header_is = among_this IsHeader media_headers p.walk.passed child k a none s;
    }

-- another box was passed
pub information_other : (all left later : List Box) (child : Box) (header : Option Kept) (tables : Option (BoxView × SampleTable)) → InformationPassed all left header tables → left ≡ child ∷ later
    → bytes_eq (codes "dinf") child.kind ≡ false → bytes_eq (codes "stbl") child.kind ≡ false → is_among media_headers child.kind ≡ false → InformationPassed all later header tables
information_other all left later child header tables p e n m a = record {
  walk = walk_more all left later child p.walk e;
  reference = passed_other SaysDataInformation (codes "dinf") p.walk.passed child n p.reference;
  table = first_other IsTable (codes "stbl") p.walk.passed child tables m p.table;
  header_is = among_other IsHeader media_headers p.walk.passed child header a p.header_is;
}

-- all were
pub information_all : (b : Box) (all left : List Box) (k : Kept) (t : BoxView × SampleTable) → Holds kinds.MediaInformation (box_container b) all → InformationPassed all left (Some k) (Some t) → left ≡ []
    → SaysInformation b (kept_seen k) (box_seen t.0) (map kept_seen t.1.descriptions.items) (map (λ p. p.now) t.1.group_descriptions.items)
information_all b all left k t h p e =
    let same = walk_all all left p.walk e in
    let table = first_read IsTable (codes "stbl") all p.walk.passed t same p.table in
    record {
      boxes = all;
      holds = h;
      reference = passed_must SaysDataInformation (codes "dinf") all p.walk.passed same (holds_only h (codes "dinf") refl) p.reference;
      header_is = among_read IsHeader media_headers all p.walk.passed k same p.header_is;
      stbl_is = table.same;
      table = table.says;
    }

-- no media header, or no `stbl`, is not so
pub information_headless : (b : Box) (all left : List Box) (tables : Option (BoxView × SampleTable)) → Holds kinds.MediaInformation (box_container b) all → InformationPassed all left None tables → left ≡ [] → ⊥
information_headless b all left tables h p e = among_missing IsHeader media_headers all p.walk.passed (walk_all all left p.walk e) h.quantities.0 p.header_is

pub information_tableless : (b : Box) (all left : List Box) (header : Option Kept) → Holds kinds.MediaInformation (box_container b) all → InformationPassed all left header None → left ≡ [] → ⊥
information_tableless b all left header h p e = first_missing IsTable (codes "stbl") all p.walk.passed (walk_all all left p.walk e) (holds_only h (codes "stbl") refl) p.table

-- the same by what a walk holds at its end
pub information_said : (b : Box) (all left : List Box) (header : Option Kept) (tables : Option (BoxView × SampleTable)) (k : Kept) (t : BoxView × SampleTable) → Holds kinds.MediaInformation (box_container b) all → InformationPassed all left header tables → left ≡ []
    → header ≡ Some k → tables ≡ Some t → SaysInformation b (kept_seen k) (box_seen t.0) (map kept_seen t.1.descriptions.items) (map (λ p. p.now) t.1.group_descriptions.items)
information_said b all left header tables k t h p e a c =
    let q = subst (λ (x : Option Kept). InformationPassed all left x tables) a p in
    let r = subst (λ (x : Option (BoxView × SampleTable)). InformationPassed all left (Some k) x) c q in
    information_all b all left k t h r e

pub information_no_header : (b : Box) (all left : List Box) (header : Option Kept) (tables : Option (BoxView × SampleTable)) → Holds kinds.MediaInformation (box_container b) all → InformationPassed all left header tables → left ≡ [] → header ≡ None → ⊥
information_no_header b all left header tables h p e a = information_headless b all left tables h (subst (λ (x : Option Kept). InformationPassed all left x tables) a p) e

pub information_no_table : (b : Box) (all left : List Box) (header : Option Kept) (tables : Option (BoxView × SampleTable)) → Holds kinds.MediaInformation (box_container b) all → InformationPassed all left header tables → left ≡ [] → tables ≡ None → ⊥
information_no_table b all left header tables h p e a = information_tableless b all left header h (subst (λ (x : Option (BoxView × SampleTable)). InformationPassed all left header x) a p) e
