-- The boxes of an `mdia`, one after the other.
use Rattle.std.proofs.Common.{◌≡◌, ℕ, true, false, List, [], ◌∷◌, ◌++◌, map, Option, Some, None, Bor, refl, sym, ap, subst, ◌∙◌, arith}
use Rattle.std.specs.Prelude.{codes, bytes_eq}
use Rattle.std.proofs.lemmas.List.{map-append}
use Rattle.mp4_boxes.specs.format.Box.{Box, box_container}
use Rattle.mp4_boxes.specs.format.Children.{Holds, of_kind}
use Rattle.mp4_boxes.specs.format.Layout.{mdhd, hdlr, IsSound}
use Rattle.mp4_boxes.specs.format.Places.{ruled, AreSound}
use Rattle.mp4_boxes.specs.words.View.{box_seen}
use Rattle.mp4_boxes.specs.declared.rule.Rule.TheVariants as kinds
use Rattle.mp4_boxes.proofs.Refusing.{holds_only}
use Rattle.mp4_boxes.proofs.Sound.{same_kind}
use Rattle.mp4_head.specs.words.Seen.{kept_seen}
use Rattle.mp4_head.specs.declared.media_boxes.MediaHeader.{MediaHeader}
use Rattle.mp4_head.specs.declared.information.Information.{Information}
use Rattle.mp4_head.specs.words.Containers.{SaysInformation, SaysMediaBoxes}
use Rattle.mp4_head.specs.words.Leaves.{SaysMedia}
use Rattle.mp4_head.proofs.Walks.{Walk, walk_none, walk_more, walk_here, walk_all, none_before, sound_more, FirstRead, not_yet, first_other, first_this, first_read, first_missing}
use Rattle.mp4_tables.proofs.GroupWalks.{kind_snoc, kind_snoc_other}

-- what is said of the boxes of which one stands
abbrev pub IsMediaHeader : Box → MediaHeader → Type 0
IsMediaHeader b h = SaysMedia b.payload h

abbrev pub IsHandler : Box → Bor (List ℕ) → Type 0
IsHandler b r = r.now ≡ b.payload

pub record IsInformation (b : Box) (i : Information) : Type 0 where
  pub says : SaysInformation b (kept_seen i.header) (box_seen i.stbl) (map kept_seen i.table.descriptions.items) (map (λ p. p.now) i.table.group_descriptions.items)

-- what was read of the boxes that were passed
pub record MediaPassed (all left : List Box) (header : Option MediaHeader) (handler : Option (Bor (List ℕ))) (languages : List (List ℕ)) (information : Option Information) : Type 0 where
  pub walk : Walk all left
  pub sound : AreSound (ruled kinds.Media) walk.passed
  pub header_says : FirstRead IsMediaHeader (codes "mdhd") walk.passed header
  pub handler_is : FirstRead IsHandler (codes "hdlr") walk.passed handler
  pub languages_are : languages ≡ map (λ (b : Box). b.payload) (of_kind (codes "elng") walk.passed)
  pub inside : FirstRead IsInformation (codes "minf") walk.passed information

pub media_none : (all : List Box) → MediaPassed all all None None [] None
media_none all = record { walk = walk_none all; sound = tt; header_says = not_yet refl; handler_is = not_yet refl; languages_are = refl; inside = not_yet refl }

-- the `mdhd` was read
pub media_header : (b : Box) (all left later : List Box) (child : Box) (header : Option MediaHeader) (handler : Option (Bor (List ℕ))) (languages : List (List ℕ)) (information : Option Information) (x : MediaHeader) → Holds kinds.Media (box_container b) all
    → MediaPassed all left header handler languages information → left ≡ child ∷ later
    → bytes_eq (codes "mdhd") child.kind ≡ true → IsSound mdhd child.payload → IsMediaHeader child x → MediaPassed all later (Some x) handler languages information
media_header b all left later child header handler languages information x h p e k q s =
    let is = same_kind (codes "mdhd") child.kind k in
    let one = holds_only h (codes "mdhd") refl in
    let none = none_before (codes "mdhd") all p.walk.passed later child (walk_here all left later child p.walk e) (omega (arith, one)) k in
    record {
      walk = walk_more all left later child p.walk e;
      sound = sound_more (ruled kinds.Media) p.walk.passed child p.sound (rw k q);
      header_says = first_this IsMediaHeader (codes "mdhd") p.walk.passed child x k none s;
      handler_is = first_other IsHandler (codes "hdlr") p.walk.passed child handler (rw is refl) p.handler_is;
      languages_are = p.languages_are ∙ ap (map (λ (c : Box). c.payload)) (sym (kind_snoc_other (codes "elng") p.walk.passed child (rw is refl)));
      inside = first_other IsInformation (codes "minf") p.walk.passed child information (rw is refl) p.inside;
    }

-- the `hdlr` was read
pub media_handler : (b : Box) (all left later : List Box) (child : Box) (header : Option MediaHeader) (handler : Option (Bor (List ℕ))) (languages : List (List ℕ)) (information : Option Information) (x : Bor (List ℕ)) → Holds kinds.Media (box_container b) all
    → MediaPassed all left header handler languages information → left ≡ child ∷ later
    → bytes_eq (codes "mdhd") child.kind ≡ false
    → bytes_eq (codes "hdlr") child.kind ≡ true → IsSound hdlr child.payload → IsHandler child x → MediaPassed all later header (Some x) languages information
media_handler b all left later child header handler languages information x h p e n0 k q s =
    let is = same_kind (codes "hdlr") child.kind k in
    let one = holds_only h (codes "hdlr") refl in
    let none = none_before (codes "hdlr") all p.walk.passed later child (walk_here all left later child p.walk e) (omega (arith, one)) k in
    record {
      walk = walk_more all left later child p.walk e;
      sound = sound_more (ruled kinds.Media) p.walk.passed child p.sound (rw is q);
      header_says = first_other IsMediaHeader (codes "mdhd") p.walk.passed child header n0 p.header_says;
      handler_is = first_this IsHandler (codes "hdlr") p.walk.passed child x k none s;
      languages_are = p.languages_are ∙ ap (map (λ (c : Box). c.payload)) (sym (kind_snoc_other (codes "elng") p.walk.passed child (rw is refl)));
      inside = first_other IsInformation (codes "minf") p.walk.passed child information (rw is refl) p.inside;
    }

-- an `elng` was kept
pub media_language : (b : Box) (all left later : List Box) (child : Box) (header : Option MediaHeader) (handler : Option (Bor (List ℕ))) (languages : List (List ℕ)) (information : Option Information) (x : List (List ℕ)) → Holds kinds.Media (box_container b) all
    → MediaPassed all left header handler languages information → left ≡ child ∷ later
    → bytes_eq (codes "mdhd") child.kind ≡ false
    → bytes_eq (codes "hdlr") child.kind ≡ false
    → bytes_eq (codes "elng") child.kind ≡ true → x ≡ languages ++ child.payload ∷ [] → MediaPassed all later header handler x information
media_language b all left later child header handler languages information x h p e n0 n1 k added =
    let is = same_kind (codes "elng") child.kind k in
    record {
      walk = walk_more all left later child p.walk e;
      sound = sound_more (ruled kinds.Media) p.walk.passed child p.sound (rw is tt);
      header_says = first_other IsMediaHeader (codes "mdhd") p.walk.passed child header n0 p.header_says;
      handler_is = first_other IsHandler (codes "hdlr") p.walk.passed child handler n1 p.handler_is;
      languages_are = added ∙ ap (λ (g : List (List ℕ)). g ++ child.payload ∷ []) p.languages_are ∙ sym (map-append (λ (c : Box). c.payload) (of_kind (codes "elng") p.walk.passed) (child ∷ [])) ∙ ap (map (λ (c : Box). c.payload)) (sym (kind_snoc (codes "elng") p.walk.passed child k));
      inside = first_other IsInformation (codes "minf") p.walk.passed child information (rw is refl) p.inside;
    }

-- the `minf` was read
pub media_information : (b : Box) (all left later : List Box) (child : Box) (header : Option MediaHeader) (handler : Option (Bor (List ℕ))) (languages : List (List ℕ)) (information : Option Information) (x : Information) → Holds kinds.Media (box_container b) all
    → MediaPassed all left header handler languages information → left ≡ child ∷ later
    → bytes_eq (codes "mdhd") child.kind ≡ false
    → bytes_eq (codes "hdlr") child.kind ≡ false
    → bytes_eq (codes "elng") child.kind ≡ false
    → bytes_eq (codes "minf") child.kind ≡ true → IsInformation child x → MediaPassed all later header handler languages (Some x)
media_information b all left later child header handler languages information x h p e n0 n1 n2 k s =
    let is = same_kind (codes "minf") child.kind k in
    let one = holds_only h (codes "minf") refl in
    let none = none_before (codes "minf") all p.walk.passed later child (walk_here all left later child p.walk e) (omega (arith, one)) k in
    record {
      walk = walk_more all left later child p.walk e;
      sound = sound_more (ruled kinds.Media) p.walk.passed child p.sound (rw is tt);
      header_says = first_other IsMediaHeader (codes "mdhd") p.walk.passed child header n0 p.header_says;
      handler_is = first_other IsHandler (codes "hdlr") p.walk.passed child handler n1 p.handler_is;
      languages_are = p.languages_are ∙ ap (map (λ (c : Box). c.payload)) (sym (kind_snoc_other (codes "elng") p.walk.passed child n2));
      inside = first_this IsInformation (codes "minf") p.walk.passed child x k none s;
    }

-- another box was passed
pub media_other : (b : Box) (all left later : List Box) (child : Box) (header : Option MediaHeader) (handler : Option (Bor (List ℕ))) (languages : List (List ℕ)) (information : Option Information) → Holds kinds.Media (box_container b) all → MediaPassed all left header handler languages information
    → left ≡ child ∷ later
    → bytes_eq (codes "mdhd") child.kind ≡ false
    → bytes_eq (codes "hdlr") child.kind ≡ false
    → bytes_eq (codes "elng") child.kind ≡ false
    → bytes_eq (codes "minf") child.kind ≡ false → MediaPassed all later header handler languages information
media_other b all left later child header handler languages information h p e n0 n1 n2 n3 =
    record {
      walk = walk_more all left later child p.walk e;
      sound = sound_more (ruled kinds.Media) p.walk.passed child p.sound (rw (n0, n1) tt);
      header_says = first_other IsMediaHeader (codes "mdhd") p.walk.passed child header n0 p.header_says;
      handler_is = first_other IsHandler (codes "hdlr") p.walk.passed child handler n1 p.handler_is;
      languages_are = p.languages_are ∙ ap (map (λ (c : Box). c.payload)) (sym (kind_snoc_other (codes "elng") p.walk.passed child n2));
      inside = first_other IsInformation (codes "minf") p.walk.passed child information n3 p.inside;
    }

-- all were
pub media_all : (b : Box) (all left : List Box) (x : MediaHeader) (r : Bor (List ℕ)) (languages : List (List ℕ)) (i : Information) → Holds kinds.Media (box_container b) all → MediaPassed all left (Some x) (Some r) languages (Some i) → left ≡ []
    → SaysMediaBoxes b x r.now languages (kept_seen i.header) (box_seen i.stbl) (map kept_seen i.table.descriptions.items) (map (λ p. p.now) i.table.group_descriptions.items)
media_all b all left x r languages i h p e =
    let same = walk_all all left p.walk e in
    let inside = first_read IsInformation (codes "minf") all p.walk.passed i same p.inside in
    record {
      boxes = all;
      holds = h;
      sound = subst (λ (bs : List Box). AreSound (ruled kinds.Media) bs) (sym same) p.sound;
      header_says = first_read IsMediaHeader (codes "mdhd") all p.walk.passed x same p.header_says;
      handler_is = first_read IsHandler (codes "hdlr") all p.walk.passed r same p.handler_is;
      languages_are = p.languages_are ∙ ap (λ (bs : List Box). map (λ (c : Box). c.payload) (of_kind (codes "elng") bs)) (sym same);
      information = inside.says;
    }

-- the same by what a walk holds at its end
pub media_said : (b : Box) (all left : List Box) (header : Option MediaHeader) (handler : Option (Bor (List ℕ))) (languages : List (List ℕ)) (information : Option Information) (x : MediaHeader) (r : Bor (List ℕ)) (i : Information) → Holds kinds.Media (box_container b) all
    → MediaPassed all left header handler languages information → left ≡ [] → header ≡ Some x → handler ≡ Some r → information ≡ Some i
    → SaysMediaBoxes b x r.now languages (kept_seen i.header) (box_seen i.stbl) (map kept_seen i.table.descriptions.items) (map (λ p. p.now) i.table.group_descriptions.items)
media_said b all left header handler languages information x r i h p e a c d =
    let q = subst (λ (o : Option MediaHeader). MediaPassed all left o handler languages information) a p in
    let s = subst (λ (o : Option (Bor (List ℕ))). MediaPassed all left (Some x) o languages information) c q in
    let t = subst (λ (o : Option Information). MediaPassed all left (Some x) (Some r) languages o) d s in
    media_all b all left x r languages i h t e

-- a box that must stand was read
pub media_no_header : (b : Box) (all left : List Box) (header : Option MediaHeader) (handler : Option (Bor (List ℕ))) (languages : List (List ℕ)) (information : Option Information) → Holds kinds.Media (box_container b) all → MediaPassed all left header handler languages information → left ≡ []
    → header ≡ None → ⊥
media_no_header b all left header handler languages information h p e a =
    let q = subst (λ (o : Option MediaHeader). MediaPassed all left o handler languages information) a p in
    first_missing IsMediaHeader (codes "mdhd") all q.walk.passed (walk_all all left q.walk e) (holds_only h (codes "mdhd") refl) q.header_says

pub media_no_handler : (b : Box) (all left : List Box) (header : Option MediaHeader) (handler : Option (Bor (List ℕ))) (languages : List (List ℕ)) (information : Option Information) → Holds kinds.Media (box_container b) all → MediaPassed all left header handler languages information → left ≡ []
    → handler ≡ None → ⊥
media_no_handler b all left header handler languages information h p e a =
    let q = subst (λ (o : Option (Bor (List ℕ))). MediaPassed all left header o languages information) a p in
    first_missing IsHandler (codes "hdlr") all q.walk.passed (walk_all all left q.walk e) (holds_only h (codes "hdlr") refl) q.handler_is

pub media_no_information : (b : Box) (all left : List Box) (header : Option MediaHeader) (handler : Option (Bor (List ℕ))) (languages : List (List ℕ)) (information : Option Information) → Holds kinds.Media (box_container b) all → MediaPassed all left header handler languages information → left ≡ []
    → information ≡ None → ⊥
media_no_information b all left header handler languages information h p e a =
    let q = subst (λ (o : Option Information). MediaPassed all left header handler languages o) a p in
    first_missing IsInformation (codes "minf") all q.walk.passed (walk_all all left q.walk e) (holds_only h (codes "minf") refl) q.inside
