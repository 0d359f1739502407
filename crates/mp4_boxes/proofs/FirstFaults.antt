-- A walk under tests names the first fault: what is left of the definition behind the boxes that were passed.
use Rattle.std.proofs.Common.{◌≡◌, ℕ, suc, ◌+◌, ◌-◌, ◌<◌, ◌≤◌, Bool, true, false, ltb, List, [], ◌∷◌, ◌++◌, length, take, drop, Option, Some, None, Result, Ok, Err, refl, sym, ap, subst, ◌∙◌, arith}
use Rattle.std.specs.Prelude.{nat_lt}
use Rattle.std.proofs.lemmas.Bool.{ltb-true, ltb-false}
use Rattle.std.proofs.lemmas.List.{take_rest}
use Rattle.mp4_boxes.specs.format.Box.{Box, Header, Container, to_end_of_box, header_at, box_of, sizes, first_boxes, box_container}
use Rattle.mp4_boxes.specs.format.BoxFaults.{header_there, fault_of}
use Rattle.mp4_boxes.specs.format.Children.{allows, repeats, lacks}
use Rattle.mp4_boxes.specs.format.FirstFault.{HeaderTests, boxes_behind, boxes_or_fault, children_or_fault, rule_tests, first_failed, naming, is_due, and_then, none_lacking}
use Rattle.mp4_boxes.specs.declared.rule.Rule.{Rule}
use Rattle.mp4_boxes.specs.declared.fault.Fault.{Fault}
use Rattle.mp4_boxes.specs.declared.fault.Kind.TheVariants.{BoxNotInProfile, DuplicateBox, MissingBox}
use Rattle.mp4_boxes.proofs.Walking.{Passed, passed_more, passed_more-boxes, passed_boxes, passed_few, passed_within, read_there}

-- bytes as the boxes of a box of this type and place
abbrev pub walked : List ℕ → ℕ → ℕ → List ℕ → Container
walked kind offset base bytes = record { kind = kind; offset = offset; at = base; bytes = bytes; extent = to_end_of_box }

-- ---- one step of the definition

step_end : (n : ℕ) (tests : HeaderTests) (c : Container) (before : List Box) → is_due c.extent (length c.bytes) (length before) (sizes before) ≡ false → boxes_behind (suc n) tests c before ≡ Ok before
step_end n tests c before d = rw d refl

abbrev There : Container → List Box → Result Header Fault → Type 0
There c before r = header_there false (length (drop (sizes before) c.bytes)) (drop (sizes before) c.bytes) c.kind (c.at + sizes before) ≡ r

step_header : (n : ℕ) (tests : HeaderTests) (kind : List ℕ) (offset base : ℕ) (bytes : List ℕ) (before : List Box) (f : Fault) → nat_lt (sizes before) (length bytes) ≡ true → There (walked kind offset base bytes) before (Err f)
    → boxes_behind (suc n) tests (walked kind offset base bytes) before ≡ Err f
step_header n tests kind offset base bytes before f d e = rw (d, e) refl

step_test : (n : ℕ) (tests : HeaderTests) (kind : List ℕ) (offset base : ℕ) (bytes : List ℕ) (before : List Box) (h : Header) (f : Fault) → nat_lt (sizes before) (length bytes) ≡ true → There (walked kind offset base bytes) before (Ok h)
    → first_failed (naming (box_of (base + sizes before) (drop (sizes before) bytes) h) (tests before h.kind)) ≡ Some f
    → boxes_behind (suc n) tests (walked kind offset base bytes) before ≡ Err f
step_test n tests kind offset base bytes before h f d e t = rw (d, e, t) refl

step_more : (n : ℕ) (tests : HeaderTests) (kind : List ℕ) (offset base : ℕ) (bytes : List ℕ) (before : List Box) (h : Header) → nat_lt (sizes before) (length bytes) ≡ true → There (walked kind offset base bytes) before (Ok h)
    → first_failed (naming (box_of (base + sizes before) (drop (sizes before) bytes) h) (tests before h.kind)) ≡ None
    → boxes_behind (suc n) tests (walked kind offset base bytes) before ≡ boxes_behind n tests (walked kind offset base bytes) (before ++ box_of (base + sizes before) (drop (sizes before) bytes) h ∷ [])
step_more n tests kind offset base bytes before h d e t = rw (d, e, t) refl

-- ---- a walk

-- the definition goes on behind the boxes that were passed
abbrev pub GoesOn : HeaderTests → List ℕ → ℕ → ℕ → List ℕ → ℕ → Type 0
GoesOn tests kind offset base bytes count = boxes_or_fault tests (walked kind offset base bytes)
    ≡ boxes_behind (suc (length bytes) - count) tests (walked kind offset base bytes) (first_boxes count base bytes)

pub goes_none : (tests : HeaderTests) (kind : List ℕ) (offset base : ℕ) (bytes : List ℕ) → GoesOn tests kind offset base bytes 0
goes_none tests kind offset base bytes = let e : suc (length bytes) - 0 ≡ suc (length bytes) = omega arith in rw e refl

-- where it goes on, by the boxes that were passed, with one step left at least
goes : (tests : HeaderTests) (kind : List ℕ) (offset base : ℕ) (bytes : List ℕ) (count at : ℕ) (p : Passed base bytes count at) → GoesOn tests kind offset base bytes count
    → boxes_or_fault tests (walked kind offset base bytes) ≡ boxes_behind (suc (length bytes - count)) tests (walked kind offset base bytes) p.boxes
goes tests kind offset base bytes count at p g =
    let few = passed_few base bytes count at p in
    let w = passed_within base bytes count at p in
    let n : suc (length bytes) - count ≡ suc (length bytes - count) = omega arith in
    g ∙ (λ i. boxes_behind (n i) tests (walked kind offset base bytes) (passed_boxes base bytes count at p i))

due : (base : ℕ) (bytes : List ℕ) (count at : ℕ) (p : Passed base bytes count at) → at < length bytes → nat_lt (sizes p.boxes) (length bytes) ≡ true
due base bytes count at p lt = let t = p.taken in ltb_is (sizes p.boxes) (length bytes) (omega arith)
  where
    by : (a b : ℕ) (v : Bool) → ltb a b ≡ v → a < b → ltb a b ≡ true
    by a b true e lt = e
    by a b false e lt = absurd (omega (arith, lt, ltb-false a b e))

    ltb_is : (a b : ℕ) → a < b → ltb a b ≡ true
    ltb_is a b lt = by a b (ltb a b) refl lt

there : (kind : List ℕ) (offset base : ℕ) (bytes : List ℕ) (count at : ℕ) (p : Passed base bytes count at) (r : Result Header Fault)
    → header_there false (length (drop at bytes)) (drop at bytes) kind (base + at) ≡ r → There (walked kind offset base bytes) p.boxes r
there kind offset base bytes count at p r e = ap (λ (k : ℕ). header_there false (length (drop k bytes)) (drop k bytes) kind (base + k)) p.taken ∙ e

abbrev Judges : HeaderTests → ℕ → List ℕ → ℕ → ℕ → Header → Option Fault → Type 0
Judges tests base bytes count at h o = first_failed (naming (box_of (base + at) (drop at bytes) h) (tests (first_boxes count base bytes) h.kind)) ≡ o

judges : (tests : HeaderTests) (base : ℕ) (bytes : List ℕ) (count at : ℕ) (p : Passed base bytes count at) (h : Header) (o : Option Fault) → Judges tests base bytes count at h o
    → first_failed (naming (box_of (base + sizes p.boxes) (drop (sizes p.boxes) bytes) h) (tests p.boxes h.kind)) ≡ o
judges tests base bytes count at p h o e =
    (λ i. first_failed (naming (box_of (base + p.taken i) (drop (p.taken i) bytes) h) (tests (sym (passed_boxes base bytes count at p) i) h.kind))) ∙ e

pub goes_more : (tests : HeaderTests) (kind : List ℕ) (offset base : ℕ) (bytes : List ℕ) (count at : ℕ) (h : Header) → Passed base bytes count at → at < length bytes
    → header_there false (length (drop at bytes)) (drop at bytes) kind (base + at) ≡ Ok h → Judges tests base bytes count at h None
    → GoesOn tests kind offset base bytes count → GoesOn tests kind offset base bytes (count + 1)
goes_more tests kind offset base bytes count at h p lt e t g =
    let read : header_at false (drop at bytes) ≡ Ok h = read_there (drop at bytes) kind (base + at) h e in
    let q = passed_more base bytes count at h p read in
    let same : first_boxes (count + 1) base bytes ≡ p.boxes ++ box_of (base + sizes p.boxes) (drop (sizes p.boxes) bytes) h ∷ [] = passed_boxes base bytes (count + 1) (at + h.size) q ∙ passed_more-boxes base bytes count at h p read in
    let few = passed_few base bytes count at p in
    let n : length bytes - count ≡ suc (length bytes) - (count + 1) = omega arith in
    goes tests kind offset base bytes count at p g
    ∙ step_more (length bytes - count) tests kind offset base bytes p.boxes h (due base bytes count at p lt) (there kind offset base bytes count at p (Ok h) e) (judges tests base bytes count at p h None t)
    ∙ (λ i. boxes_behind (n i) tests (walked kind offset base bytes) (sym same i))

pub stops_header : (tests : HeaderTests) (kind : List ℕ) (offset base : ℕ) (bytes : List ℕ) (count at : ℕ) (f : Fault) → Passed base bytes count at → at < length bytes
    → header_there false (length (drop at bytes)) (drop at bytes) kind (base + at) ≡ Err f
    → GoesOn tests kind offset base bytes count → boxes_or_fault tests (walked kind offset base bytes) ≡ Err f
stops_header tests kind offset base bytes count at f p lt e g =
    goes tests kind offset base bytes count at p g
    ∙ step_header (length bytes - count) tests kind offset base bytes p.boxes f (due base bytes count at p lt) (there kind offset base bytes count at p (Err f) e)

pub stops_test : (tests : HeaderTests) (kind : List ℕ) (offset base : ℕ) (bytes : List ℕ) (count at : ℕ) (h : Header) (f : Fault) → Passed base bytes count at → at < length bytes
    → header_there false (length (drop at bytes)) (drop at bytes) kind (base + at) ≡ Ok h → Judges tests base bytes count at h (Some f)
    → GoesOn tests kind offset base bytes count → boxes_or_fault tests (walked kind offset base bytes) ≡ Err f
stops_test tests kind offset base bytes count at h f p lt e t g =
    goes tests kind offset base bytes count at p g
    ∙ step_test (length bytes - count) tests kind offset base bytes p.boxes h f (due base bytes count at p lt) (there kind offset base bytes count at p (Ok h) e) (judges tests base bytes count at p h (Some f) t)

pub ends : (tests : HeaderTests) (kind : List ℕ) (offset base : ℕ) (bytes : List ℕ) (count at : ℕ) → Passed base bytes count at → length bytes ≤ at
    → GoesOn tests kind offset base bytes count → boxes_or_fault tests (walked kind offset base bytes) ≡ Ok (first_boxes count base bytes)
ends tests kind offset base bytes count at p le g =
    let t = p.taken in
    goes tests kind offset base bytes count at p g
    ∙ step_end (length bytes - count) tests (walked kind offset base bytes) p.boxes (not_due (sizes p.boxes) (length bytes) (ltb (sizes p.boxes) (length bytes)) refl (omega arith))
    ∙ ap (λ (bs : List Box). Ok bs) (sym (passed_boxes base bytes count at p))
  where
    not_due : (a b : ℕ) (v : Bool) → ltb a b ≡ v → b ≤ a → ltb a b ≡ false
    not_due a b false e le = e
    not_due a b true e le = absurd (omega (arith, le, ltb-true a b e))

-- ---- children under a rule

pub refused_there : (rule : Rule) (base : ℕ) (bytes : List ℕ) (count at : ℕ) (h : Header) → allows rule h.kind ≡ false → Judges (rule_tests rule) base bytes count at h (Some (record { kind = BoxNotInProfile; box_type = h.kind; offset = base + at }))
refused_there rule base bytes count at h e = rw e refl

pub repeated_there : (rule : Rule) (base : ℕ) (bytes : List ℕ) (count at : ℕ) (h : Header) → allows rule h.kind ≡ true → repeats rule (first_boxes count base bytes) h.kind ≡ true
    → Judges (rule_tests rule) base bytes count at h (Some (record { kind = DuplicateBox; box_type = h.kind; offset = base + at }))
repeated_there rule base bytes count at h e r = rw (e, r) refl

pub admitted_there : (rule : Rule) (base : ℕ) (bytes : List ℕ) (count at : ℕ) (h : Header) → allows rule h.kind ≡ true → repeats rule (first_boxes count base bytes) h.kind ≡ false → Judges (rule_tests rule) base bytes count at h None
admitted_there rule base bytes count at h e r = rw (e, r) refl

pub children_stop : (rule : Rule) (b : Box) (base : ℕ) (bytes : List ℕ) (f : Fault) → base ≡ b.offset + b.header → bytes ≡ b.payload
    → boxes_or_fault (rule_tests rule) (walked b.kind b.offset base bytes) ≡ Err f → children_or_fault rule (box_container b) ≡ Err f
children_stop rule b base bytes f e g h =
    subst (λ (c : Container). children_or_fault rule c ≡ Err f) (λ i. walked b.kind b.offset (e i) (g i)) (ap (λ (r : Result (List Box) Fault). and_then r (none_lacking rule (walked b.kind b.offset base bytes))) h)

children_end : (rule : Rule) (b : Box) (base : ℕ) (bytes : List ℕ) (boxes : List Box) (r : Result (List Box) Fault) → base ≡ b.offset + b.header → bytes ≡ b.payload
    → boxes_or_fault (rule_tests rule) (walked b.kind b.offset base bytes) ≡ Ok boxes → none_lacking rule (walked b.kind b.offset base bytes) boxes ≡ r → children_or_fault rule (box_container b) ≡ r
children_end rule b base bytes boxes r e g h l =
    subst (λ (c : Container). children_or_fault rule c ≡ r) (λ i. walked b.kind b.offset (e i) (g i)) (ap (λ (s : Result (List Box) Fault). and_then s (none_lacking rule (walked b.kind b.offset base bytes))) h ∙ l)

pub children_lack : (rule : Rule) (b : Box) (base : ℕ) (bytes : List ℕ) (boxes : List Box) → base ≡ b.offset + b.header → bytes ≡ b.payload
    → boxes_or_fault (rule_tests rule) (walked b.kind b.offset base bytes) ≡ Ok boxes → lacks rule boxes ≡ true → children_or_fault rule (box_container b) ≡ Err (fault_of MissingBox b)
children_lack rule b base bytes boxes e g h l = children_end rule b base bytes boxes (Err (fault_of MissingBox b)) e g h (rw l refl)

pub children_hold : (rule : Rule) (b : Box) (base : ℕ) (bytes : List ℕ) (boxes : List Box) → base ≡ b.offset + b.header → bytes ≡ b.payload
    → boxes_or_fault (rule_tests rule) (walked b.kind b.offset base bytes) ≡ Ok boxes → lacks rule boxes ≡ false → children_or_fault rule (box_container b) ≡ Ok boxes
children_hold rule b base bytes boxes e g h l = children_end rule b base bytes boxes (Ok boxes) e g h (rw l refl)

-- what was read behind some bytes, where the container's type is known by another word
pub there_behind : (bytes : List ℕ) (at : ℕ) (container kind : List ℕ) (place : ℕ) (r : Result Header Fault) → container ≡ kind
    → header_there false (length (take (length bytes - at) (drop at bytes))) (take (length bytes - at) (drop at bytes)) container place ≡ r
    → header_there false (length (drop at bytes)) (drop at bytes) kind place ≡ r
there_behind bytes at container kind place r k e = rw (take_rest bytes at, k) at e
