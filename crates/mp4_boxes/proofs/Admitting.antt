-- A walk over the boxes of a container under a rule of the table, and over counted boxes.
use Rattle.std.proofs.Common.{◌≡◌, ℕ, ◌+◌, ◌<◌, ◌≤◌, Bool, true, false, List, [], ◌∷◌, ◌++◌, length, drop, Ok, Err, IsTrue, refl, sym, ap, subst, ◌∙◌, arith, ltb, if◌then◌else◌}
use Rattle.std.specs.Prelude.{not, ◌&&◌, nat_lt}
use Rattle.std.specs.List.{AllByRecursion, list_any}
use Rattle.std.proofs.lemmas.Bool.{ltb-true, ltb-false}
use Rattle.mp4_boxes.specs.format.Bytes.{field}
use Rattle.mp4_boxes.specs.format.Box.{Box, Header, Container, Tiles, to_end_of_box, counted, header_at, box_of, sizes, first_boxes, box_container, counted_container}
use Rattle.mp4_boxes.specs.format.BoxFaults.{IsHeaderFault, header_there, type_of, unreadable}
use Rattle.mp4_boxes.specs.format.Children.{Line, Quantity, one, at_most_one, any, IsQuantity, Holds, table, is_among, allows, repeats, lacks, is_single, is_needed, count_among}
use Rattle.mp4_boxes.specs.declared.rule.Rule.{Rule}
use Rattle.mp4_boxes.specs.declared.fault.Fault.{Fault}
use Rattle.mp4_boxes.proofs.Among.{all_append, count-append}
use Rattle.mp4_boxes.proofs.Walking.{Passed, passed_more, passed_more-boxes, passed_boxes, passed_tiles, located_err}
use Rattle.mp4_boxes.proofs.Plain.{not_is_false, or_is_false}

-- ---- the boxes of a box

-- what is shown of its payload holds of the box as a container
as_box : (P : Container → Type 0) (b : Box) (base : ℕ) (bytes : List ℕ) → base ≡ b.offset + b.header → bytes ≡ b.payload
    → P (record { kind = b.kind; offset = b.offset; at = base; bytes = bytes; extent = to_end_of_box }) → P (box_container b)
as_box P b base bytes e f h = subst P (λ i. record { kind = b.kind; offset = b.offset; at = e i; bytes = f i; extent = to_end_of_box }) h

pub box_tiles : (b : Box) (base : ℕ) (bytes : List ℕ) (count at : ℕ) → base ≡ b.offset + b.header → bytes ≡ b.payload → Passed base bytes count at → length bytes ≤ at
    → Tiles (box_container b) (first_boxes count base bytes)
box_tiles b base bytes count at e f p le = as_box (λ (c : Container). Tiles c (first_boxes count base bytes)) b base bytes e f (passed_tiles b.kind b.offset base bytes count at p le)

-- ---- counted boxes

as_counted : (P : Container → Type 0) (b : Box) (base : ℕ) (bytes : List ℕ) (due : ℕ) → base ≡ b.offset + b.header + 8 → bytes ≡ drop 8 b.payload → due ≡ field b.payload 4 4
    → P (record { kind = b.kind; offset = b.offset; at = base; bytes = bytes; extent = counted due }) → P (counted_container b)
as_counted P b base bytes due e f d h = subst P (λ i. record { kind = b.kind; offset = b.offset; at = e i; bytes = f i; extent = counted (d i) }) h

pub counted_tiles : (b : Box) (base : ℕ) (bytes : List ℕ) (due count at : ℕ) → base ≡ b.offset + b.header + 8 → bytes ≡ drop 8 b.payload → due ≡ field b.payload 4 4
    → Passed base bytes count at → count ≡ due → Tiles (counted_container b) (first_boxes count base bytes)
counted_tiles b base bytes due count at e f d p full =
    let s = passed_boxes base bytes count at p in
    let m = p.many in
    as_counted (λ (c : Container). Tiles c (first_boxes count base bytes)) b base bytes due e f d
    (record { front = (rw s p.lie, rw s (omega arith)); full = rw s (omega arith) })

pub counted_fault : (b : Box) (base : ℕ) (bytes : List ℕ) (due count at : ℕ) (f : Fault) → base ≡ b.offset + b.header + 8 → bytes ≡ drop 8 b.payload → due ≡ field b.payload 4 4
    → Passed base bytes count at → count < due → header_there false (length (drop at bytes)) (drop at bytes) b.kind (base + at) ≡ Err f → IsHeaderFault (counted_container b) f
counted_fault b base bytes due count at f e g d p lt h =
    let r = located_err b.kind (base + at) (type_of (drop at bytes)) (header_at false (drop at bytes)) f h in
    let t = p.taken in
    let m = p.many in
    as_counted (λ (c : Container). IsHeaderFault c f) b base bytes due e g d
    (record {
      before = p.boxes;
      front = (p.lie, omega arith);
      due = omega arith;
      kind = r.0;
      fails = ap (λ (n : ℕ). header_at false (drop n bytes)) t ∙ r.1;
      named = r.2 ∙ ap (λ (n : ℕ). unreadable b.kind (base + n) (type_of (drop n bytes)) r.0) (sym t);
    })

-- ---- boxes that the table allows

abbrev pub KeepsSingle : List Box → Line → Type 0
KeepsSingle boxes line = is_single line.quantity ≡ true → count_among line.kinds boxes ≤ 1

-- What a walk under a rule has shown of the boxes that it passed.
pub record Admitted (rule : Rule) (base : ℕ) (bytes : List ℕ) (count at : ℕ) : Type 0 where
  pub passed : Passed base bytes count at
  pub allowed : AllByRecursion (λ (b : Box). IsTrue (allows rule b.kind)) passed.boxes
  pub few : AllByRecursion (KeepsSingle passed.boxes) (table rule)

pub none_few : (lines : List Line) → AllByRecursion (KeepsSingle []) lines
none_few [] = tt
none_few (line ∷ lines) = ((λ s. omega arith), none_few lines)

pub admitted_none : (rule : Rule) (base : ℕ) (bytes : List ℕ) → Admitted rule base bytes 0 0
admitted_none rule base bytes = record { passed = record { boxes = []; lie = tt; taken = refl; many = refl }; allowed = tt; few = none_few (table rule) }

and_false : (a b : Bool) → a ≡ true → (a && b) ≡ false → b ≡ false
and_false true b t e = e
and_false false b t e = absurd cc

one_more : (n : ℕ) (v : Bool) → n ≤ 1 → (v && ltb 0 n) ≡ false → n + ((if v then 1 else 0) + 0) ≤ 1
one_more n true le e = let z = ltb-false 0 n e in omega arith
one_more n false le e = omega arith

pub few_more : (lines : List Line) (boxes : List Box) (b : Box) → AllByRecursion (KeepsSingle boxes) lines
    → list_any (λ (line : Line). is_single line.quantity && (is_among line.kinds b.kind && nat_lt 0 (count_among line.kinds boxes))) lines ≡ false → AllByRecursion (KeepsSingle (boxes ++ b ∷ [])) lines
few_more [] boxes b h e = tt
few_more (line ∷ lines) boxes b h e =
    let o = or_is_false _ _ e in
    ((λ s. rw (count-append line.kinds boxes (b ∷ [])) (one_more (count_among line.kinds boxes) (is_among line.kinds b.kind) (h.0 s) (and_false _ _ s o.0))), few_more lines boxes b h.1 o.1)

-- one more box that the table allows and that repeats none
pub admitted_more : (rule : Rule) (base : ℕ) (bytes : List ℕ) (count at : ℕ) (h : Header) → Admitted rule base bytes count at → header_at false (drop at bytes) ≡ Ok h
    → allows rule h.kind ≡ true → repeats rule (first_boxes count base bytes) h.kind ≡ false → Admitted rule base bytes (count + 1) (at + h.size)
admitted_more rule base bytes count at h a e allowed fresh =
    let p = a.passed in
    let b = box_of (base + sizes p.boxes) (drop (sizes p.boxes) bytes) h in
    let is = passed_more-boxes base bytes count at h p e in
    let new : repeats rule p.boxes h.kind ≡ false = ap (λ (bs : List Box). repeats rule bs h.kind) (sym (passed_boxes base bytes count at p)) ∙ fresh in
    record {
      passed = passed_more base bytes count at h p e;
      allowed = rw is (all_append (λ (x : Box). IsTrue (allows rule x.kind)) p.boxes (b ∷ []) a.allowed (allowed, tt));
      few = rw is (few_more (table rule) p.boxes b a.few new);
    }

quantity_is : (q : Quantity) (n : ℕ) → (is_single q ≡ true → n ≤ 1) → (is_needed q && not (ltb 0 n)) ≡ false → IsQuantity q n
quantity_is one n few e = let a = few refl in let b = ltb-true 0 n (not_is_false (ltb 0 n) e) in omega arith
quantity_is at_most_one n few e = few refl
quantity_is any n few e = tt

pub quantities_are : (lines : List Line) (boxes : List Box) → AllByRecursion (KeepsSingle boxes) lines
    → list_any (λ (line : Line). is_needed line.quantity && not (nat_lt 0 (count_among line.kinds boxes))) lines ≡ false
    → AllByRecursion (λ (line : Line). IsQuantity line.quantity (count_among line.kinds boxes)) lines
quantities_are [] boxes h e = tt
quantities_are (line ∷ lines) boxes h e =
    let o = or_is_false _ _ e in
    (quantity_is line.quantity (count_among line.kinds boxes) h.0 o.0, quantities_are lines boxes h.1 o.1)

-- A walk that reached the end under the rule, and lacks none, has passed what the container holds.
pub admitted_holds : (rule : Rule) (b : Box) (base : ℕ) (bytes : List ℕ) (count at : ℕ) → base ≡ b.offset + b.header → bytes ≡ b.payload → Admitted rule base bytes count at → length bytes ≤ at
    → lacks rule (first_boxes count base bytes) ≡ false → Holds rule (box_container b) (first_boxes count base bytes)
admitted_holds rule b base bytes count at e f a le whole =
    let s = passed_boxes base bytes count at a.passed in
    let w : lacks rule a.passed.boxes ≡ false = ap (lacks rule) (sym s) ∙ whole in
    record {
      tiles = box_tiles b base bytes count at e f a.passed le;
      allowed = rw s a.allowed;
      quantities = rw s (quantities_are (table rule) a.passed.boxes a.few w);
    }
