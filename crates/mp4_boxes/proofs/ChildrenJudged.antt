-- The boxes or the first fault of a container by the definition: it holds the boxes, or the fault is one of its children.
use Rattle.std.proofs.Common.{◌≡◌, ℕ, zero, suc, ◌+◌, ◌<◌, ◌≤◌, Bool, true, false, List, [], ◌∷◌, ◌++◌, length, drop, Result, Ok, Err, IsTrue, inl, inr, refl, sym, ap, subst, arith, length-append}
use Rattle.std.specs.Prelude.{◌⊎◌}
use Rattle.std.specs.List.{AllByRecursion}
use Rattle.std.proofs.lemmas.Bool.{ltb-true, ltb-false}
use Rattle.mp4_boxes.specs.format.Box.{Box, Header, Extent, to_end_of_file, to_end_of_box, counted, may_be_open, Container, header_at, box_of, size, sizes, LieEndToEnd, IsCounted, IsFront, IsDue, IsFull}
use Rattle.mp4_boxes.specs.format.BoxFaults.{header_there, type_of, IsHeaderFault, IsNotInProfile, IsDuplicate, IsChildFault}
use Rattle.mp4_boxes.specs.format.Children.{Holds, table, allows, repeats, lacks}
use Rattle.mp4_boxes.specs.format.FirstFault.{boxes_behind, boxes_or_fault, children_or_fault, rule_tests, first_failed, naming, is_due, and_then, unless_failed, none_lacking}
use Rattle.mp4_boxes.specs.declared.rule.Rule.{Rule}
use Rattle.mp4_boxes.specs.declared.fault.Fault.{Fault}
use Rattle.mp4_boxes.proofs.Admitting.{KeepsSingle, none_few, few_more, quantities_are}
use Rattle.mp4_boxes.proofs.Among.{all_append}
use Rattle.mp4_boxes.proofs.Refusing.{child_fault_refuses}
use Rattle.mp4_boxes.proofs.Tiling.{first_fits, lies_push, sizes-cons, sizes_fit, tiles_one}
use Rattle.mp4_boxes.proofs.Walking.{located_err, located_ok}

-- what is so of boxes that were passed under a rule
record Good (rule : Rule) (c : Container) (bs : List Box) : Type 0 where
  pub front : IsFront c bs
  pub allowed : AllByRecursion (λ (b : Box). IsTrue (allows rule b.kind)) bs
  pub few : AllByRecursion (KeepsSingle bs) (table rule)

abbrev Outcome : Rule → Container → Result (List Box) Fault → Type 0
Outcome rule c (Ok bs) = Good rule c bs × IsFull c.extent (length c.bytes) bs
Outcome rule c (Err f) = IsHeaderFault c f ⊎ (IsNotInProfile rule c f ⊎ IsDuplicate rule c f)

pub length_few : (is_open : Bool) (at : ℕ) (bytes : List ℕ) (bs : List Box) → LieEndToEnd is_open at bytes bs → length bs ≤ sizes bs
length_few is_open at bytes [] l = omega arith
length_few is_open at bytes (b ∷ bs) l =
    omega (arith, sizes-cons b bs, length_few is_open (at + size b) (drop (size b) bytes) bs l.1, (first_fits is_open at bytes b bs l).0)

pub due_is : (e : Extent) (left : ℕ) (bs : List Box) → is_due e left (length bs) (sizes bs) ≡ true → IsDue e left bs
due_is to_end_of_file left bs d = ltb-true (sizes bs) left d
due_is to_end_of_box left bs d = ltb-true (sizes bs) left d
due_is (counted n) left bs d = ltb-true (length bs) n d

pub full_is : (e : Extent) (left : ℕ) (bs : List Box) → is_due e left (length bs) (sizes bs) ≡ false → sizes bs ≤ left → IsCounted e bs → IsFull e left bs
full_is to_end_of_file left bs d le c = let g = ltb-false (sizes bs) left d in omega arith
full_is to_end_of_box left bs d le c = let g = ltb-false (sizes bs) left d in omega arith
full_is (counted n) left bs d le c = let g = ltb-false (length bs) n d in omega arith

pub one_more : (e : Extent) (left : ℕ) (bs : List Box) (b : Box) → IsDue e left bs → IsCounted e (bs ++ b ∷ [])
one_more to_end_of_file left bs b d = tt
one_more to_end_of_box left bs b d = tt
one_more (counted n) left bs b d = omega (arith, d, length-append bs (b ∷ []))

abbrev rest_of : Container → List Box → List ℕ
rest_of c bs = drop (sizes bs) c.bytes

abbrev there : Container → List Box → Result Header Fault
there c bs = header_there (may_be_open c.extent) (length (rest_of c bs)) (rest_of c bs) c.kind (c.at + sizes bs)

abbrev next_of : Container → List Box → Header → Box
next_of c bs h = box_of (c.at + sizes bs) (rest_of c bs) h

walk : (n : ℕ) (rule : Rule) (c : Container) (bs : List Box) → Good rule c bs → length c.bytes < n + length bs → Outcome rule c (boxes_behind n (rule_tests rule) c bs)
walk zero rule c bs g f =
    absurd (omega (arith, f, length_few (may_be_open c.extent) c.at c.bytes bs g.front.0, sizes_fit (may_be_open c.extent) c.at c.bytes bs g.front.0))
walk (suc n) rule c bs g f = by_due (is_due c.extent (length c.bytes) (length bs) (sizes bs)) refl (λ b good. walk n rule c (bs ++ b ∷ []) good (omega (arith, f, length-append bs (b ∷ []))))
  where
    fresh : (h : Header) → IsFront c (bs ++ next_of c bs h ∷ []) → (w : Bool) → repeats rule bs h.kind ≡ w → allows rule h.kind ≡ true
        → ((b : Box) → Good rule c (bs ++ b ∷ []) → Outcome rule c (boxes_behind n (rule_tests rule) c (bs ++ b ∷ [])))
        → Outcome rule c (unless_failed (first_failed (naming (next_of c bs h) (rule_tests rule bs h.kind))) (λ u. boxes_behind n (rule_tests rule) c (bs ++ next_of c bs h ∷ [])))
    fresh h front true r a on = rw (a, r) (inr (inr (record { before = bs; b = next_of c bs h; stands = front; repeated = r; named = refl })))
    fresh h front false r a on =
        rw (a, r) (on (next_of c bs h) (record {
          front = front;
          allowed = all_append (λ (b : Box). IsTrue (allows rule b.kind)) bs (next_of c bs h ∷ []) g.allowed (a, tt);
          few = few_more (table rule) bs (next_of c bs h) g.few r;
        }))

    admitted : (h : Header) → IsFront c (bs ++ next_of c bs h ∷ []) → (v : Bool) → allows rule h.kind ≡ v
        → ((b : Box) → Good rule c (bs ++ b ∷ []) → Outcome rule c (boxes_behind n (rule_tests rule) c (bs ++ b ∷ [])))
        → Outcome rule c (unless_failed (first_failed (naming (next_of c bs h) (rule_tests rule bs h.kind))) (λ u. boxes_behind n (rule_tests rule) c (bs ++ next_of c bs h ∷ [])))
    admitted h front false a on = rw a (inr (inl (record { before = bs; b = next_of c bs h; stands = front; refused = a; named = refl })))
    admitted h front true a on = fresh h front (repeats rule bs h.kind) refl a on

    by_header : (r : Result Header Fault) → there c bs ≡ r → IsDue c.extent (length c.bytes) bs
        → ((b : Box) → Good rule c (bs ++ b ∷ []) → Outcome rule c (boxes_behind n (rule_tests rule) c (bs ++ b ∷ [])))
        → Outcome rule c (and_then r (λ h. unless_failed (first_failed (naming (next_of c bs h) (rule_tests rule bs h.kind))) (λ u. boxes_behind n (rule_tests rule) c (bs ++ next_of c bs h ∷ []))))
    by_header (Err k) e d on =
        let l = located_err c.kind (c.at + sizes bs) (type_of (rest_of c bs)) (header_at (may_be_open c.extent) (rest_of c bs)) k e in
        inl (record { before = bs; front = g.front; due = d; kind = l.0; fails = l.1; named = l.2 })
    by_header (Ok h) e d on =
        let read = located_ok c.kind (c.at + sizes bs) (type_of (rest_of c bs)) (header_at (may_be_open c.extent) (rest_of c bs)) h e in
        admitted h (lies_push (may_be_open c.extent) c.at c.bytes bs h g.front.0 read, one_more c.extent (length c.bytes) bs (next_of c bs h) d) (allows rule h.kind) refl on

    by_due : (v : Bool) → is_due c.extent (length c.bytes) (length bs) (sizes bs) ≡ v
        → ((b : Box) → Good rule c (bs ++ b ∷ []) → Outcome rule c (boxes_behind n (rule_tests rule) c (bs ++ b ∷ [])))
        → Outcome rule c (boxes_behind (suc n) (rule_tests rule) c bs)
    by_due false d on = rw d (g, full_is c.extent (length c.bytes) bs d (sizes_fit (may_be_open c.extent) c.at c.bytes bs g.front.0) g.front.1)
    by_due true d on = rw d (by_header (there c bs) refl (due_is c.extent (length c.bytes) bs d) on)

abbrev Judged : Rule → Container → Result (List Box) Fault → Type 0
Judged rule c (Ok bs) = Holds rule c bs
Judged rule c (Err f) = IsChildFault rule c f

judged_by : (rule : Rule) (c : Container) (r : Result (List Box) Fault) → Outcome rule c r → Judged rule c (and_then r (none_lacking rule c))
judged_by rule c (Err f) (inl h) = inl h
judged_by rule c (Err f) (inr (inl h)) = inr (inl h)
judged_by rule c (Err f) (inr (inr h)) = inr (inr (inl h))
judged_by rule c (Ok bs) o = by (lacks rule bs) refl
  where
    by : (v : Bool) → lacks rule bs ≡ v → Judged rule c (none_lacking rule c bs)
    by true l = rw l (inr (inr (inr (record { boxes = bs; tiles = record { front = o.0.front; full = o.1 }; lacking = l; named = refl }))))
    by false l = rw l (record { tiles = record { front = o.0.front; full = o.1 }; allowed = o.0.allowed; quantities = quantities_are (table rule) bs o.0.few l })

pub none_counted : (e : Extent) → IsCounted e []
none_counted to_end_of_file = tt
none_counted to_end_of_box = tt
none_counted (counted n) = omega arith

judged : (rule : Rule) (c : Container) → Judged rule c (children_or_fault rule c)
judged rule c = judged_by rule c (boxes_or_fault (rule_tests rule) c) (walk (suc (length c.bytes)) rule c [] (record { front = (tt, none_counted c.extent); allowed = tt; few = none_few (table rule) }) (omega arith))

-- The boxes by the definition are those that the container holds.
pub children_are : (rule : Rule) (c : Container) (bs : List Box) → children_or_fault rule c ≡ Ok bs → Holds rule c bs
children_are rule c bs e = subst (Judged rule c) e (judged rule c)

-- The fault by the definition is one of its children.
pub child_fault_is : (rule : Rule) (c : Container) (f : Fault) → children_or_fault rule c ≡ Err f → IsChildFault rule c f
child_fault_is rule c f e = subst (Judged rule c) e (judged rule c)

-- Where a container holds boxes, they are those by the definition.
pub held_are : (rule : Rule) (c : Container) (bs : List Box) → Holds rule c bs → children_or_fault rule c ≡ Ok bs
held_are rule c bs h = by (children_or_fault rule c) (judged rule c)
  where
    by : (r : Result (List Box) Fault) → Judged rule c r → r ≡ Ok bs
    by (Ok cs) j = ap (λ (xs : List Box). Ok xs) (sym (tiles_one c bs cs h.tiles j.tiles))
    by (Err f) j = absurd (child_fault_refuses rule c f bs j h)
