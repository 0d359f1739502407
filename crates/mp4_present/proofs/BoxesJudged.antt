-- Boxes by the definition, with any tests of their headers: they fill the container.
use Rattle.std.proofs.Common.{◌≡◌, ◌⊎◌, ℕ, zero, suc, ◌+◌, ◌<◌, Bool, true, false, List, [], ◌∷◌, ◌++◌, length, drop, Option, Some, None, Result, Ok, Err, inl, inr, refl, sym, ap, ◌∙◌, arith, length-append}
use Rattle.mp4_boxes.specs.format.Box.{Box, Header, may_be_open, Container, header_at, box_of, sizes, IsFront, IsDue, Tiles}
use Rattle.mp4_boxes.specs.format.BoxFaults.{header_there, type_of, IsHeaderFault}
use Rattle.mp4_boxes.specs.format.Children.{lacks}
use Rattle.mp4_boxes.specs.format.FirstFault.{HeaderTests, boxes_behind, boxes_or_fault, top_or_fault, top_tests, counted_or_fault, no_tests, first_failed, naming, is_due, and_then, unless_failed, none_lacking}
use Rattle.mp4_boxes.specs.declared.rule.Rule.TheVariants.{File}
use Rattle.mp4_boxes.specs.declared.fault.Fault.{Fault}
use Rattle.mp4_boxes.proofs.Tiling.{header_fault_refuses, lies_push, sizes_fit, tiles_one}
use Rattle.mp4_boxes.proofs.Walking.{located_err, located_ok}
use Rattle.mp4_boxes.proofs.ChildrenJudged.{length_few, due_is, full_is, one_more, none_counted}

-- a header fails one of these tests
abbrev FailsTest : HeaderTests → Fault → Type 0
FailsTest tests f = (before : List Box) × (b : Box) × (first_failed (naming b (tests before b.kind)) ≡ Some f)

-- the boxes fill the container, or a header is at fault, or a test of one fails
abbrev Outcome : HeaderTests → Container → Result (List Box) Fault → Type 0
Outcome tests c (Ok bs) = Tiles c bs
Outcome tests c (Err f) = IsHeaderFault c f ⊎ FailsTest tests f

-- the bytes behind some boxes
abbrev rest_of : Container → List Box → List ℕ
rest_of c bs = drop (sizes bs) c.bytes

-- the header behind them
abbrev there : Container → List Box → Result Header Fault
there c bs = header_there (may_be_open c.extent) (length (rest_of c bs)) (rest_of c bs) c.kind (c.at + sizes bs)

-- its box
abbrev next_of : Container → List Box → Header → Box
next_of c bs h = box_of (c.at + sizes bs) (rest_of c bs) h

-- the walk of the definition from some boxes on
walk : (n : ℕ) (tests : HeaderTests) (c : Container) (bs : List Box) → IsFront c bs → length c.bytes < n + length bs → Outcome tests c (boxes_behind n tests c bs)
walk zero tests c bs g f =
    absurd (omega (arith, f, length_few (may_be_open c.extent) c.at c.bytes bs g.0, sizes_fit (may_be_open c.extent) c.at c.bytes bs g.0))
walk (suc n) tests c bs g f = by_due (is_due c.extent (length c.bytes) (length bs) (sizes bs)) refl (λ b front. walk n tests c (bs ++ b ∷ []) front (omega (arith, f, length-append bs (b ∷ []))))
  where
    admitted : (h : Header) → IsFront c (bs ++ next_of c bs h ∷ []) → (o : Option Fault) → first_failed (naming (next_of c bs h) (tests bs h.kind)) ≡ o
        → ((b : Box) → IsFront c (bs ++ b ∷ []) → Outcome tests c (boxes_behind n tests c (bs ++ b ∷ [])))
        → Outcome tests c (unless_failed o (λ u. boxes_behind n tests c (bs ++ next_of c bs h ∷ [])))
    admitted h front (Some k) e on = inr (bs, next_of c bs h, e)
    admitted h front None e on = on (next_of c bs h) front

    by_header : (r : Result Header Fault) → there c bs ≡ r → IsDue c.extent (length c.bytes) bs
        → ((b : Box) → IsFront c (bs ++ b ∷ []) → Outcome tests c (boxes_behind n tests c (bs ++ b ∷ [])))
        → Outcome tests c (and_then r (λ h. unless_failed (first_failed (naming (next_of c bs h) (tests bs h.kind))) (λ u. boxes_behind n tests c (bs ++ next_of c bs h ∷ []))))
    by_header (Err k) e d on =
        let l = located_err c.kind (c.at + sizes bs) (type_of (rest_of c bs)) (header_at (may_be_open c.extent) (rest_of c bs)) k e in
        inl (record { before = bs; front = g; due = d; kind = l.0; fails = l.1; named = l.2 })
    by_header (Ok h) e d on =
        let read = located_ok c.kind (c.at + sizes bs) (type_of (rest_of c bs)) (header_at (may_be_open c.extent) (rest_of c bs)) h e in
        admitted h (lies_push (may_be_open c.extent) c.at c.bytes bs h g.0 read, one_more c.extent (length c.bytes) bs (next_of c bs h) d) (first_failed (naming (next_of c bs h) (tests bs h.kind))) refl on

    by_due : (v : Bool) → is_due c.extent (length c.bytes) (length bs) (sizes bs) ≡ v
        → ((b : Box) → IsFront c (bs ++ b ∷ []) → Outcome tests c (boxes_behind n tests c (bs ++ b ∷ [])))
        → Outcome tests c (boxes_behind (suc n) tests c bs)
    by_due false d on = rw d (record { front = g; full = full_is c.extent (length c.bytes) bs d (sizes_fit (may_be_open c.extent) c.at c.bytes bs g.0) g.1 })
    by_due true d on = rw d (by_header (there c bs) refl (due_is c.extent (length c.bytes) bs d) on)

-- the whole walk
judged : (tests : HeaderTests) (c : Container) → Outcome tests c (boxes_or_fault tests c)
judged tests c = walk (suc (length c.bytes)) tests c [] (tt, none_counted c.extent) (omega arith)

-- counted boxes by the definition are those that lie there
pub counted_are : (c : Container) (boxes : List Box) → Tiles c boxes → counted_or_fault c ≡ Ok boxes
counted_are c boxes t = by (counted_or_fault c) (judged no_tests c)
  where
    by : (r : Result (List Box) Fault) → Outcome no_tests c r → r ≡ Ok boxes
    by (Ok bs) j = ap (λ (xs : List Box). Ok xs) (tiles_one c bs boxes j t)
    by (Err f) (inl h) = absurd (header_fault_refuses c f boxes h t)
    by (Err f) (inr h) = let no = h.2 in absurd cc

-- the file's own boxes by the definition are those that fill it
pub top_are : (c : Container) (bs boxes : List Box) → top_or_fault c ≡ Ok bs → Tiles c boxes → bs ≡ boxes
top_are c bs boxes e t = by (boxes_or_fault top_tests c) (judged top_tests c) e
  where
    kept : (cs : List Box) (v : Bool) → lacks File cs ≡ v → none_lacking File c cs ≡ Ok bs → cs ≡ bs
    kept cs true l f = let g = (rw l at f) in absurd cc
    kept cs false l f = let g : ◌≡◌ {A = Result (List Box) Fault} (Ok cs) (Ok bs) = (rw l at f) in cc

    by : (r : Result (List Box) Fault) → Outcome top_tests c r → and_then r (none_lacking File c) ≡ Ok bs → bs ≡ boxes
    by (Ok cs) j f = sym (kept cs (lacks File cs) refl f) ∙ tiles_one c cs boxes j t
    by (Err g) j f = absurd cc
