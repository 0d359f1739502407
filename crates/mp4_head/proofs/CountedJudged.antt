-- The counted boxes or the first fault of a container by the definition: it is tiled by the boxes, or no header can be read where one is due.
use Rattle.std.proofs.Common.{◌≡◌, ℕ, zero, suc, ◌+◌, ◌<◌, Bool, true, false, ltb, List, [], ◌∷◌, ◌++◌, length, drop, Result, Ok, Err, refl, subst, arith, length-append}
use Rattle.std.proofs.lemmas.Bool.{ltb-true, ltb-false}
use Rattle.mp4_boxes.specs.format.Box.{Box, Header, Container, header_at, box_of, sizes, IsFront, Tiles, counted_container}
use Rattle.mp4_boxes.specs.format.BoxFaults.{header_there, type_of, IsHeaderFault}
use Rattle.mp4_boxes.specs.format.FirstFault.{boxes_behind, counted_or_fault, no_tests, and_then}
use Rattle.mp4_boxes.specs.declared.fault.Fault.{Fault}
use Rattle.mp4_boxes.proofs.CountedFaults.{counted_in}
use Rattle.mp4_boxes.proofs.Tiling.{lies_push, sizes_fit}
use Rattle.mp4_boxes.proofs.Walking.{located_err, located_ok, length_few}

-- so many boxes of these bytes, of a box of this type and place
module _ (kind : List ℕ) (offset at : ℕ) (bytes : List ℕ) (count : ℕ) where
  abbrev whole : Container
  whole = counted_in kind offset at bytes count

  -- what is so of the boxes or of the fault
  abbrev Outcome : Result (List Box) Fault → Type 0
  Outcome (Ok bs) = Tiles whole bs
  Outcome (Err f) = IsHeaderFault whole f

  -- the box that a header begins behind these, and the header or fault there
  abbrev next_of : List Box → Header → Box
  next_of bs h = box_of (at + sizes bs) (drop (sizes bs) bytes) h

  abbrev there : List Box → Result Header Fault
  there bs = header_there false (length (drop (sizes bs) bytes)) (drop (sizes bs) bytes) kind (at + sizes bs)

  -- the definition goes on behind boxes that were passed
  walk : (n : ℕ) (bs : List Box) → IsFront whole bs → length bytes < n + length bs → Outcome (boxes_behind n no_tests whole bs)
  walk zero bs g f = absurd (omega (arith, f, length_few at bytes bs g.0, sizes_fit false at bytes bs g.0))
  walk (suc n) bs g f = by_due (ltb (length bs) count) refl (λ b front. walk n (bs ++ b ∷ []) front (omega (arith, f, length-append bs (b ∷ []))))
    where
      by_header : (r : Result Header Fault) → there bs ≡ r → length bs < count → ((b : Box) → IsFront whole (bs ++ b ∷ []) → Outcome (boxes_behind n no_tests whole (bs ++ b ∷ [])))
          → Outcome (and_then r (λ h. boxes_behind n no_tests whole (bs ++ next_of bs h ∷ [])))
      by_header (Err k) e d on =
          let l = located_err kind (at + sizes bs) (type_of (drop (sizes bs) bytes)) (header_at false (drop (sizes bs) bytes)) k e in
          record { before = bs; front = g; due = d; kind = l.0; fails = l.1; named = l.2 }
      by_header (Ok h) e d on =
          let read = located_ok kind (at + sizes bs) (type_of (drop (sizes bs) bytes)) (header_at false (drop (sizes bs) bytes)) h e in
          on (next_of bs h) (lies_push false at bytes bs h g.0 read, omega (arith, d, length-append bs (next_of bs h ∷ [])))

      by_due : (v : Bool) → ltb (length bs) count ≡ v → ((b : Box) → IsFront whole (bs ++ b ∷ []) → Outcome (boxes_behind n no_tests whole (bs ++ b ∷ []))) → Outcome (boxes_behind (suc n) no_tests whole bs)
      by_due false d on = rw d (record { front = g; full = omega (arith, g.1, ltb-false (length bs) count d) })
      by_due true d on = rw d (by_header (there bs) refl (ltb-true (length bs) count d) on)

  -- it begins with none
  judged : Outcome (counted_or_fault whole)
  judged = walk (suc (length bytes)) [] (tt, omega arith) (omega arith)

-- The counted boxes by the definition tile the container.
pub counted_are : (b : Box) (bs : List Box) → counted_or_fault (counted_container b) ≡ Ok bs → Tiles (counted_container b) bs
counted_are b bs e =
    let c = counted_container b in
    subst (Outcome c.kind c.offset c.at c.bytes _) e (judged c.kind c.offset c.at c.bytes _)

-- The fault by the definition is one of a header.
pub counted_fault_is : (b : Box) (f : Fault) → counted_or_fault (counted_container b) ≡ Err f → IsHeaderFault (counted_container b) f
counted_fault_is b f e =
    let c = counted_container b in
    subst (Outcome c.kind c.offset c.at c.bytes _) e (judged c.kind c.offset c.at c.bytes _)
