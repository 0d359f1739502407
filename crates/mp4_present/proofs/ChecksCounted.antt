-- The steps of the checks of all `moof`s of a file.
use Rattle.std.proofs.Common.{◌≡◌, ℕ, ◌+◌, true, List, ◌∷◌, ◌++◌, Some, None, length, refl, sym, ap, subst, ◌∙◌, arith}
use Rattle.std.proofs.Math.Nat.{le_refl}
use Rattle.std.specs.Prelude.{codes, bytes_eq}
use Rattle.mp4_boxes.specs.format.Box.{Box, file_container}
use Rattle.mp4_boxes.specs.format.Children.{Holds, of_kind}
use Rattle.mp4_boxes.specs.declared.rule.Rule.TheVariants.{File}
use Rattle.mp4_boxes.proofs.Among.{of_kind-split}
use Rattle.mp4_present.specs.words.Movies.{IsWhole}
use Rattle.mp4_present.specs.words.Outline.{AreFrom, IsNextFragment, box_at, longest}
use Rattle.mp4_present.specs.words.WalkSteps.{moof_steps, boxes_steps, ChecksAll, ChecksWithin}
use Rattle.mp4_present.specs.declared.reading.TopBox.{TopBox}
use Rattle.mp4_present.proofs.FragmentPass.{Left, left_next, next_boxes, whole_file}
use Rattle.mp4_present.proofs.MoofsPassed.{IsRead, read_is}

-- so many steps were taken, and as many as the `moof`s from a place on say are left of those for all
abbrev pub StepsLeft : List ℕ → ℕ → ℕ → ℕ → Type 0
StepsLeft file at old new =
    (all : List Box) → Holds File (file_container file) all → (boxes : List Box) × (AreFrom file at boxes × (new + boxes_steps (of_kind (codes "moof") boxes) ≡ old + boxes_steps (of_kind (codes "moof") all)))

-- before the first one
pub steps_first : (file : List ℕ) (start : ℕ) → StepsLeft file 0 start start
steps_first file start all h = (all, (whole_file file all h, refl))

-- where no further one is checked
pub checks_done : (file : List ℕ) (at old new : ℕ) → StepsLeft file at old new → ChecksWithin file old new
checks_done file at old new left all h = let some = (left all h).1.1 in omega (arith, some)

-- where there is no further one
pub checks_all : (file : List ℕ) (at old new : ℕ) → StepsLeft file at old new → ((boxes : List Box) → AreFrom file at boxes → IsNextFragment file at boxes None) → ChecksAll file old new
checks_all file at old new left none all h =
    let l = left all h in
    let some = l.1.1 in
    omega (arith, some, ap boxes_steps (none l.0 l.1.0))

one_less : (w rest all before after old : ℕ) → after ≡ before + w → before + (w + rest) ≡ old + all → after + rest ≡ old + all
one_less w rest all before after old a h = omega (arith, a, h)

-- the boxes behind the next `moof`: it was the first `moof` of those before
pub next_left : (file : List ℕ) (at : ℕ) (top : TopBox) (w : IsWhole (length file) top) (boxes : List Box) (a : AreFrom file at boxes) → IsNextFragment file at boxes (Some top)
    → (m : Box) (bytes : List ℕ) (len : ℕ) → IsRead file top m bytes len
    → (left : List Box) × AreFrom file top.header.end left × (of_kind (codes "moof") boxes ≡ m ∷ of_kind (codes "moof") left)
next_left file at top w boxes a next m bytes len r =
    let b = box_at file top in
    let there : b ≡ m = sym (read_is file top m bytes len r) in
    let l : Left file at (longest (of_kind (codes "moof") boxes)) = record { boxes = boxes; are_from = a; short = le_refl _ } in
    let on = (left_next file at (longest (of_kind (codes "moof") boxes)) top l w next).left in
    let same : on.boxes ≡ next.1 = next_boxes file at (longest (of_kind (codes "moof") boxes)) top l w next in
    let kind : bytes_eq (codes "moof") b.kind ≡ true = rw next.5 refl in
    let moofs : of_kind (codes "moof") boxes ≡ b ∷ of_kind (codes "moof") next.1 =
    ap (of_kind (codes "moof")) next.2 ∙ of_kind-split (codes "moof") next.0 next.1 b kind ∙ ap (λ (bs : List Box). bs ++ b ∷ of_kind (codes "moof") next.1) next.3 in
    (next.1, subst (λ (bs : List Box). AreFrom file top.header.end bs) same on.are_from, moofs ∙ ap (λ (x : Box). x ∷ of_kind (codes "moof") next.1) there)

-- one more was checked
pub next_checked : (file : List ℕ) (at : ℕ) (top : TopBox) (all : List Box) (w : IsWhole (length file) top) (boxes : List Box) (a : AreFrom file at boxes) → IsNextFragment file at boxes (Some top)
    → (m : Box) (bytes : List ℕ) (len : ℕ) → IsRead file top m bytes len → (before after start : ℕ) → after ≡ before + moof_steps m
    → before + boxes_steps (of_kind (codes "moof") boxes) ≡ start + boxes_steps (of_kind (codes "moof") all)
    → (left : List Box) × (AreFrom file top.header.end left × (after + boxes_steps (of_kind (codes "moof") left) ≡ start + boxes_steps (of_kind (codes "moof") all)))
next_checked file at top all w boxes a next m bytes len r before after start check h =
    let l = next_left file at top w boxes a next m bytes len r in
    let sum = subst (λ (bs : List Box). before + boxes_steps bs ≡ start + boxes_steps (of_kind (codes "moof") all)) l.2 h in
    (l.0, (l.1, one_less (moof_steps m) (boxes_steps (of_kind (codes "moof") l.0)) _ before after start check sum))
