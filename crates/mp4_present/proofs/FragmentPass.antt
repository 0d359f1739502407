-- The `moof`s of a file whose outline is known, one after the other.
use Rattle.std.proofs.Common.{◌≡◌, ℕ, ◌+◌, ◌-◌, ◌≤◌, true, List, [], ◌∷◌, ◌++◌, Some, length, drop, max, refl, length-take, length-drop, ap, subst, ◌∙◌, arith}
use Rattle.std.specs.Prelude.{codes, fold, bytes_eq}
use Rattle.std.proofs.lemmas.List.{drop-drop}
use Rattle.mp4_boxes.specs.format.Box.{Box, LieEndToEnd, file_container, size, sizes}
use Rattle.mp4_boxes.specs.format.Children.{of_kind, Holds}
use Rattle.mp4_boxes.specs.declared.rule.Rule.TheVariants.{File}
use Rattle.mp4_boxes.proofs.Among.{of_kind-split}
use Rattle.mp4_boxes.proofs.Tiling.{lies_behind, sizes-append, sizes-cons}
use Rattle.mp4_present.specs.words.Movies.{IsWhole}
use Rattle.mp4_present.specs.words.Outline.{AreFrom, IsNextFragment, IsOutline, box_at, longest}
use Rattle.mp4_present.specs.declared.reading.TopBox.{TopBox}
use Rattle.mp4_present.specs.declared.opening.outline.Outline.{Outline}

-- the boxes of the file from a place on, of which no `moof` is longer than so many bytes
pub record Left (file : List ℕ) (at most : ℕ) : Type 0 where
  pub boxes : List Box
  pub are_from : AreFrom file at boxes
  pub short : longest (of_kind (codes "moof") boxes) ≤ most

-- the boxes behind some first ones
pub behind : (file : List ℕ) (at : ℕ) (before after : List Box) → AreFrom file at (before ++ after) → AreFrom file (at + sizes before) after
behind file at before after a =
    let w = a.whole in
    let same : drop (sizes before) (drop at file) ≡ drop (at + sizes before) file = drop-drop (sizes before) at file in
    record {
      lie = subst (λ (bytes : List ℕ). LieEndToEnd true (at + sizes before) bytes after) same (lies_behind true at (drop at file) before after a.lie);
      whole = omega (arith, w, sizes-append before after);
    }

-- all boxes of a file
pub whole_file : (file : List ℕ) (boxes : List Box) → Holds File (file_container file) boxes → AreFrom file 0 boxes
whole_file file boxes h = let full = h.tiles.full in record { lie = h.tiles.front.0; whole = omega (arith, full) }

-- the longest of some boxes, and of one more
pub longest_from : (m : ℕ) (boxes : List Box) → fold (λ (most : ℕ) (b : Box). max most (size b)) m boxes ≡ max m (longest boxes)
longest_from m [] = omega arith
longest_from m (b ∷ boxes) = omega (arith, longest_from (max m (size b)) boxes, longest_from (max 0 (size b)) boxes)

pub longest_cons : (b : Box) (boxes : List Box) → longest (b ∷ boxes) ≡ max (size b) (longest boxes)
longest_cons b boxes = omega (arith, longest_from (max 0 (size b)) boxes)

-- before the first `moof`
unfoldable pub left_first : (file : List ℕ) (boxes : List Box) (o : Outline) → Holds File (file_container file) boxes → IsOutline file boxes o → Left file 0 o.longest
left_first file boxes o h i = let most = i.longest in record { boxes = boxes; are_from = whole_file file boxes h; short = omega (arith, most) }

-- the size of a box that lies in a file
size_at : (file : List ℕ) (top : TopBox) → IsWhole (length file) top → size (box_at file top) ≡ top.header.end - top.offset
size_at file top w = let header = w.header in let within = w.within in grind (arith, length-take, length-drop)

-- the next `moof`, which is no longer, and what lies behind it
pub record Next (file : List ℕ) (top : TopBox) (most : ℕ) : Type 0 where
  pub left : Left file top.header.end most
  pub short : top.header.end ≤ top.offset + most

pub left_next : (file : List ℕ) (at most : ℕ) (top : TopBox) (l : Left file at most) → IsWhole (length file) top → IsNextFragment file at l.boxes (Some top) → Next file top most
left_next file at most top l w n =
    let b = box_at file top in
    let begins = behind file at n.0 (b ∷ n.1) (subst (AreFrom file at) n.2 l.are_from) in
    let next = behind file (at + sizes n.0) (b ∷ []) n.1 begins in
    let big = size_at file top w in
    let header = w.header in
    let one : sizes (b ∷ []) ≡ size b = omega (arith, sizes-cons b []) in
    let offset = n.4 in
    let place : at + sizes n.0 + sizes (b ∷ []) ≡ top.header.end = omega (arith, big, one, offset, header) in
    let kind : bytes_eq (codes "moof") b.kind ≡ true = rw n.5 refl in
    let all : of_kind (codes "moof") l.boxes ≡ b ∷ of_kind (codes "moof") n.1 = ap (of_kind (codes "moof")) n.2 ∙ of_kind-split (codes "moof") n.0 n.1 b kind ∙ ap (λ (bs : List Box). bs ++ b ∷ of_kind (codes "moof") n.1) n.3 in
    let longer = ap longest all ∙ longest_cons b (of_kind (codes "moof") n.1) in
    let short = l.short in
    record {
      left = record { boxes = n.1; are_from = subst (λ (k : ℕ). AreFrom file k n.1) place next; short = omega (arith, longer, short) };
      short = omega (arith, longer, short, big, header);
    }

-- the boxes behind it are those that are left
pub next_boxes : (file : List ℕ) (at most : ℕ) (top : TopBox) (l : Left file at most) (w : IsWhole (length file) top) (n : IsNextFragment file at l.boxes (Some top)) → (left_next file at most top l w n).left.boxes ≡ n.1
unfolding left_next
next_boxes file at most top l w n = refl

-- it stands at the place or behind it
pub stands_behind : (file : List ℕ) (at : ℕ) (top : TopBox) (boxes : List Box) → IsNextFragment file at boxes (Some top) → at ≤ top.offset
stands_behind file at top boxes n = let place = n.4 in omega (arith, place)
