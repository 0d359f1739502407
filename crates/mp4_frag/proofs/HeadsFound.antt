-- The boxes of which a `traf` has one.
use Rattle.std.proofs.Common.{◌≡◌, ℕ, ◌+◌, ◌≤◌, ◌||◌, Bool, true, false, cond, List, [], ◌∷◌, length, Option, Some, None, refl, sym, ap, ◌∙◌, arith}
use Rattle.std.specs.Prelude.{codes, bytes_eq}
use Rattle.mp4_boxes.specs.format.Box.{Box, Tiles, box_container}
use Rattle.mp4_boxes.specs.format.Children.{of_kind, count_among, Holds}
use Rattle.mp4_boxes.specs.declared.rule.Rule.TheVariants as rules
use Rattle.mp4_boxes.specs.declared.rule.Rule.{Rule}
use Rattle.mp4_tables.specs.words.Leaves.{boxes_of}
use Rattle.mp4_tables.proofs.LeafLists.{boxes_are}
use Rattle.mp4_frag.specs.words.RunsJudged.{children_of, only_list}

-- the last box, or what came before them
abbrev pub last_from : Option Box → List Box → Option Box
last_from o [] = o
last_from o (b ∷ boxes) = last_from (Some b) boxes

-- of all boxes these are left; the last of a type so far is this one
pub record LastSeen (kind : List ℕ) (all left : List Box) (last : Option Box) : Type 0 where
  pub same : last_from None (of_kind kind all) ≡ last_from last (of_kind kind left)

count_by : (b : Box) (kept : List Box) (n : ℕ) (v : Bool) → length kept ≡ n → length (cond v (b ∷ kept) kept) ≡ cond (v || false) 1 0 + n
count_by b kept n true e = omega arith
count_by b kept n false e = omega arith

-- as many boxes of a type as it counts
pub kept_count : (kind : List ℕ) (boxes : List Box) → length (of_kind kind boxes) ≡ count_among (kind ∷ []) boxes
kept_count kind [] = refl
kept_count kind (b ∷ boxes) = count_by b (of_kind kind boxes) (count_among (kind ∷ []) boxes) (bytes_eq kind b.kind) (kept_count kind boxes)

last_only : (xs : List Box) (o : Option Box) → length xs ≤ 1 → last_from None xs ≡ o → only_list o ≡ xs
last_only [] o h e = ap only_list (sym e)
last_only (x ∷ []) o h e = ap only_list (sym e)
last_only (x ∷ y ∷ xs) o h e = absurd (omega arith)

-- behind the last box: the only one of a type
pub last_all : (kind : List ℕ) (all left boxes : List Box) (last : Option Box) → LastSeen kind all left last → left ≡ [] → all ≡ boxes → count_among (kind ∷ []) boxes ≤ 1 → only_list last ≡ of_kind kind boxes
last_all kind all left boxes last s e f few =
    let whole : last_from None (of_kind kind all) ≡ last = s.same ∙ ap (λ bs. last_from last (of_kind kind bs)) e in
    let count = kept_count kind boxes in
    let few_kept : length (of_kind kind boxes) ≤ 1 = omega arith in
    last_only (of_kind kind boxes) last few_kept (ap (λ bs. last_from None (of_kind kind bs)) (sym f) ∙ whole)

-- the boxes that fill a box are those in it
pub holds_boxes : (b : Box) (boxes : List Box) → Tiles (box_container b) boxes → boxes ≡ children_of b
unfolding boxes_of
holds_boxes b boxes t = sym (boxes_are b boxes t)

-- the boxes that a box holds are those in it
pub holds_children : (rule : Rule) (b : Box) (boxes : List Box) → Holds rule (box_container b) boxes → boxes ≡ children_of b
unfolding boxes_of
holds_children rule b boxes h = sym (boxes_are b boxes h.tiles)

pub one_head : (b : Box) (boxes : List Box) → Holds rules.TrackFragment (box_container b) boxes → count_among (codes "tfhd" ∷ []) boxes ≤ 1
one_head b boxes h = let one = h.quantities.0 in omega (arith, one)

pub one_time : (b : Box) (boxes : List Box) → Holds rules.TrackFragment (box_container b) boxes → count_among (codes "tfdt" ∷ []) boxes ≤ 1
one_time b boxes h = h.quantities.1.0
