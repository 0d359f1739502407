-- What stands in a tiled container is one of its boxes, and the only one of a type that stands once.
use Rattle.std.proofs.Common.{◌≡◌, ℕ, ◌+◌, ◌<◌, ◌≤◌, Bool, true, false, List, [], ◌∷◌, ◌++◌, length, drop, refl, sym, ap, subst, ◌∙◌, length-append, append_assoc, arith, inl, inr}
use Rattle.std.specs.Prelude.{find, unwrap_or, bytes_eq}
use Rattle.std.proofs.lemmas.Bool.{cases_lt}
use Rattle.mp4_boxes.specs.format.Box.{Box, Extent, to_end_of_file, to_end_of_box, counted, may_be_open, sizes, LieEndToEnd, Container, IsFull, IsCounted, Tiles, StandsAfter}
use Rattle.mp4_boxes.specs.format.Children.{count_among}
use Rattle.mp4_boxes.proofs.Tiling.{front_by_length, lies_behind, first_fits, sizes-cons, sizes-append, sizes_fit}
use Rattle.mp4_boxes.proofs.Among.{hit_counts}

one_more : (before more : List Box) (b : Box) → before ++ b ∷ more ≡ (before ++ b ∷ []) ++ more
one_more before more b = simp append_assoc

-- a box of a type counts
count_one : (kind : List ℕ) (before after : List Box) (b : Box) → bytes_eq kind b.kind ≡ true → 1 ≤ count_among (kind ∷ []) (before ++ b ∷ after)
count_one kind [] after b e = rw e (omega arith)
count_one kind (c ∷ before) after b e = omega (arith, count_one kind before after b e)

count_skip : (kind : List ℕ) (c : Box) (bs : List Box) → bytes_eq kind c.kind ≡ false → count_among (kind ∷ []) (c ∷ bs) ≡ 0 + count_among (kind ∷ []) bs
count_skip kind c bs e = rw e refl

abbrev found : List ℕ → Box → List Box → Box
found kind empty boxes = unwrap_or (find (λ (x : Box). bytes_eq kind x.kind) boxes) empty

found_behind : (kind : List ℕ) (c b empty : Box) (bs : List Box) (v : Bool) → bytes_eq kind c.kind ≡ v → 1 ≤ count_among (kind ∷ []) bs → count_among (kind ∷ []) (c ∷ bs) ≡ 1
    → (count_among (kind ∷ []) bs ≡ 1 → found kind empty bs ≡ b) → found kind empty (c ∷ bs) ≡ b
found_behind kind c b empty bs true h some n behind = absurd (omega (arith, hit_counts kind c bs h, some, n))
found_behind kind c b empty bs false h some n behind = rw h (behind (omega (arith, count_skip kind c bs h, n)))

-- where one box of a type stands, it is the one that is found
pub only_one : (kind : List ℕ) (before after : List Box) (b empty : Box) → bytes_eq kind b.kind ≡ true → count_among (kind ∷ []) (before ++ b ∷ after) ≡ 1
    → found kind empty (before ++ b ∷ after) ≡ b
only_one kind [] after b empty e n = rw e refl
only_one kind (c ∷ before) after b empty e n = found_behind kind c b empty (before ++ b ∷ after) (bytes_eq kind c.kind) refl (count_one kind before after b e) n (only_one kind before after b empty e)

-- a list that is longer than another in front of the same bytes takes more of them
longer_takes_more : (is_open : Bool) (at : ℕ) (bytes : List ℕ) (bs cs : List Box) → LieEndToEnd is_open at bytes bs → LieEndToEnd is_open at bytes cs → length cs < length bs → sizes cs < sizes bs
longer_takes_more is_open at bytes bs cs l m lt =
    let r = front_by_length is_open at bytes cs bs m l (omega (arith, lt)) in
    beyond r.0 r.1
  where
    beyond : (more : List Box) → bs ≡ cs ++ more → sizes cs < sizes bs
    beyond [] e = absurd (omega (arith, lt, ap (λ (xs : List Box). length xs) e, length-append cs []))
    beyond (x ∷ more) e =
        let behind = lies_behind is_open at bytes cs (x ∷ more) (subst (λ (xs : List Box). LieEndToEnd is_open at bytes xs) e l) in
        omega (arith, ap sizes e, sizes-append cs (x ∷ more), sizes-cons x more, (first_fits is_open (at + sizes cs) (drop (sizes cs) bytes) x more behind).0)

front_in : (e : Extent) (at : ℕ) (bytes : List ℕ) (bs cs : List Box) → LieEndToEnd (may_be_open e) at bytes bs → LieEndToEnd (may_be_open e) at bytes cs
    → IsCounted e bs → IsFull e (length bytes) cs → length bs ≤ length cs
front_in to_end_of_file at bytes bs cs l m c f = elim (cases_lt (length cs) (length bs)) [
  | inl lt ↦ absurd (omega (arith, f, sizes_fit true at bytes bs l, longer_takes_more true at bytes bs cs l m lt))
  | inr le ↦ le
]
front_in to_end_of_box at bytes bs cs l m c f = elim (cases_lt (length cs) (length bs)) [
  | inl lt ↦ absurd (omega (arith, f, sizes_fit false at bytes bs l, longer_takes_more false at bytes bs cs l m lt))
  | inr le ↦ le
]
front_in (counted n) at bytes bs cs l m c f = omega (arith, c, f)

-- What stands in a tiled container is one of its boxes.
pub stands_among : (c : Container) (before bs : List Box) (b : Box) → StandsAfter c before b → Tiles c bs → (after : List Box) × (bs ≡ before ++ b ∷ after)
stands_among c before bs b s t =
    let r = front_by_length (may_be_open c.extent) c.at c.bytes (before ++ b ∷ []) bs s.0 t.front.0 (front_in c.extent c.at c.bytes (before ++ b ∷ []) bs s.0 t.front.0 s.1 t.full) in
    (r.0, r.1 ∙ sym (one_more before r.0 b))
