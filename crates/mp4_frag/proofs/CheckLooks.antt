-- How many looks at tracks the check of a `moof` takes.
use Rattle.std.proofs.Common.{◌≡◌, ℕ, suc, ◌+◌, ◌*◌, ◌≤◌, true, false, List, [], ◌∷◌, length, map, refl, ap, ◌∙◌, arith, mul-le-mul_left}
use Rattle.std.proofs.Math.Nat.{mul-suc, mul_left_comm}
use Rattle.std.specs.Prelude.{codes, bytes_eq}
use Rattle.mp4_boxes.specs.format.Box.{Box, Tiles, box_container}
use Rattle.mp4_boxes.specs.format.Children.{of_kind}
use Rattle.mp4_boxes.proofs.Tiling.{sizes_fit}
use Rattle.mp4_frag.specs.format.FragmentRows.{moof_says}
use Rattle.mp4_frag.specs.format.Fragments.{track_fragment_of}
use Rattle.mp4_frag.specs.words.RunsJudged.{children_of}
use Rattle.mp4_frag.proofs.Comings.{turned}
use Rattle.mp4_frag.proofs.Costs.{boxes_eight}

abbrev pub how_many : List Box → ℕ
how_many boxes = length (of_kind (codes "traf") boxes)

-- of all boxes these are left: so many `traf`s came, each at one look each, and so at a look at each track at most
pub record MoofLooked (all left : List Box) (tracks first looks : ℕ) : Type 0 where
  pub trafs : ℕ
  pub said : trafs + how_many left ≡ how_many all
  pub boxes : trafs + length left ≤ length all
  pub some : first + trafs ≤ looks
  pub most : looks ≤ first + tracks * trafs

pub looked_traf : (all left later : List Box) (b : Box) (tracks first looks more : ℕ) → MoofLooked all left tracks first looks → left ≡ b ∷ later → bytes_eq b.kind (codes "traf") ≡ true → looks + 1 ≤ more → more ≤ looks + tracks → MoofLooked all later tracks first more
looked_traf all left later b tracks first looks more h e k one each =
    let kept : of_kind (codes "traf") (b ∷ later) ≡ b ∷ of_kind (codes "traf") later = rw (turned (codes "traf") b.kind ∙ k) refl in
    let same : how_many left ≡ suc (how_many later) = ap how_many e ∙ ap (λ (bs : List Box). length bs) kept in
    let longer : length left ≡ suc (length later) = ap (λ (bs : List Box). length bs) e in
    let said = h.said in
    let boxes = h.boxes in
    let some = h.some in
    let most = h.most in
    record { trafs = suc h.trafs; said = omega (arith, said, same); boxes = omega (arith, boxes, longer); some = omega (arith, some, one); most = omega (arith, most, each, mul-suc tracks h.trafs) }

-- the `traf`s that a `moof` says
trafs_said : (moof : Box) → length (moof_says moof).trafs ≡ how_many (children_of moof)
trafs_said moof = many (of_kind (codes "traf") (children_of moof))
  where
    many : (trafs : List Box) → length (map track_fragment_of (map children_of trafs)) ≡ length trafs
    many [] = refl
    many (b ∷ trafs) = ap suc (many trafs)

-- behind the last box
pub looked_one : (all left : List Box) (moof : Box) (tracks first looks : ℕ) → MoofLooked all left tracks first looks → left ≡ [] → all ≡ children_of moof → first + length (moof_says moof).trafs ≤ looks
looked_one all left moof tracks first looks h e same =
    let said = h.said in
    let some = h.some in
    omega (arith, said, some, ap how_many e, ap how_many same, trafs_said moof)

pub looked_each : (all left : List Box) (moof : Box) (tracks first looks : ℕ) → MoofLooked all left tracks first looks → all ≡ children_of moof → looks ≤ first + tracks * length (moof_says moof).trafs
looked_each all left moof tracks first looks h same =
    let said = h.said in
    let most = h.most in
    let few : h.trafs ≤ length (moof_says moof).trafs = omega (arith, said, ap how_many same, trafs_said moof) in
    omega (arith, most, mul-le-mul_left tracks few)

-- by bytes: each `traf` has 8 of them
looked_fit : (all boxes : List Box) (moof : Box) (tracks trafs : ℕ) → all ≡ boxes → Tiles (box_container moof) boxes → trafs ≤ length all → 8 * (tracks * trafs) ≤ tracks * length moof.payload
looked_fit all boxes moof tracks trafs same tiles few =
    let eight = boxes_eight false (moof.offset + moof.header) moof.payload boxes tiles.front.0 in
    let fit = sizes_fit false (moof.offset + moof.header) moof.payload boxes tiles.front.0 in
    let bytes : 8 * trafs ≤ length moof.payload = omega (arith, eight, fit, few, ap (λ (bs : List Box). length bs) same) in
    omega (arith, mul_left_comm 8 tracks trafs, mul-le-mul_left tracks bytes)

pub looked_ended : (all left boxes : List Box) (moof : Box) (tracks first looks : ℕ) → MoofLooked all left tracks first looks → all ≡ boxes → Tiles (box_container moof) boxes → 8 * looks ≤ 8 * first + tracks * length moof.payload
looked_ended all left boxes moof tracks first looks h same tiles =
    let most = h.most in
    let b = h.boxes in
    let few : h.trafs ≤ length all = omega (arith, b) in
    omega (arith, most, looked_fit all boxes moof tracks h.trafs same tiles few)

-- one is refused behind them
pub looked_fault : (all left later boxes : List Box) (b : Box) (moof : Box) (tracks first looks more : ℕ) → MoofLooked all left tracks first looks → left ≡ b ∷ later → all ≡ boxes → Tiles (box_container moof) boxes → more ≤ looks + tracks
    → 8 * more ≤ 8 * first + tracks * length moof.payload
looked_fault all left later boxes b moof tracks first looks more h e same tiles each =
    let most = h.most in
    let bs = h.boxes in
    let longer : length left ≡ suc (length later) = ap (λ (bs : List Box). length bs) e in
    let few : suc h.trafs ≤ length all = omega (arith, bs, longer) in
    omega (arith, most, each, mul-suc tracks h.trafs, looked_fit all boxes moof tracks (suc h.trafs) same tiles few)
