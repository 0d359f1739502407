-- The boxes of pieces that were written one after the other, their trees, and that the parts that these say spell the pieces.
use Rattle.std.proofs.Common.{◌≡◌, ℕ, ◌+◌, ◌*◌, ◌^◌, ◌<◌, ◌≤◌, Bool, true, false, cond, List, [], ◌∷◌, ◌++◌, length, unwrap_or, refl, sym, ap, subst, ◌∙◌, append_assoc, arith, length-append}
use Rattle.std.specs.Prelude.{codes, map, flat_map, nat_lt}
use Rattle.std.specs.List.{AllByRecursion, AllZip}
use Rattle.mp4_boxes.specs.format.Box.{Box, sizes, LieEndToEnd}
use Rattle.mp4_boxes.specs.format.Children.{of_kind, count_among}
use Rattle.mp4_boxes.specs.format.Written.{header_bytes, header_length}
use Rattle.mp4_boxes.specs.format.Places.{ruled, AreSound}
use Rattle.mp4_boxes.specs.declared.rule.Rule.TheVariants as rules
use Rattle.mp4_boxes.proofs.Lying.{lies}
use Rattle.mp4_boxes.proofs.LyingData.{data_box, lies_data, length-header_bytes}
use Rattle.mp4_boxes.proofs.WrittenBoxes.{placed_box, length-box_bytes}
use Rattle.mp4_boxes.proofs.Plain.{append_four}
use Rattle.mp4_frag.specs.declared.trex.Trex.{Trex}
use Rattle.mp4_frag.specs.format.Fragments.{Fragment, FragmentTree, IsFragmentTree, fragment_of}
use Rattle.mp4_frag.specs.format.FragmentSamples.{Part, parts_of, all_parts, trex_for, no_trex}
use Rattle.mp4_content.specs.format.TimedSamples.{TimedSample}
use Rattle.mp4_plan.specs.format.Pieces.{Piece}
use Rattle.mp4_plan.specs.format.Normal.{piece_data, moof_bytes, piece_bytes, pieces_bytes}
use Rattle.mp4_plan.specs.format.PieceLaws.{IsOnePiece}
use Rattle.mp4_plan.proofs.RunRows.{FitsRow}
use Rattle.mp4_plan.proofs.WrittenFragment.{IsWritablePiece, moof_payload, moof_short, moof_same}
use Rattle.mp4_plan.proofs.PieceTree.{moof_content, piece_tree, piece_tree_is, fragment_again, traf_sound}
use Rattle.mp4_plan.proofs.PieceSays.{HasFlags, offset_of, piece_part, Spells, part_spells}

-- the piece can be written, and its samples have one description and flags of 28 bits
pub record IsGood (piece : Piece) : Type 0 where
  pub writable : IsWritablePiece piece
  pub flags : AllByRecursion HasFlags piece.samples
  pub one : IsOnePiece piece.samples

-- ---- sizes

-- a sample has fewer than 2^32 bytes
data_short : (samples : List TimedSample) → AllByRecursion FitsRow samples → length (flat_map (λ (s : TimedSample). s.sample.bytes) samples) ≤ length samples * 2 ^ 32
data_short [] h = omega arith
data_short (s ∷ samples) h =
    let size = h.0.size in
    let others = data_short samples h.1 in
    omega (arith, length-append s.sample.bytes (flat_map (λ (s : TimedSample). s.sample.bytes) samples))

-- The data of a piece fits a header.
pub data_fits : (piece : Piece) → IsWritablePiece piece → 16 + length (piece_data piece) < 2 ^ 63
data_fits piece h =
    let short = data_short piece.samples h.rows in
    let few = h.few in
    omega arith

-- a header has at most 16 bytes
pub header_small : (n : ℕ) → header_length n ≤ 16
header_small n = by_size (nat_lt (8 + n) (2 ^ 32))
  where
    by_size : (v : Bool) → cond v 8 16 ≤ 16
    by_size true = omega arith
    by_size false = omega arith

-- Data begins near its `moof`.
pub offset_near : (piece : Piece) → IsWritablePiece piece → offset_of piece < 2 ^ 31
offset_near piece h =
    let moof = moof_short piece h 0 0 (omega arith) in
    let header = header_small (length (piece_data piece)) in
    omega arith

-- how many bytes a piece takes
pub length-piece_bytes : (sequence : ℕ) (piece : Piece) → IsWritablePiece piece → length (piece_bytes sequence piece) ≡ offset_of piece + length (piece_data piece)
length-piece_bytes sequence piece h =
    let moof = moof_bytes sequence (offset_of piece) piece in
    let header = header_bytes (codes "mdat") (length (piece_data piece)) in
    omega (arith, length-append (moof ++ header) (piece_data piece), length-append moof header, moof_same piece h sequence (offset_of piece), length-header_bytes (codes "mdat") (length (piece_data piece)) refl)

-- the same behind a front
regroup_more : (front before payload rest : List ℕ) → front ++ (before ++ payload ++ rest) ≡ (front ++ before) ++ (payload ++ rest)
regroup_more front before payload rest = simp append_assoc

-- ---- boxes and trees

-- the `moof` and the `mdat` of each piece, from a place and a sequence number on
abbrev pub pieces_boxes : ℕ → ℕ → List Piece → List Box
pieces_boxes at n [] = []
pieces_boxes at n (piece ∷ more) =
    placed_box at (moof_content n (offset_of piece) piece) ∷ data_box (codes "mdat") (piece_data piece) (at + length (moof_bytes n (offset_of piece) piece))
    ∷ pieces_boxes (at + length (piece_bytes n piece)) (n + 1) more

-- the tree of each `moof`
abbrev pub pieces_trees : ℕ → ℕ → List Piece → List FragmentTree
pieces_trees at n [] = []
pieces_trees at n (piece ∷ more) = piece_tree at n (offset_of piece) piece ∷ pieces_trees (at + length (piece_bytes n piece)) (n + 1) more

-- The boxes lie end to end, and nothing follows.
pub pieces_lie : (at n : ℕ) (list : List Piece) → AllByRecursion IsGood list → LieEndToEnd true at (pieces_bytes n list) (pieces_boxes at n list)
pieces_lie at n [] h = tt
pieces_lie at n (piece ∷ more) h =
    let w = h.0.writable in
    let payload = moof_payload n (offset_of piece) piece in
    let moof = moof_bytes n (offset_of piece) piece in
    let header = header_bytes (codes "mdat") (length (piece_data piece)) in
    let rest = pieces_bytes (n + 1) more in
    let short = moof_short piece w n (offset_of piece) (offset_near piece w) in
    let moof_long : length moof ≡ 8 + length payload = length-box_bytes (codes "moof") payload refl in
    let data_long = data_fits piece w in
    let whole = length-piece_bytes n piece w in
    let same = moof_same piece w n (offset_of piece) in
    let next : at + length (piece_bytes n piece) ≡ at + length moof + (header_length (length (piece_data piece)) + length (piece_data piece)) = omega arith in
    let behind = subst (λ (k : ℕ). LieEndToEnd true k rest (pieces_boxes (at + length (piece_bytes n piece)) (n + 1) more)) next (pieces_lie (at + length (piece_bytes n piece)) (n + 1) more h.1) in
    let second = lies_data (codes "mdat") (piece_data piece) rest true (at + length moof) (pieces_boxes (at + length (piece_bytes n piece)) (n + 1) more) refl (omega arith) behind in
    let from : at + length moof ≡ at + (8 + length payload) = omega arith in
    let first = lies (codes "moof") payload (header ++ (piece_data piece ++ rest)) refl (omega arith) true at
    (data_box (codes "mdat") (piece_data piece) (at + length moof) ∷ pieces_boxes (at + length (piece_bytes n piece)) (n + 1) more)
    (subst (λ (k : ℕ). LieEndToEnd true k (header ++ (piece_data piece ++ rest)) (data_box (codes "mdat") (piece_data piece) (at + length moof) ∷ pieces_boxes (at + length (piece_bytes n piece)) (n + 1) more)) from second) in
    subst (λ (bytes : List ℕ). LieEndToEnd true at bytes (pieces_boxes at n (piece ∷ more))) (sym (append_four moof header (piece_data piece) rest)) first

-- They take as many bytes as are written.
pub pieces_sizes : (at n : ℕ) (list : List Piece) → AllByRecursion IsGood list → sizes (pieces_boxes at n list) ≡ length (pieces_bytes n list)
pieces_sizes at n [] h = refl
pieces_sizes at n (piece ∷ more) h =
    let w = h.0.writable in
    let others = pieces_sizes (at + length (piece_bytes n piece)) (n + 1) more h.1 in
    let moof_long : length (moof_bytes n (offset_of piece) piece) ≡ 8 + length (moof_payload n (offset_of piece) piece) = length-box_bytes (codes "moof") (moof_payload n (offset_of piece) piece) refl in
    let same = moof_same piece w n (offset_of piece) in
    omega (arith, length-piece_bytes n piece w, length-append (piece_bytes n piece) (pieces_bytes (n + 1) more))

-- They are boxes of these two types alone.
pub pieces_have : (P : List ℕ → Type 0) (at n : ℕ) (list : List Piece) → P (codes "moof") → P (codes "mdat") → AllByRecursion (λ (b : Box). P b.kind) (pieces_boxes at n list)
pieces_have P at n [] a b = tt
pieces_have P at n (piece ∷ more) a b = (a, (b, pieces_have P (at + length (piece_bytes n piece)) (n + 1) more a b))

-- none of them is a `moov`
pub no_movies : (at n : ℕ) (list : List Piece) → of_kind (codes "moov") (pieces_boxes at n list) ≡ []
no_movies at n [] = refl
no_movies at n (piece ∷ more) = no_movies (at + length (piece_bytes n piece)) (n + 1) more

-- the same by count
pub count_movies : (at n : ℕ) (list : List Piece) → count_among (codes "moov" ∷ []) (pieces_boxes at n list) ≡ 0
count_movies at n [] = refl
count_movies at n (piece ∷ more) = omega (arith, count_movies (at + length (piece_bytes n piece)) (n + 1) more)

-- The trees are those of the `moof`s among them.
pub moofs_are : (at n : ℕ) (list : List Piece) → map (λ (f : FragmentTree). f.moof) (pieces_trees at n list) ≡ of_kind (codes "moof") (pieces_boxes at n list)
moofs_are at n [] = refl
moofs_are at n (piece ∷ more) = ap (λ (l : List Box). placed_box at (moof_content n (offset_of piece) piece) ∷ l) (moofs_are (at + length (piece_bytes n piece)) (n + 1) more)

-- Each tree is that of its `moof`.
pub trees_are : (at n : ℕ) (list : List Piece) → AllByRecursion IsGood list → AllByRecursion IsFragmentTree (pieces_trees at n list)
trees_are at n [] h = tt
trees_are at n (piece ∷ more) h =
    let w = h.0.writable in
    (piece_tree_is (offset_of piece) piece (offset_near piece w) w at n, trees_are (at + length (piece_bytes n piece)) (n + 1) more h.1)

-- Their leaves are sound.
pub trees_sound : (at n : ℕ) (list : List Piece) → AllByRecursion IsGood list → AllByRecursion (λ (f : FragmentTree). AllByRecursion (AreSound (ruled rules.TrackFragment)) f.trafs) (pieces_trees at n list)
trees_sound at n [] h = tt
trees_sound at n (piece ∷ more) h =
    let w = h.0.writable in
    ((traf_sound (offset_of piece) piece (offset_near piece w) w (at + 8 + 16), tt), trees_sound (at + length (piece_bytes n piece)) (n + 1) more h.1)

-- ---- parts

-- a part for each piece
abbrev pub pieces_parts : List Trex → ℕ → ℕ → List Piece → List Part
pieces_parts trexes at n [] = []
pieces_parts trexes at n (piece ∷ more) = piece_part (unwrap_or (trex_for trexes piece.id) no_trex) at piece ∷ pieces_parts trexes (at + length (piece_bytes n piece)) (n + 1) more

-- The trees say these parts.
pub parts_are : (trexes : List Trex) (at n : ℕ) (list : List Piece) → AllByRecursion IsGood list → all_parts trexes (map fragment_of (pieces_trees at n list)) ≡ pieces_parts trexes at n list
parts_are trexes at n [] h = refl
parts_are trexes at n (piece ∷ more) h =
    let w = h.0.writable in
    let f = fragment_again (offset_of piece) piece (offset_near piece w) w at n in
    let others = parts_are trexes (at + length (piece_bytes n piece)) (n + 1) more h.1 in
    ap (λ (x : Fragment). parts_of trexes x ++ all_parts trexes (map fragment_of (pieces_trees (at + length (piece_bytes n piece)) (n + 1) more))) f
    ∙ ap (λ (l : List Part). piece_part (unwrap_or (trex_for trexes piece.id) no_trex) at piece ∷ l) others

-- Where a file ends with the pieces, the parts spell them.
pub parts_spell : (trexes : List Trex) (file front : List ℕ) (at n : ℕ) (list : List Piece) → AllByRecursion IsGood list → at ≡ length front → file ≡ front ++ pieces_bytes n list
    → AllZip (Spells file) (pieces_parts trexes at n list) list
parts_spell trexes file front at n [] h e f = tt
parts_spell trexes file front at n (piece ∷ more) h e f =
    let w = h.0.writable in
    let moof = moof_bytes n (offset_of piece) piece in
    let header = header_bytes (codes "mdat") (length (piece_data piece)) in
    let rest = pieces_bytes (n + 1) more in
    let before = front ++ (moof ++ header) in
    let here : file ≡ before ++ (piece_data piece ++ rest) = f ∙ regroup_more front (moof ++ header) (piece_data piece) rest in
    let long : at + offset_of piece ≡ length before = omega (arith, e, length-append front (moof ++ header), length-append moof header, moof_same piece w n (offset_of piece), length-header_bytes (codes "mdat") (length (piece_data piece)) refl) in
    let there : file ≡ (front ++ piece_bytes n piece) ++ rest = f ∙ sym (append_assoc front (piece_bytes n piece) rest) in
    let next : at + length (piece_bytes n piece) ≡ length (front ++ piece_bytes n piece) = omega (arith, e, length-append front (piece_bytes n piece)) in (
      part_spells (unwrap_or (trex_for trexes piece.id) no_trex) file before rest at piece w h.0.flags h.0.one long here,
      parts_spell trexes file (front ++ piece_bytes n piece) (at + length (piece_bytes n piece)) (n + 1) more h.1 next there,
    )
