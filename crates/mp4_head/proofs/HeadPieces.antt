-- The pieces of leaves, as they are appended, are their spellings.
use Rattle.std.proofs.Common.{◌≡◌, ℕ, List, [], ◌∷◌, ◌++◌, length, map, refl}
use Rattle.std.specs.Prelude.{replicate, codes}
use Rattle.byteorder.specs.Endian.{big_bytes}
use Rattle.mp4_boxes.specs.format.Bytes.{unsigned}
use Rattle.mp4_boxes.specs.format.Written.{box_bytes}
use Rattle.mp4_head.specs.format.Head.{TrackHead, MovieHead}
use Rattle.mp4_head.specs.format.Writing.{mvhd_bytes, tkhd_bytes, edts_bytes}
use Rattle.mp4_head.specs.declared.edit_list.Edit as seen
use Rattle.mp4_head.specs.words.Seen.{edit_seen}
use Rattle.mp4_head.specs.words.Parts.{matrix_bytes, edit_list_bytes}
use Rattle.mp4_head.proofs.Pieces.{joined, of_nine}

abbrev pub movie_pieces : List ℕ → MovieHead → ℕ → List (List ℕ)
movie_pieces front m next =
    front ∷ big_bytes 8 m.creation ∷ big_bytes 8 m.modification ∷ big_bytes 4 m.timescale ∷ replicate 8 0 ∷ big_bytes 4 (unsigned 4 m.rate) ∷ big_bytes 2 (unsigned 2 m.volume)
    ∷ replicate 10 0 ∷ matrix_bytes m.matrix ∷ replicate 24 0 ∷ big_bytes 4 next ∷ []

-- `mvhd`, behind its size, type, version and flags
pub movie_spelled : (m : MovieHead) (next : ℕ) → length m.matrix ≡ 9 → joined (movie_pieces (0 ∷ 0 ∷ 0 ∷ 120 ∷ (codes "mvhd" ++ 1 ∷ 0 ∷ 0 ∷ 0 ∷ [])) m next) ≡ mvhd_bytes m next
movie_spelled m next n =
    of_nine (λ x. joined (movie_pieces (0 ∷ 0 ∷ 0 ∷ 120 ∷ (codes "mvhd" ++ 1 ∷ 0 ∷ 0 ∷ 0 ∷ [])) (record m { matrix = x }) next) ≡ mvhd_bytes (record m { matrix = x }) next)
    (λ a b c d e f g h i. refl) m.matrix n

abbrev pub track_pieces : List ℕ → TrackHead → List (List ℕ)
track_pieces front t =
    front ∷ big_bytes 3 t.flags ∷ big_bytes 8 t.creation ∷ big_bytes 8 t.modification ∷ big_bytes 4 t.id ∷ replicate 20 0 ∷ big_bytes 2 (unsigned 2 t.layer) ∷ big_bytes 2 (unsigned 2 t.alternate_group)
    ∷ big_bytes 2 (unsigned 2 t.volume) ∷ replicate 2 0 ∷ matrix_bytes t.matrix ∷ big_bytes 4 t.width ∷ big_bytes 4 t.height ∷ []

-- `tkhd`, behind its size, type and version
pub track_spelled : (t : TrackHead) → length t.matrix ≡ 9 → joined (track_pieces (0 ∷ 0 ∷ 0 ∷ 104 ∷ (codes "tkhd" ++ 1 ∷ [])) t) ≡ tkhd_bytes t
track_spelled t n =
    of_nine (λ x. joined (track_pieces (0 ∷ 0 ∷ 0 ∷ 104 ∷ (codes "tkhd" ++ 1 ∷ [])) (record t { matrix = x })) ≡ tkhd_bytes (record t { matrix = x }))
    (λ a b c d e f g h i. refl) t.matrix n

-- `edts` with the edits that are there
pub edits_spelled : (edits : List seen.Edit) → ¬ (length edits ≡ 0) → box_bytes (codes "edts") (edit_list_bytes (map edit_seen edits)) ≡ edts_bytes (map edit_seen edits)
edits_spelled [] some = absurd (some refl)
edits_spelled (e ∷ edits) some = refl
