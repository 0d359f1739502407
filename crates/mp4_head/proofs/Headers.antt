-- What the headers of a movie, a track and its media say, by the places of their numbers.
use Rattle.std.proofs.Common.{◌≡◌, ℕ, zero, suc, ◌+◌, ◌*◌, ◌<◌, false, eqb, List, [], ◌∷◌, length, take, refl, ap, ◌∙◌, arith, lit<}
use Rattle.std.specs.Prelude.{slice_index, map}
use Rattle.byteorder.specs.Endian.{twos_complement}
use Rattle.std.proofs.Math.Dec.{eqb-suc-zero}
use Rattle.mp4_boxes.specs.format.Bytes.{field, width_of}
use Rattle.mp4_boxes.specs.format.Layout.{mvhd, tkhd, mdhd, fields, leaf_fields, version, time_width, needed, IsReadable, IsSound}
use Rattle.mp4_head.specs.format.Tree.{matrix_of}
use Rattle.mp4_head.specs.words.Leaves.{IsOpen, nine}
use Rattle.mp4_head.proofs.Opening.{open_readable, number_is}

-- a number that is not 0
pub not_zero : (n : ℕ) → ¬ (n ≡ 0) → eqb n 0 ≡ false
not_zero zero ne = absurd (ne refl)
not_zero (suc n) ne = eqb-suc-zero n

-- ---- `mvhd`

-- a number of an `mvhd` at its place
pub movie_at : (payload : List ℕ) (i place width : ℕ) → i < length (fields mvhd (version payload)) → width ≡ slice_index (fields mvhd (version payload)) i → place ≡ width_of (take i (fields mvhd (version payload)))
    → field payload place width ≡ slice_index (leaf_fields mvhd payload) i
movie_at payload i place width lt w p = number_is (fields mvhd (version payload)) payload i place width lt w p

-- the matrix of an `mvhd`
pub movie_matrix : (payload : List ℕ) (w : ℕ) → w ≡ time_width (version payload) → map (twos_complement 4) (nine payload (24 + 3 * w)) ≡ matrix_of (leaf_fields mvhd payload) 11 20
movie_matrix payload w e =
    let at = λ (i place : ℕ) (lt : i < length (fields mvhd (version payload))) (k : 4 ≡ slice_index (fields mvhd (version payload)) i) (p : place ≡ width_of (take i (fields mvhd (version payload)))). movie_at payload i place 4 lt k p in
    let n0 = at 11 (24 + 3 * w) (lit< tt) refl (omega arith) in
    let n1 = at 12 (24 + 3 * w + 4) (lit< tt) refl (omega arith) in
    let n2 = at 13 (24 + 3 * w + 8) (lit< tt) refl (omega arith) in
    let n3 = at 14 (24 + 3 * w + 12) (lit< tt) refl (omega arith) in
    let n4 = at 15 (24 + 3 * w + 16) (lit< tt) refl (omega arith) in
    let n5 = at 16 (24 + 3 * w + 20) (lit< tt) refl (omega arith) in
    let n6 = at 17 (24 + 3 * w + 24) (lit< tt) refl (omega arith) in
    let n7 = at 18 (24 + 3 * w + 28) (lit< tt) refl (omega arith) in
    let n8 = at 19 (24 + 3 * w + 32) (lit< tt) refl (omega arith) in
    ap (map (twos_complement 4)) (λ j. n0 j ∷ n1 j ∷ n2 j ∷ n3 j ∷ n4 j ∷ n5 j ∷ n6 j ∷ n7 j ∷ n8 j ∷ [])

movie_needs : (payload : List ℕ) → needed mvhd payload ≡ 88 + 3 * time_width (version payload)
movie_needs payload = omega arith

pub movie_readable : (payload : List ℕ) (width : ℕ) → IsOpen 1 88 3 payload width → IsReadable mvhd payload
movie_readable payload width o = let n = movie_needs payload in open_readable mvhd 1 88 3 width payload refl refl (omega arith) o

-- an `mvhd` with a timescale is sound
pub movie_sound : (payload : List ℕ) (width timescale : ℕ) → IsOpen 1 88 3 payload width → timescale ≡ slice_index (leaf_fields mvhd payload) 4 → ¬ (timescale ≡ 0) → IsSound mvhd payload
movie_sound payload width timescale o e ne =
    record { readable = movie_readable payload width o; value = not_zero (slice_index (leaf_fields mvhd payload) 4) (λ z. ne (e ∙ z)); inside = refl; offsets = refl }

-- ---- `tkhd`

-- a number of a `tkhd` at its place
pub track_at : (payload : List ℕ) (i place width : ℕ) → i < length (fields tkhd (version payload)) → width ≡ slice_index (fields tkhd (version payload)) i → place ≡ width_of (take i (fields tkhd (version payload)))
    → field payload place width ≡ slice_index (leaf_fields tkhd payload) i
track_at payload i place width lt w p = number_is (fields tkhd (version payload)) payload i place width lt w p

-- the matrix of a `tkhd`
pub track_matrix : (payload : List ℕ) (w : ℕ) → w ≡ time_width (version payload) → map (twos_complement 4) (nine payload (28 + 3 * w)) ≡ matrix_of (leaf_fields tkhd payload) 13 22
track_matrix payload w e =
    let at = λ (i place : ℕ) (lt : i < length (fields tkhd (version payload))) (k : 4 ≡ slice_index (fields tkhd (version payload)) i) (p : place ≡ width_of (take i (fields tkhd (version payload)))). track_at payload i place 4 lt k p in
    let n0 = at 13 (28 + 3 * w) (lit< tt) refl (omega arith) in
    let n1 = at 14 (28 + 3 * w + 4) (lit< tt) refl (omega arith) in
    let n2 = at 15 (28 + 3 * w + 8) (lit< tt) refl (omega arith) in
    let n3 = at 16 (28 + 3 * w + 12) (lit< tt) refl (omega arith) in
    let n4 = at 17 (28 + 3 * w + 16) (lit< tt) refl (omega arith) in
    let n5 = at 18 (28 + 3 * w + 20) (lit< tt) refl (omega arith) in
    let n6 = at 19 (28 + 3 * w + 24) (lit< tt) refl (omega arith) in
    let n7 = at 20 (28 + 3 * w + 28) (lit< tt) refl (omega arith) in
    let n8 = at 21 (28 + 3 * w + 32) (lit< tt) refl (omega arith) in
    ap (map (twos_complement 4)) (λ j. n0 j ∷ n1 j ∷ n2 j ∷ n3 j ∷ n4 j ∷ n5 j ∷ n6 j ∷ n7 j ∷ n8 j ∷ [])

track_needs : (payload : List ℕ) → needed tkhd payload ≡ 72 + 3 * time_width (version payload)
track_needs payload = omega arith

pub track_readable : (payload : List ℕ) (width : ℕ) → IsOpen 1 72 3 payload width → IsReadable tkhd payload
track_readable payload width o = let n = track_needs payload in open_readable tkhd 1 72 3 width payload refl refl (omega arith) o

-- a `tkhd` with an ID is sound
pub track_sound : (payload : List ℕ) (width id : ℕ) → IsOpen 1 72 3 payload width → id ≡ slice_index (leaf_fields tkhd payload) 4 → ¬ (id ≡ 0) → IsSound tkhd payload
track_sound payload width id o e ne =
    record { readable = track_readable payload width o; value = not_zero (slice_index (leaf_fields tkhd payload) 4) (λ z. ne (e ∙ z)); inside = refl; offsets = refl }

-- ---- `mdhd` and `hdlr`

-- a number of an `mdhd` at its place
pub media_at : (payload : List ℕ) (i place width : ℕ) → i < length (fields mdhd (version payload)) → width ≡ slice_index (fields mdhd (version payload)) i → place ≡ width_of (take i (fields mdhd (version payload)))
    → field payload place width ≡ slice_index (leaf_fields mdhd payload) i
media_at payload i place width lt w p = number_is (fields mdhd (version payload)) payload i place width lt w p
