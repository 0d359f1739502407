-- The `ftyp` and the `moov` of a head that was written: where they lie, and the head that is read again.
use Rattle.std.proofs.Common.{◌≡◌, ℕ, ◌+◌, Bool, List, [], ◌∷◌, ◌++◌, length, refl, sym, ap, subst, arith, lit≤}
use Rattle.std.specs.Prelude.{codes}
use Rattle.std.specs.List.{AllByRecursion}
use Rattle.std.proofs.lemmas.List.{append-nil}
use Rattle.byteorder.specs.Endian.{big_bytes}
use Rattle.mp4_boxes.specs.format.Box.{Box, LieEndToEnd}
use Rattle.mp4_boxes.proofs.WrittenBoxes.{Content, FitsBox, typed, written, placed, placed_box, length-box_bytes, lie_written}
use Rattle.mp4_head.specs.format.Head.{TrackHead, MovieHead}
use Rattle.mp4_head.specs.format.Tree.{HasHead}
use Rattle.mp4_head.specs.format.Writing.{ftyp_bytes, moov_bytes, head_bytes}
use Rattle.mp4_head.proofs.WrittenMovie.{IsWritable, moov_payload, moov_content, movie_tree, movie_tree_is, movie_leaves_sound, normal_trexes, movie_head_again, track_heads_again, trexes_again}

-- the brands
abbrev ftyp_payload : List ℕ
ftyp_payload = codes "iso6" ++ big_bytes 4 0 ++ codes "iso6" ++ codes "mp41"

-- the two boxes of a head
abbrev pub head_contents : MovieHead → List TrackHead → ℕ → List Content
head_contents movie tracks duration = typed (codes "ftyp") ftyp_payload ∷ moov_content movie tracks duration ∷ []

-- a head is written as these
pub head_written : (movie : MovieHead) (tracks : List TrackHead) (duration : ℕ) → head_bytes movie tracks duration ≡ written (head_contents movie tracks duration)
head_written movie tracks duration = ap (λ (l : List ℕ). ftyp_bytes ++ l) (sym (append-nil (moov_bytes movie tracks duration)))

module _ (movie : MovieHead) (tracks : List TrackHead) (duration : ℕ) (h : IsWritable movie tracks duration) where
  -- they fit headers of 8 bytes
  pub head_fits : AllByRecursion FitsBox (head_contents movie tracks duration)
  head_fits =
      let small = h.small in
      let e = length-box_bytes (codes "moov") (moov_payload movie tracks duration) refl in
      (record { kind = refl; size = lit≤ tt }, (record { kind = refl; size = omega arith }, tt))

  -- A written head lies in front of what follows, wherever it begins.
  pub head_lies : (is_open : Bool) (at : ℕ) (rest : List ℕ) (more : List Box) → LieEndToEnd is_open (at + length (head_bytes movie tracks duration)) rest more
      → LieEndToEnd is_open at (head_bytes movie tracks duration ++ rest) (placed at (head_contents movie tracks duration) ++ more)
  head_lies is_open at rest more l =
      let e = head_written movie tracks duration in
      subst (λ (bytes : List ℕ). LieEndToEnd is_open at (bytes ++ rest) (placed at (head_contents movie tracks duration) ++ more)) (sym e)
      (lie_written is_open at (head_contents movie tracks duration) rest more head_fits (subst (λ (bytes : List ℕ). LieEndToEnd is_open (at + length bytes) rest more) e l))

  -- The head that was written is read again, wherever its `moov` begins.
  pub head_again : (at : ℕ) → HasHead (placed_box at (moov_content movie tracks duration)) (record { movie = movie; tracks = tracks; trexes = normal_trexes tracks })
  head_again at =
      let a = movie_head_again movie tracks duration h at in
      let b = track_heads_again movie tracks duration h at in
      let c = trexes_again movie tracks duration h at in
      record {
        tree = movie_tree at movie tracks duration;
        is_moov = refl;
        is_tree = movie_tree_is movie tracks duration h at;
        is_sound = movie_leaves_sound movie tracks duration h at;
        says = sym (λ i. record { movie = a i; tracks = b i; trexes = c i });
      }
