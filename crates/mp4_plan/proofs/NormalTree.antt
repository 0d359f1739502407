-- The boxes of a normal form in all its containers.
use Rattle.std.proofs.Common.{◌≡◌, ℕ, ◌+◌, true, List, [], ◌∷◌, ◌++◌, length, refl, ap, subst, arith, length-append, IsTrue}
use Rattle.std.specs.Prelude.{map}
use Rattle.std.specs.List.{AllByRecursion}
use Rattle.mp4_boxes.specs.format.Box.{Box, LieEndToEnd, sizes, file_container}
use Rattle.mp4_boxes.specs.format.Children.{Holds, allows}
use Rattle.mp4_boxes.specs.declared.rule.Rule.TheVariants as rules
use Rattle.mp4_boxes.proofs.Among.{all_append}
use Rattle.mp4_boxes.proofs.Tiling.{sizes-append}
use Rattle.mp4_boxes.proofs.WrittenBoxes.{Content, written, placed, placed_box, sizes_written}
use Rattle.mp4_head.specs.format.Head.{IsTrackHead}
use Rattle.mp4_head.specs.format.Writing.{head_bytes}
use Rattle.mp4_head.proofs.WrittenMovie.{IsWritable, moov_content, movie_tree, movie_tree_is, movie_leaves_sound}
use Rattle.mp4_head.proofs.WrittenHead.{head_contents, head_written, head_fits, head_lies}
use Rattle.mp4_head.proofs.WrittenTables.{tables_sound}
use Rattle.mp4_present.specs.format.Presentation.{Track, Presentation, heads, movie_length, IsTrack, Valid}
use Rattle.mp4_present.specs.format.Denotes.{FileTree, IsFileTree, IsSoundFile}
use Rattle.mp4_plan.specs.format.Pieces.{pieces}
use Rattle.mp4_plan.specs.format.Normal.{pieces_bytes, normal}
use Rattle.mp4_plan.proofs.PieceBoxes.{IsGood, pieces_boxes, pieces_trees, pieces_lie, pieces_sizes, pieces_have, no_movies, count_movies, moofs_are, trees_are, trees_sound}

-- what is written in front of the pieces
abbrev pub front_contents : Presentation → List Content
front_contents p = head_contents p.movie (heads p) (movie_length p)

-- where the pieces begin
abbrev pub pieces_at : Presentation → ℕ
pieces_at p = length (written (front_contents p))

-- the boxes of the file itself
abbrev pub normal_boxes : Presentation → List Box
normal_boxes p = placed 0 (front_contents p) ++ pieces_boxes (pieces_at p) 1 (pieces p)

-- the tree of a normal form
abbrev pub normal_tree : Presentation → FileTree
normal_tree p = record {
  top = normal_boxes p;
  movie = movie_tree 24 p.movie (heads p) (movie_length p);
  fragments = pieces_trees (pieces_at p) 1 (pieces p);
}

-- the file is what is written in front, and the pieces
pub normal_is : (p : Presentation) → normal p ≡ written (front_contents p) ++ pieces_bytes 1 (pieces p)
normal_is p = ap (λ (l : List ℕ). l ++ pieces_bytes 1 (pieces p)) (head_written p.movie (heads p) (movie_length p))

-- the heads of valid tracks
heads_valid : (tracks : List Track) → AllByRecursion IsTrack tracks → AllByRecursion IsTrackHead (map (λ (t : Track). t.head) tracks)
heads_valid [] h = tt
heads_valid (t ∷ tracks) h = (h.0.head, heads_valid tracks h.1)

-- The head of what is valid can be written.
pub head_writable : (p : Presentation) → Valid p → IsWritable p.movie (heads p) (movie_length p)
head_writable p v = record { is_movie = v.movie; are_tracks = heads_valid p.tracks v.tracks; distinct = v.ids; small = v.limits.moov }

module _ (p : Presentation) (w : IsWritable p.movie (heads p) (movie_length p)) (good : AllByRecursion IsGood (pieces p)) where
  -- they lie end to end
  top_lies : LieEndToEnd true 0 (normal p) (normal_boxes p)
  top_lies =
      let from : pieces_at p ≡ 0 + length (head_bytes p.movie (heads p) (movie_length p)) = omega (arith, ap (λ (l : List ℕ). length l) (head_written p.movie (heads p) (movie_length p))) in
      head_lies p.movie (heads p) (movie_length p) w true 0 (pieces_bytes 1 (pieces p)) (pieces_boxes (pieces_at p) 1 (pieces p))
      (subst (λ (k : ℕ). LieEndToEnd true k (pieces_bytes 1 (pieces p)) (pieces_boxes (pieces_at p) 1 (pieces p))) from (pieces_lie (pieces_at p) 1 (pieces p) good))

  -- they take all bytes
  top_sizes : sizes (normal_boxes p) ≡ length (normal p)
  top_sizes = omega (
    arith,
    sizes-append (placed 0 (front_contents p)) (pieces_boxes (pieces_at p) 1 (pieces p)),
    sizes_written 0 (front_contents p) (head_fits p.movie (heads p) (movie_length p) w),
    pieces_sizes (pieces_at p) 1 (pieces p) good,
    ap (λ (l : List ℕ). length l) (normal_is p),
    length-append (written (front_contents p)) (pieces_bytes 1 (pieces p)),
  )

  -- the file holds them
  top_holds : Holds rules.File (file_container (normal p)) (normal_boxes p)
  top_holds =
      let none = count_movies (pieces_at p) 1 (pieces p) in
      record {
        tiles = record { front = (top_lies, tt); full = top_sizes };
        allowed = all_append (λ (b : Box). IsTrue (allows rules.File b.kind)) (placed 0 (front_contents p)) (pieces_boxes (pieces_at p) 1 (pieces p))
            (refl, (refl, tt)) (pieces_have (λ kind. IsTrue (allows rules.File kind)) (pieces_at p) 1 (pieces p) refl refl);
        quantities = (omega (arith, none), (tt, (tt, (tt, (tt, (tt, (tt, tt)))))));
      }

  -- The tree of a normal form is this one.
  pub normal_tree_is : IsFileTree (normal p) (normal_tree p)
  normal_tree_is = record {
    top = top_holds;
    order = refl;
    moov = ap (λ (l : List Box). placed_box 24 (moov_content p.movie (heads p) (movie_length p)) ∷ l) (no_movies (pieces_at p) 1 (pieces p));
    movie = movie_tree_is p.movie (heads p) (movie_length p) w 24;
    moofs = moofs_are (pieces_at p) 1 (pieces p);
    fragments = trees_are (pieces_at p) 1 (pieces p) good;
  }

  -- Its leaves are sound.
  pub normal_sound : IsSoundFile (normal_tree p)
  normal_sound = record {
    movie = movie_leaves_sound p.movie (heads p) (movie_length p) w 24;
    tables = tables_sound _ (heads p) w.are_tracks;
    fragments = trees_sound (pieces_at p) 1 (pieces p) good;
  }
