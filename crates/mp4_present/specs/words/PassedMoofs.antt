-- The `moof`s of a file, passed one after the other behind its `moov`.
use Rattle.std.specs.Prelude.{◌≡◌, ℕ, List, [], ◌∷◌, map, true, codes}
use Rattle.std.specs.List.{AllByRecursion}
use Rattle.mp4_boxes.specs.format.Bytes.{AreBytes}
use Rattle.mp4_boxes.specs.format.Box.{Box, file_container}
use Rattle.mp4_boxes.specs.format.Children.{Holds, of_kind}
use Rattle.mp4_boxes.specs.declared.rule.Rule.TheVariants.{File}
use Rattle.mp4_frag.specs.format.Fragments.{FragmentTree}
use Rattle.mp4_frag.specs.declared.state.TrackState.{TrackState}
use Rattle.mp4_head.specs.format.Tree.{MovieTree}
use Rattle.mp4_present.specs.format.Denotes.{begins_with_movie}
use Rattle.mp4_present.specs.words.Passing.{IsMovieOf, AreBehind}

-- The file's boxes, its `moov`, and the tracks behind their tables.
pub record IsBegun (file : List ℕ) (movie : MovieTree) (boxes : List Box) (states : List TrackState)
    (room : ℕ) : Type 0 where
  pub holds : Holds File (file_container file) boxes
  pub order : begins_with_movie boxes ≡ true
  pub is_moov : of_kind (codes "moov") boxes ≡ movie.moov ∷ []
  pub movie_is : IsMovieOf file movie
  pub bytes : AreBytes movie.moov.payload
  pub behind : AreBehind file movie [] states room

-- All of its `moof`s were passed: they are as they should be, and these are the tracks behind them.
pub record IsPassed (file : List ℕ) (movie : MovieTree) (boxes : List Box)
    (states : List TrackState) : Type 0 where
  pub fragments : List FragmentTree
  pub bytes : AllByRecursion (λ (t : FragmentTree). AreBytes t.moof.payload) fragments
  pub moofs : map (λ (t : FragmentTree). t.moof) fragments ≡ of_kind (codes "moof") boxes
  pub room : ℕ
  pub behind : AreBehind file movie fragments states room
