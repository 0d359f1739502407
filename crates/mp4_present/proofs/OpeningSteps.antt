-- The steps of opening a file.
use Rattle.std.proofs.Common.{◌≡◌, ℕ, ◌+◌, ◌≤◌, Bool, List, [], ◌∷◌, refl, sym, ap, subst, ◌∙◌, arith}
use Rattle.std.specs.Prelude.{codes, map, IsTrue}
use Rattle.mp4_boxes.specs.format.Bytes.{sum_of}
use Rattle.mp4_boxes.specs.format.Box.{Box, file_container}
use Rattle.mp4_boxes.specs.format.Children.{of_kind}
use Rattle.mp4_boxes.proofs.Tiling.{tiles_one}
use Rattle.mp4_boxes.proofs.Plain.{head_is}
use Rattle.mp4_frag.specs.format.Fragments.{FragmentTree}
use Rattle.mp4_head.specs.words.Found.{SaysHead}
use Rattle.mp4_head.specs.format.Tree.{MovieTree, TrackTree}
use Rattle.mp4_head.specs.declared.heads.MovieHead.{MovieHead}
use Rattle.mp4_head.proofs.Trees.{movie_tree_one}
use Rattle.mp4_present.specs.format.Denotes.{FileTree, IsFileTree}
use Rattle.mp4_present.specs.words.Movies.{MovieSeen}
use Rattle.mp4_present.specs.words.OpenedMovie.{IsOpenedAs}
use Rattle.mp4_present.specs.words.Opening.{IsOpened}
use Rattle.mp4_present.specs.words.TrackTrees.{AreTracksOf}
use Rattle.mp4_present.specs.words.WalkSteps.{ChecksAll, ChecksWithin, moof_steps, moofs_steps, boxes_steps, table_steps, least_table_steps, opening_steps, least_steps}
use Rattle.mp4_present.specs.declared.opening.outline.Outline.{Outline}
use Rattle.mp4_present.proofs.Opened.{IsRead, its_moov, tracks_read}
use Rattle.mp4_present.proofs.TablesWork.{TracksDone}

-- ---- what the `moof`s of a file say

each_moof : (moofs : List FragmentTree) → moofs_steps moofs ≡ boxes_steps (map (λ (t : FragmentTree). t.moof) moofs)
each_moof [] = refl
each_moof (t ∷ moofs) = ap (λ (n : ℕ). moof_steps t.moof + n) (each_moof moofs)

pub moofs_are : (file : List ℕ) (tree : FileTree) → IsFileTree file tree → moofs_steps tree.fragments ≡ boxes_steps (of_kind (codes "moof") tree.top)
moofs_are file tree is = each_moof tree.fragments ∙ ap boxes_steps is.moofs

-- ---- a file whose head was read

some_more : (before tables moofs after : ℕ) → after ≤ before + tables → after ≤ before + (tables + moofs)
some_more before tables moofs after h = omega (arith, h)

all_more : (before tables moofs checked after : ℕ) → checked ≤ before + tables → after ≤ checked + moofs → after ≤ before + (tables + moofs)
all_more before tables moofs checked after h k = omega (arith, h, k)

least_more : (before tables moofs checked after : ℕ) → before + tables ≤ checked → after ≡ checked + moofs → before + (tables + moofs) ≤ after
least_more before tables moofs checked after h k = omega (arith, h, k)

module _ (honest : Bool) (file : List ℕ) (o : Outline) (moov : List ℕ) (b : Box) (head : MovieHead) (r : IsRead honest file o moov b) (says : SaysHead b head) (told : IsTrue honest) (tree : FileTree) (is : IsFileTree file tree) where
  movie_is : says.has.tree ≡ tree.movie
  movie_is =
      let k = r.outline told in
      let top : k.0 ≡ tree.top = tiles_one (file_container file) k.0 tree.top k.1.tiles is.top.tiles in
      let moov : b ≡ tree.movie.moov = head_is b tree.movie.moov [] [] (sym (its_moov honest file o moov b r told) ∙ ap (of_kind (codes "moov")) top ∙ is.moov) in
      movie_tree_one says.has.tree tree.movie (says.has.is_moov ∙ moov) says.has.is_tree is.movie

  pub tracks_are : AreTracksOf tree.movie.tracks head.tracks.items
  tracks_are = subst (λ (m : MovieTree). AreTracksOf m.tracks head.tracks.items) movie_is (tracks_read b head says)

  -- the tables were checked, and no `moof`
  pub tables_counted : (before after : ℕ) → TracksDone head.tracks.items before after → after ≤ before + opening_steps tree
  tables_counted before after done = some_more before (sum_of table_steps tree.movie.tracks) (moofs_steps tree.fragments) after (done tree.movie.tracks tracks_are)

  -- `moof`s were checked too
  pub moofs_counted : (before checked after : ℕ) → TracksDone head.tracks.items before checked → ChecksWithin file checked after → after ≤ before + opening_steps tree
  moofs_counted before checked after done within =
      all_more before (sum_of table_steps tree.movie.tracks) (moofs_steps tree.fragments) checked after (done tree.movie.tracks tracks_are)
      (subst (λ (m : ℕ). after ≤ checked + m) (sym (moofs_are file tree is)) (within tree.top is.top))

  -- all of them, each to its end
  pub all_taken : (before checked after : ℕ) → ((trees : List TrackTree) → AreTracksOf trees head.tracks.items → before + sum_of least_table_steps trees ≤ checked) → ChecksAll file checked after → before + least_steps tree ≤ after
  all_taken before checked after tables moofs =
      least_more before (sum_of least_table_steps tree.movie.tracks) (moofs_steps tree.fragments) checked after (tables tree.movie.tracks tracks_are)
      (subst (λ (m : ℕ). after ≡ checked + m) (sym (moofs_are file tree is)) (moofs tree.top is.top))

-- ---- a file that was opened

-- what is kept of it is what its own boxes say
pub opened_of : (file : List ℕ) (m : MovieSeen) (tree : FileTree) → IsOpenedAs file m tree → IsOpened file m
opened_of file m tree o = record {
  boxes = tree.top;
  holds = o.is_tree.top;
  order = o.is_tree.order;
  whole = o.whole;
  moov = o.is_tree.moov ∙ ap (λ (b : Box). b ∷ []) (sym o.moov);
  longest_is = o.longest_is;
}
