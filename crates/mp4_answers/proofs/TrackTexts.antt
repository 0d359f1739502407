-- The texts of a track are those of the presentation that the file denotes.
use Rattle.std.proofs.Common.{◌≡◌, ℕ, zero, suc, ◌^◌, ◌<◌, ◌≤◌, List, [], ◌∷◌, ◌++◌, length, Some, refl, sym, ap, subst, ◌∙◌, arith}
use Rattle.std.proofs.lemmas.List.{length-map}
use Rattle.std.specs.List.{AllZip, slice_get}
use Rattle.std.specs.Prelude.{IfSome, map}
use Rattle.mp4_boxes.specs.format.Bytes.{sum_of}
use Rattle.mp4_boxes.proofs.Plain.{get_every, get_map}
use Rattle.mp4_head.specs.format.Head.{TrackHead}
use Rattle.mp4_head.specs.format.Tree.{TrackTree, track_head_of}
use Rattle.mp4_present.specs.words.SamplesComing.{track_samples}
use Rattle.mp4_present.specs.format.Denotes.{FileTree, file_parts, placed_of, sample_of, track_of, presentation_of}
use Rattle.mp4_present.specs.words.Joined.{sample_bytes}
use Rattle.mp4_present.specs.words.Movies.{MovieSeen}
use Rattle.mp4_present.specs.words.OpenedMovie.{IsInfoOf, IsOpenedOwn}
use Rattle.mp4_present.specs.format.Presentation.{Track}
use Rattle.mp4_present.specs.declared.track_info.TrackInfo.{TrackInfo}
use Rattle.mp4_tables.proofs.SampleLists.{timed_length}
use Rattle.mp4_present.proofs.SamplesLie.{all_whole, timed_data}
use Rattle.mp4_answers.specs.format.FileTexts.{IsTrackWith, ListsSamples, HasData}
use Rattle.mp4_answers.specs.format.Selected.{AreOthers, LacksTrack}
use Rattle.mp4_answers.specs.declared.jobs.Form.{Form}
use Rattle.mp4_answers.specs.format.Texts.{lines_in_fragments, listing_head}
use Rattle.mp4_present.specs.format.SamplePlaces.{sample_fragments}
use Rattle.mp4_present.proofs.ToldTrees.{file_tree_is}
use Rattle.mp4_answers.proofs.InFragments.{numbers_each}
use Rattle.mp4_answers.proofs.SampleTexts.{lines_of_placed}
use Rattle.mp4_answers.proofs.ShownLines.{LieInFile, each_lies, judged}

-- ---- the track with an ID

-- the tree at the place of the numbers
pub got_track : (file : List ℕ) (tree : FileTree) (trees : List TrackTree) (infos : List TrackInfo) (k id : ℕ) → AllZip (IsInfoOf file tree) trees infos → k < length infos → IfSome (slice_get infos k) (λ i. i.id ≡ id)
    → (t : TrackTree) × (slice_get trees k ≡ Some t) × ((track_head_of t).id ≡ id)
got_track file tree [] [] k id z lt e = absurd (omega (arith, lt))
got_track file tree [] (x ∷ infos) k id z lt e = absurd z
got_track file tree (t ∷ trees) [] k id z lt e = absurd z
got_track file tree (t ∷ trees) (x ∷ infos) zero id z lt e = (t, refl, sym z.0.id ∙ e)
got_track file tree (t ∷ trees) (x ∷ infos) (suc k) id z lt e = got_track file tree trees infos k id z.1 (omega (arith, lt)) e

few_at : (tracks : List Track) (k : ℕ) (t : Track) → slice_get tracks k ≡ Some t → length t.samples ≤ sum_of (λ (x : Track). length x.samples) tracks
few_at [] k t e = absurd cc
few_at (y ∷ tracks) zero t e = let same : y ≡ t = cc in let long = ap (λ (x : Track). length x.samples) same in omega arith
few_at (y ∷ tracks) (suc k) t e = let r = few_at tracks k t e in omega arith

-- the track of the file at this place has the ID
pub record IsFound (file : List ℕ) (tree : FileTree) (k id : ℕ) : Type 0 where
  pub t : TrackTree
  pub is_there : slice_get tree.movie.tracks k ≡ Some t
  pub with_id : IsTrackWith file id (track_of file (file_parts tree) t)
  pub lies : LieInFile file tree t
  pub few : length (track_samples tree t) < 2 ^ 32

pub track_found : (file : List ℕ) (m : MovieSeen) (tree : FileTree) (k id : ℕ) → IsOpenedOwn file m tree → k < length m.tracks → IfSome (slice_get m.tracks k) (λ i. i.id ≡ id) → IsFound file tree k id
track_found file m tree k id o lt e =
    let r = got_track file tree tree.movie.tracks m.tracks k id o.opened.tracks lt e in
    let there = get_map (track_of file (file_parts tree)) tree.movie.tracks k r.0 r.1 in
    record {
      t = r.0;
      is_there = r.1;
      with_id = record { p = presentation_of file tree; judged = judged file m tree o; place = k; is_there = there; id_is = r.2 };
      lies = get_every (LieInFile file tree) tree.movie.tracks k r.0 r.1 (each_lies file m tree o);
      few = below _ _ _ _ (few_at (presentation_of file tree).tracks k (track_of file (file_parts tree) r.0) there) o.opened.limits.samples (length-map (placed_of (file_parts tree) r.0) (sample_of file)) (timed_length _ _ _ (placed_of (file_parts tree) r.0));
    }
  where
    below : (samples all placed n : ℕ) → samples ≤ all → all ≤ 2 ^ 24 → samples ≡ placed → n ≡ placed → n < 2 ^ 32
    below samples all placed n a b e f = omega (arith, a, b, e, f)

-- the IDs of the numbers are those of the presentation's tracks
pub ids_are : (file : List ℕ) (tree : FileTree) (trees : List TrackTree) (infos : List TrackInfo) → AllZip (IsInfoOf file tree) trees infos
    → map (λ (i : TrackInfo). i.id) infos ≡ map (λ (h : TrackHead). h.id) (map (λ (u : Track). u.head) (map (track_of file (file_parts tree)) trees))
ids_are file tree [] [] z = refl
ids_are file tree [] (x ∷ infos) z = absurd z
ids_are file tree (t ∷ trees) [] z = absurd z
ids_are file tree (t ∷ trees) (x ∷ infos) z = λ j. z.0.id j ∷ ids_are file tree trees infos z.1 j

-- no track has the ID
pub lacks : (file : List ℕ) (m : MovieSeen) (tree : FileTree) (id : ℕ) → IsOpenedOwn file m tree → AreOthers id (map (λ (i : TrackInfo). i.id) m.tracks) → LacksTrack file id
lacks file m tree id o h = (presentation_of file tree, judged file m tree o, subst (AreOthers id) (ids_are file tree tree.movie.tracks m.tracks o.opened.tracks) h)

-- ---- its texts

pub lists : (form : Form) (file : List ℕ) (m : MovieSeen) (tree : FileTree) (k id : ℕ) → IsOpenedOwn file m tree → (f : IsFound file tree k id) → ListsSamples file id form (listing_head form ++ lines_in_fragments form 1 (sample_fragments tree f.t) (track_samples tree f.t))
lists form file m tree k id o f = (
  tree,
  f.t,
  record { is_tree = file_tree_is file m tree o; judged = judged file m tree o; place = k; is_there = f.is_there; id_is = f.with_id.id_is },
  ap (λ (text : List ℕ). listing_head form ++ text) (lines_of_placed form file _ 1 _ _ (placed_of (file_parts tree) f.t) (sample_fragments tree f.t) (numbers_each file m tree f.t o.opened) (all_whole file (placed_of (file_parts tree) f.t) f.lies)),
)

pub has_data : (file : List ℕ) (tree : FileTree) (k id : ℕ) → (f : IsFound file tree k id) → HasData file id (sample_bytes file (track_samples tree f.t))
has_data file tree k id f = (track_of file (file_parts tree) f.t, f.with_id, timed_data file _ _ _ (placed_of (file_parts tree) f.t) f.lies)
