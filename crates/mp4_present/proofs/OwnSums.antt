-- The walks over all tracks together take no more steps than the `moof`s say, and no more room than the `traf`s have.
use Rattle.std.proofs.Common.{◌≡◌, ℕ, ◌+◌, ◌≤◌, ◌==◌, ◌&&◌, not, nat_eq, Bool, true, false, List, [], ◌∷◌, length, map, refl, sym, ap, ◌∙◌, arith}
use Rattle.std.specs.List.{AllByRecursion, list_any}
use Rattle.std.specs.Prelude.{codes}
use Rattle.mp4_boxes.specs.format.Bytes.{sum_of}
use Rattle.mp4_boxes.specs.format.Box.{Box}
use Rattle.mp4_boxes.proofs.Tiling.{sizes_fit}
use Rattle.mp4_boxes.proofs.Plain.{nat_eq_other, or_is_false}
use Rattle.mp4_frag.specs.format.Fragments.{Fragment, FragmentTree, IsFragmentTree}
use Rattle.mp4_frag.specs.format.FragmentRows.{fragment_rows, fragment_length}
use Rattle.mp4_frag.specs.words.OwnTrafs.{PlacedTraf, own_in, payload_length, traf_payloads, traf_steps}
use Rattle.mp4_frag.proofs.OwnParts.{AreApartIds, longest_few, owns_payloads, owns_steps, payloads_kept, placed_steps, trafs_within}
use Rattle.mp4_frag.proofs.SaidSamples.{tree_said}
use Rattle.mp4_head.specs.format.Head as heads
use Rattle.mp4_head.specs.format.Tree.{TrackTree, MovieTree, IsSoundMovie, are_distinct, track_head_of, trexes_of}
use Rattle.mp4_present.specs.format.Denotes.{FileTree, IsFileTree}
use Rattle.mp4_present.specs.words.OpenedMovie.{IsReadSound, IsReadTree}
use Rattle.mp4_present.specs.words.OwnTrafs.{own_of}
use Rattle.mp4_present.specs.words.SamplesComing.{own_trafs, traf_total, walk_room}
use Rattle.mp4_present.specs.words.WalkSteps.{moof_steps, moofs_steps, trafs_steps}
use Rattle.mp4_tables.proofs.Sums.{sum_joined}

abbrev pub ids_of : List TrackTree → List ℕ
ids_of tracks = map (λ (t : TrackTree). (track_head_of t).id) tracks

-- Where each `traf` weighs something, and those of tracks with different IDs together no more than their `moof`s.
module _ (w : PlacedTraf → ℕ) (bound : FragmentTree → ℕ) (movie : MovieTree) (each : (f : FragmentTree) → IsFragmentTree f → (ids : List ℕ) → AreApartIds ids → sum_of (λ (id : ℕ). sum_of w (own_in (trexes_of movie) id f)) ids ≤ bound f) where
  -- of one `moof`
  abbrev one_by : FragmentTree → List TrackTree → ℕ
  one_by f tracks = sum_of (λ (t : TrackTree). sum_of w (own_in (trexes_of movie) (track_head_of t).id f)) tracks

  by_ids : (f : FragmentTree) (tracks : List TrackTree) → one_by f tracks ≡ sum_of (λ (id : ℕ). sum_of w (own_in (trexes_of movie) id f)) (ids_of tracks)
  by_ids f [] = refl
  by_ids f (t ∷ tracks) = ap (λ n. sum_of w (own_in (trexes_of movie) (track_head_of t).id f) + n) (by_ids f tracks)

  -- of all
  abbrev all_by : List FragmentTree → List TrackTree → ℕ
  all_by fs tracks = sum_of (λ (t : TrackTree). sum_of w (own_of movie (track_head_of t).id fs)) tracks

  none_by : (tracks : List TrackTree) → all_by [] tracks ≡ 0
  none_by [] = refl
  none_by (t ∷ tracks) = omega (arith, none_by tracks)

  more_by : (f : FragmentTree) (fs : List FragmentTree) (tracks : List TrackTree) → all_by (f ∷ fs) tracks ≡ one_by f tracks + all_by fs tracks
  more_by f fs [] = omega arith
  more_by f fs (t ∷ tracks) =
      let one = sum_joined w (own_in (trexes_of movie) (track_head_of t).id f) (own_of movie (track_head_of t).id fs) in
      omega (arith, one, more_by f fs tracks)

  all_few : (fs : List FragmentTree) (tracks : List TrackTree) → AllByRecursion IsFragmentTree fs → AreApartIds (ids_of tracks) → all_by fs tracks ≤ sum_of bound fs
  all_few [] tracks h apart = omega (arith, none_by tracks)
  all_few (f ∷ fs) tracks h apart =
      omega (arith, more_by f fs tracks, by_ids f tracks, each f h.0 (ids_of tracks) apart, all_few fs tracks h.1 apart)

one_few : (movie : MovieTree) (f : FragmentTree) → IsFragmentTree f → (ids : List ℕ) → AreApartIds ids → sum_of (λ (id : ℕ). placed_steps (own_in (trexes_of movie) id f)) ids ≤ moof_steps f.moof
unfolding moof_steps
one_few movie f h ids apart =
    let said = ap (λ (g : Fragment). fragment_rows g + fragment_length g) (tree_said f h) in
    omega (arith, said, owns_steps (trexes_of movie) ids f h apart)

-- ---- the tracks of a sound movie

apart : (p q : Bool) → (not p && q) ≡ true → (p ≡ false) × (q ≡ true)
apart true q e = absurd cc
apart false q e = (refl, e)

others_apart : (id : ℕ) (ids : List ℕ) → list_any (nat_eq id) ids ≡ false → AllByRecursion (λ (other : ℕ). (other == id) ≡ false) ids
others_apart id [] n = tt
others_apart id (other ∷ ids) n =
    let b = or_is_false (nat_eq id other) (list_any (nat_eq id) ids) n in
    (nat_eq_other id other b.0, others_apart id ids b.1)

all_apart : (ids : List ℕ) → are_distinct ids ≡ true → AreApartIds ids
all_apart [] d = tt
all_apart (id ∷ ids) d =
    let a = apart (list_any (nat_eq id) ids) (are_distinct ids) d in
    (others_apart id ids a.0, all_apart ids a.1)

heads_ids : (tracks : List TrackTree) → map (λ (t : heads.TrackHead). t.id) (map track_head_of tracks) ≡ ids_of tracks
heads_ids [] = refl
heads_ids (t ∷ tracks) = ap (λ ids. (track_head_of t).id ∷ ids) (heads_ids tracks)

ids_apart : (tree : FileTree) → are_distinct (map (λ (h : heads.TrackHead). h.id) (map track_head_of tree.movie.tracks)) ≡ true → AreApartIds (ids_of tree.movie.tracks)
ids_apart tree e = all_apart (ids_of tree.movie.tracks) (ap are_distinct (sym (heads_ids tree.movie.tracks)) ∙ e)

pub tracks_apart : (tree : FileTree) → IsSoundMovie tree.movie → AreApartIds (ids_of tree.movie.tracks)
tracks_apart tree sound = ids_apart tree sound.track_ids

pub owns_few : (file : List ℕ) (tree : FileTree) → IsFileTree file tree → IsSoundMovie tree.movie → sum_of (λ (t : TrackTree). trafs_steps (own_trafs tree t)) tree.movie.tracks ≤ moofs_steps tree.fragments
owns_few file tree h sound =
    all_few (λ (p : PlacedTraf). traf_steps p.traf) (λ (f : FragmentTree). moof_steps f.moof) tree.movie (one_few tree.movie) tree.fragments tree.movie.tracks h.fragments (tracks_apart tree sound)

-- ---- rooms

rooms_few : (tree : FileTree) (tracks : List TrackTree) → sum_of (walk_room tree) tracks ≤ sum_of (λ (t : TrackTree). sum_of payload_length (own_trafs tree t)) tracks
rooms_few tree [] = omega arith
rooms_few tree (t ∷ tracks) = omega (arith, longest_few (own_trafs tree t), rooms_few tree tracks)

-- the rooms of walks over all tracks are together no longer than the `traf`s of the file
pub rooms_within : (file : List ℕ) (tree : FileTree) → IsReadTree file tree → IsReadSound tree → sum_of (walk_room tree) tree.movie.tracks ≤ traf_total tree
rooms_within file tree h sound =
    omega (
      arith,
      rooms_few tree tree.movie.tracks,
      all_few payload_length traf_payloads tree.movie (λ f own ids apart. owns_payloads (trexes_of tree.movie) ids f own apart) tree.fragments tree.movie.tracks h.fragments (ids_apart tree sound.track_ids),
    )

payloads_few : (fs : List FragmentTree) → AllByRecursion IsFragmentTree fs → sum_of traf_payloads fs ≤ sum_of (λ (b : Box). length b.payload) (map (λ (f : FragmentTree). f.moof) fs)
payloads_few [] h = omega arith
payloads_few (f ∷ fs) h = omega (arith, trafs_within f h.0, payloads_few fs h.1)

-- and the `traf`s no longer than the file
pub trafs_few : (file : List ℕ) (tree : FileTree) → IsReadTree file tree → traf_total tree ≤ length file
trafs_few file tree h =
    let moofs = ap (sum_of (λ (b : Box). length b.payload)) h.moofs in
    omega (arith, payloads_few tree.fragments h.fragments, moofs, payloads_kept (codes "moof") tree.top, sizes_fit true 0 file tree.top h.top.tiles.front.0)
