-- In which `moof`s all samples of a track lie, those of its tables too.
use Rattle.std.proofs.Common.{◌≡◌, ℕ, ◌+◌, ◌-◌, List, [], ◌∷◌, ◌++◌, length, replicate, refl, sym, ap, ◌∙◌, arith, length-append}
use Rattle.std.proofs.lemmas.List.{length-replicate}
use Rattle.mp4_tables.proofs.SampleLists.{timed_length}
use Rattle.mp4_frag.specs.format.FragmentSamples.{fragment_samples, part_samples, start_of}
use Rattle.mp4_frag.specs.words.OwnTrafs.{PlacedTraf, placed_samples}
use Rattle.mp4_head.specs.format.Tree.{TrackTree, track_head_of}
use Rattle.mp4_present.specs.format.Denotes.{FileTree, file_parts, parts_of_track, placed_of, plain_of}
use Rattle.mp4_present.specs.format.SamplePlaces.{sample_fragments}
use Rattle.mp4_present.specs.words.InFragment.{spread, traf_numbers}
use Rattle.mp4_present.specs.words.Movies.{MovieSeen}
use Rattle.mp4_present.specs.words.OpenedMovie.{IsOpenedAs}
use Rattle.mp4_present.specs.words.SamplesComing.{own_trafs, track_keys, track_samples}
use Rattle.mp4_present.proofs.InFragment.{numbered_each, samples_in_fragments}
use Rattle.mp4_present.proofs.OwnPlaced.{all_placed}
use Rattle.mp4_answers.specs.words.ListedWalks.{numbers_of_last}

-- all samples, those of `traf`s, and those of tables
many : (tree : FileTree) (t : TrackTree) (file : List ℕ) (m : MovieSeen) → IsOpenedAs file m tree → length (track_samples tree t) - length (placed_samples (own_trafs tree t)) ≡ length (plain_of t)
many tree t file m o =
    let id = (track_head_of t).id in
    let parts = file_parts tree in
    let all = timed_length (track_keys tree t) 0 (start_of (plain_of t) (parts_of_track parts t)) (placed_of parts t) in
    let two = length-append (plain_of t) (fragment_samples id parts) in
    let own = ap length (all_placed tree.movie id tree.fragments o.is_tree.fragments) in
    omega (arith, all, two, own)

pub all_numbers : (file : List ℕ) (m : MovieSeen) (tree : FileTree) (t : TrackTree) → IsOpenedAs file m tree → numbers_of_last tree t (length (track_samples tree t)) ≡ sample_fragments tree t
all_numbers file m tree t o = ap (λ n. replicate n 0 ++ spread (own_trafs tree t) (traf_numbers tree t)) (many tree t file m o) ∙ sym (samples_in_fragments file m tree t o)

-- ---- there is a number for each

spread_long : (trafs : List PlacedTraf) (numbers : List ℕ) → length numbers ≡ length trafs → length (spread trafs numbers) ≡ length (placed_samples trafs)
spread_long [] [] e = refl
spread_long [] (n ∷ numbers) e = absurd cc
spread_long (p ∷ trafs) [] e = absurd cc
spread_long (p ∷ trafs) (n ∷ numbers) e =
    let rest : length numbers ≡ length trafs = omega (arith, e) in
    length-append (replicate (length (part_samples p.part)) n) (spread trafs numbers)
    ∙ (λ j. length-replicate (length (part_samples p.part)) n j + spread_long trafs numbers rest j)
    ∙ sym (length-append (part_samples p.part) (placed_samples trafs))

pub numbers_each : (file : List ℕ) (m : MovieSeen) (tree : FileTree) (t : TrackTree) → IsOpenedAs file m tree → length (sample_fragments tree t) ≡ length (placed_of (file_parts tree) t)
numbers_each file m tree t o =
    let id = (track_head_of t).id in
    let own = own_trafs tree t in
    let numbers = traf_numbers tree t in
    ap length (samples_in_fragments file m tree t o)
    ∙ length-append (replicate (length (plain_of t)) 0) (spread own numbers)
    ∙ (λ j. length-replicate {A = ℕ} (length (plain_of t)) 0 j + spread_long own numbers (numbered_each tree.movie id 1 tree.fragments) j)
    ∙ (λ j. length (plain_of t) + length (all_placed tree.movie id tree.fragments o.is_tree.fragments j))
    ∙ sym (length-append (plain_of t) (fragment_samples id (file_parts tree)))
