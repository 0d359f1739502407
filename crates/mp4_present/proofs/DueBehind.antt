-- When the samples of a track in a `moof` are due, by what is known of it before the `moof` and behind it.
use Rattle.std.proofs.Common.{◌≡◌, ℕ, List, [], ◌∷◌, ◌++◌, map, ap, ◌∙◌}
use Rattle.std.specs.Prelude.{flat_map}
use Rattle.std.proofs.lemmas.Grind.{flat_map-append}
use Rattle.std.proofs.lemmas.List.{append-nil, map-append}
use Rattle.mp4_frag.specs.format.Fragments.{FragmentTree, fragment_of}
use Rattle.mp4_frag.specs.format.FragmentSamples.{part_samples, parts_of, parts_for, fragment_samples}
use Rattle.mp4_frag.specs.words.Judged.{samples_of_track}
use Rattle.mp4_head.specs.format.Tree.{MovieTree, trexes_of}
use Rattle.mp4_present.specs.words.Passing.{parts_behind}
use Rattle.mp4_present.proofs.FragmentReasons.{for-append}

-- ---- the samples of some `moof`s and of more

pub parts_more : (movie : MovieTree) (xs ys : List FragmentTree) → parts_behind movie (xs ++ ys) ≡ parts_behind movie xs ++ parts_behind movie ys
parts_more movie xs ys = ap (flat_map (parts_of (trexes_of movie))) (map-append fragment_of xs ys) ∙ flat_map-append (parts_of (trexes_of movie)) (map fragment_of xs) (map fragment_of ys)

pub own_parts : (id : ℕ) (movie : MovieTree) (xs ys : List FragmentTree) → parts_for id (parts_behind movie (xs ++ ys)) ≡ parts_for id (parts_behind movie xs) ++ parts_for id (parts_behind movie ys)
own_parts id movie xs ys = ap (parts_for id) (parts_more movie xs ys) ∙ for-append id (parts_behind movie xs) (parts_behind movie ys)

pub own_samples : (id : ℕ) (movie : MovieTree) (xs ys : List FragmentTree)
    → fragment_samples id (parts_behind movie (xs ++ ys)) ≡ fragment_samples id (parts_behind movie xs) ++ fragment_samples id (parts_behind movie ys)
own_samples id movie xs ys = ap (flat_map part_samples) (own_parts id movie xs ys) ∙ flat_map-append part_samples (parts_for id (parts_behind movie xs)) (parts_for id (parts_behind movie ys))

-- those of one `moof`
pub one_moof : (id : ℕ) (movie : MovieTree) (f : FragmentTree) → fragment_samples id (parts_behind movie (f ∷ [])) ≡ samples_of_track (trexes_of movie) id f
one_moof id movie f = ap (fragment_samples id) (append-nil (parts_of (trexes_of movie) (fragment_of f)))
