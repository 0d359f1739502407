-- The part of the last `traf` of a `moof`, behind the parts of those before it.
use Rattle.std.proofs.Common.{◌≡◌, ℕ, ◌-◌, List, [], ◌∷◌, ◌++◌, Option, length, map, refl, sym, ap, ◌∙◌, arith, length-append}
use Rattle.std.specs.Prelude.{ℤ, pos, unwrap_or, slice_get}
use Rattle.std.proofs.lemmas.List.{map-append, length-map}
use Rattle.mp4_boxes.specs.format.Box.{Box}
use Rattle.mp4_tables.proofs.GroupWalks.{found_there}
use Rattle.mp4_frag.specs.declared.trex.Trex.{Trex}
use Rattle.mp4_frag.specs.format.Fragments.{TrackFragment, track_fragment_of}
use Rattle.mp4_frag.specs.format.FragmentSamples.{Part, parts_after, parts_of, trex_for, no_trex}
use Rattle.mp4_frag.specs.words.Judged.{part_with, end_with}
use Rattle.mp4_head.specs.format.Tree.{MovieTree, trexes_of}
use Rattle.mp4_present.specs.format.Judge.{last_part, no_part}

-- the parts of these `traf`s of a `moof` at a place
abbrev pub parts_in : MovieTree → ℕ → List (List Box) → List Part
parts_in movie at trafs = parts_of (trexes_of movie) (record { at = at; trafs = map track_fragment_of trafs })

-- the `trex` of a `traf`, or the one without values
abbrev pub trex_of_part : List Trex → TrackFragment → Trex
trex_of_part trexes traf = unwrap_or (trex_for trexes traf.id) no_trex

-- as many parts as `traf`s
as_many : (trexes : List Trex) (moof : ℕ) (before : ℤ) (trafs : List TrackFragment) → length (parts_after trexes moof before trafs) ≡ length trafs
as_many trexes moof before [] = refl
as_many trexes moof before (traf ∷ trafs) = omega (arith, as_many trexes moof (end_with moof before (trex_of_part trexes traf) traf) trafs)

-- one more `traf` at the end
pushed : (trexes : List Trex) (moof : ℕ) (before : ℤ) (trafs : List TrackFragment) (traf : TrackFragment)
    → (p : ℤ) × (parts_after trexes moof before (trafs ++ traf ∷ []) ≡ parts_after trexes moof before trafs ++ part_with moof p (trex_of_part trexes traf) traf ∷ [])
pushed trexes moof before [] traf = (before, refl)
pushed trexes moof before (first ∷ trafs) traf =
    let r = pushed trexes moof (end_with moof before (trex_of_part trexes first) first) trafs traf in
    (r.0, ap (λ (ps : List Part). part_with moof before (trex_of_part trexes first) first ∷ ps) r.1)

-- The last part is that of the last `traf`, behind data that ends somewhere, and comes behind the parts of the others.
pub record IsLast (movie : MovieTree) (at : ℕ) (before : List (List Box)) (inside : List Box) : Type 0 where
  pub place : ℤ
  pub is : last_part movie at (before ++ inside ∷ []) ≡ part_with at place (trex_of_part (trexes_of movie) (track_fragment_of inside)) (track_fragment_of inside)
  pub behind : parts_in movie at (before ++ inside ∷ []) ≡ parts_in movie at before ++ last_part movie at (before ++ inside ∷ []) ∷ []

-- so it is
pub last_is : (movie : MovieTree) (at : ℕ) (before : List (List Box)) (inside : List Box) → IsLast movie at before inside
last_is movie at before inside =
    let trexes = trexes_of movie in
    let traf = track_fragment_of inside in
    let front = map track_fragment_of before in
    let r = pushed trexes at (pos at) front traf in
    let part = part_with at r.0 (trex_of_part trexes traf) traf in
    let split : parts_in movie at (before ++ inside ∷ []) ≡ parts_in movie at before ++ part ∷ [] = ap (parts_after trexes at (pos at)) (map-append track_fragment_of before (inside ∷ [])) ∙ r.1 in
    let count : length (before ++ inside ∷ []) - 1 ≡ length (parts_in movie at before) = omega (arith, length-append before (inside ∷ []), as_many trexes at (pos at) front, length-map before track_fragment_of) in
    let is : last_part movie at (before ++ inside ∷ []) ≡ part =
    (λ i. unwrap_or (slice_get (split i) (count i)) no_part) ∙ ap (λ (o : Option Part). unwrap_or o no_part) (found_there (parts_in movie at before) [] part) in
    record { place = r.0; is = is; behind = split ∙ ap (λ (p : Part). parts_in movie at before ++ p ∷ []) (sym is) }
