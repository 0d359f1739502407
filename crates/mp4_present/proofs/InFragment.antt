-- In which of a file's `moof`s the samples of a track lie.
use Rattle.std.proofs.Common.{true, ◌≡◌, ◌⊎◌, Option, Some, None, ℕ, suc, ◌+◌, ◌-◌, ◌<◌, ◌≤◌, List, [], ◌∷◌, ◌++◌, length, map, replicate, inl, inr, ⊎_elim, refl, sym, ap, subst, ◌∙◌, arith, slice_index_or}
use Rattle.std.specs.Prelude.{codes}
use Rattle.std.specs.List.{AllByRecursion}
use Rattle.std.proofs.lemmas.List.{append_assoc, length-append, length-map, length-replicate, map-append, replicate-append-replicate}
use Rattle.mp4_boxes.specs.format.Box.{Box}
use Rattle.mp4_boxes.specs.format.Children.{of_kind}
use Rattle.mp4_boxes.proofs.Plain.{head_is, tail_is}
use Rattle.mp4_frag.specs.format.Fragments.{FragmentTree, IsFragmentTree, fragment_of}
use Rattle.mp4_frag.specs.format.FragmentSamples.{part_samples}
use Rattle.mp4_frag.specs.words.OwnTrafs.{PlacedTraf, note_of, own_in, placed_samples}
use Rattle.mp4_frag.specs.declared.next_traf.OwnTraf.{OwnTraf}
use Rattle.mp4_frag.specs.declared.trex.Trex.{Trex}
use Rattle.mp4_frag.proofs.OwnParts.{own_samples_in}
use Rattle.mp4_head.specs.format.Tree.{MovieTree, TrackTree, track_head_of, trexes_of}
use Rattle.mp4_present.specs.format.Denotes.{FileTree, plain_of}
use Rattle.mp4_present.specs.format.SamplePlaces.{fragments_from, sample_fragments}
use Rattle.mp4_present.specs.words.InFragment.{number_in_hand, own_numbers, spread, traf_numbers}
use Rattle.mp4_present.specs.words.Movies.{MovieSeen}
use Rattle.mp4_present.specs.words.OpenedMovie.{IsOpenedAs}
use Rattle.mp4_present.specs.words.OwnTrafs.{own_of}
use Rattle.mp4_present.specs.words.SamplesComing.{HoldsLast, own_trafs}
use Rattle.mp4_present.specs.declared.walking.Due.{Due}
use Rattle.mp4_present.specs.declared.walking.Walk.{Walk}
use Rattle.mp4_present.specs.words.Outline.{offsets}
use Rattle.mp4_present.proofs.MoofBegins.{Parted, Rise, parted, rise_kind, rise_lies}
use Rattle.mp4_present.proofs.OwnPlaced.{StandsIn, in_moof}

-- ---- all samples

replicated : {A : Type 0} (m n : ℕ) (x : A) (xs : List A) → replicate (m + n) x ++ xs ≡ replicate m x ++ (replicate n x ++ xs)
replicated m n x xs = ap (λ ys. ys ++ xs) (sym (replicate-append-replicate m n x)) ∙ append_assoc (replicate m x) (replicate n x) xs

-- the samples of some `traf`s of one `moof`, and then of more
spread_one : (n : ℕ) (trafs more : List PlacedTraf) (numbers : List ℕ) → spread (trafs ++ more) (replicate (length trafs) n ++ numbers) ≡ replicate (length (placed_samples trafs)) n ++ spread more numbers
spread_one n [] more numbers = refl
spread_one n (p ∷ trafs) more numbers =
    ap (λ ns. replicate (length (part_samples p.part)) n ++ ns) (spread_one n trafs more numbers)
    ∙ sym (replicated (length (part_samples p.part)) (length (placed_samples trafs)) n (spread more numbers))
    ∙ ap (λ k. replicate k n ++ spread more numbers) (sym (length-append (part_samples p.part) (placed_samples trafs)))

-- the numbers of the `moof`s of a track's samples are those of its `traf`s
pub spread_fragments : (movie : MovieTree) (id n : ℕ) (fs : List FragmentTree) → AllByRecursion IsFragmentTree fs
    → fragments_from (trexes_of movie) id n (map fragment_of fs) ≡ spread (own_of movie id fs) (own_numbers (trexes_of movie) id n fs)
spread_fragments movie id n [] h = refl
spread_fragments movie id n (f ∷ fs) h =
    (λ i. replicate (length (sym (own_samples_in (trexes_of movie) id f h.0) i)) n ++ spread_fragments movie id (suc n) fs h.1 i)
    ∙ sym (spread_one n (own_in (trexes_of movie) id f) (own_of movie id fs) (own_numbers (trexes_of movie) id (suc n) fs))

pub samples_in_fragments : (file : List ℕ) (m : MovieSeen) (tree : FileTree) (t : TrackTree) → IsOpenedAs file m tree
    → sample_fragments tree t ≡ replicate (length (plain_of t)) 0 ++ spread (own_trafs tree t) (traf_numbers tree t)
samples_in_fragments file m tree t o = ap (λ ns. replicate (length (plain_of t)) 0 ++ ns) (spread_fragments tree.movie (track_head_of t).id 1 tree.fragments o.is_tree.fragments)

-- one for each `traf`
pub numbered_each : (movie : MovieTree) (id n : ℕ) (fs : List FragmentTree) → length (own_numbers (trexes_of movie) id n fs) ≡ length (own_of movie id fs)
numbered_each movie id n [] = refl
numbered_each movie id n (f ∷ fs) =
    let own = own_in (trexes_of movie) id f in
    length-append (replicate (length own) n) (own_numbers (trexes_of movie) id (suc n) fs)
    ∙ (λ i. length-replicate (length own) n i + numbered_each movie id (suc n) fs i)
    ∙ sym (length-append own (own_of movie id fs))

-- ---- those of one `traf`

-- It stands among the first of these, which all have one number; or behind them.
abbrev Among : {A : Type 0} → List A → List A → List A → A → List A → Type 0
Among us bs ys y zs = (StandsIn y us × ((n d : ℕ) (ns : List ℕ) → slice_index_or (replicate (length us) n ++ ns) (length ys) d ≡ n))
    ⊎ ((front : List _) × (bs ≡ front ++ y ∷ zs) × ((n d : ℕ) (ns : List ℕ) → slice_index_or (replicate (length us) n ++ ns) (length ys) d ≡ slice_index_or ns (length front) d))

among : {A : Type 0} (us bs ys : List A) (y : A) (zs : List A) → us ++ bs ≡ ys ++ y ∷ zs → Among us bs ys y zs
among [] bs ys y zs e = inr (ys, e, λ n d ns. refl)
among (a ∷ us) bs [] y zs e = inl (record { front = []; back = us; are = ap (λ v. v ∷ us) (head_is a y (us ++ bs) zs e) }, λ n d ns. refl)
among (a ∷ us) bs (c ∷ ys) y zs e = ⊎_elim
    (λ s. inl (record { front = a ∷ s.0.front; back = s.0.back; are = ap (λ vs. a ∷ vs) s.0.are }, s.1))
    (λ s. inr s)
    (among us bs ys y zs (tail_is a c (us ++ bs) (ys ++ y ∷ zs) e))

-- The `moof` that it stands in, and its number, where the first has number n.
pub record Numbered (trexes : List Trex) (id n : ℕ) (fs : List FragmentTree) (earlier : List PlacedTraf) (p : PlacedTraf) : Type 0 where
  pub moof : FragmentTree
  pub front : List FragmentTree
  pub back : List FragmentTree
  pub are : fs ≡ front ++ moof ∷ back
  pub own : StandsIn p (own_in trexes id moof)
  pub number : slice_index_or (own_numbers trexes id n fs) (length earlier) 0 ≡ n + length front

pub numbered : (movie : MovieTree) (id n : ℕ) (fs : List FragmentTree) (earlier : List PlacedTraf) (p : PlacedTraf) (later : List PlacedTraf) → own_of movie id fs ≡ earlier ++ p ∷ later → Numbered (trexes_of movie) id n fs earlier p
numbered movie id n [] earlier p later e = absurd (none earlier e)
  where
    none : (xs : List PlacedTraf) → ◌≡◌ {A = List PlacedTraf} [] (xs ++ p ∷ later) → ⊥
    none [] e = cc
    none (x ∷ xs) e = cc
numbered movie id n (f ∷ fs) earlier p later e = ⊎_elim
    (λ s. record { moof = f; front = []; back = fs; are = refl; own = s.0; number = s.1 n 0 more ∙ no_more })
    (λ s. let r = numbered movie id (suc n) fs s.0 p later s.1 in
    let number = r.number in
    let further = s.2 n 0 more in
    record { moof = r.moof; front = f ∷ r.front; back = r.back; are = ap (λ gs. f ∷ gs) r.are; own = r.own; number = omega (arith, number, further) })
    (among (own_in (trexes_of movie) id f) (own_of movie id fs) earlier p later e)
  where
    more : List ℕ
    more = own_numbers (trexes_of movie) id (suc n) fs

    no_more : n ≡ n + 0
    no_more = omega arith

-- ---- how many `moof`s begin before it

abbrev moofs_of : List FragmentTree → List Box
moofs_of fs = map (λ (f : FragmentTree). f.moof) fs

module _ (file : List ℕ) (m : MovieSeen) (tree : FileTree) (t : TrackTree) (earlier : List PlacedTraf) (p : PlacedTraf) (o : IsOpenedAs file m tree) (its : Numbered (trexes_of tree.movie) (track_head_of t).id 1 tree.fragments earlier p) where
  abbrev begun : List ℕ
  begun = offsets (moofs_of its.front ++ its.moof.moof ∷ [])

  abbrev not_begun : List ℕ
  not_begun = offsets (moofs_of its.back)

  moofs_are : of_kind (codes "moof") tree.top ≡ moofs_of its.front ++ its.moof.moof ∷ moofs_of its.back
  moofs_are = sym o.is_tree.moofs ∙ ap moofs_of its.are ∙ map-append (λ (f : FragmentTree). f.moof) its.front (its.moof ∷ its.back)

  split_there : m.moofs ≡ begun ++ not_begun
  split_there =
      o.moofs ∙ ap offsets (moofs_are ∙ sym (append_assoc (moofs_of its.front) (its.moof.moof ∷ []) (moofs_of its.back)))
      ∙ map-append (λ (b : Box). b.offset) (moofs_of its.front ++ its.moof.moof ∷ []) (moofs_of its.back)

  its_tree : IsFragmentTree its.moof
  its_tree = last its.front (subst (AllByRecursion IsFragmentTree) its.are o.is_tree.fragments)
    where
      last : (gs : List FragmentTree) → AllByRecursion IsFragmentTree (gs ++ its.moof ∷ its.back) → IsFragmentTree its.moof
      last [] a = a.0
      last (g ∷ gs) a = last gs a.1

  parted_there : Parted (note_of p).at (moofs_of its.front) its.moof.moof (moofs_of its.back)
  parted_there =
      let inside = in_moof (trexes_of tree.movie) (track_head_of t).id its.moof p its_tree its.own in
      let low = inside.0 in
      let high = inside.1 in
      let rise = rise_kind (codes "moof") 0 tree.top (rise_lies true 0 file tree.top o.is_tree.top.tiles.front.0) in
      parted 0 (note_of p).at (moofs_of its.front) its.moof.moof (moofs_of its.back) (subst (λ bs. Rise 0 bs) moofs_are rise) (omega (arith, low)) (omega (arith, high))

  number_is : length begun ≡ slice_index_or (traf_numbers tree t) (length earlier) 0
  number_is =
      let all = length-map (moofs_of its.front ++ its.moof.moof ∷ []) (λ (b : Box). b.offset) in
      let front = length-append (moofs_of its.front) (its.moof.moof ∷ []) in
      let each = length-map its.front (λ (f : FragmentTree). f.moof) in
      let number = its.number in
      omega (arith, all, front, each, number)

-- what counts the `moof`s that begin before the `traf` in hand, where there is one, tells its number
pub counted_in_hand : (file : List ℕ) (m : MovieSeen) (tree : FileTree) (t : TrackTree) (earlier later : List PlacedTraf) (w : Walk) (before : Option Due) (n : ℕ) → IsOpenedAs file m tree → HoldsLast file tree t earlier later w before → (before ≡ None → ⊥)
    → ((front back : List ℕ) → m.moofs ≡ front ++ back → AllByRecursion (λ k. k < w.traf.at) front → AllByRecursion (λ k. w.traf.at ≤ k) back → n ≡ length front) → n ≡ number_in_hand tree t before (length earlier)
counted_in_hand file m tree t earlier later w None n o h some count = absurd (some refl)
counted_in_hand file m tree t earlier later w (Some before) n o h some count =
    let front = h.0 in
    let last = h.1 in
    let there : w.traf.at ≡ (note_of last).at = ap (λ (x : OwnTraf). x.at) h.3.traf in
    let its = numbered tree.movie (track_head_of t).id 1 tree.fragments front last later h.3.split in
    let p = parted_there file m tree t front last o its in
    let one = length-append front (last ∷ []) in
    let all = ap (λ (ps : List PlacedTraf). length ps) h.2 in
    let place : length front ≡ length earlier - 1 = omega (arith, one, all) in
    count (begun file m tree t front last o its) (not_begun file m tree t front last o its) (split_there file m tree t front last o its)
    (subst (λ at. AllByRecursion (λ k. k < at) (begun file m tree t front last o its)) (sym there) p.begun)
    (subst (λ at. AllByRecursion (λ k. at ≤ k) (not_begun file m tree t front last o its)) (sym there) p.not_begun)
    ∙ number_is file m tree t front last o its
    ∙ ap (λ k. slice_index_or (traf_numbers tree t) k 0) place
