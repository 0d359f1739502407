-- The `traf`s that have samples of a track: where they stand among its `moof`s, and in the file.
use Rattle.std.proofs.Common.{◌≡◌, ◌⊎◌, ℕ, zero, suc, ◌+◌, ◌-◌, ◌<◌, ◌≤◌, max, true, false, Bool, cond, List, [], ◌∷◌, ◌++◌, Some, None, length, take, drop, map, inl, inr, ⊎_elim, refl, sym, ap, subst, ◌∙◌, arith, slice_get, get_or, slice_index_or}
use Rattle.std.specs.Prelude.{Contains, codes, filter, flat_map}
use Rattle.std.specs.List.{AllByRecursion, AllZip}
use Rattle.std.proofs.lemmas.Grind.{flat_map-append}
use Rattle.std.proofs.lemmas.List.{map-append, length-drop, drop-drop}
use Rattle.mp4_store.specs.words.Device.{range}
use Rattle.mp4_boxes.specs.format.Box.{Box, LieEndToEnd, size, sizes}
use Rattle.mp4_boxes.specs.format.Children.{of_kind}
use Rattle.mp4_boxes.proofs.Tiling.{first_fits, lies_behind, sizes_fit}
use Rattle.mp4_boxes.proofs.Plain.{head_is, some_is, tail_is}
use Rattle.mp4_tables.specs.format.PlainSamples.{PlacedSample}
use Rattle.mp4_frag.specs.format.Fragments.{Fragment, FragmentTree, IsFragmentTree}
use Rattle.mp4_frag.specs.format.FragmentRows.{fragment_rows, fragment_length}
use Rattle.mp4_frag.specs.format.FragmentSamples.{part_samples, fragment_samples}
use Rattle.mp4_frag.specs.words.OwnTrafs.{PlacedTraf, own_in, placed_samples, note_of, longest_of, traf_steps}
use Rattle.mp4_frag.proofs.OwnParts.{own_samples_in, own_steps as own_steps_in, placed_among}
use Rattle.mp4_frag.proofs.SaidSamples.{tree_said}
use Rattle.mp4_frag.specs.declared.trex.Trex.{Trex}
use Rattle.mp4_head.specs.format.Tree.{TrackTree, MovieTree, track_head_of, trexes_of}
use Rattle.mp4_present.specs.format.Denotes.{FileTree}
use Rattle.mp4_present.specs.words.Movies.{MovieSeen}
use Rattle.mp4_present.specs.words.OpenedMovie.{IsOpenedAs}
use Rattle.mp4_present.specs.words.Outline.{longest}
use Rattle.mp4_present.specs.words.OwnTrafs.{own_of}
use Rattle.mp4_present.specs.words.Passing.{parts_behind}
use Rattle.mp4_present.specs.words.SamplesComing.{own_trafs}
use Rattle.mp4_present.specs.words.WalkSteps.{moof_steps, moofs_steps, trafs_steps}
use Rattle.mp4_present.proofs.DueBehind.{own_samples, one_moof}
use Rattle.mp4_present.proofs.FragmentPass.{longest_from}
use Rattle.mp4_present.proofs.TrafPlaces.{IsKept, kept}
use Rattle.mp4_tables.proofs.Sums.{sum_joined as sum-append}

-- ---- lists

none_of : {A : Type 0} (xs : List A) (y : A) (ys : List A) → ◌≡◌ {A = List A} [] (xs ++ y ∷ ys) → ⊥
none_of [] y ys e = cc
none_of (x ∷ xs) y ys e = cc

-- an element stands between these
pub record StandsIn {A : Type 0} (y : A) (xs : List A) : Type 0 where
  pub front : List A
  pub back : List A
  pub are : xs ≡ front ++ y ∷ back

in_two : {A : Type 0} (us bs ys : List A) (y : A) (zs : List A) → us ++ bs ≡ ys ++ y ∷ zs → StandsIn y us ⊎ StandsIn y bs
in_two [] bs ys y zs e = inr (record { front = ys; back = zs; are = e })
in_two (a ∷ us) bs [] y zs e = inl (record { front = []; back = us; are = ap (λ v. v ∷ us) (head_is a y (us ++ bs) zs e) })
in_two (a ∷ us) bs (c ∷ ys) y zs e = ⊎_elim
    (λ s. inl (record { front = a ∷ s.front; back = s.back; are = ap (λ vs. a ∷ vs) s.are }))
    (λ s. inr s)
    (in_two us bs ys y zs (tail_is a c (us ++ bs) (ys ++ y ∷ zs) e))

-- it stands in the list of one of these
pub record StandsOf {A B : Type 0} (f : A → List B) (y : B) (xs : List A) : Type 0 where
  pub x : A
  pub among : StandsIn x xs
  pub own : StandsIn y (f x)

pub in_one : {A B : Type 0} (f : A → List B) (xs : List A) (ys : List B) (y : B) (zs : List B) → flat_map f xs ≡ ys ++ y ∷ zs → StandsOf f y xs
in_one f [] ys y zs e = absurd (none_of ys y zs e)
in_one f (x ∷ xs) ys y zs e = ⊎_elim
    (λ s. record { x = x; among = record { front = []; back = xs; are = refl }; own = s })
    (λ s.
    let r = in_one f xs s.front y s.back s.are in
    record { x = r.x; among = record { front = x ∷ r.among.front; back = r.among.back; are = ap (λ vs. x ∷ vs) r.among.are }; own = r.own })
    (in_two (f x) (flat_map f xs) ys y zs e)

pub contains : {A : Type 0} (xs : List A) (y : A) (ys : List A) → Contains (xs ++ y ∷ ys) y
contains [] y ys = (0, omega arith, refl)
contains (x ∷ xs) y ys = let c = contains xs y ys in (suc c.0, let lt = c.1 in omega (arith, lt), c.2)

pub contains_in : {A : Type 0} (xs : List A) (y : A) → StandsIn y xs → Contains xs y
contains_in xs y s = subst (λ vs. Contains vs y) (sym s.are) (contains s.front y s.back)

-- and the other way round
pub stands_at : {A : Type 0} (xs : List A) (y : A) (k : ℕ) → k < length xs → slice_index_or xs k y ≡ y → StandsIn y xs
stands_at [] y k lt e = absurd (omega (arith, lt))
stands_at (x ∷ xs) y zero lt e = record { front = []; back = xs; are = ap (λ v. v ∷ xs) e }
stands_at (x ∷ xs) y (suc k) lt e =
    let s = stands_at xs y k (omega (arith, lt)) e in
    record { front = x ∷ s.front; back = s.back; are = ap (λ vs. x ∷ vs) s.are }

-- where one is found behind some, others follow; and else none does
pub record Follows {A B : Type 0} (f : A → B) (found : B) (ys : List A) : Type 0 where
  pub next : A
  pub more : List A
  pub are : ys ≡ next ∷ more
  pub is : f next ≡ found

pub found_behind : {A B : Type 0} (f : A → B) (xs ys : List A) (found : B) → slice_get (map f (xs ++ ys)) (length xs) ≡ Some found → Follows f found ys
found_behind f [] [] found e = absurd cc
found_behind f [] (y ∷ ys) found e = record { next = y; more = ys; are = refl; is = some_is (f y) found e }
found_behind f (x ∷ xs) ys found e = found_behind f xs ys found e

pub none_behind : {A B : Type 0} (f : A → B) (xs ys : List A) → slice_get (map f (xs ++ ys)) (length xs) ≡ None → ys ≡ []
none_behind f [] [] e = refl
none_behind f [] (y ∷ ys) e = absurd cc
none_behind f (x ∷ xs) ys e = none_behind f xs ys e

pub got : {A : Type 0} (xs : List A) (k : ℕ) (x : A) → k < length xs → slice_get xs k ≡ Some (get_or xs k x)
got [] k x l = absurd (omega (arith, l))
got (y ∷ xs) zero x l = refl
got (y ∷ xs) (suc k) x l = got xs k x (omega (arith, l))

pub zip_got : {A B : Type 0} (R : A → B → Type 0) (xs : List A) (ys : List B) (k : ℕ) (x : A) → AllZip R xs ys → slice_get xs k ≡ Some x → (y : B) × (slice_get ys k ≡ Some y) × R x y
zip_got R [] ys k x h a = absurd (cc)
zip_got R (v ∷ xs) [] k x h a = absurd h
zip_got R (v ∷ xs) (w ∷ ys) zero x h a = (w, refl, subst (λ c. R c w) (some_is v x a) h.0)
zip_got R (v ∷ xs) (w ∷ ys) (suc k) x h a = zip_got R xs ys k x h.1 a

-- ---- the own `traf`s of some `moof`s and of more

pub own_append : (movie : MovieTree) (id : ℕ) (xs ys : List FragmentTree) → own_of movie id (xs ++ ys) ≡ own_of movie id xs ++ own_of movie id ys
own_append movie id xs ys = flat_map-append (own_in (trexes_of movie) id) xs ys

pub placed_append : (xs ys : List PlacedTraf) → placed_samples (xs ++ ys) ≡ placed_samples xs ++ placed_samples ys
placed_append xs ys = flat_map-append (λ (p : PlacedTraf). part_samples p.part) xs ys

pub one_placed : (p : PlacedTraf) → placed_samples (p ∷ []) ≡ part_samples p.part
one_placed p = no_more (part_samples p.part)
  where
    no_more : (ss : List PlacedSample) → ss ++ [] ≡ ss
    no_more [] = refl
    no_more (s ∷ ss) = ap (λ xs. s ∷ xs) (no_more ss)

-- they have all samples of the track
pub all_placed : (movie : MovieTree) (id : ℕ) (fs : List FragmentTree) → AllByRecursion IsFragmentTree fs → placed_samples (own_of movie id fs) ≡ fragment_samples id (parts_behind movie fs)
all_placed movie id [] h = refl
all_placed movie id (f ∷ fs) h =
    placed_append (own_in (trexes_of movie) id f) (own_of movie id fs)
    ∙ (λ i. own_samples_in (trexes_of movie) id f h.0 i ++ all_placed movie id fs h.1 i)
    ∙ ap (λ ss. ss ++ fragment_samples id (parts_behind movie fs)) (sym (one_moof id movie f))
    ∙ sym (own_samples id movie (f ∷ []) fs)

-- ---- what they cost

-- no more than all of their `moof`s
pub own_steps : (movie : MovieTree) (id : ℕ) (fs : List FragmentTree) → AllByRecursion IsFragmentTree fs → trafs_steps (own_of movie id fs) ≤ moofs_steps fs
unfolding moof_steps
own_steps movie id [] h = omega arith
own_steps movie id (f ∷ fs) h =
    omega (arith, sum-append (λ (p : PlacedTraf). traf_steps p.traf) (own_in (trexes_of movie) id f) (own_of movie id fs), one f h.0, own_steps movie id fs h.1)
  where
    one : (f : FragmentTree) → IsFragmentTree f → trafs_steps (own_in (trexes_of movie) id f) ≤ moof_steps f.moof
    one f h =
        let said = ap (λ (g : Fragment). fragment_rows g + fragment_length g) (tree_said f h) in
        omega (arith, said, own_steps_in (trexes_of movie) id f h)

-- ---- where they lie

-- a box that stands among others lies among their bytes
pub lies_among : (is_open : Bool) (at : ℕ) (bytes : List ℕ) (boxes : List Box) (b : Box) → LieEndToEnd is_open at bytes boxes → StandsIn b boxes
    → (at ≤ b.offset) × (b.offset + size b ≤ at + length bytes) × (b.payload ≡ take (length b.payload) (drop (b.offset + b.header - at) bytes))
lies_among is_open at bytes boxes b l s =
    let lie = lies_behind is_open at bytes s.front (b ∷ s.back) (subst (λ bs. LieEndToEnd is_open at bytes bs) s.are l) in
    let behind = at + sizes s.front in
    let rest = drop (sizes s.front) bytes in
    let fits = sizes_fit is_open at bytes boxes l in
    let offset : b.offset ≡ behind = ap (λ (x : Box). x.offset) lie.0.2 in
    let header : b.header ≡ lie.0.0.length = ap (λ (x : Box). x.header) lie.0.2 in
    let payload : b.payload ≡ take (lie.0.0.size - lie.0.0.length) (drop lie.0.0.length rest) = ap (λ (x : Box). x.payload) lie.0.2 in
    let front = sizes_fit is_open at bytes s.front (fronts at bytes s.front (b ∷ s.back) (subst (λ bs. LieEndToEnd is_open at bytes bs) s.are l)) in
    let small = (first_fits is_open behind rest b s.back lie).1 in
    let long : length rest ≡ length bytes - sizes s.front = length-drop (sizes s.front) bytes in
    let same : drop lie.0.0.length rest ≡ drop (b.offset + b.header - at) bytes =
    drop-drop lie.0.0.length (sizes s.front) bytes ∙ ap (λ n. drop n bytes) (place at (sizes s.front) lie.0.0.length b.offset b.header offset header) in
    let own : b.payload ≡ take (lie.0.0.size - lie.0.0.length) (drop (b.offset + b.header - at) bytes) = payload ∙ ap (take (lie.0.0.size - lie.0.0.length)) same in
    (omega (arith, offset), omega (arith, offset, small, long, front), taken (lie.0.0.size - lie.0.0.length) b.payload (drop (b.offset + b.header - at) bytes) own)
  where
    fronts : (at : ℕ) (bytes : List ℕ) (xs ys : List Box) → LieEndToEnd is_open at bytes (xs ++ ys) → LieEndToEnd is_open at bytes xs
    fronts at bytes [] ys l = tt
    fronts at bytes (x ∷ xs) ys l = (l.0, fronts (at + size x) (drop (size x) bytes) xs ys l.1)

    place : (at n k offset header : ℕ) → offset ≡ at + n → header ≡ k → n + k ≡ offset + header - at
    place at n k offset header e h = omega (arith, e, h)

    taken : (n : ℕ) (xs ys : List ℕ) → xs ≡ take n ys → xs ≡ take (length xs) ys
    taken n xs ys e = e ∙ whole n ys ∙ ap (λ vs. take (length vs) ys) (sym e)
      where
        whole : (n : ℕ) (ys : List ℕ) → take n ys ≡ take (length (take n ys)) ys
        whole zero ys = refl
        whole (suc n) [] = refl
        whole (suc n) (y ∷ ys) = ap (λ vs. y ∷ vs) (whole n ys)

-- the payload of a box inside of another one, whose payload lies in the file
nested : (file payload own : List ℕ) (at from n : ℕ) → payload ≡ range file at n → n ≡ length payload → own ≡ take (length own) (drop from payload) → from + length own ≤ n → own ≡ range file (at + from) (length own)
nested file payload own at from n is long own_is fits =
    own_is ∙ ap (λ vs. take (length own) (drop from vs)) is ∙ inner n from (length own) (drop at file) fits ∙ ap (take (length own)) (drop-drop from at file)
  where
    inner : (n from k : ℕ) (xs : List ℕ) → from + k ≤ n → take k (drop from (take n xs)) ≡ take k (drop from xs)
    inner zero zero zero xs le = refl
    inner zero zero (suc k) xs le = absurd (omega (arith, le))
    inner zero (suc from) k xs le = absurd (omega (arith, le))
    inner (suc n) from zero xs le = refl
    inner (suc n) from (suc k) [] le = refl
    inner (suc n) zero (suc k) (x ∷ xs) le = ap (λ vs. x ∷ vs) (inner n zero k xs (omega (arith, le)))
    inner (suc n) (suc from) (suc k) (x ∷ xs) le = inner n from (suc k) xs (omega (arith, le))

-- one of a `moof` lies in its payload
pub in_moof : (trexes : List Trex) (id : ℕ) (f : FragmentTree) (p : PlacedTraf) → IsFragmentTree f → StandsIn p (own_in trexes id f)
    → (f.moof.offset + f.moof.header ≤ p.traf.offset) × (p.traf.offset + size p.traf ≤ f.moof.offset + f.moof.header + length f.moof.payload)
    × (p.traf.payload ≡ take (length p.traf.payload) (drop (p.traf.offset + p.traf.header - (f.moof.offset + f.moof.header)) f.moof.payload))
in_moof trexes id f p h s =
    let c = (placed_among trexes id f p (contains_in (own_in trexes id f) p s)).0 in
    let at = stands_at (of_kind (codes "traf") f.children) p.traf c.0 c.1 c.2 in
    let k = kept (codes "traf") f.children at.front p.traf at.back at.are in
    lies_among false (f.moof.offset + f.moof.header) f.moof.payload f.children p.traf h.children.tiles.front.0 (record { front = k.before; back = k.after; are = k.are })

module _ (file : List ℕ) (m : MovieSeen) (tree : FileTree) (t : TrackTree) (earlier : List PlacedTraf) (next : PlacedTraf) (later : List PlacedTraf) (o : IsOpenedAs file m tree) (split : own_trafs tree t ≡ earlier ++ next ∷ later) where
  -- the `moof` that it stands in
  pub its_moof : StandsOf (own_in (trexes_of tree.movie) (track_head_of t).id) next tree.fragments
  its_moof = in_one (own_in (trexes_of tree.movie) (track_head_of t).id) tree.fragments earlier next later split

  pub its_tree : IsFragmentTree its_moof.x
  its_tree = last its_moof.among.front (subst (AllByRecursion IsFragmentTree) its_moof.among.are o.is_tree.fragments)
    where
      last : (gs : List FragmentTree) → AllByRecursion IsFragmentTree (gs ++ its_moof.x ∷ its_moof.among.back) → IsFragmentTree its_moof.x
      last [] a = a.0
      last (g ∷ gs) a = last gs a.1

  moof_kept : IsKept (codes "moof") tree.top its_moof.x.moof
  moof_kept =
      let s = its_moof.among in
      kept (codes "moof") tree.top (map (λ (f : FragmentTree). f.moof) s.front) its_moof.x.moof (map (λ (f : FragmentTree). f.moof) s.back)
      (sym o.is_tree.moofs ∙ ap (map (λ (f : FragmentTree). f.moof)) s.are ∙ map-append (λ (f : FragmentTree). f.moof) s.front (its_moof.x ∷ s.back))

  -- its bytes are those of the file where it was noted
  pub lies_there : ((note_of next).at + (note_of next).len ≤ length file) × (next.traf.payload ≡ range file (note_of next).at (note_of next).len)
  lies_there =
      let moof = its_moof.x.moof in
      let a = lies_among true 0 file tree.top moof o.is_tree.top.tiles.front.0 (record { front = moof_kept.before; back = moof_kept.after; are = moof_kept.are }) in
      let b = in_moof (trexes_of tree.movie) (track_head_of t).id its_moof.x next its_tree its_moof.own in
      let a_high = a.1 in
      let b_low = b.0 in
      let b_high = b.1 in
      let at = moof.offset + moof.header in
      let from = next.traf.offset + next.traf.header - at in
      let is : moof.payload ≡ range file at (length moof.payload) = a.2 ∙ ap (λ n. range file n (length moof.payload)) (no_less at) in
      let place : at + from ≡ next.traf.offset + next.traf.header = omega (arith, b_low) in
      (omega (arith, a_high, b_high, b_low), nested file moof.payload next.traf.payload at from (length moof.payload) is refl b.2 (omega (arith, b_low, b_high)) ∙ ap (λ n. range file n (length next.traf.payload)) place)
    where
      no_less : (n : ℕ) → n - 0 ≡ n
      no_less n = omega arith

-- ---- how long they are

pub longest_append : (xs ys : List PlacedTraf) → longest_of (xs ++ ys) ≡ max (longest_of xs) (longest_of ys)
longest_append [] ys = omega arith
longest_append (x ∷ xs) ys = omega (arith, longest_append xs ys)

-- none of some is longer than the longest
pub among_longest : (earlier : List PlacedTraf) (next : PlacedTraf) (later : List PlacedTraf) → length next.traf.payload ≤ longest_of (earlier ++ next ∷ later)
among_longest [] next later = omega arith
among_longest (p ∷ earlier) next later = omega (arith, among_longest earlier next later)

all_short : (n : ℕ) (ps : List PlacedTraf) → ((p : PlacedTraf) → StandsIn p ps → length p.traf.payload ≤ n) → longest_of ps ≤ n
all_short n [] each = omega arith
all_short n (p ∷ ps) each =
    let first = each p (record { front = []; back = ps; are = refl }) in
    omega (arith, first, all_short n ps (λ q s. each q (record { front = p ∷ s.front; back = s.back; are = ap (λ qs. p ∷ qs) s.are })))

-- nor longer than the longest `moof`
pub own_short : (movie : MovieTree) (id : ℕ) (fs : List FragmentTree) → AllByRecursion IsFragmentTree fs → longest_of (own_of movie id fs) ≤ longest (map (λ (f : FragmentTree). f.moof) fs)
own_short movie id [] h = omega arith
own_short movie id (f ∷ fs) h =
    let one = all_short (size f.moof) (own_in (trexes_of movie) id f) (λ p s. let b = in_moof (trexes_of movie) id f p h.0 s in let low = b.0 in let high = b.1 in omega (arith, low, high)) in
    omega (arith, longest_append (own_in (trexes_of movie) id f) (own_of movie id fs), one, own_short movie id fs h.1, longest_from (max 0 (size f.moof)) (map (λ (f : FragmentTree). f.moof) fs))

-- ---- what it says

-- an element that was kept passes, and stands among all
pub passed : {A : Type 0} (f : A → Bool) (xs : List A) (y : A) → StandsIn y (filter f xs) → (f y ≡ true) × StandsIn y xs
passed {A = A} f [] y s = absurd (none_of s.front y s.back s.are)
passed {A = A} f (x ∷ xs) y s = by (f x) refl s.front s.are (λ front are. passed f xs y (record { front = front; back = s.back; are = are }))
  where
    later : (f y ≡ true) × StandsIn y xs → (f y ≡ true) × StandsIn y (x ∷ xs)
    later r = (r.0, record { front = x ∷ r.1.front; back = r.1.back; are = ap (λ vs. x ∷ vs) r.1.are })

    by : (v : Bool) → f x ≡ v → (front : List A) → cond v (x ∷ filter f xs) (filter f xs) ≡ front ++ y ∷ s.back → ((front : List A) → filter f xs ≡ front ++ y ∷ s.back → (f y ≡ true) × StandsIn y xs) → (f y ≡ true) × StandsIn y (x ∷ xs)
    by false e front are more = later (more front are)
    by true e [] are more =
        let same = head_is x y (filter f xs) s.back are in
        (subst (λ v. f v ≡ true) same e, record { front = []; back = xs; are = ap (λ v. v ∷ xs) same })
    by true e (z ∷ front) are more = later (more front (tail_is x z (filter f xs) (front ++ y ∷ s.back) are))

-- what is so of each part is so of that of one
pub of_part : {A B : Type 0} (f : A → B) (P : B → Type 0) (xs : List A) (y : A) → StandsIn y xs → AllByRecursion P (map f xs) → P (f y)
of_part {A = A} f P xs y s a = last s.front (subst (λ vs. AllByRecursion P (map f vs)) s.are a)
  where
    last : (front : List A) → AllByRecursion P (map f (front ++ y ∷ s.back)) → P (f y)
    last [] a = a.0
    last (x ∷ front) a = last front a.1
