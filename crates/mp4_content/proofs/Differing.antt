-- Lists of differences, grown value after value and entry after entry.
use Rattle.std.proofs.Common.{◌≡◌, ℕ, zero, suc, ◌+◌, ◌-◌, ◌<◌, ◌≤◌, ◌⊎◌, inl, inr, min, Bool, true, false, if◌then◌else◌, List, [], ◌∷◌, ◌++◌, length, drop, take, slice_index_or, Option, None, Some, refl, sym, ap, subst, ◌∙◌, arith, append_assoc}
use Rattle.std.specs.Prelude.{map, ◌==◌}
use Rattle.std.proofs.lemmas.List.{append-nil, drop-drop, take-append-drop}
use Rattle.std.proofs.lemmas.Bool.{eq-eqb, cases_lt}
use Rattle.mp4_boxes.proofs.Plain.{drop_all, plus_one, some_is}
use Rattle.mp4_store.specs.words.Device.{range}
use Rattle.mp4_content.specs.format.Differences.{first_unequal, each_differ}
use Rattle.mp4_content.specs.declared.comparing.differences.Difference.{Difference}

-- what was found, and then more
pub and_then : (old mid new a b : List Difference) → mid ≡ old ++ a → new ≡ mid ++ b → new ≡ old ++ (a ++ b)
and_then old mid new a b e f = f ∙ ap (λ (ds : List Difference). ds ++ b) e ∙ append_assoc old a b

-- the element at a place stands in front of what is behind it
pub at_drop : {A : Type 0} (xs : List A) (k : ℕ) (x : A) → k < length xs → x ≡ slice_index_or xs k x → drop k xs ≡ x ∷ drop (suc k) xs
at_drop [] k x lt e = absurd (omega (arith, lt))
at_drop (y ∷ ys) zero x lt e = λ i. sym e i ∷ ys
at_drop (y ∷ ys) (suc k) x lt e = at_drop ys k x (omega (arith, lt)) e

-- the same, with the next place as a sum
pub drop_at : {A : Type 0} (xs : List A) (k : ℕ) (x : A) → k < length xs → x ≡ slice_index_or xs k x → drop k xs ≡ x ∷ drop (k + 1) xs
drop_at xs k x lt e = at_drop xs k x lt e ∙ ap (λ n. x ∷ drop n xs) (sym (plus_one k))

-- whatever stands for what isn't there
itself : {A : Type 0} (xs : List A) (k : ℕ) (d : A) → k < length xs → slice_index_or xs k d ≡ slice_index_or xs k (slice_index_or xs k d)
itself [] k d lt = absurd (omega (arith, lt))
itself (x ∷ xs) zero d lt = refl
itself (x ∷ xs) (suc k) d lt = itself xs k d (omega (arith, lt))

pub each_ends : {A : Type 0} (one : ℕ → A → A → List Difference) (n : ℕ) (xs : List A) → each_differ one n xs [] ≡ []
each_ends one n [] = refl
each_ends one n (x ∷ xs) = refl

none_first : {A : Type 0} (one : ℕ → A → A → List Difference) (n : ℕ) (ys : List A) → each_differ one n [] ys ≡ []
none_first one n ys = refl

-- one of two lists has no entry from the end of the shorter on
pub one_ends : (m n k : ℕ) → min m n ≤ k → (m ≤ k) ⊎ (n ≤ k)
one_ends m n k le = by (cases_lt m n)
  where
    by : (m < n) ⊎ (n ≤ m) → (m ≤ k) ⊎ (n ≤ k)
    by (inl lt) = inl (omega (arith, le, lt))
    by (inr ge) = inr (omega (arith, le, ge))

-- ---- entry after entry

module _ {A B : Type 0} (g : A → B) (one : ℕ → B → B → List Difference) (xs ys : List A) where
  -- what is found, and what differs of the entries from a place on, is this list
  abbrev pub Goes : ℕ → List Difference → List Difference → Type 0
  Goes k now whole = now ++ each_differ one (suc k) (map g (drop k xs)) (map g (drop k ys)) ≡ whole

  goes_to : (k : ℕ) (x y : A) (now next whole : List Difference) → k < length xs → k < length ys → x ≡ slice_index_or xs k x → y ≡ slice_index_or ys k y
      → Goes k now whole → next ≡ now ++ one (suc k) (g x) (g y) → Goes (suc k) next whole
  goes_to k x y now next whole lx ly ex ey h e =
      let first = at_drop xs k x lx ex in
      let second = at_drop ys k y ly ey in
      let rest = each_differ one (suc (suc k)) (map g (drop (suc k) xs)) (map g (drop (suc k) ys)) in
      ap (λ (ds : List Difference). ds ++ rest) e ∙ append_assoc now (one (suc k) (g x) (g y)) rest
      ∙ ap (λ (ds : List Difference). now ++ ds) (sym (λ i. each_differ one (suc k) (map g (first i)) (map g (second i)))) ∙ h

  pub goes_on : (k : ℕ) (x y : A) (now next whole : List Difference) → k < length xs → k < length ys → x ≡ slice_index_or xs k x → y ≡ slice_index_or ys k y
      → Goes k now whole → next ≡ now ++ one (k + 1) (g x) (g y) → Goes (k + 1) next whole
  goes_on k x y now next whole lx ly ex ey h e =
      subst (λ n. Goes n next whole) (sym (plus_one k)) (goes_to k x y now next whole lx ly ex ey h (subst (λ n. next ≡ now ++ one n (g x) (g y)) (plus_one k) e))

  pub goes_at : (k : ℕ) (d e : A) (now next whole : List Difference) → k < length xs → k < length ys
      → Goes k now whole → next ≡ now ++ one (k + 1) (g (slice_index_or xs k d)) (g (slice_index_or ys k e)) → Goes (k + 1) next whole
  goes_at k d e now next whole lx ly h is =
      goes_on k (slice_index_or xs k d) (slice_index_or ys k e) now next whole lx ly (itself xs k d lx) (itself ys k e ly) h is

  none_left : (k : ℕ) → (length xs ≤ k) ⊎ (length ys ≤ k) → each_differ one (suc k) (map g (drop k xs)) (map g (drop k ys)) ≡ []
  none_left k (inl le) = rw (drop_all xs k le) (none_first one (suc k) (map g (drop k ys)))
  none_left k (inr le) = rw (drop_all ys k le) (each_ends one (suc k) (map g (drop k xs)))

  pub goes_whole : (k : ℕ) (now whole : List Difference) → (length xs ≤ k) ⊎ (length ys ≤ k) → Goes k now whole → now ≡ whole
  goes_whole k now whole le h = sym (append-nil now) ∙ ap (λ (ds : List Difference). now ++ ds) (sym (none_left k le)) ∙ h

-- ---- bytes

-- a byte that is the same is passed
pub same_byte : (n x y : ℕ) (xs ys : List ℕ) → x ≡ y → first_unequal n (x ∷ xs) (y ∷ ys) ≡ first_unequal (suc n) xs ys
same_byte n x y xs ys e = rw (eq-eqb x y e) refl

-- the same bytes differ nowhere
pub nowhere : (n : ℕ) (xs : List ℕ) → first_unequal n xs xs ≡ None
nowhere n [] = refl
nowhere n (x ∷ xs) = same_byte n x x xs xs refl ∙ nowhere (suc n) xs

pub nowhere_same : (n : ℕ) (xs ys : List ℕ) → xs ≡ ys → None ≡ first_unequal n xs ys
nowhere_same n xs ys e = sym (ap (λ (zs : List ℕ). first_unequal n zs ys) e ∙ nowhere n ys)

-- ---- parts of a file

take_front : {A : Type 0} (n len : ℕ) (xs : List A) → len ≤ n → take len (take n xs) ≡ take len xs
take_front n zero xs le = refl
take_front zero (suc len) xs le = absurd (omega (arith, le))
take_front (suc n) (suc len) [] le = refl
take_front (suc n) (suc len) (x ∷ xs) le = λ i. x ∷ take_front n len xs (omega (arith, le)) i

within_take : {A : Type 0} (n d len : ℕ) (xs : List A) → d + len ≤ n → take len (drop d (take n xs)) ≡ take len (drop d xs)
within_take n zero len xs le = take_front n len xs (omega (arith, le))
within_take zero (suc d) len xs le = absurd (omega (arith, le))
within_take (suc n) (suc d) len [] le = refl
within_take (suc n) (suc d) len (x ∷ xs) le = within_take n d len xs (omega (arith, le))

-- what a window shows of a file
pub window_bytes : (items file : List ℕ) (from used at len : ℕ) → from ≤ at → at + len ≤ from + used → take used items ≡ take used (drop from file) → take len (drop (at - from) items) ≡ take len (drop at file)
window_bytes items file from used at len le within is =
    let d = at - from in
    let fits : d + len ≤ used = omega (arith, le, within) in
    let whole : from + d ≡ at = omega (arith, le) in
    sym (within_take used d len items fits) ∙ ap (λ (xs : List ℕ). take len (drop d xs)) is ∙ within_take used d len (drop from file) fits
    ∙ ap (take len) (drop-drop d from file) ∙ ap (λ n. take len (drop n file)) whole

-- the first of some bytes, and those behind them
chunk_front : (f : List ℕ) (at len done count : ℕ) → done + count ≤ len → drop done (range f at len) ≡ range f (at + done) count ++ drop (done + count) (range f at len)
chunk_front f at len done count le =
    sym (take-append-drop count (drop done (range f at len)))
    ∙ (λ i. (within_take len done count (drop at f) le ∙ ap (take count) (drop-drop done at f)) i ++ drop-drop count done (range f at len) i)

if_none : {A B : Type 0} (b : Bool) (u : A) (x : Option A) (y d w : B) → None ≡ (if b then x else Some u) → (None ≡ x → y ≡ w) → (if b then y else d) ≡ w
if_none true u x y d w e f = f e
if_none false u x y d w e f = absurd cc

if_some : {A B : Type 0} (b : Bool) (u v : A) (x : Option A) (y d w : B) → Some v ≡ (if b then x else Some u) → (Some v ≡ x → y ≡ w) → (Some v ≡ Some u → d ≡ w) → (if b then y else d) ≡ w
if_some true u v x y d w e f g = f e
if_some false u v x y d w e f g = g e

pieces_none : (k n : ℕ) (xs zs ys ws : List ℕ) → length xs ≡ length ys → None ≡ first_unequal k xs ys → first_unequal n (xs ++ zs) (ys ++ ws) ≡ first_unequal (n + length xs) zs ws
pieces_none k n [] zs [] ws l e = let same : n ≡ n + 0 = omega arith in ap (λ m. first_unequal m zs ws) same
pieces_none k n [] zs (y ∷ ys) ws l e = absurd (omega (arith, l))
pieces_none k n (x ∷ xs) zs [] ws l e = absurd (omega (arith, l))
pieces_none k n (x ∷ xs) zs (y ∷ ys) ws l e =
    let same : suc n + length xs ≡ n + suc (length xs) = omega arith in
    if_none (x == y) (k, x, y) (first_unequal (suc k) xs ys) (first_unequal (suc n) (xs ++ zs) (ys ++ ws)) (Some (n, x, y)) (first_unequal (n + suc (length xs)) zs ws) e
    (λ f. pieces_none (suc k) (suc n) xs zs ys ws (omega (arith, l)) f ∙ ap (λ m. first_unequal m zs ws) same)

abbrev moved : ℕ → (ℕ × ℕ × ℕ) → Option (ℕ × ℕ × ℕ)
moved n f = Some (n + f.0, f.1, f.2)

pieces_some : (k n : ℕ) (v : ℕ × ℕ × ℕ) (xs zs ys ws : List ℕ) → length xs ≡ length ys → Some v ≡ first_unequal k xs ys → first_unequal (n + k) (xs ++ zs) (ys ++ ws) ≡ moved n v
pieces_some k n v [] zs [] ws l e = absurd cc
pieces_some k n v [] zs (y ∷ ys) ws l e = absurd (omega (arith, l))
pieces_some k n v (x ∷ xs) zs [] ws l e = absurd (omega (arith, l))
pieces_some k n v (x ∷ xs) zs (y ∷ ys) ws l e =
    let same : suc (n + k) ≡ n + suc k = omega arith in
    if_some (x == y) (k, x, y) v (first_unequal (suc k) xs ys) (first_unequal (suc (n + k)) (xs ++ zs) (ys ++ ws)) (Some (n + k, x, y)) (moved n v) e
    (λ f. ap (λ m. first_unequal m (xs ++ zs) (ys ++ ws)) same ∙ pieces_some (suc k) n v xs zs ys ws (omega (arith, l)) f)
    (λ f. ap (moved n) (sym (some_is v (k, x, y) f)))

module _ (f h : List ℕ) (la ra len done count : ℕ) (cx cy : List ℕ) (le : done + count ≤ len) (ex : cx ≡ range f (la + done) count) (ey : cy ≡ range h (ra + done) count) (lx : length cx ≡ count) (ly : length cy ≡ count) (w : Option (ℕ × ℕ × ℕ))
    (goes : first_unequal done (drop done (range f la len)) (drop done (range h ra len)) ≡ w) where
  split_goes : first_unequal done (cx ++ drop (done + count) (range f la len)) (cy ++ drop (done + count) (range h ra len)) ≡ w
  split_goes = sym (λ i. first_unequal done ((chunk_front f la len done count le ∙ ap (λ (xs : List ℕ). xs ++ drop (done + count) (range f la len)) (sym ex)) i) ((chunk_front h ra len done count le ∙ ap (λ (xs : List ℕ). xs ++ drop (done + count) (range h ra len)) (sym ey)) i)) ∙ goes

  -- so many bytes are the same
  pub chunk_same : None ≡ first_unequal 0 cx cy → first_unequal (done + count) (drop (done + count) (range f la len)) (drop (done + count) (range h ra len)) ≡ w
  chunk_same e = ap (λ n. first_unequal (done + n) (drop (done + count) (range f la len)) (drop (done + count) (range h ra len))) (sym lx)
      ∙ sym (pieces_none 0 done cx (drop (done + count) (range f la len)) cy (drop (done + count) (range h ra len)) (lx ∙ sym ly) e) ∙ split_goes

  -- one of them isn't
  pub chunk_other : (p x y : ℕ) → Some (p, x, y) ≡ first_unequal 0 cx cy → Some (done + p, x, y) ≡ w
  chunk_other p x y e =
      let plain : done + 0 ≡ done = omega arith in
      sym (pieces_some 0 done (p, x, y) cx (drop (done + count) (range f la len)) cy (drop (done + count) (range h ra len)) (lx ∙ sym ly) e)
      ∙ ap (λ n. first_unequal n (cx ++ drop (done + count) (range f la len)) (cy ++ drop (done + count) (range h ra len))) plain ∙ split_goes
