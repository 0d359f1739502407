-- Keys in the order in which they were named.
use Rattle.std.proofs.Common.{◌≡◌, ◌≢◌, ℕ, ◌+◌, ◌<◌, ◌≤◌, List, [], ◌∷◌, length, take, drop, get_or, map, refl, ap, sym, ◌∙◌, arith, Bool, true, false, cond, Option, Some, None}
use Rattle.std.specs.List.{position_from, list_any}
use Rattle.std.proofs.lemmas.List.{length-map, length-take, drop_more, drop_all, get_or-map, get_or-take}
use Rattle.std.proofs.lemmas.Bool.Decides.{nat_tests}
use Rattle.mp4_tables.specs.format.Groups.{GroupKey, key_rank, same_key}
use Rattle.mp4_tables.specs.words.Keys.{key_seen, key_place}
use Rattle.mp4_tables.specs.declared.keys.GroupKey.{GroupKey as KeyNamed}

-- where no member passes there is no place
none_in : {A : Type 0} (p : A → Bool) (i : ℕ) (x : A) (xs : List A) (b : Bool) → p x ≡ b → position_from p i (x ∷ xs) ≡ None → (position_from p (i + 1) xs ≡ None → list_any p xs ≡ false) → list_any p (x ∷ xs) ≡ false
none_in p i x xs true f e h = let g : ◌≡◌ {A = Option ℕ} (Some i) None = rw f at e in cc
none_in p i x xs false f e h = let g : position_from p (i + 1) xs ≡ None = rw f at e in rw f (h g)

none_from : {A : Type 0} (p : A → Bool) (i : ℕ) (xs : List A) → position_from p i xs ≡ None → list_any p xs ≡ false
none_from p i [] e = refl
none_from p i (x ∷ xs) e = none_in p i x xs (p x) refl e (none_from p (i + 1) xs)

some_in : {A : Type 0} (p : A → Bool) (i j : ℕ) (x : A) (xs : List A) (b : Bool) → p x ≡ b → position_from p i (x ∷ xs) ≡ Some j → (position_from p (i + 1) xs ≡ Some j → list_any p xs ≡ true) → list_any p (x ∷ xs) ≡ true
some_in p i j x xs true f e h = rw f refl
some_in p i j x xs false f e h = let g : position_from p (i + 1) xs ≡ Some j = rw f at e in rw f (h g)

some_from : {A : Type 0} (p : A → Bool) (i j : ℕ) (xs : List A) → position_from p i xs ≡ Some j → list_any p xs ≡ true
some_from p i j [] e = cc
some_from p i j (x ∷ xs) e = some_in p i j x xs (p x) refl e (some_from p (i + 1) j xs)

pub not_named_yet : (key : GroupKey) (keys : List GroupKey) → key_place key keys ≡ None → list_any (same_key key) keys ≡ false
not_named_yet key keys e = none_from (same_key key) 0 keys e

pub named_before : (key : GroupKey) (keys : List GroupKey) (j : ℕ) → key_place key keys ≡ Some j → list_any (same_key key) keys ≡ true
named_before key keys j e = some_from (same_key key) 0 j keys e

-- the keys from a place on
pub keys_more : (named : List KeyNamed) (n j : ℕ) (d : KeyNamed) → j < n → n ≤ length named → drop j (map key_seen (take n named)) ≡ key_seen (get_or named j d) ∷ drop (j + 1) (map key_seen (take n named))
keys_more named n j d h l =
    let long : length (map key_seen (take n named)) ≡ n = omega (arith, length-map (take n named) key_seen, length-take n named) in
    drop_more (map key_seen (take n named)) j (key_seen d) (omega arith)
    ∙ ap (λ k. k ∷ drop (j + 1) (map key_seen (take n named))) (get_or-map key_seen (take n named) j d (key_seen d) (omega (arith, length-take n named)) ∙ ap key_seen (get_or-take n named j d h))

pub place_found : (key k : GroupKey) (keys : List GroupKey) (j : ℕ) → drop j keys ≡ k ∷ drop (j + 1) keys → same_key key k ≡ true
    → position_from (same_key key) j (drop j keys) ≡ Some j
place_found key k keys j e f =
    ap (position_from (same_key key) j) e ∙ ap (λ b. cond b (Some j) (position_from (same_key key) (j + 1) (drop (j + 1) keys))) f

pub place_later : (key k : GroupKey) (keys : List GroupKey) (j : ℕ) → drop j keys ≡ k ∷ drop (j + 1) keys → same_key key k ≡ false
    → position_from (same_key key) j (drop j keys) ≡ position_from (same_key key) (j + 1) (drop (j + 1) keys)
place_later key k keys j e f =
    ap (position_from (same_key key) j) e ∙ ap (λ b. cond b (Some j) (position_from (same_key key) (j + 1) (drop (j + 1) keys))) f

pub place_none : (key : GroupKey) (named : List KeyNamed) (n j : ℕ) → n ≤ j → position_from (same_key key) j (drop j (map key_seen (take n named))) ≡ None
place_none key named n j h = ap (position_from (same_key key) j) (drop_all j (map key_seen (take n named)) (omega (arith, length-map (take n named) key_seen, length-take n named)))

-- keys of one rank are the same
pub same_rank : (key other : GroupKey) (a b : ℕ) → a ≡ key_rank key → b ≡ key_rank other → a ≡ b → same_key key other ≡ true
same_rank key other a b e f g = let h : key_rank key ≡ key_rank other = sym e ∙ g ∙ f in grind (arith, nat_tests)

pub other_rank : (key other : GroupKey) (a b : ℕ) → a ≡ key_rank key → b ≡ key_rank other → (a ≡ b → ⊥) → same_key key other ≡ false
other_rank key other a b e f g = let h : key_rank key ≢ key_rank other = λ k. g (e ∙ k ∙ sym f) in grind (arith, nat_tests)
