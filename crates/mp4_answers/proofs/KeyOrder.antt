-- The keys of a track in their order.
use Rattle.std.proofs.Common.{◌≡◌, ℕ, zero, suc, ◌+◌, ◌<◌, ◌≤◌, Bool, true, false, ltb, List, [], ◌∷◌, ◌++◌, length, take, drop, refl, sym, ap, ◌∙◌, arith, append_assoc, length-append, length-take}
use Rattle.std.specs.Prelude.{flat_map, if◌then◌else◌}
use Rattle.std.proofs.lemmas.Bool.{eq-eqb, ne_eqb, lt-ltb, ltb-true}
use Rattle.std.proofs.lemmas.List.{append-nil, length-map}
use Rattle.mp4_plan.specs.format.Normal.{in_key_order, put_key}
use Rattle.mp4_tables.specs.format.Groups.{GroupKey, key_rank}
use Rattle.mp4_tables.specs.words.Keys.{key_seen, keys_seen}
use Rattle.mp4_tables.specs.declared.keys.Keys.{Keys}

-- four at most, one by one
pub four_apart : {A : Type 0} (f : A → List ℕ) (xs : List A) → length xs ≤ 4 → flat_map f (take 1 xs) ++ (flat_map f (take 1 (drop 1 xs)) ++ (flat_map f (take 1 (drop 2 xs)) ++ flat_map f (take 1 (drop 3 xs)))) ≡ flat_map f xs
four_apart f [] le = refl
four_apart f (a ∷ []) le = simp append-nil
four_apart f (a ∷ b ∷ []) le = simp append-nil
four_apart f (a ∷ b ∷ c ∷ []) le = simp append-nil
four_apart f (a ∷ b ∷ c ∷ d ∷ []) le = simp append-nil
four_apart f (a ∷ b ∷ c ∷ d ∷ e ∷ xs) le = absurd (omega (arith, le))

pub four_joined : {A : Type 0} (f : A → List ℕ) (xs : List A) (more : List ℕ) → length xs ≤ 4
    → flat_map f (take 1 (drop 0 xs)) ++ (flat_map f (take 1 (drop 1 xs)) ++ (flat_map f (take 1 (drop 2 xs)) ++ (flat_map f (take 1 (drop 3 xs)) ++ more))) ≡ flat_map f xs ++ more
four_joined f xs more le =
    let a = flat_map f (take 1 (drop 0 xs)) in
    let b = flat_map f (take 1 (drop 1 xs)) in
    let c = flat_map f (take 1 (drop 2 xs)) in
    let d = flat_map f (take 1 (drop 3 xs)) in
    joined a b c d more ∙ ap (λ (bs : List ℕ). bs ++ more) (four_apart f xs le)
  where
    joined : (a b c d more : List ℕ) → a ++ (b ++ (c ++ (d ++ more))) ≡ (a ++ (b ++ (c ++ d))) ++ more
    joined a b c d more = simp append_assoc

-- a track has at most four keys
pub few_keys : (keys : Keys) → length (keys_seen keys) ≤ 4
few_keys keys = omega (arith, length-map (take keys.count keys.named) key_seen, length-take keys.count keys.named, keys.few)

-- ---- a key that is put among others

-- what follows the keys so far: those that are left, and the new one among them where it isn't there yet
abbrev pub still_put : Bool → GroupKey → List GroupKey → List GroupKey
still_put true key keys = keys
still_put false key keys = put_key key keys

-- before the first key above it
put_before : (key first : GroupKey) (keys : List GroupKey) → key_rank key < key_rank first → put_key key (first ∷ keys) ≡ key ∷ first ∷ keys
put_before key first keys lt = rw (ne_eqb (key_rank key) (key_rank first) (λ e. omega (arith, lt, e)), lt-ltb (key_rank key) (key_rank first) lt) refl

-- not where it is already
put_there : (key first : GroupKey) (keys : List GroupKey) → key_rank key ≡ key_rank first → put_key key (first ∷ keys) ≡ first ∷ keys
put_there key first keys e = rw (eq-eqb (key_rank key) (key_rank first) e) refl

-- behind a key below it
put_behind : (key first : GroupKey) (keys : List GroupKey) → key_rank first < key_rank key → put_key key (first ∷ keys) ≡ first ∷ put_key key keys
put_behind key first keys lt = rw (ne_eqb (key_rank key) (key_rank first) (λ e. omega (arith, lt, e)), not_below (key_rank key) (key_rank first) (omega (arith, lt))) refl
  where
    not_below : (m n : ℕ) → n ≤ m → ltb m n ≡ false
    not_below m n le = by (ltb m n) refl
      where
        by : (v : Bool) → ltb m n ≡ v → v ≡ false
        by true e = let low = ltb-true m n e in absurd (omega (arith, low, le))
        by false e = refl

-- The keys so far, of j, and behind them those that are left, are all of them with the new one.
abbrev pub PutSoFar : ℕ → Bool → GroupKey → List GroupKey → List GroupKey → List GroupKey → Type 0
PutSoFar j there key all keys whole = (length all ≤ j + (if there then 1 else 0)) × (all ++ still_put there key keys ≡ whole)

module _ (j : ℕ) (key first : GroupKey) (all mid next keys more whole : List GroupKey) (is : keys ≡ first ∷ more) (pushed : next ≡ mid ++ first ∷ []) where
  behind : next ++ more ≡ mid ++ first ∷ more
  behind = ap (λ (ks : List GroupKey). ks ++ more) pushed ∙ append_assoc mid (first ∷ []) more

  behind_put : next ++ put_key key more ≡ mid ++ first ∷ put_key key more
  behind_put = ap (λ (ks : List GroupKey). ks ++ put_key key more) pushed ∙ append_assoc mid (first ∷ []) (put_key key more)

  one_longer : length next ≡ length mid + 1
  one_longer = ap length pushed ∙ length-append mid (first ∷ [])

  -- the new one goes before the first that is left
  pub put_here : (there now : Bool) → there ≡ false → now ≡ true → mid ≡ all ++ key ∷ [] → key_rank key < key_rank first → PutSoFar j there key all keys whole → PutSoFar (j + 1) now key next more whole
  put_here true now e f m lt h = absurd cc
  put_here false false e f m lt h = absurd cc
  put_here false true e f m lt h =
      let few = h.0 in
      let long = ap length m ∙ length-append all (key ∷ []) in
      (omega (arith, few, long, one_longer), behind ∙ ap (λ (ks : List GroupKey). ks ++ first ∷ more) m ∙ append_assoc all (key ∷ []) (first ∷ more) ∙ ap (λ (ks : List GroupKey). all ++ ks) (sym (put_before key first more lt) ∙ ap (put_key key) (sym is)) ∙ h.1)

  -- it is that one
  pub put_same : (there now : Bool) → there ≡ false → now ≡ true → mid ≡ all → key_rank key ≡ key_rank first → PutSoFar j there key all keys whole → PutSoFar (j + 1) now key next more whole
  put_same true now e f m s h = absurd cc
  put_same false false e f m s h = absurd cc
  put_same false true e f m s h =
      let few = h.0 in
      let long = ap length m in
      (omega (arith, few, long, one_longer), behind ∙ ap (λ (ks : List GroupKey). ks ++ first ∷ more) m ∙ ap (λ (ks : List GroupKey). all ++ ks) (sym (put_there key first more s) ∙ ap (put_key key) (sym is)) ∙ h.1)

  -- it goes behind that one
  pub put_later : (there now : Bool) → there ≡ false → now ≡ there → mid ≡ all → key_rank first < key_rank key → PutSoFar j there key all keys whole → PutSoFar (j + 1) now key next more whole
  put_later true now e f m lt h = absurd cc
  put_later false true e f m lt h = absurd cc
  put_later false false e f m lt h =
      let few = h.0 in
      let long = ap length m in
      (omega (arith, few, long, one_longer), behind_put ∙ ap (λ (ks : List GroupKey). ks ++ first ∷ put_key key more) m ∙ ap (λ (ks : List GroupKey). all ++ ks) (sym (put_behind key first more lt) ∙ ap (put_key key) (sym is)) ∙ h.1)

  -- it stands before that one
  pub put_earlier : (there now : Bool) → there ≡ true → now ≡ there → mid ≡ all → PutSoFar j there key all keys whole → PutSoFar (j + 1) now key next more whole
  put_earlier false now e f m h = absurd cc
  put_earlier true false e f m h = absurd cc
  put_earlier true true e f m h =
      let few = h.0 in
      let long = ap length m in
      (omega (arith, few, long, one_longer), behind ∙ ap (λ (ks : List GroupKey). ks ++ first ∷ more) m ∙ ap (λ (ks : List GroupKey). all ++ ks) (sym is) ∙ h.1)

-- ---- keys that are put in their order, the last first

-- behind the last key there is none
pub order_ends : (keys : List GroupKey) (n : ℕ) → n ≡ length keys → [] ≡ in_key_order (drop n keys)
order_ends keys n e = ap in_key_order (sym (none_behind keys n e))
  where
    none_behind : (ks : List GroupKey) (k : ℕ) → k ≡ length ks → drop k ks ≡ []
    none_behind [] zero f = refl
    none_behind [] (suc k) f = refl
    none_behind (x ∷ ks) zero f = absurd (omega (arith, f))
    none_behind (x ∷ ks) (suc k) f = none_behind ks k (omega (arith, f))

-- one key more
pub order_next : (keys all next : List GroupKey) (key : GroupKey) (n m : ℕ) → m ≡ n + 1 → drop n keys ≡ key ∷ drop (n + 1) keys → all ≡ in_key_order (drop m keys) → next ≡ put_key key all → next ≡ in_key_order (drop n keys)
order_next keys all next key n m e is before put =
    put ∙ ap (put_key key) (before ∙ ap (λ k. in_key_order (drop k keys)) e) ∙ ap in_key_order (sym is)
