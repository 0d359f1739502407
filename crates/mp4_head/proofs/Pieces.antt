-- Bytes that are appended piece by piece.
use Rattle.std.proofs.Common.{◌≡◌, ℕ, zero, suc, ◌+◌, ◌-◌, ◌<◌, ◌≤◌, ℤ, List, [], ◌∷◌, ◌++◌, length, drop, get_or, set, map, refl, sym, ap, ◌∙◌, arith, append_assoc}
use Rattle.std.specs.List.{flat_map, fold}
use Rattle.std.specs.Prelude.{slice_set, slice_index}
use Rattle.std.proofs.lemmas.List.{append-nil, drop_more, drop_all, length-append}
use Rattle.byteorder.specs.Endian.{big_bytes}
use Rattle.mp4_boxes.specs.format.Written.{box_bytes}
use Rattle.mp4_head.specs.words.Parts.{unsized}

-- these pieces, one after the other
abbrev pub joined : List (List ℕ) → List ℕ
joined [] = []
joined (p ∷ ps) = p ++ joined ps

-- the pieces appended one by one
abbrev pub appended : List ℕ → List (List ℕ) → List ℕ
appended out [] = out
appended out (p ∷ ps) = appended (out ++ p) ps

-- pieces that were appended one by one were appended as one
pub appended_is : (out : List ℕ) (ps : List (List ℕ)) → appended out ps ≡ out ++ joined ps
appended_is out [] = sym (append-nil out)
appended_is out (p ∷ ps) = appended_is (out ++ p) ps ∙ append_assoc out p (joined ps)

-- Of the spellings of a list's members those before a place were appended.
pub record Put {A : Type 0} (f : A → List ℕ) (start : List ℕ) (all : List A) (i : ℕ) (out : List ℕ) : Type 0 where
  pub whole : out ++ flat_map f (drop i all) ≡ start ++ flat_map f all

-- none yet
pub put_none : {A : Type 0} (f : A → List ℕ) (all : List A) (out : List ℕ) → Put f out all 0 out
put_none f all out = record { whole = refl }

-- one more
pub put_more : {A : Type 0} (f : A → List ℕ) (start : List ℕ) (all : List A) (i : ℕ) (d : A) (out later : List ℕ) → i < length all → later ≡ out ++ f (get_or all i d) → Put f start all i out → Put f start all (i + 1) later
put_more f start all i d out later lt e p =
    let behind : flat_map f (drop i all) ≡ f (get_or all i d) ++ flat_map f (drop (i + 1) all) = ap (flat_map f) (drop_more all i d lt) in
    record {
      whole = ap (λ (x : List ℕ). x ++ flat_map f (drop (i + 1) all)) e ∙ append_assoc out (f (get_or all i d)) (flat_map f (drop (i + 1) all)) ∙ ap (λ (x : List ℕ). out ++ x) (sym behind) ∙ p.whole;
    }

-- all of them
pub put_all : {A : Type 0} (f : A → List ℕ) (start : List ℕ) (all : List A) (i : ℕ) (out : List ℕ) → length all ≤ i → Put f start all i out → out ≡ start ++ flat_map f all
put_all f start all i out end p =
    let none : flat_map f (drop i all) ≡ [] = ap (flat_map f) (drop_all i all end) in
    sym (append-nil out) ∙ ap (λ (x : List ℕ). out ++ x) (sym none) ∙ p.whole

-- the spellings of members that are seen in another way
pub seen_each : {A B : Type 0} (f : B → List ℕ) (v : A → B) (all : List A) → flat_map (λ x. f (v x)) all ≡ flat_map f (map v all)
seen_each f v [] = refl
seen_each f v (x ∷ xs) = ap (λ (y : List ℕ). f (v x) ++ y) (seen_each f v xs)

-- what holds of each list of nine holds of a list of that length
pub of_nine : (P : List ℤ → Type 0) → ((a b c d e f g h i : ℤ) → P (a ∷ b ∷ c ∷ d ∷ e ∷ f ∷ g ∷ h ∷ i ∷ [])) → (matrix : List ℤ) → length matrix ≡ 9 → P matrix
of_nine P all (a ∷ b ∷ c ∷ d ∷ e ∷ f ∷ g ∷ h ∷ i ∷ []) n = all a b c d e f g h i
of_nine P all (a ∷ b ∷ c ∷ d ∷ e ∷ f ∷ g ∷ h ∷ i ∷ j ∷ more) n = absurd (omega (arith, n))
of_nine P all [] n = absurd (omega (arith, n))
of_nine P all (a ∷ []) n = absurd (omega (arith, n))
of_nine P all (a ∷ b ∷ []) n = absurd (omega (arith, n))
of_nine P all (a ∷ b ∷ c ∷ []) n = absurd (omega (arith, n))
of_nine P all (a ∷ b ∷ c ∷ d ∷ []) n = absurd (omega (arith, n))
of_nine P all (a ∷ b ∷ c ∷ d ∷ e ∷ []) n = absurd (omega (arith, n))
of_nine P all (a ∷ b ∷ c ∷ d ∷ e ∷ f ∷ []) n = absurd (omega (arith, n))
of_nine P all (a ∷ b ∷ c ∷ d ∷ e ∷ f ∷ g ∷ []) n = absurd (omega (arith, n))
of_nine P all (a ∷ b ∷ c ∷ d ∷ e ∷ f ∷ g ∷ h ∷ []) n = absurd (omega (arith, n))

-- a list in which four members in a row were written
pub four_set : (before rest : List ℕ) (a b c d w x y z : ℕ) (at : ℕ) → length before ≡ at
    → set (set (set (set (before ++ (a ∷ b ∷ c ∷ d ∷ rest)) at w) (at + 1) x) (at + 2) y) (at + 3) z ≡ before ++ (w ∷ x ∷ y ∷ z ∷ rest)
four_set [] rest a b c d w x y z at n = rw (← n) refl
four_set (p ∷ before) rest a b c d w x y z zero n = absurd (omega (arith, n))
four_set (p ∷ before) rest a b c d w x y z (suc at) n =
    let one : suc at + 1 ≡ suc (at + 1) = omega arith in
    let two : suc at + 2 ≡ suc (at + 2) = omega arith in
    let three : suc at + 3 ≡ suc (at + 3) = omega arith in
    rw (one, two, three) (ap (λ (l : List ℕ). p ∷ l) (four_set before rest a b c d w x y z at (omega (arith, n))))

-- a box whose size was written in its place
pub closed : (items before kind payload bytes : List ℕ) (len at : ℕ) → len ≡ length items → length before ≡ at → length kind ≡ 4 → items ≡ before ++ (unsized kind ++ payload) → bytes ≡ big_bytes 8 (len - at)
    → slice_set (slice_set (slice_set (slice_set items at (slice_index bytes 4)) (at + 1) (slice_index bytes 5)) (at + 2) (slice_index bytes 6)) (at + 3) (slice_index bytes 7) ≡ before ++ box_bytes kind payload
closed items before kind payload bytes len at l n k e b =
    let inside : length (unsized kind ++ payload) ≡ 8 + length payload = omega (arith, length-append kind payload, k) in
    let size : len - at ≡ 8 + length payload = omega (arith, l, ap length e, length-append before (unsized kind ++ payload), inside, n) in
    let spelled_size : bytes ≡ big_bytes 8 (8 + length payload) = b ∙ ap (big_bytes 8) size in
    rw (e, spelled_size) (four_set before (kind ++ payload) 0 0 0 0 (slice_index (big_bytes 8 (8 + length payload)) 4) (slice_index (big_bytes 8 (8 + length payload)) 5) (slice_index (big_bytes 8 (8 + length payload)) 6) (slice_index (big_bytes 8 (8 + length payload)) 7) at n)

-- pieces that were appended behind the front of a box are its payload
pub boxed : (out kind first : List ℕ) (ps : List (List ℕ)) (later : List ℕ) → later ≡ appended (out ++ unsized kind) (first ∷ ps) → later ≡ out ++ (unsized kind ++ appended first ps)
boxed out kind first ps later e =
    e ∙ appended_is (out ++ unsized kind) (first ∷ ps) ∙ append_assoc out (unsized kind) (joined (first ∷ ps)) ∙ ap (λ (x : List ℕ). out ++ (unsized kind ++ x)) (sym (appended_is first ps))

-- then there is room for its size and type
pub boxed_room : (out kind payload later : List ℕ) (at : ℕ) → length out ≡ at → length kind ≡ 4 → later ≡ out ++ (unsized kind ++ payload) → at + 8 ≤ length later
boxed_room out kind payload later at n k e =
    let inside : length (unsized kind ++ payload) ≡ 8 + length payload = omega (arith, length-append kind payload, k) in
    omega (arith, ap length e, length-append out (unsized kind ++ payload), inside, n)

-- A number is folded out of a list, of which the members before a place were looked at.
pub record Folded {A B : Type 0} (f : B → A → B) (start : B) (all : List A) (i : ℕ) (b : B) : Type 0 where
  pub whole : fold f b (drop i all) ≡ fold f start all
