-- Payloads, types and groups in a text: the same text tells the same, or two messages of one digest are at hand.
use Rattle.std.proofs.Common.{◌≡◌, ◌⊎◌, inl, inr, ℕ, zero, suc, ◌+◌, ◌*◌, ◌/◌, ◌<◌, ◌≤◌, leb, eqb, Bool, true, false, List, [], ◌∷◌, ◌++◌, length, take, drop, Option, Some, None, refl, sym, ap, subst, ◌∙◌, arith, append_assoc, length-take, length-drop, codes, decimal}
use Rattle.std.specs.Prelude.{Contains, map, if◌then◌else◌, not, ◌&&◌, nat_lt, ◌==◌}
use Rattle.std.proofs.lemmas.Bool.{leb-true, eqb-true, eq-eqb, ltb-true, and_parts}
use Rattle.std.proofs.lemmas.Fmt.{decimal_injective}
use Rattle.std.proofs.lemmas.List.{take-append-drop}
use Rattle.sha2.specs.Sha256.{sha256}
use Rattle.sha2.proofs.Facts256.{length-sha256}
use Rattle.mp4_boxes.specs.format.Bytes.{AreBytes}
use Rattle.mp4_boxes.proofs.Among.{all_append}
use Rattle.mp4_boxes.proofs.Each.{each_taken, each_dropped}
use Rattle.mp4_boxes.proofs.Plain.{append_four, head_is, tail_is, true_false}
use Rattle.mp4_tables.specs.format.Groups.{GroupKey}
use Rattle.mp4_head.specs.format.Head.{Kept}
use Rattle.mp4_present.specs.format.Presentation.{IsGroup, IsParameter}
use Rattle.mp4_answers.specs.format.Text.{dump_line, dump_lines, is_plain_type, kept_lines, most_spelled, parameter_text, payload_lines, shown_byte, spelled_type}
use Rattle.mp4_answers.specs.format.TextLaws.{Collision}
use Rattle.mp4_answers.specs.format.Texts.{hex_text, space, line_feed}
use Rattle.mp4_answers.proofs.TextWords.{IsDigit, IsWord, EachByte, bytes_same, bytes_word, cancel, decimal_digits, decimal_word, run_ends, sha256_each}

-- two values are the same, and what follows them, or two messages of one digest are at hand
abbrev pub Same : {A : Type 0} → List (List ℕ) → List (List ℕ) → A → A → List ℕ → List ℕ → Type 0
Same these those x y xs ys = ((x ≡ y) × (xs ≡ ys)) ⊎ Collision these those

-- where this is so of values, another thing is
pub with_same : {A : Type 0} (these those : List (List ℕ)) (X : Type 0) (x y : A) (xs ys : List ℕ) → Same these those x y xs ys → (x ≡ y → xs ≡ ys → X ⊎ Collision these those) → X ⊎ Collision these those
with_same these those X x y xs ys (inl h) f = f h.0 h.1
with_same these those X x y xs ys (inr c) f = inr c

-- ---- bytes

pub each_byte : (bytes : List ℕ) → AreBytes bytes → EachByte bytes
each_byte [] h = tt
each_byte (b ∷ bytes) h = (h 0, each_byte bytes (λ i. h (suc i)))

same_list : (a b : List ℕ) → (a ≡ b) ⊎ (a ≡ b → ⊥)
same_list [] [] = inl refl
same_list [] (y ∷ b) = inr (λ e. cc)
same_list (x ∷ a) [] = inr (λ e. cc)
same_list (x ∷ a) (y ∷ b) = by (eqb x y) refl (same_list a b)
  where
    by : (v : Bool) → eqb x y ≡ v → (a ≡ b) ⊎ (a ≡ b → ⊥) → ◌≡◌ {A = List ℕ} (x ∷ a) (y ∷ b) ⊎ (◌≡◌ {A = List ℕ} (x ∷ a) (y ∷ b) → ⊥)
    by true e (inl s) = let first = eqb-true x y e in inl (λ i. first i ∷ s i)
    by true e (inr n) = inr (λ f. n (tail_is x y a b f))
    by false e s = inr (λ f. true_false (eqb x y) (eq-eqb x y (head_is x y a b f)) e)

-- messages of one digest, among these and those, are the same, or two at hand
pub of_digest : (these those : List (List ℕ)) (a b : List ℕ) → Contains these a → Contains those b → sha256 a ≡ sha256 b → (a ≡ b) ⊎ Collision these those
of_digest these those a b i j e = by (same_list a b)
  where
    by : (a ≡ b) ⊎ (a ≡ b → ⊥) → (a ≡ b) ⊎ Collision these those
    by (inl s) = inl s
    by (inr n) = inr (record { first = a; second = b; is_first = i; is_second = j; unequal = n; same = e })

-- fronts of one length
pub same_length : (u v xs ys : List ℕ) → length u ≡ length v → u ++ xs ≡ v ++ ys → (u ≡ v) × (xs ≡ ys)
same_length [] [] xs ys n e = (refl, e)
same_length [] (y ∷ v) xs ys n e = absurd (omega (arith, n))
same_length (x ∷ u) [] xs ys n e = absurd (omega (arith, n))
same_length (x ∷ u) (y ∷ v) xs ys n e =
    let first : x ≡ y = cc in
    let rest : u ++ xs ≡ v ++ ys = cc in
    let more = same_length u v xs ys (omega (arith, n)) rest in
    (λ i. first i ∷ more.0 i, more.1)

-- ---- lines of sixteen bytes

line_is : (front digits mid shown end xs : List ℕ) → (front ++ digits ++ mid ++ shown ++ end) ++ xs ≡ front ++ (digits ++ (mid ++ (shown ++ (end ++ xs))))
line_is front digits mid shown end xs = simp append_assoc

one_line : (u v xs ys : List ℕ) → EachByte u → EachByte v → length u ≡ length v → dump_line u ++ xs ≡ dump_line v ++ ys → (u ≡ v) × (xs ≡ ys)
one_line u v xs ys h k n e =
    let both = cancel (codes "  ") (hex_text u ++ (codes " |" ++ (map shown_byte u ++ (codes "|\n" ++ xs)))) (hex_text v ++ (codes " |" ++ (map shown_byte v ++ (codes "|\n" ++ ys))))
    (sym (line_is (codes "  ") (hex_text u) (codes " |") (map shown_byte u) (codes "|\n") xs) ∙ e ∙ line_is (codes "  ") (hex_text v) (codes " |") (map shown_byte v) (codes "|\n") ys) in
    let r = bytes_same u v (codes " |" ++ (map shown_byte u ++ (codes "|\n" ++ xs))) (codes " |" ++ (map shown_byte v ++ (codes "|\n" ++ ys))) h k n both in
    let shown = cancel (codes " |") (map shown_byte u ++ (codes "|\n" ++ xs)) (map shown_byte v ++ (codes "|\n" ++ ys)) r.1 in
    let again : map shown_byte v ++ (codes "|\n" ++ xs) ≡ map shown_byte v ++ (codes "|\n" ++ ys) = ap (λ (w : List ℕ). map shown_byte w ++ (codes "|\n" ++ xs)) (sym r.0) ∙ shown in
    (r.0, cancel (codes "|\n") xs ys (cancel (map shown_byte v) (codes "|\n" ++ xs) (codes "|\n" ++ ys) again))

pub same_dumps : (n : ℕ) (a b xs ys : List ℕ) → EachByte a → EachByte b → length a ≡ length b → length a ≤ 16 * n → dump_lines n a ++ xs ≡ dump_lines n b ++ ys → (a ≡ b) × (xs ≡ ys)
same_dumps zero [] [] xs ys h k n le e = (refl, e)
same_dumps zero [] (y ∷ b) xs ys h k n le e = absurd (omega (arith, n))
same_dumps zero (x ∷ a) b xs ys h k n le e = absurd (omega (arith, le))
same_dumps (suc m) a b xs ys h k n le e =
    let Is : ℕ → Type 0 = λ c. c < 256 in
    let long = length-take 16 a in
    let other = length-take 16 b in
    let short = length-drop 16 a in
    let short_too = length-drop 16 b in
    let r = one_line (take 16 a) (take 16 b) (dump_lines m (drop 16 a) ++ xs) (dump_lines m (drop 16 b) ++ ys) (each_taken Is 16 a h) (each_taken Is 16 b k) (omega (arith, n, long, other))
    (sym (append_assoc (dump_line (take 16 a)) (dump_lines m (drop 16 a)) xs) ∙ e ∙ append_assoc (dump_line (take 16 b)) (dump_lines m (drop 16 b)) ys) in
    let more = same_dumps m (drop 16 a) (drop 16 b) xs ys (each_dropped Is 16 a h) (each_dropped Is 16 b k) (omega (arith, n, short, short_too)) (omega (arith, le, short)) r.1 in
    (sym (take-append-drop 16 a) ∙ (λ i. r.0 i ++ more.0 i) ∙ take-append-drop 16 b, more.1)

-- ---- payloads

abbrev end_by : Bool → List ℕ → List ℕ
end_by v bytes = if v then line_feed ++ dump_lines ((length bytes + 15) / 16) bytes else codes ", SHA-256 " ++ hex_text (sha256 bytes) ++ line_feed

-- what stands behind a name
abbrev pub payload_end : List ℕ → List ℕ → List ℕ
payload_end bytes xs = decimal (length bytes) ++ (codes " bytes" ++ (end_by (leb (length bytes) most_spelled) bytes ++ xs))

payload_is : (front number bytes end xs : List ℕ) → (front ++ number ++ bytes ++ end) ++ xs ≡ front ++ (number ++ (bytes ++ (end ++ xs)))
payload_is front number bytes end xs = simp append_assoc

digest_is : (comma digits feed xs : List ℕ) → (comma ++ digits ++ feed) ++ xs ≡ comma ++ (digits ++ (feed ++ xs))
digest_is comma digits feed xs = simp append_assoc

-- bytes, among these
abbrev pub IsToldIn : List (List ℕ) → List ℕ → Type 0
IsToldIn these bytes = EachByte bytes × Contains these bytes

module _ (these those : List (List ℕ)) (a b xs ys : List ℕ) (ha : IsToldIn these a) (hb : IsToldIn those b) where
  spelled_both : length a ≡ length b → dump_lines ((length a + 15) / 16) a ++ xs ≡ dump_lines ((length b + 15) / 16) b ++ ys → (a ≡ b) × (xs ≡ ys)
  spelled_both n e =
      let f : dump_lines ((length a + 15) / 16) a ++ xs ≡ dump_lines ((length a + 15) / 16) b ++ ys = subst (λ (k : ℕ). dump_lines ((length a + 15) / 16) a ++ xs ≡ dump_lines ((k + 15) / 16) b ++ ys) (sym n) e in
      same_dumps ((length a + 15) / 16) a b xs ys ha.0 hb.0 n (omega arith) f

  digests_both : end_by false a ++ xs ≡ end_by false b ++ ys → Same these those a b xs ys
  digests_both e =
      let both = cancel (codes ", SHA-256 ") (hex_text (sha256 a) ++ (line_feed ++ xs)) (hex_text (sha256 b) ++ (line_feed ++ ys))
      (sym (digest_is (codes ", SHA-256 ") (hex_text (sha256 a)) line_feed xs) ∙ e ∙ digest_is (codes ", SHA-256 ") (hex_text (sha256 b)) line_feed ys) in
      let r = bytes_same (sha256 a) (sha256 b) (line_feed ++ xs) (line_feed ++ ys) (sha256_each a) (sha256_each b) (length-sha256 a ∙ sym (length-sha256 b)) both in
      let rest = cancel line_feed xs ys r.1 in
      by (of_digest these those a b ha.1 hb.1 r.0) rest
    where
      by : (a ≡ b) ⊎ Collision these those → xs ≡ ys → Same these those a b xs ys
      by (inl s) rest = inl (s, rest)
      by (inr c) rest = inr c

  ends_by : (v w : Bool) → leb (length a) most_spelled ≡ v → leb (length b) most_spelled ≡ w → decimal (length a) ≡ decimal (length b) → end_by v a ++ xs ≡ end_by w b ++ ys → Same these those a b xs ys
  ends_by true true f g d e =
      let few = leb-true (length a) most_spelled f in
      let few_too = leb-true (length b) most_spelled g in
      let n = decimal_injective (length a) (length b) (omega (arith, few)) (omega (arith, few_too)) d in
      inl (spelled_both n (cancel line_feed (dump_lines ((length a + 15) / 16) a ++ xs) (dump_lines ((length b + 15) / 16) b ++ ys) e))
  ends_by true false f g d e = let same : ◌≡◌ {A = ℕ} 10 44 = cc in absurd (omega (arith, same))
  ends_by false true f g d e = let same : ◌≡◌ {A = ℕ} 44 10 = cc in absurd (omega (arith, same))
  ends_by false false f g d e = digests_both e

  no_digit : IsDigit 32 → ⊥
  no_digit h = let low = h.0 in omega (arith, low)

  -- a payload behind a name
  pub same_payload : payload_end a xs ≡ payload_end b ys → Same these those a b xs ys
  same_payload e =
      let r = run_ends IsDigit (decimal (length a)) (decimal (length b)) 32 32 (codes "bytes" ++ (end_by (leb (length a) most_spelled) a ++ xs)) (codes "bytes" ++ (end_by (leb (length b) most_spelled) b ++ ys)) (decimal_digits (length a)) (decimal_digits (length b)) no_digit no_digit e in
      let rest = cancel (codes " bytes") (end_by (leb (length a) most_spelled) a ++ xs) (end_by (leb (length b) most_spelled) b ++ ys) r.1 in
      ends_by (leb (length a) most_spelled) (leb (length b) most_spelled) refl refl r.0 rest

-- a payload under a name
pub same_under : (these those : List (List ℕ)) (name a b xs ys : List ℕ) → IsToldIn these a → IsToldIn those b → payload_lines name a ++ xs ≡ payload_lines name b ++ ys → Same these those a b xs ys
same_under these those name a b xs ys ha hb e =
    same_payload these those a b xs ys ha hb (cancel (space ++ name ++ codes ": ") (payload_end a xs) (payload_end b ys)
    (sym (payload_is (space ++ name ++ codes ": ") (decimal (length a)) (codes " bytes") (end_by (leb (length a) most_spelled) a) xs) ∙ e ∙ payload_is (space ++ name ++ codes ": ") (decimal (length b)) (codes " bytes") (end_by (leb (length b) most_spelled) b) ys))

-- ---- types

-- four bytes
pub record IsType (kind : List ℕ) : Type 0 where
  pub four : length kind ≡ 4
  pub bytes : EachByte kind

abbrev type_by : Bool → List ℕ → List ℕ
type_by v kind = if v then kind else 92 ∷ hex_text kind

no_backslash : (kind xs more : List ℕ) → is_plain_type kind ≡ true → length kind ≡ 4 → kind ++ xs ≡ 92 ∷ more → ⊥
no_backslash [] xs more p n e = omega (arith, n)
no_backslash (c ∷ kind) xs more p n e =
    let same : c ≡ 92 = cc in
    let own = and_parts (nat_lt 32 c && (nat_lt c 127 && not (c == 92))) (is_plain_type kind) p in
    let low = and_parts (nat_lt 32 c) (nat_lt c 127 && not (c == 92)) own.0 in
    let last = and_parts (nat_lt c 127) (not (c == 92)) low.1 in
    let isnt : not (◌==◌ 92 92) ≡ true = subst (λ (x : ℕ). not (x == 92) ≡ true) same last.1 in
    cc

module _ (j k xs ys : List ℕ) (hj : IsType j) (hk : IsType k) where
  types_by : (v w : Bool) → is_plain_type j ≡ v → is_plain_type k ≡ w → type_by v j ++ xs ≡ type_by w k ++ ys → (j ≡ k) × (xs ≡ ys)
  types_by true true f g e = same_length j k xs ys (hj.four ∙ sym hk.four) e
  types_by true false f g e = absurd (no_backslash j xs (hex_text k ++ ys) f hj.four e)
  types_by false true f g e = absurd (no_backslash k ys (hex_text j ++ xs) g hk.four (sym e))
  types_by false false f g e = bytes_same j k xs ys hj.bytes hk.bytes (hj.four ∙ sym hk.four) (tail_is 92 92 (hex_text j ++ xs) (hex_text k ++ ys) e)

  pub same_type : spelled_type j ++ xs ≡ spelled_type k ++ ys → (j ≡ k) × (xs ≡ ys)
  same_type e = types_by (is_plain_type j) (is_plain_type k) refl refl e

plain_word : (kind : List ℕ) → is_plain_type kind ≡ true → IsWord kind
plain_word [] p = tt
plain_word (c ∷ kind) p =
    let own = and_parts (nat_lt 32 c && (nat_lt c 127 && not (c == 92))) (is_plain_type kind) p in
    let low = and_parts (nat_lt 32 c) (nat_lt c 127 && not (c == 92)) own.0 in
    (ltb-true 32 c low.0, plain_word kind own.1)

pub type_word : (kind : List ℕ) → IsWord (spelled_type kind)
type_word kind = by (is_plain_type kind) refl
  where
    by : (v : Bool) → is_plain_type kind ≡ v → IsWord (type_by v kind)
    by true e = plain_word kind e
    by false e = (omega arith, bytes_word kind)

-- ---- boxes under a name

kept_is : (sp name colon number bytes end xs type : List ℕ) → (sp ++ (name ++ sp ++ type) ++ colon ++ number ++ bytes ++ end) ++ xs ≡ (sp ++ name ++ sp) ++ (type ++ (colon ++ (number ++ (bytes ++ (end ++ xs)))))
kept_is sp name colon number bytes end xs type = simp append_assoc

pub same_kept : (these those : List (List ℕ)) (name : List ℕ) (j k : Kept) (xs ys : List ℕ) → IsType j.kind → IsType k.kind → IsToldIn these j.payload → IsToldIn those k.payload → kept_lines name j ++ xs ≡ kept_lines name k ++ ys → Same these those j k xs ys
same_kept these those name j k xs ys hj hk bj bk e =
    let ends = λ (x : Kept) (zs : List ℕ). codes ": " ++ payload_end x.payload zs in
    let split = λ (x : Kept) (zs : List ℕ). kept_is space name (codes ": ") (decimal (length x.payload)) (codes " bytes") (end_by (leb (length x.payload) most_spelled) x.payload) zs (spelled_type x.kind) in
    let both = cancel (space ++ name ++ space) (spelled_type j.kind ++ ends j xs) (spelled_type k.kind ++ ends k ys) (sym (split j xs) ∙ e ∙ split k ys) in
    let r = same_type j.kind k.kind (ends j xs) (ends k ys) hj hk both in
    let s = same_payload these those j.payload k.payload xs ys bj bk (cancel (codes ": ") (payload_end j.payload xs) (payload_end k.payload ys) r.1) in
    by r.0 s
  where
    by : j.kind ≡ k.kind → Same these those j.payload k.payload xs ys → Same these those j k xs ys
    by t (inl p) = inl (λ i. record { kind = t i; payload = p.0 i }, p.1)
    by t (inr c) = inr c

-- ---- groups

abbrev pub group_word : GroupKey × ℕ → List ℕ
group_word group = spelled_type group.0.kind ++ parameter_text group.0.parameter ++ codes "=" ++ decimal group.1

parameter_word : (o : Option ℕ) → IsWord (parameter_text o)
parameter_word None = tt
parameter_word (Some n) = (omega arith, decimal_word n)

pub group_is_word : (group : GroupKey × ℕ) → IsWord (group_word group)
group_is_word group =
    let Is : ℕ → Type 0 = λ b. 32 < b in
    let type = spelled_type group.0.kind in
    let parameter = parameter_text group.0.parameter in
    all_append Is (type ++ parameter ++ codes "=") (decimal group.1) (all_append Is (type ++ parameter) (codes "=") (all_append Is type parameter (type_word group.0.kind) (parameter_word group.0.parameter)) (omega arith, tt)) (decimal_word group.1)

no_equals : IsDigit 61 → ⊥
no_equals h = let high = h.1 in omega (arith, high)

same_parameter : (o p : Option ℕ) (xs ys : List ℕ) → IsParameter o → IsParameter p → parameter_text o ++ 61 ∷ xs ≡ parameter_text p ++ 61 ∷ ys → (o ≡ p) × (xs ≡ ys)
same_parameter None None xs ys h k e = (refl, tail_is 61 61 xs ys e)
same_parameter None (Some n) xs ys h k e = let same : ◌≡◌ {A = ℕ} 61 47 = cc in absurd (omega (arith, same))
same_parameter (Some m) None xs ys h k e = let same : ◌≡◌ {A = ℕ} 47 61 = cc in absurd (omega (arith, same))
same_parameter (Some m) (Some n) xs ys h k e =
    let r = run_ends IsDigit (decimal m) (decimal n) 61 61 xs ys (decimal_digits m) (decimal_digits n) no_equals no_equals (tail_is 47 47 (decimal m ++ 61 ∷ xs) (decimal n ++ 61 ∷ ys) e) in
    let same = decimal_injective m n (omega (arith, h)) (omega (arith, k)) r.0 in
    (ap (λ (x : ℕ). Some x) same, tail_is 61 61 xs ys r.1)

group_type : (group : GroupKey × ℕ) → IsGroup group → IsType group.0.kind
group_type group h = record { four = h.kind_length; bytes = each_byte group.0.kind h.kind }

pub same_group : (g h : GroupKey × ℕ) → IsGroup g → IsGroup h → group_word g ≡ group_word h → g ≡ h
same_group g h ig ih e =
    let split = λ (x : GroupKey × ℕ). append_four (spelled_type x.0.kind) (parameter_text x.0.parameter) (codes "=") (decimal x.1) in
    let r = same_type g.0.kind h.0.kind (parameter_text g.0.parameter ++ 61 ∷ decimal g.1) (parameter_text h.0.parameter ++ 61 ∷ decimal h.1) (group_type g ig) (group_type h ih) (sym (split g) ∙ e ∙ split h) in
    let s = same_parameter g.0.parameter h.0.parameter (decimal g.1) (decimal h.1) ig.parameter ih.parameter r.1 in
    let low = ig.index in
    let low_too = ih.index in
    let n = decimal_injective g.1 h.1 (omega (arith, low)) (omega (arith, low_too)) s.1 in
    λ i. (record { kind = r.0 i; parameter = s.0 i }, n i)
