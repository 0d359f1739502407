-- The longest front and the longest end that two lists of samples have in common.
use Rattle.std.proofs.Common.{◌≡◌, ℕ, zero, suc, ◌+◌, ◌-◌, ◌≤◌, min, Bool, true, false, if◌then◌else◌, List, [], ◌∷◌, ◌++◌, length, take, drop, Option, Some, None, refl, sym, ap, subst, ◌∙◌, arith, inl, inr}
use Rattle.std.specs.Prelude.{flat_map, ◌==◌}
use Rattle.std.specs.List.{AllByRecursion, slice_get}
use Rattle.std.proofs.lemmas.Bool.{cases_order}
use Rattle.std.proofs.lemmas.List.{drop-drop, length-drop}
use Rattle.mp4_boxes.proofs.Among.{all_append}
use Rattle.mp4_boxes.proofs.Each.{each_dropped}
use Rattle.mp4_boxes.proofs.Plain.{drop_all}
use Rattle.mp4_tables.specs.format.Groups.{GroupKey, Groups, index_at}
use Rattle.mp4_present.specs.format.Presentation.{Sample}
use Rattle.mp4_content.specs.format.Alignment.{BothHave, IsEnd, IsFront, last}
use Rattle.mp4_content.specs.format.Comparison.{byte_differences, keys_of_both, sample_differences, value_differences}
use Rattle.mp4_content.specs.format.Differences.{byte_at, differ, each_differ, first_unequal, numbers_differ, same_value}
use Rattle.mp4_content.specs.words.Aligning.{front_before, front_of}
use Rattle.mp4_content.specs.declared.comparing.differences.Subject.{Subject}
use Rattle.mp4_content.specs.declared.comparing.differences.Subject.TheVariants as subjects
use Rattle.mp4_content.specs.declared.comparing.differences.Field.{Field}
use Rattle.mp4_content.specs.declared.comparing.differences.Field.TheVariants as fields
use Rattle.mp4_content.specs.declared.comparing.differences.Value.{Value}
use Rattle.mp4_content.specs.declared.comparing.differences.Value.TheVariants.{Byte, Number, Signed}
use Rattle.mp4_content.specs.declared.comparing.differences.Difference.{Difference}
use Rattle.mp4_content.proofs.ComparisonValues.{each_self, each_tells}
use Rattle.mp4_content.proofs.ComparisonWhole.{HasMap, sample_self, sample_tells}

-- ---- of whom differences are told

abbrev IsOf : Subject → Difference → Type 0
IsOf of d = d.subject ≡ of

module _ (of : Subject) where
  differ_choice : (field : Field) (a b : Value) (v : Bool) → AllByRecursion (IsOf of) (if v then [] else record { subject = of; field = field; left = a; right = b } ∷ [])
  differ_choice field a b true = tt
  differ_choice field a b false = (refl, tt)

  differ_told : (field : Field) (a b : Value) → AllByRecursion (IsOf of) (differ of field a b)
  unfolding differ
  differ_told field a b = differ_choice field a b (same_value a b)

  keys_told : (a b : Groups) (keys : List GroupKey) → AllByRecursion (IsOf of) (flat_map (λ (key : GroupKey). numbers_differ of (fields.Group (record { kind = record { 0 = key.kind }; parameter = key.parameter })) (index_at key a) (index_at key b)) keys)
  keys_told a b [] = tt
  keys_told a b (key ∷ keys) = all_append (IsOf of) _ _ (differ_told (fields.Group (record { kind = record { 0 = key.kind }; parameter = key.parameter })) (Number (index_at key a)) (Number (index_at key b))) (keys_told a b keys)

  byte_told : (field : ℕ → Field) (found : Option (ℕ × ℕ × ℕ)) → AllByRecursion (IsOf of) (byte_at of field found)
  byte_told field None = tt
  byte_told field (Some found) = differ_told (field (found.0 + 1)) (Byte found.1) (Byte found.2)

  bytes_choice : (field : ℕ → Field) (v : Bool) (found : Option (ℕ × ℕ × ℕ)) → AllByRecursion (IsOf of) (if v then byte_at of field found else [])
  bytes_choice field true found = byte_told field found
  bytes_choice field false found = tt

sample_told : (track n : ℕ) (a b : Sample) → AllByRecursion (IsOf (subjects.Sample track n)) (sample_differences track n a b)
sample_told track n a b =
    let of = subjects.Sample track n in
    let P = IsOf of in
    let times = all_append P _ _ (differ_told of fields.Duration (Number a.duration) (Number b.duration)) (differ_told of fields.Offset (Signed a.offset) (Signed b.offset)) in
    let fields_told = all_append P _ _ (all_append P _ _ times (differ_told of fields.Flags (Number a.flags) (Number b.flags))) (differ_told of fields.Description (Number a.description) (Number b.description)) in
    let values = all_append P _ _ fields_told (keys_told of a.groups b.groups (keys_of_both a.groups b.groups)) in
    let bytes = all_append P _ _ (differ_told of fields.Size (Number (length a.bytes)) (Number (length b.bytes))) (bytes_choice of (λ (k : ℕ). fields.Byte k (length a.bytes)) (length a.bytes == length b.bytes) (first_unequal 0 a.bytes b.bytes)) in
    all_append P (value_differences of a b) (byte_differences of a.bytes b.bytes) values bytes

-- ---- the longest front

module _ (track : ℕ) where
  abbrev one : ℕ → Sample → Sample → List Difference
  one = sample_differences track

  -- the first difference is told of the sample behind the front; there is none where one list ends there
  abbrev FirstIs : ℕ → ℕ → List Sample → List Sample → Option Difference → Type 0
  FirstIs n p xs ys None = p ≡ min (length xs) (length ys)
  FirstIs n p xs ys (Some d) = d.subject ≡ subjects.Sample track (n + p)

  front_more : (n p : ℕ) (x y : Sample) (xs ys : List Sample) (first : Option Difference) → FirstIs (suc n) p xs ys first → FirstIs n (suc p) (x ∷ xs) (y ∷ ys) first
  front_more n p x y xs ys None e = omega (arith, e)
  front_more n p x y xs ys (Some d) e = let on : suc n + p ≡ n + suc p = omega arith in e ∙ ap (λ (k : ℕ). subjects.Sample track k) on

  same_first : (x y : Sample) (xs ys : List Sample) → ◌≡◌ {A = List Sample} (x ∷ xs) (y ∷ ys) → x ≡ y
  same_first x y xs ys e = cc

  pub found_front : (n : ℕ) (xs ys : List Sample) → AllByRecursion HasMap xs → AllByRecursion HasMap ys → (p : ℕ) × IsFront xs ys p × FirstIs n p xs ys (slice_get (each_differ one n xs ys) 0)
  found_front n [] ys g h = (0, record { within = (omega arith, omega arith); same = refl; longest = λ k le e. le.0 }, omega arith)
  found_front n (x ∷ xs) [] g h = (0, record { within = (omega arith, omega arith); same = refl; longest = λ k le e. le.1 }, omega arith)
  found_front n (x ∷ xs) (y ∷ ys) g h = by (one n x y) refl (found_front (suc n) xs ys g.1 h.1)
    where
      by : (ds : List Difference) → one n x y ≡ ds → ((p : ℕ) × IsFront xs ys p × FirstIs (suc n) p xs ys (slice_get (each_differ one (suc n) xs ys) 0))
          → (p : ℕ) × IsFront (x ∷ xs) (y ∷ ys) p × FirstIs n p (x ∷ xs) (y ∷ ys) (slice_get (one n x y ++ each_differ one (suc n) xs ys) 0)
      by [] e more =
          let f = more.1 in
          let le = f.within.0 in
          let le_right = f.within.1 in
          let same = (sample_tells track n x y).none e g.0 h.0 in
          let longest : (k : ℕ) → BothHave k (x ∷ xs) (y ∷ ys) → take k (x ∷ xs) ≡ take k (y ∷ ys) → k ≤ suc more.0 = λ k have eq. longer k have eq in (
            suc more.0,
            record { within = (omega (arith, le), omega (arith, le_right)); same = λ i. same i ∷ f.same i; longest = longest },
            subst (λ (ds : List Difference). FirstIs n (suc more.0) (x ∷ xs) (y ∷ ys) (slice_get (ds ++ each_differ one (suc n) xs ys) 0)) (sym e) (front_more n more.0 x y xs ys _ more.2),
          )
        where
          longer : (k : ℕ) → BothHave k (x ∷ xs) (y ∷ ys) → take k (x ∷ xs) ≡ take k (y ∷ ys) → k ≤ suc more.0
          longer zero have eq = omega arith
          longer (suc k) have eq =
              let le = have.0 in
              let le_right = have.1 in
              let within = more.1.longest k (omega (arith, le), omega (arith, le_right)) (ap (drop 1) eq) in
              omega (arith, within)
      by (d ∷ ds) e more = (
        0,
        record { within = (omega arith, omega arith); same = refl; longest = none },
        subst (λ (fs : List Difference). FirstIs n 0 (x ∷ xs) (y ∷ ys) (slice_get (fs ++ each_differ one (suc n) xs ys) 0)) (sym e)
            (let zero_more : n ≡ n + 0 = omega arith in (subst (λ (fs : List Difference). AllByRecursion (IsOf (subjects.Sample track n)) fs) e (sample_told track n x y)).0 ∙ ap (λ (k : ℕ). subjects.Sample track k) zero_more),
      )
        where
          none : (k : ℕ) → BothHave k (x ∷ xs) (y ∷ ys) → take k (x ∷ xs) ≡ take k (y ∷ ys) → k ≤ 0
          none zero have eq = omega arith
          none (suc k) have eq =
              let same = same_first x y (take k xs) (take k ys) eq in
              let nothing : one n x y ≡ [] = ap (λ (s : Sample). one n x s) (sym same) ∙ sample_self track n x in
              let no : ◌≡◌ {A = List Difference} (d ∷ ds) [] = sym e ∙ nothing in
              absurd cc

  front_told : (p most : ℕ) (xs ys : List Sample) (first : Option Difference) → most ≡ min (length xs) (length ys) → IsFront xs ys p → FirstIs 1 p xs ys first → p ≡ front_before first most
  front_told p most xs ys None e f h = h ∙ sym e
  front_told p most xs ys (Some d) e f h =
      let le = f.within.0 in
      let le_right = f.within.1 in
      let is : p ≡ min (1 + p - 1) most = omega (arith, le, le_right, e) in
      is ∙ ap (λ (s : Subject). front_of s most) (sym h)

  -- the front that the first difference tells of is the longest
  pub front_is : (xs ys : List Sample) (most : ℕ) (first : Option Difference) → AllByRecursion HasMap xs → AllByRecursion HasMap ys → most ≡ min (length xs) (length ys) → first ≡ slice_get (each_differ one 1 xs ys) 0 → IsFront xs ys (front_before first most)
  front_is xs ys most first g h e is =
      let found = found_front 1 xs ys g h in
      let told = subst (λ (o : Option Difference). FirstIs 1 found.0 xs ys o) (sym is) found.2 in
      subst (λ (k : ℕ). IsFront xs ys k) (front_told found.0 most xs ys first e found.1 told) found.1

  -- ---- the longest end

  -- the last of a list are those behind some of a part of it
  last_is : (whole part : List Sample) (i count k : ℕ) → part ≡ drop i whole → i + count ≡ length whole → k ≤ count → last (count - k) whole ≡ drop k part
  last_is whole part i count k e many le =
      let at : length whole - (count - k) ≡ i + k = omega (arith, many, le) in
      ap (λ (n : ℕ). drop n whole) at ∙ sym (drop-drop k i whole) ∙ ap (drop k) (sym e)

  module _ (ps qs xs ys : List Sample) (i j count : ℕ) (are : xs ≡ drop i ps) (are_right : ys ≡ drop j qs) (many : i + count ≡ length ps) (many_right : j + count ≡ length qs)
      (most : (k : ℕ) → k ≤ length ps → k ≤ length qs → k ≤ count) where
    -- where two parts of the same length differ, so do longer ones
    no_longer : (k at : ℕ) → k ≤ count → count ≤ k + at → last k ps ≡ last k qs → drop at xs ≡ drop at ys
    no_longer k at le reach e =
        let down : count - (count - k) ≡ k = omega (arith, le) in
        let less : count - k ≤ count = omega arith in
        let left = ap (λ (n : ℕ). last n ps) (sym down) ∙ last_is ps xs i count (count - k) are many less in
        let right = ap (λ (n : ℕ). last n qs) (sym down) ∙ last_is qs ys j count (count - k) are_right many_right less in
        let same : drop (count - k) xs ≡ drop (count - k) ys = sym left ∙ e ∙ right in
        let on : count - k + (at - (count - k)) ≡ at = omega (arith, le, reach) in
        ap (λ (n : ℕ). drop n xs) (sym on) ∙ sym (drop-drop (at - (count - k)) (count - k) xs) ∙ ap (drop (at - (count - k))) same ∙ drop-drop (at - (count - k)) (count - k) ys ∙ ap (λ (n : ℕ). drop n ys) on

    length_of : (whole part : List Sample) (k : ℕ) → part ≡ drop k whole → k + count ≡ length whole → length part ≡ count
    length_of whole part k e f = let n = length-drop k whole in ap (λ (ss : List Sample). length ss) e ∙ (omega (arith, n, f))

    -- behind the last pair that differs all are the same, and these are the most
    pub end_is : (behind : ℕ) → behind ≤ count → AllByRecursion HasMap xs → AllByRecursion HasMap ys → each_differ one (behind + 1) (drop behind xs) (drop behind ys) ≡ each_differ one (count + 1) (drop count xs) (drop count ys)
        → ((k : ℕ) → behind ≡ suc k → each_differ one (k + 1) (drop k xs) (drop k ys) ≡ [] → ⊥) → IsEnd ps qs (count - behind)
    end_is behind le g h same differs =
        let left = length_of ps xs i are many in
        let right = length_of qs ys j are_right many_right in
        let a = length-drop behind xs in
        let b = length-drop behind ys in
        let nothing : each_differ one (behind + 1) (drop behind xs) (drop behind ys) ≡ [] = same ∙ ap (λ (ss : List Sample). each_differ one (count + 1) ss (drop count ys)) (drop_all xs count (omega (arith, left))) in
        let equal = (each_tells HasMap one (sample_tells track) (behind + 1) (drop behind xs) (drop behind ys)).none nothing (omega (arith, a, b, left, right)) (each_dropped HasMap behind xs g) (each_dropped HasMap behind ys h) in
        record {
          within = (omega (arith, many), omega (arith, many_right));
          same = last_is ps xs i count behind are many le ∙ equal ∙ sym (last_is qs ys j count behind are_right many_right le);
          longest = λ k have e. longer behind refl k (most k have.0 have.1) e;
        }
      where
        longer : (n : ℕ) → behind ≡ n → (k : ℕ) → k ≤ count → last k ps ≡ last k qs → k ≤ count - behind
        longer zero is k few e = omega (arith, is, few)
        longer (suc n) is k few e = elim (cases_order k (count - behind)) [
          | inl f ↦ omega (arith, f)
          | inr (inl lt) ↦ omega (arith, lt)
          | inr (inr lt) ↦ (
              let alike = no_longer k n few (omega (arith, is, lt, le)) e in
              absurd (differs n is (ap (λ (ss : List Sample). each_differ one (n + 1) (drop n xs) ss) (sym alike) ∙ each_self one (sample_self track) (n + 1) (drop n xs)))
              )
        ]
