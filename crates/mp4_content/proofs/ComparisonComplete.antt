-- The list of differences is complete: each place at which two presentations say other values is listed.
use Rattle.std.proofs.Common.{◌≡◌, ◌⊎◌, inl, inr, ℕ, zero, suc, ◌+◌, Bool, true, false, if◌then◌else◌, List, [], ◌∷◌, ◌++◌, length, Option, None, Some, ℤ, refl, sym, subst, ◌∙◌, arith}
use Rattle.std.specs.Prelude.{◌==◌, slice_get, option_map, option_and_then}
use Rattle.std.specs.List.{Any, list_any}
use Rattle.std.proofs.lemmas.Bool.{eqb-true, eq-eqb, or_cases}
use Rattle.mp4_tables.specs.format.Groups.{GroupKey, Groups, key_rank, same_key, index_at}
use Rattle.mp4_tables.proofs.NamedKeys.{IsAmong}
use Rattle.mp4_head.specs.format.Head.{Kept, Edit}
use Rattle.mp4_present.specs.format.Presentation.{Sample, Track, Presentation}
use Rattle.mp4_content.specs.format.Differences.{same_value, differ, numbers_differ, signed, first_unequal, bytes_differ, payload_differences, each_differ, list_differences, box_differences, edit_differences, matrix_differences, movie_rates, movie_differences, head_differences, kept_differences, track_fields, track_layers, track_shape, track_sizes, media_fields, media_lists}
use Rattle.mp4_content.specs.format.Comparison.{keys_of_both, sample_differences, track_differences, differences}
use Rattle.mp4_content.specs.format.ComparisonLaws.{member, byte_value, payload_value, box_value, edit_value, movie_value, count_value, entry_value, track_value, sample_value, value_at}
use Rattle.mp4_content.specs.format.CompleteLaws.{IsSameBut, same, sample_byte, entry_byte, index, DifferencesAreAll}
use Rattle.mp4_content.specs.declared.comparing.differences.Subject.{Subject}
use Rattle.mp4_content.specs.declared.comparing.differences.Subject.TheVariants as subjects
use Rattle.mp4_content.specs.declared.comparing.differences.Entries.{Entries}
use Rattle.mp4_content.specs.declared.comparing.differences.Entries.TheVariants as entries
use Rattle.mp4_content.specs.declared.comparing.differences.Part.{Part}
use Rattle.mp4_content.specs.declared.comparing.differences.Part.TheVariants as parts
use Rattle.mp4_content.specs.declared.comparing.differences.Field.{Field}
use Rattle.mp4_content.specs.declared.comparing.differences.Field.TheVariants as fields
use Rattle.mp4_content.specs.declared.comparing.differences.Value.{Value}
use Rattle.mp4_content.specs.declared.comparing.differences.Value.TheVariants.{Number, Signed, Kind, Byte}
use Rattle.mp4_content.specs.declared.comparing.differences.Difference.{Difference}
use Rattle.mp4_content.proofs.ComparisonGroups.{at_keys, index_rank, key_field, none_same}
use Rattle.mp4_boxes.proofs.Plain.{true_false}

-- ---- lists that have a difference of a place

abbrev Has : (Difference → Type 0) → List Difference → Type 0
Has P [] = ⊥
Has P (d ∷ ds) = P d ⊎ Has P ds

front_has : (P : Difference → Type 0) (xs ys : List Difference) → Has P xs → Has P (xs ++ ys)
front_has P [] ys h = absurd h
front_has P (x ∷ xs) ys (inl p) = inl p
front_has P (x ∷ xs) ys (inr h) = inr (front_has P xs ys h)

rest_has : (P : Difference → Type 0) (xs ys : List Difference) → Has P ys → Has P (xs ++ ys)
rest_has P [] ys h = h
rest_has P (x ∷ xs) ys h = inr (rest_has P xs ys h)

any_of : (P : Difference → Type 0) (ds : List Difference) → Has P ds → Any P ds
any_of P [] h = absurd h
any_of P (d ∷ ds) (inl p) = (0, d, omega arith, refl, p)
any_of P (d ∷ ds) (inr h) = let r = any_of P ds h in let within = r.2 in (suc r.0, r.1, omega (arith, within), r.3, r.4)

-- the value of this place, of the same subject, or a byte of its payload
abbrev IsOf : Subject → Field → Difference → Type 0
IsOf of field d = (d.subject ≡ of) × IsSameBut d.field field

record Lists (of : Subject) (field : Field) (ds : List Difference) : Type 0 where
  has : Has (IsOf of field) ds

module _ {of : Subject} {field : Field} where
  left : {xs : List Difference} (ys : List Difference) → Lists of field xs → Lists of field (xs ++ ys)
  left {xs} ys h = record { has = front_has (IsOf of field) xs ys h.has }

  right : (xs : List Difference) {ys : List Difference} → Lists of field ys → Lists of field (xs ++ ys)
  right xs {ys} h = record { has = rest_has (IsOf of field) xs ys h.has }

  leaf_by : (named : Field) (l r : Value) (b : Bool) → b ≡ false → IsSameBut named field → Lists of field (if b then [] else record { subject = of; field = named; left = l; right = r } ∷ [])
  leaf_by named l r true e is = absurd (cc)
  leaf_by named l r false e is = record { has = inl (refl, is) }

  differ_lists : (named : Field) (l r : Value) → IsSameBut named field → same_value l r ≡ false → Lists of field (differ of named l r)
  unfolding differ
  differ_lists named l r is ne = leaf_by named l r (same_value l r) ne is

  leaf : (named : Field) (l r x y : Value) → IsSameBut named field → Some l ≡ Some x → Some r ≡ Some y → same_value x y ≡ false → Lists of field (differ of named l r)
  leaf named l r x y is e i ne = let f : l ≡ x = cc in let g : r ≡ y = cc in differ_lists named l r is ((λ j. same_value (f j) (g j)) ∙ ne)

  -- ---- entries of lists

  each_list : {A : Type 0} (one : ℕ → A → A → List Difference) (m : ℕ) (xs ys : List A) (k : ℕ) (a b : A) → slice_get xs k ≡ Some a → slice_get ys k ≡ Some b → Lists of field (one (k + m) a b) → Lists of field (each_differ one m xs ys)
  each_list one m [] ys k a b e f h = absurd (cc)
  each_list one m (x ∷ xs) [] k a b e f h = absurd (cc)
  each_list {A = A} one m (x ∷ xs) (y ∷ ys) zero a b e f h =
      let p : a ≡ x = cc in
      let q : b ≡ y = cc in
      let first : 0 + m ≡ m = omega arith in
      left _ (subst (λ (v : A). Lists of field (one m v y)) p (subst (λ (v : A). Lists of field (one m a v)) q (subst (λ (j : ℕ). Lists of field (one j a b)) first h)))
  each_list {A = A} one m (x ∷ xs) (y ∷ ys) (suc k) a b e f h =
      let next : suc k + m ≡ k + suc m = omega arith in
      right _ (each_list one (suc m) xs ys k a b e f (subst (λ (j : ℕ). Lists of field (one j a b)) next h))

  members_list : {A : Type 0} (one : ℕ → A → A → List Difference) (xs ys : List A) (n : ℕ) (a b : A) → member xs n ≡ Some a → member ys n ≡ Some b → Lists of field (one n a b) → Lists of field (each_differ one 1 xs ys)
  members_list one xs ys zero a b e f h = absurd (cc)
  members_list one xs ys (suc k) a b e f h = let next : suc k ≡ k + 1 = omega arith in each_list one 1 xs ys k a b e f (subst (λ (j : ℕ). Lists of field (one j a b)) next h)

  entries_list : {A : Type 0} (one : ℕ → A → A → List Difference) (value : A → Option Value) (xs ys : List A) (n : ℕ) (x y : Value) → option_and_then value (member xs n) ≡ Some x → option_and_then value (member ys n) ≡ Some y
      → ((a b : A) → value a ≡ Some x → value b ≡ Some y → Lists of field (one n a b)) → Lists of field (each_differ one 1 xs ys)
  entries_list {A = A} one value xs ys n x y e f h = by (member xs n) (member ys n) refl refl e f
    where
      by : (o u : Option A) → member xs n ≡ o → member ys n ≡ u → option_and_then value o ≡ Some x → option_and_then value u ≡ Some y → Lists of field (each_differ one 1 xs ys)
      by None u m k e f = absurd (cc)
      by (Some a) None m k e f = absurd (cc)
      by (Some a) (Some b) m k e f = members_list one xs ys n a b m k (h a b e f)

  -- an entry of numbers
  matrix_list : (xs ys : List ℤ) (n : ℕ) (x y : Value) → IsSameBut (fields.Matrix n) field → option_map (λ m. Signed m) (member xs n) ≡ Some x → option_map (λ m. Signed m) (member ys n) ≡ Some y → same_value x y ≡ false
      → Lists of field (matrix_differences of xs ys)
  matrix_list xs ys n x y is e f ne = by (member xs n) (member ys n) refl refl e f
    where
      by : (o u : Option ℤ) → member xs n ≡ o → member ys n ≡ u → option_map (λ m. Signed m) o ≡ Some x → option_map (λ m. Signed m) u ≡ Some y → Lists of field (matrix_differences of xs ys)
      by None u m k e f = absurd (cc)
      by (Some a) None m k e f = absurd (cc)
      by (Some a) (Some b) m k e f = members_list (λ (n : ℕ) (x y : ℤ). signed of (fields.Matrix n) x y) xs ys n a b m k (leaf (fields.Matrix n) (Signed a) (Signed b) x y is e f ne)

-- ---- bytes

-- where bytes differ at a place, the first that differ are found
unequal_found : (n : ℕ) (xs ys : List ℕ) (i v w : ℕ) → slice_get xs i ≡ Some v → slice_get ys i ≡ Some w → (v == w) ≡ false → (found : ℕ × ℕ × ℕ) × (first_unequal n xs ys ≡ Some found) × ((found.1 == found.2) ≡ false)
unequal_found n [] ys i v w e f ne = absurd (cc)
unequal_found n (x ∷ xs) [] i v w e f ne = absurd (cc)
unequal_found n (x ∷ xs) (y ∷ ys) i v w e f ne = by (x == y) refl i e f (λ j k l. unequal_found (suc n) xs ys j v w k l ne)
  where
    by : (b : Bool) → (x == y) ≡ b → (i : ℕ) → slice_get (x ∷ xs) i ≡ Some v → slice_get (y ∷ ys) i ≡ Some w
        → ((j : ℕ) → slice_get xs j ≡ Some v → slice_get ys j ≡ Some w → (found : ℕ × ℕ × ℕ) × (first_unequal (suc n) xs ys ≡ Some found) × ((found.1 == found.2) ≡ false))
        → (found : ℕ × ℕ × ℕ) × ((if b then first_unequal (suc n) xs ys else Some (n, x, y)) ≡ Some found) × ((found.1 == found.2) ≡ false)
    by false q i e f more = ((n, x, y), refl, q)
    by true q zero e f more = let p : x ≡ v = cc in let r : y ≡ w = cc in absurd (true_false (v == w) ((λ j. sym p j == sym r j) ∙ q) ne)
    by true q (suc i) e f more = more i e f

-- a byte of a payload, and how many it has
byte_parts : (bytes : List ℕ) (k count : ℕ) (x : Value) → byte_value bytes k count ≡ Some x → (v : ℕ) × (length bytes ≡ count) × (member bytes k ≡ Some v) × (x ≡ Byte v)
byte_parts bytes k count x e = by (length bytes == count) refl e
  where
    there : (o : Option ℕ) → member bytes k ≡ o → length bytes ≡ count → option_map (λ (n : ℕ). Byte n) o ≡ Some x → (v : ℕ) × (length bytes ≡ count) × (member bytes k ≡ Some v) × (x ≡ Byte v)
    there None m l e = absurd (cc)
    there (Some v) m l e = let is : Byte v ≡ x = cc in (v, l, m, sym is)

    by : (b : Bool) → (length bytes == count) ≡ b → (if b then option_map (λ (n : ℕ). Byte n) (member bytes k) else None) ≡ Some x → (v : ℕ) × (length bytes ≡ count) × (member bytes k ≡ Some v) × (x ≡ Byte v)
    by true l e = there (member bytes k) refl (eqb-true (length bytes) count l) e
    by false l e = absurd (cc)

module _ {of : Subject} {field : Field} where
  -- where a byte differs the first is listed
  bytes_list : (named : ℕ → ℕ → Field) (xs ys : List ℕ) (k count : ℕ) (x y : Value) → ((j n : ℕ) → IsSameBut (named j n) field) → byte_value xs k count ≡ Some x → byte_value ys k count ≡ Some y → same_value x y ≡ false
      → Lists of field (bytes_differ of (λ (j : ℕ). named j (length xs)) (length xs) (length ys) xs ys)
  bytes_list named xs ys zero count x y is e f ne = let a = byte_parts xs zero count x e in absurd (let m = a.2 in cc)
  bytes_list named xs ys (suc k) count x y is e f ne =
      let a = byte_parts xs (suc k) count x e in
      let b = byte_parts ys (suc k) count y f in
      let other : (a.0 == b.0) ≡ false = (λ j. same_value (sym a.3 j) (sym b.3 j)) ∙ ne in
      let found = unequal_found 0 xs ys k a.0 b.0 a.2 b.2 other in
      let long : (length xs == length ys) ≡ true = eq-eqb (length xs) (length ys) (a.1 ∙ sym b.1) in
      rw (long, found.1) (differ_lists (named (found.0.0 + 1) (length xs)) (Byte found.0.1) (Byte found.0.2) (is (found.0.0 + 1) (length xs)) found.2)

module _ {of : Subject} where
  payload_list : (list : Entries) (n : ℕ) (xs ys : List ℕ) (part : Part) (x y : Value) → payload_value part xs ≡ Some x → payload_value part ys ≡ Some y → same_value x y ≡ false → Lists of (fields.Entry list n part) (payload_differences of list n xs ys)
  payload_list list n xs ys parts.Length x y e f ne = left _ (leaf (fields.Entry list n parts.Length) (Number (length xs)) (Number (length ys)) x y (same refl) e f ne)
  payload_list list n xs ys (parts.Byte k count) x y e f ne = right _ (bytes_list (λ j m. fields.Entry list n (parts.Byte j m)) xs ys k count x y (λ j m. entry_byte list n j m k count refl refl) e f ne)
  payload_list list n xs ys _ x y e f ne = absurd (cc)

  box_list : (list : Entries) (n : ℕ) (a b : Kept) (part : Part) (x y : Value) → box_value part a ≡ Some x → box_value part b ≡ Some y → same_value x y ≡ false → Lists of (fields.Entry list n part) (box_differences of list n a b)
  box_list list n a b parts.Kind x y e f ne = left _ (leaf (fields.Entry list n parts.Kind) (Kind (record { 0 = a.kind })) (Kind (record { 0 = b.kind })) x y (same refl) e f ne)
  box_list list n a b parts.Length x y e f ne = right _ (payload_list list n a.payload b.payload parts.Length x y e f ne)
  box_list list n a b (parts.Byte k count) x y e f ne = right _ (payload_list list n a.payload b.payload (parts.Byte k count) x y e f ne)
  box_list list n a b _ x y e f ne = absurd (cc)

  edit_list : (n : ℕ) (a b : Edit) (part : Part) (x y : Value) → edit_value part a ≡ Some x → edit_value part b ≡ Some y → same_value x y ≡ false → Lists of (fields.Entry entries.Edits n part) (edit_differences of n a b)
  edit_list n a b parts.SegmentDuration x y e f ne = left _ (left _ (leaf (fields.Entry entries.Edits n parts.SegmentDuration) (Number a.segment_duration) (Number b.segment_duration) x y (same refl) e f ne))
  edit_list n a b parts.MediaTime x y e f ne = left _ (right _ (leaf (fields.Entry entries.Edits n parts.MediaTime) (Signed a.media_time) (Signed b.media_time) x y (same refl) e f ne))
  edit_list n a b parts.RateInteger x y e f ne = right _ (left _ (leaf (fields.Entry entries.Edits n parts.RateInteger) (Signed a.rate_integer) (Signed b.rate_integer) x y (same refl) e f ne))
  edit_list n a b parts.RateFraction x y e f ne = right _ (right _ (leaf (fields.Entry entries.Edits n parts.RateFraction) (Signed a.rate_fraction) (Signed b.rate_fraction) x y (same refl) e f ne))
  edit_list n a b _ x y e f ne = absurd (cc)

  boxes_list : (list : Entries) (xs ys : List Kept) (n : ℕ) (part : Part) (x y : Value) → option_and_then (box_value part) (member xs n) ≡ Some x → option_and_then (box_value part) (member ys n) ≡ Some y → same_value x y ≡ false
      → Lists of (fields.Entry list n part) (each_differ (box_differences of list) 1 xs ys)
  boxes_list list xs ys n part x y e f ne = entries_list (box_differences of list) (box_value part) xs ys n x y e f (λ a b k l. box_list list n a b part x y k l ne)

  payloads_list : (list : Entries) (xs ys : List (List ℕ)) (n : ℕ) (part : Part) (x y : Value) → option_and_then (payload_value part) (member xs n) ≡ Some x → option_and_then (payload_value part) (member ys n) ≡ Some y → same_value x y ≡ false
      → Lists of (fields.Entry list n part) (each_differ (payload_differences of list) 1 xs ys)
  payloads_list list xs ys n part x y e f ne = entries_list (payload_differences of list) (payload_value part) xs ys n x y e f (λ a b k l. payload_list list n a b part x y k l ne)

  edits_list : (xs ys : List Edit) (n : ℕ) (part : Part) (x y : Value) → option_and_then (edit_value part) (member xs n) ≡ Some x → option_and_then (edit_value part) (member ys n) ≡ Some y → same_value x y ≡ false
      → Lists of (fields.Entry entries.Edits n part) (each_differ (edit_differences of) 1 xs ys)
  edits_list xs ys n part x y e f ne = entries_list (edit_differences of) (edit_value part) xs ys n x y e f (λ a b k l. edit_list n a b part x y k l ne)

-- ---- tracks

-- one entry alone has the number 1
first_alone : {A : Type 0} (value : A → Option Value) (a : A) (n : ℕ) (x : Value) → option_and_then value (member (a ∷ []) n) ≡ Some x → (n ≡ 1) × (value a ≡ Some x)
first_alone value a zero x e = absurd (cc)
first_alone value a (suc zero) x e = (refl, e)
first_alone value a (suc (suc n)) x e = absurd (cc)

module _ (n : ℕ) (s t : Track) where
  abbrev IsHere : Field → Type 0
  IsHere field = Lists (subjects.Track n) field (track_differences n s t)

  counts : (list : Entries) (x y : Value) → Some (Number (count_value s.head list)) ≡ Some x → Some (Number (count_value t.head list)) ≡ Some y → same_value x y ≡ false
      → Lists (subjects.Track n) (fields.Count list) (numbers_differ (subjects.Track n) (fields.Count list) (count_value s.head list) (count_value t.head list))
  counts list x y e f ne = leaf (fields.Count list) (Number (count_value s.head list)) (Number (count_value t.head list)) x y (same refl) e f ne

  -- one and one is the same
  ones : (x y : Value) → Some (Number 1) ≡ Some x → Some (Number 1) ≡ Some y → same_value x y ≡ false → ⊥
  ones x y e f ne = let p : Number 1 ≡ x = cc in let q : Number 1 ≡ y = cc in true_false (same_value x y) ((λ j. same_value (sym p j) (sym q j)) ∙ refl) ne

  -- parts of the head, the last one first
  in_head : {field : Field} → Lists (subjects.Track n) field (head_differences (subjects.Track n) s.head t.head) → IsHere field
  in_head h = left _ (left _ (left _ h))

  in_groups : {field : Field} → Lists (subjects.Track n) field (list_differences (subjects.Track n) entries.GroupDescriptions (payload_differences (subjects.Track n) entries.GroupDescriptions) s.head.group_descriptions t.head.group_descriptions) → IsHere field
  in_groups h = in_head (right _ h)

  in_media_lists : {field : Field} → Lists (subjects.Track n) field (media_lists (subjects.Track n) s.head.media t.head.media) → IsHere field
  in_media_lists h = in_head (left _ (right _ h))

  in_media_fields : {field : Field} → Lists (subjects.Track n) field (media_fields (subjects.Track n) s.head.media t.head.media) → IsHere field
  in_media_fields h = in_head (left _ (left _ (right _ h)))

  in_kept : {field : Field} → Lists (subjects.Track n) field (kept_differences (subjects.Track n) s.head.kept t.head.kept) → IsHere field
  in_kept h = in_head (left _ (left _ (left _ (right _ h))))

  in_edits : {field : Field} → Lists (subjects.Track n) field (list_differences (subjects.Track n) entries.Edits (edit_differences (subjects.Track n)) s.head.edits t.head.edits) → IsHere field
  in_edits h = in_head (left _ (left _ (left _ (left _ (right _ h)))))

  in_sizes : {field : Field} → Lists (subjects.Track n) field (track_sizes (subjects.Track n) s.head t.head) → IsHere field
  in_sizes h = in_head (left _ (left _ (left _ (left _ (left _ (right _ h))))))

  in_shape : {field : Field} → Lists (subjects.Track n) field (track_shape (subjects.Track n) s.head t.head) → IsHere field
  in_shape h = in_head (left _ (left _ (left _ (left _ (left _ (left _ (right _ h)))))))

  in_layers : {field : Field} → Lists (subjects.Track n) field (track_layers (subjects.Track n) s.head t.head) → IsHere field
  in_layers h = in_head (left _ (left _ (left _ (left _ (left _ (left _ (left _ (right _ h))))))))

  in_fields : {field : Field} → Lists (subjects.Track n) field (track_fields (subjects.Track n) s.head t.head) → IsHere field
  in_fields h = in_head (left _ (left _ (left _ (left _ (left _ (left _ (left _ (left _ h))))))))

  count_lists : (list : Entries) (x y : Value) → Some (Number (count_value s.head list)) ≡ Some x → Some (Number (count_value t.head list)) ≡ Some y → same_value x y ≡ false → IsHere (fields.Count list)
  count_lists entries.Edits x y e f ne = in_edits (left _ (counts entries.Edits x y e f ne))
  count_lists entries.Kept x y e f ne = in_kept (left _ (counts entries.Kept x y e f ne))
  count_lists entries.Handler x y e f ne = absurd (ones x y e f ne)
  count_lists entries.ExtendedLanguages x y e f ne = in_media_lists (left _ (left _ (right _ (left _ (counts entries.ExtendedLanguages x y e f ne)))))
  count_lists entries.MediaHeader x y e f ne = absurd (ones x y e f ne)
  count_lists entries.Descriptions x y e f ne = in_media_lists (right _ (left _ (counts entries.Descriptions x y e f ne)))
  count_lists entries.GroupDescriptions x y e f ne = in_groups (left _ (counts entries.GroupDescriptions x y e f ne))

  entry_lists : (list : Entries) (k : ℕ) (part : Part) (x y : Value) → entry_value s.head list k part ≡ Some x → entry_value t.head list k part ≡ Some y → same_value x y ≡ false → IsHere (fields.Entry list k part)
  entry_lists entries.Edits k part x y e f ne = in_edits (right _ (edits_list s.head.edits t.head.edits k part x y e f ne))
  entry_lists entries.Kept k part x y e f ne = in_kept (right _ (boxes_list entries.Kept s.head.kept t.head.kept k part x y e f ne))
  entry_lists entries.Handler k part x y e f ne =
      let a = first_alone (payload_value part) s.head.media.handler k x e in
      let b = first_alone (payload_value part) t.head.media.handler k y f in
      rw a.0 (in_media_lists (left _ (left _ (left _ (payload_list entries.Handler 1 s.head.media.handler t.head.media.handler part x y a.1 b.1 ne)))))
  entry_lists entries.ExtendedLanguages k part x y e f ne = in_media_lists (left _ (left _ (right _ (right _ (payloads_list entries.ExtendedLanguages s.head.media.extended_languages t.head.media.extended_languages k part x y e f ne)))))
  entry_lists entries.MediaHeader k part x y e f ne =
      let a = first_alone (box_value part) s.head.media.header k x e in
      let b = first_alone (box_value part) t.head.media.header k y f in
      rw a.0 (in_media_lists (left _ (right _ (box_list entries.MediaHeader 1 s.head.media.header t.head.media.header part x y a.1 b.1 ne))))
  entry_lists entries.Descriptions k part x y e f ne = in_media_lists (right _ (right _ (boxes_list entries.Descriptions s.head.media.descriptions t.head.media.descriptions k part x y e f ne)))
  entry_lists entries.GroupDescriptions k part x y e f ne = in_groups (right _ (payloads_list entries.GroupDescriptions s.head.group_descriptions t.head.group_descriptions k part x y e f ne))

  track_lists : (field : Field) (x y : Value) → track_value s field ≡ Some x → track_value t field ≡ Some y → same_value x y ≡ false → IsHere field
  track_lists fields.Flags x y e f ne = in_fields (left _ (left _ (left _ (leaf fields.Flags _ _ x y (same refl) e f ne))))
  track_lists fields.Creation x y e f ne = in_fields (left _ (left _ (right _ (leaf fields.Creation _ _ x y (same refl) e f ne))))
  track_lists fields.Modification x y e f ne = in_fields (left _ (right _ (leaf fields.Modification _ _ x y (same refl) e f ne)))
  track_lists fields.Id x y e f ne = in_fields (right _ (leaf fields.Id _ _ x y (same refl) e f ne))
  track_lists fields.Layer x y e f ne = in_layers (left _ (leaf fields.Layer _ _ x y (same refl) e f ne))
  track_lists fields.AlternateGroup x y e f ne = in_layers (right _ (leaf fields.AlternateGroup _ _ x y (same refl) e f ne))
  track_lists fields.Volume x y e f ne = in_shape (left _ (leaf fields.Volume _ _ x y (same refl) e f ne))
  track_lists (fields.Matrix k) x y e f ne = in_shape (right _ (matrix_list s.head.matrix t.head.matrix k x y (same refl) e f ne))
  track_lists fields.Width x y e f ne = in_sizes (left _ (leaf fields.Width _ _ x y (same refl) e f ne))
  track_lists fields.Height x y e f ne = in_sizes (right _ (leaf fields.Height _ _ x y (same refl) e f ne))
  track_lists fields.MediaCreation x y e f ne = in_media_fields (left _ (left _ (left _ (leaf fields.MediaCreation _ _ x y (same refl) e f ne))))
  track_lists fields.MediaModification x y e f ne = in_media_fields (left _ (left _ (right _ (leaf fields.MediaModification _ _ x y (same refl) e f ne))))
  track_lists fields.MediaTimescale x y e f ne = in_media_fields (left _ (right _ (leaf fields.MediaTimescale _ _ x y (same refl) e f ne)))
  track_lists fields.Language x y e f ne = in_media_fields (right _ (leaf fields.Language _ _ x y (same refl) e f ne))
  track_lists (fields.Count list) x y e f ne = count_lists list x y e f ne
  track_lists (fields.Entry list k part) x y e f ne = entry_lists list k part x y e f ne
  track_lists fields.Start x y e f ne = left _ (left _ (right _ (leaf fields.Start _ _ x y (same refl) e f ne)))
  track_lists fields.Samples x y e f ne = left _ (right _ (leaf fields.Samples _ _ x y (same refl) e f ne))
  track_lists _ x y e f ne = absurd (cc)

-- ---- samples

module _ (of : Subject) (a b : Groups) where
  -- a key of one rank with one of these
  keys_list : (key : GroupKey) (keys : List GroupKey) (field : Field)
      → ((k : GroupKey) → key_rank k ≡ key_rank key → IsSameBut (key_field k) field) → IsAmong keys key → same_value (Number (index_at key a)) (Number (index_at key b)) ≡ false → Lists of field (at_keys of a b keys)
  keys_list key [] field like h ne = absurd (cc)
  keys_list key (k ∷ keys) field like h ne = elim (or_cases (same_key key k) (list_any (same_key key) keys) h) [
    | inl s ↦
        let e = eqb-true (key_rank key) (key_rank k) s in
        left _ (differ_lists (key_field k) (Number (index_at k a)) (Number (index_at k b)) (like k (sym e)) (rw (index_rank a k key (sym e), index_rank b k key (sym e)) ne))
    | inr r ↦ right _ (keys_list key keys field like r ne)
  ]

module _ (n k : ℕ) (s t : Sample) where
  abbrev IsIn : Field → Type 0
  IsIn field = Lists (subjects.Sample n k) field (sample_differences n k s t)

  group_lists : (key : GroupKey) (field : Field) → ((k : GroupKey) → key_rank k ≡ key_rank key → IsSameBut (key_field k) field) → same_value (Number (index_at key s.groups)) (Number (index_at key t.groups)) ≡ false → IsIn field
  group_lists key field like ne = by (list_any (same_key key) (keys_of_both s.groups t.groups)) refl
    where
      by : (b : Bool) → list_any (same_key key) (keys_of_both s.groups t.groups) ≡ b → IsIn field
      by true h = left _ (right _ (keys_list (subjects.Sample n k) s.groups t.groups key (keys_of_both s.groups t.groups) field like h ne))
      by false h = absurd (let same = none_same (subjects.Sample n k) s.groups t.groups key h in true_false (index_at key s.groups == index_at key t.groups) (eq-eqb (index_at key s.groups) (index_at key t.groups) same) ne)

  sample_lists : (field : Field) (x y : Value) → sample_value s field ≡ Some x → sample_value t field ≡ Some y → same_value x y ≡ false → IsIn field
  sample_lists fields.Duration x y e f ne = left _ (left _ (left _ (left _ (left _ (leaf fields.Duration _ _ x y (same refl) e f ne)))))
  sample_lists fields.Offset x y e f ne = left _ (left _ (left _ (left _ (right _ (leaf fields.Offset _ _ x y (same refl) e f ne)))))
  sample_lists fields.Flags x y e f ne = left _ (left _ (left _ (right _ (leaf fields.Flags _ _ x y (same refl) e f ne))))
  sample_lists fields.Description x y e f ne = left _ (left _ (right _ (leaf fields.Description _ _ x y (same refl) e f ne)))
  sample_lists (fields.Group key) x y e f ne =
      let g : GroupKey = record { kind = key.kind.0; parameter = key.parameter } in
      let p : Number (index_at g s.groups) ≡ x = cc in
      let q : Number (index_at g t.groups) ≡ y = cc in
      group_lists g (fields.Group key) (λ k r. index (record { kind = record { 0 = k.kind }; parameter = k.parameter }) key r refl refl) ((λ j. same_value (p j) (q j)) ∙ ne)
  sample_lists fields.Size x y e f ne = right _ (left _ (leaf fields.Size _ _ x y (same refl) e f ne))
  sample_lists (fields.Byte j count) x y e f ne = right _ (right _ (bytes_list (λ i m. fields.Byte i m) s.bytes t.bytes j count x y (λ i m. sample_byte i m j count refl refl) e f ne))
  sample_lists _ x y e f ne = absurd (cc)

-- ---- the whole

module _ (p q : Presentation) where
  in_movie : {field : Field} → Lists subjects.Movie field (movie_differences p.movie q.movie) → Lists subjects.Movie field (differences p q)
  in_movie h = left _ (left _ h)

  in_rates : {field : Field} → Lists subjects.Movie field (movie_rates p.movie q.movie) → Lists subjects.Movie field (differences p q)
  in_rates h = in_movie (left _ (left _ (right _ h)))

  movie_lists : (field : Field) (x y : Value) → movie_value p field ≡ Some x → movie_value q field ≡ Some y → same_value x y ≡ false → Lists subjects.Movie field (differences p q)
  movie_lists fields.Creation x y e f ne = in_movie (left _ (left _ (left _ (left _ (left _ (leaf fields.Creation _ _ x y (same refl) e f ne))))))
  movie_lists fields.Modification x y e f ne = in_movie (left _ (left _ (left _ (left _ (right _ (leaf fields.Modification _ _ x y (same refl) e f ne))))))
  movie_lists fields.Timescale x y e f ne = in_movie (left _ (left _ (left _ (right _ (leaf fields.Timescale _ _ x y (same refl) e f ne)))))
  movie_lists fields.Rate x y e f ne = in_rates (left _ (leaf fields.Rate _ _ x y (same refl) e f ne))
  movie_lists fields.Volume x y e f ne = in_rates (right _ (leaf fields.Volume _ _ x y (same refl) e f ne))
  movie_lists (fields.Matrix k) x y e f ne = in_movie (left _ (right _ (matrix_list p.movie.matrix q.movie.matrix k x y (same refl) e f ne)))
  movie_lists (fields.Count entries.Kept) x y e f ne = in_movie (right _ (left _ (leaf (fields.Count entries.Kept) _ _ x y (same refl) e f ne)))
  movie_lists (fields.Entry entries.Kept n part) x y e f ne = in_movie (right _ (right _ (boxes_list entries.Kept p.movie.kept q.movie.kept n part x y e f ne)))
  movie_lists fields.Tracks x y e f ne = left _ (right _ (leaf fields.Tracks _ _ x y (same refl) e f ne))
  movie_lists _ x y e f ne = absurd (cc)

  all_lists : (of : Subject) (field : Field) (x y : Value) → value_at p of field ≡ Some x → value_at q of field ≡ Some y → same_value x y ≡ false → Lists of field (differences p q)
  all_lists subjects.Movie field x y e f ne = movie_lists field x y e f ne
  all_lists (subjects.Track n) field x y e f ne = right _ (entries_list track_differences (λ (t : Track). track_value t field) p.tracks q.tracks n x y e f (λ s t k l. track_lists n s t field x y k l ne))
  all_lists (subjects.Sample n k) field x y e f ne =
      right _ (entries_list track_differences (λ (t : Track). option_and_then (λ (s : Sample). sample_value s field) (member t.samples k)) p.tracks q.tracks n x y e f
      (λ s t i j. right _ (entries_list (sample_differences n) (λ (v : Sample). sample_value v field) s.samples t.samples k x y i j (λ a b g h. sample_lists n k a b field x y g h ne))))

pub differences_are_all : DifferencesAreAll
differences_are_all p q of field x y e f ne = any_of (IsOf of field) (differences p q) (all_lists p q of field x y e f ne).has
