-- What two presentations differ in, turned round.
use Rattle.std.proofs.Common.{◌≡◌, ℕ, suc, ◌+◌, Bool, true, false, if◌then◌else◌, List, [], ◌∷◌, ◌++◌, length, Some, ℤ, refl, sym, ap, ◌∙◌}
use Rattle.std.specs.Prelude.{◌==◌, map}
use Rattle.std.specs.List.{AllByRecursion}
use Rattle.std.proofs.lemmas.List.{map-append}
use Rattle.std.proofs.lemmas.Bool.{eqb-true, eq-eqb}
use Rattle.mp4_tables.specs.format.Groups.{GroupKey, Groups, index_at}
use Rattle.mp4_head.specs.format.Head.{Kept, Edit, TrackHead, MovieHead}
use Rattle.mp4_present.specs.format.Presentation.{Sample, Track, Presentation}
use Rattle.mp4_content.specs.format.Remaining.{remaining}
use Rattle.mp4_content.specs.format.Differences.{same_value, differ, numbers_differ, signed, first_unequal, byte_at, bytes_differ, payload_differences, each_differ, box_differences, edit_differences, matrix_differences, movie_differences, head_differences}
use Rattle.mp4_content.specs.format.Comparison.{keys_of_both, index_differences, sample_differences, track_differences, differences}
use Rattle.mp4_content.specs.format.ComparisonLaws.{swapped, SwappedFilesSwapValues}
use Rattle.mp4_content.specs.declared.comparing.differences.Subject.{Subject}
use Rattle.mp4_content.specs.declared.comparing.differences.Subject.TheVariants as subjects
use Rattle.mp4_content.specs.declared.comparing.differences.Entries.{Entries}
use Rattle.mp4_content.specs.declared.comparing.differences.Part.TheVariants as parts
use Rattle.mp4_content.specs.declared.comparing.differences.Field.{Field}
use Rattle.mp4_content.specs.declared.comparing.differences.Field.TheVariants as fields
use Rattle.mp4_content.specs.declared.comparing.differences.Value.{Value}
use Rattle.mp4_content.specs.declared.comparing.differences.Value.TheVariants.{Number, Signed, Byte}
use Rattle.mp4_content.specs.declared.comparing.differences.Difference.{Difference}
use Rattle.mp4_content.proofs.ComparisonValues.{same_value_is_equal, all_good}
use Rattle.mp4_content.proofs.ComparisonGroups.{IsMap, key_field, at_keys}
use Rattle.mp4_content.proofs.ComparisonKeys.{keys_turned}
use Rattle.mp4_content.proofs.ComparisonWhole.{HasMap, IsPlain, IsAllPlain, all_plain}

-- ---- single values

same_tests : (b c : Bool) → (b ≡ true → c ≡ true) → (c ≡ true → b ≡ true) → b ≡ c
same_tests true c f g = sym (f refl)
same_tests false true f g = g refl
same_tests false false f g = refl

same_turned : (l r : Value) → same_value l r ≡ same_value r l
same_turned l r = same_tests (same_value l r) (same_value r l) (λ e. (same_value_is_equal r l).1 (sym ((same_value_is_equal l r).0 e))) (λ e. (same_value_is_equal l r).1 (sym ((same_value_is_equal r l).0 e)))

numbers_turned : (m n : ℕ) → (m == n) ≡ (n == m)
numbers_turned m n = same_tests (m == n) (n == m) (λ e. eq-eqb n m (sym (eqb-true m n e))) (λ e. eq-eqb m n (sym (eqb-true n m e)))

differ_by : (of : Subject) (field : Field) (l r : Value) (b : Bool) → map swapped (if b then [] else record { subject = of; field = field; left = l; right = r } ∷ []) ≡ (if b then [] else record { subject = of; field = field; left = r; right = l } ∷ [])
differ_by of field l r true = refl
differ_by of field l r false = refl

differ_turned : (of : Subject) (field : Field) (l r : Value) → map swapped (differ of field l r) ≡ differ of field r l
unfolding differ
differ_turned of field l r = differ_by of field l r (same_value l r) ∙ ap (λ (b : Bool). if b then [] else record { subject = of; field = field; left = r; right = l } ∷ []) (same_turned l r)

-- ---- bytes

first_by : (of : Subject) (field : ℕ → Field) (n x y : ℕ) (xs ys : List ℕ) (b : Bool) → map swapped (byte_at of field (first_unequal (suc n) xs ys)) ≡ byte_at of field (first_unequal (suc n) ys xs)
    → map swapped (byte_at of field (if b then first_unequal (suc n) xs ys else Some (n, x, y))) ≡ byte_at of field (if b then first_unequal (suc n) ys xs else Some (n, y, x))
first_by of field n x y xs ys true e = e
first_by of field n x y xs ys false e = differ_turned of (field (n + 1)) (Byte x) (Byte y)

first_turned : (of : Subject) (field : ℕ → Field) (n : ℕ) (xs ys : List ℕ) → map swapped (byte_at of field (first_unequal n xs ys)) ≡ byte_at of field (first_unequal n ys xs)
first_turned of field n [] [] = refl
first_turned of field n [] (y ∷ ys) = refl
first_turned of field n (x ∷ xs) [] = refl
first_turned of field n (x ∷ xs) (y ∷ ys) =
    first_by of field n x y xs ys (x == y) (first_turned of field (suc n) xs ys)
    ∙ ap (λ (b : Bool). byte_at of field (if b then first_unequal (suc n) ys xs else Some (n, y, x))) (numbers_turned x y)

bytes_by : (of : Subject) (field : ℕ → ℕ → Field) (m n : ℕ) (xs ys : List ℕ) (b : Bool) → (m == n) ≡ b
    → map swapped (if b then byte_at of (λ (k : ℕ). field k m) (first_unequal 0 xs ys) else []) ≡ (if b then byte_at of (λ (k : ℕ). field k n) (first_unequal 0 ys xs) else [])
bytes_by of field m n xs ys true e = first_turned of (λ (k : ℕ). field k m) 0 xs ys ∙ ap (λ (j : ℕ). byte_at of (λ (k : ℕ). field k j) (first_unequal 0 ys xs)) (eqb-true m n e)
bytes_by of field m n xs ys false e = refl

-- the place of a byte is said with the length that both have
bytes_turned : (of : Subject) (field : ℕ → ℕ → Field) (xs ys : List ℕ)
    → map swapped (bytes_differ of (λ (k : ℕ). field k (length xs)) (length xs) (length ys) xs ys) ≡ bytes_differ of (λ (k : ℕ). field k (length ys)) (length ys) (length xs) ys xs
bytes_turned of field xs ys =
    bytes_by of field (length xs) (length ys) xs ys (length xs == length ys) refl
    ∙ ap (λ (b : Bool). if b then byte_at of (λ (k : ℕ). field k (length ys)) (first_unequal 0 ys xs) else []) (numbers_turned (length xs) (length ys))

-- ---- lists

each_turned : {A : Type 0} (Good : A → Type 0) (one : ℕ → A → A → List Difference) → ((n : ℕ) (x y : A) → Good x → Good y → map swapped (one n x y) ≡ one n y x)
    → (n : ℕ) (xs ys : List A) → AllByRecursion Good xs → AllByRecursion Good ys → map swapped (each_differ one n xs ys) ≡ each_differ one n ys xs
each_turned Good one h n [] [] g k = refl
each_turned Good one h n [] (y ∷ ys) g k = refl
each_turned Good one h n (x ∷ xs) [] g k = refl
each_turned Good one h n (x ∷ xs) (y ∷ ys) g k =
    map-append swapped (one n x y) (each_differ one (suc n) xs ys) ∙ (λ i. h n x y g.0 k.0 i ++ each_turned Good one h (suc n) xs ys g.1 k.1 i)

entries_turned : {A : Type 0} (one : ℕ → A → A → List Difference) → ((n : ℕ) (x y : A) → map swapped (one n x y) ≡ one n y x) → (n : ℕ) (xs ys : List A) → map swapped (each_differ one n xs ys) ≡ each_differ one n ys xs
entries_turned {A} one h n xs ys = each_turned (λ (x : A). Unit {0}) one (λ k x y g f. h k x y) n xs ys (all_good xs) (all_good ys)

-- ---- heads

module _ (of : Subject) where
  entry_bytes : (list : Entries) (n : ℕ) (xs ys : List ℕ) → map swapped (bytes_differ of (λ (k : ℕ). fields.Entry list n (parts.Byte k (length xs))) (length xs) (length ys) xs ys)
      ≡ bytes_differ of (λ (k : ℕ). fields.Entry list n (parts.Byte k (length ys))) (length ys) (length xs) ys xs
  entry_bytes list n xs ys = bytes_turned of (λ (k m : ℕ). fields.Entry list n (parts.Byte k m)) xs ys

  payload_turned : (list : Entries) (n : ℕ) (xs ys : List ℕ) → map swapped (payload_differences of list n xs ys) ≡ payload_differences of list n ys xs
  payload_turned list n xs ys = simp (map-append, differ_turned, entry_bytes)

  box_turned : (list : Entries) (n : ℕ) (a b : Kept) → map swapped (box_differences of list n a b) ≡ box_differences of list n b a
  box_turned list n a b = simp (map-append, differ_turned, entry_bytes)

  edit_turned : (n : ℕ) (a b : Edit) → map swapped (edit_differences of n a b) ≡ edit_differences of n b a
  edit_turned n a b = simp (map-append, differ_turned)

  matrix_turned : (xs ys : List ℤ) → map swapped (matrix_differences of xs ys) ≡ matrix_differences of ys xs
  matrix_turned xs ys = entries_turned (λ (n : ℕ) (x y : ℤ). signed of (fields.Matrix n) x y) (λ n x y. differ_turned of (fields.Matrix n) (Signed x) (Signed y)) 1 xs ys

  edits_turned : (xs ys : List Edit) → map swapped (each_differ (edit_differences of) 1 xs ys) ≡ each_differ (edit_differences of) 1 ys xs
  edits_turned xs ys = entries_turned (edit_differences of) edit_turned 1 xs ys

  boxes_turned : (list : Entries) (xs ys : List Kept) → map swapped (each_differ (box_differences of list) 1 xs ys) ≡ each_differ (box_differences of list) 1 ys xs
  boxes_turned list xs ys = entries_turned (box_differences of list) (box_turned list) 1 xs ys

  payloads_turned : (list : Entries) (xs ys : List (List ℕ)) → map swapped (each_differ (payload_differences of list) 1 xs ys) ≡ each_differ (payload_differences of list) 1 ys xs
  payloads_turned list xs ys = entries_turned (payload_differences of list) (payload_turned list) 1 xs ys

  head_turned : (a b : TrackHead) → map swapped (head_differences of a b) ≡ head_differences of b a
  head_turned a b = simp (map-append, differ_turned, entry_bytes, matrix_turned, edits_turned, boxes_turned, payloads_turned)

movie_turned : (a b : MovieHead) → map swapped (movie_differences a b) ≡ movie_differences b a
movie_turned a b = simp (map-append, differ_turned, matrix_turned, boxes_turned)

-- ---- samples

at_keys_turned : (of : Subject) (a b : Groups) (keys : List GroupKey) → map swapped (at_keys of a b keys) ≡ at_keys of b a keys
at_keys_turned of a b [] = refl
at_keys_turned of a b (key ∷ keys) =
    map-append swapped (numbers_differ of (key_field key) (index_at key a) (index_at key b)) (at_keys of a b keys)
    ∙ (λ i. differ_turned of (key_field key) (Number (index_at key a)) (Number (index_at key b)) i ++ at_keys_turned of a b keys i)

index_turned : (of : Subject) (a b : Groups) → IsMap a → IsMap b → map swapped (index_differences of a b) ≡ index_differences of b a
index_turned of a b g h = at_keys_turned of a b (keys_of_both a b) ∙ ap (at_keys of b a) (keys_turned a b g h)

sample_bytes : (of : Subject) (xs ys : List ℕ) → map swapped (bytes_differ of (λ (k : ℕ). fields.Byte k (length xs)) (length xs) (length ys) xs ys) ≡ bytes_differ of (λ (k : ℕ). fields.Byte k (length ys)) (length ys) (length xs) ys xs
sample_bytes of xs ys = bytes_turned of (λ (k m : ℕ). fields.Byte k m) xs ys

sample_turned : (track n : ℕ) (a b : Sample) → HasMap a → HasMap b → map swapped (sample_differences track n a b) ≡ sample_differences track n b a
sample_turned track n a b g h = simp (map-append) (rw (index_turned (subjects.Sample track n) a.groups b.groups g h) (simp (differ_turned, sample_bytes)))

-- ---- tracks, and the whole

joined_turned : {us vs : List Difference} (xs ys : List Difference) → map swapped xs ≡ us → map swapped ys ≡ vs → map swapped (xs ++ ys) ≡ us ++ vs
joined_turned xs ys e f = map-append swapped xs ys ∙ (λ i. e i ++ f i)

samples_turned : (track : ℕ) (xs ys : List Sample) → AllByRecursion HasMap xs → AllByRecursion HasMap ys → map swapped (each_differ (sample_differences track) 1 xs ys) ≡ each_differ (sample_differences track) 1 ys xs
samples_turned track xs ys g h = each_turned HasMap (sample_differences track) (sample_turned track) 1 xs ys g h

track_turned : (n : ℕ) (a b : Track) → IsPlain a → IsPlain b → map swapped (track_differences n a b) ≡ track_differences n b a
track_turned n a b g h =
    let of = subjects.Track n in
    let head = head_differences of a.head b.head in
    let start = numbers_differ of fields.Start a.start b.start in
    let count = numbers_differ of fields.Samples (length a.samples) (length b.samples) in
    let front = joined_turned head start (head_turned of a.head b.head) (differ_turned of fields.Start (Number a.start) (Number b.start)) in
    let counted = joined_turned (head ++ start) count front (differ_turned of fields.Samples (Number (length a.samples)) (Number (length b.samples))) in
    joined_turned (head ++ start ++ count) (each_differ (sample_differences n) 1 a.samples b.samples) counted (samples_turned n a.samples b.samples g.maps h.maps)

whole_turned : (p q : Presentation) → IsAllPlain p → IsAllPlain q → map swapped (differences p q) ≡ differences q p
whole_turned p q g h =
    let movie = movie_differences p.movie q.movie in
    let count = numbers_differ subjects.Movie fields.Tracks (length p.tracks) (length q.tracks) in
    let front = joined_turned movie count (movie_turned p.movie q.movie) (differ_turned subjects.Movie fields.Tracks (Number (length p.tracks)) (Number (length q.tracks))) in
    joined_turned (movie ++ count) (each_differ track_differences 1 p.tracks q.tracks) front (each_turned IsPlain track_differences track_turned 1 p.tracks q.tracks g.tracks h.tracks)

pub swapped_files_swap_values : SwappedFilesSwapValues
swapped_files_swap_values l p q v w = sym (whole_turned (remaining l p) (remaining l q) (all_plain l p v) (all_plain l q w))
