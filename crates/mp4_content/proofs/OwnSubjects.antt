-- Differences are of the subject of which they are asked.
use Rattle.std.proofs.Common.{◌≡◌, ℕ, suc, Bool, true, false, if◌then◌else◌, List, [], ◌∷◌, ◌++◌, length, refl}
use Rattle.std.specs.Prelude.{◌==◌, Option, None, Some, ℤ}
use Rattle.std.specs.List.{AllByRecursion}
use Rattle.mp4_boxes.proofs.Among.{all_append}
use Rattle.mp4_head.specs.format.Head.{Kept, Edit, Media, TrackHead, MovieHead}
use Rattle.mp4_store.specs.words.Device.{range}
use Rattle.mp4_tables.specs.declared.keys.GroupKey.{GroupKey}
use Rattle.mp4_tables.specs.declared.keys.Keys.{Keys}
use Rattle.mp4_tables.specs.declared.sample.SampleAt.{SampleAt}
use Rattle.mp4_content.specs.format.Differences.{same_value, differ, signed, first_unequal, byte_at, bytes_differ, each_differ, payload_differences, list_differences, box_differences, kept_differences, edit_differences, matrix_differences, track_fields, track_layers, track_shape, track_sizes, media_lists, head_differences, movie_differences}
use Rattle.mp4_content.specs.words.Differing.{group_differences, pair_differences}
use Rattle.mp4_content.specs.declared.comparing.pairing.Pairing.{Pairing}
use Rattle.mp4_content.specs.declared.comparing.differences.Subject.{Subject}
use Rattle.mp4_content.specs.declared.comparing.differences.Subject.TheVariants as subjects
use Rattle.mp4_content.specs.declared.comparing.differences.Entries.{Entries}
use Rattle.mp4_content.specs.declared.comparing.differences.Entries.TheVariants as entries
use Rattle.mp4_content.specs.declared.comparing.differences.Part.TheVariants as parts
use Rattle.mp4_content.specs.declared.comparing.differences.Field.{Field}
use Rattle.mp4_content.specs.declared.comparing.differences.Field.TheVariants as fields
use Rattle.mp4_content.specs.declared.comparing.differences.Value.{Value}
use Rattle.mp4_content.specs.declared.comparing.differences.Difference.{Difference}

abbrev pub AreOf : Subject → List Difference → Type 0
AreOf of ds = AllByRecursion (λ (d : Difference). d.subject ≡ of) ds

module _ (of : Subject) where
  pub both_of : (xs ys : List Difference) → AreOf of xs → AreOf of ys → AreOf of (xs ++ ys)
  both_of xs ys h k = all_append (λ (d : Difference). d.subject ≡ of) xs ys h k

  -- ---- values, and lists

  pub value_of : (field : Field) (left right : Value) → AreOf of (differ of field left right)
  unfolding differ
  value_of field left right = by (same_value left right)
    where
      by : (b : Bool) → AreOf of (if b then [] else record { subject = of; field = field; left = left; right = right } ∷ [])
      by true = tt
      by false = (refl, tt)

  byte_of : (field : ℕ → Field) (found : Option (ℕ × ℕ × ℕ)) → AreOf of (byte_at of field found)
  byte_of field None = tt
  byte_of field (Some found) = value_of _ _ _

  pub bytes_of : (field : ℕ → Field) (m n : ℕ) (xs ys : List ℕ) → AreOf of (bytes_differ of field m n xs ys)
  bytes_of field m n xs ys = by (m == n)
    where
      by : (b : Bool) → AreOf of (if b then byte_at of field (first_unequal 0 xs ys) else [])
      by true = byte_of field (first_unequal 0 xs ys)
      by false = tt

  each_of : {A : Type 0} (one : ℕ → A → A → List Difference) → ((n : ℕ) (x y : A) → AreOf of (one n x y)) → (n : ℕ) (xs ys : List A) → AreOf of (each_differ one n xs ys)
  each_of one h n [] ys = tt
  each_of one h n (x ∷ xs) [] = tt
  each_of one h n (x ∷ xs) (y ∷ ys) = both_of (one n x y) (each_differ one (suc n) xs ys) (h n x y) (each_of one h (suc n) xs ys)

  list_of : {A : Type 0} (list : Entries) (one : ℕ → A → A → List Difference) → ((n : ℕ) (x y : A) → AreOf of (one n x y)) → (xs ys : List A) → AreOf of (list_differences of list one xs ys)
  list_of list one h xs ys = both_of _ _ (value_of _ _ _) (each_of one h 1 xs ys)

  payload_of : (list : Entries) (n : ℕ) (xs ys : List ℕ) → AreOf of (payload_differences of list n xs ys)
  payload_of list n xs ys = both_of _ _ (value_of _ _ _) (bytes_of (λ (k : ℕ). fields.Entry list n (parts.Byte k (length xs))) (length xs) (length ys) xs ys)

  box_of : (list : Entries) (n : ℕ) (a b : Kept) → AreOf of (box_differences of list n a b)
  box_of list n a b = both_of _ _ (value_of _ _ _) (payload_of list n a.payload b.payload)

  edit_of : (n : ℕ) (a b : Edit) → AreOf of (edit_differences of n a b)
  edit_of n a b =
      both_of _ _ (both_of _ _ (value_of _ _ _) (value_of _ _ _)) (both_of _ _ (value_of _ _ _) (value_of _ _ _))

  pub matrix_of : (xs ys : List ℤ) → AreOf of (matrix_differences of xs ys)
  matrix_of xs ys = each_of (λ (n : ℕ) (x y : ℤ). signed of (fields.Matrix n) x y) (λ n x y. value_of _ _ _) 1 xs ys

  pub kept_of : (xs ys : List Kept) → AreOf of (kept_differences of xs ys)
  kept_of xs ys = list_of entries.Kept (box_differences of entries.Kept) (box_of entries.Kept) xs ys

  -- ---- heads

  media_of : (a b : Media) → AreOf of (media_lists of a b)
  media_of a b =
      both_of _ _
      (both_of _ _
      (both_of _ _ (payload_of entries.Handler 1 a.handler b.handler)
      (list_of entries.ExtendedLanguages (payload_differences of entries.ExtendedLanguages) (payload_of entries.ExtendedLanguages) a.extended_languages b.extended_languages))
      (box_of entries.MediaHeader 1 a.header b.header))
      (list_of entries.Descriptions (box_differences of entries.Descriptions) (box_of entries.Descriptions) a.descriptions b.descriptions)

  two_of : (a b : Field) (v w v2 w2 : Value) → AreOf of (differ of a v v2 ++ differ of b w w2)
  two_of a b v w v2 w2 = both_of _ _ (value_of a v v2) (value_of b w w2)

  four_of : (a b c d : Field) (v w x y v2 w2 x2 y2 : Value) → AreOf of (differ of a v v2 ++ differ of b w w2 ++ differ of c x x2 ++ differ of d y y2)
  four_of a b c d v w x y v2 w2 x2 y2 = both_of _ _ (both_of _ _ (two_of a b v w v2 w2) (value_of c x x2)) (value_of d y y2)

  fields_of : (a b : TrackHead) → AreOf of (track_fields of a b ++ track_layers of a b ++ track_shape of a b ++ track_sizes of a b)
  fields_of a b =
      both_of _ _
      (both_of _ _ (both_of _ _ (four_of _ _ _ _ _ _ _ _ _ _ _ _) (two_of _ _ _ _ _ _)) (both_of _ _ (value_of _ _ _) (matrix_of a.matrix b.matrix)))
      (two_of _ _ _ _ _ _)

  pub head_of : (a b : TrackHead) → AreOf of (head_differences of a b)
  head_of a b =
      both_of _ _
      (both_of _ _
      (both_of _ _
      (both_of _ _ (both_of _ _ (fields_of a b) (list_of entries.Edits (edit_differences of) edit_of a.edits b.edits)) (kept_of a.kept b.kept))
      (four_of _ _ _ _ _ _ _ _ _ _ _ _))
      (media_of a.media b.media))
      (list_of entries.GroupDescriptions (payload_differences of entries.GroupDescriptions) (payload_of entries.GroupDescriptions) a.group_descriptions b.group_descriptions)

  movie_fields_of : (a b : Field) (c d e : Field) (v w x y z v2 w2 x2 y2 z2 : Value) → AreOf of (differ of a v v2 ++ differ of b w w2 ++ differ of c x x2 ++ (differ of d y y2 ++ differ of e z z2))
  movie_fields_of a b c d e v w x y z v2 w2 x2 y2 z2 = both_of _ _ (both_of _ _ (two_of a b v w v2 w2) (value_of c x x2)) (two_of d e y z y2 z2)

  -- ---- samples

  groups_of : (keys : List GroupKey) (left right : Keys) (a b : SampleAt) → AreOf of (group_differences of keys left a right b)
  groups_of [] left right a b = tt
  groups_of (key ∷ keys) left right a b = both_of _ _ (value_of _ _ _) (groups_of keys left right a b)

pub movie_of : (a b : MovieHead) → AreOf subjects.Movie (movie_differences a b)
movie_of a b =
    let of = subjects.Movie in
    both_of of _ _ (both_of of _ _ (movie_fields_of of _ _ _ _ _ _ _ _ _ _ _ _ _ _ _) (matrix_of of a.matrix b.matrix)) (kept_of of a.kept b.kept)

pub pair_of : (by : Pairing) (file other : List ℕ) (n : ℕ) (a b : SampleAt) → AreOf (subjects.Sample by.track n) (pair_differences by file other n a b)
pair_of by file other n a b =
    let of = subjects.Sample by.track n in
    both_of of _ _
    (both_of of _ _
    (both_of of _ _ (four_of of _ _ _ _ _ _ _ _ _ _ _ _) (groups_of of by.keys.items by.left by.right a b))
    (value_of of _ _ _))
    (bytes_of of (λ (k : ℕ). fields.Byte k a.size) a.size b.size (range file a.at a.size) (range other b.at a.size))
