-- What two presentations don't have in common: value after value, in the order of the standard. A
-- count stands before the entries that both have; of two payloads of one length the first byte that
-- differs is named.
use Rattle.std.specs.Prelude.{ℕ, suc, ◌+◌, ◌==◌, Bool, false, if◌then◌else◌, List, [], ◌∷◌, ◌++◌, length, Option, None, Some, ℤ, pos, negsuc, bytes_eq}
use Rattle.mp4_head.specs.format.Head.{Kept, Edit, Media, TrackHead, MovieHead}
use Rattle.mp4_content.specs.declared.comparing.differences.Subject.{Subject}
use Rattle.mp4_content.specs.declared.comparing.differences.Subject.TheVariants as subjects
use Rattle.mp4_content.specs.declared.comparing.differences.Entries.{Entries}
use Rattle.mp4_content.specs.declared.comparing.differences.Entries.TheVariants as entries
use Rattle.mp4_content.specs.declared.comparing.differences.Part.TheVariants as parts
use Rattle.mp4_content.specs.declared.comparing.differences.Field.{Field}
use Rattle.mp4_content.specs.declared.comparing.differences.Field.TheVariants as fields
use Rattle.mp4_content.specs.declared.comparing.differences.Value.{Value}
use Rattle.mp4_content.specs.declared.comparing.differences.Value.TheVariants.{Number, Signed, Kind, Byte}
use Rattle.mp4_content.specs.declared.comparing.differences.Difference.{Difference}

-- ---- single values

abbrev pub same_signed : ℤ → ℤ → Bool
same_signed (pos m) (pos n) = m == n
same_signed (negsuc m) (negsuc n) = m == n
same_signed _ _ = false

abbrev pub same_value : Value → Value → Bool
same_value (Number m) (Number n) = m == n
same_value (Signed m) (Signed n) = same_signed m n
same_value (Kind a) (Kind b) = bytes_eq a.0 b.0
same_value (Byte m) (Byte n) = m == n
same_value _ _ = false

unfoldable pub differ : Subject → Field → Value → Value → List Difference
differ of field left right = if same_value left right then []
    else record { subject = of; field = field; left = left; right = right } ∷ []

abbrev pub numbers_differ : Subject → Field → ℕ → ℕ → List Difference
numbers_differ of field m n = differ of field (Number m) (Number n)

abbrev pub signed : Subject → Field → ℤ → ℤ → List Difference
signed of field m n = differ of field (Signed m) (Signed n)

-- ---- bytes

-- where bytes first differ, counted from a number on, and both of them
abbrev pub first_unequal : ℕ → List ℕ → List ℕ → Option (ℕ × ℕ × ℕ)
first_unequal n [] ys = None
first_unequal n (x ∷ xs) [] = None
first_unequal n (x ∷ xs) (y ∷ ys) = if x == y then first_unequal (suc n) xs ys else Some (n, x, y)

-- these bytes; the field says which they are, from 1
abbrev pub byte_at : Subject → (ℕ → Field) → Option (ℕ × ℕ × ℕ) → List Difference
byte_at of field None = []
byte_at of field (Some found) = differ of (field (found.0 + 1)) (Byte found.1) (Byte found.2)

-- the first, of bytes of one number
abbrev pub bytes_differ : Subject → (ℕ → Field) → ℕ → ℕ → List ℕ → List ℕ → List Difference
bytes_differ of field m n xs ys = if m == n then byte_at of field (first_unequal 0 xs ys) else []

-- the length, or the first byte
abbrev pub payload_differences : Subject → Entries → ℕ → List ℕ → List ℕ → List Difference
payload_differences of list n xs ys = numbers_differ of (fields.Entry list n parts.Length)
    (length xs)
    (length ys)
    ++ bytes_differ of (λ (k : ℕ). fields.Entry list n (parts.Byte k (length xs))) (length xs)
    (length ys) xs ys

-- ---- lists

-- of the entries that both have, the first of which has this number
abbrev pub each_differ : {A : Type 0} → (ℕ → A → A → List Difference) → ℕ → List A → List A
    → List Difference
each_differ one n [] ys = []
each_differ one n (x ∷ xs) [] = []
each_differ one n (x ∷ xs) (y ∷ ys) = one n x y ++ each_differ one (suc n) xs ys

abbrev pub list_differences : {A : Type 0} → Subject → Entries → (ℕ → A → A → List Difference)
    → List A → List A → List Difference
list_differences of list one xs ys = numbers_differ of (fields.Count list) (length xs) (length ys)
    ++ each_differ one 1 xs ys

abbrev pub box_differences : Subject → Entries → ℕ → Kept → Kept → List Difference
box_differences of list n a b = differ of (fields.Entry list n parts.Kind)
    (Kind (record { 0 = a.kind })) (Kind (record { 0 = b.kind }))
    ++ payload_differences of list n a.payload b.payload

abbrev pub edit_times : Subject → ℕ → Edit → Edit → List Difference
edit_times of n a b =
    numbers_differ of (fields.Entry entries.Edits n parts.SegmentDuration) a.segment_duration
    b.segment_duration
    ++ signed of (fields.Entry entries.Edits n parts.MediaTime) a.media_time b.media_time

abbrev pub edit_rates : Subject → ℕ → Edit → Edit → List Difference
edit_rates of n a b =
    signed of (fields.Entry entries.Edits n parts.RateInteger) a.rate_integer b.rate_integer
    ++ signed of (fields.Entry entries.Edits n parts.RateFraction) a.rate_fraction b.rate_fraction

abbrev pub edit_differences : Subject → ℕ → Edit → Edit → List Difference
edit_differences of n a b = edit_times of n a b ++ edit_rates of n a b

abbrev pub matrix_differences : Subject → List ℤ → List ℤ → List Difference
matrix_differences of xs ys =
    each_differ (λ (n : ℕ) (x y : ℤ). signed of (fields.Matrix n) x y) 1 xs ys

-- ---- heads

abbrev pub movie_rates : MovieHead → MovieHead → List Difference
movie_rates a b = signed subjects.Movie fields.Rate a.rate b.rate
    ++ signed subjects.Movie fields.Volume a.volume b.volume

abbrev pub movie_fields : MovieHead → MovieHead → List Difference
movie_fields a b = numbers_differ subjects.Movie fields.Creation a.creation b.creation
    ++ numbers_differ subjects.Movie fields.Modification a.modification b.modification
    ++ numbers_differ subjects.Movie fields.Timescale a.timescale b.timescale
    ++ movie_rates a b ++ matrix_differences subjects.Movie a.matrix b.matrix

abbrev pub kept_differences : Subject → List Kept → List Kept → List Difference
kept_differences of xs ys = list_differences of entries.Kept (box_differences of entries.Kept) xs ys

-- of two movies apart from their tracks
abbrev pub movie_differences : MovieHead → MovieHead → List Difference
movie_differences a b = movie_fields a b ++ kept_differences subjects.Movie a.kept b.kept

abbrev pub track_fields : Subject → TrackHead → TrackHead → List Difference
track_fields of a b = numbers_differ of fields.Flags a.flags b.flags
    ++ numbers_differ of fields.Creation a.creation b.creation
    ++ numbers_differ of fields.Modification a.modification b.modification
    ++ numbers_differ of fields.Id a.id b.id

abbrev pub track_layers : Subject → TrackHead → TrackHead → List Difference
track_layers of a b = signed of fields.Layer a.layer b.layer
    ++ signed of fields.AlternateGroup a.alternate_group b.alternate_group

abbrev pub track_shape : Subject → TrackHead → TrackHead → List Difference
track_shape of a b = signed of fields.Volume a.volume b.volume
    ++ matrix_differences of a.matrix b.matrix

abbrev pub track_sizes : Subject → TrackHead → TrackHead → List Difference
track_sizes of a b = numbers_differ of fields.Width a.width b.width
    ++ numbers_differ of fields.Height a.height b.height

abbrev pub media_fields : Subject → Media → Media → List Difference
media_fields of a b = numbers_differ of fields.MediaCreation a.creation b.creation
    ++ numbers_differ of fields.MediaModification a.modification b.modification
    ++ numbers_differ of fields.MediaTimescale a.timescale b.timescale
    ++ numbers_differ of fields.Language a.language b.language

abbrev pub media_lists : Subject → Media → Media → List Difference
media_lists of a b = payload_differences of entries.Handler 1 a.handler b.handler
    ++ list_differences of entries.ExtendedLanguages
    (payload_differences of entries.ExtendedLanguages) a.extended_languages b.extended_languages
    ++ box_differences of entries.MediaHeader 1 a.header b.header
    ++ list_differences of entries.Descriptions (box_differences of entries.Descriptions)
    a.descriptions b.descriptions

-- of two tracks apart from their samples
abbrev pub head_differences : Subject → TrackHead → TrackHead → List Difference
head_differences of a b = track_fields of a b ++ track_layers of a b ++ track_shape of a b
    ++ track_sizes of a b
    ++ list_differences of entries.Edits (edit_differences of) a.edits b.edits
    ++ kept_differences of a.kept b.kept
    ++ media_fields of a.media b.media ++ media_lists of a.media b.media
    ++ list_differences of entries.GroupDescriptions
    (payload_differences of entries.GroupDescriptions) a.group_descriptions b.group_descriptions
