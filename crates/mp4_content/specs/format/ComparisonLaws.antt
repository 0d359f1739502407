-- Laws of the list of what two presentations don't have in common.
use Rattle.std.specs.Prelude.{◌≡◌, ◌↔◌, ℕ, zero, suc, ◌==◌, true, false, if◌then◌else◌, List, [], ◌∷◌, length, map, Option, None, Some, option_map, option_and_then, slice_get}
use Rattle.std.specs.List.{AllByRecursion}
use Rattle.mp4_tables.specs.format.Groups.{index_at}
use Rattle.mp4_head.specs.format.Head.{Kept, Edit, TrackHead}
use Rattle.mp4_present.specs.format.Presentation.{Sample, Track, Presentation, Valid}
use Rattle.mp4_content.specs.format.Remaining.{remaining}
use Rattle.mp4_content.specs.format.Differences.{same_value}
use Rattle.mp4_content.specs.format.Comparison.{differences}
use Rattle.mp4_content.specs.declared.comparing.differences.Subject.{Subject}
use Rattle.mp4_content.specs.declared.comparing.differences.Subject.TheVariants as subjects
use Rattle.mp4_content.specs.declared.comparing.differences.Entries.{Entries}
use Rattle.mp4_content.specs.declared.comparing.differences.Entries.TheVariants as entries
use Rattle.mp4_content.specs.declared.comparing.differences.Part.{Part}
use Rattle.mp4_content.specs.declared.comparing.differences.Part.TheVariants as parts
use Rattle.mp4_content.specs.declared.comparing.differences.Field.{Field}
use Rattle.mp4_content.specs.declared.comparing.differences.Field.TheVariants as fields
use Rattle.mp4_content.specs.declared.comparing.differences.Value.{Value}
use Rattle.mp4_content.specs.declared.comparing.differences.Value.TheVariants.{Number, Signed, Kind, Byte}
use Rattle.mp4_content.specs.declared.comparing.differences.Difference.{Difference}
use Rattle.mp4_content.specs.declared.without.Without.{Without}

-- ---- what a presentation says at a place

-- a member of a list, counted from 1
abbrev pub member : {A : Type 0} → List A → ℕ → Option A
member xs zero = None
member xs (suc k) = slice_get xs k

-- a byte, which one of how many
abbrev pub byte_value : List ℕ → ℕ → ℕ → Option Value
byte_value bytes k count =
    if length bytes == count then option_map (λ (n : ℕ). Byte n) (member bytes k) else None

abbrev pub payload_value : Part → List ℕ → Option Value
payload_value parts.Length payload = Some (Number (length payload))
payload_value (parts.Byte k count) payload = byte_value payload k count
payload_value _ payload = None

abbrev pub box_value : Part → Kept → Option Value
box_value parts.Kind box = Some (Kind (record { 0 = box.kind }))
box_value part box = payload_value part box.payload

abbrev pub edit_value : Part → Edit → Option Value
edit_value parts.SegmentDuration edit = Some (Number edit.segment_duration)
edit_value parts.MediaTime edit = Some (Signed edit.media_time)
edit_value parts.RateInteger edit = Some (Signed edit.rate_integer)
edit_value parts.RateFraction edit = Some (Signed edit.rate_fraction)
edit_value _ edit = None

abbrev pub movie_value : Presentation → Field → Option Value
movie_value p fields.Creation = Some (Number p.movie.creation)
movie_value p fields.Modification = Some (Number p.movie.modification)
movie_value p fields.Timescale = Some (Number p.movie.timescale)
movie_value p fields.Rate = Some (Signed p.movie.rate)
movie_value p fields.Volume = Some (Signed p.movie.volume)
movie_value p (fields.Matrix n) = option_map (λ m. Signed m) (member p.movie.matrix n)
movie_value p (fields.Count entries.Kept) = Some (Number (length p.movie.kept))
movie_value p (fields.Entry entries.Kept n part) =
    option_and_then (box_value part) (member p.movie.kept n)
movie_value p fields.Tracks = Some (Number (length p.tracks))
movie_value p _ = None

-- the lists of a track's head; `hdlr` and the media header are the only ones
abbrev pub count_value : TrackHead → Entries → ℕ
count_value t entries.Edits = length t.edits
count_value t entries.Kept = length t.kept
count_value t entries.Handler = 1
count_value t entries.ExtendedLanguages = length t.media.extended_languages
count_value t entries.MediaHeader = 1
count_value t entries.Descriptions = length t.media.descriptions
count_value t entries.GroupDescriptions = length t.group_descriptions

abbrev pub entry_value : TrackHead → Entries → ℕ → Part → Option Value
entry_value t entries.Edits n part = option_and_then (edit_value part) (member t.edits n)
entry_value t entries.Kept n part = option_and_then (box_value part) (member t.kept n)
entry_value t entries.Handler n part =
    option_and_then (payload_value part) (member (t.media.handler ∷ []) n)
entry_value t entries.ExtendedLanguages n part =
    option_and_then (payload_value part) (member t.media.extended_languages n)
entry_value t entries.MediaHeader n part =
    option_and_then (box_value part) (member (t.media.header ∷ []) n)
entry_value t entries.Descriptions n part =
    option_and_then (box_value part) (member t.media.descriptions n)
entry_value t entries.GroupDescriptions n part =
    option_and_then (payload_value part) (member t.group_descriptions n)

abbrev pub track_value : Track → Field → Option Value
track_value t fields.Flags = Some (Number t.head.flags)
track_value t fields.Creation = Some (Number t.head.creation)
track_value t fields.Modification = Some (Number t.head.modification)
track_value t fields.Id = Some (Number t.head.id)
track_value t fields.Layer = Some (Signed t.head.layer)
track_value t fields.AlternateGroup = Some (Signed t.head.alternate_group)
track_value t fields.Volume = Some (Signed t.head.volume)
track_value t (fields.Matrix n) = option_map (λ m. Signed m) (member t.head.matrix n)
track_value t fields.Width = Some (Number t.head.width)
track_value t fields.Height = Some (Number t.head.height)
track_value t fields.MediaCreation = Some (Number t.head.media.creation)
track_value t fields.MediaModification = Some (Number t.head.media.modification)
track_value t fields.MediaTimescale = Some (Number t.head.media.timescale)
track_value t fields.Language = Some (Number t.head.media.language)
track_value t (fields.Count list) = Some (Number (count_value t.head list))
track_value t (fields.Entry list n part) = entry_value t.head list n part
track_value t fields.Start = Some (Number t.start)
track_value t fields.Samples = Some (Number (length t.samples))
track_value t _ = None

abbrev pub sample_value : Sample → Field → Option Value
sample_value s fields.Duration = Some (Number s.duration)
sample_value s fields.Offset = Some (Signed s.offset)
sample_value s fields.Flags = Some (Number s.flags)
sample_value s fields.Description = Some (Number s.description)
sample_value s (fields.Group key) = Some (Number
    (index_at (record { kind = key.kind.0; parameter = key.parameter }) s.groups))
sample_value s fields.Size = Some (Number (length s.bytes))
sample_value s (fields.Byte k count) = byte_value s.bytes k count
sample_value s _ = None

-- the value there, if there is one
abbrev pub value_at : Presentation → Subject → Field → Option Value
value_at p subjects.Movie field = movie_value p field
value_at p (subjects.Track n) field =
    option_and_then (λ (t : Track). track_value t field) (member p.tracks n)
value_at p (subjects.Sample n k) field = option_and_then (λ (t : Track).
    option_and_then (λ (s : Sample). sample_value s field) (member t.samples k))
    (member p.tracks n)

-- ---- the laws

-- The test of two values passes exactly if they are equal.
abbrev pub SameValueIsEqual : Type 0
SameValueIsEqual = (a b : Value) → (same_value a b ≡ true) ↔ (a ≡ b)

-- its two values are not the same
abbrev pub IsOneDifference : Difference → Type 0
IsOneDifference d = same_value d.left d.right ≡ false

-- Each entry names two values that are not the same.
abbrev pub EachDifferenceIsOne : Type 0
EachDifferenceIsOne = (p q : Presentation) → AllByRecursion IsOneDifference (differences p q)

-- its values are what the two presentations say at its place
abbrev pub IsTheirs : Presentation → Presentation → Difference → Type 0
IsTheirs p q d = (value_at p d.subject d.field ≡ Some d.left)
    × (value_at q d.subject d.field ≡ Some d.right)

-- Each entry names what both say at its place.
abbrev pub DifferencesAreTheirs : Type 0
DifferencesAreTheirs = (p q : Presentation) → AllByRecursion (IsTheirs p q) (differences p q)

-- Nothing differs exactly if what remains of the two is the same.
abbrev pub NoDifferenceIsSame : Type 0
NoDifferenceIsSame = (l : Without) (p q : Presentation) → Valid p → Valid q
    → (differences (remaining l p) (remaining l q) ≡ []) ↔ (remaining l p ≡ remaining l q)

-- with its two values swapped
abbrev pub swapped : Difference → Difference
swapped d = record d { left = d.right; right = d.left }

-- With the two presentations swapped the same is listed, with values swapped.
abbrev pub SwappedFilesSwapValues : Type 0
SwappedFilesSwapValues = (l : Without) (p q : Presentation) → Valid p → Valid q
    → differences (remaining l q) (remaining l p)
    ≡ map swapped (differences (remaining l p) (remaining l q))
