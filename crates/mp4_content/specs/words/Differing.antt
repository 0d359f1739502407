-- What two presentations don't have in common.
use Rattle.std.specs.Prelude.{◌⊎◌, ℕ, Bool, true, false, List, [], ◌∷◌, ◌++◌, flat_map, slice_index, Option, None, Some, Result, IfErr}
use Rattle.mp4_boxes.specs.declared.refusal.Refusal.{Refusal}
use Rattle.mp4_boxes.specs.declared.refusal.Refusal.TheVariants as refusals
use Rattle.mp4_tables.specs.words.Keys.{key_seen, keys_seen, key_place}
use Rattle.mp4_tables.specs.declared.keys.GroupKey.{GroupKey}
use Rattle.mp4_tables.specs.declared.keys.Keys.{Keys}
use Rattle.mp4_tables.specs.declared.sample.SampleAt.{SampleAt}
use Rattle.mp4_content.specs.format.Differences.{differ, numbers_differ, signed, bytes_differ, each_differ}
use Rattle.mp4_content.specs.words.ComingLess.{cto_left, flags_left, lasts_left}
use Rattle.mp4_content.specs.declared.comparing.pairing.Pairing.{Pairing}
use Rattle.mp4_content.specs.declared.reduced.Reduction.{Reduction}
use Rattle.mp4_head.specs.format.Head.{Edit, Media, TrackHead, MovieHead}
use Rattle.mp4_content.specs.declared.comparing.entries.Spot.{Spot}
use Rattle.mp4_content.specs.declared.comparing.differences.Entries.{Entries}
use Rattle.mp4_content.specs.declared.comparing.differences.Part.TheVariants as parts
use Rattle.mp4_content.specs.declared.comparing.differences.Field.{Field}
use Rattle.mp4_content.specs.declared.comparing.differences.Value.{Value}
use Rattle.mp4_content.specs.declared.comparing.differences.Value.TheVariants.{Number, Signed}
use Rattle.mp4_content.specs.declared.comparing.differences.Subject.{Subject}
use Rattle.mp4_content.specs.declared.comparing.differences.Subject.TheVariants as subjects
use Rattle.mp4_content.specs.declared.comparing.differences.Field.TheVariants as fields
use Rattle.mp4_store.specs.words.Device.{HasRisen, range}
use Rattle.mp4_store.specs.declared.store.Store.{Ghosts as Store}
use Rattle.mp4_content.specs.declared.comparing.differences.Difference.{Difference}

-- the first that was taken, if there is one
abbrev pub as_list : Option Difference → List Difference
as_list None = []
as_list (Some d) = d ∷ []

-- there is none yet
abbrev pub is_none_yet : Option Difference → Bool
is_none_yet None = true
is_none_yet (Some d) = false

-- Why bytes of two files are not compared: a read of one of them failed. The numbers are counts of
-- failed reads, before and after.
abbrev pub RefusesEither : ℕ → ℕ → ℕ → ℕ → Refusal → Type 0
RefusesEither left left_after right right_after refusals.StoreFailed =
    HasRisen left left_after ⊎ HasRisen right right_after
RefusesEither left left_after right right_after _ = ⊥

-- Why two samples are not compared: also for want of memory, or since one of them doesn't lie in
-- its file any more.
abbrev pub RefusesSample : ℕ → ℕ → ℕ → ℕ → Refusal → Type 0
RefusesSample left left_after right right_after refusals.StoreFailed =
    HasRisen left left_after ⊎ HasRisen right right_after
RefusesSample left left_after right right_after refusals.StoreChanged = Unit {0}
RefusesSample left left_after right right_after refusals.Memory = Unit {0}
RefusesSample left left_after right right_after _ = ⊥

-- why it is refused: by how many reads of two stores had failed before, and have after it
abbrev pub RefusedBoth : {X Y R : Type 0} → Store X → X → X → Store Y → Y → Y → Result R Refusal
    → (ℕ → ℕ → ℕ → ℕ → Refusal → Type 0) → Type 0
RefusedBoth S a a_after T b b_after result why = IfErr result (why (S.read_failures a)
    (S.read_failures a_after) (T.read_failures b) (T.read_failures b_after))

-- ---- values of fields

-- a value of a field, where it differs
abbrev pub value_differs : Subject → ℕ → Field × Value → Field × Value → List Difference
value_differs of n x y = differ of x.0 x.1 y.1

-- of two lists of the same fields, each value that differs
abbrev pub values_differ : Subject → List (Field × Value) → List (Field × Value) → List Difference
values_differ of xs ys = each_differ (value_differs of) 1 xs ys

-- the fields of `mvhd` before its matrix
abbrev pub movie_values : MovieHead → List (Field × Value)
movie_values m = (fields.Creation, Number m.creation) ∷ (fields.Modification, Number m.modification)
    ∷ (fields.Timescale, Number m.timescale) ∷ (fields.Rate, Signed m.rate)
    ∷ (fields.Volume, Signed m.volume) ∷ []

-- the fields of `tkhd` before its matrix
abbrev pub track_values : TrackHead → List (Field × Value)
track_values t = (fields.Flags, Number t.flags) ∷ (fields.Creation, Number t.creation)
    ∷ (fields.Modification, Number t.modification) ∷ (fields.Id, Number t.id)
    ∷ (fields.Layer, Signed t.layer) ∷ (fields.AlternateGroup, Signed t.alternate_group)
    ∷ (fields.Volume, Signed t.volume) ∷ []

-- the fields of `tkhd` behind its matrix
abbrev pub size_values : TrackHead → List (Field × Value)
size_values t = (fields.Width, Number t.width) ∷ (fields.Height, Number t.height) ∷ []

-- the fields of `mdhd`
abbrev pub media_values : Media → List (Field × Value)
media_values m = (fields.MediaCreation, Number m.creation)
    ∷ (fields.MediaModification, Number m.modification)
    ∷ (fields.MediaTimescale, Number m.timescale) ∷ (fields.Language, Number m.language) ∷ []

-- the fields of an entry of `elst`
abbrev pub edit_values : Spot → Edit → List (Field × Value)
edit_values at e = (fields.Entry at.list at.number parts.SegmentDuration, Number e.segment_duration)
    ∷ (fields.Entry at.list at.number parts.MediaTime, Signed e.media_time)
    ∷ (fields.Entry at.list at.number parts.RateInteger, Signed e.rate_integer)
    ∷ (fields.Entry at.list at.number parts.RateFraction, Signed e.rate_fraction) ∷ []

-- what is said of each entry, by its number in a list
abbrev pub at_number : {A : Type 0} → (Spot → A) → Subject → Entries → ℕ → A
at_number one of list n = one (record { subject = of; list = list; number = n })

-- ---- samples

-- the index of a sample at a key of its track, 0 where that doesn't name it
abbrev pub index_in : Option ℕ → List ℕ → ℕ
index_in None groups = 0
index_in (Some place) groups = slice_index groups place

abbrev pub index_of : Keys → SampleAt → GroupKey → ℕ
index_of keys s key = index_in (key_place (key_seen key) (keys_seen keys)) s.groups

-- what is left by this of what a sample says before its indexes
abbrev pub sample_values : Reduction → SampleAt → List (Field × Value)
sample_values r s = (fields.Duration, Number (lasts_left r s.number s.duration))
    ∷ (fields.Offset, Signed (cto_left r s.cto))
    ∷ (fields.Flags, Number (flags_left r s.flags))
    ∷ (fields.Description, Number s.description) ∷ []

-- what differs of the indexes at these keys
abbrev pub group_differences : Subject → List GroupKey → Keys → SampleAt → Keys → SampleAt
    → List Difference
group_differences of keys left_keys a right_keys b = flat_map (λ (key : GroupKey).
    numbers_differ of (fields.Group key) (index_of left_keys a key) (index_of right_keys b key))
    keys

-- what differs between two samples apart from their bytes
abbrev pub differences_at : Pairing → Subject → SampleAt → SampleAt → List Difference
differences_at by of a b =
    numbers_differ of fields.Duration (lasts_left by.left_reduction a.number a.duration)
    (lasts_left by.right_reduction b.number b.duration)
    ++ signed of fields.Offset (cto_left by.left_reduction a.cto)
    (cto_left by.right_reduction b.cto)
    ++ numbers_differ of fields.Flags (flags_left by.left_reduction a.flags)
    (flags_left by.right_reduction b.flags)
    ++ numbers_differ of fields.Description a.description b.description
    ++ group_differences of by.keys.items by.left a by.right b
    ++ numbers_differ of fields.Size a.size b.size

-- the first byte that differs, of two samples of two files and of one size
abbrev pub sample_bytes_differ : Subject → List ℕ → SampleAt → List ℕ → SampleAt → List Difference
sample_bytes_differ of file a other b = bytes_differ of (λ (k : ℕ). fields.Byte k a.size) a.size
    b.size (range file a.at a.size) (range other b.at a.size)

-- what differs between two samples of two files, which have these numbers: also the first byte
abbrev pub pair_differences : Pairing → List ℕ → List ℕ → ℕ → SampleAt → SampleAt → List Difference
pair_differences by file other n a b = differences_at by (subjects.Sample by.track n) a b
    ++ bytes_differ (subjects.Sample by.track n) (λ (k : ℕ). fields.Byte k a.size) a.size b.size
    (range file a.at a.size) (range other b.at a.size)
