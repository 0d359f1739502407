-- What two whole presentations don't have in common: the movies, the number of their tracks, and
-- then track by track, paired by their place, the heads, the start, the number of samples, and the
-- samples that both have.
use Rattle.std.specs.Prelude.{ℕ, nat_lt, if◌then◌else◌, List, [], ◌∷◌, ◌++◌, length, map, flat_map, fold}
use Rattle.mp4_tables.specs.format.Groups.{GroupKey, Groups, key_rank, same_key, index_at}
use Rattle.mp4_present.specs.format.Presentation.{Sample, Track, Presentation}
use Rattle.mp4_content.specs.format.Differences.{numbers_differ, signed, bytes_differ, each_differ, head_differences, movie_differences}
use Rattle.mp4_content.specs.declared.comparing.differences.Subject.{Subject}
use Rattle.mp4_content.specs.declared.comparing.differences.Subject.TheVariants as subjects
use Rattle.mp4_content.specs.declared.comparing.differences.Field.TheVariants as fields
use Rattle.mp4_content.specs.declared.comparing.differences.Difference.{Difference}

-- ---- sample groups

-- keys in their order, each once, and one more
abbrev pub with_key : List GroupKey → GroupKey → List GroupKey
with_key [] key = key ∷ []
with_key (first ∷ keys) key = if nat_lt (key_rank key) (key_rank first) then key ∷ first ∷ keys
    else if same_key key first then first ∷ keys else first ∷ with_key keys key

-- the keys at which one of two samples is in a group, in their order, each once
abbrev pub keys_of_both : Groups → Groups → List GroupKey
keys_of_both a b = fold with_key [] (map (λ group. group.0) a ++ map (λ group. group.0) b)

abbrev pub index_differences : Subject → Groups → Groups → List Difference
index_differences of a b = flat_map (λ (key : GroupKey). numbers_differ of
    (fields.Group (record { kind = record { 0 = key.kind }; parameter = key.parameter }))
    (index_at key a) (index_at key b)) (keys_of_both a b)

-- ---- samples

abbrev pub value_differences : Subject → Sample → Sample → List Difference
value_differences of a b = numbers_differ of fields.Duration a.duration b.duration
    ++ signed of fields.Offset a.offset b.offset
    ++ numbers_differ of fields.Flags a.flags b.flags
    ++ numbers_differ of fields.Description a.description b.description
    ++ index_differences of a.groups b.groups

-- the size, or the first byte
abbrev pub byte_differences : Subject → List ℕ → List ℕ → List Difference
byte_differences of xs ys = numbers_differ of fields.Size (length xs) (length ys)
    ++ bytes_differ of (λ (k : ℕ). fields.Byte k (length xs)) (length xs) (length ys) xs ys

abbrev pub sample_differences : ℕ → ℕ → Sample → Sample → List Difference
sample_differences track n a b = value_differences (subjects.Sample track n) a b
    ++ byte_differences (subjects.Sample track n) a.bytes b.bytes

-- ---- tracks, and movies

abbrev pub track_differences : ℕ → Track → Track → List Difference
track_differences n a b = head_differences (subjects.Track n) a.head b.head
    ++ numbers_differ (subjects.Track n) fields.Start a.start b.start
    ++ numbers_differ (subjects.Track n) fields.Samples (length a.samples) (length b.samples)
    ++ each_differ (sample_differences n) 1 a.samples b.samples

-- what two presentations don't have in common, in order
abbrev pub differences : Presentation → Presentation → List Difference
differences p q = movie_differences p.movie q.movie
    ++ numbers_differ subjects.Movie fields.Tracks (length p.tracks) (length q.tracks)
    ++ each_differ track_differences 1 p.tracks q.tracks
