-- What differs between two heads, as they are.
use Rattle.std.specs.Prelude.{ℕ, ◌++◌, List, length}
use Rattle.mp4_head.specs.words.Seen.{media_seen, track_seen, movie_seen}
use Rattle.mp4_head.specs.declared.heads.Media.{Media}
use Rattle.mp4_head.specs.declared.heads.MovieHead.{MovieHead}
use Rattle.mp4_head.specs.declared.heads.TrackHead.{TrackHead}
use Rattle.mp4_content.specs.format.Differences.{numbers_differ, movie_differences, media_fields, media_lists, head_differences, list_differences}
use Rattle.mp4_content.specs.format.Reduced.{start_left}
use Rattle.mp4_content.specs.format.Timescales.{divided}
use Rattle.mp4_content.specs.words.Differing.{at_number}
use Rattle.mp4_content.specs.declared.comparing.entries.Spot.{Spot}
use Rattle.mp4_content.specs.declared.comparing.differences.Difference.{Difference}
use Rattle.mp4_content.specs.declared.comparing.differences.Entries.{Entries}
use Rattle.mp4_content.specs.declared.comparing.differences.Field.TheVariants as fields
use Rattle.mp4_content.specs.declared.comparing.tracks.Divisors.{Divisors}
use Rattle.mp4_content.specs.declared.comparing.differences.Subject.{Subject}
use Rattle.mp4_content.specs.declared.comparing.differences.Subject.TheVariants as subjects
use Rattle.mp4_content.specs.declared.without.Without.{Without}
use Rattle.mp4_present.specs.declared.track_info.TrackInfo.{TrackInfo}

-- two movies, and the numbers of their tracks
abbrev pub movies_differ : MovieHead → MovieHead → List Difference
movies_differ a b = movie_differences (movie_seen a) (movie_seen b)
    ++ numbers_differ subjects.Movie fields.Tracks (length a.tracks.items) (length b.tracks.items)

-- two media
abbrev pub media_differ : Subject → Media → Media → List Difference
media_differ of a b = media_fields of (media_seen a) (media_seen b)
    ++ media_lists of (media_seen a) (media_seen b)

-- the heads of two tracks with this number, when what is left of their samples begins, where their
-- times are divided by these, and how many there are
abbrev pub begun_differ : Without → Divisors → ℕ → TrackHead → TrackInfo → TrackHead → TrackInfo
    → List Difference
begun_differ l divisors number a info b other =
    head_differences (subjects.Track number) (track_seen a) (track_seen b)
    ++ numbers_differ (subjects.Track number) fields.Start
    (divided divisors.left (start_left l info.start))
    (divided divisors.right (start_left l other.start))
    ++ numbers_differ (subjects.Track number) fields.Samples info.samples other.samples

-- the number of entries, and the entries of one number
abbrev pub entries_differ : {A : Type 0} → (Spot → A → A → List Difference) → Subject → Entries
    → List A → List A → List Difference
entries_differ one of list xs ys = list_differences of list (at_number one of list) xs ys
