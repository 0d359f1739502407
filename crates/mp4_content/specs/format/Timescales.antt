-- What is left of a presentation where it doesn't count in which timescale its times are said. The
-- times of a track are numbers over its timescale (8.4.2), how long edits last over the movie's
-- (8.2.2, 8.6.6): so two files can say the same times by other numbers. Here they are in lowest
-- terms.
use Rattle.std.specs.Prelude.{ℕ, zero, suc, ◌/◌, ◌%◌, ◌==◌, ◌&&◌, ◌||◌, Bool, if◌then◌else◌, List, [], ◌∷◌, ◌++◌, length, map, flat_map, ℤ, pos, negsuc, neg_ℤ, unsigned_abs}
use Rattle.mp4_head.specs.format.Head.{Edit, MovieHead, TrackHead}
use Rattle.mp4_present.specs.format.Presentation.{Sample, Track, Presentation}
use Rattle.mp4_content.specs.format.Reduced.{is_at_end, reduce}
use Rattle.mp4_content.specs.declared.without.Without.{Without}

-- ---- divisors

-- Euclid's algorithm, in at most so many steps
abbrev pub euclid : ℕ → ℕ → ℕ → ℕ
euclid zero a b = a
euclid (suc steps) a b = if b == 0 then a else euclid steps b (a % b)

-- the greatest common divisor of two numbers
abbrev pub common_divisor : ℕ → ℕ → ℕ
common_divisor a b = euclid b a b

-- the greatest common divisor of all these, whatever their signs: 0 of none, or of zeros alone
abbrev pub divisor_of : List ℤ → ℕ
divisor_of [] = 0
divisor_of (time ∷ times) = common_divisor (unsigned_abs time) (divisor_of times)

-- ---- times that count

-- A timescale counts where timing does. What doesn't count is 0, which any number divides.
abbrev pub counted_timescale : Without → ℕ → ℕ
counted_timescale l timescale = if l.timing then 0 else timescale

-- how long the sample of this number lasts, one of so many, is left out
abbrev pub leaves_duration : Without → ℕ → ℕ → Bool
leaves_duration l count n = l.timing || (l.ends && is_at_end count n)

abbrev pub counted_duration : Without → ℕ → ℕ → ℕ → ℕ
counted_duration l count n duration = if leaves_duration l count n then 0 else duration

-- durations and composition offsets of samples of which the first has this number
abbrev pub sample_times : Without → ℕ → ℕ → List Sample → List ℤ
sample_times l count n [] = []
sample_times l count n (s ∷ samples) = pos (counted_duration l count n s.duration) ∷ s.offset
    ∷ sample_times l count (suc n) samples

-- The media time of an edit (8.6.6): -1 marks an empty edit, and is no time. Below that it has no
-- meaning, and counts as 1: so the times of that track stay, and none of them becomes -1.
abbrev pub counted_media_time : ℤ → ℤ
counted_media_time (pos n) = pos n
counted_media_time (negsuc zero) = pos 0
counted_media_time (negsuc (suc n)) = pos 1

-- all times of a track
abbrev pub track_times : Without → Track → List ℤ
track_times l t = pos (counted_timescale l t.head.media.timescale) ∷ pos t.start
    ∷ (map (λ (e : Edit). counted_media_time e.media_time) t.head.edits
    ++ sample_times l (length t.samples) 0 t.samples)

-- how long the edits of tracks last
abbrev pub segment_times : List Track → List ℤ
segment_times tracks =
    flat_map (λ (t : Track). map (λ (e : Edit). pos e.segment_duration) t.head.edits) tracks

-- all times on the movie's time line
abbrev pub movie_times : Without → Presentation → List ℤ
movie_times l p = pos (counted_timescale l p.movie.timescale) ∷ segment_times p.tracks

-- ---- other numbers in their place

-- a number whose size is changed, and not its sign
abbrev pub sized : (ℕ → ℕ) → ℤ → ℤ
sized f (pos n) = pos (f n)
sized f (negsuc n) = neg_ℤ (pos (f (suc n)))

-- a timescale, where it counts
abbrev pub timescale_by : Without → (ℕ → ℕ) → ℕ → ℕ
timescale_by l f timescale = if l.timing then timescale else f timescale

-- a sample of this number, one of so many
abbrev pub sample_by : Without → (ℕ → ℕ) → ℕ → ℕ → Sample → Sample
sample_by l f count n s = record s {
  duration = if leaves_duration l count n then s.duration else f s.duration;
  offset = sized f s.offset;
}

-- samples of which the first has this number
abbrev pub samples_by : Without → (ℕ → ℕ) → ℕ → ℕ → List Sample → List Sample
samples_by l f count n [] = []
samples_by l f count n (s ∷ samples) = sample_by l f count n s
    ∷ samples_by l f count (suc n) samples

-- a media time, which below 0 stays
abbrev pub media_time_by : (ℕ → ℕ) → ℤ → ℤ
media_time_by f (pos n) = pos (f n)
media_time_by f (negsuc n) = negsuc n

abbrev pub edit_by : (ℕ → ℕ) → (ℕ → ℕ) → Edit → Edit
edit_by g f e = record e {
  segment_duration = g e.segment_duration;
  media_time = media_time_by f e.media_time;
}

-- the head of a movie
abbrev pub movie_by : Without → (ℕ → ℕ) → MovieHead → MovieHead
movie_by l f m = record m { timescale = timescale_by l f m.timescale }

-- the head of a track: the first function changes how long its edits last, the second all its own
-- times
abbrev pub head_by : Without → (ℕ → ℕ) → (ℕ → ℕ) → TrackHead → TrackHead
head_by l g f t = record t {
  edits = map (edit_by g f) t.edits;
  media = record t.media { timescale = timescale_by l f t.media.timescale };
}

-- a track, by the same two functions
abbrev pub track_by : Without → (ℕ → ℕ) → (ℕ → ℕ) → Track → Track
track_by l g f t = record t {
  head = head_by l g f t.head;
  start = f t.start;
  samples = samples_by l f (length t.samples) 0 t.samples;
}

-- ---- lowest terms

-- (of 0 by 0 it is 0)
abbrev pub divided : ℕ → ℕ → ℕ
divided divisor n = n / divisor

-- a track in a movie whose times are divided by this
abbrev pub lowest_track : Without → ℕ → Track → Track
lowest_track l divisor t = track_by l (divided divisor) (divided (divisor_of (track_times l t))) t

-- All times on the movie's time line are divided by the greatest common divisor of all of them, and
-- those of each track by that of its own. Where no track has edits the movie's timescale is 1 then.
abbrev pub lowest : Without → Presentation → Presentation
lowest l p = record {
  movie = movie_by l (divided (divisor_of (movie_times l p))) p.movie;
  tracks = map (lowest_track l (divisor_of (movie_times l p))) p.tracks;
}

-- What is left of a presentation where, if this is true, timescales don't count either. Where
-- timing doesn't count, edits that stay are in lowest terms by themselves.
abbrev pub scaled : Bool → Without → Presentation → Presentation
scaled b l p = if b then lowest l (reduce l p) else reduce l p
