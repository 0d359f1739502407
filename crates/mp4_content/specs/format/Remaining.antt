-- What remains of a presentation: what is left of it, in lowest terms where it doesn't count in
-- which timescale times are said.
use Rattle.std.specs.Prelude.{ℕ, if◌then◌else◌, List, length, map}
use Rattle.std.specs.List.{AllByRecursion}
use Rattle.mp4_head.specs.format.Head.{MovieHead}
use Rattle.mp4_present.specs.format.Presentation.{Sample, Track, Presentation, IsInTime}
use Rattle.mp4_content.specs.format.Reduced.{HasNearOffsets, number_tracks, reduce, reduce_movie_head, reduce_samples, reduce_track}
use Rattle.mp4_content.specs.format.Timescales.{divided, divisor_of, movie_by, movie_times, samples_by, track_by, track_times}
use Rattle.mp4_content.specs.declared.without.Without.{Without}

-- By what times are divided of which this is the greatest common divisor: by 1 where timescales
-- count.
abbrev pub divisor_left : Without → ℕ → ℕ
divisor_left l divisor = if l.timescales then divisor else 1

-- the times of a track
abbrev pub track_divisor : Without → Track → ℕ
track_divisor l t = divisor_left l (divisor_of (track_times l (reduce_track l t)))

-- those on the movie's time line
abbrev pub movie_divisor : Without → Presentation → ℕ
movie_divisor l p = divisor_left l (divisor_of (movie_times l (reduce l p)))

-- what is left of the samples of a track, where its times are divided by this
abbrev pub divided_samples : Without → ℕ → Track → List Sample
divided_samples l own t = samples_by l (divided own) (length (reduce_samples l t.samples)) 0
    (reduce_samples l t.samples)

-- in lowest terms
abbrev pub remaining_samples : Without → Track → List Sample
remaining_samples l t = divided_samples l (track_divisor l t) t

-- what is left of a track in a movie, where its times are divided by the second, and those on the
-- movie's time line by the first
abbrev pub divided_track : Without → ℕ → ℕ → Track → Track
divided_track l divisor own t = track_by l (divided divisor) (divided own) (reduce_track l t)

abbrev pub remaining_track : Without → ℕ → Track → Track
remaining_track l divisor t = divided_track l divisor (track_divisor l t) t

abbrev pub remaining_movie : Without → ℕ → MovieHead → MovieHead
remaining_movie l divisor m = movie_by l (divided divisor) (reduce_movie_head l m)

-- what remains of a presentation
abbrev pub remaining : Without → Presentation → Presentation
remaining l p = record {
  movie = remaining_movie l (movie_divisor l p) p.movie;
  tracks = number_tracks l 1 (map (remaining_track l (movie_divisor l p)) p.tracks);
}

-- Each composition offset that remains fits its field.
abbrev pub RemainsInRange : Without → Presentation → Type 0
RemainsInRange l p = AllByRecursion
    (λ (t : Track). HasNearOffsets (remaining_track l (movie_divisor l p) t)) p.tracks

-- Its tracks are not too long, and their composition offsets fit: it has a normal form.
pub record RemainsInLimits (l : Without) (p : Presentation) : Type 0 where
  pub in_time : AllByRecursion (λ (t : Track).
      IsInTime (remaining_movie l (movie_divisor l p) p.movie).timescale
      (remaining_track l (movie_divisor l p) t)) p.tracks
  pub in_range : RemainsInRange l p
