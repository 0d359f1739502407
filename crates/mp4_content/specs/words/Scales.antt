-- By what the times of a movie's tracks are divided.
use Rattle.std.specs.Prelude.{◌≡◌, replicate, ℕ, if◌then◌else◌, List, [], ◌∷◌, length, map, flat_map, ℤ, pos, unsigned_abs}
use Rattle.mp4_head.specs.format.Head.{Edit, TrackHead}
use Rattle.mp4_head.specs.format.Tree.{TrackTree}
use Rattle.mp4_present.specs.format.Denotes.{FileTree, file_parts, presentation_of, track_of}
use Rattle.mp4_present.specs.words.WalkSteps.{walks_steps}
use Rattle.mp4_tables.specs.declared.sample.SampleAt.{SampleAt}
use Rattle.mp4_content.specs.format.Reduced.{offset_left, start_left}
use Rattle.mp4_content.specs.format.Remaining.{movie_divisor, track_divisor}
use Rattle.mp4_content.specs.format.Timescales.{common_divisor, counted_duration, counted_media_time, counted_timescale}
use Rattle.mp4_content.specs.declared.reduced.Reduction.{Reduction}
use Rattle.mp4_content.specs.declared.scales.Dividing.{Dividing}
use Rattle.mp4_content.specs.declared.scales.Scales.{Scales}
use Rattle.mp4_content.specs.declared.without.Without.{Without}

-- the times of each track
abbrev pub divisors_of : Without → List ℕ → FileTree → List ℕ
divisors_of l file tree =
    map (λ (t : TrackTree). track_divisor l (track_of file (file_parts tree) t)) tree.movie.tracks

-- times are divided by 1 alone
abbrev pub AreOnes : Scales → Type 0
AreOnes scales = (scales.movie ≡ 1)
    × (scales.tracks.items ≡ replicate (length scales.tracks.items) 1)

pub record AreScales (l : Without) (file : List ℕ) (tree : FileTree) (scales : Scales)
    : Type 0 where
  pub movie : scales.movie ≡ movie_divisor l (presentation_of file tree)
  pub tracks : scales.tracks.items ≡ divisors_of l file tree

-- in at most so many steps
abbrev pub scaling_steps : Without → FileTree → ℕ
scaling_steps l tree = if l.timescales then walks_steps tree else 0

-- ---- times one after the other

-- the greatest common divisor of a number and of all these
abbrev pub divisor_from : ℕ → List ℤ → ℕ
divisor_from found [] = found
divisor_from found (time ∷ times) = divisor_from (common_divisor (unsigned_abs time) found) times

-- the edits that are left
abbrev pub edits_left : Without → List Edit → List Edit
edits_left l edits = if l.edits then [] else edits

-- how long edits last
abbrev pub segments_of : List Edit → List ℤ
segments_of edits = map (λ (e : Edit). pos e.segment_duration) edits

-- their media times that count
abbrev pub media_times_of : List Edit → List ℤ
media_times_of edits = map (λ (e : Edit). counted_media_time e.media_time) edits

-- on the time line of a movie, of this timescale and with these tracks
abbrev pub movie_times_left : Without → ℕ → List TrackHead → List ℤ
movie_times_left l timescale heads = pos (counted_timescale l timescale)
    ∷ flat_map (λ (t : TrackHead). segments_of (edits_left l t.edits)) heads

-- of a track apart from its samples
abbrev pub head_times_left : Without → ℕ → ℕ → List Edit → List ℤ
head_times_left l timescale start edits = pos (counted_timescale l timescale)
    ∷ pos (start_left l start) ∷ media_times_of (edits_left l edits)

-- of samples that are left by this
abbrev pub sample_times_left : Reduction → List SampleAt → List ℤ
sample_times_left r [] = []
sample_times_left r (s ∷ samples) =
    pos (counted_duration r.leaving r.samples s.number s.duration)
    ∷ offset_left r.leaving r.offset s.cto ∷ sample_times_left r samples

-- with those of one more sample
abbrev pub divided_with : Dividing → SampleAt → Dividing
divided_with d s = record d {
  divisor = divisor_from d.divisor (sample_times_left d.reduction (s ∷ []));
}
