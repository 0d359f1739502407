-- What remains of an opened movie.
use Rattle.std.specs.Prelude.{◌≡◌, ℕ, suc, List, [], ◌∷◌, length, map}
use Rattle.mp4_boxes.specs.declared.refusal.Refusal.{Refusal}
use Rattle.mp4_boxes.specs.declared.refusal.Refusal.TheVariants as refusals
use Rattle.mp4_store.specs.declared.store.Store.{Ghosts as Store}
use Rattle.mp4_present.specs.format.Denotes.{FileTree, presentation_of}
use Rattle.mp4_present.specs.format.Presentation.{Presentation, movie_length}
use Rattle.mp4_present.specs.words.Movies.{MovieSeen}
use Rattle.mp4_present.specs.declared.track_info.TrackInfo.{TrackInfo}
use Rattle.mp4_content.specs.format.Reduced.{id_left, timescale_left}
use Rattle.mp4_content.specs.format.Remaining.{RemainsInLimits, RemainsInRange, remaining}
use Rattle.mp4_content.specs.format.Timescales.{divided, timescale_by}
use Rattle.mp4_content.specs.words.ComingLess.{reductions_of}
use Rattle.mp4_content.specs.words.LeftTimes.{MayBeLong}
use Rattle.mp4_content.specs.words.Opened.{OverOpened, RefusesPlan}
use Rattle.mp4_content.specs.words.Scales.{AreScales}
use Rattle.mp4_content.specs.declared.content.Content.{Content}
use Rattle.mp4_content.specs.declared.tracks_left.TrackLeft.{TrackLeft}
use Rattle.mp4_content.specs.declared.without.Without.{Without}

-- what remains of the track at this place in numbers, whose times are divided by this: its ID and
-- its timescale
abbrev pub info_left : Without → ℕ → ℕ → TrackInfo → TrackInfo
info_left l place divisor info = record info {
  id = id_left l place info.id;
  timescale = timescale_by l (divided divisor) (timescale_left l info.timescale);
}

-- the same of tracks of which the first stands at this place, whose times are divided by these, and
-- where there are no more of them by 1
abbrev pub infos_from : Without → ℕ → List ℕ → List TrackInfo → List TrackInfo
infos_from l place divisors [] = []
infos_from l place [] (info ∷ infos) =
    info_left l place 1 info ∷ infos_from l (suc place) [] infos
infos_from l place (divisor ∷ divisors) (info ∷ infos) =
    info_left l place divisor info ∷ infos_from l (suc place) divisors infos

abbrev pub infos_left : Without → List ℕ → List TrackInfo → List TrackInfo
infos_left l divisors infos = infos_from l 1 divisors infos

-- those of these numbers that pieces ask for
abbrev pub numbers_of : TrackInfo → TrackLeft
numbers_of info = record {
  id = info.id;
  timescale = info.timescale;
  samples = info.samples;
  bytes = info.bytes;
}

abbrev pub tracks_left : Without → List ℕ → List TrackInfo → List TrackLeft
tracks_left l divisors infos = map numbers_of (infos_left l divisors infos)

-- what remains of this movie
pub record IsContentOf (m : MovieSeen) (c : Content) : Type 0 where
  pub many : length c.of_tracks.items ≡ length m.tracks
  pub tracks : c.tracks.items ≡ tracks_left c.leaving c.scales.tracks.items m.tracks

-- what remains of the presentation that a file denotes
abbrev pub content_left : Content → List ℕ → FileTree → Presentation
content_left c file tree = remaining c.leaving (presentation_of file tree)

-- what remains of the samples of this file, and how long all of it is: it has a normal form
pub record IsContentOver (file : List ℕ) (tree : FileTree) (c : Content) : Type 0 where
  pub scales : AreScales c.leaving file tree c.scales
  pub reductions : c.of_tracks.items ≡ reductions_of c.leaving file tree
  pub in_limits : RemainsInLimits c.leaving (presentation_of file tree)
  pub length : c.length ≡ movie_length (content_left c file tree)

-- Why what is left of a movie is not made. The numbers are counts of failed reads, before and
-- after.
abbrev pub RefusesLeft : Without → ℕ → ℕ → Refusal → Type 0
RefusesLeft l reads reads_after (refusals.Fault f) = MayBeLong l f
RefusesLeft l reads reads_after r = RefusesPlan reads reads_after r

-- over an honest store that has the file from which the movie was opened, where the samples of its
-- tracks are left by these, their times divided by these, and the offsets that remain fit: it is so
-- of it
abbrev pub OverContent : {X : Type 0} → Store X → X → MovieSeen → Content
    → (List ℕ → FileTree → Type 0) → Type 0
OverContent S store m c P = OverOpened S store m (λ file tree.
    AreScales c.leaving file tree c.scales
    → c.of_tracks.items ≡ reductions_of c.leaving file tree
    → RemainsInRange c.leaving (presentation_of file tree) → P file tree)
