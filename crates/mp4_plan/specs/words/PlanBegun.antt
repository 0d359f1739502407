-- The walks over all pieces of what is left of a movie, before the first turn.
use Rattle.std.specs.Prelude.{◌≡◌, ℕ, List, length, map, None}
use Rattle.std.specs.List.{sum_by}
use Rattle.mp4_present.specs.format.Denotes.{FileTree}
use Rattle.mp4_present.specs.words.Movies.{MovieSeen}
use Rattle.mp4_content.specs.declared.content.Content.{Content}
use Rattle.mp4_present.specs.declared.track_info.TrackInfo.{TrackInfo}
use Rattle.mp4_content.specs.words.ComingLess.{left_samples}
use Rattle.mp4_content.specs.words.Contents.{tracks_left}
use Rattle.mp4_plan.specs.words.DueTracks.{IsDueAt}
use Rattle.mp4_plan.specs.words.Turns.{first_scale}
use Rattle.mp4_plan.specs.words.Writers.{AllBegin, AreWalksOf, first_dts, firsts}
use Rattle.mp4_plan.specs.declared.plan_walks.PlanWalks.{PlanWalks}
use Rattle.mp4_plan.specs.declared.schedule.Schedule.{Schedule}

-- before the first turn of what is left of the tracks of a movie
pub record IsNewSchedule (c : Content) (m : MovieSeen) (s : Schedule) : Type 0 where
  pub tracks : s.tracks ≡ length m.tracks
  pub first : s.first ≡ first_scale (tracks_left c.leaving c.scales.tracks.items m.tracks)
  pub left : s.left ≡ sum_by (λ (i : TrackInfo). i.samples) m.tracks
  pub track : s.track ≡ 0
  pub next : s.next ≡ None

-- a walk and a next sample for each track of the movie, and the first turn
pub record BeginsPlan (c : Content) (m : MovieSeen) (p : PlanWalks) : Type 0 where
  pub walks : AreWalksOf m p.walks.items
  pub nexts : length p.nexts.items ≡ length m.tracks
  pub schedule : IsNewSchedule c m p.schedule
  pub due : IsDueAt (tracks_left c.leaving c.scales.tracks.items m.tracks) p.nexts.items p.schedule
      p.due

-- all samples of the tracks are to come, and the first fragment begins with the first of them
pub record AreAllToCome (c : Content) (file : List ℕ) (tree : FileTree) (m : MovieSeen)
    (p : PlanWalks) : Type 0 where
  pub come : AllBegin c.leaving file tree m p.walks.items
  pub shown : p.nexts.items ≡ firsts (map (left_samples c.leaving file tree) tree.movie.tracks)
  pub from : p.schedule.from ≡ first_dts (map (left_samples c.leaving file tree) tree.movie.tracks)
