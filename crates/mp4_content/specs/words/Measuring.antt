-- What is left of all samples of a track together, found in a walk over them.
use Rattle.std.specs.Prelude.{◌≡◌, ℕ, ◌+◌, ◌-◌, ◌^◌, ◌&&◌, ◌||◌, not, nat_lt, min, Bool, true, if◌then◌else◌, List, [], ◌∷◌, ℤ, pos, negsuc}
use Rattle.mp4_tables.specs.declared.sample.SampleAt.{SampleAt}
use Rattle.mp4_head.specs.format.Tree.{TrackTree}
use Rattle.mp4_present.specs.format.Denotes.{FileTree}
use Rattle.mp4_present.specs.words.Movies.{MovieSeen}
use Rattle.mp4_present.specs.words.SamplesComing.{track_samples}
use Rattle.mp4_present.specs.words.WalkSteps.{walks_steps}
use Rattle.mp4_present.specs.declared.track_info.TrackInfo.{TrackInfo}
use Rattle.mp4_content.specs.declared.without.Without.{Without}
use Rattle.mp4_content.specs.words.ComingLess.{asks_first, cto_left, lasts_left, track_reduction, reductions_of}
use Rattle.mp4_content.specs.words.Scales.{scaling_steps}
use Rattle.mp4_content.specs.declared.measures.Measures.{Measures}
use Rattle.mp4_content.specs.declared.measures.Measuring.{Measuring}
use Rattle.mp4_content.specs.declared.measures.Total.{Total}
use Rattle.mp4_content.specs.declared.reduced.Reduction.{Reduction}

-- an offset fits its field
abbrev pub is_near : ℤ → Bool
is_near (pos n) = nat_lt n (2 ^ 31)
is_near (negsuc n) = nat_lt n (2 ^ 31)

abbrev pub no_total : Total
no_total = record { duration = 0; is_near = true }

-- with one more sample
abbrev pub total_with : Reduction → Total → SampleAt → Total
total_with r total s = record {
  duration = min (total.duration + lasts_left r s.number s.duration) (2 ^ 64 - 1);
  is_near = total.is_near && is_near (cto_left r s.cto);
}

abbrev pub measured_with : Measuring → SampleAt → Measuring
measured_with m s = record m { total = total_with m.reduction m.total s }

-- with some more
abbrev pub total_from : Reduction → Total → List SampleAt → Total
total_from r total [] = total
total_from r total (s ∷ samples) = total_from r (total_with r total s) samples

-- The samples of tracks are asked: what is left of them depends on the first of them, or on how
-- many there are, or their times are divided. Where timing doesn't count each lasts 1.
abbrev pub measures : Without → Bool
measures l = (asks_first l || l.timescales) && not l.timing

-- what is left of a track: by its samples, or where they needn't be asked as opening counted
abbrev pub track_total : Without → List ℕ → FileTree → TrackTree → TrackInfo → Total
track_total l file tree t info = if measures l
    then total_from (track_reduction l file tree t) no_total (track_samples tree t)
    else record { duration = info.duration; is_near = true }

abbrev pub AreTotals : Without → List ℕ → FileTree → List TrackTree → List TrackInfo
    → List Total → Type 0
AreTotals l file tree [] [] [] = Unit {0}
AreTotals l file tree (t ∷ trees) (info ∷ infos) (total ∷ totals) =
    (total ≡ track_total l file tree t info) × AreTotals l file tree trees infos totals
AreTotals l file tree _ _ _ = ⊥

-- all tracks are measured
pub record AreMeasured (l : Without) (file : List ℕ) (tree : FileTree) (m : MovieSeen)
    (x : Measures) : Type 0 where
  pub reductions : x.of_tracks.items ≡ reductions_of l file tree
  pub totals : AreTotals l file tree tree.movie.tracks m.tracks x.totals.items

-- in at most so many steps
abbrev pub measuring_steps : Without → FileTree → ℕ
measuring_steps l tree = scaling_steps l tree + (if measures l then walks_steps tree else 0)
