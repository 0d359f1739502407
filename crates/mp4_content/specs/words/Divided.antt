-- Heads of movies and of tracks whose times are divided.
use Rattle.std.specs.Prelude.{ℕ, suc, List, [], ◌∷◌, slice_get, unwrap_or}
use Rattle.mp4_head.specs.format.Head.{MovieHead, TrackHead}
use Rattle.mp4_content.specs.format.Reduced.{reduce_track_head}
use Rattle.mp4_content.specs.format.Timescales.{divided, head_by, movie_by}
use Rattle.mp4_content.specs.declared.without.Without.{Without}

abbrev pub divided_movie : Without → ℕ → MovieHead → MovieHead
divided_movie l divisor m = movie_by l (divided divisor) m

-- how long edits last by the first, and a track's own times by the second
abbrev pub divided_head : Without → ℕ → ℕ → TrackHead → TrackHead
divided_head l divisor own t = head_by l (divided divisor) (divided own) t

-- what divides the times of the track at this place, from 0: 1 where there are no more
abbrev pub divisor_at : List ℕ → ℕ → ℕ
divisor_at owns place = unwrap_or (slice_get owns place) 1

-- the same of heads of which the first stands at this place
abbrev pub divided_heads : Without → ℕ → List ℕ → ℕ → List TrackHead → List TrackHead
divided_heads l divisor owns place [] = []
divided_heads l divisor owns place (t ∷ heads) =
    divided_head l divisor (divisor_at owns place) t
    ∷ divided_heads l divisor owns (suc place) heads

-- what is left of the head of a track, whose times are divided so
abbrev pub remaining_head : Without → ℕ → ℕ → TrackHead → TrackHead
remaining_head l divisor own t = divided_head l divisor own (reduce_track_head l t)

-- the same of heads of tracks whose own times are divided by these, and where there are no more of
-- them by 1
abbrev pub remaining_heads : Without → ℕ → List ℕ → List TrackHead → List TrackHead
remaining_heads l divisor owns [] = []
remaining_heads l divisor [] (t ∷ heads) =
    remaining_head l divisor 1 t ∷ remaining_heads l divisor [] heads
remaining_heads l divisor (own ∷ owns) (t ∷ heads) =
    remaining_head l divisor own t ∷ remaining_heads l divisor owns heads
