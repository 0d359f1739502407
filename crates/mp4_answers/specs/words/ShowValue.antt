-- What is shown of a movie whose tracks are known by their heads and by numbers.
use Rattle.std.specs.Prelude.{ℕ, List, [], ◌∷◌}
use Rattle.serde_json.specs.Data.{Data}
use Rattle.mp4_head.specs.format.Head.{MovieHead, TrackHead}
use Rattle.mp4_present.specs.declared.track_info.TrackInfo.{TrackInfo}
use Rattle.mp4_answers.specs.format.Texts.{track_data, movie_data}

-- a track by its head and its numbers
abbrev pub info_value : TrackHead → TrackInfo → Data
info_value head info = track_data head info.bytes info.duration info.samples info.start

-- tracks by their heads and, in the same order, their numbers
abbrev pub infos_values : List TrackHead → List TrackInfo → List Data
infos_values (head ∷ heads) (info ∷ infos) = info_value head info ∷ infos_values heads infos
infos_values _ _ = []

-- the value whose text is shown
abbrev pub ShowValue : MovieHead → List TrackHead → ℕ → List TrackInfo → Data
ShowValue movie heads mehd infos = movie_data mehd movie.timescale (infos_values heads infos)
