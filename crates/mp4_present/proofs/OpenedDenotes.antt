-- An opened movie is one of the presentation that its file denotes.
use Rattle.std.proofs.Common.{List, ℕ, [], ◌∷◌, map}
use Rattle.std.specs.List.{AllZip}
use Rattle.mp4_head.specs.format.Tree.{TrackTree}
use Rattle.mp4_present.specs.format.Denotes.{FileTree, file_parts, track_of, presentation_of}
use Rattle.mp4_present.specs.words.Movies.{MovieSeen}
use Rattle.mp4_present.specs.words.OpenedMovie.{IsInfoOf, IsOpenedOwn, IsTrackIn, OpensAs}
use Rattle.mp4_present.specs.declared.track_info.TrackInfo.{TrackInfo}
use Rattle.mp4_present.proofs.ToldTrees.{file_denotes}

tracks_in : (file : List ℕ) (tree : FileTree) (ts : List TrackTree) (infos : List TrackInfo) → AllZip (IsInfoOf file tree) ts infos → AllZip IsTrackIn (map (track_of file (file_parts tree)) ts) infos
tracks_in file tree [] [] z = z
tracks_in file tree [] (info ∷ infos) z = absurd z
tracks_in file tree (t ∷ ts) [] z = absurd z
tracks_in file tree (t ∷ ts) (info ∷ infos) z = (
  record { id = z.0.id; timescale = z.0.timescale; start = z.0.start; samples = z.0.samples; duration = z.0.duration },
  tracks_in file tree ts infos z.1,
)

pub opened_denotes : (file : List ℕ) (m : MovieSeen) (tree : FileTree) → IsOpenedOwn file m tree → OpensAs file m
opened_denotes file m tree o = (
  presentation_of file tree,
  file_denotes file m tree o,
  record { tracks = tracks_in file tree tree.movie.tracks m.tracks o.opened.tracks; mehd = o.opened.mehd },
)
