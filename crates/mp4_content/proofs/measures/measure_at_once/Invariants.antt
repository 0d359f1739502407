use Rattle.std.proofs.Common.{◌≡◌, ℕ, List, length, false}
use Rattle.mp4_present.specs.format.Denotes.{FileTree}
use Rattle.mp4_present.specs.words.OpenedMovie.{IsOpenedAs}
use Rattle.mp4_content.specs.words.Measuring.{measures}
use Rattle.mp4_content.specs.words.Scales.{AreScales}
use Rattle.mp4_content.proofs.MeasuredTracks.{AreSoFar}
use Rattle.mp4_content.proofs.measures.measure_at_once.Given as goal

-- so many tracks are done
abbrev pub invariant-loop-track : goal.invariant-loop-track
invariant-loop-track l = record {
  many : length l.of_tracks.items ≡ l.track;
  measured : measures l.leaving ≡ false → (file : List ℕ) (tree : FileTree) (o : IsOpenedAs file l.movie tree) → AreScales l.leaving file tree l.scales → AreSoFar l.leaving file l.movie tree o l.track l.of_tracks.items l.totals.items;
}
