use Rattle.std.proofs.Common.{◌≡◌, ◌+◌, ◌≤◌, length, take, true}
use Rattle.std.specs.Prelude.{IsTrue}
use Rattle.mp4_boxes.specs.format.Bytes.{sum_of}
use Rattle.mp4_present.specs.format.Denotes.{FileTree}
use Rattle.mp4_present.specs.words.OpenedMovie.{IsOpenedAs}
use Rattle.mp4_present.specs.words.WalkSteps.{walk_steps}
use Rattle.mp4_content.specs.words.Measuring.{measures}
use Rattle.mp4_content.specs.words.Scales.{AreScales}
use Rattle.mp4_content.proofs.MeasuredTracks.{AreSoFar}
use Rattle.mp4_content.proofs.measures.measure_all.Given as goal

-- the first tracks were measured, and took no more steps than walks over them
abbrev pub invariant-loop-track : goal.invariant-loop-track
invariant-loop-track g l = record {
  many : length l.of_tracks.items ≡ l.track;
  honesty : g.S.Store.is_honest l.store ≡ g.S.Store.is_honest l.fn.store;
  file : g.S.Store.file l.store ≡ g.S.Store.file l.fn.store;
  reads : g.S.Store.read_failures l.store ≡ g.S.Store.read_failures l.fn.store;
  looks : l.steps.looks ≡ l.fn.steps.looks;
  grows : l.fn.steps.passed ≤ l.steps.passed;
  measured : measures l.leaving ≡ true → IsTrue (g.S.Store.is_honest l.fn.store) → (tree : FileTree) (o : IsOpenedAs (g.S.Store.file l.fn.store) l.movie tree)
      → AreScales l.leaving (g.S.Store.file l.fn.store) tree l.scales → AreSoFar l.leaving (g.S.Store.file l.fn.store) l.movie tree o l.track l.of_tracks.items l.totals.items;
  work : IsTrue (g.S.Store.is_honest l.fn.store) → (tree : FileTree) → IsOpenedAs (g.S.Store.file l.fn.store) l.movie tree → l.steps.passed ≤ l.fn.steps.passed + sum_of (walk_steps tree) (take l.track tree.movie.tracks);
}
