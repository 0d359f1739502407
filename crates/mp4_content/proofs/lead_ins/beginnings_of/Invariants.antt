use Rattle.std.proofs.Common.{◌≡◌, ◌+◌, ◌≤◌, length, map, take, Some}
use Rattle.std.specs.Prelude.{IsTrue}
use Rattle.mp4_boxes.specs.format.Bytes.{sum_of}
use Rattle.mp4_head.specs.format.Tree.{track_head_of}
use Rattle.mp4_head.specs.words.Seen.{track_seen}
use Rattle.mp4_present.specs.format.Denotes.{FileTree, presentation_of}
use Rattle.mp4_present.specs.words.OpenedMovie.{IsOpenedAs}
use Rattle.mp4_present.specs.words.WalkSteps.{walk_steps}
use Rattle.mp4_content.specs.words.Delays.{AllCanBegin, SayBeginnings}
use Rattle.mp4_content.proofs.lead_ins.beginnings_of.Given as goal

-- the beginnings of the first tracks are found, and took no more steps than walks over them
abbrev pub invariant-loop-track : goal.invariant-loop-track
invariant-loop-track g l = record {
  many : length l.found.items ≡ l.track;
  can : AllCanBegin l.found.items;
  honesty : g.S.Store.is_honest l.store ≡ g.S.Store.is_honest l.fn.store;
  file : g.S.Store.file l.store ≡ g.S.Store.file l.fn.store;
  reads : g.S.Store.read_failures l.store ≡ g.S.Store.read_failures l.fn.store;
  looks : l.steps.looks ≡ l.fn.steps.looks;
  grows : l.fn.steps.passed ≤ l.steps.passed;
  begin : IsTrue (g.S.Store.is_honest l.fn.store) → (tree : FileTree) (o : IsOpenedAs (g.S.Store.file l.fn.store) l.movie tree) → map track_seen l.heads ≡ map track_head_of tree.movie.tracks
      → SayBeginnings (take l.track (presentation_of (g.S.Store.file l.fn.store) tree).tracks) (Some l.found.items);
  work : IsTrue (g.S.Store.is_honest l.fn.store) → (tree : FileTree) → IsOpenedAs (g.S.Store.file l.fn.store) l.movie tree → l.steps.passed ≤ l.fn.steps.passed + sum_of (walk_steps tree) (take l.track tree.movie.tracks);
}
