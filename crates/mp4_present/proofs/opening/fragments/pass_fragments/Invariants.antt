use Rattle.std.proofs.Common.{◌≡◌, None, false, ℕ, ◌^◌, ◌≤◌, List, min, length, map, drop}
use Rattle.mp4_present.specs.words.Outline.{AreIn}
use Rattle.mp4_present.proofs.NextMoof.{Come}
use Rattle.mp4_boxes.specs.format.Box.{Box}
use Rattle.mp4_head.specs.format.Tree.{MovieTree}
use Rattle.mp4_present.specs.words.PassedMoofs.{IsBegun}
use Rattle.mp4_present.proofs.MoofsPassed.{IsUnderWay}
use Rattle.mp4_present.proofs.MoofsJudged.{JudgedUnderWay}
use Rattle.std.specs.Prelude.{IsTrue}
use Rattle.mp4_frag.specs.words.States.{HaveRoom}
use Rattle.mp4_frag.specs.words.Noted.{ids_of}
use Rattle.mp4_present.specs.words.OwnTrafs.{own_seen, none_noted}
use Rattle.mp4_present.specs.words.TrackPlaces.{ArePlacesOf}
use Rattle.mp4_present.proofs.TrafsNoted.{OwnsUnderWay}
use Rattle.mp4_present.proofs.FragmentPass.{Left}
use Rattle.mp4_present.proofs.ChecksCounted.{StepsLeft}
use Rattle.mp4_present.proofs.LooksCounted.{LooksLeft}
use Rattle.mp4_present.proofs.MoofBytes.{MoofsFit}
use Rattle.mp4_present.specs.words.NumbersTold.{LooksFit}
use Rattle.mp4_present.proofs.opening.fragments.pass_fragments.Given as goal

-- there is room for more samples, and the `moof`s to come are known
abbrev pub invariant-loop-at : goal.invariant-loop-at
invariant-loop-at g l =
    (next : ℕ) × record {
      honesty : g.S.Store.is_honest l.store ≡ g.S.Store.is_honest l.fn.store;
      file : g.S.Store.file l.store ≡ g.S.Store.file l.fn.store;
      reads : g.S.Store.read_failures l.store ≡ g.S.Store.read_failures l.fn.store;
      states : HaveRoom l.room l.states;
      few : l.room ≤ 2 ^ 24;
      longest : l.start.outline.now.longest ≤ length l.bytes;
      header : 16 ≤ length l.bytes;
      begin : AreIn (length (g.S.Store.file l.fn.store)) (drop l.at-index l.at-items);
      to_come : IsTrue (g.S.Store.is_honest l.fn.store) → Come (g.S.Store.file l.fn.store) next (drop l.at-index l.at-items);
      left : IsTrue (g.S.Store.is_honest l.fn.store) → Left (g.S.Store.file l.fn.store) next l.start.outline.now.longest;
      so : IsTrue (g.S.Store.is_honest l.fn.store) → (movie : MovieTree) (boxes : List Box) → IsBegun (g.S.Store.file l.fn.store) movie boxes l.fn.states l.fn.start.room → IsUnderWay (g.S.Store.file l.fn.store) movie boxes next l.start.outline.now.longest l.states l.room;
      first : IsTrue (g.S.Store.is_honest l.fn.store) → (movie : MovieTree) (boxes : List Box) → IsBegun (g.S.Store.file l.fn.store) movie boxes l.fn.states l.fn.start.room
          → JudgedUnderWay (g.S.Store.file l.fn.store) movie boxes next l.start.outline.now.longest l.states l.fn.start.room l.room;
      each : length l.tracks.own.items ≡ length l.fn.states;
      told : l.tracks.is_refused ≡ false;
      silent : l.tracks.told ≡ None;
      ids : ids_of l.states ≡ ids_of l.fn.states;
      places : ArePlacesOf (ids_of l.states) l.tracks.places;
      own : IsTrue (g.S.Store.is_honest l.fn.store) → (movie : MovieTree) (boxes : List Box) → IsBegun (g.S.Store.file l.fn.store) movie boxes l.fn.states l.fn.start.room → map own_seen l.fn.tracks.own.items ≡ map (λ _. none_noted) l.fn.states
          → OwnsUnderWay (g.S.Store.file l.fn.store) movie boxes next l.start.outline.now.longest l.states l.room (map own_seen l.tracks.own.items);
      work : IsTrue (g.S.Store.is_honest l.fn.store) → StepsLeft (g.S.Store.file l.fn.store) next l.fn.steps.passed l.steps.passed;
      looked : IsTrue (g.S.Store.is_honest l.fn.store) → LooksLeft (g.S.Store.file l.fn.store) next (min 1 (length l.fn.states)) l.fn.steps.looks l.steps.looks;
      looks : IsTrue (g.S.Store.is_honest l.fn.store) → LooksFit (length (g.S.Store.file l.fn.store)) next (min 1 (length l.fn.states)) l.fn.steps.looks l.steps.looks;
      fit : IsTrue (g.S.Store.is_honest l.fn.store) → MoofsFit (length (g.S.Store.file l.fn.store)) next l.room l.fn.steps.passed l.steps.passed;
    }
