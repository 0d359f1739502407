use Rattle.std.specs.Prelude.{IsTrue}
use Rattle.std.proofs.Common.{◌≡◌, ◌+◌, ◌≤◌, length}
use Rattle.mp4_present.specs.format.Denotes.{FileTree, presentation_of}
use Rattle.mp4_present.specs.words.OpenedMovie.{IsOpenedAs}
use Rattle.mp4_plan.specs.words.Turns.{IsSomeLeft, movie_turns, turns_left}
use Rattle.mp4_content.specs.words.Contents.{tracks_left}
use Rattle.mp4_plan.specs.words.DueTracks.{IsDueAt}
use Rattle.mp4_plan.specs.words.Writers.{AreWalksOf}
use Rattle.mp4_content.specs.words.Scales.{AreScales}
use Rattle.mp4_content.specs.words.ComingLess.{reductions_of}
use Rattle.mp4_content.specs.format.Remaining.{RemainsInRange}
use Rattle.mp4_plan.proofs.PlannedTurns.{IsLength}
use Rattle.mp4_present.specs.words.WalkSteps.{walks_steps}
use Rattle.mp4_plan.specs.words.WriterSteps.{AllTakeOn}
use Rattle.mp4_plan.proofs.piece_totals.pieces_len.Given as goal

-- the walks go on, what was passed is planned, and they took no more steps than they may
abbrev pub invariant-loop-turn : goal.invariant-loop-turn
invariant-loop-turn g l =
    AreWalksOf l.movie l.plan.walks.items
    × (l.plan.schedule.tracks ≡ length l.movie.tracks)
    × (g.S.Store.file l.store ≡ g.S.Store.file l.fn.store)
    × (g.S.Store.read_failures l.store ≡ g.S.Store.read_failures l.fn.store)
    × (g.S.Store.is_honest l.store ≡ g.S.Store.is_honest l.fn.store)
    × (IsTrue (g.S.Store.is_honest l.fn.store) → (tree : FileTree) → IsOpenedAs (g.S.Store.file l.fn.store) l.movie tree → AreScales l.content.leaving (g.S.Store.file l.fn.store) tree l.content.scales → l.content.of_tracks.items ≡ reductions_of l.content.leaving
    (g.S.Store.file l.fn.store) tree → RemainsInRange l.content.leaving (presentation_of (g.S.Store.file l.fn.store) tree)
    → IsLength l.content.leaving (g.S.Store.file l.fn.store) tree l.movie l.plan.schedule l.plan.walks.items l.plan.nexts.items l.len)
    × (IsTrue (g.S.Store.is_honest l.fn.store) → (tree : FileTree) → IsOpenedAs (g.S.Store.file l.fn.store) l.movie tree → AllTakeOn (g.S.Store.file l.fn.store) tree (walks_steps tree) l.plan.walks.items l.fn.steps.passed l.steps.passed)
    × (length l.plan.nexts.items ≡ length l.movie.tracks) × (l.steps.looks + turns_left l.plan.schedule ≤ l.fn.steps.looks + movie_turns l.movie)
    × IsDueAt (tracks_left l.content.leaving l.content.scales.tracks.items l.movie.tracks) l.plan.nexts.items l.plan.schedule l.plan.due × IsSomeLeft l.plan.schedule × (l.fn.steps.passed ≤ l.steps.passed)

abbrev pub decreases-loop-turn : goal.decreases-loop-turn
decreases-loop-turn g l = turns_left l.plan.schedule
