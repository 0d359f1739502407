use Rattle.std.proofs.Common.{◌≡◌, ◌≤◌, ℕ, List, length}
use Rattle.mp4_boxes.specs.words.View.{box_seen}
use Rattle.mp4_frag.specs.words.Noted.{ids_of}
use Rattle.mp4_frag.specs.words.States.{HaveRoom}
use Rattle.mp4_frag.proofs.Costs.{MoofCost}
use Rattle.mp4_frag.proofs.CheckLooks.{MoofLooked}
use Rattle.mp4_frag.proofs.FrontPassed.{FrontSeen}
use Rattle.mp4_frag.proofs.MoofPassed.{MoofSeen, MovesSeen}
use Rattle.mp4_frag.proofs.OwnNoted.{NotesSeen}
use Rattle.mp4_frag.proofs.check.check_trafs.Given as goal

-- there is room for what is left of the room, and the `traf`s so far are sound
abbrev pub invariant-loop-child : goal.invariant-loop-child
invariant-loop-child g l =
    (goal.iterator-loop-child g).can_next l.child-iterator
    × (goal.iterator-loop-child g).is_finite l.child-iterator
    × (l.room ≤ l.fn.room)
    × HaveRoom l.room l.tracks
    × MoofSeen l.fn.all.file_len (box_seen l.fn.all.moof).offset l.fn.tracks l.initial.child-iterator l.child-iterator l.before l.tracks
    × MovesSeen l.fn.all.file_len (box_seen l.fn.all.moof).offset l.fn.tracks l.fn.room l.initial.child-iterator l.child-iterator l.before l.tracks l.room
    × MoofCost l.initial.child-iterator l.child-iterator l.fn.steps.passed l.fn.room l.steps.passed l.room
    × (ids_of l.tracks ≡ ids_of l.fn.tracks)
    × MoofLooked l.initial.child-iterator l.child-iterator (g.T.Tracking.most (length l.fn.tracks)) l.fn.steps.looks l.steps.looks
    × (length l.tracks ≡ length l.fn.tracks)
    × NotesSeen (box_seen l.fn.all.moof).offset l.fn.tracks l.initial.child-iterator l.child-iterator l.before l.tracks (g.T.Tracking.noted l.fn.tracking) (g.T.Tracking.noted l.tracking)
    × ((ids : List ℕ) → g.T.Tracking.knows l.fn.tracking ids → g.T.Tracking.knows l.tracking ids)
    × (g.T.Tracking.is_silent l.fn.tracking → g.T.Tracking.is_silent l.tracking)
    × FrontSeen l.fn.all.file_len (box_seen l.fn.all.moof).offset l.fn.tracks l.fn.room l.initial.child-iterator l.child-iterator l.before l.tracks l.room
