-- Laws of what it says of a `moov` that its head was read.
use Rattle.std.specs.Prelude.{[], Result, IfOk}
use Rattle.mp4_boxes.specs.declared.refusal.Refusal.{Refusal}
use Rattle.mp4_boxes.specs.declared.rule.Rule.TheVariants as rules
use Rattle.mp4_boxes.specs.format.Box.{Box}
use Rattle.mp4_boxes.specs.format.Places.{ruled}
use Rattle.mp4_head.specs.declared.heads.MovieHead.{MovieHead}
use Rattle.mp4_head.specs.format.FirstFault.{depth, fault_within}
use Rattle.mp4_head.specs.words.FaultNamed.{NamesRefused}
use Rattle.mp4_head.specs.words.Found.{SaysHead}
use Rattle.mp4_head.specs.words.Normal.{ReadsAgain}
use Rattle.mp4_head.specs.words.Refuses.{place_of}

-- Of a `moov` that was written the head is read that was written, or no memory was to be had: where
-- a head that is read is that of its box, and its first fault is named where none is.
abbrev pub WrittenHeadIsRead : Type 0
WrittenHeadIsRead = (moov : Box) (result : Result MovieHead Refusal) → IfOk result (SaysHead moov)
    → NamesRefused (fault_within depth [] (place_of (ruled rules.Movie) moov)) result
    → ReadsAgain moov result
