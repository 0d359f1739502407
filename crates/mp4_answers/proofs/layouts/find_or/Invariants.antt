use Rattle.std.proofs.Common.{◌≡◌, drop}
use Rattle.mp4_answers.specs.format.Layouts.{first_of}
use Rattle.mp4_answers.specs.words.LayoutsSeen.{layouts_seen}
use Rattle.mp4_answers.proofs.layouts.find_or.Given as goal

-- none before is of the type
abbrev pub invariant-loop-layout : goal.invariant-loop-layout
invariant-loop-layout l = first_of l.kind.0 (layouts_seen (drop l.layout-index l.all)) ≡ first_of l.kind.0 (layouts_seen l.all)
