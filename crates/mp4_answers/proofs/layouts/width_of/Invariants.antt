use Rattle.std.proofs.Common.{◌≡◌, ◌+◌, ◌*◌, ◌≤◌, drop}
use Rattle.mp4_answers.specs.format.Layouts.{width_of}
use Rattle.mp4_answers.specs.words.LayoutsSeen.{fields_seen}
use Rattle.mp4_answers.proofs.layouts.width_of.Given as goal

-- with the fields that are left all are counted, and those so far are short
abbrev pub invariant-loop-field : goal.invariant-loop-field
invariant-loop-field l = (l.width + width_of l.head (fields_seen (drop l.field-index l.fields)) ≡ width_of l.head (fields_seen l.fields))
    × (l.width ≤ 255 * l.field-index)
