use Rattle.std.proofs.Common.{◌≡◌, ◌++◌, drop}
use Rattle.mp4_answers.specs.format.FieldTexts.{fields_text}
use Rattle.mp4_answers.specs.words.LayoutsSeen.{fields_seen}
use Rattle.mp4_answers.proofs.text.field_lines.push_fields.Given as goal

-- with the fields that are left all are added
abbrev pub invariant-loop-field : goal.invariant-loop-field
invariant-loop-field l = l.text.items ++ fields_text l.spot l.head (fields_seen (drop l.field-index l.fields)) l.rest
    ≡ l.fn.text.items ++ fields_text l.spot l.head (fields_seen l.fields) l.bytes
