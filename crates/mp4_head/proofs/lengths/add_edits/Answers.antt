use Rattle.std.proofs.Common.{rules, map}
use Rattle.std.proofs.lemmas.List.{length-map}
use Rattle.mp4_head.specs.words.Seen.{edit_seen}
use Rattle.mp4_head.proofs.HeadLengths.{length_edits, length_no_edits}
use Rattle.mp4_head.proofs.lengths.add_edits.Goals as goal

pub returns-then-is_empty : goal.returns-then-is_empty
returns-then-is_empty c =
    let n = length-map c.args.edits.now edit_seen in
    let none = length_no_edits (map edit_seen c.args.edits.now) (search rules) in
    search rules

pub returns : goal.returns
returns c =
    let n = length-map c.args.edits.now edit_seen in
    let some = length_edits (map edit_seen c.args.edits.now) (search rules) in
    search rules
