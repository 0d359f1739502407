use Rattle.std.specs.Prelude.{string_bytes}
use Rattle.mp4_answers.specs.words.BoxSpans.{found_value}
use Rattle.mp4_answers.proofs.BoxSpans.{found-has_float}
use Rattle.mp4_answers.proofs.ShownTracks.{text_of}
use Rattle.mp4_answers.proofs.text.box_json.box_json.Goals as goal

pub returns : goal.returns
returns c =
    let top = c.args.found.now in
    text_of string_bytes c.to_string.result _ (found_value c.args.depth c.args.rule top c.args.uuid) c.in_ok-value.ensures (found-has_float c.args.depth c.args.rule top c.args.uuid) c.to_string.ensures.text
