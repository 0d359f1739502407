use Rattle.std.proofs.Common.{◌≡◌, ◌+◌, ◌∙◌, ap, arith, length, take, length-append, length-take}
use Rattle.std.specs.List.{flat_map}
use Rattle.mp4_answers.specs.format.Texts.{hex_digits}
use Rattle.mp4_answers.proofs.TypeTexts.{length-hex_digits}
use Rattle.mp4_answers.proofs.text.line.Line.push_type.Goals as goal

pub push_hex-requires : goal.push_hex-requires
push_hex-requires c =
    let read = take c.loop-byte.byte-index c.args.kind.0 in
    let whole : length c.loop-byte.self ≡ length c.args.self.now + length (flat_map (hex_digits 2) read) =
    ap length c.loop-byte.invariant ∙ length-append c.args.self.now (flat_map (hex_digits 2) read) in
    let digits = length-hex_digits read in
    let few = length-take c.loop-byte.byte-index c.args.kind.0 in
    omega arith
