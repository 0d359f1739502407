use Rattle.std.proofs.Common.{refl}
use Rattle.std.specs.Prelude.{string_bytes}
use Rattle.serde_json.specs.View.{view}
use Rattle.mp4_answers.specs.format.Verdicts.{fault_value}
use Rattle.mp4_answers.proofs.ShownTracks.{text_of}
use Rattle.mp4_answers.proofs.text.verdicts.fault_json.Goals as goal

pub returns : goal.returns
returns c = text_of string_bytes c.to_string.result (view c.in_ok-value.value) (fault_value c.args.fault.now) c.in_ok-value.ensures refl c.to_string.ensures.text
