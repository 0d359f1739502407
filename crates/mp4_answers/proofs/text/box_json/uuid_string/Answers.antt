use Rattle.std.proofs.Common.{refl, append_assoc}
use Rattle.mp4_answers.proofs.text.box_json.uuid_string.Goals as goal

pub returns : goal.returns
returns c = simp (c.in_ok-push_group-4.ensures, c.in_ok-push_group-3.ensures, c.in_ok-push_group-2.ensures, c.in_ok-push_group.ensures, c.in_ok-push_bytes.ensures, c.new-text.ensures.bytes, append_assoc) refl
