use Rattle.std.proofs.Common.{◌≡◌, take, map}
use Rattle.serde_json.specs.View.{view}
use Rattle.mp4_head.specs.words.Seen.{edit_seen}
use Rattle.mp4_answers.specs.format.Texts.{edit_data}
use Rattle.mp4_answers.proofs.text.movie_json.edits_value.Given as goal

abbrev pub invariant-loop-edit : goal.invariant-loop-edit
invariant-loop-edit l = map view l.values.items ≡ map edit_data (map edit_seen (take l.edit-index l.edits))
