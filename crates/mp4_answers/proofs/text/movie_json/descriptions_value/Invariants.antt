use Rattle.std.proofs.Common.{◌≡◌, take, map}
use Rattle.serde_json.specs.View.{view}
use Rattle.mp4_head.specs.words.Seen.{kept_seen}
use Rattle.mp4_answers.specs.format.Texts.{description_value}
use Rattle.mp4_answers.proofs.text.movie_json.descriptions_value.Given as goal

abbrev pub invariant-loop-description : goal.invariant-loop-description
invariant-loop-description l = map view l.values.items ≡ map description_value (map kept_seen (take l.description-index l.descriptions))
