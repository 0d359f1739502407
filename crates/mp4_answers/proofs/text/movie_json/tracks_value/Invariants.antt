use Rattle.std.proofs.Common.{◌≡◌, ◌++◌, map}
use Rattle.serde_json.specs.View.{view}
use Rattle.mp4_head.specs.words.Seen.{track_seen}
use Rattle.mp4_answers.specs.words.ShowValue.{infos_values}
use Rattle.mp4_answers.proofs.text.movie_json.tracks_value.Given as goal

-- the values so far, and those of the tracks to come
abbrev pub invariant-loop-head : goal.invariant-loop-head
invariant-loop-head l = map view l.values.items ++ infos_values (map track_seen l.head-iterator.a.rest.now) l.head-iterator.b.rest.now ≡ infos_values (map track_seen l.heads) l.infos
