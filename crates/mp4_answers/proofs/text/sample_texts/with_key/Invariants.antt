use Rattle.std.proofs.Common.{drop}
use Rattle.mp4_tables.specs.words.Keys.{key_seen, keys_seen}
use Rattle.mp4_plan.specs.format.Normal.{put_key}
use Rattle.mp4_answers.proofs.KeyOrder.{PutSoFar}
use Rattle.mp4_answers.proofs.text.sample_texts.with_key.Given as goal

-- the keys so far stand there, and the new one where its place is among them
abbrev pub invariant-loop-j : goal.invariant-loop-j
invariant-loop-j l = PutSoFar l.j l.is_there (key_seen l.key) (keys_seen l.all) (drop l.j (keys_seen l.keys)) (put_key (key_seen l.key) (keys_seen l.keys))
