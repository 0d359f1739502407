use Rattle.mp4_tables.specs.words.Keys.{keys_seen}
use Rattle.mp4_answers.specs.words.ToldSamples.{told_index}
use Rattle.mp4_answers.proofs.KeyOrder.{few_keys, four_joined}
use Rattle.mp4_answers.proofs.text.sample_texts.write_groups.Goals as goal

pub returns-clause-written : goal.returns-clause-written
returns-clause-written c =
    rw (c.write_index.ensures.written, c.write_index-start-3.ensures.written, c.write_index-start-2.ensures.written, c.write_index-start.ensures.written)
    (four_joined (told_index c.args.style.now.keys c.args.sample.now) (keys_seen c.args.style.now.order) _ (few_keys c.args.style.now.order))
