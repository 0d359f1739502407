use Rattle.std.proofs.Common.{◌≡◌, ◌∷◌, [], ◌*◌, slice_index, sym, ◌∙◌}
use Rattle.sha2.specs.Sha256.{word_at}
use Rattle.mp4_answers.specs.words.Lanes.{block_at}
use Rattle.mp4_answers.proofs.LaneLaws.{word_at-block_at}
use Rattle.mp4_answers.proofs.digests.lanes.load_words.Goals as goal
use Rattle.mp4_boxes.proofs.Plain.{below_four}

pub returns : goal.returns
returns c =
    let bytes = c.args.bytes.now in
    let i = c.args.i in
    let places = c.args.places in
    let word = c.requires.word in
    below_four (λ l. slice_index (c.load_be.result ∷ c.load_be-2.result ∷ c.load_be-3.result ∷ c.load_be-4.result ∷ []) l ≡ word_at (block_at bytes (slice_index places l)) (4 * i))
    (c.load_be.ensures ∙ sym (word_at-block_at bytes (slice_index places 0) i word))
    (c.load_be-2.ensures ∙ sym (word_at-block_at bytes (slice_index places 1) i word))
    (c.load_be-3.ensures ∙ sym (word_at-block_at bytes (slice_index places 2) i word))
    (c.load_be-4.ensures ∙ sym (word_at-block_at bytes (slice_index places 3) i word))
