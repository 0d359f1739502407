-- The lines of a text on their way to a sink. `K` is what a bound says of the sink.
use Rattle.std.specs.Prelude.{◌≡◌, ℕ, List, [], ◌∷◌, ◌++◌, map, flat_map, Result, OnOk, OnErr, codes, decimal}
use Rattle.std.specs.Fmt.{signed_decimal}
use Rattle.mp4_boxes.specs.declared.refusal.Refusal.{Refusal}
use Rattle.mp4_head.specs.format.Head.{Media, TrackHead, MovieHead}
use Rattle.mp4_head.specs.words.Seen.{edit_seen}
use Rattle.mp4_store.specs.declared.sink.Sink.{Ghosts as Sink}
use Rattle.mp4_present.specs.declared.out_buffer.OutBuffer.{OutBuffer}
use Rattle.mp4_present.specs.words.OutBuffers.{PutsFrontOf, RefusedByPut, TakesBytes}
use Rattle.mp4_answers.specs.format.Text.{edit_words, named_line, number_line}
use Rattle.mp4_answers.specs.format.Texts.{hex_digits, space}
use Rattle.mp4_answers.specs.declared.text.named_lines.Said.{Said}
use Rattle.mp4_answers.specs.declared.text.named_lines.Said.TheVariants as said
use Rattle.mp4_answers.specs.declared.text.named_lines.Named.{Named}

-- This text is taken along: at Ok all of it, and at Err a front of what waited and of it was put.
-- Nothing but a put can fail.
pub record Tells {Y T : Type 0} (K : Sink Y) (sink sink_after : Y) (c c_after : OutBuffer)
    (text : List ℕ) (result : Result T Refusal) : Type 0 where
  pub all : OnOk result (TakesBytes K sink sink_after c c_after text)
  pub front : OnErr result (PutsFrontOf K sink sink_after c text)
  pub puts : OnOk result (K.put_failures sink_after ≡ K.put_failures sink)
  pub refusal : RefusedByPut K sink sink_after result

-- The same of a text alone.
pub record TellsText {Y T E : Type 0} (K : Sink Y) (sink sink_after : Y) (c c_after : OutBuffer)
    (text : List ℕ) (result : Result T E) : Type 0 where
  pub all : OnOk result (TakesBytes K sink sink_after c c_after text)
  pub front : OnErr result (PutsFrontOf K sink sink_after c text)

-- the words that are said of a name
abbrev pub said_words : Said → List (List ℕ)
said_words (said.Number n) = decimal n ∷ []
said_words (said.Signed n) = signed_decimal n ∷ []
said_words (said.Flags n) = hex_digits 6 n ∷ []
said_words (said.Language n) = hex_digits 4 n ∷ []
said_words (said.Matrix matrix) = map signed_decimal matrix
said_words (said.Edit e) = edit_words (edit_seen e)

abbrev pub said_text : List (List ℕ) → List ℕ
said_text words = flat_map (λ (word : List ℕ). space ++ word) words

abbrev pub said_line : Named → List ℕ
said_line n = named_line n.name.now (said_words n.said)

-- ---- the lines of numbers in a head

abbrev pub movie_front : MovieHead → List (List ℕ)
movie_front m = number_line (codes "creation") m.creation
    ∷ number_line (codes "modification") m.modification
    ∷ number_line (codes "timescale") m.timescale
    ∷ named_line (codes "rate") (signed_decimal m.rate ∷ [])
    ∷ named_line (codes "volume") (signed_decimal m.volume ∷ [])
    ∷ named_line (codes "matrix") (map signed_decimal m.matrix) ∷ []

abbrev pub track_front : TrackHead → List (List ℕ)
track_front t = named_line (codes "flags") (hex_digits 6 t.flags ∷ [])
    ∷ number_line (codes "creation") t.creation
    ∷ number_line (codes "modification") t.modification
    ∷ named_line (codes "layer") (signed_decimal t.layer ∷ [])
    ∷ named_line (codes "alternate_group") (signed_decimal t.alternate_group ∷ [])
    ∷ named_line (codes "volume") (signed_decimal t.volume ∷ [])
    ∷ named_line (codes "matrix") (map signed_decimal t.matrix)
    ∷ number_line (codes "width") t.width
    ∷ number_line (codes "height") t.height ∷ []

abbrev pub media_front : Media → List (List ℕ)
media_front m = number_line (codes "media creation") m.creation
    ∷ number_line (codes "media modification") m.modification
    ∷ number_line (codes "media timescale") m.timescale
    ∷ named_line (codes "language") (hex_digits 4 m.language ∷ []) ∷ []
