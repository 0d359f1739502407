use Rattle.std.specs.Prelude.{string_bytes}
use Rattle.mp4_head.specs.words.Seen.{movie_seen, tracks_seen}
use Rattle.mp4_answers.specs.words.ShowValue.{ShowValue}
use Rattle.mp4_answers.proofs.ShownTracks.{shown-has_float, text_of}
use Rattle.mp4_answers.proofs.text.movie_json.show_text.Goals as goal

pub returns : goal.returns
returns c =
    let head = c.args.head.now in
    text_of string_bytes c.to_string.result _ (ShowValue (movie_seen head) (tracks_seen head) c.args.mehd c.args.infos.now) c.in_ok-value.ensures (shown-has_float c.args.mehd head.timescale (tracks_seen head) c.args.infos.now) c.to_string.ensures.text
