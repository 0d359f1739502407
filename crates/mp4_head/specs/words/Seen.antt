-- What a clause sees of heads and their parts.
use Rattle.std.specs.Prelude.{List, map}
use Rattle.mp4_head.specs.format.Head as heads
use Rattle.mp4_head.specs.declared.edit_list.Edit.{Edit}
use Rattle.mp4_head.specs.declared.kept_boxes.Kept.{Kept}
use Rattle.mp4_head.specs.declared.heads.Media.{Media}
use Rattle.mp4_head.specs.declared.heads.TrackHead.{TrackHead}
use Rattle.mp4_head.specs.declared.heads.MovieHead.{MovieHead}

abbrev pub kept_seen : Kept → heads.Kept
kept_seen k = record { kind = k.kind.0; payload = k.payload.now }

abbrev pub edit_seen : Edit → heads.Edit
edit_seen e = record {
  segment_duration = e.segment_duration;
  media_time = e.media_time;
  rate_integer = e.rate_integer;
  rate_fraction = e.rate_fraction;
}

abbrev pub media_seen : Media → heads.Media
media_seen m = record {
  creation = m.creation;
  modification = m.modification;
  timescale = m.timescale;
  language = m.language;
  handler = m.handler.now;
  extended_languages = map (λ p. p.now) m.extended_languages.items;
  header = kept_seen m.header;
  descriptions = map kept_seen m.descriptions.items;
}

abbrev pub track_seen : TrackHead → heads.TrackHead
track_seen t = record {
  flags = t.flags;
  creation = t.creation;
  modification = t.modification;
  id = t.id;
  layer = t.layer;
  alternate_group = t.alternate_group;
  volume = t.volume;
  matrix = t.matrix;
  width = t.width;
  height = t.height;
  edits = map edit_seen t.edits.items;
  kept = map kept_seen t.kept.items;
  media = media_seen t.media;
  group_descriptions = map (λ p. p.now) t.group_descriptions.items;
}

abbrev pub movie_seen : MovieHead → heads.MovieHead
movie_seen m = record {
  creation = m.creation;
  modification = m.modification;
  timescale = m.timescale;
  rate = m.rate;
  volume = m.volume;
  matrix = m.matrix;
  kept = map kept_seen m.kept.items;
}

abbrev pub tracks_seen : MovieHead → List heads.TrackHead
tracks_seen m = map track_seen m.tracks.items

abbrev pub head_seen : MovieHead → heads.Head
head_seen m = record { movie = movie_seen m; tracks = tracks_seen m; trexes = m.trexes.items }
