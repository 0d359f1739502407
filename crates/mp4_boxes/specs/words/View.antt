-- What a clause sees of views and headers.
use Rattle.std.specs.Prelude.{ℕ, ◌-◌}
use Rattle.mp4_boxes.specs.declared.view.BoxView.{BoxView}
use Rattle.mp4_boxes.specs.declared.headers.HeaderFields.{HeaderFields}
use Rattle.mp4_boxes.specs.declared.headers.TopHeader.{TopHeader}
use Rattle.mp4_boxes.specs.format.Box.{Box, Header}

abbrev pub box_seen : BoxView → Box
box_seen v = record {
  kind = v.kind.0;
  offset = v.offset;
  header = v.header;
  payload = v.payload.now;
}

abbrev pub header_seen : HeaderFields → Header
header_seen h = record { kind = h.kind.0; length = h.length; size = h.size }

-- a top-level header at this place
abbrev pub top_header_seen : ℕ → TopHeader → Header
top_header_seen at h = record { kind = h.kind.0; length = h.header; size = h.end - at }
