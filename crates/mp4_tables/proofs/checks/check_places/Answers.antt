use Rattle.std.proofs.Common.{sym}
use Rattle.mp4_boxes.specs.words.View.{box_seen}
use Rattle.mp4_tables.proofs.PlaceReads.{places_ordered, places_counted, places_as}
use Rattle.std.proofs.Common.{true, false}
use Rattle.mp4_tables.proofs.FirstReads.{places_judged, places_any}
use Rattle.mp4_tables.proofs.checks.check_places.Goals as goal

pub lie_within-requires-clause-sizes : goal.lie_within-requires-clause-sizes
lie_within-requires-clause-sizes g c = rw c.payload.ensures c.requires.sizes.have

pub lie_within-requires-clause-room : goal.lie_within-requires-clause-room
lie_within-requires-clause-room g c = rw c.payload.ensures c.requires.rows.have

pub lie_within-requires-clause-offsets : goal.lie_within-requires-clause-offsets
lie_within-requires-clause-offsets g c = rw c.payload.ensures c.requires.chunks.have

pub lie_within-requires-clause-ordered : goal.lie_within-requires-clause-ordered
lie_within-requires-clause-ordered g c = rw c.payload.ensures (places_ordered c.args.limits (box_seen c.args.stbl) c.args.sizes.rows.count c.args.chunks c.args.rows c.requires.chunks c.requires.rows)

pub lie_within-requires-clause-counts : goal.lie_within-requires-clause-counts
lie_within-requires-clause-counts g c = rw c.payload.ensures (places_counted c.args.limits (box_seen c.args.stbl) c.args.sizes.rows.count c.args.chunks c.args.rows c.requires.chunks c.requires.rows)

pub returns-clause-places : goal.returns-clause-places
returns-clause-places g c =
    places_as c.args.limits (box_seen c.args.stbl) c.args.sizes.rows.count c.args.sizes c.args.chunks c.args.rows _ c.requires.sizes c.requires.chunks c.requires.rows (rw c.payload.ensures at (sym c.if-not-lie_within.ensures.same))

pub returns-then-not-lie_within-clause-exact : goal.returns-then-not-lie_within-clause-exact
returns-then-not-lie_within-clause-exact g c =
    let t = places_as c.args.limits (box_seen c.args.stbl) c.args.sizes.rows.count c.args.sizes c.args.chunks c.args.rows false c.requires.sizes c.requires.chunks c.requires.rows (rw c.payload.ensures at (sym c.if-not-lie_within.ensures.same)) in
    rw c.fault.ensures (places_judged c.args.limits (box_seen c.args.stbl) c.args.chunks c.requires.tables c.requires.chunks false t (box_seen c.offsets_leaf.result) c.offsets_leaf.ensures)

pub returns-clause-exact : goal.returns-clause-exact
returns-clause-exact g c =
    let t = places_as c.args.limits (box_seen c.args.stbl) c.args.sizes.rows.count c.args.sizes c.args.chunks c.args.rows true c.requires.sizes c.requires.chunks c.requires.rows (rw c.payload.ensures at (sym c.if-not-lie_within.ensures.same)) in
    (places_any c.args.limits (box_seen c.args.stbl) c.args.chunks c.requires.tables c.requires.chunks true t).1
