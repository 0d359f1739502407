use Rattle.std.proofs.Common.{◌∙◌}
use Rattle.mp4_tables.proofs.IndexesLeft.{opened_places, opened_coming}
use Rattle.mp4_tables.proofs.indexes.open_rows.Goals as goal

pub returns-clause-places : goal.returns-clause-places
returns-clause-places c = opened_places c.args.payload.now c.args.rows.now c.args.places.now c.from-key.result (record { place = c.args.at; count = c.args.count }) c.first_index.result c.are_left-places.result c.requires.places c.first_index.ensures.place c.are_left-places.ensures

pub returns-clause-opened : goal.returns-clause-opened
returns-clause-opened c =
    opened_coming c.args.payload.now c.args.rows.now c.args.places.now c.from-key.result _ (record { place = c.args.at; count = c.args.count }) c.first_index.result c.are_left-places.result _ (c.from-key.ensures ∙ c.min.ensures) c.first_index.ensures.all
