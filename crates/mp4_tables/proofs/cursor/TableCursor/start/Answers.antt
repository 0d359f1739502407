use Rattle.mp4_tables.proofs.PlaceLists.{all_samples}
use Rattle.mp4_tables.proofs.cursor.TableCursor.start.Goals as goal

pub returns-clause-count : goal.returns-clause-count
returns-clause-count c = rw (c.payload-payload.ensures.same, c.places-at.ensures.at, c.first_place-place.ensures.number) (all_samples c.args.tables.now.payload c.args.tables.now.at (rw c.payload-payload.ensures.same at c.payload-payload.ensures.accepted))
