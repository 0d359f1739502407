use Rattle.mp4_tables.proofs.PlaceLists.{samples_left}
use Rattle.mp4_tables.proofs.cursor.TableCursor.at.Goals as goal

pub returns-clause-count : goal.returns-clause-count
returns-clause-count c = rw (c.payload-payload.ensures.same, c.places-at.ensures.at) (samples_left c.args.tables.now.payload c.args.tables.now.at c.args.place.number (rw c.payload-payload.ensures.same at c.payload-payload.ensures.accepted))
