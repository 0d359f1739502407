-- What a clause sees of tables that were checked, and of a walk over their samples.
use Rattle.std.specs.Prelude.{ℕ, List, drop}
use Rattle.mp4_tables.specs.format.Tables.{Tables}
use Rattle.mp4_tables.specs.words.Timed.{samples_of}
use Rattle.mp4_tables.specs.words.Accepted.{tables_at}
use Rattle.mp4_tables.specs.declared.places.TablesAt.{TablesAt}
use Rattle.mp4_tables.specs.declared.places.TablePlace.{TablePlace}
use Rattle.mp4_tables.specs.declared.sample.SampleAt.{SampleAt}

-- the payload of an `stbl`, and where its tables lie in it
pub record TablesSeen : Type 0 where
  pub payload : List ℕ
  pub at : TablesAt

-- the tables themselves
abbrev pub tables_seen : TablesSeen → Tables
tables_seen v = tables_at v.payload v.at

-- a walk: the tables, and a place among their samples
pub record CursorSeen : Type 0 where
  pub tables : TablesSeen
  pub place : TablePlace

-- the samples still to come
abbrev pub samples_from : CursorSeen → List SampleAt
samples_from v = drop v.place.number (samples_of (tables_seen v.tables))
