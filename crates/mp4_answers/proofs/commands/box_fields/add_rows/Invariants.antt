use Rattle.std.proofs.Common.{◌≡◌, ◌+◌, ◌*◌, ◌++◌}
use Rattle.std.specs.Prelude.{IsTrue}
use Rattle.mp4_store.specs.words.Device.{range}
use Rattle.mp4_answers.specs.format.FieldTexts.{rows_text}
use Rattle.mp4_answers.specs.words.LayoutsSeen.{fields_seen}
use Rattle.mp4_answers.proofs.commands.box_fields.add_rows.Given as goal

-- the rows so far are added
abbrev pub invariant-loop-number : goal.invariant-loop-number
invariant-loop-number g l = record {
  honesty : g.S.Store.is_honest l.store ≡ g.S.Store.is_honest l.fn.store;
  file : g.S.Store.file l.store ≡ g.S.Store.file l.fn.store;
  reads : g.S.Store.read_failures l.store ≡ g.S.Store.read_failures l.fn.store;
  place : l.at ≡ l.fn.bytes.from + l.number * l.width;
  text : IsTrue (g.S.Store.is_honest l.fn.store)
      → l.text.items ≡ l.fn.text.items ++ rows_text l.spot l.run.head (fields_seen l.run.columns.now) l.number (range (g.S.Store.file l.fn.store) l.fn.bytes.from l.fn.bytes.len);
}
