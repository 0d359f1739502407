use Rattle.std.proofs.Common.{sym}
use Rattle.mp4_tables.specs.words.Keys.{key_seen, keys_seen}
use Rattle.mp4_tables.proofs.KeyLists.{named_before, not_named_yet}
use Rattle.mp4_tables.proofs.keys.Keys.names.Goals as goal

pub returns-in-Some : goal.returns-in-Some
returns-in-Some c = sym (named_before (key_seen c.args.key) (keys_seen c.args.self.now) c.in-Some.field-0 (sym c.in-Some.ensures))

pub returns-in-None : goal.returns-in-None
returns-in-None c = sym (not_named_yet (key_seen c.args.key) (keys_seen c.args.self.now) (sym c.in-None.ensures))
