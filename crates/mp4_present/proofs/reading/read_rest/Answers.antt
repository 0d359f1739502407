use Rattle.std.proofs.Common.{rules, ◌≡◌, ◌+◌, ◌-◌, length}
use Rattle.mp4_store.specs.words.Device.{range}
use Rattle.mp4_present.proofs.Payloads.{first_of_read, rest_read}
use Rattle.mp4_present.proofs.reading.read_rest.Goals as goal

pub returns-in_ok-read_at-clause-bytes : goal.returns-in_ok-read_at-clause-bytes
returns-in_ok-read_at-clause-bytes g c told =
    let file = g.S.Store.file c.args.store.now in
    let out = c.read_at.new.out in
    let long : length out ≡ c.args.len - c.args.read = search rules in
    let others : out ≡ range file (c.args.at + c.args.read) (c.args.len - c.args.read) = search rules in
    rest_read file c.args.room.now out c.args.at c.args.read c.args.len (search rules) (search rules) long (c.requires.first told) others

pub returns-else-read-len-clause-bytes : goal.returns-else-read-len-clause-bytes
returns-else-read-len-clause-bytes g c told = first_of_read (g.S.Store.file c.args.store.now) c.args.room.now c.args.at c.args.read c.args.len (search rules) (c.requires.first told)
