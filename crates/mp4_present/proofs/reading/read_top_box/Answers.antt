use Rattle.std.proofs.Common.{rules, ◌-◌, ◌≤◌, ◌<◌, Ok, Err, length, arith}
use Rattle.mp4_boxes.specs.words.View.{top_header_seen}
use Rattle.mp4_present.proofs.Payloads.{first_of_read, long_as_read, none_begins}
use Rattle.mp4_present.proofs.TopLevel.{read_in_file}
use Rattle.mp4_present.proofs.reading.read_top_box.Goals as goal

pub returns-in_default-clause-refusal : goal.returns-in_default-clause-refusal
returns-in_default-clause-refusal g c told h begins =
    let file = g.S.Store.file c.args.store.now in
    let le : c.min-2.result ≤ c.min-read.result = search rules in
    let front = first_of_read file c.read_front.new.room c.args.at c.min-read.result c.min-2.result le (c.in_ok-read_front.ensures.bytes told) in
    absurd (none_begins file c.args.at c.in_default.field-0 h (read_in_file file _ c.args.at (c.len.result - c.args.at) c.min-2.result (Err c.in_default.field-0) front (search rules) (search rules) c.in_default.ensures.fault) begins)

pub returns-then-len-room-clause-refusal : goal.returns-then-len-room-clause-refusal
returns-then-len-room-clause-refusal g c told h begins =
    let file = g.S.Store.file c.args.store.now in
    let le : c.min-2.result ≤ c.min-read.result = search rules in
    let front = first_of_read file c.read_front.new.room c.args.at c.min-read.result c.min-2.result le (c.in_ok-read_front.ensures.bytes told) in
    let read = read_in_file file _ c.args.at (c.len.result - c.args.at) c.min-2.result (Ok (top_header_seen c.args.at c.in-Ok.header)) front (search rules) (search rules) c.in-Ok.ensures.header in
    let size = long_as_read file c.args.at c.in-Ok.header h read begins in
    let more : length c.args.room.now < c.in-Ok.header.end - c.args.at = search rules in
    omega (arith, size, more)

pub returns-clause-header : goal.returns-clause-header
returns-clause-header g c told =
    let file = g.S.Store.file c.args.store.now in
    let le : c.min-2.result ≤ c.min-read.result = search rules in
    let front = first_of_read file c.read_front.new.room c.args.at c.min-read.result c.min-2.result le (c.in_ok-read_front.ensures.bytes told) in
    read_in_file file _ c.args.at (c.len.result - c.args.at) c.min-2.result (Ok (top_header_seen c.args.at c.in-Ok.header)) front (search rules) (search rules) c.in-Ok.ensures.header
