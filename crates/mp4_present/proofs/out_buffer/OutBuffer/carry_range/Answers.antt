use Rattle.std.proofs.Common.{rules, ◌+◌, ◌-◌}
use Rattle.std.proofs.lemmas.List.{append-nil}
use Rattle.std.proofs.lemmas.Result.{err_from_is_err_and}
use Rattle.mp4_store.specs.words.Device.{range}
use Rattle.mp4_store.proofs.Known.{range-add}
use Rattle.mp4_present.specs.words.Carried.{waiting}
use Rattle.mp4_present.proofs.Carrying.{piece_waits, piece_counted, no_room, not_read, range_and_rest}
use Rattle.mp4_present.proofs.out_buffer.OutBuffer.carry_range.Goals as goal

pub returns-in_err-count-clause-prefix : goal.returns-in_err-count-clause-prefix
returns-in_err-count-clause-prefix g c =
    let p = err_from_is_err_and c.from_residual.result c.from_residual.ensures.1 in
    let i = c.loop-done.invariant in
    let file = g.S.Store.file c.args.store.now in
    let done = c.loop-done.done in
    let made = rw (append-nil (waiting c.loop-done.self)) at c.in_err-count.ensures.put in
    rw p.1 (λ honest. no_room g.met.K.Sink.takes_on _ _ _ (waiting c.args.self.now) (waiting c.loop-done.self) (range file c.args.at done) (range file (c.args.at + done) (c.args.len - done)) _ (i.6 honest) made (range_and_rest file c.args.at done c.args.len i.0))

pub returns-in_err-add_range-clause-prefix : goal.returns-in_err-add_range-clause-prefix
returns-in_err-add_range-clause-prefix g c =
    let p = err_from_is_err_and c.from_residual-in_err-add_range.result c.from_residual-in_err-add_range.ensures.1 in
    let i = c.loop-done.invariant in
    let file = g.S.Store.file c.args.store.now in
    let done = c.loop-done.done in
    rw p.1 (λ honest. not_read g.met.K.Sink.takes_on _ _ _ (waiting c.args.self.now) (waiting c.loop-done.self) (waiting c.make_room.new.self) (range file c.args.at done) (range file (c.args.at + done) (c.args.len - done)) _ (i.6 honest) c.in_ok-count.ensures.put
    (range_and_rest file c.args.at done c.args.len i.0))

pub loop-done-preserved : goal.loop-done-preserved
loop-done-preserved g c =
    let i = c.loop-done.invariant in
    let file = g.S.Store.file c.args.store.now in
    let done = c.loop-done.done in
    let n = c.in_ok-count.count in (
      search rules,
      search rules,
      search rules,
      search rules,
      search rules,
      search rules,
      (λ honest.
          let read = (rw (i.2, i.3) at c.in_ok-add_range.ensures.bytes) honest in
          piece_waits g.met.K.Sink.takes_on _ _ _ (waiting c.args.self.now) (waiting c.loop-done.self) (waiting c.make_room.new.self) _ (range file c.args.at done) (range file (c.args.at + done) n) _ (i.6 honest) c.in_ok-count.ensures.put read (range-add file c.args.at done n)),
      piece_counted g.met.K.Sink.takes_on _ _ _ (waiting c.args.self.now) (waiting c.loop-done.self) (waiting c.make_room.new.self) (waiting c.add_range.new.self) done n i.7 c.in_ok-count.ensures.put c.in_ok-add_range.ensures.many,
    )
