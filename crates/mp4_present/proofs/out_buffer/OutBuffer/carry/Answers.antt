use Rattle.std.proofs.Common.{rules, take, drop}
use Rattle.std.proofs.lemmas.List.{append-nil}
use Rattle.std.proofs.lemmas.Result.{err_from_is_err_and}
use Rattle.std.proofs.Math.Seq.{take-add}
use Rattle.mp4_present.specs.words.Carried.{waiting}
use Rattle.mp4_present.proofs.Carrying.{piece_waits, no_room, front_and_rest}
use Rattle.mp4_present.proofs.out_buffer.OutBuffer.carry.Goals as goal

pub returns-in_err-count-clause-prefix : goal.returns-in_err-count-clause-prefix
returns-in_err-count-clause-prefix g c =
    let p = err_from_is_err_and c.from_residual.result c.from_residual.ensures.1 in
    let bytes = c.args.bytes.now in
    rw p.1 (no_room g.met.K.Sink.takes_on _ _ _ (waiting c.args.self.now) (waiting c.loop-done.self) (take c.loop-done.done bytes) (drop c.loop-done.done bytes) bytes c.loop-done.invariant.3 (rw (append-nil (waiting c.loop-done.self)) at c.in_err-count.ensures.put)
    (front_and_rest bytes c.loop-done.done))

pub loop-done-preserved : goal.loop-done-preserved
loop-done-preserved g c =
    let bytes = c.args.bytes.now in
    let n = c.in_ok-count.count in (
      search rules,
      search rules,
      search rules,
      piece_waits g.met.K.Sink.takes_on _ _ _ (waiting c.args.self.now) (waiting c.loop-done.self) (waiting c.make_room.new.self) _ (take c.loop-done.done bytes) (take n (drop c.loop-done.done bytes)) _ c.loop-done.invariant.3 c.in_ok-count.ensures.put (search rules)
          (take-add c.loop-done.done n bytes),
    )
