use Rattle.std.proofs.Common.{◌≡◌, ◌-◌, ◌≤◌, length, take}
use Rattle.std.specs.Prelude.{vec_len}
use Rattle.mp4_present.specs.words.Carried.{waiting, BytesGoOn}
use Rattle.mp4_present.proofs.out_buffer.OutBuffer.carry.Given as goal

-- so many bytes were taken along
abbrev pub invariant-loop-done : goal.invariant-loop-done
invariant-loop-done g l =
    (l.done ≤ length l.bytes)
    × (vec_len l.self.buffer ≡ vec_len l.fn.self.buffer)
    × (g.K.Sink.put_failures l.sink ≡ g.K.Sink.put_failures l.fn.sink)
    × BytesGoOn (g.K.Sink.takes l.fn.sink l.sink) (waiting l.fn.self) (waiting l.self) (take l.done l.bytes)

abbrev pub decreases-loop-done : goal.decreases-loop-done
decreases-loop-done g l = length l.bytes - l.done
