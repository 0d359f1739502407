use Rattle.std.proofs.Common.{◌≡◌, ◌-◌, ◌≤◌}
use Rattle.std.specs.Prelude.{vec_len, IsTrue}
use Rattle.mp4_store.specs.words.Device.{range}
use Rattle.mp4_present.specs.words.Carried.{waiting, BytesGoOn, GoOnBy}
use Rattle.mp4_present.proofs.out_buffer.OutBuffer.carry_range.Given as goal

-- so many bytes were taken along
abbrev pub invariant-loop-done : goal.invariant-loop-done
invariant-loop-done g l =
    (l.done ≤ l.len)
    × (vec_len l.self.buffer ≡ vec_len l.fn.self.buffer)
    × (g.S.Store.is_honest l.store ≡ g.S.Store.is_honest l.fn.store)
    × (g.S.Store.file l.store ≡ g.S.Store.file l.fn.store)
    × (g.S.Store.read_failures l.store ≡ g.S.Store.read_failures l.fn.store)
    × (g.K.Sink.put_failures l.sink ≡ g.K.Sink.put_failures l.fn.sink)
    × (IsTrue (g.S.Store.is_honest l.fn.store) → BytesGoOn (g.K.Sink.takes l.fn.sink l.sink) (waiting l.fn.self) (waiting l.self) (range (g.S.Store.file l.fn.store) l.at l.done))
    × GoOnBy (g.K.Sink.takes l.fn.sink l.sink) (waiting l.fn.self) (waiting l.self) l.done

abbrev pub decreases-loop-done : goal.decreases-loop-done
decreases-loop-done g l = l.len - l.done
