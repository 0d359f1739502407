-- What a writer holds, apart from what it keeps of each track at a fixed length.
use Rattle.std.specs.Prelude.{ℕ, ◌+◌, ◌*◌, List, length}
use Rattle.std.specs.List.{sum_by}
use Rattle.mp4_present.specs.declared.walking.Walk.{Walk}
use Rattle.mp4_plan.specs.declared.writer.Writer.{Writer}

-- the room of some walks: each for the longest track fragment (`traf`) with samples of its track
abbrev pub rooms : List Walk → ℕ
rooms walks = sum_by (λ (walk : Walk). length walk.bytes.items) walks

-- its head, the buffer in which bytes wait, 24 bytes for each row, and the room of its walks
abbrev pub held_bytes : Writer → ℕ
held_bytes w = length w.head.items + length w.carrier.buffer.items + 24 * length w.notes.rows.items
    + rooms w.walks.items
