-- Bytes of a store that were read ahead.
use Rattle.std.specs.Prelude.{◌≡◌, ℕ, ◌+◌, ◌≤◌, List, length, take, Bool, IsTrue}
use Rattle.mp4_store.specs.words.Device.{range}
use Rattle.mp4_store.specs.declared.buffered.Window.{Window}

-- it has a part of the file, and over an honest store the bytes that stand there
abbrev pub IsWindowOf : Bool → List ℕ → Window → Type 0
IsWindowOf honest file w = (length w.bytes.items ≡ 65536) × (w.len ≤ 65536)
    × (w.start + w.len ≤ length file)
    × (IsTrue honest → take w.len w.bytes.items ≡ range file w.start w.len)

-- so many bytes from a place on are among those that were read
abbrev pub Holds : Window → ℕ → ℕ → Type 0
Holds w at count = (w.start ≤ at) × (at + count ≤ w.start + w.len)
