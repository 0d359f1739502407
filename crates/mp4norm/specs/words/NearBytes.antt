-- Bytes of a store that were read with a header of a box.
use Rattle.std.specs.Prelude.{◌≡◌, ℕ, ◌+◌, ◌≤◌, List, length, take, Bool, IsTrue}
use Rattle.mp4_store.specs.words.Device.{range}
use Rattle.mp4norm.specs.declared.shell.near_store.Near.{Near}

-- it has a part of the file, and over an honest store the bytes that stand there
abbrev pub IsNearOf : Bool → List ℕ → Near → Type 0
IsNearOf honest file n = (length n.bytes.items ≡ 65536) × (n.len ≤ 65536)
    × (n.start + n.len ≤ length file)
    × (IsTrue honest → take n.len n.bytes.items ≡ range file n.start n.len)

-- so many bytes from a place on are among those that were read
abbrev pub Holds : Near → ℕ → ℕ → Type 0
Holds n at count = (n.start ≤ at) × (at + count ≤ n.start + n.len)
