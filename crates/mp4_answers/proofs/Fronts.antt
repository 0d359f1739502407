-- Bytes that are copied together with some that follow them.
use Rattle.std.proofs.Common.{◌≡◌, ℕ, ◌+◌, ◌-◌, ◌≤◌, List, ◌++◌, length, take, drop, sym, ap, ◌∙◌, take-take, length-take-le, length-append, length-drop, arith}
use Rattle.std.proofs.Math.Seq.{take-append-add, take-append_seam}

-- more of the bytes were copied than are wanted
pub wanted_front : (old new bytes : List ℕ) (at len most : ℕ) → at ≤ length old → len ≤ most → most ≤ length bytes → take (at + length (take most bytes)) new ≡ take at old ++ take most bytes → take (at + len) new ≡ take at old ++ take len bytes
wanted_front old new bytes at len most within few there copied =
    let long = length-take-le most bytes there in
    let place = length-take-le at old within in
    let e : at + len ≤ at + length (take most bytes) = omega arith in
    sym (take-take (at + len) (at + length (take most bytes)) new e)
    ∙ ap (take (at + len)) copied
    ∙ ap (λ n. take (n + len) (take at old ++ take most bytes)) (sym place)
    ∙ take-append-add (take at old) (take most bytes) len
    ∙ ap (λ (front : List ℕ). take at old ++ front) (take-take len most bytes few)

-- a line that ends at a place, of a text that begins where the line does
pub line_front : (text old line : List ℕ) (start longest : ℕ) → drop start text ≡ line ++ drop longest old → length text ≡ length old → longest ≤ length old → start ≤ longest → take (longest - start) (drop start text) ≡ line
line_front text old line start longest written same within before =
    let whole = ap length written ∙ length-append line (drop longest old) in
    let left = length-drop start text in
    let behind = length-drop longest old in
    let long : longest - start ≡ length line = omega arith in
    rw (long, written) (take-append_seam line (drop longest old))
