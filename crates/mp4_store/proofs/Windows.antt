-- A part of the bytes that were read ahead is that part of the file.
use Rattle.std.proofs.Common.{◌≡◌, ◌∙◌, ℕ, ◌+◌, ◌-◌, ◌≤◌, List, take, drop, arith, ap, sym}
use Rattle.std.proofs.lemmas.List.{take-take, drop-drop, drop-take}
use Rattle.mp4_store.specs.words.Device.{range}

-- so many bytes behind k of them
pub part_of_front : (bytes more : List ℕ) (len k n : ℕ) → k + n ≤ len → take len bytes ≡ take len more → take n (drop k bytes) ≡ take n (drop k more)
part_of_front bytes more len k n le e =
    let longer : take (k + n) bytes ≡ take (k + n) more = sym (take-take (k + n) len bytes le) ∙ ap (take (k + n)) e ∙ take-take (k + n) len more le
    in sym (drop-take k n bytes) ∙ ap (drop k) longer ∙ drop-take k n more

pub part_of_range : (bytes file : List ℕ) (start len at n : ℕ) → start ≤ at → at + n ≤ start + len → take len bytes ≡ range file start len → take n (drop (at - start) bytes) ≡ range file at n
part_of_range bytes file start len at n from to e =
    let k_le : at - start + n ≤ len = omega (arith, from, to) in
    let place : start + (at - start) ≡ at = omega (arith, from) in
    part_of_front bytes (drop start file) len (at - start) n k_le e ∙ ap (take n) (drop-drop (at - start) start file ∙ ap (λ i. drop i file) place)
