-- Windows of texts that are put piece by piece.
use Rattle.std.proofs.Common.{◌≡◌, ℕ, zero, suc, ◌+◌, ◌-◌, ◌≤◌, min, List, [], ◌∷◌, ◌++◌, length, take, drop, append_assoc, length-append, length-drop, length-take, refl, sym, ap, arith}
use Rattle.std.proofs.lemmas.Grind.{common_steps}
use Rattle.std.proofs.lemmas.List.{take_all}
use Rattle.std.proofs.Math.Seq.{take-append_seam, drop-append-add}
use Rattle.std.specs.List.{splice}
use native.Mathlib.Numerals.{unary_clauses}
use Rattle.mp4norm_c.specs.format.Exports.{laid_over, window}

-- what is dropped of a text that goes on
drop-both : (n : ℕ) (xs ys : List ℕ) → drop n (xs ++ ys) ≡ drop n xs ++ drop (n - length xs) ys
drop-both zero xs ys = let e : 0 - length xs ≡ 0 = omega arith in rw e refl
drop-both (suc n) [] ys = simp unary_clauses refl
drop-both (suc n) (x ∷ xs) ys = simp unary_clauses (drop-both n xs ys)

-- the first bytes of a text that goes on
take-both : (n : ℕ) (xs ys : List ℕ) → take n (xs ++ ys) ≡ take n xs ++ take (n - length xs) ys
take-both zero xs ys = let e : 0 - length xs ≡ 0 = omega arith in rw e refl
take-both (suc n) [] ys = simp unary_clauses refl
take-both (suc n) (x ∷ xs) ys = simp unary_clauses (ap (λ l. x ∷ l) (take-both n xs ys))

pub drop-none : (n : ℕ) → drop {A = ℕ} n [] ≡ []
drop-none zero = refl
drop-none (suc n) = refl

pub take-none : (n : ℕ) → take {A = ℕ} n [] ≡ []
take-none zero = refl
take-none (suc n) = refl

-- as many bytes are dropped as there are, or more
drop-min : (n : ℕ) (xs : List ℕ) → drop (min (length xs) n) xs ≡ drop n xs
drop-min zero xs = simp unary_clauses refl
drop-min (suc n) [] = simp unary_clauses refl
drop-min (suc n) (x ∷ xs) = simp unary_clauses (drop-min n xs)

take-min : (n : ℕ) (xs : List ℕ) → take (min (length xs) n) xs ≡ take n xs
take-min zero xs = simp unary_clauses refl
take-min (suc n) [] = simp unary_clauses refl
take-min (suc n) (x ∷ xs) = simp unary_clauses (ap (λ l. x ∷ l) (take-min n xs))

pub length-window : (from most : ℕ) (text : List ℕ) → length (window from most text) ≡ min most (length text - from)
length-window from most text = grind (arith, length-take, length-drop)

-- the window of a text that goes on, by what is left of its room
pub window-more : (from most : ℕ) (put xs : List ℕ) → window from most (put ++ xs) ≡ window from most put ++ take (most - length (window from most put)) (drop (from - length put) xs)
window-more from most put xs =
    let left : most - length (drop from put) ≡ most - length (window from most put) = rw (length-window from most put, length-drop) (omega arith) in
    rw (drop-both from put xs) (rw (sym left) (take-both most (drop from put) (drop (from - length put) xs)))

-- a piece is laid into a buffer behind what is there
pub laid-more : (kept piece before : List ℕ) → length kept + length piece ≤ length before → splice (laid_over kept before) (length kept) (length kept + length piece) piece ≡ laid_over (kept ++ piece) before
laid-more kept piece before h =
    rw (take-append_seam kept (drop (length kept) before), drop-append-add kept (drop (length kept) before) (length piece), length-append) (grind (arith, append_assoc, common_steps))

pub length-laid : (kept before : List ℕ) → length kept ≤ length before → length (laid_over kept before) ≡ length before
length-laid kept before h = rw (length-append, length-drop) (omega arith)

-- what of a piece lies behind the beginning of the window
pub behind : (k : ℕ) (piece : List ℕ) → take (length piece - k) (drop k piece) ≡ drop k piece
behind k piece = take_all (length piece - k) (drop k piece) (rw length-drop (omega arith))

-- What becomes of a window when a piece is kept: `k` bytes of it lie before the window, and `c` of the rest have room.
pub many_kept : (from : ℕ) (before put piece : List ℕ) (k c : ℕ) → k ≡ min (length piece) (from - length put) → c ≡ min (length piece - k) (length before - length (window from (length before) put)) → length (window from (length before) put) + c ≡ length (window from (length before) (put ++ piece))
many_kept from before put piece k c e f =
    let many = length-window from (length before) put in
    rw (length-window from (length before) (put ++ piece), length-append) (omega (arith, many, e, f))

pub bytes_kept : (from : ℕ) (before put piece : List ℕ) (k c : ℕ) → k ≡ min (length piece) (from - length put) → c ≡ min (length piece - k) (length before - length (window from (length before) put))
    → window from (length before) put ++ take c (drop k piece) ≡ window from (length before) (put ++ piece)
bytes_kept from before put piece k c e f =
    let rest : drop k piece ≡ drop (from - length put) piece = rw e (drop-min (from - length put) piece) in
    let fits : c ≡ min (length (drop k piece)) (length before - length (window from (length before) put)) = rw length-drop f in
    rw (window-more from (length before) put piece, sym rest, fits) (ap (λ l. window from (length before) put ++ l) (take-min (length before - length (window from (length before) put)) (drop k piece)))

pub laid_kept : (from : ℕ) (before put piece : List ℕ) (k c : ℕ) → k ≡ min (length piece) (from - length put) → c ≡ min (length piece - k) (length before - length (window from (length before) put))
    → splice (laid_over (window from (length before) put) before) (length (window from (length before) put)) (length (window from (length before) put) + c) (take c (drop k piece)) ≡ laid_over (window from (length before) (put ++ piece)) before
laid_kept from before put piece k c e f =
    let w = window from (length before) put in
    let long : length (take c (drop k piece)) ≡ c = rw (length-take, length-drop) (omega (arith, f)) in
    let many = length-window from (length before) put in
    let fits : length w + length (take c (drop k piece)) ≤ length before = rw long (omega (arith, many, f)) in
    rw (sym (bytes_kept from before put piece k c e f)) (let laid = laid-more w (take c (drop k piece)) before fits in rw long at laid)
