-- Headers as they are written into 16 bytes.
use Rattle.std.proofs.Common.{◌≡◌, ℕ, ◌+◌, ◌<◌, ◌≤◌, ◌^◌, true, false, List, ◌++◌, length, take, drop, ap, ◌∙◌, arith, length-append, add_comm}
use Rattle.std.specs.Prelude.{nat_lt}
use Rattle.std.proofs.lemmas.Bool.{lt-ltb, le-ltb}
use Rattle.std.proofs.lemmas.Slice.{take-put_mid}
use Rattle.std.proofs.lemmas.List.{length-take}
use borrow.Rule.Slice.PartMut.{put_mid}
use Rattle.byteorder.specs.Endian.{big_bytes}
use Rattle.mp4_boxes.specs.format.Written.{header_bytes}

-- a size and a type
front_is : (kind buf part rest : List ℕ) (size : ℕ) → buf ≡ big_bytes 4 size ++ rest → part ≡ kind → length kind ≡ 4 → take 8 (put_mid 4 4 buf part) ≡ big_bytes 4 size ++ kind
front_is kind buf part rest size b p n =
    let l : length part ≡ 4 = ap length p ∙ n in
    let m : length buf ≡ 4 + length rest = ap length b ∙ length-append (big_bytes 4 size) rest in
    take-put_mid 4 4 buf part 8 (omega arith) (omega arith) ∙ (λ i. take 4 (b i) ++ p i)

pub small_header : (kind buf part rest : List ℕ) (payload size : ℕ) → buf ≡ big_bytes 4 size ++ rest → part ≡ kind → length kind ≡ 4 → size ≡ payload + 8 → payload + 8 < 2 ^ 32
    → take 8 (put_mid 4 4 buf part) ≡ header_bytes kind payload
small_header kind buf part rest payload size b p n s lt =
    let e : size ≡ 8 + payload = omega arith in
    let small : nat_lt (8 + payload) (2 ^ 32) ≡ true = lt-ltb (8 + payload) (2 ^ 32) (omega arith) in
    rw small (front_is kind buf part rest size b p n ∙ ap (λ (k : ℕ). big_bytes 4 k ++ kind) e)

pub large_header : (kind buf part rest tail : List ℕ) (payload : ℕ) → buf ≡ big_bytes 4 1 ++ rest → length rest ≡ 12 → part ≡ kind → length kind ≡ 4 → tail ≡ big_bytes 8 (payload + 16) → 2 ^ 32 ≤ payload + 8
    → take 16 (put_mid 8 8 (put_mid 4 4 buf part) tail) ≡ header_bytes kind payload
large_header kind buf part rest tail payload b r p n t le =
    let large : nat_lt (8 + payload) (2 ^ 32) ≡ false = le-ltb (8 + payload) (2 ^ 32) (omega arith) in
    let l : length tail ≡ 8 = ap length t in
    let m : length buf ≡ 16 = ap length b ∙ length-append (big_bytes 4 1) rest ∙ ap (λ (k : ℕ). 4 + k) r in
    let f = front_is kind buf part rest 1 b p n in
    let k : 8 ≤ length (put_mid 4 4 buf part) = omega (arith, m, length-append (take 4 buf) (part ++ drop 4 (drop 4 buf)), length-append part (drop 4 (drop 4 buf)), length-take 4 buf, ap (λ (x : List ℕ). length x) p, n) in
    rw large (take-put_mid 8 8 (put_mid 4 4 buf part) tail 16 (omega arith) k ∙ (λ i. f i ++ t i) ∙ ap (λ (x : ℕ). (big_bytes 4 1 ++ kind) ++ big_bytes 8 x) (add_comm payload 16))
