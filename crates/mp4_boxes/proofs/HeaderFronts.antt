-- A header is read in the first 16 bytes that are left, or in all of them.
use Rattle.std.proofs.Common.{◌≡◌, ℕ, ◌+◌, ◌-◌, ◌<◌, ◌≤◌, Bool, true, cond, List, take, drop, Result, Ok, Err, refl, sym, ap, ◌∙◌, arith, inl, inr, ltb, eqb}
use Rattle.std.specs.Prelude.{min, ◌⊎◌}
use Rattle.std.proofs.lemmas.Bool.{cases_lt, lt-ltb}
use Rattle.std.proofs.lemmas.List.{drop-take, take-take}
use Rattle.byteorder.specs.Numbers.{big_from-take}
use Rattle.mp4_boxes.specs.format.Bytes.{field}
use Rattle.mp4_boxes.specs.format.Box.{Header, fitting, header_in}
use Rattle.mp4_boxes.specs.format.BoxFaults.{located, header_there, type_of}
use Rattle.mp4_boxes.specs.declared.fault.Kind.{Kind}
use Rattle.mp4_boxes.specs.declared.fault.Kind.TheVariants.{ShortHeader, BadSize}

-- what a header says, by its type and its two numbers
said : Bool → ℕ → List ℕ → ℕ → ℕ → Result Header Kind
said is_open left kind small large =
    cond (ltb left 8) (Err ShortHeader)
    (cond (eqb small 1) (cond (ltb left 16) (Err ShortHeader) (fitting left 16 (record { kind = kind; length = 16; size = large })))
    (cond (eqb small 0) (cond is_open (Ok (record { kind = kind; length = 8; size = left })) (Err BadSize)) (fitting left 8 (record { kind = kind; length = 8; size = small }))))

header_said : (is_open : Bool) (left : ℕ) (bytes : List ℕ) → header_in is_open left bytes ≡ said is_open left (type_of bytes) (field bytes 0 4) (field bytes 8 8)
unfolding said
header_said is_open left bytes = refl

type-take : (bytes : List ℕ) (n : ℕ) → 8 ≤ n → type_of (take n bytes) ≡ type_of bytes
type-take bytes n le =
    let split : 4 + (n - 4) ≡ n = omega arith in
    ap (λ (k : ℕ). take 4 (drop 4 (take k bytes))) (sym split) ∙ ap (take 4) (drop-take 4 (n - 4) bytes) ∙ take-take 4 (n - 4) (drop 4 bytes) (omega arith)

short : (is_open : Bool) (left : ℕ) (kind other container : List ℕ) (small large small' large' at : ℕ) → ltb left 8 ≡ true
    → located container at kind (said is_open left kind small large) ≡ located container at other (said is_open left other small' large')
unfolding said
short is_open left kind other container small large small' large' at e = rw e refl

middle : (is_open : Bool) (left : ℕ) (kind : List ℕ) (small large large' : ℕ) → ltb left 16 ≡ true → said is_open left kind small large ≡ said is_open left kind small large'
unfolding said
middle is_open left kind small large large' e = rw e refl

-- The header in some first bytes, of which there are 16 or all that are left, is the header in front of them all.
pub header_there-take : (is_open : Bool) (left : ℕ) (bytes container : List ℕ) (at n : ℕ) → min left 16 ≤ n → header_there is_open left (take n bytes) container at ≡ header_there is_open left bytes container at
header_there-take is_open left bytes container at n enough =
    let front = header_said is_open left (take n bytes) in
    let all = header_said is_open left bytes in
    ap (located container at (type_of (take n bytes))) front ∙ by (cases_lt left 8) (cases_lt left 16) ∙ ap (located container at (type_of bytes)) (sym all)
  where
    by : (left < 8) ⊎ (8 ≤ left) → (left < 16) ⊎ (16 ≤ left)
        → located container at (type_of (take n bytes)) (said is_open left (type_of (take n bytes)) (field (take n bytes) 0 4) (field (take n bytes) 8 8)) ≡ located container at (type_of bytes) (said is_open left (type_of bytes) (field bytes 0 4) (field bytes 8 8))
    by (inl lt) m = short is_open left (type_of (take n bytes)) (type_of bytes) container (field (take n bytes) 0 4) (field (take n bytes) 8 8) (field bytes 0 4) (field bytes 8 8) at (lt-ltb left 8 lt)
    by (inr le) (inl lt) =
        let n8 : 8 ≤ n = omega arith in
        let k = type-take bytes n n8 in
        let f : field (take n bytes) 0 4 ≡ field bytes 0 4 = big_from-take 0 4 n bytes (omega arith) in
        (λ i. located container at (k i) (said is_open left (k i) (f i) (field (take n bytes) 8 8))) ∙ ap (located container at (type_of bytes)) (middle is_open left (type_of bytes) (field bytes 0 4) (field (take n bytes) 8 8) (field bytes 8 8) (lt-ltb left 16 lt))
    by (inr le) (inr ge) =
        let n16 : 16 ≤ n = omega arith in
        let k = type-take bytes n (omega arith) in
        let f : field (take n bytes) 0 4 ≡ field bytes 0 4 = big_from-take 0 4 n bytes (omega arith) in
        let g : field (take n bytes) 8 8 ≡ field bytes 8 8 = big_from-take 8 8 n bytes (omega arith) in
        λ i. located container at (k i) (said is_open left (k i) (f i) (g i))
