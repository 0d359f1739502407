-- A sink that counts what is put.
use Rattle.std.specs.Prelude.{◌≡◌, ℕ, ◌+◌, ◌-◌, ◌^◌, min, List, [], ◌++◌, length}
use Rattle.std.proofs.Common.{arith, length-append}
use Rattle.mp4_answers.specs.format.Run.{Run}
use Rattle.mp4norm_c.specs.declared.counting.CountSink.{CountSink}
use Rattle.mp4norm_c.specs.words.Windows.{quiet_run}

-- so many bytes, as far as 64 bits go
abbrev pub as_counted : ℕ → ℕ
as_counted n = min n (2 ^ 64 - 1)

-- these bytes were put between the two states
abbrev pub Counted : CountSink → CountSink → List ℕ → Type 0
Counted s t bytes = (n : ℕ) → s.count ≡ as_counted n → t.count ≡ as_counted (n + length bytes)

-- nothing is put
pub counted_nothing : (s : CountSink) → Counted s s []
counted_nothing s n h = omega (arith, h)

-- one piece after the other
pub counted_on : (s t u : CountSink) (xs ys : List ℕ) → Counted s t xs → Counted t u ys
    → Counted s u (xs ++ ys)
counted_on s t u xs ys p q n h =
    let last = q (n + length xs) (p n h) in
    rw length-append (omega (arith, last))

-- the run over these bytes, into such a sink
abbrev pub count_run : List ℕ → CountSink → CountSink → Run
count_run file s t = quiet_run file (Counted s t)
