-- Bytes, names and escapes as lines of sums spell them.
use Rattle.std.specs.Prelude.{◌≡◌, ℕ, ◌+◌, ◌*◌, ◌<◌, ◌==◌, ◌&&◌, nat_lt, Bool, true, false, if◌then◌else◌, List, [], ◌∷◌, Option, Some, None, IsSomeAnd, Vec}
use Rattle.std.specs.Char.{digit_value}
use Rattle.std.specs.declared.alloc.Global.{Global}
use Rattle.mp4_answers.specs.format.SumLines.{escaped_name}
use Rattle.mp4_answers.specs.format.Texts.{hex_digits}

-- the byte that two hexadecimal digits spell, small or capital; none where one is no digit
abbrev pub byte_spelled : ℕ → ℕ → Option ℕ
byte_spelled high low = if nat_lt (digit_value high) 16 && nat_lt (digit_value low) 16
    then Some (16 * digit_value high + digit_value low) else None

-- the two small digits of a byte
abbrev pub Spells : ℕ → ℕ → ℕ → Type 0
Spells high low b = (b < 256) × (hex_digits 2 b ≡ high ∷ low ∷ [])

-- the byte that an escape says; none where there is no such escape
abbrev pub escape_said : ℕ → Option ℕ
escape_said b = if b == 110 then Some 10 else if b == 114 then Some 13
    else if b == 92 then Some 92 else None

-- a name was read, and it is this one
abbrev pub IsName : List ℕ → Option (Vec ℕ Global) → Type 0
IsName name read = IsSomeAnd read (λ v. v.items ≡ name)

-- a name that is spelled so, escaped or not
abbrev pub IsSpelled : Bool → List ℕ → List ℕ → Type 0
IsSpelled true spelled name = spelled ≡ escaped_name name
IsSpelled false spelled name = spelled ≡ name
