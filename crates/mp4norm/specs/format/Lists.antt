-- Lists of files, by their lines.
use Rattle.std.specs.Prelude.{◌≡◌, ◌⊎◌, ℕ, ◌+◌, ◌-◌, ◌<◌, ◌≤◌, nat_lt, List, [], ◌∷◌, map, filter, Bool, true, false, not, ◌&&◌, ◌||◌, ◌==◌, if◌then◌else◌, length, take, drop, slice_index, Vec}
use Rattle.std.specs.List.{list_any}
use Rattle.std.specs.declared.alloc.Global.{Global}

-- this is the place of the list's first byte of this value, or its length where it has none
abbrev pub IsPartLength : ℕ → List ℕ → ℕ → Type 0
IsPartLength end list n =
    (n ≤ length list) × ((k : ℕ) → k < n → slice_index list k ≡ end → ⊥)
    × (n < length list → slice_index list n ≡ end)

-- the first part of a list whose parts end with such a byte, and what is left behind that
abbrev pub FirstPart : ℕ → List ℕ → List ℕ → List ℕ → Type 0
FirstPart end list part rest = (n : ℕ) × IsPartLength end list n × (part ≡ take n list)
    × (rest ≡ drop 1 (drop n list))

-- a line without a carriage return at its end
abbrev pub without_return : List ℕ → List ℕ
without_return line = if nat_lt 0 (length line) && slice_index line (length line - 1) == 13
    then take (length line - 1) line else line

-- a line is a name if it isn't empty and doesn't begin with a number sign
abbrev pub is_name : List ℕ → Bool
is_name [] = false
is_name (byte ∷ line) = not (byte == 35)

-- ---- its names

-- the parts of a list; what stands behind its last such byte is one where it isn't empty
abbrev pub put_before : ℕ → List (List ℕ) → List (List ℕ)
put_before byte [] = (byte ∷ []) ∷ []
put_before byte (part ∷ parts) = (byte ∷ part) ∷ parts

abbrev pub parts_of : ℕ → List ℕ → List (List ℕ)
parts_of end [] = []
parts_of end (byte ∷ bytes) =
    if byte == end then [] ∷ parts_of end bytes else put_before byte (parts_of end bytes)

-- its lines
abbrev pub lines_of : List ℕ → List (List ℕ)
lines_of list = parts_of 10 list

-- names that are ended by zero bytes each
abbrev pub ended_names : List ℕ → List (List ℕ)
ended_names list = parts_of 0 list

-- those of its lines that are names, each without a carriage return at its end
abbrev pub names_of : List ℕ → List (List ℕ)
names_of list = filter is_name (map without_return (lines_of list))

-- a name that isn't taken, where so many stand before it: there are as many as there may be, or it
-- has a zero byte
abbrev pub is_odd : ℕ → ℕ → List ℕ → Bool
is_odd most count name = list_any (λ b. b == 0) name || not (nat_lt count most)

abbrev pub AreTaken : ℕ → ℕ → List (List ℕ) → Type 0
AreTaken most count [] = Unit {0}
AreTaken most count (name ∷ names) =
    (is_odd most count name ≡ false) × AreTaken most (count + 1) names

abbrev pub HasOdd : ℕ → ℕ → List (List ℕ) → Type 0
HasOdd most count [] = ⊥
HasOdd most count (name ∷ names) =
    (is_odd most count name ≡ true) ⊎ HasOdd most (count + 1) names

-- the bytes of each name
abbrev pub bytes_of : List (Vec ℕ Global) → List (List ℕ)
bytes_of names = map (λ (n : Vec ℕ Global). n.items) names

-- these are the names of the list, and each is taken
abbrev pub AreNames : ℕ → List ℕ → List (List ℕ) → Type 0
AreNames most list names = (names ≡ names_of list) × AreTaken most 0 names
