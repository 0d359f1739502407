-- What is known of bytes that are read by place.
use Rattle.std.specs.Prelude.{ℕ, ◌-◌, nat_eq, List, ◌++◌, length, take, replicate, Option, None, Some, Bool, false}

-- they are known, and so many
abbrev pub is_known : Option (List ℕ) → ℕ → Bool
is_known None size = false
is_known (Some list) size = nat_eq (length list) size

-- So many bytes: those that are known, as far as they go, and zeros for those that aren't.
abbrev pub file_known : Option (List ℕ) → ℕ → List ℕ
file_known None size = replicate size 0
file_known (Some list) size = take size list ++ replicate (size - length list) 0
