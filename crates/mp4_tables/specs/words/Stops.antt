-- Steps of a loop that stops at a fault.
use Rattle.std.specs.Prelude.{◌≡◌, ℕ, ◌+◌, ◌*◌, List, take}

-- each member of a front of the list took so many steps, and no other one, and that front by itself
-- has the fault
pub record StopsIn {A : Type 0} (each old new : ℕ) (IsWrong : List A → Type 0) (all : List A)
    : Type 0 where
  pub count : ℕ
  pub steps : new ≡ old + each * count
  pub wrong : IsWrong (take count all)
