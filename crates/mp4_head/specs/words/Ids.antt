-- Which IDs were met.
use Rattle.std.specs.Prelude.{◌≡◌, ℕ, List, false, true, nat_eq}
use Rattle.std.specs.List.{list_any}
use Rattle.std.specs.Ordering.{nat_cmp}
use Rattle.std.specs.BTreeSet.{BTreeSet, contains, Updates}

-- the set has these numbers
abbrev pub HasIds : BTreeSet ℕ → List ℕ → Type 0
HasIds ids numbers = (n : ℕ) → contains nat_cmp ids n ≡ list_any (nat_eq n) numbers

-- the number was not in the set, and now is
pub record AddsId (old new : BTreeSet ℕ) (id : ℕ) : Type 0 where
  pub new_there : contains nat_cmp old id ≡ false
  pub added : Updates nat_cmp old new id true
