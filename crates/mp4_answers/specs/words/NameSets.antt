-- Names of a list, and a set of them.
use Rattle.std.specs.Prelude.{◌≡◌, ℕ, List, map, Vec}
use Rattle.std.specs.Borrow.{Bor}
use Rattle.std.specs.BTreeSet.{BTreeSet, contains_by}
use Rattle.std.specs.Cmp.Lexicographic.{slice_cmp}
use Rattle.std.specs.Ordering.{nat_cmp}
use Rattle.std.specs.declared.alloc.Global.{Global}
use Rattle.mp4_answers.specs.format.SumLines.{is_listed}

-- the bytes of each name
abbrev pub bytes_of : List (Vec ℕ Global) → List (List ℕ)
bytes_of names = map (λ (n : Vec ℕ Global). n.items) names

-- the set has these names, and no others
abbrev pub HasNames : List (List ℕ) → BTreeSet (Bor (List ℕ)) → Type 0
HasNames names set = (name : List ℕ)
    → contains_by (λ (k : Bor (List ℕ)). slice_cmp nat_cmp name k.now) set ≡ is_listed names name
