-- Clauses of an answer, by whether it is Ok.
use Rattle.std.specs.Prelude.{Result, Ok, Err, OnOk, OnErr, MatchResult}

-- what is so at Ok and what is so at Err, in one
pub match_both : {T E : Type 0} (A B : Type 0) (r : Result T E) → OnOk r A → OnErr r B → MatchResult r (λ _. A) (λ _. B)
match_both A B (Ok x) a b = a
match_both A B (Err e) a b = b

-- the same, each where something else is so
pub told_ok : {T E : Type 0} (A B : Type 0) (r : Result T E) → (A → OnOk r B) → OnOk r (A → B)
told_ok A B (Ok x) f = f
told_ok A B (Err e) f = tt

-- what is so anyway
pub ok_anyway : {T E : Type 0} (A : Type 0) (r : Result T E) → A → OnOk r A
ok_anyway A (Ok x) a = a
ok_anyway A (Err e) a = tt
