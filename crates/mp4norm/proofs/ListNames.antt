-- The names of a list, line by line.
use Rattle.std.proofs.Common.{◌≡◌, ◌∙◌, inl, inr, refl, ℕ, zero, suc, ◌+◌, ◌-◌, ◌<◌, List, [], ◌∷◌, ◌++◌, length, take, drop, ap, subst, arith}
use Rattle.std.specs.Prelude.{true, false, map, filter, Vec, ◌==◌}
use Rattle.std.proofs.lemmas.List.{length-map, map-append}
use Rattle.std.proofs.lemmas.Bool.Decides.{nat_tests}
use Rattle.std.specs.declared.alloc.Global.{Global}
use Rattle.mp4norm.specs.format.Lists.{FirstPart, IsPartLength, AreTaken, HasOdd, bytes_of, is_name, is_odd, lines_of, names_of, parts_of, without_return}
use Rattle.mp4_boxes.proofs.Plain.{same_eq}

-- ---- a list is its first line and the lines behind

differs : (a b : ℕ) → (a ≡ b → ⊥) → (a == b) ≡ false
differs a b e = grind (arith, nat_tests)

parts_first : (end : ℕ) (list : List ℕ) (n : ℕ) → 0 < length list → IsPartLength end list n → parts_of end list ≡ take n list ∷ parts_of end (drop 1 (drop n list))
parts_first end [] n some h = absurd (omega (arith, some))
parts_first end (b ∷ bs) zero some (le, before, is) = let e : b ≡ end = is (omega arith) in rw (e, same_eq end) refl
parts_first end (b ∷ []) (suc zero) some (le, before, is) = rw (differs b end (before 0 (omega arith))) refl
parts_first end (b ∷ []) (suc (suc n)) some (le, before, is) = absurd (omega (arith, le))
parts_first end (b ∷ c ∷ bs) (suc n) some (le, before, is) =
    let more = parts_first end (c ∷ bs) n (omega arith) (omega (arith, le), (λ k lt. before (suc k) (omega (arith, lt))), λ lt. is (omega (arith, lt))) in
    rw (differs b end (before 0 (omega arith)), more) refl

pub part_first : (end : ℕ) (list part rest : List ℕ) → 0 < length list → FirstPart end list part rest → parts_of end list ≡ part ∷ parts_of end rest
part_first end list part rest some (n, l, e, f) = parts_first end list n some l ∙ rw (e, f) refl

pub names_first : (list line rest : List ℕ) → 0 < length list → FirstPart 10 list line rest → lines_of list ≡ line ∷ lines_of rest
names_first list line rest some first = part_first 10 list line rest some first

-- ---- and its names those before, that of the line, and those behind

pub named_first : (list line rest name : List ℕ) (done : List (List ℕ)) (all : List (List ℕ)) → all ≡ done ++ names_of list → lines_of list ≡ line ∷ lines_of rest → name ≡ without_return line → is_name name ≡ true → all ≡ done ++ name ∷ names_of rest
named_first list line rest name done all e f is n =
    let m : is_name (without_return line) ≡ true = subst (λ (ns : List ℕ). is_name ns ≡ true) is n in
    let own : done ++ filter is_name (without_return line ∷ map without_return (lines_of rest)) ≡ done ++ name ∷ names_of rest = rw (m, is) refl in
    e ∙ ap (λ (ls : List (List ℕ)). done ++ filter is_name (map without_return ls)) f ∙ own

pub passed_first : (list line rest name : List ℕ) (done : List (List ℕ)) (all : List (List ℕ)) → all ≡ done ++ names_of list → lines_of list ≡ line ∷ lines_of rest → name ≡ without_return line → is_name name ≡ false → all ≡ done ++ names_of rest
passed_first list line rest name done all e f is n =
    let m : is_name (without_return line) ≡ false = subst (λ (ns : List ℕ). is_name ns ≡ false) is n in
    let own : done ++ filter is_name (without_return line ∷ map without_return (lines_of rest)) ≡ done ++ names_of rest = rw m refl in
    e ∙ ap (λ (ls : List (List ℕ)). done ++ filter is_name (map without_return ls)) f ∙ own

-- ---- which are taken

pub taken_more : (most count : ℕ) (done : List (List ℕ)) (name : List ℕ) → AreTaken most count done → is_odd most (count + length done) name ≡ false → AreTaken most count (done ++ name ∷ [])
taken_more most count [] name t f = (subst (λ (n : ℕ). is_odd most n name ≡ false) (omega arith) f, tt)
taken_more most count (d ∷ done) name (t, ts) f = (t, taken_more most (count + 1) done name ts (subst (λ (n : ℕ). is_odd most n name ≡ false) (omega arith) f))

pub odd_there : (most count : ℕ) (done : List (List ℕ)) (name : List ℕ) (more : List (List ℕ)) → is_odd most (count + length done) name ≡ true → HasOdd most count (done ++ name ∷ more)
odd_there most count [] name more o = inl (subst (λ (n : ℕ). is_odd most n name ≡ true) (omega arith) o)
odd_there most count (d ∷ done) name more o = inr (odd_there most (count + 1) done name more (subst (λ (n : ℕ). is_odd most n name ≡ true) (omega arith) o))

-- ---- of names that are held

pub held_more : (names : List (Vec ℕ Global)) (v : Vec ℕ Global) → bytes_of (names ++ v ∷ []) ≡ bytes_of names ++ v.items ∷ []
held_more names v = map-append (λ (n : Vec ℕ Global). n.items) names (v ∷ [])

pub held_count : (names : List (Vec ℕ Global)) → length (bytes_of names) ≡ length names
held_count names = length-map names (λ (n : Vec ℕ Global). n.items)
