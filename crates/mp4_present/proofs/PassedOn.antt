-- Samples that are passed one by one.
use Rattle.std.proofs.Common.{◌≡◌, ℕ, ◌+◌, ◌≤◌, List, [], ◌∷◌, length, drop, Option, None, Some, refl, ap, ◌∙◌, arith}
use Rattle.std.specs.List.{slice_get}
use Rattle.std.proofs.lemmas.List.{drop-drop, length-drop}
use Rattle.mp4_tables.specs.declared.sample.SampleAt.{SampleAt}
use Rattle.mp4_present.proofs.JoinedSamples.{length_one_more}

empty : (xs : List SampleAt) → ◌≡◌ {A = Option SampleAt} None (slice_get xs 0) → length xs ≡ 0
empty [] e = refl
empty (x ∷ xs) e = absurd cc

-- one more
pub one_passed : (n : ℕ) (xs now later : List SampleAt) (s : SampleAt) → now ≡ drop n xs → Some s ≡ slice_get now 0 → later ≡ drop 1 now → (later ≡ drop (n + 1) xs) × (n + 1 ≤ length xs)
one_passed n xs now later s e g d =
    let more = length_one_more now later s g d in
    let long = ap (λ (ss : List SampleAt). length ss) e in
    (d ∙ ap (drop 1) e ∙ drop-drop 1 n xs, omega (arith, more, long, length-drop n xs))

-- there are no more
pub none_passed : (n : ℕ) (xs now : List SampleAt) → now ≡ drop n xs → ◌≡◌ {A = Option SampleAt} None (slice_get now 0) → length xs ≤ n
none_passed n xs now e g =
    let none = empty now g in
    let long = ap (λ (ss : List SampleAt). length ss) e in
    omega (arith, none, long, length-drop n xs)
