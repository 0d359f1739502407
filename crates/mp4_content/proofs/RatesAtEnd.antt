-- Descriptions that end in `btrt`s, and without them.
use Rattle.std.proofs.Common.{◌≡◌, ℕ, zero, suc, ◌+◌, ◌-◌, ◌<◌, ◌≤◌, true, false, List, [], ◌∷◌, length, take, drop, refl, arith}
use Rattle.std.specs.Prelude.{◌==◌, nat_le, codes, bytes_eq}
use Rattle.std.proofs.lemmas.Bool.{le-leb, leb-true, eq-eqb, eqb-true}
use Rattle.std.proofs.lemmas.List.{length-take-le}
use Rattle.mp4_boxes.specs.format.Bytes.{field}
use Rattle.mp4_boxes.proofs.Plain.{not_true_is}
use Rattle.mp4_content.specs.format.BitRates.{ends_in_rates, shorter_by, other_left}
use Rattle.mp4_content.proofs.FirstBoxes.{chosen_same, three}

pub ends_so : (payload : List ℕ) → ends_in_rates payload ≡ true → (28 ≤ length payload) × (field payload (length payload - 20) 4 ≡ 20) × (bytes_eq (take 4 (drop (length payload - 16) payload)) (codes "btrt") ≡ true)
unfolding ends_in_rates
ends_so payload e =
    let h = three (nat_le 28 (length payload)) (field payload (length payload - 20) 4 == 20) (bytes_eq (take 4 (drop (length payload - 16) payload)) (codes "btrt")) e in
    (leb-true 28 (length payload) h.0, eqb-true (field payload (length payload - 20) 4) 20 h.1, h.2)

pub ends_if : (payload : List ℕ) → 28 ≤ length payload → field payload (length payload - 20) 4 ≡ 20 → bytes_eq (take 4 (drop (length payload - 16) payload)) (codes "btrt") ≡ ends_in_rates payload
unfolding ends_in_rates
ends_if payload long size = rw (le-leb 28 (length payload) long, eq-eqb (field payload (length payload - 20) 4) 20 size) refl

pub ends_short : (payload : List ℕ) → length payload < 28 → ends_in_rates payload ≡ false
ends_short payload few = not_true_is (ends_in_rates payload) (λ e. let long = (ends_so payload e).0 in omega (arith, long, few))

pub ends_other : (payload : List ℕ) → (field payload (length payload - 20) 4 ≡ 20 → ⊥) → ends_in_rates payload ≡ false
ends_other payload not_so = not_true_is (ends_in_rates payload) (λ e. not_so (ends_so payload e).1)

-- ---- without them

pub taken_long : (payload : List ℕ) → ends_in_rates payload ≡ true → length (take (length payload - 20) payload) + 20 ≡ length payload
taken_long payload e = let long = (ends_so payload e).0 in omega (arith, long, length-take-le (length payload - 20) payload (omega (arith, long)))

-- however many are asked for beyond all
shorter_enough : (n m : ℕ) (payload : List ℕ) → length payload ≤ n → length payload ≤ m → shorter_by n payload ≡ shorter_by m payload
shorter_enough zero zero payload h k = refl
shorter_enough zero (suc m) payload h k = rw (ends_short payload (omega (arith, h))) refl
shorter_enough (suc n) zero payload h k = rw (ends_short payload (omega (arith, k))) refl
shorter_enough (suc n) (suc m) payload h k =
    let front = take (length payload - 20) payload in
    chosen_same (ends_in_rates payload) (shorter_by n front) (shorter_by m front) payload
    (λ e. let less = taken_long payload e in shorter_enough n m front (omega (arith, less, h)) (omega (arith, less, k)))

pub shorter_stop : (n : ℕ) (payload : List ℕ) → ends_in_rates payload ≡ false → shorter_by n payload ≡ payload
shorter_stop zero payload e = refl
shorter_stop (suc n) payload e = rw e refl

pub shorter_more : (payload : List ℕ) → ends_in_rates payload ≡ true → other_left (take (length payload - 20) payload) ≡ other_left payload
shorter_more [] e = absurd (let long = (ends_so [] e).0 in omega (arith, long))
shorter_more (b ∷ payload) e =
    let front = take (length (b ∷ payload) - 20) (b ∷ payload) in
    let less = taken_long (b ∷ payload) e in
    rw e (shorter_enough (length front) (length payload) front (omega arith) (omega (arith, less)))
