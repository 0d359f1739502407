-- Where bit rates lie in an `esds`, and how long the payload is without them, and without its ID.
use Rattle.std.proofs.Common.{◌≡◌, ℕ, zero, suc, ◌<◌, ◌≤◌, ◌^◌, Bool, true, false, if◌then◌else◌, List, length, refl, ◌∙◌, arith}
use Rattle.mp4_content.specs.format.BitRates.{content_at, length_number, rates_at, has_id, has_rates, id_zeroed, rates_zeroed, esds_left}
use Rattle.mp4_content.specs.format.Zeros.{zeroed}
use Rattle.mp4_content.proofs.Zeroed.{zeroed_length}

-- a number in at most five bytes of seven bits each
pub number_small : (width : ℕ) (bytes : List ℕ) (at : ℕ) → width ≤ 5 → length_number width bytes at < 2 ^ 35
unfolding length_number
number_small zero bytes at few = omega arith
number_small (suc zero) bytes at few = omega arith
number_small (suc (suc zero)) bytes at few = omega arith
number_small (suc (suc (suc zero))) bytes at few = omega arith
number_small (suc (suc (suc (suc zero)))) bytes at few = omega arith
number_small (suc (suc (suc (suc (suc zero))))) bytes at few = omega arith
number_small (suc (suc (suc (suc (suc (suc width)))))) bytes at few = absurd (omega (arith, few))

rates_length : (payload : List ℕ) → length (rates_zeroed payload) ≡ length payload
rates_length payload = by (has_rates payload)
  where
    by : (v : Bool) → length (if v then zeroed (rates_at payload) 11 payload else payload) ≡ length payload
    by true = zeroed_length (rates_at payload) 11 payload
    by false = refl

id_length : (payload : List ℕ) → length (id_zeroed payload) ≡ length payload
id_length payload = by (has_id payload)
  where
    by : (v : Bool) → length (if v then zeroed (content_at payload 4) 2 payload else payload) ≡ length payload
    by true = zeroed_length (content_at payload 4) 2 payload
    by false = refl

pub esds_length : (rates ids : Bool) (payload : List ℕ) → length (esds_left rates ids payload) ≡ length payload
esds_length true true payload = rates_length (id_zeroed payload) ∙ id_length payload
esds_length true false payload = rates_length payload
esds_length false true payload = id_length payload
esds_length false false payload = refl
