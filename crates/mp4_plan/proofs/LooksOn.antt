-- How many turns were looked at.
use Rattle.std.proofs.Common.{◌≡◌, ℕ, zero, suc, ◌+◌, ◌<◌, ◌≤◌, min, List, length, refl, arith}
use Rattle.std.specs.List.{sum_by}
use Rattle.mp4_present.specs.declared.track_info.TrackInfo.{TrackInfo}
use Rattle.mp4_plan.specs.words.Turns.{turns_left, IsSomeLeft}
use Rattle.mp4_plan.specs.format.TurnCount.{most_turns}
use Rattle.mp4_plan.specs.declared.schedule.Schedule.{Schedule}
use Rattle.mp4_plan.proofs.DueTurns.{at_first, at_other}

-- before the first turn none was looked at
pub begins_within : (tracks : List TrackInfo) (s : Schedule) (looks : ℕ) → s.tracks ≡ length tracks → s.left ≡ sum_by (λ (i : TrackInfo). i.samples) tracks → s.track ≡ 0
    → looks + turns_left s ≤ looks + most_turns (sum_by (λ (i : TrackInfo). i.samples) tracks) (length tracks)
begins_within tracks s looks many left first =
    let all = at_first s first in
    let few : min s.tracks 1 ≡ min (length tracks) 1 = omega (arith, many) in
    omega (arith, all, left, few)

-- one more
pub looks_on : (s on : Schedule) (began looks now most : ℕ) → looks + turns_left s ≤ began + most → now ≡ looks + 1 → turns_left on < turns_left s → now + turns_left on ≤ began + most
looks_on s on began looks now most within look less = omega (arith, within, look, less)

-- one more is within them
pub looks_within : (s : Schedule) (began looks now most : ℕ) → looks + turns_left s ≤ began + most → now ≡ looks + 1 → s.track < s.tracks → IsSomeLeft s → now ≤ began + most
looks_within s began looks now most within look lt some = by s.track refl
  where
    by : (k : ℕ) → s.track ≡ k → now ≤ began + most
    by zero z = let all = at_first s z in omega (arith, within, look, lt, all)
    by (suc k) z = let all = at_other s (omega (arith, z)) in let left = some (omega (arith, z)) lt in omega (arith, within, look, all, left)
