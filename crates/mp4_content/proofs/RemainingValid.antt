-- What remains of what is valid is valid, where its tracks are not too long and their offsets fit.
use Rattle.std.proofs.Common.{map, sym, subst, arith}
use Rattle.std.specs.List.{AllByRecursion}
use Rattle.mp4_boxes.proofs.Each.{each_value}
use Rattle.mp4_present.specs.format.Presentation.{Track, Presentation, Valid, IsInTime}
use Rattle.mp4_content.specs.format.Reduced.{HasNearOffsets}
use Rattle.mp4_content.specs.declared.without.Without.{Without}
use Rattle.mp4_content.specs.format.Timescales.{scaled}
use Rattle.mp4_content.specs.format.TimescalesLaws.{ScaledInLimits}
use Rattle.mp4_content.specs.format.Remaining.{RemainsInLimits, movie_divisor, remaining, remaining_track}
use Rattle.mp4_content.specs.format.RemainingLaws.{EditsHoldNoTime, RemainingIsValid, RemainingStaysValid}
use Rattle.mp4_content.proofs.Numbered.{each_before, numbered_each}
use Rattle.mp4_content.proofs.RemainingScaled.{remaining_is_scaled}
use Rattle.mp4_content.proofs.TimescalesEdits.{edits_hold_no_scaled_time}
use Rattle.mp4_content.proofs.TimescalesValid.{each_unmapped, scaled_is_valid, scaled_stays_valid}

-- the limits of a presentation, tracks and all
abbrev AreInLimits : Presentation → Type 0
AreInLimits q = AllByRecursion (IsInTime q.movie.timescale) q.tracks × AllByRecursion HasNearOffsets q.tracks

module _ (l : Without) (p : Presentation) where
  abbrev track_left : Track → Track
  track_left t = remaining_track l (movie_divisor l p) t

  abbrev in_time : Track → Type 0
  in_time t = IsInTime (remaining l p).movie.timescale t

  limits_to : AreInLimits (remaining l p) → RemainsInLimits l p
  limits_to h = record {
    in_time = each_unmapped track_left in_time p.tracks (each_before l in_time in_time (λ place t h. h) 1 (map track_left p.tracks) h.0);
    in_range = each_unmapped track_left HasNearOffsets p.tracks (each_before l HasNearOffsets HasNearOffsets (λ place t h. h) 1 (map track_left p.tracks) h.1);
  }

  limits_from : RemainsInLimits l p → AreInLimits (remaining l p)
  limits_from h = (
    numbered_each l in_time in_time (λ place t some h. h) 1 (map track_left p.tracks) (omega arith) (each_value (λ (t : Track). in_time (track_left t)) in_time track_left (λ t h. h) p.tracks h.in_time),
    numbered_each l HasNearOffsets HasNearOffsets (λ place t some h. h) 1 (map track_left p.tracks) (omega arith) (each_value (λ (t : Track). HasNearOffsets (track_left t)) HasNearOffsets track_left (λ t h. h) p.tracks h.in_range),
  )

  pub from_scaled : ScaledInLimits l.timescales l p → RemainsInLimits l p
  from_scaled h = limits_to (subst AreInLimits (sym (remaining_is_scaled l p)) (h.in_time, h.in_range))

  to_scaled : RemainsInLimits l p → ScaledInLimits l.timescales l p
  to_scaled h = let limits = subst AreInLimits (remaining_is_scaled l p) (limits_from h) in record { in_time = limits.0; in_range = limits.1 }

  valid_of : Valid (scaled l.timescales l p) → Valid (remaining l p)
  valid_of v = subst Valid (sym (remaining_is_scaled l p)) v

  both_of : ScaledInLimits l.timescales l p × Valid (scaled l.timescales l p) → RemainsInLimits l p × Valid (remaining l p)
  both_of h = (from_scaled h.0, valid_of h.1)

pub remaining_is_valid : RemainingIsValid
remaining_is_valid l p v =
    let is = scaled_is_valid l.timescales l p v in
    (λ valid. from_scaled l p (is.0 (subst Valid (remaining_is_scaled l p) valid)), λ limits. valid_of l p (is.1 (to_scaled l p limits)))

pub remaining_stays_valid : RemainingStaysValid
remaining_stays_valid l p v stay = both_of l p (scaled_stays_valid l.timescales l p v stay)

pub edits_hold_no_time : EditsHoldNoTime
edits_hold_no_time l p v other ends origins =
    both_of l p (subst (λ b. ScaledInLimits b l p × Valid (scaled b l p)) (sym other) (edits_hold_no_scaled_time l p v ends origins))
