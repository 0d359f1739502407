-- Samples of a file go into a piece exactly where those of the presentation do that they are.
use Rattle.std.proofs.Common.{◌≡◌, ℕ, zero, suc, ◌+◌, ◌*◌, ◌^◌, ◌/◌, ◌%◌, nat_le, ◌==◌, ◌&&◌, not, cond, List, [], ◌∷◌, take, drop, Some, None, refl, ap, ◌∙◌}
use Rattle.std.specs.List.{prefix_len}
use Rattle.mp4_tables.specs.format.Groups.{GroupKey}
use Rattle.mp4_tables.specs.declared.sample.SampleAt.{SampleAt}
use Rattle.mp4_content.specs.format.TimedSamples.{TimedSample}
use Rattle.mp4_plan.specs.format.Normal.{first_description}
use Rattle.mp4_plan.specs.words.Ends.{has_ended, goes_in}
use Rattle.mp4_plan.specs.words.Gathering.{description_in, more_of}
use Rattle.mp4_plan.specs.words.PiecesComing.{stops}
use Rattle.mp4_content.specs.words.TakenSamples.{IsTaken, AreTaken}
use Rattle.mp4_plan.specs.words.Taken.{PiecesTakeAlike}
use Rattle.mp4_plan.specs.words.TurnLaws.{goes, turn_count}
use Rattle.mp4_plan.specs.declared.ends.End.{End}
use Rattle.mp4_plan.specs.declared.ends.End.TheVariants.{Sync, Before}

module _ (file : List ℕ) (keys : List GroupKey) where
  -- a piece has ended where the sample comes
  pub ended_same : (end : End) (a : SampleAt) (s : TimedSample) → IsTaken file keys a s → has_ended end a ≡ stops end s
  ended_same (Sync from scale) a s t = let f = t.flags in let d = t.time in λ i. (f i / 2 ^ 16 % 2 == 0) && nat_le (from + scale) (d i)
  ended_same (Before None first scale) a s t = refl
  ended_same (Before (Some cut) first scale) a s t = let d = t.time in λ i. nat_le (cut * scale) (d i * first)

  goes_same : (end : End) (description : ℕ) (a : SampleAt) (s : TimedSample) → IsTaken file keys a s → goes_in end description a ≡ goes end description s
  goes_same end description a s t = let e = ended_same end a s t in let d = t.description in λ i. not (e i) && (d i == description)

  count_same : (end : End) (description : ℕ) (taken : List SampleAt) (samples : List TimedSample) → AreTaken file keys taken samples → prefix_len (goes_in end description) taken ≡ prefix_len (goes end description) samples
  count_same end description [] [] z = refl
  count_same end description [] (s ∷ samples) z = absurd z
  count_same end description (a ∷ taken) [] z = absurd z
  count_same end description (a ∷ taken) (s ∷ samples) z =
      let g = goes_same end description a s z.0 in
      let r = count_same end description taken samples z.1 in
      λ i. cond (g i) (1 + r i) 0

  description_same : (taken : List SampleAt) (samples : List TimedSample) → AreTaken file keys taken samples → description_in None taken ≡ first_description samples
  description_same [] [] z = refl
  description_same [] (s ∷ samples) z = absurd z
  description_same (a ∷ taken) [] z = absurd z
  description_same (a ∷ taken) (s ∷ samples) z = z.0.description

  -- A piece takes as many samples as a turn does.
  pub turn_same : (end : End) (taken : List SampleAt) (samples : List TimedSample) → AreTaken file keys taken samples → more_of (record { end = end; gathered = None }) taken ≡ turn_count end samples
  unfolding more_of
  turn_same end taken samples z = count_same end (description_in None taken) taken samples z ∙ ap (λ d. prefix_len (goes end d) samples) (description_same taken samples z)

  -- The first of both lists, and those behind them, are such samples again.
  pub taken_front : (n : ℕ) (taken : List SampleAt) (samples : List TimedSample) → AreTaken file keys taken samples → AreTaken file keys (take n taken) (take n samples)
  taken_front zero taken samples z = tt
  taken_front (suc n) [] [] z = tt
  taken_front (suc n) [] (s ∷ samples) z = absurd z
  taken_front (suc n) (a ∷ taken) [] z = absurd z
  taken_front (suc n) (a ∷ taken) (s ∷ samples) z = (z.0, taken_front n taken samples z.1)

  pub taken_behind : (n : ℕ) (taken : List SampleAt) (samples : List TimedSample) → AreTaken file keys taken samples → AreTaken file keys (drop n taken) (drop n samples)
  taken_behind zero taken samples z = z
  taken_behind (suc n) [] [] z = tt
  taken_behind (suc n) [] (s ∷ samples) z = absurd z
  taken_behind (suc n) (a ∷ taken) [] z = absurd z
  taken_behind (suc n) (a ∷ taken) (s ∷ samples) z = taken_behind n taken samples z.1

-- A piece takes what a turn takes.
pub pieces_take_alike : PiecesTakeAlike
pieces_take_alike file keys end taken samples z = record {
  count = turn_same file keys end taken samples z;
  front = taken_front file keys (turn_count end samples) taken samples z;
  behind = taken_behind file keys (turn_count end samples) taken samples z;
}
