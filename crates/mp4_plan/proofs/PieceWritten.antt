-- What is written of the samples that a turn takes is the piece of the normal form, where it takes some.
use Rattle.std.proofs.Common.{◌≡◌, ℕ, zero, suc, ◌+◌, ◌^◌, ◌<◌, ◌≤◌, nat_lt, true, cond, List, [], ◌∷◌, ◌++◌, length, take, Some, None, refl, sym, ap, subst, ◌∙◌, append-nil, append_assoc, arith}
use Rattle.std.proofs.lemmas.Bool.{lt-ltb}
use Rattle.std.specs.Prelude.{slice_get, slice_index}
use Rattle.std.specs.List.{AllByRecursion}
use Rattle.mp4_tables.specs.format.Groups.{GroupKey}
use Rattle.mp4_tables.specs.declared.sample.SampleAt.{SampleAt}
use Rattle.mp4_content.specs.format.TimedSamples.{TimedSample}
use Rattle.mp4_plan.specs.format.Pieces.{Piece}
use Rattle.mp4_plan.specs.format.Normal.{piece_bytes, pieces_bytes}
use Rattle.mp4_plan.specs.words.Gathering.{gather_all, planned_of}
use Rattle.mp4_plan.specs.words.Sizes.{moof_sizes}
use Rattle.mp4_content.specs.words.TakenSamples.{AreTaken, IsNamed}
use Rattle.mp4_plan.specs.words.Taken.{head_of}
use Rattle.mp4_plan.specs.words.TurnLaws.{piece_if}
use Rattle.mp4_plan.specs.words.UsedKeys.{AreApart}
use Rattle.mp4_plan.specs.words.Writers.{turn_head, sequence_behind, bytes_of_piece, turn_bytes}
use Rattle.mp4_plan.specs.declared.moof_front.PieceHead.{PieceHead}
use Rattle.mp4_plan.specs.declared.planner.Planned.{Planned}
use Rattle.mp4_plan.proofs.SizesSmall.{moof_small}
use Rattle.mp4_plan.proofs.SpelledPiece.{piece_is_spelled}

-- the keys of a track can be written
pub record AreKeys (keys : List GroupKey) : Type 0 where
  pub apart : AreApart keys
  pub named : AllByRecursion IsNamed keys
  pub few : length keys ≤ 4

-- few samples were planned
pub record IsFew (p : Planned) : Type 0 where
  pub count : p.count ≤ 2 ^ 24
  pub rows : (j : ℕ) → slice_index p.group_rows j ≤ p.count

some_counted : (k n : ℕ) → k ≡ suc n → nat_lt 0 k ≡ true
some_counted k n e = lt-ltb 0 k (omega (arith, e))

module _ (file : List ℕ) (keys : List GroupKey) where
  head_same : (sequence id : ℕ) (a : SampleAt) (s : TimedSample) (more : List SampleAt) (samples : List TimedSample) → AreTaken file keys (a ∷ more) (s ∷ samples)
      → (record { sequence = sequence; id = id; time = a.dts; description = a.description }) ≡ head_of sequence id (s ∷ samples)
  head_same sequence id a s more samples z = let t = z.0.time in let d = z.0.description in λ i. record { sequence = sequence; id = id; time = t i; description = d i }

  -- so many of the samples that are left were taken
  pub turn_written : (sequence id n : ℕ) (left : List SampleAt) (samples : List TimedSample) (p : Planned) → AreKeys keys → AreTaken file keys (take n left) samples → p ≡ planned_of (gather_all None (take n left)) → p.count ≡ n → n ≤ length left → IsFew p
      → turn_bytes file (turn_head sequence id p.count (slice_get left 0)) p keys (take p.count left) ≡ pieces_bytes sequence (piece_if id samples)
  turn_written sequence id n [] [] p k z is count le few = refl
  turn_written sequence id zero [] (s ∷ samples) p k z is count le few = absurd z
  turn_written sequence id (suc n) [] (s ∷ samples) p k z is count le few = absurd (omega (arith, le))
  turn_written sequence id zero (a ∷ left) [] p k z is count le few = rw count refl
  turn_written sequence id zero (a ∷ left) (s ∷ samples) p k z is count le few = absurd z
  turn_written sequence id (suc n) (a ∷ left) [] p k z is count le few = absurd z
  turn_written sequence id (suc n) (a ∷ left) (s ∷ samples) p k z is count le few =
      let small = moof_small p keys few.count few.rows k.few in
      let written = piece_is_spelled file keys sequence id a (take n left) (s ∷ samples) k.apart k.named k.few z (subst (λ (q : Planned). (moof_sizes q keys).moof ≤ 2 ^ 30) is small) in
      let more = take n left in
      let head : PieceHead = record { sequence = sequence; id = id; time = a.dts; description = a.description } in
      let by_head : bytes_of_piece file head p keys (a ∷ more) ≡ bytes_of_piece file (head_of sequence id (s ∷ samples)) (planned_of (gather_all None (a ∷ more))) keys (a ∷ more) = λ i. bytes_of_piece file (head_same sequence id a s more samples z i) (is i) keys (a ∷ more) in
      ap (λ v. turn_bytes file (cond v (Some head) None) p keys (take p.count (a ∷ left))) (some_counted p.count n count)
      ∙ ap (λ k. bytes_of_piece file head p keys (take k (a ∷ left))) count ∙ by_head ∙ written ∙ sym (append-nil (piece_bytes sequence (record { id = id; samples = s ∷ samples })))

-- a turn has a head where it takes samples
pub head_counts : (sequence id n : ℕ) (left : List SampleAt) (samples : List TimedSample) (file : List ℕ) (keys : List GroupKey) → AreTaken file keys (take n left) samples → n ≤ length left → sequence + length (piece_if id samples) < 2 ^ 32
    → sequence_behind sequence (turn_head sequence id n (slice_get left 0)) ≡ sequence + length (piece_if id samples)
head_counts sequence id n [] [] file keys z le lt = omega arith
head_counts sequence id zero [] (s ∷ samples) file keys z le lt = absurd z
head_counts sequence id (suc n) [] (s ∷ samples) file keys z le lt = absurd (omega (arith, le))
head_counts sequence id zero (a ∷ left) [] file keys z le lt = omega arith
head_counts sequence id zero (a ∷ left) (s ∷ samples) file keys z le lt = absurd z
head_counts sequence id (suc n) (a ∷ left) [] file keys z le lt = absurd z
head_counts sequence id (suc n) (a ∷ left) (s ∷ samples) file keys z le lt =
    let head : PieceHead = record { sequence = sequence; id = id; time = a.dts; description = a.description } in
    ap (λ v. sequence_behind sequence (cond v (Some head) None)) (some_counted (suc n) n refl) ∙ omega (arith, lt)

-- the bytes of pieces, and of those behind them
pub bytes_of_two : (sequence : ℕ) (xs ys : List Piece) → pieces_bytes sequence (xs ++ ys) ≡ pieces_bytes sequence xs ++ pieces_bytes (sequence + length xs) ys
bytes_of_two sequence [] ys = let n : sequence ≡ sequence + 0 = omega arith in ap (λ k. pieces_bytes k ys) n
bytes_of_two sequence (x ∷ xs) ys =
    let n : (sequence + 1) + length xs ≡ sequence + suc (length xs) = omega arith in
    ap (λ (bs : List ℕ). piece_bytes sequence x ++ bs) (bytes_of_two (sequence + 1) xs ys ∙ ap (λ k. pieces_bytes (sequence + 1) xs ++ pieces_bytes k ys) n)
    ∙ sym (append_assoc (piece_bytes sequence x) (pieces_bytes (sequence + 1) xs) (pieces_bytes (sequence + length (x ∷ xs)) ys))
