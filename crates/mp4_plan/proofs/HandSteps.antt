-- Samples that are taken one by one, and noted.
use Rattle.std.proofs.Common.{◌≡◌, ℕ, suc, ◌+◌, ◌-◌, ◌<◌, ◌≤◌, true, false, List, [], ◌∷◌, ◌++◌, length, take, drop, Some, None, refl, sym, ap, ◌∙◌, arith}
use Rattle.std.specs.Prelude.{map, slice_get, slice_set}
use Rattle.std.proofs.Math.Seq.{take-add, take-nil}
use Rattle.std.proofs.lemmas.List.{length-set, length-take, take_more_set, take-append-drop, drop-drop, drop-take, map-append}
use Rattle.mp4_tables.specs.declared.sample.SampleAt.{SampleAt}
use Rattle.mp4_plan.specs.words.Ends.{goes_in}
use Rattle.mp4_plan.specs.words.Gathering.{Planning, description_in, gather, count_of, more_of, piece_fed, samples_after}
use Rattle.mp4_plan.specs.words.HandsFed.{TakesFirst, Notes}
use Rattle.mp4_plan.specs.words.Taken.{row_seen}
use Rattle.mp4_plan.specs.declared.noted_rows.Row.{Row}
use Rattle.mp4_plan.proofs.HandsTaken.{few_more}
use Rattle.mp4_plan.proofs.PlannerSteps.{none_is, fed_more, fed_none, more_of_yes, more_of_no, more_of-nil}
use Rattle.mp4_present.proofs.JoinedSamples.{first_of}

-- one sample
pub takes_one : (left : ℕ) (xs ys : List SampleAt) (s : SampleAt) → 0 < left → Some s ≡ slice_get xs 0 → ys ≡ drop 1 xs → TakesFirst left (left - 1) xs ys
takes_one left xs ys s lt e r = record { taken = s ∷ []; less = omega (arith, lt); whole = first_of xs s e ∙ ap (λ l. s ∷ l) (sym r) }

-- ---- samples that are noted

-- k samples were taken and noted; what is fed in the end is settled from the start
pub record NotesUpTo (before p : Planning) (k : ℕ) (all left : List SampleAt) (rows now : List Row) : Type 0 where
  pub within : k ≤ length rows
  pub many : length now ≡ length rows
  pub count : more_of before (take (length rows) all) ≡ k + more_of p (take (length rows - k) left)
  pub piece : piece_fed p (take (length rows - k) left) ≡ piece_fed before (take (length rows) all)
  pub rest : left ≡ drop k all
  pub noted : take k now ≡ map row_seen (take k all)

pub notes_none : (p : Planning) (all : List SampleAt) (rows : List Row) → NotesUpTo p p 0 all all rows rows
notes_none p all rows =
    let e : length rows - 0 ≡ length rows = omega arith in
    let same = ap (λ n. more_of p (take n all)) e in
    record { within = omega arith; many = refl; count = omega (arith, same); piece = ap (λ n. piece_fed p (take n all)) e; rest = refl; noted = refl }

-- where there is a row, the first of those that are left is shown
shown_first : (m n : ℕ) (left : List SampleAt) (s : SampleAt) → m ≡ suc n → Some s ≡ slice_get left 0 → take m left ≡ s ∷ take n (drop 1 left)
shown_first m n left s e first = λ i. take (e i) (first_of left s first i)

-- one more
pub notes_one : (before p q : Planning) (k : ℕ) (all left later : List SampleAt) (rows now : List Row) (s : SampleAt) (row : Row) → NotesUpTo before p k all left rows now → k < length rows → Some s ≡ slice_get left 0
    → goes_in p.end (description_in p.gathered (s ∷ [])) s ≡ true → q ≡ record { end = p.end; gathered = gather p.gathered s } → later ≡ drop 1 left → row ≡ row_seen s → NotesUpTo before q (k + 1) all later rows (slice_set now k row)
notes_one before p q k all left later rows now s row h lt first goes is next seen =
    let n = length rows - (k + 1) in
    let shown = shown_first (length rows - k) n left s (omega (arith, lt)) first ∙ ap (λ (l : List SampleAt). s ∷ take n l) (sym next) in
    let first_shown : Some s ≡ slice_get (take (length rows - k) left) 0 = sym (ap (λ (l : List SampleAt). slice_get l 0) shown) in
    let one = ap (more_of p) shown ∙ more_of_yes p s (take n later) goes ∙ ap (λ (r : Planning). suc (more_of r (take n later))) (sym is) in
    let count = h.count in
    let many = h.many in
    let front : take (k + 1) all ≡ take k all ++ s ∷ [] = take-add k 1 all ∙ ap (λ (l : List SampleAt). take k all ++ take 1 l) (sym h.rest ∙ first_of left s first) in
    record {
      within = omega (arith, lt);
      many = length-set now k row ∙ h.many;
      count = omega (arith, count, one);
      piece = ap (λ (l : List SampleAt). piece_fed q (drop 1 l)) (sym shown) ∙ fed_more p q s (take (length rows - k) left) first_shown is goes ∙ h.piece;
      rest = next ∙ ap (drop 1) h.rest ∙ drop-drop 1 k all;
      noted = take_more_set now k row (omega (arith, lt, many)) ∙ (λ i. h.noted i ++ seen i ∷ []) ∙ sym (map-append row_seen (take k all) (s ∷ [])) ∙ ap (map row_seen) (sym front);
    }

-- no more
pub notes_all : (before p : Planning) (k : ℕ) (all left : List SampleAt) (rows now : List Row) → NotesUpTo before p k all left rows now → more_of p (take (length rows - k) left) ≡ 0 → Notes before p all left rows now
notes_all before p k all left rows now h none =
    let count = h.count in
    let n : k ≡ more_of before (take (length rows) all) = omega (arith, count, none) in
    record {
      piece = sym (fed_none p (take (length rows - k) left) none) ∙ h.piece;
      rest = h.rest ∙ ap (λ i. drop i all) n;
      noted = ap (λ i. take i now) (sym n) ∙ h.noted ∙ ap (λ i. map row_seen (take i all)) n;
    }

-- as none is left
pub notes_empty : (before p : Planning) (k : ℕ) (all left : List SampleAt) (rows now : List Row) → NotesUpTo before p k all left rows now → None ≡ slice_get left 0 → Notes before p all left rows now
notes_empty before p k all left rows now h none = notes_all before p k all left rows now h (ap (more_of p) (ap (take (length rows - k)) (none_is left none) ∙ take-nil (length rows - k)) ∙ more_of-nil p)

-- as the next one does not go in
pub notes_ended : (before p : Planning) (k : ℕ) (all left : List SampleAt) (rows now : List Row) (s : SampleAt) → NotesUpTo before p k all left rows now → k < length rows → Some s ≡ slice_get left 0
    → goes_in p.end (description_in p.gathered (s ∷ [])) s ≡ false → Notes before p all left rows now
notes_ended before p k all left rows now s h lt first stops =
    let n = length rows - (k + 1) in
    notes_all before p k all left rows now h (ap (more_of p) (shown_first (length rows - k) n left s (omega (arith, lt)) first) ∙ more_of_no p s (take n (drop 1 left)) stops)

-- as there is no row
pub notes_full : (before p : Planning) (k : ℕ) (all left : List SampleAt) (rows now : List Row) → NotesUpTo before p k all left rows now → length rows ≤ k → Notes before p all left rows now
notes_full before p k all left rows now h le =
    let none : length rows - k ≡ 0 = omega (arith, le) in
    notes_all before p k all left rows now h (ap (λ n. more_of p (take n left)) none ∙ more_of-nil p)

-- ---- where their bytes lie

-- one more was taken
pub taken_more : (before p : Planning) (k : ℕ) (all left : List SampleAt) (rows now : List Row) (s : SampleAt) → NotesUpTo before p k all left rows now → Some s ≡ slice_get left 0 → take (k + 1) all ≡ take k all ++ s ∷ []
taken_more before p k all left rows now s h first = take-add k 1 all ∙ ap (λ (l : List SampleAt). take k all ++ take 1 l) (sym h.rest ∙ first_of left s first)

-- as many as are counted
pub taken_counted : (n before after : ℕ) (all : List SampleAt) → after ≡ before + n → take n all ≡ take (after - before) all
taken_counted n before after all e = let same : n ≡ after - before = omega (arith, e) in ap (λ k. take k all) same

module _ (before after : Planning) (all left : List SampleAt) (rows rows_after : List Row) (h : Notes before after all left rows rows_after) where
  abbrev pub noted_count : ℕ
  noted_count = more_of before (take (length rows) all)

  within : noted_count ≤ length rows
  within = let few = few_more before (take (length rows) all) in omega (arith, few, length-take (length rows) all)

  notes_length : length (take noted_count all) ≡ noted_count
  notes_length = let few = few_more before (take (length rows) all) in omega (arith, few, length-take (length rows) all, length-take noted_count all)

  -- those that were noted were taken
  pub notes_take : TakesFirst (length rows) (length rows - noted_count) all left
  notes_take =
      let inside = within in
      let long = notes_length in
      record { taken = take noted_count all; less = omega (arith, inside, long); whole = sym (take-append-drop noted_count all) ∙ ap (λ (l : List SampleAt). take noted_count all ++ l) (sym h.rest) }

  -- they are as many as are counted
  pub notes_joined : (counted : count_of after.gathered ≡ count_of before.gathered + length notes_take.taken) → take (count_of after.gathered - count_of before.gathered) all ≡ notes_take.taken
  unfolding notes_take more_of
  notes_joined counted =
      let n : count_of after.gathered - count_of before.gathered ≡ length (take noted_count all) = omega (arith, counted) in
      ap (λ k. take k all) (n ∙ notes_length)

  pub notes_left : take (length rows - noted_count) left ≡ samples_after before (take (length rows) all)
  notes_left =
      let inside = within in
      let split : length rows ≡ noted_count + (length rows - noted_count) = omega (arith, inside) in
      ap (take (length rows - noted_count)) h.rest ∙ sym (drop-take noted_count (length rows - noted_count) all) ∙ ap (λ i. drop noted_count (take i all)) (sym split)

  pub notes_seen : take (length notes_take.taken) rows_after ≡ map row_seen notes_take.taken
  unfolding notes_take more_of
  notes_seen = ap (λ i. take i rows_after) notes_length ∙ h.noted
