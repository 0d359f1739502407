-- The front of a list up to a member with a fault has the fault by itself.
use Rattle.std.proofs.Common.{◌≡◌, ℕ, zero, suc, ◌+◌, ◌<◌, ◌≤◌, Bool, true, false, List, [], ◌∷◌, ◌++◌, length, take, drop, map, refl, ap, ◌∙◌, arith, nat_eq, nat_lt, nat_le}
use Rattle.std.specs.Prelude.{◌&&◌, ◌||◌, ◌==◌, not}
use Rattle.std.specs.List.{list_all}
use Rattle.std.proofs.lemmas.Bool.Decides.{nat_tests}
use Rattle.std.proofs.lemmas.List.{append_assoc}
use Rattle.std.proofs.lemmas.List.Folds.{list_all-append}
use Rattle.mp4_tables.specs.format.Repeated.{total}
use Rattle.mp4_tables.specs.format.Tables.{ChunkRow}
use Rattle.mp4_tables.specs.format.PlainSamples.{row_of_chunk, in_chunks_total}
use Rattle.mp4_tables.specs.format.TableRules.{is_rising_after, is_chunk_order, is_sync_order, is_index}
use Rattle.mp4_tables.specs.words.TablesComing.{are_described}
use Rattle.mp4_tables.proofs.ChunkLists.{no_lt}
use Rattle.mp4_tables.proofs.SyncLists.{in_order, swap}
use Rattle.mp4_boxes.proofs.Plain.{and_false, nat_le_no, nat_le_yes, nat_lt_yes, plus_one}

longer : {A : Type 0} (xs later : List A) (k : ℕ) (x : A) → drop k xs ≡ x ∷ later → take (suc k) xs ≡ take k xs ++ x ∷ []
longer [] later zero x e = let none = ap (λ (ys : List _). length ys) e in absurd (omega (arith, none))
longer [] later (suc k) x e = let none = ap (λ (ys : List _). length ys) e in absurd (omega (arith, none))
longer (y ∷ xs) later zero x e = ap (take 1) e
longer (y ∷ xs) later (suc k) x e = ap (λ ys. y ∷ ys) (longer xs later k x e)

-- with the next member
pub front_more : {A : Type 0} (xs later : List A) (k : ℕ) (x : A) → drop k xs ≡ x ∷ later → take (k + 1) xs ≡ take k xs ++ x ∷ []
front_more xs later k x e = ap (λ n. take n xs) (plus_one k) ∙ longer xs later k x e

pub front_and : {A : Type 0} (xs later more : List A) (k : ℕ) (x : A) → drop k xs ≡ x ∷ later → take (k + 1) xs ++ more ≡ take k xs ++ x ∷ more
front_and xs later more k x e = ap (λ ys. ys ++ more) (front_more xs later k x e) ∙ append_assoc (take k xs) (x ∷ []) more

pub front_fails : {A : Type 0} (p : A → Bool) (xs later : List A) (k : ℕ) (x : A) → drop k xs ≡ x ∷ later → p x ≡ false → list_all p (take (k + 1) xs) ≡ false
front_fails p xs later k x e f =
    ap (list_all p) (front_more xs later k x e) ∙ list_all-append p (take k xs) (x ∷ []) ∙ ap (λ b. list_all p (take k xs) && (b && true)) f ∙ and_false (list_all p (take k xs))

-- ---- numbers and rows in order

order_one : (n low i : ℕ) (more : List ℕ) (up few : Bool) → nat_lt low i ≡ up → nat_le i n ≡ few → in_order n low (i ∷ more) ≡ ((up && few) && in_order n i more)
order_one n low i more up few e f =
    swap (nat_lt low i) (is_rising_after i more) (nat_le i n) (list_all (λ j. nat_le j n) more) ∙ (λ j. (e j && f j) && in_order n i more)

-- whatever follows the front is in order with it if it is in order behind the last number
abbrev pub InOrderBehind : ℕ → List ℕ → ℕ → ℕ → Type 0
InOrderBehind n named k low = (more : List ℕ) → is_sync_order n (take k named ++ more) ≡ in_order n low more

pub numbers_on : (named later : List ℕ) (n low k i : ℕ) → InOrderBehind n named k low → drop k named ≡ i ∷ later → low < i → i ≤ n → InOrderBehind n named (k + 1) i
numbers_on named later n low k i behind e up few more =
    ap (is_sync_order n) (front_and named later more k i e) ∙ behind (i ∷ more) ∙ order_one n low i more true true (nat_lt_yes low i up) (nat_le_yes i n few)

pub numbers_low : (named later : List ℕ) (n low k i : ℕ) → InOrderBehind n named k low → drop k named ≡ i ∷ later → i ≤ low → is_sync_order n (take (k + 1) named) ≡ false
numbers_low named later n low k i behind e h = ap (is_sync_order n) (front_more named later k i e) ∙ behind (i ∷ []) ∙ order_one n low i [] false (nat_le i n) (no_lt low i h) refl

pub numbers_high : (named later : List ℕ) (n low k i : ℕ) → InOrderBehind n named k low → drop k named ≡ i ∷ later → n < i → is_sync_order n (take (k + 1) named) ≡ false
numbers_high named later n low k i behind e h =
    ap (is_sync_order n) (front_more named later k i e) ∙ behind (i ∷ []) ∙ order_one n low i [] (nat_lt low i) false refl (nat_le_no i n h) ∙ ap (λ b. b && true) (and_false (nat_lt low i))

abbrev firsts : List ChunkRow → List ℕ
firsts rows = map (λ (row : ChunkRow). row.first) rows

-- whatever follows the front rises with it if it rises behind the last row
abbrev pub RisesBehind : Bool → List ChunkRow → ℕ → ℕ → Type 0
RisesBehind has_chunks rows k low = (more : List ChunkRow) → is_chunk_order (map (λ (row : ChunkRow). row.first) (take k rows ++ more)) has_chunks ≡ is_rising_after low (map (λ (row : ChunkRow). row.first) more)

pub rows_begin : (rows later : List ChunkRow) (has_chunks : Bool) (r : ChunkRow) → drop 0 rows ≡ r ∷ later → (has_chunks ≡ true → r.first ≡ 1) → RisesBehind has_chunks rows 1 r.first
rows_begin rows later has_chunks r e one more =
    ap (λ rs. is_chunk_order (firsts (take 1 rs ++ more)) has_chunks) e ∙ ap (λ b. b && is_rising_after r.first (firsts more)) (fine has_chunks one)
  where
    fine : (h : Bool) → (h ≡ true → r.first ≡ 1) → (not h || r.first == 1) ≡ true
    fine true p = let q = p refl in grind (arith, nat_tests, q)
    fine false p = refl

pub rows_on : (rows later : List ChunkRow) (has_chunks : Bool) (low k : ℕ) (r : ChunkRow) → RisesBehind has_chunks rows k low → drop k rows ≡ r ∷ later → low < r.first → RisesBehind has_chunks rows (k + 1) r.first
rows_on rows later has_chunks low k r behind e up more =
    ap (λ rs. is_chunk_order (firsts rs) has_chunks) (front_and rows later more k r e) ∙ behind (r ∷ more) ∙ ap (λ b. b && is_rising_after r.first (firsts more)) (nat_lt_yes low r.first up)

pub rows_stop : (rows later : List ChunkRow) (has_chunks : Bool) (low k : ℕ) (r : ChunkRow) → RisesBehind has_chunks rows k low → drop k rows ≡ r ∷ later → r.first ≤ low → is_chunk_order (map (λ (row : ChunkRow). row.first) (take (k + 1) rows)) has_chunks ≡ false
rows_stop rows later has_chunks low k r behind e h =
    ap (λ rs. is_chunk_order (firsts rs) has_chunks) (front_more rows later k r e) ∙ behind (r ∷ []) ∙ ap (λ b. b && true) (no_lt low r.first h)

-- ---- counts

-- what a front counts and what is behind it counts are the whole
pub total_front : (xs : List (ℕ × ℕ)) (k : ℕ) → total (take k xs) + total (drop k xs) ≡ total xs
total_front [] zero = refl
total_front [] (suc k) = refl
total_front (x ∷ xs) zero = omega arith
total_front (x ∷ xs) (suc k) = let more = total_front xs k in omega (arith, more)

pub chunks_front : (rows : List ChunkRow) (c d : ℕ) (offsets : List ℕ) (k : ℕ) → d ≡ c + k → in_chunks_total rows c (take k offsets) + in_chunks_total rows d (drop k offsets) ≡ in_chunks_total rows c offsets
chunks_front rows c d [] zero e = refl
chunks_front rows c d [] (suc k) e = refl
chunks_front rows c d (offset ∷ offsets) zero e = let same : d ≡ c = omega (arith, e) in let front = ap (λ n. in_chunks_total rows n (offset ∷ offsets)) same in omega (arith, front)
chunks_front rows c d (offset ∷ offsets) (suc k) e = let more = chunks_front rows (c + 1) d offsets k (omega (arith, e)) in omega (arith, more)

described : (n : ℕ) (rows : List ChunkRow) (c d : ℕ) (offsets : List ℕ) (k : ℕ) → d ≡ c + k → k < length offsets
    → (nat_eq (row_of_chunk rows d).count 0 || is_index n (row_of_chunk rows d).description) ≡ false → are_described n rows c (take (suc k) offsets) ≡ false
described n rows c d [] k e h f = absurd (omega (arith, h))
described n rows c d (offset ∷ offsets) zero e h f =
    let same : c ≡ d = omega (arith, e) in
    ap (λ m. (nat_eq (row_of_chunk rows m).count 0 || is_index n (row_of_chunk rows m).description) && true) same ∙ ap (λ b. b && true) f
described n rows c d (offset ∷ offsets) (suc k) e h f =
    ap (λ b. (nat_eq (row_of_chunk rows c).count 0 || is_index n (row_of_chunk rows c).description) && b) (described n rows (c + 1) d offsets k (omega (arith, e)) (omega (arith, h)) f) ∙ and_false _

pub described_front : (n : ℕ) (rows : List ChunkRow) (c d : ℕ) (offsets : List ℕ) (k : ℕ) → d ≡ c + k → k < length offsets
    → (nat_eq (row_of_chunk rows d).count 0 || is_index n (row_of_chunk rows d).description) ≡ false → are_described n rows c (take (k + 1) offsets) ≡ false
described_front n rows c d offsets k e h f = ap (λ m. are_described n rows c (take m offsets)) (plus_one k) ∙ described n rows c d offsets k e h f
