-- Bytes of a file over which a word is laid at some places, and what a read of them is.
use Rattle.std.proofs.Common.{◌≡◌, ◌∙◌, ◌⊎◌, inl, inr, ℕ, suc, ◌+◌, ◌-◌, ◌<◌, ◌≤◌, List, [], ◌∷◌, ◌++◌, length, take, drop, get_or, set, arith, ap, sym, refl, length-set, length-drop, length-take}
use Rattle.std.proofs.lemmas.Bool.{cases_lt}
use Rattle.std.proofs.lemmas.List.{drop-set, drop-set-lt, drop-set-add, take-set-le, take-append-drop, take_more, get_or-drop, get_or-take}
use Rattle.std.proofs.Math.Seq.{take-set-lt}
use Rattle.std.specs.List.Sorted.{IsNonDecreasing}
use Rattle.mp4_store.specs.words.Device.{range}
use Rattle.mp4_store.proofs.Known.{range-add}
use Rattle.mp4_store.specs.words.LaidWords.{laid_at, laid}

-- ---- one byte

pub set_in : (file : List ℕ) (at n place byte : ℕ) → at ≤ place → place - at < n → range (set file place byte) at n ≡ set (range file at n) (place - at) byte
set_in file at n place byte le lt =
    let e : place ≡ at + (place - at) = omega (arith, le) in
    ap (λ p. range (set file p byte) at n) e
    ∙ ap (take n) (drop-set-add at file (place - at) byte)
    ∙ take-set-lt n (drop at file) (place - at) byte lt

pub set_before : (file : List ℕ) (at n place byte : ℕ) → place < at → range (set file place byte) at n ≡ range file at n
set_before file at n place byte lt = ap (take n) (drop-set-lt at file place byte lt)

pub set_behind : (file : List ℕ) (at n place byte : ℕ) → at + n ≤ place → range (set file place byte) at n ≡ range file at n
set_behind file at n place byte le =
    let e : place ≡ at + (place - at) = omega (arith, le) in
    ap (λ p. range (set file p byte) at n) e
    ∙ ap (take n) (drop-set-add at file (place - at) byte)
    ∙ take-set-le n (drop at file) (place - at) byte (omega (arith, le))

-- a read behind the change of a byte depends on that before it alone
pub set_alike : (file other : List ℕ) (at n place byte : ℕ) → range file at n ≡ range other at n → range (set file place byte) at n ≡ range (set other place byte) at n
set_alike file other at n place byte e = elim (cases_lt place at) [
  | inl lt ↦ set_before file at n place byte lt ∙ e ∙ sym (set_before other at n place byte lt)
  | inr le ↦ elim (cases_lt (place - at) n) [
    | inl lt ↦ set_in file at n place byte le lt ∙ ap (λ l. set l (place - at) byte) e ∙ sym (set_in other at n place byte le lt)
    | inr far ↦ set_behind file at n place byte (omega (arith, le, far)) ∙ e ∙ sym (set_behind other at n place byte (omega (arith, le, far)))
  ]
]

-- ---- a word

pub length-laid_at : (word : List ℕ) (place : ℕ) (file : List ℕ) → length (laid_at word place file) ≡ length file
length-laid_at [] place file = refl
length-laid_at (b ∷ bs) place file = length-laid_at bs (place + 1) (set file place b) ∙ length-set file place b

-- one byte more of it
pub laid_at-more : (word : List ℕ) (byte place : ℕ) (file : List ℕ) → laid_at (word ++ byte ∷ []) place file ≡ set (laid_at word place file) (place + length word) byte
laid_at-more [] byte place file = ap (λ p. set file p byte) (omega arith)
laid_at-more (b ∷ bs) byte place file = laid_at-more bs byte (place + 1) (set file place b) ∙ ap (λ p. set (laid_at bs (place + 1) (set file place b)) p byte) (omega arith)

-- a read that doesn't reach it is one of the file
pub laid_at_apart : (word : List ℕ) (place : ℕ) (file : List ℕ) (at n : ℕ) → (place + length word ≤ at) ⊎ (at + n ≤ place) → range (laid_at word place file) at n ≡ range file at n
laid_at_apart [] place file at n apart = refl
laid_at_apart (b ∷ bs) place file at n (inl before) = laid_at_apart bs (place + 1) (set file place b) at n (inl (omega (arith, before))) ∙ set_before file at n place b (omega (arith, before))
laid_at_apart (b ∷ bs) place file at n (inr behind) = laid_at_apart bs (place + 1) (set file place b) at n (inr (omega (arith, behind))) ∙ set_behind file at n place b behind

pub laid_at_alike : (word : List ℕ) (place : ℕ) (file other : List ℕ) (at n : ℕ) → range file at n ≡ range other at n → range (laid_at word place file) at n ≡ range (laid_at word place other) at n
laid_at_alike [] place file other at n e = e
laid_at_alike (b ∷ bs) place file other at n e = laid_at_alike bs (place + 1) (set file place b) (set other place b) at n (set_alike file other at n place b e)

-- where there is room, the word stands there
pub laid_at_whole : (word : List ℕ) (place : ℕ) (file : List ℕ) → place + length word ≤ length file → range (laid_at word place file) place (length word) ≡ word
laid_at_whole [] place file le = refl
laid_at_whole (b ∷ bs) place file le =
    let whole = laid_at bs (place + 1) (set file place b) in
    let count : suc (length bs) ≡ 1 + length bs = omega arith in
    let first : range whole place 1 ≡ b ∷ [] = laid_at_apart bs (place + 1) (set file place b) place 1 (inr (omega arith)) ∙ ap (take 1) (drop-set file place b (omega (arith, le))) in
    let rest : range whole (place + 1) (length bs) ≡ bs = laid_at_whole bs (place + 1) (set file place b) (rw (length-set file place b) (omega (arith, le))) in
    ap (range whole place) count ∙ range-add whole place 1 (length bs) ∙ (λ i. first i ++ rest i)

-- ---- words at some places

pub length-laid : (word places file : List ℕ) → length (laid word places file) ≡ length file
length-laid word [] file = refl
length-laid word (p ∷ ps) file = length-laid word ps (laid_at word p file) ∙ length-laid_at word p file

pub laid-append : (word xs ys file : List ℕ) → laid word (xs ++ ys) file ≡ laid word ys (laid word xs file)
laid-append word [] ys file = refl
laid-append word (x ∷ xs) ys file = laid-append word xs ys (laid_at word x file)

pub laid_alike : (word places file other : List ℕ) (at n : ℕ) → range file at n ≡ range other at n → range (laid word places file) at n ≡ range (laid word places other) at n
laid_alike word [] file other at n e = e
laid_alike word (p ∷ ps) file other at n e = laid_alike word ps (laid_at word p file) (laid_at word p other) at n (laid_at_alike word p file other at n e)

-- a read that reaches none of them is one of the file
pub laid_apart : (word places file : List ℕ) (at n : ℕ) → ((i : ℕ) → i < length places → (get_or places i 0 + length word ≤ at) ⊎ (at + n ≤ get_or places i 0)) → range (laid word places file) at n ≡ range file at n
laid_apart word [] file at n apart = refl
laid_apart word (p ∷ ps) file at n apart = laid_apart word ps (laid_at word p file) at n (λ i lt. apart (suc i) (omega (arith, lt))) ∙ laid_at_apart word p file at n (apart 0 (omega arith))

-- one place more
pub laid-more : (word places file : List ℕ) (next : ℕ) → next < length places → laid word (take (next + 1) places) file ≡ laid_at word (get_or places next 0) (laid word (take next places) file)
laid-more word places file next lt = ap (λ ps. laid word ps file) (take_more places next 0 lt) ∙ laid-append word (take next places) (get_or places next 0 ∷ []) file

-- where the places rise, and the next one is not reached, no other is
pub laid_rest : (word places file : List ℕ) (at n next : ℕ) → IsNonDecreasing places → (next < length places → at + n ≤ get_or places next 0) → range (laid word places file) at n ≡ range (laid word (take next places) file) at n
laid_rest word places file at n next rise behind =
    ap (λ ps. range (laid word ps file) at n) (sym (take-append-drop next places))
    ∙ ap (λ l. range l at n) (laid-append word (take next places) (drop next places) file)
    ∙ laid_apart word (drop next places) (laid word (take next places) file) at n (λ i lt.
    let count = length-drop next places in
    let first : get_or places next 0 ≤ get_or places (next + i) 0 = rise next (next + i) 0 (omega arith) (omega (arith, lt, count)) in
    inr (rw (get_or-drop next places i 0) (let le = behind (omega (arith, lt, count)) in omega (arith, le, first))))

-- where those before the next one end at the place or before it, nothing of them is read
pub laid_front : (word places file : List ℕ) (at n next : ℕ) → length word ≡ 4 → next ≤ length places → ((k d : ℕ) → 0 ≤ k → k < next → get_or places k d + 4 ≤ at) → range (laid word (take next places) file) at n ≡ range file at n
laid_front word places file at n next four within before =
    laid_apart word (take next places) file at n (λ i lt.
    let count = length-take next places in
    let few : i < next = omega (arith, lt, count, within) in
    inl (rw (get_or-take next places i 0 few) (let le = before i 0 (omega arith) few in omega (arith, le, four))))
