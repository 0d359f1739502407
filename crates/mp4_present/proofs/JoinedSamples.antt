-- Samples that are taken one by one: their sums, and their bytes.
use Rattle.std.proofs.Common.{◌≡◌, ℕ, ◌+◌, ◌<◌, ◌≤◌, List, [], ◌∷◌, ◌++◌, length, take, drop, Some, refl, sym, ap, subst, ◌∙◌, zero, suc, arith}
use Rattle.std.specs.List.{slice_get, AllByRecursion}
use Rattle.mp4_boxes.proofs.Each.{each_dropped}
use Rattle.mp4_boxes.proofs.Plain.{suc_is}
use Rattle.std.proofs.lemmas.Grind.{flat_map-append}
use Rattle.std.proofs.lemmas.List.{append-nil}
use Rattle.mp4_store.specs.words.Device.{range}
use Rattle.mp4_store.proofs.Known.{range-add}
use Rattle.mp4_tables.specs.declared.sample.SampleAt.{SampleAt}
use Rattle.mp4_present.specs.words.Joined.{AreJoined, sample_bytes}

-- the first and the rest
pub first_of : (xs : List SampleAt) (s : SampleAt) → Some s ≡ slice_get xs 0 → xs ≡ s ∷ drop 1 xs
first_of [] s e = absurd (cc)
first_of (x ∷ xs) s e = let h : Some s ≡ Some x = e in let same : s ≡ x = cc in ap (λ y. y ∷ xs) (sym same)

pub length_one_more : (xs ys : List SampleAt) (s : SampleAt) → Some s ≡ slice_get xs 0 → ys ≡ drop 1 xs → length ys < length xs
length_one_more [] ys s e d = absurd (cc)
length_one_more (x ∷ xs) ys s e d = rw d (omega arith)

-- where a sample is given, the list has one more
one_more : (k : ℕ) (xs : List SampleAt) (s : SampleAt) → drop k xs ≡ s ∷ drop 1 (drop k xs) → (suc k ≤ length xs) × (take (suc k) xs ≡ take k xs ++ s ∷ []) × (drop 1 (drop k xs) ≡ drop (suc k) xs)
one_more zero [] s e = absurd (cc)
one_more (suc k) [] s e = absurd (cc)
one_more zero (x ∷ xs) s e = let same : x ≡ s = cc in (omega arith, ap (λ y. y ∷ []) same, refl)
one_more (suc k) (x ∷ xs) s e = let r = one_more k xs s e in (omega (arith, r.0), ap (λ ys. x ∷ ys) r.1, r.2)

-- the bytes of a stretch and of a sample behind it
bytes_more : (file : List ℕ) (xs : List SampleAt) (s : SampleAt) (at len : ℕ) → sample_bytes file xs ≡ range file at len → s.at ≡ at + len → sample_bytes file (xs ++ s ∷ []) ≡ range file at (len + s.size)
bytes_more file xs s at len e a =
    flat_map-append (λ (t : SampleAt). range file t.at t.size) xs (s ∷ [])
    ∙ rw (e, a, append-nil (range file (at + len) s.size)) (sym (range-add file at len s.size))

-- one more sample that follows is joined
pub joined_more : (k : ℕ) (xs now left : List SampleAt) (s : SampleAt) (at len : ℕ) → now ≡ drop k xs → Some s ≡ slice_get now 0 → left ≡ drop 1 now → AreJoined (take k xs) at len → s.at ≡ at + len
    → (k + 1 ≤ length xs) × (left ≡ drop (k + 1) xs) × AreJoined (take (k + 1) xs) at (len + s.size)
joined_more k xs now left s at len n e l j a =
    let front : drop k xs ≡ s ∷ drop 1 (drop k xs) = first_of (drop k xs) s (e ∙ ap (λ ys. slice_get ys 0) n) in
    let r = one_more k xs s front in
    subst (λ (m : ℕ). (m ≤ length xs) × (left ≡ drop m xs) × AreJoined (take m xs) at (len + s.size)) (suc_is k)
    (r.0, l ∙ ap (λ ys. drop 1 ys) n ∙ r.2, λ file. ap (sample_bytes file) r.1 ∙ bytes_more file (take k xs) s at len (j file) a)

-- a sample alone
pub joined_one : (xs left : List SampleAt) (s : SampleAt) → Some s ≡ slice_get xs 0 → left ≡ drop 1 xs → (1 ≤ length xs) × AreJoined (take 1 xs) s.at s.size
joined_one xs left s e l =
    let r = one_more 0 xs s (first_of xs s e) in
    (r.0, λ file. ap (sample_bytes file) r.1 ∙ append-nil (range file s.at s.size))

-- what is so of all samples is so of the one that is given
pub first_has : (P : SampleAt → Type 0) (xs : List SampleAt) (s : SampleAt) → Some s ≡ slice_get xs 0 → AllByRecursion P xs → P s
first_has P [] s e h = absurd (cc)
first_has P (x ∷ xs) s e h = let same : s ≡ x = cc in subst P (sym same) h.0

pub given_has : (P : SampleAt → Type 0) (k : ℕ) (xs now : List SampleAt) (s : SampleAt) → now ≡ drop k xs → Some s ≡ slice_get now 0 → AllByRecursion P xs → P s
given_has P k xs now s e g h = first_has P now s g (subst (λ ys. AllByRecursion P ys) (sym e) (each_dropped P k xs h))

-- a stretch that ends there, and a sample behind it
pub ends_within : (n at len place size : ℕ) → place ≡ at + len → place + size ≤ n → at + (len + size) ≤ n
ends_within n at len place size e h = omega (arith, e, h)
