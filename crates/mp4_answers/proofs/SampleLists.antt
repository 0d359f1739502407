-- Samples that are read side by side, and their lines by their digests.
use Rattle.std.proofs.Common.{◌≡◌, ℕ, zero, suc, ◌+◌, ◌*◌, ◌<◌, ◌≤◌, List, [], ◌∷◌, ◌++◌, length, take, drop, refl, sym, ap, ◌∙◌, append_assoc, arith, inl, inr}
use Rattle.std.specs.Prelude.{Err, Ok, OnErr, Result, Some, flat_map, slice_get, slice_index_or, slice_set}
use Rattle.std.proofs.lemmas.Bool.{cases_lt}
use Rattle.std.proofs.lemmas.List.{get_or-set_same, get_or-set_other, get_or-take, length-take-le, take-append-drop}
use Rattle.sha2.specs.Sha256.{sha256}
use Rattle.mp4_store.specs.words.Device.{TakesPrefix, range}
use Rattle.mp4_store.proofs.Known.{TakesPrefix-longer}
use Rattle.mp4_tables.specs.declared.sample.SampleAt.{SampleAt}
use Rattle.mp4_present.specs.words.Carried.{BytesGoOn}
use Rattle.mp4_present.proofs.Carrying.{BytesGoOn-front}
use Rattle.mp4_answers.specs.words.Messages.{IsFound, IsReady, block_count, message_at, message_of, no_message}
use Rattle.mp4_answers.specs.words.SampleMessages.{AreReadyTo, HaveBytesOf, no_sample, sample_at, told_lines}
use Rattle.mp4_answers.specs.words.ToldSamples.{told_line, told_sample}
use Rattle.mp4_answers.specs.declared.digests.messages.Message.{Message}
use Rattle.mp4_answers.specs.declared.text.sample_texts.SampleStyle.{SampleStyle}
use Rattle.mp4_answers.proofs.Paddings.{kept_message, kept_ready}
use Rattle.mp4_answers.proofs.Told.{flat_two}

-- ---- samples that are taken one by one

take-slice_set : {A : Type 0} (xs : List A) (k : ℕ) (x : A) → k < length xs → take (suc k) (slice_set xs k x) ≡ take k xs ++ x ∷ []
take-slice_set [] k x lt = absurd (omega (arith, lt))
take-slice_set (y ∷ xs) zero x lt = refl
take-slice_set (y ∷ xs) (suc k) x lt = ap (λ (ys : List _). y ∷ ys) (take-slice_set xs k x (omega (arith, lt)))

pub one_taken : (all samples left left_c : List SampleAt) (k : ℕ) (s : SampleAt) → k < length samples → all ≡ take k samples ++ left → Some s ≡ slice_get left 0 → left_c ≡ drop 1 left → all ≡ take (k + 1) (slice_set samples k s) ++ left_c
one_taken all samples [] left_c k s lt e is rest = absurd cc
one_taken all samples (x ∷ left) left_c k s lt e is rest =
    let same : s ≡ x = cc in
    let next : k + 1 ≡ suc k = omega arith in
    let there = append_assoc (take k samples) (x ∷ []) left in
    rw (next, take-slice_set samples k s lt, rest, same) (e ∙ sym there)

-- ---- messages

-- the first so many messages end before a place
abbrev pub EndBefore : List Message → ℕ → ℕ → Type 0
EndBefore messages count start = (k : ℕ) → k < count → (message_at messages k).start + block_count (message_at messages k).len * 64 ≤ start

-- one more message is read behind the others
module _ (a b : List ℕ) (messages : List Message) (count : ℕ) (m : Message) (room : count < length messages) (before : EndBefore messages count m.start) (same : length b ≡ length a) (front : take m.start b ≡ take m.start a) where
  abbrev more : List Message
  more = slice_set messages count m

  last : message_at more count ≡ m
  last = get_or-set_same messages count m no_message room

  earlier : (k : ℕ) → k < count → message_at more k ≡ message_at messages k
  earlier k lt = get_or-set_other messages count k m no_message (λ same. omega (arith, same, lt))

  -- it is the last, or one of the others
  by_place : (P : ℕ → Message → Type 0) → ((k : ℕ) → k < count → P k (message_at messages k)) → P count m → (k : ℕ) → k < count + 1 → P k (message_at more k)
  by_place P others own k lt = elim (cases_lt k count) [
    | inl below ↦ rw (earlier k below) (others k below)
    | inr above ↦
        let is : k ≡ count = omega arith in
        rw (is, last) own
  ]

  pub end_before_more : EndBefore more (count + 1) (m.start + block_count m.len * 64)
  end_before_more = by_place (λ k x. x.start + block_count x.len * 64 ≤ m.start + block_count m.len * 64) (λ k lt. (let own = before k lt in omega (arith, own))) (omega arith)

  pub ready_more : AreReadyTo a messages count → IsReady b m → AreReadyTo b more (count + 1)
  ready_more ready own = by_place (λ k x. IsReady b x) (λ k lt. kept_ready a b (message_at messages k) m.start (before k lt) same front (ready k lt)) own

  pub bytes_more : (file : List ℕ) (samples : List SampleAt) → HaveBytesOf file a messages samples count → message_of b m ≡ range file (sample_at samples count).at (sample_at samples count).size → HaveBytesOf file b more samples (count + 1)
  bytes_more file samples have own = by_place (λ k x. message_of b x ≡ range file (sample_at samples k).at (sample_at samples k).size) (λ k lt. kept_message a b (message_at messages k) m.start (before k lt) front ∙ have k lt) own

-- ---- lines

-- the line of the next sample, and those behind it
pub lines_next : (style : SampleStyle) (digests : List (List ℕ)) (samples : List SampleAt) (k : ℕ) → k < length samples
    → told_lines style digests k (drop k samples) ≡ told_line style (slice_index_or digests k []) (sample_at samples k) ++ told_lines style digests (k + 1) (drop (k + 1) samples)
lines_next style digests samples k lt =
    let next : k + 1 ≡ suc k = omega arith in
    by_first samples k k lt ∙ ap (λ n. told_line style (slice_index_or digests k []) (sample_at samples k) ++ told_lines style digests (k + 1) (drop n samples)) (sym next)
  where
    by_first : (ss : List SampleAt) (j n : ℕ) → j < length ss → told_lines style digests n (drop j ss) ≡ told_line style (slice_index_or digests n []) (sample_at ss j) ++ told_lines style digests (n + 1) (drop (suc j) ss)
    by_first [] j n lt = absurd (omega (arith, lt))
    by_first (x ∷ ss) zero n lt = refl
    by_first (x ∷ ss) (suc j) n lt = by_first ss j n (omega (arith, lt))

-- with the digests of their bytes they are the lines of the samples
pub lines_are : (style : SampleStyle) (file : List ℕ) (digests : List (List ℕ)) (n : ℕ) (samples : List SampleAt)
    → ((j : ℕ) → j < length samples → slice_index_or digests (n + j) [] ≡ sha256 (range file (sample_at samples j).at (sample_at samples j).size))
    → told_lines style digests n samples ≡ flat_map (told_sample style file) samples
lines_are style file digests n [] right = refl
lines_are style file digests n (x ∷ samples) right =
    let here : n + 0 ≡ n = omega arith in
    let first : slice_index_or digests n [] ≡ sha256 (range file x.at x.size) = ap (λ k. slice_index_or digests k []) (sym here) ∙ right 0 (omega arith) in
    (λ i. told_line style (first i) x ++ lines_are style file digests (n + 1) samples (λ j lt. ap (λ k. slice_index_or digests k []) (omega arith) ∙ right (suc j) (omega (arith, lt))) i)

-- ---- samples side by side

module _ (style : SampleStyle) (file bytes : List ℕ) (digests : List (List ℕ)) (messages : List Message) (samples : List SampleAt) (count : ℕ) (few : count ≤ length samples) (room : count ≤ length messages) where
  message_in_front : (k : ℕ) → k < count → message_at (take count messages) k ≡ message_at messages k
  message_in_front k lt = get_or-take count messages k no_message lt

  -- their digests give the lines of the first samples
  pub front_lines_are : HaveBytesOf file bytes messages samples count → ((k : ℕ) → k < length (take count messages) → IsFound bytes (take count messages) digests k)
      → told_lines style digests 0 (take count samples) ≡ flat_map (told_sample style file) (take count samples)
  front_lines_are have found = lines_are style file digests 0 (take count samples) (λ j lt.
      let below : j < count = omega (arith, lt, length-take-le count samples few) in
      let here : 0 + j ≡ j = omega arith in
      let sample : sample_at (take count samples) j ≡ sample_at samples j = get_or-take count samples j no_sample below in
      ap (λ k. slice_index_or digests k []) here ∙ found j (omega (arith, below, length-take-le count messages room))
      ∙ ap (λ m. sha256 (message_of bytes m)) (message_in_front j below) ∙ ap sha256 (have j below) ∙ ap (λ (s : SampleAt). sha256 (range file s.at s.size)) (sym sample))

-- the texts of the first, and of the others
pub texts_apart : (f : SampleAt → List ℕ) (samples : List SampleAt) (n : ℕ) → flat_map f samples ≡ flat_map f (take n samples) ++ flat_map f (drop n samples)
texts_apart f samples n = ap (flat_map f) (sym (take-append-drop n samples)) ∙ flat_two f (take n samples) (drop n samples)

-- what is put of the first texts, or all of them, is a front of all
pub front_of_more : (Took : List ℕ → Type 0) (held part rest all : List ℕ) → all ≡ part ++ rest → TakesPrefix Took (held ++ part) → TakesPrefix Took (held ++ all)
front_of_more Took held part rest all e front = rw (e, ← append_assoc held part rest) (TakesPrefix-longer Took (held ++ part) rest front)

pub front_of_gone : (Took : List ℕ → Type 0) (held held_after part rest all : List ℕ) → all ≡ part ++ rest → BytesGoOn Took held held_after part → TakesPrefix Took (held ++ all)
front_of_gone Took held held_after part rest all e goes = rw e (BytesGoOn-front Took held held_after part rest goes)

pub first_apart : (f : SampleAt → List ℕ) (samples : List SampleAt) → 0 < length samples → flat_map f samples ≡ f (sample_at samples 0) ++ flat_map f (drop 1 samples)
first_apart f [] lt = absurd (omega (arith, lt))
first_apart f (x ∷ samples) lt = refl

-- ---- what follows from an answer

pub err_then : {T E : Type 0} (r : Result T E) (P Q : Type 0) → (P → Q) → OnErr r P → OnErr r Q
err_then (Ok x) P Q f p = tt
err_then (Err e) P Q f p = f p
