-- The bytes of the samples in hand, taken along stretch by stretch.
use Rattle.std.proofs.Common.{◌≡◌, ℕ, List, [], ◌++◌, take, drop, refl, sym, ap, ◌∙◌, append_assoc}
use Rattle.std.proofs.lemmas.Grind.{flat_map-append}
use Rattle.std.proofs.lemmas.List.{append-nil, take-append-drop}
use Rattle.mp4_store.specs.words.Device.{TakesPrefix, range}
use Rattle.mp4_store.proofs.Known.{IsJoining, TakesPrefix-longer}
use Rattle.mp4_tables.specs.declared.sample.SampleAt.{SampleAt}
use Rattle.mp4_present.specs.words.Carried.{BytesGoOn}
use Rattle.mp4_present.specs.words.Joined.{AreJoined, sample_bytes}
use Rattle.mp4_present.proofs.Carrying.{BytesGoOn-nothing, BytesGoOn-then, BytesGoOn-fails, BytesGoOn-front}

-- The bytes of the first samples follow; these are to come.
pub record HandGoesOn (file : List ℕ) (Took : List ℕ → Type 0) (held held_after : List ℕ) (all to_come : List SampleAt) : Type 0 where
  pub done : List SampleAt
  pub whole : done ++ to_come ≡ all
  pub bytes : BytesGoOn Took held held_after (sample_bytes file done)

pub hand_none : (file : List ℕ) (Took : List ℕ → Type 0) (nothing : Took []) (held : List ℕ) (all : List SampleAt) → HandGoesOn file Took held held all all
hand_none file Took nothing held all = record { done = []; whole = refl; bytes = BytesGoOn-nothing Took nothing held }

pub bytes_of_two : (file : List ℕ) (xs ys : List SampleAt) → sample_bytes file (xs ++ ys) ≡ sample_bytes file xs ++ sample_bytes file ys
bytes_of_two file xs ys = flat_map-append _ xs ys

-- one more stretch
pub hand_more : (file : List ℕ) {Y : Type 0} {takes : Y → Y → List ℕ → Type 0} (joins : IsJoining takes) (a b c : Y) (held held_b held_c : List ℕ) (all to_come later : List SampleAt) (n at len : ℕ) → HandGoesOn file (takes a b) held held_b all to_come
    → AreJoined (take n to_come) at len → later ≡ drop n to_come → BytesGoOn (takes b c) held_b held_c (range file at len) → HandGoesOn file (takes a c) held held_c all later
hand_more file joins a b c held held_b held_c all to_come later n at len h joined left more = record {
  done = h.done ++ take n to_come;
  whole = append_assoc h.done (take n to_come) later ∙ ap (λ (ss : List SampleAt). h.done ++ (take n to_come ++ ss)) left ∙ ap (λ (ss : List SampleAt). h.done ++ ss) (take-append-drop n to_come) ∙ h.whole;
  bytes = BytesGoOn-then joins a b c held held_b held_c (sample_bytes file h.done) (range file at len) (sample_bytes file (h.done ++ take n to_come)) h.bytes more
      (bytes_of_two file h.done (take n to_come) ∙ ap (λ (bs : List ℕ). sample_bytes file h.done ++ bs) (joined file));
}

-- no sample is left
pub hand_all : (file : List ℕ) (Took : List ℕ → Type 0) (held held_b : List ℕ) (all to_come : List SampleAt) → HandGoesOn file Took held held_b all to_come → to_come ≡ [] → BytesGoOn Took held held_b (sample_bytes file all)
hand_all file Took held held_b all to_come h none =
    let whole : h.done ≡ all = sym (append-nil h.done) ∙ ap (λ (ss : List SampleAt). h.done ++ ss) (sym none) ∙ h.whole in
    rw (← whole) h.bytes

-- a stretch isn't taken along whole
pub hand_fails : (file : List ℕ) {Y : Type 0} {takes : Y → Y → List ℕ → Type 0} (joins : IsJoining takes) (a b c : Y) (held held_b : List ℕ) (all to_come : List SampleAt) (n at len : ℕ) → HandGoesOn file (takes a b) held held_b all to_come
    → AreJoined (take n to_come) at len → TakesPrefix (takes b c) (held_b ++ range file at len) → TakesPrefix (takes a c) (held ++ sample_bytes file all)
hand_fails file {takes = takes} joins a b c held held_b all to_come n at len h joined p =
    let rest = sample_bytes file (drop n to_come) in
    let two : sample_bytes file to_come ≡ range file at len ++ rest = ap (sample_bytes file) (sym (take-append-drop n to_come)) ∙ bytes_of_two file (take n to_come) (drop n to_come) ∙ ap (λ (bs : List ℕ). bs ++ rest) (joined file) in
    let all_is : sample_bytes file all ≡ sample_bytes file h.done ++ (range file at len ++ rest) = ap (sample_bytes file) (sym h.whole) ∙ bytes_of_two file h.done to_come ∙ ap (λ (bs : List ℕ). sample_bytes file h.done ++ bs) two in
    rw all_is (BytesGoOn-fails joins a b c held held_b (sample_bytes file h.done) (range file at len ++ rest) h.bytes (rw (← append_assoc held_b (range file at len) rest) (TakesPrefix-longer (takes b c) (held_b ++ range file at len) rest p)))

-- what was put so far is a front
pub hand_front : (file : List ℕ) (Took : List ℕ → Type 0) (held held_b : List ℕ) (all to_come : List SampleAt) → HandGoesOn file Took held held_b all to_come → TakesPrefix Took (held ++ sample_bytes file all)
hand_front file Took held held_b all to_come h =
    let all_is : sample_bytes file all ≡ sample_bytes file h.done ++ sample_bytes file to_come = ap (sample_bytes file) (sym h.whole) ∙ bytes_of_two file h.done to_come in
    rw all_is (BytesGoOn-front Took held held_b (sample_bytes file h.done) (sample_bytes file to_come) h.bytes)
