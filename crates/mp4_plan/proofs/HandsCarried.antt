-- The bytes of samples in hand, taken along stretch by stretch.
use Rattle.std.proofs.Common.{◌≡◌, ℕ, ◌+◌, ◌-◌, ◌≤◌, List, [], ◌++◌, length, take, drop, refl, sym, ap, ◌∙◌, append_assoc, length-append, arith, subst}
use Rattle.std.specs.List.{AllByRecursion}
use Rattle.std.proofs.lemmas.Grind.{flat_map-append}
use Rattle.std.proofs.lemmas.List.{take-append-drop, length-take}
use Rattle.std.proofs.Math.Seq.{take-add, take-append-add}
use Rattle.mp4_boxes.proofs.Joined.{all_last}
use Rattle.mp4_store.specs.words.Device.{range, TakesPrefix}
use Rattle.mp4_store.proofs.Known.{IsJoining, TakesPrefix-longer}
use Rattle.mp4_tables.specs.declared.sample.SampleAt.{SampleAt}
use Rattle.mp4_present.specs.words.Carried.{BytesGoOn}
use Rattle.mp4_present.specs.words.Joined.{AreJoined, IsBelow, sample_bytes}
use Rattle.mp4_present.proofs.Carrying.{BytesGoOn-nothing, BytesGoOn-then, BytesGoOn-fails, BytesGoOn-front}
use Rattle.mp4_present.proofs.Hands.{bytes_of_two}
use Rattle.mp4_plan.specs.words.HandsFed.{BytesCarried, sizes_of}
use Rattle.mp4_plan.specs.declared.carrying.Load.{Load}
use Rattle.mp4_present.proofs.HandSizes.{joined_size}
use Rattle.mp4_tables.proofs.Sums.{sum_joined as sum-append}

-- ---- bytes

-- nothing so far
pub carried_none : (file : List ℕ) (Took : List ℕ → Type 0) (nothing : Took []) (held : List ℕ) (all : List SampleAt) (load : Load) → BytesCarried file Took held held all all load load
carried_none file Took nothing held all load = record { done = []; whole = refl; count = omega arith; sizes = omega arith; bytes = BytesGoOn-nothing Took nothing held }

-- one more stretch
pub carried_more : (file : List ℕ) {Y : Type 0} {takes : Y → Y → List ℕ → Type 0} (joins : IsJoining takes) (a b c : Y) (held held_b held_c : List ℕ) (all to_come later : List SampleAt) (load left next : Load) (n at len : ℕ)
    → BytesCarried file (takes a b) held held_b all to_come load left → AreJoined (take n to_come) at len → ((m : ℕ) → AllByRecursion (IsBelow m) to_come → at + len ≤ m) → n ≤ length to_come → n ≤ left.samples → len ≤ left.bytes
    → next.samples ≡ left.samples - n → next.bytes ≡ left.bytes - len → later ≡ drop n to_come → BytesGoOn (takes b c) held_b held_c (range file at len) → BytesCarried file (takes a c) held held_c all later load next
carried_more file joins a b c held held_b held_c all to_come later load left next n at len h joined within few most room less fewer is more =
    let count = h.count in
    let sizes = h.sizes in
    let own = joined_size to_come n at len joined within in
    let min_is = length-take n to_come in
    let long : length (take n to_come) ≡ n = omega (arith, min_is, few) in
    record {
      done = h.done ++ take n to_come;
      whole = h.whole ∙ ap (λ (ss : List SampleAt). h.done ++ ss) (sym (take-append-drop n to_come) ∙ ap (λ (ss : List SampleAt). take n to_come ++ ss) (sym is)) ∙ sym (append_assoc h.done (take n to_come) later);
      count = omega (arith, count, less, most, long, length-append h.done (take n to_come));
      sizes = omega (arith, sizes, fewer, room, own, sum-append (λ (s : SampleAt). s.size) h.done (take n to_come));
      bytes = BytesGoOn-then joins a b c held held_b held_c (sample_bytes file h.done) (range file at len) (sample_bytes file (h.done ++ take n to_come)) h.bytes more
          (flat_map-append _ h.done (take n to_come) ∙ ap (λ (bs : List ℕ). sample_bytes file h.done ++ bs) (joined file));
    }

-- the same samples are to come
pub carried_as : (file : List ℕ) (Took : List ℕ → Type 0) (held held_b : List ℕ) (all to_come later : List SampleAt) (load left : Load) → BytesCarried file Took held held_b all to_come load left → later ≡ to_come
    → BytesCarried file Took held held_b all later load left
carried_as file Took held held_b all to_come later load left h e = record { done = h.done; whole = h.whole ∙ ap (λ (ss : List SampleAt). h.done ++ ss) (sym e); count = h.count; sizes = h.sizes; bytes = h.bytes }

-- ---- what was to be taken along

module _ (file : List ℕ) (Took : List ℕ → Type 0) (held held_b : List ℕ) (all to_come : List SampleAt) (load left : Load) (h : BytesCarried file Took held held_b all to_come load left) where
  -- those that were taken along, and then the next
  pub load_is : take load.samples all ≡ h.done ++ take left.samples to_come
  load_is = (λ i. take (h.count i) (h.whole i)) ∙ take-append-add h.done to_come left.samples

  load_bytes : sample_bytes file (take load.samples all) ≡ sample_bytes file h.done ++ sample_bytes file (take left.samples to_come)
  load_bytes = ap (sample_bytes file) load_is ∙ bytes_of_two file h.done (take left.samples to_come)

  -- what was put so far is a front of all
  pub carried_front : TakesPrefix Took (held ++ sample_bytes file (take load.samples all))
  carried_front = rw load_bytes (BytesGoOn-front Took held held_b (sample_bytes file h.done) (sample_bytes file (take left.samples to_come)) h.bytes)

  -- what follows from where the next ones lie, where all lie there
  pub next_below : (n : ℕ) → AllByRecursion (IsBelow n) all → AllByRecursion (IsBelow n) to_come
  next_below n below = all_last (IsBelow n) h.done to_come (subst (λ (ss : List SampleAt). AllByRecursion (IsBelow n) ss) h.whole below)

  -- where they have no more bytes than were to be taken along, a stretch of the next has no more than are left
  pub stretch_fits : (n at len : ℕ) → AreJoined (take n to_come) at len → ((m : ℕ) → AllByRecursion (IsBelow m) to_come → at + len ≤ m) → n ≤ left.samples → sizes_of (take load.samples all) ≤ load.bytes → len ≤ left.bytes
  stretch_fits n at len joined within most fits =
      let rest = take (left.samples - n) (drop n to_come) in
      let two : take left.samples to_come ≡ take n to_come ++ rest = (let split : left.samples ≡ n + (left.samples - n) = omega (arith, most) in ap (λ k. take k to_come) split ∙ take-add n (left.samples - n) to_come) in
      let own = joined_size to_come n at len joined within in
      let size : SampleAt → ℕ = λ s. s.size in
      let whole = ap sizes_of load_is ∙ sum-append size h.done (take left.samples to_come) in
      let split = ap sizes_of two ∙ sum-append size (take n to_come) rest in
      let sizes = h.sizes in
      omega (arith, own, whole, split, sizes, fits)

module _ (file : List ℕ) {Y : Type 0} {takes : Y → Y → List ℕ → Type 0} (joins : IsJoining takes) (a b : Y) (held held_b : List ℕ) (all to_come : List SampleAt) (load left : Load) (h : BytesCarried file (takes a b) held held_b all to_come load left) where
  -- bytes of the next are not put whole
  pub carried_fails : (c : Y) (bytes more : List ℕ) → sample_bytes file (take left.samples to_come) ≡ bytes ++ more → TakesPrefix (takes b c) (held_b ++ bytes) → TakesPrefix (takes a c) (held ++ sample_bytes file (take load.samples all))
  carried_fails c bytes more e p =
      let whole : sample_bytes file (take load.samples all) ≡ sample_bytes file h.done ++ (bytes ++ more) = load_bytes file (takes a b) held held_b all to_come load left h ∙ ap (λ (bs : List ℕ). sample_bytes file h.done ++ bs) e in
      rw whole (BytesGoOn-fails joins a b c held held_b (sample_bytes file h.done) (bytes ++ more) h.bytes (rw (← append_assoc held_b bytes more) (TakesPrefix-longer (takes b c) (held_b ++ bytes) more p)))

  -- a stretch of them is not taken along whole
  pub stretch_fails : (c : Y) (n at len : ℕ) → AreJoined (take n to_come) at len → n ≤ left.samples → TakesPrefix (takes b c) (held_b ++ range file at len) → TakesPrefix (takes a c) (held ++ sample_bytes file (take load.samples all))
  stretch_fails c n at len joined most p =
      let rest = take (left.samples - n) (drop n to_come) in
      let two : take left.samples to_come ≡ take n to_come ++ rest = (let split : left.samples ≡ n + (left.samples - n) = omega (arith, most) in ap (λ k. take k to_come) split ∙ take-add n (left.samples - n) to_come) in
      carried_fails c (range file at len) (sample_bytes file rest) (ap (sample_bytes file) two ∙ bytes_of_two file (take n to_come) rest ∙ ap (λ (bs : List ℕ). bs ++ sample_bytes file rest) (joined file)) p
