-- How many bytes the samples in hand have, taken stretch by stretch.
use Rattle.std.proofs.Common.{◌≡◌, ℕ, ◌+◌, ◌-◌, ◌≤◌, List, [], ◌∷◌, ◌++◌, length, take, drop, sym, ap, refl, ◌∙◌, length-append, arith}
use Rattle.std.specs.Prelude.{replicate}
use Rattle.std.specs.List.{AllByRecursion}
use Rattle.std.proofs.lemmas.List.{take-append-drop, length-take, length-drop, length-replicate}
use Rattle.mp4_boxes.specs.format.Bytes.{sum_of}
use Rattle.mp4_boxes.proofs.Each.{each_taken}
use Rattle.mp4_store.specs.words.Device.{range}
use Rattle.mp4_tables.specs.declared.sample.SampleAt.{SampleAt}
use Rattle.mp4_present.specs.words.Joined.{AreJoined, IsBelow, sample_bytes, sizes_of}
use Rattle.mp4_tables.proofs.Sums.{sum_joined}

-- all end before the sum of their ends
pub far : List SampleAt → ℕ
far samples = sum_of (λ (s : SampleAt). s.at + s.size) samples

pub below_far : (samples : List SampleAt) (n : ℕ) → far samples ≤ n → AllByRecursion (IsBelow n) samples
unfolding far
below_far [] n le = tt
below_far (s ∷ samples) n le = (omega (arith, le), below_far samples n (omega (arith, le)))

-- samples that lie in a file have as many bytes as their sizes say
pub length_bytes : (file : List ℕ) (samples : List SampleAt) → AllByRecursion (IsBelow (length file)) samples → length (sample_bytes file samples) ≡ sizes_of samples
length_bytes file [] h = refl
length_bytes file (s ∷ samples) h =
    let e = length_bytes file samples h.1 in
    let below = h.0 in
    omega (arith, e, below, length-append (range file s.at s.size) (sample_bytes file samples), length-take s.size (drop s.at file), length-drop s.at file)

-- so a stretch of them has as many
pub joined_size : (samples : List SampleAt) (n at len : ℕ) → AreJoined (take n samples) at len → ((m : ℕ) → AllByRecursion (IsBelow m) samples → at + len ≤ m) → len ≡ sizes_of (take n samples)
joined_size samples n at len joined within =
    let m = far samples in
    let file = replicate m 0 in
    let long : length file ≡ m = length-replicate m 0 in
    let below : AllByRecursion (IsBelow (length file)) samples = below_far samples (length file) (omega (arith, long)) in
    let ends = within (length file) below in
    let same = ap (λ (bs : List ℕ). length bs) (joined file) in
    let sizes = length_bytes file (take n samples) (each_taken (IsBelow (length file)) n samples below) in
    omega (arith, ends, same, sizes, length-take len (drop at file), length-drop at file)

pub sizes_of_two : (xs ys : List SampleAt) → sizes_of (xs ++ ys) ≡ sizes_of xs + sizes_of ys
sizes_of_two xs ys = sum_joined (λ (s : SampleAt). s.size) xs ys

-- with the samples to come as many bytes are left as with all of them
abbrev pub SizesGoOn : List SampleAt → List SampleAt → ℕ → ℕ → Type 0
SizesGoOn all to_come bytes left = sizes_of all + left ≡ bytes + sizes_of to_come

module _ (all to_come : List SampleAt) (bytes left n at len : ℕ) (h : SizesGoOn all to_come bytes left) (joined : AreJoined (take n to_come) at len) (within : (m : ℕ) → AllByRecursion (IsBelow m) to_come → at + len ≤ m) where
  split : sizes_of to_come ≡ len + sizes_of (drop n to_come)
  split =
      let own = joined_size to_come n at len joined within in
      let two = ap sizes_of (sym (take-append-drop n to_come)) ∙ sizes_of_two (take n to_come) (drop n to_come) in
      omega (arith, own, two)

  -- one more stretch
  pub sizes_more : (later : List SampleAt) (next : ℕ) → len ≤ left → next ≡ left - len → later ≡ drop n to_come → SizesGoOn all later bytes next
  sizes_more later next room less is =
      let two = split in
      let same = ap sizes_of is in
      omega (arith, h, two, same, room, less)

  -- there is room for it, where there was for all
  pub sizes_fit : sizes_of all ≤ bytes → len ≤ left
  sizes_fit fits = let two = split in omega (arith, h, two, fits)

-- no sample is left
pub sizes_all : (all to_come : List SampleAt) (bytes left : ℕ) → SizesGoOn all to_come bytes left → to_come ≡ [] → sizes_of all + left ≡ bytes
sizes_all all to_come bytes left h none = let zero = ap sizes_of none in omega (arith, h, zero)
