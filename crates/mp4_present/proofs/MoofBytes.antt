-- The steps of the checks of all `moof`s of a file, by their bytes.
use Rattle.std.proofs.Common.{◌≡◌, ℕ, ◌+◌, ◌-◌, ◌*◌, ◌^◌, ◌≤◌, ◌++◌, List, take, length, sym, ap, ◌∙◌, arith, length-take}
use Rattle.std.proofs.Math.Seq.{take-append_seam}
use Rattle.mp4_boxes.specs.format.Box.{Box}
use Rattle.mp4_present.specs.words.Movies.{IsWhole}
use Rattle.mp4_present.specs.declared.reading.TopBox.{TopBox}
use Rattle.mp4_present.proofs.MoofsPassed.{IsRead}

-- ---- one `moof` after the other

-- so many steps were taken, and there is room for more samples, and a place from which bytes of the file are left: each of these counts once
abbrev pub MoofsFit : ℕ → ℕ → ℕ → ℕ → ℕ → Type 0
MoofsFit file_length at room old new = new + (room + (file_length - at)) ≤ old + (2 ^ 24 + file_length)

pub none_fit : (file_length at room start : ℕ) → room ≤ 2 ^ 24 → MoofsFit file_length at room start start
none_fit file_length at room start few = omega (arith, few)

pub all_fit : (file_length at room old new : ℕ) → MoofsFit file_length at room old new → new ≤ old + (2 ^ 24 + file_length)
all_fit file_length at room old new h = omega (arith, h)

-- ---- its bytes

module _ (file : List ℕ) (at : ℕ) (top : TopBox) (w : IsWhole (length file) top) (behind : at ≤ top.offset) (m : Box) (bytes : List ℕ) (len : ℕ) (r : IsRead file top m bytes len) where
  -- they lie behind the place, up to its end
  pub taken : (length file - top.header.end) + length m.payload ≤ length file - at
  taken =
      let within = r.within in
      let fills = r.fills in
      let whole = w.within in
      let count : length m.payload ≡ length (take len bytes) = ap (λ (b : Box). length b.payload) r.is in
      omega (arith, within, fills, whole, behind, count, length-take len bytes)

  -- it was refused
  pub refused_fits : (room old before after : ℕ) → 2 * after ≤ 2 * before + 2 * room + length m.payload → MoofsFit (length file) at room old before → after ≤ old + (2 ^ 24 + length file)
  refused_fits room old before after check h = let all = taken in omega (arith, all, check, h)

  -- it was accepted
  pub next_fits : (room less old before after : ℕ) → 2 * after + 2 * less ≤ 2 * before + 2 * room + length m.payload → MoofsFit (length file) at room old before → MoofsFit (length file) top.header.end less old after
  next_fits room less old before after check h = let all = taken in omega (arith, all, check, h)

-- ---- lists that were passed as slices

-- what was written back is the whole list
pub written_back : {A : Type 0} (xs ys : List A) (n : ℕ) → length xs ≡ n → xs ≡ take n (xs ++ ys)
written_back {A} xs ys n e = sym (take-append_seam xs ys) ∙ ap (λ (k : ℕ). take k (xs ++ ys)) e
