-- What is copied of samples is copied of what is left of them.
use Rattle.std.proofs.Common.{◌≡◌, ℕ, ◌≤◌, Bool, true, false, if◌then◌else◌, List, ◌++◌, length, take, drop, sym, ap, subst, ◌∙◌}
use Rattle.std.specs.List.{AllByRecursion}
use Rattle.mp4_head.specs.format.Tree.{TrackTree}
use Rattle.mp4_store.specs.words.Device.{TakesPrefix}
use Rattle.mp4_tables.specs.declared.sample.SampleAt.{SampleAt}
use Rattle.mp4_present.specs.format.Denotes.{FileTree}
use Rattle.mp4_present.specs.words.Carried.{BytesGoOn}
use Rattle.mp4_present.specs.words.Joined.{IsBelow, sample_bytes}
use Rattle.mp4_present.specs.words.Movies.{MovieSeen}
use Rattle.mp4_present.specs.words.SamplesComing.{Comes}
use Rattle.mp4_content.specs.declared.reduced.Reduction.{Reduction}
use Rattle.mp4_present.specs.declared.walking.Walk.{Walk}
use Rattle.mp4_content.specs.words.ComingLess.{less, ComesLess}
use Rattle.mp4_content.specs.words.GoneOn.{ComesMarked}
use Rattle.mp4_plan.specs.words.HandsFed.{sizes_of}
use Rattle.mp4_plan.specs.words.CarriedSamples.{AreThere}
use Rattle.mp4_present.proofs.FrontsPut.{front_as}
use Rattle.mp4_plan.proofs.Pushes.{goes_on_as}
use Rattle.mp4_content.proofs.ReducedTaken.{bytes_stay, less_length, less_sizes, above_less, less_drop, less_take}

module _ (l : Reduction) (file : List ℕ) (tree : FileTree) (t : TrackTree) (m : MovieSeen) (w : Walk) (count : ℕ) (left : List SampleAt) (h : ComesMarked l file tree t m w count left) where
  front_left : take count left ≡ less l (take count h.samples)
  front_left = ap (take count) h.is_left ∙ less_take l count h.samples

  rest_left : drop count left ≡ less l (drop count h.samples)
  rest_left = ap (drop count) h.is_left ∙ less_drop l count h.samples

  bytes_same : sample_bytes file (take count h.samples) ≡ sample_bytes file (take count left)
  bytes_same = sym (ap (sample_bytes file) front_left ∙ bytes_stay l file (take count h.samples))

  -- what was carried of the samples is so of what is left of them
  pub carried_less : (Took : List ℕ → Type 0) (c d : List ℕ) → BytesGoOn Took c d (sample_bytes file (take count h.samples)) → BytesGoOn Took c d (sample_bytes file (take count left))
  carried_less Took c d bytes = goes_on_as Took c d _ _ bytes bytes_same

  pub prefix_less : (Took : List ℕ → Type 0) (c : List ℕ) → TakesPrefix Took (c ++ sample_bytes file (take count h.samples)) → TakesPrefix Took (c ++ sample_bytes file (take count left))
  prefix_less Took c p = front_as Took c _ _ p bytes_same

  -- those behind them come
  pub comes_less : (now : Walk) → Comes file tree t m now (drop count h.samples) → ComesLess l file tree t m now (drop count left)
  comes_less now comes = record { samples = drop count h.samples; comes = comes; is_left = rest_left }

  -- the walk goes on from the one or the other of two places before the same
  pub comes_either : (v : Bool) (now : Walk) → Comes file tree t m now (if v then h.comes.samples else drop count h.samples) → ComesLess l file tree t m now (drop count left)
  comes_either v now comes = record { samples = if v then h.comes.samples else drop count h.samples; comes = comes; is_left = by v }
    where
      by : (v : Bool) → drop count left ≡ less l (if v then h.comes.samples else drop count h.samples)
      by true = h.comes.is_left
      by false = rest_left

  -- they lie in the file where what is left of them does
  pub there_less : (bytes : ℕ) → AreThere file count bytes left → AreThere file count bytes h.samples
  there_less bytes there =
      let many = ap (λ (ss : List SampleAt). length ss) h.is_left ∙ less_length l h.samples in
      record {
        many = subst (λ n. count ≤ n) many there.many;
        sizes = there.sizes ∙ ap sizes_of front_left ∙ less_sizes l (take count h.samples);
        below = above_less l (length file) h.samples (subst (λ (ss : List SampleAt). AllByRecursion (IsBelow (length file)) ss) h.is_left there.below);
      }
