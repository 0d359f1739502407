-- What is gathered of the samples of a piece, in the words of the normal form.
use Rattle.std.specs.Prelude.{◌≡◌, ℕ, ◌<◌, ◌==◌, not, List, ◌∷◌, length, map, Some, None}
use Rattle.std.specs.List.{list_all}
use Rattle.mp4_boxes.specs.format.Bytes.{sum_of, unsigned}
use Rattle.mp4_tables.specs.declared.sample.SampleAt.{SampleAt}
use Rattle.mp4_plan.specs.format.Normal.{common, longest_runs}
use Rattle.mp4_plan.specs.words.Gathering.{gather_all, index_of, runs_at}
use Rattle.mp4_plan.specs.declared.gathered.Gathered.{Gathered}

-- the indexes of samples at the j-th key
abbrev pub indexes : ℕ → List SampleAt → List ℕ
indexes j samples = map (λ (s : SampleAt). index_of s j) samples

-- This is what some samples have.
pub record SumsUp (samples : List SampleAt) (g : Gathered) : Type 0 where
  pub count : g.count ≡ length samples
  pub bytes : g.bytes ≡ sum_of (λ (s : SampleAt). s.size) samples
  pub duration : g.duration ≡ common (map (λ (s : SampleAt). s.duration) samples)
  pub size : g.size ≡ common (map (λ (s : SampleAt). s.size) samples)
  pub flags : g.flags ≡ common (map (λ (s : SampleAt). s.flags) samples)
  pub has_offsets : g.has_offsets ≡ not (list_all (λ (s : SampleAt). unsigned 4 s.cto == 0) samples)
  pub rows : (j : ℕ) → j < 4 → (runs_at g j).rows ≡ length (longest_runs (indexes j samples))
  pub used : (j : ℕ) → j < 4
      → (runs_at g j).is_used ≡ not (list_all (λ index. index == 0) (indexes j samples))

-- What is gathered of samples is what they have.
abbrev pub GatheringSumsUp : Type 0
GatheringSumsUp = (s : SampleAt) (samples : List SampleAt) → (g : Gathered)
    × (gather_all None (s ∷ samples) ≡ Some g) × SumsUp (s ∷ samples) g
