-- What is made of samples, handed over one after the other.
use Rattle.std.specs.Prelude.{◌≡◌, List, [], ◌∷◌}
use Rattle.mp4_tables.specs.declared.sample.SampleAt.{SampleAt}

-- all of these lead from one to the other, each by what one does
abbrev pub Through : {A : Type 0} → (A → SampleAt → A → Type 0) → A → List SampleAt → A → Type 0
Through takes a [] b = b ≡ a
Through {A = A} takes a (s ∷ samples) b = (c : A) × (takes a s c × Through takes c samples b)
