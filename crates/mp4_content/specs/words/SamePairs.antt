-- Pairs of samples of two tracks that are the same, and are passed.
use Rattle.std.specs.Prelude.{◌≡◌, ℕ, zero, suc, ◌+◌, ⊤, List, [], ◌∷◌, drop, flat_map}
use Rattle.mp4_tables.specs.words.Keys.{key_seen, keys_seen, key_place}
use Rattle.mp4_tables.specs.declared.keys.GroupKey.{GroupKey}
use Rattle.mp4_tables.specs.declared.keys.Keys.{Keys}
use Rattle.mp4_tables.specs.declared.sample.SampleAt.{SampleAt}
use Rattle.mp4_head.specs.format.Tree.{TrackTree}
use Rattle.mp4_present.specs.format.Denotes.{FileTree}
use Rattle.mp4_content.specs.format.Differences.{numbers_differ}
use Rattle.mp4_content.specs.words.ComingLess.{cto_left, lasts_left}
use Rattle.mp4_content.specs.words.Compared.{BothTakeOn}
use Rattle.mp4_content.specs.words.Differing.{index_in, differences_at, pair_differences}
use Rattle.mp4_present.specs.words.Movies.{MovieSeen, IsWalkOf}
use Rattle.mp4_present.specs.words.OpenedMovie.{IsOpenedAs}
use Rattle.mp4_present.specs.words.SamplesComing.{Comes}
use Rattle.mp4_present.specs.words.WalkSteps.{MayTake}
use Rattle.mp4_content.specs.words.Windows.{Shows}
use Rattle.mp4_content.specs.declared.comparing.pairing.Pairing.{Pairing}
use Rattle.mp4_content.specs.declared.comparing.samples.TrackSide.{TrackSide}
use Rattle.mp4_content.specs.declared.comparing.differences.Difference.{Difference}
use Rattle.mp4_content.specs.declared.comparing.differences.Field.TheVariants as fields
use Rattle.mp4_content.specs.declared.comparing.differences.Subject.{Subject}
use Rattle.mp4_content.specs.declared.file_window.FileWindow.{FileWindow}

-- what differs at these keys between samples that have these indexes
abbrev pub indexes_differ : Subject → List GroupKey → Keys → List ℕ → Keys → List ℕ
    → List Difference
indexes_differ of keys left_keys a right_keys b = flat_map (λ (key : GroupKey).
    numbers_differ of (fields.Group key)
    (index_in (key_place (key_seen key) (keys_seen left_keys)) a)
    (index_in (key_place (key_seen key) (keys_seen right_keys)) b)) keys

-- the same is left of their durations and of their composition offsets
pub record SayTimes (by : Pairing) (x y : SampleAt) : Type 0 where
  pub duration : lasts_left by.left_reduction x.number x.duration
      ≡ lasts_left by.right_reduction y.number y.duration
  pub offset : cto_left by.left_reduction x.cto ≡ cto_left by.right_reduction y.cto

-- two samples differ in nothing but their bytes, whatever their number
pub record SaySame (by : Pairing) (x y : SampleAt) : Type 0 where
  pub none : (of : Subject) → differences_at by of x y ≡ []
  pub size : x.size ≡ y.size

-- nothing differs between two samples of files that these windows show, whatever their number
abbrev pub IsSamePair : Pairing → FileWindow → FileWindow → SampleAt → SampleAt → Type 0
IsSamePair by w v x y = (file other : List ℕ) (number : ℕ) → Shows file w → Shows other v
    → pair_differences by file other number x y ≡ []

-- both lists have so many samples in front, and pair by pair nothing differs between these
abbrev pub BeginSame : Pairing → FileWindow → FileWindow → ℕ → List SampleAt → List SampleAt
    → Type 0
BeginSame by w v zero xs ys = ⊤
BeginSame by w v (suc n) (x ∷ xs) (y ∷ ys) = IsSamePair by w v x y × BeginSame by w v n xs ys
BeginSame by w v _ _ _ = ⊥

-- Both sides go on by so many samples that are the same, in whatever files; both windows show what
-- they showed, and both walks may take the other steps.
pub record PassesSame (by : Pairing) (m : MovieSeen) (left left_after : TrackSide) (n : MovieSeen)
    (right right_after : TrackSide) (count old new : ℕ) : Type 0 where
  pub walk : IsWalkOf m left_after.walk
  pub walk_right : IsWalkOf n right_after.walk
  pub window : left_after.window ≡ left.window
  pub window_right : right_after.window ≡ right.window
  pub comes : (file other : List ℕ) (tree other_tree : FileTree) (t u : TrackTree)
      (xs ys : List SampleAt) → Comes file tree t m left.walk xs
      → Comes other other_tree u n right.walk ys
      → Comes file tree t m left_after.walk (drop count xs)
      × Comes other other_tree u n right_after.walk (drop count ys)
      × BeginSame by left.window right.window count xs ys
  pub takes : (file other : List ℕ) (tree other_tree : FileTree) (t u : TrackTree) (p q : ℕ)
      → IsOpenedAs file m tree → IsOpenedAs other n other_tree
      → MayTake file tree t left.walk p → MayTake other other_tree u right.walk q
      → BothTakeOn file tree t left_after.walk other other_tree u right_after.walk (p + q) old new
