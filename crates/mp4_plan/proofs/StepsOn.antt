-- The steps that walks over all tracks took so far, and those that they may still take.
use Rattle.std.proofs.Common.{ℕ, ◌+◌, ◌≤◌, List, arith}
use Rattle.mp4_head.specs.format.Tree.{TrackTree}
use Rattle.mp4_present.specs.format.Denotes.{FileTree}
use Rattle.mp4_present.specs.words.Movies.{MovieSeen}
use Rattle.mp4_present.specs.words.WalkSteps.{MayTake, TakesOn}
use Rattle.mp4_present.specs.declared.walking.Walk.{Walk}
use Rattle.mp4_content.specs.declared.reduced.Reduction.{Reduction}
use Rattle.mp4_plan.specs.words.WriterSteps.{MayAllTake, AllTakeOn, MayAllWrite, AllWriteOn, MayAllFinish, AllFinishOn}

-- ---- one walk, call after call

module _ (file : List ℕ) (tree : FileTree) (t : TrackTree) (n old : ℕ) where
  -- it moves on once more
  pub then_takes : (w now : Walk) (before after : ℕ) → TakesOn file tree t n w old before → ((rest : ℕ) → MayTake file tree t w rest → TakesOn file tree t rest now before after) → TakesOn file tree t n now old after
  then_takes w now before after h takes =
      let on = takes h.0 h.1 in
      let first = h.2 in
      let second = on.2 in
      (on.0, on.1, omega (arith, first, second))

  pub then_stops : (w : Walk) (before after : ℕ) → TakesOn file tree t n w old before → ((rest : ℕ) → MayTake file tree t w rest → after ≤ before + rest) → after ≤ old + n
  then_stops w before after h stops =
      let first = h.2 in
      let second = stops h.0 h.1 in
      omega (arith, first, second)

-- ---- all walks

module _ (file : List ℕ) (tree : FileTree) where
  -- nothing was taken
  pub none_taken : (walks : List Walk) (n old : ℕ) → MayAllTake file tree tree.movie.tracks walks n → AllTakeOn file tree n walks old old
  none_taken walks n old h = (n, h, omega arith)

  -- no more was taken than may be
  pub all_taken : (walks : List Walk) (n old new : ℕ) → AllTakeOn file tree n walks old new → new ≤ old + n
  all_taken walks n old new h = let within = h.2 in omega (arith, within)

  -- no more may be taken
  pub all_within : (walks : List Walk) (n most old new : ℕ) → n ≤ most → AllTakeOn file tree n walks old new → AllTakeOn file tree most walks old new
  all_within walks n most old new few h = let within = h.2 in (h.0, h.1, omega (arith, within, few))

  -- so many were taken before
  pub all_then : (walks later : List Walk) (n old before after : ℕ) → AllTakeOn file tree n walks old before → ((rest : ℕ) → MayAllTake file tree tree.movie.tracks walks rest → AllTakeOn file tree rest later before after) → AllTakeOn file tree n later old after
  all_then walks later n old before after h takes =
      let on = takes h.0 h.1 in
      let first = h.2 in
      let second = on.2 in
      (on.0, on.1, omega (arith, first, second))

  pub all_then_stop : (walks : List Walk) (n old before after : ℕ) → AllTakeOn file tree n walks old before → ((rest : ℕ) → MayAllTake file tree tree.movie.tracks walks rest → after ≤ before + rest) → after ≤ old + n
  all_then_stop walks n old before after h stops =
      let first = h.2 in
      let second = stops h.0 h.1 in
      omega (arith, first, second)

-- ---- all walks of a writer

module _ (file : List ℕ) (tree : FileTree) (m : MovieSeen) where
  pub writes_none_taken : (walks : List Walk) (n old : ℕ) → MayAllWrite file tree m walks n → AllWriteOn file tree m n walks old old
  writes_none_taken walks n old h = (n, h, omega arith)

  pub all_written : (walks : List Walk) (n old new : ℕ) → AllWriteOn file tree m n walks old new → new ≤ old + n
  all_written walks n old new h = let within = h.2 in omega (arith, within)

  -- so many were taken before
  pub write_then : (walks later : List Walk) (n old before after : ℕ) → AllWriteOn file tree m n walks old before → ((rest : ℕ) → MayAllWrite file tree m walks rest → AllWriteOn file tree m rest later before after) → AllWriteOn file tree m n later old after
  write_then walks later n old before after h takes =
      let on = takes h.0 h.1 in
      let first = h.2 in
      let second = on.2 in
      (on.0, on.1, omega (arith, first, second))

  pub write_then_stop : (walks : List Walk) (n old before after : ℕ) → AllWriteOn file tree m n walks old before → ((rest : ℕ) → MayAllWrite file tree m walks rest → after ≤ before + rest) → after ≤ old + n
  write_then_stop walks n old before after h stops =
      let first = h.2 in
      let second = stops h.0 h.1 in
      omega (arith, first, second)

  -- a piece was noted, and is carried
  module _ (by : List Reduction) (walks noted : List Walk) (track count n old before mid : ℕ) (h : AllWriteOn file tree m n walks old before) (note : (rest : ℕ) → MayAllWrite file tree m walks rest → AllFinishOn by file tree m track count rest noted before mid) where
    pub turn_then : (later : List Walk) (after : ℕ) → ((rest : ℕ) → MayAllFinish by file tree m track count noted rest → AllWriteOn file tree m rest later mid after) → AllWriteOn file tree m n later old after
    turn_then later after carry =
        let one = note h.0 h.1 in
        let two = carry one.0 one.1 in
        let first = h.2 in
        let second = one.2 in
        let third = two.2 in
        (two.0, two.1, omega (arith, first, second, third))

    pub turn_then_stop : (after : ℕ) → ((rest : ℕ) → MayAllFinish by file tree m track count noted rest → after ≤ mid + rest) → after ≤ old + n
    turn_then_stop after stops =
        let one = note h.0 h.1 in
        let most = stops one.0 one.1 in
        let first = h.2 in
        let second = one.2 in
        omega (arith, first, second, most)
