-- Walks over all tracks, of which one moves on.
use Rattle.std.proofs.Common.{◌≡◌, ℕ, ◌+◌, ◌*◌, ◌<◌, ◌≤◌, List, [], ◌∷◌, ◌++◌, length, take, Some, refl, subst, ◌∙◌, arith, slice_set}
use Rattle.std.specs.Prelude.{slice_get}
use Rattle.std.proofs.lemmas.List.{take_all}
use Rattle.mp4_head.specs.format.Tree.{TrackTree}
use Rattle.mp4_tables.specs.declared.sample.SampleAt.{SampleAt}
use Rattle.mp4_present.specs.format.Denotes.{FileTree}
use Rattle.mp4_present.specs.words.Movies.{MovieSeen, mark_of}
use Rattle.mp4_present.specs.words.OpenedMovie.{IsInfoOf, IsOpenedAs}
use Rattle.mp4_present.specs.words.SamplesComing.{Comes, own_trafs}
use Rattle.mp4_present.specs.words.WalkSteps.{MayTake, TakesOn, trafs_steps, walk_steps}
use Rattle.mp4_present.specs.declared.walking.Walk.{Walk}
use Rattle.mp4_plan.specs.words.WriterSteps.{MayAllTake, MayAllBegin, MayWrite, WriteAllBegin, again_steps, track_writes}
use Rattle.mp4_plan.proofs.AllMay.{MayWithin, may_more, one_moves, one_ends}
use Rattle.mp4_plan.proofs.TrafsAhead.{last_more, steps_append}
use Rattle.mp4_boxes.proofs.Plain.{get_some, length_zip}

module _ (file : List ℕ) (tree : FileTree) where
  -- one walk of all moves on
  pub one_takes : (trees : List TrackTree) (walks : List Walk) (k : ℕ) (w now : Walk) (n old new : ℕ) → MayAllTake file tree trees walks n → slice_get walks k ≡ Some w → ((t : TrackTree) (own : ℕ) → MayTake file tree t w own → TakesOn file tree t own now old new)
      → (rest : ℕ) × MayAllTake file tree trees (slice_set walks k now) rest × (new + rest ≤ old + n)
  one_takes trees walks k w now n old new h is takes = one_moves (MayTake file tree) trees walks k w now n old new h is takes

  -- it takes no more than all may
  pub one_stops : (trees : List TrackTree) (walks : List Walk) (k : ℕ) (w : Walk) (n old new : ℕ) → MayAllTake file tree trees walks n → slice_get walks k ≡ Some w → ((t : TrackTree) (own : ℕ) → MayTake file tree t w own → new ≤ old + own) → new ≤ old + n
  one_stops trees walks k w n old new h is stops = one_ends (MayTake file tree) trees walks k w n old new h is stops

  -- no more steps than so many for each track
  abbrev pub TakeWithin : (TrackTree → ℕ) → List TrackTree → List Walk → Type 0
  TakeWithin most trees walks = MayWithin (MayTake file tree) most trees walks

-- walks over the first tracks of a file may take no more than those over their samples
abbrev pub BeginToTake : MovieSeen → ℕ → List Walk → Type 0
BeginToTake m k walks = (file : List ℕ) (tree : FileTree) → IsOpenedAs file m tree → TakeWithin file tree (walk_steps tree) (take k tree.movie.tracks) walks

-- a walk over one track more
pub one_to_take : (m : MovieSeen) (k : ℕ) (walks : List Walk) (walk : Walk) → BeginToTake m k walks → length walks ≡ k → k < length m.tracks
    → ((file : List ℕ) (tree : FileTree) (t : TrackTree) → IsOpenedAs file m tree → slice_get tree.movie.tracks k ≡ Some t → (n : ℕ) × MayTake file tree t walk n × (n ≤ walk_steps tree t)) → BeginToTake m (k + 1) (walks ++ walk ∷ [])
one_to_take m k walks walk h n lt may file tree o =
    let many = length_zip (IsInfoOf file tree) tree.movie.tracks m.tracks o.tracks in
    let t = get_some tree.movie.tracks k (omega (arith, lt, many)) in
    may_more (MayTake file tree) tree.movie.tracks walks k t.0 walk (walk_steps tree) (h file tree o) n t.1 (may file tree t.0 o t.1)

-- all tracks have walks
pub all_to_take : (m : MovieSeen) (k : ℕ) (walks : List Walk) → BeginToTake m k walks → length m.tracks ≤ k → (file : List ℕ) (tree : FileTree) → IsOpenedAs file m tree → MayAllBegin file tree walks
all_to_take m k walks h le file tree o =
    let many = length_zip (IsInfoOf file tree) tree.movie.tracks m.tracks o.tracks in
    let all = take_all k tree.movie.tracks (omega (arith, le, many)) in
    subst (λ (ts : List TrackTree). TakeWithin file tree (walk_steps tree) ts walks) all (h file tree o)

-- ---- walks that begin to write

-- walks over the first tracks of a file
abbrev pub BeginToWrite : MovieSeen → ℕ → List Walk → Type 0
BeginToWrite m k walks = (file : List ℕ) (tree : FileTree) → IsOpenedAs file m tree → MayWithin (MayWrite file tree m) (track_writes tree) (take k tree.movie.tracks) walks

-- a walk over one track more
pub one_to_write : (m : MovieSeen) (k : ℕ) (walks : List Walk) (walk : Walk) → BeginToWrite m k walks → length walks ≡ k → k < length m.tracks
    → ((file : List ℕ) (tree : FileTree) (t : TrackTree) → IsOpenedAs file m tree → slice_get tree.movie.tracks k ≡ Some t → (samples : List SampleAt) × Comes file tree t m walk samples × (walk.mark ≡ mark_of walk (length samples)))
    → ((file : List ℕ) (tree : FileTree) (t : TrackTree) → IsOpenedAs file m tree → slice_get tree.movie.tracks k ≡ Some t → (n : ℕ) × MayTake file tree t walk n × (n ≤ walk_steps tree t)) → BeginToWrite m (k + 1) (walks ++ walk ∷ [])
one_to_write m k walks walk h n lt comes may file tree o =
    let many = length_zip (IsInfoOf file tree) tree.movie.tracks m.tracks o.tracks in
    let t = get_some tree.movie.tracks k (omega (arith, lt, many)) in
    let c = comes file tree t.0 o t.1 in
    let own = may file tree t.0 o t.1 in
    let within = own.2 in
    let last = last_more [] own.1.earlier in
    let all : trafs_steps (own_trafs tree t.0) ≡ trafs_steps own.1.earlier + trafs_steps own.1.later = (λ i. trafs_steps (own.1.stands.split i)) ∙ steps_append own.1.earlier own.1.later in
    may_more (MayWrite file tree m) tree.movie.tracks walks k t.0 walk (track_writes tree) (h file tree o) n t.1
    (2 * own.0 + again_steps own.1.earlier own.1.later, record { samples = c.0; comes = c.1; marked = c.2; own = own.0; may = own.1; sum = refl }, omega (arith, within, last, all))

-- all tracks have walks
pub all_to_write : (m : MovieSeen) (k : ℕ) (walks : List Walk) → BeginToWrite m k walks → length m.tracks ≤ k → (file : List ℕ) (tree : FileTree) → IsOpenedAs file m tree → WriteAllBegin file tree m walks
all_to_write m k walks h le file tree o =
    let many = length_zip (IsInfoOf file tree) tree.movie.tracks m.tracks o.tracks in
    let all = take_all k tree.movie.tracks (omega (arith, le, many)) in
    subst (λ (ts : List TrackTree). MayWithin (MayWrite file tree m) (track_writes tree) ts walks) all (h file tree o)
