-- Bytes in memory that are compared, and what is said of them in numbers.
use Rattle.std.specs.Prelude.{◌≡◌, ℕ, List, ◌++◌, Bool, true, false}
use Rattle.mp4_boxes.specs.declared.refusal.Refusal.{Refusal}
use Rattle.mp4_boxes.specs.declared.refusal.Refusal.TheVariants as refusals
use Rattle.mp4_store.specs.declared.mem.MemSink.{MemSink}
use Rattle.mp4_answers.specs.declared.commands.compare.Asked.{Asked}
use Rattle.mp4_answers.specs.declared.commands.compare.Failure.{Failure}
use Rattle.mp4_answers.specs.declared.commands.compare.Side.{Side}
use Rattle.mp4_answers.specs.declared.commands.compare.Side.TheVariants as sides
use Rattle.mp4_answers.specs.declared.selection.Selection.{Selection}
use Rattle.mp4_answers.specs.format.CompareHeadline.{of_first, of_second}
use Rattle.mp4_answers.specs.format.Selected.{LacksNamed}
use Rattle.mp4_answers.specs.format.Told.{IsFaultTold}
use Rattle.mp4norm_c.specs.declared.answer.Answer.{Answer}
use Rattle.mp4norm_c.specs.format.Exports.{fault_told, plain}

-- these bytes were appended
abbrev pub Took : MemSink → MemSink → List ℕ → Type 0
Took s t bytes = t.held.items ≡ s.held.items ++ bytes

-- why one of two files is not compared where this is looked at: for its first fault as it is judged
-- so, for a track that it lacks, or want of memory
abbrev pub RefusesOne : Selection → List ℕ → Refusal → Type 0
RefusesOne s file (refusals.Fault f) = IsFaultTold s file f
RefusesOne s file refusals.NoSuchTrack = LacksNamed s.track true file
RefusesOne s file refusals.Memory = Unit {0}
RefusesOne s file _ = ⊥

-- why both are not: there is no memory, of which to keep what is said is a part
abbrev pub RefusesRoom : Refusal → Type 0
RefusesRoom refusals.Memory = Unit {0}
RefusesRoom refusals.WriteFailed = Unit {0}
RefusesRoom _ = ⊥

-- why bytes in memory are not compared
abbrev pub RefusesTwo : Asked → List ℕ → List ℕ → Failure → Type 0
RefusesTwo asked file other failure = of failure.side
  where
    of : Side → Type 0
    of sides.First = RefusesOne (of_first asked) file failure.refusal
    of sides.Second = RefusesOne (of_second asked) other failure.refusal
    of sides.Both = ⊥
    of sides.Neither = RefusesRoom failure.refusal

-- the number of a file
abbrev pub side_number : Side → ℕ
side_number sides.First = 0
side_number sides.Second = 1
side_number sides.Both = 0
side_number sides.Neither = 0

-- the status where two files were compared
abbrev pub verdict_number : Bool → ℕ
verdict_number true = 0
verdict_number false = 5

-- a failure in numbers
abbrev pub failure_told : Side → Refusal → Answer
failure_told side (refusals.Fault f) = fault_told (side_number side) f
failure_told side refusals.Memory = plain 2 0
failure_told side refusals.StoreFailed = plain 3 0
failure_told side refusals.StoreChanged = plain 3 0
failure_told side refusals.WriteFailed = plain 2 0
failure_told side refusals.NoSuchTrack = plain 4 0
