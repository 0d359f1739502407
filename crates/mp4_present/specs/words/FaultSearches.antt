-- What a search for the numbers of a fault tells, and what it takes. `S` is what a bound says of
-- the store's type.
use Rattle.std.specs.Prelude.{ℕ, List, Option, Result, IsTrue, IfOk, IfSome}
use Rattle.mp4_boxes.specs.format.Box.{Box}
use Rattle.mp4_boxes.specs.declared.refusal.Refusal.{Refusal}
use Rattle.mp4_boxes.specs.declared.refusal.Refusal.TheVariants as refusals
use Rattle.mp4_store.specs.declared.store.Store.{Ghosts as Store}
use Rattle.mp4_frag.specs.declared.state.TrackState.{TrackState}
use Rattle.mp4_head.specs.format.Tree.{MovieTree}
use Rattle.mp4_present.specs.declared.faults.FaultNumbers.{FaultNumbers}
use Rattle.mp4_present.specs.format.FaultNumbers.{Tells}
use Rattle.mp4_present.specs.words.PassedMoofs.{IsBegun}
use Rattle.mp4_present.specs.format.ByBytes.{OpensWithin, LooksByBytes}

-- over an honest store: the numbers that are told are those of a fault at this place of its file
abbrev pub TellsOf : {X E : Type 0} → Store X → X → ℕ → Result (Option FaultNumbers) E → Type 0
TellsOf S store place result = IfOk result (λ told. IfSome told (λ n. IsTrue (S.is_honest store)
    → Tells (S.file store) place n))

-- the same where it is refused behind the tables of these tracks, with room for so many samples
abbrev pub TellsBehind : List ℕ → List TrackState → ℕ → Option FaultNumbers → Refusal → Type 0
TellsBehind file states room told (refusals.Fault f) = IfSome told
    (λ n. (movie : MovieTree) (boxes : List Box) → IsBegun file movie boxes states room
    → Tells file f.offset n)
TellsBehind file states room told r = Unit {0}

-- the steps and the looks of a search in a file, by its bytes
pub record SearchesWithin (file : List ℕ) (old new before after : ℕ) : Type 0 where
  pub steps : OpensWithin file old new
  pub looks : LooksByBytes file before after
