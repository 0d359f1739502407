-- What planning and writing leave of a store and of a sink. `S` and `K` are what bounds say of
-- their types.
use Rattle.std.specs.Prelude.{◌≡◌, ℕ, ◌+◌, ◌*◌, ◌≤◌, List, [], ◌++◌, length, Result, OnOk, IfErr}
use Rattle.mp4_boxes.specs.declared.refusal.Refusal.{Refusal}
use Rattle.mp4_boxes.specs.declared.refusal.Refusal.TheVariants as refusals
use Rattle.mp4_present.specs.format.Denotes.{FileTree, presentation_of}
use Rattle.mp4_present.specs.words.Carried.{waiting}
use Rattle.mp4_present.specs.words.Movies.{MovieSeen}
use Rattle.mp4_content.specs.declared.without.Without.{Without}
use Rattle.mp4_present.specs.declared.walking.Walk.{Walk}
use Rattle.mp4_plan.specs.format.Held as memory
use Rattle.mp4_content.specs.format.Remaining.{RemainsInLimits}
use Rattle.mp4_content.specs.words.LeftTimes.{NamesLong}
use Rattle.mp4_plan.specs.words.OwnRooms.{own_rooms}
use Rattle.mp4_plan.specs.words.PutPieces.{IsHeadLeft}
use Rattle.mp4_plan.specs.words.Writers.{AreWalksOf, IsWriterOf}
use Rattle.mp4_plan.specs.declared.writer.TheConstants.{MOST_WAITING, PIECE}
use Rattle.mp4_plan.specs.declared.writer.Writer.{Writer}

-- at Ok, and where a put failed, what is left has a normal form; a fault is that of the first track
-- for which it has none, and then nothing was put
pub record TellsLong {T : Type 0} (l : Without) (file : List ℕ) (tree : FileTree)
    (result : Result T Refusal) (IsSame : Type 0) : Type 0 where
  pub in_limits : OnOk result (RemainsInLimits l (presentation_of file tree))
  pub fault : IfErr result (NamesLong l file tree)
  pub nothing : (RemainsInLimits l (presentation_of file tree) → ⊥) → IsSame
  pub begun : IfErr result
      (λ r. r ≡ refusals.WriteFailed → RemainsInLimits l (presentation_of file tree))

-- these stay a walk for each track, with their rooms
pub record AreWalksStill {T E : Type 0} (m : MovieSeen) (before after : List Walk)
    (result : Result T E) : Type 0 where
  pub walks : OnOk result (AreWalksOf m after)
  pub rooms : memory.rooms after ≡ memory.rooms before

-- A writer that was made for what is left of this movie: what it holds, and nothing waits yet.
pub record IsMade (m : MovieSeen) (l : Without) (w : Writer) : Type 0 where
  pub writer : IsWriterOf m w
  pub held : memory.held_bytes w
      ≡ length w.head.items + own_rooms m (length m.tracks) + 24 * length w.notes.rows.items + PIECE
  pub bound : memory.held_bytes w ≤ length (waiting w.carrier ++ w.head.items)
      + length m.tracks * m.longest + 24 * length w.notes.rows.items + MOST_WAITING
  pub left : w.content.leaving ≡ l
  pub named : IsHeadLeft m l w.head.items
  pub empty : waiting w.carrier ≡ []
