-- A writer that was made: what it is made of.
use Rattle.std.proofs.Common.{◌≡◌, ℕ, ◌≤◌, ◌^◌, List, [], ◌++◌, length, ap, arith}
use Rattle.mp4_boxes.specs.declared.refusal.Refusal.{Refusal}
use Rattle.mp4_boxes.specs.declared.refusal.Refusal.TheVariants as refusals
use Rattle.mp4_present.specs.format.Denotes.{FileTree}
use Rattle.mp4_present.specs.words.Carried.{waiting}
use Rattle.mp4_present.specs.words.Movies.{MovieSeen}
use Rattle.mp4_content.specs.words.Contents.{IsContentOf}
use Rattle.mp4_content.specs.words.LeftTimes.{NamesLong}
use Rattle.mp4_content.specs.words.Opened.{RefusesPlan}
use Rattle.mp4_content.specs.declared.without.Without.{Without}
use Rattle.mp4_plan.specs.words.DueTracks.{IsDueTree}
use Rattle.mp4_plan.specs.words.MadeWriters.{IsMade}
use Rattle.mp4_plan.specs.words.WriterWalks.{HaveRooms}
use Rattle.mp4_plan.specs.words.PutPieces.{IsHeadLeft}
use Rattle.mp4_plan.specs.words.Writers.{RefusesMemory}
use Rattle.mp4_plan.specs.declared.writer.TheConstants.{PIECE}
use Rattle.mp4_plan.specs.declared.writer.Writer.{Writer}

-- of its walks, rows, next samples, due tracks, buffer and head
pub writer_made : (m : MovieSeen) (l : Without) (w : Writer) → HaveRooms m w.walks.items → length w.notes.rows.items ≤ 2 ^ 24 → length w.nexts.items ≡ length m.tracks → IsContentOf m w.content → IsDueTree w.due → w.due.leaves ≡ length m.tracks
    → length w.carrier.buffer.items ≡ PIECE → waiting w.carrier ≡ [] → w.content.leaving ≡ l → IsHeadLeft m l w.head.items → IsMade m l w
writer_made m l w walks few nexts content due many room empty left head =
    let rooms = walks.rooms in
    let within = walks.within in
    let long : length (waiting w.carrier ++ w.head.items) ≡ length w.head.items = ap (λ bs. length (bs ++ w.head.items)) empty in
    record {
      writer = record { walks = walks.walks; few = few; nexts = nexts; content = content; due = due; many = many };
      held = omega (arith, rooms, room);
      bound = omega (arith, within, room, long);
      left = left;
      named = head;
      empty = empty;
    }

-- a plan that is refused names no track
pub names_none : (l : Without) (file : List ℕ) (tree : FileTree) (reads reads_after : ℕ) (r : Refusal) → RefusesPlan reads reads_after r → NamesLong l file tree r
names_none l file tree reads reads_after (refusals.Fault f) why = absurd why
names_none l file tree reads reads_after refusals.Memory why = tt
names_none l file tree reads reads_after refusals.StoreFailed why = tt
names_none l file tree reads reads_after refusals.StoreChanged why = tt
names_none l file tree reads reads_after refusals.WriteFailed why = tt
names_none l file tree reads reads_after refusals.NoSuchTrack why = tt

-- nor is one for which there is no memory
pub memory_names_none : (l : Without) (file : List ℕ) (tree : FileTree) (r : Refusal) → RefusesMemory r → NamesLong l file tree r
memory_names_none l file tree (refusals.Fault f) why = absurd why
memory_names_none l file tree refusals.Memory why = tt
memory_names_none l file tree refusals.StoreFailed why = tt
memory_names_none l file tree refusals.StoreChanged why = tt
memory_names_none l file tree refusals.WriteFailed why = tt
memory_names_none l file tree refusals.NoSuchTrack why = tt
