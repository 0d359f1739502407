use Rattle.std.proofs.Common.{◌≡◌, ◌+◌, ◌*◌, ◌^◌, ◌≤◌, length}
use Rattle.std.specs.List.{sum_by}
use Rattle.mp4_present.specs.words.Carried.{waiting}
use Rattle.mp4_present.specs.declared.track_info.TrackInfo.{TrackInfo}
use Rattle.mp4_plan.specs.words.PutPieces.{PiecesFollow}
use Rattle.mp4_plan.specs.words.Turns.{IsSomeLeft, movie_turns, turns_left}
use Rattle.mp4_content.specs.words.Contents.{tracks_left}
use Rattle.mp4_content.specs.words.Scales.{divisors_of}
use Rattle.mp4_plan.specs.words.DueTracks.{IsDueAt}
use Rattle.mp4_content.specs.words.Opened.{OverOpened}
use Rattle.mp4_plan.specs.words.Writers.{IsWriterOf, IsReady}
use Rattle.mp4_plan.specs.format.Held.{held_bytes}
use Rattle.mp4_plan.proofs.WritesOn.{WritesOn}
use Rattle.std.specs.Prelude.{ℕ}
use Rattle.mp4_plan.specs.words.WriterSteps.{MayAllWrite, AllWriteOn}
use Rattle.mp4_plan.proofs.writer.Writer.write.Given as goal

-- the walks go on, what was put and what waits are the pieces of the turns before, with the samples that are no more to come, and they took no more steps than they may
abbrev pub invariant-loop-turn : goal.invariant-loop-turn
invariant-loop-turn g l = record {
  writer : IsWriterOf l.movie l.self;
  held : held_bytes l.self ≡ held_bytes l.fn.self;
  content : l.self.content ≡ l.fn.self.content;
  tracks : l.schedule.tracks ≡ length l.movie.tracks;
  honesty : g.S.Store.is_honest l.store ≡ g.S.Store.is_honest l.fn.store;
  file : g.S.Store.file l.store ≡ g.S.Store.file l.fn.store;
  reads : g.S.Store.read_failures l.store ≡ g.S.Store.read_failures l.fn.store;
  puts : g.K.Sink.put_failures l.sink ≡ g.K.Sink.put_failures l.fn.sink;
  rows : length l.self.notes.rows.items ≡ length l.fn.self.notes.rows.items;
  few : l.bytes + l.schedule.left * 4294967295 ≤ 2 ^ 64 * 4294967295 * 4294967295;
  sent : (samples : ℕ) × (samples + l.schedule.left ≡ sum_by (λ (i : TrackInfo). i.samples) l.movie.tracks)
      × PiecesFollow (g.K.Sink.takes l.fn.sink l.sink) (waiting l.fn.self.carrier) (waiting l.self.carrier) l.fn.self.head.items samples l.bytes;
  on : OverOpened g.S.Store l.fn.store l.movie
      (λ file tree. IsReady file tree l.movie l.fn.self
      → WritesOn l.fn.self.content.leaving file tree l.movie l.schedule l.sequence l.bytes l.self.walks.items l.self.nexts.items (length l.self.notes.rows.items) (g.K.Sink.takes l.fn.sink l.sink) (waiting l.self.carrier));
  within : OverOpened g.S.Store l.fn.store l.movie
      (λ file tree. (n : ℕ) → MayAllWrite file tree l.movie l.fn.self.walks.items n → AllWriteOn file tree l.movie n l.self.walks.items l.fn.steps.passed l.steps.passed);
  due : OverOpened g.S.Store l.fn.store l.movie (λ file tree. IsReady file tree l.movie l.fn.self → IsDueAt (tracks_left l.fn.self.content.leaving (divisors_of l.fn.self.content.leaving file tree) l.movie.tracks) l.self.nexts.items l.schedule l.self.due);
  some : IsSomeLeft l.schedule;
  looks : l.steps.looks + turns_left l.schedule ≤ l.fn.steps.looks + movie_turns l.movie;
  grows : l.fn.steps.passed ≤ l.steps.passed;
}

abbrev pub decreases-loop-turn : goal.decreases-loop-turn
decreases-loop-turn g l = turns_left l.schedule
