use Rattle.std.proofs.Common.{◌≡◌, ◌≤◌, ℕ, List, length, take}
use Rattle.mp4_tables.specs.declared.sample.SampleAt.{SampleAt}
use Rattle.mp4_plan.specs.words.WriterSteps.{MayAllTake, AllTakeOn, MayAllWrite, AllWriteOn}
use Rattle.mp4_content.specs.words.Opened.{OverOpened}
use Rattle.mp4_plan.specs.words.Writers.{AreMarked, AreWalksOf, firsts}
use Rattle.mp4_plan.specs.words.WriterWalks.{AllComeLess, WhereAllCome}
use Rattle.mp4_plan.specs.format.Held.{rooms}
use Rattle.mp4_plan.proofs.first_samples.peek_each.Given as goal

-- the walks stand where they stood, and the next samples of the first of them are noted
abbrev pub invariant-loop-k : goal.invariant-loop-k
invariant-loop-k g l = record {
  walks : AreWalksOf l.movie l.walks;
  nexts : length l.nexts ≡ length l.walks;
  many : length l.walks ≡ length l.fn.walks;
  rooms : rooms l.walks ≡ rooms l.fn.walks;
  honesty : g.S.Store.is_honest l.store ≡ g.S.Store.is_honest l.fn.store;
  file : g.S.Store.file l.store ≡ g.S.Store.file l.fn.store;
  reads : g.S.Store.read_failures l.store ≡ g.S.Store.read_failures l.fn.store;
  looks : l.steps.looks ≡ l.fn.steps.looks;
  shown : WhereAllCome g.S.Store l.fn.store l.movie l.content l.fn.walks (λ file tree lefts. AllComeLess l.content file tree l.movie l.walks lefts × (take l.k l.nexts ≡ firsts (take l.k lefts)));
  takes : OverOpened g.S.Store l.fn.store l.movie (λ file tree. (n : ℕ) → MayAllTake file tree tree.movie.tracks l.fn.walks n → AllTakeOn file tree n l.walks l.fn.steps.passed l.steps.passed);
  marked : (lefts : List (List SampleAt)) → AreMarked l.fn.walks lefts → AreMarked l.walks lefts;
  writes : OverOpened g.S.Store l.fn.store l.movie (λ file tree. (n : ℕ) → MayAllWrite file tree l.movie l.fn.walks n → AllWriteOn file tree l.movie n l.walks l.fn.steps.passed l.steps.passed);
  grows : l.fn.steps.passed ≤ l.steps.passed;
}
