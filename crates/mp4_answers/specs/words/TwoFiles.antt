-- Two files that are compared, said of their stores. `S` and `T` are what bounds say of these.
use Rattle.std.specs.Prelude.{ℕ, Bool, List, Result, IfOk, IfErr}
use Rattle.mp4_boxes.specs.declared.refusal.Refusal.{Refusal}
use Rattle.mp4_store.specs.declared.store.Store.{Ghosts as Store}
use Rattle.mp4_store.specs.declared.sink.Sink.{Ghosts as Sink}
use Rattle.mp4_present.specs.format.Denotes.{FileTree, presentation_of}
use Rattle.mp4_present.specs.format.Presentation.{Presentation}
use Rattle.mp4_content.specs.words.Compared.{files_differ, WhereOpenedBoth}
use Rattle.mp4_content.specs.words.Differing.{RefusedBoth, RefusesSample}
use Rattle.mp4_present.specs.words.Movies.{MovieSeen}
use Rattle.mp4_present.specs.words.StoresRead.{OnlyReads}
use Rattle.mp4_content.specs.declared.comparing.differences.Difference.{Difference}
use Rattle.mp4_content.specs.declared.without.Without.{Without}
use Rattle.mp4_answers.specs.declared.commands.compare.Asked.{Asked}
use Rattle.mp4_answers.specs.declared.commands.compare.Failure.{Failure}
use Rattle.mp4_answers.specs.words.OpenedTold.{RefusesTold}
use Rattle.mp4_answers.specs.words.Compares.{PutsAnswer, RefusesBoth, RefusesCompare, is_silent}
use Rattle.mp4_answers.specs.words.StoreAndSink.{NoPutFails}

-- what differs between two files, by what is left out of both
unfoldable pub differ_without : List ℕ → FileTree → List ℕ → FileTree → Without → List Difference
differ_without file tree file_right other l = files_differ l file tree file_right other

-- over honest stores, of movies that were opened from them: this is true of what differs between
-- both files, whatever is left out
abbrev pub OfBoth : {X Y : Type 0} → Store X → X → MovieSeen → Store Y → Y → MovieSeen
    → ((Without → List Difference) → Type 0) → Type 0
OfBoth S a m T b n P = WhereOpenedBoth S a m T b n
    (λ tree other. P (differ_without (S.file a) tree (T.file b) other))

-- the same, of what both files denote
abbrev pub OfDenoted : {X Y : Type 0} → Store X → X → MovieSeen → Store Y → Y → MovieSeen
    → (Presentation → Presentation → Type 0) → Type 0
OfDenoted S a m T b n P = WhereOpenedBoth S a m T b n
    (λ tree other. P (presentation_of (S.file a) tree) (presentation_of (T.file b) other))

-- why two files are not compared, and for which of them
abbrev pub FailsCompare : {X Y Z R : Type 0} → Asked → Store X → X → X → Store Y → Y → Y
    → Sink Z → Z → Z → Result R Failure → Type 0
FailsCompare asked S a a_after T b b_after K sink sink_after result = IfErr result (RefusesCompare
    (RefusesTold asked.first asked.leaving.lead_ins
    (S.is_honest a) (S.file a) (S.read_failures a) (S.read_failures a_after))
    (RefusesTold asked.second asked.leaving.lead_ins
    (T.is_honest b) (T.file b) (T.read_failures b) (T.read_failures b_after))
    (RefusesBoth (S.is_honest a) (T.is_honest b) (S.read_failures a) (S.read_failures a_after)
    (T.read_failures b) (T.read_failures b_after))
    (K.takes sink sink_after) (K.put_failures sink) (K.put_failures sink_after))

-- It only reads both stores, and is refused for a read of one of them, a sample that doesn't lie in
-- its file any more, or want of memory.
pub record ReadsBoth {X Y R : Type 0} (S : Store X) (a a_after : X) (T : Store Y) (b b_after : Y)
    (result : Result R Refusal) : Type 0 where
  pub left : OnlyReads S a a_after result
  pub right : OnlyReads T b b_after result
  pub refusal : RefusedBoth S a a_after T b b_after result RefusesSample

-- It only reads both stores, and answers whether their files are the same: where they are, and
-- nothing is said of that, nothing is put; where something is, the object that says so; else some
-- text. Or they are not compared, for a reason of the file that is named.
pub record ComparesBoth {X Y Z : Type 0} (S : Store X) (a a_after : X) (T : Store Y)
    (b b_after : Y) (K : Sink Z) (to to_after : Z) (asked : Asked)
    (result : Result Bool Failure) : Type 0 where
  pub left : OnlyReads S a a_after result
  pub right : OnlyReads T b b_after result
  pub puts : NoPutFails K to to_after result
  pub put : IfOk result (PutsAnswer asked.leaving (is_silent asked.listing) (K.takes to to_after))
  pub refusal : FailsCompare asked S a a_after T b b_after K to to_after result
