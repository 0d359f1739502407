-- A walk over the samples of a track that are listed, said of its store. `S` and `K` are what
-- bounds say of store and sink.
use Rattle.std.specs.Prelude.{◌≡◌, ℕ, ◌+◌, ◌^◌, ◌<◌, List, [], ◌++◌, ◌-◌, length, replicate, None, Result, MatchResult, OnOk, OnErr}
use Rattle.mp4_boxes.specs.declared.refusal.Refusal.{Refusal}
use Rattle.mp4_store.specs.declared.store.Store.{Ghosts as Store}
use Rattle.mp4_store.specs.declared.sink.Sink.{Ghosts as Sink}
use Rattle.mp4_store.specs.words.Device.{TakesPrefix}
use Rattle.mp4_tables.specs.declared.sample.SampleAt.{SampleAt}
use Rattle.mp4_frag.specs.words.OwnTrafs.{PlacedTraf, placed_samples}
use Rattle.mp4_head.specs.format.Tree.{TrackTree}
use Rattle.mp4_present.specs.format.Denotes.{FileTree}
use Rattle.mp4_present.specs.declared.out_buffer.OutBuffer.{OutBuffer}
use Rattle.mp4_present.specs.declared.walking.Walk.{Walk}
use Rattle.mp4_present.specs.words.Carried.{waiting, BytesGoOn}
use Rattle.mp4_present.specs.words.InFragment.{number_in_hand, spread, traf_numbers}
use Rattle.mp4_present.specs.words.Movies.{MovieSeen}
use Rattle.mp4_present.specs.words.OpenedMovie.{IsOpenedAs}
use Rattle.mp4_present.specs.words.SamplesComing.{StandsBefore, own_trafs}
use Rattle.mp4_present.specs.words.StoresRead.{IsUnchanged}
use Rattle.mp4_present.specs.words.TrackWalks.{WhereComes}
use Rattle.mp4_answers.specs.declared.jobs.Form.{Form}
use Rattle.mp4_answers.specs.format.Texts.{sample_at_lines}

-- the numbers of the `moof`s of so many samples of a track, the last of which are all those of its
-- `traf`s: 0 for each of the others
abbrev pub numbers_of_last : FileTree → TrackTree → ℕ → List ℕ
numbers_of_last tree t n = replicate (n - length (placed_samples (own_trafs tree t))) 0
    ++ spread (own_trafs tree t) (traf_numbers tree t)

-- over an honest store: this is true of the samples that a walk has still to come, which 32 bits
-- can number, and of the numbers of their `moof`s
abbrev pub WhereFewCome : {X : Type 0} → Store X → X → MovieSeen → Walk
    → (List ℕ → List SampleAt → Type 0) → Type 0
WhereFewCome S store m walk P = WhereComes S store m walk
    (λ file tree t samples. length samples < 2 ^ 32
    → P (numbers_of_last tree t (length samples)) samples)

-- no `traf` was loaded yet
pub record IsBegun (w : Walk) : Type 0 where
  pub next : w.next ≡ 0
  pub before : w.before ≡ None

-- The sink took what waited, and then this text; at Err some of the first bytes of these. The store
-- is not taken as changed.
pub record PutsAll {Y T : Type 0} (K : Sink Y) (sink sink_after : Y) (c : OutBuffer) (text : List ℕ)
    (result : Result T Refusal) : Type 0 where
  pub all : OnOk result (K.takes sink sink_after (waiting c ++ text))
  pub front :
      OnErr result (TakesPrefix (K.takes sink sink_after) (waiting c ++ text))
  pub unchanged : IsUnchanged result

-- what was held is put or held on; at Err some of its first bytes were put
abbrev pub PassesOn : {Y T E : Type 0} → Sink Y → Y → Y → List ℕ → List ℕ → Result T E → Type 0
PassesOn K sink sink_after held held_after result = MatchResult result
    (λ _. BytesGoOn (K.takes sink sink_after) held held_after [])
    (λ _. TakesPrefix (K.takes sink sink_after) held)

-- The lines of these samples of one `moof` follow, numbered on from a number, where 64 bits can
-- number them: at Ok all of them, and the number goes on by as many; at Err some of the first bytes
-- were put.
abbrev pub PutsLines : {Y T E : Type 0} → Sink Y → Y → Y → OutBuffer → OutBuffer → Form → ℕ → ℕ
    → ℕ → List SampleAt → Result T E → Type 0
PutsLines K sink sink_after c c_after form fragment number number_after samples result =
    MatchResult result
    (λ _. number + length samples < 2 ^ 64
    → BytesGoOn (K.takes sink sink_after) (waiting c) (waiting c_after)
    (sample_at_lines form number fragment samples) × (number_after ≡ number + length samples))
    (λ _. number + length samples < 2 ^ 64
    → TakesPrefix (K.takes sink sink_after)
    (waiting c ++ sample_at_lines form number fragment samples))

-- where the walk stands in a file, what it has in hand is of the `moof` with this number
abbrev pub IsFragmentOf : MovieSeen → Walk → ℕ → Type 0
IsFragmentOf m w fragment = (file : List ℕ) (tree : FileTree) (t : TrackTree)
    (earlier later : List PlacedTraf) → IsOpenedAs file m tree
    → StandsBefore file tree t earlier later w
    → fragment ≡ number_in_hand tree t w.before (length earlier)
