-- Tracks that are printed one after the other: walks over their samples, and what is told of them.
-- `S` and `K` are what bounds say of store and sink.
use Rattle.std.specs.Prelude.{◌≡◌, ℕ, ◌+◌, ◌-◌, ◌≤◌, ⊤, List, [], ◌∷◌, length, map, flat_map, IsTrue, Some, slice_get, Result}
use Rattle.std.specs.List.{AllByRecursion}
use Rattle.mp4_boxes.specs.declared.refusal.Refusal.{Refusal}
use Rattle.mp4_store.specs.declared.store.Store.{Ghosts as Store}
use Rattle.mp4_store.specs.declared.sink.Sink.{Ghosts as Sink}
use Rattle.mp4_tables.specs.declared.keys.Keys.{Keys}
use Rattle.mp4_tables.specs.declared.sample.SampleAt.{SampleAt}
use Rattle.mp4_head.specs.format.Tree.{TrackTree, track_head_of}
use Rattle.mp4_head.specs.words.Seen.{track_seen}
use Rattle.mp4_head.specs.declared.heads.TrackHead.{TrackHead}
use Rattle.mp4_present.specs.format.Denotes.{FileTree, file_parts, presentation_of, track_of}
use Rattle.mp4_content.specs.format.Reduced.{number_heads}
use Rattle.mp4_content.specs.format.Remaining.{divided_samples, remaining}
use Rattle.mp4_content.specs.words.Divided.{remaining_heads}
use Rattle.mp4_content.specs.words.Scales.{AreScales}
use Rattle.mp4_content.specs.declared.scales.Scales.{Scales}
use Rattle.mp4_present.specs.words.Joined.{IsBelow}
use Rattle.mp4_present.specs.words.InHand.{left_in_hand}
use Rattle.mp4_present.specs.words.HandCarried.{OfHand}
use Rattle.mp4_present.specs.words.Movies.{MovieSeen, IsWalkOf}
use Rattle.mp4_present.specs.words.OpenedMovie.{IsOpenedAs}
use Rattle.mp4_present.specs.words.SamplesComing.{Comes, track_samples}
use Rattle.mp4_present.specs.words.StoresRead.{IsUnchanged, WhereHonest}
use Rattle.mp4_present.specs.words.TrackWalks.{WhereComes}
use Rattle.mp4_present.specs.words.WalkSteps.{MayTake, walk_steps, walks_steps}
use Rattle.mp4_present.specs.declared.out_buffer.OutBuffer.{OutBuffer}
use Rattle.mp4_present.specs.declared.track_info.TrackInfo.{TrackInfo}
use Rattle.mp4_present.specs.declared.walking.Walk.{Walk}
use Rattle.mp4_content.specs.declared.without.Without.{Without}
use Rattle.mp4_answers.specs.format.Text.{sample_text, track_text}
use Rattle.mp4_answers.specs.words.Telling.{TellsText}
use Rattle.mp4_answers.specs.words.ToldSamples.{told_sample}
use Rattle.mp4_answers.specs.declared.text.sample_texts.SampleStyle.{SampleStyle}

-- This text is taken along, and the store is not taken as changed.
pub record TellsOn {Y T : Type 0} (K : Sink Y) (sink sink_after : Y) (c c_after : OutBuffer)
    (bytes : List ℕ) (result : Result T Refusal) : Type 0 where
  pub text : TellsText K sink sink_after c c_after bytes result
  pub unchanged : IsUnchanged result

-- ---- samples

-- each ends within the first n bytes
abbrev pub LieBelow : ℕ → List SampleAt → Type 0
LieBelow n samples = AllByRecursion (IsBelow n) samples

-- over an honest store, where the samples in hand lie in its file: it is so of their lines
abbrev pub OfHandLines : {X : Type 0} → Store X → X → MovieSeen → Walk → SampleStyle
    → (List ℕ → Type 0) → Type 0
OfHandLines S store m w style P = OfHand m w (λ hand. WhereHonest S store (λ file.
    LieBelow (length file) (left_in_hand hand)
    → P (flat_map (told_sample style file) (left_in_hand hand))))

-- the same of those that a walk has still to come
abbrev pub OfWalkLines : {X : Type 0} → Store X → X → MovieSeen → Walk → SampleStyle
    → (List ℕ → Type 0) → Type 0
OfWalkLines S store m w style P = WhereComes S store m w (λ file tree t samples.
    LieBelow (length file) samples → P (flat_map (told_sample style file) samples))

-- where a walk has all samples of a track to come, and they are grouped by these keys: it is so of
-- the lines of what is left of them, divided by this
abbrev pub OfTrackLines : {X : Type 0} → Store X → X → MovieSeen → Walk → Without → ℕ → Keys
    → (List ℕ → Type 0) → Type 0
OfTrackLines S store m w l divisor keys P = WhereComes S store m w (λ file tree t samples.
    samples ≡ track_samples tree t → LieBelow (length file) samples
    → (k : ℕ) (info : TrackInfo) → slice_get tree.movie.tracks k ≡ Some t
    → slice_get m.tracks k ≡ Some info → keys ≡ info.keys
    → P (flat_map sample_text (divided_samples l divisor (track_of file (file_parts tree) t))))

-- ---- tracks

-- The walk stands before the first sample of the track at this place among the tracks.
pub record IsBegun (m : MovieSeen) (track : ℕ) (w : Walk) : Type 0 where
  pub walk : IsWalkOf m w
  pub coming : (file : List ℕ) (tree : FileTree) (t : TrackTree) → IsOpenedAs file m tree
      → slice_get tree.movie.tracks track ≡ Some t → Comes file tree t m w (track_samples tree t)
  pub may : (file : List ℕ) (tree : FileTree) (t : TrackTree) → IsOpenedAs file m tree
      → slice_get tree.movie.tracks track ≡ Some t
      → (n : ℕ) × MayTake file tree t w n × (n ≤ walk_steps tree t)

-- walks over the tracks before a place, the last of these first
abbrev pub AreBegun : MovieSeen → ℕ → List Walk → Type 0
AreBegun m tracks [] = ⊤
AreBegun m tracks (w ∷ walks) = IsBegun m (tracks - 1) w × AreBegun m (tracks - 1) walks

-- walks over tracks up to the last, which comes first; so many tracks stand before them
pub record AreWalks (m : MovieSeen) (before : ℕ) (walks : List Walk) : Type 0 where
  pub many : before + length walks ≡ length m.tracks
  pub begun : AreBegun m (length m.tracks) walks

-- What remains of all tracks is told, in so many steps.
pub record TellsTracks {Y T : Type 0} (l : Without) (file : List ℕ) (tree : FileTree) (K : Sink Y)
    (sink sink_after : Y) (c c_after : OutBuffer) (result : Result T Refusal) (old new : ℕ)
    : Type 0 where
  pub lines : TellsOn K sink sink_after c c_after
      (flat_map track_text (remaining l (presentation_of file tree)).tracks) result
  pub steps : new ≤ old + walks_steps tree

-- these heads remain of the tracks of a file, whose times are divided by these
pub record HeadsRemain (l : Without) (file : List ℕ) (tree : FileTree) (scales : Scales)
    (heads : List TrackHead) : Type 0 where
  pub scales_are : AreScales l file tree scales
  pub heads_are : map track_seen heads ≡ number_heads l 1
      (remaining_heads l scales.movie scales.tracks.items (map track_head_of tree.movie.tracks))

-- over an honest store that has the file from which the movie was opened, and of whose tracks these
-- heads remain
abbrev pub WhereHeads : {X : Type 0} → Store X → X → MovieSeen → Without → Scales
    → List TrackHead → (List ℕ → FileTree → Type 0) → Type 0
WhereHeads S store m l scales heads P = IsTrue (S.is_honest store) → (tree : FileTree)
    → IsOpenedAs (S.file store) m tree → HeadsRemain l (S.file store) tree scales heads
    → P (S.file store) tree
