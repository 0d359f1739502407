-- The first fault of the tables of tracks is named.
use Rattle.std.specs.Prelude.{◌≡◌, ℕ, List, Option, Some, None, Result, MatchResult, length}
use Rattle.mp4_boxes.specs.format.FirstFault.{first_failed}
use Rattle.mp4_boxes.specs.declared.fault.Fault.{Fault}
use Rattle.mp4_boxes.specs.declared.refusal.Refusal.{Refusal}
use Rattle.mp4_boxes.specs.declared.refusal.Refusal.TheVariants as refusals
use Rattle.mp4_head.specs.declared.heads.TrackHead.{TrackHead}
use Rattle.mp4_head.specs.format.Tree.{TrackTree}
use Rattle.mp4_tables.specs.format.FirstFault.{table_tests}
use Rattle.mp4_present.specs.format.Denotes.{surroundings}
use Rattle.mp4_present.specs.format.Judge.{tables_tests}
use Rattle.mp4_present.specs.format.Presentation.{max_samples}
use Rattle.mp4_present.specs.words.TablesChecked.{WhereTrees}
use Rattle.mp4_present.specs.words.TrackTrees.{IsTrackOf}

-- an answer names the first fault, and is Ok where there is none; want of memory says nothing
abbrev pub RefusedFirst : (Option Fault → Type 0) → Refusal → Type 0
RefusedFirst IsFirst (refusals.Fault f) = IsFirst (Some f)
RefusedFirst IsFirst _ = Unit {0}

pub record NamesFirstOf {T : Type 0} (IsFirst : Option Fault → Type 0) (result : Result T Refusal)
    : Type 0 where
  pub names : MatchResult result (λ _. IsFirst None) (RefusedFirst IsFirst)

-- in a file of so many bytes with room for so many samples, an answer names the first fault of the
-- tables of the track with this head
abbrev pub NamesOfTrack : {T : Type 0} → ℕ → ℕ → TrackHead → Result T Refusal → Type 0
NamesOfTrack file_length room head result = (file : List ℕ) → length file ≡ file_length
    → (t : TrackTree) → IsTrackOf t head
    → NamesFirstOf (λ o. first_failed (table_tests room (surroundings file t) t.table) ≡ o) result

-- in a file of so many bytes, an answer names the first fault of the tables of these tracks
abbrev pub NamesOfTracks : {T : Type 0} → ℕ → List TrackHead → Result T Refusal → Type 0
NamesOfTracks file_length heads result = (file : List ℕ) → length file ≡ file_length
    → WhereTrees heads (λ trees.
    NamesFirstOf (λ o. first_failed (tables_tests file max_samples trees) ≡ o) result)
