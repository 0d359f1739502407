-- The tracks of a movie by their trees, and what is known of them behind their tables.
use Rattle.std.specs.Prelude.{◌≡◌, ℕ, ◌+◌, List, ◌∷◌, ◌++◌, length, map}
use Rattle.std.specs.List.{AllByRecursion, AllZip}
use Rattle.mp4_boxes.specs.format.Places.{ruled, AreSound}
use Rattle.mp4_boxes.specs.declared.fault.Fault.{Fault}
use Rattle.mp4_boxes.specs.declared.rule.Rule.TheVariants.{SampleTable}
use Rattle.mp4_tables.specs.words.Leaves.{IsFault}
use Rattle.mp4_tables.specs.format.TableRules.{Surroundings, Fit}
use Rattle.mp4_tables.specs.format.Tables.{tables_of}
use Rattle.mp4_frag.specs.words.Judged.{track_seen}
use Rattle.mp4_frag.specs.declared.trex.Trex.{Trex}
use Rattle.mp4_head.specs.words.Found.{IsFoundIn}
use Rattle.mp4_head.specs.words.Seen as seen
use Rattle.mp4_head.specs.format.Tree.{TrackTree, IsTrackTree, IsSoundTrack, stbl_of, track_head_of}
use Rattle.mp4_head.specs.declared.heads.TrackHead.{TrackHead}
use Rattle.mp4_present.specs.format.Presentation.{max_samples}
use Rattle.mp4_present.specs.format.Stands.{table_total}
use Rattle.mp4_present.specs.words.OpenedMovie.{AreTablesOf, plain_seen}
use Rattle.mp4_present.specs.declared.opening.tables_pass.PlainTracks.{PlainTracks}

-- the head of a track was read of this tree
pub record IsTrackOf (t : TrackTree) (h : TrackHead) : Type 0 where
  pub tree : IsTrackTree t
  pub sound : IsSoundTrack t
  pub found : IsFoundIn t h
  pub says : seen.track_seen h ≡ track_head_of t

abbrev pub AreTracksOf : List TrackTree → List TrackHead → Type 0
AreTracksOf trees tracks = AllZip IsTrackOf trees tracks

-- what is around the tables of a track in a file of so many bytes
abbrev pub surroundings_in : ℕ → TrackTree → Surroundings
surroundings_in file_length t = record {
  file_length = file_length;
  descriptions = length t.descriptions;
}

-- the fault is in the tables of a track, where so many samples are still allowed
abbrev pub TableFails : ℕ → ℕ → TrackTree → Fault → Type 0
TableFails file_length room t f =
    IsFault (record { file_len = file_length; descriptions = length t.descriptions; room = room })
    (stbl_of t) f

-- The tables of these tracks can be read and fit, and this is what is kept of them.
pub record HaveTables (file_length : ℕ) (moov : List ℕ) (trexes : List Trex)
    (trees : List TrackTree) (plain : PlainTracks) : Type 0 where
  pub sound : AllByRecursion (λ (t : TrackTree). AreSound (ruled SampleTable) t.table) trees
  pub fit : AllByRecursion (λ (t : TrackTree).
      Fit (surroundings_in file_length t) (tables_of t.table)) trees
  pub tables : AllZip (AreTablesOf moov) trees plain.tables.items
  pub states : map track_seen plain.states.items ≡ map (plain_seen trexes) trees
  pub room : plain.room + table_total trees ≡ max_samples

-- the fault is in the tables of one of these tracks, and those of the tracks before it can be read
pub record TablesFail (file_length : ℕ) (trees : List TrackTree) (f : Fault) : Type 0 where
  pub before : List TrackTree
  pub t : TrackTree
  pub after : List TrackTree
  pub are : trees ≡ before ++ t ∷ after
  pub sound : AllByRecursion (λ (u : TrackTree). AreSound (ruled SampleTable) u.table) before
  pub room : ℕ
  pub left : room + table_total before ≡ max_samples
  pub fails : TableFails file_length room t f
