-- What `show`, `samples`, `extract` and `print` put of a file.
use Rattle.std.specs.Prelude.{◌≡◌, ℕ, List, ◌++◌, Some, Ok, slice_get}
use Rattle.serde_json.specs.Written.{compact_text}
use Rattle.mp4_head.specs.format.Tree.{TrackTree, track_head_of}
use Rattle.mp4_present.specs.format.Denotes.{FileTree, IsFileTree, file_parts, presentation_of, track_of}
use Rattle.mp4_present.specs.format.Judge.{judge}
use Rattle.mp4_present.specs.format.Presentation.{IsWithinLimits, Track, Presentation}
use Rattle.mp4_present.specs.format.SamplePlaces.{sample_fragments, sample_offsets}
use Rattle.mp4_content.specs.format.LeadIns.{told}
use Rattle.mp4_answers.specs.format.Selected.{Shows}
use Rattle.mp4_answers.specs.format.Text.{text}
use Rattle.mp4_answers.specs.format.Texts.{Spot, line_feed, sample_listing, sample_data, show_value, spots}
use Rattle.mp4_answers.specs.declared.jobs.Form.{Form}
use Rattle.mp4_answers.specs.declared.selection.Selection.{Selection}

-- the line that shows the presentation that the file is judged to be
abbrev pub ShowsLine : List ℕ → List ℕ → Type 0
ShowsLine file line = (p : Presentation) × (judge file ≡ Ok p)
    × (line ≡ compact_text (show_value p) ++ line_feed)

-- The presentation that the file is judged to be has this track, of this ID.
pub record IsTrackWith (file : List ℕ) (id : ℕ) (t : Track) : Type 0 where
  pub p : Presentation
  pub judged : judge file ≡ Ok p
  pub place : ℕ
  pub is_there : slice_get p.tracks place ≡ Some t
  pub id_is : t.head.id ≡ id

-- The file has these boxes, is judged to be what they say, and has this track of this ID in them.
pub record IsTreeWith (file : List ℕ) (id : ℕ) (tree : FileTree) (t : TrackTree) : Type 0 where
  pub is_tree : IsFileTree file tree
  pub judged : judge file ≡ Ok (presentation_of file tree)
  pub place : ℕ
  pub is_there : slice_get tree.movie.tracks place ≡ Some t
  pub id_is : (track_head_of t).id ≡ id

-- where the samples of a track lie
abbrev pub sample_spots : FileTree → TrackTree → List Spot
sample_spots tree t = spots (sample_offsets tree t) (sample_fragments tree t)

-- the samples of the track with this ID, listed in this form
abbrev pub ListsSamples : List ℕ → ℕ → Form → List ℕ → Type 0
ListsSamples file id form text = (tree : FileTree) × (t : TrackTree) × IsTreeWith file id tree t
    × (text ≡ sample_listing form (track_of file (file_parts tree) t) (sample_spots tree t))

-- the bytes of the samples of the track with this ID
abbrev pub HasData : List ℕ → ℕ → List ℕ → Type 0
HasData file id bytes = (t : Track) × IsTrackWith file id t × (bytes ≡ sample_data t)

-- the text of what is left of what is looked at of the file, which is within the limits as it is
-- told how long its tracks wait
abbrev pub PrintsText : Selection → List ℕ → List ℕ → Type 0
PrintsText s file bytes = (p : Presentation) × Shows s.track file p
    × IsWithinLimits (told s.leaving.lead_ins p) × (bytes ≡ text s.leaving p)
