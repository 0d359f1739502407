-- The boxes between two places of a file, as boxes of a container.
use Rattle.std.specs.Prelude.{◌≡◌, ℕ, ◌-◌, List, ◌++◌, Bool, true, false, IsTrue, Option, option_map}
use Rattle.serde_json.specs.Data.{Data}
use Rattle.mp4_store.specs.words.Device.{HasRisen, range}
use Rattle.mp4_boxes.specs.format.Box.{Container, Extent, Tiles, to_end_of_file, to_end_of_box}
use Rattle.mp4_boxes.specs.format.Children.{allows}
use Rattle.mp4_boxes.specs.declared.rule.Rule.{Rule}
use Rattle.mp4_boxes.specs.declared.refusal.Refusal.{Refusal}
use Rattle.mp4_boxes.specs.declared.refusal.Refusal.TheVariants as refusals
use Rattle.mp4_present.specs.declared.reading.TopBox.{TopBox}
use Rattle.mp4_answers.specs.format.BoxWalk.{height, under, tops_seen, FaultSeen}
use Rattle.mp4_answers.specs.format.Strips.{holder, is_top}
use Rattle.mp4_answers.specs.declared.jobs.BoxForm.{BoxForm}
use Rattle.mp4_answers.specs.format.BoxTexts.{AreBoxLines}
use Rattle.mp4_answers.specs.format.Texts.{box_data, type_text, uuid_text}

-- how far boxes go: those of the file itself to its end, others to the end of their box
abbrev pub extent_of : Bool → Extent
extent_of true = to_end_of_file
extent_of false = to_end_of_box

-- The container whose boxes lie under a rule and between two places of the file, and which itself
-- begins at `start`.
abbrev pub span_of : List ℕ → Rule → ℕ → ℕ → ℕ → Container
span_of file rule start from end = record {
  kind = holder rule;
  offset = start;
  at = from;
  bytes = range file from (end - from);
  extent = extent_of (is_top rule);
}

-- these are its boxes, wherever it begins itself
abbrev pub TilesSpan : List ℕ → Rule → ℕ → ℕ → List TopBox → Type 0
TilesSpan file rule from end boxes =
    (start : ℕ) → Tiles (span_of file rule start from end) (tops_seen file boxes)

-- the lines of its boxes, and of those in them, are added to a text, in so many containers
abbrev pub AddsLines : List ℕ → BoxForm → Rule → ℕ → ℕ → ℕ → List ℕ → List ℕ → Type 0
AddsLines file form rule depth from end old new = (start : ℕ) → (part : List ℕ)
    × AreBoxLines form (height rule) depth rule (span_of file rule start from end) part
    × (new ≡ old ++ part)

-- what is told of a box that was found under a rule, in so many containers
abbrev pub found_value : ℕ → Rule → TopBox → Option (List ℕ) → Data
found_value depth rule top uuid = box_data depth (allows rule top.header.kind.0) top.offset
    (top.header.end - top.offset) (type_text top.header.kind.0) (option_map uuid_text uuid)

-- why they are not listed
abbrev pub RefusesSpan : Bool → List ℕ → Rule → ℕ → ℕ → ℕ → ℕ → Refusal → Type 0
RefusesSpan honest file rule from end reads reads_after (refusals.Fault f) = IsTrue honest
    → (start : ℕ) → FaultSeen (under rule (span_of file rule start from end)) f
RefusesSpan honest file rule from end reads reads_after refusals.Memory = Unit {0}
RefusesSpan honest file rule from end reads reads_after refusals.StoreFailed =
    HasRisen reads reads_after
RefusesSpan honest file rule from end reads reads_after _ = ⊥

-- why the line of one box is not added
abbrev pub RefusesLine : ℕ → ℕ → Refusal → Type 0
RefusesLine reads reads_after refusals.Memory = Unit {0}
RefusesLine reads reads_after refusals.StoreFailed = HasRisen reads reads_after
RefusesLine reads reads_after _ = ⊥
