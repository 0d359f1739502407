-- Laws of the first fault of the tables of a track.
use Rattle.std.specs.Prelude.{◌≡◌, ℕ, ◌≤◌, ◌⊎◌, List, [], ◌∷◌, Some, None, codes}
use Rattle.mp4_boxes.specs.format.Box.{Box, Container}
use Rattle.mp4_boxes.specs.format.Children.{Holds, payload_of, payload_among, sample_sizes}
use Rattle.mp4_boxes.specs.format.Layout.{stsd, IsSound}
use Rattle.mp4_boxes.specs.format.Places.{ruled, AreSound}
use Rattle.mp4_boxes.specs.format.FirstFault.{first_failed}
use Rattle.mp4_boxes.specs.declared.rule.Rule.TheVariants.{SampleTable}
use Rattle.mp4_boxes.specs.declared.fault.Fault.{Fault}
use Rattle.mp4_boxes.specs.declared.fault.Kind.TheVariants.{BadDescriptionIndex}
use Rattle.mp4_tables.specs.format.Tables.{sample_count, tables_of}
use Rattle.mp4_tables.specs.format.TableRules.{Surroundings, Fit, IsTableFault, AreReadable}
use Rattle.mp4_tables.specs.format.FirstFault.{table_tests}
use Rattle.mp4_tables.specs.words.Leaves.{IsLeafFaultAmong, IsTooMany}

-- Each leaf of the tables is sound, they keep all rules, and there is room for their samples.
pub record AreInOrder (room : ℕ) (s : Surroundings) (boxes : List Box) : Type 0 where
  pub sound : AreSound (ruled SampleTable) boxes
  pub fit : Fit s (tables_of boxes)
  pub few : sample_count (payload_among sample_sizes boxes) ≤ room

-- Where the `stsd` is sound and no test of the tables fails, they are in order.
abbrev pub PassedTablesFit : Type 0
PassedTablesFit = (room : ℕ) (s : Surroundings) (c : Container) (boxes : List Box)
    → Holds SampleTable c boxes → IsSound stsd (payload_of (codes "stsd") boxes)
    → first_failed (table_tests room s boxes) ≡ None → AreInOrder room s boxes

-- No test of tables that are in order fails.
abbrev pub FittingTablesPass : Type 0
FittingTablesPass = (room : ℕ) (s : Surroundings) (c : Container) (boxes : List Box)
    → Holds SampleTable c boxes → AreInOrder room s boxes
    → first_failed (table_tests room s boxes) ≡ None

-- The first test that fails names a fault that stands: of one leaf, of a rule that they keep
-- together, or of their number. (A description index is judged where the `stsd` can be read.)
abbrev pub FailedTableTestStands : Type 0
FailedTableTestStands = (room : ℕ) (s : Surroundings) (c : Container) (boxes : List Box)
    (f : Fault) → Holds SampleTable c boxes
    → (f.kind ≡ BadDescriptionIndex → AreReadable (codes "stsd" ∷ []) boxes)
    → first_failed (table_tests room s boxes) ≡ Some f
    → IsLeafFaultAmong boxes f ⊎ (IsTableFault s c f ⊎ IsTooMany room boxes f)
