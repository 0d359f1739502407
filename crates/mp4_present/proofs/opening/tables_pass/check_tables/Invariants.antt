use Rattle.std.proofs.Common.{◌≡◌, List, drop, take, length}
use Rattle.mp4_boxes.specs.words.View.{box_seen}
use Rattle.mp4_head.specs.format.Tree.{TrackTree}
use Rattle.mp4_present.specs.words.Plain.{ArePlain, HaveTablesIn}
use Rattle.mp4_present.specs.words.TrackTrees.{AreTracksOf, HaveTables}
use Rattle.mp4_present.proofs.OpeningBytes.{TracksFit}
use Rattle.mp4_present.proofs.TablesFirst.{TablesLeft}
use Rattle.mp4_present.proofs.TablesWork.{TracksLeft, TracksTaken}
use Rattle.mp4_present.proofs.opening.tables_pass.check_tables.Given as goal

-- the first tracks were checked
abbrev pub invariant-loop-track : goal.invariant-loop-track
invariant-loop-track g l =
    ArePlain (box_seen l.moov).payload l.track-index l.plain × HaveTablesIn (box_seen l.moov) (drop l.track-index l.track-items)
    × ((trees : List TrackTree) → AreTracksOf trees l.track-items → HaveTables l.file_len (box_seen l.moov).payload l.head.trexes.items (take l.track-index trees) l.plain)
    × TracksLeft l.track-items l.track-index l.fn.steps.passed l.steps.passed
    × TracksTaken l.track-items l.track-index l.fn.steps.passed l.steps.passed
    × TracksFit l.track-index (length (box_seen l.moov).payload) l.plain.room l.fn.steps.passed l.steps.passed
    × TablesLeft l.file_len l.track-items l.track-index l.plain.room
    × (l.steps.looks ≡ l.fn.steps.looks)
