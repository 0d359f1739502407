pub mod FromTwo
pub mod RunRows
pub mod Shared
pub mod Maps
pub mod KeyOrder
pub mod Filters
pub mod Fragments
pub mod CutLaws
pub mod PieceLists
pub mod PieceFacts
pub mod PartLists
pub mod RunLists
pub mod Refuses
pub mod GroupRows
pub mod OneSpelling
pub mod LargestOf
pub mod ChunkSpots
pub mod SampleGroups
pub mod PlannerSteps
pub mod Gatherings
pub mod Vectors
pub mod WrittenGroups
pub mod WrittenRun
mod PieceCarried
mod PieceFed
mod HandsCounted
mod NonSyncCounted
pub mod WrittenFragment
pub mod PieceTree
pub mod PieceSays
pub mod PieceBoxes
pub mod NormalTree
pub mod GoodPieces
pub mod NormalGroups
pub mod NormalDenotes
mod LooksOn
pub mod ReducedNormal
pub mod HeadLimit
pub mod EachAt
pub mod AllTake
pub mod StepsOn
pub mod RowBytes
pub mod RunsResumed
pub mod Pushes
pub mod NextKeys
pub mod SpelledBoxes
pub mod UsedLists
pub mod SpelledGroups
pub mod SpelledPiece
pub mod FrontLists
pub mod FragmentsLeft
pub mod TurnSteps
pub mod Stretched
pub mod HandsCarried
pub mod HandSteps
pub mod HandsTaken
pub mod TakenTurns
pub mod DueTrees
pub mod DueTurns
pub mod SkippedTurns
pub mod Lefts
pub mod SizesSmall
pub mod ComeAt
pub mod PieceWritten
pub mod CarriedParts
pub mod WritesOn
pub mod WriterTurns
pub mod TurnTaken
pub mod TakenFrom
pub mod CarriedLess
pub mod LeftRefused
pub mod InfosLeft
pub mod FirstTurn
pub mod NextSamples
pub mod Planning
pub mod HeadAgain
pub mod PieceCounts
pub mod PlannedTurns
pub mod AllPut
mod AllMay
mod TrafsAhead
mod WritingSteps
mod PiecesPut
mod WriterMade
mod BytesLeft
pub mod Judged
pub mod NormalHead
