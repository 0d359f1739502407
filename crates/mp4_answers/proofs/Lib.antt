pub mod ListedLines
pub mod SumsRead
pub mod LookedAt
pub mod PlainNames
pub mod Vectors
pub mod TypeTexts
pub mod Decimals
pub mod BoxLists
pub mod BoxLaws
pub mod Going
pub mod LineParts
pub mod ShownTracks
pub mod SampleTexts
pub mod ShownLines
pub mod WalkLines
pub mod TrackTexts
pub mod Alone
pub mod Lengths
pub mod Matched
pub mod Normalised
pub mod Summed
mod WholePut
pub mod Measured
pub mod ToldSteps
pub mod ToldFaults
pub mod OpenedTold
pub mod LeftFaults
pub mod StepSums
pub mod StepsTaken
pub mod LooksTaken
pub mod WaysTo
pub mod StripWalks
pub mod StripCopies
pub mod StripLaws
pub mod BoxCounts
pub mod FirstLosses
pub mod FreedPlaces
pub mod StripLeft
pub mod StripFaults
pub mod StripDenotes
pub mod Stripped
pub mod HeadersUnder
pub mod BoxSpans
pub mod ReducedNormalised
pub mod ListedAligned
pub mod ComparedFiles
mod WordSets
mod WordLists
mod LeastWords
mod LeastTimes
pub mod AskedWords
pub mod ComparedTimes
pub mod ComparedTexts
pub mod SameAnswers
pub mod OneTexts
pub mod Fronts
pub mod RunParts
pub mod BoxesPut
pub mod Told
pub mod PartTexts
pub mod HeadTexts
pub mod KeyOrder
pub mod TextsGoOn
pub mod ToldWalks
pub mod ToldLines
pub mod PrintedTracks
mod TextWords
mod TextParts
mod TextsTell
pub mod Printed
pub mod LaneLaws
pub mod MessageLaws
pub mod Paddings
mod Rotations
mod ShortForms
pub mod SampleLists
pub mod FieldParts
pub mod FieldReads
pub mod InFragments
mod NamesFound
