-- Laws of the first fault of a `moov`, apart from tables.
use Rattle.std.specs.Prelude.{◌≡◌, Ok, Err}
use Rattle.mp4_boxes.specs.format.Box.{Box, box_container}
use Rattle.mp4_boxes.specs.format.Places.{ruled}
use Rattle.mp4_boxes.specs.declared.rule.Rule.TheVariants as rules
use Rattle.mp4_boxes.specs.declared.fault.Fault.{Fault}
use Rattle.mp4_head.specs.format.Tree.{MovieTree, IsMovieTree, IsSoundMovie}
use Rattle.mp4_head.specs.format.HeadFaults.{HeadStands}
use Rattle.mp4_head.specs.format.FirstFault.{head_or_fault}

-- Where no fault is named, the `moov` has the tree that is answered, and the tree is sound.
abbrev pub JudgedHeadIsSound : Type 0
JudgedHeadIsSound = (moov : Box) (m : MovieTree) → head_or_fault moov ≡ Ok m
    → (m.moov ≡ moov) × IsMovieTree m × IsSoundMovie m

-- The fault that is named stands in the `moov`.
abbrev pub JudgedHeadFaultStands : Type 0
JudgedHeadFaultStands = (moov : Box) (f : Fault) → head_or_fault moov ≡ Err f
    → HeadStands (record { scope = ruled rules.Movie; container = box_container moov }) f

-- Where a `moov` has a sound tree, no fault is named, and the tree that is answered is that one.
abbrev pub SoundHeadIsJudged : Type 0
SoundHeadIsJudged = (m : MovieTree) → IsMovieTree m → IsSoundMovie m
    → head_or_fault m.moov ≡ Ok m
