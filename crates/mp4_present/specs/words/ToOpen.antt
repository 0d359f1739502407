-- What is known of a file while it is opened, in few words.
use Rattle.std.specs.Prelude.{◌≡◌, ℕ, ◌+◌, ◌*◌, ◌≤◌, List, [], ◌∷◌, ◌++◌, length, map, codes, Result}
use Rattle.mp4_boxes.specs.format.Bytes.{sum_of}
use Rattle.mp4_boxes.specs.format.Box.{Box, IsFront, sizes, file_container}
use Rattle.mp4_boxes.specs.format.Children.{Holds, of_kind}
use Rattle.mp4_boxes.specs.declared.headers.TopHeader.{TopHeader}
use Rattle.mp4_boxes.specs.declared.refusal.Refusal.{Refusal}
use Rattle.mp4_boxes.specs.declared.rule.Rule.TheVariants.{File}
use Rattle.mp4_store.specs.words.Device.{range}
use Rattle.mp4_frag.specs.format.Fragments.{FragmentTree}
use Rattle.mp4_frag.specs.format.FragmentRows.{moof_says}
use Rattle.mp4_frag.specs.words.OwnTrafs.{OwnSeen}
use Rattle.mp4_frag.specs.declared.state.TrackState.{TrackState}
use Rattle.mp4_frag.specs.declared.trex.Trex.{Trex}
use Rattle.mp4_head.specs.declared.heads.TrackHead.{TrackHead}
use Rattle.mp4_head.specs.format.Tree.{MovieTree, TrackTree}
use Rattle.mp4_present.specs.format.ByBytes.{LooksByBytes}
use Rattle.mp4_present.specs.words.Plain.{ArePlain}
use Rattle.mp4_present.specs.words.TrackTrees.{IsTrackOf, HaveTables}
use Rattle.mp4_present.specs.declared.opening.tables_pass.PlainTracks.{PlainTracks}
use Rattle.mp4_present.specs.format.Denotes.{FileTree, IsFileTree, HasMovie}
use Rattle.mp4_present.specs.words.Outline.{AreSeen}
use Rattle.mp4_present.specs.words.OwnTrafs.{AreOwnBehind}
use Rattle.mp4_present.specs.words.PassedMoofs.{IsBegun, IsPassed}
use Rattle.mp4_present.specs.words.Reading.{IsTopHeader}
use Rattle.mp4_present.specs.words.WalkSteps.{IfNoFault, least_steps, opening_steps}
use Rattle.mp4_present.specs.declared.opening.FoundTracks.{FoundTracks}
use Rattle.mp4_present.specs.declared.opening.outline.Outline.{Outline}
use Rattle.mp4_present.specs.declared.opening.outline.Seen.{Seen}
use Rattle.mp4_present.specs.declared.track_info.TrackInfo.{TrackInfo}

-- these bytes are the payload of the `moov`
abbrev pub IsPayloadIn : List ℕ → Outline → List ℕ → Type 0
IsPayloadIn file o moov = moov ≡ range file (o.moov.offset + o.moov.header.header) (length moov)

abbrev pub ids_of : List TrackInfo → List ℕ
ids_of tracks = map (λ (t : TrackInfo). t.id) tracks

-- the tables of all tracks that were found are plain in these bytes of a `moov`, and which `traf`s
-- each has is noted
pub record HasTables (moov : List ℕ) (f : FoundTracks) : Type 0 where
  pub plain : ArePlain moov (length f.tracks.items) f.plain
  pub own : length f.own.items ≡ length f.tracks.items

-- these are the tracks of the file's movie, by their IDs
abbrev pub HasTracks : List ℕ → List TrackInfo → Type 0
HasTracks file tracks = HasMovie file (ids_of tracks)

-- where no fault is found, a file is opened within the steps of its boxes
abbrev pub WorksToOpen : {T : Type 0} → List ℕ → Result T Refusal → ℕ → ℕ → Type 0
WorksToOpen file result old new = (tree : FileTree) → IsFileTree file tree
    → IfNoFault result (new ≤ old + opening_steps tree)

-- a file that was opened took at least one for each row, `traf`, run and sample of its boxes
abbrev pub TakesToOpen : List ℕ → ℕ → ℕ → Type 0
TakesToOpen file old new = (tree : FileTree) → IsFileTree file tree → old + least_steps tree ≤ new

-- ---- looks at tracks

-- how often a track is looked for in a `moof`: once for each of its `traf`s
unfoldable pub moof_looks : Box → ℕ
moof_looks moof = length (moof_says moof).trafs

-- the same for all of these
abbrev pub boxes_looks : List Box → ℕ
boxes_looks moofs = sum_of moof_looks moofs

-- all looks at the tracks of a file while it is opened
abbrev pub opening_looks : FileTree → ℕ
opening_looks tree = sum_of (λ (t : FragmentTree). moof_looks t.moof) tree.fragments

-- so many looks were taken for the `moof`s of a file with these boxes; `tracks` is 1, or 0 where
-- there is none
abbrev pub LooksWithin : List ℕ → ℕ → ℕ → ℕ → Type 0
LooksWithin file tracks old new = (boxes : List Box) → Holds File (file_container file) boxes
    → new ≤ old + tracks * boxes_looks (of_kind (codes "moof") boxes)

-- the looks of the checks of all `moof`s of a file: where no fault is found, no more than they say;
-- and always no more than one for 8 bytes
pub record LooksAtMoofs {T : Type 0} (file : List ℕ) (tracks : ℕ) (result : Result T Refusal)
    (old new : ℕ) : Type 0 where
  pub said : IfNoFault result (LooksWithin file tracks old new)
  pub within : 8 * new ≤ 8 * old + tracks * length file

-- the looks at tracks while a file is opened: by its boxes where no fault is found, and by its
-- bytes
pub record LooksToOpen {T : Type 0} (file : List ℕ) (result : Result T Refusal) (old new : ℕ)
    : Type 0 where
  pub said : (tree : FileTree) → IsFileTree file tree
      → IfNoFault result (new ≤ old + opening_looks tree)
  pub within : LooksByBytes file old new

-- ---- tracks and tables

-- whatever the movie and its boxes are: where the tracks are behind their tables before, they are
-- behind all `moof`s after it
abbrev pub PassesOn : List ℕ → List TrackState → ℕ → List TrackState → Type 0
PassesOn file states room states_after = (movie : MovieTree) (boxes : List Box)
    → IsBegun file movie boxes states room → IsPassed file movie boxes states_after

-- the same, and these are then noted of each track's `traf`s
abbrev pub PassesNoting : List ℕ → List TrackState → ℕ → List TrackState → List OwnSeen → Type 0
PassesNoting file states room states_after owns = (movie : MovieTree) (boxes : List Box)
    → IsBegun file movie boxes states room → AreOwnBehind file movie boxes states_after owns

-- of a file with this header behind some first boxes, of which this is so, that is so
abbrev pub WhereSeen : ℕ → TopHeader → Seen → (List ℕ → List Box → Type 0) → Type 0
WhereSeen at header seen P = (file : List ℕ) (boxes : List Box)
    → IsFront (file_container file) boxes → sizes boxes ≡ at
    → IsTopHeader file at header → AreSeen file boxes seen → P file boxes

-- the tables of one more track are plain in these bytes of a `moov`
abbrev pub OneMorePlain : List ℕ → PlainTracks → PlainTracks → Type 0
OneMorePlain moov before after = (n : ℕ) → ArePlain moov n before → ArePlain moov (n + 1) after

-- the tables of one more track are read as its boxes say
abbrev pub OneMoreSaid : ℕ → List ℕ → List Trex → TrackHead → PlainTracks → PlainTracks → Type 0
OneMoreSaid file_length moov trexes head before after = (t : TrackTree) (trees : List TrackTree)
    → IsTrackOf t head → HaveTables file_length moov trexes trees before
    → HaveTables file_length moov trexes (trees ++ t ∷ []) after
