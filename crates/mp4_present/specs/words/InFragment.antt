-- In which of a file's `moof`s the samples in hand lie: by the numbers of the `moof`s of a track's
-- `traf`s.
use Rattle.std.specs.Prelude.{ℕ, suc, ◌-◌, List, [], ◌∷◌, ◌++◌, length, replicate, Option, None, Some, slice_index_or}
use Rattle.mp4_frag.specs.format.Fragments.{FragmentTree}
use Rattle.mp4_frag.specs.format.FragmentSamples.{part_samples}
use Rattle.mp4_frag.specs.words.OwnTrafs.{PlacedTraf, own_in}
use Rattle.mp4_frag.specs.declared.trex.Trex.{Trex}
use Rattle.mp4_head.specs.format.Tree.{TrackTree, track_head_of, trexes_of}
use Rattle.mp4_present.specs.format.Denotes.{FileTree}
use Rattle.mp4_present.specs.declared.walking.Due.{Due}

-- of each `traf` that has samples of the track with this ID, the number of its `moof`, where the
-- first of these has this number
abbrev pub own_numbers : List Trex → ℕ → ℕ → List FragmentTree → List ℕ
own_numbers trexes id number [] = []
own_numbers trexes id number (f ∷ fs) = replicate (length (own_in trexes id f)) number
    ++ own_numbers trexes id (suc number) fs

-- the same of a track of a file: one for each of its `traf`s, from 1
abbrev pub traf_numbers : FileTree → TrackTree → List ℕ
traf_numbers tree t =
    own_numbers (trexes_of tree.movie) (track_head_of t).id 1 tree.fragments

-- the number of the `moof` of what is in hand behind so many of the track's `traf`s: none, or that
-- of the last of these
abbrev pub number_in_hand : FileTree → TrackTree → Option Due → ℕ → ℕ
number_in_hand tree t None trafs = 0
number_in_hand tree t (Some before) trafs = slice_index_or (traf_numbers tree t) (trafs - 1) 0

-- each of these numbers once for each sample of its `traf`
abbrev pub spread : List PlacedTraf → List ℕ → List ℕ
spread (p ∷ trafs) (n ∷ numbers) = replicate (length (part_samples p.part)) n
    ++ spread trafs numbers
spread _ _ = []
