-- Where the samples of a track lie: the place of each in the file, and in which `moof` it is.
use Rattle.std.specs.Prelude.{ℕ, suc, List, [], ◌∷◌, ◌++◌, length, map, replicate}
use Rattle.mp4_tables.specs.format.PlainSamples.{PlacedSample}
use Rattle.mp4_tables.specs.words.Timed.{place_of}
use Rattle.mp4_frag.specs.declared.trex.Trex.{Trex}
use Rattle.mp4_frag.specs.format.Fragments.{Fragment, fragment_of}
use Rattle.mp4_frag.specs.format.FragmentSamples.{fragment_samples, parts_of}
use Rattle.mp4_head.specs.format.Tree.{TrackTree, track_head_of, trexes_of}
use Rattle.mp4_present.specs.format.Denotes.{FileTree, file_parts, placed_of, plain_of}

-- the numbers of the `moof`s that the samples of a track lie in, where the first of these has this
-- number
abbrev pub fragments_from : List Trex → ℕ → ℕ → List Fragment → List ℕ
fragments_from trexes id number [] = []
fragments_from trexes id number (f ∷ fragments) =
    replicate (length (fragment_samples id (parts_of trexes f))) number
    ++ fragments_from trexes id (suc number) fragments

-- of each sample of a track the number of its `moof` among those of the file, from 1; 0 for those
-- of its tables
abbrev pub sample_fragments : FileTree → TrackTree → List ℕ
sample_fragments tree t = replicate (length (plain_of t)) 0
    ++ fragments_from (trexes_of tree.movie) (track_head_of t).id 1
    (map fragment_of tree.fragments)

-- of each sample of a track the place of its first byte
abbrev pub sample_offsets : FileTree → TrackTree → List ℕ
sample_offsets tree t =
    map (λ (s : PlacedSample). place_of s.at) (placed_of (file_parts tree) t)
