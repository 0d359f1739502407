-- The numbers of the samples of a track.
use Rattle.std.proofs.Common.{arith}
use Rattle.mp4_tables.proofs.SampleNumbers.{numbers_are}
use Rattle.mp4_frag.specs.format.FragmentSamples.{start_of}
use Rattle.mp4_present.specs.format.Denotes.{plain_of, file_parts, parts_of_track, placed_of}
use Rattle.mp4_present.specs.words.SamplesComing.{track_keys}
use Rattle.mp4_present.specs.words.WalkLaws.{SamplesAreNumbered}

pub samples_are_numbered : SamplesAreNumbered
samples_are_numbered tree t i s e =
    let n = numbers_are (track_keys tree t) 0 (start_of (plain_of t) (parts_of_track (file_parts tree) t)) (placed_of (file_parts tree) t) i s e in
    omega (arith, n)
