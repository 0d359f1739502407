-- Times in lowest terms, worked out by hand.
use Rattle.std.specs.Prelude.{◌≡◌, ℕ, List, [], ◌∷◌, ℤ, pos, negsuc, refl, true}
use Rattle.mp4_head.specs.format.Head.{Edit}
use Rattle.mp4_present.specs.format.Presentation.{Sample, Presentation}
use Rattle.mp4_content.specs.format.ReducedLaws.{nothing}
use Rattle.mp4_content.specs.format.Timescales.{scaled}
use Rattle.mp4_content.specs.format.TimescalesLaws.{only_ends}
use Rattle.mp4_content.proofs.TooLong.{movie, sample, track}

abbrev edit : ℕ → ℤ → Edit
edit segment_duration media_time = record { segment_duration = segment_duration; media_time = media_time; rate_integer = pos 1; rate_fraction = pos 0 }

-- a movie with this timescale and one track: its timescale, its start, its edits, its samples
abbrev movie_of : ℕ → ℕ → ℕ → List Edit → List Sample → Presentation
movie_of scale media start edits samples =
    let t = track edits samples in
    record { movie = record movie { timescale = scale }; tracks = record t { head = record t.head { media = record t.head.media { timescale = media } }; start = start } ∷ [] }

-- sound of 48,000 ticks a second, which begins after one piece of 1,024, the last one a quarter as long; one is shown two pieces early
sound-in-pieces : scaled true nothing (movie_of 1000 48000 1024 [] (sample 1024 (pos 0) ∷ sample 1024 (negsuc 2047) ∷ sample 256 (pos 0) ∷ []))
    ≡ movie_of 1 375 8 [] (sample 8 (pos 0) ∷ sample 8 (negsuc 15) ∷ sample 2 (pos 0) ∷ [])
sound-in-pieces = refl

-- pictures of 90,000 ticks a second, 30,000 / 1,001 of them a second
pictures-of-3003 : scaled true nothing (movie_of 600 90000 0 [] (sample 3003 (pos 6006) ∷ sample 3003 (pos 3003) ∷ [])) ≡ movie_of 1 30000 0 [] (sample 1001 (pos 2002) ∷ sample 1001 (pos 1001) ∷ [])
pictures-of-3003 = refl

-- an empty edit of half a second before one of two seconds, which begins two pieces in
empty-edit : scaled true nothing (movie_of 1000 48000 0 (edit 500 (negsuc 0) ∷ edit 2000 (pos 2048) ∷ []) (sample 1024 (pos 0) ∷ [])) ≡ movie_of 2 375 0 (edit 1 (negsuc 0) ∷ edit 4 (pos 16) ∷ []) (sample 8 (pos 0) ∷ [])
empty-edit = refl

-- a media time below -1: the track's times stay, and the movie's don't
no-media-time : scaled true nothing (movie_of 1000 48000 0 (edit 2000 (negsuc 1) ∷ []) (sample 1024 (pos 0) ∷ [])) ≡ movie_of 1 48000 0 (edit 2 (negsuc 1) ∷ []) (sample 1024 (pos 0) ∷ [])
no-media-time = refl

-- a track without samples
no-samples : scaled true nothing (movie_of 1000 48000 0 [] []) ≡ movie_of 1 1 0 [] []
no-samples = refl

-- the durations of the first and the last sample keep the others from being divided, where ends count
ends-that-count : scaled true nothing (movie_of 1000 2 0 [] (sample 5 (pos 0) ∷ sample 2 (pos 0) ∷ sample 2 (pos 0) ∷ sample 5 (pos 0) ∷ [])) ≡ movie_of 1 2 0 [] (sample 5 (pos 0) ∷ sample 2 (pos 0) ∷ sample 2 (pos 0) ∷ sample 5 (pos 0) ∷ [])
ends-that-count = refl

ends-left-out : scaled true only_ends (movie_of 1000 2 0 [] (sample 5 (pos 0) ∷ sample 2 (pos 0) ∷ sample 2 (pos 0) ∷ sample 5 (pos 0) ∷ [])) ≡ movie_of 1 1 0 [] (sample 1 (pos 0) ∷ sample 1 (pos 0) ∷ sample 1 (pos 0) ∷ sample 1 (pos 0) ∷ [])
ends-left-out = refl

-- where timing doesn't count, edits are in lowest terms by themselves
edits-without-timing : scaled true (record nothing { timing = true }) (movie_of 600 48000 9 (edit 500 (negsuc 0) ∷ edit 2000 (pos 2048) ∷ edit 2000 (pos 3072) ∷ []) (sample 7 (pos 3) ∷ sample 5 (pos 0) ∷ []))
    ≡ movie_of 1000 1000 0 (edit 1 (negsuc 0) ∷ edit 4 (pos 2) ∷ edit 4 (pos 3) ∷ []) (sample 1 (pos 0) ∷ sample 1 (pos 0) ∷ [])
edits-without-timing = refl
