-- What is left of how tracks begin, worked out by hand.
use Rattle.std.specs.Prelude.{◌≡◌, ℕ, List, [], ◌∷◌, ℤ, pos, negsuc, refl, true}
use Rattle.mp4_head.specs.format.Head.{Edit}
use Rattle.mp4_present.specs.format.Presentation.{Sample, Track, Presentation}
use Rattle.mp4_content.specs.format.LeadIns.{waited}
use Rattle.mp4_content.proofs.TooLong.{movie, sample, track}

abbrev edit : ℕ → ℤ → Edit
edit segment_duration media_time = record { segment_duration = segment_duration; media_time = media_time; rate_integer = pos 1; rate_fraction = pos 0 }

-- a track: its timescale, its start, its edits, its samples
abbrev track_of : ℕ → ℕ → List Edit → List Sample → Track
track_of media start edits samples =
    let t = track edits samples in
    record t { head = record t.head { media = record t.head.media { timescale = media } }; start = start }

-- a movie with this timescale and these tracks
abbrev movie_of : ℕ → List Track → Presentation
movie_of scale tracks = record { movie = record movie { timescale = scale }; tracks = tracks }

abbrev pictures : List Sample
pictures = sample 512 (pos 0) ∷ sample 512 (pos 0) ∷ []

abbrev sound : List Sample
sound = sample 1024 (pos 0) ∷ sample 1024 (pos 0) ∷ []

-- Two tracks without edits: sound begins half a second later.
abbrev late_sound : Presentation
late_sound = movie_of 1000000 (track_of 12800 0 [] pictures ∷ track_of 48000 0 (edit 500000 (negsuc 0) ∷ edit 0 (pos 0) ∷ []) sound ∷ [])

late_by_start : waited true (movie_of 1000 (track_of 12800 0 [] pictures ∷ track_of 48000 24000 [] sound ∷ [])) ≡ late_sound
late_by_start = refl

-- The same, said by an empty edit: both begin after a tenth of a second more.
late_by_edit : waited true (movie_of 600 (track_of 12800 1280 [] pictures ∷ track_of 48000 4800 (edit 200 (negsuc 0) ∷ edit 100 (negsuc 0) ∷ edit 900 (pos 0) ∷ []) sound ∷ [])) ≡ late_sound
late_by_edit = refl

-- Pictures whose first one is shown after two, and an edit that begins there, beside sound without edits.
shown_in_another_order : waited true (movie_of 1000 (track_of 12800 0 (edit 80 (pos 1024) ∷ []) (sample 512 (pos 1024) ∷ sample 512 (pos 2560) ∷ sample 512 (pos 512) ∷ []) ∷ track_of 48000 0 [] sound ∷ []))
    ≡ movie_of 1000000 (track_of 12800 0 [] (sample 512 (pos 0) ∷ sample 512 (pos 1536) ∷ sample 512 (negsuc 511) ∷ []) ∷ track_of 48000 0 [] sound ∷ [])
shown_in_another_order = refl

-- Where a track has two edits, these say more, and all edits stay: but each track begins at 0.
beside_two_edits : waited true (movie_of 600 (track_of 12800 7 (edit 100 (pos 0) ∷ edit 250 (pos 512) ∷ []) pictures ∷ track_of 3 7 (edit 12800 (negsuc 0) ∷ edit 0 (pos 70) ∷ []) (sample 512 (pos 3) ∷ sample 512 (pos 5) ∷ []) ∷ []))
    ≡ movie_of 600 (track_of 12800 0 (edit 100 (pos 0) ∷ edit 250 (pos 512) ∷ []) pictures ∷ track_of 3 0 (edit 12800 (negsuc 0) ∷ edit 0 (pos 70) ∷ []) (sample 512 (pos 0) ∷ sample 512 (pos 2) ∷ []) ∷ [])
beside_two_edits = refl

-- A track without samples waits for nothing, whatever its edits say.
beside_none : waited true (movie_of 600 (track_of 12800 0 (edit 100 (pos 0) ∷ edit 250 (pos 512) ∷ []) [] ∷ track_of 3 7 (edit 12800 (negsuc 0) ∷ edit 0 (pos 70) ∷ []) sound ∷ track_of 48000 1024 [] sound ∷ []))
    ≡ movie_of 1000000 (track_of 12800 0 [] [] ∷ track_of 3 0 (edit 312000 (negsuc 0) ∷ edit 0 (pos 0) ∷ []) sound ∷ track_of 48000 0 [] sound ∷ [])
beside_none = refl

-- Where no track has samples none waits.
no_samples : waited true (movie_of 600 (track_of 12800 0 [] [] ∷ track_of 48000 0 (edit 300 (negsuc 0) ∷ edit 0 (pos 0) ∷ []) [] ∷ [])) ≡ movie_of 1000000 (track_of 12800 0 [] [] ∷ track_of 48000 0 [] [] ∷ [])
no_samples = refl

-- Sound waits 18,446,744,073,709,551,595 microseconds by an edit, and 20 and 5/6 more by its start: so 2^64 - 1, and 5/6 of a microsecond that isn't whole.
longest_wait : waited true (movie_of 1000000 (track_of 12800 0 [] pictures ∷ track_of 48000 1 (edit 18446744073709551595 (negsuc 0) ∷ edit 0 (pos 0) ∷ []) sound ∷ []))
    ≡ movie_of 1000000 (track_of 12800 0 [] pictures ∷ track_of 48000 0 (edit 18446744073709551615 (negsuc 0) ∷ edit 0 (pos 0) ∷ []) sound ∷ [])
longest_wait = refl

-- A microsecond more counts no more.
longer_wait : waited true (movie_of 1000000 (track_of 12800 0 [] pictures ∷ track_of 48000 1 (edit 18446744073709551596 (negsuc 0) ∷ edit 0 (pos 0) ∷ []) sound ∷ []))
    ≡ movie_of 1000000 (track_of 12800 0 [] pictures ∷ track_of 48000 0 (edit 18446744073709551615 (negsuc 0) ∷ edit 0 (pos 0) ∷ []) sound ∷ [])
longer_wait = refl
