-- When the samples of a presentation are decoded (ISO/IEC 14496-12, 8.4.2, 8.6.1.2).
use Rattle.std.specs.Prelude.{ℕ, zero, suc, List, map, slice_get, Option, None, Some, option_map}
use Rattle.mp4_present.specs.format.Presentation.{Track, Presentation}
use Rattle.mp4_content.specs.format.TimedSamples.{TimedSample, timed}
use Rattle.mp4_content.specs.declared.comparing.differences.DecodeTime.{DecodeTime}
use Rattle.mp4_content.specs.declared.comparing.differences.Difference.{Difference}
use Rattle.mp4_content.specs.declared.comparing.differences.Subject.{Subject}
use Rattle.mp4_content.specs.declared.comparing.differences.Subject.TheVariants as subjects

-- the entry of a list with this number, from 1
abbrev pub numbered : {A : Type 0} → ℕ → List A → Option A
numbered zero xs = None
numbered (suc n) xs = slice_get xs n

-- so many parts of a second, of which the track has so many
abbrev pub time_in : Track → TimedSample → DecodeTime
time_in t s = record { time = s.time; timescale = t.head.media.timescale }

abbrev pub time_at : ℕ → Option Track → Option DecodeTime
time_at k None = None
time_at k (Some t) = option_map (time_in t) (numbered k (timed t))

-- when a subject is decoded: a sample is, if it is there
abbrev pub decode_time : Presentation → Subject → Option DecodeTime
decode_time p subjects.Movie = None
decode_time p (subjects.Track n) = None
decode_time p (subjects.Sample n k) = time_at k (numbered n p.tracks)

-- when that is decoded of which these differences are
abbrev pub decode_times : Presentation → List Difference → List (Option DecodeTime)
decode_times p ds = map (λ (d : Difference). decode_time p d.subject) ds
