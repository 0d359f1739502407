-- The time at which a walk stands, and how it goes on.
use Rattle.std.specs.Prelude.{◌≡◌, ℕ, ◌+◌, List}
use Rattle.mp4_boxes.specs.format.Bytes.{sum_of}
use Rattle.mp4_tables.specs.declared.sample.SampleAt.{SampleAt}
use Rattle.mp4_frag.specs.words.FragmentsSeen.{CursorSeen}
use Rattle.mp4_frag.specs.words.Walks.{capped, coming, samples_coming}
use Rattle.mp4_frag.specs.declared.places.TrafPlace.{TrafPlace}

-- how long samples last
abbrev pub lasting : List SampleAt → ℕ
lasting samples = sum_of (λ (s : SampleAt). s.duration) samples

-- the time behind all samples to come from a place on, as far as 64 bits hold it
abbrev pub time_behind : List ℕ → TrafPlace → ℕ
time_behind payload p = capped (p.dts + lasting (coming payload p))

-- the time went on by the samples that were handed out, as far as 64 bits hold it
abbrev pub TimeGoesOn : CursorSeen → CursorSeen → Type 0
TimeGoesOn s t = capped (t.place.dts + lasting (samples_coming t))
    ≡ capped (s.place.dts + lasting (samples_coming s))
