use Rattle.std.proofs.Common.{◌≡◌, length}
use Rattle.mp4_head.specs.words.Seen.{track_seen}
use Rattle.mp4_present.specs.format.Waiting.{waiting_head}
use Rattle.mp4_present.specs.words.HeadsRead.{places_of, wait_at}
use Rattle.mp4_present.proofs.Changed.{ChangedTo}
use Rattle.mp4_present.proofs.waiting.tell_tracks.Given as goal

-- those before this one are told, the others are as they were, and all stand where they stood
abbrev pub invariant-loop-k : goal.invariant-loop-k
invariant-loop-k l = (length l.tracks.items ≡ length l.initial.tracks.items) × ChangedTo track_seen (λ n. waiting_head (wait_at l.waits n)) 0 l.initial.tracks.items l.tracks.items l.k
    × (places_of l.tracks.items ≡ places_of l.initial.tracks.items)
