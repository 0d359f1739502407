use Rattle.std.proofs.Common.{◌≡◌, length}
use Rattle.mp4_head.specs.words.Seen.{track_seen}
use Rattle.mp4_content.specs.words.PayloadsLeft.{track_payloads_left}
use Rattle.mp4_present.proofs.Changed.{ChangedTo}
use Rattle.mp4_content.proofs.own_payloads.put_tracks_left.Given as goal

-- those before this one are there, and the others are as they were
abbrev pub invariant-loop-k : goal.invariant-loop-k
invariant-loop-k l = (length l.tracks.items ≡ length l.initial.tracks.items) × ChangedTo track_seen (λ n. track_payloads_left l.fn.leaving) 0 l.initial.tracks.items l.tracks.items l.k
