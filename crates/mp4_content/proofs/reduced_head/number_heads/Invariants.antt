use Rattle.std.proofs.Common.{◌≡◌, length}
use Rattle.mp4_head.specs.words.Seen.{track_seen}
use Rattle.mp4_content.specs.format.Reduced.{number_head}
use Rattle.mp4_present.specs.words.HeadsRead.{places_of}
use Rattle.mp4_present.proofs.Changed.{ChangedTo}
use Rattle.mp4_content.proofs.reduced_head.number_heads.Given as goal

-- those before this one are numbered, the others are as they were, and all stand where they stood
abbrev pub invariant-loop-k : goal.invariant-loop-k
invariant-loop-k l = (length l.heads.items ≡ length l.initial.heads.items) × ChangedTo track_seen (number_head l.leaving) 1 l.initial.heads.items l.heads.items l.k × (places_of l.heads.items ≡ places_of l.initial.heads.items)
