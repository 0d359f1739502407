use Rattle.std.proofs.Common.{◌≡◌, length}
use Rattle.mp4_head.specs.words.Seen.{edit_seen}
use Rattle.mp4_content.specs.format.Timescales.{divided, edit_by}
use Rattle.mp4_present.proofs.Changed.{ChangedTo}
use Rattle.mp4_content.proofs.reduced_head.divide_edits.Given as goal

-- those before this one are divided, and the others are as they were
abbrev pub invariant-loop-k : goal.invariant-loop-k
invariant-loop-k l = (length l.edits.items ≡ length l.initial.edits.items) × ChangedTo edit_seen (λ n. edit_by (divided l.movie) (divided l.own)) 0 l.initial.edits.items l.edits.items l.k
