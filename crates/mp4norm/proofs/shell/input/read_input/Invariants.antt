use Rattle.std.proofs.Common.{◌<◌, ◌≤◌, length}
use Rattle.std.specs.Io.KnownBytes.{Consumes}
use Rattle.mp4norm.proofs.shell.input.read_input.Given as goal

-- what was read is the front of what the reader gives, and there is room for more
abbrev pub invariant-loop-turn : goal.invariant-loop-turn
invariant-loop-turn g l = (length l.input.items ≤ l.most) × (0 < length l.piece.items) × Consumes (g.R.Read.remaining l.initial.reader) (g.R.Read.remaining l.reader) l.input.items
