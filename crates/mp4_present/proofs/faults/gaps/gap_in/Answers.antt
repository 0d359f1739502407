use Rattle.std.proofs.Common.{rules}
use Rattle.mp4_present.proofs.faults.gaps.gap_in.Goals as goal

pub returns : goal.returns
returns c file_length = record { says = c.in_ok-track.ensures; state = c.in_ok-state.state; found_state = search rules; due_is = search rules }
