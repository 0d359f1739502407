use Rattle.std.proofs.Common.{arith, sym, ◌∙◌}
use Rattle.mp4_content.proofs.CheckedTracks.{check_end}
use Rattle.mp4_content.proofs.reduced_lengths.longest_left.Goals as goal

pub returns : goal.returns
returns c =
    let first = c.min.ensures in
    let end = c.min-k-end.ensures in
    let le = c.loop-k-test.false in
    sym (check_end c.args.leaving c.args.timescale c.loop-k.longest c.loop-k.k c.args.heads.now c.args.owns.now c.args.tracks.now c.args.totals.now (omega (arith, first, end, le))) ∙ c.loop-k.invariant
