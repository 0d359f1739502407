use Rattle.mp4_boxes.specs.words.View.{box_seen}
use Rattle.mp4_present.specs.words.NumbersTold.{IsPlain, TellsTraf}
use Rattle.mp4_present.proofs.FaultGaps.{some_so}
use Rattle.mp4_present.proofs.GapsTold.{traf_plain}
use Rattle.mp4_present.proofs.faults.numbers_in_traf.Goals as goal

pub returns-in-Gap : goal.returns-in-Gap
returns-in-Gap c = c.gap_in.ensures c.args.at.file_len

pub returns-in-CountMismatch : goal.returns-in-CountMismatch
returns-in-CountMismatch c =
    let L = c.args.at.file_len in
    let place = c.args.fault.now.offset in
    some_so (IsPlain L) (TellsTraf (box_seen c.args.traf) c.args.states.now L place) c.counts_in_traf.result (traf_plain (box_seen c.args.traf) c.args.states.now L place) (c.counts_in_traf.ensures L)
