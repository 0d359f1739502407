use Rattle.std.proofs.Common.{rules, arith}
use Rattle.mp4_head.specs.words.Seen.{track_seen}
use Rattle.mp4_head.proofs.HeadLengths.{length_track}
use Rattle.mp4_head.proofs.lengths.add_track.Goals as goal

pub returns : goal.returns
returns c =
    let l = length_track (track_seen c.args.track.now) (search rules) in
    let a = c.saturating_add-fixed.ensures in
    let b = rw c.deref.ensures.value at c.add_edits-edited.ensures in
    let d = rw c.deref-2.ensures.value at c.add_kept-kept.ensures in
    let e = c.add_box-handled.ensures in
    let f = rw c.deref-3.ensures.value at c.add_boxes-told.ensures in
    let g = c.add_box-headed.ensures in
    let h = rw c.deref-4.ensures.value at c.add_kept-described.ensures in
    let i = rw c.deref-5.ensures.value at c.add_boxes.ensures in
    omega arith
