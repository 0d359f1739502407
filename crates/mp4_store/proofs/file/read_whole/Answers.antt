use Rattle.std.proofs.Common.{◌≡◌, ◌∙◌, ◌-◌, length, length-drop, length-take, sym, arith}
use borrow.Rule.Slice.PartMut.{put_mid, same_len_mid}
use Rattle.mp4_store.proofs.Known.{range-add}
use Rattle.mp4_store.proofs.Parts.{filled}
use Rattle.mp4_store.proofs.file.read_whole.Goals as goal

pub loop-done-preserved-then-n-gt0 : goal.loop-done-preserved-then-n-gt0
loop-done-preserved-then-n-gt0 g c =
    let inv = c.loop-done.invariant in
    let out = c.loop-done.out in
    let done = c.loop-done.done in
    let some = c.in-Ok.ensures in
    let part : length c.read_some.new.out ≡ length out - done = c.read_some.auto.out ∙ rw (length-take, length-drop) (omega arith) in
    let same : length (put_mid done (length out - done) out c.read_some.new.out) ≡ length out = same_len_mid done (length out - done) out c.read_some.new.out c.read_some.auto.out in (
      rw same (omega (arith, some.most, part, inv.0)),
      same ∙ inv.1,
      some.known ∙ inv.2,
      some.sound ∙ inv.3,
      λ list h.
          let more = some.bytes list (inv.2 ∙ h) in
          filled out c.read_some.new.out done c.in-Ok.n inv.0 (omega (arith, some.most, part)) ∙ rw (inv.4 list h, more) (sym (range-add list c.args.at done c.in-Ok.n)),
    )
