use Rattle.std.proofs.Common.{◌∙◌, ◌-◌, length, set, ap, sym, arith}
use Rattle.mp4_store.proofs.LaidWords.{set_in, set_before, set_behind}
use Rattle.mp4_store.proofs.laid.lay_byte.Goals.{else-at-place-via-then-at-place+else-place-at, else-at-place-via-else-at-place}
use Rattle.mp4_store.proofs.laid.lay_byte.Goals as goal

pub returns-then-place-at-clause-bytes : goal.returns-then-place-at-clause-bytes
returns-then-place-at-clause-bytes c = λ file e.
    let n = length c.args.out.now in
    let k = c.args.place - c.args.at in
    ap (λ l. set l k c.args.byte) e ∙ sym (set_in file c.args.at n c.args.place c.args.byte c.if-at-place.true c.if-place-at.true)

pub returns-else-at-place-clause-bytes : goal.returns-else-at-place-clause-bytes
returns-else-at-place-clause-bytes c = λ file e.
    let n = length c.args.out.now in
    e ∙ sym (elim (c.else-at-place.branch) [
      | else-at-place-via-then-at-place+else-place-at w ↦
          let le = w.if-at-place.true in
          let far = w.if-place-at.false in
          set_behind file c.args.at n c.args.place c.args.byte (omega (arith, le, far))
      | else-at-place-via-else-at-place w ↦
          let lt = w.if-at-place.false in
          set_before file c.args.at n c.args.place c.args.byte (omega (arith, lt))
    ])
