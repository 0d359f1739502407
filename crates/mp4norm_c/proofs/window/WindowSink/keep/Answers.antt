use Rattle.std.proofs.Common.{◌≡◌, ◌∙◌, ◌-◌, min, length, take, drop, length-append, length-take, length-drop, refl, ap, arith}
use Rattle.mp4norm_c.specs.format.Exports.{window}
use Rattle.mp4norm_c.proofs.Windows.{behind, laid_kept, length-laid, length-window, many_kept}
use Rattle.mp4norm_c.proofs.window.WindowSink.keep.Goals as goal

pub returns-clause-kept : goal.returns-clause-kept
returns-clause-kept c = record {
  same = refl;
  keeps = λ from before put k.
      let many = length-window from (length before) put in
      let long : length c.args.self.now.room.now ≡ length before = ap length k.bytes ∙ length-laid (window from (length before) put) before (omega (arith, many)) in
      let e : c.min-skipped.result ≡ min (length c.args.piece.now) (from - length put) = c.min-skipped.ensures ∙ ap (λ n. min (length c.args.piece.now) n) k.skip in
      let at : c.min-filled.result ≡ length (window from (length before) put) = omega (arith, c.min-filled.ensures, k.filled, long, many) in
      let rest = behind c.min-skipped.result c.args.piece.now in
      let left = rw (rest, length-drop, long, at) at c.min-count.ensures in
      let f : c.min-count.result ≡ min (length c.args.piece.now - c.min-skipped.result) (length before - length (window from (length before) put)) = left in
      let laid = laid_kept from before put c.args.piece.now c.min-skipped.result c.min-count.result e f in
      let count : length (take c.min-count.result (drop c.min-skipped.result c.args.piece.now)) ≡ c.min-count.result = rw (length-take, length-drop) (omega (arith, f)) in
      record {
        skip = rw length-append (omega (arith, e, k.skip));
        filled = rw at (many_kept from before put c.args.piece.now c.min-skipped.result c.min-count.result e f);
        bytes = (rw (k.bytes, at, rest, count) at c.copy_in.ensures.bytes) ∙ laid;
      };
  full = λ h p. let full = h p in omega (arith, full, c.min-filled.ensures, c.min-count.ensures, c.copy_in.ensures.many);
}
