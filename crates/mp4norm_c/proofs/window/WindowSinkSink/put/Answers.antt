use Rattle.std.proofs.Common.{length, arith}
use Rattle.std.proofs.lemmas.List.{take_all}
use Rattle.mp4norm_c.proofs.window.WindowSinkSink.put.Goals as goal

-- what had no room belongs to no window: all of it was put
pub returns-clause-prefix : goal.returns-clause-prefix
returns-clause-prefix c =
    let k = c.keep.ensures.kept in (
      length c.args.piece.now,
      omega arith,
      rw (take_all (length c.args.piece.now) c.args.piece.now (omega arith)) record {
        same = k.same;
        keeps = λ from before put h. let kept = k.keeps from before put h in record { skip = kept.skip; filled = kept.filled; bytes = kept.bytes };
        full = λ h p. c.keep.ensures.full c.if-keep.false;
      },
    )
