use Rattle.std.proofs.Common.{sym, ◌∙◌, arith}
use Rattle.mp4_answers.proofs.BoxCounts.{first_foreign, none_foreign}
use Rattle.mp4_answers.proofs.box_names.is_named_foreign.Goals as goal

pub returns-then-means : goal.returns-then-means
returns-then-means c =
    c.is_foreign.ensures
    ∙ sym (first_foreign c.args.rule c.args.own.kind.0 c.args.own.uuid c.loop-k.k c.args.names.now _ (omega arith) (sym c.means.ensures ∙ c.if-means.true) c.loop-k.invariant)

pub returns : goal.returns
returns c = sym (none_foreign c.args.rule c.args.own.kind.0 c.args.own.uuid c.loop-k.k c.args.names.now (omega arith) c.loop-k.invariant)
