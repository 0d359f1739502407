use Rattle.std.proofs.Common.{rules, ◌<◌, length, ap, ◌∙◌, ◌++◌, [], ◌∷◌}
use Rattle.mp4_present.proofs.Changed.{there_is}
use Rattle.mp4_present.proofs.WaitsMeasured.{ends_all, ends_next}
use Rattle.mp4_present.proofs.waiting.ends_of.Goals as goal

pub loop-k-preserved : goal.loop-k-preserved
loop-k-preserved c =
    let tracks = c.args.tracks.now in
    let lt : c.loop-k.k < length tracks = search rules in
    let at = there_is tracks c.loop-k.k _ c.index-tracks-k.result lt c.index-tracks-k.is in
    c.in_ok-push.ensures.items ∙ ap (λ e. c.loop-k.ends.items ++ e ∷ []) c.end_of.ensures ∙ ends_next tracks c.loop-k.ends.items c.loop-k.k c.index-tracks-k.result c.loop-k.invariant at

pub returns : goal.returns
returns c = ends_all c.args.tracks.now c.loop-k.ends.items c.loop-k.k c.loop-k.invariant (search rules)
