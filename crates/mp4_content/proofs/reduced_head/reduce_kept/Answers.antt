use Rattle.std.proofs.Common.{rules, ◌≡◌, true, map, ap, ◌∙◌}
use Rattle.std.proofs.lemmas.Fn.{filter_same}
use Rattle.mp4_head.specs.words.Seen.{kept_seen}
use Rattle.mp4_content.proofs.HeadLess.{kept_less}
use Rattle.mp4_content.proofs.reduced_head.reduce_kept.Goals as goal

pub returns-then-has : goal.returns-then-has
returns-then-has c =
    let same = filter_same _ _ _ (λ x b f' k. search rules) _ _ c.retain.ensures.filtered in
    let left : c.args.leaving.metadata ≡ true = rw c.has.ensures at c.if-has.true in
    rw left (ap (map kept_seen) same ∙ kept_less c.args.kept.now.items)
