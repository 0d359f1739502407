use Rattle.std.proofs.Common.{rules, ◌<◌, ap, length, refl, ◌∙◌}
use Rattle.mp4_head.specs.words.Seen.{track_seen}
use Rattle.mp4_content.specs.format.Reduced.{number_head}
use Rattle.mp4_present.proofs.TellingWaits.{places_stay}
use Rattle.mp4_content.proofs.HeadLess.{numbered_all}
use Rattle.mp4_present.proofs.Changed.{changed_none, changed_one, there_is}
use Rattle.mp4_content.proofs.reduced_head.number_heads.Goals as goal

pub loop-k-init : goal.loop-k-init
loop-k-init c = (refl, changed_none track_seen (number_head c.args.leaving) 1 _ _ refl, refl)

pub loop-k-preserved : goal.loop-k-preserved
loop-k-preserved c =
    let i = c.loop-k.invariant in
    let lt : c.loop-k.k < length c.loop-k.heads.items = search rules in
    let at = there_is c.loop-k.heads.items c.loop-k.k _ c.index_mut-head.result.now lt c.index_mut-head.ensures.value in (
      search rules,
      changed_one track_seen (number_head c.args.leaving) 1 _ c.loop-k.heads.items c.loop-k.k c.index_mut-head.result.now _ i.1 at
          (ap (λ n. track_seen (record c.index_mut-head.result.now { id = n })) c.id-head.ensures),
      places_stay c.loop-k.heads.items c.loop-k.k c.index_mut-head.result.now _ at refl ∙ i.2,
    )

pub returns-clause-numbered : goal.returns-clause-numbered
returns-clause-numbered c = numbered_all c.args.leaving _ c.loop-k.heads.items c.loop-k.k c.loop-k.invariant.1 (search rules)

pub returns-clause-places : goal.returns-clause-places
returns-clause-places c = c.loop-k.invariant.2
