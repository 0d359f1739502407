use Rattle.std.proofs.Common.{rules, ◌<◌, length, refl}
use Rattle.mp4_head.specs.words.Seen.{edit_seen}
use Rattle.mp4_content.specs.format.Timescales.{divided, edit_by}
use Rattle.mp4_present.proofs.Changed.{all_changed, changed_none, changed_one, there_is}
use Rattle.mp4_content.proofs.reduced_head.divide_edits.Goals as goal

pub loop-k-init : goal.loop-k-init
loop-k-init c = (refl, changed_none edit_seen (λ n. edit_by (divided c.args.movie) (divided c.args.own)) 0 _ _ refl)

pub loop-k-preserved : goal.loop-k-preserved
loop-k-preserved c =
    let i = c.loop-k.invariant in
    let lt : c.loop-k.k < length c.loop-k.edits.items = search rules in
    let at = there_is c.loop-k.edits.items c.loop-k.k _ c.index_mut.result.now lt c.index_mut.ensures.value in
    (search rules, changed_one edit_seen (λ n. edit_by (divided c.args.movie) (divided c.args.own)) 0 _ c.loop-k.edits.items c.loop-k.k c.index_mut.result.now c.divide_edit.new.edit i.1 at c.divide_edit.ensures)

pub returns : goal.returns
returns c = all_changed edit_seen (edit_by (divided c.args.movie) (divided c.args.own)) _ c.loop-k.edits.items c.loop-k.k c.loop-k.invariant.1 (search rules)
