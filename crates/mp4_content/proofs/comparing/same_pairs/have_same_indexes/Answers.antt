use Rattle.std.proofs.Common.{rules, refl, sym, ◌<◌, ◌≤◌, ◌∙◌, ap, length, List}
use Rattle.mp4_tables.specs.declared.keys.GroupKey.{GroupKey}
use Rattle.mp4_content.specs.words.SamePairs.{indexes_differ}
use Rattle.mp4_content.proofs.PairsPassed.{index_more}
use Rattle.mp4_content.proofs.comparing.same_pairs.have_same_indexes.Goals as goal
use Rattle.mp4_boxes.proofs.Plain.{drop_all}

pub loop-k-init : goal.loop-k-init
loop-k-init c of = refl

pub loop-k-preserved : goal.loop-k-preserved
loop-k-preserved c of =
    let by = c.args.by.now in
    let lt : c.loop-k.k < length by.keys.items = search rules in
    index_more of by.keys.items c.loop-k.k c.index-key.result.now by.left c.args.left by.right c.args.right lt c.index-key.ensures (search rules) ∙ c.loop-k.invariant of

pub returns : goal.returns
returns c same of =
    let by = c.args.by.now in
    let le : length by.keys.items ≤ c.loop-k.k = search rules in
    sym (c.loop-k.invariant of) ∙ ap (λ (keys : List GroupKey). indexes_differ of keys by.left c.args.left by.right c.args.right) (drop_all by.keys.items c.loop-k.k le)
