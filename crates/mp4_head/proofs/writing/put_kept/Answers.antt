use Rattle.std.proofs.Common.{rules, ◌∙◌, ◌++◌, ap}
use Rattle.mp4_head.specs.words.Seen.{kept_seen}
use Rattle.mp4_head.specs.format.Writing as written
use Rattle.mp4_head.proofs.Pieces.{put_none, put_more, put_all, seen_each}
use Rattle.mp4_head.proofs.writing.put_kept.Goals as goal

pub loop-one-init : goal.loop-one-init
loop-one-init c = put_none _ _ _

pub loop-one-preserved : goal.loop-one-preserved
loop-one-preserved c =
    put_more (λ k. written.kept_bytes (kept_seen k)) _ c.args.kept.now c.loop-one.one-index _ c.loop-one.out.items c.put_box.new.out.items c.loop-one-test.true c.in_ok-put_box.ensures c.loop-one.invariant

pub returns : goal.returns
returns c = put_all (λ k. written.kept_bytes (kept_seen k)) _ c.args.kept.now c.loop-one.one-index c.loop-one.out.items (search rules) c.loop-one.invariant ∙ ap (λ y. c.args.out.now.items ++ y) (seen_each written.kept_bytes kept_seen c.args.kept.now)
