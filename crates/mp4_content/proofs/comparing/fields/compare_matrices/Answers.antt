use Rattle.std.proofs.Common.{rules, inl, ◌≡◌, ◌+◌, ◌<◌, ◌++◌, length, pos, slice_index_or}
use Rattle.mp4_content.specs.format.Differences.{signed}
use Rattle.mp4_content.specs.declared.comparing.differences.Field.TheVariants as fields
use Rattle.mp4_content.proofs.Differing.{goes_whole, goes_at}
use Rattle.mp4_content.proofs.comparing.fields.compare_matrices.Goals as goal

pub returns : goal.returns
returns c = goes_whole (λ x. x) (λ n x y. signed c.args.subject (fields.Matrix n) x y) c.args.left c.args.right c.loop-k.k _ _ (inl (search rules)) c.loop-k.invariant

pub loop-k-preserved : goal.loop-k-preserved
loop-k-preserved c =
    let k = c.loop-k.k in
    let lx : k < length c.args.left = search rules in
    let ly : k < length c.args.right = search rules in
    let e : c.compare_value.new.found.items ≡ c.loop-k.found.items ++ signed c.args.subject (fields.Matrix (k + 1)) (slice_index_or c.args.left k (pos 0)) (slice_index_or c.args.right k (pos 0)) = search rules in
    goes_at (λ x. x) (λ n x y. signed c.args.subject (fields.Matrix n) x y) c.args.left c.args.right k (pos 0) (pos 0) c.loop-k.found.items c.compare_value.new.found.items _ lx ly c.loop-k.invariant e
