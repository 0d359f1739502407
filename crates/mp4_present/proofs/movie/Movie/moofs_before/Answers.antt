use Rattle.std.proofs.Common.{rules, ◌≡◌, ◌++◌, ltb, ap, ◌∙◌}
use Rattle.std.proofs.lemmas.List.Sorted.{IsPartitionPoint-from_clause}
use Rattle.mp4_present.specs.words.Movies.{MovieSeen}
use Rattle.mp4_present.proofs.MoofBegins.{is_counted, is_parted}
use Rattle.mp4_present.proofs.movie.Movie.moofs_before.Goals as goal

pub returns : goal.returns
returns c front back is below above =
    let at = c.args.at in
    let same : c.as_slice.result.now ≡ front ++ back = c.as_slice.ensures.value ∙ ap (λ (m : MovieSeen). m.moofs) c.self.view_is ∙ is in
    let point = IsPartitionPoint-from_clause (λ n. ltb n at) _ _ c.partition_point.ensures.partitioned (rw same (is_parted at front back below above)) (λ a r q k. search rules) in
    is_counted at front back c.partition_point.result below above (rw same at c.partition_point.ensures.bound) (rw same at point)
