use Rattle.std.proofs.Common.{rules, ◌≡◌, ◌++◌, length, refl}
use Rattle.mp4_content.specs.format.Differences.{box_differences, numbers_differ}
use Rattle.mp4_content.specs.declared.comparing.differences.Subject.TheVariants as subjects
use Rattle.mp4_content.specs.declared.comparing.differences.Entries.TheVariants as lists
use Rattle.mp4_content.specs.declared.comparing.differences.Field.TheVariants as fields
use Rattle.mp4_head.specs.words.Seen.{kept_seen, movie_seen}
use Rattle.mp4_content.proofs.FieldValues.{lists_seen, movie_whole}
use Rattle.mp4_content.proofs.comparing.heads.movie_differences.Goals as goal

pub returns : goal.returns
returns c =
    let left = c.args.left.now in
    let right = c.args.right.now in
    let values = rw (c.movie_values-values.ensures, c.movie_values.ensures) at c.in_ok-compare_values.ensures in
    let kept = rw (
      c.deref.ensures.value,
      c.deref-2.ensures.value,
      lists_seen kept_seen subjects.Movie lists.Kept (box_differences subjects.Movie lists.Kept) _ (λ n x y. refl) left.kept.items right.kept.items,
    ) at c.in_ok-compare_lists.ensures in
    let tracks : c.compare_numbers.new.found.items ≡ c.compare_lists.new.found.items ++ numbers_differ subjects.Movie fields.Tracks (length left.tracks.items) (length right.tracks.items) = search rules in
    movie_whole (movie_seen left) (movie_seen right) _ _ _ _ _ _ c.new-found.ensures.items values c.in_ok-compare_matrices.ensures kept tracks
