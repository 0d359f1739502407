use Rattle.std.proofs.Common.{refl}
use Rattle.mp4_head.specs.words.Seen.{edit_seen, kept_seen, track_seen}
use Rattle.mp4_content.specs.format.Differences.{box_differences, edit_differences, payload_differences}
use Rattle.mp4_content.specs.declared.comparing.differences.Subject.TheVariants as subjects
use Rattle.mp4_content.specs.declared.comparing.differences.Entries.TheVariants as lists
use Rattle.mp4_content.proofs.FieldValues.{track_whole, lists_seen, edit_seen_so}
use Rattle.mp4_content.proofs.comparing.heads.track_differences.Goals as goal

pub returns : goal.returns
returns c =
    let of = subjects.Track c.args.place in
    let left = c.args.left.now in
    let right = c.args.right.now in
    let values = rw (c.track_values-values.ensures, c.track_values.ensures) at c.in_ok-compare_values.ensures in
    let sizes = rw (c.size_values.ensures, c.size_values-2.ensures) at c.in_ok-compare_values-2.ensures in
    let edits = rw (
      c.deref.ensures.value,
      c.deref-2.ensures.value,
      lists_seen edit_seen of lists.Edits (edit_differences of) _ (λ n x y. edit_seen_so of n (edit_seen x) (edit_seen y)) left.edits.items right.edits.items,
    ) at c.in_ok-compare_lists.ensures in
    let kept = rw (
      c.deref-3.ensures.value,
      c.deref-4.ensures.value,
      lists_seen kept_seen of lists.Kept (box_differences of lists.Kept) _ (λ n x y. refl) left.kept.items right.kept.items,
    ) at c.in_ok-compare_lists-2.ensures in
    let groups = rw (
      c.deref-5.ensures.value,
      c.deref-6.ensures.value,
      lists_seen (λ p. p.now) of lists.GroupDescriptions (payload_differences of lists.GroupDescriptions) _ (λ n x y. refl) left.group_descriptions.items right.group_descriptions.items,
    ) at c.in_ok-compare_lists-3.ensures in
    track_whole of (track_seen left) (track_seen right) _ _ _ _ _ _ _ _ c.new-found.ensures.items
    values c.in_ok-compare_matrices.ensures sizes edits kept c.in_ok-compare_media.ensures groups
