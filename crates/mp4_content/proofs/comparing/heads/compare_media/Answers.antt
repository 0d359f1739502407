use Rattle.std.proofs.Common.{refl}
use Rattle.mp4_head.specs.words.Seen.{kept_seen, media_seen}
use Rattle.mp4_content.specs.format.Differences.{box_differences, payload_differences}
use Rattle.mp4_content.specs.declared.comparing.differences.Entries.TheVariants as lists
use Rattle.mp4_content.proofs.FieldValues.{media_grown, lists_seen}
use Rattle.mp4_present.proofs.WalkCopied.{on_ok}
use Rattle.mp4_content.proofs.comparing.heads.compare_media.Goals as goal

pub returns : goal.returns
returns c =
    let of = c.args.of in
    let left = c.args.left.now in
    let right = c.args.right.now in
    let values = rw (c.media_values-values.ensures, c.media_values.ensures) at c.in_ok-compare_values.ensures in
    let handler = rw c.new-at.ensures at c.in_ok-compare_payloads.ensures in
    let languages = rw (
      c.deref.ensures.value,
      c.deref-2.ensures.value,
      lists_seen (λ p. p.now) of lists.ExtendedLanguages (payload_differences of lists.ExtendedLanguages) (λ n x y. payload_differences of lists.ExtendedLanguages n x.now y.now)
          (λ n x y. refl) left.extended_languages.items right.extended_languages.items,
    ) at c.in_ok-compare_lists.ensures in
    let header = rw c.new-at-2.ensures at c.in_ok-compare.ensures in
    on_ok _ _ c.compare_lists-2.result (λ p.
    media_grown of (media_seen left) (media_seen right) _ _ _ _ _ _ values handler languages header
    (rw (
      c.deref-3.ensures.value,
      c.deref-4.ensures.value,
      lists_seen kept_seen of lists.Descriptions (box_differences of lists.Descriptions) (λ n x y. box_differences of lists.Descriptions n (kept_seen x) (kept_seen y))
          (λ n x y. refl) left.descriptions.items right.descriptions.items,
    ) at p)) c.compare_lists-2.ensures
