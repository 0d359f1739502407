use Rattle.std.proofs.Common.{rules, ◌≡◌, ◌+◌, ◌-◌, ◌≤◌, ◌||◌, [], ◌∷◌, add-zero, ◌∙◌, sym, ap, arith}
use Rattle.std.specs.Prelude.{unwrap_or}
use Rattle.mp4_boxes.specs.format.Layout.{too_large}
use Rattle.mp4_boxes.proofs.Plain.{or_false}
use Rattle.mp4_frag.specs.words.Passing.{rows_left, offsets_left, row_seen}
use Rattle.mp4_frag.proofs.RunRows.{rows_none, offsets_none, within_step, end_step, lasting_step, filling_step, large_step, or_before, lasts_on, fits_left, left_behind, fills_on}
use Rattle.mp4_frag.proofs.sample_runs.take_samples.Goals as goal

pub returns-clause-within : goal.returns-clause-within
returns-clause-within g c =
    let none : rows_left c.args.payload.now c.args.run c.loop-k.k ≡ [] = rows_none c.args.payload.now c.args.run c.loop-k.k c.loop-k-test.false in
    sym (rw none at c.loop-k.invariant.within)

pub returns-clause-samples : goal.returns-clause-samples
returns-clause-samples g c within =
    let i = c.loop-k.invariant in
    let none : rows_left c.args.payload.now c.args.run c.loop-k.k ≡ [] = rows_none c.args.payload.now c.args.run c.loop-k.k c.loop-k-test.false in
    let no_offsets : offsets_left c.args.payload.now c.args.run c.loop-k.k ≡ [] = offsets_none c.args.payload.now c.args.run c.loop-k.k c.loop-k-test.false in
    let end = rw none at i.end in
    let lasts = rw none at i.lasts in
    let fills = rw none at i.fills in
    let large = rw no_offsets at i.large in
    record { end = search (rules, end); duration = sym (lasts ∙ add-zero _); bytes = omega (arith, fills, i.left); large = sym (large ∙ or_false _) }

pub loop-k-preserved : goal.loop-k-preserved
loop-k-preserved g c =
    let i = c.loop-k.invariant in
    let L = c.args.judged.file_len in
    let row = row_seen c.args.run c.row_of-row.result in
    let long = unwrap_or c.row_of-row.result.size c.args.judged.inherited.size in
    let size : c.from-size.result ≡ long = c.from-size.ensures ∙ c.unwrap_or.ensures in
    let fits : long ≤ c.loop-k.left = omega (arith, size, c.if-size-left.false) in
    let there : c.loop-k.left ≤ L = omega (arith, i.left, c.requires.within) in
    let lies = fits_left L c.loop-k.left long fits there in
    let moved = left_behind L c.loop-k.left long (c.loop-k.left - c.from-size.result) fits there (omega (arith, size)) in
    record {
      within = i.within ∙ within_step _ _ _ _ row _ _ c.row_of-row.ensures.row lies moved;
      end = i.end ∙ end_step _ _ _ row _ _ c.row_of-row.ensures.row moved;
      lasts = lasts_on _ _ _ _ _ _ i.lasts (lasting_step _ row _ _ c.row_of-row.ensures.row) (c.from-duration.ensures ∙ c.unwrap_or-in-loop-k.ensures);
      fills = fills_on _ _ _ _ _ _ _ i.fills (filling_step _ row _ _ c.row_of-row.ensures.row) size fits;
      large = rw c.is_too_large-are_large.ensures (or_before c.loop-k.are_large (too_large (c.row_of-row.result.offset ∷ [])) (too_large (offsets_left c.args.payload.now c.args.run (c.loop-k.k + 1))) _ (i.large
          ∙ ap (λ b. c.loop-k.are_large || b) (large_step _ _ _ c.row_of-row.ensures.offset)));
      left = omega (arith, i.left);
      short = search rules;
      small = omega (arith, i.small);
      cost = search rules;
    }
