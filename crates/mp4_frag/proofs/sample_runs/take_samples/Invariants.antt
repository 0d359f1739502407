use Rattle.std.proofs.Common.{◌≡◌, ◌+◌, ◌-◌, ◌*◌, ◌^◌, ◌≤◌, ◌||◌}
use Rattle.std.specs.Prelude.{pos}
use Rattle.mp4_boxes.specs.format.Layout.{too_large}
use Rattle.mp4_frag.specs.words.Passing.{rows_left, offsets_left, within_from, end_from, lasting, filling}
use Rattle.mp4_frag.proofs.sample_runs.take_samples.Given as goal

-- what was passed and what is left make the whole
abbrev pub invariant-loop-k : goal.invariant-loop-k
invariant-loop-k g l =
    let size = l.judged.inherited.size in
    let first = pos (l.judged.file_len - l.behind) in
    let here = pos (l.judged.file_len - l.left) in
    record {
      within : within_from l.judged.file_len size first (rows_left l.payload l.run 0) ≡ within_from l.judged.file_len size here (rows_left l.payload l.run l.k);
      end : end_from size first (rows_left l.payload l.run 0) ≡ end_from size here (rows_left l.payload l.run l.k);
      lasts : lasting l.judged.inherited.duration (rows_left l.payload l.run 0) ≡ l.duration + lasting l.judged.inherited.duration (rows_left l.payload l.run l.k);
      fills : filling size (rows_left l.payload l.run 0) + l.left ≡ l.behind + filling size (rows_left l.payload l.run l.k);
      large : too_large (offsets_left l.payload l.run 0) ≡ (l.are_large || too_large (offsets_left l.payload l.run l.k));
      left : l.left ≤ l.behind;
      short : l.duration ≤ 2 ^ 32 * l.k;
      small : l.behind ≤ l.left + 2 ^ 32 * l.k;
      cost : l.steps ≡ l.fn.steps + l.k;
    }
