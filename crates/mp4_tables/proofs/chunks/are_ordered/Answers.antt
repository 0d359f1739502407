use Rattle.std.proofs.Common.{arith, rules, ◌+◌, inl, inr, drop, ap, sym, ◌∙◌, map}
use Rattle.mp4_tables.specs.format.Tables.{ChunkRow}
use Rattle.std.proofs.lemmas.List.{take-append-drop}
use Rattle.mp4_tables.specs.words.Rows.{chunk_rows_at}
use Rattle.mp4_tables.specs.format.TableRules.{is_chunk_order}
use Rattle.mp4_tables.proofs.RowLists.{chunk_rows_all}
use Rattle.mp4_tables.proofs.ChunkLists.{rising_all}
use Rattle.mp4_tables.proofs.Fronts.{RisesBehind, rows_begin, rows_on, rows_stop}
use Rattle.mp4_tables.proofs.chunks.are_ordered.Goals as goal
use Rattle.mp4_boxes.proofs.Plain.{true_false}

pub returns-then-rows-eq0-clause-same : goal.returns-then-rows-eq0-clause-same
returns-then-rows-eq0-clause-same g c =
    ap (λ rs. is_chunk_order (map (λ (row : ChunkRow). row.first) rs) c.args.has_chunks) (sym (chunk_rows_all c.args.payload.now c.args.rows 0 (omega arith)))

pub returns-clause-same : goal.returns-clause-same
returns-clause-same g c = sym (c.loop-k.invariant.same ∙ rising_all c.args.payload.now c.args.rows c.loop-k.last c.loop-k.k (omega arith))

pub loop-k-init : goal.loop-k-init
loop-k-init g c =
    let rows = chunk_rows_at c.args.payload.now c.args.rows in
    let front : RisesBehind c.args.has_chunks rows 1 c.chunk_row_at-last.result.first = rows_begin rows _ c.args.has_chunks _ c.chunk_row_at-last.ensures (λ h. elim c.else-has_chunks.either [
      | inl first ↦ first.1
      | inr none ↦ absurd (true_false _ h none)
    ]) in
    record {
      same = ap (λ rs. is_chunk_order (map (λ (row : ChunkRow). row.first) rs) c.args.has_chunks) (sym (take-append-drop 1 rows)) ∙ front (drop 1 rows);
      front = front;
      cost = omega arith;
    }

pub loop-k-preserved : goal.loop-k-preserved
loop-k-preserved g c = record {
  same = search rules;
  front = rows_on (chunk_rows_at c.args.payload.now c.args.rows) _ c.args.has_chunks c.loop-k.last c.loop-k.k _ c.loop-k.invariant.front c.chunk_row_at-first.ensures (omega arith);
  cost = omega arith;
}

pub returns-then-first-last-clause-stopped : goal.returns-then-first-last-clause-stopped
returns-then-first-last-clause-stopped g c _ = record {
  count = c.loop-k.k + 1;
  steps = omega arith;
  wrong = rows_stop (chunk_rows_at c.args.payload.now c.args.rows) _ c.args.has_chunks c.loop-k.last c.loop-k.k _ c.loop-k.invariant.front c.chunk_row_at-first.ensures c.if-first-last.true;
}
