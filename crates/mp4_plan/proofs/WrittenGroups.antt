-- An `sbgp` that was written is read again, and the maps that the `sbgp`s of a piece give are those of its samples.
use Rattle.std.proofs.Common.{◌≡◌, ℕ, suc, ◌+◌, ◌*◌, ◌^◌, ◌<◌, ◌≤◌, Bool, true, false, cond, eqb, List, [], ◌∷◌, ◌++◌, length, replicate, Option, Some, None, refl, sym, ap, subst, ◌∙◌, arith, length-append}
use Rattle.std.specs.Prelude.{map, flat_map, slice_index}
use Rattle.std.specs.List.{AllByRecursion, AllZip}
use Rattle.std.proofs.lemmas.List.{append-nil, length-map}
use Rattle.mp4_boxes.specs.format.Bytes.{spelled, field, rows}
use Rattle.mp4_boxes.specs.format.Layout.{sbgp, row, IsSound}
use Rattle.mp4_boxes.proofs.Fields.{AllFit, none, more, rows_again, field_again}
use Rattle.mp4_boxes.proofs.WrittenBoxes.{placed}
use Rattle.mp4_boxes.proofs.Plain.{four_items}
use Rattle.mp4_tables.specs.format.Repeated.{total}
use Rattle.mp4_tables.specs.format.Groups.{GroupKey, Grouping, Groups, grouping_of, index_at, put_indexes, maps_of, max_index}
use Rattle.mp4_tables.specs.format.PlainSamples.{PlacedSample, with_groups}
use Rattle.mp4_present.specs.format.Presentation.{Sample, IsParameter}
use Rattle.mp4_present.specs.format.Denotes.{sample_of}
use Rattle.mp4_content.specs.format.TimedSamples.{TimedSample}
use Rattle.mp4_plan.specs.format.Normal.{key_bytes, put_run, longest_runs}
use Rattle.mp4_plan.proofs.Maps.{made, made_again, Covers}
use Rattle.mp4_plan.specs.format.TableLaws.{IsKey}
use Rattle.mp4_plan.proofs.RunLists.{IsFoundAs}
use Rattle.mp4_plan.proofs.Shared.{longest_runs_again}

-- ---- rows of a count and an index

-- rows as they are written
abbrev pub row_bytes : List (ℕ × ℕ) → List ℕ
row_bytes runs = flat_map (λ (r : ℕ × ℕ). spelled (row sbgp 0) (r.0 ∷ r.1 ∷ [])) runs

-- both numbers of each row fit
abbrev pub FitRuns : List (ℕ × ℕ) → Type 0
FitRuns runs = AllByRecursion (λ (r : ℕ × ℕ). (r.0 < 2 ^ 32) × (r.1 < 2 ^ 32)) runs

-- the numbers of a row
abbrev run_numbers : ℕ × ℕ → List ℕ
run_numbers r = r.0 ∷ r.1 ∷ []

-- rows are written so
runs_spelled : (runs : List (ℕ × ℕ)) → row_bytes runs ≡ flat_map (spelled (row sbgp 0)) (map run_numbers runs)
runs_spelled [] = refl
runs_spelled (r ∷ runs) = ap (λ (l : List ℕ). spelled (row sbgp 0) (r.0 ∷ r.1 ∷ []) ++ l) (runs_spelled runs)

-- they fit
runs_fit : (runs : List (ℕ × ℕ)) → FitRuns runs → AllFit (row sbgp 0) (map run_numbers runs)
runs_fit [] h = none
runs_fit (r ∷ runs) h = more (h.0.0, (h.0.1, tt)) (runs_fit runs h.1)

-- rows are what their numbers say
runs_read : (runs : List (ℕ × ℕ)) → map (λ (row : List ℕ). (slice_index row 0, slice_index row 1)) (map run_numbers runs) ≡ runs
runs_read [] = refl
runs_read (r ∷ runs) = ap (λ (l : List (ℕ × ℕ)). r ∷ l) (runs_read runs)

-- rows that were written are read again
runs_again : (runs : List (ℕ × ℕ)) (n : ℕ) → n ≡ length runs → FitRuns runs → map (λ (row : List ℕ). (slice_index row 0, slice_index row 1)) (rows n (row sbgp 0) (row_bytes runs)) ≡ runs
runs_again runs n e h =
    let table = map run_numbers runs in
    let many : n ≡ length table = e ∙ sym (length-map runs run_numbers) in
    let bytes : row_bytes runs ≡ flat_map (spelled (row sbgp 0)) table ++ [] = runs_spelled runs ∙ sym (append-nil (flat_map (spelled (row sbgp 0)) table)) in
    ap (map (λ (row : List ℕ). (slice_index row 0, slice_index row 1))) (ap (λ (k : ℕ). rows k (row sbgp 0) (row_bytes runs)) many ∙ ap (λ (l : List ℕ). rows (length table) (row sbgp 0) l) bytes ∙ rows_again (row sbgp 0) table [] (runs_fit runs h))
    ∙ runs_read runs

-- a row takes 8 bytes
pub length-runs : (runs : List (ℕ × ℕ)) → length (row_bytes runs) ≡ 8 * length runs
length-runs [] = refl
length-runs (r ∷ runs) = omega (arith, length-append (spelled (row sbgp 0) (r.0 ∷ r.1 ∷ [])) (row_bytes runs), length-runs runs)

-- ---- an `sbgp`

-- the payload for these rows
abbrev pub group_payload : GroupKey → List (ℕ × ℕ) → List ℕ
group_payload key runs = key_bytes key (length runs) ++ row_bytes runs

-- a type of these letters
abbrev letters : ℕ → ℕ → ℕ → ℕ → List ℕ
letters a b c d = a ∷ b ∷ c ∷ d ∷ []

-- What was written is read again, and is sound.
pub record ReadsGroup (key : GroupKey) (runs : List (ℕ × ℕ)) : Type 0 where
  pub again : grouping_of (group_payload key runs) ≡ record { key = key; rows = runs }
  pub sound : IsSound sbgp (group_payload key runs)
  pub long : length (group_payload key runs) ≤ 16 + 8 * length runs

-- with a parameter or without
by_parameter : (a b c d : ℕ) (parameter : Option ℕ) (runs : List (ℕ × ℕ)) → IsParameter parameter → length runs < 2 ^ 32 → FitRuns runs → ReadsGroup (record { kind = letters a b c d; parameter = parameter }) runs
by_parameter a b c d None runs h lt fits =
    let count : field (group_payload (record { kind = letters a b c d; parameter = None }) runs) 8 4 ≡ length runs = field_again 4 (length runs) (row_bytes runs) lt in
    let read = runs_again runs (field (group_payload (record { kind = letters a b c d; parameter = None }) runs) 8 4) count fits in
    let size = length-runs runs in
    record {
      again = λ i. record { key = record { kind = letters a b c d; parameter = None }; rows = read i };
      sound = record { readable = record { version = refl; flags = refl; room = omega (arith, count, size) }; value = refl; inside = refl; offsets = refl };
      long = omega (arith, size);
    }
by_parameter a b c d (Some p) runs h lt fits =
    let key : GroupKey = record { kind = letters a b c d; parameter = Some p } in
    let count : field (group_payload key runs) 12 4 ≡ length runs = field_again 4 (length runs) (row_bytes runs) lt in
    let parameter : field (group_payload key runs) 8 4 ≡ p = field_again 4 p (spelled (4 ∷ []) (length runs ∷ []) ++ row_bytes runs) h in
    let read = runs_again runs (field (group_payload key runs) 12 4) count fits in
    let size = length-runs runs in
    record {
      again = λ i. record { key = record { kind = letters a b c d; parameter = Some (parameter i) }; rows = read i };
      sound = record { readable = record { version = refl; flags = refl; room = omega (arith, count, size) }; value = refl; inside = refl; offsets = refl };
      long = omega (arith, size);
    }

-- An `sbgp` that was written is read again.
pub group_again : (key : GroupKey) (runs : List (ℕ × ℕ)) → IsKey key → length runs < 2 ^ 32 → FitRuns runs → ReadsGroup key runs
group_again key runs h lt fits =
    subst (λ (kind : List ℕ). ReadsGroup (record { kind = kind; parameter = key.parameter }) runs) (sym (four_items key.kind h.kind_length))
    (by_parameter (slice_index key.kind 0) (slice_index key.kind 1) (slice_index key.kind 2) (slice_index key.kind 3) key.parameter runs h.parameter lt fits)

-- ---- runs of equal indexes

put_total_by : (value : ℕ) (r : ℕ × ℕ) (runs : List (ℕ × ℕ)) (same : Bool) → total (cond same ((suc r.0, value) ∷ runs) ((1, value) ∷ r ∷ runs)) ≡ suc (total (r ∷ runs))
put_total_by value r runs true = omega arith
put_total_by value r runs false = omega arith

-- one more index is counted
put_total : (value : ℕ) (runs : List (ℕ × ℕ)) → total (put_run value runs) ≡ suc (total runs)
put_total value [] = refl
put_total value (r ∷ runs) = put_total_by value r runs (eqb value r.1)

-- the rows stand for as many samples as there are
pub total_runs : (indexes : List ℕ) → total (longest_runs indexes) ≡ length indexes
total_runs [] = refl
total_runs (index ∷ indexes) = put_total index (longest_runs indexes) ∙ ap suc (total_runs indexes)

put_length_by : (value : ℕ) (r : ℕ × ℕ) (runs : List (ℕ × ℕ)) (same : Bool) → length (cond same ((suc r.0, value) ∷ runs) ((1, value) ∷ r ∷ runs)) ≤ suc (length (r ∷ runs))
put_length_by value r runs true = omega arith
put_length_by value r runs false = omega arith

-- one more index makes at most one row more
put_length : (value : ℕ) (runs : List (ℕ × ℕ)) → length (put_run value runs) ≤ suc (length runs)
put_length value [] = omega arith
put_length value (r ∷ runs) = put_length_by value r runs (eqb value r.1)

-- there are no more rows than samples
pub few_runs : (indexes : List ℕ) → length (longest_runs indexes) ≤ length indexes
few_runs [] = omega arith
few_runs (index ∷ indexes) = let p = put_length index (longest_runs indexes) in let q = few_runs indexes in omega arith

put_values_by : (P : ℕ → Type 0) (value : ℕ) (r : ℕ × ℕ) (runs : List (ℕ × ℕ)) (same : Bool) → P value → AllByRecursion (λ (q : ℕ × ℕ). P q.1) (r ∷ runs)
    → AllByRecursion (λ (q : ℕ × ℕ). P q.1) (cond same ((suc r.0, value) ∷ runs) ((1, value) ∷ r ∷ runs))
put_values_by P value r runs true p h = (p, h.1)
put_values_by P value r runs false p h = (p, h)

-- one more index
put_values : (P : ℕ → Type 0) (value : ℕ) (runs : List (ℕ × ℕ)) → P value → AllByRecursion (λ (q : ℕ × ℕ). P q.1) runs → AllByRecursion (λ (q : ℕ × ℕ). P q.1) (put_run value runs)
put_values P value [] p h = (p, tt)
put_values P value (r ∷ runs) p h = put_values_by P value r runs (eqb value r.1) p h

-- what holds of each index holds of that of each row
pub values_in_runs : (P : ℕ → Type 0) (indexes : List ℕ) → AllByRecursion P indexes → AllByRecursion (λ (q : ℕ × ℕ). P q.1) (longest_runs indexes)
values_in_runs P [] h = tt
values_in_runs P (index ∷ indexes) h = put_values P index (longest_runs indexes) h.0 (values_in_runs P indexes h.1)

-- rows fit that count fewer than 2^32
counts_within : (runs : List (ℕ × ℕ)) (m : ℕ) → total runs < m → AllByRecursion (λ (q : ℕ × ℕ). q.1 ≤ max_index) runs → m ≤ 2 ^ 32 → FitRuns runs
counts_within [] m le h few = tt
counts_within (r ∷ runs) m le h few = let small = h.0 in ((omega arith, omega arith), counts_within runs m (omega arith) h.1 few)

-- the rows of indexes fit
pub runs_within : (indexes : List ℕ) → length indexes < 2 ^ 32 → AllByRecursion (λ (index : ℕ). index ≤ max_index) indexes → FitRuns (longest_runs indexes)
runs_within indexes lt h = counts_within (longest_runs indexes) (2 ^ 32) (omega (arith, total_runs indexes)) (values_in_runs (λ index. index ≤ max_index) indexes h) (omega arith)

-- ---- the groupings of samples

-- the indexes of samples at a key
abbrev pub indexes_at : List TimedSample → GroupKey → List ℕ
indexes_at samples key = map (λ (s : TimedSample). index_at key s.sample.groups) samples

-- the grouping that is written at a key
abbrev pub grouped_by : List TimedSample → GroupKey → Grouping
grouped_by samples key = record { key = key; rows = longest_runs (indexes_at samples key) }

-- one more key for all samples
put_all : (key : GroupKey) (keys : List GroupKey) (samples : List TimedSample)
    → put_indexes key (indexes_at samples key) (map (λ (s : TimedSample). made keys s.sample.groups) samples) ≡ map (λ (s : TimedSample). made (key ∷ keys) s.sample.groups) samples
put_all key keys [] = refl
put_all key keys (s ∷ samples) = ap (λ (l : List Groups). made (key ∷ keys) s.sample.groups ∷ l) (put_all key keys samples)

-- without keys
no_keys : (samples : List TimedSample) → replicate (length samples) [] ≡ map (λ (s : TimedSample). made [] s.sample.groups) samples
no_keys [] = refl
no_keys (s ∷ samples) = ap (λ (l : List Groups). [] ∷ l) (no_keys samples)

-- the maps that the groupings make
maps_made : (keys : List GroupKey) (samples : List TimedSample) → maps_of (length samples) (map (grouped_by samples) keys) ≡ map (λ (s : TimedSample). made keys s.sample.groups) samples
maps_made [] samples = no_keys samples
maps_made (key ∷ keys) samples =
    (λ i. put_indexes key (longest_runs_again (indexes_at samples key) i) (maps_made keys samples i)) ∙ put_all key keys samples

-- where keys cover the maps they are the maps
each_made : (keys : List GroupKey) (samples : List TimedSample) → AllByRecursion (λ (s : TimedSample). Covers keys s.sample.groups) samples → map (λ (s : TimedSample). made keys s.sample.groups) samples ≡ map (λ (s : TimedSample). s.sample.groups) samples
each_made keys [] h = refl
each_made keys (s ∷ samples) h = λ i. made_again h.0 i ∷ each_made keys samples h.1 i

-- Where keys cover the maps of samples, the maps that their groupings give are those.
pub maps_again : (keys : List GroupKey) (samples : List TimedSample) → AllByRecursion (λ (s : TimedSample). Covers keys s.sample.groups) samples
    → maps_of (length samples) (map (grouped_by samples) keys) ≡ map (λ (s : TimedSample). s.sample.groups) samples
maps_again keys samples h = maps_made keys samples ∙ each_made keys samples h

-- Samples that are found, with the maps of the samples that they are, are those samples.
pub found_say : (file : List ℕ) (placed : List PlacedSample) (samples : List Sample) → AllZip (IsFoundAs file) placed samples → map (sample_of file) (with_groups (map (λ (s : Sample). s.groups) samples) placed) ≡ samples
found_say file [] [] h = refl
found_say file [] (s ∷ samples) h = absurd h
found_say file (x ∷ placed) [] h = absurd h
found_say file (x ∷ placed) (s ∷ samples) h =
    let f = h.0 in
    λ i. record { duration = f.duration i; offset = f.offset i; flags = f.flags i; description = f.description i; bytes = f.bytes i; groups = s.groups } ∷ found_say file placed samples h.1 i
