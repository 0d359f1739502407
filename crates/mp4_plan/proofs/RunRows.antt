-- The rows of a `trun` that was written are read again.
use Rattle.std.proofs.Common.{◌≡◌, ℕ, ◌+◌, ◌<◌, ◌^◌, suc, Bool, true, false, if◌then◌else◌, List, [], ◌∷◌, ◌++◌, length, drop, Option, Some, None, refl, ap, ◌∙◌, append_assoc}
use Rattle.std.specs.Prelude.{map, FitsSigned}
use Rattle.std.specs.Int.{w32}
use Rattle.std.specs.List.{flat_map, AllByRecursion}
use Rattle.std.proofs.lemmas.List.{drop_at}
use Rattle.std.proofs.lemmas.List.Concat.{flat_map-cons}
use Rattle.mp4_boxes.specs.format.Bytes.{unsigned, width_of}
use Rattle.mp4_boxes.specs.format.Layout.{column_values, sample_columns, data_offset_present, present}
use Rattle.mp4_boxes.proofs.Columns.{FitColumns, columns_again, length-column_bytes}
use Rattle.mp4_frag.specs.format.Fragments.{RunRow, run_rows, run_row_of}
use Rattle.mp4_head.proofs.Again.{signed_again}
use Rattle.mp4_content.specs.format.TimedSamples.{TimedSample}
use Rattle.mp4_plan.specs.format.Normal.{Shared, own, row_values, row_flags, trun_row}

-- the numbers of a sample fit the fields of a row
pub record FitsRow (s : TimedSample) : Type 0 where
  pub duration : s.sample.duration < 256 ^ 4
  pub size : length s.sample.bytes < 256 ^ 4
  pub flags : s.sample.flags < 256 ^ 4
  pub unsigned_offset : unsigned 4 s.sample.offset < 256 ^ 4
  pub offset : FitsSigned w32 s.sample.offset

-- the flags of the `trun`
abbrev pub run_flags : Shared → ℕ
run_flags shared = data_offset_present + row_flags shared

-- the row as it is read
abbrev pub row_read : Shared → TimedSample → RunRow
row_read shared s = record {
  duration = own shared.duration s.sample.duration;
  size = own shared.size (length s.sample.bytes);
  flags = own shared.flags s.sample.flags;
  offset = if shared.has_offsets then Some s.sample.offset else None;
}

fit : (duration size flags : Option ℕ) (has_offsets : Bool) (s : TimedSample) → FitsRow s
    → FitColumns (run_flags (record { duration = duration; size = size; flags = flags; has_offsets = has_offsets })) sample_columns (row_values (record { duration = duration; size = size; flags = flags; has_offsets = has_offsets }) s)
fit None None None false s fits = (refl, fits.duration, (refl, fits.size, (refl, fits.flags, (refl, tt))))
fit None None None true s fits = (refl, fits.duration, (refl, fits.size, (refl, fits.flags, (refl, fits.unsigned_offset, tt))))
fit None None (Some f) false s fits = (refl, fits.duration, (refl, fits.size, (refl, (refl, tt))))
fit None None (Some f) true s fits = (refl, fits.duration, (refl, fits.size, (refl, (refl, fits.unsigned_offset, tt))))
fit None (Some z) None false s fits = (refl, fits.duration, (refl, (refl, fits.flags, (refl, tt))))
fit None (Some z) None true s fits = (refl, fits.duration, (refl, (refl, fits.flags, (refl, fits.unsigned_offset, tt))))
fit None (Some z) (Some f) false s fits = (refl, fits.duration, (refl, (refl, (refl, tt))))
fit None (Some z) (Some f) true s fits = (refl, fits.duration, (refl, (refl, (refl, fits.unsigned_offset, tt))))
fit (Some d) None None false s fits = (refl, (refl, fits.size, (refl, fits.flags, (refl, tt))))
fit (Some d) None None true s fits = (refl, (refl, fits.size, (refl, fits.flags, (refl, fits.unsigned_offset, tt))))
fit (Some d) None (Some f) false s fits = (refl, (refl, fits.size, (refl, (refl, tt))))
fit (Some d) None (Some f) true s fits = (refl, (refl, fits.size, (refl, (refl, fits.unsigned_offset, tt))))
fit (Some d) (Some z) None false s fits = (refl, (refl, (refl, fits.flags, (refl, tt))))
fit (Some d) (Some z) None true s fits = (refl, (refl, (refl, fits.flags, (refl, fits.unsigned_offset, tt))))
fit (Some d) (Some z) (Some f) false s fits = (refl, (refl, (refl, (refl, tt))))
fit (Some d) (Some z) (Some f) true s fits = (refl, (refl, (refl, (refl, fits.unsigned_offset, tt))))

-- the numbers of a row fit, and its flags name them
pub row_fits : (shared : Shared) (s : TimedSample) → FitsRow s → FitColumns (run_flags shared) sample_columns (row_values shared s)
row_fits shared s fits = fit shared.duration shared.size shared.flags shared.has_offsets s fits

values_read : (has_offsets : Bool) (duration size flags : Option ℕ) (s : TimedSample) → FitsRow s
    → run_row_of 1 (own duration s.sample.duration ∷ own size (length s.sample.bytes) ∷ own flags s.sample.flags ∷ (if has_offsets then Some (unsigned 4 s.sample.offset) else None) ∷ [])
    ≡ row_read (record { duration = duration; size = size; flags = flags; has_offsets = has_offsets }) s
values_read true duration size flags s fits =
    let z = signed_again s.sample.offset fits.offset in
    λ i. record { duration = own duration s.sample.duration; size = own size (length s.sample.bytes); flags = own flags s.sample.flags; offset = Some (z i) }
values_read false duration size flags s fits = refl

row_again : (shared : Shared) (s : TimedSample) (rest : List ℕ) → FitsRow s → run_row_of 1 (column_values (run_flags shared) sample_columns (trun_row shared s ++ rest)) ≡ row_read shared s
row_again shared s rest fits =
    ap (run_row_of 1) (columns_again (run_flags shared) sample_columns (row_values shared s) rest (row_fits shared s fits))
    ∙ values_read shared.has_offsets shared.duration shared.size shared.flags s fits

pub run_rows_again : (shared : Shared) (samples : List TimedSample) (rest : List ℕ) → AllByRecursion FitsRow samples → run_rows (length samples) 1 (run_flags shared) (flat_map (trun_row shared) samples ++ rest) ≡ map (row_read shared) samples
run_rows_again shared [] rest fits = refl
run_rows_again shared (s ∷ samples) rest fits =
    let regrouped : flat_map (trun_row shared) (s ∷ samples) ++ rest ≡ trun_row shared s ++ (flat_map (trun_row shared) samples ++ rest) =
    ap (λ (x : List ℕ). x ++ rest) (flat_map-cons (trun_row shared) s samples) ∙ append_assoc (trun_row shared s) (flat_map (trun_row shared) samples) rest in
    let first = row_again shared s (flat_map (trun_row shared) samples ++ rest) fits.0 in
    let behind : drop (width_of (present (run_flags shared) sample_columns)) (trun_row shared s ++ (flat_map (trun_row shared) samples ++ rest)) ≡ flat_map (trun_row shared) samples ++ rest =
    drop_at (trun_row shared s) (flat_map (trun_row shared) samples ++ rest) (width_of (present (run_flags shared) sample_columns)) (length-column_bytes (run_flags shared) sample_columns (row_values shared s) (row_fits shared s fits.0)) in
    let others = ap (run_rows (length samples) 1 (run_flags shared)) behind ∙ run_rows_again shared samples rest fits.1 in
    ap (run_rows (suc (length samples)) 1 (run_flags shared)) regrouped ∙ (λ i. first i ∷ others i)
