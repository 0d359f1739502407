-- The leaves of a `traf` that were written are read again, and are sound.
use Rattle.std.proofs.Common.{◌≡◌, ℕ, ◌+◌, ◌*◌, ◌^◌, ◌<◌, ◌≤◌, Bool, true, false, cond, List, [], ◌∷◌, ◌++◌, length, drop, Option, Some, None, pos, refl, sym, ap, subst, ◌∙◌, lit<, lit≤, arith, length-append, mul-le-mul_left}
use Rattle.std.specs.Prelude.{map, flat_map, slice_index, option_map, IsTrue, not, ◌&&◌, nat_eq, IfSome}
use Rattle.std.specs.List.{AllByRecursion, list_all}
use Rattle.std.proofs.lemmas.List.{append-nil}
use Rattle.byteorder.specs.Endian.{twos_complement}
use Rattle.mp4_boxes.specs.format.Bytes.{spelled, width_of}
use Rattle.mp4_boxes.specs.format.Layout.{tfhd, tfdt, trun, fields, flags, has, present, column_values, tfhd_columns, trun_columns, sample_columns, known_flags, only_among, default_base_is_moof, first_sample_flags_present, sample_flags_present, IsSound, leaf_fields, version, row_count}
use Rattle.mp4_boxes.specs.format.Written.{column_flags, column_bytes}
use Rattle.mp4_boxes.proofs.Fields.{field_again}
use Rattle.mp4_boxes.proofs.Columns.{FitColumns, columns_again, length-column_bytes}
use Rattle.mp4_frag.specs.format.Fragments.{SampleRun, run_rows, sample_run_of, column, decode_time_of}
use Rattle.mp4_head.proofs.Again.{signed_again}
use Rattle.mp4_head.proofs.WrittenLeaves.{alone_again}
use Rattle.mp4_content.specs.format.TimedSamples.{TimedSample}
use Rattle.mp4_plan.specs.format.Normal.{Shared, common, row_flags, row_values, trun_row}
use Rattle.mp4_plan.proofs.RunRows.{FitsRow, run_flags, row_read, row_fits, run_rows_again}

-- ---- `trun`

-- what the flags of a written `trun` say
pub record RunFlags (bits : ℕ) : Type 0 where
  pub has_offset : has bits 1 ≡ true
  pub has_no_first : has bits 4 ≡ false
  pub small : bits < 256 ^ 3
  pub known : IsTrue (only_among (known_flags trun) bits && not (has bits first_sample_flags_present && has bits sample_flags_present))
  pub narrow : width_of (present bits sample_columns) ≤ 16

-- by what stands once for all samples
run_flags_by : (duration size flags : Option ℕ) (has_offsets : Bool) → RunFlags (run_flags (record { duration = duration; size = size; flags = flags; has_offsets = has_offsets }))
run_flags_by None None None false = record { has_offset = refl; has_no_first = refl; small = lit< tt; known = refl; narrow = lit≤ tt }
run_flags_by None None None true = record { has_offset = refl; has_no_first = refl; small = lit< tt; known = refl; narrow = lit≤ tt }
run_flags_by None None (Some f) false = record { has_offset = refl; has_no_first = refl; small = lit< tt; known = refl; narrow = lit≤ tt }
run_flags_by None None (Some f) true = record { has_offset = refl; has_no_first = refl; small = lit< tt; known = refl; narrow = lit≤ tt }
run_flags_by None (Some z) None false = record { has_offset = refl; has_no_first = refl; small = lit< tt; known = refl; narrow = lit≤ tt }
run_flags_by None (Some z) None true = record { has_offset = refl; has_no_first = refl; small = lit< tt; known = refl; narrow = lit≤ tt }
run_flags_by None (Some z) (Some f) false = record { has_offset = refl; has_no_first = refl; small = lit< tt; known = refl; narrow = lit≤ tt }
run_flags_by None (Some z) (Some f) true = record { has_offset = refl; has_no_first = refl; small = lit< tt; known = refl; narrow = lit≤ tt }
run_flags_by (Some d) None None false = record { has_offset = refl; has_no_first = refl; small = lit< tt; known = refl; narrow = lit≤ tt }
run_flags_by (Some d) None None true = record { has_offset = refl; has_no_first = refl; small = lit< tt; known = refl; narrow = lit≤ tt }
run_flags_by (Some d) None (Some f) false = record { has_offset = refl; has_no_first = refl; small = lit< tt; known = refl; narrow = lit≤ tt }
run_flags_by (Some d) None (Some f) true = record { has_offset = refl; has_no_first = refl; small = lit< tt; known = refl; narrow = lit≤ tt }
run_flags_by (Some d) (Some z) None false = record { has_offset = refl; has_no_first = refl; small = lit< tt; known = refl; narrow = lit≤ tt }
run_flags_by (Some d) (Some z) None true = record { has_offset = refl; has_no_first = refl; small = lit< tt; known = refl; narrow = lit≤ tt }
run_flags_by (Some d) (Some z) (Some f) false = record { has_offset = refl; has_no_first = refl; small = lit< tt; known = refl; narrow = lit≤ tt }
run_flags_by (Some d) (Some z) (Some f) true = record { has_offset = refl; has_no_first = refl; small = lit< tt; known = refl; narrow = lit≤ tt }

-- what its flags say
run_flags_are : (shared : Shared) → RunFlags (run_flags shared)
run_flags_are shared = run_flags_by shared.duration shared.size shared.flags shared.has_offsets

-- all rows
abbrev pub rows_bytes : Shared → List TimedSample → List ℕ
rows_bytes shared samples = flat_map (trun_row shared) samples

-- how long the rows are
length-rows : (shared : Shared) (samples : List TimedSample) → AllByRecursion FitsRow samples → length (rows_bytes shared samples) ≡ length samples * width_of (present (run_flags shared) sample_columns)
length-rows shared [] h = omega arith
length-rows shared (s ∷ samples) h =
    let one = length-column_bytes (run_flags shared) sample_columns (row_values shared s) (row_fits shared s h.0) in
    let others = length-rows shared samples h.1 in
    let both = length-append (trun_row shared s) (rows_bytes shared samples) in
    omega (arith, one, others, both)

-- the payload of a `trun` with what stands once for all of its samples
abbrev pub run_payload : ℕ → Shared → List TimedSample → List ℕ
run_payload data_offset shared samples =
    spelled (fields trun 1) (1 ∷ (column_flags trun_columns (Some data_offset ∷ None ∷ []) + row_flags shared) ∷ length samples ∷ [])
    ++ column_bytes trun_columns (Some data_offset ∷ None ∷ []) ++ rows_bytes shared samples

-- a `trun` by its flags
abbrev run_by : ℕ → List ℕ → SampleRun
run_by bits payload =
    let values = column_values bits trun_columns (drop 8 payload) in
    record {
      data_offset = option_map (twos_complement 4) (column values 0);
      first_sample_flags = column values 1;
      rows = run_rows (row_count trun payload) (version payload) bits (drop (8 + width_of (present bits trun_columns)) payload);
    }

-- the run that is read
abbrev pub run_read : ℕ → Shared → List TimedSample → SampleRun
run_read data_offset shared samples = record { data_offset = Some (pos data_offset); first_sample_flags = None; rows = map (row_read shared) samples }

module _ (data_offset : ℕ) (shared : Shared) (samples : List TimedSample) (near : data_offset < 2 ^ 31) (few : length samples < 2 ^ 32) (fits : AllByRecursion FitsRow samples) where
  -- the flags are read again
  bits_are : flags (run_payload data_offset shared samples) ≡ run_flags shared
  bits_are = field_again 3 (run_flags shared) (spelled (4 ∷ []) (length samples ∷ []) ++ (column_bytes trun_columns (Some data_offset ∷ None ∷ []) ++ rows_bytes shared samples)) (run_flags_are shared).small

  -- so is the number of samples
  count_is : row_count trun (run_payload data_offset shared samples) ≡ length samples
  count_is = field_again 4 (length samples) (column_bytes trun_columns (Some data_offset ∷ None ∷ []) ++ rows_bytes shared samples) few

  -- what stands before the rows fits
  options_fit : FitColumns (run_flags shared) trun_columns (Some data_offset ∷ None ∷ [])
  options_fit = let f = run_flags_are shared in (f.has_offset, omega arith, (f.has_no_first, tt))

  -- it takes four bytes
  options_wide : width_of (present (run_flags shared) trun_columns) ≡ 4
  options_wide = sym (length-column_bytes (run_flags shared) trun_columns (Some data_offset ∷ None ∷ []) options_fit)

  -- The run that was written is read again.
  pub run_again : sample_run_of (run_payload data_offset shared samples) ≡ run_read data_offset shared samples
  run_again =
      let payload = run_payload data_offset shared samples in
      let values : column_values (run_flags shared) trun_columns (drop 8 payload) ≡ Some data_offset ∷ None ∷ [] = columns_again (run_flags shared) trun_columns (Some data_offset ∷ None ∷ []) (rows_bytes shared samples) options_fit in
      let offset : twos_complement 4 data_offset ≡ pos data_offset = signed_again (pos data_offset) (record { sfits = near }) in
      let rest : rows_bytes shared samples ≡ rows_bytes shared samples ++ [] = sym (append-nil (rows_bytes shared samples)) in
      let rows = ap (λ (n : ℕ). run_rows n 1 (run_flags shared) (rows_bytes shared samples)) count_is ∙ ap (run_rows (length samples) 1 (run_flags shared)) rest ∙ run_rows_again shared samples [] fits in
      ap (λ (bits : ℕ). run_by bits payload) bits_are
      ∙ (λ i. record {
        data_offset = option_map (twos_complement 4) (column (values i) 0);
        first_sample_flags = column (values i) 1;
        rows = run_rows (row_count trun payload) 1 (run_flags shared) (drop (8 + options_wide i) payload);
      })
      ∙ (λ i. record { data_offset = Some (offset i); first_sample_flags = None; rows = rows i })

  -- It is sound.
  pub run_sound : IsSound trun (run_payload data_offset shared samples)
  run_sound =
      let payload = run_payload data_offset shared samples in
      let long = length-rows shared samples fits in
      let room : 8 + width_of (present (run_flags shared) trun_columns) + length samples * width_of (present (run_flags shared) sample_columns) ≤ length payload = omega (arith, options_wide, long) in
      record {
        readable = record {
          version = refl;
          flags = subst (λ (bits : ℕ). IsTrue (only_among (known_flags trun) bits && not (has bits first_sample_flags_present && has bits sample_flags_present))) (sym bits_are) (run_flags_are shared).known;
          room = subst (λ (bits : ℕ). 8 + width_of (present bits trun_columns) + row_count trun payload * width_of (present bits sample_columns) ≤ length payload) (sym bits_are)
              (subst (λ (n : ℕ). 8 + width_of (present (run_flags shared) trun_columns) + n * width_of (present (run_flags shared) sample_columns) ≤ length payload) (sym count_is) room);
        };
        value = refl;
        inside = refl;
        offsets = refl;
      }

  -- It takes no more than 16 bytes a sample.
  pub run_short : length (run_payload data_offset shared samples) ≤ 12 + 16 * length samples
  run_short =
      let long = length-rows shared samples fits in
      let narrow = (run_flags_are shared).narrow in
      let each : length samples * width_of (present (run_flags shared) sample_columns) ≤ length samples * 16 = mul-le-mul_left (length samples) narrow in
      omega (arith, long, each)

-- ---- `tfhd`

-- a number that is there fits four bytes
abbrev pub FitsOption : Option ℕ → Type 0
FitsOption o = IfSome o (λ n. n < 256 ^ 4)

-- the fields of a `tfhd` that is written
abbrev pub head_options : ℕ → Option ℕ → Option ℕ → Option ℕ → List (Option ℕ)
head_options description duration size flags = None ∷ Some description ∷ duration ∷ size ∷ flags ∷ []

-- its flags
abbrev pub head_flags : ℕ → Option ℕ → Option ℕ → Option ℕ → ℕ
head_flags description duration size flags = default_base_is_moof + column_flags tfhd_columns (head_options description duration size flags)

-- what the flags of a written `tfhd` say
pub record HeadFlags (description : ℕ) (duration size flags : Option ℕ) : Type 0 where
  pub fits : FitColumns (head_flags description duration size flags) tfhd_columns (head_options description duration size flags)
  pub is_moof : has (head_flags description duration size flags) default_base_is_moof ≡ true
  pub small : head_flags description duration size flags < 256 ^ 3
  pub known : IsTrue (only_among (known_flags tfhd) (head_flags description duration size flags))
  pub narrow : width_of (present (head_flags description duration size flags) tfhd_columns) ≤ 16

-- they say what they ought to
pub head_flags_are : (description : ℕ) (duration size flags : Option ℕ) → description < 256 ^ 4 → FitsOption duration → FitsOption size → FitsOption flags → HeadFlags description duration size flags
head_flags_are n None None None h d z f = record { fits = (refl, (refl, h, (refl, (refl, (refl, tt))))); is_moof = refl; small = lit< tt; known = refl; narrow = lit≤ tt }
head_flags_are n None None (Some c) h d z f = record { fits = (refl, (refl, h, (refl, (refl, (refl, f, tt))))); is_moof = refl; small = lit< tt; known = refl; narrow = lit≤ tt }
head_flags_are n None (Some b) None h d z f = record { fits = (refl, (refl, h, (refl, (refl, z, (refl, tt))))); is_moof = refl; small = lit< tt; known = refl; narrow = lit≤ tt }
head_flags_are n None (Some b) (Some c) h d z f = record { fits = (refl, (refl, h, (refl, (refl, z, (refl, f, tt))))); is_moof = refl; small = lit< tt; known = refl; narrow = lit≤ tt }
head_flags_are n (Some a) None None h d z f = record { fits = (refl, (refl, h, (refl, d, (refl, (refl, tt))))); is_moof = refl; small = lit< tt; known = refl; narrow = lit≤ tt }
head_flags_are n (Some a) None (Some c) h d z f = record { fits = (refl, (refl, h, (refl, d, (refl, (refl, f, tt))))); is_moof = refl; small = lit< tt; known = refl; narrow = lit≤ tt }
head_flags_are n (Some a) (Some b) None h d z f = record { fits = (refl, (refl, h, (refl, d, (refl, z, (refl, tt))))); is_moof = refl; small = lit< tt; known = refl; narrow = lit≤ tt }
head_flags_are n (Some a) (Some b) (Some c) h d z f = record { fits = (refl, (refl, h, (refl, d, (refl, z, (refl, f, tt))))); is_moof = refl; small = lit< tt; known = refl; narrow = lit≤ tt }

-- the payload of a `tfhd`
abbrev pub head_payload : ℕ → ℕ → Option ℕ → Option ℕ → Option ℕ → List ℕ
head_payload id description duration size flags =
    spelled (fields tfhd 0) (0 ∷ head_flags description duration size flags ∷ id ∷ []) ++ column_bytes tfhd_columns (head_options description duration size flags)

module _ (id description : ℕ) (duration size some_flags : Option ℕ) (id_fits : id < 256 ^ 4) (h : HeadFlags description duration size some_flags) where
  -- the flags are read again
  head_bits : flags (head_payload id description duration size some_flags) ≡ head_flags description duration size some_flags
  head_bits = field_again 3 (head_flags description duration size some_flags) (spelled (4 ∷ []) (id ∷ []) ++ column_bytes tfhd_columns (head_options description duration size some_flags)) h.small

  -- The fields of a `tfhd` that was written are read again: its ID, what its flags name, and that the base is the `moof`.
  pub head_id : slice_index (leaf_fields tfhd (head_payload id description duration size some_flags)) 2 ≡ id
  head_id = field_again 4 id (column_bytes tfhd_columns (head_options description duration size some_flags)) id_fits

  pub head_values : column_values (flags (head_payload id description duration size some_flags)) tfhd_columns (drop 8 (head_payload id description duration size some_flags)) ≡ head_options description duration size some_flags
  head_values =
      let payload = head_payload id description duration size some_flags in
      let options = head_options description duration size some_flags in
      ap (λ (bits : ℕ). column_values bits tfhd_columns (drop 8 payload)) head_bits
      ∙ ap (column_values (head_flags description duration size some_flags) tfhd_columns) (sym (append-nil (column_bytes tfhd_columns options)))
      ∙ columns_again (head_flags description duration size some_flags) tfhd_columns options [] h.fits

  pub head_is_moof : has (flags (head_payload id description duration size some_flags)) default_base_is_moof ≡ true
  head_is_moof = ap (λ (bits : ℕ). has bits default_base_is_moof) head_bits ∙ h.is_moof

  -- It is sound.
  pub head_sound : IsSound tfhd (head_payload id description duration size some_flags)
  head_sound =
      let payload = head_payload id description duration size some_flags in
      let long = length-column_bytes (head_flags description duration size some_flags) tfhd_columns (head_options description duration size some_flags) h.fits in
      let room : 8 + width_of (present (head_flags description duration size some_flags) tfhd_columns) + 0 ≤ length payload = omega (arith, long) in
      record {
        readable = record {
          version = refl;
          flags = subst (λ (bits : ℕ). IsTrue (only_among (known_flags tfhd) bits)) (sym head_bits) h.known;
          room = subst (λ (bits : ℕ). 8 + width_of (present bits tfhd_columns) + 0 ≤ length payload) (sym head_bits) room;
        };
        value = refl;
        inside = refl;
        offsets = refl;
      }

  -- It takes no more than 24 bytes.
  pub head_short : length (head_payload id description duration size some_flags) ≤ 24
  head_short =
      let long = length-column_bytes (head_flags description duration size some_flags) tfhd_columns (head_options description duration size some_flags) h.fits in
      let narrow = h.narrow in
      omega (arith, long)

-- ---- `tfdt`

-- the payload of a `tfdt`
abbrev pub time_payload : ℕ → List ℕ
time_payload time = spelled (fields tfdt 1) (1 ∷ 0 ∷ time ∷ [])

-- its time is read again
pub time_again : (time : ℕ) → time < 256 ^ 8 → decode_time_of (time_payload time) ≡ time
time_again time lt = ap (λ (ns : List ℕ). slice_index ns 2) (alone_again (fields tfdt 1) (1 ∷ 0 ∷ time ∷ []) (lit< tt, (lit< tt, (lt, tt))))

-- it is sound
pub time_sound : (time : ℕ) → IsSound tfdt (time_payload time)
time_sound time = record { readable = record { version = refl; flags = refl; room = lit≤ tt }; value = refl; inside = refl; offsets = refl }

-- ---- what samples have in common

-- in common or not
common_by : (P : ℕ → Type 0) (n : ℕ) (all : Bool) → P n → IfSome (cond all (Some n) None) P
common_by P n true h = h
common_by P n false h = tt

-- What holds of each number holds of what they have in common.
pub common_has : (P : ℕ → Type 0) (ns : List ℕ) → AllByRecursion P ns → IfSome (common ns) P
common_has P [] h = tt
common_has P (n ∷ ns) h = common_by P n (list_all (nat_eq n) ns) h.0
