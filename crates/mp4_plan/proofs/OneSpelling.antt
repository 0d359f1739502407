-- In the normal form each number of the samples of a piece is spelled once: in `tfhd` where they agree, else in each row of `trun`.
use Rattle.std.proofs.Common.{◌≡◌, ℕ, ◌+◌, ◌<◌, ◌^◌, Bool, true, false, eqb, List, [], ◌∷◌, ◌++◌, length, drop, Option, Some, None, refl, sym, ap, subst, ◌∙◌, arith}
use Rattle.std.specs.Prelude.{map, nat_eq, not, pos, FitsSigned, IfSome}
use Rattle.std.specs.Int.{w32}
use Rattle.std.specs.List.{AllByRecursion, list_all}
use Rattle.std.proofs.lemmas.Bool.{eq-eqb, and_from, not-false}
use Rattle.mp4_boxes.specs.format.Bytes.{spelled, unsigned}
use Rattle.mp4_boxes.specs.format.Written.{column_flags, column_bytes}
use Rattle.mp4_boxes.specs.format.Layout.{Column, tfhd, trun, fields, flags, has, column_values, tfhd_columns, trun_columns, default_base_is_moof, default_sample_duration_present, default_sample_size_present, default_sample_flags_present, sample_duration_present, sample_size_present, sample_flags_present, sample_composition_time_offset_present}
use Rattle.mp4_boxes.proofs.Each.{each_value, each_weaker, each_from}
use Rattle.mp4_boxes.proofs.Columns.{columns_again}
use Rattle.mp4_frag.specs.format.Fragments.{column}
use Rattle.mp4_present.specs.format.Presentation.{Sample, Track, IsSample, IsTrack}
use Rattle.mp4_content.specs.format.TimedSamples.{TimedSample, timed}
use Rattle.mp4_plan.specs.format.Pieces.{Piece, pieces}
use Rattle.mp4_plan.specs.format.Normal.{common, shared_by, row_flags, trun_row, first_description}
use Rattle.mp4_plan.specs.format.SpellingLaws.{AreAlike, IsSpelledOnce, defaults, run_bits, HasOneSpelling, ColumnsAreSpelledOnce}
use Rattle.mp4_plan.proofs.Shared.{common_is}
use Rattle.mp4_plan.proofs.WrittenRun.{common_has}
use Rattle.mp4_plan.proofs.PieceSays.{offsets_none}
use Rattle.mp4_plan.proofs.PieceLists.{HasSamples, pieces_some}
use Rattle.mp4_plan.proofs.PieceFacts.{all_timed, samples_in_pieces}

-- ---- what the flags say

-- there is no number for all
abbrev lacks : Option ℕ → Bool
lacks None = true
lacks (Some n) = false

-- the payload of a `trun` with such flags, and whatever follows its count
abbrev run_payload : Option ℕ → Option ℕ → Option ℕ → Bool → ℕ → List ℕ → List ℕ
run_payload duration size flag has_offsets count rest =
    spelled (fields trun 1) (1 ∷ (1 + row_flags (record { duration = duration; size = size; flags = flag; has_offsets = has_offsets })) ∷ count ∷ []) ++ rest

-- its flags name the columns that do not stand once
record RunNames (duration size flag : Option ℕ) (has_offsets : Bool) (bits : ℕ) : Type 0 where
  duration_is : has bits sample_duration_present ≡ lacks duration
  size_is : has bits sample_size_present ≡ lacks size
  flags_is : has bits sample_flags_present ≡ lacks flag
  offsets_is : has bits sample_composition_time_offset_present ≡ has_offsets

-- in each of the sixteen cases
run_names : (duration size flag : Option ℕ) (has_offsets : Bool) (count : ℕ) (rest : List ℕ) → RunNames duration size flag has_offsets (flags (run_payload duration size flag has_offsets count rest))
run_names None None None false count rest = record { duration_is = refl; size_is = refl; flags_is = refl; offsets_is = refl }
run_names None None None true count rest = record { duration_is = refl; size_is = refl; flags_is = refl; offsets_is = refl }
run_names None None (Some f) false count rest = record { duration_is = refl; size_is = refl; flags_is = refl; offsets_is = refl }
run_names None None (Some f) true count rest = record { duration_is = refl; size_is = refl; flags_is = refl; offsets_is = refl }
run_names None (Some z) None false count rest = record { duration_is = refl; size_is = refl; flags_is = refl; offsets_is = refl }
run_names None (Some z) None true count rest = record { duration_is = refl; size_is = refl; flags_is = refl; offsets_is = refl }
run_names None (Some z) (Some f) false count rest = record { duration_is = refl; size_is = refl; flags_is = refl; offsets_is = refl }
run_names None (Some z) (Some f) true count rest = record { duration_is = refl; size_is = refl; flags_is = refl; offsets_is = refl }
run_names (Some d) None None false count rest = record { duration_is = refl; size_is = refl; flags_is = refl; offsets_is = refl }
run_names (Some d) None None true count rest = record { duration_is = refl; size_is = refl; flags_is = refl; offsets_is = refl }
run_names (Some d) None (Some f) false count rest = record { duration_is = refl; size_is = refl; flags_is = refl; offsets_is = refl }
run_names (Some d) None (Some f) true count rest = record { duration_is = refl; size_is = refl; flags_is = refl; offsets_is = refl }
run_names (Some d) (Some z) None false count rest = record { duration_is = refl; size_is = refl; flags_is = refl; offsets_is = refl }
run_names (Some d) (Some z) None true count rest = record { duration_is = refl; size_is = refl; flags_is = refl; offsets_is = refl }
run_names (Some d) (Some z) (Some f) false count rest = record { duration_is = refl; size_is = refl; flags_is = refl; offsets_is = refl }
run_names (Some d) (Some z) (Some f) true count rest = record { duration_is = refl; size_is = refl; flags_is = refl; offsets_is = refl }

-- ---- what stands in `tfhd`

-- the columns of the defaults
abbrev default_columns : List Column
default_columns = record { flag = default_sample_duration_present; width = 4 } ∷ record { flag = default_sample_size_present; width = 4 } ∷ record { flag = default_sample_flags_present; width = 4 } ∷ []

-- the flags of a `tfhd` with such defaults
abbrev tfhd_flags : ℕ → Option ℕ → Option ℕ → Option ℕ → ℕ
tfhd_flags description duration size flag = default_base_is_moof + column_flags tfhd_columns (None ∷ Some description ∷ duration ∷ size ∷ flag ∷ [])

-- and its payload
abbrev tfhd_payload : ℕ → ℕ → Option ℕ → Option ℕ → Option ℕ → List ℕ
tfhd_payload id description duration size flag =
    spelled (fields tfhd 0) (0 ∷ tfhd_flags description duration size flag ∷ id ∷ []) ++ column_bytes tfhd_columns (None ∷ Some description ∷ duration ∷ size ∷ flag ∷ [])

-- the fields of a `tfhd`
abbrev fields_of : List ℕ → List (Option ℕ)
fields_of head = column_values (flags head) tfhd_columns (drop 8 head)

-- a number of four bytes, if it is there
abbrev Fits : Option ℕ → Type 0
Fits o = IfSome o (λ n. n < 256 ^ 4)

-- the defaults are the third to the fifth of its fields
record Says (duration size flag : Option ℕ) (values : List (Option ℕ)) : Type 0 where
  duration_is : column values 2 ≡ duration
  size_is : column values 3 ≡ size
  flags_is : column values 4 ≡ flag

-- the three columns behind two others
says : (duration size flag : Option ℕ) (first second : Option ℕ) (values : List (Option ℕ)) → values ≡ duration ∷ size ∷ flag ∷ [] → Says duration size flag (first ∷ second ∷ values)
says duration size flag first second values e = record { duration_is = ap (λ vs. column vs 0) e; size_is = ap (λ vs. column vs 1) e; flags_is = ap (λ vs. column vs 2) e }

-- in each of the eight cases the defaults are read again
tfhd_says : (id description : ℕ) (duration size flag : Option ℕ) → Fits duration → Fits size → Fits flag → Says duration size flag (fields_of (tfhd_payload id description duration size flag))
tfhd_says id n None None None d s f = says None None None _ _ _ (columns_again (tfhd_flags n None None None) default_columns (None ∷ None ∷ None ∷ []) [] (refl, (refl, (refl, tt))))
tfhd_says id n None None (Some c) d s f = says None None (Some c) _ _ _ (columns_again (tfhd_flags n None None (Some c)) default_columns (None ∷ None ∷ Some c ∷ []) [] (refl, (refl, (refl, f, tt))))
tfhd_says id n None (Some b) None d s f = says None (Some b) None _ _ _ (columns_again (tfhd_flags n None (Some b) None) default_columns (None ∷ Some b ∷ None ∷ []) [] (refl, (refl, s, (refl, tt))))
tfhd_says id n None (Some b) (Some c) d s f = says None (Some b) (Some c) _ _ _ (columns_again (tfhd_flags n None (Some b) (Some c)) default_columns (None ∷ Some b ∷ Some c ∷ []) [] (refl, (refl, s, (refl, f, tt))))
tfhd_says id n (Some a) None None d s f = says (Some a) None None _ _ _ (columns_again (tfhd_flags n (Some a) None None) default_columns (Some a ∷ None ∷ None ∷ []) [] (refl, d, (refl, (refl, tt))))
tfhd_says id n (Some a) None (Some c) d s f = says (Some a) None (Some c) _ _ _ (columns_again (tfhd_flags n (Some a) None (Some c)) default_columns (Some a ∷ None ∷ Some c ∷ []) [] (refl, d, (refl, (refl, f, tt))))
tfhd_says id n (Some a) (Some b) None d s f = says (Some a) (Some b) None _ _ _ (columns_again (tfhd_flags n (Some a) (Some b) None) default_columns (Some a ∷ Some b ∷ None ∷ []) [] (refl, d, (refl, s, (refl, tt))))
tfhd_says id n (Some a) (Some b) (Some c) d s f = says (Some a) (Some b) (Some c) _ _ _ (columns_again (tfhd_flags n (Some a) (Some b) (Some c)) default_columns (Some a ∷ Some b ∷ Some c ∷ []) [] (refl, d, (refl, s, (refl, f, tt))))

-- ---- what samples have in common

-- an equation of each, turned round
turned : (value : TimedSample → ℕ) (n : ℕ) (samples : List TimedSample) → AllByRecursion (λ (k : ℕ). n ≡ k) (map value samples) → AllByRecursion (λ (s : TimedSample). value s ≡ n) samples
turned value n [] h = tt
turned value n (s ∷ samples) h = (sym h.0, turned value n samples h.1)

-- the test that all numbers are one
all_same : (value : TimedSample → ℕ) (n : ℕ) (samples : List TimedSample) → AllByRecursion (λ (t : TimedSample). value t ≡ n) samples → list_all (nat_eq n) (map value samples) ≡ true
all_same value n [] h = refl
all_same value n (s ∷ samples) h = and_from (nat_eq n (value s)) (list_all (nat_eq n) (map value samples)) (eq-eqb n (value s) (sym h.0)) (all_same value n samples h.1)

-- where samples agree they have a number in common
agreed : (value : TimedSample → ℕ) (samples : List TimedSample) → 0 < length samples → AreAlike value samples → common (map value samples) ≡ None → ⊥
agreed value [] some a e = omega (arith, some)
agreed value (s ∷ samples) some a e =
    let all = all_same value (value s) samples a in
    let wrong : ◌≡◌ {A = Option ℕ} (Some (value s)) None = rw all at e in
    cc

-- by what the samples have in common
once_case : (value : TimedSample → ℕ) (samples : List TimedSample) (o : Option ℕ) (is_column : Bool) → 0 < length samples → common (map value samples) ≡ o → is_column ≡ lacks o → IsSpelledOnce value samples o is_column
once_case value samples (Some n) is_column some e c = (turned value n samples (common_is (map value samples) n e), c)
once_case value samples None is_column some e c = ((λ a. agreed value samples some a e), c)

-- a number that is the default exactly if the samples have it in common, and a column exactly if not, is spelled once
once : (value : TimedSample → ℕ) (samples : List TimedSample) (default : Option ℕ) (is_column : Bool) → 0 < length samples → default ≡ common (map value samples) → is_column ≡ lacks (common (map value samples)) → IsSpelledOnce value samples default is_column
once value samples default is_column some e c = once_case value samples default is_column some (sym e) (subst (λ (o : Option ℕ). is_column ≡ lacks o) (sym e) c)

-- what numbers of four bytes have in common has four bytes
common_fits : (ns : List ℕ) → AllByRecursion (λ n. n < 256 ^ 4) ns → Fits (common ns)
common_fits ns h = common_has (λ n. n < 256 ^ 4) ns h

-- ---- offsets

-- an offset that is written as 0
abbrev no_offset : TimedSample → Bool
no_offset s = eqb (unsigned 4 s.sample.offset) 0

-- and the other way round
none_offset : (samples : List TimedSample) → AllByRecursion (λ (s : TimedSample). s.sample.offset ≡ pos 0) samples → list_all no_offset samples ≡ true
none_offset [] h = refl
none_offset (s ∷ samples) h = and_from (no_offset s) (list_all no_offset samples) (eq-eqb (unsigned 4 s.sample.offset) 0 (ap (unsigned 4) h.0)) (none_offset samples h.1)

-- ---- one piece

-- the numbers of a sample fit their columns
record FitsColumns (s : TimedSample) : Type 0 where
  duration : s.sample.duration < 256 ^ 4
  size : length s.sample.bytes < 256 ^ 4
  flags : s.sample.flags < 256 ^ 4
  offset : FitsSigned w32 s.sample.offset

-- a piece of samples that fit their columns has one spelling
piece_spelling : (data_offset : ℕ) (piece : Piece) → 0 < length piece.samples → AllByRecursion FitsColumns piece.samples → HasOneSpelling data_offset piece
piece_spelling data_offset piece some h =
    let samples = piece.samples in
    let shared = shared_by samples in
    let durations = common_fits (map (λ (s : TimedSample). s.sample.duration) samples) (each_value FitsColumns (λ n. n < 256 ^ 4) (λ (s : TimedSample). s.sample.duration) (λ s f. f.duration) samples h) in
    let sizes = common_fits (map (λ (s : TimedSample). length s.sample.bytes) samples) (each_value FitsColumns (λ n. n < 256 ^ 4) (λ (s : TimedSample). length s.sample.bytes) (λ s f. f.size) samples h) in
    let flag = common_fits (map (λ (s : TimedSample). s.sample.flags) samples) (each_value FitsColumns (λ n. n < 256 ^ 4) (λ (s : TimedSample). s.sample.flags) (λ s f. f.flags) samples h) in
    let head : Says shared.duration shared.size shared.flags (defaults piece) = tfhd_says piece.id (first_description samples) shared.duration shared.size shared.flags durations sizes flag in
    let run : RunNames shared.duration shared.size shared.flags shared.has_offsets (run_bits data_offset piece) =
    run_names shared.duration shared.size shared.flags shared.has_offsets (length samples) (column_bytes trun_columns (Some data_offset ∷ None ∷ []) ++ Rattle.std.specs.List.flat_map (trun_row shared) samples) in
    record {
      durations = once (λ (s : TimedSample). s.sample.duration) samples (column (defaults piece) 2) _ some head.duration_is run.duration_is;
      sizes = once (λ (s : TimedSample). length s.sample.bytes) samples (column (defaults piece) 3) _ some head.size_is run.size_is;
      flags = once (λ (s : TimedSample). s.sample.flags) samples (column (defaults piece) 4) _ some head.flags_is run.flags_is;
      offsets = (
        (λ e. offsets_none samples (each_weaker FitsColumns (λ (s : TimedSample). FitsSigned w32 s.sample.offset) (λ s f. f.offset) samples h) (not-false (list_all no_offset samples) (sym run.offsets_is ∙ e))),
        (λ all. run.offsets_is ∙ ap not (none_offset samples all)),
      );
    }

-- the numbers of a well-formed sample
abbrev FitsSample : Sample → Type 0
FitsSample s = (s.duration < 256 ^ 4) × (length s.bytes < 256 ^ 4) × (s.flags < 256 ^ 4) × FitsSigned w32 s.offset

-- those of a well-formed one
sample_fits : (descriptions : ℕ) (s : Sample) → IsSample descriptions s → FitsSample s
sample_fits descriptions s h = (h.duration, h.size, omega (arith, h.flags), h.offset)

-- and of each sample of a track
track_fits : (t : Track) → IsTrack t → AllByRecursion (λ (s : TimedSample). FitsSample s.sample) (timed t)
track_fits t h = all_timed FitsSample 1 t.start t.samples (each_weaker (IsSample (length t.head.media.descriptions)) FitsSample (sample_fits (length t.head.media.descriptions)) t.samples h.samples)

-- In the normal form of what is valid each piece has one spelling of its columns.
pub columns_are_spelled_once : ColumnsAreSpelledOnce
columns_are_spelled_once p data_offset valid =
    each_from HasSamples (λ (piece : Piece). AllByRecursion (λ (s : TimedSample). FitsSample s.sample) piece.samples) (HasOneSpelling data_offset)
    (λ piece some h. piece_spelling data_offset piece some (each_weaker (λ (s : TimedSample). FitsSample s.sample) FitsColumns (λ s f. record { duration = f.0; size = f.1; flags = f.2; offset = f.3 }) piece.samples h)) (pieces p) (pieces_some p)
    (samples_in_pieces (λ id s. FitsSample s.sample) p (each_weaker IsTrack (λ (t : Track). AllByRecursion (λ (s : TimedSample). FitsSample s.sample) (timed t)) track_fits p.tracks valid.tracks))
