-- Where a piece lies in a file, the fragment that its `moof` says has the samples of the piece, and no more.
use Rattle.std.proofs.Common.{◌≡◌, ℕ, ◌+◌, ◌%◌, ◌^◌, ◌<◌, Bool, true, false, eqb, List, [], ◌∷◌, ◌++◌, length, Option, Some, None, unwrap_or, ℤ, pos, negsuc, refl, sym, ap, ◌∙◌, arith, IsTrue}
use Rattle.std.specs.Prelude.{map, flat_map, FitsSigned, ◌==◌, if◌then◌else◌}
use Rattle.std.specs.Int.{w32}
use Rattle.std.specs.List.{AllByRecursion, AllZip, list_all}
use Rattle.std.proofs.Math.Nat.{mod-eq_of_lt}
use Rattle.std.proofs.lemmas.Bool.{eqb-true, and_parts}
use Rattle.std.proofs.lemmas.List.{append-nil, length-map}
use Rattle.mp4_boxes.specs.format.Bytes.{unsigned}
use Rattle.mp4_boxes.proofs.Each.{each_weaker}
use Rattle.mp4_boxes.specs.format.Written.{header_length}
use Rattle.mp4_boxes.proofs.Plain.{length_zip, not_is_false}
use Rattle.mp4_tables.specs.format.Groups.{maps_of}
use Rattle.mp4_tables.specs.format.PlainSamples.{PlacedSample, with_groups}
use Rattle.mp4_frag.specs.declared.trex.Trex.{Trex}
use Rattle.mp4_frag.specs.format.FragmentSamples.{run_samples, Part, part_samples}
use Rattle.mp4_frag.specs.format.FragmentRules.{is_within}
use Rattle.mp4_present.specs.format.Presentation.{Sample}
use Rattle.mp4_present.specs.format.Denotes.{sample_of}
use Rattle.mp4_content.specs.format.TimedSamples.{TimedSample}
use Rattle.mp4_plan.specs.format.Pieces.{Piece}
use Rattle.mp4_plan.specs.format.Normal.{piece_data, common, shared_by, first_description, first_time, piece_keys, moof_length}
use Rattle.mp4_plan.specs.format.PieceLaws.{IsOnePiece}
use Rattle.mp4_plan.proofs.PartLists.{Says, untimed_samples}
use Rattle.mp4_plan.proofs.RunLists.{Gives, IsFoundAs, data_of, run_found, found_within}
use Rattle.mp4_plan.proofs.RunRows.{FitsRow, row_read}
use Rattle.mp4_plan.proofs.Shared.{inherited_again, common_is}
use Rattle.mp4_plan.proofs.WrittenGroups.{grouped_by, maps_again, found_say}
use Rattle.mp4_plan.proofs.WrittenFragment.{IsWritablePiece, piece_covered}
use Rattle.mp4_plan.proofs.PieceTree.{traf_read}

-- ---- the rows give the samples

-- what holds of each value holds of each sample
values_of : (f : TimedSample → ℕ) (m : ℕ) (samples : List TimedSample) → AllByRecursion (λ (k : ℕ). m ≡ k) (map f samples) → AllByRecursion (λ (s : TimedSample). m ≡ f s) samples
values_of f m [] h = tt
values_of f m (s ∷ samples) h = (h.0, values_of f m samples h.1)

-- a number that samples have in common is that of each
abbrev IsCommon : (TimedSample → ℕ) → Option ℕ → List TimedSample → Type 0
IsCommon f shared samples = (m : ℕ) → shared ≡ Some m → AllByRecursion (λ (s : TimedSample). m ≡ f s) samples

-- what samples have in common is that of each
common_of : (f : TimedSample → ℕ) (samples : List TimedSample) → IsCommon f (common (map f samples)) samples
common_of f samples m e = values_of f m samples (common_is (map f samples) m e)

-- a signed number that is written as 0 is 0
pub unsigned_none : (z : ℤ) → FitsSigned w32 z → unsigned 4 z ≡ 0 → z ≡ pos 0
unsigned_none (pos n) h e = ap (λ (k : ℕ). pos k) e
unsigned_none (negsuc n) h e = absurd (omega (arith, h.sfits, e))

-- offsets that are all written as 0 are 0
pub offsets_none : (samples : List TimedSample) → AllByRecursion (λ (s : TimedSample). FitsSigned w32 s.sample.offset) samples → list_all (λ (s : TimedSample). unsigned 4 s.sample.offset == 0) samples ≡ true
    → AllByRecursion (λ (s : TimedSample). s.sample.offset ≡ pos 0) samples
offsets_none [] h e = tt
offsets_none (s ∷ samples) h e =
    let p = and_parts (eqb (unsigned 4 s.sample.offset) 0) (list_all (λ (s : TimedSample). unsigned 4 s.sample.offset == 0) samples) e in
    (unsigned_none s.sample.offset h.0 (eqb-true (unsigned 4 s.sample.offset) 0 p.0), offsets_none samples h.1 p.1)

-- an offset that is given, or is 0
offset_given : (has_offsets : Bool) (z : ℤ) → (has_offsets ≡ false → z ≡ pos 0) → unwrap_or (if has_offsets then Some z else None) (pos 0) ≡ z
offset_given true z h = refl
offset_given false z h = sym (h refl)

-- flags whose four highest bits are not set
abbrev pub HasFlags : TimedSample → Type 0
HasFlags s = s.sample.flags < 2 ^ 28

module _ (trex : Trex) (data_offset : ℕ) (piece : Piece) where
  -- for some last samples of the piece
  gives : (rest : List TimedSample) → IsCommon (λ s. s.sample.duration) (shared_by piece.samples).duration rest → IsCommon (λ s. length s.sample.bytes) (shared_by piece.samples).size rest → IsCommon (λ s. s.sample.flags) (shared_by piece.samples).flags rest
      → ((shared_by piece.samples).has_offsets ≡ false → AllByRecursion (λ (s : TimedSample). s.sample.offset ≡ pos 0) rest) → AllByRecursion HasFlags rest
      → AllByRecursion (λ (s : TimedSample). s.sample.description ≡ first_description piece.samples) rest
      → AllZip (Gives trex (traf_read data_offset piece)) (map (row_read (shared_by piece.samples)) rest) (untimed_samples rest)
  gives [] d z f o small one = tt
  gives (s ∷ rest) d z f o small one = (
    record {
      duration = inherited_again (shared_by piece.samples).duration s.sample.duration trex.duration (λ m e. (d m e).0);
      size = inherited_again (shared_by piece.samples).size (length s.sample.bytes) trex.size (λ m e. (z m e).0);
      flags = ap (λ (n : ℕ). n % 2 ^ 28) (inherited_again (shared_by piece.samples).flags s.sample.flags trex.flags (λ m e. (f m e).0)) ∙ mod-eq_of_lt small.0;
      offset = offset_given (shared_by piece.samples).has_offsets s.sample.offset (λ e. (o e).0);
      description = sym one.0;
    },
    gives rest (λ m e. (d m e).1) (λ m e. (z m e).1) (λ m e. (f m e).1) (λ e. (o e).1) small.1 one.1,
  )

  -- The rows of a piece give its samples.
  pub rows_give : AllByRecursion FitsRow piece.samples → AllByRecursion HasFlags piece.samples → IsOnePiece piece.samples → AllZip (Gives trex (traf_read data_offset piece)) (map (row_read (shared_by piece.samples)) piece.samples) (untimed_samples piece.samples)
  rows_give fits small one =
      gives piece.samples (common_of (λ s. s.sample.duration) piece.samples) (common_of (λ s. length s.sample.bytes) piece.samples) (common_of (λ s. s.sample.flags) piece.samples)
      (λ e. offsets_none piece.samples (each_weaker FitsRow (λ (s : TimedSample). FitsSigned w32 s.sample.offset) (λ s h. h.offset) piece.samples fits) (not_is_false (list_all (λ (s : TimedSample). unsigned 4 s.sample.offset == 0) piece.samples) e)) small one

-- ---- where the data lies

-- the data of a piece is that of its samples
data_is : (samples : List TimedSample) → data_of (untimed_samples samples) ≡ flat_map (λ (s : TimedSample). s.sample.bytes) samples
data_is [] = refl
data_is (s ∷ samples) = ap (λ (l : List ℕ). s.sample.bytes ++ l) (data_is samples)

-- where the data of a piece begins behind the first byte of its `moof`
abbrev pub offset_of : Piece → ℕ
offset_of piece = moof_length piece + header_length (length (piece_data piece))

-- the samples of the one run of a piece
abbrev pub placed_run : Trex → ℕ → Piece → List PlacedSample
placed_run trex at piece = run_samples trex (traf_read (offset_of piece) piece) None (pos (at + offset_of piece)) (map (row_read (shared_by piece.samples)) piece.samples)

-- the part of a piece
abbrev pub piece_part : Trex → ℕ → Piece → Part
piece_part trex at piece = record { id = piece.id; decode_time = Some (first_time piece.samples); runs = placed_run trex at piece ∷ []; groups = map (grouped_by piece.samples) (piece_keys piece.samples) }

-- the maps of samples
groups_are : (samples : List TimedSample) → map (λ (s : Sample). s.groups) (untimed_samples samples) ≡ map (λ (s : TimedSample). s.sample.groups) samples
groups_are [] = refl
groups_are (s ∷ samples) = ap (λ l. s.sample.groups ∷ l) (groups_are samples)

-- A part says what a piece does, its samples lie in the file, and its groupings are those of the piece.
pub record Spells (file : List ℕ) (part : Part) (piece : Piece) : Type 0 where
  pub says : Says (sample_of file) (λ s. refl) part piece
  pub within : AllByRecursion (λ run. IsTrue (is_within (length file) run)) part.runs
  pub groups : part.groups ≡ map (grouped_by piece.samples) (piece_keys piece.samples)
  pub many : length (part_samples part) ≡ length piece.samples

-- Where a file has the data of a piece behind as many bytes as its part says, the part spells the piece.
pub part_spells : (trex : Trex) (file front back : List ℕ) (at : ℕ) (piece : Piece) → IsWritablePiece piece → AllByRecursion HasFlags piece.samples → IsOnePiece piece.samples
    → at + offset_of piece ≡ length front → file ≡ front ++ (piece_data piece ++ back) → Spells file (piece_part trex at piece) piece
part_spells trex file front back at piece h small one e f =
    let samples = untimed_samples piece.samples in
    let run = placed_run trex at piece in
    let lies : file ≡ front ++ (data_of samples ++ back) = f ∙ ap (λ (l : List ℕ). front ++ (l ++ back)) (sym (data_is piece.samples)) in
    let found = run_found trex (traf_read (offset_of piece) piece) file front back (pos (at + offset_of piece)) (map (row_read (shared_by piece.samples)) piece.samples) samples
    (rows_give trex (offset_of piece) piece h.rows small one) (ap pos e) lies in
    let many : length run ≡ length piece.samples = length_zip (IsFoundAs file) run samples found ∙ length-map piece.samples (λ (s : TimedSample). s.sample) in
    let groups = map (grouped_by piece.samples) (piece_keys piece.samples) in
    let maps : maps_of (length run) groups ≡ map (λ (s : Sample). s.groups) samples =
    ap (λ (n : ℕ). maps_of n groups) many ∙ maps_again (piece_keys piece.samples) piece.samples (piece_covered piece.samples h.groups) ∙ sym (groups_are piece.samples) in
    let alone : run ++ [] ≡ run = append-nil run in
    let read = ap (λ (l : List PlacedSample). map (sample_of file) (with_groups (maps_of (length l) groups) l)) alone ∙ ap (λ m. map (sample_of file) (with_groups m run)) maps ∙ found_say file run samples found in
    record {
      says = record { id = refl; time = refl; samples = read };
      within = (found_within file run samples found, tt);
      groups = refl;
      many = sym (length-map (part_samples (piece_part trex at piece)) (sample_of file)) ∙ ap (λ (l : List Sample). length l) read ∙ length-map piece.samples (λ (s : TimedSample). s.sample);
    }
