-- What is written of a piece, by what was gathered and noted of its samples, is the piece of the normal form.
use Rattle.std.proofs.Common.{◌≡◌, ℕ, suc, ◌+◌, ◌*◌, ◌^◌, ◌<◌, ◌≤◌, Bool, true, false, cond, List, [], ◌∷◌, ◌++◌, length, Option, Some, None, refl, sym, ap, subst, ◌∙◌, append_assoc, length-append, arith}
use Rattle.std.specs.Prelude.{map, flat_map, codes, slice_index, not, ◌&&◌, ◌==◌}
use Rattle.std.specs.List.{AllByRecursion, list_all}
use Rattle.byteorder.specs.Endian.{big_bytes}
use Rattle.mp4_boxes.specs.format.Bytes.{spelled, sum_of, unsigned}
use Rattle.mp4_boxes.specs.format.Layout.{tfdt, fields, sample_columns}
use Rattle.mp4_boxes.specs.format.Written.{box_bytes, column_bytes, header_bytes, header_length}
use Rattle.mp4_tables.specs.format.Groups.{GroupKey}
use Rattle.mp4_tables.specs.declared.sample.SampleAt.{SampleAt}
use Rattle.mp4_present.specs.words.Joined.{sample_bytes}
use Rattle.mp4_boxes.proofs.LyingData.{length-header_bytes}
use Rattle.mp4_boxes.proofs.Plain.{below_four}
use Rattle.mp4_content.specs.format.TimedSamples.{TimedSample}
use Rattle.mp4_plan.specs.format.Pieces.{Piece}
use Rattle.mp4_plan.specs.format.Normal.{Shared, common, own, shared_by, trun_row, trun_bytes, tfhd_bytes, sbgp_bytes, piece_keys, traf_bytes, moof_bytes, moof_length, piece_bytes, first_time, first_description, longest_runs}
use Rattle.mp4_plan.specs.words.Gathering.{gather_all, planned_of, used_rows, runs_at}
use Rattle.mp4_plan.specs.words.PlannerLaws.{SumsUp, indexes as indexes_of}
use Rattle.mp4_plan.specs.words.Sizes.{row_size, groups_size, tfhd_size, trun_size, traf_size, moof_sizes}
use Rattle.mp4_plan.specs.words.Spelling.{option_bytes, offset_of, run_row, run_rows, box_front, mfhd_front, head_bits, tfhd_front, tfdt_front, run_bits, trun_front, moof_front}
use Rattle.mp4_content.specs.words.TakenSamples.{IsTaken, AreTaken, IsNamed}
use Rattle.mp4_plan.specs.words.Taken.{row_seen, piece_front, head_of, PieceIsSpelled}
use Rattle.mp4_plan.specs.words.UsedKeys.{AreApart, groups_bytes}
use Rattle.mp4_plan.specs.declared.gathered.Gathered.{Gathered}
use Rattle.mp4_plan.specs.declared.gathered.GroupRuns.{GroupRuns}
use Rattle.mp4_plan.specs.declared.moof_front.PieceHead.{PieceHead}
use Rattle.mp4_plan.specs.declared.planner.Planned.{Planned}
use Rattle.mp4_plan.proofs.Gatherings.{gathering_sums_up}
use Rattle.mp4_plan.proofs.WrittenRun.{head_payload}
use Rattle.mp4_plan.proofs.SpelledBoxes.{box_is, short_is, head_is, head_length, run_said, run_front, run_is, rows_length, nested}
use Rattle.mp4_plan.proofs.SpelledGroups.{RowsAre, groups_are, groups_long}

-- ---- lists of samples that are taken

-- a number of each
pub numbers_are : (file : List ℕ) (keys : List GroupKey) (f : SampleAt → ℕ) (g : TimedSample → ℕ) → ((a : SampleAt) (s : TimedSample) → IsTaken file keys a s → f a ≡ g s)
    → (taken : List SampleAt) (samples : List TimedSample) → AreTaken file keys taken samples → map f taken ≡ map g samples
numbers_are file keys f g each [] [] z = refl
numbers_are file keys f g each [] (s ∷ samples) z = absurd z
numbers_are file keys f g each (a ∷ taken) [] z = absurd z
numbers_are file keys f g each (a ∷ taken) (s ∷ samples) z = let x = each a s z.0 in let r = numbers_are file keys f g each taken samples z.1 in λ i. x i ∷ r i

offsets_are : (file : List ℕ) (keys : List GroupKey) (taken : List SampleAt) (samples : List TimedSample) → AreTaken file keys taken samples
    → list_all (λ (a : SampleAt). unsigned 4 a.cto == 0) taken ≡ list_all (λ (s : TimedSample). unsigned 4 s.sample.offset == 0) samples
offsets_are file keys [] [] z = refl
offsets_are file keys [] (s ∷ samples) z = absurd z
offsets_are file keys (a ∷ taken) [] z = absurd z
offsets_are file keys (a ∷ taken) (s ∷ samples) z = let x = z.0.offset in let r = offsets_are file keys taken samples z.1 in λ i. (unsigned 4 (x i) == 0) && r i

pub taken_count : (file : List ℕ) (keys : List GroupKey) (taken : List SampleAt) (samples : List TimedSample) → AreTaken file keys taken samples → length taken ≡ length samples
taken_count file keys [] [] z = refl
taken_count file keys [] (s ∷ samples) z = absurd z
taken_count file keys (a ∷ taken) [] z = absurd z
taken_count file keys (a ∷ taken) (s ∷ samples) z = ap suc (taken_count file keys taken samples z.1)

abbrev data_of : List TimedSample → List ℕ
data_of samples = flat_map (λ (s : TimedSample). s.sample.bytes) samples

pub bytes_are : (file : List ℕ) (keys : List GroupKey) (taken : List SampleAt) (samples : List TimedSample) → AreTaken file keys taken samples → sample_bytes file taken ≡ data_of samples
bytes_are file keys [] [] z = refl
bytes_are file keys [] (s ∷ samples) z = absurd z
bytes_are file keys (a ∷ taken) [] z = absurd z
bytes_are file keys (a ∷ taken) (s ∷ samples) z = let x = z.0.bytes in let r = bytes_are file keys taken samples z.1 in λ i. x i ++ r i

sizes_are : (file : List ℕ) (keys : List GroupKey) (taken : List SampleAt) (samples : List TimedSample) → AreTaken file keys taken samples → sum_of (λ (a : SampleAt). a.size) taken ≡ length (data_of samples)
sizes_are file keys [] [] z = refl
sizes_are file keys [] (s ∷ samples) z = absurd z
sizes_are file keys (a ∷ taken) [] z = absurd z
sizes_are file keys (a ∷ taken) (s ∷ samples) z =
    let x = z.0.size in
    let r = sizes_are file keys taken samples z.1 in
    let l = length-append s.sample.bytes (data_of samples) in
    omega (arith, x, r, l)

-- ---- rows

columns_are : (x y z w : Option ℕ) → option_bytes x ++ option_bytes y ++ option_bytes z ++ option_bytes w ≡ column_bytes sample_columns (x ∷ y ∷ z ∷ w ∷ [])
columns_are None None None None = refl
columns_are None None None (Some d) = refl
columns_are None None (Some c) None = refl
columns_are None None (Some c) (Some d) = refl
columns_are None (Some b) None None = refl
columns_are None (Some b) None (Some d) = refl
columns_are None (Some b) (Some c) None = refl
columns_are None (Some b) (Some c) (Some d) = refl
columns_are (Some a) None None None = refl
columns_are (Some a) None None (Some d) = refl
columns_are (Some a) None (Some c) None = refl
columns_are (Some a) None (Some c) (Some d) = refl
columns_are (Some a) (Some b) None None = refl
columns_are (Some a) (Some b) None (Some d) = refl
columns_are (Some a) (Some b) (Some c) None = refl
columns_are (Some a) (Some b) (Some c) (Some d) = refl

offset_is : (o : Bool) (a : SampleAt) → offset_of o (row_seen a) ≡ cond o (Some (unsigned 4 a.cto)) None
offset_is true a = refl
offset_is false a = refl

-- what stands once, of what was planned
abbrev pub shared_of : Planned → Shared
shared_of p = record { duration = p.duration; size = p.size; flags = p.flags; has_offsets = p.has_offsets }

row_is : (file : List ℕ) (keys : List GroupKey) (p : Planned) (a : SampleAt) (s : TimedSample) → IsTaken file keys a s → run_row p (row_seen a) ≡ trun_row (shared_of p) s
row_is file keys p a s t =
    let d = t.duration in
    let z = t.size in
    let f = t.flags in
    let o = t.offset in
    let w = offset_is p.has_offsets a in
    columns_are (own p.duration a.duration) (own p.size a.size) (own p.flags a.flags) (offset_of p.has_offsets (row_seen a))
    ∙ ap (λ x. column_bytes sample_columns (own p.duration a.duration ∷ own p.size a.size ∷ own p.flags a.flags ∷ x ∷ [])) w
    ∙ (λ i. column_bytes sample_columns (own p.duration (d i) ∷ own p.size (z i) ∷ own p.flags (f i) ∷ cond p.has_offsets (Some (unsigned 4 (o i))) None ∷ []))

rows_are_written : (file : List ℕ) (keys : List GroupKey) (p : Planned) (taken : List SampleAt) (samples : List TimedSample) → AreTaken file keys taken samples
    → run_rows p (map row_seen taken) ≡ flat_map (trun_row (shared_of p)) samples
rows_are_written file keys p [] [] z = refl
rows_are_written file keys p [] (s ∷ samples) z = absurd z
rows_are_written file keys p (a ∷ taken) [] z = absurd z
rows_are_written file keys p (a ∷ taken) (s ∷ samples) z = let x = row_is file keys p a s z.0 in let r = rows_are_written file keys p taken samples z.1 in λ i. x i ++ r i

rows_count : (taken : List SampleAt) → length (map row_seen taken) ≡ length taken
rows_count [] = refl
rows_count (a ∷ taken) = ap suc (rows_count taken)

-- ---- what was planned

-- it is what these samples have
pub record IsPlanOf (taken : List SampleAt) (p : Planned) : Type 0 where
  pub count : p.count ≡ length taken
  pub bytes : p.bytes ≡ sum_of (λ (a : SampleAt). a.size) taken
  pub duration : p.duration ≡ common (map (λ (a : SampleAt). a.duration) taken)
  pub size : p.size ≡ common (map (λ (a : SampleAt). a.size) taken)
  pub flags : p.flags ≡ common (map (λ (a : SampleAt). a.flags) taken)
  pub has_offsets : p.has_offsets ≡ not (list_all (λ (a : SampleAt). unsigned 4 a.cto == 0) taken)
  pub rows : RowsAre p taken

used_is : (r : GroupRuns) (n : ℕ) (v : Bool) → r.rows ≡ n → r.is_used ≡ not v → used_rows r ≡ cond v 0 n
used_is r n true e f = rw f refl
used_is r n false e f = rw f e

plan_of : (taken : List SampleAt) (g : Gathered) → SumsUp taken g → IsPlanOf taken (planned_of (Some g))
plan_of taken g u =
    let one = λ (j : ℕ) (lt : j < 4). used_is (runs_at g j) (length (longest_runs (indexes_of j taken))) (list_all (λ index. index == 0) (indexes_of j taken)) (u.rows j lt) (u.used j lt) in
    record {
      count = u.count;
      bytes = u.bytes;
      duration = u.duration;
      size = u.size;
      flags = u.flags;
      has_offsets = u.has_offsets;
      rows = below_four (λ j. slice_index (planned_of (Some g)).group_rows j ≡ cond (list_all (λ index. index == 0) (indexes_of j taken)) 0 (length (longest_runs (indexes_of j taken))))
          (one 0 (omega arith)) (one 1 (omega arith)) (one 2 (omega arith)) (one 3 (omega arith));
    }

-- What was gathered of samples is a plan of them.
pub gathered_plan : (a : SampleAt) (more : List SampleAt) → IsPlanOf (a ∷ more) (planned_of (gather_all None (a ∷ more)))
gathered_plan a more =
    let r = gathering_sums_up a more in
    subst (λ (g : Option Gathered). IsPlanOf (a ∷ more) (planned_of g)) (sym r.1) (plan_of (a ∷ more) r.0 r.2)

-- ---- the whole piece

box_length : (payload : List ℕ) → 8 + length payload ≡ length (box_bytes (codes "moof") payload)
box_length payload = omega arith

joined_length : (a b c : List ℕ) (x y z : ℕ) → length a ≡ x → length b ≡ y → length c ≡ z → length (a ++ b ++ c) ≡ x + y + z
joined_length a b c x y z e f g = let outer = length-append (a ++ b) c in let inner = length-append a b in omega (arith, e, f, g, outer, inner)

-- a `moof` as far as its rows, with sizes that fit, and where the data lie
abbrev front_said : PieceHead → Planned → List GroupKey → ℕ → List ℕ
front_said head p keys place =
    box_front (codes "moof") (24 + traf_size p keys) ++ mfhd_front head.sequence
    ++ box_front (codes "traf") (traf_size p keys) ++ tfhd_front head p (head_bits p) (tfhd_size p) ++ tfdt_front head.time
    ++ trun_front (run_bits p) p.count place (trun_size p)

-- one `trun`
run_joined : (size : ℕ) (bits count place : List ℕ) (rows : List ℕ) → box_front (codes "trun") size ++ bits ++ count ++ place ++ rows ≡ box_front (codes "trun") size ++ (bits ++ count ++ place ++ rows)
run_joined size bits count place rows = simp append_assoc refl

module _ (file : List ℕ) (keys : List GroupKey) (sequence id : ℕ) (p : Planned) (taken : List SampleAt) (samples : List TimedSample) (apart : AreApart keys) (are_keys : AllByRecursion IsNamed keys) (few : length keys ≤ 4)
    (z : AreTaken file keys taken samples) (plan : IsPlanOf taken p) (small : 24 + traf_size p keys ≤ 2 ^ 30) where
  abbrev head : PieceHead
  head = head_of sequence id samples

  abbrev piece : Piece
  piece = record { id = id; samples = samples }

  -- what stands once
  shared_is : shared_of p ≡ shared_by samples
  shared_is =
      let d = plan.duration ∙ ap common (numbers_are file keys (λ a. a.duration) (λ s. s.sample.duration) (λ a s t. t.duration) taken samples z) in
      let s = plan.size ∙ ap common (numbers_are file keys (λ a. a.size) (λ t. length t.sample.bytes) (λ a t u. u.size) taken samples z) in
      let f = plan.flags ∙ ap common (numbers_are file keys (λ a. a.flags) (λ t. t.sample.flags) (λ a t u. u.flags) taken samples z) in
      let o = plan.has_offsets ∙ ap not (offsets_are file keys taken samples z) in
      λ i. record { duration = d i; size = s i; flags = f i; has_offsets = o i }

  count_is : p.count ≡ length samples
  count_is = plan.count ∙ taken_count file keys taken samples z

  small_groups : groups_size p.group_rows 0 keys ≤ 2 ^ 30
  small_groups = omega (arith, small)

  -- `tfhd`
  tfhd_is : tfhd_front head p (head_bits p) (tfhd_size p) ≡ tfhd_bytes piece
  unfolding tfhd_front head_bits
  tfhd_is =
      head_is id (first_description samples) p.duration p.size p.flags
      ∙ ap (λ (shared : Shared). box_bytes (codes "tfhd") (head_payload id (first_description samples) shared.duration shared.size shared.flags)) shared_is

  tfhd_long : length (tfhd_bytes piece) ≡ tfhd_size p
  unfolding tfhd_front head_bits
  tfhd_long = ap (λ (bs : List ℕ). length bs) (sym tfhd_is) ∙ head_length id (first_description samples) p.duration p.size p.flags

  -- `tfdt`
  tfdt_is : tfdt_front head.time ≡ box_bytes (codes "tfdt") (spelled (fields tfdt 1) (1 ∷ 0 ∷ first_time samples ∷ []))
  unfolding tfdt_front
  tfdt_is = refl

  -- `trun`
  trun_long : length (run_rows p (map row_seen taken)) ≡ row_size p * p.count
  trun_long = rows_length p (map row_seen taken) ∙ ap (λ n. row_size p * n) (rows_count taken ∙ sym plan.count)

  trun_is : (place : ℕ) → trun_front (run_bits p) p.count place (trun_size p) ++ run_rows p (map row_seen taken) ≡ trun_bytes place samples
  unfolding trun_front run_bits
  trun_is place =
      let rows = run_rows p (map row_seen taken) in
      let long = trun_long in
      let said = run_is p.duration p.size p.flags p.has_offsets p.count place in
      let size : trun_size p ≡ 8 + length (run_said p.duration p.size p.flags p.has_offsets p.count place ++ rows) = omega (arith, long) in
      run_joined (trun_size p) (big_bytes 4 (run_bits p)) (big_bytes 4 p.count) (big_bytes 4 place) rows
      ∙ box_is (codes "trun") (run_said p.duration p.size p.flags p.has_offsets p.count place ++ rows) (trun_size p) size
      ∙ (λ i. box_bytes (codes "trun") (said i ++ rows_are_written file keys p taken samples z i))
      ∙ (λ i. box_bytes (codes "trun") (run_front (shared_is i) (count_is i) place ++ flat_map (trun_row (shared_is i)) samples))

  trun_size_is : (place : ℕ) → length (trun_bytes place samples) ≡ trun_size p
  unfolding trun_front
  trun_size_is place =
      let long = trun_long in
      let whole = length-append (trun_front (run_bits p) p.count place (trun_size p)) (run_rows p (map row_seen taken)) in
      ap (λ (bs : List ℕ). length bs) (sym (trun_is place)) ∙ omega (arith, whole, long)

  -- the boxes of `traf`
  abbrev groups_written : List ℕ
  groups_written = flat_map (sbgp_bytes samples) (piece_keys samples)

  abbrev traf_payload : ℕ → List ℕ
  traf_payload place = tfhd_bytes piece ++ box_bytes (codes "tfdt") (spelled (fields tfdt 1) (1 ∷ 0 ∷ first_time samples ∷ [])) ++ trun_bytes place samples ++ groups_written

  traf_long : (place : ℕ) → traf_size p keys ≡ 8 + length (traf_payload place)
  traf_long place =
      let a = tfhd_bytes piece in
      let b = box_bytes (codes "tfdt") (spelled (fields tfdt 1) (1 ∷ 0 ∷ first_time samples ∷ [])) in
      let c = trun_bytes place samples in
      let la = tfhd_long in
      let lc = trun_size_is place in
      let lg = groups_long file keys p taken samples apart are_keys few z plan.rows small_groups in
      omega (arith, la, lc, lg, length-append (a ++ b ++ c) groups_written, length-append (a ++ b) c, length-append a b)

  -- `mfhd`
  mfhd_is : mfhd_front sequence ≡ box_bytes (codes "mfhd") (spelled (1 ∷ 3 ∷ 4 ∷ []) (0 ∷ 0 ∷ sequence ∷ []))
  unfolding mfhd_front
  mfhd_is = refl

  abbrev moof_payload : ℕ → ℕ → List ℕ
  moof_payload number place = box_bytes (codes "mfhd") (spelled (1 ∷ 3 ∷ 4 ∷ []) (0 ∷ 0 ∷ number ∷ [])) ++ traf_bytes place piece

  moof_long : (number place : ℕ) → 24 + traf_size p keys ≡ 8 + length (moof_payload number place)
  moof_long number place =
      let l = traf_long place in
      let m = length-append (box_bytes (codes "mfhd") (spelled (1 ∷ 3 ∷ 4 ∷ []) (0 ∷ 0 ∷ number ∷ []))) (traf_bytes place piece) in
      omega (arith, l, m)

  -- the `moof`
  moof_is : (place : ℕ) → front_said head p keys place ++ run_rows p (map row_seen taken) ++ groups_bytes (map row_seen taken) p keys ≡ moof_bytes sequence place piece
  moof_is place =
      let rows = run_rows p (map row_seen taken) in
      let groups = groups_bytes (map row_seen taken) p keys in
      let size_moof = box_front (codes "moof") (24 + traf_size p keys) in
      let size_traf = box_front (codes "traf") (traf_size p keys) in
      nested size_moof (mfhd_front sequence) size_traf (tfhd_front head p (head_bits p) (tfhd_size p)) (tfdt_front head.time) (trun_front (run_bits p) p.count place (trun_size p)) rows groups
      ∙ (λ i. size_moof ++ (mfhd_is i ++ (size_traf ++ (tfhd_is i ++ tfdt_is i ++ trun_is place i ++ groups_are file keys p taken samples apart are_keys few z plan.rows small_groups i))))
      ∙ ap (λ (bs : List ℕ). size_moof ++ (box_bytes (codes "mfhd") (spelled (1 ∷ 3 ∷ 4 ∷ []) (0 ∷ 0 ∷ sequence ∷ [])) ++ bs)) (box_is (codes "traf") (traf_payload place) (traf_size p keys) (traf_long place))
      ∙ box_is (codes "moof") (moof_payload sequence place) (24 + traf_size p keys) (moof_long sequence place)

  -- where the data lie
  place_is_that : (24 + traf_size p keys) + header_length p.bytes ≡ moof_length piece + header_length (length (data_of samples))
  place_is_that =
      let long : 24 + traf_size p keys ≡ moof_length piece = moof_long 0 0 ∙ (let l = box_long (moof_payload 0 0) in l) in
      let payload = plan.bytes ∙ sizes_are file keys taken samples z in
      λ i. long i + header_length (payload i)
    where
      box_long : (payload : List ℕ) → 8 + length payload ≡ length (box_bytes (codes "moof") payload)
      box_long payload = omega arith

  front_is : moof_front head p (moof_sizes p keys) ≡ front_said head p keys (moof_length piece + header_length (length (data_of samples)))
  unfolding moof_front
  front_is =
      let moof = short_is (24 + traf_size p keys) (24 + traf_size p keys) (omega arith) small in
      let traf = short_is (traf_size p keys) (24 + traf_size p keys) (omega arith) small in
      let trun = short_is (trun_size p) (24 + traf_size p keys) (omega arith) small in
      let tfhd = short_is (tfhd_size p) (24 + traf_size p keys) (omega arith) small in
      λ i. box_front (codes "moof") (moof i) ++ mfhd_front sequence ++ box_front (codes "traf") (traf i) ++ tfhd_front head p (head_bits p) (tfhd i) ++ tfdt_front head.time
      ++ trun_front (run_bits p) p.count (place_is_that i) (trun i)

  -- What is written is the piece.
  pub piece_is : piece_front head p keys (map row_seen taken) ++ sample_bytes file taken ≡ piece_bytes sequence piece
  piece_is =
      let place = moof_length piece + header_length (length (data_of samples)) in
      let payload = plan.bytes ∙ sizes_are file keys taken samples z in
      (λ i. front_is i ++ run_rows p (map row_seen taken) ++ groups_bytes (map row_seen taken) p keys ++ header_bytes (codes "mdat") (payload i) ++ bytes_are file keys taken samples z i)
      ∙ ap (λ (bs : List ℕ). bs ++ header_bytes (codes "mdat") (length (data_of samples)) ++ data_of samples) (moof_is place)

  -- It has so many bytes, whatever its sequence number.
  pub piece_long : (number : ℕ) → length (piece_bytes number piece) ≡ (moof_sizes p keys).moof + header_length p.bytes + p.bytes
  piece_long number =
      let bytes = data_of samples in
      let place = moof_length piece + header_length (length bytes) in
      let payload : p.bytes ≡ length bytes = plan.bytes ∙ sizes_are file keys taken samples z in
      joined_length (moof_bytes number place piece) (header_bytes (codes "mdat") (length bytes)) bytes (24 + traf_size p keys) (header_length p.bytes) p.bytes
      (sym (moof_long number place ∙ box_length (moof_payload number place))) (length-header_bytes (codes "mdat") (length bytes) refl ∙ ap header_length (sym payload)) (sym payload)

-- What is written of some samples and then their bytes is the piece of the normal form.
pub piece_is_spelled : PieceIsSpelled
piece_is_spelled file keys sequence id a more samples apart are_keys few z small =
    piece_is file keys sequence id (planned_of (gather_all None (a ∷ more))) (a ∷ more) samples apart are_keys few z (gathered_plan a more) small

-- So many bytes has the piece of the normal form, by what was gathered of its samples.
pub piece_length : (file : List ℕ) (keys : List GroupKey) (number id : ℕ) (a : SampleAt) (more : List SampleAt) (samples : List TimedSample) → AreApart keys → AllByRecursion IsNamed keys → length keys ≤ 4 → AreTaken file keys (a ∷ more) samples
    → (moof_sizes (planned_of (gather_all None (a ∷ more))) keys).moof ≤ 2 ^ 30 → (let p = planned_of (gather_all None (a ∷ more)) in length (piece_bytes number (record { id = id; samples = samples })) ≡ (moof_sizes p keys).moof + header_length p.bytes + p.bytes)
piece_length file keys number id a more samples apart are_keys few z small =
    piece_long file keys number id (planned_of (gather_all None (a ∷ more))) (a ∷ more) samples apart are_keys few z (gathered_plan a more) small number
