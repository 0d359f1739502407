-- The `moof` of a piece: its tree, what it says, and how long it is.
use Rattle.std.proofs.Common.{◌≡◌, ℕ, ◌+◌, ◌*◌, ◌^◌, ◌<◌, ◌≤◌, Bool, true, false, cond, eqb, List, [], ◌∷◌, ◌++◌, length, refl, sym, ap, ◌∙◌, arith, length-append, mul-le-mul_right}
use Rattle.std.specs.Prelude.{codes, map, flat_map}
use Rattle.std.specs.List.{AllByRecursion}
use Rattle.std.proofs.lemmas.List.{append-nil, length-map}
use Rattle.mp4_boxes.specs.format.Bytes.{spelled}
use Rattle.mp4_boxes.specs.format.Written.{box_bytes}
use Rattle.mp4_boxes.specs.format.Places.{ruled, leaf_of, IsSoundAs}
use Rattle.mp4_boxes.specs.declared.rule.Rule.TheVariants as rules
use Rattle.mp4_boxes.proofs.Among.{all_append}
use Rattle.mp4_boxes.proofs.Joined.{all_first, all_last}
use Rattle.mp4_boxes.proofs.WrittenBoxes.{Content, written, placed, typed, length-box_bytes}
use Rattle.mp4_boxes.proofs.Plain.{append_four}
use Rattle.mp4_tables.specs.format.Groups.{GroupKey, Groups, groupings_of, index_at, key_rank, is_in_order, max_index}
use Rattle.mp4_tables.proofs.NamedKeys.{IsAmong}
use Rattle.mp4_present.specs.format.Presentation.{IsGroup}
use Rattle.mp4_content.specs.format.TimedSamples.{TimedSample}
use Rattle.mp4_plan.specs.format.Pieces.{Piece}
use Rattle.mp4_plan.specs.format.Normal.{shared_by, first_time, first_description, piece_keys, longest_runs, tfhd_bytes, trun_bytes, sbgp_bytes, traf_bytes, moof_bytes, moof_length}
use Rattle.mp4_plan.proofs.Maps.{Covers}
use Rattle.mp4_plan.specs.format.TableLaws.{IsKey}
use Rattle.mp4_plan.proofs.KeyOrder.{key_of_group, order_rises, order_each, order_has, covers, AreRising}
use Rattle.mp4_plan.proofs.RunRows.{FitsRow}
use Rattle.mp4_plan.proofs.WrittenGroups.{group_payload, ReadsGroup, group_again, few_runs, runs_within, indexes_at, grouped_by}
use Rattle.mp4_plan.proofs.WrittenRun.{run_payload, run_short, HeadFlags, head_flags_are, head_payload, head_short, time_payload, common_has}

-- ---- what a piece that can be written has

-- the groups of a sample are in order and in range
pub record HasGroups (s : TimedSample) : Type 0 where
  pub each : AllByRecursion IsGroup s.sample.groups
  pub order : is_in_order s.sample.groups ≡ true

-- numbers that fit, few samples, few keys
pub record IsWritablePiece (piece : Piece) : Type 0 where
  pub id : piece.id < 256 ^ 4
  pub few : length piece.samples ≤ 2 ^ 24
  pub rows : AllByRecursion FitsRow piece.samples
  pub description : first_description piece.samples < 256 ^ 4
  pub time : first_time piece.samples < 256 ^ 8
  pub groups : AllByRecursion HasGroups piece.samples
  pub keys : length (piece_keys piece.samples) ≤ 4

-- ---- contents

-- the `sbgp`s of samples at some keys
abbrev pub keyed_contents : List TimedSample → List GroupKey → List Content
keyed_contents samples keys = map (λ (key : GroupKey). typed (codes "sbgp") (group_payload key (longest_runs (indexes_at samples key)))) keys

-- the payload of the `tfhd`
abbrev pub tfhd_payload : Piece → List ℕ
tfhd_payload piece = let shared = shared_by piece.samples in head_payload piece.id (first_description piece.samples) shared.duration shared.size shared.flags

-- what stands in front of the `sbgp`s
abbrev pub traf_front : ℕ → Piece → List Content
traf_front data_offset piece =
    typed (codes "tfhd") (tfhd_payload piece) ∷ typed (codes "tfdt") (time_payload (first_time piece.samples)) ∷ typed (codes "trun") (run_payload data_offset (shared_by piece.samples) piece.samples) ∷ []

-- the `sbgp`s of a piece
abbrev pub traf_groups : Piece → List Content
traf_groups piece = keyed_contents piece.samples (piece_keys piece.samples)

-- what the `traf` holds
abbrev pub traf_contents : ℕ → Piece → List Content
traf_contents data_offset piece = traf_front data_offset piece ++ traf_groups piece

-- the payload of the `traf`
abbrev pub traf_payload : ℕ → Piece → List ℕ
traf_payload data_offset piece =
    tfhd_bytes piece
    ++ box_bytes (codes "tfdt") (time_payload (first_time piece.samples))
    ++ trun_bytes data_offset piece.samples
    ++ flat_map (sbgp_bytes piece.samples) (piece_keys piece.samples)

-- the payload of the `mfhd`
abbrev pub mfhd_payload : ℕ → List ℕ
mfhd_payload sequence = spelled (1 ∷ 3 ∷ 4 ∷ []) (0 ∷ 0 ∷ sequence ∷ [])

-- what the `moof` holds
abbrev pub moof_contents : ℕ → ℕ → Piece → List Content
moof_contents sequence data_offset piece = typed (codes "mfhd") (mfhd_payload sequence) ∷ typed (codes "traf") (traf_payload data_offset piece) ∷ []

-- the payload of the `moof`
abbrev pub moof_payload : ℕ → ℕ → Piece → List ℕ
moof_payload sequence data_offset piece = box_bytes (codes "mfhd") (mfhd_payload sequence) ++ traf_bytes data_offset piece

-- `sbgp`s are written as their contents
groups_written : (samples : List TimedSample) (keys : List GroupKey) → flat_map (sbgp_bytes samples) keys ≡ written (keyed_contents samples keys)
groups_written samples [] = refl
groups_written samples (key ∷ keys) = ap (λ (l : List ℕ). sbgp_bytes samples key ++ l) (groups_written samples keys)

-- a `traf` is written as its contents
pub traf_written : (data_offset : ℕ) (piece : Piece) → traf_payload data_offset piece ≡ written (traf_contents data_offset piece)
traf_written data_offset piece =
    let tfhd = tfhd_bytes piece in
    let time = box_bytes (codes "tfdt") (time_payload (first_time piece.samples)) in
    let run = trun_bytes data_offset piece.samples in
    append_four tfhd time run (flat_map (sbgp_bytes piece.samples) (piece_keys piece.samples))
    ∙ ap (λ (l : List ℕ). tfhd ++ (time ++ (run ++ l))) (groups_written piece.samples (piece_keys piece.samples))

-- a `moof` is written as its contents
pub moof_written : (sequence data_offset : ℕ) (piece : Piece) → moof_payload sequence data_offset piece ≡ written (moof_contents sequence data_offset piece)
moof_written sequence data_offset piece = ap (λ (l : List ℕ). box_bytes (codes "mfhd") (mfhd_payload sequence) ++ l) (sym (append-nil (traf_bytes data_offset piece)))

-- what holds of the type holds of each `sbgp`
pub all_keyed : (P : List ℕ → Type 0) (samples : List TimedSample) (keys : List GroupKey) → P (codes "sbgp") → AllByRecursion (λ (k : Content). P k.kind) (keyed_contents samples keys)
all_keyed P samples [] h = tt
all_keyed P samples (key ∷ keys) h = (h, all_keyed P samples keys h)

-- ---- keys and indexes of a piece

-- the index at a key is in range
index_within : (key : GroupKey) (groups : Groups) → AllByRecursion IsGroup groups → index_at key groups ≤ max_index
index_within key [] h = omega arith
index_within key (group ∷ groups) h = by_test (eqb (key_rank key) (key_rank group.0)) h.0.index (index_within key groups h.1)
  where
    by_test : (v : Bool) → group.1 ≤ max_index → index_at key groups ≤ max_index → cond v group.1 (index_at key groups) ≤ max_index
    by_test true l m = l
    by_test false l m = m

-- the indexes of samples are in range
pub indexes_within : (samples : List TimedSample) (key : GroupKey) → AllByRecursion HasGroups samples → AllByRecursion (λ (index : ℕ). index ≤ max_index) (indexes_at samples key)
indexes_within [] key h = tt
indexes_within (s ∷ samples) key h = (index_within key s.sample.groups h.0.each, indexes_within samples key h.1)

-- the keys of a map are keys
keys_valid : (groups : Groups) → AllByRecursion IsGroup groups → AllByRecursion IsKey (map (λ (group : GroupKey × ℕ). group.0) groups)
keys_valid [] h = tt
keys_valid (group ∷ groups) h = (key_of_group group h.0, keys_valid groups h.1)

-- the keys that samples name
abbrev pub keys_in : List TimedSample → List GroupKey
keys_in samples = flat_map (λ (s : TimedSample). map (λ (group : GroupKey × ℕ). group.0) s.sample.groups) samples

-- those of all samples are
all_keys_valid : (samples : List TimedSample) → AllByRecursion HasGroups samples → AllByRecursion IsKey (keys_in samples)
all_keys_valid [] h = tt
all_keys_valid (s ∷ samples) h = all_append IsKey (map (λ (group : GroupKey × ℕ). group.0) s.sample.groups) (keys_in samples) (keys_valid s.sample.groups h.0.each) (all_keys_valid samples h.1)

-- The keys of a piece are keys.
pub piece_keys_valid : (samples : List TimedSample) → AllByRecursion HasGroups samples → AllByRecursion IsKey (piece_keys samples)
piece_keys_valid samples h = order_each IsKey (keys_in samples) (all_keys_valid samples h)

-- keys among others, in a map
groups_among : (keys : List GroupKey) (groups : Groups) → AllByRecursion (IsAmong keys) (map (λ (group : GroupKey × ℕ). group.0) groups) → AllByRecursion (λ (group : GroupKey × ℕ). IsAmong keys group.0) groups
groups_among keys [] h = tt
groups_among keys (group ∷ groups) h = (h.0, groups_among keys groups h.1)

-- keys cover the maps of samples whose keys they are
samples_covered : (keys : List GroupKey) (order : AllByRecursion IsKey keys) (rises : AreRising keys) (samples : List TimedSample) → AllByRecursion HasGroups samples → AllByRecursion (IsAmong keys) (keys_in samples)
    → AllByRecursion (λ (s : TimedSample). Covers keys s.sample.groups) samples
samples_covered keys order rises [] h a = tt
samples_covered keys order rises (s ∷ samples) h a =
    let own = map (λ (group : GroupKey × ℕ). group.0) s.sample.groups in
    let first = all_first (IsAmong keys) own (keys_in samples) a in
    let others = all_last (IsAmong keys) own (keys_in samples) a in
    (covers keys s.sample.groups rises order h.0.order h.0.each (groups_among keys s.sample.groups first), samples_covered keys order rises samples h.1 others)

-- The keys of a piece cover the maps of its samples.
pub piece_covered : (samples : List TimedSample) → AllByRecursion HasGroups samples → AllByRecursion (λ (s : TimedSample). Covers (piece_keys samples) s.sample.groups) samples
piece_covered samples h = samples_covered (piece_keys samples) (piece_keys_valid samples h) (order_rises (keys_in samples)) samples h (order_has (keys_in samples))

-- what samples have in common fits
durations_fit : (samples : List TimedSample) → AllByRecursion FitsRow samples → AllByRecursion (λ n. n < 256 ^ 4) (map (λ (s : TimedSample). s.sample.duration) samples)
durations_fit [] h = tt
durations_fit (s ∷ samples) h = (h.0.duration, durations_fit samples h.1)

-- so do the sizes
sizes_fit : (samples : List TimedSample) → AllByRecursion FitsRow samples → AllByRecursion (λ n. n < 256 ^ 4) (map (λ (s : TimedSample). length s.sample.bytes) samples)
sizes_fit [] h = tt
sizes_fit (s ∷ samples) h = (h.0.size, sizes_fit samples h.1)

-- so do the flags
flags_fit : (samples : List TimedSample) → AllByRecursion FitsRow samples → AllByRecursion (λ n. n < 256 ^ 4) (map (λ (s : TimedSample). s.sample.flags) samples)
flags_fit [] h = tt
flags_fit (s ∷ samples) h = (h.0.flags, flags_fit samples h.1)

-- ---- each `sbgp`

-- the `sbgp` that is written at a key is read again
pub keyed_again : (samples : List TimedSample) (key : GroupKey) → length samples ≤ 2 ^ 24 → AllByRecursion HasGroups samples → IsKey key → ReadsGroup key (longest_runs (indexes_at samples key))
keyed_again samples key few h k =
    let many = length-map samples (λ (s : TimedSample). index_at key s.sample.groups) in
    let runs = few_runs (indexes_at samples key) in
    group_again key (longest_runs (indexes_at samples key)) k (omega arith) (runs_within (indexes_at samples key) (omega arith) (indexes_within samples key h))

-- the groupings of all
pub groups_say : (at : ℕ) (samples : List TimedSample) (keys : List GroupKey) → length samples ≤ 2 ^ 24 → AllByRecursion HasGroups samples → AllByRecursion IsKey keys
    → groupings_of (placed at (keyed_contents samples keys)) ≡ map (grouped_by samples) keys
groups_say at samples [] few h k = refl
groups_say at samples (key ∷ keys) few h k =
    let one = (keyed_again samples key few h k.0).again in
    let others = groups_say (at + (8 + length (group_payload key (longest_runs (indexes_at samples key))))) samples keys few h k.1 in
    λ i. one i ∷ others i

-- they are sound
pub groups_sound : (samples : List TimedSample) (keys : List GroupKey) → length samples ≤ 2 ^ 24 → AllByRecursion HasGroups samples → AllByRecursion IsKey keys
    → AllByRecursion (λ (k : Content). IsSoundAs (leaf_of (ruled rules.TrackFragment) k.kind) k.payload) (keyed_contents samples keys)
groups_sound samples [] few h k = tt
groups_sound samples (key ∷ keys) few h k = ((keyed_again samples key few h k.0).sound, groups_sound samples keys few h k.1)

-- how many bytes they take
groups_short : (samples : List TimedSample) (keys : List GroupKey) → length samples ≤ 2 ^ 24 → AllByRecursion HasGroups samples → AllByRecursion IsKey keys
    → length (flat_map (sbgp_bytes samples) keys) ≤ length keys * (24 + 8 * 2 ^ 24)
groups_short samples [] few h k = omega arith
groups_short samples (key ∷ keys) few h k =
    let payload = group_payload key (longest_runs (indexes_at samples key)) in
    let long = (keyed_again samples key few h k.0).long in
    let many = length-map samples (λ (s : TimedSample). index_at key s.sample.groups) in
    let runs = few_runs (indexes_at samples key) in
    let others = groups_short samples keys few h k.1 in
    omega (arith, length-append (sbgp_bytes samples key) (flat_map (sbgp_bytes samples) keys), length-box_bytes (codes "sbgp") payload refl)

-- ---- the piece

module _ (piece : Piece) (h : IsWritablePiece piece) where
  -- the flags of its `tfhd`
  pub the_flags : HeadFlags (first_description piece.samples) (shared_by piece.samples).duration (shared_by piece.samples).size (shared_by piece.samples).flags
  the_flags = head_flags_are (first_description piece.samples) (shared_by piece.samples).duration (shared_by piece.samples).size (shared_by piece.samples).flags h.description
      (common_has (λ n. n < 256 ^ 4) (map (λ (s : TimedSample). s.sample.duration) piece.samples) (durations_fit piece.samples h.rows))
      (common_has (λ n. n < 256 ^ 4) (map (λ (s : TimedSample). length s.sample.bytes) piece.samples) (sizes_fit piece.samples h.rows))
      (common_has (λ n. n < 256 ^ 4) (map (λ (s : TimedSample). s.sample.flags) piece.samples) (flags_fit piece.samples h.rows))

  -- its `traf` is short
  pub traf_short : (data_offset : ℕ) → data_offset < 2 ^ 31 → length (traf_payload data_offset piece) ≤ 168 + 48 * 2 ^ 24
  traf_short data_offset near =
      let few = h.few in
      let four = h.keys in
      let tfhd = head_short piece.id (first_description piece.samples) (shared_by piece.samples).duration (shared_by piece.samples).size (shared_by piece.samples).flags h.id the_flags in
      let run = run_short data_offset (shared_by piece.samples) piece.samples near (omega arith) h.rows in
      let groups = groups_short piece.samples (piece_keys piece.samples) h.few h.groups (piece_keys_valid piece.samples h.groups) in
      let scaled : length (piece_keys piece.samples) * (24 + 8 * 2 ^ 24) ≤ 4 * (24 + 8 * 2 ^ 24) = mul-le-mul_right (24 + 8 * 2 ^ 24) four in
      let time = box_bytes (codes "tfdt") (time_payload (first_time piece.samples)) in
      omega (
        arith,
        tfhd,
        run,
        groups,
        scaled,
        length-append (tfhd_bytes piece ++ time ++ trun_bytes data_offset piece.samples) (flat_map (sbgp_bytes piece.samples) (piece_keys piece.samples)),
        length-append (tfhd_bytes piece ++ time) (trun_bytes data_offset piece.samples),
        length-append (tfhd_bytes piece) time,
        length-box_bytes (codes "tfhd") (tfhd_payload piece) refl,
        length-box_bytes (codes "tfdt") (time_payload (first_time piece.samples)) refl,
        length-box_bytes (codes "trun") (run_payload data_offset (shared_by piece.samples) piece.samples) refl,
      )

  -- how long its `moof` is
  pub moof_is : (sequence data_offset : ℕ) → length (moof_bytes sequence data_offset piece) ≡ 32 + length (traf_payload data_offset piece)
  moof_is sequence data_offset = omega (
    arith,
    length-box_bytes (codes "moof") (moof_payload sequence data_offset piece) refl,
    length-append (box_bytes (codes "mfhd") (mfhd_payload sequence)) (traf_bytes data_offset piece),
    length-box_bytes (codes "mfhd") (mfhd_payload sequence) refl,
    length-box_bytes (codes "traf") (traf_payload data_offset piece) refl,
  )

  -- A `moof` is short.
  pub moof_short : (sequence data_offset : ℕ) → data_offset < 2 ^ 31 → length (moof_bytes sequence data_offset piece) < 2 ^ 30
  moof_short sequence data_offset near = omega (arith, moof_is sequence data_offset, traf_short data_offset near)

  -- the length of a `traf` does not hang on its data_offset
  traf_same : (data_offset : ℕ) → length (traf_payload data_offset piece) ≡ length (traf_payload 0 piece)
  traf_same data_offset =
      let time = box_bytes (codes "tfdt") (time_payload (first_time piece.samples)) in
      let run : length (trun_bytes data_offset piece.samples) ≡ length (trun_bytes 0 piece.samples) = refl in
      let groups = flat_map (sbgp_bytes piece.samples) (piece_keys piece.samples) in
      omega (
        arith,
        run,
        length-append (tfhd_bytes piece ++ time ++ trun_bytes data_offset piece.samples) groups,
        length-append (tfhd_bytes piece ++ time) (trun_bytes data_offset piece.samples),
        length-append (tfhd_bytes piece ++ time ++ trun_bytes 0 piece.samples) groups,
        length-append (tfhd_bytes piece ++ time) (trun_bytes 0 piece.samples),
      )

  -- Its length does not hang on its sequence number or its data_offset.
  pub moof_same : (sequence data_offset : ℕ) → length (moof_bytes sequence data_offset piece) ≡ moof_length piece
  moof_same sequence data_offset = omega (arith, moof_is sequence data_offset, moof_is 0 0, traf_same data_offset)
