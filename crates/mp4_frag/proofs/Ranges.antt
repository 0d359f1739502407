-- What bytes say in movie fragments: runs of samples in their ranges, and groups of well-formed keys.
use Rattle.std.proofs.Common.{◌≡◌, ℕ, zero, suc, ◌+◌, ◌<◌, ◌^◌, Bool, true, false, cond, eqb, leb, List, [], ◌∷◌, length, drop, Option, Some, None, refl, sym, subst, arith, lit<}
use Rattle.std.specs.Prelude.{codes, map, find, ℤ, pos, ◌+ℤ◌, FitsSigned, IfSome, option_map, unwrap_or, slice_index, ◌&&◌, flat_map}
use Rattle.std.specs.Int.{w32}
use Rattle.std.specs.List.{AllByRecursion}
use Rattle.std.proofs.lemmas.Bool.{leb-false, or_parts}
use Rattle.mp4_boxes.specs.format.Bytes.{AreBytes, field, width_of}
use Rattle.mp4_boxes.specs.format.Box.{Box, box_container}
use Rattle.mp4_boxes.specs.format.Children.{payload_of, of_kind}
use Rattle.mp4_boxes.specs.format.Layout.{Column, trex, trun, sbgp, fields, row_count, version, flags, has, present, column_values, tfhd_columns, trun_columns, sample_columns, run_offsets, too_large, IsSound}
use Rattle.mp4_boxes.specs.format.Places.{ruled, AreSound}
use Rattle.mp4_boxes.specs.declared.rule.Rule.TheVariants as rules
use Rattle.mp4_boxes.proofs.Among.{all_append}
use Rattle.mp4_boxes.proofs.Each.{each_value, each_weaker, each_from, each_joined}
use Rattle.mp4_boxes.proofs.OfBytes.{IsOfBytes, field_below, numbers_fit, bytes_dropped, tiled_of_bytes, payload_of_bytes, payloads_of_bytes}
use Rattle.mp4_boxes.proofs.Sound.{sound_each}
use Rattle.mp4_tables.specs.format.Groups.{GroupKey, Grouping, maps_of}
use Rattle.mp4_tables.specs.format.Tables.{composition_offset}
use Rattle.mp4_tables.specs.format.PlainSamples.{PlacedSample}
use Rattle.mp4_tables.proofs.GroupMaps.{IsMap, KeepAll, keys_named}
use Rattle.mp4_tables.proofs.Placed.{IsPlaced, IsKey, IsIndex, grouped, offset_fits, keys_valid, groups_valid}
use Rattle.mp4_frag.specs.declared.trex.Trex.{Trex}
use Rattle.mp4_frag.specs.format.Fragments.{RunRow, SampleRun, TrackFragment, FragmentTree, IsFragmentTree, AreTrafs, column, run_rows, sample_run_of, track_fragment_of, trex_of, fragment_of}
use Rattle.mp4_frag.specs.format.FragmentSamples.{Part, inherited, flags_of, run_samples, run_start, end_of_data, runs_samples, runs_end, base_of, part_samples, trex_for, no_trex, parts_after, parts_of, all_parts}

-- ---- columns

-- the step of `value_below`, by whether the column is there
value_choice : (c : Column) (columns : List Column) (bits : ℕ) (bytes : List ℕ) (k : ℕ) (v : Bool) → AreBytes bytes
    → ((rest : List ℕ) (j : ℕ) → AreBytes rest → IfSome (column (column_values bits columns rest) j) (λ n. n < 256 ^ slice_index (map (λ (x : Column). x.width) columns) j))
    → IfSome (column (cond v (Some (field bytes 0 c.width) ∷ column_values bits columns (drop c.width bytes)) (None ∷ column_values bits columns bytes)) k) (λ n. n < 256 ^ slice_index (map (λ (x : Column). x.width) (c ∷ columns)) k)
value_choice c columns bits bytes zero true h more = field_below bytes 0 c.width h
value_choice c columns bits bytes (suc k) true h more = more (drop c.width bytes) k (bytes_dropped c.width bytes h)
value_choice c columns bits bytes zero false h more = tt
value_choice c columns bits bytes (suc k) false h more = more bytes k h

-- the number of a column is below what its width can't hold, if it is there
pub value_below : (columns : List Column) (bits : ℕ) (bytes : List ℕ) (k : ℕ) → AreBytes bytes → IfSome (column (column_values bits columns bytes) k) (λ n. n < 256 ^ slice_index (map (λ (c : Column). c.width) columns) k)
value_below [] bits bytes k h = tt
value_below (c ∷ columns) bits bytes k h = value_choice c columns bits bytes k (has bits c.flag) h (λ rest j r. value_below columns bits rest j r)

-- ---- runs

-- a number of 32 bits, if it is there
abbrev pub IsSmall : Option ℕ → Type 0
IsSmall o = IfSome o (λ n. n < 2 ^ 32)

-- the row of a sample: what it says is in its range
pub record IsRow (r : RunRow) : Type 0 where
  pub duration : IsSmall r.duration
  pub size : IsSmall r.size
  pub offset : IfSome r.offset (FitsSigned w32)

-- an offset that is not too large, if it is there
pub first_small : (o : Option ℕ) (os : List (Option ℕ)) → too_large (o ∷ os) ≡ false → IfSome o (λ n. n < 2 ^ 31) × (too_large os ≡ false)
first_small None os e = (tt, e)
first_small (Some n) os e = let p = or_parts (leb (2 ^ 31) n) (too_large os) e in (leb-false (2 ^ 31) n p.0, p.1)

-- an offset that is read from it fits
offset_small : (v : ℕ) (o : Option ℕ) → IsSmall o → (eqb v 0 ≡ true → IfSome o (λ n. n < 2 ^ 31)) → IfSome (option_map (composition_offset v) o) (FitsSigned w32)
offset_small v None h s = tt
offset_small v (Some n) h s = offset_fits v n h s

-- rows of a run are in their ranges
rows_small : (n v bits : ℕ) (bytes : List ℕ) → AreBytes bytes → (eqb v 0 ≡ true → too_large (run_offsets n bits bytes) ≡ false) → AllByRecursion IsRow (run_rows n v bits bytes)
rows_small zero v bits bytes h e = tt
rows_small (suc n) v bits bytes h e =
    let values = column_values bits sample_columns bytes in
    let width = width_of (present bits sample_columns) in
    let rest = run_offsets n bits (drop width bytes) in (
      record {
        duration = value_below sample_columns bits bytes 0 h;
        size = value_below sample_columns bits bytes 1 h;
        offset = offset_small v (column values 3) (value_below sample_columns bits bytes 3 h) (λ z. (first_small (column values 3) rest (e z)).0);
      },
      rows_small n v bits (drop width bytes) (bytes_dropped width bytes h) (λ z. (first_small (column values 3) rest (e z)).1),
    )

-- the second of two tests that do not both pass
only_in : (p q : Bool) → (p && q) ≡ false → p ≡ true → q ≡ false
only_in true q e h = e
only_in false q e h = absurd (cc)

-- so are those of a sound `trun`
run_small : (payload : List ℕ) → AreBytes payload → IsSound trun payload → AllByRecursion IsRow (sample_run_of payload).rows
run_small payload h s =
    let bits = flags payload in
    let place = 8 + width_of (present bits trun_columns) in
    rows_small (row_count trun payload) (version payload) bits (drop place payload) (bytes_dropped place payload h)
    (only_in (eqb (version payload) 0) (too_large (run_offsets (row_count trun payload) bits (drop place payload))) s.offsets)

-- a `traf`: its defaults and the rows of its runs are in their ranges, its keys are well formed
pub record IsTraf (t : TrackFragment) : Type 0 where
  pub duration : IfSome t.duration (λ n. n < 2 ^ 32)
  pub size : IfSome t.size (λ n. n < 2 ^ 32)
  pub runs : AllByRecursion (λ (r : SampleRun). AllByRecursion IsRow r.rows) t.runs
  pub keys : AllByRecursion (λ (g : Grouping). IsKey g.key) t.groups

-- a `traf` of bytes with sound leaves
traf_valid : (boxes : List Box) → AllByRecursion IsOfBytes boxes → AreSound (ruled rules.TrackFragment) boxes → IsTraf (track_fragment_of boxes)
traf_valid boxes h s =
    let head = payload_of (codes "tfhd") boxes in
    let rest = bytes_dropped 8 head (payload_of_bytes (codes "tfhd") boxes h) in
    let runs = of_kind (codes "trun") boxes in
    let groups = of_kind (codes "sbgp") boxes in
    let run_payloads = payloads_of_bytes (codes "trun") boxes h in
    let sound_runs = sound_each (ruled rules.TrackFragment) (codes "trun") trun refl boxes s in
    record {
      duration = value_below tfhd_columns (flags head) (drop 8 head) 2 rest;
      size = value_below tfhd_columns (flags head) (drop 8 head) 3 rest;
      runs = each_value (λ (b : Box). AreBytes b.payload × IsSound trun b.payload) (λ (r : SampleRun). AllByRecursion IsRow r.rows) (λ (b : Box). sample_run_of b.payload) (λ b k. run_small b.payload k.0 k.1) runs
          (each_from (λ (b : Box). AreBytes b.payload) (λ (b : Box). IsSound trun b.payload) (λ (b : Box). AreBytes b.payload × IsSound trun b.payload) (λ b x y. (x, y)) runs run_payloads sound_runs);
      keys = keys_valid groups (payloads_of_bytes (codes "sbgp") boxes h) (sound_each (ruled rules.TrackFragment) (codes "sbgp") sbgp refl boxes s);
    }

-- ---- samples

-- the defaults of a track are numbers of 32 bits
pub record IsTrex (t : Trex) : Type 0 where
  pub duration : t.duration < 2 ^ 32
  pub size : t.size < 2 ^ 32

-- a `trex` of bytes
pub trex_valid : (payload : List ℕ) → AreBytes payload → IsTrex (trex_of payload)
trex_valid payload h = let fit = numbers_fit (fields trex (version payload)) payload h in record { duration = fit 4; size = fit 5 }

-- the step of `found_each`
found_choice : {A : Type 0} (P : A → Type 0) (x : A) (o : Option A) (v : Bool) → P x → IfSome o P → IfSome (cond v (Some x) o) P
found_choice P x o true p h = p
found_choice P x o false p h = h

-- what is found is one of those of which all is so
pub found_each : {A : Type 0} (P : A → Type 0) (test : A → Bool) (xs : List A) → AllByRecursion P xs → IfSome (find test xs) P
found_each P test [] h = tt
found_each P test (x ∷ xs) h = found_choice P x (find test xs) (test x) h.0 (found_each P test xs h.1)

-- what is there, or something else, of which it is so
or_else : {A : Type 0} (P : A → Type 0) (o : Option A) (x : A) → IfSome o P → P x → P (unwrap_or o x)
or_else P None x h p = p
or_else P (Some y) x h p = h

-- the first of three numbers that is there
inherited_small : (own head : Option ℕ) (last : ℕ) → IsSmall own → IsSmall head → last < 2 ^ 32 → inherited own head last < 2 ^ 32
inherited_small (Some own) head last a b c = a
inherited_small None (Some head) last a b c = b
inherited_small None None last a b c = c

-- flags of a sample are below 2^28
flags_small : (first own head : Option ℕ) (last : ℕ) → flags_of first own head last < 2 ^ 28
flags_small (Some first) own head last = omega arith
flags_small None own head last = omega arith

-- a sample of a run, in its ranges, and in no group
abbrev pub IsOfRun : PlacedSample → Type 0
IsOfRun s = IsPlaced (λ d. Unit {0}) (λ groups. groups ≡ []) s

-- the samples of a run
run_placed : (defaults : Trex) (traf : TrackFragment) (first : Option ℕ) (at : ℤ) (rs : List RunRow) → IsTrex defaults → IsTraf traf → AllByRecursion IsRow rs → AllByRecursion IsOfRun (run_samples defaults traf first at rs)
run_placed defaults traf first at [] x t h = tt
run_placed defaults traf first at (r ∷ rs) x t h = (
  record {
    duration = inherited_small r.duration traf.duration defaults.duration h.0.duration t.duration x.duration;
    offset = or_else (FitsSigned w32) r.offset (pos 0) h.0.offset (record { sfits = lit< tt });
    flags = flags_small first r.flags traf.flags defaults.flags;
    description = tt;
    size = inherited_small r.size traf.size defaults.size h.0.size t.size x.size;
    groups = refl;
  },
  run_placed defaults traf None (at +ℤ pos (inherited r.size traf.size defaults.size)) rs x t h.1,
)

-- and of all runs
runs_placed : (defaults : Trex) (traf : TrackFragment) (base before : ℤ) (runs : List SampleRun) → IsTrex defaults → IsTraf traf → AllByRecursion (λ (r : SampleRun). AllByRecursion IsRow r.rows) runs
    → AllByRecursion (AllByRecursion IsOfRun) (runs_samples defaults traf base before runs)
runs_placed defaults traf base before [] x t h = tt
runs_placed defaults traf base before (run ∷ runs) x t h =
    let at = run_start base before run.data_offset in (
      run_placed defaults traf run.first_sample_flags at run.rows x t h.0,
      runs_placed defaults traf base (end_of_data at (run_samples defaults traf run.first_sample_flags at run.rows)) runs x t h.1,
    )

-- a `traf` as what it says: its samples are in their ranges, its keys are well formed
pub record IsPart (part : Part) : Type 0 where
  pub runs : AllByRecursion (AllByRecursion IsOfRun) part.runs
  pub keys : AllByRecursion (λ (g : Grouping). IsKey g.key) part.groups

-- the parts of `traf`s in their ranges
parts_valid : (trexes : List Trex) (moof : ℕ) (before : ℤ) (trafs : List TrackFragment) → AllByRecursion IsTrex trexes → AllByRecursion IsTraf trafs → AllByRecursion IsPart (parts_after trexes moof before trafs)
parts_valid trexes moof before [] x h = tt
parts_valid trexes moof before (traf ∷ trafs) x h =
    let defaults = unwrap_or (trex_for trexes traf.id) no_trex in
    let base = base_of moof before traf in
    let is_trex = or_else IsTrex (trex_for trexes traf.id) no_trex (found_each IsTrex (λ (t : Trex). eqb t.id traf.id) trexes x) (record { duration = lit< tt; size = lit< tt }) in
    (record { runs = runs_placed defaults traf base base traf.runs is_trex h.0 h.0.runs; keys = h.0.keys }, parts_valid trexes moof (runs_end defaults traf base base traf.runs) trafs x h.1)

-- ---- trees

-- the boxes in `traf`s
pub trafs_of_bytes : (bs : List Box) (lists : List (List Box)) → AllByRecursion (λ (b : Box). AreBytes b.payload) bs → AreTrafs bs lists → AllByRecursion (AllByRecursion IsOfBytes) lists
trafs_of_bytes [] [] h z = tt
trafs_of_bytes [] (boxes ∷ lists) h z = absurd z
trafs_of_bytes (b ∷ bs) [] h z = tt
trafs_of_bytes (b ∷ bs) (boxes ∷ lists) h z = (tiled_of_bytes (box_container b) boxes h.0 z.0.tiles, trafs_of_bytes bs lists h.1 z.1)

-- the `traf`s of a `moof` of bytes
fragment_valid : (t : FragmentTree) → AreBytes t.moof.payload → IsFragmentTree t → AllByRecursion (AreSound (ruled rules.TrackFragment)) t.trafs → AllByRecursion IsTraf (fragment_of t).trafs
fragment_valid t h k s =
    let children = tiled_of_bytes (box_container t.moof) t.children h k.children.tiles in
    let trafs = trafs_of_bytes (of_kind (codes "traf") t.children) t.trafs (payloads_of_bytes (codes "traf") t.children children) k.trafs in
    each_value (λ (boxes : List Box). AllByRecursion IsOfBytes boxes × AreSound (ruled rules.TrackFragment) boxes) IsTraf track_fragment_of (λ boxes x. traf_valid boxes x.0 x.1) t.trafs
    (each_from (AllByRecursion IsOfBytes) (AreSound (ruled rules.TrackFragment)) (λ (boxes : List Box). AllByRecursion IsOfBytes boxes × AreSound (ruled rules.TrackFragment) boxes) (λ boxes x y. (x, y)) t.trafs trafs s)

-- The parts of fragments of bytes are in their ranges.
pub fragments_valid : (trexes : List Trex) (ts : List FragmentTree) → AllByRecursion IsTrex trexes → AllByRecursion (λ (b : Box). AreBytes b.payload) (map (λ (t : FragmentTree). t.moof) ts) → AllByRecursion IsFragmentTree ts
    → AllByRecursion (λ (t : FragmentTree). AllByRecursion (AreSound (ruled rules.TrackFragment)) t.trafs) ts → AllByRecursion IsPart (all_parts trexes (map fragment_of ts))
fragments_valid trexes [] x h k s = tt
fragments_valid trexes (t ∷ ts) x h k s =
    all_append IsPart (parts_of trexes (fragment_of t)) (all_parts trexes (map fragment_of ts))
    (parts_valid trexes t.moof.offset (pos t.moof.offset) (fragment_of t).trafs x (fragment_valid t h.0 k.0 s.0)) (fragments_valid trexes ts x h.1 k.1 s.1)

-- The samples of such a part are in their ranges, in groups of the keys that it names, where its `sbgp`s keep the rules.
pub part_placed : (keys : List GroupKey) (part : Part) → IsPart part → KeepAll (length (part_samples part)) keys part.groups
    → AllByRecursion (IsPlaced (λ d. Unit {0}) (IsMap IsIndex (keys_named part.groups))) (part_samples part)
part_placed keys part h k =
    let samples = flat_map (λ samples. samples) part.runs in
    let M = IsMap IsIndex (keys_named part.groups) in
    let flat : AllByRecursion IsOfRun samples = each_joined (AllByRecursion IsOfRun) IsOfRun (λ samples. samples) (λ run x. x) part.runs h.runs in
    grouped (λ d. Unit {0}) M (maps_of (length samples) part.groups) samples (groups_valid (length samples) (length (part_samples part)) keys part.groups k h.keys)
    (each_weaker IsOfRun (IsPlaced (λ d. Unit {0}) M)
    (λ s x. record { duration = x.duration; offset = x.offset; flags = x.flags; description = tt; size = x.size; groups = subst M (sym x.groups) (record { order = tt; each = tt; named = tt }) }) samples flat)
