-- What bytes say in the tables of a track: sizes, times and flags of samples in their ranges, and groups of well-formed keys.
use Rattle.std.proofs.Common.{◌≡◌, ℕ, zero, suc, ◌+◌, ◌<◌, ◌≤◌, ◌^◌, Bool, true, false, cond, eqb, leb, List, [], ◌∷◌, length, take, drop, replicate, Option, Some, None, refl, sym, subst, arith, inl, inr, lit<, lit≤}
use Rattle.std.specs.Prelude.{◌/◌, codes, map, ℤ, pos, ◌+ℤ◌, FitsSigned, IfSome, IsTrue, option_map, unwrap_or, slice_index, ◌&&◌}
use Rattle.std.specs.Int.{w32}
use Rattle.std.specs.List.{AllByRecursion, list_any}
use Rattle.std.proofs.lemmas.List.{length-take, length-drop}
use Rattle.std.proofs.lemmas.Bool.{eqb-true, leb-false, or_cases, or_parts, cond_both, not-false}
use Rattle.byteorder.specs.Endian.{twos_complement}
use Rattle.mp4_boxes.specs.format.Bytes.{AreBytes, field, rows, width_of}
use Rattle.mp4_boxes.specs.format.Box.{Box}
use Rattle.mp4_boxes.specs.format.Children.{payload_if, payload_of, of_kind}
use Rattle.mp4_boxes.specs.format.Layout.{stts, ctts, stsz, stz2, sbgp, fields, row_count, rows_size, version, flags, leaf_rows, size_bits, is_size_bits, too_large, IsSound}
use Rattle.mp4_boxes.specs.format.Places.{ruled, AreSound}
use Rattle.mp4_boxes.specs.declared.rule.Rule.TheVariants.{SampleTable}
use Rattle.mp4_boxes.proofs.Among.{all_append}
use Rattle.mp4_boxes.proofs.Each.{each_tested, each_value, each_weaker, each_from, each_taken, each_dropped, each_again}
use Rattle.mp4_boxes.proofs.OfBytes.{IsOfBytes, FitsRow, rows_fit, field_below, signed_32, bytes_dropped, bytes_taken, payload_of_bytes, payload_if_of_bytes, payloads_of_bytes}
use Rattle.mp4_boxes.proofs.Sound.{sound_if, sound_each}
use Rattle.mp4_tables.specs.format.Repeated.{repeated}
use Rattle.mp4_tables.specs.format.Groups.{GroupKey, Grouping, Groups, key_of, groupings_of, maps_of, max_index}
use Rattle.mp4_tables.specs.format.Tables.{ChunkRow, tables_of, sample_count, first_number, composition_offset, sizes_of, half_bytes, sample_sizes_of, durations_of, offsets_of}
use Rattle.mp4_tables.specs.format.PlainSamples.{PlacedSample, Spot, with_groups, row_of_chunk, laid_out, in_chunks, non_sync, flags_from, joined, spots_of, plain_samples}
use Rattle.mp4_tables.specs.format.TableRules.{Surroundings, Fit, table_group, description_indexes, is_index}
use Rattle.mp4_tables.proofs.GroupMaps.{IsMap, KeepAll, keys_named, repeated_each, maps_valid}

-- ---- samples

-- A sample in its ranges, of which the description and the groups have properties.
pub record IsPlaced (D : ℕ → Type 0) (M : Groups → Type 0) (s : PlacedSample) : Type 0 where
  pub duration : s.duration < 2 ^ 32
  pub offset : FitsSigned w32 s.offset
  pub flags : s.flags < 2 ^ 28
  pub description : D s.description
  pub size : s.size < 2 ^ 32
  pub groups : M s.groups

-- with their groups they are still in their ranges
pub grouped : (D : ℕ → Type 0) (M : Groups → Type 0) (maps : List Groups) (samples : List PlacedSample) → AllByRecursion M maps → AllByRecursion (IsPlaced D M) samples → AllByRecursion (IsPlaced D M) (with_groups maps samples)
grouped D M [] [] m h = tt
grouped D M (g ∷ maps) [] m h = tt
grouped D M [] (s ∷ samples) m h = h
grouped D M (g ∷ maps) (s ∷ samples) m h =
    (record { duration = h.0.duration; offset = h.0.offset; flags = h.0.flags; description = h.0.description; size = h.0.size; groups = m.0 }, grouped D M maps samples m.1 h.1)

-- where a sample lies: its size fits, and its description has the property
abbrev IsSpot : (ℕ → Type 0) → Spot → Type 0
IsSpot D spot = (spot.size < 2 ^ 32) × D spot.description

-- samples from lists of parts that are in their ranges
joined_placed : (D : ℕ → Type 0) (M : Groups → Type 0) → M [] → (durations : List ℕ) (offsets : List ℤ) (flags : List ℕ) (spots : List Spot) → AllByRecursion (λ n. n < 2 ^ 32) durations → AllByRecursion (FitsSigned w32) offsets
    → AllByRecursion (λ n. n < 2 ^ 28) flags → AllByRecursion (IsSpot D) spots → AllByRecursion (IsPlaced D M) (joined durations offsets flags spots)
joined_placed D M m [] offsets flags spots a b c d = tt
joined_placed D M m (x ∷ durations) [] flags spots a b c d = tt
joined_placed D M m (x ∷ durations) (y ∷ offsets) [] spots a b c d = tt
joined_placed D M m (x ∷ durations) (y ∷ offsets) (z ∷ flags) [] a b c d = tt
joined_placed D M m (x ∷ durations) (y ∷ offsets) (z ∷ flags) (spot ∷ spots) a b c d =
    (record { duration = a.0; offset = b.0; flags = c.0; description = d.0.1; size = d.0.0; groups = m }, joined_placed D M m durations offsets flags spots a.1 b.1 c.1 d.1)

-- ---- sizes

abbrev AreSizes : List ℕ → Type 0
AreSizes sizes = AllByRecursion (λ n. n < 2 ^ 32) sizes

-- first numbers of rows of one field
first_numbers : (n width : ℕ) (bytes : List ℕ) → ((m : ℕ) → m < 256 ^ width → m < 2 ^ 32) → AreBytes bytes → AreSizes (map first_number (rows n (width ∷ []) bytes))
first_numbers n width bytes below h = each_value (FitsRow (width ∷ [])) (λ m. m < 2 ^ 32) first_number (λ r f. below (first_number r) (f 0)) (rows n (width ∷ []) bytes) (rows_fit n (width ∷ []) bytes h)

-- sizes of 32 bits fit
plain_sizes : (payload : List ℕ) → AreBytes payload → AreSizes (sizes_of payload)
plain_sizes payload h =
    cond_both (eqb (field payload 4 4) 0) (map first_number (leaf_rows stsz payload)) (replicate (sample_count payload) (field payload 4 4)) AreSizes
    (λ e. first_numbers (row_count stsz payload) 4 (drop (width_of (fields stsz (version payload))) payload) (λ m k. k) (bytes_dropped (width_of (fields stsz (version payload))) payload h))
    (λ e. each_again (λ n. n < 2 ^ 32) (sample_count payload) (field payload 4 4) (field_below payload 4 4 h))

-- half bytes do
halves_small : (n : ℕ) (bytes : List ℕ) → AreBytes bytes → AreSizes (half_bytes n bytes)
halves_small zero bytes h = tt
halves_small (suc zero) bytes h = let b : field bytes 0 1 < 256 = field_below bytes 0 1 h in (omega arith, tt)
halves_small (suc (suc n)) bytes h =
    let b : field bytes 0 1 < 256 = field_below bytes 0 1 h in
    (omega arith, (omega arith, halves_small n (drop 1 bytes) (bytes_dropped 1 bytes h)))

-- so do compact ones of 4, 8 or 16 bits
of_bits : (bits n : ℕ) (bytes : List ℕ) → is_size_bits bits ≡ true → AreBytes bytes → AreSizes (cond (eqb bits 4) (half_bytes n bytes) (map first_number (rows n (bits / 8 ∷ []) bytes)))
of_bits bits n bytes e h = elim (or_cases (eqb bits 4) _ e) [
  | inl four ↦ subst (λ (k : ℕ). AreSizes (cond (eqb k 4) (half_bytes n bytes) (map first_number (rows n (k / 8 ∷ []) bytes)))) (sym (eqb-true bits 4 four)) (halves_small n bytes h)
  | inr more ↦ elim (or_cases (eqb bits 8) (eqb bits 16) more) [
    | inl eight ↦
        subst (λ (k : ℕ). AreSizes (cond (eqb k 4) (half_bytes n bytes) (map first_number (rows n (k / 8 ∷ []) bytes)))) (sym (eqb-true bits 8 eight))
        (first_numbers n 1 bytes (λ m k. omega (arith, k)) h)
    | inr sixteen ↦
        subst (λ (k : ℕ). AreSizes (cond (eqb k 4) (half_bytes n bytes) (map first_number (rows n (k / 8 ∷ []) bytes)))) (sym (eqb-true bits 16 sixteen))
        (first_numbers n 2 bytes (λ m k. omega (arith, k)) h)
  ]
]

-- the sizes that `stsz` or `stz2` names
sizes_fit : (o compact : Option (List ℕ)) → IfSome o AreBytes → IfSome compact AreBytes → IfSome compact (IsSound stz2) → AreSizes (sample_sizes_of o (unwrap_or compact []))
sizes_fit (Some payload) compact h k s = plain_sizes payload h
sizes_fit None None h k s = tt
sizes_fit None (Some compact) h k s =
    let bits : is_size_bits (size_bits compact) ≡ true = not-false (is_size_bits (size_bits compact)) s.value in
    of_bits (size_bits compact) (sample_count compact) (drop 12 compact) bits (bytes_dropped 12 compact k)

-- ---- times

-- a composition offset of 32 bits, which in version 0 is below 2^31
pub offset_fits : (v n : ℕ) → n < 2 ^ 32 → (eqb v 0 ≡ true → n < 2 ^ 31) → FitsSigned w32 (composition_offset v n)
offset_fits v n h small = cond_both (eqb v 0) (pos n) (twos_complement 4 n) (FitsSigned w32) (λ e. let lt = small e in record { sfits = lt }) (λ e. signed_32 n h)

-- rows of which no offset is too large
not_too_large : (rs : List (List ℕ)) → too_large (map (λ r. Some (slice_index r 1)) rs) ≡ false → AllByRecursion (λ r. slice_index r 1 < 2 ^ 31) rs
not_too_large [] e = tt
not_too_large (r ∷ rs) e =
    let p = or_parts (leb (2 ^ 31) (slice_index r 1)) (too_large (map (λ x. Some (slice_index x 1)) rs)) e in
    (leb-false (2 ^ 31) (slice_index r 1) p.0, not_too_large rs p.1)

-- offsets of rows fit
offset_rows : (v : ℕ) (rs : List (List ℕ)) → (eqb v 0 && too_large (map (λ r. Some (slice_index r 1)) rs)) ≡ false → AllByRecursion (FitsRow (4 ∷ 4 ∷ [])) rs
    → AllByRecursion (λ (row : ℕ × ℤ). FitsSigned w32 row.1) (map (λ row. (slice_index row 0, composition_offset v (slice_index row 1))) rs)
offset_rows v rs e h =
    each_value (λ r. FitsRow (4 ∷ 4 ∷ []) r × (eqb v 0 ≡ true → slice_index r 1 < 2 ^ 31)) (λ (row : ℕ × ℤ). FitsSigned w32 row.1) (λ row. (slice_index row 0, composition_offset v (slice_index row 1)))
    (λ r k. offset_fits v (slice_index r 1) (k.0 1) k.1) rs (by_version (eqb v 0) e)
  where
    by_version : (b : Bool) → (b && too_large (map (λ r. Some (slice_index r 1)) rs)) ≡ false → AllByRecursion (λ r. FitsRow (4 ∷ 4 ∷ []) r × (b ≡ true → slice_index r 1 < 2 ^ 31)) rs
    by_version true f = each_from (FitsRow (4 ∷ 4 ∷ [])) (λ r. slice_index r 1 < 2 ^ 31) (λ r. FitsRow (4 ∷ 4 ∷ []) r × (true ≡ true → slice_index r 1 < 2 ^ 31)) (λ r x y. (x, λ g. y)) rs h (not_too_large rs f)
    by_version false f = each_weaker (FitsRow (4 ∷ 4 ∷ [])) (λ r. FitsRow (4 ∷ 4 ∷ []) r × (false ≡ true → slice_index r 1 < 2 ^ 31)) (λ r x. (x, λ g. absurd (cc))) rs h

-- composition offsets fit, or are 0
offsets_fit : (n : ℕ) (o : Option (List ℕ)) → IfSome o AreBytes → IfSome o (IsSound ctts) → AllByRecursion (FitsSigned w32) (unwrap_or (option_map repeated (option_map offsets_of o)) (replicate n (pos 0)))
offsets_fit n None h s = each_again (FitsSigned w32) n (pos 0) (record { sfits = lit< tt })
offsets_fit n (Some payload) h s =
    repeated_each (FitsSigned w32) (offsets_of payload)
    (offset_rows (version payload) (leaf_rows ctts payload) s.offsets (rows_fit (row_count ctts payload) (4 ∷ 4 ∷ []) (drop 8 payload) (bytes_dropped 8 payload h)))

-- durations fit
durations_fit : (payload : List ℕ) → AreBytes payload → AllByRecursion (λ n. n < 2 ^ 32) (repeated (durations_of payload))
durations_fit payload h =
    repeated_each (λ n. n < 2 ^ 32) (durations_of payload)
    (each_value (FitsRow (4 ∷ 4 ∷ [])) (λ (row : ℕ × ℕ). row.1 < 2 ^ 32) (λ row. (slice_index row 0, slice_index row 1)) (λ r k. k 1) (leaf_rows stts payload) (rows_fit (row_count stts payload) (4 ∷ 4 ∷ []) (drop 8 payload) (bytes_dropped 8 payload h)))

-- ---- flags

-- a flag of one bit
at_most_1 : (sync : Option (List ℕ)) (i : ℕ) → non_sync sync i ≤ 1
at_most_1 None i = lit≤ tt
at_most_1 (Some named) i = cond_both (list_any (λ n. eqb i n) named) 0 1 (λ n. n ≤ 1) (λ e. lit≤ tt) (λ e. lit≤ tt)

-- flags are below 2^28
flags_fit : (sync : Option (List ℕ)) (i : ℕ) (bytes : List ℕ) → AreBytes bytes → AllByRecursion (λ n. n < 2 ^ 28) (flags_from sync i bytes)
flags_fit sync i [] h = tt
flags_fit sync i (b ∷ bytes) h =
    let small : b < 256 = h 0 in
    let one = at_most_1 sync i in
    (omega (arith, small, one), flags_fit sync (i + 1) bytes (λ k. h (suc k)))

-- zeros are bytes
zeros : (n : ℕ) → AreBytes (replicate n 0)
zeros zero i = lit< tt
zeros (suc n) zero = lit< tt
zeros (suc n) (suc i) = zeros n i

-- the bytes of `sdtp`, or zeros
dependencies_fit : (n : ℕ) (o : Option (List ℕ)) → IfSome o AreBytes → AreBytes (unwrap_or (option_map (take n) (option_map (λ payload. drop 4 payload) o)) (replicate n 0))
dependencies_fit n None h = zeros n
dependencies_fit n (Some payload) h = bytes_taken n (drop 4 payload) (bytes_dropped 4 payload h)

-- ---- places

-- samples of such sizes, one after the other
laid_spots : (at : ℤ) (description : ℕ) (sizes : List ℕ) → AreSizes sizes → AllByRecursion (λ (spot : Spot). spot.size < 2 ^ 32) (laid_out at description sizes)
laid_spots at description [] h = tt
laid_spots at description (size ∷ sizes) h = (h.0, laid_spots (at +ℤ pos size) description sizes h.1)

-- and chunk by chunk
chunk_spots : (rs : List ChunkRow) (c : ℕ) (offsets sizes : List ℕ) → AreSizes sizes → AllByRecursion (λ (spot : Spot). spot.size < 2 ^ 32) (in_chunks rs c offsets sizes)
chunk_spots rs c [] sizes h = tt
chunk_spots rs c (offset ∷ offsets) sizes h =
    let r = row_of_chunk rs c in
    all_append (λ (spot : Spot). spot.size < 2 ^ 32) (laid_out (pos offset) r.description (take r.count sizes)) (in_chunks rs (c + 1) offsets (drop r.count sizes))
    (laid_spots (pos offset) r.description (take r.count sizes) (each_taken (λ n. n < 2 ^ 32) r.count sizes h))
    (chunk_spots rs (c + 1) offsets (drop r.count sizes) (each_dropped (λ n. n < 2 ^ 32) r.count sizes h))

-- ---- groups

-- a key of a type of four bytes, and of a parameter of 32 bits
pub record IsKey (key : GroupKey) : Type 0 where
  pub kind_length : length key.kind ≡ 4
  pub kind : AreBytes key.kind
  pub parameter : IfSome key.parameter (λ n. n < 2 ^ 32)

-- an index of a key
abbrev pub IsIndex : GroupKey × ℕ → Type 0
IsIndex group = IsKey group.0 × (1 ≤ group.1) × (group.1 ≤ max_index)

-- no parameter, or one of 32 bits
no_parameter : (v : Bool) (n : ℕ) → n < 2 ^ 32 → IfSome (cond v None (Some n)) (λ m. m < 2 ^ 32)
no_parameter true n h = tt
no_parameter false n h = h

-- an `sbgp` has at least 8 bytes
room_of : (v : Bool) (more : ℕ) → 8 ≤ width_of (cond v (1 ∷ 3 ∷ 4 ∷ 4 ∷ []) (1 ∷ 3 ∷ 4 ∷ 4 ∷ 4 ∷ [])) + 0 + more
room_of true more = omega arith
room_of false more = omega arith

-- the key of a sound `sbgp`
key_valid : (payload : List ℕ) → AreBytes payload → IsSound sbgp payload → IsKey (key_of payload)
key_valid payload h s =
    let room : 8 ≤ length payload = (let least = room_of (eqb (version payload) 0) (rows_size sbgp payload) in omega (arith, s.readable.room, least)) in
    record {
      kind_length = omega (arith, length-take 4 (drop 4 payload), length-drop 4 payload, room);
      kind = bytes_taken 4 (drop 4 payload) (bytes_dropped 4 payload h);
      parameter = no_parameter (eqb (version payload) 0) (field payload 8 4) (field_below payload 8 4 h);
    }

-- the keys of `sbgp`s that are sound
pub keys_valid : (bs : List Box) → AllByRecursion (λ (b : Box). AreBytes b.payload) bs → AllByRecursion (λ (b : Box). IsSound sbgp b.payload) bs → AllByRecursion (λ (g : Grouping). IsKey g.key) (groupings_of bs)
keys_valid [] h s = tt
keys_valid (b ∷ bs) h s = (key_valid b.payload h.0 s.0, keys_valid bs h.1 s.1)

-- the maps that `sbgp`s of such keys give where they keep the rules
pub groups_valid : (m n : ℕ) (keys : List GroupKey) (groupings : List Grouping) → KeepAll n keys groupings → AllByRecursion (λ (g : Grouping). IsKey g.key) groupings
    → AllByRecursion (IsMap IsIndex (keys_named groupings)) (maps_of m groupings)
groups_valid m n keys groupings h k =
    maps_valid IsIndex m n keys groupings h
    (each_weaker (λ (g : Grouping). IsKey g.key) (λ (g : Grouping). (index : ℕ) → 1 ≤ index → index ≤ max_index → IsIndex (g.key, index)) (λ g x index a b. (x, a, b)) groupings k)

-- ---- all of it

-- The samples of tables that fit are in their ranges.
pub plain_placed : (s : Surroundings) (boxes : List Box) → AllByRecursion IsOfBytes boxes → AreSound (ruled SampleTable) boxes → Fit s (tables_of boxes)
    → AllByRecursion (IsPlaced (λ d. IsTrue (is_index s.descriptions d)) (IsMap IsIndex (keys_named (tables_of boxes).groups))) (plain_samples (tables_of boxes))
plain_placed s boxes h sound fit =
    let t = tables_of boxes in
    let n = length t.sizes in
    let if_there = λ (kind : List ℕ). payload_if_of_bytes kind boxes h in
    let D = λ (d : ℕ). IsTrue (is_index s.descriptions d) in
    let M = IsMap IsIndex (keys_named t.groups) in
    let sizes = sizes_fit (payload_if (codes "stsz") boxes) (payload_if (codes "stz2") boxes) (if_there (codes "stsz")) (if_there (codes "stz2")) (sound_if (ruled SampleTable) (codes "stz2") stz2 refl boxes sound) in
    let spots : AllByRecursion (IsSpot D) (spots_of t) =
    each_from (λ (spot : Spot). spot.size < 2 ^ 32) (λ (spot : Spot). D spot.description) (IsSpot D) (λ spot x y. (x, y)) (spots_of t)
    (chunk_spots t.chunk_rows 1 t.chunk_offsets t.sizes sizes) (each_tested (λ (spot : Spot). is_index s.descriptions spot.description) (spots_of t) (fit description_indexes)) in
    let deps = unwrap_or (option_map (take n) t.dependencies) (replicate n 0) in
    let plain = joined (repeated t.durations) (unwrap_or (option_map repeated t.offsets) (replicate n (pos 0))) (flags_from t.sync 1 deps) (spots_of t) in
    let groups = of_kind (codes "sbgp") boxes in
    grouped D M (maps_of n t.groups) plain
    (groups_valid n n [] t.groups (λ rule k. fit (table_group rule k)) (keys_valid groups (payloads_of_bytes (codes "sbgp") boxes h) (sound_each (ruled SampleTable) (codes "sbgp") sbgp refl boxes sound)))
    (joined_placed D M (record { order = tt; each = tt; named = tt }) (repeated t.durations) (unwrap_or (option_map repeated t.offsets) (replicate n (pos 0))) (flags_from t.sync 1 deps) (spots_of t)
    (durations_fit (payload_of (codes "stts") boxes) (payload_of_bytes (codes "stts") boxes h))
    (offsets_fit n (payload_if (codes "ctts") boxes) (if_there (codes "ctts")) (sound_if (ruled SampleTable) (codes "ctts") ctts refl boxes sound))
    (flags_fit t.sync 1 deps (dependencies_fit n (payload_if (codes "sdtp") boxes) (if_there (codes "sdtp"))))
    spots)
