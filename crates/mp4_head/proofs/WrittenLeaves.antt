-- The leaves of a head that was written: they can be read, and say what was written.
use Rattle.std.proofs.Common.{◌≡◌, ℕ, ◌+◌, ◌^◌, ◌<◌, false, eqb, List, [], ◌∷◌, ◌++◌, length, drop, take, refl, sym, ap, subst, ◌∙◌, append_assoc, slice_index, lit<, lit≤, arith}
use Rattle.std.specs.Prelude.{map, replicate, flat_map, Some, not, ◌*◌}
use Rattle.std.proofs.lemmas.Bool.{ne_eqb, le-leb}
use Rattle.std.proofs.lemmas.List.{append-nil, length-map, drop_at, get_or-drop}
use Rattle.mp4_boxes.specs.format.Bytes.{spelled, unsigned, numbers, FitWidths, field, rows}
use Rattle.mp4_boxes.specs.format.Layout.{mvhd, tkhd, mdhd, hdlr, elst, stsd, sample_entry, sgpd, trex, fields, row, leaf_fields, version, IsSound}
use Rattle.mp4_boxes.proofs.Fields.{numbers_again, length-spelled, AllFit, none, more, rows_again, field_again}
use Rattle.mp4_frag.specs.format.Fragments.{trex_of}
use Rattle.mp4_head.specs.format.Head.{MovieHead, TrackHead, Media, IsMovieHead, IsTrackHead, IsMedia, IsGroupDescription, Kept, IsDescription, Edit, IsEdit}
use Rattle.mp4_head.proofs.Again.{mdhd_numbers, mdhd_again, signed_again}
use Rattle.mp4_head.proofs.Signed.{short_fits, signed_fits, long_fits, short_again, long_again, row_fits, matrix_again}
use Rattle.mp4_head.specs.format.Tree.{matrix_of, edit_of, edits_of}
use Rattle.mp4_head.specs.format.Writing.{edit_bytes, kept_bytes}
use Rattle.std.specs.List.{AllByRecursion}
use Rattle.byteorder.specs.Endian.{twos_complement}
use Rattle.mp4_head.proofs.HeadLengths.{length_rows}

-- what was spelled, with nothing behind it, is read
pub alone_again : (widths values : List ℕ) → FitWidths widths values → numbers widths (spelled widths values) ≡ values
alone_again widths values fits = ap (numbers widths) (sym (append-nil (spelled widths values))) ∙ numbers_again widths values [] fits

-- a positive number is not 0
pub not_zero : (n : ℕ) → 0 < n → eqb n 0 ≡ false
not_zero n h = ne_eqb n 0 (λ e. omega arith)

-- ---- `mvhd`

-- the numbers of an `mvhd`
abbrev pub mvhd_numbers : MovieHead → ℕ → List ℕ
mvhd_numbers m next_track_id = 1 ∷ 0 ∷ m.creation ∷ m.modification ∷ m.timescale ∷ 0 ∷ unsigned 4 m.rate ∷ unsigned 2 m.volume ∷ 0 ∷ 0 ∷ 0 ∷ (map (unsigned 4) m.matrix ++ replicate 6 0 ++ next_track_id ∷ [])

-- its payload
abbrev pub mvhd_payload : MovieHead → ℕ → List ℕ
mvhd_payload m next_track_id = spelled (fields mvhd 1) (mvhd_numbers m next_track_id)

-- they fit
mvhd_fits : (m : MovieHead) (next_track_id : ℕ) → IsMovieHead m → next_track_id < 2 ^ 32 → FitWidths (fields mvhd 1) (mvhd_numbers m next_track_id)
mvhd_fits m next_track_id h lt =
    let row = row_fits 9 m.matrix (replicate 6 4 ++ 4 ∷ []) (replicate 6 0 ++ next_track_id ∷ []) h.matrix.nine h.matrix.fits (lit< tt, (lit< tt, (lit< tt, (lit< tt, (lit< tt, (lit< tt, (lt, tt))))))) in
    let regrouped = sym (append_assoc (map (unsigned 4) m.matrix) (replicate 6 0) (next_track_id ∷ [])) in (
      lit< tt,
      (
        lit< tt,
        (
          h.creation,
          (
            h.modification,
            (
              h.timescale,
              (
                lit< tt,
                (
                  signed_fits m.rate h.rate,
                  (
                    short_fits m.volume h.volume,
                    (
                      lit< tt,
                      (
                        lit< tt,
                        (
                          lit< tt,
                          subst (λ (values : List ℕ). FitWidths (replicate 9 4 ++ (replicate 6 4 ++ 4 ∷ [])) values) regrouped row,
                        ),
                      ),
                    ),
                  ),
                ),
              ),
            ),
          ),
        ),
      ),
    )

-- they are read again
pub mvhd_again : (m : MovieHead) (next_track_id : ℕ) → IsMovieHead m → next_track_id < 2 ^ 32 → leaf_fields mvhd (mvhd_payload m next_track_id) ≡ mvhd_numbers m next_track_id
mvhd_again m next_track_id h lt = alone_again (fields mvhd 1) (mvhd_numbers m next_track_id) (mvhd_fits m next_track_id h lt)

-- it is sound
pub mvhd_sound : (m : MovieHead) (next_track_id : ℕ) → IsMovieHead m → next_track_id < 2 ^ 32 → IsSound mvhd (mvhd_payload m next_track_id)
mvhd_sound m next_track_id h lt = record {
  readable = record { version = refl; flags = refl; room = omega (arith, length-spelled (fields mvhd 1) (mvhd_numbers m next_track_id) (mvhd_fits m next_track_id h lt)) };
  value = ap (λ (ns : List ℕ). eqb (slice_index ns 4) 0) (mvhd_again m next_track_id h lt) ∙ not_zero m.timescale h.timescale_not_0;
  inside = refl;
  offsets = refl;
}

-- what an `mvhd` says
pub movie_again : (m : MovieHead) (next_track_id : ℕ) → IsMovieHead m → (ns : List ℕ) → ns ≡ mvhd_numbers m next_track_id → (kept : List Kept) → kept ≡ m.kept
    → ◌≡◌ {A = MovieHead} (record { creation = slice_index ns 2; modification = slice_index ns 3; timescale = slice_index ns 4; rate = twos_complement 4 (slice_index ns 6); volume = twos_complement 2 (slice_index ns 7); matrix = matrix_of ns 11 20; kept = kept }) m
movie_again m next_track_id h ns e kept k =
    let rate = ap (λ (l : List ℕ). twos_complement 4 (slice_index l 6)) e ∙ signed_again m.rate h.rate in
    let volume = ap (λ (l : List ℕ). twos_complement 2 (slice_index l 7)) e ∙ short_again m.volume h.volume in
    let regrouped = append_assoc (map (unsigned 4) m.matrix) (replicate 6 0) (next_track_id ∷ []) in
    let matrix = ap (λ (l : List ℕ). matrix_of l 11 20) e ∙ ap (λ (l : List ℕ). map (twos_complement 4) (take 9 l)) regrouped ∙ matrix_again m.matrix (replicate 6 0 ++ next_track_id ∷ []) h.matrix in
    λ i. record { creation = slice_index (e i) 2; modification = slice_index (e i) 3; timescale = slice_index (e i) 4; rate = rate i; volume = volume i; matrix = matrix i; kept = k i }

-- ---- `tkhd`

-- the numbers of a `tkhd`
abbrev pub tkhd_numbers : TrackHead → List ℕ
tkhd_numbers t = 1 ∷ t.flags ∷ t.creation ∷ t.modification ∷ t.id ∷ 0 ∷ 0 ∷ 0 ∷ 0 ∷ unsigned 2 t.layer ∷ unsigned 2 t.alternate_group ∷ unsigned 2 t.volume ∷ 0 ∷ (map (unsigned 4) t.matrix ++ t.width ∷ t.height ∷ [])

-- its payload
abbrev pub tkhd_payload : TrackHead → List ℕ
tkhd_payload t = spelled (fields tkhd 1) (tkhd_numbers t)

-- they fit
tkhd_fits : (t : TrackHead) → IsTrackHead t → FitWidths (fields tkhd 1) (tkhd_numbers t)
tkhd_fits t h =
    let row = row_fits 9 t.matrix (4 ∷ 4 ∷ []) (t.width ∷ t.height ∷ []) h.matrix.nine h.matrix.fits (h.width, (h.height, tt)) in
    (lit< tt, (h.flags, (h.creation, (h.modification, (h.id, (lit< tt, (lit< tt, (lit< tt, (lit< tt, (short_fits t.layer h.layer, (short_fits t.alternate_group h.alternate_group, (short_fits t.volume h.volume, (lit< tt, row)))))))))))))

-- they are read again
pub tkhd_again : (t : TrackHead) → IsTrackHead t → leaf_fields tkhd (tkhd_payload t) ≡ tkhd_numbers t
tkhd_again t h = alone_again (fields tkhd 1) (tkhd_numbers t) (tkhd_fits t h)

-- it is sound
pub tkhd_sound : (t : TrackHead) → IsTrackHead t → IsSound tkhd (tkhd_payload t)
tkhd_sound t h = record {
  readable = record { version = refl; flags = refl; room = omega (arith, length-spelled (fields tkhd 1) (tkhd_numbers t) (tkhd_fits t h)) };
  value = ap (λ (ns : List ℕ). eqb (slice_index ns 4) 0) (tkhd_again t h) ∙ not_zero t.id h.id_not_0;
  inside = refl;
  offsets = refl;
}

-- what a `tkhd` says, with what is said elsewhere
pub track_again : (t : TrackHead) → IsTrackHead t → (ns : List ℕ) → ns ≡ tkhd_numbers t → (edits : List Edit) → edits ≡ t.edits → (kept : List Kept) → kept ≡ t.kept → (media : Media) → media ≡ t.media
    → (group_descriptions : List (List ℕ)) → group_descriptions ≡ t.group_descriptions
    → ◌≡◌ {A = TrackHead} (record {
      flags = slice_index ns 1;
      creation = slice_index ns 2;
      modification = slice_index ns 3;
      id = slice_index ns 4;
      layer = twos_complement 2 (slice_index ns 9);
      alternate_group = twos_complement 2 (slice_index ns 10);
      volume = twos_complement 2 (slice_index ns 11);
      matrix = matrix_of ns 13 22;
      width = slice_index ns 22;
      height = slice_index ns 23;
      edits = edits;
      kept = kept;
      media = media;
      group_descriptions = group_descriptions;
    }) t
track_again t h ns e edits d kept k media m groups g =
    let layer = ap (λ (l : List ℕ). twos_complement 2 (slice_index l 9)) e ∙ short_again t.layer h.layer in
    let alternate = ap (λ (l : List ℕ). twos_complement 2 (slice_index l 10)) e ∙ short_again t.alternate_group h.alternate_group in
    let volume = ap (λ (l : List ℕ). twos_complement 2 (slice_index l 11)) e ∙ short_again t.volume h.volume in
    let matrix = ap (λ (l : List ℕ). matrix_of l 13 22) e ∙ matrix_again t.matrix (t.width ∷ t.height ∷ []) h.matrix in
    let tail : drop 9 (map (unsigned 4) t.matrix ++ t.width ∷ t.height ∷ []) ≡ t.width ∷ t.height ∷ [] = drop_at (map (unsigned 4) t.matrix) (t.width ∷ t.height ∷ []) 9 (length-map t.matrix (unsigned 4) ∙ h.matrix.nine) in
    let width = ap (λ (l : List ℕ). slice_index l 22) e ∙ sym (get_or-drop 9 (map (unsigned 4) t.matrix ++ t.width ∷ t.height ∷ []) 0 0) ∙ ap (λ (l : List ℕ). slice_index l 0) tail in
    let height = ap (λ (l : List ℕ). slice_index l 23) e ∙ sym (get_or-drop 9 (map (unsigned 4) t.matrix ++ t.width ∷ t.height ∷ []) 1 0) ∙ ap (λ (l : List ℕ). slice_index l 1) tail in
    λ i. record {
      flags = slice_index (e i) 1;
      creation = slice_index (e i) 2;
      modification = slice_index (e i) 3;
      id = slice_index (e i) 4;
      layer = layer i;
      alternate_group = alternate i;
      volume = volume i;
      matrix = matrix i;
      width = width i;
      height = height i;
      edits = d i;
      kept = k i;
      media = m i;
      group_descriptions = g i;
    }

-- ---- the other leaves

-- an `mdhd` is sound
pub mdhd_sound : (m : Media) → IsMedia m → IsSound mdhd (spelled (fields mdhd 1) (mdhd_numbers m))
mdhd_sound m h = record {
  readable = record { version = refl; flags = refl; room = lit≤ tt };
  value = ap (λ (ns : List ℕ). eqb (slice_index ns 4) 0) (mdhd_again m h) ∙ not_zero m.timescale h.timescale_not_0;
  inside = refl;
  offsets = refl;
}

-- a handler of enough bytes is sound
pub hdlr_sound : (m : Media) → IsMedia m → IsSound hdlr m.handler
hdlr_sound m h = record { readable = record { version = refl; flags = refl; room = h.handler_room }; value = refl; inside = refl; offsets = refl }

-- the payload of an `elst`
abbrev pub elst_payload : List Edit → List ℕ
elst_payload edits = spelled (fields elst 1) (1 ∷ 0 ∷ length edits ∷ []) ++ flat_map edit_bytes edits

-- the numbers of an edit
abbrev pub edit_numbers : Edit → List ℕ
edit_numbers e = e.segment_duration ∷ unsigned 8 e.media_time ∷ unsigned 2 e.rate_integer ∷ unsigned 2 e.rate_fraction ∷ []

-- edits are written as rows
edits_spelled : (edits : List Edit) → flat_map edit_bytes edits ≡ flat_map (spelled (row elst 1)) (map edit_numbers edits)
edits_spelled [] = refl
edits_spelled (e ∷ edits) = ap (λ (l : List ℕ). edit_bytes e ++ l) (edits_spelled edits)

-- the rows fit
edits_fit : (edits : List Edit) → AllByRecursion IsEdit edits → AllFit (row elst 1) (map edit_numbers edits)
edits_fit [] h = none
edits_fit (e ∷ edits) h = more (h.0.segment_duration, (long_fits e.media_time h.0.media_time, (short_fits e.rate_integer h.0.rate_integer, (short_fits e.rate_fraction h.0.rate_fraction, tt)))) (edits_fit edits h.1)

-- an edit is read again from its numbers
edit_again : (e : Edit) → IsEdit e → edit_of 1 (edit_numbers e) ≡ e
edit_again e h =
    let time = long_again e.media_time h.media_time in
    let whole = short_again e.rate_integer h.rate_integer in
    let part = short_again e.rate_fraction h.rate_fraction in
    λ i. record { segment_duration = e.segment_duration; media_time = time i; rate_integer = whole i; rate_fraction = part i }

-- so is each of a list
each_again : (edits : List Edit) → AllByRecursion IsEdit edits → map (edit_of 1) (map edit_numbers edits) ≡ edits
each_again [] h = refl
each_again (e ∷ edits) h = λ i. edit_again e h.0 i ∷ each_again edits h.1 i

-- the number of edits is read again
edit_count : (edits : List Edit) → length edits < 2 ^ 32 → field (elst_payload edits) 4 4 ≡ length edits
edit_count edits lt = field_again 4 (length edits) (flat_map edit_bytes edits) lt

-- an `elst` says the edits that were written
pub edits_again : (edits : List Edit) → AllByRecursion IsEdit edits → length edits < 2 ^ 32 → edits_of (Some (elst_payload edits)) ≡ edits
edits_again edits h lt =
    let table = map edit_numbers edits in
    let many : length edits ≡ length table = sym (length-map edits edit_numbers) in
    let bytes : flat_map edit_bytes edits ≡ flat_map (spelled (row elst 1)) table ++ [] = edits_spelled edits ∙ sym (append-nil (flat_map (spelled (row elst 1)) table)) in
    ap (λ (n : ℕ). map (edit_of 1) (rows n (row elst 1) (flat_map edit_bytes edits))) (edit_count edits lt ∙ many)
    ∙ ap (λ (l : List ℕ). map (edit_of 1) (rows (length table) (row elst 1) l)) bytes
    ∙ ap (map (edit_of 1)) (rows_again (row elst 1) table [] (edits_fit edits h))
    ∙ each_again edits h

-- an `elst` is sound
pub elst_sound : (edits : List Edit) → length edits < 2 ^ 32 → IsSound elst (elst_payload edits)
elst_sound edits lt = record {
  readable = record { version = refl; flags = refl; room = omega (arith, edit_count edits lt, length_rows edits) };
  value = refl;
  inside = refl;
  offsets = refl;
}

-- the payload of an `stsd`
abbrev pub stsd_payload : List Kept → List ℕ
stsd_payload descriptions = spelled (fields stsd 0) (0 ∷ 0 ∷ length descriptions ∷ []) ++ flat_map kept_bytes descriptions

-- the number of descriptions is read again
pub stsd_count : (descriptions : List Kept) → length descriptions < 2 ^ 32 → field (stsd_payload descriptions) 4 4 ≡ length descriptions
stsd_count descriptions lt = field_again 4 (length descriptions) (flat_map kept_bytes descriptions) lt

-- an `stsd` is sound
pub stsd_sound : (descriptions : List Kept) → IsSound stsd (stsd_payload descriptions)
stsd_sound descriptions = record { readable = record { version = refl; flags = refl; room = omega arith }; value = refl; inside = refl; offsets = refl }

-- the number of a field of an entry, read from its place on
pub entry_field : (payload : List ℕ) → field (drop 6 payload) 0 2 ≡ field payload 6 2
entry_field payload = λ i. get_or-drop 6 payload 0 0 i * 256 ^ 1 + (get_or-drop 6 payload 1 0 i * 256 ^ 0 + 0)

-- a description is sound
pub sample_entry_sound : (k : Kept) → IsDescription k → IsSound sample_entry k.payload
sample_entry_sound k h = record {
  readable = record { version = refl; flags = refl; room = h.room };
  value = ap (λ (n : ℕ). not (eqb n 1)) (entry_field k.payload ∙ h.data_reference);
  inside = refl;
  offsets = refl;
}

-- a description of groups is sound
pub sgpd_sound : (payload : List ℕ) → IsGroupDescription payload → IsSound sgpd payload
sgpd_sound payload h = record { readable = record { version = le-leb (version payload) 1 h.version; flags = refl; room = h.room }; value = refl; inside = refl; offsets = refl }

-- the payload of a `trex`
abbrev pub trex_payload : ℕ → List ℕ
trex_payload id = spelled (fields trex 0) (0 ∷ 0 ∷ id ∷ 1 ∷ 0 ∷ 0 ∷ 0 ∷ [])

-- a `trex` is sound
pub trex_sound : (id : ℕ) → IsSound trex (trex_payload id)
trex_sound id = record { readable = record { version = refl; flags = refl; room = lit≤ tt }; value = refl; inside = refl; offsets = refl }

-- what a `trex` says that was written
pub trex_again : (id : ℕ) → id < 2 ^ 32 → trex_of (trex_payload id) ≡ record { id = id; description = 1; duration = 0; size = 0; flags = 0 }
trex_again id lt =
    let e = alone_again (fields trex 0) (0 ∷ 0 ∷ id ∷ 1 ∷ 0 ∷ 0 ∷ 0 ∷ []) (lit< tt, (lit< tt, (lt, (lit< tt, (lit< tt, (lit< tt, (lit< tt, tt))))))) in
    λ i. record { id = slice_index (e i) 2; description = slice_index (e i) 3; duration = slice_index (e i) 4; size = slice_index (e i) 5; flags = slice_index (e i) 6 }
