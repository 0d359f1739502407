-- What the boxes of a `moov` of bytes say is a well-formed head.
use Rattle.std.proofs.Common.{◌≡◌, ℕ, ◌+◌, ◌<◌, ◌^◌, Bool, true, false, eqb, List, [], ◌∷◌, drop, Option, Some, None, refl, sym, ◌∙◌, arith}
use Rattle.std.specs.Prelude.{codes, map, filter, FitsSigned, slice_index, slice_range, IfSome, IsTrue}
use Rattle.std.specs.Int.{w32}
use Rattle.std.specs.List.{AllByRecursion}
use Rattle.std.proofs.lemmas.Bool.{eqb-true, leb-true}
use Rattle.byteorder.specs.Endian.{twos_complement}
use Rattle.mp4_boxes.specs.format.Bytes.{AreBytes, field, width_of}
use Rattle.mp4_boxes.specs.format.Box.{Box}
use Rattle.mp4_boxes.specs.format.Children.{is_among, media_headers, count_among, of_kind, payload_of, payload_if, one, kept_kinds}
use Rattle.mp4_boxes.specs.format.Layout.{mvhd, tkhd, mdhd, hdlr, elst, sgpd, sample_entry, fields, row, row_count, version, leaf_fields, leaf_rows, IsSound}
use Rattle.mp4_boxes.specs.format.Places.{ruled, sample_entries, AreSound}
use Rattle.mp4_boxes.specs.declared.rule.Rule.TheVariants as rules
use Rattle.mp4_boxes.proofs.Each.{each_value, each_from, each_kept}
use Rattle.mp4_boxes.proofs.Refusing.{holds_only, line_has}
use Rattle.mp4_boxes.proofs.OfBytes.{IsOfBytes, FitsRow, numbers_fit, rows_fit, field_dropped, time_below, signed_16, signed_32, signed_time, bytes_dropped, payload_of_bytes, payload_if_of_bytes, payloads_of_bytes}
use Rattle.mp4_boxes.proofs.Sound.{sound_one, sound_each}
use Rattle.mp4_boxes.proofs.Plain.{eqb_zero, not_is_false}
use Rattle.mp4_head.specs.format.Head.{IsKept, IsEdit, IsDescription, IsMedia, IsGroupDescription, IsTrackHead, IsMovieHead}
use Rattle.mp4_head.specs.format.Tree.{TrackTree, MovieTree, IsTrackTree, IsMovieTree, IsSoundTrack, IsSoundMovie, NameNoItems, kept_among, edit_of, edits_of, first_among, media_of, track_head_of, movie_head_of}
use Rattle.mp4_head.proofs.TreeBytes.{TrackOfBytes, MovieOfBytes}

-- ---- numbers

-- four-byte numbers as two's complement
signed_each : (ns : List ℕ) → AllByRecursion (λ n. n < 2 ^ 32) ns → AllByRecursion (FitsSigned w32) (map (twos_complement 4) ns)
signed_each ns h = each_value (λ (n : ℕ). n < 2 ^ 32) (FitsSigned w32) (twos_complement 4) signed_32 ns h

-- ---- boxes that are kept

-- boxes of bytes that name no items, as they are kept
kept_fit : (kinds : List (List ℕ)) (bs : List Box) → AllByRecursion (λ (b : Box). IsOfBytes b × (is_among kinds b.kind ≡ true)) bs
    → NameNoItems (map (λ (b : Box). record { kind = b.kind; payload = b.payload }) bs) → AllByRecursion (IsKept kinds) (map (λ (b : Box). record { kind = b.kind; payload = b.payload }) bs)
kept_fit kinds [] h n = tt
kept_fit kinds (b ∷ bs) h n = (record { kind = h.0.1; bytes = h.0.0.payload; no_item_location = n.0 }, kept_fit kinds bs h.1 n.1)

-- the kept boxes of a container are well formed
kept_valid : (kinds : List (List ℕ)) (bs : List Box) → AllByRecursion IsOfBytes bs → NameNoItems (kept_among kinds bs) → AllByRecursion (IsKept kinds) (kept_among kinds bs)
kept_valid kinds bs h n = kept_fit kinds (filter (λ (b : Box). is_among kinds b.kind) bs) (each_kept IsOfBytes (λ (b : Box). is_among kinds b.kind) bs h) n

-- ---- the media header

-- the first box of some types has one of them, and is of bytes
abbrev IsFound : List (List ℕ) → Box → Type 0
IsFound kinds b = IsTrue (is_among kinds b.kind) × AreBytes b.payload

-- the step of `among_found`, by the type of the first
among_choice : (kinds : List (List ℕ)) (b : Box) (bs : List Box) (v : Bool) → is_among kinds b.kind ≡ v → IsOfBytes b → count_among kinds (b ∷ bs) ≡ 1
    → (count_among kinds bs ≡ 1 → IsFound kinds (first_among kinds bs)) → IsFound kinds (first_among kinds (b ∷ bs))
among_choice kinds b bs true e h n more = rw e (e, h.payload)
among_choice kinds b bs false e h n more =
    let k : 0 + count_among kinds bs ≡ 1 = rw e at n in
    rw e (more (omega arith))

-- where one box of some types stands, it is found
among_found : (kinds : List (List ℕ)) (bs : List Box) → AllByRecursion IsOfBytes bs → count_among kinds bs ≡ 1 → IsFound kinds (first_among kinds bs)
among_found kinds [] h n = absurd (omega (arith, n))
among_found kinds (b ∷ bs) h n = among_choice kinds b bs (is_among kinds b.kind) refl h.0 n (λ k. among_found kinds bs h.1 k)

-- ---- descriptions, edits, what describes groups

-- a sound entry of `stsd`
description_valid : (b : Box) → IsOfBytes b → IsSound sample_entry b.payload → IsDescription (record { kind = b.kind; payload = b.payload })
description_valid b h s =
    let first : eqb (field (drop 6 b.payload) 0 2) 1 ≡ true = not_is_false (eqb (field (drop 6 b.payload) 0 2) 1) s.value in
    record {
      kind_length = h.kind_length;
      kind = h.kind;
      bytes = h.payload;
      room = s.readable.room;
      data_reference = sym (field_dropped 6 0 2 b.payload) ∙ eqb-true (field (drop 6 b.payload) 0 2) 1 first;
    }

-- and all of them
descriptions_valid : (bs : List Box) → AllByRecursion IsOfBytes bs → AreSound sample_entries bs → AllByRecursion IsDescription (map (λ (b : Box). record { kind = b.kind; payload = b.payload }) bs)
descriptions_valid [] h s = tt
descriptions_valid (b ∷ bs) h s = (description_valid b h.0 s.0, descriptions_valid bs h.1 s.1)

-- an edit from numbers that fit
edit_valid : (v : ℕ) (numbers : List ℕ) → FitsRow (row elst v) numbers → IsEdit (edit_of v numbers)
edit_valid v numbers h = record {
  segment_duration = time_below v (slice_index numbers 0) (h 0);
  media_time = signed_time v (slice_index numbers 1) (h 1);
  rate_integer = signed_16 (slice_index numbers 2) (h 2);
  rate_fraction = signed_16 (slice_index numbers 3) (h 3);
}

-- the edits of a track
edits_valid : (o : Option (List ℕ)) → IfSome o AreBytes → AllByRecursion IsEdit (edits_of o)
edits_valid None h = tt
edits_valid (Some payload) h =
    let v = version payload in
    each_value (FitsRow (row elst v)) IsEdit (edit_of v) (edit_valid v) (leaf_rows elst payload)
    (rows_fit (row_count elst payload) (row elst v) (drop (width_of (fields elst v)) payload) (bytes_dropped (width_of (fields elst v)) payload h))

-- what describes groups, where it is sound
pub group_descriptions_valid : (t : TrackTree) → TrackOfBytes t → AreSound (ruled rules.SampleTable) t.table → AllByRecursion IsGroupDescription (track_head_of t).group_descriptions
group_descriptions_valid t h s =
    each_value (λ (b : Box). AreBytes b.payload × IsSound sgpd b.payload) IsGroupDescription (λ (b : Box). b.payload)
    (λ b k. record { bytes = k.0; room = k.1.readable.room; version = leb-true (version b.payload) 1 k.1.readable.version }) (of_kind (codes "sgpd") t.table)
    (each_from (λ (b : Box). AreBytes b.payload) (λ (b : Box). IsSound sgpd b.payload) (λ (b : Box). AreBytes b.payload × IsSound sgpd b.payload) (λ b x y. (x, y)) (of_kind (codes "sgpd") t.table)
    (payloads_of_bytes (codes "sgpd") t.table h.table) (sound_each (ruled rules.SampleTable) (codes "sgpd") sgpd refl t.table s))

-- ---- heads

-- what `mdia` says is well formed
media_valid : (t : TrackTree) → TrackOfBytes t → IsTrackTree t → IsSoundTrack t → IsMedia (media_of t)
media_valid t h k s =
    let payload = payload_of (codes "mdhd") t.media in
    let v = version payload in
    let fit = numbers_fit (fields mdhd v) payload (payload_of_bytes (codes "mdhd") t.media h.media) in
    let ns = leaf_fields mdhd payload in
    let sound = sound_one (ruled rules.Media) (codes "mdhd") mdhd refl t.media s.media (holds_only k.media (codes "mdhd") refl) in
    let handler = sound_one (ruled rules.Media) (codes "hdlr") hdlr refl t.media s.media (holds_only k.media (codes "hdlr") refl) in
    let header = among_found media_headers t.information h.information (line_has k.information (codes "vmhd") (record { kinds = media_headers; quantity = one }) refl) in
    record {
      creation = time_below v (slice_index ns 2) (fit 2);
      modification = time_below v (slice_index ns 3) (fit 3);
      timescale = fit 4;
      timescale_not_0 = eqb_zero (slice_index ns 4) sound.value;
      language = fit 6;
      handler = payload_of_bytes (codes "hdlr") t.media h.media;
      handler_room = handler.readable.room;
      extended_languages = each_value (λ (b : Box). AreBytes b.payload) AreBytes (λ (b : Box). b.payload) (λ b x. x) (of_kind (codes "elng") t.media) (payloads_of_bytes (codes "elng") t.media h.media);
      header = header.0;
      header_bytes = header.1;
      descriptions = descriptions_valid t.descriptions h.descriptions s.descriptions;
    }

-- What a `trak` of bytes says is well formed.
pub track_head_valid : (t : TrackTree) → TrackOfBytes t → IsTrackTree t → IsSoundTrack t → AreSound (ruled rules.SampleTable) t.table → IsTrackHead (track_head_of t)
track_head_valid t h k s tables =
    let payload = payload_of (codes "tkhd") t.track in
    let v = version payload in
    let fit = numbers_fit (fields tkhd v) payload (payload_of_bytes (codes "tkhd") t.track h.track) in
    let ns = leaf_fields tkhd payload in
    let sound = sound_one (ruled rules.Track) (codes "tkhd") tkhd refl t.track s.track (holds_only k.track (codes "tkhd") refl) in
    record {
      flags = fit 1;
      creation = time_below v (slice_index ns 2) (fit 2);
      modification = time_below v (slice_index ns 3) (fit 3);
      id = fit 4;
      id_not_0 = eqb_zero (slice_index ns 4) sound.value;
      layer = signed_16 (slice_index ns 9) (fit 9);
      alternate_group = signed_16 (slice_index ns 10) (fit 10);
      volume = signed_16 (slice_index ns 11) (fit 11);
      matrix = record { nine = refl; fits = signed_each (slice_range ns 13 22) (fit 13, (fit 14, (fit 15, (fit 16, (fit 17, (fit 18, (fit 19, (fit 20, (fit 21, tt))))))))) };
      width = fit 22;
      height = fit 23;
      edits = edits_valid (payload_if (codes "elst") t.edits) (payload_if_of_bytes (codes "elst") t.edits h.edits);
      kept = kept_valid (kept_kinds rules.Track) t.track h.track s.kept;
      media = media_valid t h k s;
      group_descriptions = group_descriptions_valid t h tables;
    }

-- What a `moov` of bytes says of the movie is well formed.
pub movie_head_valid : (m : MovieTree) → MovieOfBytes m → IsMovieTree m → IsSoundMovie m → IsMovieHead (movie_head_of m)
movie_head_valid m h k s =
    let payload = payload_of (codes "mvhd") m.movie in
    let v = version payload in
    let fit = numbers_fit (fields mvhd v) payload (payload_of_bytes (codes "mvhd") m.movie h.movie) in
    let ns = leaf_fields mvhd payload in
    let sound = sound_one (ruled rules.Movie) (codes "mvhd") mvhd refl m.movie s.movie (holds_only k.movie (codes "mvhd") refl) in
    record {
      creation = time_below v (slice_index ns 2) (fit 2);
      modification = time_below v (slice_index ns 3) (fit 3);
      timescale = fit 4;
      timescale_not_0 = eqb_zero (slice_index ns 4) sound.value;
      rate = signed_32 (slice_index ns 6) (fit 6);
      volume = signed_16 (slice_index ns 7) (fit 7);
      matrix = record { nine = refl; fits = signed_each (slice_range ns 11 20) (fit 11, (fit 12, (fit 13, (fit 14, (fit 15, (fit 16, (fit 17, (fit 18, (fit 19, tt))))))))) };
      kept = kept_valid (kept_kinds rules.Movie) m.movie h.movie s.kept;
    }
