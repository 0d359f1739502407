-- The head of the normal form: `ftyp` and `moov` (ISO/IEC 14496-12, 4.3 and 8.1 to 8.8.3).
use Rattle.std.specs.Prelude.{ℕ, ◌+◌, ◌-◌, ◌^◌, min, max, List, [], ◌∷◌, ◌++◌, length, map, fold, flat_map, replicate, codes}
use Rattle.byteorder.specs.Endian.{big_bytes}
use Rattle.mp4_boxes.specs.format.Bytes.{spelled, unsigned}
use Rattle.mp4_boxes.specs.format.Written.{box_bytes}
use Rattle.mp4_boxes.specs.format.Layout.{mvhd, tkhd, mdhd, elst, dref, data_entry_url, stsd, stts, stsc, stsz, stco, trex, fields, row}
use Rattle.mp4_head.specs.format.Head.{Kept, Edit, Media, TrackHead, MovieHead}

abbrev pub kept_bytes : Kept → List ℕ
kept_bytes k = box_bytes k.kind k.payload

-- brands: `iso6` is the least that has default-base-is-moof and `tfdt` of version 1
abbrev pub ftyp_bytes : List ℕ
ftyp_bytes = box_bytes (codes "ftyp") (codes "iso6" ++ big_bytes 4 0 ++ codes "iso6"
    ++ codes "mp41")

-- durations, reserved and pre_defined fields are 0
abbrev pub mvhd_bytes : MovieHead → ℕ → List ℕ
mvhd_bytes m next_track_id = box_bytes (codes "mvhd") (spelled (fields mvhd 1)
    (1 ∷ 0 ∷ m.creation ∷ m.modification ∷ m.timescale ∷ 0 ∷ unsigned 4 m.rate ∷ unsigned 2 m.volume
    ∷ 0 ∷ 0 ∷ 0 ∷ (map (unsigned 4) m.matrix ++ replicate 6 0 ++ next_track_id ∷ [])))

abbrev pub tkhd_bytes : TrackHead → List ℕ
tkhd_bytes t = box_bytes (codes "tkhd") (spelled (fields tkhd 1)
    (1 ∷ t.flags ∷ t.creation ∷ t.modification ∷ t.id ∷ 0 ∷ 0 ∷ 0 ∷ 0 ∷ unsigned 2 t.layer
    ∷ unsigned 2 t.alternate_group ∷ unsigned 2 t.volume ∷ 0
    ∷ (map (unsigned 4) t.matrix ++ t.width ∷ t.height ∷ [])))

abbrev pub edit_bytes : Edit → List ℕ
edit_bytes e = spelled (row elst 1) (e.segment_duration ∷ unsigned 8 e.media_time
    ∷ unsigned 2 e.rate_integer ∷ unsigned 2 e.rate_fraction ∷ [])

-- `edts` with `elst`, if there are edits
abbrev pub edts_bytes : List Edit → List ℕ
edts_bytes [] = []
edts_bytes (e ∷ edits) =
    box_bytes (codes "edts")
    (box_bytes (codes "elst") (spelled (fields elst 1) (1 ∷ 0 ∷ length (e ∷ edits) ∷ [])
    ++ flat_map edit_bytes (e ∷ edits)))

abbrev pub mdhd_bytes : Media → List ℕ
mdhd_bytes m =
    box_bytes (codes "mdhd")
    (spelled (fields mdhd 1) (1 ∷ 0 ∷ m.creation ∷ m.modification ∷ m.timescale ∷ 0 ∷ m.language
    ∷ 0 ∷ []))

-- one data reference: this file
abbrev pub dinf_bytes : List ℕ
dinf_bytes = box_bytes (codes "dinf")
    (box_bytes (codes "dref") (spelled (fields dref 0) (0 ∷ 0 ∷ 1 ∷ [])
    ++ box_bytes (codes "url ") (spelled (fields data_entry_url 0) (0 ∷ 1 ∷ []))))

-- the descriptions, tables without rows, and what describes groups
abbrev pub stbl_bytes : List Kept → List (List ℕ) → List ℕ
stbl_bytes descriptions group_descriptions = box_bytes (codes "stbl") (
    box_bytes (codes "stsd") (spelled (fields stsd 0) (0 ∷ 0 ∷ length descriptions ∷ [])
    ++ flat_map kept_bytes descriptions)
    ++ box_bytes (codes "stts") (spelled (fields stts 0) (0 ∷ 0 ∷ 0 ∷ []))
    ++ box_bytes (codes "stsc") (spelled (fields stsc 0) (0 ∷ 0 ∷ 0 ∷ []))
    ++ box_bytes (codes "stsz") (spelled (fields stsz 0) (0 ∷ 0 ∷ 0 ∷ 0 ∷ []))
    ++ box_bytes (codes "stco") (spelled (fields stco 0) (0 ∷ 0 ∷ 0 ∷ []))
    ++ flat_map (box_bytes (codes "sgpd")) group_descriptions)

abbrev pub mdia_bytes : Media → List (List ℕ) → List ℕ
mdia_bytes m group_descriptions = box_bytes (codes "mdia") (
    mdhd_bytes m
    ++ box_bytes (codes "hdlr") m.handler
    ++ flat_map (box_bytes (codes "elng")) m.extended_languages
    ++ box_bytes (codes "minf") (kept_bytes m.header ++ dinf_bytes
    ++ stbl_bytes m.descriptions group_descriptions))

abbrev pub trak_bytes : TrackHead → List ℕ
trak_bytes t = box_bytes (codes "trak") (tkhd_bytes t ++ edts_bytes t.edits
    ++ flat_map kept_bytes t.kept ++ mdia_bytes t.media t.group_descriptions)

abbrev pub trex_bytes : TrackHead → List ℕ
trex_bytes t =
    box_bytes (codes "trex") (spelled (fields trex 0) (0 ∷ 0 ∷ t.id ∷ 1 ∷ 0 ∷ 0 ∷ 0 ∷ []))

-- `mehd` (8.8.2) of version 1, and a `trex` for each track
abbrev pub mvex_bytes : List TrackHead → ℕ → List ℕ
mvex_bytes tracks duration =
    box_bytes (codes "mvex")
    (box_bytes (codes "mehd") (spelled (1 ∷ 3 ∷ 8 ∷ []) (1 ∷ 0 ∷ duration ∷ []))
    ++ flat_map trex_bytes tracks)

-- one above the largest ID, as far as 32 bits go
abbrev pub next_track_id : List TrackHead → ℕ
next_track_id tracks = min (fold (λ largest (t : TrackHead). max largest t.id) 0 tracks + 1)
    (2 ^ 32 - 1)

abbrev pub moov_bytes : MovieHead → List TrackHead → ℕ → List ℕ
moov_bytes movie tracks duration = box_bytes (codes "moov") (
    mvhd_bytes movie (next_track_id tracks) ++ flat_map kept_bytes movie.kept
    ++ flat_map trak_bytes tracks ++ mvex_bytes tracks duration)

-- `ftyp` and `moov`
abbrev pub head_bytes : MovieHead → List TrackHead → ℕ → List ℕ
head_bytes movie tracks duration = ftyp_bytes ++ moov_bytes movie tracks duration
