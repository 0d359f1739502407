-- The contents of the containers of a `trak` that was written, and that each holds the boxes of the profile.
use Rattle.std.proofs.Common.{◌≡◌, ℕ, ◌+◌, ◌^◌, ◌≤◌, Bool, true, false, List, [], ◌∷◌, ◌++◌, length, drop, Option, Some, refl, sym, ap, ap₂, ◌∙◌, arith, append_assoc, length-append, lit≤}
use Rattle.std.specs.Prelude.{codes, map, flat_map, unwrap_or, bytes_eq, IsTrue, if◌then◌else◌}
use Rattle.std.specs.List.{AllByRecursion}
use Rattle.std.proofs.lemmas.List.{append-nil, length-map}
use Rattle.mp4_boxes.specs.format.Bytes.{spelled, field}
use Rattle.mp4_boxes.specs.format.Box.{Box, box_container, counted_container, Tiles}
use Rattle.mp4_boxes.specs.format.Children.{Holds, allows, is_among, media_headers, kept_kinds}
use Rattle.mp4_boxes.specs.format.Layout.{dref, data_entry_url, stsd, stts, stsc, stsz, stco, mdhd, fields}
use Rattle.mp4_boxes.specs.format.Written.{box_bytes}
use Rattle.mp4_boxes.specs.declared.rule.Rule.TheVariants as rules
use Rattle.mp4_boxes.proofs.Each.{each_same, each_tested}
use Rattle.mp4_boxes.proofs.Among.{all_append}
use Rattle.mp4_boxes.proofs.WrittenBoxes.{Content, written, placed, children, FitsBox, AreTypes, HaveNone, typed, found, written-append, tiles_counted, holds_written, fits_written, payload_placed, found_behind, all_typed, typed_written, among_has, count_written, count_around, count_before, count_none, count_written-append}
use Rattle.mp4_boxes.proofs.Plain.{append_four}
use Rattle.mp4_head.specs.format.Head.{Kept, Edit, Media, TrackHead, IsKept, IsDescription, IsMedia, IsTrackHead}
use Rattle.mp4_head.specs.format.Tree.{first_of}
use Rattle.mp4_head.specs.format.Writing.{kept_bytes, edts_bytes, mdhd_bytes, tkhd_bytes}
use Rattle.mp4_head.proofs.Again.{mdhd_numbers}
use Rattle.mp4_head.proofs.Distinct.{payload_first}
use Rattle.mp4_head.proofs.WrittenLeaves.{tkhd_payload, elst_payload, stsd_payload, stsd_count}

-- ---- kept boxes

-- a kept box as a content
abbrev pub content_of : Kept → Content
content_of k = record { kind = k.kind; payload = k.payload }

-- kept boxes as contents
abbrev pub contents_of : List Kept → List Content
contents_of kept = map content_of kept

-- kept boxes are written as their contents
pub kept_written : (kept : List Kept) → flat_map kept_bytes kept ≡ written (contents_of kept)
kept_written [] = refl
kept_written (k ∷ kept) = ap (λ (l : List ℕ). kept_bytes k ++ l) (kept_written kept)

-- what holds of each type that may be kept holds of each kept box
pub all_kept : (P : List ℕ → Type 0) (kinds : List (List ℕ)) (kept : List Kept) → AllByRecursion P kinds → AllByRecursion (IsKept kinds) kept → AllByRecursion (λ (k : Content). P k.kind) (contents_of kept)
all_kept P kinds [] h k = tt
all_kept P kinds (x ∷ kept) h k = (among_has P kinds x.kind h k.0.kind, all_kept P kinds kept h k.1)

-- ---- what is found

-- the first box of a type has the payload that was written
pub first_written : (kind : List ℕ) (at : ℕ) (contents : List Content) (payload : List ℕ) → found kind contents ≡ Some payload → (first_of kind (placed at contents)).payload ≡ payload
first_written kind at contents payload e =
    sym (payload_first kind (placed at contents)) ∙ ap (λ (o : Option (List ℕ)). unwrap_or o []) (payload_placed kind at contents ∙ e)

-- a payload that was written as boxes, and is not too long, fits
pub fits_in : (payload : List ℕ) (contents : List Content) → payload ≡ written contents → AreTypes contents → length payload ≤ 2 ^ 30 → AllByRecursion FitsBox contents
fits_in payload contents e t le = fits_written contents t (omega (arith, ap (λ (l : List ℕ). length l) e))

-- ---- `dinf`

-- the one data reference
abbrev pub url_content : Content
url_content = typed (codes "url ") (spelled (fields data_entry_url 0) (0 ∷ 1 ∷ []))

-- the payload of the `dref`
abbrev pub dref_payload : List ℕ
dref_payload = spelled (fields dref 0) (0 ∷ 0 ∷ 1 ∷ []) ++ box_bytes (codes "url ") (spelled (fields data_entry_url 0) (0 ∷ 1 ∷ []))

-- the payload of the `dinf`
abbrev pub dinf_payload : List ℕ
dinf_payload = box_bytes (codes "dref") dref_payload

-- what a `dinf` holds
abbrev pub dinf_contents : List Content
dinf_contents = typed (codes "dref") dref_payload ∷ []

-- a `dinf` holds its boxes
pub dinf_holds : (b : Box) → b.payload ≡ dinf_payload → Holds rules.DataInformation (box_container b) (children b dinf_contents)
dinf_holds b e = holds_written rules.DataInformation b dinf_contents e (record { kind = refl; size = lit≤ tt }, tt) (refl, tt) (refl, tt)

-- a `dref` is tiled by its one entry
pub dref_tiles : (b : Box) → b.payload ≡ dref_payload → Tiles (counted_container b) (placed (b.offset + b.header + 8) (url_content ∷ []))
dref_tiles b e = tiles_counted b (url_content ∷ []) (ap (drop 8) e) (ap (λ (l : List ℕ). field l 4 4) e) (record { kind = refl; size = lit≤ tt }, tt)

-- ---- `stbl`

-- the boxes of an `stbl` in front of the `sgpd`s
abbrev pub table_front : List Kept → List Content
table_front descriptions =
    typed (codes "stsd") (stsd_payload descriptions) ∷ typed (codes "stts") (spelled (fields stts 0) (0 ∷ 0 ∷ 0 ∷ [])) ∷ typed (codes "stsc") (spelled (fields stsc 0) (0 ∷ 0 ∷ 0 ∷ []))
    ∷ typed (codes "stsz") (spelled (fields stsz 0) (0 ∷ 0 ∷ 0 ∷ 0 ∷ [])) ∷ typed (codes "stco") (spelled (fields stco 0) (0 ∷ 0 ∷ 0 ∷ [])) ∷ []

-- the `sgpd`s
abbrev pub group_contents : List (List ℕ) → List Content
group_contents group_descriptions = map (typed (codes "sgpd")) group_descriptions

-- what an `stbl` holds
abbrev pub table_contents : List Kept → List (List ℕ) → List Content
table_contents descriptions group_descriptions = table_front descriptions ++ group_contents group_descriptions

-- the payload of an `stbl`
abbrev pub stbl_payload : List Kept → List (List ℕ) → List ℕ
stbl_payload descriptions group_descriptions =
    box_bytes (codes "stsd") (spelled (fields stsd 0) (0 ∷ 0 ∷ length descriptions ∷ []) ++ flat_map kept_bytes descriptions)
    ++ box_bytes (codes "stts") (spelled (fields stts 0) (0 ∷ 0 ∷ 0 ∷ []))
    ++ box_bytes (codes "stsc") (spelled (fields stsc 0) (0 ∷ 0 ∷ 0 ∷ []))
    ++ box_bytes (codes "stsz") (spelled (fields stsz 0) (0 ∷ 0 ∷ 0 ∷ 0 ∷ []))
    ++ box_bytes (codes "stco") (spelled (fields stco 0) (0 ∷ 0 ∷ 0 ∷ []))
    ++ flat_map (box_bytes (codes "sgpd")) group_descriptions

-- six lists joined, bracketed to the right
six : (a b c d e f : List ℕ) → a ++ b ++ c ++ d ++ e ++ f ≡ a ++ (b ++ (c ++ (d ++ (e ++ f))))
six a b c d e f = simp append_assoc

-- it is written as what it holds
pub stbl_written : (descriptions : List Kept) (group_descriptions : List (List ℕ)) → stbl_payload descriptions group_descriptions ≡ written (table_contents descriptions group_descriptions)
stbl_written descriptions group_descriptions =
    six (box_bytes (codes "stsd") (stsd_payload descriptions)) (box_bytes (codes "stts") (spelled (fields stts 0) (0 ∷ 0 ∷ 0 ∷ []))) (box_bytes (codes "stsc") (spelled (fields stsc 0) (0 ∷ 0 ∷ 0 ∷ [])))
    (box_bytes (codes "stsz") (spelled (fields stsz 0) (0 ∷ 0 ∷ 0 ∷ 0 ∷ []))) (box_bytes (codes "stco") (spelled (fields stco 0) (0 ∷ 0 ∷ 0 ∷ []))) (flat_map (box_bytes (codes "sgpd")) group_descriptions)
    ∙ ap (λ (l : List ℕ). box_bytes (codes "stsd") (stsd_payload descriptions) ++ (box_bytes (codes "stts") (spelled (fields stts 0) (0 ∷ 0 ∷ 0 ∷ [])) ++ (box_bytes (codes "stsc") (spelled (fields stsc 0) (0 ∷ 0 ∷ 0 ∷ []))
    ++ (box_bytes (codes "stsz") (spelled (fields stsz 0) (0 ∷ 0 ∷ 0 ∷ 0 ∷ [])) ++ (box_bytes (codes "stco") (spelled (fields stco 0) (0 ∷ 0 ∷ 0 ∷ [])) ++ l))))) (typed_written (codes "sgpd") group_descriptions)

-- they are types of four letters
pub table_types : (descriptions : List Kept) (group_descriptions : List (List ℕ)) → AreTypes (table_contents descriptions group_descriptions)
table_types descriptions group_descriptions = (refl, (refl, (refl, (refl, (refl, all_typed (λ kind. length kind ≡ 4) (codes "sgpd") group_descriptions refl)))))

-- an `sgpd` has none of some types where its own is none of them
no_groups : (kinds : List (List ℕ)) (group_descriptions : List (List ℕ)) → is_among kinds (codes "sgpd") ≡ false → HaveNone kinds (group_contents group_descriptions)
no_groups kinds group_descriptions e = all_typed (λ kind. is_among kinds kind ≡ false) (codes "sgpd") group_descriptions e

-- an `stbl` holds its boxes
pub stbl_holds : (b : Box) (descriptions : List Kept) (group_descriptions : List (List ℕ)) → b.payload ≡ stbl_payload descriptions group_descriptions → length b.payload ≤ 2 ^ 30
    → Holds rules.SampleTable (box_container b) (children b (table_contents descriptions group_descriptions))
stbl_holds b descriptions group_descriptions e le =
    let front = table_front descriptions in
    let groups = group_contents group_descriptions in
    let same : b.payload ≡ written (front ++ groups) = e ∙ stbl_written descriptions group_descriptions in
    let count = λ (kinds : List (List ℕ)) (n : is_among kinds (codes "sgpd") ≡ false). count_before kinds front groups (no_groups kinds group_descriptions n) in
    let none = λ (kinds : List (List ℕ)) (n : is_among kinds (codes "sgpd") ≡ false) (z : count_written kinds front ≡ 0). few (count_written kinds (front ++ groups)) (count kinds n ∙ z) in
    holds_written rules.SampleTable b (front ++ groups) same (fits_in b.payload (front ++ groups) same (table_types descriptions group_descriptions) le)
    (refl, (refl, (refl, (refl, (refl, all_typed (λ kind. IsTrue (allows rules.SampleTable kind)) (codes "sgpd") group_descriptions refl))))) (
      count (codes "stsd" ∷ []) refl,
      (
        count (codes "stts" ∷ []) refl,
        (
          count (codes "stsc" ∷ []) refl,
          (
            count (codes "stsz" ∷ codes "stz2" ∷ []) refl,
            (
              count (codes "stco" ∷ codes "co64" ∷ []) refl,
              (none (codes "ctts" ∷ []) refl refl, (none (codes "stss" ∷ []) refl refl, (none (codes "sdtp" ∷ []) refl refl, (none (codes "cslg" ∷ []) refl refl, (tt, (tt, tt)))))),
            ),
          ),
        ),
      ),
    )
  where
    few : (n : ℕ) → n ≡ 0 → n ≤ 1
    few n z = omega arith

-- ---- the entries of `stsd`

-- the types of descriptions have four letters
pub description_types : (descriptions : List Kept) → AllByRecursion IsDescription descriptions → AreTypes (contents_of descriptions)
description_types [] h = tt
description_types (k ∷ descriptions) h = (h.0.kind_length, description_types descriptions h.1)

-- there are no more contents than bytes
pub count_within : (contents : List Content) → length contents ≤ length (written contents)
count_within [] = omega arith
count_within (k ∷ contents) = omega (arith, count_within contents, length-append (box_bytes k.kind k.payload) (written contents))

-- an `stsd` is tiled by the descriptions
pub stsd_tiles : (b : Box) (descriptions : List Kept) → AllByRecursion IsDescription descriptions → b.payload ≡ stsd_payload descriptions → length b.payload ≤ 2 ^ 30
    → Tiles (counted_container b) (placed (b.offset + b.header + 8) (contents_of descriptions))
stsd_tiles b descriptions h e le =
    let contents = contents_of descriptions in
    let bytes : drop 8 b.payload ≡ written contents = ap (drop 8) e ∙ kept_written descriptions in
    let front = spelled (fields stsd 0) (0 ∷ 0 ∷ length descriptions ∷ []) in
    let long : length b.payload ≡ length (front ++ written contents) = ap (λ (l : List ℕ). length l) e ∙ ap (λ (l : List ℕ). length (front ++ l)) (kept_written descriptions) in
    let many : length descriptions ≡ length contents = sym (length-map descriptions content_of) in
    let few = count_within contents in
    tiles_counted b contents bytes (ap (λ (l : List ℕ). field l 4 4) e ∙ stsd_count descriptions (omega arith) ∙ many) (fits_written contents (description_types descriptions h) (omega arith))

-- ---- `minf`

-- what a `minf` holds
abbrev pub information_contents : Kept → List Kept → List (List ℕ) → List Content
information_contents header descriptions group_descriptions =
    content_of header ∷ typed (codes "dinf") dinf_payload ∷ typed (codes "stbl") (stbl_payload descriptions group_descriptions) ∷ []

-- the payload of a `minf`
abbrev pub minf_payload : Kept → List Kept → List (List ℕ) → List ℕ
minf_payload header descriptions group_descriptions = kept_bytes header ++ box_bytes (codes "dinf") dinf_payload ++ box_bytes (codes "stbl") (stbl_payload descriptions group_descriptions)

-- three lists joined, bracketed to the right
three : (a b c : List ℕ) → a ++ b ++ c ≡ a ++ (b ++ (c ++ []))
three a b c = append_assoc a b c ∙ ap (λ (l : List ℕ). a ++ (b ++ l)) (sym (append-nil c))

-- it is written as what it holds
pub minf_written : (header : Kept) (descriptions : List Kept) (group_descriptions : List (List ℕ)) → minf_payload header descriptions group_descriptions ≡ written (information_contents header descriptions group_descriptions)
minf_written header descriptions group_descriptions = three (kept_bytes header) (box_bytes (codes "dinf") dinf_payload) (box_bytes (codes "stbl") (stbl_payload descriptions group_descriptions))

-- what holds of the type of each media header
pub header_has : (P : List ℕ → Type 0) (m : Media) → IsMedia m → AllByRecursion P media_headers → P m.header.kind
header_has P m h all = among_has P media_headers m.header.kind all h.header

-- they are types of four letters
pub minf_types : (m : Media) → IsMedia m → (group_descriptions : List (List ℕ)) → AreTypes (information_contents m.header m.descriptions group_descriptions)
minf_types m h group_descriptions = (header_has (λ kind. length kind ≡ 4) m h (refl, (refl, (refl, (refl, (refl, (refl, tt)))))), (refl, (refl, tt)))

-- a count of one
one_header : (v : Bool) → v ≡ true → (if v then 1 else 0) + (0 + (0 + 0)) ≡ 1
one_header v e = rw e refl

-- a count without the first
not_header : (v : Bool) (n : ℕ) → v ≡ false → (if v then 1 else 0) + n ≡ n
not_header v n e = rw e (omega arith)

-- a `minf` holds its boxes
pub minf_holds : (b : Box) (m : Media) → IsMedia m → (group_descriptions : List (List ℕ)) → b.payload ≡ minf_payload m.header m.descriptions group_descriptions → length b.payload ≤ 2 ^ 30
    → Holds rules.MediaInformation (box_container b) (children b (information_contents m.header m.descriptions group_descriptions))
minf_holds b m h group_descriptions e le =
    let contents = information_contents m.header m.descriptions group_descriptions in
    let same = e ∙ minf_written m.header m.descriptions group_descriptions in
    holds_written rules.MediaInformation b contents same (fits_in b.payload contents same (minf_types m h group_descriptions) le)
    (header_has (λ kind. IsTrue (allows rules.MediaInformation kind)) m h (refl, (refl, (refl, (refl, (refl, (refl, tt)))))), (refl, (refl, tt))) (
      one_header (is_among media_headers m.header.kind) h.header,
      (
        not_header (is_among (codes "dinf" ∷ []) m.header.kind) 1 (header_has (λ kind. is_among (codes "dinf" ∷ []) kind ≡ false) m h (refl, (refl, (refl, (refl, (refl, (refl, tt))))))),
        (not_header (is_among (codes "stbl" ∷ []) m.header.kind) 1 (header_has (λ kind. is_among (codes "stbl" ∷ []) kind ≡ false) m h (refl, (refl, (refl, (refl, (refl, (refl, tt))))))), tt),
      ),
    )

-- what is found behind the media header
behind_header : (kind : List ℕ) (header : Kept) (contents : List Content) → bytes_eq kind header.kind ≡ false → found kind (content_of header ∷ contents) ≡ found kind contents
behind_header kind header contents e = rw e refl

-- the `dinf` is found
pub dinf_found : (m : Media) → IsMedia m → (group_descriptions : List (List ℕ)) → found (codes "dinf") (information_contents m.header m.descriptions group_descriptions) ≡ Some dinf_payload
dinf_found m h group_descriptions =
    behind_header (codes "dinf") m.header (typed (codes "dinf") dinf_payload ∷ typed (codes "stbl") (stbl_payload m.descriptions group_descriptions) ∷ [])
    (header_has (λ kind. bytes_eq (codes "dinf") kind ≡ false) m h (refl, (refl, (refl, (refl, (refl, (refl, tt)))))))

-- the `stbl` is found
pub stbl_found : (m : Media) → IsMedia m → (group_descriptions : List (List ℕ)) → found (codes "stbl") (information_contents m.header m.descriptions group_descriptions) ≡ Some (stbl_payload m.descriptions group_descriptions)
stbl_found m h group_descriptions =
    behind_header (codes "stbl") m.header (typed (codes "dinf") dinf_payload ∷ typed (codes "stbl") (stbl_payload m.descriptions group_descriptions) ∷ [])
    (header_has (λ kind. bytes_eq (codes "stbl") kind ≡ false) m h (refl, (refl, (refl, (refl, (refl, (refl, tt)))))))

-- ---- `mdia`

-- the boxes of an `mdia` in front of the languages
abbrev pub media_front : Media → List Content
media_front m = typed (codes "mdhd") (spelled (fields mdhd 1) (mdhd_numbers m)) ∷ typed (codes "hdlr") m.handler ∷ []

-- the languages
abbrev pub language_contents : Media → List Content
language_contents m = map (typed (codes "elng")) m.extended_languages

-- what follows them
abbrev pub media_back : Media → List (List ℕ) → List Content
media_back m group_descriptions = typed (codes "minf") (minf_payload m.header m.descriptions group_descriptions) ∷ []

-- what an `mdia` holds
abbrev pub media_contents : Media → List (List ℕ) → List Content
media_contents m group_descriptions = media_front m ++ (language_contents m ++ media_back m group_descriptions)

-- the payload of an `mdia`
abbrev pub mdia_payload : Media → List (List ℕ) → List ℕ
mdia_payload m group_descriptions =
    mdhd_bytes m
    ++ box_bytes (codes "hdlr") m.handler
    ++ flat_map (box_bytes (codes "elng")) m.extended_languages
    ++ box_bytes (codes "minf") (minf_payload m.header m.descriptions group_descriptions)

-- it is written as what it holds
pub mdia_written : (m : Media) (group_descriptions : List (List ℕ)) → mdia_payload m group_descriptions ≡ written (media_contents m group_descriptions)
mdia_written m group_descriptions =
    let minf = box_bytes (codes "minf") (minf_payload m.header m.descriptions group_descriptions) in
    append_four (mdhd_bytes m) (box_bytes (codes "hdlr") m.handler) (flat_map (box_bytes (codes "elng")) m.extended_languages) minf
    ∙ ap (λ (l : List ℕ). mdhd_bytes m ++ (box_bytes (codes "hdlr") m.handler ++ l))
    (ap₂ (λ (a b : List ℕ). a ++ b) (typed_written (codes "elng") m.extended_languages) (sym (append-nil minf)) ∙ sym (written-append (language_contents m) (media_back m group_descriptions)))

-- what holds of each type of an `mdia` holds of each content
pub all_media : (P : List ℕ → Type 0) (m : Media) (group_descriptions : List (List ℕ)) → P (codes "mdhd") → P (codes "hdlr") → P (codes "elng") → P (codes "minf") → AllByRecursion (λ (k : Content). P k.kind) (media_contents m group_descriptions)
all_media P m group_descriptions a b c d = (a, (b, all_append (λ (k : Content). P k.kind) (language_contents m) (media_back m group_descriptions) (all_typed P (codes "elng") m.extended_languages c) (d, tt)))

-- an `mdia` holds its boxes
pub mdia_holds : (b : Box) (m : Media) (group_descriptions : List (List ℕ)) → b.payload ≡ mdia_payload m group_descriptions → length b.payload ≤ 2 ^ 30
    → Holds rules.Media (box_container b) (children b (media_contents m group_descriptions))
mdia_holds b m group_descriptions e le =
    let contents = media_contents m group_descriptions in
    let same = e ∙ mdia_written m group_descriptions in
    let count = λ (kinds : List (List ℕ)) (n : is_among kinds (codes "elng") ≡ false). count_around kinds (media_front m) (language_contents m) (media_back m group_descriptions) (all_typed (λ kind. is_among kinds kind ≡ false) (codes "elng") m.extended_languages n) in
    holds_written rules.Media b contents same (fits_in b.payload contents same (all_media (λ kind. length kind ≡ 4) m group_descriptions refl refl refl refl) le)
    (all_media (λ kind. IsTrue (allows rules.Media kind)) m group_descriptions refl refl refl refl)
    (count (codes "mdhd" ∷ []) refl, (count (codes "hdlr" ∷ []) refl, (count (codes "minf" ∷ []) refl, (tt, tt))))

-- the `minf` is found
pub minf_found : (m : Media) (group_descriptions : List (List ℕ)) → found (codes "minf") (media_contents m group_descriptions) ≡ Some (minf_payload m.header m.descriptions group_descriptions)
minf_found m group_descriptions = found_behind (codes "minf") (language_contents m) (media_back m group_descriptions) (all_typed (λ kind. bytes_eq (codes "minf") kind ≡ false) (codes "elng") m.extended_languages refl)

-- ---- `edts`

-- what an `edts` holds
abbrev pub edits_contents : List Edit → List Content
edits_contents edits = typed (codes "elst") (elst_payload edits) ∷ []

-- the `edts`, if there are edits
abbrev pub edts_contents : List Edit → List Content
edts_contents [] = []
edts_contents (e ∷ edits) = typed (codes "edts") (box_bytes (codes "elst") (elst_payload (e ∷ edits))) ∷ []

-- it is written so
edts_written : (edits : List Edit) → edts_bytes edits ≡ written (edts_contents edits)
edts_written [] = refl
edts_written (e ∷ edits) = sym (append-nil (edts_bytes (e ∷ edits)))

-- what holds of the type holds of the `edts`
pub all_edts : (P : List ℕ → Type 0) (edits : List Edit) → P (codes "edts") → AllByRecursion (λ (k : Content). P k.kind) (edts_contents edits)
all_edts P [] h = tt
all_edts P (e ∷ edits) h = (h, tt)

-- there is at most one
few_edts : (edits : List Edit) → count_written (codes "edts" ∷ []) (edts_contents edits) ≤ 1
few_edts [] = omega arith
few_edts (e ∷ edits) = omega arith

-- ---- `trak`

-- the first box of a `trak`
abbrev pub track_front : TrackHead → List Content
track_front t = typed (codes "tkhd") (tkhd_payload t) ∷ []

-- the `edts` and what is kept
abbrev pub track_middle : TrackHead → List Content
track_middle t = edts_contents t.edits ++ contents_of t.kept

-- the last box
abbrev pub track_back : TrackHead → List Content
track_back t = typed (codes "mdia") (mdia_payload t.media t.group_descriptions) ∷ []

-- what a `trak` holds
abbrev pub track_contents : TrackHead → List Content
track_contents t = track_front t ++ (track_middle t ++ track_back t)

-- the payload of a `trak`
abbrev pub trak_payload : TrackHead → List ℕ
trak_payload t = tkhd_bytes t ++ edts_bytes t.edits ++ flat_map kept_bytes t.kept ++ box_bytes (codes "mdia") (mdia_payload t.media t.group_descriptions)

-- four lists joined, bracketed as the contents are
four_more : (a b c d : List ℕ) → a ++ b ++ c ++ d ≡ a ++ ((b ++ c) ++ (d ++ []))
four_more a b c d = simp (append_assoc, append-nil)

-- it is written as what it holds
pub trak_written : (t : TrackHead) → trak_payload t ≡ written (track_contents t)
trak_written t =
    let mdia = box_bytes (codes "mdia") (mdia_payload t.media t.group_descriptions) in
    four_more (tkhd_bytes t) (edts_bytes t.edits) (flat_map kept_bytes t.kept) mdia
    ∙ ap (λ (l : List ℕ). tkhd_bytes t ++ (l ++ (mdia ++ []))) (ap₂ (λ (a b : List ℕ). a ++ b) (edts_written t.edits) (kept_written t.kept) ∙ sym (written-append (edts_contents t.edits) (contents_of t.kept)))
    ∙ ap (λ (l : List ℕ). tkhd_bytes t ++ l) (sym (written-append (track_middle t) (track_back t)))

-- what holds of each type holds of each content in the middle
pub all_middle : (P : List ℕ → Type 0) (t : TrackHead) → IsTrackHead t → P (codes "edts") → AllByRecursion P (kept_kinds rules.Track) → AllByRecursion (λ (k : Content). P k.kind) (track_middle t)
all_middle P t h b c = all_append (λ (k : Content). P k.kind) (edts_contents t.edits) (contents_of t.kept) (all_edts P t.edits b) (all_kept P (kept_kinds rules.Track) t.kept c h.kept)

-- what holds of each type of a `trak` holds of each content
pub all_track : (P : List ℕ → Type 0) (t : TrackHead) → IsTrackHead t → P (codes "tkhd") → P (codes "edts") → AllByRecursion P (kept_kinds rules.Track) → P (codes "mdia") → AllByRecursion (λ (k : Content). P k.kind) (track_contents t)
all_track P t h a b c d = (a, all_append (λ (k : Content). P k.kind) (track_middle t) (track_back t) (all_middle P t h b c) (d, tt))

-- a `trak` has at most one `edts`
few_in_track : (t : TrackHead) → IsTrackHead t → count_written (codes "edts" ∷ []) (track_contents t) ≤ 1
few_in_track t h =
    let kinds = codes "edts" ∷ [] in
    let kept = all_kept (λ kind. is_among kinds kind ≡ false) (kept_kinds rules.Track) t.kept (each_same (is_among kinds) false (kept_kinds rules.Track) refl) h.kept in
    omega (arith, few_edts t.edits, count_written-append kinds (track_front t) (track_middle t ++ track_back t), count_written-append kinds (track_middle t) (track_back t), count_written-append kinds (edts_contents t.edits) (contents_of t.kept), count_none kinds (contents_of t.kept) kept)

-- a `trak` holds its boxes
pub trak_holds : (b : Box) (t : TrackHead) → IsTrackHead t → b.payload ≡ trak_payload t → length b.payload ≤ 2 ^ 30 → Holds rules.Track (box_container b) (children b (track_contents t))
trak_holds b t h e le =
    let contents = track_contents t in
    let same = e ∙ trak_written t in
    let count = λ (kinds : List (List ℕ)) (n : is_among kinds (codes "edts") ≡ false) (m : AllByRecursion (λ kind. is_among kinds kind ≡ false) (kept_kinds rules.Track)). count_around kinds (track_front t) (track_middle t) (track_back t) (all_middle (λ kind. is_among kinds kind ≡ false) t h n m) in
    holds_written rules.Track b contents same (fits_in b.payload contents same (all_track (λ kind. length kind ≡ 4) t h refl refl (each_same (λ (kind : List ℕ). length kind) 4 (kept_kinds rules.Track) refl) refl) le)
    (all_track (λ kind. IsTrue (allows rules.Track kind)) t h refl refl (each_tested (allows rules.Track) (kept_kinds rules.Track) refl) refl)
    (count (codes "tkhd" ∷ []) refl (each_same (is_among (codes "tkhd" ∷ [])) false (kept_kinds rules.Track) refl), (count (codes "mdia" ∷ []) refl (each_same (is_among (codes "mdia" ∷ [])) false (kept_kinds rules.Track) refl), (few_in_track t h, (tt, tt))))

-- the `mdia` is found
pub mdia_found : (t : TrackHead) → IsTrackHead t → found (codes "mdia") (track_contents t) ≡ Some (mdia_payload t.media t.group_descriptions)
mdia_found t h = found_behind (codes "mdia") (track_middle t) (track_back t) (all_middle (λ kind. bytes_eq (codes "mdia") kind ≡ false) t h refl (each_same (bytes_eq (codes "mdia")) false (kept_kinds rules.Track) refl))
