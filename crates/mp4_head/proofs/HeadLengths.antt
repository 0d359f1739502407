-- How long heads are.
use Rattle.std.proofs.Common.{◌≡◌, ℕ, ◌+◌, ◌*◌, ◌^◌, ◌<◌, ◌≤◌, List, [], ◌∷◌, ◌++◌, length, drop, get_or, map, refl, ap, arith, length-append}
use Rattle.std.specs.Prelude.{codes}
use Rattle.std.specs.List.{flat_map}
use Rattle.std.proofs.lemmas.List.{drop_more, drop_all}
use Rattle.byteorder.specs.Endian.{big_bytes}
use Rattle.byteorder.specs.Numbers.{length-bytes_high_first}
use Rattle.mp4_boxes.specs.format.Bytes.{sum_of, spelled}
use Rattle.mp4_boxes.specs.format.Layout.{fields, stts, stsc, stsz, stco}
use Rattle.mp4_boxes.specs.format.Written.{box_bytes}
use Rattle.mp4_head.specs.format.Head.{Kept, Edit, Media, TrackHead, MovieHead}
use Rattle.mp4_head.specs.format.Writing.{mvhd_bytes, tkhd_bytes, mdhd_bytes, edts_bytes, edit_bytes, kept_bytes, dinf_bytes, stbl_bytes, mdia_bytes, trak_bytes, trex_bytes, mvex_bytes, moov_bytes, head_bytes, ftyp_bytes, next_track_id}
use Rattle.mp4_head.specs.words.Parts.{capped, descriptions_bytes}
use Rattle.mp4_head.proofs.Pieces.{appended, of_nine}
use Rattle.mp4_boxes.proofs.WrittenBoxes.{length-box_bytes}

-- A number was counted up by the members of a list before a place.
pub record Counted {A : Type 0} (g : A → ℕ) (before : ℕ) (all : List A) (i n : ℕ) : Type 0 where
  pub whole : capped (n + sum_of g (drop i all)) ≡ capped (before + sum_of g all)
  pub fits : n < 2 ^ 128

-- none yet
pub counted_none : {A : Type 0} (g : A → ℕ) (before : ℕ) (all : List A) → before < 2 ^ 128 → Counted g before all 0 before
counted_none g before all fits = record { whole = refl; fits = fits }

-- one more
pub counted_more : {A : Type 0} (g : A → ℕ) (before : ℕ) (all : List A) (i : ℕ) (d : A) (n later : ℕ) → i < length all → later ≡ capped (n + g (get_or all i d)) → Counted g before all i n → Counted g before all (i + 1) later
counted_more g before all i d n later lt e p =
    let behind : sum_of g (drop i all) ≡ g (get_or all i d) + sum_of g (drop (i + 1) all) = ap (sum_of g) (drop_more all i d lt) in
    let w = p.whole in
    record { whole = omega arith; fits = omega arith }

-- all of them
pub counted_all : {A : Type 0} (g : A → ℕ) (before : ℕ) (all : List A) (i n : ℕ) → length all ≤ i → Counted g before all i n → n ≡ capped (before + sum_of g all)
counted_all g before all i n end p =
    let none : sum_of g (drop i all) ≡ 0 = ap (sum_of g) (drop_all i all end) in
    let w = p.whole in
    let fits = p.fits in
    omega arith

-- the length of spellings
pub length_each : {A B : Type 0} (f : B → List ℕ) (v : A → B) (all : List A) → sum_of (λ x. length (f (v x))) all ≡ length (flat_map f (map v all))
length_each f v [] = refl
length_each f v (x ∷ xs) = omega (arith, length-append (f (v x)) (flat_map f (map v xs)), length_each f v xs)

-- a number of members that are seen in another way
pub sum_seen : {A B : Type 0} (g : B → ℕ) (v : A → B) (all : List A) → sum_of (λ x. g (v x)) all ≡ sum_of g (map v all)
sum_seen g v [] = refl
sum_seen g v (x ∷ xs) = ap (λ (n : ℕ). g (v x) + n) (sum_seen g v xs)

-- how many bytes pieces take
abbrev lengths : List (List ℕ) → ℕ
lengths [] = 0
lengths (p ∷ ps) = length p + lengths ps

length_appended : (out : List ℕ) (ps : List (List ℕ)) → length (appended out ps) ≡ length out + lengths ps
length_appended out [] = omega arith
length_appended out (p ∷ ps) = omega (arith, length_appended (out ++ p) ps, length-append out p)

-- any box
pub length_any : (kind payload : List ℕ) → length (box_bytes kind payload) ≡ 4 + length kind + length payload
length_any kind payload = omega (arith, length-append (big_bytes 4 (8 + length payload) ++ kind) payload, length-append (big_bytes 4 (8 + length payload)) kind, length-bytes_high_first 4 (8 + length payload))

-- rows of `elst`
pub length_rows : (edits : List Edit) → length (flat_map edit_bytes edits) ≡ 20 * length edits
length_rows [] = refl
length_rows (e ∷ edits) =
    let one : length (edit_bytes e) ≡ 20 = refl in
    omega (arith, length-append (edit_bytes e) (flat_map edit_bytes edits), one, length_rows edits)

-- `edts` with edits
pub length_edits : (edits : List Edit) → ¬ (length edits ≡ 0) → length (edts_bytes edits) ≡ 24 + 20 * length edits
length_edits [] some = absurd (some refl)
length_edits (e ∷ edits) some = omega (arith, length_rows (e ∷ edits))

-- and none
pub length_no_edits : (edits : List Edit) → length edits ≡ 0 → length (edts_bytes edits) ≡ 0
length_no_edits [] none = refl
length_no_edits (e ∷ edits) none = absurd (omega (arith, none))

length_table : (descriptions : List Kept) (groups : List (List ℕ)) → length (stbl_bytes descriptions groups) ≡ 92 + length (flat_map kept_bytes descriptions) + length (flat_map (box_bytes (codes "sgpd")) groups)
length_table descriptions groups =
    let stsd_is = descriptions_bytes descriptions in
    let one = box_bytes (codes "stts") (spelled (fields stts 0) (0 ∷ 0 ∷ 0 ∷ [])) in
    let two = box_bytes (codes "stsc") (spelled (fields stsc 0) (0 ∷ 0 ∷ 0 ∷ [])) in
    let three = box_bytes (codes "stsz") (spelled (fields stsz 0) (0 ∷ 0 ∷ 0 ∷ 0 ∷ [])) in
    let four = box_bytes (codes "stco") (spelled (fields stco 0) (0 ∷ 0 ∷ 0 ∷ [])) in
    let five = flat_map (box_bytes (codes "sgpd")) groups in
    let a : length one ≡ 16 = refl in
    let b : length two ≡ 16 = refl in
    let c : length three ≡ 20 = refl in
    let d : length four ≡ 16 = refl in
    let e : length stsd_is ≡ 16 + length (flat_map kept_bytes descriptions) = omega arith in
    let f : length (appended stsd_is (one ∷ two ∷ three ∷ four ∷ five ∷ [])) ≡ length stsd_is + (length one + (length two + (length three + (length four + (length five + 0))))) = length_appended stsd_is (one ∷ two ∷ three ∷ four ∷ five ∷ []) in
    let g : length (stbl_bytes descriptions groups) ≡ 8 + length (appended stsd_is (one ∷ two ∷ three ∷ four ∷ five ∷ [])) = length-box_bytes (codes "stbl") (appended stsd_is (one ∷ two ∷ three ∷ four ∷ five ∷ [])) refl in
    omega (arith, a, b, c, d, e, f, g)

length_media : (m : Media) (groups : List (List ℕ)) → length (mdia_bytes m groups) ≡ 188 + length (box_bytes (codes "hdlr") m.handler) + length (flat_map (box_bytes (codes "elng")) m.extended_languages) + length (kept_bytes m.header) + length (flat_map kept_bytes m.descriptions)
    + length (flat_map (box_bytes (codes "sgpd")) groups)
length_media m groups =
    let header : length (mdhd_bytes m) ≡ 44 = refl in
    let table = stbl_bytes m.descriptions groups in
    let dinf : length dinf_bytes ≡ 36 = refl in
    let inner = appended (kept_bytes m.header) (dinf_bytes ∷ table ∷ []) in
    let a : length inner ≡ length (kept_bytes m.header) + (length dinf_bytes + (length table + 0)) = length_appended (kept_bytes m.header) (dinf_bytes ∷ table ∷ []) in
    let b : length (box_bytes (codes "minf") inner) ≡ 8 + length inner = length-box_bytes (codes "minf") inner refl in
    let h = box_bytes (codes "hdlr") m.handler in
    let c : length h ≡ 8 + length m.handler = length-box_bytes (codes "hdlr") m.handler refl in
    let l = flat_map (box_bytes (codes "elng")) m.extended_languages in
    let outer = appended (mdhd_bytes m) (h ∷ l ∷ box_bytes (codes "minf") inner ∷ []) in
    let e : length outer ≡ length (mdhd_bytes m) + (length h + (length l + (length (box_bytes (codes "minf") inner) + 0))) = length_appended (mdhd_bytes m) (h ∷ l ∷ box_bytes (codes "minf") inner ∷ []) in
    let f : length (mdia_bytes m groups) ≡ 8 + length outer = length-box_bytes (codes "mdia") outer refl in
    omega (arith, header, dinf, a, b, c, e, f, length_table m.descriptions groups)

length_track_header : (t : TrackHead) → length t.matrix ≡ 9 → length (tkhd_bytes t) ≡ 104
length_track_header t n = of_nine (λ x. length (tkhd_bytes (record t { matrix = x })) ≡ 104) (λ a b c d e f g h i. refl) t.matrix n

-- `trak` and `trex`
pub length_track : (t : TrackHead) → length t.matrix ≡ 9 → length (trak_bytes t) + length (trex_bytes t)
    ≡ 332 + length (edts_bytes t.edits) + length (flat_map kept_bytes t.kept) + length (box_bytes (codes "hdlr") t.media.handler) + length (flat_map (box_bytes (codes "elng")) t.media.extended_languages) + length (kept_bytes t.media.header) + length (flat_map kept_bytes t.media.descriptions)
    + length (flat_map (box_bytes (codes "sgpd")) t.group_descriptions)
length_track t n =
    let extends : length (trex_bytes t) ≡ 32 = refl in
    let ps = edts_bytes t.edits ∷ flat_map kept_bytes t.kept ∷ mdia_bytes t.media t.group_descriptions ∷ [] in
    let a : length (appended (tkhd_bytes t) (edts_bytes t.edits ∷ flat_map kept_bytes t.kept ∷ mdia_bytes t.media t.group_descriptions ∷ [])) ≡ length (tkhd_bytes t) + (length (edts_bytes t.edits) + (length (flat_map kept_bytes t.kept) + (length (mdia_bytes t.media t.group_descriptions) + 0))) =
    length_appended (tkhd_bytes t) ps in
    let b : length (trak_bytes t) ≡ 8 + length (appended (tkhd_bytes t) (edts_bytes t.edits ∷ flat_map kept_bytes t.kept ∷ mdia_bytes t.media t.group_descriptions ∷ [])) =
    length-box_bytes (codes "trak") (appended (tkhd_bytes t) (edts_bytes t.edits ∷ flat_map kept_bytes t.kept ∷ mdia_bytes t.media t.group_descriptions ∷ [])) refl in
    omega (arith, extends, a, b, length_track_header t n, length_media t.media t.group_descriptions)

length_movie_header : (m : MovieHead) (next : ℕ) → length m.matrix ≡ 9 → length (mvhd_bytes m next) ≡ 120
length_movie_header m next n = of_nine (λ x. length (mvhd_bytes (record m { matrix = x }) next) ≡ 120) (λ a b c d e f g h i. refl) m.matrix n

-- the spellings of two kinds, one after the other
length_both : {A : Type 0} (f g : A → List ℕ) (xs : List A) → sum_of (λ x. length (f x) + length (g x)) xs ≡ length (flat_map f xs) + length (flat_map g xs)
length_both f g [] = refl
length_both f g (x ∷ xs) = omega (arith, length-append (f x) (flat_map f xs), length-append (g x) (flat_map g xs), length_both f g xs)

-- `ftyp` and `moov`
pub length_head : (m : MovieHead) (tracks : List TrackHead) (mehd : ℕ) → length m.matrix ≡ 9 → length (head_bytes m tracks mehd) ≡ 180 + length (flat_map kept_bytes m.kept) + sum_of (λ t. length (trak_bytes t) + length (trex_bytes t)) tracks
length_head m tracks mehd n =
    let header = mvhd_bytes m (next_track_id tracks) in
    let ftyp : length ftyp_bytes ≡ 24 = refl in
    let front = box_bytes (codes "mehd") (spelled (1 ∷ 3 ∷ 8 ∷ []) (1 ∷ 0 ∷ mehd ∷ [])) in
    let a : length front ≡ 20 = refl in
    let b : length (mvex_bytes tracks mehd) ≡ 8 + length (front ++ flat_map trex_bytes tracks) = length-box_bytes (codes "mvex") (front ++ flat_map trex_bytes tracks) refl in
    let c = length-append front (flat_map trex_bytes tracks) in
    let inner = appended header (flat_map kept_bytes m.kept ∷ flat_map trak_bytes tracks ∷ mvex_bytes tracks mehd ∷ []) in
    let d : length inner ≡ length header + (length (flat_map kept_bytes m.kept) + (length (flat_map trak_bytes tracks) + (length (mvex_bytes tracks mehd) + 0))) = length_appended header (flat_map kept_bytes m.kept ∷ flat_map trak_bytes tracks ∷ mvex_bytes tracks mehd ∷ []) in
    let e : length (moov_bytes m tracks mehd) ≡ 8 + length inner = length-box_bytes (codes "moov") inner refl in
    omega (arith, ftyp, a, b, c, d, e, length_movie_header m (next_track_id tracks) n, length-append ftyp_bytes (moov_bytes m tracks mehd), length_both trak_bytes trex_bytes tracks)
