-- What the tree of a `trak` that was written says is the head of the track, and its leaves are sound.
use Rattle.std.proofs.Common.{◌≡◌, ℕ, ◌+◌, ◌^◌, ◌≤◌, Bool, true, false, cond, List, [], ◌∷◌, ◌++◌, length, Option, Some, None, refl, sym, ap, subst, ◌∙◌, lit≤, append_assoc, slice_index}
use Rattle.std.specs.Prelude.{codes, map, bytes_eq}
use Rattle.std.specs.List.{AllByRecursion}
use Rattle.std.proofs.lemmas.List.{append-nil}
use Rattle.mp4_boxes.specs.format.Box.{Box}
use Rattle.mp4_boxes.specs.format.Children.{of_kind, payload_if, is_among, media_headers, kept_kinds}
use Rattle.mp4_boxes.specs.format.Layout.{Leaf, tkhd, leaf_fields}
use Rattle.mp4_boxes.specs.format.Places.{Scope, ruled, sample_entries, leaf_of, IsSoundAs, AreSound}
use Rattle.mp4_boxes.specs.declared.rule.Rule.TheVariants as rules
use Rattle.mp4_boxes.proofs.Each.{each_same}
use Rattle.mp4_boxes.proofs.Among.{all_append}
use Rattle.mp4_boxes.proofs.Joined.{all_first, all_last}
use Rattle.mp4_boxes.proofs.WrittenBoxes.{Content, placed, placed_box, FitsBox, HaveNone, typed, all_placed, all_typed, typed_payloads, payloads_between}
use Rattle.mp4_head.specs.format.Head.{Kept, Media, TrackHead, IsKept, IsDescription, IsGroupDescription, IsMedia, IsTrackHead}
use Rattle.mp4_head.specs.format.Tree.{first_of, first_among, kept_among, edits_of, media_of, track_head_of, NameNoItems, IsSoundTrack}
use Rattle.mp4_head.proofs.Again.{mdhd_again}
use Rattle.mp4_head.proofs.WrittenLeaves.{tkhd_payload, tkhd_again, tkhd_sound, track_again, mdhd_sound, hdlr_sound, stsd_sound, sample_entry_sound, sgpd_sound}
use Rattle.mp4_head.proofs.WrittenContents.{content_of, contents_of, all_kept, fits_in, dinf_payload, table_front, group_contents, table_contents, stbl_payload, stbl_written, table_types, media_front, language_contents, media_back, media_contents, mdia_payload, mdia_written, all_media, edts_contents, track_front, track_middle, track_back, track_contents, trak_payload, all_edts}
use Rattle.mp4_head.proofs.WrittenTrack.{track_boxes, media_boxes, information_boxes, table_boxes, track_tree, has_inner, edts_say, edts_sound}

-- ---- kept boxes

-- the contents of these types, kept
abbrev kept_of : List (List ℕ) → List Content → List Kept
kept_of kinds [] = []
kept_of kinds (k ∷ contents) = cond (is_among kinds k.kind) (record { kind = k.kind; payload = k.payload } ∷ kept_of kinds contents) (kept_of kinds contents)

-- the first box is kept or not
keep_case : (kinds : List (List ℕ)) (b : Box) (bs : List Box) (v : Bool) → is_among kinds b.kind ≡ v
    → kept_among kinds (b ∷ bs) ≡ cond v (record { kind = b.kind; payload = b.payload } ∷ kept_among kinds bs) (kept_among kinds bs)
keep_case kinds b bs true e = rw e refl
keep_case kinds b bs false e = rw e refl

-- what is kept of boxes is what is kept of contents
kept_placed : (kinds : List (List ℕ)) (at : ℕ) (contents : List Content) → kept_among kinds (placed at contents) ≡ kept_of kinds contents
kept_placed kinds at [] = refl
kept_placed kinds at (k ∷ contents) =
    keep_case kinds (record { kind = k.kind; offset = at; header = 8; payload = k.payload }) (placed (at + (8 + length k.payload)) contents) (is_among kinds k.kind) refl
    ∙ ap (λ (l : List Kept). cond (is_among kinds k.kind) (record { kind = k.kind; payload = k.payload } ∷ l) l) (kept_placed kinds (at + (8 + length k.payload)) contents)

-- nothing is kept of contents of other types
kept_behind : (kinds : List (List ℕ)) (front back : List Content) → HaveNone kinds front → kept_of kinds (front ++ back) ≡ kept_of kinds back
kept_behind kinds [] back h = refl
kept_behind kinds (k ∷ front) back h = rw h.0 (kept_behind kinds front back h.1)

-- kept boxes in front are kept
kept_front : (kinds : List (List ℕ)) (kept : List Kept) (back : List Content) → AllByRecursion (IsKept kinds) kept → kept_of kinds (contents_of kept ++ back) ≡ kept ++ kept_of kinds back
kept_front kinds [] back h = refl
kept_front kinds (k ∷ kept) back h = let e : is_among kinds k.kind ≡ true = h.0.kind in rw e (ap (λ (l : List Kept). k ∷ l) (kept_front kinds kept back h.1))

-- Kept boxes that stand between others are the ones that are kept.
pub kept_between : (kinds : List (List ℕ)) (at : ℕ) (front back : List Content) (kept : List Kept) → HaveNone kinds front → AllByRecursion (IsKept kinds) kept → HaveNone kinds back
    → kept_among kinds (placed at (front ++ (contents_of kept ++ back))) ≡ kept
kept_between kinds at front back kept h k n =
    kept_placed kinds at (front ++ (contents_of kept ++ back))
    ∙ kept_behind kinds front (contents_of kept ++ back) h
    ∙ kept_front kinds kept back k
    ∙ ap (λ (l : List Kept). kept ++ l) (ap (kept_of kinds) (sym (append-nil back)) ∙ kept_behind kinds back [] n)
    ∙ append-nil kept

-- they name no items
pub name_none : (kinds : List (List ℕ)) (kept : List Kept) → AllByRecursion (IsKept kinds) kept → NameNoItems kept
name_none kinds [] h = tt
name_none kinds (k ∷ kept) h = (h.0.no_item_location, name_none kinds kept h.1)

-- what is kept of a `trak`
track_kept : (at : ℕ) (t : TrackHead) → IsTrackHead t → kept_among (kept_kinds rules.Track) (track_boxes at t) ≡ t.kept
track_kept at t h =
    let kinds = kept_kinds rules.Track in
    let front = track_front t ++ edts_contents t.edits in
    ap (λ (l : List Content). kept_among kinds (placed (at + 8) l)) (ap (λ (l : List Content). track_front t ++ l) (append_assoc (edts_contents t.edits) (contents_of t.kept) (track_back t)))
    ∙ kept_between kinds (at + 8) front (track_back t) t.kept (refl, all_edts (λ kind. is_among kinds kind ≡ false) t.edits refl) h.kept (refl, tt)

-- ---- media

-- a box as it is kept
abbrev kept_box : Box → Kept
kept_box b = record { kind = b.kind; payload = b.payload }

-- descriptions are kept as they are
descriptions_kept : (at : ℕ) (descriptions : List Kept) → map (λ (b : Box). record { kind = b.kind; payload = b.payload }) (placed at (contents_of descriptions)) ≡ descriptions
descriptions_kept at [] = refl
descriptions_kept at (k ∷ descriptions) = ap (λ (l : List Kept). k ∷ l) (descriptions_kept (at + (8 + length k.payload)) descriptions)

-- the languages are read again
languages_say : (at : ℕ) (m : Media) (groups : List (List ℕ)) → length (mdia_payload m groups) ≤ 2 ^ 30 → map (λ (b : Box). b.payload) (of_kind (codes "elng") (placed at (media_contents m groups))) ≡ m.extended_languages
languages_say at m groups le =
    let payload = mdia_payload m groups in
    let fits = fits_in payload (media_contents m groups) (mdia_written m groups) (all_media (λ kind. length kind ≡ 4) m groups refl refl refl refl) le in
    payloads_between (codes "elng") at (media_front m) (language_contents m) (media_back m groups) (fits.0, (fits.1.0, tt)) (all_first FitsBox (language_contents m) (media_back m groups) fits.1.1) (refl, (refl, tt))
    (all_typed (λ kind. bytes_eq (codes "elng") kind ≡ true) (codes "elng") m.extended_languages refl) (refl, tt)
    ∙ typed_payloads (codes "elng") m.extended_languages

-- the media header is the first of its types
header_first : (b : Box) (bs : List Box) → is_among media_headers b.kind ≡ true → first_among media_headers (b ∷ bs) ≡ b
header_first b bs e = rw e refl

-- the media are read again
media_say : (at : ℕ) (t : TrackHead) → IsTrackHead t → length (mdia_payload t.media t.group_descriptions) ≤ 2 ^ 30 → media_of (track_tree at t) ≡ t.media
media_say at t h le =
    let m = t.media in
    let ns = mdhd_again m h.media in
    let mdia = first_of (codes "mdia") (track_boxes at t) in
    let languages = languages_say (mdia.offset + mdia.header) m t.group_descriptions le in
    let minf = first_of (codes "minf") (media_boxes at t) in
    let at_minf = minf.offset + minf.header in
    let header = ap kept_box (header_first (placed_box at_minf (content_of m.header)) (placed (at_minf + (8 + length m.header.payload)) (typed (codes "dinf") dinf_payload ∷ typed (codes "stbl") (stbl_payload m.descriptions t.group_descriptions) ∷ [])) h.media.header) in
    let stsd = first_of (codes "stsd") (table_boxes at t) in
    let entries = descriptions_kept (stsd.offset + stsd.header + 8) m.descriptions in
    λ i. record {
      creation = slice_index (ns i) 2;
      modification = slice_index (ns i) 3;
      timescale = slice_index (ns i) 4;
      language = slice_index (ns i) 6;
      handler = m.handler;
      extended_languages = languages i;
      header = header i;
      descriptions = entries i;
    }

-- the descriptions of groups are read again
groups_say : (at : ℕ) (descriptions : List Kept) (groups : List (List ℕ)) → length (stbl_payload descriptions groups) ≤ 2 ^ 30
    → map (λ (b : Box). b.payload) (of_kind (codes "sgpd") (placed at (table_contents descriptions groups))) ≡ groups
groups_say at descriptions groups le =
    let front = table_front descriptions in
    let fits = fits_in (stbl_payload descriptions groups) (table_contents descriptions groups) (stbl_written descriptions groups) (table_types descriptions groups) le in
    ap (λ (l : List Content). map (λ (b : Box). b.payload) (of_kind (codes "sgpd") (placed at (front ++ l)))) (sym (append-nil (group_contents groups)))
    ∙ payloads_between (codes "sgpd") at front (group_contents groups) [] (all_first FitsBox front (group_contents groups) fits) (all_last FitsBox front (group_contents groups) fits) (refl, (refl, (refl, (refl, (refl, tt)))))
    (all_typed (λ kind. bytes_eq (codes "sgpd") kind ≡ true) (codes "sgpd") groups refl) tt
    ∙ typed_payloads (codes "sgpd") groups

-- The head that the tree of a written `trak` says is the one that was written.
pub track_head_again : (at : ℕ) (t : TrackHead) → IsTrackHead t → length (trak_payload t) ≤ 2 ^ 30 → track_head_of (track_tree at t) ≡ t
track_head_again at t h le =
    let i = has_inner at t h le in
    let stbl = first_of (codes "stbl") (information_boxes at t) in
    track_again t h (leaf_fields tkhd (tkhd_payload t)) (tkhd_again t h)
    (edits_of (payload_if (codes "elst") (track_tree at t).edits)) (edts_say at t h le)
    (kept_among (kept_kinds rules.Track) (track_boxes at t)) (track_kept at t h)
    (media_of (track_tree at t)) (media_say at t h i.media_small)
    (map (λ (b : Box). b.payload) (of_kind (codes "sgpd") (table_boxes at t))) (groups_say (stbl.offset + stbl.header) t.media.descriptions t.group_descriptions i.table_small)

-- ---- sound leaves

unread_one : (leaf : Option Leaf) (payload : List ℕ) → leaf ≡ None → IsSoundAs leaf payload
unread_one None payload e = tt
unread_one (Some leaf) payload e = absurd cc

-- what is no leaf is not read
pub unread : (scope : Scope) (contents : List Content) → AllByRecursion (λ (k : Content). leaf_of scope k.kind ≡ None) contents → AllByRecursion (λ (k : Content). IsSoundAs (leaf_of scope k.kind) k.payload) contents
unread scope [] h = tt
unread scope (k ∷ contents) h = (unread_one (leaf_of scope k.kind) k.payload h.0, unread scope contents h.1)

-- contents of which each is sound are boxes of which each is
pub sound_placed : (scope : Scope) (at : ℕ) (contents : List Content) → AllByRecursion (λ (k : Content). IsSoundAs (leaf_of scope k.kind) k.payload) contents → AreSound scope (placed at contents)
sound_placed scope at contents h = all_placed (λ kind payload. IsSoundAs (leaf_of scope kind) payload) at contents h

-- the leaves of a `trak` itself are sound
track_sound : (at : ℕ) (t : TrackHead) → IsTrackHead t → AreSound (ruled rules.Track) (track_boxes at t)
track_sound at t h =
    let Sound = λ (k : Content). IsSoundAs (leaf_of (ruled rules.Track) k.kind) k.payload in
    let Unread = λ (kind : List ℕ). leaf_of (ruled rules.Track) kind ≡ None in
    sound_placed (ruled rules.Track) (at + 8) (track_contents t) (
      tkhd_sound t h,
      all_append Sound (track_middle t) (track_back t)
          (all_append Sound (edts_contents t.edits) (contents_of t.kept) (unread (ruled rules.Track) (edts_contents t.edits) (all_edts Unread t.edits refl))
          (unread (ruled rules.Track) (contents_of t.kept) (all_kept Unread (kept_kinds rules.Track) t.kept (each_same (leaf_of (ruled rules.Track)) None (kept_kinds rules.Track) refl) h.kept)))
          (tt, tt),
    )

-- those of an `mdia` are
media_sound : (at : ℕ) (m : Media) (groups : List (List ℕ)) → IsMedia m → AreSound (ruled rules.Media) (placed at (media_contents m groups))
media_sound at m groups h =
    let Sound = λ (k : Content). IsSoundAs (leaf_of (ruled rules.Media) k.kind) k.payload in
    sound_placed (ruled rules.Media) at (media_contents m groups) (
      mdhd_sound m h,
      (
        hdlr_sound m h,
        all_append Sound (language_contents m) (media_back m groups) (unread (ruled rules.Media) (language_contents m) (all_typed (λ kind. leaf_of (ruled rules.Media) kind ≡ None) (codes "elng") m.extended_languages refl)) (tt, tt),
      ),
    )

-- the entries of an `stsd` are
descriptions_sound : (at : ℕ) (descriptions : List Kept) → AllByRecursion IsDescription descriptions → AreSound sample_entries (placed at (contents_of descriptions))
descriptions_sound at [] h = tt
descriptions_sound at (k ∷ descriptions) h = (sample_entry_sound k h.0, descriptions_sound (at + (8 + length k.payload)) descriptions h.1)

-- the `sgpd`s are
group_sound : (groups : List (List ℕ)) → AllByRecursion IsGroupDescription groups → AllByRecursion (λ (k : Content). IsSoundAs (leaf_of (ruled rules.SampleTable) k.kind) k.payload) (group_contents groups)
group_sound [] h = tt
group_sound (payload ∷ groups) h = (sgpd_sound payload h.0, group_sound groups h.1)

-- The tables of a written `trak` are sound.
pub table_sound : (at : ℕ) (t : TrackHead) → IsTrackHead t → AreSound (ruled rules.SampleTable) (table_boxes at t)
table_sound at t h =
    let stbl = first_of (codes "stbl") (information_boxes at t) in
    let Sound = λ (k : Content). IsSoundAs (leaf_of (ruled rules.SampleTable) k.kind) k.payload in
    sound_placed (ruled rules.SampleTable) (stbl.offset + stbl.header) (table_contents t.media.descriptions t.group_descriptions) (
      stsd_sound t.media.descriptions,
      (
        record { readable = record { version = refl; flags = refl; room = lit≤ tt }; value = refl; inside = refl; offsets = refl },
        (
          record { readable = record { version = refl; flags = refl; room = lit≤ tt }; value = refl; inside = refl; offsets = refl },
          (
            record { readable = record { version = refl; flags = refl; room = lit≤ tt }; value = refl; inside = refl; offsets = refl },
            (record { readable = record { version = refl; flags = refl; room = lit≤ tt }; value = refl; inside = refl; offsets = refl }, group_sound t.group_descriptions h.group_descriptions),
          ),
        ),
      ),
    )

-- The leaves of a written `trak` are sound.
pub track_leaves_sound : (at : ℕ) (t : TrackHead) → IsTrackHead t → length (trak_payload t) ≤ 2 ^ 30 → IsSoundTrack (track_tree at t)
track_leaves_sound at t h le =
    let mdia = first_of (codes "mdia") (track_boxes at t) in
    let stsd = first_of (codes "stsd") (table_boxes at t) in
    record {
      track = track_sound at t h;
      kept = subst (λ (l : List Kept). NameNoItems l) (sym (track_kept at t h)) (name_none (kept_kinds rules.Track) t.kept h.kept);
      edits = edts_sound at t h le;
      media = media_sound (mdia.offset + mdia.header) t.media t.group_descriptions h.media;
      data_information = (record { readable = record { version = refl; flags = refl; room = lit≤ tt }; value = refl; inside = refl; offsets = refl }, tt);
      data_references = (record { readable = record { version = refl; flags = refl; room = lit≤ tt }; value = refl; inside = refl; offsets = refl }, tt);
      urls = (refl, tt);
      stsd = stsd_sound t.media.descriptions;
      descriptions = descriptions_sound (stsd.offset + stsd.header + 8) t.media.descriptions h.media.descriptions;
    }
