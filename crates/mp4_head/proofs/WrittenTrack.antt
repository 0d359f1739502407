-- The tree of a `trak` that was written, and the head that it says.
use Rattle.std.proofs.Common.{◌≡◌, ℕ, ◌+◌, ◌^◌, ◌<◌, ◌≤◌, false, List, [], ◌∷◌, ◌++◌, length, Some, refl, sym, ap, subst, ◌∙◌, arith, append_assoc, length-append, lit≤}
use Rattle.std.specs.Prelude.{codes, flat_map, bytes_eq}
use Rattle.std.specs.List.{AllByRecursion}
use Rattle.std.proofs.lemmas.List.{append-nil}
use Rattle.mp4_boxes.specs.format.Bytes.{spelled}
use Rattle.mp4_boxes.specs.format.Box.{Box, box_container}
use Rattle.mp4_boxes.specs.format.Children.{Holds, of_kind, payload_if, kept_kinds}
use Rattle.mp4_boxes.specs.format.Layout.{fields, elst}
use Rattle.mp4_boxes.specs.format.Written.{box_bytes}
use Rattle.mp4_boxes.specs.format.Places.{ruled, AreSound}
use Rattle.mp4_boxes.specs.declared.rule.Rule.TheVariants as rules
use Rattle.mp4_boxes.proofs.Each.{each_same}
use Rattle.mp4_boxes.proofs.Among.{all_append}
use Rattle.mp4_boxes.proofs.WrittenBoxes.{Content, written, placed, placed_box, children, AreTypes, AreOther, typed, found, found_size, holds_written, of_kind-none}
use Rattle.mp4_head.specs.format.Head.{Edit, TrackHead, IsEdit, IsTrackHead}
use Rattle.mp4_head.specs.format.Tree.{TrackTree, first_of, HoldsIfThere, IsTrackTree, edits_of}
use Rattle.mp4_head.specs.format.Writing.{edts_bytes, tkhd_bytes, kept_bytes, edit_bytes}
use Rattle.mp4_head.proofs.WrittenLeaves.{tkhd_payload, elst_payload, elst_sound, edits_again, stsd_payload}
use Rattle.mp4_head.proofs.WrittenContents.{contents_of, all_kept, first_written, url_content, dinf_payload, dinf_contents, dinf_holds, dref_tiles, table_contents, stbl_payload, stbl_written, table_types, stbl_holds, stsd_tiles, information_contents, minf_payload, minf_written, minf_types, minf_holds, dinf_found, stbl_found, media_contents, mdia_payload, mdia_written, all_media, mdia_holds, minf_found, edits_contents, edts_contents, track_back, track_contents, trak_payload, trak_written, all_track, trak_holds, mdia_found}
use Rattle.mp4_head.proofs.HeadLengths.{length_rows}

-- ---- the tree

-- the `trak` of a track
abbrev pub trak_content : TrackHead → Content
trak_content t = typed (codes "trak") (trak_payload t)

-- the boxes in a box of this type, if it is there
abbrev pub edits_in : List Box → List Edit → List Box
edits_in [] edits = []
edits_in (b ∷ more) edits = children b (edits_contents edits)

-- the boxes in the `trak` that begins at a place
abbrev pub track_boxes : ℕ → TrackHead → List Box
track_boxes at t = children (placed_box at (trak_content t)) (track_contents t)

-- those in its `mdia`
abbrev pub media_boxes : ℕ → TrackHead → List Box
media_boxes at t = children (first_of (codes "mdia") (track_boxes at t)) (media_contents t.media t.group_descriptions)

-- those in its `minf`
abbrev pub information_boxes : ℕ → TrackHead → List Box
information_boxes at t = children (first_of (codes "minf") (media_boxes at t)) (information_contents t.media.header t.media.descriptions t.group_descriptions)

-- those in its `dinf`
abbrev pub data_boxes : ℕ → TrackHead → List Box
data_boxes at t = children (first_of (codes "dinf") (information_boxes at t)) dinf_contents

-- those in its `stbl`
abbrev pub table_boxes : ℕ → TrackHead → List Box
table_boxes at t = children (first_of (codes "stbl") (information_boxes at t)) (table_contents t.media.descriptions t.group_descriptions)

-- the boxes in a counted box
abbrev pub entries : Box → List Content → List Box
entries b contents = placed (b.offset + b.header + 8) contents

-- the tree of the `trak`
abbrev pub track_tree : ℕ → TrackHead → TrackTree
track_tree at t = record {
  trak = placed_box at (trak_content t);
  track = track_boxes at t;
  edits = edits_in (of_kind (codes "edts") (track_boxes at t)) t.edits;
  media = media_boxes at t;
  information = information_boxes at t;
  data_information = data_boxes at t;
  data_references = entries (first_of (codes "dref") (data_boxes at t)) (url_content ∷ []);
  table = table_boxes at t;
  descriptions = entries (first_of (codes "stsd") (table_boxes at t)) (contents_of t.media.descriptions);
}

-- ---- `edts`

-- an `elst` is no longer than its `edts`
elst_within : (edits : List Edit) → length (elst_payload edits) ≤ 8 + length (edts_bytes edits)
elst_within [] = lit≤ tt
elst_within (e ∷ edits) = omega arith

-- an `elst` is not too long
elst_small : (t : TrackHead) → length (trak_payload t) ≤ 2 ^ 30 → length (elst_payload t.edits) < 2 ^ 31
elst_small t le =
    let kept = flat_map kept_bytes t.kept in
    let mdia = box_bytes (codes "mdia") (mdia_payload t.media t.group_descriptions) in
    omega (arith, elst_within t.edits, length-append (tkhd_bytes t ++ edts_bytes t.edits ++ kept) mdia, length-append (tkhd_bytes t ++ edts_bytes t.edits) kept, length-append (tkhd_bytes t) (edts_bytes t.edits))

-- there are not too many edits
few_edits : (edits : List Edit) → length (elst_payload edits) < 2 ^ 31 → length edits < 2 ^ 31
few_edits edits le = omega (arith, length_rows edits, length-append (spelled (fields elst 1) (1 ∷ 0 ∷ length edits ∷ [])) (flat_map edit_bytes edits))

-- what follows from there being no `edts`, and from the `edts` that was written
edts_cases : (P : List Box → List Edit → Type 0) (at : ℕ) (payload : List ℕ) (edits : List Edit) (others : List Content) → AreOther (codes "edts") others → P [] []
    → ((b : Box) (more : List Box) (e : Edit) (es : List Edit) → e ∷ es ≡ edits → b.payload ≡ box_bytes (codes "elst") (elst_payload (e ∷ es)) → P (b ∷ more) (e ∷ es))
    → P (of_kind (codes "edts") (placed at (typed (codes "tkhd") payload ∷ (edts_contents edits ++ others)))) edits
edts_cases P at payload [] others h none some = subst (λ (l : List Box). P l []) (sym (of_kind-none (codes "edts") (at + (8 + length payload)) others h)) none
edts_cases P at payload (e ∷ edits) others h none some =
    some (placed_box (at + (8 + length payload)) (typed (codes "edts") (box_bytes (codes "elst") (elst_payload (e ∷ edits)))))
    (of_kind (codes "edts") (placed (at + (8 + length payload) + (8 + length (box_bytes (codes "elst") (elst_payload (e ∷ edits))))) others)) e edits refl refl

-- the same for the boxes of a `trak`
track_cases : (P : List Box → List Edit → Type 0) (at : ℕ) (t : TrackHead) → IsTrackHead t → P [] []
    → ((b : Box) (more : List Box) (e : Edit) (es : List Edit) → e ∷ es ≡ t.edits → b.payload ≡ box_bytes (codes "elst") (elst_payload (e ∷ es)) → P (b ∷ more) (e ∷ es))
    → P (of_kind (codes "edts") (track_boxes at t)) t.edits
track_cases P at t h none some =
    let others = contents_of t.kept ++ track_back t in
    let other = all_append (λ (k : Content). bytes_eq (codes "edts") k.kind ≡ false) (contents_of t.kept) (track_back t) (all_kept (λ kind. bytes_eq (codes "edts") kind ≡ false) (kept_kinds rules.Track) t.kept (each_same (bytes_eq (codes "edts")) false (kept_kinds rules.Track) refl) h.kept) (
      refl,
      tt,
    ) in
    subst (λ (l : List Content). P (of_kind (codes "edts") (placed (at + 8) (typed (codes "tkhd") (tkhd_payload t) ∷ l))) t.edits) (sym (append_assoc (edts_contents t.edits) (contents_of t.kept) (track_back t)))
    (edts_cases P (at + 8) (tkhd_payload t) t.edits others other none some)

-- an `edts` holds its `elst`
elst_holds : (b : Box) (edits : List Edit) → b.payload ≡ box_bytes (codes "elst") (elst_payload edits) → length (elst_payload edits) < 2 ^ 31 → Holds rules.Edits (box_container b) (children b (edits_contents edits))
elst_holds b edits e lt =
    holds_written rules.Edits b (edits_contents edits) (e ∙ sym (append-nil (box_bytes (codes "elst") (elst_payload edits)))) (record { kind = refl; size = omega arith }, tt) (refl, tt) (lit≤ tt, tt)

-- the `edts` holds its boxes, if it is there
pub edts_hold : (at : ℕ) (t : TrackHead) → IsTrackHead t → length (trak_payload t) ≤ 2 ^ 30 → HoldsIfThere rules.Edits (of_kind (codes "edts") (track_boxes at t)) (edits_in (of_kind (codes "edts") (track_boxes at t)) t.edits)
edts_hold at t h le =
    track_cases (λ bs edits. HoldsIfThere rules.Edits bs (edits_in bs edits)) at t h refl
    (λ b more e es same p. elst_holds b (e ∷ es) p (subst (λ (l : List Edit). length (elst_payload l) < 2 ^ 31) (sym same) (elst_small t le)))

-- the edits that the tree says
pub edts_say : (at : ℕ) (t : TrackHead) → IsTrackHead t → length (trak_payload t) ≤ 2 ^ 30 → edits_of (payload_if (codes "elst") (edits_in (of_kind (codes "edts") (track_boxes at t)) t.edits)) ≡ t.edits
edts_say at t h le =
    track_cases (λ bs edits. edits_of (payload_if (codes "elst") (edits_in bs edits)) ≡ edits) at t h refl
    (λ b more e es same p.
    let lt : length (elst_payload (e ∷ es)) < 2 ^ 31 = subst (λ (l : List Edit). length (elst_payload l) < 2 ^ 31) (sym same) (elst_small t le) in
    let few = few_edits (e ∷ es) lt in
    edits_again (e ∷ es) (subst (λ (l : List Edit). AllByRecursion IsEdit l) (sym same) h.edits) (omega arith))

-- their leaves are sound
pub edts_sound : (at : ℕ) (t : TrackHead) → IsTrackHead t → length (trak_payload t) ≤ 2 ^ 30 → AreSound (ruled rules.Edits) (edits_in (of_kind (codes "edts") (track_boxes at t)) t.edits)
edts_sound at t h le =
    track_cases (λ bs edits. AreSound (ruled rules.Edits) (edits_in bs edits)) at t h tt
    (λ b more e es same p.
    let lt : length (elst_payload (e ∷ es)) < 2 ^ 31 = subst (λ (l : List Edit). length (elst_payload l) < 2 ^ 31) (sym same) (elst_small t le) in
    let few = few_edits (e ∷ es) lt in
    (elst_sound (e ∷ es) (omega arith), tt))

-- ---- each container

-- what is found in a container that is not too long is not too long
small_in : (kind : List ℕ) (outer : List ℕ) (contents : List Content) (payload : List ℕ) → outer ≡ written contents → AreTypes contents → found kind contents ≡ Some payload → length outer ≤ 2 ^ 30 → length payload ≤ 2 ^ 30
small_in kind outer contents payload e t f le = omega (arith, ap (λ (l : List ℕ). length l) e, found_size kind contents payload t f)

-- The payloads of the containers in a `trak`, as they were written.
pub record HasInner (at : ℕ) (t : TrackHead) : Type 0 where
  pub media : (first_of (codes "mdia") (track_boxes at t)).payload ≡ mdia_payload t.media t.group_descriptions
  pub media_small : length (mdia_payload t.media t.group_descriptions) ≤ 2 ^ 30
  pub information : (first_of (codes "minf") (media_boxes at t)).payload ≡ minf_payload t.media.header t.media.descriptions t.group_descriptions
  pub information_small : length (minf_payload t.media.header t.media.descriptions t.group_descriptions) ≤ 2 ^ 30
  pub references : (first_of (codes "dinf") (information_boxes at t)).payload ≡ dinf_payload
  pub table : (first_of (codes "stbl") (information_boxes at t)).payload ≡ stbl_payload t.media.descriptions t.group_descriptions
  pub table_small : length (stbl_payload t.media.descriptions t.group_descriptions) ≤ 2 ^ 30
  pub stsd_small : length (stsd_payload t.media.descriptions) ≤ 2 ^ 30

-- they are found in a `trak` that is not too long
pub has_inner : (at : ℕ) (t : TrackHead) → IsTrackHead t → length (trak_payload t) ≤ 2 ^ 30 → HasInner at t
has_inner at t h le =
    let m = t.media in
    let groups = t.group_descriptions in
    let types = all_track (λ kind. length kind ≡ 4) t h refl refl (each_same (λ (kind : List ℕ). length kind) 4 (kept_kinds rules.Track) refl) refl in
    let mdia = small_in (codes "mdia") (trak_payload t) (track_contents t) (mdia_payload m groups) (trak_written t) types (mdia_found t h) le in
    let minf = small_in (codes "minf") (mdia_payload m groups) (media_contents m groups) (minf_payload m.header m.descriptions groups) (mdia_written m groups) (all_media (λ kind. length kind ≡ 4) m groups refl refl refl refl) (minf_found m groups) mdia in
    let stbl = small_in (codes "stbl") (minf_payload m.header m.descriptions groups) (information_contents m.header m.descriptions groups) (stbl_payload m.descriptions groups) (minf_written m.header m.descriptions groups) (minf_types m h.media groups) (stbl_found m h.media groups) minf in
    record {
      media = first_written (codes "mdia") (at + 8) (track_contents t) (mdia_payload m groups) (mdia_found t h);
      media_small = mdia;
      information = first_written (codes "minf") _ (media_contents m groups) (minf_payload m.header m.descriptions groups) (minf_found m groups);
      information_small = minf;
      references = first_written (codes "dinf") _ (information_contents m.header m.descriptions groups) dinf_payload (dinf_found m h.media groups);
      table = first_written (codes "stbl") _ (information_contents m.header m.descriptions groups) (stbl_payload m.descriptions groups) (stbl_found m h.media groups);
      table_small = stbl;
      stsd_small = small_in (codes "stsd") (stbl_payload m.descriptions groups) (table_contents m.descriptions groups) (stsd_payload m.descriptions) (stbl_written m.descriptions groups) (table_types m.descriptions groups) refl stbl;
    }

-- the payload of a box is not too long where what was written is not
small_box : (b : Box) (payload : List ℕ) → b.payload ≡ payload → length payload ≤ 2 ^ 30 → length b.payload ≤ 2 ^ 30
small_box b payload e le = omega (arith, ap (λ (l : List ℕ). length l) e)

-- The tree of a `trak` that was written is this one.
pub track_tree_is : (at : ℕ) (t : TrackHead) → IsTrackHead t → length (trak_payload t) ≤ 2 ^ 30 → IsTrackTree (track_tree at t)
track_tree_is at t h le =
    let i = has_inner at t h le in
    let mdia = first_of (codes "mdia") (track_boxes at t) in
    let minf = first_of (codes "minf") (media_boxes at t) in
    let dinf = first_of (codes "dinf") (information_boxes at t) in
    let stbl = first_of (codes "stbl") (information_boxes at t) in
    record {
      track = trak_holds (placed_box at (trak_content t)) t h refl le;
      edits = edts_hold at t h le;
      media = mdia_holds mdia t.media t.group_descriptions i.media (small_box mdia (mdia_payload t.media t.group_descriptions) i.media i.media_small);
      information = minf_holds minf t.media h.media t.group_descriptions i.information (small_box minf (minf_payload t.media.header t.media.descriptions t.group_descriptions) i.information i.information_small);
      data_information = dinf_holds dinf i.references;
      data_references = dref_tiles (first_of (codes "dref") (data_boxes at t)) refl;
      table = stbl_holds stbl t.media.descriptions t.group_descriptions i.table (small_box stbl (stbl_payload t.media.descriptions t.group_descriptions) i.table i.table_small);
      descriptions = stsd_tiles (first_of (codes "stsd") (table_boxes at t)) t.media.descriptions h.media.descriptions refl i.stsd_small;
    }
