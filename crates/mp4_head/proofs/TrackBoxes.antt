-- The boxes of a `trak`, one after the other.
use Rattle.std.proofs.Common.{◌≡◌, ℕ, true, false, List, [], ◌∷◌, ◌++◌, map, Option, Some, None, refl, sym, subst, ◌∙◌, arith}
use Rattle.std.specs.Prelude.{codes, bytes_eq}
use Rattle.std.specs.BTreeSet.{BTreeSet}
use Rattle.mp4_boxes.specs.format.Box.{Box, box_container}
use Rattle.mp4_boxes.specs.format.Children.{Holds, of_kind, is_among, payload_if, kept_kinds}
use Rattle.mp4_boxes.specs.format.Layout.{tkhd, stsd, IsSound}
use Rattle.mp4_boxes.specs.format.Places.{ruled, AreSound}
use Rattle.mp4_boxes.specs.words.View.{box_seen}
use Rattle.mp4_boxes.specs.declared.rule.Rule.TheVariants as kinds
use Rattle.mp4_boxes.proofs.Refusing.{holds_only, holds_few}
use Rattle.mp4_boxes.proofs.Sound.{same_kind}
use Rattle.mp4_head.specs.format.Head as heads
use Rattle.mp4_head.specs.format.Head.{names_item_location}
use Rattle.mp4_head.specs.format.Tree.{first_of, TrackTree, IsTrackTree, IsSoundTrack, HoldsIfThere, edits_of, track_head_of}
use Rattle.mp4_head.specs.words.Seen.{kept_seen}
use Rattle.mp4_head.specs.declared.track_header.TrackHeader.{TrackHeader}
use Rattle.mp4_head.specs.declared.media_boxes.MediaParts.{MediaParts}
use Rattle.mp4_head.specs.words.Containers.{SaysEdits, SaysMediaBoxes, kept_of}
use Rattle.mp4_head.specs.words.Found.{track_joined, HasTrackHead}
use Rattle.mp4_head.specs.words.Ids.{AddsId}
use Rattle.mp4_head.specs.words.Leaves.{SaysTrack, SaysMedia}
use Rattle.mp4_head.proofs.Distinct.{payload_first}
use Rattle.mp4_head.proofs.KeptWalks.{KeptPassed, keeps_none, keeps_this, keeps_other, keeps_all, another, ReadIf, not_there, was_there, if_other, if_this, still_none, holds_there, holds_none}
use Rattle.mp4_head.proofs.Walks.{Walk, walk_none, walk_more, walk_here, walk_all, none_before, sound_more, FirstRead, not_yet, was_read, first_other, first_this, first_read, first_missing}

-- what is said of a `tkhd` and of an `mdia`
pub record IsTrackHeader (b : Box) (x : TrackHeader × ℕ) : Type 0 where
  pub says : SaysTrack b.payload x.0
  pub offset : x.1 ≡ b.offset

pub record IsMedia (b : Box) (m : MediaParts) : Type 0 where
  pub says : SaysMediaBoxes b m.header m.handler.now (map (λ p. p.now) m.extended_languages.items) (kept_seen m.information.header) (box_seen m.information.stbl) (map kept_seen m.information.table.descriptions.items) (map (λ p. p.now) m.information.table.group_descriptions.items)

-- the set with the ID, once that was read
pub data IdsAfter (old ids : BTreeSet ℕ) : Option (TrackHeader × ℕ) → Type 0 where
  as_before : ids ≡ old → IdsAfter old ids None
  with_it : {x : TrackHeader × ℕ} → AddsId old ids x.0.id → IdsAfter old ids (Some x)

-- what was read of the boxes that were passed
pub record TrackPassed (old : BTreeSet ℕ) (all left : List Box) (ids : BTreeSet ℕ) (header : Option (TrackHeader × ℕ)) (edits : List heads.Edit) (kept : List heads.Kept) (media : Option MediaParts) : Type 0 where
  pub walk : Walk all left
  pub sound : AreSound (ruled kinds.Track) walk.passed
  pub header_says : FirstRead IsTrackHeader (codes "tkhd") walk.passed header
  pub ids_are : IdsAfter old ids header
  pub edits_are : ReadIf SaysEdits (codes "edts") [] walk.passed edits
  pub kept_are : KeptPassed (kept_kinds kinds.Track) walk.passed kept
  pub media_is : FirstRead IsMedia (codes "mdia") walk.passed media

pub track_none : (old : BTreeSet ℕ) (all : List Box) → TrackPassed old all all old None [] [] None
track_none old all = record { walk = walk_none all; sound = tt; header_says = not_yet refl; ids_are = as_before refl; edits_are = not_there refl refl; kept_are = keeps_none (kept_kinds kinds.Track); media_is = not_yet refl }

unchanged : (old ids : BTreeSet ℕ) (header : Option (TrackHeader × ℕ)) → header ≡ None → IdsAfter old ids header → ids ≡ old
unchanged old ids None e (as_before same) = same
unchanged old ids (Some x) e i = absurd cc

module _ (b : Box) (old : BTreeSet ℕ) (all left later : List Box) (child : Box) (ids : BTreeSet ℕ) (header : Option (TrackHeader × ℕ)) (edits : List heads.Edit) (kept : List heads.Kept) (media : Option MediaParts)
    (h : Holds kinds.Track (box_container b) all) (p : TrackPassed old all left ids header edits kept media) (e : left ≡ child ∷ later) where
  split : all ≡ p.walk.passed ++ child ∷ later
  split = walk_here all left later child p.walk e

  -- before its `tkhd` is read the set is as it was
  pub ids_before : bytes_eq (codes "tkhd") child.kind ≡ true → ids ≡ old
  ids_before k =
      let one = holds_only h (codes "tkhd") refl in
      let none = none_before (codes "tkhd") all p.walk.passed later child split (omega (arith, one)) k in
      unchanged old ids header (still_none IsTrackHeader (codes "tkhd") p.walk.passed header none p.header_says) p.ids_are

  -- the `tkhd` was read
  pub track_header : (new : BTreeSet ℕ) (x : TrackHeader × ℕ) → bytes_eq (codes "tkhd") child.kind ≡ true → IsSound tkhd child.payload → IsTrackHeader child x → AddsId ids new x.0.id → TrackPassed old all later new (Some x) edits kept media
  track_header new x k s r a =
      let is = same_kind (codes "tkhd") child.kind k in
      let one = holds_only h (codes "tkhd") refl in
      let none = none_before (codes "tkhd") all p.walk.passed later child split (omega (arith, one)) k in
      record {
        walk = walk_more all left later child p.walk e;
        sound = sound_more (ruled kinds.Track) p.walk.passed child p.sound (rw k s);
        header_says = first_this IsTrackHeader (codes "tkhd") p.walk.passed child x k none r;
        ids_are = with_it (subst (λ (s : BTreeSet ℕ). AddsId s new x.0.id) (ids_before k) a);
        edits_are = if_other SaysEdits (codes "edts") [] p.walk.passed child edits (rw is refl) p.edits_are;
        kept_are = keeps_other (kept_kinds kinds.Track) p.walk.passed child kept p.kept_are (rw is refl);
        media_is = first_other IsMedia (codes "mdia") p.walk.passed child media (rw is refl) p.media_is;
      }

  -- the `edts` was read
  pub track_edits : (more : List heads.Edit) → bytes_eq (codes "edts") child.kind ≡ true → SaysEdits child more → TrackPassed old all later ids header more kept media
  track_edits more k r =
      let is = same_kind (codes "edts") child.kind k in
      let none = none_before (codes "edts") all p.walk.passed later child split (holds_few h (codes "edts") refl) k in
      record {
        walk = walk_more all left later child p.walk e;
        sound = sound_more (ruled kinds.Track) p.walk.passed child p.sound (rw is tt);
        header_says = first_other IsTrackHeader (codes "tkhd") p.walk.passed child header (rw is refl) p.header_says;
        ids_are = p.ids_are;
        edits_are = if_this SaysEdits (codes "edts") [] p.walk.passed child more k none r;
        kept_are = keeps_other (kept_kinds kinds.Track) p.walk.passed child kept p.kept_are (rw is refl);
        media_is = first_other IsMedia (codes "mdia") p.walk.passed child media (rw is refl) p.media_is;
      }

  -- a box was kept
  pub track_kept : (more : List heads.Kept) → bytes_eq (codes "tkhd") child.kind ≡ false → bytes_eq (codes "edts") child.kind ≡ false → is_among (kept_kinds kinds.Track) child.kind ≡ true
      → names_item_location child.payload ≡ false → more ≡ kept ++ kept_of child ∷ [] → TrackPassed old all later ids header edits more media
  track_kept more n0 n1 k unplaced added = record {
    walk = walk_more all left later child p.walk e;
    sound = sound_more (ruled kinds.Track) p.walk.passed child p.sound (rw n0 tt);
    header_says = first_other IsTrackHeader (codes "tkhd") p.walk.passed child header n0 p.header_says;
    ids_are = p.ids_are;
    edits_are = if_other SaysEdits (codes "edts") [] p.walk.passed child edits n1 p.edits_are;
    kept_are = keeps_this (kept_kinds kinds.Track) p.walk.passed child kept more p.kept_are k unplaced added;
    media_is = first_other IsMedia (codes "mdia") p.walk.passed child media (another (kept_kinds kinds.Track) child.kind (codes "mdia") (bytes_eq (codes "mdia") child.kind) refl k refl) p.media_is;
  }

  -- the `mdia` was read
  pub track_media : (m : MediaParts) → bytes_eq (codes "tkhd") child.kind ≡ false → bytes_eq (codes "edts") child.kind ≡ false → is_among (kept_kinds kinds.Track) child.kind ≡ false
      → bytes_eq (codes "mdia") child.kind ≡ true → IsMedia child m → TrackPassed old all later ids header edits kept (Some m)
  track_media m n0 n1 n2 k r =
      let one = holds_only h (codes "mdia") refl in
      let none = none_before (codes "mdia") all p.walk.passed later child split (omega (arith, one)) k in
      record {
        walk = walk_more all left later child p.walk e;
        sound = sound_more (ruled kinds.Track) p.walk.passed child p.sound (rw n0 tt);
        header_says = first_other IsTrackHeader (codes "tkhd") p.walk.passed child header n0 p.header_says;
        ids_are = p.ids_are;
        edits_are = if_other SaysEdits (codes "edts") [] p.walk.passed child edits n1 p.edits_are;
        kept_are = keeps_other (kept_kinds kinds.Track) p.walk.passed child kept p.kept_are n2;
        media_is = first_this IsMedia (codes "mdia") p.walk.passed child m k none r;
      }

  -- another box was passed
  pub track_other : bytes_eq (codes "tkhd") child.kind ≡ false → bytes_eq (codes "edts") child.kind ≡ false → is_among (kept_kinds kinds.Track) child.kind ≡ false
      → bytes_eq (codes "mdia") child.kind ≡ false → TrackPassed old all later ids header edits kept media
  track_other n0 n1 n2 n3 = record {
    walk = walk_more all left later child p.walk e;
    sound = sound_more (ruled kinds.Track) p.walk.passed child p.sound (rw n0 tt);
    header_says = first_other IsTrackHeader (codes "tkhd") p.walk.passed child header n0 p.header_says;
    ids_are = p.ids_are;
    edits_are = if_other SaysEdits (codes "edts") [] p.walk.passed child edits n1 p.edits_are;
    kept_are = keeps_other (kept_kinds kinds.Track) p.walk.passed child kept p.kept_are n2;
    media_is = first_other IsMedia (codes "mdia") p.walk.passed child media n3 p.media_is;
  }

-- ---- the whole `trak`

-- the boxes of an `edts`, if one stands there, and its edits
record EditsFound (track : List Box) (edits : List heads.Edit) : Type 0 where
  boxes : List Box
  holds : HoldsIfThere kinds.Edits (of_kind (codes "edts") track) boxes
  sound : AreSound (ruled kinds.Edits) boxes
  says : edits ≡ edits_of (payload_if (codes "elst") boxes)

edits_found : (passed : List Box) (edits : List heads.Edit) → ReadIf SaysEdits (codes "edts") [] passed edits → EditsFound passed edits
edits_found passed edits (not_there n e) = record { boxes = []; holds = holds_none kinds.Edits (codes "edts") passed n; sound = tt; says = e }
edits_found passed edits (was_there (was_read s r)) = record { boxes = r.boxes; holds = holds_there kinds.Edits (codes "edts") passed r.boxes s r.holds; sound = r.sound; says = r.says }

-- the tree of a `trak`
module _ (b : Box) (all : List Box) (h : Holds kinds.Track (box_container b) all) (edits : List heads.Edit) (found : EditsFound all edits) (m : MediaParts) (inside : IsMedia (first_of (codes "mdia") all) m) where
  abbrev tree : TrackTree
  tree = record {
    trak = b;
    track = all;
    edits = found.boxes;
    media = inside.says.boxes;
    information = inside.says.information.boxes;
    data_information = inside.says.information.reference.boxes;
    data_references = inside.says.information.reference.references.entries;
    table = inside.says.information.table.boxes;
    descriptions = inside.says.information.table.entries.entries;
  }

  is_tree : IsTrackTree tree
  is_tree = record {
    track = h;
    edits = found.holds;
    media = inside.says.holds;
    information = inside.says.information.holds;
    data_information = inside.says.information.reference.holds;
    data_references = inside.says.information.reference.references.tiles;
    table = inside.says.information.table.holds;
    descriptions = inside.says.information.table.entries.tiles;
  }

  module _ (kept : List heads.Kept) (sound : AreSound (ruled kinds.Track) all) (keeps : KeptPassed (kept_kinds kinds.Track) all kept) where
    is_sound : IsSoundTrack tree
    is_sound = record {
      track = sound;
      kept = (keeps_all (kept_kinds kinds.Track) all all kept refl keeps).1;
      edits = found.sound;
      media = inside.says.sound;
      data_information = inside.says.information.reference.sound;
      data_references = inside.says.information.reference.references.sound;
      urls = inside.says.information.reference.references.urls;
      stsd = subst (λ (payload : List ℕ). IsSound stsd payload) (sym (payload_first (codes "stsd") inside.says.information.table.boxes)) inside.says.information.table.entries.own;
      descriptions = inside.says.information.table.entries.sound;
    }

    says : (x : TrackHeader) → SaysTrack (first_of (codes "tkhd") all).payload x → track_joined x edits kept m ≡ track_head_of tree
    says x s =
        let t = subst (λ (payload : List ℕ). SaysTrack payload x) (sym (payload_first (codes "tkhd") all)) s in
        let d = subst (λ (payload : List ℕ). SaysMedia payload m.header) (sym (payload_first (codes "mdhd") inside.says.boxes)) inside.says.header_says in
        let handler = inside.says.handler_is ∙ sym (payload_first (codes "hdlr") inside.says.boxes) in
        let kept_is = keeps.says in
        λ i. record {
          flags = t.flags i;
          creation = t.creation i;
          modification = t.modification i;
          id = t.id i;
          layer = t.layer i;
          alternate_group = t.alternate_group i;
          volume = t.volume i;
          matrix = t.matrix i;
          width = t.width i;
          height = t.height i;
          edits = found.says i;
          kept = kept_is i;
          media = record {
            creation = d.creation i;
            modification = d.modification i;
            timescale = d.timescale i;
            language = d.language i;
            handler = handler i;
            extended_languages = inside.says.languages_are i;
            header = inside.says.information.header_is i;
            descriptions = inside.says.information.table.entries.says i;
          };
          group_descriptions = inside.says.information.table.says i;
        }

-- all boxes were passed
pub track_all : (b : Box) (old : BTreeSet ℕ) (all left : List Box) (ids : BTreeSet ℕ) (x : TrackHeader × ℕ) (edits : List heads.Edit) (kept : List heads.Kept) (m : MediaParts) → Holds kinds.Track (box_container b) all
    → TrackPassed old all left ids (Some x) edits kept (Some m) → left ≡ [] → HasTrackHead b (track_joined x.0 edits kept m) (box_seen m.information.stbl) x.1
track_all b old all left ids x edits kept m h p e =
    let same = walk_all all left p.walk e in
    let header = first_read IsTrackHeader (codes "tkhd") all p.walk.passed x same p.header_says in
    let inside = first_read IsMedia (codes "mdia") all p.walk.passed m same p.media_is in
    let found = edits_found all edits (subst (λ (bs : List Box). ReadIf SaysEdits (codes "edts") [] bs edits) (sym same) p.edits_are) in
    let sound = subst (λ (bs : List Box). AreSound (ruled kinds.Track) bs) (sym same) p.sound in
    let keeps = subst (λ (bs : List Box). KeptPassed (kept_kinds kinds.Track) bs kept) (sym same) p.kept_are in
    record {
      tree = tree b all h edits found m inside;
      is_trak = refl;
      is_tree = is_tree b all h edits found m inside;
      is_sound = is_sound b all h edits found m inside kept sound keeps;
      says = says b all h edits found m inside kept sound keeps x.0 header.says;
      stbl_is = inside.says.information.stbl_is;
      offset_is = header.offset;
    }

-- the same by what a walk holds at its end
pub track_said : (b : Box) (old : BTreeSet ℕ) (all left : List Box) (ids : BTreeSet ℕ) (header : Option (TrackHeader × ℕ)) (edits : List heads.Edit) (kept : List heads.Kept) (media : Option MediaParts) (x : TrackHeader × ℕ) (m : MediaParts) → Holds kinds.Track (box_container b) all
    → TrackPassed old all left ids header edits kept media → left ≡ [] → header ≡ Some x → media ≡ Some m
    → (head : heads.TrackHead) (stbl : Box) (offset : ℕ) → head ≡ track_joined x.0 edits kept m → stbl ≡ box_seen m.information.stbl → offset ≡ x.1 → HasTrackHead b head stbl offset
track_said b old all left ids header edits kept media x m h p e a c head stbl offset s t u =
    let q = subst (λ (o : Option (TrackHeader × ℕ)). TrackPassed old all left ids o edits kept media) a p in
    let r = subst (λ (o : Option MediaParts). TrackPassed old all left ids (Some x) edits kept o) c q in
    let found = track_all b old all left ids x edits kept m h r e in
    record { tree = found.tree; is_trak = found.is_trak; is_tree = found.is_tree; is_sound = found.is_sound; says = s ∙ found.says; stbl_is = t ∙ found.stbl_is; offset_is = u ∙ found.offset_is }

-- its ID is in the set
pub track_added : (old : BTreeSet ℕ) (all left : List Box) (ids : BTreeSet ℕ) (header : Option (TrackHeader × ℕ)) (edits : List heads.Edit) (kept : List heads.Kept) (media : Option MediaParts) (x : TrackHeader × ℕ)
    → TrackPassed old all left ids header edits kept media → header ≡ Some x → (id : ℕ) → id ≡ x.0.id → AddsId old ids id
track_added old all left ids header edits kept media x p a id e = subst (λ (n : ℕ). AddsId old ids n) (sym e) (after x (subst (IdsAfter old ids) a p.ids_are))
  where
    after : (y : TrackHeader × ℕ) → IdsAfter old ids (Some y) → AddsId old ids y.0.id
    after y (with_it i) = i

-- a box that must stand was read
pub track_no_header : (b : Box) (old : BTreeSet ℕ) (all left : List Box) (ids : BTreeSet ℕ) (header : Option (TrackHeader × ℕ)) (edits : List heads.Edit) (kept : List heads.Kept) (media : Option MediaParts) → Holds kinds.Track (box_container b) all
    → TrackPassed old all left ids header edits kept media → left ≡ [] → header ≡ None → ⊥
track_no_header b old all left ids header edits kept media h p e a =
    let q = subst (λ (o : Option (TrackHeader × ℕ)). TrackPassed old all left ids o edits kept media) a p in
    first_missing IsTrackHeader (codes "tkhd") all q.walk.passed (walk_all all left q.walk e) (holds_only h (codes "tkhd") refl) q.header_says

pub track_no_media : (b : Box) (old : BTreeSet ℕ) (all left : List Box) (ids : BTreeSet ℕ) (header : Option (TrackHeader × ℕ)) (edits : List heads.Edit) (kept : List heads.Kept) (media : Option MediaParts) → Holds kinds.Track (box_container b) all
    → TrackPassed old all left ids header edits kept media → left ≡ [] → media ≡ None → ⊥
track_no_media b old all left ids header edits kept media h p e a =
    let q = subst (λ (o : Option MediaParts). TrackPassed old all left ids header edits kept o) a p in
    first_missing IsMedia (codes "mdia") all q.walk.passed (walk_all all left q.walk e) (holds_only h (codes "mdia") refl) q.media_is
