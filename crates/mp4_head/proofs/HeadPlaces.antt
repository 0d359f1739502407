-- The containers in a `moov` are those of its tree: whatever boxes lead to.
use Rattle.std.proofs.Common.{◌≡◌, ℕ, ◌≤◌, true, List, [], ◌∷◌, Some, refl, sym, ap, subst, ◌∙◌, inl, inr}
use Rattle.std.specs.Prelude.{codes, bytes_eq}
use Rattle.mp4_boxes.specs.format.Box.{Box, Container, Tiles, box_container, counted_container}
use Rattle.mp4_boxes.specs.format.Children.{Holds, count_among, of_kind}
use Rattle.mp4_boxes.specs.format.Places.{Scope, ruled, data_entries, sample_entries, Place, at_kind, containers, as_container, Leads, Reaches, StandsIn}
use Rattle.mp4_boxes.specs.declared.rule.Rule.{Rule}
use Rattle.mp4_boxes.specs.declared.rule.Rule.TheVariants.{File, Movie, Track, Edits, Media, MediaInformation, DataInformation, SampleTable, MovieExtends, MovieFragment, TrackFragment}
use Rattle.mp4_boxes.proofs.Members.{only_one}
use Rattle.mp4_boxes.proofs.Among.{IsIn, all_in, in_map, in_of_kind, first_there, only_entry, either_entry, inside_is}
use Rattle.mp4_boxes.proofs.Refusing.{stands_in, holds_only, holds_few}
use Rattle.mp4_boxes.proofs.Plain.{none_some}
use Rattle.mp4_head.specs.format.Tree.{TrackTree, MovieTree, HoldsIfThere, IsTrackTree, IsMovieTree, first_of}
use Rattle.mp4_head.specs.words.Refuses.{place_of}

-- the container is tiled by these boxes, and by those of the profile where a rule says which
abbrev pub HoldsAs : Scope → Container → List Box → Type 0
HoldsAs (ruled rule) c boxes = Holds rule c boxes
HoldsAs data_entries c boxes = Tiles c boxes
HoldsAs sample_entries c boxes = Tiles c boxes

-- a list of boxes of a track
abbrev pub OfTrack : MovieTree → (TrackTree → List Box) → List Box → Type 0
OfTrack m part boxes = (track : TrackTree) × IsIn m.tracks track × (boxes ≡ part track)

-- these boxes are those that the tree has in a container of this scope
abbrev pub IsNamed : MovieTree → Scope → List Box → Type 0
IsNamed m (ruled Movie) boxes = boxes ≡ m.movie
IsNamed m (ruled MovieExtends) boxes = boxes ≡ m.extends
IsNamed m (ruled Track) boxes = OfTrack m (λ track. track.track) boxes
IsNamed m (ruled Edits) boxes = OfTrack m (λ track. track.edits) boxes
IsNamed m (ruled Media) boxes = OfTrack m (λ track. track.media) boxes
IsNamed m (ruled MediaInformation) boxes = OfTrack m (λ track. track.information) boxes
IsNamed m (ruled DataInformation) boxes = OfTrack m (λ track. track.data_information) boxes
IsNamed m (ruled SampleTable) boxes = OfTrack m (λ track. track.table) boxes
IsNamed m data_entries boxes = OfTrack m (λ track. track.data_references) boxes
IsNamed m sample_entries boxes = OfTrack m (λ track. track.descriptions) boxes
IsNamed m (ruled File) boxes = ⊥
IsNamed m (ruled MovieFragment) boxes = ⊥
IsNamed m (ruled TrackFragment) boxes = ⊥

-- the boxes are those of a container of this scope, and the tree has them
pub record AreOf (m : MovieTree) (scope : Scope) (c : Container) (boxes : List Box) : Type 0 where
  pub held : HoldsAs scope c boxes
  pub named : IsNamed m scope boxes

-- the tree has the boxes of the container
abbrev pub HasPlace : MovieTree → Scope → Container → Type 0
HasPlace m scope c = (boxes : List Box) × AreOf m scope c boxes

-- the only box of a type is the first of that type
pub is_first : (kind : List ℕ) (bs : List Box) (b : Box) → IsIn bs b → bytes_eq kind b.kind ≡ true → count_among (kind ∷ []) bs ≡ 1 → first_of kind bs ≡ b
is_first kind bs b i e n =
    ap (first_of kind) i.is ∙ only_one kind i.before i.after b (record { kind = kind; offset = 0; header = 0; payload = [] }) e (sym (ap (count_among (kind ∷ [])) i.is) ∙ n)

-- the boxes of a container that is there
pub there : (rule : Rule) (kind : List ℕ) (bs boxes : List Box) (b : Box) → IsIn bs b → bytes_eq kind b.kind ≡ true → count_among (kind ∷ []) bs ≤ 1
    → HoldsIfThere rule (of_kind kind bs) boxes → Holds rule (box_container b) boxes
there rule kind bs boxes b i e n h = subst (λ (found : List Box). HoldsIfThere rule found boxes) (first_there kind bs b i e n) h

-- the tree of a track
pub track_tree : (m : MovieTree) → IsMovieTree m → (track : TrackTree) → IsIn m.tracks track → IsTrackTree track
track_tree m h track i = all_in IsTrackTree m.tracks track i h.tracks

pub held_by : (rule : Rule) (boxes : List Box) (x y : Box) → x ≡ y → Holds rule (box_container x) boxes → Holds rule (box_container y) boxes
held_by rule boxes x y e h = subst (λ (z : Box). Holds rule (box_container z) boxes) e h

pub counted_by : (boxes : List Box) (x y : Box) → x ≡ y → Tiles (counted_container x) boxes → Tiles (counted_container y) boxes
counted_by boxes x y e h = subst (λ (z : Box). Tiles (counted_container z) boxes) e h

module _ (m : MovieTree) (h : IsMovieTree m) (b : Box) where
  in_trak : IsIn m.movie b → bytes_eq (codes "trak") b.kind ≡ true → HasPlace m (ruled Track) (box_container b)
  in_trak i e =
      let j = in_of_kind (codes "trak") m.movie b i e in
      let r = in_map (λ (u : TrackTree). u.trak) m.tracks b (subst (λ (bs : List Box). IsIn bs b) (sym h.traks) j) in
      (r.0.track, record { held = held_by Track r.0.track r.0.trak b r.2 (track_tree m h r.0 r.1).track; named = (r.0, r.1, refl) })

  in_mvex : IsIn m.movie b → bytes_eq (codes "mvex") b.kind ≡ true → HasPlace m (ruled MovieExtends) (box_container b)
  in_mvex i e = (m.extends, record { held = there MovieExtends (codes "mvex") m.movie m.extends b i e (holds_few h.movie (codes "mvex") refl) h.extends; named = refl })

  module _ (u : TrackTree) (k : IsIn m.tracks u) where
    in_edts : IsIn u.track b → bytes_eq (codes "edts") b.kind ≡ true → HasPlace m (ruled Edits) (box_container b)
    in_edts i e =
        let tree = track_tree m h u k in
        (u.edits, record { held = there Edits (codes "edts") u.track u.edits b i e (holds_few tree.track (codes "edts") refl) tree.edits; named = (u, k, refl) })

    in_mdia : IsIn u.track b → bytes_eq (codes "mdia") b.kind ≡ true → HasPlace m (ruled Media) (box_container b)
    in_mdia i e =
        let tree = track_tree m h u k in
        (u.media, record { held = held_by Media u.media (first_of (codes "mdia") u.track) b (is_first (codes "mdia") u.track b i e (holds_only tree.track (codes "mdia") refl)) tree.media; named = (u, k, refl) })

    in_minf : IsIn u.media b → bytes_eq (codes "minf") b.kind ≡ true → HasPlace m (ruled MediaInformation) (box_container b)
    in_minf i e =
        let tree = track_tree m h u k in
        (u.information, record { held = held_by MediaInformation u.information (first_of (codes "minf") u.media) b (is_first (codes "minf") u.media b i e (holds_only tree.media (codes "minf") refl)) tree.information; named = (u, k, refl) })

    in_dinf : IsIn u.information b → bytes_eq (codes "dinf") b.kind ≡ true → HasPlace m (ruled DataInformation) (box_container b)
    in_dinf i e =
        let tree = track_tree m h u k in
        (u.data_information, record { held = held_by DataInformation u.data_information (first_of (codes "dinf") u.information) b (is_first (codes "dinf") u.information b i e (holds_only tree.information (codes "dinf") refl)) tree.data_information; named = (u, k, refl) })

    in_stbl : IsIn u.information b → bytes_eq (codes "stbl") b.kind ≡ true → HasPlace m (ruled SampleTable) (box_container b)
    in_stbl i e =
        let tree = track_tree m h u k in
        (u.table, record { held = held_by SampleTable u.table (first_of (codes "stbl") u.information) b (is_first (codes "stbl") u.information b i e (holds_only tree.information (codes "stbl") refl)) tree.table; named = (u, k, refl) })

    in_dref : IsIn u.data_information b → bytes_eq (codes "dref") b.kind ≡ true → HasPlace m data_entries (counted_container b)
    in_dref i e =
        let tree = track_tree m h u k in
        (u.data_references, record { held = counted_by u.data_references (first_of (codes "dref") u.data_information) b (is_first (codes "dref") u.data_information b i e (holds_only tree.data_information (codes "dref") refl)) tree.data_references; named = (u, k, refl) })

    in_stsd : IsIn u.table b → bytes_eq (codes "stsd") b.kind ≡ true → HasPlace m sample_entries (counted_container b)
    in_stsd i e =
        let tree = track_tree m h u k in
        (u.descriptions, record { held = counted_by u.descriptions (first_of (codes "stsd") u.table) b (is_first (codes "stsd") u.table b i e (holds_only tree.table (codes "stsd") refl)) tree.descriptions; named = (u, k, refl) })

-- the boxes of a container tile it
pub tiled : (scope : Scope) (c : Container) (boxes : List Box) → HoldsAs scope c boxes → Tiles c boxes
tiled (ruled rule) c boxes h = h.tiles
tiled data_entries c boxes h = h
tiled sample_entries c boxes h = h

pub among : (xs ys : List Box) (b : Box) → xs ≡ ys → IsIn xs b → IsIn ys b
among xs ys b e i = subst (λ (zs : List Box). IsIn zs b) e i

module _ (m : MovieTree) (h : IsMovieTree m) where
  held_next : (b : Box) (x y : Scope) → x ≡ y → HasPlace m x (as_container x b) → HasPlace m y (as_container y b)
  held_next b x y e p = subst (λ (s : Scope). HasPlace m s (as_container s b)) e p

  -- a box of a container of the tree that is a container is one of the tree
  step : (b : Box) (scope : Scope) (c : Container) (boxes : List Box) → AreOf m scope c boxes → IsIn boxes b
      → (next : Scope) → at_kind (containers scope) b.kind ≡ Some next → HasPlace m next (as_container next b)
  step b (ruled Movie) c boxes a i next e =
      let j = among boxes m.movie b a.named i in
      elim (either_entry b.kind (codes "trak") (codes "mvex") (ruled Track) (ruled MovieExtends) next e) [
        | inl n ↦ held_next b (ruled Track) next n.1 (in_trak m h b j n.0)
        | inr n ↦ held_next b (ruled MovieExtends) next n.1 (in_mvex m h b j n.0)
      ]
  step b (ruled Track) c boxes a i next e =
      let j = among boxes a.named.0.track b a.named.2 i in
      elim (either_entry b.kind (codes "edts") (codes "mdia") (ruled Edits) (ruled Media) next e) [
        | inl n ↦ held_next b (ruled Edits) next n.1 (in_edts m h b a.named.0 a.named.1 j n.0)
        | inr n ↦ held_next b (ruled Media) next n.1 (in_mdia m h b a.named.0 a.named.1 j n.0)
      ]
  step b (ruled Media) c boxes a i next e =
      let j = among boxes a.named.0.media b a.named.2 i in
      let n = only_entry b.kind (codes "minf") (ruled MediaInformation) next e in
      held_next b (ruled MediaInformation) next n.1 (in_minf m h b a.named.0 a.named.1 j n.0)
  step b (ruled MediaInformation) c boxes a i next e =
      let j = among boxes a.named.0.information b a.named.2 i in
      elim (either_entry b.kind (codes "dinf") (codes "stbl") (ruled DataInformation) (ruled SampleTable) next e) [
        | inl n ↦ held_next b (ruled DataInformation) next n.1 (in_dinf m h b a.named.0 a.named.1 j n.0)
        | inr n ↦ held_next b (ruled SampleTable) next n.1 (in_stbl m h b a.named.0 a.named.1 j n.0)
      ]
  step b (ruled DataInformation) c boxes a i next e =
      let j = among boxes a.named.0.data_information b a.named.2 i in
      let n = only_entry b.kind (codes "dref") data_entries next e in
      held_next b data_entries next n.1 (in_dref m h b a.named.0 a.named.1 j n.0)
  step b (ruled SampleTable) c boxes a i next e =
      let j = among boxes a.named.0.table b a.named.2 i in
      let n = only_entry b.kind (codes "stsd") sample_entries next e in
      held_next b sample_entries next n.1 (in_stsd m h b a.named.0 a.named.1 j n.0)
  step b (ruled Edits) c boxes a i next e = absurd (none_some next e)
  step b (ruled MovieExtends) c boxes a i next e = absurd (none_some next e)
  step b data_entries c boxes a i next e = absurd (none_some next e)
  step b sample_entries c boxes a i next e = absurd (none_some next e)
  step b (ruled File) c boxes a i next e = absurd a.named
  step b (ruled MovieFragment) c boxes a i next e = absurd a.named
  step b (ruled TrackFragment) c boxes a i next e = absurd a.named

  -- what boxes lead to from a container of the tree is one of the tree
  leads_to : (path : List Box) (from to : Place) → HasPlace m from.scope from.container → Leads from path to → HasPlace m to.scope to.container
  leads_to [] from to p l = subst (λ (place : Place). HasPlace m place.scope place.container) l p
  leads_to (b ∷ path) from to p l =
      let i = stands_in from.container l.0 p.0 b l.1 (tiled from.scope from.container p.0 p.1.held) in
      let r = inside_is from l.2 b l.3 in
      let next = step b from.scope from.container p.0 p.1 i r.0 r.1 in
      leads_to path l.2 to (subst (λ (place : Place). HasPlace m place.scope place.container) r.2 next) l.4

  -- Each container that stands in the `moov` is one of its tree.
  pub reached : (place : Place) → Reaches (place_of (ruled Movie) m.moov) place → HasPlace m place.scope place.container
  reached place r = leads_to r.0 (place_of (ruled Movie) m.moov) place (m.movie, record { held = h.movie; named = refl }) r.1

  -- a box that stands in the `moov` is one of the boxes that the tree has there
  pub standing : (place : Place) (before : List Box) (b : Box) → StandsIn (place_of (ruled Movie) m.moov) place before b → (boxes : List Box) × AreOf m place.scope place.container boxes × IsIn boxes b
  standing place before b s =
      let r = reached place s.reaches in
      (r.0, r.1, stands_in place.container before r.0 b s.after (tiled place.scope place.container r.0 r.1.held))
