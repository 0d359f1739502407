-- Where a leaf, an entry or a kept box has a fault, nothing is denoted.
use Rattle.std.proofs.Common.{◌≡◌, ℕ, true, List, Some, refl, sym, ap, subst, ◌∙◌, arith, inl, inr}
use Rattle.std.specs.Prelude.{codes, bytes_eq, slice_index}
use Rattle.mp4_boxes.specs.format.Box.{Box}
use Rattle.mp4_boxes.specs.format.Children.{of_kind, kept_kinds}
use Rattle.mp4_boxes.specs.format.Layout.{Leaf, tkhd, trex, leaf_fields, IsSound}
use Rattle.mp4_boxes.specs.format.Places.{Scope, ruled, data_entries, sample_entries, Place, whole, leaf_of, AreSound, StandsIn}
use Rattle.mp4_boxes.specs.format.BoxFaults.{IsLeafFault}
use Rattle.mp4_boxes.specs.declared.rule.Rule.TheVariants.{File, Movie, Track, Edits, Media, MediaInformation, DataInformation, SampleTable, MovieExtends, MovieFragment, TrackFragment}
use Rattle.mp4_boxes.specs.declared.fault.Fault.{Fault}
use Rattle.mp4_boxes.proofs.Among.{IsIn, all_in, in_of_kind}
use Rattle.mp4_boxes.proofs.Refusing.{stands_in, unsound, holds_only}
use Rattle.mp4_boxes.proofs.Plain.{none_some, true_false}
use Rattle.mp4_frag.specs.format.Fragments.{trex_of}
use Rattle.mp4_head.specs.format.Head.{names_item_location}
use Rattle.mp4_head.specs.format.Tree.{TrackTree, IsSoundTrack, are_distinct, first_of, track_head_of}
use Rattle.mp4_head.proofs.Distinct.{distinct_same, map_twice, kept_names_none, payload_first}
use Rattle.mp4_present.specs.format.Presentation.{Presentation}
use Rattle.mp4_present.specs.format.Denotes.{FileTree, IsFileTree, IsSoundFile, IsSoundFragment, Denotes}
use Rattle.mp4_present.specs.format.Stands.{StandsBy, leaf, IsTakenId, IsForeignReference, IsItemLocation}
use Rattle.mp4_present.proofs.Chain.{AreOf, IsNamed, reached, track_tree}
use Rattle.mp4_head.proofs.HeadExcludes.{leaf_among, tkhd_scope, trex_scope, url_is_leaf}
use Rattle.mp4_head.proofs.HeadPlaces.{tiled, among, is_first}

-- what is read as a leaf in a container of a sound tree is sound
pub sound_leaf : (t : FileTree) → IsSoundFile t → (scope : Scope) (boxes : List Box) → IsNamed t scope boxes → (b : Box) → IsIn boxes b → (l : Leaf) → leaf_of scope b.kind ≡ Some l → IsSound l b.payload
sound_leaf t s (ruled File) boxes n b i l e = absurd (none_some l e)
sound_leaf t s (ruled MediaInformation) boxes n b i l e = absurd (none_some l e)
sound_leaf t s (ruled MovieFragment) boxes n b i l e = absurd (none_some l e)
sound_leaf t s (ruled Movie) boxes n b i l e = leaf_among (ruled Movie) boxes t.movie.movie b l n s.movie.movie i e
sound_leaf t s (ruled MovieExtends) boxes n b i l e = leaf_among (ruled MovieExtends) boxes t.movie.extends b l n s.movie.extends i e
sound_leaf t s (ruled Track) boxes n b i l e = leaf_among (ruled Track) boxes n.0.track b l n.2 (all_in IsSoundTrack t.movie.tracks n.0 n.1 s.movie.tracks).track i e
sound_leaf t s (ruled Edits) boxes n b i l e = leaf_among (ruled Edits) boxes n.0.edits b l n.2 (all_in IsSoundTrack t.movie.tracks n.0 n.1 s.movie.tracks).edits i e
sound_leaf t s (ruled Media) boxes n b i l e = leaf_among (ruled Media) boxes n.0.media b l n.2 (all_in IsSoundTrack t.movie.tracks n.0 n.1 s.movie.tracks).media i e
sound_leaf t s (ruled DataInformation) boxes n b i l e = leaf_among (ruled DataInformation) boxes n.0.data_information b l n.2 (all_in IsSoundTrack t.movie.tracks n.0 n.1 s.movie.tracks).data_information i e
sound_leaf t s (ruled SampleTable) boxes n b i l e =
    leaf_among (ruled SampleTable) boxes n.0.table b l n.2 (all_in (λ (u : TrackTree). AreSound (ruled SampleTable) u.table) t.movie.tracks n.0 n.1 s.tables) i e
sound_leaf t s (ruled TrackFragment) boxes n b i l e =
    leaf_among (ruled TrackFragment) boxes boxes b l refl (all_in (AreSound (ruled TrackFragment)) n.0.trafs boxes n.2 (all_in IsSoundFragment t.fragments n.0 n.1 s.fragments)) i e
sound_leaf t s data_entries boxes n b i l e = leaf_among data_entries boxes n.0.data_references b l n.2 (all_in IsSoundTrack t.movie.tracks n.0 n.1 s.movie.tracks).data_references i e
sound_leaf t s sample_entries boxes n b i l e = leaf_among sample_entries boxes n.0.descriptions b l n.2 (all_in IsSoundTrack t.movie.tracks n.0 n.1 s.movie.tracks).descriptions i e

-- a box that stands in a file is one of the boxes that the tree has there
pub standing : (file : List ℕ) (t : FileTree) → IsFileTree file t → (place : Place) (before : List Box) (b : Box) → StandsIn (whole file) place before b
    → (boxes : List Box) × AreOf t place.scope place.container boxes × IsIn boxes b
standing file t h place before b s =
    let r = reached file t h place s.reaches in
    (r.0, r.1, stands_in place.container before r.0 b s.after (tiled place.scope place.container r.0 r.1.held))

leaf_fault_refuses : (file : List ℕ) (f : Fault) (p : Presentation) → IsLeafFault (whole file) f → Denotes file p → ⊥
leaf_fault_refuses file f p s d =
    let r = standing file d.tree d.is_tree s.place s.before s.b s.stands in
    unsound s.leaf s.b.payload s.kind s.fails (sound_leaf d.tree d.is_sound s.place.scope r.0 r.1.named s.b r.2 s.leaf s.read)

-- ---- which scope reads a box as the leaf

-- ---- an ID that an earlier one has

-- the tracks of the tree have distinct IDs
track_same : (t : FileTree) → IsSoundFile t → (u v : TrackTree) → IsIn t.movie.tracks u → IsIn t.movie.tracks v → (track_head_of u).id ≡ (track_head_of v).id → u ≡ v
track_same t s u v i j e =
    let ids = map_twice track_head_of (λ h. h.id) t.movie.tracks in
    distinct_same (λ (x : TrackTree). (track_head_of x).id) t.movie.tracks u v (sym (ap are_distinct ids) ∙ s.movie.track_ids) i j e

-- the `tkhd` in the boxes of a track is its first, and says its ID
the_tkhd : (file : List ℕ) (t : FileTree) → IsFileTree file t → (u : TrackTree) → IsIn t.movie.tracks u → (b : Box) → IsIn u.track b → bytes_eq (codes "tkhd") b.kind ≡ true
    → (first_of (codes "tkhd") u.track ≡ b) × ((track_head_of u).id ≡ slice_index (leaf_fields tkhd b.payload) 4)
the_tkhd file t h u k b i e =
    let first = is_first (codes "tkhd") u.track b i e (holds_only (track_tree file t h u k).track (codes "tkhd") refl) in
    (first, ap (λ (payload : List ℕ). slice_index (leaf_fields tkhd payload) 4) (payload_first (codes "tkhd") u.track ∙ ap (λ (x : Box). x.payload) first))

pub named_in : (t : FileTree) (x y : Scope) (boxes : List Box) → x ≡ y → IsNamed t x boxes → IsNamed t y boxes
named_in t x y boxes e n = subst (λ (s : Scope). IsNamed t s boxes) e n

taken_track_refuses : (file : List ℕ) (f : Fault) (p : Presentation) → IsTakenId (whole file) tkhd 4 f → Denotes file p → ⊥
taken_track_refuses file f p s d =
    let r = standing file d.tree d.is_tree s.place s.before s.b s.stands in
    let q = standing file d.tree d.is_tree s.earlier_place s.earlier_before s.earlier s.earlier_stands in
    let x = tkhd_scope s.place.scope s.b.kind s.leaf_is in
    let y = tkhd_scope s.earlier_place.scope s.earlier.kind s.earlier_leaf_is in
    let n = named_in d.tree s.place.scope (ruled Track) r.0 x.0 r.1.named in
    let m = named_in d.tree s.earlier_place.scope (ruled Track) q.0 y.0 q.1.named in
    let mine = the_tkhd file d.tree d.is_tree n.0 n.1 s.b (among r.0 n.0.track s.b n.2 r.2) x.1 in
    let other = the_tkhd file d.tree d.is_tree m.0 m.1 s.earlier (among q.0 m.0.track s.earlier m.2 q.2) y.1 in
    let tracks = track_same d.tree d.is_sound n.0 m.0 n.1 m.1 (mine.1 ∙ s.same_id ∙ sym other.1) in
    let boxes : s.b ≡ s.earlier = sym mine.0 ∙ ap (λ (u : TrackTree). first_of (codes "tkhd") u.track) tracks ∙ other.0 in
    omega (arith, s.order, ap (λ (b : Box). b.offset) boxes)

taken_trex_refuses : (file : List ℕ) (f : Fault) (p : Presentation) → IsTakenId (whole file) trex 2 f → Denotes file p → ⊥
taken_trex_refuses file f p s d =
    let r = standing file d.tree d.is_tree s.place s.before s.b s.stands in
    let q = standing file d.tree d.is_tree s.earlier_place s.earlier_before s.earlier s.earlier_stands in
    let x = trex_scope s.place.scope s.b.kind s.leaf_is in
    let y = trex_scope s.earlier_place.scope s.earlier.kind s.earlier_leaf_is in
    let all = d.tree.movie.extends in
    let n : r.0 ≡ all = named_in d.tree s.place.scope (ruled MovieExtends) r.0 x.0 r.1.named in
    let m : q.0 ≡ all = named_in d.tree s.earlier_place.scope (ruled MovieExtends) q.0 y.0 q.1.named in
    let i = in_of_kind (codes "trex") all s.b (among r.0 all s.b n r.2) x.1 in
    let j = in_of_kind (codes "trex") all s.earlier (among q.0 all s.earlier m q.2) y.1 in
    let ids = map_twice (λ (b : Box). trex_of b.payload) (λ t. t.id) (of_kind (codes "trex") all) in
    let boxes : s.b ≡ s.earlier = distinct_same (λ (b : Box). (trex_of b.payload).id) (of_kind (codes "trex") all) s.b s.earlier (sym (ap are_distinct ids) ∙ d.is_sound.movie.trex_ids) i j s.same_id in
    omega (arith, s.order, ap (λ (b : Box). b.offset) boxes)

-- ---- entries of `dref`, kept boxes

foreign_refuses : (file : List ℕ) (f : Fault) (p : Presentation) → IsForeignReference (whole file) f → Denotes file p → ⊥
foreign_refuses file f p s d =
    let r = standing file d.tree d.is_tree s.place s.before s.b s.stands in
    let n = named_in d.tree s.place.scope data_entries r.0 s.in_dref r.1.named in
    let sound = all_in IsSoundTrack d.tree.movie.tracks n.0 n.1 d.is_sound.movie.tracks in
    let url = all_in (λ (b : Box). b.kind ≡ codes "url ") n.0.data_references s.b (among r.0 n.0.data_references s.b n.2 r.2) sound.urls in
    url_is_leaf s.b.kind url s.foreign

item_location_refuses : (file : List ℕ) (f : Fault) (p : Presentation) → IsItemLocation (whole file) f → Denotes file p → ⊥
item_location_refuses file f p s d =
    let r = standing file d.tree d.is_tree s.place s.before s.b s.stands in
    elim (s.kept) [
      | inl k ↦
          let n : r.0 ≡ d.tree.movie.movie = named_in d.tree s.place.scope (ruled Movie) r.0 k.0 r.1.named in
          true_false (names_item_location s.b.payload) s.names (kept_names_none (kept_kinds Movie) d.tree.movie.movie s.b (among r.0 d.tree.movie.movie s.b n r.2) k.1 d.is_sound.movie.kept)
      | inr k ↦
          let n = named_in d.tree s.place.scope (ruled Track) r.0 k.0 r.1.named in
          let sound = all_in IsSoundTrack d.tree.movie.tracks n.0 n.1 d.is_sound.movie.tracks in
          true_false (names_item_location s.b.payload) s.names (kept_names_none (kept_kinds Track) n.0.track s.b (among r.0 n.0.track s.b n.2 r.2) k.1 sound.kept)
    ]

pub leaf_refuses : (file : List ℕ) (f : Fault) (p : Presentation) → StandsBy leaf file f → Denotes file p → ⊥
leaf_refuses file f p s d = elim (s) [
  | inl x ↦ leaf_fault_refuses file f p x d
  | inr a ↦ elim a [
    | inl x ↦ taken_track_refuses file f p x d
    | inr b ↦ elim b [
      | inl x ↦ taken_trex_refuses file f p x d
      | inr c ↦ elim c [
        | inl x ↦ foreign_refuses file f p x d
        | inr x ↦ item_location_refuses file f p x d
      ]
    ]
  ]
]
