-- Where a fault of the head stands in a `moov`, the `moov` has no sound tree.
use Rattle.std.proofs.Common.{◌≡◌, ℕ, Bool, true, false, List, [], ◌∷◌, Option, Some, None, refl, sym, ap, subst, ◌∙◌, arith, inl, inr}
use Rattle.std.specs.Prelude.{codes, bytes_eq, slice_index, ◌||◌, Result, Ok, Err, IfErr}
use Rattle.std.specs.List.{list_any, AllByRecursion}
use Rattle.mp4_boxes.specs.format.Box.{Box, Container}
use Rattle.mp4_boxes.specs.format.Children.{of_kind, Holds, kept_kinds}
use Rattle.mp4_boxes.specs.format.Layout.{Leaf, tkhd, data_entry_url, sample_entry, stsd, stts, ctts, stsc, stsz, stz2, stco, co64, stss, sdtp, sbgp, sgpd, trex, leaf_fields, IsSound}
use Rattle.mp4_boxes.specs.format.Places.{Scope, ruled, data_entries, sample_entries, at_kind, leaves, leaf_of, IsSoundAs, AreSound}
use Rattle.mp4_boxes.specs.declared.rule.Rule.{Rule}
use Rattle.mp4_boxes.specs.declared.rule.Rule.TheVariants.{File, Movie, Track, Edits, Media, MediaInformation, DataInformation, SampleTable, MovieExtends, MovieFragment, TrackFragment}
use Rattle.mp4_boxes.specs.declared.fault.Fault.{Fault}
use Rattle.mp4_boxes.specs.declared.refusal.Refusal.{Refusal}
use Rattle.mp4_boxes.specs.declared.refusal.Refusal.TheVariants as refusals
use Rattle.mp4_boxes.proofs.Among.{IsIn, all_in, in_of_kind, only_entry, entry_or}
use Rattle.mp4_boxes.proofs.Refusing.{unsound, holds_only, child_fault_refuses}
use Rattle.mp4_boxes.proofs.Tiling.{header_fault_refuses}
use Rattle.mp4_boxes.proofs.Plain.{none_some, true_false}
use Rattle.mp4_frag.specs.format.Fragments.{trex_of}
use Rattle.mp4_head.specs.format.Head.{names_item_location}
use Rattle.mp4_head.specs.format.HeadFaults.{HeadStands, HeaderStands, ChildStands, MissingStands, IsHeadLeafFault, IsTakenId, IsForeignReference, IsItemLocation, is_table}
use Rattle.mp4_head.specs.words.Refuses.{RefusesIn, place_of}
use Rattle.mp4_head.specs.format.Tree.{TrackTree, MovieTree, IsMovieTree, IsSoundTrack, IsSoundMovie, are_distinct, first_of, track_head_of}
use Rattle.mp4_head.proofs.Distinct.{distinct_same, map_twice, kept_names_none, payload_first}
use Rattle.mp4_head.proofs.HeadPlaces.{HoldsAs, IsNamed, tiled, reached, standing, among, is_first, track_tree}

-- a leaf among sound ones is sound
pub leaf_among : (scope : Scope) (boxes bs : List Box) (b : Box) (l : Leaf) → boxes ≡ bs → AreSound scope bs → IsIn boxes b → leaf_of scope b.kind ≡ Some l → IsSound l b.payload
leaf_among scope boxes bs b l same s i e =
    let k = all_in (λ (x : Box). IsSoundAs (leaf_of scope x.kind) x.payload) bs b (among boxes bs b same i) s in
    subst (λ (o : Option Leaf). IsSoundAs o b.payload) e k

-- what a list of tables has at a type is a table
only_tables : (entries : List (List ℕ × Leaf)) (kind : List ℕ) (l : Leaf) → AllByRecursion (λ (entry : List ℕ × Leaf). is_table entry.1 ≡ true) entries → at_kind entries kind ≡ Some l → is_table l ≡ true
only_tables [] kind l a e = absurd (none_some l e)
only_tables (entry ∷ entries) kind l a e = elim (entry_or kind entry.0 entry.1 l entries e) [
  | inl m ↦ sym (ap is_table m.1) ∙ a.0
  | inr n ↦ only_tables entries kind l a.1 n
]

-- the tables behind the first entry
behind_first : (first : List ℕ) (x : Leaf) (entries : List (List ℕ × Leaf)) (kind : List ℕ) (l : Leaf) → AllByRecursion (λ (entry : List ℕ × Leaf). is_table entry.1 ≡ true) entries → at_kind ((first, x) ∷ entries) kind ≡ Some l → is_table l ≡ false
    → (bytes_eq first kind ≡ true) × (x ≡ l)
behind_first first x entries kind l a e n = elim (entry_or kind first x l entries e) [
  | inl m ↦ m
  | inr k ↦ absurd (true_false (is_table l) (only_tables entries kind l a k) n)
]

-- the leaves of an `stbl` behind its `stsd`
abbrev tables : List (List ℕ × Leaf)
tables = (codes "stts", stts) ∷ (codes "ctts", ctts) ∷ (codes "stsc", stsc) ∷ (codes "stsz", stsz) ∷ (codes "stz2", stz2) ∷ (codes "stco", stco) ∷ (codes "co64", co64) ∷ (codes "stss", stss) ∷ (codes "sdtp", sdtp) ∷ (codes "sbgp", sbgp) ∷ (codes "sgpd", sgpd) ∷ []

-- what of an `stbl` is no table is its `stsd`
stsd_alone : (kind : List ℕ) (l : Leaf) → leaf_of (ruled SampleTable) kind ≡ Some l → is_table l ≡ false → (bytes_eq (codes "stsd") kind ≡ true) × (stsd ≡ l)
stsd_alone kind l e n = behind_first (codes "stsd") stsd tables kind l (refl, (refl, (refl, (refl, (refl, (refl, (refl, (refl, (refl, (refl, (refl, tt))))))))))) e n

-- the `stsd` of a track of a sound tree is sound
sound_stsd : (m : MovieTree) → IsMovieTree m → IsSoundMovie m → (u : TrackTree) → IsIn m.tracks u → (b : Box) → IsIn u.table b → bytes_eq (codes "stsd") b.kind ≡ true → IsSound stsd b.payload
sound_stsd m h s u k b i e =
    let first = is_first (codes "stsd") u.table b i e (holds_only (track_tree m h u k).table (codes "stsd") refl) in
    subst (λ (payload : List ℕ). IsSound stsd payload) (payload_first (codes "stsd") u.table ∙ ap (λ (x : Box). x.payload) first) (all_in IsSoundTrack m.tracks u k s.tracks).stsd

-- what is read as a leaf in a container of a sound tree, and is no table, is sound
sound_leaf : (m : MovieTree) → IsMovieTree m → IsSoundMovie m → (scope : Scope) (boxes : List Box) → IsNamed m scope boxes → (b : Box) → IsIn boxes b → (l : Leaf) → leaf_of scope b.kind ≡ Some l → is_table l ≡ false → IsSound l b.payload
sound_leaf m h s (ruled File) boxes n b i l e t = absurd n
sound_leaf m h s (ruled MovieFragment) boxes n b i l e t = absurd n
sound_leaf m h s (ruled TrackFragment) boxes n b i l e t = absurd n
sound_leaf m h s (ruled MediaInformation) boxes n b i l e t = absurd (none_some l e)
sound_leaf m h s (ruled Movie) boxes n b i l e t = leaf_among (ruled Movie) boxes m.movie b l n s.movie i e
sound_leaf m h s (ruled MovieExtends) boxes n b i l e t = leaf_among (ruled MovieExtends) boxes m.extends b l n s.extends i e
sound_leaf m h s (ruled Track) boxes n b i l e t = leaf_among (ruled Track) boxes n.0.track b l n.2 (all_in IsSoundTrack m.tracks n.0 n.1 s.tracks).track i e
sound_leaf m h s (ruled Edits) boxes n b i l e t = leaf_among (ruled Edits) boxes n.0.edits b l n.2 (all_in IsSoundTrack m.tracks n.0 n.1 s.tracks).edits i e
sound_leaf m h s (ruled Media) boxes n b i l e t = leaf_among (ruled Media) boxes n.0.media b l n.2 (all_in IsSoundTrack m.tracks n.0 n.1 s.tracks).media i e
sound_leaf m h s (ruled DataInformation) boxes n b i l e t = leaf_among (ruled DataInformation) boxes n.0.data_information b l n.2 (all_in IsSoundTrack m.tracks n.0 n.1 s.tracks).data_information i e
sound_leaf m h s (ruled SampleTable) boxes n b i l e t =
    let k = stsd_alone b.kind l e t in
    subst (λ (x : Leaf). IsSound x b.payload) k.1 (sound_stsd m h s n.0 n.1 b (among boxes n.0.table b n.2 i) k.0)
sound_leaf m h s data_entries boxes n b i l e t = leaf_among data_entries boxes n.0.data_references b l n.2 (all_in IsSoundTrack m.tracks n.0 n.1 s.tracks).data_references i e
sound_leaf m h s sample_entries boxes n b i l e t = leaf_among sample_entries boxes n.0.descriptions b l n.2 (all_in IsSoundTrack m.tracks n.0 n.1 s.tracks).descriptions i e

leaf_excludes : (m : MovieTree) (f : Fault) → IsHeadLeafFault (place_of (ruled Movie) m.moov) f → IsMovieTree m → IsSoundMovie m → ⊥
leaf_excludes m f q h s =
    let x = q.fault in
    let r = standing m h x.place x.before x.b x.stands in
    unsound x.leaf x.b.payload x.kind x.fails (sound_leaf m h s x.place.scope r.0 r.1.named x.b r.2 x.leaf x.read q.no_table)

-- ---- the list of boxes of a container

pub held_under : (scope : Scope) (rule : Rule) (c : Container) (boxes : List Box) → scope ≡ ruled rule → HoldsAs scope c boxes → Holds rule c boxes
held_under scope rule c boxes e h = subst (λ (x : Scope). HoldsAs x c boxes) e h

header_excludes : (m : MovieTree) (f : Fault) → HeaderStands (place_of (ruled Movie) m.moov) f → IsMovieTree m → ⊥
header_excludes m f q h =
    let r = reached m h q.place q.reaches in
    header_fault_refuses q.place.container f r.0 q.fault (tiled q.place.scope q.place.container r.0 r.1.held)

child_excludes : (m : MovieTree) (f : Fault) → ChildStands (place_of (ruled Movie) m.moov) f → IsMovieTree m → ⊥
child_excludes m f q h =
    let r = reached m h q.place q.reaches in
    let holds = held_under q.place.scope q.rule q.place.container r.0 q.under r.1.held in
    elim (q.fault) [
      | inl x ↦ child_fault_refuses q.rule q.place.container f r.0 (inr (inl x)) holds
      | inr x ↦ child_fault_refuses q.rule q.place.container f r.0 (inr (inr (inl x))) holds
    ]

missing_excludes : (m : MovieTree) (f : Fault) → MissingStands (place_of (ruled Movie) m.moov) f → IsMovieTree m → ⊥
missing_excludes m f q h =
    let r = reached m h q.place q.reaches in
    child_fault_refuses q.rule q.place.container f r.0 (inr (inr (inr q.fault))) (held_under q.place.scope q.rule q.place.container r.0 q.under r.1.held)

-- ---- which scope reads a box as the leaf

-- a value that the table has at a type passes a test that it passes
pub has_any : {A : Type 0} (test : A → Bool) (entries : List (List ℕ × A)) (kind : List ℕ) (x : A) → test x ≡ true → at_kind entries kind ≡ Some x → list_any (λ (entry : List ℕ × A). test entry.1) entries ≡ true
has_any test [] kind x t e = absurd (none_some x e)
has_any test (entry ∷ entries) kind x t e = elim (entry_or kind entry.0 entry.1 x entries e) [
  | inl m ↦ left (test entry.1) (list_any (λ y. test y.1) entries) (ap test m.1 ∙ t)
  | inr n ↦ right (test entry.1) (list_any (λ y. test y.1) entries) (has_any test entries kind x t n)
]
  where
    left : (p q : Bool) → p ≡ true → p || q ≡ true
    left p q h = rw h refl

    right : (p q : Bool) → q ≡ true → p || q ≡ true
    right true q h = refl
    right false q h = h

abbrev is_tkhd : Leaf → Bool
is_tkhd tkhd = true
is_tkhd _ = false

abbrev is_trex : Leaf → Bool
is_trex trex = true
is_trex _ = false

pub other_leaf : (x y : Leaf) (test : Leaf → Bool) → ◌≡◌ {A = Option Leaf} (Some x) (Some y) → test x ≡ false → test y ≡ true → ⊥
other_leaf x y test e f t = let same : x ≡ y = cc in true_false (test x) (ap test same ∙ t) f

pub tkhd_scope : (scope : Scope) (kind : List ℕ) → leaf_of scope kind ≡ Some tkhd → (scope ≡ ruled Track) × (bytes_eq (codes "tkhd") kind ≡ true)
tkhd_scope (ruled Track) kind e = (refl, (only_entry kind (codes "tkhd") tkhd tkhd e).0)
tkhd_scope sample_entries kind e = absurd (other_leaf sample_entry tkhd is_tkhd e refl refl)
tkhd_scope scope kind e = absurd (true_false _ (has_any is_tkhd (leaves scope) kind tkhd refl e) refl)

pub trex_scope : (scope : Scope) (kind : List ℕ) → leaf_of scope kind ≡ Some trex → (scope ≡ ruled MovieExtends) × (bytes_eq (codes "trex") kind ≡ true)
trex_scope (ruled MovieExtends) kind e = (refl, (only_entry kind (codes "trex") trex trex e).0)
trex_scope sample_entries kind e = absurd (other_leaf sample_entry trex is_trex e refl refl)
trex_scope scope kind e = absurd (true_false _ (has_any is_trex (leaves scope) kind trex refl e) refl)

-- ---- an ID that an earlier one has

-- the tracks of the tree have distinct IDs
track_same : (m : MovieTree) → IsSoundMovie m → (u v : TrackTree) → IsIn m.tracks u → IsIn m.tracks v → (track_head_of u).id ≡ (track_head_of v).id → u ≡ v
track_same m s u v i j e =
    let ids = map_twice track_head_of (λ h. h.id) m.tracks in
    distinct_same (λ (x : TrackTree). (track_head_of x).id) m.tracks u v (sym (ap are_distinct ids) ∙ s.track_ids) i j e

-- the `tkhd` in the boxes of a track is its first, and says its ID
the_tkhd : (m : MovieTree) → IsMovieTree m → (u : TrackTree) → IsIn m.tracks u → (b : Box) → IsIn u.track b → bytes_eq (codes "tkhd") b.kind ≡ true
    → (first_of (codes "tkhd") u.track ≡ b) × ((track_head_of u).id ≡ slice_index (leaf_fields tkhd b.payload) 4)
the_tkhd m h u k b i e =
    let first = is_first (codes "tkhd") u.track b i e (holds_only (track_tree m h u k).track (codes "tkhd") refl) in
    (first, ap (λ (payload : List ℕ). slice_index (leaf_fields tkhd payload) 4) (payload_first (codes "tkhd") u.track ∙ ap (λ (x : Box). x.payload) first))

named_in : (m : MovieTree) (x y : Scope) (boxes : List Box) → x ≡ y → IsNamed m x boxes → IsNamed m y boxes
named_in m x y boxes e n = subst (λ (s : Scope). IsNamed m s boxes) e n

taken_track_excludes : (m : MovieTree) (f : Fault) → IsTakenId (place_of (ruled Movie) m.moov) tkhd 4 f → IsMovieTree m → IsSoundMovie m → ⊥
taken_track_excludes m f s h sound =
    let r = standing m h s.place s.before s.b s.stands in
    let q = standing m h s.earlier_place s.earlier_before s.earlier s.earlier_stands in
    let x = tkhd_scope s.place.scope s.b.kind s.leaf_is in
    let y = tkhd_scope s.earlier_place.scope s.earlier.kind s.earlier_leaf_is in
    let n = named_in m s.place.scope (ruled Track) r.0 x.0 r.1.named in
    let k = named_in m s.earlier_place.scope (ruled Track) q.0 y.0 q.1.named in
    let mine = the_tkhd m h n.0 n.1 s.b (among r.0 n.0.track s.b n.2 r.2) x.1 in
    let other = the_tkhd m h k.0 k.1 s.earlier (among q.0 k.0.track s.earlier k.2 q.2) y.1 in
    let tracks = track_same m sound n.0 k.0 n.1 k.1 (mine.1 ∙ s.same_id ∙ sym other.1) in
    let boxes : s.b ≡ s.earlier = sym mine.0 ∙ ap (λ (u : TrackTree). first_of (codes "tkhd") u.track) tracks ∙ other.0 in
    omega (arith, s.order, ap (λ (b : Box). b.offset) boxes)

taken_trex_excludes : (m : MovieTree) (f : Fault) → IsTakenId (place_of (ruled Movie) m.moov) trex 2 f → IsMovieTree m → IsSoundMovie m → ⊥
taken_trex_excludes m f s h sound =
    let r = standing m h s.place s.before s.b s.stands in
    let q = standing m h s.earlier_place s.earlier_before s.earlier s.earlier_stands in
    let x = trex_scope s.place.scope s.b.kind s.leaf_is in
    let y = trex_scope s.earlier_place.scope s.earlier.kind s.earlier_leaf_is in
    let n : r.0 ≡ m.extends = named_in m s.place.scope (ruled MovieExtends) r.0 x.0 r.1.named in
    let k : q.0 ≡ m.extends = named_in m s.earlier_place.scope (ruled MovieExtends) q.0 y.0 q.1.named in
    let i = in_of_kind (codes "trex") m.extends s.b (among r.0 m.extends s.b n r.2) x.1 in
    let j = in_of_kind (codes "trex") m.extends s.earlier (among q.0 m.extends s.earlier k q.2) y.1 in
    let ids = map_twice (λ (b : Box). trex_of b.payload) (λ t. t.id) (of_kind (codes "trex") m.extends) in
    let boxes : s.b ≡ s.earlier = distinct_same (λ (b : Box). (trex_of b.payload).id) (of_kind (codes "trex") m.extends) s.b s.earlier (sym (ap are_distinct ids) ∙ sound.trex_ids) i j s.same_id in
    omega (arith, s.order, ap (λ (b : Box). b.offset) boxes)

-- ---- entries of `dref`, kept boxes

pub url_is_leaf : (kind : List ℕ) → kind ≡ codes "url " → leaf_of data_entries kind ≡ None → ⊥
url_is_leaf kind e n = let k : ◌≡◌ {A = Option Leaf} (Some data_entry_url) None = sym (ap (leaf_of data_entries) e) ∙ n in cc

foreign_excludes : (m : MovieTree) (f : Fault) → IsForeignReference (place_of (ruled Movie) m.moov) f → IsMovieTree m → IsSoundMovie m → ⊥
foreign_excludes m f s h sound =
    let r = standing m h s.place s.before s.b s.stands in
    let n = named_in m s.place.scope data_entries r.0 s.in_dref r.1.named in
    let url = all_in (λ (b : Box). b.kind ≡ codes "url ") n.0.data_references s.b (among r.0 n.0.data_references s.b n.2 r.2) (all_in IsSoundTrack m.tracks n.0 n.1 sound.tracks).urls in
    url_is_leaf s.b.kind url s.foreign

item_location_excludes : (m : MovieTree) (f : Fault) → IsItemLocation (place_of (ruled Movie) m.moov) f → IsMovieTree m → IsSoundMovie m → ⊥
item_location_excludes m f s h sound =
    let r = standing m h s.place s.before s.b s.stands in
    elim (s.kept) [
      | inl k ↦
          let n : r.0 ≡ m.movie = named_in m s.place.scope (ruled Movie) r.0 k.0 r.1.named in
          true_false (names_item_location s.b.payload) s.names (kept_names_none (kept_kinds Movie) m.movie s.b (among r.0 m.movie s.b n r.2) k.1 sound.kept)
      | inr k ↦
          let n = named_in m s.place.scope (ruled Track) r.0 k.0 r.1.named in
          true_false (names_item_location s.b.payload) s.names (kept_names_none (kept_kinds Track) n.0.track s.b (among r.0 n.0.track s.b n.2 r.2) k.1 (all_in IsSoundTrack m.tracks n.0 n.1 sound.tracks).kept)
    ]

-- ---- all rows

-- a fault of the head excludes a sound tree
pub head_excludes : (m : MovieTree) (f : Fault) → HeadStands (place_of (ruled Movie) m.moov) f → IsMovieTree m → IsSoundMovie m → ⊥
head_excludes m f (inl q) h s = header_excludes m f q h
head_excludes m f (inr (inl q)) h s = child_excludes m f q h
head_excludes m f (inr (inr (inl q))) h s = missing_excludes m f q h
head_excludes m f (inr (inr (inr (inl q)))) h s = leaf_excludes m f q h s
head_excludes m f (inr (inr (inr (inr (inl q))))) h s = taken_track_excludes m f q h s
head_excludes m f (inr (inr (inr (inr (inr (inl q)))))) h s = taken_trex_excludes m f q h s
head_excludes m f (inr (inr (inr (inr (inr (inr (inl q))))))) h s = foreign_excludes m f q h s
head_excludes m f (inr (inr (inr (inr (inr (inr (inr q))))))) h s = item_location_excludes m f q h s

refused_for : (m : MovieTree) (r : Refusal) → IsMovieTree m → IsSoundMovie m → RefusesIn (place_of (ruled Movie) m.moov) r → r ≡ refusals.Memory
refused_for m (refusals.Fault f) h s q = absurd (head_excludes m f q h s)
refused_for m refusals.Memory h s q = refl
refused_for m refusals.StoreFailed h s q = absurd q
refused_for m refusals.StoreChanged h s q = absurd q
refused_for m refusals.WriteFailed h s q = absurd q
refused_for m refusals.NoSuchTrack h s q = absurd q

-- what has a sound tree is refused for want of memory alone
pub refused_rightly : {A : Type 0} (b : Box) (result : Result A Refusal) (m : MovieTree) → m.moov ≡ b → IsMovieTree m → IsSoundMovie m → IfErr result (RefusesIn (place_of (ruled Movie) b)) → IfErr result (λ r. r ≡ refusals.Memory)
refused_rightly b (Ok x) m e h s q = tt
refused_rightly b (Err r) m e h s q = refused_for m r h s (subst (λ (x : Box). RefusesIn (place_of (ruled Movie) x) r) (sym e) q)
