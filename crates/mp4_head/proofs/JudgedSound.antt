-- Where no fault of a `moov` is named, the `moov` has a tree, and it is sound.
use Rattle.std.proofs.Common.{◌≡◌, ℕ, zero, suc, Bool, true, false, cond, List, [], ◌∷◌, ◌++◌, map, Option, Some, None, Result, Ok, Err, inl, inr, refl, sym, ap, subst, ◌∙◌, append_assoc}
use Rattle.std.specs.Prelude.{codes, bytes_eq, nat_eq, slice_index, filter}
use Rattle.std.specs.List.{AllByRecursion, list_any}
use Rattle.std.proofs.lemmas.List.{append-nil, map-append}
use Rattle.mp4_boxes.specs.format.Box.{Box, box_container, counted_container, Tiles}
use Rattle.mp4_boxes.specs.format.BoxFaults.{fault_of}
use Rattle.mp4_boxes.specs.format.Children.{Holds, of_kind, is_among, kept_kinds}
use Rattle.mp4_boxes.specs.format.FirstFault.{first_failed, naming, leaf_fault}
use Rattle.mp4_boxes.specs.format.Layout.{Leaf, tkhd, dref, stsd, trex, sample_entry, leaf_fields, IsSound}
use Rattle.mp4_boxes.specs.format.Places.{Scope, ruled, data_entries, sample_entries, at_kind, leaves, leaf_of, IsSoundAs, AreSound}
use Rattle.mp4_boxes.specs.declared.rule.Rule.{Rule}
use Rattle.mp4_boxes.specs.declared.rule.Rule.TheVariants as rules
use Rattle.mp4_boxes.specs.declared.fault.Fault.{Fault}
use Rattle.mp4_boxes.specs.declared.fault.Kind.TheVariants.{BadValue, ItemLocation}
use Rattle.mp4_boxes.proofs.Among.{IsIn, entry_or}
use Rattle.mp4_boxes.proofs.ChildrenJudged.{children_are}
use Rattle.mp4_boxes.proofs.Each.{each_member, each_weaker, each_value, each_kept, each_of_kind}
use Rattle.mp4_boxes.proofs.Refusing.{holds_only}
use Rattle.mp4_boxes.proofs.Sound.{same_kind}
use Rattle.mp4_boxes.proofs.Plain.{none_some, or_is_false}
use Rattle.mp4_frag.specs.declared.trex.Trex.{Trex}
use Rattle.mp4_frag.specs.format.Fragments.{trex_of}
use Rattle.mp4_head.specs.format.Head.{Kept, TrackHead, names_item_location}
use Rattle.mp4_head.specs.format.HeadFaults.{is_table}
use Rattle.mp4_head.specs.format.Tree.{TrackTree, MovieTree, HoldsIfThere, IsTrackTree, IsMovieTree, NameNoItems, IsSoundTrack, IsSoundMovie, first_of, kept_among, track_head_of, are_distinct}
use Rattle.mp4_head.specs.format.FirstFault.{boxes_in, counted_in, in_all, head_leaf_tests, id_in, track_id_of, track_tree_of, movie_tree_of, or_else, head_or_fault, fault_within}
use Rattle.mp4_head.specs.words.FaultNamed.{taken_fault}
use Rattle.mp4_head.specs.words.Refuses.{place_of}
use Rattle.mp4_head.proofs.CountedJudged.{counted_are}
use Rattle.mp4_head.proofs.Distinct.{map_twice, payload_first}
use Rattle.mp4_head.proofs.FaultWalks.{apart, dref_fault, stsd_fault, dinf_fault, stbl_fault, minf_fault}
use Rattle.mp4_head.proofs.IdsJudged.{trex_fault, tkhd_fault, edts_fault, mdia_fault, kept_in_track}
use Rattle.mp4_head.proofs.JudgedLeaves.{leaf_sound}
use Rattle.mp4_head.proofs.JudgedWalks.{neither_fails, Passes, passes, box_passes, passes_leaf, first_passes}
use Rattle.mp4_head.proofs.MovieJudged.{trak_fault, mvex_fault, kept_in_movie}
use Rattle.mp4_head.proofs.Taken.{distinct_more}
use Rattle.mp4_tables.proofs.GroupWalks.{kind_snoc, kind_snoc_other}

-- ---- leaves

-- no table is read as a leaf there
abbrev HasNoTable : Scope → Type 0
HasNoTable scope = (kind : List ℕ) (leaf : Leaf) → leaf_of scope kind ≡ Some leaf → is_table leaf ≡ false

-- no table is read by these entries
no_table : (entries : List (List ℕ × Leaf)) → list_any (λ (entry : List ℕ × Leaf). is_table entry.1) entries ≡ false → (kind : List ℕ) (leaf : Leaf) → at_kind entries kind ≡ Some leaf → is_table leaf ≡ false
no_table [] none kind leaf e = absurd (none_some leaf e)
no_table (entry ∷ entries) none kind leaf e =
    let parts = or_is_false (is_table entry.1) (list_any (λ (x : List ℕ × Leaf). is_table x.1) entries) none in
    elim (entry_or kind entry.0 entry.1 leaf entries e) [
      | inl m ↦ sym (ap is_table m.1) ∙ parts.0
      | inr n ↦ no_table entries parts.1 kind leaf n
    ]

-- an entry of `stsd` is no table
no_table_entry : HasNoTable sample_entries
no_table_entry kind leaf e = let same : sample_entry ≡ leaf = cc in sym (ap is_table same)

-- a box that passes as a leaf is sound as that leaf
sound_as : (o : Option Leaf) (b : Box) → ((leaf : Leaf) → o ≡ Some leaf → is_table leaf ≡ false) → first_failed (naming b (head_leaf_tests o b)) ≡ None → IsSoundAs o b.payload
sound_as None b none e = tt
sound_as (Some leaf) b none e = leaf_sound leaf b (passes_leaf (Some leaf) leaf b refl (none leaf refl) e)

-- the boxes of a container that passes are sound
all_sound : (n : ℕ) (ids : List ℕ) (scope : Scope) (b : Box) (boxes : List Box) → HasNoTable scope → Passes n ids (place_of scope b) boxes → AreSound scope boxes
all_sound n ids scope b boxes none p =
    each_member (λ (c : Box). IsSoundAs (leaf_of scope c.kind) c.payload) boxes
    (λ c i. sound_as (leaf_of scope c.kind) c (none c.kind) (box_passes n ids (place_of scope b) i.before c (p.each i.before i.after c i.is)).as_leaf)

-- ---- boxes of one type

-- what holds of each box of a type that is among these
each_typed : (P : Box → Type 0) (kind : List ℕ) (boxes : List Box) → ((b : Box) → IsIn boxes b → bytes_eq kind b.kind ≡ true → P b) → AllByRecursion P (of_kind kind boxes)
each_typed P kind boxes h =
    each_weaker (λ (b : Box). IsIn boxes b × (bytes_eq kind b.kind ≡ true)) P (λ b x. h b x.0 x.1) (of_kind kind boxes)
    (each_of_kind (IsIn boxes) kind boxes (each_member (IsIn boxes) boxes (λ b i. i)))

-- what the first of these boxes holds, if there is one
there_held : (rule : Rule) (found : List Box) → AllByRecursion (λ (b : Box). Holds rule (box_container b) (boxes_in rule b)) found → HoldsIfThere rule found (in_all rule found)
there_held rule [] h = refl
there_held rule (b ∷ more) h = h.0

-- what is so of no boxes, and of those that each of these holds, is so of those of the first
there_have : (rule : Rule) (Q : List Box → Type 0) → Q [] → (found : List Box) → AllByRecursion (λ (b : Box). Q (boxes_in rule b)) found → Q (in_all rule found)
there_have rule Q none [] h = none
there_have rule Q none (b ∷ more) h = h.0

-- ---- kept boxes

-- a box as it is kept
abbrev keeps : Box → Kept
keeps b = record { kind = b.kind; payload = b.payload }

-- no kept box names file offsets of items where none of these types does
none_placed : (kinds : List (List ℕ)) (boxes : List Box) → ((b : Box) → IsIn boxes b → is_among kinds b.kind ≡ true → names_item_location b.payload ≡ false) → NameNoItems (kept_among kinds boxes)
none_placed kinds boxes h =
    each_value (λ (b : Box). IsIn boxes b × (is_among kinds b.kind ≡ true)) (λ (k : Kept). names_item_location k.payload ≡ false) keeps (λ b x. h b x.0 x.1)
    (filter (λ (b : Box). is_among kinds b.kind) boxes)
    (each_kept (IsIn boxes) (λ (b : Box). is_among kinds b.kind) boxes (each_member (IsIn boxes) boxes (λ b i. i)))

-- a test of which the fault is not named
not_named : (v : Bool) (f : Fault) → cond v (Some f) None ≡ None → v ≡ false
not_named true f e = absurd cc
not_named false f e = refl

-- ---- IDs

-- the ID of a box that passes is none of these
new_id : (leaf : Leaf) (number : ℕ) (ids : List ℕ) (b : Box) → taken_fault leaf number ids b ≡ None → list_any (nat_eq (id_in leaf number b)) ids ≡ false
new_id leaf number ids b e =
    let parts = neither_fails (leaf_fault leaf b) (cond (list_any (nat_eq (id_in leaf number b)) ids) (Some (fault_of BadValue b)) None) e in
    not_named (list_any (nat_eq (id_in leaf number b)) ids) (fault_of BadValue b) parts.1

-- no box of the type has a number that one before it has
abbrev AreNew : (Box → ℕ) → List ℕ → List Box → List Box → Type 0
AreNew f kind passed left = (before after : List Box) (b : Box) → left ≡ before ++ b ∷ after → bytes_eq kind b.kind ≡ true → list_any (nat_eq (f b)) (map f (of_kind kind (passed ++ before))) ≡ false

-- one box is passed
new_behind : (f : Box → ℕ) (kind : List ℕ) (passed left : List Box) (c : Box) → AreNew f kind passed (c ∷ left) → AreNew f kind (passed ++ c ∷ []) left
new_behind f kind passed left c h before after b is k =
    ap (λ (bs : List Box). list_any (nat_eq (f b)) (map f (of_kind kind bs))) (append_assoc passed (c ∷ []) before) ∙ h (c ∷ before) after b (ap (λ (bs : List Box). c ∷ bs) is) k

-- the numbers of boxes of the type differ, each of which is new behind those before it
distinct_behind : (f : Box → ℕ) (kind : List ℕ) (passed left : List Box) → are_distinct (map f (of_kind kind passed)) ≡ true → AreNew f kind passed left → are_distinct (map f (of_kind kind (passed ++ left))) ≡ true
distinct_behind f kind passed [] d h = ap (λ (bs : List Box). are_distinct (map f (of_kind kind bs))) (append-nil passed) ∙ d
distinct_behind f kind passed (c ∷ left) d h = by (bytes_eq kind c.kind) refl (λ e. distinct_behind f kind (passed ++ c ∷ []) left e (new_behind f kind passed left c h))
  where
    grouped : (are_distinct (map f (of_kind kind (passed ++ c ∷ []))) ≡ true → are_distinct (map f (of_kind kind ((passed ++ c ∷ []) ++ left))) ≡ true)
        → are_distinct (map f (of_kind kind (passed ++ c ∷ []))) ≡ true → are_distinct (map f (of_kind kind (passed ++ c ∷ left))) ≡ true
    grouped more e = ap (λ (bs : List Box). are_distinct (map f (of_kind kind bs))) (sym (append_assoc passed (c ∷ []) left)) ∙ more e

    by : (v : Bool) → bytes_eq kind c.kind ≡ v → (are_distinct (map f (of_kind kind (passed ++ c ∷ []))) ≡ true → are_distinct (map f (of_kind kind ((passed ++ c ∷ []) ++ left))) ≡ true)
        → are_distinct (map f (of_kind kind (passed ++ c ∷ left))) ≡ true
    by false k more = grouped more (ap (λ (bs : List Box). are_distinct (map f bs)) (kind_snoc_other kind passed c k) ∙ d)
    by true k more =
        let none : list_any (nat_eq (f c)) (map f (of_kind kind passed)) ≡ false = ap (λ (bs : List Box). list_any (nat_eq (f c)) (map f (of_kind kind bs))) (sym (append-nil passed)) ∙ h [] left c refl k in
        let numbers : map f (of_kind kind (passed ++ c ∷ [])) ≡ map f (of_kind kind passed) ++ f c ∷ [] = ap (map f) (kind_snoc kind passed c k) ∙ map-append f (of_kind kind passed) (c ∷ []) in
        grouped more (ap are_distinct numbers ∙ distinct_more (map f (of_kind kind passed)) (f c) d none)

-- ---- entries

-- the entries of a `dref` that pass
record GoodReferences (b : Box) : Type 0 where
  tiles : Tiles (counted_container b) (counted_in b)
  sound : AreSound data_entries (counted_in b)
  urls : AllByRecursion (λ (c : Box). c.kind ≡ codes "url ") (counted_in b)

-- an entry of a `dref` that passes has the type `url `
of_url : (v : Bool) (b : Box) (f : Fault) → bytes_eq (codes "url ") b.kind ≡ v → cond v None (Some f) ≡ None → b.kind ≡ codes "url "
of_url true b f k e = same_kind (codes "url ") b.kind k
of_url false b f k e = absurd cc

-- where no fault of the entries of a `dref` is named
references : (n : ℕ) (ids : List ℕ) (b : Box) → fault_within (suc n) ids (place_of data_entries b) ≡ None → GoodReferences b
references n ids b e =
    let p = passes n ids (place_of data_entries b) e in
    record {
      tiles = counted_are b (counted_in b) p.listed;
      sound = all_sound n ids data_entries b (counted_in b) (no_table (leaves data_entries) refl) p;
      urls = each_member (λ (c : Box). c.kind ≡ codes "url ") (counted_in b)
          (λ c i. of_url (bytes_eq (codes "url ") c.kind) c _ refl (box_passes n ids (place_of data_entries b) i.before c (p.each i.before i.after c i.is)).standing);
    }

-- the entries of an `stsd` that pass
record GoodDescriptions (b : Box) : Type 0 where
  tiles : Tiles (counted_container b) (counted_in b)
  sound : AreSound sample_entries (counted_in b)

-- where no fault of the entries of an `stsd` is named
descriptions : (n : ℕ) (ids : List ℕ) (b : Box) → fault_within (suc n) ids (place_of sample_entries b) ≡ None → GoodDescriptions b
descriptions n ids b e =
    let p = passes n ids (place_of sample_entries b) e in
    record {
      tiles = counted_are b (counted_in b) p.listed;
      sound = all_sound n ids sample_entries b (counted_in b) no_table_entry p;
    }

-- ---- a `trak`

-- Where no fault of a `trak` is named, it has its tree, which is sound, and a new ID.
module _ (n : ℕ) (ids : List ℕ) (trak : Box) (e : fault_within (suc (suc (suc (suc (suc n))))) ids (place_of (ruled rules.Track) trak) ≡ None) where
  abbrev t : TrackTree
  t = track_tree_of trak

  abbrev mdia : Box
  mdia = first_of (codes "mdia") t.track

  abbrev minf : Box
  minf = first_of (codes "minf") t.media

  abbrev dinf : Box
  dinf = first_of (codes "dinf") t.information

  abbrev stbl : Box
  stbl = first_of (codes "stbl") t.information

  -- each container passes, and holds its boxes
  track_passes : Passes (suc (suc (suc (suc n)))) ids (place_of (ruled rules.Track) trak) t.track
  track_passes = passes (suc (suc (suc (suc n)))) ids (place_of (ruled rules.Track) trak) e

  track_holds : Holds rules.Track (box_container trak) t.track
  track_holds = children_are rules.Track (box_container trak) t.track track_passes.listed

  media_passes : Passes (suc (suc (suc n))) ids (place_of (ruled rules.Media) mdia) t.media
  media_passes =
      passes (suc (suc (suc n))) ids (place_of (ruled rules.Media) mdia)
      (first_passes (suc (suc (suc (suc n)))) ids (place_of (ruled rules.Track) trak) t.track track_passes (codes "mdia") (holds_only track_holds (codes "mdia") refl)
      (λ b. fault_within (suc (suc (suc (suc n)))) ids (place_of (ruled rules.Media) b)) (mdia_fault (suc (suc (suc (suc n)))) ids trak))

  media_holds : Holds rules.Media (box_container mdia) t.media
  media_holds = children_are rules.Media (box_container mdia) t.media media_passes.listed

  information_passes : Passes (suc (suc n)) ids (place_of (ruled rules.MediaInformation) minf) t.information
  information_passes =
      passes (suc (suc n)) ids (place_of (ruled rules.MediaInformation) minf)
      (first_passes (suc (suc (suc n))) ids (place_of (ruled rules.Media) mdia) t.media media_passes (codes "minf") (holds_only media_holds (codes "minf") refl)
      (λ b. fault_within (suc (suc (suc n))) ids (place_of (ruled rules.MediaInformation) b)) (minf_fault (suc (suc (suc n))) ids mdia))

  information_holds : Holds rules.MediaInformation (box_container minf) t.information
  information_holds = children_are rules.MediaInformation (box_container minf) t.information information_passes.listed

  data_passes : Passes (suc n) ids (place_of (ruled rules.DataInformation) dinf) t.data_information
  data_passes =
      passes (suc n) ids (place_of (ruled rules.DataInformation) dinf)
      (first_passes (suc (suc n)) ids (place_of (ruled rules.MediaInformation) minf) t.information information_passes (codes "dinf") (holds_only information_holds (codes "dinf") refl)
      (λ b. fault_within (suc (suc n)) ids (place_of (ruled rules.DataInformation) b)) (dinf_fault (suc (suc n)) ids minf))

  data_holds : Holds rules.DataInformation (box_container dinf) t.data_information
  data_holds = children_are rules.DataInformation (box_container dinf) t.data_information data_passes.listed

  table_passes : Passes (suc n) ids (place_of (ruled rules.SampleTable) stbl) t.table
  table_passes =
      passes (suc n) ids (place_of (ruled rules.SampleTable) stbl)
      (first_passes (suc (suc n)) ids (place_of (ruled rules.MediaInformation) minf) t.information information_passes (codes "stbl") (holds_only information_holds (codes "stbl") refl)
      (λ b. fault_within (suc (suc n)) ids (place_of (ruled rules.SampleTable) b))
      (λ before b k. stbl_fault (suc (suc n)) ids minf before b (apart (codes "stbl") (codes "dinf") b.kind k refl) k))

  table_holds : Holds rules.SampleTable (box_container stbl) t.table
  table_holds = children_are rules.SampleTable (box_container stbl) t.table table_passes.listed

  -- the `dref` and the `stsd`, with their entries
  the_references : GoodReferences (first_of (codes "dref") t.data_information)
  the_references =
      let dref_box = first_of (codes "dref") t.data_information in
      let parts = neither_fails (leaf_fault dref dref_box) (fault_within (suc n) ids (place_of data_entries dref_box))
      (first_passes (suc n) ids (place_of (ruled rules.DataInformation) dinf) t.data_information data_passes (codes "dref") (holds_only data_holds (codes "dref") refl)
      (λ b. or_else (leaf_fault dref b) (λ u. fault_within (suc n) ids (place_of data_entries b))) (dref_fault n ids dinf)) in
      references n ids dref_box parts.1

  the_descriptions : IsSound stsd (first_of (codes "stsd") t.table).payload × GoodDescriptions (first_of (codes "stsd") t.table)
  the_descriptions =
      let stsd_box = first_of (codes "stsd") t.table in
      let parts = neither_fails (leaf_fault stsd stsd_box) (fault_within (suc n) ids (place_of sample_entries stsd_box))
      (first_passes (suc n) ids (place_of (ruled rules.SampleTable) stbl) t.table table_passes (codes "stsd") (holds_only table_holds (codes "stsd") refl)
      (λ b. or_else (leaf_fault stsd b) (λ u. fault_within (suc n) ids (place_of sample_entries b))) (stsd_fault n ids stbl)) in
      (leaf_sound stsd stsd_box parts.0, descriptions n ids stsd_box parts.1)

  -- an `edts`
  edits_pass : (b : Box) → IsIn t.track b → bytes_eq (codes "edts") b.kind ≡ true → Passes (suc (suc (suc n))) ids (place_of (ruled rules.Edits) b) (boxes_in rules.Edits b)
  edits_pass b i k =
      passes (suc (suc (suc n))) ids (place_of (ruled rules.Edits) b) (sym (edts_fault (suc (suc (suc (suc n)))) ids trak i.before b k) ∙ track_passes.each i.before i.after b i.is)

  -- the tree
  track_is : IsTrackTree t
  track_is = record {
    track = track_holds;
    edits = there_held rules.Edits (of_kind (codes "edts") t.track)
        (each_typed (λ (b : Box). Holds rules.Edits (box_container b) (boxes_in rules.Edits b)) (codes "edts") t.track (λ b i k. children_are rules.Edits (box_container b) (boxes_in rules.Edits b) (edits_pass b i k).listed));
    media = media_holds;
    information = information_holds;
    data_information = data_holds;
    data_references = the_references.tiles;
    table = table_holds;
    descriptions = the_descriptions.1.tiles;
  }

  -- what is sound in it
  track_sound : IsSoundTrack t
  track_sound = record {
    track = all_sound (suc (suc (suc (suc n)))) ids (ruled rules.Track) trak t.track (no_table (leaves (ruled rules.Track)) refl) track_passes;
    kept = none_placed (kept_kinds rules.Track) t.track
        (λ b i k. not_named (names_item_location b.payload) (fault_of ItemLocation b) (sym (kept_in_track (suc (suc (suc (suc n)))) ids trak i.before b k) ∙ track_passes.each i.before i.after b i.is));
    edits = there_have rules.Edits (AreSound (ruled rules.Edits)) tt (of_kind (codes "edts") t.track)
        (each_typed (λ (b : Box). AreSound (ruled rules.Edits) (boxes_in rules.Edits b)) (codes "edts") t.track
        (λ b i k. all_sound (suc (suc (suc n))) ids (ruled rules.Edits) b (boxes_in rules.Edits b) (no_table (leaves (ruled rules.Edits)) refl) (edits_pass b i k)));
    media = all_sound (suc (suc (suc n))) ids (ruled rules.Media) mdia t.media (no_table (leaves (ruled rules.Media)) refl) media_passes;
    data_information = all_sound (suc n) ids (ruled rules.DataInformation) dinf t.data_information (no_table (leaves (ruled rules.DataInformation)) refl) data_passes;
    data_references = the_references.sound;
    urls = the_references.urls;
    stsd = subst (IsSound stsd) (sym (payload_first (codes "stsd") t.table)) the_descriptions.0;
    descriptions = the_descriptions.1.sound;
  }

  -- its ID is none of those before
  track_new : list_any (nat_eq (track_id_of trak)) ids ≡ false
  track_new =
      new_id tkhd 4 ids (first_of (codes "tkhd") t.track)
      (first_passes (suc (suc (suc (suc n)))) ids (place_of (ruled rules.Track) trak) t.track track_passes (codes "tkhd") (holds_only track_holds (codes "tkhd") refl) (taken_fault tkhd 4 ids) (tkhd_fault (suc (suc (suc (suc n)))) ids trak))

-- ---- the `moov`

-- the trees of these `trak`s are theirs
traks_are : (traks : List Box) → map (λ (t : TrackTree). t.trak) (map track_tree_of traks) ≡ traks
traks_are [] = refl
traks_are (b ∷ traks) = ap (λ (bs : List Box). b ∷ bs) (traks_are traks)

-- and say their IDs
ids_are : (traks : List Box) → map (λ (t : TrackHead). t.id) (map track_head_of (map track_tree_of traks)) ≡ map track_id_of traks
ids_are [] = refl
ids_are (b ∷ traks) = λ i. slice_index (leaf_fields tkhd (payload_first (codes "tkhd") (boxes_in rules.Track b) i)) 4 ∷ ids_are traks i

-- Where no fault of a `moov` is named, it has its tree, which is sound.
module _ (n : ℕ) (moov : Box) (e : fault_within (suc (suc (suc (suc (suc (suc n)))))) [] (place_of (ruled rules.Movie) moov) ≡ None) where
  abbrev m : MovieTree
  m = movie_tree_of moov

  -- its boxes pass, each `trak` and the `mvex` among them
  movie_passes : Passes (suc (suc (suc (suc (suc n))))) [] (place_of (ruled rules.Movie) moov) m.movie
  movie_passes = passes (suc (suc (suc (suc (suc n))))) [] (place_of (ruled rules.Movie) moov) e

  track_pass : (before after : List Box) (b : Box) → m.movie ≡ before ++ b ∷ after → bytes_eq (codes "trak") b.kind ≡ true
      → fault_within (suc (suc (suc (suc (suc n))))) (map track_id_of (of_kind (codes "trak") before)) (place_of (ruled rules.Track) b) ≡ None
  track_pass before after b is k = sym (trak_fault (suc (suc (suc (suc (suc n))))) moov before b k) ∙ movie_passes.each before after b is

  extends_pass : (b : Box) (i : IsIn m.movie b) → bytes_eq (codes "mvex") b.kind ≡ true
      → Passes (suc (suc (suc (suc n)))) (map track_id_of (of_kind (codes "trak") i.before)) (place_of (ruled rules.MovieExtends) b) (boxes_in rules.MovieExtends b)
  extends_pass b i k =
      passes (suc (suc (suc (suc n)))) (map track_id_of (of_kind (codes "trak") i.before)) (place_of (ruled rules.MovieExtends) b)
      (sym (mvex_fault (suc (suc (suc (suc (suc n))))) moov i.before b k) ∙ movie_passes.each i.before i.after b i.is)

  -- the `trex`s among these boxes have distinct IDs
  abbrev DistinctIn : List Box → Type 0
  DistinctIn boxes = are_distinct (map (id_in trex 2) (of_kind (codes "trex") boxes)) ≡ true

  trex_distinct : (b : Box) → IsIn m.movie b → bytes_eq (codes "mvex") b.kind ≡ true → DistinctIn (boxes_in rules.MovieExtends b)
  trex_distinct b i k =
      let p = extends_pass b i k in
      distinct_behind (id_in trex 2) (codes "trex") [] (boxes_in rules.MovieExtends b) refl
      (λ before after c is j. new_id trex 2 (map (id_in trex 2) (of_kind (codes "trex") before)) c
      (sym (trex_fault (suc (suc (suc (suc n)))) (map track_id_of (of_kind (codes "trak") i.before)) b before c j) ∙ p.each before after c is))

  -- the tree
  movie_is : IsMovieTree m
  movie_is = record {
    movie = children_are rules.Movie (box_container moov) m.movie movie_passes.listed;
    extends = there_held rules.MovieExtends (of_kind (codes "mvex") m.movie)
        (each_typed (λ (b : Box). Holds rules.MovieExtends (box_container b) (boxes_in rules.MovieExtends b)) (codes "mvex") m.movie
        (λ b i k. children_are rules.MovieExtends (box_container b) (boxes_in rules.MovieExtends b) (extends_pass b i k).listed));
    traks = traks_are (of_kind (codes "trak") m.movie);
    tracks = each_value (λ (b : Box). IsTrackTree (track_tree_of b)) IsTrackTree track_tree_of (λ b x. x) (of_kind (codes "trak") m.movie)
        (each_typed (λ (b : Box). IsTrackTree (track_tree_of b)) (codes "trak") m.movie (λ b i k. track_is n (map track_id_of (of_kind (codes "trak") i.before)) b (track_pass i.before i.after b i.is k)));
  }

  -- what is sound in it
  movie_sound : IsSoundMovie m
  movie_sound =
      let distinct = distinct_behind track_id_of (codes "trak") [] m.movie refl
      (λ before after b is k. track_new n (map track_id_of (of_kind (codes "trak") before)) b (track_pass before after b is k)) in
      let trexes = there_have rules.MovieExtends DistinctIn refl (of_kind (codes "mvex") m.movie) (each_typed (λ (b : Box). DistinctIn (boxes_in rules.MovieExtends b)) (codes "mvex") m.movie trex_distinct) in
      record {
        movie = all_sound (suc (suc (suc (suc (suc n))))) [] (ruled rules.Movie) moov m.movie (no_table (leaves (ruled rules.Movie)) refl) movie_passes;
        kept = none_placed (kept_kinds rules.Movie) m.movie
            (λ b i k. not_named (names_item_location b.payload) (fault_of ItemLocation b) (sym (kept_in_movie (suc (suc (suc (suc (suc n))))) moov i.before b k) ∙ movie_passes.each i.before i.after b i.is));
        tracks = each_value (λ (b : Box). IsSoundTrack (track_tree_of b)) IsSoundTrack track_tree_of (λ b x. x) (of_kind (codes "trak") m.movie)
            (each_typed (λ (b : Box). IsSoundTrack (track_tree_of b)) (codes "trak") m.movie (λ b i k. track_sound n (map track_id_of (of_kind (codes "trak") i.before)) b (track_pass i.before i.after b i.is k)));
        track_ids = ap are_distinct (ids_are (of_kind (codes "trak") m.movie)) ∙ distinct;
        extends = there_have rules.MovieExtends (AreSound (ruled rules.MovieExtends)) tt (of_kind (codes "mvex") m.movie)
            (each_typed (λ (b : Box). AreSound (ruled rules.MovieExtends) (boxes_in rules.MovieExtends b)) (codes "mvex") m.movie
            (λ b i k. all_sound (suc (suc (suc (suc n)))) (map track_id_of (of_kind (codes "trak") i.before)) (ruled rules.MovieExtends) b (boxes_in rules.MovieExtends b) (no_table (leaves (ruled rules.MovieExtends)) refl) (extends_pass b i k)));
        trex_ids = ap are_distinct (map_twice (λ (b : Box). trex_of b.payload) (λ (x : Trex). x.id) (of_kind (codes "trex") m.extends)) ∙ trexes;
      }

-- Where no fault is named, the tree is that of the `moov`, and sound.
pub judged_sound : (moov : Box) (m : MovieTree) → head_or_fault moov ≡ Ok m → (m.moov ≡ moov) × IsMovieTree m × IsSoundMovie m
judged_sound moov m e = by (fault_within 6 [] (place_of (ruled rules.Movie) moov)) refl
  where
    by : (o : Option Fault) → fault_within 6 [] (place_of (ruled rules.Movie) moov) ≡ o → (m.moov ≡ moov) × IsMovieTree m × IsSoundMovie m
    by (Some f) g = let h : ◌≡◌ {A = Result MovieTree Fault} (Err f) (Ok m) = rw g at e in absurd cc
    by None g =
        let h : ◌≡◌ {A = Result MovieTree Fault} (Ok (movie_tree_of moov)) (Ok m) = rw g at e in
        let same : movie_tree_of moov ≡ m = cc in
        subst (λ (x : MovieTree). (x.moov ≡ moov) × IsMovieTree x × IsSoundMovie x) same (refl, movie_is zero moov g, movie_sound zero moov g)
