-- The first fault of a `moov`: of its boxes, behind the IDs of the tracks before.
use Rattle.std.proofs.Common.{◌≡◌, ℕ, true, false, cond, List, [], ◌∷◌, ◌++◌, map, Option, Some, None, Result, refl, sym, ap, subst, ◌∙◌}
use Rattle.std.specs.Prelude.{codes, bytes_eq, not, slice_index}
use Rattle.std.specs.List.{AllZip}
use Rattle.std.specs.BTreeSet.{BTreeSet}
use Rattle.std.proofs.lemmas.List.{append_cancel_right}
use Rattle.mp4_boxes.specs.format.Box.{Box, box_container}
use Rattle.mp4_boxes.specs.format.BoxFaults.{fault_of}
use Rattle.mp4_boxes.specs.format.Children.{Holds, of_kind, is_among, kept_kinds}
use Rattle.mp4_boxes.specs.format.FirstFault.{leaf_fault}
use Rattle.mp4_boxes.specs.format.Layout.{mvhd, tkhd, leaf_fields}
use Rattle.mp4_boxes.specs.format.Places.{ruled}
use Rattle.mp4_boxes.specs.declared.rule.Rule.TheVariants as rules
use Rattle.mp4_boxes.specs.declared.fault.Fault.{Fault}
use Rattle.mp4_boxes.specs.declared.fault.Kind.TheVariants.{ItemLocation}
use Rattle.mp4_boxes.proofs.ChildrenJudged.{held_are}
use Rattle.mp4_head.specs.declared.heads.TrackHead.{TrackHead}
use Rattle.mp4_head.specs.declared.movie_header.MovieHeader.{MovieHeader}
use Rattle.mp4_frag.specs.declared.trex.Trex.{Trex}
use Rattle.mp4_head.specs.format.Head as heads
use Rattle.mp4_head.specs.format.Head.{names_item_location}
use Rattle.mp4_head.specs.format.Tree.{first_of, track_head_of}
use Rattle.mp4_head.specs.format.FirstFault.{id_in, boxes_there, track_id_of, fault_within}
use Rattle.mp4_head.specs.words.Ids.{HasIds}
use Rattle.mp4_head.specs.words.Refuses.{place_of}
use Rattle.mp4_head.proofs.Distinct.{payload_first}
use Rattle.mp4_head.proofs.FaultWalks.{fault_at, apart, or_none}
use Rattle.mp4_head.proofs.IdsJudged.{not_kept, not_taken}
use Rattle.mp4_head.proofs.KeptWalks.{another}
use Rattle.mp4_head.proofs.MovieBoxes.{IsTrack, ids_of, MoviePassed}
use Rattle.mp4_head.proofs.Walks.{walk_here}

-- the ID of a track that was read is the one by the definition
track_id : (b : Box) (t : TrackHead) → IsTrack b t → t.id ≡ track_id_of b
track_id b t i =
    let tree = i.says.tree in
    let holds : Holds rules.Track (box_container b) tree.track = subst (λ (c : Box). Holds rules.Track (box_container c) tree.track) i.says.is_trak i.says.is_tree.track in
    let boxes = held_are rules.Track (box_container b) tree.track holds in
    let said : t.id ≡ (track_head_of tree).id = ap (λ (h : heads.TrackHead). h.id) i.says.says in
    said ∙ ap (λ (p : List ℕ). slice_index (leaf_fields tkhd p) 4) (payload_first (codes "tkhd") tree.track)
    ∙ ap (λ (r : Result (List Box) Fault). id_in tkhd 4 (first_of (codes "tkhd") (boxes_there r))) (sym boxes)

-- and so of all
track_ids : (bs : List Box) (tracks : List TrackHead) → AllZip IsTrack bs tracks → ids_of tracks ≡ map track_id_of bs
track_ids [] [] z = refl
track_ids [] (t ∷ tracks) z = absurd z
track_ids (b ∷ bs) [] z = absurd z
track_ids (b ∷ bs) (t ∷ tracks) z = (λ i. track_id b t z.0 i ∷ track_ids bs tracks z.1 i)

-- the set has the IDs of the tracks before the box in hand
pub ids_behind_are : (all left later : List Box) (child : Box) (header : Option MovieHeader) (kept : List heads.Kept) (tracks : List TrackHead) (ids : BTreeSet ℕ) (trexes : List Trex) (before : List Box)
    → MoviePassed all left header kept tracks ids trexes → left ≡ child ∷ later → all ≡ before ++ child ∷ later → HasIds ids (map track_id_of (of_kind (codes "trak") before))
ids_behind_are all left later child header kept tracks ids trexes before p e is =
    let same : p.walk.passed ≡ before = append_cancel_right p.walk.passed before (child ∷ later) (sym (walk_here all left later child p.walk e) ∙ is) in
    let numbers : ids_of tracks ≡ map track_id_of (of_kind (codes "trak") before) = track_ids (of_kind (codes "trak") p.walk.passed) tracks p.tracks_are ∙ ap (λ (bs : List Box). map track_id_of (of_kind (codes "trak") bs)) same in
    subst (λ (ns : List ℕ). HasIds ids ns) numbers p.met

-- ---- boxes of a `moov`

pub mvhd_fault : (n : ℕ) (moov : Box) (before : List Box) (b : Box) → bytes_eq (codes "mvhd") b.kind ≡ true → fault_at n [] (place_of (ruled rules.Movie) moov) before b ≡ leaf_fault mvhd b
mvhd_fault n moov before b k =
    rw (k, not_kept (kept_kinds rules.Movie) (codes "mvhd") b.kind k refl, apart (codes "mvhd") (codes "trak") b.kind k refl, apart (codes "mvhd") (codes "mvex") b.kind k refl) (or_none (leaf_fault mvhd b))

pub trak_fault : (n : ℕ) (moov : Box) (before : List Box) (b : Box) → bytes_eq (codes "trak") b.kind ≡ true
    → fault_at n [] (place_of (ruled rules.Movie) moov) before b ≡ fault_within n (map track_id_of (of_kind (codes "trak") before)) (place_of (ruled rules.Track) b)
trak_fault n moov before b k = rw (k, apart (codes "trak") (codes "mvhd") b.kind k refl, not_kept (kept_kinds rules.Movie) (codes "trak") b.kind k refl) refl

pub mvex_fault : (n : ℕ) (moov : Box) (before : List Box) (b : Box) → bytes_eq (codes "mvex") b.kind ≡ true
    → fault_at n [] (place_of (ruled rules.Movie) moov) before b ≡ fault_within n (map track_id_of (of_kind (codes "trak") before)) (place_of (ruled rules.MovieExtends) b)
mvex_fault n moov before b k =
    rw (k, apart (codes "mvex") (codes "mvhd") b.kind k refl, apart (codes "mvex") (codes "trak") b.kind k refl, not_kept (kept_kinds rules.Movie) (codes "mvex") b.kind k refl) refl

pub kept_in_movie : (n : ℕ) (moov : Box) (before : List Box) (b : Box) → is_among (kept_kinds rules.Movie) b.kind ≡ true
    → fault_at n [] (place_of (ruled rules.Movie) moov) before b ≡ cond (names_item_location b.payload) (Some (fault_of ItemLocation b)) None
kept_in_movie n moov before b k =
    rw (
      k,
      another (kept_kinds rules.Movie) b.kind (codes "mvhd") (bytes_eq (codes "mvhd") b.kind) refl k refl,
      another (kept_kinds rules.Movie) b.kind (codes "trak") (bytes_eq (codes "trak") b.kind) refl k refl,
      another (kept_kinds rules.Movie) b.kind (codes "mvex") (bytes_eq (codes "mvex") b.kind) refl k refl,
    )
    (or_none (cond (not (names_item_location b.payload)) None (Some (fault_of ItemLocation b))) ∙ not_taken (names_item_location b.payload) (fault_of ItemLocation b))

pub movie_pass : (n : ℕ) (moov : Box) (before : List Box) (b : Box) → bytes_eq (codes "mvhd") b.kind ≡ false → is_among (kept_kinds rules.Movie) b.kind ≡ false → bytes_eq (codes "trak") b.kind ≡ false → bytes_eq (codes "mvex") b.kind ≡ false
    → fault_at n [] (place_of (ruled rules.Movie) moov) before b ≡ None
movie_pass n moov before b n0 n1 n2 n3 = rw (n0, n1, n2, n3) refl
