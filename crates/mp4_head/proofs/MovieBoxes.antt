-- The boxes of a `moov`, one after the other.
use Rattle.std.proofs.Common.{◌≡◌, ℕ, ◌+◌, true, false, List, [], ◌∷◌, ◌++◌, map, Option, Some, None, refl, sym, ap, subst, ◌∙◌, arith}
use Rattle.std.specs.Prelude.{codes, bytes_eq, nat_eq}
use Rattle.std.specs.List.{AllByRecursion, AllZip, list_any}
use Rattle.std.specs.BTreeSet.{BTreeSet, IsEmpty}
use Rattle.std.proofs.lemmas.List.{map-append}
use Rattle.mp4_boxes.specs.format.Box.{Box, box_container}
use Rattle.mp4_boxes.specs.format.Children.{Holds, of_kind, is_among, kept_kinds}
use Rattle.mp4_boxes.specs.format.Layout.{mvhd, IsSound}
use Rattle.mp4_boxes.specs.format.Places.{ruled, AreSound}
use Rattle.mp4_boxes.specs.words.View.{box_seen}
use Rattle.mp4_boxes.specs.declared.rule.Rule.TheVariants as kinds
use Rattle.mp4_boxes.proofs.Refusing.{holds_only, holds_few}
use Rattle.mp4_boxes.proofs.Sound.{same_kind}
use Rattle.mp4_frag.specs.declared.trex.Trex.{Trex}
use Rattle.mp4_frag.specs.format.Fragments.{trex_of}
use Rattle.mp4_head.specs.format.Head as heads
use Rattle.mp4_head.specs.format.Head.{names_item_location}
use Rattle.mp4_head.specs.format.Tree.{TrackTree, IsTrackTree, IsSoundTrack, HoldsIfThere, are_distinct, track_head_of, movie_head_of, stbl_of}
use Rattle.mp4_head.specs.words.Seen.{track_seen, movie_seen}
use Rattle.mp4_head.specs.declared.movie_header.MovieHeader.{MovieHeader}
use Rattle.mp4_head.specs.declared.heads.TrackHead.{TrackHead}
use Rattle.mp4_head.specs.declared.heads.MovieHead.{MovieHead}
use Rattle.mp4_head.specs.words.Containers.{SaysExtends, kept_of}
use Rattle.mp4_head.specs.words.Found.{LiesIn, HasTrackHead, IsFoundIn, SaysHead, movie_joined}
use Rattle.mp4_head.specs.words.Ids.{HasIds, AddsId}
use Rattle.mp4_head.specs.words.Leaves.{SaysMovie}
use Rattle.mp4_head.proofs.Distinct.{payload_first, map_twice}
use Rattle.mp4_head.proofs.Inside.{stbls_lie}
use Rattle.mp4_head.proofs.KeptWalks.{KeptPassed, keeps_none, keeps_this, keeps_other, keeps_all, another, ReadIf, not_there, was_there, if_other, if_this, holds_there, holds_none}
use Rattle.mp4_head.proofs.Taken.{no_ids, more_ids, distinct_more}
use Rattle.mp4_head.proofs.Walks.{Walk, walk_none, walk_more, walk_here, walk_all, none_before, sound_more, FirstRead, not_yet, was_read, first_other, first_this, first_read, first_missing}
use Rattle.mp4_tables.proofs.GroupWalks.{kind_snoc, kind_snoc_other}

-- what is said of an `mvhd` and of a `trak`
abbrev pub IsMovieHeader : Box → MovieHeader → Type 0
IsMovieHeader b x = SaysMovie b.payload x

pub record IsTrack (b : Box) (t : TrackHead) : Type 0 where
  pub says : HasTrackHead b (track_seen t) (box_seen t.stbl) t.offset

-- the IDs of tracks
abbrev pub ids_of : List TrackHead → List ℕ
ids_of tracks = map (λ (t : TrackHead). t.id) tracks

-- what was read of the boxes that were passed
pub record MoviePassed (all left : List Box) (header : Option MovieHeader) (kept : List heads.Kept) (tracks : List TrackHead) (ids : BTreeSet ℕ) (trexes : List Trex) : Type 0 where
  pub walk : Walk all left
  pub sound : AreSound (ruled kinds.Movie) walk.passed
  pub header_says : FirstRead IsMovieHeader (codes "mvhd") walk.passed header
  pub kept_are : KeptPassed (kept_kinds kinds.Movie) walk.passed kept
  pub tracks_are : AllZip IsTrack (of_kind (codes "trak") walk.passed) tracks
  pub distinct : are_distinct (ids_of tracks) ≡ true
  pub met : HasIds ids (ids_of tracks)
  pub extends_are : ReadIf SaysExtends (codes "mvex") [] walk.passed trexes

pub movie_none : (all : List Box) (ids : BTreeSet ℕ) → IsEmpty ids → MoviePassed all all None [] [] ids []
movie_none all ids e = record { walk = walk_none all; sound = tt; header_says = not_yet refl; kept_are = keeps_none (kept_kinds kinds.Movie); tracks_are = tt; distinct = refl; met = no_ids ids e; extends_are = not_there refl refl }

-- lists that go together, with one more in each
pub zip_more : {A B : Type 0} (R : A → B → Type 0) (xs : List A) (ys : List B) (x : A) (y : B) → AllZip R xs ys → R x y → AllZip R (xs ++ x ∷ []) (ys ++ y ∷ [])
zip_more R [] [] x y z r = (r, tt)
zip_more R [] (w ∷ ys) x y z r = absurd z
zip_more R (v ∷ xs) [] x y z r = absurd z
zip_more R (v ∷ xs) (w ∷ ys) x y z r = (z.0, zip_more R xs ys x y z.1 r)

module _ (b : Box) (all left later : List Box) (child : Box) (header : Option MovieHeader) (kept : List heads.Kept) (tracks : List TrackHead) (ids : BTreeSet ℕ) (trexes : List Trex)
    (h : Holds kinds.Movie (box_container b) all) (p : MoviePassed all left header kept tracks ids trexes) (e : left ≡ child ∷ later) where
  split : all ≡ p.walk.passed ++ child ∷ later
  split = walk_here all left later child p.walk e

  no_track : bytes_eq (codes "trak") child.kind ≡ false → AllZip IsTrack (of_kind (codes "trak") (p.walk.passed ++ child ∷ [])) tracks
  no_track n = subst (λ (bs : List Box). AllZip IsTrack bs tracks) (sym (kind_snoc_other (codes "trak") p.walk.passed child n)) p.tracks_are

  -- the `mvhd` was read
  pub movie_header : (x : MovieHeader) → bytes_eq (codes "mvhd") child.kind ≡ true → IsSound mvhd child.payload → IsMovieHeader child x → MoviePassed all later (Some x) kept tracks ids trexes
  movie_header x k s r =
      let is = same_kind (codes "mvhd") child.kind k in
      let one = holds_only h (codes "mvhd") refl in
      let none = none_before (codes "mvhd") all p.walk.passed later child split (omega (arith, one)) k in
      record {
        walk = walk_more all left later child p.walk e;
        sound = sound_more (ruled kinds.Movie) p.walk.passed child p.sound (rw k s);
        header_says = first_this IsMovieHeader (codes "mvhd") p.walk.passed child x k none r;
        kept_are = keeps_other (kept_kinds kinds.Movie) p.walk.passed child kept p.kept_are (rw is refl);
        tracks_are = no_track (rw is refl);
        distinct = p.distinct;
        met = p.met;
        extends_are = if_other SaysExtends (codes "mvex") [] p.walk.passed child trexes (rw is refl) p.extends_are;
      }

  -- a box was kept
  pub movie_kept : (more : List heads.Kept) → bytes_eq (codes "mvhd") child.kind ≡ false → is_among (kept_kinds kinds.Movie) child.kind ≡ true
      → names_item_location child.payload ≡ false → more ≡ kept ++ kept_of child ∷ [] → MoviePassed all later header more tracks ids trexes
  movie_kept more n0 k unplaced added = record {
    walk = walk_more all left later child p.walk e;
    sound = sound_more (ruled kinds.Movie) p.walk.passed child p.sound (rw n0 tt);
    header_says = first_other IsMovieHeader (codes "mvhd") p.walk.passed child header n0 p.header_says;
    kept_are = keeps_this (kept_kinds kinds.Movie) p.walk.passed child kept more p.kept_are k unplaced added;
    tracks_are = no_track (another (kept_kinds kinds.Movie) child.kind (codes "trak") (bytes_eq (codes "trak") child.kind) refl k refl);
    distinct = p.distinct;
    met = p.met;
    extends_are = if_other SaysExtends (codes "mvex") [] p.walk.passed child trexes (another (kept_kinds kinds.Movie) child.kind (codes "mvex") (bytes_eq (codes "mvex") child.kind) refl k refl) p.extends_are;
  }

  -- a `trak` was read
  pub movie_track : (new : BTreeSet ℕ) (t : TrackHead) (more : List TrackHead) → bytes_eq (codes "mvhd") child.kind ≡ false → is_among (kept_kinds kinds.Movie) child.kind ≡ false → bytes_eq (codes "trak") child.kind ≡ true
      → IsTrack child t → AddsId ids new t.id → more ≡ tracks ++ t ∷ [] → MoviePassed all later header kept more new trexes
  movie_track new t more n0 n1 k r a added =
      let is = same_kind (codes "trak") child.kind k in
      let numbers : ids_of more ≡ ids_of tracks ++ t.id ∷ [] = ap ids_of added ∙ map-append (λ (x : TrackHead). x.id) tracks (t ∷ []) in
      let none : list_any (nat_eq t.id) (ids_of tracks) ≡ false = sym (p.met t.id) ∙ a.new_there in
      let zip = zip_more IsTrack (of_kind (codes "trak") p.walk.passed) tracks child t p.tracks_are r in
      let there = subst (λ (bs : List Box). AllZip IsTrack bs (tracks ++ t ∷ [])) (sym (kind_snoc (codes "trak") p.walk.passed child k)) zip in
      record {
        walk = walk_more all left later child p.walk e;
        sound = sound_more (ruled kinds.Movie) p.walk.passed child p.sound (rw n0 tt);
        header_says = first_other IsMovieHeader (codes "mvhd") p.walk.passed child header n0 p.header_says;
        kept_are = keeps_other (kept_kinds kinds.Movie) p.walk.passed child kept p.kept_are n1;
        tracks_are = subst (λ (ts : List TrackHead). AllZip IsTrack (of_kind (codes "trak") (p.walk.passed ++ child ∷ [])) ts) (sym added) there;
        distinct = ap are_distinct numbers ∙ distinct_more (ids_of tracks) t.id p.distinct none;
        met = subst (λ (ns : List ℕ). HasIds new ns) (sym numbers) (more_ids ids new (ids_of tracks) t.id p.met a);
        extends_are = if_other SaysExtends (codes "mvex") [] p.walk.passed child trexes (rw is refl) p.extends_are;
      }

  -- the `mvex` was read
  pub movie_extends : (more : List Trex) → bytes_eq (codes "mvhd") child.kind ≡ false → is_among (kept_kinds kinds.Movie) child.kind ≡ false → bytes_eq (codes "trak") child.kind ≡ false → bytes_eq (codes "mvex") child.kind ≡ true
      → SaysExtends child more → MoviePassed all later header kept tracks ids more
  movie_extends more n0 n1 n2 k r =
      let none = none_before (codes "mvex") all p.walk.passed later child split (holds_few h (codes "mvex") refl) k in
      record {
        walk = walk_more all left later child p.walk e;
        sound = sound_more (ruled kinds.Movie) p.walk.passed child p.sound (rw n0 tt);
        header_says = first_other IsMovieHeader (codes "mvhd") p.walk.passed child header n0 p.header_says;
        kept_are = keeps_other (kept_kinds kinds.Movie) p.walk.passed child kept p.kept_are n1;
        tracks_are = no_track n2;
        distinct = p.distinct;
        met = p.met;
        extends_are = if_this SaysExtends (codes "mvex") [] p.walk.passed child more k none r;
      }

  -- another box was passed
  pub movie_other : bytes_eq (codes "mvhd") child.kind ≡ false → is_among (kept_kinds kinds.Movie) child.kind ≡ false → bytes_eq (codes "trak") child.kind ≡ false → bytes_eq (codes "mvex") child.kind ≡ false
      → MoviePassed all later header kept tracks ids trexes
  movie_other n0 n1 n2 n3 = record {
    walk = walk_more all left later child p.walk e;
    sound = sound_more (ruled kinds.Movie) p.walk.passed child p.sound (rw n0 tt);
    header_says = first_other IsMovieHeader (codes "mvhd") p.walk.passed child header n0 p.header_says;
    kept_are = keeps_other (kept_kinds kinds.Movie) p.walk.passed child kept p.kept_are n1;
    tracks_are = no_track n2;
    distinct = p.distinct;
    met = p.met;
    extends_are = if_other SaysExtends (codes "mvex") [] p.walk.passed child trexes n3 p.extends_are;
  }

-- ---- the whole `moov`

-- the boxes of an `mvex`, if one stands there, and what its `trex`s say
record ExtendsFound (movie : List Box) (trexes : List Trex) : Type 0 where
  boxes : List Box
  holds : HoldsIfThere kinds.MovieExtends (of_kind (codes "mvex") movie) boxes
  sound : AreSound (ruled kinds.MovieExtends) boxes
  says : trexes ≡ map (λ (b : Box). trex_of b.payload) (of_kind (codes "trex") boxes)
  distinct : are_distinct (map (λ (x : Trex). x.id) trexes) ≡ true

extends_found : (passed : List Box) (trexes : List Trex) → ReadIf SaysExtends (codes "mvex") [] passed trexes → ExtendsFound passed trexes
extends_found passed trexes (not_there n e) = record { boxes = []; holds = holds_none kinds.MovieExtends (codes "mvex") passed n; sound = tt; says = e; distinct = ap (λ (ts : List Trex). are_distinct (map (λ (x : Trex). x.id) ts)) e }
extends_found passed trexes (was_there (was_read s r)) = record { boxes = r.boxes; holds = holds_there kinds.MovieExtends (codes "mvex") passed r.boxes s r.holds; sound = r.sound; says = r.says; distinct = r.distinct }

-- the trees of the `trak`s, and what they say
record TracksFound (traks : List Box) (tracks : List TrackHead) : Type 0 where
  trees : List TrackTree
  traks_are : map (λ (t : TrackTree). t.trak) trees ≡ traks
  are_trees : AllByRecursion IsTrackTree trees
  are_sound : AllByRecursion IsSoundTrack trees
  says : map track_seen tracks ≡ map track_head_of trees
  found : AllZip IsFoundIn trees tracks

tracks_found : (traks : List Box) (tracks : List TrackHead) → AllZip IsTrack traks tracks → TracksFound traks tracks
tracks_found [] [] z = record { trees = []; traks_are = refl; are_trees = tt; are_sound = tt; says = refl; found = tt }
tracks_found [] (t ∷ tracks) z = absurd z
tracks_found (b ∷ traks) [] z = absurd z
tracks_found (b ∷ traks) (t ∷ tracks) z =
    let more = tracks_found traks tracks z.1 in
    let s = z.0.says in
    let head = s.says in
    let trak = s.is_trak in
    let heads_are = more.says in
    let traks_are = more.traks_are in
    record {
      trees = s.tree ∷ more.trees;
      traks_are = λ i. trak i ∷ traks_are i;
      are_trees = (s.is_tree, more.are_trees);
      are_sound = (s.is_sound, more.are_sound);
      says = λ i. head i ∷ heads_are i;
      found = (record { stbl = s.stbl_is; offset = s.offset_is }, more.found);
    }

-- all boxes were passed
pub movie_all : (b : Box) (all left : List Box) (x : MovieHeader) (kept : List heads.Kept) (ids : BTreeSet ℕ) (trexes : List Trex) (tracks : List TrackHead) (head : MovieHead) → Holds kinds.Movie (box_container b) all → MoviePassed all left (Some x) kept tracks ids trexes → left ≡ []
    → movie_seen head ≡ movie_joined x kept → head.tracks.items ≡ tracks → head.trexes.items ≡ trexes → SaysHead b head
movie_all b all left x kept ids trexes tracks head h p e m t r =
    let same = walk_all all left p.walk e in
    let says = subst (λ (payload : List ℕ). SaysMovie payload x) (sym (payload_first (codes "mvhd") all)) (first_read IsMovieHeader (codes "mvhd") all p.walk.passed x same p.header_says) in
    let keeps = keeps_all (kept_kinds kinds.Movie) all p.walk.passed kept same p.kept_are in
    let traks = subst (λ (bs : List Box). TracksFound (of_kind (codes "trak") bs) tracks) (sym same) (tracks_found (of_kind (codes "trak") p.walk.passed) tracks p.tracks_are) in
    let more = subst (λ (bs : List Box). ExtendsFound bs trexes) (sym same) (extends_found p.walk.passed trexes p.extends_are) in
    let movie : movie_joined x kept ≡ movie_head_of (record { moov = b; movie = all; extends = more.boxes; tracks = traks.trees }) =
    λ i. record { creation = says.creation i; modification = says.modification i; timescale = says.timescale i; rate = says.rate i; volume = says.volume i; matrix = says.matrix i; kept = keeps.0 i } in
    let movie_is = m ∙ movie in
    let tracks_are = ap (map track_seen) t ∙ traks.says in
    let trexes_are = r ∙ more.says in
    record {
      has = record {
        tree = record { moov = b; movie = all; extends = more.boxes; tracks = traks.trees };
        is_moov = refl;
        is_tree = record { movie = h; extends = more.holds; traks = traks.traks_are; tracks = traks.are_trees };
        is_sound = record {
          movie = subst (λ (bs : List Box). AreSound (ruled kinds.Movie) bs) (sym same) p.sound;
          kept = keeps.1;
          tracks = traks.are_sound;
          track_ids = ap (λ (ts : List heads.TrackHead). are_distinct (map (λ (u : heads.TrackHead). u.id) ts)) (sym traks.says) ∙ ap are_distinct (map_twice track_seen (λ (u : heads.TrackHead). u.id) tracks) ∙ p.distinct;
          extends = more.sound;
          trex_ids = ap (λ (ts : List Trex). are_distinct (map (λ (u : Trex). u.id) ts)) (sym more.says) ∙ more.distinct;
        };
        says = λ i. record { movie = movie_is i; tracks = tracks_are i; trexes = trexes_are i };
      };
      tracks = subst (λ (ts : List TrackHead). AllZip IsFoundIn traks.trees ts) (sym t) traks.found;
    }

-- the same by what a walk holds at its end
pub movie_said : (b : Box) (all left : List Box) (header : Option MovieHeader) (x : MovieHeader) (kept : List heads.Kept) (ids : BTreeSet ℕ) (trexes : List Trex) (tracks : List TrackHead) (head : MovieHead) → Holds kinds.Movie (box_container b) all
    → MoviePassed all left header kept tracks ids trexes → left ≡ []
    → header ≡ Some x → movie_seen head ≡ movie_joined x kept → head.tracks.items ≡ tracks → head.trexes.items ≡ trexes → SaysHead b head
movie_said b all left header x kept ids trexes tracks head h p e a m t r = movie_all b all left x kept ids trexes tracks head h (subst (λ (o : Option MovieHeader). MoviePassed all left o kept tracks ids trexes) a p) e m t r

-- an `mvhd` was read
pub movie_no_header : (b : Box) (all left : List Box) (header : Option MovieHeader) (kept : List heads.Kept) (ids : BTreeSet ℕ) (trexes : List Trex) (tracks : List TrackHead) → Holds kinds.Movie (box_container b) all → MoviePassed all left header kept tracks ids trexes → left ≡ [] → header ≡ None
    → ⊥
movie_no_header b all left header kept ids trexes tracks h p e a =
    let q = subst (λ (o : Option MovieHeader). MoviePassed all left o kept tracks ids trexes) a p in
    first_missing IsMovieHeader (codes "mvhd") all q.walk.passed (walk_all all left q.walk e) (holds_only h (codes "mvhd") refl) q.header_says

found_inside : (moov : Box) (trees : List TrackTree) (tracks : List TrackHead) → AllByRecursion (λ (t : TrackTree). LiesIn moov (stbl_of t)) trees → AllZip IsFoundIn trees tracks → AllByRecursion (λ (t : TrackHead). LiesIn moov (box_seen t.stbl)) tracks
found_inside moov [] [] l z = tt
found_inside moov [] (t ∷ tracks) l z = absurd z
found_inside moov (u ∷ trees) [] l z = absurd z
found_inside moov (u ∷ trees) (t ∷ tracks) l z = (subst (LiesIn moov) (sym z.0.stbl) l.0, found_inside moov trees tracks l.1 z.1)

-- the `stbl` of each track that was found lies in the `moov`
pub said_inside : (b : Box) (head : MovieHead) → SaysHead b head → AllByRecursion (λ (t : TrackHead). LiesIn b (box_seen t.stbl)) head.tracks.items
said_inside b head s = subst (λ (m : Box). AllByRecursion (λ (t : TrackHead). LiesIn m (box_seen t.stbl)) head.tracks.items) s.has.is_moov (found_inside s.has.tree.moov s.has.tree.tracks head.tracks.items (stbls_lie s.has.tree s.has.is_tree) s.tracks)
