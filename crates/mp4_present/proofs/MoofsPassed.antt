-- The `moof`s of a file, passed one after the other behind its `moov`.
use Rattle.std.proofs.Common.{◌≡◌, ℕ, ◌+◌, ◌≤◌, true, false, List, [], ◌∷◌, ◌++◌, Some, None, length, take, map, pos, refl, sym, ap, subst, ◌∙◌, arith, append_assoc, length-take}
use Rattle.std.specs.Prelude.{codes, bytes_eq}
use Rattle.std.specs.List.{AllByRecursion}
use Rattle.std.proofs.lemmas.List.{append-nil, map-append}
use Rattle.mp4_store.specs.words.Device.{range}
use Rattle.mp4_boxes.specs.format.Bytes.{AreBytes}
use Rattle.mp4_boxes.specs.format.Box.{Box, LieEndToEnd, file_container}
use Rattle.mp4_boxes.specs.format.Children.{Holds, of_kind}
use Rattle.mp4_boxes.specs.declared.rule.Rule.TheVariants.{File}
use Rattle.mp4_boxes.proofs.Among.{of_kind-append, all_append}
use Rattle.mp4_boxes.proofs.OfBytes.{bytes_taken}
use Rattle.mp4_boxes.proofs.Tiling.{tiles_one}
use Rattle.mp4_boxes.proofs.Plain.{head_is, tail_is}
use Rattle.mp4_frag.specs.format.Fragments.{FragmentTree}
use Rattle.mp4_frag.specs.words.Judged.{AreTrexesOf, IsSoundMoof, AreMovedOn, tree_of}
use Rattle.mp4_frag.specs.words.RunsJudged.{children_of}
use Rattle.mp4_frag.specs.declared.state.TrackState.{TrackState}
use Rattle.mp4_frag.specs.declared.trex.Trex.{Trex}
use Rattle.mp4_head.specs.format.Tree.{MovieTree, trexes_of}
use Rattle.mp4_head.proofs.Above.{lies_front}
use Rattle.mp4_present.specs.format.Denotes.{begins_with_movie}
use Rattle.mp4_present.specs.words.Movies.{IsWhole}
use Rattle.mp4_present.specs.words.Outline.{IsNextFragment, IsOutline, box_at}
use Rattle.mp4_present.specs.words.PassedMoofs.{IsBegun, IsPassed}
use Rattle.mp4_present.specs.words.Passing.{AreBehind, IsNextMoof}
use Rattle.mp4_present.specs.declared.opening.outline.Outline.{Outline}
use Rattle.mp4_present.specs.declared.reading.TopBox.{TopBox}
use Rattle.mp4_present.proofs.FragmentPass.{Left, left_first, left_next, next_boxes}
use Rattle.mp4_present.proofs.Opened.{moov_is}
use Rattle.mp4_present.specs.words.Movies.{Fills}
use Rattle.mp4_present.proofs.MoofBehind.{passes_moof, trexes_behind}
use Rattle.mp4_present.proofs.Order.{not_first}

-- the boxes of the file up to a place were passed, and the `moof`s among them are as they should be
pub record IsUnderWay (file : List ℕ) (movie : MovieTree) (boxes : List Box) (at most : ℕ) (states : List TrackState) (room : ℕ) : Type 0 where
  pub fragments : List FragmentTree
  pub bytes : AllByRecursion (λ (t : FragmentTree). AreBytes t.moof.payload) fragments
  pub behind : AreBehind file movie fragments states room
  pub passed : List Box
  pub left : Left file at most
  pub are : boxes ≡ passed ++ left.boxes
  pub moofs : map (λ (t : FragmentTree). t.moof) fragments ≡ of_kind (codes "moof") passed

-- ---- before the first `moof`

unfoldable pub under_way_first : (file : List ℕ) (movie : MovieTree) (boxes known : List Box) (o : Outline) (states : List TrackState) (room : ℕ) → Holds File (file_container file) known → IsOutline file known o → IsBegun file movie boxes states room
    → IsUnderWay file movie boxes 0 o.longest states room
unfolding left_first
under_way_first file movie boxes known o states room holds i b = record {
  fragments = [];
  bytes = tt;
  behind = b.behind;
  passed = [];
  left = left_first file known o holds i;
  are = tiles_one (file_container file) boxes known b.holds.tiles holds.tiles;
  moofs = refl;
}

-- ---- behind the last one

unfoldable pub all_passed : (file : List ℕ) (movie : MovieTree) (boxes : List Box) (at most : ℕ) (states : List TrackState) (room : ℕ) → (u : IsUnderWay file movie boxes at most states room) → IsNextFragment file at u.left.boxes None
    → IsPassed file movie boxes states
all_passed file movie boxes at most states room u n = record {
  fragments = u.fragments;
  bytes = u.bytes;
  moofs = u.moofs ∙ sym (append-nil (of_kind (codes "moof") u.passed)) ∙ ap (λ (bs : List Box). of_kind (codes "moof") u.passed ++ bs) (sym n) ∙ sym (of_kind-append (codes "moof") u.passed u.left.boxes) ∙ ap (of_kind (codes "moof")) (sym u.are);
  room = room;
  behind = u.behind;
}

-- ---- one `moof`

-- the `moov` stands before the first `moof`
no_second : (c v : Box) (cs ds : List Box) → c ∷ cs ++ ds ≡ v ∷ [] → c ∷ cs ≡ v ∷ []
no_second c v [] ds e = ap (λ (x : Box). x ∷ []) (head_is c v ds [] e)
no_second c v (d ∷ cs) ds e = let f : d ∷ cs ++ ds ≡ [] = tail_is c v (d ∷ cs ++ ds) [] e in absurd cc

pub moov_before : (before after : List Box) (moof v : Box) → moof.kind ≡ codes "moof" → begins_with_movie (before ++ moof ∷ after) ≡ true → of_kind (codes "moov") (before ++ moof ∷ after) ≡ v ∷ [] → of_kind (codes "moov") before ≡ v ∷ []
moov_before before after moof v kind order one = by (of_kind (codes "moov") before) refl
  where
    by : (found : List Box) → of_kind (codes "moov") before ≡ found → of_kind (codes "moov") before ≡ v ∷ []
    by [] e = absurd (let late : begins_with_movie (before ++ moof ∷ after) ≡ false = not_first before after moof e kind in let both : true ≡ false = sym order ∙ late in cc)
    by (c ∷ cs) e =
        let joined : c ∷ cs ++ of_kind (codes "moov") (moof ∷ after) ≡ v ∷ [] = ap (λ (bs : List Box). bs ++ of_kind (codes "moov") (moof ∷ after)) (sym e) ∙ sym (of_kind-append (codes "moov") before (moof ∷ after)) ∙ one in
        e ∙ no_second c v cs (of_kind (codes "moov") (moof ∷ after)) joined

module _ (file : List ℕ) (movie : MovieTree) (boxes : List Box) (at most : ℕ) (start states : List TrackState) (whole room : ℕ) (b : IsBegun file movie boxes start whole)
    (u : IsUnderWay file movie boxes at most states room) (top : TopBox) (w : IsWhole (length file) top) (n : IsNextFragment file at u.left.boxes (Some top)) where
  abbrev moof : Box
  moof = box_at file top

  -- the boxes of the file round it
  around : boxes ≡ (u.passed ++ n.0) ++ moof ∷ n.1
  around = u.are ∙ ap (λ (bs : List Box). u.passed ++ bs) n.2 ∙ sym (append_assoc u.passed n.0 (moof ∷ n.1))

  split : boxes ≡ ((u.passed ++ n.0) ++ moof ∷ []) ++ n.1
  split = around ∙ sym (append_assoc (u.passed ++ n.0) (moof ∷ []) n.1)

  moofs_before : map (λ (t : FragmentTree). t.moof) u.fragments ≡ of_kind (codes "moof") (u.passed ++ n.0)
  moofs_before = u.moofs ∙ sym (append-nil (of_kind (codes "moof") u.passed)) ∙ ap (λ (bs : List Box). of_kind (codes "moof") u.passed ++ bs) (sym n.3) ∙ sym (of_kind-append (codes "moof") u.passed n.0)

  pub stands_next : IsNextMoof file movie u.fragments (u.passed ++ n.0) moof
  stands_next = record {
    stands = (lies_front true 0 file ((u.passed ++ n.0) ++ moof ∷ []) n.1 (subst (λ (bs : List Box). LieEndToEnd true 0 file bs) split b.holds.tiles.front.0), tt);
    is_moof = n.5;
    is_moov = moov_before (u.passed ++ n.0) n.1 moof movie.moov n.5 (subst (λ (bs : List Box). begins_with_movie bs ≡ true) around b.order) (subst (λ (bs : List Box). of_kind (codes "moov") bs ≡ movie.moov ∷ []) around b.is_moov);
    earlier_moofs = moofs_before;
  }

  module _ (new : List TrackState) (less : ℕ) (sound : IsSoundMoof (length file) (trexes_of movie) states (tree_of moof))
      (moved : AreMovedOn moof.offset (pos moof.offset) (of_kind (codes "traf") (children_of moof)) states new room less) (bytes : AreBytes moof.payload) where
    behind_it : AreBehind file movie (u.fragments ++ tree_of moof ∷ []) new less
    behind_it = passes_moof file movie u.fragments moof states new room less b.movie_is u.behind sound moved

    -- it was accepted
    pub under_way_more : IsUnderWay file movie boxes top.header.end most new less
    under_way_more =
        let next = left_next file at most top u.left w n in
        record {
          fragments = u.fragments ++ tree_of moof ∷ [];
          bytes = all_append (λ (t : FragmentTree). AreBytes t.moof.payload) u.fragments (tree_of moof ∷ []) u.bytes (bytes, tt);
          behind = behind_it;
          passed = (u.passed ++ n.0) ++ moof ∷ [];
          left = next.left;
          are = split ∙ ap (λ (bs : List Box). ((u.passed ++ n.0) ++ moof ∷ []) ++ bs) (sym (next_boxes file at most top u.left w n));
          moofs = map-append (λ (t : FragmentTree). t.moof) u.fragments (tree_of moof ∷ []) ∙ ap (λ (bs : List Box). bs ++ moof ∷ []) moofs_before ∙ ap (λ (bs : List Box). of_kind (codes "moof") (u.passed ++ n.0) ++ bs) own ∙ sym (of_kind-append (codes "moof") (u.passed ++ n.0) (moof ∷ []));
        }
      where
        own : moof ∷ [] ≡ of_kind (codes "moof") (moof ∷ [])
        own = let hit : bytes_eq (codes "moof") moof.kind ≡ true = rw n.5 refl in rw hit refl

    -- it is one more
    pub more_fragments : under_way_more.fragments ≡ u.fragments ++ tree_of moof ∷ []
    unfolding under_way_more
    more_fragments = refl

    -- those behind it are left
    pub more_left : under_way_more.left.boxes ≡ n.1
    unfolding under_way_more
    more_left = next_boxes file at most top u.left w n

-- a `moof` that was read to the front of a room
pub record IsRead (file : List ℕ) (top : TopBox) (m : Box) (bytes : List ℕ) (len : ℕ) : Type 0 where
  pub is : m ≡ record { kind = top.header.kind.0; offset = top.offset; header = top.header.header; payload = take len bytes }
  pub fills : Fills len top
  pub within : len ≤ length bytes
  pub read : take len bytes ≡ range file (top.offset + top.header.header) len
  pub of_bytes : AreBytes bytes

-- it is the one in the file
pub read_is : (file : List ℕ) (top : TopBox) (m : Box) (bytes : List ℕ) (len : ℕ) → IsRead file top m bytes len → m ≡ box_at file top
read_is file top m bytes len r =
    let within = r.within in
    let n : length (take len bytes) ≡ len = omega (arith, length-take len bytes, within) in
    moov_is file (take len bytes) top m r.is (subst (λ (k : ℕ). Fills k top) (sym n) r.fills) (r.read ∙ ap (range file (top.offset + top.header.header)) (sym n))

module _ (file : List ℕ) (movie : MovieTree) (boxes : List Box) (at most : ℕ) (start states : List TrackState) (whole room : ℕ) (b : IsBegun file movie boxes start whole)
    (u : IsUnderWay file movie boxes at most states room) (top : TopBox) (w : IsWhole (length file) top) (n : IsNextFragment file at u.left.boxes (Some top)) (m : Box) (bytes : List ℕ) (len L : ℕ) (r : IsRead file top m bytes len) (e : L ≡ length file) where
  there : m ≡ box_at file top
  there = read_is file top m bytes len r

  -- one more was passed
  pub next_passed : (new : List TrackState) (less : ℕ) → ((trexes : List Trex) → AreTrexesOf trexes states → IsSoundMoof L trexes states (tree_of m)) → AreMovedOn m.offset (pos m.offset) (of_kind (codes "traf") (children_of m)) states new room less
      → IsUnderWay file movie boxes top.header.end most new less
  next_passed new less sound_by moved =
      let own = sound_by (trexes_of movie) (trexes_behind file movie u.fragments states room u.behind) in
      let sound : IsSoundMoof (length file) (trexes_of movie) states (tree_of (box_at file top)) = subst (λ (k : ℕ). IsSoundMoof k (trexes_of movie) states (tree_of (box_at file top))) e (subst (λ (x : Box). IsSoundMoof L (trexes_of movie) states (tree_of x)) there own) in
      let on = subst (λ (x : Box). AreMovedOn x.offset (pos x.offset) (of_kind (codes "traf") (children_of x)) states new room less) there moved in
      let of_bytes : AreBytes (box_at file top).payload = subst (λ (x : Box). AreBytes x.payload) there (subst (λ (x : Box). AreBytes x.payload) (sym r.is) (bytes_taken len bytes r.of_bytes)) in
      under_way_more file movie boxes at most start states whole room b u top w n new less sound on of_bytes

  -- it is one more
  pub next_fragments : (new : List TrackState) (less : ℕ) (sound_by : (trexes : List Trex) → AreTrexesOf trexes states → IsSoundMoof L trexes states (tree_of m)) (moved : AreMovedOn m.offset (pos m.offset) (of_kind (codes "traf") (children_of m)) states new room less)
      → (next_passed new less sound_by moved).fragments ≡ u.fragments ++ tree_of (box_at file top) ∷ []
  unfolding next_passed
  next_fragments new less sound_by moved =
      let own = sound_by (trexes_of movie) (trexes_behind file movie u.fragments states room u.behind) in
      let sound : IsSoundMoof (length file) (trexes_of movie) states (tree_of (box_at file top)) = subst (λ (k : ℕ). IsSoundMoof k (trexes_of movie) states (tree_of (box_at file top))) e (subst (λ (x : Box). IsSoundMoof L (trexes_of movie) states (tree_of x)) there own) in
      let on = subst (λ (x : Box). AreMovedOn x.offset (pos x.offset) (of_kind (codes "traf") (children_of x)) states new room less) there moved in
      let of_bytes : AreBytes (box_at file top).payload = subst (λ (x : Box). AreBytes x.payload) there (subst (λ (x : Box). AreBytes x.payload) (sym r.is) (bytes_taken len bytes r.of_bytes)) in
      more_fragments file movie boxes at most start states whole room b u top w n new less sound on of_bytes

  -- those behind it are left
  pub next_left : (new : List TrackState) (less : ℕ) (sound_by : (trexes : List Trex) → AreTrexesOf trexes states → IsSoundMoof L trexes states (tree_of m)) (moved : AreMovedOn m.offset (pos m.offset) (of_kind (codes "traf") (children_of m)) states new room less)
      → (next_passed new less sound_by moved).left.boxes ≡ n.1
  unfolding next_passed
  next_left new less sound_by moved =
      let own = sound_by (trexes_of movie) (trexes_behind file movie u.fragments states room u.behind) in
      let sound : IsSoundMoof (length file) (trexes_of movie) states (tree_of (box_at file top)) = subst (λ (k : ℕ). IsSoundMoof k (trexes_of movie) states (tree_of (box_at file top))) e (subst (λ (x : Box). IsSoundMoof L (trexes_of movie) states (tree_of x)) there own) in
      let on = subst (λ (x : Box). AreMovedOn x.offset (pos x.offset) (of_kind (codes "traf") (children_of x)) states new room less) there moved in
      let of_bytes : AreBytes (box_at file top).payload = subst (λ (x : Box). AreBytes x.payload) there (subst (λ (x : Box). AreBytes x.payload) (sym r.is) (bytes_taken len bytes r.of_bytes)) in
      more_left file movie boxes at most start states whole room b u top w n new less sound on of_bytes
