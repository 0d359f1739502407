-- Where boxes lie in the containers that hold them.
use Rattle.std.proofs.Common.{◌≡◌, ℕ, ◌+◌, ◌-◌, ◌≤◌, Bool, true, false, List, [], ◌∷◌, ◌++◌, length, take, drop, refl, sym, ap, subst, ◌∙◌, append_assoc, arith}
use Rattle.std.specs.Prelude.{bytes_eq, codes, map}
use Rattle.std.specs.List.{AllByRecursion}
use Rattle.std.proofs.lemmas.List.{drop-drop, drop-take, take-take, length-drop}
use Rattle.mp4_boxes.specs.format.Box.{Box, size, LieEndToEnd, StandsAfter, Tiles, box_container}
use Rattle.mp4_boxes.specs.format.Children.{count_among, of_kind}
use Rattle.mp4_boxes.proofs.Among.{IsIn, all_at, all_in}
use Rattle.mp4_boxes.proofs.Each.{each_from, each_weaker, each_of_kind, each_member}
use Rattle.mp4_boxes.proofs.Refusing.{holds_only}
use Rattle.mp4_boxes.proofs.Tiling.{header_is, box_size}
use Rattle.mp4_head.specs.words.Found.{LiesIn}
use Rattle.mp4_head.proofs.Above.{stands_of}
use Rattle.mp4_head.specs.format.Tree.{first_of, TrackTree, MovieTree, stbl_of, IsTrackTree, IsMovieTree}

-- the box lies in these bytes, which begin at this place
pub record LiesAt (at : ℕ) (bytes : List ℕ) (b : Box) : Type 0 where
  pub begins : at ≤ b.offset
  pub header : 8 ≤ b.header
  pub ends : b.offset + size b ≤ at + length bytes
  pub payload : b.payload ≡ take (length b.payload) (drop ((b.offset + b.header) - at) bytes)

-- the first box lies there
lies_first : (at : ℕ) (bytes : List ℕ) (b : Box) (bs : List Box) → LieEndToEnd false at bytes (b ∷ bs) → LiesAt at bytes b
lies_first at bytes b bs l =
    let h = l.0.0 in
    let r = header_is false bytes h l.0.1 in
    let same : size b ≡ h.size = ap size l.0.2 ∙ box_size at bytes h r in
    let offset : b.offset ≡ at = ap (λ (x : Box). x.offset) l.0.2 in
    let header : b.header ≡ h.length = ap (λ (x : Box). x.header) l.0.2 in
    let count : h.size - h.length ≡ length b.payload = omega (arith, same, header, r.inside) in
    let place : h.length ≡ (b.offset + b.header) - at = omega (arith, offset, header) in
    record {
      begins = omega (arith, offset);
      header = omega (arith, header, r.length);
      ends = omega (arith, offset, same, r.fits);
      payload = ap (λ (x : Box). x.payload) l.0.2 ∙ ap (λ (n : ℕ). take n (drop h.length bytes)) count ∙ ap (λ (n : ℕ). take (length b.payload) (drop n bytes)) place;
    }

-- a box that lies behind some bytes lies there
lies_further : (at n : ℕ) (bytes : List ℕ) (b : Box) → n ≤ length bytes → LiesAt (at + n) (drop n bytes) b → LiesAt at bytes b
lies_further at n bytes b fits l =
    let long = length-drop n bytes in
    let place : n + ((b.offset + b.header) - (at + n)) ≡ (b.offset + b.header) - at = omega (arith, l.begins) in
    record {
      begins = omega (arith, l.begins);
      header = l.header;
      ends = omega (arith, l.ends, long, fits);
      payload = l.payload ∙ ap (take (length b.payload)) (drop-drop ((b.offset + b.header) - (at + n)) n bytes) ∙ ap (λ (k : ℕ). take (length b.payload) (drop k bytes)) place;
    }

-- each of the boxes that lie end to end in some bytes lies there
pub all_lie : (at : ℕ) (bytes : List ℕ) (bs : List Box) → LieEndToEnd false at bytes bs → AllByRecursion (LiesAt at bytes) bs
all_lie at bytes [] l = tt
all_lie at bytes (b ∷ bs) l =
    let r = header_is false bytes l.0.0 l.0.1 in
    let same : size b ≡ l.0.0.size = ap size l.0.2 ∙ box_size at bytes l.0.0 r in
    let fits : size b ≤ length bytes = omega (arith, same, r.fits) in
    (lies_first at bytes b bs l, each_weaker (LiesAt (at + size b) (drop (size b) bytes)) (LiesAt at bytes) (λ c h. lies_further at (size b) bytes c fits h) bs (all_lie (at + size b) (drop (size b) bytes) bs l.1))

-- those in front of one end before it
pub all_end : (at : ℕ) (bytes : List ℕ) (passed later : List Box) (child : Box) → LieEndToEnd false at bytes (passed ++ child ∷ later) → AllByRecursion (λ (b : Box). b.offset + size b ≤ child.offset) passed
all_end at bytes [] later child l = tt
all_end at bytes (b ∷ passed) later child l =
    let behind = all_at (LiesAt (at + size b) (drop (size b) bytes)) passed later child (all_lie (at + size b) (drop (size b) bytes) (passed ++ child ∷ later) l.1) in
    let offset : b.offset ≡ at = ap (λ (x : Box). x.offset) l.0.2 in
    (omega (arith, offset, behind.begins), all_end (at + size b) (drop (size b) bytes) passed later child l.1)

-- a box in the payload of another lies in it
pub lies_in : (outer b : Box) → LiesAt (outer.offset + outer.header) outer.payload b → LiesIn outer b
lies_in outer b l = record { begins = l.begins; ends = omega (arith, l.ends); payload = l.payload }

-- what tiles a box lies in it
pub tiles_lie : (outer : Box) (bs : List Box) → Tiles (box_container outer) bs → AllByRecursion (LiesAt (outer.offset + outer.header) outer.payload) bs
tiles_lie outer bs t = all_lie (outer.offset + outer.header) outer.payload bs t.front.0

-- a box in a box of a third lies in the third
pub lies_deeper : (a b c : Box) → LiesIn a b → LiesIn b c → LiesIn a c
lies_deeper a b c l m =
    let n = length c.payload in
    let k = (b.offset + b.header) - (a.offset + a.header) in
    let j = (c.offset + c.header) - (b.offset + b.header) in
    let place : k + j ≡ (c.offset + c.header) - (a.offset + a.header) = omega (arith, l.begins, m.begins) in
    let whole : j + (length b.payload - j) ≡ length b.payload = omega (arith, m.begins, m.ends) in
    let few : n ≤ length b.payload - j = omega (arith, m.begins, m.ends) in
    record {
      begins = omega (arith, l.begins, m.begins);
      ends = omega (arith, l.ends, m.ends);
      payload =
          m.payload
          ∙ ap (λ (bytes : List ℕ). take n (drop j bytes)) l.payload
          ∙ ap (λ (i : ℕ). take n (drop j (take i (drop k a.payload)))) (sym whole)
          ∙ ap (take n) (drop-take j (length b.payload - j) (drop k a.payload))
          ∙ take-take n (length b.payload - j) (drop j (drop k a.payload)) few
          ∙ ap (take n) (drop-drop j k a.payload)
          ∙ ap (λ (i : ℕ). take n (drop i a.payload)) place;
    }

-- the step of `all_first`, by the type of the first
first_step : (P : Box → Type 0) (kind : List ℕ) (b : Box) (bs : List Box) (v : Bool) → bytes_eq kind b.kind ≡ v → count_among (kind ∷ []) (b ∷ bs) ≡ 1 → P b
    → (count_among (kind ∷ []) bs ≡ 1 → P (first_of kind bs)) → P (first_of kind (b ∷ bs))
first_step P kind b bs true e n p more = rw e p
first_step P kind b bs false e n p more =
    let fewer : 0 + count_among (kind ∷ []) bs ≡ 1 = rw e at n in
    rw e (more (omega (arith, fewer)))

-- what holds of each box holds of the one of a type
pub first_has : (P : Box → Type 0) (kind : List ℕ) (bs : List Box) → count_among (kind ∷ []) bs ≡ 1 → AllByRecursion P bs → P (first_of kind bs)
first_has P kind [] n h = absurd (omega (arith, n))
first_has P kind (b ∷ bs) n h = first_step P kind b bs (bytes_eq kind b.kind) refl n h.0 (λ m. first_has P kind bs m h.1)

-- the step of `first_is`, by the type of the first
found_step : (kind : List ℕ) (b : Box) (bs : List Box) (v : Bool) → bytes_eq kind b.kind ≡ v → count_among (kind ∷ []) (b ∷ bs) ≡ 1
    → (count_among (kind ∷ []) bs ≡ 1 → bytes_eq kind (first_of kind bs).kind ≡ true) → bytes_eq kind (first_of kind (b ∷ bs)).kind ≡ true
found_step kind b bs true e n more = rw e e
found_step kind b bs false e n more =
    let fewer : 0 + count_among (kind ∷ []) bs ≡ 1 = rw e at n in
    rw e (more (omega (arith, fewer)))

found_kind : (kind : List ℕ) (bs : List Box) → count_among (kind ∷ []) bs ≡ 1 → bytes_eq kind (first_of kind bs).kind ≡ true
found_kind kind [] n = absurd (omega (arith, n))
found_kind kind (b ∷ bs) n = found_step kind b bs (bytes_eq kind b.kind) refl n (λ m. found_kind kind bs m)

-- the one box of a type is one of the boxes, and of the type
pub first_is : (kind : List ℕ) (bs : List Box) → count_among (kind ∷ []) bs ≡ 1 → IsIn bs (first_of kind bs) × (bytes_eq kind (first_of kind bs).kind ≡ true)
first_is kind bs n = (first_has (IsIn bs) kind bs n (each_member (IsIn bs) bs (λ b i. i)), found_kind kind bs n)

-- the one box of a type in a box lies in it
pub first_lies : (kind : List ℕ) (outer : Box) (bs : List Box) → Tiles (box_container outer) bs → count_among (kind ∷ []) bs ≡ 1 → LiesIn outer (first_of kind bs)
first_lies kind outer bs t n = lies_in outer (first_of kind bs) (first_has (LiesAt (outer.offset + outer.header) outer.payload) kind bs n (tiles_lie outer bs t))

-- A box that was passed before the one in hand stands before it.
pub record StandsBefore (outer c child : Box) : Type 0 where
  pub before : List Box
  pub stands : StandsAfter (box_container outer) before c
  pub order : c.offset + size c ≤ child.offset
  pub header : 8 ≤ c.header

pub stands_before : (outer : Box) (all passed later : List Box) (child c : Box) → Tiles (box_container outer) all → all ≡ passed ++ child ∷ later → IsIn passed c → StandsBefore outer c child
stands_before outer all passed later child c t split i =
    let there : all ≡ i.before ++ c ∷ (i.after ++ child ∷ later) = split ∙ ap (λ (bs : List Box). bs ++ child ∷ later) i.is ∙ append_assoc i.before (c ∷ i.after) (child ∷ later) in
    let lie = subst (λ (bs : List Box). LieEndToEnd false (outer.offset + outer.header) outer.payload bs) split t.front.0 in
    let lies = all_in (LiesAt (outer.offset + outer.header) outer.payload) all c (record { before = i.before; after = i.after ++ child ∷ later; is = there }) (tiles_lie outer all t) in
    record {
      before = i.before;
      stands = stands_of outer all i.before (i.after ++ child ∷ later) c t there;
      order = all_in (λ (b : Box). b.offset + size b ≤ child.offset) passed c i (all_end (outer.offset + outer.header) outer.payload passed later child lie);
      header = lies.header;
    }

-- the `stbl` of a track lies in its `trak`
pub stbl_lies : (t : TrackTree) → IsTrackTree t → LiesIn t.trak (stbl_of t)
stbl_lies t h =
    let mdia = first_of (codes "mdia") t.track in
    let minf = first_of (codes "minf") t.media in
    let a = first_lies (codes "mdia") t.trak t.track h.track.tiles (holds_only h.track (codes "mdia") refl) in
    let b = first_lies (codes "minf") mdia t.media h.media.tiles (holds_only h.media (codes "minf") refl) in
    let c = first_lies (codes "stbl") minf t.information h.information.tiles (holds_only h.information (codes "stbl") refl) in
    lies_deeper t.trak mdia (stbl_of t) a (lies_deeper mdia minf (stbl_of t) b c)

-- what holds of the values of all holds of the value of each
all_unmapped : {A B : Type 0} (f : A → B) (P : B → Type 0) (xs : List A) → AllByRecursion P (map f xs) → AllByRecursion (λ x. P (f x)) xs
all_unmapped f P [] h = tt
all_unmapped f P (x ∷ xs) h = (h.0, all_unmapped f P xs h.1)

-- the `stbl` of each track lies in the `moov`
pub stbls_lie : (m : MovieTree) → IsMovieTree m → AllByRecursion (λ (t : TrackTree). LiesIn m.moov (stbl_of t)) m.tracks
stbls_lie m h =
    let traks = each_of_kind (LiesAt (m.moov.offset + m.moov.header) m.moov.payload) (codes "trak") m.movie (tiles_lie m.moov m.movie h.movie.tiles) in
    let there = each_weaker (λ (b : Box). LiesAt (m.moov.offset + m.moov.header) m.moov.payload b × (bytes_eq (codes "trak") b.kind ≡ true)) (LiesIn m.moov) (λ b x. lies_in m.moov b x.0) (of_kind (codes "trak") m.movie) traks in
    let each = all_unmapped (λ (t : TrackTree). t.trak) (LiesIn m.moov) m.tracks (subst (λ (bs : List Box). AllByRecursion (LiesIn m.moov) bs) (sym h.traks) there) in
    each_from (λ (t : TrackTree). LiesIn m.moov t.trak) IsTrackTree (λ (t : TrackTree). LiesIn m.moov (stbl_of t)) (λ t l k. lies_deeper m.moov t.trak (stbl_of t) l (stbl_lies t k)) m.tracks each h.tracks
