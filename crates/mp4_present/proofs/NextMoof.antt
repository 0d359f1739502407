-- The next `moof` of a file, where it is known at which places its `moof`s begin.
use Rattle.std.proofs.Common.{◌≡◌, ℕ, ◌+◌, ◌-◌, ◌<◌, ◌≤◌, true, List, [], ◌∷◌, ◌++◌, Some, None, length, take, drop, slice_index_or, refl, sym, ap, subst, ◌∙◌, arith, length-drop}
use Rattle.std.specs.Prelude.{codes, bytes_eq}
use Rattle.std.proofs.lemmas.List.{drop-drop, drop-take, drop_all}
use Rattle.std.proofs.lemmas.Slice.Eq.{bytes_eq-Decides}
use Rattle.std.proofs.Math.Seq.{drop-cons}
use Rattle.mp4_store.specs.words.Device.{range}
use Rattle.mp4_boxes.specs.format.Bytes.{AreBytes}
use Rattle.mp4_boxes.specs.format.Box.{Box, Container, Tiles, file_container, size, sizes}
use Rattle.mp4_boxes.specs.format.Children.{of_kind, Holds}
use Rattle.mp4_boxes.specs.declared.rule.Rule.TheVariants.{File}
use Rattle.mp4_boxes.proofs.Among.{of_kind-split}
use Rattle.mp4_boxes.proofs.OfBytes.{bytes_dropped}
use Rattle.mp4_boxes.proofs.Tiling.{box_size, header_is, tiles_one}
use Rattle.mp4_boxes.proofs.Plain.{head_is, suc_is, tail_is}
use Rattle.mp4_present.specs.words.Movies.{HasRoom, IsWhole}
use Rattle.mp4_present.specs.words.Outline.{AreFrom, AreIn, IsNextFragment, box_at, longest, offsets}
use Rattle.mp4_present.specs.words.Reading.{IsTopHeader}
use Rattle.mp4_present.specs.declared.reading.TopBox.{TopBox}
use Rattle.mp4_present.proofs.FragmentPass.{Left, behind, longest_cons, whole_file}
use Rattle.mp4_present.proofs.Fragmented.{front_is}
use Rattle.mp4_present.proofs.JudgedRefused.{behind_kept}
use Rattle.mp4_present.proofs.MoofsPassed.{IsRead}
use Rattle.mp4_present.proofs.Payloads.{Begins}

-- the `moof`s from a place on begin at these places
abbrev pub Come : List ℕ → ℕ → List ℕ → Type 0
Come file at places = (boxes : List Box) → AreFrom file at boxes → places ≡ offsets (of_kind (codes "moof") boxes)

-- ---- the boxes from a place on are one list

abbrev rest_of : List ℕ → ℕ → Container
rest_of file at = record (file_container file) { at = at; bytes = drop at file }

tiles_from : (file : List ℕ) (at : ℕ) (boxes : List Box) → AreFrom file at boxes → Tiles (rest_of file at) boxes
tiles_from file at boxes a = let whole = a.whole in record { front = (a.lie, tt); full = omega (arith, whole, length-drop at file) }

one_from : (file : List ℕ) (at : ℕ) (bs cs : List Box) → AreFrom file at bs → AreFrom file at cs → bs ≡ cs
one_from file at bs cs a b = tiles_one (rest_of file at) bs cs (tiles_from file at bs a) (tiles_from file at cs b)

-- ---- before the first one

pub come_first : (file : List ℕ) (boxes : List Box) (places : List ℕ) → Holds File (file_container file) boxes → places ≡ offsets (of_kind (codes "moof") boxes) → Come file 0 places
come_first file boxes places h e others a = e ∙ ap (λ (bs : List Box). offsets (of_kind (codes "moof") bs)) (one_from file 0 boxes others (whole_file file boxes h) a)

-- ---- the next one, whose header was read

-- these boxes have it, and those behind it have the others
pub record Reached (file : List ℕ) (at : ℕ) (boxes : List Box) (top : TopBox) (rest : List ℕ) : Type 0 where
  pub next : IsNextFragment file at boxes (Some top)
  pub behind : AreFrom file top.header.end next.1
  pub begin : rest ≡ offsets (of_kind (codes "moof") next.1)

-- the first of the places that come, among these boxes
record First (file : List ℕ) (at : ℕ) (boxes : List Box) (place : ℕ) (rest : List ℕ) : Type 0 where
  before : List Box
  b : Box
  after : List Box
  are : boxes ≡ before ++ b ∷ after
  none : of_kind (codes "moof") before ≡ []
  of_it : bytes_eq (codes "moof") b.kind ≡ true
  placed : place ≡ at + sizes before
  stands : AreFrom file place (b ∷ after)
  begin : rest ≡ offsets (of_kind (codes "moof") after)
  all : of_kind (codes "moof") boxes ≡ b ∷ of_kind (codes "moof") after

first_of : (file : List ℕ) (at place : ℕ) (rest : List ℕ) (boxes : List Box) → AreFrom file at boxes → place ∷ rest ≡ offsets (of_kind (codes "moof") boxes) → First file at boxes place rest
first_of file at place rest boxes a c = by (of_kind (codes "moof") boxes) refl c
  where
    by : (found : List Box) → of_kind (codes "moof") boxes ≡ found → place ∷ rest ≡ offsets found → First file at boxes place rest
    by [] e f = absurd cc
    by (b ∷ bs) e f =
        let q = behind_kept (codes "moof") boxes [] b bs e in
        let begins = behind file at q.before (b ∷ q.after) (subst (AreFrom file at) q.are a) in
        let offset : b.offset ≡ at + sizes q.before = ap (λ (x : Box). x.offset) begins.lie.0.2 in
        let placed : place ≡ at + sizes q.before = head_is place b.offset rest (offsets bs) f ∙ offset in
        let all : of_kind (codes "moof") boxes ≡ b ∷ of_kind (codes "moof") q.after =
        ap (of_kind (codes "moof")) q.are ∙ of_kind-split (codes "moof") q.before q.after b q.of_it ∙ ap (λ (xs : List Box). xs ++ b ∷ of_kind (codes "moof") q.after) q.kept in
        let others : bs ≡ of_kind (codes "moof") q.after = tail_is b b bs (of_kind (codes "moof") q.after) (sym e ∙ all) in
        record {
          before = q.before;
          b = b;
          after = q.after;
          are = q.are;
          none = q.kept;
          of_it = q.of_it;
          placed = placed;
          stands = subst (λ (k : ℕ). AreFrom file k (b ∷ q.after)) (sym placed) begins;
          begin = tail_is place b.offset rest (offsets bs) f ∙ ap offsets others;
          all = all;
        }

reached : (file : List ℕ) (at : ℕ) (rest : List ℕ) (top : TopBox) → Come file at (top.offset ∷ rest) → top.offset < length file → IsTopHeader file top.offset top.header → top.offset ≤ top.header.end → (boxes : List Box) → AreFrom file at boxes → Reached file at boxes top rest
reached file at rest top c lt read le boxes a =
    let f = first_of file at top.offset rest boxes a (c boxes a) in
    let front = front_is file top.offset top.header (f.b ∷ f.after) f.stands lt read le in
    let same : f.b ≡ box_at file top = head_is f.b (box_at file top) f.after front.rest front.is in
    let behind_it : f.after ≡ front.rest = tail_is f.b (box_at file top) f.after front.rest front.is in
    let of_it : bytes_eq (codes "moof") top.header.kind.0 ≡ true = ap (λ (x : Box). bytes_eq (codes "moof") x.kind) (sym same) ∙ f.of_it in
    record {
      next = (f.before, front.rest, f.are ∙ ap (λ (xs : List Box). f.before ++ xs) front.is, f.none, f.placed, sym ((bytes_eq-Decides (codes "moof") top.header.kind.0).0 of_it));
      behind = front.are_from;
      begin = f.begin ∙ ap (λ (xs : List Box). offsets (of_kind (codes "moof") xs)) behind_it;
    }

-- ---- a list of places, one after the other

-- the one at a place in the list
abbrev pub place_at : List ℕ → ℕ → ℕ
place_at places k = slice_index_or places k 0

module _ (places : List ℕ) (k : ℕ) (lt : k < length places) where
  one_on : drop k places ≡ place_at places k ∷ drop (k + 1) places
  one_on = drop-cons places k _ lt ∙ ap (λ (n : ℕ). place_at places k ∷ drop n places) (suc_is k)

  pub next_in : (L : ℕ) → AreIn L (drop k places) → (place_at places k < L) × AreIn L (drop (k + 1) places)
  next_in L h = subst (AreIn L) one_on h

  pub next_comes : (file : List ℕ) (at : ℕ) → Come file at (drop k places) → Come file at (place_at places k ∷ drop (k + 1) places)
  next_comes file at h = subst (Come file at) one_on h

  -- its header was read: it is the next, and the others come behind it
  pub coming : (file : List ℕ) (at most : ℕ) (top : TopBox) → top.offset ≡ place_at places k → Come file at (drop k places) → Left file at most → AreIn (length file) (drop k places) → IsTopHeader file top.offset top.header → IsWhole (length file) top
      → ((boxes : List Box) → AreFrom file at boxes → IsNextFragment file at boxes (Some top)) × Come file top.header.end (drop (k + 1) places)
  coming file at most top e c left all read w =
      let here = subst (λ (n : ℕ). Come file at (n ∷ drop (k + 1) places)) (sym e) (next_comes file at c) in
      let lt : top.offset < length file = subst (λ (n : ℕ). n < length file) (sym e) (next_in (length file) all).0 in
      let header = w.header in
      let le : top.offset ≤ top.header.end = omega (arith, header) in
      let at_left = reached file at (drop (k + 1) places) top here lt read le left.boxes left.are_from in (
        (λ boxes a. (reached file at (drop (k + 1) places) top here lt read le boxes a).next),
        (λ others o. at_left.begin ∙ ap (λ (bs : List Box). offsets (of_kind (codes "moof") bs)) (one_from file top.header.end at_left.next.1 others at_left.behind o)),
      )

  -- a box begins there that is no longer than the longest
  pub begins_next : (file : List ℕ) (at most : ℕ) → Come file at (drop k places) → Left file at most → Begins file (place_at places k) most
  begins_next file at most c left =
      let f = first_of file at (place_at places k) (drop (k + 1) places) left.boxes left.are_from (next_comes file at c left.boxes left.are_from) in
      let h = f.stands.lie.0 in
      let big : size f.b ≡ h.0.size = ap size h.2 ∙ box_size (place_at places k) (drop (place_at places k) file) h.0 (header_is true (drop (place_at places k) file) h.0 h.1) in
      let long = ap longest f.all ∙ longest_cons f.b (of_kind (codes "moof") f.after) in
      let short = left.short in
      (h.0, h.1, omega (arith, big, long, short))

pub none_comes : (file : List ℕ) (at : ℕ) (places : List ℕ) (k : ℕ) → length places ≤ k → Come file at (drop k places) → (boxes : List Box) → AreFrom file at boxes → IsNextFragment file at boxes None
none_comes file at places k le h boxes a = by (of_kind (codes "moof") boxes) refl (sym (drop_all k places le) ∙ h boxes a)
  where
    by : (found : List Box) → of_kind (codes "moof") boxes ≡ found → [] ≡ offsets found → of_kind (codes "moof") boxes ≡ []
    by [] e f = e
    by (b ∷ bs) e f = absurd cc

-- ---- a box that was read to the front of a room, its header first

pub read_from_header : (file : List ℕ) (top : TopBox) (m : Box) (room : List ℕ) → HasRoom (length room) top → AreBytes room → take (top.header.end - top.offset) room ≡ range file top.offset (top.header.end - top.offset)
    → m ≡ record { kind = top.header.kind.0; offset = top.offset; header = top.header.header; payload = take (top.header.end - top.offset - top.header.header) (drop top.header.header room) }
    → IsRead file top m (drop top.header.header room) (top.header.end - top.offset - top.header.header)
read_from_header file top m room fits of_bytes read is =
    let header = top.header.header in
    let len = top.header.end - top.offset - header in
    let low = fits.0 in
    let high = fits.1 in
    let all : top.header.end - top.offset ≡ header + len = omega (arith, low) in
    let payload : drop header (take (header + len) room) ≡ take len (drop header room) = drop-take header len room in
    let there : drop header (take (header + len) (drop top.offset file)) ≡ take len (drop (top.offset + header) file) = drop-take header len (drop top.offset file) ∙ ap (take len) (drop-drop header top.offset file) in
    record {
      is = is;
      fills = omega (arith, low);
      within = omega (arith, low, high, length-drop header room);
      read = sym payload ∙ ap (λ (n : ℕ). drop header (take n room)) (sym all) ∙ ap (drop header) read ∙ ap (λ (n : ℕ). drop header (take n (drop top.offset file))) all ∙ there;
      of_bytes = bytes_dropped header room of_bytes;
    }
