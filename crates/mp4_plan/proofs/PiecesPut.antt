-- Pieces that are put over any store: so many follow, with so many samples and so many bytes of these.
use Rattle.std.proofs.Common.{◌≡◌, ℕ, ◌+◌, ◌-◌, ◌*◌, ◌^◌, ◌<◌, ◌≤◌, List, [], ◌∷◌, ◌++◌, refl, sym, ap, subst, ◌∙◌, append_assoc, arith}
use Rattle.std.specs.List.{sum_by}
use Rattle.std.proofs.lemmas.List.Sums.{sum_by-append, sum_by-cons}
use Rattle.std.proofs.lemmas.Grind.{flat_map-append}
use Rattle.std.proofs.lemmas.List.{append-nil}
use Rattle.mp4_store.proofs.Known.{IsJoining}
use Rattle.mp4_tables.specs.format.Groups.{GroupKey}
use Rattle.mp4_present.specs.words.Carried.{BytesGoOn, GoOnBy}
use Rattle.mp4_present.specs.words.Movies.{MovieSeen}
use Rattle.mp4_present.specs.declared.track_info.TrackInfo.{TrackInfo}
use Rattle.mp4_present.proofs.Carrying.{BytesGoOn-nothing, BytesGoOn-then, BytesGoOn-all}
use Rattle.mp4_plan.specs.words.PutPieces.{PutPiece, put_front, AreBytesOf, PiecesFollow, IsPutWhole}
use Rattle.mp4_plan.specs.words.UsedKeys.{group_bytes, some_groups}
use Rattle.mp4_plan.specs.declared.planner.Planned.{Planned}
use Rattle.mp4_plan.specs.declared.noted_rows.Row.{Row}

-- the bytes of some pieces and of others behind them
both_texts : (pieces more : List PutPiece) (text rest : List ℕ) → AreBytesOf pieces text → AreBytesOf more rest → AreBytesOf (pieces ++ more) (text ++ rest)
both_texts [] more text rest is are = subst (λ (bs : List ℕ). AreBytesOf more (bs ++ rest)) (sym is) are
both_texts (q ∷ pieces) more text rest is are = (
  is.0,
  is.1 ++ rest,
  is.2,
  ap (λ (bs : List ℕ). bs ++ rest) is.3 ∙ append_assoc (put_front q ++ is.0) is.1 rest,
  both_texts pieces more is.1 rest is.4 are,
)

-- none yet, behind these bytes
pub first_put : (Took : List ℕ → Type 0) (held held_b first : List ℕ) → BytesGoOn Took held held_b first → PiecesFollow Took held held_b first 0 0
first_put Took held held_b first p = record { pieces = []; counts = refl; sizes = refl; text = []; are = refl; put = subst (λ (bs : List ℕ). BytesGoOn Took held held_b bs) (sym (append-nil first)) p }

-- no piece follows
pub none_follow : (Took : List ℕ → Type 0) (nothing : Took []) (held : List ℕ) (samples bytes : ℕ) → samples ≡ 0 → bytes ≤ samples * 4294967295 → PiecesFollow Took held held [] samples bytes
none_follow Took nothing held samples bytes none few =
    let empty : bytes ≡ 0 = omega (arith, none, few) in
    subst (λ n. PiecesFollow Took held held [] n bytes) (sym none) (subst (λ n. PiecesFollow Took held held [] 0 n) (sym empty) (first_put Took held held [] (BytesGoOn-nothing Took nothing held)))

-- others behind them
pub follow_then : {Y : Type 0} {takes : Y → Y → List ℕ → Type 0} (joins : IsJoining takes) (a b c : Y) (held held_b held_c : List ℕ) (first : List ℕ) (samples bytes more_samples more_bytes : ℕ) → PiecesFollow (takes a b) held held_b first samples bytes
    → PiecesFollow (takes b c) held_b held_c [] more_samples more_bytes
    → PiecesFollow (takes a c) held held_c first (samples + more_samples) (bytes + more_bytes)
follow_then joins a b c held held_b held_c first samples bytes more_samples more_bytes p q =
    let counts = sum_by-append (λ (x : PutPiece). x.planned.count) p.pieces q.pieces in
    let sizes = sum_by-append (λ (x : PutPiece). x.planned.bytes) p.pieces q.pieces in
    let one = p.counts in
    let two = q.counts in
    let three = p.sizes in
    let four = q.sizes in
    record {
      pieces = p.pieces ++ q.pieces;
      counts = omega (arith, counts, one, two);
      sizes = omega (arith, sizes, three, four);
      text = p.text ++ q.text;
      are = both_texts p.pieces q.pieces p.text q.text p.are q.are;
      put = BytesGoOn-then joins a b c held held_b held_c (first ++ p.text) q.text (first ++ (p.text ++ q.text)) p.put q.put (sym (append_assoc first p.text q.text));
    }

-- one, of which what stands in front was taken along, and then its bytes
pub piece_follows : (q : PutPiece) {Y : Type 0} {takes : Y → Y → List ℕ → Type 0} (joins : IsJoining takes) (a e f : Y) (h1 h5 h6 : List ℕ) → BytesGoOn (takes a e) h1 h5 (put_front q) → GoOnBy (takes e f) h5 h6 q.planned.bytes → PiecesFollow (takes a f) h1 h6 [] q.planned.count q.planned.bytes
piece_follows q joins a e f h1 h5 h6 whole v =
    let counts = sum_by-cons (λ (x : PutPiece). x.planned.count) q [] in
    let sizes = sum_by-cons (λ (x : PutPiece). x.planned.bytes) q [] in
    record {
      pieces = q ∷ [];
      counts = omega (arith, counts);
      sizes = omega (arith, sizes);
      text = put_front q ++ v.0 ++ [];
      are = (v.0, [], v.1, refl, refl);
      put = BytesGoOn-then joins a e f h1 h5 h6 (put_front q) v.0 _ whole v.2 (append-nil (put_front q ++ v.0));
    }

-- at last what waits is put: they have as many samples and bytes as the movie says
pub all_follow : (m : MovieSeen) {Y : Type 0} {takes : Y → Y → List ℕ → Type 0} (joins : IsJoining takes) (a b c : Y) (held held_b head : List ℕ) (samples bytes : ℕ) → PiecesFollow (takes a b) held held_b head samples bytes
    → samples ≡ sum_by (λ (i : TrackInfo). i.samples) m.tracks → bytes ≡ sum_by (λ (i : TrackInfo). i.bytes) m.tracks → takes b c held_b → IsPutWhole m (takes a c) (held ++ head)
all_follow m {takes = takes} joins a b c held held_b head samples bytes p counts sizes q =
    record {
      pieces = p.pieces;
      counts = p.counts ∙ counts;
      sizes = p.sizes ∙ sizes;
      text = p.text;
      are = p.are;
      put = subst (λ (bs : List ℕ). takes a c bs) (sym (append_assoc held head p.text)) (BytesGoOn-all joins a b c held held_b (head ++ p.text) p.put q);
    }

-- one `sbgp` more
pub groups_more : (rows : List Row) (p : Planned) (used : List (ℕ × GroupKey)) (place : ℕ) (key : GroupKey) → some_groups rows p (used ++ (place, key) ∷ []) ≡ some_groups rows p used ++ group_bytes rows p place key
groups_more rows p used place key =
    flat_map-append (λ (g : ℕ × GroupKey). group_bytes rows p g.0 g.1) used ((place, key) ∷ []) ∙ ap (λ (bs : List ℕ). some_groups rows p used ++ bs) (append-nil (group_bytes rows p place key))

-- ---- counts

-- as many samples fewer are to come as were taken
pub fewer_to_come : (samples left count after all : ℕ) → samples + left ≡ all → count ≤ left → after ≡ left - count → samples + count + after ≡ all
fewer_to_come samples left count after all sum few is = omega (arith, sum, few, is)

-- a sample has fewer than 2^32 bytes
pub still_fits : (sent left bytes count after most : ℕ) → sent + left * 4294967295 ≤ most → bytes ≤ count * 4294967295 → count ≤ left → after ≡ left - count → sent + bytes + after * 4294967295 ≤ most
still_fits sent left bytes count after most fits sizes few is = omega (arith, fits, sizes, few, is)

pub sum_fits : (sent left bytes : ℕ) → sent + left * 4294967295 ≤ 2 ^ 64 * 4294967295 * 4294967295 → bytes + 16 < 2 ^ 64 → sent + bytes < 2 ^ 128
sum_fits sent left bytes fits small = omega (arith, fits, small)

-- no more than the rows, of which there are few
pub no_more : (a b c : ℕ) → a ≤ b → b ≤ c → a ≤ c
no_more a b c p q = omega (arith, p, q)
