-- What the top-level headers of a file say of its `moov` and its `moof`s, one header after the other.
use Rattle.std.proofs.Common.{◌≡◌, ℕ, ◌-◌, ◌≤◌, Bool, true, false, List, [], ◌∷◌, ◌++◌, Option, Some, None, length, max, refl, sym, ap, subst, ◌∙◌, arith}
use Rattle.std.specs.Prelude.{codes, bytes_eq, IsTrue}
use Rattle.std.proofs.lemmas.List.{map-append}
use Rattle.std.proofs.lemmas.List.Sums.{fold-append}
use Rattle.mp4_boxes.specs.format.Box.{Box, IsFront, Tiles, size, sizes, file_container}
use Rattle.mp4_boxes.specs.format.Children.{of_kind, count_among, allows, Holds}
use Rattle.mp4_boxes.specs.declared.rule.Rule.TheVariants.{File}
use Rattle.mp4_boxes.specs.declared.headers.TopHeader.{TopHeader}
use Rattle.mp4_boxes.proofs.Among.{all_append}
use Rattle.mp4_boxes.proofs.Tiling.{sizes-append, sizes-cons}
use Rattle.mp4_present.specs.words.Reading.{IsTopHeader, top_box}
use Rattle.mp4_present.specs.format.Denotes.{begins_with_movie}
use Rattle.mp4_present.specs.words.Outline.{AreSeen, IsOutline, IsOrdered, longest, moov_seen, offsets}
use Rattle.mp4_present.specs.declared.reading.TopBox.{TopBox}
use Rattle.mp4_present.specs.declared.opening.outline.Outline.{Outline}
use Rattle.mp4_present.specs.declared.opening.outline.Seen.{Seen}
use Rattle.mp4_present.proofs.OutlineCounts.{not_both, count_is}
use Rattle.mp4_present.proofs.TopJudged.{TopGoes, top_goes_none}
use Rattle.mp4_present.proofs.TopLevel.{TopPassed, top_more, top_tiles}
use Rattle.mp4_tables.proofs.GroupWalks.{kind_snoc, kind_snoc_other}

-- ---- the order of `moov` and `moof`

here : (c b : Box) (bs : List Box) (u v : Bool) → bytes_eq (codes "moov") c.kind ≡ u → bytes_eq (codes "moof") c.kind ≡ v → of_kind (codes "moof") (c ∷ bs) ≡ []
    → (of_kind (codes "moof") bs ≡ [] → begins_with_movie (bs ++ b ∷ []) ≡ true) → begins_with_movie (c ∷ bs ++ b ∷ []) ≡ true
here c b bs true v e f n h = rw e refl
here c b bs false true e f n h = let g : ◌≡◌ {A = List Box} (c ∷ of_kind (codes "moof") bs) [] = rw f at n in absurd cc
here c b bs false false e f n h = rw (e, f) (h (rw f at n))

-- the `moov` comes, and no `moof` came
begins_here : (boxes : List Box) (b : Box) → of_kind (codes "moof") boxes ≡ [] → bytes_eq (codes "moov") b.kind ≡ true → begins_with_movie (boxes ++ b ∷ []) ≡ true
begins_here [] b n e = rw e refl
begins_here (c ∷ boxes) b n e = here c b boxes (bytes_eq (codes "moov") c.kind) (bytes_eq (codes "moof") c.kind) refl refl n (λ m. begins_here boxes b m e)

further : (c b x : Box) (bs : List Box) (u v : Bool) → bytes_eq (codes "moov") c.kind ≡ u → bytes_eq (codes "moof") c.kind ≡ v → of_kind (codes "moov") (c ∷ bs) ≡ x ∷ [] → begins_with_movie (c ∷ bs) ≡ true
    → (of_kind (codes "moov") bs ≡ x ∷ [] → begins_with_movie bs ≡ true → begins_with_movie (bs ++ b ∷ []) ≡ true) → begins_with_movie (c ∷ bs ++ b ∷ []) ≡ true
further c b x bs true v e f n m h = rw e refl
further c b x bs false true e f n m h = let g : ◌≡◌ {A = Bool} false true = rw (e, f) at m in absurd cc
further c b x bs false false e f n m h = rw (e, f) (h (rw e at n) (rw (e, f) at m))

-- the `moov` came first, whatever comes
begins_on : (boxes : List Box) (b x : Box) → of_kind (codes "moov") boxes ≡ x ∷ [] → begins_with_movie boxes ≡ true → begins_with_movie (boxes ++ b ∷ []) ≡ true
begins_on [] b x n m = absurd cc
begins_on (c ∷ boxes) b x n m = further c b x boxes (bytes_eq (codes "moov") c.kind) (bytes_eq (codes "moof") c.kind) refl refl n m (begins_on boxes b x)

longest_more : (boxes : List Box) (b : Box) → longest (boxes ++ b ∷ []) ≡ max (longest boxes) (size b)
longest_more boxes b = fold-append (λ most c. max most (size c)) 0 boxes (b ∷ [])

-- ---- one header more

-- some first boxes of a file, and the header of the next
pub record IsNext (file : List ℕ) (boxes : List Box) (at : ℕ) (h : TopHeader) : Type 0 where
  pub front : IsFront (file_container file) boxes
  pub taken : sizes boxes ≡ at
  pub read : IsTopHeader file at h
  pub room : at ≤ h.end

more : (file : List ℕ) (boxes : List Box) (at : ℕ) (h : TopHeader) → IsNext file boxes at h → TopPassed file (boxes ++ top_box file at h ∷ []) h.end
more file boxes at h n = top_more file boxes at h (record { lie = n.front.0; taken = n.taken }) n.read n.room

size_is : (file : List ℕ) (boxes : List Box) (at : ℕ) (h : TopHeader) → IsNext file boxes at h → size (top_box file at h) ≡ h.end - at
size_is file boxes at h n =
    let b = top_box file at h in
    let t = (more file boxes at h n).taken in
    let a = n.taken in
    omega (arith, t, a, sizes-append boxes (b ∷ []), sizes-cons b [])

-- the `moov`
pub seen_movie : (file : List ℕ) (boxes : List Box) (at : ℕ) (h : TopHeader) (seen : Seen) → IsNext file boxes at h → AreSeen file boxes seen → allows File h.kind.0 ≡ true → seen.moov ≡ None → bytes_eq (codes "moov") h.kind.0 ≡ true
    → AreSeen file (boxes ++ top_box file at h ∷ []) (record { moov = Some (record { offset = at; header = h }); longest = seen.longest })
seen_movie file boxes at h seen n s a e k =
    let b = top_box file at h in
    let other = not_both h.kind.0 k in
    let none : of_kind (codes "moov") boxes ≡ [] = s.moov ∙ ap (moov_seen file) e in
    let before : of_kind (codes "moof") boxes ≡ [] = subst (λ (o : Option TopBox). IsOrdered o boxes) e s.order in
    record {
      allowed = all_append (λ (c : Box). IsTrue (allows File c.kind)) boxes (b ∷ []) s.allowed (a, tt);
      moov = kind_snoc (codes "moov") boxes b k ∙ ap (λ (bs : List Box). bs ++ b ∷ []) none;
      order = begins_here boxes b before k;
      longest = s.longest ∙ ap longest (sym (kind_snoc_other (codes "moof") boxes b other));
    }

order_on : (file : List ℕ) (o : Option TopBox) (boxes : List Box) (b : Box) → of_kind (codes "moov") boxes ≡ moov_seen file o → bytes_eq (codes "moof") b.kind ≡ false → IsOrdered o boxes → IsOrdered o (boxes ++ b ∷ [])
order_on file None boxes b m e h = kind_snoc_other (codes "moof") boxes b e ∙ h
order_on file (Some top) boxes b m e h = begins_on boxes b _ m h

-- a box that is neither
pub seen_other : (file : List ℕ) (boxes : List Box) (at : ℕ) (h : TopHeader) (seen : Seen) → IsNext file boxes at h → AreSeen file boxes seen → allows File h.kind.0 ≡ true
    → bytes_eq (codes "moov") h.kind.0 ≡ false → bytes_eq (codes "moof") h.kind.0 ≡ false → AreSeen file (boxes ++ top_box file at h ∷ []) seen
seen_other file boxes at h seen n s a j k =
    let b = top_box file at h in
    record {
      allowed = all_append (λ (c : Box). IsTrue (allows File c.kind)) boxes (b ∷ []) s.allowed (a, tt);
      moov = kind_snoc_other (codes "moov") boxes b j ∙ s.moov;
      order = order_on file seen.moov boxes b s.moov k s.order;
      longest = s.longest ∙ ap longest (sym (kind_snoc_other (codes "moof") boxes b k));
    }

order_in : (file : List ℕ) (o : Option TopBox) (boxes : List Box) (b : Box) → of_kind (codes "moov") boxes ≡ moov_seen file o → (o ≡ None → ⊥) → IsOrdered o boxes → IsOrdered o (boxes ++ b ∷ [])
order_in file None boxes b m e h = absurd (e refl)
order_in file (Some top) boxes b m e h = begins_on boxes b _ m h

-- a `moof`
pub seen_fragment : (file : List ℕ) (boxes : List Box) (at : ℕ) (h : TopHeader) (seen : Seen) (most : ℕ) → IsNext file boxes at h → AreSeen file boxes seen → allows File h.kind.0 ≡ true
    → bytes_eq (codes "moov") h.kind.0 ≡ false → bytes_eq (codes "moof") h.kind.0 ≡ true → (seen.moov ≡ None → ⊥) → most ≡ max seen.longest (h.end - at)
    → AreSeen file (boxes ++ top_box file at h ∷ []) (record { moov = seen.moov; longest = most })
seen_fragment file boxes at h seen most n s a j k some m =
    let b = top_box file at h in
    let len = size_is file boxes at h n in
    record {
      allowed = all_append (λ (c : Box). IsTrue (allows File c.kind)) boxes (b ∷ []) s.allowed (a, tt);
      moov = kind_snoc_other (codes "moov") boxes b j ∙ s.moov;
      order = order_in file seen.moov boxes b s.moov some s.order;
      longest = m ∙ (λ i. max (s.longest i) (sym len i)) ∙ sym (longest_more (of_kind (codes "moof") boxes) b) ∙ ap longest (sym (kind_snoc (codes "moof") boxes b k));
    }

-- ---- the whole file

-- What is known where the headers up to a place of the file were read, and it was noted where `moof`s begin.
pub record Outlining (file : List ℕ) (at : ℕ) (seen : Seen) (moofs : List ℕ) : Type 0 where
  pub boxes : List Box
  pub front : IsFront (file_container file) boxes
  pub taken : sizes boxes ≡ at
  pub are_seen : AreSeen file boxes seen
  pub goes : TopGoes file boxes
  pub begin : moofs ≡ offsets (of_kind (codes "moof") boxes)

pub outlining_none : (file : List ℕ) → Outlining file 0 (record { moov = None; longest = 0 }) []
outlining_none file = record { boxes = []; front = (tt, tt); taken = refl; are_seen = record { allowed = tt; moov = refl; order = refl; longest = refl }; goes = top_goes_none file; begin = refl }

-- one more box is no `moof`, or one
pub begin_other : (boxes : List Box) (b : Box) (moofs : List ℕ) → bytes_eq (codes "moof") b.kind ≡ false → moofs ≡ offsets (of_kind (codes "moof") boxes) → moofs ≡ offsets (of_kind (codes "moof") (boxes ++ b ∷ []))
begin_other boxes b moofs other e = e ∙ ap offsets (sym (kind_snoc_other (codes "moof") boxes b other))

pub begin_more : (boxes : List Box) (b : Box) (moofs : List ℕ) → bytes_eq (codes "moof") b.kind ≡ true → moofs ≡ offsets (of_kind (codes "moof") boxes) → moofs ++ b.offset ∷ [] ≡ offsets (of_kind (codes "moof") (boxes ++ b ∷ []))
begin_more boxes b moofs this e =
    ap (λ (ns : List ℕ). ns ++ b.offset ∷ []) e ∙ sym (map-append (λ (x : Box). x.offset) (of_kind (codes "moof") boxes) (b ∷ [])) ∙ ap offsets (sym (kind_snoc (codes "moof") boxes b this))

pub outlining_more : (file : List ℕ) (at : ℕ) (h : TopHeader) (seen : Seen) (boxes : List Box) → IsFront (file_container file) boxes → sizes boxes ≡ at → IsTopHeader file at h → at ≤ h.end
    → AreSeen file (boxes ++ top_box file at h ∷ []) seen → TopGoes file (boxes ++ top_box file at h ∷ []) → (moofs : List ℕ) → moofs ≡ offsets (of_kind (codes "moof") (boxes ++ top_box file at h ∷ [])) → Outlining file h.end seen moofs
outlining_more file at h seen boxes f t r le s g moofs e =
    let m = more file boxes at h (record { front = f; taken = t; read = r; room = le }) in
    record { boxes = boxes ++ top_box file at h ∷ []; front = (m.lie, tt); taken = m.taken; are_seen = s; goes = g; begin = e }

tiles : (file : List ℕ) (at : ℕ) (seen : Seen) (moofs : List ℕ) (o : Outlining file at seen moofs) → length file ≤ at → Tiles (file_container file) o.boxes
tiles file at seen moofs o le = top_tiles file o.boxes at (record { lie = o.front.0; taken = o.taken }) le

-- the end was reached: these are the boxes of the file
pub outlined : (file : List ℕ) (at : ℕ) (seen : Seen) (out : Outline) (o : Outlining file at seen out.moofs.items) → length file ≤ at → seen.moov ≡ Some out.moov → out.longest ≡ seen.longest
    → Holds File (file_container file) o.boxes × (begins_with_movie o.boxes ≡ true) × IsOutline file o.boxes out
outlined file at seen out o le e long =
    let s = o.are_seen in
    let one = s.moov ∙ ap (moov_seen file) e in
    let count : count_among (codes "moov" ∷ []) o.boxes ≡ 1 = count_is (codes "moov") o.boxes ∙ ap (λ (bs : List Box). length bs) one in (
      record { tiles = tiles file at seen out.moofs.items o le; allowed = s.allowed; quantities = (count, (tt, (tt, (tt, (tt, (tt, (tt, tt))))))) },
      subst (λ (w : Option TopBox). IsOrdered w o.boxes) e s.order,
      record { moov = one; moofs = o.begin; longest = long ∙ s.longest },
    )
