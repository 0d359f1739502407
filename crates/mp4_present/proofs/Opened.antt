-- What is known of a file whose `moov` was read.
use Rattle.std.proofs.Common.{◌⊎◌, ◌≡◌, ℕ, ◌+◌, ◌-◌, Bool, true, false, List, [], ◌∷◌, ◌++◌, length, take, drop, refl, sym, ap, subst, ◌∙◌, arith, inl, inr, append_assoc}
use Rattle.std.specs.Prelude.{codes, bytes_eq, map, IsTrue, cond}
use Rattle.std.proofs.lemmas.Slice.Eq.{bytes_eq-Decides}
use Rattle.mp4_store.specs.words.Device.{range}
use Rattle.mp4_boxes.specs.format.Box.{Box, LieEndToEnd, file_container, StandsAfter}
use Rattle.mp4_boxes.specs.format.Children.{Holds, of_kind}
use Rattle.mp4_boxes.specs.format.Places.{whole, ruled}
use Rattle.mp4_boxes.specs.declared.rule.Rule.TheVariants.{File, Movie}
use Rattle.mp4_boxes.specs.declared.fault.Fault.{Fault}
use Rattle.mp4_boxes.proofs.Plain.{head_is, tail_is}
use Rattle.mp4_head.specs.format.HeadFaults.{HeadStands, HeaderStands, ChildStands, MissingStands, LeafStands}
use Rattle.mp4_head.specs.words.Refuses.{place_of}
use Rattle.mp4_head.specs.format.Head as heads
use Rattle.mp4_head.specs.format.Tree.{TrackTree, MovieTree, IsTrackTree, IsSoundTrack, track_head_of}
use Rattle.mp4_head.specs.words.Found.{SaysHead, IsFoundIn}
use Rattle.std.specs.List.{AllByRecursion, AllZip}
use Rattle.mp4_head.specs.words.Seen.{track_seen}
use Rattle.mp4_head.specs.declared.heads.TrackHead.{TrackHead}
use Rattle.mp4_head.specs.declared.heads.MovieHead.{MovieHead}
use Rattle.mp4_head.proofs.Above.{stands_in_file, lies_front}
use Rattle.mp4_present.specs.words.Movies.{Fills}
use Rattle.mp4_present.specs.words.Outline.{box_at}
use Rattle.mp4_present.specs.words.Opening.{HasOutline}
use Rattle.mp4_present.specs.format.Denotes.{HasMovie}
use Rattle.mp4_present.specs.words.TrackTrees.{AreTracksOf}
use Rattle.mp4_present.specs.format.Denotes.{begins_with_movie}
use Rattle.mp4_present.specs.format.Stands.{Stands, header, child, missing, leaf}
use Rattle.mp4_present.specs.declared.reading.TopBox.{TopBox}
use Rattle.mp4_present.specs.declared.opening.outline.Outline.{Outline}

-- ---- the `moov` among the boxes of the file

pub record IsAmong (kind : List ℕ) (boxes : List Box) (b : Box) : Type 0 where
  pub before : List Box
  pub after : List Box
  pub is : boxes ≡ before ++ b ∷ after
  pub kind_is : b.kind ≡ kind

first_box : (xs ys : List Box) (x y : Box) → ◌≡◌ {A = List Box} (x ∷ xs) (y ∷ ys) → x ≡ y
first_box xs ys x y e = cc

one_more : (kind : List ℕ) (c b : Box) (boxes rest : List Box) (v : Bool) → bytes_eq kind c.kind ≡ v → cond v (c ∷ of_kind kind boxes) (of_kind kind boxes) ≡ b ∷ rest
    → (of_kind kind boxes ≡ b ∷ rest → IsAmong kind boxes b) → IsAmong kind (c ∷ boxes) b
one_more kind c b boxes rest true e is h =
    let same : c ≡ b = first_box (of_kind kind boxes) rest c b is in
    let own : c.kind ≡ kind = sym ((bytes_eq-Decides kind c.kind).0 e) in
    record { before = []; after = boxes; is = ap (λ (x : Box). x ∷ boxes) same; kind_is = subst (λ (x : Box). x.kind ≡ kind) same own }
one_more kind c b boxes rest false e is h =
    let i = h is in record { before = c ∷ i.before; after = i.after; is = ap (λ (bs : List Box). c ∷ bs) i.is; kind_is = i.kind_is }

-- the first box of a type is one of the boxes
is_among : (kind : List ℕ) (boxes : List Box) (b : Box) (rest : List Box) → of_kind kind boxes ≡ b ∷ rest → IsAmong kind boxes b
is_among kind [] b rest e = absurd cc
is_among kind (c ∷ boxes) b rest e = one_more kind c b boxes rest (bytes_eq kind c.kind) refl e (is_among kind boxes b rest)

-- a box that was read is the one that stands in the file
pub moov_is : (file moov : List ℕ) (top : TopBox) (b : Box) → b ≡ record { kind = top.header.kind.0; offset = top.offset; header = top.header.header; payload = moov } → Fills (length moov) top
    → moov ≡ range file (top.offset + top.header.header) (length moov) → b ≡ box_at file top
moov_is file moov top b is fills bytes =
    let len : length moov ≡ top.header.end - top.offset - top.header.header = omega (arith, fills) in
    let same : moov ≡ take (top.header.end - top.offset - top.header.header) (drop (top.offset + top.header.header) file) = bytes ∙ ap (λ (n : ℕ). range file (top.offset + top.header.header) n) len in
    is ∙ ap (λ (xs : List ℕ). record { kind = top.header.kind.0; offset = top.offset; header = top.header.header; payload = xs }) same

-- a fault in the `moov` stands in the file
by_reason : (file : List ℕ) (f : Fault) → HeaderStands (whole file) f ⊎ (ChildStands (whole file) f ⊎ (MissingStands (whole file) f ⊎ LeafStands (whole file) f)) → Stands file f
by_reason file f (inl h) = (header, h)
by_reason file f (inr (inl h)) = (child, h)
by_reason file f (inr (inr (inl h))) = (missing, h)
by_reason file f (inr (inr (inr h))) = (leaf, h)

pub head_stands : (file : List ℕ) (boxes : List Box) (b : Box) (f : Fault) → Holds File (file_container file) boxes → of_kind (codes "moov") boxes ≡ b ∷ [] → HeadStands (place_of (ruled Movie) b) f → Stands file f
head_stands file boxes b f holds one h =
    let i = is_among (codes "moov") boxes b [] one in
    let all : LieEndToEnd true 0 file ((i.before ++ b ∷ []) ++ i.after) = subst (λ (bs : List Box). LieEndToEnd true 0 file bs) (i.is ∙ sym (append_assoc i.before (b ∷ []) i.after)) holds.tiles.front.0 in
    let stands : StandsAfter (file_container file) i.before b = (lies_front true 0 file (i.before ++ b ∷ []) i.after all, tt) in
    by_reason file f (stands_in_file file i.before b f stands (rw i.kind_is refl) h)

-- ---- the IDs

ids_seen : (tracks : List TrackHead) → map (λ (t : heads.TrackHead). t.id) (map track_seen tracks) ≡ map (λ (t : TrackHead). t.id) tracks
ids_seen [] = refl
ids_seen (t ∷ ts) = ap (λ (ns : List ℕ). t.id ∷ ns) (ids_seen ts)

ids_of : (trees : List TrackTree) → map (λ (t : heads.TrackHead). t.id) (map track_head_of trees) ≡ map (λ (t : TrackTree). (track_head_of t).id) trees
ids_of [] = refl
ids_of (t ∷ ts) = ap (λ (ns : List ℕ). (track_head_of t).id ∷ ns) (ids_of ts)

-- the `moov` of the file was read to this head
has_movie : (file : List ℕ) (boxes : List Box) (b : Box) (head : MovieHead) (ids : List ℕ) → Holds File (file_container file) boxes → begins_with_movie boxes ≡ true → of_kind (codes "moov") boxes ≡ b ∷ []
    → SaysHead b head → ids ≡ map (λ (t : TrackHead). t.id) head.tracks.items → HasMovie file ids
has_movie file boxes b head ids holds order one says are = record {
  boxes = boxes;
  holds = holds;
  order = order;
  tree = says.has.tree;
  is_moov = one ∙ ap (λ (x : Box). x ∷ []) (sym says.has.is_moov);
  is_tree = says.has.is_tree;
  is_sound = says.has.is_sound;
  ids_are = are ∙ sym (ids_seen head.tracks.items) ∙ ap (λ (h : heads.Head). map (λ (t : heads.TrackHead). t.id) h.tracks) says.has.says ∙ ids_of says.has.tree.tracks;
}

-- ---- the `moov` that was read

-- the box that was read, and what is known of it
pub record IsRead (honest : Bool) (file : List ℕ) (o : Outline) (moov : List ℕ) (b : Box) : Type 0 where
  pub outline : HasOutline honest file o
  pub is : b ≡ record { kind = o.moov.header.kind.0; offset = o.moov.offset; header = o.moov.header.header; payload = moov }
  pub fills : Fills (length moov) o.moov
  pub bytes : IsTrue honest → moov ≡ range file (o.moov.offset + o.moov.header.header) (length moov)

pub its_moov : (honest : Bool) (file : List ℕ) (o : Outline) (moov : List ℕ) (b : Box) (r : IsRead honest file o moov b) (told : IsTrue honest) → of_kind (codes "moov") (r.outline told).0 ≡ b ∷ []
its_moov honest file o moov b r told =
    let k = r.outline told in
    k.3.moov ∙ ap (λ (x : Box). x ∷ []) (sym (moov_is file moov o.moov b r.is r.fills (r.bytes told)))

-- its head is sound
pub its_movie : (honest : Bool) (file : List ℕ) (o : Outline) (moov : List ℕ) (b : Box) (head : MovieHead) (ids : List ℕ) → IsRead honest file o moov b → SaysHead b head → ids ≡ map (λ (t : TrackHead). t.id) head.tracks.items
    → IsTrue honest → HasMovie file ids
its_movie honest file o moov b head ids r says are told = let k = r.outline told in has_movie file k.0 b head ids k.1 k.2 (its_moov honest file o moov b r told) says are

-- where the `moov` stands in the file
pub record IsThere (file : List ℕ) (m : MovieTree) : Type 0 where
  pub before : List Box
  pub stands : StandsAfter (file_container file) before m.moov
  pub kind : m.moov.kind ≡ codes "moov"

pub moov_there : (file : List ℕ) (boxes : List Box) (b : Box) (m : MovieTree) → Holds File (file_container file) boxes → of_kind (codes "moov") boxes ≡ b ∷ [] → m.moov ≡ b → IsThere file m
moov_there file boxes b m holds one e =
    let i = is_among (codes "moov") boxes b [] one in
    let all : LieEndToEnd true 0 file ((i.before ++ b ∷ []) ++ i.after) = subst (λ (bs : List Box). LieEndToEnd true 0 file bs) (i.is ∙ sym (append_assoc i.before (b ∷ []) i.after)) holds.tiles.front.0 in
    let stands : StandsAfter (file_container file) i.before b = (lies_front true 0 file (i.before ++ b ∷ []) i.after all, tt) in
    record { before = i.before; stands = subst (λ (c : Box). StandsAfter (file_container file) i.before c) (sym e) stands; kind = subst (λ (c : Box). c.kind ≡ codes "moov") (sym e) i.kind_is }

-- what is said of a head is said of each track by its tree
are_tracks : (trees : List TrackTree) (tracks : List TrackHead) → AllByRecursion IsTrackTree trees → AllByRecursion IsSoundTrack trees → AllZip IsFoundIn trees tracks → map track_seen tracks ≡ map track_head_of trees → AreTracksOf trees tracks
are_tracks [] [] h s z e = tt
are_tracks [] (x ∷ tracks) h s z e = absurd z
are_tracks (t ∷ trees) [] h s z e = absurd z
are_tracks (t ∷ trees) (x ∷ tracks) h s z e = (
  record { tree = h.0; sound = s.0; found = z.0; says = head_is (track_seen x) (track_head_of t) (map track_seen tracks) (map track_head_of trees) e },
  are_tracks trees tracks h.1 s.1 z.1 (tail_is (track_seen x) (track_head_of t) (map track_seen tracks) (map track_head_of trees) e),
)

pub tracks_read : (b : Box) (head : MovieHead) (says : SaysHead b head) → AreTracksOf says.has.tree.tracks head.tracks.items
tracks_read b head says = are_tracks says.has.tree.tracks head.tracks.items says.has.is_tree.tracks says.has.is_sound.tracks says.tracks (ap (λ (x : heads.Head). x.tracks) says.has.says)
