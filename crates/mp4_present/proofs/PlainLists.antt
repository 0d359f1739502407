-- The tracks of a movie behind their tables, one after the other.
use Rattle.std.proofs.Common.{◌≡◌, ℕ, ◌+◌, ◌-◌, ◌*◌, ◌^◌, ◌<◌, ◌≤◌, List, [], ◌∷◌, ◌++◌, length, drop, zero, suc, sym, subst, arith, length-append}
use Rattle.std.specs.List.{AllByRecursion, AllZip}
use Rattle.mp4_boxes.specs.words.View.{box_seen}
use Rattle.mp4_tables.specs.words.Leaves.{HasTables}
use Rattle.mp4_tables.proofs.LeafLists.{has_tables}
use Rattle.mp4_head.specs.format.Tree.{TrackTree, IsTrackTree, stbl_of}
use Rattle.mp4_head.specs.declared.heads.TrackHead.{TrackHead}
use Rattle.mp4_head.specs.declared.heads.MovieHead.{MovieHead}
use Rattle.mp4_boxes.specs.format.Box.{Box}
use Rattle.mp4_tables.specs.words.Accepted.{IsAccepted}
use Rattle.mp4_frag.specs.words.States.{HasRoom}
use Rattle.mp4_frag.specs.declared.state.TrackState.{TrackState}
use Rattle.mp4_frag.proofs.StateLists.{less_room}
use Rattle.mp4_head.specs.words.Found.{LiesIn, IsFoundIn, SaysHead}
use Rattle.mp4_present.specs.words.Movies.{LieIn, table_bytes}
use Rattle.mp4_present.specs.words.Plain.{ArePlain, HaveTablesIn}
use Rattle.mp4_present.specs.declared.movie.TrackTables.{TrackTables}
use Rattle.mp4_present.specs.declared.opening.tables_pass.PlainTracks.{PlainTracks}

-- what holds of each and of one more
pub all_push : {A : Type 0} (P : A → Type 0) (xs : List A) (x : A) → AllByRecursion P xs → P x → AllByRecursion P (xs ++ x ∷ [])
all_push P [] x h p = (p, tt)
all_push P (y ∷ ys) x h p = (h.0, all_push P ys x h.1 p)

-- the tables of an `stbl` lie in its `moov`
pub lie_in : (moov stbl : Box) (t : TrackTables) → LiesIn moov stbl → t.place ≡ (stbl.offset + stbl.header) - (moov.offset + moov.header) → t.len ≡ length stbl.payload → IsAccepted stbl.payload t.tables → LieIn moov.payload t
lie_in moov stbl t i p n a =
    let begins = i.begins in
    let ends = i.ends in
    let same : table_bytes moov.payload t ≡ stbl.payload = rw (p, n) (sym i.payload) in
    record {
      within = omega (arith, begins, ends, p, n);
      accepted = subst (λ (bytes : List ℕ). IsAccepted bytes t.tables) (sym same) a;
    }

-- one more track was checked
pub plain_more : (moov : List ℕ) (n count : ℕ) (old new : PlainTracks) (t : TrackTables) (s : TrackState)
    → ArePlain moov n old → LieIn moov t → count ≤ old.room → s.count ≡ count → s.time < 2 ^ 64 → s.bytes ≤ 2 ^ 32 * count
    → new.tables.items ≡ old.tables.items ++ t ∷ [] → new.states.items ≡ old.states.items ++ s ∷ [] → new.room ≡ old.room - count
    → ArePlain moov (n + 1) new
plain_more moov n count old new t s a l few c time bytes ts ss r =
    let a0 = a.each_tables in
    let a1 = a.each_state in
    let most = a.few in
    let less : new.room ≤ old.room = omega (arith, r) in
    let has : HasRoom new.room s = record { few = omega (arith, r, c, few, most); time = omega (arith, time); bytes = omega (arith, c, bytes) } in
    record {
      tables = rw ts (all_push (LieIn moov) old.tables.items t a.tables l);
      each_tables = rw (ts, length-append) (omega (arith, a0));
      each_state = rw (ss, length-append) (omega (arith, a1));
      states = rw ss (all_push (HasRoom new.room) old.states.items s (less_room old.room new.room old.states.items less a.states) has);
      few = omega (arith, less, most);
    }

-- what holds of each from one on
pub from_next : {A : Type 0} (P : A → Type 0) (xs : List A) (k : ℕ) → AllByRecursion P (drop k xs) → AllByRecursion P (drop (suc k) xs)
from_next P [] zero h = tt
from_next P [] (suc k) h = tt
from_next P (x ∷ xs) zero h = h.1
from_next P (x ∷ xs) (suc k) h = from_next P xs k h

found_there : (moov : Box) (trees : List TrackTree) (tracks : List TrackHead) → AllByRecursion IsTrackTree trees → AllZip IsFoundIn trees tracks → AllByRecursion (λ t. LiesIn moov (box_seen t.stbl)) tracks → HaveTablesIn moov tracks
found_there moov [] [] i z l = tt
found_there moov (t ∷ trees) (h ∷ tracks) i z l =
    let tables : HasTables (stbl_of t) = has_tables (stbl_of t) t.table i.0.table in
    (record { inside = l.0; tables = subst HasTables (sym z.0.stbl) tables }, found_there moov trees tracks i.1 z.1 l.1)
found_there moov [] (h ∷ tracks) i z l = absurd z
found_there moov (t ∷ trees) [] i z l = absurd z

-- the tables of each track that a head has lie in the `moov`
pub found_tables : (moov : Box) (head : MovieHead) → SaysHead moov head → AllByRecursion (λ t. LiesIn moov (box_seen t.stbl)) head.tracks.items → HaveTablesIn moov head.tracks.items
found_tables moov head s l = let tree = s.has.is_tree in found_there moov s.has.tree.tracks head.tracks.items tree.tracks s.tracks l
