-- The first fault of the tables of tracks, which are checked one after the other.
use Rattle.std.proofs.Common.{◌≡◌, ℕ, suc, ◌+◌, ◌-◌, ◌^◌, ◌<◌, ◌≤◌, List, [], ◌∷◌, ◌++◌, length, take, drop, min, None, slice_index_or, refl, sym, ap, subst, ◌∙◌, arith}
use Rattle.std.proofs.lemmas.List.{drop_all}
use Rattle.mp4_boxes.specs.format.Bytes.{AreBytes}
use Rattle.mp4_boxes.specs.format.Box.{Box}
use Rattle.mp4_boxes.specs.format.FirstFault.{first_failed}
use Rattle.mp4_boxes.specs.words.View.{box_seen}
use Rattle.mp4_boxes.specs.declared.refusal.Refusal.{Refusal}
use Rattle.mp4_boxes.specs.declared.refusal.Refusal.TheVariants as refusals
use Rattle.mp4_boxes.proofs.Plain.{length_zip}
use Rattle.mp4_tables.specs.format.FirstFault.{table_tests}
use Rattle.mp4_tables.specs.words.Leaves.{boxes_of}
use Rattle.mp4_tables.proofs.LeafLists.{boxes_are}
use Rattle.mp4_present.specs.words.TablesFirst.{RefusedFirst}
use Rattle.mp4_frag.proofs.FirstRun.{behind_all}
use Rattle.mp4_frag.specs.declared.trex.Trex.{Trex}
use Rattle.mp4_head.specs.format.Tree.{TrackTree, stbl_of}
use Rattle.mp4_head.specs.declared.heads.TrackHead.{TrackHead}
use Rattle.mp4_present.specs.format.Denotes.{surroundings}
use Rattle.mp4_present.specs.format.Judge.{tables_tests, count_of}
use Rattle.mp4_present.specs.format.Presentation.{max_samples}
use Rattle.mp4_present.specs.format.Stands.{table_total}
use Rattle.mp4_present.specs.words.TrackTrees.{IsTrackOf, AreTracksOf, HaveTables}
use Rattle.mp4_present.specs.declared.opening.tables_pass.PlainTracks.{PlainTracks}
use Rattle.mp4_present.proofs.TablesKept.{as_many}
use Rattle.mp4_present.proofs.TracksPassed.{IsBeside, beside}
use Rattle.mp4_tables.proofs.InOrder.{fails_first}
use Rattle.mp4_tables.proofs.Sums.{sum_joined}

-- what is tested of the `stbl` that was read is what is tested of the track's tree
pub tests_are : (L n room : ℕ) (h : TrackHead) (t : TrackTree) (file : List ℕ) → length file ≡ L → IsTrackOf t h → AreBytes (box_seen h.stbl).payload → n ≡ min (length h.media.descriptions.items) (2 ^ 32 - 1)
    → table_tests room (record { file_length = L; descriptions = n }) (boxes_of (box_seen h.stbl)) ≡ table_tests room (surroundings file t) t.table
tests_are L n room h t file e i bytes many =
    let stbl = i.found.stbl in
    let boxes : boxes_of (box_seen h.stbl) ≡ t.table = ap boxes_of stbl ∙ boxes_are (stbl_of t) t.table i.tree.table.tiles in
    let described : n ≡ length t.descriptions = as_many t h n i (subst (λ (b : Box). AreBytes b.payload) stbl bytes) many in
    let whole : L ≡ length file = sym e in
    λ j. table_tests room (record { file_length = whole j; descriptions = described j }) (boxes j)

-- ---- one track after the other

-- the tests of all tracks come down to those of the tracks that are left
abbrev pub TablesLeft : ℕ → List TrackHead → ℕ → ℕ → Type 0
TablesLeft L tracks k room = (file : List ℕ) → length file ≡ L → (trees : List TrackTree) → AreTracksOf trees tracks
    → first_failed (tables_tests file max_samples trees) ≡ first_failed (tables_tests file room (drop k trees))

-- none was checked yet
pub tables_first : (L : ℕ) (moov : List ℕ) (trexes : List Trex) (tracks : List TrackHead) (p : PlainTracks) → HaveTables L moov trexes [] p → TablesLeft L tracks 0 p.room
tables_first L moov trexes tracks p h file e trees a =
    let left = h.room in
    let same : max_samples ≡ p.room = omega (arith, left) in
    ap (λ (room : ℕ). first_failed (tables_tests file room trees)) same

-- the room falls by the samples of the track
less_room : (L : ℕ) (moov : List ℕ) (trexes : List Trex) (trees : List TrackTree) (t : TrackTree) (old new : PlainTracks) → HaveTables L moov trexes trees old → HaveTables L moov trexes (trees ++ t ∷ []) new → old.room - count_of t ≡ new.room
less_room L moov trexes trees t old new h k =
    let before = h.room in
    let after = k.room in
    let total = sum_joined count_of trees (t ∷ []) in
    falls old.room new.room (table_total trees) (count_of t) (table_total (trees ++ t ∷ [])) before after total
  where
    falls : (old new before own all : ℕ) → old + before ≡ max_samples → new + all ≡ max_samples → all ≡ before + (own + 0) → old - own ≡ new
    falls old new before own all e f g = omega (arith, e, f, g)

module _ (L : ℕ) (moov : List ℕ) (trexes : List Trex) (tracks : List TrackHead) (k : ℕ) (plain : PlainTracks) (h : TrackHead) (lt : k < length tracks) (is : h ≡ slice_index_or tracks k h)
    (left : TablesLeft L tracks k plain.room) where
  -- the tests of the next one and of those behind it
  split : (file : List ℕ) (e : length file ≡ L) (trees : List TrackTree) (a : AreTracksOf trees tracks)
      → (b : IsBeside IsTrackOf trees k (slice_index_or tracks k h)) → first_failed (tables_tests file max_samples trees) ≡ first_failed (table_tests plain.room (surroundings file b.x) b.x.table ++ tables_tests file (plain.room - count_of b.x) (drop (suc k) trees))
  split file e trees a b = left file e trees a ∙ ap (λ (ts : List TrackTree). first_failed (tables_tests file plain.room ts)) b.rest

  -- it was checked
  pub tables_next : (new : PlainTracks)
      → ((trees : List TrackTree) → AreTracksOf trees tracks → HaveTables L moov trexes (take k trees) plain)
      → ((t : TrackTree) (trees : List TrackTree) → IsTrackOf t h → HaveTables L moov trexes trees plain → HaveTables L moov trexes (trees ++ t ∷ []) new)
      → ((file : List ℕ) → length file ≡ L → (t : TrackTree) → IsTrackOf t h → first_failed (table_tests plain.room (surroundings file t) t.table) ≡ None)
      → TablesLeft L tracks (k + 1) new.room
  tables_next new so more none file e trees a =
      let b = beside IsTrackOf trees tracks k h a lt in
      let own : IsTrackOf b.x h = subst (IsTrackOf b.x) (sym is) b.goes in
      let room = less_room L moov trexes (take k trees) b.x plain new (so trees a) (more b.x (take k trees) own (so trees a)) in
      let on : suc k ≡ k + 1 = omega arith in
      split file e trees a b
      ∙ behind_all (table_tests plain.room (surroundings file b.x) b.x.table) (tables_tests file (plain.room - count_of b.x) (drop (suc k) trees)) _ (none file e b.x own) refl
      ∙ ap (λ (room : ℕ). first_failed (tables_tests file room (drop (suc k) trees))) room
      ∙ ap (λ (n : ℕ). first_failed (tables_tests file new.room (drop n trees))) on

  -- it has a fault
  pub tables_refused : (r : Refusal)
      → ((file : List ℕ) → length file ≡ L → (t : TrackTree) → IsTrackOf t h → RefusedFirst (λ o. first_failed (table_tests plain.room (surroundings file t) t.table) ≡ o) r)
      → (file : List ℕ) → length file ≡ L → (trees : List TrackTree) → AreTracksOf trees tracks → RefusedFirst (λ o. first_failed (tables_tests file max_samples trees) ≡ o) r
  tables_refused (refusals.Fault f) fails file e trees a =
      let b = beside IsTrackOf trees tracks k h a lt in
      split file e trees a b
      ∙ fails_first (table_tests plain.room (surroundings file b.x) b.x.table) (tables_tests file (plain.room - count_of b.x) (drop (suc k) trees)) f (fails file e b.x (subst (IsTrackOf b.x) (sym is) b.goes))
  tables_refused refusals.Memory fails file e trees a = tt
  tables_refused refusals.StoreFailed fails file e trees a = tt
  tables_refused refusals.StoreChanged fails file e trees a = tt
  tables_refused refusals.WriteFailed fails file e trees a = tt
  tables_refused refusals.NoSuchTrack fails file e trees a = tt

-- all were checked
pub tables_fine : (L : ℕ) (tracks : List TrackHead) (k room : ℕ) → length tracks ≤ k → TablesLeft L tracks k room
    → (file : List ℕ) → length file ≡ L → (trees : List TrackTree) → AreTracksOf trees tracks → first_failed (tables_tests file max_samples trees) ≡ None
tables_fine L tracks k room le left file e trees a =
    let n = length_zip IsTrackOf trees tracks a in
    left file e trees a ∙ ap (λ (ts : List TrackTree). first_failed (tables_tests file room ts)) (drop_all k trees (omega (arith, n, le)))
