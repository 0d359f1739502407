-- A walk that begins: the samples of the tables are in hand, and those of all its `traf`s come behind them.
use Rattle.std.proofs.Common.{◌≡◌, ℕ, ◌+◌, ◌-◌, ◌^◌, min, length-append, List, [], ◌∷◌, ◌++◌, Option, Some, None, length, drop, map, refl, sym, ap, subst, ◌∙◌, arith, slice_get}
use Rattle.std.specs.Prelude.{flat_map, ℤ}
use Rattle.std.specs.List.{AllByRecursion}
use Rattle.std.proofs.lemmas.List.{length-map}
use Rattle.mp4_tables.specs.format.Groups.{GroupKey, Grouping}
use Rattle.mp4_tables.specs.format.PlainSamples.{PlacedSample, Spot, joined}
use Rattle.mp4_tables.specs.format.Tables.{tables_of}
use Rattle.mp4_tables.specs.words.Timed.{timed, samples_of}
use Rattle.mp4_tables.specs.words.Accepted.{tables_at}
use Rattle.mp4_tables.proofs.SampleLists.{timed_length}
use Rattle.mp4_tables.specs.words.TablesSeen.{TablesSeen, CursorSeen, samples_from}
use Rattle.mp4_tables.specs.words.TablesSeen as views
use Rattle.mp4_frag.specs.format.Fragments.{IsFragmentTree}
use Rattle.mp4_frag.specs.words.OwnTrafs.{placed_samples}
use Rattle.mp4_frag.specs.format.FragmentSamples.{Part, start_of, duration_of, fragment_samples}
use Rattle.mp4_frag.specs.words.Judged.{TrackSeen, track_seen}
use Rattle.mp4_frag.specs.declared.state.TrackState.{TrackState}
use Rattle.mp4_frag.proofs.RunsTied.{timed-append}
use Rattle.mp4_head.specs.format.Tree.{TrackTree, track_head_of, trexes_of}
use Rattle.mp4_present.specs.format.Denotes.{FileTree, plain_of, plain_keys, file_parts, parts_of_track, placed_of, sample_of}
use Rattle.mp4_present.specs.words.OpenedMovie.{IsOpenedAs, IsInfoOf, AreTablesOf, plain_seen}
use Rattle.mp4_present.specs.words.Movies.{MovieSeen, own_room, table_bytes, tables_seen}
use Rattle.mp4_present.specs.words.Passing.{parts_behind}
use Rattle.mp4_present.specs.words.SamplesComing.{track_keys, track_samples, count_behind, due_behind, samples_behind, own_trafs, StandsBefore, HoldsLast}
use Rattle.mp4_present.specs.declared.track_info.TrackInfo.{TrackInfo}
use Rattle.mp4_present.specs.declared.movie.TrackTables.{TrackTables}
use Rattle.mp4_present.specs.declared.walking.Due.{Due}
use Rattle.mp4_present.specs.declared.walking.Walk.{Walk}
use Rattle.mp4_present.proofs.OwnPlaced.{all_placed}
use Rattle.mp4_present.proofs.KeysExtended.{HaveNone, grouped_within, timed_with}
use Rattle.mp4_present.proofs.TrafTaken.{seen_at, tables_in_time}
use Rattle.mp4_present.proofs.WalkRooms.{room_opened}
use Rattle.mp4_boxes.proofs.Plain.{get_zip}

-- ---- the samples of the tables

joined_none : (ds : List ℕ) (os : List ℤ) (fs : List ℕ) (ss : List Spot) → HaveNone (joined ds os fs ss)
joined_none [] os fs ss = tt
joined_none (d ∷ ds) [] fs ss = tt
joined_none (d ∷ ds) (o ∷ os) [] ss = tt
joined_none (d ∷ ds) (o ∷ os) (f ∷ fs) [] = tt
joined_none (d ∷ ds) (o ∷ os) (f ∷ fs) (s ∷ ss) = (refl, joined_none ds os fs ss)

from_start : (keys : List GroupKey) (ss : List PlacedSample) (parts : List Part) → timed keys 0 0 ss ≡ timed keys 0 (start_of ss parts) ss
from_start keys [] parts = refl
from_start keys (s ∷ ss) parts = refl

-- those of the tables are the first of the track's
pub plain_first : (tree : FileTree) (t : TrackTree) → AllByRecursion IsFragmentTree tree.fragments → samples_of (tables_of t.table) ++ samples_behind tree t [] (own_trafs tree t) ≡ track_samples tree t
unfolding samples_of
plain_first tree t trees =
    ap (λ ss. samples_of (tables_of t.table) ++ timed keys (length plain + 0) (start + duration_of plain + 0) ss) (all_placed tree.movie (track_head_of t).id tree.fragments trees)
    ∙ ap (λ ss. ss ++ timed keys (length plain + 0) (start + duration_of plain + 0) more) first ∙ (λ i. timed keys 0 start plain ++ timed keys (from_none (length plain) i) (no_more (start + duration_of plain) i) more) ∙ sym (timed-append keys 0 start plain more)
  where
    keys : List GroupKey
    keys = track_keys tree t

    plain : List PlacedSample
    plain = plain_of t

    start : ℕ
    start = start_of (plain_of t) (parts_of_track (file_parts tree) t)

    more : List PlacedSample
    more = fragment_samples (track_head_of t).id (parts_behind tree.movie tree.fragments)

    no_more : (n : ℕ) → n + 0 ≡ n
    no_more n = omega arith

    from_none : (n : ℕ) → n + 0 ≡ 0 + n
    from_none n = omega arith

    first : timed (plain_keys t) 0 0 (plain_of t) ≡ timed (track_keys tree t) 0 (start_of (plain_of t) (parts_of_track (file_parts tree) t)) (plain_of t)
    first =
        sym (timed_with (plain_keys t) (map (λ (g : Grouping). g.key) (flat_map (λ (part : Part). part.groups) (parts_of_track (file_parts tree) t))) 0 0 (plain_of t)
        (grouped_within (length (tables_of t.table).sizes) (tables_of t.table).groups _ (joined_none _ _ _ _)))
        ∙ from_start (track_keys tree t) (plain_of t) (parts_of_track (file_parts tree) t)

-- what is in hand before the first sample of the tables
pub tables_in_hand : (file : List ℕ) (m : MovieSeen) (tree : FileTree) (t : TrackTree) (k : ℕ) (found : TrackTables) (c : CursorSeen) → IsOpenedAs file m tree → slice_get tree.movie.tracks k ≡ Some t → slice_get m.tables k ≡ Some found
    → c.tables ≡ tables_seen m.moov found → c.place.number ≡ 0 → samples_from c ≡ samples_of (tables_of t.table)
tables_in_hand file m tree t k found c o at there is none =
    let a = get_zip (AreTablesOf m.moov) tree.movie.tracks m.tables k t found o.tables at there in
    let tables : tables_at (table_bytes m.moov found) found.tables ≡ tables_of t.table = ap (λ bytes. tables_at bytes found.tables) a.bytes ∙ a.says in
    ap (λ n. drop n (samples_of (views.tables_seen c.tables))) none ∙ ap (λ (s : TablesSeen). samples_of (views.tables_seen s)) is ∙ ap samples_of tables

-- ---- what is due behind the tables

module _ (file : List ℕ) (m : MovieSeen) (tree : FileTree) (t : TrackTree) (o : IsOpenedAs file m tree) (k : ℕ) (at : slice_get tree.movie.tracks k ≡ Some t) (info : TrackInfo) (info_at : slice_get m.tracks k ≡ Some info) (state : TrackState)
    (state_at : slice_get m.states k ≡ Some state) where
  info_is : IsInfoOf file tree t info
  info_is = get_zip (IsInfoOf file tree) tree.movie.tracks m.tracks k t info o.tracks at info_at

  state_is : track_seen state ≡ plain_seen (trexes_of tree.movie) t
  state_is = seen_at (plain_seen (trexes_of tree.movie)) m.states tree.movie.tracks k state t o.states state_at at

  -- when the first sample of the fragments is due
  pub due_is : min (info.start + state.time) (2 ^ 64 - 1) ≡ due_behind tree t []
  due_is =
      let start = info_is.start in
      let time = ap (λ (s : TrackSeen). s.time) state_is in
      let ends = tables_in_time file m tree t o k at in
      omega (arith, start, time, ends)

  -- how many there are
  pub left_is : info.samples - state.count ≡ length (samples_behind tree t [] (own_trafs tree t))
  left_is =
      let all = info_is.samples ∙ length-map (placed_of (file_parts tree) t) (sample_of file) ∙ length-append (plain_of t) (fragment_samples (track_head_of t).id (file_parts tree)) in
      let plain = ap (λ (s : TrackSeen). s.count) state_is in
      let own = timed_length (track_keys tree t) (count_behind t []) (due_behind tree t []) (placed_samples (own_trafs tree t)) ∙ ap length (all_placed tree.movie (track_head_of t).id tree.fragments o.is_tree.fragments) in
      omega (arith, all, plain, own)

module _ (file : List ℕ) (m : MovieSeen) (tree : FileTree) (t : TrackTree) (o : IsOpenedAs file m tree) (w : Walk) (at : slice_get tree.movie.tracks w.track ≡ Some t) (bytes : length w.bytes.items ≡ own_room m w.track) (due : w.due ≡ due_behind tree t [])
    (left : w.left ≡ length (samples_behind tree t [] (own_trafs tree t))) (before : w.before ≡ None) (next : w.next ≡ 0) where
  none_held : HoldsLast file tree t [] (own_trafs tree t) w w.before
  none_held = subst (λ (b : Option Due). HoldsLast file tree t [] (own_trafs tree t) w b) (sym before) tt

  -- it stands before the first one
  pub stands_first : StandsBefore file tree t [] (own_trafs tree t) w
  stands_first = record {
    is_track = at;
    split = refl;
    place = next;
    due = due;
    left = left;
    room = bytes ∙ room_opened file m tree t w.track o at;
    held = none_held;
  }
