-- The next `traf` of a walk: its samples are in hand.
use Rattle.std.proofs.Common.{rules, ◌≡◌, ℕ, zero, suc, ◌+◌, ◌-◌, ◌^◌, ◌<◌, ◌≤◌, ◌==◌, min, nat_lt, length-append, true, false, List, [], ◌∷◌, ◌++◌, Option, Some, length, map, refl, sym, ap, subst, ◌∙◌, arith, append_assoc, slice_get, slice_index_or}
use Rattle.std.specs.Prelude.{Contains, IsTrue, flat_map, option_map, unwrap_or}
use Rattle.std.specs.List.{AllByRecursion}
use Rattle.std.proofs.lemmas.Bool.{and_parts, eqb-true}
use Rattle.std.proofs.lemmas.List.{length-map}
use Rattle.std.proofs.lemmas.Option.{slice_get-map}
use Rattle.mp4_boxes.specs.format.Bytes.{sum_of}
use Rattle.mp4_boxes.proofs.Plain.{get_every, get_zip, some_is}
use Rattle.mp4_tables.specs.words.Accepted.{AreDistinct}
use Rattle.mp4_tables.specs.words.Keys.{keys_seen}
use Rattle.mp4_tables.specs.format.Groups.{GroupKey}
use Rattle.mp4_tables.specs.format.PlainSamples.{PlacedSample}
use Rattle.mp4_tables.specs.format.Tables.{tables_of}
use Rattle.mp4_tables.specs.words.Timed.{timed}
use Rattle.mp4_tables.specs.declared.sample.SampleAt.{SampleAt}
use Rattle.mp4_tables.proofs.SampleLists.{timed_length}
use Rattle.mp4_tables.proofs.Sums.{timed_lasts}
use Rattle.mp4_frag.specs.format.Fragments.{FragmentTree}
use Rattle.mp4_frag.specs.format.FragmentSamples.{Part, start_of, duration_of, fragment_samples, has_samples, no_trex, part_samples, trex_for}
use Rattle.mp4_frag.specs.words.Judged.{AreTrexesOf, IsSoundMoof, TrackSeen, track_seen, is_known_among}
use Rattle.mp4_frag.specs.words.OwnTrafs.{PlacedTraf, is_own, own_in, placed_in, placed_samples}
use Rattle.mp4_frag.specs.words.Walks.{samples_in, trex_among}
use Rattle.mp4_frag.specs.declared.next_traf.OwnTraf.{OwnTraf}
use Rattle.mp4_frag.specs.declared.state.TrackState.{TrackState}
use Rattle.mp4_frag.specs.declared.trex.Trex.{Trex}
use Rattle.mp4_frag.proofs.OwnParts.{placed_parts}
use Rattle.mp4_frag.proofs.RunsTied.{duration-append}
use Rattle.mp4_frag.proofs.TrafsTied.{some_known, trex_found}
use Rattle.mp4_head.specs.format.Tree.{TrackTree, track_head_of, trexes_of}
use Rattle.mp4_present.specs.format.Presentation.{IsInTime, Track, total_duration, max_samples, max_time}
use Rattle.mp4_present.specs.format.Denotes.{FileTree, plain_of, file_parts, first_due, parts_of_track, placed_of, sample_of, track_of, presentation_of}
use Rattle.mp4_present.specs.words.OpenedMovie.{IsOpenedAs, IsInfoOf, plain_seen}
use Rattle.mp4_present.specs.words.Movies.{MovieSeen, all_in_traf, traf_bytes, trex_at, trex_in}
use Rattle.mp4_present.specs.words.GoingBack.{StandsBehind}
use Rattle.mp4_present.specs.words.SamplesComing.{track_keys, count_behind, due_behind, samples_behind, own_trafs, StandsBefore, HoldsNext, HoldsLast}
use Rattle.mp4_present.specs.declared.track_info.TrackInfo.{TrackInfo}
use Rattle.mp4_present.specs.declared.walking.Due.{Due}
use Rattle.mp4_present.specs.declared.walking.Walk.{Walk}
use Rattle.mp4_present.proofs.HeldAgain.{HoldSame, holds_as}
use Rattle.mp4_present.proofs.KeysExtended.{distinct_keys}
use Rattle.mp4_present.proofs.MoofSound.{moof_sound}
use Rattle.mp4_present.proofs.OwnPlaced.{StandsIn, all_placed, contains_in, its_moof, its_tree, of_part, one_placed, passed, placed_append}
use Rattle.mp4_present.proofs.TrafInHand.{behind_split, due_more}
use Rattle.mp4_present.proofs.Assembled.{total_is}

-- ---- a track at its place

-- what is known of the track at a place
pub seen_at : {A : Type 0} (f : A → TrackSeen) (states : List TrackState) (tracks : List A) (k : ℕ) (s : TrackState) (t : A) → map track_seen states ≡ map f tracks → slice_get states k ≡ Some s → slice_get tracks k ≡ Some t → track_seen s ≡ f t
seen_at f states tracks k s t e a b =
    some_is (track_seen s) (f t) (sym (slice_get-map track_seen states k ∙ ap (option_map track_seen) a) ∙ ap (λ xs. slice_get xs k) e ∙ slice_get-map f tracks k ∙ ap (option_map f) b)

-- one of some numbers is no more than all of them together
one_of_sum : {A : Type 0} (f : A → ℕ) (xs : List A) (k : ℕ) (x : A) → slice_get xs k ≡ Some x → f x ≤ sum_of f xs
one_of_sum f [] k x e = absurd (cc)
one_of_sum f (y ∷ xs) zero x e = let same = ap f (some_is y x e) in omega (arith, same)
one_of_sum f (y ∷ xs) (suc k) x e = let more = one_of_sum f xs k x e in omega (arith, more)

-- ---- times

module _ (file : List ℕ) (m : MovieSeen) (tree : FileTree) (t : TrackTree) (earlier : List PlacedTraf) (next : PlacedTraf) (later : List PlacedTraf) (o : IsOpenedAs file m tree) (k : ℕ) (at : slice_get tree.movie.tracks k ≡ Some t)
    (split : own_trafs tree t ≡ earlier ++ next ∷ later) where
  abbrev pub id : ℕ
  id = (track_head_of t).id

  sums : (start plain before one after all : ℕ) → start + (plain + (before + (one + after))) ≤ all → start + plain + before + one ≤ all
  sums start plain before one after all h = omega arith

  -- the samples end in time
  pub in_time : due_behind tree t earlier + duration_of (placed_samples (next ∷ [])) ≤ max_time
  in_time =
      let ends = (get_every (λ track. IsInTime (presentation_of file tree).movie.timescale track) (presentation_of file tree).tracks k (track_of file (file_parts tree) t)
      (slice_get-map (track_of file (file_parts tree)) tree.movie.tracks k ∙ ap (option_map (track_of file (file_parts tree))) at) o.limits.times).0 in
      let all : fragment_samples id (file_parts tree) ≡ placed_samples earlier ++ (placed_samples (next ∷ []) ++ placed_samples later) =
      sym (all_placed tree.movie id tree.fragments o.is_tree.fragments) ∙ ap placed_samples split ∙ placed_append earlier (next ∷ later) ∙ ap (λ ss. placed_samples earlier ++ ss) (placed_append (next ∷ []) later) in
      let total : total_duration (map (sample_of file) (placed_of (file_parts tree) t)) ≡ duration_of (plain_of t) + (duration_of (placed_samples earlier) + (duration_of (placed_samples (next ∷ [])) + duration_of (placed_samples later))) =
      total_is file (placed_of (file_parts tree) t) ∙ ap (λ ss. duration_of (plain_of t ++ ss)) all ∙ duration-append (plain_of t) (placed_samples earlier ++ (placed_samples (next ∷ []) ++ placed_samples later))
      ∙ ap (λ n. duration_of (plain_of t) + n) (duration-append (placed_samples earlier) (placed_samples (next ∷ []) ++ placed_samples later) ∙ ap (λ n. duration_of (placed_samples earlier) + n) (duration-append (placed_samples (next ∷ [])) (placed_samples later))) in
      sums (start_of (plain_of t) (parts_of_track (file_parts tree) t)) _ _ _ _ max_time (subst (λ n. start_of (plain_of t) (parts_of_track (file_parts tree) t) + n ≤ max_time) total ends)

module _ (file : List ℕ) (m : MovieSeen) (tree : FileTree) (t : TrackTree) (o : IsOpenedAs file m tree) (k : ℕ) (at : slice_get tree.movie.tracks k ≡ Some t) where
  -- the samples of the tables end in time
  pub tables_in_time : first_due (file_parts tree) t ≤ max_time
  tables_in_time =
      let ends = (get_every (λ track. IsInTime (presentation_of file tree).movie.timescale track) (presentation_of file tree).tracks k (track_of file (file_parts tree) t)
      (slice_get-map (track_of file (file_parts tree)) tree.movie.tracks k ∙ ap (option_map (track_of file (file_parts tree))) at) o.limits.times).0 in
      let total = total_is file (placed_of (file_parts tree) t) ∙ duration-append (plain_of t) (fragment_samples (track_head_of t).id (file_parts tree)) in
      omega (arith, ends, total)

-- an element as it was read
pub at_place : {A : Type 0} (xs : List A) (k : ℕ) (x : A) → k < length xs → x ≡ slice_index_or xs k x → slice_get xs k ≡ Some x
at_place [] k x lt e = absurd (omega (arith, lt))
at_place (y ∷ xs) zero x lt e = ap (λ z. Some z) (sym e)
at_place (y ∷ xs) (suc k) x lt e = at_place xs k x (omega (arith, lt)) e

-- ---- the next `traf`

-- what the fragments of a track inherit is kept with its state
state_there : (f : TrackState → TrackSeen) (states : List TrackState) (k : ℕ) (x : TrackSeen) → slice_get (map f states) k ≡ Some x → (s : TrackState) × (slice_get states k ≡ Some s) × (f s ≡ x)
state_there f [] k x e = absurd (cc)
state_there f (s ∷ states) zero x e = (s, refl, some_is (f s) x e)
state_there f (s ∷ states) (suc k) x e = state_there f states k x e

module _ (file : List ℕ) (m : MovieSeen) (tree : FileTree) (t : TrackTree) (earlier : List PlacedTraf) (next : PlacedTraf) (later : List PlacedTraf) (o : IsOpenedAs file m tree) (split : own_trafs tree t ≡ earlier ++ next ∷ later) where
  abbrev pub trexes : List Trex
  trexes = trexes_of tree.movie

  abbrev pub own_id : ℕ
  own_id = (track_head_of t).id

  abbrev pub moof : FragmentTree
  moof = (its_moof file m tree t earlier next later o split).x

  own : StandsIn next (own_in trexes own_id moof)
  own = (its_moof file m tree t earlier next later o split).own

  own_passed : (is_own own_id next ≡ true) × StandsIn next (placed_in trexes moof)
  own_passed = passed (is_own own_id) (placed_in trexes moof) next own

  -- it has samples of the track
  pub next_id : next.part.id ≡ own_id
  next_id = eqb-true next.part.id own_id ((and_parts (next.part.id == own_id) (has_samples next.part) own_passed.0).0)

  pub next_has : has_samples next.part ≡ true
  next_has = (and_parts (next.part.id == own_id) (has_samples next.part) own_passed.0).1

  sound : m.file_len < 2 ^ 64 → IsSoundMoof m.file_len trexes o.hands_out.known moof
  sound short = let i = (its_moof file m tree t earlier next later o split).among in moof_sound file m tree i.front moof i.back o i.are short

  next_known : m.file_len < 2 ^ 64 → IsTrue (is_known_among o.hands_out.known next.part)
  next_known short =
      of_part (λ (p : PlacedTraf). p.part) (λ (part : Part). IsTrue (is_known_among o.hands_out.known part)) (placed_in trexes moof) next own_passed.1
      (subst (AllByRecursion (λ (part : Part). IsTrue (is_known_among o.hands_out.known part))) (sym (placed_parts trexes moof (its_tree file m tree t earlier next later o split))) (sound short).known)

  -- the defaults that are kept are its own
  pub trex_there : (k : ℕ) → slice_get tree.movie.tracks k ≡ Some t → m.file_len < 2 ^ 64 → trex_for trexes own_id ≡ Some (trex_at m k)
  trex_there k at short =
      let s = state_there track_seen m.states k (plain_seen trexes t) (ap (λ xs. slice_get xs k) o.states ∙ slice_get-map (plain_seen trexes) tree.movie.tracks k ∙ ap (option_map (plain_seen trexes)) at) in
      let known = some_known (trex_among o.hands_out.known next.part.id) (next_known short) in
      let found = trex_found trexes o.hands_out.known next.part.id known.0 o.hands_out.defaults known.1 in
      let there : trex_for trexes own_id ≡ Some known.0 = ap (trex_for trexes) (sym next_id) ∙ found in
      let kept : s.0.trex ≡ Some known.0 = ap (λ (x : TrackSeen). x.trex) s.2 ∙ there in
      there ∙ ap (λ v. Some v) (sym (ap trex_in s.1 ∙ ap (λ v. unwrap_or v no_trex) kept))

module _ (file : List ℕ) (m : MovieSeen) (tree : FileTree) (t : TrackTree) (earlier : List PlacedTraf) (next : PlacedTraf) (later : List PlacedTraf) (w : Walk) (o : IsOpenedAs file m tree) (h : HoldsNext file tree t earlier next later w) where
  abbrev mine : List PlacedSample
  mine = placed_samples (next ∷ [])

  -- its samples, and those of the `traf`s behind it
  both : length (samples_behind tree t earlier (next ∷ later)) ≡ length (samples_behind tree t earlier (next ∷ [])) + length (samples_behind tree t (earlier ++ next ∷ []) later)
  both = ap (λ (ss : List SampleAt). length ss) (behind_split tree t earlier next later) ∙ length-append (samples_behind tree t earlier (next ∷ [])) (samples_behind tree t (earlier ++ next ∷ []) later)

  -- no more than are left
  pub few : length (samples_behind tree t earlier (next ∷ [])) ≤ w.left
  few = let left = h.left in let all = both in omega (arith, left, all)

  lasts : sum_of (λ (s : SampleAt). s.duration) (samples_behind tree t earlier (next ∷ [])) ≡ duration_of mine
  lasts = timed_lasts (track_keys tree t) (count_behind t earlier) (due_behind tree t earlier) mine

  -- a walk that has taken it stands behind it
  pub stands_again : (now : Walk) → now.track ≡ w.track → now.next ≡ w.next → length now.bytes.items ≡ length w.bytes.items → StandsBehind tree t earlier next later now.due now.left → HoldSame w now → now.before ≡ Some (record { time = w.due; left = w.left })
      → StandsBefore file tree t (earlier ++ next ∷ []) later now
  stands_again now track at bytes behind same last =
      let place = h.place in
      let long = length-append earlier (next ∷ []) in
      record {
        is_track = subst (λ (k : ℕ). slice_get tree.movie.tracks k ≡ Some t) (sym track) h.is_track;
        split = h.split ∙ sym (append_assoc earlier (next ∷ []) later);
        place = omega (arith, long, place, at);
        due = behind.due;
        left = behind.left;
        room = bytes ∙ h.room;
        held = subst (λ (b : Option Due). HoldsLast file tree t (earlier ++ next ∷ []) later now b) (sym last)
            (earlier, next, refl, holds_as file tree t w (record now { due = w.due; left = w.left }) (record { track = same.track; next = same.next; traf = same.traf; room = same.room; bytes = same.bytes }) earlier next later refl refl h);
      }

  -- the walk stands behind it
  pub stands_behind : (now : Walk) → now.track ≡ w.track → now.next ≡ w.next → length now.bytes.items ≡ length w.bytes.items
      → now.due ≡ min (w.due + min (sum_of (λ (s : SampleAt). s.duration) (samples_behind tree t earlier (next ∷ []))) (2 ^ 64 - 1)) (2 ^ 64 - 1)
      → now.left ≡ w.left - length (samples_behind tree t earlier (next ∷ [])) → HoldSame w now → now.before ≡ Some (record { time = w.due; left = w.left }) → StandsBefore file tree t (earlier ++ next ∷ []) later now
  stands_behind now track at bytes due left same last =
      let ends = in_time file m tree t earlier next later o w.track h.is_track h.split in
      let behind = due_more tree t earlier next in
      let before = h.due in
      let lasting = lasts in
      let all = both in
      let had = h.left in
      stands_again now track at bytes (record { due = due_is _ _ _ _ _ (due_behind tree t earlier) due before lasting behind ends; left = omega (arith, left, all, had) }) same last
    where
      due_is : (now was sum own next due : ℕ) → now ≡ min (was + min sum (2 ^ 64 - 1)) (2 ^ 64 - 1) → was ≡ due → sum ≡ own → next ≡ due + own → due + own ≤ max_time → now ≡ next
      due_is now was sum own next due a b c d e = omega arith

  module _ (info : TrackInfo) (info_at : slice_get m.tracks w.track ≡ Some info) where
    info_is : IsInfoOf file tree t info
    info_is = get_zip (IsInfoOf file tree) tree.movie.tracks m.tracks w.track t info o.tracks h.is_track info_at

    ends_small : w.due + duration_of (part_samples next.part) < 2 ^ 64
    ends_small =
        let due = h.due in
        let ends = in_time file m tree t earlier next later o w.track h.is_track h.split in
        let one = ap duration_of (one_placed next) in
        omega (arith, due, ends, one)

    -- those left are behind those before it
    count_all : info.samples ≡ count_behind t earlier + w.left
    count_all =
        let samples = info_is.samples ∙ length-map (placed_of (file_parts tree) t) (sample_of file) ∙ length-append (plain_of t) (fragment_samples (track_head_of t).id (file_parts tree)) in
        let own = ap length (sym (all_placed tree.movie (track_head_of t).id tree.fragments o.is_tree.fragments) ∙ ap placed_samples h.split ∙ placed_append earlier (next ∷ later)) ∙ length-append (placed_samples earlier) (placed_samples (next ∷ later)) in
        let left = h.left ∙ timed_length (track_keys tree t) (count_behind t earlier) (due_behind tree t earlier) (placed_samples (next ∷ later)) in
        omega (arith, samples, own, left)

    -- 32 bits hold their numbers
    few_samples : info.samples ≤ max_samples
    few_samples =
        let p = presentation_of file tree in
        let most = o.limits.samples in
        let one = one_of_sum (λ (u : Track). length u.samples) p.tracks w.track (track_of file (file_parts tree) t) (slice_get-map (track_of file (file_parts tree)) tree.movie.tracks w.track ∙ ap (option_map (track_of file (file_parts tree))) h.is_track) in
        let is = info_is.samples in
        omega (arith, most, one, is)

    numbers_small : count_behind t earlier + length (part_samples next.part) < 2 ^ 32
    numbers_small =
        let small = few_samples in
        let all = count_all in
        let least = few in
        let long = timed_length (track_keys tree t) (count_behind t earlier) (due_behind tree t earlier) mine in
        let one = ap length (one_placed next) in
        omega (arith, small, all, least, long, one)

    number_is : (number : ℕ) → number ≡ info.samples - w.left → number ≡ count_behind t earlier
    number_is number e = let all = count_all in omega (arith, e, all)

    -- the samples that the cursor hands out are those that are due
    pub taken : m.file_len < 2 ^ 64 → (number : ℕ) → number ≡ info.samples - w.left → (bytes : List ℕ) → bytes ≡ traf_bytes w → (trex : Trex) → trex ≡ trex_at m w.track → (coming : List SampleAt)
        → ((L : ℕ) (ts : List Trex) (states : List TrackState) (f : FragmentTree) (p : PlacedTraf) → Contains (own_in ts info.id f) p → p.traf.payload ≡ bytes → p.base ≡ w.traf.base
        → IsSoundMoof L ts states f → AreTrexesOf ts states → trex_for ts info.id ≡ Some trex → AreDistinct (keys_seen info.keys) → number + length (part_samples p.part) < 2 ^ 32 → w.due + duration_of (part_samples p.part) < 2 ^ 64
        → coming ≡ timed (keys_seen info.keys) number w.due (part_samples p.part))
        → coming ≡ samples_behind tree t earlier (next ∷ [])
    taken short number count bytes seen trex is coming by =
        let trexes = trexes_of tree.movie in
        let i = its_moof file m tree t earlier next later o h.split in
        let distinct : AreDistinct (keys_seen info.keys) = subst AreDistinct (sym info_is.keys) (distinct_keys (tables_of t.table).groups (flat_map (λ (part : Part). part.groups) (parts_of_track (file_parts tree) t))) in
        let among : Contains (own_in trexes info.id i.x) next = subst (λ n. Contains (own_in trexes n i.x) next) (sym info_is.id) (contains_in (own_in trexes (track_head_of t).id i.x) next i.own) in
        let defaults : trex_for trexes info.id ≡ Some trex = ap (trex_for trexes) info_is.id ∙ trex_there file m tree t earlier next later o h.split w.track h.is_track short ∙ ap (λ v. Some v) (sym is) in
        by m.file_len trexes o.hands_out.known i.x next among (sym h.bytes ∙ sym seen) (ap (λ (n : OwnTraf). n.base) (sym h.traf))
        (moof_sound file m tree i.among.front i.x i.among.back o i.among.are short) o.hands_out.defaults defaults distinct (subst (λ n. n + length (part_samples next.part) < 2 ^ 32) (sym (number_is number count)) numbers_small) ends_small
        ∙ ap (λ ss. timed (keys_seen info.keys) number w.due ss) (sym (one_placed next)) ∙ ap (λ ks. timed ks number w.due mine) info_is.keys ∙ (λ i. timed (track_keys tree t) (number_is number count i) (h.due i) mine)

  -- it has some
  pub gives_some : samples_behind tree t earlier (next ∷ []) ≡ [] → ⊥
  gives_some none = some (part_samples next.part) (next_has file m tree t earlier next later o h.split) (nothing_timed (track_keys tree t) (count_behind t earlier) (due_behind tree t earlier) mine none) (one_placed next)
    where
      nothing_timed : (keys : List GroupKey) (k n : ℕ) (ss : List PlacedSample) → timed keys k n ss ≡ [] → ss ≡ []
      nothing_timed keys k n [] e = refl
      nothing_timed keys k n (s ∷ ss) e = absurd cc

      some : (ss : List PlacedSample) → nat_lt 0 (length ss) ≡ true → mine ≡ [] → mine ≡ ss → ⊥
      some [] e none same = absurd cc
      some (s ∷ ss) e none same = absurd (cc_list (sym same ∙ none))
        where
          cc_list : ◌≡◌ {A = List PlacedSample} (s ∷ ss) [] → ⊥
          cc_list e = cc

-- ---- what is in hand then

-- nothing, where none is counted
pub none_left : (xs : List SampleAt) (n : ℕ) → n ≡ length xs → nat_lt 0 n ≡ false → xs ≡ []
none_left [] n e h = refl
none_left (x ∷ xs) n e h = let lt : 0 < n = omega (arith, e) in absurd (search rules)

pub some_counted : (n k : ℕ) → nat_lt 0 n ≡ true → n ≡ k → 0 < k
some_counted n k some e = let lt : 0 < n = search rules in omega (arith, lt, e)

-- ---- all that is in hand

-- from its beginning on it has all samples of the `traf`
pub all_taken : (m : MovieSeen) (w : Walk) (k number : ℕ) (before : Due) (found info : TrackInfo) (bytes : List ℕ) (trex : Trex) (coming : List SampleAt) → slice_get m.tracks k ≡ Some found → slice_get m.tracks k ≡ Some info → bytes ≡ traf_bytes w → trex ≡ trex_at m w.track
    → number ≡ found.samples - before.left → coming ≡ samples_in bytes w.traf.base found.id trex number before.time (keys_seen found.keys) → coming ≡ all_in_traf m w info before
all_taken m w k number before found info bytes trex coming at there is same count e =
    let one : found ≡ info = some_is found info (sym at ∙ there) in
    e ∙ (λ i. samples_in (is i) w.traf.base found.id trex (count i) before.time (keys_seen found.keys)) ∙ (λ i. samples_in (traf_bytes w) w.traf.base (one i).id (same i) ((one i).samples - before.left) before.time (keys_seen (one i).keys))

pub counted_left : (left few now many : ℕ) → now ≡ left - few → few ≤ left → few ≡ many → left ≡ many + now
counted_left left few now many e f h = omega (arith, e, f, h)
