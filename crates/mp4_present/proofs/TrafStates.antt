-- The first fault of a `traf` behind what came before it, by the states of the tracks and by the parts before it.
use Rattle.std.proofs.Common.{◌≡◌, ℕ, suc, ◌+◌, ◌-◌, ◌==◌, ◌&&◌, Bool, true, false, List, [], ◌∷◌, ◌++◌, Option, Some, None, length, map, refl, sym, ap, ◌∙◌, arith, append_assoc, length-append}
use Rattle.std.specs.Prelude.{ℤ, pos, codes, not, nat_lt, unwrap_or, option_map, slice_get, find, is_some}
use Rattle.std.proofs.lemmas.List.{map-append}
use Rattle.mp4_boxes.specs.format.Box.{Box}
use Rattle.mp4_boxes.specs.format.BoxFaults.{fault_of}
use Rattle.mp4_boxes.specs.format.Children.{of_kind, count_among}
use Rattle.mp4_boxes.specs.format.Layout.{tfhd, tfdt}
use Rattle.mp4_boxes.specs.format.FirstFault.{Test, first_failed, naming, leaf_tests}
use Rattle.mp4_boxes.specs.declared.fault.Fault.{Fault}
use Rattle.mp4_boxes.specs.declared.fault.Kind.{Kind}
use Rattle.mp4_boxes.specs.declared.fault.Kind.TheVariants.{UnknownTrack, BadDescriptionIndex, Gap}
use Rattle.mp4_boxes.proofs.Refusing.{holds_only}
use Rattle.mp4_boxes.proofs.Plain.{and_false, get_last, length_mapped}
use Rattle.mp4_tables.specs.format.FirstFault.{first_box_tests}
use Rattle.mp4_tables.specs.words.Keys.{keys_seen}
use Rattle.mp4_frag.specs.format.Fragments.{FragmentTree, TrackFragment, track_fragment_of}
use Rattle.mp4_frag.specs.format.FragmentSamples.{Part, part_samples, parts_for, parts_after, trex_for, no_trex, base_of, keys_behind, has_samples}
use Rattle.mp4_frag.specs.format.FragmentRules.{TrackFacts, track_for, is_known, has_indexes}
use Rattle.mp4_frag.specs.words.Finding.{track_with}
use Rattle.mp4_frag.specs.words.GroupsJudged.{groups_in}
use Rattle.mp4_frag.specs.words.Judged.{TrackSeen, track_seen, part_with, IsMovedOn}
use Rattle.mp4_frag.specs.words.Passing.{is_late_at}
use Rattle.mp4_frag.specs.words.Reading.{inheritance}
use Rattle.mp4_frag.specs.words.RunsJudged.{children_of, runs_in, runs_total}
use Rattle.mp4_frag.specs.words.TrafFaults.{traf_in, HoldsBoxes}
use Rattle.mp4_frag.specs.words.FragmentTests.{traf_groups_tests}
use Rattle.mp4_frag.specs.words.TrafTests.{for_only, late_tests, known_tests, track_tests}
use Rattle.mp4_frag.specs.words.TrafTests as by_states
use Rattle.mp4_frag.specs.declared.state.TrackState.{TrackState}
use Rattle.mp4_frag.specs.declared.trex.Trex.{Trex}
use Rattle.mp4_frag.proofs.FirstTraf.{no_track_first, no_trex_first, some_track}
use Rattle.mp4_frag.proofs.HeadsFound.{kept_count}
use Rattle.mp4_frag.proofs.PartReasons.{part_counts}
use Rattle.mp4_frag.proofs.RunsPassed.{judged_by}
use Rattle.mp4_frag.proofs.SeenLists.{find_map}
use Rattle.mp4_head.specs.format.Tree.{TrackTree, MovieTree, first_of, trexes_of}
use Rattle.mp4_present.specs.format.Denotes.{plain_keys, track_infos}
use Rattle.mp4_present.specs.format.Judge.{track_at, is_due_time, named_keys, run_tests, group_boxes_tests, traf_tests, no_part, last_part}
use Rattle.mp4_present.specs.words.Passing.{seen_behind, parts_behind}
use Rattle.mp4_present.proofs.MoofBehind.{IsInside, parts_until, said_by}
use Rattle.mp4_present.proofs.PartsBehind.{IsTracked, tracked, trex_known, part_known, id_of}
use Rattle.mp4_present.proofs.TrafTests.{first_behind, naming-append, only_box, runs_same, groups_same, described, due_same}
use Rattle.mp4_present.proofs.FirstKept.{first_kept}

-- ---- boxes of a type

-- the one box of a type
pub one_there : (kind : List ℕ) (boxes : List Box) → count_among (kind ∷ []) boxes ≡ 1 → (h : Box) × (of_kind kind boxes ≡ h ∷ [])
one_there kind boxes n = by (of_kind kind boxes) refl (kept_count kind boxes ∙ n)
  where
    by : (bs : List Box) → of_kind kind boxes ≡ bs → length bs ≡ 1 → (h : Box) × (of_kind kind boxes ≡ h ∷ [])
    by [] e m = absurd (omega (arith, m))
    by (h ∷ []) e m = (h, e)
    by (h ∷ c ∷ bs) e m = absurd (omega (arith, m))

-- ---- parts

-- as many parts as `traf`s
pub parts_length : (trexes : List Trex) (moof : ℕ) (trafs : List TrackFragment) (before : ℤ) → length (parts_after trexes moof before trafs) ≡ length trafs
parts_length trexes moof [] before = refl
parts_length trexes moof (traf ∷ trafs) before = ap suc (parts_length trexes moof trafs _)

-- one less
one_less : (m n : ℕ) → m ≡ n + 1 → m - 1 ≡ n
one_less m n e = omega arith

-- nothing comes of nothing alone
not_mapped : {A B : Type 0} (f : A → B) (o : Option A) → option_map f o ≡ None → o ≡ None
not_mapped f None e = refl
not_mapped f (Some x) e = absurd cc

-- lists that are joined from the front, and from the end
regroup : {A : Type 0} (h t r d g l : List A) → ((((h ++ t) ++ r) ++ d) ++ g) ++ l ≡ h ++ (t ++ (r ++ (d ++ (g ++ l))))
regroup h t r d g l = simp append_assoc

-- what is tested of a `traf` behind its `tfhd` and its track
abbrev rest_tests : ℕ → MovieTree → List Part → ℕ → Part → Option TrackTree → Box → List Box → List (Test Fault)
rest_tests L movie ps room part track head inside =
    first_box_tests (codes "tfdt" ∷ []) inside (λ d. naming d (leaf_tests tfdt d.payload))
    ++ (run_tests L room part.runs (of_kind (codes "trun") inside)
    ++ (naming head ((has_indexes (track_infos movie) part, BadDescriptionIndex) ∷ [])
    ++ (group_boxes_tests (length (part_samples part)) (named_keys ps part track) part 0 (of_kind (codes "sbgp") inside)
    ++ first_box_tests (codes "tfdt" ∷ []) inside (λ d. naming d ((is_due_time ps part track, Gap) ∷ [])))))

module _ (file : List ℕ) (movie : MovieTree) (earlier : List FragmentTree) (moof : ℕ) (done : List Box) (b : Box) (at : ℤ) (states : List TrackState) (room : ℕ)
    (i : IsInside file movie earlier moof done at states room) where
  -- the parts before it
  abbrev pub parts_before : List Part
  parts_before = parts_until movie earlier moof done

  -- the part of the `traf`, by the `trex` of its track
  abbrev pub its_part : Part
  its_part = part_with moof at (unwrap_or (trex_for (trexes_of movie) (traf_in b).id) no_trex) (traf_in b)

  -- it is the last one of the `moof` so far
  pub last_is : last_part movie moof (map children_of done ++ children_of b ∷ []) ≡ its_part
  last_is =
      let trexes = trexes_of movie in
      let front = parts_after trexes moof (pos moof) (said_by done) in
      let said : map track_fragment_of (map children_of done ++ children_of b ∷ []) ≡ said_by done ++ traf_in b ∷ [] = map-append track_fragment_of (map children_of done) (children_of b ∷ []) in
      let all : parts_after trexes moof (pos moof) (map track_fragment_of (map children_of done ++ children_of b ∷ [])) ≡ front ++ its_part ∷ [] =
      ap (parts_after trexes moof (pos moof)) said ∙ i.split (traf_in b ∷ []) in
      let many = length-append (map children_of done) (children_of b ∷ []) in
      let front_long = parts_length trexes moof (said_by done) (pos moof) ∙ length_mapped track_fragment_of (map children_of done) in
      let place : length (map children_of done ++ children_of b ∷ []) - 1 ≡ length front = one_less _ _ (many ∙ ap (λ (n : ℕ). n + 1) (sym front_long)) in
      (λ j. unwrap_or (slice_get (all j) (place j)) no_part) ∙ ap (λ (o : Option Part). unwrap_or o no_part) (get_last front its_part)

  -- ---- its track is known

  module _ (t : TrackState) (found : track_with (traf_in b).id states ≡ Some t) where
    -- the track is one of the movie, as it is behind the parts before
    its_track : IsTracked movie parts_before (traf_in b).id (track_seen t)
    its_track =
        tracked movie parts_before (traf_in b).id (map track_seen states) (track_seen t) i.passed.tracks (find_map track_seen (λ (s : TrackSeen). s.id == (traf_in b).id) states ∙ ap (option_map track_seen) found)

    module _ (trex : Trex) (defaults : t.trex ≡ Some trex) where
      -- the part by the `trex` of the track
      abbrev part : Part
      part = part_with moof at trex (traf_in b)

      -- it is the part of the `traf`
      part_is : its_part ≡ part
      part_is = ap (λ (o : Option Trex). part_with moof at (unwrap_or o no_trex) (traf_in b)) (trex_known movie parts_before (traf_in b).id (track_seen t) trex its_track defaults)

      -- the track and its `trex` are known
      known : is_known (track_infos movie) (trexes_of movie) its_part ≡ true
      known = part_known movie parts_before its_part (track_seen t) trex its_track defaults

      -- the keys of the track are those that it named before
      keys_are : keys_seen t.keys ≡ named_keys parts_before part (track_at movie (traf_in b).id)
      keys_are =
          sym (ap (λ (x : TrackSeen). x.keys) its_track.seen) ∙ ap (λ (id : ℕ). keys_behind (plain_keys its_track.tree) (parts_for id parts_before)) its_track.same
          ∙ sym (ap (λ (o : Option TrackTree). named_keys parts_before part o) its_track.among)

      -- it has samples where its runs name some
      some : nat_lt 0 (runs_total (runs_in b)) ≡ has_samples part
      some = ap (nat_lt 0) (sym (part_counts moof at trex (children_of b)))

      -- it is late for the track where its time is not the one that is due
      due : not (is_late_at t (traf_in b).decode_time (runs_total (runs_in b))) ≡ is_due_time parts_before part (track_at movie (traf_in b).id)
      due =
          sym (due_same movie parts_before its_track.tree part t its_track.seen its_track.same (runs_total (runs_in b)) some)
          ∙ sym (ap (λ (o : Option TrackTree). is_due_time parts_before part o) its_track.among)

      -- what is tested behind its head
      rest_same : (h : Box) → known_tests (judged_by (length file) (inheritance (traf_in b) trex) (base_of moof at (traf_in b))) room b h t
          ≡ rest_tests (length file) movie parts_before room part (track_at movie (traf_in b).id) h (children_of b)
      rest_same h =
          let base = base_of moof at (traf_in b) in
          let times = sym (only_box (codes "tfdt") (children_of b) (λ d. naming d (leaf_tests tfdt d.payload))) in
          let runs = runs_same (length file) (traf_in b) trex base base room (runs_in b) in
          let indexes = described movie parts_before moof at trex (children_of b) t its_track in
          let n = sym (part_counts moof at trex (children_of b)) in
          let groups : traf_groups_tests (runs_total (runs_in b)) (keys_seen t.keys) [] (groups_in b)
          ≡ group_boxes_tests (length (part_samples part)) (named_keys parts_before part (track_at movie (traf_in b).id)) part 0 (groups_in b) =
          (λ j. traf_groups_tests (n j) (keys_are j) [] (groups_in b)) ∙ groups_same _ _ part [] (groups_in b) refl in
          let late : late_tests t (traf_in b).decode_time (runs_total (runs_in b)) (of_kind (codes "tfdt") (children_of b))
          ≡ first_box_tests (codes "tfdt" ∷ []) (children_of b) (λ d. naming d ((is_due_time parts_before part (track_at movie (traf_in b).id), Gap) ∷ [])) =
          (λ j. for_only (λ d. (due j, fault_of Gap d) ∷ []) (of_kind (codes "tfdt") (children_of b)))
          ∙ sym (only_box (codes "tfdt") (children_of b) (λ d. naming d ((is_due_time parts_before part (track_at movie (traf_in b).id), Gap) ∷ []))) in
          λ j. times j ++ (runs j ++ ((indexes j, fault_of BadDescriptionIndex h) ∷ (groups j ++ late j)))

  -- the part by which tracks moved on
  pub moved_part : (new : List TrackState) (less : ℕ) (m : IsMovedOn moof at (children_of b) states new room less) → its_part ≡ part_with moof at m.trex (traf_in b)
  moved_part new less m = part_is m.track m.found m.trex m.defaults

  -- the parts with it
  pub until_more : parts_until movie earlier moof (done ++ b ∷ []) ≡ parts_before ++ its_part ∷ []
  until_more =
      let front = parts_after (trexes_of movie) moof (pos moof) (said_by done) in
      let said : said_by (done ++ b ∷ []) ≡ said_by done ++ traf_in b ∷ [] = ap (map track_fragment_of) (map-append children_of done (b ∷ [])) ∙ map-append track_fragment_of (map children_of done) (children_of b ∷ []) in
      let all : parts_after (trexes_of movie) moof (pos moof) (said_by (done ++ b ∷ [])) ≡ front ++ its_part ∷ [] = ap (parts_after (trexes_of movie) moof (pos moof)) said ∙ i.split (traf_in b ∷ []) in
      ap (λ (ps : List Part). parts_behind movie earlier ++ ps) all ∙ sym (append_assoc (parts_behind movie earlier) front (its_part ∷ []))

  -- ---- it is not

  -- no track has the ID
  no_track : track_with (traf_in b).id states ≡ None → is_known (track_infos movie) (trexes_of movie) its_part ≡ false
  no_track e =
      let id = (traf_in b).id in
      let info : TrackTree → TrackFacts = (λ u. record { id = id_of u; descriptions = length u.descriptions }) in
      let seen : option_map (seen_behind movie parts_before) (find (λ (u : TrackTree). id_of u == id) movie.tracks) ≡ None =
      sym (find_map (seen_behind movie parts_before) (λ (s : TrackSeen). s.id == id) movie.tracks) ∙ sym (ap (find (λ (s : TrackSeen). s.id == id)) i.passed.tracks) ∙ find_map track_seen (λ (s : TrackSeen). s.id == id) states ∙ ap (option_map track_seen) e in
      let none : track_for (track_infos movie) id ≡ None = find_map info (λ (x : TrackFacts). x.id == id) movie.tracks ∙ ap (option_map info) (not_mapped (seen_behind movie parts_before) (find (λ (u : TrackTree). id_of u == id) movie.tracks) seen) in
      ap (λ o. is_some o && is_some (trex_for (trexes_of movie) id)) none

  -- the track that has it has no `trex`
  no_trex_there : (t : TrackState) → track_with (traf_in b).id states ≡ Some t → t.trex ≡ None → is_known (track_infos movie) (trexes_of movie) its_part ≡ false
  no_trex_there t found none =
      let id = (traf_in b).id in
      let k = its_track t found in
      let no : trex_for (trexes_of movie) id ≡ None = ap (trex_for (trexes_of movie)) (sym k.same) ∙ ap (λ (s : TrackSeen). s.trex) k.seen ∙ none in
      ap (λ o. is_some (track_for (track_infos movie) id) && is_some o) no ∙ and_false (is_some (track_for (track_infos movie) id))

  -- ---- all of it

  -- what is tested of its `tfhd`
  abbrev head_tests : Box → List (Test Fault)
  head_tests h = naming h (leaf_tests tfhd h.payload)

  -- what is tested behind its `tfhd`
  abbrev behind_head : Part → Box → List (Test Fault)
  behind_head part h = (is_known (track_infos movie) (trexes_of movie) part, fault_of UnknownTrack h) ∷ rest_tests (length file) movie parts_before room part (track_at movie part.id) h (children_of b)

  -- the same test fails first behind its `tfhd`
  track_same : (h : Box) → first_failed (track_tests (length file) moof at room b h (track_with (traf_in b).id states)) ≡ first_failed (behind_head its_part h)
  track_same h = by (track_with (traf_in b).id states) refl
    where
      by : (o : Option TrackState) → track_with (traf_in b).id states ≡ o → first_failed (track_tests (length file) moof at room b h (track_with (traf_in b).id states)) ≡ first_failed (behind_head its_part h)
      by None e =
          no_track_first (length file) moof at room b h (track_with (traf_in b).id states) e
          ∙ sym (ap (λ (v : Bool). first_failed ((v, fault_of UnknownTrack h) ∷ rest_tests (length file) movie parts_before room its_part (track_at movie (traf_in b).id) h (children_of b))) (no_track e))
      by (Some t) e = by_trex t.trex refl
        where
          by_trex : (x : Option Trex) → t.trex ≡ x → first_failed (track_tests (length file) moof at room b h (track_with (traf_in b).id states)) ≡ first_failed (behind_head its_part h)
          by_trex None n =
              no_trex_first (length file) moof at room b h (track_with (traf_in b).id states) t e n
              ∙ sym (ap (λ (v : Bool). first_failed ((v, fault_of UnknownTrack h) ∷ rest_tests (length file) movie parts_before room its_part (track_at movie (traf_in b).id) h (children_of b))) (no_trex_there t e n))
          by_trex (Some trex) n =
              some_track (length file) moof at room b h (track_with (traf_in b).id states) t trex e n
              ∙ ap first_failed (rest_same t e trex n h)
              ∙ sym (ap (λ (p : Part). first_failed (rest_tests (length file) movie parts_before room p (track_at movie (traf_in b).id) h (children_of b))) (part_is t e trex n))
              ∙ sym (ap (λ (v : Bool). first_failed ((v, fault_of UnknownTrack h) ∷ rest_tests (length file) movie parts_before room its_part (track_at movie (traf_in b).id) h (children_of b))) (known t e trex n))

  -- the tests by the parts, with its head apart
  by_parts_is : (p : Part) → traf_tests (length file) movie (record { parts = parts_before; room = room }) p (children_of b)
      ≡ naming (first_of (codes "tfhd") (children_of b)) (leaf_tests tfhd (first_of (codes "tfhd") (children_of b)).payload ++ (is_known (track_infos movie) (trexes_of movie) p, UnknownTrack) ∷ [])
      ++ rest_tests (length file) movie parts_before room p (track_at movie p.id) (first_of (codes "tfhd") (children_of b)) (children_of b)
  by_parts_is p =
      let inside = children_of b in
      let head = first_of (codes "tfhd") inside in
      let track = track_at movie p.id in
      regroup (naming head (leaf_tests tfhd head.payload ++ (is_known (track_infos movie) (trexes_of movie) p, UnknownTrack) ∷ []))
      (first_box_tests (codes "tfdt" ∷ []) inside (λ d. naming d (leaf_tests tfdt d.payload)))
      (run_tests (length file) room p.runs (of_kind (codes "trun") inside))
      (naming head ((has_indexes (track_infos movie) p, BadDescriptionIndex) ∷ []))
      (group_boxes_tests (length (part_samples p)) (named_keys parts_before p track) p 0 (of_kind (codes "sbgp") inside))
      (first_box_tests (codes "tfdt" ∷ []) inside (λ d. naming d ((is_due_time parts_before p track, Gap) ∷ [])))

  -- What is tested of the `traf` by the states fails first where it does by the parts.
  pub tests_same : HoldsBoxes b → first_failed (by_states.traf_tests (length file) moof at states room b) ≡ first_failed (traf_tests (length file) movie (record { parts = parts_before; room = room }) its_part (children_of b))
  tests_same holds =
      let one = one_there (codes "tfhd") (children_of b) (holds_only holds (codes "tfhd") refl) in
      let h = one.0 in
      let first = first_kept (codes "tfhd") (children_of b) h [] one.1 in
      let rest = rest_tests (length file) movie parts_before room its_part (track_at movie (traf_in b).id) h (children_of b) in
      let unknown : Test Kind = (is_known (track_infos movie) (trexes_of movie) its_part, UnknownTrack) in
      ap (λ (hs : List Box). first_failed (for_only (λ (x : Box). head_tests x ++ track_tests (length file) moof at room b x (track_with (traf_in b).id states)) hs)) one.1
      ∙ first_behind (head_tests h) (track_tests (length file) moof at room b h (track_with (traf_in b).id states)) (behind_head its_part h) (track_same h)
      ∙ sym (ap first_failed (by_parts_is its_part ∙ ap (λ (x : Box). naming x (leaf_tests tfhd x.payload ++ unknown ∷ []) ++ rest_tests (length file) movie parts_before room its_part (track_at movie (traf_in b).id) x (children_of b)) first
      ∙ ap (λ (ts : List (Test Fault)). ts ++ rest) (naming-append h (leaf_tests tfhd h.payload) (unknown ∷ [])) ∙ append_assoc (head_tests h) ((is_known (track_infos movie) (trexes_of movie) its_part, fault_of UnknownTrack h) ∷ []) rest))
