-- The whole file by the definition of the first fault: it denotes the presentation that is judged, or the fault that is named stands.
use Rattle.std.proofs.Common.{◌≡◌, ℕ, ◌+◌, ◌-◌, ◌≤◌, Bool, true, false, List, [], ◌∷◌, length, map, Option, Some, None, Result, Ok, Err, inl, inr, refl, sym, ap, subst, ◌∙◌, arith, codes}
use Rattle.std.specs.Prelude.{◌⊎◌, cond, nat_le}
use Rattle.std.specs.List.{AllByRecursion}
use Rattle.std.proofs.lemmas.Bool.{leb-true, leb-false}
use Rattle.mp4_boxes.specs.format.Bytes.{sum_of}
use Rattle.mp4_boxes.specs.format.Box.{Box, file_container}
use Rattle.mp4_boxes.specs.format.BoxFaults.{IsChildFault, fault_of}
use Rattle.mp4_boxes.specs.format.Children.{Holds, of_kind}
use Rattle.mp4_boxes.specs.format.FirstFault.{Test, first_failed, and_then, unless_failed, top_or_fault}
use Rattle.mp4_boxes.specs.format.Places.{whole}
use Rattle.mp4_boxes.specs.declared.rule.Rule.TheVariants as rules
use Rattle.mp4_boxes.specs.declared.fault.Fault.{Fault}
use Rattle.mp4_boxes.specs.declared.fault.Kind.TheVariants.{MovieTooLarge}
use Rattle.mp4_frag.specs.format.Fragments.{FragmentTree, IsFragmentTree, fragment_of}
use Rattle.mp4_frag.specs.format.FragmentSamples.{all_parts}
use Rattle.mp4_head.specs.format.FirstFault.{head_or_fault}
use Rattle.mp4_head.specs.format.Head.{TrackHead}
use Rattle.mp4_head.specs.format.Tree.{TrackTree, MovieTree, IsMovieTree, IsSoundMovie, are_distinct, first_of, track_head_of, trexes_of}
use Rattle.mp4_present.specs.format.Presentation.{Track, Presentation, IsInTime, IsWithinLimits, sample_total, max_samples, max_moov, normal_moov_length}
use Rattle.mp4_present.specs.format.Denotes.{FileTree, IsFileTree, IsSoundFile, IsSoundFragment, IsConsistent, Denotes, begins_with_movie, file_parts, movie_timescale, presentation_of, track_of}
use Rattle.mp4_present.specs.format.Stands.{Stands, AreConsistent, table_total, trafs_total, order, limit, header, child, missing, TimePasses, MoviePasses, FragmentFirst}
use Rattle.mp4_present.specs.format.Judge.{Passed, count_of, tables_tests, moofs_or_fault, times_tests, limit_tests, tree_or_fault, judge}
use Rattle.mp4_boxes.proofs.Each.{each_value}
use Rattle.mp4_present.specs.words.Passing.{IsMovieOf}
use Rattle.mp4_present.proofs.OutlineCounts.{count_is}
use Rattle.mp4_head.proofs.Distinct.{map_twice}
use Rattle.mp4_head.proofs.JudgedSound.{judged_sound}
use Rattle.mp4_head.proofs.JudgedStands.{judged_stands}
use Rattle.mp4_tables.proofs.InOrder.{both_pass, either_fails}
use Rattle.mp4_present.proofs.Counts.{fragments_length, total_is}
use Rattle.mp4_present.proofs.JudgedFragments.{moofs_judged, none_judged}
use Rattle.mp4_present.proofs.JudgedRefused.{fragments_refused}
use Rattle.mp4_present.proofs.Opened.{head_stands, moov_there}
use Rattle.mp4_present.proofs.PartsBehind.{ids_of}
use Rattle.mp4_present.proofs.SampleTotals.{parts_most}
use Rattle.mp4_present.proofs.TablesStand.{tables_stand}
use Rattle.mp4_present.proofs.FirstKept.{first_kept}
use Rattle.mp4_present.proofs.TopLaws.{top_held, top_fault_stands}
use Rattle.mp4_present.proofs.TableLaws.{AllInOrder, all_in_order, tables_failed}
use Rattle.mp4_present.proofs.LimitLaws.{times_keep, times_fail}

-- the file has one `moov`
one_moov : (file : List ℕ) (top : List Box) → Holds rules.File (file_container file) top → of_kind (codes "moov") top ≡ first_of (codes "moov") top ∷ []
one_moov file top h = by (of_kind (codes "moov") top) refl
  where
    by : (found : List Box) → of_kind (codes "moov") top ≡ found → found ≡ first_of (codes "moov") top ∷ []
    by [] e = let n = h.quantities.0 in absurd (omega (arith, n, count_is (codes "moov") top, ap (λ (bs : List Box). length bs) e))
    by (b ∷ []) e = ap (λ (c : Box). c ∷ []) (sym (first_kept (codes "moov") top b [] e))
    by (b ∷ c ∷ more) e = let n = h.quantities.0 in absurd (omega (arith, n, count_is (codes "moov") top, ap (λ (bs : List Box). length bs) e))

-- ---- what is judged behind the boxes, the `moov` and its tables

abbrev room_of : MovieTree → ℕ
room_of movie = max_samples - sum_of count_of movie.tracks

abbrev after_tables : List ℕ → List Box → MovieTree → Result FileTree Fault
after_tables file top movie = and_then (moofs_or_fault (length file) movie (record { parts = []; room = room_of movie }) (of_kind (codes "moof") top)) (λ fragments. Ok (record { top = top; movie = movie; fragments = fragments }))

abbrev after_head : List ℕ → List Box → MovieTree → Result FileTree Fault
after_head file top movie = unless_failed (first_failed (tables_tests file max_samples movie.tracks)) (λ u. after_tables file top movie)

abbrev after_top : List ℕ → List Box → Result FileTree Fault
after_top file top = and_then (head_or_fault (first_of (codes "moov") top)) (λ movie. after_head file top movie)

-- all `moof`s are as they should be
pub record AreAllFragments (file : List ℕ) (movie : MovieTree) (moofs : List Box) (fragments : List FragmentTree) : Type 0 where
  pub are : map (λ (f : FragmentTree). f.moof) fragments ≡ moofs
  pub trees : AllByRecursion IsFragmentTree fragments
  pub sound : AllByRecursion IsSoundFragment fragments
  pub consistent : AreConsistent file movie (all_parts (trexes_of movie) (map fragment_of fragments))
  pub few : table_total movie.tracks + sum_of (λ (e : FragmentTree). trafs_total e.trafs) fragments ≤ max_samples

-- what is known of the file's boxes and of its `moov` where `moof`s are judged
pub record IsReady (file : List ℕ) (top : List Box) (movie : MovieTree) : Type 0 where
  pub holds : Holds rules.File (file_container file) top
  pub begins : begins_with_movie top ≡ true
  pub moov : of_kind (codes "moov") top ≡ movie.moov ∷ []
  pub tree : IsMovieTree movie
  pub sound : IsSoundMovie movie
  pub tables : AllInOrder file max_samples movie.tracks

-- all that is so where no fault is named
pub record IsJudgedTree (file : List ℕ) (t : FileTree) : Type 0 where
  pub ready : IsReady file t.top t.movie
  pub fragments : AreAllFragments file t.movie (of_kind (codes "moof") t.top) t.fragments

-- no two tracks have one ID
distinct_ids : (movie : MovieTree) → IsSoundMovie movie → are_distinct (ids_of movie.tracks) ≡ true
distinct_ids movie sound = sound.track_ids

all_fragments : (file : List ℕ) (top : List Box) (movie : MovieTree) → IsReady file top movie → (fragments : List FragmentTree)
    → moofs_or_fault (length file) movie (record { parts = []; room = room_of movie }) (of_kind (codes "moof") top) ≡ Ok fragments → AreAllFragments file movie (of_kind (codes "moof") top) fragments
all_fragments file top movie ready fragments e =
    let few = ready.tables.few in
    let start : Passed = record { parts = []; room = room_of movie } in
    let m = moofs_judged file movie (distinct_ids movie ready.sound) (of_kind (codes "moof") top) [] start fragments (none_judged file movie few) e in
    let left = m.judged.left in
    record { are = m.are; trees = m.judged.trees; sound = m.judged.sound; consistent = subst (AreConsistent file movie) m.judged.parts m.judged.consistent; few = omega (arith, left) }

module _ (file : List ℕ) (t : FileTree) where
  by_fragments : (top : List Box) (movie : MovieTree) → IsReady file top movie → (r : Result (List FragmentTree) Fault) → moofs_or_fault (length file) movie (record { parts = []; room = room_of movie }) (of_kind (codes "moof") top) ≡ r
      → and_then r (λ fragments. Ok (record { top = top; movie = movie; fragments = fragments })) ≡ Ok t → IsJudgedTree file t
  by_fragments top movie ready (Err f) e j = absurd cc
  by_fragments top movie ready (Ok fragments) e j =
      let same : record { top = top; movie = movie; fragments = fragments } ≡ t = cc in
      subst (IsJudgedTree file) same (record { ready = ready; fragments = all_fragments file top movie ready fragments e })

  by_tables : (top : List Box) (movie : MovieTree) → Holds rules.File (file_container file) top → begins_with_movie top ≡ true → of_kind (codes "moov") top ≡ movie.moov ∷ [] → IsMovieTree movie → IsSoundMovie movie
      → (o : Option Fault) → first_failed (tables_tests file max_samples movie.tracks) ≡ o → unless_failed o (λ u. after_tables file top movie) ≡ Ok t → IsJudgedTree file t
  by_tables top movie h g m tree sound (Some f) e j = absurd cc
  by_tables top movie h g m tree sound None e j =
      by_fragments top movie (record { holds = h; begins = g; moov = m; tree = tree; sound = sound; tables = all_in_order file max_samples movie.tracks tree.tracks sound.tracks e }) (moofs_or_fault (length file) movie (record { parts = []; room = room_of movie }) (of_kind (codes "moof") top)) refl j

  by_head : (top : List Box) → Holds rules.File (file_container file) top → begins_with_movie top ≡ true → (r : Result MovieTree Fault) → head_or_fault (first_of (codes "moov") top) ≡ r → and_then r (λ movie. after_head file top movie) ≡ Ok t → IsJudgedTree file t
  by_head top h g (Err f) e j = absurd cc
  by_head top h g (Ok movie) e j =
      let s = judged_sound (first_of (codes "moov") top) movie e in
      let m : of_kind (codes "moov") top ≡ movie.moov ∷ [] = one_moov file top h ∙ ap (λ (b : Box). b ∷ []) (sym s.0) in
      by_tables top movie h g m s.1 s.2 (first_failed (tables_tests file max_samples movie.tracks)) refl j

  by_top : (r : Result (List Box) Fault) → top_or_fault (file_container file) ≡ r → and_then r (λ top. after_top file top) ≡ Ok t → IsJudgedTree file t
  by_top (Err f) e j = absurd cc
  by_top (Ok top) e j = let h = top_held file top e in by_head top h.0 h.1 (head_or_fault (first_of (codes "moov") top)) refl j

  -- Where no fault is named, the tree of the file is as it should be.
  pub judged_tree : tree_or_fault file ≡ Ok t → IsJudgedTree file t
  judged_tree j = by_top (top_or_fault (file_container file)) refl j

-- ---- the presentation

pub file_tree : (file : List ℕ) (t : FileTree) → IsJudgedTree file t → IsFileTree file t
file_tree file t j = record { top = j.ready.holds; order = j.ready.begins; moov = j.ready.moov; movie = j.ready.tree; moofs = j.fragments.are; fragments = j.fragments.trees }

sound_file : (file : List ℕ) (t : FileTree) → IsJudgedTree file t → IsSoundFile t
sound_file file t j = record { movie = j.ready.sound; tables = j.ready.tables.sound; fragments = j.fragments.sound }

consistent_file : (file : List ℕ) (t : FileTree) → IsJudgedTree file t → IsConsistent file t
consistent_file file t j =
    let c = j.fragments.consistent in
    record { tables = j.ready.tables.fit; known = c.known; indexes = c.indexes; places = c.places; groups = c.groups; times = c.times }

module _ (file : List ℕ) (t : FileTree) (j : IsJudgedTree file t) where
  abbrev told : Presentation
  told = presentation_of file t

  abbrev track_told : TrackTree → Track
  track_told u = track_of file (file_parts t) u

  abbrev scale : ℕ
  scale = movie_timescale file t

  abbrev of_times : List (Test Fault)
  of_times = times_tests scale t.movie.tracks (map track_told t.movie.tracks)

  abbrev of_moov : List (Test Fault)
  of_moov = (nat_le (normal_moov_length told) max_moov, fault_of MovieTooLarge t.movie.moov) ∷ []

  few_told : sample_total told ≤ max_samples
  few_told =
      let tracks = t.movie.tracks in
      let total = total_is file (file_parts t) tracks j.ready.tree.tracks j.ready.tables.fit in
      let most = parts_most (file_parts t) tracks (sym (ap are_distinct (map_twice track_head_of (λ (x : TrackHead). x.id) tracks)) ∙ j.ready.sound.track_ids) in
      let named = fragments_length (trexes_of t.movie) t.fragments in
      let few = j.fragments.few in
      bound _ (table_total tracks) _ _ (sum_of (λ (e : FragmentTree). trafs_total e.trafs) t.fragments) max_samples total most named few
    where
      bound : (all tables fragments parts trafs most : ℕ) → all ≡ tables + fragments → fragments ≤ parts → parts ≡ trafs → tables + trafs ≤ most → all ≤ most
      bound all tables fragments parts trafs most e h f k = omega arith

  -- Where no limit is passed, the presentation is within limits.
  within_limits : first_failed (limit_tests t told) ≡ None → IsWithinLimits told
  within_limits e =
      let p = both_pass of_times of_moov e in
      record {
        samples = few_told;
        times = each_value (λ (u : TrackTree). IsInTime scale (track_told u)) (IsInTime scale) track_told (λ u h. h) t.movie.tracks (times_keep scale track_told t.movie.tracks p.0);
        moov = leb-true (normal_moov_length told) max_moov (moov_fits (nat_le (normal_moov_length told) max_moov) refl p.1);
      }
    where
      moov_fits : (v : Bool) → nat_le (normal_moov_length told) max_moov ≡ v → cond v None (Some (fault_of MovieTooLarge t.movie.moov)) ≡ None → nat_le (normal_moov_length told) max_moov ≡ true
      moov_fits true v e = v
      moov_fits false v e = absurd cc

  -- Where one is, the first that is stands.
  limit_stands : (f : Fault) → first_failed (limit_tests t told) ≡ Some f → Stands file f
  limit_stands f e = (limit, by (either_fails of_times of_moov f e))
    where
      moov_passes : (v : Bool) → nat_le (normal_moov_length told) max_moov ≡ v → cond v None (Some (fault_of MovieTooLarge t.movie.moov)) ≡ Some f → MoviePasses file f
      moov_passes true v e = absurd cc
      moov_passes false v e =
          let same : fault_of MovieTooLarge t.movie.moov ≡ f = cc in
          record { tree = t; is_tree = file_tree file t j; is_sound = sound_file file t j; is_consistent = consistent_file file t j; passes = leb-false (normal_moov_length told) max_moov v; named = sym same }

      by : (first_failed of_times ≡ Some f) ⊎ ((first_failed of_times ≡ None) × (first_failed of_moov ≡ Some f)) → TimePasses file f ⊎ MoviePasses file f
      by (inl h) =
          let r = times_fail scale track_told t.movie.tracks f h in
          inl (record { tree = t; is_tree = file_tree file t j; is_sound = sound_file file t j; is_consistent = consistent_file file t j; before = r.before; t = r.t; after = r.after; tracks = r.split; in_time = r.in_time; passes = r.passes; named = r.named })
      by (inr h) = inr (moov_passes (nat_le (normal_moov_length told) max_moov) refl h.1)

module _ (file : List ℕ) (p : Presentation) where
  by_limits : (t : FileTree) → IsJudgedTree file t → (o : Option Fault) → first_failed (limit_tests t (presentation_of file t)) ≡ o → unless_failed o (λ u. Ok (presentation_of file t)) ≡ Ok p → Denotes file p
  by_limits t j (Some f) e h = absurd cc
  by_limits t j None e h =
      let same : presentation_of file t ≡ p = cc in
      let d : Denotes file (presentation_of file t) = record { tree = t; is_tree = file_tree file t j; is_sound = sound_file file t j; is_consistent = consistent_file file t j; says = refl; limits = within_limits file t j e } in
      subst (Denotes file) same d

  by_tree : (r : Result FileTree Fault) → tree_or_fault file ≡ r → and_then r (λ t. unless_failed (first_failed (limit_tests t (presentation_of file t))) (λ u. Ok (presentation_of file t))) ≡ Ok p → Denotes file p
  by_tree (Err f) e h = absurd cc
  by_tree (Ok t) e h = by_limits t (judged_tree file t e) (first_failed (limit_tests t (presentation_of file t))) refl h

  -- What is judged is denoted.
  pub judged_denotes : judge file ≡ Ok p → Denotes file p
  judged_denotes h = by_tree (tree_or_fault file) refl h

-- ---- the first fault

-- a fault of the file's own boxes stands
child_of_file : (file : List ℕ) (f : Fault) → IsChildFault rules.File (file_container file) f → Stands file f
child_of_file file f (inl h) = (header, record { place = whole file; reaches = ([], refl); fault = h })
child_of_file file f (inr (inl h)) = (child, record { place = whole file; reaches = ([], refl); rule = rules.File; under = refl; fault = inl h })
child_of_file file f (inr (inr (inl h))) = (child, record { place = whole file; reaches = ([], refl); rule = rules.File; under = refl; fault = inr h })
child_of_file file f (inr (inr (inr h))) = (missing, record { place = whole file; reaches = ([], refl); rule = rules.File; under = refl; fault = h })

top_stands : (file : List ℕ) (f : Fault) → IsChildFault rules.File (file_container file) f ⊎ FragmentFirst file f → Stands file f
top_stands file f (inl h) = child_of_file file f h
top_stands file f (inr h) = (order, h)

module _ (file : List ℕ) (f : Fault) where
  fault_in_fragments : (top : List Box) (movie : MovieTree) → IsReady file top movie → (r : Result (List FragmentTree) Fault) → moofs_or_fault (length file) movie (record { parts = []; room = room_of movie }) (of_kind (codes "moof") top) ≡ r
      → and_then {B = FileTree} r (λ fragments. Ok (record { top = top; movie = movie; fragments = fragments })) ≡ Err f → Stands file f
  fault_in_fragments top movie ready (Ok fragments) e j = absurd cc
  fault_in_fragments top movie ready (Err k) e j =
      let same : k ≡ f = cc in
      let few = ready.tables.few in
      let movie_is : IsMovieOf file movie = record { tree = ready.tree; sound = ready.sound; tables_sound = ready.tables.sound; tables_fit = ready.tables.fit } in
      fragments_refused file movie top (record { holds = ready.holds; order = ready.begins; is_moov = ready.moov; movie_is = movie_is }) f few (e ∙ ap (λ (g : Fault). Err g) same)

  fault_in_tables : (top : List Box) (movie : MovieTree) → Holds rules.File (file_container file) top → begins_with_movie top ≡ true → of_kind (codes "moov") top ≡ movie.moov ∷ [] → IsMovieTree movie → IsSoundMovie movie
      → (o : Option Fault) → first_failed (tables_tests file max_samples movie.tracks) ≡ o → unless_failed o (λ u. after_tables file top movie) ≡ Err f → Stands file f
  fault_in_tables top movie h g m tree sound None e j =
      fault_in_fragments top movie (record { holds = h; begins = g; moov = m; tree = tree; sound = sound; tables = all_in_order file max_samples movie.tracks tree.tracks sound.tracks e }) (moofs_or_fault (length file) movie (record { parts = []; room = room_of movie }) (of_kind (codes "moof") top))
      refl j
  fault_in_tables top movie h g m tree sound (Some k) e j =
      let same : k ≡ f = cc in
      let t = moov_there file top movie.moov movie h m refl in
      tables_stand file t.before movie f t.stands t.kind tree (tables_failed file f movie.tracks tree.tracks sound.tracks (e ∙ ap (λ (g : Fault). Some g) same))

  fault_in_head : (top : List Box) → Holds rules.File (file_container file) top → begins_with_movie top ≡ true → (r : Result MovieTree Fault) → head_or_fault (first_of (codes "moov") top) ≡ r → and_then r (λ movie. after_head file top movie) ≡ Err f → Stands file f
  fault_in_head top h g (Err k) e j =
      let same : k ≡ f = cc in
      head_stands file top (first_of (codes "moov") top) f h (one_moov file top h) (judged_stands (first_of (codes "moov") top) f (e ∙ ap (λ (g : Fault). Err g) same))
  fault_in_head top h g (Ok movie) e j =
      let s = judged_sound (first_of (codes "moov") top) movie e in
      let m : of_kind (codes "moov") top ≡ movie.moov ∷ [] = one_moov file top h ∙ ap (λ (b : Box). b ∷ []) (sym s.0) in
      fault_in_tables top movie h g m s.1 s.2 (first_failed (tables_tests file max_samples movie.tracks)) refl j

  fault_in_top : (r : Result (List Box) Fault) → top_or_fault (file_container file) ≡ r → and_then r (λ top. after_top file top) ≡ Err f → Stands file f
  fault_in_top (Err k) e j = let same : k ≡ f = cc in top_stands file f (top_fault_stands file f (e ∙ ap (λ (g : Fault). Err g) same))
  fault_in_top (Ok top) e j = let h = top_held file top e in fault_in_head top h.0 h.1 (head_or_fault (first_of (codes "moov") top)) refl j

  fault_in_limits : (t : FileTree) → IsJudgedTree file t → (o : Option Fault) → first_failed (limit_tests t (presentation_of file t)) ≡ o → unless_failed o (λ u. Ok (presentation_of file t)) ≡ Err f → Stands file f
  fault_in_limits t j None e h = absurd cc
  fault_in_limits t j (Some k) e h = let same : k ≡ f = cc in limit_stands file t j f (e ∙ ap (λ (g : Fault). Some g) same)

  fault_in_tree : (r : Result FileTree Fault) → tree_or_fault file ≡ r → and_then r (λ t. unless_failed (first_failed (limit_tests t (presentation_of file t))) (λ u. Ok (presentation_of file t))) ≡ Err f → Stands file f
  fault_in_tree (Err k) e h = let same : k ≡ f = cc in fault_in_top (top_or_fault (file_container file)) refl (e ∙ ap (λ (g : Fault). Err g) same)
  fault_in_tree (Ok t) e h = fault_in_limits t (judged_tree file t e) (first_failed (limit_tests t (presentation_of file t))) refl h

  -- The fault that is judged stands.
  pub judged_fault_stands : judge file ≡ Err f → Stands file f
  judged_fault_stands h = fault_in_tree (tree_or_fault file) refl h
