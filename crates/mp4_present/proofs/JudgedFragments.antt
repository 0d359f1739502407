-- What is so of the `moof`s of a file that are judged without a fault: they are trees of sound leaves, and their parts keep the rules.
use Rattle.std.proofs.Common.{◌≡◌, ℕ, ◌+◌, ◌-◌, ◌≤◌, true, List, [], ◌∷◌, ◌++◌, length, map, Option, Some, None, Result, Ok, Err, refl, sym, ap, subst, ◌∙◌, arith, append_assoc}
use Rattle.std.specs.Prelude.{codes}
use Rattle.std.specs.List.{AllByRecursion}
use Rattle.std.proofs.lemmas.List.{append-nil}
use Rattle.mp4_boxes.specs.format.Box.{Box, box_container}
use Rattle.mp4_boxes.specs.format.Children.{Holds, of_kind}
use Rattle.mp4_boxes.specs.format.Places.{ruled, AreSound}
use Rattle.mp4_boxes.specs.format.FirstFault.{first_failed, unless_failed, and_then, children_or_fault}
use Rattle.mp4_boxes.specs.declared.rule.Rule.TheVariants as rules
use Rattle.mp4_boxes.specs.declared.fault.Fault.{Fault}
use Rattle.mp4_boxes.proofs.ChildrenJudged.{children_are}
use Rattle.mp4_frag.specs.format.Fragments.{FragmentTree, IsFragmentTree, AreTrafs, track_fragment_of}
use Rattle.mp4_frag.specs.format.FragmentSamples.{Part, part_samples}
use Rattle.mp4_frag.specs.words.Judged.{part_with}
use Rattle.mp4_frag.proofs.PartReasons.{part_counts}
use Rattle.mp4_head.specs.format.Tree.{TrackTree, MovieTree, trexes_of, are_distinct}
use Rattle.mp4_present.specs.format.Denotes.{IsSoundFragment}
use Rattle.mp4_present.specs.format.Judge.{Passed, traf_tests, last_part, trafs_or_fault, moofs_or_fault}
use Rattle.mp4_present.specs.format.Presentation.{max_samples}
use Rattle.mp4_present.specs.format.Stands.{AreConsistent, run_total, table_total, trafs_total}
use Rattle.mp4_present.specs.words.Passing.{parts_behind}
use Rattle.mp4_present.proofs.MoofBehind.{counted, parts_joined, counted_more}
use Rattle.mp4_present.proofs.PartsBehind.{ids_of}
use Rattle.mp4_present.proofs.PartsKept.{consistent_more}
use Rattle.mp4_present.proofs.PartsLast.{parts_in, trex_of_part, last_is}
use Rattle.mp4_present.proofs.PlainLists.{all_push}
use Rattle.mp4_present.proofs.TrafJudged.{TrafPasses, traf_passes}
use Rattle.mp4_head.proofs.MovieBoxes.{zip_more as zip_push}
use Rattle.mp4_tables.proofs.Sums.{sum_joined}

-- These `moof`s were judged without a fault: they are as they should be, and this is what comes of them.
pub record AreJudged (file : List ℕ) (movie : MovieTree) (earlier : List FragmentTree) (passed : Passed) : Type 0 where
  pub trees : AllByRecursion IsFragmentTree earlier
  pub sound : AllByRecursion IsSoundFragment earlier
  pub parts : passed.parts ≡ parts_behind movie earlier
  pub consistent : AreConsistent file movie passed.parts
  pub left : passed.room + counted movie earlier ≡ max_samples

-- Behind them, so were the first `traf`s of a `moof` at a place, with these boxes in them.
pub record AreReached (file : List ℕ) (movie : MovieTree) (earlier : List FragmentTree) (at : ℕ) (insides : List (List Box)) (passed : Passed) : Type 0 where
  pub sound : AllByRecursion (AreSound (ruled rules.TrackFragment)) insides
  pub parts : passed.parts ≡ parts_behind movie earlier ++ parts_in movie at insides
  pub consistent : AreConsistent file movie passed.parts
  pub left : passed.room + (counted movie earlier + trafs_total insides) ≡ max_samples

-- ---- one `traf` more

-- what comes of a `traf` more
abbrev pub passed_more : MovieTree → ℕ → Passed → List (List Box) → List Box → Passed
passed_more movie at passed before inside =
    let part = last_part movie at (before ++ inside ∷ []) in
    record { parts = passed.parts ++ part ∷ []; room = passed.room - length (part_samples part) }

-- the samples of one `traf` more
total_more : (insides : List (List Box)) (inside : List Box) → trafs_total (insides ++ inside ∷ []) ≡ trafs_total insides + run_total (of_kind (codes "trun") inside)
total_more insides inside =
    let n = run_total (of_kind (codes "trun") inside) in
    let none : trafs_total insides + (n + 0) ≡ trafs_total insides + n = omega arith in
    sum_joined (λ (i : List Box). run_total (of_kind (codes "trun") i)) insides (inside ∷ []) ∙ none

still_left : (room count tables front all n m : ℕ) → room + (tables + front) ≡ m → count ≡ n → count ≤ room → all ≡ front + n → (room - count) + (tables + all) ≡ m
still_left room count tables front all n m e f le g = omega arith

-- what the tests say of the last `traf`
pub last_passes : (file : List ℕ) (movie : MovieTree) (at : ℕ) (passed : Passed) (before : List (List Box)) (inside : List Box) (b : Box) → Holds rules.TrackFragment (box_container b) inside
    → first_failed (traf_tests (length file) movie passed (last_part movie at (before ++ inside ∷ [])) inside) ≡ None → TrafPasses file movie passed (last_part movie at (before ++ inside ∷ [])) inside
last_passes file movie at passed before inside b holds e =
    let l = last_is movie at before inside in
    let part = part_with at l.place (trex_of_part (trexes_of movie) (track_fragment_of inside)) (track_fragment_of inside) in
    let tests : first_failed (traf_tests (length file) movie passed part inside) ≡ None = subst (λ (p : Part). first_failed (traf_tests (length file) movie passed p inside) ≡ None) l.is e in
    subst (λ (p : Part). TrafPasses file movie passed p inside) (sym l.is) (traf_passes file movie passed inside (box_container b) holds at l.place (trex_of_part (trexes_of movie) (track_fragment_of inside)) tests)

-- as many samples as its runs name
pub last_counts : (movie : MovieTree) (at : ℕ) (before : List (List Box)) (inside : List Box) → length (part_samples (last_part movie at (before ++ inside ∷ []))) ≡ run_total (of_kind (codes "trun") inside)
last_counts movie at before inside =
    let l = last_is movie at before inside in
    ap (λ (p : Part). length (part_samples p)) l.is ∙ part_counts at l.place (trex_of_part (trexes_of movie) (track_fragment_of inside)) inside

-- one `traf` more that passes
pub reached_more : (file : List ℕ) (movie : MovieTree) (earlier : List FragmentTree) (at : ℕ) (before : List (List Box)) (passed : Passed) (inside : List Box) → are_distinct (ids_of movie.tracks) ≡ true
    → AreReached file movie earlier at before passed → TrafPasses file movie passed (last_part movie at (before ++ inside ∷ [])) inside → AreReached file movie earlier at (before ++ inside ∷ []) (passed_more movie at passed before inside)
reached_more file movie earlier at before passed inside distinct h t =
    let part = last_part movie at (before ++ inside ∷ []) in
    let few = t.few in
    record {
      sound = all_push (AreSound (ruled rules.TrackFragment)) before inside h.sound t.sound;
      parts = ap (λ (ps : List Part). ps ++ part ∷ []) h.parts ∙ append_assoc (parts_behind movie earlier) (parts_in movie at before) (part ∷ []) ∙ ap (λ (ps : List Part). parts_behind movie earlier ++ ps) (sym (last_is movie at before inside).behind);
      consistent = consistent_more file movie passed.parts part distinct h.consistent t.kept;
      left = still_left passed.room (length (part_samples part)) (counted movie earlier) (trafs_total before) (trafs_total (before ++ inside ∷ [])) (run_total (of_kind (codes "trun") inside)) max_samples h.left (last_counts movie at before inside) few (total_more before inside);
    }

-- ---- all `traf`s of a `moof`

-- the `traf`s hold these boxes, and this is what comes of them
pub record AreTrafsJudged (file : List ℕ) (movie : MovieTree) (earlier : List FragmentTree) (at : ℕ) (trafs : List Box) (r : List (List Box) × Passed) : Type 0 where
  pub held : AreTrafs trafs r.0
  pub reached : AreReached file movie earlier at r.0 r.1

ok_is : {A F : Type 0} (x y : A) → ◌≡◌ {A = Result A F} (Ok x) (Ok y) → x ≡ y
ok_is x y e = cc

module _ (file : List ℕ) (movie : MovieTree) (distinct : are_distinct (ids_of movie.tracks) ≡ true) (earlier : List FragmentTree) (at : ℕ) (r : List (List Box) × Passed) where
  -- what the `traf`s behind these are, where no fault is named
  pub trafs_judged : (trafs done : List Box) (before : List (List Box)) (passed : Passed) → AreTrafs done before → AreReached file movie earlier at before passed → trafs_or_fault (length file) movie at passed before trafs ≡ Ok r
      → AreTrafsJudged file movie earlier at (done ++ trafs) r
  trafs_judged [] done before passed held h e =
      let same : (before, passed) ≡ r = ok_is (before, passed) r e in
      subst (λ (bs : List Box). AreTrafsJudged file movie earlier at bs r) (sym (append-nil done)) (subst (λ (x : List (List Box) × Passed). AreTrafsJudged file movie earlier at done x) same (record { held = held; reached = h }))
  trafs_judged (b ∷ trafs) done before passed held h e =
      by_children (children_or_fault rules.TrackFragment (box_container b)) refl e
      (λ inside k g f.
      subst (λ (bs : List Box). AreTrafsJudged file movie earlier at bs r) (append_assoc done (b ∷ []) trafs)
      (trafs_judged trafs (done ++ b ∷ []) (before ++ inside ∷ []) (passed_more movie at passed before inside) (zip_push (λ (c : Box) boxes. Holds rules.TrackFragment (box_container c) boxes) done before b inside held k) g f))
    where
      by_tests : (inside : List Box) → Holds rules.TrackFragment (box_container b) inside → (o : Option Fault) → first_failed (traf_tests (length file) movie passed (last_part movie at (before ++ inside ∷ [])) inside) ≡ o
          → unless_failed o (λ u. trafs_or_fault (length file) movie at (passed_more movie at passed before inside) (before ++ inside ∷ []) trafs) ≡ Ok r
          → (AreReached file movie earlier at (before ++ inside ∷ []) (passed_more movie at passed before inside) → trafs_or_fault (length file) movie at (passed_more movie at passed before inside) (before ++ inside ∷ []) trafs ≡ Ok r → AreTrafsJudged file movie earlier at (done ++ b ∷ trafs) r)
          → AreTrafsJudged file movie earlier at (done ++ b ∷ trafs) r
      by_tests inside k (Some f) g e on = absurd cc
      by_tests inside k None g e on = on (reached_more file movie earlier at before passed inside distinct h (last_passes file movie at passed before inside b k g)) e

      by_children : (c : Result (List Box) Fault) → children_or_fault rules.TrackFragment (box_container b) ≡ c
          → and_then c (λ inside. unless_failed (first_failed (traf_tests (length file) movie passed (last_part movie at (before ++ inside ∷ [])) inside)) (λ u. trafs_or_fault (length file) movie at (passed_more movie at passed before inside) (before ++ inside ∷ []) trafs)) ≡ Ok r
          → ((inside : List Box) → Holds rules.TrackFragment (box_container b) inside → AreReached file movie earlier at (before ++ inside ∷ []) (passed_more movie at passed before inside)
          → trafs_or_fault (length file) movie at (passed_more movie at passed before inside) (before ++ inside ∷ []) trafs ≡ Ok r → AreTrafsJudged file movie earlier at (done ++ b ∷ trafs) r)
          → AreTrafsJudged file movie earlier at (done ++ b ∷ trafs) r
      by_children (Err f) g e on = absurd cc
      by_children (Ok inside) g e on =
          let k = children_are rules.TrackFragment (box_container b) inside g in
          by_tests inside k (first_failed (traf_tests (length file) movie passed (last_part movie at (before ++ inside ∷ [])) inside)) refl e (on inside k)

-- ---- all `moof`s

-- before the first `traf` of a `moof`
pub reached_none : (file : List ℕ) (movie : MovieTree) (earlier : List FragmentTree) (at : ℕ) (passed : Passed) → AreJudged file movie earlier passed → AreReached file movie earlier at [] passed
reached_none file movie earlier at passed h =
    let none : counted movie earlier + 0 ≡ counted movie earlier = omega arith in
    record { sound = tt; parts = h.parts ∙ sym (append-nil (parts_behind movie earlier)); consistent = h.consistent; left = ap (λ (n : ℕ). passed.room + n) none ∙ h.left }

-- behind the last one
pub judged_more : (file : List ℕ) (movie : MovieTree) (earlier : List FragmentTree) (moof : Box) (children : List Box) (passed : Passed) (r : List (List Box) × Passed) → AreJudged file movie earlier passed → Holds rules.MovieFragment (box_container moof) children
    → AreTrafsJudged file movie earlier moof.offset (of_kind (codes "traf") children) r → AreJudged file movie (earlier ++ record { moof = moof; children = children; trafs = r.0 } ∷ []) r.1
judged_more file movie earlier moof children passed r h holds t =
    let tree : FragmentTree = record { moof = moof; children = children; trafs = r.0 } in
    let count : counted movie (earlier ++ tree ∷ []) ≡ counted movie earlier + trafs_total r.0 = counted_more movie earlier tree in
    record {
      trees = all_push IsFragmentTree earlier tree h.trees (record { children = holds; trafs = t.held });
      sound = all_push IsSoundFragment earlier tree h.sound t.reached.sound;
      parts = t.reached.parts ∙ sym (parts_joined movie earlier tree);
      consistent = t.reached.consistent;
      left = ap (λ (n : ℕ). r.1.room + n) count ∙ t.reached.left;
    }

-- These `moof`s are those of the fragments, which come behind others and are as they should be.
pub record AreMoofsJudged (file : List ℕ) (movie : MovieTree) (earlier : List FragmentTree) (moofs : List Box) (fragments : List FragmentTree) : Type 0 where
  pub are : map (λ (t : FragmentTree). t.moof) fragments ≡ moofs
  pub passed : Passed
  pub judged : AreJudged file movie (earlier ++ fragments) passed

module _ (file : List ℕ) (movie : MovieTree) (distinct : are_distinct (ids_of movie.tracks) ≡ true) where
  -- one `moof` in front of others
  moof_first : (earlier : List FragmentTree) (t : FragmentTree) (moofs : List Box) (more : List FragmentTree) → AreMoofsJudged file movie (earlier ++ t ∷ []) moofs more → AreMoofsJudged file movie earlier (t.moof ∷ moofs) (t ∷ more)
  moof_first earlier t moofs more m = record {
    are = ap (λ (bs : List Box). t.moof ∷ bs) m.are;
    passed = m.passed;
    judged = subst (λ (es : List FragmentTree). AreJudged file movie es m.passed) (append_assoc earlier (t ∷ []) more) m.judged;
  }

  -- what the `moof`s behind these are, where no fault is named
  pub moofs_judged : (moofs : List Box) (earlier : List FragmentTree) (passed : Passed) (fragments : List FragmentTree) → AreJudged file movie earlier passed → moofs_or_fault (length file) movie passed moofs ≡ Ok fragments
      → AreMoofsJudged file movie earlier moofs fragments
  moofs_judged [] earlier passed fragments h e =
      let same : [] ≡ fragments = ok_is [] fragments e in
      subst (AreMoofsJudged file movie earlier []) same (record { are = refl; passed = passed; judged = subst (λ (es : List FragmentTree). AreJudged file movie es passed) (sym (append-nil earlier)) h })
  moofs_judged (moof ∷ moofs) earlier passed fragments h e =
      by_children (children_or_fault rules.MovieFragment (box_container moof)) refl e (λ t q k more m. moofs_judged moofs (earlier ++ t ∷ []) q more k m)
    where
      tree_with : List Box → List (List Box) × Passed → FragmentTree
      tree_with children r = record { moof = moof; children = children; trafs = r.0 }

      by_more : (t : FragmentTree) → t.moof ≡ moof → (m : Result (List FragmentTree) Fault) → and_then m (λ more. Ok (t ∷ more)) ≡ Ok fragments → ((more : List FragmentTree) → m ≡ Ok more → AreMoofsJudged file movie (earlier ++ t ∷ []) moofs more)
          → AreMoofsJudged file movie earlier (moof ∷ moofs) fragments
      by_more t same (Err f) e on = absurd cc
      by_more t same (Ok more) e on =
          let is : t ∷ more ≡ fragments = ok_is (t ∷ more) fragments e in
          subst (AreMoofsJudged file movie earlier (moof ∷ moofs)) is (subst (λ (b : Box). AreMoofsJudged file movie earlier (b ∷ moofs) (t ∷ more)) same (moof_first earlier t moofs more (on more refl)))

      by_trafs : (children : List Box) → Holds rules.MovieFragment (box_container moof) children → (x : Result (List (List Box) × Passed) Fault) → trafs_or_fault (length file) movie moof.offset passed [] (of_kind (codes "traf") children) ≡ x
          → and_then x (λ r. and_then (moofs_or_fault (length file) movie r.1 moofs) (λ more. Ok (record { moof = moof; children = children; trafs = r.0 } ∷ more))) ≡ Ok fragments
          → ((t : FragmentTree) (q : Passed) → AreJudged file movie (earlier ++ t ∷ []) q → (more : List FragmentTree) → moofs_or_fault (length file) movie q moofs ≡ Ok more → AreMoofsJudged file movie (earlier ++ t ∷ []) moofs more)
          → AreMoofsJudged file movie earlier (moof ∷ moofs) fragments
      by_trafs children k (Err f) g e on = absurd cc
      by_trafs children k (Ok r) g e on =
          let held = trafs_judged file movie distinct earlier moof.offset r (of_kind (codes "traf") children) [] [] passed tt (reached_none file movie earlier moof.offset passed h) g in
          let next = judged_more file movie earlier moof children passed r h k held in
          by_more (tree_with children r) refl (moofs_or_fault (length file) movie r.1 moofs) e (λ more m. on (tree_with children r) r.1 next more m)

      by_children : (c : Result (List Box) Fault) → children_or_fault rules.MovieFragment (box_container moof) ≡ c
          → and_then c (λ children. and_then (trafs_or_fault (length file) movie moof.offset passed [] (of_kind (codes "traf") children)) (λ r. and_then (moofs_or_fault (length file) movie r.1 moofs) (λ more. Ok (record { moof = moof; children = children; trafs = r.0 } ∷ more)))) ≡ Ok fragments
          → ((t : FragmentTree) (q : Passed) → AreJudged file movie (earlier ++ t ∷ []) q → (more : List FragmentTree) → moofs_or_fault (length file) movie q moofs ≡ Ok more → AreMoofsJudged file movie (earlier ++ t ∷ []) moofs more)
          → AreMoofsJudged file movie earlier (moof ∷ moofs) fragments
      by_children (Err f) g e on = absurd cc
      by_children (Ok children) g e on =
          by_trafs children (children_are rules.MovieFragment (box_container moof) children g) (trafs_or_fault (length file) movie moof.offset passed [] (of_kind (codes "traf") children)) refl e on

-- before the first `moof`, where there is room for the samples of the tables
pub none_judged : (file : List ℕ) (movie : MovieTree) → table_total movie.tracks ≤ max_samples → AreJudged file movie [] (record { parts = []; room = max_samples - table_total movie.tracks })
none_judged file movie few = record {
  trees = tt;
  sound = tt;
  parts = refl;
  consistent = record { known = tt; indexes = tt; places = tt; groups = none movie.tracks; times = none movie.tracks };
  left = back (table_total movie.tracks) max_samples few;
}
  where
    none : (tracks : List TrackTree) → AllByRecursion (λ (t : TrackTree). Unit {0}) tracks
    none [] = tt
    none (t ∷ tracks) = (tt, none tracks)

    back : (n m : ℕ) → n ≤ m → (m - n) + (n + 0) ≡ m
    back n m le = omega arith
