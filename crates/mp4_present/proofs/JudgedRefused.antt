-- The fault that is named in the `moof`s of a file stands in it.
use Rattle.std.proofs.Common.{◌≡◌, ℕ, ◌-◌, ◌≤◌, Bool, true, false, cond, List, [], ◌∷◌, ◌++◌, length, map, Option, Some, None, Result, Ok, Err, refl, sym, ap, subst, ◌∙◌, append_assoc}
use Rattle.std.specs.Prelude.{codes, bytes_eq}
use Rattle.std.proofs.lemmas.List.{map-append}
use Rattle.mp4_boxes.specs.format.Box.{Box, LieEndToEnd, file_container, box_container}
use Rattle.mp4_boxes.specs.format.Children.{Holds, of_kind}
use Rattle.mp4_boxes.specs.format.FirstFault.{first_failed, unless_failed, and_then, children_or_fault}
use Rattle.mp4_boxes.specs.declared.rule.Rule.TheVariants as rules
use Rattle.mp4_boxes.specs.declared.fault.Fault.{Fault}
use Rattle.mp4_boxes.proofs.ChildrenJudged.{children_are, child_fault_is}
use Rattle.mp4_boxes.proofs.Sound.{same_kind}
use Rattle.mp4_boxes.proofs.Plain.{head_is, tail_is}
use Rattle.mp4_frag.specs.format.Fragments.{FragmentTree, AreTrafs}
use Rattle.mp4_head.specs.format.Tree.{MovieTree, are_distinct}
use Rattle.mp4_head.proofs.Above.{lies_front}
use Rattle.mp4_present.specs.format.Denotes.{begins_with_movie}
use Rattle.mp4_present.specs.format.Judge.{Passed, traf_tests, last_part, trafs_or_fault, moofs_or_fault}
use Rattle.mp4_present.specs.format.Presentation.{max_samples}
use Rattle.mp4_present.specs.format.Stands.{Stands, table_total}
use Rattle.mp4_present.specs.words.Passing.{IsMovieOf, IsNextMoof}
use Rattle.mp4_present.proofs.JudgedFragments.{AreJudged, AreReached, passed_more, last_passes, reached_more, trafs_judged, reached_none, judged_more, none_judged}
use Rattle.mp4_present.proofs.MoofsPassed.{moov_before}
use Rattle.mp4_present.proofs.PartsBehind.{ids_of}
use Rattle.mp4_present.proofs.TrafFails.{IsUnder, children_stand, traf_fails}
use Rattle.mp4_present.proofs.TrafPlaces.{moof_reached, child_stands}
use Rattle.mp4_head.proofs.MovieBoxes.{zip_more as zip_push}

err_is : {A F : Type 0} (x y : F) → ◌≡◌ {A = Result A F} (Err x) (Err y) → x ≡ y
err_is x y e = cc

-- ---- the `traf`s of a `moof`

module _ (file : List ℕ) (movie : MovieTree) (distinct : are_distinct (ids_of movie.tracks) ≡ true) (movie_is : IsMovieOf file movie) (earlier : List FragmentTree) (first : Passed) (judged : AreJudged file movie earlier first)
    (front : List Box) (moof : Box) (next : IsNextMoof file movie earlier front moof) (children : List Box) (holds : Holds rules.MovieFragment (box_container moof) children) (f : Fault) where
  -- the `traf` at hand and all before it
  under : (done : List Box) (b : Box) (later : List Box) (insides : List (List Box)) (passed : Passed) → of_kind (codes "traf") children ≡ done ++ b ∷ later → AreTrafs done insides → AreReached file movie earlier moof.offset insides passed
      → IsUnder file movie earlier front moof children done b later insides passed
  under done b later insides passed are held reached = record { movie_is = movie_is; next = next; trees = judged.trees; sound = judged.sound; holds = holds; trafs = are; held = held; reached = reached }

  -- the fault that is named in one of the `traf`s
  pub trafs_refused : (trafs done : List Box) (before : List (List Box)) (passed : Passed) → of_kind (codes "traf") children ≡ done ++ trafs → AreTrafs done before → AreReached file movie earlier moof.offset before passed
      → trafs_or_fault (length file) movie moof.offset passed before trafs ≡ Err f → Stands file f
  trafs_refused [] done before passed are held h e = absurd cc
  trafs_refused (b ∷ trafs) done before passed are held h e =
      by_children (children_or_fault rules.TrackFragment (box_container b)) refl e
      (λ inside k g x. trafs_refused trafs (done ++ b ∷ []) (before ++ inside ∷ []) (passed_more movie moof.offset passed before inside) (are ∙ sym (append_assoc done (b ∷ []) trafs))
      (zip_push (λ (c : Box) boxes. Holds rules.TrackFragment (box_container c) boxes) done before b inside held k) g x)
    where
      here : IsUnder file movie earlier front moof children done b trafs before passed
      here = under done b trafs before passed are held h

      by_tests : (inside : List Box) → Holds rules.TrackFragment (box_container b) inside → (o : Option Fault) → first_failed (traf_tests (length file) movie passed (last_part movie moof.offset (before ++ inside ∷ [])) inside) ≡ o
          → unless_failed o (λ u. trafs_or_fault (length file) movie moof.offset (passed_more movie moof.offset passed before inside) (before ++ inside ∷ []) trafs) ≡ Err f
          → (AreReached file movie earlier moof.offset (before ++ inside ∷ []) (passed_more movie moof.offset passed before inside) → trafs_or_fault (length file) movie moof.offset (passed_more movie moof.offset passed before inside) (before ++ inside ∷ []) trafs ≡ Err f → Stands file f)
          → Stands file f
      by_tests inside k (Some g) t e on =
          let same : g ≡ f = err_is {A = List (List Box) × Passed} g f e in
          traf_fails file movie earlier front moof children done b trafs before passed here f inside k (subst (λ (x : Fault). first_failed (traf_tests (length file) movie passed (last_part movie moof.offset (before ++ inside ∷ [])) inside) ≡ Some x) same t)
      by_tests inside k None t e on = on (reached_more file movie earlier moof.offset before passed inside distinct h (last_passes file movie moof.offset passed before inside b k t)) e

      by_children : (c : Result (List Box) Fault) → children_or_fault rules.TrackFragment (box_container b) ≡ c
          → and_then c (λ inside.
          unless_failed (first_failed (traf_tests (length file) movie passed (last_part movie moof.offset (before ++ inside ∷ [])) inside)) (λ u. trafs_or_fault (length file) movie moof.offset (passed_more movie moof.offset passed before inside) (before ++ inside ∷ []) trafs)) ≡ Err f
          → ((inside : List Box) → Holds rules.TrackFragment (box_container b) inside → AreReached file movie earlier moof.offset (before ++ inside ∷ []) (passed_more movie moof.offset passed before inside)
          → trafs_or_fault (length file) movie moof.offset (passed_more movie moof.offset passed before inside) (before ++ inside ∷ []) trafs ≡ Err f → Stands file f)
          → Stands file f
      by_children (Err g) t e on =
          let same : g ≡ f = err_is {A = List (List Box) × Passed} g f e in
          children_stand file movie earlier front moof children done b trafs before passed here f (child_fault_is rules.TrackFragment (box_container b) f (subst (λ (x : Fault). children_or_fault rules.TrackFragment (box_container b) ≡ Err x) same t))
      by_children (Ok inside) t e on =
          let k = children_are rules.TrackFragment (box_container b) inside t in
          by_tests inside k (first_failed (traf_tests (length file) movie passed (last_part movie moof.offset (before ++ inside ∷ [])) inside)) refl e (on inside k)

-- ---- where the `moof`s stand

-- a box of a type behind others of the type: where it stands among all
pub record IsBehind (kind : List ℕ) (boxes front : List Box) (b : Box) : Type 0 where
  pub before : List Box
  pub after : List Box
  pub are : boxes ≡ before ++ b ∷ after
  pub kept : of_kind kind before ≡ front
  pub of_it : bytes_eq kind b.kind ≡ true

-- so it stands
pub behind_kept : (kind : List ℕ) (boxes front : List Box) (b : Box) (after : List Box) → of_kind kind boxes ≡ front ++ b ∷ after → IsBehind kind boxes front b
behind_kept kind [] [] b after e = absurd cc
behind_kept kind [] (d ∷ front) b after e = absurd cc
behind_kept kind (c ∷ boxes) front b after e = by (bytes_eq kind c.kind) refl front e (λ rest h. behind_kept kind boxes rest b after h)
  where
    hit : bytes_eq kind c.kind ≡ true → (rest : List Box) → IsBehind kind boxes rest b → IsBehind kind (c ∷ boxes) (c ∷ rest) b
    hit k rest q = record { before = c ∷ q.before; after = q.after; are = ap (λ (bs : List Box). c ∷ bs) q.are; kept = rw k (ap (λ (bs : List Box). c ∷ bs) q.kept); of_it = q.of_it }

    miss : bytes_eq kind c.kind ≡ false → (rest : List Box) → IsBehind kind boxes rest b → IsBehind kind (c ∷ boxes) rest b
    miss k rest q = record { before = c ∷ q.before; after = q.after; are = ap (λ (bs : List Box). c ∷ bs) q.are; kept = rw k q.kept; of_it = q.of_it }

    by : (v : Bool) → bytes_eq kind c.kind ≡ v → (front : List Box) → cond v (c ∷ of_kind kind boxes) (of_kind kind boxes) ≡ front ++ b ∷ after → ((rest : List Box) → of_kind kind boxes ≡ rest ++ b ∷ after → IsBehind kind boxes rest b)
        → IsBehind kind (c ∷ boxes) front b
    by true k [] e more =
        let same : c ≡ b = head_is c b (of_kind kind boxes) after e in
        record { before = []; after = boxes; are = ap (λ (x : Box). x ∷ boxes) same; kept = refl; of_it = ap (λ (x : Box). bytes_eq kind x.kind) (sym same) ∙ k }
    by true k (d ∷ rest) e more =
        let same : c ≡ d = head_is c d (of_kind kind boxes) (rest ++ b ∷ after) e in
        subst (λ (x : Box). IsBehind kind (c ∷ boxes) (x ∷ rest) b) same (hit k rest (more rest (tail_is c d (of_kind kind boxes) (rest ++ b ∷ after) e)))
    by false k front e more = miss k front (more front e)

-- The file's own boxes, and its `moov`, which is as it should be.
pub record IsMovieFile (file : List ℕ) (movie : MovieTree) (boxes : List Box) : Type 0 where
  pub holds : Holds rules.File (file_container file) boxes
  pub order : begins_with_movie boxes ≡ true
  pub is_moov : of_kind (codes "moov") boxes ≡ movie.moov ∷ []
  pub movie_is : IsMovieOf file movie

module _ (file : List ℕ) (movie : MovieTree) (boxes : List Box) (m : IsMovieFile file movie boxes) where
  -- a `moof` of the file behind others
  next_moof : (earlier : List FragmentTree) (moof : Box) (moofs : List Box) → of_kind (codes "moof") boxes ≡ map (λ (t : FragmentTree). t.moof) earlier ++ moof ∷ moofs → (front : List Box) × IsNextMoof file movie earlier front moof
  next_moof earlier moof moofs e =
      let q = behind_kept (codes "moof") boxes (map (λ (t : FragmentTree). t.moof) earlier) moof moofs e in
      let kind : moof.kind ≡ codes "moof" = same_kind (codes "moof") moof.kind q.of_it in
      let split : boxes ≡ (q.before ++ moof ∷ []) ++ q.after = q.are ∙ sym (append_assoc q.before (moof ∷ []) q.after) in (
        q.before,
        record {
          stands = (lies_front true 0 file (q.before ++ moof ∷ []) q.after (subst (λ (bs : List Box). LieEndToEnd true 0 file bs) split m.holds.tiles.front.0), tt);
          is_moof = kind;
          is_moov = moov_before q.before q.after moof movie.moov kind (subst (λ (bs : List Box). begins_with_movie bs ≡ true) q.are m.order) (subst (λ (bs : List Box). of_kind (codes "moov") bs ≡ movie.moov ∷ []) q.are m.is_moov);
          earlier_moofs = sym q.kept;
        },
      )

  distinct : are_distinct (ids_of movie.tracks) ≡ true
  distinct = m.movie_is.sound.track_ids

  -- the fault that is named in one of the `moof`s behind these
  pub moofs_refused : (f : Fault) (moofs : List Box) (earlier : List FragmentTree) (passed : Passed) → of_kind (codes "moof") boxes ≡ map (λ (t : FragmentTree). t.moof) earlier ++ moofs → AreJudged file movie earlier passed
      → moofs_or_fault (length file) movie passed moofs ≡ Err f → Stands file f
  moofs_refused f [] earlier passed are h e = absurd cc
  moofs_refused f (moof ∷ moofs) earlier passed are h e =
      by_children (children_or_fault rules.MovieFragment (box_container moof)) refl e
      (λ t q same k g. moofs_refused f moofs (earlier ++ t ∷ []) q (along t same) k g)
    where
      along : (t : FragmentTree) → t.moof ≡ moof → of_kind (codes "moof") boxes ≡ map (λ (x : FragmentTree). x.moof) (earlier ++ t ∷ []) ++ moofs
      along t same =
          are ∙ ap (λ (b : Box). map (λ (x : FragmentTree). x.moof) earlier ++ b ∷ moofs) (sym same) ∙ sym (append_assoc (map (λ (x : FragmentTree). x.moof) earlier) (t.moof ∷ []) moofs)
          ∙ ap (λ (bs : List Box). bs ++ moofs) (sym (map-append (λ (x : FragmentTree). x.moof) earlier (t ∷ [])))

      nx : (front : List Box) × IsNextMoof file movie earlier front moof
      nx = next_moof earlier moof moofs are

      by_more : (t : FragmentTree) (x : Result (List FragmentTree) Fault) → and_then x (λ more. Ok (t ∷ more)) ≡ Err f → (x ≡ Err f → Stands file f) → Stands file f
      by_more t (Err g) e on = let same : g ≡ f = err_is {A = List FragmentTree} g f e in on (ap (λ (y : Fault). Err y) same)
      by_more t (Ok more) e on = absurd cc

      by_trafs : (children : List Box) → Holds rules.MovieFragment (box_container moof) children → (x : Result (List (List Box) × Passed) Fault) → trafs_or_fault (length file) movie moof.offset passed [] (of_kind (codes "traf") children) ≡ x
          → and_then x (λ r. and_then (moofs_or_fault (length file) movie r.1 moofs) (λ more. Ok (record { moof = moof; children = children; trafs = r.0 } ∷ more))) ≡ Err f
          → ((t : FragmentTree) (q : Passed) → t.moof ≡ moof → AreJudged file movie (earlier ++ t ∷ []) q → moofs_or_fault (length file) movie q moofs ≡ Err f → Stands file f)
          → Stands file f
      by_trafs children k (Err g) t e on =
          let same : g ≡ f = err_is {A = List FragmentTree} g f e in
          trafs_refused file movie distinct m.movie_is earlier passed h nx.0 moof nx.1 children k f (of_kind (codes "traf") children) [] [] passed refl tt (reached_none file movie earlier moof.offset passed h)
          (t ∙ ap (λ (y : Fault). Err y) same)
      by_trafs children k (Ok r) t e on =
          let tree : FragmentTree = record { moof = moof; children = children; trafs = r.0 } in
          let held = trafs_judged file movie distinct earlier moof.offset r (of_kind (codes "traf") children) [] [] passed tt (reached_none file movie earlier moof.offset passed h) t in
          by_more tree (moofs_or_fault (length file) movie r.1 moofs) e (on tree r.1 refl (judged_more file movie earlier moof children passed r h k held))

      by_children : (c : Result (List Box) Fault) → children_or_fault rules.MovieFragment (box_container moof) ≡ c
          → and_then c (λ children. and_then (trafs_or_fault (length file) movie moof.offset passed [] (of_kind (codes "traf") children)) (λ r. and_then (moofs_or_fault (length file) movie r.1 moofs) (λ more. Ok (record { moof = moof; children = children; trafs = r.0 } ∷ more)))) ≡ Err f
          → ((t : FragmentTree) (q : Passed) → t.moof ≡ moof → AreJudged file movie (earlier ++ t ∷ []) q → moofs_or_fault (length file) movie q moofs ≡ Err f → Stands file f)
          → Stands file f
      by_children (Err g) t e on =
          let same : g ≡ f = err_is {A = List FragmentTree} g f e in
          child_stands file rules.MovieFragment moof f (moof_reached file nx.0 moof nx.1.stands nx.1.is_moof) (child_fault_is rules.MovieFragment (box_container moof) f (t ∙ ap (λ (y : Fault). Err y) same))
      by_children (Ok children) t e on =
          by_trafs children (children_are rules.MovieFragment (box_container moof) children t) (trafs_or_fault (length file) movie moof.offset passed [] (of_kind (codes "traf") children)) refl e on

  -- the fault that is named in one of all `moof`s of the file
  pub fragments_refused : (f : Fault) → table_total movie.tracks ≤ max_samples → moofs_or_fault (length file) movie (record { parts = []; room = max_samples - table_total movie.tracks }) (of_kind (codes "moof") boxes) ≡ Err f → Stands file f
  fragments_refused f few e = moofs_refused f (of_kind (codes "moof") boxes) [] (record { parts = []; room = max_samples - table_total movie.tracks }) refl (none_judged file movie few) e
