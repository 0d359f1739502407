-- The first fault of a `moof` behind what came before it, by the states of the tracks, is its first fault by the parts before it.
use Rattle.std.proofs.Common.{◌≡◌, ◌⊎◌, ℕ, ◌+◌, ◌-◌, List, [], ◌∷◌, ◌++◌, Option, Some, None, Result, Ok, Err, inl, inr, length, map, refl, sym, ap, subst, ◌∙◌, arith, append_assoc}
use Rattle.std.specs.Prelude.{ℤ, true, pos, codes}
use Rattle.std.proofs.lemmas.List.{append-nil, map-append}
use Rattle.mp4_boxes.specs.format.Box.{Box, box_container}
use Rattle.mp4_boxes.specs.format.Children.{Holds, of_kind}
use Rattle.mp4_boxes.specs.format.FirstFault.{first_failed, and_then, children_or_fault}
use Rattle.mp4_boxes.specs.declared.rule.Rule.TheVariants as rules
use Rattle.mp4_boxes.specs.declared.fault.Fault.{Fault}
use Rattle.mp4_boxes.proofs.ChildrenJudged.{children_are}
use Rattle.mp4_frag.specs.format.Fragments.{FragmentTree}
use Rattle.mp4_frag.specs.format.FragmentSamples.{Part, part_samples}
use Rattle.mp4_frag.specs.words.Judged.{IsPlacedWithin, IsMovedOn, part_with, end_with, tree_of}
use Rattle.mp4_frag.specs.words.RunsJudged.{children_of}
use Rattle.mp4_frag.specs.words.TrafFaults.{traf_in, HoldsBoxes}
use Rattle.mp4_frag.specs.words.TrafTests.{TrafsFirst, MoofFirst, traf_fault}
use Rattle.mp4_frag.specs.words.TrafTests as by_states
use Rattle.mp4_frag.specs.declared.state.TrackState.{TrackState}
use Rattle.mp4_frag.specs.declared.trex.Trex.{Trex}
use Rattle.mp4_frag.proofs.HeadsFound.{holds_children}
use Rattle.mp4_frag.proofs.MoofPassed.{same_trex}
use Rattle.mp4_head.specs.format.Tree.{MovieTree, are_distinct}
use Rattle.mp4_present.specs.format.Judge.{Passed, last_part, traf_tests, trafs_or_fault, moofs_or_fault}
use Rattle.mp4_present.specs.format.Presentation.{max_samples}
use Rattle.mp4_present.specs.format.Stands.{trafs_total}
use Rattle.mp4_present.specs.words.Passing.{AreBehind, parts_behind}
use Rattle.mp4_present.proofs.MoofBehind.{IsInside, counted, parts_until, inside_more, inside_none, parts_joined}
use Rattle.mp4_present.proofs.PartsBehind.{ids_of}
use Rattle.mp4_present.proofs.TrafStates.{its_part, last_is, tests_same, moved_part, until_more}

-- ---- the list of the boxes of a `traf`

-- the same fault
some_one : (f g : Fault) → ◌≡◌ {A = Option Fault} (Some f) (Some g) → f ≡ g
some_one f g e = cc

-- its boxes are those of the profile, and the first of its tests that fails is this one
record IsListed (L moof : ℕ) (before : ℤ) (tracks : List TrackState) (room : ℕ) (b : Box) (o : Option Fault) : Type 0 where
  holds : HoldsBoxes b
  listed : children_or_fault rules.TrackFragment (box_container b) ≡ Ok (children_of b)
  tested : first_failed (by_states.traf_tests L moof before tracks room b) ≡ o

-- the first fault of a `traf` is that of the list of its boxes, or of its tests
by_list : (L moof : ℕ) (before : ℤ) (tracks : List TrackState) (room : ℕ) (b : Box) (o : Option Fault) → traf_fault L moof before tracks room b ≡ o
    → ((f : Fault) × (children_or_fault rules.TrackFragment (box_container b) ≡ Err f) × (o ≡ Some f)) ⊎ IsListed L moof before tracks room b o
by_list L moof before tracks room b o e = by (children_or_fault rules.TrackFragment (box_container b)) refl
  where
    by : (r : Result (List Box) Fault) → children_or_fault rules.TrackFragment (box_container b) ≡ r
        → ((f : Fault) × (children_or_fault rules.TrackFragment (box_container b) ≡ Err f) × (o ≡ Some f)) ⊎ IsListed L moof before tracks room b o
    by (Err f) k = inl (f, k, sym (rw k at e))
    by (Ok boxes) k =
        let holds = children_are rules.TrackFragment (box_container b) boxes k in
        let same = holds_children rules.TrackFragment b boxes holds in
        inr (record {
          holds = subst (λ (bs : List Box). Holds rules.TrackFragment (box_container b) bs) same holds;
          listed = k ∙ ap (λ (bs : List Box). Ok bs) same;
          tested = rw k at e;
        })

-- ---- one `traf` by the parts before it

module _ (L : ℕ) (movie : MovieTree) (at : ℕ) (passed : Passed) (before : List (List Box)) (b : Box) (trafs : List Box) where
  -- the list of its boxes is at fault
  list_fails : (f : Fault) → children_or_fault rules.TrackFragment (box_container b) ≡ Err f → trafs_or_fault L movie at passed before (b ∷ trafs) ≡ Err f
  list_fails f k = rw k refl

  -- a test fails
  test_fails : (inside : List Box) (part : Part) (f : Fault) → children_or_fault rules.TrackFragment (box_container b) ≡ Ok inside → last_part movie at (before ++ inside ∷ []) ≡ part
      → first_failed (traf_tests L movie passed part inside) ≡ Some f → trafs_or_fault L movie at passed before (b ∷ trafs) ≡ Err f
  test_fails inside part f k p t = let u = ap (λ (q : Part). first_failed (traf_tests L movie passed q inside)) p ∙ t in rw (k, u) refl

  -- no test fails: the answer is that for those behind it
  tests_pass : (inside : List Box) (part : Part) → children_or_fault rules.TrackFragment (box_container b) ≡ Ok inside → last_part movie at (before ++ inside ∷ []) ≡ part
      → first_failed (traf_tests L movie passed part inside) ≡ None
      → trafs_or_fault L movie at passed before (b ∷ trafs) ≡ trafs_or_fault L movie at (record { parts = passed.parts ++ part ∷ []; room = passed.room - length (part_samples part) }) (before ++ inside ∷ []) trafs
  tests_pass inside part k p t =
      let u = ap (λ (q : Part). first_failed (traf_tests L movie passed q inside)) p ∙ t in
      passes u ∙ ap (λ (q : Part). trafs_or_fault L movie at (record { parts = passed.parts ++ q ∷ []; room = passed.room - length (part_samples q) }) (before ++ inside ∷ []) trafs) p
    where
      passes : first_failed (traf_tests L movie passed (last_part movie at (before ++ inside ∷ [])) inside) ≡ None
          → trafs_or_fault L movie at passed before (b ∷ trafs)
          ≡ trafs_or_fault L movie at (record { parts = passed.parts ++ last_part movie at (before ++ inside ∷ []) ∷ []; room = passed.room - length (part_samples (last_part movie at (before ++ inside ∷ []))) }) (before ++ inside ∷ []) trafs
      passes u = rw (k, u) refl

-- ---- all `traf`s of a `moof`

-- the room that is left
less_by : (rest n room : ℕ) → rest + n ≡ room → room - n ≡ rest
less_by rest n room e = omega arith

-- the answer is this fault, or all `traf`s with what comes behind them
abbrev pub AreJudged : MovieTree → List FragmentTree → ℕ → List Box → Option Fault → Result (List (List Box) × Passed) Fault → Type 0
AreJudged movie earlier moof all (Some f) r = r ≡ Err f
AreJudged movie earlier moof all None r =
    (less : ℕ) × (r ≡ Ok (map children_of all, record { parts = parts_until movie earlier moof all; room = less })) × (less + (counted movie earlier + trafs_total (map children_of all)) ≡ max_samples)

module _ (file : List ℕ) (movie : MovieTree) (earlier : List FragmentTree) (moof : ℕ) (distinct : are_distinct (ids_of movie.tracks) ≡ true) (o : Option Fault) where
  -- the answer for the `traf`s behind some that were passed
  abbrev from : List Box → ℕ → List Box → Result (List (List Box) × Passed) Fault
  from done room later = trafs_or_fault (length file) movie moof (record { parts = parts_until movie earlier moof done; room = room }) (map children_of done) later

  -- none is left
  none_left : (done : List Box) (at : ℤ) (states : List TrackState) (room : ℕ) (p : Option Fault) → p ≡ None → IsInside file movie earlier moof done at states room → AreJudged movie earlier moof (done ++ []) p (from done room [])
  none_left done at states room (Some f) e i = absurd cc
  none_left done at states room None e i = subst (λ (all : List Box). AreJudged movie earlier moof all None (from done room [])) (sym (append-nil done)) (room, refl, i.left)

  -- the next one has this fault
  fails_here : (later done : List Box) (b : Box) (at : ℤ) (states : List TrackState) (room : ℕ) (f : Fault) → IsInside file movie earlier moof done at states room → traf_fault (length file) moof at states room b ≡ Some f
      → from done room (b ∷ later) ≡ Err f
  fails_here later done b at states room f i e = elim (by_list (length file) moof at states room b (Some f) e) [
    | inl h ↦ list_fails (length file) movie moof _ (map children_of done) b later h.0 h.1 ∙ ap (λ (g : Fault). Err g) (some_one h.0 f (sym h.2))
    | inr l ↦
        test_fails (length file) movie moof _ (map children_of done) b later (children_of b) (its_part file movie earlier moof done b at states room i) f l.listed (last_is file movie earlier moof done b at states room i)
        (sym (tests_same file movie earlier moof done b at states room i l.holds) ∙ l.tested)
  ]

  -- the next one has none
  passes_here : (later done : List Box) (b : Box) (at : ℤ) (states new : List TrackState) (room less : ℕ) → IsInside file movie earlier moof done at states room → traf_fault (length file) moof at states room b ≡ None
      → IsMovedOn moof at (children_of b) states new room less → from done room (b ∷ later) ≡ from (done ++ b ∷ []) less later
  passes_here later done b at states new room less i e m = elim (by_list (length file) moof at states room b None e) [
    | inl h ↦ absurd (let no = h.2 in cc)
    | inr l ↦
        let part = its_part file movie earlier moof done b at states room i in
        let until = sym (until_more file movie earlier moof done b at states room i) in
        let left : room - length (part_samples part) ≡ less = less_by less _ room (ap (λ (q : Part). less + length (part_samples q)) (moved_part file movie earlier moof done b at states room i new less m) ∙ m.taken) in
        let kept = sym (map-append children_of done (b ∷ [])) in
        tests_pass (length file) movie moof _ (map children_of done) b later (children_of b) part l.listed (last_is file movie earlier moof done b at states room i)
        (sym (tests_same file movie earlier moof done b at states room i l.holds) ∙ l.tested)
        ∙ (λ j. trafs_or_fault (length file) movie moof (record { parts = until j; room = left j }) (kept j) later)
  ]

  -- the first fault by the states is that of the definition
  trafs_judged : (later done : List Box) (at : ℤ) (states : List TrackState) (room : ℕ) → IsInside file movie earlier moof done at states room → TrafsFirst (length file) moof at states room later o
      → AreJudged movie earlier moof (done ++ later) o (from done room later)
  trafs_judged [] done at states room i e = none_left done at states room o e i
  trafs_judged (b ∷ later) done at states room i (inl (f, e, is)) = subst (λ (p : Option Fault). AreJudged movie earlier moof (done ++ b ∷ later) p (from done room (b ∷ later))) (sym is) (fails_here later done b at states room f i e)
  trafs_judged (b ∷ later) done at states room i (inr (ends, between, rest, (none, t, m, more))) =
      let traf = traf_in b in
      let same = same_trex (length file) moof at ends (children_of b) states between room rest t m in
      let placed : IsPlacedWithin (length file) (part_with moof at m.trex traf) = subst (λ (x : Trex). IsPlacedWithin (length file) (part_with moof at x traf)) same t.places in
      let end : ends ≡ end_with moof at m.trex traf = t.end ∙ ap (λ (x : Trex). end_with moof at x traf) same in
      let next = inside_more file movie earlier moof distinct done at b states between room rest i m placed in
      let all = trafs_judged later (done ++ b ∷ []) ends between rest (subst (λ (e : ℤ). IsInside file movie earlier moof (done ++ b ∷ []) e between rest) (sym end) next) more in
      subst (λ (bs : List Box). AreJudged movie earlier moof bs o (from done room (b ∷ later))) (append_assoc done (b ∷ []) later)
      (subst (λ (r : Result (List (List Box) × Passed) Fault). AreJudged movie earlier moof ((done ++ b ∷ []) ++ later) o r) (sym (passes_here later done b at states between room rest i none m)) all)

-- ---- one `moof`

-- The answer for `moof`s is this fault; or it goes on behind the first one.
abbrev pub IsJudgedMoof : List ℕ → MovieTree → List FragmentTree → ℕ → Box → Option Fault → Type 0
IsJudgedMoof file movie earlier room moof (Some f) = (moofs : List Box) → moofs_or_fault (length file) movie (record { parts = parts_behind movie earlier; room = room }) (moof ∷ moofs) ≡ Err f
IsJudgedMoof file movie earlier room moof None =
    (less : ℕ) × ((moofs : List Box) → moofs_or_fault (length file) movie (record { parts = parts_behind movie earlier; room = room }) (moof ∷ moofs)
    ≡ and_then (moofs_or_fault (length file) movie (record { parts = parts_behind movie (earlier ++ tree_of moof ∷ []); room = less }) moofs) (λ more. Ok (tree_of moof ∷ more)))
    × (less + (counted movie earlier + trafs_total (tree_of moof).trafs) ≡ max_samples)

module _ (file : List ℕ) (movie : MovieTree) (earlier : List FragmentTree) (moof : Box) (states : List TrackState) (room : ℕ) (distinct : are_distinct (ids_of movie.tracks) ≡ true) (h : AreBehind file movie earlier states room) where
  -- the `traf`s of the `moof`
  abbrev trafs : List Box
  trafs = of_kind (codes "traf") (children_of moof)

  -- what comes before it
  abbrev passed : Passed
  passed = record { parts = parts_behind movie earlier; room = room }

  -- the `traf`s behind the `moof`s before
  first_traf : trafs_or_fault (length file) movie moof.offset passed [] trafs ≡ trafs_or_fault (length file) movie moof.offset (record { parts = parts_until movie earlier moof.offset []; room = room }) [] trafs
  first_traf = ap (λ (ps : List Part). trafs_or_fault (length file) movie moof.offset (record { parts = ps; room = room }) [] trafs) (sym (append-nil (parts_behind movie earlier)))

  -- the list of its boxes is at fault
  listed_fails : (f : Fault) → children_or_fault rules.MovieFragment (box_container moof) ≡ Err f → (moofs : List Box) → moofs_or_fault (length file) movie passed (moof ∷ moofs) ≡ Err f
  listed_fails f k moofs = rw k refl

  -- a `traf` is
  traf_fails : (f : Fault) → children_or_fault rules.MovieFragment (box_container moof) ≡ Ok (children_of moof) → trafs_or_fault (length file) movie moof.offset passed [] trafs ≡ Err f
      → (moofs : List Box) → moofs_or_fault (length file) movie passed (moof ∷ moofs) ≡ Err f
  traf_fails f k e moofs = rw (k, e) refl

  -- none is
  trafs_pass : (next : Passed) → children_or_fault rules.MovieFragment (box_container moof) ≡ Ok (children_of moof) → trafs_or_fault (length file) movie moof.offset passed [] trafs ≡ Ok (map children_of trafs, next)
      → (moofs : List Box) → moofs_or_fault (length file) movie passed (moof ∷ moofs) ≡ and_then (moofs_or_fault (length file) movie next moofs) (λ more. Ok (tree_of moof ∷ more))
  trafs_pass next k e moofs = rw (k, e) refl

  -- by the answer for its `traf`s
  by_fault : (o : Option Fault) → children_or_fault rules.MovieFragment (box_container moof) ≡ Ok (children_of moof)
      → AreJudged movie earlier moof.offset trafs o (trafs_or_fault (length file) movie moof.offset (record { parts = parts_until movie earlier moof.offset []; room = room }) [] trafs) → IsJudgedMoof file movie earlier room moof o
  by_fault (Some f) k j = traf_fails f k (first_traf ∙ j)
  by_fault None k j =
      let joined = sym (parts_joined movie earlier (tree_of moof)) in (
        j.0,
        λ moofs. trafs_pass (record { parts = parts_until movie earlier moof.offset trafs; room = j.0 }) k (first_traf ∙ j.1) moofs
            ∙ ap (λ (ps : List Part). and_then (moofs_or_fault (length file) movie (record { parts = ps; room = j.0 }) moofs) (λ more. Ok (tree_of moof ∷ more))) joined,
        j.2,
      )

  -- The first fault of the `moof` is that of the definition.
  pub moof_judged : (o : Option Fault) → MoofFirst (length file) states room moof o → IsJudgedMoof file movie earlier room moof o
  moof_judged o (inl (f, k, is)) = subst (λ (p : Option Fault). IsJudgedMoof file movie earlier room moof p) (sym is) (listed_fails f k)
  moof_judged o (inr (k, m)) = by_fault o k (trafs_judged file movie earlier moof.offset distinct o trafs [] (pos moof.offset) states room (inside_none file movie earlier moof.offset states room h) m)
