-- The tracks of a movie behind some of the `traf`s of a `moof`, and behind all of them.
use Rattle.std.proofs.Common.{◌≡◌, ℕ, ◌+◌, true, List, [], ◌∷◌, ◌++◌, Some, length, map, refl, sym, ap, subst, ◌∙◌, arith, append_assoc, slice_set}
use Rattle.std.specs.Prelude.{ℤ, pos, codes, unwrap_or, option_map, ◌==◌, flat_map}
use Rattle.std.specs.List.{AllByRecursion}
use Rattle.std.proofs.lemmas.Grind.{flat_map-append}
use Rattle.std.proofs.lemmas.List.{append-nil, map-append}
use Rattle.std.proofs.lemmas.Option.{slice_get-map}
use Rattle.mp4_boxes.specs.format.Bytes.{sum_of}
use Rattle.mp4_boxes.specs.format.Box.{Box}
use Rattle.mp4_boxes.specs.format.Children.{of_kind}
use Rattle.mp4_boxes.proofs.Plain.{head_is, tail_is}
use Rattle.mp4_frag.specs.declared.state.TrackState.{TrackState}
use Rattle.mp4_frag.specs.declared.trex.Trex.{Trex}
use Rattle.mp4_frag.specs.format.Fragments.{FragmentTree, IsFragmentTree, TrackFragment, fragment_of, track_fragment_of}
use Rattle.mp4_frag.specs.format.FragmentSamples.{Part, parts_after, parts_of, trex_for, no_trex}
use Rattle.mp4_frag.specs.words.Judged.{TrackSeen, track_seen, track_behind, IsPlacedWithin, IsSoundFront, IsMovedOn, AreMovedOn, IsMoofMovedOn, AreTrexesOf, part_with, end_with, tree_of}
use Rattle.mp4_frag.specs.words.RunsJudged.{children_of}
use Rattle.mp4_frag.proofs.PartReasons.{part_counts}
use Rattle.mp4_frag.proofs.SeenLists.{find_map}
use Rattle.mp4_head.specs.format.Tree.{TrackTree, MovieTree, trexes_of, are_distinct}
use Rattle.mp4_present.specs.format.Denotes.{IsSoundFragment}
use Rattle.mp4_present.specs.format.Presentation.{max_samples}
use Rattle.mp4_present.specs.format.Stands.{run_total, table_total, trafs_total}
use Rattle.mp4_present.specs.words.Passing.{AreBehind, BeginsBehind, IsMovieOf, PassesMoof, TrexesBehind, parts_behind, seen_behind}
use Rattle.mp4_present.proofs.PlainLists.{all_push}
use Rattle.mp4_present.proofs.PartsBehind.{HavePassed, ComesNext, tracked, trex_known, part_passes, ids_of}
use Rattle.mp4_tables.proofs.Sums.{sum_joined as sum-append}

-- what `traf`s say
abbrev pub said_by : List Box → List TrackFragment
said_by trafs = map track_fragment_of (map children_of trafs)

-- how many samples the tables, and the runs of `moof`s, name
abbrev pub counted : MovieTree → List FragmentTree → ℕ
counted movie earlier = table_total movie.tracks + sum_of (λ (e : FragmentTree). trafs_total e.trafs) earlier

-- the parts of `moof`s, and of the first `traf`s of the next
abbrev pub parts_until : MovieTree → List FragmentTree → ℕ → List Box → List Part
parts_until movie earlier moof done = parts_behind movie earlier ++ parts_after (trexes_of movie) moof (pos moof) (said_by done)

-- These `traf`s of a `moof` at a place were passed, and their data ends at a place; these are the tracks and the room behind them.
pub record IsInside (file : List ℕ) (movie : MovieTree) (earlier : List FragmentTree) (moof : ℕ) (done : List Box) (before : ℤ) (states : List TrackState) (room : ℕ) : Type 0 where
  pub passed : HavePassed file movie (parts_until movie earlier moof done) (map track_seen states)
  pub left : room + (counted movie earlier + trafs_total (map children_of done)) ≡ max_samples
  pub split : (more : List TrackFragment) → parts_after (trexes_of movie) moof (pos moof) (said_by done ++ more) ≡ parts_after (trexes_of movie) moof (pos moof) (said_by done) ++ parts_after (trexes_of movie) moof before more

-- the part of the next `traf`, whose `trex` is this one
pub next_part : (trexes : List Trex) (moof : ℕ) (before : ℤ) (trex : Trex) (traf : TrackFragment) (more : List TrackFragment) → trex_for trexes traf.id ≡ Some trex
    → parts_after trexes moof before (traf ∷ more) ≡ part_with moof before trex traf ∷ parts_after trexes moof (end_with moof before trex traf) more
next_part trexes moof before trex traf more e =
    ap (λ o. part_with moof before (unwrap_or o no_trex) traf ∷ parts_after trexes moof (end_with moof before (unwrap_or o no_trex) traf) more) e

said_more : (done : List Box) (b : Box) → said_by (done ++ b ∷ []) ≡ said_by done ++ track_fragment_of (children_of b) ∷ []
said_more done b = ap (map track_fragment_of) (map-append children_of done (b ∷ [])) ∙ map-append track_fragment_of (map children_of done) (children_of b ∷ [])

total_more : (done : List Box) (b : Box) → trafs_total (map children_of (done ++ b ∷ [])) ≡ trafs_total (map children_of done) + run_total (of_kind (codes "trun") (children_of b))
total_more done b =
    let n = run_total (of_kind (codes "trun") (children_of b)) in
    let none : trafs_total (map children_of done) + (n + 0) ≡ trafs_total (map children_of done) + n = omega arith in
    ap trafs_total (map-append children_of done (b ∷ [])) ∙ sum-append (λ (inside : List Box). run_total (of_kind (codes "trun") inside)) (map children_of done) (children_of b ∷ []) ∙ none

still_left : (room less n before now m : ℕ) → room + before ≡ m → less + n ≡ room → now ≡ before + n → less + now ≡ m
still_left room less n before now m e f g = omega arith

added : (c t n : ℕ) → c + (t + n) ≡ (c + t) + n
added c t n = omega arith

module _ (file : List ℕ) (movie : MovieTree) (earlier : List FragmentTree) (moof : ℕ) (distinct : are_distinct (ids_of movie.tracks) ≡ true) where
  -- the track and the part of a `traf` by which tracks moved on
  pub comes_next : (done : List Box) (before : ℤ) (b : Box) (states new : List TrackState) (room less : ℕ) → (m : IsMovedOn moof before (children_of b) states new room less)
      → IsPlacedWithin (length file) (part_with moof before m.trex (track_fragment_of (children_of b)))
      → ComesNext file (part_with moof before m.trex (track_fragment_of (children_of b))) (map track_seen states) m.place (track_seen m.track) m.trex
  comes_next done before b states new room less m placed = record {
    found = find_map track_seen (λ (s : TrackSeen). s.id == (track_fragment_of (children_of b)).id) states ∙ ap (option_map track_seen) m.found;
    there = slice_get-map track_seen states m.place ∙ ap (option_map track_seen) m.there;
    defaults = m.defaults;
    due = m.due;
    placed = placed;
  }

  moved_trex : (done : List Box) (before : ℤ) (b : Box) (states new : List TrackState) (room less : ℕ) → IsInside file movie earlier moof done before states room → (m : IsMovedOn moof before (children_of b) states new room less)
      → trex_for (trexes_of movie) (track_fragment_of (children_of b)).id ≡ Some m.trex
  moved_trex done before b states new room less h m =
      let id = (track_fragment_of (children_of b)).id in
      let found = find_map track_seen (λ (s : TrackSeen). s.id == id) states ∙ ap (option_map track_seen) m.found in
      trex_known movie (parts_until movie earlier moof done) id (track_seen m.track) m.trex (tracked movie (parts_until movie earlier moof done) id (map track_seen states) (track_seen m.track) h.passed.tracks found) m.defaults

  -- one more `traf`
  pub inside_more : (done : List Box) (before : ℤ) (b : Box) (states new : List TrackState) (room less : ℕ) → IsInside file movie earlier moof done before states room → (m : IsMovedOn moof before (children_of b) states new room less)
      → IsPlacedWithin (length file) (part_with moof before m.trex (track_fragment_of (children_of b)))
      → IsInside file movie earlier moof (done ++ b ∷ []) (end_with moof before m.trex (track_fragment_of (children_of b))) new less
  inside_more done before b states new room less h m placed =
      let trexes = trexes_of movie in
      let traf = track_fragment_of (children_of b) in
      let part = part_with moof before m.trex traf in
      let known = moved_trex done before b states new room less h m in
      let ends = end_with moof before m.trex traf in
      let front = parts_after trexes moof (pos moof) (said_by done) in
      let with_it : parts_after trexes moof (pos moof) (said_by (done ++ b ∷ [])) ≡ front ++ part ∷ [] =
      ap (parts_after trexes moof (pos moof)) (said_more done b) ∙ h.split (traf ∷ []) ∙ ap (λ ps. front ++ ps) (next_part trexes moof before m.trex traf [] known) in
      let all : parts_until movie earlier moof (done ++ b ∷ []) ≡ parts_until movie earlier moof done ++ part ∷ [] =
      ap (λ ps. parts_behind movie earlier ++ ps) with_it ∙ sym (append_assoc (parts_behind movie earlier) front (part ∷ [])) in
      let next = part_passes file movie (parts_until movie earlier moof done) (map track_seen states) part m.place (track_seen m.track) m.trex distinct h.passed (comes_next done before b states new room less m placed) in
      let counts = total_more done b in
      let n : less + run_total (of_kind (codes "trun") (children_of b)) ≡ room = ap (λ k. less + k) (sym (part_counts moof before m.trex (children_of b))) ∙ m.taken in
      let total : counted movie earlier + trafs_total (map children_of (done ++ b ∷ [])) ≡ (counted movie earlier + trafs_total (map children_of done)) + run_total (of_kind (codes "trun") (children_of b)) =
      ap (λ k. counted movie earlier + k) counts ∙ added (counted movie earlier) (trafs_total (map children_of done)) (run_total (of_kind (codes "trun") (children_of b))) in
      record {
        passed = subst (λ ss. HavePassed file movie (parts_until movie earlier moof (done ++ b ∷ [])) ss) (sym m.moved) (subst (λ ps. HavePassed file movie ps (slice_set (map track_seen states) m.place (track_behind (track_seen m.track) part))) (sym all) next);
        left = still_left room less (run_total (of_kind (codes "trun") (children_of b))) (counted movie earlier + trafs_total (map children_of done)) _ max_samples h.left n total;
        split = λ more.
            let turned : said_by (done ++ b ∷ []) ++ more ≡ said_by done ++ traf ∷ more = ap (λ ts. ts ++ more) (said_more done b) ∙ append_assoc (said_by done) (traf ∷ []) more in
            ap (parts_after trexes moof (pos moof)) turned ∙ h.split (traf ∷ more) ∙ ap (λ ps. front ++ ps) (next_part trexes moof before m.trex traf more known) ∙ sym (append_assoc front (part ∷ []) (parts_after trexes moof ends more))
            ∙ ap (λ ps. ps ++ parts_after trexes moof ends more) (sym with_it);
      }

  -- all `traf`s that are left
  inside_all : (trafs done : List Box) (before : ℤ) (states new : List TrackState) (room less : ℕ) → IsInside file movie earlier moof done before states room
      → AllByRecursion (IsPlacedWithin (length file)) (parts_after (trexes_of movie) moof before (said_by trafs)) → AreMovedOn moof before trafs states new room less
      → (ends : ℤ) × IsInside file movie earlier moof (done ++ trafs) ends new less
  inside_all [] done before states new room less h placed m =
      (before, subst (λ bs. IsInside file movie earlier moof bs before new less) (sym (append-nil done)) (subst (λ ss. IsInside file movie earlier moof done before ss less) (sym m.0) (subst (λ n. IsInside file movie earlier moof done before states n) (sym m.1) h)))
  inside_all (b ∷ trafs) done before states new room less h placed m =
      let moved = m.2.0 in
      let traf = track_fragment_of (children_of b) in
      let known = moved_trex done before b states m.0 room m.1 h moved in
      let split = subst (AllByRecursion (IsPlacedWithin (length file))) (next_part (trexes_of movie) moof before moved.trex traf (said_by trafs) known) placed in
      let next = inside_more done before b states m.0 room m.1 h moved split.0 in
      let r = inside_all trafs (done ++ b ∷ []) (end_with moof before moved.trex traf) m.0 new m.1 less next split.1 m.2.1 in
      (r.0, subst (λ bs. IsInside file movie earlier moof bs r.0 new less) (append_assoc done (b ∷ []) trafs) r.1)

-- before the first `traf` of a `moof`
pub inside_none : (file : List ℕ) (movie : MovieTree) (earlier : List FragmentTree) (moof : ℕ) (states : List TrackState) (room : ℕ) → AreBehind file movie earlier states room → IsInside file movie earlier moof [] (pos moof) states room
inside_none file movie earlier moof states room h =
    let none : room + (counted movie earlier + 0) ≡ max_samples = ap (λ n. room + n) (no_more (counted movie earlier)) ∙ h.left in
    record {
      passed = subst (λ ps. HavePassed file movie ps (map track_seen states)) (sym (append-nil (parts_behind movie earlier))) (record { consistent = h.consistent; tracks = h.seen });
      left = none;
      split = λ more. refl;
    }
  where
    no_more : (n : ℕ) → n + 0 ≡ n
    no_more n = omega arith

pub parts_joined : (movie : MovieTree) (earlier : List FragmentTree) (t : FragmentTree) → parts_behind movie (earlier ++ t ∷ []) ≡ parts_behind movie earlier ++ parts_of (trexes_of movie) (fragment_of t)
parts_joined movie earlier t =
    ap (flat_map (parts_of (trexes_of movie))) (map-append fragment_of earlier (t ∷ [])) ∙ flat_map-append (parts_of (trexes_of movie)) (map fragment_of earlier) (fragment_of t ∷ [])
    ∙ ap (λ ps. parts_behind movie earlier ++ ps) (append-nil (parts_of (trexes_of movie) (fragment_of t)))

-- how many samples are named with one more
pub counted_more : (movie : MovieTree) (earlier : List FragmentTree) (t : FragmentTree) → counted movie (earlier ++ t ∷ []) ≡ counted movie earlier + trafs_total t.trafs
counted_more movie earlier t = joined (table_total movie.tracks) _ _ _ (sum-append (λ (e : FragmentTree). trafs_total e.trafs) earlier (t ∷ []))
  where
    joined : (tables before one all : ℕ) → all ≡ before + (one + 0) → tables + all ≡ (tables + before) + one
    joined tables before one all e = omega arith

-- the tracks behind some `traf`s of the next `moof`
pub passes_front : (file : List ℕ) (movie : MovieTree) (earlier : List FragmentTree) (moof : Box) (states new : List TrackState) (room less : ℕ) → IsMovieOf file movie → AreBehind file movie earlier states room → IsSoundFront (length file) (trexes_of movie) (tree_of moof)
    → IsMoofMovedOn moof states new room less → map track_seen new ≡ map (seen_behind movie (parts_behind movie (earlier ++ tree_of moof ∷ []))) movie.tracks
passes_front file movie earlier moof states new room less movie_is h sound moved =
    let r = inside_all file movie earlier moof.offset movie_is.sound.track_ids (of_kind (codes "traf") (children_of moof)) [] (pos moof.offset) states new room less (inside_none file movie earlier moof.offset states room h) sound.places moved in
    let passed = subst (λ ps. HavePassed file movie ps (map track_seen new)) (sym (parts_joined movie earlier (tree_of moof))) r.1.passed in
    passed.tracks

-- one more `moof` that was accepted
pub passes_moof : PassesMoof
passes_moof file movie earlier moof states new room less movie_is h sound moved =
    let t = tree_of moof in
    let trafs = of_kind (codes "traf") (children_of moof) in
    let r = inside_all file movie earlier moof.offset movie_is.sound.track_ids trafs [] (pos moof.offset) states new room less (inside_none file movie earlier moof.offset states room h) sound.places moved in
    let passed = subst (λ ps. HavePassed file movie ps (map track_seen new)) (sym (parts_joined movie earlier t)) r.1.passed in
    record {
      trees = all_push IsFragmentTree earlier t h.trees sound.tree;
      sound = all_push IsSoundFragment earlier t h.sound sound.leaves;
      consistent = passed.consistent;
      seen = passed.tracks;
      left = ap (λ n. less + n) (counted_more movie earlier t) ∙ r.1.left;
    }

-- before the first `moof`
pub begins_behind : BeginsBehind
begins_behind file movie states room e left = record {
  trees = tt;
  sound = tt;
  consistent = record { known = tt; indexes = tt; places = tt; groups = none movie.tracks; times = all_times movie.tracks };
  seen = e;
  left = ap (λ n. room + n) (no_more (table_total movie.tracks)) ∙ left;
}
  where
    none : (tracks : List TrackTree) → AllByRecursion (λ (t : TrackTree). Unit {0}) tracks
    none [] = tt
    none (t ∷ tracks) = (tt, none tracks)

    all_times : (tracks : List TrackTree) → AllByRecursion (λ (t : TrackTree). Unit {0}) tracks
    all_times tracks = none tracks

    no_more : (n : ℕ) → n + 0 ≡ n
    no_more n = omega arith

-- the defaults of the tracks are those of the `moov`
each_trex : (movie : MovieTree) (ps : List Part) (states : List TrackState) (tracks : List TrackTree) → map track_seen states ≡ map (seen_behind movie ps) tracks → AreTrexesOf (trexes_of movie) states
each_trex movie ps [] tracks e = tt
each_trex movie ps (s ∷ states) [] e = absurd cc
each_trex movie ps (s ∷ states) (t ∷ tracks) e =
    let same = head_is (track_seen s) (seen_behind movie ps t) (map track_seen states) (map (seen_behind movie ps) tracks) e in
    let id : (track_seen s).id ≡ (seen_behind movie ps t).id = ap (λ (x : TrackSeen). x.id) same in (
      ap (λ (x : TrackSeen). x.trex) same ∙ ap (trex_for (trexes_of movie)) (sym id),
      each_trex movie ps states tracks (tail_is (track_seen s) (seen_behind movie ps t) (map track_seen states) (map (seen_behind movie ps) tracks) e),
    )

pub trexes_behind : TrexesBehind
trexes_behind file movie earlier states room h = each_trex movie (parts_behind movie earlier) states movie.tracks h.seen
