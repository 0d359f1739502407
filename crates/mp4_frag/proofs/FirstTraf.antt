-- The first fault of a `traf`, part by part.
use Rattle.std.proofs.Common.{◌≡◌, ℕ, ℤ, true, false, List, [], ◌∷◌, ◌++◌, Option, Some, None, Ok, Err, refl, sym, ap, ◌∙◌}
use Rattle.std.specs.Prelude.{codes, not}
use Rattle.mp4_boxes.specs.format.Box.{Box, box_container}
use Rattle.mp4_boxes.specs.format.BoxFaults.{fault_of}
use Rattle.mp4_boxes.specs.format.Children.{of_kind}
use Rattle.mp4_boxes.specs.format.Layout.{tfhd}
use Rattle.mp4_boxes.specs.format.FirstFault.{Test, first_failed, naming, leaf_tests, children_or_fault}
use Rattle.mp4_boxes.specs.declared.rule.Rule.TheVariants as rules
use Rattle.mp4_boxes.specs.declared.fault.Fault.{Fault}
use Rattle.mp4_boxes.specs.declared.fault.Kind.TheVariants.{UnknownTrack, BadDescriptionIndex, Gap}
use Rattle.mp4_tables.specs.words.Keys.{keys_seen}
use Rattle.mp4_frag.specs.words.Finding.{track_with}
use Rattle.mp4_frag.specs.words.FragmentTests.{runs_tests, traf_groups_tests}
use Rattle.mp4_frag.specs.format.FragmentSamples.{base_of}
use Rattle.mp4_frag.specs.words.Reading.{inheritance}
use Rattle.mp4_frag.specs.words.GroupsJudged.{groups_in}
use Rattle.mp4_frag.specs.words.Passing.{is_late_at}
use Rattle.mp4_frag.specs.words.RunsJudged.{children_of, runs_in, runs_total}
use Rattle.mp4_frag.specs.words.TrafFaults.{traf_in, IsOnly}
use Rattle.mp4_frag.specs.words.TrafTests.{time_tests, late_tests, lacks, known_tests, trex_tests, track_tests, traf_fault}
use Rattle.mp4_frag.specs.declared.heads.Inherited.{Inherited}
use Rattle.mp4_frag.specs.declared.sample_runs.Judged.{Judged}
use Rattle.mp4_frag.specs.declared.state.TrackState.{TrackState}
use Rattle.mp4_frag.specs.declared.trex.Trex.{Trex}
use Rattle.mp4_frag.proofs.FirstRun.{behind_all}
use Rattle.mp4_frag.proofs.RunsPassed.{judged_by}
use Rattle.mp4_frag.proofs.TrafRefused.{IsOpened}
use Rattle.mp4_tables.proofs.InOrder.{fails_first}

abbrev head_tests : Box → List (Test Fault)
head_tests h = naming h (leaf_tests tfhd h.payload)

pub list_first : (L moof : ℕ) (before : ℤ) (tracks : List TrackState) (room : ℕ) (b : Box) (f : Fault) → children_or_fault rules.TrackFragment (box_container b) ≡ Err f → traf_fault L moof before tracks room b ≡ Some f
list_first L moof before tracks room b f e = rw e refl

module _ (L moof : ℕ) (before : ℤ) (tracks : List TrackState) (room : ℕ) (b h : Box) (listed : children_or_fault rules.TrackFragment (box_container b) ≡ Ok (children_of b)) (only : IsOnly (codes "tfhd") b h) where
  pub head_first : (f : Fault) → first_failed (naming h (leaf_tests tfhd h.payload)) ≡ Some f → traf_fault L moof before tracks room b ≡ Some f
  head_first f e = rw (listed, only) (fails_first (head_tests h) (track_tests L moof before room b h (track_with (traf_in b).id tracks)) f e)

  pub behind_head : (o : Option Fault) → first_failed (naming h (leaf_tests tfhd h.payload)) ≡ None → first_failed (track_tests L moof before room b h (track_with (traf_in b).id tracks)) ≡ o → traf_fault L moof before tracks room b ≡ o
  behind_head o e g = rw (listed, only) (behind_all (head_tests h) (track_tests L moof before room b h (track_with (traf_in b).id tracks)) o e g)

pub no_track_first : (L moof : ℕ) (before : ℤ) (room : ℕ) (b h : Box) (t : Option TrackState) → t ≡ None → first_failed (track_tests L moof before room b h t) ≡ Some (fault_of UnknownTrack h)
no_track_first L moof before room b h t e = rw e refl

pub no_trex_first : (L moof : ℕ) (before : ℤ) (room : ℕ) (b h : Box) (t : Option TrackState) (state : TrackState) → t ≡ Some state → state.trex ≡ None → first_failed (track_tests L moof before room b h t) ≡ Some (fault_of UnknownTrack h)
no_trex_first L moof before room b h t state e n = ap (λ (o : Option TrackState). first_failed (track_tests L moof before room b h o)) e ∙ ap (λ (x : Option Trex). first_failed (trex_tests L moof before room b h state x)) n

pub some_track : (L moof : ℕ) (before : ℤ) (room : ℕ) (b h : Box) (t : Option TrackState) (state : TrackState) (trex : Trex) → t ≡ Some state → state.trex ≡ Some trex
    → first_failed (track_tests L moof before room b h t) ≡ first_failed (known_tests (judged_by L (inheritance (traf_in b) trex) (base_of moof before (traf_in b))) room b h state)
some_track L moof before room b h t state trex e n = ap (λ (o : Option TrackState). first_failed (track_tests L moof before room b h o)) e ∙ ap (λ (x : Option Trex). first_failed (trex_tests L moof before room b h state x)) n

-- what is known of the track, as it was worked out
pub known_first : (L moof room : ℕ) (before base : ℤ) (tracks : List TrackState) (b h : Box) (state : TrackState) (trex : Trex) (inherited : Inherited) → IsOpened moof before base tracks b h state trex inherited
    → first_failed (track_tests L moof before room b h (track_with (traf_in b).id tracks)) ≡ first_failed (known_tests (judged_by L inherited base) room b h state)
known_first L moof room before base tracks b h state trex inherited o =
    ap (λ (t : Option TrackState). first_failed (track_tests L moof before room b h t)) o.track.found
    ∙ ap (λ (x : Option Trex). first_failed (trex_tests L moof before room b h state x)) o.track.defaults
    ∙ (λ i. first_failed (known_tests (judged_by L (sym o.taken i) (sym o.from i)) room b h state))

-- ---- the parts behind

module _ (judged : Judged) (room : ℕ) (b h : Box) (t : TrackState) where
  n : ℕ
  n = runs_total (runs_in b)

  abbrev times : List Box
  times = of_kind (codes "tfdt") (children_of b)

  abbrev runs : List (Test Fault)
  runs = runs_tests judged judged.base room (runs_in b)

  abbrev groups : List (Test Fault)
  groups = traf_groups_tests (runs_total (runs_in b)) (keys_seen t.keys) [] (groups_in b)

  abbrev late : List (Test Fault)
  late = late_tests t (traf_in b).decode_time (runs_total (runs_in b)) times

  abbrev described : List (Test Fault)
  described = (not (lacks t judged.inherited.description (runs_total (runs_in b))), fault_of BadDescriptionIndex h) ∷ (groups ++ late)

  pub time_first : (f : Fault) → first_failed (time_tests (of_kind (codes "tfdt") (children_of b))) ≡ Some f → first_failed (known_tests judged room b h t) ≡ Some f
  time_first f e = fails_first (time_tests times) (runs ++ described) f e

  pub runs_then : (f : Fault) → first_failed (time_tests (of_kind (codes "tfdt") (children_of b))) ≡ None → first_failed (runs_tests judged judged.base room (runs_in b)) ≡ Some f → first_failed (known_tests judged room b h t) ≡ Some f
  runs_then f e g = behind_all (time_tests times) (runs ++ described) (Some f) e (fails_first runs described f g)

  pub description_then : first_failed (time_tests (of_kind (codes "tfdt") (children_of b))) ≡ None → first_failed (runs_tests judged judged.base room (runs_in b)) ≡ None → lacks t judged.inherited.description (runs_total (runs_in b)) ≡ true
      → first_failed (known_tests judged room b h t) ≡ Some (fault_of BadDescriptionIndex h)
  description_then e g l = behind_all (time_tests times) (runs ++ described) (Some (fault_of BadDescriptionIndex h)) e (behind_all runs described (Some (fault_of BadDescriptionIndex h)) g (rw l refl))

  pub groups_then : (f : Fault) → first_failed (time_tests (of_kind (codes "tfdt") (children_of b))) ≡ None → first_failed (runs_tests judged judged.base room (runs_in b)) ≡ None → lacks t judged.inherited.description (runs_total (runs_in b)) ≡ false
      → first_failed (traf_groups_tests (runs_total (runs_in b)) (keys_seen t.keys) [] (groups_in b)) ≡ Some f → first_failed (known_tests judged room b h t) ≡ Some f
  groups_then f e g l k = behind_all (time_tests times) (runs ++ described) (Some f) e (behind_all runs described (Some f) g (rw l (fails_first groups late f k)))

  pub rest_then : (o : Option Fault) → first_failed (time_tests (of_kind (codes "tfdt") (children_of b))) ≡ None → first_failed (runs_tests judged judged.base room (runs_in b)) ≡ None → lacks t judged.inherited.description (runs_total (runs_in b)) ≡ false
      → first_failed (traf_groups_tests (runs_total (runs_in b)) (keys_seen t.keys) [] (groups_in b)) ≡ None → first_failed (late_tests t (traf_in b).decode_time (runs_total (runs_in b)) (of_kind (codes "tfdt") (children_of b))) ≡ o → first_failed (known_tests judged room b h t) ≡ o
  rest_then o e g l k m = behind_all (time_tests times) (runs ++ described) o e (behind_all runs described o g (rw l (behind_all groups late o k m)))

-- samples that are late, and samples that aren't
pub late_first : (t : TrackState) (time : Option ℕ) (n : ℕ) (times : List Box) (d : Box) → times ≡ d ∷ [] → is_late_at t time n ≡ true → first_failed (late_tests t time n times) ≡ Some (fault_of Gap d)
late_first t time n times d e l = rw (e, l) refl

pub late_none : (t : TrackState) (time : Option ℕ) (n : ℕ) (times : List Box) → is_late_at t time n ≡ false → first_failed (late_tests t time n times) ≡ None
late_none t time n [] l = refl
late_none t time n (d ∷ times) l = rw l refl
