-- What is tested of a `traf`, in order, behind what is known of the tracks.
use Rattle.std.specs.Prelude.{◌≡◌, ◌⊎◌, ◌+◌, ℕ, ℤ, pos, nat_lt, not, ◌&&◌, Bool, false, List, [], ◌∷◌, ◌++◌, Option, Some, None, Result, Ok, Err, MatchResult, codes}
use Rattle.mp4_boxes.specs.format.Box.{Box, box_container}
use Rattle.mp4_boxes.specs.format.BoxFaults.{fault_of}
use Rattle.mp4_boxes.specs.format.Children.{of_kind}
use Rattle.mp4_boxes.specs.format.Layout.{tfhd, tfdt}
use Rattle.mp4_boxes.specs.format.FirstFault.{Test, first_failed, naming, leaf_tests, children_or_fault}
use Rattle.mp4_boxes.specs.declared.rule.Rule.{Rule}
use Rattle.mp4_boxes.specs.declared.rule.Rule.TheVariants as rules
use Rattle.mp4_boxes.specs.declared.fault.Fault.{Fault}
use Rattle.mp4_boxes.specs.declared.fault.Kind.TheVariants.{UnknownTrack, BadDescriptionIndex, Gap}
use Rattle.mp4_tables.specs.words.Keys.{keys_seen}
use Rattle.mp4_tables.specs.format.TableRules.{is_index}
use Rattle.mp4_frag.specs.format.FragmentSamples.{base_of}
use Rattle.mp4_frag.specs.words.Finding.{track_with}
use Rattle.mp4_frag.specs.words.FragmentTests.{runs_tests, traf_groups_tests}
use Rattle.mp4_frag.specs.words.GroupsJudged.{groups_in}
use Rattle.mp4_frag.specs.words.Judged.{IsTrafSound, IsMovedOn}
use Rattle.mp4_frag.specs.words.Passing.{is_late_at}
use Rattle.mp4_frag.specs.words.Reading.{inheritance}
use Rattle.mp4_frag.specs.words.RunsJudged.{children_of, runs_in, runs_total}
use Rattle.mp4_frag.specs.words.TrafFaults.{traf_in}
use Rattle.mp4_frag.specs.declared.sample_runs.Judged.{Judged}
use Rattle.mp4_frag.specs.declared.state.TrackState.{TrackState}
use Rattle.mp4_frag.specs.declared.trex.Trex.{Trex}

-- the boxes of a box under a rule are those in it, or this is the first fault of their list
pub record ListsBoxes {T : Type 0} (rule : Rule) (b : Box) (result : Result T Fault) : Type 0 where
  pub names : MatchResult result
      (λ _. children_or_fault rule (box_container b) ≡ Ok (children_of b))
      (λ f. children_or_fault rule (box_container b) ≡ Err f)

-- of the one box that there may be
abbrev pub for_only : (Box → List (Test Fault)) → List Box → List (Test Fault)
for_only tests [] = []
for_only tests (b ∷ boxes) = tests b

abbrev pub time_tests : List Box → List (Test Fault)
time_tests times = for_only (λ d. naming d (leaf_tests tfdt d.payload)) times

abbrev pub late_tests : TrackState → Option ℕ → ℕ → List Box → List (Test Fault)
late_tests t time n times = for_only (λ d. (not (is_late_at t time n), fault_of Gap d) ∷ []) times

-- whether samples have a description that their track has not
abbrev pub lacks : TrackState → ℕ → ℕ → Bool
lacks t index n = nat_lt 0 n && not (is_index t.descriptions index)

-- behind its `tfhd`, where this is what is known of the track
abbrev pub known_tests : Judged → ℕ → Box → Box → TrackState → List (Test Fault)
known_tests judged room b h t =
    let n = runs_total (runs_in b) in
    let times = of_kind (codes "tfdt") (children_of b) in
    time_tests times ++ (runs_tests judged judged.base room (runs_in b)
    ++ ((not (lacks t judged.inherited.description n), fault_of BadDescriptionIndex h)
    ∷ (traf_groups_tests n (keys_seen t.keys) [] (groups_in b)
    ++ late_tests t (traf_in b).decode_time n times)))

abbrev pub trex_tests : ℕ → ℕ → ℤ → ℕ → Box → Box → TrackState → Option Trex
    → List (Test Fault)
trex_tests file_length moof before room b h t None = (false, fault_of UnknownTrack h) ∷ []
trex_tests file_length moof before room b h t (Some trex) = known_tests (record {
  file_len = file_length;
  base = base_of moof before (traf_in b);
  inherited = inheritance (traf_in b) trex;
}) room b h t

abbrev pub track_tests : ℕ → ℕ → ℤ → ℕ → Box → Box → Option TrackState → List (Test Fault)
track_tests file_length moof before room b h None = (false, fault_of UnknownTrack h) ∷ []
track_tests file_length moof before room b h (Some t) =
    trex_tests file_length moof before room b h t t.trex

abbrev pub traf_tests : ℕ → ℕ → ℤ → List TrackState → ℕ → Box → List (Test Fault)
traf_tests file_length moof before tracks room b =
    for_only (λ h. naming h (leaf_tests tfhd h.payload)
    ++ track_tests file_length moof before room b h (track_with (traf_in b).id tracks))
    (of_kind (codes "tfhd") (children_of b))

-- the first fault of a `traf`: of the list of its boxes, then of these
abbrev pub traf_fault : ℕ → ℕ → ℤ → List TrackState → ℕ → Box → Option Fault
traf_fault file_length moof before tracks room b =
    by (children_or_fault rules.TrackFragment (box_container b))
  where
    by : Result (List Box) Fault → Option Fault
    by (Err f) = Some f
    by (Ok boxes) = first_failed (traf_tests file_length moof before tracks room b)

-- it is named, and there is none at Ok
pub record NamesOne {T : Type 0} (first : Option Fault) (result : Result T Fault) : Type 0 where
  pub names : MatchResult result (λ _. first ≡ None) (λ f. first ≡ Some f)

-- ---- all `traf`s of a `moof`

-- This is the first fault of these `traf`s, or there is none: that of the first, or where it has
-- none and the tracks are moved on by it, that of those behind it.
abbrev pub TrafsFirst : ℕ → ℕ → ℤ → List TrackState → ℕ → List Box → Option Fault → Type 0
TrafsFirst file_length moof before tracks room [] o = o ≡ None
TrafsFirst file_length moof before tracks room (b ∷ trafs) o =
    ((f : Fault) × (traf_fault file_length moof before tracks room b ≡ Some f) × (o ≡ Some f))
    ⊎ ((ends : ℤ) × (between : List TrackState) × (rest : ℕ)
    × ((traf_fault file_length moof before tracks room b ≡ None)
    × IsTrafSound file_length moof before tracks (children_of b) ends
    × IsMovedOn moof before (children_of b) tracks between room rest
    × TrafsFirst file_length moof ends between rest trafs o))

-- the first fault of a `moof`: of the list of its boxes, then of its `traf`s
abbrev pub MoofFirst : ℕ → List TrackState → ℕ → Box → Option Fault → Type 0
MoofFirst file_length tracks room moof o =
    ((f : Fault) × (children_or_fault rules.MovieFragment (box_container moof) ≡ Err f)
    × (o ≡ Some f))
    ⊎ ((children_or_fault rules.MovieFragment (box_container moof) ≡ Ok (children_of moof))
    × TrafsFirst file_length moof.offset (pos moof.offset) tracks room
    (of_kind (codes "traf") (children_of moof)) o)

-- an answer names the first fault, and is Ok where there is none
pub record NamesFirst {T : Type 0} (IsFirst : Option Fault → Type 0) (result : Result T Fault)
    : Type 0 where
  pub names : MatchResult result (λ _. IsFirst None) (λ f. IsFirst (Some f))
