-- What is so of the runs and of the `sbgp`s of a `traf` where their tests pass.
use Rattle.std.proofs.Common.{◌≡◌, ℕ, suc, ◌+◌, ◌-◌, ◌≤◌, Bool, true, false, List, [], ◌∷◌, length, None, inl, inr, refl, subst, arith}
use Rattle.std.specs.Prelude.{ℤ, nat_le, slice_get}
use Rattle.std.specs.List.{AllByRecursion}
use Rattle.std.proofs.lemmas.Bool.{cases_lt}
use Rattle.mp4_boxes.specs.format.Box.{Box}
use Rattle.mp4_boxes.specs.format.Layout.{trun, sbgp, row_count, IsSound}
use Rattle.mp4_boxes.specs.format.FirstFault.{Test, first_failed, naming, leaf_tests_with}
use Rattle.mp4_boxes.specs.declared.fault.Kind.{Kind}
use Rattle.mp4_boxes.specs.declared.fault.Kind.TheVariants.{SampleOutsideFile, TooManySamples}
use Rattle.mp4_tables.specs.format.Groups.{GroupKey, GroupRule, Grouping, group_test}
use Rattle.mp4_tables.specs.format.PlainSamples.{PlacedSample}
use Rattle.mp4_tables.specs.format.FirstFault.{group_tests}
use Rattle.mp4_tables.proofs.GroupsJudged.{rules_pass}
use Rattle.mp4_tables.proofs.GroupsKept.{found_none}
use Rattle.mp4_tables.proofs.InOrder.{both_pass, named_pass}
use Rattle.mp4_tables.proofs.LeafJudged.{le_yes, leaf_passes}
use Rattle.mp4_frag.specs.declared.trex.Trex.{Trex}
use Rattle.mp4_frag.specs.format.Fragments.{SampleRun, TrackFragment}
use Rattle.mp4_frag.specs.format.FragmentSamples.{Part, runs_samples, run_start, run_samples, end_of_data}
use Rattle.mp4_frag.specs.format.FragmentRules.{is_within}
use Rattle.mp4_present.specs.format.Judge.{run_tests, group_boxes_tests}
use Rattle.mp4_present.specs.format.Stands.{run_total}

-- as many lists of samples as runs
pub as_many_runs : (trex : Trex) (traf : TrackFragment) (base before : ℤ) (runs : List SampleRun) → length (runs_samples trex traf base before runs) ≡ length runs
as_many_runs trex traf base before [] = refl
as_many_runs trex traf base before (run ∷ runs) =
    let at = run_start base before run.data_offset in
    omega (arith, as_many_runs trex traf base (end_of_data at (run_samples trex traf run.first_sample_flags at run.rows)) runs)

-- two tests that pass
two_pass : {F : Type 0} (a b : Bool) (k l : F) → first_failed ((a, k) ∷ (b, l) ∷ []) ≡ None → (a ≡ true) × (b ≡ true)
two_pass true true k l e = (refl, refl)
two_pass true false k l e = absurd cc
two_pass false b k l e = absurd cc

-- what holds of runs whose tests pass: they are sound, their samples lie in the file, and there is room for them
pub record RunsPass (file_length room : ℕ) (placed : List (List PlacedSample)) (runs : List Box) : Type 0 where
  pub sound : AllByRecursion (λ (b : Box). IsSound trun b.payload) runs
  pub within : AllByRecursion (λ (samples : List PlacedSample). is_within file_length samples ≡ true) placed
  pub few : run_total runs ≤ room

-- so it is of all runs
pub runs_pass : (file_length room : ℕ) (placed : List (List PlacedSample)) (runs : List Box) → length placed ≡ length runs → first_failed (run_tests file_length room placed runs) ≡ None → RunsPass file_length room placed runs
runs_pass file_length room [] [] n e = record { sound = tt; within = tt; few = omega arith }
runs_pass file_length room [] (b ∷ runs) n e = absurd (omega (arith, n))
runs_pass file_length room (samples ∷ placed) [] n e = absurd (omega (arith, n))
runs_pass file_length room (samples ∷ placed) (b ∷ runs) n e =
    let m = row_count trun b.payload in
    let rules : List (Test Kind) = (nat_le m room, TooManySamples) ∷ (is_within file_length samples, SampleOutsideFile) ∷ [] in
    let p = both_pass (naming b (leaf_tests_with trun rules b.payload)) (run_tests file_length (room - m) placed runs) e in
    let own = leaf_passes trun rules b.payload (named_pass b (leaf_tests_with trun rules b.payload) p.0) in
    let kept = two_pass (nat_le m room) (is_within file_length samples) TooManySamples SampleOutsideFile own.1 in
    let le = le_yes m room kept.0 in
    let more = runs_pass file_length (room - m) placed runs (omega (arith, n)) p.1 in
    let rest = more.few in
    record { sound = (own.0, more.sound); within = (kept.1, more.within); few = omega (arith, le, rest) }

-- where there is no `sbgp`, each rule is kept
pub none_kept : (rule : GroupRule) (n : ℕ) (keys : List GroupKey) (gs : List Grouping) (k : ℕ) → slice_get gs k ≡ None → group_test rule n keys gs k ≡ true
none_kept rule n keys gs k e = rw e refl

-- what holds of `sbgp`s whose tests pass: they are sound, and each rule is kept
pub groups_pass : (n : ℕ) (keys : List GroupKey) (part : Part) (k : ℕ) (boxes : List Box) → length part.groups ≤ k + length boxes → first_failed (group_boxes_tests n keys part k boxes) ≡ None
    → AllByRecursion (λ (b : Box). IsSound sbgp b.payload) boxes × ((rule : GroupRule) (j : ℕ) → k ≤ j → group_test rule n keys part.groups j ≡ true)
groups_pass n keys part k [] few e = (tt, λ rule j le. none_kept rule n keys part.groups j (found_none part.groups j (omega (arith, few, le))))
groups_pass n keys part k (b ∷ boxes) few e =
    let p = both_pass (naming b (leaf_tests_with sbgp (group_tests n keys part.groups k) b.payload)) (group_boxes_tests n keys part (suc k) boxes) e in
    let own = leaf_passes sbgp (group_tests n keys part.groups k) b.payload (named_pass b (leaf_tests_with sbgp (group_tests n keys part.groups k) b.payload) p.0) in
    let more = groups_pass n keys part (suc k) boxes (omega (arith, few)) p.1 in
    let rules = rules_pass n keys part.groups k own.1 in (
      (own.0, more.0),
      λ rule j le. elim (cases_lt k j) [
        | inl lt ↦ more.1 rule j (omega (arith, lt))
        | inr ge ↦ let at : k ≡ j = omega (arith, le, ge) in subst (λ (i : ℕ). group_test rule n keys part.groups i ≡ true) at (rules rule)
      ],
    )
