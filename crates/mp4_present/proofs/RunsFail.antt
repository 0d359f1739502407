-- What is so of the runs and of the `sbgp`s of a `traf` where one of their tests is the first to fail.
use Rattle.std.proofs.Common.{◌≡◌, ℕ, suc, ◌+◌, ◌-◌, ◌<◌, ◌≤◌, Bool, true, false, List, [], ◌∷◌, ◌++◌, length, Some, None, inl, inr, refl, ap, subst, ◌∙◌, arith}
use Rattle.std.specs.Prelude.{◌⊎◌, nat_le, slice_get}
use Rattle.std.specs.List.{AllByRecursion}
use Rattle.mp4_boxes.specs.format.Box.{Box}
use Rattle.mp4_boxes.specs.format.BoxFaults.{Fails, fault_of}
use Rattle.mp4_boxes.specs.format.Layout.{Leaf, trun, sbgp, row_count, IsReadable, IsSound}
use Rattle.mp4_boxes.specs.format.FirstFault.{Test, first_failed, naming, leaf_tests_with}
use Rattle.mp4_boxes.specs.declared.fault.Fault.{Fault}
use Rattle.mp4_boxes.specs.declared.fault.Kind.{Kind}
use Rattle.mp4_boxes.specs.declared.fault.Kind.TheVariants.{SampleOutsideFile, TooManySamples}
use Rattle.mp4_tables.specs.format.Groups.{GroupKey, GroupRule, group_kind, group_test}
use Rattle.mp4_tables.specs.format.PlainSamples.{PlacedSample}
use Rattle.mp4_tables.specs.format.FirstFault.{group_tests}
use Rattle.mp4_tables.proofs.GroupsJudged.{rule_fails}
use Rattle.mp4_tables.proofs.InOrder.{either_fails, named_kind, named_pass}
use Rattle.mp4_tables.proofs.LeafJudged.{le_yes, le_no, leaf_passes, leaf_fails}
use Rattle.mp4_frag.specs.format.FragmentSamples.{Part}
use Rattle.mp4_frag.specs.format.FragmentRules.{is_within}
use Rattle.mp4_present.specs.format.Judge.{run_tests, group_boxes_tests}
use Rattle.mp4_present.specs.format.Stands.{run_total}

-- a fault of a box as a leaf
pub record FailsAs (leaf : Leaf) (b : Box) (f : Fault) : Type 0 where
  pub kind : Kind
  pub fails : Fails leaf b.payload kind
  pub named : f ≡ fault_of kind b

-- ---- runs

-- there is no room for the samples of a run behind others
pub record ManyIn (room : ℕ) (front : List Box) (run : Box) (f : Fault) : Type 0 where
  pub readable : IsReadable trun run.payload
  pub many : room - run_total front < row_count trun run.payload
  pub named : f ≡ fault_of TooManySamples run

-- a sample of a run behind others does not lie in the file
pub record OutsideIn (file_length : ℕ) (placed : List (List PlacedSample)) (front : List Box) (run : Box) (f : Fault) : Type 0 where
  pub readable : IsReadable trun run.payload
  pub samples : List PlacedSample
  pub there : slice_get placed (length front) ≡ Some samples
  pub outside : is_within file_length samples ≡ false
  pub named : f ≡ fault_of SampleOutsideFile run

abbrev pub RunFails : ℕ → ℕ → List (List PlacedSample) → List Box → Box → Fault → Type 0
RunFails file_length room placed front run f = FailsAs trun run f ⊎ (ManyIn room front run f ⊎ OutsideIn file_length placed front run f)

-- the first run that fails: those before it are sound, and there is room for them
pub record FailingRun (file_length room : ℕ) (placed : List (List PlacedSample)) (runs : List Box) (f : Fault) : Type 0 where
  pub front : List Box
  pub run : Box
  pub after : List Box
  pub are : runs ≡ front ++ run ∷ after
  pub sound : AllByRecursion (λ (b : Box). IsSound trun b.payload) front
  pub fits : run_total front ≤ room
  pub fault : RunFails file_length room placed front run f

-- two tests of which one fails
two_fail : {F : Type 0} (a b : Bool) (k l f : F) → first_failed ((a, k) ∷ (b, l) ∷ []) ≡ Some f → ((a ≡ false) × (f ≡ k)) ⊎ ((b ≡ false) × (f ≡ l))
two_fail false b k l f e = inl (refl, cc)
two_fail true false k l f e = inr (refl, cc)
two_fail true true k l f e = absurd cc

-- of two tests that pass, the first
first_passes : {F : Type 0} (a b : Bool) (k l : F) → first_failed ((a, k) ∷ (b, l) ∷ []) ≡ None → a ≡ true
first_passes true b k l e = refl
first_passes false b k l e = absurd cc

behind_run : (room m n row : ℕ) → m ≤ room → (room - m) - n < row → room - (m + n) < row
behind_run room m n row le lt = omega arith

within_run : (room m n : ℕ) → m ≤ room → n ≤ room - m → m + n ≤ room
within_run room m n le few = omega arith

module _ (file_length : ℕ) (f : Fault) where
  -- one more run in front
  fails_behind : (room : ℕ) (samples : List PlacedSample) (placed : List (List PlacedSample)) (b : Box) (runs : List Box) → IsSound trun b.payload → row_count trun b.payload ≤ room → FailingRun file_length (room - row_count trun b.payload) placed runs f
      → FailingRun file_length room (samples ∷ placed) (b ∷ runs) f
  fails_behind room samples placed b runs s le q = record {
    front = b ∷ q.front;
    run = q.run;
    after = q.after;
    are = ap (λ (bs : List Box). b ∷ bs) q.are;
    sound = (s, q.sound);
    fits = within_run room (row_count trun b.payload) (run_total q.front) le q.fits;
    fault = later q.fault;
  }
    where
      later : RunFails file_length (room - row_count trun b.payload) placed q.front q.run f → RunFails file_length room (samples ∷ placed) (b ∷ q.front) q.run f
      later (inl own) = inl own
      later (inr (inl m)) = inr (inl (record { readable = m.readable; many = behind_run room (row_count trun b.payload) (run_total q.front) (row_count trun q.run.payload) le m.many; named = m.named }))
      later (inr (inr o)) = inr (inr (record { readable = o.readable; samples = o.samples; there = o.there; outside = o.outside; named = o.named }))

  -- the run at hand
  fails_here : (room : ℕ) (samples : List PlacedSample) (placed : List (List PlacedSample)) (b : Box) (runs : List Box) → RunFails file_length room (samples ∷ placed) [] b f → FailingRun file_length room (samples ∷ placed) (b ∷ runs) f
  fails_here room samples placed b runs q = record { front = []; run = b; after = runs; are = refl; sound = tt; fits = omega arith; fault = q }

  -- the first test of runs that fails is that of one of them
  pub runs_fail : (room : ℕ) (placed : List (List PlacedSample)) (runs : List Box) → first_failed (run_tests file_length room placed runs) ≡ Some f → FailingRun file_length room placed runs f
  runs_fail room [] [] e = absurd cc
  runs_fail room [] (b ∷ runs) e = absurd cc
  runs_fail room (samples ∷ placed) [] e = absurd cc
  runs_fail room (samples ∷ placed) (b ∷ runs) e =
      let m = row_count trun b.payload in
      let rules : List (Test Kind) = (nat_le m room, TooManySamples) ∷ (is_within file_length samples, SampleOutsideFile) ∷ [] in
      elim (either_fails (naming b (leaf_tests_with trun rules b.payload)) (run_tests file_length (room - m) placed runs) f e) [
        | inl here ↦
            let n = named_kind b (leaf_tests_with trun rules b.payload) f here in
            fails_here room samples placed b runs (elim (leaf_fails trun rules b.payload n.0 n.1) [
              | inl own ↦ inl (record { kind = n.0; fails = own; named = n.2 })
              | inr r ↦ elim (two_fail (nat_le m room) (is_within file_length samples) TooManySamples SampleOutsideFile n.0 r.1) [
                | inl x ↦ let many = le_no m room x.0 in inr (inl (record { readable = r.0; many = omega (arith, many); named = n.2 ∙ ap (λ (kind : Kind). fault_of kind b) x.1 }))
                | inr x ↦ inr (inr (record { readable = r.0; samples = samples; there = refl; outside = x.0; named = n.2 ∙ ap (λ (kind : Kind). fault_of kind b) x.1 }))
              ]
            ])
        | inr later ↦
            let own = leaf_passes trun rules b.payload (named_pass b (leaf_tests_with trun rules b.payload) later.0) in
            fails_behind room samples placed b runs own.0 (le_yes m room (first_passes (nat_le m room) (is_within file_length samples) TooManySamples SampleOutsideFile own.1)) (runs_fail (room - m) placed runs later.1)
      ]

-- ---- sample groups

-- a rule that an `sbgp` does not keep
pub record Breaks (n : ℕ) (keys : List GroupKey) (part : Part) (k : ℕ) (g : Box) (f : Fault) : Type 0 where
  pub readable : IsReadable sbgp g.payload
  pub rule : GroupRule
  pub broken : group_test rule n keys part.groups k ≡ false
  pub named : f ≡ fault_of (group_kind rule) g

-- the first `sbgp` that fails, behind k others: those before it are sound
pub record FailingGroup (n : ℕ) (keys : List GroupKey) (part : Part) (k : ℕ) (boxes : List Box) (f : Fault) : Type 0 where
  pub front : List Box
  pub group : Box
  pub after : List Box
  pub are : boxes ≡ front ++ group ∷ after
  pub sound : AllByRecursion (λ (b : Box). IsSound sbgp b.payload) front
  pub fault : FailsAs sbgp group f ⊎ Breaks n keys part (k + length front) group f

-- the first test of `sbgp`s that fails is that of one of them
pub groups_fail : (n : ℕ) (keys : List GroupKey) (part : Part) (k : ℕ) (boxes : List Box) (f : Fault) → first_failed (group_boxes_tests n keys part k boxes) ≡ Some f → FailingGroup n keys part k boxes f
groups_fail n keys part k [] f e = absurd cc
groups_fail n keys part k (b ∷ boxes) f e =
    let rules : List (Test Kind) = group_tests n keys part.groups k in
    elim (either_fails (naming b (leaf_tests_with sbgp rules b.payload)) (group_boxes_tests n keys part (suc k) boxes) f e) [
      | inl here ↦
          let m = named_kind b (leaf_tests_with sbgp rules b.payload) f here in
          record {
            front = [];
            group = b;
            after = boxes;
            are = refl;
            sound = tt;
            fault = elim (leaf_fails sbgp rules b.payload m.0 m.1) [
              | inl own ↦ inl (record { kind = m.0; fails = own; named = m.2 })
              | inr r ↦
                  let q = rule_fails n keys part.groups k m.0 r.1 in
                  let at : k + 0 ≡ k = omega arith in
                  inr (record { readable = r.0; rule = q.0; broken = ap (group_test q.0 n keys part.groups) at ∙ q.1; named = m.2 ∙ ap (λ (kind : Kind). fault_of kind b) q.2 })
            ];
          }
      | inr later ↦
          let own = leaf_passes sbgp rules b.payload (named_pass b (leaf_tests_with sbgp rules b.payload) later.0) in
          let q = groups_fail n keys part (suc k) boxes f later.1 in
          let at : suc k + length q.front ≡ k + length (b ∷ q.front) = omega arith in
          record {
            front = b ∷ q.front;
            group = q.group;
            after = q.after;
            are = ap (λ (bs : List Box). b ∷ bs) q.are;
            sound = (own.0, q.sound);
            fault = subst (λ (i : ℕ). FailsAs sbgp q.group f ⊎ Breaks n keys part i q.group f) at q.fault;
          }
    ]
