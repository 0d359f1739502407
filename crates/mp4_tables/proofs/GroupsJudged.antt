-- What is so of the sample groups of a track where their tests pass, and where one is the first to fail.
use Rattle.std.proofs.Common.{◌≡◌, ℕ, suc, ◌+◌, ◌≤◌, Bool, true, false, cond, List, [], ◌∷◌, ◌++◌, length, Option, Some, None, inl, inr, refl, sym, ap, subst, ◌∙◌, arith}
use Rattle.std.specs.Prelude.{◌⊎◌, codes, bytes_eq}
use Rattle.std.specs.List.{slice_get}
use Rattle.std.proofs.lemmas.Bool.{cases_lt}
use Rattle.mp4_boxes.specs.format.Box.{Box, Container}
use Rattle.mp4_boxes.specs.format.Children.{Holds, of_kind, is_among, sample_sizes}
use Rattle.mp4_boxes.specs.format.Layout.{Leaf, sbgp, sgpd, IsReadable, IsSound}
use Rattle.mp4_boxes.specs.format.Places.{leaf_of, ruled, IsSoundAs}
use Rattle.mp4_boxes.specs.format.BoxFaults.{fault_of}
use Rattle.mp4_boxes.specs.format.FirstFault.{Test, first_failed, naming, leaf_tests, leaf_tests_with}
use Rattle.mp4_boxes.specs.declared.rule.Rule.TheVariants.{SampleTable}
use Rattle.mp4_boxes.specs.declared.fault.Fault.{Fault}
use Rattle.mp4_boxes.specs.declared.fault.Kind.{Kind}
use Rattle.mp4_boxes.specs.declared.fault.Kind.TheVariants.{DuplicateBox, BadValue, CountMismatch}
use Rattle.mp4_boxes.proofs.Among.{of_kind-split}
use Rattle.mp4_boxes.proofs.Sound.{same_kind}
use Rattle.mp4_boxes.proofs.Plain.{false_true}
use Rattle.mp4_tables.specs.format.Groups.{GroupKey, Grouping, GroupRule, one_of_key, few_keys, index_range, group_counts, group_kind, group_test, group_reads}
use Rattle.mp4_tables.specs.format.Tables.{tables_of}
use Rattle.mp4_tables.specs.format.TableRules.{Surroundings, table_group, reads, AreReadable, GroupsReadable, IsTableFault}
use Rattle.mp4_tables.specs.format.FirstFault.{group_tests, groups_tests}
use Rattle.mp4_tables.specs.words.Leaves.{FailsAs, IsLeafFaultAmong}
use Rattle.mp4_tables.proofs.InOrder.{both_pass, either_fails, named_kind, named_pass}
use Rattle.mp4_tables.proofs.LeafJudged.{leaf_passes, leaf_fails}
use Rattle.mp4_tables.proofs.AmongTypes.{AllAmong}
use Rattle.mp4_tables.proofs.FirstJudged.{SoundTable}
use Rattle.mp4_tables.proofs.ChunkReads.{no_readable}
use Rattle.mp4_tables.proofs.GroupsKept.{found_none, test_none}
use Rattle.mp4_tables.proofs.GroupWalks.{found_there, groups_readable}

-- ---- the rules of one

-- where no test of the k-th fails, it keeps each rule
pub rules_pass : (n : ℕ) (keys : List GroupKey) (all : List Grouping) (k : ℕ) → first_failed (group_tests n keys all k) ≡ None → (rule : GroupRule) → group_test rule n keys all k ≡ true
rules_pass n keys all k e = by (group_test one_of_key n keys all k) (group_test few_keys n keys all k) (group_test index_range n keys all k) (group_test group_counts n keys all k) refl refl refl refl e
  where
    by : (p q r s : Bool) → group_test one_of_key n keys all k ≡ p → group_test few_keys n keys all k ≡ q → group_test index_range n keys all k ≡ r → group_test group_counts n keys all k ≡ s
        → ◌≡◌ {A = Option Kind} (cond p (cond q (cond r (cond s None (Some CountMismatch)) (Some BadValue)) (Some BadValue)) (Some DuplicateBox)) None → (rule : GroupRule) → group_test rule n keys all k ≡ true
    by true true true true x y z w e one_of_key = x
    by true true true true x y z w e few_keys = y
    by true true true true x y z w e index_range = z
    by true true true true x y z w e group_counts = w
    by true true true false x y z w e rule = absurd cc
    by true true false s x y z w e rule = absurd cc
    by true false r s x y z w e rule = absurd cc
    by false q r s x y z w e rule = absurd cc

-- the first test that fails is that of a rule that is not kept
pub rule_fails : (n : ℕ) (keys : List GroupKey) (all : List Grouping) (k : ℕ) (kind : Kind) → first_failed (group_tests n keys all k) ≡ Some kind → (rule : GroupRule) × (group_test rule n keys all k ≡ false) × (kind ≡ group_kind rule)
rule_fails n keys all k kind e = by (group_test one_of_key n keys all k) (group_test few_keys n keys all k) (group_test index_range n keys all k) (group_test group_counts n keys all k) refl refl refl refl e
  where
    by : (p q r s : Bool) → group_test one_of_key n keys all k ≡ p → group_test few_keys n keys all k ≡ q → group_test index_range n keys all k ≡ r → group_test group_counts n keys all k ≡ s
        → cond p (cond q (cond r (cond s None (Some CountMismatch)) (Some BadValue)) (Some BadValue)) (Some DuplicateBox) ≡ Some kind → (rule : GroupRule) × (group_test rule n keys all k ≡ false) × (kind ≡ group_kind rule)
    by true true true true x y z w e = absurd cc
    by true true true false x y z w e = (group_counts, w, cc)
    by true true false s x y z w e = (index_range, z, cc)
    by true false r s x y z w e = (few_keys, y, cc)
    by false q r s x y z w e = (one_of_key, x, cc)

-- ---- all boxes

abbrev pub group_types : List (List ℕ)
group_types = codes "sbgp" ∷ codes "sgpd" ∷ []

-- how both types are read
as_sbgp : (b : Box) → bytes_eq (codes "sbgp") b.kind ≡ true → leaf_of (ruled SampleTable) b.kind ≡ Some sbgp
as_sbgp b e = ap (leaf_of (ruled SampleTable)) (same_kind (codes "sbgp") b.kind e)

as_sgpd : (b : Box) → bytes_eq (codes "sgpd") b.kind ≡ true → leaf_of (ruled SampleTable) b.kind ≡ Some sgpd
as_sgpd b e = ap (leaf_of (ruled SampleTable)) (same_kind (codes "sgpd") b.kind e)

-- what is sound as the leaf that it is read as
sound_table : (b : Box) (leaf : Leaf) → leaf_of (ruled SampleTable) b.kind ≡ Some leaf → IsSound leaf b.payload → SoundTable b
sound_table b leaf e h = subst (λ (o : Option Leaf). IsSoundAs o b.payload) (sym e) h

-- the tests of a box and those behind it, by its type
abbrev tests : ℕ → List Grouping → ℕ → Box → List Box → Bool → Bool → List (Test Fault)
tests n all k b boxes v w = cond v (naming b (leaf_tests_with sbgp (group_tests n [] all k) b.payload) ++ groups_tests n [] all (suc k) boxes) (cond w (naming b (leaf_tests sgpd b.payload)) [] ++ groups_tests n [] all k boxes)

module _ (n : ℕ) (all : List Grouping) where
  abbrev Passes : ℕ → List Box → Type 0
  Passes k boxes = AllAmong group_types SoundTable boxes × ((rule : GroupRule) (j : ℕ) → k ≤ j → group_test rule n [] all j ≡ true)

  -- where no test fails, each `sbgp` and `sgpd` is sound, and each rule is kept
  pub groups_pass : (k : ℕ) (boxes : List Box) → length all ≤ k + length (of_kind (codes "sbgp") boxes) → first_failed (groups_tests n [] all k boxes) ≡ None
      → AllAmong group_types SoundTable boxes × ((rule : GroupRule) (j : ℕ) → k ≤ j → group_test rule n [] all j ≡ true)
  groups_pass k [] few e = (tt, λ rule j le. test_none rule n j all (found_none all j (omega (arith, few, le))))
  groups_pass k (b ∷ boxes) few e = by (bytes_eq (codes "sbgp") b.kind) (bytes_eq (codes "sgpd") b.kind) refl refl e (groups_pass (suc k) boxes) (groups_pass k boxes)
    where
      one_more : bytes_eq (codes "sbgp") b.kind ≡ true → length (of_kind (codes "sbgp") (b ∷ boxes)) ≡ suc (length (of_kind (codes "sbgp") boxes))
      one_more x = rw x refl

      no_more : bytes_eq (codes "sbgp") b.kind ≡ false → length (of_kind (codes "sbgp") (b ∷ boxes)) ≡ length (of_kind (codes "sbgp") boxes)
      no_more x = rw x refl

      neither : bytes_eq (codes "sbgp") b.kind ≡ false → bytes_eq (codes "sgpd") b.kind ≡ false → is_among group_types b.kind ≡ true → SoundTable b
      neither x y m = let z : false ≡ true = rw (x, y) at m in absurd cc

      by : (v w : Bool) → bytes_eq (codes "sbgp") b.kind ≡ v → bytes_eq (codes "sgpd") b.kind ≡ w → first_failed (tests n all k b boxes v w) ≡ None
          → (length all ≤ suc k + length (of_kind (codes "sbgp") boxes) → first_failed (groups_tests n [] all (suc k) boxes) ≡ None → Passes (suc k) boxes)
          → (length all ≤ k + length (of_kind (codes "sbgp") boxes) → first_failed (groups_tests n [] all k boxes) ≡ None → Passes k boxes)
          → Passes k (b ∷ boxes)
      by true w x y e next same =
          let p = both_pass (naming b (leaf_tests_with sbgp (group_tests n [] all k) b.payload)) (groups_tests n [] all (suc k) boxes) e in
          let own = leaf_passes sbgp (group_tests n [] all k) b.payload (named_pass b (leaf_tests_with sbgp (group_tests n [] all k) b.payload) p.0) in
          let more = next (omega (arith, few, one_more x)) p.1 in
          let rules = rules_pass n [] all k own.1 in (
            ((λ m. sound_table b sbgp (as_sbgp b x) own.0), more.0),
            λ rule j le. elim (cases_lt k j) [
              | inl lt ↦ more.1 rule j (omega (arith, lt))
              | inr ge ↦ let at : k ≡ j = omega (arith, le, ge) in subst (λ (m : ℕ). group_test rule n [] all m ≡ true) at (rules rule)
            ],
          )
      by false true x y e next same =
          let p = both_pass (naming b (leaf_tests sgpd b.payload)) (groups_tests n [] all k boxes) e in
          let own = leaf_passes sgpd [] b.payload (named_pass b (leaf_tests sgpd b.payload) p.0) in
          let more = same (omega (arith, few, no_more x)) p.1 in
          (((λ m. sound_table b sgpd (as_sgpd b y) own.0), more.0), more.1)
      by false false x y e next same =
          let more = same (omega (arith, few, no_more x)) e in
          (((λ m. neither x y m), more.0), more.1)

-- an `sbgp` behind k others of its container does not keep a rule; it can be read, and those before it
pub record GroupStands (n : ℕ) (all : List Grouping) (k : ℕ) (boxes : List Box) (f : Fault) : Type 0 where
  pub before : List Box
  pub b : Box
  pub after : List Box
  pub stands : boxes ≡ before ++ b ∷ after
  pub is_group : bytes_eq (codes "sbgp") b.kind ≡ true
  pub earlier : GroupsReadable (of_kind (codes "sbgp") before)
  pub readable : IsReadable sbgp b.payload
  pub rule : GroupRule
  pub fails : group_test rule n [] all (k + length (of_kind (codes "sbgp") before)) ≡ false
  pub named : f ≡ fault_of (group_kind rule) b

-- one more box in front
leaf_behind : (c : Box) (boxes : List Box) (f : Fault) → IsLeafFaultAmong boxes f → IsLeafFaultAmong (c ∷ boxes) f
leaf_behind c boxes f q = record { before = c ∷ q.before; b = q.b; after = q.after; stands = ap (λ (bs : List Box). c ∷ bs) q.stands; table = q.table; leaf = q.leaf; read = q.read; fails = q.fails }

leaf_here : (b : Box) (boxes : List Box) (leaf : Leaf) (f : Fault) → bytes_eq (codes "stsd") b.kind ≡ false → leaf_of (ruled SampleTable) b.kind ≡ Some leaf → FailsAs leaf b f → IsLeafFaultAmong (b ∷ boxes) f
leaf_here b boxes leaf f t r h = record { before = []; b = b; after = boxes; stands = refl; table = t; leaf = leaf; read = r; fails = h }

module _ (n : ℕ) (all : List Grouping) (f : Fault) where
  abbrev Fails : ℕ → List Box → Type 0
  Fails k boxes = IsLeafFaultAmong boxes f ⊎ GroupStands n all k boxes f

  behind_group : (k : ℕ) (c : Box) (boxes : List Box) → bytes_eq (codes "sbgp") c.kind ≡ true → IsReadable sbgp c.payload → Fails (suc k) boxes → Fails k (c ∷ boxes)
  behind_group k c boxes x r (inl q) = inl (leaf_behind c boxes f q)
  behind_group k c boxes x r (inr q) =
      let e : of_kind (codes "sbgp") (c ∷ q.before) ≡ c ∷ of_kind (codes "sbgp") q.before = rw x refl in
      let m : k + length (of_kind (codes "sbgp") (c ∷ q.before)) ≡ suc k + length (of_kind (codes "sbgp") q.before) = omega (arith, ap (λ (bs : List Box). length bs) e) in
      inr (record {
        before = c ∷ q.before;
        b = q.b;
        after = q.after;
        stands = ap (λ (bs : List Box). c ∷ bs) q.stands;
        is_group = q.is_group;
        earlier = subst GroupsReadable (sym e) (r, q.earlier);
        readable = q.readable;
        rule = q.rule;
        fails = ap (group_test q.rule n [] all) m ∙ q.fails;
        named = q.named;
      })

  behind_other : (k : ℕ) (c : Box) (boxes : List Box) → bytes_eq (codes "sbgp") c.kind ≡ false → Fails k boxes → Fails k (c ∷ boxes)
  behind_other k c boxes x (inl q) = inl (leaf_behind c boxes f q)
  behind_other k c boxes x (inr q) =
      let e : of_kind (codes "sbgp") (c ∷ q.before) ≡ of_kind (codes "sbgp") q.before = rw x refl in
      inr (record {
        before = c ∷ q.before;
        b = q.b;
        after = q.after;
        stands = ap (λ (bs : List Box). c ∷ bs) q.stands;
        is_group = q.is_group;
        earlier = subst GroupsReadable (sym e) q.earlier;
        readable = q.readable;
        rule = q.rule;
        fails = ap (λ (bs : List Box). group_test q.rule n [] all (k + length bs)) e ∙ q.fails;
        named = q.named;
      })

  -- the first test that fails names a leaf that is at fault, or a rule that is not kept
  pub groups_fail : (k : ℕ) (boxes : List Box) → first_failed (groups_tests n [] all k boxes) ≡ Some f → IsLeafFaultAmong boxes f ⊎ GroupStands n all k boxes f
  groups_fail k [] e = absurd cc
  groups_fail k (b ∷ boxes) e = by (bytes_eq (codes "sbgp") b.kind) (bytes_eq (codes "sgpd") b.kind) refl refl e (groups_fail (suc k) boxes) (groups_fail k boxes)
    where
      group_here : bytes_eq (codes "sbgp") b.kind ≡ true → first_failed (naming b (leaf_tests_with sbgp (group_tests n [] all k) b.payload)) ≡ Some f → Fails k (b ∷ boxes)
      group_here x e =
          let m = named_kind b (leaf_tests_with sbgp (group_tests n [] all k) b.payload) f e in
          elim (leaf_fails sbgp (group_tests n [] all k) b.payload m.0 m.1) [
            | inl own ↦ inl (leaf_here b boxes sbgp f (ap (bytes_eq (codes "stsd")) (same_kind (codes "sbgp") b.kind x)) (as_sbgp b x) (record { kind = m.0; fails = own; named = m.2 }))
            | inr r ↦
                let q = rule_fails n [] all k m.0 r.1 in
                let at : k + 0 ≡ k = omega arith in
                inr (record {
                  before = [];
                  b = b;
                  after = boxes;
                  stands = refl;
                  is_group = x;
                  earlier = tt;
                  readable = r.0;
                  rule = q.0;
                  fails = ap (group_test q.0 n [] all) at ∙ q.1;
                  named = m.2 ∙ ap (λ (kind : Kind). fault_of kind b) q.2;
                })
          ]

      description_here : bytes_eq (codes "sgpd") b.kind ≡ true → first_failed (naming b (leaf_tests sgpd b.payload)) ≡ Some f → Fails k (b ∷ boxes)
      description_here y e =
          let m = named_kind b (leaf_tests sgpd b.payload) f e in
          elim (leaf_fails sgpd [] b.payload m.0 m.1) [
            | inl own ↦ inl (leaf_here b boxes sgpd f (ap (bytes_eq (codes "stsd")) (same_kind (codes "sgpd") b.kind y)) (as_sgpd b y) (record { kind = m.0; fails = own; named = m.2 }))
            | inr r ↦ let z = r.1 in absurd cc
          ]

      by : (v w : Bool) → bytes_eq (codes "sbgp") b.kind ≡ v → bytes_eq (codes "sgpd") b.kind ≡ w → first_failed (tests n all k b boxes v w) ≡ Some f
          → (first_failed (groups_tests n [] all (suc k) boxes) ≡ Some f → Fails (suc k) boxes)
          → (first_failed (groups_tests n [] all k boxes) ≡ Some f → Fails k boxes)
          → Fails k (b ∷ boxes)
      by true w x y e next same = elim (either_fails (naming b (leaf_tests_with sbgp (group_tests n [] all k) b.payload)) (groups_tests n [] all (suc k) boxes) f e) [
        | inl here ↦ group_here x here
        | inr later ↦
            let own = leaf_passes sbgp (group_tests n [] all k) b.payload (named_pass b (leaf_tests_with sbgp (group_tests n [] all k) b.payload) later.0) in
            behind_group k b boxes x own.0.readable (next later.1)
      ]
      by false true x y e next same = elim (either_fails (naming b (leaf_tests sgpd b.payload)) (groups_tests n [] all k boxes) f e) [
        | inl here ↦ description_here y here
        | inr later ↦ behind_other k b boxes x (same later.1)
      ]
      by false false x y e next same = behind_other k b boxes x (same e)

-- ---- as a fault of the tables

-- what a rule of groups reads beside the `sbgp`s can be read
group_readable : (rule : GroupRule) (k : ℕ) (boxes : List Box) → AreReadable sample_sizes boxes → AreReadable (reads (table_group rule k)) boxes
group_readable one_of_key k boxes s = no_readable boxes
group_readable few_keys k boxes s = no_readable boxes
group_readable index_range k boxes s = no_readable boxes
group_readable group_counts k boxes s = s

-- a rule of groups that is not kept is a fault of the tables
pub group_fault : (s : Surroundings) (c : Container) (boxes : List Box) (f : Fault) → Holds SampleTable c boxes → AreReadable sample_sizes boxes → GroupStands (length (tables_of boxes).sizes) (tables_of boxes).groups 0 boxes f → IsTableFault s c f
group_fault s c boxes f h sizes q =
    let G = of_kind (codes "sbgp") q.before in
    let M = of_kind (codes "sbgp") q.after in
    let split : of_kind (codes "sbgp") boxes ≡ G ++ q.b ∷ M = ap (of_kind (codes "sbgp")) q.stands ∙ of_kind-split (codes "sbgp") q.before q.after q.b q.is_group in
    let at : length G ≡ 0 + length G = omega arith in
    record {
      children = boxes;
      holds = h;
      rule = table_group q.rule (length G);
      readable = group_readable q.rule (length G) boxes sizes;
      groups_readable = subst (λ (bs : List Box). GroupsReadable (group_reads q.rule (length G) bs)) (sym split) (groups_readable q.rule G M q.b q.earlier q.readable);
      ordered = λ x. absurd (false_true x);
      fails = ap (group_test q.rule (length (tables_of boxes).sizes) [] (tables_of boxes).groups) at ∙ q.fails;
      before = q.before;
      b = q.b;
      after = q.after;
      stands = q.stands;
      is_named = ap (λ (bs : List Box). slice_get bs (length G)) split ∙ found_there G M q.b;
      same = q.named;
    }
