-- What is so of the tables of a track where their tests pass, and where one is the first to fail.
use Rattle.std.proofs.Common.{◌≡◌, ℕ, ◌≤◌, Bool, true, false, cond, List, [], ◌||◌, ◌∷◌, ◌++◌, length, map, drop, Option, Some, None, inl, inr, refl, sym, ap, subst, ◌∙◌, arith}
use Rattle.std.specs.Prelude.{◌⊎◌, codes, bytes_eq, nat_le, option_map, unwrap_or, ℤ, ◌==◌}
use Rattle.mp4_boxes.specs.format.Box.{Box, Container}
use Rattle.mp4_boxes.specs.format.Children.{Holds, count_among, of_kind, payload_of, payload_if, payload_among, sample_sizes, chunk_offsets, one}
use Rattle.mp4_boxes.specs.format.Layout.{Leaf, stsd, stss, leaf_rows, IsSound}
use Rattle.mp4_boxes.specs.format.Places.{leaf_of, leaves, ruled, AreSound, IsSoundAs}
use Rattle.mp4_boxes.specs.format.BoxFaults.{fault_of}
use Rattle.mp4_boxes.specs.format.FirstFault.{Test, first_failed}
use Rattle.mp4_boxes.specs.declared.rule.Rule.TheVariants.{SampleTable}
use Rattle.mp4_boxes.specs.declared.fault.Fault.{Fault}
use Rattle.mp4_boxes.specs.declared.fault.Kind.{Kind}
use Rattle.mp4_boxes.specs.declared.fault.Kind.TheVariants.{TooManySamples, CountMismatch, BadOrder, BadDescriptionIndex}
use Rattle.mp4_boxes.proofs.Sound.{same_kind}
use Rattle.mp4_boxes.proofs.Refusing.{line_has, holds_only, holds_few}
use Rattle.mp4_tables.specs.format.Repeated.{total}
use Rattle.mp4_tables.specs.format.Groups.{GroupRule, grouping_of, group_test}
use Rattle.mp4_tables.specs.format.Tables.{Tables, sample_count, tables_of, offsets_of, first_number}
use Rattle.mp4_tables.specs.format.TableRules.{Surroundings, TableRule, dependency_room, duration_counts, offset_counts, chunk_counts, chunk_order, sync_order, description_indexes, places, table_group, test, kind_of, reads, reads_groups, goes_by_chunks, IsNamed, AreReadable, GroupsReadable, Fit, IsTableFault, is_sync_order}
use Rattle.mp4_tables.specs.format.FirstFault.{first_box_tests, table_leaf_tests, table_rule_tests, groups_tests, table_tests}
use Rattle.mp4_tables.specs.format.FirstFaultLaws.{AreInOrder}
use Rattle.mp4_tables.specs.words.Leaves.{IsLeafFaultAmong, IsTooMany}
use Rattle.mp4_tables.proofs.InOrder.{both_pass, either_fails, one_passes, three_pass, one_fails}
use Rattle.mp4_tables.proofs.LeafJudged.{le_yes, le_no}
use Rattle.mp4_tables.proofs.AmongTypes.{AllAmong, IsFirstAmong, first_among, FoundAs, found_as, found_there, payload_found, first_is_each, among_both, all_read, only_type}
use Rattle.mp4_tables.proofs.FirstJudged.{SoundTable, ReadableTable, sound_readable, KeptBy, FirstFails, first_passes, first_fails}
use Rattle.mp4_tables.proofs.GroupsJudged.{group_types, groups_pass, groups_fail, group_fault}
use Rattle.mp4_tables.proofs.LeafLists.{payload_none}

-- as many groupings as `sbgp`s
groups_counted : (xs : List Box) → length (map (λ (b : Box). grouping_of b.payload) xs) ≡ length xs
groups_counted [] = refl
groups_counted (x ∷ xs) = omega (arith, groups_counted xs)

-- the payload of the first box of a type
payload_same : (kind : List ℕ) (boxes : List Box) → payload_of kind boxes ≡ payload_among (kind ∷ []) boxes
payload_same kind [] = refl
payload_same kind (b ∷ boxes) = by (bytes_eq kind b.kind) (payload_same kind boxes)
  where
    by : (v : Bool) → payload_of kind boxes ≡ payload_among (kind ∷ []) boxes → unwrap_or (cond v (Some b.payload) (payload_if kind boxes)) [] ≡ cond (v || false) b.payload (payload_among (kind ∷ []) boxes)
    by true e = refl
    by false e = e

-- what the rules say where there is a first
kept_there : (rules : Box → List (Test Kind)) (b : Box) (o : Option Box) → o ≡ Some b → KeptBy rules o → first_failed (rules b) ≡ None
kept_there rules b o e k = subst (KeptBy rules) e k

-- nine lists of tests of which none fails
record NonePass (S D O C R P Y E G : List (Test Fault)) : Type 0 where
  sizes : first_failed S ≡ None
  durations : first_failed D ≡ None
  offsets : first_failed O ≡ None
  chunks : first_failed C ≡ None
  chunk_rows : first_failed R ≡ None
  place : first_failed P ≡ None
  sync : first_failed Y ≡ None
  dependencies : first_failed E ≡ None
  groups : first_failed G ≡ None

-- none fails of nine lists joined
nine_pass : (S D O C R P Y E G : List (Test Fault)) → first_failed ((((((((S ++ D) ++ O) ++ C) ++ R) ++ P) ++ Y) ++ E) ++ G) ≡ None → NonePass S D O C R P Y E G
nine_pass S D O C R P Y E G e =
    let p8 = both_pass (((((((S ++ D) ++ O) ++ C) ++ R) ++ P) ++ Y) ++ E) G e in
    let p7 = both_pass ((((((S ++ D) ++ O) ++ C) ++ R) ++ P) ++ Y) E p8.0 in
    let p6 = both_pass (((((S ++ D) ++ O) ++ C) ++ R) ++ P) Y p7.0 in
    let p5 = both_pass ((((S ++ D) ++ O) ++ C) ++ R) P p6.0 in
    let p4 = both_pass (((S ++ D) ++ O) ++ C) R p5.0 in
    let p3 = both_pass ((S ++ D) ++ O) C p4.0 in
    let p2 = both_pass (S ++ D) O p3.0 in
    let p1 = both_pass S D p2.0 in
    record { sizes = p1.0; durations = p1.1; offsets = p2.1; chunks = p3.1; chunk_rows = p4.1; place = p5.1; sync = p6.1; dependencies = p7.1; groups = p8.1 }

module _ (room : ℕ) (s : Surroundings) (c : Container) (boxes : List Box) (h : Holds SampleTable c boxes) where
  -- ---- how many there are
  one_sizes : count_among sample_sizes boxes ≡ 1
  one_sizes = line_has h (codes "stsz") (record { kinds = sample_sizes; quantity = one }) refl

  one_offsets : count_among chunk_offsets boxes ≡ 1
  one_offsets = line_has h (codes "stco") (record { kinds = chunk_offsets; quantity = one }) refl

  one_durations : count_among (codes "stts" ∷ []) boxes ≡ 1
  one_durations = holds_only h (codes "stts") refl

  one_rows : count_among (codes "stsc" ∷ []) boxes ≡ 1
  one_rows = holds_only h (codes "stsc") refl

  few_offsets : count_among (codes "ctts" ∷ []) boxes ≤ 1
  few_offsets = holds_few h (codes "ctts") refl

  few_sync : count_among (codes "stss" ∷ []) boxes ≤ 1
  few_sync = holds_few h (codes "stss") refl

  few_dependencies : count_among (codes "sdtp" ∷ []) boxes ≤ 1
  few_dependencies = holds_few h (codes "sdtp") refl

  -- ---- the tests in order
  abbrev t : Tables
  t = tables_of boxes

  abbrev size_rules : Box → List (Test Kind)
  size_rules b = (nat_le (sample_count b.payload) room, TooManySamples) ∷ []

  abbrev rules_of : List TableRule → Box → List (Test Kind)
  rules_of rules b = table_rule_tests s t rules

  abbrev of_first : List (List ℕ) → List TableRule → List (Test Fault)
  of_first kinds rules = first_box_tests kinds boxes (λ b. table_leaf_tests (rules_of rules b) b)

  abbrev S : List (Test Fault)
  S = first_box_tests sample_sizes boxes (λ b. table_leaf_tests (size_rules b) b)

  abbrev D : List (Test Fault)
  D = of_first (codes "stts" ∷ []) (duration_counts ∷ [])

  abbrev O : List (Test Fault)
  O = of_first (codes "ctts" ∷ []) (offset_counts ∷ [])

  abbrev C : List (Test Fault)
  C = of_first chunk_offsets []

  abbrev chunk_rules : List TableRule
  chunk_rules = chunk_order ∷ chunk_counts ∷ description_indexes ∷ []

  abbrev R : List (Test Fault)
  R = of_first (codes "stsc" ∷ []) chunk_rules

  abbrev P : List (Test Fault)
  P = of_first chunk_offsets (places ∷ [])

  abbrev Y : List (Test Fault)
  Y = of_first (codes "stss" ∷ []) (sync_order ∷ [])

  abbrev E : List (Test Fault)
  E = of_first (codes "sdtp" ∷ []) (dependency_room ∷ [])

  abbrev G : List (Test Fault)
  G = groups_tests (length t.sizes) [] t.groups 0 boxes

  -- ---- where none fails

  sizes_pass : first_failed S ≡ None → AllAmong sample_sizes SoundTable boxes × KeptBy size_rules (first_among sample_sizes boxes)
  sizes_pass e = first_passes sample_sizes size_rules boxes (omega (arith, one_sizes)) e

  rules_pass : (kinds : List (List ℕ)) (rules : List TableRule) → count_among kinds boxes ≤ 1 → first_failed (of_first kinds rules) ≡ None → AllAmong kinds SoundTable boxes × KeptBy (rules_of rules) (first_among kinds boxes)
  rules_pass kinds rules n e = first_passes kinds (rules_of rules) boxes n e

  groups_kept : first_failed G ≡ None → AllAmong group_types SoundTable boxes × ((rule : GroupRule) (j : ℕ) → 0 ≤ j → group_test rule (length t.sizes) [] t.groups j ≡ true)
  groups_kept e = groups_pass (length t.sizes) t.groups 0 boxes (omega (arith, groups_counted (of_kind (codes "sbgp") boxes))) e

  -- the rules of a table of which one stands are kept
  kept_of : (kinds : List (List ℕ)) (rules : List TableRule) → count_among kinds boxes ≡ 1 → first_failed (of_first kinds rules) ≡ None → first_failed (table_rule_tests s t rules) ≡ None
  kept_of kinds rules n e =
      let f = found_there kinds boxes n in
      kept_there (rules_of rules) f.0 (first_among kinds boxes) f.1 (rules_pass kinds rules (omega (arith, n)) e).1

  -- the rule of a table of which at most one stands is kept, or none stands
  kept_or : (kinds : List (List ℕ)) (rule : TableRule) → count_among kinds boxes ≤ 1 → first_failed (of_first kinds (rule ∷ [])) ≡ None → (count_among kinds boxes ≡ 0 → test rule s t ≡ true) → test rule s t ≡ true
  kept_or kinds rule n e without = by (first_among kinds boxes) refl (found_as kinds boxes)
    where
      by : (o : Option Box) → first_among kinds boxes ≡ o → FoundAs kinds boxes o → test rule s t ≡ true
      by None g none = without none
      by (Some b) g i = one_passes (test rule s t) (kind_of rule) (kept_there (rules_of (rule ∷ [])) b (first_among kinds boxes) g (rules_pass kinds (rule ∷ []) n e).1)

  no_offsets : count_among (codes "ctts" ∷ []) boxes ≡ 0 → test offset_counts s t ≡ true
  no_offsets n = ap (λ (o : Option (List ℕ)). unwrap_or (option_map (λ (rows : List (ℕ × ℤ)). total rows == length t.sizes) (option_map offsets_of o)) true) (payload_none (codes "ctts") boxes n)

  no_sync : count_among (codes "stss" ∷ []) boxes ≡ 0 → test sync_order s t ≡ true
  no_sync n = ap (λ (o : Option (List ℕ)). unwrap_or (option_map (is_sync_order (length t.sizes)) (option_map (λ (payload : List ℕ). map first_number (leaf_rows stss payload)) o)) true) (payload_none (codes "stss") boxes n)

  no_dependencies : count_among (codes "sdtp" ∷ []) boxes ≡ 0 → test dependency_room s t ≡ true
  no_dependencies n = ap (λ (o : Option (List ℕ)). unwrap_or (option_map (λ (bytes : List ℕ). nat_le (length t.sizes) (length bytes)) (option_map (λ (payload : List ℕ). drop 4 payload) o)) true) (payload_none (codes "sdtp") boxes n)

  -- the three rules of `stsc`
  rows_kept : first_failed R ≡ None → (test chunk_order s t ≡ true) × (test chunk_counts s t ≡ true) × (test description_indexes s t ≡ true)
  rows_kept e = three_pass (test chunk_order s t) (test chunk_counts s t) (test description_indexes s t) BadOrder CountMismatch BadDescriptionIndex (kept_of (codes "stsc" ∷ []) chunk_rules one_rows e)

  fits : NonePass S D O C R P Y E G → Fit s t
  fits p duration_counts = one_passes (test duration_counts s t) CountMismatch (kept_of (codes "stts" ∷ []) (duration_counts ∷ []) one_durations p.durations)
  fits p offset_counts = kept_or (codes "ctts" ∷ []) offset_counts few_offsets p.offsets no_offsets
  fits p chunk_order = (rows_kept p.chunk_rows).0
  fits p chunk_counts = (rows_kept p.chunk_rows).1
  fits p description_indexes = (rows_kept p.chunk_rows).2
  fits p places = one_passes (test places s t) (kind_of places) (kept_of chunk_offsets (places ∷ []) one_offsets p.place)
  fits p sync_order = kept_or (codes "stss" ∷ []) sync_order few_sync p.sync no_sync
  fits p dependency_room = kept_or (codes "sdtp" ∷ []) dependency_room few_dependencies p.dependencies no_dependencies
  fits p (table_group rule k) = (groups_kept p.groups).1 rule k (omega arith)

  -- each leaf but the `stsd` is sound, and with it all are
  sound : NonePass S D O C R P Y E G → AllAmong (codes "stsd" ∷ []) SoundTable boxes → AreSound (ruled SampleTable) boxes
  sound p first =
      let durations = (rules_pass (codes "stts" ∷ []) (duration_counts ∷ []) (omega (arith, one_durations)) p.durations).0 in
      let offsets = (rules_pass (codes "ctts" ∷ []) (offset_counts ∷ []) few_offsets p.offsets).0 in
      let chunk_rows = (rules_pass (codes "stsc" ∷ []) chunk_rules (omega (arith, one_rows)) p.chunk_rows).0 in
      let sizes = (sizes_pass p.sizes).0 in
      let chunks = (rules_pass chunk_offsets [] (omega (arith, one_offsets)) p.chunks).0 in
      let sync = (rules_pass (codes "stss" ∷ []) (sync_order ∷ []) few_sync p.sync).0 in
      let dependencies = (rules_pass (codes "sdtp" ∷ []) (dependency_room ∷ []) few_dependencies p.dependencies).0 in
      let groups = (groups_kept p.groups).0 in
      let last = among_both (codes "sdtp" ∷ []) group_types SoundTable boxes dependencies groups in
      let behind_sync = among_both (codes "stss" ∷ []) (codes "sdtp" ∷ group_types) SoundTable boxes sync last in
      let behind_chunks = among_both chunk_offsets (codes "stss" ∷ codes "sdtp" ∷ group_types) SoundTable boxes chunks behind_sync in
      let behind_sizes = among_both sample_sizes (chunk_offsets ++ codes "stss" ∷ codes "sdtp" ∷ group_types) SoundTable boxes sizes behind_chunks in
      let behind_rows = among_both (codes "stsc" ∷ []) (sample_sizes ++ (chunk_offsets ++ codes "stss" ∷ codes "sdtp" ∷ group_types)) SoundTable boxes chunk_rows behind_sizes in
      let behind_offsets = among_both (codes "ctts" ∷ []) (codes "stsc" ∷ (sample_sizes ++ (chunk_offsets ++ codes "stss" ∷ codes "sdtp" ∷ group_types))) SoundTable boxes offsets behind_rows in
      let behind_durations = among_both (codes "stts" ∷ []) (codes "ctts" ∷ codes "stsc" ∷ (sample_sizes ++ (chunk_offsets ++ codes "stss" ∷ codes "sdtp" ∷ group_types))) SoundTable boxes durations behind_offsets in
      all_read (leaves (ruled SampleTable)) boxes (among_both (codes "stsd" ∷ []) (codes "stts" ∷ codes "ctts" ∷ codes "stsc" ∷ (sample_sizes ++ (chunk_offsets ++ codes "stss" ∷ codes "sdtp" ∷ group_types))) SoundTable boxes first behind_durations)

  -- there is room for the samples
  few : first_failed S ≡ None → sample_count (payload_among sample_sizes boxes) ≤ room
  few e =
      let f = found_there sample_sizes boxes one_sizes in
      let le : sample_count f.0.payload ≤ room = le_yes (sample_count f.0.payload) room (one_passes (nat_le (sample_count f.0.payload) room) TooManySamples (kept_there size_rules f.0 (first_among sample_sizes boxes) f.1 (sizes_pass e).1)) in
      subst (λ (payload : List ℕ). sample_count payload ≤ room) (sym (payload_found sample_sizes boxes f.0 f.1)) le

  -- the `stsd` is sound
  first_sound : IsSound stsd (payload_of (codes "stsd") boxes) → AllAmong (codes "stsd" ∷ []) SoundTable boxes
  first_sound q =
      let n : count_among (codes "stsd" ∷ []) boxes ≡ 1 = holds_only h (codes "stsd") refl in
      let f = found_there (codes "stsd" ∷ []) boxes n in
      let read : leaf_of (ruled SampleTable) f.0.kind ≡ Some stsd = ap (leaf_of (ruled SampleTable)) (same_kind (codes "stsd") f.0.kind (only_type (codes "stsd") f.0.kind f.2.among)) in
      let own : IsSound stsd f.0.payload = subst (IsSound stsd) (payload_same (codes "stsd") boxes ∙ payload_found (codes "stsd" ∷ []) boxes f.0 f.1) q in
      first_is_each (codes "stsd" ∷ []) SoundTable boxes f.0 f.2 (omega (arith, n)) (subst (λ (o : Option Leaf). IsSoundAs o f.0.payload) (sym read) own)

  -- where no test fails, the tables are in order
  pub tables_pass : IsSound stsd (payload_of (codes "stsd") boxes) → first_failed (table_tests room s boxes) ≡ None → AreInOrder room s boxes
  tables_pass q e = let p = nine_pass S D O C R P Y E G e in record { sound = sound p (first_sound q); fit = fits p; few = few p.sizes }

  -- ---- where one fails

  -- what is named of the tables of this container
  abbrev Stands : Fault → Type 0
  Stands f = IsLeafFaultAmong boxes f ⊎ (IsTableFault s c f ⊎ IsTooMany room boxes f)

  -- a rule that the first of some types does not keep is a fault of the tables
  rule_stands : (f : Fault) (kinds : List (List ℕ)) (rule : TableRule) (b : Box) → IsFirstAmong kinds boxes b → AreReadable (reads rule) boxes → GroupsReadable (reads_groups rule (of_kind (codes "sbgp") boxes))
      → (goes_by_chunks rule ≡ true → test chunk_order s t ≡ true) → IsNamed rule boxes b → test rule s t ≡ false → f ≡ fault_of (kind_of rule) b → IsTableFault s c f
  rule_stands f kinds rule b i readable groups ordered named fails same = record {
    children = boxes;
    holds = h;
    rule = rule;
    readable = readable;
    groups_readable = groups;
    ordered = ordered;
    fails = fails;
    before = i.before;
    b = b;
    after = i.after;
    stands = i.is;
    is_named = named;
    same = same;
  }

  -- the one rule of a table
  single : (f : Fault) (kinds : List (List ℕ)) (rule : TableRule) (q : FirstFails kinds (rules_of (rule ∷ [])) boxes f) → AreReadable (reads rule) boxes → GroupsReadable (reads_groups rule (of_kind (codes "sbgp") boxes))
      → (goes_by_chunks rule ≡ true → test chunk_order s t ≡ true) → IsNamed rule boxes q.b → IsTableFault s c f
  single f kinds rule q readable groups ordered named =
      let o = one_fails (test rule s t) (kind_of rule) q.kind q.fails in
      rule_stands f kinds rule q.b q.first readable groups ordered named o.0 (q.named ∙ ap (λ (k : Kind). fault_of k q.b) o.1)

  never : false ≡ true → ⊥
  never e = cc

  sizes_readable : first_failed S ≡ None → AreReadable sample_sizes boxes
  sizes_readable e = sound_readable sample_sizes boxes (sizes_pass e).0

  with_sizes : (kinds : List (List ℕ)) → first_failed S ≡ None → AreReadable kinds boxes → AreReadable (kinds ++ sample_sizes) boxes
  with_sizes kinds e r = among_both kinds sample_sizes ReadableTable boxes r (sizes_readable e)

  rows_readable : AreReadable (codes "stsc" ∷ []) boxes → AreReadable chunk_offsets boxes → AreReadable (codes "stsc" ∷ chunk_offsets) boxes
  rows_readable r k = among_both (codes "stsc" ∷ []) chunk_offsets ReadableTable boxes r k

  at_sizes : (f : Fault) → first_failed S ≡ Some f → Stands f
  at_sizes f e = elim (first_fails sample_sizes size_rules boxes (omega (arith, one_sizes)) f refl e) [
    | inl own ↦ inl own
    | inr q ↦
        let o = one_fails (nat_le (sample_count q.b.payload) room) TooManySamples q.kind q.fails in
        inr (inr (record {
          before = q.first.before;
          b = q.b;
          after = q.first.after;
          stands = q.first.is;
          sizes = q.first.among;
          readable = q.readable;
          many = le_no (sample_count q.b.payload) room o.0;
          named = q.named ∙ ap (λ (k : Kind). fault_of k q.b) o.1;
        }))
  ]

  at_durations : (f : Fault) → first_failed S ≡ None → first_failed D ≡ Some f → Stands f
  at_durations f e g = elim (first_fails (codes "stts" ∷ []) (rules_of (duration_counts ∷ [])) boxes (omega (arith, one_durations)) f refl g) [
    | inl own ↦ inl own
    | inr q ↦ inr (inl (single f (codes "stts" ∷ []) duration_counts q (with_sizes (codes "stts" ∷ []) e q.readable) tt (λ x. absurd (never x)) q.first.among))
  ]

  at_offsets : (f : Fault) → first_failed S ≡ None → first_failed O ≡ Some f → Stands f
  at_offsets f e g = elim (first_fails (codes "ctts" ∷ []) (rules_of (offset_counts ∷ [])) boxes few_offsets f refl g) [
    | inl own ↦ inl own
    | inr q ↦ inr (inl (single f (codes "ctts" ∷ []) offset_counts q (with_sizes (codes "ctts" ∷ []) e q.readable) tt (λ x. absurd (never x)) q.first.among))
  ]

  at_chunks : (f : Fault) → first_failed C ≡ Some f → Stands f
  at_chunks f g = elim (first_fails chunk_offsets (rules_of []) boxes (omega (arith, one_offsets)) f refl g) [
    | inl own ↦ inl own
    | inr q ↦ let no = q.fails in absurd cc
  ]

  chunks_readable : first_failed C ≡ None → AreReadable chunk_offsets boxes
  chunks_readable e = sound_readable chunk_offsets boxes (rules_pass chunk_offsets [] (omega (arith, one_offsets)) e).0

  at_chunk_rows : (f : Fault) → (f.kind ≡ BadDescriptionIndex → AreReadable (codes "stsd" ∷ []) boxes) → first_failed S ≡ None → first_failed C ≡ None → first_failed R ≡ Some f → Stands f
  at_chunk_rows f described e k g = elim (first_fails (codes "stsc" ∷ []) (rules_of chunk_rules) boxes (omega (arith, one_rows)) f refl g) [
    | inl own ↦ inl own
    | inr q ↦ inr (inl (by q (test chunk_order s t) (test chunk_counts s t) (test description_indexes s t) refl refl refl q.fails))
  ]
    where
      named : (rule : TableRule) (q : FirstFails (codes "stsc" ∷ []) (rules_of chunk_rules) boxes f) → q.kind ≡ kind_of rule → f ≡ fault_of (kind_of rule) q.b
      named rule q x = q.named ∙ ap (λ (kind : Kind). fault_of kind q.b) x

      by : (q : FirstFails (codes "stsc" ∷ []) (rules_of chunk_rules) boxes f) (o m d : Bool) → test chunk_order s t ≡ o → test chunk_counts s t ≡ m → test description_indexes s t ≡ d
          → cond o (cond m (cond d None (Some BadDescriptionIndex)) (Some CountMismatch)) (Some BadOrder) ≡ Some q.kind → IsTableFault s c f
      by q false m d x y z w = rule_stands f (codes "stsc" ∷ []) chunk_order q.b q.first (rows_readable q.readable (chunks_readable k)) tt (λ v. absurd (never v)) q.first.among x (named chunk_order q cc)
      by q true false d x y z w = rule_stands f (codes "stsc" ∷ []) chunk_counts q.b q.first (with_sizes (codes "stsc" ∷ chunk_offsets) e (rows_readable q.readable (chunks_readable k))) tt (λ v. x) q.first.among y (named chunk_counts q cc)
      by q true true false x y z w =
          let same = named description_indexes q cc in
          let first = described (ap (λ (g : Fault). g.kind) same) in
          rule_stands f (codes "stsc" ∷ []) description_indexes q.b q.first (among_both (codes "stsd" ∷ []) (codes "stsc" ∷ (chunk_offsets ++ sample_sizes)) ReadableTable boxes first (with_sizes (codes "stsc" ∷ chunk_offsets) e (rows_readable q.readable (chunks_readable k)))) tt
          (λ v. x) q.first.among z same
      by q true true true x y z w = absurd cc

  at_places : (f : Fault) → first_failed S ≡ None → first_failed C ≡ None → first_failed R ≡ None → first_failed P ≡ Some f → Stands f
  at_places f e k r g = elim (first_fails chunk_offsets (rules_of (places ∷ [])) boxes (omega (arith, one_offsets)) f refl g) [
    | inl own ↦ inl own
    | inr q ↦
        let rows = sound_readable (codes "stsc" ∷ []) boxes (rules_pass (codes "stsc" ∷ []) chunk_rules (omega (arith, one_rows)) r).0 in
        inr (inl (single f chunk_offsets places q (with_sizes (codes "stsc" ∷ chunk_offsets) e (rows_readable rows q.readable)) tt (λ x. (rows_kept r).0) q.first.among))
  ]

  at_sync : (f : Fault) → first_failed S ≡ None → first_failed Y ≡ Some f → Stands f
  at_sync f e g = elim (first_fails (codes "stss" ∷ []) (rules_of (sync_order ∷ [])) boxes few_sync f refl g) [
    | inl own ↦ inl own
    | inr q ↦ inr (inl (single f (codes "stss" ∷ []) sync_order q (with_sizes (codes "stss" ∷ []) e q.readable) tt (λ x. absurd (never x)) q.first.among))
  ]

  at_dependencies : (f : Fault) → first_failed S ≡ None → first_failed E ≡ Some f → Stands f
  at_dependencies f e g = elim (first_fails (codes "sdtp" ∷ []) (rules_of (dependency_room ∷ [])) boxes few_dependencies f refl g) [
    | inl own ↦ inl own
    | inr q ↦ inr (inl (single f (codes "sdtp" ∷ []) dependency_room q (with_sizes (codes "sdtp" ∷ []) e q.readable) tt (λ x. absurd (never x)) q.first.among))
  ]

  at_groups : (f : Fault) → first_failed S ≡ None → first_failed G ≡ Some f → Stands f
  at_groups f e g = elim (groups_fail (length t.sizes) t.groups f 0 boxes g) [
    | inl own ↦ inl own
    | inr q ↦ inr (inl (group_fault s c boxes f h (sizes_readable e) q))
  ]

  -- what passes in front
  four : first_failed (((S ++ D) ++ O) ++ C) ≡ None → (first_failed S ≡ None) × (first_failed C ≡ None)
  four e = let p = both_pass ((S ++ D) ++ O) C e in ((both_pass S D (both_pass (S ++ D) O p.0).0).0, p.1)

  five : first_failed ((((S ++ D) ++ O) ++ C) ++ R) ≡ None → (first_failed S ≡ None) × (first_failed C ≡ None) × (first_failed R ≡ None)
  five e = let p = both_pass (((S ++ D) ++ O) ++ C) R e in let q = four p.0 in (q.0, q.1, p.1)

  six : first_failed (((((S ++ D) ++ O) ++ C) ++ R) ++ P) ≡ None → first_failed S ≡ None
  six e = (five (both_pass ((((S ++ D) ++ O) ++ C) ++ R) P e).0).0

  seven : first_failed ((((((S ++ D) ++ O) ++ C) ++ R) ++ P) ++ Y) ≡ None → first_failed S ≡ None
  seven e = six (both_pass (((((S ++ D) ++ O) ++ C) ++ R) ++ P) Y e).0

  eight : first_failed (((((((S ++ D) ++ O) ++ C) ++ R) ++ P) ++ Y) ++ E) ≡ None → first_failed S ≡ None
  eight e = seven (both_pass ((((((S ++ D) ++ O) ++ C) ++ R) ++ P) ++ Y) E e).0

  module _ (f : Fault) (described : f.kind ≡ BadDescriptionIndex → AreReadable (codes "stsd" ∷ []) boxes) where
    in_two : first_failed (S ++ D) ≡ Some f → Stands f
    in_two e = elim (either_fails S D f e) [ inl x ↦ at_sizes f x | inr x ↦ at_durations f x.0 x.1 ]

    in_three : first_failed ((S ++ D) ++ O) ≡ Some f → Stands f
    in_three e = elim (either_fails (S ++ D) O f e) [ inl x ↦ in_two x | inr x ↦ at_offsets f (both_pass S D x.0).0 x.1 ]

    in_four : first_failed (((S ++ D) ++ O) ++ C) ≡ Some f → Stands f
    in_four e = elim (either_fails ((S ++ D) ++ O) C f e) [ inl x ↦ in_three x | inr x ↦ at_chunks f x.1 ]

    in_five : first_failed ((((S ++ D) ++ O) ++ C) ++ R) ≡ Some f → Stands f
    in_five e = elim (either_fails (((S ++ D) ++ O) ++ C) R f e) [ inl x ↦ in_four x | inr x ↦ let p = four x.0 in at_chunk_rows f described p.0 p.1 x.1 ]

    in_six : first_failed (((((S ++ D) ++ O) ++ C) ++ R) ++ P) ≡ Some f → Stands f
    in_six e = elim (either_fails ((((S ++ D) ++ O) ++ C) ++ R) P f e) [ inl x ↦ in_five x | inr x ↦ let p = five x.0 in at_places f p.0 p.1 p.2 x.1 ]

    in_seven : first_failed ((((((S ++ D) ++ O) ++ C) ++ R) ++ P) ++ Y) ≡ Some f → Stands f
    in_seven e = elim (either_fails (((((S ++ D) ++ O) ++ C) ++ R) ++ P) Y f e) [ inl x ↦ in_six x | inr x ↦ at_sync f (six x.0) x.1 ]

    in_eight : first_failed (((((((S ++ D) ++ O) ++ C) ++ R) ++ P) ++ Y) ++ E) ≡ Some f → Stands f
    in_eight e = elim (either_fails ((((((S ++ D) ++ O) ++ C) ++ R) ++ P) ++ Y) E f e) [ inl x ↦ in_seven x | inr x ↦ at_dependencies f (seven x.0) x.1 ]

    -- the first test that fails names a fault that stands
    pub tables_fail : first_failed (table_tests room s boxes) ≡ Some f → IsLeafFaultAmong boxes f ⊎ (IsTableFault s c f ⊎ IsTooMany room boxes f)
    tables_fail e = elim (either_fails (((((((S ++ D) ++ O) ++ C) ++ R) ++ P) ++ Y) ++ E) G f e) [ inl x ↦ in_eight x | inr x ↦ at_groups f (eight x.0) x.1 ]
