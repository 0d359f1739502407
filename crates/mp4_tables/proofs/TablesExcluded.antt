-- The tests of tables that are in order pass: no fault of them stands.
use Rattle.std.proofs.Common.{◌≡◌, ℕ, ◌≤◌, true, List, [], ◌∷◌, Option, Some, None, inl, inr, refl, subst, arith}
use Rattle.std.specs.Prelude.{◌⊎◌, codes}
use Rattle.mp4_boxes.specs.format.Box.{Box, Container}
use Rattle.mp4_boxes.specs.format.Children.{Holds, is_among, count_among, sample_sizes, one}
use Rattle.mp4_boxes.specs.format.Layout.{Leaf}
use Rattle.mp4_boxes.specs.format.Places.{IsSoundAs}
use Rattle.mp4_boxes.specs.format.FirstFault.{first_failed}
use Rattle.mp4_boxes.specs.declared.rule.Rule.TheVariants.{SampleTable}
use Rattle.mp4_boxes.specs.declared.fault.Fault.{Fault}
use Rattle.mp4_boxes.proofs.Among.{all_in}
use Rattle.mp4_boxes.proofs.Refusing.{line_has, unsound}
use Rattle.mp4_boxes.proofs.Tiling.{tiles_one}
use Rattle.mp4_boxes.proofs.Plain.{true_false}
use Rattle.mp4_tables.specs.format.Tables.{sample_count, tables_of}
use Rattle.mp4_tables.specs.format.TableRules.{Surroundings, test, Fit, IsTableFault}
use Rattle.mp4_tables.specs.format.FirstFault.{table_tests}
use Rattle.mp4_tables.specs.format.FirstFaultLaws.{AreInOrder}
use Rattle.mp4_tables.specs.words.Leaves.{IsLeafFaultAmong, IsTooMany}
use Rattle.mp4_tables.proofs.AmongTypes.{among_all, found_there, payload_found, first_is_each}
use Rattle.mp4_tables.proofs.FirstJudged.{SoundTable, sound_readable}
use Rattle.mp4_tables.proofs.TablesJudged.{tables_fail}

module _ (room : ℕ) (s : Surroundings) (c : Container) (boxes : List Box) (h : Holds SampleTable c boxes) (a : AreInOrder room s boxes) (f : Fault) where
  no_leaf : IsLeafFaultAmong boxes f → ⊥
  no_leaf q =
      let own : SoundTable q.b = all_in SoundTable boxes q.b (record { before = q.before; after = q.after; is = q.stands }) a.sound in
      unsound q.leaf q.b.payload q.fails.kind q.fails.fails (subst (λ (o : Option Leaf). IsSoundAs o q.b.payload) q.read own)

  no_rule : IsTableFault s c f → ⊥
  no_rule q =
      let fit : Fit s (tables_of q.children) = subst (λ (bs : List Box). Fit s (tables_of bs)) (tiles_one c boxes q.children h.tiles q.holds.tiles) a.fit in
      true_false (test q.rule s (tables_of q.children)) (fit q.rule) q.fails

  none_too_many : IsTooMany room boxes f → ⊥
  none_too_many q =
      let n : count_among sample_sizes boxes ≡ 1 = line_has h (codes "stsz") (record { kinds = sample_sizes; quantity = one }) refl in
      let g = found_there sample_sizes boxes n in
      let few : sample_count g.0.payload ≤ room = subst (λ (payload : List ℕ). sample_count payload ≤ room) (payload_found sample_sizes boxes g.0 g.1) a.few in
      let all = first_is_each sample_sizes (λ (b : Box). sample_count b.payload ≤ room) boxes g.0 g.2 (omega (arith, n)) few in
      let own : sample_count q.b.payload ≤ room = all_in (λ (b : Box). is_among sample_sizes b.kind ≡ true → sample_count b.payload ≤ room) boxes q.b (record { before = q.before; after = q.after; is = q.stands }) all q.sizes in
      let many = q.many in
      omega (arith, own, many)

  none_stands : IsLeafFaultAmong boxes f ⊎ (IsTableFault s c f ⊎ IsTooMany room boxes f) → ⊥
  none_stands (inl q) = no_leaf q
  none_stands (inr (inl q)) = no_rule q
  none_stands (inr (inr q)) = none_too_many q

-- no test of tables that are in order fails
pub tables_in_order : (room : ℕ) (s : Surroundings) (c : Container) (boxes : List Box) → Holds SampleTable c boxes → AreInOrder room s boxes → first_failed (table_tests room s boxes) ≡ None
tables_in_order room s c boxes h a = by (first_failed (table_tests room s boxes)) refl
  where
    by : (o : Option Fault) → first_failed (table_tests room s boxes) ≡ o → first_failed (table_tests room s boxes) ≡ None
    by None e = e
    by (Some f) e = absurd (none_stands room s c boxes h a f (tables_fail room s c boxes h f (λ k. sound_readable (codes "stsd" ∷ []) boxes (among_all (codes "stsd" ∷ []) SoundTable boxes a.sound)) e))
