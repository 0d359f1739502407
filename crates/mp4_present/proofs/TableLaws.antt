-- The tables of all tracks by the definition of the first fault: they are in order, or the fault that is named stands.
use Rattle.std.proofs.Common.{◌≡◌, ℕ, ◌+◌, ◌-◌, ◌≤◌, List, [], ◌∷◌, ◌++◌, Some, None, inl, inr, refl, sym, ap, subst, arith, codes}
use Rattle.std.specs.Prelude.{length, ◌⊎◌}
use Rattle.std.specs.List.{AllByRecursion}
use Rattle.mp4_boxes.specs.format.Bytes.{sum_of}
use Rattle.mp4_boxes.specs.format.Box.{Box, box_container}
use Rattle.mp4_boxes.specs.format.Places.{ruled, AreSound}
use Rattle.mp4_boxes.specs.format.FirstFault.{first_failed}
use Rattle.mp4_boxes.specs.declared.rule.Rule.TheVariants.{SampleTable}
use Rattle.mp4_boxes.specs.declared.fault.Fault.{Fault}
use Rattle.mp4_tables.specs.format.Tables.{tables_of}
use Rattle.mp4_tables.specs.format.TableRules.{Fit, AreReadable, IsTableFault}
use Rattle.mp4_tables.specs.words.Leaves.{IsLeafFaultAmong, IsTooMany, boxes_of}
use Rattle.mp4_tables.proofs.ChunkReads.{has_descriptions}
use Rattle.mp4_tables.proofs.InOrder.{both_pass, either_fails}
use Rattle.mp4_tables.proofs.LeafLists.{boxes_are}
use Rattle.mp4_tables.proofs.TablesJudged.{tables_fail, tables_pass}
use Rattle.mp4_tables.specs.format.FirstFault.{table_tests}
use Rattle.mp4_head.specs.format.Tree.{TrackTree, IsTrackTree, IsSoundTrack, stbl_of}
use Rattle.mp4_present.specs.format.Denotes.{surroundings}
use Rattle.mp4_present.specs.format.Presentation.{max_samples}
use Rattle.mp4_present.specs.format.Stands.{table_total}
use Rattle.mp4_present.specs.words.TrackTrees.{TableFails, TablesFail}
use Rattle.mp4_present.specs.format.Judge.{tables_tests, count_of}

pub record AllInOrder (file : List ℕ) (room : ℕ) (tracks : List TrackTree) : Type 0 where
  pub sound : AllByRecursion (λ (t : TrackTree). AreSound (ruled SampleTable) t.table) tracks
  pub fit : AllByRecursion (λ (t : TrackTree). Fit (surroundings file t) (tables_of t.table)) tracks
  pub few : sum_of count_of tracks ≤ room

-- Where no test of the tables fails, those of each track are in order, and there is room for all samples.
pub all_in_order : (file : List ℕ) (room : ℕ) (tracks : List TrackTree) → AllByRecursion IsTrackTree tracks → AllByRecursion IsSoundTrack tracks → first_failed (tables_tests file room tracks) ≡ None → AllInOrder file room tracks
all_in_order file room [] h k e = record { sound = tt; fit = tt; few = omega arith }
all_in_order file room (t ∷ tracks) h k e =
    let p = both_pass (table_tests room (surroundings file t) t.table) (tables_tests file (room - count_of t) tracks) e in
    let one = tables_pass room (surroundings file t) (box_container (stbl_of t)) t.table h.0.table k.0.stsd p.0 in
    let more = all_in_order file (room - count_of t) tracks h.1 k.1 p.1 in
    let few = more.few in
    let own = one.few in
    record { sound = (one.sound, more.sound); fit = (one.fit, more.fit); few = omega (arith, own, few) }

-- ---- the first that fails

-- the fault is in the tables of one of these tracks, where at first there was so much room
record FailsFrom (file : List ℕ) (most : ℕ) (tracks : List TrackTree) (f : Fault) : Type 0 where
  pub before : List TrackTree
  pub t : TrackTree
  pub after : List TrackTree
  pub are : tracks ≡ before ++ t ∷ after
  pub sound : AllByRecursion (λ (u : TrackTree). AreSound (ruled SampleTable) u.table) before
  pub room : ℕ
  pub left : room + table_total before ≡ most
  pub fails : TableFails (length file) room t f

module _ (file : List ℕ) (f : Fault) where
  one_fails : (room : ℕ) (t : TrackTree) → IsTrackTree t → IsSoundTrack t → first_failed (table_tests room (surroundings file t) t.table) ≡ Some f → TableFails (length file) room t f
  one_fails room t h k e =
      let same : boxes_of (stbl_of t) ≡ t.table = boxes_are (stbl_of t) t.table h.table.tiles in
      let own : AreReadable (codes "stsd" ∷ []) t.table = subst (λ (bs : List Box). AreReadable (codes "stsd" ∷ []) bs) same (has_descriptions (stbl_of t) t.table h.table k.stsd) in
      let r = tables_fail room (surroundings file t) (box_container (stbl_of t)) t.table h.table f (λ kind. own) e in
      subst (λ (bs : List Box). IsLeafFaultAmong bs f ⊎ (IsTableFault (surroundings file t) (box_container (stbl_of t)) f ⊎ IsTooMany room bs f)) (sym same) r

  from : (room : ℕ) (tracks : List TrackTree) → AllByRecursion IsTrackTree tracks → AllByRecursion IsSoundTrack tracks → first_failed (tables_tests file room tracks) ≡ Some f → FailsFrom file room tracks f
  from room [] h k e = absurd cc
  from room (t ∷ tracks) h k e = by (either_fails (table_tests room (surroundings file t) t.table) (tables_tests file (room - count_of t) tracks) f e) (from (room - count_of t) tracks h.1 k.1)
    where
      by : (first_failed (table_tests room (surroundings file t) t.table) ≡ Some f) ⊎ ((first_failed (table_tests room (surroundings file t) t.table) ≡ None) × (first_failed (tables_tests file (room - count_of t) tracks) ≡ Some f))
          → (first_failed (tables_tests file (room - count_of t) tracks) ≡ Some f → FailsFrom file (room - count_of t) tracks f) → FailsFrom file room (t ∷ tracks) f
      by (inl own) on = record { before = []; t = t; after = tracks; are = refl; sound = tt; room = room; left = omega arith; fails = one_fails room t h.0 k.0 own }
      by (inr more) on =
          let one = tables_pass room (surroundings file t) (box_container (stbl_of t)) t.table h.0.table k.0.stsd more.0 in
          let few = one.few in
          let r = on more.1 in
          let left = r.left in
          record { before = t ∷ r.before; t = r.t; after = r.after; are = ap (λ (ts : List TrackTree). t ∷ ts) r.are; sound = (one.sound, r.sound); room = r.room; left = omega (arith, few, left); fails = r.fails }

  -- Where a test of the tables is the first to fail, its fault is in the tables of one of the tracks.
  pub tables_failed : (tracks : List TrackTree) → AllByRecursion IsTrackTree tracks → AllByRecursion IsSoundTrack tracks → first_failed (tables_tests file max_samples tracks) ≡ Some f → TablesFail (length file) tracks f
  tables_failed tracks h k e =
      let r = from max_samples tracks h k e in
      record { before = r.before; t = r.t; after = r.after; are = r.are; sound = r.sound; room = r.room; left = r.left; fails = r.fails }
