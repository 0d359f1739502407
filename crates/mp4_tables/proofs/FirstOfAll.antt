-- The first fault of all tables of a track, one table after the other.
use Rattle.std.proofs.Common.{◌≡◌, List, ◌++◌, Option, Some, None, ap, ◌∙◌}
use Rattle.mp4_boxes.specs.format.Box.{Box}
use Rattle.mp4_boxes.specs.format.FirstFault.{Test, first_failed}
use Rattle.mp4_boxes.specs.declared.fault.Fault.{Fault}
use Rattle.mp4_tables.specs.format.FirstFault.{table_tests}
use Rattle.mp4_tables.specs.words.Leaves.{boxes_of, surroundings_of}
use Rattle.mp4_tables.specs.words.RowTests.{size_tests, duration_tests, offset_tests, chunk_tests, chunk_row_tests, place_tests, sync_tests, dependency_tests, group_box_tests}
use Rattle.mp4_tables.specs.declared.leaves.Limits.{Limits}
use Rattle.mp4_tables.proofs.FirstGroups.{or_then, joined}

-- what fails in front fails
front : (xs ys : List (Test Fault)) (f : Fault) → first_failed xs ≡ Some f → first_failed (xs ++ ys) ≡ Some f
front xs ys f e = joined xs ys ∙ ap (λ o. or_then o (first_failed ys)) e

-- what fails behind tests that pass
behind : (xs ys : List (Test Fault)) (o : Option Fault) → first_failed xs ≡ None → first_failed ys ≡ o → first_failed (xs ++ ys) ≡ o
behind xs ys o e h = joined xs ys ∙ ap (λ p. or_then p (first_failed ys)) e ∙ h

module _ (l : Limits) (stbl : Box) where
  abbrev S : List (Test Fault)
  S = size_tests l stbl

  abbrev D : List (Test Fault)
  D = duration_tests l stbl

  abbrev O : List (Test Fault)
  O = offset_tests l stbl

  abbrev C : List (Test Fault)
  C = chunk_tests l stbl

  abbrev R : List (Test Fault)
  R = chunk_row_tests l stbl

  abbrev P : List (Test Fault)
  P = place_tests l stbl

  abbrev Y : List (Test Fault)
  Y = sync_tests l stbl

  abbrev E : List (Test Fault)
  E = dependency_tests l stbl

  abbrev G : List (Test Fault)
  G = group_box_tests stbl

  abbrev all : List (Test Fault)
  all = table_tests l.room (surroundings_of l) (boxes_of stbl)

  pub at_sizes : (f : Fault) → first_failed S ≡ Some f → first_failed all ≡ Some f
  at_sizes f e =
      front (((((((S ++ D) ++ O) ++ C) ++ R) ++ P) ++ Y)
      ++ E) G f (front ((((((S ++ D) ++ O) ++ C) ++ R) ++ P) ++ Y) E f (front (((((S ++ D) ++ O) ++ C) ++ R) ++ P) Y f (front ((((S ++ D) ++ O) ++ C) ++ R) P f (front (((S ++ D) ++ O) ++ C) R f (front ((S ++ D) ++ O) C f (front (S ++ D) O f (front S D f e)))))))

  pub at_durations : (f : Fault) → first_failed S ≡ None → first_failed D ≡ Some f → first_failed all ≡ Some f
  at_durations f n0 e =
      front (((((((S ++ D) ++ O) ++ C) ++ R) ++ P) ++ Y)
      ++ E) G f (front ((((((S ++ D) ++ O) ++ C) ++ R) ++ P) ++ Y) E f (front (((((S ++ D) ++ O) ++ C) ++ R) ++ P) Y f (front ((((S ++ D) ++ O) ++ C) ++ R) P f (front (((S ++ D) ++ O) ++ C) R f (front ((S ++ D) ++ O) C f (front (S ++ D) O f (behind S D (Some f) n0 e)))))))

  pub at_offsets : (f : Fault) → first_failed S ≡ None → first_failed D ≡ None → first_failed O ≡ Some f → first_failed all ≡ Some f
  at_offsets f n0 n1 e =
      front (((((((S ++ D) ++ O) ++ C) ++ R) ++ P) ++ Y)
      ++ E) G f (front ((((((S ++ D) ++ O) ++ C) ++ R) ++ P) ++ Y) E f (front (((((S ++ D) ++ O) ++ C) ++ R) ++ P) Y f (front ((((S ++ D) ++ O) ++ C) ++ R) P f (front (((S ++ D) ++ O) ++ C) R f (front ((S ++ D) ++ O) C f (behind (S ++ D) O (Some f) (behind S D None n0 n1) e))))))

  pub at_chunks : (f : Fault) → first_failed S ≡ None → first_failed D ≡ None → first_failed O ≡ None → first_failed C ≡ Some f → first_failed all ≡ Some f
  at_chunks f n0 n1 n2 e =
      front (((((((S ++ D) ++ O) ++ C) ++ R) ++ P) ++ Y)
      ++ E) G f (front ((((((S ++ D) ++ O) ++ C) ++ R) ++ P) ++ Y) E f (front (((((S ++ D) ++ O) ++ C) ++ R) ++ P) Y f (front ((((S ++ D) ++ O) ++ C) ++ R) P f (front (((S ++ D) ++ O) ++ C) R f (behind ((S ++ D) ++ O) C (Some f) (behind (S ++ D) O None (behind S D None n0 n1) n2) e)))))

  pub at_chunk_rows : (f : Fault) → first_failed S ≡ None → first_failed D ≡ None → first_failed O ≡ None → first_failed C ≡ None → first_failed R ≡ Some f → first_failed all ≡ Some f
  at_chunk_rows f n0 n1 n2 n3 e =
      front (((((((S ++ D) ++ O) ++ C) ++ R) ++ P) ++ Y)
      ++ E) G f (front ((((((S ++ D) ++ O) ++ C) ++ R) ++ P) ++ Y) E f (front (((((S ++ D) ++ O) ++ C) ++ R) ++ P) Y f (front ((((S ++ D) ++ O) ++ C) ++ R) P f (behind (((S ++ D) ++ O) ++ C) R (Some f) (behind ((S ++ D) ++ O) C None (behind (S ++ D) O None (behind S D None n0 n1) n2) n3) e))))

  pub at_check_places : (f : Fault) → first_failed S ≡ None → first_failed D ≡ None → first_failed O ≡ None → first_failed C ≡ None → first_failed R ≡ None → first_failed P ≡ Some f → first_failed all ≡ Some f
  at_check_places f n0 n1 n2 n3 n4 e =
      front (((((((S ++ D) ++ O) ++ C) ++ R) ++ P) ++ Y)
      ++ E) G f (front ((((((S ++ D) ++ O) ++ C) ++ R) ++ P)
      ++ Y) E f (front (((((S ++ D) ++ O) ++ C) ++ R) ++ P) Y f (behind ((((S ++ D) ++ O) ++ C) ++ R) P (Some f) (behind (((S ++ D) ++ O) ++ C) R None (behind ((S ++ D) ++ O) C None (behind (S ++ D) O None (behind S D None n0 n1) n2) n3) n4) e)))

  pub at_sync : (f : Fault) → first_failed S ≡ None → first_failed D ≡ None → first_failed O ≡ None → first_failed C ≡ None → first_failed R ≡ None → first_failed P ≡ None → first_failed Y ≡ Some f → first_failed all ≡ Some f
  at_sync f n0 n1 n2 n3 n4 n5 e =
      front (((((((S ++ D) ++ O) ++ C) ++ R) ++ P) ++ Y)
      ++ E) G f (front ((((((S ++ D) ++ O) ++ C) ++ R) ++ P)
      ++ Y) E f (behind (((((S ++ D) ++ O) ++ C) ++ R) ++ P) Y (Some f) (behind ((((S ++ D) ++ O) ++ C) ++ R) P None (behind (((S ++ D) ++ O) ++ C) R None (behind ((S ++ D) ++ O) C None (behind (S ++ D) O None (behind S D None n0 n1) n2) n3) n4) n5) e))

  pub at_dependencies : (f : Fault) → first_failed S ≡ None → first_failed D ≡ None → first_failed O ≡ None → first_failed C ≡ None → first_failed R ≡ None → first_failed P ≡ None → first_failed Y ≡ None → first_failed E ≡ Some f → first_failed all ≡ Some f
  at_dependencies f n0 n1 n2 n3 n4 n5 n6 e =
      front (((((((S ++ D) ++ O) ++ C) ++ R) ++ P) ++ Y)
      ++ E) G f (behind ((((((S ++ D) ++ O) ++ C) ++ R) ++ P)
      ++ Y) E (Some f) (behind (((((S ++ D) ++ O) ++ C) ++ R) ++ P) Y None (behind ((((S ++ D) ++ O) ++ C) ++ R) P None (behind (((S ++ D) ++ O) ++ C) R None (behind ((S ++ D) ++ O) C None (behind (S ++ D) O None (behind S D None n0 n1) n2) n3) n4) n5) n6) e)

  pub at_groups : (f : Fault) → first_failed S ≡ None → first_failed D ≡ None → first_failed O ≡ None → first_failed C ≡ None → first_failed R ≡ None → first_failed P ≡ None → first_failed Y ≡ None → first_failed E ≡ None → first_failed G ≡ Some f → first_failed all ≡ Some f
  at_groups f n0 n1 n2 n3 n4 n5 n6 n7 e =
      behind (((((((S ++ D) ++ O) ++ C) ++ R) ++ P) ++ Y)
      ++ E) G (Some f)
      (behind ((((((S ++ D) ++ O) ++ C) ++ R) ++ P) ++ Y) E None (behind (((((S ++ D) ++ O) ++ C) ++ R) ++ P) Y None (behind ((((S ++ D) ++ O) ++ C) ++ R) P None (behind (((S ++ D) ++ O) ++ C) R None (behind ((S ++ D) ++ O) C None (behind (S ++ D) O None (behind S D None n0 n1) n2) n3) n4) n5)
      n6) n7) e

  pub none_at_all : first_failed S ≡ None → first_failed D ≡ None → first_failed O ≡ None → first_failed C ≡ None → first_failed R ≡ None → first_failed P ≡ None → first_failed Y ≡ None → first_failed E ≡ None → first_failed G ≡ None → first_failed all ≡ None
  none_at_all n0 n1 n2 n3 n4 n5 n6 n7 n8 =
      behind (((((((S ++ D) ++ O) ++ C) ++ R) ++ P) ++ Y)
      ++ E) G None (behind ((((((S ++ D) ++ O) ++ C) ++ R) ++ P)
      ++ Y) E None (behind (((((S ++ D) ++ O) ++ C) ++ R) ++ P) Y None (behind ((((S ++ D) ++ O) ++ C) ++ R) P None (behind (((S ++ D) ++ O) ++ C) R None (behind ((S ++ D) ++ O) C None (behind (S ++ D) O None (behind S D None n0 n1) n2) n3) n4) n5) n6) n7) n8
