-- The first fault of an `sbgp` of a `traf`: its shape, its key, its indexes, its counts.
use Rattle.std.proofs.Common.{◌≡◌, ℕ, Bool, true, false, List, [], ◌∷◌, ◌++◌, Option, Some, None, refl}
use Rattle.mp4_boxes.specs.format.FirstFault.{Test, first_failed, leaf_tests}
use Rattle.mp4_boxes.specs.format.Layout.{sbgp}
use Rattle.mp4_boxes.specs.declared.fault.Kind.{Kind}
use Rattle.mp4_boxes.specs.declared.fault.Kind.TheVariants.{DuplicateBox, BadValue, CountMismatch, OutsideData, OffsetTooLarge}
use Rattle.mp4_tables.specs.format.Groups.{GroupKey, Grouping, one_of_key, few_keys, index_range, group_counts, grouping_of, keeps}
use Rattle.mp4_frag.specs.words.FragmentTests.{shape_tests, name_tests, one_group_tests}
use Rattle.mp4_frag.proofs.FirstRun.{behind_all}
use Rattle.mp4_tables.proofs.InOrder.{fails_first}

-- where a leaf has none of these values, what is tested of it is its shape
abbrev fine : List (Test Kind)
fine = (true, BadValue) ∷ (true, OutsideData) ∷ (true, OffsetTooLarge) ∷ []

-- what is tested of an `sbgp` behind its shape
abbrev rest : ℕ → List GroupKey → List Grouping → List ℕ → List (Test Kind)
rest n first before payload =
    (keeps one_of_key n first before (grouping_of payload), DuplicateBox) ∷ (keeps few_keys n first before (grouping_of payload), BadValue) ∷ (keeps index_range n first before (grouping_of payload), BadValue) ∷ (keeps group_counts n first before (grouping_of payload), CountMismatch) ∷ fine

pub group_shape : (n : ℕ) (first : List GroupKey) (before : List Grouping) (payload : List ℕ) (k : Kind) → first_failed (leaf_tests sbgp payload) ≡ Some k → first_failed (one_group_tests n first before payload) ≡ Some k
group_shape n first before payload k e = fails_first (shape_tests sbgp payload) (rest n first before payload) k (by (shape_tests sbgp payload) e)
  where
    by : (shape : List (Test Kind)) → first_failed (shape ++ fine) ≡ Some k → first_failed shape ≡ Some k
    by [] f = absurd cc
    by (t ∷ shape) f = one t.0 refl (λ g. by shape g)
      where
        one : (v : Bool) → t.0 ≡ v → (first_failed (shape ++ fine) ≡ Some k → first_failed shape ≡ Some k) → first_failed (t ∷ shape) ≡ Some k
        one true e on = let r = (rw e at f) in rw e (on r)
        one false e on = let r = (rw e at f) in rw e r

shape_fine : (shape : List (Test Kind)) → first_failed (shape ++ fine) ≡ None → first_failed shape ≡ None
shape_fine [] f = refl
shape_fine (t ∷ shape) f = one t.0 refl (λ g. shape_fine shape g)
  where
    one : (v : Bool) → t.0 ≡ v → (first_failed (shape ++ fine) ≡ None → first_failed shape ≡ None) → first_failed (t ∷ shape) ≡ None
    one true e on = let r = (rw e at f) in rw e (on r)
    one false e on = let r = (rw e at f) in absurd cc

module _ (n : ℕ) (first : List GroupKey) (before : List Grouping) (payload : List ℕ) (read : first_failed (leaf_tests sbgp payload) ≡ None) where
  behind : (o : Option Kind) → first_failed (rest n first before payload) ≡ o → first_failed (one_group_tests n first before payload) ≡ o
  behind o e = behind_all (shape_tests sbgp payload) (rest n first before payload) o (shape_fine (shape_tests sbgp payload) read) e

  -- its key is refused
  pub group_name : (k : Kind) → first_failed (name_tests first before (grouping_of payload)) ≡ Some k → first_failed (one_group_tests n first before payload) ≡ Some k
  group_name k e = behind (Some k) (fails_first (name_tests first before (grouping_of payload)) ((keeps index_range n first before (grouping_of payload), BadValue) ∷ (keeps group_counts n first before (grouping_of payload), CountMismatch) ∷ fine) k e)

  -- it isn't, and these are its indexes and counts
  pub group_rest : (v w : Bool) → first_failed (name_tests first before (grouping_of payload)) ≡ None → keeps index_range n first before (grouping_of payload) ≡ v → keeps group_counts n first before (grouping_of payload) ≡ w
      → first_failed (one_group_tests n first before payload) ≡ first_failed ((v, BadValue) ∷ (w, CountMismatch) ∷ [])
  group_rest v w e f g = behind _ (behind_all (name_tests first before (grouping_of payload)) ((keeps index_range n first before (grouping_of payload), BadValue) ∷ (keeps group_counts n first before (grouping_of payload), CountMismatch) ∷ fine) _ e (rw (f, g) (tail v w)))
    where
      tail : (v w : Bool) → first_failed ((v, BadValue) ∷ (w, CountMismatch) ∷ fine) ≡ first_failed ((v, BadValue) ∷ (w, CountMismatch) ∷ [])
      tail true true = refl
      tail true false = refl
      tail false w = refl

-- the two tests of a key
pub named_twice : (first : List GroupKey) (before : List Grouping) (g : Grouping) → keeps one_of_key 0 first before g ≡ false → first_failed (name_tests first before g) ≡ Some DuplicateBox
named_twice first before g e = rw e refl

pub named_fifth : (first : List GroupKey) (before : List Grouping) (g : Grouping) → keeps one_of_key 0 first before g ≡ true → keeps few_keys 0 first before g ≡ false → first_failed (name_tests first before g) ≡ Some BadValue
named_fifth first before g e f = rw (e, f) refl

pub named_well : (first : List GroupKey) (before : List Grouping) (g : Grouping) → keeps one_of_key 0 first before g ≡ true → keeps few_keys 0 first before g ≡ true → first_failed (name_tests first before g) ≡ None
named_well first before g e f = rw (e, f) refl
