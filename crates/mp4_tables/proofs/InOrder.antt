-- Tests in order: the first of two lists to fail, and of tests that name a box.
use Rattle.std.proofs.Common.{◌≡◌, Bool, true, false, cond, List, [], ◌∷◌, ◌++◌, Option, Some, None, inl, inr, refl, sym, ◌∙◌}
use Rattle.std.specs.Prelude.{◌⊎◌, option_map}
use Rattle.mp4_boxes.specs.format.Box.{Box}
use Rattle.mp4_boxes.specs.format.BoxFaults.{fault_of}
use Rattle.mp4_boxes.specs.format.FirstFault.{Test, first_failed, naming}
use Rattle.mp4_boxes.specs.declared.fault.Fault.{Fault}
use Rattle.mp4_boxes.specs.declared.fault.Kind.{Kind}
use Rattle.mp4_tables.proofs.FirstGroups.{named_first}

-- where no test of two lists fails, none of either does
pub both_pass : {F : Type 0} (xs ys : List (Test F)) → first_failed (xs ++ ys) ≡ None → (first_failed xs ≡ None) × (first_failed ys ≡ None)
both_pass [] ys e = (refl, e)
both_pass {F} (t ∷ xs) ys e = by t.0 (both_pass xs ys) e
  where
    by : (v : Bool) → (first_failed (xs ++ ys) ≡ None → (first_failed xs ≡ None) × (first_failed ys ≡ None)) → cond v (first_failed (xs ++ ys)) (Some t.1) ≡ None → (cond v (first_failed xs) (Some t.1) ≡ None) × (first_failed ys ≡ None)
    by true more e = more e
    by false more e = absurd cc

-- the first to fail of two lists is the first of the one, or of the other behind tests that pass
pub either_fails : {F : Type 0} (xs ys : List (Test F)) (f : F) → first_failed (xs ++ ys) ≡ Some f → (first_failed xs ≡ Some f) ⊎ ((first_failed xs ≡ None) × (first_failed ys ≡ Some f))
either_fails [] ys f e = inr (refl, e)
either_fails {F} (t ∷ xs) ys f e = by t.0 (either_fails xs ys f) e
  where
    by : (v : Bool) → (first_failed (xs ++ ys) ≡ Some f → (first_failed xs ≡ Some f) ⊎ ((first_failed xs ≡ None) × (first_failed ys ≡ Some f))) → cond v (first_failed (xs ++ ys)) (Some t.1) ≡ Some f
        → (cond v (first_failed xs) (Some t.1) ≡ Some f) ⊎ ((cond v (first_failed xs) (Some t.1) ≡ None) × (first_failed ys ≡ Some f))
    by true more e = more e
    by false more e = inl e

-- what fails first of the one fails first of both
pub fails_first : {F : Type 0} (xs ys : List (Test F)) (f : F) → first_failed xs ≡ Some f → first_failed (xs ++ ys) ≡ Some f
fails_first [] ys f e = absurd cc
fails_first {F} (t ∷ xs) ys f e = by t.0 (fails_first xs ys f) e
  where
    by : (v : Bool) → (first_failed xs ≡ Some f → first_failed (xs ++ ys) ≡ Some f) → cond v (first_failed xs) (Some t.1) ≡ Some f → cond v (first_failed (xs ++ ys)) (Some t.1) ≡ Some f
    by true more e = more e
    by false more e = e

-- what fails first of the other, behind tests that pass, fails first of both
pub fails_behind : {F : Type 0} (xs ys : List (Test F)) (f : F) → first_failed xs ≡ None → first_failed ys ≡ Some f → first_failed (xs ++ ys) ≡ Some f
fails_behind [] ys f e g = g
fails_behind {F} (t ∷ xs) ys f e g = by t.0 (fails_behind xs ys f) e
  where
    by : (v : Bool) → (first_failed xs ≡ None → first_failed ys ≡ Some f → first_failed (xs ++ ys) ≡ Some f) → cond v (first_failed xs) (Some t.1) ≡ None → cond v (first_failed (xs ++ ys)) (Some t.1) ≡ Some f
    by true more e = more e g
    by false more e = absurd cc

-- the kinds of tests that name a box, of which one fails
pub named_kind : (b : Box) (tests : List (Test Kind)) (f : Fault) → first_failed (naming b tests) ≡ Some f → (k : Kind) × (first_failed tests ≡ Some k) × (f ≡ fault_of k b)
named_kind b tests f e = by (first_failed tests) refl (sym (named_first b tests) ∙ e)
  where
    by : (o : Option Kind) → first_failed tests ≡ o → option_map (λ (k : Kind). fault_of k b) o ≡ Some f → (k : Kind) × (first_failed tests ≡ Some k) × (f ≡ fault_of k b)
    by None g h = absurd cc
    by (Some k) g h = (k, g, cc)

-- where none fails that names a box, none fails
pub named_pass : (b : Box) (tests : List (Test Kind)) → first_failed (naming b tests) ≡ None → first_failed tests ≡ None
named_pass b tests e = by (first_failed tests) refl (sym (named_first b tests) ∙ e)
  where
    by : (o : Option Kind) → first_failed tests ≡ o → option_map (λ (k : Kind). fault_of k b) o ≡ None → first_failed tests ≡ None
    by None g h = g
    by (Some k) g h = absurd cc

-- a test that passes alone
pub one_passes : {F : Type 0} (a : Bool) (k : F) → first_failed ((a, k) ∷ []) ≡ None → a ≡ true
one_passes true k e = refl
one_passes false k e = absurd cc

-- three tests that pass
pub three_pass : {F : Type 0} (a b c : Bool) (k l m : F) → first_failed ((a, k) ∷ (b, l) ∷ (c, m) ∷ []) ≡ None → (a ≡ true) × (b ≡ true) × (c ≡ true)
three_pass true true true k l m e = (refl, refl, refl)
three_pass true true false k l m e = absurd cc
three_pass true false c k l m e = absurd cc
three_pass false b c k l m e = absurd cc

-- a test that fails alone
pub one_fails : {F : Type 0} (a : Bool) (k f : F) → first_failed ((a, k) ∷ []) ≡ Some f → (a ≡ false) × (f ≡ k)
one_fails true k f e = absurd cc
one_fails false k f e = (refl, cc)
