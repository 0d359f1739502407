-- The first fault of a `trun`: its shape, then the room for its samples, then where these lie, then its offsets.
use Rattle.std.proofs.Common.{◌≡◌, ℕ, ℤ, Bool, true, false, List, [], ◌∷◌, ◌++◌, Option, Some, None, refl}
use Rattle.std.specs.Prelude.{nat_le, not}
use Rattle.mp4_boxes.specs.format.Layout.{trun, row_count, has_large_offset}
use Rattle.mp4_boxes.specs.format.FirstFault.{Test, first_failed}
use Rattle.mp4_boxes.specs.declared.fault.Kind.{Kind}
use Rattle.mp4_boxes.specs.declared.fault.Kind.TheVariants.{BadValue, OutsideData, TooManySamples, SampleOutsideFile, OffsetTooLarge}
use Rattle.mp4_frag.specs.format.Fragments.{sample_run_of}
use Rattle.mp4_frag.specs.words.Passing.{within_from}
use Rattle.mp4_frag.specs.words.RunsJudged.{run_begins}
use Rattle.mp4_frag.specs.words.FragmentTests.{shape_tests, one_run_tests}
use Rattle.mp4_frag.specs.declared.sample_runs.Judged.{Judged}

pub behind_all : {F : Type 0} (xs ys : List (Test F)) (o : Option F) → first_failed xs ≡ None → first_failed ys ≡ o → first_failed (xs ++ ys) ≡ o
behind_all [] ys o e g = g
behind_all (x ∷ xs) ys o e g = by x.0 refl (λ more. behind_all xs ys o more g)
  where
    by : (v : Bool) → x.0 ≡ v → (first_failed xs ≡ None → first_failed (xs ++ ys) ≡ o) → first_failed ((x ∷ xs) ++ ys) ≡ o
    by true k on = let r = (rw k at e) in rw k (on r)
    by false k on = let r = (rw k at e) in absurd cc

-- what is tested of a run behind its shape
abbrev rest_tests : Judged → ℤ → ℕ → List ℕ → List (Test Kind)
rest_tests judged before room payload = (nat_le (row_count trun payload) room, TooManySamples)
    ∷ (within_from judged.file_len judged.inherited.size (run_begins judged.base before payload) (sample_run_of payload).rows, SampleOutsideFile)
    ∷ (true, BadValue) ∷ (true, OutsideData) ∷ (not (has_large_offset trun payload), OffsetTooLarge) ∷ []

module _ (judged : Judged) (before : ℤ) (room : ℕ) (payload : List ℕ) where
  pub run_elsewhere : first_failed (shape_tests trun payload) ≡ None → nat_le (row_count trun payload) room ≡ true → within_from judged.file_len judged.inherited.size (run_begins judged.base before payload) (sample_run_of payload).rows ≡ false
      → first_failed (one_run_tests judged before room payload) ≡ Some SampleOutsideFile
  run_elsewhere e m w = behind_all (shape_tests trun payload) (rest_tests judged before room payload) (Some SampleOutsideFile) e (rw (m, w) refl)

  pub run_large : first_failed (shape_tests trun payload) ≡ None → nat_le (row_count trun payload) room ≡ true → within_from judged.file_len judged.inherited.size (run_begins judged.base before payload) (sample_run_of payload).rows ≡ true
      → has_large_offset trun payload ≡ true → first_failed (one_run_tests judged before room payload) ≡ Some OffsetTooLarge
  run_large e m w l = behind_all (shape_tests trun payload) (rest_tests judged before room payload) (Some OffsetTooLarge) e (rw (m, w, l) refl)

  pub run_fine : first_failed (shape_tests trun payload) ≡ None → nat_le (row_count trun payload) room ≡ true → within_from judged.file_len judged.inherited.size (run_begins judged.base before payload) (sample_run_of payload).rows ≡ true
      → has_large_offset trun payload ≡ false → first_failed (one_run_tests judged before room payload) ≡ None
  run_fine e m w l = behind_all (shape_tests trun payload) (rest_tests judged before room payload) None e (rw (m, w, l) refl)
