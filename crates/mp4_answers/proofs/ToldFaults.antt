-- The limit that a file passes first where its tracks are told to wait is its first fault as it is judged so.
use Rattle.std.proofs.Common.{◌≡◌, ℕ, Bool, true, false, List, refl, sym, ap, subst, ◌∙◌}
use Rattle.std.specs.Prelude.{Option, None, Some, Result, Ok, Err}
use Rattle.mp4_boxes.specs.format.FirstFault.{and_then, first_failed, unless_failed}
use Rattle.mp4_boxes.specs.declared.fault.Fault.{Fault}
use Rattle.mp4_head.specs.format.Tree.{IsTrackTree}
use Rattle.mp4_head.specs.declared.heads.MovieHead.{MovieHead}
use Rattle.mp4_present.specs.format.Denotes.{Denotes, FileTree, presentation_of}
use Rattle.mp4_present.specs.format.Judge.{judge, limit_tests, tree_or_fault}
use Rattle.mp4_present.specs.format.Presentation.{Presentation, IsWithinLimits}
use Rattle.mp4_present.specs.words.HeadsRead.{SaysTree}
use Rattle.mp4_present.specs.words.Measured.{LimitFails}
use Rattle.mp4_present.specs.words.ToldTrees.{IsFileTold}
use Rattle.mp4_present.proofs.JudgedTrees.{file_tree, judged_denotes, judged_tree}
use Rattle.mp4_present.proofs.LimitsJudged.{all_named, limits_fine, limits_first}
use Rattle.mp4_present.proofs.One.{file_tree_one}
use Rattle.mp4_present.proofs.ToldTrees.{places_told, told_is}
use Rattle.mp4_content.specs.format.LeadIns.{told}
use Rattle.mp4_plan.proofs.Judged.{denoted_judged}
use Rattle.mp4_answers.specs.format.SameAnswers.{ToldIsJudged, UntoldIsJudged}
use Rattle.mp4_answers.specs.format.Selected.{Shows, alone, alone_tree}
use Rattle.mp4_answers.specs.format.Told.{judge_told, told_or_fault}
use Rattle.mp4_answers.proofs.Alone.{all_alone}

-- ---- a fault of the file

module _ (track : Option ℕ) (b : Bool) (file : List ℕ) (f : Fault) where
  by_limits : (t : FileTree) (o : Option Fault) → unless_failed o (λ u. Ok (presentation_of file t)) ≡ Err f → unless_failed o (λ u. told_or_fault b (alone_tree track t) (alone track (presentation_of file t))) ≡ Err f
  by_limits t (Some g) e = e
  by_limits t None e = absurd cc

  by_tree : (r : Result FileTree Fault) → and_then r (λ t. unless_failed (first_failed (limit_tests t (presentation_of file t))) (λ u. Ok (presentation_of file t))) ≡ Err f
      → and_then r (λ t. unless_failed (first_failed (limit_tests t (presentation_of file t))) (λ u. told_or_fault b (alone_tree track t) (alone track (presentation_of file t)))) ≡ Err f
  by_tree (Err g) e = e
  by_tree (Ok t) e = by_limits t (first_failed (limit_tests t (presentation_of file t))) e

  -- is one of it as it is told
  pub own_fault : judge file ≡ Err f → judge_told track b file ≡ Err f
  own_fault e = by_tree (tree_or_fault file) e

-- ---- the tree that is judged

record JudgedTree (file : List ℕ) (t : FileTree) : Type 0 where
  tree_is : tree_or_fault file ≡ Ok t
  limits : first_failed (limit_tests t (presentation_of file t)) ≡ None

module _ (file : List ℕ) (p : Presentation) (d : Denotes file p) where
  of_tree : (t : FileTree) → tree_or_fault file ≡ Ok t → (o : Option Fault) → first_failed (limit_tests t (presentation_of file t)) ≡ o → unless_failed o (λ u. Ok (presentation_of file t)) ≡ Ok p → JudgedTree file d.tree
  of_tree t e (Some g) l j = absurd cc
  of_tree t e None l j = subst (JudgedTree file) (file_tree_one file t d.tree (file_tree file t (judged_tree file t e)) d.is_tree) (record { tree_is = e; limits = l })

  of_file : (r : Result FileTree Fault) → tree_or_fault file ≡ r → and_then r (λ t. unless_failed (first_failed (limit_tests t (presentation_of file t))) (λ u. Ok (presentation_of file t))) ≡ Ok p → JudgedTree file d.tree
  of_file (Err g) e j = absurd cc
  of_file (Ok t) e j = of_tree t e (first_failed (limit_tests t (presentation_of file t))) refl j

  found_tree : JudgedTree file d.tree
  found_tree = of_file (tree_or_fault file) refl (denoted_judged file p d)

  -- so the first limit that it passes as it is told is its fault
  pub told_fault : (track : Option ℕ) (b : Bool) (f : Fault) → first_failed (limit_tests (alone_tree track d.tree) (told b (alone track (presentation_of file d.tree)))) ≡ Some f → judge_told track b file ≡ Err f
  told_fault track b f e =
      let j = found_tree in
      (λ i. and_then (j.tree_is i) (λ t. unless_failed (first_failed (limit_tests t (presentation_of file t))) (λ u. told_or_fault b (alone_tree track t) (alone track (presentation_of file t)))))
      ∙ (λ i. unless_failed (j.limits i) (λ u. told_or_fault b (alone_tree track d.tree) (alone track (presentation_of file d.tree))))
      ∙ (λ i. unless_failed (e i) (λ u. Ok (told b (alone track (presentation_of file d.tree)))))

-- ---- the first limit

-- Of what is looked at of a file, where its tracks are told to wait.
pub limit_told : (track : Option ℕ) (file : List ℕ) (p : Presentation) (d : Denotes file p) (waits : List ℕ) (t : FileTree) (head : MovieHead) (f : Fault) → IsFileTold waits (alone_tree track d.tree) t → SaysTree t.movie head → LimitFails (presentation_of file t) head t.movie.moov f
    → presentation_of file t ≡ told true (alone track (presentation_of file d.tree)) → judge_told track true file ≡ Err f
limit_told track file p d waits t head f is says fails same =
    let u = alone_tree track d.tree in
    let places = says.places ∙ sym (places_told waits u.movie.tracks t.movie.tracks is.movie.tracks) in
    let named = all_named u.movie.tracks head.tracks.items (all_alone IsTrackTree track d.tree d.is_tree.movie.tracks) places in
    let moov : u.movie.moov ≡ t.movie.moov = ap (λ (x : FileTree). x.movie.moov) (sym (told_is waits u t is)) in
    told_fault file p d track true f (subst (λ (q : Presentation). first_failed (limit_tests u q) ≡ Some f) same (limits_first u (presentation_of file t) head named t.movie.moov f moov fails))

-- ---- what it is judged to be

module _ (file : List ℕ) where
  untold_by : (t : FileTree) (o : Option Fault) → first_failed (limit_tests t (presentation_of file t)) ≡ o → unless_failed o (λ u. told_or_fault false t (presentation_of file t)) ≡ unless_failed o (λ u. Ok (presentation_of file t))
  untold_by t (Some g) e = refl
  untold_by t None e = ap (λ (o : Option Fault). unless_failed o (λ u. Ok (presentation_of file t))) e

  untold_in : (r : Result FileTree Fault) → and_then r (λ t. unless_failed (first_failed (limit_tests t (presentation_of file t))) (λ u. told_or_fault false t (presentation_of file t)))
      ≡ and_then r (λ t. unless_failed (first_failed (limit_tests t (presentation_of file t))) (λ u. Ok (presentation_of file t)))
  untold_in (Err g) = refl
  untold_in (Ok t) = untold_by t (first_failed (limit_tests t (presentation_of file t))) refl

pub untold_is_judged : UntoldIsJudged
untold_is_judged file = untold_in file (tree_or_fault file)

-- what is looked at of what it is judged to be, where that is within the limits as it is told
module _ (track : Option ℕ) (b : Bool) (file : List ℕ) (p : Presentation) (s : Shows track file p) where
  abbrev shown : Presentation
  shown = told b p

  d : Denotes file s.whole
  d = judged_denotes file s.whole s.judged

  alone_is : alone track (presentation_of file d.tree) ≡ p
  alone_is = ap (alone track) (sym d.says) ∙ sym s.is

  judged_so : judge_told track b file ≡ told_or_fault b (alone_tree track d.tree) p
  judged_so =
      let j = found_tree file s.whole d in
      (λ i. and_then (j.tree_is i) (λ t. unless_failed (first_failed (limit_tests t (presentation_of file t))) (λ u. told_or_fault b (alone_tree track t) (alone track (presentation_of file t)))))
      ∙ (λ i. unless_failed (j.limits i) (λ u. told_or_fault b (alone_tree track d.tree) (alone track (presentation_of file d.tree))))
      ∙ ap (told_or_fault b (alone_tree track d.tree)) alone_is

  to_told : IsWithinLimits shown → judge_told track b file ≡ Ok shown
  to_told limits = judged_so ∙ (λ i. unless_failed (limits_fine (alone_tree track d.tree) shown limits.times limits.moov i) (λ u. Ok shown))

pub told_is_judged : ToldIsJudged
told_is_judged track b file p s limits = to_told track b file p s limits
