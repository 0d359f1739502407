-- The fault that is named of what is left of a file: where one is, that has no normal form, and one is named where it has none.
use Rattle.std.proofs.Common.{◌≡◌, ℕ, List, length, sym, ap, subst, ◌∙◌}
use Rattle.std.proofs.lemmas.List.{length-map}
use Rattle.mp4_present.specs.format.Denotes.{FileTree, file_parts, presentation_of, track_of}
use Rattle.mp4_present.specs.format.Presentation.{Presentation}
use Rattle.mp4_present.proofs.JudgedTrees.{judged_denotes}
use Rattle.mp4_present.proofs.One.{denotes_one, file_tree_one}
use Rattle.mp4_content.specs.format.LeadIns.{told, words_told}
use Rattle.mp4_content.specs.format.ReducedTimes.{FailsLeft}
use Rattle.mp4_content.specs.format.Remaining.{RemainsInLimits}
use Rattle.mp4_content.proofs.ReducedFaults.{is_one, refuses}
use Rattle.mp4_boxes.specs.declared.fault.Fault.{Fault}
use Rattle.mp4_answers.specs.format.ReducedHeadline.{LeftFaultStands}
use Rattle.mp4_answers.specs.format.SameAnswers.{LeftFaultIsOne, LeftFaultRefuses}
use Rattle.mp4_answers.specs.format.Selected.{Shows, alone, alone_tree}
use Rattle.mp4_answers.specs.declared.selection.Selection.{Selection}
use Rattle.mp4_answers.proofs.Alone.{presents_alone}
use Rattle.mp4_answers.proofs.ToldSteps.{told_many}

-- what two faults of what is left are named of is one
same_shown : (s : Selection) (file : List ℕ) (p : Presentation) (f : Fault) (e : Shows s.track file p) (x : LeftFaultStands s file f) → x.p ≡ p
same_shown s file p f e x = x.is ∙ ap (alone s.track) (denotes_one file x.whole e.whole x.denotes (judged_denotes file e.whole e.judged)) ∙ sym e.is

pub left_fault_refuses : LeftFaultRefuses
left_fault_refuses s file f p x e k =
    let l = s.leaving in
    let same = same_shown s file p f e x in
    refuses (words_told l) (told l.lead_ins x.p) (alone_tree s.track x.denotes.tree).movie.tracks f x.fails (subst (λ (q : Presentation). RemainsInLimits (words_told l) (told l.lead_ins q)) (sym same) k.left)

pub left_fault_is_one : LeftFaultIsOne
left_fault_is_one s file p e within over =
    let l = s.leaving in
    let d = judged_denotes file e.whole e.judged in
    let u = alone_tree s.track d.tree in
    let q = told l.lead_ins p in
    let shown : p ≡ presentation_of file u = e.is ∙ ap (alone s.track) d.says ∙ sym (presents_alone file s.track d.tree) in
    let tracks = told_many l.lead_ins p ∙ ap (λ (x : Presentation). length x.tracks) shown ∙ length-map u.movie.tracks (track_of file (file_parts u)) in
    let r = is_one (words_told l) q u.movie.tracks (sym tracks) (λ limits. over (record { shown = within; left = limits })) in (
      r.0,
      record { whole = e.whole; denotes = d; has = e.has; p = p; is = e.is; shown = within; fails = r.1 },
      λ g x.
          let same = same_shown s file p g e x in
          let boxes = file_tree_one file x.denotes.tree d.tree x.denotes.is_tree d.is_tree in
          let here = subst (λ (t : FileTree). FailsLeft (words_told l) (told l.lead_ins x.p) (told l.lead_ins x.p).tracks (alone_tree s.track t).movie.tracks g) boxes x.fails in
          r.2 g (subst (λ (y : Presentation). FailsLeft (words_told l) (told l.lead_ins y) (told l.lead_ins y).tracks u.movie.tracks g) same here),
    )
