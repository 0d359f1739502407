use Rattle.std.proofs.Common.{rules, ◌≡◌, ◌-◌, true, sym, subst, List, take}
use Rattle.mp4_tables.specs.declared.sample.SampleAt.{SampleAt}
use Rattle.mp4_content.specs.words.ComingLess.{keeps_all}
use Rattle.mp4_plan.specs.words.Gathering.{count_of}
use Rattle.mp4_plan.specs.words.Stretches.{JoinsOn}
use Rattle.mp4_content.proofs.ReducedTaken.{all_kept}
use Rattle.mp4_plan.proofs.track_pieces.note_left.Goals as goal

pub returns-then-keeps_samples-clause-noted : goal.returns-then-keeps_samples-clause-noted
returns-then-keeps_samples-clause-noted g c =
    let l = c.args.samples.now.reduction in
    let kept : keeps_all l ≡ true = search rules in
    rw (all_kept l kept _, all_kept l kept _) c.note.ensures.noted

pub returns-then-keeps_samples-clause-joined : goal.returns-then-keeps_samples-clause-joined
returns-then-keeps_samples-clause-joined g c =
    let l = c.args.samples.now.reduction in
    let kept : keeps_all l ≡ true = search rules in
    subst (λ (xs : List SampleAt). JoinsOn c.args.stretches.now c.note.new.stretches (take (count_of c.note.new.self.gathered - count_of c.args.planner.now.gathered) xs)) (sym (all_kept l kept _)) c.note.ensures.joined
