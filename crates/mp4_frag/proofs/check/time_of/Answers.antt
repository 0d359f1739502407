use Rattle.std.proofs.Common.{Option, ◌∙◌, ap, sym, option_map}
use Rattle.mp4_boxes.specs.words.View.{box_seen}
use Rattle.mp4_boxes.specs.declared.view.BoxView.{BoxView}
use Rattle.mp4_frag.specs.words.RunsJudged.{children_of, only_list}
use Rattle.mp4_frag.proofs.TracksMoved.{its_time, no_time}
use Rattle.mp4_frag.proofs.check.time_of.Goals as goal

pub returns-in_default-clause-time : goal.returns-in_default-clause-time
returns-in_default-clause-time c =
    no_time (children_of (box_seen c.args.traf)) (sym c.requires.only ∙ ap (λ (o : Option BoxView). only_list (option_map box_seen o)) c.in_default.is)

pub returns-in-Ok-clause-time : goal.returns-in-Ok-clause-time
returns-in-Ok-clause-time c =
    let there = sym c.requires.only ∙ ap (λ (o : Option BoxView). only_list (option_map box_seen o)) c.in-Some.is in
    its_time (box_seen c.in-Some.tfdt) (children_of (box_seen c.args.traf)) c.in-Ok.time there (rw c.payload.ensures at c.in-Ok.ensures.time)
