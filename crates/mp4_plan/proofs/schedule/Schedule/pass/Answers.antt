use Rattle.std.proofs.Common.{rules, arith, ◌≡◌, sym, subst, ap, ◌∙◌, inl, inr, slice_set}
use Rattle.mp4_content.specs.declared.tracks_left.TrackLeft.{TrackLeft}
use Rattle.mp4_plan.specs.words.DueTracks.{AreTimes, IsDue, Skips}
use Rattle.mp4_plan.specs.declared.schedule.Schedule.{Schedule}
use Rattle.mp4_plan.specs.declared.due_tracks.DueTracks.{DueTracks}
use Rattle.std.proofs.lemmas.Result.{err_from_is_err_and}
use Rattle.mp4_content.proofs.AtPlaces.{at_place}
use Rattle.mp4_plan.proofs.DueTurns.{skips_keep, turn_keeps, turned_keeps, times_set, times_first}
use Rattle.mp4_plan.proofs.schedule.Schedule.pass.Goals.{then-track-gt0, else-track-gt0}
use Rattle.mp4_plan.proofs.schedule.Schedule.pass.Goals as goal

pub returns-clause-tracks : goal.returns-clause-tracks
returns-clause-tracks c = (turn_keeps c.if-track-gt0.due c.args.self.now c.take.new.self c.skip.new.self c.args.turn.now.end c.args.count c.args.sample c.in_ok-take.ensures.turned c.skip.ensures.skips).0

pub returns-clause-left : goal.returns-clause-left
returns-clause-left c = (search rules, (turn_keeps c.if-track-gt0.due c.args.self.now c.take.new.self c.skip.new.self c.args.turn.now.end c.args.count c.args.sample c.in_ok-take.ensures.turned c.skip.ensures.skips).2)

pub returns-clause-less : goal.returns-clause-less
returns-clause-less c =
    let less = c.in_ok-take.ensures.less in
    let few = (skips_keep c.if-track-gt0.due c.take.new.self c.skip.new.self c.skip.ensures.skips).turns in
    (omega (arith, less, few), search rules)

pub returns-clause-due : goal.returns-clause-due
returns-clause-due c nexts times =
    let s = c.args.self.now in
    let k = turn_keeps c.if-track-gt0.due s c.take.new.self c.skip.new.self c.args.turn.now.end c.args.count c.args.sample c.in_ok-take.ensures.turned c.skip.ensures.skips in
    let many = c.requires.tree.1 in
    let infos = c.requires.track.1 in
    let first = ap (λ (p : Schedule). p.first) c.in_ok-take.ensures.turned ∙ (turned_keeps s c.args.turn.now.end c.args.count c.args.sample).1 in
    record {
      tree = search rules;
      many = (let own : c.if-track-gt0.due.leaves ≡ s.tracks = search rules in own ∙ sym k.0);
      times = subst (λ n. AreTimes c.args.tracks.now (slice_set nexts s.track c.args.sample) n c.if-track-gt0.due) (sym k.1) (elim c.if-track-gt0.branch [
        | then-track-gt0 w ↦ subst (λ (d : DueTracks). AreTimes c.args.tracks.now (slice_set nexts s.track c.args.sample) s.first d) (sym w.due-is)
            (times_set c.args.tracks.now nexts s.first c.args.due.now w.set.new.self s.track c.args.sample w.due_at.result times (many ∙ infos) w.set.ensures.others w.set.ensures.time
            (λ x at. at_place (λ (t : TrackLeft). IsDue s.first t.timescale c.args.sample w.due_at.result) c.args.tracks.now s.track x _ at (rw first at w.due_at.ensures)))
        | else-track-gt0 w ↦ subst (λ (d : DueTracks). AreTimes c.args.tracks.now (slice_set nexts s.track c.args.sample) s.first d) (sym w.due-is) (times_first c.args.tracks.now nexts s.first c.args.due.now s.track c.args.sample times (search rules))
      ]);
      here = c.skip.ensures.here;
    }

pub returns-then-finds_more-clause-sticks : goal.returns-then-finds_more-clause-sticks
returns-then-finds_more-clause-sticks c nexts times =
    let s = c.args.self.now in
    let more = c.finds_more.ensures.more c.if-finds_more.true in
    let k = turn_keeps c.if-track-gt0.due s c.take.new.self c.skip.new.self c.args.turn.now.end c.args.count c.args.sample c.in_ok-take.ensures.turned c.skip.ensures.skips in
    let many = c.requires.tree.1 in
    let infos = c.requires.track.1 in
    let first = ap (λ (p : Schedule). p.first) c.in_ok-take.ensures.turned ∙ (turned_keeps s c.args.turn.now.end c.args.count c.args.sample).1 in
    inr (record {
      skips = subst (λ p. Skips c.if-track-gt0.due p c.skip.new.self) c.in_ok-take.ensures.turned c.skip.ensures.skips;
      some = more.0;
      inside = more.1;
      none_left = more.2;
      due = record {
        tree = search rules;
        many = (let own : c.if-track-gt0.due.leaves ≡ s.tracks = search rules in own ∙ sym k.0);
        times = subst (λ n. AreTimes c.args.tracks.now (slice_set nexts s.track c.args.sample) n c.if-track-gt0.due) (sym k.1) (elim c.if-track-gt0.branch [
          | then-track-gt0 w ↦ subst (λ (d : DueTracks). AreTimes c.args.tracks.now (slice_set nexts s.track c.args.sample) s.first d) (sym w.due-is)
              (times_set c.args.tracks.now nexts s.first c.args.due.now w.set.new.self s.track c.args.sample w.due_at.result times (many ∙ infos) w.set.ensures.others w.set.ensures.time
              (λ x at. at_place (λ (t : TrackLeft). IsDue s.first t.timescale c.args.sample w.due_at.result) c.args.tracks.now s.track x _ at (rw first at w.due_at.ensures)))
          | else-track-gt0 w ↦ subst (λ (d : DueTracks). AreTimes c.args.tracks.now (slice_set nexts s.track c.args.sample) s.first d) (sym w.due-is) (times_first c.args.tracks.now nexts s.first c.args.due.now s.track c.args.sample times (search rules))
        ]);
        here = c.skip.ensures.here;
      };
    })

pub returns-in_err-take-clause-sticks : goal.returns-in_err-take-clause-sticks
returns-in_err-take-clause-sticks c nexts times =
    let e = err_from_is_err_and c.from_residual.result c.from_residual.ensures.1 in
    rw e.1 (inl c.in_err-take.ensures.refusal.1)
