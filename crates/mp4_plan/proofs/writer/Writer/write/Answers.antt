use Rattle.std.proofs.Common.{ℕ, rules, ◌≡◌, ◌+◌, ◌⊎◌, List, [], length, map, refl, sym, ap, subst, ◌∙◌, arith}
use Rattle.std.specs.List.{sum_by}
use Rattle.std.specs.Vec.{with_items}
use Rattle.std.proofs.lemmas.List.{with_items_is}
use Rattle.std.proofs.lemmas.Result.{err_from_is_err_and}
use Rattle.mp4_present.specs.words.Carried.{waiting}
use Rattle.mp4_content.specs.words.ComingLess.{left_samples}
use Rattle.mp4_plan.specs.words.PutPieces.{PiecesFollow}
use Rattle.mp4_plan.specs.words.DueTracks.{FindsMore, IsDueAt}
use Rattle.mp4_tables.specs.declared.sample.SampleAt.{SampleAt}
use Rattle.mp4_present.specs.declared.out_buffer.OutBuffer.{OutBuffer}
use Rattle.mp4_present.proofs.WalkCopied.{put_unchanged, on_ok, on_err, if_err}
use Rattle.std.specs.Prelude.{Option, Some, slice_get}
use Rattle.mp4_plan.specs.words.Turns.{Sticks, first_scale, movie_turns, turned}
use Rattle.mp4_content.specs.words.Contents.{infos_left}
use Rattle.mp4_content.specs.words.Scales.{divisors_of}
use Rattle.mp4_plan.specs.format.Held.{rooms}
use Rattle.mp4_content.specs.declared.content.Content.{Content}
use Rattle.mp4_content.specs.declared.tracks_left.TrackLeft.{TrackLeft}
use Rattle.mp4_content.specs.words.Contents.{tracks_left}
use Rattle.mp4_content.proofs.AtPlaces.{read_at}
use Rattle.mp4_plan.proofs.InfosLeft.{tracks_bytes, tracks_many, tracks_samples}
use Rattle.mp4_plan.proofs.PieceWritten.{IsFew}
use Rattle.mp4_plan.proofs.PiecesPut.{all_follow, fewer_to_come, first_put, follow_then, no_more, still_fits, sum_fits}
use Rattle.mp4_plan.proofs.TurnTaken.{turns_end}
use Rattle.mp4_plan.proofs.WritesOn.{stopped, all_taken, all_put, not_all_put, begins, head_stops, head_put, is_first, writes_no_more, writes_skips}
use Rattle.mp4_plan.proofs.WriterTurns.{note_lacks, carry_stops, carry_lacks, pass_lacks, turn_goes, with_times}
use Rattle.mp4_plan.proofs.LooksOn.{begins_within, looks_on, looks_within}
use Rattle.mp4_plan.proofs.SkippedTurns.{either}
use Rattle.mp4_plan.proofs.StepsOn.{all_written, write_then_stop, turn_then, turn_then_stop}
use Rattle.mp4_plan.proofs.writer.Writer.write.Goals as goal

pub returns-in_err-carry-clause-prefix : goal.returns-in_err-carry-clause-prefix
returns-in_err-carry-clause-prefix g c told tree o ready =
    let e = err_from_is_err_and c.from_residual.result c.from_residual.ensures.1 in
    rw e.1 (head_stops c.args.self.now.content.leaving (g.S.Store.file c.args.store.now) tree c.args.movie.now c.args.self.now (g.K.Sink.takes c.args.sink.now c.carry.new.sink) c.as_slice.result.now ready refl c.as_slice.ensures.value c.in_err-carry.ensures.prefix)

pub returns-in_err-peek_each-clause-prefix : goal.returns-in_err-peek_each-clause-prefix
returns-in_err-peek_each-clause-prefix g c told tree o ready =
    let e = err_from_is_err_and c.from_residual-in_err-peek_each.result c.from_residual-in_err-peek_each.ensures.1 in
    rw e.1 (head_put c.args.self.now.content.leaving (g.S.Store.file c.args.store.now) tree c.args.movie.now c.args.self.now _ _ c.as_slice.result.now ready refl c.as_slice.ensures.value c.in_ok-carry.ensures.bytes)

pub returns-in_err-peek_each-clause-unchanged : goal.returns-in_err-peek_each-clause-unchanged
returns-in_err-peek_each-clause-unchanged g c told tree o ready =
    let e = err_from_is_err_and c.from_residual-in_err-peek_each.result c.from_residual-in_err-peek_each.ensures.1 in
    rw (e.1, e.2) (c.in_err-peek_each.ensures.unchanged told tree o (map (left_samples c.args.self.now.content.leaving (g.S.Store.file c.args.store.now) tree) tree.movie.tracks) ready.reductions (rw c.as_mut_slice-walks.ensures.value ready.walks))

pub loop-turn-init : goal.loop-turn-init
loop-turn-init g c =
    let w = c.args.self.now in
    let e = c.in_ok-peek_each.ensures in
    let count = e.walks.walks.count in
    let each_walk = c.requires.walks.count in
    let len = w.walks.ok.0 in
    let many : length c.peek_each.new.walks ≡ w.walks.len = omega (arith, count, each_walk, len) in
    let walks = with_items_is w.walks c.peek_each.new.walks many in
    let each : length c.peek_each.new.nexts ≡ w.nexts.len = search rules in
    let nexts = with_items_is w.nexts c.peek_each.new.nexts each in
    let next_count = c.requires.nexts in
    let next_len = w.nexts.ok.0 in
    let next_many = ap length nexts in
    let l = w.content.leaving in
    let all_tracks = c.args.movie.now.tracks in
    let s = rw (c.tracks.ensures ∙ c.requires.content.tracks) at c.new-schedule.ensures in
    record {
      writer = record {
        walks = rw walks e.walks.walks;
        few = c.requires.few;
        nexts = omega (arith, each, next_count, next_len, next_many);
        content = c.requires.content;
        due = c.begin.ensures.tree;
        many = c.begin.ensures.many ∙ s.tracks
            ∙ tracks_many l c.args.self.now.content.scales.tracks.items all_tracks;
      };
      held =
          let room = c.in_ok-carry.ensures.room in
          let old = w.carrier.buffer.ok.0 in
          let new = c.carry.new.self.buffer.ok.0 in
          let rooms_are = e.walks.rooms in
          let own = ap rooms walks ∙ rooms_are ∙ ap rooms c.as_mut_slice-walks.ensures.value in
          omega (arith, room, old, new, own);
      content = refl;
      tracks = s.tracks ∙ tracks_many l c.args.self.now.content.scales.tracks.items all_tracks;
      honesty = e.store.honesty;
      file = e.store.file;
      reads = e.store.reads;
      puts = c.in_ok-carry.ensures.puts;
      rows = refl;
      few = (let few = c.new-schedule.ensures.few in omega (arith, few));
      sent = (0, (let left = s.left ∙ tracks_samples l c.args.self.now.content.scales.tracks.items all_tracks in omega (arith, left)), first_put _ _ _ w.head.items (rw c.as_slice.ensures.value at c.in_ok-carry.ensures.bytes));
      on = λ told tree o ready.
          let file = g.S.Store.file c.args.store.now in
          let m = c.args.movie.now in
          let lefts = map (left_samples c.args.self.now.content.leaving file tree) tree.movie.tracks in
          let shown = e.shown told tree o lefts ready.reductions (rw c.as_mut_slice-walks.ensures.value ready.walks) in
          let marked = e.marked lefts (rw c.as_mut_slice-walks.ensures.value ready.marked) in
          let time = c.first_time-from.ensures lefts (c.as_slice-2.ensures.value ∙ nexts ∙ shown.0) in
          let first = is_first c.args.self.now.content.leaving file tree m c.new-schedule.result c.first_time-from.result o (s.tracks ∙ tracks_many l c.args.self.now.content.scales.tracks.items all_tracks) (s.first
          ∙ ap (λ (ds : List ℕ). first_scale (tracks_left l ds all_tracks)) ready.scales.tracks) c.new-schedule.ensures.starts (s.left ∙ tracks_samples l c.args.self.now.content.scales.tracks.items all_tracks) time in
          begins c.args.self.now.content.leaving file tree m c.new-schedule.result w (with_items w.walks c.peek_each.new.walks).items (with_items w.nexts c.peek_each.new.nexts).items (g.K.Sink.takes c.args.sink.now c.carry.new.sink)
          (waiting c.carry.new.self) o ready refl first
          (rw walks shown.1) (rw walks marked) (nexts ∙ shown.0) (rw c.as_slice.ensures.value at c.in_ok-carry.ensures.bytes);
      within = λ told tree o n may. rw walks (e.work.1 told tree o n (rw c.as_mut_slice-walks.ensures.value may));
      some = search rules;
      looks = rw e.steps.1 (begins_within c.args.movie.now.tracks c.new-schedule.result c.args.steps.now.looks (s.tracks ∙ tracks_many l c.args.self.now.content.scales.tracks.items all_tracks) (s.left
          ∙ tracks_samples l c.args.self.now.content.scales.tracks.items all_tracks) c.new-schedule.ensures.starts.0);
      due = λ told tree o ready.
          subst (λ (xs : List (Option SampleAt)). IsDueAt (tracks_left l (divisors_of l (g.S.Store.file c.args.store.now) tree) all_tracks) xs c.new-schedule.result c.begin.new.due) c.as_slice-3.ensures.value
          (rw (c.tracks-2.ensures ∙ c.requires.content.tracks ∙ ap (λ (ds : List ℕ). tracks_left c.args.self.now.content.leaving ds c.args.movie.now.tracks) ready.scales.tracks) at c.begin.ensures);
      grows = e.steps.0;
    }

pub returns-in_err-noted-clause-prefix : goal.returns-in_err-noted-clause-prefix
returns-in_err-noted-clause-prefix g c told tree o ready =
    let e = err_from_is_err_and c.from_residual-in_err-noted.result c.from_residual-in_err-noted.ensures.1 in
    let i = c.loop-turn.invariant in
    let file = g.S.Store.file c.args.store.now in
    let m = c.args.movie.now in
    let s = c.loop-turn.schedule in
    let w = c.loop-turn.self in
    let h = i.on told tree o ready in
    let before = c.args.sink.now in
    let after = c.loop-turn.sink in
    rw e.1 (stopped c.args.self.now.content.leaving file tree m s c.loop-turn.sequence c.loop-turn.bytes w.walks.items w.nexts.items (length w.notes.rows.items) g.met.K.Sink.takes_on before after (waiting w.carrier) h)

pub returns-in_err-noted-clause-unchanged : goal.returns-in_err-noted-clause-unchanged
returns-in_err-noted-clause-unchanged g c told tree o ready =
    let e = err_from_is_err_and c.from_residual-in_err-noted.result c.from_residual-in_err-noted.ensures.1 in
    let i = c.loop-turn.invariant in
    let file = g.S.Store.file c.args.store.now in
    let m = c.args.movie.now in
    let s = c.loop-turn.schedule in
    let w = c.loop-turn.self in
    let h = i.on told tree o ready in
    let before = c.args.sink.now in
    let after = c.loop-turn.sink in
    let here = c.in-Some.ensures.track in
    let own = rw (c.tracks-in-loop-turn.ensures ∙ ap (λ (x : Content). x.tracks.items) i.content ∙ c.requires.content.tracks ∙ ap (λ (ds : List ℕ). tracks_left c.args.self.now.content.leaving ds c.args.movie.now.tracks) ready.scales.tracks) at c.in-Some.ensures.own in
    rw (e.1, e.2) (note_lacks c.args.self.now.content.leaving file tree m o s c.loop-turn.sequence c.loop-turn.bytes w g.met.K.Sink.takes_on before after h c.in-Some.turn here own i.tracks i.writer (ap (λ (x : Content). x.leaving) i.content)
    (ap (λ (x : Content). x.of_tracks.items) i.content
    ∙ ready.reductions) _ ((rw (i.honesty, i.file) at c.in_err-noted.ensures.unchanged) told tree o))

pub returns-in_err-carry_turn-clause-prefix : goal.returns-in_err-carry_turn-clause-prefix
returns-in_err-carry_turn-clause-prefix g c told tree o ready =
    let e = err_from_is_err_and c.from_residual-in_err-carry_turn.result c.from_residual-in_err-carry_turn.ensures.1 in
    let i = c.loop-turn.invariant in
    let file = g.S.Store.file c.args.store.now in
    let m = c.args.movie.now in
    let s = c.loop-turn.schedule in
    let w = c.loop-turn.self in
    let h = i.on told tree o ready in
    let before = c.args.sink.now in
    let after = c.loop-turn.sink in
    let here = c.in-Some.ensures.track in
    let own = rw (c.tracks-in-loop-turn.ensures ∙ ap (λ (x : Content). x.tracks.items) i.content ∙ c.requires.content.tracks ∙ ap (λ (ds : List ℕ). tracks_left c.args.self.now.content.leaving ds c.args.movie.now.tracks) ready.scales.tracks) at c.in-Some.ensures.own in
    let noted = (rw (i.honesty, i.file) at c.in_ok-noted.ensures.noted) told tree o in
    let few : IsFew c.in_ok-noted.noted.planned = record { count = no_more _ _ _ c.in_ok-noted.ensures.planned.0.bounds.few i.writer.few; rows = c.in_ok-noted.ensures.planned.0.bounds.rows } in
    rw e.1 (carry_stops c.args.self.now.content.leaving file tree m o s c.loop-turn.sequence c.loop-turn.bytes w g.met.K.Sink.takes_on before after h c.in-Some.turn here own i.tracks i.writer (ap (λ (x : Content). x.leaving) i.content)
    (ap (λ (x : Content). x.of_tracks.items) i.content ∙ ready.reductions) c.note_turn.new.self c.in_ok-noted.noted noted c.in_ok-noted.ensures.writer.content c.in_ok-noted.ensures.writer.keeps few
    c.carry_turn.new.sink ((rw (c.in_ok-noted.ensures.planned.1, c.in_ok-noted.ensures.store.honesty, c.in_ok-noted.ensures.store.file, i.honesty, i.file) at c.in_err-carry_turn.ensures.put) told tree o))

pub returns-in_err-carry_turn-clause-unchanged : goal.returns-in_err-carry_turn-clause-unchanged
returns-in_err-carry_turn-clause-unchanged g c told tree o ready =
    let e = err_from_is_err_and c.from_residual-in_err-carry_turn.result c.from_residual-in_err-carry_turn.ensures.1 in
    let i = c.loop-turn.invariant in
    let file = g.S.Store.file c.args.store.now in
    let m = c.args.movie.now in
    let s = c.loop-turn.schedule in
    let w = c.loop-turn.self in
    let h = i.on told tree o ready in
    let before = c.args.sink.now in
    let after = c.loop-turn.sink in
    let here = c.in-Some.ensures.track in
    let own = rw (c.tracks-in-loop-turn.ensures ∙ ap (λ (x : Content). x.tracks.items) i.content ∙ c.requires.content.tracks ∙ ap (λ (ds : List ℕ). tracks_left c.args.self.now.content.leaving ds c.args.movie.now.tracks) ready.scales.tracks) at c.in-Some.ensures.own in
    let noted = (rw (i.honesty, i.file) at c.in_ok-noted.ensures.noted) told tree o in
    let few : IsFew c.in_ok-noted.noted.planned = record { count = no_more _ _ _ c.in_ok-noted.ensures.planned.0.bounds.few i.writer.few; rows = c.in_ok-noted.ensures.planned.0.bounds.rows } in
    rw (e.1, e.2)
    (carry_lacks c.args.self.now.content.leaving file tree m o s c.loop-turn.sequence c.loop-turn.bytes w g.met.K.Sink.takes_on before after h c.in-Some.turn here own i.tracks i.writer (ap (λ (x : Content). x.leaving) i.content) (ap (λ (x : Content). x.of_tracks.items) i.content
    ∙ ready.reductions) c.note_turn.new.self c.in_ok-noted.noted noted c.in_ok-noted.ensures.writer.content c.in_ok-noted.ensures.writer.keeps few _
    (λ samples is. ((rw (c.in_ok-noted.ensures.planned.1, c.in_ok-noted.ensures.store.honesty, c.in_ok-noted.ensures.store.file, i.honesty, i.file) at c.in_err-carry_turn.ensures.copied) told tree o samples is).1))

pub returns-in_err-pass-clause-prefix : goal.returns-in_err-pass-clause-prefix
returns-in_err-pass-clause-prefix g c told tree o ready =
    let e = err_from_is_err_and c.from_residual-in_err-pass.result c.from_residual-in_err-pass.ensures.1 in
    let i = c.loop-turn.invariant in
    let file = g.S.Store.file c.args.store.now in
    let m = c.args.movie.now in
    let s = c.loop-turn.schedule in
    let w = c.loop-turn.self in
    let h = i.on told tree o ready in
    let before = c.args.sink.now in
    let after = c.loop-turn.sink in
    let here = c.in-Some.ensures.track in
    let own = rw (c.tracks-in-loop-turn.ensures ∙ ap (λ (x : Content). x.tracks.items) i.content ∙ c.requires.content.tracks ∙ ap (λ (ds : List ℕ). tracks_left c.args.self.now.content.leaving ds c.args.movie.now.tracks) ready.scales.tracks) at c.in-Some.ensures.own in
    let noted = (rw (i.honesty, i.file) at c.in_ok-noted.ensures.noted) told tree o in
    let few : IsFew c.in_ok-noted.noted.planned = record { count = no_more _ _ _ c.in_ok-noted.ensures.planned.0.bounds.few i.writer.few; rows = c.in_ok-noted.ensures.planned.0.bounds.rows } in
    let put = (rw (c.in_ok-noted.ensures.planned.1, c.in_ok-noted.ensures.store.honesty, c.in_ok-noted.ensures.store.file, i.honesty, i.file) at c.in_ok-carry_turn.ensures.put) told tree o in
    let copied = (rw (c.in_ok-noted.ensures.planned.1, c.in_ok-noted.ensures.store.honesty, c.in_ok-noted.ensures.store.file, i.honesty, i.file) at c.in_ok-carry_turn.ensures.copied) told tree o in
    let on = turn_goes c.args.self.now.content.leaving file tree m o s c.loop-turn.sequence c.loop-turn.bytes w g.met.K.Sink.takes_on before after h c.in-Some.turn here own i.tracks i.writer (ap (λ (x : Content). x.leaving) i.content)
    (ap (λ (x : Content). x.of_tracks.items) i.content ∙ ready.reductions) c.note_turn.new.self c.in_ok-noted.noted noted c.in_ok-noted.ensures.writer.content c.in_ok-noted.ensures.writer.keeps few c.carry_turn.new.self _ (λ samples is. (copied samples is).0)
    (λ x is. read_at c.carry_turn.new.self.nexts.items c.in-Some.turn.track x _ is c.index.ensures) c.carry_turn.new.sink _ put c.in_ok-carry_turn.ensures.writer.keeps refl in
    rw e.1 (stopped c.args.self.now.content.leaving file tree m _ _ _ _ _ _ g.met.K.Sink.takes_on _ _ _ on)

pub returns-in_err-pass-clause-unchanged : goal.returns-in_err-pass-clause-unchanged
returns-in_err-pass-clause-unchanged g c told tree o ready =
    let e = err_from_is_err_and c.from_residual-in_err-pass.result c.from_residual-in_err-pass.ensures.1 in
    let i = c.loop-turn.invariant in
    let file = g.S.Store.file c.args.store.now in
    let m = c.args.movie.now in
    let s = c.loop-turn.schedule in
    let w = c.loop-turn.self in
    let h = i.on told tree o ready in
    let before = c.args.sink.now in
    let after = c.loop-turn.sink in
    let here = c.in-Some.ensures.track in
    let own = rw (c.tracks-in-loop-turn.ensures ∙ ap (λ (x : Content). x.tracks.items) i.content ∙ c.requires.content.tracks ∙ ap (λ (ds : List ℕ). tracks_left c.args.self.now.content.leaving ds c.args.movie.now.tracks) ready.scales.tracks) at c.in-Some.ensures.own in
    let noted = (rw (i.honesty, i.file) at c.in_ok-noted.ensures.noted) told tree o in
    let few : IsFew c.in_ok-noted.noted.planned = record { count = no_more _ _ _ c.in_ok-noted.ensures.planned.0.bounds.few i.writer.few; rows = c.in_ok-noted.ensures.planned.0.bounds.rows } in
    let copied = (rw (c.in_ok-noted.ensures.planned.1, c.in_ok-noted.ensures.store.honesty, c.in_ok-noted.ensures.store.file, i.honesty, i.file) at c.in_ok-carry_turn.ensures.copied) told tree o in
    let put = (rw (c.in_ok-noted.ensures.planned.1, c.in_ok-noted.ensures.store.honesty, c.in_ok-noted.ensures.store.file, i.honesty, i.file) at c.in_ok-carry_turn.ensures.put) told tree o in
    let next = turned s c.in-Some.turn.end c.in_ok-noted.noted.planned.count c.index.result.now in
    let read : (x : Option SampleAt) → slice_get c.carry_turn.new.self.nexts.items c.in-Some.turn.track ≡ Some x → c.index.result.now ≡ x = λ x is. read_at c.carry_turn.new.self.nexts.items c.in-Some.turn.track x _ is c.index.ensures in
    let on = turn_goes c.args.self.now.content.leaving file tree m o s c.loop-turn.sequence c.loop-turn.bytes w
    g.met.K.Sink.takes_on before after h c.in-Some.turn here own i.tracks i.writer (ap (λ (x : Content). x.leaving) i.content) (ap (λ (x : Content). x.of_tracks.items) i.content
    ∙ ready.reductions) c.note_turn.new.self c.in_ok-noted.noted noted c.in_ok-noted.ensures.writer.content c.in_ok-noted.ensures.writer.keeps few c.carry_turn.new.self
    c.index.result.now (λ samples is. (copied samples is).0) read c.carry_turn.new.sink next put c.in_ok-carry_turn.ensures.writer.keeps refl in
    let stuck = with_times c.args.self.now.content.leaving file tree m o s c.loop-turn.sequence c.loop-turn.bytes w g.met.K.Sink.takes_on before after h c.in-Some.turn here own i.tracks i.writer (ap (λ (x : Content). x.leaving) i.content)
    (ap (λ (x : Content). x.of_tracks.items) i.content
    ∙ ready.reductions) c.note_turn.new.self c.in_ok-noted.noted noted c.in_ok-noted.ensures.writer.content c.in_ok-noted.ensures.writer.keeps few
    c.carry_turn.new.self c.index.result.now (λ samples is. (copied samples is).0)
    read (λ (xs : List (Option SampleAt)). Sticks s c.in_ok-noted.noted.planned.count c.index.result.now ⊎ FindsMore (tracks_left c.args.self.now.content.leaving (divisors_of c.args.self.now.content.leaving file tree) m.tracks) xs next c.pass.new.self c.pass.new.due)
    (i.due told tree o ready) c.in_ok-carry_turn.ensures.writer.keeps.1
    (rw (c.tracks-in-Some.ensures ∙ ap (λ (x : Content). x.tracks.items) (c.in_ok-carry_turn.ensures.writer.content ∙ c.in_ok-noted.ensures.writer.content ∙ i.content) ∙ c.requires.content.tracks ∙ ap
    (λ (ds : List ℕ). tracks_left c.args.self.now.content.leaving ds c.args.movie.now.tracks) ready.scales.tracks) at c.in_err-pass.ensures.sticks) in
    rw (e.1, e.2)
    (λ r. either stuck
    (pass_lacks c.args.self.now.content.leaving file tree m o s c.loop-turn.sequence c.loop-turn.bytes w g.met.K.Sink.takes_on before after h c.in-Some.turn here own i.tracks i.writer (ap (λ (x : Content). x.leaving) i.content) (ap (λ (x : Content). x.of_tracks.items) i.content
    ∙ ready.reductions) c.note_turn.new.self c.in_ok-noted.noted noted c.in_ok-noted.ensures.writer.content c.in_ok-noted.ensures.writer.keeps few
    c.carry_turn.new.self c.index.result.now (λ samples is. (copied samples is).0) read (i.due told tree o ready))
    (writes_no_more c.args.self.now.content.leaving file tree m next c.pass.new.self _ _ _ _ _ _ _ c.pass.new.due o on))

pub loop-turn-preserved : goal.loop-turn-preserved
loop-turn-preserved g c =
    let i = c.loop-turn.invariant in
    record {
      writer =
          let goes = c.in_ok-carry_turn.ensures.writer.writer in
          record { walks = goes.walks; few = goes.few; nexts = goes.nexts; content = goes.content; due = c.in_ok-pass.ensures.tree.0; many = c.in_ok-pass.ensures.tree.1 ∙ i.tracks };
      held = c.in_ok-carry_turn.ensures.writer.held ∙ c.in_ok-noted.ensures.writer.held ∙ i.held;
      tracks = c.in_ok-pass.ensures.tracks ∙ i.tracks;
      honesty = c.in_ok-carry_turn.ensures.devices.honesty ∙ c.in_ok-noted.ensures.store.honesty ∙ i.honesty;
      file = c.in_ok-carry_turn.ensures.devices.file ∙ c.in_ok-noted.ensures.store.file ∙ i.file;
      reads = c.in_ok-carry_turn.ensures.devices.reads ∙ c.in_ok-noted.ensures.store.reads ∙ i.reads;
      puts = c.in_ok-carry_turn.ensures.devices.puts ∙ i.puts;
      content = c.in_ok-carry_turn.ensures.writer.content ∙ c.in_ok-noted.ensures.writer.content ∙ i.content;
      rows = ap (λ v. length v.items) c.in_ok-carry_turn.ensures.writer.keeps.0 ∙ c.in_ok-noted.ensures.writer.keeps.1 ∙ i.rows;
      few = (let left = c.in_ok-pass.ensures.left.1 in
          rw c.from-bytes.ensures (still_fits c.loop-turn.bytes c.loop-turn.schedule.left c.in_ok-noted.noted.planned.bytes c.in_ok-noted.noted.planned.count c.pass.new.self.left _ i.few c.in_ok-noted.ensures.planned.0.bounds.bytes c.in_ok-pass.ensures.left.0 left));
      sent =
          let count = c.in_ok-noted.noted.planned.count in
          let bytes = c.in_ok-noted.noted.planned.bytes in
          let left = c.in_ok-pass.ensures.left.1 in
          let more = subst (λ (k : OutBuffer). PiecesFollow (g.K.Sink.takes c.loop-turn.sink c.carry_turn.new.sink) (waiting k) (waiting c.carry_turn.new.self.carrier) [] count bytes) c.in_ok-noted.ensures.writer.keeps.0 c.in_ok-carry_turn.ensures.many in
          rw c.from-bytes.ensures (
            i.sent.0 + count,
            fewer_to_come i.sent.0 c.loop-turn.schedule.left count c.pass.new.self.left _ i.sent.1 c.in_ok-pass.ensures.left.0 left,
            follow_then g.met.K.Sink.takes_on c.args.sink.now c.loop-turn.sink c.carry_turn.new.sink (waiting c.args.self.now.carrier) (waiting c.loop-turn.self.carrier) (waiting c.carry_turn.new.self.carrier) c.args.self.now.head.items i.sent.0
                c.loop-turn.bytes count bytes i.sent.2 more,
          );
      on = λ told tree o ready.
          let file = g.S.Store.file c.args.store.now in
          let m = c.args.movie.now in
          let s = c.loop-turn.schedule in
          let w = c.loop-turn.self in
          let h = i.on told tree o ready in
          let before = c.args.sink.now in
          let after = c.loop-turn.sink in
          let here = c.in-Some.ensures.track in
          let own = rw (c.tracks-in-loop-turn.ensures ∙ ap (λ (x : Content). x.tracks.items) i.content ∙ c.requires.content.tracks ∙ ap (λ (ds : List ℕ). tracks_left c.args.self.now.content.leaving ds c.args.movie.now.tracks) ready.scales.tracks) at c.in-Some.ensures.own in
          let noted = (rw (i.honesty, i.file) at c.in_ok-noted.ensures.noted) told tree o in
          let few : IsFew c.in_ok-noted.noted.planned = record { count = no_more _ _ _ c.in_ok-noted.ensures.planned.0.bounds.few i.writer.few; rows = c.in_ok-noted.ensures.planned.0.bounds.rows } in
          let put = (rw (c.in_ok-noted.ensures.planned.1, c.in_ok-noted.ensures.store.honesty, c.in_ok-noted.ensures.store.file, i.honesty, i.file) at c.in_ok-carry_turn.ensures.put) told tree o in
          let copied = (rw (c.in_ok-noted.ensures.planned.1, c.in_ok-noted.ensures.store.honesty, c.in_ok-noted.ensures.store.file, i.honesty, i.file) at c.in_ok-carry_turn.ensures.copied) told tree o in
          let next = turned s c.in-Some.turn.end c.in_ok-noted.noted.planned.count c.index.result.now in
          let read : (x : Option SampleAt) → slice_get c.carry_turn.new.self.nexts.items c.in-Some.turn.track ≡ Some x → c.index.result.now ≡ x = λ x is. read_at c.carry_turn.new.self.nexts.items c.in-Some.turn.track x _ is c.index.ensures in
          let due_next =
          with_times c.args.self.now.content.leaving file tree m o s c.loop-turn.sequence c.loop-turn.bytes w
          g.met.K.Sink.takes_on before after h c.in-Some.turn here own i.tracks i.writer (ap (λ (x : Content). x.leaving) i.content) (ap (λ (x : Content). x.of_tracks.items) i.content
          ∙ ready.reductions) c.note_turn.new.self c.in_ok-noted.noted noted c.in_ok-noted.ensures.writer.content c.in_ok-noted.ensures.writer.keeps few c.carry_turn.new.self
          c.index.result.now (λ samples is. (copied samples is).0) read (λ (xs : List (Option SampleAt)). IsDueAt (tracks_left c.args.self.now.content.leaving (divisors_of c.args.self.now.content.leaving file tree) m.tracks) xs c.pass.new.self c.pass.new.due)
          (i.due told tree o ready) c.in_ok-carry_turn.ensures.writer.keeps.1
          (rw (c.tracks-in-Some.ensures ∙ ap (λ (x : Content). x.tracks.items) (c.in_ok-carry_turn.ensures.writer.content ∙ c.in_ok-noted.ensures.writer.content ∙ i.content) ∙ c.requires.content.tracks ∙ ap
          (λ (ds : List ℕ). tracks_left c.args.self.now.content.leaving ds c.args.movie.now.tracks) ready.scales.tracks) at c.in_ok-pass.ensures.due) in
          rw (c.sequence_behind-sequence.ensures, c.from-bytes.ensures)
          (writes_skips c.args.self.now.content.leaving file tree m next c.pass.new.self _ _ _ _ _ _ _ c.pass.new.due o
          (turn_goes c.args.self.now.content.leaving file tree m o s c.loop-turn.sequence c.loop-turn.bytes w
          g.met.K.Sink.takes_on before after h c.in-Some.turn here own i.tracks i.writer (ap (λ (x : Content). x.leaving) i.content) (ap (λ (x : Content). x.of_tracks.items) i.content
          ∙ ready.reductions) c.note_turn.new.self c.in_ok-noted.noted noted c.in_ok-noted.ensures.writer.content c.in_ok-noted.ensures.writer.keeps few c.carry_turn.new.self
          c.index.result.now (λ samples is. (copied samples is).0) read c.carry_turn.new.sink next put c.in_ok-carry_turn.ensures.writer.keeps refl)
          c.in_ok-pass.ensures.turned due_next);
      due = λ told tree o ready.
          let file = g.S.Store.file c.args.store.now in
          let m = c.args.movie.now in
          let s = c.loop-turn.schedule in
          let w = c.loop-turn.self in
          let h = i.on told tree o ready in
          let before = c.args.sink.now in
          let after = c.loop-turn.sink in
          let here = c.in-Some.ensures.track in
          let own = rw (c.tracks-in-loop-turn.ensures ∙ ap (λ (x : Content). x.tracks.items) i.content ∙ c.requires.content.tracks ∙ ap (λ (ds : List ℕ). tracks_left c.args.self.now.content.leaving ds c.args.movie.now.tracks) ready.scales.tracks) at c.in-Some.ensures.own in
          let noted = (rw (i.honesty, i.file) at c.in_ok-noted.ensures.noted) told tree o in
          let few : IsFew c.in_ok-noted.noted.planned = record { count = no_more _ _ _ c.in_ok-noted.ensures.planned.0.bounds.few i.writer.few; rows = c.in_ok-noted.ensures.planned.0.bounds.rows } in
          let copied = (rw (c.in_ok-noted.ensures.planned.1, c.in_ok-noted.ensures.store.honesty, c.in_ok-noted.ensures.store.file, i.honesty, i.file) at c.in_ok-carry_turn.ensures.copied) told tree o in
          let read : (x : Option SampleAt) → slice_get c.carry_turn.new.self.nexts.items c.in-Some.turn.track ≡ Some x → c.index.result.now ≡ x = λ x is. read_at c.carry_turn.new.self.nexts.items c.in-Some.turn.track x _ is c.index.ensures in
          with_times c.args.self.now.content.leaving file tree m o s c.loop-turn.sequence c.loop-turn.bytes w g.met.K.Sink.takes_on before after h c.in-Some.turn here own i.tracks i.writer (ap (λ (x : Content). x.leaving) i.content) (ap (λ (x : Content). x.of_tracks.items) i.content
          ∙ ready.reductions) c.note_turn.new.self c.in_ok-noted.noted noted c.in_ok-noted.ensures.writer.content c.in_ok-noted.ensures.writer.keeps few
          c.carry_turn.new.self c.index.result.now (λ samples is. (copied samples is).0)
          read (λ (xs : List (Option SampleAt)). IsDueAt (tracks_left c.args.self.now.content.leaving (divisors_of c.args.self.now.content.leaving file tree) m.tracks) xs c.pass.new.self c.pass.new.due) (i.due told tree o ready) c.in_ok-carry_turn.ensures.writer.keeps.1
          (rw (c.tracks-in-Some.ensures ∙ ap (λ (x : Content). x.tracks.items) (c.in_ok-carry_turn.ensures.writer.content ∙ c.in_ok-noted.ensures.writer.content ∙ i.content) ∙ c.requires.content.tracks ∙ ap
          (λ (ds : List ℕ). tracks_left c.args.self.now.content.leaving ds c.args.movie.now.tracks) ready.scales.tracks) at c.in_ok-pass.ensures.due);
      within = λ told tree o n may.
          let w = c.loop-turn.self in
          turn_then (g.S.Store.file c.args.store.now) tree c.args.movie.now w.content.of_tracks.items w.walks.items c.note_turn.new.self.walks.items c.in-Some.turn.track c.in_ok-noted.noted.planned.count n _ _ _ (i.within told tree o n may)
          ((rw (i.honesty, i.file, c.in-Some.ensures.passed) at c.in_ok-noted.ensures.work) told tree o) c.carry_turn.new.self.walks.items _
          (rw c.in_ok-noted.ensures.writer.content at ((rw (c.in_ok-noted.ensures.planned.1, c.in_ok-noted.ensures.store.honesty, c.in_ok-noted.ensures.store.file, i.honesty, i.file) at c.in_ok-carry_turn.ensures.work) told tree o));
      some = c.in_ok-pass.ensures.less.1;
      looks = looks_on c.loop-turn.schedule c.pass.new.self c.args.steps.now.looks _ _ (movie_turns c.args.movie.now) i.looks (c.in_ok-carry_turn.ensures.steps.1 ∙ c.in_ok-noted.ensures.steps.1 ∙ c.in-Some.ensures.looks) c.in_ok-pass.ensures.less.0;
      grows = (let noted = c.in_ok-noted.ensures.steps.0 in let carried = c.in_ok-carry_turn.ensures.steps.0 in let so = i.grows in let same = c.in-Some.ensures.passed in omega (arith, noted, carried, so, same));
    }

pub returns-clause-bytes : goal.returns-clause-bytes
returns-clause-bytes g c told tree o ready =
    let i = c.loop-turn.invariant in
    let file = g.S.Store.file c.args.store.now in
    let m = c.args.movie.now in
    let s = c.loop-turn.schedule in
    let w = c.loop-turn.self in
    let h = i.on told tree o ready in
    let before = c.args.sink.now in
    let after = c.loop-turn.sink in
    let none = turns_end file (infos_left c.args.self.now.content.leaving (divisors_of c.args.self.now.content.leaving file tree) m.tracks) s h.lefts h.comings h.turn (c.in_default.ensures.none refl) in
    on_ok _ _ c.flush.result (λ x. all_put c.args.self.now.content.leaving file tree m s c.loop-turn.sequence c.loop-turn.bytes w.walks.items w.nexts.items (length w.notes.rows.items) g.met.K.Sink.takes_on before after (waiting w.carrier) h _ none x) c.flush.ensures.bytes

pub returns-clause-prefix : goal.returns-clause-prefix
returns-clause-prefix g c told tree o ready =
    let i = c.loop-turn.invariant in
    let file = g.S.Store.file c.args.store.now in
    let m = c.args.movie.now in
    let s = c.loop-turn.schedule in
    let w = c.loop-turn.self in
    let h = i.on told tree o ready in
    let before = c.args.sink.now in
    let after = c.loop-turn.sink in
    let none = turns_end file (infos_left c.args.self.now.content.leaving (divisors_of c.args.self.now.content.leaving file tree) m.tracks) s h.lefts h.comings h.turn (c.in_default.ensures.none refl) in
    on_err _ _ c.flush.result (λ x. not_all_put c.args.self.now.content.leaving file tree m s c.loop-turn.sequence c.loop-turn.bytes w.walks.items w.nexts.items (length w.notes.rows.items) g.met.K.Sink.takes_on before after (waiting w.carrier) h _ none x) c.flush.ensures.prefix

pub returns-clause-unchanged : goal.returns-clause-unchanged
returns-clause-unchanged g c told tree o ready =
    if_err _ _ c.flush.result (λ r x. put_unchanged _ _ r x) c.flush.ensures.refusal

pub returns-in_err-peek_each-clause-work : goal.returns-in_err-peek_each-clause-work
returns-in_err-peek_each-clause-work g c told tree o n may = c.in_err-peek_each.ensures.work.1 told tree o n (rw c.as_mut_slice-walks.ensures.value may)

pub returns-in_err-noted-clause-work : goal.returns-in_err-noted-clause-work
returns-in_err-noted-clause-work g c told tree o n may =
    let i = c.loop-turn.invariant in
    write_then_stop (g.S.Store.file c.args.store.now) tree c.args.movie.now c.loop-turn.self.walks.items n _ _ _ (i.within told tree o n may) ((rw (i.honesty, i.file, c.in-Some.ensures.passed) at c.in_err-noted.ensures.work) told tree o)

pub returns-in_err-carry_turn-clause-work : goal.returns-in_err-carry_turn-clause-work
returns-in_err-carry_turn-clause-work g c told tree o n may =
    let i = c.loop-turn.invariant in
    let w = c.loop-turn.self in
    turn_then_stop (g.S.Store.file c.args.store.now) tree c.args.movie.now w.content.of_tracks.items w.walks.items c.note_turn.new.self.walks.items c.in-Some.turn.track c.in_ok-noted.noted.planned.count n _ _ _ (i.within told tree o n may)
    ((rw (i.honesty, i.file, c.in-Some.ensures.passed) at c.in_ok-noted.ensures.work) told tree o) _
    (rw c.in_ok-noted.ensures.writer.content at ((rw (c.in_ok-noted.ensures.planned.1, c.in_ok-noted.ensures.store.honesty, c.in_ok-noted.ensures.store.file, i.honesty, i.file) at c.in_err-carry_turn.ensures.work) told tree o))

pub returns-in_err-pass-clause-work : goal.returns-in_err-pass-clause-work
returns-in_err-pass-clause-work g c told tree o n may =
    let i = c.loop-turn.invariant in
    let file = g.S.Store.file c.args.store.now in
    let w = c.loop-turn.self in
    all_written file tree c.args.movie.now c.carry_turn.new.self.walks.items n _ _
    (turn_then file tree c.args.movie.now w.content.of_tracks.items w.walks.items c.note_turn.new.self.walks.items c.in-Some.turn.track c.in_ok-noted.noted.planned.count n _ _ _ (i.within told tree o n may)
    ((rw (i.honesty, i.file, c.in-Some.ensures.passed) at c.in_ok-noted.ensures.work) told tree o) c.carry_turn.new.self.walks.items _
    (rw c.in_ok-noted.ensures.writer.content at ((rw (c.in_ok-noted.ensures.planned.1, c.in_ok-noted.ensures.store.honesty, c.in_ok-noted.ensures.store.file, i.honesty, i.file) at c.in_ok-carry_turn.ensures.work) told tree o)))

pub returns-clause-work : goal.returns-clause-work
returns-clause-work g c told tree o n may = rw c.in_default.ensures.passed (all_written (g.S.Store.file c.args.store.now) tree c.args.movie.now c.loop-turn.self.walks.items n _ _ (c.loop-turn.invariant.within told tree o n may))

pub overflow_add-bytes : goal.overflow_add-bytes
overflow_add-bytes g c =
    let sum = sum_fits c.loop-turn.bytes c.loop-turn.schedule.left c.in_ok-noted.noted.planned.bytes c.loop-turn.invariant.few c.in_ok-noted.ensures.planned.0.room in
    let same = c.from-bytes.ensures in
    omega (arith, sum, same)

-- ---- where samples or bytes are missing

pub returns-then-not-are_all-clause-prefix : goal.returns-then-not-are_all-clause-prefix
returns-then-not-are_all-clause-prefix g c told tree o ready =
    let i = c.loop-turn.invariant in
    let w = c.loop-turn.self in
    stopped c.args.self.now.content.leaving (g.S.Store.file c.args.store.now) tree c.args.movie.now c.loop-turn.schedule c.loop-turn.sequence c.loop-turn.bytes w.walks.items w.nexts.items (length w.notes.rows.items) g.met.K.Sink.takes_on c.args.sink.now c.loop-turn.sink
    (waiting w.carrier) (i.on told tree o ready)

pub returns-then-not-are_all-clause-unchanged : goal.returns-then-not-are_all-clause-unchanged
returns-then-not-are_all-clause-unchanged g c told tree o ready e =
    let i = c.loop-turn.invariant in
    let w = c.loop-turn.self in
    let m = c.args.movie.now in
    let all = all_taken c.args.self.now.content.leaving (g.S.Store.file c.args.store.now) tree m c.loop-turn.schedule c.loop-turn.sequence c.loop-turn.bytes w.walks.items w.nexts.items (length w.notes.rows.items) g.met.K.Sink.takes_on c.args.sink.now c.loop-turn.sink
    (waiting w.carrier) (i.on told tree o ready) (c.in_default.ensures.none refl) in
    let tracks = c.tracks-3.ensures ∙ ap (λ (x : Content). x.tracks.items) i.content ∙ c.requires.content.tracks in
    c.are_all.ensures.missing c.if-not-are_all.true (all.0, all.1 ∙ sym (ap (λ (ts : List TrackLeft). sum_by (λ (t : TrackLeft). t.bytes) ts) tracks ∙ tracks_bytes c.args.self.now.content.leaving c.args.self.now.content.scales.tracks.items m.tracks))

pub returns-then-not-are_all-clause-work : goal.returns-then-not-are_all-clause-work
returns-then-not-are_all-clause-work g c told tree o n may = rw c.in_default.ensures.passed (all_written (g.S.Store.file c.args.store.now) tree c.args.movie.now c.loop-turn.self.walks.items n _ _ (c.loop-turn.invariant.within told tree o n may))

pub returns-clause-whole : goal.returns-clause-whole
returns-clause-whole g c =
    let i = c.loop-turn.invariant in
    let w = c.loop-turn.self in
    let sum = i.sent.1 in
    let tracks = c.tracks-3.ensures ∙ ap (λ (x : Content). x.tracks.items) i.content ∙ c.requires.content.tracks in
    let all = (rw tracks at c.are_all.ensures.all) c.if-not-are_all.false in
    let none = all.0 in
    on_ok _ _ c.flush.result
    (λ x. all_follow c.args.movie.now g.met.K.Sink.takes_on c.args.sink.now c.loop-turn.sink c.flush.new.sink (waiting c.args.self.now.carrier) (waiting w.carrier) c.args.self.now.head.items i.sent.0 c.loop-turn.bytes i.sent.2 (omega (arith, none, sum)) (all.1
    ∙ tracks_bytes c.args.self.now.content.leaving c.args.self.now.content.scales.tracks.items c.args.movie.now.tracks) x)
    c.flush.ensures.bytes

pub returns-in_err-noted-clause-steps : goal.returns-in_err-noted-clause-steps
returns-in_err-noted-clause-steps g c = (search rules, looks_within c.loop-turn.schedule c.args.steps.now.looks _ _ (movie_turns c.args.movie.now) c.loop-turn.invariant.looks (c.in_err-noted.ensures.steps.1 ∙ c.in-Some.ensures.looks) c.in-Some.ensures.track.1 c.loop-turn.invariant.some)

pub returns-in_err-carry_turn-clause-steps : goal.returns-in_err-carry_turn-clause-steps
returns-in_err-carry_turn-clause-steps g c = (
  search rules,
  looks_within c.loop-turn.schedule c.args.steps.now.looks _ _ (movie_turns c.args.movie.now) c.loop-turn.invariant.looks
      (c.in_err-carry_turn.ensures.steps.1 ∙ c.in_ok-noted.ensures.steps.1 ∙ c.in-Some.ensures.looks) c.in-Some.ensures.track.1 c.loop-turn.invariant.some,
)

pub returns-in_err-pass-clause-steps : goal.returns-in_err-pass-clause-steps
returns-in_err-pass-clause-steps g c = (
  search rules,
  looks_within c.loop-turn.schedule c.args.steps.now.looks _ _ (movie_turns c.args.movie.now) c.loop-turn.invariant.looks
      (c.in_ok-carry_turn.ensures.steps.1 ∙ c.in_ok-noted.ensures.steps.1 ∙ c.in-Some.ensures.looks) c.in-Some.ensures.track.1 c.loop-turn.invariant.some,
)

pub returns-then-not-are_all-clause-steps : goal.returns-then-not-are_all-clause-steps
returns-then-not-are_all-clause-steps g c =
    let within = c.loop-turn.invariant.looks in
    let same = c.in_default.ensures.looks in
    (search rules, omega (arith, within, same))

pub returns-clause-steps : goal.returns-clause-steps
returns-clause-steps g c =
    let within = c.loop-turn.invariant.looks in
    let same = c.in_default.ensures.looks in
    (search rules, omega (arith, within, same))
