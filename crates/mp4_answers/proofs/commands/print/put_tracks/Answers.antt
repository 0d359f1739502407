use Rattle.std.proofs.Common.{◌≡◌, ◌∙◌, ◌<◌, ◌≤◌, length, min, slice_index_or, refl, arith, rules}
use Rattle.std.proofs.lemmas.Result.{err_from_is_err_and}
use Rattle.mp4_present.specs.words.Carried.{waiting}
use Rattle.mp4_present.specs.words.SamplesComing.{track_samples}
use Rattle.mp4_present.proofs.TrafTaken.{at_place}
use Rattle.mp4_present.proofs.WalkCopied.{put_unchanged, track_lies}
use Rattle.mp4_answers.proofs.PrintedTracks.{front_fails, lines_fail, track_most, track_next, track_there, tracks_begin, tracks_end, tracks_most, walk_popped}
use Rattle.mp4_answers.proofs.commands.print.put_tracks.Goals as goal

pub put_samples-requires-clause-walk : goal.put_samples-requires-clause-walk
put_samples-requires-clause-walk g c = (walk_popped c.args.of.movie.now c.loop-track.track _ c.pop.new.self.items _ c.in-Some.ensures.items c.loop-track.invariant.walks).0.walk

pub loop-track-init : goal.loop-track-init
loop-track-init g c = record {
  walks = c.requires.walks;
  empty = c.requires.empty;
  grows = omega arith;
  honesty = refl;
  file = refl;
  reads = refl;
  looks = refl;
  puts = refl;
  told = λ told tree o same. tracks_begin c.args.of.leaving (g.S.Store.file c.args.store.now) tree _ (g.met.K.Sink.takes_nothing _) _ _;
}

pub loop-track-preserved : goal.loop-track-preserved
loop-track-preserved g c =
    let i = c.loop-track.invariant in
    let file = g.S.Store.file c.args.store.now in
    let l = c.args.of.leaving in
    let m = c.args.of.movie.now in
    let known = c.args.of.heads.now in
    let scales = c.args.of.scales.now in
    let k = c.loop-track.track in
    let divisor = c.track-divisor.result in
    let divides = c.track-divisor.ensures in
    let head = c.index-heads-track.result in
    let info = c.index-tracks-track.result in
    let h_lt : k < length known = search rules in
    let i_lt : k < length m.tracks = search rules in
    let h_is : head ≡ slice_index_or known k head = search rules in
    let i_is : info ≡ slice_index_or m.tracks k info = search rules in
    let h_at = at_place known k head h_lt h_is in
    let i_at = at_place m.tracks k info i_lt i_is in
    let joins = g.met.K.Sink.takes_on in
    let sink = c.args.sink.now in
    let held = waiting c.args.desk.now.text in
    let e = c.in_ok-put_samples.ensures in
    let popped = walk_popped m k _ c.pop.new.self.items _ c.in-Some.ensures.items i.walks in
    record {
      walks = popped.1;
      empty = e.empty;
      grows =
          let before = i.grows in
          let put = e.grows in
          omega (arith, before, put);
      honesty = e.store.honesty ∙ i.honesty;
      file = e.store.file ∙ i.file;
      reads = e.store.reads ∙ i.reads;
      looks = e.looks ∙ i.looks;
      puts = e.store.puts ∙ c.in_ok-put_front.ensures.puts ∙ i.puts;
      told = λ told tree o same.
          let t = track_there l file m tree scales known k o same head info h_at i_at divisor divides in
          let lines = (rw (i.honesty, i.file) at e.told) told tree t.0 (track_samples tree t.0) o (popped.0.coming file tree t.0 o t.1) refl (track_lies file m tree t.0 k o t.1) k info t.1 i_at refl in
          let may = popped.0.may file tree t.0 o t.1 in
          let few = may.2 in
          let walk = (rw (i.honesty, i.file) at e.work) told tree t.0 may.0 o may.1 in
          track_next l file m tree scales known k o same head info h_at i_at divisor divides joins sink c.loop-track.sink c.put_front.new.sink c.put_samples.new.sink held (waiting c.loop-track.desk.text) (waiting c.put_front.new.text) c.args.steps.now.passed c.loop-track.steps.passed
          (i.told told tree o same)
          (rw c.start_of-start.ensures at c.in_ok-put_front.ensures.all) (waiting c.put_samples.new.desk.text) c.put_samples.new.steps.passed lines.text.all (omega (arith, few, walk));
    }

pub returns-in_err-put_front-clause-told : goal.returns-in_err-put_front-clause-told
returns-in_err-put_front-clause-told g c =
    let p = err_from_is_err_and c.from_residual.result c.from_residual.ensures.1 in
    let i = c.loop-track.invariant in
    let file = g.S.Store.file c.args.store.now in
    let l = c.args.of.leaving in
    let m = c.args.of.movie.now in
    let known = c.args.of.heads.now in
    let scales = c.args.of.scales.now in
    let k = c.loop-track.track in
    let divisor = c.track-divisor.result in
    let divides = c.track-divisor.ensures in
    let head = c.index-heads-track.result in
    let info = c.index-tracks-track.result in
    let h_lt : k < length known = search rules in
    let i_lt : k < length m.tracks = search rules in
    let h_is : head ≡ slice_index_or known k head = search rules in
    let i_is : info ≡ slice_index_or m.tracks k info = search rules in
    let h_at = at_place known k head h_lt h_is in
    let i_at = at_place m.tracks k info i_lt i_is in
    let joins = g.met.K.Sink.takes_on in
    let sink = c.args.sink.now in
    let held = waiting c.args.desk.now.text in
    let e = c.in_err-put_front.ensures in
    rw (p.1, p.2) (λ told tree o same.
    let h = i.told told tree o same in
    record {
      lines = record {
        text = record {
          all = tt;
          front = front_fails l file m tree scales known k o same head info h_at i_at divisor divides joins sink c.loop-track.sink c.put_front.new.sink c.put_front.new.sink held (waiting c.loop-track.desk.text) held c.args.steps.now.passed c.loop-track.steps.passed h
              (rw c.start_of-start.ensures at e.front);
        };
        unchanged = put_unchanged _ _ c.in_err-put_front.field-0.0 e.refusal;
      };
      steps = tracks_most l file tree k _ _ _ c.args.steps.now.passed c.loop-track.steps.passed h;
    })

pub returns-in_err-put_samples-clause-told : goal.returns-in_err-put_samples-clause-told
returns-in_err-put_samples-clause-told g c =
    let p = err_from_is_err_and c.from_residual-in_err-put_samples.result c.from_residual-in_err-put_samples.ensures.1 in
    let i = c.loop-track.invariant in
    let file = g.S.Store.file c.args.store.now in
    let l = c.args.of.leaving in
    let m = c.args.of.movie.now in
    let known = c.args.of.heads.now in
    let scales = c.args.of.scales.now in
    let k = c.loop-track.track in
    let divisor = c.track-divisor.result in
    let divides = c.track-divisor.ensures in
    let head = c.index-heads-track.result in
    let info = c.index-tracks-track.result in
    let h_lt : k < length known = search rules in
    let i_lt : k < length m.tracks = search rules in
    let h_is : head ≡ slice_index_or known k head = search rules in
    let i_is : info ≡ slice_index_or m.tracks k info = search rules in
    let h_at = at_place known k head h_lt h_is in
    let i_at = at_place m.tracks k info i_lt i_is in
    let joins = g.met.K.Sink.takes_on in
    let sink = c.args.sink.now in
    let held = waiting c.args.desk.now.text in
    let e = c.in_err-put_samples.ensures in
    let begun = (walk_popped m k _ c.pop.new.self.items _ c.in-Some.ensures.items i.walks).0 in
    rw (p.1, p.2) (λ told tree o same.
    let h = i.told told tree o same in
    let t = track_there l file m tree scales known k o same head info h_at i_at divisor divides in
    let lines = (rw (i.honesty, i.file) at e.told) told tree t.0 (track_samples tree t.0) o (begun.coming file tree t.0 o t.1) refl (track_lies file m tree t.0 k o t.1) k info t.1 i_at refl in
    let may = begun.may file tree t.0 o t.1 in
    let few = may.2 in
    let walk = (rw (i.honesty, i.file) at e.work) told tree t.0 may.0 o may.1 in
    record {
      lines = record {
        text = record {
          all = tt;
          front = lines_fail l file m tree scales known k o same head info h_at i_at divisor divides joins sink c.loop-track.sink c.put_front.new.sink c.put_samples.new.sink held (waiting c.loop-track.desk.text) (waiting c.put_front.new.text) c.args.steps.now.passed c.loop-track.steps.passed h
              (rw c.start_of-start.ensures at c.in_ok-put_front.ensures.all) lines.text.front;
        };
        unchanged = lines.unchanged;
      };
      steps = track_most l file m tree scales known k o same head info h_at i_at divisor divides (g.K.Sink.takes sink c.loop-track.sink) held (waiting c.loop-track.desk.text) c.args.steps.now.passed c.loop-track.steps.passed c.put_samples.new.steps.passed h (omega (arith, few, walk));
    })

pub returns-clause-told : goal.returns-clause-told
returns-clause-told g c told tree o same =
    let file = g.S.Store.file c.args.store.now in
    let m = c.args.of.movie.now in
    let k = c.loop-track.track in
    let known = c.args.of.heads.now in
    let h = c.loop-track.invariant.told told tree o same in
    let stop : min (length known) (length m.tracks) ≤ k = search rules in
    record {
      lines = record {
        text = record { all = tracks_end c.args.of.leaving file m tree c.args.of.scales.now known k _ _ _ c.args.steps.now.passed c.loop-track.steps.passed o same (λ e f. omega (arith, e, f, stop)) h; front = tt };
        unchanged = tt;
      };
      steps = tracks_most c.args.of.leaving file tree k _ _ _ c.args.steps.now.passed c.loop-track.steps.passed h;
    }
