use Rattle.std.proofs.Common.{[], ◌∙◌, ◌≡◌, ◌+◌, ◌-◌, ◌≤◌, ℕ, Some, subst, sym, arith}
use Rattle.std.proofs.lemmas.Result.{err_from_is_err_and}
use Rattle.mp4_store.proofs.Known.{TakesPrefix-nothing}
use Rattle.mp4_present.specs.words.Carried.{waiting, GoOnBy}
use Rattle.mp4_present.specs.words.SamplesComing.{track_samples, samples_behind}
use Rattle.mp4_present.proofs.Causes.{copy_not_loaded, copy_not_carried}
use Rattle.mp4_present.specs.words.WalkSteps.{walk_steps}
use Rattle.mp4_present.proofs.Carrying.{GoOnBy-then, GoOnBy-all}
use Rattle.mp4_present.proofs.Hands.{hand_none}
use Rattle.mp4_present.proofs.TrafTaken.{at_place}
use Rattle.mp4_present.proofs.WayThrough.{takes_within, takes_then, takes_most, most_then}
use Rattle.mp4_present.proofs.WalkCopied.{track_next, track_sizes, none_left, track_fails, track_stops, track_whole, track_not_put, track_lies, in_hand_lies, on_ok, on_err, if_err, put_unchanged, loads_more, loads_none}
use Rattle.mp4_present.specs.declared.track_info.TrackInfo.{TrackInfo}
use Rattle.mp4_present.proofs.movie.Movie.copy_track.Goals as goal

same_info : (x y : TrackInfo) → Some x ≡ Some y → x ≡ y
same_info x y e = cc

fewer : (all left next : ℕ) → left ≤ all → next ≤ left → next ≤ all
fewer all left next a b = omega (arith, a, b)

less_by : (all left next : ℕ) → left ≤ all → next ≤ left → all - next ≡ all - left + (left - next)
less_by all left next a b = omega (arith, a, b)

whole_is : (all left : ℕ) → left ≡ 0 → all - left ≡ all
whole_is all left none = omega (arith, none)

pub returns-in_err-walk-clause-prefix : goal.returns-in_err-walk-clause-prefix
returns-in_err-walk-clause-prefix g c =
    let p = err_from_is_err_and c.from_residual.result c.from_residual.ensures.1 in
    rw p.1 (λ told tree t o is. TakesPrefix-nothing (g.K.Sink.takes c.args.sink.now c.args.sink.now) (g.met.K.Sink.takes_nothing c.args.sink.now) _)

pub returns-in_err-carrier-clause-prefix : goal.returns-in_err-carrier-clause-prefix
returns-in_err-carrier-clause-prefix g c =
    let p = err_from_is_err_and c.from_residual-in_err-carrier.result c.from_residual-in_err-carrier.ensures.1 in
    rw p.1 (λ told tree t o is. TakesPrefix-nothing (g.K.Sink.takes c.args.sink.now c.args.sink.now) (g.met.K.Sink.takes_nothing c.args.sink.now) _)

pub returns-in_err-left-clause-prefix : goal.returns-in_err-left-clause-prefix
returns-in_err-left-clause-prefix g c =
    let p = err_from_is_err_and c.from_residual-in_err-left.result c.from_residual-in_err-left.ensures.1 in
    let file = g.S.Store.file c.args.store.now in
    rw p.1 (λ told tree t o is.
    let x = (rw c.in_ok-carrier.ensures.empty at c.in_err-left.ensures.taken.put) told in
    track_fails file tree t c.args.self.now g.met.K.Sink.takes_on _ _ _ [] c.in_ok-walk.walk (track_samples tree t) (track_samples tree t) (hand_none file _ (g.met.K.Sink.takes_nothing _) [] _) (c.in_ok-walk.ensures.coming file tree t o is) x.0 x.1 x.2)

pub returns-in_err-left-clause-unchanged : goal.returns-in_err-left-clause-unchanged
returns-in_err-left-clause-unchanged g c told tree t o is =
    let p = err_from_is_err_and c.from_residual-in_err-left.result c.from_residual-in_err-left.ensures.1 in
    let file = g.S.Store.file c.args.store.now in
    let sink = c.args.sink.now in
    let x = c.in_err-left.ensures.unchanged in
    let m = c.args.self.now in
    let info = c.index-tracks-track.result in
    let info_at = at_place m.tracks c.args.track info c.requires (rw c.tracks.ensures at c.index-tracks-track.is) in
    rw (p.1, p.2) (in_hand_lies file tree t m (g.K.Sink.takes sink sink) [] c.in_ok-walk.walk (track_samples tree t) (track_samples tree t) _ info.bytes _ (hand_none file _ (g.met.K.Sink.takes_nothing sink) [] _) (c.in_ok-walk.ensures.coming file tree t o is)
    (track_sizes file m tree t c.args.track info o is info_at) (track_lies file m tree t c.args.track o is) x.0 x.1 x.2)

pub loop-carrier-init : goal.loop-carrier-init
loop-carrier-init g c =
    let e = c.in_ok-left.ensures in
    let file = g.S.Store.file c.args.store.now in
    let m = c.args.self.now in
    let info = c.index-tracks-track.result in
    let info_at = at_place m.tracks c.args.track info c.requires (rw c.tracks.ensures at c.index-tracks-track.is) in
    record {
      walk = e.walk.walk;
      honesty = e.store.honesty;
      file = e.store.file;
      reads = e.store.reads;
      puts = e.store.puts;
      going = λ told tree t o is.
          let x = (rw c.in_ok-carrier.ensures.empty at e.taken.put) told in
          let y = e.taken.left.sizes in
          track_next file tree t m g.met.K.Sink.takes_on _ _ _ [] (waiting c.carry_hand.new.carrier) c.in_ok-walk.walk c.carry_hand.new.walk (track_samples tree t) (track_samples tree t) info.bytes c.in_ok-left.left (hand_none file _ (g.met.K.Sink.takes_nothing _) [] _)
          (c.in_ok-walk.ensures.coming file tree t o is)
          (track_sizes file m tree t c.args.track info o is info_at) y.0 y.1 y.2 x.0 x.1 x.2 e.walk.stands;
      many = λ other at.
          subst (λ (i : TrackInfo). (c.in_ok-left.left ≤ i.bytes) × GoOnBy (g.K.Sink.takes c.args.sink.now c.carry_hand.new.sink) [] (waiting c.carry_hand.new.carrier) (i.bytes - c.in_ok-left.left)) (same_info info other (sym info_at ∙ at))
          (rw c.in_ok-carrier.ensures.empty at e.taken.left.many);
      grows = e.grows;
      looks = c.carry_hand.ensures.looks;
      takes = λ told tree t o is.
          let may = c.in_ok-walk.ensures.may file tree t o is in
          takes_within file tree t may.0 (walk_steps tree t) _ _ c.carry_hand.new.walk may.2 (e.work file tree t may.0 o may.1);
    }

pub returns-in_err-load-clause-prefix : goal.returns-in_err-load-clause-prefix
returns-in_err-load-clause-prefix g c =
    let p = err_from_is_err_and c.from_residual-in_err-load.result c.from_residual-in_err-load.ensures.1 in
    let file = g.S.Store.file c.args.store.now in
    rw p.1 (λ told tree t o is. let u = c.loop-carrier.invariant.going told tree t o is in track_stops file _ (waiting c.loop-carrier.carrier) (track_samples tree t) (samples_behind tree t u.earlier u.later) u.goes)

pub returns-in_err-load-clause-unchanged : goal.returns-in_err-load-clause-unchanged
returns-in_err-load-clause-unchanged g c told tree t o is =
    let p = err_from_is_err_and c.from_residual-in_err-load.result c.from_residual-in_err-load.ensures.1 in
    let i = c.loop-carrier.invariant in
    let u = i.going told tree t o is in
    rw (p.1, p.2) ((rw (i.honesty, i.file) at c.in_err-load.ensures.loaded) told tree t u.earlier u.later o u.stands)

pub returns-in_err-load-clause-refusal : goal.returns-in_err-load-clause-refusal
returns-in_err-load-clause-refusal g c =
    let p = err_from_is_err_and c.from_residual-in_err-load.result c.from_residual-in_err-load.ensures.1 in
    let i = c.loop-carrier.invariant in
    rw (p.1, p.2) (copy_not_loaded (g.K.Sink.takes c.args.sink.now c.loop-carrier.sink) _ _ _ _ _ (rw i.reads at c.in_err-load.ensures.refusal))

pub loop-carrier-preserved : goal.loop-carrier-preserved
loop-carrier-preserved g c =
    let i = c.loop-carrier.invariant in
    let l = c.in_ok-load.ensures in
    let e = c.in_ok-left-2.ensures in
    let file = g.S.Store.file c.args.store.now in
    let m = c.args.self.now in
    record {
      walk = e.walk.walk;
      honesty = e.store.honesty ∙ l.store.honesty ∙ i.honesty;
      file = e.store.file ∙ l.store.file ∙ i.file;
      reads = e.store.reads ∙ l.store.reads ∙ i.reads;
      puts = e.store.puts ∙ i.puts;
      going = λ told tree t o is.
          let u = i.going told tree t o is in
          let to_come = samples_behind tree t u.earlier u.later in
          let comes = loads_more file tree t m to_come c.load.new.self c.in_ok-load.field-0 c.if-branch.true ((rw (i.honesty, i.file) at l.loaded) told tree t u.earlier u.later o u.stands) in
          let x = (rw (l.store.honesty, i.honesty, l.store.file, i.file) at e.taken.put) told in
          let y = e.taken.left.sizes in
          track_next file tree t m g.met.K.Sink.takes_on _ _ _ (waiting c.loop-carrier.carrier) (waiting c.carry_hand-in-loop-carrier.new.carrier) c.load.new.self c.carry_hand-in-loop-carrier.new.walk (track_samples tree t)
          to_come c.loop-carrier.left c.in_ok-left-2.left u.goes comes u.sizes y.0 y.1 y.2
          x.0 x.1 x.2 e.walk.stands;
      many = λ info at.
          let before = i.many info at in
          let more = e.taken.left.many in (
            fewer info.bytes c.loop-carrier.left c.in_ok-left-2.left before.0 more.0,
            GoOnBy-then g.met.K.Sink.takes_on _ _ _ [] (waiting c.loop-carrier.carrier) (waiting c.carry_hand-in-loop-carrier.new.carrier) (info.bytes - c.loop-carrier.left) (c.loop-carrier.left - c.in_ok-left-2.left) (info.bytes - c.in_ok-left-2.left) before.1 more.1
                (less_by info.bytes c.loop-carrier.left c.in_ok-left-2.left before.0 more.0),
          );
      grows =
          let before = i.grows in
          let loaded = l.grows in
          let carried = e.grows in
          omega (arith, before, loaded, carried);
      looks = c.carry_hand-in-loop-carrier.ensures.looks ∙ c.load.ensures.looks ∙ i.looks;
      takes = λ told tree t o is.
          let loads = takes_then file tree t (walk_steps tree t) _ _ _ c.loop-carrier.walk c.load.new.self (i.takes told tree t o is) (λ k may. (rw (i.honesty, i.file) at l.work) told tree t k o may) in
          takes_then file tree t (walk_steps tree t) _ _ _ c.load.new.self c.carry_hand-in-loop-carrier.new.walk loads (λ k may. e.work file tree t k o may);
    }

pub returns-in_err-left-2-clause-prefix : goal.returns-in_err-left-2-clause-prefix
returns-in_err-left-2-clause-prefix g c =
    let p = err_from_is_err_and c.from_residual-in_err-left-2.result c.from_residual-in_err-left-2.ensures.1 in
    let i = c.loop-carrier.invariant in
    let l = c.in_ok-load.ensures in
    let file = g.S.Store.file c.args.store.now in
    let m = c.args.self.now in
    rw p.1 (λ told tree t o is.
    let u = i.going told tree t o is in
    let to_come = samples_behind tree t u.earlier u.later in
    let comes = loads_more file tree t m to_come c.load.new.self c.in_ok-load.field-0 c.if-branch.true ((rw (i.honesty, i.file) at l.loaded) told tree t u.earlier u.later o u.stands) in
    let x = (rw (l.store.honesty, i.honesty, l.store.file, i.file) at c.in_err-left-2.ensures.taken.put) told in
    track_fails file tree t m g.met.K.Sink.takes_on _ _ _ (waiting c.loop-carrier.carrier) c.load.new.self (track_samples tree t) to_come u.goes comes x.0 x.1 x.2)

pub returns-in_err-left-2-clause-unchanged : goal.returns-in_err-left-2-clause-unchanged
returns-in_err-left-2-clause-unchanged g c told tree t o is =
    let p = err_from_is_err_and c.from_residual-in_err-left-2.result c.from_residual-in_err-left-2.ensures.1 in
    let i = c.loop-carrier.invariant in
    let l = c.in_ok-load.ensures in
    let file = g.S.Store.file c.args.store.now in
    let m = c.args.self.now in
    let u = i.going told tree t o is in
    let to_come = samples_behind tree t u.earlier u.later in
    let comes = loads_more file tree t m to_come c.load.new.self c.in_ok-load.field-0 c.if-branch.true ((rw (i.honesty, i.file) at l.loaded) told tree t u.earlier u.later o u.stands) in
    let x = rw (l.store.file, i.file) at c.in_err-left-2.ensures.unchanged in
    rw (p.1, p.2) (in_hand_lies file tree t m _ (waiting c.loop-carrier.carrier) c.load.new.self (track_samples tree t) to_come _ c.loop-carrier.left _ u.goes comes u.sizes (track_lies file m tree t c.args.track o is) x.0 x.1 x.2)

pub returns-in_err-left-2-clause-refusal : goal.returns-in_err-left-2-clause-refusal
returns-in_err-left-2-clause-refusal g c =
    let p = err_from_is_err_and c.from_residual-in_err-left-2.result c.from_residual-in_err-left-2.ensures.1 in
    let i = c.loop-carrier.invariant in
    rw (p.1, p.2) (copy_not_carried (g.K.Sink.takes c.args.sink.now c.carry_hand-in-loop-carrier.new.sink) _ _ _ _ _ (rw (c.in_ok-load.ensures.store.reads, i.reads, i.puts) at c.in_err-left-2.ensures.refusal))

pub returns-clause-bytes : goal.returns-clause-bytes
returns-clause-bytes g c =
    let i = c.loop-carrier.invariant in
    let file = g.S.Store.file c.args.store.now in
    on_ok _ _ c.flush.result (λ p told tree t o is.
    let u = i.going told tree t o is in
    let to_come = samples_behind tree t u.earlier u.later in
    let none = loads_none file tree t c.args.self.now to_come c.load.new.self c.in_ok-load.field-0 c.if-branch.false ((rw (i.honesty, i.file) at c.in_ok-load.ensures.loaded) told tree t u.earlier u.later o u.stands) in
    track_whole file g.met.K.Sink.takes_on _ _ _ (waiting c.loop-carrier.carrier) (track_samples tree t) to_come u.goes none p) c.flush.ensures.bytes

pub returns-clause-prefix : goal.returns-clause-prefix
returns-clause-prefix g c =
    let i = c.loop-carrier.invariant in
    let file = g.S.Store.file c.args.store.now in
    on_err _ _ c.flush.result (λ p told tree t o is.
    let u = i.going told tree t o is in
    let to_come = samples_behind tree t u.earlier u.later in
    let none = loads_none file tree t c.args.self.now to_come c.load.new.self c.in_ok-load.field-0 c.if-branch.false ((rw (i.honesty, i.file) at c.in_ok-load.ensures.loaded) told tree t u.earlier u.later o u.stands) in
    track_not_put file g.met.K.Sink.takes_on _ _ _ (waiting c.loop-carrier.carrier) (track_samples tree t) to_come u.goes none p) c.flush.ensures.prefix

pub returns-clause-unchanged : goal.returns-clause-unchanged
returns-clause-unchanged g c told tree t o is = if_err _ _ c.flush.result (λ r w. put_unchanged _ _ r w) c.flush.ensures.refusal

-- ---- every store

pub returns-clause-whole : goal.returns-clause-whole
returns-clause-whole g c =
    let i = c.loop-carrier.invariant in
    let left = c.loop-carrier.left in
    let some = c.if-left-gt0.false in
    let none : left ≡ 0 = omega (arith, some) in
    on_ok _ _ c.flush.result (λ p info at.
    let many = (i.many info at).1 in
    GoOnBy-all g.met.K.Sink.takes_on _ _ _ (waiting c.loop-carrier.carrier) info.bytes (subst (λ (n : ℕ). GoOnBy (g.K.Sink.takes c.args.sink.now c.loop-carrier.sink) [] (waiting c.loop-carrier.carrier) n) (whole_is info.bytes left none) many) p) c.flush.ensures.bytes

pub returns-then-left-gt0-clause-prefix : goal.returns-then-left-gt0-clause-prefix
returns-then-left-gt0-clause-prefix g c told tree t o is =
    let file = g.S.Store.file c.args.store.now in
    let u = c.loop-carrier.invariant.going told tree t o is in
    track_stops file _ (waiting c.loop-carrier.carrier) (track_samples tree t) (samples_behind tree t u.earlier u.later) u.goes

pub returns-then-left-gt0-clause-unchanged : goal.returns-then-left-gt0-clause-unchanged
returns-then-left-gt0-clause-unchanged g c told tree t o is e =
    let i = c.loop-carrier.invariant in
    let file = g.S.Store.file c.args.store.now in
    let u = i.going told tree t o is in
    let to_come = samples_behind tree t u.earlier u.later in
    let none = loads_none file tree t c.args.self.now to_come c.load.new.self c.in_ok-load.field-0 c.if-branch.false ((rw (i.honesty, i.file) at c.in_ok-load.ensures.loaded) told tree t u.earlier u.later o u.stands) in
    let zero = none_left c.loop-carrier.left to_come u.sizes none in
    let some = c.if-left-gt0.true in
    absurd (omega (arith, zero, some))

-- ---- steps

pub returns-in_err-load-clause-work : goal.returns-in_err-load-clause-work
returns-in_err-load-clause-work g c told tree t o is =
    let i = c.loop-carrier.invariant in
    most_then (g.S.Store.file c.args.store.now) tree t (walk_steps tree t) _ _ _ c.loop-carrier.walk (i.takes told tree t o is) (λ k may. (rw (i.honesty, i.file) at c.in_err-load.ensures.work) told tree t k o may)

pub returns-in_err-left-2-clause-work : goal.returns-in_err-left-2-clause-work
returns-in_err-left-2-clause-work g c told tree t o is =
    let i = c.loop-carrier.invariant in
    let file = g.S.Store.file c.args.store.now in
    let loads = takes_then file tree t (walk_steps tree t) _ _ _ c.loop-carrier.walk c.load.new.self (i.takes told tree t o is) (λ k may. (rw (i.honesty, i.file) at c.in_ok-load.ensures.work) told tree t k o may) in
    let most = takes_most file tree t (walk_steps tree t) _ _ c.load.new.self loads in
    let idle = c.in_err-left-2.ensures.work in
    omega (arith, most, idle)

pub returns-then-left-gt0-clause-work : goal.returns-then-left-gt0-clause-work
returns-then-left-gt0-clause-work g c told tree t o is =
    let i = c.loop-carrier.invariant in
    let file = g.S.Store.file c.args.store.now in
    let loads = takes_then file tree t (walk_steps tree t) _ _ _ c.loop-carrier.walk c.load.new.self (i.takes told tree t o is) (λ k may. (rw (i.honesty, i.file) at c.in_ok-load.ensures.work) told tree t k o may) in
    takes_most file tree t (walk_steps tree t) _ _ c.load.new.self loads

pub returns-clause-work : goal.returns-clause-work
returns-clause-work g c told tree t o is =
    let i = c.loop-carrier.invariant in
    let file = g.S.Store.file c.args.store.now in
    let loads = takes_then file tree t (walk_steps tree t) _ _ _ c.loop-carrier.walk c.load.new.self (i.takes told tree t o is) (λ k may. (rw (i.honesty, i.file) at c.in_ok-load.ensures.work) told tree t k o may) in
    takes_most file tree t (walk_steps tree t) _ _ c.load.new.self loads
