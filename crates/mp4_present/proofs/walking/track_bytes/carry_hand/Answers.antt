use Rattle.std.proofs.Common.{List, ◌∙◌, refl, sym, subst, rules, arith, length, ◌-◌}
use Rattle.std.specs.List.{AllByRecursion}
use Rattle.mp4_boxes.proofs.Each.{each_dropped}
use Rattle.mp4_tables.specs.declared.sample.SampleAt.{SampleAt}
use Rattle.mp4_present.specs.words.Joined.{IsBelow}
use Rattle.mp4_present.proofs.WalkCopied.{kept_before, stretch_there}
use Rattle.std.proofs.lemmas.Result.{err_from_is_err_and}
use Rattle.mp4_present.specs.words.InHand.{follows_itself, follows_on, left_in_hand}
use Rattle.mp4_present.specs.words.Carried.{waiting}
use Rattle.mp4_present.proofs.Hands.{hand_none, hand_more, hand_all, hand_fails, hand_front}
use Rattle.mp4_present.proofs.HandSizes.{sizes_more, sizes_fit, sizes_all}
use Rattle.mp4_present.proofs.Carrying.{GoOnBy-none, GoOnBy-then}
use Rattle.mp4_present.proofs.WalkPlaces.{kept_on}
use Rattle.mp4_present.proofs.WayThrough.{hand_goes_on}
use Rattle.mp4_present.proofs.walking.track_bytes.carry_hand.Goals as goal

pub loop-stretch-init : goal.loop-stretch-init
loop-stretch-init g c = record {
  honesty = refl;
  file = refl;
  reads = refl;
  puts = refl;
  room = refl;
  first = c.in_hand-hand.result;
  is = c.in_hand-hand.ensures.hand;
  later = follows_itself c.in_hand-hand.result;
  within = λ n h. h;
  few = omega arith;
  many = GoOnBy-none _ (g.met.K.Sink.takes_nothing _) _ _ (omega arith);
  sizes = omega arith;
  bytes = λ _. hand_none _ _ (g.met.K.Sink.takes_nothing _) _ _;
}

pub loop-stretch-preserved : goal.loop-stretch-preserved
loop-stretch-preserved g c =
    let i = c.loop-stretch.invariant in
    let e = c.in_ok-carry_stretch.ensures in
    let s = c.next_stretch.ensures in
    record {
      honesty = e.store.honesty ∙ i.honesty;
      file = e.store.file ∙ i.file;
      reads = e.store.reads ∙ i.reads;
      puts = e.store.puts ∙ i.puts;
      room = e.along.buffer ∙ i.room;
      first = i.first;
      is = i.is;
      later = follows_on _ _ _ i.later s.later;
      within = λ n h. subst (λ (ss : List SampleAt). AllByRecursion (IsBelow n) ss) (sym c.in-Some.ensures.samples.3) (each_dropped (IsBelow n) c.in-Some.stretch.samples _ (i.within n h));
      few = search rules;
      many = GoOnBy-then g.met.K.Sink.takes_on _ _ _ _ (waiting c.loop-stretch.carrier) _ (c.args.bytes - c.loop-stretch.left) c.in-Some.stretch.len _ i.many e.along.many (search rules);
      sizes = sizes_more _ _ c.args.bytes c.loop-stretch.left c.in-Some.stretch.samples c.in-Some.stretch.at c.in-Some.stretch.len i.sizes c.in-Some.ensures.stretch c.in-Some.ensures.within _ _ (search rules) refl c.in-Some.ensures.samples.3;
      bytes = λ honest. hand_more _ g.met.K.Sink.takes_on _ _ _ _ _ _ _ _ _ c.in-Some.stretch.samples c.in-Some.stretch.at c.in-Some.stretch.len (i.bytes honest) c.in-Some.ensures.stretch c.in-Some.ensures.samples.3 ((rw (i.honesty, i.file) at e.bytes) honest);
    }

pub returns-clause-walk : goal.returns-clause-walk
returns-clause-walk g c =
    let i = c.loop-stretch.invariant in
    record {
      walk = rw c.keep.ensures.place (kept_on c.args.movie.now c.args.walk.now i.first _ c.place-place.result (search rules) i.is (follows_on _ _ _ i.later c.next_stretch.ensures.later) c.place-place.ensures);
      next = search rules;
      left = search rules;
      stands = λ file tree t earlier later s. rw c.keep.ensures.place (kept_before file tree t earlier later c.args.walk.now c.place-place.result s);
    }

pub returns-in_err-carry_stretch-clause-taken : goal.returns-in_err-carry_stretch-clause-taken
returns-in_err-carry_stretch-clause-taken g c =
    let p = err_from_is_err_and c.from_residual.result c.from_residual.ensures.1 in
    let i = c.loop-stretch.invariant in
    let x = c.in-Some.stretch in
    rw p.1 (record {
      put = λ honest. (
        i.first,
        i.is,
        hand_fails (g.S.Store.file c.args.store.now) g.met.K.Sink.takes_on _ _ _ (waiting c.args.carrier.now) (waiting c.loop-stretch.carrier) (left_in_hand i.first) (left_in_hand c.loop-stretch.hand) x.samples x.at x.len (i.bytes honest) c.in-Some.ensures.stretch
            ((rw (i.honesty, i.file) at c.in_err-carry_stretch.ensures.prefix) honest),
      );
      left = tt;
      buffer = c.in_err-carry_stretch.ensures.along.buffer ∙ i.room;
    })

pub returns-clause-taken : goal.returns-clause-taken
returns-clause-taken g c =
    let i = c.loop-stretch.invariant in
    record {
      put = λ honest. (i.first, i.is, hand_all (g.S.Store.file c.args.store.now) _ (waiting c.args.carrier.now) (waiting c.loop-stretch.carrier) (left_in_hand i.first) (left_in_hand c.loop-stretch.hand) (i.bytes honest) (search rules));
      left = record {
        many = (i.few, i.many);
        sizes = (i.first, i.is, sizes_all _ _ c.args.bytes c.loop-stretch.left i.sizes (search rules));
      };
      buffer = i.room;
    }

pub returns-clause-unchanged : goal.returns-clause-unchanged
returns-clause-unchanged g c =
    let i = c.loop-stretch.invariant in
    (i.first, i.is, λ h fits. tt)

pub returns-in_err-carry_stretch-clause-unchanged : goal.returns-in_err-carry_stretch-clause-unchanged
returns-in_err-carry_stretch-clause-unchanged g c =
    let p = err_from_is_err_and c.from_residual.result c.from_residual.ensures.1 in
    let i = c.loop-stretch.invariant in
    let file = g.S.Store.file c.args.store.now in
    rw (p.1, p.2) (i.first, i.is, λ h fits. stretch_there file c.in-Some.stretch _ _ _ _ c.in_err-carry_stretch.field-0.0 (c.in-Some.ensures.within (length file) (i.within (length file) h)) (rw i.file at c.in_err-carry_stretch.ensures.refusal))

pub returns-then-stretch-left-clause-taken : goal.returns-then-stretch-left-clause-taken
returns-then-stretch-left-clause-taken g c =
    let i = c.loop-stretch.invariant in
    record {
      put = λ honest. (i.first, i.is, hand_front (g.S.Store.file c.args.store.now) _ (waiting c.args.carrier.now) (waiting c.loop-stretch.carrier) (left_in_hand i.first) (left_in_hand c.loop-stretch.hand) (i.bytes honest));
      left = tt;
      buffer = i.room;
    }

pub returns-then-stretch-left-clause-unchanged : goal.returns-then-stretch-left-clause-unchanged
returns-then-stretch-left-clause-unchanged g c =
    let i = c.loop-stretch.invariant in
    let more = c.if-stretch-left.true in (
      i.first,
      i.is,
      λ h fits e.
          let room = sizes_fit _ _ c.args.bytes c.loop-stretch.left c.in-Some.stretch.samples c.in-Some.stretch.at c.in-Some.stretch.len i.sizes c.in-Some.ensures.stretch c.in-Some.ensures.within fits in
          absurd (omega (arith, room, more)),
    )

pub returns-clause-work : goal.returns-clause-work
returns-clause-work g c file tree t n o may =
    let i = c.loop-stretch.invariant in
    rw c.keep.ensures.place (hand_goes_on file c.args.movie.now tree t c.args.walk.now i.first _ c.place-place.result n _ _ o c.in_hand-hand.ensures.movie (search rules) i.is (follows_on _ _ _ i.later c.next_stretch.ensures.later) c.place-place.ensures c.keep.ensures.work may)
