use Rattle.std.proofs.Common.{◌≡◌, ◌∙◌, ◌++◌, [], ap, arith, length, refl, rules, subst, take}
use Rattle.std.specs.Prelude.{flat_map}
use Rattle.std.proofs.lemmas.Result.{err_from_is_err_and}
use Rattle.mp4_present.specs.words.Carried.{waiting}
use Rattle.mp4_present.specs.words.InHand.{follows_on, left_in_hand}
use Rattle.mp4_present.proofs.WalkCopied.{kept_before}
use Rattle.mp4_present.proofs.WalkPlaces.{kept_on}
use Rattle.mp4_present.proofs.WayThrough.{hand_goes_on}
use Rattle.mp4_answers.specs.words.ToldSamples.{told_sample}
use Rattle.mp4_answers.proofs.TextsGoOn.{texts_all}
use Rattle.mp4_answers.proofs.ToldWalks.{HandTold, hand_begun, some_fail, some_lie, some_told}
use Rattle.mp4_answers.proofs.commands.print.put_hand.Goals as goal

pub loop-count-init : goal.loop-count-init
loop-count-init g c = record {
  honesty = refl;
  file = refl;
  reads = refl;
  puts = refl;
  empty = c.requires.empty;
  few = c.take_samples-count.ensures.few;
  none = c.take_samples-count.ensures.none;
  first = c.in_hand-hand.result;
  is = c.in_hand-hand.ensures.hand;
  later = c.take_samples-count.ensures.later;
  told = λ told lie.
      let file = g.S.Store.file c.args.store.now in
      let f = told_sample c.args.of.style.now file in
      let begun = hand_begun f (length file) _ (g.met.K.Sink.takes_nothing _) (waiting c.args.desk.now.text) (left_in_hand c.in_hand-hand.result) lie in
      subst (HandTold f (length file) _ _ _ (left_in_hand c.in_hand-hand.result)) c.take_samples-count.ensures.taken begun;
}

pub loop-count-preserved : goal.loop-count-preserved
loop-count-preserved g c =
    let i = c.loop-count.invariant in
    let e = c.in_ok-put_some.ensures in
    let t = c.take_samples-count-in-loop-count.ensures in
    record {
      honesty = e.store.honesty ∙ i.honesty;
      file = e.store.file ∙ i.file;
      reads = e.store.reads ∙ i.reads;
      puts = e.store.puts ∙ i.puts;
      empty = e.empty;
      few = t.few;
      none = t.none;
      first = i.first;
      is = i.is;
      later = follows_on _ _ _ i.later t.later;
      told = λ told lie.
          let file = g.S.Store.file c.args.store.now in
          let f = told_sample c.args.of.style.now file in
          let on = some_told f (length file) g.met.K.Sink.takes_on _ _ _ _ _ _ (take c.loop-count.count c.loop-count.samples) (left_in_hand c.loop-count.hand) (i.told told lie) _ ((rw (i.honesty, i.file) at e.told) told).all in
          subst (HandTold f (length file) _ _ _ (left_in_hand i.first)) t.taken on;
    }

pub returns-in_err-put_some-clause-told : goal.returns-in_err-put_some-clause-told
returns-in_err-put_some-clause-told g c =
    let p = err_from_is_err_and c.from_residual.result c.from_residual.ensures.1 in
    let i = c.loop-count.invariant in
    let e = c.in_err-put_some.ensures in
    rw (p.1, p.2) (
      i.first,
      i.is,
      λ told lie.
          let file = g.S.Store.file c.args.store.now in
          let f = told_sample c.args.of.style.now file in
          let these = take c.loop-count.count c.loop-count.samples in
          let rest = left_in_hand c.loop-count.hand in
          let h = i.told told lie in
          record {
            text = record { all = tt; front = some_fail f (length file) g.met.K.Sink.takes_on _ _ _ _ _ _ these rest h ((rw (i.honesty, i.file) at e.told) told).front };
            unchanged = (rw i.file at e.unchanged) (some_lie f (length file) g.met.K.Sink.takes_on c.args.sink.now c.loop-count.sink c.loop-count.sink _ _ _ these rest h);
          },
    )

pub returns-clause-told : goal.returns-clause-told
returns-clause-told g c =
    let i = c.loop-count.invariant in (
      i.first,
      i.is,
      λ told lie.
          let f = told_sample c.args.of.style.now (g.S.Store.file c.args.store.now) in
          let done : c.loop-count.count ≡ 0 = omega arith in
          let none : take c.loop-count.count c.loop-count.samples ++ left_in_hand c.loop-count.hand ≡ [] = rw (i.none done, done) refl in
          record {
            text = record { all = texts_all _ _ _ _ _ (i.told told lie).goes (ap (flat_map f) none); front = tt };
            unchanged = tt;
          },
    )

pub returns-clause-walk : goal.returns-clause-walk
returns-clause-walk g c =
    let i = c.loop-count.invariant in
    record {
      walk = rw c.keep.ensures.place (kept_on c.args.of.movie.now c.args.walk.now i.first _ c.place-place.result c.requires.walk i.is i.later c.place-place.ensures);
      next = search rules;
      left = search rules;
      stands = λ file tree t earlier later s. rw c.keep.ensures.place (kept_before file tree t earlier later c.args.walk.now c.place-place.result s);
    }

pub returns-clause-work : goal.returns-clause-work
returns-clause-work g c file tree t n o may =
    let i = c.loop-count.invariant in
    rw c.keep.ensures.place (hand_goes_on file c.args.of.movie.now tree t c.args.walk.now i.first _ c.place-place.result n _ _ o c.in_hand-hand.ensures.movie c.requires.walk i.is i.later c.place-place.ensures c.keep.ensures.work may)
