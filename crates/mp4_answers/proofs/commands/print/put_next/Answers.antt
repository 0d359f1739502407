use Rattle.std.proofs.Common.{◌≡◌, [], flat_map, refl, subst, take, arith}
use Rattle.mp4_present.specs.words.Carried.{BytesGoOn, waiting}
use Rattle.mp4_present.proofs.Carrying.{BytesGoOn-fails, BytesGoOn-then}
use Rattle.mp4_answers.specs.words.ToldSamples.{told_sample}
use Rattle.mp4_answers.proofs.SampleLists.{err_then}
use Rattle.mp4_answers.proofs.commands.print.put_next.Goals as goal
use Rattle.mp4_answers.proofs.ComparedTexts.{ok_weaker}

pub returns-clause-told : goal.returns-clause-told
returns-clause-told g c =
    let e = c.in_ok-count.ensures in
    let none : c.in_ok-count.count ≡ 0 = omega arith in
    ok_weaker c.put_first-2.result _ _ (λ count told honest.
    let f = told_sample c.args.style.now (g.S.Store.file c.args.store.now) in
    let nothing = subst (λ n. BytesGoOn (g.K.Sink.takes c.args.sink.now c.put_front_samples.new.sink) (waiting c.args.desk.now.text) (waiting c.put_front_samples.new.text) (flat_map f (take n c.args.samples.now))) none (e.told honest) in
    BytesGoOn-then g.met.K.Sink.takes_on _ _ _ _ _ _ [] _ _ nothing (told honest) refl) (rw (e.store.honesty, e.store.file) at c.put_first-2.ensures.told)

pub returns-clause-front : goal.returns-clause-front
returns-clause-front g c =
    let e = c.in_ok-count.ensures in
    let none : c.in_ok-count.count ≡ 0 = omega arith in
    err_then c.put_first-2.result _ _ (λ front honest.
    let f = told_sample c.args.style.now (g.S.Store.file c.args.store.now) in
    let nothing = subst (λ n. BytesGoOn (g.K.Sink.takes c.args.sink.now c.put_front_samples.new.sink) (waiting c.args.desk.now.text) (waiting c.put_front_samples.new.text) (flat_map f (take n c.args.samples.now))) none (e.told honest) in
    BytesGoOn-fails g.met.K.Sink.takes_on _ _ _ _ _ [] _ nothing (front honest)) (rw (e.store.honesty, e.store.file) at c.put_first-2.ensures.front)
