use Rattle.std.proofs.Common.{◌∙◌, [], flat_map, subst, sym, take, drop}
use Rattle.std.proofs.lemmas.List.{append-nil, take-append-drop}
use Rattle.std.proofs.lemmas.Result.{err_from_is_err_and}
use Rattle.mp4_boxes.proofs.Joined.{all_last}
use Rattle.mp4_present.specs.words.Joined.{IsBelow}
use Rattle.mp4_answers.specs.words.PrintedTracks.{LieBelow}
use Rattle.mp4_answers.specs.words.ToldSamples.{told_sample}
use Rattle.mp4_answers.proofs.SampleLists.{texts_apart}
use Rattle.mp4_answers.proofs.TextsGoOn.{text_fails, text_next}
use Rattle.mp4_answers.proofs.commands.print.put_some.Goals as goal

pub returns-in_err-count-clause-told : goal.returns-in_err-count-clause-told
returns-in_err-count-clause-told g c honest =
    let p = err_from_is_err_and c.from_residual.result c.from_residual.ensures.1 in
    let i = c.loop-rest.invariant in
    let f = told_sample c.args.style.now (g.S.Store.file c.args.store.now) in
    let texts = flat_map f c.loop-rest.rest.now in
    rw p.1 (record {
      all = tt;
      front = text_fails g.met.K.Sink.takes_on _ _ _ _ _ texts _ (i.told honest) texts [] (sym (append-nil texts)) ((rw (i.honesty, i.file) at c.in_err-count.ensures.front) honest);
    })

pub returns-in_err-count-clause-unchanged : goal.returns-in_err-count-clause-unchanged
returns-in_err-count-clause-unchanged g c lie =
    let p = err_from_is_err_and c.from_residual.result c.from_residual.ensures.1 in
    let i = c.loop-rest.invariant in
    rw (p.1, p.2) ((rw i.file at c.in_err-count.ensures.unchanged) (i.lie _ lie))

pub loop-rest-preserved : goal.loop-rest-preserved
loop-rest-preserved g c =
    let i = c.loop-rest.invariant in
    let e = c.in_ok-count.ensures in
    let rest = c.loop-rest.rest.now in
    let count = c.in_ok-count.count in
    record {
      honesty = e.store.honesty ∙ i.honesty;
      file = e.store.file ∙ i.file;
      reads = e.store.reads ∙ i.reads;
      puts = e.store.puts ∙ i.puts;
      empty = e.empty;
      lie = λ n lie. rw c.split_at.ensures.back (all_last (IsBelow n) (take count rest) (drop count rest) (subst (LieBelow n) (sym (take-append-drop count rest)) (i.lie n lie)));
      told = λ honest.
          let f = told_sample c.args.style.now (g.S.Store.file c.args.store.now) in
          rw c.split_at.ensures.back (text_next g.met.K.Sink.takes_on _ _ _ _ _ (flat_map f rest) _ (i.told honest) _ (flat_map f (take count rest)) (flat_map f (drop count rest)) (texts_apart f rest count) ((rw (i.honesty, i.file) at e.told) honest));
    }
