use Rattle.std.proofs.Common.{ap, subst, ◌∙◌, List, ℕ}
use Rattle.std.specs.Prelude.{flat_map}
use Rattle.std.proofs.lemmas.Result.{err_from_is_err_and}
use Rattle.mp4_tables.specs.declared.keys.Keys.{Keys}
use Rattle.mp4_store.proofs.Known.{TakesPrefix-nothing}
use Rattle.mp4_content.specs.words.ComingLess.{reduction_of}
use Rattle.mp4_content.specs.declared.reduced.Reduction.{Reduction}
use Rattle.mp4_present.proofs.WayThrough.{most_then}
use Rattle.mp4_answers.specs.words.PrintedTracks.{TellsOn}
use Rattle.mp4_answers.specs.words.ToldSamples.{IsStyle, told_sample}
use Rattle.mp4_answers.proofs.ToldLines.{track_told}
use Rattle.mp4_answers.proofs.commands.print.put_samples.Goals as goal

pub returns-in_err-reduction-clause-told : goal.returns-in_err-reduction-clause-told
returns-in_err-reduction-clause-told g c =
    let p = err_from_is_err_and c.from_residual.result c.from_residual.ensures.1 in
    rw (p.1, p.2) (λ told tree t samples o k same lie place info at there keys.
    record {
      text = record { all = tt; front = TakesPrefix-nothing (g.K.Sink.takes c.args.sink.now c.args.sink.now) (g.met.K.Sink.takes_nothing c.args.sink.now) _ };
      unchanged = c.in_err-reduction.ensures.unchanged told tree t samples o k;
    })

pub returns-in_err-reduction-clause-work : goal.returns-in_err-reduction-clause-work
returns-in_err-reduction-clause-work g c told tree t n o may = c.in_err-reduction.ensures.work told tree t n o may

pub returns-clause-told : goal.returns-clause-told
returns-clause-told g c told tree t samples o k same lie place info at there keys =
    let file = g.S.Store.file c.args.store.now in
    let l = c.args.of.leaving in
    let style = c.new-style.result in
    let e = c.in_ok-reduction.ensures in
    let lines = (rw (e.store.honesty, e.store.file) at c.put_walk.ensures.told) told tree t samples o (e.coming told tree t samples o k) lie in
    let d = c.args.divisor in
    let by = e.reduction told tree t samples o k same ∙ ap (reduction_of l d) same in
    let is = subst (λ (r : Reduction). IsStyle r info.keys style) by (subst (λ (ks : Keys). IsStyle c.in_ok-reduction.reduction ks style) keys c.new-style.ensures) in
    let text = ap (flat_map (told_sample style file)) same ∙ track_told l d style file c.args.of.movie.now tree t place info o at there is in
    subst (λ (bs : List ℕ). TellsOn g.K.Sink c.args.sink.now c.put_walk.new.sink c.args.desk.now.text c.put_walk.new.desk.text bs c.put_walk.result) text lines

pub returns-clause-work : goal.returns-clause-work
returns-clause-work g c told tree t n o may =
    let e = c.in_ok-reduction.ensures in
    most_then (g.S.Store.file c.args.store.now) tree t n _ _ _ c.reduction_of.new.walk (e.work told tree t n o may) (λ k more. (rw (e.store.honesty, e.store.file) at c.put_walk.ensures.work) told tree t k o more)
