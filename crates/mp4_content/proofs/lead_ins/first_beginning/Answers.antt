use Rattle.std.proofs.Common.{◌<◌, arith, length, sym, ◌∙◌}
use Rattle.std.proofs.lemmas.Result.{err_from_is_err_and}
use Rattle.mp4_present.specs.format.Denotes.{file_parts, track_of}
use Rattle.mp4_present.specs.words.SamplesComing.{track_samples}
use Rattle.mp4_content.proofs.TracksBegin.{first_comes, info_at, none_comes, timescale_some, without_samples}
use Rattle.mp4_content.proofs.lead_ins.first_beginning.Goals as goal

pub returns-then-info-eq0-clause-beginning : goal.returns-then-info-eq0-clause-beginning
returns-then-info-eq0-clause-beginning g c told tree t o is same =
    let file = g.S.Store.file c.args.store.now in
    let lt : c.args.track < length c.args.movie.now.tracks = c.requires in
    let are = info_at file c.args.movie.now tree c.args.track t c.index-tracks-track.result o lt is (rw c.tracks.ensures at c.index-tracks-track.is) in
    without_samples file tree t c.index-tracks-track.result are c.if-info-eq0.true

pub returns-in_err-first-clause-unchanged : goal.returns-in_err-first-clause-unchanged
returns-in_err-first-clause-unchanged g c told tree t o is =
    let p = err_from_is_err_and c.from_residual-in_err-first.result c.from_residual-in_err-first.ensures.1 in
    rw (p.1, p.2) (c.in_err-first.ensures.unchanged told tree t (track_samples tree t) o (c.in_ok-walk.ensures.coming (g.S.Store.file c.args.store.now) tree t o is))

pub returns-in_err-first-clause-work : goal.returns-in_err-first-clause-work
returns-in_err-first-clause-work g c told tree t o is =
    let may = c.in_ok-walk.ensures.may (g.S.Store.file c.args.store.now) tree t o is in
    let few = may.2 in
    let most = c.in_err-first.ensures.work told tree t may.0 o may.1 in
    omega (arith, few, most)

pub returns-in_default-clause-beginning : goal.returns-in_default-clause-beginning
returns-in_default-clause-beginning g c told tree t o is same =
    let file = g.S.Store.file c.args.store.now in
    let comes = c.in_ok-walk.ensures.coming file tree t o is in
    let next = (c.in_ok-first.ensures.coming told tree t (track_samples tree t) o comes).1 in
    none_comes file tree t (sym next ∙ c.in_default.is)

pub returns-in_default-clause-work : goal.returns-in_default-clause-work
returns-in_default-clause-work g c told tree t o is =
    let may = c.in_ok-walk.ensures.may (g.S.Store.file c.args.store.now) tree t o is in
    let few = may.2 in
    let on = c.in_ok-first.ensures.work told tree t may.0 o may.1 in
    let within = on.2 in
    omega (arith, few, within)

pub returns-clause-beginning : goal.returns-clause-beginning
returns-clause-beginning g c told tree t o is same =
    let file = g.S.Store.file c.args.store.now in
    let m = c.args.movie.now in
    let k = c.args.track in
    let lt : k < length m.tracks = c.requires in
    let info = c.index-tracks-track.result in
    let are = info_at file m tree k t info o lt is (rw c.tracks.ensures at c.index-tracks-track.is) in
    let comes = c.in_ok-walk.ensures.coming file tree t o is in
    let next = (c.in_ok-first.ensures.coming told tree t (track_samples tree t) o comes).1 in
    let first = first_comes file tree t c.in-Some.first (sym next ∙ c.in-Some.is) in
    (first.0, c.beginning_of.ensures.begins (timescale_some file m tree k t info o is are) (track_of file (file_parts tree) t) (sym same) (sym are.timescale) (sym are.start) first.1)

pub returns-clause-work : goal.returns-clause-work
returns-clause-work g c told tree t o is =
    let may = c.in_ok-walk.ensures.may (g.S.Store.file c.args.store.now) tree t o is in
    let few = may.2 in
    let on = c.in_ok-first.ensures.work told tree t may.0 o may.1 in
    let within = on.2 in
    omega (arith, few, within)
