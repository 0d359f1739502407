use Rattle.std.proofs.Common.{rules, ◌≡◌, ◌<◌, List, length, Some, sym, subst}
use Rattle.std.specs.Prelude.{map, slice_get, IfSome}
use Rattle.std.proofs.lemmas.Result.{err_from_is_err_and}
use Rattle.mp4_present.specs.format.Denotes.{presentation_of}
use Rattle.mp4_present.specs.declared.track_info.TrackInfo.{TrackInfo}
use Rattle.mp4_answers.specs.format.Selected.{AreOthers}
use Rattle.mp4_answers.specs.words.OpenedTold.{LacksAlone}
use Rattle.mp4_answers.proofs.Alone.{alone_made, only_memory, others_lack, whole_of}
use Rattle.mp4_answers.proofs.commands.opening.alone.Goals as goal

pub returns-in-None-clause-movie : goal.returns-in-None-clause-movie
returns-in-None-clause-movie c file tree o = rw c.in-None.is (whole_of file c.args.movie tree o)

pub returns-in_err-place-in-Some-clause-lacks : goal.returns-in_err-place-in-Some-clause-lacks
returns-in_err-place-in-Some-clause-lacks c file tree o =
    let p = err_from_is_err_and c.from_residual.result c.from_residual.ensures.1 in
    let id = c.in-Some.id in
    let none = c.in_err-place-in-Some.ensures.none in
    let tracks : c.tracks.result.now ≡ c.args.movie.tracks = search rules in
    let others = subst (λ (ts : List TrackInfo). AreOthers id (map (λ (t : TrackInfo). t.id) ts)) tracks none.1 in
    rw (p.1, p.2, c.in-Some.is) (subst (LacksAlone (Some id) (presentation_of file tree)) (sym none.0) (others_lack file c.args.movie tree id o others))

pub returns-in_ok-place-in-Some-clause-movie : goal.returns-in_ok-place-in-Some-clause-movie
returns-in_ok-place-in-Some-clause-movie c file tree o =
    let id = c.in-Some.id in
    let place = c.in_ok-place-in-Some.place in
    let tracks : c.tracks.result.now ≡ c.args.movie.tracks = search rules in
    let lt = subst (λ (ts : List TrackInfo). place < length ts) tracks c.in_ok-place-in-Some.ensures.within in
    let with_id = subst (λ (ts : List TrackInfo). IfSome (slice_get ts place) (λ i. i.id ≡ id)) tracks c.in_ok-place-in-Some.ensures.track in
    rw c.in-Some.is (alone_made file c.args.movie tree o id place lt with_id c.alone.result (c.alone.ensures.movie file tree o.opened) c.alone.ensures.kept)

pub returns-in_ok-place-in-Some-clause-lacks : goal.returns-in_ok-place-in-Some-clause-lacks
returns-in_ok-place-in-Some-clause-lacks c file tree o = rw c.in-Some.is (only_memory c.in-Some.id (presentation_of file tree) c.alone.result (c.alone.ensures.memory file tree o.opened))
