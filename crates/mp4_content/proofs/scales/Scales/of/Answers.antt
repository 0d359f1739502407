use Rattle.std.proofs.Common.{◌≡◌, ◌≤◌, ◌+◌, true, false, Bool, if◌then◌else◌, List, length, map, subst, sym, ap, ◌∙◌}
use Rattle.std.specs.Prelude.{replicate}
use Rattle.mp4_boxes.proofs.Plain.{length_zip}
use Rattle.mp4_head.specs.format.Head as heads
use Rattle.mp4_head.specs.format.Tree.{track_head_of}
use Rattle.mp4_head.specs.words.Seen.{track_seen, tracks_seen}
use Rattle.mp4_head.specs.declared.heads.TrackHead.{TrackHead}
use Rattle.mp4_present.proofs.ToldTrees.{tree_said}
use Rattle.mp4_present.specs.words.OpenedMovie.{IsInfoOf}
use Rattle.mp4_present.specs.words.WalkSteps.{walks_steps}
use Rattle.mp4_present.specs.declared.track_info.TrackInfo.{TrackInfo}
use Rattle.mp4_content.specs.words.Scales.{divisor_from, movie_times_left}
use Rattle.mp4_content.proofs.TrackDivisors.{all_ones, movie_found, movie_one}
use Rattle.mp4_content.proofs.scales.Scales.of.Goals as goal

pub returns-then-not-has-clause-scales : goal.returns-then-not-has-clause-scales
returns-then-not-has-clause-scales g c told tree o =
    let l = c.args.leaving in
    let file = g.S.Store.file c.args.store.now in
    let m = c.args.movie.now in
    let stay : l.timescales ≡ false = sym c.has.ensures ∙ c.if-not-has.true in
    let e = c.in_ok-ones.ensures in
    let many = ap (λ (ts : List TrackInfo). length ts) c.tracks.ensures ∙ sym (length_zip (IsInfoOf file tree) tree.movie.tracks m.tracks o.tracks) in
    record {
      movie = e.movie ∙ movie_one l stay file tree;
      tracks = e.tracks ∙ ap (λ n. replicate n 1) many ∙ all_ones l stay file tree;
    }

pub returns-clause-scales : goal.returns-clause-scales
returns-clause-scales g c told tree o =
    let l = c.args.leaving in
    let file = g.S.Store.file c.args.store.now in
    let m = c.args.movie.now in
    let head = c.in_ok-head.head in
    let left : l.timescales ≡ true = sym c.has.ensures ∙ c.if-not-has.false in
    let said = (tree_said file m tree head o c.in_ok-head.ensures).says in
    let same : map track_seen c.as_slice.result.now ≡ map track_head_of tree.movie.tracks = ap (λ (hs : List TrackHead). map track_seen hs) c.as_slice.ensures.value ∙ ap (λ (h : heads.Head). h.tracks) said in
    let own : c.movie_divisor.result ≡ divisor_from 0 (movie_times_left l head.timescale (tracks_seen head)) = c.movie_divisor.ensures in
    record {
      movie = own ∙ movie_found l file tree head left said;
      tracks = c.in_ok-tracks.ensures.divisors told tree o left same;
    }

pub returns-clause-work : goal.returns-clause-work
returns-clause-work g c told tree o =
    let left : c.args.leaving.timescales ≡ true = sym c.has.ensures ∙ c.if-not-has.false in
    subst (λ (b : Bool). c.track_divisors.new.steps.passed ≤ c.args.steps.now.passed + (if b then walks_steps tree else 0)) (sym left) (c.in_ok-tracks.ensures.work told tree o)
