use Rattle.std.proofs.Common.{◌≡◌, ℕ, ◌<◌, ◌^◌, max, arith, List, Some, map, subst, sym, ap, ◌∙◌}
use Rattle.std.specs.List.{AllByRecursion}
use Rattle.mp4_head.specs.format.Head as heads
use Rattle.mp4_head.specs.format.Tree.{movie_head_of, track_head_of}
use Rattle.mp4_head.specs.words.Seen.{track_seen}
use Rattle.mp4_head.specs.declared.heads.TrackHead.{TrackHead}
use Rattle.mp4_present.proofs.ToldTrees.{tree_said}
use Rattle.mp4_present.specs.format.Denotes.{presentation_of}
use Rattle.mp4_content.specs.words.Delays.{later_than}
use Rattle.mp4_content.proofs.TracksBegin.{all_begin, all_fit, more_said, movie_scale}
use Rattle.mp4_content.proofs.lead_ins.waits.Goals as goal

pub returns-in_default-clause-waits : goal.returns-in_default-clause-waits
returns-in_default-clause-waits g c told tree o =
    let file = g.S.Store.file c.args.store.now in
    let said = (tree_said file c.args.movie.now tree c.in_ok-head.head o c.in_ok-head.ensures).says in
    let same : map track_seen c.as_slice.result.now ≡ map track_head_of tree.movie.tracks = ap (λ (hs : List TrackHead). map track_seen hs) c.as_slice.ensures.value ∙ ap (λ (h : heads.Head). h.tracks) said in
    more_said (presentation_of file tree) (rw c.in_default.is at (c.in_ok-all.ensures.beginnings told tree o same))

pub returns-clause-waits : goal.returns-clause-waits
returns-clause-waits g c told tree o =
    let file = g.S.Store.file c.args.store.now in
    let m = c.args.movie.now in
    let head = c.in_ok-head.head in
    let said = (tree_said file m tree head o c.in_ok-head.ensures).says in
    let same : map track_seen c.as_slice.result.now ≡ map track_head_of tree.movie.tracks = ap (λ (hs : List TrackHead). map track_seen hs) c.as_slice.ensures.value ∙ ap (λ (h : heads.Head). h.tracks) said in
    let s = c.max-timescale.result in
    let first = c.first_of-first.result in
    let most : s ≡ max head.timescale 1 = c.max-timescale.ensures in
    let above = movie_scale file m tree o in
    let own : head.timescale ≡ (movie_head_of tree.movie).timescale = ap (λ (h : heads.Head). h.movie.timescale) said in
    let scale : s ≡ (movie_head_of tree.movie).timescale = omega (arith, most, above, own) in
    let some : 0 < s = omega (arith, scale, above) in
    let say = rw c.in-Some.is at (c.in_ok-all.ensures.beginnings told tree o same) in
    let can = rw c.in-Some.is at c.in_ok-all.ensures.can in
    let is = rw c.as_slice-2.ensures.value at c.first_of-first.ensures in
    let found : c.in_ok-delays_from.field-0.items ≡ map (later_than s first) c.in-Some.all.items = c.in_ok-delays_from.ensures ∙ ap (map (later_than s first)) c.as_slice-3.ensures.value in
    ap (λ (ws : List ℕ). Some ws) found ∙ all_begin s (presentation_of file tree) c.in-Some.all.items first some scale can say is

pub returns-clause-fit : goal.returns-clause-fit
returns-clause-fit g c = subst (λ (ws : List ℕ). AllByRecursion (λ n. n < 2 ^ 64) ws) (sym c.in_ok-delays_from.ensures) (all_fit c.max-timescale.result c.first_of-first.result _)
