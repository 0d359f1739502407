use Rattle.std.proofs.Common.{rules, List, take, drop, map, ◌++◌, ◌≡◌, ◌∙◌, length, subst}
use Rattle.std.proofs.lemmas.Simd.{splat_is_map}
use Rattle.mp4_present.specs.words.OwnTrafs.{own_seen, AreOwnBehind, none_noted}
use Rattle.mp4_frag.specs.declared.state.TrackState.{TrackState}
use Rattle.mp4_present.specs.words.PassedMoofs.{IsBegun}
use Rattle.mp4_present.proofs.MoofBytes.{written_back}
use Rattle.std.proofs.lemmas.Result.{err_from_is_err_and}
use Rattle.mp4_present.specs.words.MoofsJudged.{PassesMoofs}
use Rattle.mp4_present.proofs.opening.fragments.check_fragments.Goals as goal

pub returns-clause-own : goal.returns-clause-own
returns-clause-own g c =
    let s0 = c.extend_from_slice.new.self in
    let states = c.pass_fragments-passed.new.states in
    let many : length states ≡ s0.len = search rules in
    let s : states ≡ take s0.len (states ++ drop (length states) s0.items) = written_back states _ s0.len many in
    let start = c.as_mut_slice-all.result.now in
    let old : c.args.known.plain.now.states.items ≡ start = search rules in
    let noted = c.in_ok-tracks.tracks.own.items in
    let each : length start ≡ length c.as_slice-2.result.now = search rules in
    let first : map own_seen noted ≡ map (λ _. none_noted) start = c.in_ok-tracks.ensures.own ∙ splat_is_map start (length c.as_slice-2.result.now) none_noted each in
    let owns = c.pass_fragments-passed.new.tracks.own.items in
    let room = c.args.known.plain.now.room in
    λ told movie boxes b.
    let file = g.S.Store.file c.args.store.now in
    let begun : IsBegun file movie boxes start room = subst (λ (xs : List TrackState). IsBegun file movie boxes xs room) old b in
    let noted = (c.in_ok-passed.ensures.passed.1 told).1 first movie boxes begun in
    subst (λ (xs : List TrackState). AreOwnBehind file movie boxes xs (map own_seen owns)) s noted

pub returns-clause-exact : goal.returns-clause-exact
returns-clause-exact g c =
    let s0 = c.extend_from_slice.new.self in
    let states = c.pass_fragments-passed.new.states in
    let many : length states ≡ s0.len = search rules in
    let s : states ≡ take s0.len (states ++ drop (length states) s0.items) = written_back states _ s0.len many in
    let start = c.as_mut_slice-all.result.now in
    let old : c.args.known.plain.now.states.items ≡ start = search rules in
    let room = c.args.known.plain.now.room in
    let file = g.S.Store.file c.args.store.now in
    λ told. record {
      names = λ movie boxes b.
          let begun : IsBegun file movie boxes start room = subst (λ (xs : List TrackState). IsBegun file movie boxes xs room) old b in
          subst (λ (xs : List TrackState). PassesMoofs file movie boxes room xs) s ((c.in_ok-passed.ensures.exact told).names movie boxes begun);
    }

pub returns-in_err-passed-clause-exact : goal.returns-in_err-passed-clause-exact
returns-in_err-passed-clause-exact g c =
    let p = err_from_is_err_and c.from_residual-in_err-passed.result c.from_residual-in_err-passed.ensures.1 in
    let start = c.as_mut_slice-all.result.now in
    let old : c.args.known.plain.now.states.items ≡ start = search rules in
    let room = c.args.known.plain.now.room in
    let file = g.S.Store.file c.args.store.now in
    rw (p.1, p.2) (λ told. record {
      names = λ movie boxes b.
          let begun : IsBegun file movie boxes start room = subst (λ (xs : List TrackState). IsBegun file movie boxes xs room) old b in
          (c.in_err-passed.ensures.exact told).names movie boxes begun;
    })
