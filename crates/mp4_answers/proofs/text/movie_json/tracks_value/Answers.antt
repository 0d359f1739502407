use Rattle.std.proofs.Common.{inl, inr, map, ap, ◌∙◌}
use Rattle.std.proofs.lemmas.List.{map_push}
use Rattle.serde_json.specs.Data.{array}
use Rattle.serde_json.specs.View.{view, items_of}
use Rattle.serde_json.proofs.Views.{view-Array}
use Rattle.mp4_head.specs.words.Seen.{track_seen}
use Rattle.mp4_answers.specs.words.ShowValue.{infos_values}
use Rattle.mp4_answers.proofs.ShownTracks.{infos_more, infos_all}
use Rattle.mp4_answers.proofs.text.movie_json.tracks_value.Goals as goal

pub loop-head-preserved : goal.loop-head-preserved
loop-head-preserved c =
    let s = c.in-Some.ensures.steps in
    let v = c.in_ok-track_value.field-0 in
    infos_more (map view c.loop-head.values.items) (map view c.push.new.self.items) (infos_values (map track_seen c.args.heads.now) c.args.infos.now) c.loop-head.head-iterator.a.rest.now c.next.new.self.a.rest.now c.loop-head.head-iterator.b.rest.now
    c.next.new.self.b.rest.now c.in-Some.head.now c.in-Some.info.now (view v) c.loop-head.invariant s.0 s.1 c.in_ok-track_value.ensures (ap (λ vs. map view vs) c.in_ok-push.ensures.items ∙ map_push view c.loop-head.values.items v)

pub returns : goal.returns
returns c =
    let all = infos_all (map view c.loop-head.values.items) (infos_values (map track_seen c.args.heads.now) c.args.infos.now) c.loop-head.head-iterator.a.rest.now c.loop-head.head-iterator.b.rest.now c.loop-head.invariant in
    view-Array c.loop-head.values ∙ ap (λ ds. array (items_of ds)) (elim c.in-None.ensures.steps [
      | inl h ↦ all (inl h.1.0)
      | inr h ↦ all (inr h.1.0)
    ])
