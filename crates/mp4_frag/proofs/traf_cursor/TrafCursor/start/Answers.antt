use Rattle.std.proofs.Common.{◌≡◌, ◌≤◌, length, take, ap, sym, ◌∙◌, to_z, of_z, rules, arith}
use Rattle.std.proofs.lemmas.List.{length-map, length-take}
use Rattle.std.specs.Int.{w128}
use Rattle.mp4_tables.specs.words.Keys.{key_seen, keys_seen}
use Rattle.mp4_frag.specs.words.Walks.{samples_coming, samples_in}
use Rattle.mp4_frag.proofs.OwnTied.{own_tied}
use Rattle.mp4_frag.proofs.traf_cursor.TrafCursor.start.Goals as goal

pub returns-clause-definition : goal.returns-clause-definition
returns-clause-definition c file_length trexes tracks t p among payload base sound defaults trex distinct room fits =
    let keys = keys_seen c.args.keys in
    let kept : to_z w128 (of_z w128 c.args.base) ≡ c.args.base = search rules in
    let few : length keys ≤ 4 = omega (arith, length-map (take c.args.keys.count c.args.keys.named) key_seen, length-take c.args.keys.count c.args.keys.named, c.args.keys.few) in
    ap samples_coming c.at.ensures
    ∙ c.begin_traf-place.ensures.coming
    ∙ ap (λ z. samples_in c.args.payload.now z c.args.id c.args.trex c.args.number c.args.dts keys) kept
    ∙ (λ i. samples_in (sym payload i) (sym base i) c.args.id c.args.trex c.args.number c.args.dts keys)
    ∙ own_tied keys file_length c.args.id c.args.number c.args.dts trexes tracks t p c.args.trex few distinct sound among trex room fits
