use Rattle.std.proofs.Common.{◌<◌, ◌^◌, rules}
use Rattle.mp4_tables.proofs.GroupsHere.{groups_next}
use Rattle.mp4_tables.proofs.PlaceLists.{duration_left, duration_within, offset_left, offset_within, chunk_left, end_fits, place_passed}
use Rattle.mp4_tables.proofs.SpotLists.{lies_in_chunks}
use Rattle.mp4_tables.proofs.table_samples.pass_place.Goals as goal

pub pass-requires-clause-within : goal.pass-requires-clause-within
pass-requires-clause-within c = duration_within c.args.payload.now c.args.at.now c.args.place.now c.requires.place

pub pass-requires-clause-some : goal.pass-requires-clause-some
pass-requires-clause-some c = duration_left c.args.payload.now c.args.at.now c.args.place.now c.requires.ok c.requires.place c.requires.inside

pub pass-requires-2-clause-within : goal.pass-requires-2-clause-within
pass-requires-2-clause-within c = offset_within c.args.payload.now c.args.at.now c.args.place.now c.offset_rows.result c.requires.place c.offset_rows.ensures

pub pass-requires-2-clause-some : goal.pass-requires-2-clause-some
pass-requires-2-clause-some c = offset_left c.args.payload.now c.args.at.now c.args.place.now c.requires.ok c.requires.place c.requires.inside

pub pass_sample-requires-clause-place : goal.pass_sample-requires-clause-place
pass_sample-requires-clause-place c = lies_in_chunks c.args.payload.now c.args.at.now.chunk_rows c.args.at.now.chunks _ _ _ c.requires.place.chunk

pub pass_sample-requires-clause-some : goal.pass_sample-requires-clause-some
pass_sample-requires-clause-some c = chunk_left c.args.payload.now c.args.at.now c.args.place.now c.requires.ok c.requires.place c.requires.inside

pub pass_sample-requires-clause-fits : goal.pass_sample-requires-clause-fits
pass_sample-requires-clause-fits c = end_fits c.args.payload.now c.args.at.now c.args.place.now c.args.size c.requires.ok c.requires.place c.requires.inside c.requires.size

pub returns-clause-place : goal.returns-clause-place
returns-clause-place c =
    let p = c.args.place.now in
    let small : p.duration.value < 2 ^ 32 = search rules in
    let d = c.pass.ensures in
    let o = c.pass-2.ensures in
    let s = c.pass_sample.ensures in
    rw c.from.ensures (place_passed c.args.payload.now c.args.at.now p c.args.size c.offset_rows.result c.pass.new.place c.pass-2.new.place c.pass_sample.new.place c.pass_sync_in.new.place c.pass-3.new.self
    c.requires.ok c.requires.place c.requires.inside c.requires.size small c.offset_rows.ensures d.next d.settled d.within o.next o.settled o.within s.next s.settled s.place.at s.place.opened s.place.passed
    c.pass_sync_in.ensures.at (groups_next c.args.payload.now c.args.at.now.groups p.groups c.pass-3.new.self p.number c.requires.place.groups c.pass-3.ensures.places c.pass-3.ensures.next))
