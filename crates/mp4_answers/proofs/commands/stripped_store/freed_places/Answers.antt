use Rattle.std.proofs.Common.{◌≡◌, [], rules}
use Rattle.mp4_answers.proofs.FreedPlaces.{whole_copy, whole_lost_none, whole_places}
use Rattle.mp4_answers.proofs.commands.stripped_store.freed_places.Goals as goal

pub returns-clause-copy : goal.returns-clause-copy
returns-clause-copy g c told =
    let file = g.S.Store.file c.args.store.now in
    let added = rw (c.whole_file-span.ensures, c.len.ensures) at c.in_ok-place_boxes.ensures.places in
    let none : c.new-places.result.items ≡ [] = search rules in
    whole_copy c.args.names.now (g.S.Store.is_honest c.args.store.now) file c.new-places.result.items c.place_boxes.new.places.items none added told

pub returns-clause-places : goal.returns-clause-places
returns-clause-places g c =
    let file = g.S.Store.file c.args.store.now in
    let added = rw (c.whole_file-span.ensures, c.len.ensures) at c.in_ok-place_boxes.ensures.places in
    let none : c.new-places.result.items ≡ [] = search rules in
    whole_places c.args.names.now (g.S.Store.is_honest c.args.store.now) file c.new-places.result.items c.place_boxes.new.places.items none added

pub returns-clause-lost : goal.returns-clause-lost
returns-clause-lost g c told =
    let file = g.S.Store.file c.args.store.now in
    let added = rw (c.whole_file-span.ensures, c.len.ensures) at c.in_ok-place_boxes.ensures.places in
    let none : c.new-places.result.items ≡ [] = search rules in
    whole_lost_none c.args.names.now (g.S.Store.is_honest c.args.store.now) file c.new-places.result.items c.place_boxes.new.places.items none added told
