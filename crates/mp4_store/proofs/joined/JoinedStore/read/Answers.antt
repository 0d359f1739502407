use Rattle.std.proofs.Common.{◌≡◌, ◌∙◌, ◌++◌, IsTrue, length, take, drop, flat_map, ap, rules}
use Rattle.std.specs.List.{list_all}
use Rattle.mp4_store.specs.words.Device.{range}
use Rattle.std.proofs.lemmas.Result.{on_ok_weaker}
use Rattle.mp4_store.proofs.Parts.{room_behind, range_behind, same_bytes, same_all, same_length, written_back}
use Rattle.mp4_store.proofs.joined.JoinedStore.read.Goals as goal

pub read_parts-requires-clause-place : goal.read_parts-requires-clause-place
read_parts-requires-clause-place g c =
    let parts : c.as_mut_slice.result.now ≡ c.args.self.now.0 = search rules in
    rw parts (room_behind g.S.Store.file c.args.self.now.0 c.args.at c.in-Some.place.part c.in-Some.place.offset _ c.in-Some.ensures.some c.requires)

pub returns-in-Some-clause-honesty : goal.returns-in-Some-clause-honesty
returns-in-Some-clause-honesty g c =
    let H = g.S.Store.is_honest in
    let parts : c.as_mut_slice.result.now ≡ c.args.self.now.0 = search rules in
    let new = c.read_parts.new.parts in
    let items = c.self.inside.parts.items in
    let back : take c.self.inside.parts.len (new ++ drop (length new) items) ≡ new = written_back c.self.inside.parts.len _ _ (same_length H _ _ c.read_parts.ensures.honesty ∙ ap length c.as_mut_slice.ensures.value) (search rules) in
    ap (list_all H) back ∙ same_all H _ _ c.read_parts.ensures.honesty ∙ ap (list_all H) parts

pub returns-in-Some-clause-file : goal.returns-in-Some-clause-file
returns-in-Some-clause-file g c =
    let F = g.S.Store.file in
    let parts : c.as_mut_slice.result.now ≡ c.args.self.now.0 = search rules in
    let new = c.read_parts.new.parts in
    let items = c.self.inside.parts.items in
    let back : take c.self.inside.parts.len (new ++ drop (length new) items) ≡ new = written_back c.self.inside.parts.len _ _ (same_length F _ _ c.read_parts.ensures.files ∙ ap length c.as_mut_slice.ensures.value) (search rules) in
    ap (flat_map F) back ∙ same_bytes F _ _ c.read_parts.ensures.files ∙ ap (flat_map F) parts

pub returns-in-Some-clause-cause : goal.returns-in-Some-clause-cause
returns-in-Some-clause-cause g c =
    let N = g.S.Store.read_failures in
    let parts : c.as_mut_slice.result.now ≡ c.args.self.now.0 = search rules in
    let new = c.read_parts.new.parts in
    let items = c.self.inside.parts.items in
    let back : take c.self.inside.parts.len (new ++ drop (length new) items) ≡ new = written_back c.self.inside.parts.len _ _ (same_length g.S.Store.file _ _ c.read_parts.ensures.files ∙ ap length c.as_mut_slice.ensures.value) (search rules) in
    rw back (rw parts at c.read_parts.ensures.cause)

pub returns-in-Some-clause-read : goal.returns-in-Some-clause-read
returns-in-Some-clause-read g c =
    let parts : c.as_mut_slice.result.now ≡ c.args.self.now.0 = search rules in
    let n = length c.args.out.now in
    let place = c.in-Some.place in
    let there = range_behind g.S.Store.file c.args.self.now.0 c.args.at place.part place.offset n c.in-Some.ensures.some in
    on_ok_weaker c.read_parts.result (λ (read : IsTrue (list_all g.S.Store.is_honest c.args.self.now.0) → c.read_parts.new.out ≡ range (flat_map g.S.Store.file (drop place.part c.args.self.now.0)) place.offset n) h. read h ∙ there) (rw parts at c.read_parts.ensures.read)
