use Rattle.std.proofs.Common.{rules, ◌≡◌, ◌∙◌, ◌+◌, ◌-◌, [], min, length, take, drop, map, flat_map, length-drop, get_or, IsTrue, arith, ap, sym, refl}
use Rattle.std.proofs.lemmas.List.{get_or-map}
use Rattle.std.proofs.Math.Seq.{map-set_same}
use borrow.Rule.Slice.PartMut.{put_mid, mid_len, same_len_mid}
use Rattle.std.specs.List.{list_all}
use Rattle.mp4_store.proofs.Parts.{on_err, part_there, risen_part, all_done, all_honest, coming, coming_is, coming_part, coming_first, coming_length, one_part_more}
use Rattle.mp4_store.proofs.joined.read_parts.Goals as goal

pub loop-done-init : goal.loop-done-init
loop-done-init g c =
    let F = g.S.Store.file in
    let all = ap length (coming_is F c.args.parts.now c.args.place.part c.args.place.offset) in
    let rest = length-drop c.args.place.offset (flat_map F (drop c.args.place.part c.args.parts.now)) in
    let none : length c.args.out.now - 0 ≡ length c.args.out.now = omega arith in
    (refl, refl, c.requires.part, omega arith, omega (arith, all, rest, c.requires.place), (λ _. ap (λ n. take n (coming (map F c.args.parts.now) c.args.place.part c.args.place.offset)) none), refl)

pub returns-in_err-done-clause-honesty : goal.returns-in_err-done-clause-honesty
returns-in_err-done-clause-honesty g c =
    map-set_same g.S.Store.is_honest c.loop-done.parts c.loop-done.part c.read_part.new.part c.index-parts-part.result (search rules) ∙ c.loop-done.invariant.1

pub returns-in_err-done-clause-files : goal.returns-in_err-done-clause-files
returns-in_err-done-clause-files g c =
    map-set_same g.S.Store.file c.loop-done.parts c.loop-done.part c.read_part.new.part c.index-parts-part.result (search rules) ∙ c.loop-done.invariant.0

pub returns-in_err-done-clause-cause : goal.returns-in_err-done-clause-cause
returns-in_err-done-clause-cause g c =
    let N = g.S.Store.read_failures in
    let l = c.loop-done in
    let inv = l.invariant in
    let there = part_there g.S.Store.file l.parts c.args.parts.now l.part l.from l.done (length l.out) inv.0 c.loop-done-test.true inv.4 in
    on_err c.from_residual.result (risen_part N l.parts c.args.parts.now l.part c.read_part.new.part c.index-parts-part.result inv.6 there c.in_err-done.ensures.cause)

pub loop-done-preserved : goal.loop-done-preserved
loop-done-preserved g c =
    let F = g.S.Store.file in
    let H = g.S.Store.is_honest in
    let inv = c.loop-done.invariant in
    let file = map-set_same F c.loop-done.parts c.loop-done.part c.read_part.new.part c.index-parts-part.result (search rules) ∙ inv.0 in
    let honest = map-set_same H c.loop-done.parts c.loop-done.part c.read_part.new.part c.index-parts-part.result (search rules) ∙ inv.1 in
    let count_same = map-set_same g.S.Store.read_failures c.loop-done.parts c.loop-done.part c.read_part.new.part c.index-parts-part.result (search rules) ∙ inv.6 in
    let files = map F c.args.parts.now in
    let part = c.loop-done.part in
    let from = c.loop-done.from in
    let done = c.loop-done.done in
    let n = c.in_ok-done.field-0 in
    let out = c.loop-done.out in
    let sub = c.read_part.new.out in
    let d = c.index-parts-part.result in
    let room : length (take (length out - done) (drop done out)) ≡ length out - done = mid_len done (length out) out (omega arith) in
    let same : length (put_mid done (length out - done) out sub) ≡ length out = same_len_mid done (length out - done) out sub c.in_ok-done.ensures.length in
    let within = coming_part files part from (omega (arith, c.loop-done-test.true, inv.4)) in
    let there = part_there F c.loop-done.parts c.args.parts.now part from done (length out) inv.0 c.loop-done-test.true inv.4 in
    let file_is : get_or files part [] ≡ F (get_or c.loop-done.parts part d) = ap (λ l. get_or l part []) (sym inv.0) ∙ get_or-map F c.loop-done.parts part d [] there in
    let longer = coming_length files part from within inv.2 in
    let file_len = ap length file_is in
    let front = drop from (get_or files part []) in
    let front_len = length-drop from (get_or files part []) in
    let count : n ≡ min (length front) (length out - done) = omega (arith, c.in_ok-done.ensures.count, room, file_len, front_len) in
    let read : IsTrue (list_all H c.args.parts.now) → take n sub ≡ take n front = λ h. c.in_ok-done.ensures.bytes (all_honest H c.loop-done.parts c.args.parts.now part d inv.1 there h) ∙ ap (λ f. take n (drop from f)) (sym file_is) in (
      file,
      honest,
      omega arith,
      omega (arith, same, count, inv.3),
      omega (arith, same, count, inv.3, inv.4, longer, front_len),
      λ h. rw same (one_part_more out sub (coming files part from) front (coming files (part + 1) 0) _ done n inv.3 (c.in_ok-done.ensures.length ∙ room) count (read h) (coming_first files part from within inv.2) (inv.5 h)),
      count_same,
    )

pub returns-clause-read : goal.returns-clause-read
returns-clause-read g c = λ h.
    let F = g.S.Store.file in
    let inv = c.loop-done.invariant in
    let same : length c.loop-done.out ≡ length c.args.out.now = search rules in
    let whole : c.loop-done.out ≡ take (length c.loop-done.out) (coming (map F c.args.parts.now) c.args.place.part c.args.place.offset) = all_done c.loop-done.out _ _ c.loop-done.done inv.3 c.loop-done-test.false (inv.5 h) in
    whole ∙ ap (λ n. take n (coming (map F c.args.parts.now) c.args.place.part c.args.place.offset)) same ∙ ap (take (length c.args.out.now)) (coming_is F c.args.parts.now c.args.place.part c.args.place.offset)
