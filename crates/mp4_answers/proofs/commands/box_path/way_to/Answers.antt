use Rattle.std.proofs.Common.{rules, ◌≡◌, inr, ℕ, List, ◌++◌, refl, ap, ◌∙◌}
use Rattle.mp4_answers.specs.format.BoxWalk.{top_seen}
use Rattle.mp4_answers.specs.format.Ways.{step_text}
use Rattle.mp4_answers.proofs.WaysTo.{top_goes}
use Rattle.mp4_answers.proofs.commands.box_path.way_to.Goals as goal

pub returns-clause-way : goal.returns-clause-way
returns-clause-way g c = λ told.
    let file = g.S.Store.file c.args.store.now in
    let found = c.in-Some.ensures.store in
    let counted = c.number_at_top-number.ensures.store in
    let way = rw (counted.honesty, counted.file, found.honesty, found.file) at c.in_ok-last.ensures.way in
    let w = way told in
    let number = c.number_at_top-number.result in
    let first : c.extend_from_slice.new.self.items ≡ step_text c.in-Some.top.header.kind.0 number = search rules in
    inr (top_goes file c.args.place c.in-Some.top number (top_seen file c.in-Some.top) w.0 c.push_top_way.new.text.items
    (c.in-Some.ensures.holds told) refl w.1 (w.2 ∙ ap (λ (xs : List ℕ). xs ++ w.0) first))
