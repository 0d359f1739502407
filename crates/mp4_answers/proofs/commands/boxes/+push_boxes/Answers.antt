use Rattle.std.proofs.Common.{rules, ◌≡◌, ◌+◌, ◌++◌, ◌∙◌, List, ℕ, [], drop, length, ◌≤◌, get_or, refl, sym, ap, subst, append_assoc, arith, Some, None}
use Rattle.std.proofs.lemmas.Result.{err_from_is_err_and}
use Rattle.std.proofs.lemmas.List.{drop_all}
use Rattle.std.specs.List.{concat}
use Rattle.mp4_present.specs.declared.reading.TopBox.{TopBox}
use Rattle.mp4_answers.specs.format.BoxWalk.{rule_inside, IsListed, IsWithin, top_seen, tops_seen}
use Rattle.mp4_answers.specs.format.BoxTexts.{box_line}
use Rattle.mp4_answers.proofs.BoxLists.{listed_none, listed_more, listed_all, listed_alone, lines_of_boxes, inside_lower, tops_more, tops_split}
use Rattle.mp4_answers.proofs.BoxSpans.{refuses_deeper, refuses_line, listed_span}
use Rattle.mp4_answers.proofs.commands.boxes.+push_boxes.Goals as goal
use Rattle.mp4_answers.proofs.commands.boxes.+push_boxes.Goals.{in-Some+in_ok-push_boxes, in_default}

abbrev nowhere : TopBox
nowhere = record { offset = 0; header = record { kind = record { 0 = [] }; header = 0; end = 0 } }

pub loop-found-init : goal.loop-found-init
loop-found-init g t c =
    let e = c.in_ok-boxes.ensures in
    record {
      honesty = e.store.honesty;
      file = e.store.file;
      reads = e.store.reads;
      listed = λ told. listed_none (IsListed c.args.form c.args.span.rule c.args.depth) (tops_seen (g.S.Store.file c.args.store.now) c.deref-found-items.result.now) c.args.text.now.items;
    }

pub push_boxes-requires : goal.push_boxes-requires
push_boxes-requires g t c κs within =
    let file = g.S.Store.file c.args.store.now in
    let top = get_or c.deref-found-items.result.now c.loop-found.found-index nowhere in
    let into : rule_inside c.args.span.rule top.header.kind.0 ≡ Some c.in-Some.inner = search rules in
    let lower = inside_lower c.args.span.rule c.in-Some.inner top.header.kind.0 into in
    let w : IsWithin file top = search rules in
    let d = c.decreases in
    let r = c.requires.levels in
    let from = c.from.ensures in
    (omega (arith, lower, d), (within, (omega (arith, lower, r), (omega (arith, from, w.0), subst (λ (xs : List ℕ). top.header.end ≤ length xs) (sym (c.in_ok-add_line.ensures.store.file ∙ c.loop-found.invariant.file)) w.1))))

pub returns-in_err-push_boxes-clause-refusal : goal.returns-in_err-push_boxes-clause-refusal
returns-in_err-push_boxes-clause-refusal g t c =
    let p = err_from_is_err_and c.from_residual-in_err-push_boxes.result c.from_residual-in_err-push_boxes.ensures.1 in
    let i = c.loop-found.invariant in
    let file = g.S.Store.file c.args.store.now in
    let items = c.deref-found-items.result.now in
    let top = get_or items c.loop-found.found-index nowhere in
    let into : rule_inside c.args.span.rule top.header.kind.0 ≡ Some c.in-Some.inner = search rules in
    let l = c.in_ok-add_line.ensures.store in
    let e = rw (l.honesty, l.file, l.reads, i.honesty, i.file, i.reads, c.from.ensures) at c.in_err-push_boxes.ensures.refusal in
    let tiles = rw (← c.deref-found-items.ensures.value) at c.in_ok-boxes.ensures.tiles in
    rw (p.1, p.2) (refuses_deeper (g.S.Store.is_honest c.args.store.now) file c.args.span.rule c.in-Some.inner c.args.span.from c.args.span.end (tops_seen file items) (tops_seen file (drop (c.loop-found.found-index + 1) items)) top
    (g.S.Store.read_failures c.args.store.now) (g.S.Store.read_failures c.push_boxes.new.store) c.in_err-push_boxes.field-0.0 tiles
    (λ told. ((i.listed told).passed, tops_split file items c.loop-found.found-index nowhere (tops_seen file items) (i.listed told).passed refl (i.listed told).whole c.loop-found-test.true)) into e)

pub returns-in_err-add_line-clause-refusal : goal.returns-in_err-add_line-clause-refusal
returns-in_err-add_line-clause-refusal g t c =
    let p = err_from_is_err_and c.from_residual-in_err-add_line.result c.from_residual-in_err-add_line.ensures.1 in
    let i = c.loop-found.invariant in
    let e = rw i.reads at c.in_err-add_line.ensures.refusal in
    rw (p.1, p.2) (refuses_line (g.S.Store.is_honest c.args.store.now) (g.S.Store.file c.args.store.now) c.args.span.rule c.args.span.from c.args.span.end (g.S.Store.read_failures c.args.store.now) (g.S.Store.read_failures c.add_line.new.store) c.in_err-add_line.field-0.0 e)

pub loop-found-preserved : goal.loop-found-preserved
loop-found-preserved g t c =
    let i = c.loop-found.invariant in
    let file = g.S.Store.file c.args.store.now in
    let items = c.deref-found-items.result.now in
    let top = get_or items c.loop-found.found-index nowhere in
    let w : IsWithin file top = search rules in
    let line = box_line c.args.form c.args.span.rule c.args.depth (top_seen file top) in
    let e = c.in_ok-add_line.ensures in
    let added = rw (i.honesty, i.file) at e.line in
    let honesty = e.store.honesty ∙ i.honesty in
    let same = e.store.file ∙ i.file in
    let reads = e.store.reads ∙ i.reads in
    elim c.match-rule_inside.branch [
      | in-Some+in_ok-push_boxes b ↦
          let into : rule_inside c.args.span.rule top.header.kind.0 ≡ Some b.in-Some.inner = search rules in
          let f = b.in_ok-push_boxes.ensures in
          rw (b.text-is, b.store-is) (record {
            honesty = f.store.honesty ∙ honesty;
            file = f.store.file ∙ same;
            reads = f.store.reads ∙ reads;
            listed = λ told.
                let own = added told in
                let lines = rw (honesty, same, b.from.ensures) at f.lines in
                let part = lines told top.offset in
                listed_more (IsListed c.args.form c.args.span.rule c.args.depth) (tops_seen file items) c.args.text.now.items c.loop-found.text.items (tops_seen file (drop c.loop-found.found-index items)) (top_seen file top) (line ++ part.0) b.push_boxes.new.text.items
                (tops_seen file (drop (c.loop-found.found-index + 1) items)) (i.listed told) (tops_more file items c.loop-found.found-index nowhere c.loop-found-test.true)
                (listed_span c.args.form file c.args.span.rule b.in-Some.inner c.args.depth top part.0 into part.1) (part.2 ∙ ap (λ (xs : List ℕ). xs ++ part.0) own ∙ append_assoc c.loop-found.text.items line part.0);
          })
      | in_default b ↦
          let into : rule_inside c.args.span.rule top.header.kind.0 ≡ None = search rules in
          rw (b.text-is, b.store-is) (record {
            honesty = honesty;
            file = same;
            reads = reads;
            listed = λ told.
                let own = added told in
                listed_more (IsListed c.args.form c.args.span.rule c.args.depth) (tops_seen file items) c.args.text.now.items c.loop-found.text.items (tops_seen file (drop c.loop-found.found-index items)) (top_seen file top) line c.add_line.new.text.items
                (tops_seen file (drop (c.loop-found.found-index + 1) items)) (i.listed told) (tops_more file items c.loop-found.found-index nowhere c.loop-found-test.true)
                (listed_alone c.args.form c.args.span.rule c.args.depth (top_seen file top) into) own;
          })
    ]

pub returns-clause-lines : goal.returns-clause-lines
returns-clause-lines g t c told start =
    let i = c.loop-found.invariant in
    let file = g.S.Store.file c.args.store.now in
    let items = c.deref-found-items.result.now in
    let none : drop c.loop-found.found-index items ≡ [] = drop_all c.loop-found.found-index items (search rules) in
    let tiles = rw (← c.deref-found-items.ensures.value) at c.in_ok-boxes.ensures.tiles in
    let l = listed_all (IsListed c.args.form c.args.span.rule c.args.depth) (tops_seen file items) c.args.text.now.items c.loop-found.text.items (tops_seen file (drop c.loop-found.found-index items)) (i.listed told) (ap (tops_seen file) none) in
    (concat l.0, lines_of_boxes c.args.form c.args.depth c.args.span.rule _ (tops_seen file items) l.0 (tiles told start) l.1, l.2)
