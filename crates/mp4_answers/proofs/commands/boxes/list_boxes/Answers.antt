use Rattle.std.proofs.Common.{◌≡◌, ◌++◌, ◌∙◌, List, ℕ, ap, sym, subst}
use Rattle.std.proofs.lemmas.Result.{err_from_is_err_and}
use Rattle.mp4_answers.specs.format.BoxTexts.{FormLines}
use Rattle.mp4_answers.proofs.BoxSpans.{file_lines, refuses_file}
use Rattle.mp4_answers.proofs.commands.boxes.list_boxes.Goals as goal

pub returns-in_err-push_boxes : goal.returns-in_err-push_boxes
returns-in_err-push_boxes g c =
    let p = err_from_is_err_and c.from_residual.result c.from_residual.ensures.1 in
    let file = g.S.Store.file c.args.store.now in
    let e = c.in_err-push_boxes.ensures in
    let cause = rw (c.whole_file-span.ensures, c.len.ensures) at e.refusal in
    record {
      answer = rw (p.1, p.2) (record {
        store = record { honesty = e.store.honesty; file = e.store.file; reads = tt };
        read = tt;
        refusal = refuses_file (g.S.Store.is_honest c.args.store.now) file (g.S.Store.read_failures c.args.store.now) (g.S.Store.read_failures c.push_boxes.new.store) c.in_err-push_boxes.field-0.0 cause;
      });
    }

pub returns : goal.returns
returns g c = record {
  answer = record {
    store = record { honesty = c.in_ok-push_boxes.ensures.store.honesty; file = c.in_ok-push_boxes.ensures.store.file; reads = c.in_ok-push_boxes.ensures.store.reads };
    read = λ told.
        let file = g.S.Store.file c.args.store.now in
        let lines = rw (c.whole_file-span.ensures, c.len.ensures) at c.in_ok-push_boxes.ensures.lines in
        let part = lines told 0 in
        let text : c.push_boxes.new.text.items ≡ part.0 = part.2 ∙ ap (λ (xs : List ℕ). xs ++ part.0) c.new-text.ensures.items in
        subst (FormLines c.args.form file) (sym text) (file_lines c.args.form file part.0 part.1);
    refusal = tt;
  };
}
