use Rattle.std.proofs.Common.{rules, ◌≤◌, length, drop, refl, sym, ap, ◌∙◌}
use Rattle.std.proofs.lemmas.List.{drop-drop, drop-append-le}
use Rattle.mp4_answers.proofs.text.line_cache.write_text.Goals as goal

pub returns-clause-written : goal.returns-clause-written
returns-clause-written g c =
    let w = c.write_bytes in
    let l = c.kept.inside in
    let fits : l.start ≤ length l.bytes = search rules in
    sym (drop-drop l.start w.result w.new.text) ∙ ap (drop l.start) w.ensures.written ∙ drop-append-le l.start l.bytes (drop c.args.end c.args.text.now) fits ∙ rw c.kept.view_is refl
