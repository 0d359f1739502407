use Rattle.std.proofs.Common.{rules, arith, ◌≡◌, ◌+◌, ◌-◌, take, drop, ap, ◌∙◌}
use Rattle.mp4_content.proofs.Differing.{window_bytes}
use Rattle.mp4_content.proofs.file_window.FileWindow.bytes.Goals as goal

pub returns-clause-bytes : goal.returns-clause-bytes
returns-clause-bytes c file shows =
    let w = c.args.self.now in
    let d = c.args.at - w.at in
    let len = c.args.len in
    let same : d + len - d ≡ len = omega arith in
    let items : c.deref.result.now ≡ w.buffer.items = search rules in
    ap (λ n. take n (drop d c.deref.result.now)) same ∙ ap (λ xs. take len (drop d xs)) items
    ∙ window_bytes w.buffer.items file w.at w.used c.args.at len c.requires.begins c.requires.ends shows
