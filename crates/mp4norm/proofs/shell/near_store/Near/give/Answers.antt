use Rattle.std.proofs.Common.{◌≡◌, ◌∙◌, ◌-◌, List, ℕ, length, take, drop, ap, rules}
use Rattle.mp4_store.proofs.Windows.{part_of_range}
use Rattle.mp4norm.proofs.shell.near_store.Near.give.Goals as goal

pub returns : goal.returns
returns c = λ honest file is h.
    let w = c.args.self.now in
    let n = length c.args.out.now in
    let same : c.as_slice.result.now ≡ w.bytes.items = search rules in
    let part = part_of_range w.bytes.items file w.start w.len c.args.at n c.requires.holds.0 c.requires.holds.1 (is.3 h) in
    c.copy_part.ensures ∙ ap (λ (xs : List ℕ). take n (drop (c.args.at - w.start) xs)) same ∙ part
