use Rattle.std.proofs.Common.{rules, ◌≡◌, ◌+◌, List, ℕ, length, take, sym, ap, subst, ◌∙◌, arith}
use Rattle.std.proofs.lemmas.List.{with_items_is}
use Rattle.mp4_present.specs.words.Carried.{WaitsMore}
use Rattle.mp4_present.proofs.Carrying.{waits_more}
use Rattle.mp4_present.proofs.out_buffer.OutBuffer.add_range.Goals as goal

pub returns-clause-many : goal.returns-clause-many
returns-clause-many g c =
    let used = c.args.self.now.used in
    let v = c.args.self.now.buffer in
    let new = c.read_in.new.buffer in
    let many : length new ≡ v.len = search rules in
    let fits = c.requires.fits in
    let same = c.read_in.ensures.front ∙ ap (take used) c.as_mut_slice.ensures.value in
    subst (λ (bs : List ℕ). WaitsMore (take used v.items) (take (used + c.args.len) bs) c.args.len) (sym (with_items_is v new many)) (waits_more v.items new used c.args.len (omega (arith, many, fits)) same)
