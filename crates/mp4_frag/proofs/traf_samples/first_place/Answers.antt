use Rattle.std.proofs.Common.{◌≡◌, ◌∙◌, ap, to_z, of_z, arith, rules}
use Rattle.std.specs.Int.{w128}
use Rattle.mp4_frag.specs.words.Walks.{first_byte, number_here}
use Rattle.mp4_frag.proofs.traf_samples.first_place.Goals as goal

pub returns-clause-reached : goal.returns-clause-reached
returns-clause-reached c payload =
    let base : to_z w128 (of_z w128 c.args.base) ≡ c.args.base = search rules in
    let number : number_here c.from.result 0 ≡ c.args.number = omega (arith, c.from.ensures, c.ranges) in
    let at = c.file_place.ensures ∙ ap first_byte base in
    let inherited = c.nothing_inherited.ensures in
    let indexes = c.no_indexes.ensures.none payload in
    λ i. record { number = number i; dts = c.args.dts; at = at i; base = base i; inherited = inherited i; indexes = indexes i }
