use Rattle.std.proofs.Common.{◌≡◌, rules, sym}
use Rattle.mp4_content.proofs.SampleTimes.{one_divides}
use Rattle.mp4_content.proofs.scales.DividingFold.goes_on.Goals as goal

pub returns : goal.returns
returns g stops s =
    let one : g.args.self.now.divisor ≡ 1 = search rules in
    sym (one_divides g.args.self.now s one)
