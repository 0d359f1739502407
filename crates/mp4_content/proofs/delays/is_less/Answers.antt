use Rattle.std.proofs.Common.{rules, ◌≡◌, ◌+◌, ◌/◌}
use Rattle.mp4_content.proofs.DelaysFound.{wholes_differ, wholes_are_same}
use Rattle.mp4_content.proofs.delays.is_less.Goals as goal

pub returns-then-one-two : goal.returns-then-one-two
returns-then-one-two c =
    let a = c.args in
    wholes_differ a.first.whole a.first.parts a.second.whole a.second.parts a.all c.requires.some c.if-one-two.true

pub returns : goal.returns
returns c =
    let a = c.args in
    let same : a.first.whole + a.first.parts / a.all ≡ a.second.whole + a.second.parts / a.all = search rules in
    wholes_are_same a.first.whole a.first.parts a.second.whole a.second.parts a.all same
