use Rattle.std.proofs.Common.{◌∙◌}
use Rattle.mp4_present.proofs.walking.Walk.in_hand.Goals as goal

pub returns-in-Tables-clause-hand : goal.returns-in-Tables-clause-hand
returns-in-Tables-clause-hand c =
    let s = (rw c.in-Tables.is at c.requires.place) in
    rw c.in-Tables.is (s.0, s.1, c.at.ensures.is ∙ (λ i. record { tables = (c.tables_of.ensures s.0 s.1) i; place = c.in-Tables.place }))
