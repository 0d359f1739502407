use Rattle.std.proofs.Common.{rules, arith, length, refl, ◌≡◌, ◌∷◌, []}
use Rattle.mp4_tables.proofs.IndexesLeft.{four_passed, rows_counted}
use Rattle.mp4_tables.proofs.indexes.IndexPlaces.pass_each.Goals as goal

pub returns-clause-next : goal.returns-clause-next
returns-clause-next c =
    let m : length c.args.rows.now.by_key ≡ 4 = search rules in
    let n : length c.args.self.now.by_key ≡ 4 = search rules in
    four_passed c.args.payload.now c.args.rows.now c.args.self.now _ _ _ _ _ _ _ m n c.index_passed.ensures.next c.index_passed-2.ensures.next c.index_passed-3.ensures.next c.index_passed-4.ensures.next

pub returns-clause-on : goal.returns-clause-on
returns-clause-on c =
    let n : length c.args.self.now.by_key ≡ 4 = search rules in
    let old = rows_counted c.args.self.now (record { row = 0; left = 0; value = 0 }) n in
    let new = rows_counted (record { by_key = c.index_passed.result ∷ c.index_passed-2.result ∷ c.index_passed-3.result ∷ c.index_passed-4.result ∷ []; are_left = c.are_left-self.result }) (record { row = 0; left = 0; value = 0 }) refl in
    omega (arith, old, new, c.index_passed.ensures.on, c.index_passed-2.ensures.on, c.index_passed-3.ensures.on, c.index_passed-4.ensures.on)
