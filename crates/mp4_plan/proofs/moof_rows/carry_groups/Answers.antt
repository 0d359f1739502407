use Rattle.std.proofs.Common.{ℕ, List, subst, ◌∙◌, ap, [], ◌∷◌, ◌++◌, length, length-append, rules, arith}
use Rattle.std.specs.Prelude.{flat_map}
use Rattle.mp4_tables.specs.format.Groups.{GroupKey}
use Rattle.mp4_tables.specs.words.Keys.{key_seen, keys_seen}
use Rattle.mp4_plan.specs.format.Normal.{in_key_order}
use Rattle.mp4_plan.specs.words.UsedKeys.{used_from, place_at, group_bytes, some_groups}
use Rattle.mp4_plan.proofs.NextKeys.{all_to_come, few_used, used_apart, found_first, none_above, place_is, key_written, keys_written, one_less, none_left}
use Rattle.mp4_present.specs.words.Latches.{Goes}
use Rattle.mp4_present.proofs.Latched.{goes_as, goes_nothing}
use Rattle.mp4_plan.proofs.PiecesPut.{groups_more}
use Rattle.mp4_plan.proofs.moof_rows.carry_groups.Goals as goal

pub loop-key-init : goal.loop-key-init
loop-key-init g c =
    let keys = keys_seen c.args.keys.now in
    let order = in_key_order (used_from c.args.planned.now.group_rows 0 keys) in
    let all = all_to_come order in
    let none = goes_nothing g.K.Sink c.args.latch.now g.met.K.Sink.takes_on (g.met.K.Sink.takes_nothing _) in
    (λ apart. ([], none, all, (let few = few_used c.args.planned.now.group_rows keys in let same = ap length all in omega (arith, few, same))), ([], omega arith, omega arith, none))

pub loop-key-preserved : goal.loop-key-preserved
loop-key-preserved g c =
    let i = c.loop-key.invariant in
    let keys = keys_seen c.args.keys.now in
    let rows = c.args.planned.now.group_rows in
    let order = in_key_order (used_from rows 0 keys) in
    let key = key_seen c.in-Some.used.key in
    let f = λ (k : GroupKey). group_bytes c.args.rows.now c.args.planned.now (place_at keys k) k in (
      λ apart.
          let found = found_first c.loop-key.behind (used_from rows 0 keys) key (used_apart rows 0 keys apart) c.in-Some.ensures.next in
          let next = key_written f order (i.0 apart).0 c.loop-key.behind key (i.0 apart).2 found in
          let place = place_is keys c.in-Some.used.place key apart c.in-Some.ensures.place.1 in
          rw c.rank.ensures (
            (i.0 apart).0 ++ key ∷ [],
            goes_as g.K.Sink (flat_map f (i.0 apart).0) (group_bytes c.args.rows.now c.args.planned.now c.in-Some.used.place key) _ (i.0 apart).1 c.carry_group.ensures
                (next.0 ∙ ap (λ p. flat_map f (i.0 apart).0 ++ group_bytes c.args.rows.now c.args.planned.now p key) place),
            next.1,
            one_less order c.loop-key.behind key c.loop-key._key (length keys) found (i.0 apart).3,
          ),
      let some = i.1 in
          let own = some.1 in
          let test = c.loop-key-test.true in
          let most = c.count-key-end.ensures.few in (
            some.0 ++ (c.in-Some.used.place, key) ∷ [],
            omega (arith, own, length-append some.0 ((c.in-Some.used.place, key) ∷ [])),
            omega (arith, own, test, most, length-append some.0 ((c.in-Some.used.place, key) ∷ [])),
            goes_as g.K.Sink (some_groups c.args.rows.now c.args.planned.now some.0) (group_bytes c.args.rows.now c.args.planned.now c.in-Some.used.place key) _ some.3 c.carry_group.ensures (groups_more c.args.rows.now c.args.planned.now some.0 c.in-Some.used.place key),
          ),
    )

pub returns-in_default-clause-put : goal.returns-in_default-clause-put
returns-in_default-clause-put g c apart =
    let i = c.loop-key.invariant in
    let keys = keys_seen c.args.keys.now in
    let rows = c.args.planned.now.group_rows in
    let order = in_key_order (used_from rows 0 keys) in
    let f = λ (k : GroupKey). group_bytes c.args.rows.now c.args.planned.now (place_at keys k) k in
    subst (λ (bs : List ℕ). Goes g.K.Sink c.args.latch.now c.loop-key.latch bs) (keys_written f order (i.0 apart).0 _ (i.0 apart).2 (none_above c.loop-key.behind (used_from rows 0 keys) c.in_default.ensures.next)) (i.0 apart).1

pub returns-clause-put : goal.returns-clause-put
returns-clause-put g c apart =
    let i = c.loop-key.invariant in
    let keys = keys_seen c.args.keys.now in
    let rows = c.args.planned.now.group_rows in
    let order = in_key_order (used_from rows 0 keys) in
    let f = λ (k : GroupKey). group_bytes c.args.rows.now c.args.planned.now (place_at keys k) k in
    subst (λ (bs : List ℕ). Goes g.K.Sink c.args.latch.now c.loop-key.latch bs) (keys_written f order (i.0 apart).0 _ (i.0 apart).2 (none_left order c.loop-key.behind c.loop-key._key (length keys) (search rules) (i.0 apart).3)) (i.0 apart).1

pub returns-in_default-clause-some : goal.returns-in_default-clause-some
returns-in_default-clause-some g c = let some = c.loop-key.invariant.1 in (some.0, some.2, some.3)

pub returns-clause-some : goal.returns-clause-some
returns-clause-some g c = let some = c.loop-key.invariant.1 in (some.0, some.2, some.3)
