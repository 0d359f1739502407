use Rattle.std.proofs.Common.{◌<◌, ◌≤◌, length, take, ◌∙◌, sym, ap, arith, rules}
use Rattle.std.proofs.lemmas.List.{length-map, length-take}
use Rattle.mp4_tables.specs.format.Groups.{GroupKey as GroupKeyOf}
use Rattle.mp4_tables.specs.words.Keys.{key_place, key_seen, keys_seen}
use Rattle.mp4_frag.proofs.FirstGroup.{named_twice, named_fifth, named_well}
use Rattle.mp4_frag.proofs.NamesKept.{place_inside, name_again, name_found, name_new, name_full}
use Rattle.mp4_frag.proofs.groups.name.Goals as goal
use Rattle.mp4_frag.proofs.groups.name.Goals.{in-Some+else-named-j, in-None+else-count-ge4}

pub bounds-named-j : goal.bounds-named-j
bounds-named-j c =
    let keys = c.args.keys.now in
    let few : length (keys_seen keys) ≤ 4 = omega (arith, length-map (take keys.count keys.named) key_seen, length-take keys.count keys.named, keys.few) in
    let inside = place_inside (key_seen c.args.key) c.in-Some.j (keys_seen keys) (sym c.in-Some.ensures) in
    omega arith

pub bounds-named-place : goal.bounds-named-place
bounds-named-place c =
    let keys = c.args.keys.now in
    let few : length (keys_seen keys) ≤ 4 = omega (arith, length-map (take keys.count keys.named) key_seen, length-take keys.count keys.named, keys.few) in
    elim c.match-place.branch [
      | in-Some+else-named-j w ↦ let inside = place_inside (key_seen c.args.key) w.in-Some.j (keys_seen keys) (sym w.in-Some.ensures) in omega (arith, w.place-is)
      | in-None+else-count-ge4 w ↦ let less : w.count-count.result < 4 = search rules in omega (arith, w.place-is)
    ]

pub returns-clause-named : goal.returns-clause-named
returns-clause-named c first before a g e =
    let now = keys_seen c.args.keys.now in
    let few = a.few in
    elim c.match-place.branch [
      | in-Some+else-named-j w ↦
          let place = ap (λ (k : GroupKeyOf). key_place k now) e ∙ sym w.in-Some.ensures in
          let inside : w.in-Some.j < length c.args.named.now = omega (arith, place_inside g.key w.in-Some.j now place, c.told-named) in
          rw (w.keys-is, w.place-is) (name_found first now before c.args.named.now g w.in-Some.j a place w.if-named-j.false inside)
      | in-None+else-count-ge4 w ↦
          let less : length now < 4 = search rules in
          let inside : length now < length c.args.named.now = omega (arith, c.told-named) in
          rw (w.keys-is, w.push.ensures, w.place-is, w.count-count.ensures.is, sym e) (name_new first now before c.args.named.now g a (ap (λ (k : GroupKeyOf). key_place k now) e ∙ sym w.in-None.ensures) less inside)
    ]

-- ---- the first fault

pub returns-then-named-j-clause-exact : goal.returns-then-named-j-clause-exact
returns-then-named-j-clause-exact c first before a g e =
    let now = keys_seen c.args.keys.now in
    record { names = named_twice first before g (name_again 0 first now before c.args.named.now g c.in-Some.j a (ap (λ (k : GroupKeyOf). key_place k now) e ∙ sym c.in-Some.ensures) c.if-named-j.true) }

pub returns-then-count-ge4-clause-exact : goal.returns-then-count-ge4-clause-exact
returns-then-count-ge4-clause-exact c first before a g e =
    let now = keys_seen c.args.keys.now in
    let many : 4 ≤ length now = search rules in
    let full = name_full first now before c.args.named.now g a (ap (λ (k : GroupKeyOf). key_place k now) e ∙ sym c.in-None.ensures) many in
    record { names = named_fifth first before g full.0 full.1 }

pub returns-clause-exact : goal.returns-clause-exact
returns-clause-exact c first before a g e =
    let one = returns-clause-named c first before a g e in
    record { names = named_well first before g one.once one.room }
