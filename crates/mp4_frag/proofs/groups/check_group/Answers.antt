use Rattle.std.proofs.Common.{◌≡◌, refl, true, false, nat_le, ap, ◌∙◌, rules}
use Rattle.std.proofs.lemmas.Result.{err_from_is_err_and}
use Rattle.mp4_tables.specs.format.Groups.{grouping_of}
use Rattle.mp4_frag.proofs.FirstGroup.{group_shape, group_name, group_rest}
use Rattle.mp4_frag.proofs.GroupsPassed.{key_is, index_kept, count_kept, group_sound}
use Rattle.mp4_frag.proofs.groups.check_group.Goals as goal

pub returns-clause-sound : goal.returns-clause-sound
returns-clause-sound g c first before a =
    let r = c.in_ok-group.ensures.group in
    let names = c.in_ok-name.ensures.named first before a (grouping_of c.args.payload.now) (key_is c.args.payload.now c.in_ok-group.group r) in
    let few : true ≡ nat_le c.in-Some.total c.args.n = search rules in
    group_sound c.args.n first _ before c.args.payload.now c.in_ok-group.group _ r names c.in-Some.ensures.indexes (few ∙ ap (λ m. nat_le m c.args.n) c.in-Some.ensures.total)

pub returns-clause-named : goal.returns-clause-named
returns-clause-named g c first before a =
    let r = c.in_ok-group.ensures.group in
    (c.in_ok-name.ensures.named first before a (grouping_of c.args.payload.now) (key_is c.args.payload.now c.in_ok-group.group r)).names

-- ---- the first fault

pub returns-in_err-group-clause-exact : goal.returns-in_err-group-clause-exact
returns-in_err-group-clause-exact g c =
    let p = err_from_is_err_and c.from_residual.result c.from_residual.ensures.1 in
    rw (p.1, p.2) (λ first before a. record { names = group_shape c.args.n first before c.args.payload.now c.in_err-group.field-0.0 c.in_err-group.ensures.exact.names })

pub returns-in_err-name-clause-exact : goal.returns-in_err-name-clause-exact
returns-in_err-name-clause-exact g c =
    let p = err_from_is_err_and c.from_residual-in_err-name.result c.from_residual-in_err-name.ensures.1 in
    let r = c.in_ok-group.ensures.group in
    rw (p.1, p.2) (λ first before a. record { names = group_name c.args.n first before c.args.payload.now c.in_ok-group.ensures.exact.names c.in_err-name.field-0.0 (c.in_err-name.ensures.exact first before a (grouping_of c.args.payload.now) (key_is c.args.payload.now c.in_ok-group.group r)).names })

pub returns-in_default-clause-exact : goal.returns-in_default-clause-exact
returns-in_default-clause-exact g c first before a =
    let r = c.in_ok-group.ensures.group in
    let named = (c.in_ok-name.ensures.exact first before a (grouping_of c.args.payload.now) (key_is c.args.payload.now c.in_ok-group.group r)).names in
    record { names = group_rest c.args.n first before c.args.payload.now c.in_ok-group.ensures.exact.names false _ named (index_kept c.args.n first before c.args.payload.now c.in_ok-group.group false r c.in_default.ensures.indexes) refl }

pub returns-then-total-from-clause-exact : goal.returns-then-total-from-clause-exact
returns-then-total-from-clause-exact g c first before a =
    let r = c.in_ok-group.ensures.group in
    let more : false ≡ nat_le c.in-Some.total c.args.n = search rules in
    let named = (c.in_ok-name.ensures.exact first before a (grouping_of c.args.payload.now) (key_is c.args.payload.now c.in_ok-group.group r)).names in
    record {
      names = group_rest c.args.n first before c.args.payload.now c.in_ok-group.ensures.exact.names true false named (index_kept c.args.n first before c.args.payload.now c.in_ok-group.group true r c.in-Some.ensures.indexes)
          (count_kept c.args.n first before c.args.payload.now c.in_ok-group.group false r (more ∙ ap (λ m. nat_le m c.args.n) c.in-Some.ensures.total));
    }

pub returns-clause-exact : goal.returns-clause-exact
returns-clause-exact g c first before a =
    let r = c.in_ok-group.ensures.group in
    let few : true ≡ nat_le c.in-Some.total c.args.n = search rules in
    let named = (c.in_ok-name.ensures.exact first before a (grouping_of c.args.payload.now) (key_is c.args.payload.now c.in_ok-group.group r)).names in
    record {
      names = group_rest c.args.n first before c.args.payload.now c.in_ok-group.ensures.exact.names true true named (index_kept c.args.n first before c.args.payload.now c.in_ok-group.group true r c.in-Some.ensures.indexes)
          (count_kept c.args.n first before c.args.payload.now c.in_ok-group.group true r (few ∙ ap (λ m. nat_le m c.args.n) c.in-Some.ensures.total));
    }
