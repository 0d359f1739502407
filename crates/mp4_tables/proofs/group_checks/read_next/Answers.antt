use Rattle.std.proofs.Common.{arith, sym, ◌≤◌, ◌<◌, ◌∙◌, length}
use Rattle.mp4_tables.specs.format.Repeated.{total}
use Rattle.mp4_tables.specs.words.Rows.{runs_at}
use Rattle.mp4_boxes.specs.words.View.{box_seen}
use Rattle.mp4_tables.specs.words.Keys.{key_seen, keys_seen}
use Rattle.mp4_tables.proofs.GroupReads.{group_next, not_true}
use Rattle.mp4_tables.proofs.GroupWalks.{group_passed}
use Rattle.mp4_tables.proofs.FirstGroups.{group_is_second, group_is_fifth, group_is_high, group_is_long, group_is_kept}
use Rattle.mp4_tables.proofs.group_checks.read_next.Goals as goal

pub returns-clause-next : goal.returns-clause-next
returns-clause-next g c =
    let e = c.count.ensures.is in
    let t = c.if-count-eq4.false in
    let f = c.count.ensures.few in
    let l : length (keys_seen c.args.groups.keys) < 4 = omega arith in
    group_next (box_seen c.args.stbl) (box_seen c.args.leaf) (key_seen c.in_ok-key.key) c.in_ok-key.rows c.args.n c.args.groups c.add_group.result c.in_ok-key.ensures.read (sym c.if-names.ensures) (λ h. t (e ∙ h))
    (rw c.payload-payload.ensures at (sym c.if-not-are_below.ensures.same)) (rw c.payload-payload.ensures at (c.counts_are_within.ensures.same.0 c.if-not-counts_are_within.false)) l c.add_group.ensures.keys c.add_group.ensures.slot

pub returns-clause-passed : goal.returns-clause-passed
returns-clause-passed g c =
    let e = c.count.ensures.is in
    let t = c.if-count-eq4.false in
    let f = c.count.ensures.few in
    let a = c.are_below.ensures.counted c.if-not-are_below.false in
    let b = c.counts_are_within.ensures.counted c.if-not-counts_are_within.false in
    group_passed (box_seen c.args.stbl).payload c.args.n c.args.steps.now c.counts_are_within.new.steps c.args.groups c.add_group.result c.in_ok-key.rows c.add_group.ensures.slot (omega arith) (omega arith)

pub returns-then-names-clause-exact : goal.returns-then-names-clause-exact
returns-then-names-clause-exact g c = λ before so. rw c.fault.ensures (group_is_second (box_seen c.args.stbl) (box_seen c.args.leaf) (key_seen c.in_ok-key.key) c.in_ok-key.rows c.args.n c.args.groups c.in_ok-key.ensures.read before so (sym c.if-names.ensures))

pub returns-then-count-eq4-clause-exact : goal.returns-then-count-eq4-clause-exact
returns-then-count-eq4-clause-exact g c = λ before so.
    let e = c.count.ensures.is in
    let t = c.if-count-eq4.true in
    rw c.fault-then-count-eq4.ensures (group_is_fifth (box_seen c.args.stbl) (box_seen c.args.leaf) (key_seen c.in_ok-key.key) c.in_ok-key.rows c.args.n c.args.groups c.in_ok-key.ensures.read before so (sym c.if-names.ensures) (omega arith))

pub returns-then-not-are_below-clause-exact : goal.returns-then-not-are_below-clause-exact
returns-then-not-are_below-clause-exact g c = λ before so.
    let e = c.count.ensures.is in
    let t = c.if-count-eq4.false in
    rw c.fault-then-not-are_below.ensures (group_is_high (box_seen c.args.stbl) (box_seen c.args.leaf) (key_seen c.in_ok-key.key) c.in_ok-key.rows c.args.n c.args.groups c.in_ok-key.ensures.read before so (sym c.if-names.ensures) (λ h. t (e ∙ h))
    (rw c.payload-payload.ensures at (sym c.if-not-are_below.ensures.same)))

pub returns-then-not-counts_are_within-clause-exact : goal.returns-then-not-counts_are_within-clause-exact
returns-then-not-counts_are_within-clause-exact g c = λ before so.
    let e = c.count.ensures.is in
    let t = c.if-count-eq4.false in
    let out : total (runs_at c.payload-payload.result.now c.in_ok-key.rows) ≤ c.args.n → ⊥ = λ h. not_true (sym c.if-not-counts_are_within.true ∙ c.counts_are_within.ensures.same.1 h) in
    rw c.fault-then-not-counts_are_within.ensures (group_is_long (box_seen c.args.stbl) (box_seen c.args.leaf) (key_seen c.in_ok-key.key) c.in_ok-key.rows c.args.n c.args.groups c.in_ok-key.ensures.read before so (sym c.if-names.ensures) (λ h. t (e ∙ h))
    (rw c.payload-payload.ensures at (sym c.if-not-are_below.ensures.same)) (rw c.payload-payload.ensures at out))

pub returns-clause-exact : goal.returns-clause-exact
returns-clause-exact g c = λ before so.
    let e = c.count.ensures.is in
    let t = c.if-count-eq4.false in
    group_is_kept (box_seen c.args.stbl) (box_seen c.args.leaf) (key_seen c.in_ok-key.key) c.in_ok-key.rows c.args.n c.args.groups c.in_ok-key.ensures.read before so (sym c.if-names.ensures) (λ h. t (e ∙ h)) (rw c.payload-payload.ensures at (sym c.if-not-are_below.ensures.same))
    (rw c.payload-payload.ensures at (c.counts_are_within.ensures.same.0 c.if-not-counts_are_within.false))
