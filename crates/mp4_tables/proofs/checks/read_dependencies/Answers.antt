use Rattle.std.proofs.Common.{arith, ap, codes, length, List, ℕ}
use Rattle.std.proofs.lemmas.Result.{err_from_is_err_and}
use Rattle.mp4_boxes.specs.words.View.{box_seen}
use Rattle.mp4_boxes.proofs.Plain.{nat_le_no, nat_le_yes}
use Rattle.mp4_tables.proofs.LeafRows.{lies_in, first_is_child}
use Rattle.mp4_tables.proofs.TableReads.{dependencies_read, dependencies_none}
use Rattle.std.proofs.Common.{[], ◌∷◌, true, false, drop, length-drop}
use Rattle.mp4_tables.specs.format.TableRules.{dependency_room}
use Rattle.mp4_tables.proofs.FirstTables.{none_tested}
use Rattle.mp4_tables.proofs.FirstReads.{dependencies_stop, dependencies_judged}
use Rattle.mp4_tables.proofs.checks.read_dependencies.Goals as goal

pub returns-in_default-clause-rows : goal.returns-in_default-clause-rows
returns-in_default-clause-rows c = dependencies_none (box_seen c.args.stbl) c.args.n c.in_default.ensures

pub place_in-requires : goal.place_in-requires
place_in-requires c = let i = (lies_in (box_seen c.args.stbl) (box_seen c.in-Some.leaf) c.requires.tables (first_is_child (codes "sdtp") (box_seen c.args.stbl) (box_seen c.in-Some.leaf) c.in-Some.ensures)).is in omega arith

pub returns-clause-rows : goal.returns-clause-rows
returns-clause-rows c =
    let q = ap (λ (xs : List ℕ). length xs) c.payload.ensures in
    let v = c.in_ok-version_of.ensures.version in
    let k = c.in_ok-version_of.ensures.known in
    let l = c.in_ok-version_of.ensures.long in
    let p = c.place_in.ensures in
    dependencies_read (box_seen c.args.stbl) (box_seen c.in-Some.leaf) _ c.args.n c.requires.tables c.in-Some.ensures (omega arith) (omega arith) (omega arith) (omega arith) (omega arith)

pub returns-in_default-clause-exact : goal.returns-in_default-clause-exact
returns-in_default-clause-exact c = none_tested (codes "sdtp" ∷ []) (dependency_room ∷ []) c.args.limits (box_seen c.args.stbl) c.in_default.ensures

pub returns-in_err-version_of-clause-exact : goal.returns-in_err-version_of-clause-exact
returns-in_err-version_of-clause-exact c =
    let p = err_from_is_err_and c.from_residual.result c.from_residual.ensures.1 in
    rw (p.1, p.2) (dependencies_stop c.args.limits (box_seen c.args.stbl) (box_seen c.in-Some.leaf) c.in-Some.ensures c.in_err-version_of.field-0.0 c.in_err-version_of.ensures.exact)

pub returns-then-length-n-clause-exact : goal.returns-then-length-n-clause-exact
returns-then-length-n-clause-exact c =
    let q = ap (λ (xs : List ℕ). length xs) c.payload.ensures in
    let d = length-drop 4 (box_seen c.in-Some.leaf).payload in
    let l = c.in_ok-version_of.ensures.long in
    let few = nat_le_no c.args.n (length (drop 4 (box_seen c.in-Some.leaf).payload)) (omega arith) in
    rw c.fault.ensures (dependencies_judged c.args.limits (box_seen c.args.stbl) (box_seen c.in-Some.leaf) c.in-Some.ensures c.args.n false l c.requires.sizes few c.in_ok-version_of.ensures.exact)

pub returns-clause-exact : goal.returns-clause-exact
returns-clause-exact c =
    let q = ap (λ (xs : List ℕ). length xs) c.payload.ensures in
    let d = length-drop 4 (box_seen c.in-Some.leaf).payload in
    let l = c.in_ok-version_of.ensures.long in
    let enough = nat_le_yes c.args.n (length (drop 4 (box_seen c.in-Some.leaf).payload)) (omega arith) in
    dependencies_judged c.args.limits (box_seen c.args.stbl) (box_seen c.in-Some.leaf) c.in-Some.ensures c.args.n true l c.requires.sizes enough c.in_ok-version_of.ensures.exact
