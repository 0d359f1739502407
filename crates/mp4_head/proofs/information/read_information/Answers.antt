use Rattle.std.proofs.Common.{◌≡◌, suc, true, false, sym, ◌∙◌, refl, rules}
use Rattle.std.specs.Prelude.{codes, bytes_eq}
use Rattle.std.proofs.lemmas.Result.{err_from_is_err_and}
use Rattle.mp4_boxes.specs.format.Box.{box_container}
use Rattle.mp4_boxes.specs.format.Children.{Holds, is_among, media_headers}
use Rattle.mp4_boxes.specs.words.View.{box_seen}
use Rattle.mp4_boxes.specs.declared.rule.Rule.TheVariants as kinds
use Rattle.mp4_head.proofs.FaultWalks.{fault_none, fault_more, fault_here, refused_here, fault_all, list_fails, list_holds, dinf_fault, stbl_fault, information_pass}
use Rattle.mp4_head.proofs.InformationBoxes.{information_none, information_data, information_table, information_header, information_other, information_said, information_no_header, information_no_table}
use Rattle.mp4_head.proofs.information.read_information.Goals as goal

pub loop-child-init : goal.loop-child-init
loop-child-init c = (tt, tt, information_none _, λ n ids. fault_none _ _)

pub loop-child-preserved-in_ok-check_data_information : goal.loop-child-preserved-in_ok-check_data_information
loop-child-preserved-in_ok-check_data_information c =
    let h : Holds kinds.MediaInformation (box_container (box_seen c.args.minf)) c.into_iter-child-iterator.result = rw c.into_iter-child-iterator.ensures.into_iter_gives c.in_ok-child-items.ensures.holds in
    let k : bytes_eq (codes "dinf") (box_seen c.in-Some.child).kind ≡ true = sym c.is.ensures ∙ c.if-is.true in (
      tt,
      tt,
      information_data (box_seen c.args.minf) _ c.loop-child.child-iterator c.next.new.self (box_seen c.in-Some.child) _ _ h c.loop-child.invariant.2 c.in-Some.ensures.steps k c.in_ok-check_data_information.ensures.says,
      λ n ids. fault_more _ _ _ _ _ (c.loop-child.invariant.3 n ids) c.in-Some.ensures.steps (λ before e. dinf_fault (suc (suc n)) ids (box_seen c.args.minf) before (box_seen c.in-Some.child) k ∙ (c.in_ok-check_data_information.ensures.exact n ids).names),
    )

pub loop-child-preserved-then-is-2 : goal.loop-child-preserved-then-is-2
loop-child-preserved-then-is-2 c =
    let o : bytes_eq (codes "dinf") (box_seen c.in-Some.child).kind ≡ false = sym c.is.ensures ∙ c.if-is.false in
    let h : Holds kinds.MediaInformation (box_container (box_seen c.args.minf)) c.into_iter-child-iterator.result = rw c.into_iter-child-iterator.ensures.into_iter_gives c.in_ok-child-items.ensures.holds in
    let n : bytes_eq (codes "dinf") (box_seen c.in-Some.child).kind ≡ false = sym c.is.ensures ∙ c.if-is.false in
    let k : bytes_eq (codes "stbl") (box_seen c.in-Some.child).kind ≡ true = sym c.is-else-is.ensures ∙ c.if-is-2.true in (
      tt,
      tt,
      information_table (box_seen c.args.minf) _ c.loop-child.child-iterator c.next.new.self (box_seen c.in-Some.child) _ _ _ h c.loop-child.invariant.2 c.in-Some.ensures.steps n k (record { same = refl; says = c.in_ok-read_sample_table.ensures.says }),
      λ n ids. fault_more _ _ _ _ _ (c.loop-child.invariant.3 n ids) c.in-Some.ensures.steps (λ before e. stbl_fault (suc (suc n)) ids (box_seen c.args.minf) before (box_seen c.in-Some.child) o k ∙ (c.in_ok-read_sample_table.ensures.exact n ids).names),
    )

pub loop-child-preserved-then-is_media_header : goal.loop-child-preserved-then-is_media_header
loop-child-preserved-then-is_media_header c =
    let o : bytes_eq (codes "dinf") (box_seen c.in-Some.child).kind ≡ false = sym c.is.ensures ∙ c.if-is.false in
    let m0 : bytes_eq (codes "stbl") (box_seen c.in-Some.child).kind ≡ false = sym c.is-else-is.ensures ∙ c.if-is-2.false in
    let h : Holds kinds.MediaInformation (box_container (box_seen c.args.minf)) c.into_iter-child-iterator.result = rw c.into_iter-child-iterator.ensures.into_iter_gives c.in_ok-child-items.ensures.holds in
    let n : bytes_eq (codes "dinf") (box_seen c.in-Some.child).kind ≡ false = sym c.is.ensures ∙ c.if-is.false in
    let m : bytes_eq (codes "stbl") (box_seen c.in-Some.child).kind ≡ false = sym c.is-else-is.ensures ∙ c.if-is-2.false in
    let a : is_among media_headers (box_seen c.in-Some.child).kind ≡ true = sym c.is_media_header.ensures ∙ c.if-is_media_header.true in (
      tt,
      tt,
      information_header (box_seen c.args.minf) _ c.loop-child.child-iterator c.next.new.self (box_seen c.in-Some.child) _ _ c.keep.result h c.loop-child.invariant.2 c.in-Some.ensures.steps n m a c.keep.ensures,
      λ n ids. fault_more _ _ _ _ _ (c.loop-child.invariant.3 n ids) c.in-Some.ensures.steps (λ before e. information_pass (suc (suc n)) ids (box_seen c.args.minf) before (box_seen c.in-Some.child) o m0),
    )

pub loop-child-preserved : goal.loop-child-preserved
loop-child-preserved c =
    let o : bytes_eq (codes "dinf") (box_seen c.in-Some.child).kind ≡ false = sym c.is.ensures ∙ c.if-is.false in
    let m0 : bytes_eq (codes "stbl") (box_seen c.in-Some.child).kind ≡ false = sym c.is-else-is.ensures ∙ c.if-is-2.false in
    let n : bytes_eq (codes "dinf") (box_seen c.in-Some.child).kind ≡ false = sym c.is.ensures ∙ c.if-is.false in
    let m : bytes_eq (codes "stbl") (box_seen c.in-Some.child).kind ≡ false = sym c.is-else-is.ensures ∙ c.if-is-2.false in
    let a : is_among media_headers (box_seen c.in-Some.child).kind ≡ false = sym c.is_media_header.ensures ∙ c.if-is_media_header.false in (
      tt,
      tt,
      information_other _ c.loop-child.child-iterator c.next.new.self (box_seen c.in-Some.child) _ _ c.loop-child.invariant.2 c.in-Some.ensures.steps n m a,
      λ n ids. fault_more _ _ _ _ _ (c.loop-child.invariant.3 n ids) c.in-Some.ensures.steps (λ before e. information_pass (suc (suc n)) ids (box_seen c.args.minf) before (box_seen c.in-Some.child) o m0),
    )

pub returns-clause-says : goal.returns-clause-says
returns-clause-says c =
    let h : Holds kinds.MediaInformation (box_container (box_seen c.args.minf)) c.into_iter-child-iterator.result = rw c.into_iter-child-iterator.ensures.into_iter_gives c.in_ok-child-items.ensures.holds in
    information_said (box_seen c.args.minf) _ c.loop-child.child-iterator c.loop-child.header c.loop-child.tables c.in-Some-header.header (c.in-Some-tables.stbl, c.in-Some-tables.table) h c.loop-child.invariant.2 c.in-None.ensures.steps.0 (search rules) (search rules)

-- ---- the first fault

pub returns-in_err-child-items-clause-exact : goal.returns-in_err-child-items-clause-exact
returns-in_err-child-items-clause-exact c n ids =
    let p = err_from_is_err_and c.from_residual.result c.from_residual.ensures.1 in
    record { names = rw (p.1, p.2) (list_fails (suc (suc n)) ids kinds.MediaInformation (box_seen c.args.minf) c.in_err-child-items.field-0.0 c.in_err-child-items.ensures.exact.same) }

pub returns-in_err-check_data_information-clause-exact : goal.returns-in_err-check_data_information-clause-exact
returns-in_err-check_data_information-clause-exact c n ids =
    let p = err_from_is_err_and c.from_residual-in_err-check_data_information.result c.from_residual-in_err-check_data_information.ensures.1 in
    let k : bytes_eq (codes "dinf") (box_seen c.in-Some.child).kind ≡ true = sym c.is.ensures ∙ c.if-is.true in
    let held = list_holds (suc (suc n)) ids kinds.MediaInformation (box_seen c.args.minf) c.into_iter-child-iterator.result (rw c.into_iter-child-iterator.ensures.into_iter_gives c.in_ok-child-items.ensures.exact.same) in
    record {
      names = rw (p.1, p.2) (held ∙ fault_here _ _ _ _ _ c.in_err-check_data_information.field-0.0 (c.loop-child.invariant.3 n ids) c.in-Some.ensures.steps (λ before e. dinf_fault (suc (suc n)) ids (box_seen c.args.minf) before (box_seen c.in-Some.child) k
          ∙ (c.in_err-check_data_information.ensures.exact n ids).names));
    }

pub returns-in_err-read_sample_table-clause-exact : goal.returns-in_err-read_sample_table-clause-exact
returns-in_err-read_sample_table-clause-exact c n ids =
    let p = err_from_is_err_and c.from_residual-in_err-read_sample_table.result c.from_residual-in_err-read_sample_table.ensures.1 in
    let o : bytes_eq (codes "dinf") (box_seen c.in-Some.child).kind ≡ false = sym c.is.ensures ∙ c.if-is.false in
    let k : bytes_eq (codes "stbl") (box_seen c.in-Some.child).kind ≡ true = sym c.is-else-is.ensures ∙ c.if-is-2.true in
    let held = list_holds (suc (suc n)) ids kinds.MediaInformation (box_seen c.args.minf) c.into_iter-child-iterator.result (rw c.into_iter-child-iterator.ensures.into_iter_gives c.in_ok-child-items.ensures.exact.same) in
    record {
      names = rw (
        p.1,
        p.2,
      ) (refused_here _ _ _ _ _ _ _ c.in_err-read_sample_table.field-0.0 (c.loop-child.invariant.3 n ids) c.in-Some.ensures.steps (λ before e. stbl_fault (suc (suc n)) ids (box_seen c.args.minf) before (box_seen c.in-Some.child) o k) held
          (c.in_err-read_sample_table.ensures.exact n ids).names);
    }

pub returns-in_default-clause-exact : goal.returns-in_default-clause-exact
returns-in_default-clause-exact c n ids =
    let h : Holds kinds.MediaInformation (box_container (box_seen c.args.minf)) c.into_iter-child-iterator.result = rw c.into_iter-child-iterator.ensures.into_iter_gives c.in_ok-child-items.ensures.holds in
    absurd (information_no_header (box_seen c.args.minf) _ c.loop-child.child-iterator c.loop-child.header _ h c.loop-child.invariant.2 c.in-None.ensures.steps.0 (search rules))

pub returns-in_default-tables-clause-exact : goal.returns-in_default-tables-clause-exact
returns-in_default-tables-clause-exact c n ids =
    let h : Holds kinds.MediaInformation (box_container (box_seen c.args.minf)) c.into_iter-child-iterator.result = rw c.into_iter-child-iterator.ensures.into_iter_gives c.in_ok-child-items.ensures.holds in
    absurd (information_no_table (box_seen c.args.minf) _ c.loop-child.child-iterator _ c.loop-child.tables h c.loop-child.invariant.2 c.in-None.ensures.steps.0 (search rules))

pub returns-clause-exact : goal.returns-clause-exact
returns-clause-exact c n ids =
    let held = list_holds (suc (suc n)) ids kinds.MediaInformation (box_seen c.args.minf) c.into_iter-child-iterator.result (rw c.into_iter-child-iterator.ensures.into_iter_gives c.in_ok-child-items.ensures.exact.same) in
    record { names = held ∙ fault_all _ _ _ (c.loop-child.invariant.3 n ids) c.in-None.ensures.steps.0 }
