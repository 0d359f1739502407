use Rattle.mp4_head.proofs.JudgedLeaves.{leaf_sound}
use Rattle.mp4_boxes.specs.format.Layout.{hdlr, mdhd}
use Rattle.std.proofs.Common.{◌≡◌, suc, ℕ, List, [], ◌∷◌, ◌++◌, true, false, map, ap, sym, ◌∙◌, rules}
use Rattle.std.specs.Prelude.{codes, bytes_eq}
use Rattle.std.proofs.lemmas.List.{map-append}
use Rattle.std.proofs.lemmas.Result.{err_from_is_err_and}
use Rattle.mp4_boxes.specs.format.Box.{box_container}
use Rattle.mp4_boxes.specs.format.Children.{Holds}
use Rattle.mp4_boxes.specs.words.View.{box_seen}
use Rattle.mp4_boxes.specs.declared.rule.Rule.TheVariants as kinds
use Rattle.mp4_head.proofs.FaultWalks.{fault_none, fault_more, fault_here, refused_here, fault_all, list_fails, list_holds, mdhd_fault, hdlr_fault, minf_fault, elng_pass, media_pass}
use Rattle.mp4_head.proofs.MediaBoxes.{media_none, media_header, media_handler, media_language, media_information, media_other, media_said, media_no_header, media_no_handler, media_no_information}
use Rattle.mp4_head.proofs.media_boxes.read_media.Goals as goal

pub loop-child-init : goal.loop-child-init
loop-child-init c = (tt, tt, rw c.new-extended_languages.ensures.items (media_none _), λ n ids. fault_none _ _)

pub loop-child-preserved-then-is : goal.loop-child-preserved-then-is
loop-child-preserved-then-is c =
    let k0 : bytes_eq (codes "mdhd") (box_seen c.in-Some.child).kind ≡ true = sym c.is.ensures ∙ c.if-is.true in
    let h : Holds kinds.Media (box_container (box_seen c.args.mdia)) c.into_iter-child-iterator.result = rw c.into_iter-child-iterator.ensures.into_iter_gives c.in_ok-child-items.ensures.holds in
    let k : bytes_eq (codes "mdhd") (box_seen c.in-Some.child).kind ≡ true = sym c.is.ensures ∙ c.if-is.true in (
      tt,
      tt,
      media_header (box_seen c.args.mdia) _ c.loop-child.child-iterator c.next.new.self (box_seen c.in-Some.child) _ _ _ _ _ h c.loop-child.invariant.2 c.in-Some.ensures.steps k
          (leaf_sound mdhd (box_seen c.in-Some.child) c.in_ok-read_media_header.ensures.exact) c.in_ok-read_media_header.ensures.says,
      λ n ids. fault_more _ _ _ _ _ (c.loop-child.invariant.3 n ids) c.in-Some.ensures.steps (λ before e. mdhd_fault (suc (suc (suc n))) ids (box_seen c.args.mdia) before (box_seen c.in-Some.child) k0 ∙ c.in_ok-read_media_header.ensures.exact),
    )

pub loop-child-preserved-then-is-2 : goal.loop-child-preserved-then-is-2
loop-child-preserved-then-is-2 c =
    let o0 : bytes_eq (codes "mdhd") (box_seen c.in-Some.child).kind ≡ false = sym c.is.ensures ∙ c.if-is.false in
    let k1 : bytes_eq (codes "hdlr") (box_seen c.in-Some.child).kind ≡ true = sym c.is-else-is.ensures ∙ c.if-is-2.true in
    let h : Holds kinds.Media (box_container (box_seen c.args.mdia)) c.into_iter-child-iterator.result = rw c.into_iter-child-iterator.ensures.into_iter_gives c.in_ok-child-items.ensures.holds in
    let n0 : bytes_eq (codes "mdhd") (box_seen c.in-Some.child).kind ≡ false = sym c.is.ensures ∙ c.if-is.false in
    let k : bytes_eq (codes "hdlr") (box_seen c.in-Some.child).kind ≡ true = sym c.is-else-is.ensures ∙ c.if-is-2.true in (
      tt,
      tt,
      media_handler (box_seen c.args.mdia) _ c.loop-child.child-iterator c.next.new.self (box_seen c.in-Some.child) _ _ _ _ _ h c.loop-child.invariant.2 c.in-Some.ensures.steps n0 k (leaf_sound hdlr (box_seen c.in-Some.child) c.in_ok-read_handler.ensures.exact) c.in_ok-read_handler.ensures.payload,
      λ n ids. fault_more _ _ _ _ _ (c.loop-child.invariant.3 n ids) c.in-Some.ensures.steps (λ before e. hdlr_fault (suc (suc (suc n))) ids (box_seen c.args.mdia) before (box_seen c.in-Some.child) o0 k1 ∙ c.in_ok-read_handler.ensures.exact),
    )

pub loop-child-preserved-in_ok-push : goal.loop-child-preserved-in_ok-push
loop-child-preserved-in_ok-push c =
    let k2 : bytes_eq (codes "elng") (box_seen c.in-Some.child).kind ≡ true = sym c.is-else-is-2.ensures ∙ c.if-is-3.true in
    let h : Holds kinds.Media (box_container (box_seen c.args.mdia)) c.into_iter-child-iterator.result = rw c.into_iter-child-iterator.ensures.into_iter_gives c.in_ok-child-items.ensures.holds in
    let n0 : bytes_eq (codes "mdhd") (box_seen c.in-Some.child).kind ≡ false = sym c.is.ensures ∙ c.if-is.false in
    let n1 : bytes_eq (codes "hdlr") (box_seen c.in-Some.child).kind ≡ false = sym c.is-else-is.ensures ∙ c.if-is-2.false in
    let k : bytes_eq (codes "elng") (box_seen c.in-Some.child).kind ≡ true = sym c.is-else-is-2.ensures ∙ c.if-is-3.true in (
      tt,
      tt,
      media_language (box_seen c.args.mdia) _ c.loop-child.child-iterator c.next.new.self (box_seen c.in-Some.child) _ _ _ _ _ h c.loop-child.invariant.2 c.in-Some.ensures.steps n0 n1 k
          (ap (map (λ p. p.now)) c.in_ok-push.ensures.items ∙ map-append (λ p. p.now) c.loop-child.extended_languages.items (c.payload.result ∷ []) ∙ ap (λ (x : List ℕ). map (λ p. p.now) c.loop-child.extended_languages.items ++ x ∷ []) c.payload.ensures),
      λ n ids. fault_more _ _ _ _ _ (c.loop-child.invariant.3 n ids) c.in-Some.ensures.steps (λ before e. elng_pass (suc (suc (suc n))) ids (box_seen c.args.mdia) before (box_seen c.in-Some.child) k2),
    )

pub loop-child-preserved-then-is-4 : goal.loop-child-preserved-then-is-4
loop-child-preserved-then-is-4 c =
    let k3 : bytes_eq (codes "minf") (box_seen c.in-Some.child).kind ≡ true = sym c.is-else-is-3.ensures ∙ c.if-is-4.true in
    let h : Holds kinds.Media (box_container (box_seen c.args.mdia)) c.into_iter-child-iterator.result = rw c.into_iter-child-iterator.ensures.into_iter_gives c.in_ok-child-items.ensures.holds in
    let n0 : bytes_eq (codes "mdhd") (box_seen c.in-Some.child).kind ≡ false = sym c.is.ensures ∙ c.if-is.false in
    let n1 : bytes_eq (codes "hdlr") (box_seen c.in-Some.child).kind ≡ false = sym c.is-else-is.ensures ∙ c.if-is-2.false in
    let n2 : bytes_eq (codes "elng") (box_seen c.in-Some.child).kind ≡ false = sym c.is-else-is-2.ensures ∙ c.if-is-3.false in
    let k : bytes_eq (codes "minf") (box_seen c.in-Some.child).kind ≡ true = sym c.is-else-is-3.ensures ∙ c.if-is-4.true in (
      tt,
      tt,
      media_information (box_seen c.args.mdia) _ c.loop-child.child-iterator c.next.new.self (box_seen c.in-Some.child) _ _ _ _ _ h c.loop-child.invariant.2 c.in-Some.ensures.steps n0 n1 n2 k (record { says = c.in_ok-read_information.ensures.says }),
      λ n ids. fault_more _ _ _ _ _ (c.loop-child.invariant.3 n ids) c.in-Some.ensures.steps (λ before e. minf_fault (suc (suc (suc n))) ids (box_seen c.args.mdia) before (box_seen c.in-Some.child) k3 ∙ (c.in_ok-read_information.ensures.exact n ids).names),
    )

pub loop-child-preserved : goal.loop-child-preserved
loop-child-preserved c =
    let o0 : bytes_eq (codes "mdhd") (box_seen c.in-Some.child).kind ≡ false = sym c.is.ensures ∙ c.if-is.false in
    let o1 : bytes_eq (codes "hdlr") (box_seen c.in-Some.child).kind ≡ false = sym c.is-else-is.ensures ∙ c.if-is-2.false in
    let o3 : bytes_eq (codes "minf") (box_seen c.in-Some.child).kind ≡ false = sym c.is-else-is-3.ensures ∙ c.if-is-4.false in
    let h : Holds kinds.Media (box_container (box_seen c.args.mdia)) c.into_iter-child-iterator.result = rw c.into_iter-child-iterator.ensures.into_iter_gives c.in_ok-child-items.ensures.holds in
    let n0 : bytes_eq (codes "mdhd") (box_seen c.in-Some.child).kind ≡ false = sym c.is.ensures ∙ c.if-is.false in
    let n1 : bytes_eq (codes "hdlr") (box_seen c.in-Some.child).kind ≡ false = sym c.is-else-is.ensures ∙ c.if-is-2.false in
    let n2 : bytes_eq (codes "elng") (box_seen c.in-Some.child).kind ≡ false = sym c.is-else-is-2.ensures ∙ c.if-is-3.false in
    let n3 : bytes_eq (codes "minf") (box_seen c.in-Some.child).kind ≡ false = sym c.is-else-is-3.ensures ∙ c.if-is-4.false in (
      tt,
      tt,
      media_other (box_seen c.args.mdia) _ c.loop-child.child-iterator c.next.new.self (box_seen c.in-Some.child) _ _ _ _ h c.loop-child.invariant.2 c.in-Some.ensures.steps n0 n1 n2 n3,
      λ n ids. fault_more _ _ _ _ _ (c.loop-child.invariant.3 n ids) c.in-Some.ensures.steps (λ before e. media_pass (suc (suc (suc n))) ids (box_seen c.args.mdia) before (box_seen c.in-Some.child) o0 o1 o3),
    )

pub returns-clause-says : goal.returns-clause-says
returns-clause-says c =
    let h : Holds kinds.Media (box_container (box_seen c.args.mdia)) c.into_iter-child-iterator.result = rw c.into_iter-child-iterator.ensures.into_iter_gives c.in_ok-child-items.ensures.holds in
    media_said (box_seen c.args.mdia) _ c.loop-child.child-iterator c.loop-child.header c.loop-child.handler _ c.loop-child.information c.in-Some-header.header c.in-Some-handler.handler c.in-Some-information.information h c.loop-child.invariant.2 c.in-None.ensures.steps.0 (search rules)
    (search rules) (search rules)

-- ---- the first fault

pub returns-in_err-child-items-clause-exact : goal.returns-in_err-child-items-clause-exact
returns-in_err-child-items-clause-exact c n ids =
    let p = err_from_is_err_and c.from_residual.result c.from_residual.ensures.1 in
    record { names = rw (p.1, p.2) (list_fails (suc (suc (suc n))) ids kinds.Media (box_seen c.args.mdia) c.in_err-child-items.field-0.0 c.in_err-child-items.ensures.exact.same) }

pub returns-in_err-read_media_header-clause-exact : goal.returns-in_err-read_media_header-clause-exact
returns-in_err-read_media_header-clause-exact c n ids =
    let p = err_from_is_err_and c.from_residual-in_err-read_media_header.result c.from_residual-in_err-read_media_header.ensures.1 in
    let k0 : bytes_eq (codes "mdhd") (box_seen c.in-Some.child).kind ≡ true = sym c.is.ensures ∙ c.if-is.true in
    let held = list_holds (suc (suc (suc n))) ids kinds.Media (box_seen c.args.mdia) c.into_iter-child-iterator.result (rw c.into_iter-child-iterator.ensures.into_iter_gives c.in_ok-child-items.ensures.exact.same) in
    record {
      names = rw (p.1, p.2) (held ∙ fault_here _ _ _ _ _ c.in_err-read_media_header.field-0.0 (c.loop-child.invariant.3 n ids) c.in-Some.ensures.steps (λ before e. mdhd_fault (suc (suc (suc n))) ids (box_seen c.args.mdia) before (box_seen c.in-Some.child) k0
          ∙ c.in_err-read_media_header.ensures.exact));
    }

pub returns-in_err-read_handler-clause-exact : goal.returns-in_err-read_handler-clause-exact
returns-in_err-read_handler-clause-exact c n ids =
    let p = err_from_is_err_and c.from_residual-in_err-read_handler.result c.from_residual-in_err-read_handler.ensures.1 in
    let o0 : bytes_eq (codes "mdhd") (box_seen c.in-Some.child).kind ≡ false = sym c.is.ensures ∙ c.if-is.false in
    let k1 : bytes_eq (codes "hdlr") (box_seen c.in-Some.child).kind ≡ true = sym c.is-else-is.ensures ∙ c.if-is-2.true in
    let held = list_holds (suc (suc (suc n))) ids kinds.Media (box_seen c.args.mdia) c.into_iter-child-iterator.result (rw c.into_iter-child-iterator.ensures.into_iter_gives c.in_ok-child-items.ensures.exact.same) in
    record {
      names = rw (p.1, p.2) (held ∙ fault_here _ _ _ _ _ c.in_err-read_handler.field-0.0 (c.loop-child.invariant.3 n ids) c.in-Some.ensures.steps (λ before e. hdlr_fault (suc (suc (suc n))) ids (box_seen c.args.mdia) before (box_seen c.in-Some.child) o0 k1
          ∙ c.in_err-read_handler.ensures.exact));
    }

pub returns-in_err-read_information-clause-exact : goal.returns-in_err-read_information-clause-exact
returns-in_err-read_information-clause-exact c n ids =
    let p = err_from_is_err_and c.from_residual-in_err-read_information.result c.from_residual-in_err-read_information.ensures.1 in
    let k3 : bytes_eq (codes "minf") (box_seen c.in-Some.child).kind ≡ true = sym c.is-else-is-3.ensures ∙ c.if-is-4.true in
    let held = list_holds (suc (suc (suc n))) ids kinds.Media (box_seen c.args.mdia) c.into_iter-child-iterator.result (rw c.into_iter-child-iterator.ensures.into_iter_gives c.in_ok-child-items.ensures.exact.same) in
    record {
      names = rw (
        p.1,
        p.2,
      ) (refused_here _ _ _ _ _ _ _ c.in_err-read_information.field-0.0 (c.loop-child.invariant.3 n ids) c.in-Some.ensures.steps (λ before e. minf_fault (suc (suc (suc n))) ids (box_seen c.args.mdia) before (box_seen c.in-Some.child) k3) held
          (c.in_err-read_information.ensures.exact n ids).names);
    }

pub returns-in_default-clause-exact : goal.returns-in_default-clause-exact
returns-in_default-clause-exact c n ids =
    let h : Holds kinds.Media (box_container (box_seen c.args.mdia)) c.into_iter-child-iterator.result = rw c.into_iter-child-iterator.ensures.into_iter_gives c.in_ok-child-items.ensures.holds in
    absurd (media_no_header (box_seen c.args.mdia) _ c.loop-child.child-iterator c.loop-child.header c.loop-child.handler _ c.loop-child.information h c.loop-child.invariant.2 c.in-None.ensures.steps.0 (search rules))

pub returns-in_default-handler-clause-exact : goal.returns-in_default-handler-clause-exact
returns-in_default-handler-clause-exact c n ids =
    let h : Holds kinds.Media (box_container (box_seen c.args.mdia)) c.into_iter-child-iterator.result = rw c.into_iter-child-iterator.ensures.into_iter_gives c.in_ok-child-items.ensures.holds in
    absurd (media_no_handler (box_seen c.args.mdia) _ c.loop-child.child-iterator c.loop-child.header c.loop-child.handler _ c.loop-child.information h c.loop-child.invariant.2 c.in-None.ensures.steps.0 (search rules))

pub returns-in_default-information-clause-exact : goal.returns-in_default-information-clause-exact
returns-in_default-information-clause-exact c n ids =
    let h : Holds kinds.Media (box_container (box_seen c.args.mdia)) c.into_iter-child-iterator.result = rw c.into_iter-child-iterator.ensures.into_iter_gives c.in_ok-child-items.ensures.holds in
    absurd (media_no_information (box_seen c.args.mdia) _ c.loop-child.child-iterator c.loop-child.header c.loop-child.handler _ c.loop-child.information h c.loop-child.invariant.2 c.in-None.ensures.steps.0 (search rules))

pub returns-clause-exact : goal.returns-clause-exact
returns-clause-exact c n ids =
    let held = list_holds (suc (suc (suc n))) ids kinds.Media (box_seen c.args.mdia) c.into_iter-child-iterator.result (rw c.into_iter-child-iterator.ensures.into_iter_gives c.in_ok-child-items.ensures.exact.same) in
    record { names = held ∙ fault_all _ _ _ (c.loop-child.invariant.3 n ids) c.in-None.ensures.steps.0 }
