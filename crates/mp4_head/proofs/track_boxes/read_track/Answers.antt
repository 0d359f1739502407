use Rattle.std.proofs.Common.{◌≡◌, ℕ, suc, subst, [], ◌∷◌, ◌++◌, true, false, map, ap, sym, ◌∙◌, rules}
use Rattle.std.specs.Prelude.{codes, bytes_eq}
use Rattle.std.proofs.lemmas.List.{map-append}
use Rattle.std.proofs.lemmas.Result.{err_from_is_err_and}
use Rattle.mp4_boxes.specs.format.Box.{box_container}
use Rattle.mp4_boxes.specs.format.Children.{Holds, is_among, kept_kinds}
use Rattle.mp4_boxes.specs.words.View.{box_seen}
use Rattle.mp4_boxes.specs.declared.rule.Rule.TheVariants as kinds
use Rattle.mp4_head.specs.format.Head as heads
use Rattle.mp4_head.specs.words.Seen.{kept_seen}
use Rattle.std.specs.BTreeSet.{BTreeSet}
use Rattle.mp4_boxes.specs.format.BoxFaults.{fault_of}
use Rattle.mp4_boxes.specs.declared.fault.Kind.TheVariants.{ItemLocation}
use Rattle.mp4_head.specs.words.Ids.{HasIds}
use Rattle.mp4_head.proofs.FaultWalks.{fault_none, fault_more, fault_here, refused_here, fault_all, list_fails, list_holds}
use Rattle.mp4_head.proofs.IdsJudged.{tkhd_fault, edts_fault, mdia_fault, kept_in_track, track_pass, placed, unplaced}
use Rattle.mp4_head.proofs.TrackBoxes.{track_none, track_header, track_edits, track_kept, track_media, track_other, track_said, track_added, track_no_header, track_no_media, ids_before}
use Rattle.mp4_head.proofs.track_boxes.read_track.Goals.{in_default-via-in-Some+in_default, in_default-via-in_default}
use Rattle.mp4_head.proofs.track_boxes.read_track.Goals as goal

pub loop-child-init : goal.loop-child-init
loop-child-init c = (tt, tt, rw (c.new-edits.ensures.items, c.new-kept.ensures.items) (track_none _ _), λ n numbers has. fault_none _ _)

pub loop-child-preserved-then-is : goal.loop-child-preserved-then-is
loop-child-preserved-then-is c =
    let h0 : Holds kinds.Track (box_container (box_seen c.args.trak)) c.into_iter-child-iterator.result = rw c.into_iter-child-iterator.ensures.into_iter_gives c.in_ok-child-items.ensures.holds in
    let k0 : bytes_eq (codes "tkhd") (box_seen c.in-Some.child).kind ≡ true = sym c.is.ensures ∙ c.if-is.true in
    let h : Holds kinds.Track (box_container (box_seen c.args.trak)) c.into_iter-child-iterator.result = rw c.into_iter-child-iterator.ensures.into_iter_gives c.in_ok-child-items.ensures.holds in
    let k : bytes_eq (codes "tkhd") (box_seen c.in-Some.child).kind ≡ true = sym c.is.ensures ∙ c.if-is.true in (
      tt,
      tt,
      track_header (box_seen c.args.trak) _ _ c.loop-child.child-iterator c.next.new.self (box_seen c.in-Some.child) _ _ _ _ _ h c.loop-child.invariant.2 c.in-Some.ensures.steps _ _ k c.in_ok-read_new_track_header.ensures.sound
          (record { says = c.in_ok-read_new_track_header.ensures.says; offset = c.offset.ensures }) c.in_ok-read_new_track_header.ensures.added,
      λ n numbers has. fault_more _ _ _ _ _ (c.loop-child.invariant.3 n numbers has) c.in-Some.ensures.steps (λ before is. tkhd_fault (suc (suc (suc (suc n)))) numbers (box_seen c.args.trak) before (box_seen c.in-Some.child) k0
          ∙ (c.in_ok-read_new_track_header.ensures.exact numbers (subst (λ (s : BTreeSet ℕ). HasIds s numbers) (sym (ids_before (box_seen c.args.trak) _ _ c.loop-child.child-iterator c.next.new.self (box_seen c.in-Some.child) _ _ _ _ _ h0 c.loop-child.invariant.2 c.in-Some.ensures.steps k0))
          has)).names),
    )

pub loop-child-preserved-then-is-2 : goal.loop-child-preserved-then-is-2
loop-child-preserved-then-is-2 c =
    let k1 : bytes_eq (codes "edts") (box_seen c.in-Some.child).kind ≡ true = sym c.is-else-is.ensures ∙ c.if-is-2.true in
    let h : Holds kinds.Track (box_container (box_seen c.args.trak)) c.into_iter-child-iterator.result = rw c.into_iter-child-iterator.ensures.into_iter_gives c.in_ok-child-items.ensures.holds in
    let k : bytes_eq (codes "edts") (box_seen c.in-Some.child).kind ≡ true = sym c.is-else-is.ensures ∙ c.if-is-2.true in (
      tt,
      tt,
      track_edits (box_seen c.args.trak) _ _ c.loop-child.child-iterator c.next.new.self (box_seen c.in-Some.child) _ _ _ _ _ h c.loop-child.invariant.2 c.in-Some.ensures.steps _ k c.in_ok-edits.ensures.edits,
      λ n numbers has. fault_more _ _ _ _ _ (c.loop-child.invariant.3 n numbers has) c.in-Some.ensures.steps (λ before is. edts_fault (suc (suc (suc (suc n)))) numbers (box_seen c.args.trak) before (box_seen c.in-Some.child) k1 ∙ (c.in_ok-edits.ensures.exact (suc (suc (suc n))) numbers).names),
    )

pub loop-child-preserved-in_ok-push : goal.loop-child-preserved-in_ok-push
loop-child-preserved-in_ok-push c =
    let k2 : is_among (kept_kinds kinds.Track) (box_seen c.in-Some.child).kind ≡ true = sym c.is_kept.ensures ∙ c.if-is_kept.true in
    let h : Holds kinds.Track (box_container (box_seen c.args.trak)) c.into_iter-child-iterator.result = rw c.into_iter-child-iterator.ensures.into_iter_gives c.in_ok-child-items.ensures.holds in
    let n0 : bytes_eq (codes "tkhd") (box_seen c.in-Some.child).kind ≡ false = sym c.is.ensures ∙ c.if-is.false in
    let n1 : bytes_eq (codes "edts") (box_seen c.in-Some.child).kind ≡ false = sym c.is-else-is.ensures ∙ c.if-is-2.false in
    let k : is_among (kept_kinds kinds.Track) (box_seen c.in-Some.child).kind ≡ true = sym c.is_kept.ensures ∙ c.if-is_kept.true in (
      tt,
      tt,
      track_kept (box_seen c.args.trak) _ _ c.loop-child.child-iterator c.next.new.self (box_seen c.in-Some.child) _ _ _ _ _ h c.loop-child.invariant.2 c.in-Some.ensures.steps _ n0 n1 k c.in_ok-keep_unplaced.ensures.unplaced
          (ap (map kept_seen) c.in_ok-push.ensures.items ∙ map-append kept_seen c.loop-child.kept.items (c.in_ok-keep_unplaced.field-0 ∷ []) ∙ ap (λ (x : heads.Kept). map kept_seen c.loop-child.kept.items ++ x ∷ []) c.in_ok-keep_unplaced.ensures.kept),
      λ n numbers has. fault_more _ _ _ _ _ (c.loop-child.invariant.3 n numbers has) c.in-Some.ensures.steps (λ before is. kept_in_track (suc (suc (suc (suc n)))) numbers (box_seen c.args.trak) before (box_seen c.in-Some.child) k2 ∙ unplaced _ _ c.in_ok-keep_unplaced.ensures.unplaced),
    )

pub loop-child-preserved-then-is-3 : goal.loop-child-preserved-then-is-3
loop-child-preserved-then-is-3 c =
    let k3 : bytes_eq (codes "mdia") (box_seen c.in-Some.child).kind ≡ true = sym c.is-else-is_kept.ensures ∙ c.if-is-3.true in
    let h : Holds kinds.Track (box_container (box_seen c.args.trak)) c.into_iter-child-iterator.result = rw c.into_iter-child-iterator.ensures.into_iter_gives c.in_ok-child-items.ensures.holds in
    let n0 : bytes_eq (codes "tkhd") (box_seen c.in-Some.child).kind ≡ false = sym c.is.ensures ∙ c.if-is.false in
    let n1 : bytes_eq (codes "edts") (box_seen c.in-Some.child).kind ≡ false = sym c.is-else-is.ensures ∙ c.if-is-2.false in
    let n2 : is_among (kept_kinds kinds.Track) (box_seen c.in-Some.child).kind ≡ false = sym c.is_kept.ensures ∙ c.if-is_kept.false in
    let k : bytes_eq (codes "mdia") (box_seen c.in-Some.child).kind ≡ true = sym c.is-else-is_kept.ensures ∙ c.if-is-3.true in (
      tt,
      tt,
      track_media (box_seen c.args.trak) _ _ c.loop-child.child-iterator c.next.new.self (box_seen c.in-Some.child) _ _ _ _ _ h c.loop-child.invariant.2 c.in-Some.ensures.steps _ n0 n1 n2 k (record { says = c.in_ok-read_media.ensures.says }),
      λ n numbers has. fault_more _ _ _ _ _ (c.loop-child.invariant.3 n numbers has) c.in-Some.ensures.steps (λ before is. mdia_fault (suc (suc (suc (suc n)))) numbers (box_seen c.args.trak) before (box_seen c.in-Some.child) k3 ∙ (c.in_ok-read_media.ensures.exact n numbers).names),
    )

pub loop-child-preserved : goal.loop-child-preserved
loop-child-preserved c =
    let m0 : bytes_eq (codes "tkhd") (box_seen c.in-Some.child).kind ≡ false = sym c.is.ensures ∙ c.if-is.false in
    let m1 : bytes_eq (codes "edts") (box_seen c.in-Some.child).kind ≡ false = sym c.is-else-is.ensures ∙ c.if-is-2.false in
    let m2 : is_among (kept_kinds kinds.Track) (box_seen c.in-Some.child).kind ≡ false = sym c.is_kept.ensures ∙ c.if-is_kept.false in
    let m3 : bytes_eq (codes "mdia") (box_seen c.in-Some.child).kind ≡ false = sym c.is-else-is_kept.ensures ∙ c.if-is-3.false in
    let h : Holds kinds.Track (box_container (box_seen c.args.trak)) c.into_iter-child-iterator.result = rw c.into_iter-child-iterator.ensures.into_iter_gives c.in_ok-child-items.ensures.holds in
    let n0 : bytes_eq (codes "tkhd") (box_seen c.in-Some.child).kind ≡ false = sym c.is.ensures ∙ c.if-is.false in
    let n1 : bytes_eq (codes "edts") (box_seen c.in-Some.child).kind ≡ false = sym c.is-else-is.ensures ∙ c.if-is-2.false in
    let n2 : is_among (kept_kinds kinds.Track) (box_seen c.in-Some.child).kind ≡ false = sym c.is_kept.ensures ∙ c.if-is_kept.false in
    let n3 : bytes_eq (codes "mdia") (box_seen c.in-Some.child).kind ≡ false = sym c.is-else-is_kept.ensures ∙ c.if-is-3.false in (
      tt,
      tt,
      track_other (box_seen c.args.trak) _ _ c.loop-child.child-iterator c.next.new.self (box_seen c.in-Some.child) _ _ _ _ _ h c.loop-child.invariant.2 c.in-Some.ensures.steps n0 n1 n2 n3,
      λ n numbers has. fault_more _ _ _ _ _ (c.loop-child.invariant.3 n numbers has) c.in-Some.ensures.steps (λ before is. track_pass (suc (suc (suc (suc n)))) numbers (box_seen c.args.trak) before (box_seen c.in-Some.child) m0 m1 m2 m3),
    )

pub returns-clause-says : goal.returns-clause-says
returns-clause-says c =
    let h : Holds kinds.Track (box_container (box_seen c.args.trak)) c.into_iter-child-iterator.result = rw c.into_iter-child-iterator.ensures.into_iter_gives c.in_ok-child-items.ensures.holds in
    track_said (box_seen c.args.trak) _ _ c.loop-child.child-iterator _ c.loop-child.header _ _ c.loop-child.media (c.in-Some-Some.header, c.in-Some-Some.offset) c.in-Some-Some.media h c.loop-child.invariant.2 c.in-None.ensures.steps.0 (search rules) (search rules)
    _ _ _ c.head_of.ensures.head c.head_of.ensures.stbl c.head_of.ensures.offset

pub returns-clause-added : goal.returns-clause-added
returns-clause-added c = track_added _ _ c.loop-child.child-iterator _ c.loop-child.header _ _ c.loop-child.media (c.in-Some-Some.header, c.in-Some-Some.offset) c.loop-child.invariant.2 (search rules) _ (ap (λ (t : heads.TrackHead). t.id) c.head_of.ensures.head)

-- ---- the first fault

pub returns-in_err-child-items-clause-exact : goal.returns-in_err-child-items-clause-exact
returns-in_err-child-items-clause-exact c n numbers has =
    let p = err_from_is_err_and c.from_residual.result c.from_residual.ensures.1 in
    record { names = rw (p.1, p.2) (list_fails (suc (suc (suc (suc n)))) numbers kinds.Track (box_seen c.args.trak) c.in_err-child-items.field-0.0 c.in_err-child-items.ensures.exact.same) }

pub returns-in_err-read_new_track_header-clause-exact : goal.returns-in_err-read_new_track_header-clause-exact
returns-in_err-read_new_track_header-clause-exact c n numbers has =
    let p = err_from_is_err_and c.from_residual-in_err-read_new_track_header.result c.from_residual-in_err-read_new_track_header.ensures.1 in
    let h0 : Holds kinds.Track (box_container (box_seen c.args.trak)) c.into_iter-child-iterator.result = rw c.into_iter-child-iterator.ensures.into_iter_gives c.in_ok-child-items.ensures.holds in
    let k0 : bytes_eq (codes "tkhd") (box_seen c.in-Some.child).kind ≡ true = sym c.is.ensures ∙ c.if-is.true in
    let held = list_holds (suc (suc (suc (suc n)))) numbers kinds.Track (box_seen c.args.trak) c.into_iter-child-iterator.result (rw c.into_iter-child-iterator.ensures.into_iter_gives c.in_ok-child-items.ensures.exact.same) in
    record {
      names = rw (
        p.1,
        p.2,
      ) (refused_here _ _ _ _ _ _ _ c.in_err-read_new_track_header.field-0.0 (c.loop-child.invariant.3 n numbers has) c.in-Some.ensures.steps (λ before is. tkhd_fault (suc (suc (suc (suc n)))) numbers (box_seen c.args.trak) before (box_seen c.in-Some.child) k0) held
          (c.in_err-read_new_track_header.ensures.exact numbers (subst (λ (s : BTreeSet ℕ). HasIds s numbers) (sym (ids_before (box_seen c.args.trak) _ _ c.loop-child.child-iterator c.next.new.self (box_seen c.in-Some.child) _ _ _ _ _ h0 c.loop-child.invariant.2 c.in-Some.ensures.steps k0))
          has)).names);
    }

pub returns-in_err-edits-clause-exact : goal.returns-in_err-edits-clause-exact
returns-in_err-edits-clause-exact c n numbers has =
    let p = err_from_is_err_and c.from_residual-in_err-edits.result c.from_residual-in_err-edits.ensures.1 in
    let k1 : bytes_eq (codes "edts") (box_seen c.in-Some.child).kind ≡ true = sym c.is-else-is.ensures ∙ c.if-is-2.true in
    let held = list_holds (suc (suc (suc (suc n)))) numbers kinds.Track (box_seen c.args.trak) c.into_iter-child-iterator.result (rw c.into_iter-child-iterator.ensures.into_iter_gives c.in_ok-child-items.ensures.exact.same) in
    record {
      names = rw (
        p.1,
        p.2,
      ) (refused_here _ _ _ _ _ _ _ c.in_err-edits.field-0.0 (c.loop-child.invariant.3 n numbers has) c.in-Some.ensures.steps (λ before is. edts_fault (suc (suc (suc (suc n)))) numbers (box_seen c.args.trak) before (box_seen c.in-Some.child) k1) held
          (c.in_err-edits.ensures.exact (suc (suc (suc n))) numbers).names);
    }

pub returns-in_err-keep_unplaced-clause-exact : goal.returns-in_err-keep_unplaced-clause-exact
returns-in_err-keep_unplaced-clause-exact c n numbers has =
    let p = err_from_is_err_and c.from_residual-in_err-keep_unplaced.result c.from_residual-in_err-keep_unplaced.ensures.1 in
    let k2 : is_among (kept_kinds kinds.Track) (box_seen c.in-Some.child).kind ≡ true = sym c.is_kept.ensures ∙ c.if-is_kept.true in
    let held = list_holds (suc (suc (suc (suc n)))) numbers kinds.Track (box_seen c.args.trak) c.into_iter-child-iterator.result (rw c.into_iter-child-iterator.ensures.into_iter_gives c.in_ok-child-items.ensures.exact.same) in
    record {
      names = rw (p.1, p.2, c.in_err-keep_unplaced.ensures.fault) (held
          ∙ fault_here _ _ _ _ _ (fault_of ItemLocation (box_seen c.in-Some.child)) (c.loop-child.invariant.3 n numbers has) c.in-Some.ensures.steps (λ before is. kept_in_track (suc (suc (suc (suc n)))) numbers (box_seen c.args.trak) before (box_seen c.in-Some.child) k2
          ∙ placed _ _ c.in_err-keep_unplaced.ensures.names));
    }

pub returns-in_err-read_media-clause-exact : goal.returns-in_err-read_media-clause-exact
returns-in_err-read_media-clause-exact c n numbers has =
    let p = err_from_is_err_and c.from_residual-in_err-read_media.result c.from_residual-in_err-read_media.ensures.1 in
    let k3 : bytes_eq (codes "mdia") (box_seen c.in-Some.child).kind ≡ true = sym c.is-else-is_kept.ensures ∙ c.if-is-3.true in
    let held = list_holds (suc (suc (suc (suc n)))) numbers kinds.Track (box_seen c.args.trak) c.into_iter-child-iterator.result (rw c.into_iter-child-iterator.ensures.into_iter_gives c.in_ok-child-items.ensures.exact.same) in
    record {
      names = rw (
        p.1,
        p.2,
      ) (refused_here _ _ _ _ _ _ _ c.in_err-read_media.field-0.0 (c.loop-child.invariant.3 n numbers has) c.in-Some.ensures.steps (λ before is. mdia_fault (suc (suc (suc (suc n)))) numbers (box_seen c.args.trak) before (box_seen c.in-Some.child) k3) held
          (c.in_err-read_media.ensures.exact n numbers).names);
    }

pub returns-in_default-clause-exact : goal.returns-in_default-clause-exact
returns-in_default-clause-exact c n numbers has =
    let h : Holds kinds.Track (box_container (box_seen c.args.trak)) c.into_iter-child-iterator.result = rw c.into_iter-child-iterator.ensures.into_iter_gives c.in_ok-child-items.ensures.holds in
    elim c.in_default.branch [
      | in_default-via-in-Some+in_default w ↦ absurd (track_no_media (box_seen c.args.trak) _ _ c.loop-child.child-iterator _ c.loop-child.header _ _ c.loop-child.media h c.loop-child.invariant.2 c.in-None.ensures.steps.0 w.in_default.is-1)
      | in_default-via-in_default w ↦ absurd (track_no_header (box_seen c.args.trak) _ _ c.loop-child.child-iterator _ c.loop-child.header _ _ c.loop-child.media h c.loop-child.invariant.2 c.in-None.ensures.steps.0 w.in_default.is-0)
    ]

pub returns-clause-exact : goal.returns-clause-exact
returns-clause-exact c n numbers has =
    let held = list_holds (suc (suc (suc (suc n)))) numbers kinds.Track (box_seen c.args.trak) c.into_iter-child-iterator.result (rw c.into_iter-child-iterator.ensures.into_iter_gives c.in_ok-child-items.ensures.exact.same) in
    record { names = held ∙ fault_all _ _ _ (c.loop-child.invariant.3 n numbers has) c.in-None.ensures.steps.0 }
