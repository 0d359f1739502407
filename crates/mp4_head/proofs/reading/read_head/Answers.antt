use Rattle.mp4_head.proofs.JudgedLeaves.{leaf_sound}
use Rattle.mp4_boxes.specs.format.Layout.{mvhd}
use Rattle.std.proofs.Common.{◌≡◌, suc, Option, subst, [], ◌∷◌, ◌++◌, true, false, map, ap, sym, ◌∙◌, rules}
use Rattle.std.specs.Prelude.{codes, bytes_eq}
use Rattle.std.proofs.lemmas.List.{map-append}
use Rattle.std.proofs.lemmas.Result.{err_from_is_err_and}
use Rattle.mp4_boxes.specs.format.Box.{box_container}
use Rattle.mp4_boxes.specs.format.Children.{Holds, of_kind, is_among, kept_kinds}
use Rattle.mp4_boxes.specs.words.View.{box_seen}
use Rattle.mp4_boxes.specs.declared.rule.Rule.TheVariants as kinds
use Rattle.mp4_head.specs.format.Head as heads
use Rattle.mp4_head.specs.words.Seen.{kept_seen}
use Rattle.mp4_boxes.specs.format.BoxFaults.{fault_of}
use Rattle.mp4_boxes.specs.declared.fault.Fault.{Fault}
use Rattle.mp4_boxes.specs.declared.fault.Kind.TheVariants.{ItemLocation}
use Rattle.mp4_head.specs.format.FirstFault.{track_id_of}
use Rattle.mp4_head.specs.words.FaultNamed.{RefusesFirst}
use Rattle.mp4_head.proofs.FaultWalks.{fault_none, fault_more, fault_here, refused_with, fault_all, list_fails, list_holds}
use Rattle.mp4_head.proofs.IdsJudged.{placed, unplaced}
use Rattle.mp4_head.proofs.MovieJudged.{ids_behind_are, mvhd_fault, trak_fault, mvex_fault, kept_in_movie, movie_pass}
use Rattle.mp4_head.proofs.MovieBoxes.{movie_none, movie_header, movie_kept, movie_track, movie_extends, movie_other, movie_said, movie_no_header, said_inside}
use Rattle.mp4_head.proofs.reading.read_head.Goals as goal

pub loop-child-init : goal.loop-child-init
loop-child-init c = (tt, tt, rw (c.new-kept.ensures.items, c.new-tracks.ensures.items, c.new-trexes.ensures.items) (movie_none _ _ c.new-ids.ensures.empty), λ n. fault_none _ _)

pub loop-child-preserved-then-is : goal.loop-child-preserved-then-is
loop-child-preserved-then-is c =
    let k0 : bytes_eq (codes "mvhd") (box_seen c.in-Some.child).kind ≡ true = sym c.is.ensures ∙ c.if-is.true in
    let h : Holds kinds.Movie (box_container (box_seen c.args.moov)) c.into_iter-child-iterator.result = rw c.into_iter-child-iterator.ensures.into_iter_gives c.in_ok-child-items.ensures.holds in
    let k : bytes_eq (codes "mvhd") (box_seen c.in-Some.child).kind ≡ true = sym c.is.ensures ∙ c.if-is.true in (
      tt,
      tt,
      movie_header (box_seen c.args.moov) _ c.loop-child.child-iterator c.next.new.self (box_seen c.in-Some.child) _ _ _ _ _ h c.loop-child.invariant.2 c.in-Some.ensures.steps _ k
          (leaf_sound mvhd (box_seen c.in-Some.child) c.in_ok-read_movie_header.ensures.exact) c.in_ok-read_movie_header.ensures.says,
      λ n. fault_more _ _ _ _ _ (c.loop-child.invariant.3 n) c.in-Some.ensures.steps (λ before is. mvhd_fault (suc (suc (suc (suc (suc n))))) (box_seen c.args.moov) before (box_seen c.in-Some.child) k0 ∙ c.in_ok-read_movie_header.ensures.exact),
    )

pub loop-child-preserved-in_ok-push : goal.loop-child-preserved-in_ok-push
loop-child-preserved-in_ok-push c =
    let k1 : is_among (kept_kinds kinds.Movie) (box_seen c.in-Some.child).kind ≡ true = sym c.is_kept.ensures ∙ c.if-is_kept.true in
    let h : Holds kinds.Movie (box_container (box_seen c.args.moov)) c.into_iter-child-iterator.result = rw c.into_iter-child-iterator.ensures.into_iter_gives c.in_ok-child-items.ensures.holds in
    let n0 : bytes_eq (codes "mvhd") (box_seen c.in-Some.child).kind ≡ false = sym c.is.ensures ∙ c.if-is.false in
    let k : is_among (kept_kinds kinds.Movie) (box_seen c.in-Some.child).kind ≡ true = sym c.is_kept.ensures ∙ c.if-is_kept.true in (
      tt,
      tt,
      movie_kept (box_seen c.args.moov) _ c.loop-child.child-iterator c.next.new.self (box_seen c.in-Some.child) _ _ _ _ _ h c.loop-child.invariant.2 c.in-Some.ensures.steps _ n0 k c.in_ok-keep_unplaced.ensures.unplaced
          (ap (map kept_seen) c.in_ok-push.ensures.items ∙ map-append kept_seen c.loop-child.kept.items (c.in_ok-keep_unplaced.field-0 ∷ []) ∙ ap (λ (x : heads.Kept). map kept_seen c.loop-child.kept.items ++ x ∷ []) c.in_ok-keep_unplaced.ensures.kept),
      λ n. fault_more _ _ _ _ _ (c.loop-child.invariant.3 n) c.in-Some.ensures.steps (λ before is. kept_in_movie (suc (suc (suc (suc (suc n))))) (box_seen c.args.moov) before (box_seen c.in-Some.child) k1 ∙ unplaced _ _ c.in_ok-keep_unplaced.ensures.unplaced),
    )

pub loop-child-preserved-in_ok-push-2 : goal.loop-child-preserved-in_ok-push-2
loop-child-preserved-in_ok-push-2 c =
    let k2 : bytes_eq (codes "trak") (box_seen c.in-Some.child).kind ≡ true = sym c.is-else-is_kept.ensures ∙ c.if-is-2.true in
    let h : Holds kinds.Movie (box_container (box_seen c.args.moov)) c.into_iter-child-iterator.result = rw c.into_iter-child-iterator.ensures.into_iter_gives c.in_ok-child-items.ensures.holds in
    let n0 : bytes_eq (codes "mvhd") (box_seen c.in-Some.child).kind ≡ false = sym c.is.ensures ∙ c.if-is.false in
    let n1 : is_among (kept_kinds kinds.Movie) (box_seen c.in-Some.child).kind ≡ false = sym c.is_kept.ensures ∙ c.if-is_kept.false in
    let k : bytes_eq (codes "trak") (box_seen c.in-Some.child).kind ≡ true = sym c.is-else-is_kept.ensures ∙ c.if-is-2.true in (
      tt,
      tt,
      movie_track (box_seen c.args.moov) _ c.loop-child.child-iterator c.next.new.self (box_seen c.in-Some.child) _ _ _ _ _ h c.loop-child.invariant.2 c.in-Some.ensures.steps _ c.in_ok-read_track.field-0 _ n0 n1 k (record { says = c.in_ok-read_track.ensures.says })
          c.in_ok-read_track.ensures.added c.in_ok-push-2.ensures.items,
      λ n. fault_more _ _ _ _ _ (c.loop-child.invariant.3 n) c.in-Some.ensures.steps (λ before is. trak_fault (suc (suc (suc (suc (suc n))))) (box_seen c.args.moov) before (box_seen c.in-Some.child) k2
          ∙ (c.in_ok-read_track.ensures.exact n (map track_id_of (of_kind (codes "trak") before)) (ids_behind_are _ c.loop-child.child-iterator c.next.new.self (box_seen c.in-Some.child) _ _ _ _ _ before c.loop-child.invariant.2 c.in-Some.ensures.steps is)).names),
    )

pub loop-child-preserved-then-is-3 : goal.loop-child-preserved-then-is-3
loop-child-preserved-then-is-3 c =
    let k3 : bytes_eq (codes "mvex") (box_seen c.in-Some.child).kind ≡ true = sym c.is-else-is-2.ensures ∙ c.if-is-3.true in
    let h : Holds kinds.Movie (box_container (box_seen c.args.moov)) c.into_iter-child-iterator.result = rw c.into_iter-child-iterator.ensures.into_iter_gives c.in_ok-child-items.ensures.holds in
    let n0 : bytes_eq (codes "mvhd") (box_seen c.in-Some.child).kind ≡ false = sym c.is.ensures ∙ c.if-is.false in
    let n1 : is_among (kept_kinds kinds.Movie) (box_seen c.in-Some.child).kind ≡ false = sym c.is_kept.ensures ∙ c.if-is_kept.false in
    let n2 : bytes_eq (codes "trak") (box_seen c.in-Some.child).kind ≡ false = sym c.is-else-is_kept.ensures ∙ c.if-is-2.false in
    let k : bytes_eq (codes "mvex") (box_seen c.in-Some.child).kind ≡ true = sym c.is-else-is-2.ensures ∙ c.if-is-3.true in (
      tt,
      tt,
      movie_extends (box_seen c.args.moov) _ c.loop-child.child-iterator c.next.new.self (box_seen c.in-Some.child) _ _ _ _ _ h c.loop-child.invariant.2 c.in-Some.ensures.steps _ n0 n1 n2 k c.in_ok-trexes.ensures.says,
      λ n. fault_more _ _ _ _ _ (c.loop-child.invariant.3 n) c.in-Some.ensures.steps (λ before is. mvex_fault (suc (suc (suc (suc (suc n))))) (box_seen c.args.moov) before (box_seen c.in-Some.child) k3
          ∙ (c.in_ok-trexes.ensures.exact (suc (suc (suc (suc n)))) (map track_id_of (of_kind (codes "trak") before))).names),
    )

pub loop-child-preserved : goal.loop-child-preserved
loop-child-preserved c =
    let m0 : bytes_eq (codes "mvhd") (box_seen c.in-Some.child).kind ≡ false = sym c.is.ensures ∙ c.if-is.false in
    let m1 : is_among (kept_kinds kinds.Movie) (box_seen c.in-Some.child).kind ≡ false = sym c.is_kept.ensures ∙ c.if-is_kept.false in
    let m2 : bytes_eq (codes "trak") (box_seen c.in-Some.child).kind ≡ false = sym c.is-else-is_kept.ensures ∙ c.if-is-2.false in
    let m3 : bytes_eq (codes "mvex") (box_seen c.in-Some.child).kind ≡ false = sym c.is-else-is-2.ensures ∙ c.if-is-3.false in
    let h : Holds kinds.Movie (box_container (box_seen c.args.moov)) c.into_iter-child-iterator.result = rw c.into_iter-child-iterator.ensures.into_iter_gives c.in_ok-child-items.ensures.holds in
    let n0 : bytes_eq (codes "mvhd") (box_seen c.in-Some.child).kind ≡ false = sym c.is.ensures ∙ c.if-is.false in
    let n1 : is_among (kept_kinds kinds.Movie) (box_seen c.in-Some.child).kind ≡ false = sym c.is_kept.ensures ∙ c.if-is_kept.false in
    let n2 : bytes_eq (codes "trak") (box_seen c.in-Some.child).kind ≡ false = sym c.is-else-is_kept.ensures ∙ c.if-is-2.false in
    let n3 : bytes_eq (codes "mvex") (box_seen c.in-Some.child).kind ≡ false = sym c.is-else-is-2.ensures ∙ c.if-is-3.false in (
      tt,
      tt,
      movie_other (box_seen c.args.moov) _ c.loop-child.child-iterator c.next.new.self (box_seen c.in-Some.child) _ _ _ _ _ h c.loop-child.invariant.2 c.in-Some.ensures.steps n0 n1 n2 n3,
      λ n. fault_more _ _ _ _ _ (c.loop-child.invariant.3 n) c.in-Some.ensures.steps (λ before is. movie_pass (suc (suc (suc (suc (suc n))))) (box_seen c.args.moov) before (box_seen c.in-Some.child) m0 m1 m2 m3),
    )

pub returns-clause-head : goal.returns-clause-head
returns-clause-head c =
    let h : Holds kinds.Movie (box_container (box_seen c.args.moov)) c.into_iter-child-iterator.result = rw c.into_iter-child-iterator.ensures.into_iter_gives c.in_ok-child-items.ensures.holds in
    movie_said (box_seen c.args.moov) _ c.loop-child.child-iterator c.loop-child.header c.in-Some-header.header _ _ _ _ c.head_of.result h c.loop-child.invariant.2 c.in-None.ensures.steps.0 (search rules) c.head_of.ensures.movie c.head_of.ensures.tracks c.head_of.ensures.trexes

pub returns-clause-inside : goal.returns-clause-inside
returns-clause-inside c =
    let h : Holds kinds.Movie (box_container (box_seen c.args.moov)) c.into_iter-child-iterator.result = rw c.into_iter-child-iterator.ensures.into_iter_gives c.in_ok-child-items.ensures.holds in
    said_inside (box_seen c.args.moov) c.head_of.result
    (movie_said (box_seen c.args.moov) _ c.loop-child.child-iterator c.loop-child.header c.in-Some-header.header _ _ _ _ c.head_of.result h c.loop-child.invariant.2 c.in-None.ensures.steps.0 (search rules) c.head_of.ensures.movie c.head_of.ensures.tracks c.head_of.ensures.trexes)

-- ---- the first fault

pub returns-in_err-child-items-clause-exact : goal.returns-in_err-child-items-clause-exact
returns-in_err-child-items-clause-exact c n =
    let p = err_from_is_err_and c.from_residual.result c.from_residual.ensures.1 in
    record { names = rw (p.1, p.2) (list_fails (suc (suc (suc (suc (suc n))))) [] kinds.Movie (box_seen c.args.moov) c.in_err-child-items.field-0.0 c.in_err-child-items.ensures.exact.same) }

pub returns-in_err-read_movie_header-clause-exact : goal.returns-in_err-read_movie_header-clause-exact
returns-in_err-read_movie_header-clause-exact c n =
    let p = err_from_is_err_and c.from_residual-in_err-read_movie_header.result c.from_residual-in_err-read_movie_header.ensures.1 in
    let k0 : bytes_eq (codes "mvhd") (box_seen c.in-Some.child).kind ≡ true = sym c.is.ensures ∙ c.if-is.true in
    let held = list_holds (suc (suc (suc (suc (suc n))))) [] kinds.Movie (box_seen c.args.moov) c.into_iter-child-iterator.result (rw c.into_iter-child-iterator.ensures.into_iter_gives c.in_ok-child-items.ensures.exact.same) in
    record {
      names = rw (p.1, p.2) (held ∙ fault_here _ _ _ _ _ c.in_err-read_movie_header.field-0.0 (c.loop-child.invariant.3 n) c.in-Some.ensures.steps (λ before is. mvhd_fault (suc (suc (suc (suc (suc n))))) (box_seen c.args.moov) before (box_seen c.in-Some.child) k0
          ∙ c.in_err-read_movie_header.ensures.exact));
    }

pub returns-in_err-keep_unplaced-clause-exact : goal.returns-in_err-keep_unplaced-clause-exact
returns-in_err-keep_unplaced-clause-exact c n =
    let p = err_from_is_err_and c.from_residual-in_err-keep_unplaced.result c.from_residual-in_err-keep_unplaced.ensures.1 in
    let k1 : is_among (kept_kinds kinds.Movie) (box_seen c.in-Some.child).kind ≡ true = sym c.is_kept.ensures ∙ c.if-is_kept.true in
    let held = list_holds (suc (suc (suc (suc (suc n))))) [] kinds.Movie (box_seen c.args.moov) c.into_iter-child-iterator.result (rw c.into_iter-child-iterator.ensures.into_iter_gives c.in_ok-child-items.ensures.exact.same) in
    record {
      names = rw (p.1, p.2, c.in_err-keep_unplaced.ensures.fault) (held
          ∙ fault_here _ _ _ _ _ (fault_of ItemLocation (box_seen c.in-Some.child)) (c.loop-child.invariant.3 n) c.in-Some.ensures.steps (λ before is. kept_in_movie (suc (suc (suc (suc (suc n))))) (box_seen c.args.moov) before (box_seen c.in-Some.child) k1
          ∙ placed _ _ c.in_err-keep_unplaced.ensures.names));
    }

pub returns-in_err-read_track-clause-exact : goal.returns-in_err-read_track-clause-exact
returns-in_err-read_track-clause-exact c n =
    let p = err_from_is_err_and c.from_residual-in_err-read_track.result c.from_residual-in_err-read_track.ensures.1 in
    let k2 : bytes_eq (codes "trak") (box_seen c.in-Some.child).kind ≡ true = sym c.is-else-is_kept.ensures ∙ c.if-is-2.true in
    let held = list_holds (suc (suc (suc (suc (suc n))))) [] kinds.Movie (box_seen c.args.moov) c.into_iter-child-iterator.result (rw c.into_iter-child-iterator.ensures.into_iter_gives c.in_ok-child-items.ensures.exact.same) in
    record {
      names = rw (
        p.1,
        p.2,
      ) (refused_with _ _ _ _ _ _ c.in_err-read_track.field-0.0 (c.loop-child.invariant.3 n) c.in-Some.ensures.steps held
          (λ before is. subst (λ (o : Option Fault). RefusesFirst o c.in_err-read_track.field-0.0) (sym (trak_fault (suc (suc (suc (suc (suc n))))) (box_seen c.args.moov) before (box_seen c.in-Some.child) k2))
          (c.in_err-read_track.ensures.exact n (map track_id_of (of_kind (codes "trak") before)) (ids_behind_are _ c.loop-child.child-iterator c.next.new.self (box_seen c.in-Some.child) _ _ _ _ _ before c.loop-child.invariant.2 c.in-Some.ensures.steps is)).names));
    }

pub returns-in_err-trexes-clause-exact : goal.returns-in_err-trexes-clause-exact
returns-in_err-trexes-clause-exact c n =
    let p = err_from_is_err_and c.from_residual-in_err-trexes.result c.from_residual-in_err-trexes.ensures.1 in
    let k3 : bytes_eq (codes "mvex") (box_seen c.in-Some.child).kind ≡ true = sym c.is-else-is-2.ensures ∙ c.if-is-3.true in
    let held = list_holds (suc (suc (suc (suc (suc n))))) [] kinds.Movie (box_seen c.args.moov) c.into_iter-child-iterator.result (rw c.into_iter-child-iterator.ensures.into_iter_gives c.in_ok-child-items.ensures.exact.same) in
    record {
      names = rw (
        p.1,
        p.2,
      ) (refused_with _ _ _ _ _ _ c.in_err-trexes.field-0.0 (c.loop-child.invariant.3 n) c.in-Some.ensures.steps held
          (λ before is. subst (λ (o : Option Fault). RefusesFirst o c.in_err-trexes.field-0.0) (sym (mvex_fault (suc (suc (suc (suc (suc n))))) (box_seen c.args.moov) before (box_seen c.in-Some.child) k3))
          (c.in_err-trexes.ensures.exact (suc (suc (suc (suc n)))) (map track_id_of (of_kind (codes "trak") before))).names));
    }

pub returns-in_default-clause-exact : goal.returns-in_default-clause-exact
returns-in_default-clause-exact c n =
    let h : Holds kinds.Movie (box_container (box_seen c.args.moov)) c.into_iter-child-iterator.result = rw c.into_iter-child-iterator.ensures.into_iter_gives c.in_ok-child-items.ensures.holds in
    absurd (movie_no_header (box_seen c.args.moov) _ c.loop-child.child-iterator c.loop-child.header _ _ _ _ h c.loop-child.invariant.2 c.in-None.ensures.steps.0 (search rules))

pub returns-clause-exact : goal.returns-clause-exact
returns-clause-exact c n =
    let held = list_holds (suc (suc (suc (suc (suc n))))) [] kinds.Movie (box_seen c.args.moov) c.into_iter-child-iterator.result (rw c.into_iter-child-iterator.ensures.into_iter_gives c.in_ok-child-items.ensures.exact.same) in
    record { names = held ∙ fault_all _ _ _ (c.loop-child.invariant.3 n) c.in-None.ensures.steps.0 }
