use Rattle.std.proofs.Common.{refl, true, false, Bool, is_none, ◌≡◌, ◌+◌, ◌-◌, ◌∙◌, ℕ, [], ◌∷◌, ◌++◌, None, Some, length, drop, sym, ap, subst, arith}
use Rattle.std.proofs.lemmas.Result.{err_from_is_err_and}
use Rattle.mp4_frag.specs.words.OwnTrafs.{traf_steps}
use Rattle.mp4_present.specs.words.SamplesComing.{Comes}
use Rattle.mp4_present.specs.words.GoingBack.{again_from}
use Rattle.mp4_present.specs.words.InHand.{left_in_hand}
use Rattle.mp4_present.specs.words.Movies.{IsWalkOf, mark_of, traf_box}
use Rattle.mp4_present.specs.words.WalkSteps.{MayTake}
use Rattle.mp4_present.specs.declared.walking.in_hand.InHand.{InHand}
use Rattle.mp4_present.specs.declared.walking.Mark.{Mark}
use Rattle.mp4_present.specs.declared.walking.Walk.{Walk}
use Rattle.mp4_present.proofs.GoneBack.{at_hand, comes_back, may_back, walk_back, marked_before, holds_marked, count_holds, few_passed, comes_again, takes_again, back_is, same_box}
use Rattle.mp4_present.proofs.WalkCopied.{hand_one}
use Rattle.mp4_present.proofs.WayThrough.{takes_then}
use Rattle.mp4_present.proofs.walking.Walk.go_back.Goals as goal
use Rattle.mp4_boxes.proofs.Plain.{get_some}

no_more : {b : Bool} → b ≡ false → b ≡ true → ⊥
no_more is_false is_true = cc

-- ---- what was in hand is at hand

pub returns-in_default-clause-walk : goal.returns-in_default-clause-walk
returns-in_default-clause-walk g c =
    let m = c.args.movie.now in
    let w = c.args.self.now in
    let none : again_from w ≡ None = sym c.again_from.ensures ∙ c.in_default.is in
    subst (λ (v : Walk). IsWalkOf m v) (sym (c.mark.ensures.mark ∙ ap (λ (v : Walk). record v { mark = mark_of v w.mark.to_come }) c.set_back.ensures)) (walk_back m w c.requires w.mark.to_come none)

pub returns-in_default-clause-back : goal.returns-in_default-clause-back
returns-in_default-clause-back g c told tree t begun samples o h k =
    let file = g.S.Store.file c.args.store.now in
    let m = c.args.movie.now in
    let w = c.args.self.now in
    let none : again_from w ≡ None = sym c.again_from.ensures ∙ c.in_default.is in
    let at = at_hand file m tree t begun w (length samples) h c.requires none in
    c.mark.ensures.coming file tree t m samples (subst (λ (v : Walk). Comes file tree t m v samples) (sym c.set_back.ensures) (comes_back file m tree t begun w (length samples) h c.requires at samples k))

pub returns-in_default-clause-work : goal.returns-in_default-clause-work
returns-in_default-clause-work g c told tree t begun to_come n o h may =
    let file = g.S.Store.file c.args.store.now in
    let m = c.args.movie.now in
    let w = c.args.self.now in
    let none : again_from w ≡ None = sym c.again_from.ensures ∙ c.in_default.is in
    let at = at_hand file m tree t begun w to_come h c.requires none in
    (n, c.mark.ensures.may file tree t n (subst (λ (v : Walk). MayTake file tree t v n) (sym c.set_back.ensures) (may_back file m tree t begun w to_come h c.requires at n may)), omega arith)

pub returns-in_default-clause-still : goal.returns-in_default-clause-still
returns-in_default-clause-still g c =
    let w = c.args.self.now in (
      (λ _. (refl, refl, refl, c.mark.ensures.mark ∙ ap (λ (v : Walk). record v { mark = mark_of v w.mark.to_come }) c.set_back.ensures)),
      λ again. absurd (no_more again (ap is_none (sym c.again_from.ensures ∙ c.in_default.is))),
    )

-- ---- the `traf` of the mark is read again

pub returns-in_err-read_again-clause-back : goal.returns-in_err-read_again-clause-back
returns-in_err-read_again-clause-back g c told tree t begun samples o h k =
    let p = err_from_is_err_and c.from_residual.result c.from_residual.ensures.1 in
    let file = g.S.Store.file c.args.store.now in
    let m = c.args.movie.now in
    let w = c.args.self.now in
    let d = c.in-Some.before in
    let some : again_from w ≡ Some d = sym c.again_from.ensures ∙ c.in-Some.is in
    let b = marked_before w d some in
    let hm = holds_marked file m tree t begun w (length samples) h c.requires d k.0 k.1 k.3.0 b in
    rw (p.1, p.2) (c.in_err-read_again.ensures.taken told tree t hm.0 k.1 hm.1 begun o hm.3)

pub returns-then-before-mark-clause-back : goal.returns-then-before-mark-clause-back
returns-then-before-mark-clause-back g c told tree t begun samples o h k e =
    let file = g.S.Store.file c.args.store.now in
    let m = c.args.movie.now in
    let w = c.args.self.now in
    let d = c.in-Some.before in
    let some : again_from w ≡ Some d = sym c.again_from.ensures ∙ c.in-Some.is in
    let b = marked_before w d some in
    let hm = holds_marked file m tree t begun w (length samples) h c.requires d k.0 k.1 k.3.0 b in
    let tk = c.in_ok-read_again.ensures.taken told tree t hm.0 k.1 hm.1 begun o hm.3 in
    let found = get_some m.tracks w.track c.requires.goes_on.track in
    let al = c.in_ok-read_again.ensures.again.traf.all found.0 found.1 in
    let first = c.read_again.new.self in
    let own = ap left_in_hand (hand_one m first al.0 tk.takes.0 al.1 tk.takes.1.1) ∙ tk.takes.1.2 in
    let count = count_holds file m tree t begun w (length samples) h c.requires d b samples k hm.0 hm.1 hm.2 first tk.takes.1.0 tk.traf tk.bytes c.in_ok-read_again.ensures.again.traf.track found.0 found.1 al.0 al.1 al.2 own hm.3.holds.left in
    let to_come = ap (λ (k : Mark). k.to_come) h.mark in
    let more = c.if-before-mark.true in
    absurd (omega (arith, more, count, to_come))

pub returns-then-before-mark-clause-work : goal.returns-then-before-mark-clause-work
returns-then-before-mark-clause-work g c told tree t begun to_come n o h may =
    let file = g.S.Store.file c.args.store.now in
    let m = c.args.movie.now in
    let w = c.args.self.now in
    let d = c.in-Some.before in
    let some : again_from w ≡ Some d = sym c.again_from.ensures ∙ c.in-Some.is in
    let b = marked_before w d some in
    let hm = holds_marked file m tree t begun w to_come h c.requires d may.earlier may.later may.stands b in
    let tk = c.in_ok-read_again.ensures.taken told tree t hm.0 may.later hm.1 begun o hm.3 in
    let back = back_is begun w d some in
    let way = tk.way in
    let work = tk.steps in
    omega (arith, back, way, work)

pub returns-in_err-pass-clause-back : goal.returns-in_err-pass-clause-back
returns-in_err-pass-clause-back g c told tree t begun samples o h k =
    let p = err_from_is_err_and c.from_residual-in_err-pass.result c.from_residual-in_err-pass.ensures.1 in
    let file = g.S.Store.file c.args.store.now in
    let m = c.args.movie.now in
    let w = c.args.self.now in
    let d = c.in-Some.before in
    let some : again_from w ≡ Some d = sym c.again_from.ensures ∙ c.in-Some.is in
    let b = marked_before w d some in
    let hm = holds_marked file m tree t begun w (length samples) h c.requires d k.0 k.1 k.3.0 b in
    let tk = c.in_ok-read_again.ensures.taken told tree t hm.0 k.1 hm.1 begun o hm.3 in
    let found = get_some m.tracks w.track c.requires.goes_on.track in
    let al = c.in_ok-read_again.ensures.again.traf.all found.0 found.1 in
    let first = c.read_again.new.self in
    let own = ap left_in_hand (hand_one m first al.0 tk.takes.0 al.1 tk.takes.1.1) ∙ tk.takes.1.2 in
    let few = few_passed file m tree t begun w (length samples) h c.requires d b samples k hm.0 hm.1 hm.2 first tk.takes.1.0 tk.traf tk.bytes c.in_ok-read_again.ensures.again.traf.track found.0 found.1 al.0 al.1 al.2 own hm.3.holds.left in
    let to_come = ap (λ (k : Mark). k.to_come) h.mark in
    let x = c.in_err-pass.ensures.enough in
    let same = ap (λ (y : InHand). length (left_in_hand y)) (hand_one m first x.0 al.0 x.1 al.1) in
    absurd (cc (x.2 (omega (arith, few, to_come, same))))

pub returns-in_err-pass-clause-work : goal.returns-in_err-pass-clause-work
returns-in_err-pass-clause-work g c told tree t begun to_come n o h may =
    let p = err_from_is_err_and c.from_residual-in_err-pass.result c.from_residual-in_err-pass.ensures.1 in
    let file = g.S.Store.file c.args.store.now in
    let m = c.args.movie.now in
    let w = c.args.self.now in
    let d = c.in-Some.before in
    let some : again_from w ≡ Some d = sym c.again_from.ensures ∙ c.in-Some.is in
    let b = marked_before w d some in
    let hm = holds_marked file m tree t begun w to_come h c.requires d may.earlier may.later may.stands b in
    let tk = c.in_ok-read_again.ensures.taken told tree t hm.0 may.later hm.1 begun o hm.3 in
    let back = back_is begun w d some in
    let way = tk.way in
    let work = tk.steps in
    let idle = c.in_err-pass.ensures.fewer.idle in
    rw p.1 (omega (arith, back, way, work, idle))

pub returns-clause-back : goal.returns-clause-back
returns-clause-back g c told tree t begun samples o h k =
    let file = g.S.Store.file c.args.store.now in
    let m = c.args.movie.now in
    let w = c.args.self.now in
    let d = c.in-Some.before in
    let some : again_from w ≡ Some d = sym c.again_from.ensures ∙ c.in-Some.is in
    let b = marked_before w d some in
    let hm = holds_marked file m tree t begun w (length samples) h c.requires d k.0 k.1 k.3.0 b in
    let tk = c.in_ok-read_again.ensures.taken told tree t hm.0 k.1 hm.1 begun o hm.3 in
    let found = get_some m.tracks w.track c.requires.goes_on.track in
    let al = c.in_ok-read_again.ensures.again.traf.all found.0 found.1 in
    let first = c.read_again.new.self in
    let own = ap left_in_hand (hand_one m first al.0 tk.takes.0 al.1 tk.takes.1.1) ∙ tk.takes.1.2 in
    let ps = c.in_ok-pass.ensures.passed.passed in
    let to_come = ap (λ (k : Mark). k.to_come) h.mark in
    let rest = ps.4 ∙ ap (λ (j : ℕ). drop (d.left - j) (left_in_hand ps.0)) to_come in
    let stands = c.in_ok-pass.ensures.passed.stands file tree t (hm.0 ++ hm.1 ∷ []) k.1 tk.takes.1.0 in
    c.mark-2.ensures.coming file tree t m samples
    (comes_again file m tree t begun w (length samples) h c.requires d b samples k hm.0 hm.1 hm.2 first tk.takes.1.0 tk.traf tk.bytes c.in_ok-read_again.ensures.again.traf.track found.0 found.1 al.0 al.1 al.2 own hm.3.holds.left c.pass.new.self ps.0 ps.1 ps.2 ps.3 rest stands)

pub returns-clause-work : goal.returns-clause-work
returns-clause-work g c told tree t begun to_come n o h may =
    let file = g.S.Store.file c.args.store.now in
    let m = c.args.movie.now in
    let w = c.args.self.now in
    let d = c.in-Some.before in
    let some : again_from w ≡ Some d = sym c.again_from.ensures ∙ c.in-Some.is in
    let b = marked_before w d some in
    let hm = holds_marked file m tree t begun w to_come h c.requires d may.earlier may.later may.stands b in
    let tk = c.in_ok-read_again.ensures.taken told tree t hm.0 may.later hm.1 begun o hm.3 in
    let back = back_is begun w d some in
    let again = takes_again file tree t m begun c.read_again.new.self n _ _ may hm.0 hm.1 true tk.takes (same_box c.read_again.new.self begun tk.traf tk.bytes) (c.in_ok-read_again.ensures.again.traf.through t) tk.way tk.steps in
    let all = takes_then file tree t (n + traf_steps (traf_box begun)) _ _ _ c.read_again.new.self c.pass.new.self again (λ j may. c.in_ok-pass.ensures.passed.work file tree t j o may) in
    let taken = all.2 in
    (all.0, c.mark-2.ensures.may file tree t all.0 all.1, omega (arith, taken, back))
