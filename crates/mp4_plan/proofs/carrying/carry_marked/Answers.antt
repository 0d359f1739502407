use Rattle.std.proofs.Common.{rules, ◌≡◌, inl, inr, true, length, sym, ap, ◌∙◌, arith}
use Rattle.mp4_boxes.proofs.Each.{each_taken}
use Rattle.mp4_present.specs.words.Carried.{waiting}
use Rattle.mp4_present.specs.words.GoingBack.{IsMarkInHand}
use Rattle.mp4_present.specs.words.Joined.{IsBelow}
use Rattle.mp4_present.specs.declared.walking.Mark.{Mark}
use Rattle.mp4_present.proofs.FrontsPut.{front_as}
use Rattle.mp4_plan.proofs.LeftRefused.{on_both, on_both_two, so_both, so_if_ok}
use Rattle.mp4_plan.proofs.Pushes.{goes_on_as}
use Rattle.mp4_plan.proofs.WritingSteps.{not_both, past_same}
use Rattle.mp4_plan.proofs.carrying.carry_marked.Goals as goal

-- ---- from the stretches

pub returns-then-are_all-clause-put : goal.returns-then-are_all-clause-put
returns-then-are_all-clause-put g c l told tree t samples o h tells =
    let all : c.args.noted.stretches.now.are_all ≡ true = search rules in
    let bytes = (tells.kept all).bytes (g.S.Store.file c.args.store.now) in
    on_both c.carry.result (λ x. goes_on_as (g.K.Sink.takes c.args.sink.now c.carry.new.sink) (waiting c.args.carrier.now) (waiting c.carry.new.carrier) _ _ x (sym bytes))
    (λ x. front_as (g.K.Sink.takes c.args.sink.now c.carry.new.sink) (waiting c.args.carrier.now) _ _ x (sym bytes)) (c.carry.ensures.put told)

pub returns-then-are_all-clause-comes : goal.returns-then-are_all-clause-comes
returns-then-are_all-clause-comes g c l told tree t samples o h = so_if_ok c.carry.result _ h.comes

pub returns-then-are_all-clause-unchanged : goal.returns-then-are_all-clause-unchanged
returns-then-are_all-clause-unchanged g c l told tree t samples o h tells there =
    let all : c.args.noted.stretches.now.are_all ≡ true = search rules in
    let kept = tells.kept all in
    let n = length (g.S.Store.file c.args.store.now) in
    c.carry.ensures.unchanged told (kept.below n (each_taken (IsBelow n) c.args.noted.load.samples samples there.below)) (kept.len ∙ sym there.sizes)

pub returns-then-are_all-clause-work : goal.returns-then-are_all-clause-work
returns-then-are_all-clause-work g c told tree t begun before own o back began = so_both c.carry.result _ _ (λ now may less. inl (now, may, omega arith, omega (arith, less))) (omega arith)

-- ---- by the walk

pub returns-then-is_mark_in_hand-clause-put : goal.returns-then-is_mark_in_hand-clause-put
returns-then-is_mark_in_hand-clause-put g c l told tree t samples o h tells = c.carry_in_hand.ensures.put l told tree t samples o h

pub returns-then-is_mark_in_hand-clause-unchanged : goal.returns-then-is_mark_in_hand-clause-unchanged
returns-then-is_mark_in_hand-clause-unchanged g c l told tree t samples o h tells there = c.carry_in_hand.ensures.unchanged l told tree t samples o h there

pub returns-then-is_mark_in_hand-clause-work : goal.returns-then-is_mark_in_hand-clause-work
returns-then-is_mark_in_hand-clause-work g c told tree t begun before own o back began = on_both c.carry_in_hand.result (λ f now may less. inl (f now may)) (λ x. omega (arith, x)) (c.carry_in_hand.ensures.work told tree t begun before own o back began)

pub returns-else-is_mark_in_hand-clause-put : goal.returns-else-is_mark_in_hand-clause-put
returns-else-is_mark_in_hand-clause-put g c l told tree t samples o h tells = c.carry_again.ensures.put l told tree t samples o h

pub returns-else-is_mark_in_hand-clause-unchanged : goal.returns-else-is_mark_in_hand-clause-unchanged
returns-else-is_mark_in_hand-clause-unchanged g c l told tree t samples o h tells there = c.carry_again.ensures.unchanged l told tree t samples o h there

pub returns-else-is_mark_in_hand-clause-work : goal.returns-else-is_mark_in_hand-clause-work
returns-else-is_mark_in_hand-clause-work g c told tree t begun before own o back began =
    let none : IsMarkInHand c.args.walk.now → ⊥ = λ here. not_both c.is_mark_in_hand.result (c.is_mark_in_hand.ensures.no here) c.if-is_mark_in_hand.false in
    let next = ap (λ (k : Mark). k.next) back.mark in
    on_both_two c.carry_again.result (λ x ahead now may less. inr (x.0, x.1, none, past_same c.args.movie.now c.carry_again.new.walk c.args.walk.now.mark.next begun.next next ahead, x.2)) (λ x. x) (c.carry_again.ensures.work told tree t begun before own o back began) c.carry_again.ensures.ahead
