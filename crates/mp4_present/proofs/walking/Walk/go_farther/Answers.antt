use Rattle.std.proofs.Common.{rules, ◌≡◌, ◌∙◌, Bool, true, false, sym, ap, subst, if◌then◌else◌}
use Rattle.mp4_present.specs.words.SamplesComing.{Comes}
use Rattle.mp4_present.specs.words.GoingBack.{is_mark_farther}
use Rattle.mp4_present.specs.words.Movies.{IsWalkOf, mark_of}
use Rattle.mp4_present.specs.words.WalkSteps.{MayTake}
use Rattle.mp4_present.specs.declared.walking.Walk.{Walk}
use Rattle.mp4_present.proofs.GoneBack.{at_hand, comes_back, may_back, none_again, walk_back}
use Rattle.mp4_present.proofs.walking.Walk.go_farther.Goals as goal
use Rattle.mp4_present.proofs.walking.Walk.go_farther.Goals.{else-self-via-then-self+else-passed, else-self-via-else-self}

pub returns-then-passed-clause-walk : goal.returns-then-passed-clause-walk
returns-then-passed-clause-walk c m i =
    let w = c.args.self.now in
    let e : w.next ≡ w.mark.next = search rules in
    subst (λ (v : Walk). IsWalkOf m v) (sym (c.mark.ensures.mark ∙ ap (λ (v : Walk). record v { mark = mark_of v w.mark.to_come }) c.set_back.ensures)) (walk_back m w i w.mark.to_come (none_again m w i e))

pub returns-then-passed-clause-coming : goal.returns-then-passed-clause-coming
returns-then-passed-clause-coming c file tree t m begun before there here h i k _ =
    let w = c.args.self.now in
    let e : w.next ≡ w.mark.next = search rules in
    let far : is_mark_farther w ≡ true = search rules in
    let at = at_hand file m tree t begun w before h i (none_again m w i e) in
    let back = c.mark.ensures.coming file tree t m there (subst (λ (v : Walk). Comes file tree t m v there) (sym c.set_back.ensures) (comes_back file m tree t begun w before h i at there k)) in
    subst (λ (v : Bool). Comes file tree t m c.mark.new.self (if v then there else here)) (sym far) back

pub returns-then-passed-clause-may : goal.returns-then-passed-clause-may
returns-then-passed-clause-may c file tree t m begun before a b h i may _ =
    let w = c.args.self.now in
    let e : w.next ≡ w.mark.next = search rules in
    let far : is_mark_farther w ≡ true = search rules in
    let at = at_hand file m tree t begun w before h i (none_again m w i e) in
    let back = c.mark.ensures.may file tree t a (subst (λ (v : Walk). MayTake file tree t v a) (sym c.set_back.ensures) (may_back file m tree t begun w before h i at a may)) in
    subst (λ (v : Bool). MayTake file tree t c.mark.new.self (if v then a else b)) (sym far) back

pub returns-then-passed-clause-room : goal.returns-then-passed-clause-room
returns-then-passed-clause-room c = ap (λ (v : Walk). v.bytes) (c.mark.ensures.mark ∙ ap (λ (v : Walk). record v { mark = mark_of v c.args.self.now.mark.to_come }) c.set_back.ensures)

pub returns-then-passed-clause-next : goal.returns-then-passed-clause-next
returns-then-passed-clause-next c =
    let w = c.args.self.now in
    let e : w.next ≡ w.mark.next = search rules in
    ap (λ (v : Walk). v.next) (c.mark.ensures.mark ∙ ap (λ (v : Walk). record v { mark = mark_of v w.mark.to_come }) c.set_back.ensures) ∙ sym e

pub returns-else-self-clause-coming : goal.returns-else-self-clause-coming
returns-else-self-clause-coming c file tree t m begun before there here h i _ k =
    let w = c.args.self.now in
    elim c.else-self.branch [
      | else-self-via-then-self+else-passed v ↦ (let near : is_mark_farther w ≡ false = search rules in subst (λ (b : Bool). Comes file tree t m w (if b then there else here)) (sym near) k)
      | else-self-via-else-self v ↦ (let near : is_mark_farther w ≡ false = search rules in subst (λ (b : Bool). Comes file tree t m w (if b then there else here)) (sym near) k)
    ]
