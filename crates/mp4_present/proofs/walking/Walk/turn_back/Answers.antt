use Rattle.std.proofs.Common.{sym, subst}
use Rattle.mp4_present.specs.words.SamplesComing.{Comes}
use Rattle.mp4_present.specs.words.GoingBack.{set_back}
use Rattle.mp4_present.specs.words.Movies.{IsWalkOf}
use Rattle.mp4_present.specs.words.WalkSteps.{MayTake}
use Rattle.mp4_present.specs.declared.walking.Mark.{Mark}
use Rattle.mp4_present.specs.declared.walking.Walk.{Walk}
use Rattle.mp4_present.proofs.GoneBack.{at_hand, comes_back, comes_marked, may_back, may_marked, none_again, walk_turned}
use Rattle.mp4_present.proofs.walking.Walk.turn_back.Goals as goal

pub returns-clause-walk : goal.returns-clause-walk
returns-clause-walk c m i =
    let w = c.args.self.now in
    subst (λ (v : Walk). IsWalkOf m (record v { mark = c.mark_here-there.result })) (sym c.set_back.ensures)
    (subst (λ (k : Mark). IsWalkOf m (record (set_back w) { mark = k })) (sym c.mark_here-there.ensures) (walk_turned m w i c.requires))

pub returns-clause-back : goal.returns-clause-back
returns-clause-back c file tree t m begun before samples h i k =
    let w = c.args.self.now in
    let at = at_hand file m tree t begun w before h i (none_again m w i c.requires.0) in
    subst (λ (v : Walk). Comes file tree t m (record v { mark = c.mark_here-there.result }) samples) (sym c.set_back.ensures) (comes_marked file tree t m (set_back w) c.mark_here-there.result samples (comes_back file m tree t begun w before h i at samples k))

pub returns-clause-may : goal.returns-clause-may
returns-clause-may c file tree t m begun before n h i may =
    let w = c.args.self.now in
    let at = at_hand file m tree t begun w before h i (none_again m w i c.requires.0) in
    subst (λ (v : Walk). MayTake file tree t (record v { mark = c.mark_here-there.result }) n) (sym c.set_back.ensures) (may_marked file tree t (set_back w) c.mark_here-there.result n (may_back file m tree t begun w before h i at n may))
