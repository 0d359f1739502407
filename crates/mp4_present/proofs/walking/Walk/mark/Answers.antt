use Rattle.std.proofs.Common.{sym, subst}
use Rattle.mp4_present.specs.words.Movies.{IsWalkOf}
use Rattle.mp4_present.specs.declared.walking.Mark.{Mark}
use Rattle.mp4_present.proofs.GoneBack.{comes_marked, may_marked}
use Rattle.mp4_present.proofs.WalkPlaces.{marked_here}
use Rattle.mp4_present.proofs.walking.Walk.mark.Goals as goal

pub returns-clause-walk : goal.returns-clause-walk
returns-clause-walk c m g s r =
    let w = c.args.self.now in
    subst (λ (k : Mark). IsWalkOf m (record w { mark = k })) (sym c.mark_here-self.ensures) (marked_here m w c.args.to_come g s r)

pub returns-clause-coming : goal.returns-clause-coming
returns-clause-coming c file tree t m samples h = comes_marked file tree t m c.args.self.now c.mark_here-self.result samples h

pub returns-clause-may : goal.returns-clause-may
returns-clause-may c file tree t n h = may_marked file tree t c.args.self.now c.mark_here-self.result n h
