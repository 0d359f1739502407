use Rattle.std.proofs.Common.{◌≡◌, ◌∙◌, sym, Option, None, Some}
use Rattle.mp4_present.specs.declared.walking.Due.{Due}
use Rattle.mp4_present.proofs.InFragment.{counted_in_hand}
use Rattle.mp4_present.proofs.walking.Walk.fragment.Goals as goal

pub returns-in-Some : goal.returns-in-Some
returns-in-Some c file tree t earlier later o s = counted_in_hand file c.args.movie.now tree t earlier later c.args.self.now c.args.self.now.before c.moofs_before.result o s.held (λ none. some_there _ (sym none ∙ c.in-Some.is)) c.moofs_before.ensures
  where
    some_there : (d : Due) → ◌≡◌ {A = Option Due} None (Some d) → ⊥
    some_there d e = cc
