use Rattle.std.proofs.Common.{◌≡◌, ◌++◌, ◌∷◌, ◌-◌, [], arith, rules, subst, sym, List}
use Rattle.mp4_present.specs.declared.walking.Walk.{Walk}
use Rattle.mp4_answers.specs.words.PrintedTracks.{AreWalks}
use Rattle.mp4_answers.proofs.PrintedTracks.{walk_pushed, walks_begin}
use Rattle.mp4_answers.proofs.commands.print.walks_of.Goals as goal

pub loop-left-init : goal.loop-left-init
loop-left-init c = rw (c.tracks-left.ensures, c.new-walks.ensures.items) (omega arith, walks_begin c.args.movie.now)

pub loop-left-preserved : goal.loop-left-preserved
loop-left-preserved c =
    let i = c.loop-left.invariant in
    let e = c.in_ok-walk.ensures in
    let pushed : c.push.new.self.items ≡ c.loop-left.walks.items ++ c.in_ok-walk.walk ∷ [] = search rules in (
      search rules,
      subst (λ (ws : List Walk). AreWalks c.args.movie.now (c.loop-left.left - 1) ws) (sym pushed)
          (walk_pushed c.args.movie.now c.loop-left.left (c.loop-left.left - 1) c.loop-left.walks.items c.in_ok-walk.walk (search rules) (record { walk = e.walk; coming = λ file tree t o at. e.coming file tree t o at; may = λ file tree t o at. e.may file tree t o at }) i.1),
    )
