-- A whole `moof` by its `traf`s.
use Rattle.std.proofs.Common.{ℕ, ◌^◌, ◌<◌, List, subst}
use Rattle.mp4_boxes.specs.format.Box.{Box, box_container}
use Rattle.mp4_boxes.specs.format.Children.{Holds}
use Rattle.mp4_boxes.specs.declared.rule.Rule.TheVariants as rules
use Rattle.mp4_frag.specs.words.Judged.{AreTrexesOf, AreTrafsPassed, IsAccepted, IsSoundMoof, own_trexes, tree_of}
use Rattle.mp4_frag.specs.words.RunsJudged.{children_of}
use Rattle.mp4_frag.specs.declared.state.TrackState.{TrackState}
use Rattle.mp4_frag.specs.declared.trex.Trex.{Trex}
use Rattle.mp4_frag.proofs.HeadsFound.{holds_children}
use Rattle.mp4_frag.proofs.MoofPassed.{moof_sound}
use Rattle.mp4_frag.proofs.OwnTrexes.{agree_of, own_agree}

-- what a `moof` holds are its children
pub held_by : (moof : Box) (boxes : List Box) → Holds rules.MovieFragment (box_container moof) boxes → Holds rules.MovieFragment (box_container moof) (children_of moof)
held_by moof boxes h = subst (λ (bs : List Box). Holds rules.MovieFragment (box_container moof) bs) (holds_children rules.MovieFragment moof boxes h) h

module _ (L : ℕ) (moof : Box) (boxes : List Box) (old new : List TrackState) (room less : ℕ) (short : L < 2 ^ 64) (p : AreTrafsPassed L moof old new room less) where
  pub passed_sound : Holds rules.MovieFragment (box_container moof) boxes → (trexes : List Trex) → AreTrexesOf trexes old → IsSoundMoof L trexes old (tree_of moof)
  passed_sound h trexes defaults = moof_sound trexes L moof old short (held_by moof boxes h) p.sound (agree_of trexes old defaults)

  pub passed_accepted : Holds rules.MovieFragment (box_container moof) boxes → IsAccepted L moof old new room less
  passed_accepted h = record { own = moof_sound (own_trexes old) L moof old short (held_by moof boxes h) p.sound (own_agree old); kept = p.kept }
