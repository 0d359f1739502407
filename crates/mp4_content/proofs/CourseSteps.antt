-- The steps of walks whose samples are taken piece by piece.
use Rattle.std.proofs.Common.{◌≡◌, ℕ, ◌+◌, ◌-◌, ◌≤◌, List, refl, sym, subst, arith}
use Rattle.mp4_head.specs.format.Tree.{TrackTree}
use Rattle.mp4_present.specs.format.Denotes.{FileTree}
use Rattle.mp4_present.specs.words.InHand.{Follows, IsPlaceOf}
use Rattle.mp4_present.specs.words.Movies.{MovieSeen, IsMovie, IsWalkOf, InHandOf}
use Rattle.mp4_present.specs.words.OpenedMovie.{IsOpenedAs}
use Rattle.mp4_present.specs.words.WalkSteps.{steps_to, MayTake, TakesOn}
use Rattle.mp4_present.specs.declared.walking.in_hand.InHand.{InHand}
use Rattle.mp4_present.specs.declared.walking.in_hand.Place.{Place}
use Rattle.mp4_present.specs.declared.walking.Walk.{Walk}
use Rattle.mp4_present.proofs.WalkPlaces.{kept_on}
use Rattle.mp4_present.proofs.WayThrough.{no_farther, ahead, keeps_on, takes_then, takes_most, most_then, TakesBefore, same_way}
use Rattle.mp4_content.specs.words.GoneOn.{KeepsOn}

-- a walk may go on from a later place of what it has in hand
pub hand_keeps : (m : MovieSeen) (w : Walk) (a b : InHand) (p : Place) → IsMovie m → IsWalkOf m w → InHandOf m w a → Follows a b → IsPlaceOf b p → KeepsOn m w p
hand_keeps m w a b p i is h f at file tree t n old o may =
    let on = ahead m t w a b p h f at in
    let within = subst (λ (k : ℕ). steps_to p ≤ k) (same_way t w p) (no_farther file m tree t (record w { place = p }) p o i may.stands.is_track (kept_on m w a b p is h f at).place) in
    keeps_on file tree t w p n old (old + (steps_to p - steps_to w.place)) may on.0 within on.1 refl

-- ---- in a loop

-- no more steps were taken than the walk may take
abbrev pub MostBefore : List ℕ → MovieSeen → Walk → ℕ → ℕ → Type 0
MostBefore file m w old new = (tree : FileTree) (t : TrackTree) (n : ℕ) → IsOpenedAs file m tree → MayTake file tree t w n → new ≤ old + n

module _ (file : List ℕ) (m : MovieSeen) (begun w : Walk) (start before : ℕ) (on : TakesBefore file m begun w start before) where
  -- the walk goes on from a place
  pub keeps_before : (p : Place) (now : Walk) (after : ℕ) → KeepsOn m w p → now ≡ record w { place = p } → after ≡ before + (steps_to p - steps_to w.place) → TakesBefore file m begun now start after
  keeps_before p now after keeps is work tree t n o h =
      takes_then file tree t n start before after w now (on tree t n o h)
      (λ k may. subst (λ (w' : Walk). TakesOn file tree t k w' before after) (sym is) (subst (λ (s : ℕ). TakesOn file tree t k (record w { place = p }) before s) (sym work) (keeps file tree t k before o may)))

  -- and a further one
  pub loads_before : (next : Walk) (after : ℕ) → TakesBefore file m w next before after → TakesBefore file m begun next start after
  loads_before next after loads tree t n o h = takes_then file tree t n start before after w next (on tree t n o h) (λ k may. loads tree t k o may)

  -- no more than all steps were taken
  pub most_before : MostBefore file m begun start before
  most_before tree t n o h = takes_most file tree t n start before w (on tree t n o h)

  -- and then no more than were left
  pub fails_before : (after : ℕ) → MostBefore file m w before after → MostBefore file m begun start after
  fails_before after most tree t n o h = most_then file tree t n start before after w (on tree t n o h) (λ k may. most tree t k o may)

-- a number that is another is within its bound
pub as_many : (same steps most : ℕ) → same ≡ steps → steps ≤ most → same ≤ most
as_many same steps most e h = omega (arith, e, h)
