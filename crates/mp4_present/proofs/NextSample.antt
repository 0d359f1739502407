-- The next sample of a walk.
use Rattle.std.proofs.Common.{◌≡◌, ℕ, List, [], ◌∷◌, ◌++◌, drop, false, Option, None, Some, refl, sym, ap, subst, ◌∙◌}
use Rattle.std.specs.Prelude.{is_some}
use Rattle.std.specs.List.{slice_get}
use Rattle.mp4_tables.specs.declared.sample.SampleAt.{SampleAt}
use Rattle.mp4_head.specs.format.Tree.{TrackTree}
use Rattle.mp4_present.specs.format.Denotes.{FileTree}
use Rattle.mp4_present.specs.words.InHand.{left_in_hand, Follows, IsPlaceOf}
use Rattle.mp4_present.specs.words.Movies.{MovieSeen, InHandOf}
use Rattle.mp4_present.specs.words.SamplesComing.{Comes, samples_behind}
use Rattle.mp4_present.specs.words.NextSample.{TakesSample}
use Rattle.mp4_present.specs.declared.walking.in_hand.InHand.{InHand}
use Rattle.mp4_present.specs.declared.walking.in_hand.Place.{Place}
use Rattle.mp4_present.specs.declared.walking.Walk.{Walk}
use Rattle.mp4_present.proofs.GoneBack.{hand_later}
use Rattle.mp4_present.proofs.WalkCopied.{hand_one, kept_before}

-- what is in hand gives its first sample, or has none left
pub takes_one : (file : List ℕ) (tree : FileTree) (t : TrackTree) (m : MovieSeen) (w : Walk) (a b : InHand) (p : Place) (r : Option SampleAt) (samples : List SampleAt) → InHandOf m w a → Follows a b → IsPlaceOf b p
    → r ≡ slice_get (left_in_hand a) 0 → left_in_hand b ≡ drop 1 (left_in_hand a) → Comes file tree t m w samples → TakesSample file tree t m (record w { place = p }) samples r
takes_one file tree t m w a b p r samples hand later at given rest k = subst (TakesSample file tree t m (record w { place = p }) samples) (sym given) (by (left_in_hand a) refl)
  where
    behind : List SampleAt
    behind = samples_behind tree t k.0 k.1

    all : samples ≡ left_in_hand a ++ behind
    all = k.3.2 ∙ ap (λ (h : InHand). left_in_hand h ++ behind) (hand_one m w k.2 a k.3.1 hand)

    by : (left : List SampleAt) → left_in_hand a ≡ left → TakesSample file tree t m (record w { place = p }) samples (slice_get left 0)
    by [] e = (k.0, k.1, kept_before file tree t k.0 k.1 w p k.3.0, all ∙ ap (λ (ss : List SampleAt). ss ++ behind) e)
    by (s ∷ left) e = (
      left ++ behind,
      all ∙ ap (λ (ss : List SampleAt). ss ++ behind) e,
      (k.0, k.1, b, (kept_before file tree t k.0 k.1 w p k.3.0, hand_later m w a b p hand later at, sym (ap (λ (ss : List SampleAt). ss ++ behind) (rest ∙ ap (drop 1) e)))),
    )

-- where nothing is left in hand, those behind come
pub none_left : (file : List ℕ) (tree : FileTree) (t : TrackTree) (m : MovieSeen) (w : Walk) (a : InHand) (samples : List SampleAt) → InHandOf m w a → ◌≡◌ {A = Option SampleAt} None (slice_get (left_in_hand a) 0) → (k : Comes file tree t m w samples) → samples ≡ samples_behind tree t k.0 k.1
none_left file tree t m w a samples hand none k = by (left_in_hand a) refl none
  where
    behind : List SampleAt
    behind = samples_behind tree t k.0 k.1

    by : (left : List SampleAt) → left_in_hand a ≡ left → ◌≡◌ {A = Option SampleAt} None (slice_get left 0) → samples ≡ behind
    by [] e n = k.3.2 ∙ ap (λ (h : InHand). left_in_hand h ++ behind) (hand_one m w k.2 a k.3.1 hand) ∙ ap (λ (ss : List SampleAt). ss ++ behind) e
    by (s ∷ left) e n = absurd cc

pub none_is : (r s : Option SampleAt) → r ≡ s → is_some r ≡ false → ◌≡◌ {A = Option SampleAt} None s
none_is None s e f = e
none_is (Some x) s e f = absurd cc
