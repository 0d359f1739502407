-- A walk over a file that was opened, before the samples that are still to come.
use Rattle.std.proofs.Common.{◌≡◌, ℕ, Bool, true, false, List, [], ◌∷◌, ◌++◌, Option, Some, None, refl, sym, ap, subst, ◌∙◌}
use Rattle.std.specs.Prelude.{slice_get, not}
use Rattle.std.specs.Option.{is_some}
use Rattle.mp4_tables.specs.declared.sample.SampleAt.{SampleAt}
use Rattle.mp4_frag.specs.words.OwnTrafs.{PlacedTraf}
use Rattle.mp4_head.specs.format.Tree.{TrackTree}
use Rattle.mp4_present.specs.format.Denotes.{FileTree}
use Rattle.mp4_present.proofs.WalkCopied.{kept_before}
use Rattle.mp4_present.specs.words.SamplesComing.{Comes, Loads, StandsBefore, samples_behind}
use Rattle.mp4_present.specs.words.InHand.{Follows, IsPlaceOf, left_in_hand}
use Rattle.mp4_present.specs.words.Movies.{MovieSeen, HandAt, InHandOf, tables_seen}
use Rattle.mp4_tables.specs.words.TablesSeen.{CursorSeen as TableView}
use Rattle.mp4_present.specs.declared.walking.in_hand.InHand.{InHand}
use Rattle.mp4_present.specs.declared.walking.in_hand.InHand.TheVariants as hands
use Rattle.mp4_present.specs.declared.walking.in_hand.Place.{Place}
use Rattle.mp4_present.specs.declared.walking.in_hand.Place.TheVariants as places
use Rattle.mp4_present.specs.declared.movie.TrackTables.{TrackTables}
use Rattle.mp4_present.specs.declared.walking.Walk.{Walk}
use Rattle.mp4_frag.specs.words.FragmentsSeen.{CursorSeen as TrafView}

-- what a walk has in hand is one
pub one_hand : (m : MovieSeen) (w : Walk) (a b : InHand) → InHandOf m w a → InHandOf m w b → left_in_hand a ≡ left_in_hand b
one_hand m w a b g h = by w.place a b g h
  where
    some_is : (x y : TrackTables) → Some x ≡ Some y → x ≡ y
    some_is x y e = cc

    by : (at : Place) (a b : InHand) → HandAt m w at a → HandAt m w at b → left_in_hand a ≡ left_in_hand b
    by (places.Tables p) (hands.Tables a) (hands.Tables b) g h =
        ap (λ c. left_in_hand (hands.Tables c)) (g.2 ∙ ap (λ t. let c : TableView = record { tables = tables_seen m.moov t; place = p } in c) (some_is g.0 h.0 (sym g.1 ∙ h.1)) ∙ sym h.2)
    by (places.Fragment p) (hands.Fragment a) (hands.Fragment b) g h = ap (λ c. left_in_hand (hands.Fragment c)) (g ∙ sym h)
    by (places.Tables p) (hands.Tables a) (hands.Fragment b) g h = absurd h
    by (places.Tables p) (hands.Fragment a) b g h = absurd g
    by (places.Fragment p) (hands.Tables a) b g h = absurd g
    by (places.Fragment p) (hands.Fragment a) (hands.Tables b) g h = absurd h

none_in : (xs : List SampleAt) → slice_get xs 0 ≡ None → xs ≡ []
none_in [] e = refl
none_in (x ∷ xs) e = absurd cc

first_in : (xs ys : List SampleAt) (s : SampleAt) → slice_get xs 0 ≡ Some s → slice_get (xs ++ ys) 0 ≡ Some s
first_in [] ys s e = absurd cc
first_in (x ∷ xs) ys s e = e

module _ (file : List ℕ) (m : MovieSeen) (tree : FileTree) (t : TrackTree) (w : Walk) (samples : List SampleAt) (h : Comes file tree t m w samples) (hand : InHand) (is_hand : InHandOf m w hand) where
  -- those in hand come first
  pub hand_first : samples ≡ left_in_hand hand ++ samples_behind tree t h.0 h.1
  hand_first = h.3.2 ∙ ap (λ (ss : List SampleAt). ss ++ samples_behind tree t h.0 h.1) (one_hand m w h.2 hand h.3.1 is_hand)

  -- the first in hand is the first to come
  pub first_comes : (next : Option SampleAt) (s : SampleAt) → next ≡ slice_get (left_in_hand hand) 0 → next ≡ Some s → next ≡ slice_get samples 0
  first_comes next s e f = f ∙ sym (ap (λ (ss : List SampleAt). slice_get ss 0) hand_first ∙ first_in (left_in_hand hand) (samples_behind tree t h.0 h.1) s (sym e ∙ f))

  pub peeked : (next : Option SampleAt) → next ≡ slice_get (left_in_hand hand) 0 → (next ≡ None → ⊥) → next ≡ slice_get samples 0
  peeked next e some = by next refl
    where
      by : (o : Option SampleAt) → next ≡ o → next ≡ slice_get samples 0
      by None f = absurd (some f)
      by (Some s) f = first_comes next s e f

  -- where nothing is left in hand, all are behind it
  pub all_behind : left_in_hand hand ≡ [] → samples_behind tree t h.0 h.1 ≡ samples
  all_behind z = sym (hand_first ∙ ap (λ (ss : List SampleAt). ss ++ samples_behind tree t h.0 h.1) z)

-- nothing was peeked
pub none_left : (hand : InHand) (next : Option SampleAt) → next ≡ slice_get (left_in_hand hand) 0 → next ≡ None → left_in_hand hand ≡ []
none_left hand next e f = none_in (left_in_hand hand) (sym e ∙ f)

module _ (file : List ℕ) (m : MovieSeen) (tree : FileTree) (t : TrackTree) (w next : Walk) (samples : List SampleAt) (h : Comes file tree t m w samples) (hand : InHand) (is_hand : InHandOf m w hand) (none : left_in_hand hand ≡ []) where
  -- more was loaded
  pub loads_on : (more : Bool) → more ≡ true → Loads file tree t m (samples_behind tree t h.0 h.1) next more → Comes file tree t m next samples
  loads_on more e l = subst (λ (ss : List SampleAt). Comes file tree t m next ss) (all_behind file m tree t w samples h hand is_hand none) (subst (Loads file tree t m (samples_behind tree t h.0 h.1) next) e l)

  -- nothing was loaded
  pub loads_none : (more : Bool) → more ≡ false → Loads file tree t m (samples_behind tree t h.0 h.1) next more → samples ≡ []
  loads_none more e l = sym (all_behind file m tree t w samples h hand is_hand none) ∙ subst (Loads file tree t m (samples_behind tree t h.0 h.1) next) e l

  -- then nothing comes
  pub ends_none : samples ≡ [] → Comes file tree t m next [] → Comes file tree t m next samples
  ends_none e c = subst (λ (ss : List SampleAt). Comes file tree t m next ss) (sym e) c

  -- the hand of the samples that come is empty as well
  pub hand_none : left_in_hand h.2 ≡ []
  hand_none = one_hand m w h.2 hand h.3.1 is_hand ∙ none

-- there is no next one
pub by_test : (o : Option SampleAt) (v : Bool) → is_some o ≡ not v → v ≡ true → o ≡ None
by_test None v e f = refl
by_test (Some s) v e f = absurd cc

-- A walk that goes on from a later place has the later samples in hand.
pub hand_kept : (m : MovieSeen) (w : Walk) (hand later : InHand) (place : Place) → InHandOf m w hand → Follows hand later → IsPlaceOf later place → InHandOf m (record w { place = place }) later
hand_kept m w (hands.Tables a) (hands.Tables b) (places.Tables p) h f i = tables w.place h
  where
    tables : (at : Place) → HandAt m w at (hands.Tables a) → HandAt m w (places.Tables p) (hands.Tables b)
    tables (places.Tables q) h = (h.0, h.1, (λ j. record { tables = (f.0 ∙ ap (λ (c : TableView). c.tables) h.2) j; place = sym i.0 j }))
    tables (places.Fragment q) h = absurd h
hand_kept m w (hands.Fragment a) (hands.Fragment b) (places.Fragment p) h f i = fragment w.place h
  where
    fragment : (at : Place) → HandAt m w at (hands.Fragment a) → HandAt m w (places.Fragment p) (hands.Fragment b)
    fragment (places.Tables q) h = absurd h
    fragment (places.Fragment q) h =
        λ j. record { payload = (f.0 ∙ ap (λ (c : TrafView). c.payload) h) j; place = sym i.0 j }
hand_kept m w (hands.Tables a) (hands.Fragment b) place h f i = absurd f
hand_kept m w (hands.Fragment a) (hands.Tables b) place h f i = absurd f
hand_kept m w (hands.Tables a) (hands.Tables b) (places.Fragment p) h f i = absurd i
hand_kept m w (hands.Fragment a) (hands.Fragment b) (places.Tables p) h f i = absurd i

-- a walk that goes on from a later place has the later samples to come
pub kept_coming : (file : List ℕ) (m : MovieSeen) (tree : FileTree) (t : TrackTree) (w : Walk) (earlier later : List PlacedTraf) (hand left : InHand) (place : Place) → StandsBefore file tree t earlier later w → InHandOf m w hand → Follows hand left
    → IsPlaceOf left place → Comes file tree t m (record w { place = place }) (left_in_hand left ++ samples_behind tree t earlier later)
kept_coming file m tree t w earlier later hand left place h is_hand follows at =
    (earlier, later, left, (kept_before file tree t earlier later w place h, hand_kept m w hand left place is_hand follows at, refl))
