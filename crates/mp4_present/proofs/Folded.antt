-- What is made of the samples of a walk, added one after the other.
use Rattle.std.proofs.Common.{◌≡◌, ℕ, List, [], ◌∷◌, ◌++◌, refl, sym, ap, subst, ◌∙◌, append_assoc}
use Rattle.std.proofs.lemmas.List.{append-nil}
use Rattle.std.specs.Prelude.{Some, None, drop, slice_get}
use Rattle.mp4_frag.specs.words.OwnTrafs.{PlacedTraf}
use Rattle.mp4_head.specs.format.Tree.{TrackTree}
use Rattle.mp4_tables.specs.declared.sample.SampleAt.{SampleAt}
use Rattle.mp4_present.specs.format.Denotes.{FileTree}
use Rattle.mp4_present.specs.words.HandCarried.{OfHand}
use Rattle.mp4_present.specs.words.InHand.{left_in_hand}
use Rattle.mp4_present.specs.words.Movies.{MovieSeen}
use Rattle.mp4_present.specs.words.SamplesComing.{Comes, StandsBefore, samples_behind}
use Rattle.mp4_present.specs.declared.walking.in_hand.InHand.{InHand}
use Rattle.mp4_present.specs.declared.walking.Walk.{Walk}
use Rattle.mp4_present.proofs.WalkCopied.{hand_one}
use Rattle.mp4_present.specs.words.Folding.{Through}

-- one more, and none
pub split_first : (samples rest : List SampleAt) (s : SampleAt) → Some s ≡ slice_get samples 0 → rest ≡ drop 1 samples → samples ≡ s ∷ rest
split_first [] rest s is left = absurd cc
split_first (x ∷ samples) rest s is left =
    let same : x ≡ s = cc in
    λ i. same i ∷ sym left i

pub no_first : (samples : List SampleAt) → None ≡ slice_get samples 0 → samples ≡ []
no_first [] is = refl
no_first (x ∷ samples) is = absurd cc

module _ {A : Type 0} (takes : A → SampleAt → A → Type 0) where
  -- some and then others
  pub through_append : (a b c : A) (xs ys : List SampleAt) → Through takes a xs b → Through takes b ys c → Through takes a (xs ++ ys) c
  through_append a b c [] ys h k = subst (λ (x : A). Through takes x ys c) h k
  through_append a b c (x ∷ xs) ys h k = (h.0, (h.1.0, through_append h.0 b c xs ys h.1.1 k))

  -- none that changes it
  pub all_stay : (a : A) → ((s : SampleAt) → takes a s a) → (samples : List SampleAt) → Through takes a samples a
  all_stay a stays [] = refl
  all_stay a stays (s ∷ samples) = (a, (stays s, all_stay a stays samples))

  -- these are handed over, of all, before those that are left
  pub record Handed (begun now : A) (all left : List SampleAt) : Type 0 where
    pub done : List SampleAt
    pub whole : all ≡ done ++ left
    pub through : Through takes begun done now

  pub none_handed : (a : A) (all : List SampleAt) → Handed a a all all
  none_handed a all = record { done = []; whole = refl; through = refl }

  pub more_handed : (a b c : A) (all left xs rest : List SampleAt) → Handed a b all left → left ≡ xs ++ rest → Through takes b xs c → Handed a c all rest
  more_handed a b c all left xs rest h e k = record {
    done = h.done ++ xs;
    whole = h.whole ∙ ap (λ ys. h.done ++ ys) e ∙ sym (append_assoc h.done xs rest);
    through = through_append a b c h.done xs h.through k;
  }

  pub all_handed : (a b : A) (all left : List SampleAt) → Handed a b all left → left ≡ [] → Through takes a all b
  all_handed a b all left h none = subst (λ ys. Through takes a ys b) (sym (h.whole ∙ ap (λ ys. h.done ++ ys) none ∙ append-nil h.done)) h.through

  pub rest_stays : (a b : A) (all left : List SampleAt) → Handed a b all left → ((s : SampleAt) → takes b s b) → Through takes a all b
  rest_stays a b all left h stays = subst (λ ys. Through takes a ys b) (sym h.whole) (through_append a b b h.done left h.through (all_stay b stays left))

  -- what a walk has handed over so far, of all samples that it had to come
  pub record HasAdded (file : List ℕ) (tree : FileTree) (t : TrackTree) (begun now : A) (w : Walk) (all : List SampleAt) : Type 0 where
    pub earlier : List PlacedTraf
    pub later : List PlacedTraf
    pub stands : StandsBefore file tree t earlier later w
    pub added : Handed begun now all (samples_behind tree t earlier later)

  -- all samples in hand are handed over
  pub hand_added : (file : List ℕ) (tree : FileTree) (t : TrackTree) (m : MovieSeen) (begun a next : A) (w now : Walk) (all to_come : List SampleAt) → Handed begun a all to_come → (k : Comes file tree t m w to_come)
      → (x : OfHand m w (λ hand. Through takes a (left_in_hand hand) next)) → ((earlier later : List PlacedTraf) → StandsBefore file tree t earlier later w → StandsBefore file tree t earlier later now) → HasAdded file tree t begun next now all
  hand_added file tree t m begun a next w now all to_come h k x on =
      let rest = samples_behind tree t k.0 k.1 in
      let both : to_come ≡ left_in_hand x.0 ++ rest = k.3.2 ∙ ap (λ (y : InHand). left_in_hand y ++ rest) (hand_one m w k.2 x.0 k.3.1 x.1) in
      record {
        earlier = k.0;
        later = k.1;
        stands = on k.0 k.1 k.3.0;
        added = more_handed begun a next all to_come (left_in_hand x.0) rest h both x.2;
      }
