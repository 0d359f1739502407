-- The samples in hand.
use Rattle.std.specs.Prelude.{◌≡◌, ℕ, ◌+◌, ◌≤◌, List, drop}
use Rattle.std.proofs.Common.{◌∙◌, ap, refl}
use Rattle.std.proofs.lemmas.List.{drop-drop}
use Rattle.std.proofs.Math.Nat.{le_refl, le_trans}
use Rattle.mp4_tables.specs.words.Accepted.{IsPlace, passed}
use Rattle.mp4_tables.specs.words.TablesSeen.{samples_from}
use Rattle.mp4_tables.specs.declared.sample.SampleAt.{SampleAt}
use Rattle.mp4_frag.specs.words.PlacesIn.{IsPlaceIn}
use Rattle.mp4_frag.specs.words.Walks.{samples_coming}
use Rattle.mp4_frag.specs.words.Times.{TimeGoesOn}
use Rattle.mp4_present.specs.declared.walking.in_hand.InHand.{InHand}
use Rattle.mp4_present.specs.declared.walking.in_hand.InHand.TheVariants as hands
use Rattle.mp4_present.specs.declared.walking.in_hand.Place.{Place}
use Rattle.mp4_present.specs.declared.walking.in_hand.Place.TheVariants as places

-- the samples still to come
abbrev pub left_in_hand : InHand → List SampleAt
left_in_hand (hands.Tables c) = samples_from c
left_in_hand (hands.Fragment c) = samples_coming c

-- they are the last of all
abbrev pub AreLast : List SampleAt → List SampleAt → Type 0
AreLast all left = (n : ℕ) × (left ≡ drop n all)

-- the same samples later
abbrev pub Follows : InHand → InHand → Type 0
Follows (hands.Tables a) (hands.Tables b) = (b.tables ≡ a.tables)
    × (passed a.place ≤ passed b.place)
Follows (hands.Fragment a) (hands.Fragment b) = (b.payload ≡ a.payload)
    × (a.place.passed ≤ b.place.passed) × TimeGoesOn a b
    × AreLast (samples_coming a) (samples_coming b)
Follows _ _ = ⊥

-- it is a place among these samples, and theirs
abbrev pub IsPlaceOf : InHand → Place → Type 0
IsPlaceOf (hands.Tables c) (places.Tables p) = (p ≡ c.place)
    × IsPlace c.tables.payload c.tables.at p
IsPlaceOf (hands.Fragment c) (places.Fragment p) = (p ≡ c.place) × IsPlaceIn c.payload p
IsPlaceOf _ _ = ⊥

-- all are the last, and the last of the last are
pub last_all : (all : List SampleAt) → AreLast all all
last_all all = (0, refl)

pub last_of_last : (all mid left : List SampleAt) → AreLast all mid → AreLast mid left
    → AreLast all left
last_of_last all mid left p q = (p.0 + q.0, q.1 ∙ ap (drop q.0) p.1 ∙ drop-drop q.0 p.0 all)

-- they are the same as themselves, and later ones of later ones are later ones
pub follows_itself : (s : InHand) → Follows s s
follows_itself (hands.Tables c) = (refl, le_refl _)
follows_itself (hands.Fragment c) = (refl, le_refl _, refl, last_all (samples_coming c))

pub follows_on : (s t u : InHand) → Follows s t → Follows t u → Follows s u
follows_on (hands.Tables a) (hands.Tables b) (hands.Tables c) p q = (q.0 ∙ p.0, le_trans p.1 q.1)
follows_on (hands.Fragment a) (hands.Fragment b) (hands.Fragment c) p q = (
  q.0 ∙ p.0,
  le_trans p.1 q.1,
  q.2 ∙ p.2,
  last_of_last (samples_coming a) (samples_coming b) (samples_coming c) p.3 q.3,
)
follows_on (hands.Tables a) (hands.Tables b) (hands.Fragment c) p q = absurd q
follows_on (hands.Tables a) (hands.Fragment b) c p q = absurd p
follows_on (hands.Fragment a) (hands.Fragment b) (hands.Tables c) p q = absurd q
follows_on (hands.Fragment a) (hands.Tables b) c p q = absurd p
