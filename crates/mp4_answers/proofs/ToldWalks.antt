-- The texts of a walk's samples: hand after hand, from the first sample of the track to its last.
use Rattle.std.proofs.Common.{◌≡◌, ℕ, List, [], ◌++◌, length, ap, subst, ◌∙◌}
use Rattle.std.specs.Prelude.{flat_map}
use Rattle.mp4_boxes.proofs.Joined.{all_first, all_last}
use Rattle.mp4_store.specs.words.Device.{TakesPrefix}
use Rattle.mp4_store.proofs.Known.{IsJoining}
use Rattle.mp4_tables.specs.declared.sample.SampleAt.{SampleAt}
use Rattle.mp4_frag.specs.words.OwnTrafs.{PlacedTraf}
use Rattle.mp4_head.specs.format.Tree.{TrackTree}
use Rattle.mp4_present.specs.format.Denotes.{FileTree}
use Rattle.mp4_present.specs.words.Carried.{BytesGoOn}
use Rattle.mp4_present.specs.words.InHand.{left_in_hand}
use Rattle.mp4_present.specs.words.Joined.{IsBelow}
use Rattle.mp4_present.specs.words.Movies.{MovieSeen, InHandOf}
use Rattle.mp4_present.specs.words.SamplesComing.{StandsBefore, Comes, samples_behind}
use Rattle.mp4_present.specs.declared.walking.in_hand.InHand.{InHand}
use Rattle.mp4_present.specs.declared.walking.Walk.{Walk}
use Rattle.mp4_present.proofs.WalkCopied.{StandsOn, hand_one}
use Rattle.mp4_answers.specs.words.PrintedTracks.{LieBelow}
use Rattle.mp4_answers.proofs.Going.{Going, going_none}
use Rattle.mp4_answers.proofs.TextsGoOn.{text_next, text_fails}
use Rattle.mp4_answers.proofs.Told.{flat_two}

module _ (f : SampleAt → List ℕ) where
  -- ---- samples in hand, some at a time

  -- The texts of the first samples are put or wait; these are to come, and lie in the file as all do.
  pub record HandTold (n : ℕ) (Took : List ℕ → Type 0) (held held_after : List ℕ) (all to_come : List SampleAt) : Type 0 where
    pub lie : LieBelow n to_come
    pub goes : Going Took held held_after (flat_map f to_come) (flat_map f all)

  pub hand_begun : (n : ℕ) (Took : List ℕ → Type 0) (nothing : Took []) (held : List ℕ) (all : List SampleAt) → LieBelow n all → HandTold n Took held held all all
  hand_begun n Took nothing held all lie = record { lie = lie; goes = going_none Took nothing held (flat_map f all) }

  module _ (n : ℕ) {Y : Type 0} {takes : Y → Y → List ℕ → Type 0} (joins : IsJoining takes) (a b c : Y) (held held_b : List ℕ) (all : List SampleAt) where
    -- the next of them
    module _ (these rest : List SampleAt) (h : HandTold n (takes a b) held held_b all (these ++ rest)) where
      pub some_lie : LieBelow n these
      some_lie = all_first (IsBelow n) these rest h.lie

      pub some_told : (held_c : List ℕ) → BytesGoOn (takes b c) held_b held_c (flat_map f these) → HandTold n (takes a c) held held_c all rest
      some_told held_c p = record {
        lie = all_last (IsBelow n) these rest h.lie;
        goes = text_next joins a b c held held_b (flat_map f (these ++ rest)) (flat_map f all) h.goes held_c (flat_map f these) (flat_map f rest) (flat_two f these rest) p;
      }

      pub some_fail : TakesPrefix (takes b c) (held_b ++ flat_map f these) → TakesPrefix (takes a c) (held ++ flat_map f all)
      some_fail p = text_fails joins a b c held held_b (flat_map f (these ++ rest)) (flat_map f all) h.goes (flat_map f these) (flat_map f rest) (flat_two f these rest) p

  -- ---- hand after hand

  -- The texts of the first samples are put or wait, and those behind these `traf`s are to come.
  pub record WalkTold (file : List ℕ) (tree : FileTree) (t : TrackTree) (Took : List ℕ → Type 0) (held held_after : List ℕ) (w : Walk) (all : List SampleAt) : Type 0 where
    pub earlier : List PlacedTraf
    pub later : List PlacedTraf
    pub stands : StandsBefore file tree t earlier later w
    pub told : HandTold (length file) Took held held_after all (samples_behind tree t earlier later)

  module _ (file : List ℕ) (tree : FileTree) (t : TrackTree) (m : MovieSeen) {Y : Type 0} {takes : Y → Y → List ℕ → Type 0} (joins : IsJoining takes) (a b c : Y) (held held_b : List ℕ) (w : Walk) (all to_come : List SampleAt)
      (h : HandTold (length file) (takes a b) held held_b all to_come) (k : Comes file tree t m w to_come) (x : InHand) (i : InHandOf m w x) where
    abbrev left : List SampleAt
    left = left_in_hand x

    abbrev rest : List SampleAt
    rest = samples_behind tree t k.0 k.1

    both : to_come ≡ left ++ rest
    both = k.3.2 ∙ ap (λ (y : InHand). left_in_hand y ++ rest) (hand_one m w k.2 x k.3.1 i)

    both_lie : LieBelow (length file) (left ++ rest)
    both_lie = subst (LieBelow (length file)) both h.lie

    texts_both : flat_map f to_come ≡ flat_map f left ++ flat_map f rest
    texts_both = ap (flat_map f) both ∙ flat_two f left rest

    -- what is in hand lies in the file
    pub left_lie : LieBelow (length file) left
    left_lie = all_first (IsBelow (length file)) left rest both_lie

    -- its texts are taken along
    pub hand_told : (held_c : List ℕ) (later_w : Walk) → BytesGoOn (takes b c) held_b held_c (flat_map f left) → StandsOn w later_w → WalkTold file tree t (takes a c) held held_c later_w all
    hand_told held_c later_w p on = record {
      earlier = k.0;
      later = k.1;
      stands = on file tree t k.0 k.1 k.3.0;
      told = record {
        lie = all_last (IsBelow (length file)) left rest both_lie;
        goes = text_next joins a b c held held_b (flat_map f to_come) (flat_map f all) h.goes held_c (flat_map f left) (flat_map f rest) texts_both p;
      };
    }

    -- or not whole
    pub hand_fails : TakesPrefix (takes b c) (held_b ++ flat_map f left) → TakesPrefix (takes a c) (held ++ flat_map f all)
    hand_fails p = text_fails joins a b c held held_b (flat_map f to_come) (flat_map f all) h.goes (flat_map f left) (flat_map f rest) texts_both p
