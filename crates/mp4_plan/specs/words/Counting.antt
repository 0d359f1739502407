-- Samples that are counted until one doesn't go into a piece.
use Rattle.std.specs.Prelude.{◌≡◌, ℕ, ◌+◌, ◌≤◌, Bool, true, List, length, drop, Option, Some, slice_get}
use Rattle.std.specs.List.{prefix_len}
use Rattle.mp4_tables.specs.declared.sample.SampleAt.{SampleAt}
use Rattle.mp4_head.specs.format.Tree.{TrackTree}
use Rattle.mp4_present.specs.format.Denotes.{FileTree}
use Rattle.mp4_present.specs.words.InHand.{left_in_hand}
use Rattle.mp4_present.specs.words.Movies.{MovieSeen, InHandOf}
use Rattle.mp4_present.specs.declared.walking.in_hand.InHand.{InHand}
use Rattle.mp4_present.specs.declared.walking.in_hand.Place.{Place}
use Rattle.mp4_content.specs.declared.reduced.Reduction.{Reduction}
use Rattle.mp4_present.specs.declared.walking.Walk.{Walk}
use Rattle.mp4_content.specs.words.ComingLess.{ComesLess, less}
use Rattle.mp4_plan.specs.words.Gathering.{count_of, piece_fed, piece_from, samples_after}
use Rattle.mp4_plan.specs.declared.ends.End.{End}

-- so many of the first samples pass a test, and the others are left
pub record CountsFirst (test : SampleAt → Bool) (n : ℕ) (all left : List SampleAt) : Type 0 where
  pub few : n ≤ length all
  pub same : prefix_len test all ≡ n + prefix_len test left
  pub rest : left ≡ drop n all

-- where the next one passes too, there was room for no more
abbrev pub StopsAt : (SampleAt → Bool) → ℕ → ℕ → Option SampleAt → Type 0
StopsAt test most n next = (s : SampleAt) → next ≡ Some s → test s ≡ true → n ≡ most

-- So many were counted of what is left of the samples in hand of a walk, before this one, and the
-- walk goes on from a place.
pub record HandCounted (l : Reduction) (m : MovieSeen) (w : Walk) (test : SampleAt → Bool)
    (most n : ℕ) (next : Option SampleAt) (place : Place) : Type 0 where
  pub hand : InHand
  pub is_hand : InHandOf m w hand
  pub later : InHand
  pub is_later : InHandOf m (record w { place = place }) later
  pub counts : CountsFirst test n (less l (left_in_hand hand)) (less l (left_in_hand later))
  pub shown : next ≡ slice_get (less l (left_in_hand later)) 0
  pub few : n ≤ most
  pub stops : StopsAt test most n next

-- All were counted that pass, of the samples that came; the others still come, before this one.
pub record HasCounted (l : Reduction) (file : List ℕ) (tree : FileTree) (t : TrackTree)
    (m : MovieSeen) (w : Walk) (test : SampleAt → Bool) (samples : List SampleAt) (n : ℕ)
    (next : Option SampleAt) : Type 0 where
  pub counts : n ≡ prefix_len test samples
  pub comes : ComesLess l file tree t m w (drop n samples)
  pub shown : next ≡ slice_get (drop n samples) 0

-- So many samples go into the piece with this end; the others still come, before this one.
pub record PieceCounted (l : Reduction) (file : List ℕ) (tree : FileTree) (t : TrackTree)
    (m : MovieSeen) (w : Walk) (end : End) (samples : List SampleAt) (n : ℕ)
    (next : Option SampleAt) : Type 0 where
  pub counts : n ≡ count_of (piece_fed (piece_from end) samples).gathered
  pub comes : ComesLess l file tree t m w (samples_after (piece_from end) samples)
  pub shown : next ≡ slice_get (samples_after (piece_from end) samples) 0
