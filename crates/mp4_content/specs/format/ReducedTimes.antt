-- Where what remains of a presentation has no normal form: which fault that is.
use Rattle.std.specs.Prelude.{◌≡◌, ◌⊎◌, ℕ, List, take, slice_get, Some, codes}
use Rattle.std.specs.List.{AllByRecursion}
use Rattle.mp4_boxes.specs.format.BoxFaults.{fault_of}
use Rattle.mp4_boxes.specs.declared.fault.Fault.{Fault}
use Rattle.mp4_boxes.specs.declared.fault.Kind.TheVariants.{OffsetTooLarge, TimeTooLarge}
use Rattle.mp4_head.specs.format.Tree.{TrackTree, first_of}
use Rattle.mp4_present.specs.format.Presentation.{Presentation, Track, IsInTime}
use Rattle.mp4_content.specs.format.Reduced.{HasNearOffsets, ReducesInRange, ReducesInTime}
use Rattle.mp4_content.specs.format.Remaining.{movie_divisor, remaining_movie, remaining_track}
use Rattle.mp4_content.specs.declared.without.Without.{Without}

-- What is left before times are divided has a normal form: its tracks are not too long, and their
-- composition offsets fit.
pub record ReducesInLimits (l : Without) (p : Presentation) : Type 0 where
  pub in_time : ReducesInTime l p
  pub in_range : ReducesInRange l p

-- What remains of a track of a presentation is not too long, and its composition offsets fit.
abbrev pub IsLeftInTime : Without → Presentation → Track → Type 0
IsLeftInTime l p t = IsInTime (remaining_movie l (movie_divisor l p) p.movie).timescale
    (remaining_track l (movie_divisor l p) t)

abbrev pub IsLeftNear : Without → Presentation → Track → Type 0
IsLeftNear l p t = HasNearOffsets (remaining_track l (movie_divisor l p) t)

-- a fault of a track with these boxes: it is too long then, or else an offset doesn't fit
abbrev pub IsFaultLeft : Without → Presentation → Track → TrackTree → Fault → Type 0
IsFaultLeft l p t boxes f = ((IsLeftInTime l p t → ⊥)
    × (f ≡ fault_of TimeTooLarge (first_of (codes "tkhd") boxes.track)))
    ⊎ (IsLeftInTime l p t × (IsLeftNear l p t → ⊥)
    × (f ≡ fault_of OffsetTooLarge (first_of (codes "tkhd") boxes.track)))

-- It is of the first of these tracks of which that isn't so, which have these boxes one by one.
pub record FailsLeft (l : Without) (p : Presentation) (tracks : List Track)
    (boxes : List TrackTree) (f : Fault) : Type 0 where
  pub place : ℕ
  pub t : Track
  pub its : TrackTree
  pub is_there : slice_get tracks place ≡ Some t
  pub has_boxes : slice_get boxes place ≡ Some its
  pub before : AllByRecursion (λ (u : Track). IsLeftInTime l p u × IsLeftNear l p u)
      (take place tracks)
  pub named : IsFaultLeft l p t its f
