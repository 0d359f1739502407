-- Why a file is refused, apart from which fault it has.
use Rattle.std.proofs.Common.{ℕ, Bool, List, Option}
use Rattle.mp4_boxes.specs.declared.refusal.Refusal.{Refusal}
use Rattle.mp4_boxes.specs.declared.refusal.Refusal.TheVariants as refusals
use Rattle.mp4_boxes.specs.declared.fault.Fault.{Fault}
use Rattle.mp4_head.specs.words.FaultNamed.{RefusesFirst}
use Rattle.mp4_present.specs.words.Reading.{RefusesHeader}
use Rattle.mp4_present.specs.words.Refusing.{MeetsFault, RefusesSearch}

-- a header of the file itself is not read
pub not_headed : (honest : Bool) (file : List ℕ) (at reads reads_after : ℕ) (r : Refusal) → RefusesHeader honest file at reads reads_after r → RefusesSearch honest reads reads_after r
not_headed honest file at reads reads_after (refusals.Fault f) w = tt
not_headed honest file at reads reads_after refusals.Memory w = tt
not_headed honest file at reads reads_after refusals.StoreFailed w = w
not_headed honest file at reads reads_after refusals.StoreChanged w = absurd w
not_headed honest file at reads reads_after refusals.WriteFailed w = w
not_headed honest file at reads reads_after refusals.NoSuchTrack w = w

-- the head is not read
pub not_sound : (first : Option Fault) (r : Refusal) → RefusesFirst first r → MeetsFault r
not_sound first (refusals.Fault f) w = tt
not_sound first refusals.Memory w = tt
not_sound first refusals.StoreFailed w = w
not_sound first refusals.StoreChanged w = w
not_sound first refusals.WriteFailed w = w
not_sound first refusals.NoSuchTrack w = w
