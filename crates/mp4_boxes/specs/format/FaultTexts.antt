-- What is said of a fault, and of a call that gave no answer.
use Rattle.std.specs.Prelude.{ℕ, zero, suc, ◌+◌, ◌/◌, ◌%◌, ◌^◌, nat_le, nat_lt, ◌&&◌, if◌then◌else◌, List, [], ◌∷◌, ◌++◌, flat_map, codes, decimal}
use Rattle.std.specs.List.{list_all}
use Rattle.mp4_boxes.specs.declared.fault.Fault.{Fault}
use Rattle.mp4_boxes.specs.declared.fault.Kind.{Kind}
use Rattle.mp4_boxes.specs.declared.fault.Kind.TheVariants as kinds
use Rattle.mp4_boxes.specs.declared.refusal.Refusal.{Refusal}
use Rattle.mp4_boxes.specs.declared.refusal.Refusal.TheVariants as refusals

-- a hexadecimal digit in lower case
abbrev pub hex_digit : ℕ → ℕ
hex_digit d = if nat_lt d 10 then 48 + d else 87 + d

-- k hexadecimal digits
abbrev pub hex_digits : ℕ → ℕ → List ℕ
hex_digits zero n = []
hex_digits (suc k) n = hex_digit (n / 16 ^ k % 16) ∷ hex_digits k n

-- a box's type: its four characters if all can be printed, else hexadecimal
abbrev pub type_text : List ℕ → List ℕ
type_text kind = if list_all (λ b. nat_le 32 b && nat_le b 126) kind then kind
    else flat_map (hex_digits 2) kind

-- the name of a kind
abbrev pub kind_text : Kind → List ℕ
kind_text kinds.ShortHeader = codes "ShortHeader"
kind_text kinds.BadSize = codes "BadSize"
kind_text kinds.Overrun = codes "Overrun"
kind_text kinds.ShortBox = codes "ShortBox"
kind_text kinds.BoxNotInProfile = codes "BoxNotInProfile"
kind_text kinds.DuplicateBox = codes "DuplicateBox"
kind_text kinds.MissingBox = codes "MissingBox"
kind_text kinds.BadVersion = codes "BadVersion"
kind_text kinds.BadFlags = codes "BadFlags"
kind_text kinds.BadValue = codes "BadValue"
kind_text kinds.OutsideData = codes "OutsideData"
kind_text kinds.CountMismatch = codes "CountMismatch"
kind_text kinds.BadOrder = codes "BadOrder"
kind_text kinds.BadDescriptionIndex = codes "BadDescriptionIndex"
kind_text kinds.SampleOutsideFile = codes "SampleOutsideFile"
kind_text kinds.UnknownTrack = codes "UnknownTrack"
kind_text kinds.Gap = codes "Gap"
kind_text kinds.OffsetTooLarge = codes "OffsetTooLarge"
kind_text kinds.ItemLocation = codes "ItemLocation"
kind_text kinds.TooManySamples = codes "TooManySamples"
kind_text kinds.TimeTooLarge = codes "TimeTooLarge"
kind_text kinds.MovieTooLarge = codes "MovieTooLarge"
kind_text kinds.FragmentBeforeMovie = codes "FragmentBeforeMovie"

-- the kind, and where the box stands that it names
abbrev pub fault_text : Fault → List ℕ
fault_text f = kind_text f.kind ++ codes " in " ++ type_text f.box_type ++ codes " at "
    ++ decimal f.offset

-- the line on standard error, without its line feed
abbrev pub fault_line : Refusal → List ℕ
fault_line (refusals.Fault f) = codes "refused: " ++ fault_text f
fault_line refusals.Memory = codes "failed: memory"
fault_line refusals.StoreFailed = codes "failed: store"
fault_line refusals.StoreChanged = codes "failed: store changed"
fault_line refusals.WriteFailed = codes "failed: write"
fault_line refusals.NoSuchTrack = codes "failed: no such track"
