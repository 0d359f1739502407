-- A copy of a file in which the boxes of some types are free space (ISO/IEC 14496-12, 8.1.2).
use Rattle.std.specs.Prelude.{◌≡◌, ℕ, ◌+◌, ◌-◌, ◌<◌, List, [], ◌++◌, length, take, drop, Bool, true, false, IsTrue, not, ◌&&◌, Option, None, Some, Ok, Err, codes, bytes_eq}
use Rattle.std.specs.List.{list_any}
use Rattle.mp4_store.specs.words.Device.{HasRisen}
use Rattle.mp4_boxes.specs.format.Box.{Header, header_at}
use Rattle.mp4_boxes.specs.format.BoxFaults.{header_there}
use Rattle.mp4_boxes.specs.format.Children.{allows}
use Rattle.mp4_boxes.specs.declared.four_cc.FourCc.{FourCc}
use Rattle.mp4_boxes.specs.declared.rule.Rule.{Rule}
use Rattle.mp4_boxes.specs.declared.rule.Rule.TheVariants as rules
use Rattle.mp4_boxes.specs.declared.fault.Fault.{Fault}
use Rattle.mp4_boxes.specs.declared.refusal.Refusal.{Refusal}
use Rattle.mp4_boxes.specs.declared.refusal.Refusal.TheVariants as refusals
use Rattle.mp4_answers.specs.format.BoxWalk.{rule_inside}
use Rattle.mp4_answers.specs.format.Texts.{uuid_in}
use Rattle.mp4_answers.specs.declared.box_names.Name.{Name}
use Rattle.mp4_answers.specs.declared.box_names.Name.TheVariants as names

-- ---- which boxes are named

-- the type of the container whose boxes lie under a rule
abbrev pub holder : Rule → List ℕ
holder rules.File = codes "file"
holder rules.Movie = codes "moov"
holder rules.Track = codes "trak"
holder rules.Edits = codes "edts"
holder rules.Media = codes "mdia"
holder rules.MediaInformation = codes "minf"
holder rules.DataInformation = codes "dinf"
holder rules.SampleTable = codes "stbl"
holder rules.MovieExtends = codes "mvex"
holder rules.MovieFragment = codes "moof"
holder rules.TrackFragment = codes "traf"

-- a name without a container means boxes in all of them
abbrev pub is_in : Option FourCc → Rule → Bool
is_in None rule = true
is_in (Some container) rule = bytes_eq container.0 (holder rule)

-- these are the 16 bytes that say which `uuid` a box is, if it has them
abbrev pub is_uuid : List ℕ → Option (List ℕ) → Bool
is_uuid bytes None = false
is_uuid bytes (Some own) = bytes_eq bytes own

-- the boxes of a type, the `uuid` boxes with these 16 bytes, or the boxes that the profile refuses
-- where they stand
abbrev pub means : Rule → List ℕ → Option (List ℕ) → Name → Bool
means rule kind uuid (names.Type container named) = bytes_eq named.0 kind && is_in container rule
means rule kind uuid (names.Uuid container bytes) = is_uuid bytes uuid && is_in container rule
means rule kind uuid names.Foreign = not (allows rule kind)

-- some name means boxes of this type, and of these 16 bytes if they are `uuid`, under the rule
abbrev pub is_named : List Name → Rule → List ℕ → Option (List ℕ) → Bool
is_named names rule kind uuid = list_any (means rule kind uuid) names

-- ---- what stands for them

-- size 0, "to the end of the file", is allowed at top level alone
abbrev pub is_top : Rule → Bool
is_top rules.File = true
is_top _ = false

-- a box of which the type is `free`; its size and all behind the type stay
abbrev pub freed : List ℕ → List ℕ
freed bytes = take 4 bytes ++ (codes "free" ++ drop 8 bytes)

-- the payload of the box with this header in front of these bytes
abbrev pub payload_behind : Header → List ℕ → List ℕ
payload_behind h bytes = take (h.size - h.length) (drop h.length bytes)

-- and the 16 bytes that say which it is, if it is a `uuid` that has them
abbrev pub uuid_at : Header → List ℕ → Option (List ℕ)
uuid_at h bytes = uuid_in h.kind (payload_behind h bytes)

-- What stands for bytes that are boxes, end to end under a rule, where the named are free space:
-- box by box, and in a container that is no named box, for its boxes in turn.
pub data Strips (names : List Name) : Rule → List ℕ → List ℕ → Type 0 where
  ends : (rule : Rule) (bytes text : List ℕ) → bytes ≡ [] → text ≡ [] → Strips names rule bytes text
  frees : (rule : Rule) (bytes text : List ℕ) (h : Header) (rest : List ℕ)
      → header_at (is_top rule) bytes ≡ Ok h → is_named names rule h.kind (uuid_at h bytes) ≡ true
      → Strips names rule (drop h.size bytes) rest → text ≡ freed (take h.size bytes) ++ rest
      → Strips names rule bytes text
  keeps : (rule : Rule) (bytes text : List ℕ) (h : Header) (rest : List ℕ)
      → header_at (is_top rule) bytes ≡ Ok h → is_named names rule h.kind (uuid_at h bytes) ≡ false
      → rule_inside rule h.kind ≡ None
      → Strips names rule (drop h.size bytes) rest → text ≡ take h.size bytes ++ rest
      → Strips names rule bytes text
  enters : (rule : Rule) (bytes text : List ℕ) (h : Header) (inner : Rule) (inside rest : List ℕ)
      → header_at (is_top rule) bytes ≡ Ok h → is_named names rule h.kind (uuid_at h bytes) ≡ false
      → rule_inside rule h.kind ≡ Some inner → Strips names inner (payload_behind h bytes) inside
      → Strips names rule (drop h.size bytes) rest → text ≡ take h.length bytes ++ (inside ++ rest)
      → Strips names rule bytes text

-- these bytes are the file's copy without the named boxes
abbrev pub IsStripped : List Name → List ℕ → List ℕ → Type 0
IsStripped names file text = Strips names rules.File file text

-- A header among boxes end to end, or in a container there that is no named box, can't be read. The
-- bytes lie at this place of the file.
pub data Halts (names : List Name) (f : Fault) : Rule → ℕ → List ℕ → Type 0 where
  here : (rule : Rule) (at : ℕ) (bytes : List ℕ) → 0 < length bytes
      → header_there (is_top rule) (length bytes) bytes (holder rule) at ≡ Err f
      → Halts names f rule at bytes
  behind : (rule : Rule) (at : ℕ) (bytes : List ℕ) (h : Header)
      → header_at (is_top rule) bytes ≡ Ok h → Halts names f rule (at + h.size) (drop h.size bytes)
      → Halts names f rule at bytes
  within : (rule : Rule) (at : ℕ) (bytes : List ℕ) (h : Header) (inner : Rule)
      → header_at (is_top rule) bytes ≡ Ok h → is_named names rule h.kind (uuid_at h bytes) ≡ false
      → rule_inside rule h.kind ≡ Some inner
      → Halts names f inner (at + h.length) (payload_behind h bytes) → Halts names f rule at bytes

-- ---- why a copy is not put

-- why a header is not read
abbrev pub RefusesHeaderUnder : Bool → List ℕ → Rule → ℕ → ℕ → ℕ → Refusal → Type 0
RefusesHeaderUnder honest bytes rule at reads reads_after (refusals.Fault f) = IsTrue honest
    → header_there (is_top rule) (length bytes) bytes (holder rule) at ≡ Err f
RefusesHeaderUnder honest bytes rule at reads reads_after refusals.StoreFailed =
    HasRisen reads reads_after
RefusesHeaderUnder honest bytes rule at reads reads_after _ = ⊥

-- why one that was read before is not read: it has a fault now, or the read failed
abbrev pub RefusesHeaderAgain : Bool → List ℕ → Rule → ℕ → ℕ → ℕ → Refusal → Type 0
RefusesHeaderAgain honest bytes rule at reads reads_after refusals.StoreChanged = IsTrue honest
    → (f : Fault) × (header_there (is_top rule) (length bytes) bytes (holder rule) at ≡ Err f)
RefusesHeaderAgain honest bytes rule at reads reads_after refusals.StoreFailed =
    HasRisen reads reads_after
RefusesHeaderAgain honest bytes rule at reads reads_after _ = ⊥

-- why boxes end to end are not walked over
abbrev pub RefusesWalk : List Name → Bool → Rule → ℕ → List ℕ → ℕ → ℕ → Refusal → Type 0
RefusesWalk names honest rule at bytes reads reads_after (refusals.Fault f) = IsTrue honest
    → Halts names f rule at bytes
RefusesWalk names honest rule at bytes reads reads_after refusals.StoreFailed =
    HasRisen reads reads_after
RefusesWalk names honest rule at bytes reads reads_after _ = ⊥

-- why they are not, where room is taken on the way
abbrev pub RefusesFind : List Name → Bool → Rule → ℕ → List ℕ → ℕ → ℕ → Refusal → Type 0
RefusesFind names honest rule at bytes reads reads_after refusals.Memory = Unit {0}
RefusesFind names honest rule at bytes reads reads_after r =
    RefusesWalk names honest rule at bytes reads reads_after r

-- why the boxes of a file are not looked through: a header that halts, a failed read, or no memory
abbrev pub RefusesLook : List Name → Bool → List ℕ → ℕ → ℕ → Refusal → Type 0
RefusesLook names honest file reads reads_after r =
    RefusesFind names honest rules.File 0 file reads reads_after r
