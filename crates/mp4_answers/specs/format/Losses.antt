-- What is lost with boxes that become free space since the profile refuses them where they stand.
use Rattle.std.specs.Prelude.{◌≡◌, ℕ, ◌+◌, ◌==◌, List, [], ◌∷◌, drop, Bool, true, false, not, ◌&&◌, if◌then◌else◌, Option, None, Some, option_map, Ok, codes, bytes_eq}
use Rattle.std.specs.Int.{w128, from_be_bytes}
use Rattle.std.specs.List.{list_any}
use Rattle.mp4_boxes.specs.format.Box.{Header, header_at}
use Rattle.mp4_boxes.specs.format.Children.{is_among}
use Rattle.mp4_boxes.specs.declared.fault.Kind.TheVariants as kinds
use Rattle.mp4_boxes.specs.declared.refusal.Refusal.{Refusal}
use Rattle.mp4_boxes.specs.declared.refusal.Refusal.TheVariants as refusals
use Rattle.mp4_boxes.specs.declared.rule.Rule.{Rule}
use Rattle.mp4_boxes.specs.declared.rule.Rule.TheVariants as rules
use Rattle.mp4_answers.specs.format.BoxWalk.{rule_inside}
use Rattle.mp4_answers.specs.format.Strips.{is_top, is_named, means, payload_behind, uuid_at}
use Rattle.mp4_answers.specs.declared.box_names.Name.{Name}
use Rattle.mp4_answers.specs.declared.box_names.Name.TheVariants as names
use Rattle.mp4_answers.specs.declared.commands.freed_boxes.Loss.{Loss}
use Rattle.mp4_answers.specs.declared.commands.freed_boxes.Loss.TheVariants as losses
use Rattle.mp4_answers.specs.declared.commands.freed_boxes.LostBox.{LostBox}

-- ---- the table

-- boxes without which encrypted samples can't be read (ISO/IEC 23001-7, 7 and 8; 14496-12, 8.7.8
-- and 8.7.9)
abbrev pub encryption_kinds : List (List ℕ)
encryption_kinds = codes "senc" ∷ codes "saiz" ∷ codes "saio" ∷ codes "pssh" ∷ []

-- the same as `uuid`: of sample encryption, of track encryption and of protection systems
-- (Protected Interoperable File Format, 5.3)
abbrev pub encryption_uuids : List ℕ
encryption_uuids = 0xa2394f525a9b4f14a2446c427c648df4 ∷ 0x8974dbce7be74c5184f97148f9882554
    ∷ 0xd08a4f1810f34a82b6c832d8aba183d3 ∷ []

-- the `uuid` that tells when a fragment of a track begins (Smooth Streaming)
abbrev pub time_uuid : ℕ
time_uuid = 0x6d1d9b0542d544e680e2141daff757b2

-- boxes that say flags or groups of samples in another way than the profile reads: `stdp` (8.5.3),
-- `stsh` (8.6.3), `sdtp` (8.6.4), `padb` (8.7.6), `subs` (8.7.7), `sgpd` (8.9.3), `csgp` (compact
-- groups, 8.9.5), `stps` (partial sync samples, QuickTime)
abbrev pub flag_kinds : Rule → List (List ℕ)
flag_kinds rules.TrackFragment =
    codes "sdtp" ∷ codes "subs" ∷ codes "sgpd" ∷ codes "csgp" ∷ []
flag_kinds rules.SampleTable = codes "stps" ∷ codes "stsh" ∷ codes "padb" ∷ codes "stdp"
    ∷ codes "subs" ∷ codes "csgp" ∷ []
flag_kinds _ = []

-- where `meta` (8.11.1) holds items
abbrev pub holds_items : Rule → Bool
holds_items rules.File = true
holds_items rules.MovieFragment = true
holds_items rules.TrackFragment = true
holds_items _ = false

abbrev pub is_fragment : Rule → Bool
is_fragment rules.TrackFragment = true
is_fragment _ = false

-- with a `uuid`, in a container that keeps a `tfdt` or not
abbrev pub uuid_loss : Rule → Option ℕ → Bool → Option Loss
uuid_loss rule None has_time = None
uuid_loss rule (Some uuid) has_time =
    if list_any (λ u. u == uuid) encryption_uuids then Some losses.Encryption
    else if (uuid == time_uuid) && is_fragment rule && not has_time then Some losses.Times
    else None

-- with a box of this type under the rule; `emsg` holds an event (ISO/IEC 23009-1, 5.10.3.3)
abbrev pub loss_of : Rule → List ℕ → Option ℕ → Bool → Option Loss
loss_of rule kind uuid has_time =
    if is_among encryption_kinds kind then Some losses.Encryption
    else if bytes_eq kind (codes "uuid") then uuid_loss rule uuid has_time
    else if is_among (flag_kinds rule) kind then Some losses.Flags
    else if bytes_eq kind (codes "emsg") then Some losses.Events
    else if bytes_eq kind (codes "meta") && holds_items rule then Some losses.Items
    else None

-- ---- the first box with which something is lost

abbrev pub is_foreign : Name → Bool
is_foreign names.Foreign = true
is_foreign _ = false

-- the first name that means the box is that of boxes that the profile refuses
abbrev pub is_named_foreign : Rule → List ℕ → Option (List ℕ) → List Name → Bool
is_named_foreign rule kind uuid [] = false
is_named_foreign rule kind uuid (n ∷ names) =
    if means rule kind uuid n then is_foreign n else is_named_foreign rule kind uuid names

-- what is lost with a box at this place of the file; nothing where a name of its own means it
abbrev pub lost_with : List Name → Rule → Bool → ℕ → List ℕ → Option (List ℕ) → Option LostBox
lost_with names rule has_time at kind uuid = if is_named_foreign rule kind uuid names
    then option_map (λ (l : Loss). record { offset = at; kind = record { 0 = kind }; loss = l })
    (loss_of rule kind (option_map (from_be_bytes w128) uuid) has_time)
    else None

-- among boxes end to end there is one of a type, or is none
pub data HasBox (kind : List ℕ) (top : Bool) : List ℕ → Bool → Type 0 where
  ends : (bytes : List ℕ) → bytes ≡ [] → HasBox kind top bytes false
  here : (bytes : List ℕ) (h : Header) → header_at top bytes ≡ Ok h
      → bytes_eq h.kind kind ≡ true → HasBox kind top bytes true
  behind : (bytes : List ℕ) (h : Header) (has : Bool) → header_at top bytes ≡ Ok h
      → bytes_eq h.kind kind ≡ false → HasBox kind top (drop h.size bytes) has
      → HasBox kind top bytes has

-- where that is asked for, the bytes have a `tfdt`
abbrev pub KeepsIf : Bool → Rule → List ℕ → Bool → Type 0
KeepsIf true rule bytes has = HasBox (codes "tfdt") (is_top rule) bytes has
KeepsIf false rule bytes has = has ≡ false

-- a fragment of a track keeps its `tfdt` (8.8.12), which tells when it begins
abbrev pub KeepsTime : List Name → Rule → List ℕ → Bool → Type 0
KeepsTime names rule bytes has =
    KeepsIf (is_fragment rule && not (is_named names rule (codes "tfdt") None)) rule bytes has

-- the first of these that is one
abbrev pub earlier : Option LostBox → Option LostBox → Option LostBox
earlier None later = later
earlier (Some l) later = Some l

-- The first box with which something is lost, of bytes that are boxes, end to end under a rule, at
-- this place of the file: box by box, and of a container that is no named box, of its boxes in turn
-- (as `Strips`).
pub data FirstLost (names : List Name)
    : Rule → Bool → ℕ → List ℕ → Option LostBox → Type 0 where
  none : (rule : Rule) (has : Bool) (at : ℕ) (bytes : List ℕ) (lost : Option LostBox)
      → bytes ≡ [] → lost ≡ None → FirstLost names rule has at bytes lost
  freed : (rule : Rule) (has : Bool) (at : ℕ) (bytes : List ℕ) (lost : Option LostBox)
      (h : Header) (rest : Option LostBox) → header_at (is_top rule) bytes ≡ Ok h
      → is_named names rule h.kind (uuid_at h bytes) ≡ true
      → FirstLost names rule has (at + h.size) (drop h.size bytes) rest
      → lost ≡ earlier (lost_with names rule has at h.kind (uuid_at h bytes)) rest
      → FirstLost names rule has at bytes lost
  kept : (rule : Rule) (has : Bool) (at : ℕ) (bytes : List ℕ) (lost : Option LostBox)
      (h : Header) → header_at (is_top rule) bytes ≡ Ok h
      → is_named names rule h.kind (uuid_at h bytes) ≡ false → rule_inside rule h.kind ≡ None
      → FirstLost names rule has (at + h.size) (drop h.size bytes) lost
      → FirstLost names rule has at bytes lost
  entered : (rule : Rule) (has : Bool) (at : ℕ) (bytes : List ℕ) (lost : Option LostBox)
      (h : Header) (inner : Rule) (own : Bool) (inside rest : Option LostBox)
      → header_at (is_top rule) bytes ≡ Ok h
      → is_named names rule h.kind (uuid_at h bytes) ≡ false
      → rule_inside rule h.kind ≡ Some inner
      → KeepsTime names inner (payload_behind h bytes) own
      → FirstLost names inner own (at + h.length) (payload_behind h bytes) inside
      → FirstLost names rule has (at + h.size) (drop h.size bytes) rest
      → lost ≡ earlier inside rest → FirstLost names rule has at bytes lost

abbrev pub IsFirstLost : List Name → List ℕ → Option LostBox → Type 0
IsFirstLost names file lost = FirstLost names rules.File false 0 file lost

-- ---- what is told of it

-- a name whose boxes are looked at one by one, since they differ in what is lost with them; those
-- of any other name are only counted
abbrev pub asks : Name → Bool
asks (names.Type container kind) = bytes_eq kind.0 (codes "uuid")
asks (names.Uuid container uuid) = true
asks names.Foreign = true

-- it is asked which boxes become free space, and not only how many
abbrev pub asks_which : List Name → Bool
asks_which names = list_any asks names

-- nothing is put where something is lost
abbrev pub refusal_with : LostBox → Refusal
refusal_with l = refusals.Fault
    (record { kind = kinds.BoxNotInProfile; box_type = l.kind.0; offset = l.offset })

-- but where that is allowed
abbrev pub loss_refusal : Bool → Option LostBox → Option Refusal
loss_refusal is_lossy lost = if is_lossy then None else option_map refusal_with lost
