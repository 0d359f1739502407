-- Which boxes may stand in which container: this project's profile of ISO/IEC 14496-12, 6.2.2
-- (table of boxes).
use Rattle.std.specs.Prelude.{◌≡◌, ℕ, ◌+◌, ◌≤◌, List, [], ◌∷◌, ◌++◌, Bool, true, false, not, ◌&&◌, ◌||◌, nat_lt, IsTrue, Option, Some, None, codes, ⊤, bytes_eq, cond, unwrap_or, if◌then◌else◌}
use Rattle.std.specs.List.{list_any, AllByRecursion}
use Rattle.mp4_boxes.specs.format.Box.{Box, Container, Tiles}
use Rattle.mp4_boxes.specs.declared.rule.Rule.{Rule}
use Rattle.mp4_boxes.specs.declared.rule.Rule.TheVariants.{File, Movie, Track, Edits, Media, MediaInformation, DataInformation, SampleTable, MovieExtends, MovieFragment, TrackFragment}

-- how often boxes of a type, or of a group of types, may stand in a container
pub data Quantity : Type 0 where
  one : Quantity
  at_most_one : Quantity
  any : Quantity

-- a line of the table: types of which together so many may stand there
pub record Line : Type 0 where
  pub kinds : List (List ℕ)
  pub quantity : Quantity

abbrev pub each : Quantity → List (List ℕ) → List Line
each q [] = []
each q (kind ∷ kinds) = record { kinds = kind ∷ []; quantity = q } ∷ each q kinds

abbrev pub group : Quantity → List (List ℕ) → List Line
group q kinds = record { kinds = kinds; quantity = q } ∷ []

-- free space may stand in every container (8.1.2; `wide` is QuickTime's)
abbrev pub free_space : List (List ℕ)
free_space = codes "free" ∷ codes "skip" ∷ codes "wide" ∷ []

-- the one media header of `minf` (8.4.5; `gmhd` is QuickTime's)
abbrev pub media_headers : List (List ℕ)
media_headers = codes "vmhd" ∷ codes "smhd" ∷ codes "hmhd" ∷ codes "nmhd" ∷ codes "sthd"
    ∷ codes "gmhd" ∷ []

-- the types that are kept whole, as type and payload, by what they stand in
abbrev pub kept_kinds : Rule → List (List ℕ)
kept_kinds Movie = codes "udta" ∷ codes "iods" ∷ codes "meta" ∷ []
kept_kinds Track = codes "tref" ∷ codes "udta" ∷ codes "meta" ∷ []
kept_kinds Media = codes "elng" ∷ []
kept_kinds MediaInformation = media_headers
kept_kinds _ = []

-- chunk offsets of 32 or of 64 bits (8.7.5)
abbrev pub chunk_offsets : List (List ℕ)
chunk_offsets = codes "stco" ∷ codes "co64" ∷ []

-- sample sizes of 32 bits, or compact ones (8.7.3)
abbrev pub sample_sizes : List (List ℕ)
sample_sizes = codes "stsz" ∷ codes "stz2" ∷ []

-- the table, but for free space
abbrev pub table : Rule → List Line
table File = each one (codes "moov" ∷ [])
    ++ each any (codes "ftyp" ∷ codes "styp" ∷ codes "sidx" ∷ codes "mfra" ∷ codes "mdat"
    ∷ codes "moof" ∷ [])
table Movie = each one (codes "mvhd" ∷ []) ++ each at_most_one (codes "mvex" ∷ [])
    ++ each any (codes "trak" ∷ []) ++ group any (kept_kinds Movie)
table Track = each one (codes "tkhd" ∷ codes "mdia" ∷ []) ++ each at_most_one (codes "edts" ∷ [])
    ++ group any (kept_kinds Track)
table Edits = each at_most_one (codes "elst" ∷ [])
table Media = each one (codes "mdhd" ∷ codes "hdlr" ∷ codes "minf" ∷ [])
    ++ group any (kept_kinds Media)
table MediaInformation = group one media_headers ++ each one (codes "dinf" ∷ codes "stbl" ∷ [])
table DataInformation = each one (codes "dref" ∷ [])
table SampleTable = each one (codes "stsd" ∷ codes "stts" ∷ codes "stsc" ∷ [])
    ++ group one sample_sizes ++ group one chunk_offsets
    ++ each at_most_one (codes "ctts" ∷ codes "stss" ∷ codes "sdtp" ∷ codes "cslg" ∷ [])
    ++ each any (codes "sbgp" ∷ codes "sgpd" ∷ [])
table MovieExtends = each at_most_one (codes "mehd" ∷ []) ++ each any (codes "trex" ∷ [])
table MovieFragment = each one (codes "mfhd" ∷ []) ++ each any (codes "traf" ∷ [])
table TrackFragment = each one (codes "tfhd" ∷ []) ++ each at_most_one (codes "tfdt" ∷ [])
    ++ each any (codes "trun" ∷ codes "sbgp" ∷ [])

-- the type is one of these
abbrev pub is_among : List (List ℕ) → List ℕ → Bool
is_among kinds kind = list_any (λ k. bytes_eq k kind) kinds

-- boxes of the type may stand in the container
abbrev pub allows : Rule → List ℕ → Bool
allows rule kind = list_any (λ (line : Line). is_among line.kinds kind) (table rule)
    || is_among free_space kind

-- how many of the boxes have one of these types
abbrev pub count_among : List (List ℕ) → List Box → ℕ
count_among kinds [] = 0
count_among kinds (b ∷ boxes) = (if is_among kinds b.kind then 1 else 0) + count_among kinds boxes

-- at most one box of the line may stand
abbrev pub is_single : Quantity → Bool
is_single one = true
is_single at_most_one = true
is_single any = false

-- one box of the line must stand
abbrev pub is_needed : Quantity → Bool
is_needed one = true
is_needed at_most_one = false
is_needed any = false

-- a box of the type may not follow these, for one of its type or group is among them
abbrev pub repeats : Rule → List Box → List ℕ → Bool
repeats rule boxes kind = list_any (λ (line : Line). is_single line.quantity
    && (is_among line.kinds kind && nat_lt 0 (count_among line.kinds boxes))) (table rule)

-- a box that must stand is not among these
abbrev pub lacks : Rule → List Box → Bool
lacks rule boxes = list_any (λ (line : Line). is_needed line.quantity
    && not (nat_lt 0 (count_among line.kinds boxes))) (table rule)

abbrev pub IsQuantity : Quantity → ℕ → Type 0
IsQuantity one n = n ≡ 1
IsQuantity at_most_one n = n ≤ 1
IsQuantity any n = ⊤

-- these are the boxes of the container, and the table allows them and misses none
pub record Holds (rule : Rule) (c : Container) (boxes : List Box) : Type 0 where
  pub tiles : Tiles c boxes
  pub allowed : AllByRecursion (λ b. IsTrue (allows rule b.kind)) boxes
  pub quantities : AllByRecursion (λ line. IsQuantity line.quantity (count_among line.kinds boxes))
      (table rule)

-- the boxes of one type, in file order
abbrev pub of_kind : List ℕ → List Box → List Box
of_kind kind [] = []
of_kind kind (b ∷ boxes) = cond (bytes_eq kind b.kind) (b ∷ of_kind kind boxes) (of_kind kind boxes)

-- the payload of the first box of a type, if there is one
abbrev pub payload_if : List ℕ → List Box → Option (List ℕ)
payload_if kind [] = None
payload_if kind (b ∷ boxes) = cond (bytes_eq kind b.kind) (Some b.payload) (payload_if kind boxes)

-- the same where there must be one
abbrev pub payload_of : List ℕ → List Box → List ℕ
payload_of kind boxes = unwrap_or (payload_if kind boxes) []

-- the payload of the first box of one of these types
abbrev pub payload_among : List (List ℕ) → List Box → List ℕ
payload_among kinds [] = []
payload_among kinds (b ∷ boxes) = cond (is_among kinds b.kind) b.payload (payload_among kinds boxes)
