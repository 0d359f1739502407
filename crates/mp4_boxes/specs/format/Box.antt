-- Boxes and how they lie in a container (ISO/IEC 14496-12, 4.2.2 and 4.2.3: Box, FullBox).
use Rattle.std.specs.Prelude.{◌≡◌, ℕ, zero, suc, ◌+◌, ◌-◌, ◌<◌, ◌≤◌, List, [], ◌∷◌, ◌++◌, length, take, drop, Bool, true, false, Result, Ok, Err, ◌==◌, nat_lt, if◌then◌else◌, codes, ⊤}
use Rattle.mp4_boxes.specs.format.Bytes.{sum_of, field}
use Rattle.mp4_boxes.specs.declared.fault.Kind.{Kind}
use Rattle.mp4_boxes.specs.declared.fault.Kind.TheVariants.{ShortHeader, BadSize, Overrun}

-- a box: its type as four bytes, its first byte's place in the file, the length of its header (8 or
-- 16), its payload
pub record Box : Type 0 where
  pub kind : List ℕ
  pub offset : ℕ
  pub header : ℕ
  pub payload : List ℕ

-- the size counts the header
abbrev pub size : Box → ℕ
size b = b.header + length b.payload

-- how many bytes these boxes take
abbrev pub sizes : List Box → ℕ
sizes boxes = sum_of size boxes

-- what a header says: the type, its own length, the size of the box
pub record Header : Type 0 where
  pub kind : List ℕ
  pub length : ℕ
  pub size : ℕ

-- How far boxes go on in a container: to the end of the file, to the end of a box, or as many as
-- were counted.
pub data Extent : Type 0 where
  to_end_of_file : Extent
  to_end_of_box : Extent
  counted : ℕ → Extent

-- size 0, "to the end of the file", is allowed at top level alone
abbrev pub may_be_open : Extent → Bool
may_be_open to_end_of_file = true
may_be_open to_end_of_box = false
may_be_open (counted n) = false

-- a box of at least `least` bytes that ends at or before the end
abbrev pub fitting : ℕ → ℕ → Header → Result Header Kind
fitting left least h = if nat_lt h.size least then Err BadSize else if nat_lt left h.size
    then Err Overrun else Ok h

-- The header in front of these bytes, where so many are left up to the end of the container; or in
-- which way there is none. It reads 16 of them at most.
abbrev pub header_in : Bool → ℕ → List ℕ → Result Header Kind
header_in is_open left bytes =
    let kind = take 4 (drop 4 bytes) in
    let small = field bytes 0 4 in
    if nat_lt left 8 then Err ShortHeader
    else if small == 1 then
    (if nat_lt left 16 then Err ShortHeader
    else fitting left 16 (record { kind = kind; length = 16; size = field bytes 8 8 }))
    else if small == 0 then
    (if is_open then Ok (record { kind = kind; length = 8; size = left }) else Err BadSize)
    else fitting left 8 (record { kind = kind; length = 8; size = small })

-- the header in front of bytes that go to the end of the container
abbrev pub header_at : Bool → List ℕ → Result Header Kind
header_at is_open bytes = header_in is_open (length bytes) bytes

-- the box that a header in front of these bytes begins, where the bytes lie at this place of the
-- file
abbrev pub box_of : ℕ → List ℕ → Header → Box
box_of at bytes h = record {
  kind = h.kind;
  offset = at;
  header = h.length;
  payload = take (h.size - h.length) (drop h.length bytes);
}

-- These boxes lie end to end from the front of the bytes, which begin at this place.
abbrev pub LieEndToEnd : Bool → ℕ → List ℕ → List Box → Type 0
LieEndToEnd is_open at bytes [] = ⊤
LieEndToEnd is_open at bytes (b ∷ boxes) =
    ((h : Header) × (header_at is_open bytes ≡ Ok h) × (b ≡ box_of at bytes h))
    × LieEndToEnd is_open (at + size b) (drop (size b) bytes) boxes

-- a box in front of these bytes and more behind it, if a header can be read there
abbrev pub box_and_more : ℕ → List ℕ → Result Header Kind → (Header → List Box) → List Box
box_and_more at bytes (Ok h) more = box_of at bytes h ∷ more h
box_and_more at bytes (Err kind) more = []

-- the first n boxes in front of these bytes, inside a box; fewer where a header can't be read
abbrev pub first_boxes : ℕ → ℕ → List ℕ → List Box
first_boxes zero at bytes = []
first_boxes (suc n) at bytes = box_and_more at bytes (header_at false bytes)
    (λ h. first_boxes n (at + h.size) (drop h.size bytes))

-- so many boxes lie in front of these bytes
pub record HasBoxes (count at : ℕ) (bytes : List ℕ) : Type 0 where
  pub lie : LieEndToEnd false at bytes (first_boxes count at bytes)
  pub many : length (first_boxes count at bytes) ≡ count

-- what boxes lie in: a box or the file, by its type and first byte, where its children begin, and
-- the bytes from there to its end
pub record Container : Type 0 where
  pub kind : List ℕ
  pub offset : ℕ
  pub at : ℕ
  pub bytes : List ℕ
  pub extent : Extent

-- the file as a container
abbrev pub file_container : List ℕ → Container
file_container file = record {
  kind = codes "file";
  offset = 0;
  at = 0;
  bytes = file;
  extent = to_end_of_file;
}

-- some bytes inside a box of this type that are boxes, from this place of the file on
abbrev pub bytes_container : List ℕ → ℕ → List ℕ → Container
bytes_container kind at bytes = record {
  kind = kind;
  offset = at;
  at = at;
  bytes = bytes;
  extent = to_end_of_box;
}

-- a box whose payload is boxes
abbrev pub box_container : Box → Container
box_container b = record {
  kind = b.kind;
  offset = b.offset;
  at = b.offset + b.header;
  bytes = b.payload;
  extent = to_end_of_box;
}

-- a box whose payload is a full box's version and flags, a count, and as many boxes (`stsd`,
-- `dref`)
abbrev pub counted_container : Box → Container
counted_container b = record {
  kind = b.kind;
  offset = b.offset;
  at = b.offset + b.header + 8;
  bytes = drop 8 b.payload;
  extent = counted (field b.payload 4 4);
}

-- no more boxes than were counted
abbrev pub IsCounted : Extent → List Box → Type 0
IsCounted to_end_of_file boxes = ⊤
IsCounted to_end_of_box boxes = ⊤
IsCounted (counted n) boxes = length boxes ≤ n

-- some first boxes of a container
abbrev pub IsFront : Container → List Box → Type 0
IsFront c boxes = LieEndToEnd (may_be_open c.extent) c.at c.bytes boxes × IsCounted c.extent boxes

-- one more box is due after these
abbrev pub IsDue : Extent → ℕ → List Box → Type 0
IsDue to_end_of_file left boxes = sizes boxes < left
IsDue to_end_of_box left boxes = sizes boxes < left
IsDue (counted n) left boxes = length boxes < n

-- none is
abbrev pub IsFull : Extent → ℕ → List Box → Type 0
IsFull to_end_of_file left boxes = sizes boxes ≡ left
IsFull to_end_of_box left boxes = sizes boxes ≡ left
IsFull (counted n) left boxes = length boxes ≡ n

-- these are the boxes of the container, all of them
pub record Tiles (c : Container) (boxes : List Box) : Type 0 where
  pub front : IsFront c boxes
  pub full : IsFull c.extent (length c.bytes) boxes

-- the box lies in the container, behind these
abbrev pub StandsAfter : Container → List Box → Box → Type 0
StandsAfter c before b = IsFront c (before ++ b ∷ [])
