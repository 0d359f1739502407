-- The way to a place of a file.
use Rattle.std.specs.Prelude.{◌≡◌, ◌⊎◌, ℕ, ◌+◌, ◌<◌, ◌≤◌, List, [], ◌∷◌, ◌++◌, Option, Some, None, codes, decimal}
use Rattle.mp4_boxes.specs.format.Box.{Box, Tiles, box_container, counted_container, size}
use Rattle.mp4_present.specs.words.Reading.{IsTopHeader}
use Rattle.mp4_boxes.specs.declared.headers.TopHeader.{TopHeader}
use Rattle.mp4_present.specs.declared.reading.TopBox.{TopBox}
use Rattle.mp4_store.specs.words.Device.{HasRisen}
use Rattle.mp4_answers.specs.format.BoxWalk.{top_seen}
use Rattle.mp4_answers.specs.format.Texts.{type_text, space}

-- the place lies in the box
abbrev pub HoldsPlace : ℕ → Box → Type 0
HoldsPlace place b = (b.offset ≤ place) × (place < b.offset + size b)

-- it stands among these boxes, and the place lies in it
abbrev pub IsHeld : ℕ → List Box → Box → Type 0
IsHeld place boxes child =
    (before after : List Box) × (boxes ≡ before ++ child ∷ after) × HoldsPlace place child

-- it stands among the boxes of the other one, or among those that the other one counts
pub data IsInside (b : Box) : List Box → Type 0 where
  contained : (boxes : List Box) → Tiles (box_container b) boxes → IsInside b boxes
  counted : (boxes : List Box) → Tiles (counted_container b) boxes → IsInside b boxes

abbrev pub IsChildAt : ℕ → Box → Box → Type 0
IsChildAt place b child = (boxes : List Box) × IsInside b boxes × IsHeld place boxes child

-- a box on the way, with its number where it is told
abbrev pub step_text : List ℕ → Option ℕ → List ℕ
step_text kind None = type_text kind
step_text kind (Some n) = type_text kind ++ space ++ decimal n

-- a text names boxes, each of which stands in the one before and holds the place; the first stands
-- in this box
pub data IsWay (place : ℕ) : Box → List ℕ → Type 0 where
  ends : (b : Box) → IsWay place b []
  goes : (b child : Box) (number : Option ℕ) (more : List ℕ) → IsChildAt place b child
      → IsWay place child more
      → IsWay place b (codes " / " ++ (step_text child.kind number ++ more))

-- of the file's own boxes, end to end from this place on, the one that holds the other place
pub data HoldsFrom (file : List ℕ) (place : ℕ) : ℕ → TopBox → Type 0 where
  here : (at : ℕ) (top : TopBox) → top.offset ≡ at → IsTopHeader file at top.header
      → at ≤ place → place < top.header.end → HoldsFrom file place at top
  behind : (at : ℕ) (h : TopHeader) (top : TopBox) → IsTopHeader file at h → h.end ≤ place
      → HoldsFrom file place h.end top → HoldsFrom file place at top

-- none does, as far as headers can be read
abbrev pub HoldsNone : List ℕ → ℕ → Type 0
HoldsNone file place = (top : TopBox) → HoldsFrom file place 0 top → ⊥

-- a way from a box of the file itself
abbrev pub IsWayFrom : List ℕ → ℕ → TopBox → List ℕ → Type 0
IsWayFrom file place top text = (number : Option ℕ) × (more : List ℕ)
    × IsWay place (top_seen file top) more × (text ≡ step_text top.header.kind.0 number ++ more)

-- from the one that holds the place; no way, where none does
abbrev pub IsWayIn : List ℕ → ℕ → List ℕ → Type 0
IsWayIn file place text = ((text ≡ []) × HoldsNone file place)
    ⊎ ((top : TopBox) × HoldsFrom file place 0 top × IsWayFrom file place top text)

-- the same, or no way, since a read failed: by how many had failed before, and have after it
abbrev pub IsWayRead : ℕ → ℕ → List ℕ → ℕ → List ℕ → Type 0
IsWayRead reads reads_after file place text =
    ((text ≡ []) × HasRisen reads reads_after) ⊎ IsWayIn file place text
