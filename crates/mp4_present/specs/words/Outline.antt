-- Where the `moov` and the `moof`s of a file lie, as its top-level headers say.
use Rattle.std.specs.Prelude.{◌≡◌, ℕ, ◌+◌, ◌<◌, length, drop, map, List, [], ◌∷◌, ◌++◌, true, IsTrue, Option, Some, None, max, fold, codes}
use Rattle.std.specs.List.{AllByRecursion}
use Rattle.mp4_boxes.specs.format.Box.{Box, LieEndToEnd, size, sizes}
use Rattle.mp4_boxes.specs.format.Children.{of_kind, allows}
use Rattle.mp4_boxes.specs.declared.rule.Rule.TheVariants.{File}
use Rattle.mp4_present.specs.words.Reading.{top_box}
use Rattle.mp4_present.specs.format.Denotes.{begins_with_movie}
use Rattle.mp4_present.specs.declared.reading.TopBox.{TopBox}
use Rattle.mp4_present.specs.declared.opening.outline.Seen.{Seen}
use Rattle.mp4_present.specs.declared.opening.outline.Outline.{Outline}

abbrev pub box_at : List ℕ → TopBox → Box
box_at file top = top_box file top.offset top.header

-- the `moov` among some first boxes, where there is one
abbrev pub moov_seen : List ℕ → Option TopBox → List Box
moov_seen file None = []
moov_seen file (Some top) = box_at file top ∷ []

-- no `moof` stands before the `moov`, nor without one
abbrev pub IsOrdered : Option TopBox → List Box → Type 0
IsOrdered None boxes = of_kind (codes "moof") boxes ≡ []
IsOrdered (Some top) boxes = begins_with_movie boxes ≡ true

-- these are the boxes of the file from a place on to its end
pub record AreFrom (file : List ℕ) (from : ℕ) (boxes : List Box) : Type 0 where
  pub lie : LieEndToEnd true from (drop from file) boxes
  pub whole : from + sizes boxes ≡ length file

-- the first `moof` among these boxes, which begin at the place; or there is none
abbrev pub IsNextFragment : List ℕ → ℕ → List Box → Option TopBox → Type 0
IsNextFragment file from boxes None = of_kind (codes "moof") boxes ≡ []
IsNextFragment file from boxes (Some top) =
    (before after : List Box) × (boxes ≡ before ++ box_at file top ∷ after)
    × (of_kind (codes "moof") before ≡ []) × (top.offset ≡ from + sizes before)
    × (top.header.kind.0 ≡ codes "moof")

-- where these boxes begin
abbrev pub offsets : List Box → List ℕ
offsets boxes = map (λ (b : Box). b.offset) boxes

-- all of these places lie in a file of so many bytes
abbrev pub AreIn : ℕ → List ℕ → Type 0
AreIn length places = AllByRecursion (λ (at : ℕ). at < length) places

-- the length of the longest of some boxes, 0 where there is none
abbrev pub longest : List Box → ℕ
longest boxes = fold (λ most b. max most (size b)) 0 boxes

-- This is so of some first boxes of the file, which may all stand there.
pub record AreSeen (file : List ℕ) (boxes : List Box) (seen : Seen) : Type 0 where
  pub allowed : AllByRecursion (λ b. IsTrue (allows File b.kind)) boxes
  pub moov : of_kind (codes "moov") boxes ≡ moov_seen file seen.moov
  pub order : IsOrdered seen.moov boxes
  pub longest : seen.longest ≡ longest (of_kind (codes "moof") boxes)

-- So the `moov` and the `moof`s lie among the boxes of the file.
pub record IsOutline (file : List ℕ) (boxes : List Box) (o : Outline) : Type 0 where
  pub moov : of_kind (codes "moov") boxes ≡ box_at file o.moov ∷ []
  pub moofs : o.moofs.items ≡ offsets (of_kind (codes "moof") boxes)
  pub longest : o.longest ≡ longest (of_kind (codes "moof") boxes)
