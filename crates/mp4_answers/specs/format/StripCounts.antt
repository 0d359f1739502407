-- How many boxes are free space in a copy, for each name in turn.
use Rattle.std.specs.Prelude.{◌≡◌, ℕ, ◌+◌, List, [], ◌∷◌, drop, true, false, cond, Option, None, Some, Ok}
use Rattle.mp4_boxes.specs.format.Box.{Header, header_at}
use Rattle.mp4_boxes.specs.declared.rule.Rule.{Rule}
use Rattle.mp4_answers.specs.format.BoxWalk.{rule_inside}
use Rattle.mp4_answers.specs.format.Strips.{is_top, is_named, means, payload_behind, uuid_at}
use Rattle.mp4_answers.specs.declared.box_names.Name.{Name}

-- none for each name
abbrev pub none_of : List Name → List ℕ
none_of [] = []
none_of (n ∷ names) = 0 ∷ none_of names

-- one for the first name that means boxes of this type under the rule, none for the others
abbrev pub first_meant : Rule → List ℕ → Option (List ℕ) → List Name → List ℕ
first_meant rule kind uuid [] = []
first_meant rule kind uuid (n ∷ names) = cond (means rule kind uuid n) (1 ∷ none_of names)
    (0 ∷ first_meant rule kind uuid names)

-- each number of a list and its own of another, added
abbrev pub sums : List ℕ → List ℕ → List ℕ
sums [] ns = ns
sums (m ∷ ms) [] = m ∷ ms
sums (m ∷ ms) (n ∷ ns) = (m + n) ∷ sums ms ns

-- How many boxes each name is the first to mean, of bytes that are boxes, end to end under a rule:
-- box by box, and of a container that is no named box, of its boxes in turn (as `Strips`).
pub data Counts (names : List Name) : Rule → List ℕ → List ℕ → Type 0 where
  none : (rule : Rule) (bytes counts : List ℕ) → bytes ≡ [] → counts ≡ none_of names
      → Counts names rule bytes counts
  meant : (rule : Rule) (bytes counts : List ℕ) (h : Header) (rest : List ℕ)
      → header_at (is_top rule) bytes ≡ Ok h → is_named names rule h.kind (uuid_at h bytes) ≡ true
      → Counts names rule (drop h.size bytes) rest
      → counts ≡ sums (first_meant rule h.kind (uuid_at h bytes) names) rest
      → Counts names rule bytes counts
  passed : (rule : Rule) (bytes counts : List ℕ) (h : Header)
      → header_at (is_top rule) bytes ≡ Ok h → is_named names rule h.kind (uuid_at h bytes) ≡ false
      → rule_inside rule h.kind ≡ None
      → Counts names rule (drop h.size bytes) counts → Counts names rule bytes counts
  entered : (rule : Rule) (bytes counts : List ℕ) (h : Header) (inner : Rule)
      (inside rest : List ℕ)
      → header_at (is_top rule) bytes ≡ Ok h → is_named names rule h.kind (uuid_at h bytes) ≡ false
      → rule_inside rule h.kind ≡ Some inner → Counts names inner (payload_behind h bytes) inside
      → Counts names rule (drop h.size bytes) rest → counts ≡ sums inside rest
      → Counts names rule bytes counts
