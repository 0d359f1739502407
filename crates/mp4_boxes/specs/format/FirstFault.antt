-- The first fault of a container and of a leaf: what is tested in order, and what is named where a
-- test is the first to fail.
use Rattle.std.specs.Prelude.{ℕ, zero, suc, ◌+◌, nat_le, nat_lt, not, ◌||◌, Bool, cond, List, [], ◌∷◌, ◌++◌, length, drop, Option, Some, None, Result, Ok, Err, MatchResult, ◌≡◌, codes, bytes_eq}
use Rattle.mp4_boxes.specs.format.Box.{Box, Extent, to_end_of_file, to_end_of_box, counted, may_be_open, Container, box_of, sizes}
use Rattle.mp4_boxes.specs.format.Children.{allows, repeats, lacks, count_among}
use Rattle.mp4_boxes.specs.format.Layout.{Leaf, needed, knows_version, knows_flags, has_bad_value, is_outside_data, has_large_offset}
use Rattle.mp4_boxes.specs.format.BoxFaults.{fault_of, fault_in, header_there}
use Rattle.mp4_boxes.specs.declared.rule.Rule.{Rule}
use Rattle.mp4_boxes.specs.declared.rule.Rule.TheVariants.{File}
use Rattle.mp4_boxes.specs.declared.fault.Fault.{Fault}
use Rattle.mp4_boxes.specs.declared.fault.Kind.{Kind}
use Rattle.mp4_boxes.specs.declared.fault.Kind.TheVariants.{ShortBox, BoxNotInProfile, DuplicateBox, MissingBox, BadVersion, BadFlags, BadValue, OutsideData, OffsetTooLarge, FragmentBeforeMovie}

-- ---- tests in order

-- a test, and what is named where it fails
abbrev pub Test : Type 0 → Type 0
Test F = Bool × F

-- the first test that fails
abbrev pub first_failed : {F : Type 0} → List (Test F) → Option F
first_failed [] = None
first_failed (t ∷ tests) = cond t.0 (first_failed tests) (Some t.1)

-- An answer names the first test that fails, and is Ok where none does.
abbrev pub NamesFirst : {T F : Type 0} → List (Test F) → Result T F → Type 0
NamesFirst tests result = MatchResult result (λ _. first_failed tests ≡ None)
    (λ f. first_failed tests ≡ Some f)

-- the same, as one fact
pub record FirstNamed {T F : Type 0} (tests : List (Test F)) (result : Result T F) : Type 0 where
  pub names : NamesFirst tests result

-- An answer is what was judged.
pub record IsJudged {A F : Type 0} (judged answer : Result A F) : Type 0 where
  pub same : judged ≡ answer

-- what is judged next, unless something failed
abbrev pub unless_failed : {A F : Type 0} → Option F → (Unit {0} → Result A F) → Result A F
unless_failed None next = next tt
unless_failed (Some f) next = Err f

abbrev pub and_then : {A B F : Type 0} → Result A F → (A → Result B F) → Result B F
and_then (Ok x) next = next x
and_then (Err f) next = Err f

-- a test that names this box
abbrev pub naming : Box → List (Test Kind) → List (Test Fault)
naming b [] = []
naming b (t ∷ tests) = (t.0, fault_of t.1 b) ∷ naming b tests

-- ---- the boxes of a container

-- one more box is due behind so many that take so many bytes
abbrev pub is_due : Extent → ℕ → ℕ → ℕ → Bool
is_due to_end_of_file left many taken = nat_lt taken left
is_due to_end_of_box left many taken = nat_lt taken left
is_due (counted n) left many taken = nat_lt many n

-- what is tested of the type of a box behind these, as soon as its header is read
abbrev pub HeaderTests : Type 0
HeaderTests = List Box → List ℕ → List (Test Kind)

abbrev pub no_tests : HeaderTests
no_tests before kind = []

abbrev pub rule_tests : Rule → HeaderTests
rule_tests rule before kind = (allows rule kind, BoxNotInProfile)
    ∷ (not (repeats rule before kind), DuplicateBox) ∷ []

-- of the file's own boxes also that a `moof` stands behind the `moov`
abbrev pub top_tests : HeaderTests
top_tests before kind = rule_tests File before kind
    ++ (
      not (bytes_eq (codes "moof") kind) || nat_lt 0 (count_among (codes "moov" ∷ []) before),
      FragmentBeforeMovie,
    ) ∷ []

-- the boxes of a container behind these, each header tested before the next is read; n is as many
-- as there can be
abbrev pub boxes_behind : ℕ → HeaderTests → Container → List Box → Result (List Box) Fault
boxes_behind zero tests c before = Ok before
boxes_behind (suc n) tests c before =
    let reached = sizes before in
    let rest = drop reached c.bytes in
    cond (is_due c.extent (length c.bytes) (length before) reached)
    (and_then (header_there (may_be_open c.extent) (length rest) rest c.kind (c.at + reached))
    (λ h. let b = box_of (c.at + reached) rest h in
    unless_failed (first_failed (naming b (tests before b.kind)))
    (λ u. boxes_behind n tests c (before ++ b ∷ []))))
    (Ok before)

abbrev pub boxes_or_fault : HeaderTests → Container → Result (List Box) Fault
boxes_or_fault tests c = boxes_behind (suc (length c.bytes)) tests c []

-- the boxes that a container holds under a rule, or the first fault of their list
abbrev pub none_lacking : Rule → Container → List Box → Result (List Box) Fault
none_lacking rule c boxes = cond (lacks rule boxes) (Err (fault_in MissingBox c)) (Ok boxes)

abbrev pub children_or_fault : Rule → Container → Result (List Box) Fault
children_or_fault rule c = and_then (boxes_or_fault (rule_tests rule) c) (none_lacking rule c)

abbrev pub top_or_fault : Container → Result (List Box) Fault
top_or_fault c = and_then (boxes_or_fault top_tests c) (none_lacking File c)

-- counted boxes, of any types
abbrev pub counted_or_fault : Container → Result (List Box) Fault
counted_or_fault c = boxes_or_fault no_tests c

-- ---- leaves

-- What is tested of a leaf: its shape, then what it keeps with others, then its own values.
abbrev pub leaf_tests_with : Leaf → List (Test Kind) → List ℕ → List (Test Kind)
leaf_tests_with leaf rules payload = (nat_le 4 (length payload), ShortBox)
    ∷ (knows_version leaf payload, BadVersion) ∷ (knows_flags leaf payload, BadFlags)
    ∷ (nat_le (needed leaf payload) (length payload), ShortBox)
    ∷ rules ++ (not (has_bad_value leaf payload), BadValue)
    ∷ (not (is_outside_data leaf payload), OutsideData)
    ∷ (not (has_large_offset leaf payload), OffsetTooLarge) ∷ []

abbrev pub leaf_tests : Leaf → List ℕ → List (Test Kind)
leaf_tests leaf payload = leaf_tests_with leaf [] payload

-- the first fault of a box that is read as this leaf
abbrev pub leaf_fault : Leaf → Box → Option Fault
leaf_fault leaf b = first_failed (naming b (leaf_tests leaf b.payload))
