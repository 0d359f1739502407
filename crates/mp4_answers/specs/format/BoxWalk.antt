-- The walk over the boxes of a file that lists them: which containers it descends into, and what it
-- answers.
use Rattle.std.specs.Prelude.{◌≡◌, ℕ, ◌+◌, ◌-◌, ◌≤◌, List, length, map, Bool, IsTrue, Option}
use Rattle.mp4_store.specs.words.Device.{HasRisen}
use Rattle.mp4_boxes.specs.format.Box.{Box, Container, file_container}
use Rattle.mp4_boxes.specs.format.BoxFaults.{IsHeaderFault}
use Rattle.mp4_boxes.specs.format.Places.{Place, ruled, containers, at_kind, Reaches}
use Rattle.mp4_boxes.specs.declared.rule.Rule.{Rule}
use Rattle.mp4_boxes.specs.declared.rule.Rule.TheVariants.{File, Movie, Track, Media, MediaInformation, MovieFragment}
use Rattle.mp4_boxes.specs.declared.fault.Fault.{Fault}
use Rattle.mp4_boxes.specs.declared.refusal.Refusal.{Refusal}
use Rattle.mp4_boxes.specs.declared.refusal.Refusal.TheVariants as refusals
use Rattle.mp4_present.specs.words.Reading.{top_box}
use Rattle.mp4_present.specs.declared.reading.TopBox.{TopBox}
use Rattle.mp4_answers.specs.declared.jobs.BoxForm.{BoxForm}
use Rattle.mp4_answers.specs.format.BoxTexts.{AreBoxLines, box_line}
use Rattle.mp4_answers.specs.format.Texts.{descends, IsPart}

-- how many levels of boxes lie under a rule at most, its own included
abbrev pub height : Rule → ℕ
height File = 6
height Movie = 5
height Track = 4
height Media = 3
height MediaInformation = 2
height MovieFragment = 2
height _ = 1

abbrev pub under : Rule → Container → Place
under rule c = record { scope = ruled rule; container = c }

-- the rule of the boxes in a box of this type, where the walk descends into it
abbrev pub rule_inside : Rule → List ℕ → Option Rule
rule_inside rule kind = descends (at_kind (containers (ruled rule)) kind)

-- A header that the walk looks at can't be read.
pub record FaultSeen (from : Place) (f : Fault) : Type 0 where
  pub place : Place
  pub reaches : Reaches from place
  pub rule : Rule
  pub is_looked_at : place.scope ≡ ruled rule
  pub fault : IsHeaderFault place.container f

-- the boxes in a box have these lines, if the walk descends into it; else there are none
abbrev pub IsListed : BoxForm → Rule → ℕ → Box → List ℕ → Type 0
IsListed form rule depth b part = IsPart (AreBoxLines form (height rule - 1) (depth + 1))
    (box_line form rule depth b) (rule_inside rule b.kind) b part

-- ---- the boxes of the file itself, by their headers

abbrev pub top_seen : List ℕ → TopBox → Box
top_seen file top = top_box file top.offset top.header

abbrev pub tops_seen : List ℕ → List TopBox → List Box
tops_seen file tops = map (top_seen file) tops

-- the box lies in a file of this length
abbrev pub IsWithin : List ℕ → TopBox → Type 0
IsWithin file top = (top.offset + top.header.header ≤ top.header.end)
    × (top.header.end ≤ length file)

-- why the boxes of the file are not listed
abbrev pub RefusesTops : Bool → List ℕ → ℕ → ℕ → Refusal → Type 0
RefusesTops honest file reads reads_after (refusals.Fault f) = IsTrue honest
    → FaultSeen (under File (file_container file)) f
RefusesTops honest file reads reads_after refusals.Memory = Unit {0}
RefusesTops honest file reads reads_after refusals.StoreFailed = HasRisen reads reads_after
RefusesTops honest file reads reads_after _ = ⊥
