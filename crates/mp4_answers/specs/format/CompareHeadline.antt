-- What comparing two files answers.
use Rattle.std.specs.Prelude.{◌≡◌, ◌↔◌, ◌≤◌, ℕ, ◌+◌, ◌*◌, nat_le, List, [], ◌++◌, length, take, map, flat_map, slice_get, Bool, true, false, if◌then◌else◌, Option, Some, None}
use Rattle.mp4_boxes.specs.format.Bytes.{AreBytes}
use Rattle.mp4_present.specs.format.ByBytes.{OpensWithin}
use Rattle.mp4_present.specs.format.Denotes.{Denotes}
use Rattle.mp4_head.specs.format.Head.{Kept}
use Rattle.mp4_present.specs.format.Presentation.{IsWithinLimits, Track, Presentation, sample_total}
use Rattle.mp4_content.specs.format.Alignment.{AreAligned, listed}
use Rattle.mp4_content.specs.format.LeadIns.{left_of, told, words_told}
use Rattle.mp4_content.specs.format.Comparison.{differences}
use Rattle.mp4_content.specs.format.DecodeTimes.{decode_time}
use Rattle.mp4_content.specs.declared.aligning.Alignment.{Alignment}
use Rattle.mp4_content.specs.declared.comparing.differences.DecodeTime.{DecodeTime}
use Rattle.mp4_content.specs.declared.comparing.differences.Difference.{Difference}
use Rattle.mp4_content.specs.declared.without.Without.{Without}
use Rattle.mp4_content.specs.format.Words.{all_words}
use Rattle.mp4_content.specs.format.CoveringLaws.{Covers}
use Rattle.mp4_answers.specs.declared.commands.compare.Asked.{Asked}
use Rattle.mp4_answers.specs.declared.commands.compare.LineForm.{LineForm}
use Rattle.mp4_answers.specs.declared.commands.compare.LineForm.TheVariants as forms
use Rattle.mp4_answers.specs.declared.commands.compare.Lines.{Lines}
use Rattle.mp4_answers.specs.declared.commands.compare.Listing.{Listing}
use Rattle.mp4_answers.specs.declared.commands.compare.Listing.TheVariants as listings
use Rattle.mp4_answers.specs.declared.jobs.Syntax.{Syntax}
use Rattle.mp4_answers.specs.declared.jobs.Syntax.TheVariants as syntaxes
use Rattle.mp4_answers.specs.declared.selection.Selection.{Selection}
use Rattle.mp4_answers.specs.format.AlignedLine.{alignment_line, alignment_object}
use Rattle.mp4_answers.specs.format.DifferenceLine.{difference_line}
use Rattle.mp4_answers.specs.format.DifferenceObject.{difference_object, last_object}
use Rattle.mp4_answers.specs.format.Headline.{DenotesNothing}
use Rattle.mp4_answers.specs.format.LastLine.{last_line}
use Rattle.mp4_answers.specs.format.Selected.{Shows}
use Rattle.mp4_answers.specs.format.TimedLine.{timed_line}
use Rattle.mp4_answers.specs.format.Steps.{FindsWithin, row_total, scaling_walks, telling_walks, walked_each}

-- what is looked at of the first file, and of the second
abbrev pub of_first : Asked → Selection
of_first asked = record { track = asked.first; leaving = asked.leaving }

abbrev pub of_second : Asked → Selection
of_second asked = record { track = asked.second; leaving = asked.leaving }

-- What is looked at of both files is within the limits as it is told how long its tracks wait, and
-- the answer is whether the same is left of both.
pub record IsVerdict (asked : Asked) (file other : List ℕ) (same : Bool) : Type 0 where
  pub p : Presentation
  pub q : Presentation
  pub first : Shows asked.first file p
  pub second : Shows asked.second other q
  pub first_shown : IsWithinLimits (told asked.leaving.lead_ins p)
  pub second_shown : IsWithinLimits (told asked.leaving.lead_ins q)
  pub is : AreBytes file → AreBytes other
      → (same ≡ true) ↔ (left_of asked.leaving p ≡ left_of asked.leaving q)

-- ---- what is said of two files that differ

-- so many differences are counted at most
abbrev pub most_counted : ℕ
most_counted = 1048576

-- the sample descriptions of all tracks
abbrev pub descriptions_in : Presentation → List (List Kept)
descriptions_in p = map (λ (t : Track). t.head.media.descriptions) p.tracks

-- these have the word `timing` or the others don't have it, and so with `timescales`; and
-- `lead-ins` is among both or neither
pub record AreTimedAlike (k m : Without) : Type 0 where
  pub timing : k.timing ≡ m.timing
  pub timescales : k.timescales ≡ m.timescales
  pub lead_ins : k.lead_ins ≡ m.lead_ins

-- Words are named that leave out what was asked for, and with which the same is left of both;
-- `lead-ins` is among them where it was asked for, and only there. None of them can be taken away;
-- where the sample descriptions are the same, they are among any others that do it too, and have
-- `timing` and `timescales` where these have them and only there: what `ends`, `origins` and
-- `timescales` hide `timing` may hide too, so there may be such words with it and others without.
-- Or none are named, and there are none.
abbrev pub AreEnough : Without → Presentation → Presentation → Option Without → Type 0
AreEnough l p q None = (m : Without) → left_of m p ≡ left_of m q → ⊥
AreEnough l p q (Some m) = Covers l m × (m.lead_ins ≡ l.lead_ins) × (left_of m p ≡ left_of m q)
    × ((k : Without) → Covers l k → Covers k m → left_of k p ≡ left_of k q → k ≡ m)
    × (descriptions_in p ≡ descriptions_in q
    → (k : Without) → Covers l k → AreTimedAlike k m → left_of k p ≡ left_of k q
    → Covers m k)

-- the form of lines in a syntax, where it isn't asked for decode times
abbrev pub line_form : Syntax → LineForm
line_form syntaxes.Text = forms.Text
line_form syntaxes.Json = forms.Json

-- a difference as a line or as an object, and when the sample is decoded that it is of
abbrev pub difference_in : LineForm → Option DecodeTime → Difference → List ℕ
difference_in forms.Text time d = difference_line d
difference_in forms.Timed time d = timed_line time d
difference_in forms.Json time d = difference_object time d

-- those of a presentation and another one
abbrev pub differences_in : LineForm → Presentation → List Difference → List ℕ
differences_in form p ds =
    flat_map (λ (d : Difference). difference_in form (decode_time p d.subject) d) ds

-- and what is said of all
abbrev pub last_in : LineForm → Bool → List Difference → Option Without → List ℕ
last_in forms.Json whole ds enough = last_object whole ds enough
last_in _ whole ds enough = last_line whole ds enough

-- how two tracks lie beside each other, as a line or as an object
abbrev pub alignment_in : LineForm → Alignment → List ℕ
alignment_in forms.Json a = alignment_object a
alignment_in _ a = alignment_line a

-- Where tracks are aligned, how each two lie beside each other of which not the same samples are
-- left; else none.
abbrev pub AreToldAligned : Bool → Without → Presentation → Presentation → List Alignment → Type 0
AreToldAligned true l p q found = AreAligned l 1 p.tracks q.tracks found
AreToldAligned false l p q found = found ≡ []

-- how tracks lie beside each other, the first differences of a presentation and another one, as
-- many as are asked for, and what is said of all that are counted
abbrev pub listing_text : Lines → Presentation → List Alignment → List Difference → Option Without
    → List ℕ
listing_text lines p found ds enough = flat_map (alignment_in lines.form) found
    ++ differences_in lines.form p (take lines.limit (take most_counted ds))
    ++ last_in lines.form (nat_le (length ds) most_counted) (take most_counted ds) enough

-- What is said of two presentations of which not the same is left: the first difference; or all of
-- them, with the words that make the two the same. Without alignment what is listed are all
-- `differences`. Decode times are those of the first presentation, whatever is left out.
abbrev pub TellsOf : Listing → Without → Presentation → Presentation → List ℕ → Type 0
TellsOf (listings.First form) l p q text = (first : Difference)
    × (slice_get (differences (left_of l p) (left_of l q)) 0 ≡ Some first)
    × (text ≡ difference_in form (decode_time p first.subject) first)
TellsOf (listings.All lines) l p q text = (found : List Alignment)
    × AreToldAligned lines.aligned (words_told l) (told l.lead_ins p) (told l.lead_ins q) found
    × (enough : Option Without) × AreEnough l p q enough
    × (text ≡ listing_text lines p found
    (listed lines.aligned (left_of l p) (left_of l q)) enough)

-- The text tells of what is looked at of the two files.
pub record IsTold (asked : Asked) (file other text : List ℕ) : Type 0 where
  pub p : Presentation
  pub q : Presentation
  pub first : Shows asked.first file p
  pub second : Shows asked.second other q
  pub first_shown : IsWithinLimits (told asked.leaving.lead_ins p)
  pub second_shown : IsWithinLimits (told asked.leaving.lead_ins q)
  pub tells : AreBytes file → AreBytes other → TellsOf asked.listing asked.leaving p q text

-- such a text was put
abbrev pub PutsSuch : (List ℕ → Type 0) → (List ℕ → Type 0) → Type 0
PutsSuch Took IsText = (text : List ℕ) × IsText text × Took text

-- ---- its steps

-- how many words there are behind `--without`
abbrev pub word_count : ℕ
word_count = length all_words

-- to find what differs
abbrev pub listing_walks : Without → ℕ
listing_walks l = 1 + scaling_walks l

-- where tracks are aligned, to do that: from the first sample on, and to the last
abbrev pub aligned_walks : Without → Bool → ℕ
aligned_walks l aligned = if aligned then 2 + scaling_walks l else 0

-- To find words that make the two the same: two for each set of words that is tried, since
-- `timescales` may be among them. These are the words that the differences ask for, then all, and
-- those that are left without each word.
abbrev pub trying_walks : ℕ
trying_walks = 2 * (2 + word_count)

-- An opened file is walked over at most so many times: for the first difference until that is
-- found; for all of them to list what differs, to align tracks, and to find words.
abbrev pub opened_walks : Without → Listing → ℕ
opened_walks l (listings.First form) = listing_walks l
opened_walks l (listings.All lines) =
    listing_walks l + aligned_walks l lines.aligned + trying_walks

abbrev pub most_walks : Without → Listing → ℕ
most_walks l listing = telling_walks l + opened_walks l listing

-- The steps over one of two files that are compared: those of opening it, and of so many walks over
-- each of its tracks. Where it denotes a presentation: so many (`walked_each`) for each sample and
-- each row, however many tracks there are. Where it denotes nothing: by its bytes.
pub record ComparedWithin (walks : ℕ) (file : List ℕ) (old new : ℕ) : Type 0 where
  pub denoted : (p : Presentation) → (d : Denotes file p)
      → new ≤ old + walked_each walks * (sample_total p + row_total d.tree)
  pub refused : DenotesNothing file → OpensWithin file old new

-- the steps of comparing two files
pub record ComparesWithin (l : Without) (listing : Listing) (file other : List ℕ) (old new : ℕ)
    : Type 0 where
  pub between : ℕ
  pub first : ComparedWithin (most_walks l listing) file old between
  pub second : ComparedWithin (most_walks l listing) other between new

-- Their looks: those that opening each may take.
pub record FindsBothWithin (file other : List ℕ) (old new : ℕ) : Type 0 where
  pub between : ℕ
  pub first : FindsWithin file old between
  pub second : FindsWithin other between new
