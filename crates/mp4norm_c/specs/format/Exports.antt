-- What the exports answer: in numbers, and by the window of a text that is put into a buffer.
use Rattle.std.specs.Prelude.{◌≡◌, ◌⊎◌, ℕ, ◌^◌, ◌/◌, ◌%◌, ◌==◌, nat_lt, ◌-◌, min, List, [], ◌++◌, length, take, drop, Bool, true, false, if◌then◌else◌, Option, None, Some, option_map, Result, Ok, Err, OnErr}
use Rattle.mp4_boxes.specs.format.Box.{file_container}
use Rattle.mp4_boxes.specs.format.Bytes.{field}
use Rattle.mp4_boxes.specs.declared.fault.Fault.{Fault}
use Rattle.mp4_boxes.specs.declared.fault.Kind.{Kind}
use Rattle.mp4_boxes.specs.declared.fault.Kind.TheVariants as kinds
use Rattle.mp4_boxes.specs.declared.refusal.Refusal.{Refusal}
use Rattle.mp4_boxes.specs.declared.refusal.Refusal.TheVariants as refusals
use Rattle.mp4_boxes.specs.declared.rule.Rule.TheVariants.{File}
use Rattle.mp4_content.specs.declared.without.Without.{Without}
use Rattle.mp4_content.specs.format.Words.{all_words, each, word_number}
use Rattle.mp4_answers.specs.declared.jobs.Form.{Form}
use Rattle.mp4_answers.specs.declared.jobs.Form.TheVariants as forms
use Rattle.mp4_answers.specs.declared.jobs.Job.{Job}
use Rattle.mp4_answers.specs.declared.jobs.Job.TheVariants as jobs
use Rattle.mp4_answers.specs.declared.jobs.Syntax.{Syntax}
use Rattle.mp4_answers.specs.declared.jobs.Syntax.TheVariants as syntaxes
use Rattle.mp4_answers.specs.declared.commands.compare.Asked.{Asked}
use Rattle.mp4_answers.specs.declared.commands.compare.Listing.{Listing}
use Rattle.mp4_answers.specs.declared.commands.compare.LineForm.{LineForm}
use Rattle.mp4_answers.specs.declared.commands.compare.LineForm.TheVariants as line_forms
use Rattle.mp4_answers.specs.declared.commands.compare.Lines.{Lines}
use Rattle.mp4_answers.specs.declared.commands.compare.Listing.TheVariants as listings
use Rattle.mp4_answers.specs.format.Answers.{IsFaultOf}
use Rattle.mp4_answers.specs.format.BoxWalk.{under, FaultSeen}
use Rattle.mp4_answers.specs.format.CompareHeadline.{IsVerdict, IsTold, line_form, of_first, of_second}
use Rattle.mp4_answers.specs.format.DifferenceObject.{last_object}
use Rattle.mp4_answers.specs.format.FileTexts.{ShowsLine, ListsSamples, HasData, PrintsText}
use Rattle.mp4_answers.specs.format.Selected.{LacksNamed, LacksTrack, whole}
use Rattle.mp4_answers.specs.format.Headline.{HasNormalForm}
use Rattle.mp4_answers.specs.format.ReducedHeadline.{HasReducedForm, LeftFaultStands}
use Rattle.mp4_answers.specs.format.Told.{IsFaultTold}
use Rattle.mp4_answers.specs.format.Strips.{IsStripped, Halts}
use Rattle.mp4_answers.specs.format.Sums.{HasSum}
use Rattle.mp4_answers.specs.format.BoxTexts.{BoxLines, FieldLines}
use Rattle.mp4norm_c.specs.declared.answer.Answer.{Answer}
use Rattle.mp4norm_c.specs.declared.asked.Comparison.{Comparison}
use Rattle.mp4norm_c.specs.declared.asked.Version.{Version}

-- ---- numbers

-- the number of each kind of fault
abbrev pub kind_number : Kind → ℕ
kind_number kinds.ShortHeader = 1
kind_number kinds.BadSize = 2
kind_number kinds.Overrun = 3
kind_number kinds.ShortBox = 4
kind_number kinds.BoxNotInProfile = 5
kind_number kinds.DuplicateBox = 6
kind_number kinds.MissingBox = 7
kind_number kinds.BadVersion = 8
kind_number kinds.BadFlags = 9
kind_number kinds.BadValue = 10
kind_number kinds.OutsideData = 11
kind_number kinds.CountMismatch = 12
kind_number kinds.BadOrder = 13
kind_number kinds.BadDescriptionIndex = 14
kind_number kinds.SampleOutsideFile = 15
kind_number kinds.UnknownTrack = 16
kind_number kinds.Gap = 17
kind_number kinds.OffsetTooLarge = 18
kind_number kinds.ItemLocation = 19
kind_number kinds.TooManySamples = 20
kind_number kinds.TimeTooLarge = 21
kind_number kinds.MovieTooLarge = 22
kind_number kinds.FragmentBeforeMovie = 23

-- an answer without a fault
abbrev pub plain : ℕ → ℕ → Answer
plain status len = record {
  status = status;
  kind = 0;
  box_type = 0;
  file = 0;
  offset = 0;
  len = len;
}

-- a fault in numbers, of the file with this number
abbrev pub fault_told : ℕ → Fault → Answer
fault_told file f = record {
  status = 1;
  kind = kind_number f.kind;
  box_type = field f.box_type 0 4;
  file = file;
  offset = f.offset;
  len = 0;
}

-- what was asked for is unknown: the file was not looked at
abbrev pub usage : Answer
usage = plain 64 0

-- A result in numbers: how many bytes there are; or the fault; or the status of the program.
abbrev pub told : Result ℕ Refusal → Answer
told (Ok len) = plain 0 len
told (Err (refusals.Fault f)) = fault_told 0 f
told (Err refusals.Memory) = plain 2 0
told (Err refusals.StoreFailed) = plain 3 0
told (Err refusals.StoreChanged) = plain 3 0
told (Err refusals.WriteFailed) = plain 3 0
told (Err refusals.NoSuchTrack) = plain 4 0

-- whether a flag is set
abbrev pub has_flag : ℕ → ℕ → Bool
has_flag flags bit = flags / 2 ^ bit % 2 == 1

-- what these flags leave out, each at the number of its word; nothing known where another is set
abbrev pub without_of : ℕ → Option Without
without_of flags = if nat_lt flags (2 ^ length all_words)
    then Some (each (λ word. has_flag flags (word_number word))) else None

-- the form of a list of samples, and the syntax of a list of boxes
abbrev pub form_of : ℕ → Option Form
form_of n = if n == 0 then Some forms.Plain else (if n == 1 then Some forms.Named
    else (if n == 2 then Some forms.Json else None))

abbrev pub syntax_of : ℕ → Option Syntax
syntax_of n = if n == 0 then Some syntaxes.Text
    else (if n == 1 then Some syntaxes.Json else None)

-- what is done, where that is known
abbrev pub reduce_job : Option Without → Option Job
reduce_job = option_map (λ l. jobs.Reduce (whole l))

abbrev pub print_job : Option Without → Option Job
print_job = option_map (λ l. jobs.Print (whole l))

abbrev pub samples_job : ℕ → Option Form → Option Job
samples_job track = option_map (λ form. jobs.Samples track form)

abbrev pub boxes_job : Option Syntax → Option Job
boxes_job = option_map jobs.Boxes

-- of each box so many rows
abbrev pub fields_job : ℕ → Option Syntax → Option Job
fields_job rows = option_map (λ syntax. jobs.Fields syntax rows)

abbrev pub told_lines : ℕ → Syntax → Bool → Lines
told_lines limit syntax aligned =
    record { limit = limit; form = line_form syntax; aligned = aligned }

-- How two files are told of that differ: by the first difference, or by all, of which at most so
-- many are listed, where tracks are aligned or not; in this syntax.
abbrev pub listing_of : ℕ → ℕ → Option Syntax → Option Listing
listing_of number limit None = None
listing_of number limit (Some syntax) = if number == 0 then Some (listings.First (line_form syntax))
    else (if number == 1 then Some (listings.All (told_lines limit syntax false))
    else (if number == 2 then Some (listings.All (told_lines limit syntax true)) else None))

-- what is asked of a comparison, where all of it is known
abbrev pub asked_of : Option Without → Option Listing → Option Asked
asked_of None listing = None
asked_of (Some l) None = None
asked_of (Some l) (Some listing) = Some (record {
  first = None;
  second = None;
  leaving = l;
  listing = listing;
})

-- by the first difference as a line
abbrev pub first_asked : ℕ → Option Asked
first_asked words = asked_of (without_of words) (Some (listings.First (line_form syntaxes.Text)))

abbrev pub comparison_asked : Comparison → Option Asked
comparison_asked c = asked_of (without_of c.words)
    (listing_of c.listing c.limit (syntax_of c.syntax))

-- this version
abbrev pub version_here : Version
version_here = record { major = 0; minor = 3; patch = 0 }

-- ---- windows

-- the window of a text: so many bytes of it, from a place on, as far as it goes
abbrev pub window : ℕ → ℕ → List ℕ → List ℕ
window from most text = take most (drop from text)

-- a buffer that begins with these bytes, and goes on as it was
abbrev pub laid_over : List ℕ → List ℕ → List ℕ
laid_over bytes before = bytes ++ drop (length bytes) before

-- The buffer begins with the window of the text, and goes on as it was; so many bytes that is.
pub record IsWindow (from : ℕ) (before after text : List ℕ) (many : ℕ) : Type 0 where
  pub bytes : after ≡ laid_over (window from (length before) text) before
  pub count : many ≡ length (window from (length before) text)

-- The window of such a text is put; or there is such a fault, or no memory, or the track isn't
-- there, and the buffer is as it was. Over bytes in memory nothing else is answered.
abbrev pub Windowed : (List ℕ → Type 0) → (Fault → Type 0) → Type 0 → ℕ → List ℕ → List ℕ
    → Result ℕ Refusal → Type 0
Windowed IsText IsFault Lacks from before after (Ok many) = (text : List ℕ) × IsText text
    × IsWindow from before after text many
Windowed IsText IsFault Lacks from before after (Err (refusals.Fault f)) = IsFault f
    × (after ≡ before)
Windowed IsText IsFault Lacks from before after (Err refusals.Memory) = after ≡ before
Windowed IsText IsFault Lacks from before after (Err refusals.NoSuchTrack) = Lacks
    × (after ≡ before)
Windowed IsText IsFault Lacks from before after (Err refusals.StoreFailed) = ⊥
Windowed IsText IsFault Lacks from before after (Err refusals.StoreChanged) = ⊥
Windowed IsText IsFault Lacks from before after (Err refusals.WriteFailed) = ⊥

-- the window of the text that a job puts of a file
abbrev pub WindowOf : Job → List ℕ → ℕ → List ℕ → List ℕ → Result ℕ Refusal → Type 0
WindowOf jobs.Normalise file = Windowed (HasNormalForm file) (IsFaultOf file) ⊥
WindowOf (jobs.Reduce s) file = Windowed (HasReducedForm s file)
    (λ f. IsFaultTold s file f ⊎ LeftFaultStands s file f) (LacksNamed s.track true file)
WindowOf (jobs.Print s) file = Windowed (PrintsText s file) (IsFaultTold s file)
    (LacksNamed s.track true file)
WindowOf jobs.Show file = Windowed (ShowsLine file) (IsFaultOf file) ⊥
WindowOf (jobs.Samples track form) file = Windowed (ListsSamples file track form)
    (IsFaultOf file) (LacksTrack file track)
WindowOf (jobs.Extract track) file = Windowed (HasData file track)
    (IsFaultOf file) (LacksTrack file track)
WindowOf (jobs.Boxes syntax) file = Windowed (BoxLines syntax file)
    (FaultSeen (under File (file_container file))) ⊥
WindowOf (jobs.Fields syntax most) file = Windowed (FieldLines syntax most file)
    (FaultSeen (under File (file_container file))) ⊥
WindowOf (jobs.Strip names) file = Windowed (IsStripped names.now file)
    (λ f. Halts names.now f File 0 file) ⊥

-- ---- what an export answers

-- That of the job, in numbers; or what was asked for is unknown, and the buffer is as it was.
abbrev pub Answers : Option Job → List ℕ → ℕ → List ℕ → List ℕ → Answer → Type 0
Answers None file from before after a = (a ≡ usage) × (after ≡ before)
Answers (Some job) file from before after a = (result : Result ℕ Refusal) × (a ≡ told result)
    × WindowOf job file from before after result

-- Over bytes in memory: a number of which this is true; or such a fault, or no memory.
abbrev pub Found : (ℕ → Type 0) → (Fault → Type 0) → Result ℕ Refusal → Type 0
Found IsAnswer IsFault (Ok n) = IsAnswer n
Found IsAnswer IsFault (Err (refusals.Fault f)) = IsFault f
Found IsAnswer IsFault (Err refusals.Memory) = Unit {0}
Found IsAnswer IsFault (Err refusals.StoreFailed) = ⊥
Found IsAnswer IsFault (Err refusals.StoreChanged) = ⊥
Found IsAnswer IsFault (Err refusals.WriteFailed) = ⊥
Found IsAnswer IsFault (Err refusals.NoSuchTrack) = ⊥

-- whether the file has a normal form
abbrev pub Checks : List ℕ → Answer → Type 0
Checks file a = (result : Result ℕ Refusal) × (a ≡ told result)
    × Found (λ n. (n ≡ 0) × (form : List ℕ) × HasNormalForm file form) (IsFaultOf file) result

-- The digest of the normal form of what is left of the file, of 32 bytes; else the digest is as it
-- was.
abbrev pub Sums : Option Without → List ℕ → List ℕ → List ℕ → Answer → Type 0
Sums None file before after a = (a ≡ usage) × (after ≡ before)
Sums (Some l) file before after a = (result : Result ℕ Refusal) × (a ≡ told result)
    × Found (λ n. (n ≡ 32) × HasSum (whole l) file after)
    (λ f. (IsFaultTold (whole l) file f ⊎ LeftFaultStands (whole l) file f)) result
    × (OnErr result (after ≡ before))

-- How many bytes the normal form has of what is left of the file, as far as 64 bits go.
abbrev pub Measures : Option Without → List ℕ → Answer → Type 0
Measures None file a = a ≡ usage
Measures (Some l) file a = (result : Result ℕ Refusal) × (a ≡ told result)
    × Found (λ n. (form : List ℕ) × HasReducedForm (whole l) file form
    × (n ≡ min (length form) (2 ^ 64 - 1)))
    (λ f. (IsFaultTold (whole l) file f ⊎ LeftFaultStands (whole l) file f)) result

-- ---- what comparing two files answers

-- what is put of files that are the same: nothing, or as JSON of all differences that there are
-- none
abbrev pub same_in : LineForm → Without → List ℕ
same_in line_forms.Json l = last_object true [] (Some l)
same_in _ l = []

abbrev pub same_listed : Listing → Without → List ℕ
same_listed (listings.First form) l = []
same_listed (listings.All lines) l = same_in lines.form l

abbrev pub same_text : Asked → List ℕ
same_text asked = same_listed asked.listing asked.leaving

-- The same is left of both, or not, and the window is put of what is said of that; or one of them
-- has such a fault, or lacks a track that is named, or there is no memory, and the buffer is as it
-- was. Over bytes in memory nothing else is answered.
pub data Compared (asked : Asked) (file other : List ℕ) (from : ℕ) (before after : List ℕ)
    (a : Answer) : Type 0 where
  is_same : (many : ℕ) → a ≡ plain 0 many → IsVerdict asked file other true
      → IsWindow from before after (same_text asked) many
      → Compared asked file other from before after a
  is_other : (text : List ℕ) (many : ℕ) → a ≡ plain 5 many
      → IsVerdict asked file other false → IsTold asked file other text
      → IsWindow from before after text many
      → Compared asked file other from before after a
  first_refused : (f : Fault) → a ≡ fault_told 0 f → IsFaultTold (of_first asked) file f
      → after ≡ before
      → Compared asked file other from before after a
  second_refused : (f : Fault) → a ≡ fault_told 1 f → IsFaultTold (of_second asked) other f
      → after ≡ before
      → Compared asked file other from before after a
  no_track : a ≡ plain 4 0
      → LacksNamed asked.first true file ⊎ LacksNamed asked.second true other → after ≡ before
      → Compared asked file other from before after a
  no_memory : a ≡ plain 2 0 → after ≡ before → Compared asked file other from before after a

abbrev pub Compares : Option Asked → List ℕ → List ℕ → ℕ → List ℕ → List ℕ → Answer → Type 0
Compares None file other from before after a = (a ≡ usage) × (after ≡ before)
Compares (Some asked) file other from before after a = Compared asked file other from before after a
