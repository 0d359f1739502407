-- What there is to say of two files that are compared, and why they are not. `Took` says of bytes
-- that they were put, the numbers are counts of failed reads and of failed puts.
use Rattle.std.specs.Prelude.{◌≡◌, ◌⊎◌, ◌+◌, ◌*◌, ◌<◌, ◌≤◌, ℕ, nat_lt, ◌&&◌, List, [], ◌∷◌, ◌++◌, length, take, drop, flat_map, slice_get, Option, None, Some, option_map, Bool, true, false, if◌then◌else◌, IsTrue}
use Rattle.std.specs.Global.{Vec}
use Rattle.std.specs.Vec.{vec_len, vec_capacity}
use Rattle.mp4_store.specs.words.Device.{HasRisen, TakesPrefix}
use Rattle.mp4_boxes.specs.declared.refusal.Refusal.{Refusal}
use Rattle.mp4_boxes.specs.declared.refusal.Refusal.TheVariants as refusals
use Rattle.mp4_content.specs.format.Alignment.{listed}
use Rattle.mp4_content.specs.format.Comparison.{differences}
use Rattle.mp4_content.specs.format.DecodeTimes.{decode_time}
use Rattle.mp4_content.specs.format.Remaining.{remaining}
use Rattle.mp4_present.specs.format.Denotes.{FileTree}
use Rattle.mp4_present.specs.format.Presentation.{Presentation}
use Rattle.mp4_present.specs.words.WalkSteps.{walks_steps}
use Rattle.mp4_content.specs.declared.aligning.Alignment.{Alignment}
use Rattle.mp4_content.specs.declared.comparing.differences.DecodeTime.{DecodeTime}
use Rattle.mp4_content.specs.declared.comparing.differences.Difference.{Difference}
use Rattle.mp4_content.specs.declared.without.Word.{Word}
use Rattle.mp4_content.specs.declared.without.Without.{Without}
use Rattle.mp4_content.specs.format.CoveringLaws.{Covers}
use Rattle.mp4_answers.specs.format.CompareHeadline.{AreToldAligned, alignment_in, difference_in, last_in, listing_text, most_counted}
use Rattle.mp4_answers.specs.format.DifferenceObject.{last_object}
use Rattle.mp4_answers.specs.words.SingleWords.{everything, less_word, single_words}
use Rattle.mp4_answers.specs.declared.commands.compare.LineForm.{LineForm}
use Rattle.mp4_answers.specs.declared.commands.compare.LineForm.TheVariants as forms
use Rattle.mp4_answers.specs.declared.commands.compare.Lines.{Lines}
use Rattle.mp4_answers.specs.declared.commands.compare.Listing.{Listing}
use Rattle.mp4_answers.specs.declared.commands.compare.Listing.TheVariants as listings
use Rattle.mp4_answers.specs.declared.commands.compare.Side.{Side}
use Rattle.mp4_answers.specs.declared.commands.compare.Side.TheVariants as sides
use Rattle.mp4_answers.specs.declared.commands.compare.Failure.{Failure}

-- ---- what there is to say

-- there is room for one more difference, and for its decode time
abbrev pub has_room : Vec Difference → Vec (Option DecodeTime) → Bool
has_room all times = nat_lt (vec_len all) (vec_capacity all)
    && nat_lt (vec_len times) (vec_capacity times)

-- there is something to say exactly where something differs
abbrev pub IsSaid : {A : Type 0} → Option A → List Difference → Type 0
IsSaid None differences = differences ≡ []
IsSaid (Some text) differences = differences ≡ [] → ⊥

-- all of these are listed, or more of the first of them than are counted
abbrev pub ListsFront : List Difference → List Difference → Type 0
ListsFront listed differences = (listed ≡ differences)
    ⊎ ((most_counted < length listed) × (n : ℕ) × (listed ≡ take n differences))

-- the line of a difference was added
abbrev pub AddsLine : LineForm → Option DecodeTime → Difference → List ℕ → List ℕ → Type 0
AddsLine form time d old new = new ≡ old ++ difference_in form time d

-- the last line was added
abbrev pub AddsLast : LineForm → Bool → List Difference → Option Without → List ℕ → List ℕ → Type 0
AddsLast form whole ds enough old new = new ≡ old ++ last_in form whole ds enough

-- the lines of these were added
abbrev pub AddsAligned : LineForm → List Alignment → List ℕ → List ℕ → Type 0
AddsAligned form found old new = new ≡ old ++ flat_map (alignment_in form) found

-- a decode time that is there
abbrev pub if_time : Option (Option DecodeTime) → Option DecodeTime
if_time None = None
if_time (Some time) = time

-- the lines of differences, with decode times one to one
abbrev pub lines_with : LineForm → List (Option DecodeTime) → List Difference → List ℕ
lines_with form times [] = []
lines_with form times (d ∷ ds) = difference_in form (if_time (slice_get times 0)) d
    ++ lines_with form (drop 1 times) ds

-- the lines of how tracks lie beside each other, those of some first differences, with decode times
-- one to one, and the last one, which says whether these are all
abbrev pub IsCounted : Lines → List Alignment → List (Option DecodeTime) → List Difference → Bool
    → Option Without → List ℕ → Type 0
IsCounted lines found times ds whole enough text =
    text ≡ flat_map (alignment_in lines.form) found
    ++ lines_with lines.form times (take lines.limit ds)
    ++ last_in lines.form whole ds enough

-- The differences are given for whatever is left out. Whether there are none without this.
abbrev pub IsSameWith : Without → (Without → List Difference) → Bool → Type 0
IsSameWith l differ true = differ l ≡ []
IsSameWith l differ false = differ l ≡ [] → ⊥

-- some words, those that were given among them, without which nothing differs; or none do
abbrev pub AreSome : Without → (Without → List Difference) → Option Without → Type 0
AreSome given differ None = differ everything ≡ [] → ⊥
AreSome given differ (Some l) = Covers given l × (differ l ≡ [])

-- One of the words was taken away, where nothing differs without the others; else it was not.
abbrev pub IsTried : Word → Without → (Without → List Difference) → Without → Without → Type 0
IsTried word given differ l next =
    ((next ≡ less_word given l word) × (differ l ≡ [] → differ next ≡ []))
    ⊎ ((next ≡ l) × (differ (less_word given l word) ≡ [] → ⊥))

-- the same of several, one after the other
unfoldable pub IsShrunk : List Word → Without → (Without → List Difference) → Without → Without
    → Type 0
IsShrunk [] given differ l least = least ≡ l
IsShrunk (word ∷ words) given differ l least = (next : Without)
    × IsTried word given differ l next × IsShrunk words given differ next least

-- what is left of some words that are enough; or none are
abbrev pub IsEnough : Without → (Without → List Difference) → Option Without → Type 0
IsEnough given differ None = AreSome given differ None
IsEnough given differ (Some least) = (l : Without) × AreSome given differ (Some l)
    × IsShrunk single_words given differ l least

-- Words that leave the same of movies that may be told how long their tracks wait, as they are
-- asked for: origins go with how tracks begin.
abbrev pub as_asked : Without → Without → Without
as_asked asked l = record l {
  origins = if asked.lead_ins then asked.origins else l.origins;
  lead_ins = asked.lead_ins;
}

-- what is said where something differs, of words that are asked for as the first say
abbrev pub IsSaidOf : Listing → Without → Without → Presentation → Presentation → List ℕ → Type 0
IsSaidOf (listings.First form) asked l p q text = (first : Difference)
    × (slice_get (differences (remaining l p) (remaining l q)) 0 ≡ Some first)
    × (text ≡ difference_in form (decode_time p first.subject) first)
IsSaidOf (listings.All lines) asked l p q text = (found : List Alignment)
    × AreToldAligned lines.aligned l p q found
    × (enough : Option Without)
    × IsEnough l (λ m. differences (remaining m p) (remaining m q)) enough
    × (text ≡ listing_text lines p found
    (listed lines.aligned (remaining l p) (remaining l q)) (option_map (as_asked asked) enough))

-- the same of what was found
abbrev pub IsFoundOf : {A : Type 0} → (A → List ℕ) → Listing → Without → Without → Presentation
    → Presentation → Option A → Type 0
IsFoundOf bytes listing asked l p q None = Unit {0}
IsFoundOf bytes listing asked l p q (Some text) = IsSaidOf listing asked l p q (bytes text)

abbrev pub says_nothing : {A : Type 0} → Option A → Bool
says_nothing None = true
says_nothing (Some text) = false

-- the steps of at most so many walks over all tracks of both
abbrev pub WalksTimes : ℕ → FileTree → FileTree → ℕ → ℕ → Type 0
WalksTimes times tree other old new = new ≤ old + times * (walks_steps tree + walks_steps other)

-- Nothing is said of files that are the same, but where all differences are listed as JSON.
abbrev pub is_text : LineForm → Bool
is_text forms.Json = false
is_text _ = true

abbrev pub is_silent : Listing → Bool
is_silent (listings.First form) = true
is_silent (listings.All lines) = is_text lines.form

-- some text was put
abbrev pub PutsSome : (List ℕ → Type 0) → Type 0
PutsSome Took = (text : List ℕ) × (0 < length text) × Took text

-- what was put of files that are the same without this
abbrev pub PutsSame : Without → Bool → (List ℕ → Type 0) → Type 0
PutsSame l true Took = Took []
PutsSame l false Took = Took (last_object true [] (Some l))

-- nothing was put where two files are the same and nothing is said of that, or the object that says
-- so; where they differ, some text
abbrev pub PutsAnswer : Without → Bool → (List ℕ → Type 0) → Bool → Type 0
PutsAnswer l silent Took true = PutsSame l silent Took
PutsAnswer l silent Took false = PutsSome Took

-- all that was found was put
abbrev pub PutsFound : {A : Type 0} → (A → List ℕ) → Option A → (List ℕ → Type 0) → Type 0
PutsFound bytes None Took = Unit {0}
PutsFound bytes (Some text) Took = Took (bytes text)

-- ---- refusals

-- the files that a failure is about, once both are judged
abbrev pub side_of : Refusal → Side
side_of refusals.StoreFailed = sides.Both
side_of refusals.StoreChanged = sides.Both
side_of _ = sides.Neither

-- reading both files side by side failed, or one of them has changed
abbrev pub RefusesBoth : Bool → Bool → ℕ → ℕ → ℕ → ℕ → Refusal → Type 0
RefusesBoth honest honest_right left left_after right right_after refusals.StoreFailed =
    HasRisen left left_after ⊎ HasRisen right right_after
RefusesBoth honest honest_right left left_after right right_after refusals.StoreChanged =
    IsTrue honest → IsTrue honest_right → ⊥
RefusesBoth honest honest_right left left_after right right_after _ = ⊥

-- the answer could not be put, or there was no memory for it
abbrev pub RefusesAnswer : (List ℕ → Type 0) → ℕ → ℕ → Refusal → Type 0
RefusesAnswer Took puts puts_after refusals.WriteFailed = HasRisen puts puts_after
    × (text : List ℕ) × TakesPrefix Took text
RefusesAnswer Took puts puts_after refusals.Memory = Took []
RefusesAnswer Took puts puts_after _ = ⊥

-- The side says whose refusal it is: of the first file, of the second, of reading both, or of
-- neither. Nothing is put before both are judged and compared.
abbrev pub RefusesCompare : (Refusal → Type 0) → (Refusal → Type 0) → (Refusal → Type 0)
    → (List ℕ → Type 0) → ℕ → ℕ → Failure → Type 0
RefusesCompare First Second Both Took puts puts_after failure = of failure.side
  where
    of : Side → Type 0
    of sides.First = First failure.refusal × Took []
    of sides.Second = Second failure.refusal × Took []
    of sides.Both = Both failure.refusal × Took []
    of sides.Neither = RefusesAnswer Took puts puts_after failure.refusal
