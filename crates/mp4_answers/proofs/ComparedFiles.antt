-- Two files compared: what is listed, and what there is to say of it.
use Rattle.std.proofs.Common.{◌≡◌, ◌⊎◌, inl, inr, ℕ, zero, suc, ◌+◌, ◌*◌, ◌<◌, ◌≤◌, List, [], ◌∷◌, ◌++◌, length, take, nat_eq, Bool, true, false, if◌then◌else◌, refl, sym, ap, subst, ◌∙◌, arith}
use Rattle.std.specs.Prelude.{◌↔◌, Option, None, Some, slice_get, IsTrue}
use Rattle.std.proofs.Math.Nat.{mul-le-mul_right}
use Rattle.std.proofs.lemmas.Bool.{ne_eqb}
use Rattle.mp4_boxes.specs.declared.refusal.Refusal.{Refusal}
use Rattle.mp4_boxes.specs.declared.refusal.Refusal.TheVariants as refusals
use Rattle.mp4_content.specs.format.Comparison.{differences}
use Rattle.mp4_present.specs.format.Denotes.{FileTree, presentation_of}
use Rattle.mp4_present.specs.format.Presentation.{Presentation, Valid, sample_total}
use Rattle.mp4_content.specs.format.Remaining.{remaining}
use Rattle.mp4_content.specs.words.Aligning.{aligning_steps}
use Rattle.mp4_content.specs.words.Compared.{TakesFront, comparing_steps}
use Rattle.mp4_content.specs.words.Differing.{RefusesSample}
use Rattle.mp4_present.specs.words.Movies.{MovieSeen}
use Rattle.mp4_present.specs.words.OpenedMovie.{IsOpenedAs}
use Rattle.mp4_boxes.specs.format.Bytes.{AreBytes}
use Rattle.mp4_content.specs.format.LeadIns.{left_of, words_told}
use Rattle.mp4_answers.specs.words.OpenedTold.{IsOpenedTold, OpensWithinTold}
use Rattle.mp4_answers.proofs.OpenedTold.{left_is, shown_limits, shown_valid, shows_told}
use Rattle.mp4_present.specs.words.WalkSteps.{walks_steps}
use Rattle.mp4_content.specs.declared.comparing.differences.Difference.{Difference}
use Rattle.mp4_content.specs.declared.without.Word.{Word}
use Rattle.mp4_content.specs.declared.without.Without.{Without}
use Rattle.mp4_content.proofs.ComparisonWhole.{no_difference_is_same}
use Rattle.mp4_present.proofs.DenotedValid.{denoted_is_valid}
use Rattle.mp4_answers.specs.format.CompareHeadline.{IsVerdict, of_first, of_second, ComparedWithin, ComparesWithin, aligned_walks, listing_walks, most_counted, most_walks, opened_walks, trying_walks}
use Rattle.mp4_answers.specs.format.Steps.{row_total}
use Rattle.mp4_answers.specs.words.Compares.{side_of, says_nothing, IsSaid, ListsFront, WalksTimes, RefusesBoth, RefusesCompare}
use Rattle.mp4_answers.specs.words.TwoFiles.{differ_without}
use Rattle.mp4_answers.specs.declared.commands.compare.Asked.{Asked}
use Rattle.mp4_answers.specs.declared.commands.compare.Failure.{Failure}
use Rattle.mp4_answers.specs.declared.selection.Selection.{Selection}
use Rattle.mp4_answers.specs.declared.commands.compare.Lines.{Lines}
use Rattle.mp4_answers.specs.declared.commands.compare.Listing.{Listing}
use Rattle.mp4_answers.specs.declared.commands.compare.Listing.TheVariants as listings
use Rattle.mp4_answers.proofs.StepsTaken.{looked_alone, often_walked, opens_later}

pub listed_front : (old new : List Difference) (whole : Bool) (ds : List Difference) → old ≡ [] → (whole ≡ true → new ≡ old ++ ds) → TakesFront old new ds → (whole ≡ true) ⊎ (most_counted < length new) → ListsFront new ds
listed_front old new whole ds none all front (inl e) = inl (all e ∙ ap (λ (xs : List Difference). xs ++ ds) none)
listed_front old new whole ds none all front (inr long) = inr (long, front.0, front.1 ∙ ap (λ (xs : List Difference). xs ++ take front.0 ds) none)

pub true_false : true ≡ false → ⊥
true_false e = cc

none_long : (xs : List Difference) → xs ≡ [] → most_counted < length xs → ⊥
none_long xs e long = let none : length xs ≡ 0 = ap length e in omega (arith, long, none)

take_none : (n : ℕ) (ds : List Difference) → ds ≡ [] → take n ds ≡ []
take_none zero [] e = refl
take_none (suc n) [] e = refl
take_none n (d ∷ ds) e = absurd cc

empty_by : (xs : List Difference) → nat_eq (length xs) 0 ≡ true → xs ≡ []
empty_by [] e = refl
empty_by (x ∷ xs) e = absurd (true_false (sym e ∙ ne_eqb (length (x ∷ xs)) 0 (λ z. absurd (omega (arith, z)))))

-- where none is listed, nothing differs
pub empty_listed : (listed ds : List Difference) → ListsFront listed ds → nat_eq (length listed) 0 ≡ true → ds ≡ []
empty_listed listed ds (inl e) none = sym e ∙ empty_by listed none
empty_listed listed ds (inr h) none = absurd (none_long listed (empty_by listed none) h.0)

-- where one is listed, something differs
pub some_listed : (listed ds : List Difference) → ListsFront listed ds → nat_eq (length listed) 0 ≡ false → ds ≡ [] → ⊥
some_listed listed ds (inl e) some none = let no : nat_eq (length listed) 0 ≡ true = ap (λ (xs : List Difference). nat_eq (length xs) 0) (e ∙ none) in true_false (sym no ∙ some)
some_listed listed ds (inr h) some none = none_long listed (h.2 ∙ take_none h.1 ds none) h.0

-- the first that differs is there exactly if one is
pub first_said : (first : Option Difference) (ds : List Difference) → first ≡ slice_get ds 0 → IsSaid first ds
first_said first [] e = subst (λ (f : Option Difference). IsSaid f []) (sym e) refl
first_said first (d ∷ ds) e = subst (λ (f : Option Difference). IsSaid f (d ∷ ds)) (sym e) (λ none. cc)

-- some walks, and more
pub walks_joined : (old mid new a b times more : ℕ) → mid ≤ old + times * (a + b) → new ≤ mid + more * (a + b) → new ≤ old + (times + more) * (a + b)
walks_joined old mid new a b times more g h = omega (arith, g, h)

two_walks_more : (old mid new a b times : ℕ) → mid ≤ old + 2 * (a + b) → new ≤ mid + 2 * times * (a + b) → new ≤ old + 2 * suc times * (a + b)
two_walks_more old mid new a b times g h = omega (arith, g, h)

-- fewer are as many at most
pub few_times_of : (old new a b few times : ℕ) → few ≤ times → new ≤ old + few * (a + b) → new ≤ old + times * (a + b)
few_times_of old new a b few times le h = let most = mul-le-mul_right (a + b) le in omega (arith, h, most)

-- walks for one word, of as many as there are words to be tried
pub one_of_more : (old new a b : ℕ) (first : Word) (more tries : List Word) → tries ≡ first ∷ more → new ≤ old + 2 * (a + b) → new ≤ old + 2 * length tries * (a + b)
one_of_more old new a b first more tries e h =
    let long : length tries ≡ suc (length more) = ap (λ (xs : List Word). length xs) e in
    few_times_of old new a b 2 (2 * length tries) (omega (arith, long)) h

-- those for one word, and for as many as there are others
pub one_more_time : (old mid new a b : ℕ) (first : Word) (more tries : List Word) → tries ≡ first ∷ more → mid ≤ old + 2 * (a + b) → new ≤ mid + 2 * length more * (a + b) → new ≤ old + 2 * length tries * (a + b)
one_more_time old mid new a b first more tries e g h =
    let long : length tries ≡ suc (length more) = ap (λ (xs : List Word). length xs) e in
    subst (λ n. new ≤ old + 2 * n * (a + b)) (sym long) (two_walks_more old mid new a b (length more) g h)

-- to list, to align tracks, and to find words
pub all_joined : (old mid behind new a b : ℕ) (l : Without) (lines : Lines) → mid ≤ old + listing_walks l * (a + b) → behind ≤ mid + aligned_walks l lines.aligned * (a + b) → new ≤ behind + trying_walks * (a + b) → new ≤ old + opened_walks l (listings.All lines) * (a + b)
all_joined old mid behind new a b l lines g h k =
    walks_joined old behind new a b (listing_walks l + aligned_walks l lines.aligned) trying_walks (walks_joined old mid behind a b (listing_walks l) (aligned_walks l lines.aligned) g h) k

-- without those that find words
pub aligning_joined : (old mid new a b : ℕ) (l : Without) (lines : Lines) → mid ≤ old + listing_walks l * (a + b) → new ≤ mid + aligned_walks l lines.aligned * (a + b) → new ≤ old + opened_walks l (listings.All lines) * (a + b)
aligning_joined old mid new a b l lines g h =
    few_times_of old new a b (listing_walks l + aligned_walks l lines.aligned) (opened_walks l (listings.All lines)) (omega arith) (walks_joined old mid new a b (listing_walks l) (aligned_walks l lines.aligned) g h)

-- and without those that align tracks
pub listing_alone : (old new a b : ℕ) (l : Without) (lines : Lines) → new ≤ old + listing_walks l * (a + b) → new ≤ old + opened_walks l (listings.All lines) * (a + b)
listing_alone old new a b l lines g = few_times_of old new a b (listing_walks l) (opened_walks l (listings.All lines)) (omega arith) g

-- one comparison, where timescales are left out, or not
comparing_is : (v : Bool) (a b : ℕ) → ((if v then a else 0) + (if v then b else 0)) + (a + b) ≡ (1 + (if v then 1 else 0)) * (a + b)
comparing_is true a b = omega arith
comparing_is false a b = omega arith

aligning_is : (v : Bool) (a b : ℕ) → ((if v then a else 0) + (if v then b else 0)) + 2 * (a + b) ≡ (2 + (if v then 1 else 0)) * (a + b)
aligning_is true a b = omega arith
aligning_is false a b = omega arith

at_most_two : (v : Bool) → 1 + (if v then 1 else 0) ≤ 2
at_most_two true = omega arith
at_most_two false = omega arith

module _ (l : Without) (tree other : FileTree) (old new : ℕ) where
  pub compared_once : new ≤ old + comparing_steps l tree other → WalksTimes (listing_walks l) tree other old new
  compared_once h = subst (λ n. new ≤ old + n) (comparing_is l.timescales (walks_steps tree) (walks_steps other)) h

  -- whatever is left out
  pub compared_at_most : new ≤ old + comparing_steps l tree other → WalksTimes 2 tree other old new
  compared_at_most h = few_times_of old new (walks_steps tree) (walks_steps other) (listing_walks l) 2 (at_most_two l.timescales) (compared_once h)

  pub aligned_once : new ≤ old + aligning_steps l tree other → WalksTimes (aligned_walks l true) tree other old new
  aligned_once h = subst (λ n. new ≤ old + n) (aligning_is l.timescales (walks_steps tree) (walks_steps other)) h

-- ---- the answer

verdict_of : (l : Without) (p q : Presentation) {A : Type 0} (found : Option A) (same : Bool) → same ≡ says_nothing found → IsSaid found (differences (remaining l p) (remaining l q)) → Valid p → Valid q → (same ≡ true) ↔ (remaining l p ≡ remaining l q)
verdict_of l p q None same is said v w = (λ e. (no_difference_is_same l p q v w).0 said, λ e. is)
verdict_of l p q (Some text) same is said v w = (λ e. absurd (true_false (sym e ∙ is)), λ e. absurd (said ((no_difference_is_same l p q v w).1 e)))

said_of_both : (file : List ℕ) (tree : FileTree) (file_right : List ℕ) (other : FileTree) (l : Without) {A : Type 0} (found : Option A) → IsSaid found (differ_without file tree file_right other l) → IsSaid found
    (differences (remaining l (presentation_of file tree)) (remaining l (presentation_of file_right other)))
unfolding differ_without
said_of_both file tree file_right other l found said = said

-- what was opened is valid
pub opened_valid : (s : Selection) (file : List ℕ) (m : MovieSeen) (tree : FileTree) → AreBytes file → IsOpenedTold s.track s.leaving.lead_ins file m tree → Valid (presentation_of file tree)
opened_valid s file m tree x o = shown_valid s file m tree o (denoted_is_valid file o.whole x o.denotes)

-- the same remains of what the movies show exactly if the same is left of what is looked at of the files
pub left_same : (asked : Asked) (file other : List ℕ) (m n : MovieSeen) (tree next : FileTree) (a : IsOpenedTold asked.first asked.leaving.lead_ins file m tree) (b : IsOpenedTold asked.second asked.leaving.lead_ins other n next)
    → (remaining (words_told asked.leaving) (presentation_of file tree) ≡ remaining (words_told asked.leaving) (presentation_of other next)) ↔ (left_of asked.leaving a.p ≡ left_of asked.leaving b.p)
left_same asked file other m n tree next a b =
    let first = left_is (of_first asked) file m tree a in
    let second = left_is (of_second asked) other n next b in
    (λ e. sym first ∙ e ∙ second, λ e. first ∙ e ∙ sym second)

pub verdict : (asked : Asked) (file other : List ℕ) (m n : MovieSeen) {A : Type 0} (found : Option A) (same : Bool) → same ≡ says_nothing found → (a : (tree : FileTree) × IsOpenedTold asked.first asked.leaving.lead_ins file m tree)
    → (b : (tree : FileTree) × IsOpenedTold asked.second asked.leaving.lead_ins other n tree)
    → IsSaid found (differ_without file a.0 other b.0 (words_told asked.leaving)) → IsVerdict asked file other same
verdict asked file other m n found same is a b said =
    let words = words_told asked.leaving in
    record {
      p = a.1.p;
      q = b.1.p;
      first = shows_told (of_first asked) file m a.0 a.1;
      second = shows_told (of_second asked) other n b.0 b.1;
      first_shown = shown_limits (of_first asked) file m a.0 a.1;
      second_shown = shown_limits (of_second asked) other n b.0 b.1;
      is = λ x y.
          let told = verdict_of words (presentation_of file a.0) (presentation_of other b.0) found same is (said_of_both file a.0 other b.0 words found said) (opened_valid (of_first asked) file m a.0 x a.1) (opened_valid (of_second asked) other n b.0 y b.1) in
          let left = left_same asked file other m n a.0 b.0 a.1 b.1 in
          (λ e. left.0 (told.0 e), λ e. told.1 (left.1 e));
    }

-- ---- refusals

-- what fails once both files are opened
pub together : (First Second : Refusal → Type 0) (honest honest_right : Bool) (l m r s : ℕ) (Took : List ℕ → Type 0) (nothing : Took []) (puts : ℕ) (refusal : Refusal) (f : Failure) → f.side ≡ side_of refusal → f.refusal ≡ refusal
    → RefusesSample l m r s refusal → (IsTrue honest → IsTrue honest_right → refusal ≡ refusals.StoreChanged → ⊥) → RefusesCompare First Second (RefusesBoth honest honest_right l m r s) Took puts puts f
together First Second honest honest_right l m r s Took nothing puts (refusals.Fault g) f side is w u = absurd w
together First Second honest honest_right l m r s Took nothing puts refusals.Memory f side is w u = rw (side, is) nothing
together First Second honest honest_right l m r s Took nothing puts refusals.StoreFailed f side is w u = rw (side, is) (w, nothing)
together First Second honest honest_right l m r s Took nothing puts refusals.StoreChanged f side is w u = rw (side, is) (λ told right. u told right refl, nothing)
together First Second honest honest_right l m r s Took nothing puts refusals.WriteFailed f side is w u = absurd w
together First Second honest honest_right l m r s Took nothing puts refusals.NoSuchTrack f side is w u = absurd w

-- ---- steps

none_taken : (times : ℕ) (file : List ℕ) (n : ℕ) → ComparedWithin times file n n
none_taken times file n = record {
  denoted = λ p d. let rest = sample_total p + row_total d.tree in omega arith;
  refused = λ nothing. inl refl;
}

-- the second file was not looked at
pub first_alone : (l : Without) (listing : Listing) (file other : List ℕ) (old new : ℕ) → OpensWithinTold l.lead_ins file old new → ComparesWithin l listing file other old new
first_alone l listing file other old new first = record { between = new; first = looked_alone l.lead_ins (most_walks l listing) file old new first; second = none_taken (most_walks l listing) other new }

-- the first file was opened, and so were the second or not
pub both_looked : (l : Without) (listing : Listing) (file other : List ℕ) (old mid new : ℕ) → OpensWithinTold l.lead_ins file old mid → OpensWithinTold l.lead_ins other mid new → ComparesWithin l listing file other old new
both_looked l listing file other old mid new first second = record {
  between = mid;
  first = looked_alone l.lead_ins (most_walks l listing) file old mid first;
  second = looked_alone l.lead_ins (most_walks l listing) other mid new second;
}

-- a bound that more steps keep
steps_later : (b : Bool) (file : List ℕ) (old new more : ℕ) → OpensWithinTold b file old new → OpensWithinTold b file (old + more) (new + more)
steps_later b file old new more h = record {
  denoted = λ p d. let own = h.denoted p d in omega (arith, own);
  refused = λ nothing. opens_later file old new more (h.refused nothing);
}

walks_alike : (l : Without) (listing : Listing) → opened_walks (words_told l) listing ≡ opened_walks l listing
walks_alike l (listings.First syntax) = refl
walks_alike l (listings.All lines) = refl

-- both were opened, and walked over as many times as may be
pub both_walked : (asked : Asked) (file other : List ℕ) (m n : MovieSeen) (old mid behind new : ℕ) → ((tree : FileTree) × IsOpenedTold asked.first asked.leaving.lead_ins file m tree) → ((tree : FileTree) × IsOpenedTold asked.second asked.leaving.lead_ins other n tree)
    → OpensWithinTold asked.leaving.lead_ins file old mid → OpensWithinTold asked.leaving.lead_ins other mid behind
    → ((tree next : FileTree) → IsOpenedAs file m tree → IsOpenedAs other n next → WalksTimes (opened_walks (words_told asked.leaving) asked.listing) tree next behind new) → ComparesWithin asked.leaving asked.listing file other old new
both_walked asked file other m n old mid behind new a b opening next walks =
    let l = asked.leaving in
    let times = opened_walks l asked.listing in
    let ways = times * walks_steps a.0 in
    record {
      between = mid + ways;
      first = often_walked asked.first l.lead_ins times file m a.0 old mid (mid + ways) a.1 opening (omega arith);
      second = often_walked asked.second l.lead_ins times other n b.0 (mid + ways) (behind + ways) new b.1 (steps_later l.lead_ins other mid behind ways next) (let more = subst (λ k. WalksTimes k a.0 b.0 behind new) (walks_alike l asked.listing) (walks a.0 b.0 a.1.opened b.1.opened) in omega
          (arith, more));
    }
