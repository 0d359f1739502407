-- What is said of two files that differ: the lines that are listed are those of the definition, and words that are named make the two the same.
use Rattle.std.proofs.Common.{◌≡◌, ◌⊎◌, inl, inr, ℕ, ◌<◌, nat_le, List, [], ◌∷◌, ◌++◌, length, take, Bool, true, false, refl, sym, ap, subst, ◌∙◌, arith, length-take}
use Rattle.std.specs.Prelude.{Option, None, Some, option_map, flat_map, map, slice_get, Result, Ok, Err, IfOk}
use Rattle.std.proofs.lemmas.List.{take-take}
use Rattle.mp4_content.specs.format.Comparison.{differences}
use Rattle.mp4_present.specs.format.Denotes.{FileTree, presentation_of}
use Rattle.mp4_present.specs.format.Presentation.{Presentation, Track, Valid}
use Rattle.mp4_content.specs.format.Remaining.{remaining}
use Rattle.mp4_present.specs.words.Movies.{MovieSeen}
use Rattle.mp4_present.specs.format.Waiting.{waiting_tracks}
use Rattle.mp4_head.specs.format.Head.{Kept}
use Rattle.mp4_content.specs.declared.aligning.Alignment.{Alignment}
use Rattle.mp4_content.specs.declared.comparing.differences.DecodeTime.{DecodeTime}
use Rattle.mp4_content.specs.declared.comparing.differences.Difference.{Difference}
use Rattle.mp4_content.specs.declared.comparing.differences.Subject.{Subject}
use Rattle.mp4_content.specs.format.DecodeTimes.{decode_time, decode_times}
use Rattle.mp4_content.specs.declared.without.Word.{Word}
use Rattle.mp4_content.specs.declared.without.Without.{Without}
use Rattle.mp4_content.proofs.ComparisonWhole.{no_difference_is_same}
use Rattle.mp4_content.specs.format.CoveringLaws.{Covers}
use Rattle.mp4_answers.specs.declared.commands.compare.Asked.{Asked}
use Rattle.mp4_answers.specs.declared.commands.compare.Lines.{Lines}
use Rattle.mp4_answers.specs.declared.commands.compare.Listing.{Listing}
use Rattle.mp4_answers.specs.declared.commands.compare.Listing.TheVariants as listings
use Rattle.mp4_answers.specs.format.CompareHeadline.{AreEnough, AreToldAligned, IsTold, PutsSuch, TellsOf, of_first, of_second, alignment_in, descriptions_in, difference_in, differences_in, last_in, listing_text, most_counted}
use Rattle.mp4_answers.specs.words.Compares.{AreSome, as_asked, IsCounted, IsEnough, IsTried, IsShrunk, IsSameWith, IsFoundOf, IsSaid, IsSaidOf, ListsFront, PutsFound, says_nothing}
use Rattle.mp4_answers.specs.words.SingleWords.{everything, less_word, single_words}
use Rattle.mp4_answers.specs.words.TwoFiles.{differ_without}
use Rattle.mp4_content.specs.words.Compared.{files_differ}
use Rattle.mp4_content.proofs.RemainingWords.{same_remains_without_more}
use Rattle.mp4_content.proofs.RemainingScaled.{remaining_is_scaled}
use Rattle.mp4_content.proofs.LeadInsMore.{same_kept_without_more}
use Rattle.mp4_content.proofs.LeadInsTold.{kept_is_told, left_is_told}
use Rattle.mp4_content.proofs.LeadInsTracks.{where_more, where_told}
use Rattle.mp4_content.proofs.LeadInsUntimed.{kept_without_times}
use Rattle.mp4_content.specs.format.Alignment.{listed}
use Rattle.mp4_content.specs.format.LeadIns.{Moment, delay, first_moments, kept, left_of, says_beginnings, told, told_by, wait_of, words_told}
use Rattle.mp4_answers.proofs.LeastTimes.{among_others}
use Rattle.mp4_answers.proofs.WordSets.{covers_all, none_to_take, shrunk}
use Rattle.mp4_answers.proofs.ComparedFiles.{first_said, opened_valid, true_false}
use Rattle.mp4_answers.proofs.AskedWords.{among_asked, covers_asked, covers_told, inside_told, lead_same, same_asked, told_as, told_asked}
use Rattle.mp4_answers.proofs.ComparedTimes.{lines_timed, listing_same, same_time}
use Rattle.mp4_answers.proofs.OpenedTold.{shown_limits, shows_told}
use Rattle.mp4_answers.specs.words.OpenedTold.{IsOpenedTold}
use Rattle.mp4_boxes.proofs.Plain.{nat_le_no}

-- ---- the lines that are listed

module _ (most : ℕ) where
  most_of : (n : ℕ) (ds : List Difference) → most < length (take n ds) → take most (take n ds) ≡ take most ds
  most_of n ds long = let few = length-take n ds in take-take most n ds (omega (arith, few, long))

  still_more : (n : ℕ) (ds : List Difference) → most < length (take n ds) → nat_le (length (take n ds)) most ≡ nat_le (length ds) most
  still_more n ds long = let few = length-take n ds in nat_le_no (length (take n ds)) most long ∙ sym (nat_le_no (length ds) most (omega (arith, few, long)))

  -- of a list that was cut as many are counted as of all
  front_taken : (listed ds : List Difference) → (listed ≡ ds) ⊎ ((most < length listed) × (n : ℕ) × (listed ≡ take n ds)) → take most listed ≡ take most ds
  front_taken listed ds (inl e) = ap (take most) e
  front_taken listed ds (inr h) = ap (take most) h.2 ∙ most_of h.1 ds (subst (λ (xs : List Difference). most < length xs) h.2 h.0)

  front_whole : (listed ds : List Difference) → (listed ≡ ds) ⊎ ((most < length listed) × (n : ℕ) × (listed ≡ take n ds)) → nat_le (length listed) most ≡ nat_le (length ds) most
  front_whole listed ds (inl e) = ap (λ (xs : List Difference). nat_le (length xs) most) e
  front_whole listed ds (inr h) = ap (λ (xs : List Difference). nat_le (length xs) most) h.2 ∙ still_more h.1 ds (subst (λ (xs : List Difference). most < length xs) h.2 h.0)

pub counted_listed : (lines : Lines) (p : Presentation) (found : List Alignment) (times : List (Option DecodeTime)) (listed ds all : List Difference) (whole : Bool) (enough : Option Without) (text : List ℕ) → ListsFront listed ds → times ≡ decode_times p listed → all ≡ take most_counted listed
    → whole ≡ nat_le (length listed) most_counted → IsCounted lines found times all whole enough text → text ≡ listing_text lines p found ds enough
counted_listed lines p found times listed ds all whole enough text front timed is so h =
    let taken : all ≡ take most_counted ds = is ∙ front_taken most_counted listed ds front in
    let told : whole ≡ nat_le (length ds) most_counted = so ∙ front_whole most_counted listed ds front in
    let said = lines_timed lines.form p times listed all lines.limit most_counted timed is in
    h ∙ (λ i. flat_map (alignment_in lines.form) found ++ said i ++ last_in lines.form whole all enough)
    ∙ (λ i. flat_map (alignment_in lines.form) found ++ differences_in lines.form p (take lines.limit (taken i)) ++ last_in lines.form (told i) (taken i) enough)

-- ---- what differs, by what is left out

module _ (file : List ℕ) (tree : FileTree) (file_right : List ℕ) (other : FileTree) where
  -- it is what differs between what remains of both
  pub differ_is : differ_without file tree file_right other ≡ (λ (l : Without). differences (remaining l (presentation_of file tree)) (remaining l (presentation_of file_right other)))
  unfolding differ_without
  differ_is = refl

  pub differ_at : (l : Without) → differ_without file tree file_right other l ≡ differences (remaining l (presentation_of file tree)) (remaining l (presentation_of file_right other))
  unfolding differ_without
  differ_at l = refl

pub first_differs : (l : Without) (file : List ℕ) (tree : FileTree) (file_right : List ℕ) (other : FileTree) (first : Option Difference) → first ≡ slice_get (files_differ l file tree file_right other) 0 → first ≡ slice_get (differ_without file tree file_right other l) 0
first_differs l file tree file_right other first e = e ∙ ap (λ (ds : List Difference). slice_get ds 0) (sym (differ_at file tree file_right other l))

-- ---- words that are tried

-- whether nothing differs is told by the first difference
pub same_none : (l : Without) (differ : Without → List Difference) (first : Option Difference) → first ≡ slice_get (differ l) 0 → first ≡ None → IsSameWith l differ true
same_none l differ first e none = subst (λ (f : Option Difference). IsSaid f (differ l)) none (first_said first (differ l) e)

pub same_some : (l : Without) (differ : Without → List Difference) (first : Option Difference) (d : Difference) → first ≡ slice_get (differ l) 0 → first ≡ Some d → IsSameWith l differ false
same_some l differ first d e some = subst (λ (f : Option Difference). IsSaid f (differ l)) some (first_said first (differ l) e)

-- words that are enough, or none are
pub some_found : (given l : Without) (differ : Without → List Difference) (same : Bool) → Covers given l → same ≡ true → IsSameWith l differ same → AreSome given differ (Some l)
some_found given l differ same c e h = (c, subst (IsSameWith l differ) e h)

pub none_found : (given l : Without) (differ : Without → List Difference) (same : Bool) → l ≡ everything → same ≡ false → IsSameWith l differ same → AreSome given differ None
none_found given l differ same all e h = subst (λ (x : Without). differ x ≡ [] → ⊥) all (subst (IsSameWith l differ) e h)

-- a word was taken away, or there was none to take, or it stays
pub word_taken : (word : Word) (given l less : Without) (differ : Without → List Difference) (same : Bool) → less ≡ less_word given l word → same ≡ true → IsSameWith less differ same → IsTried word given differ l less
word_taken word given l less differ same is e h = inl (is, λ none. subst (IsSameWith less differ) e h)

pub no_word_taken : (word : Word) (given l : Without) (differ : Without → List Difference) → less_word given l word ≡ l → IsTried word given differ l l
no_word_taken word given l differ same = inl (sym same, λ none. none)

pub word_kept : (word : Word) (given l less : Without) (differ : Without → List Difference) (same : Bool) → less ≡ less_word given l word → same ≡ false → IsSameWith less differ same → IsTried word given differ l l
word_kept word given l less differ same is e h = inr (refl, subst (λ (m : Without). differ m ≡ [] → ⊥) is (subst (IsSameWith less differ) e h))

-- no word is left to try, or one more was tried
pub none_to_shrink : (words : List Word) (given : Without) (differ : Without → List Difference) (l : Without) → length words ≡ 0 → IsShrunk words given differ l l
unfolding IsShrunk
none_to_shrink [] given differ l e = refl
none_to_shrink (w ∷ words) given differ l e = absurd (omega (arith, e))

pub shrunk_on : (words : List Word) (given : Without) (differ : Without → List Difference) (l : Without) (word : Word) (more : List Word) (next least : Without) → words ≡ word ∷ more → IsTried word given differ l next → IsShrunk more given differ next least
    → IsShrunk words given differ l least
unfolding IsShrunk
shrunk_on words given differ l word more next least e tried rest = subst (λ (xs : List Word). IsShrunk xs given differ l least) (sym e) (next, tried, rest)

-- what is left of words that are enough, or none are
pub none_enough : (given : Without) (differ : Without → List Difference) (first : Option Without) → first ≡ None → AreSome given differ first → IsEnough given differ None
none_enough given differ first e h = subst (AreSome given differ) e h

pub least_enough : (given : Without) (differ : Without → List Difference) (first : Option Without) (l least : Without) → first ≡ Some l → AreSome given differ first → IsShrunk single_words given differ l least → IsEnough given differ (Some least)
least_enough given differ first l least e h rest = (l, subst (AreSome given differ) e h, rest)

-- a clause at Ok follows from another
pub ok_weaker : {A E : Type 0} (r : Result A E) (P Q : A → Type 0) → ((x : A) → P x → Q x) → IfOk r P → IfOk r Q
ok_weaker (Ok x) P Q f h = f x h
ok_weaker (Err e) P Q f h = tt

-- ---- what was put tells of the two

-- words that are found are enough, and none of them can be taken away; or there are none
module _ (l : Without) (p q : Presentation) (v : Valid p) (w : Valid q) where
  abbrev differ : Without → List Difference
  differ m = differences (remaining m p) (remaining m q)

  same_of : (m : Without) → differ m ≡ [] → remaining m p ≡ remaining m q
  same_of m = (no_difference_is_same m p q v w).0

  none_of : (m : Without) → remaining m p ≡ remaining m q → differ m ≡ []
  none_of m = (no_difference_is_same m p q v w).1

  more_same : (s t : Without) → Covers s t → differ s ≡ [] → differ t ≡ []
  more_same s t c e = none_of t (same_remains_without_more s t p q c (same_of s e))

  -- the words are enough for what the movies show
  abbrev EnoughOf : Option Without → Type 0
  EnoughOf None = (m : Without) → remaining m p ≡ remaining m q → ⊥
  EnoughOf (Some m) = Covers l m × (remaining m p ≡ remaining m q)
      × ((k : Without) → Covers l k → Covers k m → remaining k p ≡ remaining k q → k ≡ m)
      × (descriptions_in p ≡ descriptions_in q → (k : Without) → Covers l k → k.timing ≡ m.timing → k.timescales ≡ m.timescales → remaining k p ≡ remaining k q → Covers m k)

  enough_of_both : (enough : Option Without) → IsEnough l differ enough → EnoughOf enough
  enough_of_both None h = λ m e. h (none_of everything (same_remains_without_more m everything p q (covers_all m) e))
  enough_of_both (Some m) (first, some, h) =
      let r = shrunk l differ more_same single_words first m some.0 some.1 h in
      let least : (k : Without) → Covers l k → Covers k m → remaining k p ≡ remaining k q → k ≡ m
      = λ k c d e. none_to_take l differ more_same first m k some.0 some.1 h c d (none_of k e) in
      (r.0, same_of m r.1, least, λ same k c timed scaled e. among_others k m l p q v w timed scaled same e (same_of m r.1) c r.0 least)

-- ---- as they are asked for

same_descriptions : (b : Bool) (p : Presentation) → descriptions_in (told b p) ≡ descriptions_in p
same_descriptions false p = refl
same_descriptions true p = by (says_beginnings p) refl
  where
    each : (f : Track → ℕ) (tracks : List Track) → map (λ (t : Track). t.head.media.descriptions) (waiting_tracks (map f tracks) tracks) ≡ map (λ (t : Track). t.head.media.descriptions) tracks
    each f [] = refl
    each f (t ∷ tracks) = ap (λ (xs : List (List Kept)). t.head.media.descriptions ∷ xs) (each f tracks)

    wait : Moment → ℕ
    wait = delay (first_moments p.movie.timescale p.tracks)

    by : (b : Bool) → says_beginnings p ≡ b → descriptions_in (told_by wait p) ≡ descriptions_in p
    by true e = ap descriptions_in (where_told wait p e) ∙ each (wait_of p.movie.timescale wait) p.tracks
    by false e = ap descriptions_in (where_more wait p e)

-- the movies show what the files denote, told how long tracks wait if that is asked
module _ (l : Without) (p q r s : Presentation) (v : Valid r) (w : Valid s) (shown : r ≡ told l.lead_ins p) (other : s ≡ told l.lead_ins q) where
  left_at : (k : Without) (t u : Presentation) → u ≡ told l.lead_ins t → k.lead_ins ≡ l.lead_ins → left_of k t ≡ remaining (words_told k) u
  left_at k t u e same = left_is_told k t ∙ ap (λ b. remaining (words_told k) (told b t)) same ∙ ap (remaining (words_told k)) (sym e)

  to_told : (k : Without) → k.lead_ins ≡ l.lead_ins → left_of k p ≡ left_of k q → remaining (words_told k) r ≡ remaining (words_told k) s
  to_told k same e = sym (left_at k p r shown same) ∙ e ∙ left_at k q s other same

  -- where all is left out, it doesn't matter how tracks begin
  all_left : (m : Without) (t u : Presentation) → left_of m t ≡ left_of m u → remaining everything (told l.lead_ins t) ≡ remaining everything (told l.lead_ins u)
  all_left m t u e =
      let more = same_kept_without_more m.lead_ins m.timescales true m everything t u (λ f. refl) (covers_all m) e in
      let one = kept_without_times m.lead_ins true everything t refl refl in
      let two = kept_without_times m.lead_ins true everything u refl refl in
      let back : (x : Presentation) → kept l.lead_ins true everything x ≡ remaining everything (told l.lead_ins x)
      = λ x. kept_is_told l.lead_ins true everything x ∙ sym (remaining_is_scaled everything (told l.lead_ins x)) in
      sym (back t) ∙ kept_without_times l.lead_ins true everything t refl refl ∙ sym one ∙ more ∙ two ∙ sym (kept_without_times l.lead_ins true everything u refl refl) ∙ back u

  enough_asked : (enough : Option Without) → EnoughOf (words_told l) r s v w enough → AreEnough l p q (option_map (as_asked l) enough)
  enough_asked None h = λ m e. h everything (ap (remaining everything) shown ∙ all_left m p q e ∙ ap (remaining everything) (sym other))
  enough_asked (Some m) (c, same, least, among) = (
    covers_asked l m c,
    refl,
    left_at (as_asked l m) p r shown refl ∙ ap (λ (x : Without). remaining x r) (told_asked l m c) ∙ same ∙ ap (λ (x : Without). remaining x s) (sym (told_asked l m c)) ∙ sym (left_at (as_asked l m) q s other refl),
    λ k d e f. same_asked l m c k d e (least (told_as l m c k d) (covers_told l m c k d) (inside_told l m c k d e) (to_told k (lead_same l m c k d e) f)),
    λ heads k d alike f.
        let kinds = ap descriptions_in shown ∙ same_descriptions l.lead_ins p ∙ heads ∙ sym (same_descriptions l.lead_ins q) ∙ ap descriptions_in (sym other) in
        among_asked l m c k d (among kinds (told_as l m c k d) (covers_told l m c k d) alike.timing alike.timescales (to_told k alike.lead_ins f)) alike.lead_ins,
  )

  aligned_told : (b : Bool) (found : List Alignment) → AreToldAligned b (words_told l) r s found → AreToldAligned b (words_told l) (told l.lead_ins p) (told l.lead_ins q) found
  aligned_told b found h = subst (λ (y : Presentation). AreToldAligned b (words_told l) (told l.lead_ins p) y found) other (subst (λ (x : Presentation). AreToldAligned b (words_told l) x s found) shown h)

  timed_alike : (of : Subject) → decode_time r of ≡ decode_time p of
  timed_alike of = ap (λ (x : Presentation). decode_time x of) shown ∙ same_time l.lead_ins p of

  tells_of : (listing : Listing) (text : List ℕ) → IsSaidOf listing l (words_told l) r s text → TellsOf listing l p q text
  tells_of (listings.First form) text h =
      let one = left_at l p r shown refl in
      let two = left_at l q s other refl in
      (h.0, (λ i. slice_get (differences (one i) (two i)) 0) ∙ h.1, h.2 ∙ ap (λ (time : Option DecodeTime). difference_in form time h.0) (timed_alike h.0.subject))
  tells_of (listings.All lines) text (found, beside, enough, is, told_so) =
      let one = left_at l p r shown refl in
      let two = left_at l q s other refl in (
        found,
        aligned_told lines.aligned found beside,
        option_map (as_asked l) enough,
        enough_asked enough (enough_of_both (words_told l) r s v w enough is),
        told_so ∙ listing_same lines r p found _ _ timed_alike ∙ (λ i. listing_text lines p found (listed lines.aligned (sym one i) (sym two i)) (option_map (as_asked l) enough)),
      )

pub told_of : {A : Type 0} (bytes : A → List ℕ) (asked : Asked) (file other : List ℕ) (m n : MovieSeen) (found : Option A) (same : Bool) (Took : List ℕ → Type 0) → same ≡ says_nothing found → same ≡ false → PutsFound bytes found Took
    → (a : (tree : FileTree) × IsOpenedTold asked.first asked.leaving.lead_ins file m tree) → (b : (tree : FileTree) × IsOpenedTold asked.second asked.leaving.lead_ins other n tree)
    → IsFoundOf bytes asked.listing asked.leaving (words_told asked.leaving) (presentation_of file a.0) (presentation_of other b.0) found → PutsSuch Took (IsTold asked file other)
told_of bytes asked file other m n None same Took is differ put a b h = absurd (true_false (sym is ∙ differ))
told_of bytes asked file other m n (Some text) same Took is differ put a b h = (
  bytes text,
  record {
    p = a.1.p;
    q = b.1.p;
    first = shows_told (of_first asked) file m a.0 a.1;
    second = shows_told (of_second asked) other n b.0 b.1;
    first_shown = shown_limits (of_first asked) file m a.0 a.1;
    second_shown = shown_limits (of_second asked) other n b.0 b.1;
    tells = λ x y. tells_of asked.leaving a.1.p b.1.p (presentation_of file a.0) (presentation_of other b.0) (opened_valid (of_first asked) file m a.0 x a.1) (opened_valid (of_second asked) other n b.0 y b.1) a.1.says b.1.says asked.listing (bytes text) h;
  },
  put,
)
