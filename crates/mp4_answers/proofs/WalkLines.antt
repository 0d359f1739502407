-- The lines of a walk's samples: hand after hand, from the first sample of the track to its last.
use Rattle.std.proofs.Common.{◌≡◌, ℕ, zero, suc, ◌+◌, ◌-◌, ◌^◌, ◌<◌, List, [], ◌∷◌, ◌++◌, length, drop, replicate, refl, sym, ap, subst, ◌∙◌, arith, append_assoc, length-append}
use Rattle.std.specs.Prelude.{Option, None, Some, is_some, true, slice_index_or}
use Rattle.std.proofs.lemmas.List.{append-nil}
use Rattle.mp4_store.specs.words.Device.{TakesPrefix}
use Rattle.mp4_store.proofs.Known.{IsJoining, TakesPrefix-longer}
use Rattle.mp4_tables.specs.declared.sample.SampleAt.{SampleAt}
use Rattle.mp4_tables.proofs.SampleLists.{timed_length}
use Rattle.mp4_frag.specs.format.FragmentSamples.{part_samples}
use Rattle.mp4_frag.specs.words.OwnTrafs.{PlacedTraf, placed_samples}
use Rattle.mp4_head.specs.format.Tree.{TrackTree, track_head_of}
use Rattle.mp4_present.specs.words.Carried.{BytesGoOn}
use Rattle.mp4_present.specs.words.SamplesComing.{StandsBefore, Comes, count_behind, due_behind, own_trafs, samples_behind, track_keys}
use Rattle.mp4_present.specs.format.Denotes.{FileTree}
use Rattle.mp4_present.specs.words.InFragment.{number_in_hand, spread, traf_numbers}
use Rattle.mp4_present.specs.words.InHand.{left_in_hand}
use Rattle.mp4_present.specs.words.Movies.{MovieSeen, InHandOf}
use Rattle.mp4_present.specs.words.OpenedMovie.{IsOpenedAs}
use Rattle.mp4_present.specs.declared.walking.Due.{Due}
use Rattle.mp4_present.specs.declared.walking.in_hand.InHand.{InHand}
use Rattle.mp4_present.specs.declared.walking.Walk.{Walk}
use Rattle.mp4_present.proofs.InFragment.{numbered_each}
use Rattle.mp4_present.proofs.Carrying.{BytesGoOn-then, BytesGoOn-all, BytesGoOn-fails, BytesGoOn-front}
use Rattle.mp4_present.proofs.WalkCopied.{StandsOn, hand_one}
use Rattle.mp4_answers.specs.declared.jobs.Form.{Form}
use Rattle.mp4_answers.specs.format.Texts.{lines_in_fragments, sample_at_lines}
use Rattle.mp4_answers.specs.words.ListedWalks.{IsBegun, IsFragmentOf, numbers_of_last}
use Rattle.mp4_answers.proofs.Going.{Going}
use Rattle.mp4_answers.proofs.SampleTexts.{lines_split}

-- the numbers of the `moof`s of the samples of some of a track's `traf`s, which stand behind others
abbrev pub numbers_behind : FileTree → TrackTree → List PlacedTraf → List PlacedTraf → List ℕ
numbers_behind tree t earlier later = spread later (drop (length earlier) (traf_numbers tree t))

-- The lines of the first samples are put or wait; the next one has this number, and those behind these `moof`s are to come.
pub record LinesGoOn (form : Form) (file : List ℕ) (tree : FileTree) (t : TrackTree) (Took : List ℕ → Type 0) (held held_after : List ℕ) (number : ℕ) (w : Walk) (fragments : List ℕ) (all : List SampleAt) : Type 0 where
  pub earlier : List PlacedTraf
  pub later : List PlacedTraf
  pub stands : StandsBefore file tree t earlier later w
  pub goes : Going Took held held_after (lines_in_fragments form number (numbers_behind tree t earlier later) (samples_behind tree t earlier later)) (lines_in_fragments form 1 fragments all)
  pub count : number + length (samples_behind tree t earlier later) ≡ 1 + length all

-- those in hand, and those behind
coming_is : (file : List ℕ) (tree : FileTree) (t : TrackTree) (m : MovieSeen) (w : Walk) (to_come : List SampleAt) → (k : Comes file tree t m w to_come) → (x : InHand) → InHandOf m w x → to_come ≡ left_in_hand x ++ samples_behind tree t k.0 k.1
coming_is file tree t m w to_come k x i = k.3.2 ∙ ap (λ (y : InHand). left_in_hand y ++ samples_behind tree t k.0 k.1) (hand_one m w k.2 x k.3.1 i)

-- ---- in which `moof`s they lie

samples_length : (tree : FileTree) (t : TrackTree) (earlier later : List PlacedTraf) → length (samples_behind tree t earlier later) ≡ length (placed_samples later)
samples_length tree t earlier later = timed_length (track_keys tree t) (count_behind t earlier) (due_behind tree t earlier) (placed_samples later)

-- no `traf` was loaded: what is in hand is of the tables
pub first_numbers : (file : List ℕ) (tree : FileTree) (t : TrackTree) (m : MovieSeen) (w : Walk) (all : List SampleAt) (fragment : ℕ) → IsBegun w → IsOpenedAs file m tree → IsFragmentOf m w fragment → (k : Comes file tree t m w all) → (x : InHand) → InHandOf m w x
    → numbers_of_last tree t (length all) ≡ replicate (length (left_in_hand x)) fragment ++ numbers_behind tree t k.0 k.1
first_numbers file tree t m w all fragment begun o f k x i =
    let none : k.0 ≡ [] = empty k.0 (sym k.3.0.place ∙ begun.next) in
    let own : own_trafs tree t ≡ k.1 = k.3.0.split ∙ ap (λ ps. ps ++ k.1) none in
    let is : fragment ≡ 0 = f file tree t k.0 k.1 o k.3.0 ∙ ap (λ b. number_in_hand tree t b (length k.0)) begun.before in
    let long = ap (λ (ss : List SampleAt). length ss) (coming_is file tree t m w all k x i) ∙ length-append (left_in_hand x) (samples_behind tree t k.0 k.1) in
    let behind = samples_length tree t k.0 k.1 ∙ ap (λ ps. length (placed_samples ps)) (sym own) in
    let many = in_hand (length all) (length (left_in_hand x)) (length (samples_behind tree t k.0 k.1)) (length (placed_samples (own_trafs tree t))) long behind in
    (λ j. replicate (many j) (sym is j) ++ spread (own j) (traf_numbers tree t)) ∙ ap (λ n. replicate (length (left_in_hand x)) fragment ++ spread k.1 (drop n (traf_numbers tree t))) (sym (ap (λ (ps : List PlacedTraf). length ps) none))
  where
    empty : (ps : List PlacedTraf) → length ps ≡ 0 → ps ≡ []
    empty [] e = refl
    empty (p ∷ ps) e = absurd cc

    in_hand : (all left behind own : ℕ) → all ≡ left + behind → behind ≡ own → all - own ≡ left
    in_hand all left behind own e f = omega (arith, e, f)

-- one more of some entries
pub record IsNextOf {A : Type 0} (before after front back : List A) : Type 0 where
  pub next : A
  pub front_is : front ≡ before ++ next ∷ []
  pub after_is : after ≡ next ∷ back

next_of : {A : Type 0} (before after front back : List A) → before ++ after ≡ front ++ back → length front ≡ suc (length before) → IsNextOf before after front back
next_of [] after [] back e long = absurd cc
next_of [] after (x ∷ []) back e long = record { next = x; front_is = refl; after_is = e }
next_of [] after (x ∷ y ∷ front) back e long = absurd cc
next_of (b ∷ before) after [] back e long = absurd cc
next_of (b ∷ before) after (x ∷ front) back e long =
    let same : b ≡ x = cc in
    let others : before ++ after ≡ front ++ back = cc in
    let longer : length front ≡ suc (length before) = omega (arith, long) in
    let n = next_of before after front back others longer in
    record { next = n.next; front_is = (λ i. sym same i ∷ n.front_is i); after_is = n.after_is }

-- where some numbers are left, the first of these
spread_next : (p : PlacedTraf) (later : List PlacedTraf) (k : ℕ) (numbers : List ℕ) → k < length numbers
    → spread (p ∷ later) (drop k numbers) ≡ replicate (length (part_samples p.part)) (slice_index_or numbers k 0) ++ spread later (drop (suc k) numbers)
spread_next p later k [] lt = absurd (omega (arith, lt))
spread_next p later zero (n ∷ numbers) lt = refl
spread_next p later (suc k) (n ∷ numbers) lt = spread_next p later k numbers (omega (arith, lt))

-- a `traf` was loaded: what is in hand are its samples
pub next_numbers : (file : List ℕ) (tree : FileTree) (t : TrackTree) (m : MovieSeen) (w later_w : Walk) (fragment : ℕ) (earlier later : List PlacedTraf) → StandsBefore file tree t earlier later w
    → (later_w.next ≡ w.next + 1) × (is_some later_w.before ≡ true) → IsOpenedAs file m tree → IsFragmentOf m later_w fragment
    → (k : Comes file tree t m later_w (samples_behind tree t earlier later)) → (x : InHand) → InHandOf m later_w x
    → numbers_behind tree t earlier later ≡ replicate (length (left_in_hand x)) fragment ++ numbers_behind tree t k.0 k.1
next_numbers file tree t m w later_w fragment earlier later h went o f k x i =
    let place = h.place in
    let later_place = k.3.0.place in
    let next = went.0 in
    let n = next_of earlier later k.0 k.1 (sym h.split ∙ k.3.0.split) (omega (arith, place, later_place, next)) in
    let more : length k.0 ≡ suc (length earlier) = omega (arith, place, later_place, next) in
    let last : length k.0 - 1 ≡ length earlier = omega (arith, more) in
    let is = f file tree t k.0 k.1 o k.3.0 ∙ in_traf later_w.before (length k.0) went.1 ∙ ap (λ j. slice_index_or (traf_numbers tree t) j 0) last in
    let all = ap (λ (ss : List SampleAt). length ss) (coming_is file tree t m later_w (samples_behind tree t earlier later) k x i) ∙ length-append (left_in_hand x) (samples_behind tree t k.0 k.1) in
    let own = samples_length tree t earlier later ∙ ap (λ ps. length (placed_samples ps)) n.after_is ∙ length-append (part_samples n.next.part) (placed_samples k.1) in
    let behind = samples_length tree t k.0 k.1 in
    let left : length (part_samples n.next.part) ≡ length (left_in_hand x) = omega (arith, all, own, behind) in
    let long = numbered_each tree.movie (track_head_of t).id 1 tree.fragments in
    let split = ap (λ (ps : List PlacedTraf). length ps) (h.split ∙ ap (λ ps. earlier ++ ps) n.after_is) ∙ length-append earlier (n.next ∷ k.1) in
    ap (λ ps. spread ps (drop (length earlier) (traf_numbers tree t))) n.after_is ∙ spread_next n.next k.1 (length earlier) (traf_numbers tree t) (omega (arith, long, split))
    ∙ (λ j. replicate (left j) (sym is j) ++ spread k.1 (drop (sym more j) (traf_numbers tree t)))
  where
    in_traf : (before : Option Due) (n : ℕ) → is_some before ≡ true → number_in_hand tree t before n ≡ slice_index_or (traf_numbers tree t) (n - 1) 0
    in_traf None n e = absurd cc
    in_traf (Some due) n e = refl

-- ---- hand after hand

-- there are fewer than 2^64
fits : (number coming left rest all : ℕ) → number + coming ≡ 1 + all → all < 2 ^ 32 → coming ≡ left + rest → number + left < 2 ^ 64
fits number coming left rest all e lt c = omega (arith, e, lt, c)

left_over : (number next coming left rest all : ℕ) → number + coming ≡ 1 + all → coming ≡ left + rest → next ≡ number + left → next + rest ≡ 1 + all
left_over number next coming left rest all e c n = omega (arith, e, c, n)

module _ (form : Form) (file : List ℕ) (tree : FileTree) (t : TrackTree) (m : MovieSeen) {Y : Type 0} {takes : Y → Y → List ℕ → Type 0} (joins : IsJoining takes) (a b c : Y) (held held_b : List ℕ) (w : Walk) (number fragment : ℕ) (fragments numbers : List ℕ) (all to_come : List SampleAt)
    (g : Going (takes a b) held held_b (lines_in_fragments form number numbers to_come) (lines_in_fragments form 1 fragments all))
    (count : number + length to_come ≡ 1 + length all) (few : length all < 2 ^ 32) (k : Comes file tree t m w to_come) (x : InHand) (i : InHandOf m w x) (lie : numbers ≡ replicate (length (left_in_hand x)) fragment ++ numbers_behind tree t k.0 k.1) where
  abbrev left : List SampleAt
  left = left_in_hand x

  abbrev rest : List SampleAt
  rest = samples_behind tree t k.0 k.1

  abbrev later : List ℕ
  later = numbers_behind tree t k.0 k.1

  both : to_come ≡ left ++ rest
  both = coming_is file tree t m w to_come k x i

  together : length to_come ≡ length left + length rest
  together = ap (λ (ss : List SampleAt). length ss) both ∙ length-append left rest

  short : number + length left < 2 ^ 64
  short = fits number (length to_come) (length left) (length rest) (length all) count few together

  two : (next : ℕ) → next ≡ number + length left → lines_in_fragments form number numbers to_come ≡ sample_at_lines form number fragment left ++ lines_in_fragments form next later rest
  two next e = (λ j. lines_in_fragments form number (lie j) (both j)) ∙ lines_split form number next fragment later left rest e

  -- the lines of those in hand are taken along
  pub lines_next : (held_c : List ℕ) (later_w : Walk) (next : ℕ) → (number + length left < 2 ^ 64 → BytesGoOn (takes b c) held_b held_c (sample_at_lines form number fragment left) × (next ≡ number + length left)) → StandsOn w later_w
      → LinesGoOn form file tree t (takes a c) held held_c next later_w fragments all
  lines_next held_c later_w next f on =
      let r = f short in
      let own = sample_at_lines form number fragment left in
      record {
        earlier = k.0;
        later = k.1;
        stands = on file tree t k.0 k.1 k.3.0;
        goes = record {
          done = g.done ++ own;
          goes_on = BytesGoOn-then joins a b c held held_b held_c g.done own (g.done ++ own) g.goes_on r.0 refl;
          whole = append_assoc g.done own (lines_in_fragments form next later rest) ∙ ap (λ (bs : List ℕ). g.done ++ bs) (sym (two next r.1)) ∙ g.whole;
        };
        count = left_over number next (length to_come) (length left) (length rest) (length all) count together r.1;
      }

  -- or not whole
  pub lines_fail : (number + length left < 2 ^ 64 → TakesPrefix (takes b c) (held_b ++ sample_at_lines form number fragment left)) → TakesPrefix (takes a c) (held ++ lines_in_fragments form 1 fragments all)
  lines_fail f =
      let own = sample_at_lines form number fragment left in
      let more = lines_in_fragments form (number + length left) later rest in
      let longer : TakesPrefix (takes b c) (held_b ++ lines_in_fragments form number numbers to_come) = rw (two (number + length left) refl, ← append_assoc held_b own more) (TakesPrefix-longer (takes b c) (held_b ++ own) more (f short)) in
      subst (λ (bs : List ℕ). TakesPrefix (takes a c) (held ++ bs)) g.whole (BytesGoOn-fails joins a b c held held_b g.done (lines_in_fragments form number numbers to_come) g.goes_on longer)

-- what was put so far is a front of all
pub lines_stop : (Took : List ℕ → Type 0) (held held_b to_come all : List ℕ) → Going Took held held_b to_come all → TakesPrefix Took (held ++ all)
lines_stop Took held held_b to_come all g = subst (λ (bs : List ℕ). TakesPrefix Took (held ++ bs)) g.whole (BytesGoOn-front Took held held_b g.done to_come g.goes_on)

-- nothing is to come
lines_all : (form : Form) (Took : List ℕ → Type 0) (held held_b : List ℕ) (number : ℕ) (numbers : List ℕ) (to_come : List SampleAt) (lines : List ℕ) → Going Took held held_b (lines_in_fragments form number numbers to_come) lines → to_come ≡ [] → BytesGoOn Took held held_b lines
lines_all form Took held held_b number numbers to_come lines g none =
    let whole : g.done ≡ lines = sym (append-nil g.done) ∙ ap (λ (ss : List SampleAt). g.done ++ lines_in_fragments form number numbers ss) (sym none) ∙ g.whole in
    rw (← whole) g.goes_on

-- and what waits is put
pub lines_whole : (form : Form) {Y : Type 0} {takes : Y → Y → List ℕ → Type 0} (joins : IsJoining takes) (a b c : Y) (held held_b : List ℕ) (number : ℕ) (numbers : List ℕ) (to_come : List SampleAt) (lines : List ℕ)
    → Going (takes a b) held held_b (lines_in_fragments form number numbers to_come) lines → to_come ≡ [] → takes b c held_b → takes a c (held ++ lines)
lines_whole form {takes = takes} joins a b c held held_b number numbers to_come lines g none p = BytesGoOn-all joins a b c held held_b lines (lines_all form (takes a b) held held_b number numbers to_come lines g none) p

-- or is not put whole
pub lines_not_put : (form : Form) {Y : Type 0} {takes : Y → Y → List ℕ → Type 0} (joins : IsJoining takes) (a b c : Y) (held held_b : List ℕ) (number : ℕ) (numbers : List ℕ) (to_come : List SampleAt) (lines : List ℕ)
    → Going (takes a b) held held_b (lines_in_fragments form number numbers to_come) lines → to_come ≡ [] → TakesPrefix (takes b c) held_b → TakesPrefix (takes a c) (held ++ lines)
lines_not_put form {takes = takes} joins a b c held held_b number numbers to_come lines g none p =
    subst (λ (bs : List ℕ). TakesPrefix (takes a c) (held ++ bs)) (append-nil lines) (BytesGoOn-fails joins a b c held held_b lines [] (lines_all form (takes a b) held held_b number numbers to_come lines g none) (TakesPrefix-longer (takes b c) held_b [] p))

-- what stands before the lines is taken along, and then they are put
pub headed_whole : {Y : Type 0} {takes : Y → Y → List ℕ → Type 0} (joins : IsJoining takes) (a b c : Y) (held head lines : List ℕ) → BytesGoOn (takes a b) [] held head → takes b c (held ++ lines) → takes a c (head ++ lines)
headed_whole {takes = takes} joins a b c held head lines p q = subst (takes a c) (sym (append_assoc p.0 held lines) ∙ ap (λ (bs : List ℕ). bs ++ lines) p.2) (joins a b c p.0 (held ++ lines) p.1 q)

-- or not whole
pub headed_fails : {Y : Type 0} {takes : Y → Y → List ℕ → Type 0} (joins : IsJoining takes) (a b c : Y) (held head lines : List ℕ) → BytesGoOn (takes a b) [] held head → TakesPrefix (takes b c) (held ++ lines) → TakesPrefix (takes a c) (head ++ lines)
headed_fails joins a b c held head lines p q = BytesGoOn-fails joins a b c [] held head lines p q
