-- From the first turn on the pieces that are left are all pieces: fragments are what lies before the next cut.
use Rattle.std.proofs.Common.{◌≡◌, ℕ, zero, suc, ◌+◌, ◌*◌, ◌<◌, ◌≤◌, max, ◌==◌, nat_le, ◌&&◌, Bool, true, false, cond, List, [], ◌∷◌, ◌++◌, length, Option, Some, None, refl, sym, ap, ap₂, subst, ◌∙◌, append_assoc, append-nil, length-append, arith, le-leb, mul-le-mul_right}
use Rattle.std.specs.Prelude.{filter, map, flat_map, nat_lt}
use Rattle.std.specs.List.{AllByRecursion, range_with_len}
use Rattle.std.proofs.lemmas.Bool.{lt-leb, and_right}
use Rattle.mp4_head.specs.format.Head.{MovieHead}
use Rattle.mp4_present.specs.format.Presentation.{Sample, Track}
use Rattle.mp4_content.specs.format.TimedSamples.{TimedSample, timed_from}
use Rattle.mp4_plan.specs.format.Pieces.{is_sync, cuts_after, cuts_in, fragment_by_number, fragment_by_time, Piece, by_description, track_pieces, fragment_pieces}
use Rattle.mp4_plan.specs.format.PieceLaws.{NeverFalls}
use Rattle.mp4_plan.specs.words.PiecesComing.{Coming, coming_of, stops, front, rest, end_of_other, others_before, others_behind, fragments_left, all_left, BeginsWithAll, TurnsBeginWithAll}
use Rattle.mp4_plan.specs.declared.ends.End.{End}
use Rattle.mp4_plan.specs.declared.ends.End.TheVariants.{Sync, Before}
use Rattle.mp4_plan.proofs.Filters.{numbered}
use Rattle.mp4_plan.proofs.Fragments.{first_never_falls, other_never_falls}
use Rattle.mp4_plan.proofs.FrontLists.{Agree, none, ends, goes, front_same, rest_same, numbered_front, rest_above, numbered_rest, first_passes, FirstIsLeast, place_behind, least_first, agree_all}
use Rattle.mp4_boxes.proofs.Each.{each_weaker as all_weaker}

-- ---- numbers and times along samples

abbrev Sorted : (TimedSample → ℕ) → List TimedSample → Type 0
Sorted w [] = Unit {0}
Sorted w (x ∷ xs) = AllByRecursion (λ y. w x ≤ w y) xs × Sorted w xs

abbrev Rising : List TimedSample → Type 0
Rising [] = Unit {0}
Rising (x ∷ xs) = AllByRecursion (λ (y : TimedSample). x.number < y.number) xs × Rising xs

all_cuts : (P : TimedSample → Type 0) (second last : ℕ) (xs : List TimedSample) → AllByRecursion P xs → AllByRecursion P (cuts_after second last xs)
all_cuts P second last [] h = tt
all_cuts P second last (x ∷ xs) h = by (is_sync x.sample && nat_le (last + second) x.time) (all_cuts P second x.time xs h.1) (all_cuts P second last xs h.1)
  where
    by : (v : Bool) → AllByRecursion P (cuts_after second x.time xs) → AllByRecursion P (cuts_after second last xs) → AllByRecursion P (cond v (x ∷ cuts_after second x.time xs) (cuts_after second last xs))
    by true a b = (h.0, a)
    by false a b = b

sorted_cuts : (w : TimedSample → ℕ) (second last : ℕ) (xs : List TimedSample) → Sorted w xs → Sorted w (cuts_after second last xs)
sorted_cuts w second last [] h = tt
sorted_cuts w second last (x ∷ xs) h = by (is_sync x.sample && nat_le (last + second) x.time) (sorted_cuts w second x.time xs h.1) (sorted_cuts w second last xs h.1)
  where
    by : (v : Bool) → Sorted w (cuts_after second x.time xs) → Sorted w (cuts_after second last xs) → Sorted w (cond v (x ∷ cuts_after second x.time xs) (cuts_after second last xs))
    by true a b = (all_cuts (λ y. w x ≤ w y) second x.time xs h.0, a)
    by false a b = b

numbers_from : (low n t : ℕ) (ss : List Sample) → low < n → AllByRecursion (λ (y : TimedSample). low < y.number) (timed_from n t ss)
numbers_from low n t [] lt = tt
numbers_from low n t (s ∷ ss) lt = (lt, numbers_from low (n + 1) (t + s.duration) ss (omega (arith, lt)))

rising_timed : (n t : ℕ) (ss : List Sample) → Rising (timed_from n t ss)
rising_timed n t [] = tt
rising_timed n t (s ∷ ss) = (numbers_from n (n + 1) (t + s.duration) ss (omega arith), rising_timed (n + 1) (t + s.duration) ss)

rising_sorted : (xs : List TimedSample) → Rising xs → Sorted (λ s. s.number) xs
rising_sorted [] h = tt
rising_sorted (x ∷ xs) h = (all_weaker (λ (y : TimedSample). x.number < y.number) (λ y. x.number ≤ y.number) (λ y lt. omega (arith, lt)) xs h.0, rising_sorted xs h.1)

times_from : (low n t : ℕ) (ss : List Sample) → low ≤ t → AllByRecursion (λ (y : TimedSample). low ≤ y.time) (timed_from n t ss)
times_from low n t [] le = tt
times_from low n t (s ∷ ss) le = (le, times_from low (n + 1) (t + s.duration) ss (omega (arith, le)))

sorted_timed : (n t : ℕ) (ss : List Sample) → Sorted (λ s. s.time) (timed_from n t ss)
sorted_timed n t [] = tt
sorted_timed n t (s ∷ ss) = (times_from t (n + 1) (t + s.duration) ss (omega arith), sorted_timed (n + 1) (t + s.duration) ss)

rising_rest : (test : TimedSample → Bool) (xs : List TimedSample) → Rising xs → Rising (rest test xs)
rising_rest test [] h = tt
rising_rest test (x ∷ xs) h = by (test x) (rising_rest test xs h.1)
  where
    by : (v : Bool) → Rising (rest test xs) → Rising (cond v (x ∷ xs) (rest test xs))
    by true r = h
    by false r = r

-- ---- the first track

-- the next cut has begun, by number
abbrev begun : List TimedSample → TimedSample → Bool
begun later s = first_passes (λ (c : TimedSample). nat_le c.number s.number) later

none_begun : (n : ℕ) (later : List TimedSample) → AllByRecursion (λ (y : TimedSample). n < y.number) later → first_passes (λ (c : TimedSample). nat_le c.number n) later ≡ false
none_begun n [] h = refl
none_begun n (c ∷ later) h = lt-leb c.number n h.0

begun_at : (later xs : List TimedSample) (x : TimedSample) → later ≡ x ∷ xs → begun later x ≡ true
begun_at later xs x e = ap (λ l. begun l x) e ∙ le-leb x.number x.number (omega arith)

-- a piece of the first track ends where the next cut has begun
first_agrees : (scale from : ℕ) (later xs : List TimedSample) → later ≡ cuts_after scale from xs → Rising xs → Agree (stops (Sync from scale)) (begun later) xs
first_agrees scale from later [] e h = none
first_agrees scale from later (x ∷ xs) e h = by (stops (Sync from scale) x) refl e (λ f. first_agrees scale from later xs f h.1)
  where
    by : (v : Bool) → stops (Sync from scale) x ≡ v → later ≡ cond v (x ∷ cuts_after scale x.time xs) (cuts_after scale from xs) → (later ≡ cuts_after scale from xs → Agree (stops (Sync from scale)) (begun later) xs) → Agree (stops (Sync from scale)) (begun later) (x ∷ xs)
    by true t f r = ends t (begun_at later (cuts_after scale x.time xs) x f)
    by false t f r = goes t (ap (λ l. begun l x) f ∙ none_begun x.number (cuts_after scale from xs) (all_cuts (λ (y : TimedSample). x.number < y.number) scale from xs h.0)) (r f)

agree_then : {A : Type 0} (t u v : A → Bool) (xs : List A) → Agree t u xs → ((x : A) → v x ≡ u x) → Agree t v xs
agree_then t u v [] none f = none
agree_then t u v (x ∷ xs) (ends p q) f = ends p (f x ∙ q)
agree_then t u v (x ∷ xs) (goes p q h) f = goes p (f x ∙ q) (agree_then t u v xs h f)

-- a sample is no cut behind itself
pub not_itself : (scale : ℕ) (x : TimedSample) → 0 < scale → (is_sync x.sample && nat_le (x.time + scale) x.time) ≡ false
not_itself scale x lt = and_right (is_sync x.sample) (nat_le (x.time + scale) x.time) (lt-leb (x.time + scale) x.time (omega (arith, lt)))

-- the cuts behind one are those of the samples from it on
cuts_rest : (scale from : ℕ) (c : TimedSample) (later xs : List TimedSample) → 0 < scale → c ∷ later ≡ cuts_after scale from xs → later ≡ cuts_after scale c.time (rest (stops (Sync from scale)) xs)
cuts_rest scale from c later [] lt e = absurd (cc)
cuts_rest scale from c later (x ∷ xs) lt e = by (stops (Sync from scale) x) e (λ f. cuts_rest scale from c later xs lt f)
  where
    by : (v : Bool) → c ∷ later ≡ cond v (x ∷ cuts_after scale x.time xs) (cuts_after scale from xs) → (c ∷ later ≡ cuts_after scale from xs → later ≡ cuts_after scale c.time (rest (stops (Sync from scale)) xs))
        → later ≡ cuts_after scale c.time (cond v (x ∷ xs) (rest (stops (Sync from scale)) xs))
    by true f r =
        let same : c ≡ x = cc in
        let tail : later ≡ cuts_after scale x.time xs = cc in
        let t = not_itself scale x lt in
        tail ∙ sym (ap (λ (y : TimedSample). cuts_after scale y.time (x ∷ xs)) same ∙ ap (λ v. cond v (x ∷ cuts_after scale x.time xs) (cuts_after scale x.time xs)) t)
    by false f r = r f

-- ---- another track

-- when the next fragment begins
abbrev next_time : List TimedSample → Option ℕ
next_time [] = None
next_time (c ∷ later) = Some c.time

other_stops : (first scale : ℕ) (later : List TimedSample) (s : TimedSample) → stops (Before (next_time later) first scale) s ≡ first_passes (λ (c : TimedSample). nat_le (c.time * scale) (s.time * first)) later
other_stops first scale [] s = refl
other_stops first scale (c ∷ later) s = refl

-- ---- fragments that have begun

least_number : (later : List TimedSample) (s : TimedSample) → Sorted (λ c. c.number) later → FirstIsLeast (λ (c : TimedSample). nat_le c.number s.number) later
least_number [] s h = tt
least_number (x ∷ xs) s h = λ e. least_first (λ (c : TimedSample). c.number) s.number x xs h.0 e

least_time : (first scale : ℕ) (later : List TimedSample) (s : TimedSample) → Sorted (λ c. c.time) later → FirstIsLeast (λ (c : TimedSample). nat_le (c.time * scale) (s.time * first)) later
least_time first scale [] s h = tt
least_time first scale (x ∷ xs) s h =
    λ e. least_first (λ (c : TimedSample). c.time * scale) (s.time * first) x xs (all_weaker (λ (y : TimedSample). x.time ≤ y.time) (λ (y : TimedSample). x.time * scale ≤ y.time * scale) (λ y le. mul-le-mul_right scale le) xs h.0) e

module _ (all done later : List TimedSample) (k : ℕ) (is : all ≡ done ++ later) (long : length done ≡ k + 1) where
  -- a sample of the first track lies behind the fragment exactly if the next cut has begun
  first_beyond : Sorted (λ c. c.number) later → (s : TimedSample) → nat_lt k (fragment_by_number all s) ≡ begun later s
  first_beyond h s = ap (λ l. nat_lt k (fragment_by_number l s)) is ∙ place_behind (λ (c : TimedSample). nat_le c.number s.number) done later k long (least_number later s h)

  -- the same of another track
  other_beyond : (first scale : ℕ) → Sorted (λ c. c.time) later → (s : TimedSample) → nat_lt k (fragment_by_time all first scale s) ≡ stops (Before (next_time later) first scale) s
  other_beyond first scale h s =
      ap (λ l. nat_lt k (fragment_by_time l first scale s)) is
      ∙ place_behind (λ (c : TimedSample). nat_le (c.time * scale) (s.time * first)) done later k long (least_time first scale later s h)
      ∙ sym (other_stops first scale later s)

-- ---- a fragment

abbrev pieces_of : ℕ → List TimedSample → List Piece
pieces_of id samples = map (λ ss. record { id = id; samples = ss }) (by_description samples)

-- where a piece's end agrees with that of the fragment
module _ (f : TimedSample → ℕ) (k : ℕ) (end : End) (xs : List TimedSample) (falls : NeverFalls f k xs) (agree : Agree (stops end) (λ x. nat_lt k (f x)) xs) where
  -- the samples of the fragment are those before the end
  here_is : numbered f xs k ≡ front (stops end) xs
  here_is = numbered_front f k xs falls ∙ sym (front_same (stops end) (λ x. nat_lt k (f x)) xs agree)

  -- later ones lie behind it
  later_is : (j : ℕ) → k < j → numbered f xs j ≡ numbered f (rest (stops end) xs) j
  later_is j lt = numbered_rest f k xs j lt ∙ ap (λ l. numbered f l j) (sym (rest_same (stops end) (λ x. nat_lt k (f x)) xs agree))

  falls_on : NeverFalls f (k + 1) (rest (stops end) xs)
  falls_on = subst (λ l. NeverFalls f (k + 1) l) (sym (rest_same (stops end) (λ x. nat_lt k (f x)) xs agree)) (rest_above f k xs falls)

-- ---- all fragments

-- the pieces of a fragment, of what is to come
abbrev of_others : List TimedSample → ℕ → ℕ → Coming → List Piece
of_others all first k t = pieces_of t.id (numbered (fragment_by_time all first t.timescale) t.samples k)

abbrev in_fragment : List TimedSample → Coming → List Coming → ℕ → List Piece
in_fragment all first others k = pieces_of first.id (numbered (fragment_by_number all) first.samples k) ++ flat_map (of_others all first.timescale k) others

abbrev OthersFall : List TimedSample → ℕ → ℕ → List Coming → Type 0
OthersFall all first k others = AllByRecursion (λ (t : Coming). NeverFalls (fragment_by_time all first t.timescale) k t.samples) others

module _ (all done later : List TimedSample) (k : ℕ) (is : all ≡ done ++ later) (long : length done ≡ k + 1) (first : ℕ) (sorted : Sorted (λ c. c.time) later) where
  other_agrees : (t : Coming) → Agree (stops (end_of_other (next_time later) first t)) (λ x. nat_lt k (fragment_by_time all first t.timescale x)) t.samples
  other_agrees t =
      agree_all (stops (end_of_other (next_time later) first t)) (λ x. nat_lt k (fragment_by_time all first t.timescale x))
      (λ x. sym (other_beyond all done later k is long first t.timescale sorted x)) t.samples

  others_here : (others : List Coming) → OthersFall all first k others → flat_map (of_others all first k) others ≡ others_before (next_time later) first others
  others_here [] h = refl
  others_here (t ∷ others) h =
      ap₂ (λ a b. pieces_of t.id a ++ b) (here_is (fragment_by_time all first t.timescale) k (end_of_other (next_time later) first t) t.samples h.0 (other_agrees t)) (others_here others h.1)

  others_later : (others : List Coming) → OthersFall all first k others → (j : ℕ) → k < j → flat_map (of_others all first j) others ≡ flat_map (of_others all first j) (others_behind (next_time later) first others)
  others_later [] h j lt = refl
  others_later (t ∷ others) h j lt =
      ap₂ (λ a b. pieces_of t.id a ++ b) (later_is (fragment_by_time all first t.timescale) k (end_of_other (next_time later) first t) t.samples h.0 (other_agrees t) j lt) (others_later others h.1 j lt)

  others_fall : (others : List Coming) → OthersFall all first k others → OthersFall all first (k + 1) (others_behind (next_time later) first others)
  others_fall [] h = tt
  others_fall (t ∷ others) h =
      (falls_on (fragment_by_time all first t.timescale) k (end_of_other (next_time later) first t) t.samples h.0 (other_agrees t), others_fall others h.1)

flat_map_from : (f g : ℕ → List Piece) (k j n : ℕ) → k < j → ((i : ℕ) → k < i → f i ≡ g i) → flat_map f (range_with_len j n) ≡ flat_map g (range_with_len j n)
flat_map_from f g k j zero lt same = refl
flat_map_from f g k j (suc n) lt same = ap₂ (λ a b. a ++ b) (same j lt) (flat_map_from f g k (j + 1) n (omega (arith, lt)) same)

-- what is to come of the first track
abbrev first_of : ℕ → ℕ → List TimedSample → Coming
first_of id scale xs = record { id = id; timescale = scale; samples = xs }

-- The pieces of all fragments from one on are those that are left.
fragments_are_left : (all : List TimedSample) (id scale : ℕ) → 0 < scale → (later done : List TimedSample) (k from : ℕ) (xs : List TimedSample) (others : List Coming)
    → all ≡ done ++ later → length done ≡ k + 1 → later ≡ cuts_after scale from xs → Rising xs → Sorted (λ c. c.number) later → Sorted (λ c. c.time) later
    → NeverFalls (fragment_by_number all) k xs → OthersFall all scale k others
    → flat_map (in_fragment all (first_of id scale xs) others) (range_with_len k (suc (length later))) ≡ fragments_left from later (first_of id scale xs) others
fragments_are_left all id scale some [] done k from xs others is long cut rising by_number by_time falls others_falls =
    let agree = agree_then (stops (Sync from scale)) (begun []) (λ x. nat_lt k (fragment_by_number all x)) xs (first_agrees scale from [] xs cut rising) (first_beyond all done [] k is long by_number) in
    append-nil (in_fragment all (first_of id scale xs) others k)
    ∙ ap₂ (λ a b. pieces_of id a ++ b) (here_is (fragment_by_number all) k (Sync from scale) xs falls agree) (others_here all done [] k is long scale by_time others others_falls)
fragments_are_left all id scale some (c ∷ later) done k from xs others is long cut rising by_number by_time falls others_falls =
    let agree = agree_then (stops (Sync from scale)) (begun (c ∷ later)) (λ x. nat_lt k (fragment_by_number all x)) xs (first_agrees scale from (c ∷ later) xs cut rising) (first_beyond all done (c ∷ later) k is long by_number) in
    let next = rest (stops (Sync from scale)) xs in
    let next_others = others_behind (Some c.time) scale others in
    let here = ap₂ (λ a b. pieces_of id a ++ b) (here_is (fragment_by_number all) k (Sync from scale) xs falls agree) (others_here all done (c ∷ later) k is long scale by_time others others_falls) in
    let same = flat_map_from (in_fragment all (first_of id scale xs) others) (in_fragment all (first_of id scale next) next_others) k (k + 1) (suc (length later)) (omega arith)
    (λ j lt. ap₂ (λ a b. pieces_of id a ++ b) (later_is (fragment_by_number all) k (Sync from scale) xs falls agree j lt) (others_later all done (c ∷ later) k is long scale by_time others others_falls j lt)) in
    let behind = fragments_are_left all id scale some later (done ++ c ∷ []) (k + 1) c.time next next_others
    (is ∙ sym (append_assoc done (c ∷ []) later)) (let l = length-append done (c ∷ []) in omega (arith, l, long)) (cuts_rest scale from c later xs some cut) (rising_rest (stops (Sync from scale)) xs rising) by_number.1 by_time.1
    (falls_on (fragment_by_number all) k (Sync from scale) xs falls agree) (others_fall all done (c ∷ later) k is long scale by_time others others_falls) in
    ap₂ (λ a b. a ++ b) here (same ∙ behind)

-- ---- from the first on

others_coming : (all : List TimedSample) (first k : ℕ) (others : List Track) → flat_map (λ (t : Track). track_pieces (fragment_by_time all first t.head.media.timescale) t k) others ≡ flat_map (of_others all first k) (map coming_of others)
others_coming all first k [] = refl
others_coming all first k (t ∷ others) = ap (λ l. track_pieces (fragment_by_time all first t.head.media.timescale) t k ++ l) (others_coming all first k others)

coming_falls : (all : List TimedSample) (first : ℕ) (others : List Track) → OthersFall all first 0 (map coming_of others)
coming_falls all first [] = tt
coming_falls all first (t ∷ others) = (other_never_falls all first t.head.media.timescale 1 t.start t.samples, coming_falls all first others)

in_each : (all : List TimedSample) (first : Track) (others : List Track) (ks : List ℕ) → flat_map (fragment_pieces (first ∷ others) all) ks ≡ flat_map (in_fragment all (coming_of first) (map coming_of others)) ks
in_each all first others [] = refl
in_each all first others (k ∷ ks) =
    ap₂ (λ a b. track_pieces (fragment_by_number all) first k ++ a ++ b) (others_coming all first.head.media.timescale k others) (in_each all first others ks)

-- without a cut there is one fragment
all_zero : (xs : List TimedSample) → filter (λ s. 0 == 0) xs ≡ xs
all_zero [] = refl
all_zero (x ∷ xs) = ap (λ l. x ∷ l) (all_zero xs)

never : (first scale : ℕ) (xs : List TimedSample) → front (stops (Before None first scale)) xs ≡ xs
never first scale [] = refl
never first scale (x ∷ xs) = ap (λ l. x ∷ l) (never first scale xs)

no_cuts : (first : ℕ) (others : List Coming) → flat_map (of_others [] first 0) others ≡ others_before None first others
no_cuts first [] = refl
no_cuts first (t ∷ others) = ap₂ (λ a b. pieces_of t.id a ++ b) (all_zero t.samples ∙ sym (never first t.timescale t.samples)) (no_cuts first others)

begin_with_all : (first : Track) (others : List Track) (samples : List Sample) → first.samples ≡ samples → 0 < first.head.media.timescale
    → flat_map (fragment_pieces (first ∷ others) (cuts_in first.head.media.timescale (timed_from 1 first.start samples))) (range_with_len 0 (max 1 (length (cuts_in first.head.media.timescale (timed_from 1 first.start samples)))))
    ≡ all_left first.start (coming_of first) (map coming_of others)
begin_with_all first others [] e some =
    in_each [] first others (0 ∷ [])
    ∙ append-nil (in_fragment [] (coming_of first) (map coming_of others) 0)
    ∙ ap₂ (λ a b. a ++ b) (ap (λ (ss : List Sample). pieces_of first.head.id (numbered (fragment_by_number []) (timed_from 1 first.start ss) 0)) e) (no_cuts first.head.media.timescale (map coming_of others))
    ∙ sym (ap (λ (ss : List Sample). all_left first.start (first_of first.head.id first.head.media.timescale (timed_from 1 first.start ss)) (map coming_of others)) e)
begin_with_all first others (s ∷ samples) e some =
    let scale = first.head.media.timescale in
    let x : TimedSample = record { sample = s; number = 1; time = first.start } in
    let xs = timed_from 2 (first.start + s.duration) samples in
    let all = cuts_in scale (x ∷ xs) in
    let later = cuts_after scale first.start xs in
    let t = not_itself scale x some in
    let same_cuts : later ≡ cuts_after scale first.start (x ∷ xs) = sym (ap (λ v. cond v (x ∷ cuts_after scale x.time xs) (cuts_after scale first.start xs)) t) in
    let many : max 1 (length all) ≡ suc (length later) = omega arith in
    let left = fragments_are_left all first.head.id scale some later (x ∷ []) 0 first.start (x ∷ xs) (map coming_of others) refl (omega arith) same_cuts
    (rising_timed 1 first.start (s ∷ samples)) (sorted_cuts (λ c. c.number) scale first.start xs (rising_sorted xs (rising_timed 2 (first.start + s.duration) samples)))
    (sorted_cuts (λ c. c.time) scale first.start xs (sorted_timed 2 (first.start + s.duration) samples)) (first_never_falls all 1 first.start (s ∷ samples)) (coming_falls all scale others) in
    in_each all first others (range_with_len 0 (max 1 (length all)))
    ∙ ap (λ (ss : List Sample). flat_map (in_fragment all (first_of first.head.id scale (timed_from 1 first.start ss)) (map coming_of others)) (range_with_len 0 (max 1 (length all)))) e
    ∙ ap (λ n. flat_map (in_fragment all (first_of first.head.id scale (x ∷ xs)) (map coming_of others)) (range_with_len 0 n)) many
    ∙ left
    ∙ ap (λ l. fragments_left first.start l (first_of first.head.id scale (x ∷ xs)) (map coming_of others)) same_cuts
    ∙ sym (ap (λ (ss : List Sample). all_left first.start (first_of first.head.id scale (timed_from 1 first.start ss)) (map coming_of others)) e)

of_tracks : (movie : MovieHead) (tracks : List Track) → BeginsWithAll tracks (record { movie = movie; tracks = tracks })
of_tracks movie [] = refl
of_tracks movie (first ∷ others) = λ some. begin_with_all first others first.samples refl some

-- From the first turn on, the pieces that are left are all pieces.
pub turns_begin_with_all : TurnsBeginWithAll
turns_begin_with_all p = of_tracks p.movie p.tracks
