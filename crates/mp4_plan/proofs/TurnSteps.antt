-- Each turn takes the first of the pieces that are left.
use Rattle.std.proofs.Common.{◌≡◌, ℕ, suc, ◌+◌, ◌<◌, ◌≤◌, ◌==◌, nat_le, ◌&&◌, not, Bool, true, false, cond, List, [], ◌∷◌, ◌++◌, length, take, drop, Option, Some, None, refl, sym, ap, ap₂, subst, ◌∙◌, append_assoc, length-append, arith, true≢false, rules}
use Rattle.std.specs.Prelude.{map}
use Rattle.std.specs.List.{AllByRecursion, prefix_len}
use Rattle.std.proofs.lemmas.Bool.{eq-eqb, ne_eqb, and_parts, eqb-true}
use Rattle.std.proofs.lemmas.List.{map-append, drop_all}
use Rattle.mp4_content.specs.format.TimedSamples.{TimedSample}
use Rattle.mp4_plan.specs.format.Pieces.{is_sync, cuts_after, Piece, put_before, by_description}
use Rattle.mp4_plan.specs.format.Normal.{first_description}
use Rattle.mp4_plan.specs.words.PiecesComing.{Coming, stops, front, rest, pieces_before, left_behind, end_of_first, end_of_other, others_before, others_behind, fragments_left, all_left, next_left, pieces_left}
use Rattle.mp4_plan.specs.words.Turns.{track_passed, wrapped}
use Rattle.mp4_plan.specs.words.TurnLaws.{goes, turn_count, piece_if, taken_by, after_turn, IsOver, next_time, HavePassed, IsAmong, FirstTakes, OtherTakes, FirstPasses, OtherPasses, NoneLeft, TurnsTakeAll}
use Rattle.mp4_plan.specs.declared.ends.End.{End}
use Rattle.mp4_plan.specs.declared.ends.End.TheVariants.{Sync}
use Rattle.mp4_plan.specs.declared.schedule.Schedule.{Schedule}
use Rattle.mp4_plan.proofs.FragmentsLeft.{not_itself}
use Rattle.mp4_boxes.proofs.Among.{all_append}

-- ---- a run of one description

one_more : (n : ℕ) → 1 + n ≡ suc n
one_more n = omega arith

put_other : (x y : TimedSample) (runs : List (List TimedSample)) → (x.sample.description == y.sample.description) ≡ false → put_before x (put_before y runs) ≡ (x ∷ []) ∷ put_before y runs
put_other x y [] e = rw e refl
put_other x y ([] ∷ more) e = rw e refl
put_other x y ((t ∷ ts) ∷ more) e = by (y.sample.description == t.sample.description)
  where
    by : (v : Bool) → put_before x (cond v ((y ∷ t ∷ ts) ∷ more) ((y ∷ []) ∷ (t ∷ ts) ∷ more)) ≡ (x ∷ []) ∷ cond v ((y ∷ t ∷ ts) ∷ more) ((y ∷ []) ∷ (t ∷ ts) ∷ more)
    by true = rw e refl
    by false = rw e refl

put_same : (x y : TimedSample) (ys : List TimedSample) (runs : List (List TimedSample)) → (x.sample.description == y.sample.description) ≡ true → put_before x ((y ∷ ys) ∷ runs) ≡ (x ∷ y ∷ ys) ∷ runs
put_same x y ys runs e = rw e refl

module _ (st : TimedSample → Bool) (d : ℕ) where
  -- a sample in front of a run of its description
  run_front : (x : TimedSample) (xs : List TimedSample) → x.sample.description ≡ d
      → put_before x (by_description (front st xs)) ≡ (x ∷ take (prefix_len (λ s. not (st s) && s.sample.description == d) xs) xs) ∷ by_description (front st (drop (prefix_len (λ s. not (st s) && s.sample.description == d) xs) xs))
  run_front x [] e = refl
  run_front x (y ∷ ys) e = by (st y) (y.sample.description == d) refl refl (λ f. run_front y ys f)
    where
      n : ℕ
      n = prefix_len (λ s. not (st s) && s.sample.description == d) ys

      by : (v w : Bool) → st y ≡ v → (y.sample.description == d) ≡ w
          → (y.sample.description ≡ d → put_before y (by_description (front st ys)) ≡ (y ∷ take n ys) ∷ by_description (front st (drop n ys)))
          → put_before x (by_description (cond v [] (y ∷ front st ys))) ≡ (x ∷ take (cond (not v && w) (1 + n) 0) (y ∷ ys)) ∷ by_description (front st (drop (cond (not v && w) (1 + n) 0) (y ∷ ys)))
      by true w p q r = ap (λ v. (x ∷ []) ∷ by_description (cond v [] (y ∷ front st ys))) (sym p)
      by false false p q r =
          let other : (x.sample.description == y.sample.description) ≡ false = ap (λ k. k == y.sample.description) e ∙ turned d y.sample.description q in
          put_other x y (by_description (front st ys)) other ∙ ap (λ v. (x ∷ []) ∷ by_description (cond v [] (y ∷ front st ys))) (sym p)
        where
          turned : (a b : ℕ) → (b == a) ≡ false → (a == b) ≡ false
          turned a b h = search rules
      by false true p q r =
          let same : y.sample.description ≡ d = eqb-true y.sample.description d q in
          let equal : (x.sample.description == y.sample.description) ≡ true = eq-eqb x.sample.description y.sample.description (e ∙ sym same) in
          ap (put_before x) (r same) ∙ put_same x y (take n ys) (by_description (front st (drop n ys))) equal
          ∙ ap (λ k. (x ∷ take k (y ∷ ys)) ∷ by_description (front st (drop k (y ∷ ys)))) (sym (one_more n))

abbrev run_if : List TimedSample → List (List TimedSample)
run_if [] = []
run_if (s ∷ samples) = (s ∷ samples) ∷ []

-- the first run of those before an end, and the others
runs_front : (end : End) (xs : List TimedSample) → by_description (front (stops end) xs) ≡ run_if (take (turn_count end xs) xs) ++ by_description (front (stops end) (drop (turn_count end xs) xs))
runs_front end [] = refl
runs_front end (x ∷ xs) = by (stops end x) refl (run_front (stops end) x.sample.description x xs refl)
  where
    n : ℕ
    n = prefix_len (λ s. not (stops end s) && s.sample.description == x.sample.description) xs

    same : (x.sample.description == x.sample.description) ≡ true
    same = eq-eqb x.sample.description x.sample.description refl

    by : (v : Bool) → stops end x ≡ v
        → put_before x (by_description (front (stops end) xs)) ≡ (x ∷ take n xs) ∷ by_description (front (stops end) (drop n xs))
        → by_description (cond v [] (x ∷ front (stops end) xs))
        ≡ run_if (take (cond (not v && (x.sample.description == x.sample.description)) (1 + n) 0) (x ∷ xs)) ++ by_description (front (stops end) (drop (cond (not v && (x.sample.description == x.sample.description)) (1 + n) 0) (x ∷ xs)))
    by true e r = ap (λ v. by_description (cond v [] (x ∷ front (stops end) xs))) (sym e)
    by false e r = rw same (r ∙ ap (λ k. run_if (take k (x ∷ xs)) ++ by_description (front (stops end) (drop k (x ∷ xs)))) (sym (one_more n)))

-- ---- what a turn leaves

goes_not : (end : End) (d : ℕ) (s : TimedSample) → goes end d s ≡ true → stops end s ≡ false
goes_not end d s e = by (stops end s) (and_parts (not (stops end s)) (s.sample.description == d) e).0
  where
    by : (v : Bool) → not v ≡ true → v ≡ false
    by true h = sym h
    by false h = refl

drop_one : {A : Type 0} (n : ℕ) (x : A) (xs : List A) → drop (1 + n) (x ∷ xs) ≡ drop n xs
drop_one n x xs = ap (λ k. drop k (x ∷ xs)) (one_more n)

-- from the end on there is the same
rest_dropped : (end : End) (d : ℕ) (xs : List TimedSample) → rest (stops end) xs ≡ rest (stops end) (drop (prefix_len (goes end d) xs) xs)
rest_dropped end d [] = refl
rest_dropped end d (x ∷ xs) = by (goes end d x) refl (rest_dropped end d xs)
  where
    by : (v : Bool) → goes end d x ≡ v → rest (stops end) xs ≡ rest (stops end) (drop (prefix_len (goes end d) xs) xs)
        → rest (stops end) (x ∷ xs) ≡ rest (stops end) (drop (cond v (1 + prefix_len (goes end d) xs) 0) (x ∷ xs))
    by true e r =
        let t : stops end x ≡ false = goes_not end d x e in
        ap (λ v. cond v (x ∷ xs) (rest (stops end) xs)) t ∙ r ∙ sym (ap (rest (stops end)) (drop_one (prefix_len (goes end d) xs) x xs))
    by false e r = refl

-- and the same cuts
cuts_dropped : (scale from d : ℕ) (xs : List TimedSample) → cuts_after scale from xs ≡ cuts_after scale from (drop (prefix_len (goes (Sync from scale) d) xs) xs)
cuts_dropped scale from d [] = refl
cuts_dropped scale from d (x ∷ xs) = by (goes (Sync from scale) d x) refl (cuts_dropped scale from d xs)
  where
    by : (v : Bool) → goes (Sync from scale) d x ≡ v → cuts_after scale from xs ≡ cuts_after scale from (drop (prefix_len (goes (Sync from scale) d) xs) xs)
        → cuts_after scale from (x ∷ xs) ≡ cuts_after scale from (drop (cond v (1 + prefix_len (goes (Sync from scale) d) xs) 0) (x ∷ xs))
    by true e r =
        let t : (is_sync x.sample && nat_le (from + scale) x.time) ≡ false = goes_not (Sync from scale) d x e in
        ap (λ v. cond v (x ∷ cuts_after scale x.time xs) (cuts_after scale from xs)) t ∙ r ∙ sym (ap (cuts_after scale from) (drop_one (prefix_len (goes (Sync from scale) d) xs) x xs))
    by false e r = refl

piece_of_run : (id : ℕ) (xs : List TimedSample) → map (λ samples. let r : Piece = record { id = id; samples = samples } in r) (run_if xs) ≡ piece_if id xs
piece_of_run id [] = refl
piece_of_run id (x ∷ xs) = refl

-- the pieces of a track up to an end: that of the turn, and those behind it
turn_pieces : (end : End) (t : Coming) → pieces_before end t ≡ taken_by end t ++ pieces_before end (after_turn end t)
turn_pieces end t =
    let n = turn_count end t.samples in
    let f = λ (samples : List TimedSample). let r : Piece = record { id = t.id; samples = samples } in r in
    ap (map f) (runs_front end t.samples)
    ∙ map-append f (run_if (take n t.samples)) (by_description (front (stops end) (drop n t.samples)))
    ∙ ap (λ l. l ++ map f (by_description (front (stops end) (drop n t.samples)))) (piece_of_run t.id (take n t.samples))

turn_behind : (end : End) (t : Coming) → left_behind end t ≡ left_behind end (after_turn end t)
turn_behind end t = ap (λ xs. let r : Coming = record { id = t.id; timescale = t.timescale; samples = xs } in r) (rest_dropped end (first_description t.samples) t.samples)

-- where the piece has ended there are none, and nothing lies before the end
over_none : (end : End) (t : Coming) → IsOver end t.samples → pieces_before end t ≡ []
over_none end t h = ap (λ xs. map (λ samples. let r : Piece = record { id = t.id; samples = samples } in r) (by_description xs)) (no_front t.samples h)
  where
    no_front : (xs : List TimedSample) → IsOver end xs → front (stops end) xs ≡ []
    no_front [] h = refl
    no_front (x ∷ xs) h = rw h refl

over_rest : (end : End) (xs : List TimedSample) → IsOver end xs → rest (stops end) xs ≡ xs
over_rest end [] h = refl
over_rest end (x ∷ xs) h = rw h refl

-- ---- by the track whose turn it is

pub at_first : (s : Schedule) (first : Coming) (others : List Coming) → s.track ≡ 0 → pieces_left s first others ≡ all_left s.from first others
at_first s first others e = rw e refl

at_other : (s : Schedule) (first : Coming) (others : List Coming) (i : ℕ) → s.track ≡ suc i → pieces_left s first others ≡ others_before s.next first.timescale (drop i others) ++ next_left s.next first others
at_other s first others i e = rw e refl

first_turn : (from : ℕ) (later : List TimedSample) (first : Coming) (others : List Coming)
    → fragments_left from later first others ≡ taken_by (end_of_first from first) first ++ fragments_left from later (after_turn (end_of_first from first) first) others
first_turn from [] first others =
    ap (λ l. l ++ others_before None first.timescale others) (turn_pieces (end_of_first from first) first)
    ∙ append_assoc (taken_by (end_of_first from first) first) (pieces_before (end_of_first from first) (after_turn (end_of_first from first) first)) (others_before None first.timescale others)
first_turn from (c ∷ later) first others =
    let end = end_of_first from first in
    let next = others_before (Some c.time) first.timescale others in
    let behind = λ (t : Coming). fragments_left c.time later t (others_behind (Some c.time) first.timescale others) in
    ap₂ (λ a b. a ++ next ++ behind b) (turn_pieces end first) (turn_behind end first)
    ∙ joined (taken_by end first) (pieces_before end (after_turn end first)) next (behind (left_behind end (after_turn end first)))
  where
    joined : (a b c d : List Piece) → (a ++ b) ++ c ++ d ≡ a ++ (b ++ c ++ d)
    joined a b c d = simp append_assoc refl

pub first_takes : FirstTakes
first_takes s first others e h =
    let end = end_of_first s.from first in
    let left = first_turn s.from (cuts_after first.timescale s.from first.samples) first others in
    let cuts = cuts_dropped first.timescale s.from (first_description first.samples) first.samples in (
      at_first s first others e ∙ left
          ∙ ap (λ l. taken_by end first ++ fragments_left s.from l (after_turn end first) others) cuts
          ∙ ap (λ l. taken_by end first ++ l) (sym (at_first s (after_turn end first) others e)),
      record { tracks = h.tracks; track = h.track; timescale = h.timescale; passed = h.passed; over = h.over },
    )

-- ---- another track

before_is : (before after : List Coming) → take (length before) (before ++ after) ≡ before
before_is [] after = refl
before_is (t ∷ before) after = ap (λ l. t ∷ l) (before_is before after)

behind_is : (before after : List Coming) → drop (length before) (before ++ after) ≡ after
behind_is [] after = refl
behind_is (t ∷ before) after = behind_is before after

others_behind_same : (next : Option ℕ) (scale : ℕ) (before after : List Coming) (t u : Coming) → left_behind (end_of_other next scale t) t ≡ left_behind (end_of_other next scale u) u
    → others_behind next scale (before ++ t ∷ after) ≡ others_behind next scale (before ++ u ∷ after)
others_behind_same next scale [] after t u e = ap (λ x. x ∷ others_behind next scale after) e
others_behind_same next scale (x ∷ before) after t u e = ap (λ l. left_behind (end_of_other next scale x) x ∷ l) (others_behind_same next scale before after t u e)

next_same : (next : Option ℕ) (first : Coming) (before after : List Coming) (t : Coming)
    → next_left next first (before ++ t ∷ after) ≡ next_left next first (before ++ after_turn (end_of_other next first.timescale t) t ∷ after)
next_same None first before after t = refl
next_same (Some cut) first before after t =
    let end = end_of_other (Some cut) first.timescale t in
    ap (all_left cut first) (others_behind_same (Some cut) first.timescale before after t (after_turn end t) (turn_behind end t))

abbrev Passed : Option ℕ → ℕ → Coming → Type 0
Passed next scale t = rest (stops (end_of_other next scale t)) t.samples ≡ t.samples

passed_before : (next : Option ℕ) (scale track : ℕ) (before after : List Coming) → track ≡ suc (length before) → HavePassed next scale track (before ++ after) → AllByRecursion (Passed next scale) before
passed_before next scale track before after e h = subst (λ l. AllByRecursion (Passed next scale) l) (before_is before after) (subst (λ n. HavePassed next scale n (before ++ after)) e h)

have_passed : (next : Option ℕ) (scale track : ℕ) (before after : List Coming) → track ≡ suc (length before) → AllByRecursion (Passed next scale) before → HavePassed next scale track (before ++ after)
have_passed next scale track before after e h = subst (λ n. HavePassed next scale n (before ++ after)) (sym e) (subst (λ l. AllByRecursion (Passed next scale) l) (sym (before_is before after)) h)

as_many : (before after : List Coming) (t u : Coming) → length (before ++ t ∷ after) ≡ length (before ++ u ∷ after)
as_many [] after t u = refl
as_many (x ∷ before) after t u = ap suc (as_many before after t u)

pub other_takes : OtherTakes
other_takes s first before after t e h =
    let scale = first.timescale in
    let end = end_of_other s.next scale t in
    let u = after_turn end t in
    let later = others_before s.next scale after in (
      at_other s first (before ++ t ∷ after) (length before) e
          ∙ (λ i. others_before s.next scale (behind_is before (t ∷ after) i) ++ next_same s.next first before after t i)
          ∙ ap (λ l. l ++ later ++ next_left s.next first (before ++ u ∷ after)) (turn_pieces end t)
          ∙ joined (taken_by end t) (pieces_before end u) later (next_left s.next first (before ++ u ∷ after))
          ∙ ap (λ l. taken_by end t ++ (others_before s.next scale l ++ next_left s.next first (before ++ u ∷ after))) (sym (behind_is before (u ∷ after)))
          ∙ ap (λ l. taken_by end t ++ l) (sym (at_other s first (before ++ u ∷ after) (length before) e)),
      record {
        tracks = h.tracks ∙ ap suc (as_many before after t u);
        track = h.track;
        timescale = h.timescale;
        passed = have_passed s.next scale s.track before (u ∷ after) e (passed_before s.next scale s.track before (t ∷ after) e h.passed);
        over = h.over;
      },
    )
  where
    joined : (a b c d : List Piece) → (a ++ b) ++ c ++ d ≡ a ++ (b ++ c ++ d)
    joined a b c d = simp append_assoc refl

-- ---- the next fragment

behind_same : (cut scale : ℕ) (others : List Coming) → AllByRecursion (Passed (Some cut) scale) others → others_behind (Some cut) scale others ≡ others
behind_same cut scale [] h = refl
behind_same cut scale (t ∷ others) h =
    let e = h.0 in
    let r = behind_same cut scale others h.1 in
    λ i. (let x : Coming = record { id = t.id; timescale = t.timescale; samples = e i } in x) ∷ r i

-- a place before it is known whether another fragment follows
record IsHalfway (s : Schedule) (first : Coming) (others : List Coming) : Type 0 where
  tracks : s.tracks ≡ suc (length others)
  track : s.track ≤ s.tracks
  some : 0 < s.track
  timescale : 0 < first.timescale
  passed : HavePassed s.next first.timescale s.track others

all_of : (others : List Coming) → take (length others) others ≡ others
all_of [] = refl
all_of (t ∷ others) = ap (λ l. t ∷ l) (all_of others)

wraps : (s : Schedule) (first : Coming) (others : List Coming) (time : Option ℕ) → s.next ≡ time → IsHalfway s first others → (pieces_left s first others ≡ pieces_left (wrapped s time) first others) × IsAmong (wrapped s time) first others
wraps s first others None e h = (refl, record { tracks = h.tracks; track = h.track; timescale = h.timescale; passed = h.passed; over = λ f. e })
wraps s first others (Some cut) e h = by (s.track == s.tracks) refl
  where
    back : Schedule
    back = record s { from = cut; next = None; track = 0 }

    by : (v : Bool) → (s.track == s.tracks) ≡ v → (pieces_left s first others ≡ pieces_left (cond v (record s { from = cut; next = None; track = 0 }) s) first others) × IsAmong (cond v (record s { from = cut; next = None; track = 0 }) s) first others
    by true t =
        let last : s.track ≡ suc (length others) = eqb-true s.track s.tracks t ∙ h.tracks in
        let passed : HavePassed (Some cut) first.timescale (suc (length others)) others = subst (λ n. HavePassed (Some cut) first.timescale n others) last (subst (λ n. HavePassed n first.timescale s.track others) e h.passed) in
        let all : AllByRecursion (Passed (Some cut) first.timescale) others = subst (λ l. AllByRecursion (Passed (Some cut) first.timescale) l) (all_of others) passed in
        let none = drop_all (length others) others (omega arith) in (
          at_other s first others (length others) last
              ∙ (λ i. others_before s.next first.timescale (none i) ++ next_left (e i) first others)
              ∙ ap (all_left cut first) (behind_same cut first.timescale others all),
          record { tracks = h.tracks; track = omega arith; timescale = h.timescale; passed = tt; over = λ f. (let g = h.tracks in absurd (omega (arith, f, g))) },
        )
    by false t = (refl, record { tracks = h.tracks; track = h.track; timescale = h.timescale; passed = h.passed; over = λ f. absurd (true≢false (sym (eq-eqb s.track s.tracks f) ∙ t)) })

-- ---- a track passes

abbrev behind_first : Schedule → Option ℕ → Schedule
behind_first s time = record s { next = time; track = 1 }

abbrev behind_other : Schedule → Schedule
behind_other s = record s { track = s.track + 1 }

passed_first : (s : Schedule) (time : Option ℕ) → s.track ≡ 0 → track_passed s time ≡ wrapped (behind_first s time) time
passed_first s time e = ap (λ v. cond v (wrapped (record s { next = time; track = 1 }) time) (wrapped (record s { track = s.track + 1 }) s.next)) (eq-eqb s.track 0 e)

passed_other : (s : Schedule) (time : Option ℕ) (i : ℕ) → s.track ≡ suc i → track_passed s time ≡ wrapped (behind_other s) s.next
passed_other s time i e = ap (λ v. cond v (wrapped (record s { next = time; track = 1 }) time) (wrapped (record s { track = s.track + 1 }) s.next)) (not_zero s.track i e)
  where
    not_zero : (n i : ℕ) → n ≡ suc i → (n == 0) ≡ false
    not_zero n i e = ne_eqb n 0 (λ z. omega (arith, e, z))

-- what is left when the first track has passed
first_left : (s : Schedule) (id scale : ℕ) (xs : List TimedSample) (others : List Coming) → 0 < scale → IsOver (Sync s.from scale) xs
    → (let first : Coming = record { id = id; timescale = scale; samples = xs } in
    all_left s.from first others ≡ pieces_left (behind_first s (next_time xs)) first others)
first_left s id scale [] others some h = sym (append-nil-pieces (others_before None scale others))
  where
    append-nil-pieces : (xs : List Piece) → xs ++ [] ≡ xs
    append-nil-pieces [] = refl
    append-nil-pieces (x ∷ xs) = ap (λ l. x ∷ l) (append-nil-pieces xs)
first_left s id scale (x ∷ xs) others some h =
    let first : Coming = record { id = id; timescale = scale; samples = x ∷ xs } in
    let end = Sync s.from scale in
    let later = cuts_after scale x.time xs in
    let cuts : cuts_after scale s.from (x ∷ xs) ≡ x ∷ later = ap (λ v. cond v (x ∷ later) (cuts_after scale s.from xs)) h in
    let again : cuts_after scale x.time (x ∷ xs) ≡ later = ap (λ v. cond v (x ∷ later) later) (not_itself scale x some) in
    let none = over_none end first h in
    let stays : left_behind end first ≡ first = ap (λ ys. let r : Coming = record { id = id; timescale = scale; samples = ys } in r) (over_rest end (x ∷ xs) h) in
    ap (λ l. fragments_left s.from l first others) cuts
    ∙ (λ i. none i ++ others_before (Some x.time) scale others ++ fragments_left x.time (sym again i) (stays i) (others_behind (Some x.time) scale others))

pub first_passes : FirstPasses
first_passes s first others e h over =
    let time = next_time first.samples in
    let left = at_first s first others e ∙ first_left s first.id first.timescale first.samples others h.timescale over in
    let tracks = h.tracks in
    let halfway : IsHalfway (behind_first s time) first others = record { tracks = tracks; track = omega (arith, tracks); some = omega arith; timescale = h.timescale; passed = tt } in
    let w = wraps (behind_first s time) first others time refl halfway in
    let is = passed_first s time e in
    (left ∙ w.0 ∙ ap (λ p. pieces_left p first others) (sym is), subst (λ p. IsAmong p first others) (sym is) w.1)

one_behind : (before after : List Coming) (t : Coming) → take (suc (length before)) (before ++ t ∷ after) ≡ before ++ t ∷ []
one_behind [] after t = refl
one_behind (x ∷ before) after t = ap (λ l. x ∷ l) (one_behind before after t)

rest_behind : (before after : List Coming) (t : Coming) → drop (suc (length before)) (before ++ t ∷ after) ≡ after
rest_behind [] after t = refl
rest_behind (x ∷ before) after t = rest_behind before after t

pub other_passes : OtherPasses
other_passes s first before after t time e h over =
    let scale = first.timescale in
    let others = before ++ t ∷ after in
    let end = end_of_other s.next scale t in
    let next : s.track + 1 ≡ suc (suc (length before)) = omega (arith, e) in
    let left : pieces_left s first others ≡ pieces_left (behind_other s) first others =
    at_other s first others (length before) e
    ∙ (λ i. others_before s.next scale (behind_is before (t ∷ after) i) ++ next_left s.next first others)
    ∙ ap (λ l. l ++ others_before s.next scale after ++ next_left s.next first others) (over_none end t over)
    ∙ ap (λ l. others_before s.next scale l ++ next_left s.next first others) (sym (rest_behind before after t))
    ∙ sym (at_other (behind_other s) first others (suc (length before)) next) in
    let so_far = all_append (Passed s.next scale) before (t ∷ []) (passed_before s.next scale s.track before (t ∷ after) e h.passed) (over_rest end t.samples over, tt) in
    let tracks = h.tracks in
    let many = length-append before (t ∷ after) in
    let halfway : IsHalfway (behind_other s) first others = record {
      tracks = tracks;
      track = omega (arith, tracks, e, many);
      some = omega arith;
      timescale = h.timescale;
      passed = subst (λ n. HavePassed s.next scale n others) (sym next) (subst (λ l. AllByRecursion (Passed s.next scale) l) (sym (one_behind before after t)) so_far);
    } in
    let w = wraps (behind_other s) first others s.next refl halfway in
    let is = passed_other s time (length before) e in
    (left ∙ w.0 ∙ ap (λ p. pieces_left p first others) (sym is), subst (λ p. IsAmong p first others) (sym is) w.1)

pub none_left : NoneLeft
none_left s first others h e =
    let last : s.track ≡ suc (length others) = e ∙ h.tracks in
    let none = drop_all (length others) others (omega arith) in
    at_other s first others (length others) last ∙ (λ i. others_before s.next first.timescale (none i) ++ next_left (h.over e i) first others)

-- Turns take the pieces that are left, one after the other.
pub turns_take_all : TurnsTakeAll
turns_take_all = record { first_takes = first_takes; other_takes = other_takes; first_passes = first_passes; other_passes = other_passes; none_left = none_left }
