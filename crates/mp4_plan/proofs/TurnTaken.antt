-- A turn takes the first of the pieces that are left, and those behind it are left then.
use Rattle.std.proofs.Common.{◌≡◌, ℕ, zero, suc, ◌+◌, ◌-◌, ◌<◌, ◌≤◌, ◌==◌, nat_le, ◌&&◌, not, Bool, true, false, cond, List, [], ◌∷◌, ◌++◌, length, take, drop, Option, Some, None, inl, inr, refl, sym, ap, subst, ◌∙◌, arith, rules, true≢false, slice_get, slice_set}
use Rattle.std.specs.Prelude.{option_map}
use Rattle.std.specs.List.{AllByRecursion, prefix_len}
use Rattle.std.proofs.lemmas.Bool.{eq-eqb, ne_eqb, eqb-true}
use Rattle.std.proofs.lemmas.List.{length-drop, length-take-le}
use Rattle.std.proofs.lemmas.List.Sums.{sum_by-cons}
use Rattle.mp4_tables.specs.format.Groups.{GroupKey}
use Rattle.mp4_tables.specs.words.Keys.{keys_seen}
use Rattle.mp4_tables.specs.declared.sample.SampleAt.{SampleAt}
use Rattle.mp4_present.specs.declared.track_info.TrackInfo.{TrackInfo}
use Rattle.mp4_content.specs.format.TimedSamples.{TimedSample}
use Rattle.mp4_plan.specs.format.Pieces.{is_sync, Piece}
use Rattle.mp4_plan.specs.words.Ends.{has_ended, goes_in}
use Rattle.mp4_plan.specs.words.Gathering.{piece_from, more_of, samples_after}
use Rattle.mp4_plan.specs.words.PiecesComing.{Coming, end_of_first, end_of_other, pieces_left}
use Rattle.mp4_content.specs.words.TakenSamples.{AreTaken}
use Rattle.mp4_plan.specs.words.Turns.{turn_end, turned, track_passed, wrapped, is_over, MayPass, Sticks}
use Rattle.mp4_plan.specs.words.TurnLaws.{IsAmong, IsOver, next_time, piece_if, turn_count, after_turn}
use Rattle.mp4_plan.specs.declared.ends.End.{End}
use Rattle.mp4_plan.specs.declared.ends.End.TheVariants.{Sync, Before}
use Rattle.mp4_plan.specs.declared.schedule.Schedule.{Schedule}
use Rattle.mp4_plan.proofs.FragmentsLeft.{not_itself}
use Rattle.mp4_plan.proofs.Lefts.{IsLeft, AreLeft, left_count, IsFresh, StandsIn, pieces_from, IsTurn}
use Rattle.mp4_plan.proofs.TakenTurns.{ended_same, turn_same, taken_front, taken_behind}
use Rattle.mp4_plan.proofs.TurnSteps.{turns_take_all}
use Rattle.mp4_boxes.proofs.Plain.{some_is}
use Rattle.mp4_plan.proofs.HandsTaken.{few_more}
use Rattle.mp4_content.proofs.ReducedTaken.{as_many_taken}

-- ---- how many are left

left_cons : (left : List SampleAt) (lefts : List (List SampleAt)) → left_count (left ∷ lefts) ≡ length left + left_count lefts
left_cons left lefts = sum_by-cons (λ (l : List SampleAt). length l) left lefts

count_set : (lefts : List (List SampleAt)) (k : ℕ) (left behind : List SampleAt) → slice_get lefts k ≡ Some left → left_count (slice_set lefts k behind) + length left ≡ left_count lefts + length behind
count_set [] k left behind e = absurd (cc)
count_set (l ∷ lefts) zero left behind e =
    let n = ap length (some_is l left e) in
    let a = left_cons behind lefts in
    let b = left_cons l lefts in
    omega (arith, n, a, b)
count_set (l ∷ lefts) (suc k) left behind e =
    let n = count_set lefts k left behind e in
    let a = left_cons l lefts in
    let b = left_cons l (slice_set lefts k behind) in
    omega (arith, n, a, b)

-- So many fewer are left behind it.
pub count_behind : (lefts : List (List SampleAt)) (k n : ℕ) (left : List SampleAt) → slice_get lefts k ≡ Some left → n ≤ length left → left_count lefts - n ≡ left_count (slice_set lefts k (drop n left))
count_behind lefts k n left e le =
    let a = count_set lefts k left (drop n left) e in
    let b = length-drop n left in
    omega (arith, a, b, le)

-- ---- what comes next

module _ (file : List ℕ) (keys : List GroupKey) where
  time_alike : (taken : List SampleAt) (samples : List TimedSample) → AreTaken file keys taken samples → option_map (λ (s : SampleAt). s.dts) (slice_get taken 0) ≡ next_time samples
  time_alike [] [] z = refl
  time_alike [] (s ∷ samples) z = absurd z
  time_alike (a ∷ taken) [] z = absurd z
  time_alike (a ∷ taken) (s ∷ samples) z = ap (λ n. Some n) z.0.time

  over_alike : (end : End) (taken : List SampleAt) (samples : List TimedSample) → AreTaken file keys taken samples → is_over end (slice_get taken 0) ≡ true → IsOver end samples
  over_alike end [] [] z e = tt
  over_alike end [] (s ∷ samples) z e = absurd z
  over_alike end (a ∷ taken) [] z e = absurd z
  over_alike end (a ∷ taken) (s ∷ samples) z e = sym (ended_same file keys end a s z.0) ∙ e

  fresh_alike : (end : End) (taken : List SampleAt) (samples : List TimedSample) → AreTaken file keys taken samples → is_over end (slice_get taken 0) ≡ false → IsFresh end samples
  fresh_alike end [] [] z e = tt
  fresh_alike end [] (s ∷ samples) z e = absurd z
  fresh_alike end (a ∷ taken) [] z e = absurd z
  fresh_alike end (a ∷ taken) (s ∷ samples) z e = sym (ended_same file keys end a s z.0) ∙ e

-- ---- turns without samples

prefix_none : {A : Type 0} (p : A → Bool) (x : A) (xs : List A) → prefix_len p (x ∷ xs) ≡ 0 → p x ≡ false
prefix_none p x xs e = by (p x) refl e
  where
    by : (v : Bool) → p x ≡ v → cond v (1 + prefix_len p xs) 0 ≡ 0 → p x ≡ false
    by true f e = absurd (omega (arith, e))
    by false f e = f

own_goes : (v : Bool) (d : ℕ) → (not v && (d == d)) ≡ false → v ≡ true
own_goes true d e = refl
own_goes false d e = absurd (true≢false (sym (eq-eqb d d refl) ∙ e))

-- Where no sample goes into a piece, it is over: the next one has the description of the piece that it begins.
none_over : (end : End) (left : List SampleAt) → more_of (piece_from end) left ≡ 0 → is_over end (slice_get (samples_after (piece_from end) left) 0) ≡ true
unfolding more_of
none_over end [] e = refl
none_over end (a ∷ left) e = ap (λ n. is_over end (slice_get (drop n (a ∷ left)) 0)) e ∙ own_goes (has_ended end a) a.description (prefix_none (goes_in end a.description) a left e)

-- ---- where a schedule stands behind a turn

-- it stands among its tracks, with so many samples left
record IsBehind (p : Schedule) (scale left : ℕ) (first : Coming) : Type 0 where
  scale_is : p.first ≡ scale
  left_is : p.left ≡ left
  fresh : p.track ≡ 0 → IsFresh (end_of_first p.from first) first.samples
  next : 0 < p.track → p.next ≡ next_time first.samples

-- a fragment begins with the sample at which the one before it was cut
at_cut : (cut scale : ℕ) (xs : List TimedSample) → 0 < scale → Some cut ≡ next_time xs → IsFresh (Sync cut scale) xs
at_cut cut scale [] some e = tt
at_cut cut scale (x ∷ xs) some e = ap (λ c. is_sync x.sample && nat_le (c + scale) x.time) (some_is cut x.time e) ∙ not_itself scale x some

wrapped_behind : (p : Schedule) (first : Coming) (time : Option ℕ) → p.next ≡ time → time ≡ next_time first.samples → 0 < first.timescale → 0 < p.track → IsBehind (wrapped p time) p.first p.left first
wrapped_behind p first None e f some lt = record { scale_is = refl; left_is = refl; fresh = λ z. absurd (omega (arith, z, lt)); next = λ z. e ∙ f }
wrapped_behind p first (Some cut) e f some lt = by (p.track == p.tracks)
  where
    by : (v : Bool) → IsBehind (cond v (record p { from = cut; next = None; track = 0 }) p) p.first p.left first
    by true = record { scale_is = refl; left_is = refl; fresh = λ z. at_cut cut first.timescale first.samples some f; next = λ z. absurd (omega (arith, z)) }
    by false = record { scale_is = refl; left_is = refl; fresh = λ z. absurd (omega (arith, z, lt)); next = λ z. e ∙ f }

passed_behind : (s : Schedule) (first : Coming) (time : Option ℕ) → 0 < first.timescale → (s.track ≡ 0 → time ≡ next_time first.samples) → (0 < s.track → s.next ≡ next_time first.samples) → IsBehind (track_passed s time) s.first s.left first
passed_behind s first time some f g = by (s.track == 0) refl
  where
    by : (v : Bool) → (s.track == 0) ≡ v → IsBehind (cond v (wrapped (record s { next = time; track = 1 }) time) (wrapped (record s { track = s.track + 1 }) s.next)) s.first s.left first
    by true e = wrapped_behind (record s { next = time; track = 1 }) first time refl (f (eqb-true s.track 0 e)) some (omega arith)
    by false e =
        let lt : 0 < s.track = search rules in
        wrapped_behind (record s { track = s.track + 1 }) first s.next refl (g lt) some (omega arith)

stands_there : (p : Schedule) (scale left : ℕ) (first : Coming) (others : List Coming) → scale ≡ first.timescale → IsAmong p first others → IsBehind p scale left first → StandsIn p first others
stands_there p scale left first others e among q = record { among = among; scale = q.scale_is ∙ e; fresh = q.fresh; next = q.next }

-- ---- behind a turn

-- another schedule stands where the same pieces are left
record GoesOn (s p : Schedule) (left : ℕ) (first : Coming) (others : List Coming) : Type 0 where
  pieces : pieces_left s first others ≡ pieces_left p first others
  stands : StandsIn p first others
  left_is : p.left ≡ left

goes_first : (s : Schedule) (end : End) (count : ℕ) (next : Option SampleAt) (first : Coming) (others : List Coming) → s.track ≡ 0 → s.first ≡ first.timescale → end ≡ end_of_first s.from first → IsAmong s first others
    → option_map (λ (n : SampleAt). n.dts) next ≡ next_time first.samples → (is_over end next ≡ true → IsOver end first.samples) → (is_over end next ≡ false → IsFresh end first.samples)
    → GoesOn s (turned s end count next) (s.left - count) first others
goes_first s end count next first others z scale e among time over fresh = by (is_over end next) refl
  where
    rest : Schedule
    rest = record s { left = s.left - count }

    among_rest : IsAmong rest first others
    among_rest = record { tracks = among.tracks; track = among.track; timescale = among.timescale; passed = among.passed; over = among.over }

    by : (v : Bool) → is_over end next ≡ v → GoesOn s (cond v (track_passed rest (option_map (λ (n : SampleAt). n.dts) next)) rest) (s.left - count) first others
    by true f =
        let p = turns_take_all.first_passes rest first others z among_rest (subst (λ x. IsOver x first.samples) e (over f)) in
        let q = passed_behind rest first (option_map (λ (n : SampleAt). n.dts) next) among.timescale (λ _. time) (λ lt. absurd (omega (arith, z, lt))) in
        record {
          pieces = p.0 ∙ ap (λ n. pieces_left (track_passed rest n) first others) (sym time);
          stands = stands_there (track_passed rest (option_map (λ (n : SampleAt). n.dts) next)) s.first (s.left - count) first others scale (subst (λ n. IsAmong (track_passed rest n) first others) (sym time) p.1) q;
          left_is = q.left_is;
        }
    by false f = record {
      pieces = refl;
      stands = record { among = among_rest; scale = scale; fresh = λ _. subst (λ x. IsFresh x first.samples) e (fresh f); next = λ lt. absurd (omega (arith, z, lt)) };
      left_is = refl;
    }

goes_other : (s : Schedule) (end : End) (count : ℕ) (next : Option SampleAt) (first : Coming) (before after : List Coming) (t : Coming) → s.track ≡ suc (length before) → s.first ≡ first.timescale → end ≡ end_of_other s.next first.timescale t
    → IsAmong s first (before ++ t ∷ after) → s.next ≡ next_time first.samples → (is_over end next ≡ true → IsOver end t.samples)
    → GoesOn s (turned s end count next) (s.left - count) first (before ++ t ∷ after)
goes_other s end count next first before after t z scale e among time over = by (is_over end next) refl
  where
    others : List Coming
    others = before ++ t ∷ after

    rest : Schedule
    rest = record s { left = s.left - count }

    passed : Option ℕ
    passed = option_map (λ (n : SampleAt). n.dts) next

    among_rest : IsAmong rest first others
    among_rest = record { tracks = among.tracks; track = among.track; timescale = among.timescale; passed = among.passed; over = among.over }

    by : (v : Bool) → is_over end next ≡ v → GoesOn s (cond v (track_passed rest (option_map (λ (n : SampleAt). n.dts) next)) rest) (s.left - count) first (before ++ t ∷ after)
    by true f =
        let p = turns_take_all.other_passes rest first before after t passed z among_rest (subst (λ x. IsOver x t.samples) e (over f)) in
        let q = passed_behind rest first passed among.timescale (λ n. absurd (omega (arith, n, z))) (λ _. time) in
        record { pieces = p.0; stands = stands_there (track_passed rest passed) s.first (s.left - count) first others scale p.1 q; left_is = q.left_is }
    by false f = record {
      pieces = refl;
      stands = record { among = among_rest; scale = scale; fresh = λ n. absurd (omega (arith, n, z)); next = λ _. time };
      left_is = refl;
    }

-- ---- a track at its place

record LeftAt (file : List ℕ) (infos : List TrackInfo) (lefts : List (List SampleAt)) (comings : List Coming) (k : ℕ) (info : TrackInfo) (left : List SampleAt) : Type 0 where
  before : List Coming
  t : Coming
  after : List Coming
  whole : comings ≡ before ++ t ∷ after
  many : length before ≡ k
  own : IsLeft file info left t
  put : (behind : List SampleAt) (u : Coming) → IsLeft file info behind u → AreLeft file infos (slice_set lefts k behind) (before ++ u ∷ after)

left_at : (file : List ℕ) (infos : List TrackInfo) (lefts : List (List SampleAt)) (comings : List Coming) (k : ℕ) (info : TrackInfo) (left : List SampleAt) → AreLeft file infos lefts comings → slice_get infos k ≡ Some info → slice_get lefts k ≡ Some left
    → LeftAt file infos lefts comings k info left
left_at file [] lefts comings k info left h a b = absurd (cc)
left_at file (i ∷ infos) [] comings k info left h a b = absurd (cc)
left_at file (i ∷ infos) (l ∷ lefts) [] k info left h a b = absurd h
left_at file (i ∷ infos) (l ∷ lefts) (c ∷ comings) zero info left h a b =
    let e = some_is i info a in
    record {
      before = [];
      t = c;
      after = comings;
      whole = refl;
      many = refl;
      own = subst (λ x. IsLeft file x left c) e (subst (λ x. IsLeft file i x c) (some_is l left b) h.0);
      put = λ behind u g. (subst (λ x. IsLeft file x behind u) (sym e) g, h.1);
    }
left_at file (i ∷ infos) (l ∷ lefts) (c ∷ comings) (suc k) info left h a b =
    let r = left_at file infos lefts comings k info left h.1 a b in
    record {
      before = c ∷ r.before;
      t = r.t;
      after = r.after;
      whole = ap (λ cs. c ∷ cs) r.whole;
      many = ap suc r.many;
      own = r.own;
      put = λ behind u g. (h.0, r.put behind u g);
    }

-- ---- a turn

-- What a turn with this end takes of a track of which these samples are left.
pub record TurnTakes (file : List ℕ) (infos : List TrackInfo) (s : Schedule) (lefts : List (List SampleAt)) (comings : List Coming) (info : TrackInfo) (left : List SampleAt) (end : End) : Type 0 where
  pub samples : List TimedSample
  pub later : List Coming
  pub taken : AreTaken file (keys_seen info.keys) (take (more_of (piece_from end) left) left) samples
  pub pieces : pieces_from s comings ≡ piece_if info.id samples ++ pieces_from (turned s end (more_of (piece_from end) left) (slice_get (samples_after (piece_from end) left) 0)) later
  pub on : IsTurn file infos (turned s end (more_of (piece_from end) left) (slice_get (samples_after (piece_from end) left) 0)) (slice_set lefts s.track (samples_after (piece_from end) left)) later
  pub few : more_of (piece_from end) left ≤ s.left
  pub moves : more_of (piece_from end) left ≡ 0 → MayPass s end (slice_get (samples_after (piece_from end) left) 0)

abbrev pub TurnTaken : List ℕ → List TrackInfo → Schedule → List (List SampleAt) → List Coming → TrackInfo → List SampleAt → Type 0
TurnTaken file infos s lefts comings info left = TurnTakes file infos s lefts comings info left (turn_end s info.timescale)

pub few_left : (lefts : List (List SampleAt)) (k n : ℕ) (left : List SampleAt) → slice_get lefts k ≡ Some left → n ≤ length left → n ≤ left_count lefts
few_left lefts k n left e le = let a = count_set lefts k left [] e in omega (arith, a, le)

-- in the first track a turn takes samples, as the next one does not end its piece
first_moves : (file : List ℕ) (keys : List GroupKey) (end : End) (left : List SampleAt) (samples : List TimedSample) → AreTaken file keys left samples → IsFresh end samples → more_of (piece_from end) left ≡ 0
    → slice_get (samples_after (piece_from end) left) 0 ≡ None
unfolding more_of
first_moves file keys end [] [] z f e = refl
first_moves file keys end [] (s ∷ samples) z f e = absurd z
first_moves file keys end (a ∷ left) [] z f e = absurd z
first_moves file keys end (a ∷ left) (s ∷ samples) z f e =
    let over = own_goes (has_ended end a) a.description (prefix_none (goes_in end a.description) a left e) in
    absurd (true≢false (sym over ∙ ended_same file keys end a s z.0 ∙ f))

first_taken : (file : List ℕ) (i : TrackInfo) (infos : List TrackInfo) (s : Schedule) (l : List SampleAt) (lefts : List (List SampleAt)) (first : Coming) (others : List Coming) (end : End)
    → s.track ≡ 0 → end ≡ Sync s.from i.timescale → IsTurn file (i ∷ infos) s (l ∷ lefts) (first ∷ others) → TurnTakes file (i ∷ infos) s (l ∷ lefts) (first ∷ others) i l end
first_taken file i infos s l lefts first others end z e h =
    let keys = keys_seen i.keys in
    let each = h.each.0 in
    let st = h.among in
    let own = end_of_first s.from first in
    let is : end ≡ own = e ∙ ap (λ n. Sync s.from n) (sym each.timescale) in
    let n = more_of (piece_from end) l in
    let behind = drop n l in
    let u = after_turn own first in
    let same : n ≡ turn_count own first.samples = turn_same file keys end l first.samples each.taken ∙ ap (λ x. turn_count x first.samples) is in
    let left_over : AreTaken file keys behind u.samples = subst (λ k. AreTaken file keys (drop n l) (drop k first.samples)) same (taken_behind file keys n l first.samples each.taken) in
    let law = turns_take_all.first_takes s first others z st.among in
    let on = goes_first s end n (slice_get behind 0) u others z st.scale is law.1 (time_alike file keys behind u.samples left_over) (over_alike file keys end behind u.samples left_over) (fresh_alike file keys end behind u.samples left_over) in
    let at : slice_get (l ∷ lefts) s.track ≡ Some l = ap (slice_get (l ∷ lefts)) z in
    record {
      samples = take (turn_count own first.samples) first.samples;
      later = u ∷ others;
      taken = subst (λ k. AreTaken file keys (take n l) (take k first.samples)) same (taken_front file keys n l first.samples each.taken);
      pieces = law.0 ∙ (λ j. piece_if (each.id j) (take (turn_count own first.samples) first.samples) ++ on.pieces j);
      on = record {
        each = subst (λ k. AreLeft file (i ∷ infos) (slice_set (l ∷ lefts) k behind) (u ∷ others)) (sym z) (record { id = each.id; timescale = each.timescale; taken = left_over }, h.each.1);
        among = on.stands;
        left = on.left_is ∙ ap (λ m. m - n) h.left ∙ count_behind (l ∷ lefts) s.track n l at (few_more (piece_from end) l);
      };
      few = subst (λ m. n ≤ m) (sym h.left) (few_left (l ∷ lefts) s.track n l at (few_more (piece_from end) l));
      moves = λ m. (none_over end l m, λ _. first_moves file keys end l first.samples each.taken (subst (λ x. IsFresh x first.samples) (sym is) (st.fresh z)) m);
    }

other_taken : (file : List ℕ) (i : TrackInfo) (infos : List TrackInfo) (s : Schedule) (l : List SampleAt) (lefts : List (List SampleAt)) (first : Coming) (others : List Coming) (end : End) (k : ℕ) (info : TrackInfo) (left : List SampleAt)
    → s.track ≡ suc k → end ≡ Before s.next s.first info.timescale → IsTurn file (i ∷ infos) s (l ∷ lefts) (first ∷ others) → slice_get infos k ≡ Some info → slice_get lefts k ≡ Some left
    → TurnTakes file (i ∷ infos) s (l ∷ lefts) (first ∷ others) info left end
other_taken file i infos s l lefts first others end k info left z e h a b =
    let keys = keys_seen info.keys in
    let at = left_at file infos lefts others k info left h.each.1 a b in
    let t = at.t in
    let each = at.own in
    let st = h.among in
    let own = end_of_other s.next first.timescale t in
    let is : end ≡ own = e ∙ (λ j. Before s.next (st.scale j) (sym each.timescale j)) in
    let n = more_of (piece_from end) left in
    let behind = drop n left in
    let u = after_turn own t in
    let place : s.track ≡ suc (length at.before) = z ∙ ap suc (sym at.many) in
    let same : n ≡ turn_count own t.samples = turn_same file keys end left t.samples each.taken ∙ ap (λ x. turn_count x t.samples) is in
    let left_over : AreTaken file keys behind u.samples = subst (λ k. AreTaken file keys (drop n left) (drop k t.samples)) same (taken_behind file keys n left t.samples each.taken) in
    let law = turns_take_all.other_takes s first at.before at.after t place (subst (λ os. IsAmong s first os) at.whole st.among) in
    let on = goes_other s end n (slice_get behind 0) first at.before at.after u place st.scale is law.1 (st.next (omega (arith, z))) (over_alike file keys end behind u.samples left_over) in
    let there : slice_get (l ∷ lefts) s.track ≡ Some left = ap (slice_get (l ∷ lefts)) z ∙ b in
    record {
      samples = take (turn_count own t.samples) t.samples;
      later = first ∷ (at.before ++ u ∷ at.after);
      taken = subst (λ k. AreTaken file keys (take n left) (take k t.samples)) same (taken_front file keys n left t.samples each.taken);
      pieces = ap (λ os. pieces_left s first os) at.whole ∙ law.0 ∙ (λ j. piece_if (each.id j) (take (turn_count own t.samples) t.samples) ++ on.pieces j);
      on = record {
        each = subst (λ k. AreLeft file (i ∷ infos) (slice_set (l ∷ lefts) k behind) (first ∷ (at.before ++ u ∷ at.after))) (sym z) (h.each.0, at.put behind u (record { id = each.id; timescale = each.timescale; taken = left_over }));
        among = on.stands;
        left = on.left_is ∙ ap (λ m. m - n) h.left ∙ count_behind (l ∷ lefts) s.track n left there (few_more (piece_from end) left);
      };
      few = subst (λ m. n ≤ m) (sym h.left) (few_left (l ∷ lefts) s.track n left there (few_more (piece_from end) left));
      moves = λ m. (none_over end left m, λ y. absurd (omega (arith, y, z)));
    }

end_first : (s : Schedule) (scale : ℕ) → s.track ≡ 0 → turn_end s scale ≡ Sync s.from scale
end_first s scale z = ap (λ v. cond v (Sync s.from scale) (Before s.next s.first scale)) (eq-eqb s.track 0 z)

end_other : (s : Schedule) (scale k : ℕ) → s.track ≡ suc k → turn_end s scale ≡ Before s.next s.first scale
end_other s scale k z = ap (λ v. cond v (Sync s.from scale) (Before s.next s.first scale)) (ne_eqb s.track 0 (λ y. omega (arith, y, z)))

-- A turn takes the first of the pieces that are left, if it takes samples, and behind it the others are left.
pub turn_taken : (file : List ℕ) (infos : List TrackInfo) (s : Schedule) (lefts : List (List SampleAt)) (comings : List Coming) (info : TrackInfo) (left : List SampleAt)
    → IsTurn file infos s lefts comings → s.track < s.tracks → slice_get infos s.track ≡ Some info → slice_get lefts s.track ≡ Some left → TurnTaken file infos s lefts comings info left
turn_taken file [] s lefts comings info left h lt a b = absurd (cc)
turn_taken file (i ∷ infos) s [] comings info left h lt a b = absurd (cc)
turn_taken file (i ∷ infos) s (l ∷ lefts) [] info left h lt a b = absurd h.each
turn_taken file (i ∷ infos) s (l ∷ lefts) (first ∷ others) info left h lt a b = by s.track refl
  where
    by : (k : ℕ) → s.track ≡ k → TurnTaken file (i ∷ infos) s (l ∷ lefts) (first ∷ others) info left
    by zero z =
        let e : i ≡ info = some_is i info (sym (ap (slice_get (i ∷ infos)) z) ∙ a) in
        let f : l ≡ left = some_is l left (sym (ap (slice_get (l ∷ lefts)) z) ∙ b) in
        subst (λ x. TurnTaken file (i ∷ infos) s (l ∷ lefts) (first ∷ others) x left) e (subst (λ x. TurnTaken file (i ∷ infos) s (l ∷ lefts) (first ∷ others) i x) f (first_taken file i infos s l lefts first others (turn_end s i.timescale) z (end_first s i.timescale z) h))
    by (suc k) z = other_taken file i infos s l lefts first others (turn_end s info.timescale) k info left z (end_other s info.timescale k z) h (sym (ap (slice_get (i ∷ infos)) z) ∙ a) (sym (ap (slice_get (l ∷ lefts)) z) ∙ b)

-- Behind the last track none is left.
pub turns_end : (file : List ℕ) (infos : List TrackInfo) (s : Schedule) (lefts : List (List SampleAt)) (comings : List Coming) → IsTurn file infos s lefts comings → s.tracks ≤ s.track → pieces_from s comings ≡ []
turns_end file infos s lefts [] h le = refl
turns_end file infos s lefts (first ∷ others) h le = let most = h.among.among.track in turns_take_all.none_left s first others h.among.among (omega (arith, le, most))

-- A turn of samples that are left leads on, where a track behind the first has one that goes into a piece.
pub turn_moves : (file : List ℕ) (infos : List TrackInfo) (s : Schedule) (lefts : List (List SampleAt)) (comings : List Coming) (info : TrackInfo) (left : List SampleAt) → TurnTaken file infos s lefts comings info left
    → (0 < s.track → is_over (turn_end s info.timescale) (slice_get left 0) ≡ false) → ¬ Sticks s (more_of (piece_from (turn_end s info.timescale)) left) (slice_get (samples_after (piece_from (turn_end s info.timescale)) left) 0)
turn_moves file infos s lefts comings info left t due (inl lt) = let few = t.few in omega (arith, few, lt)
turn_moves file infos s lefts comings info left t due (inr stuck) = by s.track refl
  where
    end : End
    end = turn_end s info.timescale

    by : (k : ℕ) → s.track ≡ k → ⊥
    by zero z = stuck.1 (z, (t.moves stuck.0).1 z)
    by (suc k) z = true≢false (sym (t.moves stuck.0).0 ∙ ap (λ n. is_over end (slice_get (drop n left) 0)) stuck.0 ∙ due (omega (arith, z)))

-- Where the pieces of a track behind the first are over, it passes, and the same pieces are left.
pub turn_skips : (file : List ℕ) (infos : List TrackInfo) (s : Schedule) (lefts : List (List SampleAt)) (comings : List Coming) (info : TrackInfo) (left : List SampleAt) → IsTurn file infos s lefts comings → 0 < s.track → s.track < s.tracks
    → slice_get infos s.track ≡ Some info → slice_get lefts s.track ≡ Some left → is_over (Before s.next s.first info.timescale) (slice_get left 0) ≡ true
    → IsTurn file infos (track_passed s None) lefts comings × (pieces_from s comings ≡ pieces_from (track_passed s None) comings)
turn_skips file [] s lefts comings info left h some lt a b over = absurd (cc)
turn_skips file (i ∷ infos) s [] comings info left h some lt a b over = absurd (cc)
turn_skips file (i ∷ infos) s (l ∷ lefts) [] info left h some lt a b over = absurd h.each
turn_skips file (i ∷ infos) s (l ∷ lefts) (first ∷ others) info left h some lt a b over = by s.track refl
  where
    later : Schedule
    later = track_passed s None

    by : (k : ℕ) → s.track ≡ k → IsTurn file (i ∷ infos) later (l ∷ lefts) (first ∷ others) × (pieces_from s (first ∷ others) ≡ pieces_from later (first ∷ others))
    by zero z = absurd (omega (arith, z, some))
    by (suc k) z =
        let keys = keys_seen info.keys in
        let at = left_at file infos lefts others k info left h.each.1 (sym (ap (slice_get (i ∷ infos)) z) ∙ a) (sym (ap (slice_get (l ∷ lefts)) z) ∙ b) in
        let t = at.t in
        let each = at.own in
        let st = h.among in
        let end = Before s.next s.first info.timescale in
        let own = end_of_other s.next first.timescale t in
        let is : end ≡ own = λ j. Before s.next (st.scale j) (sym each.timescale j) in
        let place : s.track ≡ suc (length at.before) = z ∙ ap suc (sym at.many) in
        let past : IsOver own t.samples = subst (λ x. IsOver x t.samples) is (over_alike file keys end left t.samples each.taken over) in
        let p = turns_take_all.other_passes s first at.before at.after t None place (subst (λ os. IsAmong s first os) at.whole st.among) past in
        let q = passed_behind s first None st.among.timescale (λ n. absurd (omega (arith, n, z))) (λ _. st.next (omega (arith, z))) in (
          record {
            each = h.each;
            among = stands_there later s.first s.left first others st.scale (subst (λ os. IsAmong later first os) (sym at.whole) p.1) q;
            left = q.left_is ∙ h.left;
          },
          ap (λ os. pieces_left s first os) at.whole ∙ p.0 ∙ ap (λ os. pieces_left later first os) (sym at.whole),
        )

-- ---- all turns

-- There are samples for each track.
pub tracks_left : (file : List ℕ) (infos : List TrackInfo) (lefts : List (List SampleAt)) (comings : List Coming) → AreLeft file infos lefts comings → (length lefts ≡ length infos) × (length comings ≡ length infos)
tracks_left file [] [] [] h = (refl, refl)
tracks_left file [] [] (c ∷ comings) h = absurd h
tracks_left file [] (l ∷ lefts) comings h = absurd h
tracks_left file (i ∷ infos) [] comings h = absurd h
tracks_left file (i ∷ infos) (l ∷ lefts) [] h = absurd h
tracks_left file (i ∷ infos) (l ∷ lefts) (c ∷ comings) h = let r = tracks_left file infos lefts comings h.1 in (ap suc r.0, ap suc r.1)

-- A schedule has a turn for each track.
pub turn_tracks : (file : List ℕ) (infos : List TrackInfo) (s : Schedule) (lefts : List (List SampleAt)) (comings : List Coming) → IsTurn file infos s lefts comings → s.tracks ≡ length infos
turn_tracks file infos s [] [] h = h.among ∙ (tracks_left file infos [] [] h.each).1
turn_tracks file infos s (l ∷ lefts) [] h = h.among ∙ (tracks_left file infos (l ∷ lefts) [] h.each).1
turn_tracks file infos s lefts (first ∷ others) h = h.among.among.tracks ∙ (tracks_left file infos lefts (first ∷ others) h.each).1

-- Where no piece that is left has more than so many samples, a turn takes no more, and no piece behind it has more.
pub turn_fits : (most : ℕ) (file : List ℕ) (infos : List TrackInfo) (s : Schedule) (lefts : List (List SampleAt)) (comings : List Coming) (info : TrackInfo) (left : List SampleAt) → (t : TurnTaken file infos s lefts comings info left)
    → AllByRecursion (λ (p : Piece). length p.samples ≤ most) (pieces_from s comings)
    → (let end = turn_end s info.timescale in
    (more_of (piece_from end) left ≤ most) × AllByRecursion (λ (p : Piece). length p.samples ≤ most) (pieces_from (turned s end (more_of (piece_from end) left) (slice_get (samples_after (piece_from end) left) 0)) t.later))
turn_fits most file infos s lefts comings info left t h =
    let end = turn_end s info.timescale in
    let n = more_of (piece_from end) left in
    let behind = pieces_from (turned s end n (slice_get (drop n left) 0)) t.later in
    let parts = all_parts (λ (p : Piece). length p.samples ≤ most) (piece_if info.id t.samples) behind (subst (λ l. AllByRecursion (λ (p : Piece). length p.samples ≤ most) l) t.pieces h) in
    let a = length-take-le n left (few_more (piece_from end) left) in
    let b = as_many_taken file (keys_seen info.keys) (take n left) t.samples t.taken in
    let c = one_fits info.id t.samples parts.0 in
    (omega (arith, a, b, c), parts.1)
  where
    all_parts : (P : Piece → Type 0) (xs ys : List Piece) → AllByRecursion P (xs ++ ys) → AllByRecursion P xs × AllByRecursion P ys
    all_parts P [] ys k = (tt, k)
    all_parts P (x ∷ xs) ys k = let r = all_parts P xs ys k.1 in ((k.0, r.0), r.1)

    one_fits : (id : ℕ) (samples : List TimedSample) → AllByRecursion (λ (p : Piece). length p.samples ≤ most) (piece_if id samples) → length samples ≤ most
    one_fits id [] k = omega arith
    one_fits id (x ∷ samples) k = k.0
