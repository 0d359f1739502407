-- What a walk over a `moof` reads of it, from box to box.
use Rattle.std.proofs.Common.{◌≡◌, ℕ, ◌+◌, ◌-◌, ◌^◌, ◌<◌, min, true, cond, List, [], ◌∷◌, ◌++◌, length, Option, Some, None, zero, suc, drop, inl, inr, refl, sym, ap, subst, ◌∙◌, arith}
use Rattle.std.specs.List.{slice_get}
use Rattle.std.specs.Prelude.{ℤ, pos, ◌+ℤ◌, codes, bytes_eq}
use Rattle.std.proofs.lemmas.Bool.{cases_lt}
use Rattle.mp4_boxes.specs.format.Box.{Box}
use Rattle.mp4_boxes.specs.format.Layout.{trun}
use Rattle.mp4_tables.specs.declared.keys.Keys.{Keys}
use Rattle.mp4_tables.specs.words.Next.{PassesNonSync}
use Rattle.mp4_tables.specs.declared.sample.SampleAt.{SampleAt}
use Rattle.mp4_frag.specs.format.Fragments.{TrackFragment, sample_run_of}
use Rattle.mp4_frag.specs.format.FragmentSamples.{base_of}
use Rattle.mp4_frag.specs.words.MoofWalks.{MoofWalk, Between, LiesInMoof, start_held, run_end, runs_end_held, head_among, behind_samples, inheriting, headed, traf_coming, trafs_coming, traf_left, left_before, moof_coming, behind_left, IsInMoof, IsSameTrack, walk_of, walk_with}
use Rattle.mp4_frag.specs.words.Passing.{filling}
use Rattle.mp4_frag.specs.words.Reading.{IsRun, inheritance}
use Rattle.mp4_frag.specs.words.Times.{lasting}
use Rattle.mp4_frag.specs.words.Walks.{boxes_from, boxes_in, capped, coming, held, part_of, rows_of, samples_in, trex_among}
use Rattle.mp4_frag.specs.declared.places.FragPlace.{FragPlace}
use Rattle.mp4_frag.specs.declared.places.TrafPlace.{TrafPlace}
use Rattle.mp4_frag.specs.declared.state.TrackState.{TrackState}
use Rattle.mp4_frag.specs.declared.trex.Trex.{Trex}
use Rattle.mp4_frag.specs.declared.trun.Run.{Run}
use Rattle.mp4_frag.proofs.BoxPlaces.{all_boxes, box_end}
use Rattle.mp4_frag.proofs.Comings.{box_at_place, none_to_come, turned}
use Rattle.mp4_frag.proofs.DurationsKept.{as_many}
use Rattle.mp4_frag.proofs.LeavesRead.{read}

-- ---- the `tfhd` of a `traf`

pub head_done : (payload : List ℕ) (before : Option TrackFragment) (at : ℕ) → boxes_from payload at ≡ [] → before ≡ head_among before (boxes_from payload at)
head_done payload before at e = rw e refl

-- ---- where its data ends

pub end_done : (payload : List ℕ) (size : ℕ) (base before : ℤ) (at : ℕ) → boxes_from payload at ≡ [] → before ≡ runs_end_held size base before (boxes_from payload at)
end_done payload size base before at e = rw e refl

-- where the data of a run ends that can be read
pub run_ends : (size : ℕ) (base before start ends : ℤ) (bytes : ℕ) (payload : List ℕ) (run : Run) → IsRun payload run → start ≡ start_held base before run.data_offset → bytes ≡ filling size (rows_of payload) → ends ≡ held (start +ℤ pos bytes)
    → ends ≡ run_end size base before payload
run_ends size base before start ends bytes payload run r s b e =
    let there = read trun payload r.readable in
    let from : start ≡ start_held base before (sample_run_of payload).data_offset = s ∙ ap (start_held base before) r.data_offset in
    rw there (e ∙ (λ i. held (from i +ℤ pos (b i))))

-- ---- places

-- no sample is left of the `traf` in hand
pub none_in_hand : (payload : List ℕ) (p : FragPlace) → LiesInMoof payload p → p.traf.run.left ≡ 0 → traf_left payload p ≡ []
none_in_hand payload p lies none = none_to_come (part_of payload p.begins p.ends) p.traf none (lies.traf.settled none)

-- behind no sample
pub none_behind : (number dts : ℕ) (samples : List SampleAt) (ends : ℤ) → samples ≡ [] → number < 2 ^ 32 → dts < 2 ^ 64 → behind_samples number dts samples ends ≡ record { number = number; dts = dts; before = ends }
none_behind number dts samples ends e small short =
    let count : min (number + length samples) (2 ^ 32 - 1) ≡ number = omega (arith, ap (λ (ss : List SampleAt). length ss) e) in
    let time : capped (dts + lasting samples) ≡ dts = omega (arith, ap lasting e) in
    λ i. record { number = count i; dts = time i; before = ends }

-- so what comes is that of the boxes
pub left_none : (payload : List ℕ) (w : MoofWalk) (p : FragPlace) (boxes : List Box) → LiesInMoof payload p → p.traf.run.left ≡ 0 → left_before payload w p boxes ≡ trafs_coming w (behind_left payload p) boxes
left_none payload w p boxes lies none = ap (λ (ss : List SampleAt). ss ++ trafs_coming w (behind_left payload p) boxes) (none_in_hand payload p lies none)

-- the next box of a `moof` is a `traf`
pub traf_next : (payload : List ℕ) (w : MoofWalk) (s : Between) (at inside behind : ℕ) (kind : List ℕ) → boxes_from payload at ≡ box_at_place payload kind at inside behind ∷ boxes_from payload behind → bytes_eq kind (codes "traf") ≡ true
    → traf_coming w s (part_of payload inside behind) (λ t. trafs_coming w t (boxes_from payload behind)) ≡ trafs_coming w s (boxes_from payload at)
traf_next payload w s at inside behind kind e k =
    let is = turned (codes "traf") kind ∙ k in
    sym (ap (trafs_coming w s) e ∙ ap (λ v. cond v (traf_coming w s (part_of payload inside behind) (λ t. trafs_coming w t (boxes_from payload behind))) (trafs_coming w s (boxes_from payload behind))) is)

-- ---- a `traf` is entered

pub headless : (w : MoofWalk) (s : Between) (part : List ℕ) (more : Between → List SampleAt) (head : Option TrackFragment) → head ≡ head_among None (boxes_from part 0) → head ≡ None → more s ≡ traf_coming w s part more
headless w s part more head h e = sym (ap (headed w s part more) (ap (head_among None) (sym (all_boxes part)) ∙ sym h ∙ e))

pub inherits_none : (w : MoofWalk) (s : Between) (part : List ℕ) (more : Between → List SampleAt) (head : TrackFragment) → Some head ≡ head_among None (boxes_from part 0) → trex_among w.tracks head.id ≡ None → more s ≡ traf_coming w s part more
inherits_none w s part more head h e =
    sym (ap (headed w s part more) (ap (head_among None) (sym (all_boxes part)) ∙ sym h) ∙ ap (inheriting w s part more head) e)

-- what comes where it was
pub entered : (w : MoofWalk) (s : Between) (part : List ℕ) (more : Between → List SampleAt) (head : TrackFragment) (trex : Trex) (base end : ℤ) (samples : List SampleAt) → Some head ≡ head_among None (boxes_from part 0) → trex_among w.tracks head.id ≡ Some trex
    → base ≡ base_of w.moof s.before head → samples ≡ samples_in part base w.id trex s.number s.dts w.keys → end ≡ runs_end_held (inheritance head trex).size base base (boxes_from part 0)
    → samples ++ more (behind_samples s.number s.dts samples end) ≡ traf_coming w s part more
entered w s part more head trex base end samples h e b is f =
    let to : base_of w.moof s.before head ≡ base = sym b in
    let all = all_boxes part in
    let same : samples_in part (base_of w.moof s.before head) w.id trex s.number s.dts w.keys ≡ samples = ap (λ z. samples_in part z w.id trex s.number s.dts w.keys) to ∙ sym is in
    let ends : runs_end_held (inheritance head trex).size (base_of w.moof s.before head) (base_of w.moof s.before head) (boxes_in 0 part) ≡ end =
    (λ i. runs_end_held (inheritance head trex).size (to i) (to i) (sym all i)) ∙ sym f in
    sym (ap (headed w s part more) (ap (head_among None) (sym all) ∙ sym h) ∙ ap (inheriting w s part more head) e
    ∙ (λ i. same i ++ more (behind_samples s.number s.dts (same i) (ends i))))

-- ---- a sample is passed

-- the first of some samples in two parts
pub first_of_two : (xs ys : List SampleAt) → 0 < length xs → slice_get (xs ++ ys) 0 ≡ slice_get xs 0
first_of_two [] ys h = absurd (omega (arith, h))
first_of_two (x ∷ xs) ys h = refl

-- where none is in hand, none is to come
pub over_here : (payload : List ℕ) (w : MoofWalk) (p : FragPlace) → IsInMoof payload p → p.traf.run.left ≡ 0 → moof_coming payload w p ≡ []
over_here payload w p h none =
    let last : boxes_from payload p.next ≡ [] = box_end payload p.next (length payload) (omega (arith, h.settled none)) in
    left_none payload w p (boxes_from payload p.next) h.lies none ∙ ap (trafs_coming w (behind_left payload p)) last

-- a sample is to come, so one is in hand
pub some_in_hand : (payload : List ℕ) (w : MoofWalk) (p : FragPlace) (s : SampleAt) → IsInMoof payload p → slice_get (moof_coming payload w p) 0 ≡ Some s → 0 < p.traf.run.left
some_in_hand payload w p s h e = elim (cases_lt 0 p.traf.run.left) [
  | inl some ↦ some
  | inr over ↦
      let none : p.traf.run.left ≡ 0 = omega (arith, over) in
      absurd (not_first s (sym e ∙ ap (λ (l : List SampleAt). slice_get l 0) (over_here payload w p h none)))
]
  where
    not_first : (s : SampleAt) → Some s ≡ None → ⊥
    not_first s e = cc

-- the samples in hand come first
pub in_hand_first : (payload : List ℕ) (w : MoofWalk) (p : FragPlace) → 0 < p.traf.run.left → slice_get (moof_coming payload w p) 0 ≡ slice_get (traf_left payload p) 0
in_hand_first payload w p some =
    let many = as_many (part_of payload p.begins p.ends) p.traf in
    first_of_two (traf_left payload p) (trafs_coming w (behind_left payload p) (boxes_from payload p.next)) (omega (arith, many, some))

-- so many samples were passed of those in hand
counted_on : (n number more : ℕ) (xs ys : List SampleAt) → length xs ≡ n + length ys → more ≡ min (number + n) (2 ^ 32 - 1) → min (more + length ys) (2 ^ 32 - 1) ≡ min (number + length xs) (2 ^ 32 - 1)
counted_on n number more xs ys e m = omega (arith, e, m)

pub behind_same : (n number more dts later : ℕ) (xs ys : List SampleAt) (ends : ℤ) → length xs ≡ n + length ys → more ≡ min (number + n) (2 ^ 32 - 1) → capped (later + lasting ys) ≡ capped (dts + lasting xs)
    → behind_samples more later ys ends ≡ behind_samples number dts xs ends
behind_same n number more dts later xs ys ends e m t = let count = counted_on n number more xs ys e m in λ i. record { number = count i; dts = t i; before = ends }

shorter : (xs : List SampleAt) → 0 < length xs → length xs ≡ 1 + length (drop 1 xs)
shorter [] h = absurd (omega (arith, h))
shorter (x ∷ xs) h = omega arith

passed_front : (xs zs : List SampleAt) → 0 < length xs → drop 1 xs ++ zs ≡ drop 1 (xs ++ zs)
passed_front [] zs h = absurd (omega (arith, h))
passed_front (x ∷ xs) zs h = refl

-- the one in hand is passed
pub one_passed : (payload : List ℕ) (w : MoofWalk) (p : FragPlace) (number : ℕ) (q : TrafPlace) → 0 < p.traf.run.left → number ≡ min (p.number + 1) (2 ^ 32 - 1) → coming (part_of payload p.begins p.ends) q ≡ drop 1 (traf_left payload p)
    → capped (q.dts + lasting (coming (part_of payload p.begins p.ends) q)) ≡ capped (p.traf.dts + lasting (traf_left payload p)) → moof_coming payload w (record p { number = number; traf = q }) ≡ drop 1 (moof_coming payload w p)
one_passed payload w p number q some m is t =
    let xs = traf_left payload p in
    let ys = coming (part_of payload p.begins p.ends) q in
    let many = as_many (part_of payload p.begins p.ends) p.traf in
    let there : 0 < length xs = omega (arith, many, some) in
    let short : length xs ≡ 1 + length ys = shorter xs there ∙ ap (λ (l : List SampleAt). 1 + length l) (sym is) in
    let same = behind_same 1 p.number number p.traf.dts q.dts xs ys p.before short m t in
    (λ i. is i ++ trafs_coming w (same i) (boxes_from payload p.next))
    ∙ passed_front xs (trafs_coming w (behind_left payload p) (boxes_from payload p.next)) there

-- ---- some samples are passed

passes_count : (description n : ℕ) (xs ys : List SampleAt) → PassesNonSync description n xs ys → length xs ≡ n + length ys
passes_count description zero xs ys h = omega (arith, ap (λ (l : List SampleAt). length l) h)
passes_count description (suc n) [] ys h = absurd h
passes_count description (suc n) (x ∷ xs) ys h = omega (arith, passes_count description n xs ys h.1)

passes_front : (description n : ℕ) (xs ys zs : List SampleAt) → PassesNonSync description n xs ys → PassesNonSync description n (xs ++ zs) (ys ++ zs)
passes_front description zero xs ys zs h = ap (λ (l : List SampleAt). l ++ zs) h
passes_front description (suc n) [] ys zs h = absurd h
passes_front description (suc n) (x ∷ xs) ys zs h = (h.0, passes_front description n xs ys zs h.1)

pub some_passed : (payload : List ℕ) (w : MoofWalk) (p : FragPlace) (number : ℕ) (q : TrafPlace) (description n : ℕ) → number ≡ min (p.number + n) (2 ^ 32 - 1) → PassesNonSync description n (traf_left payload p) (coming (part_of payload p.begins p.ends) q)
    → capped (q.dts + lasting (coming (part_of payload p.begins p.ends) q)) ≡ capped (p.traf.dts + lasting (traf_left payload p)) → PassesNonSync description n (moof_coming payload w p) (moof_coming payload w (record p { number = number; traf = q }))
some_passed payload w p number q description n k passes t =
    let xs = traf_left payload p in
    let ys = coming (part_of payload p.begins p.ends) q in
    let same = behind_same n p.number number p.traf.dts q.dts xs ys p.before (passes_count description n xs ys passes) k t in
    let now : moof_coming payload w (record p { number = number; traf = q }) ≡ ys ++ trafs_coming w (behind_left payload p) (boxes_from payload p.next) = (λ i. ys ++ trafs_coming w (same i) (boxes_from payload p.next)) in
    subst (PassesNonSync description n (moof_coming payload w p)) (sym now) (passes_front description n xs ys (trafs_coming w (behind_left payload p) (boxes_from payload p.next)) passes)

-- ---- a walk begins

pub started : (payload bytes : List ℕ) (moof at from dts : ℕ) (tracks : List TrackState) (first settled : FragPlace) (id : ℕ) (keys : Keys) → bytes ≡ payload → at ≡ moof → from ≡ moof → first.id ≡ id → first.keys ≡ keys → IsSameTrack first settled
    → moof_coming bytes (walk_of at tracks first) settled ≡ moof_coming bytes (walk_of at tracks first) first → ((some : List ℕ) (w : MoofWalk) → moof_coming some w first ≡ trafs_coming w (record { number = 0; dts = dts; before = pos from }) (boxes_from some 0))
    → moof_coming payload (walk_of moof tracks settled) settled ≡ trafs_coming (walk_with moof tracks id keys) (record { number = 0; dts = dts; before = pos moof }) (boxes_in 0 payload)
started payload bytes moof at from dts tracks first settled id keys b a f i k same s h =
    let own = same.id in
    let by = same.keys in
    (λ j. moof_coming (sym b j) (walk_with (sym a j) tracks (own j) (by j)) settled)
    ∙ s
    ∙ h bytes (walk_of at tracks first)
    ∙ (λ j. trafs_coming (walk_with (a j) tracks (i j) (k j)) (record { number = 0; dts = dts; before = pos (f j) }) (boxes_from (b j) 0))
    ∙ ap (trafs_coming (walk_with moof tracks id keys) (record { number = 0; dts = dts; before = pos moof })) (all_boxes payload)
