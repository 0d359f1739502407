-- The steps of walks that note a piece, go back, and copy it.
use Rattle.std.proofs.Common.{rules, ◌≡◌, ◌⊎◌, ◌&&◌, ◌==◌, Bool, true, false, inl, inr, ℕ, ◌+◌, ◌*◌, ◌<◌, ◌≤◌, List, [], ◌∷◌, length, drop, None, Some, refl, sym, ap, subst, ◌∙◌, arith}
use Rattle.std.specs.Prelude.{IsTrue, Option, is_none, nat_eq, nat_lt, slice_get, slice_set, if◌then◌else◌}
use Rattle.std.proofs.lemmas.Bool.{eqb-true}
use Rattle.mp4_tables.specs.declared.sample.SampleAt.{SampleAt}
use Rattle.mp4_head.specs.format.Tree.{TrackTree}
use Rattle.mp4_present.specs.format.Denotes.{FileTree}
use Rattle.mp4_present.specs.words.GoingBack.{HoldsSome, IsMarkInHand, again_from, back_steps, is_mark_farther}
use Rattle.mp4_present.specs.words.Movies.{MovieSeen, HasSome, IsRest, IsWalkOf, mark_of, traf_box}
use Rattle.mp4_present.specs.words.OpenedMovie.{IsOpenedAs}
use Rattle.mp4_present.specs.words.SamplesComing.{Comes, StandsBefore}
use Rattle.mp4_present.specs.words.WalkSteps.{MayTake, TakesOn, trafs_steps, steps_to, table_way, way_through}
use Rattle.mp4_frag.specs.words.OwnTrafs.{PlacedTraf, traf_steps}
use Rattle.mp4_present.proofs.WayThrough.{same_steps}
use Rattle.mp4_present.specs.declared.walking.in_hand.Place.{Place}
use Rattle.mp4_present.specs.declared.walking.in_hand.Place.TheVariants.{Tables, Fragment}
use Rattle.mp4_content.specs.declared.reduced.Reduction.{Reduction}
use Rattle.mp4_present.specs.declared.walking.Due.{Due}
use Rattle.mp4_present.specs.declared.walking.Mark.{Mark}
use Rattle.mp4_present.specs.declared.walking.Walk.{Walk}
use Rattle.mp4_present.proofs.GoneBack.{back_is, marked_before}
use Rattle.mp4_content.specs.words.ComingLess.{ComesLess, less}
use Rattle.mp4_content.specs.words.GoneOn.{ComesMarked, GoesPast, HasLoaded, Stays, WentOn}
use Rattle.mp4_plan.specs.words.WriterSteps.{AllFinishOn, AllWriteOn, CarriesAgain, CarriesInHand, CarriesOn, FinishesOn, MayAllFinish, MayAllWrite, MayFinish, MayWrite, WritesOn, again_steps, last_steps}
use Rattle.mp4_plan.proofs.AllMay.{may_at}
use Rattle.mp4_plan.proofs.ComeAt.{set_same, set_there, set_twice}
use Rattle.mp4_plan.proofs.TrafsAhead.{again_less, ahead_of, between, held_some, last_more, last_of, not_before, one_place, steps_append, way_some}
use Rattle.mp4_content.proofs.ReducedTaken.{less_length}
use Rattle.mp4_content.proofs.WalksGone.{stays_holding, still_marked}
use Rattle.mp4_boxes.proofs.Plain.{nat_lt_is}

-- ---- tests

and_left : (a b : Bool) → (a && b) ≡ true → a ≡ true
and_left true b e = refl
and_left false b e = absurd cc

and_right : (a b : Bool) → (a && b) ≡ true → b ≡ true
and_right true b e = e
and_right false b e = absurd cc

not_lt : (n k : ℕ) → nat_lt n k ≡ false → k ≤ n
not_lt n k e = search rules

right_false : (n k : ℕ) (b : Bool) → n ≡ k → ((n == k) && b) ≡ false → b ≡ false
right_false n k b same e = by (n == k) (let eq : nat_eq n k ≡ true = search rules in eq) e
  where
    by : (a : Bool) → a ≡ true → (a && b) ≡ false → b ≡ false
    by true t e = e
    by false t e = absurd cc

pub not_both : (v : Bool) → IsTrue v → v ≡ false → ⊥
not_both true p e = absurd cc
not_both false p e = absurd cc

-- no fewer `traf`s are passed then
pub no_farther_back : (m : MovieSeen) (before after : Walk) → Stays before after ⊎ HasLoaded m before after → before.next ≤ after.next
no_farther_back m before after (inl s) = let same = s.next in omega (arith, same)
no_farther_back m before after (inr l) = let far = l.0 in omega (arith, far)

pub past_same : (m : MovieSeen) (after : Walk) (next other : ℕ) → next ≡ other → GoesPast m next after → GoesPast m other after
past_same m after next other e g = subst (λ n. GoesPast m n after) e g

pub gone_past : (m : MovieSeen) (before after : Walk) (next : ℕ) → before.next ≡ next → Stays before after ⊎ HasLoaded m before after → GoesPast m next after
gone_past m before after next e (inl s) = inl (s.next ∙ e)
gone_past m before after next e (inr l) = let far = l.0 in inr (omega (arith, far, e), l.1)

module _ (file : List ℕ) (m : MovieSeen) (tree : FileTree) (o : IsOpenedAs file m tree) (t : TrackTree) where
  -- of what a walk may take no more is left further on
  pub rest_few : (w now : Walk) (n old new : ℕ) → old ≤ new → (h : TakesOn file tree t n now old new) → h.0 ≤ n
  rest_few w now n old new grows h = let within = h.2 in omega (arith, grows, within)

  -- ---- the next sample is looked for

  pub writes_next : (w now : Walk) (n old new : ℕ) (samples : List SampleAt) (h : MayWrite file tree m t w n) → old ≤ new → Stays w now ⊎ HasLoaded m w now
      → TakesOn file tree t h.own now old new → Comes file tree t m now samples → now.mark ≡ mark_of now (length samples) → WritesOn file tree m t n now old new
  writes_next w now n old new samples h grows ahead takes comes marked =
      let less = again_less file m tree o t h.may.earlier h.may.later takes.1.earlier takes.1.later w now h.may.stands takes.1.stands (no_farther_back m w now ahead) in
      let few = rest_few w now h.own old new grows takes in
      let within = takes.2 in
      let sum = h.sum in
      let rest : ℕ = 2 * takes.0 + again_steps takes.1.earlier takes.1.later in
      (rest, record { samples = samples; comes = comes; marked = marked; own = takes.0; may = takes.1; sum = refl }, omega (arith, less, few, within, sum))

  -- ---- a piece is noted

  pub finishes_noted : (l : Reduction) (count : ℕ) (w now : Walk) (n old new : ℕ) (left : List SampleAt) (h : MayWrite file tree m t w n) (k : ComesMarked l file tree t m now count left)
      → k.begun ≡ w → WentOn m w now old new → TakesOn file tree t h.own now old new → (count ≡ 0 → now.mark ≡ mark_of now (length left)) → FinishesOn l file tree m count t n now old new
  finishes_noted l count w now n old new left h k same went takes none =
      let few = rest_few w now h.own old new went.grows takes in
      let within = takes.2 in
      let sum = h.sum in
      let began = subst (λ (b : Walk). MayTake file tree t b h.own) (sym same) h.may in
      let begun = one_place file m tree o t began.earlier began.later h.may.earlier h.may.later k.begun w began.stands h.may.stands (ap (λ (b : Walk). b.next) same) in
      let again : again_steps began.earlier began.later ≡ again_steps h.may.earlier h.may.later = λ i. again_steps (begun.0 i) (begun.1 i) in (
        h.own + takes.0 + again_steps began.earlier began.later,
        record {
          left = left;
          marked = k;
          own = h.own;
          began = began;
          now = takes.0;
          may = takes.1;
          less = few;
          ahead = subst (λ (b : Walk). Stays b now ⊎ HasLoaded m b now) (sym same) went.ahead;
          none = none;
          sum = refl;
        },
        omega (arith, within, sum, again),
      )

  -- nothing was noted
  pub finishes_none : (l : Reduction) (w : Walk) (n old : ℕ) (left : List SampleAt) (h : MayWrite file tree m t w n) (k : ComesMarked l file tree t m w 0 left) → k.begun ≡ w → w.mark ≡ mark_of w (length left) → FinishesOn l file tree m 0 t n w old old
  finishes_none l w n old left h k same none =
      let sum = h.sum in
      let began = subst (λ (b : Walk). MayTake file tree t b h.own) (sym same) h.may in
      let begun = one_place file m tree o t began.earlier began.later h.may.earlier h.may.later k.begun w began.stands h.may.stands (ap (λ (b : Walk). b.next) same) in
      let again : again_steps began.earlier began.later ≡ again_steps h.may.earlier h.may.later = λ i. again_steps (begun.0 i) (begun.1 i) in
      let stays : Stays w w = record { track = refl; next = refl; due = refl; left = refl; traf = refl; bytes = refl } in (
        h.own + h.own + again_steps began.earlier began.later,
        record {
          left = left;
          marked = k;
          own = h.own;
          began = began;
          now = h.own;
          may = h.may;
          less = omega arith;
          ahead = subst (λ (b : Walk). Stays b w ⊎ HasLoaded m b w) (sym same) (inl stays);
          none = λ _. none;
          sum = refl;
        },
        omega (arith, sum, again),
      )

  -- ---- it is carried, and the next sample is looked for

  module _ (l : Reduction) (count : ℕ) (w : Walk) (n : ℕ) (h : MayFinish l file tree m count t w n) (i : IsWalkOf m w) where
    mark_next : w.mark.next ≡ h.marked.begun.next
    mark_next = ap (λ (k : Mark). k.next) h.marked.back.mark

    mark_behind : h.marked.begun.next ≤ w.next
    mark_behind = let same = mark_next in let behind = i.mark.behind in omega (arith, same, behind)

    again_now : again_steps h.may.earlier h.may.later ≤ again_steps h.began.earlier h.began.later
    again_now = again_less file m tree o t h.began.earlier h.began.later h.may.earlier h.may.later h.marked.begun w h.began.stands h.may.stands mark_behind

    -- a piece without samples is done
    pub writes_none : count ≡ 0 → MayWrite file tree m t w (2 * h.now + again_steps h.may.earlier h.may.later)
    writes_none zero =
        let k = h.marked.comes in
        let long = ap (λ (ss : List SampleAt). length ss) k.is_left ∙ less_length l k.samples in
        let all : length (drop count h.left) ≡ length h.left = ap (λ c. length (drop c h.left)) zero in
        let same : length h.left ≡ length k.samples = sym all ∙ long in
        record { samples = k.samples; comes = k.comes; marked = h.none zero ∙ ap (mark_of w) same; own = h.now; may = h.may; sum = refl }

    pub none_within : (old : ℕ) → old + (2 * h.now + again_steps h.may.earlier h.may.later) ≤ old + n
    none_within old = let less = h.less in let sum = h.sum in let again = again_now in omega (arith, less, sum, again)

    pub own_within : h.own ≤ n
    own_within = let sum = h.sum in omega (arith, sum)

    back_few : back_steps h.marked.begun w ≤ last_steps 0 h.began.earlier
    back_few = by (again_from w) refl
      where
        by : (b : Option Due) → again_from w ≡ b → back_steps h.marked.begun w ≤ last_steps 0 h.began.earlier
        by None e =
            let none : back_steps h.marked.begun w ≡ 0 = ap (λ (b : Option Due). if is_none b then 0 else traf_steps (traf_box h.marked.begun)) e in
            omega (arith, none)
        by (Some d) e =
            let before : h.marked.begun.before ≡ Some d = sym (ap (λ (k : Mark). k.before) h.marked.back.mark) ∙ marked_before w d e in
            let held = held_some file m tree o t h.began.earlier h.began.later h.marked.begun h.marked.begun.before d before h.began.stands.held in
            let box = same_steps file tree t held.0 held.1 h.began.later _ held.3 in
            let last = last_of 0 held.0 held.1 in
            let all = ap (last_steps 0) held.2 in
            let back = back_is h.marked.begun w d e in
            omega (arith, back, box, last, all)

    pub again_within : h.own + back_steps h.marked.begun w ≤ n
    again_within = let sum = h.sum in let back = back_few in omega (arith, sum, back)

    -- what is left then is within what it may take
    pub carries_rest : (mid : Walk) (old middle : ℕ) → CarriesOn file tree t m h.marked.begun h.own w h.now mid old middle → (rest : ℕ) × MayTake file tree t mid rest × (middle + rest ≤ old + n)
    carries_rest mid old middle (inl c) = let within = c.3 in let own = own_within in (c.0, c.1, omega (arith, within, own))
    carries_rest mid old middle (inr c) = let within = c.4 in let own = again_within in (c.0, c.1, omega (arith, within, own))

    module _ (mid now : Walk) (old middle new : ℕ) (takes : (rest : ℕ) → MayTake file tree t mid rest → TakesOn file tree t rest now middle new) (grows : middle ≤ new) (ahead : Stays mid now ⊎ HasLoaded m mid now)
        (samples : List SampleAt) (comes : Comes file tree t m now samples) (marked : now.mark ≡ mark_of now (length samples)) where
      farther_on : h.marked.begun.next ≤ mid.next → h.marked.begun.next ≤ now.next
      farther_on on = let more = no_farther_back m mid now ahead in omega (arith, on, more)

      done : (rest : ℕ) (may : MayTake file tree t now rest) → new + (2 * rest + again_steps may.earlier may.later) ≤ old + n → WritesOn file tree m t n now old new
      done rest may within = (2 * rest + again_steps may.earlier may.later, record { samples = samples; comes = comes; marked = marked; own = rest; may = may; sum = refl }, within)

      pub writes_in_hand : h.marked.begun.next ≤ mid.next → CarriesInHand file tree t h.own h.now mid old middle → WritesOn file tree m t n now old new
      writes_in_hand on c =
          let k = takes c.0 c.1 in
          let less = again_less file m tree o t h.began.earlier h.began.later k.1.earlier k.1.later h.marked.begun now h.began.stands k.1.stands (farther_on on) in
          let few = rest_few mid now c.0 middle new grows k in
          let short = c.2 in
          let first = c.3 in
          let second = k.2 in
          let sum = h.sum in
          done k.0 k.1 (omega (arith, less, few, short, first, second, sum))

      loaded : (IsMarkInHand w → ⊥) → HasLoaded m h.marked.begun w
      loaded none = by h.ahead
        where
          by : Stays h.marked.begun w ⊎ HasLoaded m h.marked.begun w → HasLoaded m h.marked.begun w
          by (inl s) = absurd (none (s.next ∙ sym mark_next, ap is_none (s.due ∙ sym (ap (λ (k : Mark). k.before) h.marked.back.mark))))
          by (inr l) = l

      past : GoesPast m h.marked.begun.next mid → h.marked.begun.next < now.next → HoldsSome m now
      past g lt = by g ahead
        where
          by : GoesPast m h.marked.begun.next mid → Stays mid now ⊎ HasLoaded m mid now → HoldsSome m now
          by g (inr l) = l.1
          by (inl e) (inl s) = let same = s.next in absurd (omega (arith, lt, e, same))
          by (inr k) (inl s) = stays_holding m mid now s k.1

      pub writes_again : IsWalkOf m now → HasSome m now ⊎ (samples ≡ []) → length samples ≡ length (drop count h.left) → CarriesAgain file tree t m h.marked.begun h.own w mid old middle → WritesOn file tree m t n now old new
      writes_again j some many c =
          let far = loaded c.2 in
          let k = takes c.0 c.1 in
          let comes_here = h.marked.comes in
          let long : length comes_here.samples ≡ length samples = sym (ap (λ (ss : List SampleAt). length ss) comes_here.is_left ∙ less_length l comes_here.samples) ∙ sym many in
          let on = not_before file m tree o t w now comes_here.samples samples comes_here.comes comes long i far.1 some in
          let first = far.0 in
          let lt : h.marked.begun.next < now.next = omega (arith, first, on) in
          let holds = past c.3 lt in
          let way = way_some file m tree o t k.1.earlier k.1.later now j k.1.stands holds.before holds.is_before in
          let b = between file m tree o t h.may.earlier h.may.later k.1.earlier k.1.later w now h.may.stands k.1.stands on in
          let held = held_some file m tree o t h.may.earlier h.may.later w w.before far.1.before far.1.is_before h.may.stands.held in
          let a = ahead_of file m tree o t h.began.earlier h.began.later h.may.earlier h.may.later h.marked.begun w h.began.stands h.may.stands far.1.before far.0 held in
          let one = ap (last_steps 0) b.1 in
          let two = last_more h.may.earlier b.0 in
          let three = ap trafs_steps b.2 ∙ steps_append b.0 k.1.later in
          let four = ap (last_steps 0) a.3 ∙ last_of 0 a.0 a.2 in
          let five : trafs_steps h.began.later ≡ trafs_steps a.1 + (traf_steps a.2.traf + trafs_steps h.may.later) = ap trafs_steps a.4 ∙ steps_append a.1 (a.2 ∷ h.may.later) in
          let left = k.1.left in
          let had = h.may.left in
          let inside = h.may.inside in
          let back = back_few in
          let within = c.4 in
          let second = k.2 in
          let sum = h.sum in
          done k.0 k.1 (omega (arith, way, one, two, three, four, five, left, had, inside, back, within, second, sum))

      pub writes_on : IsWalkOf m now → HasSome m now ⊎ (samples ≡ []) → length samples ≡ length (drop count h.left) → h.marked.begun.next ≤ mid.next → CarriesOn file tree t m h.marked.begun h.own w h.now mid old middle → WritesOn file tree m t n now old new
      writes_on j some many on (inl c) = writes_in_hand on c
      writes_on j some many on (inr c) = writes_again j some many c

  -- ---- a piece in what is in hand

  pub way_by : (e later : List PlacedTraf) (w : Walk) → IsWalkOf m w → StandsBefore file tree t e later w → (v : Bool) → is_none w.before ≡ v → way_through t w w.place ≡ (if v then table_way t else last_steps 0 e)
  way_by e later w i s v is = by w.before refl v is
    where
      tables : (b : Option Due) (q : Place) → IsRest m w b q → b ≡ None → way_through t w q ≡ table_way t
      tables None (Tables p) r n = refl
      tables None (Fragment p) r n = absurd r
      tables (Some d) q r n = absurd cc

      by : (b : Option Due) → w.before ≡ b → (v : Bool) → is_none b ≡ v → way_through t w w.place ≡ (if v then table_way t else last_steps 0 e)
      by None same true is = tables w.before w.place i.rest same
      by None same false is = absurd cc
      by (Some d) same true is = absurd cc
      by (Some d) same false is = way_some file m tree o t e later w i s d same

  -- Of a walk that was set back to its mark, and went on from there to as many samples as before, the farther place may take no more than either.
  module _ (w set mid : Walk) (i : IsWalkOf m w) (j : IsWalkOf m mid) (here : IsMarkInHand w) (next : set.next ≡ w.mark.next) (kind : set.before ≡ w.mark.before) (ahead : Stays set mid ⊎ HasLoaded m set mid) (now rest : ℕ) (a : MayTake file tree t w now) (b : MayTake file tree t mid rest) where
    same_ways : Stays set mid → (way_through t w w.place ≡ way_through t mid mid.place) × (trafs_steps a.later ≡ trafs_steps b.later)
    same_ways s =
        let place = one_place file m tree o t a.earlier a.later b.earlier b.later w mid a.stands b.stands (here.0 ∙ sym next ∙ sym s.next) in
        let kinds : is_none mid.before ≡ is_none w.before = ap is_none (s.due ∙ kind) ∙ sym here.1 in
        let one = way_by a.earlier a.later w i a.stands (is_none w.before) refl in
        let two = way_by b.earlier b.later mid j b.stands (is_none w.before) kinds in
        (one ∙ ap (λ e. if is_none w.before then table_way t else last_steps 0 e) place.0 ∙ sym two, ap trafs_steps place.1)

    pub farther_mark : Stays set mid ⊎ HasLoaded m set mid → mid.next ≡ w.next → steps_to mid.place ≤ steps_to w.place → now ≤ rest
    farther_mark (inl s) e le =
        let k = same_ways s in
        let one = a.left in
        let two = b.left in
        let way = k.0 in
        let more = k.1 in
        omega (arith, one, two, way, more, le)
    farther_mark (inr l) e le = let far = l.0 in let at = here.0 in absurd (omega (arith, far, e, next, at))

    pub farther_walk : Stays set mid ⊎ HasLoaded m set mid → (mid.next ≡ w.next → steps_to w.place ≤ steps_to mid.place) → rest ≤ now
    farther_walk (inl s) le =
        let k = same_ways s in
        let one = a.left in
        let two = b.left in
        let way = k.0 in
        let more = k.1 in
        let near = le (s.next ∙ next ∙ sym here.0) in
        omega (arith, one, two, way, more, near)
    farther_walk (inr l) le =
        let at = here.0 in
        let first = l.0 in
        let lt : w.next < mid.next = omega (arith, first, at, next) in
        let held = held_some file m tree o t b.earlier b.later mid mid.before l.1.before l.1.is_before b.stands.held in
        let k = ahead_of file m tree o t a.earlier a.later b.earlier b.later w mid a.stands b.stands l.1.before lt held in
        let way = way_some file m tree o t b.earlier b.later mid j b.stands l.1.before l.1.is_before in
        let last = ap (last_steps 0) k.3 ∙ last_of 0 k.0 k.2 in
        let sum : trafs_steps a.later ≡ trafs_steps k.1 + (traf_steps k.2.traf + trafs_steps b.later) = ap trafs_steps k.4 ∙ steps_append k.1 (k.2 ∷ b.later) in
        let one = a.left in
        let inside = a.inside in
        let two = b.left in
        omega (arith, way, last, sum, one, inside, two)

  -- so the farther one is in reach
  pub farther_fits : (w set mid : Walk) (now rest : ℕ) (v : Bool) → is_mark_farther mid ≡ v → mid.mark.next ≡ w.next → mid.mark.place ≡ w.place → (Stays set mid ⊎ HasLoaded m set mid → mid.next ≡ w.next → steps_to mid.place ≤ steps_to w.place → now ≤ rest)
      → (Stays set mid ⊎ HasLoaded m set mid → (mid.next ≡ w.next → steps_to w.place ≤ steps_to mid.place) → rest ≤ now) → Stays set mid ⊎ HasLoaded m set mid → (new old own : ℕ) → new + rest ≤ old + own
      → ((if v then now else rest) ≤ now) × (new + (if v then now else rest) ≤ old + own)
  farther_fits w set mid now rest true is at place mark walk ahead new old own within =
      let e : mid.next ≡ mid.mark.next = eqb-true mid.next mid.mark.next (and_left (mid.next == mid.mark.next) (nat_lt (steps_to mid.place) (steps_to mid.mark.place)) is) in
      let lt : steps_to mid.place < steps_to mid.mark.place = nat_lt_is (steps_to mid.place) (steps_to mid.mark.place) (and_right (mid.next == mid.mark.next) (nat_lt (steps_to mid.place) (steps_to mid.mark.place)) is) in
      let steps = ap steps_to place in
      let few = mark ahead (e ∙ at) (omega (arith, lt, steps)) in
      (omega arith, omega (arith, few, within))
  farther_fits w set mid now rest false is at place mark walk ahead new old own within =
      let few = walk ahead (λ e. let steps = ap steps_to place in let le = not_lt (steps_to mid.place) (steps_to mid.mark.place) (right_false mid.next mid.mark.next (nat_lt (steps_to mid.place) (steps_to mid.mark.place)) (e ∙ sym at) is) in omega (arith, steps, le)) in
      (few, within)

-- ---- all walks, of which one has noted a piece

module _ (by : List Reduction) (l : Reduction) (file : List ℕ) (m : MovieSeen) (tree : FileTree) (o : IsOpenedAs file m tree) (walks : List Walk) (k count : ℕ) (w : Walk) (n : ℕ) (h : MayAllWrite file tree m walks n) (is : slice_get walks k ≡ Some w) (is_by : slice_get by k ≡ Some l) where
  pub all_noted : (now : Walk) (old new : ℕ) → ((t : TrackTree) (own : ℕ) → MayWrite file tree m t w own → FinishesOn l file tree m count t own now old new) → AllFinishOn by file tree m k count n (slice_set walks k now) old new
  all_noted now old new notes =
      let r = may_at (MayWrite file tree m) tree.movie.tracks walks k w n h is in
      let on = notes r.t r.own r.may in
      let all = r.sum in
      let within = on.2 in (
        on.0 + r.others,
        record {
          by = l;
          is_by = is_by;
          t = r.t;
          walk = now;
          is_walk = set_there walks k w now is;
          own = on.0;
          others = r.others;
          may = on.1;
          sum = refl;
          moved = λ later rest may. subst (λ (ws : List Walk). MayAllWrite file tree m ws (rest + r.others)) (sym (set_twice walks k now later)) (r.moved later rest may);
        },
        omega (arith, all, within),
      )

  -- nothing was noted
  pub none_noted : (old : ℕ) → IsWalkOf m w → count ≡ 0 → AllFinishOn by file tree m k count n walks old old
  none_noted old i none =
      let r = may_at (MayWrite file tree m) tree.movie.tracks walks k w n h is in
      let left = less l r.may.samples in
      let long = less_length l r.may.samples in
      let marked : w.mark ≡ mark_of w (length left) = r.may.marked ∙ ap (mark_of w) (sym long) in
      let own : ComesLess l file tree r.t m w left = record { samples = r.may.samples; comes = r.may.comes; is_left = refl } in
      let since = still_marked l file tree r.t m w 0 left i own marked refl in
      let on = finishes_none file m tree o r.t l w r.own old left r.may since.0 since.1 marked in
      let all = r.sum in
      let within = on.2 in (
        on.0 + r.others,
        record {
          by = l;
          is_by = is_by;
          t = r.t;
          walk = w;
          is_walk = is;
          own = on.0;
          others = r.others;
          may = subst (λ c. MayFinish l file tree m c r.t w on.0) (sym none) on.1;
          sum = refl;
          moved = r.moved;
        },
        omega (arith, all, within),
      )

-- the piece that was noted is carried
module _ (by : List Reduction) (file : List ℕ) (m : MovieSeen) (tree : FileTree) (o : IsOpenedAs file m tree) (walks : List Walk) (k count n : ℕ) (h : MayAllFinish by file tree m k count walks n) where
  pub all_carried : (now : Walk) (old new : ℕ) → ((t : TrackTree) (own : ℕ) → MayFinish h.by file tree m count t h.walk own → WritesOn file tree m t own now old new) → AllWriteOn file tree m n (slice_set walks k now) old new
  all_carried now old new carries =
      let on = carries h.t h.own h.may in
      let all = h.sum in
      let within = on.2 in
      (on.0 + h.others, h.moved now on.0 on.1, omega (arith, all, within))

  pub all_carried_most : (old new : ℕ) → ((t : TrackTree) (own : ℕ) → MayFinish h.by file tree m count t h.walk own → new ≤ old + own) → new ≤ old + n
  all_carried_most old new most =
      let within = most h.t h.own h.may in
      let all = h.sum in
      omega (arith, all, within)

  -- it has no samples
  pub none_carried : (old : ℕ) → IsWalkOf m h.walk → count ≡ 0 → AllWriteOn file tree m n walks old old
  none_carried old i none =
      let on = writes_none file m tree o h.t h.by count h.walk h.own h.may i none in
      let within = none_within file m tree o h.t h.by count h.walk h.own h.may i old in
      let all = h.sum in
      let rest : ℕ = 2 * h.may.now + again_steps h.may.may.earlier h.may.may.later in
      (rest + h.others, subst (λ (ws : List Walk). MayAllWrite file tree m ws (rest + h.others)) (set_same walks k h.walk h.is_walk) (h.moved h.walk rest on), omega (arith, all, within))
