-- The first of some beginnings is found in one pass, and each delay from it.
use Rattle.std.proofs.Common.{◌≡◌, inl, inr, ℕ, zero, suc, ◌+◌, ◌<◌, Bool, true, false, if◌then◌else◌, List, [], ◌∷◌, ◌++◌, length, take, Option, Some, None, refl, sym, ap, subst, ◌∙◌, arith, mul-pos, pos, ◌*ℤ◌}
use Rattle.std.specs.Prelude.{IfSome, int_lt, slice_get, slice_index_or}
use Rattle.std.specs.List.{AllByRecursion}
use Rattle.std.proofs.lemmas.Int.{ints}
use Rattle.mp4_boxes.proofs.Plain.{get_every}
use Rattle.mp4_content.specs.format.LeadIns.{Moment}
use Rattle.mp4_content.specs.format.LeadInsLaws.{Among}
use Rattle.mp4_content.specs.words.Delays.{AllCanBegin, CanBegin, IsFirstOf, earlier_of, is_before, moment_of, moments_in}
use Rattle.mp4_content.specs.declared.delays.Beginning.{Beginning}
use Rattle.mp4_content.proofs.AtPlaces.{taken_next}
use Rattle.mp4_content.proofs.LeadInsMoments.{AtMost, HasScale, all_after, delay_less, delay_more, parts}

-- ---- one before the other

pub before_is : (x y : Moment) → is_before x y ≡ true → AtMost x y
before_is x y h =
    let a = parts x.ticks y.scale in
    let b = parts y.ticks x.scale in
    let e : int_lt (x.ticks *ℤ pos y.scale) (y.ticks *ℤ pos x.scale) ≡ true = h in
    omega (arith, ints, a, b, e)

pub not_before_is : (x y : Moment) → is_before x y ≡ false → AtMost y x
not_before_is x y h =
    let a = parts x.ticks y.scale in
    let b = parts y.ticks x.scale in
    let e : int_lt (x.ticks *ℤ pos y.scale) (y.ticks *ℤ pos x.scale) ≡ false = h in
    omega (arith, ints, a, b, e)

-- ---- the first so far

abbrev pub IsLeast : Moment → List Moment → Type 0
IsLeast m ms = Among m ms × AllByRecursion (AtMost m) ms

abbrev pub IsEarliest : ℕ → List (Option Beginning) → Option Beginning → Type 0
IsEarliest scale found None = moments_in scale found ≡ []
IsEarliest scale found (Some b) = CanBegin b × IsLeast (moment_of scale b) (moments_in scale found)

moments_joined : (s : ℕ) (xs ys : List (Option Beginning)) → moments_in s (xs ++ ys) ≡ moments_in s xs ++ moments_in s ys
moments_joined s [] ys = refl
moments_joined s (None ∷ xs) ys = moments_joined s xs ys
moments_joined s (Some b ∷ xs) ys = ap (λ ms. moment_of s b ∷ ms) (moments_joined s xs ys)

nothing_more : (ms : List Moment) → ms ++ [] ≡ ms
nothing_more [] = refl
nothing_more (m ∷ ms) = ap (λ ns. m ∷ ns) (nothing_more ms)

among_more : (m x : Moment) (ms : List Moment) → Among m ms → Among m (ms ++ x ∷ [])
among_more m x [] h = absurd h
among_more m x (y ∷ ms) (inl e) = inl e
among_more m x (y ∷ ms) (inr h) = inr (among_more m x ms h)

among_last : (x : Moment) (ms : List Moment) → Among x (ms ++ x ∷ [])
among_last x [] = inl refl
among_last x (y ∷ ms) = inr (among_last x ms)

all_more : (m x : Moment) (ms : List Moment) → AtMost m x → AllByRecursion (AtMost m) ms → AllByRecursion (AtMost m) (ms ++ x ∷ [])
all_more m x [] one h = (one, tt)
all_more m x (y ∷ ms) one h = (h.0, all_more m x ms one h.1)

itself : (x : Moment) → AtMost x x
itself x = omega arith

-- with one more
pub earliest_more : (s : ℕ) (bs : List (Option Beginning)) (first one : Option Beginning) → 0 < s → IfSome one CanBegin → IsEarliest s bs first → IsEarliest s (bs ++ one ∷ []) (earlier_of s first one)
earliest_more s bs None None some can h = moments_joined s bs (None ∷ []) ∙ ap (λ ms. ms ++ []) h
earliest_more s bs None (Some x) some can h =
    let is : moments_in s (bs ++ Some x ∷ []) ≡ moment_of s x ∷ [] = moments_joined s bs (Some x ∷ []) ∙ ap (λ ms. ms ++ moment_of s x ∷ []) h in (
      can,
      subst (IsLeast (moment_of s x)) (sym is) (inl refl, (itself (moment_of s x), tt)),
    )
earliest_more s bs (Some b) None some can h =
    let is : moments_in s (bs ++ None ∷ []) ≡ moments_in s bs = moments_joined s bs (None ∷ []) ∙ nothing_more (moments_in s bs) in
    (h.0, subst (IsLeast (moment_of s b)) (sym is) h.1)
earliest_more s bs (Some b) (Some x) some can h = by (is_before (moment_of s x) (moment_of s b)) refl
  where
    ms : List Moment
    ms = moments_in s bs

    is : moments_in s (bs ++ Some x ∷ []) ≡ ms ++ moment_of s x ∷ []
    is = moments_joined s bs (Some x ∷ [])

    by : (t : Bool) → is_before (moment_of s x) (moment_of s b) ≡ t → IsEarliest s (bs ++ Some x ∷ []) (if t then Some x else Some b)
    by true e =
        let less = before_is (moment_of s x) (moment_of s b) e in (
          can,
          subst (IsLeast (moment_of s x)) (sym is)
              (among_last (moment_of s x) ms, all_more (moment_of s x) (moment_of s x) ms (itself (moment_of s x)) (all_after (moment_of s x) (moment_of s b) (mul-pos some h.0.timescale) less ms h.1.1)),
        )
    by false e =
        let less = not_before_is (moment_of s x) (moment_of s b) e in
        (h.0, subst (IsLeast (moment_of s b)) (sym is) (among_more (moment_of s b) (moment_of s x) ms h.1.0, all_more (moment_of s b) (moment_of s x) ms less h.1.1))

-- what stands at a place is what is read there
pub stands_at : {A : Type 0} (xs : List A) (k : ℕ) (d : A) → k < length xs → slice_get xs k ≡ Some (slice_index_or xs k d)
stands_at [] k d lt = absurd (omega (arith, lt))
stands_at (x ∷ xs) zero d lt = refl
stands_at (x ∷ xs) (suc k) d lt = stands_at xs k d (omega (arith, lt))

pub earliest_next : (s : ℕ) (bs : List (Option Beginning)) (k : ℕ) (first d : Option Beginning) → 0 < s → k < length bs → AllCanBegin bs → IsEarliest s (take k bs) first → IsEarliest s (take (k + 1) bs) (earlier_of s first (slice_index_or bs k d))
earliest_next s bs k first d some lt can h =
    let one : Option Beginning = slice_index_or bs k d in
    let is = stands_at bs k d lt in
    subst (λ (xs : List (Option Beginning)). IsEarliest s xs (earlier_of s first one)) (sym (taken_next bs k one is))
    (earliest_more s (take k bs) first one some (get_every (λ (b : Option Beginning). IfSome b CanBegin) bs k one is can) h)

-- ---- delays from it

have_scales : (s : ℕ) → 0 < s → (bs : List (Option Beginning)) → AllCanBegin bs → AllByRecursion HasScale (moments_in s bs)
have_scales s some [] h = tt
have_scales s some (None ∷ bs) h = have_scales s some bs h.1
have_scales s some (Some b ∷ bs) h = (mul-pos some h.0.timescale, have_scales s some bs h.1)

pub is_first : (s : ℕ) (bs : List (Option Beginning)) (first : Option Beginning) → 0 < s → AllCanBegin bs → IsEarliest s bs first → IsFirstOf s bs first
is_first s bs None some can h = h
is_first s bs (Some b) some can h = (
  h.0,
  h.1.0,
  λ y above.
      let less = delay_less y (moment_of s b) (moments_in s bs) above (mul-pos some h.0.timescale) (have_scales s some bs can) h.1.1 in
      let more = delay_more y (moment_of s b) (moments_in s bs) h.1.0 in
      omega (arith, less, more),
)
