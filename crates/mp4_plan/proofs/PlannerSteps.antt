-- A piece that is fed one sample at a time.
use Rattle.std.proofs.Common.{◌≡◌, suc, ◌+◌, List, [], ◌∷◌, length, take, drop, true, false, cond, refl, ap, sym, ◌∙◌, arith}
use Rattle.std.specs.Prelude.{Option, Some, None, slice_get}
use Rattle.std.specs.List.{prefix_len}
use Rattle.mp4_tables.specs.declared.sample.SampleAt.{SampleAt}
use Rattle.mp4_plan.specs.words.Ends.{goes_in}
use Rattle.mp4_plan.specs.declared.gathered.Gathered.{Gathered}
use Rattle.mp4_plan.specs.words.Gathering.{gather, gather_all, Planning, description_in, more_of, piece_fed, samples_after, count_of, planned_of}
use Rattle.mp4_present.proofs.JoinedSamples.{first_of}

-- ---- one sample after the other

pub none_is : (xs : List SampleAt) → None ≡ slice_get xs 0 → xs ≡ []
none_is [] e = refl
none_is (x ∷ xs) e = cc

same_description : (g : Option Gathered) (s : SampleAt) (ss : List SampleAt) → description_in g (s ∷ ss) ≡ description_in g (s ∷ [])
same_description None s ss = refl
same_description (Some g) s ss = refl

kept_description : (g : Option Gathered) (s : SampleAt) (ss : List SampleAt) → description_in (gather g s) ss ≡ description_in g (s ∷ [])
kept_description None s ss = refl
kept_description (Some g) s ss = refl

abbrev with_sample : Planning → SampleAt → Planning
with_sample p s = record { end = p.end; gathered = gather p.gathered s }

-- a sample that goes in
pub more_of_yes : (p : Planning) (s : SampleAt) (ss : List SampleAt) → goes_in p.end (description_in p.gathered (s ∷ [])) s ≡ true → more_of p (s ∷ ss) ≡ suc (more_of (with_sample p s) ss)
unfolding more_of
more_of_yes p s ss goes =
    ap (λ d. prefix_len (goes_in p.end d) (s ∷ ss)) (same_description p.gathered s ss)
    ∙ ap (λ b. cond b (1 + prefix_len (goes_in p.end (description_in p.gathered (s ∷ []))) ss) 0) goes
    ∙ ap (λ d. 1 + prefix_len (goes_in p.end d) ss) (sym (kept_description p.gathered s ss))
    ∙ omega arith

-- a sample that doesn't
pub more_of_no : (p : Planning) (s : SampleAt) (ss : List SampleAt) → goes_in p.end (description_in p.gathered (s ∷ [])) s ≡ false → more_of p (s ∷ ss) ≡ 0
unfolding more_of
more_of_no p s ss stops =
    ap (λ d. prefix_len (goes_in p.end d) (s ∷ ss)) (same_description p.gathered s ss)
    ∙ ap (λ b. cond b (1 + prefix_len (goes_in p.end (description_in p.gathered (s ∷ []))) ss) 0) stops

pub more_of-nil : (p : Planning) → more_of p [] ≡ 0
unfolding more_of
more_of-nil p = refl

pub fed_more : (p q : Planning) (s : SampleAt) (xs : List SampleAt) → Some s ≡ slice_get xs 0 → q ≡ with_sample p s → goes_in p.end (description_in p.gathered (s ∷ [])) s ≡ true → piece_fed q (drop 1 xs) ≡ piece_fed p xs
fed_more p q s xs first is goes =
    let e = first_of xs s first in
    let n = more_of_yes p s (drop 1 xs) goes in
    ap (λ r. piece_fed r (drop 1 xs)) is ∙ sym (ap (piece_fed p) e ∙ ap (λ k. let r : Planning = record { end = p.end; gathered = gather_all p.gathered (take k (s ∷ drop 1 xs)) } in r) n)

pub after_more : (p q : Planning) (s : SampleAt) (xs : List SampleAt) → Some s ≡ slice_get xs 0 → q ≡ with_sample p s → goes_in p.end (description_in p.gathered (s ∷ [])) s ≡ true → samples_after q (drop 1 xs) ≡ samples_after p xs
after_more p q s xs first is goes =
    let e = first_of xs s first in
    let n = more_of_yes p s (drop 1 xs) goes in
    ap (λ r. samples_after r (drop 1 xs)) is ∙ sym (ap (samples_after p) e ∙ ap (λ k. drop k (s ∷ drop 1 xs)) n)

-- nothing goes in
pub fed_none : (p : Planning) (xs : List SampleAt) → more_of p xs ≡ 0 → piece_fed p xs ≡ p
fed_none p xs e = ap (λ k. let r : Planning = record { end = p.end; gathered = gather_all p.gathered (take k xs) } in r) e

pub after_none : (p : Planning) (xs : List SampleAt) → more_of p xs ≡ 0 → samples_after p xs ≡ xs
after_none p xs e = ap (λ k. drop k xs) e

pub closed : (p : Planning) (s : SampleAt) (xs : List SampleAt) → Some s ≡ slice_get xs 0 → goes_in p.end (description_in p.gathered (s ∷ [])) s ≡ false → more_of p xs ≡ 0
closed p s xs first stops = ap (more_of p) (first_of xs s first) ∙ more_of_no p s (drop 1 xs) stops

one_counted : (g : Option Gathered) (s : SampleAt) → count_of (gather g s) ≡ count_of g + 1
one_counted None s = refl
one_counted (Some g) s = refl

pub count_with : (p q : Planning) (s : SampleAt) → q ≡ with_sample p s → count_of q.gathered ≡ count_of p.gathered + 1
count_with p q s e = ap (λ (r : Planning). count_of r.gathered) e ∙ one_counted p.gathered s

-- those that are gathered are counted
pub all_counted : (g : Option Gathered) (samples : List SampleAt) → count_of (gather_all g samples) ≡ count_of g + length samples
all_counted g [] = omega arith
all_counted g (s ∷ samples) = let e = all_counted (gather g s) samples in let one = one_counted g s in omega (arith, e, one)

-- and answered
pub planned_counts : (g : Option Gathered) → (planned_of g).count ≡ count_of g
planned_counts None = refl
planned_counts (Some g) = refl

pub length_rest : (xs ys : List SampleAt) (s : SampleAt) → Some s ≡ slice_get xs 0 → ys ≡ drop 1 xs → length xs ≡ length ys + 1
length_rest [] ys s first e = cc
length_rest (x ∷ xs) ys s first e = let same : length ys ≡ length xs = ap length e in omega arith
