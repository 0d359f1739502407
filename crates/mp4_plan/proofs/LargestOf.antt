-- The largest number of a list of tracks: no track has a larger one, and some track has it.
use Rattle.std.proofs.Common.{◌≡◌, ℕ, suc, ◌+◌, ◌-◌, ◌<◌, ◌≤◌, ◌^◌, max, min, List, [], ◌∷◌, refl, arith, inl, inr}
use Rattle.std.specs.Prelude.{◌⊎◌, fold, Contains}
use Rattle.std.specs.List.{AllByRecursion}
use Rattle.std.proofs.lemmas.Bool.{cases_lt}
use Rattle.mp4_boxes.proofs.Each.{each_weaker}
use Rattle.mp4_head.specs.format.Head.{TrackHead}
use Rattle.mp4_head.specs.format.Writing.{next_track_id}
use Rattle.mp4_present.specs.format.Presentation.{track_length}
use Rattle.mp4_plan.specs.format.HeadLaws.{MovieLengthIsLargest, NextTrackIdIsLeast}

-- the largest number, and a first one
abbrev largest : {A : Type 0} → (A → ℕ) → ℕ → List A → ℕ
largest f n xs = fold (λ most x. max most (f x)) n xs

-- the largest is no less than the first number
no_less : {A : Type 0} (f : A → ℕ) (n : ℕ) (xs : List A) → n ≤ largest f n xs
no_less f n [] = omega arith
no_less f n (x ∷ xs) = let rest = no_less f (max n (f x)) xs in omega (arith, rest)

-- no member has a larger one
none_larger : {A : Type 0} (f : A → ℕ) (n : ℕ) (xs : List A) → AllByRecursion (λ x. f x ≤ largest f n xs) xs
none_larger f n [] = tt
none_larger f n (x ∷ xs) = let rest = no_less f (max n (f x)) xs in (omega (arith, rest), none_larger f (max n (f x)) xs)

-- some member has it, or it is the first one
is_reached : {A : Type 0} (f : A → ℕ) (n : ℕ) (xs : List A) → (largest f n xs ≡ n) ⊎ ((x : A) × Contains xs x × (f x ≡ largest f n xs))
is_reached f n [] = inl refl
is_reached f n (x ∷ xs) = elim (is_reached f (max n (f x)) xs) [
  | inl e ↦ elim (cases_lt n (f x)) [
    | inl lt ↦ inr (x, (0, omega arith, refl), omega (arith, e, lt))
    | inr le ↦ inl (omega (arith, e, le))
  ]
  | inr r ↦ inr (r.0, (suc r.1.0, omega (arith, r.1.1), r.1.2), r.2)
]

-- No track is longer than the movie, and the movie has the length of some track, or 0.
pub movie_length_is_largest : MovieLengthIsLargest
movie_length_is_largest p = (none_larger (track_length p.movie.timescale) 0 p.tracks, is_reached (track_length p.movie.timescale) 0 p.tracks)

-- The next track ID is above each ID that leaves room for one above it, fits 32 bits, and is no larger than that takes.
pub next_track_id_is_least : NextTrackIdIsLeast
next_track_id_is_least tracks = (
  each_weaker (λ (t : TrackHead). t.id ≤ largest (λ (u : TrackHead). u.id) 0 tracks) (λ (t : TrackHead). t.id < 2 ^ 32 - 1 → t.id < next_track_id tracks) (λ t le room. above t.id (largest (λ (u : TrackHead). u.id) 0 tracks) le room) tracks
      (none_larger (λ (u : TrackHead). u.id) 0 tracks),
  fits (largest (λ (u : TrackHead). u.id) 0 tracks),
  elim (is_reached (λ (u : TrackHead). u.id) 0 tracks) [
    | inl e ↦ inl (first (largest (λ (u : TrackHead). u.id) 0 tracks) e)
    | inr r ↦ inr (r.0, r.1, taken r.0.id (largest (λ (u : TrackHead). u.id) 0 tracks) r.2)
  ],
)
  where
    above : (id most : ℕ) → id ≤ most → id < 2 ^ 32 - 1 → id < min (most + 1) (2 ^ 32 - 1)
    above id most le room = omega arith

    fits : (most : ℕ) → min (most + 1) (2 ^ 32 - 1) < 2 ^ 32
    fits most = omega arith

    first : (most : ℕ) → most ≡ 0 → min (most + 1) (2 ^ 32 - 1) ≤ 1
    first most e = omega arith

    taken : (id most : ℕ) → id ≡ most → min (most + 1) (2 ^ 32 - 1) ≤ id + 1
    taken id most e = omega arith
