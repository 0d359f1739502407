-- Tracks as a clause sees them: two lists that look alike.
use Rattle.std.proofs.Common.{◌≡◌, ℕ, zero, suc, ◌==◌, Bool, true, false, cond, List, [], ◌∷◌, map, take, Option, Some, None, refl, sym, ap, ◌∙◌, slice_set}
use Rattle.std.specs.Prelude.{find, option_map, unwrap_or, slice_get}
use Rattle.mp4_frag.specs.words.Walks.{trex_among}
use Rattle.std.proofs.lemmas.Option.{slice_get-map}
use Rattle.mp4_frag.specs.format.FragmentSamples.{Part, has_samples}
use Rattle.mp4_frag.specs.words.Judged.{TrackSeen, track_seen, track_behind}
use Rattle.mp4_frag.specs.declared.state.TrackState.{TrackState}
use Rattle.mp4_frag.specs.declared.trex.Trex.{Trex}
use Rattle.mp4_boxes.proofs.Plain.{some_is}

-- the first value that passes is that of the first whose value passes
pub find_map : {A B : Type 0} (f : A → B) (p : B → Bool) (xs : List A) → find p (map f xs) ≡ option_map f (find (λ x. p (f x)) xs)
find_map f p [] = refl
find_map f p (x ∷ xs) = choice (p (f x)) (find_map f p xs)
  where
    choice : (v : Bool) → find p (map f xs) ≡ option_map f (find (λ x. p (f x)) xs) → cond v (Some (f x)) (find p (map f xs)) ≡ option_map f (cond v (Some x) (find (λ x. p (f x)) xs))
    choice true e = refl
    choice false e = e

take_map : {A B : Type 0} (f : A → B) (n : ℕ) (xs : List A) → take n (map f xs) ≡ map f (take n xs)
take_map f zero xs = refl
take_map f (suc n) [] = refl
take_map f (suc n) (x ∷ xs) = ap (λ ys. f x ∷ ys) (take_map f n xs)

pub found_passes : {A : Type 0} (p : A → Bool) (xs : List A) (x : A) → find p xs ≡ Some x → p x ≡ true
found_passes p [] x e = absurd cc
found_passes p (y ∷ xs) x e = choice (p y) refl e (λ h. found_passes p xs x h)
  where
    choice : (v : Bool) → p y ≡ v → cond v (Some y) (find p xs) ≡ Some x → (find p xs ≡ Some x → p x ≡ true) → p x ≡ true
    choice true h e later = ap p (sym (some_is y x e)) ∙ h
    choice false h e later = later e

-- a track of this ID at a place, and none before it
pub record IsFirst (id : ℕ) (seen : List TrackSeen) (place : ℕ) (now : TrackSeen) : Type 0 where
  pub found : find (λ (s : TrackSeen). s.id == id) seen ≡ Some now
  pub there : slice_get seen place ≡ Some now
  pub first : find (λ (s : TrackSeen). s.id == id) (take place seen) ≡ None

pub first_seen : (id : ℕ) (tracks : List TrackState) (place : ℕ) (t : TrackState) → find (λ (s : TrackState). s.id == id) tracks ≡ Some t → slice_get tracks place ≡ Some t → find (λ (s : TrackState). s.id == id) (take place tracks) ≡ None
    → IsFirst id (map track_seen tracks) place (track_seen t)
first_seen id tracks place t found there first = record {
  found = find_map track_seen (λ (s : TrackSeen). s.id == id) tracks ∙ ap (option_map track_seen) found;
  there = slice_get-map track_seen tracks place ∙ ap (option_map track_seen) there;
  first = ap (find (λ (s : TrackSeen). s.id == id)) (take_map track_seen place tracks) ∙ find_map track_seen (λ (s : TrackSeen). s.id == id) (take place tracks) ∙ ap (option_map track_seen) first;
}

-- such a place is one alone
one_place : (p : TrackSeen → Bool) (seen : List TrackSeen) (j k : ℕ) (x y : TrackSeen) → slice_get seen j ≡ Some x → p x ≡ true → find p (take j seen) ≡ None → slice_get seen k ≡ Some y → p y ≡ true → find p (take k seen) ≡ None → j ≡ k
one_place p [] j k x y a b c d e f = absurd cc
one_place p (s ∷ seen) zero zero x y a b c d e f = refl
one_place p (s ∷ seen) zero (suc k) x y a b c d e f = absurd (hit (p s) (ap p (some_is s x a) ∙ b) f)
  where
    hit : (v : Bool) → v ≡ true → cond v (Some s) (find p (take k seen)) ≡ None → ⊥
    hit true h e = cc
    hit false h e = cc
one_place p (s ∷ seen) (suc j) zero x y a b c d e f = absurd (hit (p s) (ap p (some_is s y d) ∙ e) c)
  where
    hit : (v : Bool) → v ≡ true → cond v (Some s) (find p (take j seen)) ≡ None → ⊥
    hit true h e = cc
    hit false h e = cc
one_place p (s ∷ seen) (suc j) (suc k) x y a b c d e f = ap suc (one_place p seen j k x y a b (later (p s) (take j seen) c) d e (later (p s) (take k seen) f))
  where
    later : (v : Bool) (ts : List TrackSeen) → cond v (Some s) (find p ts) ≡ None → find p ts ≡ None
    later true ts e = absurd cc
    later false ts e = e

pub same_place : (id : ℕ) (seen : List TrackSeen) (j k : ℕ) (x y : TrackSeen) → IsFirst id seen j x → IsFirst id seen k y → j ≡ k
same_place id seen j k x y a b =
    let p = λ (s : TrackSeen). s.id == id in
    one_place p seen j k x y a.there (found_passes p seen x a.found) a.first b.there (found_passes p seen y b.found) b.first

-- a track keeps its ID and its defaults behind a part
kept_choice : (t : TrackSeen) (part : Part) (v : Bool) → has_samples part ≡ v → ((track_behind t part).id ≡ t.id) × ((track_behind t part).trex ≡ t.trex)
kept_choice t part true e = rw e (refl, refl)
kept_choice t part false e = rw e (refl, refl)

-- what the fragments of the track with this ID inherit, as a clause sees it
abbrev seen_trex : ℕ → List TrackSeen → Option Trex
seen_trex id seen = unwrap_or (option_map (λ (s : TrackSeen). s.trex) (find (λ (s : TrackSeen). s.id == id) seen)) None

as_seen : (id : ℕ) (tracks : List TrackState) → trex_among tracks id ≡ seen_trex id (map track_seen tracks)
as_seen id [] = refl
as_seen id (t ∷ tracks) = choice (t.id == id) (as_seen id tracks)
  where
    choice : (v : Bool) → trex_among tracks id ≡ seen_trex id (map track_seen tracks)
        → unwrap_or (option_map (λ (s : TrackState). s.trex) (cond v (Some t) (find (λ (s : TrackState). s.id == id) tracks))) None ≡ unwrap_or (option_map (λ (s : TrackSeen). s.trex) (cond v (Some (track_seen t)) (find (λ (s : TrackSeen). s.id == id) (map track_seen tracks)))) None
    choice true e = refl
    choice false e = e

set_kept : (id : ℕ) (seen : List TrackSeen) (k : ℕ) (s t : TrackSeen) → slice_get seen k ≡ Some s → t.id ≡ s.id → t.trex ≡ s.trex → seen_trex id (slice_set seen k t) ≡ seen_trex id seen
set_kept id [] k s t e i x = absurd cc
set_kept id (r ∷ seen) zero s t e i x =
    let same : r ≡ s = some_is r s e in
    let one : t.id ≡ r.id = i ∙ ap (λ (q : TrackSeen). q.id) (sym same) in
    let own : t.trex ≡ r.trex = x ∙ ap (λ (q : TrackSeen). q.trex) (sym same) in
    first (t.id == id) (r.id == id) (ap (λ n. n == id) one) own
  where
    first : (u v : Bool) → u ≡ v → t.trex ≡ r.trex → unwrap_or (option_map (λ (q : TrackSeen). q.trex) (cond u (Some t) (find (λ (q : TrackSeen). q.id == id) seen))) None ≡ unwrap_or (option_map (λ (q : TrackSeen). q.trex) (cond v (Some r) (find (λ (q : TrackSeen). q.id == id) seen))) None
    first true true a b = b
    first true false a b = absurd cc
    first false true a b = absurd cc
    first false false a b = refl
set_kept id (r ∷ seen) (suc k) s t e i x = later (r.id == id) (set_kept id seen k s t e i x)
  where
    later : (v : Bool) → seen_trex id (slice_set seen k t) ≡ seen_trex id seen
        → unwrap_or (option_map (λ (q : TrackSeen). q.trex) (cond v (Some r) (find (λ (q : TrackSeen). q.id == id) (slice_set seen k t)))) None ≡ unwrap_or (option_map (λ (q : TrackSeen). q.trex) (cond v (Some r) (find (λ (q : TrackSeen). q.id == id) seen))) None
    later true e = refl
    later false e = e

-- it is the same behind a part of the track at a place
pub trex_kept : (id : ℕ) (old new : List TrackState) (place : ℕ) (t : TrackState) (part : Part) → slice_get old place ≡ Some t → map track_seen new ≡ slice_set (map track_seen old) place (track_behind (track_seen t) part)
    → trex_among new id ≡ trex_among old id
trex_kept id old new place t part there moved =
    let same = kept_choice (track_seen t) part (has_samples part) refl in
    as_seen id new ∙ ap (seen_trex id) moved
    ∙ set_kept id (map track_seen old) place (track_seen t) (track_behind (track_seen t) part) (slice_get-map track_seen old place ∙ ap (option_map track_seen) there) same.0 same.1
    ∙ sym (as_seen id old)
