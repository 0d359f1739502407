-- A track behind one more part.
use Rattle.std.proofs.Common.{◌≡◌, ℕ, zero, suc, ◌+◌, ◌<◌, ◌==◌, Bool, true, false, cond, List, [], ◌∷◌, ◌++◌, Option, Some, None, length, refl, sym, ap, subst, ◌∙◌, rules, arith, length-append}
use Rattle.std.specs.Prelude.{flat_map, find, not, nat_lt, ◌||◌, if◌then◌else◌, IsTrue, unwrap_or, option_map}
use Rattle.std.proofs.lemmas.Grind.{flat_map-append}
use Rattle.std.proofs.lemmas.Bool.{ltb-false}
use Rattle.std.proofs.lemmas.List.{append-nil}
use Rattle.mp4_tables.specs.format.Groups.{GroupKey, GroupRule, keys_after}
use Rattle.mp4_tables.specs.format.PlainSamples.{PlacedSample}
use Rattle.mp4_frag.specs.declared.trex.Trex.{Trex}
use Rattle.mp4_frag.specs.format.FragmentSamples.{Part, part_samples, has_samples, start_of, duration_of, is_on_time, AreOnTime, has_groups, keys_behind, AreGrouped, bytes_of}
use Rattle.mp4_frag.specs.words.Judged.{TrackSeen, track_behind}
use Rattle.mp4_frag.proofs.RunsTied.{duration-append, bytes-append}
use Rattle.mp4_boxes.proofs.Plain.{or_true}
use Rattle.mp4_present.proofs.FragmentReasons.{start_by}
use Rattle.mp4_tables.proofs.GroupMaps.{after-append}

-- ---- the samples of parts

-- the samples of these parts
abbrev pub samples_of : List Part → List PlacedSample
samples_of parts = flat_map part_samples parts

samples_more : (own : List Part) (part : Part) → samples_of (own ++ part ∷ []) ≡ samples_of own ++ part_samples part
samples_more own part = flat_map-append part_samples own (part ∷ []) ∙ ap (λ ss. samples_of own ++ ss) (append-nil (part_samples part))

pub empty : (xs : List PlacedSample) → length xs ≡ 0 → xs ≡ []
empty [] e = refl
empty (x ∷ xs) e = absurd (omega arith)

has_none : (part : Part) → has_samples part ≡ false → length (part_samples part) ≡ 0
has_none part e = let le = ltb-false 0 (length (part_samples part)) e in omega arith

pub lasts_none : (xs : List PlacedSample) → length xs ≡ 0 → duration_of xs ≡ 0
lasts_none xs e = ap duration_of (empty xs e)

fills_none : (xs : List PlacedSample) → length xs ≡ 0 → bytes_of xs ≡ 0
fills_none xs e = ap bytes_of (empty xs e)

-- ---- the first part with samples

pub find_behind : (own more : List Part) → length (samples_of own) ≡ 0 → find has_samples (own ++ more) ≡ find has_samples more
find_behind [] more e = refl
find_behind (c ∷ own) more e =
    let both = length-append (part_samples c) (samples_of own) in
    let first : length (part_samples c) ≡ 0 = omega arith in
    let none : has_samples c ≡ false = ap (nat_lt 0) first in
    ap (λ v. cond v (Some c) (find has_samples (own ++ more))) none ∙ find_behind own more (omega arith)

pub find_came : (own more : List Part) → 0 < length (samples_of own) → find has_samples (own ++ more) ≡ find has_samples own
find_came [] more h = absurd (omega arith)
find_came (c ∷ own) more h = choice (has_samples c) refl (λ some. find_came own more some)
  where
    choice : (v : Bool) → has_samples c ≡ v → (0 < length (samples_of own) → find has_samples (own ++ more) ≡ find has_samples own)
        → cond (has_samples c) (Some c) (find has_samples (own ++ more)) ≡ cond (has_samples c) (Some c) (find has_samples own)
    choice true e later = ap (λ w. cond w (Some c) (find has_samples (own ++ more))) e ∙ sym (ap (λ w. cond w (Some c) (find has_samples own)) e)
    choice false e later =
        let none = has_none c e in
        let both = length-append (part_samples c) (samples_of own) in
        ap (λ o. cond (has_samples c) (Some c) o) (later (omega arith))

find_other : (own : List Part) (part : Part) → has_samples part ≡ false → find has_samples (own ++ part ∷ []) ≡ find has_samples own
find_other [] part e = ap (λ v. cond v (Some part) None) e
find_other (c ∷ own) part e = ap (λ o. cond (has_samples c) (Some c) o) (find_other own part e)

-- ---- when a track starts

abbrev pub says_time : Part → ℕ
says_time part = unwrap_or part.decode_time 0

one_starts : (part : Part) → has_samples part ≡ true → start_of [] (part ∷ []) ≡ says_time part
one_starts part e = rw e refl

pub start_first : (plain : List PlacedSample) (own : List Part) (part : Part) → length (plain ++ samples_of own) ≡ 0 → has_samples part ≡ true → start_of plain (own ++ part ∷ []) ≡ says_time part
start_first [] own part e h = start_by [] (own ++ part ∷ []) (part ∷ []) (find_behind own (part ∷ []) e) ∙ one_starts part h
start_first (s ∷ plain) own part e h = absurd (omega arith)

pub start_came : (plain : List PlacedSample) (own : List Part) (part : Part) → 0 < length (plain ++ samples_of own) → start_of plain (own ++ part ∷ []) ≡ start_of plain own
start_came [] own part h = start_by [] (own ++ part ∷ []) own (find_came own (part ∷ []) h)
start_came (s ∷ plain) own part h = refl

start_other : (plain : List PlacedSample) (own : List Part) (part : Part) → has_samples part ≡ false → start_of plain (own ++ part ∷ []) ≡ start_of plain own
start_other plain own part e = start_by plain (own ++ part ∷ []) own (find_other own part e)

-- ---- keys

keys_more : (keys : List GroupKey) (own : List Part) (part : Part) → keys_after (keys_behind keys own) part.groups ≡ keys_behind keys (own ++ part ∷ [])
keys_more keys own part =
    sym (ap (keys_after keys) (flat_map-append (λ (p : Part). p.groups) own (part ∷ []) ∙ ap (λ gs. flat_map (λ (p : Part). p.groups) own ++ gs) (append-nil part.groups))
    ∙ after-append keys (flat_map (λ (p : Part). p.groups) own) part.groups)

-- ---- the track

-- a track of these plain samples and keys, behind parts of its own
abbrev pub seen_after : ℕ → ℕ → Option Trex → List PlacedSample → List GroupKey → List Part → TrackSeen
seen_after id descriptions trex plain keys own = record {
  id = id;
  descriptions = descriptions;
  trex = trex;
  start = start_of plain own;
  count = length (plain ++ samples_of own);
  time = start_of plain own + duration_of plain + duration_of (samples_of own);
  bytes = bytes_of plain + bytes_of (samples_of own);
  keys = keys_behind keys own;
}

first_choice : (v : Bool) (x y : TrackSeen) → v ≡ true → cond v x y ≡ x
first_choice v x y e = ap (λ w. cond w x y) e

other_choice : (v : Bool) (x y : TrackSeen) → v ≡ false → cond v x y ≡ y
other_choice v x y e = ap (λ w. cond w x y) e

pub at_none : (n a b : ℕ) → n ≡ 0 → (if n == 0 then a else b) ≡ a
at_none n a b e = ap (λ m. if m == 0 then a else b) e

pub at_some : (n a b : ℕ) → 0 < n → (if n == 0 then a else b) ≡ b
at_some zero a b h = absurd (omega arith)
at_some (suc n) a b h = ap (λ v. cond v a b) (let other : (suc n == 0) ≡ false = search rules in other)

module _ (id descriptions : ℕ) (trex : Option Trex) (plain : List PlacedSample) (keys : List GroupKey) (own : List Part) (part : Part) where
  count_more : length (plain ++ samples_of own) + length (part_samples part) ≡ length (plain ++ samples_of (own ++ part ∷ []))
  count_more =
      let a = length-append plain (samples_of own) in
      let b = length-append plain (samples_of (own ++ part ∷ [])) in
      let c = ap (λ ss. length ss) (samples_more own part) in
      let d = length-append (samples_of own) (part_samples part) in
      omega (arith, a, b, c, d)

  lasts_more : duration_of (samples_of (own ++ part ∷ [])) ≡ duration_of (samples_of own) + duration_of (part_samples part)
  lasts_more = ap duration_of (samples_more own part) ∙ duration-append (samples_of own) (part_samples part)

  bytes_more : (bytes_of plain + bytes_of (samples_of own)) + bytes_of (part_samples part) ≡ bytes_of plain + bytes_of (samples_of (own ++ part ∷ []))
  bytes_more = let joined = ap bytes_of (samples_more own part) ∙ bytes-append (samples_of own) (part_samples part) in omega (arith, joined)

  -- the first samples of the track
  first_more : has_samples part ≡ true → length (plain ++ samples_of own) ≡ 0
      → track_behind (seen_after id descriptions trex plain keys own) part ≡ seen_after id descriptions trex plain keys (own ++ part ∷ [])
  first_more e z =
      let starts = start_first plain own part z e in
      let both = length-append plain (samples_of own) in
      let no_plain = lasts_none plain (omega (arith, both, z)) in
      let no_own = lasts_none (samples_of own) (omega (arith, both, z)) in
      let before = start_of plain own + duration_of plain + duration_of (samples_of own) in
      let when = at_none (length (plain ++ samples_of own)) (says_time part) before z in
      first_choice (has_samples part) _ _ e
      ∙ (λ i. record {
        id = id;
        descriptions = descriptions;
        trex = trex;
        start = (at_none (length (plain ++ samples_of own)) (says_time part) (start_of plain own) z ∙ sym starts) i;
        count = count_more i;
        time = timely when starts no_plain no_own i;
        bytes = bytes_more i;
        keys = keys_more keys own part i;
      })
    where
      timely : {a : ℕ} → a ≡ says_time part → start_of plain (own ++ part ∷ []) ≡ says_time part → duration_of plain ≡ 0 → duration_of (samples_of own) ≡ 0
          → a + duration_of (part_samples part) ≡ start_of plain (own ++ part ∷ []) + duration_of plain + duration_of (samples_of (own ++ part ∷ []))
      timely h k n m = omega (arith, h, k, n, m, lasts_more)

  -- later ones
  later_more : has_samples part ≡ true → 0 < length (plain ++ samples_of own)
      → track_behind (seen_after id descriptions trex plain keys own) part ≡ seen_after id descriptions trex plain keys (own ++ part ∷ [])
  later_more e s =
      let starts = start_came plain own part s in
      let before = start_of plain own + duration_of plain + duration_of (samples_of own) in
      let when = at_some (length (plain ++ samples_of own)) (says_time part) before s in
      first_choice (has_samples part) _ _ e
      ∙ (λ i. record {
        id = id;
        descriptions = descriptions;
        trex = trex;
        start = (at_some (length (plain ++ samples_of own)) (says_time part) (start_of plain own) s ∙ sym starts) i;
        count = count_more i;
        time = timely _ when starts i;
        bytes = bytes_more i;
        keys = keys_more keys own part i;
      })
    where
      timely : (a : ℕ) → a ≡ start_of plain own + duration_of plain + duration_of (samples_of own) → start_of plain (own ++ part ∷ []) ≡ start_of plain own
          → a + duration_of (part_samples part) ≡ start_of plain (own ++ part ∷ []) + duration_of plain + duration_of (samples_of (own ++ part ∷ []))
      timely a h k = omega (arith, h, k, lasts_more)

  -- none
  none_more : has_samples part ≡ false → track_behind (seen_after id descriptions trex plain keys own) part ≡ seen_after id descriptions trex plain keys (own ++ part ∷ [])
  none_more e =
      let starts = start_other plain own part e in
      let none = has_none part e in
      let lasts = lasts_none (part_samples part) none in
      other_choice (has_samples part) _ _ e
      ∙ (λ i. record {
        id = id;
        descriptions = descriptions;
        trex = trex;
        start = sym starts i;
        count = counted none i;
        time = timely starts lasts i;
        bytes = filled none i;
        keys = keys_more keys own part i;
      })
    where
      counted : length (part_samples part) ≡ 0 → length (plain ++ samples_of own) ≡ length (plain ++ samples_of (own ++ part ∷ []))
      counted n = omega (arith, n, count_more)

      filled : length (part_samples part) ≡ 0 → bytes_of plain + bytes_of (samples_of own) ≡ bytes_of plain + bytes_of (samples_of (own ++ part ∷ []))
      filled n = let empty = fills_none (part_samples part) n in omega (arith, empty, bytes_more)

      timely : start_of plain (own ++ part ∷ []) ≡ start_of plain own → duration_of (part_samples part) ≡ 0
          → start_of plain own + duration_of plain + duration_of (samples_of own) ≡ start_of plain (own ++ part ∷ []) + duration_of plain + duration_of (samples_of (own ++ part ∷ []))
      timely k n = omega (arith, k, n, lasts_more)

  by_samples : (v : Bool) → has_samples part ≡ v → (n : ℕ) → length (plain ++ samples_of own) ≡ n
      → track_behind (seen_after id descriptions trex plain keys own) part ≡ seen_after id descriptions trex plain keys (own ++ part ∷ [])
  by_samples true e zero n = first_more e n
  by_samples true e (suc m) n = later_more e (omega (arith, n))
  by_samples false e m n = none_more e

-- the track behind one more part of its own
pub track_more : (id descriptions : ℕ) (trex : Option Trex) (plain : List PlacedSample) (keys : List GroupKey) (own : List Part) (part : Part)
    → track_behind (seen_after id descriptions trex plain keys own) part ≡ seen_after id descriptions trex plain keys (own ++ part ∷ [])
track_more id descriptions trex plain keys own part = by_samples id descriptions trex plain keys own part (has_samples part) refl (length (plain ++ samples_of own)) refl

-- ---- what is due

-- one more part whose `sbgp`s keep the rules
pub grouped_more : (keys : List GroupKey) (own : List Part) (part : Part) → AreGrouped keys own → ((rule : GroupRule) (k : ℕ) → IsTrue (has_groups rule (keys_behind keys own) part k)) → AreGrouped keys (own ++ part ∷ [])
grouped_more keys [] part h g = (g, tt)
grouped_more keys (c ∷ own) part h g =
    let joined : keys_behind keys (c ∷ own) ≡ keys_behind (keys_after keys c.groups) own = after-append keys c.groups (flat_map (λ (p : Part). p.groups) own) in
    (h.0, grouped_more (keys_after keys c.groups) own part h.1 (λ rule k. subst (λ ks. IsTrue (has_groups rule ks part k)) joined (g rule k)))

on_time_more : (due : ℕ) (own : List Part) (part : Part) → AreOnTime due own → IsTrue (is_on_time (due + duration_of (samples_of own)) part) → AreOnTime due (own ++ part ∷ [])
on_time_more due [] part h e = let same : due + 0 ≡ due = omega arith in (subst (λ n. IsTrue (is_on_time n part)) same e, tt)
on_time_more due (c ∷ own) part h e =
    let joined = duration-append (part_samples c) (samples_of own) in
    let same : due + duration_of (samples_of (c ∷ own)) ≡ due + duration_of (part_samples c) + duration_of (samples_of own) = omega (arith, joined) in
    (h.0, on_time_more (due + duration_of (part_samples c)) own part h.1 (subst (λ n. IsTrue (is_on_time n part)) same e))

none_late : (due : ℕ) (part : Part) → has_samples part ≡ false → is_on_time due part ≡ true
none_late due part e = ap (λ v. not v || unwrap_or (option_map (λ time. time == due) part.decode_time) true) e

said_time : (o : Option ℕ) (due : ℕ) → due ≡ unwrap_or o 0 → unwrap_or (option_map (λ time. time == due) o) true ≡ true
said_time None due e = refl
said_time (Some time) due e = let same : time ≡ due = sym e in search rules

first_on_time : (due : ℕ) (part : Part) → due ≡ says_time part → is_on_time due part ≡ true
first_on_time due part e = ap (λ v. not (has_samples part) || v) (said_time part.decode_time due e) ∙ or_true (not (has_samples part))

none_on_time : (due : ℕ) (own : List Part) → length (samples_of own) ≡ 0 → AreOnTime due own
none_on_time due [] e = tt
none_on_time due (c ∷ own) e =
    let both = length-append (part_samples c) (samples_of own) in
    let first : length (part_samples c) ≡ 0 = omega arith in
    let none : has_samples c ≡ false = ap (nat_lt 0) first in
    (none_late due c none, none_on_time (due + duration_of (part_samples c)) own (omega arith))

module _ (plain : List PlacedSample) (own : List Part) (part : Part) where
  by_time : (v : Bool) → has_samples part ≡ v → (n : ℕ) → length (plain ++ samples_of own) ≡ n → AreOnTime (start_of plain own + duration_of plain) own
      → (0 < length (plain ++ samples_of own) → IsTrue (is_on_time (start_of plain own + duration_of plain + duration_of (samples_of own)) part))
      → AreOnTime (start_of plain (own ++ part ∷ []) + duration_of plain) (own ++ part ∷ [])
  by_time false e m n h due =
      subst (λ s. AreOnTime (s + duration_of plain) (own ++ part ∷ [])) (sym (start_other plain own part e))
      (on_time_more (start_of plain own + duration_of plain) own part h (none_late (start_of plain own + duration_of plain + duration_of (samples_of own)) part e))
  by_time true e zero n h due =
      let both = length-append plain (samples_of own) in
      let no_plain = lasts_none plain (omega (arith, both, n)) in
      let none : length (samples_of own) ≡ 0 = omega (arith, both, n) in
      let no_own = lasts_none (samples_of own) none in
      let starts = start_first plain own part n e in
      let now : start_of plain (own ++ part ∷ []) + duration_of plain + duration_of (samples_of own) ≡ says_time part = omega (arith, no_plain, no_own, starts) in
      on_time_more (start_of plain (own ++ part ∷ []) + duration_of plain) own part (none_on_time (start_of plain (own ++ part ∷ []) + duration_of plain) own none) (first_on_time _ part now)
  by_time true e (suc m) n h due =
      let some : 0 < length (plain ++ samples_of own) = omega (arith, n) in
      subst (λ s. AreOnTime (s + duration_of plain) (own ++ part ∷ [])) (sym (start_came plain own part some)) (on_time_more (start_of plain own + duration_of plain) own part h (due some))

-- one more part that is on time
pub times_more : (plain : List PlacedSample) (own : List Part) (part : Part) → AreOnTime (start_of plain own + duration_of plain) own
    → (0 < length (plain ++ samples_of own) → IsTrue (is_on_time (start_of plain own + duration_of plain + duration_of (samples_of own)) part))
    → AreOnTime (start_of plain (own ++ part ∷ []) + duration_of plain) (own ++ part ∷ [])
times_more plain own part h due = by_time plain own part (has_samples part) refl (length (plain ++ samples_of own)) refl h due
