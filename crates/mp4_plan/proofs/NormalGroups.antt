-- The `sbgp`s of pieces that were written keep the rules.
use Rattle.std.proofs.Common.{◌≡◌, ℕ, suc, zero, ◌<◌, ◌≤◌, Bool, true, false, cond, eqb, leb, List, [], ◌∷◌, ◌++◌, length, take, Option, Some, None, refl, sym, ap, subst, ◌∙◌, append_assoc, arith, IsTrue, length-append}
use Rattle.std.specs.Prelude.{map, not, ◌||◌, ◌==◌, nat_le}
use Rattle.std.specs.List.{AllByRecursion, AllZip, list_any, list_all, slice_get}
use Rattle.std.proofs.lemmas.Bool.{le-leb, ne_eqb, eqb-true, and_from, or_from}
use Rattle.std.proofs.lemmas.List.{append-nil, length-map}
use Rattle.mp4_boxes.proofs.Among.{all_append}
use Rattle.mp4_boxes.proofs.Each.{each_kept, each_weaker}
use Rattle.mp4_tables.specs.format.Repeated.{total}
use Rattle.mp4_tables.specs.format.Groups.{GroupRule, one_of_key, few_keys, index_range, group_counts, GroupKey, Grouping, key_rank, same_key, index_at, keys_with, keys_after, keeps, group_test, max_index, max_keys}
use Rattle.mp4_tables.proofs.NamedKeys.{IsAmong, few_with}
use Rattle.mp4_frag.specs.format.FragmentSamples.{Part, part_samples, parts_for, AreGrouped}
use Rattle.mp4_content.specs.format.TimedSamples.{TimedSample}
use Rattle.mp4_plan.specs.format.Pieces.{Piece}
use Rattle.mp4_plan.specs.format.Normal.{piece_keys, longest_runs}
use Rattle.mp4_plan.specs.format.PieceLaws.{pieces_for}
use Rattle.mp4_plan.proofs.Maps.{KeysAbove}
use Rattle.mp4_plan.proofs.KeyOrder.{AreRising, order_rises}
use Rattle.mp4_plan.proofs.WrittenGroups.{grouped_by, indexes_at, total_runs, values_in_runs}
use Rattle.mp4_plan.proofs.WrittenFragment.{HasGroups, keys_in, indexes_within}
use Rattle.mp4_plan.proofs.PieceSays.{Spells}
use Rattle.mp4_plan.proofs.GoodPieces.{IsWritableSample, NamesAmong, keys_named}
use Rattle.mp4_frag.proofs.NamesKept.{keys_with-append}

-- ---- a rule for each of a list

-- the rule is kept by each, behind those before it
abbrev KeepsAll : GroupRule → ℕ → List GroupKey → List Grouping → List Grouping → Type 0
KeepsAll rule n keys before [] = Unit {0}
KeepsAll rule n keys before (g ∷ groupings) = (keeps rule n keys before g ≡ true) × KeepsAll rule n keys (before ++ g ∷ []) groupings

-- the test of the one that is there
abbrev passing : GroupRule → ℕ → List GroupKey → List Grouping → Option Grouping → Bool
passing rule n keys before None = true
passing rule n keys before (Some g) = keeps rule n keys before g

-- a rule that is kept by each is kept at each place
tested : (rule : GroupRule) (n : ℕ) (keys : List GroupKey) (before groupings : List Grouping) → KeepsAll rule n keys before groupings → (k : ℕ) → passing rule n keys (before ++ take k groupings) (slice_get groupings k) ≡ true
tested rule n keys before [] h k = refl
tested rule n keys before (g ∷ groupings) h zero = subst (λ (l : List Grouping). keeps rule n keys l g ≡ true) (sym (append-nil before)) h.0
tested rule n keys before (g ∷ groupings) h (suc k) =
    subst (λ (l : List Grouping). passing rule n keys l (slice_get groupings k) ≡ true) (append_assoc before (g ∷ []) (take k groupings)) (tested rule n keys (before ++ g ∷ []) groupings h.1 k)

-- the test at a place
test_is : (rule : GroupRule) (n : ℕ) (keys : List GroupKey) (groupings : List Grouping) (k : ℕ) → group_test rule n keys groupings k ≡ passing rule n keys (take k groupings) (slice_get groupings k)
test_is rule n keys groupings k = refl

-- so the test passes at each place
kept_by_all : (rule : GroupRule) (n : ℕ) (keys : List GroupKey) (groupings : List Grouping) → KeepsAll rule n keys [] groupings → (k : ℕ) → IsTrue (group_test rule n keys groupings k)
kept_by_all rule n keys groupings h k = test_is rule n keys groupings k ∙ tested rule n keys [] groupings h k

-- ---- no key twice

-- a key above others is none of them
none_before : (key : GroupKey) (before : List Grouping) → AllByRecursion (λ (h : Grouping). key_rank h.key < key_rank key) before → list_any (λ (h : Grouping). same_key key h.key) before ≡ false
none_before key [] h = refl
none_before key (g ∷ before) h = or_from (same_key key g.key) (list_any (λ (h : Grouping). same_key key h.key) before) (ne_eqb (key_rank key) (key_rank g.key) (λ e. let l = h.0 in omega arith)) (none_before key before h.1)

-- what is below all keys is below the first
first_above : (key : GroupKey) (keys : List GroupKey) (before : List Grouping) → AllByRecursion (λ (h : Grouping). KeysAbove h.key (key ∷ keys)) before → AllByRecursion (λ (h : Grouping). key_rank h.key < key_rank key) before
first_above key keys [] h = tt
first_above key keys (g ∷ before) h = (h.0.0, first_above key keys before h.1)

-- and below the rest
rest_above : (key : GroupKey) (keys : List GroupKey) (before : List Grouping) → AllByRecursion (λ (h : Grouping). KeysAbove h.key (key ∷ keys)) before → AllByRecursion (λ (h : Grouping). KeysAbove h.key keys) before
rest_above key keys [] h = tt
rest_above key keys (g ∷ before) h = (h.0.1, rest_above key keys before h.1)

-- keys that rise are each there once
one_each : (n : ℕ) (named : List GroupKey) (samples : List TimedSample) (before : List Grouping) (keys : List GroupKey) → AreRising keys → AllByRecursion (λ (h : Grouping). KeysAbove h.key keys) before
    → KeepsAll one_of_key n named before (map (grouped_by samples) keys)
one_each n named samples before [] r a = tt
one_each n named samples before (key ∷ keys) r a = (
  ap not (none_before key before (first_above key keys before a)),
  one_each n named samples (before ++ grouped_by samples key ∷ []) keys r.1 (all_append (λ (h : Grouping). KeysAbove h.key keys) before (grouped_by samples key ∷ []) (rest_above key keys before a) (r.0, tt)),
)

-- ---- few keys

-- a list with one more of at most four had not four
few_by : (named : List GroupKey) (key : GroupKey) (v : Bool) → length (cond v named (named ++ key ∷ [])) ≤ 4 → v || not (length named == max_keys) ≡ true
few_by named key true le = refl
few_by named key false le =
    let long = length-append named (key ∷ []) in
    let ne : eqb (length named) 4 ≡ false = ne_eqb (length named) 4 (λ e. omega arith) in
    ap not ne

-- one more key of those that are few is not the fifth
not_fifth : (all more before : List GroupKey) (key : GroupKey) → length all ≤ 4 → AllByRecursion (IsAmong all) more → AllByRecursion (IsAmong all) before → IsAmong all key
    → list_any (same_key key) (keys_with (keys_with [] more) before) || not (length (keys_with (keys_with [] more) before) == max_keys) ≡ true
not_fifth all more before key few h k a =
    let named = keys_with (keys_with [] more) before in
    let listed = more ++ (before ++ key ∷ []) in
    let within = few_with [] listed all tt tt (all_append (IsAmong all) more (before ++ key ∷ []) h (all_append (IsAmong all) before (key ∷ []) k (a, tt))) in
    let same : keys_with [] listed ≡ keys_with named (key ∷ []) = keys_with-append [] more (before ++ key ∷ []) ∙ keys_with-append (keys_with [] more) before (key ∷ []) in
    few_by named key (list_any (same_key key) named) (subst (λ (n : ℕ). n ≤ 4) (ap (λ (l : List GroupKey). length l) same) (omega arith))

-- the keys of groupings
keys_of_groupings : (samples : List TimedSample) (keys : List GroupKey) → map (λ (g : Grouping). g.key) (map (grouped_by samples) keys) ≡ keys
keys_of_groupings samples [] = refl
keys_of_groupings samples (key ∷ keys) = ap (λ (l : List GroupKey). key ∷ l) (keys_of_groupings samples keys)

-- those of two lists joined
keys-append : (xs ys : List Grouping) → map (λ (g : Grouping). g.key) (xs ++ ys) ≡ map (λ (g : Grouping). g.key) xs ++ map (λ (g : Grouping). g.key) ys
keys-append [] ys = refl
keys-append (x ∷ xs) ys = ap (λ (l : List GroupKey). x.key ∷ l) (keys-append xs ys)

-- none is a fifth key
few_each : (n : ℕ) (all more : List GroupKey) (samples : List TimedSample) (before : List Grouping) (keys : List GroupKey) → length all ≤ 4 → AllByRecursion (IsAmong all) more
    → AllByRecursion (IsAmong all) (map (λ (g : Grouping). g.key) before) → AllByRecursion (IsAmong all) keys → KeepsAll few_keys n (keys_with [] more) before (map (grouped_by samples) keys)
few_each n all more samples before [] few h k a = tt
few_each n all more samples before (key ∷ keys) few h k a =
    let next = subst (λ (l : List GroupKey). AllByRecursion (IsAmong all) l) (sym (keys-append before (grouped_by samples key ∷ []))) (all_append (IsAmong all) (map (λ (g : Grouping). g.key) before) (key ∷ []) k (a.0, tt)) in (
      not_fifth all more (map (λ (g : Grouping). g.key) before) key few h k a.0,
      few_each n all more samples (before ++ grouped_by samples key ∷ []) keys few h next a.1,
    )

-- ---- indexes and counts

-- indexes that are in range pass the test
rows_in_range : (rows : List (ℕ × ℕ)) → AllByRecursion (λ (row : ℕ × ℕ). row.1 ≤ max_index) rows → list_all (λ (row : ℕ × ℕ). nat_le row.1 max_index) rows ≡ true
rows_in_range [] h = refl
rows_in_range (row ∷ rows) h = and_from (leb row.1 max_index) (list_all (λ (row : ℕ × ℕ). nat_le row.1 max_index) rows) (le-leb row.1 max_index h.0) (rows_in_range rows h.1)

-- indexes are in range
range_each : (n : ℕ) (named : List GroupKey) (samples : List TimedSample) (before : List Grouping) (keys : List GroupKey) → AllByRecursion HasGroups samples → KeepsAll index_range n named before (map (grouped_by samples) keys)
range_each n named samples before [] h = tt
range_each n named samples before (key ∷ keys) h = (
  rows_in_range (longest_runs (indexes_at samples key)) (values_in_runs (λ index. index ≤ max_index) (indexes_at samples key) (indexes_within samples key h)),
  range_each n named samples (before ++ grouped_by samples key ∷ []) keys h,
)

-- no rows are left behind the last sample
counts_each : (n : ℕ) (named : List GroupKey) (samples : List TimedSample) (before : List Grouping) (keys : List GroupKey) → n ≡ length samples → KeepsAll group_counts n named before (map (grouped_by samples) keys)
counts_each n named samples before [] e = tt
counts_each n named samples before (key ∷ keys) e =
    let many = length-map samples (λ (s : TimedSample). index_at key s.sample.groups) in
    let runs = total_runs (indexes_at samples key) in (
      le-leb (total (longest_runs (indexes_at samples key))) n (omega arith),
      counts_each n named samples (before ++ grouped_by samples key ∷ []) keys e,
    )

-- ---- the parts of a track

-- the groupings of a piece keep each rule, where the track named these keys before
piece_keeps : (n : ℕ) (all more : List GroupKey) (samples : List TimedSample) → length all ≤ 4 → AllByRecursion (IsAmong all) more → AllByRecursion (IsAmong all) (piece_keys samples) → AllByRecursion HasGroups samples → n ≡ length samples
    → (rule : GroupRule) → KeepsAll rule n (keys_with [] more) [] (map (grouped_by samples) (piece_keys samples))
piece_keeps n all more samples few h a g e one_of_key = one_each n (keys_with [] more) samples [] (piece_keys samples) (order_rises (keys_in samples)) tt
piece_keeps n all more samples few h a g e few_keys = few_each n all more samples [] (piece_keys samples) few h tt a
piece_keeps n all more samples few h a g e index_range = range_each n (keys_with [] more) samples [] (piece_keys samples) g
piece_keeps n all more samples few h a g e group_counts = counts_each n (keys_with [] more) samples [] (piece_keys samples) e

-- The parts that spell pieces whose samples name few keys keep the rules.
pub parts_grouped : (file : List ℕ) (all more : List GroupKey) (parts : List Part) (list : List Piece) → AllZip (Spells file) parts list → length all ≤ 4 → AllByRecursion (IsAmong all) more
    → AllByRecursion (λ (piece : Piece). AllByRecursion (IsWritableSample all) piece.samples) list → AreGrouped (keys_with [] more) parts
parts_grouped file all more [] [] z few h w = tt
parts_grouped file all more [] (piece ∷ list) z few h w = absurd z
parts_grouped file all more (part ∷ parts) [] z few h w = absurd z
parts_grouped file all more (part ∷ parts) (piece ∷ list) z few h w =
    let samples = piece.samples in
    let keys = piece_keys samples in
    let among = keys_named all samples (each_weaker (IsWritableSample all) (λ (s : TimedSample). NamesAmong all s.sample) (λ x y. y.names) samples w.0) in
    let groups = each_weaker (IsWritableSample all) HasGroups (λ x y. y.groups) samples w.0 in
    let n = length (part_samples part) in
    let here = λ (rule : GroupRule) (k : ℕ).
    subst (λ (l : List Grouping). IsTrue (group_test rule n (keys_with [] more) l k)) (sym z.0.groups)
    (kept_by_all rule n (keys_with [] more) (map (grouped_by samples) keys) (piece_keeps n all more samples few h among groups z.0.many rule) k) in
    let next : keys_after (keys_with [] more) part.groups ≡ keys_with [] (more ++ keys) =
    ap (keys_after (keys_with [] more)) z.0.groups ∙ ap (keys_with (keys_with [] more)) (keys_of_groupings samples keys) ∙ sym (keys_with-append [] more keys) in
    (here, subst (λ (l : List GroupKey). AreGrouped l parts) (sym next) (parts_grouped file all (more ++ keys) parts list z.1 few (all_append (IsAmong all) more keys h among) w.1))

-- ---- by tracks

-- by the ID of the first
spells_at : (file : List ℕ) (id : ℕ) (part : Part) (parts : List Part) (piece : Piece) (list : List Piece) (b : Bool) → (piece.id == id) ≡ b → (part.id == id) ≡ b → Spells file part piece
    → AllZip (Spells file) (parts_for id parts) (pieces_for id list) → AllZip (Spells file) (parts_for id (part ∷ parts)) (pieces_for id (piece ∷ list))
spells_at file id part parts piece list true e f says h = rw (e, f) (says, h)
spells_at file id part parts piece list false e f says h = rw (e, f) h

-- The parts of one track spell its pieces.
pub track_spells : (file : List ℕ) (id : ℕ) (parts : List Part) (list : List Piece) → AllZip (Spells file) parts list → AllZip (Spells file) (parts_for id parts) (pieces_for id list)
track_spells file id [] [] h = tt
track_spells file id [] (piece ∷ list) h = absurd h
track_spells file id (part ∷ parts) [] h = absurd h
track_spells file id (part ∷ parts) (piece ∷ list) h = spells_at file id part parts piece list (piece.id == id) refl (ap (λ (n : ℕ). n == id) h.0.says.id) h.0 (track_spells file id parts list h.1)

-- What holds of each piece with its ID holds of those of a track with that of the track.
pub of_track : (P : ℕ → Piece → Type 0) (id : ℕ) (list : List Piece) → AllByRecursion (λ (piece : Piece). P piece.id piece) list → AllByRecursion (λ (piece : Piece). P id piece) (pieces_for id list)
of_track P id list h =
    each_weaker (λ (piece : Piece). P piece.id piece × ((piece.id == id) ≡ true)) (λ (piece : Piece). P id piece) (λ piece k. subst (λ (n : ℕ). P n piece) (eqb-true piece.id id k.1) k.0) (pieces_for id list)
    (each_kept (λ (piece : Piece). P piece.id piece) (λ (piece : Piece). piece.id == id) list h)
