-- The numbers of `stss`, which rise.
use Rattle.std.proofs.Common.{◌≡◌, ◌≢◌, ℕ, ◌+◌, ◌-◌, ◌<◌, ◌≤◌, inl, inr, List, [], ◌∷◌, length, drop, slice_index, nat_le, nat_lt, nat_eq, refl, ap, sym, ◌∙◌, arith, Bool, true, false}
use Rattle.std.specs.Prelude.{◌&&◌, ◌||◌}
use Rattle.std.specs.List.{list_any, list_all}
use Rattle.std.proofs.lemmas.List.{drop_more, drop_all, get_or-drop}
use Rattle.std.proofs.lemmas.Bool.{cases_lt}
use Rattle.std.proofs.lemmas.Bool.Decides.{nat_tests}
use Rattle.mp4_tables.specs.format.TableRules.{is_rising_after, is_sync_order}
use Rattle.mp4_tables.specs.words.Rows.{numbers_at}
use Rattle.mp4_tables.specs.words.TablesComing.{IsSyncPlace}
use Rattle.mp4_tables.specs.declared.places.RowsAt.{RowsAt}
use Rattle.mp4_tables.specs.declared.places.SyncPlace.{SyncPlace}
use Rattle.mp4_tables.proofs.RowLists.{first_left, numbers_all}
use Rattle.mp4_boxes.proofs.Plain.{and_is_true, nat_lt_is, nat_lt_yes}

no_eq : (a b : ℕ) → a < b → nat_eq a b ≡ false
no_eq a b h = grind (arith, nat_tests)

-- numbers that rise after one do not name it
not_named : (i low : ℕ) (ns : List ℕ) → i ≤ low → is_rising_after low ns ≡ true → list_any (nat_eq i) ns ≡ false
not_named i low [] h e = refl
not_named i low (n ∷ ns) h e =
    let parts = and_is_true (nat_lt low n) (is_rising_after n ns) e in
    let up = nat_lt_is low n parts.0 in
    rw (no_eq i n (omega arith)) (not_named i n ns (omega arith) parts.1)

-- the next number in hand, where there is one
in_hand : (named : List ℕ) (p : SyncPlace) (i : ℕ) → IsSyncPlace named p i → p.row < length named → drop p.row named ≡ p.next ∷ drop (p.row + 1) named
in_hand named p i at h = drop_more named p.row 0 h ∙ ap (λ n. n ∷ drop (p.row + 1) named) (sym at.next)

none_in_hand : (named : List ℕ) (p : SyncPlace) (i : ℕ) → IsSyncPlace named p i → length named ≤ p.row → (drop p.row named ≡ []) × (p.next ≡ 0)
none_in_hand named p i at h =
    let none = drop_all p.row named h in
    let z : p.row + 0 ≡ p.row = omega arith in
    (none, at.next ∙ ap (slice_index named) (sym z) ∙ sym (get_or-drop p.row named 0 0) ∙ ap (λ l. slice_index l 0) none)

rising_in_hand : (named : List ℕ) (p : SyncPlace) (i : ℕ) → IsSyncPlace named p i → p.row < length named → (i - 1 < p.next) × (is_rising_after p.next (drop (p.row + 1) named) ≡ true)
rising_in_hand named p i at h =
    let parts = and_is_true (nat_lt (i - 1) p.next) (is_rising_after p.next (drop (p.row + 1) named)) (ap (is_rising_after (i - 1)) (sym (in_hand named p i at h)) ∙ at.rising) in
    (nat_lt_is (i - 1) p.next parts.0, parts.1)

-- it is not, so none is
pub not_sync_here : (named : List ℕ) (p : SyncPlace) (i : ℕ) → IsSyncPlace named p i → 0 < i → p.next ≢ i → list_any (nat_eq i) named ≡ false
not_sync_here named p i at some e = elim (cases_lt p.row (length named)) [
  | inl inside ↦
      let up = rising_in_hand named p i at inside in
      let more : i < p.next = above i p.next e (omega (arith, up.0)) in
      at.same i (omega arith) ∙ ap (list_any (nat_eq i)) (in_hand named p i at inside)
      ∙ ap (λ b. b || list_any (nat_eq i) (drop (p.row + 1) named)) (no_eq i p.next more)
      ∙ not_named i p.next (drop (p.row + 1) named) (omega arith) up.1
  | inr behind ↦ at.same i (omega arith) ∙ ap (list_any (nat_eq i)) (none_in_hand named p i at behind).0
]
  where
    above : (a b : ℕ) → b ≢ a → a ≤ b → a < b
    above a b ne le = omega (arith, ne)

pub sync_kept_last : (named : List ℕ) (p : SyncPlace) (i : ℕ) → IsSyncPlace named p i → 0 < i → length named ≤ p.row → IsSyncPlace named p (i + 1)
sync_kept_last named p i at some h =
    let none = none_in_hand named p i at h in
    record { same = λ j l. at.same j (omega arith); rising = ap (is_rising_after ((i + 1) - 1)) none.0; next = at.next; within = at.within }

-- the next sample: behind the number in hand
pub sync_passed : (named : List ℕ) (p : SyncPlace) (i next : ℕ) → IsSyncPlace named p i → 0 < i → p.next ≡ i → next ≡ slice_index named (p.row + 1) → IsSyncPlace named (record { row = p.row + 1; next = next }) (i + 1)
sync_passed named p i next at some e is = elim (cases_lt p.row (length named)) [
  | inl inside ↦
      let up = rising_in_hand named p i at inside in
      let z : (i + 1) - 1 ≡ p.next = omega arith in
      record {
        same = λ j h. at.same j (omega arith) ∙ ap (list_any (nat_eq j)) (in_hand named p i at inside)
            ∙ ap (λ b. b || list_any (nat_eq j) (drop (p.row + 1) named)) (more_eq j p.next (omega arith));
        rising = ap (λ n. is_rising_after n (drop (p.row + 1) named)) z ∙ up.1;
        next = is;
        within = omega arith;
      }
  | inr behind ↦ let none = none_in_hand named p i at behind in let z = none.1 in absurd (omega arith)
]
  where
    more_eq : (a b : ℕ) → b < a → nat_eq a b ≡ false
    more_eq a b h = grind (arith, nat_tests)

-- or before it still
pub sync_kept : (named : List ℕ) (p : SyncPlace) (i : ℕ) → IsSyncPlace named p i → 0 < i → p.next ≢ i → IsSyncPlace named p (i + 1)
sync_kept named p i at some e = record {
  same = λ j h. at.same j (omega arith);
  rising = elim (cases_lt p.row (length named)) [
    | inl inside ↦
        let up = rising_in_hand named p i at inside in
        let low = up.0 in
        let more : (i + 1) - 1 < p.next = above i p.next e (omega arith) in
        ap (is_rising_after ((i + 1) - 1)) (in_hand named p i at inside) ∙ ap (λ b. b && is_rising_after p.next (drop (p.row + 1) named)) (nat_lt_yes ((i + 1) - 1) p.next more) ∙ up.1
    | inr behind ↦ ap (is_rising_after ((i + 1) - 1)) (none_in_hand named p i at behind).0
  ];
  next = at.next;
  within = at.within;
}
  where
    above : (a b : ℕ) → b ≢ a → a ≤ b → (a + 1) - 1 < b
    above a b ne le = omega (arith, ne)

pub sync_first : (named : List ℕ) (n next : ℕ) → is_sync_order n named ≡ true → next ≡ slice_index named 0 → IsSyncPlace named (record { row = 0; next = next }) 1
sync_first named n next e is = record {
  same = λ j h. refl;
  rising = (and_is_true (is_rising_after 0 named) (list_all (λ i. nat_le i n) named) e).0;
  next = is;
  within = omega arith;
}

-- ---- the order of numbers

-- the numbers from a place on rise, and are at most n
abbrev pub in_order : ℕ → ℕ → List ℕ → Bool
in_order n low ns = is_rising_after low ns && list_all (λ i. nat_le i n) ns

pub swap : (a b c d : Bool) → ((a && b) && (c && d)) ≡ ((a && c) && (b && d))
swap true b true d = refl
swap true true false d = refl
swap true false false d = refl
swap false b c d = refl

pub order_more : (named : List ℕ) (n low k i : ℕ) → drop k named ≡ i ∷ drop (k + 1) named → in_order n low (drop k named) ≡ ((nat_lt low i && nat_le i n) && in_order n i (drop (k + 1) named))
order_more named n low k i e = ap (in_order n low) e ∙ swap (nat_lt low i) (is_rising_after i (drop (k + 1) named)) (nat_le i n) (list_all (λ j. nat_le j n) (drop (k + 1) named))

pub order_all : (payload : List ℕ) (at : RowsAt) (n low k : ℕ) → at.count ≤ k → in_order n low (drop k (numbers_at 4 payload at)) ≡ true
order_all payload at n low k h = ap (in_order n low) (numbers_all 4 payload at k h)

pub ruleset ordering = (order_more, order_all)

-- ---- a number by its row
pub number_is : (payload : List ℕ) (at : RowsAt) (k i : ℕ) → drop k (numbers_at 4 payload at) ≡ i ∷ drop (k + 1) (numbers_at 4 payload at) → i ≡ slice_index (numbers_at 4 payload at) k
number_is payload at k i e = sym (first_left (numbers_at 4 payload at) (drop (k + 1) (numbers_at 4 payload at)) k i e)

pub number_none : (payload : List ℕ) (at : RowsAt) (k : ℕ) → at.count ≤ k → 0 ≡ slice_index (numbers_at 4 payload at) k
number_none payload at k h =
    let z : k + 0 ≡ k = omega arith in
    sym (ap (slice_index (numbers_at 4 payload at)) (sym z) ∙ sym (get_or-drop k (numbers_at 4 payload at) 0 0) ∙ ap (λ l. slice_index l 0) (numbers_all 4 payload at k h))

pub ruleset numbering = (number_is, number_none)
