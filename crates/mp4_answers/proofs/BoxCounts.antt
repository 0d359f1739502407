-- How many boxes are free space in a copy, for each name in turn.
use Rattle.std.proofs.Common.{◌≡◌, ℕ, zero, suc, ◌+◌, ◌-◌, ◌^◌, ◌<◌, ◌≤◌, min, List, [], ◌∷◌, ◌++◌, length, take, drop, replicate, slice_index_or, slice_set, Bool, true, false, cond, ◌||◌, Option, None, Some, Ok, refl, sym, ap, subst, ◌∙◌, arith, length-drop}
use Rattle.std.proofs.lemmas.List.{take_all, take-append-le}
use Rattle.std.specs.List.{list_any}
use Rattle.mp4_store.specs.words.Device.{range}
use Rattle.mp4_boxes.specs.format.Box.{header_at}
use Rattle.mp4_boxes.specs.words.View.{top_header_seen}
use Rattle.mp4_boxes.specs.declared.headers.TopHeader.{TopHeader}
use Rattle.mp4_boxes.specs.declared.rule.Rule.{Rule}
use Rattle.mp4_boxes.specs.declared.rule.Rule.TheVariants.{File}
use Rattle.mp4_boxes.proofs.Tiling.{header_is}
use Rattle.mp4_answers.specs.declared.box_names.Name.{Name}
use Rattle.mp4_answers.specs.format.BoxWalk.{rule_inside}
use Rattle.mp4_answers.specs.format.Losses.{is_foreign, is_named_foreign}
use Rattle.mp4_answers.specs.format.StripCounts.{none_of, first_meant, sums, Counts, none, meant, passed, entered}
use Rattle.mp4_answers.specs.format.Strips.{is_top, is_named, means, payload_behind, uuid_at}
use Rattle.mp4_answers.specs.words.CountedBoxes.{count_on, counts_on, CountsOn}
use Rattle.mp4_answers.proofs.StripLaws.{length_payload}
use Rattle.mp4_answers.proofs.StripWalks.{behind_it, its_payload}
use Rattle.mp4_answers.proofs.BoxSpans.{whole_range}

-- ---- counts that go up

pub on_none : (counts : List ℕ) (names : List Name) → counts_on counts (none_of names) ≡ counts
on_none [] names = refl
on_none (c ∷ counts) [] = refl
on_none (c ∷ counts) (n ∷ names) = ap (λ (cs : List ℕ). c ∷ cs) (on_none counts names)

one_on : (c m n : ℕ) → count_on (count_on c m) n ≡ count_on c (m + n)
one_on c zero n = let same : 0 + n ≡ n = omega arith in ap (λ k. count_on c k) (sym same)
one_on c (suc m) zero = let same : suc m + 0 ≡ suc m = omega arith in ap (λ k. count_on c k) (sym same)
one_on c (suc m) (suc n) =
    let same : suc m + suc n ≡ suc (m + suc n) = omega arith in
    let both : min (min (c + suc m) (2 ^ 64 - 1) + suc n) (2 ^ 64 - 1) ≡ min (c + suc (m + suc n)) (2 ^ 64 - 1) = omega arith in
    both ∙ ap (λ k. count_on c k) (sym same)

-- by some, and then by others
pub on_sums : (counts ms ns : List ℕ) → counts_on (counts_on counts ms) ns ≡ counts_on counts (sums ms ns)
on_sums [] ms ns = refl
on_sums (c ∷ counts) [] ns = refl
on_sums (c ∷ counts) (m ∷ ms) [] = refl
on_sums (c ∷ counts) (m ∷ ms) (n ∷ ns) = λ j. one_on c m n j ∷ on_sums counts ms ns j

-- ---- a box is counted for the first name that means it

module _ (rule : Rule) (kind : List ℕ) (uuid : Option (List ℕ)) where
  -- the names before it don't mean it
  abbrev pub NoneBefore : ℕ → List Name → Type 0
  NoneBefore k names = list_any (means rule kind uuid) (take k names) ≡ false

  neither : (a b : Bool) → (a || b) ≡ false → (a ≡ false) × (b ≡ false)
  neither true b e = absurd cc
  neither false b e = (refl, e)

  both : (a b : Bool) → a ≡ false → b ≡ false → (a || b) ≡ false
  both a b e f = rw (e, f) refl

  pub first_counted : (k : ℕ) (names : List Name) (counts : List ℕ) (d : Name) (n : ℕ) → k < length names → k < length counts → means rule kind uuid (slice_index_or names k d) ≡ true → NoneBefore k names
      → n ≡ min (slice_index_or counts k 0 + 1) (2 ^ 64 - 1) → slice_set counts k n ≡ counts_on counts (first_meant rule kind uuid names)
  first_counted k [] counts d n lt few h e is = absurd (omega arith)
  first_counted k (m ∷ names) [] d n lt few h e is = absurd (omega arith)
  first_counted zero (m ∷ names) (c ∷ counts) d n lt few h e is = rw h (λ j. is j ∷ sym (on_none counts names) j)
  first_counted (suc k) (m ∷ names) (c ∷ counts) d n lt few h e is =
      let parts = neither (means rule kind uuid m) (list_any (means rule kind uuid) (take k names)) e in
      rw parts.0 (ap (λ (cs : List ℕ). c ∷ cs) (first_counted k names counts d n (omega arith) (omega arith) h parts.1 is))

  pub none_counted : (k : ℕ) (names : List Name) (counts : List ℕ) → min (length names) (length counts) ≤ k → NoneBefore k names → counts ≡ counts_on counts (first_meant rule kind uuid names)
  none_counted k names [] le e = refl
  none_counted k [] (c ∷ counts) le e = refl
  none_counted zero (n ∷ names) (c ∷ counts) le e = absurd (omega arith)
  none_counted (suc k) (n ∷ names) (c ∷ counts) le e =
      let parts = neither (means rule kind uuid n) (list_any (means rule kind uuid) (take k names)) e in
      rw parts.0 (ap (λ (cs : List ℕ). c ∷ cs) (none_counted k names counts (omega arith) parts.1))

  -- and whether that name is that of foreign boxes
  pub first_foreign : (k : ℕ) (names : List Name) (d : Name) → k < length names → means rule kind uuid (slice_index_or names k d) ≡ true → NoneBefore k names → is_named_foreign rule kind uuid names ≡ is_foreign (slice_index_or names k d)
  first_foreign k [] d lt h e = absurd (omega arith)
  first_foreign zero (n ∷ names) d lt h e = rw h refl
  first_foreign (suc k) (n ∷ names) d lt h e =
      let parts = neither (means rule kind uuid n) (list_any (means rule kind uuid) (take k names)) e in
      rw parts.0 (first_foreign k names d (omega arith) h parts.1)

  pub none_foreign : (k : ℕ) (names : List Name) → length names ≤ k → NoneBefore k names → is_named_foreign rule kind uuid names ≡ false
  none_foreign k [] le e = refl
  none_foreign zero (n ∷ names) le e = absurd (omega arith)
  none_foreign (suc k) (n ∷ names) le e =
      let parts = neither (means rule kind uuid n) (list_any (means rule kind uuid) (take k names)) e in
      rw parts.0 (none_foreign k names (omega arith) parts.1)

-- ---- one more box is walked over

module _ (names : List Name) (rule : Rule) (file : List ℕ) (at end : ℕ) (h : TopHeader) (from : at + h.header ≤ h.end) (to : h.end ≤ end) (read : header_at (is_top rule) (range file at (end - at)) ≡ Ok (top_header_seen at h)) where
  moved : (ns : List ℕ) → Counts names rule (range file h.end (end - h.end)) ns → Counts names rule (drop (h.end - at) (range file at (end - at))) ns
  moved ns x = subst (λ (bs : List ℕ). Counts names rule bs ns) (sym (behind_it file at end h from to)) x

  pub count_meant : (uuid : Option (List ℕ)) → uuid ≡ uuid_at (top_header_seen at h) (range file at (end - at)) → is_named names rule h.kind.0 uuid ≡ true → (ns : List ℕ) → Counts names rule (range file h.end (end - h.end)) ns
      → Counts names rule (range file at (end - at)) (sums (first_meant rule h.kind.0 uuid names) ns)
  count_meant uuid own n ns x =
      meant rule (range file at (end - at)) _ (top_header_seen at h) ns read (subst (λ (u : Option (List ℕ)). is_named names rule h.kind.0 u ≡ true) own n) (moved ns x)
      (ap (λ (u : Option (List ℕ)). sums (first_meant rule h.kind.0 u names) ns) own)

  pub count_passed : (uuid : Option (List ℕ)) → uuid ≡ uuid_at (top_header_seen at h) (range file at (end - at)) → is_named names rule h.kind.0 uuid ≡ false → rule_inside rule h.kind.0 ≡ None → (ns : List ℕ)
      → Counts names rule (range file h.end (end - h.end)) ns → Counts names rule (range file at (end - at)) ns
  count_passed uuid own n i ns x =
      passed rule (range file at (end - at)) ns (top_header_seen at h) read (subst (λ (u : Option (List ℕ)). is_named names rule h.kind.0 u ≡ false) own n) i (moved ns x)

  pub count_entered : (uuid : Option (List ℕ)) → uuid ≡ uuid_at (top_header_seen at h) (range file at (end - at)) → is_named names rule h.kind.0 uuid ≡ false → (inner : Rule) → rule_inside rule h.kind.0 ≡ Some inner → (ms ns : List ℕ)
      → Counts names inner (range file (at + h.header) (h.end - (at + h.header))) ms → Counts names rule (range file h.end (end - h.end)) ns → Counts names rule (range file at (end - at)) (sums ms ns)
  count_entered uuid own n inner i ms ns y x =
      entered rule (range file at (end - at)) _ (top_header_seen at h) inner ms ns read (subst (λ (u : Option (List ℕ)). is_named names rule h.kind.0 u ≡ false) own n) i
      (subst (λ (bs : List ℕ). Counts names inner bs ms) (sym (its_payload file at end h from to)) y) (moved ns x) refl

-- where no bytes are left none is counted
pub count_ends : (names : List Name) (rule : Rule) (file : List ℕ) (at end : ℕ) → end ≤ at → Counts names rule (range file at (end - at)) (none_of names)
count_ends names rule file at end le = let empty : end - at ≡ 0 = omega (arith, le) in none rule (range file at (end - at)) (none_of names) (ap (range file at) empty) refl

-- ---- there are as many counts as names, and no more boxes than bytes

-- of this many, none above a bound
abbrev FitsIn : ℕ → List Name → List ℕ → Type 0
FitsIn most [] [] = Unit {0}
FitsIn most [] (c ∷ cs) = ⊥
FitsIn most (n ∷ names) [] = ⊥
FitsIn most (n ∷ names) (c ∷ cs) = (c ≤ most) × FitsIn most names cs

none_fit : (most : ℕ) (names : List Name) → FitsIn most names (none_of names)
none_fit most [] = tt
none_fit most (n ∷ names) = (omega arith, none_fit most names)

first_fits : (rule : Rule) (kind : List ℕ) (uuid : Option (List ℕ)) (names : List Name) → FitsIn 1 names (first_meant rule kind uuid names)
first_fits rule kind uuid [] = tt
first_fits rule kind uuid (n ∷ names) = by (means rule kind uuid n) (first_fits rule kind uuid names)
  where
    by : (b : Bool) → FitsIn 1 names (first_meant rule kind uuid names) → FitsIn 1 (n ∷ names) (cond b (1 ∷ none_of names) (0 ∷ first_meant rule kind uuid names))
    by true more = (omega arith, none_fit 1 names)
    by false more = (omega arith, more)

sums_fit : (a b most : ℕ) (names : List Name) (ms ns : List ℕ) → a + b ≤ most → FitsIn a names ms → FitsIn b names ns → FitsIn most names (sums ms ns)
sums_fit a b most [] [] [] le x y = tt
sums_fit a b most [] [] (n ∷ ns) le x y = absurd y
sums_fit a b most [] (m ∷ ms) ns le x y = absurd x
sums_fit a b most (k ∷ names) [] ns le x y = absurd x
sums_fit a b most (k ∷ names) (m ∷ ms) [] le x y = absurd y
sums_fit a b most (k ∷ names) (m ∷ ms) (n ∷ ns) le x y = (let p = x.0 in let q = y.0 in omega (arith, le, p, q), sums_fit a b most names ms ns le x.1 y.1)

more_fit : (less most : ℕ) (names : List Name) (ns : List ℕ) → less ≤ most → FitsIn less names ns → FitsIn most names ns
more_fit less most [] [] le x = tt
more_fit less most [] (n ∷ ns) le x = absurd x
more_fit less most (k ∷ names) [] le x = absurd x
more_fit less most (k ∷ names) (n ∷ ns) le x = (let p = x.0 in omega (arith, le, p), more_fit less most names ns le x.1)

pub counts_fit : (names : List Name) (rule : Rule) (bytes counts : List ℕ) → Counts names rule bytes counts → FitsIn (length bytes) names counts
counts_fit names rule bytes counts (none _ _ _ b e) = subst (λ (cs : List ℕ). FitsIn (length bytes) names cs) (sym e) (none_fit (length bytes) names)
counts_fit names rule bytes counts (meant _ _ _ h rest r n x e) =
    let i = header_is (is_top rule) bytes h r in
    let long : 8 ≤ h.length = i.length in
    let from : h.length ≤ h.size = i.inside in
    let to : h.size ≤ length bytes = i.fits in
    let d : length (drop h.size bytes) ≡ length bytes - h.size = length-drop h.size bytes in
    subst (λ (cs : List ℕ). FitsIn (length bytes) names cs) (sym e) (sums_fit 1 (length (drop h.size bytes)) (length bytes) names _ rest (omega (arith, long, from, to, d)) (first_fits rule h.kind (uuid_at h bytes) names) (counts_fit names rule (drop h.size bytes) rest x))
counts_fit names rule bytes counts (passed _ _ _ h r n i x) =
    let d : length (drop h.size bytes) ≡ length bytes - h.size = length-drop h.size bytes in
    more_fit (length (drop h.size bytes)) (length bytes) names counts (omega (arith, d)) (counts_fit names rule (drop h.size bytes) counts x)
counts_fit names rule bytes counts (entered _ _ _ h inner inside rest r n i y x e) =
    let is = header_is (is_top rule) bytes h r in
    let from : h.length ≤ h.size = is.inside in
    let to : h.size ≤ length bytes = is.fits in
    let d : length (drop h.size bytes) ≡ length bytes - h.size = length-drop h.size bytes in
    let p = length_payload bytes h is in
    subst (λ (cs : List ℕ). FitsIn (length bytes) names cs) (sym e)
    (sums_fit (length (payload_behind h bytes)) (length (drop h.size bytes)) (length bytes) names inside rest (omega (arith, from, to, d, p)) (counts_fit names inner (payload_behind h bytes) inside y) (counts_fit names rule (drop h.size bytes) rest x))

-- counts that begin at none
pub from_none : (most : ℕ) (names : List Name) (ns : List ℕ) → most < 2 ^ 64 → FitsIn most names ns → counts_on (replicate (length names) 0) ns ≡ ns
from_none most [] [] lt x = refl
from_none most [] (n ∷ ns) lt x = absurd x
from_none most (k ∷ names) [] lt x = absurd x
from_none most (k ∷ names) (zero ∷ ns) lt x = ap (λ (cs : List ℕ). 0 ∷ cs) (from_none most names ns lt x.1)
from_none most (k ∷ names) (suc n ∷ ns) lt x = let p = x.0 in let own : min (0 + suc n) (2 ^ 64 - 1) ≡ suc n = omega (arith, lt, p) in λ j. own j ∷ from_none most names ns lt x.1 j

fits_length : (most : ℕ) (names : List Name) (ns : List ℕ) → FitsIn most names ns → length ns ≡ length names
fits_length most [] [] x = refl
fits_length most [] (n ∷ ns) x = absurd x
fits_length most (k ∷ names) [] x = absurd x
fits_length most (k ∷ names) (n ∷ ns) x = ap suc (fits_length most names ns x.1)

-- what a slice of a list of counts that began at none has become, in place of the list
pub counts_kept : (names : List Name) (file : List ℕ) (len : ℕ) (before after items : List ℕ) → CountsOn names File 0 (length file) before after file → before ≡ replicate (length names) 0 → len ≡ length names → length file < 2 ^ 64
    → Counts names File file (take len (after ++ drop (length after) items))
counts_kept names file len before after items on begins long small =
    let x : Counts names File file on.0 = subst (λ (bs : List ℕ). Counts names File bs on.0) (whole_range file) on.1 in
    let fit = counts_fit names File file on.0 x in
    let same : after ≡ on.0 = on.2 ∙ ap (λ (cs : List ℕ). counts_on cs on.0) begins ∙ from_none (length file) names on.0 small fit in
    let many : len ≡ length after = long ∙ sym (fits_length (length file) names on.0 fit) ∙ sym (ap length same) in
    let kept : take len (after ++ drop (length after) items) ≡ after =
    take-append-le len after (drop (length after) items) (omega (arith, many)) ∙ take_all len after (omega (arith, many)) in
    subst (λ (cs : List ℕ). Counts names File file cs) (sym (kept ∙ same)) x
