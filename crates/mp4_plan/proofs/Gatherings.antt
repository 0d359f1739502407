-- What is gathered of samples is what they have.
use Rattle.std.proofs.Common.{◌≡◌, ℕ, suc, ◌+◌, ◌<◌, List, [], ◌∷◌, ◌++◌, length, Bool, true, false, cond, if◌then◌else◌, refl, ap, sym, subst, ◌∙◌, arith, append_assoc, length-append}
use Rattle.std.specs.Prelude.{slice_index, slice_index_or, Option, Some, None, map, not, ◌||◌, ◌&&◌, ◌==◌, nat_eq}
use Rattle.std.specs.List.{list_all}
use Rattle.std.proofs.lemmas.Bool.{eq-eqb}
use Rattle.std.proofs.lemmas.List.{append-nil}
use Rattle.mp4_boxes.specs.format.Bytes.{sum_of, unsigned}
use Rattle.mp4_boxes.proofs.Plain.{below_four}
use Rattle.mp4_tables.specs.declared.sample.SampleAt.{SampleAt}
use Rattle.mp4_plan.specs.format.Normal.{common, longest_runs, put_run}
use Rattle.mp4_plan.specs.declared.gathered.Gathered.{Gathered}
use Rattle.mp4_plan.specs.declared.gathered.GroupRuns.{GroupRuns}
use Rattle.mp4_plan.specs.words.Gathering.{common_more, runs_first, runs_more, gathered_first, gathered_more, gather_all, no_runs, runs_at, index_of, with_indexes, HaveLast, IsUsed}
use Rattle.mp4_plan.specs.words.PlannerLaws.{SumsUp, indexes}

-- ---- one more number

all_push : (p : ℕ → Bool) (ns : List ℕ) (n : ℕ) → list_all p (ns ++ n ∷ []) ≡ (list_all p ns && p n)
all_push p [] n = by (p n)
  where
    by : (v : Bool) → (v && true) ≡ (true && v)
    by true = refl
    by false = refl
all_push p (m ∷ ns) n = by (p m) (all_push p ns n)
  where
    by : (v : Bool) → list_all p (ns ++ n ∷ []) ≡ (list_all p ns && p n) → (v && list_all p (ns ++ n ∷ [])) ≡ ((v && list_all p ns) && p n)
    by true e = e
    by false e = refl

-- the number that all are, with one more
common_push : (m : ℕ) (ns : List ℕ) (n : ℕ) → common (m ∷ ns ++ n ∷ []) ≡ common_more (common (m ∷ ns)) n
common_push m ns n = rw (all_push (nat_eq m) ns n) (by (list_all (nat_eq m) ns) (nat_eq m n) refl)
  where
    by : (v w : Bool) → nat_eq m n ≡ w → cond (v && w) (Some m) None ≡ common_more (cond v (Some m) None) n
    by true true e = rw e refl
    by true false e = rw e refl
    by false w e = refl

-- the last number, one given where there is none
abbrev last_of : ℕ → List ℕ → ℕ
last_of m [] = m
last_of m (n ∷ ns) = last_of n ns

last_push : (m : ℕ) (ns : List ℕ) (n : ℕ) → last_of m (ns ++ n ∷ []) ≡ n
last_push m [] n = refl
last_push m (x ∷ ns) n = last_push x ns n

-- runs that begin with a value
record BeginsWith (value : ℕ) (rows : List (ℕ × ℕ)) : Type 0 where
  count : ℕ
  more : List (ℕ × ℕ)
  is : rows ≡ (count, value) ∷ more

begins : (value : ℕ) (rows : List (ℕ × ℕ)) → BeginsWith value (put_run value rows)
begins value [] = record { count = 1; more = []; is = refl }
begins value (r ∷ rows) = by (value == r.1) refl
  where
    by : (v : Bool) → (value == r.1) ≡ v → BeginsWith value (cond v ((suc r.0, value) ∷ rows) ((1, value) ∷ r ∷ rows))
    by true e = record { count = suc r.0; more = rows; is = refl }
    by false e = record { count = 1; more = r ∷ rows; is = refl }

-- a value in front of runs that begin with another joins them or not
put_length : (value other : ℕ) (rows : List (ℕ × ℕ)) → BeginsWith other rows → length (put_run value rows) ≡ length rows + (if value == other then 0 else 1)
put_length value other rows b = rw b.is (by (value == other))
  where
    by : (v : Bool) → length {A = ℕ × ℕ} (cond v ((suc b.count, value) ∷ b.more) ((1, value) ∷ (b.count, other) ∷ b.more)) ≡ suc (length b.more) + cond v 0 1
    by true = omega arith
    by false = omega arith

-- the number of runs with one more value behind
runs_push : (m : ℕ) (ns : List ℕ) (n : ℕ) → length (longest_runs (m ∷ ns ++ n ∷ [])) ≡ length (longest_runs (m ∷ ns)) + (if last_of m ns == n then 0 else 1)
runs_push m [] n = by (m == n)
  where
    by : (v : Bool) → length {A = ℕ × ℕ} (cond v ((2, m) ∷ []) ((1, m) ∷ (1, n) ∷ [])) ≡ 1 + cond v 0 1
    by true = omega arith
    by false = omega arith
runs_push m (x ∷ ns) n =
    let a = put_length m x (longest_runs (x ∷ ns ++ n ∷ [])) (begins x (longest_runs (ns ++ n ∷ []))) in
    let b = put_length m x (longest_runs (x ∷ ns)) (begins x (longest_runs ns)) in
    let e = runs_push x ns n in
    omega (arith, a, b, e)

-- ---- one more sample

map_push : (f : SampleAt → ℕ) (xs : List SampleAt) (s : SampleAt) → map f (xs ++ s ∷ []) ≡ map f xs ++ f s ∷ []
map_push f [] s = refl
map_push f (x ∷ xs) s = ap (λ ns. f x ∷ ns) (map_push f xs s)

sum_push : (f : SampleAt → ℕ) (xs : List SampleAt) (s : SampleAt) → sum_of f (xs ++ s ∷ []) ≡ sum_of f xs + f s
sum_push f [] s = omega arith
sum_push f (x ∷ xs) s = let e = sum_push f xs s in omega arith

not_all_push : (p : ℕ → Bool) (ns : List ℕ) (n : ℕ) (v : Bool) → v ≡ not (list_all p ns) → (v || not (p n)) ≡ not (list_all p (ns ++ n ∷ []))
not_all_push p ns n v e = rw (e, all_push p ns n) (by (list_all p ns) (p n))
  where
    by : (a b : Bool) → (not a || not b) ≡ not (a && b)
    by true b = refl
    by false b = refl

offsets_push : (xs : List SampleAt) (s : SampleAt) (v : Bool) → v ≡ not (list_all (λ (t : SampleAt). unsigned 4 t.cto == 0) xs) → (v || not (unsigned 4 s.cto == 0)) ≡ not (list_all (λ (t : SampleAt). unsigned 4 t.cto == 0) (xs ++ s ∷ []))
offsets_push [] s v e = rw e (by (unsigned 4 s.cto == 0))
  where
    by : (b : Bool) → (false || not b) ≡ not (b && true)
    by true = refl
    by false = refl
offsets_push (x ∷ xs) s v e = rw e (by (unsigned 4 x.cto == 0) (offsets_push xs s _ refl))
  where
    by : (b : Bool) → (not (list_all (λ (t : SampleAt). unsigned 4 t.cto == 0) xs) || not (unsigned 4 s.cto == 0)) ≡ not (list_all (λ (t : SampleAt). unsigned 4 t.cto == 0) (xs ++ s ∷ []))
        → (not (b && list_all (λ (t : SampleAt). unsigned 4 t.cto == 0) xs) || not (unsigned 4 s.cto == 0)) ≡ not (b && list_all (λ (t : SampleAt). unsigned 4 t.cto == 0) (xs ++ s ∷ []))
    by true h = h
    by false h = refl

-- what is kept of the rows of one key
record Runs (m : ℕ) (ns : List ℕ) (r : GroupRuns) : Type 0 where
  last : r.last ≡ last_of m ns
  rows : r.rows ≡ length (longest_runs (m ∷ ns))
  used : r.is_used ≡ not (list_all (λ index. index == 0) (m ∷ ns))

one_run : (m : ℕ) → Runs m [] (runs_first m)
one_run m = record { last = refl; rows = refl; used = by (m == 0) }
  where
    by : (b : Bool) → not b ≡ not (b && true)
    by true = refl
    by false = refl

next_rows : (last n rows : ℕ) → (if last == n then rows else rows + 1) ≡ rows + (if last == n then 0 else 1)
next_rows last n rows = by (last == n)
  where
    by : (v : Bool) → cond v rows (rows + 1) ≡ rows + cond v 0 1
    by true = omega arith
    by false = refl

next_run : (m : ℕ) (ns : List ℕ) (r : GroupRuns) (n : ℕ) → Runs m ns r → Runs m (ns ++ n ∷ []) (runs_more r n)
next_run m ns r n h = record {
  last = sym (last_push m ns n);
  rows = next_rows r.last n r.rows ∙ rw (h.rows, h.last) (sym (runs_push m ns n));
  used = not_all_push (λ index. index == 0) (m ∷ ns) n r.is_used h.used;
}

-- what is kept of some samples
record Kept (s : SampleAt) (ss : List SampleAt) (g : Gathered) : Type 0 where
  sums : SumsUp (s ∷ ss) g
  runs : (j : ℕ) → j < 4 → Runs (index_of s j) (indexes j ss) (runs_at g j)

numbers_more : (f : SampleAt → ℕ) (s : SampleAt) (ss : List SampleAt) (t : SampleAt) (c : Option ℕ) → c ≡ common (map f (s ∷ ss)) → common_more c (f t) ≡ common (map f (s ∷ ss ++ t ∷ []))
numbers_more f s ss t c e = ap (λ d. common_more d (f t)) e ∙ sym (common_push (f s) (map f ss) (f t)) ∙ ap common (sym (map_push f (s ∷ ss) t))

sums_of : (s : SampleAt) (ss : List SampleAt) (g : Gathered) → g.count ≡ length (s ∷ ss) → g.bytes ≡ sum_of (λ (x : SampleAt). x.size) (s ∷ ss) → g.duration ≡ common (map (λ (x : SampleAt). x.duration) (s ∷ ss))
    → g.size ≡ common (map (λ (x : SampleAt). x.size) (s ∷ ss)) → g.flags ≡ common (map (λ (x : SampleAt). x.flags) (s ∷ ss)) → g.has_offsets ≡ not (list_all (λ (x : SampleAt). unsigned 4 x.cto == 0) (s ∷ ss))
    → ((j : ℕ) → j < 4 → Runs (index_of s j) (indexes j ss) (runs_at g j)) → Kept s ss g
sums_of s ss g c b d z f o r = record {
  sums = record { count = c; bytes = b; duration = d; size = z; flags = f; has_offsets = o; rows = λ j lt. (r j lt).rows; used = λ j lt. (r j lt).used };
  runs = r;
}

kept_first : (s : SampleAt) → Kept s [] (gathered_first s)
kept_first s = sums_of s [] (gathered_first s) refl (omega arith) refl refl refl (by (unsigned 4 s.cto == 0))
    (below_four (λ j. Runs (index_of s j) [] (runs_at (gathered_first s) j)) (one_run (index_of s 0)) (one_run (index_of s 1)) (one_run (index_of s 2)) (one_run (index_of s 3)))
  where
    by : (b : Bool) → not b ≡ not (b && true)
    by true = refl
    by false = refl

run_on : (s : SampleAt) (ss : List SampleAt) (t : SampleAt) (j : ℕ) (r : GroupRuns) → Runs (index_of s j) (indexes j ss) r → Runs (index_of s j) (indexes j (ss ++ t ∷ [])) (runs_more r (index_of t j))
run_on s ss t j r h = subst (λ (ns : List ℕ). Runs (index_of s j) ns (runs_more r (index_of t j))) (sym (map_push (λ (x : SampleAt). index_of x j) ss t)) (next_run (index_of s j) (indexes j ss) r (index_of t j) h)

kept_more : (s : SampleAt) (ss : List SampleAt) (g : Gathered) (t : SampleAt) → Kept s ss g → Kept s (ss ++ t ∷ []) (gathered_more g t)
kept_more s ss g t k =
    let u = k.sums in
    sums_of s (ss ++ t ∷ []) (gathered_more g t) (omega (arith, u.count, length-append ss (t ∷ []))) (omega (arith, u.bytes, sum_push (λ (x : SampleAt). x.size) (s ∷ ss) t))
    (numbers_more (λ (x : SampleAt). x.duration) s ss t g.duration u.duration) (numbers_more (λ (x : SampleAt). x.size) s ss t g.size u.size) (numbers_more (λ (x : SampleAt). x.flags) s ss t g.flags u.flags)
    (offsets_push (s ∷ ss) t g.has_offsets u.has_offsets)
    (below_four (λ j. Runs (index_of s j) (indexes j (ss ++ t ∷ [])) (runs_at (gathered_more g t) j))
    (run_on s ss t 0 (runs_at g 0) (k.runs 0 (omega arith))) (run_on s ss t 1 (runs_at g 1) (k.runs 1 (omega arith))) (run_on s ss t 2 (runs_at g 2) (k.runs 2 (omega arith))) (run_on s ss t 3 (runs_at g 3) (k.runs 3 (omega arith))))

gather_keeps : (s : SampleAt) (ss : List SampleAt) (g : Gathered) (more : List SampleAt) → Kept s ss g → (h : Gathered) × (gather_all (Some g) more ≡ Some h) × Kept s (ss ++ more) h
gather_keeps s ss g [] k = (g, refl, subst (λ (xs : List SampleAt). Kept s xs g) (sym (append-nil ss)) k)
gather_keeps s ss g (t ∷ more) k =
    let r = gather_keeps s (ss ++ t ∷ []) (gathered_more g t) more (kept_more s ss g t k) in
    (r.0, r.1, subst (λ (xs : List SampleAt). Kept s xs r.0) (append_assoc ss (t ∷ []) more) r.2)

-- What is gathered of samples is what they have.
pub gathering_sums_up : (s : SampleAt) (samples : List SampleAt) → (g : Gathered) × (gather_all None (s ∷ samples) ≡ Some g) × SumsUp (s ∷ samples) g
gathering_sums_up s samples = let r = gather_keeps s [] (gathered_first s) samples (kept_first s) in (r.0, r.1, r.2.sums)

-- ---- the indexes of the last sample once more

-- a list of four is its members
four_of : {A : Type 0} (d : A) (xs : List A) → length xs ≡ 4 → xs ≡ slice_index_or xs 0 d ∷ slice_index_or xs 1 d ∷ slice_index_or xs 2 d ∷ slice_index_or xs 3 d ∷ []
four_of d [] e = absurd (omega (arith, e))
four_of d (a ∷ []) e = absurd (omega (arith, e))
four_of d (a ∷ b ∷ []) e = absurd (omega (arith, e))
four_of d (a ∷ b ∷ c ∷ []) e = absurd (omega (arith, e))
four_of d (a ∷ b ∷ c ∷ x ∷ []) e = refl
four_of d (a ∷ b ∷ c ∷ x ∷ y ∷ xs) e = absurd (omega (arith, e))

-- one more sample with the index of the last one changes nothing
same_index : (runs : GroupRuns) (index : ℕ) → IsUsed runs → runs.last ≡ index → runs_more runs index ≡ runs
same_index runs index used e = λ i. record runs { last = sym e i; rows = rows (runs.last == index) (eq-eqb runs.last index e) i; is_used = some runs.is_used refl i }
  where
    rows : (v : Bool) → v ≡ true → (if v then runs.rows else runs.rows + 1) ≡ runs.rows
    rows true h = refl
    rows false h = absurd cc

    some : (v : Bool) → runs.is_used ≡ v → (v || not (index == 0)) ≡ v
    some true h = refl
    some false h = ap (λ (b : Bool). not b) (eq-eqb index 0 (sym e ∙ used h))

pub same_indexes : (g : Gathered) (next : List ℕ) → HaveLast g.groups g.indexes → length g.groups ≡ 4 → length g.indexes ≡ 4 → length next ≡ 4 → slice_index next 0 ≡ slice_index g.indexes 0 → slice_index next 1 ≡ slice_index g.indexes 1 → slice_index next 2 ≡ slice_index g.indexes 2
    → slice_index next 3 ≡ slice_index g.indexes 3
    → g ≡ with_indexes g next
same_indexes g next h four last_four next_four a b c d =
    let r0 = same_index (runs_at g 0) (slice_index next 0) (h.used 0) (h.first ∙ sym a) in
    let r1 = same_index (runs_at g 1) (slice_index next 1) (h.used 1) (h.second ∙ sym b) in
    let r2 = same_index (runs_at g 2) (slice_index next 2) (h.used 2) (h.third ∙ sym c) in
    let r3 = same_index (runs_at g 3) (slice_index next 3) (h.used 3) (h.fourth ∙ sym d) in
    let groups : g.groups ≡ (with_indexes g next).groups = four_of no_runs g.groups four ∙ (λ i. sym r0 i ∷ sym r1 i ∷ sym r2 i ∷ sym r3 i ∷ []) in
    let same : g.indexes ≡ next = four_of 0 g.indexes last_four ∙ (λ i. sym a i ∷ sym b i ∷ sym c i ∷ sym d i ∷ []) ∙ sym (four_of 0 next next_four) in
    λ i. record g { indexes = same i; groups = groups i }
