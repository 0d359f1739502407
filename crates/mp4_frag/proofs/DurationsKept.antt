-- How long the samples to come last depends on what they inherit, and not on where the walk has come to in time and in data.
use Rattle.std.proofs.Common.{◌≡◌, ℕ, ◌+◌, ◌≤◌, ◌++◌, Bool, true, false, cond, List, [], ◌∷◌, length, map, drop, zero, suc, refl, sym, subst, ap, ◌∙◌, arith, Option, None}
use Rattle.std.proofs.lemmas.List.{length-map, length-append}
use Rattle.std.specs.Prelude.{codes, bytes_eq, unwrap_or}
use Rattle.mp4_boxes.specs.format.Box.{Box}
use Rattle.mp4_boxes.specs.format.Bytes.{sum_of, width_of}
use Rattle.mp4_boxes.specs.format.Layout.{trun, present, sample_columns}
use Rattle.mp4_tables.proofs.Sums.{sum_joined}
use Rattle.mp4_tables.specs.declared.sample.SampleAt.{SampleAt}
use Rattle.mp4_frag.specs.format.Fragments.{RunRow, run_rows}
use Rattle.mp4_frag.specs.words.Durations.{durations_of, rows_durations, rows_lasting}
use Rattle.mp4_frag.specs.words.Times.{lasting}
use Rattle.mp4_frag.specs.words.Walks.{Reached, can_read, rows_of, rows_here, rows_coming, run_coming, runs_coming, boxes_from, before_run, behind_row, reached, coming}
use Rattle.mp4_frag.specs.declared.heads.Inherited.{Inherited}
use Rattle.mp4_frag.specs.declared.places.TrafPlace.{TrafPlace}
use Rattle.mp4_frag.specs.declared.places.RowPlace.{RowPlace}
use Rattle.mp4_frag.proofs.Comings.{rows_done}

-- what comes behind lasts as long, sample by sample, where the same is inherited
abbrev AlikeBehind : (Reached → List SampleAt) → (Reached → List SampleAt) → Type 0
AlikeBehind m n = (a b : Reached) → a.inherited ≡ b.inherited → durations_of (m a) ≡ durations_of (n b)

-- ---- samples

rows_alike : (rows : List RunRow) (s t : Reached) (first second : Option ℕ) (m n : Reached → List SampleAt) → s.inherited ≡ t.inherited → AlikeBehind m n → durations_of (rows_coming s first rows m) ≡ durations_of (rows_coming t second rows n)
rows_alike [] s t first second m n a f = f s t a
rows_alike (row ∷ rows) s t first second m n a f =
    let more = rows_alike rows (behind_row s row) (behind_row t row) None None m n a f in
    let same = ap (λ (i : Inherited). i.duration) a in
    λ i. unwrap_or row.duration (same i) ∷ more i

either_way : (v : Bool) (ps qs xs ys : List SampleAt) → durations_of ps ≡ durations_of qs → durations_of xs ≡ durations_of ys → durations_of (cond v ps xs) ≡ durations_of (cond v qs ys)
either_way true ps qs xs ys a b = a
either_way false ps qs xs ys a b = b

run_alike : (payload : List ℕ) (s t : Reached) (m n : Reached → List SampleAt) → s.inherited ≡ t.inherited → AlikeBehind m n → durations_of (run_coming s payload m) ≡ durations_of (run_coming t payload n)
run_alike payload s t m n a f = either_way (can_read trun payload) _ _ _ _ (rows_alike (rows_of payload) (before_run s payload) (before_run t payload) _ _ m n a f) (f s t a)

runs_alike : (boxes : List Box) (s t : Reached) → s.inherited ≡ t.inherited → durations_of (runs_coming s boxes) ≡ durations_of (runs_coming t boxes)
runs_alike [] s t a = refl
runs_alike (b ∷ boxes) s t a =
    let more : AlikeBehind (λ u. runs_coming u boxes) (λ u. runs_coming u boxes) = λ c d e. runs_alike boxes c d e in
    either_way (bytes_eq (codes "trun") b.kind) _ _ _ _ (run_alike b.payload s t (λ u. runs_coming u boxes) (λ u. runs_coming u boxes) a more) (more s t a)

-- ---- a run that is left out

rows_left_out : (rows : List RunRow) (s t : Reached) (first : Option ℕ) (m : Reached → List SampleAt) → s.inherited ≡ t.inherited → AlikeBehind m m → durations_of (rows_coming s first rows m) ≡ rows_durations s.inherited.duration rows ++ durations_of (m t)
rows_left_out [] s t first m a f = f s t a
rows_left_out (row ∷ rows) s t first m a f = ap (λ (ns : List ℕ). unwrap_or row.duration s.inherited.duration ∷ ns) (rows_left_out rows (behind_row s row) t None m a f)

pub run_left_out : (payload : List ℕ) (p q : TrafPlace) → q.run.left ≡ 0 → q.next ≡ p.next → q.inherited ≡ p.inherited → durations_of (coming payload p) ≡ rows_durations p.inherited.duration (rows_here payload p.run) ++ durations_of (coming payload q)
unfolding coming
run_left_out payload p q none next inherited =
    let more : Reached → List SampleAt = λ s. runs_coming s (boxes_from payload p.next) in
    let split = rows_left_out (rows_here payload p.run) (reached payload p) (reached payload q) p.run.first_flags more (sym inherited) (λ a b e. runs_alike (boxes_from payload p.next) a b e) in
    let done = rows_done payload q none in
    split ∙ ap (λ (ss : List SampleAt). rows_durations p.inherited.duration (rows_here payload p.run) ++ durations_of ss) ((λ i. runs_coming (reached payload q) (boxes_from payload (sym next i))) ∙ sym done)

-- ---- by numbers

sum_of_mapped : {A : Type 0} (f : A → ℕ) (xs : List A) → sum_of f xs ≡ sum_of (λ (n : ℕ). n) (map f xs)
sum_of_mapped f [] = refl
sum_of_mapped f (x ∷ xs) = ap (λ n. f x + n) (sum_of_mapped f xs)

pub rows_count : (n v bits : ℕ) (bytes : List ℕ) → length (run_rows n v bits bytes) ≡ n
rows_count zero v bits bytes = refl
rows_count (suc n) v bits bytes = ap suc (rows_count n v bits (drop (width_of (present bits sample_columns)) bytes))

-- a run has as many rows as are left
pub rows_left : (payload : List ℕ) (run : RowPlace) → length (rows_here payload run) ≡ run.left
unfolding rows_here
rows_left payload run = rows_count run.left 1 run.bits (drop run.row payload)

pub split_count : (inherited : ℕ) (rows : List RunRow) (before after : List SampleAt) → durations_of before ≡ rows_durations inherited rows ++ durations_of after → length before ≡ length rows + length after
split_count inherited rows before after e =
    sym (length-map before (λ (s : SampleAt). s.duration)) ∙ ap length e ∙ length-append (rows_durations inherited rows) (durations_of after)
    ∙ (λ i. length-map rows (λ (row : RunRow). unwrap_or row.duration inherited) i + length-map after (λ (s : SampleAt). s.duration) i)

pub split_lasting : (inherited : ℕ) (rows : List RunRow) (before after : List SampleAt) → durations_of before ≡ rows_durations inherited rows ++ durations_of after → lasting before ≡ rows_lasting inherited rows + lasting after
split_lasting inherited rows before after e =
    sum_of_mapped (λ (s : SampleAt). s.duration) before ∙ ap (sum_of (λ (n : ℕ). n)) e ∙ sum_joined (λ (n : ℕ). n) (rows_durations inherited rows) (durations_of after)
    ∙ (λ i. sym (sum_of_mapped (λ (row : RunRow). unwrap_or row.duration inherited) rows) i + sym (sum_of_mapped (λ (s : SampleAt). s.duration) after) i)

-- at least those of the rows left are to come
pub as_many : (payload : List ℕ) (p : TrafPlace) → p.run.left ≤ length (coming payload p)
as_many payload p =
    let q : TrafPlace = record p { run = record p.run { left = 0 } } in
    let split = split_count p.inherited.duration (rows_here payload p.run) (coming payload p) (coming payload q) (run_left_out payload p q refl refl refl) in
    omega (arith, split, rows_left payload p.run)

-- What is counted where the rows left of a run are left out, and boxes are passed: so many samples more, and so long.
pub counted_on : (payload bytes : List ℕ) (p q r : TrafPlace) → bytes ≡ payload
    → durations_of (coming bytes p) ≡ rows_durations p.inherited.duration (rows_here bytes p.run) ++ durations_of (coming bytes q) → coming bytes r ≡ coming bytes q
    → (length (coming payload p) ≡ p.run.left + length (coming payload r)) × (lasting (coming payload p) ≡ rows_lasting p.inherited.duration (rows_here bytes p.run) + lasting (coming payload r))
counted_on payload bytes p q r here split on =
    let rows = rows_here bytes p.run in
    let count = split_count p.inherited.duration rows (coming bytes p) (coming bytes q) split in
    let long = split_lasting p.inherited.duration rows (coming bytes p) (coming bytes q) split in
    let counted : length (coming bytes p) ≡ p.run.left + length (coming bytes r) = omega (arith, count, rows_left bytes p.run, ap (λ (ss : List SampleAt). length ss) on) in
    let lasted : lasting (coming bytes p) ≡ rows_lasting p.inherited.duration rows + lasting (coming bytes r) = omega (arith, long, ap lasting on) in (
      subst (λ (b : List ℕ). length (coming b p) ≡ p.run.left + length (coming b r)) here counted,
      subst (λ (b : List ℕ). lasting (coming b p) ≡ rows_lasting p.inherited.duration rows + lasting (coming b r)) here lasted,
    )
