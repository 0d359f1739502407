-- The steps of opening a file, of planning and of writing are within the bound.
use Rattle.std.proofs.Common.{◌≡◌, ℕ, zero, suc, ◌+◌, ◌-◌, ◌*◌, ◌≤◌, Bool, true, false, if◌then◌else◌, List, [], ◌∷◌, Some, length, map, refl, sym, ap, subst, ◌∙◌, arith}
use Rattle.std.proofs.Math.Nat.{mul-le-mul_right}
use Rattle.std.specs.List.{AllByRecursion, slice_get}
use Rattle.mp4_boxes.specs.format.Bytes.{sum_of}
use Rattle.mp4_tables.specs.format.TableRules.{Fit}
use Rattle.mp4_tables.specs.format.Tables.{tables_of}
use Rattle.mp4_tables.specs.format.TableRows.{table_rows}
use Rattle.mp4_tables.proofs.Counts.{samples_counted}
use Rattle.mp4_frag.specs.format.Fragments.{Fragment, FragmentTree, IsFragmentTree, fragment_of}
use Rattle.mp4_frag.specs.format.FragmentSamples.{Part, all_parts, parts_of, part_samples}
use Rattle.mp4_frag.specs.format.FragmentRows.{fragment_rows, fragment_length}
use Rattle.mp4_frag.specs.declared.trex.Trex.{Trex}
use Rattle.mp4_frag.proofs.SaidSamples.{tree_said, parts_said}
use Rattle.mp4_head.specs.format.Tree.{TrackTree, IsTrackTree, track_head_of, trexes_of}
use Rattle.mp4_present.specs.format.Denotes.{FileTree, IsFileTree, IsSoundFile, IsConsistent, Denotes, plain_of, surroundings, file_parts, presentation_of}
use Rattle.mp4_present.specs.format.Presentation.{Presentation, sample_total}
use Rattle.mp4_present.specs.format.Stands.{table_total}
use Rattle.mp4_present.specs.words.WalkSteps.{moof_steps, moofs_steps, trafs_steps, table_steps, opening_steps, least_table_steps, least_steps, table_way, walk_steps, walks_steps}
use Rattle.mp4_present.specs.words.SamplesComing.{own_trafs}
use Rattle.mp4_present.proofs.OwnPlaced.{own_steps}
use Rattle.mp4_present.proofs.OwnSums.{owns_few}
use Rattle.mp4_present.proofs.PartsOnce.{parts_once}
use Rattle.mp4_plan.specs.words.WriterSteps.{track_writes, writing_steps}
use Rattle.mp4_present.proofs.Counts.{parts_total, sizes_few, fragments_total, total_is, all_belong}
use Rattle.mp4_answers.specs.format.Steps.{row_total, walked_each}
use Rattle.mp4_tables.proofs.Sums.{sum_joined}

-- ---- sums over tracks

abbrev rows_of : List TrackTree → ℕ
rows_of tracks = sum_of (λ (t : TrackTree). table_rows (tables_of t.table)) tracks

abbrev plain_total : List TrackTree → ℕ
plain_total tracks = sum_of (λ (t : TrackTree). length (plain_of t)) tracks

checks_sum : (tracks : List TrackTree) → sum_of table_steps tracks ≡ 7 * rows_of tracks + 3 * plain_total tracks
unfolding table_steps
checks_sum [] = refl
checks_sum (t ∷ tracks) = let more = checks_sum tracks in omega (arith, more)

leasts_sum : (tracks : List TrackTree) → sum_of least_table_steps tracks ≡ rows_of tracks + 3 * plain_total tracks
unfolding least_table_steps
leasts_sum [] = refl
leasts_sum (t ∷ tracks) = let more = leasts_sum tracks in omega (arith, more)

-- the own `traf`s of each of these tracks
abbrev owns_total : FileTree → List TrackTree → ℕ
owns_total tree tracks = sum_of (λ (t : TrackTree). trafs_steps (own_trafs tree t)) tracks

ways_sum : (tree : FileTree) (tracks : List TrackTree) → sum_of (walk_steps tree) tracks ≡ rows_of tracks + 3 * plain_total tracks + 2 * owns_total tree tracks
unfolding table_way
ways_sum tree [] = refl
ways_sum tree (t ∷ tracks) = let more = ways_sum tree tracks in omega (arith, more)

writes_sum : (tree : FileTree) (tracks : List TrackTree) → sum_of (track_writes tree) tracks ≡ 2 * sum_of (walk_steps tree) tracks + 2 * owns_total tree tracks
writes_sum tree [] = refl
writes_sum tree (t ∷ tracks) = let more = writes_sum tree tracks in omega (arith, more)

plain_counted : (file : List ℕ) (tracks : List TrackTree) → AllByRecursion IsTrackTree tracks → AllByRecursion (λ (t : TrackTree). Fit (surroundings file t) (tables_of t.table)) tracks → plain_total tracks ≡ table_total tracks
plain_counted file [] trees fit = refl
plain_counted file (t ∷ tracks) trees fit = λ i. samples_counted (surroundings file t) t.table (sizes_few trees.0.table) fit.0 i + plain_counted file tracks trees.1 fit.1 i

-- ---- sums over `moof`s

abbrev fragment_rows_of : List FragmentTree → ℕ
fragment_rows_of fragments = sum_of (λ (f : FragmentTree). fragment_rows (fragment_of f)) fragments

one_moof : (f : FragmentTree) → IsFragmentTree f → moof_steps f.moof ≡ fragment_rows (fragment_of f) + fragment_length (fragment_of f)
unfolding moof_steps
one_moof f h = ap (λ (x : Fragment). fragment_rows x + fragment_length x) (sym (tree_said f h))

moofs_sum : (trexes : List Trex) (fragments : List FragmentTree) → AllByRecursion IsFragmentTree fragments → moofs_steps fragments ≡ fragment_rows_of fragments + parts_total (all_parts trexes (map fragment_of fragments))
moofs_sum trexes [] h = refl
moofs_sum trexes (f ∷ fragments) h =
    let own = one_moof f h.0 in
    let others = moofs_sum trexes fragments h.1 in
    let split = sum_joined (λ (q : Part). length (part_samples q)) (parts_of trexes (fragment_of f)) (all_parts trexes (map fragment_of fragments)) in
    let samples = parts_said trexes (fragment_of f) in
    omega (arith, own, others, split, samples)

-- ---- the bound

-- of tracks with so many samples and rows in tables, where each `moof`'s steps are within the other samples and rows, and those of the tracks' own `traf`s within the `moof`s'
-- Where these are so each track is walked over once more.
few_steps : (u v w : Bool) (m o s f r more checks ways writes : ℕ) → o ≤ m → m ≤ f + more → checks ≡ 7 * r + 3 * s → ways ≡ r + 3 * s + 2 * o → writes ≡ 2 * ways + 2 * o
    → (checks + m) + ((if u then ways else 0) + (if v then ways else 0) + (if w then ways else 0) + ways + writes) ≤ (12 + (if u then 3 else 0) + (if v then 3 else 0) + (if w then 3 else 0)) * ((s + f) + (r + more))
few_steps true true true m o s f r more checks ways writes own le c w x = omega (arith, own, le, c, w, x)
few_steps true true false m o s f r more checks ways writes own le c w x = omega (arith, own, le, c, w, x)
few_steps true false true m o s f r more checks ways writes own le c w x = omega (arith, own, le, c, w, x)
few_steps true false false m o s f r more checks ways writes own le c w x = omega (arith, own, le, c, w, x)
few_steps false true true m o s f r more checks ways writes own le c w x = omega (arith, own, le, c, w, x)
few_steps false true false m o s f r more checks ways writes own le c w x = omega (arith, own, le, c, w, x)
few_steps false false true m o s f r more checks ways writes own le c w x = omega (arith, own, le, c, w, x)
few_steps false false false m o s f r more checks ways writes own le c w x = omega (arith, own, le, c, w, x)

-- the steps of opening, planning and writing are within the bound
abbrev pub IsWithin : Bool → Bool → Bool → FileTree → ℕ → Type 0
IsWithin u v w tree samples =
    opening_steps tree + ((if u then walks_steps tree else 0) + (if v then walks_steps tree else 0) + (if w then walks_steps tree else 0) + walks_steps tree + writing_steps tree) ≤ (12 + (if u then 3 else 0) + (if v then 3 else 0) + (if w then 3 else 0)) * (samples + row_total tree)

tree_within : (u v w : Bool) (file : List ℕ) (tree : FileTree) → IsFileTree file tree → IsSoundFile tree → IsConsistent file tree → IsWithin u v w tree (sample_total (presentation_of file tree))
tree_within u v w file tree h s c =
    let tracks = tree.movie.tracks in
    let fragments = tree.fragments in
    let parts = file_parts tree in
    let total : sample_total (presentation_of file tree) ≡ plain_total tracks + fragments_total parts tracks =
    total_is file parts tracks h.movie.tracks c.tables ∙ ap (λ n. n + fragments_total parts tracks) (sym (plain_counted file tracks h.movie.tracks c.tables)) in
    let moofs = moofs_sum (trexes_of tree.movie) fragments h.fragments in
    let known = all_belong tree.movie parts c.known in
    let few : moofs_steps fragments ≤ fragments_total parts tracks + fragment_rows_of fragments = omega (arith, moofs, known) in
    let own = owns_few file tree h s.movie in
    let m = moofs_steps fragments in
    let o = owns_total tree tracks in
    let short = few_steps u v w m o (plain_total tracks) (fragments_total parts tracks) (rows_of tracks) (fragment_rows_of fragments) (sum_of table_steps tracks) (walks_steps tree) (writing_steps tree) own few (checks_sum tracks) (ways_sum tree tracks) (writes_sum tree tracks) in
    subst (λ n. IsWithin u v w tree n) (sym total) short

-- opening a file, planning and writing
pub all_within : (u v w : Bool) (file : List ℕ) (p : Presentation) (d : Denotes file p) → IsWithin u v w d.tree (sample_total p)
all_within u v w file p d = subst (λ (q : Presentation). IsWithin u v w d.tree (sample_total q)) (sym d.says) (tree_within u v w file d.tree d.is_tree d.is_sound d.is_consistent)

-- ---- a look, and a way over one track

way_at : (tracks : List TrackTree) (k : ℕ) (t : TrackTree) → slice_get tracks k ≡ Some t → table_way t ≤ rows_of tracks + 3 * plain_total tracks
unfolding table_way
way_at [] k t is = absurd cc
way_at (y ∷ tracks) zero t is = let same : y ≡ t = cc in let own = ap table_way same in omega (arith, own)
way_at (y ∷ tracks) (suc k) t is = let r = way_at tracks k t is in omega (arith, r)

looked : (m s f r more checks way : ℕ) → m ≤ f + more → checks ≡ 7 * r + 3 * s → way ≤ r + 3 * s + 2 * m → (checks + m) + way ≤ 8 * ((s + f) + (r + more))
looked m s f r more checks way le c w = omega (arith, le, c, w)

tree_looks : (file : List ℕ) (tree : FileTree) (way : ℕ) → way ≤ rows_of tree.movie.tracks + 3 * plain_total tree.movie.tracks + 2 * moofs_steps tree.fragments → IsFileTree file tree → IsConsistent file tree
    → opening_steps tree + way ≤ 8 * (sample_total (presentation_of file tree) + row_total tree)
tree_looks file tree way short h c =
    let tracks = tree.movie.tracks in
    let fragments = tree.fragments in
    let parts = file_parts tree in
    let total : sample_total (presentation_of file tree) ≡ plain_total tracks + fragments_total parts tracks =
    total_is file parts tracks h.movie.tracks c.tables ∙ ap (λ n. n + fragments_total parts tracks) (sym (plain_counted file tracks h.movie.tracks c.tables)) in
    let moofs = moofs_sum (trexes_of tree.movie) fragments h.fragments in
    let known = all_belong tree.movie parts c.known in
    let few : moofs_steps fragments ≤ fragments_total parts tracks + fragment_rows_of fragments = omega (arith, moofs, known) in
    let all = looked (moofs_steps fragments) (plain_total tracks) (fragments_total parts tracks) (rows_of tracks) (fragment_rows_of fragments) (sum_of table_steps tracks) way few (checks_sum tracks) short in
    subst (λ n. opening_steps tree + way ≤ 8 * (n + row_total tree)) (sym total) all

-- opening a file
pub opened_looks : (file : List ℕ) (p : Presentation) (d : Denotes file p) → opening_steps d.tree ≤ 8 * (sample_total p + row_total d.tree)
opened_looks file p d = subst (λ (q : Presentation). opening_steps d.tree ≤ 8 * (sample_total q + row_total d.tree)) (sym d.says) (let all = tree_looks file d.tree 0 (omega arith) d.is_tree d.is_consistent in omega (arith, all))

-- opening a file and a walk over each of its tracks
all_walked : (m o s f r more checks ways : ℕ) → o ≤ m → m ≤ f + more → checks ≡ 7 * r + 3 * s → ways ≡ r + 3 * s + 2 * o → (checks + m) + ways ≤ 8 * ((s + f) + (r + more))
all_walked m o s f r more checks ways own le c w = omega (arith, own, le, c, w)

tree_walks : (file : List ℕ) (tree : FileTree) → IsFileTree file tree → IsSoundFile tree → IsConsistent file tree → opening_steps tree + walks_steps tree ≤ 8 * (sample_total (presentation_of file tree) + row_total tree)
tree_walks file tree h s c =
    let tracks = tree.movie.tracks in
    let fragments = tree.fragments in
    let parts = file_parts tree in
    let total : sample_total (presentation_of file tree) ≡ plain_total tracks + fragments_total parts tracks =
    total_is file parts tracks h.movie.tracks c.tables ∙ ap (λ n. n + fragments_total parts tracks) (sym (plain_counted file tracks h.movie.tracks c.tables)) in
    let moofs = moofs_sum (trexes_of tree.movie) fragments h.fragments in
    let known = all_belong tree.movie parts c.known in
    let few : moofs_steps fragments ≤ fragments_total parts tracks + fragment_rows_of fragments = omega (arith, moofs, known) in
    let all = all_walked (moofs_steps fragments) (owns_total tree tracks) (plain_total tracks) (fragments_total parts tracks) (rows_of tracks) (fragment_rows_of fragments) (sum_of table_steps tracks) (walks_steps tree) (owns_few file tree h s.movie) few (checks_sum tracks) (ways_sum tree tracks) in
    subst (λ n. opening_steps tree + walks_steps tree ≤ 8 * (n + row_total tree)) (sym total) all

pub walks_looks : (file : List ℕ) (p : Presentation) (d : Denotes file p) → opening_steps d.tree + walks_steps d.tree ≤ 8 * (sample_total p + row_total d.tree)
walks_looks file p d = subst (λ (q : Presentation). opening_steps d.tree + walks_steps d.tree ≤ 8 * (sample_total q + row_total d.tree)) (sym d.says) (tree_walks file d.tree d.is_tree d.is_sound d.is_consistent)

-- opening a file and so many walks over each of its tracks, two or more
often_walked : (k m o s f r more checks ways : ℕ) → o ≤ m → m ≤ f + more → checks ≡ 7 * r + 3 * s → ways ≡ r + 3 * s + 2 * o → (checks + m) + (k + 2) * ways ≤ 3 * (k + 2 + 1) * ((s + f) + (r + more))
often_walked k m o s f r more checks ways own le c w =
    let one : ways ≤ 3 * ((s + f) + (r + more)) = omega (arith, own, le, w) in
    let all : ways * k ≤ 3 * ((s + f) + (r + more)) * k = mul-le-mul_right k one in
    omega (arith, own, le, c, w, all)

tree_often : (k : ℕ) (file : List ℕ) (tree : FileTree) → IsFileTree file tree → IsSoundFile tree → IsConsistent file tree → opening_steps tree + (k + 2) * walks_steps tree ≤ 3 * (k + 2 + 1) * (sample_total (presentation_of file tree) + row_total tree)
tree_often k file tree h s c =
    let tracks = tree.movie.tracks in
    let fragments = tree.fragments in
    let parts = file_parts tree in
    let total : sample_total (presentation_of file tree) ≡ plain_total tracks + fragments_total parts tracks =
    total_is file parts tracks h.movie.tracks c.tables ∙ ap (λ n. n + fragments_total parts tracks) (sym (plain_counted file tracks h.movie.tracks c.tables)) in
    let moofs = moofs_sum (trexes_of tree.movie) fragments h.fragments in
    let known = all_belong tree.movie parts c.known in
    let few : moofs_steps fragments ≤ fragments_total parts tracks + fragment_rows_of fragments = omega (arith, moofs, known) in
    let all = often_walked k (moofs_steps fragments) (owns_total tree tracks) (plain_total tracks) (fragments_total parts tracks) (rows_of tracks) (fragment_rows_of fragments) (sum_of table_steps tracks) (walks_steps tree)
    (owns_few file tree h s.movie) few (checks_sum tracks) (ways_sum tree tracks) in
    subst (λ n. opening_steps tree + (k + 2) * walks_steps tree ≤ 3 * (k + 2 + 1) * (n + row_total tree)) (sym total) all

often_looks : (walks : ℕ) → 2 ≤ walks → (file : List ℕ) (p : Presentation) (d : Denotes file p) → opening_steps d.tree + walks * walks_steps d.tree ≤ 3 * (walks + 1) * (sample_total p + row_total d.tree)
often_looks walks two file p d =
    let k = walks - 2 in
    let many : k + 2 ≡ walks = omega (arith, two) in
    let own = subst (λ (q : Presentation). opening_steps d.tree + (k + 2) * walks_steps d.tree ≤ 3 * (k + 2 + 1) * (sample_total q + row_total d.tree)) (sym d.says) (tree_often k file d.tree d.is_tree d.is_sound d.is_consistent) in
    subst (λ n. opening_steps d.tree + n * walks_steps d.tree ≤ 3 * (n + 1) * (sample_total p + row_total d.tree)) many own

-- and however many
pub each_looks : (walks : ℕ) (file : List ℕ) (p : Presentation) (d : Denotes file p) → opening_steps d.tree + walks * walks_steps d.tree ≤ walked_each walks * (sample_total p + row_total d.tree)
each_looks zero file p d = let all = opened_looks file p d in omega (arith, all)
each_looks (suc zero) file p d = let all = walks_looks file p d in omega (arith, all)
each_looks (suc (suc k)) file p d =
    let all = often_looks (suc (suc k)) (omega arith) file p d in
    let more : 3 * (suc (suc k) + 1) ≤ walked_each (suc (suc k)) = omega arith in
    let most = mul-le-mul_right (sample_total p + row_total d.tree) more in
    omega (arith, all, most)

-- opening a file takes at least a step for each sample and row
least_of : (m s f r more leasts few : ℕ) → f ≤ few → m ≡ more + few → leasts ≡ r + 3 * s → (s + f) + (r + more) ≤ leasts + m
least_of m s f r more leasts few le e l = omega (arith, le, e, l)

tree_least : (file : List ℕ) (tree : FileTree) → IsFileTree file tree → IsSoundFile tree → IsConsistent file tree → sample_total (presentation_of file tree) + row_total tree ≤ least_steps tree
tree_least file tree h s c =
    let tracks = tree.movie.tracks in
    let fragments = tree.fragments in
    let parts = file_parts tree in
    let total : sample_total (presentation_of file tree) ≡ plain_total tracks + fragments_total parts tracks =
    total_is file parts tracks h.movie.tracks c.tables ∙ ap (λ n. n + fragments_total parts tracks) (sym (plain_counted file tracks h.movie.tracks c.tables)) in
    let all = least_of (moofs_steps fragments) (plain_total tracks) (fragments_total parts tracks) (rows_of tracks) (fragment_rows_of fragments) (sum_of least_table_steps tracks) (parts_total parts)
    (parts_once tree parts s.movie) (moofs_sum (trexes_of tree.movie) fragments h.fragments) (leasts_sum tracks) in
    subst (λ n. n + row_total tree ≤ least_steps tree) (sym total) all

pub opened_least : (file : List ℕ) (p : Presentation) (d : Denotes file p) → sample_total p + row_total d.tree ≤ least_steps d.tree
opened_least file p d = subst (λ (q : Presentation). sample_total q + row_total d.tree ≤ least_steps d.tree) (sym d.says) (tree_least file d.tree d.is_tree d.is_sound d.is_consistent)

-- opening a file and a walk over one of its tracks
pub walked_looks : (file : List ℕ) (p : Presentation) (d : Denotes file p) (k : ℕ) (t : TrackTree) → slice_get d.tree.movie.tracks k ≡ Some t → opening_steps d.tree + walk_steps d.tree t ≤ 8 * (sample_total p + row_total d.tree)
walked_looks file p d k t is =
    let way = way_at d.tree.movie.tracks k t is in
    let own = own_steps d.tree.movie (track_head_of t).id d.tree.fragments d.is_tree.fragments in
    subst (λ (q : Presentation). opening_steps d.tree + walk_steps d.tree t ≤ 8 * (sample_total q + row_total d.tree)) (sym d.says) (tree_looks file d.tree (walk_steps d.tree t) (omega (arith, way, own)) d.is_tree d.is_consistent)
