-- The indexes of a sample in each `sbgp`, and those of the samples behind it.
use Rattle.std.proofs.Common.{◌≡◌, ℕ, ◌+◌, ◌≤◌, List, [], ◌∷◌, drop, map, slice_index, refl, ap, ◌∙◌, arith}
use Rattle.std.specs.List.{AllByRecursion}
use Rattle.std.proofs.lemmas.List.{drop-drop, get_or-drop}
use Rattle.mp4_tables.specs.format.Repeated.{repeated}
use Rattle.mp4_tables.specs.words.Rows.{runs_at}
use Rattle.mp4_tables.specs.words.Indexes.{low_half, indexes_in, indexes_coming, AreIndexPlaces}
use Rattle.mp4_tables.specs.words.Accepted.{AreIndexes, HaveGroups, AreGroupPlaces, indexes_here}
use Rattle.mp4_tables.specs.declared.places.RowsAt.{RowsAt}
use Rattle.mp4_tables.specs.declared.places.GroupsAt.{GroupsAt}
use Rattle.mp4_tables.specs.declared.indexes.IndexPlaces.{IndexPlaces}
use Rattle.mp4_tables.proofs.GroupLists.{all_repeated}

-- indexes that fit 16 bits are their low halves
low_same : (xs : List ℕ) → AllByRecursion (λ n. n ≤ 65535) xs → map low_half xs ≡ xs
low_same [] h = refl
low_same (x ∷ xs) h = let own : low_half x ≡ x = omega (arith, h.0) in let more = low_same xs h.1 in λ i. own i ∷ more i

one_here : (payload : List ℕ) (k : ℕ) (r : RowsAt) → AreIndexes (runs_at payload r) → slice_index (drop k (indexes_in payload r)) 0 ≡ slice_index (repeated (runs_at payload r)) k
one_here payload k r h =
    let z : k + 0 ≡ k = omega arith in
    get_or-drop k (indexes_in payload r) 0 0 ∙ ap (slice_index (indexes_in payload r)) z
    ∙ ap (λ xs. slice_index xs k) (low_same (repeated (runs_at payload r)) (all_repeated (λ n. n ≤ 65535) (runs_at payload r) h))

each_here : (payload : List ℕ) (k : ℕ) (rows : List RowsAt) → AllByRecursion (λ (r : RowsAt). AreIndexes (runs_at payload r)) rows
    → map (λ (indexes : List ℕ). slice_index indexes 0) (map (λ (r : RowsAt). drop k (indexes_in payload r)) rows) ≡ map (λ (runs : List (ℕ × ℕ)). slice_index (repeated runs) k) (map (runs_at payload) rows)
each_here payload k [] h = refl
each_here payload k (r ∷ rows) h = let own = one_here payload k r h.0 in let more = each_here payload k rows h.1 in λ i. own i ∷ more i

pub groups_here : (payload : List ℕ) (at : GroupsAt) (p : IndexPlaces) (k : ℕ) (xs : List ℕ) → HaveGroups payload at → AreGroupPlaces payload at p k
    → xs ≡ map (λ (indexes : List ℕ). slice_index indexes 0) (indexes_coming payload at.rows p) → xs ≡ indexes_here payload at k
groups_here payload at p k xs have h e = e ∙ ap (map (λ (indexes : List ℕ). slice_index indexes 0)) h.coming ∙ each_here payload k at.rows.by_key have.indexes

each_next : (payload : List ℕ) (k : ℕ) (rows : List RowsAt) → map (drop 1) (map (λ (r : RowsAt). drop k (indexes_in payload r)) rows) ≡ map (λ (r : RowsAt). drop (k + 1) (indexes_in payload r)) rows
each_next payload k [] = refl
each_next payload k (r ∷ rows) = let own = drop-drop 1 k (indexes_in payload r) in let more = each_next payload k rows in λ i. own i ∷ more i

pub groups_next : (payload : List ℕ) (at : GroupsAt) (p q : IndexPlaces) (k : ℕ) → AreGroupPlaces payload at p k → AreIndexPlaces payload at.rows q
    → indexes_coming payload at.rows q ≡ map (drop 1) (indexes_coming payload at.rows p) → AreGroupPlaces payload at q (k + 1)
groups_next payload at p q k h is e = record { places = is; coming = e ∙ ap (map (drop 1)) h.coming ∙ each_next payload k at.rows.by_key }
