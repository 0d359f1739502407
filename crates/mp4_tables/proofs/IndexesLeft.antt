-- Indexes of samples to come, key by key.
use Rattle.std.proofs.Common.{◌≡◌, ℕ, zero, suc, ◌+◌, ◌<◌, ◌≤◌, ◌∷◌, List, [], length, drop, map, slice_index, slice_index_or, refl, ap, sym, subst, ◌∙◌, arith, Bool, false}
use Rattle.std.specs.Prelude.{slice_set}
use Rattle.std.specs.List.{AllByRecursion, AllZip}
use Rattle.mp4_boxes.specs.format.Bytes.{sum_of}
use Rattle.mp4_tables.specs.words.Rows.{runs_at}
use Rattle.mp4_tables.specs.words.TablesComing.{coming}
use Rattle.mp4_tables.specs.words.Indexes.{low_half, indexes_left, indexes_in, each_left, indexes_coming, IsIndexPlace, AreIndexPlaces, rows_before, rows_passed}
use Rattle.mp4_tables.specs.declared.indexes.IndexRows.{IndexRows}
use Rattle.mp4_tables.specs.declared.indexes.IndexPlaces.{IndexPlaces}
use Rattle.mp4_tables.specs.declared.places.RowsAt.{RowsAt}
use Rattle.mp4_tables.specs.declared.places.RunPlace.{RunPlace}
use Rattle.mp4_tables.proofs.RunLists.{coming_first, coming_start, coming_all}

-- ---- one key

-- before the first row
pub left_start : (payload : List ℕ) (rows : RowsAt) (p : RunPlace) → coming (runs_at payload rows) p ≡ coming (runs_at payload rows) (record { row = 0; left = 0; value = 0 })
    → indexes_left payload rows p ≡ indexes_in payload rows
left_start payload rows p e = ap (map low_half) (e ∙ coming_start (runs_at payload rows) 0 0)

-- the one in hand
pub left_here : (payload : List ℕ) (rows : RowsAt) (p : RunPlace) → 0 < p.left → low_half p.value ≡ slice_index (indexes_left payload rows p) 0
left_here payload rows p h = sym (ap (λ xs. slice_index (map low_half xs) 0) (coming_first (runs_at payload rows) p.row p.left p.value h))

-- none is in hand
pub left_none : (payload : List ℕ) (rows : RowsAt) (p : RunPlace) → IsIndexPlace payload rows p → p.left ≡ 0 → indexes_left payload rows p ≡ []
left_none payload rows p at e = ap (map low_half) (at.settled e)

-- ---- the rows of no key

none_left : (payload : List ℕ) → indexes_left payload (record { place = 0; count = 0 }) (record { row = 0; left = 0; value = 0 }) ≡ []
none_left payload = ap (map low_half) (coming_all payload (record { place = 0; count = 0 }) 0 0 (omega arith))

none_placed : (payload : List ℕ) → IsIndexPlace payload (record { place = 0; count = 0 }) (record { row = 0; left = 0; value = 0 })
none_placed payload = record {
  room = omega arith;
  settled = λ _. coming_all payload (record { place = 0; count = 0 }) 0 0 (omega arith);
  within = omega arith;
}

-- ---- each key

-- rows of one key are others
each_set : (payload : List ℕ) (rows : List RowsAt) (places : List RunPlace) (j : ℕ) (r : RowsAt) (p : RunPlace)
    → each_left payload (slice_set rows j r) (slice_set places j p) ≡ slice_set (each_left payload rows places) j (indexes_left payload r p)
each_set payload [] places j r p = refl
each_set payload (s ∷ rows) [] zero r p = refl
each_set payload (s ∷ rows) [] (suc j) r p = refl
each_set payload (s ∷ rows) (q ∷ places) zero r p = refl
each_set payload (s ∷ rows) (q ∷ places) (suc j) r p = ap (λ xs. indexes_left payload s q ∷ xs) (each_set payload rows places j r p)

placed_set : (payload : List ℕ) (rows : List RowsAt) (places : List RunPlace) (j : ℕ) (r : RowsAt) (p : RunPlace) → AllZip (IsIndexPlace payload) rows places → IsIndexPlace payload r p
    → AllZip (IsIndexPlace payload) (slice_set rows j r) (slice_set places j p)
placed_set payload [] [] j r p h own = tt
placed_set payload [] (q ∷ places) j r p h own = absurd h
placed_set payload (s ∷ rows) [] j r p h own = absurd h
placed_set payload (s ∷ rows) (q ∷ places) zero r p h own = (own, h.1)
placed_set payload (s ∷ rows) (q ∷ places) (suc j) r p h own = (h.0, placed_set payload rows places j r p h.1 own)

-- where none is in hand, no index is to come of any key
ended_next : (payload : List ℕ) (rows : List RowsAt) (places : List RunPlace) → AllZip (IsIndexPlace payload) rows places → AllByRecursion (λ (p : RunPlace). p.left ≡ 0) places
    → each_left payload rows places ≡ map (drop 1) (each_left payload rows places)
ended_next payload [] places h over = refl
ended_next payload (r ∷ rows) [] h over = refl
ended_next payload (r ∷ rows) (p ∷ places) h over =
    let none = left_none payload r p h.0 over.0 in
    rw none (ap (λ xs. [] ∷ xs) (ended_next payload rows places h.1 over.1))

-- the indexes in hand
all_here : (payload : List ℕ) (rows : List RowsAt) (places : List RunPlace) (xs : List ℕ) → AllZip (IsIndexPlace payload) rows places
    → AllZip (λ (p : RunPlace) (x : ℕ). (r : RowsAt) → IsIndexPlace payload r p → x ≡ slice_index (indexes_left payload r p) 0) places xs
    → xs ≡ map (λ (indexes : List ℕ). slice_index indexes 0) (each_left payload rows places)
all_here payload [] [] [] h each = refl
all_here payload [] [] (x ∷ xs) h each = absurd each
all_here payload [] (p ∷ places) xs h each = absurd h
all_here payload (r ∷ rows) [] xs h each = absurd h
all_here payload (r ∷ rows) (p ∷ places) [] h each = absurd each
all_here payload (r ∷ rows) (p ∷ places) (x ∷ xs) h each = rw (each.0 r h.0) (ap (λ ys. slice_index (indexes_left payload r p) 0 ∷ ys) (all_here payload rows places xs h.1 each.1))

-- ---- four keys

-- a list of four members is these
pub four : {A : Type 0} (xs : List A) (d : A) → length xs ≡ 4 → xs ≡ slice_index_or xs 0 d ∷ slice_index_or xs 1 d ∷ slice_index_or xs 2 d ∷ slice_index_or xs 3 d ∷ []
four [] d h = absurd (omega (arith, h))
four (a ∷ []) d h = absurd (omega (arith, h))
four (a ∷ b ∷ []) d h = absurd (omega (arith, h))
four (a ∷ b ∷ c ∷ []) d h = absurd (omega (arith, h))
four (a ∷ b ∷ c ∷ e ∷ []) d h = refl
four (a ∷ b ∷ c ∷ e ∷ f ∷ xs) d h = absurd (omega (arith, h))

pub none_placed_yet : (payload : List ℕ) → AreIndexPlaces payload (record { by_key = record { place = 0; count = 0 } ∷ record { place = 0; count = 0 } ∷ record { place = 0; count = 0 } ∷ record { place = 0; count = 0 } ∷ [] })
    (record { by_key = record { row = 0; left = 0; value = 0 } ∷ record { row = 0; left = 0; value = 0 } ∷ record { row = 0; left = 0; value = 0 } ∷ record { row = 0; left = 0; value = 0 } ∷ []; are_left = false })
none_placed_yet payload = record { each = (none_placed payload, (none_placed payload, (none_placed payload, (none_placed payload, tt)))); over = λ e. (refl, (refl, (refl, (refl, tt)))) }

pub none_coming : (payload : List ℕ) → indexes_coming payload (record { by_key = record { place = 0; count = 0 } ∷ record { place = 0; count = 0 } ∷ record { place = 0; count = 0 } ∷ record { place = 0; count = 0 } ∷ [] })
    (record { by_key = record { row = 0; left = 0; value = 0 } ∷ record { row = 0; left = 0; value = 0 } ∷ record { row = 0; left = 0; value = 0 } ∷ record { row = 0; left = 0; value = 0 } ∷ []; are_left = false }) ≡ [] ∷ [] ∷ [] ∷ [] ∷ []
unfolding indexes_coming
none_coming payload = let e = none_left payload in rw e refl

pub opened_places : (payload : List ℕ) (rows : IndexRows) (places : IndexPlaces) (j : ℕ) (r : RowsAt) (p : RunPlace) (left : Bool) → AreIndexPlaces payload rows places → IsIndexPlace payload r p
    → (left ≡ false → AllByRecursion (λ (q : RunPlace). q.left ≡ 0) (slice_set places.by_key j p))
    → AreIndexPlaces payload (record { by_key = slice_set rows.by_key j r }) (record { by_key = slice_set places.by_key j p; are_left = left })
opened_places payload rows places j r p left h own over = record { each = placed_set payload rows.by_key places.by_key j r p h.each own; over = over }

pub opened_coming : (payload : List ℕ) (rows : IndexRows) (places : IndexPlaces) (j k : ℕ) (r : RowsAt) (p : RunPlace) (left : Bool) (indexes : List ℕ) → j ≡ k → indexes_left payload r p ≡ indexes
    → indexes_coming payload (record { by_key = slice_set rows.by_key j r }) (record { by_key = slice_set places.by_key j p; are_left = left }) ≡ slice_set (indexes_coming payload rows places) k indexes
unfolding indexes_coming
opened_coming payload rows places j k r p left indexes same e = each_set payload rows.by_key places.by_key j r p ∙ ap (slice_set (each_left payload rows.by_key places.by_key) j) e
    ∙ ap (λ n. slice_set (each_left payload rows.by_key places.by_key) n indexes) same

pub over_next : (payload : List ℕ) (rows : IndexRows) (places : IndexPlaces) → AreIndexPlaces payload rows places → places.are_left ≡ false
    → indexes_coming payload rows places ≡ map (drop 1) (indexes_coming payload rows places)
unfolding indexes_coming
over_next payload rows places h over = ended_next payload rows.by_key places.by_key h.each (h.over over)

-- what an index is in hand of a key
abbrev pub IsHere : RunPlace → ℕ → Type 0
IsHere p x = (payload : List ℕ) (r : RowsAt) → IsIndexPlace payload r p → x ≡ slice_index (indexes_left payload r p) 0

pub over_here : (payload : List ℕ) (rows : IndexRows) (places : IndexPlaces) → length places.by_key ≡ 4 → AreIndexPlaces payload rows places → places.are_left ≡ false
    → ◌≡◌ {A = List ℕ} (0 ∷ 0 ∷ 0 ∷ 0 ∷ []) (map (λ (indexes : List ℕ). slice_index indexes 0) (indexes_coming payload rows places))
unfolding indexes_coming
over_here payload rows places n h over = zeros places.by_key n ∙ all_here payload rows.by_key places.by_key (map (λ _. 0) places.by_key) h.each (none_here places.by_key (h.over over))
  where
    zeros : (ps : List RunPlace) → length ps ≡ 4 → ◌≡◌ {A = List ℕ} (0 ∷ 0 ∷ 0 ∷ 0 ∷ []) (map (λ _. 0) ps)
    zeros ps n = ap (map (λ _. 0)) (sym (four ps (record { row = 0; left = 0; value = 0 }) n))

    none_here : (ps : List RunPlace) → AllByRecursion (λ (p : RunPlace). p.left ≡ 0) ps → AllZip (λ (p : RunPlace) (x : ℕ). (r : RowsAt) → IsIndexPlace payload r p → x ≡ slice_index (indexes_left payload r p) 0) ps (map (λ _. 0) ps)
    none_here [] k = tt
    none_here (p ∷ ps) k = (λ r at. ap (λ xs. slice_index xs 0) (sym (left_none payload r p at k.0)), none_here ps k.1)

pub four_here : (payload : List ℕ) (rows : IndexRows) (places : IndexPlaces) (d : RunPlace) (a b c e : ℕ) → length places.by_key ≡ 4 → AreIndexPlaces payload rows places
    → IsHere (slice_index_or places.by_key 0 d) a → IsHere (slice_index_or places.by_key 1 d) b → IsHere (slice_index_or places.by_key 2 d) c → IsHere (slice_index_or places.by_key 3 d) e
    → ◌≡◌ {A = List ℕ} (a ∷ b ∷ c ∷ e ∷ []) (map (λ (indexes : List ℕ). slice_index indexes 0) (indexes_coming payload rows places))
unfolding indexes_coming
four_here payload rows places d a b c e n h p q r s = all_here payload rows.by_key places.by_key (a ∷ b ∷ c ∷ e ∷ []) h.each
    (subst (λ ps. AllZip (λ (p : RunPlace) (x : ℕ). (r : RowsAt) → IsIndexPlace payload r p → x ≡ slice_index (indexes_left payload r p) 0) ps (a ∷ b ∷ c ∷ e ∷ []))
    (sym (four places.by_key d n)) (p payload, (q payload, (r payload, (s payload, tt)))))

-- a place behind the index in hand
abbrev pub IsBehind : List ℕ → RowsAt → RunPlace → RunPlace → Type 0
IsBehind payload r p q = indexes_left payload r q ≡ drop 1 (indexes_left payload r p)

pub four_passed : (payload : List ℕ) (rows : IndexRows) (places : IndexPlaces) (d : RowsAt) (f : RunPlace) (a b c e : RunPlace) (left : Bool) → length rows.by_key ≡ 4 → length places.by_key ≡ 4
    → IsBehind payload (slice_index_or rows.by_key 0 d) (slice_index_or places.by_key 0 f) a → IsBehind payload (slice_index_or rows.by_key 1 d) (slice_index_or places.by_key 1 f) b
    → IsBehind payload (slice_index_or rows.by_key 2 d) (slice_index_or places.by_key 2 f) c → IsBehind payload (slice_index_or rows.by_key 3 d) (slice_index_or places.by_key 3 f) e
    → indexes_coming payload rows (record { by_key = a ∷ b ∷ c ∷ e ∷ []; are_left = left }) ≡ map (drop 1) (indexes_coming payload rows places)
unfolding indexes_coming
four_passed payload rows places d f a b c e left m n p q r s =
    subst (λ rs. each_left payload rs (a ∷ b ∷ c ∷ e ∷ []) ≡ map (drop 1) (each_left payload rs places.by_key)) (sym (four rows.by_key d m))
    (subst (λ ps. each_left payload (slice_index_or rows.by_key 0 d ∷ slice_index_or rows.by_key 1 d ∷ slice_index_or rows.by_key 2 d ∷ slice_index_or rows.by_key 3 d ∷ []) (a ∷ b ∷ c ∷ e ∷ [])
    ≡ map (drop 1) (each_left payload (slice_index_or rows.by_key 0 d ∷ slice_index_or rows.by_key 1 d ∷ slice_index_or rows.by_key 2 d ∷ slice_index_or rows.by_key 3 d ∷ []) ps))
    (sym (four places.by_key f n)) (rw (p, q, r, s) refl))

-- before the first index of each key
pub four_first : (payload : List ℕ) (rows : IndexRows) (d : RowsAt) (a b c e : RunPlace) (left : Bool) → length rows.by_key ≡ 4
    → indexes_left payload (slice_index_or rows.by_key 0 d) a ≡ indexes_in payload (slice_index_or rows.by_key 0 d) → indexes_left payload (slice_index_or rows.by_key 1 d) b ≡ indexes_in payload (slice_index_or rows.by_key 1 d)
    → indexes_left payload (slice_index_or rows.by_key 2 d) c ≡ indexes_in payload (slice_index_or rows.by_key 2 d) → indexes_left payload (slice_index_or rows.by_key 3 d) e ≡ indexes_in payload (slice_index_or rows.by_key 3 d)
    → indexes_coming payload rows (record { by_key = a ∷ b ∷ c ∷ e ∷ []; are_left = left }) ≡ map (indexes_in payload) rows.by_key
unfolding indexes_coming
four_first payload rows d a b c e left n p q r s = subst (λ rs. each_left payload rs (a ∷ b ∷ c ∷ e ∷ []) ≡ map (indexes_in payload) rs) (sym (four rows.by_key d n)) (rw (p, q, r, s) refl)

-- no more rows were passed than there are
rows_within : (payload : List ℕ) (rows : List RowsAt) (places : List RunPlace) → AllZip (IsIndexPlace payload) rows places → rows_before places ≤ sum_of (λ (r : RowsAt). r.count) rows
rows_within payload [] [] h = omega arith
rows_within payload [] (p ∷ places) h = absurd h
rows_within payload (r ∷ rows) [] h = absurd h
rows_within payload (r ∷ rows) (p ∷ places) h = let own = h.0.within in let more = rows_within payload rows places h.1 in omega (arith, own, more)

pub passed_few : (payload : List ℕ) (rows : IndexRows) (places : IndexPlaces) → AreIndexPlaces payload rows places → rows_passed places ≤ sum_of (λ (r : RowsAt). r.count) rows.by_key
unfolding rows_passed
passed_few payload rows places h = rows_within payload rows.by_key places.by_key h.each

-- the rows passed, one by one
pub rows_counted : (places : IndexPlaces) (d : RunPlace) → length places.by_key ≡ 4
    → rows_passed places ≡ (slice_index_or places.by_key 0 d).row + (slice_index_or places.by_key 1 d).row + (slice_index_or places.by_key 2 d).row + (slice_index_or places.by_key 3 d).row
unfolding rows_passed
rows_counted places d n =
    let e : rows_before places.by_key ≡ (slice_index_or places.by_key 0 d).row + ((slice_index_or places.by_key 1 d).row + ((slice_index_or places.by_key 2 d).row + ((slice_index_or places.by_key 3 d).row + 0))) = ap rows_before (four places.by_key d n) in
    omega (arith, e)
