-- Rows that are written one after the other.
use Rattle.std.proofs.Common.{◌≡◌, ℕ, ◌+◌, ◌-◌, ◌<◌, ◌≤◌, List, [], ◌∷◌, ◌++◌, length, take, drop, get_or, refl, sym, ap, ◌∙◌, arith}
use Rattle.std.proofs.Math.Seq.{take-add}
use Rattle.std.specs.Prelude.{flat_map}
use Rattle.std.proofs.lemmas.Grind.{flat_map-append}
use Rattle.std.proofs.lemmas.List.{append-nil, take_more}

-- one more row
pub row_more : {A : Type 0} (f : A → List ℕ) (rows : List A) (k : ℕ) (d : A) (piece : List ℕ) → k < length rows → piece ≡ f (get_or rows k d) → flat_map f (take (k + 1) rows) ≡ flat_map f (take k rows) ++ piece
row_more f rows k d piece lt e =
    ap (flat_map f) (take_more rows k d lt) ∙ flat_map-append f (take k rows) (get_or rows k d ∷ [])
    ∙ ap (λ bytes. flat_map f (take k rows) ++ bytes) (append-nil (f (get_or rows k d)) ∙ sym e)

-- a few more rows
pub rows_more : {A : Type 0} (f : A → List ℕ) (rows : List A) (done end : ℕ) (piece : List ℕ) → done ≤ end → piece ≡ flat_map f (take (end - done) (drop done rows)) → flat_map f (take end rows) ≡ flat_map f (take done rows) ++ piece
rows_more {A} f rows done end piece le e =
    let sum : done + (end - done) ≡ end = omega (arith, le) in
    ap (λ n. flat_map f (take n rows)) (sym sum) ∙ ap (λ (xs : List A). flat_map f xs) (take-add done (end - done) rows)
    ∙ flat_map-append f (take done rows) (take (end - done) (drop done rows)) ∙ ap (λ bytes. flat_map f (take done rows) ++ bytes) (sym e)

-- the bytes of one more row stand behind those of the rows so far
pub row_pushed : {A : Type 0} (f : A → List ℕ) (rows : List A) (k : ℕ) (d : A) (out new : List ℕ) → k < length rows → out ≡ flat_map f (take k rows) → new ≡ out ++ f (get_or rows k d) → new ≡ flat_map f (take (k + 1) rows)
row_pushed f rows k d out new lt e n = n ∙ ap (λ bytes. bytes ++ f (get_or rows k d)) e ∙ sym (row_more f rows k d (f (get_or rows k d)) lt refl)
