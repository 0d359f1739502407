-- What was written as fields is read again, whatever follows.
use Rattle.std.proofs.Common.{◌≡◌, ℕ, ◌<◌, ◌^◌, List, [], ◌∷◌, ◌++◌, length, drop, refl, ap, ◌∙◌, append_assoc, arith, suc}
use Rattle.std.proofs.lemmas.List.{drop_at, length-append}
use Rattle.std.proofs.lemmas.List.Concat.{flat_map-cons}
use Rattle.std.specs.List.{flat_map}
use Rattle.byteorder.specs.Endian.{big_from, big_bytes}
use Rattle.byteorder.specs.Numbers.{big_number-reads_back, length-bytes_high_first}
use Rattle.mp4_boxes.specs.format.Bytes.{numbers, spelled, rows, width_of, FitWidths}

-- a number that was written is read again
pub field_again : (width value : ℕ) (rest : List ℕ) → value < 256 ^ width → big_from 0 width (big_bytes width value ++ rest) ≡ value
field_again width value rest lt = big_number-reads_back width value rest lt

pub numbers_again : (widths values rest : List ℕ) → FitWidths widths values → numbers widths (spelled widths values ++ rest) ≡ values
numbers_again [] [] rest fits = refl
numbers_again [] (v ∷ values) rest fits = absurd fits
numbers_again (w ∷ widths) [] rest fits = absurd fits
numbers_again (w ∷ widths) (v ∷ values) rest fits =
    let regrouped : spelled (w ∷ widths) (v ∷ values) ++ rest ≡ big_bytes w v ++ (spelled widths values ++ rest) = append_assoc (big_bytes w v) (spelled widths values) rest in
    let first : big_from 0 w (big_bytes w v ++ (spelled widths values ++ rest)) ≡ v = field_again w v (spelled widths values ++ rest) fits.0 in
    let behind : drop w (big_bytes w v ++ (spelled widths values ++ rest)) ≡ spelled widths values ++ rest = drop_at (big_bytes w v) (spelled widths values ++ rest) w (length-bytes_high_first w v) in
    ap (numbers (w ∷ widths)) regrouped ∙ rw (first, behind) (ap (λ (ns : List ℕ). v ∷ ns) (numbers_again widths values rest fits.1))

-- rows of fields that all fit
pub data AllFit (widths : List ℕ) : List (List ℕ) → Type 0 where
  none : AllFit widths []
  more : {values : List ℕ} {others : List (List ℕ)} → FitWidths widths values → AllFit widths others → AllFit widths (values ∷ others)

-- fields that were written take as many bytes as their widths say
pub length-spelled : (widths values : List ℕ) → FitWidths widths values → length (spelled widths values) ≡ width_of widths
length-spelled [] [] fits = refl
length-spelled [] (v ∷ values) fits = absurd fits
length-spelled (w ∷ widths) [] fits = absurd fits
length-spelled (w ∷ widths) (v ∷ values) fits = omega (arith, length-append (big_bytes w v) (spelled widths values), length-bytes_high_first w v, length-spelled widths values fits.1)

-- rows that were written one after the other are read again
pub rows_again : (widths : List ℕ) (table : List (List ℕ)) (rest : List ℕ) → AllFit widths table → rows (length table) widths (flat_map (spelled widths) table ++ rest) ≡ table
rows_again widths [] rest fits = refl
rows_again widths (values ∷ others) rest (more first behind) =
    let regrouped : flat_map (spelled widths) (values ∷ others) ++ rest ≡ spelled widths values ++ (flat_map (spelled widths) others ++ rest) =
    ap (λ (x : List ℕ). x ++ rest) (flat_map-cons (spelled widths) values others) ∙ append_assoc (spelled widths values) (flat_map (spelled widths) others) rest in
    let one : numbers widths (spelled widths values ++ (flat_map (spelled widths) others ++ rest)) ≡ values = numbers_again widths values (flat_map (spelled widths) others ++ rest) first in
    let next : drop (width_of widths) (spelled widths values ++ (flat_map (spelled widths) others ++ rest)) ≡ flat_map (spelled widths) others ++ rest = drop_at (spelled widths values) (flat_map (spelled widths) others ++ rest) (width_of widths) (length-spelled widths values first) in
    ap (rows (suc (length others)) widths) regrouped ∙ rw (one, next) (ap (λ (t : List (List ℕ)). values ∷ t) (rows_again widths others rest behind))
