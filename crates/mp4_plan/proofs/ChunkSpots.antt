-- The samples of a chunk follow those of the chunks before it, and lie one after the other from its offset.
use Rattle.std.proofs.Common.{◌≡◌, ℕ, zero, suc, ◌+◌, ◌-◌, ◌<◌, ◌≤◌, List, [], ◌∷◌, ◌++◌, length, take, drop, get_or, refl, sym, ap, subst, ◌∙◌, arith, length-take, length-drop}
use Rattle.std.specs.Prelude.{pos, slice_index}
use Rattle.std.proofs.lemmas.List.{get_or_append_left, get_or-append_right, get_or-take, get_or-drop, take-take, drop-drop}
use Rattle.mp4_tables.specs.format.Tables.{ChunkRow}
use Rattle.mp4_tables.specs.format.PlainSamples.{Spot, row_of_chunk, laid_out, in_chunks, in_chunks_total}
use Rattle.mp4_tables.proofs.Counts.{laid_length}
use Rattle.mp4_plan.specs.format.TableLaws.{sum_all, before_chunk, SamplesLieInChunks}

-- the j-th of sizes that lie one after the other
laid_at : (at description : ℕ) (sizes : List ℕ) (j : ℕ) (d : Spot) → j < length sizes
    → get_or (laid_out (pos at) description sizes) j d ≡ record { at = pos (at + sum_all (take j sizes)); size = slice_index sizes j; description = description }
laid_at at description [] j d h = absurd (omega arith)
laid_at at description (size ∷ sizes) zero d h = let e : at ≡ at + 0 = omega arith in λ i. record { at = pos (e i); size = size; description = description }
laid_at at description (size ∷ sizes) (suc j) d h =
    let e : (at + size) + sum_all (take j sizes) ≡ at + (size + sum_all (take j sizes)) = omega arith in
    laid_at (at + size) description sizes j d (omega (arith, h)) ∙ (λ i. record { at = pos (e i); size = slice_index sizes j; description = description })

-- the same behind the k-th chunk from chunk c on
abbrev AreInChunks : List ChunkRow → ℕ → List ℕ → List ℕ → Type 0
AreInChunks rows c offsets sizes = (k j i : ℕ) → k < length offsets → j < (row_of_chunk rows (c + k)).count → i ≡ in_chunks_total rows c (take k offsets) + j → (d : Spot)
    → get_or (in_chunks rows c offsets sizes) i d
    ≡ record { at = pos (slice_index offsets k + sum_all (take j (drop (in_chunks_total rows c (take k offsets)) sizes))); size = slice_index sizes i; description = (row_of_chunk rows (c + k)).description }

-- the samples of the first of some chunks
first_chunk : (r : ChunkRow) (offset : ℕ) (sizes : List ℕ) (more : List Spot) (j : ℕ) (d : Spot) → r.count ≤ length sizes → j < r.count
    → get_or (laid_out (pos offset) r.description (take r.count sizes) ++ more) j d ≡ record { at = pos (offset + sum_all (take j sizes)); size = slice_index sizes j; description = r.description }
first_chunk r offset sizes more j d fit lt =
    let count = length-take r.count sizes in
    let laid = laid_length (pos offset) r.description (take r.count sizes) in
    let sums = ap sum_all (take-take j r.count sizes (omega arith)) in
    let one = get_or-take r.count sizes j 0 lt in
    get_or_append_left (laid_out (pos offset) r.description (take r.count sizes)) more d j (omega (arith, count, laid))
    ∙ laid_at offset r.description (take r.count sizes) j d (omega (arith, count))
    ∙ (λ i. record { at = pos (offset + sums i); size = one i; description = r.description })

-- and of each, chunk by chunk
chunk_at : (rows : List ChunkRow) (c : ℕ) (offsets sizes : List ℕ) → in_chunks_total rows c offsets ≤ length sizes → AreInChunks rows c offsets sizes
chunk_at rows c [] sizes fit k j i lt below e d = absurd (omega arith)
chunk_at rows c (offset ∷ offsets) sizes fit zero j i lt below e d =
    let here : c + 0 ≡ c = omega arith in
    let same : i ≡ j = omega (arith, e) in
    let count : j < (row_of_chunk rows c).count = subst (λ (n : ℕ). j < (row_of_chunk rows n).count) here below in
    let found = first_chunk (row_of_chunk rows c) offset sizes (in_chunks rows (c + 1) offsets (drop (row_of_chunk rows c).count sizes)) j d (omega (arith, fit)) count in
    ap (λ (n : ℕ). get_or (in_chunks rows c (offset ∷ offsets) sizes) n d) same ∙ found
    ∙ (λ x. record { at = pos (offset + sum_all (take j sizes)); size = slice_index sizes (sym same x); description = (row_of_chunk rows (sym here x)).description })
chunk_at rows c (offset ∷ offsets) sizes fit (suc k) j i lt below e d =
    let n = (row_of_chunk rows c).count in
    let behind = in_chunks_total rows (c + 1) (take k offsets) in
    let next : c + suc k ≡ (c + 1) + k = omega arith in
    let laid = laid_length (pos offset) (row_of_chunk rows c).description (take n sizes) in
    let count = length-take n sizes in
    let left = length-drop n sizes in
    let all : length (laid_out (pos offset) (row_of_chunk rows c).description (take n sizes)) ≡ n = omega (arith, laid, count, fit) in
    let below' : j < (row_of_chunk rows ((c + 1) + k)).count = subst (λ (m : ℕ). j < (row_of_chunk rows m).count) next below in
    let rest = chunk_at rows (c + 1) offsets (drop n sizes) (omega (arith, fit, left)) k j (i - n) (omega (arith, lt)) below' (omega (arith, e)) d in
    let again : n + (i - n) ≡ i = omega (arith, e) in
    let one : slice_index (drop n sizes) (i - n) ≡ slice_index sizes i = get_or-drop n sizes (i - n) 0 ∙ ap (λ (m : ℕ). slice_index sizes m) again in
    let dropped : drop behind (drop n sizes) ≡ drop (n + behind) sizes = drop-drop behind n sizes in
    get_or-append_right (laid_out (pos offset) (row_of_chunk rows c).description (take n sizes)) (in_chunks rows (c + 1) offsets (drop n sizes)) n i d all (omega (arith, e)) ∙ rest
    ∙ (λ x. record { at = pos (slice_index offsets k + sum_all (take j (dropped x))); size = one x; description = (row_of_chunk rows (sym next x)).description })

-- Where there are sizes for all chunks, the samples of each chunk follow those of the chunks before it, and lie one after the other from its offset.
pub samples_lie_in_chunks : SamplesLieInChunks
samples_lie_in_chunks rows offsets sizes fit k j lt below d = chunk_at rows 1 offsets sizes fit k j (before_chunk rows offsets k + j) lt below refl d
