-- The rows of an `elst`, one after the other.
use Rattle.std.proofs.Common.{◌≡◌, ℕ, zero, suc, ◌+◌, ◌*◌, ◌<◌, ◌≤◌, List, [], ◌∷◌, ◌++◌, length, take, drop, map, refl, sym, ap, subst, ◌∙◌, arith, append_assoc}
use Rattle.std.specs.Prelude.{slice_index}
use Rattle.std.proofs.lemmas.List.{length-drop, append-nil, map-append}
use Rattle.mp4_boxes.specs.format.Bytes.{field, numbers, rows, width_of}
use Rattle.mp4_boxes.specs.format.Layout.{elst, row, time_width}
use Rattle.mp4_head.specs.format.Head as heads
use Rattle.mp4_head.specs.words.Seen.{edit_seen}
use Rattle.mp4_head.specs.format.Tree.{edit_of}
use Rattle.mp4_head.specs.declared.edit_list.Edit.{Edit}
use Rattle.mp4_head.proofs.Opening.{number_is}

-- a number of a row at its place
pub row_at : (bytes : List ℕ) (v i place width : ℕ) → i < length (row elst v) → width ≡ slice_index (row elst v) i → place ≡ width_of (take i (row elst v)) → field bytes place width ≡ slice_index (numbers (row elst v) bytes) i
row_at bytes v i place width lt w p = number_is (row elst v) bytes i place width lt w p

-- how many bytes a row takes
pub row_size : (v width : ℕ) → width ≡ time_width v → width_of (row elst v) ≡ 2 * width + 4
row_size v width e = omega arith

-- the edits of so many rows
abbrev pub edits_in : ℕ → ℕ → List ℕ → List heads.Edit
edits_in v n bytes = map (edit_of v) (rows n (row elst v) bytes)

-- Some edits were read, and so many rows are left in the rest.
pub record RowsRead (all : List heads.Edit) (v width left : ℕ) (edits : List Edit) (rest : List ℕ) : Type 0 where
  pub whole : map edit_seen edits ++ edits_in v left rest ≡ all
  pub room : left * (2 * width + 4) ≤ length rest

-- none yet
pub rows_none : (v width n : ℕ) (edits : List Edit) (rest : List ℕ) → edits ≡ [] → n * (2 * width + 4) ≤ length rest → RowsRead (edits_in v n rest) v width n edits rest
rows_none v width n edits rest e room = record { whole = rw e refl; room = room }

-- a row that is left has room
pub row_room : (left size : ℕ) (n : ℕ) → 0 < left → left * size ≤ n → size ≤ n
row_room zero size n some room = absurd (omega arith)
row_room (suc left) size n some room = omega arith

-- one more
pub rows_more : (all : List heads.Edit) (v width left less : ℕ) (edits later : List Edit) (e : Edit) (rest more : List ℕ) → RowsRead all v width left edits rest → left ≡ less + 1 → width ≡ time_width v
    → edit_seen e ≡ edit_of v (numbers (row elst v) rest) → later ≡ edits ++ e ∷ [] → more ≡ drop (2 * width + 4) rest → RowsRead all v width less later more
rows_more all v width left less edits later e rest more r one w is added behind =
    let s : left ≡ suc less = omega arith in
    let size = row_size v width w in
    let room : suc less * (2 * width + 4) ≤ length rest = subst (λ (n : ℕ). n * (2 * width + 4) ≤ length rest) s r.room in
    let whole : map edit_seen edits ++ edits_in v (suc less) rest ≡ all = subst (λ (n : ℕ). map edit_seen edits ++ edits_in v n rest ≡ all) s r.whole in
    let shorter = length-drop (2 * width + 4) rest in
    let seen : map edit_seen later ≡ map edit_seen edits ++ edit_seen e ∷ [] = ap (map edit_seen) added ∙ map-append edit_seen edits (e ∷ []) in
    let next : edits_in v less more ≡ edits_in v less (drop (width_of (row elst v)) rest) = ap (edits_in v less) (behind ∙ ap (λ (n : ℕ). drop n rest) (sym size)) in
    let first : edit_seen e ∷ edits_in v less more ≡ edits_in v (suc less) rest = λ i. is i ∷ next i in
    record {
      whole = ap (λ (es : List heads.Edit). es ++ edits_in v less more) seen ∙ append_assoc (map edit_seen edits) (edit_seen e ∷ []) (edits_in v less more) ∙ ap (λ (es : List heads.Edit). map edit_seen edits ++ es) first ∙ whole;
      room = rw behind (omega arith);
    }

-- all were read
pub rows_all : (all : List heads.Edit) (v width left : ℕ) (edits : List Edit) (rest : List ℕ) → RowsRead all v width left edits rest → left ≡ 0 → map edit_seen edits ≡ all
rows_all all v width left edits rest r none =
    let whole : map edit_seen edits ++ [] ≡ all = subst (λ (n : ℕ). map edit_seen edits ++ edits_in v n rest ≡ all) none r.whole in
    sym (append-nil (map edit_seen edits)) ∙ whole
