-- The samples to come, from one place of a walk to the next.
use Rattle.std.proofs.Common.{◌≡◌, ℕ, ◌+◌, ◌-◌, ◌&&◌, Bool, true, false, cond, List, [], ◌∷◌, length, drop, nat_eq, refl, sym, ap, ◌∙◌, arith, Some, None}
use Rattle.std.specs.Prelude.{ℤ, codes, bytes_eq}
use Rattle.std.specs.List.{slice_get}
use Rattle.std.proofs.lemmas.Bool.Decides.{nat_tests}
use Rattle.mp4_boxes.specs.format.Box.{Box}
use Rattle.mp4_tables.specs.format.Groups.{GroupKey}
use Rattle.mp4_tables.specs.declared.sample.SampleAt.{SampleAt}
use Rattle.mp4_frag.specs.format.Fragments.{RunRow}
use Rattle.mp4_frag.specs.words.Walks.{Reached, at_first, capped, part_of, boxes_from, boxes_coming, reached, rows_here, rows_coming, run_coming, runs_coming, names, are_named, with_head, with_leaves, with_group, coming, sample_of, behind_row, samples_in}
use Rattle.mp4_frag.specs.declared.places.TrafPlace.{TrafPlace}
use Rattle.mp4_frag.specs.declared.places.RowPlace.{RowPlace}
use Rattle.mp4_frag.specs.declared.trex.Trex.{Trex}
use Rattle.mp4_frag.proofs.BoxPlaces.{box_end, all_boxes}
use Rattle.mp4_frag.proofs.RowsLeft.{no_rows, first_row, row_behind_first}
use Rattle.std.proofs.Common.{◌<◌, inl, inr}
use Rattle.std.proofs.lemmas.Bool.{cases_lt}

-- types of boxes may be compared either way
pub turned : (a b : List ℕ) → bytes_eq a b ≡ bytes_eq b a
turned [] [] = refl
turned [] (y ∷ b) = refl
turned (x ∷ a) [] = refl
turned (x ∷ a) (y ∷ b) = let one : nat_eq x y ≡ nat_eq y x = grind (arith, nat_tests) in let more = turned a b in λ i. one i && more i

-- a box of some type among others
abbrev pub box_at_place : List ℕ → List ℕ → ℕ → ℕ → ℕ → Box
box_at_place payload kind at inside end = record { kind = kind; offset = at; header = inside - at; payload = part_of payload inside end }

-- where no row is left, boxes come next
pub rows_done : (payload : List ℕ) (p : TrafPlace) → p.run.left ≡ 0 → coming payload p ≡ runs_coming (reached payload p) (boxes_from payload p.next)
unfolding coming
rows_done payload p e = ap (λ rows. rows_coming (reached payload p) p.run.first_flags rows (λ s. runs_coming s (boxes_from payload p.next))) (no_rows payload p.run e)

-- ---- the next box

-- it is no run
pub other_leaf : (payload : List ℕ) (p q : TrafPlace) (inside behind : ℕ) (kind : List ℕ) → boxes_from payload p.next ≡ box_at_place payload kind p.next inside behind ∷ boxes_from payload behind
    → bytes_eq kind (codes "trun") ≡ false → p.run.left ≡ 0 → q ≡ record p { next = behind } → coming payload q ≡ coming payload p
other_leaf payload p q inside behind kind e k none is =
    let next : TrafPlace = record p { next = behind } in
    let passed : runs_coming (reached payload p) (boxes_from payload behind) ≡ runs_coming (reached payload p) (boxes_from payload p.next) = rw (e, turned (codes "trun") kind ∙ k) refl in
    ap (coming payload) is ∙ rows_done payload next none ∙ passed ∙ sym (rows_done payload p none)

-- it is one
pub run_opened : (payload : List ℕ) (p q : TrafPlace) (inside behind : ℕ) (kind : List ℕ) → boxes_from payload p.next ≡ box_at_place payload kind p.next inside behind ∷ boxes_from payload behind
    → bytes_eq kind (codes "trun") ≡ true → p.run.left ≡ 0 → q.next ≡ behind
    → ((more : Reached → List SampleAt) → rows_coming (reached payload q) q.run.first_flags (rows_here payload q.run) more ≡ run_coming (reached payload p) (part_of payload inside behind) more)
    → coming payload q ≡ coming payload p
unfolding coming
run_opened payload p q inside behind kind e k none next run =
    let there : run_coming (reached payload p) (part_of payload inside behind) (λ t. runs_coming t (boxes_from payload behind)) ≡ runs_coming (reached payload p) (boxes_from payload p.next) = rw (e, turned (codes "trun") kind ∙ k) refl in
    (λ i. rows_coming (reached payload q) q.run.first_flags (rows_here payload q.run) (λ s. runs_coming s (boxes_from payload (next i))))
    ∙ run (λ t. runs_coming t (boxes_from payload behind))
    ∙ there
    ∙ sym (rows_done payload p none)

-- there is none
pub none_left : (payload : List ℕ) (p q : TrafPlace) → boxes_from payload p.next ≡ [] → p.run.left ≡ 0 → q ≡ record p { next = length payload } → coming payload q ≡ coming payload p
none_left payload p q e none is =
    let next : TrafPlace = record p { next = length payload } in
    let last = box_end payload (length payload) (length payload) (omega arith) in
    ap (coming payload) is ∙ rows_done payload next none ∙ ap (runs_coming (reached payload p)) (last ∙ sym e) ∙ sym (rows_done payload p none)

-- nothing comes behind the last
pub none_to_come : (payload : List ℕ) (p : TrafPlace) → p.run.left ≡ 0 → p.next ≡ length payload → coming payload p ≡ []
none_to_come payload p none next = rows_done payload p none ∙ ap (runs_coming (reached payload p)) (box_end payload p.next (length payload) (omega (arith, next)))

-- ---- what the boxes of a `traf` say

no : (b : Bool) (x y : Reached) → b ≡ false → y ≡ cond b x y
no b x y e = rw e refl

-- from box to box
pub leaf_other : (payload : List ℕ) (trex : Trex) (keys : List GroupKey) (s : Reached) (at inside behind : ℕ) (kind : List ℕ) → boxes_from payload at ≡ box_at_place payload kind at inside behind ∷ boxes_from payload behind
    → bytes_eq kind (codes "tfhd") ≡ false → bytes_eq kind (codes "sbgp") ≡ false → with_leaves trex keys s (boxes_from payload behind) ≡ with_leaves trex keys s (boxes_from payload at)
leaf_other payload trex keys s at inside behind kind e k g =
    let same = no (bytes_eq (codes "sbgp") kind) (record s { indexes = with_group keys s.indexes (part_of payload inside behind) }) s (turned (codes "sbgp") kind ∙ g) ∙ no (bytes_eq (codes "tfhd") kind) (with_head trex s (part_of payload inside behind)) _ (turned (codes "tfhd") kind ∙ k) in
    ap (λ u. with_leaves trex keys u (boxes_from payload behind)) same ∙ ap (with_leaves trex keys s) (sym e)

pub leaves_done : (payload : List ℕ) (trex : Trex) (keys : List GroupKey) (s : Reached) (at : ℕ) → boxes_from payload at ≡ [] → s ≡ with_leaves trex keys s (boxes_from payload at)
leaves_done payload trex keys s at e = rw e refl

-- whether they name a track
pub named_on : (payload : List ℕ) (id : ℕ) (before : Bool) (at inside behind : ℕ) (kind : List ℕ) → boxes_from payload at ≡ box_at_place payload kind at inside behind ∷ boxes_from payload behind
    → bytes_eq kind (codes "tfhd") ≡ true → are_named id (names id (part_of payload inside behind)) (boxes_from payload behind) ≡ are_named id before (boxes_from payload at)
named_on payload id before at inside behind kind e k =
    let is = turned (codes "tfhd") kind ∙ k in
    sym (ap (are_named id before) e ∙ ap (λ v. are_named id (cond v (names id (part_of payload inside behind)) before) (boxes_from payload behind)) is)

pub named_still : (payload : List ℕ) (id : ℕ) (before : Bool) (at inside behind : ℕ) (kind : List ℕ) → boxes_from payload at ≡ box_at_place payload kind at inside behind ∷ boxes_from payload behind
    → bytes_eq kind (codes "tfhd") ≡ false → are_named id before (boxes_from payload behind) ≡ are_named id before (boxes_from payload at)
named_still payload id before at inside behind kind e k =
    let is = turned (codes "tfhd") kind ∙ k in
    sym (ap (are_named id before) e ∙ ap (λ v. are_named id (cond v (names id (part_of payload inside behind)) before) (boxes_from payload behind)) is)

pub named_done : (payload : List ℕ) (id : ℕ) (before : Bool) (at : ℕ) → boxes_from payload at ≡ [] → before ≡ are_named id before (boxes_from payload at)
named_done payload id before at e = rw e refl

-- ---- a sample is passed

pub sample_first : (payload : List ℕ) (p : TrafPlace) (row : RunRow) (later : List RunRow) (sample : SampleAt) → rows_here payload p.run ≡ row ∷ later → sample ≡ sample_of (reached payload p) p.run.first_flags row
    → slice_get (coming payload p) 0 ≡ Some sample
unfolding coming
sample_first payload p row later sample e f = rw (e, f) refl

pub sample_passed : (payload : List ℕ) (p q : TrafPlace) (row : RunRow) → rows_here payload p.run ≡ row ∷ rows_here payload q.run → q.run.first_flags ≡ None → reached payload q ≡ behind_row (reached payload p) row → q.next ≡ p.next
    → coming payload q ≡ drop 1 (coming payload p)
unfolding coming
sample_passed payload p q row e none on next =
    let behind : rows_coming (reached payload q) q.run.first_flags (rows_here payload q.run) (λ s. runs_coming s (boxes_from payload q.next))
    ≡ rows_coming (behind_row (reached payload p) row) None (rows_here payload q.run) (λ s. runs_coming s (boxes_from payload p.next)) =
    (λ i. rows_coming (on i) (none i) (rows_here payload q.run) (λ s. runs_coming s (boxes_from payload (next i)))) in
    rw e behind

-- a row gives a sample, and those of the rows behind it come next
pub row_passed : (payload : List ℕ) (p q : TrafPlace) (row : RunRow) → rows_here payload p.run ≡ row ∷ rows_here payload q.run → q.run.first_flags ≡ None → reached payload q ≡ behind_row (reached payload p) row → q.next ≡ p.next
    → coming payload p ≡ sample_of (reached payload p) p.run.first_flags row ∷ coming payload q
unfolding coming
row_passed payload p q row e none on next =
    let behind : rows_coming (reached payload q) q.run.first_flags (rows_here payload q.run) (λ s. runs_coming s (boxes_from payload q.next))
    ≡ rows_coming (behind_row (reached payload p) row) None (rows_here payload q.run) (λ s. runs_coming s (boxes_from payload p.next)) =
    (λ i. rows_coming (on i) (none i) (rows_here payload q.run) (λ s. runs_coming s (boxes_from payload (next i)))) in
    rw e (ap (λ (l : List SampleAt). sample_of (reached payload p) p.run.first_flags row ∷ l) (sym behind))

-- what comes is the same whatever was passed
pub steps_apart : (payload : List ℕ) (p : TrafPlace) (n : ℕ) → coming payload (record p { passed = n }) ≡ coming payload p
unfolding coming
steps_apart payload p n = refl

-- nor does it matter how the time and the place were summed up
pub sums_taken : (payload : List ℕ) (p : TrafPlace) (run : RowPlace) (lasts bytes dts at : ℕ) → dts ≡ capped (p.dts + lasts) → at ≡ capped (p.at + bytes)
    → coming payload (record p { run = run; dts = dts; at = at }) ≡ coming payload (record p { run = run; dts = capped (p.dts + lasts); at = capped (p.at + bytes) })
sums_taken payload p run lasts bytes dts at d a = λ i. coming payload (record p { run = run; dts = d i; at = a i })

-- a sample is to come, so a row is left
pub some_left : (payload : List ℕ) (p : TrafPlace) (s : SampleAt) → (p.run.left ≡ 0 → p.next ≡ length payload) → slice_get (coming payload p) 0 ≡ Some s → 0 < p.run.left
some_left payload p s settled e = elim (cases_lt 0 p.run.left) [
  | inl some ↦ some
  | inr over ↦
      let none : p.run.left ≡ 0 = omega (arith, over) in
      absurd (not_first (sym e ∙ ap (λ (l : List SampleAt). slice_get l 0) (none_to_come payload p none (settled none))))
]
  where
    not_first : {s : SampleAt} → Some s ≡ None → ⊥
    not_first e = cc

-- the next sample is that of the first row
pub next_is : (payload : List ℕ) (p : TrafPlace) (s : SampleAt) → 0 < p.run.left → slice_get (coming payload p) 0 ≡ Some s → s ≡ sample_of (reached payload p) p.run.first_flags (first_row payload p.run)
next_is payload p s some e =
    same s _ (sym e ∙ sample_first payload p (first_row payload p.run) _ _ (row_behind_first payload p.run some) refl)
  where
    same : (a b : SampleAt) → Some a ≡ Some b → a ≡ b
    same a b e = cc

-- ---- a `traf` is opened

-- the walk from its first sample on
pub begun : (payload : List ℕ) (base : ℤ) (id : ℕ) (trex : Trex) (number dts : ℕ) (keys : List GroupKey) (first opened settled : TrafPlace) → reached payload first ≡ at_first base number dts → opened.run.left ≡ 0 → opened.next ≡ 0
    → are_named id false (boxes_from payload 0) ≡ true → reached payload opened ≡ with_leaves trex keys (reached payload first) (boxes_from payload 0) → coming payload settled ≡ coming payload opened
    → coming payload settled ≡ samples_in payload base id trex number dts keys
begun payload base id trex number dts keys first opened settled f none next named o e =
    let all = all_boxes payload in
    let here : runs_coming (reached payload opened) (boxes_from payload opened.next) ≡ runs_coming (with_leaves trex keys (at_first base number dts) (boxes_from payload 0)) (boxes_from payload 0) =
    (λ i. runs_coming (o i) (boxes_from payload (next i))) ∙ ap (λ s. runs_coming (with_leaves trex keys s (boxes_from payload 0)) (boxes_from payload 0)) f in
    let own : boxes_coming base id trex number dts keys (boxes_from payload 0) ≡ runs_coming (with_leaves trex keys (at_first base number dts) (boxes_from payload 0)) (boxes_from payload 0) = rw named refl in
    e ∙ rows_done payload opened none ∙ here ∙ sym own ∙ ap (boxes_coming base id trex number dts keys) all

-- where it names another track there is none
pub not_begun : (payload : List ℕ) (base : ℤ) (id : ℕ) (trex : Trex) (number dts : ℕ) (keys : List GroupKey) (p : TrafPlace) → p.run.left ≡ 0 → p.next ≡ length payload → are_named id false (boxes_from payload 0) ≡ false
    → coming payload p ≡ samples_in payload base id trex number dts keys
not_begun payload base id trex number dts keys p none next named =
    let other : boxes_coming base id trex number dts keys (boxes_from payload 0) ≡ [] = rw named refl in
    none_to_come payload p none next ∙ sym other ∙ ap (boxes_coming base id trex number dts keys) (all_boxes payload)
