use Rattle.std.proofs.Common.{arith, sym, ap, refl, codes, ◌≡◌, ◌∙◌, length, List, ℕ, slice_index, subst}
use Rattle.std.proofs.lemmas.Result.{err_from_is_err_and}
use Rattle.mp4_boxes.specs.format.Bytes.{field}
use Rattle.mp4_boxes.specs.format.Layout.{size_bits, is_size_bits}
use Rattle.mp4_tables.specs.words.Leaves.{IsFormOf}
use Rattle.mp4_boxes.specs.words.View.{box_seen}
use Rattle.mp4_tables.proofs.LeafRows.{lies_in, first_is_child}
use Rattle.mp4_tables.proofs.SizeReads.{compact_read, compact_len_is, bits_are, compact_needed}
use Rattle.std.proofs.Common.{true, false}
use Rattle.std.specs.Prelude.{nat_le, not}
use Rattle.mp4_boxes.specs.format.Layout.{stz2, needed, has_bad_value}
use Rattle.mp4_boxes.proofs.Plain.{nat_le_no, nat_le_yes}
use Rattle.mp4_tables.specs.format.Tables.{sample_count}
use Rattle.mp4_tables.specs.declared.places.SizeForm.{SizeForm}
use Rattle.mp4_tables.specs.declared.places.SizeForm.TheVariants as forms
use Rattle.mp4_tables.proofs.FirstReads.{found_compact, sizes_stop, sizes_judged}
use Rattle.mp4_tables.proofs.size_checks.read_compact.Goals as goal

pub place_in-place-requires : goal.place_in-place-requires
place_in-place-requires c = let i = (lies_in (box_seen c.args.stbl) (box_seen c.args.leaf) c.requires.tables (first_is_child (codes "stz2") (box_seen c.args.stbl) (box_seen c.args.leaf) c.requires.first)).is in omega arith

pub returns-in-Some-clause-sizes : goal.returns-in-Some-clause-sizes
returns-in-Some-clause-sizes c =
    let q = ap (λ (xs : List ℕ). length xs) c.payload-payload.ensures in
    let v = c.in_ok-version_of.ensures.version in
    let k = c.in_ok-version_of.ensures.known in
    let count : c.u32_at-count.result ≡ field (box_seen c.args.leaf).payload 8 4 = rw c.payload-payload.ensures at c.u32_at-count.ensures in
    let l = compact_len_is (box_seen c.args.leaf) c.payload-payload.result.now _ c.u32_at-count.result c.compact_len.result c.payload-payload.ensures refl c.u32_at-count.ensures c.compact_len.ensures in
    let bits : slice_index c.payload-payload.result.now 7 ≡ size_bits (box_seen c.args.leaf).payload = bits_are c.payload-payload.result.now (slice_index c.payload-payload.result.now 7) refl ∙ ap size_bits c.payload-payload.ensures in
    let p = c.place_in-place.ensures in
    compact_read c.args.limits (box_seen c.args.stbl) (box_seen c.args.leaf) c.in-Some.form _ c.requires.tables c.requires.none c.requires.first (omega arith) (subst (IsFormOf c.in-Some.form) bits c.in-Some.ensures) (omega arith) count (omega arith) (omega arith)

pub returns-in_err-version_of-clause-exact : goal.returns-in_err-version_of-clause-exact
returns-in_err-version_of-clause-exact c =
    let p = err_from_is_err_and c.from_residual.result c.from_residual.ensures.1 in
    rw (p.1, p.2) (sizes_stop stz2 c.args.limits (box_seen c.args.stbl) (box_seen c.args.leaf) (found_compact (box_seen c.args.stbl) (box_seen c.args.leaf) c.requires.tables c.requires.first) refl refl refl refl c.in_err-version_of.field-0.0 c.in_err-version_of.ensures.exact)

pub returns-then-payload-lt12-clause-exact : goal.returns-then-payload-lt12-clause-exact
returns-then-payload-lt12-clause-exact c =
    let q = ap (λ (xs : List ℕ). length xs) c.payload-payload.ensures in
    let need = compact_needed (box_seen c.args.leaf).payload in
    rw c.fault.ensures (sizes_judged stz2 c.args.limits (box_seen c.args.stbl) (box_seen c.args.leaf) (found_compact (box_seen c.args.stbl) (box_seen c.args.leaf) c.requires.tables c.requires.first) refl refl refl refl false (nat_le (sample_count (box_seen c.args.leaf).payload) c.args.limits.room)
    (has_bad_value stz2 (box_seen c.args.leaf).payload) (nat_le_no (needed stz2 (box_seen c.args.leaf).payload) (length (box_seen c.args.leaf).payload) (omega arith)) refl refl c.in_ok-version_of.ensures.exact)

pub returns-then-payload-compact_len-clause-exact : goal.returns-then-payload-compact_len-clause-exact
returns-then-payload-compact_len-clause-exact c =
    let q = ap (λ (xs : List ℕ). length xs) c.payload-payload.ensures in
    let count : c.u32_at-count.result ≡ field (box_seen c.args.leaf).payload 8 4 = rw c.payload-payload.ensures at c.u32_at-count.ensures in
    let l = compact_len_is (box_seen c.args.leaf) c.payload-payload.result.now _ c.u32_at-count.result c.compact_len.result c.payload-payload.ensures refl c.u32_at-count.ensures c.compact_len.ensures in
    let need = compact_needed (box_seen c.args.leaf).payload in
    rw c.fault-then-payload-compact_len.ensures (sizes_judged stz2 c.args.limits (box_seen c.args.stbl) (box_seen c.args.leaf) (found_compact (box_seen c.args.stbl) (box_seen c.args.leaf) c.requires.tables c.requires.first) refl refl refl refl false
    (nat_le (sample_count (box_seen c.args.leaf).payload) c.args.limits.room) (has_bad_value stz2 (box_seen c.args.leaf).payload) (nat_le_no (needed stz2 (box_seen c.args.leaf).payload) (length (box_seen c.args.leaf).payload) (omega arith)) refl refl c.in_ok-version_of.ensures.exact)

pub returns-then-count-limits-clause-exact : goal.returns-then-count-limits-clause-exact
returns-then-count-limits-clause-exact c =
    let q = ap (λ (xs : List ℕ). length xs) c.payload-payload.ensures in
    let count : c.u32_at-count.result ≡ field (box_seen c.args.leaf).payload 8 4 = rw c.payload-payload.ensures at c.u32_at-count.ensures in
    let l = compact_len_is (box_seen c.args.leaf) c.payload-payload.result.now _ c.u32_at-count.result c.compact_len.result c.payload-payload.ensures refl c.u32_at-count.ensures c.compact_len.ensures in
    let need = compact_needed (box_seen c.args.leaf).payload in
    rw c.fault-then-count-limits.ensures (sizes_judged stz2 c.args.limits (box_seen c.args.stbl) (box_seen c.args.leaf) (found_compact (box_seen c.args.stbl) (box_seen c.args.leaf) c.requires.tables c.requires.first) refl refl refl refl true false (has_bad_value stz2 (box_seen c.args.leaf).payload)
    (nat_le_yes (needed stz2 (box_seen c.args.leaf).payload) (length (box_seen c.args.leaf).payload) (omega arith)) (nat_le_no (sample_count (box_seen c.args.leaf).payload) c.args.limits.room (omega arith)) refl c.in_ok-version_of.ensures.exact)

-- bits of which there is a form
has_form : (form : SizeForm) (bits : ℕ) → IsFormOf form bits → is_size_bits bits ≡ true
has_form (forms.One size) bits i = absurd i
has_form forms.Words bits i = absurd i
has_form forms.Shorts bits i = rw i refl
has_form forms.Bytes bits i = rw i refl
has_form forms.HalfBytes bits i = rw i refl

pub returns-in-Some-clause-exact : goal.returns-in-Some-clause-exact
returns-in-Some-clause-exact c =
    let q = ap (λ (xs : List ℕ). length xs) c.payload-payload.ensures in
    let count : c.u32_at-count.result ≡ field (box_seen c.args.leaf).payload 8 4 = rw c.payload-payload.ensures at c.u32_at-count.ensures in
    let l = compact_len_is (box_seen c.args.leaf) c.payload-payload.result.now _ c.u32_at-count.result c.compact_len.result c.payload-payload.ensures refl c.u32_at-count.ensures c.compact_len.ensures in
    let need = compact_needed (box_seen c.args.leaf).payload in
    let bits : slice_index c.payload-payload.result.now 7 ≡ size_bits (box_seen c.args.leaf).payload = bits_are c.payload-payload.result.now (slice_index c.payload-payload.result.now 7) refl ∙ ap size_bits c.payload-payload.ensures in
    let good : has_bad_value stz2 (box_seen c.args.leaf).payload ≡ false = ap not (has_form c.in-Some.form (size_bits (box_seen c.args.leaf).payload) (subst (IsFormOf c.in-Some.form) bits c.in-Some.ensures)) in
    sizes_judged stz2 c.args.limits (box_seen c.args.stbl) (box_seen c.args.leaf) (found_compact (box_seen c.args.stbl) (box_seen c.args.leaf) c.requires.tables c.requires.first) refl refl refl refl true true false
    (nat_le_yes (needed stz2 (box_seen c.args.leaf).payload) (length (box_seen c.args.leaf).payload) (omega arith)) (nat_le_yes (sample_count (box_seen c.args.leaf).payload) c.args.limits.room (omega arith)) good c.in_ok-version_of.ensures.exact

pub returns-in-None-clause-exact : goal.returns-in-None-clause-exact
returns-in-None-clause-exact c =
    let q = ap (λ (xs : List ℕ). length xs) c.payload-payload.ensures in
    let count : c.u32_at-count.result ≡ field (box_seen c.args.leaf).payload 8 4 = rw c.payload-payload.ensures at c.u32_at-count.ensures in
    let l = compact_len_is (box_seen c.args.leaf) c.payload-payload.result.now _ c.u32_at-count.result c.compact_len.result c.payload-payload.ensures refl c.u32_at-count.ensures c.compact_len.ensures in
    let need = compact_needed (box_seen c.args.leaf).payload in
    let bits : slice_index c.payload-payload.result.now 7 ≡ size_bits (box_seen c.args.leaf).payload = bits_are c.payload-payload.result.now (slice_index c.payload-payload.result.now 7) refl ∙ ap size_bits c.payload-payload.ensures in
    let bad : has_bad_value stz2 (box_seen c.args.leaf).payload ≡ true = ap not (ap is_size_bits (sym bits) ∙ c.in-None.ensures) in
    rw c.fault-in-None.ensures (sizes_judged stz2 c.args.limits (box_seen c.args.stbl) (box_seen c.args.leaf) (found_compact (box_seen c.args.stbl) (box_seen c.args.leaf) c.requires.tables c.requires.first) refl refl refl refl true true true
    (nat_le_yes (needed stz2 (box_seen c.args.leaf).payload) (length (box_seen c.args.leaf).payload) (omega arith)) (nat_le_yes (sample_count (box_seen c.args.leaf).payload) c.args.limits.room (omega arith)) bad c.in_ok-version_of.ensures.exact)
