use Rattle.std.proofs.Common.{arith, ap, codes, ◌≡◌, length, List, ℕ, true, false}
use Rattle.std.proofs.lemmas.Result.{err_from_is_err_and}
use Rattle.mp4_boxes.specs.format.Bytes.{field}
use Rattle.mp4_boxes.specs.words.View.{box_seen}
use Rattle.mp4_tables.proofs.LeafRows.{lies_in, first_is_child}
use Rattle.mp4_tables.proofs.SizeReads.{words_read, one_size_read, is_zero, is_some, words_needed}
use Rattle.std.proofs.Common.{refl}
use Rattle.std.specs.Prelude.{nat_le, ◌==◌}
use Rattle.mp4_boxes.specs.format.Layout.{stsz, needed}
use Rattle.mp4_boxes.proofs.Plain.{nat_le_no, nat_le_yes}
use Rattle.mp4_tables.specs.format.Tables.{sample_count}
use Rattle.mp4_tables.proofs.FirstReads.{found_words, sizes_stop, sizes_judged}
use Rattle.mp4_tables.proofs.size_checks.read_words.Goals as goal

pub place_in-place-requires : goal.place_in-place-requires
place_in-place-requires c = let i = (lies_in (box_seen c.args.stbl) (box_seen c.args.leaf) c.requires.tables (first_is_child (codes "stsz") (box_seen c.args.stbl) (box_seen c.args.leaf) c.requires.first)).is in omega arith

pub returns-then-size-eq0-clause-sizes : goal.returns-then-size-eq0-clause-sizes
returns-then-size-eq0-clause-sizes c =
    let q = ap (λ (xs : List ℕ). length xs) c.payload-payload.ensures in
    let v = c.in_ok-version_of.ensures.version in
    let k = c.in_ok-version_of.ensures.known in
    let size : c.u32_at-size.result ≡ field (box_seen c.args.leaf).payload 4 4 = rw c.payload-payload.ensures at c.u32_at-size.ensures in
    let count : c.u32_at-count.result ≡ field (box_seen c.args.leaf).payload 8 4 = rw c.payload-payload.ensures at c.u32_at-count.ensures in
    let p = c.place_in-place.ensures in
    words_read c.args.limits (box_seen c.args.stbl) (box_seen c.args.leaf) true _ c.requires.tables c.requires.first (is_zero _ _ size c.if-size-eq0.true) (omega arith) (omega arith) count (omega arith) (omega arith)

pub returns-clause-sizes : goal.returns-clause-sizes
returns-clause-sizes c =
    let q = ap (λ (xs : List ℕ). length xs) c.payload-payload.ensures in
    let v = c.in_ok-version_of.ensures.version in
    let k = c.in_ok-version_of.ensures.known in
    let size : c.u32_at-size.result ≡ field (box_seen c.args.leaf).payload 4 4 = rw c.payload-payload.ensures at c.u32_at-size.ensures in
    let count : c.u32_at-count.result ≡ field (box_seen c.args.leaf).payload 8 4 = rw c.payload-payload.ensures at c.u32_at-count.ensures in
    let p = c.place_in-place.ensures in
    one_size_read c.args.limits (box_seen c.args.stbl) (box_seen c.args.leaf) c.u32_at-size.result _ c.requires.tables c.requires.first size c.if-size-eq0.false (omega arith) (omega arith) count (omega arith) (omega arith)

pub returns-in_err-version_of-clause-exact : goal.returns-in_err-version_of-clause-exact
returns-in_err-version_of-clause-exact c =
    let p = err_from_is_err_and c.from_residual.result c.from_residual.ensures.1 in
    rw (p.1, p.2) (sizes_stop stsz c.args.limits (box_seen c.args.stbl) (box_seen c.args.leaf) (found_words (box_seen c.args.stbl) (box_seen c.args.leaf) c.requires.tables c.requires.first) refl refl refl refl c.in_err-version_of.field-0.0 c.in_err-version_of.ensures.exact)

pub returns-then-payload-lt12-clause-exact : goal.returns-then-payload-lt12-clause-exact
returns-then-payload-lt12-clause-exact c =
    let q = ap (λ (xs : List ℕ). length xs) c.payload-payload.ensures in
    let need = words_needed (box_seen c.args.leaf).payload (field (box_seen c.args.leaf).payload 4 4 == 0) refl in
    rw c.fault.ensures (sizes_judged stsz c.args.limits (box_seen c.args.stbl) (box_seen c.args.leaf) (found_words (box_seen c.args.stbl) (box_seen c.args.leaf) c.requires.tables c.requires.first) refl refl refl refl false (nat_le (sample_count (box_seen c.args.leaf).payload) c.args.limits.room)
    false (nat_le_no (needed stsz (box_seen c.args.leaf).payload) (length (box_seen c.args.leaf).payload) (omega arith)) refl refl c.in_ok-version_of.ensures.exact)

pub returns-then-payload-count-clause-exact : goal.returns-then-payload-count-clause-exact
returns-then-payload-count-clause-exact c =
    let q = ap (λ (xs : List ℕ). length xs) c.payload-payload.ensures in
    let size : c.u32_at-size.result ≡ field (box_seen c.args.leaf).payload 4 4 = rw c.payload-payload.ensures at c.u32_at-size.ensures in
    let count : c.u32_at-count.result ≡ field (box_seen c.args.leaf).payload 8 4 = rw c.payload-payload.ensures at c.u32_at-count.ensures in
    let z = is_zero _ _ size c.if-size-eq0.true in
    let need = words_needed (box_seen c.args.leaf).payload true z in
    rw c.fault-then-payload-count.ensures (sizes_judged stsz c.args.limits (box_seen c.args.stbl) (box_seen c.args.leaf) (found_words (box_seen c.args.stbl) (box_seen c.args.leaf) c.requires.tables c.requires.first) refl refl refl refl false
    (nat_le (sample_count (box_seen c.args.leaf).payload) c.args.limits.room) false (nat_le_no (needed stsz (box_seen c.args.leaf).payload) (length (box_seen c.args.leaf).payload) (omega arith)) refl refl c.in_ok-version_of.ensures.exact)

pub returns-then-count-limits-clause-exact : goal.returns-then-count-limits-clause-exact
returns-then-count-limits-clause-exact c =
    let q = ap (λ (xs : List ℕ). length xs) c.payload-payload.ensures in
    let size : c.u32_at-size.result ≡ field (box_seen c.args.leaf).payload 4 4 = rw c.payload-payload.ensures at c.u32_at-size.ensures in
    let count : c.u32_at-count.result ≡ field (box_seen c.args.leaf).payload 8 4 = rw c.payload-payload.ensures at c.u32_at-count.ensures in
    let z = is_zero _ _ size c.if-size-eq0.true in
    let need = words_needed (box_seen c.args.leaf).payload true z in
    rw c.fault-then-count-limits.ensures (sizes_judged stsz c.args.limits (box_seen c.args.stbl) (box_seen c.args.leaf) (found_words (box_seen c.args.stbl) (box_seen c.args.leaf) c.requires.tables c.requires.first) refl refl refl refl true false false
    (nat_le_yes (needed stsz (box_seen c.args.leaf).payload) (length (box_seen c.args.leaf).payload) (omega arith)) (nat_le_no (sample_count (box_seen c.args.leaf).payload) c.args.limits.room (omega arith)) refl c.in_ok-version_of.ensures.exact)

pub returns-then-size-eq0-clause-exact : goal.returns-then-size-eq0-clause-exact
returns-then-size-eq0-clause-exact c =
    let q = ap (λ (xs : List ℕ). length xs) c.payload-payload.ensures in
    let size : c.u32_at-size.result ≡ field (box_seen c.args.leaf).payload 4 4 = rw c.payload-payload.ensures at c.u32_at-size.ensures in
    let count : c.u32_at-count.result ≡ field (box_seen c.args.leaf).payload 8 4 = rw c.payload-payload.ensures at c.u32_at-count.ensures in
    let z = is_zero _ _ size c.if-size-eq0.true in
    let need = words_needed (box_seen c.args.leaf).payload true z in
    sizes_judged stsz c.args.limits (box_seen c.args.stbl) (box_seen c.args.leaf) (found_words (box_seen c.args.stbl) (box_seen c.args.leaf) c.requires.tables c.requires.first) refl refl refl refl true true false
    (nat_le_yes (needed stsz (box_seen c.args.leaf).payload) (length (box_seen c.args.leaf).payload) (omega arith)) (nat_le_yes (sample_count (box_seen c.args.leaf).payload) c.args.limits.room (omega arith)) refl c.in_ok-version_of.ensures.exact

pub returns-then-count-limits-2-clause-exact : goal.returns-then-count-limits-2-clause-exact
returns-then-count-limits-2-clause-exact c =
    let q = ap (λ (xs : List ℕ). length xs) c.payload-payload.ensures in
    let size : c.u32_at-size.result ≡ field (box_seen c.args.leaf).payload 4 4 = rw c.payload-payload.ensures at c.u32_at-size.ensures in
    let count : c.u32_at-count.result ≡ field (box_seen c.args.leaf).payload 8 4 = rw c.payload-payload.ensures at c.u32_at-count.ensures in
    let z = is_some _ _ size c.if-size-eq0.false in
    let need = words_needed (box_seen c.args.leaf).payload false z in
    rw c.fault-then-count-limits-2.ensures (sizes_judged stsz c.args.limits (box_seen c.args.stbl) (box_seen c.args.leaf) (found_words (box_seen c.args.stbl) (box_seen c.args.leaf) c.requires.tables c.requires.first) refl refl refl refl true false false
    (nat_le_yes (needed stsz (box_seen c.args.leaf).payload) (length (box_seen c.args.leaf).payload) (omega arith)) (nat_le_no (sample_count (box_seen c.args.leaf).payload) c.args.limits.room (omega arith)) refl c.in_ok-version_of.ensures.exact)

pub returns-clause-exact : goal.returns-clause-exact
returns-clause-exact c =
    let q = ap (λ (xs : List ℕ). length xs) c.payload-payload.ensures in
    let size : c.u32_at-size.result ≡ field (box_seen c.args.leaf).payload 4 4 = rw c.payload-payload.ensures at c.u32_at-size.ensures in
    let count : c.u32_at-count.result ≡ field (box_seen c.args.leaf).payload 8 4 = rw c.payload-payload.ensures at c.u32_at-count.ensures in
    let z = is_some _ _ size c.if-size-eq0.false in
    let need = words_needed (box_seen c.args.leaf).payload false z in
    sizes_judged stsz c.args.limits (box_seen c.args.stbl) (box_seen c.args.leaf) (found_words (box_seen c.args.stbl) (box_seen c.args.leaf) c.requires.tables c.requires.first) refl refl refl refl true true false
    (nat_le_yes (needed stsz (box_seen c.args.leaf).payload) (length (box_seen c.args.leaf).payload) (omega arith)) (nat_le_yes (sample_count (box_seen c.args.leaf).payload) c.args.limits.room (omega arith)) refl c.in_ok-version_of.ensures.exact
