-- When a track begins, by its edits and its first sample.
use Rattle.std.proofs.Common.{◌≡◌, ℕ, zero, suc, ◌+◌, ◌*◌, ◌<◌, Bool, true, false, if◌then◌else◌, ◌&&◌, ◌||◌, eqb, eqb-true, List, [], ◌∷◌, length, drop, map, refl, sym, ap, ◌∙◌, arith, ℤ, pos, negsuc, neg_ℤ, ◌+ℤ◌, ◌-ℤ◌, ◌*ℤ◌}
use Rattle.std.specs.Prelude.{slice_index_or}
use Rattle.std.proofs.lemmas.Bool.{eqb-false}
use Rattle.std.proofs.lemmas.Int.{ints}
use Rattle.mp4_boxes.proofs.Plain.{drop_all, drop_suc, get_some}
use Rattle.mp4_head.specs.format.Head as heads
use Rattle.mp4_head.specs.words.Seen.{edit_seen}
use Rattle.mp4_head.specs.declared.edit_list.Edit.{Edit}
use Rattle.mp4_present.specs.format.Presentation.{Track}
use Rattle.mp4_content.specs.format.LeadIns.{first_shown, from_0, is_empty, is_last, is_lead_in, is_plain, shown_from, waits}
use Rattle.mp4_content.specs.format.Reduced.{first_offset}
use Rattle.mp4_content.specs.words.Delays.{moment_of}

-- ---- the first edit that isn't empty

pub shown_there : (es : List Edit) (k : ℕ) (d : Edit) → k < length es → is_empty (edit_seen (slice_index_or es k d)) ≡ false → shown_from (map edit_seen (drop k es)) ≡ (slice_index_or es k d).media_time
shown_there [] k d lt h = absurd (omega (arith, lt))
shown_there (e ∷ es) zero d lt h = λ i. if h i then shown_from (map edit_seen es) else e.media_time
shown_there (e ∷ es) (suc k) d lt h = shown_there es k d (omega (arith, lt)) h

plain_there : (es : List Edit) (k : ℕ) (d : Edit) → k < length es → is_empty (edit_seen (slice_index_or es k d)) ≡ false → is_plain (edit_seen (slice_index_or es k d)) ≡ true → is_lead_in (map edit_seen (drop k es)) ≡ is_last (map edit_seen (drop (suc k) es))
plain_there [] k d lt h p = absurd (omega (arith, lt))
plain_there (e ∷ es) zero d lt h p = λ i. if h i then is_lead_in (map edit_seen es) else p i && is_last (map edit_seen es)
plain_there (e ∷ es) (suc k) d lt h p = plain_there es k d (omega (arith, lt)) h p

last_there : (es : List Edit) (k : ℕ) → k < length es → is_last (map edit_seen (drop (suc k) es)) ≡ eqb (k + 1) (length es)
last_there es k lt = by (eqb (k + 1) (length es)) refl
  where
    by : (t : Bool) → eqb (k + 1) (length es) ≡ t → is_last (map edit_seen (drop (suc k) es)) ≡ t
    by true e = let same = eqb-true (k + 1) (length es) e in ap (λ (xs : List Edit). is_last (map edit_seen xs)) (drop_all es (suc k) (omega (arith, same)))
    by false e =
        let other = eqb-false (k + 1) (length es) e in
        let there = get_some es (suc k) (omega (arith, lt, other)) in
        ap (λ (xs : List Edit). is_last (map edit_seen xs)) (drop_suc es (suc k) there.0 there.1)

not_last : (es : List Edit) → 0 < length es → is_last (map edit_seen es) ≡ false
not_last [] h = absurd (omega (arith, h))
not_last (e ∷ es) h = refl

pub simply_there : (es : List Edit) (k : ℕ) (d : Edit) → k < length es → is_empty (edit_seen (slice_index_or es k d)) ≡ false → is_plain (edit_seen (slice_index_or es k d)) ≡ true
    → is_lead_in (map edit_seen es) ≡ is_lead_in (map edit_seen (drop k es)) → eqb (k + 1) (length es) ≡ (is_last (map edit_seen es) || is_lead_in (map edit_seen es))
simply_there es k d lt h p same =
    sym (last_there es k lt) ∙ sym (plain_there es k d lt h p) ∙ sym same ∙ (λ i. sym (not_last es (omega (arith, lt))) i || is_lead_in (map edit_seen es))

-- ---- the moment

both_parts : (z : ℤ) → pos (from_0 z) -ℤ pos (from_0 (neg_ℤ z)) ≡ z
both_parts (pos zero) = omega (arith, ints)
both_parts (pos (suc n)) = omega (arith, ints)
both_parts (negsuc n) = omega (arith, ints)

span_of : (start a b c d : ℕ) (cto shown : ℤ) → pos a -ℤ pos b ≡ cto → pos c -ℤ pos d ≡ shown → pos (start + a + d) -ℤ pos (b + c) ≡ (pos start +ℤ cto) -ℤ shown
span_of start a b c d cto shown h k = omega (arith, ints, h, k)

pub begins_there : (s w r later earlier start : ℕ) (cto shown : ℤ) (edits : List heads.Edit) (t : Track)
    → w ≡ waits edits → shown ≡ shown_from edits → later ≡ start + from_0 cto + from_0 (neg_ℤ shown) → earlier ≡ from_0 (neg_ℤ cto) + from_0 shown
    → t.head.edits ≡ edits → r ≡ t.head.media.timescale → t.start ≡ start → first_offset t.samples ≡ cto
    → moment_of s (record { waits = w; later = later; earlier = earlier; timescale = r }) ≡ first_shown s t
begins_there s w r later earlier start cto shown edits t waits_is shown_is later_is earlier_is same scale begins offset =
    let span : pos later -ℤ pos earlier ≡ (pos start +ℤ cto) -ℤ shown = (λ i. pos (later_is i) -ℤ pos (earlier_is i)) ∙ span_of start (from_0 cto) (from_0 (neg_ℤ cto)) (from_0 shown) (from_0 (neg_ℤ shown)) cto shown (both_parts cto) (both_parts shown) in
    let all : (pos start +ℤ cto) -ℤ shown ≡ (pos t.start +ℤ first_offset t.samples) -ℤ shown_from t.head.edits = λ i. (pos (sym begins i) +ℤ sym offset i) -ℤ (shown_is ∙ ap shown_from (sym same)) i in
    let empty : w ≡ waits t.head.edits = waits_is ∙ ap waits (sym same) in
    λ i. record {
      ticks = pos (empty i * scale i) +ℤ (span ∙ all) i *ℤ pos s;
      scale = s * scale i;
    }
