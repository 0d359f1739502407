-- The first fault of the file's own boxes, found header by header.
use Rattle.std.proofs.Common.{◌≡◌, ℕ, suc, ◌+◌, ◌-◌, ◌<◌, ◌≤◌, Bool, true, false, ltb, List, [], ◌∷◌, ◌++◌, length, take, drop, Option, Some, None, Result, Ok, Err, IsTrue, refl, ap, ◌∙◌, arith, length-drop, length-append}
use Rattle.std.specs.Prelude.{codes, bytes_eq, nat_lt}
use Rattle.std.proofs.lemmas.List.{drop-drop}
use Rattle.mp4_boxes.specs.format.Box.{Box, Header, LieEndToEnd, box_of, sizes, file_container}
use Rattle.mp4_boxes.specs.format.BoxFaults.{header_there}
use Rattle.mp4_boxes.specs.format.Children.{count_among, allows}
use Rattle.mp4_boxes.specs.format.FirstFault.{boxes_behind, boxes_or_fault, top_or_fault, top_tests, first_failed, naming, and_then, none_lacking}
use Rattle.mp4_boxes.specs.words.View.{top_header_seen}
use Rattle.mp4_boxes.specs.declared.rule.Rule.TheVariants.{File}
use Rattle.mp4_boxes.specs.declared.headers.TopHeader.{TopHeader}
use Rattle.mp4_boxes.specs.declared.fault.Fault.{Fault}
use Rattle.mp4_boxes.specs.declared.fault.Kind.TheVariants.{BoxNotInProfile, DuplicateBox, MissingBox, FragmentBeforeMovie}
use Rattle.mp4_boxes.specs.declared.refusal.Refusal.{Refusal}
use Rattle.mp4_boxes.specs.declared.refusal.Refusal.TheVariants as refusals
use Rattle.mp4_boxes.proofs.Tiling.{sizes_fit}
use Rattle.mp4_boxes.proofs.Plain.{ltb_by, ltb_not_by}
use Rattle.mp4_present.specs.words.Reading.{IsTopHeader, RefusesHeader, top_box}
use Rattle.mp4_present.specs.words.Outline.{AreSeen, moov_seen}
use Rattle.mp4_present.specs.words.TopJudged.{RefusesTop}
use Rattle.mp4_present.specs.declared.reading.TopBox.{TopBox}
use Rattle.mp4_present.specs.declared.opening.outline.Seen.{Seen}
use Rattle.mp4_present.proofs.OutlineCounts.{count_is, not_both}
use Rattle.mp4_boxes.proofs.ChildrenJudged.{length_few}

-- ---- what is tested of one header

pub refused_first : (boxes : List Box) (b : Box) → allows File b.kind ≡ false → first_failed (naming b (top_tests boxes b.kind)) ≡ Some (record { kind = BoxNotInProfile; box_type = b.kind; offset = b.offset })
refused_first boxes b e = rw e refl

movies : (file : List ℕ) (boxes : List Box) (seen : Seen) (o : Option TopBox) → AreSeen file boxes seen → seen.moov ≡ o → count_among (codes "moov" ∷ []) boxes ≡ length (moov_seen file o)
movies file boxes seen o s e = count_is (codes "moov") boxes ∙ ap (λ (bs : List Box). length bs) (s.moov ∙ ap (moov_seen file) e)

pub repeated_first : (file : List ℕ) (boxes : List Box) (b : Box) (seen : Seen) (top : TopBox) → AreSeen file boxes seen → seen.moov ≡ Some top → allows File b.kind ≡ true → bytes_eq (codes "moov") b.kind ≡ true
    → first_failed (naming b (top_tests boxes b.kind)) ≡ Some (record { kind = DuplicateBox; box_type = b.kind; offset = b.offset })
repeated_first file boxes b seen top s e a k =
    let count : count_among (codes "moov" ∷ []) boxes ≡ 1 = movies file boxes seen (Some top) s e in
    rw (a, k, count) refl

pub movie_fine : (file : List ℕ) (boxes : List Box) (b : Box) (seen : Seen) → AreSeen file boxes seen → seen.moov ≡ None → allows File b.kind ≡ true → bytes_eq (codes "moov") b.kind ≡ true → first_failed (naming b (top_tests boxes b.kind)) ≡ None
movie_fine file boxes b seen s e a k =
    let count : count_among (codes "moov" ∷ []) boxes ≡ 0 = movies file boxes seen None s e in
    rw (a, k, count, not_both b.kind k) refl

pub other_fine : (boxes : List Box) (b : Box) → allows File b.kind ≡ true → bytes_eq (codes "moov") b.kind ≡ false → bytes_eq (codes "moof") b.kind ≡ false → first_failed (naming b (top_tests boxes b.kind)) ≡ None
other_fine boxes b a j k = rw (a, j, k) refl

pub early_first : (file : List ℕ) (boxes : List Box) (b : Box) (seen : Seen) → AreSeen file boxes seen → seen.moov ≡ None → allows File b.kind ≡ true → bytes_eq (codes "moov") b.kind ≡ false → bytes_eq (codes "moof") b.kind ≡ true
    → first_failed (naming b (top_tests boxes b.kind)) ≡ Some (record { kind = FragmentBeforeMovie; box_type = b.kind; offset = b.offset })
early_first file boxes b seen s e a j k =
    let count : count_among (codes "moov" ∷ []) boxes ≡ 0 = movies file boxes seen None s e in
    rw (a, j, k, count) refl

pub fragment_fine : (file : List ℕ) (boxes : List Box) (b : Box) (seen : Seen) → AreSeen file boxes seen → (seen.moov ≡ None → ⊥) → allows File b.kind ≡ true → bytes_eq (codes "moov") b.kind ≡ false → bytes_eq (codes "moof") b.kind ≡ true
    → first_failed (naming b (top_tests boxes b.kind)) ≡ None
fragment_fine file boxes b seen s some a j k = by seen.moov refl
  where
    by : (o : Option TopBox) → seen.moov ≡ o → first_failed (naming b (top_tests boxes b.kind)) ≡ None
    by None e = absurd (some e)
    by (Some top) e =
        let count : count_among (codes "moov" ∷ []) boxes ≡ 1 = movies file boxes seen (Some top) s e in
        rw (a, j, k, count) refl

-- ---- the walk

-- the definition goes on behind the boxes that were passed
abbrev pub TopGoes : List ℕ → List Box → Type 0
TopGoes file boxes = boxes_or_fault top_tests (file_container file) ≡ boxes_behind (suc (length file) - length boxes) top_tests (file_container file) boxes

pub top_goes_none : (file : List ℕ) → TopGoes file []
top_goes_none file = let e : suc (length file) - 0 ≡ suc (length file) = omega arith in rw e refl

module _ (file : List ℕ) (boxes : List Box) (at : ℕ) (lie : LieEndToEnd true 0 file boxes) (taken : sizes boxes ≡ at) (goes : TopGoes file boxes) where
  -- with one step left at least
  one_left : boxes_or_fault top_tests (file_container file) ≡ boxes_behind (suc (length file - length boxes)) top_tests (file_container file) boxes
  one_left =
      let fits = sizes_fit true 0 file boxes lie in
      let many = length_few true 0 file boxes lie in
      let k : suc (length file) - length boxes ≡ suc (length file - length boxes) = omega (arith, fits, many) in
      goes ∙ (λ i. boxes_behind (k i) top_tests (file_container file) boxes)

  due : at < length file → nat_lt (sizes boxes) (length file) ≡ true
  due lt = ltb_by (sizes boxes) (length file) (ltb (sizes boxes) (length file)) refl (omega (arith, taken, lt))

  there : (r : Result Header Fault) → header_there true (length file - at) (drop at file) (codes "file") at ≡ r → header_there true (length (drop (sizes boxes) file)) (drop (sizes boxes) file) (codes "file") (0 + sizes boxes) ≡ r
  there r e =
      let place : 0 + sizes boxes ≡ at = omega (arith, taken) in
      (λ i. header_there true (length (drop (taken i) file)) (drop (taken i) file) (codes "file") (place i)) ∙ ap (λ (n : ℕ). header_there true n (drop at file) (codes "file") at) (length-drop at file) ∙ e

  same_box : (h : TopHeader) → box_of (0 + sizes boxes) (drop (sizes boxes) file) (top_header_seen at h) ≡ top_box file at h
  same_box h =
      let place : 0 + sizes boxes ≡ at = omega (arith, taken) in
      let part : drop h.header (drop (sizes boxes) file) ≡ drop (at + h.header) file = ap (λ (k : ℕ). drop h.header (drop k file)) taken ∙ drop-drop h.header at file in
      λ i. record { kind = h.kind.0; offset = place i; header = h.header; payload = take (h.end - at - h.header) (part i) }

  -- a header that can't be read
  pub top_unread : (f : Fault) → at < length file → header_there true (length file - at) (drop at file) (codes "file") at ≡ Err f → top_or_fault (file_container file) ≡ Err f
  top_unread f lt e = ap (λ r. and_then r (none_lacking File (file_container file))) (one_left ∙ step (due lt) (there (Err f) e))
    where
      step : nat_lt (sizes boxes) (length file) ≡ true → header_there true (length (drop (sizes boxes) file)) (drop (sizes boxes) file) (codes "file") (0 + sizes boxes) ≡ Err f
          → boxes_behind (suc (length file - length boxes)) top_tests (file_container file) boxes ≡ Err f
      step d h = rw (d, h) refl

  -- a box that fails a test
  pub top_failed : (h : TopHeader) (f : Fault) → at < length file → IsTopHeader file at h → first_failed (naming (top_box file at h) (top_tests boxes h.kind.0)) ≡ Some f → top_or_fault (file_container file) ≡ Err f
  top_failed h f lt e t = ap (λ r. and_then r (none_lacking File (file_container file))) (one_left ∙ step (due lt) (there (Ok (top_header_seen at h)) e) (ap (λ (b : Box). first_failed (naming b (top_tests boxes h.kind.0))) (same_box h) ∙ t))
    where
      step : nat_lt (sizes boxes) (length file) ≡ true → header_there true (length (drop (sizes boxes) file)) (drop (sizes boxes) file) (codes "file") (0 + sizes boxes) ≡ Ok (top_header_seen at h)
          → first_failed (naming (box_of (0 + sizes boxes) (drop (sizes boxes) file) (top_header_seen at h)) (top_tests boxes h.kind.0)) ≡ Some f
          → boxes_behind (suc (length file - length boxes)) top_tests (file_container file) boxes ≡ Err f
      step d g u = rw (d, g, u) refl

  -- a box that passes
  pub top_goes_more : (h : TopHeader) → at < length file → IsTopHeader file at h → first_failed (naming (top_box file at h) (top_tests boxes h.kind.0)) ≡ None → TopGoes file (boxes ++ top_box file at h ∷ [])
  top_goes_more h lt e t =
      let fits = sizes_fit true 0 file boxes lie in
      let many = length_few true 0 file boxes lie in
      let b = top_box file at h in
      let k : length file - length boxes ≡ suc (length file) - length (boxes ++ b ∷ []) = omega (arith, fits, many, length-append boxes (b ∷ [])) in
      one_left ∙ step (due lt) (there (Ok (top_header_seen at h)) e) (ap (λ (c : Box). first_failed (naming c (top_tests boxes h.kind.0))) (same_box h) ∙ t)
      ∙ (λ i. boxes_behind (k i) top_tests (file_container file) (boxes ++ same_box h i ∷ []))
    where
      step : nat_lt (sizes boxes) (length file) ≡ true → header_there true (length (drop (sizes boxes) file)) (drop (sizes boxes) file) (codes "file") (0 + sizes boxes) ≡ Ok (top_header_seen at h)
          → first_failed (naming (box_of (0 + sizes boxes) (drop (sizes boxes) file) (top_header_seen at h)) (top_tests boxes h.kind.0)) ≡ None
          → boxes_behind (suc (length file - length boxes)) top_tests (file_container file) boxes
          ≡ boxes_behind (length file - length boxes) top_tests (file_container file) (boxes ++ box_of (0 + sizes boxes) (drop (sizes boxes) file) (top_header_seen at h) ∷ [])
      step d g u = rw (d, g, u) refl

  -- the end
  pub top_ends : length file ≤ at → boxes_or_fault top_tests (file_container file) ≡ Ok boxes
  top_ends le = one_left ∙ step (ltb_not_by (sizes boxes) (length file) (ltb (sizes boxes) (length file)) refl (omega (arith, taken, le)))
    where
      step : nat_lt (sizes boxes) (length file) ≡ false → boxes_behind (suc (length file - length boxes)) top_tests (file_container file) boxes ≡ Ok boxes
      step d = rw d refl

-- the end, with a `moov` and without
pub top_lacks : (file : List ℕ) (boxes : List Box) (seen : Seen) → AreSeen file boxes seen → seen.moov ≡ None → boxes_or_fault top_tests (file_container file) ≡ Ok boxes
    → top_or_fault (file_container file) ≡ Err (record { kind = MissingBox; box_type = codes "file"; offset = 0 })
top_lacks file boxes seen s e all =
    let count : count_among (codes "moov" ∷ []) boxes ≡ 0 = movies file boxes seen None s e in
    ap (λ r. and_then r (none_lacking File (file_container file))) all ∙ rw count refl

pub top_holds : (file : List ℕ) (boxes : List Box) (seen : Seen) (top : TopBox) → AreSeen file boxes seen → seen.moov ≡ Some top → boxes_or_fault top_tests (file_container file) ≡ Ok boxes → top_or_fault (file_container file) ≡ Ok boxes
top_holds file boxes seen top s e all =
    let count : count_among (codes "moov" ∷ []) boxes ≡ 1 = movies file boxes seen (Some top) s e in
    ap (λ r. and_then r (none_lacking File (file_container file))) all ∙ rw count refl

-- why a header is not read
pub refuses_top : (honest : Bool) (file : List ℕ) (at : ℕ) (reads reads_after : ℕ) (r : Refusal) → IsTrue honest → ((f : Fault) → header_there true (length file - at) (drop at file) (codes "file") at ≡ Err f → top_or_fault (file_container file) ≡ Err f)
    → RefusesHeader honest file at reads reads_after r → RefusesTop file r
refuses_top honest file at reads reads_after (refusals.Fault f) told first e = first f (e told)
refuses_top honest file at reads reads_after refusals.Memory told first e = tt
refuses_top honest file at reads reads_after refusals.StoreFailed told first e = tt
refuses_top honest file at reads reads_after refusals.StoreChanged told first e = tt
refuses_top honest file at reads reads_after refusals.WriteFailed told first e = tt
refuses_top honest file at reads reads_after refusals.NoSuchTrack told first e = tt
