-- Places of the types of boxes that become free space: a file over which `free` is laid there is its copy.
use Rattle.std.proofs.Common.{◌≡◌, ◌∙◌, inl, inr, ℕ, zero, suc, ◌+◌, ◌-◌, ◌<◌, ◌≤◌, List, [], ◌∷◌, ◌++◌, length, take, drop, get_or, Bool, refl, sym, ap, subst, arith, true, false, None, Some, Ok, length-append}
use Rattle.std.specs.Prelude.{IsTrue, bytes_eq, codes, not, ◌&&◌}
use Rattle.std.specs.List.{All}
use Rattle.std.specs.List.Sorted.{IsNonDecreasing}
use Rattle.std.proofs.lemmas.Bool.{cases_lt}
use Rattle.std.proofs.lemmas.List.{append_assoc, append-nil, get_or_append_left, get_or-append_right}
use Rattle.std.proofs.lemmas.List.Elements.{All-append, All-nil, All-push, All-weaker, All-get_or}
use Rattle.std.proofs.lemmas.List.Sorted.{IsNonDecreasingBy-from_default, IsNonDecreasingBy-short}
use Rattle.mp4_boxes.specs.format.Box.{Header, header_at}
use Rattle.mp4_boxes.specs.words.View.{top_header_seen}
use Rattle.mp4_boxes.specs.declared.headers.TopHeader.{TopHeader}
use Rattle.mp4_boxes.specs.declared.rule.Rule.{Rule}
use Rattle.mp4_boxes.specs.declared.rule.Rule.TheVariants.{File}
use Rattle.mp4_store.specs.words.Device.{range}
use Rattle.mp4_store.specs.words.LaidWords.{laid, laid_at, HasRoom, ArePlaces}
use Rattle.mp4_store.proofs.Known.{range-add}
use Rattle.mp4_store.proofs.LaidWords.{laid_at_apart, laid_at_whole, laid_alike, laid_apart, laid-append, length-laid}
use Rattle.mp4_answers.specs.format.BoxWalk.{rule_inside}
use Rattle.mp4_answers.specs.declared.box_names.Name.{Name}
use Rattle.mp4_answers.specs.format.Strips.{is_top, is_named, freed, uuid_at, Strips, IsStripped, ends, frees, keeps, enters}
use Rattle.mp4_answers.specs.format.Losses.{FirstLost, HasBox, ends as has_none, here as has_first, behind as has_later, is_fragment, IsFirstLost, KeepsIf, KeepsTime}
use Rattle.mp4_answers.specs.words.FreedPlaces.{IsTypeBetween, AreFreed, AddsFreed}
use Rattle.mp4_answers.proofs.FirstLosses.{lost_ends, lost_entered, lost_kept}
use Rattle.mp4_answers.proofs.Stripped.{of_file}
use Rattle.mp4_answers.proofs.StripWalks.{freed_range, whole_box, its_header, behind_it, its_payload}
use Rattle.mp4_answers.proofs.BoxSpans.{whole_range}

-- what is read of a file with `free` at some places
abbrev pub with_free : List ℕ → List ℕ → List ℕ
with_free file places = laid (codes "free") places file

-- none of these places lies before another one
abbrev pub AllFrom : ℕ → List ℕ → Type 0
AllFrom place places = (i : ℕ) → i < length places → place ≤ get_or places i 0

-- what stands from a place on for the boxes there is what is read there
abbrev pub Copies : List Name → Rule → List ℕ → ℕ → ℕ → List ℕ → Type 0
Copies names rule file end place places = Strips names rule (range file place (end - place)) (range (with_free file places) place (end - place))

-- ---- reads

-- of the bytes before all places
apart_before : (file places : List ℕ) (at n : ℕ) → AllFrom (at + n) places → range (with_free file places) at n ≡ range file at n
apart_before file places at n all = laid_apart (codes "free") places file at n (λ i lt. inr (all i lt))

-- of the bytes behind all places
apart_behind : (file places : List ℕ) (from at n : ℕ) → All (IsTypeBetween from at) places → range (with_free file places) at n ≡ range file at n
apart_behind file places from at n all = laid_apart (codes "free") places file at n (λ i lt. let here : IsTypeBetween from at (get_or places i 0) = All-get_or (IsTypeBetween from at) places i 0 lt all in inl here.1)

-- in two parts
parted : (list : List ℕ) (at middle end : ℕ) → at ≤ middle → middle ≤ end → range list at (end - at) ≡ range list at (middle - at) ++ range list middle (end - middle)
parted list at middle end le more =
    let count : end - at ≡ (middle - at) + (end - middle) = omega (arith, le, more) in
    let place : at + (middle - at) ≡ middle = omega (arith, le) in
    ap (range list at) count ∙ range-add list at (middle - at) (end - middle) ∙ ap (λ p. range list at (middle - at) ++ range list p (end - middle)) place

-- of a box with `free` in the place of its type
freed_read : (file : List ℕ) (at n : ℕ) → 8 ≤ n → at + n ≤ length file → range (laid_at (codes "free") (at + 4) file) at n ≡ freed (range file at n)
freed_read file at n le within =
    let whole = laid_at (codes "free") (at + 4) file in
    let count : n ≡ 4 + (4 + (n - 8)) = omega (arith, le) in
    let place : at + 4 + 4 ≡ at + 8 = omega arith in
    let front : range whole at 4 ≡ range file at 4 = laid_at_apart (codes "free") (at + 4) file at 4 (inr (omega arith)) in
    let word : range whole (at + 4) 4 ≡ codes "free" = laid_at_whole (codes "free") (at + 4) file (omega (arith, le, within)) in
    let rest : range whole (at + 8) (n - 8) ≡ range file (at + 8) (n - 8) = laid_at_apart (codes "free") (at + 4) file (at + 8) (n - 8) (inl (omega arith)) in
    ap (range whole at) count
    ∙ range-add whole at 4 (4 + (n - 8))
    ∙ ap (λ l. range whole at 4 ++ l) (range-add whole (at + 4) 4 (n - 8) ∙ ap (λ p. range whole (at + 4) 4 ++ range whole p (n - 8)) place)
    ∙ (λ i. front i ++ (word i ++ rest i))
    ∙ sym (freed_range file at n le)

-- ---- one more box is walked over

module _ (names : List Name) (rule : Rule) (file : List ℕ) (at end : ℕ) (h : TopHeader) (from : at + h.header ≤ h.end) (to : h.end ≤ end) (long : 8 ≤ h.header) (within : end ≤ length file) (read : header_at (is_top rule) (range file at (end - at)) ≡ Ok (top_header_seen at h)) where
  moved : (rest : List ℕ) → Strips names rule (range file h.end (end - h.end)) rest → Strips names rule (drop (h.end - at) (range file at (end - at))) rest
  moved rest s = subst (λ bs. Strips names rule bs rest) (sym (behind_it file at end h from to)) s

  pub place_frees : is_named names rule h.kind.0 (uuid_at (top_header_seen at h) (range file at (end - at))) ≡ true → (places : List ℕ) → AllFrom h.end places → Copies names rule file end h.end places → Copies names rule file end at ((at + 4) ∷ places)
  place_frees n places all s =
      let more = laid_at (codes "free") (at + 4) file in
      let size = h.end - at in
      let room : at + size ≡ h.end = omega (arith, from) in
      let own : range (with_free file ((at + 4) ∷ places)) at size ≡ freed (take size (range file at (end - at))) =
      apart_before more places at size (λ i lt. let le = all i lt in omega (arith, le, room))
      ∙ freed_read file at size (omega (arith, from, long)) (omega (arith, room, to, within))
      ∙ ap freed (sym (whole_box file at end h from to)) in
      let rest : range (with_free file ((at + 4) ∷ places)) h.end (end - h.end) ≡ range (with_free file places) h.end (end - h.end) =
      laid_alike (codes "free") places more file h.end (end - h.end) (laid_at_apart (codes "free") (at + 4) file h.end (end - h.end) (inl (omega (arith, from, long)))) in
      frees rule (range file at (end - at)) _ (top_header_seen at h) _ read n (moved _ s) (parted (with_free file ((at + 4) ∷ places)) at h.end end (omega (arith, from)) to ∙ (λ i. own i ++ rest i))

  pub place_keeps : is_named names rule h.kind.0 (uuid_at (top_header_seen at h) (range file at (end - at))) ≡ false → rule_inside rule h.kind.0 ≡ None → (places : List ℕ) → AllFrom h.end places → Copies names rule file end h.end places → Copies names rule file end at places
  place_keeps n i places all s =
      let size = h.end - at in
      let room : at + size ≡ h.end = omega (arith, from) in
      let own : range (with_free file places) at size ≡ take size (range file at (end - at)) =
      apart_before file places at size (λ i lt. let le = all i lt in omega (arith, le, room)) ∙ sym (whole_box file at end h from to) in
      keeps rule (range file at (end - at)) _ (top_header_seen at h) _ read n i (moved _ s) (parted (with_free file places) at h.end end (omega (arith, from)) to ∙ ap (λ l. l ++ range (with_free file places) h.end (end - h.end)) own)

  pub place_enters : (inner : Rule) → is_named names rule h.kind.0 (uuid_at (top_header_seen at h) (range file at (end - at))) ≡ false → rule_inside rule h.kind.0 ≡ Some inner → (own places : List ℕ) → All (IsTypeBetween (at + h.header) h.end) own → AllFrom h.end places
      → Copies names inner file h.end (at + h.header) own → Copies names rule file end h.end places → Copies names rule file end at (own ++ places)
  place_enters inner n i own places between all t s =
      let both = with_free file (own ++ places) in
      let two : both ≡ with_free (with_free file own) places = laid-append (codes "free") own places file in
      let head : range both at h.header ≡ take h.header (range file at (end - at)) =
      ap (λ l. range l at h.header) two
      ∙ apart_before (with_free file own) places at h.header (λ i lt. let le = all i lt in omega (arith, le, from))
      ∙ apart_before file own at h.header (λ i lt. let here : IsTypeBetween (at + h.header) h.end (get_or own i 0) = All-get_or (IsTypeBetween (at + h.header) h.end) own i 0 lt between in let le = here.0 in omega (arith, le))
      ∙ sym (its_header file at end h from to) in
      let size = h.end - (at + h.header) in
      let room : at + h.header + size ≡ h.end = omega (arith, from) in
      let inside : range both (at + h.header) size ≡ range (with_free file own) (at + h.header) size =
      ap (λ l. range l (at + h.header) size) two ∙ apart_before (with_free file own) places (at + h.header) size (λ i lt. let le = all i lt in omega (arith, le, room)) in
      let rest : range both h.end (end - h.end) ≡ range (with_free file places) h.end (end - h.end) =
      ap (λ l. range l h.end (end - h.end)) two
      ∙ laid_alike (codes "free") places (with_free file own) file h.end (end - h.end) (apart_behind file own (at + h.header) h.end (end - h.end) between) in
      let header : at + h.header - at ≡ h.header = omega arith in
      let whole = parted both at (at + h.header) end (omega arith) (omega (arith, from, to))
      ∙ ap (λ k. range both at k ++ range both (at + h.header) (end - (at + h.header))) header
      ∙ ap (λ l. range both at h.header ++ l) (parted both (at + h.header) h.end end from to)
      ∙ (λ i. head i ++ (inside i ++ rest i)) in
      enters rule (range file at (end - at)) _ (top_header_seen at h) inner _ _ read n i (subst (λ bs. Strips names inner bs (range (with_free file own) (at + h.header) size)) (sym (its_payload file at end h from to)) t) (moved _ s) whole

-- where no bytes are left nothing stands for them
pub place_ends : (names : List Name) (rule : Rule) (file : List ℕ) (at end : ℕ) → end ≤ at → Copies names rule file end at []
place_ends names rule file at end le = let none : end - at ≡ 0 = omega (arith, le) in ends rule (range file at (end - at)) (range file at (end - at)) (ap (range file at) none) (ap (range file at) none)

-- ---- what is lost where no box is freed

nil_left : (xs ys : List ℕ) → xs ++ ys ≡ [] → xs ≡ []
nil_left [] ys e = refl
nil_left (x ∷ xs) ys e = absurd (let n = ap length e in omega (arith, n))

nil_right : (xs ys : List ℕ) → xs ++ ys ≡ [] → ys ≡ []
nil_right [] ys e = e
nil_right (x ∷ xs) ys e = absurd (let n = ap length e in omega (arith, n))

one_more : (xs : List ℕ) (y : ℕ) → xs ++ y ∷ [] ≡ [] → ⊥
one_more xs y e = let n = ap length (nil_right xs (y ∷ []) e) in omega (arith, n)

-- a box here, or one of those behind it
next_box : (kind : List ℕ) (top : Bool) (bytes : List ℕ) (h : Header) → header_at top bytes ≡ Ok h → (same : Bool) → bytes_eq h.kind kind ≡ same → (has : Bool) → HasBox kind top (drop h.size bytes) has → (found : Bool) × HasBox kind top bytes found
next_box kind top bytes h e true same has x = (true, has_first bytes h e same)
next_box kind top bytes h e false same has x = (has, has_later bytes h has e same x)

-- among boxes that can be walked over there is one of a type, or is none
box_or_none : (kind : List ℕ) (names : List Name) (rule : Rule) (bytes text : List ℕ) → Strips names rule bytes text → (has : Bool) × HasBox kind (is_top rule) bytes has
box_or_none kind names rule bytes text (ends _ _ _ b t) = (false, has_none bytes b)
box_or_none kind names rule bytes text (frees _ _ _ h rest e n s t) = let x = box_or_none kind names rule (drop h.size bytes) rest s in next_box kind (is_top rule) bytes h e (bytes_eq h.kind kind) refl x.0 x.1
box_or_none kind names rule bytes text (keeps _ _ _ h rest e n i s t) = let x = box_or_none kind names rule (drop h.size bytes) rest s in next_box kind (is_top rule) bytes h e (bytes_eq h.kind kind) refl x.0 x.1
box_or_none kind names rule bytes text (enters _ _ _ h inner inside rest e n i w s t) = let x = box_or_none kind names rule (drop h.size bytes) rest s in next_box kind (is_top rule) bytes h e (bytes_eq h.kind kind) refl x.0 x.1

kept_or_not : (asked : Bool) (names : List Name) (rule : Rule) (bytes text : List ℕ) → Strips names rule bytes text → (has : Bool) × KeepsIf asked rule bytes has
kept_or_not true names rule bytes text s = box_or_none (codes "tfdt") names rule bytes text s
kept_or_not false names rule bytes text s = (false, refl)

-- so it is known whether they keep a time
time_or_not : (names : List Name) (rule : Rule) (bytes text : List ℕ) → Strips names rule bytes text → (has : Bool) × KeepsTime names rule bytes has
time_or_not names rule bytes text s = kept_or_not (is_fragment rule && not (is_named names rule (codes "tfdt") None)) names rule bytes text s

-- ---- places that are found

-- of the boxes up to another place: with those from there on they are those of all
pub record Found (names : List Name) (rule : Rule) (from at end : ℕ) (honest : Bool) (file found : List ℕ) : Type 0 where
  pub rise : IsNonDecreasing found
  pub between : All (IsTypeBetween from at) found
  pub copy : IsTrue honest → (places : List ℕ) → AllFrom at places → Copies names rule file end at places → Copies names rule file end from (found ++ places)
  pub lost : IsTrue honest → found ≡ [] → (has : Bool) → FirstLost names rule has at (range file at (end - at)) None → FirstLost names rule has from (range file from (end - from)) None

pub rise_append : (xs ys : List ℕ) (middle : ℕ) → IsNonDecreasing xs → IsNonDecreasing ys → ((i : ℕ) → i < length xs → get_or xs i 0 ≤ middle) → AllFrom middle ys → IsNonDecreasing (xs ++ ys)
rise_append xs ys middle p q low high = IsNonDecreasingBy-from_default (λ n. n) (xs ++ ys) 0 (λ i j le lt.
    let count = length-append xs ys in
    elim (cases_lt j (length xs)) [
      | inl near ↦ rw (get_or_append_left xs ys 0 i (omega (arith, le, near)), get_or_append_left xs ys 0 j near) (p i j 0 le near)
      | inr far ↦ elim (cases_lt i (length xs)) [
        | inl near ↦
            let one = low i near in
            let other = high (j - length xs) (omega (arith, far, lt, count)) in
            rw (get_or_append_left xs ys 0 i near, get_or-append_right xs ys (length xs) j 0 refl far) (omega (arith, one, other))
        | inr behind ↦ rw (get_or-append_right xs ys (length xs) i 0 refl behind, get_or-append_right xs ys (length xs) j 0 refl far) (q (i - length xs) (j - length xs) 0 (omega (arith, le)) (omega (arith, far, lt, count)))
      ]
    ])

-- none are found yet
pub found_none : (names : List Name) (rule : Rule) (from end : ℕ) (honest : Bool) (file : List ℕ) → Found names rule from from end honest file []
found_none names rule from end honest file = record { rise = IsNonDecreasingBy-short (λ n. n) [] (omega arith); between = All-nil (IsTypeBetween from from); copy = λ told places all s. s; lost = λ told e has x. x }

-- all are
pub found_all : (names : List Name) (rule : Rule) (from at end : ℕ) (honest : Bool) (file found : List ℕ) → at ≤ end → end ≤ at → Found names rule from at end honest file found → AreFreed names rule from end honest file found
found_all names rule from at end honest file found le ge f = record {
  rise = f.rise;
  between = All-weaker (IsTypeBetween from at) (IsTypeBetween from end) (λ x p. let low = p.0 in let high = p.1 in (low, omega (arith, high, le))) found f.between;
  copy = λ told. subst (λ ps. Copies names rule file end from ps) (append-nil found) (f.copy told [] (λ i lt. absurd (omega (arith, lt))) (place_ends names rule file at end ge));
  lost = λ told e has. f.lost told e has (lost_ends names rule has file at end ge);
}

module _ (names : List Name) (rule : Rule) (file : List ℕ) (from at end : ℕ) (h : TopHeader) (begin : from ≤ at) (through : at + h.header ≤ h.end) (to : h.end ≤ end) (long : 8 ≤ h.header) (within : end ≤ length file) (honest : Bool)
    (read : IsTrue honest → header_at (is_top rule) (range file at (end - at)) ≡ Ok (top_header_seen at h)) where
  longer : (found : List ℕ) → All (IsTypeBetween from at) found → All (IsTypeBetween from h.end) found
  longer found all = All-weaker (IsTypeBetween from at) (IsTypeBetween from h.end) (λ x p. let low = p.0 in let high = p.1 in (low, omega (arith, high, through))) found all

  below : (found : List ℕ) → All (IsTypeBetween from at) found → (i : ℕ) → i < length found → get_or found i 0 ≤ at
  below found all i lt = let here : IsTypeBetween from at (get_or found i 0) = All-get_or (IsTypeBetween from at) found i 0 lt all in let high = here.1 in omega (arith, high)

  pub found_freed : (found : List ℕ) → (IsTrue honest → is_named names rule h.kind.0 (uuid_at (top_header_seen at h) (range file at (end - at))) ≡ true) → Found names rule from at end honest file found → Found names rule from h.end end honest file (found ++ (at + 4) ∷ [])
  found_freed found n f = record {
    rise = rise_append found ((at + 4) ∷ []) at f.rise (IsNonDecreasingBy-short (λ n. n) ((at + 4) ∷ []) (omega arith)) (below found f.between) (λ i lt. only i lt);
    between = All-push (IsTypeBetween from h.end) found (at + 4) (longer found f.between) (omega (arith, begin), omega (arith, through, long));
    copy = λ told places all s.
        let one = f.copy told ((at + 4) ∷ places) (λ i lt. first places all i lt) (place_frees names rule file at end h through to long within (read told) (n told) places all s) in
        subst (λ ps. Copies names rule file end from ps) (sym (append_assoc found ((at + 4) ∷ []) places)) one;
    lost = λ told e has x. absurd (one_more found (at + 4) e);
  }
    where
      only : (i : ℕ) → i < length ((at + 4) ∷ []) → at ≤ get_or ((at + 4) ∷ []) i 0
      only zero lt = omega arith
      only (suc i) lt = absurd (omega (arith, lt))

      first : (places : List ℕ) → AllFrom h.end places → (i : ℕ) → i < length ((at + 4) ∷ places) → at ≤ get_or ((at + 4) ∷ places) i 0
      first places all zero lt = omega arith
      first places all (suc i) lt = let le = all i (omega (arith, lt)) in omega (arith, le, through)

  pub found_kept : (found : List ℕ) → (IsTrue honest → is_named names rule h.kind.0 (uuid_at (top_header_seen at h) (range file at (end - at))) ≡ false) → rule_inside rule h.kind.0 ≡ None → Found names rule from at end honest file found → Found names rule from h.end end honest file found
  found_kept found n i f = record {
    rise = f.rise;
    between = longer found f.between;
    copy = λ told places all s. f.copy told places (λ k lt. let le = all k lt in omega (arith, le, through)) (place_keeps names rule file at end h through to long within (read told) (n told) i places all s);
    lost = λ told e has x. f.lost told e has (lost_kept names rule file at end h through to (read told) (uuid_at (top_header_seen at h) (range file at (end - at))) refl (n told) i has None x);
  }

  pub found_entered : (inner : Rule) (found own : List ℕ) → (IsTrue honest → is_named names rule h.kind.0 (uuid_at (top_header_seen at h) (range file at (end - at))) ≡ false) → rule_inside rule h.kind.0 ≡ Some inner → AreFreed names inner (at + h.header) h.end honest file own
      → Found names rule from at end honest file found → Found names rule from h.end end honest file (found ++ own)
  found_entered inner found own n i a f = record {
    rise = rise_append found own at f.rise a.rise (below found f.between) (λ k lt. let here : IsTypeBetween (at + h.header) h.end (get_or own k 0) = All-get_or (IsTypeBetween (at + h.header) h.end) own k 0 lt a.between in let le = here.0 in omega (arith, le));
    between = All-append (IsTypeBetween from h.end) found own (longer found f.between) (All-weaker (IsTypeBetween (at + h.header) h.end) (IsTypeBetween from h.end) (λ x p. let low = p.0 in let high = p.1 in (omega (arith, low, begin), high)) own a.between);
    copy = λ told places all s.
        let one = f.copy told (own ++ places) (λ k lt. both own places a.between all k lt) (place_enters names rule file at end h through to long within (read told) inner (n told) i own places a.between all (a.copy told) s) in
        subst (λ ps. Copies names rule file end from ps) (sym (append_assoc found own places)) one;
    lost = λ told e has x.
        let time = time_or_not names inner (range file (at + h.header) (h.end - (at + h.header))) _ (a.copy told) in
        f.lost told (nil_left found own e) has
        (lost_entered names rule file at end h through to (read told) (uuid_at (top_header_seen at h) (range file at (end - at))) refl (n told) inner i time.0 time.1 has None None (a.lost told (nil_right found own e) time.0) x);
  }
    where
      both : (own places : List ℕ) → All (IsTypeBetween (at + h.header) h.end) own → AllFrom h.end places → (k : ℕ) → k < length (own ++ places) → at ≤ get_or (own ++ places) k 0
      both own places between all k lt = elim (cases_lt k (length own)) [
        | inl near ↦ rw (get_or_append_left own places 0 k near) (let here : IsTypeBetween (at + h.header) h.end (get_or own k 0) = All-get_or (IsTypeBetween (at + h.header) h.end) own k 0 near between in let le = here.0 in omega (arith, le))
        | inr far ↦ rw (get_or-append_right own places (length own) k 0 refl far) (let count = length-append own places in let le = all (k - length own) (omega (arith, lt, far, count)) in omega (arith, le, through))
      ]

-- ---- a whole file

module _ (names : List Name) (honest : Bool) (file before after : List ℕ) (none : before ≡ []) (added : AddsFreed names File 0 (length file) honest file before after) where
  are : after ≡ added.0
  are = added.1 ∙ ap (λ l. l ++ added.0) none

  pub whole_places : ArePlaces (length file) after
  whole_places = subst (λ ps. ArePlaces (length file) ps) (sym are) (added.2.rise, All-weaker (IsTypeBetween 0 (length file)) (HasRoom (length file)) (λ x p. p.1) added.0 added.2.between)

  pub whole_copy : IsTrue honest → IsStripped names file (with_free file after)
  whole_copy told =
      let text = with_free file added.0 in
      let n : length file ≡ length text = sym (length-laid (codes "free") added.0 file) in
      let all : range text 0 (length file - 0) ≡ text = ap (λ k. range text 0 (k - 0)) n ∙ whole_range text in
      subst (λ ps. IsStripped names file (with_free file ps)) (sym are) (subst (λ l. IsStripped names file l) all (of_file names file (range text 0 (length file - 0)) (added.2.copy told)))

  -- where there are none, nothing is lost
  pub whole_lost_none : IsTrue honest → after ≡ [] → IsFirstLost names file None
  whole_lost_none told e =
      let lost : FirstLost names File false 0 (range file 0 (length file - 0)) None = added.2.lost told (sym are ∙ e) false in
      subst (λ bs. FirstLost names File false 0 bs None) (whole_range file) lost
