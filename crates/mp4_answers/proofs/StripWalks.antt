-- Walks over the boxes of a file, but for what lies in those that are named.
use Rattle.std.proofs.Common.{◌≡◌, ℕ, ◌+◌, ◌-◌, ◌≤◌, List, [], ◌++◌, take, drop, refl, sym, ap, subst, ◌∙◌, arith, true, false, None, Some, Ok}
use Rattle.std.specs.Prelude.{codes}
use Rattle.std.proofs.lemmas.List.{take-take, drop-drop, drop-take}
use Rattle.mp4_store.specs.words.Device.{range}
use Rattle.mp4_boxes.specs.format.Box.{header_at}
use Rattle.mp4_boxes.specs.words.View.{top_header_seen}
use Rattle.mp4_boxes.specs.declared.fault.Fault.{Fault}
use Rattle.mp4_boxes.specs.declared.headers.TopHeader.{TopHeader}
use Rattle.mp4_boxes.specs.declared.rule.Rule.{Rule}
use Rattle.mp4_answers.specs.format.BoxWalk.{rule_inside}
use Rattle.mp4_answers.specs.format.Texts.{uuid_in}
use Rattle.mp4_answers.specs.declared.box_names.Name.{Name}
use Rattle.mp4_answers.specs.format.Strips.{is_top, is_named, freed, payload_behind, uuid_at, Strips, ends, frees, keeps, enters, Halts, behind, within}

-- ---- parts of a range

pub take_range : (file : List ℕ) (at n len : ℕ) → n ≤ len → take n (range file at len) ≡ range file at n
take_range file at n len le = take-take n len (drop at file) le

pub drop_range : (file : List ℕ) (at n len : ℕ) → n ≤ len → drop n (range file at len) ≡ range file (at + n) (len - n)
drop_range file at n len le =
    let e : len ≡ n + (len - n) = omega (arith, le) in
    ap (λ k. drop n (take k (drop at file))) e ∙ drop-take n (len - n) (drop at file) ∙ ap (take (len - n)) (drop-drop n at file)

-- a box with this header, its header, its payload, and what follows it up to the end of its container
module _ (file : List ℕ) (at end : ℕ) (h : TopHeader) (from : at + h.header ≤ h.end) (to : h.end ≤ end) where
  pub whole_box : take (h.end - at) (range file at (end - at)) ≡ range file at (h.end - at)
  whole_box = take_range file at (h.end - at) (end - at) (omega (arith, from, to))

  pub its_header : take h.header (range file at (end - at)) ≡ range file at h.header
  its_header = take_range file at h.header (end - at) (omega (arith, from, to))

  pub behind_it : drop (h.end - at) (range file at (end - at)) ≡ range file h.end (end - h.end)
  behind_it =
      let place : at + (h.end - at) ≡ h.end = omega (arith, from, to) in
      let left : end - at - (h.end - at) ≡ end - h.end = omega (arith, from, to) in
      drop_range file at (h.end - at) (end - at) (omega (arith, from, to)) ∙ (λ i. range file (place i) (left i))

  pub its_payload : payload_behind (top_header_seen at h) (range file at (end - at)) ≡ range file (at + h.header) (h.end - (at + h.header))
  its_payload =
      let less : h.end - at - h.header ≡ h.end - (at + h.header) = omega (arith, from, to) in
      ap (take (h.end - at - h.header)) (drop_range file at h.header (end - at) (omega (arith, from, to)))
      ∙ take_range file (at + h.header) (h.end - at - h.header) (end - at - h.header) (omega (arith, from, to))
      ∙ ap (range file (at + h.header)) less

  -- which `uuid` it is, by the payload that was read of it
  pub its_uuid : uuid_in h.kind.0 (take (h.end - at - h.header) (drop (at + h.header) file)) ≡ uuid_at (top_header_seen at h) (range file at (end - at))
  its_uuid =
      ap (uuid_in h.kind.0) (sym (ap (take (h.end - at - h.header)) (drop_range file at h.header (end - at) (omega (arith, from, to)))
      ∙ take_range file (at + h.header) (h.end - at - h.header) (end - at - h.header) (omega (arith, from, to))))

pub freed_range : (file : List ℕ) (at n : ℕ) → 8 ≤ n → freed (range file at n) ≡ range file at 4 ++ (codes "free" ++ range file (at + 8) (n - 8))
freed_range file at n le =
    let front = take_range file at 4 n (omega (arith, le)) in
    let rest = drop_range file at 8 n le in
    λ i. front i ++ (codes "free" ++ rest i)

-- ---- walking

-- where no bytes are left nothing stands for them
pub walk_ends : (names : List Name) (rule : Rule) (file : List ℕ) (at end : ℕ) → end ≤ at → Strips names rule (range file at (end - at)) []
walk_ends names rule file at end le = let none : end - at ≡ 0 = omega (arith, le) in ends rule (range file at (end - at)) [] (ap (range file at) none) refl

-- some text stands for the boxes from a place on
abbrev pub HasText : List Name → Rule → List ℕ → ℕ → ℕ → Type 0
HasText names rule file end place = (text : List ℕ) × Strips names rule (range file place (end - place)) text

-- one more box is walked over: some text stands for it and what follows it, and a fault behind it is one from it on
module _ (names : List Name) (rule : Rule) (file : List ℕ) (at end : ℕ) (h : TopHeader) (from : at + h.header ≤ h.end) (to : h.end ≤ end) (read : header_at (is_top rule) (range file at (end - at)) ≡ Ok (top_header_seen at h)) where
  moved : (rest : List ℕ) → Strips names rule (range file h.end (end - h.end)) rest → Strips names rule (drop (h.end - at) (range file at (end - at))) rest
  moved rest s = subst (λ bs. Strips names rule bs rest) (sym (behind_it file at end h from to)) s

  pub walk_frees : is_named names rule h.kind.0 (uuid_at (top_header_seen at h) (range file at (end - at))) ≡ true → HasText names rule file end h.end → HasText names rule file end at
  walk_frees n s = (_, frees rule (range file at (end - at)) _ (top_header_seen at h) s.0 read n (moved s.0 s.1) refl)

  pub walk_keeps : is_named names rule h.kind.0 (uuid_at (top_header_seen at h) (range file at (end - at))) ≡ false → rule_inside rule h.kind.0 ≡ None → HasText names rule file end h.end → HasText names rule file end at
  walk_keeps n i s = (_, keeps rule (range file at (end - at)) _ (top_header_seen at h) s.0 read n i (moved s.0 s.1) refl)

  pub walk_enters : (inner : Rule) → is_named names rule h.kind.0 (uuid_at (top_header_seen at h) (range file at (end - at))) ≡ false → rule_inside rule h.kind.0 ≡ Some inner
      → HasText names inner file h.end (at + h.header) → HasText names rule file end h.end → HasText names rule file end at
  walk_enters inner n i t s =
      (_, enters rule (range file at (end - at)) _ (top_header_seen at h) inner t.0 s.0 read n i (subst (λ bs. Strips names inner bs t.0) (sym (its_payload file at end h from to)) t.1) (moved s.0 s.1) refl)

  pub halts_behind : (f : Fault) → Halts names f rule h.end (range file h.end (end - h.end)) → Halts names f rule at (range file at (end - at))
  halts_behind f x =
      let place : at + (h.end - at) ≡ h.end = omega (arith, from, to) in
      behind rule at (range file at (end - at)) (top_header_seen at h) read
      (subst (λ k. Halts names f rule k (drop (h.end - at) (range file at (end - at)))) (sym place) (subst (λ bs. Halts names f rule h.end bs) (sym (behind_it file at end h from to)) x))

  pub halts_within : (f : Fault) (inner : Rule) → is_named names rule h.kind.0 (uuid_at (top_header_seen at h) (range file at (end - at))) ≡ false → rule_inside rule h.kind.0 ≡ Some inner
      → Halts names f inner (at + h.header) (range file (at + h.header) (h.end - (at + h.header))) → Halts names f rule at (range file at (end - at))
  halts_within f inner n i x =
      within rule at (range file at (end - at)) (top_header_seen at h) inner read n i (subst (λ bs. Halts names f inner (at + h.header) bs) (sym (its_payload file at end h from to)) x)
