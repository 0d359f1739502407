-- The first box with which something is lost, found on a walk.
use Rattle.std.proofs.Common.{◌≡◌, ℕ, ◌+◌, ◌-◌, ◌≤◌, List, length, drop, Bool, true, false, Option, None, Some, Ok, refl, sym, ap, subst, ◌∙◌, arith}
use Rattle.std.specs.Prelude.{codes, bytes_eq}
use Rattle.mp4_store.specs.words.Device.{range}
use Rattle.mp4_boxes.specs.format.Box.{header_at}
use Rattle.mp4_boxes.specs.words.View.{top_header_seen}
use Rattle.mp4_boxes.specs.declared.headers.TopHeader.{TopHeader}
use Rattle.mp4_boxes.specs.declared.rule.Rule.{Rule}
use Rattle.mp4_boxes.specs.declared.rule.Rule.TheVariants.{File}
use Rattle.mp4_answers.specs.declared.box_names.Name.{Name}
use Rattle.mp4_answers.specs.declared.commands.freed_boxes.LostBox.{LostBox}
use Rattle.mp4_answers.specs.format.BoxWalk.{rule_inside}
use Rattle.mp4_answers.specs.format.Losses.{earlier, is_fragment, lost_with, FirstLost, none, freed, kept, entered, HasBox, ends, here, behind, IsFirstLost, KeepsTime}
use Rattle.mp4_answers.specs.format.Strips.{is_top, is_named, uuid_at}
use Rattle.mp4_answers.specs.words.FirstLosses.{FindsFirst, KeepsTimeAt}
use Rattle.mp4_answers.proofs.StripWalks.{behind_it, its_payload}
use Rattle.mp4_answers.proofs.BoxSpans.{whole_range}

-- ---- the first of several

pub earlier_all : (a b c : Option LostBox) → earlier (earlier a b) c ≡ earlier a (earlier b c)
earlier_all None b c = refl
earlier_all (Some l) b c = refl

pub earlier_none : (a : Option LostBox) → earlier a None ≡ a
earlier_none None = refl
earlier_none (Some l) = refl

-- ---- one more box is walked over

module _ (names : List Name) (rule : Rule) (file : List ℕ) (at end : ℕ) (h : TopHeader) (from : at + h.header ≤ h.end) (to : h.end ≤ end) (read : header_at (is_top rule) (range file at (end - at)) ≡ Ok (top_header_seen at h)) where
  moved : (has : Bool) (rest : Option LostBox) → FirstLost names rule has h.end (range file h.end (end - h.end)) rest → FirstLost names rule has (at + (h.end - at)) (drop (h.end - at) (range file at (end - at))) rest
  moved has rest x =
      let place : at + (h.end - at) ≡ h.end = omega (arith, from, to) in
      subst (λ (k : ℕ). FirstLost names rule has k (drop (h.end - at) (range file at (end - at))) rest) (sym place)
      (subst (λ (bs : List ℕ). FirstLost names rule has h.end bs rest) (sym (behind_it file at end h from to)) x)

  pub lost_freed : (uuid : Option (List ℕ)) → uuid ≡ uuid_at (top_header_seen at h) (range file at (end - at)) → is_named names rule h.kind.0 uuid ≡ true → (has : Bool) (rest : Option LostBox)
      → FirstLost names rule has h.end (range file h.end (end - h.end)) rest → FirstLost names rule has at (range file at (end - at)) (earlier (lost_with names rule has at h.kind.0 uuid) rest)
  lost_freed uuid own n has rest x =
      freed rule has at (range file at (end - at)) _ (top_header_seen at h) rest read (subst (λ (u : Option (List ℕ)). is_named names rule h.kind.0 u ≡ true) own n) (moved has rest x)
      (ap (λ (u : Option (List ℕ)). earlier (lost_with names rule has at h.kind.0 u) rest) own)

  pub lost_kept : (uuid : Option (List ℕ)) → uuid ≡ uuid_at (top_header_seen at h) (range file at (end - at)) → is_named names rule h.kind.0 uuid ≡ false → rule_inside rule h.kind.0 ≡ None → (has : Bool) (rest : Option LostBox)
      → FirstLost names rule has h.end (range file h.end (end - h.end)) rest → FirstLost names rule has at (range file at (end - at)) rest
  lost_kept uuid own n i has rest x =
      kept rule has at (range file at (end - at)) rest (top_header_seen at h) read (subst (λ (u : Option (List ℕ)). is_named names rule h.kind.0 u ≡ false) own n) i (moved has rest x)

  pub lost_entered : (uuid : Option (List ℕ)) → uuid ≡ uuid_at (top_header_seen at h) (range file at (end - at)) → is_named names rule h.kind.0 uuid ≡ false → (inner : Rule) → rule_inside rule h.kind.0 ≡ Some inner → (own : Bool) → KeepsTimeAt names inner (at + h.header) h.end own file
      → (has : Bool) (inside rest : Option LostBox) → FirstLost names inner own (at + h.header) (range file (at + h.header) (h.end - (at + h.header))) inside → FirstLost names rule has h.end (range file h.end (end - h.end)) rest
      → FirstLost names rule has at (range file at (end - at)) (earlier inside rest)
  lost_entered uuid is n inner i own k has inside rest y x =
      entered rule has at (range file at (end - at)) _ (top_header_seen at h) inner own inside rest read (subst (λ (u : Option (List ℕ)). is_named names rule h.kind.0 u ≡ false) is n) i
      (subst (λ (bs : List ℕ). KeepsTime names inner bs own) (sym (its_payload file at end h from to)) k)
      (subst (λ (bs : List ℕ). FirstLost names inner own (at + h.header) bs inside) (sym (its_payload file at end h from to)) y) (moved has rest x) refl

  -- and it is of a type or not
  pub has_here : (kind : List ℕ) → bytes_eq h.kind.0 kind ≡ true → HasBox kind (is_top rule) (range file at (end - at)) true
  has_here kind same = here (range file at (end - at)) (top_header_seen at h) read same

  pub has_behind : (kind : List ℕ) → bytes_eq h.kind.0 kind ≡ false → (has : Bool) → HasBox kind (is_top rule) (range file h.end (end - h.end)) has → HasBox kind (is_top rule) (range file at (end - at)) has
  has_behind kind other has x = behind (range file at (end - at)) (top_header_seen at h) has read other (subst (λ (bs : List ℕ). HasBox kind (is_top rule) bs has) (sym (behind_it file at end h from to)) x)

-- where no bytes are left there is none
pub lost_ends : (names : List Name) (rule : Rule) (has : Bool) (file : List ℕ) (at end : ℕ) → end ≤ at → FirstLost names rule has at (range file at (end - at)) None
lost_ends names rule has file at end le = let empty : end - at ≡ 0 = omega (arith, le) in none rule has at (range file at (end - at)) None (ap (range file at) empty) refl

pub has_ends : (kind : List ℕ) (top : Bool) (file : List ℕ) (at end : ℕ) → end ≤ at → HasBox kind top (range file at (end - at)) false
has_ends kind top file at end le = let empty : end - at ≡ 0 = omega (arith, le) in ends (range file at (end - at)) (ap (range file at) empty)

-- ---- whether a time is kept

pub kept_time : (names : List Name) (rule : Rule) (bytes : List ℕ) (has : Bool) → is_fragment rule ≡ true → is_named names rule (codes "tfdt") None ≡ false → HasBox (codes "tfdt") (is_top rule) bytes has → KeepsTime names rule bytes has
kept_time names rule bytes has f n x = rw (f, n) x

-- ---- of a whole file

pub whole_lost : (names : List Name) (file : List ℕ) (before after last : Option LostBox) → FindsFirst names File 0 (length file) before after file → before ≡ None → last ≡ after → IsFirstLost names file last
whole_lost names file before after last on empty same =
    let x : FirstLost names File on.0 0 file on.1 = subst (λ (bs : List ℕ). FirstLost names File on.0 0 bs on.1) (whole_range file) on.3 in
    let y : FirstLost names File false 0 file on.1 = subst (λ (has : Bool). FirstLost names File has 0 file on.1) on.2 x in
    subst (λ (l : Option LostBox). FirstLost names File false 0 file l) (sym (same ∙ on.4 ∙ ap (λ (b : Option LostBox). earlier b on.1) empty)) y
