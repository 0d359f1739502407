-- The box at a place of a file where a header was read.
use Rattle.std.proofs.Common.{◌≡◌, ℕ, ◌+◌, ◌-◌, ◌<◌, ◌≤◌, true, List, [], ◌∷◌, length, take, drop, Ok, sym, ap, subst, ◌∙◌, arith}
use Rattle.std.specs.Prelude.{Result}
use Rattle.std.proofs.lemmas.List.{drop-drop}
use Rattle.mp4_boxes.specs.format.Box.{Box, Header, LieEndToEnd, box_of, size}
use Rattle.mp4_boxes.specs.words.View.{top_header_seen}
use Rattle.mp4_boxes.specs.declared.headers.TopHeader.{TopHeader}
use Rattle.mp4_boxes.specs.declared.fault.Kind.{Kind}
use Rattle.mp4_boxes.proofs.Tiling.{header_is, box_size, sizes-cons}
use Rattle.mp4_present.specs.words.Reading.{IsTopHeader, top_box}
use Rattle.mp4_present.specs.words.Outline.{AreFrom}
use Rattle.mp4_present.proofs.TopLevel.{read_there}

ok_is : (x y : Header) → ◌≡◌ {A = Result Header Kind} (Ok x) (Ok y) → x ≡ y
ok_is x y e = cc

-- what stands in front of the boxes that are left
pub record Front (file : List ℕ) (at : ℕ) (h : TopHeader) (after : List Box) : Type 0 where
  pub rest : List Box
  pub is : after ≡ top_box file at h ∷ rest
  pub are_from : AreFrom file h.end rest

pub front_is : (file : List ℕ) (at : ℕ) (h : TopHeader) (after : List Box) → AreFrom file at after → at < length file → IsTopHeader file at h → at ≤ h.end → Front file at h after
front_is file at h [] a lt e le = let w = a.whole in absurd (omega (arith, w, lt))
front_is file at h (b ∷ rest) a lt e le =
    let g = top_header_seen at h in
    let l = a.lie in
    let read = read_there file at h e in
    let same : l.0.0 ≡ g = ok_is l.0.0 g (sym l.0.1 ∙ read) in
    let begins : b ≡ box_of at (drop at file) g = l.0.2 ∙ ap (λ (k : Header). box_of at (drop at file) k) same in
    let part : drop h.header (drop at file) ≡ drop (at + h.header) file = drop-drop h.header at file in
    let is : b ≡ top_box file at h = begins ∙ (λ i. record { kind = h.kind.0; offset = at; header = h.header; payload = take (h.end - at - h.header) (part i) }) in
    let big : size b ≡ h.end - at = ap size begins ∙ box_size at (drop at file) g (header_is true (drop at file) g read) in
    let reached : at + size b ≡ h.end = omega arith in
    let behind : drop (size b) (drop at file) ≡ drop h.end file = drop-drop (size b) at file ∙ ap (λ (k : ℕ). drop k file) reached in
    let w = a.whole in
    record {
      rest = rest;
      is = ap (λ (x : Box). x ∷ rest) is;
      are_from = record {
        lie = subst (λ (k : ℕ). LieEndToEnd true k (drop h.end file) rest) reached (subst (λ (xs : List ℕ). LieEndToEnd true (at + size b) xs rest) behind l.1);
        whole = omega (arith, w, reached, sizes-cons b rest);
      };
    }
