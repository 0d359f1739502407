-- The way to a place of a file.
use Rattle.std.proofs.Common.{◌≡◌, ◌⊎◌, inl, inr, ℕ, ◌+◌, ◌-◌, ◌≤◌, true, List, [], ◌∷◌, ◌++◌, length, drop, Err, sym, ap, subst, ◌∙◌, arith, append_assoc, length-drop}
use Rattle.std.specs.Prelude.{Bool, IsTrue, Option, codes}
use Rattle.std.proofs.lemmas.List.{append-nil}
use Rattle.mp4_boxes.specs.format.Box.{Box, Header, header_at}
use Rattle.mp4_boxes.specs.format.BoxFaults.{header_there}
use Rattle.mp4_boxes.specs.words.View.{top_header_seen}
use Rattle.mp4_boxes.specs.declared.fault.Fault.{Fault}
use Rattle.mp4_boxes.specs.declared.headers.TopHeader.{TopHeader}
use Rattle.mp4_boxes.specs.declared.refusal.Refusal.{Refusal}
use Rattle.mp4_boxes.specs.declared.refusal.Refusal.TheVariants as refusals
use Rattle.mp4_boxes.proofs.Tiling.{header_is}
use Rattle.mp4_store.specs.words.Device.{HasRisen}
use Rattle.mp4_present.specs.words.Reading.{IsTopHeader, RefusesHeader}
use Rattle.mp4_present.specs.declared.reading.TopBox.{TopBox}
use Rattle.mp4_present.proofs.TopLevel.{read_there}
use Rattle.mp4_answers.specs.format.BoxWalk.{top_seen}
use Rattle.mp4_answers.specs.format.Ways.{HoldsFrom, here, behind, HoldsNone, IsChildAt, step_text, IsWay, IsWayIn, ends, goes}
use Rattle.mp4_answers.proofs.StripCopies.{same_header}

-- boxes that a loop has passed, before those that are left
pub record Passed (all left : List Box) : Type 0 where
  pub passed : List Box
  pub whole : passed ++ left ≡ all

pub passed_more : (all left left' : List Box) (b : Box) → Passed all left → left ≡ b ∷ left' → Passed all left'
passed_more all left left' b p e = record {
  passed = p.passed ++ b ∷ [];
  whole = append_assoc p.passed (b ∷ []) left' ∙ ap (λ (bs : List Box). p.passed ++ bs) (sym e) ∙ p.whole;
}

-- a way that ends at a box of a box
pub one_step : (place : ℕ) (b child : Box) (number : Option ℕ) (start text : List ℕ) → IsChildAt place b child
    → text ≡ (start ++ codes " / ") ++ step_text child.kind number → (part : List ℕ) × IsWay place b part × (text ≡ start ++ part)
one_step place b child number start text c e = (
  codes " / " ++ step_text child.kind number ++ [],
  goes b child number [] c (ends child),
  e ∙ append_assoc start (codes " / ") (step_text child.kind number)
      ∙ ap (λ (xs : List ℕ). start ++ (codes " / " ++ xs)) (sym (append-nil (step_text child.kind number))),
)

-- a way that goes on
pub more_steps : (place : ℕ) (b child : Box) (number : Option ℕ) (start middle more text : List ℕ) → IsChildAt place b child
    → middle ≡ (start ++ codes " / ") ++ step_text child.kind number → IsWay place child more → text ≡ middle ++ more
    → (part : List ℕ) × IsWay place b part × (text ≡ start ++ part)
more_steps place b child number start middle more text c e w t = (
  codes " / " ++ step_text child.kind number ++ more,
  goes b child number more c w,
  t ∙ ap (λ (xs : List ℕ). xs ++ more) e
      ∙ append_assoc (start ++ codes " / ") (step_text child.kind number) more
      ∙ append_assoc start (codes " / ") (step_text child.kind number ++ more),
)

-- ---- the file's own box that holds the place

-- the header in front of those boxes
first_of : (file : List ℕ) (place at : ℕ) (top : TopBox) → HoldsFrom file place at top → (h : TopHeader) × IsTopHeader file at h
first_of file place at top (here a t same e from less) = (top.header, e)
first_of file place at top (behind a h t e le x) = (h, e)

-- no header stands at the end of the file
no_header : (file : List ℕ) (at : ℕ) → length file ≤ at → (h : TopHeader) → IsTopHeader file at h → ⊥
no_header file at le h e =
    let is = header_is true (drop at file) (top_header_seen at h) (read_there file at h e) in
    absurd (omega (arith, le, length-drop at file, is.length, is.inside, is.fits))

-- two headers that were read at one place end at one place
ends_same : (file : List ℕ) (at : ℕ) (h g : TopHeader) → IsTopHeader file at h → IsTopHeader file at g → h.end ≡ g.end
ends_same file at h g e f =
    let read = read_there file at h e in
    let is = header_is true (drop at file) (top_header_seen at h) read in
    let sizes : h.end - at ≡ g.end - at = ap (λ (x : Header). x.size) (same_header (header_at true (drop at file)) (top_header_seen at h) (top_header_seen at g) read (read_there file at g f)) in
    omega (arith, sizes, is.length, is.inside)

-- behind a box that ends before the place
pub past_it : (file : List ℕ) (place at : ℕ) (h : TopHeader) (top : TopBox) → IsTopHeader file at h → h.end ≤ place → HoldsFrom file place at top → HoldsFrom file place h.end top
past_it file place at h top e le (here a t same f from less) = absurd (let ends = ends_same file at h top.header e f in omega (arith, ends, le, less))
past_it file place at h top e le (behind a g t f le' x) = subst (λ (n : ℕ). HoldsFrom file place n top) (ends_same file at g h f e) x

-- at the end of the file there is none
pub none_at_end : (file : List ℕ) (place at : ℕ) → length file ≤ at → (top : TopBox) → HoldsFrom file place at top → ⊥
none_at_end file place at le top x = no_header file at le (first_of file place at top x).0 (first_of file place at top x).1

-- nor where no header can be read
pub none_unread : (file : List ℕ) (place at : ℕ) (f : Fault) → header_there true (length file - at) (drop at file) (codes "file") at ≡ Err f → (top : TopBox) → HoldsFrom file place at top → ⊥
none_unread file place at f e top x = let read = (first_of file place at top x).1 in absurd cc

pub top_goes : (file : List ℕ) (place : ℕ) (top : TopBox) (number : Option ℕ) (b : Box) (more text : List ℕ) → HoldsFrom file place 0 top
    → b ≡ top_seen file top → IsWay place b more → text ≡ step_text top.header.kind.0 number ++ more
    → IsWayIn file place text
top_goes file place top number b more text holds same w e =
    inr (top, holds, (number, more, subst (λ (x : Box). IsWay place x more) same w, e))

-- ---- reads that fail

-- where a header is not read, a read failed or the place is held by none
pub none_read : (honest : Bool) (file : List ℕ) (place at : ℕ) (reads reads_after : ℕ) (r : Refusal) → RefusesHeader honest file at reads reads_after r
    → (IsTrue honest → (top : TopBox) → HoldsFrom file place 0 top → HoldsFrom file place at top)
    → HasRisen reads reads_after ⊎ (IsTrue honest → HoldsNone file place)
none_read honest file place at reads reads_after (refusals.Fault f) why on = inr (λ told top x. none_unread file place at f (why told) top (on told top x))
none_read honest file place at reads reads_after refusals.Memory why on = absurd why
none_read honest file place at reads reads_after refusals.NoSuchTrack why on = absurd why
none_read honest file place at reads reads_after refusals.StoreChanged why on = absurd why
none_read honest file place at reads reads_after refusals.StoreFailed why on = inl why
none_read honest file place at reads reads_after refusals.WriteFailed why on = absurd why
