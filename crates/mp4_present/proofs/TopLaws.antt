-- The file's own boxes by the definition of the first fault: the file holds them, with no `moof` before the `moov`, or the fault that is named stands.
use Rattle.std.proofs.Common.{◌≡◌, ℕ, zero, suc, ◌+◌, Bool, true, false, List, [], ◌∷◌, ◌++◌, length, drop, Result, Ok, Err, inl, inr, refl, sym, ap, subst, ◌∙◌, arith, codes}
use Rattle.std.specs.Prelude.{◌⊎◌, ◌||◌, not, nat_lt, cond, bytes_eq}
use Rattle.std.proofs.lemmas.Bool.{ltb-false}
use Rattle.mp4_boxes.specs.format.Box.{Box, Header, Container, header_at, box_of, sizes, file_container, IsFront, StandsAfter}
use Rattle.mp4_boxes.specs.format.BoxFaults.{header_there, type_of, fault_in, fault_of, IsChildFault}
use Rattle.mp4_boxes.specs.format.Children.{Holds, allows, lacks, repeats, count_among, of_kind}
use Rattle.mp4_boxes.specs.format.FirstFault.{boxes_behind, boxes_or_fault, top_or_fault, rule_tests, top_tests, first_failed, naming, is_due, and_then, unless_failed, none_lacking}
use Rattle.mp4_boxes.specs.declared.rule.Rule.TheVariants.{File}
use Rattle.mp4_boxes.specs.declared.fault.Fault.{Fault}
use Rattle.mp4_boxes.specs.declared.fault.Kind.TheVariants.{FragmentBeforeMovie, MissingBox}
use Rattle.mp4_boxes.proofs.ChildrenJudged.{children_are, child_fault_is}
use Rattle.mp4_boxes.proofs.Sound.{same_kind}
use Rattle.mp4_boxes.proofs.Tiling.{lies_push}
use Rattle.mp4_boxes.proofs.Walking.{located_ok}
use Rattle.mp4_present.specs.format.Denotes.{begins_with_movie}
use Rattle.mp4_present.specs.format.Stands.{FragmentFirst}
use Rattle.mp4_present.proofs.OutlineCounts.{count_is}

-- ---- no `moof` before the `moov`

abbrev movies_among : List Box → ℕ
movies_among bs = count_among (codes "moov" ∷ []) bs

-- a box that is no `moof`, or has a `moov` before it
abbrev is_in_order : List Box → Box → Bool
is_in_order before b = not (bytes_eq (codes "moof") b.kind) || nat_lt 0 (movies_among before)

begins_more : (before : List Box) (b : Box) → begins_with_movie before ≡ true → is_in_order before b ≡ true → begins_with_movie (before ++ b ∷ []) ≡ true
begins_more [] b g o = by (bytes_eq (codes "moov") b.kind) (bytes_eq (codes "moof") b.kind) o
  where
    by : (v w : Bool) → not w || false ≡ true → cond v true (cond w false true) ≡ true
    by true w o = refl
    by false false o = refl
    by false true o = o
begins_more (a ∷ before) b g o = by (bytes_eq (codes "moov") a.kind) (bytes_eq (codes "moof") a.kind) refl g (λ g o. begins_more before b g o)
  where
    fewer : bytes_eq (codes "moov") a.kind ≡ false → movies_among (a ∷ before) ≡ movies_among before
    fewer e = let one : movies_among (a ∷ before) ≡ 0 + movies_among before = rw e refl in omega (arith, one)

    rest : bytes_eq (codes "moov") a.kind ≡ false → is_in_order before b ≡ true
    rest e = subst (λ (n : ℕ). not (bytes_eq (codes "moof") b.kind) || nat_lt 0 n ≡ true) (fewer e) o

    by : (v w : Bool) → bytes_eq (codes "moov") a.kind ≡ v → cond v true (cond w false (begins_with_movie before)) ≡ true
        → (begins_with_movie before ≡ true → is_in_order before b ≡ true → begins_with_movie (before ++ b ∷ []) ≡ true)
        → cond v true (cond w false (begins_with_movie (before ++ b ∷ []))) ≡ true
    by true w e g on = refl
    by false true e g on = g
    by false false e g on = on g (rest e)

-- ---- the walk, beside that of the boxes under the rule alone

record IsEarly (c : Container) (f : Fault) : Type 0 where
  pub before : List Box
  pub moof : Box
  pub stands : StandsAfter c before moof
  pub is_moof : bytes_eq (codes "moof") moof.kind ≡ true
  pub no_moov : nat_lt 0 (movies_among before) ≡ false
  pub named : f ≡ fault_of FragmentBeforeMovie moof

abbrev Beside : Container → Result (List Box) Fault → Result (List Box) Fault → Type 0
Beside c ruled (Ok bs) = (ruled ≡ Ok bs) × (begins_with_movie bs ≡ true)
Beside c ruled (Err f) = (ruled ≡ Err f) ⊎ IsEarly c f

abbrev there : List ℕ → List Box → Result Header Fault
there file bs = header_there true (length (drop (sizes bs) file)) (drop (sizes bs) file) (codes "file") (0 + sizes bs)

abbrev next_of : List ℕ → List Box → Header → Box
next_of file bs h = box_of (0 + sizes bs) (drop (sizes bs) file) h

abbrev Goes : ℕ → List ℕ → List Box → Type 0
Goes n file bs = Beside (file_container file) (boxes_behind n (rule_tests File) (file_container file) bs) (boxes_behind n top_tests (file_container file) bs)

beside : (n : ℕ) (file : List ℕ) (bs : List Box) → IsFront (file_container file) bs → begins_with_movie bs ≡ true → Goes n file bs
beside zero file bs front g = (refl, g)
beside (suc n) file bs front g = by_due (is_due (file_container file).extent (length file) (length bs) (sizes bs)) refl (λ b front g. beside n file (bs ++ b ∷ []) front g)
  where
    On : Type 0
    On = (b : Box) → IsFront (file_container file) (bs ++ b ∷ []) → begins_with_movie (bs ++ b ∷ []) ≡ true → Goes n file (bs ++ b ∷ [])

    Step : Header → Type 0
    Step h = Beside (file_container file)
        (unless_failed (first_failed (naming (next_of file bs h) (rule_tests File bs h.kind))) (λ u. boxes_behind n (rule_tests File) (file_container file) (bs ++ next_of file bs h ∷ [])))
        (unless_failed (first_failed (naming (next_of file bs h) (top_tests bs h.kind))) (λ u. boxes_behind n top_tests (file_container file) (bs ++ next_of file bs h ∷ [])))

    in_order : (h : Header) → IsFront (file_container file) (bs ++ next_of file bs h ∷ []) → (m w : Bool) → bytes_eq (codes "moof") h.kind ≡ m → nat_lt 0 (movies_among bs) ≡ w → repeats File bs h.kind ≡ false → allows File h.kind ≡ true → On → Step h
    in_order h front true false m w r a on = rw (a, r, m, w) (inr (record { before = bs; moof = next_of file bs h; stands = front; is_moof = m; no_moov = w; named = refl }))
    in_order h front true true m w r a on = rw (a, r, m, w) (on (next_of file bs h) front (begins_more bs (next_of file bs h) g (rw (m, w) refl)))
    in_order h front false w m e r a on = rw (a, r, m) (on (next_of file bs h) front (begins_more bs (next_of file bs h) g (rw m refl)))

    fresh : (h : Header) → IsFront (file_container file) (bs ++ next_of file bs h ∷ []) → (w : Bool) → repeats File bs h.kind ≡ w → allows File h.kind ≡ true → On → Step h
    fresh h front true r a on = rw (a, r) (inl refl)
    fresh h front false r a on = in_order h front (bytes_eq (codes "moof") h.kind) (nat_lt 0 (movies_among bs)) refl refl r a on

    admitted : (h : Header) → IsFront (file_container file) (bs ++ next_of file bs h ∷ []) → (v : Bool) → allows File h.kind ≡ v → On → Step h
    admitted h front false a on = rw a (inl refl)
    admitted h front true a on = fresh h front (repeats File bs h.kind) refl a on

    by_header : (r : Result Header Fault) → there file bs ≡ r → On
        → Beside (file_container file)
        (and_then r (λ h. unless_failed (first_failed (naming (next_of file bs h) (rule_tests File bs h.kind))) (λ u. boxes_behind n (rule_tests File) (file_container file) (bs ++ next_of file bs h ∷ []))))
        (and_then r (λ h. unless_failed (first_failed (naming (next_of file bs h) (top_tests bs h.kind))) (λ u. boxes_behind n top_tests (file_container file) (bs ++ next_of file bs h ∷ []))))
    by_header (Err k) e on = inl refl
    by_header (Ok h) e on =
        let read = located_ok (codes "file") (0 + sizes bs) (type_of (drop (sizes bs) file)) (header_at true (drop (sizes bs) file)) h e in
        admitted h (lies_push true 0 file bs h front.0 read, tt) (allows File h.kind) refl on

    by_due : (v : Bool) → is_due (file_container file).extent (length file) (length bs) (sizes bs) ≡ v → On → Goes (suc n) file bs
    by_due false d on = rw d (refl, g)
    by_due true d on = rw d (by_header (there file bs) refl on)

both : (file : List ℕ) → Beside (file_container file) (boxes_or_fault (rule_tests File) (file_container file)) (boxes_or_fault top_tests (file_container file))
both file = beside (suc (length file)) file [] (tt, tt) refl

-- ---- laws

-- The boxes by the definition are those that the file holds, and no `moof` stands before the `moov`.
pub top_held : (file : List ℕ) (top : List Box) → top_or_fault (file_container file) ≡ Ok top → Holds File (file_container file) top × (begins_with_movie top ≡ true)
top_held file top e = by (boxes_or_fault top_tests (file_container file)) (both file) e
  where
    by : (r : Result (List Box) Fault) → Beside (file_container file) (boxes_or_fault (rule_tests File) (file_container file)) r → and_then r (none_lacking File (file_container file)) ≡ Ok top → Holds File (file_container file) top × (begins_with_movie top ≡ true)
    by (Err f) b e = absurd cc
    by (Ok bs) b e = (children_are File (file_container file) top (ap (λ r. and_then r (none_lacking File (file_container file))) b.0 ∙ e), same (lacks File bs) e)
      where
        same : (v : Bool) → cond v (Err (fault_in MissingBox (file_container file))) (Ok bs) ≡ Ok top → begins_with_movie top ≡ true
        same true e = absurd cc
        same false e = let is : bs ≡ top = cc in subst (λ (x : List Box). begins_with_movie x ≡ true) is b.1

no_movie : (bs : List Box) → nat_lt 0 (movies_among bs) ≡ false → of_kind (codes "moov") bs ≡ []
no_movie bs e = let n = ltb-false 0 (movies_among bs) e in empty (of_kind (codes "moov") bs) (omega (arith, n, count_is (codes "moov") bs))
  where
    empty : (xs : List Box) → length xs ≡ 0 → xs ≡ []
    empty [] n = refl
    empty (x ∷ xs) n = absurd (omega (arith, n))

-- The fault by the definition is one of its boxes, or a `moof` stands first.
pub top_fault_stands : (file : List ℕ) (f : Fault) → top_or_fault (file_container file) ≡ Err f → IsChildFault File (file_container file) f ⊎ FragmentFirst file f
top_fault_stands file f e = by (boxes_or_fault top_tests (file_container file)) (both file) e
  where
    ruled : (r : Result (List Box) Fault) → boxes_or_fault (rule_tests File) (file_container file) ≡ r → and_then r (none_lacking File (file_container file)) ≡ Err f → IsChildFault File (file_container file) f
    ruled r b e = child_fault_is File (file_container file) f (ap (λ r. and_then r (none_lacking File (file_container file))) b ∙ e)

    by : (r : Result (List Box) Fault) → Beside (file_container file) (boxes_or_fault (rule_tests File) (file_container file)) r → and_then r (none_lacking File (file_container file)) ≡ Err f → IsChildFault File (file_container file) f ⊎ FragmentFirst file f
    by (Ok bs) b e = inl (ruled (Ok bs) b.0 e)
    by (Err k) (inl b) e = inl (ruled (Err k) b e)
    by (Err k) (inr b) e =
        let same : k ≡ f = cc in
        inr (record { before = b.before; moof = b.moof; stands = b.stands; is_moof = same_kind (codes "moof") b.moof.kind b.is_moof; no_moov = no_movie b.before b.no_moov; named = sym same ∙ b.named })
