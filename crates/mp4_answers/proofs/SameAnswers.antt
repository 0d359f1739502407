-- What the commands answer, taken together: the same file, or the same presentation.
use Rattle.std.proofs.Common.{◌≡◌, ◌⊎◌, inl, inr, ℕ, zero, suc, ◌+◌, ◌<◌, Bool, true, false, ◌||◌, List, [], ◌∷◌, ◌++◌, drop, map, Some, Ok, refl, sym, ap, subst, ◌∙◌}
use Rattle.mp4_boxes.proofs.Each.{each_weaker}
use Rattle.std.specs.List.{slice_get}
use Rattle.mp4_boxes.proofs.Plain.{false_true, get_map}
use Rattle.mp4_boxes.specs.format.Bytes.{AreBytes}
use Rattle.mp4_head.specs.format.Tree.{TrackTree}
use Rattle.mp4_present.specs.format.Denotes.{FileTree, file_parts, presentation_of, track_of}
use Rattle.mp4_present.specs.format.Presentation.{IsTrack, Presentation, Sample, Track, Valid}
use Rattle.mp4_present.specs.format.Judge.{judge}
use Rattle.mp4_content.specs.format.LeadIns.{kept, left_of, told, words_told}
use Rattle.mp4_content.specs.format.LeadInsLaws.{HasTimescales, KeepsBeginnings}
use Rattle.mp4_content.specs.format.TimescalesLaws.{Implies}
use Rattle.mp4_content.specs.format.CoveringLaws.{Covers}
use Rattle.mp4_content.specs.declared.without.Without.{Without}
use Rattle.mp4_present.proofs.DenotedValid.{denoted_is_valid}
use Rattle.mp4_present.proofs.JudgedTrees.{judged_denotes}
use Rattle.mp4_content.proofs.LeadInsMore.{same_kept_without_beginnings, same_kept_without_more}
use Rattle.mp4_content.proofs.LeadInsTold.{left_is_told}
use Rattle.mp4_content.proofs.LeadInsValid.{told_is_valid}
use Rattle.mp4_plan.specs.format.Normal.{normal}
use Rattle.mp4_answers.specs.format.Told.{IsLeftInLimits}
use Rattle.mp4_plan.proofs.Judged.{denoted_judged, normal_judged}
use Rattle.mp4_plan.proofs.ReducedNormal.{reduced_normal_is_exact}
use Rattle.mp4_present.proofs.DenotedOpens.{stands_refuses}
use Rattle.mp4_answers.specs.format.SameAnswers.{AcceptedHasNoFault, NormalFormDenotesTheSame, NormalFormHasTheSameData, NormalFormListsTheSame, NormalFormListsTheSameSamples, NormalFormShowsTheSame, SameIsSameBytes, SameStaysSame}
use Rattle.mp4_answers.specs.format.Headline.{HasNormalForm}
use Rattle.mp4_answers.specs.declared.jobs.Form.{Form}
use Rattle.mp4_answers.specs.declared.jobs.Form.TheVariants as forms
use Rattle.mp4_answers.specs.format.FileTexts.{IsTrackWith, IsTreeWith, ListsSamples, sample_spots}
use Rattle.mp4_answers.specs.format.Texts.{Spot, first_spot, listing_head, sample_line, sample_lines_from, sample_listing}
use Rattle.mp4_answers.proofs.Alone.{shows_one, shows_valid}

-- ---- verdicts

module _ (l : Without) (p : Presentation) (v : Valid p) (k : IsLeftInLimits l p) where
  shown_valid : Valid (told l.lead_ins p)
  shown_valid = (told_is_valid l.lead_ins p v).1 k.shown

pub same_is_same_bytes : SameIsSameBytes
same_is_same_bytes asked file other text other_text same x y is form other_form =
    let l = asked.leaving in
    let p : form.0 ≡ is.p = shows_one asked.first file form.0 is.p form.1 is.first in
    let q : other_form.0 ≡ is.q = shows_one asked.second other other_form.0 is.q other_form.1 is.second in
    let v = shown_valid l form.0 (shows_valid asked.first file form.0 x form.1) form.2 in
    let w = shown_valid l other_form.0 (shows_valid asked.second other other_form.0 y other_form.1) other_form.2 in
    let a = left_is_told l form.0 in
    let b = left_is_told l other_form.0 in
    let exact = reduced_normal_is_exact (words_told l) (told l.lead_ins form.0) (told l.lead_ins other_form.0) v form.2.left w other_form.2.left in
    let at = is.is x y in (
      λ e. form.3 ∙ ap normal a ∙ exact.1 (sym a ∙ ap (left_of l) p ∙ at.0 e ∙ sym (ap (left_of l) q) ∙ b) ∙ sym (ap normal b) ∙ sym other_form.3,
      λ e. at.1 (sym (ap (left_of l) p) ∙ a ∙ exact.0 (sym (ap normal a) ∙ sym form.3 ∙ e ∙ other_form.3 ∙ ap normal b) ∙ sym b ∙ ap (left_of l) q),
    )

-- leaving out more leaves out timescales too
scales_covered : (l m : Without) → Covers l m → Implies l.timescales m.timescales
scales_covered l m c e =
    let both : (l.timescales || m.timescales) ≡ m.timescales = ap (λ (w : Without). w.timescales) c in
    sym both ∙ ap (λ b. b || m.timescales) e

has_scales : (p : Presentation) → Valid p → HasTimescales p
has_scales p v = (v.movie.timescale_not_0, each_weaker IsTrack (λ (t : Track). 0 < t.head.media.timescale) (λ t h. h.head.media.timescale_not_0) p.tracks v.tracks)

module _ (l m : Without) (p q : Presentation) (v : Valid p) (w : Valid q) (c : Covers l m) where
  -- how tracks begin is left out of both, or of neither
  alike : l.lead_ins ≡ m.lead_ins → left_of l p ≡ left_of l q → left_of m p ≡ left_of m q
  alike same e =
      let more = same_kept_without_more l.lead_ins l.timescales m.timescales l m p q (scales_covered l m c) c e in
      subst (λ b. kept b m.timescales m p ≡ kept b m.timescales m q) same more

  -- or with the more alone
  begins : (a b : Bool) → l.lead_ins ≡ a → m.lead_ins ≡ b → KeepsBeginnings l.lead_ins l → left_of l p ≡ left_of l q → left_of m p ≡ left_of m q
  begins true true e f k left = alike (e ∙ sym f) left
  begins false false e f k left = alike (e ∙ sym f) left
  begins true false e f k left = absurd (let both : (l.lead_ins || m.lead_ins) ≡ m.lead_ins = ap (λ (x : Without). x.lead_ins) c in false_true (sym f ∙ sym both ∙ ap (λ b. b || m.lead_ins) e))
  begins false true e f k left =
      let keeps = subst (λ b. KeepsBeginnings b l) e k in
      let own = subst (λ b. kept b l.timescales l p ≡ kept b l.timescales l q) e left in
      let more = same_kept_without_beginnings l.timescales m.timescales l m p q (has_scales p v) (has_scales q w) (scales_covered l m c) c keeps own in
      subst (λ b. kept b m.timescales m p ≡ kept b m.timescales m q) (sym f) more

  more_same : (l.lead_ins ≡ m.lead_ins) ⊎ KeepsBeginnings l.lead_ins l → left_of l p ≡ left_of l q → left_of m p ≡ left_of m q
  more_same (inl same) = alike same
  more_same (inr k) = begins l.lead_ins m.lead_ins refl refl k

pub same_stays_same : SameStaysSame
same_stays_same asked m file other more x y c keeps is is_more =
    let p : is.p ≡ is_more.p = shows_one asked.first file is.p is_more.p is.first is_more.first in
    let q : is.q ≡ is_more.q = shows_one asked.second other is.q is_more.q is.second is_more.second in
    let v = shows_valid asked.first file is.p x is.first in
    let w = shows_valid asked.second other is.q y is.second in
    (is_more.is x y).1 (sym (ap (left_of m) p) ∙ more_same asked.leaving m is.p is.q v w c keeps ((is.is x y).0 refl) ∙ ap (left_of m) q)

-- ---- the normal form

-- it is judged to be what its file is
normal_form_judged_the_same : (file text : List ℕ) → AreBytes file → HasNormalForm file text → judge text ≡ judge file
normal_form_judged_the_same file text x form =
    let valid = denoted_is_valid file form.0 x (judged_denotes file form.0 form.1) in
    ap judge form.2 ∙ normal_judged form.0 valid ∙ sym form.1

pub normal_form_denotes_the_same : NormalFormDenotesTheSame
normal_form_denotes_the_same file text x form p =
    let e = normal_form_judged_the_same file text x form in (
      λ d. judged_denotes text p (e ∙ denoted_judged file p d),
      λ d. judged_denotes file p (sym e ∙ denoted_judged text p d),
    )

pub normal_form_shows_the_same : NormalFormShowsTheSame
normal_form_shows_the_same file text x form line =
    let e = normal_form_judged_the_same file text x form in
    (λ s. (s.0, e ∙ s.1, s.2), λ s. (s.0, sym e ∙ s.1, s.2))

module _ (file text : List ℕ) (x : AreBytes file) (form : HasNormalForm file text) where
  track_to : (id : ℕ) (t : Track) → IsTrackWith file id t → IsTrackWith text id t
  track_to id t h = record { p = h.p; judged = normal_form_judged_the_same file text x form ∙ h.judged; place = h.place; is_there = h.is_there; id_is = h.id_is }

  track_from : (id : ℕ) (t : Track) → IsTrackWith text id t → IsTrackWith file id t
  track_from id t h = record { p = h.p; judged = sym (normal_form_judged_the_same file text x form) ∙ h.judged; place = h.place; is_there = h.is_there; id_is = h.id_is }

-- the place of what becomes this
from_map : {A B : Type 0} (f : A → B) (xs : List A) (k : ℕ) (y : B) → slice_get (map f xs) k ≡ Some y → (x : A) × (slice_get xs k ≡ Some x) × (y ≡ f x)
from_map f [] k y e = absurd cc
from_map f (x ∷ xs) zero y e = (x, refl, cc)
from_map f (x ∷ xs) (suc k) y e = from_map f xs k y e

-- a track of what a file is judged to be is one of its boxes
listed_of : (file : List ℕ) (id : ℕ) (form : Form) (t : Track) → IsTrackWith file id t → (spots : List Spot) × ListsSamples file id form (sample_listing form t spots)
listed_of file id form t h =
    let d = judged_denotes file h.p h.judged in
    let u = from_map (track_of file (file_parts d.tree)) d.tree.movie.tracks h.place t (ap (λ (q : Presentation). slice_get q.tracks h.place) (sym d.says) ∙ h.is_there) in (
      sample_spots d.tree u.0,
      (
        d.tree,
        u.0,
        record { is_tree = d.is_tree; judged = h.judged ∙ ap (λ (q : Presentation). Ok q) d.says; place = h.place; is_there = u.1; id_is = ap (λ (x : Track). x.head.id) (sym u.2) ∙ h.id_is },
        ap (λ (x : Track). sample_listing form x (sample_spots d.tree u.0)) u.2,
      ),
    )

of_listed : (file : List ℕ) (id : ℕ) (tree : FileTree) (t : TrackTree) → IsTreeWith file id tree t → IsTrackWith file id (track_of file (file_parts tree) t)
of_listed file id tree t h = record { p = presentation_of file tree; judged = h.judged; place = h.place; is_there = get_map (track_of file (file_parts tree)) tree.movie.tracks h.place t h.is_there; id_is = h.id_is }

-- lines don't say where samples lie
lines_anywhere : (form : Form) → (form ≡ forms.Json → ⊥) → (i time : ℕ) (samples : List Sample) (a b : List Spot) → sample_lines_from form i time samples a ≡ sample_lines_from form i time samples b
lines_anywhere form lines i time [] a b = refl
lines_anywhere forms.Plain lines i time (s ∷ samples) a b = ap (λ (text : List ℕ). sample_line forms.Plain i time s (first_spot b) ++ text) (lines_anywhere forms.Plain lines (i + 1) (time + s.duration) samples (drop 1 a) (drop 1 b))
lines_anywhere forms.Named lines i time (s ∷ samples) a b = ap (λ (text : List ℕ). sample_line forms.Named i time s (first_spot b) ++ text) (lines_anywhere forms.Named lines (i + 1) (time + s.duration) samples (drop 1 a) (drop 1 b))
lines_anywhere forms.Json lines i time (s ∷ samples) a b = absurd (lines refl)

-- what is listed of one file is listed of another that has the same tracks
lists_too : (file text : List ℕ) (id : ℕ) (form : Form) → ((t : Track) → IsTrackWith file id t → IsTrackWith text id t) → (form ≡ forms.Json → ⊥) → (lines : List ℕ) → ListsSamples file id form lines → ListsSamples text id form lines
lists_too file text id form to plain lines h =
    let t = track_of file (file_parts h.0) h.1 in
    let other = listed_of text id form t (to t (of_listed file id h.0 h.1 h.2)) in
    let same = ap (λ (ls : List ℕ). listing_head form ++ ls) (lines_anywhere form plain 1 t.start t.samples other.0 (sample_spots h.0 h.1)) in
    subst (ListsSamples text id form) (same ∙ sym h.3) other.1

pub normal_form_lists_the_same : NormalFormListsTheSame
normal_form_lists_the_same file text x form id kind lines plain = (lists_too file text id kind (track_to file text x form id) plain lines, lists_too text file id kind (track_from file text x form id) plain lines)

pub normal_form_lists_the_same_samples : NormalFormListsTheSameSamples
normal_form_lists_the_same_samples file text x form id kind lines h =
    let t = track_of file (file_parts h.0) h.1 in
    let other = listed_of text id kind t (track_to file text x form id t (of_listed file id h.0 h.1 h.2)) in
    (t, sample_spots h.0 h.1, other.0, h.3, other.1)

pub normal_form_has_the_same_data : NormalFormHasTheSameData
normal_form_has_the_same_data file text x form id bytes = (λ h. (h.0, track_to file text x form id h.0 h.1, h.2), λ h. (h.0, track_from file text x form id h.0 h.1, h.2))

-- ---- faults

pub accepted_has_no_fault : AcceptedHasNoFault
accepted_has_no_fault file text f form stands = stands_refuses stands.0 file f form.0 stands.1 (judged_denotes file form.0 form.1)
