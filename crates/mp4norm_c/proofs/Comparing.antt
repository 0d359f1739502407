-- What a comparison of bytes in memory comes to.
use Rattle.std.proofs.Common.{◌≡◌, inl, inr, ℕ, List, Bool, true, false, refl, arith}
use Rattle.std.specs.Prelude.{Result, Ok, Err, IfErr}
use Rattle.mp4_boxes.specs.declared.refusal.Refusal.{Refusal}
use Rattle.mp4_boxes.specs.declared.refusal.Refusal.TheVariants as refusals
use Rattle.mp4_content.specs.declared.without.Without.{Without}
use Rattle.mp4_answers.specs.words.OpenedTold.{RefusesTold}
use Rattle.mp4_answers.specs.declared.commands.compare.Asked.{Asked}
use Rattle.mp4_answers.specs.declared.commands.compare.Failure.{Failure}
use Rattle.mp4_answers.specs.declared.commands.compare.LineForm.{LineForm}
use Rattle.mp4_answers.specs.declared.commands.compare.LineForm.TheVariants as forms
use Rattle.mp4_answers.specs.declared.commands.compare.Listing.{Listing}
use Rattle.mp4_answers.specs.declared.commands.compare.Listing.TheVariants as listings
use Rattle.mp4_answers.specs.declared.commands.compare.Side.{Side}
use Rattle.mp4_answers.specs.declared.commands.compare.Side.TheVariants as sides
use Rattle.mp4_answers.specs.declared.selection.Selection.{Selection}
use Rattle.mp4_answers.specs.format.CompareHeadline.{IsVerdict, IsTold, PutsSuch, of_first, of_second}
use Rattle.mp4_answers.specs.words.Compares.{PutsAnswer, PutsSame, RefusesAnswer, RefusesBoth, RefusesCompare, is_silent, is_text}
use Rattle.mp4norm_c.specs.declared.answer.Answer.{Answer}
use Rattle.mp4norm_c.specs.format.Exports.{Compared, is_same, is_other, first_refused, second_refused, no_memory, no_track, IsWindow, plain, same_in, same_listed, same_text}
use Rattle.mp4norm_c.specs.words.Comparing.{RefusesOne, RefusesRoom, RefusesTwo, failure_told, verdict_number}

-- ---- why there is no answer, over bytes in memory

one_refused : (refusal : Refusal) (s : Selection) (file : List ℕ) → RefusesTold s.track s.leaving.lead_ins true file 0 0 refusal → RefusesOne s file refusal
one_refused (refusals.Fault f) s file w = w refl
one_refused refusals.Memory s file w = tt
one_refused refusals.StoreFailed s file w = absurd (omega (arith, w))
one_refused refusals.StoreChanged s file w = absurd (w refl)
one_refused refusals.WriteFailed s file w = absurd w
one_refused refusals.NoSuchTrack s file w = w

none_risen : (RefusesBoth true true 0 0 0 0 refusals.StoreFailed) → ⊥
none_risen (inl w) = omega (arith, w)
none_risen (inr w) = omega (arith, w)

both_read : (refusal : Refusal) → RefusesBoth true true 0 0 0 0 refusal → ⊥
both_read (refusals.Fault f) w = w
both_read refusals.Memory w = w
both_read refusals.StoreFailed w = none_risen w
both_read refusals.StoreChanged w = w refl refl
both_read refusals.WriteFailed w = w
both_read refusals.NoSuchTrack w = w

room_refused : (refusal : Refusal) (Took : List ℕ → Type 0) (puts puts_after : ℕ) → RefusesAnswer Took puts puts_after refusal → RefusesRoom refusal
room_refused (refusals.Fault f) Took puts puts_after w = absurd w
room_refused refusals.Memory Took puts puts_after w = tt
room_refused refusals.StoreFailed Took puts puts_after w = absurd w
room_refused refusals.StoreChanged Took puts puts_after w = absurd w
room_refused refusals.WriteFailed Took puts puts_after w = tt
room_refused refusals.NoSuchTrack Took puts puts_after w = absurd w

module _ (asked : Asked) (file other : List ℕ) (Took : List ℕ → Type 0) (puts puts_after : ℕ) where
  two_refused : (side : Side) (f : Failure) → f.side ≡ side → RefusesCompare (RefusesTold asked.first asked.leaving.lead_ins true file 0 0) (RefusesTold asked.second asked.leaving.lead_ins true other 0 0) (RefusesBoth true true 0 0 0 0) Took puts puts_after f → RefusesTwo asked file other f
  two_refused sides.First f is why = let w = rw is at why in rw is (one_refused f.refusal (of_first asked) file w.0)
  two_refused sides.Second f is why = let w = rw is at why in rw is (one_refused f.refusal (of_second asked) other w.0)
  two_refused sides.Both f is why = let w = rw is at why in absurd (both_read f.refusal w.0)
  two_refused sides.Neither f is why = let w = rw is at why in rw is (room_refused f.refusal Took puts puts_after w)

  pub refused_two : (r : Result Bool Failure) → IfErr r (RefusesCompare (RefusesTold asked.first asked.leaving.lead_ins true file 0 0) (RefusesTold asked.second asked.leaving.lead_ins true other 0 0) (RefusesBoth true true 0 0 0 0) Took puts puts_after) → IfErr r (RefusesTwo asked file other)
  refused_two (Ok same) why = tt
  refused_two (Err f) why = two_refused f.side f refl why

-- ---- what is put of files that are the same

same_as_text : (form : LineForm) (l : Without) (Took : List ℕ → Type 0) → PutsSame l (is_text form) Took → Took (same_in form l)
same_as_text forms.Text l Took p = p
same_as_text forms.Timed l Took p = p
same_as_text forms.Json l Took p = p

same_as_listed : (listing : Listing) (l : Without) (Took : List ℕ → Type 0) → PutsSame l (is_silent listing) Took → Took (same_listed listing l)
same_as_listed (listings.First form) l Took p = p
same_as_listed (listings.All lines) l Took p = same_as_text lines.form l Took p

pub same_put : (asked : Asked) (Took : List ℕ → Type 0) (same : Bool) → PutsAnswer asked.leaving (is_silent asked.listing) Took same → same ≡ true → Took (same_text asked)
same_put asked Took true p e = same_as_listed asked.listing asked.leaving Took p
same_put asked Took false p e = cc

-- ---- in numbers

module _ (asked : Asked) (file other : List ℕ) (from : ℕ) (before after : List ℕ) (a : Answer) where
  pub told_ok : (Took : List ℕ → Type 0) (text : List ℕ) (many : ℕ) (same : Bool) → ((bytes : List ℕ) → Took bytes → text ≡ bytes) → IsVerdict asked file other same → (same ≡ true → Took (same_text asked))
      → (same ≡ false → PutsSuch Took (IsTold asked file other)) → IsWindow from before after text many → a ≡ plain (verdict_number same) many → Compared asked file other from before after a
  told_ok Took text many true taken v s d w e = is_same many e v (rw (taken (same_text asked) (s refl)) at w)
  told_ok Took text many false taken v s d w e = let told = d refl in is_other told.0 many e v told.1 (rw (taken told.0 told.2) at w)

  told_first : (refusal : Refusal) → a ≡ failure_told sides.First refusal → after ≡ before → RefusesOne (of_first asked) file refusal → Compared asked file other from before after a
  told_first (refusals.Fault f) e left w = first_refused f e w left
  told_first refusals.Memory e left w = no_memory e left
  told_first refusals.StoreFailed e left w = absurd w
  told_first refusals.StoreChanged e left w = absurd w
  told_first refusals.WriteFailed e left w = absurd w
  told_first refusals.NoSuchTrack e left w = no_track e (inl w) left

  told_second : (refusal : Refusal) → a ≡ failure_told sides.Second refusal → after ≡ before → RefusesOne (of_second asked) other refusal → Compared asked file other from before after a
  told_second (refusals.Fault f) e left w = second_refused f e w left
  told_second refusals.Memory e left w = no_memory e left
  told_second refusals.StoreFailed e left w = absurd w
  told_second refusals.StoreChanged e left w = absurd w
  told_second refusals.WriteFailed e left w = absurd w
  told_second refusals.NoSuchTrack e left w = no_track e (inr w) left

  told_neither : (refusal : Refusal) → a ≡ failure_told sides.Neither refusal → after ≡ before → RefusesRoom refusal → Compared asked file other from before after a
  told_neither (refusals.Fault f) e left w = absurd w
  told_neither refusals.Memory e left w = no_memory e left
  told_neither refusals.StoreFailed e left w = absurd w
  told_neither refusals.StoreChanged e left w = absurd w
  told_neither refusals.WriteFailed e left w = no_memory e left
  told_neither refusals.NoSuchTrack e left w = absurd w

  told_side : (side : Side) (f : Failure) → f.side ≡ side → a ≡ failure_told f.side f.refusal → after ≡ before → RefusesTwo asked file other f → Compared asked file other from before after a
  told_side sides.First f is e left why = told_first f.refusal (rw is at e) left (rw is at why)
  told_side sides.Second f is e left why = told_second f.refusal (rw is at e) left (rw is at why)
  told_side sides.Both f is e left why = absurd (rw is at why)
  told_side sides.Neither f is e left why = told_neither f.refusal (rw is at e) left (rw is at why)

  pub told_err : (f : Failure) → a ≡ failure_told f.side f.refusal → after ≡ before → RefusesTwo asked file other f → Compared asked file other from before after a
  told_err f e left why = told_side f.side f refl e left why
