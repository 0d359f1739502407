-- The lines of samples, taken along one by one.
use Rattle.std.proofs.Common.{◌≡◌, ℕ, ◌+◌, List, [], ◌∷◌, ◌++◌, drop, refl, sym, ap, ◌∙◌, append_assoc}
use Rattle.std.proofs.lemmas.List.{append-nil}
use Rattle.std.specs.Prelude.{Some, Result, Ok, Err, OnOk, OnErr, slice_get}
use Rattle.mp4_store.specs.words.Device.{TakesPrefix}
use Rattle.mp4_present.specs.words.Carried.{BytesGoOn}
use Rattle.mp4_present.proofs.Carrying.{BytesGoOn-then, no_room}
use Rattle.mp4_store.proofs.Known.{IsJoining}
use Rattle.mp4_tables.specs.declared.sample.SampleAt.{SampleAt}
use Rattle.mp4_answers.specs.declared.jobs.Form.{Form}
use Rattle.mp4_answers.specs.format.Texts.{sample_at_line, sample_at_lines}

-- ---- a loop over samples that adds the line of each

pub record Going (Took : List ℕ → Type 0) (held held_after to_come all : List ℕ) : Type 0 where
  pub done : List ℕ
  pub goes_on : BytesGoOn Took held held_after done
  pub whole : done ++ to_come ≡ all

pub going_none : (Took : List ℕ → Type 0) (nothing : Took []) (held all : List ℕ) → Going Took held held all all
going_none Took nothing held all = record { done = []; goes_on = ([], nothing, sym (append-nil held)); whole = refl }

-- one more sample
pub going_more : (form : Form) {Y : Type 0} {takes : Y → Y → List ℕ → Type 0} (joins : IsJoining takes) (a b c : Y) (held held_b held_c all : List ℕ) (fragment number number_c : ℕ) (samples samples_c : List SampleAt) (s : SampleAt)
    → Going (takes a b) held held_b (sample_at_lines form number fragment samples) all → Some s ≡ slice_get samples 0 → samples_c ≡ drop 1 samples → number_c ≡ number + 1
    → BytesGoOn (takes b c) held_b held_c (sample_at_line form number fragment s) → Going (takes a c) held held_c (sample_at_lines form number_c fragment samples_c) all
going_more form joins a b c held held_b held_c all fragment number number_c [] samples_c s g is left n more = absurd cc
going_more form joins a b c held held_b held_c all fragment number number_c (x ∷ samples) samples_c s g is left n more =
    let same : s ≡ x = cc in
    record {
      done = g.done ++ sample_at_line form number fragment s;
      goes_on = BytesGoOn-then joins a b c held held_b held_c g.done (sample_at_line form number fragment s) (g.done ++ sample_at_line form number fragment s) g.goes_on more refl;
      whole = append_assoc g.done (sample_at_line form number fragment s) (sample_at_lines form number_c fragment samples_c) ∙ rw (left, n, same) g.whole;
    }

-- no sample is left
pub going_all : (form : Form) (Took : List ℕ → Type 0) (held held_b all : List ℕ) (fragment number : ℕ) (samples : List SampleAt) → Going Took held held_b (sample_at_lines form number fragment samples) all → samples ≡ [] → BytesGoOn Took held held_b all
going_all form Took held held_b all fragment number samples g none =
    let whole : g.done ≡ all = sym (append-nil g.done) ∙ ap (λ (ss : List SampleAt). g.done ++ sample_at_lines form number fragment ss) (sym none) ∙ g.whole in
    rw (← whole) g.goes_on

-- a block is taken along whole: what waits and the block wait together
pub block_carried : (Took : List ℕ → Type 0) (held held_b block : List ℕ) → BytesGoOn Took held held_b block → BytesGoOn Took (held ++ block) held_b []
block_carried Took held held_b block g = (g.0, g.1, g.2 ∙ sym (append-nil (held ++ block)))

-- room is made, and a line is added to the block
pub line_added : (Took : List ℕ → Type 0) (held held_b block line : List ℕ) → BytesGoOn Took held (held_b ++ block) [] → BytesGoOn Took held (held_b ++ (block ++ line)) line
line_added Took held held_b block line g =
    let empty = append-nil held in
    (g.0, g.1, ap (λ (bytes : List ℕ). g.0 ++ bytes) (sym (append_assoc held_b block line)) ∙ sym (append_assoc g.0 (held_b ++ block) line) ∙ ap (λ (bytes : List ℕ). bytes ++ line) (g.2 ∙ empty))

-- a put fails
pub block_fails : {Y : Type 0} {takes : Y → Y → List ℕ → Type 0} (joins : IsJoining takes) (a b c : Y) (held held_b to_come all : List ℕ) → Going (takes a b) held held_b to_come all → TakesPrefix (takes b c) held_b → TakesPrefix (takes a c) (held ++ all)
block_fails joins a b c held held_b to_come all g p = no_room joins a b c held held_b g.done to_come all g.goes_on p (sym g.whole)

-- the last block is taken along
pub all_lines_put : {T E : Type 0} (answer : Result T E) (fits : Type 0) (form : Form) {Y : Type 0} {takes : Y → Y → List ℕ → Type 0} (joins : IsJoining takes) (a b c : Y) (held held_b held_c block all : List ℕ) (fragment number : ℕ) (samples : List SampleAt)
    → (fits → Going (takes a b) held (held_b ++ block) (sample_at_lines form number fragment samples) all) → samples ≡ [] → OnOk answer (BytesGoOn (takes b c) held_b held_c block) → OnOk answer (fits → BytesGoOn (takes a c) held held_c all)
all_lines_put (Ok v) fits form {takes = takes} joins a b c held held_b held_c block all fragment number samples g none p =
    λ f. BytesGoOn-then joins a b c held (held_b ++ block) held_c all [] all (going_all form (takes a b) held (held_b ++ block) all fragment number samples (g f) none) (block_carried (takes b c) held_b held_c block p) (sym (append-nil all))
all_lines_put (Err e) fits form joins a b c held held_b held_c block all fragment number samples g none p = tt

-- a put fails meanwhile
pub last_block_fails : {T E : Type 0} (answer : Result T E) (fits : Type 0) {Y : Type 0} {takes : Y → Y → List ℕ → Type 0} (joins : IsJoining takes) (a b c : Y) (held held_b to_come all : List ℕ)
    → (fits → Going (takes a b) held held_b to_come all) → OnErr answer (TakesPrefix (takes b c) held_b) → OnErr answer (fits → TakesPrefix (takes a c) (held ++ all))
last_block_fails (Ok v) fits joins a b c held held_b to_come all g p = tt
last_block_fails (Err e) fits joins a b c held held_b to_come all g p = λ f. block_fails joins a b c held held_b to_come all (g f) p
