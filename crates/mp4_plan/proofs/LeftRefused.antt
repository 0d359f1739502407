-- Why what is left of a movie is not written, where edits stay and where they don't.
use Rattle.std.proofs.Common.{◌≡◌, ℕ, false, List}
use Rattle.std.specs.Prelude.{Result, Ok, Err, IfErr, MatchResult, OnOk}
use Rattle.mp4_boxes.specs.declared.refusal.Refusal.{Refusal}
use Rattle.mp4_boxes.specs.declared.refusal.Refusal.TheVariants as refusals
use Rattle.mp4_present.specs.format.Denotes.{FileTree}
use Rattle.mp4_present.specs.words.Carried.{RefusesCarry, RefusesCopy}
use Rattle.mp4_content.specs.declared.without.Without.{Without}
use Rattle.mp4_content.specs.words.Opened.{RefusesPlan}
use Rattle.mp4_content.specs.words.LeftTimes.{NamesLong, moves_limits}
use Rattle.mp4_plan.specs.words.LeftRefusals.{RefusesLeft, RefusesLeftCopy}

-- what holds anyway holds of each answer
pub so_if_ok : {T : Type 0} (answer : Result T Refusal) (P : Type 0) → P → OnOk answer P
so_if_ok (Ok x) P p = p
so_if_ok (Err r) P p = tt

pub so_if_err : {T : Type 0} (answer : Result T Refusal) (P : Type 0) → P → IfErr answer (λ r. r ≡ refusals.WriteFailed → P)
so_if_err (Ok x) P p = tt
so_if_err (Err r) P p = λ _. p

-- planning puts nothing
pub plan_puts_nothing : (l : Without) (reads reads_after : ℕ) (r : Refusal) (P : Type 0) → RefusesLeft l reads reads_after r → r ≡ refusals.WriteFailed → P
plan_puts_nothing l reads reads_after (refusals.Fault f) P w e = absurd cc
plan_puts_nothing l reads reads_after refusals.Memory P w e = absurd cc
plan_puts_nothing l reads reads_after refusals.StoreFailed P w e = absurd cc
plan_puts_nothing l reads reads_after refusals.StoreChanged P w e = absurd cc
plan_puts_nothing l reads reads_after refusals.WriteFailed P w e = absurd w
plan_puts_nothing l reads reads_after refusals.NoSuchTrack P w e = absurd cc

-- what is so at Ok gives one thing, and what is so at Err another
pub on_both : {A B X Y : Type 0} {T : Type 0} (answer : Result T Refusal) → (A → B) → (X → Y) → MatchResult answer (λ _. A) (λ _. X) → MatchResult answer (λ _. B) (λ _. Y)
on_both (Ok x) f g a = f a
on_both (Err r) f g a = g a

pub on_both_two : {A B C X Y : Type 0} {T : Type 0} (answer : Result T Refusal) → (A → B → C) → (X → Y) → MatchResult answer (λ _. A) (λ _. X) → OnOk answer B → MatchResult answer (λ _. C) (λ _. Y)
on_both_two (Ok x) f g a b = f a b
on_both_two (Err r) f g a b = g a

pub so_both : {T : Type 0} (answer : Result T Refusal) (P Q : Type 0) → P → Q → MatchResult answer (λ _. P) (λ _. Q)
so_both (Ok x) P Q p q = p
so_both (Err r) P Q p q = q

carry_names : (l : Without) (file : List ℕ) (tree : FileTree) (reads reads_after puts puts_after : ℕ) (r : Refusal) → RefusesCarry reads reads_after puts puts_after r → NamesLong l file tree r
carry_names l file tree reads reads_after puts puts_after (refusals.Fault f) w = absurd w
carry_names l file tree reads reads_after puts puts_after refusals.Memory w = tt
carry_names l file tree reads reads_after puts puts_after refusals.StoreFailed w = tt
carry_names l file tree reads reads_after puts puts_after refusals.StoreChanged w = tt
carry_names l file tree reads reads_after puts puts_after refusals.WriteFailed w = tt
carry_names l file tree reads reads_after puts puts_after refusals.NoSuchTrack w = tt

-- bytes that are not taken along name no fault
pub carried_names : (l : Without) (file : List ℕ) (tree : FileTree) {T : Type 0} (answer : Result T Refusal) (reads reads_after puts puts_after : ℕ) → IfErr answer (RefusesCarry reads reads_after puts puts_after) → IfErr answer (NamesLong l file tree)
carried_names l file tree (Ok x) reads reads_after puts puts_after w = tt
carried_names l file tree (Err r) reads reads_after puts puts_after w = carry_names l file tree reads reads_after puts puts_after r w

-- nor does what isn't planned
pub plan_names : (l : Without) (file : List ℕ) (tree : FileTree) (reads reads_after : ℕ) (r : Refusal) → RefusesPlan reads reads_after r → NamesLong l file tree r
plan_names l file tree reads reads_after (refusals.Fault f) w = absurd w
plan_names l file tree reads reads_after refusals.Memory w = tt
plan_names l file tree reads reads_after refusals.StoreFailed w = tt
plan_names l file tree reads reads_after refusals.StoreChanged w = tt
plan_names l file tree reads reads_after refusals.WriteFailed w = tt
plan_names l file tree reads reads_after refusals.NoSuchTrack w = tt

-- ---- where edits, ends and origins stay no track is too long

plan_left : (l : Without) (reads reads_after : ℕ) (r : Refusal) → moves_limits l ≡ false → RefusesLeft l reads reads_after r → RefusesPlan reads reads_after r
plan_left l reads reads_after (refusals.Fault f) e w = let out = w.0 in absurd cc
plan_left l reads reads_after refusals.Memory e w = w
plan_left l reads reads_after refusals.StoreFailed e w = w
plan_left l reads reads_after refusals.StoreChanged e w = w
plan_left l reads reads_after refusals.WriteFailed e w = w
plan_left l reads reads_after refusals.NoSuchTrack e w = w

pub planned_left : (l : Without) {T : Type 0} (answer : Result T Refusal) (reads reads_after : ℕ) → moves_limits l ≡ false → IfErr answer (RefusesLeft l reads reads_after) → IfErr answer (RefusesPlan reads reads_after)
planned_left l (Ok x) reads reads_after e w = tt
planned_left l (Err r) reads reads_after e w = plan_left l reads reads_after r e w

copy_left : (l : Without) (Took : List ℕ → Type 0) (reads reads_after puts puts_after : ℕ) (r : Refusal) → moves_limits l ≡ false → RefusesLeftCopy l Took reads reads_after puts puts_after r → RefusesCopy Took reads reads_after puts puts_after r
copy_left l Took reads reads_after puts puts_after (refusals.Fault f) e w = let out = w.0.0 in absurd cc
copy_left l Took reads reads_after puts puts_after refusals.Memory e w = w
copy_left l Took reads reads_after puts puts_after refusals.StoreFailed e w = w
copy_left l Took reads reads_after puts puts_after refusals.StoreChanged e w = w
copy_left l Took reads reads_after puts puts_after refusals.WriteFailed e w = w
copy_left l Took reads reads_after puts puts_after refusals.NoSuchTrack e w = w

pub copied_left : (l : Without) {T : Type 0} (answer : Result T Refusal) (Took : List ℕ → Type 0) (reads reads_after puts puts_after : ℕ) → moves_limits l ≡ false
    → IfErr answer (RefusesLeftCopy l Took reads reads_after puts puts_after) → IfErr answer (RefusesCopy Took reads reads_after puts puts_after)
copied_left l (Ok x) Took reads reads_after puts puts_after e w = tt
copied_left l (Err r) Took reads reads_after puts puts_after e w = copy_left l Took reads reads_after puts puts_after r e w

carry_left : (l : Without) (Took : List ℕ → Type 0) (reads reads_after puts puts_after : ℕ) (r : Refusal) → RefusesCarry reads reads_after puts puts_after r → RefusesLeftCopy l Took reads reads_after puts puts_after r
carry_left l Took reads reads_after puts puts_after (refusals.Fault f) w = absurd w
carry_left l Took reads reads_after puts puts_after refusals.Memory w = absurd w
carry_left l Took reads reads_after puts puts_after refusals.StoreFailed w = w
carry_left l Took reads reads_after puts puts_after refusals.StoreChanged w = w
carry_left l Took reads reads_after puts puts_after refusals.WriteFailed w = w
carry_left l Took reads reads_after puts puts_after refusals.NoSuchTrack w = w

-- bytes that are not taken along are refused as a whole is
pub carried_left : (l : Without) {T : Type 0} (answer : Result T Refusal) (Took : List ℕ → Type 0) (reads reads_after puts puts_after : ℕ) → IfErr answer (RefusesCarry reads reads_after puts puts_after) → IfErr answer (RefusesLeftCopy l Took reads reads_after puts puts_after)
carried_left l (Ok x) Took reads reads_after puts puts_after w = tt
carried_left l (Err r) Took reads reads_after puts puts_after w = carry_left l Took reads reads_after puts puts_after r w
