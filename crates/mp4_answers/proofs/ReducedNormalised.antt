-- The normal form of what remains of what a file denotes: all of it is put, or why it is not.
use Rattle.std.proofs.Common.{◌≡◌, ◌⊎◌, inl, inr, ℕ, List, [], ◌∷◌, refl, subst}
use Rattle.std.specs.Prelude.{Bool, Result, Ok, Err, IfErr, OnOk, OnErr, IsTrue}
use Rattle.mp4_boxes.specs.declared.fault.Fault.{Fault}
use Rattle.mp4_boxes.specs.declared.refusal.Refusal.{Refusal}
use Rattle.mp4_boxes.specs.declared.refusal.Refusal.TheVariants as refusals
use Rattle.mp4_present.specs.format.Denotes.{FileTree, presentation_of}
use Rattle.std.specs.List.{AllByRecursion}
use Rattle.mp4_present.specs.format.Presentation.{Presentation, Track, IsInTime}
use Rattle.mp4_content.specs.format.Reduced.{HasNearOffsets}
use Rattle.mp4_content.specs.format.Remaining.{RemainsInLimits, movie_divisor, remaining, remaining_movie, remaining_track}
use Rattle.mp4_present.specs.words.Movies.{MovieSeen}
use Rattle.mp4_present.specs.words.OpenedMovie.{IsOpenedAs}
use Rattle.mp4_content.specs.format.LeadIns.{words_told}
use Rattle.mp4_content.specs.declared.without.Without.{Without}
use Rattle.mp4_present.proofs.WalkCopied.{on_err}
use Rattle.mp4_plan.specs.format.Normal.{normal}
use Rattle.mp4_content.specs.words.LeftTimes.{NamesLong}
use Rattle.mp4_plan.specs.words.LeftRefusals.{RefusesLeft, RefusesLeftCopy}
use Rattle.mp4_plan.specs.words.MadeWriters.{TellsLong}
use Rattle.mp4_content.proofs.ReducedFaults.{in_time_or, near_offsets_or}
use Rattle.mp4_answers.specs.format.ReducedHeadline.{HasReducedForm, LeftFaultStands, PassesLimits}
use Rattle.mp4_answers.specs.format.Selected.{LacksNamed}
use Rattle.mp4_answers.specs.format.Told.{IsFaultTold, IsLeftInLimits}
use Rattle.mp4_answers.specs.declared.selection.Selection.{Selection}
use Rattle.mp4_answers.proofs.Alone.{shows_one}
use Rattle.mp4_answers.specs.words.OpenedTold.{IsOpenedTold}
use Rattle.mp4_answers.proofs.OpenedTold.{fault_told, form_told, limits_told, shows_told}
use Rattle.mp4_answers.specs.format.Run.{Run, Honest, PutsNothing, PutsAll, PutsFront, PutsSomeOf, Answered}

-- what remains is within the limits, or it is not
each_or : (P : Track → Type 0) → ((t : Track) → P t ⊎ (P t → ⊥)) → (tracks : List Track) → AllByRecursion P tracks ⊎ (AllByRecursion P tracks → ⊥)
each_or P or [] = inl tt
each_or P or (t ∷ tracks) = elim (or t) [
  | inl here ↦ elim (each_or P or tracks) [
    | inl all ↦ inl (here, all)
    | inr some ↦ inr (λ h. some h.1)
  ]
  | inr fails ↦ inr (λ h. fails h.0)
]

remains_or : (l : Without) (p : Presentation) → RemainsInLimits l p ⊎ (RemainsInLimits l p → ⊥)
remains_or l p =
    let timescale = (remaining_movie l (movie_divisor l p) p.movie).timescale in
    let left = remaining_track l (movie_divisor l p) in
    elim (each_or (λ (t : Track). IsInTime timescale (left t)) (λ t. in_time_or timescale (left t)) p.tracks) [
      | inr long ↦ inr (λ h. long h.in_time)
      | inl short ↦ elim (each_or (λ (t : Track). HasNearOffsets (left t)) (λ t. near_offsets_or (left t)) p.tracks) [
        | inl near ↦ inl (record { in_time = short; in_range = near })
        | inr far ↦ inr (λ h. far h.in_range)
      ]
    ]

-- ---- why it is not put

-- what is named where what is left is too long
abbrev pub TooLong : Selection → List ℕ → Refusal → Type 0
TooLong s file (refusals.Fault f) = LeftFaultStands s file f
TooLong s file _ = Unit {0}

-- a fault is one of what the file denotes, or of what is left of it
abbrev pub IsReducedFault : Selection → List ℕ → Fault → Type 0
IsReducedFault s file f = IsFaultTold s file f ⊎ LeftFaultStands s file f

module _ (A : Type 0) (s : Selection) (r : Run) where
  write_fails : (e : Refusal) → RefusesLeftCopy (words_told s.leaving) r.took r.reads r.reads_after r.puts r.puts_after e → (Honest r → PutsNothing r ⊎ PutsFront r (HasReducedForm s r.file)) → (Honest r → e ≡ refusals.WriteFailed → PutsFront r (HasReducedForm s r.file))
      → (Honest r → e ≡ refusals.StoreChanged → ⊥) → (Honest r → TooLong s r.file e) → Answered {A = A} r (HasReducedForm s r.file) (IsReducedFault s r.file) (LacksNamed s.track r.honest r.file) (Err e)
  write_fails (refusals.Fault f) w p b u t = (w.1, λ told. inr (t told))
  write_fails refusals.Memory w p b u t = w
  write_fails refusals.StoreFailed w p b u t = (w, p)
  write_fails refusals.StoreChanged w p b u t = λ told. u told refl
  write_fails refusals.WriteFailed w p b u t = (w, λ told. b told refl)
  write_fails refusals.NoSuchTrack w p b u t = absurd w

  -- a movie that is written, or isn't
  pub write_answers : (answer : Result A Refusal) → OnOk answer (r.reads_after ≡ r.reads) → OnOk answer (r.puts_after ≡ r.puts) → OnOk answer (Honest r → PutsAll r (HasReducedForm s r.file))
      → IfErr answer (RefusesLeftCopy (words_told s.leaving) r.took r.reads r.reads_after r.puts r.puts_after) → (Honest r → OnErr answer (PutsNothing r ⊎ PutsFront r (HasReducedForm s r.file)))
      → (Honest r → IfErr answer (λ e. e ≡ refusals.WriteFailed → PutsFront r (HasReducedForm s r.file))) → (Honest r → IfErr answer (λ e. e ≡ refusals.StoreChanged → ⊥)) → (Honest r → IfErr answer (TooLong s r.file))
      → Answered r (HasReducedForm s r.file) (IsReducedFault s r.file) (LacksNamed s.track r.honest r.file) answer
  write_answers (Ok x) reads puts text w p b u t = ((reads, puts), text)
  write_answers (Err e) reads puts text w p b u t = write_fails e w p b u t

too_long : (s : Selection) (file : List ℕ) (m : MovieSeen) (tree : FileTree) → IsOpenedTold s.track s.leaving.lead_ins file m tree → (r : Refusal) → NamesLong (words_told s.leaving) file tree r → TooLong s file r
too_long s file m tree o (refusals.Fault f) n = fault_told s file m tree o f n.0
too_long s file m tree o refusals.Memory n = tt
too_long s file m tree o refusals.StoreFailed n = tt
too_long s file m tree o refusals.StoreChanged n = tt
too_long s file m tree o refusals.WriteFailed n = tt
too_long s file m tree o refusals.NoSuchTrack n = tt

if_too_long : (s : Selection) (file : List ℕ) (m : MovieSeen) (tree : FileTree) → IsOpenedTold s.track s.leaving.lead_ins file m tree → {T : Type 0} (answer : Result T Refusal) → IfErr answer (NamesLong (words_told s.leaving) file tree) → IfErr answer (TooLong s file)
if_too_long s file m tree o (Ok x) n = tt
if_too_long s file m tree o (Err r) n = too_long s file m tree o r n

-- ---- what is so of the boxes of a file that was opened, is so of what it denotes

-- the store and its file as they are when the file is opened, in the run, and when it is written
module _ (s : Selection) (r : Run) (honest_then : Bool) (file_then : List ℕ) (m : MovieSeen) (same_honesty : honest_then ≡ r.honest) (same_file : file_then ≡ r.file) (opened : Honest r → (t : FileTree) × IsOpenedTold s.track s.leaving.lead_ins r.file m t) where
  -- what is so of the boxes that were opened
  abbrev Then : Bool → List ℕ → (List ℕ → FileTree → Type 0) → Type 0
  Then told f P = IsTrue told → (t : FileTree) → IsOpenedAs f m t → P f t

  so : (P : List ℕ → FileTree → Type 0) → Then honest_then file_then P → (told : Honest r) → P r.file (opened told).0
  so P p told =
      let here : Then r.honest r.file P = subst (λ b. Then b r.file P) same_honesty (subst (λ f. Then honest_then f P) same_file p) in
      here told (opened told).0 (opened told).1.opened

  -- the normal form of what is left
  abbrev left : List ℕ → FileTree → List ℕ
  left f t = normal (remaining (words_told s.leaving) (presentation_of f t))

  written : {T : Type 0} (answer : Result T Refusal) → Then honest_then file_then (λ f t. OnOk answer (r.took (left f t))) → Then honest_then file_then (λ f t. TellsLong (words_told s.leaving) f t answer (PutsNothing r))
      → OnOk answer (Honest r → PutsAll r (HasReducedForm s r.file))
  written (Ok x) put long = λ told.
      let tells = so (λ f t. TellsLong (words_told s.leaving) f t (Ok x) (PutsNothing r)) long told in
      (left r.file (opened told).0, form_told s r.file m (opened told).0 (opened told).1 tells.in_limits, so (λ f t. r.took (left f t)) put told)
  written (Err e) put long = tt

  -- a front of it was put, where it is not too long
  front_in_time : (told : Honest r) → RemainsInLimits (words_told s.leaving) (presentation_of r.file (opened told).0) → PutsSomeOf r (left r.file (opened told).0) → PutsFront r (HasReducedForm s r.file)
  front_in_time told in_time put = (left r.file (opened told).0, form_told s r.file m (opened told).0 (opened told).1 in_time, put)

  front : {T : Type 0} (answer : Result T Refusal) → Then honest_then file_then (λ f t. OnErr answer (PutsSomeOf r (left f t))) → Then honest_then file_then (λ f t. TellsLong (words_told s.leaving) f t answer (PutsNothing r))
      → Honest r → OnErr answer (PutsNothing r ⊎ PutsFront r (HasReducedForm s r.file))
  front answer put long told =
      let tells = so (λ f t. TellsLong (words_told s.leaving) f t answer (PutsNothing r)) long told in
      on_err _ _ answer
      (λ a. elim (remains_or (words_told s.leaving) (presentation_of r.file (opened told).0)) [
        | inl in_time ↦ inr (front_in_time told in_time a)
        | inr late ↦ inl (tells.nothing late)
      ])
      (so (λ f t. OnErr answer (PutsSomeOf r (left f t))) put told)

  begun_in_time : {T : Type 0} (answer : Result T Refusal) → Then honest_then file_then (λ f t. TellsLong (words_told s.leaving) f t answer (PutsNothing r)) → (told : Honest r)
      → IfErr answer (λ e. e ≡ refusals.WriteFailed → RemainsInLimits (words_told s.leaving) (presentation_of r.file (opened told).0))
  begun_in_time answer long told = (so (λ f t. TellsLong (words_told s.leaving) f t answer (PutsNothing r)) long told).begun

  begun : {T : Type 0} (answer : Result T Refusal) → Then honest_then file_then (λ f t. OnErr answer (PutsSomeOf r (left f t))) → Then honest_then file_then (λ f t. TellsLong (words_told s.leaving) f t answer (PutsNothing r))
      → Honest r → IfErr answer (λ e. e ≡ refusals.WriteFailed → PutsFront r (HasReducedForm s r.file))
  begun (Ok x) put long told = tt
  begun (Err e) put long told = λ failed. front_in_time told (begun_in_time (Err e) long told failed) (so (λ f t. PutsSomeOf r (left f t)) put told)

  -- nothing was put of what is too long
  none_late : {T : Type 0} (answer : Result T Refusal) → Then honest_then file_then (λ f t. TellsLong (words_told s.leaving) f t answer (PutsNothing r)) → Honest r → PassesLimits s r.file → PutsNothing r
  none_late answer long told late =
      let tells = so (λ f t. TellsLong (words_told s.leaving) f t answer (PutsNothing r)) long told in
      let tree = (opened told).0 in
      let o = (opened told).1 in
      let same : o.p ≡ late.0 = shows_one s.track r.file o.p late.0 (shows_told s r.file m tree o) late.1 in
      tells.nothing (λ in_time. late.2 (subst (IsLeftInLimits s.leaving) same (limits_told s r.file m tree o in_time)))

  pub reduced_unchanged : {T : Type 0} (answer : Result T Refusal) → Then honest_then file_then (λ f t. IfErr answer (λ e. e ≡ refusals.StoreChanged → ⊥)) → Honest r → IfErr answer (λ e. e ≡ refusals.StoreChanged → ⊥)
  reduced_unchanged answer put told = so (λ f t. IfErr answer (λ e. e ≡ refusals.StoreChanged → ⊥)) put told

  late : {T : Type 0} (answer : Result T Refusal) → Then honest_then file_then (λ f t. IfErr answer (NamesLong (words_told s.leaving) f t)) → Honest r → IfErr answer (TooLong s r.file)
  late answer put told = if_too_long s r.file m (opened told).0 (opened told).1 answer (so (λ f t. IfErr answer (NamesLong (words_told s.leaving) f t)) put told)

  -- ---- by the words that the movie is left by

  module _ (w : Without) (same : w ≡ words_told s.leaving) where
    by_words : (Q : Without → List ℕ → FileTree → Type 0) → Then honest_then file_then (Q w) → Then honest_then file_then (Q (words_told s.leaving))
    by_words Q p = subst (λ x. Then honest_then file_then (Q x)) same p

    -- as they are promised of it
    abbrev Form : Without → List ℕ → FileTree → List ℕ
    Form x f t = normal (remaining x (presentation_of f t))

    abbrev Long : {T : Type 0} → Result T Refusal → Without → List ℕ → FileTree → Type 0
    Long answer x f t = TellsLong x f t answer (PutsNothing r)

    pub reduced_written : {T : Type 0} (answer : Result T Refusal) → Then honest_then file_then (λ f t. OnOk answer (r.took (Form w f t))) → Then honest_then file_then (Long answer w) → OnOk answer (Honest r → PutsAll r (HasReducedForm s r.file))
    reduced_written answer put long = written answer (by_words (λ x f t. OnOk answer (r.took (Form x f t))) put) (by_words (Long answer) long)

    pub reduced_front : {T : Type 0} (answer : Result T Refusal) → Then honest_then file_then (λ f t. OnErr answer (PutsSomeOf r (Form w f t))) → Then honest_then file_then (Long answer w) → Honest r → OnErr answer (PutsNothing r ⊎ PutsFront r (HasReducedForm s r.file))
    reduced_front answer put long = front answer (by_words (λ x f t. OnErr answer (PutsSomeOf r (Form x f t))) put) (by_words (Long answer) long)

    pub reduced_begun : {T : Type 0} (answer : Result T Refusal) → Then honest_then file_then (λ f t. OnErr answer (PutsSomeOf r (Form w f t))) → Then honest_then file_then (Long answer w) → Honest r → IfErr answer (λ e. e ≡ refusals.WriteFailed → PutsFront r (HasReducedForm s r.file))
    reduced_begun answer put long = begun answer (by_words (λ x f t. OnErr answer (PutsSomeOf r (Form x f t))) put) (by_words (Long answer) long)

    pub none_too_long : {T : Type 0} (answer : Result T Refusal) → Then honest_then file_then (Long answer w) → Honest r → PassesLimits s r.file → PutsNothing r
    none_too_long answer long = none_late answer (by_words (Long answer) long)

    pub reduced_too_long : {T : Type 0} (answer : Result T Refusal) → Then honest_then file_then (λ f t. IfErr answer (NamesLong w f t)) → Honest r → IfErr answer (TooLong s r.file)
    reduced_too_long answer put = late answer (by_words (λ x f t. IfErr answer (NamesLong x f t)) put)

    pub refused_so : {T : Type 0} (answer : Result T Refusal) → IfErr answer (RefusesLeftCopy w r.took r.reads r.reads_after r.puts r.puts_after) → IfErr answer (RefusesLeftCopy (words_told s.leaving) r.took r.reads r.reads_after r.puts r.puts_after)
    refused_so answer h = subst (λ x. IfErr answer (RefusesLeftCopy x r.took r.reads r.reads_after r.puts r.puts_after)) same h

    pub not_read_so : {T : Type 0} (answer : Result T Refusal) → IfErr answer (RefusesLeft w r.reads r.reads_after) → IfErr answer (RefusesLeft (words_told s.leaving) r.reads r.reads_after)
    not_read_so answer h = subst (λ x. IfErr answer (RefusesLeft x r.reads r.reads_after)) same h
