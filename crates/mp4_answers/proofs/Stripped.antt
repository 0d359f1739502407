-- A copy of a whole file in which some boxes are free space: all of it is put, or the file is not judged.
use Rattle.std.proofs.Common.{◌≡◌, inl, Bool, ℕ, ◌-◌, List, [], ◌++◌, length, sym, subst, Err}
use Rattle.std.proofs.lemmas.List.{append-nil}
use Rattle.mp4_store.specs.words.Device.{TakesPrefix, range}
use Rattle.mp4_store.proofs.Known.{IsJoining}
use Rattle.mp4_boxes.specs.declared.refusal.Refusal.{Refusal}
use Rattle.mp4_boxes.specs.declared.refusal.Refusal.TheVariants as refusals
use Rattle.mp4_boxes.specs.declared.rule.Rule.TheVariants.{File}
use Rattle.mp4_present.specs.words.Carried.{BytesGoOn}
use Rattle.mp4_present.proofs.Carrying.{BytesGoOn-all}
use Rattle.mp4_answers.specs.format.Answers.{StrippedOf}
use Rattle.mp4_answers.specs.format.Run.{Run, PutsNothing}
use Rattle.mp4_answers.specs.declared.box_names.Name.{Name}
use Rattle.mp4_answers.specs.format.Strips.{Strips, IsStripped, Halts, RefusesFind, RefusesLook, RefusesWalk}
use Rattle.mp4_answers.proofs.StripCopies.{front_fails}
use Rattle.mp4_answers.proofs.BoxSpans.{whole_range}

pub of_file : (names : List Name) (file text : List ℕ) → Strips names File (range file 0 (length file - 0)) text → IsStripped names file text
of_file names file text s = subst (λ bs. Strips names File bs text) (whole_range file) s

-- a file that is not judged
pub walk_fails : (A : Type 0) (names : List Name) (r : Run) (e : Refusal) → PutsNothing r → RefusesWalk names r.honest File 0 (range r.file 0 (length r.file - 0)) r.reads r.reads_after e → StrippedOf {A = A} names r (Err e)
walk_fails A names r (refusals.Fault f) n w = (n, λ told. subst (λ bs. Halts names f File 0 bs) (whole_range r.file) (w told))
walk_fails A names r refusals.Memory n w = n
walk_fails A names r refusals.StoreFailed n w = (w, λ told. inl n)
walk_fails A names r refusals.StoreChanged n w = absurd w
walk_fails A names r refusals.WriteFailed n w = absurd w
walk_fails A names r refusals.NoSuchTrack n w = absurd w

-- a file that is not looked through
pub look_fails : (names : List Name) (honest : Bool) (file : List ℕ) (reads reads_after : ℕ) (r : Refusal) → RefusesFind names honest File 0 (range file 0 (length file - 0)) reads reads_after r → RefusesLook names honest file reads reads_after r
look_fails names honest file reads reads_after r w = subst (λ bs. RefusesFind names honest File 0 bs reads reads_after r) (whole_range file) w

-- what waited at the end is put, behind what was
pub all_put : {Y : Type 0} {takes : Y → Y → List ℕ → Type 0} (joins : IsJoining takes) (a b c : Y) (held held_b text : List ℕ) → held ≡ [] → BytesGoOn (takes a b) held held_b text → takes b c held_b → takes a c text
all_put {takes = takes} joins a b c held held_b text e p q = let whole = BytesGoOn-all joins a b c held held_b text p q in subst (λ xs. takes a c (xs ++ text)) e whole

pub end_fails : {Y : Type 0} {takes : Y → Y → List ℕ → Type 0} (joins : IsJoining takes) (a b c : Y) (held held_b text : List ℕ) → held ≡ [] → BytesGoOn (takes a b) held held_b text → TakesPrefix (takes b c) held_b → TakesPrefix (takes a c) text
end_fails {takes = takes} joins a b c held held_b text e p q =
    let whole = front_fails joins a b c held held_b text [] [] text p (subst (λ xs. TakesPrefix (takes b c) xs) (sym (append-nil held_b)) q) (sym (append-nil text)) in
    subst (λ xs. TakesPrefix (takes a c) (xs ++ text)) e whole
