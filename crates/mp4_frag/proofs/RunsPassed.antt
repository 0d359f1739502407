-- The runs of a `traf`, passed one by one.
use Rattle.std.proofs.Common.{◌≡◌, ℕ, ◌+◌, ◌-◌, ◌≤◌, true, List, [], ◌∷◌, Some, None, refl, sym, ap, subst, ◌∙◌, arith}
use Rattle.std.specs.Prelude.{ℤ, codes, bytes_eq}
use Rattle.mp4_boxes.specs.format.Box.{Box, Tiles, bytes_container}
use Rattle.mp4_tables.specs.words.Leaves.{boxes_of}
use Rattle.mp4_tables.proofs.LeafLists.{boxes_are}
use Rattle.mp4_boxes.specs.format.Children.{of_kind}
use Rattle.mp4_boxes.specs.format.Layout.{trun, row_count}
use Rattle.mp4_boxes.specs.format.BoxFaults.{fault_of}
use Rattle.mp4_boxes.specs.declared.fault.Kind.{Kind}
use Rattle.mp4_frag.specs.format.Fragments.{sample_run_of}
use Rattle.mp4_frag.specs.words.Passing.{lasting, filling, IsRunPassed}
use Rattle.mp4_frag.specs.words.RunsJudged.{children_of, run_ends, IsRunSound, AreRunsSound, all_end, runs_total, runs_lasting, runs_filling}
use Rattle.mp4_frag.specs.declared.heads.Inherited.{Inherited}
use Rattle.std.specs.Prelude.{option_map}
use Rattle.mp4_boxes.specs.format.FirstFault.{first_failed, naming}
use Rattle.mp4_tables.proofs.FirstGroups.{named_first}
use Rattle.mp4_frag.specs.declared.sample_runs.Judged.{Judged}
use Rattle.mp4_frag.specs.words.FragmentTests.{one_run_tests, runs_tests}
use Rattle.mp4_frag.proofs.FirstRun.{behind_all}
use Rattle.mp4_frag.proofs.Comings.{turned}
use Rattle.mp4_tables.proofs.InOrder.{fails_first}

-- what is known of the track of a `traf`
abbrev pub judged_by : ℕ → Inherited → ℤ → Judged
judged_by file_length inherited base = record { file_len = file_length; base = base; inherited = inherited }

abbrev runs_of : List Box → List Box
runs_of boxes = of_kind (codes "trun") boxes

-- Of all boxes these are left. What was passed has so many samples, which last so long and take so many bytes, and its data ends at a place; there is room for so many more.
pub record RunsSeen (file_length : ℕ) (inherited : Inherited) (base : ℤ) (all left : List Box) (whole room : ℕ) (at : ℤ) (count lasts fills : ℕ) : Type 0 where
  pub sound : AreRunsSound file_length inherited base at (runs_of left) → AreRunsSound file_length inherited base base (runs_of all)
  pub end : all_end inherited base base (runs_of all) ≡ all_end inherited base at (runs_of left)
  pub total : runs_total (runs_of all) ≡ count + runs_total (runs_of left)
  pub lasting : runs_lasting inherited (runs_of all) ≡ lasts + runs_lasting inherited (runs_of left)
  pub filling : runs_filling inherited (runs_of all) ≡ fills + runs_filling inherited (runs_of left)
  pub first : first_failed (runs_tests (judged_by file_length inherited base) base whole (runs_of all)) ≡ first_failed (runs_tests (judged_by file_length inherited base) at room (runs_of left))

run_kept : (b : Box) (boxes : List Box) → bytes_eq b.kind (codes "trun") ≡ true → runs_of (b ∷ boxes) ≡ b ∷ runs_of boxes
run_kept b boxes e = rw (turned (codes "trun") b.kind ∙ e) refl

passed_total : (whole n more rest : ℕ) → whole ≡ n + (more + rest) → whole ≡ (n + more) + rest
passed_total whole n more rest e = omega arith

-- a run that is named
pub run_first : (L : ℕ) (inherited : Inherited) (base : ℤ) (all left later : List Box) (b : Box) (whole room : ℕ) (at : ℤ) (count lasts fills : ℕ) (kind : Kind) → RunsSeen L inherited base all left whole room at count lasts fills → left ≡ b ∷ later → bytes_eq b.kind (codes "trun") ≡ true
    → first_failed (one_run_tests (judged_by L inherited base) at room b.payload) ≡ Some kind → first_failed (runs_tests (judged_by L inherited base) base whole (runs_of all)) ≡ Some (fault_of kind b)
run_first L inherited base all left later b whole room at count lasts fills kind s e k named =
    let same : runs_of left ≡ b ∷ runs_of later = ap runs_of e ∙ run_kept b later k in
    s.first ∙ ap (λ (runs : List Box). first_failed (runs_tests (judged_by L inherited base) at room runs)) same
    ∙ fails_first (naming b (one_run_tests (judged_by L inherited base) at room b.payload)) (runs_tests (judged_by L inherited base) (run_ends inherited base at b.payload) (room - row_count trun b.payload) (runs_of later)) (fault_of kind b)
    (named_first b (one_run_tests (judged_by L inherited base) at room b.payload) ∙ ap (option_map (λ (k : Kind). fault_of k b)) named)

-- none is
pub runs_first : (L : ℕ) (inherited : Inherited) (base : ℤ) (all left boxes : List Box) (whole room : ℕ) (at : ℤ) (count lasts fills : ℕ) → RunsSeen L inherited base all left whole room at count lasts fills → left ≡ [] → all ≡ boxes
    → first_failed (runs_tests (judged_by L inherited base) base whole (runs_of boxes)) ≡ None
runs_first L inherited base all left boxes whole room at count lasts fills s e f =
    ap (λ (bs : List Box). first_failed (runs_tests (judged_by L inherited base) base whole (runs_of bs))) (sym f) ∙ s.first ∙ ap (λ (bs : List Box). first_failed (runs_tests (judged_by L inherited base) at room (runs_of bs))) e

-- a run that passes
pub seen_run : (L : ℕ) (inherited : Inherited) (base : ℤ) (all left later : List Box) (b : Box) (whole room less : ℕ) (at to : ℤ) (count more lasts longer fills larger : ℕ) → RunsSeen L inherited base all left whole room at count lasts fills → left ≡ b ∷ later → bytes_eq b.kind (codes "trun") ≡ true
    → IsRunPassed L inherited base at b.payload to (more - count) (longer - lasts) (larger - fills) → count ≤ more → lasts ≤ longer → fills ≤ larger → more + less ≡ count + room
    → first_failed (one_run_tests (judged_by L inherited base) at room b.payload) ≡ None
    → RunsSeen L inherited base all later whole less to more longer larger
seen_run L inherited base all left later b whole room less at to count more lasts longer fills larger s e k p few short small kept fine =
    let same : runs_of left ≡ b ∷ runs_of later = ap runs_of e ∙ run_kept b later k in
    let one : IsRunSound L inherited base at b.payload = record { sound = p.sound; within = p.within } in
    let ends : to ≡ run_ends inherited base at b.payload = p.end in
    let samples = p.count in
    let lasting = p.duration in
    let filled = p.bytes in
    let room_left : less ≡ room - row_count trun b.payload = omega arith in
    let n : more ≡ count + row_count trun b.payload = omega arith in
    let d : longer ≡ lasts + lasting_of b = omega arith in
    let z : larger ≡ fills + filling_of b = omega arith in
    record {
      sound = λ h. s.sound (subst (AreRunsSound L inherited base at) (sym same) (one, subst (λ (place : ℤ). AreRunsSound L inherited base place (runs_of later)) ends h));
      end = s.end ∙ ap (all_end inherited base at) same ∙ ap (λ (place : ℤ). all_end inherited base place (runs_of later)) (sym ends);
      total = passed_total (runs_total (runs_of all)) count (row_count trun b.payload) (runs_total (runs_of later)) (s.total ∙ ap (λ runs. count + runs_total runs) same) ∙ ap (λ m. m + runs_total (runs_of later)) (sym n);
      lasting = passed_total (runs_lasting inherited (runs_of all)) lasts (lasting_of b) (runs_lasting inherited (runs_of later)) (s.lasting ∙ ap (λ runs. lasts + runs_lasting inherited runs) same) ∙ ap (λ m. m + runs_lasting inherited (runs_of later)) (sym d);
      filling = passed_total (runs_filling inherited (runs_of all)) fills (filling_of b) (runs_filling inherited (runs_of later)) (s.filling ∙ ap (λ runs. fills + runs_filling inherited runs) same) ∙ ap (λ m. m + runs_filling inherited (runs_of later)) (sym z);
      first = s.first ∙ ap (λ (runs : List Box). first_failed (runs_tests (judged_by L inherited base) at room runs)) same
          ∙ behind_all (naming b (one_run_tests (judged_by L inherited base) at room b.payload)) (runs_tests (judged_by L inherited base) (run_ends inherited base at b.payload) (room - row_count trun b.payload) (runs_of later)) _
          (named_first b (one_run_tests (judged_by L inherited base) at room b.payload) ∙ ap (option_map (λ (k : Kind). fault_of k b)) fine) refl
          ∙ (λ i. first_failed (runs_tests (judged_by L inherited base) (sym ends i) (sym room_left i) (runs_of later)));
    }
  where
    lasting_of : Box → ℕ
    lasting_of c = lasting inherited.duration (sample_run_of c.payload).rows

    filling_of : Box → ℕ
    filling_of c = filling inherited.size (sample_run_of c.payload).rows

-- ---- the boxes in a box

-- boxes that fill the payload of a box are those in it
pub all_children : (b : Box) (kind payload : List ℕ) (base : ℕ) (boxes : List Box) → payload ≡ b.payload → base ≡ b.offset + b.header → Tiles (bytes_container kind base payload) boxes → boxes ≡ children_of b
unfolding boxes_of
all_children b kind payload base boxes p o t =
    let here : Tiles (bytes_container kind (b.offset + b.header) b.payload) boxes = subst (λ n. Tiles (bytes_container kind n b.payload) boxes) o (subst (λ (bytes : List ℕ). Tiles (bytes_container kind base bytes) boxes) p t) in
    sym (boxes_are b boxes (record { front = here.front; full = here.full }))

-- ---- behind the last box

pub runs_sound : (L : ℕ) (inherited : Inherited) (base : ℤ) (all left boxes : List Box) (whole room : ℕ) (at : ℤ) (count lasts fills : ℕ) → RunsSeen L inherited base all left whole room at count lasts fills → left ≡ [] → all ≡ boxes → AreRunsSound L inherited base base (runs_of boxes)
runs_sound L inherited base all left boxes whole room at count lasts fills s e f = subst (λ bs. AreRunsSound L inherited base base (runs_of bs)) f (s.sound (subst (λ bs. AreRunsSound L inherited base at (runs_of bs)) (sym e) tt))

pub runs_ended : (L : ℕ) (inherited : Inherited) (base : ℤ) (all left boxes : List Box) (whole room : ℕ) (at : ℤ) (count lasts fills : ℕ) → RunsSeen L inherited base all left whole room at count lasts fills → left ≡ [] → all ≡ boxes
    → (at ≡ all_end inherited base base (runs_of boxes)) × (count ≡ runs_total (runs_of boxes)) × (lasts ≡ runs_lasting inherited (runs_of boxes)) × (fills ≡ runs_filling inherited (runs_of boxes))
runs_ended L inherited base all left boxes whole room at count lasts fills s e f =
    let end = s.end ∙ ap (λ bs. all_end inherited base at (runs_of bs)) e in
    let total : runs_total (runs_of all) ≡ count + 0 = s.total ∙ ap (λ bs. count + runs_total (runs_of bs)) e in
    let lasting : runs_lasting inherited (runs_of all) ≡ lasts + 0 = s.lasting ∙ ap (λ bs. lasts + runs_lasting inherited (runs_of bs)) e in
    let filling : runs_filling inherited (runs_of all) ≡ fills + 0 = s.filling ∙ ap (λ bs. fills + runs_filling inherited (runs_of bs)) e in
    (sym end ∙ ap (λ bs. all_end inherited base base (runs_of bs)) f, omega (arith, total) ∙ ap (λ bs. runs_total (runs_of bs)) f, omega (arith, lasting) ∙ ap (λ bs. runs_lasting inherited (runs_of bs)) f, omega (arith, filling) ∙ ap (λ bs. runs_filling inherited (runs_of bs)) f)
