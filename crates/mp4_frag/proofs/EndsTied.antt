-- Where the data of a `traf` of a sound `moof` ends, as a walk finds it, is where it ends by the definition.
use Rattle.std.proofs.Common.{◌≡◌, ℕ, ◌+◌, ◌-◌, ◌^◌, ◌<◌, ◌≤◌, Bool, true, false, cond, IsTrue, List, [], ◌∷◌, map, Option, Some, None, refl, sym, ap, subst, ◌∙◌, rules, arith}
use Rattle.std.specs.Prelude.{ℤ, pos, negsuc, ◌+ℤ◌, IfSome, FitsSigned, codes, bytes_eq}
use Rattle.std.specs.Int.{w32}
use Rattle.std.specs.List.{AllByRecursion}
use Rattle.mp4_boxes.specs.format.Bytes.{AreBytes}
use Rattle.mp4_boxes.specs.format.Box.{Box}
use Rattle.mp4_boxes.specs.format.Children.{of_kind}
use Rattle.mp4_boxes.specs.format.Layout.{trun, IsSound}
use Rattle.mp4_frag.specs.format.Fragments.{TrackFragment, sample_run_of}
use Rattle.mp4_frag.specs.format.FragmentSamples.{run_start, runs_samples, runs_end, end_of_data}
use Rattle.mp4_frag.specs.format.FragmentRules.{is_within}
use Rattle.mp4_frag.specs.words.MoofWalks.{start_held, run_end, runs_end_held}
use Rattle.mp4_frag.specs.words.Passing.{IsUpTo, filling}
use Rattle.mp4_frag.specs.words.Walks.{held}
use Rattle.mp4_frag.specs.declared.trex.Trex.{Trex}
use Rattle.mp4_frag.proofs.Bounds.{offset_of_bytes, rows_up_to, start_up_to, up_to_offset}
use Rattle.mp4_frag.proofs.LeavesRead.{read}
use Rattle.mp4_frag.proofs.RowsTied.{size_of}
use Rattle.mp4_frag.proofs.RunsTied.{run_in, same_rows, samples_of_run, start_of_run}
use Rattle.mp4_frag.proofs.SamplesOfRows.{within_is, filling_is, end_is}

-- a place that is near is held
held_near : (n : ℕ) (z : ℤ) → n ≤ 2 ^ 100 → IsUpTo n z → held z ≡ z
held_near n (pos k) h b = let low : k ≤ 2 ^ 127 - 1 = omega (arith, h, b) in search rules
held_near n (negsuc k) h b = let low : k < 2 ^ 127 = omega (arith, h, b) in search rules

start_tied : (n : ℕ) (base before : ℤ) (offset : Option ℤ) → n + 2 ^ 31 ≤ 2 ^ 100 → IfSome offset (FitsSigned w32) → IsUpTo n base → start_held base before offset ≡ run_start base before offset
start_tied n base before None h f b = refl
start_tied n base before (Some offset) h f b = held_near (n + 2 ^ 31) (base +ℤ offset) h (up_to_offset n base offset f b)

-- the run of a `trun` of bytes that is sound, whose samples lie in the file
run_tied : (L n : ℕ) (traf : TrackFragment) (trex : Trex) (base before : ℤ) (payload : List ℕ) → L < 2 ^ 64 → 2 ^ 64 ≤ n → n + 2 ^ 31 ≤ 2 ^ 100 → IsSound trun payload → AreBytes payload → is_within L (samples_of_run traf trex base before payload) ≡ true
    → IsUpTo n base → IsUpTo (n + 2 ^ 31) before
    → (run_end (size_of traf trex) base before payload ≡ end_of_data (start_of_run base before payload) (samples_of_run traf trex base before payload)) × IsUpTo (n + 2 ^ 31) (end_of_data (start_of_run base before payload) (samples_of_run traf trex base before payload))
run_tied L n traf trex base before payload short big small sound bytes within b c =
    let run = sample_run_of payload in
    let start = start_of_run base before payload in
    let offset = offset_of_bytes payload bytes in
    let there = read trun payload sound.readable in
    let begins = start_tied n base before run.data_offset small offset b in
    let fills = ap (filling (size_of traf trex)) (same_rows payload sound) ∙ sym (filling_is trex traf run.first_sample_flags start run.rows) in
    let inside = sym (within_is L trex traf run.first_sample_flags start run.rows) ∙ within in
    let end = rows_up_to (n + 2 ^ 31) L (size_of traf trex) start run.rows (omega (arith, short, big)) inside (start_up_to n base before run.data_offset offset b c) in
    let near = subst (IsUpTo (n + 2 ^ 31)) (sym (end_is trex traf run.first_sample_flags start run.rows)) end in (
      rw there ((λ i. held (begins i +ℤ pos (fills i))) ∙ held_near (n + 2 ^ 31) (end_of_data start (samples_of_run traf trex base before payload)) small near),
      near,
    )

-- what is so of boxes that hold these runs
abbrev EndTied : ℕ → ℕ → TrackFragment → Trex → ℤ → List Box → List Box → Type 0
EndTied L n traf trex base boxes runs =
    (before : ℤ) → AllByRecursion (λ (b : Box). IsSound trun b.payload) runs → AllByRecursion (λ (b : Box). AreBytes b.payload) runs → AllByRecursion (λ samples. IsTrue (is_within L samples)) (runs_samples trex traf base before (map run_in runs))
    → IsUpTo (n + 2 ^ 31) before → (runs_end_held (size_of traf trex) base before boxes ≡ runs_end trex traf base before (map run_in runs)) × IsUpTo (n + 2 ^ 31) (runs_end trex traf base before (map run_in runs))

one_more : (L n : ℕ) (traf : TrackFragment) (trex : Trex) (base : ℤ) (b : Box) (boxes runs : List Box) (v : Bool) → L < 2 ^ 64 → 2 ^ 64 ≤ n → n + 2 ^ 31 ≤ 2 ^ 100 → IsUpTo n base → bytes_eq (codes "trun") b.kind ≡ v
    → EndTied L n traf trex base boxes runs → EndTied L n traf trex base (b ∷ boxes) (cond v (b ∷ runs) runs)
one_more L n traf trex base b boxes runs false short big small near e others before sound bytes within c =
    let more = others before sound bytes within c in
    (ap (λ v. runs_end_held (size_of traf trex) base (cond v (run_end (size_of traf trex) base before b.payload) before) boxes) e ∙ more.0, more.1)
one_more L n traf trex base b boxes runs true short big small near e others before sound bytes within c =
    let one = run_tied L n traf trex base before b.payload short big small sound.0 bytes.0 (search (rules, within.0)) near c in
    let more = others (end_of_data (start_of_run base before b.payload) (samples_of_run traf trex base before b.payload)) sound.1 bytes.1 within.1 one.1 in (
      ap (λ v. runs_end_held (size_of traf trex) base (cond v (run_end (size_of traf trex) base before b.payload) before) boxes) e ∙ ap (λ z. runs_end_held (size_of traf trex) base z boxes) one.0 ∙ more.0,
      more.1,
    )

pub ends_tied : (L n : ℕ) (traf : TrackFragment) (trex : Trex) (base : ℤ) (boxes : List Box) → L < 2 ^ 64 → 2 ^ 64 ≤ n → n + 2 ^ 31 ≤ 2 ^ 100 → IsUpTo n base → EndTied L n traf trex base boxes (of_kind (codes "trun") boxes)
ends_tied L n traf trex base [] short big small near = λ before sound bytes within c. (refl, c)
ends_tied L n traf trex base (b ∷ boxes) short big small near = one_more L n traf trex base b boxes (of_kind (codes "trun") boxes) (bytes_eq (codes "trun") b.kind) short big small near refl (ends_tied L n traf trex base boxes short big small near)
