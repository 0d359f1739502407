-- What the boxes of a `moof` say is what its tree says, and their samples are those of its parts.
use Rattle.std.proofs.Common.{◌≡◌, ℕ, suc, List, [], ◌∷◌, length, map, Option, None, refl, ap, ◌∙◌, arith}
use Rattle.std.specs.Prelude.{ℤ, pos, flat_map, unwrap_or, codes}
use Rattle.std.proofs.lemmas.List.{length-append}
use Rattle.mp4_boxes.specs.format.Bytes.{sum_of}
use Rattle.mp4_boxes.specs.format.Box.{Box}
use Rattle.mp4_boxes.specs.format.Children.{of_kind}
use Rattle.mp4_boxes.specs.declared.rule.Rule.TheVariants as rules
use Rattle.mp4_tables.specs.format.Groups.{maps_of}
use Rattle.mp4_frag.specs.format.Fragments.{RunRow, SampleRun, TrackFragment, Fragment, FragmentTree, AreTrafs, IsFragmentTree, fragment_of, track_fragment_of}
use Rattle.mp4_frag.specs.format.FragmentSamples.{Part, part_samples, parts_after, parts_of, run_samples, run_start, runs_samples, runs_end, end_of_data, base_of, trex_for, no_trex}
use Rattle.mp4_frag.specs.words.RunsJudged.{children_of}
use Rattle.mp4_frag.specs.format.FragmentRows.{fragment_length, moof_says}
use Rattle.mp4_frag.specs.declared.trex.Trex.{Trex}
use Rattle.mp4_frag.proofs.HeadsFound.{holds_children}
use Rattle.mp4_tables.proofs.Counts.{groups_length}

pub rows_said : (trex : Trex) (traf : TrackFragment) (first : Option ℕ) (at : ℤ) (rows : List RunRow) → length (run_samples trex traf first at rows) ≡ length rows
rows_said trex traf first at [] = refl
rows_said trex traf first at (row ∷ rows) = ap suc (rows_said trex traf None _ rows)

runs_said : (trex : Trex) (traf : TrackFragment) (base before : ℤ) (runs : List SampleRun) → length (flat_map (λ samples. samples) (runs_samples trex traf base before runs)) ≡ sum_of (λ (run : SampleRun). length run.rows) runs
runs_said trex traf base before [] = refl
runs_said trex traf base before (run ∷ runs) =
    let samples = run_samples trex traf run.first_sample_flags (run_start base before run.data_offset) run.rows in
    let more = flat_map (λ samples. samples) (runs_samples trex traf base (end_of_data (run_start base before run.data_offset) samples) runs) in
    let one = rows_said trex traf run.first_sample_flags (run_start base before run.data_offset) run.rows in
    let others = runs_said trex traf base (end_of_data (run_start base before run.data_offset) samples) runs in
    omega (arith, length-append samples more, one, others)

trafs_said : (trexes : List Trex) (moof : ℕ) (before : ℤ) (trafs : List TrackFragment)
    → sum_of (λ (part : Part). length (part_samples part)) (parts_after trexes moof before trafs) ≡ sum_of (λ (traf : TrackFragment). sum_of (λ (run : SampleRun). length run.rows) traf.runs) trafs
trafs_said trexes moof before [] = refl
trafs_said trexes moof before (traf ∷ trafs) =
    let trex = unwrap_or (trex_for trexes traf.id) no_trex in
    let base = base_of moof before traf in
    let flat = flat_map (λ samples. samples) (runs_samples trex traf base base traf.runs) in
    let grouped = groups_length (maps_of (length flat) traf.groups) flat in
    let one = runs_said trex traf base base traf.runs in
    let others = trafs_said trexes moof (runs_end trex traf base base traf.runs) trafs in
    omega (arith, grouped, one, others)

-- each sample of the parts
pub parts_said : (trexes : List Trex) (f : Fragment) → sum_of (λ (part : Part). length (part_samples part)) (parts_of trexes f) ≡ fragment_length f
parts_said trexes f = trafs_said trexes f.at (pos f.at) f.trafs

-- ---- the tree of a `moof`

trafs_are : (trafs : List Box) (lists : List (List Box)) → AreTrafs trafs lists → lists ≡ map children_of trafs
trafs_are [] [] h = refl
trafs_are (b ∷ trafs) (boxes ∷ lists) h = λ i. holds_children rules.TrackFragment b boxes h.0 i ∷ trafs_are trafs lists h.1 i
trafs_are [] (boxes ∷ lists) h = absurd h
trafs_are (b ∷ trafs) [] h = absurd h

pub tree_said : (t : FragmentTree) → IsFragmentTree t → fragment_of t ≡ moof_says t.moof
tree_said t h =
    let inside = holds_children rules.MovieFragment t.moof t.children h.children in
    let lists = trafs_are (of_kind (codes "traf") t.children) t.trafs h.trafs ∙ ap (λ boxes. map children_of (of_kind (codes "traf") boxes)) inside in
    ap (λ (boxes : List (List Box)). record { at = t.moof.offset; trafs = map track_fragment_of boxes }) lists
