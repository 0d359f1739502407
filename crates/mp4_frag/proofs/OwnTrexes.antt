-- A `moof` says the same by each list that has the defaults of its tracks, and there is always one: the tracks' own.
use Rattle.std.proofs.Common.{◌≡◌, ℕ, ◌==◌, Bool, true, false, List, [], ◌∷◌, Option, Some, None, refl, sym, ap, ◌∙◌}
use Rattle.std.specs.Prelude.{ℤ, pos, ◌+ℤ◌, unwrap_or}
use Rattle.std.proofs.lemmas.Bool.{eqb-true}
use Rattle.mp4_tables.specs.format.PlainSamples.{PlacedSample}
use Rattle.mp4_frag.specs.format.Fragments.{RunRow, SampleRun, TrackFragment}
use Rattle.mp4_frag.specs.format.FragmentSamples.{inherited, flags_of, run_samples, run_start, runs_samples, runs_end, end_of_data, base_of, trex_for, no_trex}
use Rattle.mp4_frag.specs.words.Judged.{AreTrexesOf, own_trexes, part_with, end_with}
use Rattle.mp4_frag.specs.words.Walks.{trex_among}
use Rattle.mp4_frag.specs.declared.state.TrackState.{TrackState}
use Rattle.mp4_frag.specs.declared.trex.Trex.{Trex}
use Rattle.mp4_frag.proofs.TrafsTied.{trex_found}

-- ---- the ID of a `trex` does not matter

abbrev as_of : ℕ → Trex → Trex
as_of id trex = record trex { id = id }

run_as : (id : ℕ) (trex : Trex) (traf : TrackFragment) (first : Option ℕ) (at : ℤ) (rows : List RunRow) → run_samples trex traf first at rows ≡ run_samples (as_of id trex) traf first at rows
run_as id trex traf first at [] = refl
run_as id trex traf first at (row ∷ rows) =
    ap (λ (samples : List PlacedSample). record {
      duration = inherited row.duration traf.duration trex.duration;
      offset = unwrap_or row.offset (pos 0);
      flags = flags_of first row.flags traf.flags trex.flags;
      description = unwrap_or traf.description trex.description;
      at = at;
      size = inherited row.size traf.size trex.size;
      groups = [];
    } ∷ samples) (run_as id trex traf None (at +ℤ pos (inherited row.size traf.size trex.size)) rows)

runs_as : (id : ℕ) (trex : Trex) (traf : TrackFragment) (base before : ℤ) (runs : List SampleRun) → runs_samples trex traf base before runs ≡ runs_samples (as_of id trex) traf base before runs
runs_as id trex traf base before [] = refl
runs_as id trex traf base before (run ∷ runs) =
    let at = run_start base before run.data_offset in
    let one = run_as id trex traf run.first_sample_flags at run.rows in
    (λ i. one i ∷ runs_samples trex traf base (end_of_data at (one i)) runs)
    ∙ ap (λ (more : List (List PlacedSample)). run_samples (as_of id trex) traf run.first_sample_flags at run.rows ∷ more) (runs_as id trex traf base (end_of_data at (run_samples (as_of id trex) traf run.first_sample_flags at run.rows)) runs)

ends_as : (id : ℕ) (trex : Trex) (traf : TrackFragment) (base before : ℤ) (runs : List SampleRun) → runs_end trex traf base before runs ≡ runs_end (as_of id trex) traf base before runs
ends_as id trex traf base before [] = refl
ends_as id trex traf base before (run ∷ runs) =
    let at = run_start base before run.data_offset in
    let one = run_as id trex traf run.first_sample_flags at run.rows in
    ap (λ samples. runs_end trex traf base (end_of_data at samples) runs) one
    ∙ ends_as id trex traf base (end_of_data at (run_samples (as_of id trex) traf run.first_sample_flags at run.rows)) runs

-- ---- lists of defaults

-- by the list the parts of `traf`s are what they are by the tracks
abbrev pub Agree : List Trex → List TrackState → Type 0
Agree trexes tracks =
    (id : ℕ) (trex : Trex) → trex_among tracks id ≡ Some trex → (moof : ℕ) (before : ℤ) (traf : TrackFragment)
    → (part_with moof before trex traf ≡ part_with moof before (unwrap_or (trex_for trexes id) no_trex) traf)
    × (end_with moof before trex traf ≡ end_with moof before (unwrap_or (trex_for trexes id) no_trex) traf)

-- so they are where each track's defaults are those of the list
pub agree_of : (trexes : List Trex) (tracks : List TrackState) → AreTrexesOf trexes tracks → Agree trexes tracks
agree_of trexes tracks h id trex e moof before traf =
    let same : trex ≡ unwrap_or (trex_for trexes id) no_trex = ap (λ (o : Option Trex). unwrap_or o no_trex) (sym (trex_found trexes tracks id trex h e)) in
    (ap (λ x. part_with moof before x traf) same, ap (λ x. end_with moof before x traf) same)

some_is : (x y : Trex) → ◌≡◌ {A = Option Trex} (Some x) (Some y) → x ≡ y
some_is x y e = cc

own_choice : (id : ℕ) (trex : Trex) (t : TrackState) (tracks : List TrackState) (own : Option Trex) (v : Bool) → t.trex ≡ own → (t.id == id) ≡ v
    → (trex_among tracks id ≡ Some trex → trex_for (own_trexes tracks) id ≡ Some (as_of id trex)) → trex_among (t ∷ tracks) id ≡ Some trex → trex_for (own_trexes (t ∷ tracks)) id ≡ Some (as_of id trex)
own_choice id trex t tracks None true o e more f = let none : t.trex ≡ Some trex = rw e at f in absurd cc
own_choice id trex t tracks (Some own) true o e more f =
    let is : t.trex ≡ Some trex = rw e at f in
    let same : own ≡ trex = some_is own trex (sym o ∙ is) in
    let here : t.id ≡ id = eqb-true t.id id e in
    rw (o, e) (λ i. Some (as_of (here i) (same i)))
own_choice id trex t tracks None false o e more f = rw o (more (let later : trex_among tracks id ≡ Some trex = rw e at f in later))
own_choice id trex t tracks (Some own) false o e more f = rw (o, e) (more (let later : trex_among tracks id ≡ Some trex = rw e at f in later))

own_found : (tracks : List TrackState) (id : ℕ) (trex : Trex) → trex_among tracks id ≡ Some trex → trex_for (own_trexes tracks) id ≡ Some (as_of id trex)
own_found [] id trex e = absurd cc
own_found (t ∷ tracks) id trex e = own_choice id trex t tracks t.trex (t.id == id) refl refl (own_found tracks id trex) e

-- and by the tracks' own
pub own_agree : (tracks : List TrackState) → Agree (own_trexes tracks) tracks
own_agree tracks id trex e moof before traf =
    let found : unwrap_or (trex_for (own_trexes tracks) id) no_trex ≡ as_of id trex = ap (λ (o : Option Trex). unwrap_or o no_trex) (own_found tracks id trex e) in
    let base = base_of moof before traf in
    let runs = runs_as id trex traf base base traf.runs in (
      (λ i. record { id = traf.id; decode_time = traf.decode_time; runs = runs i; groups = traf.groups }) ∙ ap (λ x. part_with moof before x traf) (sym found),
      ends_as id trex traf base base traf.runs ∙ ap (λ x. end_with moof before x traf) (sym found),
    )

-- ---- a sound `moof`
