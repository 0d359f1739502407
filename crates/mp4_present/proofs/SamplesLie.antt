-- The samples of a file that is consistent lie in it.
use Rattle.std.proofs.Common.{◌≡◌, ℕ, ◌+◌, ◌≤◌, List, [], ◌∷◌, ◌++◌, true, length, drop, refl, ap, ◌∙◌, arith, length-take, length-drop, length-append}
use Rattle.std.specs.Prelude.{IsTrue, ℤ, pos, negsuc, map, flat_map, ◌==◌}
use Rattle.std.specs.List.{AllByRecursion}
use Rattle.std.proofs.lemmas.Bool.{leb-true}
use Rattle.mp4_boxes.specs.format.Bytes.{sum_of}
use Rattle.mp4_boxes.proofs.Among.{IsIn, all_in, all_append}
use Rattle.mp4_boxes.proofs.Each.{each_tested, each_weaker, each_joined, each_kept}
use Rattle.mp4_store.specs.words.Device.{range}
use Rattle.mp4_tables.specs.format.Groups.{GroupKey, Groups, maps_of}
use Rattle.mp4_tables.specs.format.PlainSamples.{PlacedSample, Spot, with_groups, joined, spots_of, plain_samples}
use Rattle.mp4_tables.specs.format.Repeated.{repeated}
use Rattle.mp4_tables.specs.format.TableRules.{Surroundings, Fit, lies_within, places}
use Rattle.mp4_tables.specs.format.Tables.{Tables, tables_of}
use Rattle.mp4_tables.specs.words.Timed.{timed, place_of}
use Rattle.mp4_tables.specs.declared.sample.SampleAt.{SampleAt}
use Rattle.mp4_frag.specs.format.FragmentRules.{is_within}
use Rattle.mp4_frag.specs.format.FragmentSamples.{Part, part_samples, parts_for, fragment_samples}
use Rattle.mp4_head.specs.format.Tree.{TrackTree, track_head_of}
use Rattle.mp4_present.specs.format.Denotes.{FileTree, surroundings, bytes_at, sample_of, plain_of, file_parts, placed_of}
use Rattle.mp4_present.specs.words.OpenedMovie.{CanHandOut}
use Rattle.mp4_present.specs.words.Joined.{sample_bytes}
use Rattle.mp4_present.specs.format.Presentation.{Sample}

-- the sample lies in a file of this length
abbrev pub IsInFile : ℕ → PlacedSample → Type 0
IsInFile n s = IsTrue (lies_within n s.at s.size)

-- ---- the samples of tables

joined_lie : (n : ℕ) (durations : List ℕ) (offsets : List ℤ) (flags : List ℕ) (spots : List Spot) → AllByRecursion (λ (spot : Spot). IsTrue (lies_within n spot.at spot.size)) spots → AllByRecursion (IsInFile n) (joined durations offsets flags spots)
joined_lie n [] offsets flags spots h = tt
joined_lie n (x ∷ durations) [] flags spots h = tt
joined_lie n (x ∷ durations) (y ∷ offsets) [] spots h = tt
joined_lie n (x ∷ durations) (y ∷ offsets) (z ∷ flags) [] h = tt
joined_lie n (x ∷ durations) (y ∷ offsets) (z ∷ flags) (spot ∷ spots) h = (h.0, joined_lie n durations offsets flags spots h.1)

grouped_lie : (n : ℕ) (maps : List Groups) (samples : List PlacedSample) → AllByRecursion (IsInFile n) samples → AllByRecursion (IsInFile n) (with_groups maps samples)
grouped_lie n [] [] h = tt
grouped_lie n (g ∷ maps) [] h = tt
grouped_lie n [] (s ∷ samples) h = h
grouped_lie n (g ∷ maps) (s ∷ samples) h = (h.0, grouped_lie n maps samples h.1)

plain_lie : (s : Surroundings) (t : Tables) → Fit s t → AllByRecursion (IsInFile s.file_length) (plain_samples t)
plain_lie s t fit =
    let n = length t.sizes in
    grouped_lie s.file_length (maps_of n t.groups) _
    (joined_lie s.file_length (repeated t.durations) _ _ (spots_of t) (each_tested (λ (spot : Spot). lies_within s.file_length spot.at spot.size) (spots_of t) (fit places)))

-- ---- the samples of fragments

part_lies : (n : ℕ) (part : Part) → AllByRecursion (λ (run : List PlacedSample). IsTrue (is_within n run)) part.runs → AllByRecursion (IsInFile n) (part_samples part)
part_lies n part h =
    let samples = flat_map (λ (run : List PlacedSample). run) part.runs in
    grouped_lie n (maps_of (length samples) part.groups) samples
    (each_joined (λ (run : List PlacedSample). IsTrue (is_within n run)) (IsInFile n) (λ (run : List PlacedSample). run) (λ run w. each_tested (λ (s : PlacedSample). lies_within n s.at s.size) run w) part.runs h)

fragments_lie : (n id : ℕ) (parts : List Part) → AllByRecursion (λ (part : Part). AllByRecursion (λ (run : List PlacedSample). IsTrue (is_within n run)) part.runs) parts → AllByRecursion (IsInFile n) (fragment_samples id parts)
fragments_lie n id parts h =
    let Q = λ (part : Part). AllByRecursion (λ (run : List PlacedSample). IsTrue (is_within n run)) part.runs in
    each_joined Q (IsInFile n) part_samples (λ part x. part_lies n part x) (parts_for id parts)
    (each_weaker (λ (part : Part). Q part × ((part.id == id) ≡ true)) Q (λ part x. x.0) (parts_for id parts) (each_kept Q (λ (part : Part). part.id == id) parts h))

-- all samples of a track
pub placed_lie : (file : List ℕ) (tree : FileTree) (t : TrackTree) → CanHandOut file tree → IsIn tree.movie.tracks t → AllByRecursion (IsInFile (length file)) (placed_of (file_parts tree) t)
placed_lie file tree t c i =
    let fit = all_in (λ (v : TrackTree). Fit (surroundings file v) (tables_of v.table)) tree.movie.tracks t i c.tables in
    all_append (IsInFile (length file)) (plain_of t) (fragment_samples (track_head_of t).id (file_parts tree)) (plain_lie (surroundings file t) (tables_of t.table) fit) (fragments_lie (length file) (track_head_of t).id (file_parts tree) c.places)

-- ---- their bytes

-- they are all there
pub bytes_whole : (file : List ℕ) (at : ℤ) (size : ℕ) → IsTrue (lies_within (length file) at size) → length (bytes_at file at size) ≡ size
bytes_whole file (pos at) size h = let le = leb-true (at + size) (length file) h in let l = length-take size (drop at file) in let d = length-drop at file in omega arith
bytes_whole file (negsuc below) size h = absurd cc

pub all_whole : (file : List ℕ) (placed : List PlacedSample) → AllByRecursion (IsInFile (length file)) placed → AllByRecursion (λ (s : PlacedSample). length (bytes_at file s.at s.size) ≡ s.size) placed
all_whole file placed h = each_weaker (IsInFile (length file)) (λ (s : PlacedSample). length (bytes_at file s.at s.size) ≡ s.size) (λ s w. bytes_whole file s.at s.size w) placed h

-- those from the place of the sample on
pub there : (file : List ℕ) (at : ℤ) (size : ℕ) → IsTrue (lies_within (length file) at size) → range file (place_of at) size ≡ bytes_at file at size
there file (pos at) size h = refl
there file (negsuc below) size h = absurd cc

-- the samples that are handed out have the bytes of the presentation's
pub timed_data : (file : List ℕ) (keys : List GroupKey) (number dts : ℕ) (placed : List PlacedSample) → AllByRecursion (IsInFile (length file)) placed
    → sample_bytes file (timed keys number dts placed) ≡ flat_map (λ (s : Sample). s.bytes) (map (sample_of file) placed)
timed_data file keys number dts [] h = refl
timed_data file keys number dts (s ∷ placed) h =
    ap (λ (bs : List ℕ). bs ++ sample_bytes file (timed keys (number + 1) (dts + s.duration) placed)) (there file s.at s.size h.0) ∙ ap (λ (bs : List ℕ). bytes_at file s.at s.size ++ bs) (timed_data file keys (number + 1) (dts + s.duration) placed h.1)

-- as many as their sizes say
pub data_length : (file : List ℕ) (placed : List PlacedSample) → AllByRecursion (IsInFile (length file)) placed → length (flat_map (λ (s : Sample). s.bytes) (map (sample_of file) placed)) ≡ sum_of (λ (s : PlacedSample). s.size) placed
data_length file [] h = refl
data_length file (s ∷ placed) h =
    let own = bytes_whole file s.at s.size h.0 in
    let more = data_length file placed h.1 in
    let both = length-append (bytes_at file s.at s.size) (flat_map (λ (x : Sample). x.bytes) (map (sample_of file) placed)) in
    omega arith

-- and what is handed out lies in the file
place_within : (n : ℕ) (at : ℤ) (size : ℕ) → IsTrue (lies_within n at size) → place_of at + size ≤ n
place_within n (pos at) size h = leb-true (at + size) n h
place_within n (negsuc below) size h = absurd cc

pub timed_lie : (n : ℕ) (keys : List GroupKey) (number dts : ℕ) (placed : List PlacedSample) → AllByRecursion (IsInFile n) placed → AllByRecursion (λ (s : SampleAt). s.at + s.size ≤ n) (timed keys number dts placed)
timed_lie n keys number dts [] h = tt
timed_lie n keys number dts (s ∷ placed) h = (place_within n s.at s.size h.0, timed_lie n keys (number + 1) (dts + s.duration) placed h.1)
