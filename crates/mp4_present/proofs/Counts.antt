-- Where more samples are named than the limit allows, nothing is denoted.
use Rattle.std.proofs.Common.{◌≡◌, ℕ, ◌+◌, ◌<◌, ◌≤◌, Bool, true, false, cond, eqb, List, [], ◌∷◌, ◌++◌, length, refl, sym, ap, subst, ◌∙◌, arith, length-append, inl, inr, eq-eqb, append_assoc}
use Rattle.std.specs.Prelude.{◌⊎◌, map, flat_map, codes, bytes_eq, is_some, unwrap_or, ◌&&◌, IsTrue, ℤ, pos}
use Rattle.std.specs.List.{AllByRecursion}
use Rattle.std.proofs.lemmas.List.{length-map}
use borrow.Author.Tests.{true-eqb}
use Rattle.mp4_boxes.specs.format.Bytes.{sum_of}
use Rattle.mp4_boxes.specs.format.Box.{Box, Container, file_container}
use Rattle.mp4_boxes.specs.format.Children.{of_kind, payload_among, sample_sizes, count_among}
use Rattle.mp4_boxes.specs.format.Layout.{trun, row_count}
use Rattle.mp4_boxes.specs.declared.fault.Fault.{Fault}
use Rattle.mp4_boxes.proofs.Among.{in_of_kind}
use Rattle.mp4_boxes.proofs.Refusing.{stands_in, line_has}
use Rattle.mp4_boxes.specs.format.Children.{Holds, one}
use Rattle.mp4_boxes.specs.declared.rule.Rule.TheVariants.{SampleTable}
use Rattle.mp4_tables.specs.format.Tables.{tables_of, sample_count}
use Rattle.mp4_tables.specs.format.PlainSamples.{PlacedSample}
use Rattle.mp4_tables.specs.format.TableRules.{Fit}
use Rattle.mp4_tables.proofs.Counts.{samples_counted, groups_length}
use Rattle.mp4_tables.specs.format.Groups.{maps_of}
use Rattle.mp4_frag.specs.declared.trex.Trex.{Trex}
use Rattle.mp4_frag.specs.format.Fragments.{TrackFragment, FragmentTree, sample_run_of, fragment_of, track_fragment_of}
use Rattle.mp4_frag.specs.format.FragmentSamples.{Part, part_samples, run_samples, runs_samples, run_start, runs_end, end_of_data, base_of, trex_for, no_trex, parts_after, parts_of, all_parts, fragment_samples}
use Rattle.mp4_frag.specs.format.FragmentRules.{TrackFacts, track_for, is_known}
use Rattle.mp4_head.specs.format.Tree.{TrackTree, MovieTree, IsTrackTree, track_head_of, trexes_of}
use Rattle.mp4_head.proofs.Trees.{movie_tree_one}
use Rattle.mp4_present.specs.format.Presentation.{Presentation, Track, max_samples}
use Rattle.mp4_present.specs.format.Denotes.{Denotes, surroundings, plain_of, track_infos, track_of, sample_of, placed_of, file_parts}
use Rattle.mp4_present.specs.format.Stands.{StandsBy, count, TablePasses, RunPasses, parts_with, table_total, run_total, trafs_total}
use Rattle.mp4_present.proofs.Chain.{only_box}
use Rattle.mp4_present.proofs.Fronts.{begun, parts_begun}
use Rattle.mp4_present.proofs.Limits.{within}
use Rattle.mp4_frag.proofs.DurationsKept.{rows_count}
use Rattle.mp4_frag.proofs.SaidSamples.{rows_said}
use Rattle.mp4_tables.proofs.Sums.{sum_joined}

-- how many samples some parts have
abbrev pub parts_total : List Part → ℕ
parts_total parts = sum_of (λ (q : Part). length (part_samples q)) parts

-- ---- the samples of the runs

runs_length : (trex : Trex) (traf : TrackFragment) (base before : ℤ) (bs : List Box)
    → length (flat_map (λ (samples : List PlacedSample). samples) (runs_samples trex traf base before (map (λ (b : Box). sample_run_of b.payload) bs))) ≡ run_total bs
runs_length trex traf base before [] = refl
runs_length trex traf base before (b ∷ bs) =
    let run = sample_run_of b.payload in
    let at = run_start base before run.data_offset in
    let samples = run_samples trex traf run.first_sample_flags at run.rows in
    let more = runs_samples trex traf base (end_of_data at samples) (map (λ (c : Box). sample_run_of c.payload) bs) in
    let own : length samples ≡ row_count trun b.payload = rows_said trex traf run.first_sample_flags at run.rows ∙ rows_count (row_count trun b.payload) _ _ _ in
    length-append samples (flat_map (λ (samples : List PlacedSample). samples) more) ∙ (λ i. own i + runs_length trex traf base (end_of_data at samples) bs i)

-- the parts of some `traf`s have as many samples as their runs name
trafs_length : (trexes : List Trex) (moof : ℕ) (before : ℤ) (trafs : List (List Box)) → parts_total (parts_after trexes moof before (map track_fragment_of trafs)) ≡ trafs_total trafs
trafs_length trexes moof before [] = refl
trafs_length trexes moof before (inside ∷ trafs) =
    let traf = track_fragment_of inside in
    let trex = unwrap_or (trex_for trexes traf.id) no_trex in
    let base = base_of moof before traf in
    let plain = flat_map (λ (samples : List PlacedSample). samples) (runs_samples trex traf base base traf.runs) in
    let own = groups_length (maps_of (length plain) traf.groups) plain ∙ runs_length trex traf base base (of_kind (codes "trun") inside) in
    λ i. own i + trafs_length trexes moof (runs_end trex traf base base traf.runs) trafs i

pub fragments_length : (trexes : List Trex) (es : List FragmentTree) → parts_total (all_parts trexes (map fragment_of es)) ≡ sum_of (λ (e : FragmentTree). trafs_total e.trafs) es
fragments_length trexes [] = refl
fragments_length trexes (e ∷ es) =
    sum_joined (λ (q : Part). length (part_samples q)) (parts_of trexes (fragment_of e)) (all_parts trexes (map fragment_of es))
    ∙ (λ i. trafs_length trexes e.moof.offset (pos e.moof.offset) e.trafs i + fragments_length trexes es i)

-- ---- the samples of the tracks

-- the samples of the fragments of some tracks
abbrev pub fragments_total : List Part → List TrackTree → ℕ
fragments_total parts tracks = sum_of (λ (u : TrackTree). length (fragment_samples (track_head_of u).id parts)) tracks

track_length_is : (file : List ℕ) (parts : List Part) (u : TrackTree) → count_among sample_sizes u.table ≤ 1 → Fit (surroundings file u) (tables_of u.table)
    → length (track_of file parts u).samples ≡ sample_count (payload_among sample_sizes u.table) + length (fragment_samples (track_head_of u).id parts)
track_length_is file parts u few fit =
    length-map (placed_of parts u) (sample_of file) ∙ length-append (plain_of u) (fragment_samples (track_head_of u).id parts)
    ∙ ap (λ (n : ℕ). n + length (fragment_samples (track_head_of u).id parts)) (samples_counted (surroundings file u) u.table few fit)

pub sizes_few : {c : Container} {bs : List Box} → Holds SampleTable c bs → count_among sample_sizes bs ≤ 1
sizes_few h = omega (arith, line_has h (codes "stsz") (record { kinds = sample_sizes; quantity = one }) refl)

shuffle : (a b c d : ℕ) → (a + b) + (c + d) ≡ (a + c) + (b + d)
shuffle a b c d = omega arith

-- the samples of all tracks are those of their tables and those of their fragments
pub total_is : (file : List ℕ) (parts : List Part) (tracks : List TrackTree) → AllByRecursion IsTrackTree tracks → AllByRecursion (λ (u : TrackTree). Fit (surroundings file u) (tables_of u.table)) tracks
    → sum_of (λ (t : Track). length t.samples) (map (track_of file parts) tracks) ≡ table_total tracks + fragments_total parts tracks
total_is file parts [] g h = refl
total_is file parts (u ∷ tracks) g h =
    (λ i. track_length_is file parts u (sizes_few g.0.table) h.0 i + total_is file parts tracks g.1 h.1 i)
    ∙ shuffle (sample_count (payload_among sample_sizes u.table)) (length (fragment_samples (track_head_of u).id parts)) (table_total tracks) (fragments_total parts tracks)

-- ---- each part belongs to a track

pub with_part : (id : ℕ) (q : Part) (parts : List Part) (v : Bool) → eqb q.id id ≡ v → length (fragment_samples id (q ∷ parts)) ≡ cond v (length (part_samples q)) 0 + length (fragment_samples id parts)
with_part id q parts true e = rw e (length-append (part_samples q) (fragment_samples id parts))
with_part id q parts false e = rw e (sym (none (length (fragment_samples id parts))))
  where
    none : (n : ℕ) → 0 + n ≡ n
    none n = omega arith

not_less : (a b c : ℕ) (v : Bool) → c ≡ cond v a 0 + b → b ≤ c
not_less a b c true e = omega (arith, e)
not_less a b c false e = omega (arith, e)

-- one more part makes no track shorter
no_fewer : (q : Part) (parts : List Part) (tracks : List TrackTree) → fragments_total parts tracks ≤ fragments_total (q ∷ parts) tracks
no_fewer q parts [] = omega arith
no_fewer q parts (u ∷ tracks) =
    omega (
      arith,
      no_fewer q parts tracks,
      not_less (length (part_samples q)) (length (fragment_samples (track_head_of u).id parts)) (length (fragment_samples (track_head_of u).id (q ∷ parts))) (eqb q.id (track_head_of u).id) (with_part (track_head_of u).id q parts (eqb q.id (track_head_of u).id) refl),
    )

abbrev info : TrackTree → TrackFacts
info t = record { id = (track_head_of t).id; descriptions = length t.descriptions }

has_choice : (q : Part) (u : TrackTree) (tracks : List TrackTree) (v : Bool) → eqb (track_head_of u).id q.id ≡ v → is_some (track_for (map info (u ∷ tracks)) q.id) ≡ true
    → (v ≡ true) ⊎ (is_some (track_for (map info tracks) q.id) ≡ true)
has_choice q u tracks true e h = inl refl
has_choice q u tracks false e h = inr (rw e at h)

-- a part of a known track makes the tracks longer by its samples
part_counts : (q : Part) (parts : List Part) (tracks : List TrackTree) → is_some (track_for (map info tracks) q.id) ≡ true
    → length (part_samples q) + fragments_total parts tracks ≤ fragments_total (q ∷ parts) tracks
part_counts q parts [] h = absurd cc
part_counts q parts (u ∷ tracks) h = elim (has_choice q u tracks (eqb (track_head_of u).id q.id) refl h) [
  | inl e ↦
      let same : eqb q.id (track_head_of u).id ≡ true = eq-eqb q.id (track_head_of u).id (sym (true-eqb (track_head_of u).id q.id (sym e))) in
      omega (arith, with_part (track_head_of u).id q parts true same, no_fewer q parts tracks)
  | inr k ↦
      omega (
        arith,
        part_counts q parts tracks k,
        not_less (length (part_samples q)) (length (fragment_samples (track_head_of u).id parts)) (length (fragment_samples (track_head_of u).id (q ∷ parts))) (eqb q.id (track_head_of u).id) (with_part (track_head_of u).id q parts (eqb q.id (track_head_of u).id) refl),
      )
]

and_left : (p q : Bool) → p && q ≡ true → p ≡ true
and_left true q e = refl
and_left false q e = absurd cc

-- the samples of known parts are samples of tracks
pub all_belong : (movie : MovieTree) (parts : List Part) → AllByRecursion (λ (q : Part). IsTrue (is_known (track_infos movie) (trexes_of movie) q)) parts → parts_total parts ≤ fragments_total parts movie.tracks
all_belong movie [] h = omega arith
all_belong movie (q ∷ parts) h =
    omega (arith, all_belong movie parts h.1, part_counts q parts movie.tracks (and_left (is_some (track_for (track_infos movie) q.id)) (is_some (trex_for (trexes_of movie) q.id)) h.0))

-- ---- the two faults

-- the tables and the parts of a denoted file name no more samples than the limit
pub within_count : (file : List ℕ) (p : Presentation) (d : Denotes file p) → table_total d.tree.movie.tracks + parts_total (file_parts d.tree) ≤ max_samples
within_count file p d =
    let limit = (within file d.tree p d.is_tree d).samples in
    let total = total_is file (file_parts d.tree) d.tree.movie.tracks d.is_tree.movie.tracks d.is_consistent.tables in
    bound (table_total d.tree.movie.tracks) (parts_total (file_parts d.tree)) (fragments_total (file_parts d.tree) d.tree.movie.tracks) _ max_samples total (all_belong d.tree.movie (file_parts d.tree) d.is_consistent.known) limit
  where
    bound : (a b c e m : ℕ) → e ≡ a + c → b ≤ c → e ≤ m → a + b ≤ m
    bound a b c e m h k l = omega arith

some_pass : (before after all part parts m : ℕ) → m < before → all ≡ before + after → all + parts ≤ m → ⊥
some_pass before after all part parts m h e k = omega arith

table_refuses : (file : List ℕ) (f : Fault) (p : Presentation) → TablePasses file f → Denotes file p → ⊥
table_refuses file f p s d =
    let i = stands_in (file_container file) s.moov_before d.tree.top s.movie.moov s.stands d.is_tree.top.tiles in
    let j = in_of_kind (codes "moov") d.tree.top s.movie.moov i (ap (bytes_eq (codes "moov")) s.is_moov) in
    let same : d.tree.movie.moov ≡ s.movie.moov = only_box d.tree.movie.moov s.movie.moov j.before j.after (sym d.is_tree.moov ∙ j.is) in
    let movie = movie_tree_one s.movie d.tree.movie (sym same) s.movie_tree d.is_tree.movie in
    let one = λ (t : TrackTree). sample_count (payload_among sample_sizes t.table) in
    let all : table_total d.tree.movie.tracks ≡ table_total (s.before ++ s.t ∷ []) + table_total s.after =
    ap (λ (m : MovieTree). table_total m.tracks) (sym movie) ∙ ap table_total (s.tracks ∙ sym (append_assoc s.before (s.t ∷ []) s.after)) ∙ sum_joined one (s.before ++ s.t ∷ []) s.after in
    some_pass (table_total (s.before ++ s.t ∷ [])) (table_total s.after) (table_total d.tree.movie.tracks) 0 (parts_total (file_parts d.tree)) max_samples s.passes all (within_count file p d)

run_pass : (tables earlier front before after own rest all m total : ℕ) → total ≡ tables + earlier + front → m < total + before → own ≡ before + after
    → all ≡ (earlier + (front + (own + 0))) + rest → tables + all ≤ m → ⊥
run_pass tables earlier front before after own rest all m total e h k l n = omega arith

run_refuses : (file : List ℕ) (f : Fault) (p : Presentation) → RunPasses file f → Denotes file p → ⊥
run_refuses file f p s d =
    let b = s.behind in
    let g = begun file d.tree d.is_tree b in
    let r = parts_begun file d.tree b g in
    let trexes = trexes_of b.movie in
    let one = λ (q : Part). length (part_samples q) in
    let run = λ (c : Box). row_count trun c.payload in
    let here = parts_of trexes (record { at = b.moof.offset; trafs = map track_fragment_of (b.inside_before ++ b.inside ∷ []) }) in
    let own : run_total (of_kind (codes "trun") b.inside) ≡ run_total (s.before ++ s.run ∷ []) + run_total s.after =
    ap run_total (s.runs ∙ sym (append_assoc s.before (s.run ∷ []) s.after)) ∙ sum_joined run (s.before ++ s.run ∷ []) s.after in
    let inside : parts_total here ≡ trafs_total b.inside_before + (run_total (of_kind (codes "trun") b.inside) + 0) =
    trafs_length trexes b.moof.offset (pos b.moof.offset) (b.inside_before ++ b.inside ∷ []) ∙ sum_joined (λ (inside : List Box). run_total (of_kind (codes "trun") inside)) b.inside_before (b.inside ∷ []) in
    let with_it : parts_total (parts_with b) ≡ sum_of (λ (e : FragmentTree). trafs_total e.trafs) b.earlier + (trafs_total b.inside_before + (run_total (of_kind (codes "trun") b.inside) + 0)) =
    sum_joined one (all_parts trexes (map fragment_of b.earlier)) here ∙ (λ i. fragments_length trexes b.earlier i + inside i) in
    let all : parts_total (file_parts d.tree) ≡ (sum_of (λ (e : FragmentTree). trafs_total e.trafs) b.earlier + (trafs_total b.inside_before + (run_total (of_kind (codes "trun") b.inside) + 0))) + parts_total r.0 =
    ap parts_total r.1 ∙ sum_joined one (parts_with b) r.0 ∙ ap (λ (n : ℕ). n + parts_total r.0) with_it in
    let limit : table_total b.movie.tracks + parts_total (file_parts d.tree) ≤ max_samples =
    subst (λ (m : MovieTree). table_total m.tracks + parts_total (file_parts d.tree) ≤ max_samples) (sym g.movie) (within_count file p d) in
    run_pass (table_total b.movie.tracks) (sum_of (λ (e : FragmentTree). trafs_total e.trafs) b.earlier) (trafs_total b.inside_before) (run_total (s.before ++ s.run ∷ [])) (run_total s.after)
    (run_total (of_kind (codes "trun") b.inside)) (parts_total r.0) (parts_total (file_parts d.tree)) max_samples s.total s.total_is s.passes own all limit

pub count_refuses : (file : List ℕ) (f : Fault) (p : Presentation) → StandsBy count file f → Denotes file p → ⊥
count_refuses file f p s d = elim (s) [ inl x ↦ table_refuses file f p x d | inr x ↦ run_refuses file f p x d ]
