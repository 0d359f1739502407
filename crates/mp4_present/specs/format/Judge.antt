-- What a file is: the presentation that it denotes, or its first fault.
use Rattle.std.specs.Prelude.{ℕ, suc, ◌+◌, ◌-◌, nat_le, ◌&&◌, Bool, true, List, [], ◌∷◌, ◌++◌, length, map, flat_map, Option, Some, None, Result, Ok, codes, slice_get, unwrap_or, find, ◌==◌}
use Rattle.mp4_boxes.specs.format.Bytes.{sum_of}
use Rattle.mp4_boxes.specs.format.Box.{Box, file_container, box_container}
use Rattle.mp4_boxes.specs.format.Children.{of_kind, payload_among, sample_sizes}
use Rattle.mp4_boxes.specs.format.Layout.{tfhd, tfdt, trun, sbgp, row_count}
use Rattle.mp4_boxes.specs.format.FirstFault.{Test, first_failed, unless_failed, and_then, naming, leaf_tests, leaf_tests_with, children_or_fault, top_or_fault}
use Rattle.mp4_boxes.specs.format.BoxFaults.{fault_of}
use Rattle.mp4_boxes.specs.declared.rule.Rule.TheVariants as rules
use Rattle.mp4_boxes.specs.declared.fault.Fault.{Fault}
use Rattle.mp4_boxes.specs.declared.fault.Kind.TheVariants.{UnknownTrack, BadDescriptionIndex, SampleOutsideFile, Gap, TooManySamples, TimeTooLarge, MovieTooLarge}
use Rattle.mp4_tables.specs.format.PlainSamples.{PlacedSample}
use Rattle.mp4_tables.specs.format.Groups.{GroupKey}
use Rattle.mp4_tables.specs.format.Tables.{sample_count}
use Rattle.mp4_tables.specs.format.FirstFault.{first_box_tests, group_tests, table_tests}
use Rattle.mp4_frag.specs.format.Fragments.{FragmentTree, track_fragment_of}
use Rattle.mp4_frag.specs.format.FragmentSamples.{Part, parts_of, parts_for, part_samples, start_of, duration_of, is_on_time, keys_behind}
use Rattle.mp4_frag.specs.format.FragmentRules.{is_known, has_indexes, is_within}
use Rattle.mp4_head.specs.format.Tree.{TrackTree, MovieTree, first_of, track_head_of, trexes_of}
use Rattle.mp4_head.specs.format.FirstFault.{head_or_fault}
use Rattle.mp4_present.specs.format.Presentation.{Track, Presentation, end_time, track_length, max_samples, max_time, max_moov, normal_moov_length}
use Rattle.mp4_present.specs.format.Denotes.{FileTree, surroundings, track_infos, plain_of, plain_keys, presentation_of}

-- ---- the tables, track by track

abbrev pub count_of : TrackTree → ℕ
count_of t = sample_count (payload_among sample_sizes t.table)

abbrev pub tables_tests : List ℕ → ℕ → List TrackTree → List (Test Fault)
tables_tests file room [] = []
tables_tests file room (t ∷ tracks) = table_tests room (surroundings file t) t.table
    ++ tables_tests file (room - count_of t) tracks

-- ---- a `traf`

-- what comes before a `traf`: the parts of all `traf`s before it, and how many samples there is
-- room for
pub record Passed : Type 0 where
  pub parts : List Part
  pub room : ℕ

abbrev pub track_at : MovieTree → ℕ → Option TrackTree
track_at movie id = find (λ (t : TrackTree). (track_head_of t).id == id) movie.tracks

-- its time is the one that is due, and the keys that its track named before it
abbrev pub is_due_time : List Part → Part → Option TrackTree → Bool
is_due_time before part None = true
is_due_time before part (Some t) = is_on_time
    (start_of (plain_of t) (parts_for part.id (before ++ part ∷ []))
    + duration_of (plain_of t) + duration_of (flat_map part_samples (parts_for part.id before)))
    part

abbrev pub named_keys : List Part → Part → Option TrackTree → List GroupKey
named_keys before part None = []
named_keys before part (Some t) = keys_behind (plain_keys t) (parts_for part.id before)

-- each run: its shape, how many samples there are with it, where they lie, its values
abbrev pub run_tests : ℕ → ℕ → List (List PlacedSample) → List Box → List (Test Fault)
run_tests file_length room placed [] = []
run_tests file_length room [] (b ∷ runs) = []
run_tests file_length room (samples ∷ placed) (b ∷ runs) =
    let n = row_count trun b.payload in
    naming b (leaf_tests_with trun ((nat_le n room, TooManySamples)
    ∷ (is_within file_length samples, SampleOutsideFile) ∷ []) b.payload)
    ++ run_tests file_length (room - n) placed runs

abbrev pub group_boxes_tests : ℕ → List GroupKey → Part → ℕ → List Box → List (Test Fault)
group_boxes_tests n keys part k [] = []
group_boxes_tests n keys part k (b ∷ groups) =
    naming b (leaf_tests_with sbgp (group_tests n keys part.groups k) b.payload)
    ++ group_boxes_tests n keys part (suc k) groups

abbrev pub traf_tests : ℕ → MovieTree → Passed → Part → List Box → List (Test Fault)
traf_tests file_length movie passed part inside =
    let head = first_of (codes "tfhd") inside in
    let track = track_at movie part.id in
    let times = first_box_tests (codes "tfdt" ∷ []) inside in
    naming head (leaf_tests tfhd head.payload
    ++ (is_known (track_infos movie) (trexes_of movie) part, UnknownTrack) ∷ [])
    ++ times (λ b. naming b (leaf_tests tfdt b.payload))
    ++ run_tests file_length passed.room part.runs (of_kind (codes "trun") inside)
    ++ naming head ((has_indexes (track_infos movie) part, BadDescriptionIndex) ∷ [])
    ++ group_boxes_tests (length (part_samples part)) (named_keys passed.parts part track) part 0
    (of_kind (codes "sbgp") inside)
    ++ times (λ b. naming b ((is_due_time passed.parts part track, Gap) ∷ []))

-- ---- the `moof`s

-- the part of the last of these `traf`s of a `moof` at this place
abbrev pub no_part : Part
no_part = record { id = 0; decode_time = None; runs = []; groups = [] }

abbrev pub last_part : MovieTree → ℕ → List (List Box) → Part
last_part movie at trafs = unwrap_or (slice_get (parts_of (trexes_of movie)
    (record { at = at; trafs = map track_fragment_of trafs })) (length trafs - 1)) no_part

-- the boxes in each `traf` behind these, with what comes after them
abbrev pub trafs_or_fault : ℕ → MovieTree → ℕ → Passed → List (List Box) → List Box
    → Result (List (List Box) × Passed) Fault
trafs_or_fault file_length movie at passed before [] = Ok (before, passed)
trafs_or_fault file_length movie at passed before (traf ∷ trafs) =
    and_then (children_or_fault rules.TrackFragment (box_container traf)) (λ inside.
    let part = last_part movie at (before ++ inside ∷ []) in
    unless_failed (first_failed (traf_tests file_length movie passed part inside)) (λ u.
    trafs_or_fault file_length movie at (record {
      parts = passed.parts ++ part ∷ [];
      room = passed.room - length (part_samples part);
    }) (before ++ inside ∷ []) trafs))

abbrev pub moofs_or_fault : ℕ → MovieTree → Passed → List Box → Result (List FragmentTree) Fault
moofs_or_fault file_length movie passed [] = Ok []
moofs_or_fault file_length movie passed (moof ∷ moofs) =
    and_then (children_or_fault rules.MovieFragment (box_container moof)) (λ children.
    and_then (trafs_or_fault file_length movie moof.offset passed []
    (of_kind (codes "traf") children)) (λ r.
    and_then (moofs_or_fault file_length movie r.1 moofs) (λ more.
    Ok (record { moof = moof; children = children; trafs = r.0 } ∷ more))))

-- ---- limits

-- the times of each track
abbrev pub times_tests : ℕ → List TrackTree → List Track → List (Test Fault)
times_tests timescale [] ts = []
times_tests timescale (u ∷ us) [] = []
times_tests timescale (u ∷ us) (t ∷ ts) = (
  nat_le (end_time t) max_time && nat_le (track_length timescale t) max_time,
  fault_of TimeTooLarge (first_of (codes "tkhd") u.track),
) ∷ times_tests timescale us ts

abbrev pub limit_tests : FileTree → Presentation → List (Test Fault)
limit_tests tree p = times_tests p.movie.timescale tree.movie.tracks p.tracks
    ++ (nat_le (normal_moov_length p) max_moov, fault_of MovieTooLarge tree.movie.moov) ∷ []

-- ---- all of it

abbrev pub tree_or_fault : List ℕ → Result FileTree Fault
tree_or_fault file =
    and_then (top_or_fault (file_container file)) (λ top.
    and_then (head_or_fault (first_of (codes "moov") top)) (λ movie.
    unless_failed (first_failed (tables_tests file max_samples movie.tracks)) (λ u.
    and_then (moofs_or_fault (length file) movie (record {
      parts = [];
      room = max_samples - sum_of count_of movie.tracks;
    }) (of_kind (codes "moof") top)) (λ fragments.
    Ok (record { top = top; movie = movie; fragments = fragments })))))

-- The presentation that the file denotes, or its first fault.
abbrev pub judge : List ℕ → Result Presentation Fault
judge file = and_then (tree_or_fault file) (λ tree.
    let p = presentation_of file tree in
    unless_failed (first_failed (limit_tests tree p)) (λ u. Ok p))
