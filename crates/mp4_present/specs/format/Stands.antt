-- Which faults stand in a file: what is so where a fault is named, by nine kinds of reason, without
-- an order. Which is the first is said by `Judge`: headers at top level; `moov`; the tables of each
-- track; each `moof`; the limits. Within a leaf: room for its first four bytes, version, flags,
-- room for the rest, the count of samples, then the other kinds in the order of `Kind`, but in
-- `stsc` order before counts.
use Rattle.std.specs.Prelude.{◌≡◌, ℕ, suc, ◌+◌, ◌<◌, ◌≤◌, ◌⊎◌, false, IsTrue, List, [], ◌∷◌, ◌++◌, length, take, map, Some, unwrap_or, slice_get, codes, Contains, flat_map}
use Rattle.std.specs.List.{AllByRecursion}
use Rattle.mp4_boxes.specs.format.Bytes.{sum_of, field}
use Rattle.mp4_boxes.specs.format.Box.{Box, file_container, box_container, StandsAfter}
use Rattle.mp4_boxes.specs.format.Children.{Holds, of_kind, payload_of, payload_among, sample_sizes}
use Rattle.mp4_boxes.specs.format.Layout.{trun, row_count, IsReadable}
use Rattle.mp4_boxes.specs.format.Places.{ruled, Place, whole, Reaches, AreSound}
use Rattle.mp4_boxes.specs.format.BoxFaults.{fault_of}
use Rattle.mp4_boxes.specs.declared.rule.Rule.TheVariants as rules
use Rattle.mp4_boxes.specs.declared.fault.Fault.{Fault}
use Rattle.mp4_boxes.specs.declared.fault.Kind.TheVariants.{UnknownTrack, BadDescriptionIndex, SampleOutsideFile, Gap, TooManySamples, TimeTooLarge, MovieTooLarge, FragmentBeforeMovie}
use Rattle.mp4_tables.specs.format.Tables.{sample_count, tables_of}
use Rattle.mp4_tables.specs.format.PlainSamples.{PlacedSample}
use Rattle.mp4_tables.specs.format.Groups.{GroupRule, group_counts, group_kind, group_reads}
use Rattle.mp4_tables.specs.format.TableRules.{Fit, IsTableFault, AreReadable, GroupsReadable}
use Rattle.mp4_frag.specs.format.Fragments.{FragmentTree, IsFragmentTree, AreTrafs, fragment_of, track_fragment_of}
use Rattle.mp4_frag.specs.format.FragmentSamples.{Part, parts_of, all_parts, parts_for, part_samples, start_of, duration_of, is_on_time, AreOnTime, has_groups, keys_behind, AreGrouped}
use Rattle.mp4_frag.specs.format.FragmentRules.{is_known, has_indexes, is_within}
pub use Rattle.mp4_head.specs.format.HeadFaults.{HeaderStands, ChildStands, MissingStands, IsTakenId, IsForeignReference, IsItemLocation, LeafStands}
use Rattle.mp4_head.specs.format.Tree.{TrackTree, MovieTree, IsMovieTree, IsSoundMovie, first_of, first_among, track_head_of, trexes_of}
use Rattle.mp4_present.specs.format.Presentation.{IsInTime, max_samples, max_moov, normal_moov_length}
use Rattle.mp4_present.specs.format.Denotes.{FileTree, IsFileTree, HasSoundTables, IsSoundFragment, IsSoundFile, IsConsistent, surroundings, track_infos, plain_of, plain_keys, track_of, file_parts, movie_timescale, presentation_of}

-- ---- the tables of a track

pub record TablesStand (file : List ℕ) (f : Fault) : Type 0 where
  pub place : Place
  pub reaches : Reaches (whole file) place
  pub table : place.scope ≡ ruled rules.SampleTable
  pub descriptions : ℕ
  pub fault : IsTableFault (record { file_length = length file; descriptions = descriptions })
      place.container f
  -- as many as `stsd` counts
  pub counted : field (payload_of (codes "stsd") fault.children) 4 4 ≡ descriptions

-- ---- fragments

-- what a fault in a `traf` comes behind: all of the `moov` and of the `moof`s before it is as it
-- should be
pub record Behind (file : List ℕ) : Type 0 where
  pub before : List Box
  pub moof : Box
  pub stands : StandsAfter (file_container file) before moof
  pub is_moof : moof.kind ≡ codes "moof"
  pub movie : MovieTree
  pub is_moov : of_kind (codes "moov") before ≡ movie.moov ∷ []
  pub movie_tree : IsMovieTree movie
  pub movie_sound : IsSoundMovie movie
  pub tables_sound : HasSoundTables movie
  pub tables_fit : AllByRecursion (λ (t : TrackTree). Fit (surroundings file t) (tables_of t.table))
      movie.tracks
  pub earlier : List FragmentTree
  pub earlier_moofs : map (λ (e : FragmentTree). e.moof) earlier ≡ of_kind (codes "moof") before
  pub earlier_trees : AllByRecursion IsFragmentTree earlier
  pub earlier_sound : AllByRecursion IsSoundFragment earlier
  pub children : List Box
  pub holds : Holds rules.MovieFragment (box_container moof) children
  pub trafs_before : List Box
  pub traf : Box
  pub trafs_after : List Box
  pub is_traf : of_kind (codes "traf") children ≡ trafs_before ++ traf ∷ trafs_after
  -- the boxes in the `traf`s before it, and in itself
  pub inside_before : List (List Box)
  pub inside : List Box
  pub trafs_held : AreTrafs trafs_before inside_before
  pub traf_held : Holds rules.TrackFragment (box_container traf) inside
  pub trafs_sound : AllByRecursion (AreSound (ruled rules.TrackFragment)) inside_before

-- the parts of the `moof`s and `traf`s before
abbrev pub earlier_parts : {file : List ℕ} → Behind file → List Part
earlier_parts b = all_parts (trexes_of b.movie) (map fragment_of b.earlier)
    ++ parts_of (trexes_of b.movie)
    (record { at = b.moof.offset; trafs = map track_fragment_of b.inside_before })

-- the parts with the `traf` itself, which is the last
abbrev pub parts_with : {file : List ℕ} → Behind file → List Part
parts_with b = all_parts (trexes_of b.movie) (map fragment_of b.earlier)
    ++ parts_of (trexes_of b.movie)
    (record {
      at = b.moof.offset;
      trafs = map track_fragment_of (b.inside_before ++ b.inside ∷ []);
    })

-- the parts before keep the rules, and so do the `sbgp`s in them
pub record AreConsistent (file : List ℕ) (movie : MovieTree) (parts : List Part) : Type 0 where
  pub known : AllByRecursion
      (λ (part : Part). IsTrue (is_known (track_infos movie) (trexes_of movie) part)) parts
  pub indexes : AllByRecursion (λ (part : Part). IsTrue (has_indexes (track_infos movie) part))
      parts
  pub places : AllByRecursion
      (λ (part : Part). AllByRecursion (λ run. IsTrue (is_within (length file) run)) part.runs)
      parts
  pub groups : AllByRecursion (λ (t : TrackTree).
      AreGrouped (plain_keys t) (parts_for (track_head_of t).id parts)) movie.tracks
  pub times : AllByRecursion (λ (t : TrackTree).
      AreOnTime (start_of (plain_of t) (parts_for (track_head_of t).id parts)
      + duration_of (plain_of t)) (parts_for (track_head_of t).id parts)) movie.tracks

-- what is wrong with the `traf`: it names no track that has a `trex`; a sample has no description;
-- a sample of its run k is not in the file; its k-th `sbgp` breaks a rule; its time is not the one
-- due
pub data FragmentRule : Type 0 where
  unknown_track : FragmentRule
  description_index : FragmentRule
  place : ℕ → FragmentRule
  fragment_group : GroupRule → ℕ → FragmentRule
  decode_time : FragmentRule

-- the leaves of the `traf` that a rule reads can be read: `tfhd`; and the runs, of which offsets
-- may be too large for a place; and `tfdt` for the time; and the `sbgp`s for a group, with the runs
-- where it counts samples
abbrev pub RunsReadable : List Box → Type 0
RunsReadable runs = AllByRecursion (λ (b : Box). IsReadable trun b.payload) runs

abbrev pub AreSoundOf : List ℕ → List Box → Type 0
AreSoundOf kind inside = AreSound (ruled rules.TrackFragment) (of_kind kind inside)

abbrev pub LeavesReadable : FragmentRule → List Box → Type 0
LeavesReadable unknown_track inside = AreSoundOf (codes "tfhd") inside
LeavesReadable description_index inside = AreSoundOf (codes "tfhd") inside
    × AreSoundOf (codes "trun") inside
LeavesReadable (place k) inside = AreSoundOf (codes "tfhd") inside
    × RunsReadable (take (suc k) (of_kind (codes "trun") inside))
LeavesReadable (fragment_group group_counts k) inside = AreSoundOf (codes "tfhd") inside
    × GroupsReadable (group_reads group_counts k (of_kind (codes "sbgp") inside))
    × AreSoundOf (codes "trun") inside
LeavesReadable (fragment_group rule k) inside = AreSoundOf (codes "tfhd") inside
    × GroupsReadable (group_reads rule k (of_kind (codes "sbgp") inside))
LeavesReadable decode_time inside = AreSoundOf (codes "tfhd") inside
    × AreSoundOf (codes "tfdt") inside × AreSoundOf (codes "trun") inside

-- the track of the `traf` and its `trex` are there, where a rule goes by them
abbrev pub KnownFor : FragmentRule → MovieTree → Part → Type 0
KnownFor unknown_track movie part = Unit {0}
KnownFor _ movie part = IsTrue (is_known (track_infos movie) (trexes_of movie) part)

-- the rule fails of the part behind these parts
abbrev pub PartFails : FragmentRule → List ℕ → MovieTree → List Part → Part → Type 0
PartFails unknown_track file movie before part = is_known (track_infos movie) (trexes_of movie) part
    ≡ false
PartFails description_index file movie before part = has_indexes (track_infos movie) part ≡ false
PartFails (place k) file movie before part = (run : List PlacedSample)
    × (slice_get part.runs k ≡ Some run) × (is_within (length file) run ≡ false)
PartFails (fragment_group rule k) file movie before part =
    (t : TrackTree) × Contains movie.tracks t × ((track_head_of t).id ≡ part.id)
    × (has_groups rule (keys_behind (plain_keys t) (parts_for part.id before)) part k ≡ false)
PartFails decode_time file movie before part =
    (t : TrackTree) × Contains movie.tracks t × ((track_head_of t).id ≡ part.id)
    × (is_on_time (start_of (plain_of t) (parts_for part.id (before ++ part ∷ []))
    + duration_of (plain_of t) + duration_of (flat_map part_samples (parts_for part.id before)))
    part ≡ false)

abbrev pub fragment_fault : FragmentRule → List Box → Fault
fragment_fault unknown_track inside = fault_of UnknownTrack (first_of (codes "tfhd") inside)
fragment_fault description_index inside = fault_of BadDescriptionIndex
    (first_of (codes "tfhd") inside)
fragment_fault (place k) inside = fault_of SampleOutsideFile
    (unwrap_or (slice_get (of_kind (codes "trun") inside) k) (first_of (codes "trun") inside))
fragment_fault (fragment_group rule k) inside = fault_of (group_kind rule)
    (unwrap_or (slice_get (of_kind (codes "sbgp") inside) k) (first_of (codes "sbgp") inside))
fragment_fault decode_time inside = fault_of Gap (first_of (codes "tfdt") inside)

pub record FragmentStands (file : List ℕ) (f : Fault) : Type 0 where
  pub behind : Behind file
  pub consistent : AreConsistent file behind.movie (earlier_parts behind)
  pub rule : FragmentRule
  pub readable : LeavesReadable rule behind.inside
  pub part : Part
  pub is_part : parts_with behind ≡ earlier_parts behind ++ part ∷ []
  pub known : KnownFor rule behind.movie part
  pub fails : PartFails rule file behind.movie (earlier_parts behind) part
  pub named : f ≡ fragment_fault rule behind.inside

-- ---- limits

-- how many samples the tables of some tracks name
abbrev pub table_total : List TrackTree → ℕ
table_total tracks = sum_of (λ (t : TrackTree). sample_count (payload_among sample_sizes t.table))
    tracks

-- how many the runs in some `traf`s name
abbrev pub run_total : List Box → ℕ
run_total runs = sum_of (λ (b : Box). row_count trun b.payload) runs

abbrev pub trafs_total : List (List Box) → ℕ
trafs_total trafs = sum_of (λ (inside : List Box). run_total (of_kind (codes "trun") inside)) trafs

-- with this `stsz` or `stz2` there are too many
pub record TablePasses (file : List ℕ) (f : Fault) : Type 0 where
  pub moov_before : List Box
  pub movie : MovieTree
  pub stands : StandsAfter (file_container file) moov_before movie.moov
  pub is_moov : movie.moov.kind ≡ codes "moov"
  pub movie_tree : IsMovieTree movie
  pub before : List TrackTree
  pub t : TrackTree
  pub after : List TrackTree
  pub tracks : movie.tracks ≡ before ++ t ∷ after
  pub readable : AllByRecursion (λ (t : TrackTree). AreReadable sample_sizes t.table) (before ++ t
      ∷ [])
  pub passes : max_samples < table_total (before ++ t ∷ [])
  pub not_before : table_total before ≤ max_samples
  pub named : f ≡ fault_of TooManySamples (first_among sample_sizes t.table)

-- with this `trun` there are too many
pub record RunPasses (file : List ℕ) (f : Fault) : Type 0 where
  pub behind : Behind file
  pub before : List Box
  pub run : Box
  pub after : List Box
  pub runs : of_kind (codes "trun") behind.inside ≡ before ++ run ∷ after
  pub readable : RunsReadable (before ++ run ∷ [])
  pub total : ℕ
  pub total_is : total ≡ table_total behind.movie.tracks
      + sum_of (λ (e : FragmentTree). trafs_total e.trafs) behind.earlier
      + trafs_total behind.inside_before
  pub passes : max_samples < total + run_total (before ++ run ∷ [])
  pub not_before : total + run_total before ≤ max_samples
  pub named : f ≡ fault_of TooManySamples run

-- A track is too long where all is as it should be but for limits: the first such track.
pub record TimePasses (file : List ℕ) (f : Fault) : Type 0 where
  pub tree : FileTree
  pub is_tree : IsFileTree file tree
  pub is_sound : IsSoundFile tree
  pub is_consistent : IsConsistent file tree
  pub before : List TrackTree
  pub t : TrackTree
  pub after : List TrackTree
  pub tracks : tree.movie.tracks ≡ before ++ t ∷ after
  pub in_time : AllByRecursion (λ (u : TrackTree).
      IsInTime (movie_timescale file tree) (track_of file (file_parts tree) u)) before
  pub passes : IsInTime (movie_timescale file tree) (track_of file (file_parts tree) t) → ⊥
  pub named : f ≡ fault_of TimeTooLarge (first_of (codes "tkhd") t.track)

-- The normal form's `moov` would be too long where all is as it should be but for limits.
pub record MoviePasses (file : List ℕ) (f : Fault) : Type 0 where
  pub tree : FileTree
  pub is_tree : IsFileTree file tree
  pub is_sound : IsSoundFile tree
  pub is_consistent : IsConsistent file tree
  pub passes : max_moov < normal_moov_length (presentation_of file tree)
  pub named : f ≡ fault_of MovieTooLarge tree.movie.moov

-- A `moof` stands at top level with no `moov` before it.
pub record FragmentFirst (file : List ℕ) (f : Fault) : Type 0 where
  pub before : List Box
  pub moof : Box
  pub stands : StandsAfter (file_container file) before moof
  pub is_moof : moof.kind ≡ codes "moof"
  pub no_moov : of_kind (codes "moov") before ≡ []
  pub named : f ≡ fault_of FragmentBeforeMovie moof

-- ---- all of it

-- the kinds of reason
pub data Reason : Type 0 where
  header : Reason
  child : Reason
  missing : Reason
  leaf : Reason
  tables : Reason
  fragment : Reason
  count : Reason
  limit : Reason
  order : Reason

-- The fault stands in the file for this reason.
abbrev pub StandsBy : Reason → List ℕ → Fault → Type 0
StandsBy header file f = HeaderStands (whole file) f
StandsBy child file f = ChildStands (whole file) f
StandsBy missing file f = MissingStands (whole file) f
StandsBy leaf file f = LeafStands (whole file) f
StandsBy tables file f = TablesStand file f
StandsBy fragment file f = FragmentStands file f
StandsBy count file f = TablePasses file f ⊎ RunPasses file f
StandsBy limit file f = TimePasses file f ⊎ MoviePasses file f
StandsBy order file f = FragmentFirst file f

-- The fault stands in the file.
abbrev pub Stands : List ℕ → Fault → Type 0
Stands file f = (reason : Reason) × StandsBy reason file f
