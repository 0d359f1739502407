-- The samples and the keys of each track, where the `moov` and each `moof` of the file are of bytes.
use Rattle.std.proofs.Common.{◌≡◌, ℕ, ◌≤◌, Bool, true, false, cond, eqb, List, [], ◌∷◌, ◌++◌, length, refl, sym, ap, ◌∙◌, lit≤}
use Rattle.std.specs.Prelude.{codes, map, flat_map, IsTrue}
use Rattle.std.specs.List.{AllByRecursion, list_any}
use Rattle.mp4_boxes.specs.format.Bytes.{AreBytes}
use Rattle.mp4_boxes.specs.format.Box.{Box}
use Rattle.mp4_boxes.specs.format.Children.{of_kind}
use Rattle.mp4_boxes.specs.format.Layout.{sbgp}
use Rattle.mp4_boxes.specs.format.Places.{ruled, AreSound}
use Rattle.mp4_boxes.specs.declared.rule.Rule.TheVariants as rules
use Rattle.mp4_boxes.proofs.Among.{IsIn, all_in, all_append}
use Rattle.mp4_boxes.proofs.Each.{each_value, each_weaker, each_from, each_joined, each_kept, each_member}
use Rattle.mp4_boxes.proofs.OfBytes.{payloads_of_bytes}
use Rattle.mp4_boxes.proofs.Sound.{sound_each}
use Rattle.mp4_tables.specs.words.Accepted.{AreDistinct}
use Rattle.mp4_tables.specs.format.Groups.{GroupKey, Grouping, same_key, keys_with, max_keys}
use Rattle.mp4_tables.specs.format.Tables.{tables_of}
use Rattle.mp4_tables.specs.format.PlainSamples.{PlacedSample}
use Rattle.mp4_tables.specs.format.TableRules.{Fit, table_group, is_index}
use Rattle.mp4_tables.proofs.GroupMaps.{keys_named, still_few}
use Rattle.mp4_tables.proofs.Placed.{IsKey, keys_valid, plain_placed}
use Rattle.mp4_frag.specs.format.Fragments.{FragmentTree, trex_of}
use Rattle.mp4_frag.specs.format.FragmentSamples.{Part, part_samples, AreGrouped}
use Rattle.mp4_frag.specs.format.FragmentRules.{has_indexes}
use Rattle.mp4_frag.proofs.Ranges.{IsTrex, IsPart, trex_valid, fragments_valid}
use Rattle.mp4_head.specs.format.Head.{TrackHead}
use Rattle.mp4_head.specs.format.Tree.{TrackTree, are_distinct, track_head_of, trexes_of}
use Rattle.mp4_head.proofs.Distinct.{map_twice}
use Rattle.mp4_head.proofs.TreeBytes.{TrackOfBytes, MovieOfBytes, movie_of_bytes}
use Rattle.mp4_present.specs.words.SamplesComing.{track_keys}
use Rattle.mp4_present.specs.format.Denotes.{FileTree, IsFileTree, IsSoundFile, IsConsistent, surroundings, track_infos, plain_of, plain_keys, file_parts, parts_of_track, placed_of}
use Rattle.mp4_present.specs.words.OpenedMovie.{AreOfBytes}
use Rattle.mp4_present.proofs.KeysExtended.{distinct_keys}
use Rattle.mp4_present.proofs.ValidSamples.{IsOfTrack, more_keys, named_with, parts_placed, parts_few, part_indexed}

-- what holds of keys and of more holds of those of both
next_each : (P : GroupKey → Type 0) (keys : List GroupKey) (key : GroupKey) (v : Bool) → AllByRecursion P keys → P key → AllByRecursion P (cond v keys (keys ++ key ∷ []))
next_each P keys key true h k = h
next_each P keys key false h k = all_append P keys (key ∷ []) h (k, tt)

with_each : (P : GroupKey → Type 0) (keys more : List GroupKey) → AllByRecursion P keys → AllByRecursion P more → AllByRecursion P (keys_with keys more)
with_each P keys [] h k = h
with_each P keys (key ∷ more) h k =
    let known = list_any (same_key key) keys in
    with_each P (cond known keys (keys ++ key ∷ [])) more (next_each P keys key known h k.0) k.1

-- the keys of some `sbgp`s
keys_each : (groupings : List Grouping) → AllByRecursion (λ (g : Grouping). IsKey g.key) groupings → AllByRecursion IsKey (keys_named groupings)
keys_each groupings h = each_value (λ (g : Grouping). IsKey g.key) IsKey (λ (g : Grouping). g.key) (λ g k. k) groupings h

-- The samples of a track in their ranges and in groups of its keys; these are well formed, at most four, and differ.
pub record IsTrackPlaced (t : FileTree) (u : TrackTree) : Type 0 where
  pub placed : AllByRecursion (IsOfTrack (length u.descriptions) (track_keys t u)) (placed_of (file_parts t) u)
  pub keys : AllByRecursion IsKey (track_keys t u)
  pub few : length (track_keys t u) ≤ max_keys
  pub distinct : AreDistinct (track_keys t u)

module _ (file : List ℕ) (t : FileTree) (h : IsFileTree file t) (sound : IsSoundFile t) (c : IsConsistent file t) (b : AreOfBytes t) where
  movie : MovieOfBytes t.movie
  movie = movie_of_bytes t.movie b.moov h.movie

  trexes : AllByRecursion IsTrex (trexes_of t.movie)
  trexes =
      each_value (λ (x : Box). AreBytes x.payload) IsTrex (λ (x : Box). trex_of x.payload) (λ x k. trex_valid x.payload k) (of_kind (codes "trex") t.movie.extends) (payloads_of_bytes (codes "trex") t.movie.extends movie.extends)

  parts : AllByRecursion IsPart (file_parts t)
  parts =
      let moofs = each_value (λ (f : FragmentTree). AreBytes f.moof.payload) (λ (x : Box). AreBytes x.payload) (λ (f : FragmentTree). f.moof) (λ f k. k) t.fragments b.moofs in
      fragments_valid (trexes_of t.movie) t.fragments trexes moofs h.fragments sound.fragments

  -- the parts of one track: those with its ID, which have its descriptions
  track_parts : (u : TrackTree) → IsIn t.movie.tracks u
      → AllByRecursion (λ (part : Part). IsPart part × AllByRecursion (λ (s : PlacedSample). IsTrue (is_index (length u.descriptions) s.description)) (part_samples part)) (parts_of_track (file_parts t) u)
  track_parts u i =
      let id = (track_head_of u).id in
      let is_indexed = λ (part : Part). IsTrue (has_indexes (track_infos t.movie) part) in
      let distinct : are_distinct (map (λ (v : TrackTree). (track_head_of v).id) t.movie.tracks) ≡ true = sym (ap are_distinct (map_twice track_head_of (λ (x : TrackHead). x.id) t.movie.tracks)) ∙ sound.movie.track_ids in
      let both = each_from IsPart is_indexed (λ (part : Part). IsPart part × is_indexed part) (λ part x y. (x, y)) (file_parts t) parts c.indexes in
      each_weaker (λ (part : Part). (IsPart part × is_indexed part) × (eqb part.id id ≡ true))
      (λ (part : Part). IsPart part × AllByRecursion (λ (s : PlacedSample). IsTrue (is_index (length u.descriptions) s.description)) (part_samples part))
      (λ part x. (x.0.0, part_indexed t.movie u part distinct i x.1 x.0.1)) (parts_of_track (file_parts t) u)
      (each_kept (λ (part : Part). IsPart part × is_indexed part) (λ (part : Part). eqb part.id id) (file_parts t) both)

  -- Each track is so.
  pub track_placed : (u : TrackTree) → IsIn t.movie.tracks u → IsTrackPlaced t u
  track_placed u i =
      let n = length u.descriptions in
      let own = parts_of_track (file_parts t) u in
      let groups = (tables_of u.table).groups in
      let later = flat_map (λ (q : Part). q.groups) own in
      let of_bytes = all_in TrackOfBytes t.movie.tracks u i movie.tracks in
      let tables = all_in (λ (v : TrackTree). AreSound (ruled rules.SampleTable) v.table) t.movie.tracks u i sound.tables in
      let fit = all_in (λ (v : TrackTree). Fit (surroundings file v) (tables_of v.table)) t.movie.tracks u i c.tables in
      let grouped = all_in (λ (v : TrackTree). AreGrouped (plain_keys v) (parts_of_track (file_parts t) v)) t.movie.tracks u i c.groups in
      let both = track_parts u i in
      let keys = track_keys t u in
      let is_indexed = λ (part : Part). AllByRecursion (λ (s : PlacedSample). IsTrue (is_index n s.description)) (part_samples part) in
      let each_part = each_weaker (λ (part : Part). IsPart part × is_indexed part) in
      let are_parts = each_part IsPart (λ part x. x.0) own both in
      let plain = each_weaker (IsOfTrack n (keys_named groups)) (IsOfTrack n keys) (more_keys n (keys_named groups) keys (named_with [] groups later)) (plain_of u) (plain_placed (surroundings file u) u.table of_bytes.table tables fit) in
      let sbgps = of_kind (codes "sbgp") u.table in
      let first_keys = keys_each groups (keys_valid sbgps (payloads_of_bytes (codes "sbgp") u.table of_bytes.table) (sound_each (ruled rules.SampleTable) (codes "sbgp") sbgp refl u.table tables)) in
      let later_keys = keys_each later (each_joined IsPart (λ (g : Grouping). IsKey g.key) (λ (q : Part). q.groups) (λ q x. x.keys) own are_parts) in
      let plain_few = still_few (length (tables_of u.table).sizes) [] groups (λ rule k. fit (table_group rule k)) (lit≤ tt) in
      record {
        placed = all_append (IsOfTrack n keys) (plain_of u) (flat_map part_samples own) plain (parts_placed n (plain_keys u) own grouped are_parts (each_part is_indexed (λ part x. x.1) own both));
        keys = with_each IsKey (plain_keys u) (keys_named later) (with_each IsKey [] (keys_named groups) tt first_keys) later_keys;
        few = parts_few (plain_keys u) own grouped plain_few;
        distinct = distinct_keys groups later;
      }

  -- so are all
  pub tracks_placed : AllByRecursion (IsTrackPlaced t) t.movie.tracks
  tracks_placed = each_member (IsTrackPlaced t) t.movie.tracks track_placed
