-- The tables of a `trak` that was written name no samples, and fit.
use Rattle.std.proofs.Common.{◌≡◌, ℕ, ◌+◌, List, [], ◌∷◌, length, None, refl, false, ◌∙◌}
use Rattle.std.specs.Prelude.{codes, bytes_eq, option_map, map, drop}
use Rattle.std.specs.List.{AllByRecursion}
use Rattle.mp4_boxes.specs.format.Children.{payload_if}
use Rattle.mp4_boxes.specs.format.Layout.{leaf_rows}
use Rattle.mp4_boxes.specs.format.Layout as Leaves
use Rattle.mp4_boxes.specs.format.Places.{ruled, AreSound}
use Rattle.mp4_boxes.specs.declared.rule.Rule.TheVariants as rules
use Rattle.mp4_boxes.proofs.WrittenBoxes.{placed, AreOther, payload_placed, found_none, of_kind-none, all_typed}
use Rattle.mp4_tables.specs.format.Groups.{groupings_of}
use Rattle.mp4_tables.specs.format.Tables.{Tables, tables_of, offsets_of, first_number}
use Rattle.mp4_tables.specs.format.TableRules.{Surroundings, Fit, dependency_room, duration_counts, offset_counts, chunk_counts, chunk_order, sync_order, description_indexes, places, table_group}
use Rattle.mp4_head.specs.format.Head.{Kept, TrackHead, IsTrackHead}
use Rattle.mp4_head.specs.format.Tree.{TrackTree, first_of}
use Rattle.mp4_head.proofs.WrittenContents.{table_contents, trak_payload}
use Rattle.mp4_head.proofs.WrittenTrack.{information_boxes, track_tree}
use Rattle.mp4_head.proofs.WrittenTrackHead.{table_sound}
use Rattle.mp4_head.proofs.WrittenMovie.{tracks_at}

-- tables without rows
abbrev pub no_tables : Tables
no_tables = record { sizes = []; durations = []; offsets = None; chunk_rows = []; chunk_offsets = []; sync = None; dependencies = None; groups = [] }

-- a type that no box of a written `stbl` has
not_there : (kind : List ℕ) (at : ℕ) (descriptions : List Kept) (groups : List (List ℕ)) → AreOther kind (table_contents descriptions groups) → payload_if kind (placed at (table_contents descriptions groups)) ≡ None
not_there kind at descriptions groups h = payload_placed kind at (table_contents descriptions groups) ∙ found_none kind (table_contents descriptions groups) h

-- the tables of an `stbl` at a place
tables_from : (at : ℕ) (descriptions : List Kept) (groups : List (List ℕ)) → tables_of (placed at (table_contents descriptions groups)) ≡ no_tables
tables_from at descriptions groups =
    let other = λ (kind : List ℕ) (e : bytes_eq kind (codes "sgpd") ≡ false). all_typed (λ k. bytes_eq kind k ≡ false) (codes "sgpd") groups e in
    let ctts = not_there (codes "ctts") at descriptions groups (refl, (refl, (refl, (refl, (refl, other (codes "ctts") refl))))) in
    let stss = not_there (codes "stss") at descriptions groups (refl, (refl, (refl, (refl, (refl, other (codes "stss") refl))))) in
    let sdtp = not_there (codes "sdtp") at descriptions groups (refl, (refl, (refl, (refl, (refl, other (codes "sdtp") refl))))) in
    let sbgp = of_kind-none (codes "sbgp") at (table_contents descriptions groups) (refl, (refl, (refl, (refl, (refl, other (codes "sbgp") refl))))) in
    λ i. record {
      sizes = [];
      durations = [];
      offsets = option_map offsets_of (ctts i);
      chunk_rows = [];
      chunk_offsets = [];
      sync = option_map (λ payload. map first_number (leaf_rows Leaves.stss payload)) (stss i);
      dependencies = option_map (λ payload. drop 4 payload) (sdtp i);
      groups = groupings_of (sbgp i);
    }

-- The tables of a written `trak` have no rows.
pub tables_none : (at : ℕ) (t : TrackHead) → tables_of (track_tree at t).table ≡ no_tables
tables_none at t = let stbl = first_of (codes "stbl") (information_boxes at t) in tables_from (stbl.offset + stbl.header) t.media.descriptions t.group_descriptions

-- Tables without rows fit, whatever else the file says.
pub none_fit : (s : Surroundings) → Fit s no_tables
none_fit s dependency_room = refl
none_fit s duration_counts = refl
none_fit s offset_counts = refl
none_fit s chunk_counts = refl
none_fit s chunk_order = refl
none_fit s sync_order = refl
none_fit s description_indexes = refl
none_fit s places = refl
none_fit s (table_group rule k) = refl

-- The tables of all tracks are sound.
pub tables_sound : (at : ℕ) (tracks : List TrackHead) → AllByRecursion IsTrackHead tracks → AllByRecursion (λ (t : TrackTree). AreSound (ruled rules.SampleTable) t.table) (tracks_at at tracks)
tables_sound at [] h = tt
tables_sound at (t ∷ tracks) h = (table_sound at t h.0, tables_sound (at + (8 + length (trak_payload t))) tracks h.1)
