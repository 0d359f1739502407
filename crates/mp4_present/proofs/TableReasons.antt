-- Where the tables of a track do not fit one another, nothing is denoted.
use Rattle.std.proofs.Common.{◌≡◌, ℕ, Bool, true, false, List, sym, ap, ◌∙◌}
use Rattle.std.specs.Prelude.{codes, length}
use Rattle.mp4_boxes.specs.format.Bytes.{field}
use Rattle.mp4_boxes.specs.format.Box.{Box}
use Rattle.mp4_boxes.specs.format.Children.{payload_of}
use Rattle.mp4_boxes.specs.format.Places.{ruled}
use Rattle.mp4_boxes.specs.declared.rule.Rule.TheVariants.{SampleTable}
use Rattle.mp4_boxes.specs.declared.fault.Fault.{Fault}
use Rattle.mp4_boxes.proofs.Tiling.{tiles_one}
use Rattle.mp4_boxes.proofs.Among.{all_in}
use Rattle.mp4_tables.specs.format.Tables.{tables_of}
use Rattle.mp4_tables.specs.format.TableRules.{test, Fit}
use Rattle.mp4_head.specs.format.Tree.{TrackTree, IsTrackTree}
use Rattle.mp4_head.proofs.Distinct.{payload_first}
use Rattle.mp4_present.specs.format.Presentation.{Presentation}
use Rattle.mp4_present.specs.format.Denotes.{Denotes, surroundings}
use Rattle.mp4_present.specs.format.Stands.{StandsBy, tables}
use Rattle.mp4_present.proofs.Chain.{reached, track_tree}
use Rattle.mp4_present.proofs.Leaves.{named_in}
use Rattle.mp4_head.proofs.HeadPlaces.{tiled}

true_false : (b c : Bool) → b ≡ c → b ≡ true → c ≡ false → ⊥
true_false b c s e f = cc

-- a track has as many descriptions as its `stsd` counts
pub descriptions_counted : (u : TrackTree) → IsTrackTree u → length u.descriptions ≡ field (payload_of (codes "stsd") u.table) 4 4
descriptions_counted u h = h.descriptions.full ∙ sym (ap (λ (payload : List ℕ). field payload 4 4) (payload_first (codes "stsd") u.table))

pub tables_refuse : (file : List ℕ) (f : Fault) (p : Presentation) → StandsBy tables file f → Denotes file p → ⊥
tables_refuse file f p s d =
    let r = reached file d.tree d.is_tree s.place s.reaches in
    let n = named_in d.tree s.place.scope (ruled SampleTable) r.0 s.table r.1.named in
    let same : s.fault.children ≡ n.0.table = sym (tiles_one s.place.container r.0 s.fault.children (tiled s.place.scope s.place.container r.0 r.1.held) s.fault.holds.tiles) ∙ n.2 in
    let tree = track_tree file d.tree d.is_tree n.0 n.1 in
    let count : s.descriptions ≡ length n.0.descriptions =
    sym s.counted ∙ ap (λ (bs : List Box). field (payload_of (codes "stsd") bs) 4 4) same ∙ sym (descriptions_counted n.0 tree) in
    let fit = all_in (λ (u : TrackTree). Fit (surroundings file u) (tables_of u.table)) d.tree.movie.tracks n.0 n.1 d.is_consistent.tables in
    let tests : test s.fault.rule (surroundings file n.0) (tables_of n.0.table) ≡ test s.fault.rule (record { file_length = length file; descriptions = s.descriptions }) (tables_of s.fault.children) =
    sym (λ i. test s.fault.rule (record { file_length = length file; descriptions = count i }) (tables_of (same i))) in
    true_false _ _ tests (fit s.fault.rule) s.fault.fails
