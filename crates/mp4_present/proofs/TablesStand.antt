-- A fault in the tables of a track stands in the file.
use Rattle.std.proofs.Common.{◌≡◌, ℕ, ◌+◌, ◌<◌, ◌≤◌, inl, inr, Bool, true, false, List, [], ◌∷◌, ◌++◌, length, Some, refl, sym, ap, subst, ◌∙◌, arith}
use Rattle.std.specs.Prelude.{codes, bytes_eq, IsTrue, option_map}
use Rattle.std.specs.List.{AllByRecursion}
use Rattle.mp4_boxes.specs.format.Bytes.{field}
use Rattle.mp4_boxes.specs.format.Box.{Box, file_container, box_container, StandsAfter, Tiles}
use Rattle.mp4_boxes.specs.format.BoxFaults.{fault_of}
use Rattle.mp4_boxes.specs.format.Children.{payload_of, payload_among, sample_sizes, is_among, count_among}
use Rattle.mp4_boxes.specs.format.Places.{Scope, ruled, at_kind, containers, as_container, Place, whole, Reaches, AreSound, IsSoundAs, inside, leaf_of}
use Rattle.mp4_boxes.specs.declared.fault.Fault.{Fault}
use Rattle.mp4_boxes.specs.declared.fault.Kind.TheVariants.{TooManySamples}
use Rattle.mp4_boxes.specs.declared.rule.Rule.{Rule}
use Rattle.mp4_boxes.specs.declared.rule.Rule.TheVariants.{File, Movie, Track, Media, MediaInformation, SampleTable}
use Rattle.mp4_boxes.proofs.Among.{IsIn, all_in, all_append, all_mapped, count-append}
use Rattle.mp4_boxes.proofs.Each.{each_member, each_of_kind, each_weaker}
use Rattle.mp4_boxes.proofs.Refusing.{holds_only}
use Rattle.mp4_boxes.proofs.Sound.{same_kind}
use Rattle.mp4_boxes.proofs.Tiling.{tiles_one}
use Rattle.mp4_tables.specs.words.Leaves.{boxes_of, IsLeafFaultAmong, IsTooMany}
use Rattle.mp4_tables.specs.format.TableRules.{AreReadable, IsReadableAs, IsTableFault}
use Rattle.mp4_tables.specs.format.Tables.{sample_count}
use Rattle.mp4_tables.proofs.LeafLists.{boxes_are}
use Rattle.mp4_head.specs.words.Refuses.{place_of}
use Rattle.mp4_head.specs.format.Tree.{TrackTree, MovieTree, IsTrackTree, IsMovieTree, first_of, first_among, stbl_of}
use Rattle.mp4_head.proofs.Above.{stands_of}
use Rattle.mp4_head.proofs.Inside.{first_is}
use Rattle.mp4_present.specs.format.Presentation.{max_samples}
use Rattle.mp4_present.specs.format.Stands.{Stands, leaf, tables, count, table_total}
use Rattle.mp4_present.specs.words.TrackTrees.{TablesFail, TableFails}
use Rattle.mp4_present.proofs.Counts.{sizes_few}
use Rattle.mp4_present.proofs.TableReasons.{descriptions_counted}
use Rattle.mp4_tables.proofs.FirstJudged.{sound_as}
use Rattle.mp4_tables.proofs.Sums.{sum_joined}

-- ---- where the tables are

-- a box of a container, and what is in it
reach : (rule : Rule) (b : Box) (bs : List Box) (c : Box) (next place : Place) → Tiles (box_container b) bs → IsIn bs c → inside (place_of (ruled rule) b) c ≡ Some next → Reaches next place → Reaches (place_of (ruled rule) b) place
reach rule b bs c next place t i e r = (c ∷ r.0, (i.before, stands_of b bs i.before i.after c t i.is, next, e, r.1))

-- a box as the place of the boxes in it
held : (rule inner : Rule) (from b : Box) → at_kind (containers (ruled rule)) b.kind ≡ Some (ruled inner) → inside (place_of (ruled rule) from) b ≡ Some (place_of (ruled inner) b)
held rule inner from b e = ap (option_map (λ (scope : Scope). record { scope = scope; container = as_container scope b })) e

-- the tables of a track are in its `trak`
in_trak : (t : TrackTree) → IsTrackTree t → Reaches (place_of (ruled Track) t.trak) (place_of (ruled SampleTable) (stbl_of t))
in_trak t h =
    let mdia = first_of (codes "mdia") t.track in
    let minf = first_of (codes "minf") t.media in
    let a = first_is (codes "mdia") t.track (holds_only h.track (codes "mdia") refl) in
    let b = first_is (codes "minf") t.media (holds_only h.media (codes "minf") refl) in
    let c = first_is (codes "stbl") t.information (holds_only h.information (codes "stbl") refl) in
    let mdia_held : at_kind (containers (ruled Track)) mdia.kind ≡ Some (ruled Media) = ap (at_kind (containers (ruled Track))) (same_kind (codes "mdia") mdia.kind a.1) in
    let minf_held : at_kind (containers (ruled Media)) minf.kind ≡ Some (ruled MediaInformation) = ap (at_kind (containers (ruled Media))) (same_kind (codes "minf") minf.kind b.1) in
    let stbl_held : at_kind (containers (ruled MediaInformation)) (stbl_of t).kind ≡ Some (ruled SampleTable) = ap (at_kind (containers (ruled MediaInformation))) (same_kind (codes "stbl") (stbl_of t).kind c.1) in
    let there = place_of (ruled SampleTable) (stbl_of t) in
    let last : Reaches there there = ([], refl) in
    reach Track t.trak t.track mdia (place_of (ruled Media) mdia) there h.track.tiles a.0 (held Track Media t.trak mdia mdia_held)
    (reach Media mdia t.media minf (place_of (ruled MediaInformation) minf) there h.media.tiles b.0 (held Media MediaInformation mdia minf minf_held)
    (reach MediaInformation minf t.information (stbl_of t) there there h.information.tiles c.0 (held MediaInformation SampleTable minf (stbl_of t) stbl_held) last))

-- the `trak` of a track is in the `moov`
in_moov : (m : MovieTree) (t : TrackTree) → IsMovieTree m → IsIn m.tracks t → IsTrackTree t → Reaches (place_of (ruled Movie) m.moov) (place_of (ruled SampleTable) (stbl_of t))
in_moov m t h i k =
    let all = each_of_kind (IsIn m.movie) (codes "trak") m.movie (each_member (IsIn m.movie) m.movie (λ b j. j)) in
    let P : Box → Type 0 = λ b. IsIn m.movie b × (bytes_eq (codes "trak") b.kind ≡ true) in
    let own : P t.trak = all_mapped (λ (u : TrackTree). u.trak) P m.tracks t i (subst (λ (bs : List Box). AllByRecursion P bs) (sym h.traks) all) in
    let trak_held : at_kind (containers (ruled Movie)) t.trak.kind ≡ Some (ruled Track) = ap (at_kind (containers (ruled Movie))) (same_kind (codes "trak") t.trak.kind own.1) in
    reach Movie m.moov m.movie t.trak (place_of (ruled Track) t.trak) (place_of (ruled SampleTable) (stbl_of t)) h.movie.tiles own.0 (held Movie Track m.moov t.trak trak_held) (in_trak t k)

-- and the `moov` in the file
pub in_file : (file : List ℕ) (before : List Box) (m : MovieTree) (t : TrackTree) → StandsAfter (file_container file) before m.moov → m.moov.kind ≡ codes "moov" → IsMovieTree m → IsIn m.tracks t → IsTrackTree t
    → Reaches (whole file) (place_of (ruled SampleTable) (stbl_of t))
in_file file before m t s kind h i k =
    let r = in_moov m t h i k in
    let moov_held : at_kind (containers (ruled File)) m.moov.kind ≡ Some (ruled Movie) = ap (at_kind (containers (ruled File))) kind in
    (m.moov ∷ r.0, (before, s, place_of (ruled Movie) m.moov, ap (option_map (λ (scope : Scope). record { scope = scope; container = as_container scope m.moov })) moov_held, r.1))

-- ---- too many samples

-- where at most one box of some types stands, it is the first of them
first_only : (kinds : List (List ℕ)) (before after : List Box) (b : Box) → is_among kinds b.kind ≡ true → count_among kinds (before ++ b ∷ after) ≤ 1
    → (first_among kinds (before ++ b ∷ after) ≡ b) × (payload_among kinds (before ++ b ∷ after) ≡ b.payload)
first_only kinds [] after b e n = (rw e refl, rw e refl)
first_only kinds (c ∷ before) after b e n = either (is_among kinds c.kind) refl (first_only kinds before after b e)
  where
    hit : is_among kinds b.kind ≡ true → count_among kinds (b ∷ after) ≡ 1 + count_among kinds after
    hit e = rw e refl

    both : is_among kinds c.kind ≡ true → count_among kinds (c ∷ before ++ b ∷ after) ≡ 1 + count_among kinds (before ++ b ∷ after)
    both f = rw f refl

    less : is_among kinds c.kind ≡ false → count_among kinds (c ∷ before ++ b ∷ after) ≡ 0 + count_among kinds (before ++ b ∷ after)
    less f = rw f refl

    either : (v : Bool) → is_among kinds c.kind ≡ v
        → (count_among kinds (before ++ b ∷ after) ≤ 1 → (first_among kinds (before ++ b ∷ after) ≡ b) × (payload_among kinds (before ++ b ∷ after) ≡ b.payload))
        → (first_among kinds (c ∷ before ++ b ∷ after) ≡ b) × (payload_among kinds (c ∷ before ++ b ∷ after) ≡ b.payload)
    either true f more = absurd (omega (arith, n, both f, count-append kinds before (b ∷ after), hit e))
    either false f more = let r = more (omega (arith, n, less f)) in (rw f r.0, rw f r.1)

sound_readable : (t : TrackTree) → AreSound (ruled SampleTable) t.table → AreReadable sample_sizes t.table
sound_readable t h =
    each_weaker (λ (b : Box). IsSoundAs (leaf_of (ruled SampleTable) b.kind) b.payload) (λ (b : Box). IsTrue (is_among sample_sizes b.kind) → IsReadableAs (leaf_of (ruled SampleTable) b.kind) b.payload)
    (λ b s e. sound_as (leaf_of (ruled SampleTable) b.kind) b.payload s) t.table h

over : (room before own most : ℕ) → room + before ≡ most → room < own → most < before + (own + 0)
over room before own most e h = omega arith

no_more : (room before most : ℕ) → room + before ≡ most → before ≤ most
no_more room before most e = omega arith

-- ---- the fault

module _ (file : List ℕ) (moov_before : List Box) (m : MovieTree) (s : StandsAfter (file_container file) moov_before m.moov) (kind : m.moov.kind ≡ codes "moov") (h : IsMovieTree m)
    (before after : List TrackTree) (t : TrackTree) (are : m.tracks ≡ before ++ t ∷ after) (k : IsTrackTree t) (sound : AllByRecursion (λ (u : TrackTree). AreSound (ruled SampleTable) u.table) before)
    (room : ℕ) (left : room + table_total before ≡ max_samples) (f : Fault) where
  reaches : Reaches (whole file) (place_of (ruled SampleTable) (stbl_of t))
  reaches = in_file file moov_before m t s kind h (record { before = before; after = after; is = are }) k

  same : boxes_of (stbl_of t) ≡ t.table
  same = boxes_are (stbl_of t) t.table k.table.tiles

  leaf_stands : IsLeafFaultAmong (boxes_of (stbl_of t)) f → Stands file f
  leaf_stands q = (
    leaf,
    inl (record {
      place = place_of (ruled SampleTable) (stbl_of t);
      before = q.before;
      b = q.b;
      stands = record { reaches = reaches; after = stands_of (stbl_of t) t.table q.before q.after q.b k.table.tiles (sym same ∙ q.stands) };
      leaf = q.leaf;
      read = q.read;
      kind = q.fails.kind;
      fails = q.fails.fails;
      named = q.fails.named;
    }),
  )

  rule_stands : IsTableFault (record { file_length = length file; descriptions = length t.descriptions }) (box_container (stbl_of t)) f → Stands file f
  rule_stands q =
      let children : q.children ≡ t.table = tiles_one (box_container (stbl_of t)) q.children t.table q.holds.tiles k.table.tiles in (
        tables,
        record {
          place = place_of (ruled SampleTable) (stbl_of t);
          reaches = reaches;
          table = refl;
          descriptions = length t.descriptions;
          fault = q;
          counted = ap (λ (bs : List Box). field (payload_of (codes "stsd") bs) 4 4) children ∙ sym (descriptions_counted t k);
        },
      )

  many_stand : IsTooMany room (boxes_of (stbl_of t)) f → Stands file f
  many_stand q =
      let split : t.table ≡ q.before ++ q.b ∷ q.after = sym same ∙ q.stands in
      let first = first_only sample_sizes q.before q.after q.b q.sizes (subst (λ (bs : List Box). count_among sample_sizes bs ≤ 1) split (sizes_few k.table)) in
      let total : table_total (before ++ t ∷ []) ≡ table_total before + (sample_count (payload_among sample_sizes t.table) + 0) = sum_joined (λ (u : TrackTree). sample_count (payload_among sample_sizes u.table)) before (t ∷ []) in
      let own : payload_among sample_sizes t.table ≡ q.b.payload = ap (payload_among sample_sizes) split ∙ first.1 in
      let many : room < sample_count (payload_among sample_sizes t.table) = subst (λ (payload : List ℕ). room < sample_count payload) (sym own) q.many in (
        count,
        inl (record {
          moov_before = moov_before;
          movie = m;
          stands = s;
          is_moov = kind;
          movie_tree = h;
          before = before;
          t = t;
          after = after;
          tracks = are;
          readable = all_append (λ (u : TrackTree). AreReadable sample_sizes u.table) before (t ∷ [])
              (each_weaker (λ (u : TrackTree). AreSound (ruled SampleTable) u.table) (λ (u : TrackTree). AreReadable sample_sizes u.table) sound_readable before sound)
              (subst (λ (bs : List Box). AreReadable sample_sizes bs) same q.readable, tt);
          passes = subst (λ (n : ℕ). max_samples < n) (sym total) (over room (table_total before) (sample_count (payload_among sample_sizes t.table)) max_samples left many);
          not_before = no_more room (table_total before) max_samples left;
          named = q.named ∙ ap (fault_of TooManySamples) (sym first.0 ∙ sym (ap (first_among sample_sizes) split));
        }),
      )

  table_stands : TableFails (length file) room t f → Stands file f
  table_stands q = elim (q) [ inl x ↦ leaf_stands x | inr y ↦ elim (y) [ inl x ↦ rule_stands x | inr x ↦ many_stand x ] ]

-- the fault that was found in the tables of one of the tracks
pub tables_stand : (file : List ℕ) (moov_before : List Box) (m : MovieTree) (f : Fault) → StandsAfter (file_container file) moov_before m.moov → m.moov.kind ≡ codes "moov" → IsMovieTree m → TablesFail (length file) m.tracks f → Stands file f
tables_stand file moov_before m f s kind h q =
    let k = all_in IsTrackTree m.tracks q.t (record { before = q.before; after = q.after; is = q.are }) h.tracks in
    table_stands file moov_before m s kind h q.before q.after q.t q.are k q.sound q.room q.left f q.fails
