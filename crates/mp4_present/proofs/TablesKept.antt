-- One more track behind its tables: what was read of them is what its tree says.
use Rattle.std.proofs.Common.{◌≡◌, ℕ, ◌+◌, ◌-◌, ◌*◌, ◌^◌, ◌<◌, ◌≤◌, Bool, true, false, List, [], ◌∷◌, ◌++◌, length, take, drop, min, map, refl, sym, ap, subst, ◌∙◌, arith}
use Rattle.std.specs.Prelude.{bytes_eq, codes}
use Rattle.std.specs.List.{AllByRecursion, AllZip}
use Rattle.std.proofs.lemmas.List.{length-map, map-append}
use Rattle.mp4_boxes.specs.format.Bytes.{AreBytes, field, sum_of}
use Rattle.mp4_boxes.specs.format.Box.{Box, box_container}
use Rattle.mp4_boxes.specs.format.Children.{payload_of, payload_among, sample_sizes}
use Rattle.mp4_boxes.specs.format.Layout.{Leaf, stts, ctts, stsc, stsz, stz2, stco, co64, stss, sdtp, sbgp, sgpd, stsd, IsSound, IsReadable}
use Rattle.mp4_boxes.specs.format.Places.{at_kind, ruled, AreSound, IsSoundAs}
use Rattle.mp4_boxes.specs.words.View.{box_seen}
use Rattle.mp4_boxes.specs.declared.rule.Rule.TheVariants.{SampleTable}
use Rattle.mp4_boxes.proofs.Among.{IsIn, all_in}
use Rattle.mp4_boxes.proofs.Each.{each_member, each_weaker}
use Rattle.mp4_boxes.proofs.OfBytes.{field_below, tiled_of_bytes, payload_of_bytes}
use Rattle.mp4_boxes.proofs.Refusing.{holds_only}
use Rattle.mp4_tables.specs.words.Accepted.{tables_at}
use Rattle.mp4_tables.specs.format.Groups.{keys_after}
use Rattle.mp4_tables.specs.words.Keys.{keys_seen}
use Rattle.mp4_tables.specs.declared.keys.Keys.{Keys}
use Rattle.mp4_tables.specs.words.TablesSeen.{TablesSeen, tables_seen}
use Rattle.mp4_tables.specs.words.Leaves.{AllOf, AreAccepted, TablesRead, boxes_of, tables_in}
use Rattle.mp4_tables.proofs.Sums.{timed_lasts, timed_bytes, sum_joined}
use Rattle.mp4_tables.specs.format.PlainSamples.{PlacedSample, plain_samples}
use Rattle.mp4_tables.specs.format.TableRules.{Fit}
use Rattle.mp4_tables.specs.format.Tables.{Tables, tables_of, sample_count}
use Rattle.mp4_tables.specs.words.Timed.{timed, samples_of}
use Rattle.mp4_tables.specs.declared.places.TablesAt.{TablesAt}
use Rattle.mp4_tables.specs.declared.sample.SampleAt.{SampleAt}
use Rattle.mp4_tables.proofs.Counts.{samples_counted, plain_length}
use Rattle.mp4_tables.proofs.SampleLists.{timed_first}
use Rattle.mp4_tables.proofs.LeafLists.{boxes_are}
use Rattle.mp4_tables.proofs.Placed.{plain_placed}
use Rattle.mp4_frag.specs.format.FragmentSamples.{trex_for, duration_of, bytes_of}
use Rattle.mp4_frag.specs.words.Judged.{track_seen}
use Rattle.mp4_frag.specs.declared.state.TrackState.{TrackState}
use Rattle.mp4_frag.specs.declared.trex.Trex.{Trex}
use Rattle.mp4_head.specs.words.Found.{LiesIn}
use Rattle.mp4_head.specs.format.Head as heads
use Rattle.mp4_head.specs.format.Tree.{TrackTree, IsTrackTree, IsSoundTrack, stbl_of, track_head_of}
use Rattle.mp4_head.specs.declared.heads.TrackHead.{TrackHead}
use Rattle.mp4_head.proofs.Distinct.{payload_first}
use Rattle.mp4_present.specs.format.Denotes.{plain_of, plain_keys}
use Rattle.mp4_present.specs.words.OpenedMovie.{AreTablesOf, plain_seen}
use Rattle.mp4_present.specs.format.Presentation.{max_samples}
use Rattle.mp4_present.specs.format.Stands.{table_total}
use Rattle.mp4_present.specs.words.TrackTrees.{IsTrackOf, HaveTables, surroundings_in}
use Rattle.mp4_present.specs.declared.movie.TrackTables.{TrackTables}
use Rattle.mp4_present.specs.declared.opening.tables_pass.PlainTracks.{PlainTracks}
use Rattle.mp4_present.proofs.Counts.{sizes_few}
use Rattle.mp4_present.proofs.TableReasons.{descriptions_counted}
use Rattle.mp4_head.proofs.MovieBoxes.{zip_more}
use Rattle.mp4_present.proofs.PlainLists.{all_push as each_more}
use Rattle.mp4_head.proofs.HeadPlaces.{is_first}

-- ---- leaves

-- where the boxes of each type are sound, each box is sound as what it is read as
leaf_sound : (entries : List (List ℕ × Leaf)) (boxes : List Box) (b : Box) → AllByRecursion (λ (entry : List ℕ × Leaf). AllOf entry.0 (IsSound entry.1) boxes) entries → IsIn boxes b → IsSoundAs (at_kind entries b.kind) b.payload
leaf_sound [] boxes b a i = tt
leaf_sound (entry ∷ entries) boxes b a i = either (bytes_eq entry.0 b.kind) refl (leaf_sound entries boxes b a.1 i)
  where
    either : (v : Bool) → bytes_eq entry.0 b.kind ≡ v → IsSoundAs (at_kind entries b.kind) b.payload → IsSoundAs (at_kind (entry ∷ entries) b.kind) b.payload
    either true e more = rw e (all_in (λ (c : Box). bytes_eq entry.0 c.kind ≡ true → IsSound entry.1 c.payload) boxes b i a.0 e)
    either false e more = rw e more

-- an `sbgp` that can be read is sound
sound_groups : (boxes : List Box) → AllOf (codes "sbgp") (IsReadable sbgp) boxes → AllOf (codes "sbgp") (IsSound sbgp) boxes
sound_groups [] h = tt
sound_groups (b ∷ boxes) h = ((λ e. record { readable = h.0 e; value = refl; inside = refl; offsets = refl }), sound_groups boxes h.1)

-- the one `stsd`
sound_stsd : (t : TrackTree) → IsTrackTree t → IsSoundTrack t → AllOf (codes "stsd") (IsSound stsd) t.table
sound_stsd t i s =
    each_member (λ (b : Box). bytes_eq (codes "stsd") b.kind ≡ true → IsSound stsd b.payload) t.table
    (λ b j e. subst (λ (payload : List ℕ). IsSound stsd payload) (payload_first (codes "stsd") t.table ∙ ap (λ (c : Box). c.payload) (is_first (codes "stsd") t.table b j e (holds_only i.table (codes "stsd") refl))) s.stsd)

-- the leaves of tables that were accepted are sound
all_sound : (file_length n room : ℕ) (stbl : Box) (t : TrackTree) → IsTrackTree t → IsSoundTrack t → AreAccepted (record { file_len = file_length; descriptions = n; room = room }) stbl t.table → AreSound (ruled SampleTable) t.table
all_sound file_length n room stbl t i s a =
    each_member (λ (b : Box). IsSoundAs (at_kind entries b.kind) b.payload) t.table (λ b j. leaf_sound entries t.table b all j)
  where
    entries : List (List ℕ × Leaf)
    entries = (codes "stsd", stsd) ∷ (codes "stts", stts) ∷ (codes "ctts", ctts) ∷ (codes "stsc", stsc) ∷ (codes "stsz", stsz) ∷ (codes "stz2", stz2) ∷ (codes "stco", stco) ∷ (codes "co64", co64) ∷ (codes "stss", stss) ∷ (codes "sdtp", sdtp) ∷ (codes "sbgp", sbgp) ∷ (codes "sgpd", sgpd) ∷ []

    all : AllByRecursion (λ (entry : List ℕ × Leaf). AllOf entry.0 (IsSound entry.1) t.table) entries
    all = (sound_stsd t i s, (a.durations, (a.offsets, (a.chunk_rows, (a.sizes, (a.compact, (a.narrow, (a.wide, (a.sync, (a.dependencies, (sound_groups t.table a.groups, (a.described, tt))))))))))))

-- ---- samples

-- the sum of a number of each sample, all of them below 2^32
short_sum : (f : PlacedSample → ℕ) (samples : List PlacedSample) → AllByRecursion (λ (s : PlacedSample). f s < 2 ^ 32) samples → sum_of f samples ≤ 2 ^ 32 * length samples
short_sum f [] h = omega arith
short_sum f (s ∷ samples) h = let own = h.0 in omega (arith, own, short_sum f samples h.1)

-- ---- descriptions

-- a track has as many as its head, which 32 bits count
pub as_many : (t : TrackTree) (h : TrackHead) (n : ℕ) → IsTrackOf t h → AreBytes (stbl_of t).payload → n ≡ min (length h.media.descriptions.items) (2 ^ 32 - 1) → n ≡ length t.descriptions
as_many t h n i bytes e =
    let boxes = tiled_of_bytes (box_container (stbl_of t)) t.table bytes i.tree.table.tiles in
    let below : field (payload_of (codes "stsd") t.table) 4 4 < 2 ^ 32 = field_below (payload_of (codes "stsd") t.table) 4 4 (payload_of_bytes (codes "stsd") t.table boxes) in
    let count = descriptions_counted t i.tree in
    let items : length h.media.descriptions.items ≡ length t.descriptions =
    sym (length-map h.media.descriptions.items _) ∙ ap (λ (x : heads.TrackHead). length x.media.descriptions) i.says ∙ length-map t.descriptions _ in
    capped n (length h.media.descriptions.items) (length t.descriptions) _ e items count below
  where
    capped : (n m d f : ℕ) → n ≡ min m (2 ^ 32 - 1) → m ≡ d → d ≡ f → f < 2 ^ 32 → n ≡ d
    capped n m d f e i c b = omega arith

-- ---- one track

-- what was read of the tables of a track, and what their samples came to
pub record IsRead (file_length n room count lasts bytes : ℕ) (h : TrackHead) (v : TablesSeen) (keys : Keys) : Type 0 where
  pub of_bytes : AreBytes (box_seen h.stbl).payload
  pub descriptions : n ≡ min (length h.media.descriptions.items) (2 ^ 32 - 1)
  pub payload : v.payload ≡ (box_seen h.stbl).payload
  pub read : TablesRead (record { file_len = file_length; descriptions = n; room = room }) (box_seen h.stbl) v.at
  pub named : keys_seen keys ≡ keys_after [] (tables_in (box_seen h.stbl)).groups
  pub count_is : count ≡ length (tables_seen v).sizes
  pub duration : lasts ≡ min (sum_of (λ (s : SampleAt). s.duration) (samples_of (tables_seen v))) (2 ^ 64 - 1)
  pub size : bytes ≡ min (sum_of (λ (s : SampleAt). s.size) (samples_of (tables_seen v))) (2 ^ 64 - 1)

-- a number that no cap changes
uncapped : (a b c n : ℕ) → a ≡ min b (2 ^ 64 - 1) → b ≡ c → c ≤ 2 ^ 32 * n → n ≤ 2 ^ 24 → a ≡ c
uncapped a b c n e f h k = omega arith

module _ (file_length n room count lasts bytes : ℕ) (moov : Box) (h : TrackHead) (v : TablesSeen) (keys : Keys) (t : TrackTree)
    (i : IsTrackOf t h) (r : IsRead file_length n room count lasts bytes h v keys) where
  stbl_is : box_seen h.stbl ≡ stbl_of t
  stbl_is = i.found.stbl

  bytes_are : AreBytes (stbl_of t).payload
  bytes_are = subst (λ (b : Box). AreBytes b.payload) stbl_is r.of_bytes

  pub descriptions_are : n ≡ length t.descriptions
  descriptions_are = as_many t h n i bytes_are r.descriptions

  boxes_same : boxes_of (stbl_of t) ≡ t.table
  boxes_same = boxes_are (stbl_of t) t.table i.tree.table.tiles

  -- by the tree
  read_as : TablesRead (record { file_len = file_length; descriptions = n; room = room }) (stbl_of t) v.at
  read_as = subst (λ (b : Box). TablesRead (record { file_len = file_length; descriptions = n; room = room }) b v.at) stbl_is r.read

  accepted : AreAccepted (record { file_len = file_length; descriptions = length t.descriptions; room = room }) (stbl_of t) t.table
  accepted =
      subst (λ (m : ℕ). AreAccepted (record { file_len = file_length; descriptions = m; room = room }) (stbl_of t) t.table) descriptions_are
      (subst (λ (bs : List Box). AreAccepted (record { file_len = file_length; descriptions = n; room = room }) (stbl_of t) bs) boxes_same read_as.all)

  pub sound_is : AreSound (ruled SampleTable) t.table
  sound_is = all_sound file_length (length t.descriptions) room (stbl_of t) t i.tree i.sound accepted

  pub fit_is : Fit (surroundings_in file_length t) (tables_of t.table)
  fit_is = accepted.fit

  tables_same : tables_at (stbl_of t).payload v.at ≡ tables_of t.table
  tables_same = read_as.same ∙ ap tables_of boxes_same

  payload_is : v.payload ≡ (stbl_of t).payload
  payload_is = r.payload ∙ ap (λ (b : Box). b.payload) stbl_is

  seen_same : tables_seen v ≡ tables_of t.table
  seen_same = ap (λ (payload : List ℕ). tables_at payload v.at) payload_is ∙ tables_same

  keys_are : keys_seen keys ≡ plain_keys t
  keys_are = r.named ∙ ap (λ (b : Box). keys_after [] (tables_in b).groups) stbl_is ∙ ap (λ (bs : List Box). keys_after [] (tables_of bs).groups) boxes_same

  coming : samples_of (tables_seen v) ≡ timed (plain_keys t) 0 0 (plain_of t)
  coming = timed_first (tables_seen v) ∙ ap (λ (x : Tables). timed (keys_after [] x.groups) 0 0 (plain_samples x)) seen_same

  pub count_are : count ≡ length (plain_of t)
  count_are = r.count_is ∙ ap (λ (x : Tables). length x.sizes) seen_same ∙ sym (plain_length (surroundings_in file_length t) (tables_of t.table) fit_is)

  few : length (plain_of t) ≤ room
  few = let k = accepted.few in let e = plain_length (surroundings_in file_length t) (tables_of t.table) fit_is in omega (arith, k, e)

  short : AllByRecursion (λ (s : PlacedSample). s.duration < 2 ^ 32) (plain_of t)
  short =
      let boxes = tiled_of_bytes (box_container (stbl_of t)) t.table bytes_are i.tree.table.tiles in
      each_weaker _ (λ (s : PlacedSample). s.duration < 2 ^ 32) (λ s k. k.duration) (plain_of t) (plain_placed (surroundings_in file_length t) t.table boxes sound_is fit_is)

  small_sizes : AllByRecursion (λ (s : PlacedSample). s.size < 2 ^ 32) (plain_of t)
  small_sizes =
      let boxes = tiled_of_bytes (box_container (stbl_of t)) t.table bytes_are i.tree.table.tiles in
      each_weaker _ (λ (s : PlacedSample). s.size < 2 ^ 32) (λ s k. k.size) (plain_of t) (plain_placed (surroundings_in file_length t) t.table boxes sound_is fit_is)

  pub lasts_are : room ≤ 2 ^ 24 → lasts ≡ duration_of (plain_of t)
  lasts_are k =
      let same : sum_of (λ (s : SampleAt). s.duration) (samples_of (tables_seen v)) ≡ duration_of (plain_of t) = ap (λ (ss : List SampleAt). sum_of (λ (s : SampleAt). s.duration) ss) coming ∙ timed_lasts (plain_keys t) 0 0 (plain_of t) in
      uncapped lasts _ (duration_of (plain_of t)) (length (plain_of t)) r.duration same (short_sum (λ (s : PlacedSample). s.duration) (plain_of t) short) (omega (arith, few, k))

  pub bytes_come : room ≤ 2 ^ 24 → bytes ≡ bytes_of (plain_of t)
  bytes_come k =
      let same : sum_of (λ (s : SampleAt). s.size) (samples_of (tables_seen v)) ≡ bytes_of (plain_of t) = ap (λ (ss : List SampleAt). sum_of (λ (s : SampleAt). s.size) ss) coming ∙ timed_bytes (plain_keys t) 0 0 (plain_of t) in
      uncapped bytes _ (bytes_of (plain_of t)) (length (plain_of t)) r.size same (short_sum (λ (s : PlacedSample). s.size) (plain_of t) small_sizes) (omega (arith, few, k))

  -- 32 bits hold the size of each
  pub bytes_few : room ≤ 2 ^ 24 → bytes ≤ 2 ^ 32 * count
  bytes_few k =
      let all = bytes_come k in
      let short = short_sum (λ (s : PlacedSample). s.size) (plain_of t) small_sizes in
      omega (arith, all, short, count_are)

  pub tables_are : (x : TrackTables) → LiesIn moov (box_seen h.stbl) → x.place ≡ ((box_seen h.stbl).offset + (box_seen h.stbl).header) - (moov.offset + moov.header) → x.len ≡ length (box_seen h.stbl).payload → x.tables ≡ v.at → AreTablesOf moov.payload t x
  tables_are x lies place len at = record {
    bytes = (λ j. take (len j) (drop (place j) moov.payload)) ∙ sym lies.payload ∙ ap (λ (b : Box). b.payload) stbl_is;
    says = ap (λ (a : TablesAt). tables_at (stbl_of t).payload a) at ∙ tables_same;
  }

  pub state_is : (trexes : List Trex) (s : TrackState) → room ≤ 2 ^ 24 → s.id ≡ h.id → s.descriptions ≡ n → s.trex ≡ trex_for trexes h.id → s.start ≡ 0 → s.count ≡ count → s.time ≡ lasts → s.bytes ≡ bytes → s.keys ≡ keys → track_seen s ≡ plain_seen trexes t
  state_is trexes s k id descriptions trex start counted time sizes named =
      let same : h.id ≡ (track_head_of t).id = ap (λ (x : heads.TrackHead). x.id) i.says in
      let id_is : s.id ≡ (track_head_of t).id = id ∙ same in
      let descriptions_is : s.descriptions ≡ length t.descriptions = descriptions ∙ descriptions_are in
      let trex_is : s.trex ≡ trex_for trexes (track_head_of t).id = trex ∙ ap (trex_for trexes) same in
      let count_is : s.count ≡ length (plain_of t) = counted ∙ count_are in
      let time_is : s.time ≡ duration_of (plain_of t) = time ∙ lasts_are k in
      let bytes_is : s.bytes ≡ bytes_of (plain_of t) = sizes ∙ bytes_come k in
      let keys_is : keys_seen s.keys ≡ plain_keys t = ap keys_seen named ∙ keys_are in
      λ j. record { id = id_is j; descriptions = descriptions_is j; trex = trex_is j; start = start j; count = count_is j; time = time_is j; bytes = bytes_is j; keys = keys_is j }

  -- the room falls by the samples of the track
  left_is : (old new : ℕ) (before : ℕ) → old + before ≡ max_samples → new ≡ old - count → old ≡ room → new + (before + (sample_count (payload_among sample_sizes t.table) + 0)) ≡ max_samples
  left_is old new before e f g =
      let k = few in
      let c = count_are in
      let m = samples_counted (surroundings_in file_length t) t.table (sizes_few i.tree.table) fit_is in
      omega (arith, e, f, g, k, c, m)

  -- One more track is behind its tables.
  pub tables_more : (trexes : List Trex) (trees : List TrackTree) (old new : PlainTracks) (x : TrackTables) (s : TrackState)
      → HaveTables file_length moov.payload trexes trees old → room ≤ 2 ^ 24 → old.room ≡ room → new.room ≡ old.room - count
      → AreTablesOf moov.payload t x → track_seen s ≡ plain_seen trexes t
      → new.tables.items ≡ old.tables.items ++ x ∷ [] → new.states.items ≡ old.states.items ++ s ∷ []
      → HaveTables file_length moov.payload trexes (trees ++ t ∷ []) new
  tables_more trexes trees old new x s a k e f tables state xs ss =
      let total : table_total (trees ++ t ∷ []) ≡ table_total trees + (sample_count (payload_among sample_sizes t.table) + 0) = sum_joined (λ (u : TrackTree). sample_count (payload_among sample_sizes u.table)) trees (t ∷ []) in
      let left = left_is old.room new.room (table_total trees) a.room f e in
      record {
        sound = each_more (λ (u : TrackTree). AreSound (ruled SampleTable) u.table) trees t a.sound sound_is;
        fit = each_more (λ (u : TrackTree). Fit (surroundings_in file_length u) (tables_of u.table)) trees t a.fit fit_is;
        tables = subst (λ (ys : List TrackTables). AllZip (AreTablesOf moov.payload) (trees ++ t ∷ []) ys) (sym xs) (zip_more (AreTablesOf moov.payload) trees old.tables.items t x a.tables tables);
        states = ap (map track_seen) ss ∙ map-append track_seen old.states.items (s ∷ []) ∙ (λ j. a.states j ++ state j ∷ []) ∙ sym (map-append (plain_seen trexes) trees (t ∷ []));
        room = ap (λ (m : ℕ). new.room + m) total ∙ left;
      }
