-- The lines of samples as they are handed out are those of the presentation's samples.
use Rattle.std.proofs.Common.{◌≡◌, ℕ, ◌+◌, ◌<◌, Bool, true, false, List, [], ◌∷◌, ◌++◌, length, Some, refl, sym, ap, ◌∙◌, arith, append_assoc, decimal}
use Rattle.std.specs.Prelude.{map, flat_map, slice_get, if◌then◌else◌}
use Rattle.std.specs.Fmt.{signed_decimal}
use Rattle.std.specs.List.{AllByRecursion}
use Rattle.std.proofs.lemmas.Bool.{ne_eqb}
use Rattle.sha2.specs.Sha256.{sha256}
use Rattle.mp4_boxes.proofs.Each.{each_weaker}
use Rattle.mp4_boxes.proofs.Plain.{get_zip, plus_one}
use Rattle.mp4_store.specs.words.Device.{range}
use Rattle.mp4_tables.specs.format.Groups.{GroupKey, Groups, key_rank, index_at}
use Rattle.mp4_tables.specs.format.PlainSamples.{PlacedSample}
use Rattle.mp4_tables.specs.words.Keys.{keys_seen, key_place}
use Rattle.mp4_tables.specs.words.Timed.{indexes, place_of, sample_at, timed}
use Rattle.mp4_tables.specs.declared.keys.Keys.{Keys}
use Rattle.mp4_tables.specs.declared.sample.SampleAt.{SampleAt}
use Rattle.mp4_tables.proofs.GroupMaps.{order_test}
use Rattle.mp4_tables.proofs.NamedKeys.{IsAmong, among_through, same_itself}
use Rattle.mp4_tables.proofs.Placed as placed
use Rattle.mp4_head.specs.format.Tree.{TrackTree}
use Rattle.mp4_present.specs.format.Denotes.{FileTree, bytes_at, sample_of, file_parts, placed_of, track_of}
use Rattle.mp4_present.specs.format.Presentation.{IsGroup}
use Rattle.mp4_content.specs.format.Reduced.{reduce_sample}
use Rattle.mp4_content.specs.format.Remaining.{divided_samples}
use Rattle.mp4_content.specs.format.Timescales.{divided, sample_by}
use Rattle.mp4_content.specs.words.ComingLess.{cto_left, flags_left, lasts_left, reduction_of}
use Rattle.mp4_content.specs.words.Differing.{index_in}
use Rattle.mp4_present.specs.words.Movies.{MovieSeen}
use Rattle.mp4_present.specs.words.OpenedMovie.{IsOpenedAs, IsInfoOf}
use Rattle.mp4_present.specs.words.SamplesComing.{track_keys, track_samples}
use Rattle.mp4_content.specs.declared.reduced.Reduction.{Reduction}
use Rattle.mp4_content.specs.declared.without.Without.{Without}
use Rattle.mp4_present.specs.declared.track_info.TrackInfo.{TrackInfo}
use Rattle.mp4_present.proofs.SamplesLie.{bytes_whole, there}
use Rattle.mp4_content.proofs.ReducedTaken.{remaining_from}
use Rattle.mp4_content.proofs.SamplesReduced.{reduced_by}
use Rattle.mp4_present.proofs.ValidSamples.{is_group, is_parameter}
use Rattle.mp4_plan.specs.format.Normal.{in_key_order}
use Rattle.mp4_plan.specs.format.TableLaws.{IsKey}
use Rattle.mp4_plan.proofs.KeyOrder.{order_rises, order_each, order_has, covers}
use Rattle.mp4_plan.proofs.Maps.{KeysAbove, Covers, not_there}
use Rattle.mp4_plan.proofs.Maps as maps
use Rattle.mp4_answers.specs.format.Text.{group_text, sample_text}
use Rattle.mp4_answers.specs.format.Texts.{hex_digits, hex_text, space, line_feed}
use Rattle.mp4_answers.specs.words.ToldSamples.{IsStyle, index_text, told_indexes, told_sample}
use Rattle.mp4_answers.specs.declared.text.sample_texts.SampleStyle.{SampleStyle}
use Rattle.mp4_content.proofs.SamplesDiffer.{AreKeysOf, IsSampleOf, index_there, opened_samples}

-- ---- the indexes of a sample at the keys of its track, in their order

index_first : (key : GroupKey) (index : ℕ) (groups : Groups) → index_at key ((key, index) ∷ groups) ≡ index
index_first key index groups = rw (same_itself key) refl

-- the text at a key of a map
abbrev text_at : Groups → GroupKey → List ℕ
text_at groups key = index_text key (index_at key groups)

not_first : (key first : GroupKey) (index : ℕ) (groups : Groups) → key_rank first < key_rank key → index_at key ((first, index) ∷ groups) ≡ index_at key groups
not_first key first index groups lt = rw (ne_eqb (key_rank key) (key_rank first) (λ e. omega (arith, lt, e))) refl

texts_past : (first : GroupKey) (index : ℕ) (groups : Groups) (keys : List GroupKey) → KeysAbove first keys → flat_map (text_at ((first, index) ∷ groups)) keys ≡ flat_map (text_at groups) keys
texts_past first index groups [] above = refl
texts_past first index groups (key ∷ keys) above =
    let one = not_first key first index groups above.0 in
    let more = texts_past first index groups keys above.1 in
    λ i. index_text key (one i) ++ more i

some_text : (key : GroupKey) (index : ℕ) → 0 < index → index_text key index ≡ group_text (key, index)
some_text key index some = rw (ne_eqb index 0 (λ e. omega (arith, some, e))) refl

-- at keys that cover a map, one by one, its indexes stand in their order
covered_text : {keys : List GroupKey} {groups : Groups} → Covers keys groups → flat_map (text_at groups) keys ≡ flat_map group_text groups
covered_text maps.none = refl
covered_text (maps.without {key} {keys} {groups} above others) = ap (λ n. index_text key n ++ flat_map (text_at groups) keys) (not_there key groups above) ∙ covered_text others
covered_text (maps.with_index {key} {index} {keys} {groups} some keys_above above others) =
    let own = ap (index_text key) (index_first key index groups) ∙ some_text key index some in
    let more = texts_past key index groups keys keys_above ∙ covered_text others in
    λ i. own i ++ more i

seen_at : (keys : Keys) (own order : List GroupKey) (groups : Groups) (s : SampleAt) → keys_seen keys ≡ own → s.groups ≡ indexes own groups → AreKeysOf own groups → told_indexes keys s order ≡ flat_map (text_at groups) order
seen_at keys own [] groups s e g h = refl
seen_at keys own (key ∷ order) groups s e g h =
    let index = (λ i. index_in (key_place key (e i)) (g i)) ∙ index_there own groups key h.few h.map.named in
    let more = seen_at keys own order groups s e g h in
    λ i. index_text key (index i) ++ more i

module _ (own : List GroupKey) (groups : Groups) (h : AreKeysOf own groups) where
  is_key : (key : GroupKey) → placed.IsKey key → IsKey key
  is_key key k = record { kind_length = k.kind_length; kind = k.kind; parameter = is_parameter key.parameter k.parameter }

  own_covers : Covers (in_key_order own) groups
  own_covers =
      covers (in_key_order own) groups (order_rises own) (order_each IsKey own (each_weaker placed.IsKey IsKey is_key own h.are)) (order_test groups h.map.order) (each_weaker placed.IsIndex IsGroup is_group groups h.map.each)
      (each_weaker (λ (group : GroupKey × ℕ). IsAmong own group.0) (λ (group : GroupKey × ℕ). IsAmong (in_key_order own) group.0) (λ group a. among_through own (in_key_order own) group.0 (order_has own) a) groups h.map.named)

-- none where groups are left out
groups_told : (v : Bool) (keys : Keys) (own order : List GroupKey) (groups : Groups) (s : SampleAt) → keys_seen keys ≡ own → order ≡ (if v then [] else in_key_order own) → s.groups ≡ indexes own groups → AreKeysOf own groups
    → told_indexes keys s order ≡ flat_map group_text (if v then [] else groups)
groups_told true keys own order groups s e f g h = ap (told_indexes keys s) f
groups_told false keys own order groups s e f g h = ap (told_indexes keys s) f ∙ seen_at keys own (in_key_order own) groups s e g h ∙ covered_text (own_covers own groups h)

-- ---- a line

line_is : (sp d o fl de si di ix end : List ℕ) → sp ++ d ++ sp ++ o ++ (sp ++ fl ++ sp ++ de ++ sp ++ si ++ (sp ++ di ++ ix ++ end)) ≡ sp ++ d ++ sp ++ o ++ sp ++ fl ++ sp ++ de ++ sp ++ si ++ sp ++ di ++ ix ++ end
line_is sp d o fl de si di ix end = simp append_assoc

module _ (r : Reduction) (keys : Keys) (style : SampleStyle) (is : IsStyle r keys style) (file : List ℕ) (own : List GroupKey) (e : keys_seen keys ≡ own) where
  abbrev q : Reduction
  q = style.reduction

  order_is : keys_seen style.order ≡ (if q.leaving.groups then [] else in_key_order own)
  order_is = is.order ∙ (λ i. if (sym is.reduction i).leaving.groups then [] else in_key_order (e i))

  one_told : (number dts : ℕ) (s : PlacedSample) → IsSampleOf file own s → told_sample style file (sample_at own number dts s) ≡ sample_text (sample_by q.leaving (divided q.divisor) q.samples number (reduce_sample q.leaving q.samples q.offset number (sample_of file s)))
  one_told number dts s h =
      let bytes = bytes_at file s.at s.size in
      let size : s.size ≡ length bytes = sym (bytes_whole file s.at s.size h.1) in
      let digest : sha256 (range file (place_of s.at) s.size) ≡ sha256 bytes = ap sha256 (there file s.at s.size h.1) in
      let groups : told_indexes style.keys (sample_at own number dts s) (keys_seen style.order) ≡ flat_map group_text (if q.leaving.groups then [] else s.groups) =
      groups_told q.leaving.groups style.keys own (keys_seen style.order) s.groups (sample_at own number dts s) (ap keys_seen is.keys_are ∙ e) order_is refl h.0 in
      line_is space (decimal (lasts_left q number s.duration)) (signed_decimal (cto_left q s.offset)) (hex_digits 8 (flags_left q s.flags)) (decimal s.description) (decimal s.size)
      (hex_text (sha256 (range file (place_of s.at) s.size)))
      (told_indexes style.keys (sample_at own number dts s) (keys_seen style.order)) line_feed
      ∙ (λ i. space ++ decimal (lasts_left q number s.duration) ++ space ++ signed_decimal (cto_left q s.offset) ++ space ++ hex_digits 8 (flags_left q s.flags) ++ space ++ decimal s.description ++ space ++ decimal (size i) ++ space ++ hex_text (digest i) ++ groups i ++ line_feed)

  all_told : (number dts : ℕ) (samples : List PlacedSample) → AllByRecursion (IsSampleOf file own) samples → flat_map (told_sample style file) (timed own number dts samples) ≡ flat_map sample_text (remaining_from q.leaving q.divisor q.samples q.offset number (map (sample_of file) samples))
  all_told number dts [] h = refl
  all_told number dts (s ∷ samples) h =
      let one = one_told number dts s h.0 in
      let more = all_told (number + 1) (dts + s.duration) samples h.1 ∙ (λ i. flat_map sample_text (remaining_from q.leaving q.divisor q.samples q.offset (plus_one number i) (map (sample_of file) samples))) in
      λ i. one i ++ more i

-- ---- a track

-- The lines of a track's samples are those of the samples that are left of it.
pub track_told : (l : Without) (divisor : ℕ) (style : SampleStyle) (file : List ℕ) (m : MovieSeen) (tree : FileTree) (t : TrackTree) (k : ℕ) (info : TrackInfo) → IsOpenedAs file m tree → slice_get tree.movie.tracks k ≡ Some t → slice_get m.tracks k ≡ Some info
    → IsStyle (reduction_of l divisor (track_samples tree t)) info.keys style
    → flat_map (told_sample style file) (track_samples tree t) ≡ flat_map sample_text (divided_samples l divisor (track_of file (file_parts tree) t))
track_told l divisor style file m tree t k info o at there is =
    let own = (get_zip (IsInfoOf file tree) tree.movie.tracks m.tracks k t info o.tracks at there).keys in
    all_told (reduction_of l divisor (track_samples tree t)) info.keys style is file (track_keys tree t) own 0 _ (placed_of (file_parts tree) t) (opened_samples file m tree t k o at)
    ∙ ap (flat_map sample_text) (reduced_by l divisor style.reduction file (track_keys tree t) 0 _ (placed_of (file_parts tree) t) is.reduction)
