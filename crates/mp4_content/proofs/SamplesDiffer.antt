-- What differs between two samples as they are handed out is what differs between those of the presentations.
use Rattle.std.proofs.Common.{◌≡◌, ℕ, zero, suc, ◌+◌, ◌≤◌, Bool, true, false, eqb, if◌then◌else◌, List, [], ◌∷◌, ◌++◌, length, Some, refl, sym, ap, ◌∙◌, arith, append_assoc}
use Rattle.std.specs.Prelude.{map, fold, flat_map, slice_index, ◌==◌}
use Rattle.std.specs.List.{AllByRecursion, list_any, position_from, slice_get}
use Rattle.std.proofs.lemmas.Bool.{eqb-true, or_from}
use Rattle.mp4_boxes.proofs.Among.{all_append}
use Rattle.mp4_boxes.proofs.Each.{each_value, each_weaker, each_from, each_member}
use Rattle.mp4_boxes.proofs.Joined.{all_first, all_last}
use Rattle.mp4_boxes.proofs.Plain.{get_every, get_zip, plus_one, true_false}
use Rattle.mp4_store.specs.words.Device.{range}
use Rattle.mp4_tables.specs.format.Groups.{GroupKey, Groups, key_rank, same_key, index_at}
use Rattle.mp4_tables.specs.format.PlainSamples.{PlacedSample}
use Rattle.mp4_tables.specs.words.Keys.{key_seen, keys_seen, key_place}
use Rattle.mp4_tables.specs.words.Timed.{padded, indexes, place_of, sample_at, timed}
use Rattle.mp4_tables.specs.declared.keys.GroupKey.{GroupKey as KeyNamed}
use Rattle.mp4_tables.specs.declared.keys.Keys.{Keys}
use Rattle.mp4_tables.specs.declared.sample.SampleAt.{SampleAt}
use Rattle.mp4_tables.proofs.NamedKeys.{IsAmong, IsNone, by_rank, among_through}
use Rattle.mp4_tables.proofs.GroupMaps.{IsMap}
use Rattle.mp4_tables.proofs.Placed.{IsKey, IsIndex}
use Rattle.mp4_head.specs.format.Tree.{TrackTree}
use Rattle.mp4_present.specs.format.Denotes.{FileTree, bytes_at, sample_of, file_parts, placed_of}
use Rattle.mp4_content.specs.format.Reduced.{reduce_sample}
use Rattle.mp4_content.specs.format.Timescales.{divided, sample_by}
use Rattle.mp4_content.proofs.ReducedTaken.{remaining_from}
use Rattle.mp4_content.specs.format.Differences.{differ, numbers_differ, signed, first_unequal, byte_at, bytes_differ, each_differ}
use Rattle.mp4_content.specs.format.Comparison.{with_key, keys_of_both, index_differences, sample_differences}
use Rattle.mp4_content.specs.words.Differing.{index_in, index_of, group_differences, pair_differences}
use Rattle.mp4_present.specs.words.OpenedMovie.{IsOpenedAs, IsInfoOf}
use Rattle.mp4_present.specs.words.Movies.{MovieSeen}
use Rattle.mp4_present.specs.words.SamplesComing.{track_keys}
use Rattle.mp4_content.specs.words.ComingLess.{cto_left, flags_left, lasts_left}
use Rattle.mp4_content.specs.declared.comparing.pairing.Pairing.{Pairing}
use Rattle.mp4_content.specs.declared.reduced.Reduction.{Reduction}
use Rattle.mp4_content.specs.declared.without.Without.{Without}
use Rattle.mp4_present.specs.declared.track_info.TrackInfo.{TrackInfo}
use Rattle.mp4_content.specs.declared.comparing.differences.Subject.{Subject}
use Rattle.mp4_content.specs.declared.comparing.differences.Subject.TheVariants as subjects
use Rattle.mp4_content.specs.declared.comparing.differences.Field.{Field}
use Rattle.mp4_content.specs.declared.comparing.differences.Field.TheVariants as fields
use Rattle.mp4_content.specs.declared.comparing.differences.Difference.{Difference}
use Rattle.mp4_content.proofs.KeysOfBoth.{NothingElse, joint}
use Rattle.mp4_present.proofs.PlacedTracks.{IsTrackPlaced}
use Rattle.mp4_present.proofs.ToldTrees.{opened_placed}
use Rattle.mp4_present.proofs.SamplesLie.{IsInFile, placed_lie, bytes_whole, there}
use Rattle.mp4_present.proofs.ValidSamples.{IsOfTrack}
use Rattle.mp4_content.proofs.ComparisonKeys.{all_rising, all_put}
use Rattle.mp4_content.proofs.ComparisonGroups.{each_there}

-- ---- an index at a key

-- the same at keys of one rank
pub by_same : (x key : GroupKey) (groups : Groups) → key_rank x ≡ key_rank key → index_at x groups ≡ index_at key groups
by_same x key [] e = refl
by_same x key (group ∷ groups) e = λ i. if eqb (e i) (key_rank group.0) then group.1 else by_same x key groups e i

-- none at a key that is none of those named
pub none_at : (named : List GroupKey) (key : GroupKey) (groups : Groups) → AllByRecursion (λ (group : GroupKey × ℕ). IsAmong named group.0) groups → IsNone named key → index_at key groups ≡ 0
none_at named key [] a n = refl
none_at named key (group ∷ groups) a n = by (same_key key group.0) refl (none_at named key groups a.1 n)
  where
    by : (v : Bool) → same_key key group.0 ≡ v → index_at key groups ≡ 0 → (if v then group.1 else index_at key groups) ≡ 0
    by true e more = absurd (true_false (list_any (same_key key) named) (by_rank named key group.0 (eqb-true (key_rank key) (key_rank group.0) e) ∙ a.0) n)
    by false e more = more

-- by its place among the keys of the track
module _ (key : GroupKey) (groups : Groups) where
  place_from : (keys : List GroupKey) (m n : ℕ) (ys : List ℕ) → length keys ≤ m → ((j : ℕ) → slice_index ys (n + j) ≡ slice_index (padded m (map (λ (k : GroupKey). index_at k groups) keys)) j) → (IsNone keys key → index_at key groups ≡ 0)
      → index_in (position_from (same_key key) n keys) ys ≡ index_at key groups
  place_from [] m n ys le at none = sym (none refl)
  place_from (k ∷ keys) zero n ys le at none = absurd (omega (arith, le))
  place_from (k ∷ keys) (suc m) n ys le at none = by (same_key key k) refl (λ no. place_from keys m (n + 1) ys (omega (arith, le)) more no)
    where
      more : (j : ℕ) → slice_index ys (n + 1 + j) ≡ slice_index (padded m (map (λ (x : GroupKey). index_at x groups) keys)) j
      more j = let e : n + 1 + j ≡ n + suc j = omega arith in ap (slice_index ys) e ∙ at (suc j)

      by : (v : Bool) → same_key key k ≡ v → ((IsNone keys key → index_at key groups ≡ 0) → index_in (position_from (same_key key) (n + 1) keys) ys ≡ index_at key groups)
          → index_in (if v then Some n else position_from (same_key key) (n + 1) keys) ys ≡ index_at key groups
      by true e behind = let here : n ≡ n + 0 = omega arith in ap (slice_index ys) here ∙ at 0 ∙ by_same k key groups (sym (eqb-true (key_rank key) (key_rank k) e))
      by false e behind = behind (λ no. none (or_from (same_key key k) (list_any (same_key key) keys) e no))

pub index_there : (keys : List GroupKey) (groups : Groups) (key : GroupKey) → length keys ≤ 4 → AllByRecursion (λ (group : GroupKey × ℕ). IsAmong keys group.0) groups → index_in (key_place key keys) (indexes keys groups) ≡ index_at key groups
index_there keys groups key few named = place_from key groups keys 4 0 (indexes keys groups) few (λ j. let e : 0 + j ≡ j = omega arith in ap (slice_index (indexes keys groups)) e) (none_at keys key groups named)

-- ---- the indexes of two samples

-- what differs at a key
abbrev at_key : Subject → Groups → Groups → GroupKey → List Difference
at_key of a b key = numbers_differ of (fields.Group (record { kind = record { 0 = key.kind }; parameter = key.parameter })) (index_at key a) (index_at key b)

no_difference : (of : Subject) (field : Field) → numbers_differ of field 0 0 ≡ []
unfolding differ
no_difference of field = refl

abbrev keys_in : Groups → List GroupKey
keys_in groups = map (λ (group : GroupKey × ℕ). group.0) groups

-- the keys of a track, and the map of a sample of it
pub record AreKeysOf (keys : List GroupKey) (groups : Groups) : Type 0 where
  pub are : AllByRecursion IsKey keys
  pub few : length keys ≤ 4
  pub map : IsMap IsIndex keys groups

are_keys : (groups : Groups) → AllByRecursion IsIndex groups → AllByRecursion IsKey (keys_in groups)
are_keys groups h = each_value IsIndex IsKey (λ (group : GroupKey × ℕ). group.0) (λ group k. k.0) groups h

are_among : (keys : List GroupKey) (groups : Groups) → AllByRecursion (λ (group : GroupKey × ℕ). IsAmong keys group.0) groups → AllByRecursion (IsAmong keys) (keys_in groups)
are_among keys groups h = each_value (λ (group : GroupKey × ℕ). IsAmong keys group.0) (IsAmong keys) (λ (group : GroupKey × ℕ). group.0) (λ group k. k) groups h

none_in : (keys : List GroupKey) (groups : Groups) (key : GroupKey) → AllByRecursion (IsAmong keys) (keys_in groups) → IsNone keys key → index_at key groups ≡ 0
none_in keys groups key a n = none_at keys key groups (back groups a) n
  where
    back : (gs : Groups) → AllByRecursion (IsAmong keys) (keys_in gs) → AllByRecursion (λ (group : GroupKey × ℕ). IsAmong keys group.0) gs
    back [] h = tt
    back (g ∷ gs) h = (h.0, back gs h.1)

module _ (of : Subject) (left right : List GroupKey) (a b : Groups) (ha : AreKeysOf left a) (hb : AreKeysOf right b) where
  abbrev both_keys : List GroupKey
  both_keys = fold with_key [] (left ++ right)

  all_among : AllByRecursion (IsAmong both_keys) (keys_of_both a b)
  all_among =
      let there = each_there [] (left ++ right) in
      let through : (keys : List GroupKey) → AllByRecursion (IsAmong both_keys) keys → (groups : Groups) → AllByRecursion (λ (group : GroupKey × ℕ). IsAmong keys group.0) groups → AllByRecursion (IsAmong both_keys) (keys_in groups) =
      λ keys h groups n. each_weaker (IsAmong keys) (IsAmong both_keys) (λ key k. among_through keys both_keys key h k) (keys_in groups) (are_among keys groups n) in
      all_put (IsAmong both_keys) [] (keys_in a ++ keys_in b) tt
      (all_append (IsAmong both_keys) (keys_in a) (keys_in b) (through left (all_first (IsAmong both_keys) left right there) a ha.map.named) (through right (all_last (IsAmong both_keys) left right there) b hb.map.named))

  nothing_else : NothingElse (at_key of a b) (keys_of_both a b) both_keys
  nothing_else = each_member (λ (x : GroupKey). IsNone (keys_of_both a b) x → at_key of a b x ≡ []) both_keys (λ x i none. nothing x none)
    where
      there : AllByRecursion (IsAmong (keys_of_both a b)) (keys_in a ++ keys_in b)
      there = each_there [] (keys_in a ++ keys_in b)

      nothing : (x : GroupKey) → IsNone (keys_of_both a b) x → at_key of a b x ≡ []
      nothing x none =
          let field = fields.Group (record { kind = record { 0 = x.kind }; parameter = x.parameter }) in
          (λ i. numbers_differ of field (none_in (keys_of_both a b) a x (all_first (IsAmong (keys_of_both a b)) (keys_in a) (keys_in b) there) none i) (none_in (keys_of_both a b) b x (all_last (IsAmong (keys_of_both a b)) (keys_in a) (keys_in b) there) none i))
          ∙ no_difference of field

  -- what differs at all keys of two tracks differs at the keys of the two samples
  keys_joined : flat_map (at_key of a b) both_keys ≡ index_differences of a b
  keys_joined =
      joint (at_key of a b) both_keys (keys_of_both a b) (all_rising [] (left ++ right) tt) (all_rising [] (keys_in a ++ keys_in b) tt) (all_put IsKey [] (left ++ right) tt (all_append IsKey left right ha.are hb.are))
      (all_put IsKey [] (keys_in a ++ keys_in b) tt (all_append IsKey (keys_in a) (keys_in b) (are_keys a ha.map.each) (are_keys b hb.map.each))) all_among nothing_else

-- as the keys are seen
seen_at : (of : Subject) (keys : List KeyNamed) (lk rk : Keys) (left right : List GroupKey) (a b : Groups) (x y : SampleAt) → keys_seen lk ≡ left → keys_seen rk ≡ right → x.groups ≡ indexes left a → y.groups ≡ indexes right b → AreKeysOf left a → AreKeysOf right b
    → group_differences of keys lk x rk y ≡ flat_map (at_key of a b) (map key_seen keys)
seen_at of [] lk rk left right a b x y el er gx gy ha hb = refl
seen_at of (key ∷ keys) lk rk left right a b x y el er gx gy ha hb =
    let first : index_of lk x key ≡ index_at (key_seen key) a = (λ i. index_in (key_place (key_seen key) (el i)) (gx i)) ∙ index_there left a (key_seen key) ha.few ha.map.named in
    let second : index_of rk y key ≡ index_at (key_seen key) b = (λ i. index_in (key_place (key_seen key) (er i)) (gy i)) ∙ index_there right b (key_seen key) hb.few hb.map.named in
    let more = seen_at of keys lk rk left right a b x y el er gx gy ha hb in
    λ i. numbers_differ of (fields.Group key) (first i) (second i) ++ more i

-- none where groups are left out
groups_differ : (v : Bool) (of : Subject) (keys : List KeyNamed) (lk rk : Keys) (left right : List GroupKey) (a b : Groups) (x y : SampleAt) → keys_seen lk ≡ left → keys_seen rk ≡ right → x.groups ≡ indexes left a → y.groups ≡ indexes right b → AreKeysOf left a → AreKeysOf right b
    → map key_seen keys ≡ (if v then [] else fold with_key [] (left ++ right)) → group_differences of keys lk x rk y ≡ index_differences of (if v then [] else a) (if v then [] else b)
groups_differ true of keys lk rk left right a b x y el er gx gy ha hb e = seen_at of keys lk rk left right a b x y el er gx gy ha hb ∙ ap (flat_map (at_key of a b)) e
groups_differ false of keys lk rk left right a b x y el er gx gy ha hb e = seen_at of keys lk rk left right a b x y el er gx gy ha hb ∙ ap (flat_map (at_key of a b)) e ∙ keys_joined of left right a b ha hb

-- ---- the bytes of two samples

bytes_by : (of : Subject) (f : ℕ → Field) (v : Bool) (xs ys zs : List ℕ) → (v ≡ true → zs ≡ ys) → (if v then byte_at of f (first_unequal 0 xs zs) else []) ≡ (if v then byte_at of f (first_unequal 0 xs ys) else [])
bytes_by of f true xs ys zs h = ap (λ (ws : List ℕ). byte_at of f (first_unequal 0 xs ws)) (h refl)
bytes_by of f false xs ys zs h = refl

module _ (of : Subject) (file other : List ℕ) (s t : PlacedSample) (hs : IsInFile (length file) s) (ht : IsInFile (length other) t) where
  abbrev own : List ℕ
  own = bytes_at file s.at s.size

  abbrev others : List ℕ
  others = bytes_at other t.at t.size

  abbrev byte_field : ℕ → ℕ → Field
  byte_field m k = fields.Byte k m

  size_is : s.size ≡ length own
  size_is = sym (bytes_whole file s.at s.size hs)

  other_is : t.size ≡ length others
  other_is = sym (bytes_whole other t.at t.size ht)

  bytes_are : bytes_differ of (byte_field s.size) s.size t.size (range file (place_of s.at) s.size) (range other (place_of t.at) s.size) ≡ bytes_differ of (byte_field (length own)) (length own) (length others) own others
  bytes_are =
      bytes_by of (byte_field s.size) (s.size == t.size) (range file (place_of s.at) s.size) others (range other (place_of t.at) s.size) (λ e. ap (range other (place_of t.at)) (eqb-true s.size t.size e) ∙ there other t.at t.size ht)
      ∙ (λ i. bytes_differ of (byte_field (size_is i)) (size_is i) (other_is i) (there file s.at s.size hs i) others)

-- ---- two samples

-- a sample of a track with these keys lies in the file
abbrev pub IsSampleOf : List ℕ → List GroupKey → PlacedSample → Type 0
IsSampleOf file keys s = AreKeysOf keys s.groups × IsInFile (length file) s

module _ (by : Pairing) (l : Without) (left right : List GroupKey) (file other : List ℕ) (el : keys_seen by.left ≡ left) (er : keys_seen by.right ≡ right) (joined : map key_seen by.keys.items ≡ (if l.groups then [] else fold with_key [] (left ++ right)))
    (first_by : by.left_reduction.leaving ≡ l) (second_by : by.right_reduction.leaving ≡ l) where
  abbrev r : Reduction
  r = by.left_reduction

  abbrev q : Reduction
  q = by.right_reduction

  two_samples : (n a b dts later : ℕ) (s t : PlacedSample) → IsSampleOf file left s → IsSampleOf other right t
      → pair_differences by file other n (sample_at left a dts s) (sample_at right b later t) ≡ sample_differences by.track n (sample_by r.leaving (divided r.divisor) r.samples a (reduce_sample r.leaving r.samples r.offset a (sample_of file s)))
      (sample_by q.leaving (divided q.divisor) q.samples b (reduce_sample q.leaving q.samples q.offset b (sample_of other t)))
  two_samples n a b dts later s t hs ht =
      let of = subjects.Sample by.track n in
      let values = λ (g : List Difference). numbers_differ of fields.Duration (lasts_left r a s.duration) (lasts_left q b t.duration)
      ++ signed of fields.Offset (cto_left r s.offset) (cto_left q t.offset) ++ numbers_differ of fields.Flags (flags_left r s.flags) (flags_left q t.flags)
      ++ numbers_differ of fields.Description s.description t.description ++ g in
      let groups = groups_differ l.groups of by.keys.items by.left by.right left right s.groups t.groups (sample_at left a dts s) (sample_at right b later t) el er refl refl hs.0 ht.0 joined
      ∙ (λ i. index_differences of (if (sym first_by i).groups then [] else s.groups) (if (sym second_by i).groups then [] else t.groups)) in
      let bytes = bytes_are of file other s t hs.1 ht.1 in
      let first = size_is of file other s t hs.1 ht.1 in
      let second = other_is of file other s t hs.1 ht.1 in
      append_assoc (values (group_differences of by.keys.items by.left (sample_at left a dts s) by.right (sample_at right b later t))) (numbers_differ of fields.Size s.size t.size)
      (bytes_differ of (λ (k : ℕ). fields.Byte k s.size) s.size t.size (range file (place_of s.at) s.size) (range other (place_of t.at) s.size))
      ∙ (λ j. values (groups j) ++ (numbers_differ of fields.Size (first j) (second j) ++ bytes j))

  pub all_samples : (n a b dts later : ℕ) (xs ys : List PlacedSample) → AllByRecursion (IsSampleOf file left) xs → AllByRecursion (IsSampleOf other right) ys
      → each_differ (pair_differences by file other) n (timed left a dts xs) (timed right b later ys)
      ≡ each_differ (sample_differences by.track) n (remaining_from r.leaving r.divisor r.samples r.offset a (map (sample_of file) xs)) (remaining_from q.leaving q.divisor q.samples q.offset b (map (sample_of other) ys))
  all_samples n a b dts later [] ys hs ht = refl
  all_samples n a b dts later (x ∷ xs) [] hs ht = refl
  all_samples n a b dts later (x ∷ xs) (y ∷ ys) hs ht =
      let one = two_samples n a b dts later x y hs.0 ht.0 in
      let more = all_samples (suc n) (a + 1) (b + 1) (dts + x.duration) (later + y.duration) xs ys hs.1 ht.1
      ∙ (λ i. each_differ (sample_differences by.track) (suc n) (remaining_from r.leaving r.divisor r.samples r.offset (plus_one a i) (map (sample_of file) xs)) (remaining_from q.leaving q.divisor q.samples q.offset (plus_one b i) (map (sample_of other) ys))) in
      λ i. one i ++ more i

-- ---- two tracks

samples_of : (file : List ℕ) (tree : FileTree) (t : TrackTree) → IsTrackPlaced tree t → AllByRecursion (IsInFile (length file)) (placed_of (file_parts tree) t) → AllByRecursion (IsSampleOf file (track_keys tree t)) (placed_of (file_parts tree) t)
samples_of file tree t h lie =
    each_from (IsOfTrack (length t.descriptions) (track_keys tree t)) (IsInFile (length file)) (IsSampleOf file (track_keys tree t)) (λ s k i. (record { are = h.keys; few = h.few; map = k.groups }, i)) (placed_of (file_parts tree) t) h.placed lie

pub opened_samples : (file : List ℕ) (m : MovieSeen) (tree : FileTree) (t : TrackTree) (k : ℕ) → IsOpenedAs file m tree → slice_get tree.movie.tracks k ≡ Some t → AllByRecursion (IsSampleOf file (track_keys tree t)) (placed_of (file_parts tree) t)
opened_samples file m tree t k o is =
    let Lie : TrackTree → Type 0 = λ u. AllByRecursion (IsInFile (length file)) (placed_of (file_parts tree) u) in
    let lie = get_every Lie tree.movie.tracks k t is (each_member Lie tree.movie.tracks (λ u i. placed_lie file tree u o.hands_out i)) in
    samples_of file tree t (get_every (IsTrackPlaced tree) tree.movie.tracks k t is (opened_placed file m tree o)) lie

-- the keys that are kept of a track are its own
pub own_keys : (file : List ℕ) (m : MovieSeen) (tree : FileTree) (t : TrackTree) (k : ℕ) (info : TrackInfo) → IsOpenedAs file m tree → slice_get tree.movie.tracks k ≡ Some t → slice_get m.tracks k ≡ Some info → keys_seen info.keys ≡ track_keys tree t
own_keys file m tree t k info o at there = (get_zip (IsInfoOf file tree) tree.movie.tracks m.tracks k t info o.tracks at there).keys
