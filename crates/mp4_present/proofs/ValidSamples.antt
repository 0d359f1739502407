-- The samples of a track, as its tables and its fragments name them in a file of bytes, are well formed.
use Rattle.std.proofs.Common.{◌≡◌, ℕ, ◌<◌, ◌≤◌, ◌^◌, true, false, eqb, leb, List, [], ◌∷◌, ◌++◌, length, drop, Option, Some, None, refl, sym, ap, subst, ◌∙◌, arith}
use Rattle.std.specs.Prelude.{map, find, flat_map, unwrap_or, option_map, IfSome, IsTrue, ℤ, pos, negsuc}
use Rattle.std.specs.List.{AllByRecursion}
use Rattle.std.proofs.lemmas.Bool.{leb-true, eqb-true, and_parts}
use Rattle.std.proofs.lemmas.List.{length-take}
use Rattle.mp4_boxes.specs.format.Bytes.{AreBytes}
use Rattle.mp4_boxes.proofs.Among.{IsIn, all_append}
use Rattle.mp4_boxes.proofs.Each.{each_tested, each_value, each_weaker, each_from, each_joined, each_member}
use Rattle.mp4_boxes.proofs.OfBytes.{no_bytes, bytes_taken, bytes_dropped}
use Rattle.mp4_boxes.proofs.Refusing.{found_has}
use Rattle.mp4_tables.specs.format.Groups.{GroupKey, Grouping, Groups, keys_with, keys_after, max_keys}
use Rattle.mp4_tables.specs.format.PlainSamples.{PlacedSample}
use Rattle.mp4_tables.specs.format.TableRules.{is_index}
use Rattle.mp4_tables.proofs.NamedKeys.{IsAmong, among_with, few_with}
use Rattle.mp4_tables.proofs.GroupMaps.{IsMap, keys_named, order_test, map_through, named_after, after-append, still_few}
use Rattle.mp4_tables.proofs.Placed.{IsPlaced, IsIndex}
use Rattle.mp4_frag.specs.format.FragmentSamples.{Part, part_samples, has_samples, start_of, keys_behind, AreGrouped}
use Rattle.mp4_frag.specs.format.FragmentRules.{TrackFacts, track_for, has_indexes}
use Rattle.mp4_frag.proofs.Ranges.{IsPart, part_placed}
use Rattle.mp4_head.specs.format.Tree.{TrackTree, MovieTree, are_distinct, track_head_of}
use Rattle.mp4_head.proofs.Distinct.{distinct_same}
use Rattle.mp4_present.specs.format.Presentation.{Sample, IsGroup, IsParameter, IsSample, keys_of}
use Rattle.mp4_present.specs.format.Denotes.{track_infos, bytes_at, sample_of}

-- ---- one sample

-- bytes at a place are bytes
bytes_there : (file : List ℕ) (at : ℤ) (n : ℕ) → AreBytes file → AreBytes (bytes_at file at n)
bytes_there file (pos at) n h = bytes_taken n (drop at file) (bytes_dropped at file h)
bytes_there file (negsuc below) n h = no_bytes

-- and no more than were asked for
no_longer : (file : List ℕ) (at : ℤ) (n : ℕ) → length (bytes_at file at n) ≤ n
no_longer file (pos at) n = omega (arith, length-take n (drop at file))
no_longer file (negsuc below) n = omega arith

-- a parameter of 32 bits
pub is_parameter : (o : Option ℕ) → IfSome o (λ n. n < 2 ^ 32) → IsParameter o
is_parameter None h = tt
is_parameter (Some n) h = h

-- an index at a key
pub is_group : (group : GroupKey × ℕ) → IsIndex group → IsGroup group
is_group group h = record { kind_length = h.0.kind_length; kind = h.0.kind; parameter = is_parameter group.0.parameter h.0.parameter; index_from_1 = h.1; index = h.2 }

-- all of a map
groups_of : (groups : Groups) → AllByRecursion IsIndex groups → AllByRecursion IsGroup groups
groups_of [] h = tt
groups_of (group ∷ groups) h = (is_group group h.0, groups_of groups h.1)

-- a sample in its ranges, of one of so many descriptions, in groups of these keys
abbrev pub IsOfTrack : ℕ → List GroupKey → PlacedSample → Type 0
IsOfTrack descriptions keys s = IsPlaced (λ d. IsTrue (is_index descriptions d)) (IsMap IsIndex keys) s

-- such a sample with its bytes
pub sample_valid : (file : List ℕ) (descriptions : ℕ) (keys : List GroupKey) (s : PlacedSample) → AreBytes file → IsOfTrack descriptions keys s → IsSample descriptions (sample_of file s)
sample_valid file descriptions keys s h k =
    let index = and_parts (leb 1 s.description) (leb s.description descriptions) k.description in
    record {
      duration = k.duration;
      offset = k.offset;
      flags = k.flags;
      description_from_1 = leb-true 1 s.description index.0;
      description = leb-true s.description descriptions index.1;
      bytes = bytes_there file s.at s.size h;
      size = (let short = no_longer file s.at s.size in omega (arith, short, k.size));
      groups = groups_of s.groups k.groups.each;
      groups_in_order = order_test s.groups k.groups.order;
    }

-- ---- the samples of fragments

-- of more keys
pub more_keys : (descriptions : ℕ) (keys others : List GroupKey) → AllByRecursion (IsAmong others) keys → (s : PlacedSample) → IsOfTrack descriptions keys s → IsOfTrack descriptions others s
more_keys descriptions keys others a s h =
    record { duration = h.duration; offset = h.offset; flags = h.flags; description = h.description; size = h.size; groups = map_through IsIndex keys others s.groups a h.groups }

-- keys among some are among them and more
each_with : (keys more : List GroupKey) (xs : List GroupKey) → AllByRecursion (IsAmong keys) xs → AllByRecursion (IsAmong (keys_with keys more)) xs
each_with keys more [] h = tt
each_with keys more (x ∷ xs) h = (among_with keys more x h.0, each_with keys more xs h.1)

-- the keys that `sbgp`s name are among those behind them and more
pub named_with : (keys : List GroupKey) (groupings more : List Grouping) → AllByRecursion (IsAmong (keys_after (keys_after keys groupings) more)) (keys_named groupings)
named_with keys groupings more = each_with (keys_after keys groupings) (keys_named more) (keys_named groupings) (named_after keys groupings)

-- the samples of a part have the track's descriptions
abbrev IsIndexed : ℕ → Part → Type 0
IsIndexed descriptions part = AllByRecursion (λ (s : PlacedSample). IsTrue (is_index descriptions s.description)) (part_samples part)

-- the samples of a track's parts, whose `sbgp`s keep the rules
pub parts_placed : (descriptions : ℕ) (keys : List GroupKey) (parts : List Part) → AreGrouped keys parts → AllByRecursion IsPart parts → AllByRecursion (IsIndexed descriptions) parts
    → AllByRecursion (IsOfTrack descriptions (keys_behind keys parts)) (flat_map part_samples parts)
parts_placed descriptions keys [] g h k = tt
parts_placed descriptions keys (part ∷ parts) g h k =
    let more = flat_map (λ (q : Part). q.groups) parts in
    let behind : keys_behind keys (part ∷ parts) ≡ keys_behind (keys_after keys part.groups) parts = after-append keys part.groups more in
    let own = each_from (IsPlaced (λ d. Unit {0}) (IsMap IsIndex (keys_named part.groups))) (λ (s : PlacedSample). IsTrue (is_index descriptions s.description)) (IsOfTrack descriptions (keys_behind (keys_after keys part.groups) parts))
    (λ s x y. more_keys descriptions (keys_named part.groups) (keys_behind (keys_after keys part.groups) parts) (named_with keys part.groups more) s
    (record { duration = x.duration; offset = x.offset; flags = x.flags; description = y; size = x.size; groups = x.groups })) (part_samples part)
    (part_placed keys part h.0 g.0) k.0 in
    subst (λ (ks : List GroupKey). AllByRecursion (IsOfTrack descriptions ks) (flat_map part_samples (part ∷ parts))) (sym behind)
    (all_append (IsOfTrack descriptions (keys_behind (keys_after keys part.groups) parts)) (part_samples part) (flat_map part_samples parts) own (parts_placed descriptions (keys_after keys part.groups) parts g.1 h.1 k.1))

-- a track has no more than four keys behind its parts
pub parts_few : (keys : List GroupKey) (parts : List Part) → AreGrouped keys parts → length keys ≤ max_keys → length (keys_behind keys parts) ≤ max_keys
parts_few keys [] g few = few
parts_few keys (part ∷ parts) g few =
    let next = still_few (length (part_samples part)) keys part.groups g.0 few in
    subst (λ (ks : List GroupKey). length ks ≤ max_keys) (sym (after-append keys part.groups (flat_map (λ (q : Part). q.groups) parts))) (parts_few (keys_after keys part.groups) parts g.1 next)

-- ---- the descriptions of a track

-- a track as fragments see it
abbrev info : TrackTree → TrackFacts
info t = record { id = (track_head_of t).id; descriptions = length t.descriptions }

-- what a track info of this ID says is so of the track
own_info : (tracks : List TrackTree) (u : TrackTree) → are_distinct (map (λ (t : TrackTree). (track_head_of t).id) tracks) ≡ true → IsIn tracks u
    → AllByRecursion (λ (i : TrackFacts). i.id ≡ (track_head_of u).id → i.descriptions ≡ length u.descriptions) (map info tracks)
own_info tracks u d i =
    each_value (λ (t : TrackTree). (track_head_of t).id ≡ (track_head_of u).id → t ≡ u) (λ (x : TrackFacts). x.id ≡ (track_head_of u).id → x.descriptions ≡ length u.descriptions) info
    (λ t h e. ap (λ (v : TrackTree). length v.descriptions) (h e)) tracks
    (each_member (λ (t : TrackTree). (track_head_of t).id ≡ (track_head_of u).id → t ≡ u) tracks (λ t j e. distinct_same (λ (v : TrackTree). (track_head_of v).id) tracks t u d j i e))

-- there is no index among no descriptions
not_none : (d : ℕ) → IsTrue (is_index 0 d) → ⊥
not_none d h = let p = and_parts (leb 1 d) (leb d 0) h in let low = leb-true 1 d p.0 in let high = leb-true d 0 p.1 in omega arith

-- an index of the track that is found
index_of : (o : Option TrackFacts) (n d : ℕ) → ((i : TrackFacts) → o ≡ Some i → i.descriptions ≡ n) → IsTrue (is_index (unwrap_or (option_map (λ (t : TrackFacts). t.descriptions) o) 0) d) → IsTrue (is_index n d)
index_of None n d h k = absurd (not_none d k)
index_of (Some i) n d h k = subst (λ (m : ℕ). IsTrue (is_index m d)) (h i refl) k

-- the samples of a part of the track have its descriptions
pub part_indexed : (m : MovieTree) (u : TrackTree) (part : Part) → are_distinct (map (λ (t : TrackTree). (track_head_of t).id) m.tracks) ≡ true → IsIn m.tracks u → eqb part.id (track_head_of u).id ≡ true
    → IsTrue (has_indexes (track_infos m) part) → IsIndexed (length u.descriptions) part
part_indexed m u part d i e h =
    let id = eqb-true part.id (track_head_of u).id e in
    let infos = own_info m.tracks u d i in
    let says : (x : TrackFacts) → track_for (track_infos m) part.id ≡ Some x → x.descriptions ≡ length u.descriptions =
    λ x f. (let r = found_has (λ (y : TrackFacts). y.id ≡ (track_head_of u).id → y.descriptions ≡ length u.descriptions) (λ (y : TrackFacts). eqb y.id part.id) (track_infos m) x infos f in r.0 (eqb-true x.id part.id r.1 ∙ id)) in
    each_weaker (λ (s : PlacedSample). IsTrue (is_index (unwrap_or (option_map (λ (t : TrackFacts). t.descriptions) (track_for (track_infos m) part.id)) 0) s.description)) (λ (s : PlacedSample). IsTrue (is_index (length u.descriptions) s.description))
    (λ s k. index_of (track_for (track_infos m) part.id) (length u.descriptions) s.description says k) (part_samples part) (each_tested _ (part_samples part) h)

-- ---- keys and starts

-- the keys of a map
keys_among : (keys : List GroupKey) (groups : Groups) → AllByRecursion (λ (group : GroupKey × ℕ). IsAmong keys group.0) groups → AllByRecursion (IsAmong keys) (map (λ (group : GroupKey × ℕ). group.0) groups)
keys_among keys groups h = each_value (λ (group : GroupKey × ℕ). IsAmong keys group.0) (IsAmong keys) (λ (group : GroupKey × ℕ). group.0) (λ group k. k) groups h

-- the keys of samples in groups of some keys are no more than those
pub keys_few : (file : List ℕ) (descriptions : ℕ) (keys : List GroupKey) (samples : List PlacedSample) → AllByRecursion (IsOfTrack descriptions keys) samples → length (keys_of (map (sample_of file) samples)) ≤ length keys
keys_few file descriptions keys samples h =
    few_with [] (flat_map (λ (s : Sample). map (λ (group : GroupKey × ℕ). group.0) s.groups) (map (sample_of file) samples)) keys tt tt
    (each_joined (λ (s : Sample). AllByRecursion (λ (group : GroupKey × ℕ). IsAmong keys group.0) s.groups) (IsAmong keys) (λ (s : Sample). map (λ (group : GroupKey × ℕ). group.0) s.groups) (λ s k. keys_among keys s.groups k) (map (sample_of file) samples)
    (each_value (IsOfTrack descriptions keys) (λ (s : Sample). AllByRecursion (λ (group : GroupKey × ℕ). IsAmong keys group.0) s.groups) (sample_of file) (λ s k. k.groups.named) samples h))

-- no values come from no members
pub nothing_mapped : {A B : Type 0} (f : A → B) (xs : List A) → map f xs ≡ [] → xs ≡ []
nothing_mapped f [] e = refl
nothing_mapped f (x ∷ xs) e = absurd (cc)

-- lists that join to nothing are empty
nothing_joined : {A : Type 0} (xs ys : List A) → xs ++ ys ≡ [] → (xs ≡ []) × (ys ≡ [])
nothing_joined [] ys e = (refl, e)
nothing_joined (x ∷ xs) ys e = absurd (cc)

-- no part has samples where there are none
none_has : (parts : List Part) → flat_map part_samples parts ≡ [] → find has_samples parts ≡ None
none_has [] e = refl
none_has (part ∷ parts) e =
    let both = nothing_joined (part_samples part) (flat_map part_samples parts) e in
    let none : has_samples part ≡ false = rw both.0 refl in
    rw none (none_has parts both.1)

-- without samples the start is 0
start_empty : (plain : List PlacedSample) (parts : List Part) → plain ≡ [] → find has_samples parts ≡ None → start_of plain parts ≡ 0
start_empty [] parts e f = rw f refl
start_empty (s ∷ plain) parts e f = refl

-- a track without samples starts at 0
pub starts_at_0 : (file : List ℕ) (plain : List PlacedSample) (parts : List Part) → map (sample_of file) (plain ++ flat_map part_samples parts) ≡ [] → start_of plain parts ≡ 0
starts_at_0 file plain parts e =
    let both = nothing_joined plain (flat_map part_samples parts) (nothing_mapped (sample_of file) (plain ++ flat_map part_samples parts) e) in
    start_empty plain parts both.0 (none_has parts both.1)
