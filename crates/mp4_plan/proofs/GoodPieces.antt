-- The pieces of a valid presentation can be written.
use Rattle.std.proofs.Common.{◌≡◌, ℕ, ◌+◌, ◌^◌, ◌<◌, ◌≤◌, true, List, [], ◌∷◌, length, sym, ap, subst, arith}
use Rattle.std.specs.Prelude.{map, flat_map, ◌==◌, unwrap_or, option_map, find, Some}
use Rattle.std.specs.List.{AllByRecursion}
use Rattle.std.proofs.lemmas.List.{length-map}
use Rattle.mp4_boxes.proofs.Among.{all_append}
use Rattle.mp4_boxes.proofs.Each.{each_from, each_weaker as all_weaker}
use Rattle.mp4_boxes.proofs.Joined.{all_first, all_last}
use Rattle.mp4_tables.specs.format.Groups.{GroupKey}
use Rattle.mp4_tables.proofs.NamedKeys.{IsAmong, each_named, no_more}
use Rattle.mp4_head.specs.format.Head.{TrackHead, IsTrackHead}
use Rattle.mp4_head.specs.format.Tree.{are_distinct}
use Rattle.mp4_head.proofs.Signed.{signed_fits}
use Rattle.mp4_head.proofs.WrittenContents.{content_of, contents_of, kept_written, count_within, trak_payload}
use Rattle.mp4_head.proofs.WrittenTrack.{has_inner}
use Rattle.mp4_head.proofs.WrittenMovie.{traks_small}
use Rattle.mp4_present.specs.format.Presentation.{Sample, Track, Presentation, heads, movie_length, IsSample, IsTrack, Valid, IsInTime, end_time, keys_of, max_time}
use Rattle.mp4_content.specs.format.TimedSamples.{TimedSample, timed}
use Rattle.mp4_plan.specs.format.Pieces.{Piece, pieces}
use Rattle.mp4_plan.specs.format.Normal.{first_time, first_description, piece_keys}
use Rattle.mp4_plan.specs.format.PieceLaws.{IsOnePiece}
use Rattle.mp4_plan.proofs.Filters.{all_from_splits, found_by_id}
use Rattle.mp4_plan.proofs.PieceLists.{pieces_one, ids_apart}
use Rattle.mp4_plan.proofs.PieceFacts.{all_timed, ids_in_pieces, samples_in_pieces, pieces_within, pieces_in_time}
use Rattle.mp4_plan.proofs.KeyOrder.{order_each, order_rises, rising_once}
use Rattle.mp4_plan.proofs.RunRows.{FitsRow}
use Rattle.mp4_plan.proofs.WrittenFragment.{HasGroups, keys_in}
use Rattle.mp4_plan.proofs.PieceSays.{HasFlags}
use Rattle.mp4_plan.proofs.PieceBoxes.{IsGood}
use Rattle.mp4_plan.proofs.NormalTree.{head_writable}

-- ---- tracks by their IDs

-- where IDs are distinct, each track is found by its own
pub tracks_found : (tracks : List Track) → are_distinct (map (λ (h : TrackHead). h.id) (map (λ (t : Track). t.head) tracks)) ≡ true
    → AllByRecursion (λ (t : Track). find (λ (u : Track). u.head.id == t.head.id) tracks ≡ Some t) tracks
tracks_found tracks distinct =
    all_from_splits (λ (t : Track). find (λ (u : Track). u.head.id == t.head.id) tracks ≡ Some t) tracks
    (λ before after t e.
    subst (λ (l : List Track). find (λ (u : Track). u.head.id == t.head.id) l ≡ Some t) (sym e)
    (found_by_id (λ (u : Track). u.head.id) before after t (ids_apart before after t (subst (λ (l : List Track). are_distinct (map (λ (h : TrackHead). h.id) (map (λ (u : Track). u.head) l)) ≡ true) e distinct)).0))

-- the keys of the track with an ID
abbrev pub named_by : List Track → ℕ → List GroupKey
named_by tracks id = unwrap_or (option_map (λ (t : Track). keys_of t.samples) (find (λ (u : Track). u.head.id == id) tracks)) []

-- each key of the sample is one of these
abbrev pub NamesAmong : List GroupKey → Sample → Type 0
NamesAmong keys s = AllByRecursion (IsAmong keys) (map (λ (group : GroupKey × ℕ). group.0) s.groups)

-- where keys are among some, each sample names some of those
names_from : (keys : List GroupKey) (samples : List Sample) → AllByRecursion (IsAmong keys) (flat_map (λ (s : Sample). map (λ (group : GroupKey × ℕ). group.0) s.groups) samples) → AllByRecursion (NamesAmong keys) samples
names_from keys [] h = tt
names_from keys (s ∷ samples) h =
    let own = map (λ (group : GroupKey × ℕ). group.0) s.groups in
    let others = flat_map (λ (s : Sample). map (λ (group : GroupKey × ℕ). group.0) s.groups) samples in
    (all_first (IsAmong keys) own others h, names_from keys samples (all_last (IsAmong keys) own others h))

-- the samples of a track name its keys
pub track_names : (t : Track) → AllByRecursion (NamesAmong (keys_of t.samples)) t.samples
track_names t = names_from (keys_of t.samples) t.samples (each_named [] (flat_map (λ (s : Sample). map (λ (group : GroupKey × ℕ). group.0) s.groups) t.samples))

-- the other way round
names_joined : (keys : List GroupKey) (samples : List TimedSample) → AllByRecursion (λ (s : TimedSample). NamesAmong keys s.sample) samples → AllByRecursion (IsAmong keys) (keys_in samples)
names_joined keys [] h = tt
names_joined keys (s ∷ samples) h = all_append (IsAmong keys) (map (λ (group : GroupKey × ℕ). group.0) s.sample.groups) (keys_in samples) h.0 (names_joined keys samples h.1)

-- The keys of samples that name some keys are among those.
pub keys_named : (keys : List GroupKey) (samples : List TimedSample) → AllByRecursion (λ (s : TimedSample). NamesAmong keys s.sample) samples → AllByRecursion (IsAmong keys) (piece_keys samples)
keys_named keys samples h = order_each (IsAmong keys) (keys_in samples) (names_joined keys samples h)

-- They are no more than those.
pub few_keys_named : (keys : List GroupKey) (samples : List TimedSample) → AllByRecursion (λ (s : TimedSample). NamesAmong keys s.sample) samples → length (piece_keys samples) ≤ length keys
few_keys_named keys samples h = no_more (piece_keys samples) keys (rising_once (piece_keys samples) (order_rises (keys_in samples))) (keys_named keys samples h)

-- ---- samples

-- what a sample has that can be written
pub record IsWritableSample (named : List GroupKey) (s : TimedSample) : Type 0 where
  pub row : FitsRow s
  pub flags : HasFlags s
  pub description : s.sample.description < 256 ^ 4
  pub groups : HasGroups s
  pub names : NamesAmong named s.sample
  pub few : length named ≤ 4

-- a valid sample can be written
sample_writable : (descriptions : ℕ) (named : List GroupKey) (s : TimedSample) → descriptions ≤ 2 ^ 30 → length named ≤ 4 → IsSample descriptions s.sample → NamesAmong named s.sample → IsWritableSample named s
sample_writable descriptions named s le few h n =
    let flags = h.flags in
    let description = h.description in
    record {
      row = record { duration = h.duration; size = h.size; flags = omega arith; unsigned_offset = signed_fits s.sample.offset h.offset; offset = h.offset };
      flags = h.flags;
      description = omega arith;
      groups = record { each = h.groups; order = h.groups_in_order };
      names = n;
      few = few;
    }

-- the first description fits
first_written_description : (samples : List TimedSample) → AllByRecursion (λ (s : TimedSample). s.sample.description < 256 ^ 4) samples → first_description samples < 256 ^ 4
first_written_description [] h = omega arith
first_written_description (s ∷ samples) h = h.0

-- the first time fits
first_written_time : (samples : List TimedSample) → AllByRecursion (λ (s : TimedSample). s.time + s.sample.duration ≤ max_time) samples → first_time samples < 256 ^ 8
first_written_time [] h = omega arith
first_written_time (s ∷ samples) h = let l = h.0 in omega arith

-- a piece has few keys
few_in_piece : (named : List GroupKey) (samples : List TimedSample) → AllByRecursion (IsWritableSample named) samples → length (piece_keys samples) ≤ 4
few_in_piece named [] h = omega arith
few_in_piece named (s ∷ samples) h =
    let few = h.0.few in
    let names = few_keys_named named (s ∷ samples) (all_weaker (IsWritableSample named) (λ (x : TimedSample). NamesAmong named x.sample) (λ x y. y.names) (s ∷ samples) h) in
    omega arith

-- a piece of such samples can be written
piece_good : (named : List GroupKey) (piece : Piece) → piece.id < 2 ^ 32 → length piece.samples ≤ 2 ^ 24 → AllByRecursion (IsWritableSample named) piece.samples
    → AllByRecursion (λ (s : TimedSample). s.time + s.sample.duration ≤ max_time) piece.samples → IsOnePiece piece.samples → IsGood piece
piece_good named piece id few samples times one = record {
  writable = record {
    id = id;
    few = few;
    rows = all_weaker (IsWritableSample named) FitsRow (λ x y. y.row) piece.samples samples;
    description = first_written_description piece.samples (all_weaker (IsWritableSample named) (λ (s : TimedSample). s.sample.description < 256 ^ 4) (λ x y. y.description) piece.samples samples);
    time = first_written_time piece.samples times;
    groups = all_weaker (IsWritableSample named) HasGroups (λ x y. y.groups) piece.samples samples;
    keys = few_in_piece named piece.samples samples;
  };
  flags = all_weaker (IsWritableSample named) HasFlags (λ x y. y.flags) piece.samples samples;
  one = one;
}

-- ---- pieces

-- a track that is not too long has not too many descriptions
few_descriptions : (at : ℕ) (t : TrackHead) → IsTrackHead t → length (trak_payload t) ≤ 2 ^ 30 → length t.media.descriptions ≤ 2 ^ 30
few_descriptions at t h le =
    let small = (has_inner at t h le).stsd_small in
    let many = count_within (contents_of t.media.descriptions) in
    let same = length-map t.media.descriptions content_of in
    let bytes = ap (λ (l : List ℕ). length l) (kept_written t.media.descriptions) in
    omega arith

-- each track has no more descriptions than a `moov` has bytes
tracks_few : (tracks : List Track) → AllByRecursion IsTrackHead (map (λ (t : Track). t.head) tracks) → AllByRecursion (λ (h : TrackHead). length (trak_payload h) ≤ 2 ^ 30) (map (λ (t : Track). t.head) tracks)
    → AllByRecursion (λ (t : Track). length t.head.media.descriptions ≤ 2 ^ 30) tracks
tracks_few [] h le = tt
tracks_few (t ∷ tracks) h le = (few_descriptions 0 t.head h.0 le.0, tracks_few tracks h.1 le.1)

-- what a track has whose samples can be written
pub record CanWrite (tracks : List Track) (t : Track) : Type 0 where
  pub valid : IsTrack t
  pub found : find (λ (u : Track). u.head.id == t.head.id) tracks ≡ Some t
  pub few : length t.head.media.descriptions ≤ 2 ^ 30

-- the tracks of a list
can_write : (tracks list : List Track) → AllByRecursion IsTrack list → AllByRecursion (λ (t : Track). find (λ (u : Track). u.head.id == t.head.id) tracks ≡ Some t) list
    → AllByRecursion (λ (t : Track). length t.head.media.descriptions ≤ 2 ^ 30) list → AllByRecursion (CanWrite tracks) list
can_write tracks [] h f l = tt
can_write tracks (t ∷ list) h f l = (record { valid = h.0; found = f.0; few = l.0 }, can_write tracks list h.1 f.1 l.1)

-- the samples of a track can be written
track_writable : (tracks : List Track) (t : Track) → CanWrite tracks t → AllByRecursion (IsWritableSample (named_by tracks t.head.id)) (timed t)
track_writable tracks t c =
    let keys : named_by tracks t.head.id ≡ keys_of t.samples = ap (λ o. unwrap_or (option_map (λ (u : Track). keys_of u.samples) o) []) c.found in
    let few : length (named_by tracks t.head.id) ≤ 4 = subst (λ (l : List GroupKey). length l ≤ 4) (sym keys) c.valid.keys in
    let names = subst (λ (l : List GroupKey). AllByRecursion (NamesAmong l) t.samples) (sym keys) (track_names t) in
    let n = length t.head.media.descriptions in
    let both = each_from (IsSample n) (NamesAmong (named_by tracks t.head.id)) (λ (s : Sample). IsSample n s × NamesAmong (named_by tracks t.head.id) s) (λ s a b. (a, b)) t.samples c.valid.samples names in
    all_weaker (λ (s : TimedSample). IsSample n s.sample × NamesAmong (named_by tracks t.head.id) s.sample) (IsWritableSample (named_by tracks t.head.id))
    (λ s h. sample_writable n (named_by tracks t.head.id) s c.few few h.0 h.1) (timed t) (all_timed (λ (s : Sample). IsSample n s × NamesAmong (named_by tracks t.head.id) s) 1 t.start t.samples both)

-- The tracks of what is valid can be written.
pub valid_tracks : (p : Presentation) → Valid p → AllByRecursion (CanWrite p.tracks) p.tracks
valid_tracks p v =
    let w = head_writable p v in
    can_write p.tracks p.tracks v.tracks (tracks_found p.tracks v.ids) (tracks_few p.tracks w.are_tracks (traks_small p.movie (heads p) (movie_length p) w))

-- Each sample of each piece names keys of its track, and can be written.
pub samples_good : (p : Presentation) → Valid p → AllByRecursion (λ (piece : Piece). AllByRecursion (IsWritableSample (named_by p.tracks piece.id)) piece.samples) (pieces p)
samples_good p v = samples_in_pieces (λ id s. IsWritableSample (named_by p.tracks id) s) p
    (all_weaker (CanWrite p.tracks) (λ (t : Track). AllByRecursion (IsWritableSample (named_by p.tracks t.head.id)) (timed t)) (λ t c. track_writable p.tracks t c) p.tracks (valid_tracks p v))

-- each of a list of pieces
each_good : (p : Presentation) (list : List Piece) → AllByRecursion (λ (piece : Piece). piece.id < 2 ^ 32) list → AllByRecursion (λ (piece : Piece). length piece.samples ≤ 2 ^ 24) list
    → AllByRecursion (λ (piece : Piece). AllByRecursion (IsWritableSample (named_by p.tracks piece.id)) piece.samples) list
    → AllByRecursion (λ (piece : Piece). AllByRecursion (λ (s : TimedSample). s.time + s.sample.duration ≤ max_time) piece.samples) list
    → AllByRecursion (λ (piece : Piece). IsOnePiece piece.samples) list → AllByRecursion IsGood list
each_good p [] a b c d e = tt
each_good p (piece ∷ list) a b c d e = (piece_good (named_by p.tracks piece.id) piece a.0 b.0 c.0 d.0 e.0, each_good p list a.1 b.1 c.1 d.1 e.1)

-- The pieces of what is valid can be written.
pub pieces_good : (p : Presentation) → Valid p → AllByRecursion IsGood (pieces p)
pieces_good p v =
    each_good p (pieces p)
    (ids_in_pieces (λ id. id < 2 ^ 32) p (all_weaker IsTrack (λ (t : Track). t.head.id < 2 ^ 32) (λ t h. h.head.id) p.tracks v.tracks))
    (pieces_within p (2 ^ 24) v.limits.samples)
    (samples_good p v)
    (pieces_in_time p max_time (all_weaker (IsInTime p.movie.timescale) (λ (t : Track). end_time t ≤ max_time) (λ t h. h.0) p.tracks v.limits.times))
    (pieces_one p)
