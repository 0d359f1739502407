-- What is left of what is valid is valid, where its tracks are not too long and their offsets fit.
use Rattle.std.proofs.Common.{◌≡◌, ℕ, suc, ◌+◌, ◌-◌, ◌*◌, ◌<◌, ◌≤◌, ◌^◌, ◌%◌, min, Bool, true, false, if◌then◌else◌, List, [], ◌∷◌, ◌++◌, length, refl, sym, ap, subst, ◌∙◌, arith, length-append, ◌⊎◌, inl, inr}
use Rattle.std.specs.Prelude.{◌&&◌, not, map, filter, codes, ℤ, pos, ◌-ℤ◌, FitsSigned}
use Rattle.std.specs.List.{AllByRecursion, flat_map}
use Rattle.std.specs.Int.{div_ceil, w16, w32}
use Rattle.mp4_boxes.specs.format.Bytes.{AreBytes, sum_of}
use Rattle.mp4_boxes.specs.format.Children.{is_among}
use Rattle.mp4_boxes.specs.format.Written.{box_bytes}
use Rattle.mp4_boxes.proofs.Each.{each_from, each_value, each_weaker, each_kept}
use Rattle.mp4_tables.specs.format.Groups.{GroupKey, Groups, keys_with, is_in_order, max_keys}
use Rattle.mp4_head.specs.format.Head.{Kept, Edit, Media, TrackHead, MovieHead, IsMedia, IsTrackHead, IsMovieHead, IsEdit, IsGroupDescription}
use Rattle.mp4_head.specs.format.Tree.{are_distinct}
use Rattle.mp4_head.specs.format.Writing.{kept_bytes, edts_bytes, trak_bytes, trex_bytes, moov_bytes, head_bytes, ftyp_bytes}
use Rattle.mp4_head.proofs.HeadLengths.{length_any, length_head, length_track}
use Rattle.mp4_content.proofs.Plain.{handler_shorter, handler_room, handler_bytes, descriptions_many, descriptions_less, descriptions_good}
use Rattle.mp4_present.specs.format.Presentation.{Sample, Track, Presentation, IsGroup, IsSample, IsTrack, Valid, IsInTime, heads, keys_of, total_duration, movie_length, says_all, track_length, normal_moov_length, sample_total, max_samples, max_time}
use Rattle.mp4_content.specs.format.Reduced.{metadata_kinds, sync_flag, plain_handler, reduce_kept, is_at_end, first_offset, reduce_sample, reduce_from, reduce_samples, reduce_media, reduce_track_head, reduce_movie_head, number_head, number_track, number_tracks, reduce_track, reduce, duration_left, offset_left, start_left, timescale_left, HasNearOffsets, ReducesInRange, ReducesInTime}
use Rattle.mp4_content.specs.declared.without.Without.{Without}
use Rattle.mp4_content.specs.format.ReducedLaws.{KeepsLimits, ReducedIsValid, ReducedStaysValid}
use Rattle.mp4_content.specs.format.ReducedTimes.{ReducesInLimits}
use Rattle.mp4_content.proofs.Numbered.{each_before, ids_differ, numbered_each, numbered_sum}
use Rattle.mp4_content.proofs.ReducedSamples.{by_case, left_many, left_none, each_left, durations_stay, durations_count}

-- ---- how long the `moov` is

shorter_at : {A : Type 0} (f : A → List ℕ) (test : A → Bool) (x : A) (xs : List A) (b : Bool) → test x ≡ b → length (flat_map f (filter test xs)) ≤ length (flat_map f xs) → length (flat_map f (filter test (x ∷ xs))) ≤ length (flat_map f (x ∷ xs))
shorter_at f test x xs true e h = rw e (let a = length-append (f x) (flat_map f (filter test xs)) in let b = length-append (f x) (flat_map f xs) in omega (arith, a, b, h))
shorter_at f test x xs false e h = rw e (let b = length-append (f x) (flat_map f xs) in omega (arith, b, h))

shorter : {A : Type 0} (f : A → List ℕ) (test : A → Bool) (xs : List A) → length (flat_map f (filter test xs)) ≤ length (flat_map f xs)
shorter f test [] = omega arith
shorter f test (x ∷ xs) = shorter_at f test x xs (test x) refl (shorter f test xs)

no_longer : (n : ℕ) → n ≤ n
no_longer n = omega arith

some_length : (n : ℕ) → 0 ≤ n
some_length n = omega arith

-- `trak` and `trex`
abbrev pub both_lengths : TrackHead → ℕ
both_lengths t = length (trak_bytes t) + length (trex_bytes t)

-- each track takes some bytes
tracks_take : (tracks : List Track) → AllByRecursion (λ (t : Track). length t.head.matrix ≡ 9) tracks → length tracks ≤ sum_of both_lengths (map (λ (t : Track). t.head) tracks)
tracks_take [] h = omega arith
tracks_take (t ∷ tracks) h =
    let one = length_track t.head h.0 in
    let rest = tracks_take tracks h.1 in
    omega (arith, one, rest)

-- how long a track is, by its edits and by how long its samples are
abbrev pub length_by : ℕ → ℕ → List Edit → ℕ → ℕ
length_by timescale media edits total = if says_all edits then sum_of (λ (e : Edit). e.segment_duration) edits else div_ceil (total * timescale) media

-- a thousandth each
pub each_a_thousandth : (n : ℕ) → div_ceil (n * 1000) 1000 ≡ n
each_a_thousandth n = omega arith

module _ (l : Without) where
  pub kept_shorter : (kept : List Kept) → length (flat_map kept_bytes (reduce_kept l kept)) ≤ length (flat_map kept_bytes kept)
  kept_shorter kept = by_case (λ (ks : List Kept). length (flat_map kept_bytes ks) ≤ length (flat_map kept_bytes kept)) l.metadata (filter (λ (k : Kept). not (is_among metadata_kinds k.kind)) kept) kept
      (shorter kept_bytes (λ (k : Kept). not (is_among metadata_kinds k.kind)) kept) (no_longer (length (flat_map kept_bytes kept)))

  edits_shorter : (edits : List Edit) → length (edts_bytes (if l.edits then [] else edits)) ≤ length (edts_bytes edits)
  edits_shorter edits = by_case (λ (es : List Edit). length (edts_bytes es) ≤ length (edts_bytes edits)) l.edits [] edits (some_length (length (edts_bytes edits))) (no_longer (length (edts_bytes edits)))

  groups_shorter : (groups : List (List ℕ)) → length (flat_map (box_bytes (codes "sgpd")) (if l.groups then [] else groups)) ≤ length (flat_map (box_bytes (codes "sgpd")) groups)
  groups_shorter groups = by_case (λ (gs : List (List ℕ)). length (flat_map (box_bytes (codes "sgpd")) gs) ≤ length (flat_map (box_bytes (codes "sgpd")) groups)) l.groups [] groups
      (some_length (length (flat_map (box_bytes (codes "sgpd")) groups))) (no_longer (length (flat_map (box_bytes (codes "sgpd")) groups)))

  handler_less : (handler : List ℕ) → length (box_bytes (codes "hdlr") (if l.labels then plain_handler handler else handler)) ≤ length (box_bytes (codes "hdlr") handler)
  handler_less handler =
      let now = length_any (codes "hdlr") (if l.labels then plain_handler handler else handler) in
      let was = length_any (codes "hdlr") handler in
      let less = by_case (λ (h : List ℕ). length h ≤ length handler) l.labels (plain_handler handler) handler (handler_shorter handler) (no_longer (length handler)) in
      omega (arith, now, was, less)

  pub track_shorter : (place : ℕ) (t : TrackHead) → length t.matrix ≡ 9 → both_lengths (number_head l place (reduce_track_head l t)) ≤ both_lengths t
  track_shorter place t n =
      let a = length_track t n in
      let b = length_track (number_head l place (reduce_track_head l t)) n in
      let k = kept_shorter t.kept in
      let e = edits_shorter t.edits in
      let g = groups_shorter t.group_descriptions in
      let h = handler_less t.media.handler in
      let d = descriptions_less l t.media.handler t.media.descriptions in
      omega (arith, a, b, k, e, g, h, d)

  tracks_shorter : (place : ℕ) (tracks : List Track) → AllByRecursion (λ (t : Track). length t.head.matrix ≡ 9) tracks → sum_of both_lengths (map (λ (t : Track). t.head) (number_tracks l place (map (reduce_track l) tracks))) ≤ sum_of both_lengths (map (λ (t : Track). t.head) tracks)
  tracks_shorter place [] h = omega arith
  tracks_shorter place (t ∷ tracks) h =
      let one = track_shorter place t.head h.0 in
      let rest = tracks_shorter (suc place) tracks h.1 in
      omega (arith, one, rest)

  pub shorter_moov : (p : Presentation) → length p.movie.matrix ≡ 9 → AllByRecursion (λ (t : Track). length t.head.matrix ≡ 9) p.tracks → normal_moov_length (reduce l p) ≤ normal_moov_length p
  shorter_moov p nine each =
      let q = reduce l p in
      let a = length_head p.movie (heads p) (movie_length p) nine in
      let b = length_head (reduce_movie_head l p.movie) (heads q) (movie_length q) nine in
      let c : length (head_bytes p.movie (heads p) (movie_length p)) ≡ 24 + normal_moov_length p = length-append ftyp_bytes (moov_bytes p.movie (heads p) (movie_length p)) in
      let d : length (head_bytes (reduce_movie_head l p.movie) (heads q) (movie_length q)) ≡ 24 + normal_moov_length q = length-append ftyp_bytes (moov_bytes (reduce_movie_head l p.movie) (heads q) (movie_length q)) in
      let k = kept_shorter p.movie.kept in
      let t = tracks_shorter 1 p.tracks each in
      omega (arith, a, b, c, d, k, t)

  moov_shorter : (p : Presentation) → Valid p → normal_moov_length (reduce l p) ≤ normal_moov_length p
  moov_shorter p v = shorter_moov p v.movie.matrix.nine (each_weaker IsTrack (λ (t : Track). length t.head.matrix ≡ 9) (λ t h. h.head.matrix.nine) p.tracks v.tracks)

  -- ---- what is well formed

  kept_good : (P : Kept → Type 0) (kept : List Kept) → AllByRecursion P kept → AllByRecursion P (reduce_kept l kept)
  kept_good P kept h = by_case (AllByRecursion P) l.metadata (filter (λ (k : Kept). not (is_among metadata_kinds k.kind)) kept) kept
      (each_weaker (λ k. P k × (not (is_among metadata_kinds k.kind) ≡ true)) P (λ k both. both.0) (filter (λ (k : Kept). not (is_among metadata_kinds k.kind)) kept) (each_kept P (λ (k : Kept). not (is_among metadata_kinds k.kind)) kept h)) h

  time_good : (n : ℕ) → n < 2 ^ 64 → (if l.times then 0 else n) < 2 ^ 64
  time_good n h = by_case (λ k. k < 2 ^ 64) l.times 0 n (omega arith) h

  sync_good : (flags : ℕ) → sync_flag flags < 2 ^ 28
  sync_good flags = omega arith

  fits_0 : FitsSigned w32 (pos 0)
  fits_0 = omega arith

  scale_good : (n : ℕ) → n < 2 ^ 32 → timescale_left l n < 2 ^ 32
  scale_good n h = by_case (λ k. k < 2 ^ 32) l.timing 1000 n (omega arith) h

  pub scale_some : (n : ℕ) → 0 < n → 0 < timescale_left l n
  scale_some n h = by_case (λ k. 0 < k) l.timing 1000 n (omega arith) h

  one_small : 1 < 2 ^ 32
  one_small = omega arith

  duration_good : (count n duration : ℕ) → duration < 2 ^ 32 → duration_left l count n duration < 2 ^ 32
  duration_good count n duration h =
      let ends = l.ends && is_at_end count n in
      by_case (λ k. k < 2 ^ 32) l.timing 1 (if ends then 1 else duration) one_small (by_case (λ k. k < 2 ^ 32) ends 1 duration one_small h)

  sample_good : (descriptions count : ℕ) (first : ℤ) (n : ℕ) (s : Sample) → IsSample descriptions s → FitsSigned w32 (offset_left l first s.offset) → IsSample descriptions (reduce_sample l count first n s)
  sample_good descriptions count first n s h near = record {
    duration = duration_good count n s.duration h.duration;
    offset = near;
    flags = by_case (λ n. n < 2 ^ 28) l.flags (sync_flag s.flags) s.flags (sync_good s.flags) h.flags;
    description_from_1 = h.description_from_1;
    description = h.description;
    bytes = h.bytes;
    size = h.size;
    groups = by_case (AllByRecursion IsGroup) l.groups [] s.groups tt h.groups;
    groups_in_order = by_case (λ (g : Groups). is_in_order g ≡ true) l.groups [] s.groups refl h.groups_in_order;
  }

  samples_good : (descriptions count : ℕ) (first : ℤ) (n : ℕ) (samples : List Sample) → AllByRecursion (IsSample descriptions) samples
      → AllByRecursion (λ (s : Sample). FitsSigned w32 s.offset) (reduce_from l count first n samples) → AllByRecursion (IsSample descriptions) (reduce_from l count first n samples)
  samples_good descriptions count first n [] h near = tt
  samples_good descriptions count first n (s ∷ samples) h near = (sample_good descriptions count first n s h.0 near.0, samples_good descriptions count first (suc n) samples h.1 near.1)

  media_good : (m : Media) → IsMedia m → IsMedia (reduce_media l m)
  media_good m h = record {
    creation = time_good m.creation h.creation;
    modification = time_good m.modification h.modification;
    timescale = scale_good m.timescale h.timescale;
    timescale_not_0 = scale_some m.timescale h.timescale_not_0;
    language = h.language;
    handler = by_case AreBytes l.labels (plain_handler m.handler) m.handler (handler_bytes m.handler h.handler) h.handler;
    handler_room = by_case (λ (x : List ℕ). 24 ≤ length x) l.labels (plain_handler m.handler) m.handler (handler_room m.handler h.handler_room) h.handler_room;
    extended_languages = h.extended_languages;
    header = h.header;
    header_bytes = h.header_bytes;
    descriptions = descriptions_good l m.handler m.descriptions h.descriptions;
  }

  track_head_good : (t : TrackHead) → IsTrackHead t → IsTrackHead (reduce_track_head l t)
  track_head_good t h = record {
    flags = by_case (λ (n : ℕ). n < 2 ^ 24) l.roles (t.flags % 2) t.flags (omega arith) h.flags;
    creation = time_good t.creation h.creation;
    modification = time_good t.modification h.modification;
    id = h.id;
    id_not_0 = h.id_not_0;
    layer = by_case (FitsSigned w16) l.roles (pos 0) t.layer (omega arith) h.layer;
    alternate_group = by_case (FitsSigned w16) l.roles (pos 0) t.alternate_group (omega arith) h.alternate_group;
    volume = h.volume;
    matrix = h.matrix;
    width = h.width;
    height = h.height;
    edits = by_case (AllByRecursion IsEdit) l.edits [] t.edits tt h.edits;
    kept = kept_good _ t.kept h.kept;
    media = media_good t.media h.media;
    group_descriptions = by_case (AllByRecursion IsGroupDescription) l.groups [] t.group_descriptions tt h.group_descriptions;
  }

  pub movie_head_good : (m : MovieHead) → IsMovieHead m → IsMovieHead (reduce_movie_head l m)
  movie_head_good m h = record {
    creation = time_good m.creation h.creation;
    modification = time_good m.modification h.modification;
    timescale = scale_good m.timescale h.timescale;
    timescale_not_0 = scale_some m.timescale h.timescale_not_0;
    rate = h.rate;
    volume = h.volume;
    matrix = h.matrix;
    kept = kept_good _ m.kept h.kept;
  }

  -- ---- keys

  abbrev keys_named : Bool → List Sample → List GroupKey
  keys_named b samples = flat_map (λ (s : Sample). map (λ (group : GroupKey × ℕ). group.0) (if b then [] else s.groups)) samples

  named_same : (count : ℕ) (first : ℤ) (n : ℕ) (samples : List Sample) → flat_map (λ (s : Sample). map (λ (group : GroupKey × ℕ). group.0) s.groups) (reduce_from l count first n samples) ≡ keys_named l.groups samples
  named_same count first n [] = refl
  named_same count first n (s ∷ samples) = ap (λ keys. map (λ (group : GroupKey × ℕ). group.0) (if l.groups then [] else s.groups) ++ keys) (named_same count first (suc n) samples)

  none_named : (samples : List Sample) → keys_named true samples ≡ []
  none_named [] = refl
  none_named (s ∷ samples) = none_named samples

  few_named : (b : Bool) (samples : List Sample) → length (keys_of samples) ≤ max_keys → length (keys_with [] (keys_named b samples)) ≤ max_keys
  few_named true samples h = subst (λ (keys : List GroupKey). length (keys_with [] keys) ≤ max_keys) (sym (none_named samples)) (omega arith)
  few_named false samples h = h

  keys_good : (samples : List Sample) → length (keys_of samples) ≤ max_keys → length (keys_of (reduce_samples l samples)) ≤ max_keys
  keys_good samples h = subst (λ (keys : List GroupKey). length (keys_with [] keys) ≤ max_keys) (sym (named_same (length samples) (first_offset samples) 0 samples)) (few_named l.groups samples h)

  start_none : (start : ℕ) → start ≡ 0 → start_left l start ≡ 0
  start_none start e = by_case (λ n. n ≡ 0) l.timing 0 (if l.origins then 0 else start) refl (by_case (λ n. n ≡ 0) l.origins 0 start refl e)

  pub track_good : (t : Track) → IsTrack t → HasNearOffsets (reduce_track l t) → IsTrack (reduce_track l t)
  track_good t h near = record {
    head = track_head_good t.head h.head;
    samples = subst (λ n. AllByRecursion (IsSample n) (reduce_samples l t.samples)) (sym (descriptions_many l t.head.media.handler t.head.media.descriptions))
        (samples_good (length t.head.media.descriptions) (length t.samples) (first_offset t.samples) 0 t.samples h.samples near);
    keys = keys_good t.samples h.keys;
    empty = λ e. start_none t.start (h.empty (left_none l (length t.samples) (first_offset t.samples) 0 t.samples e));
  }

  tracks_good : (tracks : List Track) → AllByRecursion IsTrack tracks → AllByRecursion (λ (t : Track). HasNearOffsets (reduce_track l t)) tracks → AllByRecursion IsTrack (map (reduce_track l) tracks)
  tracks_good [] h near = tt
  tracks_good (t ∷ tracks) h near = (track_good t h.0 near.0, tracks_good tracks h.1 near.1)

  -- ---- the whole

  pub number_good : (place : ℕ) (t : Track) → 0 < place → IsTrack t → IsTrack (number_track l place t)
  number_good place t some h = record {
    head = record {
      flags = h.head.flags;
      creation = h.head.creation;
      modification = h.head.modification;
      id = by_case (λ (n : ℕ). n < 2 ^ 32) l.ids (min place (2 ^ 32 - 1)) t.head.id (omega arith) h.head.id;
      id_not_0 = by_case (λ (n : ℕ). 0 < n) l.ids (min place (2 ^ 32 - 1)) t.head.id (omega (arith, some)) h.head.id_not_0;
      layer = h.head.layer;
      alternate_group = h.head.alternate_group;
      volume = h.head.volume;
      matrix = h.head.matrix;
      width = h.head.width;
      height = h.head.height;
      edits = h.head.edits;
      kept = h.head.kept;
      media = h.head.media;
      group_descriptions = h.head.group_descriptions;
    };
    samples = h.samples;
    keys = h.keys;
    empty = h.empty;
  }

  abbrev left_tracks : List Track → ℕ
  left_tracks tracks = length (map (reduce_track l) tracks)

  as_many : (tracks : List Track) → left_tracks tracks ≡ length tracks
  as_many [] = refl
  as_many (t ∷ tracks) = ap suc (as_many tracks)

  -- a `moov` that is not too long has fewer tracks than there are IDs
  few_tracks : (p : Presentation) → Valid p → 1 + left_tracks p.tracks ≤ 2 ^ 32
  few_tracks p v =
      let nine = v.movie.matrix.nine in
      let long = length_head p.movie (heads p) (movie_length p) nine in
      let front : length (head_bytes p.movie (heads p) (movie_length p)) ≡ 24 + normal_moov_length p = length-append ftyp_bytes (moov_bytes p.movie (heads p) (movie_length p)) in
      let take = tracks_take p.tracks (each_weaker IsTrack (λ (t : Track). length t.head.matrix ≡ 9) (λ t h. h.head.matrix.nine) p.tracks v.tracks) in
      let most = v.limits.moov in
      let same = as_many p.tracks in
      omega (arith, long, front, take, most, same)

  ids_same : (tracks : List Track) → map (λ (h : TrackHead). h.id) (map (λ (t : Track). t.head) (map (reduce_track l) tracks)) ≡ map (λ (h : TrackHead). h.id) (map (λ (t : Track). t.head) tracks)
  ids_same [] = refl
  ids_same (t ∷ tracks) = ap (λ ids. t.head.id ∷ ids) (ids_same tracks)

  totals_same : (tracks : List Track) → sum_of (λ (t : Track). length t.samples) (map (reduce_track l) tracks) ≡ sum_of (λ (t : Track). length t.samples) tracks
  totals_same [] = refl
  totals_same (t ∷ tracks) =
      let one = left_many l (length t.samples) (first_offset t.samples) 0 t.samples in
      let rest = totals_same tracks in
      omega (arith, one, rest)

  all_from : (P : Track → Type 0) (tracks : List Track) → AllByRecursion P (map (reduce_track l) tracks) → AllByRecursion (λ (t : Track). P (reduce_track l t)) tracks
  all_from P [] h = tt
  all_from P (t ∷ tracks) h = (h.0, all_from P tracks h.1)

  valid_from : (p : Presentation) → Valid p → ReducesInLimits l p → Valid (reduce l p)
  valid_from p v limits = record {
    movie = movie_head_good p.movie v.movie;
    tracks = numbered_each l IsTrack IsTrack number_good 1 (map (reduce_track l) p.tracks) (omega arith) (tracks_good p.tracks v.tracks limits.in_range);
    ids = ids_differ l 1 (map (reduce_track l) p.tracks) (few_tracks p v) (ap are_distinct (ids_same p.tracks) ∙ v.ids);
    limits = record {
      samples = let same = numbered_sum l (λ (t : Track). length t.samples) (λ place t. refl) 1 (map (reduce_track l) p.tracks) ∙ totals_same p.tracks in let few = v.limits.samples in omega (arith, same, few);
      times =
          let in_time = IsInTime (timescale_left l p.movie.timescale) in
          numbered_each l in_time in_time (λ place t some h. h) 1 (map (reduce_track l) p.tracks) (omega arith) (each_value (λ (t : Track). in_time (reduce_track l t)) in_time (reduce_track l) (λ t h. h) p.tracks limits.in_time);
      moov = let less = moov_shorter p v in let few = v.limits.moov in omega (arith, less, few);
    };
  }

  -- the offsets of a valid track fit
  pub near_of : (t : Track) → IsTrack t → HasNearOffsets t
  near_of t h = each_weaker (IsSample (length t.head.media.descriptions)) (λ (s : Sample). FitsSigned w32 s.offset) (λ s g. g.offset) t.samples h.samples

  pub valid_to : (p : Presentation) → Valid (reduce l p) → ReducesInLimits l p
  valid_to p v =
      let in_time = IsInTime (timescale_left l p.movie.timescale) in
      let tracks = map (reduce_track l) p.tracks in
      record {
        in_time = all_from in_time p.tracks (each_before l in_time in_time (λ place t h. h) 1 tracks v.limits.times);
        in_range = all_from HasNearOffsets p.tracks (each_before l IsTrack HasNearOffsets (λ place t h. near_of (number_track l place t) h) 1 tracks v.tracks);
      }

  -- ---- where origins stay, or timing doesn't count

  offset_near : (l.origins ≡ false) ⊎ (l.timing ≡ true) → (first offset : ℤ) → FitsSigned w32 offset → FitsSigned w32 (offset_left l first offset)
  offset_near either first offset h = by l.timing l.origins either
    where
      by : (a b : Bool) → (b ≡ false) ⊎ (a ≡ true) → FitsSigned w32 (if a then pos 0 else if b then offset -ℤ first else offset)
      by true b e = fits_0
      by false true (inl e) = absurd cc
      by false true (inr e) = absurd cc
      by false false e = h

  -- offsets that fit stay so
  pub near_left : (l.origins ≡ false) ⊎ (l.timing ≡ true) → (t : Track) → HasNearOffsets t → HasNearOffsets (reduce_track l t)
  near_left either t h =
      each_left l (length t.samples) (first_offset t.samples) (λ (s : Sample). FitsSigned w32 s.offset) (λ (s : Sample). FitsSigned w32 s.offset) (λ n s g. offset_near either (first_offset t.samples) s.offset g) 0 t.samples h

  pub near_stays : (l.origins ≡ false) ⊎ (l.timing ≡ true) → (t : Track) → IsTrack t → HasNearOffsets (reduce_track l t)
  near_stays either t h = near_left either t (near_of t h)

  pub all_near : (p : Presentation) → (l.origins ≡ false) ⊎ (l.timing ≡ true) → AllByRecursion IsTrack p.tracks → ReducesInRange l p
  all_near p either tracks = each_weaker IsTrack (λ (t : Track). HasNearOffsets (reduce_track l t)) (near_stays either) p.tracks tracks

  -- ---- where edits and ends stay

  pub durations_same : l.timing ≡ false → l.ends ≡ false → (samples : List Sample) → total_duration (reduce_samples l samples) ≡ total_duration samples
  durations_same counts ends samples = durations_stay l (length samples) (first_offset samples) counts ends 0 samples

  pub scale_stays : l.timing ≡ false → (timescale : ℕ) → timescale_left l timescale ≡ timescale
  scale_stays e timescale = ap (λ (b : Bool). if b then 1000 else timescale) e

  -- it is no larger
  pub start_less : (start : ℕ) → start_left l start ≤ start
  start_less start = by_case (λ n. n ≤ start) l.timing 0 (if l.origins then 0 else start) (some_length start) (by_case (λ n. n ≤ start) l.origins 0 start (some_length start) (no_longer start))

  pub same_track_length : (timescale : ℕ) (t : Track) → l.edits ≡ false → l.timing ≡ false → l.ends ≡ false → track_length (timescale_left l timescale) (reduce_track l t) ≡ track_length timescale t
  same_track_length timescale t stay counts ends =
      let same : (if l.edits then [] else t.head.edits) ≡ t.head.edits = ap (λ (b : Bool). if b then [] else t.head.edits) stay in
      let n = durations_same counts ends t.samples in
      λ i. length_by (scale_stays counts timescale i) (scale_stays counts t.head.media.timescale i) (same i) (n i)

  -- a track that begins earlier ends earlier
  pub in_time_stays : (timescale : ℕ) (t : Track) → l.edits ≡ false → l.timing ≡ false → l.ends ≡ false → IsInTime timescale t → IsInTime (timescale_left l timescale) (reduce_track l t)
  in_time_stays timescale t stay counts ends h =
      let n = durations_same counts ends t.samples in
      let start = start_less t.start in
      let within = h.0 in
      (omega (arith, n, start, within), subst (λ n. n ≤ max_time) (sym (same_track_length timescale t stay counts ends)) h.1)

  -- ---- where timing doesn't count

  pub durations_counted : (samples : List Sample) → l.timing ≡ true → total_duration (reduce_samples l samples) ≡ length samples
  durations_counted samples e = durations_count l (length samples) (first_offset samples) e 0 samples

  -- a track is as long as its edits say, where they stay and say it; else by the number of its samples
  abbrev pub counted_length : List Edit → ℕ → ℕ
  counted_length edits samples = if says_all (if l.edits then [] else edits) then sum_of (λ (e : Edit). e.segment_duration) (if l.edits then [] else edits) else samples

  pub counted_track_length : (timescale : ℕ) (t : Track) → l.timing ≡ true → track_length (timescale_left l timescale) (reduce_track l t) ≡ counted_length t.head.edits (length t.samples)
  counted_track_length timescale t e =
      let edits = if l.edits then [] else t.head.edits in
      let scale : (n : ℕ) → timescale_left l n ≡ 1000 = λ n. ap (λ (b : Bool). if b then 1000 else n) e in
      (λ i. length_by (scale timescale i) (scale t.head.media.timescale i) edits (durations_counted t.samples e i))
      ∙ ap (λ n. if says_all edits then sum_of (λ (e : Edit). e.segment_duration) edits else n) (each_a_thousandth (length t.samples))

  short_by : (all : Bool) (edits samples most : ℕ) → (all ≡ true → edits ≤ most) → samples ≤ most → (if all then edits else samples) ≤ most
  short_by true edits samples most h k = h refl
  short_by false edits samples most h k = k

  by_edits : (all : Bool) (edits samples most : ℕ) → (if all then edits else samples) ≤ most → all ≡ true → edits ≤ most
  by_edits true edits samples most h e = h
  by_edits false edits samples most h e = absurd cc

  counted_short : (b : Bool) (edits : List Edit) (timescale media total samples : ℕ) → length_by timescale media edits total ≤ max_time → samples ≤ max_time
      → (let es = if b then [] else edits in (if says_all es then sum_of (λ (e : Edit). e.segment_duration) es else samples) ≤ max_time)
  counted_short true edits timescale media total samples h few = few
  counted_short false edits timescale media total samples h few = short_by (says_all edits) (sum_of (λ (e : Edit). e.segment_duration) edits) samples max_time (by_edits (says_all edits) (sum_of (λ (e : Edit). e.segment_duration) edits) (div_ceil (total * timescale) media) max_time h) few

  pub in_time_counted : (timescale : ℕ) (t : Track) → l.timing ≡ true → length t.samples ≤ 2 ^ 24 → IsInTime timescale t → IsInTime (timescale_left l timescale) (reduce_track l t)
  in_time_counted timescale t e few h =
      let start : start_left l t.start ≡ 0 = ap (λ (b : Bool). if b then 0 else if l.origins then 0 else t.start) e in
      let n = durations_counted t.samples e in (
        omega (arith, start, n, few),
        subst (λ n. n ≤ max_time) (sym (counted_track_length timescale t e)) (counted_short l.edits t.head.edits timescale t.head.media.timescale (total_duration t.samples) (length t.samples) h.1 (omega (arith, few))),
      )

  -- each track has no more samples than all
  pub each_few : (tracks : List Track) (most : ℕ) → sum_of (λ (t : Track). length t.samples) tracks ≤ most → AllByRecursion (λ (t : Track). length t.samples ≤ most) tracks
  each_few [] most h = tt
  each_few (t ∷ tracks) most h = (omega (arith, h), each_few tracks most (omega (arith, h)))

  pub all_counted : (p : Presentation) → l.timing ≡ true → sample_total p ≤ max_samples → AllByRecursion (IsInTime p.movie.timescale) p.tracks → ReducesInTime l p
  all_counted p e few times =
      each_from (λ (t : Track). length t.samples ≤ max_samples) (IsInTime p.movie.timescale) (λ (t : Track). IsInTime (timescale_left l p.movie.timescale) (reduce_track l t))
      (λ t less h. in_time_counted p.movie.timescale t e less h) p.tracks (each_few p.tracks max_samples few) times

pub reduced_is_valid : ReducedIsValid
reduced_is_valid l p v = (valid_to l p, valid_from l p v)

pub reduced_stays_valid : ReducedStaysValid
reduced_stays_valid l p v stay = let within : ReducesInLimits l p = by l.timing refl stay in (within, valid_from l p v within)
  where
    by : (b : Bool) → l.timing ≡ b → KeepsLimits l ⊎ (l.timing ≡ true) → ReducesInLimits l p
    by true e either = record { in_time = all_counted l p e v.limits.samples v.limits.times; in_range = all_near l p (inr e) v.tracks }
    by false e (inl keeps) = record {
      in_time = each_weaker (IsInTime p.movie.timescale) (λ (t : Track). IsInTime (timescale_left l p.movie.timescale) (reduce_track l t)) (λ t h. in_time_stays l p.movie.timescale t keeps.0 e keeps.1 h) p.tracks v.limits.times;
      in_range = all_near l p (inl keeps.2) v.tracks;
    }
    by false e (inr none) = absurd cc
