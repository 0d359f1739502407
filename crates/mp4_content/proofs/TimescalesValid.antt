-- In lowest terms what is valid is valid, where its tracks are not too long and their offsets fit.
use Rattle.std.proofs.Common.{◌≡◌, ℕ, suc, ◌+◌, ◌*◌, ◌<◌, ◌≤◌, ◌^◌, Bool, true, false, if◌then◌else◌, List, [], ◌∷◌, ◌++◌, length, map, refl, sym, ap, subst, ◌∙◌, arith, length-append, div-le_self, ◌⊎◌, inl, inr, ℤ, pos, negsuc, FitsSigned}
use Rattle.std.specs.Prelude.{◌&&◌, flat_map}
use Rattle.std.specs.List.{AllByRecursion}
use Rattle.std.specs.Int.{◌∣◌, w32, w64}
use Rattle.std.proofs.lemmas.Int.{ints}
use Rattle.std.proofs.lemmas.List.{nil_from_length}
use Rattle.std.proofs.Math.Nat.{zero-div}
use Rattle.mp4_boxes.specs.format.Bytes.{sum_of}
use Rattle.mp4_boxes.proofs.Each.{each_value, each_weaker}
use Rattle.mp4_boxes.proofs.Plain.{length_mapped}
use Rattle.mp4_tables.specs.format.Groups.{GroupKey, keys_with, max_keys}
use Rattle.mp4_head.specs.format.Head.{Edit, MovieHead, IsEdit, IsMovieHead, IsTrackHead}
use Rattle.mp4_head.specs.format.Tree.{are_distinct}
use Rattle.mp4_head.specs.format.Writing.{edts_bytes, moov_bytes, head_bytes, ftyp_bytes}
use Rattle.mp4_head.proofs.HeadLengths.{length_edits, length_head, length_track}
use Rattle.mp4_present.specs.format.Presentation.{Sample, Track, Presentation, IsSample, IsTrack, Valid, IsInTime, heads, movie_length, normal_moov_length}
use Rattle.mp4_content.specs.format.Reduced.{is_at_end, start_left, first_offset, duration_left, offset_left, timescale_left, id_left, reduce_sample, reduce_from, reduce_samples, reduce_track, reduce_movie_head, number_track, number_tracks, reduce, HasNearOffsets}
use Rattle.mp4_content.specs.declared.without.Without.{Without}
use Rattle.mp4_content.specs.format.ReducedLaws.{KeepsLimits}
use Rattle.mp4_content.specs.format.ReducedTimes.{ReducesInLimits}
use Rattle.mp4_content.specs.format.Timescales.{counted_timescale, track_times, movie_times, sized, timescale_by, sample_by, samples_by, media_time_by, edit_by, track_by, divided, divisor_of, lowest_track, lowest, scaled}
use Rattle.mp4_content.specs.format.Remaining.{remaining_movie}
use Rattle.mp4_content.specs.format.TimescalesLaws.{ScaledInLimits, ScaledIsValid, ScaledStaysValid}
use Rattle.mp4_content.proofs.Numbered.{each_before, ids_of, numbered_each}
use Rattle.mp4_content.proofs.ReducedSamples.{by_case, left_many}
use Rattle.mp4_content.proofs.ReducedValid.{both_lengths, near_of, reduced_is_valid, reduced_stays_valid, shorter_moov}
use Rattle.mp4_content.proofs.TimescalesDivisors.{Divides, divisor_divides}
use Rattle.mp4_content.proofs.TimescalesChanged.{many_stay}
use Rattle.mp4_content.proofs.TimescalesLengths.{some_divided, duration_less, lowest_in_time, near_tracks}

-- what is so of the values of all is so of the value of each
pub each_unmapped : {A B : Type 0} (f : A → B) (P : B → Type 0) (xs : List A) → AllByRecursion P (map f xs) → AllByRecursion (λ x. P (f x)) xs
each_unmapped f P [] h = tt
each_unmapped f P (x ∷ xs) h = (h.0, each_unmapped f P xs h.1)

-- ---- numbers that are divided

below : (n m k : ℕ) → m ≤ n → n < k → m < k
below n m k less h = omega (arith, less, h)

media_time_good : (g : ℕ) (z : ℤ) → FitsSigned w64 z → FitsSigned w64 (media_time_by (divided g) z)
media_time_good g (pos n) h = let less = div-le_self n g in omega (arith, ints, less, h)
media_time_good g (negsuc n) h = h

pub edits_good : (a g : ℕ) (edits : List Edit) → AllByRecursion IsEdit edits → AllByRecursion IsEdit (map (edit_by (divided a) (divided g)) edits)
edits_good a g [] h = tt
edits_good a g (e ∷ edits) h = (
  record {
    segment_duration = below e.segment_duration (divided a e.segment_duration) (2 ^ 64) (div-le_self e.segment_duration a) h.0.segment_duration;
    media_time = media_time_good g e.media_time h.0.media_time;
    rate_integer = h.0.rate_integer;
    rate_fraction = h.0.rate_fraction;
  },
  edits_good a g edits h.1,
)

-- ---- how long the `moov` is

pub edts_same : (f : Edit → Edit) (edits : List Edit) → length (edts_bytes (map f edits)) ≡ length (edts_bytes edits)
edts_same f [] = refl
edts_same f (e ∷ edits) =
    let some : ¬ (length (e ∷ edits) ≡ 0) = λ n. omega (arith, n) in
    let more : ¬ (length (map f (e ∷ edits)) ≡ 0) = λ n. omega (arith, n) in
    length_edits (map f (e ∷ edits)) more ∙ ap (λ n. 24 + 20 * n) (length_mapped f (e ∷ edits)) ∙ sym (length_edits (e ∷ edits) some)

abbrev HasMatrix : Track → Type 0
HasMatrix t = length t.head.matrix ≡ 9

module _ (l : Without) where
  -- the same words, but edits, ends and origins stay
  abbrev pub kept : Without
  kept = record l { edits = false; ends = false; origins = false }

  pub scale_less : (g n : ℕ) → timescale_by l (divided g) n ≤ n
  scale_less g n = by_case (λ m. m ≤ n) l.timing n (divided g n) (omega arith) (div-le_self n g)

  pub scale_some_by : (g n : ℕ) → g ∣ counted_timescale l n → 0 < n → 0 < timescale_by l (divided g) n
  scale_some_by g n = by l.timing
    where
      by : (b : Bool) → g ∣ (if b then 0 else n) → 0 < n → 0 < (if b then n else divided g n)
      by true p some = some
      by false p some = some_divided g n some p

  lengths_same : (a : ℕ) (tracks : List Track) → AllByRecursion HasMatrix tracks → sum_of both_lengths (map (λ (t : Track). t.head) (map (lowest_track l a) tracks)) ≡ sum_of both_lengths (map (λ (t : Track). t.head) tracks)
  lengths_same a [] h = refl
  lengths_same a (t ∷ tracks) h =
      let was = length_track t.head h.0 in
      let now = length_track (lowest_track l a t).head h.0 in
      let edits = edts_same (edit_by (divided a) (divided (divisor_of (track_times l t)))) t.head.edits in
      let rest = lengths_same a tracks h.1 in
      omega (arith, was, now, edits, rest)

  pub moov_same : (p : Presentation) → length p.movie.matrix ≡ 9 → AllByRecursion HasMatrix p.tracks → normal_moov_length (lowest l p) ≡ normal_moov_length p
  moov_same p nine each =
      let q = lowest l p in
      let a = length_head p.movie (heads p) (movie_length p) nine in
      let b = length_head q.movie (heads q) (movie_length q) nine in
      let c : length (head_bytes p.movie (heads p) (movie_length p)) ≡ 24 + normal_moov_length p = length-append ftyp_bytes (moov_bytes p.movie (heads p) (movie_length p)) in
      let d : length (head_bytes q.movie (heads q) (movie_length q)) ≡ 24 + normal_moov_length q = length-append ftyp_bytes (moov_bytes q.movie (heads q) (movie_length q)) in
      let t = lengths_same (divisor_of (movie_times l p)) p.tracks each in
      omega (arith, a, b, c, d, t)

  -- ---- samples

  duration_good : (many n d : ℕ) → duration_left kept many n d < 2 ^ 32 → duration_left l many n d < 2 ^ 32
  duration_good many n d = by l.timing (l.ends && is_at_end many n)
    where
      by : (t e : Bool) → (if t then 1 else d) < 2 ^ 32 → (if t then 1 else if e then 1 else d) < 2 ^ 32
      by true e h = h
      by false true h = omega arith
      by false false h = h

  module _ (g count many : ℕ) (first : ℤ) where
    sample_good : (descriptions n : ℕ) (s : Sample) → IsSample descriptions (reduce_sample kept many first n s) → FitsSigned w32 (sized (divided g) (offset_left l first s.offset)) → IsSample descriptions (sample_by l (divided g) count n (reduce_sample l many first n s))
    sample_good descriptions n s h near = record {
      duration = below (duration_left l many n s.duration) _ (2 ^ 32) (duration_less l g count n (duration_left l many n s.duration)) (duration_good many n s.duration h.duration);
      offset = near;
      flags = h.flags;
      description_from_1 = h.description_from_1;
      description = h.description;
      bytes = h.bytes;
      size = h.size;
      groups = h.groups;
      groups_in_order = h.groups_in_order;
    }

    samples_good : (descriptions n : ℕ) (samples : List Sample) → AllByRecursion (IsSample descriptions) (reduce_from kept many first n samples) → AllByRecursion (λ (s : Sample). FitsSigned w32 s.offset) (samples_by l (divided g) count n (reduce_from l many first n samples))
        → AllByRecursion (IsSample descriptions) (samples_by l (divided g) count n (reduce_from l many first n samples))
    samples_good descriptions n [] h near = tt
    samples_good descriptions n (s ∷ samples) h near = (sample_good descriptions n s h.0 near.0, samples_good descriptions (suc n) samples h.1 near.1)

    abbrev named : List Sample → List GroupKey
    named samples = flat_map (λ (s : Sample). map (λ (group : GroupKey × ℕ). group.0) s.groups) samples

    named_same : (n : ℕ) (samples : List Sample) → named (samples_by l (divided g) count n (reduce_from l many first n samples)) ≡ named (reduce_from kept many first n samples)
    named_same n [] = refl
    named_same n (s ∷ samples) = ap (λ keys. map (λ (group : GroupKey × ℕ). group.0) (reduce_sample l many first n s).groups ++ keys) (named_same (suc n) samples)

  -- ---- tracks

  abbrev pub scaled_at : ℕ → ℕ → Track → Track
  scaled_at a place t = lowest_track l a (number_track l place (reduce_track l t))

  -- the same by any divisor
  abbrev pub scaled_by : ℕ → ℕ → ℕ → Track → Track
  scaled_by a g place t = track_by l (divided a) (divided g) (number_track l place (reduce_track l t))

  as_many : (a g place : ℕ) (t : Track) → length (scaled_by a g place t).samples ≡ length t.samples
  as_many a g place t =
      many_stay l (divided g) (length (reduce_samples l t.samples)) 0 (reduce_samples l t.samples)
      ∙ left_many l (length t.samples) (first_offset t.samples) 0 t.samples

  edits_left : (a g : ℕ) (edits : List Edit) → AllByRecursion IsEdit edits → AllByRecursion IsEdit (map (edit_by (divided a) (divided g)) (if l.edits then [] else edits))
  edits_left a g edits h = by_case (λ (es : List Edit). AllByRecursion IsEdit (map (edit_by (divided a) (divided g)) es)) l.edits [] edits tt (edits_good a g edits h)

  start_none : (g start : ℕ) → start_left kept start ≡ 0 → divided g (start_left l start) ≡ 0
  start_none g start = by l.timing l.origins
    where
      by : (t o : Bool) → (if t then 0 else start) ≡ 0 → divided g (if t then 0 else if o then 0 else start) ≡ 0
      by true o e = zero-div g
      by false true e = zero-div g
      by false false e = ap (divided g) e ∙ zero-div g

  -- what stands where edits, ends and origins stay, of a track whose times are divided by what divides them
  module _ (a g place : ℕ) (t : Track) (all : Divides g (track_times l (reduce_track l t))) (h : IsTrack (number_track kept place (reduce_track kept t))) where
    abbrev scale : ℕ
    scale = timescale_left l t.head.media.timescale

    pub head_good : IsTrackHead (scaled_by a g place t).head
    head_good = record {
      flags = h.head.flags;
      creation = h.head.creation;
      modification = h.head.modification;
      id = h.head.id;
      id_not_0 = h.head.id_not_0;
      layer = h.head.layer;
      alternate_group = h.head.alternate_group;
      volume = h.head.volume;
      matrix = h.head.matrix;
      width = h.head.width;
      height = h.head.height;
      edits = edits_left a g t.head.edits h.head.edits;
      kept = h.head.kept;
      media = record {
        creation = h.head.media.creation;
        modification = h.head.media.modification;
        timescale = below scale (timescale_by l (divided g) scale) (2 ^ 32) (scale_less g scale) h.head.media.timescale;
        timescale_not_0 = scale_some_by g scale all.0 h.head.media.timescale_not_0;
        language = h.head.media.language;
        handler = h.head.media.handler;
        handler_room = h.head.media.handler_room;
        extended_languages = h.head.media.extended_languages;
        header = h.head.media.header;
        header_bytes = h.head.media.header_bytes;
        descriptions = h.head.media.descriptions;
      };
      group_descriptions = h.head.group_descriptions;
    }

    pub track_good : HasNearOffsets (scaled_by a g place t) → IsTrack (scaled_by a g place t)
    track_good near =
        let many = length (reduce_track l t).head.media.descriptions in
        let count = length (reduce_samples l t.samples) in
        record {
          head = head_good;
          samples = samples_good g count (length t.samples) (first_offset t.samples) many 0 t.samples h.samples near;
          keys = subst (λ (keys : List GroupKey). length (keys_with [] keys) ≤ max_keys) (sym (named_same g count (length t.samples) (first_offset t.samples) 0 t.samples)) h.keys;
          empty = λ e.
              let none : t.samples ≡ [] = nil_from_length t.samples (sym (as_many a g place t) ∙ ap length e) in
              start_none g t.start (h.empty (ap (reduce_samples kept) none));
        }

  tracks_good : (a place : ℕ) (tracks : List Track) → AllByRecursion IsTrack (number_tracks kept place (map (reduce_track kept) tracks)) → AllByRecursion HasNearOffsets (map (lowest_track l a) (number_tracks l place (map (reduce_track l) tracks)))
      → AllByRecursion IsTrack (map (lowest_track l a) (number_tracks l place (map (reduce_track l) tracks)))
  tracks_good a place [] h near = tt
  tracks_good a place (t ∷ tracks) h near = (track_good a (divisor_of (track_times l (reduce_track l t))) place t (divisor_divides (track_times l (reduce_track l t))) h.0 near.0, tracks_good a (suc place) tracks h.1 near.1)

  ids_same : (a place : ℕ) (tracks : List Track) → ids_of (map (lowest_track l a) (number_tracks l place (map (reduce_track l) tracks))) ≡ ids_of (number_tracks kept place (map (reduce_track kept) tracks))
  ids_same a place [] = refl
  ids_same a place (t ∷ tracks) = ap (λ ids. id_left l place t.head.id ∷ ids) (ids_same a (suc place) tracks)

  totals_same : (a place : ℕ) (tracks : List Track) → sum_of (λ (t : Track). length t.samples) (map (lowest_track l a) (number_tracks l place (map (reduce_track l) tracks))) ≡ sum_of (λ (t : Track). length t.samples) (number_tracks kept place (map (reduce_track kept) tracks))
  totals_same a place [] = refl
  totals_same a place (t ∷ tracks) =
      let one = as_many a (divisor_of (track_times l (reduce_track l t))) place t ∙ sym (left_many kept (length t.samples) (first_offset t.samples) 0 t.samples) in
      λ i. one i + totals_same a (suc place) tracks i

  -- ---- the whole

  pub movie_by_good : (a : ℕ) (m : MovieHead) → a ∣ counted_timescale l (timescale_left l m.timescale) → IsMovieHead (reduce_movie_head l m) → IsMovieHead (remaining_movie l a m)
  movie_by_good a m divides h =
      let scale = timescale_left l m.timescale in
      record {
        creation = h.creation;
        modification = h.modification;
        timescale = below scale (timescale_by l (divided a) scale) (2 ^ 32) (scale_less a scale) h.timescale;
        timescale_not_0 = scale_some_by a scale divides h.timescale_not_0;
        rate = h.rate;
        volume = h.volume;
        matrix = h.matrix;
        kept = h.kept;
      }

  pub movie_good : (p : Presentation) → IsMovieHead (reduce_movie_head l p.movie) → IsMovieHead (lowest l (reduce l p)).movie
  movie_good p h =
      let times = movie_times l (reduce l p) in
      movie_by_good (divisor_of times) p.movie (divisor_divides times).0 h

  matrices : (p : Presentation) → Valid p → AllByRecursion HasMatrix p.tracks
  matrices p v = each_weaker IsTrack HasMatrix (λ t h. h.head.matrix.nine) p.tracks v.tracks

  left_matrices : (p : Presentation) → Valid p → AllByRecursion HasMatrix (reduce l p).tracks
  left_matrices p v = numbered_each l HasMatrix HasMatrix (λ place t some h. h) 1 (map (reduce_track l) p.tracks) (omega arith) (each_value HasMatrix HasMatrix (reduce_track l) (λ t h. h) p.tracks (matrices p v))

  lowest_from : (p : Presentation) → Valid p → ScaledInLimits true l p → Valid (lowest l (reduce l p))
  lowest_from p v limits =
      let a = divisor_of (movie_times l (reduce l p)) in
      let k = (reduced_stays_valid kept p v (inl (refl, refl, refl))).1 in
      record {
        movie = movie_good p k.movie;
        tracks = tracks_good a 1 p.tracks k.tracks limits.in_range;
        ids = ap are_distinct (ids_same a 1 p.tracks) ∙ k.ids;
        limits = record {
          samples = let same = totals_same a 1 p.tracks in let few = k.limits.samples in omega (arith, same, few);
          times = limits.in_time;
          moov =
              let same = moov_same (reduce l p) v.movie.matrix.nine (left_matrices p v) in
              let less = shorter_moov l p v.movie.matrix.nine (matrices p v) in
              let few = v.limits.moov in
              omega (arith, same, less, few);
        };
      }

  pub near_each : (p : Presentation) → Valid p → AllByRecursion HasNearOffsets p.tracks
  near_each p v = each_weaker IsTrack HasNearOffsets (near_of l) p.tracks v.tracks

  reduced_limits : (p : Presentation) → ScaledInLimits false l p → ReducesInLimits l p
  reduced_limits p limits =
      let in_time = IsInTime (timescale_left l p.movie.timescale) in
      let tracks = map (reduce_track l) p.tracks in
      record {
        in_time = each_unmapped (reduce_track l) in_time p.tracks (each_before l in_time in_time (λ place t h. h) 1 tracks limits.in_time);
        in_range = each_unmapped (reduce_track l) HasNearOffsets p.tracks (each_before l HasNearOffsets HasNearOffsets (λ place t h. h) 1 tracks limits.in_range);
      }

limits_of : (b : Bool) (l : Without) (p : Presentation) → Valid (scaled b l p) → ScaledInLimits b l p
limits_of b l p v = record { in_time = v.limits.times; in_range = near_each l (scaled b l p) v }

pub scaled_from : (b : Bool) (l : Without) (p : Presentation) → Valid p → ScaledInLimits b l p → Valid (scaled b l p)
scaled_from true l p v limits = lowest_from l p v limits
scaled_from false l p v limits = (reduced_is_valid l p v).1 (reduced_limits l p limits)

pub scaled_is_valid : ScaledIsValid
scaled_is_valid b l p v = (limits_of b l p, scaled_from b l p v)

stays_by : (b : Bool) (l : Without) (p : Presentation) → Valid p → KeepsLimits l ⊎ (l.timing ≡ true) → ScaledInLimits b l p
stays_by true l p v stay =
    let k = (reduced_stays_valid l p v stay).1 in
    record {
      in_time = lowest_in_time l (either stay) (reduce l p) (each_weaker IsTrack (λ (t : Track). 0 < t.head.media.timescale) (λ t h. h.head.media.timescale_not_0) (reduce l p).tracks k.tracks) k.limits.times;
      in_range = near_tracks l (divisor_of (movie_times l (reduce l p))) (reduce l p).tracks (near_each l (reduce l p) k);
    }
  where
    either : KeepsLimits l ⊎ (l.timing ≡ true) → (l.ends ≡ false) ⊎ (l.timing ≡ true)
    either (inl keeps) = inl keeps.1
    either (inr timing) = inr timing
stays_by false l p v stay = limits_of false l p (reduced_stays_valid l p v stay).1

pub scaled_stays_valid : ScaledStaysValid
scaled_stays_valid b l p v stay = let limits = stays_by b l p v stay in (limits, scaled_from b l p v limits)
