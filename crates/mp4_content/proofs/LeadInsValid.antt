-- What is left of what is valid is valid exactly if it is within its limits.
use Rattle.std.proofs.Common.{◌≡◌, inl, ℕ, suc, ◌+◌, ◌<◌, ◌≤◌, Bool, true, false, if◌then◌else◌, List, [], ◌∷◌, length, map, refl, sym, ap, subst, ◌∙◌, arith}
use Rattle.std.specs.List.{AllByRecursion}
use Rattle.mp4_boxes.specs.format.Bytes.{sum_of}
use Rattle.mp4_boxes.proofs.Plain.{length_mapped}
use Rattle.mp4_head.specs.format.Head.{MovieHead, IsMovieHead}
use Rattle.mp4_head.specs.format.Tree.{are_distinct}
use Rattle.mp4_present.specs.format.Presentation.{Track, Presentation, IsTrack, Valid, IsInTime, IsWithinLimits, normal_moov_length, max_moov}
use Rattle.mp4_present.specs.format.Waiting.{waiting_all, waiting_movie, waiting_track, waiting_tracks}
use Rattle.mp4_content.specs.format.Reduced.{first_offset, id_left, reduce_samples, reduce_track, number_tracks, reduce, HasNearOffsets}
use Rattle.mp4_content.specs.format.ReducedLaws.{both}
use Rattle.mp4_content.specs.declared.without.Without.{Without}
use Rattle.mp4_content.specs.format.Timescales.{track_times, movie_times, divided, divisor_of, lowest_track, lowest, scaled}
use Rattle.mp4_content.specs.format.TimescalesLaws.{only_origins}
use Rattle.mp4_content.specs.format.LeadIns.{has_samples, says_beginnings, Moment, first_moments, first_shown, max_duration, delay, wait_of, waits_by, told_by, told, offset_less, waited, kept}
use Rattle.mp4_content.specs.format.LeadInsLaws.{KeptInLimits, KeptIsValid, ToldIsValid}
use Rattle.mp4_content.proofs.Numbered.{ids_of}
use Rattle.mp4_content.proofs.ReducedSamples.{left_many}
use Rattle.mp4_content.proofs.ReducedValid.{movie_head_good, reduced_stays_valid}
use Rattle.mp4_content.proofs.TimescalesChanged.{many_stay}
use Rattle.mp4_content.proofs.TimescalesValid.{near_each, movie_good, scaled_from}
use Rattle.mp4_content.proofs.LeadInsFlat.{IsSound, all_back, waiting_good, wait_sound, reduced_sound, all_lowest_sound}
use Rattle.mp4_content.proofs.LeadInsMoments.{delay_fits}
use Rattle.mp4_content.proofs.LeadInsTracks.{wait_track, where_some, where_none, where_told, where_more}
use Rattle.mp4_content.proofs.LeadInsTold.{begun_scaled}

limits_of : (b c : Bool) (l : Without) (p : Presentation) → Valid (kept b c l p) → KeptInLimits b c l p
limits_of b c l p v = record {
  in_time = v.limits.times;
  in_range = near_each l (kept b c l p) v;
  moov = v.limits.moov;
}

movie_with : (m : MovieHead) → IsMovieHead m → IsMovieHead (waiting_movie m)
movie_with m h = record { creation = h.creation; modification = h.modification; timescale = omega arith; timescale_not_0 = omega arith; rate = h.rate; volume = h.volume; matrix = h.matrix; kept = h.kept }

module _ (scale : ℕ) (wait : Moment → ℕ) (fits : (x : Moment) → wait x ≤ max_duration) (l : Without) where
  -- the same words, but edits, ends and origins stay
  abbrev fewer : Without
  fewer = record l { edits = false; ends = false; origins = false }

  abbrev left : ℕ → List Track → List Track
  left place tracks = number_tracks l place (map (reduce_track l) (map (wait_track scale wait) tracks))

  abbrev before : ℕ → List Track → List Track
  before place tracks = number_tracks fewer place (map (reduce_track fewer) tracks)

  all_sound : (place : ℕ) (tracks : List Track) → 0 < place → AllByRecursion IsTrack tracks → AllByRecursion IsSound (left place tracks)
  all_sound place [] some h = tt
  all_sound place (t ∷ tracks) some h = (reduced_sound l place (wait_track scale wait t) some (wait_sound scale wait fits t h.0), all_sound (suc place) tracks (omega arith) h.1)

  ids_same : (place : ℕ) (tracks : List Track) → ids_of (left place tracks) ≡ ids_of (before place tracks)
  ids_same place [] = refl
  ids_same place (t ∷ tracks) = λ i. id_left l place t.head.id ∷ ids_same (suc place) tracks i

  abbrev samples_of : List Track → ℕ
  samples_of tracks = sum_of (λ (t : Track). length t.samples) tracks

  one_total : (t : Track) → length (reduce_samples l (wait_track scale wait t).samples) ≡ length (reduce_samples fewer t.samples)
  one_total t =
      let u = wait_track scale wait t in
      left_many l (length u.samples) (first_offset u.samples) 0 u.samples ∙ length_mapped (offset_less (first_offset t.samples)) t.samples ∙ sym (left_many fewer (length t.samples) (first_offset t.samples) 0 t.samples)

  totals_same : (place : ℕ) (tracks : List Track) → samples_of (left place tracks) ≡ samples_of (before place tracks)
  totals_same place [] = refl
  totals_same place (t ∷ tracks) = λ i. one_total t i + totals_same (suc place) tracks i

  lowest_ids : (a : ℕ) (tracks : List Track) → ids_of (map (lowest_track l a) tracks) ≡ ids_of tracks
  lowest_ids a [] = refl
  lowest_ids a (t ∷ tracks) = ap (λ ids. t.head.id ∷ ids) (lowest_ids a tracks)

  lowest_totals : (a : ℕ) (tracks : List Track) → samples_of (map (lowest_track l a) tracks) ≡ samples_of tracks
  lowest_totals a [] = refl
  lowest_totals a (t ∷ tracks) = λ i. many_stay l (divided (divisor_of (track_times l t))) (length t.samples) 0 t.samples i + lowest_totals a tracks i

  abbrev some_wait : Presentation → Presentation
  some_wait p = record { movie = waiting_movie p.movie; tracks = map (wait_track scale wait) p.tracks }

  within : (c : Bool) (p : Presentation) → Valid p → let q = scaled c l (some_wait p) in AllByRecursion (IsInTime q.movie.timescale) q.tracks → AllByRecursion HasNearOffsets q.tracks → normal_moov_length q ≤ max_moov → Valid q
  within false p v times near few =
      let w = some_wait p in
      let q = reduce l w in
      let k = (reduced_stays_valid fewer p v (inl (refl, refl, refl))).1 in
      record {
        movie = movie_head_good l w.movie (movie_with p.movie v.movie);
        tracks = all_back q.tracks (all_sound 1 p.tracks (omega arith) v.tracks) near;
        ids = ap are_distinct (ids_same 1 p.tracks) ∙ k.ids;
        limits = record {
          samples = let same = totals_same 1 p.tracks in let less = k.limits.samples in omega (arith, same, less);
          times = times;
          moov = few;
        };
      }
  within true p v times near few =
      let w = some_wait p in
      let r = reduce l w in
      let q = lowest l r in
      let a = divisor_of (movie_times l r) in
      let k = (reduced_stays_valid fewer p v (inl (refl, refl, refl))).1 in
      record {
        movie = movie_good l w (movie_head_good l w.movie (movie_with p.movie v.movie));
        tracks = all_back q.tracks (all_lowest_sound l a r.tracks (all_sound 1 p.tracks (omega arith) v.tracks)) near;
        ids = ap are_distinct (lowest_ids a r.tracks ∙ ids_same 1 p.tracks) ∙ k.ids;
        limits = record {
          samples = let same = lowest_totals a r.tracks ∙ totals_same 1 p.tracks in let less = k.limits.samples in omega (arith, same, less);
          times = times;
          moov = few;
        };
      }

-- what stays as it is
stays : (c : Bool) (l : Without) (p : Presentation) → Valid p → AllByRecursion (IsInTime (scaled c l p).movie.timescale) (scaled c l p).tracks → AllByRecursion HasNearOffsets (scaled c l p).tracks → Valid (scaled c l p)
stays c l p v times near = scaled_from c l p v (record { in_time = times; in_range = near })

-- a presentation is valid if it is within the limits
abbrev IsValidWithin : Presentation → Type 0
IsValidWithin q = AllByRecursion (IsInTime q.movie.timescale) q.tracks → AllByRecursion HasNearOffsets q.tracks → normal_moov_length q ≤ max_moov → Valid q

valid_within : (b c : Bool) (l : Without) (p : Presentation) → Valid p → IsValidWithin (kept b c l p)
valid_within true c l p v = by (says_beginnings p) refl
  where
    moments : List Moment
    moments = first_moments p.movie.timescale p.tracks

    by : (b : Bool) → says_beginnings p ≡ b → IsValidWithin (scaled c l (waited true p))
    by true e = subst (λ (w : Presentation). IsValidWithin (scaled c l w)) (sym (where_some (delay moments) p e)) (within p.movie.timescale (delay moments) (delay_fits moments) l c p v)
    by false e =
        let same = ap (scaled c l) (where_none (delay moments) p e) ∙ begun_scaled c l p in
        subst IsValidWithin (sym same) (λ times near few. stays c (both l only_origins) p v times near)
valid_within false c l p v = λ times near few. stays c l p v times near

pub kept_is_valid : KeptIsValid
kept_is_valid b c l p v = (limits_of b c l p, λ k. valid_within b c l p v k.in_time k.in_range k.moov)

-- ---- told how long its tracks wait

track_told : (wait : ℕ) (t : Track) → wait ≤ max_duration → IsTrack t → IsTrack (waiting_track wait t)
track_told wait t fits h =
    let own = h.head in
    record {
      head = record {
        flags = own.flags;
        creation = own.creation;
        modification = own.modification;
        id = own.id;
        id_not_0 = own.id_not_0;
        layer = own.layer;
        alternate_group = own.alternate_group;
        volume = own.volume;
        matrix = own.matrix;
        width = own.width;
        height = own.height;
        edits = waiting_good wait fits;
        kept = own.kept;
        media = own.media;
        group_descriptions = own.group_descriptions;
      };
      samples = h.samples;
      keys = h.keys;
      empty = h.empty;
    }

tracks_told : (f : Track → ℕ) → ((t : Track) → f t ≤ max_duration) → (tracks : List Track) → AllByRecursion IsTrack tracks → AllByRecursion IsTrack (waiting_tracks (map f tracks) tracks)
tracks_told f fits [] h = tt
tracks_told f fits (t ∷ tracks) h = (track_told (f t) t (fits t) h.0, tracks_told f fits tracks h.1)

ids_told : (f : Track → ℕ) (tracks : List Track) → ids_of (waiting_tracks (map f tracks) tracks) ≡ ids_of tracks
ids_told f [] = refl
ids_told f (t ∷ tracks) = ap (λ ids. t.head.id ∷ ids) (ids_told f tracks)

waits_fit : (scale : ℕ) (wait : Moment → ℕ) → ((x : Moment) → wait x ≤ max_duration) → (t : Track) → wait_of scale wait t ≤ max_duration
waits_fit scale wait fits t = by (has_samples t)
  where
    by : (b : Bool) → (if b then wait (first_shown scale t) else 0) ≤ max_duration
    by true = fits (first_shown scale t)
    by false = omega arith

pub valid_told : (p : Presentation) → Valid p → IsWithinLimits (told true p) → Valid (told true p)
valid_told p v = by (says_beginnings p) refl
  where
    wait : Moment → ℕ
    wait = delay (first_moments p.movie.timescale p.tracks)

    IsGood : Presentation → Type 0
    IsGood q = IsWithinLimits q → Valid q

    good : IsGood (waiting_all (waits_by wait p) p)
    good limits = record {
      movie = movie_with p.movie v.movie;
      tracks = tracks_told (wait_of p.movie.timescale wait) (waits_fit p.movie.timescale wait (delay_fits (first_moments p.movie.timescale p.tracks))) p.tracks v.tracks;
      ids = ap are_distinct (ids_told (wait_of p.movie.timescale wait) p.tracks) ∙ v.ids;
      limits = limits;
    }

    by : (b : Bool) → says_beginnings p ≡ b → IsGood (told_by wait p)
    by true e = subst IsGood (sym (where_told wait p e)) good
    by false e = subst IsGood (sym (where_more wait p e)) (λ limits. v)

pub told_is_valid : ToldIsValid
told_is_valid true p v = (λ w. w.limits, valid_told p v)
told_is_valid false p v = (λ w. w.limits, λ limits. v)
