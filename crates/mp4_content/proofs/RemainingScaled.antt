-- What remains is what is left in lowest terms, where timescales don't count.
use Rattle.std.proofs.Common.{◌≡◌, ℕ, suc, Bool, true, false, if◌then◌else◌, List, [], ◌∷◌, length, map, refl, ap, ◌∙◌, ℤ, pos, negsuc}
use Rattle.std.proofs.Math.Nat.{div-one}
use Rattle.mp4_head.specs.format.Head.{Edit}
use Rattle.mp4_present.specs.format.Presentation.{Sample, Track, Presentation}
use Rattle.mp4_content.specs.format.Reduced.{number_track, number_tracks, reduce, reduce_track}
use Rattle.mp4_content.specs.declared.without.Without.{Without}
use Rattle.mp4_content.specs.format.Timescales.{leaves_duration, sized, timescale_by, samples_by, media_time_by, edit_by, track_by, divided, divisor_of, track_times, movie_times, lowest_track, lowest, scaled}
use Rattle.mp4_content.specs.format.Remaining.{remaining_movie}
use Rattle.mp4_content.specs.format.RemainingLaws.{RemainingIsScaled, OnlyTimescalesDiffer}

-- ---- times that are divided by 1

abbrev same : ℕ → ℕ
same n = n

by_one : divided 1 ≡ same
by_one = λ i. λ n. div-one n i

size_same : (z : ℤ) → sized same z ≡ z
size_same (pos n) = refl
size_same (negsuc n) = refl

media_time_same : (z : ℤ) → media_time_by same z ≡ z
media_time_same (pos n) = refl
media_time_same (negsuc n) = refl

edits_same : (edits : List Edit) → map (edit_by same same) edits ≡ edits
edits_same [] = refl
edits_same (e ∷ edits) = λ i. record e { media_time = media_time_same e.media_time i } ∷ edits_same edits i

either_same : (b : Bool) (n : ℕ) → (if b then n else n) ≡ n
either_same true n = refl
either_same false n = refl

module _ (l : Without) where
  samples_same : (count n : ℕ) (samples : List Sample) → samples_by l same count n samples ≡ samples
  samples_same count n [] = refl
  samples_same count n (s ∷ samples) = λ i. record s { duration = either_same (leaves_duration l count n) s.duration i; offset = size_same s.offset i } ∷ samples_same count (suc n) samples i

  track_same : (t : Track) → track_by l same same t ≡ t
  track_same t = λ i. record t {
    head = record t.head { edits = edits_same t.head.edits i; media = record t.head.media { timescale = either_same l.timing t.head.media.timescale i } };
    samples = samples_same (length t.samples) 0 t.samples i;
  }

  pub undivided_track : (t : Track) → track_by l (divided 1) (divided 1) t ≡ t
  undivided_track t = (λ i. track_by l (by_one i) (by_one i) t) ∙ track_same t

  undivided_tracks : (place : ℕ) (tracks : List Track) → number_tracks l place (map (λ (t : Track). track_by l (divided 1) (divided 1) (reduce_track l t)) tracks) ≡ number_tracks l place (map (reduce_track l) tracks)
  undivided_tracks place [] = refl
  undivided_tracks place (t ∷ tracks) = λ i. number_track l place (undivided_track (reduce_track l t) i) ∷ undivided_tracks (suc place) tracks i

  undivided_scale : (n : ℕ) → timescale_by l (divided 1) n ≡ n
  undivided_scale n = (λ i. timescale_by l (by_one i) n) ∙ either_same l.timing n

  -- ---- times of tracks that are numbered

  lowest_tracks : (a place : ℕ) (tracks : List Track) → number_tracks l place (map (λ (t : Track). lowest_track l a (reduce_track l t)) tracks) ≡ map (lowest_track l a) (number_tracks l place (map (reduce_track l) tracks))
  lowest_tracks a place [] = refl
  lowest_tracks a place (t ∷ tracks) = λ i. lowest_track l a (number_track l place (reduce_track l t)) ∷ lowest_tracks a (suc place) tracks i

  -- ---- by these divisors

  abbrev divided_by : ℕ → (Track → ℕ) → Presentation → Presentation
  divided_by a own p = record {
    movie = remaining_movie l a p.movie;
    tracks = number_tracks l 1 (map (λ (t : Track). track_by l (divided a) (divided (own t)) (reduce_track l t)) p.tracks);
  }

  by_word : (b : Bool) (p : Presentation) → divided_by (if b then divisor_of (movie_times l (reduce l p)) else 1) (λ (t : Track). if b then divisor_of (track_times l (reduce_track l t)) else 1) p ≡ scaled b l p
  by_word true p = λ i. record (lowest l (reduce l p)) { tracks = lowest_tracks (divisor_of (movie_times l (reduce l p))) 1 p.tracks i }
  by_word false p = λ i. record (reduce l p) {
    movie = record (reduce l p).movie { timescale = undivided_scale (reduce l p).movie.timescale i };
    tracks = undivided_tracks 1 p.tracks i;
  }

pub remaining_is_scaled : RemainingIsScaled
remaining_is_scaled l p = by_word l l.timescales p

pub only_timescales_differ : OnlyTimescalesDiffer
only_timescales_differ l p counts = remaining_is_scaled l p ∙ ap (λ b. scaled b l p) counts
