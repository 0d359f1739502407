-- What is listed where tracks are aligned: nothing exactly where nothing differs.
use Rattle.std.proofs.Common.{◌≡◌, ℕ, suc, Bool, true, false, if◌then◌else◌, List, [], ◌∷◌, ◌++◌, length, refl, sym, ap, ◌∙◌}
use Rattle.std.specs.Prelude.{◌==◌, ◌&&◌, not}
use Rattle.std.proofs.lemmas.Bool.{eq-eqb}
use Rattle.mp4_present.specs.format.Presentation.{Track, Presentation}
use Rattle.mp4_content.specs.format.Alignment.{listed, listed_samples, listed_track}
use Rattle.mp4_content.specs.format.Comparison.{differences, sample_differences, track_differences}
use Rattle.mp4_content.specs.format.Differences.{each_differ, head_differences, movie_differences, numbers_differ}
use Rattle.mp4_content.specs.declared.comparing.differences.Subject.TheVariants as subjects
use Rattle.mp4_content.specs.declared.comparing.differences.Field.TheVariants as fields
use Rattle.mp4_content.specs.declared.comparing.differences.Difference.{Difference}
use Rattle.mp4_content.proofs.ComparisonValues.{number_tells}

both_none : (xs ys : List Difference) → xs ++ ys ≡ [] → (xs ≡ []) × (ys ≡ [])
both_none [] ys e = (refl, e)
both_none (x ∷ xs) ys e = absurd cc

join_none : (xs ys : List Difference) → xs ≡ [] → ys ≡ [] → xs ++ ys ≡ []
join_none xs ys e f = ap (λ (zs : List Difference). zs ++ ys) e ∙ f

as_many : (aligned many : Bool) (ds : List Difference) → many ≡ true → (if aligned && not many then [] else ds) ≡ ds
as_many false many ds e = refl
as_many true true ds e = refl
as_many true false ds e = absurd cc

module _ (aligned : Bool) where
  module _ (n : ℕ) (t u : Track) where
    -- what is listed of two tracks, but for their samples
    abbrev heads : List Difference
    heads = head_differences (subjects.Track n) t.head u.head ++ numbers_differ (subjects.Track n) fields.Start t.start u.start

    abbrev counts : List Difference
    counts = numbers_differ (subjects.Track n) fields.Samples (length t.samples) (length u.samples)

    counts_same : (ds : List Difference) → heads ++ counts ++ ds ≡ [] → length t.samples ≡ length u.samples
    counts_same ds e =
        let front = (both_none (heads ++ counts) ds e).0 in
        (number_tells (subjects.Track n) fields.Samples (length t.samples) (length u.samples)).none (both_none heads counts front).1

    samples_same : length t.samples ≡ length u.samples → listed_samples aligned n t.samples u.samples ≡ each_differ (sample_differences n) 1 t.samples u.samples
    samples_same e = as_many aligned (length t.samples == length u.samples) _ (eq-eqb (length t.samples) (length u.samples) e)

    track_none : listed_track aligned n t u ≡ [] → track_differences n t u ≡ []
    track_none e = ap (λ (ds : List Difference). heads ++ counts ++ ds) (sym (samples_same (counts_same (listed_samples aligned n t.samples u.samples) e))) ∙ e

    no_track : track_differences n t u ≡ [] → listed_track aligned n t u ≡ []
    no_track e = ap (λ (ds : List Difference). heads ++ counts ++ ds) (samples_same (counts_same (each_differ (sample_differences n) 1 t.samples u.samples) e)) ∙ e

each_none : (f g : ℕ → Track → Track → List Difference) → ((n : ℕ) (t u : Track) → f n t u ≡ [] → g n t u ≡ []) → (n : ℕ) (ts us : List Track) → each_differ f n ts us ≡ [] → each_differ g n ts us ≡ []
each_none f g h n [] us e = refl
each_none f g h n (t ∷ ts) [] e = refl
each_none f g h n (t ∷ ts) (u ∷ us) e =
    let both = both_none (f n t u) (each_differ f (suc n) ts us) e in
    join_none (g n t u) (each_differ g (suc n) ts us) (h n t u both.0) (each_none f g h (suc n) ts us both.1)

module _ (p q : Presentation) where
  -- what is listed of two presentations, but for their tracks
  abbrev front : List Difference
  front = movie_differences p.movie q.movie ++ numbers_differ subjects.Movie fields.Tracks (length p.tracks) (length q.tracks)

  none_above : (ds es : List Difference) → (ds ≡ [] → es ≡ []) → front ++ ds ≡ [] → front ++ es ≡ []
  none_above ds es h e = let both = both_none front ds e in join_none front es both.0 (h both.1)

  pub listed_none : (aligned : Bool) → listed aligned p q ≡ [] → differences p q ≡ []
  listed_none aligned e = none_above (each_differ (listed_track aligned) 1 p.tracks q.tracks) (each_differ track_differences 1 p.tracks q.tracks) (each_none (listed_track aligned) track_differences (track_none aligned) 1 p.tracks q.tracks) e

  pub none_listed : (aligned : Bool) → differences p q ≡ [] → listed aligned p q ≡ []
  none_listed aligned e = none_above (each_differ track_differences 1 p.tracks q.tracks) (each_differ (listed_track aligned) 1 p.tracks q.tracks) (each_none track_differences (listed_track aligned) (no_track aligned) 1 p.tracks q.tracks) e
