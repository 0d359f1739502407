-- Lines of differences along with decode times, and how these stay where tracks are told to wait.
use Rattle.std.proofs.Common.{◌≡◌, ℕ, zero, suc, ◌+◌, ◌<◌, Bool, true, false, List, [], ◌∷◌, ◌++◌, length, take, drop, refl, sym, ap, ◌∙◌, append_assoc}
use Rattle.std.specs.Prelude.{Option, map, flat_map, slice_get, slice_index_or, nat_le}
use Rattle.std.proofs.lemmas.List.{drop-drop}
use Rattle.mp4_present.specs.format.Presentation.{Track, Presentation}
use Rattle.mp4_present.specs.format.Waiting.{waiting_tracks}
use Rattle.mp4_content.specs.format.DecodeTimes.{decode_time, decode_times, numbered, time_at}
use Rattle.mp4_content.specs.format.LeadIns.{Moment, delay, first_moments, says_beginnings, told, told_by, wait_of}
use Rattle.mp4_content.specs.declared.aligning.Alignment.{Alignment}
use Rattle.mp4_content.specs.declared.comparing.differences.DecodeTime.{DecodeTime}
use Rattle.mp4_content.specs.declared.comparing.differences.Difference.{Difference}
use Rattle.mp4_content.specs.declared.comparing.differences.Subject.{Subject}
use Rattle.mp4_content.specs.declared.comparing.differences.Subject.TheVariants as subjects
use Rattle.mp4_content.specs.declared.without.Without.{Without}
use Rattle.mp4_content.proofs.Differing.{drop_at}
use Rattle.mp4_content.proofs.LeadInsTracks.{where_more, where_told}
use Rattle.mp4_answers.specs.declared.commands.compare.LineForm.{LineForm}
use Rattle.mp4_answers.specs.declared.commands.compare.Lines.{Lines}
use Rattle.mp4_answers.specs.format.CompareHeadline.{alignment_in, difference_in, differences_in, last_in, listing_text, most_counted}
use Rattle.mp4_answers.specs.words.Compares.{if_time, lines_with}

-- ---- line after line

front_dropped : {A : Type 0} (k : ℕ) (xs : List A) → slice_get (drop k xs) 0 ≡ slice_get xs k
front_dropped zero xs = refl
front_dropped (suc k) [] = refl
front_dropped (suc k) (x ∷ xs) = front_dropped k xs

module _ (form : LineForm) (times : List (Option DecodeTime)) (ds : List Difference) where
  -- the lines so far, and those of the differences from a place on, are these
  abbrev pub LinesGo : ℕ → List ℕ → List ℕ → Type 0
  LinesGo k now whole = now ++ lines_with form (drop k times) (drop k ds) ≡ whole

  pub lines_next : (k : ℕ) (d : Difference) (time : Option DecodeTime) (now next whole : List ℕ) → k < length ds → d ≡ slice_index_or ds k d → time ≡ if_time (slice_get times k) → next ≡ now ++ difference_in form time d → LinesGo k now whole → LinesGo (k + 1) next whole
  lines_next k d time now next whole lt e f g h =
      let at = f ∙ ap if_time (sym (front_dropped k times)) in
      let more = lines_with form (drop (k + 1) times) (drop (k + 1) ds) in
      let line = difference_in form (if_time (slice_get (drop k times) 0)) d in
      (λ i. (g i) ++ more) ∙ append_assoc now (difference_in form time d) more
      ∙ (λ i. now ++ (difference_in form (at i) d ++ more))
      ∙ (λ i. now ++ (line ++ lines_with form (sym (drop-drop 1 k times) i) (drop (k + 1) ds)))
      ∙ (λ i. now ++ lines_with form (drop k times) (sym (drop_at ds k d lt e) i)) ∙ h

-- ---- the decode times are those of a presentation

lines_known : (form : LineForm) (p : Presentation) (ds : List Difference) (n m : ℕ) → lines_with form (decode_times p ds) (take n (take m ds)) ≡ differences_in form p (take n (take m ds))
lines_known form p ds zero m = refl
lines_known form p [] (suc n) zero = refl
lines_known form p (d ∷ ds) (suc n) zero = refl
lines_known form p [] (suc n) (suc m) = refl
lines_known form p (d ∷ ds) (suc n) (suc m) =
    ap (λ (text : List ℕ). difference_in form (decode_time p d.subject) d ++ text) (lines_known form p ds n m)

pub lines_timed : (form : LineForm) (p : Presentation) (times : List (Option DecodeTime)) (ds all : List Difference) (n m : ℕ) → times ≡ decode_times p ds → all ≡ take m ds → lines_with form times (take n all) ≡ differences_in form p (take n all)
lines_timed form p times ds all n m e f =
    (λ i. lines_with form (e i) (take n (f i))) ∙ lines_known form p ds n m ∙ (λ i. differences_in form p (take n (sym f i)))

-- ---- tracks that wait

module _ (f : Track → ℕ) where
  at_place : (k n : ℕ) (tracks : List Track) → time_at k (slice_get (waiting_tracks (map f tracks) tracks) n) ≡ time_at k (slice_get tracks n)
  at_place k n [] = refl
  at_place k zero (t ∷ tracks) = refl
  at_place k (suc n) (t ∷ tracks) = at_place k n tracks

  at_number : (k n : ℕ) (tracks : List Track) → time_at k (numbered n (waiting_tracks (map f tracks) tracks)) ≡ time_at k (numbered n tracks)
  at_number k zero tracks = refl
  at_number k (suc n) tracks = at_place k n tracks

-- samples are decoded when they were
pub same_time : (b : Bool) (p : Presentation) (s : Subject) → decode_time (told b p) s ≡ decode_time p s
same_time b p subjects.Movie = refl
same_time b p (subjects.Track n) = refl
same_time false p (subjects.Sample n k) = refl
same_time true p (subjects.Sample n k) = by (says_beginnings p) refl
  where
    wait : Moment → ℕ
    wait = delay (first_moments p.movie.timescale p.tracks)

    by : (b : Bool) → says_beginnings p ≡ b → decode_time (told_by wait p) (subjects.Sample n k) ≡ decode_time p (subjects.Sample n k)
    by true e = ap (λ (x : Presentation). decode_time x (subjects.Sample n k)) (where_told wait p e) ∙ at_number (wait_of p.movie.timescale wait) k n p.tracks
    by false e = ap (λ (x : Presentation). decode_time x (subjects.Sample n k)) (where_more wait p e)

pub listing_same : (lines : Lines) (p q : Presentation) (found : List Alignment) (ds : List Difference) (enough : Option Without) → ((s : Subject) → decode_time p s ≡ decode_time q s) → listing_text lines p found ds enough ≡ listing_text lines q found ds enough
listing_same lines p q found ds enough same =
    λ i. flat_map (alignment_in lines.form) found
    ++ flat_map (λ (d : Difference). difference_in lines.form (same d.subject i) d) (take lines.limit (take most_counted ds))
    ++ last_in lines.form (nat_le (length ds) most_counted) (take most_counted ds) enough
