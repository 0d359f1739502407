-- Decode times of differences that are handed over.
use Rattle.std.proofs.Common.{◌≡◌, ℕ, zero, suc, ◌+◌, ◌<◌, List, [], ◌∷◌, drop, refl, sym, ap, subst, ◌∙◌, arith}
use Rattle.std.specs.Prelude.{slice_get, Option, None, Some, option_map, IfSome}
use Rattle.mp4_boxes.proofs.Each.{each_weaker}
use Rattle.mp4_boxes.proofs.Plain.{get_map, get_some, get_zip, plus_one}
use Rattle.mp4_tables.specs.declared.sample.SampleAt.{SampleAt}
use Rattle.mp4_head.specs.format.Tree.{TrackTree}
use Rattle.mp4_head.specs.words.Seen.{track_seen}
use Rattle.mp4_head.specs.declared.heads.MovieHead.{MovieHead}
use Rattle.mp4_head.specs.declared.heads.TrackHead.{TrackHead}
use Rattle.mp4_present.specs.format.Denotes.{FileTree, file_parts, placed_of, track_of, presentation_of}
use Rattle.mp4_present.specs.format.Presentation.{Track, Presentation}
use Rattle.mp4_present.specs.words.Movies.{MovieSeen}
use Rattle.mp4_present.specs.words.OpenedMovie.{IsInfoOf, IsOpenedAs}
use Rattle.mp4_present.specs.words.SamplesComing.{track_keys, track_samples}
use Rattle.mp4_present.specs.declared.track_info.TrackInfo.{TrackInfo}
use Rattle.mp4_content.specs.format.DecodeTimes.{decode_time, decode_times, numbered, time_at, time_in}
use Rattle.mp4_content.specs.format.Alignment.{time_of}
use Rattle.mp4_content.specs.format.TimedSamples.{TimedSample, timed}
use Rattle.mp4_content.specs.words.Aligning.{due}
use Rattle.mp4_content.specs.words.Differing.{pair_differences}
use Rattle.mp4_content.specs.words.HeadsDiffer.{begun_differ, movies_differ}
use Rattle.mp4_content.specs.words.TimesTaken.{HaveTime, IsTimed, found_with, time_as_list}
use Rattle.mp4_content.specs.words.Differing.{as_list}
use Rattle.mp4_content.specs.declared.comparing.Found.{Found}
use Rattle.mp4_content.specs.declared.comparing.pairing.Pairing.{Pairing}
use Rattle.mp4_content.specs.declared.comparing.tracks.Divisors.{Divisors}
use Rattle.mp4_content.specs.declared.comparing.differences.DecodeTime.{DecodeTime}
use Rattle.mp4_content.specs.declared.comparing.differences.Difference.{Difference}
use Rattle.mp4_content.specs.declared.comparing.differences.Subject.TheVariants as subjects
use Rattle.mp4_content.specs.declared.without.Without.{Without}
use Rattle.mp4_content.proofs.OwnSubjects.{both_of, value_of, head_of, movie_of, pair_of}
use Rattle.mp4_content.proofs.SamplesShifted.{due_is}
use Rattle.mp4_content.proofs.TimedSamples.{length-timed_from}

-- ---- the first difference

pub first_found : (first : Option Difference) (time : Option DecodeTime) → option_map (λ (f : Found). f.difference) (found_with first time) ≡ first
first_found None time = refl
first_found (Some d) time = refl

head_is : {A : Type 0} (x y : A) (xs ys : List A) → x ∷ xs ≡ y ∷ ys → x ≡ y
head_is {A = A} x y xs ys e = ap (λ zs. first_or zs) e
  where
    first_or : List A → A
    first_or [] = x
    first_or (z ∷ zs) = z

pub first_timed : (p : Presentation) (first : Option Difference) (time : Option DecodeTime) → time_as_list first time ≡ decode_times p (as_list first) → IfSome (found_with first time) (IsTimed p)
first_timed p None time e = tt
first_timed p (Some d) time e = head_is time (decode_time p d.subject) [] [] e

-- ---- heads are decoded at no time

pub track_untimed : (p : Presentation) (l : Without) (ds : Divisors) (number : ℕ) (a b : TrackHead) (info other : TrackInfo) (found : List Difference) → found ≡ begun_differ l ds number a info b other → HaveTime p None found
track_untimed p l ds number a b info other found e =
    let of = subjects.Track number in
    let all = both_of of _ _ (both_of of _ _ (head_of of (track_seen a) (track_seen b)) (value_of of _ _ _)) (value_of of _ _ _) in
    subst (HaveTime p None) (sym e) (each_weaker (λ (d : Difference). d.subject ≡ of) (λ (d : Difference). decode_time p d.subject ≡ None) (λ d is. ap (decode_time p) is) (begun_differ l ds number a info b other) all)

pub movie_untimed : (p : Presentation) (a b : MovieHead) (found : List Difference) → found ≡ movies_differ a b → HaveTime p None found
movie_untimed p a b found e =
    let of = subjects.Movie in
    let all = both_of of _ _ (movie_of _ _) (value_of of _ _ _) in
    subst (HaveTime p None) (sym e) (each_weaker (λ (d : Difference). d.subject ≡ of) (λ (d : Difference). decode_time p d.subject ≡ None) (λ d is. ap (decode_time p) is) (movies_differ a b) all)

-- ---- samples are decoded when the presentation says

front_dropped : {A : Type 0} (k : ℕ) (xs : List A) → slice_get (drop k xs) 0 ≡ slice_get xs k
front_dropped zero xs = refl
front_dropped (suc k) [] = refl
front_dropped (suc k) (x ∷ xs) = front_dropped k xs

module _ (file : List ℕ) (m : MovieSeen) (tree : FileTree) (t : TrackTree) (place : ℕ) (info : TrackInfo) (o : IsOpenedAs file m tree) (at : slice_get tree.movie.tracks place ≡ Some t) (there : slice_get m.tracks place ≡ Some info) where
  abbrev own : Track
  own = track_of file (file_parts tree) t

  abbrev p : Presentation
  p = presentation_of file tree

  time_is : (k time : ℕ) → k < info.samples → time ≡ due (slice_get (drop k (track_samples tree t)) 0) → decode_time p (subjects.Sample (place + 1) (k + 1)) ≡ Some (record { time = time; timescale = info.timescale })
  time_is k time lt e =
      let known = get_zip (IsInfoOf file tree) tree.movie.tracks m.tracks place t info o.tracks at there in
      let many = known.samples in
      let long = length-timed_from 1 own.start own.samples in
      let s = get_some (timed own) k (omega (arith, lt, many, long)) in
      let due_then = due_is file (track_keys tree t) k 0 1 own.start (placed_of (file_parts tree) t) in
      let is : time ≡ s.0.time = e ∙ ap due (front_dropped k (track_samples tree t)) ∙ due_then ∙ ap (λ (x : Option TimedSample). time_of x) s.1 in
      (λ i. time_at (plus_one k i) (numbered (plus_one place i) p.tracks))
      ∙ ap (time_at (suc k)) (get_map (track_of file (file_parts tree)) tree.movie.tracks place t at)
      ∙ ap (option_map (time_in own)) s.1
      ∙ (λ i. Some (record { time = sym is i; timescale = sym known.timescale i }))

  pub pair_timed : (by : Pairing) (other : List ℕ) (k time : ℕ) (x y : SampleAt) (found : List Difference) → by.track ≡ place + 1 → k < info.samples → found ≡ pair_differences by file other (k + 1) x y → time ≡ due (slice_get (drop k (track_samples tree t)) 0)
      → HaveTime p (Some (record { time = time; timescale = info.timescale })) found
  pair_timed by other k time x y found is lt e f =
      subst (HaveTime p (Some (record { time = time; timescale = info.timescale }))) (sym e)
      (each_weaker (λ (d : Difference). d.subject ≡ subjects.Sample by.track (k + 1)) (λ (d : Difference). decode_time p d.subject ≡ Some (record { time = time; timescale = info.timescale }))
      (λ d own_subject. ap (decode_time p) (own_subject ∙ ap (λ n. subjects.Sample n (k + 1)) is) ∙ time_is k time lt f)
      (pair_differences by file other (k + 1) x y) (pair_of by file other (k + 1) x y))
