-- In lowest terms two presentations are the same exactly if they differ in nothing but their timescales.
use Rattle.std.proofs.Common.{◌≡◌, ℕ, suc, Bool, true, false, if◌then◌else◌, List, [], ◌∷◌, ◌++◌, length, map, refl, sym, ap, ◌∙◌, arith, ℤ, pos, negsuc, unsigned_abs}
use Rattle.std.specs.List.{AllZip}
use Rattle.std.proofs.Math.Nat.{zero-div}
use Rattle.mp4_boxes.proofs.Plain.{head_is, tail_is, length_mapped}
use Rattle.mp4_head.specs.format.Head.{Edit}
use Rattle.mp4_present.specs.format.Presentation.{Sample, Track, Presentation}
use Rattle.mp4_content.specs.format.Reduced.{reduce}
use Rattle.mp4_content.specs.declared.without.Without.{Without}
use Rattle.mp4_content.specs.format.Timescales.{counted_timescale, leaves_duration, counted_duration, sample_times, counted_media_time, track_times, segment_times, movie_times, sized, timescale_by, sample_by, samples_by, media_time_by, edit_by, track_by, divided, divisor_of, lowest_track, lowest}
use Rattle.mp4_content.specs.format.TimescalesLaws.{SameTimes, untimed, SameButTimescales, ScaledIsExact}
use Rattle.mp4_content.proofs.TimescalesDivisors.{divisor_divides}
use Rattle.mp4_content.proofs.TimescalesFractions.{times_to_lowest, lowest_to_times}
use Rattle.mp4_content.proofs.TimescalesChanged.{media_times, lasting, many_stay, duration_twice, duration_by, track_twice, track_times_divided, segment_times_by}

-- ---- lists

joined_same : {A : Type 0} (xs zs ys ws : List A) → length xs ≡ length ys → xs ++ zs ≡ ys ++ ws → (xs ≡ ys) × (zs ≡ ws)
joined_same [] zs [] ws n e = (refl, e)
joined_same [] zs (y ∷ ys) ws n e = absurd (omega (arith, n))
joined_same (x ∷ xs) zs [] ws n e = absurd (omega (arith, n))
joined_same (x ∷ xs) zs (y ∷ ys) ws n e =
    let rest = joined_same xs zs ys ws (omega (arith, n)) (tail_is x y (xs ++ zs) (ys ++ ws) e) in
    let first = head_is x y (xs ++ zs) (ys ++ ws) e in
    (λ i. first i ∷ rest.0 i, rest.1)

abbrev none : ℕ → ℕ
none n = 0

-- ---- a track is what it is apart from its times, and these

media_time_is : (a b : ℤ) → media_time_by none a ≡ media_time_by none b → counted_media_time a ≡ counted_media_time b → a ≡ b
media_time_is (pos a) (pos b) e h = h
media_time_is (pos a) (negsuc b) e h = absurd cc
media_time_is (negsuc a) (pos b) e h = absurd cc
media_time_is (negsuc a) (negsuc b) e h = e

edits_are : (es fs : List Edit) → map (edit_by none none) es ≡ map (edit_by none none) fs → media_times es ≡ media_times fs → lasting es ≡ lasting fs → es ≡ fs
edits_are [] [] e h k = refl
edits_are [] (y ∷ fs) e h k = absurd cc
edits_are (x ∷ es) [] e h k = absurd cc
edits_are (x ∷ es) (y ∷ fs) e h k =
    let first = head_is (edit_by none none x) (edit_by none none y) (map (edit_by none none) es) (map (edit_by none none) fs) e in
    let media = media_time_is x.media_time y.media_time (ap (λ (z : Edit). z.media_time) first) (head_is _ _ (media_times es) (media_times fs) h) in
    let segment : x.segment_duration ≡ y.segment_duration = ap unsigned_abs (head_is (pos x.segment_duration) (pos y.segment_duration) (lasting es) (lasting fs) k) in
    let rest = edits_are es fs (tail_is (edit_by none none x) (edit_by none none y) (map (edit_by none none) es) (map (edit_by none none) fs) e) (tail_is _ _ (media_times es) (media_times fs) h) (tail_is (pos x.segment_duration) (pos y.segment_duration) (lasting es) (lasting fs) k) in
    λ i. record (first i) { segment_duration = segment i; media_time = media i } ∷ rest i

duration_is : (v : Bool) (a b : ℕ) → (if v then a else 0) ≡ (if v then b else 0) → (if v then 0 else a) ≡ (if v then 0 else b) → a ≡ b
duration_is true a b e h = e
duration_is false a b e h = h

module _ (l : Without) where
  samples_are : (count n : ℕ) (xs ys : List Sample) → samples_by l none count n xs ≡ samples_by l none count n ys → sample_times l count n xs ≡ sample_times l count n ys → xs ≡ ys
  samples_are count n [] [] e h = refl
  samples_are count n [] (y ∷ ys) e h = absurd cc
  samples_are count n (x ∷ xs) [] e h = absurd cc
  samples_are count n (x ∷ xs) (y ∷ ys) e h =
      let at = leaves_duration l count n in
      let first = head_is (sample_by l none count n x) (sample_by l none count n y) (samples_by l none count (suc n) xs) (samples_by l none count (suc n) ys) e in
      let later = tail_is (pos (counted_duration l count n x.duration)) (pos (counted_duration l count n y.duration)) (x.offset ∷ sample_times l count (suc n) xs) (y.offset ∷ sample_times l count (suc n) ys) h in
      let counted : counted_duration l count n x.duration ≡ counted_duration l count n y.duration =
      ap unsigned_abs (head_is (pos (counted_duration l count n x.duration)) (pos (counted_duration l count n y.duration)) (x.offset ∷ sample_times l count (suc n) xs) (y.offset ∷ sample_times l count (suc n) ys) h) in
      let duration = duration_is at x.duration y.duration (ap (λ (s : Sample). s.duration) first) counted in
      let offset = head_is x.offset y.offset (sample_times l count (suc n) xs) (sample_times l count (suc n) ys) later in
      let rest = samples_are count (suc n) xs ys (tail_is (sample_by l none count n x) (sample_by l none count n y) (samples_by l none count (suc n) xs) (samples_by l none count (suc n) ys) e) (tail_is x.offset y.offset (sample_times l count (suc n) xs) (sample_times l count (suc n) ys) later) in
      λ i. record (first i) { duration = duration i; offset = offset i } ∷ rest i

  -- all of them but the timescale
  abbrev own_times : Track → List ℤ
  own_times t = pos t.start ∷ (media_times t.head.edits ++ sample_times l (length t.samples) 0 t.samples)

  track_is : (t u : Track) → track_by l none none t ≡ track_by l none none u → track_times l t ≡ track_times l u → lasting t.head.edits ≡ lasting u.head.edits → t ≡ u
  track_is t u e h k =
      let edits : map (edit_by none none) t.head.edits ≡ map (edit_by none none) u.head.edits = ap (λ (x : Track). x.head.edits) e in
      let all : samples_by l none (length t.samples) 0 t.samples ≡ samples_by l none (length u.samples) 0 u.samples = ap (λ (x : Track). x.samples) e in
      let many : length t.samples ≡ length u.samples = sym (many_stay l none (length t.samples) 0 t.samples) ∙ ap length all ∙ many_stay l none (length u.samples) 0 u.samples in
      let few : length (media_times t.head.edits) ≡ length (media_times u.head.edits) =
      length_mapped (λ (x : Edit). counted_media_time x.media_time) t.head.edits ∙ sym (length_mapped (edit_by none none) t.head.edits) ∙ ap length edits
      ∙ length_mapped (edit_by none none) u.head.edits ∙ sym (length_mapped (λ (x : Edit). counted_media_time x.media_time) u.head.edits) in
      let st = sample_times l (length t.samples) 0 t.samples in
      let su = sample_times l (length u.samples) 0 u.samples in
      let st_scale = counted_timescale l t.head.media.timescale in
      let su_scale = counted_timescale l u.head.media.timescale in
      let counted : st_scale ≡ su_scale = ap unsigned_abs (head_is (pos st_scale) (pos su_scale) (own_times t) (own_times u) h) in
      let scale = duration_is l.timing t.head.media.timescale u.head.media.timescale (ap (λ (x : Track). x.head.media.timescale) e) counted in
      let later = tail_is (pos st_scale) (pos su_scale) (own_times t) (own_times u) h in
      let start : t.start ≡ u.start = ap unsigned_abs (head_is (pos t.start) (pos u.start) (media_times t.head.edits ++ st) (media_times u.head.edits ++ su) later) in
      let both = joined_same (media_times t.head.edits) st (media_times u.head.edits) su few (tail_is (pos t.start) (pos u.start) (media_times t.head.edits ++ st) (media_times u.head.edits ++ su) later) in
      let these = edits_are t.head.edits u.head.edits edits both.0 k in
      let samples = samples_are (length t.samples) 0 t.samples u.samples
      (all ∙ ap (λ n. samples_by l none n 0 u.samples) (sym many)) (both.1 ∙ ap (λ n. sample_times l n 0 u.samples) (sym many)) in
      λ i. record (e i) { head = record (e i).head { edits = these i; media = record (e i).head.media { timescale = scale i } }; start = start i; samples = samples i }

  abbrev SameTracks : Track → Track → Type 0
  SameTracks t u = track_times l t ≡ track_times l u

  tracks_are : (ts us : List Track) → map (track_by l none none) ts ≡ map (track_by l none none) us → segment_times ts ≡ segment_times us → AllZip SameTracks ts us → ts ≡ us
  tracks_are [] [] e k h = refl
  tracks_are [] (u ∷ us) e k h = absurd h
  tracks_are (t ∷ ts) [] e k h = absurd h
  tracks_are (t ∷ ts) (u ∷ us) e k h =
      let first = head_is (track_by l none none t) (track_by l none none u) (map (track_by l none none) ts) (map (track_by l none none) us) e in
      let edits : map (edit_by none none) t.head.edits ≡ map (edit_by none none) u.head.edits = ap (λ (x : Track). x.head.edits) first in
      let few : length (lasting t.head.edits) ≡ length (lasting u.head.edits) =
      length_mapped (λ (x : Edit). pos x.segment_duration) t.head.edits ∙ sym (length_mapped (edit_by none none) t.head.edits) ∙ ap length edits
      ∙ length_mapped (edit_by none none) u.head.edits ∙ sym (length_mapped (λ (x : Edit). pos x.segment_duration) u.head.edits) in
      let both = joined_same (lasting t.head.edits) (segment_times ts) (lasting u.head.edits) (segment_times us) few k in
      let one = track_is t u first h.0 both.0 in
      let rest = tracks_are ts us (tail_is (track_by l none none t) (track_by l none none u) (map (track_by l none none) ts) (map (track_by l none none) us) e) both.1 h.1 in
      λ i. one i ∷ rest i

  -- ---- in lowest terms

  untimed_tracks : (a : ℕ) (ts : List Track) → map (track_by l none none) (map (lowest_track l a) ts) ≡ map (track_by l none none) ts
  untimed_tracks a [] = refl
  untimed_tracks a (t ∷ ts) = λ i. track_twice l none (divided a) none (divided (divisor_of (track_times l t))) refl t i ∷ untimed_tracks a ts i

  untimed_lowest : (p : Presentation) → untimed l (lowest l p) ≡ untimed l p
  untimed_lowest p =
      let a = divisor_of (movie_times l p) in
      λ i. record (untimed l p) { movie = record p.movie { timescale = duration_twice l none (divided a) l.timing p.movie.timescale i }; tracks = untimed_tracks a p.tracks i }

  lowest_times : (a : ℕ) (t : Track) → track_times l (lowest_track l a t) ≡ map (sized (divided (divisor_of (track_times l t)))) (track_times l t)
  lowest_times a t = track_times_divided l (divided a) (divisor_of (track_times l t)) t (divisor_divides (track_times l t))

  lowest_movie : (p : Presentation) → movie_times l (lowest l p) ≡ map (sized (divided (divisor_of (movie_times l p)))) (movie_times l p)
  lowest_movie p =
      let a = divisor_of (movie_times l p) in
      let scale = duration_by l (divided a) (zero-div a) l.timing p.movie.timescale in
      let rest = segment_times_by l (divided a) (λ t. divided (divisor_of (track_times l t))) p.tracks in
      λ i. pos (scale i) ∷ rest i

  fractions_of : (a b : ℕ) (ts us : List Track) → map (lowest_track l a) ts ≡ map (lowest_track l b) us → AllZip (λ (t u : Track). SameTimes (track_times l t) (track_times l u)) ts us
  fractions_of a b [] [] e = tt
  fractions_of a b [] (u ∷ us) e = absurd cc
  fractions_of a b (t ∷ ts) [] e = absurd cc
  fractions_of a b (t ∷ ts) (u ∷ us) e =
      let first = head_is (lowest_track l a t) (lowest_track l b u) (map (lowest_track l a) ts) (map (lowest_track l b) us) e in
      let times = sym (lowest_times a t) ∙ ap (track_times l) first ∙ lowest_times b u in
      (lowest_to_times (track_times l t) (track_times l u) times, fractions_of a b ts us (tail_is (lowest_track l a t) (lowest_track l b u) (map (lowest_track l a) ts) (map (lowest_track l b) us) e))

  lowest_of : (a b : ℕ) (ts us : List Track) → AllZip (λ (t u : Track). SameTimes (track_times l t) (track_times l u)) ts us → AllZip SameTracks (map (lowest_track l a) ts) (map (lowest_track l b) us)
  lowest_of a b [] [] h = tt
  lowest_of a b [] (u ∷ us) h = absurd h
  lowest_of a b (t ∷ ts) [] h = absurd h
  lowest_of a b (t ∷ ts) (u ∷ us) h = (lowest_times a t ∙ times_to_lowest (track_times l t) (track_times l u) h.0 ∙ sym (lowest_times b u), lowest_of a b ts us h.1)

  exact_to : (p q : Presentation) → lowest l p ≡ lowest l q → SameButTimescales l p q
  exact_to p q e = record {
    rest = sym (untimed_lowest p) ∙ ap (untimed l) e ∙ untimed_lowest q;
    movie = lowest_to_times (movie_times l p) (movie_times l q) (sym (lowest_movie p) ∙ ap (movie_times l) e ∙ lowest_movie q);
    tracks = fractions_of (divisor_of (movie_times l p)) (divisor_of (movie_times l q)) p.tracks q.tracks (ap (λ (x : Presentation). x.tracks) e);
  }

  exact_from : (p q : Presentation) → SameButTimescales l p q → lowest l p ≡ lowest l q
  exact_from p q same =
      let a = divisor_of (movie_times l p) in
      let b = divisor_of (movie_times l q) in
      let rest : untimed l (lowest l p) ≡ untimed l (lowest l q) = untimed_lowest p ∙ same.rest ∙ sym (untimed_lowest q) in
      let times : movie_times l (lowest l p) ≡ movie_times l (lowest l q) = lowest_movie p ∙ times_to_lowest (movie_times l p) (movie_times l q) same.movie ∙ sym (lowest_movie q) in
      let left = segment_times (map (lowest_track l a) p.tracks) in
      let right = segment_times (map (lowest_track l b) q.tracks) in
      let s = timescale_by l (divided a) p.movie.timescale in
      let r = timescale_by l (divided b) q.movie.timescale in
      let counted : counted_timescale l s ≡ counted_timescale l r = ap unsigned_abs (head_is (pos (counted_timescale l s)) (pos (counted_timescale l r)) left right times) in
      let scale : s ≡ r = duration_is l.timing s r (ap (λ (x : Presentation). x.movie.timescale) rest) counted in
      let segments = tail_is (pos (counted_timescale l s)) (pos (counted_timescale l r)) left right times in
      let tracks = tracks_are (map (lowest_track l a) p.tracks) (map (lowest_track l b) q.tracks) (ap (λ (x : Presentation). x.tracks) rest) segments (lowest_of a b p.tracks q.tracks same.tracks) in
      λ i. record { movie = record (rest i).movie { timescale = scale i }; tracks = tracks i }

pub scaled_is_exact : ScaledIsExact
scaled_is_exact l p q = (exact_to l (reduce l p) (reduce l q), exact_from l (reduce l p) (reduce l q))
