-- A track whose times are changed: its times then, and that one change after another is one.
use Rattle.std.proofs.Common.{◌≡◌, ℕ, zero, suc, ◌*◌, ◌/◌, Bool, true, false, if◌then◌else◌, List, [], ◌∷◌, ◌++◌, length, map, refl, sym, ap, ◌∙◌, ℤ, pos, negsuc, unsigned_abs}
use Rattle.std.specs.Int.{◌∣◌}
use Rattle.std.proofs.Math.Nat.{zero-div, div-div-eq-div-mul, eq-one_of_dvd-one}
use Rattle.std.proofs.lemmas.List.{map-append}
use Rattle.mp4_boxes.proofs.Joined.{all_first}
use Rattle.mp4_head.specs.format.Head.{Edit}
use Rattle.mp4_present.specs.format.Presentation.{Sample, Track}
use Rattle.mp4_content.specs.declared.without.Without.{Without}
use Rattle.mp4_content.specs.format.Timescales.{leaves_duration, sample_times, counted_media_time, track_times, segment_times, sized, sample_by, samples_by, media_time_by, edit_by, track_by, divided, divisor_of, lowest_track}
use Rattle.mp4_content.proofs.TimescalesDivisors.{Divides, sized_twice, divisor_of_divided}

-- ---- edits

media_time_twice : (f g : ℕ → ℕ) (z : ℤ) → media_time_by f (media_time_by g z) ≡ media_time_by (λ n. f (g n)) z
media_time_twice f g (pos n) = refl
media_time_twice f g (negsuc n) = refl

edits_twice : (a b f g : ℕ → ℕ) (edits : List Edit) → map (edit_by a f) (map (edit_by b g) edits) ≡ map (edit_by (λ n. a (b n)) (λ n. f (g n))) edits
edits_twice a b f g [] = refl
edits_twice a b f g (e ∷ edits) = λ i. record e { segment_duration = a (b e.segment_duration); media_time = media_time_twice f g e.media_time i } ∷ edits_twice a b f g edits i

abbrev pub media_times : List Edit → List ℤ
media_times edits = map (λ (e : Edit). counted_media_time e.media_time) edits

media_time_divided : (g : ℕ) (z : ℤ) → g ∣ unsigned_abs (counted_media_time z) → counted_media_time (media_time_by (divided g) z) ≡ sized (divided g) (counted_media_time z)
media_time_divided g (pos n) h = refl
media_time_divided g (negsuc zero) h = ap pos (sym (zero-div g))
media_time_divided g (negsuc (suc n)) h = λ i. pos (1 / sym (eq-one_of_dvd-one h) i)

media_times_divided : (a : ℕ → ℕ) (g : ℕ) (edits : List Edit) → Divides g (media_times edits) → media_times (map (edit_by a (divided g)) edits) ≡ map (sized (divided g)) (media_times edits)
media_times_divided a g [] h = refl
media_times_divided a g (e ∷ edits) h = λ i. media_time_divided g e.media_time h.0 i ∷ media_times_divided a g edits h.1 i

abbrev pub lasting : List Edit → List ℤ
lasting edits = map (λ (e : Edit). pos e.segment_duration) edits

lasting_by : (a f : ℕ → ℕ) (edits : List Edit) → lasting (map (edit_by a f) edits) ≡ map (sized a) (lasting edits)
lasting_by a f [] = refl
lasting_by a f (e ∷ edits) = λ i. pos (a e.segment_duration) ∷ lasting_by a f edits i

-- ---- samples

module _ (l : Without) where
  pub many_stay : (f : ℕ → ℕ) (count n : ℕ) (samples : List Sample) → length (samples_by l f count n samples) ≡ length samples
  many_stay f count n [] = refl
  many_stay f count n (s ∷ samples) = ap suc (many_stay f count (suc n) samples)

  pub duration_twice : (f g : ℕ → ℕ) (v : Bool) (d : ℕ) → (if v then (if v then d else g d) else f (if v then d else g d)) ≡ (if v then d else f (g d))
  duration_twice f g true d = refl
  duration_twice f g false d = refl

  sample_twice : (f g : ℕ → ℕ) → f 0 ≡ 0 → (count n : ℕ) (s : Sample) → sample_by l f count n (sample_by l g count n s) ≡ sample_by l (λ n. f (g n)) count n s
  sample_twice f g e count n s = λ i. record s { duration = duration_twice f g (leaves_duration l count n) s.duration i; offset = sized_twice f g s.offset e i }

  samples_twice : (f g : ℕ → ℕ) → f 0 ≡ 0 → (count n : ℕ) (samples : List Sample) → samples_by l f count n (samples_by l g count n samples) ≡ samples_by l (λ n. f (g n)) count n samples
  samples_twice f g e count n [] = refl
  samples_twice f g e count n (s ∷ samples) = λ i. sample_twice f g e count n s i ∷ samples_twice f g e count (suc n) samples i

  pub duration_by : (f : ℕ → ℕ) → f 0 ≡ 0 → (v : Bool) (d : ℕ) → (if v then 0 else if v then d else f d) ≡ f (if v then 0 else d)
  duration_by f e true d = sym e
  duration_by f e false d = refl

  sample_times_by : (f : ℕ → ℕ) → f 0 ≡ 0 → (count n : ℕ) (samples : List Sample) → sample_times l count n (samples_by l f count n samples) ≡ map (sized f) (sample_times l count n samples)
  sample_times_by f e count n [] = refl
  sample_times_by f e count n (s ∷ samples) = λ i. pos (duration_by f e (leaves_duration l count n) s.duration i) ∷ sized f s.offset ∷ sample_times_by f e count (suc n) samples i

  -- ---- tracks

  pub track_twice : (a b f g : ℕ → ℕ) → f 0 ≡ 0 → (t : Track) → track_by l a f (track_by l b g t) ≡ track_by l (λ n. a (b n)) (λ n. f (g n)) t
  track_twice a b f g e t =
      let all = t.samples in
      let count = length all in
      let once = samples_by l g count 0 all in
      let same : samples_by l f (length once) 0 once ≡ samples_by l (λ n. f (g n)) count 0 all = ap (λ n. samples_by l f n 0 once) (many_stay g count 0 all) ∙ samples_twice f g e count 0 all in
      λ i. record t {
        head = record t.head { edits = edits_twice a b f g t.head.edits i; media = record t.head.media { timescale = duration_twice f g l.timing t.head.media.timescale i } };
        start = f (g t.start);
        samples = same i;
      }

  -- the times of a track that is divided
  pub track_times_divided : (a : ℕ → ℕ) (g : ℕ) (t : Track) → Divides g (track_times l t) → track_times l (track_by l a (divided g) t) ≡ map (sized (divided g)) (track_times l t)
  track_times_divided a g t h =
      let all = t.samples in
      let count = length all in
      let once = samples_by l (divided g) count 0 all in
      let times = sample_times l count 0 all in
      let edits = media_times t.head.edits in
      let left : media_times (map (edit_by a (divided g)) t.head.edits) ≡ map (sized (divided g)) edits = media_times_divided a g t.head.edits (all_first (λ (time : ℤ). g ∣ unsigned_abs time) edits times h.1.1) in
      let right : sample_times l (length once) 0 once ≡ map (sized (divided g)) times = ap (λ n. sample_times l n 0 once) (many_stay (divided g) count 0 all) ∙ sample_times_by (divided g) (zero-div g) count 0 all in
      let scale = duration_by (divided g) (zero-div g) l.timing t.head.media.timescale in
      let joined = (λ i. left i ++ right i) ∙ sym (map-append (sized (divided g)) edits times) in
      λ i. pos (scale i) ∷ pos (divided g t.start) ∷ joined i

  -- A track that is divided by what divides its times is, in lowest terms, as it was before.
  pub lowest_of_divided : (a b g : ℕ) (t : Track) → Divides g (track_times l t) → lowest_track l a (track_by l (divided b) (divided g) t) ≡ lowest_track l (b * a) t
  lowest_of_divided a b g t h =
      let again = divisor_of (track_times l (track_by l (divided b) (divided g) t)) in
      let whole : g * again ≡ divisor_of (track_times l t) = ap (λ times. g * divisor_of times) (track_times_divided (divided b) g t h) ∙ divisor_of_divided g (track_times l t) h in
      track_twice (divided a) (divided b) (divided again) (divided g) (zero-div again) t
      ∙ (λ i. track_by l (λ n. div-div-eq-div-mul n b a i) (λ n. div-div-eq-div-mul n g again i) t)
      ∙ ap (λ k. track_by l (divided (b * a)) (divided k) t) whole

-- ---- a movie

pub segment_times_by : (l : Without) (a : ℕ → ℕ) (f : Track → ℕ → ℕ) (tracks : List Track) → segment_times (map (λ (t : Track). track_by l a (f t) t) tracks) ≡ map (sized a) (segment_times tracks)
segment_times_by l a f [] = refl
segment_times_by l a f (t ∷ tracks) =
    (λ i. lasting_by a (f t) t.head.edits i ++ segment_times_by l a f tracks i) ∙ sym (map-append (sized a) (lasting t.head.edits) (segment_times tracks))
