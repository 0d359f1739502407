-- What the differences between two presentations tell: where there is none, what remains of them is the same.
use Rattle.std.proofs.Common.{◌≡◌, ℕ, Bool, true, false, if◌then◌else◌, List, [], length, map, ℤ, refl, sym, ap, ◌∙◌, arith}
use Rattle.std.specs.List.{AllByRecursion}
use Rattle.mp4_boxes.proofs.Each.{each_value}
use Rattle.mp4_tables.specs.format.Groups.{Groups}
use Rattle.mp4_present.specs.format.Presentation.{Sample, Track, Presentation, IsSample, IsTrack, Valid}
use Rattle.mp4_content.specs.format.Reduced.{reduce_sample, first_offset, reduce_track}
use Rattle.mp4_content.specs.format.Remaining.{movie_divisor, remaining, remaining_track, track_divisor}
use Rattle.mp4_content.specs.format.Timescales.{divided}
use Rattle.mp4_content.specs.declared.without.Without.{Without}
use Rattle.mp4_content.specs.format.Comparison.{byte_differences, sample_differences, track_differences, differences}
use Rattle.mp4_content.specs.format.Differences.{each_differ}
use Rattle.mp4_content.specs.format.ComparisonLaws.{EachDifferenceIsOne, NoDifferenceIsSame}
use Rattle.mp4_content.specs.declared.comparing.differences.Subject.{Subject}
use Rattle.mp4_content.specs.declared.comparing.differences.Subject.TheVariants as subjects
use Rattle.mp4_content.specs.declared.comparing.differences.Field.TheVariants as fields
use Rattle.mp4_content.proofs.Numbered.{numbered_each}
use Rattle.mp4_content.proofs.RemainingValues.{divided_each}
use Rattle.mp4_content.proofs.SamplesReduced.{reduced_each}
use Rattle.mp4_content.proofs.ComparisonValues.{Tells, both, weaker, number_tells, signed_tells, bytes_tell, each_tells, differ_self, bytes_self, each_self}
use Rattle.mp4_content.proofs.ComparisonHeads.{head_tells, movie_tells, head_self, movie_self}
use Rattle.mp4_content.proofs.ComparisonGroups.{IsMap, index_tells, index_self}

-- ---- samples

abbrev pub HasMap : Sample → Type 0
HasMap s = IsMap s.groups

bytes_equal : (of : Subject) (xs ys : List ℕ) → Tells (byte_differences of xs ys) (xs ≡ ys)
bytes_equal of xs ys = weaker (both (number_tells of fields.Size (length xs) (length ys)) (bytes_tell of (λ (k : ℕ). fields.Byte k (length xs)) xs ys)) (λ h. h.1 h.0)

pub sample_tells : (track n : ℕ) (a b : Sample) → Tells (sample_differences track n a b) (HasMap a → HasMap b → a ≡ b)
sample_tells track n a b =
    let of = subjects.Sample track n in
    let times = both (number_tells of fields.Duration a.duration b.duration) (signed_tells of fields.Offset a.offset b.offset) in
    let front = both (both times (number_tells of fields.Flags a.flags b.flags)) (number_tells of fields.Description a.description b.description) in
    weaker (both (both front (index_tells of a.groups b.groups)) (bytes_equal of a.bytes b.bytes)) (λ h g k i. record {
      duration = h.0.0.0.0.0 i;
      offset = h.0.0.0.0.1 i;
      flags = h.0.0.0.1 i;
      description = h.0.0.1 i;
      groups = h.0.1 g k i;
      bytes = h.1 i;
    })

pub sample_self : (track n : ℕ) (a : Sample) → sample_differences track n a a ≡ []
sample_self track n a = rw (index_self (subjects.Sample track n) a.groups) (simp (differ_self, bytes_self))

-- ---- tracks

-- a matrix of nine numbers, and samples in maps
pub record IsPlain (t : Track) : Type 0 where
  pub nine : length t.head.matrix ≡ 9
  pub maps : AllByRecursion HasMap t.samples

track_tells : (n : ℕ) (a b : Track) → Tells (track_differences n a b) (IsPlain a → IsPlain b → a ≡ b)
track_tells n a b =
    let of = subjects.Track n in
    let front = both (head_tells of a.head b.head) (number_tells of fields.Start a.start b.start) in
    let samples = each_tells HasMap (sample_differences n) (sample_tells n) 1 a.samples b.samples in
    weaker (both (both front (number_tells of fields.Samples (length a.samples) (length b.samples))) samples) (λ h g k i. record {
      head = h.0.0.0 (g.nine ∙ sym k.nine) i;
      start = h.0.0.1 i;
      samples = h.1 h.0.1 g.maps k.maps i;
    })

samples_self : (track : ℕ) (samples : List Sample) → each_differ (sample_differences track) 1 samples samples ≡ []
samples_self track samples = each_self (sample_differences track) (sample_self track) 1 samples

track_self : (n : ℕ) (a : Track) → track_differences n a a ≡ []
track_self n a = rw (head_self (subjects.Track n) a.head) (simp (differ_self, samples_self))

-- ---- the whole

pub record IsAllPlain (p : Presentation) : Type 0 where
  pub nine : length p.movie.matrix ≡ 9
  pub tracks : AllByRecursion IsPlain p.tracks

whole_tells : (p q : Presentation) → Tells (differences p q) (IsAllPlain p → IsAllPlain q → p ≡ q)
whole_tells p q =
    let front = both (movie_tells p.movie q.movie) (number_tells subjects.Movie fields.Tracks (length p.tracks) (length q.tracks)) in
    weaker (both front (each_tells IsPlain track_differences track_tells 1 p.tracks q.tracks)) (λ h g k i. record {
      movie = h.0.0 (g.nine ∙ sym k.nine) i;
      tracks = h.1 h.0.1 g.tracks k.tracks i;
    })

tracks_self : (tracks : List Track) → each_differ track_differences 1 tracks tracks ≡ []
tracks_self tracks = each_self track_differences track_self 1 tracks

whole_self : (p : Presentation) → differences p p ≡ []
whole_self p = rw (movie_self p.movie) (simp (differ_self, tracks_self))

pub each_difference_is_one : EachDifferenceIsOne
each_difference_is_one p q = (whole_tells p q).each

-- ---- what remains of what is valid

pub map_left : (b : Bool) (groups : Groups) → IsMap groups → IsMap (if b then [] else groups)
map_left true groups h = record { each = tt; order = refl }
map_left false groups h = h

module _ (l : Without) where
  sample_plain : (descriptions count : ℕ) (first : ℤ) (n : ℕ) (s : Sample) → IsSample descriptions s → HasMap (reduce_sample l count first n s)
  sample_plain descriptions count first n s h = map_left l.groups s.groups (record { each = h.groups; order = h.groups_in_order })

  track_plain : (t : Track) → IsTrack t → IsPlain (reduce_track l t)
  track_plain t h = record {
    nine = h.head.matrix.nine;
    maps =
        let many = length t.head.media.descriptions in
        let first = first_offset t.samples in
        reduced_each (IsSample many) HasMap l (length t.samples) first (sample_plain many (length t.samples) first) 0 t.samples h.samples;
  }

  -- in lowest terms too
  divided_plain : (divisor : ℕ) (t : Track) → IsTrack t → IsPlain (remaining_track l divisor t)
  divided_plain divisor t h =
      let left = track_plain t h in
      let samples = (reduce_track l t).samples in
      record { nine = left.nine; maps = divided_each l HasMap HasMap (divided (track_divisor l t)) (length samples) (λ n s m. m) 0 samples left.maps }

  pub all_plain : (p : Presentation) → Valid p → IsAllPlain (remaining l p)
  all_plain p v =
      let left = remaining_track l (movie_divisor l p) in
      record { nine = v.movie.matrix.nine; tracks = numbered_each l IsPlain IsPlain (λ place t some h. record { nine = h.nine; maps = h.maps }) 1 (map left p.tracks) (omega arith) (each_value IsTrack IsPlain left (divided_plain (movie_divisor l p)) p.tracks v.tracks) }

pub no_difference_is_same : NoDifferenceIsSame
no_difference_is_same l p q v w = (
  λ e. (whole_tells (remaining l p) (remaining l q)).none e (all_plain l p v) (all_plain l q w),
  λ e. ap (λ (x : Presentation). differences x (remaining l q)) e ∙ whole_self (remaining l q),
)
