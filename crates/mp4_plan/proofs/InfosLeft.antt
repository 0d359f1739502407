-- What is left of tracks in numbers: they are as many, and each stands at its place.
use Rattle.std.proofs.Common.{◌≡◌, ℕ, zero, suc, ◌+◌, ◌<◌, List, [], ◌∷◌, length, map, Some, refl, ap, subst, ◌∙◌, arith}
use Rattle.std.specs.Int.{◌∣◌}
use Rattle.std.specs.Prelude.{slice_get}
use Rattle.std.specs.List.{AllZip}
use Rattle.std.specs.List.{sum_by}
use Rattle.std.proofs.lemmas.List.{length-map}
use Rattle.std.proofs.lemmas.List.Sums.{sum_by-cons}
use Rattle.mp4_present.specs.declared.track_info.TrackInfo.{TrackInfo}
use Rattle.mp4_content.specs.declared.without.Without.{Without}
use Rattle.mp4_head.specs.format.Tree.{TrackTree}
use Rattle.mp4_present.specs.format.Denotes.{FileTree, file_parts, track_of}
use Rattle.mp4_present.specs.words.Movies.{MovieSeen}
use Rattle.mp4_present.specs.words.OpenedMovie.{IsOpenedAs}
use Rattle.mp4_content.specs.words.Contents.{info_left, infos_from, infos_left, numbers_of, tracks_left}
use Rattle.mp4_content.specs.declared.tracks_left.TrackLeft.{TrackLeft}
use Rattle.mp4_content.specs.format.Reduced.{timescale_left}
use Rattle.mp4_content.specs.format.Remaining.{track_divisor}
use Rattle.mp4_content.specs.format.Timescales.{counted_timescale, divided, timescale_by}
use Rattle.mp4_content.specs.words.Divided.{divisor_at}
use Rattle.mp4_content.specs.words.Scales.{divisors_of}
use Rattle.mp4_content.proofs.ReducedValid.{scale_some}
use Rattle.mp4_content.proofs.RemainingValues.{track_divisor_divides}
use Rattle.mp4_content.proofs.TimescalesValid.{scale_some_by}
use Rattle.mp4_plan.proofs.TakenFrom.{TrackFacts, track_facts}
use Rattle.mp4_plan.proofs.SkippedTurns.{HaveScales, opened_scales}
use Rattle.mp4_boxes.proofs.Plain.{get_map}

-- the timescale that is left of it
abbrev pub scale_of_track : Without → List ℕ → ℕ → ℕ → ℕ
scale_of_track l ds k timescale = timescale_by l (divided (divisor_at ds k)) (timescale_left l timescale)

module _ (l : Without) where
  pub many_from : (place : ℕ) (ds : List ℕ) (infos : List TrackInfo) → length (infos_from l place ds infos) ≡ length infos
  many_from place ds [] = refl
  many_from place [] (info ∷ infos) = ap suc (many_from (suc place) [] infos)
  many_from place (d ∷ ds) (info ∷ infos) = ap suc (many_from (suc place) ds infos)

  pub as_many_left : (ds : List ℕ) (infos : List TrackInfo) → length (infos_left l ds infos) ≡ length infos
  as_many_left ds infos = many_from 1 ds infos

  info_from : (place : ℕ) (ds : List ℕ) (infos : List TrackInfo) (k : ℕ) (info : TrackInfo) → slice_get infos k ≡ Some info → slice_get (infos_from l place ds infos) k ≡ Some (info_left l (k + place) (divisor_at ds k) info)
  info_from place ds [] k info e = absurd cc
  info_from place [] (x ∷ infos) zero info e =
      let same : x ≡ info = cc in
      let n : place ≡ 0 + place = omega arith in
      λ i. Some (info_left l (n i) 1 (same i))
  info_from place (d ∷ ds) (x ∷ infos) zero info e =
      let same : x ≡ info = cc in
      let n : place ≡ 0 + place = omega arith in
      λ i. Some (info_left l (n i) d (same i))
  info_from place [] (x ∷ infos) (suc k) info e =
      let n : k + suc place ≡ suc k + place = omega arith in
      info_from (suc place) [] infos k info e ∙ ap (λ n. Some (info_left l n 1 info)) n
  info_from place (d ∷ ds) (x ∷ infos) (suc k) info e =
      let n : k + suc place ≡ suc k + place = omega arith in
      info_from (suc place) ds infos k info e ∙ ap (λ n. Some (info_left l n (divisor_at ds k) info)) n

  pub info_at : (ds : List ℕ) (infos : List TrackInfo) (k : ℕ) (info : TrackInfo) → slice_get infos k ≡ Some info → slice_get (infos_left l ds infos) k ≡ Some (info_left l (k + 1) (divisor_at ds k) info)
  info_at ds infos k info e = info_from 1 ds infos k info e

  -- the numbers that are kept of it
  pub track_at : (ds : List ℕ) (infos : List TrackInfo) (k : ℕ) (info : TrackInfo) → slice_get infos k ≡ Some info → slice_get (tracks_left l ds infos) k ≡ Some (numbers_of (info_left l (k + 1) (divisor_at ds k) info))
  track_at ds infos k info e = get_map numbers_of (infos_left l ds infos) k (info_left l (k + 1) (divisor_at ds k) info) (info_at ds infos k info e)

  -- they are as many, with as many samples and as many bytes
  pub tracks_many : (ds : List ℕ) (infos : List TrackInfo) → length (tracks_left l ds infos) ≡ length infos
  tracks_many ds infos = length-map (infos_left l ds infos) numbers_of ∙ as_many_left ds infos

  -- a sum of numbers that are kept
  sum_from : (f : TrackLeft → ℕ) (g : TrackInfo → ℕ) → ((place d : ℕ) (info : TrackInfo) → f (numbers_of (info_left l place d info)) ≡ g info) → (place : ℕ) (ds : List ℕ) (infos : List TrackInfo) → sum_by f (map numbers_of (infos_from l place ds infos)) ≡ sum_by g infos
  sum_from f g same place ds [] = refl
  sum_from f g same place [] (info ∷ infos) =
      let a = sum_by-cons f (numbers_of (info_left l place 1 info)) (map numbers_of (infos_from l (suc place) [] infos)) in
      let b = sum_by-cons g info infos in
      let one = same place 1 info in
      let more = sum_from f g same (suc place) [] infos in
      omega (arith, a, b, one, more)
  sum_from f g same place (d ∷ ds) (info ∷ infos) =
      let a = sum_by-cons f (numbers_of (info_left l place d info)) (map numbers_of (infos_from l (suc place) ds infos)) in
      let b = sum_by-cons g info infos in
      let one = same place d info in
      let more = sum_from f g same (suc place) ds infos in
      omega (arith, a, b, one, more)

  pub tracks_samples : (ds : List ℕ) (infos : List TrackInfo) → sum_by (λ (t : TrackLeft). t.samples) (tracks_left l ds infos) ≡ sum_by (λ (i : TrackInfo). i.samples) infos
  tracks_samples ds infos = sum_from (λ t. t.samples) (λ i. i.samples) (λ place d info. refl) 1 ds infos

  pub tracks_bytes : (ds : List ℕ) (infos : List TrackInfo) → sum_by (λ (t : TrackLeft). t.bytes) (tracks_left l ds infos) ≡ sum_by (λ (i : TrackInfo). i.bytes) infos
  tracks_bytes ds infos = sum_from (λ t. t.bytes) (λ i. i.bytes) (λ place d info. refl) 1 ds infos

  -- none of them has a timescale of 0
  scales_from : (file : List ℕ) (tree : FileTree) (place : ℕ) (trees : List TrackTree) (infos : List TrackInfo) → AllZip (TrackFacts file tree) infos trees → HaveScales infos → HaveScales (infos_from l place (map (λ (t : TrackTree). track_divisor l (track_of file (file_parts tree) t)) trees) infos)
  scales_from file tree place [] [] z h k info e = absurd cc
  scales_from file tree place [] (x ∷ infos) z h k info e = absurd z
  scales_from file tree place (t ∷ trees) [] z h k info e = absurd z
  scales_from file tree place (t ∷ trees) (x ∷ infos) z h zero info e =
      let d = track_divisor l (track_of file (file_parts tree) t) in
      let same : info_left l place d x ≡ info = cc in
      let divides : d ∣ counted_timescale l (timescale_left l x.timescale) = subst (λ n. d ∣ counted_timescale l (timescale_left l n)) z.0.left.timescale (track_divisor_divides l (track_of file (file_parts tree) t)).0 in
      subst (λ (i : TrackInfo). 0 < i.timescale) same (scale_some_by l d (timescale_left l x.timescale) divides (scale_some l x.timescale (h 0 x refl)))
  scales_from file tree place (t ∷ trees) (x ∷ infos) z h (suc k) info e = scales_from file tree (suc place) trees infos z.1 (λ j i at. h (suc j) i at) k info e

  pub left_scales : (file : List ℕ) (m : MovieSeen) (tree : FileTree) → IsOpenedAs file m tree → HaveScales (infos_left l (divisors_of l file tree) m.tracks)
  left_scales file m tree o = scales_from file tree 1 tree.movie.tracks m.tracks (track_facts file m tree o) (opened_scales file m tree o)
