-- What remains of tracks in numbers, up to a place.
use Rattle.std.proofs.Common.{◌≡◌, ℕ, zero, suc, ◌+◌, ◌<◌, List, [], ◌∷◌, ◌++◌, length, map, take, slice_index_or, sym, ap, ◌∙◌, arith}
use Rattle.mp4_present.specs.declared.track_info.TrackInfo.{TrackInfo}
use Rattle.mp4_content.specs.words.Contents.{info_left, infos_from, numbers_of, tracks_left}
use Rattle.mp4_content.specs.words.Divided.{divisor_at}
use Rattle.mp4_content.specs.declared.tracks_left.TrackLeft.{TrackLeft}
use Rattle.mp4_content.specs.declared.without.Without.{Without}

module _ (l : Without) where
  -- the track at this place of those that are left
  abbrev one_left : ℕ → List ℕ → ℕ → TrackInfo → TrackLeft
  one_left place divisors k info = numbers_of (info_left l place (divisor_at divisors k) info)

  left_from : (place k : ℕ) (divisors : List ℕ) (infos : List TrackInfo) (info : TrackInfo) → k < length infos → info ≡ slice_index_or infos k info
      → map numbers_of (infos_from l place divisors (take (suc k) infos)) ≡ map numbers_of (infos_from l place divisors (take k infos)) ++ one_left (k + place) divisors k info ∷ []
  left_from place k divisors [] info lt e = absurd (omega (arith, lt))
  left_from place zero [] (x ∷ infos) info lt e =
      let same : 0 + place ≡ place = omega arith in
      ap (λ (i : TrackInfo). numbers_of (info_left l place 1 i) ∷ []) (sym e) ∙ ap (λ n. numbers_of (info_left l n 1 info) ∷ []) (sym same)
  left_from place zero (divisor ∷ divisors) (x ∷ infos) info lt e =
      let same : 0 + place ≡ place = omega arith in
      ap (λ (i : TrackInfo). numbers_of (info_left l place divisor i) ∷ []) (sym e) ∙ ap (λ n. numbers_of (info_left l n divisor info) ∷ []) (sym same)
  left_from place (suc k) [] (x ∷ infos) info lt e =
      let same : k + suc place ≡ suc k + place = omega arith in
      ap (λ (xs : List TrackLeft). numbers_of (info_left l place 1 x) ∷ xs)
      (left_from (suc place) k [] infos info (omega (arith, lt)) e ∙ ap (λ n. map numbers_of (infos_from l (suc place) [] (take k infos)) ++ one_left n [] k info ∷ []) same)
  left_from place (suc k) (divisor ∷ divisors) (x ∷ infos) info lt e =
      let same : k + suc place ≡ suc k + place = omega arith in
      ap (λ (xs : List TrackLeft). numbers_of (info_left l place divisor x) ∷ xs)
      (left_from (suc place) k divisors infos info (omega (arith, lt)) e ∙ ap (λ n. map numbers_of (infos_from l (suc place) divisors (take k infos)) ++ one_left n divisors k info ∷ []) same)

  -- one more
  pub left_more : (k : ℕ) (divisors : List ℕ) (infos : List TrackInfo) (info : TrackInfo) (now : List TrackLeft) → k < length infos → info ≡ slice_index_or infos k info → now ≡ tracks_left l divisors (take k infos)
      → now ++ numbers_of (info_left l (k + 1) (divisor_at divisors k) info) ∷ [] ≡ tracks_left l divisors (take (k + 1) infos)
  left_more k divisors infos info now lt e is =
      let same : suc k ≡ k + 1 = omega arith in
      ap (λ (xs : List TrackLeft). xs ++ one_left (k + 1) divisors k info ∷ []) is ∙ sym (left_from 1 k divisors infos info lt e) ∙ ap (λ n. tracks_left l divisors (take n infos)) same
