-- Why a track is refused of which less is left: without its edits, its ends or its origins, or in lowest terms.
use Rattle.std.proofs.Common.{◌≡◌, ℕ, ◌+◌, max, Bool, true, false, if◌then◌else◌, List, [], ◌∷◌, refl, ap, ◌∙◌, inl, inr}
use Rattle.std.specs.Prelude.{◌&&◌, ◌||◌, not, Result, Ok, Err}
use Rattle.mp4_boxes.specs.declared.fault.Fault.{Fault}
use Rattle.mp4_head.specs.words.Seen.{track_seen}
use Rattle.mp4_head.specs.declared.heads.TrackHead.{TrackHead}
use Rattle.mp4_content.specs.format.Reduced.{start_left}
use Rattle.mp4_content.specs.format.Timescales.{divided}
use Rattle.mp4_content.specs.declared.without.Without.{Without}
use Rattle.mp4_present.specs.declared.track_info.TrackInfo.{TrackInfo}
use Rattle.mp4_content.specs.words.LeftTimes.{MayBeLong, check_on, check_track, check_tracks, is_long, length_by, moves_limits, offset_fault, time_fault}
use Rattle.mp4_content.specs.declared.measures.Total.{Total}

-- where none of these is left out
pub none_moves : (l : Without) → moves_limits l ≡ false → (l.edits ≡ false) × (l.ends ≡ false) × (l.origins ≡ false) × (l.timescales ≡ false)
none_moves l e = by l.edits l.ends l.origins l.timescales e
  where
    by : (a b c d : Bool) → (a || b || c || d) ≡ false → (a ≡ false) × (b ≡ false) × (c ≡ false) × (d ≡ false)
    by true b c d e = absurd cc
    by false true c d e = absurd cc
    by false false true d e = absurd cc
    by false false false true e = absurd cc
    by false false false false e = (refl, refl, refl, refl)

origins_of : (o n : Bool) → (o && not n) ≡ true → o ≡ true
origins_of true n e = refl
origins_of false n e = absurd cc

module _ (l : Without) (timescale : ℕ) (some : moves_limits l ≡ true) (counts : l.timing ≡ false) where
  one_may : (h : TrackHead) (own : ℕ) (info : TrackInfo) (total : Total) (f : Fault) → check_track l timescale h own info total ≡ Err f → MayBeLong l f
  one_may h own info total f e = by (is_long (divided own (start_left l info.start) + total.duration) len) (l.origins && not total.is_near) refl e
    where
      len : ℕ
      len = length_by (track_seen h).edits timescale (track_seen h).media.timescale total.duration

      by : (a b : Bool) → (l.origins && not total.is_near) ≡ b → (if a then Err (time_fault h.offset) else if b then Err (offset_fault h.offset) else Ok len) ≡ Err f → MayBeLong l f
      by true b y e = let same : f ≡ time_fault h.offset = cc in (some, counts, inl (ap (λ (x : Fault). x.kind) same), ap (λ (x : Fault). x.box_type) same)
      by false true y e = let same : f ≡ offset_fault h.offset = cc in (some, counts, inr (origins_of l.origins total.is_near y, ap (λ (x : Fault). x.kind) same), ap (λ (x : Fault). x.box_type) same)
      by false false y e = absurd cc

  more_may : (f : Fault) (h : TrackHead) (own : ℕ) (info : TrackInfo) (total : Total) (on : ℕ → Result ℕ Fault) (r : Result ℕ Fault) → check_track l timescale h own info total ≡ r → ((len : ℕ) → on len ≡ Err f → MayBeLong l f) → check_on on r ≡ Err f → MayBeLong l f
  more_may f h own info total on (Ok len) e rest is = rest len is
  more_may f h own info total on (Err x) e rest is = let same : x ≡ f = cc in one_may h own info total f (e ∙ ap (λ (y : Fault). Err y) same)

  all_may : (longest : ℕ) (hs : List TrackHead) (owns : List ℕ) (infos : List TrackInfo) (totals : List Total) (f : Fault) → check_tracks l timescale longest hs owns infos totals ≡ Err f → MayBeLong l f
  all_may longest [] owns infos totals f e = absurd cc
  all_may longest (h ∷ hs) [] infos totals f e = absurd cc
  all_may longest (h ∷ hs) (own ∷ owns) [] totals f e = absurd cc
  all_may longest (h ∷ hs) (own ∷ owns) (info ∷ infos) [] f e = absurd cc
  all_may longest (h ∷ hs) (own ∷ owns) (info ∷ infos) (total ∷ totals) f e =
      more_may f h own info total (λ len. check_tracks l timescale (max longest len) hs owns infos totals) (check_track l timescale h own info total) refl (λ len is. all_may (max longest len) hs owns infos totals f is) e

pub may_pass : (l : Without) (timescale longest : ℕ) (hs : List TrackHead) (owns : List ℕ) (infos : List TrackInfo) (totals : List Total) (f : Fault) → moves_limits l ≡ true → l.timing ≡ false → check_tracks l timescale longest hs owns infos totals ≡ Err f → MayBeLong l f
may_pass l timescale longest hs owns infos totals f some counts e = all_may l timescale some counts longest hs owns infos totals f e
