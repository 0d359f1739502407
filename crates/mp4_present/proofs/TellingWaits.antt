-- Heads of tracks that are told to wait, one after the other.
use Rattle.std.proofs.Common.{◌≡◌, ℕ, zero, suc, ◌≤◌, List, [], ◌∷◌, length, map, Some, refl, sym, ap, ◌∙◌, slice_set}
use Rattle.std.specs.Prelude.{slice_get, Result, Ok, Err, IfOk}
use Rattle.mp4_boxes.specs.declared.refusal.Memory.{Memory}
use Rattle.mp4_head.specs.format.Head as heads
use Rattle.mp4_head.specs.words.Found.{SaysHead}
use Rattle.mp4_head.specs.words.Seen.{head_seen, track_seen}
use Rattle.mp4_head.specs.declared.heads.MovieHead.{MovieHead}
use Rattle.mp4_head.specs.declared.heads.TrackHead.{TrackHead}
use Rattle.mp4_present.specs.format.Waiting.{waiting_head, waiting_heads}
use Rattle.mp4_present.specs.words.HeadsRead.{SaysMovie, places_of, wait_at, waiting_or}
use Rattle.mp4_present.specs.words.Movies.{MovieSeen, moov_box}
use Rattle.mp4_present.specs.words.OneTrack.{only_head, shown_at}
use Rattle.mp4_present.proofs.Changed.{ChangedTo, changed_all}

-- heads of which the first stands at this place
abbrev told_from : List ℕ → ℕ → List heads.TrackHead → List heads.TrackHead
told_from waits place [] = []
told_from waits place (h ∷ hs) = waiting_head (wait_at waits place) h ∷ told_from waits (suc place) hs

told_none : (place : ℕ) (hs : List heads.TrackHead) → told_from [] place hs ≡ waiting_heads [] hs
told_none place [] = refl
told_none place (h ∷ hs) = ap (λ us. waiting_head 0 h ∷ us) (told_none (suc place) hs)

told_behind : (wait : ℕ) (waits : List ℕ) (place : ℕ) (hs : List heads.TrackHead) → told_from (wait ∷ waits) (suc place) hs ≡ told_from waits place hs
told_behind wait waits place [] = refl
told_behind wait waits place (h ∷ hs) = ap (λ us. waiting_head (wait_at waits place) h ∷ us) (told_behind wait waits (suc place) hs)

told_all : (waits : List ℕ) (hs : List heads.TrackHead) → told_from waits 0 hs ≡ waiting_heads waits hs
told_all [] hs = told_none 0 hs
told_all (wait ∷ waits) [] = refl
told_all (wait ∷ waits) (h ∷ hs) = ap (λ us. waiting_head wait h ∷ us) (told_behind wait waits 0 hs ∙ told_all waits hs)

pub heads_told : (waits : List ℕ) (old now : List TrackHead) (k : ℕ) → ChangedTo track_seen (λ n. waiting_head (wait_at waits n)) 0 old now k → length now ≤ k → map track_seen now ≡ waiting_heads waits (map track_seen old)
heads_told waits old now k h le =
    changed_all track_seen (λ n. waiting_head (wait_at waits n)) (told_from waits) (λ n. refl) (λ n y ys. refl) 0 old now k h le
    ∙ told_all waits (map track_seen old)

-- each stands where it stood
pub places_stay : (heads : List TrackHead) (k : ℕ) (was is : TrackHead) → slice_get heads k ≡ Some was → is.offset ≡ was.offset → places_of (slice_set heads k is) ≡ places_of heads
places_stay [] k was is at e = refl
places_stay (h ∷ heads) zero was is at e = let same : h ≡ was = cc in ap (λ n. n ∷ places_of heads) (e ∙ ap (λ (x : TrackHead). x.offset) (sym same))
places_stay (h ∷ heads) (suc k) was is at e = ap (λ places. h.offset ∷ places) (places_stay heads k was is at e)

-- what a movie says that is told to wait
pub says_told : (m : MovieSeen) (waits : List ℕ) (own shown : MovieHead) (result : Result MovieHead Memory) → m.waits ≡ Some waits → SaysHead (moov_box m) own → head_seen shown ≡ only_head m.only (head_seen own) → places_of shown.tracks.items ≡ shown_at m.only (places_of own.tracks.items)
    → IfOk result (λ told. head_seen told ≡ waiting_or (Some waits) (head_seen shown)) → IfOk result (λ told. places_of told.tracks.items ≡ places_of shown.tracks.items) → IfOk result (SaysMovie m)
says_told m waits own shown (Ok told) e says only stands seen places = record { own = own; says = says; seen = seen ∙ ap (λ w. waiting_or w (head_seen shown)) (sym e) ∙ ap (waiting_or m.waits) only; places = places ∙ stands }
says_told m waits own shown (Err r) e says only stands seen places = seen
