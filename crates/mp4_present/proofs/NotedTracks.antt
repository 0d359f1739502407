-- One more note of a track, and what is told of the notes.
use Rattle.std.proofs.Common.{◌≡◌, ℕ, zero, suc, ◌<◌, ◌≤◌, Bool, true, false, cond, List, [], ◌∷◌, length, map, slice_set, slice_index_or, Some, None, refl, ap, arith}
use Rattle.mp4_frag.specs.words.Noted.{with_note, noted_at}
use Rattle.mp4_frag.specs.words.OwnTrafs.{OwnSeen}
use Rattle.mp4_frag.specs.words.Tracking.{WhereNoted}
use Rattle.mp4_frag.specs.declared.next_traf.OwnTraf.{OwnTraf}
use Rattle.mp4_present.specs.words.OwnTrafs.{own_seen, told_of}
use Rattle.mp4_present.specs.declared.own_trafs.OwnTrafs.{OwnTrafs}
use Rattle.mp4_present.specs.declared.track_places.NotedTracks.{NotedTracks}

-- ---- one more note

-- at its place
pub noted_set : (k : ℕ) (owns : List OwnTrafs) (d new : OwnTrafs) (note : OwnTraf) → k < length owns → own_seen new ≡ with_note note (own_seen (slice_index_or owns k d)) → map own_seen (slice_set owns k new) ≡ noted_at k note (map own_seen owns)
noted_set k [] d new note lt e = absurd (omega arith)
noted_set zero (o ∷ owns) d new note lt e = ap (λ (x : OwnSeen). x ∷ map own_seen owns) e
noted_set (suc k) (o ∷ owns) d new note lt e = ap (λ (os : List OwnSeen). own_seen o ∷ os) (noted_set k owns d new note (omega arith) e)

-- where the track has no notes
pub noted_beyond : (k : ℕ) (owns : List OwnTrafs) (note : OwnTraf) → length owns ≤ k → map own_seen owns ≡ noted_at k note (map own_seen owns)
noted_beyond k [] note le = refl
noted_beyond zero (o ∷ owns) note le = absurd (omega arith)
noted_beyond (suc k) (o ∷ owns) note le = ap (λ (os : List OwnSeen). own_seen o ∷ os) (noted_beyond k owns note (omega arith))

-- ---- what is told

-- where there was memory for all
pub told_both : (a b : NotedTracks) (P : List OwnSeen → List OwnSeen → Type 0) → a.is_refused ≡ false → b.is_refused ≡ false → WhereNoted (told_of a) (told_of b) P → P (map own_seen a.own.items) (map own_seen b.own.items)
told_both a b P e f h = rw (e, f) at h

-- what is told of notes that were told before
pub told_more : (v : Bool) (owns now : List OwnSeen) (P : List OwnSeen → List OwnSeen → Type 0) → P owns now → WhereNoted (cond v None (Some owns)) (cond v None (Some now)) P
told_more true owns now P h = tt
told_more false owns now P h = h
