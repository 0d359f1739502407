-- To begin at 0 is to be without origins: so what is left is what is left without them of a presentation whose edits say how long tracks wait.
use Rattle.std.proofs.Common.{◌≡◌, ℕ, suc, Bool, true, false, List, [], ◌∷◌, length, map, refl, sym, ap, subst, ◌∙◌, ℤ}
use Rattle.std.specs.Prelude.{◌||◌}
use Rattle.std.specs.List.{AllZip}
use Rattle.mp4_boxes.proofs.Plain.{false_true, or_false}
use Rattle.mp4_present.specs.format.Presentation.{Sample, Track, Presentation}
use Rattle.mp4_present.specs.format.Waiting.{waiting_tracks}
use Rattle.mp4_content.specs.format.Reduced.{first_offset, reduce_from, reduce_track, number_tracks, reduce}
use Rattle.mp4_content.specs.format.ReducedLaws.{both}
use Rattle.mp4_content.specs.format.Timescales.{scaled}
use Rattle.mp4_content.specs.format.TimescalesLaws.{only_origins}
use Rattle.mp4_content.specs.format.LeadIns.{says_beginnings, Moment, wait_of, told_by, offset_less, begun, all_begun, with_origins, words_told, told}
use Rattle.mp4_content.specs.format.LeadInsLaws.{KeptIsTold, LeftIsTold}
use Rattle.mp4_content.specs.declared.without.Without.{Without}
use Rattle.mp4_content.proofs.RemainingScaled.{remaining_is_scaled}
use Rattle.mp4_content.proofs.TimescalesWords.{scales_once}
use Rattle.mp4_content.proofs.LeadInsTracks.{where_told, where_more}

-- ---- without origins

offsets_begun : (count : ℕ) (first : ℤ) (n : ℕ) (samples : List Sample) → map (offset_less first) samples ≡ reduce_from only_origins count first n samples
offsets_begun count first n [] = refl
offsets_begun count first n (s ∷ samples) = λ i. offset_less first s ∷ offsets_begun count first (suc n) samples i

tracks_begun : (place : ℕ) (tracks : List Track) → map begun tracks ≡ number_tracks only_origins place (map (reduce_track only_origins) tracks)
tracks_begun place [] = refl
tracks_begun place (t ∷ tracks) = λ i. record t { start = 0; samples = offsets_begun (length t.samples) (first_offset t.samples) 0 t.samples i } ∷ tracks_begun (suc place) tracks i

pub begun_is : (p : Presentation) → all_begun p ≡ reduce only_origins p
begun_is p = λ i. record p { tracks = tracks_begun 1 p.tracks i }

pub begun_scaled : (c : Bool) (l : Without) (p : Presentation) → scaled c l (all_begun p) ≡ scaled c (both l only_origins) p
begun_scaled c l p = ap (scaled c l) (begun_is p) ∙ scales_once false c only_origins l p (λ e. absurd (false_true e)) (λ e. absurd (false_true e), λ e. absurd (false_true e))

-- ---- the same words

with_both : (l : Without) → both l only_origins ≡ with_origins true l
with_both l = λ i. record {
  times = or_false l.times i;
  edits = or_false l.edits i;
  flags = or_false l.flags i;
  groups = or_false l.groups i;
  metadata = or_false l.metadata i;
  bitrates = or_false l.bitrates i;
  ends = or_false l.ends i;
  origins = l.origins || true;
  labels = or_false l.labels i;
  timing = or_false l.timing i;
  roles = or_false l.roles i;
  ids = or_false l.ids i;
  timescales = or_false l.timescales i;
  lead_ins = or_false l.lead_ins i;
}

with_none : (l : Without) → with_origins false l ≡ l
with_none l = λ i. record l { origins = or_false l.origins i }

pub kept_is_told : KeptIsTold
kept_is_told true c l p = begun_scaled c l (told true p) ∙ ap (λ (words : Without). scaled c words (told true p)) (with_both l)
kept_is_told false c l p = ap (λ (words : Without). scaled c words p) (sym (with_none l))

pub left_is_told : LeftIsTold
left_is_told l p = kept_is_told l.lead_ins l.timescales l p ∙ sym (remaining_is_scaled (words_told l) (told l.lead_ins p))

-- ---- the same but for edits

abbrev pub SameButEdits : Track → Track → Type 0
SameButEdits t u = (t.samples ≡ u.samples) × (t.start ≡ u.start)

all_same : (tracks : List Track) → AllZip SameButEdits tracks tracks
all_same [] = tt
all_same (t ∷ tracks) = ((refl, refl), all_same tracks)

waiting_same : (f : Track → ℕ) (tracks : List Track) → AllZip SameButEdits (waiting_tracks (map f tracks) tracks) tracks
waiting_same f [] = tt
waiting_same f (t ∷ tracks) = ((refl, refl), waiting_same f tracks)

-- Where edits say how long tracks wait, samples and starts stay.
pub told_tracks : (wait : Moment → ℕ) (p : Presentation) → AllZip SameButEdits (told_by wait p).tracks p.tracks
told_tracks wait p = by (says_beginnings p) refl
  where
    by : (b : Bool) → says_beginnings p ≡ b → AllZip SameButEdits (told_by wait p).tracks p.tracks
    by true e = subst (λ (q : Presentation). AllZip SameButEdits q.tracks p.tracks) (sym (where_told wait p e)) (waiting_same (wait_of p.movie.timescale wait) p.tracks)
    by false e = subst (λ (q : Presentation). AllZip SameButEdits q.tracks p.tracks) (sym (where_more wait p e)) (all_same p.tracks)
