-- The JSON of tracks, one by one.
use Rattle.std.proofs.Common.{◌≡◌, ◌⊎◌, inl, inr, ℕ, false, List, [], ◌∷◌, ◌++◌, length, map, refl, sym, ap, ◌∙◌, append_assoc, arith}
use Rattle.std.specs.Prelude.{ℤ, pos, negsuc, Result, Ok, Err, IfOk}
use Rattle.std.specs.List.{AllZip}
use Rattle.std.proofs.lemmas.List.{append-nil, length-map}
use Rattle.serde_json.specs.Data.{Data, number}
use Rattle.serde_json.specs.Find.{of_integer}
use Rattle.serde_json.specs.View.{items_of}
use Rattle.serde_json.specs.Written.{has_float, items_have_float, compact_text}
use Rattle.mp4_head.specs.format.Head as heads
use Rattle.mp4_head.specs.words.Seen.{track_seen}
use Rattle.mp4_head.specs.declared.heads.TrackHead.{TrackHead}
use Rattle.mp4_present.specs.declared.track_info.TrackInfo.{TrackInfo}
use Rattle.mp4_present.specs.format.Presentation.{Track, Presentation, total_duration, movie_length}
use Rattle.mp4_present.specs.format.Presentation.{heads as heads_of}
use Rattle.mp4_answers.specs.format.Texts.{edit_data, description_value, movie_data, shown_track, sample_data, show_value}
use Rattle.mp4_answers.specs.words.ShowValue.{info_value, infos_values, ShowValue}

-- one track more
pub infos_more : (done done_after all : List Data) (hs hs_after : List TrackHead) (infos infos_after : List TrackInfo) (h : TrackHead) (n : TrackInfo) (d : Data)
    → done ++ infos_values (map track_seen hs) infos ≡ all → hs ≡ h ∷ hs_after → infos ≡ n ∷ infos_after → d ≡ info_value (track_seen h) n → done_after ≡ done ++ d ∷ []
    → done_after ++ infos_values (map track_seen hs_after) infos_after ≡ all
infos_more done done_after all hs hs_after infos infos_after h n d e first_head first_info value more =
    let before = rw (first_head, first_info) at e in
    rw (more, append_assoc, value) before

none_left : (hs : List heads.TrackHead) (infos : List TrackInfo) → (length hs ≡ 0) ⊎ (length infos ≡ 0) → infos_values hs infos ≡ []
none_left [] infos e = refl
none_left (h ∷ hs) [] e = refl
none_left (h ∷ hs) (n ∷ infos) (inl e) = absurd (omega arith)
none_left (h ∷ hs) (n ∷ infos) (inr e) = absurd (omega arith)

-- no track is left
pub infos_all : (done all : List Data) (hs : List TrackHead) (infos : List TrackInfo) → done ++ infos_values (map track_seen hs) infos ≡ all → (length hs ≡ 0) ⊎ (length infos ≡ 0) → done ≡ all
infos_all done all hs infos e (inl none) = sym (append-nil done) ∙ ap (λ (ds : List Data). done ++ ds) (sym (none_left (map track_seen hs) infos (inl (rw length-map none)))) ∙ e
infos_all done all hs infos e (inr none) = sym (append-nil done) ∙ ap (λ (ds : List Data). done ++ ds) (sym (none_left (map track_seen hs) infos (inr none))) ∙ e

-- ---- what is shown has no float

integer-has_float : (z : ℤ) → has_float (number (of_integer z)) ≡ false
integer-has_float (pos n) = refl
integer-has_float (negsuc n) = refl

edits-has_float : (edits : List heads.Edit) → items_have_float (items_of (map edit_data edits)) ≡ false
edits-has_float [] = refl
edits-has_float (e ∷ edits) = simp (integer-has_float, edits-has_float edits)

descriptions-has_float : (kept : List heads.Kept) → items_have_float (items_of (map description_value kept)) ≡ false
descriptions-has_float [] = refl
descriptions-has_float (k ∷ kept) = descriptions-has_float kept

tracks-has_float : (hs : List heads.TrackHead) (infos : List TrackInfo) → items_have_float (items_of (infos_values hs infos)) ≡ false
tracks-has_float [] infos = refl
tracks-has_float (h ∷ hs) [] = refl
tracks-has_float (h ∷ hs) (n ∷ infos) = simp (edits-has_float, descriptions-has_float, tracks-has_float hs infos)

pub shown-has_float : (length timescale : ℕ) (hs : List heads.TrackHead) (infos : List TrackInfo) → has_float (movie_data length timescale (infos_values hs infos)) ≡ false
shown-has_float length timescale hs infos = simp tracks-has_float

-- the text of a value without floats
pub text_of : {S E : Type 0} (bytes : S → List ℕ) (r : Result S E) (v d : Data) → v ≡ d → has_float d ≡ false
    → IfOk r (λ s. has_float v ≡ false → bytes s ≡ compact_text v) → IfOk r (λ s. bytes s ≡ compact_text d)
text_of bytes (Ok s) v d same none h = rw (← same) (h (rw same none))
text_of bytes (Err e) v d same none h = tt

-- ---- what is shown of a presentation

-- the numbers of a track
pub record IsInfoOf (t : Track) (info : TrackInfo) : Type 0 where
  pub bytes : info.bytes ≡ length (sample_data t)
  pub duration : info.duration ≡ total_duration t.samples
  pub samples : info.samples ≡ length t.samples
  pub start : info.start ≡ t.start

infos_are : (tracks : List Track) (infos : List TrackInfo) → AllZip IsInfoOf tracks infos → infos_values (map (λ (t : Track). t.head) tracks) infos ≡ map shown_track tracks
infos_are [] [] h = refl
infos_are [] (n ∷ infos) h = absurd h
infos_are (t ∷ tracks) [] h = absurd h
infos_are (t ∷ tracks) (n ∷ infos) h = rw (h.0.bytes, h.0.duration, h.0.samples, h.0.start) (ap (λ (ds : List Data). shown_track t ∷ ds) (infos_are tracks infos h.1))

pub shown_is : (p : Presentation) (movie : heads.MovieHead) (hs : List heads.TrackHead) (length : ℕ) (infos : List TrackInfo) → movie ≡ p.movie → hs ≡ heads_of p → length ≡ movie_length p → AllZip IsInfoOf p.tracks infos
    → ShowValue movie hs length infos ≡ show_value p
shown_is p movie hs length infos m h l z = rw (m, h, l) (ap (λ (ds : List Data). movie_data (movie_length p) p.movie.timescale ds) (infos_are p.tracks infos z))
