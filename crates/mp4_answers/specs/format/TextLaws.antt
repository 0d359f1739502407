-- Laws of texts.
use Rattle.std.specs.Prelude.{◌≡◌, ◌⊎◌, ℕ, List, ◌∷◌, ◌++◌, map, flat_map, Contains}
use Rattle.sha2.specs.Sha256.{sha256}
use Rattle.mp4_head.specs.format.Head.{Kept, Media, TrackHead}
use Rattle.mp4_present.specs.format.Presentation.{IsWithinLimits, Sample, Track, Presentation, Valid}
use Rattle.mp4_content.specs.format.LeadIns.{left_of, told}
use Rattle.mp4_content.specs.declared.without.Without.{Without}
use Rattle.mp4_answers.specs.format.Text.{text}

-- Where the same is left of two presentations, they have the same text.
abbrev pub SameIsSameText : Type 0
SameIsSameText = (l : Without) (p q : Presentation) → left_of l p ≡ left_of l q
    → text l p ≡ text l q

-- What a text may have digests of: the payloads that it names, and the bytes of each sample.
abbrev pub payloads_of : List Kept → List (List ℕ)
payloads_of kept = map (λ (k : Kept). k.payload) kept

abbrev pub digested_media : Media → List (List ℕ)
digested_media m = m.handler ∷ m.extended_languages
    ++ m.header.payload ∷ payloads_of m.descriptions

abbrev pub digested_head : TrackHead → List (List ℕ)
digested_head t = payloads_of t.kept ++ digested_media t.media ++ t.group_descriptions

abbrev pub digested_track : Track → List (List ℕ)
digested_track t = digested_head t.head ++ map (λ (s : Sample). s.bytes) t.samples

abbrev pub digested : Presentation → List (List ℕ)
digested p = payloads_of p.movie.kept ++ flat_map digested_track p.tracks

-- two messages of one SHA-256, one among these, the other among those
pub record Collision (these those : List (List ℕ)) : Type 0 where
  pub first : List ℕ
  pub second : List ℕ
  pub is_first : Contains these first
  pub is_second : Contains those second
  pub unequal : first ≡ second → ⊥
  pub same : sha256 first ≡ sha256 second

-- Where two valid presentations have the same text, the same is left of them, or a payload or
-- sample that is left of the one, and one of other bytes that is left of the other, have one
-- SHA-256. (Both are within the limits as they are told how long their tracks wait: else neither
-- has a text.)
abbrev pub TextsTell : Type 0
TextsTell = (l : Without) (p q : Presentation) → Valid p → Valid q
    → IsWithinLimits (told l.lead_ins p) → IsWithinLimits (told l.lead_ins q)
    → text l p ≡ text l q
    → (left_of l p ≡ left_of l q) ⊎ Collision (digested (left_of l p)) (digested (left_of l q))
