-- The lines of heads.
use Rattle.std.proofs.Common.{◌≡◌, ℕ, List, [], ◌∷◌, ◌++◌, append_assoc, sym, ap, ◌∙◌, codes, decimal}
use Rattle.std.specs.Fmt.{signed_decimal}
use Rattle.std.specs.Prelude.{map, flat_map}
use Rattle.mp4_head.specs.format.Head.{Media, MovieHead, TrackHead}
use Rattle.std.proofs.lemmas.List.{append-nil}
use Rattle.mp4_answers.specs.format.Text.{edit_line, kept_lines, media_lines, movie_lines, named_line, number_line, payload_lines, track_lines}
use Rattle.mp4_answers.specs.format.Texts.{hex_digits, line_feed}
use Rattle.mp4_answers.specs.words.Telling.{media_front, movie_front, said_line, said_words, track_front}
use Rattle.mp4_answers.specs.declared.text.named_lines.Said.{Said}
use Rattle.mp4_answers.specs.declared.text.named_lines.Named.{Named}
use Rattle.mp4_answers.proofs.Told.{flat_of_map}

-- a name, and what is said of it
pub said_is : (n : Named) (name : List ℕ) (s : Said) (words : List (List ℕ)) → n.name.now ≡ name → n.said ≡ s → said_words s ≡ words → said_line n ≡ named_line name words
said_is n name s words e f g = ap (λ (bs : List ℕ). named_line bs (said_words n.said)) e ∙ ap (λ (x : Said). named_line name (said_words x)) f ∙ ap (named_line name) g

-- lines, one after the other
pub lines_are : (all : List Named) (lines : List (List ℕ)) → map said_line all ≡ lines → flat_map said_line all ≡ flat_map (λ (line : List ℕ). line) lines
lines_are all lines e = sym (flat_of_map (λ (line : List ℕ). line) said_line all) ∙ ap (flat_map (λ (line : List ℕ). line)) e

pub six_lines : (a b c d e f g more : List ℕ) → a ++ (b ++ (c ++ (d ++ (e ++ (f ++ (g ++ [])))))) ++ more ≡ a ++ b ++ c ++ d ++ e ++ f ++ g ++ more
six_lines a b c d e f g more = simp (append_assoc, append-nil)

pub nine_lines : (h a b c d e f g i j more others : List ℕ) → h ++ (a ++ (b ++ (c ++ (d ++ (e ++ (f ++ (g ++ (i ++ (j ++ []))))))))) ++ more ++ others ≡ h ++ a ++ b ++ c ++ d ++ e ++ f ++ g ++ i ++ j ++ more ++ others
nine_lines h a b c d e f g i j more others = simp (append_assoc, append-nil)

pub four_lines : (a b c d e f g h : List ℕ) → (a ++ (b ++ (c ++ (d ++ [])))) ++ e ++ f ++ g ++ h ≡ a ++ b ++ c ++ d ++ e ++ f ++ g ++ h
four_lines a b c d e f g h = simp (append_assoc, append-nil)

-- ---- heads

pub movie_is : (m : MovieHead) (front : List ℕ) → front ≡ flat_map (λ (line : List ℕ). line) (movie_front m) → movie_lines m ≡ codes "movie\n" ++ front ++ flat_map (kept_lines (codes "kept")) m.kept
movie_is m front e =
    rw e (sym (six_lines (codes "movie\n") (number_line (codes "creation") m.creation) (number_line (codes "modification") m.modification) (number_line (codes "timescale") m.timescale) (named_line (codes "rate") (signed_decimal m.rate ∷ []))
    (named_line (codes "volume") (signed_decimal m.volume ∷ [])) (named_line (codes "matrix") (map signed_decimal m.matrix)) (flat_map (kept_lines (codes "kept")) m.kept)))

pub track_is : (t : TrackHead) (front : List ℕ) → front ≡ flat_map (λ (line : List ℕ). line) (track_front t) → track_lines t ≡ (codes "track " ++ decimal t.id ++ line_feed) ++ front ++ flat_map edit_line t.edits ++ flat_map (kept_lines (codes "kept")) t.kept
track_is t front e =
    rw e (sym (nine_lines (codes "track " ++ decimal t.id ++ line_feed) (named_line (codes "flags") (hex_digits 6 t.flags ∷ [])) (number_line (codes "creation") t.creation) (number_line (codes "modification") t.modification) (named_line (codes "layer") (signed_decimal t.layer ∷ []))
    (named_line (codes "alternate_group") (signed_decimal t.alternate_group ∷ [])) (named_line (codes "volume") (signed_decimal t.volume ∷ [])) (named_line (codes "matrix") (map signed_decimal t.matrix)) (number_line (codes "width") t.width) (number_line (codes "height") t.height)
    (flat_map edit_line t.edits) (flat_map (kept_lines (codes "kept")) t.kept)))

pub media_is : (m : Media) (front : List ℕ) → front ≡ flat_map (λ (line : List ℕ). line) (media_front m)
    → media_lines m ≡ front ++ payload_lines (codes "handler") m.handler ++ flat_map (payload_lines (codes "extended language")) m.extended_languages ++ kept_lines (codes "media header") m.header ++ flat_map (kept_lines (codes "description")) m.descriptions
media_is m front e =
    rw e (sym (four_lines (number_line (codes "media creation") m.creation) (number_line (codes "media modification") m.modification) (number_line (codes "media timescale") m.timescale) (named_line (codes "language") (hex_digits 4 m.language ∷ [])) (payload_lines (codes "handler") m.handler)
    (flat_map (payload_lines (codes "extended language")) m.extended_languages) (kept_lines (codes "media header") m.header) (flat_map (kept_lines (codes "description")) m.descriptions)))
