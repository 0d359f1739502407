-- The text of a presentation, for files under version control: what it says, a line for each value.
-- Lines of what stands within a heading begin with a space.
use Rattle.std.specs.Prelude.{ℕ, zero, suc, ◌+◌, ◌/◌, nat_le, nat_lt, ◌==◌, ◌&&◌, Bool, not, if◌then◌else◌, List, [], ◌∷◌, ◌++◌, length, take, drop, map, flat_map, Option, Some, None, codes, decimal}
use Rattle.std.specs.Fmt.{signed_decimal}
use Rattle.std.specs.List.{list_all}
use Rattle.sha2.specs.Sha256.{sha256}
use Rattle.mp4_tables.specs.format.Groups.{GroupKey}
use Rattle.mp4_head.specs.format.Head.{Edit, Kept, Media, TrackHead, MovieHead}
use Rattle.mp4_present.specs.format.Presentation.{Sample, Track, Presentation}
use Rattle.mp4_content.specs.format.LeadIns.{left_of}
use Rattle.mp4_content.specs.declared.without.Without.{Without}
use Rattle.mp4_answers.specs.format.Texts.{hex_digits, hex_text, space, line_feed}
use Rattle.mp4_answers.specs.format.LastLine.{leaving_text}

-- ---- values

-- a name, and the words that are said of it
abbrev pub named_line : List ℕ → List (List ℕ) → List ℕ
named_line name words = space ++ name ++ codes ":"
    ++ flat_map (λ (word : List ℕ). space ++ word) words ++ line_feed

abbrev pub number_line : List ℕ → ℕ → List ℕ
number_line name n = named_line name (decimal n ∷ [])

-- four characters that are printable, and no space or backslash; else digits behind a backslash
abbrev pub is_plain_type : List ℕ → Bool
is_plain_type kind = list_all (λ b. nat_lt 32 b && (nat_lt b 127 && not (b == 92))) kind

abbrev pub spelled_type : List ℕ → List ℕ
spelled_type kind = if is_plain_type kind then kind else 92 ∷ hex_text kind

-- ---- bytes

-- the most bytes that are spelled; of a longer payload the digest stands there
abbrev pub most_spelled : ℕ
most_spelled = 4096

-- a printable character as it is, else a dot
abbrev pub shown_byte : ℕ → ℕ
shown_byte b = if nat_le 32 b && nat_le b 126 then b else 46

abbrev pub dump_line : List ℕ → List ℕ
dump_line bytes = codes "  " ++ hex_text bytes ++ codes " |" ++ map shown_byte bytes ++ codes "|\n"

-- so many lines, of sixteen bytes each
abbrev pub dump_lines : ℕ → List ℕ → List ℕ
dump_lines zero bytes = []
dump_lines (suc n) bytes = dump_line (take 16 bytes) ++ dump_lines n (drop 16 bytes)

-- a payload under a name
abbrev pub payload_lines : List ℕ → List ℕ → List ℕ
payload_lines name bytes = space ++ name ++ codes ": " ++ decimal (length bytes) ++ codes " bytes"
    ++ (if nat_le (length bytes) most_spelled
    then line_feed ++ dump_lines ((length bytes + 15) / 16) bytes
    else codes ", SHA-256 " ++ hex_text (sha256 bytes) ++ line_feed)

-- a box, its type behind what it is
abbrev pub kept_lines : List ℕ → Kept → List ℕ
kept_lines name k = payload_lines (name ++ space ++ spelled_type k.kind) k.payload

-- ---- heads

abbrev pub edit_words : Edit → List (List ℕ)
edit_words e = decimal e.segment_duration ∷ signed_decimal e.media_time
    ∷ signed_decimal e.rate_integer ∷ signed_decimal e.rate_fraction ∷ []

abbrev pub edit_line : Edit → List ℕ
edit_line e = named_line (codes "edit") (edit_words e)

abbrev pub movie_lines : MovieHead → List ℕ
movie_lines m = codes "movie\n"
    ++ number_line (codes "creation") m.creation
    ++ number_line (codes "modification") m.modification
    ++ number_line (codes "timescale") m.timescale
    ++ named_line (codes "rate") (signed_decimal m.rate ∷ [])
    ++ named_line (codes "volume") (signed_decimal m.volume ∷ [])
    ++ named_line (codes "matrix") (map signed_decimal m.matrix)
    ++ flat_map (kept_lines (codes "kept")) m.kept

abbrev pub track_lines : TrackHead → List ℕ
track_lines t = codes "track " ++ decimal t.id ++ line_feed
    ++ named_line (codes "flags") (hex_digits 6 t.flags ∷ [])
    ++ number_line (codes "creation") t.creation
    ++ number_line (codes "modification") t.modification
    ++ named_line (codes "layer") (signed_decimal t.layer ∷ [])
    ++ named_line (codes "alternate_group") (signed_decimal t.alternate_group ∷ [])
    ++ named_line (codes "volume") (signed_decimal t.volume ∷ [])
    ++ named_line (codes "matrix") (map signed_decimal t.matrix)
    ++ number_line (codes "width") t.width
    ++ number_line (codes "height") t.height
    ++ flat_map edit_line t.edits
    ++ flat_map (kept_lines (codes "kept")) t.kept

abbrev pub media_lines : Media → List ℕ
media_lines m = number_line (codes "media creation") m.creation
    ++ number_line (codes "media modification") m.modification
    ++ number_line (codes "media timescale") m.timescale
    ++ named_line (codes "language") (hex_digits 4 m.language ∷ [])
    ++ payload_lines (codes "handler") m.handler
    ++ flat_map (payload_lines (codes "extended language")) m.extended_languages
    ++ kept_lines (codes "media header") m.header
    ++ flat_map (kept_lines (codes "description")) m.descriptions

abbrev pub head_lines : TrackHead → List ℕ
head_lines t = track_lines t ++ media_lines t.media
    ++ flat_map (payload_lines (codes "group description")) t.group_descriptions

-- ---- samples

abbrev pub parameter_text : Option ℕ → List ℕ
parameter_text None = []
parameter_text (Some n) = codes "/" ++ decimal n

-- an index at a key
abbrev pub group_text : GroupKey × ℕ → List ℕ
group_text group = space ++ spelled_type group.0.kind ++ parameter_text group.0.parameter
    ++ codes "=" ++ decimal group.1

abbrev pub sample_text : Sample → List ℕ
sample_text s = space ++ decimal s.duration ++ space ++ signed_decimal s.offset ++ space
    ++ hex_digits 8 s.flags ++ space ++ decimal s.description ++ space ++ decimal (length s.bytes)
    ++ space ++ hex_text (sha256 s.bytes) ++ flat_map group_text s.groups ++ line_feed

abbrev pub samples_heading : ℕ → List ℕ
samples_heading id = codes "samples of track " ++ decimal id
    ++ codes ": duration, offset, flags, description, size, SHA-256, groups\n"

-- ---- the text

abbrev pub track_text : Track → List ℕ
track_text t = head_lines t.head ++ number_line (codes "start") t.start
    ++ samples_heading t.head.id ++ flat_map sample_text t.samples

abbrev pub or_nothing : List ℕ → List ℕ
or_nothing [] = codes " nothing"
or_nothing (b ∷ words) = b ∷ words

-- the number of the form, and what is left out
abbrev pub front_lines : Without → List ℕ
front_lines l = codes "MP4 presentation, form 1\nwithout:" ++ or_nothing (leaving_text l)
    ++ line_feed

abbrev pub text_of : Presentation → List ℕ
text_of p = movie_lines p.movie ++ flat_map track_text p.tracks ++ codes "end\n"

-- what is left of a presentation, as text
abbrev pub text : Without → Presentation → List ℕ
text l p = front_lines l ++ text_of (left_of l p)
