-- The texts that the commands write.
use Rattle.std.specs.Prelude.{◌≡◌, ℕ, ◌+◌, ◌*◌, nat_le, Bool, true, false, ◌&&◌, if◌then◌else◌, bytes_eq, List, [], ◌∷◌, ◌++◌, length, take, drop, map, flat_map, replicate, Option, Some, None, ℤ, pos, ◌+ℤ◌, codes, decimal}
use Rattle.std.specs.Fmt.{signed_decimal}
use Rattle.serde_json.specs.Data.{unsigned, Data, boolean, number, string, array, object, Members, no_members, member}
use Rattle.serde_json.specs.Find.{of_integer}
use Rattle.serde_json.specs.View.{items_of}
use Rattle.serde_json.specs.Written.{compact_text}
use Rattle.mp4_boxes.specs.format.Box.{Box, Container, size, box_container}
use Rattle.mp4_boxes.specs.format.Places.{Scope, ruled}
use Rattle.mp4_boxes.specs.declared.rule.Rule.{Rule}
pub use Rattle.mp4_boxes.specs.format.FaultTexts.{hex_digit, hex_digits, type_text, kind_text, fault_line}
use Rattle.mp4_boxes.specs.declared.refusal.Refusal.{Refusal}
use Rattle.mp4_boxes.specs.declared.refusal.Refusal.TheVariants as refusals
use Rattle.mp4_tables.specs.declared.sample.SampleAt.{SampleAt}
use Rattle.mp4_head.specs.format.Head.{Edit, Kept, TrackHead, handler_type}
use Rattle.mp4_present.specs.format.Presentation.{Sample, Track, Presentation, total_duration, movie_length}
use Rattle.mp4_answers.specs.declared.jobs.Form.{Form}
use Rattle.mp4_answers.specs.declared.jobs.Form.TheVariants as forms

abbrev pub line_feed : List ℕ
line_feed = 10 ∷ []

abbrev pub space : List ℕ
space = 32 ∷ []

-- the status that the program ends with
abbrev pub status_of : Refusal → ℕ
status_of (refusals.Fault f) = 1
status_of refusals.Memory = 2
status_of refusals.StoreFailed = 3
status_of refusals.StoreChanged = 3
status_of refusals.WriteFailed = 3
status_of refusals.NoSuchTrack = 4

-- ---- JSON

abbrev pub nat_value : ℕ → Data
nat_value n = number (unsigned n)

abbrev pub int_value : ℤ → Data
int_value z = number (of_integer z)

abbrev pub members : List (List ℕ × Data) → Members
members [] = no_members
members (m ∷ ms) = member m.0 m.1 (members ms)

-- ---- samples

-- where a sample lies: the place of its first byte in the file, and the number of its `moof` among
-- those of the file, from 1; 0 for a sample of the tables (ISO/IEC 14496-12, 8.8.4)
pub record Spot : Type 0 where
  pub at : ℕ
  pub fragment : ℕ

-- number, decode time, composition time, duration, flags, description index, size
abbrev pub fields_line : ℕ → ℕ → ℤ → ℕ → ℕ → ℕ → ℕ → List ℕ
fields_line i time offset duration flags description size =
    decimal i ++ space ++ decimal time ++ space ++ signed_decimal (pos time +ℤ offset) ++ space
    ++ decimal duration ++ space
    ++ hex_digits 8 flags ++ space ++ decimal description ++ space ++ decimal size ++ line_feed

-- the same and where it lies as one value; keys in order of their bytes
abbrev pub fields_value : ℕ → ℕ → ℤ → ℕ → ℕ → ℕ → ℕ → Spot → Data
fields_value i time offset duration flags description size spot = object (members (
    (codes "at", nat_value spot.at)
    ∷ (codes "composition_time", int_value (pos time +ℤ offset))
    ∷ (codes "decode_time", nat_value time)
    ∷ (codes "description", nat_value description)
    ∷ (codes "duration", nat_value duration)
    ∷ (codes "flags", nat_value flags)
    ∷ (codes "fragment", nat_value spot.fragment)
    ∷ (codes "number", nat_value i)
    ∷ (codes "size", nat_value size)
    ∷ []))

-- the line of such fields in a form
abbrev pub form_line : Form → ℕ → ℕ → ℤ → ℕ → ℕ → ℕ → ℕ → Spot → List ℕ
form_line forms.Plain i time offset duration flags description size spot =
    fields_line i time offset duration flags description size
form_line forms.Named i time offset duration flags description size spot =
    fields_line i time offset duration flags description size
form_line forms.Json i time offset duration flags description size spot =
    compact_text (fields_value i time offset duration flags description size spot) ++ line_feed

-- what stands before the lines: the names of the columns, where these are asked for
abbrev pub listing_head : Form → List ℕ
listing_head forms.Plain = []
listing_head forms.Named =
    codes "number decode_time composition_time duration flags description size" ++ line_feed
listing_head forms.Json = []

-- the line of a sample with this number and decode time, which lies there
abbrev pub sample_line : Form → ℕ → ℕ → Sample → Spot → List ℕ
sample_line form i time s spot =
    form_line form i time s.offset s.duration s.flags s.description (length s.bytes) spot

-- places and numbers together, as many as there are of both
abbrev pub spots : List ℕ → List ℕ → List Spot
spots (at ∷ ats) (fragment ∷ fragments) =
    record { at = at; fragment = fragment } ∷ spots ats fragments
spots _ _ = []

-- the first of some, of which there is one for each sample
abbrev pub first_spot : List Spot → Spot
first_spot [] = record { at = 0; fragment = 0 }
first_spot (spot ∷ more) = spot

abbrev pub sample_lines_from : Form → ℕ → ℕ → List Sample → List Spot → List ℕ
sample_lines_from form i time [] spots = []
sample_lines_from form i time (s ∷ samples) spots = sample_line form i time s (first_spot spots)
    ++ sample_lines_from form (i + 1) (time + s.duration) samples (drop 1 spots)

-- a line for each sample of a track, which lie there
abbrev pub sample_lines : Form → Track → List Spot → List ℕ
sample_lines form t spots = sample_lines_from form 1 t.start t.samples spots

-- all that is listed of a track
abbrev pub sample_listing : Form → Track → List Spot → List ℕ
sample_listing form t spots = listing_head form ++ sample_lines form t spots

-- the line of a sample that is handed out with its decode time, in a `moof` with this number
abbrev pub sample_at_line : Form → ℕ → ℕ → SampleAt → List ℕ
sample_at_line form i fragment s =
    form_line form i s.dts s.cto s.duration s.flags s.description s.size
    (record { at = s.at; fragment = fragment })

-- the lines of such samples, numbered on, of one `moof`
abbrev pub sample_at_lines : Form → ℕ → ℕ → List SampleAt → List ℕ
sample_at_lines form i fragment [] = []
sample_at_lines form i fragment (s ∷ samples) = sample_at_line form i fragment s
    ++ sample_at_lines form (i + 1) fragment samples

-- the same of samples of `moof`s with these numbers
abbrev pub first_number : List ℕ → ℕ
first_number [] = 0
first_number (n ∷ more) = n

abbrev pub lines_in_fragments : Form → ℕ → List ℕ → List SampleAt → List ℕ
lines_in_fragments form i fragments [] = []
lines_in_fragments form i fragments (s ∷ samples) =
    sample_at_line form i (first_number fragments) s
    ++ lines_in_fragments form (i + 1) (drop 1 fragments) samples

-- a track's sample bytes, one after the other
abbrev pub sample_data : Track → List ℕ
sample_data t = flat_map (λ (s : Sample). s.bytes) t.samples

-- ---- boxes

-- a box's text: two spaces for each container that it stands in, its type, its place, its size
abbrev pub line_text : ℕ → List ℕ → ℕ → ℕ → List ℕ
line_text depth kind offset length = replicate (2 * depth) 32 ++ type_text kind ++ space
    ++ decimal offset ++ space ++ decimal length ++ line_feed

-- two digits for each byte
abbrev pub hex_text : List ℕ → List ℕ
hex_text bytes = flat_map (hex_digits 2) bytes

-- sixteen bytes as a UUID (RFC 9562, 4)
abbrev pub uuid_text : List ℕ → List ℕ
uuid_text bytes = hex_text (take 4 bytes) ++ codes "-" ++ hex_text (take 2 (drop 4 bytes))
    ++ codes "-" ++ hex_text (take 2 (drop 6 bytes)) ++ codes "-"
    ++ hex_text (take 2 (drop 8 bytes)) ++ codes "-" ++ hex_text (take 6 (drop 10 bytes))

-- the UUID of a `uuid` whose payload has room for it (ISO/IEC 14496-12, 4.2)
abbrev pub uuid_in : List ℕ → List ℕ → Option (List ℕ)
uuid_in kind payload = if bytes_eq kind (codes "uuid") && nat_le 16 (length payload)
    then Some (take 16 payload) else None

abbrev pub uuid_of : Box → Option (List ℕ)
uuid_of b = uuid_in b.kind b.payload

abbrev pub foreign_member : Bool → List (List ℕ × Data)
foreign_member true = []
foreign_member false = (codes "foreign", boolean true) ∷ []

abbrev pub uuid_member : Option (List ℕ) → List (List ℕ × Data)
uuid_member None = []
uuid_member (Some text) = (codes "uuid", string text) ∷ []

-- a box as JSON: in how many containers it stands, that the profile refuses it there, its place,
-- its size, its type, its UUID, the last two as texts; keys in order of their bytes
abbrev pub box_data : ℕ → Bool → ℕ → ℕ → List ℕ → Option (List ℕ) → Data
box_data depth allowed offset length kind uuid = object (members (
    (codes "depth", nat_value depth) ∷ foreign_member allowed
    ++ (codes "offset", nat_value offset)
    ∷ (codes "size", nat_value length)
    ∷ (codes "type", string kind)
    ∷ uuid_member uuid))

-- containers of boxes are descended into, and no others
abbrev pub descends : Option Scope → Option Rule
descends (Some (ruled rule)) = Some rule
descends _ = None

-- the lines of a box: its own, then those of the boxes in it, if it is a container of boxes
abbrev pub IsPart : (Rule → Container → List ℕ → Type 0) → List ℕ → Option Rule → Box → List ℕ
    → Type 0
IsPart inside line None b part = part ≡ line
IsPart inside line (Some rule) b part = (more : List ℕ) × inside rule (box_container b) more
    × (part ≡ line ++ more)

-- ---- a movie as JSON

abbrev pub edit_data : Edit → Data
edit_data e =
    array (items_of (nat_value e.segment_duration ∷ int_value e.media_time
    ∷ int_value e.rate_integer ∷ int_value e.rate_fraction ∷ []))

abbrev pub description_value : Kept → Data
description_value k = string (type_text k.kind)

-- a track by its head and the numbers of its sample bytes, duration, samples, start; keys in order
-- of their bytes
abbrev pub track_data : TrackHead → ℕ → ℕ → ℕ → ℕ → Data
track_data head bytes duration samples start = object (members (
    (codes "bytes", nat_value bytes)
    ∷ (codes "descriptions", array (items_of (map description_value head.media.descriptions)))
    ∷ (codes "duration", nat_value duration)
    ∷ (codes "edits", array (items_of (map edit_data head.edits)))
    ∷ (codes "handler", string (type_text (handler_type head.media.handler)))
    ∷ (codes "id", nat_value head.id)
    ∷ (codes "samples", nat_value samples)
    ∷ (codes "start", nat_value start)
    ∷ (codes "timescale", nat_value head.media.timescale)
    ∷ []))

abbrev pub shown_track : Track → Data
shown_track t = track_data t.head (length (sample_data t)) (total_duration t.samples)
    (length t.samples) t.start

-- a movie by its length, its timescale and its tracks; keys in order of their bytes
abbrev pub movie_data : ℕ → ℕ → List Data → Data
movie_data length timescale tracks = object (members (
    (codes "mehd", nat_value length)
    ∷ (codes "timescale", nat_value timescale)
    ∷ (codes "tracks", array (items_of tracks))
    ∷ []))

-- what is shown of a presentation
abbrev pub show_value : Presentation → Data
show_value p = movie_data (movie_length p) p.movie.timescale (map shown_track p.tracks)
