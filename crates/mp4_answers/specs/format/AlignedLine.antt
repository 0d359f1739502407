-- The line that tells how two tracks lie beside each other, and the object of JSON that does (RFC
-- 8259): keys in order of their bytes.
use Rattle.std.specs.Prelude.{ℕ, ◌+◌, ◌*◌, ◌/◌, ◌%◌, ◌==◌, max, if◌then◌else◌, List, [], ◌∷◌, ◌++◌, codes, decimal}
use Rattle.mp4_content.specs.declared.aligning.Alignment.{Alignment}
use Rattle.mp4_content.specs.declared.aligning.Between.{Between}
use Rattle.mp4_answers.specs.format.Texts.{line_feed}

-- ---- times

abbrev pub three_digits : ℕ → List ℕ
three_digits n = (48 + n / 100) ∷ (48 + n / 10 % 10) ∷ (48 + n % 10) ∷ []

-- a time in parts of a second, in seconds, rounded down to thousandths
abbrev pub seconds_text : ℕ → ℕ → List ℕ
seconds_text time parts = codes " (" ++ decimal (time / parts) ++ codes "."
    ++ three_digits (time % parts * 1000 / parts) ++ codes " s)"

-- when the first of some samples is decoded; a file has at least one part in a second
abbrev pub time_text : Between → List ℕ
time_text b = seconds_text b.time (max 1 b.timescale)

-- ---- the line

-- one sample, or several
abbrev pub noun_text : ℕ → List ℕ
noun_text many = if many == 1 then codes " sample of " else codes " samples of "

abbrev pub not_in : ℕ → List ℕ
not_in many = if many == 1 then codes " is not in " else codes " are not in "

abbrev pub own_text : List ℕ → ℕ → List ℕ
own_text own many = decimal many ++ noun_text many ++ own

abbrev pub behind_text : List ℕ → ℕ → ℕ → List ℕ
behind_text other front many = codes " behind " ++ decimal front ++ not_in many ++ other

-- samples of the one file, where the other has none
abbrev pub only_text : List ℕ → List ℕ → ℕ → Between → List ℕ
only_text own other front b = own_text own b.samples ++ behind_text other front b.samples
    ++ time_text b

-- the numbers of so many samples behind those in front
abbrev pub numbers_text : ℕ → ℕ → List ℕ
numbers_text front many = if many == 1 then codes "sample " ++ decimal (front + 1)
    else codes "samples " ++ decimal (front + 1) ++ codes " to " ++ decimal (front + many)

-- samples of one file, where both have some
abbrev pub own_stretch : List ℕ → ℕ → Between → List ℕ
own_stretch own front b = numbers_text front b.samples ++ codes " of " ++ own ++ time_text b

-- A is the first file, B the second
abbrev pub between_text : ℕ → Between → Between → List ℕ
between_text front left right =
    if right.samples == 0 then only_text (codes "A") (codes "B") front left
    else (if left.samples == 0 then only_text (codes "B") (codes "A") front right
    else own_stretch (codes "A") front left ++ codes " | " ++ own_stretch (codes "B") front right)

abbrev pub alignment_text : Alignment → List ℕ
alignment_text a = codes "track " ++ decimal a.track ++ codes ": "
    ++ between_text a.front a.left a.right

abbrev pub alignment_line : Alignment → List ℕ
alignment_line a = alignment_text a ++ line_feed

-- ---- the object

abbrev pub time_member : Between → List ℕ
time_member b = codes "{\"decode_time\":" ++ decimal b.time ++ codes ","

abbrev pub samples_member : Between → List ℕ
samples_member b = codes "\"samples\":" ++ decimal b.samples

abbrev pub timescale_member : Between → List ℕ
timescale_member b = codes ",\"timescale\":" ++ decimal b.timescale ++ codes "}"

abbrev pub between_object : Between → List ℕ
between_object b = time_member b ++ samples_member b ++ timescale_member b

-- what stands between in both files
abbrev pub side_members : Alignment → List ℕ
side_members a = codes "{\"a\":" ++ between_object a.left ++ codes ",\"b\":"
    ++ between_object a.right

-- how many samples around it are the same
abbrev pub same_members : Alignment → List ℕ
same_members a = codes ",\"end\":" ++ decimal a.end ++ codes ",\"front\":" ++ decimal a.front

abbrev pub alignment_object : Alignment → List ℕ
alignment_object a = side_members a ++ same_members a
    ++ codes ",\"kind\":\"aligned\",\"line\":\"" ++ alignment_text a
    ++ codes "\",\"track\":" ++ decimal a.track ++ codes "}" ++ line_feed
