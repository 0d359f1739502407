-- Lines of sums, as `sha256sum` of the GNU coreutils writes them.
use Rattle.std.specs.Prelude.{ℕ, zero, ◌+◌, ◌*◌, ◌-◌, ◌==◌, ◌&&◌, ◌||◌, not, Bool, if◌then◌else◌, nat_le, List, [], ◌∷◌, ◌++◌, bytes_eq, filter, flat_map, codes, decimal}
use Rattle.std.specs.List.{list_any}
use Rattle.mp4_content.specs.declared.without.Without.{Without}
use Rattle.mp4_answers.specs.format.LastLine.{leaving_text}
use Rattle.mp4_answers.specs.format.Text.{or_nothing}
use Rattle.mp4_answers.specs.format.Texts.{hex_text, line_feed}

-- the line that says of which normal form, and of what is left of files, the sums behind it are
abbrev pub header_text : Without → List ℕ
header_text l = codes "# mp4norm sum: normal form 1, without" ++ or_nothing (leaving_text l)
    ++ line_feed

-- the line before sums of the bytes of files that have no normal form, without its line feed
abbrev pub bytes_mark : List ℕ
bytes_mark = codes "# mp4norm sum: bytes of files without a normal form"

-- ---- names

-- the value of a hexadecimal digit
abbrev pub digit_value : ℕ → ℕ
digit_value b = if nat_le 48 b && nat_le b 57 then b - 48
    else if nat_le 97 b && nat_le b 102 then b - 87 else 0

-- the bytes of a word, in which a zero byte and two hexadecimal digits stand for a byte that is no
-- text
abbrev pub plain_name : List ℕ → List ℕ
plain_name [] = []
plain_name (zero ∷ high ∷ low ∷ more) =
    (16 * digit_value high + digit_value low) ∷ plain_name more
plain_name (byte ∷ more) = byte ∷ plain_name more

-- a name has a byte that a line of its own can't have: a line feed, a carriage return, a backslash
abbrev pub is_escaped : List ℕ → Bool
is_escaped name = list_any (λ b. (b == 10) || ((b == 13) || (b == 92))) name

abbrev pub escaped_byte : ℕ → List ℕ
escaped_byte b = if b == 10 then codes "\\n" else if b == 13 then codes "\\r"
    else if b == 92 then codes "\\\\" else b ∷ []

abbrev pub escaped_name : List ℕ → List ℕ
escaped_name name = flat_map escaped_byte name

-- a name at the front of a line that a line feed ends
abbrev pub name_text : List ℕ → List ℕ
name_text name = if is_escaped name then codes "\\" ++ escaped_name name else name

-- ---- sums

-- a sum and a name, ended by a byte; where that is none but zero, the name escaped, behind a
-- backslash at the line's front
abbrev pub sum_of_name : List ℕ → List ℕ → ℕ → List ℕ
sum_of_name name digest end = if not (end == 0) && is_escaped name
    then codes "\\" ++ hex_text digest ++ codes "  " ++ escaped_name name ++ end ∷ []
    else hex_text digest ++ codes "  " ++ name ++ end ∷ []

-- the line of a file that a word names
abbrev pub sum_text : List ℕ → List ℕ → ℕ → List ℕ
sum_text word digest end = sum_of_name (plain_name word) digest end

-- ---- names that a list has not

-- the name stands among these
abbrev pub is_listed : List (List ℕ) → List ℕ → Bool
is_listed names name = list_any (bytes_eq name) names

-- a name in a line of its own, ended by a byte; where that is none but zero, escaped
abbrev pub name_line : ℕ → List ℕ → List ℕ
name_line end name = (if end == 0 then name else name_text name) ++ end ∷ []

-- the lines of those given that do not stand among those listed, in their order
abbrev pub new_text : List (List ℕ) → ℕ → List (List ℕ) → List ℕ
new_text listed end given =
    flat_map (name_line end) (filter (λ name. not (is_listed listed name)) given)

-- ---- how many

-- of so many files so many have another sum than is listed, and so many have none
abbrev pub tally_text : ℕ → ℕ → ℕ → List ℕ
tally_text files other without = codes "sum: checked " ++ decimal files
    ++ codes ": OK " ++ decimal (files - other - without) ++ codes ", FAILED " ++ decimal other
    ++ codes ", without a sum " ++ decimal without ++ line_feed
