-- The texts of boxes: a line for each, or an object of JSON, with its fields where these are asked
-- for.
use Rattle.std.specs.Prelude.{◌≡◌, ℕ, zero, suc, ◌+◌, ◌-◌, List, ◌++◌, length, take, Option, Some, None, option_map, codes}
use Rattle.std.specs.List.{AllZip, concat}
use Rattle.serde_json.specs.Written.{compact_text}
use Rattle.mp4_boxes.specs.format.Box.{Box, Container, size, file_container, Tiles}
use Rattle.mp4_boxes.specs.format.Children.{allows}
use Rattle.mp4_boxes.specs.format.Places.{ruled, containers, at_kind}
use Rattle.mp4_boxes.specs.declared.rule.Rule.{Rule}
use Rattle.mp4_boxes.specs.declared.rule.Rule.TheVariants as rules
use Rattle.mp4_answers.specs.declared.jobs.BoxForm.{BoxForm}
use Rattle.mp4_answers.specs.declared.jobs.Syntax.{Syntax}
use Rattle.mp4_answers.specs.declared.jobs.Syntax.TheVariants as syntaxes
use Rattle.mp4_answers.specs.format.FieldTexts.{box_fields, spot_of}
use Rattle.mp4_answers.specs.format.Texts.{box_data, descends, IsPart, line_feed, line_text, type_text, uuid_of, uuid_text}

-- the object of a box
abbrev pub object_text : Rule → ℕ → Box → List ℕ
object_text rule depth b = compact_text (box_data depth (allows rule b.kind) b.offset (size b)
    (type_text b.kind) (option_map uuid_text (uuid_of b)))

-- an object without its last brace
abbrev pub opened : List ℕ → List ℕ
opened text = take (length text - 1) text

-- its fields, and at most so many of its rows
abbrev pub own_fields : Syntax → ℕ → ℕ → Box → List ℕ
own_fields syntax most depth b = box_fields (spot_of syntax (depth + 1)) most b.kind b.payload

-- the text of a box that stands in so many containers, under this rule
abbrev pub text_of_box : Syntax → Option ℕ → Rule → ℕ → Box → List ℕ
text_of_box syntaxes.Text None rule depth b = line_text depth b.kind b.offset (size b)
text_of_box syntaxes.Text (Some most) rule depth b = line_text depth b.kind b.offset (size b)
    ++ own_fields syntaxes.Text most depth b
text_of_box syntaxes.Json None rule depth b = object_text rule depth b ++ line_feed
text_of_box syntaxes.Json (Some most) rule depth b = opened (object_text rule depth b)
    ++ own_fields syntaxes.Json most depth b ++ codes "}\n"

abbrev pub box_line : BoxForm → Rule → ℕ → Box → List ℕ
box_line form rule depth b = text_of_box form.syntax form.rows rule depth b

-- The lines of a container's boxes. Containers nest no deeper than `levels`.
abbrev pub AreBoxLines : BoxForm → ℕ → ℕ → Rule → Container → List ℕ → Type 0
AreBoxLines form zero depth rule c text = ⊥
AreBoxLines form (suc levels) depth rule c text =
    (boxes : List Box) × Tiles c boxes × (parts : List (List ℕ))
    × AllZip (λ (b : Box) part.
    IsPart (AreBoxLines form levels (depth + 1)) (box_line form rule depth b)
    (descends (at_kind (containers (ruled rule)) b.kind)) b part) boxes parts
    × (text ≡ concat parts)

-- those of all boxes of a file
abbrev pub FormLines : BoxForm → List ℕ → List ℕ → Type 0
FormLines form file text = AreBoxLines form 6 0 rules.File (file_container file) text

abbrev pub without_fields : Syntax → BoxForm
without_fields syntax = record { syntax = syntax; rows = None }

abbrev pub with_fields : Syntax → ℕ → BoxForm
with_fields syntax most = record { syntax = syntax; rows = Some most }

abbrev pub BoxLines : Syntax → List ℕ → List ℕ → Type 0
BoxLines syntax file text = FormLines (without_fields syntax) file text

-- the same with the fields of each box, and at most so many of its rows
abbrev pub FieldLines : Syntax → ℕ → List ℕ → List ℕ → Type 0
FieldLines syntax most file text = FormLines (with_fields syntax most) file text
