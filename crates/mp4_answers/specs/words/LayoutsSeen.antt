-- The layouts of the code's table as those of the definition.
use Rattle.std.specs.Prelude.{◌≤◌, List, length, map}
use Rattle.mp4_answers.specs.format.Layouts.{Field, Layout, Tail, nothing, rows, kept}
use Rattle.mp4_answers.specs.declared.layouts.LayoutField.{LayoutField}
use Rattle.mp4_answers.specs.declared.layouts.Layout.{Layout as TableLayout}
use Rattle.mp4_answers.specs.declared.layouts.Tail.{Tail as TableTail}
use Rattle.mp4_answers.specs.declared.layouts.Tail.TheVariants as tails

abbrev pub field_seen : LayoutField → Field
field_seen f = record { name = f.0.now; kind = f.1; short = f.2; long = f.3; flag = f.4 }

abbrev pub fields_seen : List LayoutField → List Field
fields_seen fields = map field_seen fields

abbrev pub tail_seen : TableTail → Tail
tail_seen tails.Nothing = nothing
tail_seen (tails.Rows count columns) = rows count (fields_seen columns.now)
tail_seen (tails.Kept name) = kept name.now

abbrev pub layout_seen : TableLayout → Layout
layout_seen l = record {
  kind = l.0.0;
  versions = l.1;
  fields = fields_seen l.2.now;
  tail = tail_seen l.3;
}

abbrev pub layouts_seen : List TableLayout → List Layout
layouts_seen all = map layout_seen all

-- so few columns that their bytes can be counted
abbrev pub HasFew : Tail → Type 0
HasFew nothing = Unit {0}
HasFew (rows count columns) = length columns ≤ 64
HasFew (kept name) = Unit {0}

-- so few fields that their bytes can be counted
abbrev pub AreFew : Layout → Type 0
AreFew l = (length l.fields ≤ 64) × HasFew l.tail
