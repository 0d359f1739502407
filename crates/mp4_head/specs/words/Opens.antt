-- What is tested of a leaf where it is opened.
use Rattle.std.specs.Prelude.{ℕ, ◌+◌, ◌*◌, nat_le, List, [], ◌∷◌, length}
use Rattle.mp4_boxes.specs.format.Layout.{version, time_width}
use Rattle.mp4_boxes.specs.declared.fault.Kind.{Kind}
use Rattle.mp4_boxes.specs.declared.fault.Kind.TheVariants.{ShortBox, BadVersion}
use Rattle.mp4_boxes.specs.format.FirstFault.{Test}

-- of versions up to `last`, with fields of so many bytes and so many times
abbrev pub open_tests : ℕ → ℕ → ℕ → List ℕ → List (Test Kind)
open_tests last fixed times payload = (nat_le 4 (length payload), ShortBox)
    ∷ (nat_le (version payload) last, BadVersion)
    ∷ (nat_le (fixed + times * time_width (version payload)) (length payload), ShortBox) ∷ []
