-- The first box of a type.
use Rattle.std.proofs.Common.{◌≡◌, ℕ, Bool, true, false, cond, List, [], ◌∷◌, refl}
use Rattle.std.specs.Prelude.{bytes_eq}
use Rattle.mp4_boxes.specs.format.Box.{Box}
use Rattle.mp4_boxes.specs.format.Children.{of_kind}
use Rattle.mp4_head.specs.format.Tree.{first_of}

first_choice : (type : List ℕ) (h c : Box) (boxes more : List Box) (v : Bool) → bytes_eq type c.kind ≡ v → cond v (c ∷ of_kind type boxes) (of_kind type boxes) ≡ h ∷ more → (of_kind type boxes ≡ h ∷ more → first_of type boxes ≡ h) → first_of type (c ∷ boxes) ≡ h
first_choice type h c boxes more true k e later = let same : c ≡ h = cc in rw k same
first_choice type h c boxes more false k e later = rw k (later e)

-- the first box of a type
pub first_kept : (type : List ℕ) (boxes : List Box) (h : Box) (more : List Box) → of_kind type boxes ≡ h ∷ more → first_of type boxes ≡ h
first_kept type [] h more e = absurd cc
first_kept type (c ∷ boxes) h more e = first_choice type h c boxes more (bytes_eq type c.kind) refl e (first_kept type boxes h more)
