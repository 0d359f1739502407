-- The boxes of an `edts`, one after the other.
use Rattle.std.proofs.Common.{◌≡◌, true, false, List, [], ◌∷◌, Some, refl, sym, ap, subst, ◌∙◌}
use Rattle.std.specs.Prelude.{codes, bytes_eq}
use Rattle.mp4_boxes.specs.format.Box.{Box, box_container}
use Rattle.mp4_boxes.specs.format.Children.{Holds, payload_if}
use Rattle.mp4_boxes.specs.format.Layout.{elst, IsSound}
use Rattle.mp4_boxes.specs.format.Places.{ruled, AreSound}
use Rattle.mp4_boxes.specs.declared.rule.Rule.TheVariants as rules
use Rattle.mp4_boxes.proofs.Refusing.{holds_few}
use Rattle.mp4_head.specs.format.Head as heads
use Rattle.mp4_head.specs.format.Tree.{edits_of}
use Rattle.mp4_head.specs.words.Containers.{SaysEdits}
use Rattle.mp4_head.proofs.Walks.{Walk, walk_none, walk_more, walk_here, walk_all, none_before, payload_other, payload_this, sound_more}

-- what was read of the boxes that were passed
pub record EditsPassed (all left : List Box) (edits : List heads.Edit) : Type 0 where
  pub walk : Walk all left
  pub sound : AreSound (ruled rules.Edits) walk.passed
  pub says : edits ≡ edits_of (payload_if (codes "elst") walk.passed)

-- none was passed
pub edits_none : (all : List Box) → EditsPassed all all []
edits_none all = record { walk = walk_none all; sound = tt; says = refl }

-- an `elst` was read
pub edits_this : (b : Box) (all left later : List Box) (child : Box) (edits read : List heads.Edit) → Holds rules.Edits (box_container b) all → EditsPassed all left edits → left ≡ child ∷ later
    → bytes_eq (codes "elst") child.kind ≡ true → IsSound elst child.payload → read ≡ edits_of (Some child.payload) → EditsPassed all later read
edits_this b all left later child edits read h p e k s r =
    let none = none_before (codes "elst") all p.walk.passed later child (walk_here all left later child p.walk e) (holds_few h (codes "elst") refl) k in
    record {
      walk = walk_more all left later child p.walk e;
      sound = sound_more (ruled rules.Edits) p.walk.passed child p.sound (rw k s);
      says = r ∙ ap edits_of (sym (payload_this (codes "elst") p.walk.passed child k none));
    }

-- another box was passed
pub edits_other : (all left later : List Box) (child : Box) (edits : List heads.Edit) → EditsPassed all left edits → left ≡ child ∷ later → bytes_eq (codes "elst") child.kind ≡ false → EditsPassed all later edits
edits_other all left later child edits p e k = record {
  walk = walk_more all left later child p.walk e;
  sound = sound_more (ruled rules.Edits) p.walk.passed child p.sound (rw k tt);
  says = p.says ∙ ap edits_of (sym (payload_other (codes "elst") p.walk.passed child k));
}

-- all were
pub edits_all : (b : Box) (all left : List Box) (edits : List heads.Edit) → Holds rules.Edits (box_container b) all → EditsPassed all left edits → left ≡ [] → SaysEdits b edits
edits_all b all left edits h p e =
    let same = walk_all all left p.walk e in
    record {
      boxes = all;
      holds = h;
      sound = subst (λ (bs : List Box). AreSound (ruled rules.Edits) bs) (sym same) p.sound;
      says = p.says ∙ ap (λ (bs : List Box). edits_of (payload_if (codes "elst") bs)) (sym same);
    }
