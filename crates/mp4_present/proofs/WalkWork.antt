-- The steps of a check of a `moof`, and of the way to a place in it.
use Rattle.std.proofs.Common.{◌≡◌, ℕ, ◌+◌, ◌≤◌, List, subst, arith}
use Rattle.mp4_boxes.specs.format.Box.{Box}
use Rattle.mp4_frag.specs.format.FragmentRows.{fragment_rows, fragment_length, moof_says}
use Rattle.mp4_frag.specs.declared.state.TrackState.{TrackState}
use Rattle.mp4_frag.proofs.WalkBound.{length_taken}
use Rattle.mp4_frag.specs.words.OwnTrafs.{traf_steps}
use Rattle.mp4_present.specs.words.WalkSteps.{moof_steps}
use Rattle.mp4_frag.specs.words.Judged.{AreMovedOn}
use Rattle.mp4_boxes.specs.format.Children.{of_kind}
use Rattle.mp4_frag.specs.words.RunsJudged.{children_of}
use Rattle.std.specs.Prelude.{pos, codes}

-- the tracks are moved on by all `traf`s of the `moof`
abbrev pub MovedBy : Box → List TrackState → List TrackState → ℕ → ℕ → Type 0
MovedBy view old new room less = AreMovedOn view.offset (pos view.offset) (of_kind (codes "traf") (children_of view)) old new room less

-- a check takes as many steps as the boxes say
pub checked_all : (old new : List TrackState) (room less before after : ℕ) (view box : Box) → view ≡ box → MovedBy view old new room less → after + less ≡ before + room + fragment_rows (moof_says view) → after ≡ before + moof_steps box
unfolding moof_steps
checked_all old new room less before after view box e m cost =
    let taken = length_taken old new view room less m in
    subst (λ (b : Box). after ≡ before + (fragment_rows (moof_says b) + fragment_length (moof_says b))) e (omega (arith, taken, cost))

-- nor is a place in a `traf` farther than the way through it
pub place_within : (traf : Box) (payload : List ℕ) (n : ℕ) → payload ≡ traf.payload → ((b : Box) → payload ≡ b.payload → n ≤ traf_steps b) → n ≤ traf_steps traf
place_within traf payload n e said = said traf e
